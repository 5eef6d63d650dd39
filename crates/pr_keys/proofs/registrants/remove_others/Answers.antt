use Rattle.std.proofs.Common.{rules, tests}
use Rattle.std.proofs.lemmas.Fn.{filter_same}
use Rattle.pr_keys.specs.Actions.{stays}
use Rattle.pr_keys.proofs.registrants.remove_others.Goals as goal

pub returns-clause-rest : goal.returns-clause-rest
returns-clause-rest c = filter_same _ (stays c.args.nexus c.args.key) _ (λ x b q k. search (rules, tests)) _ _ c.retain.ensures.filtered
