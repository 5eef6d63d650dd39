use Rattle.std.proofs.Common.{◌≡◌, ap, ◌∙◌}
use Rattle.cm_history.specs.Legal.{may_ask}
use Rattle.world_bench.proofs.threads.ask.Goals as goal

pub act-requires-clause-asked : goal.act-requires-clause-asked
act-requires-clause-asked g c = ap (λ a. may_ask c.args.unit a c.args.act) c.requires.pass.actor ∙ c.requires.act c.args.unit c.args.number
