use Rattle.std.proofs.Common.{◌∙◌}
use Rattle.lun_extents.specs.Extents.{stored}
use Rattle.lun_extents.proofs.Splits.{not_at}
use Rattle.lun_extents.proofs.Nearest.{changed-one, from-start}
use Rattle.lun_extents.proofs.map.split.Goals as goal

pub returns-in_ok-insert-clause-held : goal.returns-in_ok-insert-clause-held
returns-in_ok-insert-clause-held c =
    λ b.
    let updates = c.in_ok-insert.ensures.updates in
    changed-one c.args.size (stored c.args.map.now.entries) (stored c.insert.new.self.entries) c.args.block
    (λ j other. updates.2 j (not_at c.args.block j other))
    (λ i. from-start c.args.size (stored c.insert.new.self.entries) c.args.block c.in_ok-rest.rest i updates.1 ∙ c.in_ok-rest.ensures.held i) b 0
