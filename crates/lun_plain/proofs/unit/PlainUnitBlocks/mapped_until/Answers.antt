use Rattle.std.proofs.Common.{◌≡◌, ℕ, ◌<◌, ◌≤◌, ap, ◌∙◌}
use Rattle.std.specs.Prelude.{Option, Some, None, is_some, IfSome, IfNone, List}
use Rattle.std.specs.Option.{unwrap_or}
use Rattle.lun_plain.specs.Plain.{stored}
use Rattle.lun_plain.proofs.unit.PlainUnitBlocks.mapped_until.Goals as goal

-- up to the first block that is stored none is
unstored : (entries : List (ℕ × List ℕ)) (from to : ℕ) (first : Option ℕ)
    → IfSome first (λ block. (b : ℕ) → from ≤ b → b < block → stored entries b ≡ None)
    → IfNone first ((b : ℕ) → from ≤ b → b < to → stored entries b ≡ None)
    → (b : ℕ) → from ≤ b → b < unwrap_or first to → stored entries b ≡ None
unstored entries from to None before none = none
unstored entries from to (Some block) before none = before

pub returns-else-contains_key-clause-alike : goal.returns-else-contains_key-clause-alike
returns-else-contains_key-clause-alike c =
    let gone = unstored c.self.inside.held.entries c.args.block c.self.inside.blocks c.first_of.result c.first_of.ensures.before c.first_of.ensures.none in
    rw (← c.self.view_is)
    (λ b low high. ap is_some (gone b low (rw (← c.unwrap_or.ensures) high)) ∙ c.if-contains_key.ensures)
