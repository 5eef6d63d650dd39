use Rattle.std.proofs.Common.{◌≡◌, ◌≤◌, ◌∙◌, sym, arith, false}
use Rattle.std.specs.Prelude.{nat_lt}
use Rattle.std.proofs.lemmas.Bool.Decides.{nat_tests}
use Rattle.plain_model.proofs.Amounts.{few-mapped}
use Rattle.plain_model.proofs.deeds.PlainPast.maps_beyond.Goals as goal

pub returns-else-saturating_add-quota : goal.returns-else-saturating_add-quota
returns-else-saturating_add-quota c =
    let low : c.saturating_add.result ≤ c.args.quota = omega (arith, c.if-saturating_add-quota.false) in
    let none : nat_lt c.args.quota c.saturating_add.result ≡ false = grind (arith, nat_tests) in
    none ∙ sym (few-mapped c.args.quota c.args.blocks c.args.self.now c.args.more.now
    (omega (arith, low, c.saturating_add.ensures, c.mappings.ensures, c.mapping.ensures)) (omega (arith, c.ranges.blocks.fits)))
