use Rattle.std.proofs.Common.{◌≡◌, ◌+◌, ◌≤◌, arith, refl, true, []}
use Rattle.std.proofs.lemmas.Bool.Decides.{nat_tests}
use Rattle.std.specs.Prelude.{nat_le}
use Rattle.lba_ranges.proofs.PublicLaws.{overlapping-cons}
use Rattle.unit_core.proofs.block_plans.write.Goals as goal

pub exceeds_quota-requires-clause-apart : goal.exceeds_quota-requires-clause-apart
exceeds_quota-requires-clause-apart g c = rw c.in_ok-ranges.ensures (overlapping-cons (record { lba = c.args.lba; count = c.blocks-count.result }) [])

pub returns-clause-may : goal.returns-clause-may
returns-clause-may g c =
    let fits : c.args.lba + c.blocks-count.result ≤ c.args.unit.blocks = omega arith in
    let test : nat_le (c.args.lba + c.blocks-count.result) c.args.unit.blocks ≡ true = grind (arith, nat_tests) in
    rw c.in_ok-ranges.ensures (record {
      within = rw test refl;
      apart = overlapping-cons (record { lba = c.args.lba; count = c.blocks-count.result }) [];
      total = omega arith;
      alike = c.requires.size;
    })
