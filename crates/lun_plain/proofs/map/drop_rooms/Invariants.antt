use Rattle.std.proofs.Common.{◌≡◌, ℕ, take, cond}
use Rattle.lun_plain.specs.Plain.{stored}
use Rattle.lun_plain.specs.inner.Plain.{seen, is_among}
use Rattle.lun_plain.proofs.map.drop_rooms.Given as goal

abbrev pub invariant-loop-block : goal.invariant-loop-block
invariant-loop-block l =
    (b : ℕ) → stored l.map.entries b ≡ cond (is_among b (take l.block-index l.blocks)) (seen (stored l.initial.map.entries b)) (stored l.initial.map.entries b)
