use Rattle.std.proofs.Common.{◌≡◌, ℕ, ◌+◌, length, take}
use Rattle.lba_ranges.specs.Writings.{paired, after}
use Rattle.lun_plain.specs.Plain.{stored}
use Rattle.lun_plain.proofs.map.set_all.Given as goal

abbrev pub invariant-loop-item : goal.invariant-loop-item
invariant-loop-item l =
    (goal.iterator-loop-item).can_next l.item-iterator
    × (goal.iterator-loop-item).is_finite l.item-iterator
    × (l.place ≡ length l.yielded)
    × (length l.yielded + length l.item-iterator.rest.items ≡ length l.fn.items.items)
    × ((b : ℕ) → stored l.map.entries b ≡ after (paired (take l.place l.blocks) l.yielded) b (stored l.initial.map.entries b))
