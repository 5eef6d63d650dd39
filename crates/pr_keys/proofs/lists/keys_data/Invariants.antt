use Rattle.std.proofs.Common.{◌≡◌, ◌++◌, ◌*◌, length, take}
use Rattle.std.specs.Prelude.{flat_map}
use Rattle.byteorder.specs.Endian.{big_bytes}
use Rattle.pr_keys.proofs.lists.keys_data.Given as goal

abbrev pub invariant-loop-key : goal.invariant-loop-key
invariant-loop-key l =
    l.bytes ≡ big_bytes 4 l.generation ++ big_bytes 4 (8 * length l.keys) ++ flat_map (big_bytes 8) (take l.key-index l.key-items)
