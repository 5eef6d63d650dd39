use Rattle.std.proofs.Common.{◌≡◌, ◌++◌, take, length}
use Rattle.std.specs.Prelude.{flat_map}
use Rattle.byteorder.specs.Endian.{big_bytes}
use Rattle.cm_frame.specs.Grammar.{header_text, unit_bytes}
use Rattle.cm_frame.proofs.header.write_header.Given as goal

abbrev pub invariant-loop-unit : goal.invariant-loop-unit
invariant-loop-unit l =
    l.bytes ≡ header_text ++ l.config.secret ++ big_bytes 2 (length l.config.units) ++ flat_map unit_bytes (take l.unit l.config.units)
