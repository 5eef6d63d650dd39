-- The trace that is checked, played where memory is never refused
use Rattle.std.specs.Prelude.{ℕ, List, [], drop}
use Rattle.cm_base.specs.Configuration.{Configuration}
use Rattle.cm_base.specs.declared.parsed.Parsed.{Parsed}
use Rattle.cm_base.specs.declared.parsed.Parsed.TheVariants.{Whole, Short, Bad}
use Rattle.cm_frame.specs.Reading.{read_header}
use Rattle.cmd_program.specs.Stepping.{Stepping}
use Rattle.trace_replay.specs.Items.{Torn, BadHeader}
use Rattle.trace_replay.specs.ReplayState.{at_first}
use Rattle.trace_replay.specs.Played.{Played, played_from, never_began}

-- the items that a checked trace may have
abbrev pub checked_items : ℕ
checked_items = 65_536

-- the items behind a whole header; a header that is torn or bad is the end
abbrev pub checked_after : Stepping → Parsed Configuration → List ℕ → Played
checked_after step (Whole config used) bytes = played_from step config at_first checked_items used (drop used bytes) []
checked_after step Short bytes = never_began (Torn 0)
checked_after step (Bad place) bytes = never_began (BadHeader place)

-- a header, and then items
abbrev pub checked_trace : Stepping → List ℕ → Played
checked_trace step bytes = checked_after step (read_header bytes) bytes
