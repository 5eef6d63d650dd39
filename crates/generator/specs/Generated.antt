-- A generated trace of some rounds
use Rattle.std.specs.Prelude.{ℕ, List, ◌++◌, flat_map}
use Rattle.cm_frame.specs.declared.item.TraceItem.{TraceItem}
use Rattle.cm_frame.specs.Grammar.{header_bytes, item_bytes}
use Rattle.generator.specs.Settings.{count_from, settings}
use Rattle.generator.specs.Rounds.{round_items}

-- the items of the rounds 0, 1, 2 and so on
abbrev pub items : ℕ → List TraceItem
items rounds = flat_map round_items (count_from 0 rounds)

-- the header, and the items one after another
abbrev pub generated : ℕ → List ℕ
generated rounds = header_bytes settings ++ flat_map item_bytes (items rounds)
