-- The items of a trace, and how its bytes end
use Rattle.std.specs.Prelude.{ℕ, zero, suc, ◌+◌, List, [], ◌∷◌, drop}
use Rattle.cm_frame.specs.declared.item.TraceItem.{TraceItem}
use Rattle.cm_base.specs.declared.parsed.Parsed.{Parsed}
use Rattle.cm_base.specs.declared.parsed.Parsed.TheVariants.{Whole, Short, Bad}
use Rattle.cm_frame.specs.Reading.{read_item}

-- how a trace ends; a place counts from the first byte of the input
pub data Ending : Type 0 where
  Done : Ending
  Torn : ℕ → Ending
  BadHeader : ℕ → Ending
  BadRecord : ℕ → Ending
  Records : Ending

-- an item, with the place of its first byte
pub record Placed : Type 0 where
  pub place : ℕ
  pub item : TraceItem

-- whole items, and how the bytes end behind them
pub record Trace : Type 0 where
  pub items : List Placed
  pub ending : Ending

-- no more items, and how the bytes end
abbrev pub ends : Ending → Trace
ends ending = record { items = []; ending = ending }

-- the item at this place, before those of the rest
abbrev pub with_item : ℕ → TraceItem → Trace → Trace
with_item place item t = record t { items = (record { place = place; item = item }) ∷ t.items }

-- An item is whole, and `later` is the trace behind it, by how many bytes it used; or there is none.
abbrev pub led_by : ℕ → Parsed TraceItem → (ℕ → Trace) → Trace
led_by place (Whole item used) later = with_item place item (later used)
led_by place Short later = ends (Torn place)
led_by place (Bad fault) later = ends (BadRecord place)

-- the trace of bytes that stand at a place, where `n` more items are allowed
abbrev pub trace_of : ℕ → ℕ → List ℕ → Trace
trace_of n place [] = ends Done
trace_of zero place (b ∷ bs) = ends Records
trace_of (suc n) place (b ∷ bs) =
    led_by place (read_item (b ∷ bs)) (λ used. trace_of n (place + used) (drop used (b ∷ bs)))

-- the items that a trace may have
abbrev pub items_limit : ℕ
items_limit = 16_777_216
