-- What is taken out of the bytes of a connection that came so far
use Rattle.std.specs.Prelude.{◌≡◌, ◌≤◌, ℕ, List, length, drop}
use Rattle.cm_base.specs.declared.parsed.Parsed.TheVariants.{Whole, Short, Bad}
use Rattle.cm_frame.specs.Reading.{read_request}
use Rattle.cm_frame.specs.declared.framing.Framed.{Framed}

-- the bytes before and after, by what was found at their front
abbrev pub Takes : List ℕ → List ℕ → Framed → Type 0
Takes before after (Framed.Request request) = (used : ℕ) × (read_request before ≡ Whole request used) × (used ≤ length before) × (after ≡ drop used before)
Takes before after Framed.NotYet = (read_request before ≡ Short) × (after ≡ before)
Takes before after Framed.Bad = (place : ℕ) × (read_request before ≡ Bad place) × (after ≡ before)
