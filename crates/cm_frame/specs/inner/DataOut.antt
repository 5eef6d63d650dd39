-- The bytes before a data-out, and how much of it has come.
use Rattle.std.specs.Prelude.{◌≡◌, ℕ, ◌+◌, ◌≤◌, List, length, Option, Some, None}
use Rattle.cm_base.specs.declared.parsed.Parsed.{Parsed}
use Rattle.cm_base.specs.declared.parsed.Parsed.TheVariants.{Whole, Short}
use Rattle.cm_base.specs.Fields.{byte, field}
use Rattle.cm_frame.specs.declared.frame.Request.{Request}
use Rattle.cm_frame.specs.Grammar.{data_limit}

-- the bytes of a request before its data-out of so many bytes
pub record IsFront (front : List ℕ) (wanted : ℕ) : Type 0 where
  pub all : length front ≡ 22
  pub told : field front 0 3 ≡ wanted
  pub limit : wanted ≤ data_limit

-- the bytes of an item that begins a command, before its request
pub record IsStart (start : List ℕ) : Type 0 where
  pub all : length start ≡ 13
  pub kind : byte start 0 ≡ 1

-- the data-out so far: all of it, or what was gathered
abbrev pub so_far : Option (List ℕ) → List ℕ → List ℕ
so_far None come = come
so_far (Some whole) come = whole

-- how a request is read that was found, or whose data-out of so many bytes is still to come
abbrev pub read_as : Option Request → ℕ → Parsed Request
read_as None wanted = Short
read_as (Some request) wanted = Whole request (22 + wanted)
