-- Sources and sinks in memory, as contracts see them
use Rattle.std.specs.Prelude.{◌≡◌, ℕ, ◌+◌, ◌-◌, ◌^◌, min, List, [], ◌++◌, drop, map, Bool, ◌==◌}
use Rattle.std.specs.List.{list_any}
use Rattle.cm_base.specs.Listening.{Gone, is_broken}

-- what a source in memory has left, the bytes that a pull gives at most, the numbers of the pulls that fail, and the
-- pulls and the failures so far
pub record Input : Type 0 where
  pub left : List ℕ
  pub step : ℕ
  pub failing : List ℕ
  pub calls : ℕ
  pub faults : ℕ

-- what a sink in memory took, the bytes that a push takes at most, the numbers of the pushes that fail, and the pushes
-- and the failures so far
pub record Output : Type 0 where
  pub taken : List ℕ
  pub step : ℕ
  pub failing : List ℕ
  pub calls : ℕ
  pub faults : ℕ

-- one more, of a count of 64 bits that stands still at its end
abbrev pub one_more : ℕ → ℕ
one_more n = min (n + 1) (2 ^ 64 - 1)

-- the call after so many is one of those that fail
abbrev pub is_listed : List ℕ → ℕ → Bool
is_listed failing calls = list_any (λ c. c == one_more calls) failing

-- a source after a pull that gave so many bytes, and after one that failed
abbrev pub after_pull : ℕ → Input → Input
after_pull n s = record s { left = drop n s.left; calls = one_more s.calls }

abbrev pub after_failed_pull : Input → Input
after_failed_pull s = record s { calls = one_more s.calls; faults = one_more s.faults }

-- a sink after a push of which it took these bytes, and after one that failed
abbrev pub after_push : List ℕ → Output → Output
after_push bytes s = record s { taken = s.taken ++ bytes; calls = one_more s.calls }

abbrev pub after_failed_push : Output → Output
after_failed_push s = record s { calls = one_more s.calls; faults = one_more s.faults }

-- the two ends of a connection in memory
pub record Ends : Type 0 where
  pub input : Input
  pub output : Output

-- nothing was taken of it yet, and none of its calls failed
abbrev pub IsFresh : Ends → Type 0
IsFresh k = (k.output.taken ≡ []) × (k.input.faults ≡ 0) × (k.output.faults ≡ 0)

-- what a listener in memory tells of a link that was given back
abbrev pub gone_of : Ends → Gone
gone_of k = record { taken = k.output.taken; broken = is_broken k.input.faults k.output.faults }

-- the bytes of the links to come
abbrev pub coming_of : List Ends → List (List ℕ)
coming_of links = map (λ (k : Ends). k.input.left) links

-- the links that wait to be handed out and those that were given back, each in order, how many are out, the numbers of
-- the accepts that fail, and the accepts and the failures so far
pub record Listening : Type 0 where
  pub waiting : List Ends
  pub gone : List Ends
  pub out : ℕ
  pub failing : List ℕ
  pub calls : ℕ
  pub faults : ℕ
