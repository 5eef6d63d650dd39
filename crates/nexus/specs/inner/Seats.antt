-- Seats that are split off the root's, one at each gate, and joined into them again
use Rattle.std.specs.Prelude.{◌≡◌, ℕ, zero, suc, ◌+◌, ◌≤◌, List, [], ◌∷◌, ◌++◌, length, true, false}
use mathlib.Core.List.{IsPrefix}
use Rattle.cm_history.specs.Members.{Each}
use Rattle.turn_gate.specs.Marks.{AtMost, greatest}
use Rattle.turn_gate.specs.Seats.{SeatState, split_off}

module _ {E K : Type 0} where
  abbrev pub AllFree : List (SeatState E K) → Type 0
  AllFree seats = Each (λ (s : SeatState E K). s.holds ≡ false) seats

  abbrev pub AreFirst : List (SeatState E K) → Type 0
  AreFirst seats = Each (λ (s : SeatState E K). s.first ≡ true) seats

  -- the seat `fresh` was split off
  pub record WasSplit (before after fresh : SeatState E K) : Type 0 where
    pub seat : after ≡ record before { out = before.out + 1 }
    pub new : fresh ≡ split_off before

  -- `seat` was joined into a first seat
  pub record WasJoined (before seat after : SeatState E K) : Type 0 where
    pub longer : IsPrefix before.seen after.seen
    pub longer_seat : IsPrefix seat.seen after.seen
    pub fewer : before.out ≡ after.out + 1
    pub above : AtMost before.marks after.marks
    pub above_seat : AtMost seat.marks after.marks
    pub into : after ≡ record before {
      seen = after.seen;
      joined = before.joined ++ (record { own = seat.own; seen = seat.seen }) ∷ [];
      out = after.out;
      marks = greatest before.marks seat.marks;
    }

  -- the first n seats of the root are split
  abbrev pub AreSplit : List (SeatState E K) → List (SeatState E K) → List (SeatState E K) → ℕ → Type 0
  AreSplit old now fresh zero = (now ≡ old) × (fresh ≡ [])
  AreSplit (b ∷ bs) (a ∷ al) (f ∷ fs) (suc n) = WasSplit b a f × AreSplit bs al fs n
  AreSplit _ _ _ (suc n) = ⊥

  -- from the end on, the seats of a pass are joined into the root's, and the first n are not yet
  abbrev pub AreJoinedTo : List (SeatState E K) → List (SeatState E K) → List (SeatState E K) → ℕ → Type 0
  AreJoinedTo [] passed now n = now ≡ []
  AreJoinedTo (b ∷ bs) [] now n = ⊥
  AreJoinedTo (b ∷ bs) (p ∷ ps) [] n = ⊥
  AreJoinedTo (b ∷ bs) (p ∷ ps) (a ∷ al) zero = WasJoined b p a × AreJoinedTo bs ps al zero
  AreJoinedTo (b ∷ bs) (p ∷ ps) (a ∷ al) (suc n) = (a ≡ b) × AreJoinedTo bs ps al n

  pub record SplitSoFar (old now fresh : List (SeatState E K)) (n room_then room_now : ℕ) : Type 0 where
    pub split : AreSplit old now fresh n
    pub room : room_then ≤ room_now

  -- the last seats are joined, and these are left
  pub record JoinedSoFar (old passed now left : List (SeatState E K)) : Type 0 where
    pub joined : AreJoinedTo old passed now (length left)
    pub gone : List (SeatState E K)
    pub whole : left ++ gone ≡ passed
