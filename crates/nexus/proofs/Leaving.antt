-- The turns are given back, or the gates are closed
use Rattle.std.proofs.Common.{◌<◌, ◌≤◌, ◌≡◌, ℕ, zero, suc, ◌+◌, List, [], ◌∷◌, ◌++◌, length, map, refl, ap, sym, ◌∙◌, subst, arith, true, false, Some, length-append, add-one, append_assoc, append-nil}
use Rattle.std.specs.Prelude.{slice_get, slice_set, slice_index_or}
use Rattle.std.proofs.lemmas.List.{length-map}
use Rattle.cm_history.specs.declared.act.Entry.{Entry}
use Rattle.unit_gate.specs.declared.kin.RecorderFacts.{RecorderFacts}
use Rattle.unit_gate.specs.declared.recorded_unit.ClosedUnit.{ClosedUnit}
use Rattle.unit_gate.specs.Recorded.{RecordedState}
use Rattle.unit_gate.specs.SeatActs.{UnitSeat, IsHeldBy}
use Rattle.nexus.specs.Worlds.{UnitGate}
use Rattle.nexus.specs.inner.Keeping.{gates_of}
use Rattle.nexus.specs.inner.Closing.{AreHeld, AreReady, IsReady, IsClosed, AreClosed, given_back, back_from, LeftSoFar, ClosedSoFar}
use Rattle.nexus.proofs.Places.{gate-at}

back-start : (old : List UnitSeat) → back_from (length old) old ≡ old
back-start [] = refl
back-start (s ∷ ss) = ap (λ l. s ∷ l) (back-start ss)

back-at : (n : ℕ) (old : List UnitSeat) (d : UnitSeat) → slice_index_or (back_from (suc n) old) n d ≡ slice_index_or old n d
back-at n [] d = refl
back-at zero (s ∷ ss) d = refl
back-at (suc n) (s ∷ ss) d = back-at n ss d

back-step : (n : ℕ) (old : List UnitSeat) (s : UnitSeat) → n < length old → s ≡ slice_index_or old n s → slice_set (back_from (suc n) old) n (given_back s) ≡ back_from n old
back-step n [] s low is = absurd (omega arith)
back-step zero (o ∷ os) s low is = ap (λ x. given_back x ∷ map given_back os) is
back-step (suc n) (o ∷ os) s low is = ap (λ l. o ∷ l) (back-step n os s (omega arith) is)

back-long : (n : ℕ) (old : List UnitSeat) → length (back_from n old) ≡ length old
back-long zero old = length-map old given_back
back-long (suc n) [] = refl
back-long (suc n) (s ∷ ss) = ap suc (back-long n ss)

pub held-long : (seats : List UnitSeat) (units : List RecordedState) → AreHeld seats units → length seats ≡ length units
held-long [] [] all = refl
held-long [] (u ∷ us) all = absurd all
held-long (s ∷ ss) [] all = absurd all
held-long (s ∷ ss) (u ∷ us) all = ap suc (held-long ss us all.1)

held-at : (seats : List UnitSeat) (units : List RecordedState) (n : ℕ) (s : UnitSeat) (u : RecordedState) → AreHeld seats units → slice_get units n ≡ Some u → s ≡ slice_index_or seats n s → IsHeldBy s.gate.kin s u
held-at [] [] n s u all at is = cc
held-at [] (v ∷ vs) n s u all at is = absurd all
held-at (t ∷ ts) [] n s u all at is = absurd all
held-at (t ∷ ts) (v ∷ vs) zero s u all at is = let same : v ≡ u = cc in subst (λ x. IsHeldBy x.gate.kin x u) (sym is) (subst (IsHeldBy t.gate.kin t) same all.0)
held-at (t ∷ ts) (v ∷ vs) (suc n) s u all at is = held-at ts vs n s u all.1 at is

get-middle : (xs ys : List RecordedState) (x : RecordedState) → slice_get (xs ++ x ∷ ys) (length xs) ≡ Some x
get-middle [] ys x = refl
get-middle (z ∷ zs) ys x = get-middle zs ys x

pub left-none : (old : List UnitSeat) (turns : List RecordedState) → AreHeld old turns → LeftSoFar old old turns turns
left-none old turns held = record { is = sym (ap (λ n. back_from n old) (sym (held-long old turns held)) ∙ back-start old); gone = []; whole = append-nil turns }

-- the seat that leaves next
pub record IsLeaving (old now : List UnitSeat) (turns rest : List RecordedState) (s : UnitSeat) (u : RecordedState) (gate : UnitGate) : Type 0 where
  pub gate_is : s.gate ≡ gate
  pub held : IsHeldBy gate.kin s u
  pub more : LeftSoFar old (slice_set now (length rest) (given_back s)) turns rest

pub leaves-in-range : (old now : List UnitSeat) (turns left rest : List RecordedState) (u : RecordedState) → AreHeld old turns → LeftSoFar old now turns left → left ≡ rest ++ u ∷ [] → (length rest < length now) × (length rest < length old)
leaves-in-range old now turns left rest u held so split =
    let long = held-long old turns held in
    let whole = ap length so.whole in
    let sum = length-append left so.gone in
    let count = ap length split in
    let more = length-append rest (u ∷ []) in
    let size = ap length so.is ∙ back-long (length left) old in
    (omega (arith, long, whole, sum, count, more, size), omega (arith, long, whole, sum, count, more))

pub leaving : (gates : List UnitGate) (gate : UnitGate) (old now : List UnitSeat) (turns left rest : List RecordedState) (s : UnitSeat) (u : RecordedState) (index : ℕ) → gates_of old ≡ gates → AreHeld old turns → LeftSoFar old now turns left
    → left ≡ rest ++ u ∷ [] → index ≡ length rest → s ≡ slice_index_or now index s → gate ≡ slice_index_or gates index gate → IsLeaving old now turns rest s u gate
leaving gates gate old now turns left rest s u index same held so split at here gate_at =
    let count : length left ≡ suc (length rest) = ap length split ∙ length-append rest (u ∷ []) ∙ add-one (length rest) in
    let is : now ≡ back_from (suc (length rest)) old = so.is ∙ ap (λ n. back_from n old) count in
    let low = (leaves-in-range old now turns left rest u held so split).1 in
    let at_old : s ≡ slice_index_or old (length rest) s = here ∙ ap (λ k. slice_index_or now k s) at ∙ ap (λ l. slice_index_or l (length rest) s) is ∙ back-at (length rest) old s in
    let whole : rest ++ (u ∷ so.gone) ≡ turns = sym (append_assoc rest (u ∷ []) so.gone) ∙ ap (λ l. l ++ so.gone) (sym split) ∙ so.whole in
    let at_turn : slice_get turns (length rest) ≡ Some u = ap (λ l. slice_get l (length rest)) (sym whole) ∙ get-middle rest so.gone u in
    let gate_is = gate-at old gates s gate (length rest) same low at_old (gate_at ∙ ap (λ k. slice_index_or gates k gate) at) in
    record {
      gate_is = gate_is;
      held = subst (λ (g : UnitGate). IsHeldBy g.kin s u) gate_is (held-at old turns (length rest) s u held at_turn at_old);
      more = record {
        is = ap (λ l. slice_set l (length rest) (given_back s)) is ∙ back-step (length rest) old s low at_old;
        gone = u ∷ so.gone;
        whole = whole;
      };
    }

pub left-all : (old now : List UnitSeat) (turns : List RecordedState) → LeftSoFar old now turns [] → now ≡ map given_back old
left-all old now turns so = so.is

-- ---- the gates are closed, the first one first

pub nothing-left : {X : Type 0} (xs : List X) → length xs ≡ 0 → xs ≡ []
nothing-left [] long = refl
nothing-left (x ∷ xs) long = absurd (omega (arith, long))

module _ {R : Type 0} (facts : R → RecorderFacts) (fits : R → Entry → Type 0) where
  closed-push : (seats : List UnitSeat) (turns : List RecordedState) (units : List (ClosedUnit R)) (s : UnitSeat) (u : RecordedState) (l : ClosedUnit R) → AreClosed facts fits seats turns units → IsClosed facts fits s u l
      → AreClosed facts fits (seats ++ s ∷ []) (turns ++ u ∷ []) (units ++ l ∷ [])
  closed-push [] [] [] s u l all is = (is, tt)
  closed-push [] [] (x ∷ xs) s u l all is = absurd all
  closed-push [] (t ∷ ts) units s u l all is = absurd all
  closed-push (p ∷ ps) [] units s u l all is = absurd all
  closed-push (p ∷ ps) (t ∷ ts) [] s u l all is = absurd all
  closed-push (p ∷ ps) (t ∷ ts) (x ∷ xs) s u l all is = (all.0, closed-push ps ts xs s u l all.1 is)

  closed-long : (seats : List UnitSeat) (turns : List RecordedState) (units : List (ClosedUnit R)) → AreClosed facts fits seats turns units → (length units ≡ length turns) × (length units ≡ length seats)
  closed-long [] [] [] all = (refl, refl)
  closed-long [] [] (x ∷ xs) all = absurd all
  closed-long [] (t ∷ ts) units all = absurd all
  closed-long (p ∷ ps) [] units all = absurd all
  closed-long (p ∷ ps) (t ∷ ts) [] all = absurd all
  closed-long (p ∷ ps) (t ∷ ts) (x ∷ xs) all = let rest = closed-long ps ts xs all.1 in (ap suc rest.0, ap suc rest.1)

  pub closing-none : (seats : List UnitSeat) (turns : List RecordedState) (gates : List UnitGate) (room_then room_now : ℕ) → gates_of seats ≡ gates → AreHeld seats turns → AreReady seats → room_then ≤ room_now
      → ClosedSoFar facts fits seats seats turns turns gates [] room_then room_now
  closing-none seats turns gates room_then room_now same held ready room = record {
    gone_seats = [];
    gone_turns = [];
    seats_are = refl;
    turns_are = refl;
    gates_are = same;
    closed = tt;
    held = held;
    ready = ready;
    room = room;
  }

  -- the next seat and its gate
  pub record IsNextClosed (seats seats_after : List UnitSeat) (turns turns_after : List RecordedState) (gates_after : List UnitGate) (units : List (ClosedUnit R)) (s : UnitSeat) (u : RecordedState) (g : UnitGate) (room_then : ℕ) : Type 0 where
    pub gate_is : s.gate ≡ g
    pub ready : IsReady s
    pub held : IsHeldBy s.gate.kin s u
    pub low : length units < length seats
    pub more : (l : ClosedUnit R) (room : ℕ) → IsClosed facts fits s u l → room_then ≤ room → ClosedSoFar facts fits seats seats_after turns turns_after gates_after (units ++ l ∷ []) room_then room

  pub closing-next : (seats seats_left seats_after : List UnitSeat) (turns turns_left turns_after : List RecordedState) (gates_left gates_after : List UnitGate) (units : List (ClosedUnit R)) (s : UnitSeat) (u : RecordedState) (g : UnitGate) (room_then room_now : ℕ)
      → ClosedSoFar facts fits seats seats_left turns turns_left gates_left units room_then room_now → turns_left ≡ u ∷ turns_after → seats_left ≡ s ∷ seats_after → gates_left ≡ g ∷ gates_after
      → IsNextClosed seats seats_after turns turns_after gates_after units s u g room_then
  closing-next seats seats_left seats_after turns turns_left turns_after gates_left gates_after units s u g room_then room_now so t_is s_is g_is =
      let held : AreHeld (s ∷ seats_after) (u ∷ turns_after) = subst (λ l. AreHeld l (u ∷ turns_after)) s_is (subst (AreHeld seats_left) t_is so.held) in
      let ready : AreReady (s ∷ seats_after) = subst AreReady s_is so.ready in
      let gates : gates_of (s ∷ seats_after) ≡ g ∷ gates_after = ap gates_of (sym s_is) ∙ so.gates_are ∙ g_is in
      let first : s.gate ≡ g = cc in
      let rest : gates_of seats_after ≡ gates_after = cc in
      let long = (closed-long so.gone_seats so.gone_turns units so.closed).1 in
      let whole = ap length so.seats_are in
      let sum = length-append so.gone_seats seats_left in
      let left = ap length s_is in
      record {
        gate_is = first;
        ready = ready.0;
        held = held.0;
        low = omega (arith, long, whole, sum, left);
        more = λ l room is enough. record {
          gone_seats = so.gone_seats ++ s ∷ [];
          gone_turns = so.gone_turns ++ u ∷ [];
          seats_are = append_assoc so.gone_seats (s ∷ []) seats_after ∙ ap (λ x. so.gone_seats ++ x) (sym s_is) ∙ so.seats_are;
          turns_are = append_assoc so.gone_turns (u ∷ []) turns_after ∙ ap (λ x. so.gone_turns ++ x) (sym t_is) ∙ so.turns_are;
          gates_are = rest;
          closed = closed-push so.gone_seats so.gone_turns units s u l so.closed is;
          held = held.1;
          ready = ready.1;
          room = enough;
        };
      }

  -- where no turn is left, all gates are closed
  pub closing-all : (seats seats_left : List UnitSeat) (turns turns_left : List RecordedState) (gates_left : List UnitGate) (units : List (ClosedUnit R)) (room_then room_now : ℕ)
      → ClosedSoFar facts fits seats seats_left turns turns_left gates_left units room_then room_now → turns_left ≡ [] → AreClosed facts fits seats turns units
  closing-all seats [] turns turns_left gates_left units room_then room_now so none =
      subst (λ l. AreClosed facts fits l turns units) (sym (append-nil so.gone_seats) ∙ so.seats_are)
      (subst (λ l. AreClosed facts fits so.gone_seats l units) (sym (append-nil so.gone_turns) ∙ ap (λ l. so.gone_turns ++ l) (sym none) ∙ so.turns_are) so.closed)
  closing-all seats (s ∷ ss) turns turns_left gates_left units room_then room_now so none = absurd (subst (AreHeld (s ∷ ss)) none so.held)

  -- a turn that is left has a seat and a gate
  pub seat-left : (seats seats_left : List UnitSeat) (turns turns_left turns_after : List RecordedState) (gates_left : List UnitGate) (units : List (ClosedUnit R)) (u : RecordedState) (room_then room_now : ℕ)
      → ClosedSoFar facts fits seats seats_left turns turns_left gates_left units room_then room_now → turns_left ≡ u ∷ turns_after → (0 < length seats_left) × (0 < length gates_left)
  seat-left seats seats_left turns turns_left turns_after gates_left units u room_then room_now so t_is =
      let long = held-long seats_left turns_left so.held in
      let some = ap length t_is in
      let same = ap length so.gates_are in
      let count = length-map seats_left (λ (s : UnitSeat). s.gate) in
      (omega (arith, long, some), omega (arith, long, some, same, count))
