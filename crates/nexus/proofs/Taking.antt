-- The seats of a pass are joined into the root's
use Rattle.std.proofs.Common.{◌<◌, ◌≡◌, ℕ, zero, suc, List, [], ◌∷◌, ◌++◌, length, map, refl, ap, sym, ◌∙◌, subst, arith, false, true, Some, length-append, add-one, append_assoc, append-nil}
use Rattle.std.specs.Prelude.{slice_get, slice_set, slice_index_or}
use Rattle.std.proofs.lemmas.List.{length-map}
use Rattle.cm_history.proofs.PublicLaws.{Each}
use Rattle.turn_gate.specs.Seats.{GateName, SeatState}
use Rattle.nexus.specs.inner.Seats.{AllFree, AreFirst, WasJoined, AreJoinedTo, JoinedSoFar}
use Rattle.nexus.proofs.Places.{gate-at, each-at}

get-middle : {X : Type 0} (xs ys : List X) (x : X) → slice_get (xs ++ x ∷ ys) (length xs) ≡ Some x
get-middle [] ys x = refl
get-middle (z ∷ zs) ys x = get-middle zs ys x

pub map-got : {X Y : Type 0} (f : X → Y) (xs : List X) (k : ℕ) (x : X) (d : Y) → slice_get xs k ≡ Some x → slice_index_or (map f xs) k d ≡ f x
map-got f [] k x d is = cc
map-got f (y ∷ ys) zero x d is = let same : y ≡ x = cc in ap f same
map-got f (y ∷ ys) (suc k) x d is = map-got f ys k x d is

pub each-got : {X : Type 0} (P : X → Type 0) (xs : List X) (k : ℕ) (x : X) → slice_get xs k ≡ Some x → Each P xs → P x
each-got P [] k x is all = cc
each-got P (y ∷ ys) zero x is all = let same : y ≡ x = cc in subst P same all.0
each-got P (y ∷ ys) (suc k) x is all = each-got P ys k x is all.1

module _ {E K : Type 0} where
  -- ---- at first none is joined

  joined-none : (old passed : List (SeatState E K)) → length old ≡ length passed → AreJoinedTo old passed old (length passed)
  joined-none [] passed long = refl
  joined-none (o ∷ os) [] long = absurd (omega (arith, long))
  joined-none (o ∷ os) (p ∷ ps) long = (refl, joined-none os ps (omega (arith, long)))

  pub so-far-none : (old passed : List (SeatState E K)) → length old ≡ length passed → JoinedSoFar old passed old passed
  so-far-none old passed long = record { joined = joined-none old passed long; gone = []; whole = append-nil passed }

  -- ---- the last one that is left is joined

  joined-more : (old passed now : List (SeatState E K)) (n : ℕ) (b p a : SeatState E K) → AreJoinedTo old passed now (suc n) → n < length old → slice_get passed n ≡ Some p → b ≡ slice_index_or now n b → WasJoined b p a → AreJoinedTo old passed (slice_set now n a) n
  joined-more [] passed now n b p a so low at here was = absurd (omega arith)
  joined-more (o ∷ os) [] now n b p a so low at here was = absurd so
  joined-more (o ∷ os) (q ∷ qs) [] n b p a so low at here was = absurd so
  joined-more (o ∷ os) (q ∷ qs) (w ∷ ws) zero b p a so low at here was =
      let same : q ≡ p = cc in
      (subst (λ x. WasJoined x q a) (here ∙ so.0) (subst (λ x. WasJoined b x a) (sym same) was), so.1)
  joined-more (o ∷ os) (q ∷ qs) (w ∷ ws) (suc n) b p a so low at here was = (so.0, joined-more os qs ws n b p a so.1 (omega arith) at here was)

  pub so-far-long : (old passed now : List (SeatState E K)) (n : ℕ) → AreJoinedTo old passed now n → length now ≡ length old
  so-far-long [] passed now n so = ap length so
  so-far-long (o ∷ os) [] now n so = absurd so
  so-far-long (o ∷ os) (q ∷ qs) [] n so = absurd so
  so-far-long (o ∷ os) (q ∷ qs) (w ∷ ws) zero so = ap suc (so-far-long os qs ws zero so.1)
  so-far-long (o ∷ os) (q ∷ qs) (w ∷ ws) (suc n) so = ap suc (so-far-long os qs ws n so.1)

  -- the seat that comes next, as it was
  pub so-far-rest : (old passed now : List (SeatState E K)) (n : ℕ) (d : SeatState E K) → AreJoinedTo old passed now (suc n) → slice_index_or now n d ≡ slice_index_or old n d
  so-far-rest [] passed now n d so = ap (λ l. slice_index_or l n d) so
  so-far-rest (o ∷ os) [] now n d so = absurd so
  so-far-rest (o ∷ os) (q ∷ qs) [] n d so = absurd so
  so-far-rest (o ∷ os) (q ∷ qs) (w ∷ ws) zero d so = so.0
  so-far-rest (o ∷ os) (q ∷ qs) (w ∷ ws) (suc n) d so = so-far-rest os qs ws n d so.1

  pub record IsNextSeat (old passed now rest : List (SeatState E K)) (b p : SeatState E K) : Type 0 where
    pub at_old : b ≡ slice_index_or old (length rest) b
    pub at_passed : slice_get passed (length rest) ≡ Some p
    pub more : (a : SeatState E K) → WasJoined b p a → JoinedSoFar old passed (slice_set now (length rest) a) rest

  -- one more is joined
  pub so-far-more : (old passed now left rest : List (SeatState E K)) (b p : SeatState E K) → JoinedSoFar old passed now left → left ≡ rest ++ p ∷ [] → length rest < length old → b ≡ slice_index_or now (length rest) b → IsNextSeat old passed now rest b p
  so-far-more old passed now left rest b p so split low here =
      let whole : rest ++ (p ∷ so.gone) ≡ passed = sym (append_assoc rest (p ∷ []) so.gone) ∙ ap (λ l. l ++ so.gone) (sym split) ∙ so.whole in
      let at : slice_get passed (length rest) ≡ Some p = ap (λ l. slice_get l (length rest)) (sym whole) ∙ get-middle rest so.gone p in
      let count : length left ≡ suc (length rest) = ap length split ∙ length-append rest (p ∷ []) ∙ add-one (length rest) in
      let joined : AreJoinedTo old passed now (suc (length rest)) = subst (AreJoinedTo old passed now) count so.joined in
      record {
        at_old = here ∙ so-far-rest old passed now (length rest) b joined;
        at_passed = at;
        more = λ a was. record { joined = joined-more old passed now (length rest) b p a joined low at here was; gone = p ∷ so.gone; whole = whole };
      }

  -- the seat that is joined next, and the one that it is joined into
  pub record AreAt (old passed now rest : List (SeatState E K)) (b p : SeatState E K) (gate : GateName K) : Type 0 where
    pub next : IsNextSeat old passed now rest b p
    pub into_gate : b.gate ≡ gate
    pub seat_gate : p.gate ≡ gate
    pub first : b.first ≡ true
    pub free : p.holds ≡ false

  pub are-at : (gates : List (GateName K)) (x : GateName K) (old passed now left rest : List (SeatState E K)) (b p : SeatState E K) (index : ℕ)
      → map (λ (s : SeatState E K). s.gate) old ≡ gates → map (λ (s : SeatState E K). s.gate) passed ≡ gates → AreFirst old → AllFree passed
      → JoinedSoFar old passed now left → left ≡ rest ++ p ∷ [] → index ≡ length rest → b ≡ slice_index_or now index b → x ≡ slice_index_or gates index x → AreAt old passed now rest b p x
  are-at gates x old passed now left rest b p index same_old same_passed firsts free so split at here gate_at =
      let count : length left ≡ suc (length rest) = ap length split ∙ length-append rest (p ∷ []) ∙ add-one (length rest) in
      let whole = ap length so.whole in
      let sum = length-append left so.gone in
      let a = ap length same_old in
      let b' = ap length same_passed in
      let u = length-map old (λ (s : SeatState E K). s.gate) in
      let v = length-map passed (λ (s : SeatState E K). s.gate) in
      let low : length rest < length old = omega (arith, count, whole, sum, a, b', u, v) in
      let next = so-far-more old passed now left rest b p so split low (here ∙ ap (λ k. slice_index_or now k b) at) in
      let gate : x ≡ slice_index_or gates (length rest) x = gate_at ∙ ap (λ k. slice_index_or gates k x) at in
      record {
        next = next;
        into_gate = gate-at old gates b x (length rest) same_old low next.at_old gate;
        seat_gate = sym (map-got (λ (s : SeatState E K). s.gate) passed (length rest) p x next.at_passed) ∙ ap (λ l. slice_index_or l (length rest) x) same_passed ∙ sym gate;
        first = each-at (λ (s : SeatState E K). s.first ≡ true) old (length rest) b low next.at_old firsts;
        free = each-got (λ (s : SeatState E K). s.holds ≡ false) passed (length rest) p next.at_passed free;
      }

  -- the seat into which the next one is joined is in range
  pub in-range : (gates : List (GateName K)) (old passed now left rest : List (SeatState E K)) (p : SeatState E K) → map (λ (s : SeatState E K). s.gate) old ≡ gates → map (λ (s : SeatState E K). s.gate) passed ≡ gates
      → JoinedSoFar old passed now left → left ≡ rest ++ p ∷ [] → (length rest < length now) × (length rest < length gates)
  in-range gates old passed now left rest p same_old same_passed so split =
      let count : length left ≡ suc (length rest) = ap length split ∙ length-append rest (p ∷ []) ∙ add-one (length rest) in
      let whole = ap length so.whole in
      let sum = length-append left so.gone in
      let a = ap length same_old in
      let b = ap length same_passed in
      let u = length-map old (λ (s : SeatState E K). s.gate) in
      let v = length-map passed (λ (s : SeatState E K). s.gate) in
      let size = so-far-long old passed now (length left) so.joined in
      (omega (arith, count, whole, sum, a, b, u, v, size), omega (arith, count, whole, sum, a, b, u, v))
