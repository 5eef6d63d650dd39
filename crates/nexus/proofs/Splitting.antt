-- A seat is split off each of the root's
use Rattle.std.proofs.Common.{◌<◌, ◌≡◌, ℕ, zero, suc, List, [], ◌∷◌, ◌++◌, length, map, refl, ap, ◌∙◌, sym, subst, arith}
use Rattle.std.specs.Prelude.{slice_set, slice_index_or}
use Rattle.cm_history.proofs.PublicLaws.{Each}
use Rattle.turn_gate.specs.Seats.{SeatState}
use Rattle.nexus.specs.inner.Seats.{WasSplit, AreSplit}

module _ {E K : Type 0} where
  -- ---- one more

  pub split-more : (old now fresh : List (SeatState E K)) (n : ℕ) (b a f : SeatState E K) → AreSplit old now fresh n → n < length old → b ≡ slice_index_or now n b → WasSplit b a f → AreSplit old (slice_set now n a) (fresh ++ f ∷ []) (suc n)
  split-more [] now fresh n b a f so low at was = absurd (omega arith)
  split-more (o ∷ os) now fresh zero b a f so low at was =
      let here : b ≡ o = at ∙ ap (λ l. slice_index_or l 0 b) so.0 in
      rw (so.0, so.1) (subst (λ x. WasSplit x a f) here was, (refl, refl))
  split-more (o ∷ os) [] fresh (suc n) b a f so low at was = absurd so
  split-more (o ∷ os) (w ∷ ws) [] (suc n) b a f so low at was = absurd so
  split-more (o ∷ os) (w ∷ ws) (g ∷ gs) (suc n) b a f so low at was = (so.0, split-more os ws gs n b a f so.1 (omega arith) at was)

  pub split-rest : (old now fresh : List (SeatState E K)) (n : ℕ) (d : SeatState E K) → AreSplit old now fresh n → slice_index_or now n d ≡ slice_index_or old n d
  split-rest old now fresh zero d so = ap (λ l. slice_index_or l 0 d) so.0
  split-rest [] now fresh (suc n) d so = absurd so
  split-rest (o ∷ os) [] fresh (suc n) d so = absurd so
  split-rest (o ∷ os) (w ∷ ws) [] (suc n) d so = absurd so
  split-rest (o ∷ os) (w ∷ ws) (g ∷ gs) (suc n) d so = split-rest os ws gs n d so.1

  pub record AreLong (old now fresh : List (SeatState E K)) (n : ℕ) : Type 0 where
    pub now_is : length now ≡ length old
    pub fresh_is : length fresh ≡ n

  pub split-long : (old now fresh : List (SeatState E K)) (n : ℕ) → AreSplit old now fresh n → AreLong old now fresh n
  split-long old now fresh zero so = record { now_is = ap length so.0; fresh_is = ap length so.1 }
  split-long [] now fresh (suc n) so = absurd so
  split-long (o ∷ os) [] fresh (suc n) so = absurd so
  split-long (o ∷ os) (w ∷ ws) [] (suc n) so = absurd so
  split-long (o ∷ os) (w ∷ ws) (g ∷ gs) (suc n) so = let rest = split-long os ws gs n so.1 in record { now_is = ap suc rest.now_is; fresh_is = ap suc rest.fresh_is }

  -- ---- all

  pub map-now : {Y : Type 0} (f : SeatState E K → Y) → ((b a x : SeatState E K) → WasSplit b a x → f a ≡ f b) → (old now fresh : List (SeatState E K)) → AreSplit old now fresh (length old) → map f now ≡ map f old
  map-now f keep [] now fresh so = ap (map f) so.0
  map-now f keep (b ∷ bs) [] fresh so = absurd so
  map-now f keep (b ∷ bs) (a ∷ al) [] so = absurd so
  map-now f keep (b ∷ bs) (a ∷ al) (x ∷ xs) so = ap (λ v. v ∷ map f al) (keep b a x so.0) ∙ ap (λ l. f b ∷ l) (map-now f keep bs al xs so.1)

  pub map-fresh : {Y : Type 0} (f g : SeatState E K → Y) → ((b a x : SeatState E K) → WasSplit b a x → f x ≡ g b) → (old now fresh : List (SeatState E K)) → AreSplit old now fresh (length old) → map f fresh ≡ map g old
  map-fresh f g keep [] now fresh so = ap (map f) so.1
  map-fresh f g keep (b ∷ bs) [] fresh so = absurd so
  map-fresh f g keep (b ∷ bs) (a ∷ al) [] so = absurd so
  map-fresh f g keep (b ∷ bs) (a ∷ al) (x ∷ xs) so = ap (λ v. v ∷ map f xs) (keep b a x so.0) ∙ ap (λ l. g b ∷ l) (map-fresh f g keep bs al xs so.1)

  pub map-both : {Y : Type 0} (f g : SeatState E K → Y) → ((b a x : SeatState E K) → WasSplit b a x → f x ≡ g a) → (old now fresh : List (SeatState E K)) → AreSplit old now fresh (length old) → map f fresh ≡ map g now
  map-both f g keep [] now fresh so = ap (map f) so.1 ∙ sym (ap (map g) so.0)
  map-both f g keep (b ∷ bs) [] fresh so = absurd so
  map-both f g keep (b ∷ bs) (a ∷ al) [] so = absurd so
  map-both f g keep (b ∷ bs) (a ∷ al) (x ∷ xs) so = ap (λ v. v ∷ map f xs) (keep b a x so.0) ∙ ap (λ l. g a ∷ l) (map-both f g keep bs al xs so.1)

  -- what the split leaves is true of each seat still
  pub each-now : (P Q : SeatState E K → Type 0) → ((b a x : SeatState E K) → WasSplit b a x → P b → Q a) → (old now fresh : List (SeatState E K)) → AreSplit old now fresh (length old) → Each P old → Each Q now
  each-now P Q keep [] now fresh so all = rw so.0 tt
  each-now P Q keep (b ∷ bs) [] fresh so all = absurd so
  each-now P Q keep (b ∷ bs) (a ∷ al) [] so all = absurd so
  each-now P Q keep (b ∷ bs) (a ∷ al) (x ∷ xs) so all = (keep b a x so.0 all.0, each-now P Q keep bs al xs so.1 all.1)

  -- what a new seat has is true of each
  pub each-fresh : (P Q : SeatState E K → Type 0) → ((b a x : SeatState E K) → WasSplit b a x → P b → Q x) → (old now fresh : List (SeatState E K)) → AreSplit old now fresh (length old) → Each P old → Each Q fresh
  each-fresh P Q keep [] now fresh so all = rw so.1 tt
  each-fresh P Q keep (b ∷ bs) [] fresh so all = absurd so
  each-fresh P Q keep (b ∷ bs) (a ∷ al) [] so all = absurd so
  each-fresh P Q keep (b ∷ bs) (a ∷ al) (x ∷ xs) so all = (keep b a x so.0 all.0, each-fresh P Q keep bs al xs so.1 all.1)

  -- the seat that comes next is the old one
  pub at-old : (old now fresh : List (SeatState E K)) (n : ℕ) (s : SeatState E K) → AreSplit old now fresh n → s ≡ slice_index_or now n s → s ≡ slice_index_or old n s
  at-old old now fresh n s so is = is ∙ split-rest old now fresh n s so
