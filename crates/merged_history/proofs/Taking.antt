-- One round of a merge
use Rattle.std.proofs.Common.{◌<◌, ◌≤◌, ◌≡◌, ℕ, zero, suc, List, [], ◌∷◌, ◌++◌, length, refl, ap, sym, ◌∙◌, subst, arith, Some, append_assoc, append-nil, map}
use Rattle.std.specs.Prelude.{slice_get, slice_index, slice_index_or, slice_set, replicate}
use Rattle.std.proofs.lemmas.List.{length-set, length-map, length-replicate}
use Rattle.cm_history.specs.declared.act.Entry.{Entry}
use Rattle.merged_history.specs.Merged.{merged, rests}
use Rattle.merged_history.specs.Passes.{AreFrom}
use Rattle.merged_history.specs.inner.Merging.{head, AreDone, IsLeast, IsSoFar}
use Rattle.merged_history.proofs.Heads.{head-is}
use Rattle.merged_history.proofs.Steps.{merged-step, merged-done, rests-none}

pub get-low : {X : Type 0} (xs : List X) (k : ℕ) (x : X) → slice_get xs k ≡ Some x → k < length xs
get-low [] k x is = cc
get-low (y ∷ ys) zero x is = omega arith
get-low (y ∷ ys) (suc k) x is = let low = get-low ys k x is in omega (arith, low)

pub so_far-none : (hs : List (List Entry)) (at : List ℕ) (n : ℕ) → at ≡ replicate n 0 → n ≡ length hs → IsSoFar hs at []
so_far-none hs at n is len = record {
  size = ap length is ∙ length-replicate n 0 ∙ len;
  so_far = ap (λ l. merged (rests l hs)) is ∙ ap merged (rests-none n hs);
}

pub record IsRound (hs : List (List Entry)) (at after : List ℕ) (taken : List Entry) (e : Entry) : Type 0 where
  pub kept : IsSoFar hs after (taken ++ e ∷ [])
  pub fewer : suc (length (merged (rests after hs))) ≤ length (merged (rests at hs))

pub round : (hs : List (List Entry)) (at : List ℕ) (unit next : ℕ) (first e : Entry) (taken : List Entry) → AreFrom 0 hs → IsSoFar hs at taken
    → IsLeast hs at (length hs) unit first → head hs at unit ≡ Some e → next ≡ suc (slice_index at unit) → IsRound hs at (slice_set at unit next) taken e
round hs at unit next first e taken all so least is n =
    let both : Some first ≡ Some e = sym least.has ∙ is in
    let one : first ≡ e = cc in
    let step = merged-step at hs unit e all so.size (subst (IsLeast hs at (length hs) unit) one least) in
    let here : merged (rests at hs) ≡ e ∷ merged (rests (slice_set at unit next) hs) = step ∙ ap (λ k. e ∷ merged (rests (slice_set at unit k) hs)) (sym n) in
    let long = ap length here in
    record {
      kept = record {
        size = length-set at unit next ∙ so.size;
        so_far = append_assoc taken (e ∷ []) (merged (rests (slice_set at unit next) hs)) ∙ ap (λ l. taken ++ l) (sym here) ∙ so.so_far;
      };
      fewer = omega (arith, long);
    }

pub so_far-all : (hs : List (List Entry)) (at : List ℕ) (taken : List Entry) → IsSoFar hs at taken → AreDone hs at (length hs) → taken ≡ merged hs
so_far-all hs at taken so done = sym (append-nil taken) ∙ ap (λ l. taken ++ l) (sym (merged-done at hs so.size done)) ∙ so.so_far

default : {X : Type 0} (xs : List X) (k : ℕ) (a b : X) → k < length xs → slice_index_or xs k a ≡ slice_index_or xs k b
default [] k a b low = absurd (omega arith)
default (x ∷ xs) zero a b low = refl
default (x ∷ xs) (suc k) a b low = default xs k a b (omega arith)

-- what a unit of the list has at the place that comes next
pub record IsAt {X : Type 0} (f : X → List Entry) (units : List X) (at : List ℕ) (unit : ℕ) (x : X) (place : ℕ) : Type 0 where
  pub low : unit < length (map f units)
  pub place_is : place ≡ slice_index at unit
  pub head_is : slice_get (f x) place ≡ head (map f units) at unit

pub is_at : {X : Type 0} (f : X → List Entry) (units : List X) (at now : List ℕ) (unit : ℕ) (x : X) (place : ℕ) (first : Entry) (count : ℕ) (taken : List Entry)
    → IsSoFar (map f units) at taken → now ≡ at → count ≡ length units → IsLeast (map f units) now count unit first → x ≡ slice_index_or units unit x → place ≡ slice_index_or at unit place → IsAt f units at unit x place
is_at f units at now unit x place first count taken so same len least is there =
    let low = least.low in
    let long = length-map units f in
    let size = so.size in
    let placed : place ≡ slice_index at unit = there ∙ default at unit place 0 (omega (arith, low, len, long, size)) in
    record {
      low = omega (arith, low, len, long);
      place_is = placed;
      head_is = ap (slice_get (f x)) placed ∙ head-is f units at unit x (omega (arith, low, len)) is;
    }
