-- Units that have done nothing
use Rattle.std.proofs.Common.{◌≡◌, ℕ, zero, suc, List, [], ◌∷◌, ◌++◌, sym, ◌∙◌}
use Rattle.std.specs.Prelude.{Some, slice_get}
use Rattle.cm_history.specs.Deeds.{Deed}

abbrev pub HaveDoneNothing : List (List Deed) → Type 0
HaveDoneNothing units = (u : ℕ) (past : List Deed) → slice_get units u ≡ Some past → past ≡ []

-- one more
pub one-more : (units : List (List Deed)) (new : List Deed) → new ≡ [] → HaveDoneNothing units → HaveDoneNothing (units ++ new ∷ [])
one-more [] new none all zero past e = let same : new ≡ past = cc in sym same ∙ none
one-more [] new none all (suc u) past e = cc
one-more (x ∷ units) new none all zero past e = all zero past e
one-more (x ∷ units) new none all (suc u) past e = one-more units new none (λ n p f. all (suc n) p f) u past e
