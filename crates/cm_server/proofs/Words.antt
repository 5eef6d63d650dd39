-- Words that ask for serving
use Rattle.std.proofs.Common.{◌≡◌, ℕ, ◌<◌, ◌≤◌, ◌-◌, Bool, List, [], ◌∷◌, length, decimal, sym, ap, ap₂, ◌∙◌, arith, take}
use Rattle.std.specs.Prelude.{◌≢◌, codes, slice_index_or, IsTrue, nat_eq, Option, Some, None, IfSome, IfNone}
use lib.Pointwise.{pointwise}
use Rattle.std.proofs.lemmas.Bool.Decides.{Decides-eqb}
use Rattle.std.proofs.lemmas.Slice.Eq.{slice_eq-Decides}
use Rattle.cm_base.specs.Numbers.{IsUpTo}
use Rattle.cm_server.specs.Words.{AreFolderWords, AreManageWords, AreSessionWords, IsPlain}

-- the three words of a list
pub three-words : (ws : List (List ℕ)) (w a n : List ℕ) → 3 ≤ length ws → length ws < 4
    → w ≡ slice_index_or ws 0 w → a ≡ slice_index_or ws 1 a → n ≡ slice_index_or ws 2 n → ws ≡ w ∷ a ∷ n ∷ []
three-words [] w a n some few is second third = absurd (omega (arith, some))
three-words (x ∷ []) w a n some few is second third = absurd (omega (arith, some))
three-words (x ∷ y ∷ []) w a n some few is second third = absurd (omega (arith, some))
three-words (x ∷ y ∷ z ∷ []) w a n some few is second third = ap₂ (λ v u. v ∷ u) (sym is) (ap₂ (λ v u. v ∷ u ∷ []) (sym second) (sym third))
three-words (x ∷ y ∷ z ∷ v ∷ ws) w a n some few is second third = absurd (omega (arith, few))

-- bytes that were compared
pub same-bytes : (w word : List ℕ) (same : Bool) → same ≡ pointwise nat_eq w word → IsTrue same → w ≡ word
same-bytes w word same e holds = (slice_eq-Decides Decides-eqb w word same e).0 holds

-- the number that was read of the third word
pub asked-of : (r : Option ℕ) (ws : List (List ℕ)) (word w a n : List ℕ) → ws ≡ w ∷ a ∷ n ∷ [] → w ≡ word → IsPlain a
    → IfSome r (λ k. IsUpTo 256 k × (n ≡ decimal k)) → IfSome r (λ k. AreSessionWords word ws k)
asked-of None ws word w a n is same plain read = tt
asked-of (Some k) ws word w a n is same plain read = record {
  address = a;
  spelled = is ∙ ap₂ (λ v u. v ∷ a ∷ u ∷ []) same read.1;
  plain = plain;
  few = read.0;
}

-- words with a folder behind them are such words without it
pub without-folder : (word : List ℕ) (ws : List (List ℕ)) (n : ℕ) → AreFolderWords word ws n → AreSessionWords word (take (length ws - 1) ws) n
without-folder word ws n r = record {
  address = r.address;
  spelled = ap (λ (v : List (List ℕ)). take (length v - 1) v) r.spelled;
  plain = r.plain.0;
  few = r.few;
}

-- none are asked for by the words where none are without the folder
pub none-asked : (r : Option ℕ) (word : List ℕ) (ws : List (List ℕ)) → IfNone r ((n : ℕ) → AreSessionWords word (take (length ws - 1) ws) n → ⊥)
    → IfNone r ((n : ℕ) → AreFolderWords word ws n → ⊥)
none-asked None word ws none = λ n are. none n (without-folder word ws n are)
none-asked (Some k) word ws none = tt

-- the words that ask for a manager
pub manage-words : (ws : List (List ℕ)) (word w a n : List ℕ) → ws ≡ w ∷ a ∷ n ∷ [] → w ≡ word → word ≡ codes "manage" → IsPlain a → IsPlain n × (n ≢ [])
    → AreManageWords ws
manage-words ws word w a n is same verb plain named = record {
  address = a;
  file = n;
  spelled = is ∙ ap (λ v. v ∷ a ∷ n ∷ []) (same ∙ verb);
  plain = (plain, named.0);
  named = named.1;
}
