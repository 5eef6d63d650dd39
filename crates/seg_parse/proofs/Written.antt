-- The descriptors of lists that grow, and their length
use Rattle.std.proofs.Common.{◌≡◌, ℕ, ◌+◌, List, [], ◌∷◌, ◌++◌, take, Some, refl, sym, ap, ◌∙◌, append_assoc, append-nil}
use Rattle.std.specs.List.{slice_get}
use Rattle.lba_ranges.proofs.PublicLaws.{take-get}
use Rattle.seg_parse.specs.declared.list.Cscd.{Cscd}
use Rattle.seg_parse.specs.declared.list.Segment.{Segment}
use Rattle.seg_parse.specs.ListWritten.{cscd_bytes, segment_bytes, all_cscds, all_segments}

pub all_cscds-push : (us : List Cscd) (u : Cscd) → all_cscds (us ++ u ∷ []) ≡ all_cscds us ++ cscd_bytes u
all_cscds-push [] u = append-nil (cscd_bytes u)
all_cscds-push (x ∷ xs) u = ap (λ l. cscd_bytes x ++ l) (all_cscds-push xs u) ∙ sym (append_assoc (cscd_bytes x) (all_cscds xs) (cscd_bytes u))

pub all_segments-push : (ss : List Segment) (s : Segment) → all_segments (ss ++ s ∷ []) ≡ all_segments ss ++ segment_bytes s
all_segments-push [] s = refl
all_segments-push (x ∷ xs) s = ap (λ l. segment_bytes x ++ l) (all_segments-push xs s)

-- one more item is written
pub written-more : {A : Type 0} (all : List A → List ℕ) (one : A → List ℕ) → ((xs : List A) (x : A) → all (xs ++ x ∷ []) ≡ all xs ++ one x)
    → (items : List A) (i : ℕ) (item : A) (first before after spelled : List ℕ) → slice_get items i ≡ Some item → before ≡ first ++ all (take i items)
    → spelled ≡ one item → after ≡ before ++ spelled → after ≡ first ++ all (take (i + 1) items)
written-more all one push items i item first before after spelled found so_far is more =
    more ∙ ap (λ l. l ++ spelled) so_far ∙ ap (λ l. first ++ all (take i items) ++ l) is ∙ append_assoc first (all (take i items)) (one item)
    ∙ ap (λ l. first ++ l) (sym (push (take i items) item)) ∙ ap (λ l. first ++ all l) (sym (take-get items i item found))
