-- Histories whose acts are within their limits
use Rattle.std.proofs.Common.{◌≡◌, ℕ, zero, suc, List, [], ◌∷◌, ◌++◌, Some, true, subst}
use Rattle.std.specs.List.{slice_get}
use Rattle.cm_base.specs.Configuration.{Configuration}
use Rattle.cm_history.specs.declared.act.Entry.{Entry}
use Rattle.cm_history.specs.Limits.{within_limits}
use Rattle.plain_model.specs.Holds.{AreWithin}

-- what is so of each entry, and of one more
push : (P : Entry → Type 0) (entries : List Entry) (new : Entry)
    → ((place : ℕ) (e : Entry) → slice_get entries place ≡ Some e → P e) → P new
    → (place : ℕ) (e : Entry) → slice_get (entries ++ new ∷ []) place ≡ Some e → P e
push P [] new all is zero e at = let same : new ≡ e = cc in subst P same is
push P [] new all is (suc place) e at = absurd (cc)
push P (first ∷ entries) new all is zero e at = all 0 e at
push P (first ∷ entries) new all is (suc place) e at = push P entries new (λ k x h. all (suc k) x h) is place e at

pub within-push : (config : Configuration) (unit : ℕ) (entries : List Entry) (new : Entry) → AreWithin config unit entries
    → (new.unit ≡ unit → within_limits config unit new.act ≡ true) → AreWithin config unit (entries ++ new ∷ [])
within-push config unit entries new all is = push (λ (e : Entry). e.unit ≡ unit → within_limits config unit e.act ≡ true) entries new all is
