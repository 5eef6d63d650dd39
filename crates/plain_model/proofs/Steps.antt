-- One more entry of a history
use Rattle.std.proofs.Common.{◌≡◌, ℕ, ◌≤◌, ◌^◌, List, [], ◌∷◌, ◌++◌, ap, sym, ◌∙◌, subst}
use Rattle.cm_base.specs.Configuration.{Configuration}
use Rattle.cm_base.specs.Units.{unit_of}
use Rattle.cm_history.specs.declared.act.Entry.{Entry}
use Rattle.cm_history.specs.Deeds.{Deed}
use Rattle.cm_history.specs.Answers.{deed}
use Rattle.cm_history.specs.History.{past_of}
use Rattle.plain_model.specs.inner.Holds.{MayFollow, IsSizedPast}
use Rattle.plain_model.specs.inner.Fitting.{Fits, AllFit}
use Rattle.plain_model.specs.inner.Pasts.{IsPlayed}
use Rattle.cm_history.proofs.PublicLaws.{past-is, past_of-mine, past_of-other}
use Rattle.plain_model.proofs.Sizes.{deed-sized}
use Rattle.plain_model.proofs.Sound.{may-follow}

pub fit-mine : (config : Configuration) (unit : ℕ) (entries : List Entry) (e : Entry) → AllFit config unit (past_of config unit entries) → e.unit ≡ unit → Fits config unit e.act
    → AllFit config unit (past_of config unit (entries ++ e ∷ []))
fit-mine config unit entries e all here fits = subst (AllFit config unit) (sym (past_of-mine config unit entries e here)) (fits, all)

pub fit-other : (config : Configuration) (unit : ℕ) (entries : List Entry) (e : Entry) → AllFit config unit (past_of config unit entries) → (e.unit ≡ unit → ⊥)
    → AllFit config unit (past_of config unit (entries ++ e ∷ []))
fit-other config unit entries e all other = subst (AllFit config unit) (sym (past_of-other config unit entries e other)) all

pub played-mine : (config : Configuration) (unit : ℕ) (entries : List Entry) (e : Entry) (past next : List Deed) → AllFit config unit (past_of config unit entries) → IsPlayed config unit entries past
    → e.unit ≡ unit → Fits config unit e.act → next ≡ deed config unit past e ∷ past → IsPlayed config unit (entries ++ e ∷ []) next
played-mine config unit entries e past next all was here fits is = record {
  is = is ∙ ap (λ (p : List Deed). deed config unit p e ∷ p) was.is ∙ sym (past_of-mine config unit entries e here);
  sized = subst (λ p. IsSizedPast (unit_of config unit).block_length p) (sym is) (deed-sized config unit past e (subst (AllFit config unit) (sym was.is) all) fits, was.sized);
}

pub played-other : (config : Configuration) (unit : ℕ) (entries : List Entry) (e : Entry) (past : List Deed) → IsPlayed config unit entries past → (e.unit ≡ unit → ⊥)
    → IsPlayed config unit (entries ++ e ∷ []) past
played-other config unit entries e past was other = record {
  is = was.is ∙ sym (past_of-other config unit entries e other);
  sized = was.sized;
}

-- the deed of the next entry may follow
pub follows : (config : Configuration) (unit : ℕ) (entries : List Entry) (e : Entry) (past : List Deed) → (unit_of config unit).blocks ≤ 2 ^ 64
    → AllFit config unit (past_of config unit entries) → past ≡ past_of config unit entries → Fits config unit e.act → MayFollow past (deed config unit past e)
follows config unit entries e past few all is fits =
    subst (λ (p : List Deed). MayFollow p (deed config unit p e)) (sym is) (may-follow config unit (past_of config unit entries) e few (past-is config unit entries) all fits)
