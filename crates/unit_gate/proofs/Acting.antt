-- An act of a unit with its recorder
use Rattle.std.proofs.Common.{◌≡◌, ℕ, List, [], ◌∷◌, ◌++◌, refl, ap, sym, ◌∙◌, subst, arith}
use Rattle.std.specs.Prelude.{None, Some}
use Rattle.std.specs.List.{last_or}
use Rattle.cm_history.specs.declared.act.Entry.{Entry}
use Rattle.cm_history.specs.Deeds.{last_stamp}
use Rattle.cm_history.specs.History.{past_of}
use Rattle.recorder.specs.Recording.{FirstFits}
use Rattle.unit_core.specs.UnitState.{UnitState, Stands}
use Rattle.unit_core.specs.Acting.{entry_at}
use Rattle.unit_gate.specs.declared.asked.AskedAct.{AskedAct}
use Rattle.unit_gate.specs.Recorded.{RecordedState, StandsFor, kin_of, newest}
use Rattle.unit_gate.specs.Asking.{entry_of}
use Rattle.unit_gate.specs.inner.Keeping.{KeepsRecord}
use Rattle.unit_gate.proofs.Lists.{last-pushed, first-pushed}
use Rattle.unit_gate.proofs.Stamps.{last-push}
use Rattle.unit_gate.proofs.Standing.{entry-is, stands-more}

-- the entry, as the unit makes it
abbrev made : UnitState → AskedAct → Entry
made u asked = entry_at u asked.actor asked.seq asked.stamp asked.moment asked.act

module _ (s : RecordedState) (new : UnitState) (asked : AskedAct)
    (stands : (h : List Entry) → Stands s.unit h → Stands new (h ++ made s.unit asked ∷ []))
    (kept : new.kept ≡ s.unit.kept ++ made s.unit asked ∷ []) (folded : new.folded ≡ s.unit.folded) where
  pub stands-acted : (h : List Entry) → StandsFor s h → StandsFor (record s { unit = new }) (h ++ entry_of (kin_of s) h asked ∷ [])
  stands-acted h is =
      stands-more s (record s { unit = new }) h (entry_of (kin_of s) h asked) is (subst (λ e. Stands new (h ++ e ∷ [])) (entry-is s h asked is) (stands h is.unit)) folded refl refl (omega arith)

  pub newest-acted : (h : List Entry) → StandsFor s h → newest (record s { unit = new }) ≡ Some (entry_of (kin_of s) h asked)
  newest-acted h is = ap (last_or None) kept ∙ last-pushed None s.unit.kept (made s.unit asked) ∙ ap Some (entry-is s h asked is)

  -- the last stamp is that of the entry
  pub stamp-acted : (h : List Entry) (stamp : ℕ) → StandsFor s h → ((h : List Entry) → Stands new h → stamp ≡ last_stamp (past_of new.config new.unit h)) → stamp ≡ (entry_of (kin_of s) h asked).stamp
  stamp-acted h stamp is told =
      let now = stands h is.unit in
      told (h ++ made s.unit asked ∷ []) now ∙ last-push new.config new.unit h (made s.unit asked) now.own ∙ ap (λ (e : Entry). e.stamp) (entry-is s h asked is)

  pub keeps-acted : (fits : Entry → Type 0) → KeepsRecord fits s → KeepsRecord fits (record s { unit = new })
  keeps-acted fits keeps = record {
    first = subst (FirstFits fits) (sym kept) (first-pushed fits s.unit.kept (made s.unit asked) keeps.first);
    absent = keeps.absent;
    front = keeps.front;
    unfolded = λ none. folded ∙ keeps.unfolded none;
    history = keeps.history ++ entry_of (kin_of s) keeps.history asked ∷ [];
    stands = stands-acted keeps.history keeps.stands;
  }
