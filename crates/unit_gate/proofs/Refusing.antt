-- Refused acts
use Rattle.std.proofs.Common.{Ok, Err, IfOk, IfErr, ◌≡◌, ℕ, ◌-◌, ◌^◌, List, ap, sym, subst, ◌∙◌, Bool, true, false}
use Rattle.std.proofs.lemmas.Bool.{eq-eqb}
use Rattle.std.specs.declared.result.Result.{Result}
use Rattle.std.specs.Prelude.{OnErr, is_some, max, ◌==◌, ◌||◌}
use Rattle.cm_history.specs.declared.act.Act.{Act}
use Rattle.cm_history.specs.declared.act.Actor.{Actor}
use Rattle.cm_history.specs.declared.act.Entry.{Entry}
use Rattle.cm_history.specs.declared.refused.ActRefused.{ActRefused}
use Rattle.cm_history.specs.Deeds.{Deed, last_stamp}
use Rattle.cm_history.specs.Ends.{ends_operation}
use Rattle.cm_history.specs.Operations.{would_serve}
use Rattle.unit_gate.specs.declared.asked.Acted.{Acted}
use Rattle.unit_gate.specs.declared.asked.AskedAct.{AskedAct}
use Rattle.unit_gate.specs.declared.kin.UnitKin.{UnitKin}
use Rattle.unit_gate.specs.Asking.{IsAtLastStamp, IsServed, ends_one, is_full_at, past, serves_operation}
use Rattle.unit_gate.specs.Recorded.{RecordedState, StandsFor, kin_of}
use Rattle.unit_gate.specs.UnitActs.{DidAct, NotDone, WasFolded}

pub clash : false ≡ true → ⊥
clash e = cc

-- an act that ends an operation serves one
ends-serves : (past : List Deed) (actor : Actor) (act : Act) → ends_operation past actor act ≡ true → is_some (would_serve past actor act) ≡ true
ends-serves past actor (Act.End id) e = e
ends-serves past actor (Act.Abort id) e = e
ends-serves past actor (Act.Close id result) e = e
ends-serves past actor _ e = cc

-- an act that serves no operation ends none
pub served-not : (kin : UnitKin) (h : List Entry) (asked : AskedAct) (refused : ActRefused) → serves_operation kin h asked ≡ false → IsServed kin h asked refused
served-not kin h asked refused alone = record {
  serving = λ is serves. let bad = sym alone ∙ serves in cc;
  ending = λ ends. let bad = sym alone ∙ ends-serves (past kin h) asked.actor asked.act ends in cc;
}

-- room was wanted, and the recorder wanted memory
pub no-room : (old mid : RecordedState) (h : List Entry) (asked : AskedAct) → StandsFor mid h → serves_operation (kin_of old) h asked ≡ false → NotDone old mid h asked ActRefused.OutOfMemory
no-room old mid h asked stands alone = record {
  stands = stands;
  full = λ is. cc;
  folded = λ is. cc;
  served = served-not (kin_of old) h asked ActRefused.OutOfMemory alone;
}

-- there is no room where no stamp is left, however many entries are folded
at-last : (a b : ℕ) (entries bytes : Bool) → a ≡ b → ((a == b) || entries || bytes) ≡ true
at-last a b entries bytes same = ap (λ t. t || entries || bytes) (eq-eqb a b same)

pub full-at-last : (kin : UnitKin) (h : List Entry) (folded : ℕ) (asked : AskedAct) → IsAtLastStamp kin h asked → is_full_at kin h folded asked ≡ true
full-at-last kin h folded asked last = at-last (max asked.stamp (last_stamp (past kin h))) (2 ^ 64 - 1) _ _ last

-- no stamp is left, and so the act is served as it may be
served-last : (kin : UnitKin) (h : List Entry) (asked : AskedAct) (refused : ActRefused) → IsAtLastStamp kin h asked → IsServed kin h asked refused
served-last kin h asked refused last = record { serving = λ is serves. last; ending = λ ends. last }

-- no stamp was left, and the recorder wanted memory
pub wanted-memory : (old mid : RecordedState) (h : List Entry) (asked : AskedAct) → StandsFor mid h → IsAtLastStamp (kin_of old) h asked → NotDone old mid h asked ActRefused.OutOfMemory
wanted-memory old mid h asked stands last = record {
  stands = stands;
  full = λ is. cc;
  folded = λ is. cc;
  served = served-last (kin_of old) h asked ActRefused.OutOfMemory last;
}

-- no stamp is left, after the entries were recorded
pub full-still : (old mid : RecordedState) (h : List Entry) (asked : AskedAct) → StandsFor mid h → WasFolded old mid → IsAtLastStamp (kin_of old) h asked → NotDone old mid h asked ActRefused.Full
full-still old mid h asked stands folded last = record {
  stands = stands;
  full = λ is. full-at-last (kin_of old) h mid.unit.folded asked last;
  folded = λ is. folded;
  served = served-last (kin_of old) h asked ActRefused.Full last;
}

-- memory was wanted by an act that ends no operation
pub ends-none : (old mid : RecordedState) (h : List Entry) (asked : AskedAct) → StandsFor mid h → ends_one (kin_of old) h asked ≡ false → NotDone old mid h asked ActRefused.OutOfMemory
ends-none old mid h asked stands none = record {
  stands = stands;
  full = λ is. cc;
  folded = λ is. cc;
  served = record { serving = λ is. cc; ending = λ ends. absurd (clash (sym none ∙ ends)) };
}

-- ---- an act that serves no operation, after its room was made

module _ (old mid new : RecordedState) (asked : AskedAct) (stands : (h : List Entry) → StandsFor old h → StandsFor mid h) (kin : kin_of mid ≡ kin_of old) where
  pub done-in-room : (r : Result Acted ActRefused) → IfOk r (λ a. (h : List Entry) → StandsFor mid h → DidAct (kin_of mid) new h asked a)
      → IfOk r (λ a. (h : List Entry) → StandsFor old h → DidAct (kin_of old) new h asked a)
  done-in-room (Ok a) done = λ h is. subst (λ (k : UnitKin). DidAct k new h asked a) kin (done h (stands h is))
  done-in-room (Err e) done = tt

  -- it is as before, and there is no room though the entries were recorded
  refused-by : (e : ActRefused) (h : List Entry) → new ≡ mid → (e ≡ ActRefused.Full → is_full_at (kin_of mid) h mid.unit.folded asked ≡ true)
      → (is_full_at (kin_of old) h mid.unit.folded asked ≡ true → WasFolded old mid) → StandsFor old h → serves_operation (kin_of old) h asked ≡ false → NotDone old new h asked e
  refused-by e h same full folded is alone = record {
    stands = subst (λ (s : RecordedState). StandsFor s h) (sym same) (stands h is);
    full = λ at. subst (λ (s : RecordedState). is_full_at (kin_of old) h s.unit.folded asked ≡ true) (sym same) (no-room-left at);
    folded = λ at. subst (λ (s : RecordedState). WasFolded old s) (sym same) (folded (no-room-left at));
    served = served-not (kin_of old) h asked e alone;
  }
    where
      no-room-left : e ≡ ActRefused.Full → is_full_at (kin_of old) h mid.unit.folded asked ≡ true
      no-room-left at = subst (λ (k : UnitKin). is_full_at k h mid.unit.folded asked ≡ true) kin (full at)

  pub refused-in-room : (r : Result Acted ActRefused) → OnErr r (new ≡ mid)
      → IfErr r (λ e. e ≡ ActRefused.Full → (h : List Entry) → StandsFor mid h → is_full_at (kin_of mid) h mid.unit.folded asked ≡ true)
      → ((h : List Entry) → StandsFor old h → is_full_at (kin_of old) h mid.unit.folded asked ≡ true → WasFolded old mid)
      → ((h : List Entry) → StandsFor old h → serves_operation (kin_of old) h asked ≡ false)
      → IfErr r (λ e. (h : List Entry) → StandsFor old h → NotDone old new h asked e)
  refused-in-room (Ok a) same full folded alone = tt
  refused-in-room (Err e) same full folded alone = λ h is. refused-by e h same (λ at. full at h (stands h is)) (folded h is) is (alone h is)
