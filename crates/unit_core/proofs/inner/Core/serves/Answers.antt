use Rattle.std.proofs.Common.{◌≡◌, ℕ, List, false, ◌∙◌, ap, refl, sym, inl, inr}
use Rattle.std.specs.List.{list_any}
use Rattle.std.specs.Prelude.{Some, None, is_some}
use Rattle.cm_history.specs.Operations.{OfToken, OfCopy, running, would_serve}
use Rattle.cm_history.specs.Legal.{may_ask}
use Rattle.cm_history.specs.Deeds.{Deed}
use Rattle.cm_history.specs.declared.act.Actor.{Actor}
use Rattle.cm_history.specs.declared.act.CopyEnd.{CopyEnd}
use Rattle.cm_history.specs.declared.act.Act.{Act}
use Rattle.cm_history.specs.History.{past_of}
use Rattle.cm_history.proofs.PublicLaws.{find-none}
use Rattle.copy_jobs.specs.Pieces.{is_next, runs_in_background}
use Rattle.copy_jobs.specs.Jobs.{is_busy}
use Rattle.unit_core.specs.Keys.{key_of}
use Rattle.unit_core.proofs.Asking.{asker, serves-advance, serves-pump, serves-abort, serves-close}
use Rattle.unit_core.proofs.Steps.{known-of}
use Rattle.unit_core.proofs.inner.Core.serves.Goals as goal

others : (past : List Deed) (actor : Actor) (act : Act) → ((id : ℕ) → act ≡ Act.Advance id → ⊥) → (act ≡ Act.Pump → ⊥) → ((id : ℕ) → act ≡ Act.End id → ⊥)
    → ((id : ℕ) → act ≡ Act.Abort id → ⊥) → ((id : ℕ) (result : CopyEnd) → act ≡ Act.Close id result → ⊥) → false ≡ is_some (would_serve past actor act)
others past actor (Act.Advance id) a p e b k = absurd (a id refl)
others past actor Act.Pump a p e b k = absurd (p refl)
others past actor (Act.End id) a p e b k = absurd (e id refl)
others past actor (Act.Abort id) a p e b k = absurd (b id refl)
others past actor (Act.Close id result) a p e b k = absurd (k id result refl)
others past actor _ a p e b k = sym (ap is_some (find-none (running past)))

pub returns-in-Pump : goal.returns-in-Pump
returns-in-Pump g c = λ h a.
    let u = c.args.self.now in
    let past = past_of u.config u.unit h in
    let known = known-of u.config u.unit h a.record_is in
    rw (c.in-Pump.is)
    (c.waits.ensures ∙ ap (list_any (is_next None)) a.jobs ∙ serves-pump u.config u.unit past c.args.actor known)

pub returns-in-Abort : goal.returns-in-Abort
returns-in-Abort g c = λ h a.
    let u = c.args.self.now in
    let past = past_of u.config u.unit h in
    let known = known-of u.config u.unit h a.record_is in
    let mine = asker c.args.self.now.unit c.args.actor (Act.Abort c.in-Abort.id) (sym (ap (may_ask c.args.self.now.unit c.args.actor) c.in-Abort.is) ∙ c.requires.asked) refl in
    rw (c.in-Abort.is)
    (c.runs_in_background.ensures ∙ ap (λ k. list_any (runs_in_background k) u.tables.jobs) c.token_key.ensures
    ∙ ap (list_any (runs_in_background (key_of c.args.actor OfToken c.in-Abort.id))) a.jobs ∙ serves-abort u.config u.unit past c.args.actor c.in-Abort.id known mine)

pub returns-in-Close : goal.returns-in-Close
returns-in-Close g c = λ h a.
    let u = c.args.self.now in
    let past = past_of u.config u.unit h in
    let known = known-of u.config u.unit h a.record_is in
    let mine = asker c.args.self.now.unit c.args.actor (Act.Close c.in-Close.id c.in-Close.result) (sym (ap (may_ask c.args.self.now.unit c.args.actor) c.in-Close.is) ∙ c.requires.asked) refl in
    rw (c.in-Close.is)
    (c.runs.ensures.busy ∙ ap (λ k. is_busy k u.tables.jobs) c.copy_key.ensures
    ∙ ap (is_busy (key_of c.args.actor OfCopy c.in-Close.id)) a.jobs ∙ serves-close u.config u.unit past c.args.actor c.in-Close.id c.in-Close.result known mine)

pub returns-in_default : goal.returns-in_default
returns-in_default g c = λ h a.
    others (past_of c.args.self.now.config c.args.self.now.unit h) c.args.actor c.args.act.now
    c.in_default.not-Advance c.in_default.not-Pump c.in_default.not-End c.in_default.not-Abort c.in_default.not-Close

pub returns-in-Advance : goal.returns-in-Advance
returns-in-Advance g c = λ h a.
    let u = c.args.self.now in
    let past = past_of u.config u.unit h in
    let known = known-of u.config u.unit h a.record_is in
    let told = c.waits-in-Advance.ensures ∙ ap (λ k. list_any (is_next (Some k)) u.tables.jobs) c.token_key-in-Advance.ensures
    ∙ ap (list_any (is_next (Some (key_of c.args.actor OfToken c.in-Advance.id)))) a.jobs in
    elim c.in-Advance.is [
      | inl e ↦ rw (e) (told ∙ serves-advance u.config u.unit past c.args.actor c.in-Advance.id known
          (asker c.args.self.now.unit c.args.actor (Act.Advance c.in-Advance.id) (sym (ap (may_ask c.args.self.now.unit c.args.actor) e) ∙ c.requires.asked) refl))
      | inr e ↦ rw (e) (told ∙ serves-advance u.config u.unit past c.args.actor c.in-Advance.id known
          (asker c.args.self.now.unit c.args.actor (Act.End c.in-Advance.id) (sym (ap (may_ask c.args.self.now.unit c.args.actor) e) ∙ c.requires.asked) refl))
    ]
