-- How a command is run
use Rattle.std.proofs.Common.{◌≡◌, ℕ, List, [], ◌∷◌, ◌++◌, refl, ap, sym, ◌∙◌, subst, true, false, Bool, append-nil, append_assoc}
use Rattle.std.specs.Prelude.{cond, not, ◌&&◌, ◌||◌, Option}
use Rattle.cm_base.specs.Configuration.{Configuration}
use Rattle.cm_frame.specs.declared.frame.Reply.{Reply}
use Rattle.cm_history.specs.declared.act.Act.{Act}
use Rattle.cm_history.specs.declared.act.Actor.{Actor}
use Rattle.cm_history.specs.declared.act.Entry.{Entry}
use Rattle.cm_history.specs.History.{answer}
use Rattle.cmd_program.specs.declared.step.Outcome.{Outcome}
use Rattle.cmd_program.specs.Stepping.{gave_up, gives_up}
use Rattle.trace_replay.specs.declared.units.Units.{Units}
use Rattle.trace_replay.specs.declared.nexus.Nexus.{Nexus}
use Rattle.trace_replay.specs.ReplayState.{Pending, Shortage, Nowhere, AtBegin, AtAct, AtStep, seq, has_no_room, entries_after, outcome_of, noted, noted_at_step, outcomes_at, entries_at}
use Rattle.cm_history.specs.Ends.{ends_operation}
use Rattle.cm_history.specs.History.{past_of}
use Rattle.trace_replay.specs.inner.Machines.{HaveCounted, HasActed, HasRun, WentOn, shortage_of, is_at_act_of}
use Rattle.trace_replay.proofs.CommandSteps.{gave-up-more, gave-up-none}

always : (b : Bool) → cond b true true ≡ true
always true = refl
always false = refl

or-front : (a b : Bool) → a ≡ true → (a || b) ≡ true
or-front a b e = rw e refl

-- an outcome at which the command goes on was not for want of room
room-there : (config : Configuration) (entries : List Entry) (actor : Actor) (u moment : ℕ) (act : Act) (before : List Outcome) (found : Outcome)
    → outcome_of config entries actor u moment act ≡ found → (gave_up (before ++ found ∷ []) ≡ true → ⊥) → has_no_room config entries actor u act ≡ false
room-there config entries actor u moment act before found is goes = go (has_no_room config entries actor u act) refl
  where
    or-true : (b : Bool) → (b || true) ≡ true
    or-true true = refl
    or-true false = refl

    go : (t : Bool) → has_no_room config entries actor u act ≡ t → has_no_room config entries actor u act ≡ false
    go false e = e
    go true e =
        let full : found ≡ Outcome.Full = sym is ∙ ap (λ b. cond b Outcome.Full (Outcome.Answered (answer config entries u actor moment act))) e in
        absurd (goes (gave-up-more before found ∙ ap (λ o. gave_up before || gives_up o) full ∙ or-true (gave_up before)))

module _ (config : Configuration) (entries : List Entry) (p : Pending) (u moment : ℕ) (act : Act) (after : Units) (nexus : Nexus) (reply : Option Reply) (found : Outcome) where
  abbrev actor : Actor
  actor = Actor.Nexus p.initiator

  abbrev outcome : Outcome
  outcome = outcome_of config entries actor u moment act

  abbrev later : List Entry
  later = entries_after config entries actor u moment act

  -- its outcomes, and the shortage
  moved-on : (shortage : Shortage) (more outcomes : List Outcome) → (p.outcomes ++ found ∷ []) ++ more ≡ p.outcomes ++ outcomes → outcomes ≡ outcomes_at shortage outcome
      → WentOn config (noted (noted p (found ∷ [])) more) nexus.waiting reply → WentOn config (noted p (outcomes_at shortage outcome)) nexus.waiting reply
  moved-on shortage more outcomes same is went =
      subst (λ os. WentOn config (record p { outcomes = os }) nexus.waiting reply) (same ∙ ap (λ l. p.outcomes ++ l) is) went

  pub has-run : (n : ℕ) → HasActed config entries p.initiator u moment act (gave_up p.outcomes) after n found → nexus.seq ≡ n
      → (wanted : Bool) → (gave_up (p.outcomes ++ found ∷ []) ≡ true → wanted ≡ false)
      → WentOn config (noted (noted p (found ∷ [])) (noted_at_step (shortage_of wanted))) nexus.waiting reply
      → HasRun config entries p u moment act after nexus reply
  has-run n acted right wanted once went = go acted.shortage acted.allowed acted.units (right ∙ acted.seq) acted.outcome wanted once went
    where
      go : (shortage : Shortage) → is_at_act_of (gave_up p.outcomes) shortage (ends_operation (past_of config u entries) actor act) ≡ true
          → HaveCounted config (entries_at shortage entries later) after → nexus.seq ≡ seq actor (entries_at shortage entries later)
          → outcomes_at shortage outcome ≡ found ∷ [] → (wanted : Bool) → (gave_up (p.outcomes ++ found ∷ []) ≡ true → wanted ≡ false)
          → WentOn config (noted (noted p (found ∷ [])) (noted_at_step (shortage_of wanted))) nexus.waiting reply
          → HasRun config entries p u moment act after nexus reply
      go Nowhere allowed units n is false once went = record {
        shortage = Nowhere;
        allowed = always (gave_up p.outcomes);
        units = units;
        seq = n;
        went = moved-on Nowhere [] (found ∷ []) (append-nil (p.outcomes ++ found ∷ [])) (sym is) went;
      }
      go Nowhere allowed units n is true once went =
          let same : outcome ≡ found = cc in
          let goes : gave_up (p.outcomes ++ found ∷ []) ≡ true → ⊥ = λ e. let k = once e in cc in
          let first : gave_up p.outcomes ≡ false = not-before goes in
          let room = room-there config entries actor u moment act p.outcomes found same goes in
          record {
            shortage = AtStep;
            allowed = rw (first, room) refl;
            units = units;
            seq = n;
            went = moved-on AtStep (Outcome.NoMemory ∷ []) (found ∷ Outcome.NoMemory ∷ []) (append_assoc p.outcomes (found ∷ []) (Outcome.NoMemory ∷ [])) (ap (λ o. o ∷ Outcome.NoMemory ∷ []) (sym same)) went;
          }
        where
          not-before : (gave_up (p.outcomes ++ found ∷ []) ≡ true → ⊥) → gave_up p.outcomes ≡ false
          not-before goes = by (gave_up p.outcomes) refl
            where
              by : (t : Bool) → gave_up p.outcomes ≡ t → gave_up p.outcomes ≡ false
              by false e = e
              by true e = absurd (goes (gave-up-more p.outcomes found ∙ or-front (gave_up p.outcomes) (gives_up found) e))
      go AtAct allowed units n is wanted once went =
          let none : found ≡ Outcome.NoMemory = cc in
          let first = left-of (gave_up p.outcomes) (ends_operation (past_of config u entries) actor act) allowed in
          let ends = right-of (gave_up p.outcomes) (ends_operation (past_of config u entries) actor act) allowed in
          let gone : wanted ≡ false = once (ap (λ o. gave_up (p.outcomes ++ o ∷ [])) none ∙ gave-up-none p.outcomes) in
          record {
            shortage = AtAct;
            allowed = rw (first, ends) refl;
            units = units;
            seq = n;
            went = moved-on AtAct [] (found ∷ []) (append-nil (p.outcomes ++ found ∷ [])) (sym is)
                (subst (λ w. WentOn config (noted (noted p (found ∷ [])) (noted_at_step (shortage_of w))) nexus.waiting reply) gone went);
          }
        where
          left-of : (a b : Bool) → (not a && not b) ≡ true → a ≡ false
          left-of true b e = cc
          left-of false b e = refl

          right-of : (a b : Bool) → (not a && not b) ≡ true → b ≡ false
          right-of true b e = cc
          right-of false true e = cc
          right-of false false e = refl
      go AtBegin allowed units n is wanted once went = cc
      go AtStep allowed units n is wanted once went = cc
