-- A command that is being run
use Rattle.std.proofs.Common.{◌≡◌, ℕ, suc, ◌-◌, List, [], ◌∷◌, ◌++◌, ap, sym, ◌∙◌, subst, append_assoc, arith}
use Rattle.std.specs.Prelude.{All, Result, Ok, Err, IfOk, ◌≤◌}
use Rattle.std.proofs.lemmas.List.Elements.{All-append, All-from_recursion}
use Rattle.cm_base.specs.Configuration.{Configuration}
use Rattle.cm_frame.specs.declared.frame.Request.{Request}
use Rattle.cm_frame.specs.declared.frame.Reply.{Reply}
use Rattle.cm_history.specs.declared.act.Act.{Act}
use Rattle.cm_history.specs.declared.answer.Answer.{Answer}
use Rattle.cm_history.specs.declared.refused.ActRefused.{ActRefused}
use Rattle.cmd_program.specs.declared.step.Step.{Step}
use Rattle.cmd_program.specs.declared.step.Outcome.{Outcome}
use Rattle.cm_history.specs.Forms.{HasForm}
use Rattle.cmd_program.specs.Meaning.{MayFollow}
use Rattle.cmd_program.specs.Running.{Call, outcome_of, called}
use Rattle.cmd_program.specs.Judging.{step, program_after}
use Rattle.cmd_machine.specs.declared.command.CommandOf.{CommandOf}
use Rattle.any_cmds.specs.declared.phase.AnyPhase.{AnyPhase}
use Rattle.cmd_machine.specs.Rest.{StandsFor}
use Rattle.any_cmds.specs.Meaning.{by_any}
use Rattle.cmd_program.specs.Exchanges.{Event, Asked, outcomes_of, calls_in}
use Rattle.cmd_program.specs.Short.{IsShort}
use Rattle.session.specs.inner.Talking.{IsGoing, Goes, HasNext, HasReplied}
use Rattle.session.proofs.Talking.{HasAsked}
use Rattle.session.proofs.Events.{outcomes-more, calls-more, caused-more, program-more}
use Rattle.cmd_program.proofs.PublicLaws.{OneLess, short-act}

-- nothing was asked yet
pub goes-first : (config : Configuration) (nexus : ℕ) (request : Request) (command : CommandOf AnyPhase) → StandsFor by_any config command nexus request []
    → IsGoing config nexus request command []
goes-first config nexus request command stands = record { caused = tt; stands = stands }

module _ (config : Configuration) (nexus : ℕ) (request : Request) (before after : CommandOf AnyPhase) (events : List Event) (left : ℕ)
    (unit moment : ℕ) (act : Act) (found : Result Answer ActRefused) (n : HasNext config nexus request before events left (Step.Do unit act)) where
  abbrev call : Call
  call = record { unit = unit; moment = moment; act = act; outcome = outcome_of found }

  abbrev asked : List Event
  asked = (events ++ n.more) ++ Asked call ∷ []

  less : OneLess (program_after config request (outcomes_of (events ++ n.more))) left (outcome_of found)
  less = short-act (program_after config request (outcomes_of (events ++ n.more))) left (outcome_of found) unit act n.short (sym n.next_is)

  -- there is an act left
  pub one-left : suc (left - 1) ≡ left
  one-left = let is = less.is in omega arith

  going : StandsFor by_any config after nexus request (outcomes_of (events ++ n.more) ++ outcome_of found ∷ []) → IsGoing config nexus request after asked
  going stands = record {
    caused = caused-more step config nexus request [] (events ++ n.more) (Asked call) n.is.caused (sym n.next_is);
    stands = subst (StandsFor by_any config after nexus request) (sym (outcomes-more (events ++ n.more) (Asked call))) stands;
  }

  short : IsShort (program_after config request (outcomes_of asked)) (left - 1)
  short =
      let is = less.is in
      let same : less.left ≡ left - 1 = omega arith in
      subst (IsShort (program_after config request (outcomes_of asked))) same
      (subst (λ p. IsShort p less.left) (sym (program-more config request (events ++ n.more) (Asked call))) less.short)

  pub goes-on : StandsFor by_any config after nexus request (outcomes_of (events ++ n.more) ++ outcome_of found ∷ []) → Goes config nexus after (left - 1)
  goes-on stands = record { request = request; events = asked; is = going stands; short = short }

  calls-asked : calls_in asked ≡ calls_in events ++ call ∷ []
  calls-asked = calls-more (events ++ n.more) (Asked call ∷ []) ∙ ap (λ l. l ++ call ∷ []) n.none

  pub asks-on : (Shows : ℕ → Type 0) (Made : List Call → Type 0) (calls : List Call)
      → StandsFor by_any config after nexus request (outcomes_of (events ++ n.more) ++ outcome_of found ∷ [])
      → Made (called (calls ++ calls_in events) unit moment act found) → Shows moment → All (λ (c : Call). Shows c.moment) (calls_in events)
      → HasAsked config nexus request Shows Made calls after (left - 1)
  asks-on Shows Made calls stands made shows shown = record {
    events = asked;
    is = going stands;
    short = short;
    made = subst Made (append_assoc calls (calls_in events) (call ∷ []) ∙ ap (λ l. calls ++ l) (sym calls-asked)) made;
    shown = subst (All (λ (c : Call). Shows c.moment)) (sym calls-asked)
        (All-append (λ (c : Call). Shows c.moment) (calls_in events) (call ∷ []) shown (All-from_recursion (λ (c : Call). Shows c.moment) (call ∷ []) (shows, tt)));
  }

-- the command is at its end
pub has-replied : (config : Configuration) (nexus : ℕ) (request : Request) (Shows : ℕ → Type 0) (Made : List Call → Type 0) (calls : List Call) (command : CommandOf AnyPhase) (events : List Event) (left : ℕ)
    (reply : Reply) → HasNext config nexus request command events left (Step.Done reply) → Made (calls ++ calls_in events) → All (λ (c : Call). Shows c.moment) (calls_in events)
    → HasReplied config nexus request Shows Made calls reply
has-replied config nexus request Shows Made calls command events left reply n made shown = record {
  events = events ++ n.more;
  is = record { caused = n.is.caused; replied = sym n.next_is };
  made = subst (λ l. Made (calls ++ l)) (sym n.none) made;
  shown = subst (All (λ (c : Call). Shows c.moment)) (sym n.none) shown;
}

-- there is an act left where one is asked for
pub some-left : (config : Configuration) (nexus : ℕ) (request : Request) (command : CommandOf AnyPhase) (events : List Event) (left unit : ℕ) (act : Act)
    → HasNext config nexus request command events left (Step.Do unit act) → 1 ≤ left
some-left config nexus request command events left unit act n =
    let o = short-act (program_after config request (outcomes_of (events ++ n.more))) left Outcome.Full unit act n.short (sym n.next_is) in
    let is = o.is in omega arith

-- what came of the act may follow
pub follows-found : (config : Configuration) (unit : ℕ) (act : Act) (found : Result Answer ActRefused) → IfOk found (λ a. HasForm config unit act a)
    → MayFollow config (Step.Do unit act) (outcome_of found)
follows-found config unit act (Ok a) form = form
follows-found config unit act (Err ActRefused.Full) form = tt
follows-found config unit act (Err ActRefused.OutOfMemory) form = tt
