-- What was output stays output
use Rattle.std.proofs.Common.{◌≡◌, ℕ, ◌+◌, List, [], ◌∷◌, ◌++◌, refl, ap, sym, ◌∙◌, true, false, Bool, append_assoc, append-nil}
use Rattle.std.specs.Prelude.{cond, Option, Some, None, flat_map}
use Rattle.cm_base.specs.Configuration.{Configuration}
use Rattle.cm_frame.specs.declared.frame.Request.{Request}
use Rattle.cm_frame.specs.declared.frame.Reply.{Reply}
use Rattle.cm_frame.specs.declared.item.TraceItem.{TraceItem}
use Rattle.cm_history.specs.declared.act.Actor.TheVariants.{Nexus}
use Rattle.cmd_program.specs.declared.step.Step.{Step}
use Rattle.cmd_program.specs.Stepping.{Stepping}
use Rattle.trace_replay.specs.Items.{Ending, BadRecord, Placed, trace_of}
use Rattle.trace_replay.specs.ReplayState.{Pending, AddressedReply, ReplayState, Shortage, Nowhere, AtBegin, AtAct, AtStep, waiting, acted, noted_act, goes_on, next_step, begun, did, ran, changed, after_item, item_fits}
use Rattle.trace_replay.specs.Played.{play, shortage_for, shortages_behind, addressed_bytes, output_of}
use Rattle.trace_replay.proofs.LoopLaws.{OutputGrows}
use Rattle.cm_base.specs.Outside.{IsBeginning}

-- the replies begin with those of before
pub record Follows (s t : ReplayState) : Type 0 where
  pub more : List AddressedReply
  pub is : s.replies ++ more ≡ t.replies

Follows-refl : (s : ReplayState) → Follows s s
Follows-refl s = record { more = []; is = append-nil s.replies }

Follows-trans : (s t u : ReplayState) → Follows s t → Follows t u → Follows s u
Follows-trans s t u f g = record {
  more = f.more ++ g.more;
  is = sym (append_assoc s.replies f.more g.more) ∙ ap (λ l. l ++ g.more) f.is ∙ g.is;
}

goes_on-follows : (s : ReplayState) (p : Pending) (next : Step) → Follows s (goes_on s p next)
goes_on-follows s p (Step.Done reply) = record { more = (record { initiator = p.initiator; reply = reply }) ∷ []; is = refl }
goes_on-follows s p (Step.Do unit act) = record { more = []; is = append-nil s.replies }

goes_on-from : (s t : ReplayState) (p : Pending) (next : Step) → s.replies ≡ t.replies → Follows s (goes_on t p next)
goes_on-from s t p (Step.Done reply) same =
    record { more = (record { initiator = p.initiator; reply = reply }) ∷ []; is = ap (λ l. l ++ (record { initiator = p.initiator; reply = reply }) ∷ []) same }
goes_on-from s t p (Step.Do unit act) same = record { more = []; is = append-nil s.replies ∙ same }

begun-follows : (step : Stepping) (config : Configuration) (s : ReplayState) (initiator : ℕ) (request : Request) (shortage : Shortage)
    → Follows s (begun step config s initiator request shortage)
begun-follows step config s initiator request AtBegin = record { more = (record { initiator = initiator; reply = Reply.Busy }) ∷ []; is = refl }
begun-follows step config s initiator request Nowhere = goes_on-follows s _ _
begun-follows step config s initiator request AtAct = goes_on-follows s _ _
begun-follows step config s initiator request AtStep = goes_on-follows s _ _

did-follows : (step : Stepping) (config : Configuration) (s : ReplayState) (moment : ℕ) (p : Pending) (shortage : Shortage) (next : Step)
    → Follows s (did step config s moment p shortage next)
did-follows step config s moment p shortage (Step.Done reply) = Follows-refl s
did-follows step config s moment p shortage (Step.Do unit act) =
    let q = noted_act config s p unit moment act shortage in
    goes_on-from s (acted config s (Nexus p.initiator) unit moment act shortage) q (next_step step config q) refl

ran-follows : (step : Stepping) (config : Configuration) (s : ReplayState) (moment : ℕ) (shortage : Shortage) (found : Option Pending)
    → Follows s (ran step config s moment shortage found)
ran-follows step config s moment shortage None = Follows-refl s
ran-follows step config s moment shortage (Some p) = did-follows step config s moment p shortage (next_step step config p)

changed-follows : (step : Stepping) (config : Configuration) (s : ReplayState) (item : TraceItem) (shortage : Shortage) → Follows s (changed step config s item shortage)
changed-follows step config s (TraceItem.Begin initiator moment request) shortage = begun-follows step config s initiator request shortage
changed-follows step config s (TraceItem.Run initiator moment) shortage = ran-follows step config s moment shortage (waiting initiator s.pending)
changed-follows step config s (TraceItem.Pump unit moment) shortage = record { more = []; is = append-nil s.replies }

pub next-follows : (step : Stepping) (config : Configuration) (s : ReplayState) (item : TraceItem) (shortage : Shortage) → Follows s (after_item step config s item shortage)
next-follows step config s item shortage =
    let f = changed-follows step config (record s { items = s.items + 1 }) item shortage in record { more = f.more; is = f.is }

pub play-follows : (step : Stepping) (config : Configuration) (s : ReplayState) (xs : List Placed) (ending : Ending) (shortages : List Shortage)
    → Follows s (play step config s xs ending shortages).state
play-follows step config s [] ending shortages = Follows-refl s
play-follows step config s (x ∷ xs) ending shortages =
    go (item_fits config s x.item)
    (Follows-trans s _ _ (next-follows step config s x.item (shortage_for x.item shortages))
    (play-follows step config (after_item step config s x.item (shortage_for x.item shortages)) xs ending (shortages_behind x.item shortages)))
  where
    go : (t : Bool) → Follows s (play step config (after_item step config s x.item (shortage_for x.item shortages)) xs ending (shortages_behind x.item shortages)).state
        → Follows s (cond t (play step config (after_item step config s x.item (shortage_for x.item shortages)) xs ending (shortages_behind x.item shortages))
        (record { state = s; ending = BadRecord x.place })).state
    go true later = later
    go false later = Follows-refl s

flat_map-append : {A B : Type 0} (f : A → List B) (xs ys : List A) → flat_map f (xs ++ ys) ≡ flat_map f xs ++ flat_map f ys
flat_map-append {A} {B} f [] ys = refl
flat_map-append {A} {B} f (x ∷ xs) ys = ap (λ l. f x ++ l) (flat_map-append f xs ys) ∙ sym (append_assoc (f x) (flat_map f xs) (flat_map f ys))

pub follows-output : (s t : ReplayState) → Follows s t → IsBeginning (output_of s) (output_of t)
follows-output s t f = (flat_map addressed_bytes f.more, sym (flat_map-append addressed_bytes s.replies f.more) ∙ ap (flat_map addressed_bytes) f.is)

pub output-grows : (step : Stepping) → OutputGrows step
output-grows step config s n place bytes shortages =
    follows-output s _ (play-follows step config s (trace_of n place bytes).items (trace_of n place bytes).ending shortages)
