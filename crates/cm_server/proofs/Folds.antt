-- What may be written out, said in other words
use Rattle.std.proofs.Common.{◌≡◌, ℕ, List, [], ◌∷◌, ◌++◌, refl, arith, inl, inr}
use Rattle.std.specs.Prelude.{◌⊎◌, Option, Some, None, map, true, false}
use Rattle.std.proofs.lemmas.List.Elements.{All-weaker}
use Rattle.cm_base.specs.Configuration.{Configuration}
use Rattle.cm_base.specs.Listening.{Gone}
use Rattle.cm_base.specs.declared.config.UnitConfig.{UnitConfig}
use Rattle.cm_history.specs.declared.act.Entry.{Entry}
use Rattle.cm_history.proofs.PublicLaws.{Each, Each-in, get-in}
use Rattle.cmd_program.specs.Conversations.{Conversation, Folding, KeepsAll, IsFullBy, FollowsBy, Follow, IsConversation}
use Rattle.cmd_program.specs.Exchanges.{calls_of}
use Rattle.cmd_program.specs.InHistory.{entries_by}
use Rattle.cmd_program.specs.Running.{Call}
use Rattle.cmd_program.specs.Stepping.{Stepping}
use Rattle.cmd_program.specs.declared.step.Outcome.{Outcome}
use Rattle.cmd_program.specs.declared.step.Outcome.TheVariants.{Answered, Full, NoMemory}
use Rattle.cm_server.specs.Recorders.{FoldsBy, GivesUpAll}
use Rattle.cm_server.specs.inner.Recording.{finals}
use Rattle.cm_server.specs.Served.{WasServed, AreServed, IfTold}
use Rattle.cm_server.specs.declared.term.Term.{Term}
use Rattle.cm_server.specs.Talks.{Talk}
use Rattle.nexus.specs.Opening.{no_recorder}
use Rattle.session.specs.declared.end.SessionEnd.{SessionEnd}
use Rattle.recorder.specs.Recording.{Rose}
use Rattle.unit_gate.specs.declared.kin.RecorderFacts.{RecorderFacts}
use Rattle.unit_gate.specs.declared.recorded_unit.ClosedUnit.{ClosedUnit}

module _ (F G : Folding) (more : (unit count folded : ℕ) → F unit count folded → G unit count folded) where
  full-as : (config : Configuration) (entries : List Entry) (nexus : ℕ) (earlier : List Entry) (c : Call) → IsFullBy config F entries nexus earlier c → IsFullBy config G entries nexus earlier c
  full-as config entries nexus earlier c f = record {
    seen = f.seen;
    later = f.later;
    begins = f.begins;
    own = f.own;
    folded = f.folded;
    folds = more c.unit _ f.folded f.folds;
    full = f.full;
    serving = f.serving;
  }

  follow-as : (config : Configuration) (entries : List Entry) (nexus : ℕ) (earlier : List Entry) (cs : List Call) (own : List Entry)
      → Follow config F entries nexus earlier cs own → Follow config G entries nexus earlier cs own
  follow-as config entries nexus earlier [] own f = f
  follow-as config entries nexus earlier (c ∷ cs) own f = go c.outcome own f (λ before behind. follow-as config entries nexus before cs behind)
    where
      go : (o : Outcome) (own : List Entry) → FollowsBy config F entries nexus c o earlier own (λ before behind. Follow config F entries nexus before cs behind)
          → ((before behind : List Entry) → Follow config F entries nexus before cs behind → Follow config G entries nexus before cs behind)
          → FollowsBy config G entries nexus c o earlier own (λ before behind. Follow config G entries nexus before cs behind)
      go (Answered found) [] g later = g
      go (Answered found) (e ∷ es) g later = (g.0, later (earlier ++ e ∷ []) es g.1)
      go Full own g later = (full-as config entries nexus earlier c g.0, later earlier own g.1)
      go NoMemory own g later = later earlier own g

  pub conversation-as : (step : Stepping) (config : Configuration) (entries : List Entry) (c : Conversation) → IsConversation step config F entries c → IsConversation step config G entries c
  conversation-as step config entries c is = record { exchanged = is.exchanged; followed = follow-as config entries c.nexus [] (calls_of c.exchanges) (entries_by c.nexus entries) is.followed }

  module _ (step : Stepping) (config : Configuration) (Legal : List Entry → Type 0) (term : Term) (opening entries : List Entry) (first : ℕ) (ends : List SessionEnd) where
    are-served-as : (coming rest : List (List ℕ)) (before after : List Gone)
        → AreServed step config Legal F term opening entries first coming rest before after ends → AreServed step config Legal G term opening entries first coming rest before after ends
    are-served-as coming rest before after s = record {
      talks = s.talks;
      came = s.came;
      accepted = s.accepted;
      each_one = s.each_one;
      on_links = s.on_links;
      ordered = s.ordered;
      given_back = s.given_back;
      ended = s.ended;
      each = s.each;
      run = record {
        legal = s.run.legal;
        apart = s.run.apart;
        each = All-weaker (IsConversation step config F entries) (IsConversation step config G entries) (conversation-as step config entries)
            (map (λ (t : Talk). t.conversation) s.talks) s.run.each;
        others = s.run.others;
      };
    }

    links-as : (coming rest : Option (List (List ℕ))) (before after : Option (List Gone))
        → IfTold coming rest before after (λ c r b a. AreServed step config Legal F term opening entries first c r b a ends)
        → IfTold coming rest before after (λ c r b a. AreServed step config Legal G term opening entries first c r b a ends)
    links-as (Some c) (Some r) (Some b) (Some a) s = are-served-as c r b a s
    links-as None rest before after s = tt
    links-as (Some c) None before after s = tt
    links-as (Some c) (Some r) None after s = tt
    links-as (Some c) (Some r) (Some b) None s = tt

  -- what is served where these may be written out is served where those may
  pub folded-as : (step : Stepping) (config : Configuration) (Legal : List Entry → Type 0) (term : Term) (opening : List Entry) (first : ℕ) (Shows : ℕ → Type 0)
      (coming rest : Option (List (List ℕ))) (before after : Option (List Gone)) (Reports : List Entry → List SessionEnd → Type 0)
      → WasServed step config Legal F term opening first Shows coming rest before after Reports → WasServed step config Legal G term opening first Shows coming rest before after Reports
  folded-as step config Legal term opening first Shows coming rest before after Reports s = record {
    entries = s.entries;
    ends = s.ends;
    legal = s.legal;
    shown = s.shown;
    sorted = s.sorted;
    apart = s.apart;
    idle = s.idle;
    reported = s.reported;
    links = links-as step config Legal term opening s.entries first s.ends coming rest before after s.links;
  }

-- the units of a world without recorders
none-has : (units : List UnitConfig) → Each (λ (r : RecorderFacts). r.absent ≡ true) (map (λ (u : UnitConfig). no_recorder) units)
none-has [] = tt
none-has (u ∷ us) = (refl, none-has us)

-- where no unit has a recorder none are written out
pub none-folded : (units : List UnitConfig) (after : List RecorderFacts) (unit count folded : ℕ) → FoldsBy (map (λ (u : UnitConfig). no_recorder) units) after unit count folded → KeepsAll unit count folded
none-folded units after unit count folded f =
    f.4.absent (Each-in (λ (r : RecorderFacts). r.absent ≡ true) (map (λ (u : UnitConfig). no_recorder) units) f.0 (none-has units)
    (get-in (map (λ (u : UnitConfig). no_recorder) units) unit f.0 f.2))

-- a recorder that is there, and has not failed
pub record IsForgetting (r : RecorderFacts) : Type 0 where
  pub present : r.absent ≡ false
  pub sound : r.faults ≡ 0

-- where no recorder fails all entries are given up
pub all-folded : {R : Type 0} (facts : R → RecorderFacts) → ((r : R) → (facts r).faults ≡ 0) → (before : List RecorderFacts) (units : List (ClosedUnit R)) → Each IsForgetting before
    → (unit count folded : ℕ) → FoldsBy before (finals facts units) unit count folded → GivesUpAll unit count folded
all-folded {R} facts none before units are unit count folded f =
    let b = Each-in IsForgetting before f.0 are (get-in before unit f.0 f.2) in
    let a : f.1.faults ≡ 0 = Each-in (λ (r : RecorderFacts). r.faults ≡ 0) (finals facts units) f.1 (all-sound units) (get-in (finals facts units) unit f.1 f.3) in
    go (f.4.whole b.present) b.sound a
  where
    all-sound : (us : List (ClosedUnit R)) → Each (λ (r : RecorderFacts). r.faults ≡ 0) (finals facts us)
    all-sound [] = tt
    all-sound (u ∷ us) = (none u.recorder, all-sound us)

    go : (folded ≡ count) ⊎ Rose f.0.faults f.1.faults → f.0.faults ≡ 0 → f.1.faults ≡ 0 → folded ≡ count
    go (inl same) old new = same
    go (inr (inl more)) old new = absurd (omega (arith, more, old, new))
    go (inr (inr full)) old new = absurd (omega (arith, full, new))
