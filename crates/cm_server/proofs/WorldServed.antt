-- A world was served, settled and ended
use Rattle.std.proofs.Common.{◌≡◌, ℕ, suc, List, [], ◌∷◌, length, refl, ap, sym, ◌∙◌, subst, arith}
use Rattle.std.specs.Prelude.{Option, Some, None, map}
use Rattle.std.proofs.lemmas.List.{length-map}
use Rattle.cm_base.specs.Configuration.{Configuration}
use Rattle.cm_base.specs.Listening.{Gone}
use Rattle.cm_frame.specs.Laws.{StaysJudged}
use Rattle.cm_frame.specs.Reading.{read_request}
use Rattle.cm_history.specs.Legal.{IsLegal}
use Rattle.cm_history.specs.declared.act.Entry.{Entry}
use Rattle.cm_history.proofs.PublicLaws.{Each}
use Rattle.cmd_program.specs.Conversations.{Folding}
use Rattle.cmd_program.specs.Judging.{step}
use Rattle.cmd_program.specs.Stepping.{Stepping}
use Rattle.cm_server.specs.Recorders.{FoldsBy}
use Rattle.cm_server.specs.Served.{WasServed, AreServed, IfTold}
use Rattle.cm_server.specs.declared.term.Term.{Term}
use Rattle.cm_server.specs.inner.Passes.{IsReady}
use Rattle.cm_server.specs.inner.Opened.{AreNew, IsLegalBehind, IsOlder, IsOpened, OpenedUnit, entries_of, kins_of, opening_marks, recorders_of}
use Rattle.cm_server.specs.inner.Recording.{finals, IsReckoned}
use Rattle.cm_server.specs.inner.Serving.{HasServed, HasSettled}
use Rattle.cm_server.proofs.Closed.{IsClosedWorld, closes}
use Rattle.cm_server.proofs.Counting.{counts-are}
use Rattle.cm_server.proofs.Folding.{folds-by}
use Rattle.cm_server.proofs.Makers.{all-shown, all-served, all-idle}
use Rattle.cm_server.proofs.Owned.{closed-for}
use Rattle.cm_server.proofs.Passing.{prefix-then}
use Rattle.cm_server.proofs.Runs.{links-of}
use Rattle.cm_server.proofs.Trailing.{FoldsSo}
use Rattle.merged_history.specs.Merged.{all_of, merged}
use Rattle.merged_history.specs.PassRules.{AreLonger}
use Rattle.merged_history.specs.Passes.{of_unit}
use Rattle.nexus.specs.Closing.{AreLeftOf, AreNone, WasEnded, marks_left}
use Rattle.nexus.specs.Roots.{RootView, AreAtMost}
use Rattle.nexus.specs.Worlds.{UnitGate, WorldView}
use Rattle.session.specs.declared.end.SessionEnd.{SessionEnd}
use Rattle.unit_gate.specs.declared.kin.RecorderFacts.{RecorderFacts}
use Rattle.unit_gate.specs.declared.kin.UnitKin.{UnitKin}
use Rattle.unit_gate.specs.declared.recorded_unit.ClosedUnit.{ClosedUnit}

-- the root of a world that begins is ready
pub ready-begun : (config : Configuration) (opened : List OpenedUnit) (world : WorldView) (root : RootView) → IsOpened config opened world root → IsReady world root
ready-begun config opened world root begun = record {
  of = record {
    config = ap (λ (r : RootView). r.config) begun.root_is;
    gates = ap (λ (r : RootView). r.gates) begun.root_is;
    register = ap (λ (r : RootView). r.register) begun.root_is;
  };
  units = ap (λ (r : RootView). length r.seen) begun.root_is ∙ length-map opened (λ (u : OpenedUnit). u.entries) ∙ begun.each_unit
      ∙ ap (λ (k : Configuration). length k.units) (sym begun.config_is);
}

-- more may be said of the report, or less
pub served-as : (step : Stepping) (config : Configuration) (Legal : List Entry → Type 0) (Folds : Folding) (term : Term) (opening : List Entry) (first : ℕ)
    (Shows : ℕ → Type 0) (coming rest : Option (List (List ℕ))) (before after : Option (List Gone)) (Reports Others : List Entry → List SessionEnd → Type 0)
    → ((entries : List Entry) (ends : List SessionEnd) → Reports entries ends → Others entries ends)
    → WasServed step config Legal Folds term opening first Shows coming rest before after Reports
    → WasServed step config Legal Folds term opening first Shows coming rest before after Others
served-as step config Legal Folds term opening first Shows coming rest before after Reports Others more s = record {
  entries = s.entries;
  ends = s.ends;
  legal = s.legal;
  shown = s.shown;
  sorted = s.sorted;
  apart = s.apart;
  idle = s.idle;
  reported = more s.entries s.ends s.reported;
  links = s.links;
}

-- the same, where it is known what is so of the history
pub served-by : (step : Stepping) (config : Configuration) (Legal : List Entry → Type 0) (Folds : Folding) (term : Term) (opening : List Entry) (first : ℕ)
    (Shows : ℕ → Type 0) (coming rest : Option (List (List ℕ))) (before after : Option (List Gone)) (Reports Others : List Entry → List SessionEnd → Type 0)
    → ((entries : List Entry) (ends : List SessionEnd) → Legal entries → Reports entries ends → Others entries ends)
    → WasServed step config Legal Folds term opening first Shows coming rest before after Reports
    → WasServed step config Legal Folds term opening first Shows coming rest before after Others
served-by step config Legal Folds term opening first Shows coming rest before after Reports Others more s = record {
  entries = s.entries;
  ends = s.ends;
  legal = s.legal;
  shown = s.shown;
  sorted = s.sorted;
  apart = s.apart;
  idle = s.idle;
  reported = more s.entries s.ends s.legal s.reported;
  links = s.links;
}

-- the same of a history of which more may be said, or less
pub legal-as : (step : Stepping) (config : Configuration) (Legal Other : List Entry → Type 0) (Folds : Folding) (term : Term) (opening : List Entry) (first : ℕ)
    (Shows : ℕ → Type 0) (coming rest : Option (List (List ℕ))) (before after : Option (List Gone)) (Reports : List Entry → List SessionEnd → Type 0)
    → ((entries : List Entry) → Legal entries → Other entries)
    → WasServed step config Legal Folds term opening first Shows coming rest before after Reports → WasServed step config Other Folds term opening first Shows coming rest before after Reports
legal-as step config Legal Other Folds term opening first Shows coming rest before after Reports more s = record {
  entries = s.entries;
  ends = s.ends;
  legal = more s.entries s.legal;
  shown = s.shown;
  sorted = s.sorted;
  apart = s.apart;
  idle = s.idle;
  reported = s.reported;
  links = links-as coming rest before after s.links;
}
  where
    are-as : (coming rest : List (List ℕ)) (before after : List Gone) → AreServed step config Legal Folds term opening s.entries first coming rest before after s.ends
        → AreServed step config Other Folds term opening s.entries first coming rest before after s.ends
    are-as coming rest before after a = record {
      talks = a.talks;
      came = a.came;
      accepted = a.accepted;
      each_one = a.each_one;
      on_links = a.on_links;
      ordered = a.ordered;
      given_back = a.given_back;
      ended = a.ended;
      each = a.each;
      run = record { legal = more s.entries a.run.legal; apart = a.run.apart; each = a.run.each; others = a.run.others };
    }

    links-as : (coming rest : Option (List (List ℕ))) (before after : Option (List Gone))
        → IfTold coming rest before after (λ c r b a. AreServed step config Legal Folds term opening s.entries first c r b a s.ends)
        → IfTold coming rest before after (λ c r b a. AreServed step config Other Folds term opening s.entries first c r b a s.ends)
    links-as (Some c) (Some r) (Some b) (Some a) all = are-as c r b a all
    links-as None rest before after all = tt
    links-as (Some c) None before after all = tt
    links-as (Some c) (Some r) None after all = tt
    links-as (Some c) (Some r) (Some b) None all = tt

-- ---- how many units there are

left-long : {R : Type 0} (facts : R → RecorderFacts) (fits : R → Entry → Type 0) (gs : List UnitGate) (hs : List (List Entry)) (us : List (ClosedUnit R))
    → AreLeftOf facts fits gs hs us → length gs ≡ length hs
left-long facts fits [] [] [] left = refl
left-long facts fits [] [] (u ∷ us) left = absurd left
left-long facts fits [] (h ∷ hs) us left = absurd left
left-long facts fits (g ∷ gs) [] us left = absurd left
left-long facts fits (g ∷ gs) (h ∷ hs) [] left = absurd left
left-long facts fits (g ∷ gs) (h ∷ hs) (u ∷ us) left = ap suc (left-long facts fits gs hs us left.1)

kins-long : (config : Configuration) (unit : ℕ) (opened : List OpenedUnit) → length (kins_of config unit opened) ≡ length opened
kins-long config unit [] = refl
kins-long config unit (u ∷ us) = ap suc (kins-long config (suc unit) us)

-- of new units nothing was there
new-none : (opened : List OpenedUnit) → AreNew opened → AreNone (map (λ (es : List Entry). length es) (entries_of opened))
new-none [] new = tt
new-none (u ∷ us) new = (ap (λ (es : List Entry). length es) new.0, new-none us new.1)

module _ {R : Type 0} (facts : R → RecorderFacts) (fits : R → Entry → Type 0) (stays : StaysJudged read_request) (term : Term) (world : WorldView) (Shows : ℕ → Type 0)
    (opened : List OpenedUnit) (zero one two : RootView) (coming rest : Option (List (List ℕ))) (before after : Option (List Gone)) (ends : List SessionEnd)
    (units : List (ClosedUnit R)) (begun : IsOpened world.config opened world zero)
    (served : HasServed term world Shows zero.made zero one coming rest before after ends) (settled : HasSettled world Shows one two)
    (ended : WasEnded facts fits two units) where
  abbrev first : ℕ
  first = zero.made

  abbrev entries : List Entry
  entries = merged ended.histories

  abbrev opening : List Entry
  opening = all_of (entries_of opened)

  seen-first : zero.seen ≡ entries_of opened
  seen-first = ap (λ (r : RootView). r.seen) begun.root_is

  marks-first : zero.marks ≡ opening_marks opened
  marks-first = ap (λ (r : RootView). r.marks) begun.root_is

  openings-are : two.openings ≡ map (λ (es : List Entry). length es) (entries_of opened)
  openings-are = settled.joined.openings ∙ served.joined.openings ∙ ap (λ (r : RootView). r.openings) begun.root_is

  left-of : AreLeftOf facts fits world.gates ended.histories units
  left-of = subst (λ g. AreLeftOf facts fits g ended.histories units) settled.ready.of.gates ended.left

  long : length zero.seen ≡ length ended.histories
  long =
      ap (λ (l : List (List Entry)). length l) seen-first ∙ length-map opened (λ (u : OpenedUnit). u.entries)
      ∙ sym (kins-long world.config 0 opened) ∙ ap (λ (l : List (Option UnitKin)). length l) (sym begun.gates) ∙ length-map world.gates (λ (g : UnitGate). g.kin)
      ∙ left-long facts fits world.gates ended.histories units left-of

  is-closed : IsClosedWorld world zero Shows first served.links (entries_of opened) one.seen entries (marks_left facts fits units) served.sessions served.workers settled.lasts
  is-closed =
      subst (λ o. IsClosedWorld world zero Shows first served.links o one.seen entries (marks_left facts fits units) served.sessions served.workers settled.lasts) seen-first
      (closes world Shows first served.links served.made zero one two ended.histories (marks_left facts fits units) served.sessions served.workers settled.lasts
      served.are served.workers_are settled.are settled.each_unit served.joined settled.joined (ap (λ (r : RootView). r.joined) begun.root_is)
      settled.ready.of.config
      (ap (λ (r : RootView). r.openings) begun.root_is ∙ ap (λ l. map (λ (es : List Entry). length es) l) (sym seen-first)) long
      (subst (λ l. Each (IsOlder first) (all_of l)) (sym seen-first) begun.older)
      ended.longer ended.resumed ended.marks)

  legal : IsLegalBehind world.config opened entries
  legal = record {
    ordered = is-closed.ordered;
    legal = λ new. subst (λ k. IsLegal k entries) settled.ready.of.config (ended.whole (subst AreNone (sym openings-are) (new-none opened new))).legal;
  }

  marks-of : AreAtMost (opening_marks opened) (marks_left facts fits units)
  marks-of =
      let start : AreAtMost zero.marks (marks_left facts fits units) =
      λ u k. (let a = served.joined.known.above u k in let b = settled.joined.known.above u k in let c = ended.marks u k in omega (arith, a, b, c)) in
      subst (λ m. AreAtMost m (marks_left facts fits units)) marks-first start

  longer-of : AreLonger (entries_of opened) ended.histories
  longer-of =
      subst (λ o. AreLonger o ended.histories) seen-first
      (λ u. prefix-then (of_unit zero.seen u) (of_unit one.seen u) (of_unit ended.histories u) (served.joined.known.longer u)
      (prefix-then (of_unit one.seen u) (of_unit two.seen u) (of_unit ended.histories u) (settled.joined.known.longer u) (ended.longer u)))

  -- how many entries of a unit may be written out, by its recorder
  pub folds : FoldsSo (FoldsBy (recorders_of opened) (finals facts units)) world.gates zero.marks (marks_left facts fits units) (length world.config.units)
  folds =
      subst (FoldsSo (FoldsBy (recorders_of opened) (finals facts units)) world.gates zero.marks (marks_left facts fits units)) begun.each_unit
      (subst (λ m. FoldsSo (FoldsBy (recorders_of opened) (finals facts units)) world.gates m (marks_left facts fits units) (length opened))
      (sym marks-first) (folds-by facts fits world.config opened world.gates ended.histories units begun.gates begun.may left-of))

  -- what serving owes of a world that was served
  pub world-recorded : WasServed step world.config (IsLegalBehind world.config opened) (FoldsBy (recorders_of opened) (finals facts units)) term opening first Shows coming rest before after
      (λ es is. (is ≡ ends) × IsReckoned facts fits opened world.gates units world.config es)
  world-recorded =
      let w = is-closed in
      let Folds = FoldsBy (recorders_of opened) (finals facts units) in
      record {
        entries = entries;
        ends = ends;
        legal = legal;
        shown = all-shown world zero Shows first served.links (entries_of opened) one.seen entries (marks_left facts fits units) served.sessions served.workers settled.lasts w;
        sorted = w.sorted;
        apart = w.apart;
        idle = all-idle world zero Shows first served.links (entries_of opened) one.seen entries (marks_left facts fits units) served.sessions served.workers settled.lasts w;
        reported = (
          refl,
          record {
            histories = ended.histories;
            parts = ended.resumed.parts;
            longer = longer-of;
            rising = ended.resumed.rising;
            kins = begun.gates;
            each_unit = begun.each_unit;
            may = begun.may;
            left = left-of;
            marks = marks-of;
            counts = counts-are facts fits world.config entries opened world.gates ended.histories units begun.gates begun.each_unit left-of ended.resumed.parts;
          },
        );
        links = subst (λ (l : List SessionEnd). IfTold coming rest before after (λ c r b a. AreServed step world.config (IsLegalBehind world.config opened) Folds term opening entries first c r b a l))
            served.ends_are
            (links-of stays term world zero Shows (IsLegalBehind world.config opened) Folds opening entries (marks_left facts fits units) folds first served.links served.sessions coming rest before after served.are served.ordered
            (closed-for world zero Shows first served.links (entries_of opened) one.seen entries (marks_left facts fits units) served.sessions served.workers settled.lasts w)
            served.come served.back legal
            (all-served world zero Shows first served.links (entries_of opened) one.seen entries (marks_left facts fits units) served.sessions served.workers settled.lasts w));
      }
