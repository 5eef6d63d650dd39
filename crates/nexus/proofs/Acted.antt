-- An act that was answered
use Rattle.std.proofs.Common.{◌<◌, ◌≤◌, ◌≡◌, ℕ, suc, ◌+◌, List, [], ◌∷◌, ◌++◌, length, map, refl, ap, sym, ◌∙◌, subst, arith, true, length-append, append_assoc}
use Rattle.std.specs.Prelude.{slice_set, slice_index_or, max}
use Rattle.std.proofs.lemmas.List.{length-set, length-map}
use mathlib.Core.List.{IsPrefix}
use Rattle.cm_base.specs.Configuration.{Configuration}
use Rattle.cm_history.specs.declared.act.Act.{Act}
use Rattle.cm_history.specs.declared.act.Actor.{Actor}
use Rattle.cm_history.specs.declared.act.Entry.{Entry}
use Rattle.cm_history.specs.declared.answer.Answer.{Answer}
use Rattle.cm_history.specs.Forms.{HasForm}
use Rattle.cm_history.specs.History.{answer}
use Rattle.cm_history.specs.Legal.{may_ask}
use Rattle.cm_history.specs.Limits.{within_limits}
use Rattle.cm_history.proofs.PublicLaws.{Each, Each-in, Each-by}
use Rattle.merged_history.specs.Merged.{merged}
use Rattle.merged_history.specs.Own.{Rises}
use Rattle.merged_history.specs.Passes.{of_unit}
use Rattle.merged_history.specs.PassRules.{IsPass}
use Rattle.merged_history.proofs.PublicLaws.{pass-makes, rises-append, MayMake}
use Rattle.merged_history.specs.Seats.{PassState}
use Rattle.turn_gate.specs.declared.view.Own.{Own}
use Rattle.turn_gate.specs.Marks.{AtMost}
use Rattle.unit_gate.specs.declared.asked.Acted.{Acted}
use Rattle.unit_gate.specs.declared.asked.AskedAct.{AskedAct}
use Rattle.unit_gate.specs.declared.kin.RecorderFacts.{RecorderFacts}
use Rattle.unit_gate.specs.declared.kin.UnitKin.{UnitKin}
use Rattle.unit_gate.specs.Asking.{entry_of as entry_at_gate}
use Rattle.unit_gate.specs.SeatActs.{UnitSeat, HasActed, counted}
use Rattle.nexus.specs.Worlds.{last_stamp_of, entry_of, WasAnswered, MayRise, UnitGate}
use Rattle.nexus.specs.inner.Gates.{config_of}
use Rattle.nexus.specs.inner.Keeping.{gates_of, entries_of, owns, seens, pass_view, KeepsPass}
use Rattle.nexus.proofs.Last.{stamp-above, last_stamp_of-push, rises-last, rises-long}
use Rattle.nexus.proofs.Turning.{view-same, own-at, seen-at, gates-kept, holds-kept, seens-set, misses-set, marks-set, misses-here, misses-before, marks-here, marks-before}
use Rattle.nexus.proofs.Places.{map-set}

entries_of-push : (own : List (Own Entry)) (o : Own Entry) → entries_of (own ++ o ∷ []) ≡ entries_of own ++ o.entry ∷ []
entries_of-push [] o = refl
entries_of-push (p ∷ ps) o = ap (λ l. p.entry ∷ l) (entries_of-push ps o)

-- what an actor asks
abbrev pub asking : Actor → ℕ → ℕ → ℕ → Act → AskedAct
asking actor seq last moment act = record { actor = actor; seq = seq; stamp = last; moment = moment; act = act }

abbrev pub kin_with : Configuration → ℕ → UnitKin → UnitKin
kin_with config unit given = record given { config = config; unit = unit }

pub record IsDone (config : Configuration) (pass : PassState) (seats : List UnitSeat) (actor : Actor) (seq : ℕ) (unit : ℕ) (after : UnitSeat) (moment : ℕ) (act : Act) (a : Answer) (stamp : ℕ) : Type 0 where
  pub keeps : KeepsPass (config_of (gates_of (slice_set seats unit after))) pass.ticket (slice_set seats unit after) actor (seq + 1) stamp
  pub low : seq + 1 ≤ stamp
  pub answered : WasAnswered (pass_view config pass seats) (pass_view (config_of (gates_of (slice_set seats unit after))) pass (slice_set seats unit after)) unit moment act a

module _ (pass : PassState) (seats : List UnitSeat) (actor : Actor) (seq last : ℕ) (keeps : KeepsPass (config_of (gates_of seats)) pass.ticket seats actor seq last)
    (unit : ℕ) (before after : UnitSeat) (low : unit < length seats) (at : before ≡ slice_index_or seats unit before) (given : UnitKin) (moment : ℕ) (act : Act) (acted : Acted)
    (limits : within_limits (config_of (gates_of seats)) unit act ≡ true) (asked : may_ask unit pass.ticket.actor act ≡ true)
    (did : HasActed (kin_with (config_of (gates_of seats)) unit given) before after (asking actor seq last moment act) acted) where
  abbrev config : Configuration
  config = config_of (gates_of seats)

  abbrev own : List Entry
  own = merged (owns seats)

  abbrev e : Entry
  e = entry_of (pass_view config pass seats) unit did.history moment act

  -- the entry as the pass's contract has it
  entry-is : entry_at_gate (kin_with config unit given) did.history (asking actor seq last moment act) ≡ e
  entry-is =
      ap (λ x. entry_at_gate (kin_with config unit given) did.history (asking x seq last moment act)) keeps.actor_is
      ∙ ap (λ x. entry_at_gate (kin_with config unit given) did.history (asking pass.ticket.actor x last moment act)) keeps.seq_is
      ∙ ap (λ x. entry_at_gate (kin_with config unit given) did.history (asking pass.ticket.actor (length pass.ticket.before + length own) x moment act)) keeps.last_is

  seat-is : after ≡ record (counted (record before { seen = did.history }) e) { misses = after.misses; marks = after.marks }
  seat-is = did.seat ∙ ap (λ x. record (counted (record before { seen = did.history }) x) { misses = after.misses; marks = after.marks }) entry-is

  stamp-is : acted.stamp ≡ e.stamp
  stamp-is = did.stamp ∙ ap (λ (x : Entry). x.stamp) entry-is

  longer : IsPrefix (of_unit (seens seats) unit) did.history
  longer = subst (λ l. IsPrefix l did.history) (sym (seen-at seats unit before after low at)) did.turn.longer

  may : MayMake config pass.ticket own unit did.history e
  may = record {
    unit_is = refl;
    actor_is = refl;
    seq_is = refl;
    asked = record { configured = let u = keeps.units in omega (arith, low, u); limits = limits; asked = asked };
    above = stamp-above config unit did.history (last_stamp_of own) did.turn.is_history;
    later = Each-by _ own (λ x i. let l = Each-in _ own x (rises-last 0 own keeps.is.own.rising) i in omega (arith, l));
    some = omega arith;
  }

  made : (merged (slice_set (owns seats) unit (of_unit (owns seats) unit ++ e ∷ [])) ≡ own ++ e ∷ [])
      × IsPass config pass.ticket (slice_set (owns seats) unit (of_unit (owns seats) unit ++ e ∷ [])) (slice_set (seens seats) unit (did.history ++ e ∷ []))
  made = pass-makes config pass.ticket (owns seats) (seens seats) unit did.history e keeps.is (let m = length-map seats (λ (s : UnitSeat). entries_of s.own) in omega (arith, low, m)) longer may

  owns-after : owns (slice_set seats unit after) ≡ slice_set (owns seats) unit (of_unit (owns seats) unit ++ e ∷ [])
  owns-after =
      map-set (λ (s : UnitSeat). entries_of s.own) seats unit after
      ∙ ap (slice_set (owns seats) unit) (ap (λ (s : UnitSeat). entries_of s.own) seat-is ∙ entries_of-push before.own (record { place = length did.history; entry = e })
      ∙ ap (λ l. l ++ e ∷ []) (sym (own-at seats unit before after low at)))

  seens-after : seens (slice_set seats unit after) ≡ slice_set (seens seats) unit (did.history ++ e ∷ [])
  seens-after = seens-set seats unit before after low at ∙ ap (slice_set (seens seats) unit) (ap (λ (s : UnitSeat). s.seen) seat-is)

  own-after : merged (owns (slice_set seats unit after)) ≡ own ++ e ∷ []
  own-after = ap merged owns-after ∙ made.0

  gates-after : gates_of (slice_set seats unit after) ≡ gates_of seats
  gates-after = gates-kept seats unit before after low at (ap (λ (s : UnitSeat). s.gate) seat-is)

  all-rise : Rises 0 ((pass.ticket.before ++ own) ++ e ∷ [])
  all-rise =
      let own_rises : Rises 0 (own ++ e ∷ []) = subst (Rises 0) made.0 made.1.own.rising in
      let below = subst (λ l. Each (λ (x : Entry). Each (λ (y : Entry). x.stamp < y.stamp) l) pass.ticket.before) made.0 made.1.below in
      subst (Rises 0) (sym (append_assoc pass.ticket.before own (e ∷ []))) (rises-append 0 pass.ticket.before (own ++ e ∷ []) keeps.rising own_rises below)

  seq-low : seq + 1 ≤ acted.stamp
  seq-low =
      let long = rises-long 0 (pass.ticket.before ++ own) e all-rise in
      let sum = length-append pass.ticket.before own in
      let q = keeps.seq_is in
      omega (arith, long, sum, q, stamp-is)

  keeps-after : KeepsPass config pass.ticket (slice_set seats unit after) actor (seq + 1) acted.stamp
  keeps-after = record {
    is = rw (owns-after, seens-after) made.1;
    gates_are = rw gates-after keeps.gates_are;
    units = length-set seats unit after ∙ keeps.units;
    actor_is = keeps.actor_is;
    pump = keeps.pump;
    seq_is = let long = ap length own-after ∙ length-append own (e ∷ []) in let q = keeps.seq_is in omega (arith, long, q);
    last_is = stamp-is ∙ sym (last_stamp_of-push own e) ∙ ap last_stamp_of (sym own-after);
    rising = keeps.rising;
  }

  pub done : IsDone config pass seats actor seq unit after moment act acted.answer acted.stamp
  done = record {
    keeps = subst (λ g. KeepsPass (config_of g) pass.ticket (slice_set seats unit after) actor (seq + 1) acted.stamp) (sym gates-after) keeps-after;
    low = seq-low;
    answered = record {
      history = did.history;
      turn = record { longer = longer; is_history = did.turn.is_history };
      answered = did.answered ∙ ap (λ x. answer config did.history unit x moment act) keeps.actor_is;
      form = did.form;
      rises = record {
        misses = let m = misses-here seats unit before after low at in let b = misses-before seats unit before after low at in let up = did.misses in omega (arith, m, b, up);
        marks = rw (marks-here seats unit before after low at, marks-before seats unit before after low at) did.marks;
      };
      pass = view-same _ _ _ _ _ _ _ _ _ _ _ _ _ _ _ _ (ap config_of gates-after) gates-after own-after seens-after
          (holds-kept seats unit before after low at (ap (λ (s : UnitSeat). s.holds) seat-is)) (misses-set seats unit before after low at) (marks-set seats unit before after low at);
    };
  }
