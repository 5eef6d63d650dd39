-- A turn in which no entry was made
use Rattle.std.proofs.Common.{◌<◌, ◌≤◌, ◌≡◌, ℕ, ◌+◌, List, [], ◌∷◌, length, map, refl, ap, sym, ◌∙◌, subst, arith, true, false, Bool, inl, inr, Some}
use Rattle.std.specs.Prelude.{◌⊎◌, slice_set, slice_get, slice_index, slice_index_or}
use Rattle.std.proofs.lemmas.List.{length-set, length-map}
use mathlib.Core.List.{IsPrefix}
use Rattle.cm_base.specs.Configuration.{Configuration}
use Rattle.cm_base.specs.Units.{unit_of}
use Rattle.cm_history.specs.declared.act.Act.{Act}
use Rattle.cm_history.specs.declared.act.Actor.{Actor}
use Rattle.cm_history.specs.declared.act.Entry.{Entry}
use Rattle.cm_history.specs.declared.refused.ActRefused.{ActRefused}
use Rattle.cm_history.specs.History.{past_of}
use Rattle.cm_history.specs.Room.{is_full}
use Rattle.merged_history.specs.Merged.{merged}
use Rattle.merged_history.specs.Passes.{of_unit}
use Rattle.merged_history.specs.PassRules.{AreLonger}
use Rattle.merged_history.proofs.PublicLaws.{pass-sees, longer-set, set-at}
use Rattle.merged_history.specs.Seats.{PassState}
use Rattle.recorder.specs.Recording.{Rose}
use Rattle.unit_gate.specs.declared.kin.RecorderFacts.{RecorderFacts}
use Rattle.unit_gate.specs.declared.kin.UnitKin.{UnitKin}
use Rattle.unit_gate.specs.declared.refused.TryRefused.{TryRefused}
use Rattle.unit_gate.specs.Asking.{IsServed as IsServedAt}
use Rattle.unit_gate.specs.SeatActs.{UnitSeat, IfAct, HasSeen, IsRefused, IsTryRefused, Missed, folded_of, faults_of, WasFolded as WasFoldedAt, WasSaved as WasSavedAt, IsSaved as IsSavedAt}
use Rattle.nexus.specs.Worlds.{UnitGate, PassView, last_stamp_of, HasLooked, HasNone, HasSome, WasFolded, WasSaved, IsSaved, FoundTaken, IsServed, NotDone, NotTaken, faults_at, folded_at}
use Rattle.nexus.specs.inner.Gates.{config_of}
use Rattle.nexus.specs.inner.Keeping.{gates_of, entries_of, owns, seens, pass_view, KeepsPass}
use Rattle.nexus.proofs.Acted.{asking, kin_with}
use Rattle.nexus.proofs.Places.{map-set, map-get, map-kept}
use Rattle.nexus.proofs.Turning.{view-same, seen-at, gates-kept, holds-kept, owns-kept, seens-set, misses-set, marks-set, misses-here, misses-before, marks-here, marks-before}

module _ (pass : PassState) (seats : List UnitSeat) (actor : Actor) (seq last : ℕ) (keeps : KeepsPass (config_of (gates_of seats)) pass.ticket seats actor seq last)
    (unit : ℕ) (before after : UnitSeat) (low : unit < length seats) (at : before ≡ slice_index_or seats unit before) where
  abbrev config : Configuration
  config = config_of (gates_of seats)

  -- ---- the turn was taken

  module _ (m : Missed before after) where
    missed-gates : gates_of (slice_set seats unit after) ≡ gates_of seats
    missed-gates = gates-kept seats unit before after low at (ap (λ (s : UnitSeat). s.gate) m)

    missed-owns : owns (slice_set seats unit after) ≡ owns seats
    missed-owns = owns-kept seats unit before after low at (ap (λ (s : UnitSeat). s.own) m)

    missed-seens : seens (slice_set seats unit after) ≡ seens seats
    missed-seens = map-kept (λ (s : UnitSeat). s.seen) seats unit before after low at (ap (λ (s : UnitSeat). s.seen) m)

    pub missed-keeps : KeepsPass (config_of (gates_of (slice_set seats unit after))) pass.ticket (slice_set seats unit after) actor seq last
    missed-keeps = subst (λ g. KeepsPass (config_of g) pass.ticket (slice_set seats unit after) actor seq last) (sym missed-gates) record {
      is = rw (missed-owns, missed-seens) keeps.is;
      gates_are = rw missed-gates keeps.gates_are;
      units = length-set seats unit after ∙ keeps.units;
      actor_is = keeps.actor_is;
      pump = keeps.pump;
      seq_is = rw missed-owns keeps.seq_is;
      last_is = rw missed-owns keeps.last_is;
      rising = keeps.rising;
    }

    missed-marks : map (λ (s : UnitSeat). s.marks) (slice_set seats unit after) ≡ map (λ (s : UnitSeat). s.marks) seats
    missed-marks = map-kept (λ (s : UnitSeat). s.marks) seats unit before after low at (ap (λ (s : UnitSeat). s.marks) m)

    missed-misses : map (λ (s : UnitSeat). s.misses) (slice_set seats unit after) ≡ slice_set (map (λ (s : UnitSeat). s.misses) seats) unit (slice_index (map (λ (s : UnitSeat). s.misses) seats) unit + 1)
    missed-misses = map-set (λ (s : UnitSeat). s.misses) seats unit after
        ∙ ap (slice_set (map (λ (s : UnitSeat). s.misses) seats) unit) (ap (λ (s : UnitSeat). s.misses) m ∙ ap (λ n. n + 1) (sym (misses-before seats unit before after low at)))

    pub missed-found : FoundTaken (pass_view config pass seats) (pass_view (config_of (gates_of (slice_set seats unit after))) pass (slice_set seats unit after)) unit
    missed-found = view-same _ _ _ _ _ _ _ _ _ _ _ _ _ _ _ _ (ap config_of missed-gates) missed-gates (ap merged missed-owns) missed-seens
        (holds-kept seats unit before after low at (ap (λ (s : UnitSeat). s.holds) m)) missed-misses missed-marks

  -- ---- the history was seen

  module _ (given : UnitKin) (saw : HasSeen (kin_with config unit given) before after) where
    seat-is : after ≡ record before { seen = after.seen; misses = after.misses; marks = after.marks }
    seat-is = saw.looked.seat

    longer : IsPrefix (of_unit (seens seats) unit) after.seen
    longer = subst (λ l. IsPrefix l after.seen) (sym (seen-at seats unit before after low at)) saw.turn.longer

    gates-after : gates_of (slice_set seats unit after) ≡ gates_of seats
    gates-after = gates-kept seats unit before after low at (ap (λ (s : UnitSeat). s.gate) seat-is)

    owns-after : owns (slice_set seats unit after) ≡ owns seats
    owns-after = owns-kept seats unit before after low at (ap (λ (s : UnitSeat). s.own) seat-is)

    seens-after : seens (slice_set seats unit after) ≡ slice_set (seens seats) unit after.seen
    seens-after = seens-set seats unit before after low at

    saw-keeps : KeepsPass (config_of (gates_of (slice_set seats unit after))) pass.ticket (slice_set seats unit after) actor seq last
    saw-keeps = subst (λ g. KeepsPass (config_of g) pass.ticket (slice_set seats unit after) actor seq last) (sym gates-after) record {
      is = rw (owns-after, seens-after) (pass-sees config pass.ticket (owns seats) (seens seats) (slice_set (seens seats) unit after.seen) keeps.is
          (longer-set (seens seats) unit after.seen longer) (length-set (seens seats) unit after.seen));
      gates_are = rw gates-after keeps.gates_are;
      units = length-set seats unit after ∙ keeps.units;
      actor_is = keeps.actor_is;
      pump = keeps.pump;
      seq_is = rw owns-after keeps.seq_is;
      last_is = rw owns-after keeps.last_is;
      rising = keeps.rising;
    }

    looked : HasLooked (pass_view config pass seats) (pass_view (config_of (gates_of (slice_set seats unit after))) pass (slice_set seats unit after)) unit
    looked = record {
      history = after.seen;
      turn = record { longer = longer; is_history = saw.turn.is_history };
      rises = record {
        misses = let m = misses-here seats unit before after low at in let b = misses-before seats unit before after low at in let up = saw.looked.misses in omega (arith, m, b, up);
        marks = rw (marks-here seats unit before after low at, marks-before seats unit before after low at) saw.looked.marks;
      };
      pass = view-same _ _ _ _ _ _ _ _ _ _ _ _ _ _ _ _ (ap config_of gates-after) gates-after (ap merged owns-after) seens-after
          (holds-kept seats unit before after low at (ap (λ (s : UnitSeat). s.holds) seat-is)) (misses-set seats unit before after low at) (marks-set seats unit before after low at);
    }

    seen-here : of_unit (seens (slice_set seats unit after)) unit ≡ after.seen
    seen-here = ap (λ l. of_unit l unit) seens-after ∙ set-at (seens seats) unit after.seen (let m = length-map seats (λ (s : UnitSeat). s.seen) in omega (arith, low, m))

    folded-here : folded_at (pass_view (config_of (gates_of (slice_set seats unit after))) pass (slice_set seats unit after)) unit ≡ folded_of after
    folded-here = ap (λ l. slice_index_or l 1 0) (marks-here seats unit before after low at)

    -- the kin that the gate of the unit shows
    none-here : (kin : UnitKin) → before.gate.kin ≡ Some kin → kin.opening.absent ≡ true → HasNone (gates_of seats) unit
    none-here kin has absent = record { gate = before.gate; at = map-get (λ (s : UnitSeat). s.gate) seats unit before low at; kin = kin; has = has; absent = absent }

    folded : (kin : UnitKin) → before.gate.kin ≡ Some kin → kin.opening ≡ given.opening → WasFoldedAt (kin_with config unit given) before after
        → WasFolded (pass_view config pass seats) (pass_view (config_of (gates_of (slice_set seats unit after))) pass (slice_set seats unit after)) unit
    folded kin has same (inl all) = inl (folded-here ∙ all ∙ ap length (sym seen-here))
    folded kin has same (inr (inl none)) = inr (inl (none-here kin has (ap (λ (o : RecorderFacts). o.absent) same ∙ none)))
    folded kin has same (inr (inr rose)) =
        inr (inr (rw (ap (λ l. slice_index_or l 0 0) (marks-before seats unit before after low at), ap (λ l. slice_index_or l 0 0) (marks-here seats unit before after low at)) rose))

  module _ (kin : UnitKin) (has : before.gate.kin ≡ Some kin) (moment : ℕ) (act : Act) where
    abbrev after_view : PassView
    after_view = pass_view (config_of (gates_of (slice_set seats unit after))) pass (slice_set seats unit after)

    pub refused : (e : ActRefused) → IsRefused (kin_with config unit kin) before after (asking actor seq last moment act) e → NotDone (pass_view config pass seats) after_view unit act e
    refused ActRefused.OutOfMemory r = looked kin r
    refused ActRefused.Full r = (
      looked kin r.0,
      ap (λ n. is_full (unit_of config unit) n (past_of config unit (of_unit (seens (slice_set seats unit after)) unit)) pass.ticket.actor (last_stamp_of (merged (owns seats))) act) (folded-here kin r.0)
          ∙ ap (λ l. is_full (unit_of config unit) (folded_of after) (past_of config unit l) pass.ticket.actor (last_stamp_of (merged (owns seats))) act) (seen-here kin r.0)
          ∙ ap (λ x. is_full (unit_of config unit) (folded_of after) (past_of config unit after.seen) x (last_stamp_of (merged (owns seats))) act) (sym keeps.actor_is)
          ∙ ap (λ x. is_full (unit_of config unit) (folded_of after) (past_of config unit after.seen) actor x act) (sym keeps.last_is)
          ∙ r.1,
      folded kin r.0 kin has refl r.2,
    )

    pub refused-keeps : (e : ActRefused) → IsRefused (kin_with config unit kin) before after (asking actor seq last moment act) e
        → KeepsPass (config_of (gates_of (slice_set seats unit after))) pass.ticket (slice_set seats unit after) actor seq last
    refused-keeps ActRefused.OutOfMemory r = saw-keeps kin r
    refused-keeps ActRefused.Full r = saw-keeps kin r.0

    seen-now : of_unit (seens (slice_set seats unit after)) unit ≡ after.seen
    seen-now = ap (λ l. of_unit l unit) (seens-set seats unit before after low at) ∙ set-at (seens seats) unit after.seen (let m = length-map seats (λ (s : UnitSeat). s.seen) in omega (arith, low, m))

    pub served : (e : ActRefused) → IsServedAt (kin_with config unit kin) after.seen (asking actor seq last moment act) e → IsServed (pass_view config pass seats) after_view unit act e
    served e is =
        let own = subst (λ n. IsServedAt (kin_with config unit kin) after.seen (asking actor seq n moment act) e) keeps.last_is is in
        let mine = subst (λ x. IsServedAt (kin_with config unit kin) after.seen (asking x seq (last_stamp_of (merged (owns seats))) moment act) e) keeps.actor_is own in
        let here = subst (λ l. IsServedAt (kin_with config unit kin) l (asking pass.ticket.actor seq (last_stamp_of (merged (owns seats))) moment act) e) (sym seen-now) mine in
        record { serving = λ full serves. here.serving full serves; ending = λ ends. here.ending ends }

    pub served-there : (e : TryRefused) → IfAct e (IsServedAt (kin_with config unit kin) after.seen (asking actor seq last moment act)) → IfAct e (IsServed (pass_view config pass seats) after_view unit act)
    served-there (TryRefused.Held handed) is = is
    served-there (TryRefused.Act e) is = served e is

    -- from an eager recorder the entry was recorded, or that failed, or wanted memory
    pub saved : (eager : Bool) → IsSavedAt eager kin before after → IsSaved eager (pass_view config pass seats) after_view unit
    saved eager is = λ on some. go (is on (present some))
      where
        present : HasSome (gates_of seats) unit → kin.opening.absent ≡ false
        present some =
            let gates : Some before.gate ≡ Some some.gate = sym (map-get (λ (s : UnitSeat). s.gate) seats unit before low at) ∙ some.at in
            let gate : before.gate ≡ some.gate = cc in
            let kins : Some kin ≡ Some some.kin = sym has ∙ ap (λ (g : UnitGate). g.kin) gate ∙ some.has in
            let same : kin ≡ some.kin = cc in
            ap (λ (k : UnitKin). k.opening.absent) same ∙ some.present

        go : WasSavedAt before after → WasSaved (pass_view config pass seats) after_view unit
        go (inl all) = inl (ap (λ l. slice_index_or l 1 0) (marks-here seats unit before after low at) ∙ all ∙ ap length (sym seen-now))
        go (inr (inl rose)) =
            inr (inl (rw (ap (λ l. slice_index_or l 0 0) (marks-before seats unit before after low at), ap (λ l. slice_index_or l 0 0) (marks-here seats unit before after low at)) rose))
        go (inr (inr rose)) =
            inr (inr (rw (ap (λ l. slice_index_or l 2 0) (marks-before seats unit before after low at), ap (λ l. slice_index_or l 2 0) (marks-here seats unit before after low at)) rose))

    pub not-taken : (e : TryRefused) → IsTryRefused (kin_with config unit kin) before after (asking actor seq last moment act) e → NotTaken (pass_view config pass seats) after_view unit act e
    not-taken (TryRefused.Held handed) r = (r.0, missed-found r.1)
    not-taken (TryRefused.Act e) r = refused e r.0

    pub not-taken-keeps : (e : TryRefused) → IsTryRefused (kin_with config unit kin) before after (asking actor seq last moment act) e
        → KeepsPass (config_of (gates_of (slice_set seats unit after))) pass.ticket (slice_set seats unit after) actor seq last
    not-taken-keeps (TryRefused.Held handed) r = missed-keeps r.1
    not-taken-keeps (TryRefused.Act e) r = refused-keeps e r.0
