-- The world is closed
use Rattle.std.proofs.Common.{◌<◌, ◌≡◌, ℕ, zero, suc, ◌+◌, List, [], ◌∷◌, ◌++◌, length, map, drop, refl, ap, sym, ◌∙◌, subst, arith, true, false, Some}
use Rattle.std.specs.Prelude.{IfSome}
use Rattle.std.proofs.lemmas.List.{length-map}
use Rattle.cm_base.specs.Configuration.{Configuration}
use Rattle.cm_history.specs.declared.act.Entry.{Entry}
use Rattle.cm_history.specs.Record.{Record}
use Rattle.cm_history.proofs.PublicLaws.{Each, Each-by, Each-in, In}
use Rattle.merged_history.specs.Merged.{merged, rests}
use Rattle.merged_history.specs.Own.{IsAsked}
use Rattle.merged_history.specs.Resumed.{IsResumed}
use Rattle.merged_history.specs.Passes.{of_unit, AreFrom}
use Rattle.merged_history.specs.PassRules.{AreLonger, IsRoot}
use Rattle.merged_history.proofs.PublicLaws.{of-from, root-closes, root-resumes, root-sees, AreHistories}
use Rattle.merged_history.specs.Seats.{RootState, own_of}
use Rattle.unit_gate.specs.declared.kin.RecorderFacts.{RecorderFacts}
use Rattle.unit_gate.specs.declared.kin.UnitKin.{UnitKin}
use Rattle.unit_gate.specs.declared.recorded_unit.ClosedUnit.{ClosedUnit}
use Rattle.unit_gate.specs.Recorded.{RecordedState, kin_of, marks_of}
use Rattle.unit_gate.specs.SeatActs.{UnitSeat}
use Rattle.nexus.specs.Worlds.{UnitGate}
use Rattle.nexus.specs.inner.Gates.{IsGateOf, config_of}
use Rattle.nexus.specs.Roots.{AreAtMost}
use Rattle.nexus.specs.Closing.{AreNone, HasNoRecorder, IsLeftOf, AreLeftOf, kept_of, marks_left, WasClosed, WasEnded, WasHandedBack}
use Rattle.nexus.specs.inner.Keeping.{AreAbove, AreGates, IsAbove, IsOpened, KeepsRoot, gates_of, openings, seens, kepts, entries_joined, root_view}
use Rattle.nexus.specs.inner.Rooms.{Room, HasRoom}
use Rattle.nexus.specs.inner.Closing.{IsAlone, AreAlone, IsReady, AreReady, AreEntered, AreHeld, AreClosed, given_back}
use Rattle.nexus.proofs.Entering.{map-entered, each-entered, entered-gates, entered-held, entered-long, entered-longer, entered-above, entered-from, kept_in}
use Rattle.nexus.proofs.Safe.{above-more}
use Rattle.nexus.proofs.Opened.{each-parts, opened-longer}

-- ---- the root's seats, with no pass out

pub are-alone : (seats : List UnitSeat) → Each (λ (s : UnitSeat). s.holds ≡ false) seats → Each (λ (s : UnitSeat). s.out ≡ 0) seats → Each (λ (s : UnitSeat). s.first ≡ true) seats → AreAlone seats
are-alone [] a b c = tt
are-alone (s ∷ ss) a b c = (record { first = c.0; out = b.0; free = a.0 }, are-alone ss a.1 b.1 c.1)

are-ready : (seats : List UnitSeat) → Each (λ (s : UnitSeat). s.first ≡ true) seats → Each (λ (s : UnitSeat). s.out ≡ 0) seats → Each (λ (s : UnitSeat). s.own ≡ []) seats → AreReady seats
are-ready [] a b c = tt
are-ready (s ∷ ss) a b c = (record { first = a.0; out = b.0; nothing = c.0 }, are-ready ss a.1 b.1 c.1)

map-back : {Y : Type 0} (f : UnitSeat → Y) → ((s : UnitSeat) → f (given_back s) ≡ f s) → (seats : List UnitSeat) → map f (map given_back seats) ≡ map f seats
map-back f keep [] = refl
map-back f keep (s ∷ ss) = ap (λ v. v ∷ map f (map given_back ss)) (keep s) ∙ ap (λ l. f s ∷ l) (map-back f keep ss)

each-back : (P Q : UnitSeat → Type 0) → ((s : UnitSeat) → P s → Q (given_back s)) → (seats : List UnitSeat) → Each P seats → Each Q (map given_back seats)
each-back P Q keep [] all = tt
each-back P Q keep (s ∷ ss) all = (keep s all.0, each-back P Q keep ss all.1)

-- ---- all have entered

module _ (made : ℕ) (seqs : List ℕ) (root : RootState) (old now : List UnitSeat) (units : List RecordedState) (keeps : KeepsRoot (config_of (gates_of old)) made seqs root old) (entered : AreEntered old now units (length old)) where
  abbrev config : Configuration
  config = config_of (gates_of old)

  abbrev back : List UnitSeat
  back = map given_back now

  gates-now : gates_of now ≡ gates_of old
  gates-now = entered-gates old now units entered

  kepts-now : kepts now ≡ kepts old
  kepts-now = map-entered (λ (s : UnitSeat). entries_joined s.joined) (λ b a u has. ap (λ (s : UnitSeat). entries_joined s.joined) has.taken.seat) old now units entered

  long : length now ≡ length old
  long = (entered-long old now units (length old) entered).0

  from : AreFrom 0 (seens now) × AreFrom 0 (kept_in units)
  from = entered-from config 0 old now units (λ i g at. let e : 0 + i ≡ i = omega arith in subst (λ n. IsGateOf config n g) (sym e) (keeps.gates_are i g at)) entered

  pub kept-from : AreFrom 0 (kept_in units)
  kept-from = from.1

  pub held : AreHeld now units
  held = entered-held old now units entered

  pub gates-held : gates_of now ≡ gates_of old
  gates-held = gates-now

  pub count : length units ≡ length old
  count = (entered-long old now units (length old) entered).1

  root-looks : IsRoot config made (seens now) (kepts now) root.out root.joined
  root-looks = rw kepts-now (root-sees config made (seens old) (seens now) (kepts old) root.out root.joined keeps.is (entered-longer old now units entered))

  openings-now : openings now ≡ openings old
  openings-now = map-entered (λ (s : UnitSeat). s.opening) (λ b a u has. ap (λ (s : UnitSeat). s.opening) has.taken.seat) old now units entered

  opened-now : Each (IsOpened config) now
  opened-now = each-entered (IsOpened config) (IsOpened config) (λ b a u has is. opened-longer config b a (ap (λ (s : UnitSeat). s.opening) has.taken.seat) has.taken.turn.longer is) old now units entered keeps.openings

  -- ---- want of memory: all turns are given back

  gates-back : gates_of back ≡ gates_of old
  gates-back = map-back (λ (s : UnitSeat). s.gate) (λ s. refl) now ∙ gates-now

  seens-back : seens back ≡ seens now
  seens-back = map-back (λ (s : UnitSeat). s.seen) (λ s. refl) now

  kepts-back : kepts back ≡ kepts now
  kepts-back = map-back (λ (s : UnitSeat). entries_joined s.joined) (λ s. refl) now

  openings-back : openings back ≡ openings old
  openings-back = map-back (λ (s : UnitSeat). s.opening) (λ s. refl) now ∙ openings-now

  long-back : length back ≡ length old
  long-back = length-map now given_back ∙ long

  keeps-back-old : KeepsRoot config made seqs root back
  keeps-back-old = record {
    is = rw (seens-back, kepts-back) root-looks;
    gates_are = rw gates-back keeps.gates_are;
    units = long-back ∙ keeps.units;
    free = each-back (λ (s : UnitSeat). s.first ≡ true) (λ (s : UnitSeat). s.holds ≡ false) (λ s is. refl) now
        (each-entered (λ (s : UnitSeat). s.first ≡ true) (λ (s : UnitSeat). s.first ≡ true) (λ b a u has is. ap (λ (s : UnitSeat). s.first) has.taken.seat ∙ is) old now units entered keeps.firsts);
    firsts = each-back (λ (s : UnitSeat). s.first ≡ true) (λ (s : UnitSeat). s.first ≡ true) (λ s is. is) now
        (each-entered (λ (s : UnitSeat). s.first ≡ true) (λ (s : UnitSeat). s.first ≡ true) (λ b a u has is. ap (λ (s : UnitSeat). s.first) has.taken.seat ∙ is) old now units entered keeps.firsts);
    outs = each-back (λ (s : UnitSeat). s.out ≡ length root.out) (λ (s : UnitSeat). s.out ≡ length root.out) (λ s is. is) now
        (each-entered (λ (s : UnitSeat). s.out ≡ length root.out) (λ (s : UnitSeat). s.out ≡ length root.out) (λ b a u has is. ap (λ (s : UnitSeat). s.out) has.taken.seat ∙ is) old now units entered keeps.outs);
    nothing = each-back (λ (s : UnitSeat). s.own ≡ []) (λ (s : UnitSeat). s.own ≡ []) (λ s is. is) now
        (each-entered (λ (s : UnitSeat). s.own ≡ []) (λ (s : UnitSeat). s.own ≡ []) (λ b a u has is. ap (λ (s : UnitSeat). s.own) has.taken.seat ∙ is) old now units entered keeps.nothing);
    openings = each-back (IsOpened config) (IsOpened config) (λ s is. record { low = is.low; asked = is.asked }) now opened-now;
    seqs_are = rw long-back keeps.seqs_are;
  }

  -- the rooms are as large as before
  pub room-back : (room : Room) → HasRoom (length old) room → HasRoom (length back) room
  room-back room has = rw long-back has

  pub keeps-back : KeepsRoot (config_of (gates_of back)) made seqs root back
  keeps-back = subst (λ g. KeepsRoot (config_of g) made seqs root back) (sym gates-back) keeps-back-old

  pub above-back : AreAbove old → AreAbove back
  above-back above = each-back IsAbove IsAbove (λ s is. is) now
      (each-entered IsAbove IsAbove (λ b a u has is. above-more b a (ap (λ (s : UnitSeat). s.gate) has.taken.seat) has.taken.marks is) old now units entered above)

  pub handed-back : WasHandedBack (root_view config made root old) (root_view (config_of (gates_of back)) made root back)
  handed-back = record {
    longer = rw seens-back (entered-longer old now units entered);
    marks = rw (map-back (λ (s : UnitSeat). s.marks) (λ s. refl) now) (entered-above old now units entered);
    root = rw (gates-back, openings-back) refl;
  }

  -- ---- all gates are closed

  pub ready : root.out ≡ [] → AreReady now
  ready none = are-ready now
      (each-entered (λ (s : UnitSeat). s.first ≡ true) (λ (s : UnitSeat). s.first ≡ true) (λ b a u has is. ap (λ (s : UnitSeat). s.first) has.taken.seat ∙ is) old now units entered keeps.firsts)
      (each-entered (λ (s : UnitSeat). s.out ≡ length root.out) (λ (s : UnitSeat). s.out ≡ 0) (λ b a u has is. ap (λ (s : UnitSeat). s.out) has.taken.seat ∙ is ∙ ap length none) old now units entered keeps.outs)
      (each-entered (λ (s : UnitSeat). s.own ≡ []) (λ (s : UnitSeat). s.own ≡ []) (λ b a u has is. ap (λ (s : UnitSeat). s.own) has.taken.seat ∙ is) old now units entered keeps.nothing)

  histories : AreHistories config (seens now)
  histories = record {
    units = length-map now (λ (s : UnitSeat). s.seen) ∙ long ∙ keeps.units;
    own = λ unit. let e : 0 + unit ≡ unit = omega arith in subst (λ u. Each (λ (x : Entry). x.unit ≡ u) (of_unit (seens now) unit)) e (of-from 0 (seens now) unit from.0).0;
    rising = λ unit. (of-from 0 (seens now) unit from.0).1;
  }

  module _ {R : Type 0} (facts : R → RecorderFacts) (fits : R → Entry → Type 0) where
    -- the entries behind the opening ones are those that joined seats have made
    closed-made : (seats : List UnitSeat) (us : List RecordedState) (left : List (ClosedUnit R)) → AreClosed facts fits seats us left → (unit : ℕ)
        → Each (λ (e : Entry). In e (of_unit (kepts seats) unit)) (of_unit (rests (openings seats) (seens seats)) unit)
    closed-made [] us left all unit = tt
    closed-made (s ∷ ss) [] left all unit = absurd all
    closed-made (s ∷ ss) (u ∷ us) [] all unit = absurd all
    closed-made (s ∷ ss) (u ∷ us) (l ∷ ls) all zero = all.0.made
    closed-made (s ∷ ss) (u ∷ us) (l ∷ ls) all (suc unit) = closed-made ss us ls all.1 unit

    closed-later : (seats : List UnitSeat) (us : List RecordedState) (left : List (ClosedUnit R)) → AreClosed facts fits seats us left → (unit : ℕ)
        → Each (λ (e : Entry). In e (of_unit (rests (openings seats) (seens seats)) unit)) (of_unit (kepts seats) unit)
    closed-later [] us left all unit = tt
    closed-later (s ∷ ss) [] left all unit = absurd all
    closed-later (s ∷ ss) (u ∷ us) [] all unit = absurd all
    closed-later (s ∷ ss) (u ∷ us) (l ∷ ls) all zero = all.0.later
    closed-later (s ∷ ss) (u ∷ us) (l ∷ ls) all (suc unit) = closed-later ss us ls all.1 unit

    -- all of them, where there were none at the opening
    closed-whole : (seats : List UnitSeat) (us : List RecordedState) (left : List (ClosedUnit R)) → AreClosed facts fits seats us left → AreNone (openings seats) → (unit : ℕ)
        → Each (λ (e : Entry). In e (of_unit (kepts seats) unit)) (of_unit (seens seats) unit)
    closed-whole [] us left all none unit = tt
    closed-whole (s ∷ ss) [] left all none unit = absurd all
    closed-whole (s ∷ ss) (u ∷ us) [] all none unit = absurd all
    closed-whole (s ∷ ss) (u ∷ us) (l ∷ ls) all none zero = subst (λ n. Each (λ (e : Entry). In e (entries_joined s.joined)) (drop n s.seen)) none.0 all.0.made
    closed-whole (s ∷ ss) (u ∷ us) (l ∷ ls) all none (suc unit) = closed-whole ss us ls all.1 none.1 unit

    -- each entry might be asked: those at the opening, and those that joined seats have made
    closed-asked : (seats : List UnitSeat) (us : List RecordedState) (left : List (ClosedUnit R)) → AreClosed facts fits seats us left → Each (IsOpened config) seats
        → ((unit : ℕ) → Each (IsAsked config) (of_unit (kepts seats) unit)) → (unit : ℕ) → Each (IsAsked config) (of_unit (seens seats) unit)
    closed-asked [] us left all opened asked unit = tt
    closed-asked (s ∷ ss) [] left all opened asked unit = absurd all
    closed-asked (s ∷ ss) (u ∷ us) [] all opened asked unit = absurd all
    closed-asked (s ∷ ss) (u ∷ us) (l ∷ ls) all opened asked zero =
        each-parts (IsAsked config) s.opening s.seen opened.0.asked
        (Each-by (IsAsked config) (drop s.opening s.seen) (λ e i.
        Each-in (IsAsked config) (entries_joined s.joined) e (asked zero) (Each-in (λ (x : Entry). In x (entries_joined s.joined)) (drop s.opening s.seen) e all.0.made i)))
    closed-asked (s ∷ ss) (u ∷ us) (l ∷ ls) all opened asked (suc unit) = closed-asked ss us ls all.1 opened.1 (λ n. asked (suc n)) unit

    closed-kept : (seats : List UnitSeat) (us : List RecordedState) (left : List (ClosedUnit R)) → AreClosed facts fits seats us left → kept_of facts fits left ≡ kept_in us
    closed-kept [] [] [] all = refl
    closed-kept [] [] (l ∷ ls) all = absurd all
    closed-kept [] (u ∷ us) left all = absurd all
    closed-kept (s ∷ ss) [] left all = absurd all
    closed-kept (s ∷ ss) (u ∷ us) [] all = absurd all
    closed-kept (s ∷ ss) (u ∷ us) (l ∷ ls) all = ap (λ x. x ∷ kept_of facts fits ls) all.0.kept_is ∙ ap (λ x. u.unit.kept ∷ x) (closed-kept ss us ls all.1)

    closed-marks : (seats : List UnitSeat) (us : List RecordedState) (left : List (ClosedUnit R)) → AreHeld seats us → AreClosed facts fits seats us left → marks_left facts fits left ≡ map (λ (s : UnitSeat). s.marks) seats
    closed-marks [] [] [] held all = refl
    closed-marks [] [] (l ∷ ls) held all = absurd all
    closed-marks [] (u ∷ us) left held all = absurd all
    closed-marks (s ∷ ss) [] left held all = absurd all
    closed-marks (s ∷ ss) (u ∷ us) [] held all = absurd all
    closed-marks (s ∷ ss) (u ∷ us) (l ∷ ls) held all =
        ap (λ x. x ∷ marks_left facts fits ls) (all.0.marks_are ∙ sym held.0.marks) ∙ ap (λ x. s.marks ∷ x) (closed-marks ss us ls held.1 all.1)

    closed-left : (seats : List UnitSeat) (us : List RecordedState) (left : List (ClosedUnit R)) → AreHeld seats us → AreClosed facts fits seats us left → AreLeftOf facts fits (gates_of seats) (seens seats) left
    closed-left [] [] [] held all = tt
    closed-left [] [] (l ∷ ls) held all = absurd all
    closed-left [] (u ∷ us) left held all = absurd all
    closed-left (s ∷ ss) [] left held all = absurd all
    closed-left (s ∷ ss) (u ∷ us) [] held all = absurd all
    closed-left (s ∷ ss) (u ∷ us) (l ∷ ls) held all =
        (subst (λ k. IfSome k (λ kin. IsLeftOf facts fits kin s.seen l)) (sym held.0.kin_is) all.0.left_of, closed-left ss us ls held.1 all.1)

    -- what is kept where no unit has a recorder
    kept-whole : (seats : List UnitSeat) (us : List RecordedState) (left : List (ClosedUnit R)) → AreHeld seats us → AreClosed facts fits seats us left → Each HasNoRecorder (gates_of seats) → kept_of facts fits left ≡ seens seats
    kept-whole [] [] [] held all none = refl
    kept-whole [] [] (l ∷ ls) held all none = absurd all
    kept-whole [] (u ∷ us) left held all none = absurd all
    kept-whole (s ∷ ss) [] left held all none = absurd all
    kept-whole (s ∷ ss) (u ∷ us) [] held all none = absurd all
    kept-whole (s ∷ ss) (u ∷ us) (l ∷ ls) held all none =
        let same : kin_of u ≡ none.0.kin = (let x = held.0.kin_is in let y = none.0.has in let z : Some (kin_of u) ≡ Some none.0.kin = sym x ∙ y in cc) in
        let zero : l.folded ≡ 0 = all.0.left_of.unfolded (ap (λ (k : UnitKin). k.opening.absent) same ∙ none.0.absent) ∙ ap (λ (k : UnitKin). k.folded) same ∙ none.0.unfolded in
        ap (λ x. x ∷ kept_of facts fits ls) (all.0.left_of.kept ∙ ap (λ n. drop n s.seen) zero) ∙ ap (λ x. s.seen ∷ x) (kept-whole ss us ls held.1 all.1 none.1)

    looks : root.out ≡ [] → IsRoot config made (seens now) (kepts now) [] root.joined
    looks none = subst (λ l. IsRoot config made (seens now) (kepts now) l root.joined) none root-looks

    kept-asked : root.out ≡ [] → (unit : ℕ) → Each (IsAsked config) (of_unit (kepts now) unit)
    kept-asked none unit =
        let is = looks none in
        Each-by (IsAsked config) (of_unit (kepts now) unit) (λ e i.
        Each-in (IsAsked config) (own_of e.actor root.joined) e (is.passes e.actor).asked (Each-in (λ (x : Entry). In x (own_of x.actor root.joined)) (of_unit (kepts now) unit) e (is.covered unit) i))

    pub was-ended : (left : List (ClosedUnit R)) → root.out ≡ [] → AreClosed facts fits now units left → WasEnded facts fits (root_view config made root old) left
    was-ended left none closed = record {
      histories = seens now;
      longer = entered-longer old now units entered;
      resumed = subst (λ ns. IsResumed config ns (seens now) root.joined) openings-now
          (root-resumes config made (openings now) (seens now) (kepts now) root.joined (looks none) histories (closed-made now units left closed) (closed-later now units left closed)
          (closed-asked now units left closed opened-now (kept-asked none)));
      whole = λ nothing. root-closes config made (seens now) (kepts now) root.joined (looks none) histories (closed-whole now units left closed (subst AreNone (sym openings-now) nothing));
      left = subst (λ g. AreLeftOf facts fits g (seens now) left) gates-now (closed-left now units left held closed);
      marks = rw (closed-marks now units left held closed) (entered-above old now units entered);
    }

    pub was-closed : (left : List (ClosedUnit R)) (merged_kept : Record) → root.out ≡ [] → AreClosed facts fits now units left → merged_kept.entries ≡ merged (kept_in units)
        → WasClosed facts fits (root_view config made root old) left merged_kept
    unfolding was-ended
    was-closed left merged_kept none closed is = record {
      ended = was-ended left none closed;
      merged_is = is ∙ sym (ap merged (closed-kept now units left closed));
      merged_whole = λ nothing. is ∙ sym (ap merged (closed-kept now units left closed)) ∙ ap merged (kept-whole now units left held closed (subst (Each HasNoRecorder) (sym gates-now) nothing));
    }
