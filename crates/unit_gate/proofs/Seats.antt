-- What an act in a turn does to the seat
use Rattle.std.proofs.Common.{Ok, Err, IfOk, IfErr, ◌≤◌, ◌≡◌, ℕ, List, length, refl, ap, sym, ◌∙◌, subst, arith, inl, inr, true, false}
use Rattle.std.specs.Prelude.{Option, None, Some, Bool, IfSome, IsSome, slice_index_or}
use Rattle.std.specs.declared.result.Result.{Result}
use mathlib.Core.List.{IsPrefix}
use Rattle.cm_history.specs.declared.act.Entry.{Entry}
use Rattle.cm_history.specs.declared.refused.ActRefused.{ActRefused}
use Rattle.merged_history.specs.PassRules.{IsHistory}
use Rattle.recorder.specs.Recording.{Rose}
use Rattle.turn_gate.specs.Marks.{AtMost}
use Rattle.turn_gate.specs.Seats.{and_newest, with_newest}
use Rattle.turn_gate.proofs.PublicLaws.{at_most_trans, prefix_self, prefix_trans}
use Rattle.unit_gate.specs.declared.asked.Acted.{Acted}
use Rattle.unit_gate.specs.declared.asked.AskedAct.{AskedAct}
use Rattle.unit_gate.specs.declared.kin.UnitKin.{UnitKin}
use Rattle.unit_gate.specs.Asking.{entry_of, is_full_at}
use Rattle.unit_gate.specs.Recorded.{RecordedState, StandsFor, kin_of, marks_of, newest}
use Rattle.unit_gate.specs.UnitActs as unit
use Rattle.unit_gate.specs.UnitActs.{DidAct, NotDone}
use Rattle.unit_gate.specs.inner.Keeping as keeping
use Rattle.unit_gate.specs.SeatActs.{UnitSeat, HasActed, HasSeen, HasTaken, HasWaited, IsRefused, WasFolded, WasSaved, IsSaved, counted, faults_of, folded_of, late_of}
use Rattle.unit_gate.proofs.Standing.{all-folded, stands-history}

-- ---- in the turn

-- the seat, as it was but for the turn
abbrev idle : UnitSeat → UnitSeat
idle s = record s { holds = false }

module _ (v last : RecordedState) (seat after : UnitSeat) (asked : AskedAct)
    (marks : seat.marks ≡ marks_of v) (above : AtMost (marks_of v) (marks_of last)) where
  abbrev e : Entry
  e = entry_of (kin_of v) seat.seen asked

  -- the act was done, its entry was counted, and the turn given back
  pub acted-here : (a : Acted) (first : RecordedState) (mid : UnitSeat) → StandsFor v seat.seen → DidAct (kin_of v) first seat.seen asked a
      → mid ≡ with_newest seat (newest first) → after ≡ record mid { holds = false; marks = marks_of last } → HasActed (kin_of v) (idle seat) after asked a
  acted-here a first mid stands did counted_is left =
      let is : after ≡ record (counted seat e) { holds = false; marks = marks_of last } =
      left ∙ ap (λ (s : UnitSeat). record s { holds = false; marks = marks_of last }) (counted_is ∙ ap (λ o. with_newest seat o) did.newest_is) in
      record {
        history = seat.seen;
        turn = record { longer = prefix_self seat.seen; is_history = stands-history v seat.seen stands };
        answered = did.answered;
        form = did.form;
        stamp = did.stamp;
        misses = let same = ap (λ (s : UnitSeat). s.misses) is in omega (arith, same);
        marks = subst (λ m. AtMost m after.marks) (sym marks) (subst (λ (m : List ℕ). AtMost (marks_of v) m) (sym (ap (λ (s : UnitSeat). s.marks) is)) above);
        seat = is ∙ ap (λ n. record (counted seat e) { holds = false; misses = n; marks = marks_of last }) (sym (ap (λ (s : UnitSeat). s.misses) is))
            ∙ ap (λ m. record (counted seat e) { holds = false; misses = after.misses; marks = m }) (sym (ap (λ (s : UnitSeat). s.marks) is));
      }

  -- the act was refused, and the turn given back
  pub refused-here : (refused : ActRefused) → NotDone v last seat.seen asked refused → kin_of last ≡ kin_of v
      → after ≡ record seat { holds = false; marks = marks_of last } → IsRefused (kin_of v) (idle seat) after asked refused
  refused-here refused outcome kin left = by_cause refused outcome.full outcome.folded
    where
      seen_is : after.seen ≡ seat.seen
      seen_is = ap (λ (s : UnitSeat). s.seen) left

      marks_are : after.marks ≡ marks_of last
      marks_are = ap (λ (s : UnitSeat). s.marks) left

      seen : HasSeen (kin_of v) (idle seat) after
      seen = record {
        turn = record {
          longer = subst (λ l. IsPrefix seat.seen l) (sym seen_is) (prefix_self seat.seen);
          is_history = subst (λ l. IsHistory v.unit.unit l) (sym seen_is) (subst (λ (k : UnitKin). IsHistory k.unit seat.seen) kin (stands-history last seat.seen outcome.stands));
        };
        looked = record {
          misses = let same = ap (λ (s : UnitSeat). s.misses) left in omega (arith, same);
          marks = subst (λ m. AtMost m after.marks) (sym marks) (subst (λ (m : List ℕ). AtMost (marks_of v) m) (sym marks_are) above);
          seat = left ∙ ap (λ l. record seat { seen = l; holds = false; marks = marks_of last }) (sym seen_is)
              ∙ ap (λ n. record seat { seen = after.seen; holds = false; misses = n; marks = marks_of last }) (sym (ap (λ (s : UnitSeat). s.misses) left))
              ∙ ap (λ m. record seat { seen = after.seen; holds = false; misses = after.misses; marks = m }) (sym marks_are);
        };
      }

      now_folded : folded_of after ≡ last.unit.folded
      now_folded = ap (λ (s : UnitSeat). folded_of s) left

      was_folded : unit.WasFolded v last → WasFolded (kin_of v) (idle seat) after
      was_folded (inl none) = inl (now_folded ∙ all-folded last seat.seen outcome.stands none ∙ sym (ap length seen_is))
      was_folded (inr (inl absent)) = inr (inl absent)
      was_folded (inr (inr rose)) = inr (inr (subst (λ n. Rose (faults_of seat) n) (sym (ap (λ (s : UnitSeat). faults_of s) left)) (subst (λ (m : List ℕ). Rose (faults_of (record seat { marks = m })) last.recorder.faults) (sym marks) rose)))

      by_cause : (r : ActRefused) → (r ≡ ActRefused.Full → is_full_at (kin_of v) seat.seen last.unit.folded asked ≡ true) → (r ≡ ActRefused.Full → unit.WasFolded v last) → IsRefused (kin_of v) (idle seat) after asked r
      by_cause ActRefused.Full full folded = (seen, subst (λ l. is_full_at (kin_of v) l (folded_of after) asked ≡ true) (sym seen_is) (subst (λ n. is_full_at (kin_of v) seat.seen n asked ≡ true) (sym now_folded) (full refl)), was_folded (folded refl))
      by_cause ActRefused.OutOfMemory full folded = seen

-- the same by the calls in the turn: the value is lent, changed, counted and lent again
pub acted-in-turn : (v v0 first c1 f0 last : RecordedState) (seat mid after : UnitSeat) (asked : AskedAct) (a : Acted) → v0 ≡ v → seat.marks ≡ marks_of v → StandsFor v seat.seen
    → ((h : List Entry) → StandsFor v0 h → DidAct (kin_of v0) first h asked a) → AtMost (marks_of v0) (marks_of first) → mid ≡ with_newest seat (newest first)
    → c1 ≡ first → f0 ≡ c1 → AtMost (marks_of f0) (marks_of last) → after ≡ record mid { holds = false; marks = marks_of last } → HasActed (kin_of v) (idle seat) after asked a
acted-in-turn v v0 first c1 f0 last seat mid after asked a lent marks stands did up counted_is kept lent_again up_again left =
    let one : AtMost (marks_of v) (marks_of first) = subst (λ s. AtMost (marks_of s) (marks_of first)) lent up in
    let two : AtMost (marks_of first) (marks_of last) = subst (λ s. AtMost (marks_of s) (marks_of last)) (lent_again ∙ kept) up_again in
    let done : DidAct (kin_of v) first seat.seen asked a = subst (λ s. StandsFor s seat.seen → DidAct (kin_of s) first seat.seen asked a) lent (did seat.seen) stands in
    acted-here v last seat after asked marks (at_most_trans (marks_of v) (marks_of first) (marks_of last) one two) a first mid stands done counted_is left

pub refused-in-turn : (v v0 last : RecordedState) (seat after : UnitSeat) (asked : AskedAct) (refused : ActRefused) → v0 ≡ v → seat.marks ≡ marks_of v → StandsFor v seat.seen
    → ((h : List Entry) → StandsFor v0 h → NotDone v0 last h asked refused) → kin_of last ≡ kin_of v0 → AtMost (marks_of v0) (marks_of last)
    → after ≡ record seat { holds = false; marks = marks_of last } → IsRefused (kin_of v) (idle seat) after asked refused
refused-in-turn v v0 last seat after asked refused lent marks stands outcome kin up left =
    refused-here v last seat after asked marks (subst (λ s. AtMost (marks_of s) (marks_of last)) lent up) refused
    (subst (λ s. StandsFor s seat.seen → NotDone s last seat.seen asked refused) lent (outcome seat.seen) stands) (kin ∙ ap kin_of lent) left

-- what is asked of the turn's value was done, or refused
pub was-done : (v v0 first : RecordedState) (h : List Entry) (asked : AskedAct) (a : Acted) → v0 ≡ v → StandsFor v h
    → ((h : List Entry) → StandsFor v0 h → DidAct (kin_of v0) first h asked a) → DidAct (kin_of v0) first h asked a
was-done v v0 first h asked a lent stands did = did h (subst (λ s. StandsFor s h) (sym lent) stands)

pub was-refused : (v v0 last : RecordedState) (h : List Entry) (asked : AskedAct) (refused : ActRefused) → v0 ≡ v → StandsFor v h
    → ((h : List Entry) → StandsFor v0 h → NotDone v0 last h asked refused) → NotDone v0 last h asked refused
was-refused v v0 last h asked refused lent stands outcome = outcome h (subst (λ s. StandsFor s h) (sym lent) stands)

pub newest-some : (kin : UnitKin) (h : List Entry) (after : RecordedState) (asked : AskedAct) (a : Acted) → DidAct kin after h asked a → IsSome (newest after)
newest-some kin h after asked a did = subst (λ (o : Option Entry). IsSome o) (sym did.newest_is) refl

-- the value stands for what was seen, with its newest entry
pub counts : (v v0 first : RecordedState) (h : List Entry) (asked : AskedAct) (a : Acted) → v0 ≡ v → StandsFor v h
    → ((h : List Entry) → StandsFor v0 h → DidAct (kin_of v0) first h asked a) → StandsFor first (and_newest h (newest first))
counts v v0 first h asked a lent stands did =
    let done = was-done v v0 first h asked a lent stands did in
    subst (λ (o : Option Entry). StandsFor first (and_newest h o)) (sym done.newest_is) done.stands

seen-newest : (seat : UnitSeat) (o : Option Entry) → and_newest seat.seen o ≡ (with_newest seat o).seen
seen-newest seat None = refl
seen-newest seat (Some e) = refl

pub leaves : (first f0 : RecordedState) (seat mid : UnitSeat) → f0 ≡ first → mid ≡ with_newest seat (newest first) → StandsFor first (and_newest seat.seen (newest first)) → StandsFor f0 mid.seen
leaves first f0 seat mid same counted_is stands =
    subst (λ (s : RecordedState). StandsFor s mid.seen) (sym same) (subst (λ (s : UnitSeat). StandsFor first s.seen) (sym counted_is)
    (subst (λ l. StandsFor first l) (seen-newest seat (newest first)) stands))

-- ---- from before the turn on

rose-later : (first mid last : ℕ) → first ≤ mid → Rose mid last → Rose first last
rose-later first mid last low (inl more) = inl (omega (arith, low, more))
rose-later first mid last low (inr end) = inr end

-- an eager fold told what became of it
pub saved-in-turn : (v v0 first c1 f0 last : RecordedState) (eager : Bool) (seat mid after : UnitSeat) → v0 ≡ v → seat.marks ≡ marks_of v → AtMost (marks_of v0) (marks_of first) → kin_of first ≡ kin_of v0
    → c1 ≡ first → f0 ≡ c1 → (eager ≡ true → f0.opening.absent ≡ false → keeping.WasSaved f0 last) → StandsFor last mid.seen → after ≡ record mid { holds = false; marks = marks_of last }
    → IsSaved eager (kin_of v) (idle seat) after
saved-in-turn v v0 first c1 f0 last eager seat mid after lent marks up kin kept lent_again saved stands left = λ on absent.
    let is : f0 ≡ first = lent_again ∙ kept in
    let one : AtMost (marks_of v) (marks_of f0) = subst (λ s. AtMost (marks_of v) (marks_of s)) (sym is) (subst (λ s. AtMost (marks_of s) (marks_of first)) lent up) in
    let told : f0.opening.absent ≡ false = ap (λ (s : RecordedState). s.opening.absent) is ∙ ap (λ (k : UnitKin). k.opening.absent) (kin ∙ ap kin_of lent) ∙ absent in
    go one (saved on told)
  where
    marks_are : after.marks ≡ marks_of last
    marks_are = ap (λ (s : UnitSeat). s.marks) left

    seen_is : after.seen ≡ mid.seen
    seen_is = ap (λ (s : UnitSeat). s.seen) left

    rises : (i n m : ℕ) → slice_index_or (marks_of v) i 0 ≤ n → slice_index_or (marks_of last) i 0 ≡ m → Rose n m → Rose (slice_index_or seat.marks i 0) (slice_index_or after.marks i 0)
    rises i n m low is rose =
        subst (λ (ms : List ℕ). Rose (slice_index_or ms i 0) (slice_index_or after.marks i 0)) (sym marks)
        (subst (λ (ms : List ℕ). Rose (slice_index_or (marks_of v) i 0) (slice_index_or ms i 0)) (sym marks_are)
        (subst (λ k. Rose (slice_index_or (marks_of v) i 0) k) (sym is) (rose-later (slice_index_or (marks_of v) i 0) n m low rose)))

    go : AtMost (marks_of v) (marks_of f0) → keeping.WasSaved f0 last → WasSaved (idle seat) after
    go one (inl none) = inl (ap (λ (ms : List ℕ). slice_index_or ms 1 0) marks_are ∙ all-folded last mid.seen stands none ∙ sym (ap length seen_is))
    go one (inr (inl rose)) = inr (inl (rises 0 f0.recorder.faults last.recorder.faults (one 0) refl rose))
    go one (inr (inr rose)) = inr (inr (rises 2 f0.late last.late (one 2) refl rose))

-- the seat took the turn
pub record TookTurn (before mid : UnitSeat) : Type 0 where
  pub free : before.holds ≡ false
  pub longer : IsPrefix before.seen mid.seen
  pub misses : before.misses ≤ mid.misses
  pub marks : AtMost before.marks mid.marks
  pub seat : mid ≡ record before { seen = mid.seen; holds = true; misses = mid.misses; marks = mid.marks }

-- by `enter`, and by `try_enter`
pub took-turn : (before mid : UnitSeat) (unit : RecordedState) → before.holds ≡ false → IsPrefix before.seen mid.seen → AtMost before.marks (marks_of unit) → before.misses ≤ mid.misses
    → mid ≡ record before { seen = mid.seen; holds = true; marks = marks_of unit; misses = mid.misses } → TookTurn before mid
took-turn before mid unit free longer above misses is =
    let marks = ap (λ (s : UnitSeat). s.marks) is in
    record {
      free = free;
      longer = longer;
      misses = misses;
      marks = subst (λ m. AtMost before.marks m) (sym marks) above;
      seat = is ∙ ap (λ m. record before { seen = mid.seen; holds = true; misses = mid.misses; marks = m }) (sym marks);
    }

pub took-at-once : (before mid : UnitSeat) (unit : RecordedState) → before.holds ≡ false → IsPrefix before.seen mid.seen → AtMost before.marks (marks_of unit)
    → mid ≡ record before { seen = mid.seen; holds = true; marks = marks_of unit } → TookTurn before mid
took-at-once before mid unit free longer above is =
    let misses = ap (λ (s : UnitSeat). s.misses) is in
    took-turn before mid unit free longer above (omega (arith, misses)) (is ∙ ap (λ n. record before { seen = mid.seen; holds = true; marks = marks_of unit; misses = n }) (sym misses))

module _ (kin : UnitKin) (before mid after : UnitSeat) (asked : AskedAct) (took : TookTurn before mid) where
  -- the two differ in what was seen and in the counts
  from : idle mid ≡ record before { seen = mid.seen; misses = mid.misses; marks = mid.marks }
  from =
      ap (λ (s : UnitSeat). idle s) took.seat
      ∙ ap (λ h. record before { seen = mid.seen; holds = h; misses = mid.misses; marks = mid.marks }) (sym took.free)

  pub acted-through : (a : Acted) → HasActed kin (idle mid) after asked a → HasActed kin before after asked a
  acted-through a did = record {
    history = did.history;
    turn = record { longer = prefix_trans before.seen mid.seen did.history took.longer did.turn.longer; is_history = did.turn.is_history };
    answered = did.answered;
    form = did.form;
    stamp = did.stamp;
    misses = let here = took.misses in let there = did.misses in omega (arith, here, there);
    marks = at_most_trans before.marks mid.marks after.marks took.marks did.marks;
    seat = did.seat ∙ ap (λ (s : UnitSeat). record (counted (record s { seen = did.history }) (entry_of kin did.history asked)) { misses = after.misses; marks = after.marks }) from;
  }

  seen-through : HasSeen kin (idle mid) after → HasSeen kin before after
  seen-through saw = record {
    turn = record { longer = prefix_trans before.seen mid.seen after.seen took.longer saw.turn.longer; is_history = saw.turn.is_history };
    looked = record {
      misses = let here = took.misses in let there = saw.looked.misses in omega (arith, here, there);
      marks = at_most_trans before.marks mid.marks after.marks took.marks saw.looked.marks;
      seat = saw.looked.seat ∙ ap (λ (s : UnitSeat). record s { seen = after.seen; misses = after.misses; marks = after.marks }) from;
    };
  }

  folded-through : WasFolded kin (idle mid) after → WasFolded kin before after
  folded-through (inl all) = inl all
  folded-through (inr (inl absent)) = inr (inl absent)
  folded-through (inr (inr rose)) = inr (inr (rose-later (faults_of before) (faults_of mid) (faults_of after) (took.marks 0) rose))

  pub saved-through : WasSaved (idle mid) after → WasSaved before after
  saved-through (inl all) = inl all
  saved-through (inr (inl rose)) = inr (inl (rose-later (faults_of before) (faults_of mid) (faults_of after) (took.marks 0) rose))
  saved-through (inr (inr rose)) = inr (inr (rose-later (late_of before) (late_of mid) (late_of after) (took.marks 2) rose))

  pub refused-through : (refused : ActRefused) → IsRefused kin (idle mid) after asked refused → IsRefused kin before after asked refused
  refused-through ActRefused.Full (saw, full, folded) = (seen-through saw, full, folded-through folded)
  refused-through ActRefused.OutOfMemory saw = seen-through saw

-- the turn was taken to be kept
pub taken : (before mid : UnitSeat) (unit : RecordedState) → StandsFor unit mid.seen → IsPrefix before.seen mid.seen → AtMost before.marks (marks_of unit)
    → mid ≡ record before { seen = mid.seen; holds = true; marks = marks_of unit } → HasTaken (kin_of unit) before mid
taken before mid unit stands longer above is =
    let marks = ap (λ (s : UnitSeat). s.marks) is in
    record {
      turn = record { longer = longer; is_history = stands-history unit mid.seen stands };
      marks = subst (λ m. AtMost before.marks m) (sym marks) above;
      seat = is ∙ ap (λ m. record before { seen = mid.seen; holds = true; marks = m }) (sym marks);
    }

-- and so was one that the seat has waited for
pub waited : (before mid : UnitSeat) (unit : RecordedState) → StandsFor unit mid.seen → IsPrefix before.seen mid.seen → AtMost before.marks (marks_of unit) → before.misses ≤ mid.misses
    → mid ≡ record before { seen = mid.seen; holds = true; marks = marks_of unit; misses = mid.misses } → HasWaited (kin_of unit) before mid
waited before mid unit stands longer above misses is = record { misses = misses; taken = taken (record before { misses = mid.misses }) mid unit stands longer above is }

-- ---- facts of a result

pub if-ok : {A E : Type 0} (r : Result A E) (P Q : A → Type 0) → IfOk r P → ((a : A) → P a → Q a) → IfOk r Q
if-ok (Ok a) P Q p all = all a p
if-ok (Err e) P Q p all = tt

pub if-err : {A E : Type 0} (r : Result A E) (P Q : E → Type 0) → IfErr r P → ((e : E) → P e → Q e) → IfErr r Q
if-err (Ok a) P Q p all = tt
if-err (Err e) P Q p all = all e p

-- of the gate's kin
pub of-kin : (kin : Option UnitKin) (k : UnitKin) (P : UnitKin → Type 0) → kin ≡ Some k → P k → IfSome kin P
of-kin kin k P is p = subst (λ o. IfSome o P) (sym is) p

pub if-some : {A : Type 0} (o : Option A) (Q : A → Type 0) → ((a : A) → o ≡ Some a → Q a) → IfSome o Q
if-some None Q all = tt
if-some (Some a) Q all = all a refl
