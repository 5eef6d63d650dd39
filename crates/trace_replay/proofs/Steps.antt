-- Playing more bytes, item by item
use Rattle.std.proofs.Common.{◌≡◌, ℕ, zero, suc, ◌+◌, ◌≤◌, List, [], ◌∷◌, ◌++◌, length, take, drop, refl, ap, sym, ◌∙◌, subst, true, false, append_assoc, take-append-drop}
use Rattle.std.proofs.lemmas.List.{drop-append-le}
use Rattle.cm_base.specs.Configuration.{Configuration}
use Rattle.cm_frame.specs.declared.item.TraceItem.{TraceItem}
use Rattle.cm_base.specs.declared.parsed.Parsed.TheVariants.{Whole, Short, Bad}
use Rattle.cm_frame.specs.Reading.{read_header, read_item}
use Rattle.cm_frame.specs.Laws.{IsJudged}
use Rattle.cm_frame.proofs.PublicLaws.{item-stays, header-stays, UsesWithin, item-within, header-within}
use Rattle.cmd_program.specs.Stepping.{Stepping}
use Rattle.trace_replay.specs.Items.{Done, Torn, BadRecord, Records, Trace, with_item, led_by, trace_of, items_limit}
use Rattle.trace_replay.specs.ReplayState.{ReplayState, Shortage, after_item, item_fits, at_first}
use Rattle.trace_replay.specs.Played.{played, played_after, played_from, play, shortage_for, shortages_behind}
use Rattle.trace_replay.specs.Shortages.{is_allowed, are_allowed, may_lack, may_lack_from, allowed_after}
use Rattle.trace_replay.specs.inner.Laws.{HasHeader}
use Rattle.trace_replay.proofs.LoopLaws.{shortages_of, BeginsSo, GrowsSo, StepsSo}
use Rattle.trace_replay.proofs.Alone.{header-alone, item-alone, drop-alone}

-- the header of a beginning is that of the whole
header-more : (config : Configuration) (pulled more : List ℕ) → HasHeader config pulled → HasHeader config (pulled ++ more)
header-more config pulled more h = record { used = h.used; read = header-stays pulled more (subst IsJudged (sym h.read) tt) ∙ h.read }

-- ---- one item at the front

used-within : (bytes : List ℕ) (item : TraceItem) (used : ℕ) → read_item bytes ≡ Whole item used → used ≤ length bytes
used-within bytes item used e = (subst (UsesWithin (length bytes)) e (item-within bytes).uses).1

item-there : (bytes more : List ℕ) (item : TraceItem) (used : ℕ) → read_item bytes ≡ Whole item used → read_item (bytes ++ more) ≡ Whole item used
item-there bytes more item used e = item-stays bytes more (subst IsJudged (sym e) tt) ∙ e

-- the items of some bytes and more begin with the first item of the bytes
pub trace-step : (n place : ℕ) (bytes more : List ℕ) (item : TraceItem) (used : ℕ) → read_item bytes ≡ Whole item used
    → trace_of (suc n) place (bytes ++ more) ≡ with_item place item (trace_of n (place + used) (drop used bytes ++ more))
trace-step n place [] more item used e = absurd (subst IsJudged (sym e) tt)
trace-step n place (b ∷ bs) more item used e =
    ap (λ p. led_by place p (λ u. trace_of n (place + u) (drop u (b ∷ bs ++ more)))) (item-there (b ∷ bs) more item used e)
    ∙ ap (λ rest. with_item place item (trace_of n (place + used) rest)) (drop-append-le used (b ∷ bs) more (used-within (b ∷ bs) item used e))

pub play-step : (step : Stepping) (config : Configuration) (s : ReplayState) (n place : ℕ) (bytes more : List ℕ) (item : TraceItem) (used : ℕ) (shortages : List Shortage)
    → read_item bytes ≡ Whole item used → item_fits config s item ≡ true
    → played_from step config s (suc n) place (bytes ++ more) shortages
    ≡ played_from step config (after_item step config s item (shortage_for item shortages)) n (place + used) (drop used bytes ++ more) (shortages_behind item shortages)
play-step step config s n place bytes more item used shortages e fit =
    ap (λ (t : Trace). play step config s t.items t.ending shortages) (trace-step n place bytes more item used e) ∙ rw fit refl

pub may-step : (step : Stepping) (config : Configuration) (s : ReplayState) (n place : ℕ) (bytes more : List ℕ) (item : TraceItem) (used : ℕ) (shortages : List Shortage)
    → read_item bytes ≡ Whole item used → item_fits config s item ≡ true → is_allowed step config s item (shortage_for item shortages) ≡ true
    → may_lack_from step config s (suc n) place (bytes ++ more) shortages
    ≡ may_lack_from step config (after_item step config s item (shortage_for item shortages)) n (place + used) (drop used bytes ++ more) (shortages_behind item shortages)
may-step step config s n place bytes more item used shortages e fit may =
    ap (λ (t : Trace). are_allowed step config s t.items shortages) (trace-step n place bytes more item used e) ∙ rw (fit, may) refl

-- ---- where it ends

pub play-unfit : (step : Stepping) (config : Configuration) (s : ReplayState) (n place : ℕ) (bytes more : List ℕ) (item : TraceItem) (used : ℕ) (shortages : List Shortage)
    → read_item bytes ≡ Whole item used → item_fits config s item ≡ false
    → played_from step config s (suc n) place (bytes ++ more) shortages ≡ record { state = s; ending = BadRecord place }
play-unfit step config s n place bytes more item used shortages e unfit =
    ap (λ (t : Trace). play step config s t.items t.ending shortages) (trace-step n place bytes more item used e) ∙ rw unfit refl

pub play-bad : (step : Stepping) (config : Configuration) (s : ReplayState) (n place fault : ℕ) (bytes more : List ℕ) (shortages : List Shortage)
    → read_item bytes ≡ Bad fault → played_from step config s (suc n) place (bytes ++ more) shortages ≡ record { state = s; ending = BadRecord place }
play-bad step config s n place fault [] more shortages e = absurd (subst IsJudged (sym e) tt)
play-bad step config s n place fault (b ∷ bs) more shortages e =
    let later : read_item (b ∷ bs ++ more) ≡ Bad fault = item-stays (b ∷ bs) more (subst IsJudged (sym e) tt) ∙ e in
    ap (λ (t : Trace). play step config s t.items t.ending shortages)
    (ap (λ p. led_by place p (λ u. trace_of n (place + u) (drop u (b ∷ bs ++ more)))) later)

-- at the end of the input, in an item
pub play-torn : (step : Stepping) (config : Configuration) (s : ReplayState) (n place b : ℕ) (bs : List ℕ) (shortages : List Shortage)
    → read_item (b ∷ bs) ≡ Short → played_from step config s (suc n) place (b ∷ bs) shortages ≡ record { state = s; ending = Torn place }
play-torn step config s n place b bs shortages e =
    ap (λ (t : Trace). play step config s t.items t.ending shortages)
    (ap (λ p. led_by place p (λ u. trace_of n (place + u) (drop u (b ∷ bs)))) e)

-- at the end of the input, between two items
pub play-done : (step : Stepping) (config : Configuration) (s : ReplayState) (n place : ℕ) (shortages : List Shortage)
    → played_from step config s n place [] shortages ≡ record { state = s; ending = Done }
play-done step config s zero place shortages = refl
play-done step config s (suc n) place shortages = refl

pub play-records : (step : Stepping) (config : Configuration) (s : ReplayState) (place b : ℕ) (bs : List ℕ) (shortages : List Shortage)
    → played_from step config s 0 place (b ∷ bs) shortages ≡ record { state = s; ending = Records }
play-records step config s place b bs shortages = refl

-- ---- how things stand in a loop over pulls

pub begins : (step : Stepping) → BeginsSo step
begins step buffered config used e = record {
  front = take used buffered;
  all = take-append-drop used buffered;
  header = record { used = used; read = header-alone buffered config used e };
  plays = λ more later.
      ap (λ p. played_after step p (take used buffered ++ more) later) (there more)
      ∙ ap (λ rest. played_from step config at_first items_limit used rest later) (drop-alone used buffered more within);
  may = λ more later.
      ap (λ p. allowed_after step p (take used buffered ++ more) later) (there more)
      ∙ ap (λ rest. may_lack_from step config at_first items_limit used rest later) (drop-alone used buffered more within);
}
  where
    within : used ≤ length buffered
    within = (subst (UsesWithin (length buffered)) e (header-within buffered).uses).1

    there : (more : List ℕ) → read_header (take used buffered ++ more) ≡ Whole config used
    there more =
        let alone = header-alone buffered config used e in
        header-stays (take used buffered) more (subst IsJudged (sym alone) tt) ∙ alone

pub grows : (step : Stepping) → GrowsSo step
grows step config pulled shortages s n place buffered more stands = record {
  front = stands.front;
  all = sym (append_assoc stands.front buffered more) ∙ ap (λ l. l ++ more) stands.all;
  header = stands.header;
  plays = stands.plays;
  may = stands.may;
}

-- the shortage of an item, in front of later ones
shortage-first : (item : TraceItem) (shortage : Shortage) (later : List Shortage) → shortage_for item (shortages_of item shortage ++ later) ≡ shortage_for item (shortage ∷ [])
shortage-first (TraceItem.Begin i m r) shortage later = refl
shortage-first (TraceItem.Run i m) shortage later = refl
shortage-first (TraceItem.Pump u m) shortage later = refl

shortage-behind : (item : TraceItem) (shortage : Shortage) (later : List Shortage) → shortages_behind item (shortages_of item shortage ++ later) ≡ later
shortage-behind (TraceItem.Begin i m r) shortage later = refl
shortage-behind (TraceItem.Run i m) shortage later = refl
shortage-behind (TraceItem.Pump u m) shortage later = refl

pub steps : (step : Stepping) → StepsSo step
steps step config pulled shortages s n place buffered item used shortage stands e fit may = record {
  front = stands.front ++ its;
  all = append_assoc stands.front its (drop used buffered) ∙ ap (λ l. stands.front ++ l) (take-append-drop used buffered) ∙ stands.all;
  header = header-more config stands.front its stands.header;
  plays = λ more later.
      ap (λ l. played step l ((shortages ++ shortages_of item shortage) ++ later)) (append_assoc stands.front its more)
      ∙ ap (played step (stands.front ++ (its ++ more))) (append_assoc shortages (shortages_of item shortage) later)
      ∙ stands.plays (its ++ more) (shortages_of item shortage ++ later)
      ∙ play-step step config s n place its more item used (shortages_of item shortage ++ later) alone fit
      ∙ ap (λ l. played_from step config (after_item step config s item (shortage_for item (shortages_of item shortage ++ later))) n (place + used) l (shortages_behind item (shortages_of item shortage ++ later))) (behind more)
      ∙ ap (λ m. played_from step config (after_item step config s item m) n (place + used) more (shortages_behind item (shortages_of item shortage ++ later))) (shortage-first item shortage later)
      ∙ ap (played_from step config (after_item step config s item (shortage_for item (shortage ∷ []))) n (place + used) more) (shortage-behind item shortage later);
  may = λ more later.
      ap (λ l. may_lack step l ((shortages ++ shortages_of item shortage) ++ later)) (append_assoc stands.front its more)
      ∙ ap (may_lack step (stands.front ++ (its ++ more))) (append_assoc shortages (shortages_of item shortage) later)
      ∙ stands.may (its ++ more) (shortages_of item shortage ++ later)
      ∙ may-step step config s n place its more item used (shortages_of item shortage ++ later) alone fit
      (ap (is_allowed step config s item) (shortage-first item shortage later) ∙ may)
      ∙ ap (λ l. may_lack_from step config (after_item step config s item (shortage_for item (shortages_of item shortage ++ later))) n (place + used) l (shortages_behind item (shortages_of item shortage ++ later))) (behind more)
      ∙ ap (λ m. may_lack_from step config (after_item step config s item m) n (place + used) more (shortages_behind item (shortages_of item shortage ++ later))) (shortage-first item shortage later)
      ∙ ap (may_lack_from step config (after_item step config s item (shortage_for item (shortage ∷ []))) n (place + used) more) (shortage-behind item shortage later);
}
  where
    its : List ℕ
    its = take used buffered

    alone : read_item its ≡ Whole item used
    alone = item-alone buffered item used e

    behind : (more : List ℕ) → drop used its ++ more ≡ more
    behind more = sym (drop-append-le used its more (used-within its item used alone)) ∙ drop-alone used buffered more (used-within buffered item used e)
