-- The replies of a played trace are those of the commands that it ended
use Rattle.std.proofs.Common.{◌≡◌, ◌∙◌, ℕ, ◌+◌, List, [], ◌∷◌, ◌++◌, refl, ap, sym, true, false, Bool, append-nil, append_assoc}
use Rattle.std.specs.Prelude.{Option, Some, None, map, drop, if◌then◌else◌}
use Rattle.std.proofs.lemmas.List.{map-append}
use Rattle.cm_base.specs.Configuration.{Configuration}
use Rattle.cm_base.specs.declared.parsed.Parsed.{Parsed}
use Rattle.cm_base.specs.declared.parsed.Parsed.TheVariants.{Whole, Short, Bad}
use Rattle.cm_frame.specs.declared.item.TraceItem.{TraceItem}
use Rattle.cm_frame.specs.Reading.{read_header}
use Rattle.cm_history.specs.declared.act.Actor.{Actor}
use Rattle.cmd_program.specs.declared.step.Step.{Step}
use Rattle.cmd_program.specs.Judging.{step}
use Rattle.trace_replay.specs.Items.{Placed, Ending, BadRecord, trace_of, items_limit}
use Rattle.trace_replay.specs.ReplayState.{Pending, ReplayState, Shortage, Nowhere, AtBegin, AtAct, AtStep, waiting, goes_on, next_step, gone_on, noted_at_step, acted, noted_act, did, ran, item_fits, at_first}
use Rattle.trace_replay.specs.ReplayState as state
use Rattle.trace_replay.specs.Played.{played, played_after, play, shortage_for, shortages_behind}
use Rattle.trace_replay.specs.Ended.{Ended, ended_by, ended_now, ended_at_act, ended_at_run, ended_at, ended_in, ended_after, ended, reply_to}

said-by : (s : ReplayState) (p : Pending) (n : Step) → (goes_on s p n).replies ≡ s.replies ++ map reply_to (ended_by p n)
said-by s p (Step.Done reply) = refl
said-by s p (Step.Do unit act) = sym (append-nil s.replies)

item-said : (config : Configuration) (s : ReplayState) (item : TraceItem) (shortage : Shortage)
    → (state.after_item step config s item shortage).replies ≡ s.replies ++ map reply_to (ended_at step config s item shortage)
item-said config s (TraceItem.Begin initiator moment request) shortage = by shortage
  where
    says : (m : Shortage) → (gone_on step config (record s { items = s.items + 1 }) (record { initiator = initiator; request = request; outcomes = noted_at_step m })).replies
        ≡ s.replies ++ map reply_to (ended_now step config (record { initiator = initiator; request = request; outcomes = noted_at_step m }))
    says m =
        said-by (record s { items = s.items + 1 }) (record { initiator = initiator; request = request; outcomes = noted_at_step m })
        (next_step step config (record { initiator = initiator; request = request; outcomes = noted_at_step m }))

    by : (m : Shortage) → (state.after_item step config s (TraceItem.Begin initiator moment request) m).replies ≡ s.replies ++ map reply_to (ended_at step config s (TraceItem.Begin initiator moment request) m)
    by AtBegin = refl
    by Nowhere = says Nowhere
    by AtAct = says AtAct
    by AtStep = says AtStep
item-said config s (TraceItem.Run initiator moment) shortage = found (waiting initiator s.pending)
  where
    does : (p : Pending) (n : Step) → (did step config (record s { items = s.items + 1 }) moment p shortage n).replies ≡ s.replies ++ map reply_to (ended_at_act step config s moment shortage p n)
    does p (Step.Done reply) = sym (append-nil s.replies)
    does p (Step.Do unit act) =
        said-by (acted config (record s { items = s.items + 1 }) (Actor.Nexus p.initiator) unit moment act shortage) (noted_act config s p unit moment act shortage)
        (next_step step config (noted_act config s p unit moment act shortage))

    found : (w : Option Pending) → (ran step config (record s { items = s.items + 1 }) moment shortage w).replies ≡ s.replies ++ map reply_to (ended_at_run step config s moment shortage w)
    found None = sym (append-nil s.replies)
    found (Some p) = does p (next_step step config p)
item-said config s (TraceItem.Pump unit moment) shortage = sym (append-nil s.replies)

abbrev Says : Configuration → ReplayState → List Placed → Ending → List Shortage → Type 0
Says config s xs ending shortages = (play step config s xs ending shortages).state.replies ≡ s.replies ++ map reply_to (ended_in step config s xs shortages)

play-said : (config : Configuration) (s : ReplayState) (xs : List Placed) (ending : Ending) (shortages : List Shortage) → Says config s xs ending shortages
play-said config s [] ending shortages = sym (append-nil s.replies)
play-said config s (x ∷ xs) ending shortages =
    by (item_fits config s x.item) (play-said config (state.after_item step config s x.item (shortage_for x.item shortages)) xs ending (shortages_behind x.item shortages))
  where
    front : List Ended
    front = ended_at step config s x.item (shortage_for x.item shortages)

    behind : List Ended
    behind = ended_in step config (state.after_item step config s x.item (shortage_for x.item shortages)) xs (shortages_behind x.item shortages)

    by : (t : Bool) → Says config (state.after_item step config s x.item (shortage_for x.item shortages)) xs ending (shortages_behind x.item shortages)
        → (if t then play step config (state.after_item step config s x.item (shortage_for x.item shortages)) xs ending (shortages_behind x.item shortages)
        else record { state = s; ending = BadRecord x.place }).state.replies
        ≡ s.replies ++ map reply_to (if t then ended_at step config s x.item (shortage_for x.item shortages)
        ++ ended_in step config (state.after_item step config s x.item (shortage_for x.item shortages)) xs (shortages_behind x.item shortages) else [])
    by true later =
        later ∙ ap (λ l. l ++ map reply_to behind) (item-said config s x.item (shortage_for x.item shortages)) ∙ append_assoc s.replies (map reply_to front) (map reply_to behind)
        ∙ ap (λ l. s.replies ++ l) (sym (map-append reply_to front behind))
    by false later = sym (append-nil s.replies)

pub replies-are : (bytes : List ℕ) (shortages : List Shortage) → map reply_to (ended step bytes shortages) ≡ (played step bytes shortages).state.replies
replies-are bytes shortages = go (read_header bytes)
  where
    go : (p : Parsed Configuration) → map reply_to (ended_after step p bytes shortages) ≡ (played_after step p bytes shortages).state.replies
    go Short = refl
    go (Bad place) = refl
    go (Whole config used) = sym (play-said config at_first (trace_of items_limit used (drop used bytes)).items (trace_of items_limit used (drop used bytes)).ending shortages)
