-- Where memory is never refused no reply is BUSY
use Rattle.std.proofs.Common.{◌≡◌, ℕ, ◌+◌, drop, List, [], ◌∷◌, ◌++◌, refl, ap, sym, ◌∙◌, subst, arith, true, false, Bool}
use Rattle.std.specs.Prelude.{Option, Some, None, not, fold, count_by, cond, if◌then◌else◌}
use Rattle.std.proofs.lemmas.List.Sums.{sum_by-cons}
use Rattle.cm_base.specs.Configuration.{Configuration}
use Rattle.cm_base.specs.declared.parsed.Parsed.{Parsed}
use Rattle.cm_base.specs.declared.parsed.Parsed.TheVariants.{Whole, Short, Bad}
use Rattle.cm_frame.specs.declared.frame.Reply.{Reply}
use Rattle.cm_frame.specs.declared.item.TraceItem.{TraceItem}
use Rattle.cm_frame.specs.Reading.{read_header}
use Rattle.cm_history.specs.declared.act.Act.{Act}
use Rattle.cm_history.specs.declared.act.Actor.TheVariants.{Nexus}
use Rattle.cm_history.specs.declared.answer.Answer.{Answer}
use Rattle.cm_history.specs.History.{answer}
use Rattle.cm_history.specs.Forms.{HasKind}
use Rattle.cm_history.proofs.PublicLaws.{Each, Each-in, Each-by, Each-append, In-filter, find-in, answer-kind}
use Rattle.cmd_program.specs.declared.step.Outcome.{Outcome}
use Rattle.cmd_program.specs.declared.step.Step.{Step}
use Rattle.cmd_program.specs.Program.{Program, Ends, Asks, GivesUp, next, moved}
use Rattle.cmd_program.specs.Judging.{step, program, program_after}
use Rattle.cmd_program.specs.Honest.{IsHonestReply}
use Rattle.cmd_program.proofs.PublicLaws.{IsHonest, program-honest}
use Rattle.trace_replay.specs.Items.{Placed, Ending, BadRecord, trace_of, items_limit}
use Rattle.trace_replay.specs.ReplayState.{Pending, AddressedReply, ReplayState, Shortage, Nowhere, is_of, waiting, without, replied, goes_on, next_step, gone_on, begun, noted, acted, noted_act, did, ran, item_fits, has_no_room, outcome_of, at_first}
use Rattle.trace_replay.specs.ReplayState as state
use Rattle.trace_replay.specs.Played.{played, played_after, play, shortage_for, shortages_behind, replies_that, is_busy_reply}
use Rattle.trace_replay.proofs.ShownShortages.{none-behind}

-- ---- programs that do not end BUSY

-- whatever of its kind it is answered, it does not end BUSY; where it gave up, the record was full
abbrev IsQuiet : Program → Type 0
IsQuiet (Ends reply) = IsHonest (Ends reply)
IsQuiet (Asks ask last go_on) = IsHonest (Asks ask last go_on)
IsQuiet (GivesUp last reply) = reply ≡ Reply.Full

quiet-of : (p : Program) → IsHonest p → IsQuiet p
quiet-of (Ends reply) h = h
quiet-of (Asks ask last go_on) h = h
quiet-of (GivesUp last reply) h = absurd h

quiet-full : (p : Program) → IsQuiet p → IsQuiet (moved p Outcome.Full)
quiet-full (Ends reply) q = refl
quiet-full (Asks ask last go_on) q = refl
quiet-full (GivesUp last reply) q = q

quiet-answered : (p : Program) (unit : ℕ) (act : Act) (a : Answer) → IsQuiet p → next p ≡ Step.Do unit act → HasKind act a → IsQuiet (moved p (Outcome.Answered a))
quiet-answered (Ends reply) unit act a q e k = cc
quiet-answered (Asks ask last go_on) unit act a q e k =
    let same : ask.act ≡ act = cc in
    quiet-of (go_on a) (q a (subst (λ x. HasKind x a) (sym same) k))
quiet-answered (GivesUp last reply) unit act a q e k = q

honest-busy : (reply : Reply) → IsHonestReply reply → is_busy_reply reply ≡ false
honest-busy (Reply.Good bytes) h = refl
honest-busy (Reply.Check sense) h = refl
honest-busy Reply.Conflict h = refl
honest-busy Reply.Busy h = absurd h
honest-busy Reply.Full h = absurd h

quiet-done : (p : Program) (reply : Reply) → IsQuiet p → next p ≡ Step.Done reply → is_busy_reply reply ≡ false
quiet-done (Ends ended) reply q e = let same : ended ≡ reply = cc in subst (λ r. is_busy_reply r ≡ false) same (honest-busy ended q)
quiet-done (Asks ask last go_on) reply q e = cc
quiet-done (GivesUp None ended) reply q e = let same : ended ≡ reply = cc in ap is_busy_reply (sym same ∙ q)
quiet-done (GivesUp (Some ask) ended) reply q e = cc

-- ---- standings

-- the program of what waits
abbrev its : Configuration → Pending → Program
its config p = program_after config p.request p.outcomes

record Quiet (config : Configuration) (s : ReplayState) : Type 0 where
  waits : Each (λ (p : Pending). IsQuiet (its config p)) s.pending
  said : Each (λ (r : AddressedReply). is_busy_reply r.reply ≡ false) s.replies

others : (config : Configuration) (initiator : ℕ) (ps : List Pending) → Each (λ (p : Pending). IsQuiet (its config p)) ps → Each (λ (p : Pending). IsQuiet (its config p)) (without initiator ps)
others config initiator ps all =
    Each-by _ (without initiator ps) (λ p i. Each-in (λ (p : Pending). IsQuiet (its config p)) ps p all (In-filter (λ (p : Pending). not (is_of initiator p)) ps p i))

quiet-goes : (config : Configuration) (s : ReplayState) (p : Pending) → Quiet config s → IsQuiet (its config p) → Quiet config (gone_on step config s p)
quiet-goes config s p quiet q = go (next_step step config p) refl
  where
    go : (n : Step) → next_step step config p ≡ n → Quiet config (goes_on s p n)
    go (Step.Done reply) e = record {
      waits = others config p.initiator s.pending quiet.waits;
      said = Each-append (λ (r : AddressedReply). is_busy_reply r.reply ≡ false) s.replies _ quiet.said (quiet-done (its config p) reply q e, tt);
    }
    go (Step.Do unit act) e = record {
      waits = Each-append (λ (p : Pending). IsQuiet (its config p)) (without p.initiator s.pending) _ (others config p.initiator s.pending quiet.waits) (q, tt);
      said = quiet.said;
    }

fold-last : (p : Program) (xs : List Outcome) (o : Outcome) → fold moved p (xs ++ o ∷ []) ≡ moved (fold moved p xs) o
fold-last p [] o = refl
fold-last p (x ∷ xs) o = fold-last (moved p x) xs o

quiet-did : (config : Configuration) (s : ReplayState) (moment : ℕ) (p : Pending) → Quiet config s → IsQuiet (its config p) → Quiet config (did step config s moment p Nowhere (next_step step config p))
quiet-did config s moment p quiet q = go (next_step step config p) refl
  where
    go : (n : Step) → next_step step config p ≡ n → Quiet config (did step config s moment p Nowhere n)
    go (Step.Done reply) e = quiet
    go (Step.Do unit act) e =
        quiet-goes config (acted config s (Nexus p.initiator) unit moment act Nowhere) (noted_act config s p unit moment act Nowhere)
        (record { waits = quiet.waits; said = quiet.said })
        (subst IsQuiet (sym (fold-last (program config p.request) p.outcomes (outcome_of config s.entries (Nexus p.initiator) unit moment act)))
        (after (has_no_room config s.entries (Nexus p.initiator) unit act)))
      where
        after : (full : Bool) → IsQuiet (moved (its config p) (if full then Outcome.Full else Outcome.Answered (answer config s.entries unit (Nexus p.initiator) moment act)))
        after true = quiet-full (its config p) q
        after false = quiet-answered (its config p) unit act _ q e (answer-kind config s.entries unit (Nexus p.initiator) moment act)

quiet-ran : (config : Configuration) (s : ReplayState) (initiator moment : ℕ) → Quiet config s → Quiet config (ran step config s moment Nowhere (waiting initiator s.pending))
quiet-ran config s initiator moment quiet = go (waiting initiator s.pending) refl
  where
    go : (w : Option Pending) → waiting initiator s.pending ≡ w → Quiet config (ran step config s moment Nowhere w)
    go None e = quiet
    go (Some p) e = quiet-did config s moment p quiet (Each-in (λ (p : Pending). IsQuiet (its config p)) s.pending p quiet.waits (find-in (is_of initiator) s.pending p e))

quiet-next : (config : Configuration) (s : ReplayState) (item : TraceItem) → Quiet config s → Quiet config (state.after_item step config s item (shortage_for item []))
quiet-next config s (TraceItem.Begin initiator moment request) quiet =
    quiet-goes config (record s { items = s.items + 1 }) (record { initiator = initiator; request = request; outcomes = [] })
    (record { waits = quiet.waits; said = quiet.said }) (quiet-of (program config request) (program-honest config request))
quiet-next config s (TraceItem.Run initiator moment) quiet =
    quiet-ran config (record s { items = s.items + 1 }) initiator moment (record { waits = quiet.waits; said = quiet.said })
quiet-next config s (TraceItem.Pump unit moment) quiet = record { waits = quiet.waits; said = quiet.said }

quiet-play : (config : Configuration) (s : ReplayState) (xs : List Placed) (ending : Ending) → Quiet config s → Quiet config (play step config s xs ending []).state
quiet-play config s [] ending quiet = quiet
quiet-play config s (x ∷ xs) ending quiet = go (item_fits config s x.item)
    (subst (λ m. Quiet config (play step config (state.after_item step config s x.item (shortage_for x.item [])) xs ending m).state) (sym (none-behind x.item))
    (quiet-play config (state.after_item step config s x.item (shortage_for x.item [])) xs ending (quiet-next config s x.item quiet)))
  where
    go : (t : Bool) → Quiet config (play step config (state.after_item step config s x.item (shortage_for x.item [])) xs ending (shortages_behind x.item [])).state
        → Quiet config (if t then play step config (state.after_item step config s x.item (shortage_for x.item [])) xs ending (shortages_behind x.item [])
        else record { state = s; ending = BadRecord x.place }).state
    go true later = later
    go false later = quiet

none-busy : (rs : List AddressedReply) → Each (λ (r : AddressedReply). is_busy_reply r.reply ≡ false) rs → count_by (λ (r : AddressedReply). is_busy_reply r.reply) rs ≡ 0
none-busy [] all = refl
none-busy (r ∷ rs) all =
    sum_by-cons (λ (r : AddressedReply). cond (is_busy_reply r.reply) 1 0) r rs
    ∙ ap (λ t. cond t 1 0 + count_by (λ (r : AddressedReply). is_busy_reply r.reply) rs) all.0
    ∙ (let rest : count_by (λ (r : AddressedReply). is_busy_reply r.reply) rs ≡ 0 = none-busy rs all.1 in omega (arith, rest))

pub quiet_law : (bytes : List ℕ) → replies_that is_busy_reply (played step bytes []).state ≡ 0
quiet_law bytes = go (read_header bytes)
  where
    go : (p : Parsed Configuration) → replies_that is_busy_reply (played_after step p bytes []).state ≡ 0
    go Short = refl
    go (Bad place) = refl
    go (Whole config used) = none-busy (played_after step (Whole config used) bytes []).state.replies
        (quiet-play config at_first (trace_of items_limit used (drop used bytes)).items (trace_of items_limit used (drop used bytes)).ending (record { waits = tt; said = tt })).said
