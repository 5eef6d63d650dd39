-- How the counts and the output go on with an item
use Rattle.std.proofs.Common.{◌≡◌, ℕ, ◌+◌, ◌-◌, ◌<◌, ◌≤◌, suc, List, [], ◌∷◌, ◌++◌, length, drop, refl, ap, sym, ◌∙◌, subst, arith, Bool, append_assoc, append-nil, length-append}
use Rattle.std.specs.Prelude.{cond, MatchResult, Result, Ok, Err, Option, Some, None, count_by, flat_map}
use Rattle.std.proofs.lemmas.List.Sums.{sum_by-append, count_by-le-length}
use Rattle.byteorder.specs.Endian.{big_bytes}
use Rattle.cm_base.specs.Configuration.{Configuration}
use Rattle.cm_base.specs.declared.parsed.Parsed.TheVariants.{Whole}
use Rattle.cm_frame.specs.declared.frame.Request.{Request}
use Rattle.cm_frame.specs.declared.frame.Reply.{Reply}
use Rattle.cm_frame.specs.declared.item.TraceItem.{TraceItem}
use Rattle.cm_frame.specs.Grammar.{reply_bytes}
use Rattle.cm_frame.specs.Reading.{read_item}
use Rattle.cmd_program.specs.declared.step.Step.{Step}
use Rattle.cmd_program.specs.Meaning.{IsOfLength}
use Rattle.cmd_program.specs.Judging.{step}
use Rattle.trace_replay.specs.declared.summary.Summary.{Summary}
use Rattle.trace_replay.specs.declared.player.Player.{Player}
use Rattle.trace_replay.specs.declared.machine.Machine.{Machine}
use Rattle.trace_replay.specs.Items.{items_limit}
use Rattle.trace_replay.specs.ReplayState.{Pending, AddressedReply, ReplayState, Shortage, Nowhere, AtBegin, AtAct, AtStep, waiting, goes_on, did, ran, begun, after_item, next_step, acted, noted_act}
use Rattle.trace_replay.specs.Played.{shortage_for, addressed_bytes, output_of, summary_of, is_good, is_check, is_busy_reply, is_task_set_full}
use Rattle.trace_replay.specs.inner.Laws.{StandsAt}
use Rattle.trace_replay.proofs.LoopLaws.{shortages_of}
use Rattle.trace_replay.specs.inner.Counting.{HasRoom, with_item, with_reply, one_if}
use Rattle.trace_replay.specs.inner.Machines.{HasPlayed, IsStanding}
use Rattle.trace_replay.specs.inner.Players.{IsLoopAt, IsAt, AreFew, left_of}
use Rattle.trace_replay.specs.inner.Writing.{IsWritten, IsBegun, Writes}
use Rattle.trace_replay.specs.declared.fault.ReplayFault.{ReplayFault}
use Rattle.trace_replay.specs.Replayed.{Replayed}
use Rattle.trace_replay.proofs.Written.{written-gathered}
use Rattle.trace_replay.proofs.Playing.{ends-begun}
use Rattle.trace_replay.proofs.Sizes.{item-used}
use Rattle.trace_replay.proofs.Steps.{steps}

-- ---- an item is counted

went-items : (s : ReplayState) (p : Pending) (next : Step) → (goes_on s p next).items ≡ s.items
went-items s p (Step.Done reply) = refl
went-items s p (Step.Do unit act) = refl

did-items : (config : Configuration) (s : ReplayState) (moment : ℕ) (p : Pending) (shortage : Shortage) (next : Step) → (did step config s moment p shortage next).items ≡ s.items
did-items config s moment p shortage (Step.Done reply) = refl
did-items config s moment p shortage (Step.Do unit act) =
    went-items (acted config s _ unit moment act shortage) (noted_act config s p unit moment act shortage) (next_step step config (noted_act config s p unit moment act shortage))

ran-items : (config : Configuration) (s : ReplayState) (moment : ℕ) (shortage : Shortage) (found : Option Pending) → (ran step config s moment shortage found).items ≡ s.items
ran-items config s moment shortage None = refl
ran-items config s moment shortage (Some p) = did-items config s moment p shortage (next_step step config p)

begun-items : (config : Configuration) (s : ReplayState) (i : ℕ) (r : Request) (shortage : Shortage) → (begun step config s i r shortage).items ≡ s.items
begun-items config s i r Nowhere = went-items s _ _
begun-items config s i r AtBegin = refl
begun-items config s i r AtAct = went-items s _ _
begun-items config s i r AtStep = went-items s _ _

pub next-items : (config : Configuration) (s : ReplayState) (item : TraceItem) (shortage : Shortage) → (after_item step config s item shortage).items ≡ s.items + 1
next-items config s (TraceItem.Begin i moment r) shortage = begun-items config (record s { items = s.items + 1 }) i r shortage
next-items config s (TraceItem.Run i moment) shortage = ran-items config (record s { items = s.items + 1 }) moment shortage (waiting i s.pending)
next-items config s (TraceItem.Pump u moment) shortage = refl

-- ---- one more reply

count-more : (f : AddressedReply → Bool) (xs : List AddressedReply) (r : AddressedReply) → count_by f (xs ++ r ∷ []) ≡ count_by f xs + one_if (f r)
count-more f xs r = omega (arith, sum_by-append (λ (x : AddressedReply). cond (f x) 1 0) xs (r ∷ []))

output-more : (xs : List AddressedReply) (r : AddressedReply) → flat_map addressed_bytes (xs ++ r ∷ []) ≡ flat_map addressed_bytes xs ++ addressed_bytes r
output-more [] r = append-nil (addressed_bytes r)
output-more (x ∷ xs) r = ap (λ l. addressed_bytes x ++ l) (output-more xs r) ∙ sym (append_assoc (addressed_bytes x) (flat_map addressed_bytes xs) (addressed_bytes r))

record-length : (r : AddressedReply) → length (addressed_bytes r) ≡ 4 + length (reply_bytes r.reply)
record-length r = length-append (big_bytes 4 r.initiator) (reply_bytes r.reply)

reply-length : (reply : Reply) → IsOfLength reply → length (reply_bytes reply) ≤ 8_388_614
reply-length (Reply.Good bytes) h = omega (arith, length-append (big_bytes 4 (length bytes)) bytes, h)
reply-length (Reply.Check sense) h = omega arith
reply-length Reply.Conflict h = omega arith
reply-length Reply.Busy h = omega arith
reply-length Reply.Full h = omega arith

-- ---- room

pub room-of : (s : ReplayState) → AreFew s → HasRoom (summary_of s)
room-of s few = record {
  records = omega (arith, few.items);
  replies = omega (arith, few.items, few.replies);
  good = omega (arith, few.items, few.replies, count_by-le-length (λ (r : AddressedReply). is_good r.reply) s.replies);
  check = omega (arith, few.items, few.replies, count_by-le-length (λ (r : AddressedReply). is_check r.reply) s.replies);
  busy = omega (arith, few.items, few.replies, count_by-le-length (λ (r : AddressedReply). is_busy_reply r.reply) s.replies);
  full = omega (arith, few.items, few.replies, count_by-le-length (λ (r : AddressedReply). is_task_set_full r.reply) s.replies);
  bytes = omega (arith, few.items, few.bytes);
}

-- ---- how things stand behind an item

abbrev good-of : AddressedReply → Bool
good-of r = is_good r.reply

abbrev check-of : AddressedReply → Bool
check-of r = is_check r.reply

abbrev busy-of : AddressedReply → Bool
busy-of r = is_busy_reply r.reply

abbrev full-of : AddressedReply → Bool
full-of r = is_task_set_full r.reply

output-bytes : (xs : List AddressedReply) (r : AddressedReply) → length (flat_map addressed_bytes (xs ++ r ∷ [])) ≡ length (flat_map addressed_bytes xs) + (4 + length (reply_bytes r.reply))
output-bytes xs r =
    ap length (output-more xs r) ∙ length-append (flat_map addressed_bytes xs) (addressed_bytes r)
    ∙ ap (λ n. length (flat_map addressed_bytes xs) + n) (record-length r)

same-counts : (c d : Summary) → c.records ≡ d.records → c.replies ≡ d.replies → c.good ≡ d.good → c.check ≡ d.check → c.busy ≡ d.busy
    → c.full ≡ d.full → c.steps ≡ d.steps → c.bytes ≡ d.bytes → c ≡ d
same-counts c d p1 p2 p3 p4 p5 p6 p7 p8 =
    ap (λ n. record c { records = n }) p1 ∙ ap (λ n. record c { records = d.records; replies = n }) p2
    ∙ ap (λ n. record c { records = d.records; replies = d.replies; good = n }) p3
    ∙ ap (λ n. record c { records = d.records; replies = d.replies; good = d.good; check = n }) p4
    ∙ ap (λ n. record c { records = d.records; replies = d.replies; good = d.good; check = d.check; busy = n }) p5
    ∙ ap (λ n. record d { full = n; steps = c.steps; bytes = c.bytes }) p6
    ∙ ap (λ n. record d { steps = n; bytes = c.bytes }) p7
    ∙ ap (λ n. record d { bytes = n }) p8

pub summary-quiet : (s t : ReplayState) → t.items ≡ s.items + 1 → t.replies ≡ s.replies ++ [] → with_item (summary_of s) (length t.entries) ≡ summary_of t
summary-quiet s t items replies =
    let same : s.replies ≡ t.replies = sym (replies ∙ append-nil s.replies) in
    same-counts _ _ (sym items) (ap length same) (ap (count_by good-of) same) (ap (count_by check-of) same) (ap (count_by busy-of) same) (ap (count_by full-of) same) refl
    (ap (λ l. length (flat_map addressed_bytes l)) same)

pub summary-answered : (s t : ReplayState) (r : AddressedReply) → t.items ≡ s.items + 1 → t.replies ≡ s.replies ++ r ∷ []
    → with_reply (with_item (summary_of s) (length t.entries)) r.reply ≡ summary_of t
summary-answered s t r items replies =
    same-counts _ _ (sym items) (omega (arith, ap length replies, length-append s.replies (r ∷ [])))
    (sym (ap (count_by good-of) replies ∙ count-more good-of s.replies r)) (sym (ap (count_by check-of) replies ∙ count-more check-of s.replies r))
    (sym (ap (count_by busy-of) replies ∙ count-more busy-of s.replies r)) (sym (ap (count_by full-of) replies ∙ count-more full-of s.replies r)) refl
    (sym (ap (λ l. length (flat_map addressed_bytes l)) replies ∙ output-bytes s.replies r))

pub few-quiet : (s t : ReplayState) → t.items ≡ s.items + 1 → t.replies ≡ s.replies ++ [] → s.items < items_limit → AreFew s → AreFew t
few-quiet s t items replies below few =
    let same : t.replies ≡ s.replies = replies ∙ append-nil s.replies in
    record {
      items = omega (arith, items, below);
      replies = omega (arith, items, ap length same, few.replies);
      bytes = omega (arith, items, ap (λ l. length (flat_map addressed_bytes l)) same, few.bytes);
    }

pub few-answered : (s t : ReplayState) (r : AddressedReply) → IsOfLength r.reply → t.items ≡ s.items + 1 → t.replies ≡ s.replies ++ r ∷ [] → s.items < items_limit → AreFew s → AreFew t
few-answered s t r fits items replies below few = record {
  items = omega (arith, items, below);
  replies = omega (arith, items, ap length replies, length-append s.replies (r ∷ []), few.replies);
  bytes = omega (arith, items, ap (λ l. length (flat_map addressed_bytes l)) replies, output-bytes s.replies r, reply-length r.reply fits, few.bytes);
}

module _ (left rest taken given : Option (List ℕ)) (p : Player) (is : IsAt left rest taken given p) (item : TraceItem) (used : ℕ)
    (some : 0 < left_of p) (whole : read_item p.input ≡ Whole item used) where
  pub items-below : is.s.items < items_limit
  items-below = let same : p.summary.records ≡ is.s.items = ap (λ (c : Summary). c.records) is.summary in omega (arith, some, same)

  -- how things stand behind it, with such a shortage
  abbrev pub behind : Shortage → ReplayState
  behind shortage = after_item step is.config is.s item (shortage_for item (shortage ∷ []))

  behind-items : (shortage : Shortage) → (behind shortage).items ≡ is.s.items + 1
  behind-items shortage = next-items is.config is.s item (shortage_for item (shortage ∷ []))

  module _ (replies : List AddressedReply) (m : Machine) (h : HasPlayed is.config is.s item replies m) where
    pub loop-next : (given' : Option (List ℕ)) (n' place' : ℕ) (input' output' : List ℕ) → left_of p ≡ suc n' → place' ≡ p.place + used → input' ≡ drop used p.input
        → IsWritten taken given' output' (output_of (behind h.shortage)) → IsLoopAt left rest taken given' is.config (behind h.shortage) n' place' input' output'
    loop-next given' n' place' input' output' one_less place input written = record {
      pulled = is.loop.pulled;
      shortages = is.loop.shortages ++ shortages_of item h.shortage;
      consumed = is.loop.consumed;
      stands = stood;
      written = written;
    }
      where
        stood : StandsAt step is.config is.loop.pulled (is.loop.shortages ++ shortages_of item h.shortage) (behind h.shortage) n' place' input'
        stood =
            subst (StandsAt step is.config is.loop.pulled (is.loop.shortages ++ shortages_of item h.shortage) (behind h.shortage) n' place') (sym input)
            (subst (λ q. StandsAt step is.config is.loop.pulled (is.loop.shortages ++ shortages_of item h.shortage) (behind h.shortage) n' q (drop used p.input)) (sym place)
            (steps step is.config is.loop.pulled is.loop.shortages is.s n' p.place p.input item used h.shortage
            (subst (λ n. StandsAt step is.config is.loop.pulled is.loop.shortages is.s n p.place p.input) one_less is.loop.stands) whole h.fit h.allowed))

    one-less : (c : Summary) → c.records ≡ p.summary.records + 1 → left_of p ≡ suc (items_limit - c.records)
    one-less c now = omega (arith, some, now)

    pub at-next : (given' : Option (List ℕ)) (p' : Player) → p'.machine ≡ m → p'.input ≡ drop used p.input → p'.place ≡ p.place + used
        → p'.summary ≡ summary_of (behind h.shortage) → AreFew (behind h.shortage) → IsWritten taken given' p'.output (output_of (behind h.shortage))
        → IsAt left rest taken given' p'
    at-next given' p' machine input place summary few written = record {
      config = is.config;
      s = behind h.shortage;
      loop = loop-next given' (left_of p') p'.place p'.input p'.output
          (one-less p'.summary (ap (λ (c : Summary). c.records) summary ∙ behind-items h.shortage ∙ ap (λ n. n + 1) (sym (ap (λ (c : Summary). c.records) is.summary)))) place input written;
      machine = subst (IsStanding is.config (behind h.shortage)) (sym machine) h.state;
      summary = summary;
      few = few;
      place = let counted = behind-items h.shortage in omega (arith, place, is.place, counted, item-used p.input item used whole);
    }

  -- there is no reply to it
  pub quiet-at : (m : Machine) (h : HasPlayed is.config is.s item [] m) (p' : Player)
      → p' ≡ record p { machine = m; input = drop used p.input; place = p.place + used; summary = with_item p.summary (length (behind h.shortage).entries) }
      → IsAt left rest taken given p'
  quiet-at m h p' new = subst (IsAt left rest taken given) (sym new)
      (at-next [] m h given (record p { machine = m; input = drop used p.input; place = p.place + used; summary = with_item p.summary (length (behind h.shortage).entries) }) refl refl refl
      (ap (λ c. with_item c (length (behind h.shortage).entries)) is.summary ∙ summary-quiet is.s (behind h.shortage) (behind-items h.shortage) h.replied)
      (few-quiet is.s (behind h.shortage) (behind-items h.shortage) h.replied items-below is.few)
      (subst (IsWritten taken given p.output) (sym (ap (flat_map addressed_bytes) (h.replied ∙ append-nil is.s.replies))) is.loop.written))

  -- its reply was written, or was not
  pub answered-at : (m : Machine) (r : AddressedReply) (h : HasPlayed is.config is.s item (r ∷ []) m) → IsOfLength r.reply → (given' : Option (List ℕ)) (p' : Player)
      → p'.machine ≡ m → p'.input ≡ drop used p.input → p'.place ≡ p.place + used
      → p'.summary ≡ with_reply (with_item p.summary (length (behind h.shortage).entries)) r.reply
      → (result : Result (Unit {0}) ReplayFault) → Writes taken given' p'.output (output_of is.s ++ addressed_bytes r) result
      → MatchResult result (λ _. IsAt left rest taken given' p') (λ e. Replayed step left rest taken given' (Err e))
  answered-at m r h fits given' p' machine input place summary (Ok x) w =
      at-next (r ∷ []) m h given' p' machine input place
      (summary ∙ ap (λ c. with_reply (with_item c (length (behind h.shortage).entries)) r.reply) is.summary
      ∙ summary-answered is.s (behind h.shortage) r (behind-items h.shortage) h.replied)
      (few-answered is.s (behind h.shortage) r fits (behind-items h.shortage) h.replied items-below is.few)
      (subst (IsWritten taken given' p'.output) (sym (ap (flat_map addressed_bytes) h.replied ∙ output-more is.s.replies r)) w)
  answered-at m r h fits given' p' machine input place summary (Err e) w =
      let all : output_of (behind h.shortage) ≡ output_of is.s ++ addressed_bytes r = ap (flat_map addressed_bytes) h.replied ∙ output-more is.s.replies r in
      let waits : IsWritten taken given (p.output ++ addressed_bytes r) (output_of (behind h.shortage)) =
      subst (IsWritten taken given (p.output ++ addressed_bytes r)) (sym all) (written-gathered taken given given p.output (output_of is.s) (addressed_bytes r) (p.output ++ addressed_bytes r) refl is.loop.written) in
      ends-begun left rest taken given is.config (behind h.shortage) (items_limit - (p.summary.records + 1)) (p.place + used) (drop used p.input) (p.output ++ addressed_bytes r)
      (loop-next (r ∷ []) m h given (items_limit - (p.summary.records + 1)) (p.place + used) (drop used p.input) (p.output ++ addressed_bytes r)
      (one-less (r ∷ []) m h (with_item p.summary 0) refl) refl refl waits)
      given' e (subst (IsBegun taken given') (sym all) w.0) w.1

  -- how the player stands behind the item, with no reply yet
  abbrev pub IsPassed : Machine → Shortage → Player → Type 0
  IsPassed m shortage passed =
      passed ≡ record p { machine = m; input = drop used p.input; place = p.place + used; summary = with_item p.summary (length (behind shortage).entries) }

  pub passed-waits : (m : Machine) (shortage : Shortage) (passed : Player) → IsPassed m shortage passed → IsWritten taken given passed.output (output_of is.s)
  passed-waits m shortage passed new = subst (λ (q : Player). IsWritten taken given q.output (output_of is.s)) (sym new) is.loop.written

  -- its reply was counted, and written or not
  pub replied-at : (m : Machine) (r : AddressedReply) (h : HasPlayed is.config is.s item (r ∷ []) m) → IsOfLength r.reply → (given' : Option (List ℕ)) (passed : Player)
      → IsPassed m h.shortage passed → (summary : Summary) (output : List ℕ) → summary ≡ with_reply passed.summary r.reply
      → (result : Result (Unit {0}) ReplayFault) → Writes taken given' output (output_of is.s ++ addressed_bytes r) result
      → MatchResult result (λ _. IsAt left rest taken given' (record passed { summary = summary; output = output })) (λ e. Replayed step left rest taken given' (Err e))
  replied-at m r h fits given' passed new summary output counted result w =
      answered-at m r h fits given' (record passed { summary = summary; output = output }) (ap (λ (q : Player). q.machine) new) (ap (λ (q : Player). q.input) new)
      (ap (λ (q : Player). q.place) new) (counted ∙ ap (λ (q : Player). with_reply q.summary r.reply) new) result w

-- there is room in the counts for the reply of the item
pub room-item : (c : Summary) (s : ReplayState) (n : ℕ) → c ≡ summary_of s → AreFew s → HasRoom (with_item c n)
room-item c s n is few =
    let room : HasRoom c = subst HasRoom (sym is) (room-of s few) in
    let counted : c.records ≡ s.items = ap (λ (d : Summary). d.records) is in
    record {
      records = omega (arith, counted, few.items);
      replies = room.replies;
      good = room.good;
      check = room.check;
      busy = room.busy;
      full = room.full;
      bytes = room.bytes;
    }
