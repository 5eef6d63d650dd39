-- How a session stands after one more command, and when it ends
use Rattle.std.proofs.Common.{◌≡◌, ℕ, suc, ◌+◌, ◌-◌, ◌≤◌, List, [], ◌∷◌, ◌++◌, length, refl, ap, sym, ◌∙◌, subst, append-nil, append_assoc, length-append, arith, true, false, Bool, inl, inr}
use Rattle.std.specs.Prelude.{Option, Some, None, Result, Ok, Err, OnErr, All, nat_le, cond}
use Rattle.std.specs.Result.{result_err}
use Rattle.cm_base.specs.declared.sink.WriteFailed.{WriteFailed}
use Rattle.std.specs.Io.KnownBytes.{Appends}
use Rattle.std.proofs.KnownBytes.{Appends-trans}
use Rattle.std.proofs.lemmas.Grind.{flat_map-append}
use Rattle.std.proofs.lemmas.List.{map-append}
use Rattle.std.proofs.lemmas.List.Elements.{All-append, All-from_recursion}
use Rattle.std.proofs.lemmas.Bool.Decides.{nat_tests}
use Rattle.cm_base.specs.Configuration.{Configuration}
use Rattle.cm_base.specs.Outside.{Faulted, IsBeginning}
use Rattle.cm_frame.specs.declared.frame.Request.{Request}
use Rattle.cm_frame.specs.declared.frame.Reply.{Reply}
use Rattle.byteorder.specs.Endian.{big_bytes}
use Rattle.scsi_sense.specs.SenseBytes.{sense_bytes}
use Rattle.cm_frame.specs.Grammar.{reply_bytes}
use Rattle.cmd_program.specs.Running.{Call}
use Rattle.cmd_program.specs.Judging.{step}
use Rattle.session.specs.declared.end.SessionFault.{SessionFault}
use Rattle.session.specs.declared.end.SessionFault.TheVariants.{ReadFault, WriteFault, Torn, BadFrame, Frames, OutOfMemory, Unsettled}
use Rattle.cm_base.specs.Sides.{IsCut}
use Rattle.cm_frame.specs.Framing.{frames_limit}
use Rattle.cmd_program.specs.Exchanges.{Exchange, IsExchange, requests_of, calls_in, calls_of, replies_of}
use Rattle.session.specs.Spoken.{IsFront, AreAllButLast, ArePushed, AreSettled, whole_in, Spoken, IsCounted, AreSettlesCounted}
use Rattle.session.proofs.Hearing.{heard-first, heard-front}
use Rattle.session.specs.inner.Talking.{IsHeard, IsHeardTo, HasReplied, IsAt, IsWriteEnd, IsSettledBy, ended, fault_of}

-- ---- replies that are whole

first-whole : (x : Exchange) (xs : List Exchange) (n : ℕ) → length (reply_bytes x.reply) ≤ n → whole_in n (x ∷ xs) ≡ suc (whole_in (n - length (reply_bytes x.reply)) xs)
first-whole x xs n fits = go (nat_le (length (reply_bytes x.reply)) n) refl
  where
    go : (b : Bool) → nat_le (length (reply_bytes x.reply)) n ≡ b → cond b (suc (whole_in (n - length (reply_bytes x.reply)) xs)) 0 ≡ suc (whole_in (n - length (reply_bytes x.reply)) xs)
    go true is = refl
    go false is = absurd (let no : nat_le (length (reply_bytes x.reply)) n ≡ false = is in grind (arith, nat_tests))

none-whole : (x : Exchange) (n : ℕ) → suc n ≤ length (reply_bytes x.reply) → whole_in n (x ∷ []) ≡ 0
none-whole x n less = go (nat_le (length (reply_bytes x.reply)) n) refl
  where
    go : (b : Bool) → nat_le (length (reply_bytes x.reply)) n ≡ b → cond b (suc (whole_in (n - length (reply_bytes x.reply)) [])) 0 ≡ 0
    go true is = absurd (let yes : nat_le (length (reply_bytes x.reply)) n ≡ true = is in grind (arith, nat_tests))
    go false is = refl

-- with so many bytes behind them all replies are whole, and then those behind them
whole-more : (xs ys : List Exchange) (n : ℕ) → whole_in (length (replies_of xs) + n) (xs ++ ys) ≡ length xs + whole_in n ys
whole-more [] ys n = let e : length (replies_of []) + n ≡ n = omega arith in rw e (omega arith)
whole-more (x ∷ xs) ys n =
    let sum = length-append (reply_bytes x.reply) (replies_of xs) in
    let rest : length (replies_of (x ∷ xs)) + n - length (reply_bytes x.reply) ≡ length (replies_of xs) + n = omega arith in
    let ih = whole-more xs ys n in
    first-whole x (xs ++ ys) (length (replies_of (x ∷ xs)) + n) (omega arith)
    ∙ ap (λ k. suc (whole_in k (xs ++ ys))) rest ∙ ap suc ih ∙ omega arith

pub whole-all : (xs : List Exchange) → whole_in (length (replies_of xs)) xs ≡ length xs
whole-all xs =
    let e : length (replies_of xs) ≡ length (replies_of xs) + 0 = omega arith in
    ap (λ k. whole_in k xs) e ∙ ap (whole_in (length (replies_of xs) + 0)) (sym (append-nil xs)) ∙ whole-more xs [] 0 ∙ omega arith

-- ---- the end

-- no settle fails at such an ending
abbrev pub NoneUnsettled : Option SessionFault → Type 0
NoneUnsettled fault = (n : ℕ) → AreSettlesCounted n n fault

none-faulted : Faulted 0 0 → ⊥
none-faulted (inl one) = cc
none-faulted (inr most) = let none : 0 ≡ 18446744073709551615 = most.0 in cc

pushed-all : (xs : List Exchange) (fault : Option SessionFault) → NoneUnsettled fault → ArePushed xs (replies_of xs) fault
pushed-all xs None none = refl
pushed-all xs (Some ReadFault) none = refl
pushed-all xs (Some WriteFault) none = ([], append-nil (replies_of xs))
pushed-all xs (Some Torn) none = refl
pushed-all xs (Some BadFrame) none = refl
pushed-all xs (Some Frames) none = refl
pushed-all xs (Some OutOfMemory) none = ([], append-nil (replies_of xs))
pushed-all xs (Some Unsettled) none = absurd (none-faulted (none 0))

settled-all : (Settled : Type 0) (xs : List Exchange) (fault : Option SessionFault) → Settled → AreSettled Settled xs fault
settled-all Settled [] fault is = tt
settled-all Settled (x ∷ xs) None is = is
settled-all Settled (x ∷ xs) (Some ReadFault) is = is
settled-all Settled (x ∷ xs) (Some WriteFault) is = is
settled-all Settled (x ∷ xs) (Some Torn) is = is
settled-all Settled (x ∷ xs) (Some BadFrame) is = is
settled-all Settled (x ∷ xs) (Some Frames) is = is
settled-all Settled (x ∷ xs) (Some OutOfMemory) is = is
settled-all Settled (x ∷ xs) (Some Unsettled) is = tt

settled-still : (Settled : Type 0) (xs : List Exchange) (fault : Option SessionFault) → AreSettled Settled xs None → AreSettled Settled xs fault
settled-still Settled [] fault are = tt
settled-still Settled (x ∷ xs) fault are = settled-all Settled (x ∷ xs) fault are

first-some : (b : ℕ) (bs : List ℕ) → 1 ≤ length (b ∷ bs)
first-some b bs = omega arith

-- a reply has a byte
some-bytes : (reply : Reply) → 1 ≤ length (reply_bytes reply)
some-bytes (Reply.Good bytes) = first-some 0 (0 ∷ big_bytes 4 (length bytes) ++ bytes)
some-bytes (Reply.Check sense) = first-some 2 (18 ∷ big_bytes 4 0 ++ sense_bytes sense)
some-bytes Reply.Busy = first-some 8 (0 ∷ big_bytes 4 0)
some-bytes Reply.Conflict = first-some 24 (0 ∷ big_bytes 4 0)
some-bytes Reply.Full = first-some 40 (0 ∷ big_bytes 4 0)

-- a part of a session that settles nothing
pub write-end-settles : (e : SessionFault) → IsWriteEnd e → NoneUnsettled (Some e)
write-end-settles e (inl is) = subst (λ f. NoneUnsettled (Some f)) (sym is) (λ n. refl)
write-end-settles e (inr is) = subst (λ f. NoneUnsettled (Some f)) (sym is) (λ n. refl)

-- the calls stand as they stood
pub replied-still : (config : Configuration) (nexus : ℕ) (request : Request) (Shows : ℕ → Type 0) (Made Stays : List Call → Type 0) (calls : List Call) (reply : Reply)
    → ((l : List Call) → Made l → Stays l) → HasReplied config nexus request Shows Made calls reply → HasReplied config nexus request Shows Stays calls reply
replied-still config nexus request Shows Made Stays calls reply still r = record {
  events = r.events;
  is = r.is;
  made = still (calls ++ calls_in r.events) r.made;
  shown = r.shown;
}

module _ (config : Configuration) (nexus : ℕ) (Shows : ℕ → Type 0) (calls : List Call) (left taken : Option (List ℕ)) where
  -- no more requests come
  pub ends-here : (Made : List Call → Type 0) (Settled : Type 0) (a b given : Option (List ℕ)) (frames : ℕ) (waits : List ℕ) (fault : Option SessionFault)
      (h : IsAt config nexus Shows Made Settled calls left a taken given frames waits) → NoneUnsettled fault → IsHeardTo left b (requests_of h.exchanges) fault
      → Spoken step config nexus Shows Made Settled calls left b taken given (ended frames fault)
  ends-here Made Settled a b given frames waits fault h none heard = record {
    exchanges = h.exchanges;
    asked = h.asked;
    made = h.made;
    shown = h.shown;
    bytes = heard.bytes;
    input = heard.input;
    requests = heard.requests_are;
    pushed = replies_of h.exchanges;
    output = h.written;
    replies = pushed-all h.exchanges fault none;
    settled = settled-still Settled h.exchanges fault h.settled;
    frames = h.count ∙ sym (whole-all h.exchanges);
    turns = let count = h.count in omega arith;
  }

  -- what was pushed and counted stays
  pub same-spoken : (Made : List Call → Type 0) (Settled : Type 0) (b given given' : Option (List ℕ)) (frames frames' : ℕ) (fault : Option SessionFault) → given' ≡ given → frames' ≡ frames
      → Spoken step config nexus Shows Made Settled calls left b taken given (ended frames fault) → Spoken step config nexus Shows Made Settled calls left b taken given' (ended frames' fault)
  same-spoken Made Settled b given given' frames frames' fault same count s =
      subst (λ x. Spoken step config nexus Shows Made Settled calls left b taken x (ended frames' fault)) (sym same)
      (subst (λ n. Spoken step config nexus Shows Made Settled calls left b taken given (ended n fault)) (sym count) s)

  -- ---- one more command

  module _ (Had : List Call → Type 0) (Was : Type 0) (Made : List Call → Type 0) (Settled : Type 0) (a given : Option (List ℕ)) (frames : ℕ) (waits : List ℕ)
      (h : IsAt config nexus Shows Had Was calls left a taken given frames waits)
      (request : Request) (reply : Reply) (r : HasReplied config nexus request Shows Made (calls ++ calls_of h.exchanges) reply) where
    abbrev one : Exchange
    one = record { request = request; events = r.events; reply = reply }

    abbrev all : List Exchange
    all = h.exchanges ++ one ∷ []

    calls-all : calls_of all ≡ calls_of h.exchanges ++ calls_in r.events
    calls-all = flat_map-append (λ (x : Exchange). calls_in x.events) h.exchanges (one ∷ []) ∙ ap (λ l. calls_of h.exchanges ++ l) (append-nil (calls_in r.events))

    replies-all : replies_of all ≡ replies_of h.exchanges ++ reply_bytes reply
    replies-all = flat_map-append (λ (x : Exchange). reply_bytes x.reply) h.exchanges (one ∷ []) ∙ ap (λ l. replies_of h.exchanges ++ l) (append-nil (reply_bytes reply))

    requests-all : requests_of all ≡ requests_of h.exchanges ++ request ∷ []
    requests-all = map-append (λ (x : Exchange). x.request) h.exchanges (one ∷ [])

    asked-all : All (IsExchange step config nexus) all
    asked-all = All-append (IsExchange step config nexus) h.exchanges (one ∷ []) h.asked (All-from_recursion (IsExchange step config nexus) (one ∷ []) (r.is, tt))

    made-all : Made (calls ++ calls_of all)
    made-all = subst Made (append_assoc calls (calls_of h.exchanges) (calls_in r.events) ∙ ap (λ l. calls ++ l) (sym calls-all)) r.made

    shown-all : All (λ (c : Call). Shows c.moment) (calls_of all)
    shown-all =
        subst (All (λ (c : Call). Shows c.moment)) (sym calls-all) (All-append (λ (c : Call). Shows c.moment) (calls_of h.exchanges) (calls_in r.events) h.shown r.shown)

    -- its reply was pushed
    pub at-more : (b given' : Option (List ℕ)) (m : ℕ) (after : List ℕ) → Settled → suc m ≡ frames_limit - frames → IsHeard left b (requests_of h.exchanges ++ request ∷ []) m after
        → Appends given given' (reply_bytes reply) → IsAt config nexus Shows Made Settled calls left b taken given' (frames + 1) after
    at-more b given' m after safe less heard more =
        let limit : m ≡ frames_limit - (frames + 1) = omega arith in
        let size = length-append h.exchanges (one ∷ []) in
        let count = h.count in
        record {
          exchanges = all;
          asked = asked-all;
          made = made-all;
          shown = shown-all;
          heard = subst (λ k. IsHeard left b (requests_of all) k after) limit (subst (λ l. IsHeard left b l m after) (sym requests-all) heard);
          written = subst (Appends taken given') (sym replies-all) (Appends-trans taken given given' (replies_of h.exchanges) (reply_bytes reply) h.written more);
          settled = settled-all Settled all None safe;
          count = omega arith;
        }

    cut-length : (front : List ℕ) → IsCut front (reply_bytes reply) → suc (length front) ≤ length (reply_bytes reply)
    cut-length front c =
        let sum = length-append front c.rest in
        let all : length (front ++ c.rest) ≡ length (reply_bytes reply) = ap (λ (l : List ℕ). length l) c.whole in
        let some = some-length c.rest c.more in
        omega arith
      where
        some-length : (xs : List ℕ) → (xs ≡ [] → ⊥) → 1 ≤ length xs
        some-length [] none = absurd (none refl)
        some-length (x ∷ xs) none = omega arith

    -- a beginning of its reply was pushed, and not all of it
    pub ends-cut : (b given' : Option (List ℕ)) (fault : SessionFault) (front : List ℕ) → Settled → IsWriteEnd fault → IsHeardTo left b (requests_of h.exchanges ++ request ∷ []) (Some fault)
        → Appends given given' front → IsCut front (reply_bytes reply) → Spoken step config nexus Shows Made Settled calls left b taken given' (ended frames (Some fault))
    ends-cut b given' fault front safe end heard0 more cut =
        let pushed = replies_of h.exchanges ++ front in
        let begins : IsBeginning pushed (replies_of all) =
        (cut.rest, append_assoc (replies_of h.exchanges) front cut.rest ∙ ap (λ l. replies_of h.exchanges ++ l) cut.whole ∙ sym replies-all) in
        let heard = subst (λ l. IsHeardTo left b l (Some fault)) (sym requests-all) heard0 in
        let less = cut-length front cut in
        let size = length-append (replies_of h.exchanges) front in
        record {
          exchanges = all;
          asked = asked-all;
          made = made-all;
          shown = shown-all;
          bytes = heard.bytes;
          input = heard.input;
          requests = heard.requests_are;
          pushed = pushed;
          output = Appends-trans taken given given' (replies_of h.exchanges) front h.written more;
          replies = by-fault end begins;
          settled = settled-all Settled all (Some fault) safe;
          frames = h.count ∙ sym (ap (λ k. whole_in k all) size ∙ whole-more h.exchanges (one ∷ []) (length front) ∙ ap (λ k. length h.exchanges + k) (none-whole one (length front) less) ∙ omega arith);
          turns = let count = h.count in let sum = length-append h.exchanges (one ∷ []) in omega arith;
        }
      where
        by-fault : IsWriteEnd fault → IsBeginning (replies_of h.exchanges ++ front) (replies_of all) → ArePushed all (replies_of h.exchanges ++ front) (Some fault)
        by-fault (inl is) begins = subst (λ f. ArePushed all (replies_of h.exchanges ++ front) (Some f)) (sym is) begins
        by-fault (inr is) begins = subst (λ f. ArePushed all (replies_of h.exchanges ++ front) (Some f)) (sym is) begins

    -- it could not be settled, so nothing of its reply was pushed
    pub ends-unsettled : (b : Option (List ℕ)) (m : ℕ) (after : List ℕ) → IsHeard left b (requests_of h.exchanges ++ request ∷ []) m after
        → Spoken step config nexus Shows Made Settled calls left b taken given (ended frames (Some Unsettled))
    ends-unsettled b m after heard0 =
        let heard = heard-front left b (requests_of all) WriteFault m after (inl refl) (subst (λ l. IsHeard left b l m after) (sym requests-all) heard0) in
        let less = some-bytes reply in
        let none : length (replies_of h.exchanges) ≡ length (replies_of h.exchanges) + 0 = omega arith in
        record {
          exchanges = all;
          asked = asked-all;
          made = made-all;
          shown = shown-all;
          bytes = heard.bytes;
          input = heard.input;
          requests = heard.requests_are;
          pushed = replies_of h.exchanges;
          output = h.written;
          replies = record { told = h.exchanges; last = one; all = refl; pushed_are = refl };
          settled = unsettled-none all;
          frames = h.count ∙ sym (ap (λ k. whole_in k all) none ∙ whole-more h.exchanges (one ∷ []) 0 ∙ ap (λ k. length h.exchanges + k) (none-whole one 0 less) ∙ omega arith);
          turns = let count = h.count in let sum = length-append h.exchanges (one ∷ []) in omega arith;
        }
      where
        unsettled-none : (xs : List Exchange) → AreSettled Settled xs (Some Unsettled)
        unsettled-none [] = tt
        unsettled-none (x ∷ xs) = tt

-- ---- the beginning

pub appends-none : (a : Option (List ℕ)) → Appends a a []
appends-none None = tt
appends-none (Some xs) = sym (append-nil xs)

pub at-first : (config : Configuration) (nexus : ℕ) (Shows : ℕ → Type 0) (Made : List Call → Type 0) (Settled : Type 0) (calls : List Call) (left taken : Option (List ℕ)) → Made calls
    → IsAt config nexus Shows Made Settled calls left left taken taken 0 []
at-first config nexus Shows Made Settled calls left taken made = record {
  exchanges = [];
  asked = All-from_recursion (IsExchange step config nexus) [] tt;
  made = subst Made (sym (append-nil calls)) made;
  shown = All-from_recursion (λ (c : Call). Shows c.moment) [] tt;
  heard = heard-first left;
  written = appends-none taken;
  settled = tt;
  count = refl;
}

pub same-writes : (reads reads' writes writes' : ℕ) (fault : Option SessionFault) → writes' ≡ writes → IsCounted reads reads' writes writes fault → IsCounted reads reads' writes writes' fault
same-writes reads reads' writes writes' fault same is = subst (λ w. IsCounted reads reads' writes w fault) (sym same) is

pub same-reads : (reads reads' writes writes' : ℕ) (fault : Option SessionFault) → reads' ≡ reads → IsCounted reads reads writes writes' fault → IsCounted reads reads' writes writes' fault
same-reads reads reads' writes writes' fault same is = subst (λ r. IsCounted reads r writes writes' fault) (sym same) is

pub fault-err : (r : Result Unit SessionFault) → fault_of r ≡ result_err r
fault-err (Ok done) = refl
fault-err (Err e) = refl

-- a part that settles nothing leaves the count
pub none-settled : (r : Result Unit SessionFault) → ((n : ℕ) → IsSettledBy n n r) → NoneUnsettled (fault_of r)
none-settled (Ok done) none = none
none-settled (Err e) none = none

pub same-settles : (before after : ℕ) (fault : Option SessionFault) → after ≡ before → AreSettlesCounted before before fault → AreSettlesCounted before after fault
same-settles before after fault same is = subst (λ n. AreSettlesCounted before n fault) (sym same) is

-- the count stood as it was before a part that settles nothing
pub settles-behind : (before after : ℕ) (r : Result Unit SessionFault) → after ≡ before → ((n : ℕ) → IsSettledBy n n r) → IsSettledBy before after r
settles-behind before after r same none = subst (λ n. IsSettledBy before n r) (sym same) (none before)

-- ---- two pushes

pub cut-longer : (pushed front behind : List ℕ) → IsCut pushed front → IsCut pushed (front ++ behind)
cut-longer pushed front behind c = record {
  rest = c.rest ++ behind;
  whole = sym (append_assoc pushed c.rest behind) ∙ ap (λ l. l ++ behind) c.whole;
  more = some c.rest c.more;
}
  where
    some : (xs : List ℕ) → (xs ≡ [] → ⊥) → xs ++ behind ≡ [] → ⊥
    some [] none e = none refl
    some (x ∷ xs) none e = cc

pub cut-behind : (pushed front behind : List ℕ) → IsCut pushed behind → IsCut (front ++ pushed) (front ++ behind)
cut-behind pushed front behind c = record {
  rest = c.rest;
  whole = append_assoc front pushed c.rest ∙ ap (λ l. front ++ l) c.whole;
  more = c.more;
}

pub any-err : (r : Result Unit WriteFailed) (P : Type 0) → P → OnErr r P
any-err (Ok done) P p = tt
any-err (Err e) P p = p

pub on-err : (r : Result Unit WriteFailed) (P Q : Type 0) → (P → Q) → OnErr r P → OnErr r Q
on-err (Ok done) P Q f p = tt
on-err (Err e) P Q f p = f p
