-- What was written, after more of it
use Rattle.std.proofs.Common.{◌≡◌, ℕ, ◌≤◌, List, [], ◌++◌, length, take, drop, take-append-drop, ap, sym, ◌∙◌, subst, append_assoc, append-nil, arith, inl}
use Rattle.std.specs.Prelude.{Option, Result, Ok, Err, MatchResult}
use Rattle.std.specs.Io.KnownBytes.{Appends}
use Rattle.std.proofs.KnownBytes.{Appends-trans}
use Rattle.std.proofs.Math.Seq.{take-append_seam}
use Rattle.cm_base.specs.Outside.{IsBeginning}
use Rattle.byteorder.specs.Endian.{big_bytes}
use Rattle.cm_frame.specs.declared.frame.Reply.{Reply}
use Rattle.cm_frame.specs.Grammar.{reply_bytes, reply_body, data_in, data_limit}
use Rattle.cmd_program.specs.Meaning.{IsOfLength}
use Rattle.trace_replay.specs.Played.{addressed_bytes}
use Rattle.trace_replay.specs.declared.fault.ReplayFault.{ReplayFault}
use Rattle.trace_replay.specs.Replayed.{IsCounted}
use Rattle.trace_replay.specs.inner.Writing.{IsWritten, IsBegun, Writes, IsWriteFault, IsCountedBy}

module _ (taken a b : Option (List ℕ)) (waits bytes : List ℕ) where
  -- all that waited was pushed
  pub written-flushed : (none : List ℕ) → none ≡ [] → IsWritten taken a waits bytes → Appends a b waits → IsWritten taken b none bytes
  written-flushed none empty w more = record {
    pushed = w.pushed ++ waits;
    written = Appends-trans taken a b w.pushed waits w.written more;
    all = ap (λ l. (w.pushed ++ waits) ++ l) empty ∙ append-nil (w.pushed ++ waits) ∙ w.all;
  }

  -- more bytes wait
  pub written-gathered : (more after : List ℕ) → after ≡ waits ++ more → IsWritten taken a waits bytes → IsWritten taken a after (bytes ++ more)
  written-gathered more after is w = record {
    pushed = w.pushed;
    written = w.written;
    all = ap (λ l. w.pushed ++ l) is ∙ sym (append_assoc w.pushed waits more) ∙ ap (λ l. l ++ more) w.all;
  }

  -- none waited, and more were pushed
  pub written-passed : (more : List ℕ) → waits ≡ [] → IsWritten taken a waits bytes → Appends a b more → IsWritten taken b waits (bytes ++ more)
  written-passed more none w pushed =
      let whole : w.pushed ≡ bytes = sym (append-nil w.pushed) ∙ ap (λ l. w.pushed ++ l) (sym none) ∙ w.all in
      record {
        pushed = w.pushed ++ more;
        written = Appends-trans taken a b w.pushed more w.written pushed;
        all = ap (λ l. (w.pushed ++ more) ++ l) none ∙ append-nil (w.pushed ++ more) ∙ ap (λ l. l ++ more) whole;
      }

  -- a beginning of those that waited was pushed
  pub begun-flushing : (front rest : List ℕ) → front ++ rest ≡ waits → IsWritten taken a waits bytes → Appends a b front → IsBegun taken b bytes
  begun-flushing front rest is w more = record {
    pushed = w.pushed ++ front;
    written = Appends-trans taken a b w.pushed front w.written more;
    begins = (rest, append_assoc w.pushed front rest ∙ ap (λ l. w.pushed ++ l) is ∙ w.all);
  }

  -- none waited, and a beginning of more was pushed
  pub begun-passing : (front more : List ℕ) → waits ≡ [] → IsBeginning front more → IsWritten taken a waits bytes → Appends a b front → IsBegun taken b (bytes ++ more)
  begun-passing front more none begins w pushed =
      let whole : w.pushed ≡ bytes = sym (append-nil w.pushed) ∙ ap (λ l. w.pushed ++ l) (sym none) ∙ w.all in
      record {
        pushed = w.pushed ++ front;
        written = Appends-trans taken a b w.pushed front w.written pushed;
        begins = (begins.0, append_assoc w.pushed front begins.0 ∙ ap (λ l. w.pushed ++ l) begins.1 ∙ ap (λ l. l ++ more) whole);
      }

  -- what waits is still to come
  pub begun-waiting : (more : List ℕ) → IsWritten taken a waits bytes → IsBegun taken a (bytes ++ more)
  begun-waiting more w = record {
    pushed = w.pushed;
    written = w.written;
    begins = (waits ++ more, sym (append_assoc w.pushed waits more) ∙ ap (λ l. l ++ more) w.all);
  }

pub begun-more : (taken a : Option (List ℕ)) (bytes more : List ℕ) → IsBegun taken a bytes → IsBegun taken a (bytes ++ more)
begun-more taken a bytes more w = record {
  pushed = w.pushed;
  written = w.written;
  begins = (w.begins.0 ++ more, sym (append_assoc w.pushed w.begins.0 more) ∙ ap (λ l. l ++ more) w.begins.1);
}

-- ---- results

module _ {A : Type 0} (r : Result A ReplayFault) (e : ReplayFault) (is : r ≡ Err e) where
  pub writes-failed : (taken given : Option (List ℕ)) (waits bytes : List ℕ) → IsBegun taken given bytes → IsWriteFault e → Writes taken given waits bytes r
  writes-failed taken given waits bytes begun fault = subst (Writes taken given waits bytes) (sym is) (begun, fault)

  pub counted-failed : (reads reads_after writes writes_after : ℕ) → IsCounted reads reads_after writes writes_after (Err e) → IsCountedBy reads reads_after writes writes_after r
  counted-failed reads reads_after writes writes_after counted = subst (IsCountedBy reads reads_after writes writes_after) (sym is) counted

-- the part before counted no fault
pub counted-later : {A : Type 0} (r : Result A ReplayFault) (reads reads_between reads_after writes writes_between writes_after : ℕ)
    → reads_between ≡ reads → writes_between ≡ writes → IsCountedBy reads_between reads_after writes_between writes_after r
    → IsCountedBy reads reads_after writes writes_after r
counted-later r reads reads_between reads_after writes writes_between writes_after a b counted =
    subst (λ n. IsCountedBy n reads_after writes writes_after r) a
    (subst (λ n. IsCountedBy reads_between reads_after n writes_after r) b counted)

-- a part that wrote, where a later one fails
pub writes-begun : {A : Type 0} (r : Result A ReplayFault) (taken given : Option (List ℕ)) (waits bytes more after : List ℕ)
    → Writes taken given waits (bytes ++ more) r → after ≡ bytes ++ more → Writes taken given waits after r
writes-begun r taken given waits bytes more after w e = subst (λ l. Writes taken given waits l r) (sym e) w

pub relieved : (r : Result (Unit {0}) ReplayFault) (taken given : Option (List ℕ)) (waits bytes : List ℕ)
    → MatchResult r (λ _. IsWritten taken given waits bytes × (waits ≡ [])) (λ e. IsBegun taken given bytes × (e ≡ ReplayFault.WriteFault))
    → Writes taken given waits bytes r
relieved (Ok x) taken given waits bytes h = h.0
relieved (Err e) taken given waits bytes h = (h.0, inl h.1)

-- the parts of a record
record-joined : (bytes ini rb : List ℕ) → ((bytes ++ ini) ++ take 6 rb) ++ drop 6 rb ≡ bytes ++ (ini ++ rb)
record-joined bytes ini rb =
    append_assoc (bytes ++ ini) (take 6 rb) (drop 6 rb) ∙ ap (λ l. (bytes ++ ini) ++ l) (take-append-drop 6 rb) ∙ append_assoc bytes ini rb

module _ (taken given : Option (List ℕ)) (bytes waits waits1 waits2 ini head : List ℕ) (i : ℕ) (reply : Reply) (first : waits1 ≡ waits ++ ini) (second : waits2 ≡ waits1 ++ head)
    (ini_is : ini ≡ big_bytes 4 i) (head_is : head ≡ take 6 (reply_bytes reply)) where
  pub written-headed : IsWritten taken given waits bytes → IsWritten taken given waits2 ((bytes ++ big_bytes 4 i) ++ take 6 (reply_bytes reply))
  written-headed w =
      written-gathered taken given given waits1 (bytes ++ big_bytes 4 i) (take 6 (reply_bytes reply)) waits2 (second ∙ ap (λ l. waits1 ++ l) head_is)
      (written-gathered taken given given waits bytes (big_bytes 4 i) waits1 (first ∙ ap (λ l. waits ++ l) ini_is) w)

-- a head is the first six bytes
pub head-first : (head : List ℕ) (reply : Reply) → length head ≡ 6 → reply_bytes reply ≡ head ++ reply_body reply → head ≡ take 6 (reply_bytes reply)
head-first head reply six is =
    sym (subst (λ n. take n (reply_bytes reply) ≡ head) six (ap (take (length head)) is ∙ take-append_seam head (reply_body reply)))

-- the data of a reply may stand in a frame
pub data-few : (reply : Reply) → IsOfLength reply → length (data_in reply) ≤ data_limit
data-few (Reply.Good bytes) few = few
data-few (Reply.Check sense) few = omega arith
data-few Reply.Conflict few = omega arith
data-few Reply.Busy few = omega arith
data-few Reply.Full few = omega arith

-- the tail was written, and then all of the record was
pub writes-record : {A : Type 0} (r : Result A ReplayFault) (taken given : Option (List ℕ)) (waits bytes : List ℕ) (i : ℕ) (reply : Reply)
    → Writes taken given waits (((bytes ++ big_bytes 4 i) ++ take 6 (reply_bytes reply)) ++ drop 6 (reply_bytes reply)) r
    → Writes taken given waits (bytes ++ addressed_bytes (record { initiator = i; reply = reply })) r
writes-record r taken given waits bytes i reply w = subst (λ l. Writes taken given waits l r) (record-joined bytes (big_bytes 4 i) (reply_bytes reply)) w
