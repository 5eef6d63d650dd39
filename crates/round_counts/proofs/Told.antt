-- Replies that are all GOOD, in numbers
use Rattle.std.proofs.Common.{◌≡◌, ℕ, ◌+◌, List, [], ◌∷◌, ◌++◌, length, flat_map, Bool, refl, ap, ◌∙◌, arith, length-append, append-nil}
use Rattle.std.specs.Prelude.{count_by, cond}
use Rattle.std.proofs.lemmas.List.Sums.{sum_by-append}
use Rattle.std.proofs.lemmas.Grind.{flat_map-append}
use Rattle.cm_frame.specs.declared.frame.Reply.{Reply}
use Rattle.trace_replay.specs.ReplayState.{AddressedReply}
use Rattle.trace_replay.specs.Played.{addressed_bytes, is_good, is_check, is_busy_reply, is_task_set_full}

-- so many of the replies are such
abbrev pub that : (Reply → Bool) → List AddressedReply → ℕ
that test replies = count_by (λ (r : AddressedReply). test r.reply) replies

-- so many replies, all GOOD, of so many bytes
pub record AreGood (many size : ℕ) (replies : List AddressedReply) : Type 0 where
  pub count : length replies ≡ many
  pub good : that is_good replies ≡ many
  pub check : that is_check replies ≡ 0
  pub busy : that is_busy_reply replies ≡ 0
  pub full : that is_task_set_full replies ≡ 0
  pub bytes : length (flat_map addressed_bytes replies) ≡ size

pub none-told : AreGood 0 0 []
none-told = record { count = refl; good = refl; check = refl; busy = refl; full = refl; bytes = refl }

abbrev pub good_to : ℕ → List ℕ → AddressedReply
good_to i bytes = record { initiator = i; reply = Reply.Good bytes }

-- how many of these, with one more
that-more : (test : Reply → Bool) (replies : List AddressedReply) (r : AddressedReply) → that test (replies ++ r ∷ []) ≡ that test replies + that test (r ∷ [])
that-more test replies r = sum_by-append (λ (x : AddressedReply). cond (test x.reply) 1 0) replies (r ∷ [])

-- one more reply with so many bytes of data
pub good-more : (many size more i : ℕ) (bytes : List ℕ) (replies : List AddressedReply) → length bytes ≡ more → AreGood many size replies
    → AreGood (many + 1) (size + (10 + more)) (replies ++ good_to i bytes ∷ [])
good-more many size more i bytes replies is are = record {
  count = length-append replies (good_to i bytes ∷ []) ∙ ap (λ n. n + 1) are.count;
  good = that-more is_good replies (good_to i bytes) ∙ ap (λ n. n + 1) are.good;
  check = that-more is_check replies (good_to i bytes) ∙ ap (λ n. n + 0) are.check;
  busy = that-more is_busy_reply replies (good_to i bytes) ∙ ap (λ n. n + 0) are.busy;
  full = that-more is_task_set_full replies (good_to i bytes) ∙ ap (λ n. n + 0) are.full;
  bytes = ap length (flat_map-append addressed_bytes replies (good_to i bytes ∷ []))
      ∙ length-append (flat_map addressed_bytes replies) (flat_map addressed_bytes (good_to i bytes ∷ []))
      ∙ ap (λ n. n + length (flat_map addressed_bytes (good_to i bytes ∷ []))) are.bytes
      ∙ ap (λ n. size + n) one;
}
  where
    one : length (flat_map addressed_bytes (good_to i bytes ∷ [])) ≡ 10 + more
    one = ap length (append-nil (addressed_bytes (good_to i bytes))) ∙ ten ∙ ap (λ n. 10 + n) is
      where
        ten : length (addressed_bytes (good_to i bytes)) ≡ 10 + length bytes
        ten = omega arith
