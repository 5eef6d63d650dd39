-- The unit of the tokens of a generated trace: it is written, makes a token, and shows it
use Rattle.std.proofs.Common.{◌≡◌, ℕ, suc, ◌+◌, ◌*◌, ◌^◌, ◌<◌, ◌≤◌, List, [], ◌∷◌, ◌++◌, length, Bool, true, false, refl, sym, ap, ◌∙◌, subst, arith}
use Rattle.std.specs.Prelude.{Some, nat_le, nat_lt, not, filter, map, max, slice_get, if◌then◌else◌}
use Rattle.std.specs.Str.{bytes_eq}
use Rattle.std.proofs.lemmas.Bool.Decides.{nat_tests}
use Rattle.cm_base.specs.Units.{unit_of}
use Rattle.lba_ranges.specs.Denoted.{row, total}
use Rattle.cm_base.specs.declared.config.UnitConfig.{UnitConfig}
use Rattle.lba_ranges.specs.HeldBlocks.{HeldBlocks}
use Rattle.lba_ranges.specs.Writings.{Held}
use Rattle.rod_token.specs.TokenText.{token_text, serial_of}
use Rattle.cm_history.specs.declared.act.Act.{Act}
use Rattle.cm_history.specs.declared.act.Actor.{Actor}
use Rattle.cm_history.specs.declared.act.Entry.{Entry}
use Rattle.cm_history.specs.declared.answer.Answer.{Answer}
use Rattle.cm_history.specs.Blocks.{held, mapped_with}
use Rattle.cm_history.specs.Deeds.{Deed, moment, is_answered, is_refusal}
use Rattle.cm_history.specs.Members.{Each}
use Rattle.cm_history.specs.Operations.{is_running, makes_operation, made_operation}
use Rattle.cm_history.specs.Tokens.{Token, Live, tokens, token_after, made_token, rod, is_over}
use Rattle.cm_history.specs.Redeeming.{redeemed, named_token}
use Rattle.cm_history.specs.Answers.{deed, answer_after, answer_write, put_at}
use Rattle.generator.specs.Settings.{settings}
use Rattle.round_counts.proofs.Sized.{IsBlock, paired-sized}
use Rattle.round_counts.proofs.Quiet.{Quiet, eight, eight-within, made_by, not-busy, still-quiet, unbarred, within-quota}

abbrev pub entry_of : ℕ → ℕ → ℕ → Actor → ℕ → Act → Entry
entry_of unit stamp seq actor at act = record { stamp = stamp; unit = unit; actor = actor; seq = seq; moment = at; act = act }

-- ---- a Write of eight blocks

pub after-write : (serial now few stamp seq lba : ℕ) (list : HeldBlocks) (actor : Actor) (at : ℕ) (past : List Deed) → Quiet serial now few past
    → at ≤ now → stamp ≤ few + 1 → length list.items * list.block_length ≤ 4096 → Each IsBlock list.items
    → Quiet serial now (few + 1) (deed settings 0 past (entry_of 0 stamp seq actor at (Act.Write lba list)) ∷ past)
after-write serial now few stamp seq lba list actor at past q early low size blocks =
    let e : Entry = entry_of 0 stamp seq actor at (Act.Write lba list) in
    let same : serial + 0 ≡ serial = omega arith in
    subst (λ n. Quiet n now (few + 1) (deed settings 0 past e ∷ past)) same
    (still-quiet 0 serial now few 0 past e q early low refl refl refl size (paired-sized (row lba (length list.items)) list.items blocks))

written : (u : UnitConfig) (holds : ℕ → Held) (lba : ℕ) (items : List Held) → nat_lt u.blocks (lba + length items) ≡ false
    → nat_lt u.quota (mapped_with u holds (put_at lba items)) ≡ false → answer_write u holds lba items ≡ Answer.Done
written u holds lba items inside quota = rw (inside, quota) refl

pub writes : (serial now few lba : ℕ) (list : HeldBlocks) (actor : Actor) (at : ℕ) (past : List Deed) → Quiet serial now few past → lba + length list.items ≤ 1_048_576
    → answer_after settings 0 past actor at (Act.Write lba list) ≡ Answer.Done
writes serial now few lba list actor at past q low =
    let free = unbarred serial now few past actor true q.kept in
    let inside : nat_lt 1_048_576 (lba + length list.items) ≡ false = grind (arith, nat_tests) in
    let quota = within-quota 0 (held past) (put_at lba list.items) refl in
    ap (λ t. if t then Answer.Conflict else answer_write (unit_of settings 0) (held past) lba list.items) free
    ∙ written (unit_of settings 0) (held past) lba list.items inside quota

-- ---- a Populate

-- a Populate makes the token of the next serial
pub populates : (serial now few lba id at timeout : ℕ) (actor : Actor) (past : List Deed) → Quiet serial now few past → serial < 2 ^ 48 → lba + 8 ≤ 1_048_576
    → answer_after settings 0 past actor at (Act.Populate id timeout (eight lba)) ≡ Answer.Made (length (tokens past))
populates serial now few lba id at timeout actor past q few_made low =
    let free = unbarred serial now few past actor false q.kept in
    let idle = not-busy past actor id q.idle in
    let within = eight-within 0 lba refl low in
    let more : nat_le (2 ^ 48) (length (tokens past)) ≡ false = let m = q.kept.made in grind (arith, nat_tests) in
    rw (free, idle, within, more) refl

-- the token that it makes
abbrev pub new_token : List Deed → ℕ → ℕ → ℕ → Token
new_token past at timeout lba =
    record { serial = length (tokens past); ranges = eight lba; timeout = timeout; before = past; last_use = at; fate = Live }

get-behind : {X : Type 0} (xs : List X) (x : X) → slice_get (xs ++ x ∷ []) (length xs) ≡ Some x
get-behind [] x = refl
get-behind (y ∷ xs) x = get-behind xs x

length-map : {X Y : Type 0} (f : X → Y) (xs : List X) → length (map f xs) ≡ length xs
length-map f [] = refl
length-map f (x ∷ xs) = ap suc (length-map f xs)

-- the last of the tokens is the new one
pub record IsMade (serial now few : ℕ) (past : List Deed) (t : Token) : Type 0 where
  pub quiet : Quiet (serial + 1) now few past
  pub there : slice_get (tokens past) serial ≡ Some t

pub after-populate : (serial now few stamp seq at id timeout lba : ℕ) (actor : Actor) (past : List Deed) → Quiet serial now few past
    → at ≤ now → stamp ≤ few + 1 → serial < 2 ^ 48 → lba + 8 ≤ 1_048_576
    → IsMade serial now (few + 1) (deed settings 0 past (entry_of 0 stamp seq actor at (Act.Populate id timeout (eight lba))) ∷ past)
    (new_token past (max at (moment past)) timeout lba)
after-populate serial now few stamp seq at id timeout lba actor past q early low few_made within =
    let e : Entry = entry_of 0 stamp seq actor at (Act.Populate id timeout (eight lba)) in
    let d : Deed = deed settings 0 past e in
    let told : is_answered d ≡ true = ap (λ a. not (is_refusal a)) (populates serial now few lba id at timeout actor past q few_made within) in
    let t : Token = new_token past (max at (moment past)) timeout lba in
    let new : made_token d past (length (tokens past)) e.act ≡ t ∷ [] = rw told refl in
    let none : filter is_running (made_by d) ≡ [] = go (makes_operation d) in
    let all : tokens (d ∷ past) ≡ map (token_after d (tokens past)) (tokens past) ++ t ∷ [] = ap (λ l. map (token_after d (tokens past)) (tokens past) ++ l) new in
    let place : length (map (token_after d (tokens past)) (tokens past)) ≡ serial = length-map (token_after d (tokens past)) (tokens past) ∙ q.kept.made in
    record {
      quiet = still-quiet 0 serial now few 1 past e q early low none (ap length new) refl (omega arith) tt;
      there = ap (λ ts. slice_get ts serial) all ∙ ap (slice_get (map (token_after d (tokens past)) (tokens past) ++ t ∷ [])) (sym place)
          ∙ get-behind (map (token_after d (tokens past)) (tokens past)) t;
    }
  where
    go : (b : Bool) → filter is_running (if b then made_operation (deed settings 0 past (entry_of 0 stamp seq actor at (Act.Populate id timeout (eight lba)))) ∷ [] else []) ≡ []
    go true = refl
    go false = refl

-- ---- a Redeem

pub after-redeem : (serial now few stamp seq target : ℕ) (text : List ℕ) (actor : Actor) (at : ℕ) (past : List Deed) → Quiet serial now few past
    → at ≤ now → stamp ≤ few + 1
    → Quiet serial now (few + 1) (deed settings 0 past (entry_of 0 stamp seq actor at (Act.Redeem text target)) ∷ past)
after-redeem serial now few stamp seq target text actor at past q early low =
    let e : Entry = entry_of 0 stamp seq actor at (Act.Redeem text target) in
    let same : serial + 0 ≡ serial = omega arith in
    subst (λ n. Quiet n now (few + 1) (deed settings 0 past e ∷ past)) same (still-quiet 0 serial now few 0 past e q early low refl refl refl (omega arith) tt)

-- a Redeem is answered the rod of a live token whose text it brings
pub redeems : (serial now : ℕ) (text : List ℕ) (past : List Deed) (t : Token)
    → slice_get (tokens past) serial ≡ Some t → serial_of text ≡ serial
    → bytes_eq text (token_text settings 0 t.serial (total t.ranges)) ≡ true → t.fate ≡ Live → is_over now t ≡ false
    → redeemed settings 0 now text 1 (named_token past text) ≡ Answer.Rod (rod (unit_of settings 0) t)
redeems serial now text past t there names same live time =
    let found : named_token past text ≡ Some t = ap (slice_get (tokens past)) names ∙ there in
    ap (redeemed settings 0 now text 1) found ∙ rw (same, live, time) refl
