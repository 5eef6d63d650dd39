-- One round of a generated trace, and all of them: each act has room, and each reply is GOOD
use Rattle.std.proofs.Common.{◌≡◌, ℕ, zero, suc, ◌+◌, ◌*◌, ◌/◌, ◌^◌, ◌<◌, ◌≤◌, List, [], ◌∷◌, ◌++◌, length, flat_map, map, take, true, false, refl, sym, ap, ◌∙◌, subst, arith, length-append, length-take, inl, inr}
use Rattle.std.specs.Prelude.{Some, max, min, nat_lt, slice_get}
use Rattle.std.specs.Str.{bytes_eq}
use Rattle.std.proofs.lemmas.Bool.Decides.{nat_tests}
use Rattle.cm_base.specs.Units.{unit_of}
use Rattle.lba_ranges.specs.Denoted.{blocks_of, total}
use Rattle.lba_ranges.specs.HeldBlocks.{HeldBlocks, blocks_bytes, cut_into}
use Rattle.rod_token.specs.TokenText.{token_text, serial_of}
use Rattle.scsi_cdb.specs.declared.cdb.Cdb.{Cdb}
use Rattle.block_params.specs.ListsWritten.{populate_written, write_token_written}
use Rattle.cm_frame.specs.declared.frame.Request.{Request}
use Rattle.cm_frame.specs.declared.item.TraceItem.{TraceItem}
use Rattle.cm_history.specs.declared.act.Act.{Act}
use Rattle.cm_history.specs.declared.act.Actor.{Actor}
use Rattle.cm_history.specs.declared.act.Entry.{Entry}
use Rattle.cm_history.specs.declared.answer.Answer.{Answer}
use Rattle.cm_history.specs.declared.answer.OpState.{OpState}
use Rattle.cm_history.specs.Answers.{answer_after, deed, report_of}
use Rattle.cm_history.specs.Blocks.{held}
use Rattle.cm_history.specs.Deeds.{Deed, moment}
use Rattle.cm_history.specs.History.{past_of}
use Rattle.cm_history.specs.Members.{Each}
use Rattle.cm_history.specs.Room.{bytes_in, is_full, need, pieces}
use Rattle.cm_history.specs.Tokens.{Token, Live, tokens, rod, is_over}
use Rattle.cm_history.proofs.PublicLaws.{past-is, past_of-mine, past_of-other}
use Rattle.cmd_program.specs.AnswerBytes.{report_token_bytes}
use Rattle.cmd_program.specs.SingleActs.{blocks_in}
use Rattle.cmd_program.specs.Judging.{step}
use Rattle.generator.specs.Settings.{count_from, settings, unit}
use Rattle.generator.specs.Rounds.{initiator, source, target, written, round_items}
use Rattle.trace_replay.specs.ReplayState.{ReplayState, AddressedReply, new_entry}
use Rattle.round_counts.proofs.Sized.{IsBlock, cut-sized, held-sized, take-sized}
use Rattle.round_counts.proofs.Told.{AreGood, good-more, good_to, none-told}
use Rattle.round_counts.proofs.Quiet.{Quiet, eight, has-room, none-free, none-yet, weaker}
use Rattle.round_counts.proofs.Source.{after-populate, after-redeem, after-write, new_token, populates, redeems, writes}
use Rattle.round_counts.proofs.Target.{Writes, Wrote, after-look, after-pump, after-start, pump-free, pump-need, pumps-told, read-bytes, reads, report-bytes, reports, seen, starts}
use Rattle.round_counts.proofs.Commands.{Goes, IsDone, between, one-act, pumps, two-acts, with_act}
use Rattle.round_counts.proofs.Requests.{asks-information, asks-populate, asks-read, asks-redeem, asks-write, request, same-text, start_of, token-serial}

-- ---- the history between two acts

-- how the two units stand, and how many entries there are
record Both (S T : List Deed → Type 0) (few : ℕ) (entries : List Entry) : Type 0 where
  source : S (past_of settings 0 entries)
  target : T (past_of settings 1 entries)
  count : length entries ≡ few

one-more : (entries : List Entry) (e : Entry) (few : ℕ) → length entries ≡ few → length (entries ++ e ∷ []) ≡ few + 1
one-more entries e few is = length-append entries (e ∷ []) ∙ ap (λ n. n + 1) is

-- after an act of the unit of the tokens
on-source : (S T R U : List Deed → Type 0) (few : ℕ) (entries : List Entry) (actor : Actor) (m : ℕ) (act : Act) → Both S T few entries
    → R (deed settings 0 (past_of settings 0 entries) (new_entry entries actor 0 m act) ∷ past_of settings 0 entries)
    → ((past : List Deed) → T past → U past) → Both R U (few + 1) (with_act entries actor 0 m act)
on-source S T R U few entries actor m act b next keep = record {
  source = subst R (sym (past_of-mine settings 0 entries (new_entry entries actor 0 m act) refl)) next;
  target = subst U (sym (past_of-other settings 1 entries (new_entry entries actor 0 m act) (λ h. omega (arith, h)))) (keep (past_of settings 1 entries) b.target);
  count = one-more entries (new_entry entries actor 0 m act) few b.count;
}

-- after an act of the other unit
on-target : (S T R U : List Deed → Type 0) (few : ℕ) (entries : List Entry) (actor : Actor) (m : ℕ) (act : Act) → Both S T few entries
    → U (deed settings 1 (past_of settings 1 entries) (new_entry entries actor 1 m act) ∷ past_of settings 1 entries)
    → ((past : List Deed) → S past → R past) → Both R U (few + 1) (with_act entries actor 1 m act)
on-target S T R U few entries actor m act b next keep = record {
  source = subst R (sym (past_of-other settings 0 entries (new_entry entries actor 1 m act) (λ h. omega (arith, h)))) (keep (past_of settings 0 entries) b.source);
  target = subst U (sym (past_of-mine settings 1 entries (new_entry entries actor 1 m act) refl)) next;
  count = one-more entries (new_entry entries actor 1 m act) few b.count;
}

later : (serial now few after more : ℕ) (past : List Deed) → now ≤ after → few ≤ more → Quiet serial now few past → Quiet serial after more past
later serial now few after more past a b q = record { kept = weaker serial now few after more past q.kept a b; idle = q.idle }

-- a quiet unit has room for an act of one entry
quiet-room : (u serial now few : ℕ) (past : List Deed) (actor : Actor) (stamp : ℕ) (act : Act) → unit_of settings u ≡ unit → Quiet serial now few past → few < 60_000
    → stamp ≡ few → need past actor act ≤ 10 → bytes_in act ≤ 4096 → is_full (unit_of settings u) 0 past actor stamp act ≡ false
quiet-room u serial now few past actor stamp act same q small is needs size =
    has-room u serial now few 0 past actor stamp act same q.kept small (omega (arith, is)) (none-free past q.idle) (omega (arith, needs)) size

-- ---- what is written

block-count : (bytes : List ℕ) → length bytes ≡ 4096 → length (blocks_in 512 bytes).items ≡ 8
block-count bytes whole = ap (λ n. length (cut_into 512 (n / 512) bytes)) whole

blocks-sized : (bytes : List ℕ) → length bytes ≡ 4096 → Each IsBlock (blocks_in 512 bytes).items
blocks-sized bytes whole = subst (λ n. Each IsBlock (cut_into 512 (n / 512) bytes)) (sym whole) (cut-sized 8 bytes whole)

-- ---- the token of a round

-- a token of this serial, of eight blocks, may be redeemed
record HasToken (serial few lba : ℕ) (past : List Deed) : Type 0 where
  quiet : Quiet (serial + 1) serial few past
  token : Token
  there : slice_get (tokens past) serial ≡ Some token
  number : token.serial ≡ serial
  ranges : token.ranges ≡ eight lba
  live : token.fate ≡ Live
  fresh : is_over (max serial (moment past)) token ≡ false
  blocks : Each IsBlock (rod (unit_of settings 0) token).items

makes-token : (serial few stamp seq id lba : ℕ) (actor : Actor) (past : List Deed) → Quiet serial serial few past → stamp ≤ few + 1 → serial < 2 ^ 48 → lba + 8 ≤ 1_048_576
    → HasToken serial (few + 1) lba (deed settings 0 past (record { stamp = stamp; unit = 0; actor = actor; seq = seq; moment = serial; act = Act.Populate id 300 (eight lba) }) ∷ past)
makes-token serial few stamp seq id lba actor past q early low within =
    let made = after-populate serial serial few stamp seq serial id 300 lba actor past q (omega arith) early low within in
    record {
      quiet = made.quiet;
      token = new_token past (max serial (moment past)) 300 lba;
      there = made.there;
      number = q.kept.made;
      ranges = refl;
      live = refl;
      fresh = not-over (max serial (moment past)) (moment past) made.quiet.kept.moment;
      blocks = held-sized past (blocks_of (eight lba)) q.kept.sized;
    }
  where
    not-over : (now before : ℕ) → now ≤ serial → nat_lt (max serial before + 300) (max serial now) ≡ false
    not-over now before late = grind (arith, nat_tests)

-- the rod of its token
abbrev rod_of : (serial few lba : ℕ) (past : List Deed) → HasToken serial few lba past → HeldBlocks
rod_of serial few lba past h = rod (unit_of settings 0) h.token

eight-blocks : (serial few lba : ℕ) (past : List Deed) (h : HasToken serial few lba past) → length (rod_of serial few lba past h).items ≡ 8
eight-blocks serial few lba past h = ap (λ rs. length (map (held h.token.before) (blocks_of rs))) h.ranges

is-redeemed : (serial few lba : ℕ) (past : List Deed) (actor : Actor) (text : List ℕ) (h : HasToken serial few lba past)
    → serial_of text ≡ serial → bytes_eq text (token_text settings 0 serial 8) ≡ true
    → answer_after settings 0 past actor serial (Act.Redeem text 1) ≡ Answer.Rod (rod_of serial few lba past h)
is-redeemed serial few lba past actor text h names same =
    let right : bytes_eq text (token_text settings 0 h.token.serial (total h.token.ranges)) ≡ true =
    ap (λ n. bytes_eq text (token_text settings 0 n (total h.token.ranges))) h.number
    ∙ ap (λ rs. bytes_eq text (token_text settings 0 serial (total rs))) h.ranges ∙ same in
    redeems serial (max serial (moment past)) text past h.token h.there names right h.live h.fresh

-- ---- one round

module _ (k few i lba to : ℕ) (out : List ℕ) (low : k < 4096) (small : few < 50_000) (within : lba + 8 ≤ 1_048_576) (inside : to + 8 ≤ 1_048_576)
    (whole : length out ≡ 4096) where
  abbrev actor : Actor
  actor = Actor.Nexus i

  abbrev text : List ℕ
  text = token_text settings 0 k 8

  abbrev writing : Act
  writing = Act.Write lba (blocks_in 512 out)

  abbrev populating : Act
  populating = Act.Populate k 300 (eight lba)

  abbrev Source : ℕ → ℕ → List Deed → Type 0
  Source serial n past = Quiet serial k n past

  abbrev Target : ℕ → List Deed → Type 0
  Target n past = Quiet 0 k n past

  keep-target : (n : ℕ) (past : List Deed) → Target n past → Target (n + 1) past
  keep-target n past q = later 0 k n k (n + 1) past (omega arith) (omega arith) q

  keep-source : (serial n : ℕ) (past : List Deed) → Source serial n past → Source serial (n + 1) past
  keep-source serial n past q = later serial k n k (n + 1) past (omega arith) (omega arith) q

  -- the WRITE
  wrote-source : (entries : List Entry) → Both (Source k few) (Target few) few entries → Both (Source k (few + 1)) (Target (few + 1)) (few + 1) (with_act entries actor 0 k writing)
  wrote-source entries b =
      on-source (Source k few) (Target few) (Source k (few + 1)) (Target (few + 1)) few entries actor k writing b
      (after-write k k few (length entries + 1) (new_entry entries actor 0 k writing).seq lba (blocks_in 512 out) actor k (past_of settings 0 entries) b.source (omega arith) (omega (arith, b.count))
      (let n = block-count out whole in omega (arith, n)) (blocks-sized out whole)) (keep-target few)

  does-write : (entries : List Entry) → Both (Source k few) (Target few) few entries → IsDone settings entries actor 0 k writing Answer.Done
  does-write entries b = record {
    room = quiet-room 0 k k few (past_of settings 0 entries) actor (length entries) writing refl b.source (omega (arith, small)) b.count (omega arith) (let n = block-count out whole in omega (arith, n));
    told = writes k k few lba (blocks_in 512 out) actor k (past_of settings 0 entries) b.source (let n = block-count out whole in omega (arith, n, within));
  }

  -- the POPULATE TOKEN
  made-source : (entries : List Entry) → Both (Source k (few + 1)) (Target (few + 1)) (few + 1) entries
      → Both (HasToken k (few + 1 + 1) lba) (Target (few + 1 + 1)) (few + 1 + 1) (with_act entries actor 0 k populating)
  made-source entries b =
      on-source (Source k (few + 1)) (Target (few + 1)) (HasToken k (few + 1 + 1) lba) (Target (few + 1 + 1)) (few + 1) entries actor k populating b
      (makes-token k (few + 1) (length entries + 1) (new_entry entries actor 0 k populating).seq k lba actor (past_of settings 0 entries) b.source (omega (arith, b.count)) (omega (arith, low)) within)
      (keep-target (few + 1))

  does-populate : (entries : List Entry) → Both (Source k (few + 1)) (Target (few + 1)) (few + 1) entries
      → IsDone settings entries actor 0 k populating (Answer.Made (length (tokens (past_of settings 0 entries))))
  does-populate entries b = record {
    room = quiet-room 0 k k (few + 1) (past_of settings 0 entries) actor (length entries) populating refl b.source (omega (arith, small)) b.count (omega arith) (omega arith);
    told = populates k k (few + 1) lba k k 300 actor (past_of settings 0 entries) b.source (omega (arith, low)) within;
  }

  -- the Redeem
  used-source : (entries : List Entry) → Both (HasToken k (few + 1 + 1) lba) (Target (few + 1 + 1)) (few + 1 + 1) entries
      → Both (Source (k + 1) (few + 1 + 1 + 1)) (Target (few + 1 + 1 + 1)) (few + 1 + 1 + 1) (with_act entries actor 0 k (Act.Redeem text 1))
  used-source entries b =
      on-source (HasToken k (few + 1 + 1) lba) (Target (few + 1 + 1)) (Source (k + 1) (few + 1 + 1 + 1)) (Target (few + 1 + 1 + 1)) (few + 1 + 1) entries actor k (Act.Redeem text 1) b
      (after-redeem (k + 1) k (few + 1 + 1) (length entries + 1) (new_entry entries actor 0 k (Act.Redeem text 1)).seq 1 text actor k (past_of settings 0 entries) b.source.quiet (omega arith) (omega (arith, b.count)))
      (keep-target (few + 1 + 1))

  does-redeem : (entries : List Entry) (b : Both (HasToken k (few + 1 + 1) lba) (Target (few + 1 + 1)) (few + 1 + 1) entries)
      → IsDone settings entries actor 0 k (Act.Redeem text 1) (Answer.Rod (rod_of k (few + 1 + 1) lba (past_of settings 0 entries) b.source))
  does-redeem entries b = record {
    room = quiet-room 0 (k + 1) k (few + 1 + 1) (past_of settings 0 entries) actor (length entries) (Act.Redeem text 1) refl b.source.quiet (omega (arith, small)) b.count (omega arith) (omega arith);
    told = is-redeemed k (few + 1 + 1) lba (past_of settings 0 entries) actor text b.source (token-serial k (omega (arith, low))) (same-text text);
  }

  -- the Start, of a rod of eight blocks
  abbrev part : HeldBlocks → HeldBlocks
  part rod = record rod { items = take 8 rod.items }

  part-length : (rod : HeldBlocks) → length rod.items ≡ 8 → length (part rod).items ≡ 8
  part-length rod is = length-take 8 rod.items ∙ ap (min 8) is

  abbrev starting : HeldBlocks → Act
  starting rod = Act.Start k true (eight to) (part rod)

  module _ (rod : HeldBlocks) (eight_items : length rod.items ≡ 8) (sized : Each IsBlock rod.items) where
    started-target : (entries : List Entry) → Both (Source (k + 1) (few + 1 + 1 + 1)) (Target (few + 1 + 1 + 1)) (few + 1 + 1 + 1) entries
        → Both (Source (k + 1) (few + 1 + 1 + 1 + 1)) (Writes 0 k (few + 1 + 1 + 1 + 1) i k to (part rod)) (few + 1 + 1 + 1 + 1) (with_act entries actor 1 k (starting rod))
    started-target entries b =
        on-target (Source (k + 1) (few + 1 + 1 + 1)) (Target (few + 1 + 1 + 1)) (Source (k + 1) (few + 1 + 1 + 1 + 1)) (Writes 0 k (few + 1 + 1 + 1 + 1) i k to (part rod)) (few + 1 + 1 + 1) entries actor k (starting rod) b
        (after-start 0 k (few + 1 + 1 + 1) (length entries + 1) (new_entry entries actor 1 k (starting rod)).seq i k to (part rod) k (past_of settings 1 entries) b.target (omega arith) (omega (arith, b.count)) inside
        (part-length rod eight_items) (take-sized 8 rod.items sized)) (keep-source (k + 1) (few + 1 + 1 + 1))

    does-start : (entries : List Entry) → Both (Source (k + 1) (few + 1 + 1 + 1)) (Target (few + 1 + 1 + 1)) (few + 1 + 1 + 1) entries
        → IsDone settings entries actor 1 k (starting rod) (Answer.Progress OpState.Running 0)
    does-start entries b = record {
      room = quiet-room 1 0 k (few + 1 + 1 + 1) (past_of settings 1 entries) actor (length entries) (starting rod) refl b.target (omega (arith, small)) b.count
          (let n : 2 + pieces (length (part rod).items) ≡ 3 = ap (λ n. 2 + pieces n) (part-length rod eight_items) in omega (arith, n)) (omega arith);
      told = starts 0 k (few + 1 + 1 + 1) k to (part rod) actor k (past_of settings 1 entries) b.target inside (part-length rod eight_items);
    }

    -- the pump
    pumped-target : (entries : List Entry) → Both (Source (k + 1) (few + 1 + 1 + 1 + 1)) (Writes 0 k (few + 1 + 1 + 1 + 1) i k to (part rod)) (few + 1 + 1 + 1 + 1) entries
        → Both (Source (k + 1) (few + 1 + 1 + 1 + 1 + 1)) (Wrote 0 k (few + 1 + 1 + 1 + 1 + 1) i k) (few + 1 + 1 + 1 + 1 + 1) (with_act entries (Actor.Pump 1) 1 k Act.Pump)
    pumped-target entries b =
        on-target (Source (k + 1) (few + 1 + 1 + 1 + 1)) (Writes 0 k (few + 1 + 1 + 1 + 1) i k to (part rod)) (Source (k + 1) (few + 1 + 1 + 1 + 1 + 1)) (Wrote 0 k (few + 1 + 1 + 1 + 1 + 1) i k) (few + 1 + 1 + 1 + 1) entries (Actor.Pump 1) k Act.Pump b
        (after-pump 0 k (few + 1 + 1 + 1 + 1) i k to (part rod) (past_of settings 1 entries) b.target (past-is settings 1 entries) (length entries + 1) (new_entry entries (Actor.Pump 1) 1 k Act.Pump).seq k (omega arith) (omega (arith, b.count)))
        (keep-source (k + 1) (few + 1 + 1 + 1 + 1))

    does-pump : (entries : List Entry) → Both (Source (k + 1) (few + 1 + 1 + 1 + 1)) (Writes 0 k (few + 1 + 1 + 1 + 1) i k to (part rod)) (few + 1 + 1 + 1 + 1) entries
        → IsDone settings entries (Actor.Pump 1) 1 k Act.Pump (Answer.Progress OpState.Done 8)
    does-pump entries b = record {
      room =
          let free = pump-free 0 k (few + 1 + 1 + 1 + 1) i k to (part rod) (past_of settings 1 entries) b.target in
          let needs = pump-need 0 k (few + 1 + 1 + 1 + 1) i k to (part rod) (past_of settings 1 entries) b.target in
          has-room 1 0 k (few + 1 + 1 + 1 + 1) 2 (past_of settings 1 entries) (Actor.Pump 1) (length entries) Act.Pump refl b.target.keeps (omega (arith, small)) (omega (arith, b.count)) free (omega (arith, needs)) (omega arith);
      told = pumps-told 0 k (few + 1 + 1 + 1 + 1) i k to (part rod) (past_of settings 1 entries) b.target k;
    }

  -- what became of it is asked
  told-target : (entries : List Entry) → Both (Source (k + 1) (few + 1 + 1 + 1 + 1 + 1)) (Wrote 0 k (few + 1 + 1 + 1 + 1 + 1) i k) (few + 1 + 1 + 1 + 1 + 1) entries
      → Both (Source (k + 1) (few + 1 + 1 + 1 + 1 + 1 + 1)) (Target (few + 1 + 1 + 1 + 1 + 1 + 1)) (few + 1 + 1 + 1 + 1 + 1 + 1) (with_act entries actor 1 k (Act.Report k))
  told-target entries b =
      on-target (Source (k + 1) (few + 1 + 1 + 1 + 1 + 1)) (Wrote 0 k (few + 1 + 1 + 1 + 1 + 1) i k) (Source (k + 1) (few + 1 + 1 + 1 + 1 + 1 + 1)) (Target (few + 1 + 1 + 1 + 1 + 1 + 1)) (few + 1 + 1 + 1 + 1 + 1) entries actor k (Act.Report k) b
      (after-look 0 k (few + 1 + 1 + 1 + 1 + 1) (length entries + 1) (new_entry entries actor 1 k (Act.Report k)).seq k actor (Act.Report k) (past_of settings 1 entries) b.target.quiet (omega arith) (omega (arith, b.count)) (inl (k, refl)))
      (keep-source (k + 1) (few + 1 + 1 + 1 + 1 + 1))

  does-report : (entries : List Entry) (b : Both (Source (k + 1) (few + 1 + 1 + 1 + 1 + 1)) (Wrote 0 k (few + 1 + 1 + 1 + 1 + 1) i k) (few + 1 + 1 + 1 + 1 + 1) entries)
      → IsDone settings entries actor 1 k (Act.Report k) (Answer.Report (report_of b.target.o))
  does-report entries b = record {
    room = quiet-room 1 0 k (few + 1 + 1 + 1 + 1 + 1) (past_of settings 1 entries) actor (length entries) (Act.Report k) refl b.target.quiet (omega (arith, small)) b.count (omega arith) (omega arith);
    told = reports 0 k (few + 1 + 1 + 1 + 1 + 1) i k k (past_of settings 1 entries) b.target (past-is settings 1 entries);
  }

  -- what was written is read
  seen-target : (entries : List Entry) → Both (Source (k + 1) (few + 1 + 1 + 1 + 1 + 1 + 1)) (Target (few + 1 + 1 + 1 + 1 + 1 + 1)) (few + 1 + 1 + 1 + 1 + 1 + 1) entries
      → Both (Source (k + 1) (few + 1 + 1 + 1 + 1 + 1 + 1 + 1)) (Target (few + 1 + 1 + 1 + 1 + 1 + 1 + 1)) (few + 1 + 1 + 1 + 1 + 1 + 1 + 1) (with_act entries actor 1 k (Act.Read to 8))
  seen-target entries b =
      on-target (Source (k + 1) (few + 1 + 1 + 1 + 1 + 1 + 1)) (Target (few + 1 + 1 + 1 + 1 + 1 + 1)) (Source (k + 1) (few + 1 + 1 + 1 + 1 + 1 + 1 + 1)) (Target (few + 1 + 1 + 1 + 1 + 1 + 1 + 1)) (few + 1 + 1 + 1 + 1 + 1 + 1) entries actor k (Act.Read to 8) b
      (after-look 0 k (few + 1 + 1 + 1 + 1 + 1 + 1) (length entries + 1) (new_entry entries actor 1 k (Act.Read to 8)).seq k actor (Act.Read to 8) (past_of settings 1 entries) b.target (omega arith) (omega (arith, b.count)) (inr (to, refl)))
      (keep-source (k + 1) (few + 1 + 1 + 1 + 1 + 1 + 1))

  does-read : (entries : List Entry) → Both (Source (k + 1) (few + 1 + 1 + 1 + 1 + 1 + 1)) (Target (few + 1 + 1 + 1 + 1 + 1 + 1)) (few + 1 + 1 + 1 + 1 + 1 + 1) entries
      → IsDone settings entries actor 1 k (Act.Read to 8) (Answer.Blocks (seen (past_of settings 1 entries) to))
  does-read entries b = record {
    room = quiet-room 1 0 k (few + 1 + 1 + 1 + 1 + 1 + 1) (past_of settings 1 entries) actor (length entries) (Act.Read to 8) refl b.target (omega (arith, small)) b.count (omega arith) (omega arith);
    told = reads 0 k (few + 1 + 1 + 1 + 1 + 1 + 1) to k actor (past_of settings 1 entries) b.target inside;
  }

-- ---- the items of a round

abbrev writes_of : ℕ → List ℕ → Request
writes_of lba out = request 0 (Cdb.Write lba 8) out

abbrev populates_of : ℕ → ℕ → Request
populates_of k lba = request 0 (Cdb.PopulateToken k 32) (populate_written (record { timeout = 0; ranges = eight lba }))

abbrev redeems_of : ℕ → ℕ → Request
redeems_of k to = request 1 (Cdb.WriteUsingToken k 552) (write_token_written (record { immed = true; delete = false; offset = 0; token = token_text settings 0 k 8; ranges = eight to }))

abbrev reports_of : ℕ → Request
reports_of k = request 1 (Cdb.TokenInformation k 1024) []

abbrev reads_of : ℕ → Request
reads_of to = request 1 (Cdb.Read to 8) []

-- the twelve items, from the last on
abbrev reading : ℕ → ℕ → ℕ → List TraceItem → List TraceItem
reading i k to xs = TraceItem.Begin i k (reads_of to) ∷ TraceItem.Run i k ∷ xs

abbrev looking : ℕ → ℕ → ℕ → List TraceItem → List TraceItem
looking i k to xs = TraceItem.Begin i k (reports_of k) ∷ TraceItem.Run i k ∷ reading i k to xs

abbrev pumping : ℕ → ℕ → ℕ → List TraceItem → List TraceItem
pumping i k to xs = TraceItem.Pump 1 k ∷ looking i k to xs

abbrev redeeming : ℕ → ℕ → ℕ → List TraceItem → List TraceItem
redeeming i k to xs = TraceItem.Begin i k (redeems_of k to) ∷ TraceItem.Run i k ∷ TraceItem.Run i k ∷ pumping i k to xs

abbrev making : ℕ → ℕ → ℕ → ℕ → List TraceItem → List TraceItem
making i k lba to xs = TraceItem.Begin i k (populates_of k lba) ∷ TraceItem.Run i k ∷ redeeming i k to xs

abbrev items_of : ℕ → ℕ → ℕ → ℕ → List ℕ → List TraceItem → List TraceItem
items_of i k lba to out xs = TraceItem.Begin i k (writes_of lba out) ∷ TraceItem.Run i k ∷ making i k lba to xs

-- what comes behind a round goes on from where it ends
abbrev GoesBehind : (ReplayState → Type 0) → ℕ → ℕ → ℕ → ℕ → ℕ → List TraceItem → Type 0
GoesBehind P serial few n many size xs =
    (entries : List Entry) (replies : List AddressedReply) → Both (λ past. Quiet serial serial few past) (λ past. Quiet 0 serial few past) few entries → AreGood many size replies
    → Goes step settings P (between n entries replies) xs

round-goes : (P : ReplayState → Type 0) (k few i n many size lba to : ℕ) (out : List ℕ) (entries : List Entry) (replies : List AddressedReply) (xs : List TraceItem)
    → k < 4096 → few < 50_000 → lba + 8 ≤ 1_048_576 → to + 8 ≤ 1_048_576 → length out ≡ 4096
    → Both (λ past. Quiet k k few past) (λ past. Quiet 0 k few past) few entries → AreGood many size replies
    → GoesBehind P (k + 1) (few + 7) (n + 12) (many + 5) (size + 4182) xs
    → Goes step settings P (between n entries replies) (items_of i k lba to out xs)
round-goes P k few i n many size lba to out entries replies xs low small within inside whole b good behind =
    let actor : Actor = Actor.Nexus i in
    let wrote = with_act entries actor 0 k (Act.Write lba (blocks_in 512 out)) in
    let b1 = wrote-source k few i lba to out low small within inside whole entries b in
    let r1 : List AddressedReply = replies ++ good_to i [] ∷ [] in
    let g1 = good-more many size 0 i [] replies refl good in
    let made = with_act wrote actor 0 k (Act.Populate k 300 (eight lba)) in
    let b2 = made-source k few i lba to out low small within inside whole wrote b1 in
    let r2 : List AddressedReply = r1 ++ good_to i [] ∷ [] in
    let g2 = good-more (many + 1) (size + 10) 0 i [] r1 refl g1 in
    let rod = rod_of k (few + 1 + 1) lba (past_of settings 0 made) b2.source in
    let count = eight-blocks k (few + 1 + 1) lba (past_of settings 0 made) b2.source in
    let sized = b2.source.blocks in
    let used = with_act made actor 0 k (Act.Redeem (token_text settings 0 k 8) 1) in
    let b3 = used-source k few i lba to out low small within inside whole made b2 in
    let start : Act = starting k few i lba to out low small within inside whole rod in
    let begun = with_act used actor 1 k start in
    let b4 = started-target k few i lba to out low small within inside whole rod count sized used b3 in
    let r3 : List AddressedReply = r2 ++ good_to i [] ∷ [] in
    let g3 = good-more (many + 1 + 1) (size + 10 + 10) 0 i [] r2 refl g2 in
    let pumped = with_act begun (Actor.Pump 1) 1 k Act.Pump in
    let b5 = pumped-target k few i lba to out low small within inside whole rod count sized begun b4 in
    let told = with_act pumped actor 1 k (Act.Report k) in
    let b6 = told-target k few i lba to out low small within inside whole pumped b5 in
    let report = take 1024 (report_token_bytes settings 1 (report_of b5.target.o)) in
    let r4 : List AddressedReply = r3 ++ good_to i report ∷ [] in
    let g4 = good-more (many + 1 + 1 + 1) (size + 10 + 10 + 10) 36 i report r3 (report-bytes 0 k (few + 1 + 1 + 1 + 1 + 1) i k (past_of settings 1 pumped) b5.target) g3 in
    let all = with_act told actor 1 k (Act.Read to 8) in
    let b7 = seen-target k few i lba to out low small within inside whole told b6 in
    let bytes = blocks_bytes (seen (past_of settings 1 told) to) in
    let r5 : List AddressedReply = r4 ++ good_to i bytes ∷ [] in
    let g5 = good-more (many + 1 + 1 + 1 + 1) (size + 10 + 10 + 10 + 46) 4096 i bytes r4 (read-bytes 0 k (few + 1 + 1 + 1 + 1 + 1 + 1) to (past_of settings 1 told) b6.target) g4 in
    let last : Goes step settings P (between (n + 12) all r5) xs =
    behind all r5 (record {
      source = later (k + 1) k (few + 1 + 1 + 1 + 1 + 1 + 1 + 1) (k + 1) (few + 7) (past_of settings 0 all) (omega arith) (omega arith) b7.source;
      target = later 0 k (few + 1 + 1 + 1 + 1 + 1 + 1 + 1) (k + 1) (few + 7) (past_of settings 1 all) (omega arith) (omega arith) b7.target;
      count = b7.count ∙ omega arith;
    }) (record { count = g5.count ∙ omega arith; good = g5.good ∙ omega arith; check = g5.check; busy = g5.busy; full = g5.full; bytes = g5.bytes ∙ omega arith }) in
    let end : n + 12 ≡ n + 2 + 2 + 3 + 1 + 2 + 2 = omega arith in
    one-act step settings P n entries replies i k (writes_of lba out) 0 (Act.Write lba (blocks_in 512 out)) _ Answer.Done [] (making i k lba to xs)
    (asks-write lba out (omega (arith, within)) whole) (does-write k few i lba to out low small within inside whole entries b) refl
    (one-act step settings P (n + 2) wrote r1 i k (populates_of k lba) 0 (Act.Populate k 300 (eight lba)) _ (Answer.Made (length (tokens (past_of settings 0 wrote)))) [] (redeeming i k to xs)
    (asks-populate k lba (omega (arith, low)) (omega (arith, within))) (does-populate k few i lba to out low small within inside whole wrote b1) refl
    (two-acts step settings P (n + 2 + 2) made r2 i k (redeems_of k to) (token_text settings 0 k 8) (start_of k to (token_text settings 0 k 8)) _ rod (Answer.Progress OpState.Running 0) [] (pumping i k to xs)
    (asks-redeem k to (omega (arith, low)) (omega (arith, inside))) count (does-redeem k few i lba to out low small within inside whole made b2)
    (does-start k few i lba to out low small within inside whole rod count sized used b3) refl
    (pumps step settings P (n + 2 + 2 + 3) begun r3 1 k (Answer.Progress OpState.Done 8) (looking i k to xs) refl (does-pump k few i lba to out low small within inside whole rod count sized begun b4)
    (one-act step settings P (n + 2 + 2 + 3 + 1) pumped r3 i k (reports_of k) 1 (Act.Report k) _ (Answer.Report (report_of b5.target.o)) report (reading i k to xs)
    (asks-information k (omega (arith, low))) (does-report k few i lba to out low small within inside whole pumped b5) refl
    (one-act step settings P (n + 2 + 2 + 3 + 1 + 2) told r4 i k (reads_of to) 1 (Act.Read to 8) _ (Answer.Blocks (seen (past_of settings 1 told) to)) bytes xs
    (asks-read to (omega (arith, inside))) (does-read k few i lba to out low small within inside whole told b6) refl
    (subst (λ m. Goes step settings P (between m all r5) xs) end last))))))

-- ---- all rounds

-- what so many rounds come to
pub record IsWhole (rounds : ℕ) (s : ReplayState) : Type 0 where
  pub items : s.items ≡ 12 * rounds
  pub entries : length s.entries ≡ 7 * rounds
  pub replies : AreGood (5 * rounds) (4182 * rounds) s.replies

rounds-go : (rounds first count n few many size : ℕ) (entries : List Entry) (replies : List AddressedReply) → first + count ≡ rounds → rounds ≤ 4096 → n ≡ 12 * first → few ≡ 7 * first → many ≡ 5 * first → size ≡ 4182 * first
    → Both (λ past. Quiet first first few past) (λ past. Quiet 0 first few past) few entries → AreGood many size replies
    → Goes step settings (IsWhole rounds) (between n entries replies) (flat_map round_items (count_from first count))
rounds-go rounds first zero n few many size entries replies sum most ns fews manys sizes b good = record {
  items = ns ∙ omega (arith, sum);
  entries = b.count ∙ omega (arith, sum, fews);
  replies = subst (λ k. AreGood (5 * k) (4182 * k) replies) all (subst (λ k. AreGood k (4182 * first) replies) manys (subst (λ k. AreGood many k replies) sizes good));
}
  where
    all : first ≡ rounds
    all = omega (arith, sum)
rounds-go rounds first (suc count) n few many size entries replies sum most ns fews manys sizes b good =
    round-goes (IsWhole rounds) first few (initiator first) n many size (source first).lba (target first).lba (written first) entries replies (flat_map round_items (count_from (suc first) count))
    (omega (arith, sum, most)) (omega (arith, sum, most, fews)) (omega arith) (omega (arith, sum, most)) refl b good
    (λ entries2 replies2 b2 good2.
    let next : first + 1 ≡ suc first = omega arith in
    rounds-go rounds (suc first) count (n + 12) (few + 7) (many + 5) (size + 4182) entries2 replies2 (omega (arith, sum)) most (omega (arith, ns)) (omega (arith, fews)) (omega (arith, manys)) (omega (arith, sizes))
    (subst (λ m. Both (λ past. Quiet m m (few + 7) past) (λ past. Quiet 0 m (few + 7) past) (few + 7) entries2) next b2) good2)

pub all-go : (rounds : ℕ) → rounds ≤ 4096 → Goes step settings (IsWhole rounds) (between 0 [] []) (flat_map round_items (count_from 0 rounds))
all-go rounds few =
    rounds-go rounds 0 rounds 0 0 0 0 [] [] (omega arith) few refl refl refl refl (record { source = none-yet; target = none-yet; count = refl }) none-told
