-- The unit that is written with the tokens of a generated trace: a write starts, its one piece is written, and it is told
use Rattle.std.proofs.Common.{◌≡◌, ℕ, ◌+◌, ◌-◌, ◌≤◌, List, [], ◌∷◌, ◌++◌, length, take, drop, map, Bool, true, false, refl, sym, ap, ◌∙◌, subst, arith, inl, inr, append-nil, length-take}
use Rattle.std.specs.Prelude.{Some, None, ◌==◌, ◌&&◌, ◌||◌, ◌⊎◌, cond, min, nat_le, nat_lt, not, filter, find, is_some, option_map, sum_by, if◌then◌else◌}
use Rattle.std.proofs.lemmas.Bool.Decides.{nat_tests}
use Rattle.std.proofs.lemmas.Bool.{eq-eqb}
use Rattle.cm_base.specs.declared.config.UnitConfig.{UnitConfig}
use Rattle.cm_base.specs.Units.{unit_of}
use Rattle.lba_ranges.specs.Denoted.{blocks_of, row}
use Rattle.lba_ranges.specs.HeldBlocks.{HeldBlocks, blocks_bytes}
use Rattle.lba_ranges.specs.Writings.{paired}
use Rattle.scsi_sense.specs.Codes.{insufficient_resources, lba_out_of_range, operation_in_progress, space_allocation_failed}
use Rattle.cm_history.specs.declared.act.Act.{Act}
use Rattle.cm_history.specs.declared.act.Actor.{Actor}
use Rattle.cm_history.specs.declared.act.Entry.{Entry}
use Rattle.cm_history.specs.declared.answer.Answer.{Answer}
use Rattle.cm_history.specs.declared.answer.OpReport.{OpReport}
use Rattle.cm_history.specs.declared.answer.OpState.{OpState}
use Rattle.cm_history.specs.Blocks.{held, cut, mapped_with}
use Rattle.cm_history.specs.Deeds.{Deed, is_refusal, same_actor}
use Rattle.cm_history.specs.Members.{In, Each}
use Rattle.cm_history.specs.Operations.{Operation, OfToken, count, count_of, form_of, id_of, is_background, is_failure, operations, operation_after, made_operation, makes_operation, running, is_running, is_running_as, is_running_state, fits, has_ended, has_key, keep, kept, list_of, next_piece, same_form, same_key, serves, state, state_of, was_ended, was_stopped, with_room, would_serve, written, written_by}
use Rattle.cm_history.specs.Answers.{deed, answer_after, answer_report, answer_start, piece_of, progress, progress_by, report_of, serial_made, wrote_of}
use Rattle.cm_history.specs.Room.{need, kept_free, still_needed, pieces}
use Rattle.cm_history.specs.Tokens.{is_populate}
use Rattle.cm_history.proofs.PublicLaws.{IsPast, In-append_right, In-map, filter-passes, length-paired, record-found, same_actor-self, served-or-not}
use Rattle.cmd_program.specs.AnswerBytes.{report_token_bytes}
use Rattle.generator.specs.Settings.{settings}
use Rattle.round_counts.proofs.Sized.{IsBlock, WritesBlocks, held-sized, items-length, paired-sized, take-writes}
use Rattle.round_counts.proofs.Quiet.{Kept, Quiet, eight, eight-within, made_by, not-busy, runs-next, serves-none, still-kept, still-quiet, unbarred, within-quota}
use Rattle.round_counts.proofs.Source.{entry_of}

-- ---- a write starts

-- one write runs: of this nexus and identifier, of eight blocks from a place on, and none of it is written
pub record Writes (serial now few i id lba : ℕ) (rod : HeldBlocks) (past : List Deed) : Type 0 where
  pub keeps : Kept serial now few past
  pub o : Operation
  pub runs : running past ≡ o ∷ []
  pub there : In o (kept past)
  pub act : o.made.entry.act ≡ Act.Start id true (eight lba) rod
  pub actor : o.made.entry.actor ≡ Actor.Nexus i
  pub fresh : o.servers ≡ []
  pub told : o.made.answer ≡ Answer.Progress OpState.Running 0
  pub blocks : Each IsBlock rod.items
  pub count : length rod.items ≡ 8

start-blocks : (lba : ℕ) (rod : HeldBlocks) → length rod.items ≡ 8 → length (paired (blocks_of (eight lba)) rod.items) ≡ 8
start-blocks lba rod eight_items = length-paired (blocks_of (eight lba)) rod.items (sym eight_items) ∙ eight_items

started : (busy within crowded none : Bool) → busy ≡ false → within ≡ true → crowded ≡ false → none ≡ false
    → (if busy then Answer.Refused operation_in_progress else if not within then Answer.Refused lba_out_of_range
    else if crowded then Answer.Refused insufficient_resources else Answer.Progress (if none then OpState.Done else OpState.Running) 0) ≡ Answer.Progress OpState.Running 0
started busy within crowded none a b c d = rw (a, b, c, d) refl

pub starts : (serial now few id lba : ℕ) (rod : HeldBlocks) (actor : Actor) (at : ℕ) (past : List Deed) → Quiet serial now few past → lba + 8 ≤ 1_048_576 → length rod.items ≡ 8
    → answer_after settings 1 past actor at (Act.Start id true (eight lba) rod) ≡ Answer.Progress OpState.Running 0
starts serial now few id lba rod actor at past q low eight_items =
    ap (λ t. if t then Answer.Conflict else answer_start (unit_of settings 1) past actor id (eight lba) rod) (unbarred serial now few past actor true q.kept)
    ∙ started _ _ _ _ (not-busy past actor id q.idle) (eight-within 1 lba refl low) (ap (λ os. nat_le 64 (length os)) q.idle) (ap (λ n. n == 0) eight_items)

keep-has : (records : List Operation) (o : Operation) → In o (keep records o)
keep-has records o = In-append_right (with_room (filter (λ r. not (has_ended r && same_key o r)) records)) (o ∷ []) o (inl refl)

pub after-start : (serial now few stamp seq i id lba : ℕ) (rod : HeldBlocks) (at : ℕ) (past : List Deed) → Quiet serial now few past → at ≤ now → stamp ≤ few + 1
    → lba + 8 ≤ 1_048_576 → length rod.items ≡ 8 → Each IsBlock rod.items
    → Writes serial now (few + 1) i id lba rod (deed settings 1 past (entry_of 1 stamp seq (Actor.Nexus i) at (Act.Start id true (eight lba) rod)) ∷ past)
after-start serial now few stamp seq i id lba rod at past q early low inside eight_items blocks = record {
  keeps = subst (λ n. Kept n now (few + 1) (d ∷ past)) same (still-kept 1 serial now few 0 past e q.kept early low refl refl (omega arith) tt);
  o = o;
  runs = runs-next 1 past e (serves-none 1 past e q.idle) ∙ ap (λ os. os ++ filter is_running (made_by d)) q.idle
      ∙ ap (λ t. filter is_running (if t then o ∷ [] else [])) makes ∙ ap (λ t. cond t (o ∷ []) []) new;
  there = subst (λ t. In o (if t then keep (kept past) o else map (operation_after d) (kept past))) (sym makes) (keep-has (kept past) o);
  act = refl;
  actor = refl;
  fresh = refl;
  told = answer;
  blocks = blocks;
  count = eight_items;
}
  where
    e : Entry
    e = entry_of 1 stamp seq (Actor.Nexus i) at (Act.Start id true (eight lba) rod)

    d : Deed
    d = deed settings 1 past (entry_of 1 stamp seq (Actor.Nexus i) at (Act.Start id true (eight lba) rod))

    o : Operation
    o = made_operation (deed settings 1 past (entry_of 1 stamp seq (Actor.Nexus i) at (Act.Start id true (eight lba) rod)))

    same : serial + 0 ≡ serial
    same = omega arith

    answer : answer_after settings 1 past (Actor.Nexus i) at (Act.Start id true (eight lba) rod) ≡ Answer.Progress OpState.Running 0
    answer = starts serial now few id lba rod (Actor.Nexus i) at past q inside eight_items

    makes : makes_operation (deed settings 1 past (entry_of 1 stamp seq (Actor.Nexus i) at (Act.Start id true (eight lba) rod))) ≡ true
    makes = ap (λ a. not (is_refusal a)) answer

    new : is_running (made_operation (deed settings 1 past (entry_of 1 stamp seq (Actor.Nexus i) at (Act.Start id true (eight lba) rod)))) ≡ true
    new = ap (λ n. is_running_state (if 0 == n then OpState.Done else OpState.Running)) (start-blocks lba rod eight_items)

-- ---- its piece is written

in-filter : {X : Type 0} (p : X → Bool) (xs : List X) (x : X) → In x xs → p x ≡ true → In x (filter p xs)
in-filter p [] x i e = absurd i
in-filter p (y ∷ ys) x (inl same) e = let is : p y ≡ true = ap p same ∙ e in rw is (inl same)
in-filter p (y ∷ ys) x (inr i) e = go (p y) (in-filter p ys x i e)
  where
    go : (t : Bool) → In x (filter p ys) → In x (cond t (y ∷ filter p ys) (filter p ys))
    go true j = inr j
    go false j = j

none-runs : (f : Operation → Operation) (os : List Operation) → ((x : Operation) → In x os → is_running (f x) ≡ false) → filter is_running (map f os) ≡ []
none-runs f [] none = refl
none-runs f (o ∷ os) none =
    ap (λ t. cond t (f o ∷ filter is_running (map f os)) (filter is_running (map f os))) (none o (inl refl)) ∙ none-runs f os (λ x i. none x (inr i))

over : (a b c : Bool) → a ≡ false → b ≡ false → c ≡ true
    → is_running_state (if a then OpState.Failed space_allocation_failed else if b then OpState.Terminated else if c then OpState.Done else OpState.Running) ≡ false
over a b c x y z = rw (x, y, z) refl

done : (a b c : Bool) → a ≡ false → b ≡ false → c ≡ true
    → (if a then OpState.Failed space_allocation_failed else if b then OpState.Terminated else if c then OpState.Done else OpState.Running) ≡ OpState.Done
done a b c x y z = rw (x, y, z) refl

piece-told : (u : UnitConfig) (past : List Deed) (o : Operation) → nat_lt u.quota (mapped_with u (held past) (next_piece o)) ≡ false
    → progress u past Answer.Idle (Some o) ≡ progress_by o (length (next_piece o))
piece-told u past o low = rw low refl

-- the write is done, and its record is kept
pub record Wrote (serial now few i id : ℕ) (past : List Deed) : Type 0 where
  pub quiet : Quiet serial now few past
  pub o : Operation
  pub there : In o (kept past)
  pub key : has_key (Actor.Nexus i) OfToken id o ≡ true
  pub token : serial_made o.made.answer ≡ None
  pub ended : state o ≡ OpState.Done

module _ (serial now few i id lba : ℕ) (rod : HeldBlocks) (past : List Deed) (w : Writes serial now few i id lba rod past) where
  pub pump-serves : would_serve past (Actor.Pump 1) Act.Pump ≡ Some w.o
  pump-serves = ap (find (fits (Actor.Pump 1) Act.Pump)) w.runs ∙ ap (λ a. cond (is_background a) (Some w.o) None) w.act

  pub pump-free : kept_free past ≡ 2
  pump-free =
      ap (sum_by (λ (o : Operation). still_needed (length o.servers) o.made.entry.act)) w.runs
      ∙ ap (λ ss. 0 + still_needed (length ss) w.o.made.entry.act) w.fresh ∙ ap (λ a. 0 + still_needed 0 a) w.act ∙ ap (λ n. 0 + (pieces n + 1 - 0)) w.count

  pub pump-need : need past (Actor.Pump 1) Act.Pump ≡ 0
  pump-need = ap (λ x. if is_some x then 0 else 1) pump-serves

  piece : next_piece w.o ≡ take 1024 (paired (blocks_of (eight lba)) rod.items)
  piece = ap (λ ss. take 1024 (drop (length (written_by ss)) (list_of w.o.made.entry.act))) w.fresh ∙ ap (λ a. take 1024 (list_of a)) w.act

  list-length : length (list_of w.o.made.entry.act) ≡ 8
  list-length = ap (λ a. length (list_of a)) w.act ∙ start-blocks lba rod w.count

  piece-length : length (next_piece w.o) ≡ 8
  piece-length = ap length piece ∙ length-take 1024 (paired (blocks_of (eight lba)) rod.items) ∙ ap (min 1024) (start-blocks lba rod w.count)

  piece-blocks : WritesBlocks (next_piece w.o)
  piece-blocks = subst WritesBlocks (sym piece) (take-writes 1024 (paired (blocks_of (eight lba)) rod.items) (paired-sized (blocks_of (eight lba)) rod.items w.blocks))

  counted : count w.o ≡ 0
  counted = ap (λ ss. count_of (written_by ss) w.o.made.entry.act) w.fresh ∙ ap (count_of []) w.act

  pub pumps-told : (at : ℕ) → answer_after settings 1 past (Actor.Pump 1) at Act.Pump ≡ Answer.Progress OpState.Done 8
  pumps-told at =
      ap (progress (unit_of settings 1) past Answer.Idle) pump-serves
      ∙ piece-told (unit_of settings 1) past w.o (within-quota 1 (held past) (next_piece w.o) refl)
      ∙ ap (λ n. Answer.Progress (if n + length (next_piece w.o) == length (list_of w.o.made.entry.act) then OpState.Done else OpState.Running) (n + length (next_piece w.o))) counted
      ∙ ap (λ n. Answer.Progress (if 0 + n == length (list_of w.o.made.entry.act) then OpState.Done else OpState.Running) (0 + n)) piece-length
      ∙ ap (λ n. Answer.Progress (if 8 == n then OpState.Done else OpState.Running) 8) list-length

  module _ (is : IsPast settings 1 past) (stamp seq at : ℕ) (early : at ≤ now) (low : stamp ≤ few + 1) where
    abbrev e : Entry
    e = entry_of 1 stamp seq (Actor.Pump 1) at Act.Pump

    abbrev d : Deed
    d = deed settings 1 past (entry_of 1 stamp seq (Actor.Pump 1) at Act.Pump)

    wrote : (deed settings 1 past (entry_of 1 stamp seq (Actor.Pump 1) at Act.Pump)).wrote ≡ next_piece w.o
    wrote = ap (λ a. wrote_of a (piece_of (would_serve past (Actor.Pump 1) Act.Pump))) (pumps-told at) ∙ ap piece_of pump-serves

    abbrev o : Operation
    o = record w.o { servers = deed settings 1 past (entry_of 1 stamp seq (Actor.Pump 1) at Act.Pump) ∷ w.o.servers }

    stopped : was_stopped o.servers ≡ false
    stopped = ap (λ a. is_failure a || was_stopped w.o.servers) (pumps-told at) ∙ ap was_stopped w.fresh

    not-ended : was_ended o.servers ≡ false
    not-ended = ap was_ended w.fresh

    whole : (length (written o) == length (list_of w.o.made.entry.act)) ≡ true
    whole = eq-eqb (length (written o)) (length (list_of w.o.made.entry.act))
        (ap (λ ss. length (written_by ss ++ d.wrote)) w.fresh ∙ ap length wrote ∙ piece-length ∙ sym list-length)

    ended : is_running o ≡ false
    ended = ap (is_running_as o) (ap form_of w.act) ∙ ap (λ a. is_running_state (state_of o a)) w.act ∙ over _ _ _ stopped not-ended whole

    after-own : operation_after d w.o ≡ o
    after-own =
        let self : (w.o.made.place == w.o.made.place) ≡ true = eq-eqb w.o.made.place w.o.made.place refl in
        ap (λ x. if serves (option_map (λ (y : Operation). y.made.place) x) w.o then o else w.o) pump-serves ∙ ap (λ t. if t then o else w.o) self

    runs-own : is_running w.o ≡ true
    runs-own = filter-passes is_running (operations past) w.o (subst (In w.o) (sym w.runs) (inl refl))

    is-own : (x : Operation) → In x (operations past) → is_running x ≡ true → x ≡ w.o
    is-own x i runs = go (subst (In x) w.runs (in-filter is_running (operations past) x i runs))
      where
        go : In x (w.o ∷ []) → x ≡ w.o
        go (inl same) = sym same
        go (inr j) = absurd j

    none : (x : Operation) → In x (operations past) → is_running (operation_after d x) ≡ false
    none x i = go (is_running x) refl (served-or-not settings 1 past d x is refl i)
      where
        go : (t : Bool) → is_running x ≡ t
            → (operation_after d x ≡ x) ⊎ ((would_serve past (Actor.Pump 1) Act.Pump ≡ Some x) × (operation_after d x ≡ record x { servers = d ∷ x.servers }))
            → is_running (operation_after d x) ≡ false
        go true runs how = ap (λ y. is_running (operation_after d y)) (is-own x i runs) ∙ ap is_running after-own ∙ ended
        go false runs (inl same) = ap is_running same ∙ runs
        go false runs (inr s) = let found : Some w.o ≡ Some x = sym pump-serves ∙ s.0 in let own : w.o ≡ x = cc in let never : true ≡ false = sym runs-own ∙ ap is_running own ∙ runs in cc

    idle : running (d ∷ past) ≡ []
    idle = ap (filter is_running) (append-nil (map (operation_after d) (operations past))) ∙ none-runs (operation_after d) (operations past) none

    same : serial + 0 ≡ serial
    same = omega arith

    pub after-pump : Wrote serial now (few + 1) i id (deed settings 1 past (entry_of 1 stamp seq (Actor.Pump 1) at Act.Pump) ∷ past)
    after-pump = record {
      quiet = record {
        kept = subst (λ n. Kept n now (few + 1) (d ∷ past)) same
            (still-kept 1 serial now few 0 past e w.keeps early low refl refl (omega arith) (subst (λ x. WritesBlocks (piece_of x)) (sym pump-serves) piece-blocks));
        idle = idle;
      };
      o = o;
      there = subst (λ x. In x (map (operation_after d) (kept past))) after-own (In-map (operation_after d) (kept past) w.o w.there);
      key = ap (λ a. same_actor a (Actor.Nexus i) && same_form (form_of w.o.made.entry.act) OfToken && (id_of w.o.made.entry.act == id)) w.actor
          ∙ ap (λ a. same_actor (Actor.Nexus i) (Actor.Nexus i) && same_form (form_of a) OfToken && (id_of a == id)) w.act
          ∙ ap (λ t. t && true && (id == id)) (same_actor-self (Actor.Nexus i)) ∙ eq-eqb id id refl;
      token = ap serial_made w.told;
      ended = ap (state_of o) w.act ∙ done _ _ _ stopped not-ended whole;
    }

-- ---- what is told of it, and the blocks that it wrote

pub after-look : (serial now few stamp seq at : ℕ) (actor : Actor) (act : Act) (past : List Deed) → Quiet serial now few past → at ≤ now → stamp ≤ few + 1
    → ((id : ℕ) × (act ≡ Act.Report id)) ⊎ ((lba : ℕ) × (act ≡ Act.Read lba 8))
    → Quiet serial now (few + 1) (deed settings 1 past (entry_of 1 stamp seq actor at act) ∷ past)
after-look serial now few stamp seq at actor act past q early low (inl is) =
    let same : serial + 0 ≡ serial = omega arith in
    subst (λ a. Quiet serial now (few + 1) (deed settings 1 past (entry_of 1 stamp seq actor at a) ∷ past)) (sym is.1)
    (subst (λ n. Quiet n now (few + 1) (deed settings 1 past (entry_of 1 stamp seq actor at (Act.Report is.0)) ∷ past)) same
    (still-quiet 1 serial now few 0 past (entry_of 1 stamp seq actor at (Act.Report is.0)) q early low refl refl refl (omega arith) tt))
after-look serial now few stamp seq at actor act past q early low (inr is) =
    let same : serial + 0 ≡ serial = omega arith in
    subst (λ a. Quiet serial now (few + 1) (deed settings 1 past (entry_of 1 stamp seq actor at a) ∷ past)) (sym is.1)
    (subst (λ n. Quiet n now (few + 1) (deed settings 1 past (entry_of 1 stamp seq actor at (Act.Read is.0 8)) ∷ past)) same
    (still-quiet 1 serial now few 0 past (entry_of 1 stamp seq actor at (Act.Read is.0 8)) q early low refl refl refl (omega arith) tt))

pub reports : (serial now few i id at : ℕ) (past : List Deed) (w : Wrote serial now few i id past) → IsPast settings 1 past
    → answer_after settings 1 past (Actor.Nexus i) at (Act.Report id) ≡ Answer.Report (report_of w.o)
reports serial now few i id at past w is = ap answer_report (record-found settings 1 past (Actor.Nexus i) OfToken id w.o is w.there w.key)

-- the report of a write that is done has 36 bytes
done-bytes : (populate background : Bool) (moved : ℕ) (r : OpReport) → r ≡ record { populate = populate; background = background; state = OpState.Done; count = moved; serial = None }
    → length (take 1024 (report_token_bytes settings 1 r)) ≡ 36
done-bytes populate background moved r is =
    ap (λ (x : OpReport). length (take 1024 (report_token_bytes settings 1 x))) is
    ∙ length-take 1024 (report_token_bytes settings 1 (record { populate = populate; background = background; state = OpState.Done; count = moved; serial = None }))

pub report-bytes : (serial now few i id : ℕ) (past : List Deed) (w : Wrote serial now few i id past) → length (take 1024 (report_token_bytes settings 1 (report_of w.o))) ≡ 36
report-bytes serial now few i id past w =
    done-bytes (is_populate w.o.made.entry.act) (is_background w.o.made.entry.act) (count w.o) (report_of w.o)
    (ap (λ s. let r : OpReport = record { populate = is_populate w.o.made.entry.act; background = is_background w.o.made.entry.act; state = s; count = count w.o; serial = serial_made w.o.made.answer } in r) w.ended
    ∙ ap (λ n. let r : OpReport = record { populate = is_populate w.o.made.entry.act; background = is_background w.o.made.entry.act; state = OpState.Done; count = count w.o; serial = n } in r) w.token)

-- the eight blocks from a place on, as they stand
abbrev pub seen : List Deed → ℕ → HeldBlocks
seen past lba = cut (unit_of settings 1) (held past) (row lba 8)

pub reads : (serial now few lba at : ℕ) (actor : Actor) (past : List Deed) → Quiet serial now few past → lba + 8 ≤ 1_048_576
    → answer_after settings 1 past actor at (Act.Read lba 8) ≡ Answer.Blocks (seen past lba)
reads serial now few lba at actor past q low =
    let inside : nat_le (lba + 8) 1_048_576 ≡ true = grind (arith, nat_tests) in
    ap (λ t. if t then Answer.Conflict else if nat_le (lba + 8) 1_048_576 then Answer.Blocks (seen past lba) else Answer.Refused lba_out_of_range) (unbarred serial now few past actor false q.kept)
    ∙ ap (λ t. if t then Answer.Blocks (seen past lba) else Answer.Refused lba_out_of_range) inside

pub read-bytes : (serial now few lba : ℕ) (past : List Deed) → Quiet serial now few past → length (blocks_bytes (seen past lba)) ≡ 4096
read-bytes serial now few lba past q = items-length (map (held past) (row lba 8)) (held-sized past (row lba 8) q.kept.sized)
