-- Each act that any command asks for may be asked
use Rattle.std.proofs.Common.{◌≡◌, ◌∙◌, ℕ, suc, ◌+◌, ◌-◌, ◌*◌, ◌%◌, ◌/◌, ◌^◌, slice_index, ◌<◌, ◌≤◌, List, [], ◌∷◌, ◌++◌, length, map, refl, ap, sym, subst, arith, false, true, Bool}
use Rattle.std.specs.Prelude.{◌==◌, ◌||◌, ◌&&◌, cond, find, fold, max, not, is_some, nat_lt, nat_le, Option, Some, None, Result, Ok, Err, if◌then◌else◌}
use Rattle.std.specs.Option.{option_map_or}
use Rattle.std.proofs.lemmas.Bool.{or_parts, eqb-true, ltb-false, ltb-true, lt-ltb}
use Rattle.std.proofs.lemmas.Bool.Decides.{nat_tests}
use Rattle.cm_base.specs.Configuration.{Configuration, AreUnits}
use Rattle.cm_base.specs.declared.config.UnitConfig.{UnitConfig}
use Rattle.cm_base.specs.Fields.{AreBytes, bits, bit}
use Rattle.cm_base.specs.ReservationActions.{action_of}
use Rattle.cm_base.specs.Units.{unit_of, is_configured}
use Rattle.scsi_sense.specs.SenseCode.{SenseCode}
use Rattle.scsi_sense.specs.Codes.{invalid_operation_code, invalid_field_in_cdb, logical_unit_not_supported, lba_out_of_range, remote_token_usage_not_supported, token_corrupt}
use Rattle.scsi_cdb.specs.declared.cdb.Cdb.{Cdb}
use Rattle.scsi_cdb.specs.Decoded.{Row, plain_rows, action_rows, reservation_rows, is_row_of, row_of, has_bad_field, has_fault, decoded}
use Rattle.block_params.specs.ListsRead.{unmap_read}
use Rattle.pr_keys.specs.Bytes.{out_list_read}
use Rattle.cm_frame.specs.declared.frame.Request.{Request}
use Rattle.cm_frame.specs.declared.frame.Reply.{Reply}
use Rattle.cm_history.specs.declared.act.Act.{Act}
use Rattle.cm_history.specs.declared.act.Actor.{Actor}
use Rattle.cm_history.specs.declared.act.Entry.{Entry}
use Rattle.cm_history.specs.declared.answer.Answer.{Answer}
use Rattle.cm_history.specs.Deeds.{moment}
use Rattle.cm_history.specs.Tokens.{Fate, Live, Expired, Evicted, Deleted, Token}
use Rattle.cm_history.specs.Redeeming.{are_alike, fate_at, answer_by_fate, named_token}
use Rattle.cm_history.specs.Redeeming as token
use Rattle.cm_history.specs.Reserving.{reservations, bars_act}
use Rattle.cm_history.specs.Answers.{answer_read, answer_unbarred}
use Rattle.cm_history.specs.Blocks.{held, cut}
use Rattle.cm_history.proofs.PublicLaws.{both as both-true}
use Rattle.lba_ranges.specs.Denoted.{row, total}
use Rattle.lba_ranges.specs.Writings.{Held}
use Rattle.lba_ranges.proofs.PublicLaws.{length-row}
use Rattle.rod_token.specs.TokenText.{token_text}
use Rattle.std.specs.Str.{bytes_eq}
use Rattle.cm_history.specs.History.{past_of, answer}
use Rattle.cmd_program.specs.declared.step.Outcome.{Outcome}
use Rattle.cmd_program.specs.declared.step.Step.{Step}
use Rattle.cmd_program.specs.Meaning.{IsAskable}
use Rattle.cmd_program.specs.Program.{Ask, Program, Ends, Asks, GivesUp, next, moved, refused}
use Rattle.cmd_program.specs.Judging.{length_is, out_fault, judged_out, judged_cdb, step, program}
use Rattle.cmd_program.specs.SingleActs.{told_map, told_report, told_token, told_copy}
use Rattle.cmd_program.specs.InHistory.{Lacking, LacksAny, RunsIn}
use Rattle.cmd_program.specs.Asking.{AsksWithinLimits}
use Rattle.cmd_program.proofs.Short.{unit-least}
use Rattle.cmd_program.proofs.Asks.{IsSized, IsAsking, told-map-asks, told-report-asks, told-token-asks, told-copy-asks, inquiry-asks, asked, told-asks, alone-asks, read-asks, write-asks, unmap-asks, reserve_in-asks, reserve_out-asks, populate-asks, write-token-asks}
use Rattle.cmd_program.proofs.AsksCopies.{extended-asks}

-- ---- what is decoded

-- the fields that an act has a limit for
abbrev pub HasLimits : Cdb → Type 0
HasLimits (Cdb.Read lba count) = count ≤ 2048
HasLimits (Cdb.Write lba count) = count ≤ 2048
HasLimits (Cdb.PersistentOut action scope kind length) = (is_some (action_of action) && nat_lt scope 16 && nat_lt kind 16) ≡ true
HasLimits cdb = Unit {0}

abbrev pub IfRead : Result Cdb SenseCode → Type 0
IfRead (Err sense) = Unit {0}
IfRead (Ok cdb) = HasLimits cdb

-- what a row says of the codes
abbrev HasCodes : Cdb → Type 0
HasCodes (Cdb.PersistentOut action scope kind length) = (is_some (action_of action) && nat_lt scope 16 && nat_lt kind 16) ≡ true
HasCodes cdb = Unit {0}

abbrev RowCodes : Row → Type 0
RowCodes r = (b : List ℕ) → HasCodes (r.command b)

four-bits : (x : ℕ) → nat_lt (x % 16) 16 ≡ true
four-bits x = grind (arith, nat_tests)

out-codes : (b : List ℕ) → (true && nat_lt (bits b 2 7 4) 16 && nat_lt (bits b 2 3 0) 16) ≡ true
out-codes b = both (slice_index b 2 / 2 ^ 4) (slice_index b 2 / 2 ^ 0)
  where
    both : (x y : ℕ) → (true && nat_lt (x % 16) 16 && nat_lt (y % 16) 16) ≡ true
    both x y = rw (four-bits x, four-bits y) refl

abbrev EachRow : List Row → Type 0
EachRow [] = Unit {0}
EachRow (r ∷ rs) = RowCodes r × EachRow rs

rows-codes : EachRow (plain_rows ++ action_rows ++ reservation_rows)
rows-codes = ((λ b. tt), ((λ b. tt), ((λ b. tt), ((λ b. tt), ((λ b. tt), ((λ b. tt), ((λ b. tt), ((λ b. tt), ((λ b. tt), ((λ b. tt), ((λ b. tt), ((λ b. tt), ((λ b. tt), ((λ b. tt), ((λ b. tt), ((λ b. tt), ((λ b. tt), ((λ b. tt), ((λ b. tt), ((λ b. tt), ((λ b. out-codes b), ((λ b. out-codes b), ((λ b. out-codes b), ((λ b. out-codes b), ((λ b. out-codes b), ((λ b. out-codes b), ((λ b. tt), ((λ b. tt), tt))))))))))))))))))))))))))))

abbrev IfRow : Option Row → Type 0
IfRow None = Unit {0}
IfRow (Some r) = RowCodes r

found-codes : (b : List ℕ) (rows : List Row) → EachRow rows → IfRow (find (is_row_of b) rows)
found-codes b [] each = tt
found-codes b (r ∷ rs) each = go (is_row_of b r) (found-codes b rs each.1)
  where
    go : (t : Bool) → IfRow (find (is_row_of b) rs) → IfRow (cond t (Some r) (find (is_row_of b) rs))
    go true later = each.0
    go false later = later

limits-of : (b : List ℕ) (cdb : Cdb) → HasCodes cdb → has_bad_field b cdb ≡ false → HasLimits cdb
limits-of b (Cdb.Read lba count) codes good = let p = or_parts (not (bits b 1 7 5 == 0)) (nat_lt 2048 count) good in ltb-false 2048 count p.1
limits-of b (Cdb.Write lba count) codes good = let p = or_parts (not (bits b 1 7 5 == 0)) (nat_lt 2048 count) good in ltb-false 2048 count p.1
limits-of b (Cdb.PersistentOut action scope kind length) codes good = codes
limits-of b _ codes good = tt

decoded-limits : (b : List ℕ) → IfRead (decoded b)
decoded-limits b = go (row_of b) (found-codes b (plain_rows ++ action_rows ++ reservation_rows) rows-codes)
  where
    by : (r : Row) (t : Bool) → has_fault b r ≡ t → RowCodes r → IfRead (if t then Err invalid_field_in_cdb else Ok (r.command b))
    by r true is codes = tt
    by r false is codes = limits-of b (r.command b) (codes b) (or_parts (bit b (r.size - 1) 2) (has_bad_field b (r.command b)) is).1

    go : (r : Option Row) → IfRow r → IfRead (option_map_or (λ (x : Row). if has_fault b x then Err invalid_field_in_cdb else Ok (x.command b)) r (Err invalid_operation_code))
    go None codes = tt
    go (Some r) codes = by r (has_fault b r) refl codes

-- ---- every command

module _ (config : Configuration) (are : AreUnits config.units) (r : Request) (there : r.unit < length config.units) (bytes : AreBytes r.out) where
  -- where the data has the right length
  out-asks : (cdb : Cdb) (fault : Option SenseCode) → (fault ≡ None → IsAsking config (judged_out config r cdb None)) → IsAsking config (judged_out config r cdb fault)
  out-asks cdb (Some sense) asks = tt
  out-asks cdb None asks = asks refl

  right-length : (n wanted : ℕ) (sense : SenseCode) → (if n == wanted then None else Some sense) ≡ None → n ≡ wanted
  right-length n wanted sense none = go (n == wanted) refl none
    where
      go : (t : Bool) → (n == wanted) ≡ t → cond t None (Some sense) ≡ None → n ≡ wanted
      go true is e = eqb-true n wanted is
      go false is e = cc

  some-bytes : 0 < (unit_of config r.unit).block_length
  some-bytes = let least = unit-least config r.unit are there in omega (arith, least)

  abbrev At : Cdb → Type 0
  At cdb = IsAsking config (judged_out config r cdb (out_fault (unit_of config r.unit) r.out cdb))

  cdb-asks : (cdb : Cdb) → HasLimits cdb → At cdb
  cdb-asks Cdb.TestUnitReady has = out-asks Cdb.TestUnitReady _ (λ e. tt)
  cdb-asks (Cdb.RequestSense allocation) has = out-asks (Cdb.RequestSense allocation) _ (λ e. tt)
  cdb-asks (Cdb.Inquiry evpd page allocation) has = out-asks (Cdb.Inquiry evpd page allocation) _ (λ e. inquiry-asks config r.unit evpd page allocation)
  cdb-asks (Cdb.Read lba count) has = out-asks (Cdb.Read lba count) _ (λ e. read-asks config r.unit there lba count has)
  cdb-asks (Cdb.Write lba count) has =
      out-asks (Cdb.Write lba count) _ (λ e. write-asks config r.unit there lba count r.out has some-bytes (right-length (length r.out) (count * (unit_of config r.unit).block_length) invalid_field_in_cdb e))
  cdb-asks (Cdb.Unmap length) has = out-asks (Cdb.Unmap length) _ (λ e. unmap-asks config r.unit there r.out)
  cdb-asks Cdb.ReadCapacity10 has = out-asks Cdb.ReadCapacity10 _ (λ e. tt)
  cdb-asks (Cdb.ReadCapacity16 allocation) has = out-asks (Cdb.ReadCapacity16 allocation) _ (λ e. tt)
  cdb-asks (Cdb.GetLbaStatus lba allocation) has =
      out-asks (Cdb.GetLbaStatus lba allocation) _ (λ e. told-asks config r.unit there (Act.MapStatus lba) (told_map allocation) (asked config r.unit there (Act.MapStatus lba) refl (λ n. refl)) (told-map-asks config allocation))
  cdb-asks (Cdb.ReportLuns allocation) has = out-asks (Cdb.ReportLuns allocation) _ (λ e. tt)
  cdb-asks (Cdb.ExtendedCopy length) has = out-asks (Cdb.ExtendedCopy length) _ (λ e. extended-asks config r.unit length r.out there bytes)
  cdb-asks (Cdb.PopulateToken id length) has = out-asks (Cdb.PopulateToken id length) _ (λ e. populate-asks config r.unit there id r.out)
  cdb-asks (Cdb.WriteUsingToken id length) has = out-asks (Cdb.WriteUsingToken id length) _ (λ e. write-token-asks config r.unit id r.out there)
  cdb-asks (Cdb.CopyAbort id) has = out-asks (Cdb.CopyAbort id) _ (λ e. alone-asks config r.unit there (Act.Abort id) (asked config r.unit there (Act.Abort id) refl (λ n. refl)))
  cdb-asks (Cdb.CopyStatus1 id allocation) has =
      out-asks (Cdb.CopyStatus1 id allocation) _ (λ e. told-asks config r.unit there (Act.Recall id) (told_copy allocation) (asked config r.unit there (Act.Recall id) refl (λ n. refl)) (told-copy-asks config allocation))
  cdb-asks (Cdb.CopyParameters allocation) has = out-asks (Cdb.CopyParameters allocation) _ (λ e. tt)
  cdb-asks (Cdb.CopyStatus4 id allocation) has =
      out-asks (Cdb.CopyStatus4 id allocation) _ (λ e. told-asks config r.unit there (Act.Report id) (told_report allocation) (asked config r.unit there (Act.Report id) refl (λ n. refl)) (told-report-asks config allocation))
  cdb-asks (Cdb.TokenInformation id allocation) has =
      out-asks (Cdb.TokenInformation id allocation) _ (λ e. told-asks config r.unit there (Act.Report id) (told_token config r.unit allocation) (asked config r.unit there (Act.Report id) refl (λ n. refl)) (told-token-asks config r.unit allocation))
  cdb-asks (Cdb.PersistentIn action allocation) has = out-asks (Cdb.PersistentIn action allocation) _ (λ e. reserve_in-asks config r.unit there action allocation)
  cdb-asks (Cdb.PersistentOut action scope kind length) has =
      out-asks (Cdb.PersistentOut action scope kind length) _ (λ e. reserve_out-asks config r.unit there action scope kind has (out_list_read r.out))

  read-asks-all : (read : Result Cdb SenseCode) → IfRead read → IsAsking config (judged_cdb config r read)
  read-asks-all (Err sense) has = tt
  read-asks-all (Ok cdb) has = cdb-asks cdb has

pub program-asks : (config : Configuration) (r : Request) → AreUnits config.units → AreBytes r.out → IsAsking config (program config r)
program-asks config r are bytes = go (is_configured config r.unit) refl
  where
    go : (t : Bool) → is_configured config r.unit ≡ t → IsAsking config (cond t (judged_cdb config r (decoded r.cdb)) (refused logical_unit_not_supported))
    go true is = read-asks-all config are r (ltb-true r.unit (length config.units) is) bytes (decoded r.cdb) (decoded-limits r.cdb)
    go false is = tt

-- ---- what a history answers

module _ (config : Configuration) (unit : ℕ) where
  whole-cut : (holds : ℕ → Held) (lba count : ℕ) → length (map holds (row lba count)) ≡ count
  whole-cut holds lba count = length-mapped holds (row lba count) ∙ length-row lba count
    where
      length-mapped : (f : ℕ → Held) (xs : List ℕ) → length (map f xs) ≡ length xs
      length-mapped f [] = refl
      length-mapped f (x ∷ xs) = ap suc (length-mapped f xs)

  capture-sized : (holds : ℕ → Held) (lba count : ℕ) (barred : Bool)
      → IsSized config unit (Act.Capture lba count) (if barred then Answer.Conflict else answer_read (unit_of config unit) holds lba count)
  capture-sized holds lba count true = tt
  capture-sized holds lba count false = go (nat_le (lba + count) (unit_of config unit).blocks)
    where
      go : (t : Bool) → IsSized config unit (Act.Capture lba count) (if t then Answer.Blocks (cut (unit_of config unit) holds (row lba count)) else Answer.Refused lba_out_of_range)
      go true = record { size = refl; whole = whole-cut holds lba count }
      go false = tt

  alike-size : (target : ℕ) → are_alike (unit_of config unit) (unit_of config target) ≡ true → (unit_of config unit).block_length ≡ (unit_of config target).block_length
  alike-size target is = eqb-true _ _ (both-true ((unit_of config unit).group == (unit_of config target).group) ((unit_of config unit).block_length == (unit_of config target).block_length) is).1

  token-sized : (now : ℕ) (text : List ℕ) (target : ℕ) (t : Option Token) → IsSized config unit (Act.Redeem text target) (token.redeemed config unit now text target t)
  token-sized now text target None = tt
  token-sized now text target (Some t) = go (are_alike (unit_of config unit) (unit_of config target)) refl (bytes_eq text (token_text config unit t.serial (total t.ranges)))
    where
      fate : (f : Fate) → (unit_of config unit).block_length ≡ (unit_of config target).block_length → IsSized config unit (Act.Redeem text target) (answer_by_fate (unit_of config unit) t f)
      fate Live same = same
      fate Expired same = tt
      fate Evicted same = tt
      fate Deleted same = tt

      go : (a : Bool) → are_alike (unit_of config unit) (unit_of config target) ≡ a → (b : Bool)
          → IsSized config unit (Act.Redeem text target) (if not a then Answer.Refused remote_token_usage_not_supported else if not b then Answer.Refused token_corrupt else answer_by_fate (unit_of config unit) t (fate_at now t t.fate))
      go false is b = tt
      go true is false = tt
      go true is true = fate (fate_at now t t.fate) (alike-size target is)

  redeem-sized : (now : ℕ) (text : List ℕ) (target : ℕ) (t : Option Token) (barred : Bool)
      → IsSized config unit (Act.Redeem text target) (if barred then Answer.Conflict else token.redeemed config unit now text target t)
  redeem-sized now text target t true = tt
  redeem-sized now text target t false = token-sized now text target t

  pub answer-sized : (h : List Entry) (actor : Actor) (now : ℕ) (act : Act) → IsSized config unit act (answer config h unit actor now act)
  answer-sized h actor now (Act.Capture lba count) = capture-sized (held (past_of config unit h)) lba count (bars_act (reservations (past_of config unit h)) actor (Act.Capture lba count))
  answer-sized h actor now (Act.Redeem text target) =
      redeem-sized (max now (moment (past_of config unit h))) text target (named_token (past_of config unit h) text) (bars_act (reservations (past_of config unit h)) actor (Act.Redeem text target))
  answer-sized h actor now _ = tt

-- ---- the run of a command

pub asking-step : (config : Configuration) (p : Program) → IsAsking config p → IsAskable config (next p)
asking-step config (Ends reply) asks = tt
asking-step config (Asks ask last go_on) asks = asks.0
asking-step config (GivesUp (Some ask) reply) asks = asks
asking-step config (GivesUp None reply) asks = tt

pub asking-in : (config : Configuration) (nexus : ℕ) (Lacks : Lacking) (p : Program) (h : List Entry) (os : List Outcome) → IsAsking config p → RunsIn config nexus Lacks p h os
    → IsAsking config (fold moved p os)
asking-in config nexus Lacks p h [] asks run = asks
asking-in config nexus Lacks (Ends reply) h (Outcome.Answered told ∷ os) asks run = absurd run
asking-in config nexus Lacks (Asks ask last go_on) h (Outcome.Answered told ∷ os) asks run =
    asking-in config nexus Lacks (go_on told) (h ++ run.0 ++ run.1 ∷ []) os
    (asks.2 told (subst (IsSized config ask.unit ask.act) (sym run.2.answered) (answer-sized config ask.unit (h ++ run.0) (Actor.Nexus nexus) run.1.moment ask.act))) run.3
asking-in config nexus Lacks (GivesUp (Some ask) reply) h (Outcome.Answered told ∷ os) asks run = asking-in config nexus Lacks (GivesUp None reply) (h ++ run.0 ++ run.1 ∷ []) os tt run.3
asking-in config nexus Lacks (GivesUp None reply) h (Outcome.Answered told ∷ os) asks run = absurd run
asking-in config nexus Lacks (Ends reply) h (Outcome.Full ∷ os) asks run = absurd run.0
asking-in config nexus Lacks (Asks ask last go_on) h (Outcome.Full ∷ os) asks run = asking-in config nexus Lacks (GivesUp last Reply.Full) h os asks.1 run.1
asking-in config nexus Lacks (GivesUp last reply) h (Outcome.Full ∷ os) asks run = asking-in config nexus Lacks (GivesUp None reply) h os tt run.1
asking-in config nexus Lacks (Ends reply) h (Outcome.NoMemory ∷ os) asks run = asking-in config nexus Lacks (GivesUp None Reply.Busy) h os tt run
asking-in config nexus Lacks (Asks ask last go_on) h (Outcome.NoMemory ∷ os) asks run = asking-in config nexus Lacks (GivesUp last Reply.Busy) h os asks.1 run
asking-in config nexus Lacks (GivesUp last reply) h (Outcome.NoMemory ∷ os) asks run = asking-in config nexus Lacks (GivesUp None reply) h os tt run

-- the next act of a command may be asked
pub step-askable : (config : Configuration) (nexus : ℕ) (Lacks : Lacking) (r : Request) (before : List Entry) (os : List Outcome) → AreUnits config.units → AreBytes r.out
    → RunsIn config nexus Lacks (program config r) before os → IsAskable config (step config nexus r os)
step-askable config nexus Lacks r before os are bytes run =
    asking-step config (fold moved (program config r) os) (asking-in config nexus Lacks (program config r) before os (program-asks config r are bytes) run)

pub asks-within-limits : (config : Configuration) → AreUnits config.units → AsksWithinLimits config
asks-within-limits config are nexus r before os bytes run = step-askable config nexus LacksAny r before os are bytes run
