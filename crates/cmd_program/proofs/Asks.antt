-- Each act that a command asks for may be asked: those of one act at most, and of token commands
use Rattle.std.proofs.Common.{◌≡◌, ◌∙◌, ℕ, zero, suc, ◌+◌, ◌*◌, ◌/◌, ◌<◌, ◌≤◌, List, [], ◌∷◌, length, refl, ap, sym, subst, arith, false, true, Bool}
use Rattle.std.specs.Prelude.{◌==◌, ◌||◌, ◌&&◌, not, cond, take, drop, slice_range, is_some, nat_lt, nat_le, Option, Some, None, Result, Ok, Err, if◌then◌else◌}
use Rattle.std.specs.List.{list_all}
use Rattle.std.proofs.lemmas.Bool.{or_parts, eq-eqb, le-leb, lt-ltb, ltb-false, ltb-true}
use Rattle.std.proofs.lemmas.Bool.Decides.{nat_tests}
use Rattle.std.proofs.lemmas.List.{length-replicate}
use Rattle.std.proofs.Math.Nat.{div-eq_of_eq-mul_left}
use Rattle.cm_base.specs.Configuration.{Configuration}
use Rattle.cm_base.specs.Units.{unit_of, is_configured}
use Rattle.lba_ranges.specs.declared.ranges.Range.{Range}
use Rattle.lba_ranges.specs.Denoted.{total, is_overlapping}
use Rattle.lba_ranges.specs.HeldBlocks.{HeldBlocks}
use Rattle.lba_ranges.proofs.PublicLaws.{length-cut, mapped-cut as cut-mapped}
use Rattle.scsi_sense.specs.SenseCode.{SenseCode}
use Rattle.scsi_sense.specs.Codes.{invalid_field_in_cdb, invalid_field_in_parameter_list, parameter_list_length_error, token_unknown}
use Rattle.scsi_sense.specs.Faults.{unless, or_else}
use Rattle.scsi_inquiry.specs.UnitData.{vpd, standard}
use Rattle.block_params.specs.declared.lists.PopulateList.{PopulateList}
use Rattle.block_params.specs.declared.lists.WriteList.{WriteList}
use Rattle.block_params.specs.RangesRead.{length_fault, range_fault, ranges_from, ranges_in}
use Rattle.block_params.specs.ListsRead.{unmap_count, unmap_read, populate_fault, is_bad_type, timeout_of, populate_read, write_token_read}
use Rattle.cm_base.specs.Fields.{field, bit}
use Rattle.pr_keys.specs.declared.lists.OutList.{OutList}
use Rattle.cm_base.specs.ReservationActions.{action_of}
use Rattle.rod_token.specs.declared.kind.TokenKind.{TokenKind}
use Rattle.rod_token.specs.TokenText.{classify, names_unit}
use Rattle.cm_history.specs.declared.act.Act.{Act}
use Rattle.cm_history.specs.declared.act.Actor.{Actor}
use Rattle.cm_history.specs.declared.answer.Answer.{Answer}
use Rattle.cm_history.specs.declared.answer.OpState.{OpState}
use Rattle.cm_history.specs.Forms.{AreBlocksOf}
use Rattle.cm_history.specs.Legal.{may_ask}
use Rattle.cm_history.specs.Limits.{within_limits}
use Rattle.cm_history.specs.Room.{pieces}
use Rattle.cmd_program.specs.Meaning.{IsAskedOf}
use Rattle.cmd_program.specs.Program.{Ask, Program, Ends, Asks, GivesUp, good, done, refused, unless_refused, ask_then}
use Rattle.cmd_program.specs.SingleActs.{told_read, told_map, told_report, told_token, told_copy, told_keys, told_holder, reserve_in, reserve_out, blocks_in, act_alone, page_told, inquiry, unmap, populate}
use Rattle.cmd_program.specs.TokenWrite.{TokenWrite, wanted, delete_by, deleting, end_of, advancing, started, starting, rod_part, after_redeem, zero_rod, write_by, write_using_token}
use Rattle.cmd_program.proofs.WriteEnds.{part-whole}

-- what an answer has to have for the acts behind it
abbrev pub IsSized : Configuration → ℕ → Act → Answer → Type 0
IsSized config unit (Act.Capture lba count) (Answer.Blocks list) = AreBlocksOf config unit count list
IsSized config unit (Act.Redeem text target) (Answer.Rod rod) = rod.block_length ≡ (unit_of config target).block_length
IsSized config unit act answer = Unit {0}

-- what is left to ask may be asked
abbrev pub IsLastAsked : Configuration → Option Ask → Type 0
IsLastAsked config None = Unit {0}
IsLastAsked config (Some ask) = IsAskedOf config ask.unit ask.act

-- all that the program asks may be asked, whatever is answered so
abbrev pub IsAsking : Configuration → Program → Type 0
IsAsking config (Ends reply) = Unit {0}
IsAsking config (Asks ask last go_on) =
    IsAskedOf config ask.unit ask.act × IsLastAsked config last × ((a : Answer) → IsSized config ask.unit ask.act a → IsAsking config (go_on a))
IsAsking config (GivesUp last reply) = IsLastAsked config last

-- ---- faults

pub first-none : (a b : Option SenseCode) → or_else a b ≡ None → a ≡ None
first-none None b none = refl
first-none (Some sense) b none = cc

pub last-none : (a b : Option SenseCode) → or_else a b ≡ None → b ≡ None
last-none None b none = none
last-none (Some sense) b none = cc

-- the ranges have no fault
pub range-fits : (ranges : List Range) → range_fault ranges ≡ None → (is_overlapping ranges ≡ false) × (nat_le (total ranges) 1_048_576 ≡ true)
range-fits ranges none = go (is_overlapping ranges) (nat_lt 1_048_576 (total ranges)) refl refl none
  where
    go : (a b : Bool) → is_overlapping ranges ≡ a → nat_lt 1_048_576 (total ranges) ≡ b → (if a || b then Some invalid_field_in_parameter_list else None) ≡ None
        → (is_overlapping ranges ≡ false) × (nat_le (total ranges) 1_048_576 ≡ true)
    go true b is-a is-b e = cc
    go false true is-a is-b e = cc
    go false false is-a is-b e = (is-a, le-leb (total ranges) 1_048_576 (ltb-false 1_048_576 (total ranges) is-b))

-- ---- single acts

module _ (config : Configuration) where
  pub told-read-asks : (a : Answer) → IsAsking config (told_read a)
  told-read-asks (Answer.Blocks list) = tt
  told-read-asks (Answer.Refused sense) = tt
  told-read-asks Answer.Conflict = tt
  told-read-asks _ = tt

  pub unless_refused-asks : (p : Program) (a : Answer) → IsAsking config p → IsAsking config (unless_refused p a)
  unless_refused-asks p (Answer.Refused sense) asks = tt
  unless_refused-asks p Answer.Conflict asks = tt
  unless_refused-asks p _ asks = asks

  pub told-map-asks : (allocation : ℕ) (a : Answer) → IsAsking config (told_map allocation a)
  told-map-asks allocation (Answer.Status runs) = tt
  told-map-asks allocation (Answer.Refused sense) = tt
  told-map-asks allocation Answer.Conflict = tt
  told-map-asks allocation _ = tt

  pub told-report-asks : (allocation : ℕ) (a : Answer) → IsAsking config (told_report allocation a)
  told-report-asks allocation (Answer.Report report) = tt
  told-report-asks allocation (Answer.Refused sense) = tt
  told-report-asks allocation _ = tt

  pub told-token-asks : (unit allocation : ℕ) (a : Answer) → IsAsking config (told_token config unit allocation a)
  told-token-asks unit allocation (Answer.Report report) = tt
  told-token-asks unit allocation (Answer.Refused sense) = tt
  told-token-asks unit allocation _ = tt

  pub told-copy-asks : (allocation : ℕ) (a : Answer) → IsAsking config (told_copy allocation a)
  told-copy-asks allocation (Answer.Copy result) = tt
  told-copy-asks allocation (Answer.Refused sense) = tt
  told-copy-asks allocation _ = tt

  told-keys-asks : (allocation : ℕ) (a : Answer) → IsAsking config (told_keys allocation a)
  told-keys-asks allocation (Answer.Keys generation keys) = tt
  told-keys-asks allocation _ = tt

  told-holder-asks : (allocation : ℕ) (a : Answer) → IsAsking config (told_holder allocation a)
  told-holder-asks allocation (Answer.Holder generation holder) = tt
  told-holder-asks allocation _ = tt

  page-asks : (allocation : ℕ) (page : Option (List ℕ)) → IsAsking config (page_told allocation page)
  page-asks allocation None = tt
  page-asks allocation (Some page) = tt

  pub inquiry-asks : (unit : ℕ) (evpd : Bool) (page allocation : ℕ) → IsAsking config (inquiry unit evpd page allocation)
  inquiry-asks unit true page allocation = page-asks allocation (vpd unit page)
  inquiry-asks unit false page allocation = go (page == 0)
    where
      go : (b : Bool) → IsAsking config (cond b (good (take allocation standard)) (refused invalid_field_in_cdb))
      go true = tt
      go false = tt

  module _ (unit : ℕ) (there : unit < length config.units) where
    -- an act that a nexus may ask
    pub asked : (act : Act) → within_limits config unit act ≡ true → ((nexus : ℕ) → may_ask unit (Actor.Nexus nexus) act ≡ true) → IsAskedOf config unit act
    asked act limits may = record { configured = there; limits = limits; asked = may }

    pub told-asks : (act : Act) (go_on : Answer → Program) → IsAskedOf config unit act → ((a : Answer) → IsAsking config (go_on a)) → IsAsking config (ask_then unit act go_on)
    told-asks act go_on is tells = (is, tt, λ a sized. tells a)

    pub alone-asks : (act : Act) → IsAskedOf config unit act → IsAsking config (act_alone unit act)
    alone-asks act is = (is, tt, λ a sized. unless_refused-asks done a tt)

    pub read-asks : (lba count : ℕ) → count ≤ 2048 → IsAsking config (ask_then unit (Act.Read lba count) told_read)
    read-asks lba count few = told-asks (Act.Read lba count) told_read (asked (Act.Read lba count) (le-leb count 2048 few) (λ n. refl)) told-read-asks

    pub write-asks : (lba count : ℕ) (out : List ℕ) → count ≤ 2048 → 0 < (unit_of config unit).block_length → length out ≡ count * (unit_of config unit).block_length
        → IsAsking config (act_alone unit (Act.Write lba (blocks_in (unit_of config unit).block_length out)))
    write-asks lba count out few some whole =
        alone-asks (Act.Write lba (blocks_in (unit_of config unit).block_length out)) (asked (Act.Write lba (blocks_in (unit_of config unit).block_length out)) limits (λ n. refl))
      where
        size : ℕ
        size = (unit_of config unit).block_length

        counted : length out / size ≡ count
        counted = div-eq_of_eq-mul_left some whole

        short : nat_le (length (blocks_in size out).items) 2048 ≡ true
        short = ap (λ n. nat_le n 2048) (length-cut size (length out / size) out ∙ counted) ∙ le-leb count 2048 few

        mapped : list_all is_some (blocks_in size out).items ≡ true
        mapped = cut-mapped size (length out / size) out

        limits : within_limits config unit (Act.Write lba (blocks_in (unit_of config unit).block_length out)) ≡ true
        limits = let fits : (size == (unit_of config unit).block_length) ≡ true = eq-eqb size size refl in rw (short, mapped, fits) refl

    pub unmap-asks : (out : List ℕ) → IsAsking config (unmap unit (unmap_read out))
    unmap-asks out = go (length out == 0) (nat_lt (length out) 8) (nat_lt 64 (unmap_count out)) refl
      where
        count-is : (n : ℕ) (bytes : List ℕ) → length (ranges_in n bytes) ≡ n
        count-is zero bytes = refl
        count-is (suc n) bytes = ap suc (count-is n _)

        all : (ranges : List Range) → nat_le (length ranges) 64 ≡ true → IsAsking config (act_alone unit (Act.Unmap ranges))
        all ranges few = alone-asks (Act.Unmap ranges) (asked (Act.Unmap ranges) few (λ n. refl))

        go : (a b c : Bool) → nat_lt 64 (unmap_count out) ≡ c → IsAsking config (unmap unit (if a then Ok [] else if b then Err parameter_list_length_error
            else if c then Err invalid_field_in_parameter_list else Ok (ranges_in (unmap_count out) (drop 8 out))))
        go true b c is = all [] refl
        go false true c is = tt
        go false false true is = tt
        go false false false is =
            all (ranges_in (unmap_count out) (drop 8 out))
            (ap (λ n. nat_le n 64) (count-is (unmap_count out) _) ∙ le-leb (unmap_count out) 64 (ltb-false 64 (unmap_count out) is))

    pub reserve_in-asks : (action allocation : ℕ) → IsAsking config (reserve_in unit action allocation)
    reserve_in-asks action allocation = go (action == 0)
      where
        go : (b : Bool) → IsAsking config (cond b (ask_then unit Act.PrKeys (told_keys allocation)) (ask_then unit Act.PrHolder (told_holder allocation)))
        go true = told-asks Act.PrKeys (told_keys allocation) (asked Act.PrKeys refl (λ n. refl)) (told-keys-asks allocation)
        go false = told-asks Act.PrHolder (told_holder allocation) (asked Act.PrHolder refl (λ n. refl)) (told-holder-asks allocation)

    pub reserve_out-asks : (action scope kind : ℕ) → (is_some (action_of action) && nat_lt scope 16 && nat_lt kind 16) ≡ true → (list : Result OutList SenseCode)
        → IsAsking config (reserve_out unit action scope kind list)
    reserve_out-asks action scope kind codes (Err sense) = tt
    reserve_out-asks action scope kind codes (Ok list) =
        alone-asks (Act.PrOut action scope kind list.key list.action_key) (asked (Act.PrOut action scope kind list.key list.action_key) codes (λ n. refl))

    -- ---- POPULATE TOKEN

    pub populate-asks : (id : ℕ) (out : List ℕ) → IsAsking config (populate unit id (populate_read out))
    populate-asks id out = go (or_else (length_fault 16 out) (or_else (populate_fault out) (range_fault (ranges_from 16 out)))) refl
      where
        ranges : List Range
        ranges = ranges_from 16 out

        timeout : ℕ
        timeout = timeout_of (field out 4 7)

        low : populate_fault out ≡ None → (nat_le 1 timeout ≡ true) × (nat_le timeout 3600 ≡ true)
        low none = by (nat_lt 3600 (field out 4 7)) (is_bad_type out) refl none
          where
            within : (asked : ℕ) → nat_lt 3600 asked ≡ false → (nat_le 1 (timeout_of asked) ≡ true) × (nat_le (timeout_of asked) 3600 ≡ true)
            within asked small = some (asked == 0) refl
              where
                least : (asked == 0) ≡ false → 1 ≤ asked
                least none = grind (arith, nat_tests)

                some : (t : Bool) → (asked == 0) ≡ t → (nat_le 1 (cond t 300 asked) ≡ true) × (nat_le (cond t 300 asked) 3600 ≡ true)
                some true is = (refl, refl)
                some false is = (le-leb 1 asked (least is), le-leb asked 3600 (ltb-false 3600 asked small))

            by : (a b : Bool) → nat_lt 3600 (field out 4 7) ≡ a → (if a then Some invalid_field_in_parameter_list else if b then Some invalid_field_in_parameter_list else None) ≡ None
                → (nat_le 1 timeout ≡ true) × (nat_le timeout 3600 ≡ true)
            by true b is e = cc
            by false true is e = cc
            by false false is e = within (field out 4 7) is

        limits : populate_fault out ≡ None → range_fault ranges ≡ None → within_limits config unit (Act.Populate id timeout ranges) ≡ true
        limits a b =
            let t = low a in
            let r = range-fits ranges b in
            rw (r.0, r.1, t.0, t.1) refl

        go : (fault : Option SenseCode) → or_else (length_fault 16 out) (or_else (populate_fault out) (range_fault ranges)) ≡ fault
            → IsAsking config (populate unit id (unless fault (Ok (record { timeout = timeout; ranges = ranges }))))
        go (Some sense) is = tt
        go None is =
            let two = last-none (length_fault 16 out) (or_else (populate_fault out) (range_fault ranges)) is in
            alone-asks (Act.Populate id timeout ranges)
            (asked (Act.Populate id timeout ranges) (limits (first-none (populate_fault out) (range_fault ranges) two) (last-none (populate_fault out) (range_fault ranges) two)) (λ n. refl))

-- ---- WRITE USING TOKEN

module _ (config : Configuration) (w : TokenWrite) (there : w.unit < length config.units)
    (named : (creator serial : ℕ) → classify w.list.token ≡ TokenKind.Names creator serial → creator < length config.units)
    (fits : range_fault w.list.ranges ≡ None) where
  delete-asks : (delete : Bool) (kind : TokenKind) → classify w.list.token ≡ kind → IsAsking config (delete_by delete kind)
  delete-asks true (TokenKind.Names creator serial) is = alone-asks config creator (named creator serial is) (Act.Delete serial) (asked config creator (named creator serial is) (Act.Delete serial) refl (λ n. refl))
  delete-asks true TokenKind.BadLength is = tt
  delete-asks true TokenKind.BadType is = tt
  delete-asks true TokenKind.Zero is = tt
  delete-asks false kind is = tt

  deleting-asks : IsAsking config (deleting w)
  deleting-asks = delete-asks w.list.delete (classify w.list.token) refl

  advancing-asks : (left : ℕ) (a : Answer) → IsAsking config (advancing w left a)
  advancing-asks left (Answer.Progress OpState.Done count) = deleting-asks
  advancing-asks left (Answer.Progress (OpState.Failed sense) count) = tt
  advancing-asks left (Answer.Progress OpState.Terminated count) = tt
  advancing-asks zero (Answer.Progress OpState.Running count) = tt
  advancing-asks (suc left) (Answer.Progress OpState.Running count) =
      (asked config w.unit there (Act.Advance w.id) refl (λ n. refl), asked config w.unit there (Act.End w.id) refl (λ n. refl), λ a sized. advancing-asks left a)
  advancing-asks left (Answer.Refused sense) = tt
  advancing-asks left Answer.Conflict = tt
  advancing-asks left _ = tt

  started-asks : (immed : Bool) (a : Answer) → IsAsking config (started w immed a)
  started-asks true a = unless_refused-asks config (deleting w) a deleting-asks
  started-asks false a = advancing-asks (pieces (wanted w)) a

  starting-asks : (rod : HeldBlocks) → length rod.items ≡ wanted w → rod.block_length ≡ (unit_of config w.unit).block_length → IsAsking config (starting w rod)
  starting-asks rod whole size =
      (asked config w.unit there (Act.Start w.id w.list.immed w.list.ranges rod) limits (λ n. refl), tt, λ a sized. started-asks w.list.immed a)
    where
      limits : within_limits config w.unit (Act.Start w.id w.list.immed w.list.ranges rod) ≡ true
      limits =
          let r = range-fits w.list.ranges fits in
          let count : (total w.list.ranges == length rod.items) ≡ true = eq-eqb (total w.list.ranges) (length rod.items) (sym whole) in
          let few : nat_le (length rod.items) 1_048_576 ≡ true = ap (λ n. nat_le n 1_048_576) whole ∙ r.1 in
          let same : (rod.block_length == (unit_of config w.unit).block_length) ≡ true = eq-eqb rod.block_length (unit_of config w.unit).block_length size in
          rw (r.0, count, few, same) refl

  redeemed-asks : (a : Answer) (creator : ℕ) → IsSized config creator (Act.Redeem w.list.token w.unit) a → IsAsking config (after_redeem w a)
  redeemed-asks (Answer.Rod rod) creator size = go (nat_lt (length rod.items) (w.list.offset + wanted w)) refl
    where
      go : (t : Bool) → nat_lt (length rod.items) (w.list.offset + wanted w) ≡ t → IsAsking config (cond t (refused invalid_field_in_parameter_list) (starting w (rod_part w rod)))
      go true short = tt
      go false enough = starting-asks (rod_part w rod) (part-whole w rod enough) size
  redeemed-asks (Answer.Refused sense) creator size = tt
  redeemed-asks _ creator size = tt

  redeem-limits : (creator serial : ℕ) → classify w.list.token ≡ TokenKind.Names creator serial → within_limits config creator (Act.Redeem w.list.token w.unit) ≡ true
  redeem-limits creator serial is =
      let names : names_unit creator (classify w.list.token) ≡ true = ap (names_unit creator) is ∙ eq-eqb creator creator refl in
      let target : nat_lt w.unit (length config.units) ≡ true = lt-ltb w.unit (length config.units) there in
      rw (names, target) refl

-- the creator of the token is looked for first
module _ (config : Configuration) (w : TokenWrite) (there : w.unit < length config.units) (fits : range_fault w.list.ranges ≡ None) where
  none-named : (kind : TokenKind) → classify w.list.token ≡ kind → ((creator serial : ℕ) → kind ≡ TokenKind.Names creator serial → ⊥)
      → (creator serial : ℕ) → classify w.list.token ≡ TokenKind.Names creator serial → creator < length config.units
  none-named kind is none creator serial names = absurd (none creator serial (sym is ∙ names))

  kind-asks : (kind : TokenKind) → classify w.list.token ≡ kind → IsAsking config (write_by config w kind)
  kind-asks TokenKind.BadLength is = tt
  kind-asks TokenKind.BadType is = tt
  kind-asks TokenKind.Zero is =
      starting-asks config w there (none-named TokenKind.Zero is (λ creator serial e. cc)) fits (zero_rod config w) (length-replicate (wanted w) None) refl
  kind-asks (TokenKind.Names creator serial) is = go (is_configured config creator) refl
    where
      named : creator < length config.units → (c s : ℕ) → classify w.list.token ≡ TokenKind.Names c s → c < length config.units
      named low c s names = let e : TokenKind.Names creator serial ≡ TokenKind.Names c s = sym is ∙ names in let same : creator ≡ c = cc in subst (λ n. n < length config.units) same low

      go : (t : Bool) → is_configured config creator ≡ t → IsAsking config (cond t (ask_then creator (Act.Redeem w.list.token w.unit) (after_redeem w)) (refused token_unknown))
      go false e = tt
      go true e =
          let low : creator < length config.units = ltb-true creator (length config.units) e in (
            asked config creator low (Act.Redeem w.list.token w.unit) (redeem-limits config w there (named low) fits creator serial is) (λ n. refl),
            tt,
            λ a sized. redeemed-asks config w there (named low) fits a creator sized,
          )

pub write-token-asks : (config : Configuration) (unit id : ℕ) (out : List ℕ) → unit < length config.units → IsAsking config (write_using_token config unit id (write_token_read out))
write-token-asks config unit id out there = go (or_else (length_fault 536 out) (range_fault (ranges_from 536 out))) refl
  where
    list : WriteList
    list = record { immed = bit out 2 0; delete = bit out 2 1; offset = field out 8 15; token = slice_range out 16 528; ranges = ranges_from 536 out }

    go : (fault : Option SenseCode) → or_else (length_fault 536 out) (range_fault (ranges_from 536 out)) ≡ fault
        → IsAsking config (write_using_token config unit id (unless fault (Ok (record { immed = bit out 2 0; delete = bit out 2 1; offset = field out 8 15; token = slice_range out 16 528; ranges = ranges_from 536 out }))))
    go (Some sense) is = tt
    go None is =
        kind-asks config (record { unit = unit; id = id; list = list }) there (last-none (length_fault 536 out) (range_fault (ranges_from 536 out)) is) (classify list.token) refl
