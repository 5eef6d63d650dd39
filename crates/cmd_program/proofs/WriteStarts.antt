-- A write in the foreground is started where nothing stands against it
use Rattle.std.proofs.Common.{◌≡◌, ◌∙◌, ℕ, ◌+◌, ◌≤◌, List, [], ◌∷◌, length, refl, ap, sym, subst, false, true, Bool, arith}
use Rattle.std.specs.Prelude.{◌==◌, cond, fold, not, nat_lt, Some, None, if◌then◌else◌}
use Rattle.std.proofs.lemmas.Bool.Decides.{nat_tests}
use Rattle.cm_base.specs.Configuration.{Configuration}
use Rattle.cm_base.specs.Units.{unit_of, is_configured}
use Rattle.lba_ranges.specs.declared.ranges.Range.{Range}
use Rattle.lba_ranges.specs.Denoted.{is_within}
use Rattle.lba_ranges.specs.HeldBlocks.{HeldBlocks}
use Rattle.scsi_sense.specs.Codes.{logical_unit_not_supported, parameter_list_length_error, invalid_field_in_parameter_list, token_unknown, operation_in_progress, lba_out_of_range, insufficient_resources}
use Rattle.scsi_cdb.specs.declared.cdb.Cdb.{Cdb}
use Rattle.scsi_cdb.specs.Decoded.{decoded}
use Rattle.block_params.specs.ListsRead.{write_token_read}
use Rattle.rod_token.specs.declared.kind.TokenKind.{TokenKind}
use Rattle.rod_token.specs.TokenText.{classify}
use Rattle.cm_frame.specs.declared.frame.Request.{Request}
use Rattle.cm_history.specs.declared.act.Act.{Act}
use Rattle.cm_history.specs.declared.act.Actor.{Actor}
use Rattle.cm_history.specs.declared.act.Entry.{Entry}
use Rattle.cm_history.specs.declared.answer.Answer.{Answer}
use Rattle.cm_history.specs.declared.answer.OpState.{OpState}
use Rattle.cm_history.specs.Deeds.{Deed}
use Rattle.cm_history.specs.Operations.{OfToken}
use Rattle.cm_history.specs.Reserving.{reservations, bars_access}
use Rattle.cm_history.specs.Answers.{is_busy, is_crowded}
use Rattle.cm_history.specs.History.{past_of, answer}
use Rattle.cmd_program.specs.declared.step.Outcome.{Outcome}
use Rattle.cmd_program.specs.Program.{Program, next, moved, refused, ask_then}
use Rattle.cmd_program.specs.TokenWrite.{TokenWrite, wanted, started, starting, rod_part, after_redeem, zero_rod, write_by, write_using_token}
use Rattle.cmd_program.specs.Judging.{program, judged_cdb, judged_out}
use Rattle.cmd_program.specs.WriteEnds.{IsWriteNow, is_progress}
use Rattle.cmd_program.specs.WriteStarts.{write_of, HasPart, MayStart, IsStartedBy, WritesAreStarted}

module _ (config : Configuration) (nexus : ℕ) (entries : List Entry) (moment : ℕ) (w : TokenWrite)
    (may : MayStart config (past_of config w.unit entries) nexus w) where
  -- its program asks for the Start after these outcomes, and is answered
  abbrev Starts : Program → List Outcome → Type 0
  Starts p outcomes = IsStartedBy config entries nexus moment (next (fold moved p outcomes))

  start-answered : (immed : Bool) (rod : HeldBlocks)
      → is_progress (Outcome.Answered (answer config entries w.unit (Actor.Nexus nexus) moment (Act.Start w.id immed w.list.ranges rod))) ≡ true
  start-answered immed rod =
      go (bars_access (reservations (past_of config w.unit entries)) (Actor.Nexus nexus) (Some true)) (is_busy (past_of config w.unit entries) (Actor.Nexus nexus) OfToken w.id)
      (is_within (unit_of config w.unit).blocks w.list.ranges) (is_crowded (past_of config w.unit entries)) may.not_barred may.not_busy may.within may.not_crowded
    where
      go : (t a b c : Bool) → t ≡ false → a ≡ false → b ≡ true → c ≡ false
          → is_progress (Outcome.Answered (if t then Answer.Conflict else if a then Answer.Refused operation_in_progress else if not b then Answer.Refused lba_out_of_range
          else if c then Answer.Refused insufficient_resources else Answer.Progress (if length rod.items == 0 then OpState.Done else OpState.Running) 0)) ≡ true
      go true a b c is-t is-a is-b is-c = cc
      go false true b c is-t is-a is-b is-c = cc
      go false false false c is-t is-a is-b is-c = cc
      go false false true true is-t is-a is-b is-c = cc
      go false false true false is-t is-a is-b is-c = refl

  starting-starts : (rod : HeldBlocks) → Starts (starting w rod) []
  starting-starts rod = start-answered w.list.immed rod

  redeemed-starts : (rod : HeldBlocks) → w.list.offset + wanted w ≤ length rod.items → Starts (after_redeem w (Answer.Rod rod)) []
  redeemed-starts rod enough = go (nat_lt (length rod.items) (w.list.offset + wanted w)) (not-less (length rod.items) (w.list.offset + wanted w) enough)
    where
      not-less : (n m : ℕ) → m ≤ n → nat_lt n m ≡ false
      not-less n m low = grind (arith, nat_tests)

      go : (t : Bool) → t ≡ false → Starts (cond t (refused invalid_field_in_parameter_list) (starting w (rod_part w rod))) []
      go true is = cc
      go false is = starting-starts (rod_part w rod)

  kind-starts : (kind : TokenKind) (outcomes : List Outcome) → HasPart config w kind outcomes → Starts (write_by config w kind) outcomes
  kind-starts TokenKind.BadLength outcomes has = absurd has
  kind-starts TokenKind.BadType outcomes has = absurd has
  kind-starts TokenKind.Zero outcomes has = subst (Starts (write_by config w TokenKind.Zero)) (sym has) (starting-starts (zero_rod config w))
  kind-starts (TokenKind.Names creator serial) outcomes (there, has) =
      subst (Starts (write_by config w (TokenKind.Names creator serial))) (sym has.1) (go (is_configured config creator) there)
    where
      go : (t : Bool) → t ≡ true → Starts (cond t (ask_then creator (Act.Redeem w.list.token w.unit) (after_redeem w)) (refused token_unknown)) (Outcome.Answered (Answer.Rod has.0) ∷ [])
      go true is = redeemed-starts has.0 has.2
      go false is = cc

pub writes-are-started : (config : Configuration) → WritesAreStarted config
writes-are-started config nexus r entries moment outcomes is there right part may = whole (is_configured config r.unit) there
  where
    Here : Program → Type 0
    Here p = IsStartedBy config entries nexus moment (next (fold moved p outcomes))

    read : Here (write_using_token config r.unit is.id (write_token_read r.out))
    read = subst (λ l. Here (write_using_token config r.unit is.id l)) (sym is.read)
        (kind-starts config nexus entries moment (write_of r is) may (classify is.list.token) outcomes part)

    out : (t : Bool) → t ≡ true → Here (judged_out config r (Cdb.WriteUsingToken is.id is.length) (if t then None else Some parameter_list_length_error))
    out true is = read
    out false is = cc

    command : Here (judged_cdb config r (decoded r.cdb))
    command = subst (λ c. Here (judged_cdb config r c)) (sym is.command) (out (length r.out == is.length) (same (length r.out) is.length right))
      where
        same : (n m : ℕ) → n ≡ m → (n == m) ≡ true
        same n m e = grind (arith, nat_tests)

    whole : (b : Bool) → b ≡ true → Here (cond b (judged_cdb config r (decoded r.cdb)) (refused logical_unit_not_supported))
    whole true is = command
    whole false is = cc
