-- A write that is polled
use Rattle.std.proofs.Common.{◌≡◌, ℕ, zero, suc, ◌<◌, ◌≤◌, ◌^◌, List, ◌∷◌, ◌++◌, length, length-append, refl, ap, sym, ◌∙◌, subst, arith, true, false, Bool, append_assoc}
use Rattle.std.specs.Prelude.{Result, Ok, Err, Some, None, cond, take, ◌==◌}
use Rattle.std.proofs.lemmas.Bool.{eq-eqb}
use Rattle.lba_ranges.specs.declared.ranges.Range.{Range}
use Rattle.lba_ranges.specs.Denoted.{blocks_of, total}
use Rattle.lba_ranges.specs.HeldBlocks.{HeldBlocks}
use Rattle.lba_ranges.proofs.PublicLaws.{length-blocks_of}
use Rattle.cm_base.specs.Units.{unit_of, is_configured}
use Rattle.scsi_sense.specs.Codes.{logical_unit_not_supported}
use Rattle.cm_history.specs.declared.act.Act.{Act}
use Rattle.cm_history.specs.declared.act.Entry.{Entry}
use Rattle.cm_history.specs.declared.answer.OpState.{OpState}
use Rattle.cm_history.specs.declared.answer.OpReport.{OpReport}
use Rattle.cm_history.specs.Reserving.{reservations, bars_act}
use Rattle.cm_history.specs.Answers.{deed, answer_after, report_of}
use Rattle.cm_history.specs.Deeds.{Deed}
use Rattle.cm_history.specs.History.{past_of}
use Rattle.cm_history.specs.Operations.{Operation, operations, written, list_of, state_of}
use Rattle.cm_history.proofs.PublicLaws.{In, Each-in, IsBegun, begun, few-written, length-paired, past-is}
use Rattle.cmd_program.specs.Judging.{program}
use Rattle.cmd_program.specs.Program.{ask_then}
use Rattle.cmd_program.specs.SingleActs.{told_token}
use Rattle.cmd_program.specs.AnswerBytes.{report_token_bytes}
use Rattle.copy_plan.specs.Jobs.{CopyJob}
use Rattle.odx_host.specs.declared.fault.Copied.{Copied}
use Rattle.odx_host.specs.declared.fault.CopyFault.{CopyFault}
use Rattle.odx_host.specs.Talk.{Talked}
use Rattle.odx_host.specs.Worlds.{World}
use Rattle.odx_host.specs.StatusRead.{information_read}
use Rattle.odx_host.specs.Requests.{status_request, status_limit}
use Rattle.odx_host.specs.Rule.{HostProgram, Ends as EndsSo, if_ok, polling, is_done}
use Rattle.odx_host.specs.Ruled.{AreAsked, after}
use Rattle.odx_host.specs.Copies.{Copies}
use Rattle.odx_host.proofs.Ran.{RanIn, never-refused}
use Rattle.odx_host.proofs.Programs.{status-program, not-there}
use Rattle.odx_host.proofs.Leaving.{Leaves, Reported, reported}
use Rattle.odx_host.proofs.Reports.{IsPlain, information, report-read, start-report}
use Rattle.odx_host.proofs.Work.{work}
use Rattle.odx_host.proofs.Finishing.{IsState, IsDone, WasStopped, state-is, finished}
use Rattle.odx_host.proofs.Advancing.{Remains, remains-longer, by-outcome, ask-on}

-- a RECEIVE ROD TOKEN INFORMATION that is answered GOOD, of a unit that is there
pub status-ran : (v : World) (unit id : ℕ) (h2 h : List Entry) (bytes : List ℕ) → id < 2 ^ 32 → RanIn v.config v.nexus (program v.config (status_request unit id)) h2 h bytes
    → RanIn v.config v.nexus (ask_then unit (Act.Report id) (told_token v.config unit status_limit)) h2 h bytes
status-ran v unit id h2 h bytes low ran = go (is_configured v.config unit) refl
  where
    go : (t : Bool) → is_configured v.config unit ≡ t
        → RanIn v.config v.nexus (ask_then unit (Act.Report id) (told_token v.config unit status_limit)) h2 h bytes
    go true is = subst (λ p. RanIn v.config v.nexus p h2 h bytes) (status-program v.config unit id is low) ran
    go false is = absurd (never-refused v.config v.nexus logical_unit_not_supported h2 h bytes
        (subst (λ p. RanIn v.config v.nexus p h2 h bytes) (not-there v.config (status_request unit id) is) ran))

-- ---- what is told of a write in the background

module _ (v : World) (unit id : ℕ) (ranges : List Range) (rod : HeldBlocks) (whole : length rod.items ≡ total ranges) (few : total ranges ≤ 1_048_576) where
  size : length (list_of (Act.Start id true ranges rod)) ≡ total ranges
  size = length-paired (blocks_of ranges) rod.items (length-blocks_of ranges ∙ sym whole) ∙ whole

  module _ (h : List Entry) (front : List Entry) (e : Entry) (o : Operation) (there : In o (operations (past_of v.config unit h)))
      (made : o.made ≡ deed v.config unit (past_of v.config unit front) e) (asks : e.act ≡ Act.Start id true ranges rod) where
    act_is : o.made.entry.act ≡ Act.Start id true ranges rod
    act_is = ap (λ (d : Deed). d.entry.act) made ∙ asks

    told_is : report_of o ≡ record { populate = false; background = true; state = state_of o (Act.Start id true ranges rod); count = length (written o); serial = None }
    told_is = start-report o id ranges rod (unit_of v.config unit) (past_of v.config unit front) e.actor
        (bars_act (reservations (past_of v.config unit front)) e.actor (Act.Start id true ranges rod)) act_is
        (ap (λ (d : Deed). d.answer) made ∙ ap (λ a. answer_after v.config unit (past_of v.config unit front) e.actor e.moment a) asks)

    listed : length (list_of o.made.entry.act) ≡ total ranges
    listed = ap (λ a. length (list_of a)) act_is ∙ size

    short : length (written o) ≤ 1_048_576
    short =
        let b = Each-in IsBegun (operations (past_of v.config unit h)) o (begun v.config unit (past_of v.config unit h) (past-is v.config unit h)) there in
        let le = few-written o b in
        omega (arith, le, listed, few)

    abbrev report : OpState → OpReport
    report state = record { populate = false; background = true; state = state; count = length (written o); serial = None }

    plain : (state : OpState) → IsState o state → IsPlain (report state)
    plain OpState.Running s = record { count = short; token = refl; sense = tt }
    plain OpState.Done s = record { count = short; token = refl; sense = tt }
    plain (OpState.Failed sense) WasStopped = record { count = short; token = refl; sense = omega arith }
    plain OpState.Terminated s = record { count = short; token = refl; sense = tt }

    -- what the host finds
    pub data Found (step : ℕ) : Result Bool CopyFault → Type 0 where
      StillRuns : Found step (Ok false)
      HasEnded : length (written o) ≡ length (list_of o.made.entry.act) → Found step (Ok true)
      HasFailed : (status : ℕ) → Found step (Err (CopyFault.Failed step status))

    found-by : (step : ℕ) (state : OpState) → IsState o state → Found step (is_done step (total ranges) (Some (information v.config unit (report state))))
    found-by step OpState.Running s = StillRuns
    found-by step OpState.Done (IsDone all) =
        let same : (length (written o) == total ranges) ≡ true = eq-eqb (length (written o)) (total ranges) (all ∙ listed) in
        subst (λ b. Found step (cond b (Ok true) (Err (CopyFault.BadData step)))) (sym same) (HasEnded all)
    found-by step (OpState.Failed sense) s = HasFailed 0x02
    found-by step OpState.Terminated s = HasFailed 0x60

    pub found : (step : ℕ) (bytes : List ℕ) → bytes ≡ take status_limit (report_token_bytes v.config unit (report_of o))
        → Found step (is_done step (total ranges) (information_read bytes))
    found step bytes told =
        let state = state_of o (Act.Start id true ranges rod) in
        let is = state-is o id ranges rod in
        let read = report-read v.config unit (report state) bytes (plain state is)
        (told ∙ ap (λ r. take status_limit (report_token_bytes v.config unit r)) told_is) in
        subst (λ i. Found step (is_done step (total ranges) i)) (sym read) (found-by step state is)

-- ---- the polls of a write

module _ (job : CopyJob) (w v : World) (outcome : Result Copied CopyFault) (n unit id : ℕ) (ranges : List Range) (rod : HeldBlocks) (whole : length rod.items ≡ total ranges) (few : total ranges ≤ 1_048_576)
    (low : id < 2 ^ 32) (front : List Entry) (e : Entry) where
  pub poll-on : (polls : ℕ) (next : HostProgram) (talk : List Talked) (h : List Entry) → Leaves v.config v.nexus n unit (Act.Start id true ranges rod) front e h
      → AreAsked (polling unit id (total ranges) next polls) talk → after (polling unit id (total ranges) next polls) talk ≡ EndsSo outcome → Remains v h talk
      → ((ts : List Talked) (h2 : List Entry) → length h ≤ length h2 → AreAsked next ts → after next ts ≡ EndsSo outcome → Remains v h2 ts
      → work (past_of v.config unit v.history) (length (past_of v.config unit front)) ≡ list_of (Act.Start id true ranges rod) → Copies job outcome w v)
      → Copies job outcome w v
  poll-on zero next talk h l asked ends r k = by-outcome job w v outcome (Err (CopyFault.Polls id)) talk asked ends tt
  poll-on (suc polls) next talk h l asked ends r k =
      ask-on job w v outcome (status_request unit id) id (λ bytes. if_ok (λ done. cond done next (polling unit id (total ranges) next polls)) (is_done id (total ranges) (information_read bytes))) talk h asked ends r
      (λ bytes ts h2 more over left ran.
      let rep = reported v.config v.nexus n unit (Act.Start id true ranges rod) front e h2 h id bytes l refl refl refl (status-ran v unit id h2 h bytes low ran) in
      go bytes ts h2 left rep (is_done id (total ranges) (information_read bytes))
      (found v unit id ranges rod whole few (h ++ rep.others) front e rep.operation rep.there rep.made_is l.asks id bytes rep.told) more over (poll-on polls))
    where
      go : (bytes : List ℕ) (ts : List Talked) (h2 : List Entry) → Remains v h2 ts → (rep : Reported v.config v.nexus n unit (Act.Start id true ranges rod) front e h h2 bytes)
          → (said : Result Bool CopyFault) → Found v unit id ranges rod whole few (h ++ rep.others) front e rep.operation rep.there rep.made_is l.asks id said
          → AreAsked (if_ok (λ done. cond done next (polling unit id (total ranges) next polls)) said) ts
          → after (if_ok (λ done. cond done next (polling unit id (total ranges) next polls)) said) ts ≡ EndsSo outcome
          → ((p : HostProgram) (t : List Talked) (x : List Entry) → Leaves v.config v.nexus n unit (Act.Start id true ranges rod) front e x
          → AreAsked (polling unit id (total ranges) p polls) t → after (polling unit id (total ranges) p polls) t ≡ EndsSo outcome → Remains v x t
          → ((ts : List Talked) (h2 : List Entry) → length x ≤ length h2 → AreAsked p ts → after p ts ≡ EndsSo outcome → Remains v h2 ts
          → work (past_of v.config unit v.history) (length (past_of v.config unit front)) ≡ list_of (Act.Start id true ranges rod) → Copies job outcome w v)
          → Copies job outcome w v)
          → Copies job outcome w v
      go bytes ts h2 left rep (Ok false) StillRuns more over later =
          let one = length-append (h ++ rep.others) (rep.e ∷ rep.behind) in
          let two = length-append h rep.others in
          let longer : length h ≤ length h2 = (let all = ap length rep.whole in omega (arith, one, two, all)) in
          later next ts h2 rep.more more over left (λ ts' h3 further a b c d. k ts' h3 (omega (arith, longer, further)) a b c d)
      go bytes ts h2 left rep (Ok true) (HasEnded all) more over later =
          let one = length-append (h ++ rep.others) (rep.e ∷ rep.behind) in
          let two = length-append h rep.others in
          let longer : length h ≤ length h2 = (let sum = ap length rep.whole in omega (arith, one, two, sum)) in
          let rest = remains-longer v h2 ts left in
          let end : (h ++ rep.others) ++ ((rep.e ∷ rep.behind) ++ rest.0) ≡ v.history =
          sym (append_assoc (h ++ rep.others) (rep.e ∷ rep.behind) rest.0) ∙ ap (λ x. x ++ rest.0) rep.whole ∙ rest.1 in
          let wrote = finished v.config unit (h ++ rep.others) ((rep.e ∷ rep.behind) ++ rest.0) v.history rep.operation end rep.there all in
          k ts h2 longer more over left
          (ap (λ (d : Deed). work (past_of v.config unit v.history) d.place) (sym rep.made_is) ∙ wrote
          ∙ ap (λ (d : Deed). list_of d.entry.act) rep.made_is ∙ ap list_of l.asks)
      go bytes ts h2 left rep (Err fault) (HasFailed status) more over later = by-outcome job w v outcome (Err fault) ts more over tt
