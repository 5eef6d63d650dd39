-- A token that is made
use Rattle.std.proofs.Common.{◌≡◌, ℕ, ◌<◌, ◌≤◌, ◌^◌, List, ◌∷◌, ◌++◌, length, length-append, refl, ap, sym, ◌∙◌, subst, arith, true, false, Bool, append_assoc}
use Rattle.std.specs.Prelude.{Result, Ok, Err, Some, ◌==◌, cond, take}
use Rattle.std.proofs.lemmas.Bool.{eq-eqb}
use Rattle.lba_ranges.specs.declared.ranges.Range.{Range}
use Rattle.lba_ranges.specs.Denoted.{total}
use Rattle.cm_base.specs.Units.{unit_of, is_configured}
use Rattle.scsi_sense.specs.Codes.{logical_unit_not_supported}
use Rattle.rod_token.specs.TokenText.{token_text}
use Rattle.cm_history.specs.declared.act.Act.{Act}
use Rattle.cm_history.specs.declared.act.Actor.{Actor}
use Rattle.cm_history.specs.declared.act.Entry.{Entry}
use Rattle.cm_history.specs.declared.answer.Answer.{Answer}
use Rattle.cm_history.specs.declared.answer.OpState.{OpState}
use Rattle.cm_history.specs.declared.answer.OpReport.{OpReport}
use Rattle.cm_history.specs.Reserving.{reservations, bars_act}
use Rattle.cm_history.specs.Answers.{answer_after, answer_populate, report_of}
use Rattle.cm_history.specs.Deeds.{Deed, is_refusal}
use Rattle.cm_history.specs.History.{answer, past_of}
use Rattle.cm_history.specs.Tokens.{tokens}
use Rattle.cmd_program.specs.AnswerBytes.{report_token_bytes}
use Rattle.cmd_program.specs.Judging.{program}
use Rattle.cmd_program.specs.SingleActs.{act_alone}
use Rattle.copy_plan.specs.Jobs.{CopyJob}
use Rattle.odx_host.specs.declared.fault.Copied.{Copied}
use Rattle.odx_host.specs.declared.fault.CopyFault.{CopyFault}
use Rattle.odx_host.specs.Talk.{Talked}
use Rattle.odx_host.specs.Worlds.{World}
use Rattle.odx_host.specs.StatusRead.{information_read}
use Rattle.odx_host.specs.Requests.{populate_request, status_request, status_limit, token_timeout}
use Rattle.odx_host.specs.Rule.{HostProgram, Ends, if_ok, ask_status, populating, token_of}
use Rattle.odx_host.specs.Ruled.{AreAsked, after}
use Rattle.odx_host.specs.Copies.{Copies}
use Rattle.odx_host.proofs.Ran.{RanIn, never-refused}
use Rattle.odx_host.proofs.Programs.{MayName, populate-program, not-there}
use Rattle.odx_host.proofs.Leaving.{Leaves, Reported, left-by, reported}
use Rattle.odx_host.proofs.Reports.{IsPlain, report-read, populate-answer, populate-report}
use Rattle.odx_host.proofs.Polled.{status-ran}
use Rattle.odx_host.proofs.Advancing.{Remains, remains-longer, ask-on}

-- the nexus made the token, of these ranges, before the history came to `h` entries
pub record HasToken (v : World) (n unit id : ℕ) (ranges : List Range) (h : ℕ) (token : List ℕ) : Type 0 where
  pub front : List Entry
  pub e : Entry
  pub behind : List Entry
  pub whole : front ++ e ∷ behind ≡ v.history
  pub late : n ≤ length front
  pub passed : length front < h
  pub actor : e.actor ≡ Actor.Nexus v.nexus
  pub on_unit : e.unit ≡ unit
  pub asks : e.act ≡ Act.Populate id token_timeout ranges
  pub serial : ℕ
  pub made : answer v.config front unit e.actor e.moment e.act ≡ Answer.Made serial
  pub low : serial < 2 ^ 48
  pub token_is : token ≡ token_text v.config unit serial (total ranges)

populate-ran : (v : World) (unit id : ℕ) (ranges : List Range) (h2 h : List Entry) (bytes : List ℕ) → id < 2 ^ 32 → MayName ranges
    → RanIn v.config v.nexus (program v.config (populate_request unit id ranges)) h2 h bytes → RanIn v.config v.nexus (act_alone unit (Act.Populate id token_timeout ranges)) h2 h bytes
populate-ran v unit id ranges h2 h bytes low named ran = go (is_configured v.config unit) refl
  where
    go : (t : Bool) → is_configured v.config unit ≡ t → RanIn v.config v.nexus (act_alone unit (Act.Populate id token_timeout ranges)) h2 h bytes
    go true is = subst (λ p. RanIn v.config v.nexus p h2 h bytes) (populate-program v.config unit id ranges is low named) ran
    go false is = absurd (never-refused v.config v.nexus logical_unit_not_supported h2 h bytes
        (subst (λ p. RanIn v.config v.nexus p h2 h bytes) (not-there v.config (populate_request unit id ranges) is) ran))

module _ (job : CopyJob) (w v : World) (outcome : Result Copied CopyFault) (n unit id : ℕ) (ranges : List Range) (low : id < 2 ^ 32) (named : MayName ranges) (few : total ranges ≤ 1_048_576) where
  -- what is told of the token
  token-told : (front : List Entry) (e : Entry) (h h2 : List Entry) (bytes : List ℕ) → Leaves v.config v.nexus n unit (Act.Populate id token_timeout ranges) front e h
      → (rep : Reported v.config v.nexus n unit (Act.Populate id token_timeout ranges) front e h h2 bytes)
      → (serial : ℕ) × (answer v.config front unit e.actor e.moment e.act ≡ Answer.Made serial) × (serial < 2 ^ 48)
      × (token_of id (total ranges) (information_read bytes) ≡ Ok (token_text v.config unit serial (total ranges)))
  token-told front e h h2 bytes l rep =
      let past = past_of v.config unit front in
      let serial = length (tokens past) in
      let barred = bars_act (reservations past) e.actor (Act.Populate id token_timeout ranges) in
      let asked : answer v.config front unit e.actor e.moment e.act ≡ cond barred Answer.Conflict (answer_populate (unit_of v.config unit) past e.actor id ranges) =
      ap (λ a. answer_after v.config unit past e.actor e.moment a) l.asks in
      let found = populate-answer (unit_of v.config unit) past e.actor id ranges barred (sym (ap is_refusal asked) ∙ l.answered) in
      let made : answer v.config front unit e.actor e.moment e.act ≡ Answer.Made serial = asked ∙ found.0 in
      let r : OpReport = record { populate = true; background = false; state = OpState.Done; count = total ranges; serial = Some serial } in
      let told_is : report_of rep.operation ≡ r = populate-report rep.operation id token_timeout serial ranges
      (ap (λ (d : Deed). d.entry.act) rep.made_is ∙ l.asks) (ap (λ (d : Deed). d.answer) rep.made_is ∙ made) in
      let plain : IsPlain r = record { count = few; token = refl; sense = tt } in
      let read = report-read v.config unit r bytes plain (rep.told ∙ ap (λ x. take status_limit (report_token_bytes v.config unit x)) told_is) in
      let text = token_text v.config unit serial (total ranges) in
      let same : (total ranges == total ranges) ≡ true = eq-eqb (total ranges) (total ranges) refl in (
        serial,
        made,
        found.1,
        ap (token_of id (total ranges)) read ∙ ap (λ b. cond b (Ok text) (Err (CopyFault.BadData id))) same,
      )

  pub populate-on : (go_on : List ℕ → HostProgram) (talk : List Talked) (h : List Entry) → n ≤ length h
      → AreAsked (populating unit id ranges go_on) talk → after (populating unit id ranges go_on) talk ≡ Ends outcome → Remains v h talk
      → ((token : List ℕ) (ts : List Talked) (h2 : List Entry) → length h ≤ length h2 → AreAsked (go_on token) ts → after (go_on token) ts ≡ Ends outcome → Remains v h2 ts
      → HasToken v n unit id ranges (length h2) token → Copies job outcome w v)
      → Copies job outcome w v
  populate-on go_on talk h late asked ends r k =
      ask-on job w v outcome (populate_request unit id ranges) id (λ none. ask_status unit id (λ told. if_ok go_on (token_of id (total ranges) told))) talk h asked ends r
      (λ none ts h1 more over left ran.
      let made = left-by v.config v.nexus n h1 h unit (Act.Populate id token_timeout ranges) none late (populate-ran v unit id ranges h1 h none low named ran) in
      let front = made.0 in
      let e = made.1 in
      let l = made.2 in
      ask-on job w v outcome (status_request unit id) id (λ bytes. if_ok go_on (token_of id (total ranges) (information_read bytes))) ts h1 more over left
      (λ bytes ts2 h2 more2 over2 left2 ran2.
      let rep = reported v.config v.nexus n unit (Act.Populate id token_timeout ranges) front e h2 h1 id bytes l refl refl refl (status-ran v unit id h2 h1 bytes low ran2) in
      let t = token-told front e h1 h2 bytes l rep in
      let text = token_text v.config unit t.0 (total ranges) in
      let rest = remains-longer v h2 ts2 left2 in
      let m = rep.more in
      let one = length-append front (e ∷ m.quiet) in
      let size = ap length m.whole in
      let long : length h ≤ length front = made.3 in
      k text ts2 h2 (omega (arith, one, size, late, long))
      (subst (λ x. AreAsked (if_ok go_on x) ts2) t.3 more2) (subst (λ x. after (if_ok go_on x) ts2 ≡ Ends outcome) t.3 over2) left2
      (record {
        front = front;
        e = e;
        behind = m.quiet ++ rest.0;
        whole = sym (append_assoc front (e ∷ m.quiet) rest.0) ∙ ap (λ x. x ++ rest.0) m.whole ∙ rest.1;
        late = m.late;
        passed = omega (arith, one, size);
        actor = m.actor;
        on_unit = m.on_unit;
        asks = m.asks;
        serial = t.0;
        made = t.1;
        low = t.2;
        token_is = refl;
      })))
