-- A copy makes as many tokens as its plan has parts
use Rattle.std.proofs.Common.{◌≡◌, ℕ, zero, suc, ◌+◌, ◌-◌, ◌≤◌, List, [], ◌∷◌, length, refl, ap, sym, ◌∙◌, subst, arith, true, false, Bool, inl, inr}
use Rattle.std.specs.Prelude.{Result, Ok, Err, nat_lt, cond}
use Rattle.std.proofs.lemmas.Bool.{ltb-true, ltb-false}
use Rattle.lba_ranges.specs.declared.ranges.Range.{Range}
use Rattle.lba_ranges.specs.Denoted.{total}
use Rattle.cm_frame.specs.declared.frame.Request.{Request}
use Rattle.cm_frame.specs.declared.frame.Reply.{Reply}
use Rattle.copy_plan.specs.Jobs.{CopyJob}
use Rattle.copy_plan.specs.Plans.{part_limit, IsCut, IsGreedy, IsLongestRun}
use Rattle.copy_plan.proofs.PublicLaws.{run-longest, run-part}
use Rattle.odx_host.specs.declared.port.PortFault.{PortFault}
use Rattle.odx_host.specs.declared.fault.Copied.{Copied}
use Rattle.odx_host.specs.declared.fault.CopyFault.{CopyFault}
use Rattle.odx_host.specs.Talk.{Talked}
use Rattle.odx_host.specs.StatusRead.{information_read}
use Rattle.odx_host.specs.Parts.{Part, HasPlanned, parts, parts_from, ranges_at, place_behind}
use Rattle.odx_host.specs.Requests.{populate_request, status_request, write_request}
use Rattle.odx_host.specs.Rule.{HostProgram, Asks, Ends, moved, if_good, if_ok, ask_status, token_of, is_done, polling, writing, copying, next_step, one_token, one_write, is_last, rule}
use Rattle.odx_host.specs.Ruled.{AreAsked, after, EndsSo, IsRuled}
use Rattle.odx_host.proofs.Coming.{run-some}

-- the program comes to this end
record Reaches (p : HostProgram) (copied : Copied) : Type 0 where
  pub talk : List Talked
  pub asked : AreAsked p talk
  pub ended : after p talk ≡ Ends (Ok copied)

-- no other end
not-err : (fault : CopyFault) (copied : Copied) (talk : List Talked) → AreAsked (Ends (Err fault)) talk → after (Ends (Err fault)) talk ≡ Ends (Ok copied) → ⊥
not-err fault copied [] asked e = cc
not-err fault copied (t ∷ ts) asked e = asked

ask-reach : (request : Request) (step : ℕ) (go_on : List ℕ → HostProgram) (copied : Copied) → Reaches (Asks request (if_good step go_on)) copied → (bytes : List ℕ) × Reaches (go_on bytes) copied
ask-reach request step go_on copied r = go r.talk r.asked r.ended
  where
    go : (talk : List Talked) → AreAsked (Asks request (if_good step go_on)) talk → after (Asks request (if_good step go_on)) talk ≡ Ends (Ok copied) → (bytes : List ℕ) × Reaches (go_on bytes) copied
    go [] asked e = cc
    go (t ∷ ts) asked e = by t.answer asked.1 e
      where
        by : (answer : Result Reply PortFault) → AreAsked (moved (Asks request (if_good step go_on)) answer) ts → after (moved (Asks request (if_good step go_on)) answer) ts ≡ Ends (Ok copied)
            → (bytes : List ℕ) × Reaches (go_on bytes) copied
        by (Err fault) a o = absurd (not-err _ copied ts a o)
        by (Ok (Reply.Good bytes)) a o = (bytes, record { talk = ts; asked = a; ended = o })
        by (Ok (Reply.Check sense)) a o = absurd (not-err _ copied ts a o)
        by (Ok Reply.Conflict) a o = absurd (not-err _ copied ts a o)
        by (Ok Reply.Busy) a o = absurd (not-err _ copied ts a o)
        by (Ok Reply.Full) a o = absurd (not-err _ copied ts a o)

ok-reach : {A : Type 0} (go_on : A → HostProgram) (found : Result A CopyFault) (copied : Copied) → Reaches (if_ok go_on found) copied → (x : A) × Reaches (go_on x) copied
ok-reach {A} go_on (Ok x) copied r = (x, r)
ok-reach {A} go_on (Err fault) copied r = absurd (not-err fault copied r.talk r.asked r.ended)

poll-reach : (unit step blocks : ℕ) (next : HostProgram) (polls : ℕ) (copied : Copied) → Reaches (polling unit step blocks next polls) copied → Reaches next copied
poll-reach unit step blocks next zero copied r = absurd (not-err _ copied r.talk r.asked r.ended)
poll-reach unit step blocks next (suc polls) copied r =
    let told = ask-reach (status_request unit step) step (λ bytes. if_ok (λ done. cond done next (polling unit step blocks next polls)) (is_done step blocks (information_read bytes))) copied r in
    let found = ok-reach (λ done. cond done next (polling unit step blocks next polls)) (is_done step blocks (information_read told.0)) copied told.1 in
    go found.0 found.1 (poll-reach unit step blocks next polls copied)
  where
    go : (done : Bool) → Reaches (cond done next (polling unit step blocks next polls)) copied → (Reaches (polling unit step blocks next polls) copied → Reaches next copied) → Reaches next copied
    go true x later = x
    go false x later = later x

-- the writes change no count of tokens
write-reach : (job : CopyJob) (token : List ℕ) (go_on : Copied → HostProgram) (done : Copied) (offset : ℕ) (writes : List (List Range)) (copied : Copied)
    → Reaches (writing job token go_on done offset writes) copied → (so_far : Copied) × (so_far.populates ≡ done.populates) × Reaches (go_on so_far) copied
write-reach job token go_on done offset [] copied r = (done, refl, r)
write-reach job token go_on done offset (ranges ∷ more) copied r =
    let asked = ask-reach (write_request job.target (next_step done) token offset (is_last more) ranges) (next_step done)
    (λ none. polling job.target (next_step done) (total ranges) (writing job token go_on (one_write done) (offset + total ranges) more) job.polls) copied r in
    let next = poll-reach job.target (next_step done) (total ranges) (writing job token go_on (one_write done) (offset + total ranges) more) job.polls copied asked.1 in
    write-reach job token go_on (one_write done) (offset + total ranges) more copied next

-- each part makes one token
copy-reach : (job : CopyJob) (parts : List Part) (done copied : Copied) → Reaches (copying job done parts) copied → copied.populates ≡ done.populates + length parts
copy-reach job [] done copied r = go r.talk r.asked r.ended
  where
    go : (talk : List Talked) → AreAsked (Ends (Ok done)) talk → after (Ends (Ok done)) talk ≡ Ends (Ok copied) → copied.populates ≡ done.populates + 0
    go [] asked e = let same : copied ≡ done = cc in ap (λ (c : Copied). c.populates) same ∙ omega arith
    go (t ∷ ts) asked e = absurd asked
copy-reach job (part ∷ more) done copied r =
    let step = next_step done in
    let go_on : List ℕ → HostProgram = λ token. writing job token (λ so_far. copying job so_far more) (one_token done) 0 part.writes in
    let made = ask-reach (populate_request job.source step part.ranges) step (λ none. ask_status job.source step (λ told. if_ok go_on (token_of step (total part.ranges) told))) copied r in
    let told = ask-reach (status_request job.source step) step (λ bytes. if_ok go_on (token_of step (total part.ranges) (information_read bytes))) copied made.1 in
    let token = ok-reach go_on (token_of step (total part.ranges) (information_read told.0)) copied told.1 in
    let wrote = write-reach job token.0 (λ so_far. copying job so_far more) (one_token done) 0 part.writes copied token.1 in
    let rest = copy-reach job more wrote.0 copied wrote.2 in
    let one = wrote.1 in
    omega (arith, rest, one)

-- ---- the plan

-- the ends of the parts from a place on
abbrev ends_from : ℕ → CopyJob → ℕ → List ℕ
ends_from zero job place = []
ends_from (suc left) job place = cond (nat_lt place (total job.from)) (place_behind job place ∷ ends_from left job (place_behind job place)) []

record AreEnds (job : CopyJob) (left place : ℕ) : Type 0 where
  pub cut : IsCut job.from place (total job.from) (ends_from left job place)
  pub greedy : IsGreedy job.from place (ends_from left job place)
  pub count : length (parts_from left job place) ≡ length (ends_from left job place)

are-ends : (left : ℕ) (job : CopyJob) (place : ℕ) → place ≤ total job.from → total job.from - place ≤ left → AreEnds job left place
are-ends zero job place within enough = record { cut = omega arith; greedy = tt; count = refl }
are-ends (suc left) job place within enough = go (nat_lt place (total job.from)) refl (are-ends left job)
  where
    go : (t : Bool) → nat_lt place (total job.from) ≡ t
        → ((p : ℕ) → p ≤ total job.from → total job.from - p ≤ left → AreEnds job left p) → AreEnds job (suc left) place
    go false is later =
        let over = ltb-false place (total job.from) is in
        record { cut = rw is (omega (arith, over, within)); greedy = rw is tt; count = rw is refl }
    go true is later =
        let some = ltb-true place (total job.from) is in
        let run = run-longest job.from place part_limit within in
        let there = run.there in
        let more = run-some job.from place part_limit some (omega arith) in
        let n = total (ranges_at job place) in
        let back : place_behind job place - place ≡ n = omega arith in
        let rest = later (place_behind job place) there (omega (arith, enough, more)) in
        record {
          cut = rw is (run-part job.from place n run more, rest.cut);
          greedy = rw is (subst (λ k. IsLongestRun job.from place part_limit k) (sym back) run, rest.greedy);
          count = rw is (ap suc rest.count);
        }

pub has-planned : (job : CopyJob) (talk : List Talked) (copied : Copied) → IsRuled (rule job) talk (Ok copied) → HasPlanned job copied.populates
has-planned job talk copied ruled = go ruled.ended
  where
    go : EndsSo (after (rule job) talk) (Ok copied) → HasPlanned job copied.populates
    go (inl wanted) = cc
    go (inr is) =
        let e = are-ends (total job.from) job 0 (omega arith) (omega arith) in
        let all = copy-reach job (parts job) (record { populates = 0; writes = 0 }) copied (record { talk = talk; asked = ruled.asked; ended = is }) in
        let count = e.count in
        record { ends = ends_from (total job.from) job 0; plan = e.cut; greedy = e.greedy; count = omega (arith, all, count) }
