-- A fault of a stream is answered only where that stream counted one
use Rattle.std.proofs.Common.{◌≡◌, ℕ, zero, suc, ◌+◌, List, [], ◌∷◌, refl, sym, ap, subst, inl, inr, true, false, Bool}
use Rattle.std.specs.Prelude.{Option, Some, None, Result, Ok, Err, ◌⊎◌, ◌==◌, ◌&&◌, ◌||◌, is_some, cond}
use Rattle.lba_ranges.specs.declared.ranges.Range.{Range}
use Rattle.lba_ranges.specs.Denoted.{total}
use Rattle.cm_frame.specs.declared.frame.Request.{Request}
use Rattle.cm_frame.specs.declared.frame.Reply.{Reply}
use Rattle.copy_plan.specs.Jobs.{CopyJob}
use Rattle.odx_host.specs.declared.port.PortFault.{PortFault}
use Rattle.odx_host.specs.declared.fault.Copied.{Copied}
use Rattle.odx_host.specs.declared.fault.CopyFault.{CopyFault}
use Rattle.odx_host.specs.declared.stream_port.StreamFault.{StreamFault}
use Rattle.odx_host.specs.Talk.{Talked}
use Rattle.odx_host.specs.StatusRead.{Information, information_read}
use Rattle.odx_host.specs.Parts.{Part, parts}
use Rattle.odx_host.specs.Rule.{HostProgram, Asks, Ends, if_good, if_ok, token_by, token_of, is_done, polling, next_step, one_token, one_write, writing, copying, port_fault, moved, rule}
use Rattle.odx_host.specs.Ruled.{AreAsked, after, EndsSo}
use Rattle.odx_host.specs.Linked.{LinkState, IsCounted, Spoke}
use Rattle.odx_host.specs.CopiedOver.{outcome_of, IsCopied, IsUnread, IsNoJob, IsReadCounted, CopiedOver, AreCounted}

-- ---- the rule ends by no fault of a port but one that it is answered

abbrev IsQuietly : Result Copied CopyFault → Type 0
IsQuietly (Err (CopyFault.Port fault)) = ⊥
IsQuietly outcome = Unit {0}

abbrev IsQuiet : HostProgram → Type 0
IsQuiet (Ends outcome) = IsQuietly outcome
IsQuiet (Asks request go_on) = (reply : Reply) → IsQuiet (go_on reply)

good-quiet : (step : ℕ) (go_on : List ℕ → HostProgram) (reply : Reply) → ((bytes : List ℕ) → IsQuiet (go_on bytes)) → IsQuiet (if_good step go_on reply)
good-quiet step go_on (Reply.Good bytes) quiet = quiet bytes
good-quiet step go_on _ quiet = tt

-- a result without a fault of a port
abbrev IsQuietResult : {A : Type 0} → Result A CopyFault → Type 0
IsQuietResult {A} (Ok x) = Unit {0}
IsQuietResult {A} (Err fault) = IsQuietly (Err fault)

ok-quiet : {A : Type 0} (go_on : A → HostProgram) (r : Result A CopyFault) → IsQuietResult r → ((x : A) → IsQuiet (go_on x)) → IsQuiet (if_ok go_on r)
ok-quiet go_on (Ok x) is quiet = quiet x
ok-quiet go_on (Err fault) is quiet = is

by-quiet : (step : ℕ) (token : Option (List ℕ)) → IsQuietResult (token_by step token)
by-quiet step None = tt
by-quiet step (Some token) = tt

token-quiet : (step blocks : ℕ) (told : Option Information) → IsQuietResult (token_of step blocks told)
token-quiet step blocks None = tt
token-quiet step blocks (Some told) = go ((told.status.status == 0x01) && (told.status.count == blocks))
  where
    go : (is : Bool) → IsQuietResult (cond is (token_by step told.token) (Err (CopyFault.BadData step)))
    go true = by-quiet step told.token
    go false = tt

done-quiet : (step blocks : ℕ) (told : Option Information) → IsQuietResult (is_done step blocks told)
done-quiet step blocks None = tt
done-quiet step blocks (Some told) =
    go (is_some told.token || (told.status.status == 0x11)) (told.status.status == 0x12) (told.status.status == 0x01) (told.status.count == blocks)
  where
    go : (bad runs done all : Bool) → IsQuietResult (cond bad (Err (CopyFault.BadData step)) (cond runs (Ok false)
        (cond done (cond all (Ok true) (Err (CopyFault.BadData step))) (Err (CopyFault.Failed step told.status.status)))))
    go true runs done all = tt
    go false true done all = tt
    go false false true true = tt
    go false false true false = tt
    go false false false all = tt

polling-quiet : (unit step blocks : ℕ) (next : HostProgram) (polls : ℕ) → IsQuiet next → IsQuiet (polling unit step blocks next polls)
polling-quiet unit step blocks next zero quiet = tt
polling-quiet unit step blocks next (suc polls) quiet = λ reply.
    good-quiet step (λ bytes. if_ok (λ done. cond done next (polling unit step blocks next polls)) (is_done step blocks (information_read bytes))) reply
    (λ bytes. ok-quiet (λ done. cond done next (polling unit step blocks next polls)) (is_done step blocks (information_read bytes))
    (done-quiet step blocks (information_read bytes)) (by (polling-quiet unit step blocks next polls quiet)))
  where
    by : IsQuiet (polling unit step blocks next polls) → (done : Bool) → IsQuiet (cond done next (polling unit step blocks next polls))
    by later true = quiet
    by later false = later

writing-quiet : (job : CopyJob) (token : List ℕ) (go_on : Copied → HostProgram) (done : Copied) (offset : ℕ) (writes : List (List Range))
    → ((so_far : Copied) → IsQuiet (go_on so_far)) → IsQuiet (writing job token go_on done offset writes)
writing-quiet job token go_on done offset [] quiet = quiet done
writing-quiet job token go_on done offset (ranges ∷ more) quiet = λ reply.
    good-quiet (next_step done) _ reply (λ bytes. polling-quiet job.target (next_step done) (total ranges) _ job.polls
    (writing-quiet job token go_on (one_write done) (offset + total ranges) more quiet))

copying-quiet : (job : CopyJob) (done : Copied) (left : List Part) → IsQuiet (copying job done left)
copying-quiet job done [] = tt
copying-quiet job done (part ∷ more) = λ reply.
    good-quiet (next_step done) _ reply (λ none told. good-quiet (next_step done) _ told (λ bytes.
    ok-quiet _ (token_of (next_step done) (total part.ranges) (information_read bytes)) (token-quiet (next_step done) (total part.ranges) (information_read bytes)) (λ token.
    writing-quiet job token (λ so_far. copying job so_far more) (one_token done) 0 part.writes (λ so_far. copying-quiet job so_far more))))

-- ---- what the streams counted

outcome-counted : (outcome : Result Copied CopyFault) (reads writes : ℕ) → IsQuietly outcome → AreCounted (outcome_of outcome) reads reads writes writes
outcome-counted (Ok copied) reads writes is = (refl, refl)
outcome-counted (Err CopyFault.OutOfMemory) reads writes is = tt
outcome-counted (Err (CopyFault.Port fault)) reads writes is = absurd is
outcome-counted (Err (CopyFault.Refused step reply)) reads writes is = (refl, refl)
outcome-counted (Err (CopyFault.BadData step)) reads writes is = (refl, refl)
outcome-counted (Err (CopyFault.Failed step status)) reads writes is = (refl, refl)
outcome-counted (Err (CopyFault.Polls step)) reads writes is = (refl, refl)

fault-counted : (fault : PortFault) (r r' w w' : ℕ) → IsCounted (Err fault) r r' w w' → AreCounted (outcome_of (Err (port_fault fault))) r r' w w'
fault-counted PortFault.OutOfMemory r r' w w' c = tt
fault-counted PortFault.ReadFault r r' w w' c = c
fault-counted PortFault.WriteFault r r' w w' c = c
fault-counted PortFault.Ended r r' w w' c = c
fault-counted PortFault.BadReply r r' w w' c = c

-- what is at an end asks nothing, and has ended so
ended-counted : (fault : PortFault) (talk : List Talked) (between last : LinkState) (outcome : Result Copied CopyFault) (r w : ℕ)
    → IsCounted (Err fault) r between.read_faults w between.write_faults → AreAsked (Ends (Err (port_fault fault))) talk → Spoke between talk last
    → EndsSo (after (Ends (Err (port_fault fault))) talk) outcome → AreCounted (outcome_of outcome) r last.read_faults w last.write_faults
ended-counted fault (t ∷ ts) between last outcome r w c asked spoke ended = absurd asked
ended-counted fault [] between last outcome r w c asked spoke (inl wanted) = subst (λ o. AreCounted (outcome_of o) r last.read_faults w last.write_faults) (sym wanted) tt
ended-counted fault [] between last outcome r w c asked spoke (inr is) =
    let same : Err (port_fault fault) ≡ outcome = ap ended_as is in
    subst (λ (s : LinkState). AreCounted (outcome_of outcome) r s.read_faults w s.write_faults) (sym spoke)
    (subst (λ o. AreCounted (outcome_of o) r between.read_faults w between.write_faults) same (fault-counted fault r between.read_faults w between.write_faults c))
  where
    ended_as : HostProgram → Result Copied CopyFault
    ended_as (Ends o) = o
    ended_as (Asks request go_on) = outcome

abbrev CountedFrom : HostProgram → List Talked → Type 0
CountedFrom p talk = (first last : LinkState) (outcome : Result Copied CopyFault) → AreAsked p talk → Spoke first talk last → EndsSo (after p talk) outcome
    → AreCounted (outcome_of outcome) first.read_faults last.read_faults first.write_faults last.write_faults

-- behind an answer
answer-counted : (request : Request) (go_on : Reply → HostProgram) (answer : Result Reply PortFault) (talk : List Talked) (first between last : LinkState) (outcome : Result Copied CopyFault)
    → ((reply : Reply) → CountedFrom (go_on reply) talk) → IsCounted answer first.read_faults between.read_faults first.write_faults between.write_faults
    → AreAsked (moved (Asks request go_on) answer) talk → Spoke between talk last → EndsSo (after (moved (Asks request go_on) answer) talk) outcome
    → AreCounted (outcome_of outcome) first.read_faults last.read_faults first.write_faults last.write_faults
answer-counted request go_on (Ok reply) talk first between last outcome later c asked spoke ended =
    subst (λ r. AreCounted (outcome_of outcome) r last.read_faults first.write_faults last.write_faults) c.0
    (subst (λ w. AreCounted (outcome_of outcome) between.read_faults last.read_faults w last.write_faults) c.1
    (later reply between last outcome asked spoke ended))
answer-counted request go_on (Err fault) talk first between last outcome later c asked spoke ended =
    ended-counted fault talk between last outcome first.read_faults first.write_faults c asked spoke ended

talk-counted : (talk : List Talked) (p : HostProgram) → IsQuiet p → CountedFrom p talk
talk-counted [] p quiet first last outcome asked spoke (inl wanted) =
    subst (λ o. AreCounted (outcome_of o) first.read_faults last.read_faults first.write_faults last.write_faults) (sym wanted) tt
talk-counted [] p quiet first last outcome asked spoke (inr is) =
    subst (λ (s : LinkState). AreCounted (outcome_of outcome) first.read_faults s.read_faults first.write_faults s.write_faults) (sym spoke)
    (outcome-counted outcome first.read_faults first.write_faults (subst IsQuiet is quiet))
talk-counted (t ∷ ts) (Ends o) quiet first last outcome asked spoke ended = absurd asked
talk-counted (t ∷ ts) (Asks request go_on) quiet first last outcome asked spoke ended =
    answer-counted request go_on t.answer ts first spoke.0 last outcome (λ reply. talk-counted ts (go_on reply) (quiet reply)) spoke.1.counted asked.1 spoke.2 ended

-- ---- the whole

unread-counted : (fault : StreamFault) (front : List ℕ) (behind : Option (List ℕ)) (r r' w w' : ℕ) → IsNoJob fault front behind → IsReadCounted fault r r' → w' ≡ w
    → AreCounted (Err fault) r r' w w'
unread-counted StreamFault.OutOfMemory front behind r r' w w' none c same = tt
unread-counted StreamFault.ReadFault front behind r r' w w' none c same = (c, same)
unread-counted StreamFault.WriteFault front behind r r' w w' none c same = absurd none
unread-counted StreamFault.Torn front behind r r' w w' none c same = (c, same)
unread-counted (StreamFault.BadJob place) front behind r r' w w' none c same = (c, same)
unread-counted StreamFault.Ended front behind r r' w w' none c same = (c, same)
unread-counted StreamFault.BadReply front behind r r' w w' none c same = (c, same)
unread-counted (StreamFault.Refused step) front behind r r' w w' none c same = (c, same)
unread-counted (StreamFault.BadData step) front behind r r' w w' none c same = (c, same)
unread-counted (StreamFault.Failed step) front behind r r' w w' none c same = (c, same)
unread-counted (StreamFault.Polls step) front behind r r' w w' none c same = (c, same)

pub copied-counted : (before last : LinkState) (result : Result Copied StreamFault) → CopiedOver before last result
    → AreCounted result before.read_faults last.read_faults before.write_faults last.write_faults
copied-counted before last result h = go h.ended
  where
    go : IsUnread h.behind h.front before last result ⊎ IsCopied h.behind h.front before last result → AreCounted result before.read_faults last.read_faults before.write_faults last.write_faults
    go (inl u) = subst (λ r. AreCounted r before.read_faults last.read_faults before.write_faults last.write_faults) (sym u.is)
        (unread-counted u.fault h.front h.behind before.read_faults last.read_faults before.write_faults last.write_faults u.none u.reads u.quiet.writes)
    go (inr d) = subst (λ r. AreCounted r before.read_faults last.read_faults before.write_faults last.write_faults) (sym d.talked.is)
        (talk-counted d.talked.talk (rule d.job) (copying-quiet d.job (record { populates = 0; writes = 0 }) (parts d.job)) _ last d.talked.outcome d.talked.ruled.asked d.talked.spoke d.talked.ruled.ended)
