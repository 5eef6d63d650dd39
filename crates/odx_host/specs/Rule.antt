-- What the host copier asks, one request after the other, by what it is answered, and how it ends
use Rattle.std.specs.Prelude.{ℕ, zero, suc, ◌+◌, ◌==◌, List, [], ◌∷◌, Option, Some, None, is_some, Result, Ok, Err, Bool, true, false, ◌&&◌, ◌||◌, if◌then◌else◌}
use Rattle.lba_ranges.specs.declared.ranges.Range.{Range}
use Rattle.lba_ranges.specs.Denoted.{total}
use Rattle.cm_frame.specs.declared.frame.Request.{Request}
use Rattle.cm_frame.specs.declared.frame.Reply.{Reply}
use Rattle.copy_plan.specs.Jobs.{CopyJob}
use Rattle.odx_host.specs.declared.port.PortFault.{PortFault}
use Rattle.odx_host.specs.declared.fault.Copied.{Copied}
use Rattle.odx_host.specs.declared.fault.CopyFault.{CopyFault}
use Rattle.odx_host.specs.StatusRead.{Information, information_read}
use Rattle.odx_host.specs.Requests.{populate_request, status_request, write_request}
use Rattle.odx_host.specs.Parts.{Part, parts}

-- the host copier asks a request and goes on by the reply, or it ends
pub data HostProgram : Type 0 where
  Asks : Request → (Reply → HostProgram) → HostProgram
  Ends : Result Copied CopyFault → HostProgram

-- a fault of the port ends the copy
abbrev pub port_fault : PortFault → CopyFault
port_fault PortFault.OutOfMemory = CopyFault.OutOfMemory
port_fault fault = CopyFault.Port fault

-- the program after an answer
abbrev pub moved : HostProgram → Result Reply PortFault → HostProgram
moved (Ends outcome) answer = Ends outcome
moved (Asks request go_on) (Ok reply) = go_on reply
moved (Asks request go_on) (Err fault) = Ends (Err (port_fault fault))

-- ---- words for programs; `step` is the identifier of the POPULATE TOKEN or WRITE USING TOKEN that is under way

-- goes on with the data of a GOOD; any other reply is a refusal
abbrev pub if_good : ℕ → (List ℕ → HostProgram) → Reply → HostProgram
if_good step go_on (Reply.Good bytes) = go_on bytes
if_good step go_on reply = Ends (Err (CopyFault.Refused step reply))

-- goes on where there is no fault
abbrev pub if_ok : {A : Type 0} → (A → HostProgram) → Result A CopyFault → HostProgram
if_ok {A} go_on (Ok x) = go_on x
if_ok {A} go_on (Err fault) = Ends (Err fault)

-- asks how the operation stands
abbrev pub ask_status : ℕ → ℕ → (Option Information → HostProgram) → HostProgram
ask_status unit step go_on = Asks (status_request unit step) (if_good step (λ bytes. go_on (information_read bytes)))

-- ---- one token

-- the data of a reply is no answer to its request
abbrev pub bad_data : {A : Type 0} → ℕ → Result A CopyFault
bad_data {A} step = Err (CopyFault.BadData step)

-- the token of a POPULATE TOKEN of so many blocks
abbrev pub token_by : ℕ → Option (List ℕ) → Result (List ℕ) CopyFault
token_by step None = bad_data step
token_by step (Some token) = Ok token

-- a POPULATE TOKEN is told as done, of all its blocks, with its token
abbrev pub token_of : ℕ → ℕ → Option Information → Result (List ℕ) CopyFault
token_of step blocks None = bad_data step
token_of step blocks (Some told) = if (told.status.status == 0x01) && (told.status.count == blocks) then token_by step told.token else bad_data step

-- a token is made of the blocks, and is told
abbrev pub populating : ℕ → ℕ → List Range → (List ℕ → HostProgram) → HostProgram
populating unit step ranges go_on =
    Asks (populate_request unit step ranges)
    (if_good step (λ none. ask_status unit step (λ told. if_ok go_on (token_of step (total ranges) told))))

-- ---- one write

-- what is told of a write of so many blocks: it is done, or it still runs; data that no write can have are judged first
abbrev pub is_done : ℕ → ℕ → Option Information → Result Bool CopyFault
is_done step blocks None = bad_data step
is_done step blocks (Some told) =
    if is_some told.token || (told.status.status == 0x11) then bad_data step
    else if told.status.status == 0x12 then Ok false
    else if told.status.status == 0x01 then (if told.status.count == blocks then Ok true else bad_data step)
    else Err (CopyFault.Failed step told.status.status)

-- goes on once the write is done, where at most `polls` more replies say that it still runs
abbrev pub polling : ℕ → ℕ → ℕ → HostProgram → ℕ → HostProgram
polling unit step blocks next zero = Ends (Err (CopyFault.Polls step))
polling unit step blocks next (suc polls) =
    ask_status unit step (λ told. if_ok (λ done. if done then next else polling unit step blocks next polls) (is_done step blocks told))

-- ---- the whole

-- the identifier of the next POPULATE TOKEN or WRITE USING TOKEN
abbrev pub next_step : Copied → ℕ
next_step done = suc (done.populates + done.writes)

-- one more token was made
abbrev pub one_token : Copied → Copied
one_token done = record done { populates = suc done.populates }

-- one more write was done
abbrev pub one_write : Copied → Copied
one_write done = record done { writes = suc done.writes }

-- no write is behind it
abbrev pub is_last : List (List Range) → Bool
is_last [] = true
is_last (ranges ∷ more) = false

-- the writes of a token, of which `offset` blocks were written; the last one deletes it
abbrev pub writing : CopyJob → List ℕ → (Copied → HostProgram) → Copied → ℕ → List (List Range) → HostProgram
writing job token go_on done offset [] = go_on done
writing job token go_on done offset (ranges ∷ more) =
    Asks (write_request job.target (next_step done) token offset (is_last more) ranges)
    (if_good (next_step done) (λ none. polling job.target (next_step done) (total ranges)
    (writing job token go_on (one_write done) (offset + total ranges) more) job.polls))

-- the parts to come, behind what is done
abbrev pub copying : CopyJob → Copied → List Part → HostProgram
copying job done [] = Ends (Ok done)
copying job done (part ∷ more) =
    populating job.source (next_step done) part.ranges (λ token.
    writing job token (λ so_far. copying job so_far more) (one_token done) 0 part.writes)

-- the whole copy
abbrev pub rule : CopyJob → HostProgram
rule job = copying job (record { populates = 0; writes = 0 }) (parts job)
