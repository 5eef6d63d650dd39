-- A command that gave up for want of memory ends BUSY
use Rattle.std.proofs.Common.{◌≡◌, List, [], ◌∷◌, ◌++◌, refl, subst, sym, false, true}
use Rattle.std.specs.Prelude.{fold, cond, Bool, Option, Some, None, Result, Ok, Err}
use Rattle.scsi_sense.specs.Codes.{logical_unit_not_supported}
use Rattle.block_params.specs.ListsRead.{unmap_read, populate_read, write_token_read}
use Rattle.seg_parse.specs.ListRead.{lid1_read}
use Rattle.pr_keys.specs.Bytes.{out_list_read}
use Rattle.cm_base.specs.Configuration.{Configuration}
use Rattle.cm_base.specs.Units.{is_configured}
use Rattle.scsi_sense.specs.SenseCode.{SenseCode}
use Rattle.scsi_cdb.specs.declared.cdb.Cdb.{Cdb}
use Rattle.scsi_cdb.specs.Decoded.{decoded}
use Rattle.cm_frame.specs.declared.frame.Request.{Request}
use Rattle.cm_frame.specs.declared.frame.Reply.{Reply}
use Rattle.cmd_program.specs.declared.step.Outcome.{Outcome}
use Rattle.cmd_program.specs.Stepping.{gave_up, given_up_reply, EndsWith, GivesUpBy}
use Rattle.cmd_program.proofs.Stepping.{IsBusyAtEnd, EndsBusy}
use Rattle.cmd_program.specs.Program.{Ask, Program, Ends, Asks, GivesUp, next, moved, give_up, go_on_by, refused, done}
use Rattle.cmd_program.specs.Judging.{step, program, judged_cdb, judged_out}
use Rattle.cmd_program.proofs.Open.{IsOpen, read-open, unless_refused-open, map-open, inquiry-open, unmap-open, reserve_in-open, reserve_out-open}
use Rattle.cmd_program.proofs.OpenTokens.{populate-open, report-open, information-open, write-open}
use Rattle.cmd_program.proofs.OpenCopies.{copy-open, extended-open}

-- while no outcome makes it give up, it has not
pub stays-open : (p : Program) (outcomes : List Outcome) → IsOpen p → gave_up outcomes ≡ false → IsOpen (fold moved p outcomes)
stays-open p [] opens none = opens
stays-open (Ends reply) (Outcome.Answered a ∷ os) opens none = stays-open (Ends reply) os tt none
stays-open (Asks ask last go_on) (Outcome.Answered a ∷ os) opens none = stays-open (go_on a) os (opens a) none
stays-open (GivesUp last reply) (Outcome.Answered a ∷ os) opens none = absurd opens
stays-open p (Outcome.Full ∷ os) opens none = cc
stays-open p (Outcome.NoMemory ∷ os) opens none = cc

-- once it gave up, its reply is what it was
gone-busy : (last : Option Ask) (outcomes : List Outcome) → IsBusyAtEnd (next (fold moved (GivesUp last Reply.Busy) outcomes))
gone-busy (Some ask) [] = tt
gone-busy None [] = refl
gone-busy last (Outcome.Answered a ∷ os) = gone-busy None os
gone-busy last (Outcome.Full ∷ os) = gone-busy None os
gone-busy last (Outcome.NoMemory ∷ os) = gone-busy None os

no-memory-busy : (p : Program) (after : List Outcome) → IsOpen p → IsBusyAtEnd (next (fold moved (moved p Outcome.NoMemory) after))
no-memory-busy (Ends reply) after opens = gone-busy None after
no-memory-busy (Asks ask last go_on) after opens = gone-busy last after
no-memory-busy (GivesUp last reply) after opens = absurd opens

-- the program has given up
abbrev pub HasGivenUp : Program → Type 0
HasGivenUp (Ends reply) = ⊥
HasGivenUp (Asks ask last go_on) = ⊥
HasGivenUp (GivesUp last reply) = Unit {0}

stays-given-up : (p : Program) (outcomes : List Outcome) → HasGivenUp p → HasGivenUp (fold moved p outcomes)
stays-given-up (Ends reply) outcomes given = absurd given
stays-given-up (Asks ask last go_on) outcomes given = absurd given
stays-given-up (GivesUp last reply) [] given = tt
stays-given-up (GivesUp last reply) (Outcome.Answered a ∷ os) given = stays-given-up (GivesUp None reply) os tt
stays-given-up (GivesUp last reply) (Outcome.Full ∷ os) given = stays-given-up (GivesUp None reply) os tt
stays-given-up (GivesUp last reply) (Outcome.NoMemory ∷ os) given = stays-given-up (GivesUp None reply) os tt

given-up : (p : Program) (reply : Reply) → HasGivenUp (give_up p reply)
given-up (Ends ended) reply = tt
given-up (Asks ask last go_on) reply = tt
given-up (GivesUp last first) reply = tt

-- an outcome that is no answer makes it give up
pub gives-up : (p : Program) (outcomes : List Outcome) → gave_up outcomes ≡ true → HasGivenUp (fold moved p outcomes)
gives-up p [] some = cc
gives-up p (Outcome.Answered a ∷ os) some = gives-up (go_on_by p a) os some
gives-up p (Outcome.Full ∷ os) some = stays-given-up (give_up p Reply.Full) os (given-up p Reply.Full)
gives-up p (Outcome.NoMemory ∷ os) some = stays-given-up (give_up p Reply.Busy) os (given-up p Reply.Busy)

pub fold-append : (p : Program) (xs ys : List Outcome) → fold moved p (xs ++ ys) ≡ fold moved (fold moved p xs) ys
fold-append p [] ys = refl
fold-append p (x ∷ xs) ys = fold-append (moved p x) xs ys

-- ---- no command gives up by itself

out-open : (config : Configuration) (r : Request) (cdb : Cdb) (fault : Option SenseCode)
    → IsOpen (judged_out config r cdb None) → IsOpen (judged_out config r cdb fault)
out-open config r cdb (Some sense) opens = tt
out-open config r cdb None opens = opens

cdb-open : (config : Configuration) (r : Request) (cdb : Result Cdb SenseCode) → IsOpen (judged_cdb config r cdb)
cdb-open config r (Err sense) = tt
cdb-open config r (Ok (Cdb.Read lba count)) = out-open config r (Cdb.Read lba count) _ read-open
cdb-open config r (Ok (Cdb.Write lba count)) = out-open config r (Cdb.Write lba count) _ (λ a. unless_refused-open done a tt)
cdb-open config r (Ok Cdb.TestUnitReady) = out-open config r Cdb.TestUnitReady _ tt
cdb-open config r (Ok (Cdb.RequestSense allocation)) = out-open config r (Cdb.RequestSense allocation) _ tt
cdb-open config r (Ok (Cdb.Inquiry evpd page allocation)) = out-open config r (Cdb.Inquiry evpd page allocation) _ (inquiry-open r.unit evpd page allocation)
cdb-open config r (Ok (Cdb.Unmap length)) = out-open config r (Cdb.Unmap length) _ (unmap-open r.unit (unmap_read r.out))
cdb-open config r (Ok Cdb.ReadCapacity10) = out-open config r Cdb.ReadCapacity10 _ tt
cdb-open config r (Ok (Cdb.ReadCapacity16 allocation)) = out-open config r (Cdb.ReadCapacity16 allocation) _ tt
cdb-open config r (Ok (Cdb.GetLbaStatus lba allocation)) = out-open config r (Cdb.GetLbaStatus lba allocation) _ (map-open allocation)
cdb-open config r (Ok (Cdb.ReportLuns allocation)) = out-open config r (Cdb.ReportLuns allocation) _ tt
cdb-open config r (Ok (Cdb.CopyParameters allocation)) = out-open config r (Cdb.CopyParameters allocation) _ tt
cdb-open config r (Ok (Cdb.PopulateToken id length)) = out-open config r (Cdb.PopulateToken id length) _ (populate-open r.unit id (populate_read r.out))
cdb-open config r (Ok (Cdb.WriteUsingToken id length)) =
    out-open config r (Cdb.WriteUsingToken id length) _ (write-open config r.unit id (write_token_read r.out))
cdb-open config r (Ok (Cdb.CopyAbort id)) = out-open config r (Cdb.CopyAbort id) _ (λ a. unless_refused-open done a tt)
cdb-open config r (Ok (Cdb.CopyStatus4 id allocation)) = out-open config r (Cdb.CopyStatus4 id allocation) _ (report-open allocation)
cdb-open config r (Ok (Cdb.TokenInformation id allocation)) = out-open config r (Cdb.TokenInformation id allocation) _ (information-open config r.unit allocation)
cdb-open config r (Ok (Cdb.ExtendedCopy length)) =
    out-open config r (Cdb.ExtendedCopy length) _ (extended-open config r.unit length (lid1_read r.out))
cdb-open config r (Ok (Cdb.CopyStatus1 id allocation)) = out-open config r (Cdb.CopyStatus1 id allocation) _ (copy-open allocation)
cdb-open config r (Ok (Cdb.PersistentIn action allocation)) = out-open config r (Cdb.PersistentIn action allocation) _ (reserve_in-open r.unit action allocation)
cdb-open config r (Ok (Cdb.PersistentOut action scope kind length)) =
    out-open config r (Cdb.PersistentOut action scope kind length) _ (reserve_out-open r.unit action scope kind (out_list_read r.out))

pub program-open : (config : Configuration) (r : Request) → IsOpen (program config r)
program-open config r = go (is_configured config r.unit)
  where
    go : (b : Bool) → IsOpen (cond b (judged_cdb config r (decoded r.cdb)) (refused logical_unit_not_supported))
    go true = cdb-open config r (decoded r.cdb)
    go false = tt

pub ends-busy : EndsBusy step
ends-busy config nexus r before after none =
    subst (λ p. IsBusyAtEnd (next p)) (sym (fold-append (program config r) before (Outcome.NoMemory ∷ after)))
    (no-memory-busy (fold moved (program config r) before) after (stays-open (program config r) before (program-open config r) none))

-- ---- the first outcome at which it gives up decides the reply

-- once it gave up, its reply stands
gone-with : (last : Option Ask) (reply : Reply) (outcomes : List Outcome) → EndsWith reply (next (fold moved (GivesUp last reply) outcomes))
gone-with (Some ask) reply [] = tt
gone-with None reply [] = refl
gone-with last reply (Outcome.Answered a ∷ os) = gone-with None reply os
gone-with last reply (Outcome.Full ∷ os) = gone-with None reply os
gone-with last reply (Outcome.NoMemory ∷ os) = gone-with None reply os

gives-up-with : (p : Program) (given : Reply) (outcomes : List Outcome) → IsOpen p → EndsWith given (next (fold moved (give_up p given) outcomes))
gives-up-with (Ends reply) given outcomes opens = gone-with None given outcomes
gives-up-with (Asks ask last go_on) given outcomes opens = gone-with last given outcomes
gives-up-with (GivesUp last reply) given outcomes opens = absurd opens

gives-up-first : (p : Program) (outcomes : List Outcome) (reply : Reply) → IsOpen p → given_up_reply outcomes ≡ Some reply → EndsWith reply (next (fold moved p outcomes))
gives-up-first p [] reply opens is = cc
gives-up-first (Ends ended) (Outcome.Answered a ∷ os) reply opens is = gives-up-first (Ends ended) os reply tt is
gives-up-first (Asks ask last go_on) (Outcome.Answered a ∷ os) reply opens is = gives-up-first (go_on a) os reply (opens a) is
gives-up-first (GivesUp last first) (Outcome.Answered a ∷ os) reply opens is = absurd opens
gives-up-first p (Outcome.Full ∷ os) reply opens is =
    let same : Reply.Full ≡ reply = cc in
    subst (λ r. EndsWith r (next (fold moved (give_up p Reply.Full) os))) same (gives-up-with p Reply.Full os opens)
gives-up-first p (Outcome.NoMemory ∷ os) reply opens is =
    let same : Reply.Busy ≡ reply = cc in
    subst (λ r. EndsWith r (next (fold moved (give_up p Reply.Busy) os))) same (gives-up-with p Reply.Busy os opens)

pub gives-up-by : GivesUpBy step
gives-up-by config nexus r outcomes reply is = gives-up-first (program config r) outcomes reply (program-open config r) is
