-- What a job becomes by a deed
use Rattle.std.proofs.Common.{◌≡◌, ℕ, ◌+◌, List, ◌∷◌, ◌++◌, length, refl, ap, sym, ◌∙◌, arith, true, false, Bool, length-append, append-nil}
use Rattle.std.specs.Prelude.{◌==◌, ◌||◌, if◌then◌else◌}
use Rattle.std.proofs.lemmas.Bool.Decides.{nat_tests}
use Rattle.cm_base.specs.Configuration.{Configuration}
use Rattle.cm_base.specs.declared.config.UnitConfig.{UnitConfig}
use Rattle.lba_ranges.specs.declared.ranges.Range.{Range}
use Rattle.lba_ranges.specs.Denoted.{total}
use Rattle.lba_ranges.specs.HeldBlocks.{HeldBlocks}
use Rattle.cm_history.specs.declared.act.Act.{Act}
use Rattle.cm_history.specs.declared.answer.Answer.{Answer}
use Rattle.cm_history.specs.declared.answer.OpState.{OpState}
use Rattle.scsi_sense.specs.Codes.{space_allocation_failed}
use Rattle.cm_history.specs.Deeds.{Deed}
use Rattle.cm_history.specs.Limits.{within_limits}
use Rattle.cm_history.specs.Operations.{Operation, OfToken, OfCopy, form_of, id_of, is_running, is_foreground, is_background, made_operation, written, list_of, next_piece, state_of, was_stopped, was_ended, is_failure, is_ending, result_of, result_or, count}
use Rattle.cm_history.specs.Answers.{progress_by, serial_made}
use Rattle.copy_jobs.specs.declared.job.Work.TheVariants.{Populated, Writing, Copying}
use Rattle.copy_jobs.specs.Jobs.{started, opened, made}
use Rattle.copy_jobs.specs.Changes.{moved_by, stopped_by, terminated, closed_by}
use Rattle.unit_core.specs.Keys.{key_of}
use Rattle.unit_core.specs.inner.Tables.{work_of, job_of, serial_or_none}
use Rattle.cm_history.proofs.PublicLaws.{start-length, Moves, Stops, Ends, Closes, left-running, token-runs}

-- ---- a deed that serves

goes-on : (o : Operation) (n : ℕ) → is_failure (progress_by o n) ≡ false
goes-on o n = go (count o + n == length (list_of o.made.entry.act))
  where
    go : (t : Bool) → is_failure (Answer.Progress (if t then OpState.Done else OpState.Running) (count o + n)) ≡ false
    go true = refl
    go false = refl

-- the state of a Start
abbrev started_state : Bool → Bool → Bool → OpState
started_state a b c = if a then OpState.Failed space_allocation_failed else if b then OpState.Terminated else if c then OpState.Done else OpState.Running

pub moves-work : (config : Configuration) (unit : ℕ) (limits : UnitConfig) (past : List Deed) (d : Deed) (o : Operation) → Moves limits past o d.answer d.wrote d.entry.act
    → is_running o ≡ true → (act : Act) → o.made.entry.act ≡ act → within_limits config unit act ≡ true → (is_foreground act || is_background act) ≡ true
    → work_of (record o { servers = d ∷ o.servers }) act ≡ moved_by (length (next_piece o)) (work_of o act)
moves-work config unit limits past d o moves runs (Act.Start id background ranges rod) is within start =
    let more : length (written o ++ d.wrote) ≡ length (written o) + length (next_piece o) = length-append (written o) d.wrote ∙ ap (λ l. length (written o) + length l) moves.wrote in
    let all : length (list_of o.made.entry.act) ≡ length rod.items = ap (λ a. length (list_of a)) is ∙ start-length config unit id background ranges rod within in
    let left = left-running o o.made.entry.act (token-runs o (ap form_of is) runs) in
    let unstopped : (is_failure d.answer || was_stopped o.servers) ≡ false = rw (moves.answer, goes-on o (length (next_piece o)), left.0) refl in
    let unended : (is_ending d.entry.act || was_ended o.servers) ≡ false = rw (moves.on, left.1) refl in
    let state : state_of (record o { servers = d ∷ o.servers }) o.made.entry.act ≡ (if length (written o) + length (next_piece o) == length rod.items then OpState.Done else OpState.Running) =
    ap (state_of (record o { servers = d ∷ o.servers })) is
    ∙ ap (λ t. started_state t (is_ending d.entry.act || was_ended o.servers) (length (written o ++ d.wrote) == length (list_of o.made.entry.act))) unstopped
    ∙ ap (λ t. started_state false t (length (written o ++ d.wrote) == length (list_of o.made.entry.act))) unended
    ∙ ap (λ n. started_state false false (n == length (list_of o.made.entry.act))) more
    ∙ ap (λ n. started_state false false (length (written o) + length (next_piece o) == n)) all in
    ap (λ n. Writing (record { background = background; ranges = ranges; rod = rod; written = n; state = state_of (record o { servers = d ∷ o.servers }) o.made.entry.act })) more
    ∙ ap (λ s. Writing (record { background = background; ranges = ranges; rod = rod; written = length (written o) + length (next_piece o); state = s })) state
moves-work config unit limits past d o moves runs (Act.Open id) is within start = cc
moves-work config unit limits past d o moves runs _ is within start = refl

pub stops-work : (limits : UnitConfig) (past : List Deed) (d : Deed) (o : Operation) → Stops limits past o d.answer d.wrote d.entry.act
    → (act : Act) → o.made.entry.act ≡ act → (is_foreground act || is_background act) ≡ true
    → work_of (record o { servers = d ∷ o.servers }) act ≡ stopped_by space_allocation_failed (work_of o act)
stops-work limits past d o stops (Act.Start id background ranges rod) is start =
    let same : length (written o ++ d.wrote) ≡ length (written o) = ap (λ l. length (written o ++ l)) stops.wrote ∙ ap length (append-nil (written o)) in
    let stopped : (is_failure d.answer || was_stopped o.servers) ≡ true = rw stops.answer refl in
    let state : state_of (record o { servers = d ∷ o.servers }) o.made.entry.act ≡ OpState.Failed space_allocation_failed =
    ap (state_of (record o { servers = d ∷ o.servers })) is
    ∙ ap (λ t. started_state t (is_ending d.entry.act || was_ended o.servers) (length (written o ++ d.wrote) == length (list_of o.made.entry.act))) stopped in
    ap (λ n. Writing (record { background = background; ranges = ranges; rod = rod; written = n; state = state_of (record o { servers = d ∷ o.servers }) o.made.entry.act })) same
    ∙ ap (λ s. Writing (record { background = background; ranges = ranges; rod = rod; written = length (written o); state = s })) state
stops-work limits past d o stops (Act.Open id) is start = cc
stops-work limits past d o stops _ is start = refl

pub ends-work : (d : Deed) (o : Operation) → Ends o d.answer d.wrote d.entry.act → is_running o ≡ true → (act : Act) → o.made.entry.act ≡ act → (is_foreground act || is_background act) ≡ true
    → work_of (record o { servers = d ∷ o.servers }) act ≡ terminated (work_of o act)
ends-work d o ends runs (Act.Start id background ranges rod) is start =
    let same : length (written o ++ d.wrote) ≡ length (written o) = ap (λ l. length (written o ++ l)) ends.wrote ∙ ap length (append-nil (written o)) in
    let left = left-running o o.made.entry.act (token-runs o (ap form_of is) runs) in
    let unstopped : (is_failure d.answer || was_stopped o.servers) ≡ false = rw (ends.answer, left.0) refl in
    let ended : (is_ending d.entry.act || was_ended o.servers) ≡ true = rw ends.on refl in
    let state : state_of (record o { servers = d ∷ o.servers }) o.made.entry.act ≡ OpState.Terminated =
    ap (state_of (record o { servers = d ∷ o.servers })) is
    ∙ ap (λ t. started_state t (is_ending d.entry.act || was_ended o.servers) (length (written o ++ d.wrote) == length (list_of o.made.entry.act))) unstopped
    ∙ ap (λ t. started_state false t (length (written o ++ d.wrote) == length (list_of o.made.entry.act))) ended in
    ap (λ n. Writing (record { background = background; ranges = ranges; rod = rod; written = n; state = state_of (record o { servers = d ∷ o.servers }) o.made.entry.act })) same
    ∙ ap (λ s. Writing (record { background = background; ranges = ranges; rod = rod; written = length (written o); state = s })) state
ends-work d o ends runs (Act.Open id) is start = cc
ends-work d o ends runs _ is start = refl

pub closes-work : (d : Deed) (o : Operation) (closes : Closes o d.answer d.wrote d.entry.act) → (act : Act) → form_of act ≡ OfCopy
    → work_of (record o { servers = d ∷ o.servers }) act ≡ closed_by closes.result (work_of o act)
closes-work d o closes (Act.Open id) copy = ap (λ a. Copying (result_or (result_of o.servers) a)) closes.act
closes-work d o closes (Act.Start id background ranges rod) copy = cc
closes-work d o closes (Act.Populate id timeout ranges) copy = cc
closes-work d o closes _ copy = refl

-- ---- a deed that makes an operation

-- with the act that made it
pub start-job : (config : Configuration) (unit : ℕ) (d : Deed) (id : ℕ) (background : Bool) (ranges : List Range) (rod : HeldBlocks)
    → d.entry.act ≡ Act.Start id background ranges rod → within_limits config unit d.entry.act ≡ true
    → job_of (made_operation d) ≡ started (key_of d.entry.actor OfToken id) background ranges rod
start-job config unit d id background ranges rod is within =
    let all : length (list_of d.entry.act) ≡ length rod.items = ap (λ a. length (list_of a)) is ∙ start-length config unit id background ranges rod (sym (ap (within_limits config unit) is) ∙ within) in
    let turned : (0 == length rod.items) ≡ (length rod.items == 0) = grind (arith, nat_tests) in
    let state : state_of (made_operation d) d.entry.act ≡ (if length rod.items == 0 then OpState.Done else OpState.Running) =
    ap (state_of (made_operation d)) is
    ∙ ap (λ n. started_state false false (0 == n)) all
    ∙ ap (λ t. started_state false false t) turned in
    ap (λ a. record { key = key_of d.entry.actor (form_of a) (id_of a); work = work_of (made_operation d) a }) is
    ∙ ap (λ s. record { key = key_of d.entry.actor OfToken id; work = Writing (record { background = background; ranges = ranges; rod = rod; written = 0; state = s }) }) state

pub open-job : (d : Deed) (id : ℕ) → d.entry.act ≡ Act.Open id → job_of (made_operation d) ≡ opened (key_of d.entry.actor OfCopy id)
open-job d id is = ap (λ a. record { key = key_of d.entry.actor (form_of a) (id_of a); work = work_of (made_operation d) a }) is

pub populate-job : (d : Deed) (id timeout : ℕ) (ranges : List Range) (serial : ℕ) → d.entry.act ≡ Act.Populate id timeout ranges → d.answer ≡ Answer.Made serial
    → job_of (made_operation d) ≡ made (key_of d.entry.actor OfToken id) serial (total ranges)
populate-job d id timeout ranges serial is told =
    ap (λ a. record { key = key_of d.entry.actor (form_of a) (id_of a); work = work_of (made_operation d) a }) is
    ∙ ap (λ (a : Answer). record { key = key_of d.entry.actor OfToken id; work = Populated (serial_or_none (serial_made a)) (total ranges) }) told
