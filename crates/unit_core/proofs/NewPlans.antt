-- Plans of acts that make an operation, by what is judged in turn
use Rattle.std.proofs.Common.{◌≡◌, ℕ, ◌<◌, ◌≤◌, ◌^◌, List, [], length, refl, ◌∙◌, arith, true, false, Bool}
use Rattle.std.specs.Prelude.{None, ◌==◌, ◌&&◌, not, nat_le, if◌then◌else◌}
use Rattle.std.proofs.lemmas.Bool.Decides.{nat_tests}
use Rattle.cm_base.specs.Configuration.{Configuration}
use Rattle.cm_base.specs.Units.{unit_of}
use Rattle.lba_ranges.specs.declared.ranges.Range.{Range}
use Rattle.lba_ranges.specs.Denoted.{total, is_within, is_overlapping}
use Rattle.lba_ranges.specs.HeldBlocks.{HeldBlocks}
use Rattle.lba_ranges.proofs.PublicLaws.{within-more}
use Rattle.cm_history.specs.declared.act.Act.{Act}
use Rattle.cm_history.specs.declared.act.Actor.{Actor}
use Rattle.cm_history.specs.declared.answer.Answer.{Answer}
use Rattle.cm_history.specs.declared.answer.OpState.{OpState}
use Rattle.scsi_sense.specs.Codes.{operation_in_progress, lba_out_of_range, insufficient_resources}
use Rattle.cm_history.specs.Deeds.{Deed}
use Rattle.cm_history.specs.Limits.{within_limits, fits_unit}
use Rattle.cm_history.specs.Tokens.{tokens}
use Rattle.cm_history.specs.Operations.{OfToken, OfCopy, running}
use Rattle.cm_history.specs.Reserving.{reservations, bars_act}
use Rattle.cm_history.specs.Answers.{is_busy, is_crowded, wrote_of}
use Rattle.cm_history.proofs.PublicLaws.{find-none}
use Rattle.unit_core.specs.declared.block_change.BlockChange.{BlockChange}
use Rattle.unit_core.specs.declared.job_change.JobChange.{JobChange}
use Rattle.rod_store.specs.declared.token_change.TokenChange.{TokenChange}
use Rattle.unit_core.specs.inner.JobChanges.{MayJob}
use Rattle.copy_jobs.specs.Jobs as jobs
use Rattle.unit_core.specs.Keys.{key_of}
use Rattle.unit_core.specs.inner.Tables.{jobs_of}
use Rattle.unit_core.specs.inner.Planning.{quiet, IsPlan}
use Rattle.unit_core.proofs.Jobs.{IsNexus, busy-is, crowded-is}
use Rattle.unit_core.proofs.Planned.{IsKnown, own-of, refused-plan, populate-plan, start-plan, open-plan}

-- ---- Populate

pub populate-busy : (config : Configuration) (unit : ℕ) (past : List Deed) (actor : Actor) (at id timeout : ℕ) (ranges : List Range) → bars_act (reservations past) actor (Act.Populate id timeout ranges) ≡ false → is_busy past actor OfToken id ≡ true
    → IsPlan config unit past actor at (Act.Populate id timeout ranges) (quiet (Answer.Refused operation_in_progress))
populate-busy config unit past actor at id timeout ranges free busy =
    refused-plan config unit past actor at (Act.Populate id timeout ranges) operation_in_progress (rw (free, busy) refl) (λ s. refl) (find-none (running past)) refl

pub populate-out : (config : Configuration) (unit : ℕ) (past : List Deed) (actor : Actor) (at id timeout : ℕ) (ranges : List Range) → bars_act (reservations past) actor (Act.Populate id timeout ranges) ≡ false → is_busy past actor OfToken id ≡ false
    → is_within (unit_of config unit).blocks ranges ≡ false → IsPlan config unit past actor at (Act.Populate id timeout ranges) (quiet (Answer.Refused lba_out_of_range))
populate-out config unit past actor at id timeout ranges free idle out =
    refused-plan config unit past actor at (Act.Populate id timeout ranges) lba_out_of_range (rw (free, idle, out) refl) (λ s. refl) (find-none (running past)) refl

pub populate-many : (config : Configuration) (unit : ℕ) (past : List Deed) (actor : Actor) (at id timeout : ℕ) (ranges : List Range) → bars_act (reservations past) actor (Act.Populate id timeout ranges) ≡ false → is_busy past actor OfToken id ≡ false
    → is_within (unit_of config unit).blocks ranges ≡ true → 2 ^ 48 ≤ length (tokens past) → IsPlan config unit past actor at (Act.Populate id timeout ranges) (quiet (Answer.Refused insufficient_resources))
populate-many config unit past actor at id timeout ranges free idle inside many =
    let test : nat_le (2 ^ 48) (length (tokens past)) ≡ true = grind (arith, nat_tests) in
    refused-plan config unit past actor at (Act.Populate id timeout ranges) insufficient_resources (rw (free, idle, inside, test) refl) (λ s. refl) (find-none (running past)) refl

pub populate-made : (config : Configuration) (unit : ℕ) (past : List Deed) (actor : Actor) (at id timeout : ℕ) (ranges : List Range) → IsKnown config unit past → IsNexus actor
    → bars_act (reservations past) actor (Act.Populate id timeout ranges) ≡ false
    → is_busy past actor OfToken id ≡ false → is_within (unit_of config unit).blocks ranges ≡ true → length (tokens past) < 2 ^ 48 → within_limits config unit (Act.Populate id timeout ranges) ≡ true
    → IsPlan config unit past actor at (Act.Populate id timeout ranges) (record {
      answer = Answer.Made (length (tokens past));
      blocks = BlockChange.Nothing;
      jobs = JobChange.Make (key_of actor OfToken id) (length (tokens past)) (total ranges);
      tokens = TokenChange.Make timeout (total ranges) ranges;
      reservations = None;
    })
populate-made config unit past actor at id timeout ranges known nexus free idle inside few limits =
    let test : nat_le (2 ^ 48) (length (tokens past)) ≡ false = grind (arith, nat_tests) in
    populate-plan config unit past actor at id timeout ranges known nexus (rw (free, idle, inside, test) refl) few
    (busy-is config unit past actor OfToken id known.is (own-of config unit past known) nexus ∙ idle) inside (go (is_overlapping ranges) limits)
  where
    go : (t : Bool) → (not t && nat_le (total ranges) 1_048_576 && nat_le 1 timeout && nat_le timeout 3600) ≡ true → t ≡ false
    go true e = cc
    go false e = refl

-- ---- Start

pub start-busy : (config : Configuration) (unit : ℕ) (past : List Deed) (actor : Actor) (at id : ℕ) (background : Bool) (ranges : List Range) (rod : HeldBlocks) → bars_act (reservations past) actor (Act.Start id background ranges rod) ≡ false
    → is_busy past actor OfToken id ≡ true
    → IsPlan config unit past actor at (Act.Start id background ranges rod) (quiet (Answer.Refused operation_in_progress))
start-busy config unit past actor at id background ranges rod free busy =
    refused-plan config unit past actor at (Act.Start id background ranges rod) operation_in_progress (rw (free, busy) refl) (λ s. refl) (find-none (running past)) refl

pub start-out : (config : Configuration) (unit : ℕ) (past : List Deed) (actor : Actor) (at id : ℕ) (background : Bool) (ranges : List Range) (rod : HeldBlocks) → bars_act (reservations past) actor (Act.Start id background ranges rod) ≡ false
    → is_busy past actor OfToken id ≡ false
    → is_within (unit_of config unit).blocks ranges ≡ false → IsPlan config unit past actor at (Act.Start id background ranges rod) (quiet (Answer.Refused lba_out_of_range))
start-out config unit past actor at id background ranges rod free idle out =
    refused-plan config unit past actor at (Act.Start id background ranges rod) lba_out_of_range (rw (free, idle, out) refl) (λ s. refl) (find-none (running past)) refl

pub start-many : (config : Configuration) (unit : ℕ) (past : List Deed) (actor : Actor) (at id : ℕ) (background : Bool) (ranges : List Range) (rod : HeldBlocks) → bars_act (reservations past) actor (Act.Start id background ranges rod) ≡ false
    → is_busy past actor OfToken id ≡ false
    → is_within (unit_of config unit).blocks ranges ≡ true → is_crowded past ≡ true → IsPlan config unit past actor at (Act.Start id background ranges rod) (quiet (Answer.Refused insufficient_resources))
start-many config unit past actor at id background ranges rod free idle inside many =
    refused-plan config unit past actor at (Act.Start id background ranges rod) insufficient_resources (rw (free, idle, inside, many) refl) (λ s. refl) (find-none (running past)) refl

pub start-made : (config : Configuration) (unit : ℕ) (past : List Deed) (actor : Actor) (at id : ℕ) (background : Bool) (ranges : List Range) (rod : HeldBlocks) (empty : Bool) → IsKnown config unit past → IsNexus actor
    → bars_act (reservations past) actor (Act.Start id background ranges rod) ≡ false
    → within_limits config unit (Act.Start id background ranges rod) ≡ true → is_busy past actor OfToken id ≡ false → is_within (unit_of config unit).blocks ranges ≡ true → is_crowded past ≡ false
    → (length rod.items == 0) ≡ empty → MayJob (JobChange.Start (key_of actor OfToken id) background ranges rod) (jobs_of past)
    → IsPlan config unit past actor at (Act.Start id background ranges rod)
    (record (quiet (Answer.Progress (if empty then OpState.Done else OpState.Running) 0)) { jobs = JobChange.Start (key_of actor OfToken id) background ranges rod })
start-made config unit past actor at id background ranges rod empty known nexus free limits idle inside few none may =
    start-plan config unit past actor at id background ranges rod (if empty then OpState.Done else OpState.Running) known nexus limits (rw (free, idle, inside, few, none) refl) may (writes empty)
  where
    writes : (t : Bool) → wrote_of (Answer.Progress (if t then OpState.Done else OpState.Running) 0) [] ≡ []
    writes true = refl
    writes false = refl

-- ---- Open

pub open-busy : (config : Configuration) (unit : ℕ) (past : List Deed) (actor : Actor) (at id : ℕ) → is_busy past actor OfCopy id ≡ true
    → IsPlan config unit past actor at (Act.Open id) (quiet (Answer.Refused operation_in_progress))
open-busy config unit past actor at id busy = refused-plan config unit past actor at (Act.Open id) operation_in_progress (rw busy refl) (λ s. refl) (find-none (running past)) refl

pub open-many : (config : Configuration) (unit : ℕ) (past : List Deed) (actor : Actor) (at id : ℕ) → is_busy past actor OfCopy id ≡ false → is_crowded past ≡ true
    → IsPlan config unit past actor at (Act.Open id) (quiet (Answer.Refused insufficient_resources))
open-many config unit past actor at id idle many = refused-plan config unit past actor at (Act.Open id) insufficient_resources (rw (idle, many) refl) (λ s. refl) (find-none (running past)) refl

pub open-made : (config : Configuration) (unit : ℕ) (past : List Deed) (actor : Actor) (at id : ℕ) → IsKnown config unit past → IsNexus actor → id < 2 ^ 8 → is_busy past actor OfCopy id ≡ false → is_crowded past ≡ false
    → IsPlan config unit past actor at (Act.Open id) (record (quiet Answer.Done) { jobs = JobChange.Open (key_of actor OfCopy id) })
open-made config unit past actor at id known nexus byte idle few =
    open-plan config unit past actor at id known nexus byte (rw (idle, few) refl)
    (busy-is config unit past actor OfCopy id known.is (own-of config unit past known) nexus ∙ idle)
    (crowded-is config unit past known.is ∙ few)

-- a Start that may be asked, lies in the unit, and for which there is room, may be kept
pub start-may : (config : Configuration) (unit : ℕ) (past : List Deed) (actor : Actor) (id : ℕ) (background : Bool) (ranges : List Range) (rod : HeldBlocks) → within_limits config unit (Act.Start id background ranges rod) ≡ true
    → (unit_of config unit).blocks ≤ 2 ^ 64 → is_within (unit_of config unit).blocks ranges ≡ true
    → jobs.is_busy (key_of actor OfToken id) (jobs_of past) ≡ false → jobs.is_crowded (jobs_of past) ≡ false
    → MayJob (JobChange.Start (key_of actor OfToken id) background ranges rod) (jobs_of past)
start-may config unit past actor id background ranges rod limits few inside idle room =
    go (is_overlapping ranges) (total ranges == length rod.items) (nat_le (length rod.items) 1_048_576) (fits_unit config unit rod) refl refl refl limits
  where
    go : (a b c d : Bool) → is_overlapping ranges ≡ a → (total ranges == length rod.items) ≡ b → nat_le (length rod.items) 1_048_576 ≡ c → (not a && b && c && d) ≡ true
        → MayJob (JobChange.Start (key_of actor OfToken id) background ranges rod) (jobs_of past)
    go false true true d apart same short e =
        (refl, idle, room, apart, within-more (unit_of config unit).blocks (2 ^ 64) ranges few inside, (let t : total ranges ≡ length rod.items = grind (arith, nat_tests) in t), (let t : length rod.items ≤ 1_048_576 = grind (arith, nat_tests) in t))
    go false true false d apart same short e = cc
    go false false c d apart same short e = cc
    go true b c d apart same short e = cc
