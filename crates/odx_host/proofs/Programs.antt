-- The programs of a host's requests
use Rattle.std.proofs.Common.{◌≡◌, ℕ, ◌<◌, ◌≤◌, ◌^◌, List, length, refl, ap, ◌∙◌, arith, true, false, Bool, Ok}
use Rattle.std.specs.Prelude.{None, All, ◌==◌, if◌then◌else◌}
use Rattle.std.proofs.lemmas.Bool.{eq-eqb}
use Rattle.lba_ranges.specs.declared.ranges.Range.{Range}
use Rattle.cm_base.specs.Configuration.{Configuration}
use Rattle.cm_base.specs.Units.{unit_of, is_configured}
use Rattle.scsi_cdb.specs.declared.cdb.Cdb.{Cdb}
use Rattle.scsi_cdb.specs.Decoded.{decoded}
use Rattle.scsi_sense.specs.Codes.{logical_unit_not_supported}
use Rattle.block_params.specs.RangesRead.{range_fault}
use Rattle.block_params.specs.ListsWritten.{populate_written, write_token_written}
use Rattle.block_params.proofs.PublicLaws.{populate_back, write_token_back, length-descriptors, length_behind}
use Rattle.block_params.specs.ListsWritten.{measured}
use Rattle.cm_frame.specs.declared.frame.Request.{Request}
use Rattle.cm_history.specs.declared.act.Act.{Act}
use Rattle.cmd_program.specs.Program.{refused, ask_then}
use Rattle.cmd_program.specs.SingleActs.{act_alone, told_token, populate}
use Rattle.cmd_program.specs.TokenWrite.{write_by, write_using_token}
use Rattle.rod_token.specs.TokenText.{classify}
use Rattle.cmd_program.specs.Judging.{program, program_of, judged_cdb, judged_out, out_fault}
use Rattle.odx_host.specs.Requests.{populate_list, populate_request, status_request, status_limit, token_timeout, write_list, write_request}
use Rattle.odx_host.proofs.Decoding.{populate-decoded, write-decoded, status-decoded}

-- ranges that one command may name
pub record MayName (ranges : List Range) : Type 0 where
  pub few : length ranges ≤ 64
  pub legal : range_fault ranges ≡ None
  pub fit : All (λ (r : Range). (r.lba < 2 ^ 64) × (r.count < 2 ^ 32)) ranges

-- the program of a request whose unit is there
module _ (config : Configuration) (r : Request) (cdb : Cdb) (unit : is_configured config r.unit ≡ true) (read : decoded r.cdb ≡ Ok cdb) (out : out_fault (unit_of config r.unit) r.out cdb ≡ None) where
  pub program-is : program config r ≡ program_of config r.unit r.out cdb
  program-is =
      ap (λ b. if b then judged_cdb config r (decoded r.cdb) else refused logical_unit_not_supported) unit
      ∙ ap (judged_cdb config r) read ∙ ap (judged_out config r cdb) out

length-same : (n : ℕ) → (n == n) ≡ true
length-same n = eq-eqb n n refl

pub populate-program : (config : Configuration) (unit id : ℕ) (ranges : List Range) → is_configured config unit ≡ true → id < 2 ^ 32 → MayName ranges
    → program config (populate_request unit id ranges) ≡ act_alone unit (Act.Populate id token_timeout ranges)
populate-program config unit id ranges there low named =
    let list = populate_written (populate_list ranges) in
    let size = length-descriptors ranges in
    let some = named.few in
    let fits : length (populate_written (populate_list ranges)) < 2 ^ 32 = omega arith in
    program-is config (populate_request unit id ranges) (Cdb.PopulateToken id (length list)) there (populate-decoded id (length list) low fits) (rw (length-same (length list)) refl)
    ∙ ap (populate unit id) (populate_back (populate_list ranges) (record { timeout = (omega arith, omega arith); ranges = named.legal }) named.fit named.few)

pub status-program : (config : Configuration) (unit id : ℕ) → is_configured config unit ≡ true → id < 2 ^ 32
    → program config (status_request unit id) ≡ ask_then unit (Act.Report id) (told_token config unit status_limit)
status-program config unit id there low =
    program-is config (status_request unit id) (Cdb.TokenInformation id status_limit) there (status-decoded id status_limit low (omega arith)) refl

pub write-program : (config : Configuration) (unit id : ℕ) (token : List ℕ) (offset : ℕ) (delete : Bool) (ranges : List Range) → is_configured config unit ≡ true → id < 2 ^ 32
    → MayName ranges → offset < 2 ^ 64 → length token ≡ 512
    → program config (write_request unit id token offset delete ranges)
    ≡ write_by config (record { unit = unit; id = id; list = write_list token offset delete ranges }) (classify token)
write-program config unit id token offset delete ranges there low named high whole =
    let list = write_token_written (write_list token offset delete ranges) in
    let size = length-descriptors ranges in
    let some = named.few in
    let fits : length (write_token_written (write_list token offset delete ranges)) < 2 ^ 32 = omega (arith, whole, size, some, length_behind token (measured ranges)) in
    program-is config (write_request unit id token offset delete ranges) (Cdb.WriteUsingToken id (length list)) there (write-decoded id (length list) low fits) (rw (length-same (length list)) refl)
    ∙ ap (write_using_token config unit id) (write_token_back (write_list token offset delete ranges) named.legal named.fit named.few high whole)

-- a unit that is not there
pub not-there : (config : Configuration) (r : Request) → is_configured config r.unit ≡ false → program config r ≡ refused logical_unit_not_supported
not-there config r none = ap (λ b. if b then judged_cdb config r (decoded r.cdb) else refused logical_unit_not_supported) none
