use Rattle.std.proofs.Common.{◌≡◌, ◌*◌, ◌++◌}
use Rattle.byteorder.specs.Endian.{big_bytes}
use Rattle.cm_base.specs.Fields.{zeros}
use Rattle.scsi_inquiry.specs.UnitData.{luns}
use Rattle.scsi_inquiry.proofs.capacity.report_luns.Given as goal

abbrev pub invariant-loop-unit : goal.invariant-loop-unit
invariant-loop-unit l = l.data ≡ big_bytes 4 (8 * l.units) ++ zeros 4 ++ luns 0 l.unit
