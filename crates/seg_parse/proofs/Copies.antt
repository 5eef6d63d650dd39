-- A list whose head is right is read as its descriptors are
use Rattle.std.proofs.Common.{◌≡◌, ℕ, List, Result, Ok, None, ap, ◌∙◌}
use Rattle.scsi_sense.specs.SenseCode.{SenseCode}
use Rattle.scsi_sense.specs.Faults.{unless, Refuses}
use Rattle.scsi_sense.specs.declared.fault.ParamFault.{ParamFault}
use Rattle.seg_parse.specs.declared.list.Cscd.{Cscd}
use Rattle.seg_parse.specs.declared.list.Segment.{Segment}
use Rattle.seg_parse.specs.ListRead.{usage, head_fault, cscds_of, segments_of, copy_list, lid1_read}
use Rattle.cm_base.specs.Fields.{byte}

-- the head is right
pub lid1_read-headed : (bytes : List ℕ) → head_fault bytes ≡ None → lid1_read bytes ≡ copy_list bytes (cscds_of bytes) (segments_of bytes)
lid1_read-headed bytes sound = ap (λ f. unless f (copy_list bytes (cscds_of bytes) (segments_of bytes))) sound

-- what refuses the CSCDs refuses the list
pub Refuses-units : (bytes : List ℕ) (units : Result (List Cscd) SenseCode) (segments : Result (List Segment) SenseCode) (fault : ParamFault)
    → Refuses units fault → Refuses (copy_list bytes units segments) fault
Refuses-units bytes units segments ParamFault.OutOfMemory refused = tt
Refuses-units bytes units segments (ParamFault.Refused sense) refused = ap (λ u. copy_list bytes u segments) refused

-- what refuses the segments, where the CSCDs are read, refuses the list
pub Refuses-segments : (bytes : List ℕ) (units : Result (List Cscd) SenseCode) (read : List Cscd) (segments : Result (List Segment) SenseCode) (fault : ParamFault)
    → units ≡ Ok read → Refuses segments fault → Refuses (copy_list bytes units segments) fault
Refuses-segments bytes units read segments ParamFault.OutOfMemory is refused = tt
Refuses-segments bytes units read segments (ParamFault.Refused sense) is refused =
    ap (λ u. copy_list bytes u segments) is ∙ ap (λ s. copy_list bytes (Ok read) s) refused

pub copy_list-read : (bytes : List ℕ) (units : Result (List Cscd) SenseCode) (segments : Result (List Segment) SenseCode) (us : List Cscd) (ss : List Segment)
    → units ≡ Ok us → segments ≡ Ok ss
    → copy_list bytes units segments ≡ Ok (record { id = byte bytes 0; usage = usage bytes; units = us; segments = ss })
copy_list-read bytes units segments us ss a b = ap (λ u. copy_list bytes u segments) a ∙ ap (λ s. copy_list bytes (Ok us) s) b
