-- What comes of faults, and of what is read where there is none
use Rattle.std.proofs.Common.{◌≡◌, Option, Some, None, Result, Ok, Err, ap, ◌∙◌}
use Rattle.scsi_sense.specs.SenseCode.{SenseCode}
use Rattle.scsi_sense.specs.Faults.{unless, or_else, Refuses}
use Rattle.scsi_sense.specs.declared.fault.ParamFault.{ParamFault}

-- what comes of two faults, of which the first is none
pub unless-none_first : {A : Type 0} (first second : Option SenseCode) (next : Result A SenseCode) → first ≡ None → unless (or_else first second) next ≡ unless second next
unless-none_first first second next none = ap (λ f. unless (or_else f second) next) none

-- what is made of a value that was read
pub unless-made : {A B : Type 0} (make : A → B) (fault : Option SenseCode) (read value : A) → unless fault (Ok read) ≡ Ok value → unless fault (Ok (make read)) ≡ Ok (make value)
unless-made make None read value is = let same : read ≡ value = cc in ap (λ v. Ok (make v)) same
unless-made make (Some sense) read value is = absurd (cc)

-- where there is no fault, what comes next stands
pub unless-no_faults : {A : Type 0} (a b c : Option SenseCode) (next : Result A SenseCode) → a ≡ None → b ≡ None → c ≡ None → unless (or_else a (or_else b c)) next ≡ next
unless-no_faults a b c next first second third =
    ap (λ x. unless (or_else x (or_else b c)) next) first ∙ ap (λ x. unless (or_else x c) next) second ∙ ap (λ x. unless x next) third

-- a refusal stays one, whatever would be made of the value
pub Refuses-made : {A B : Type 0} (make : A → B) (fault : Option SenseCode) (read : A) (told : ParamFault) → Refuses (unless fault (Ok read)) told
    → Refuses (unless fault (Ok (make read))) told
Refuses-made make fault read ParamFault.OutOfMemory refused = tt
Refuses-made make None read (ParamFault.Refused sense) refused = absurd (cc)
Refuses-made make (Some s) read (ParamFault.Refused sense) refused = let same : s ≡ sense = cc in ap Err same
