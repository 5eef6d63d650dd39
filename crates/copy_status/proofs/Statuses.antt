-- What may be told of an operation is what is told of one
use Rattle.std.proofs.Common.{◌≡◌, ◌==◌, ℕ, true, false, Option, Some, None, is_some, refl, sym, arith}
use Rattle.std.proofs.lemmas.Bool.{eqb-true}
use Rattle.std.proofs.lemmas.Bool.Decides.{nat_tests}
use Rattle.scsi_sense.specs.SenseCode.{SenseCode}
use Rattle.copy_status.specs.declared.operation.OperationStatus.{OperationStatus}
use Rattle.copy_status.specs.CopyStatus.{is_code, status_code, sense_of}

-- a code without a sense is one of four
one_of_four : (code : ℕ) → is_code code ≡ true → (code == 0x02) ≡ false
    → (0x01 ≡ code → ⊥) → (0x11 ≡ code → ⊥) → (0x12 ≡ code → ⊥) → (0x60 ≡ code → ⊥) → ⊥
one_of_four code known other a b c d = grind (arith, nat_tests)

-- some operation has the code and the sense
pub has_operation : (code : ℕ) (sense : Option SenseCode) → is_code code ≡ true → is_some sense ≡ (code == 0x02)
    → ((s : OperationStatus) → status_code s ≡ code → sense_of s ≡ sense → ⊥) → ⊥
has_operation code None known failed none =
    one_of_four code known (sym failed) (λ e. none OperationStatus.Completed e refl) (λ e. none OperationStatus.Foreground e refl)
    (λ e. none OperationStatus.Background e refl) (λ e. none OperationStatus.Terminated e refl)
has_operation code (Some sense) known failed none =
    none (OperationStatus.Failed sense) (sym (eqb-true code 0x02 (sym failed))) refl
