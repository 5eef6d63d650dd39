use Rattle.std.proofs.Common.{◌≡◌, ℕ, ◌<◌, ◌*◌, ◌==◌, zero, suc, refl, arith, ap, ◌∙◌}
use Rattle.std.proofs.lemmas.Nat.Bits.{and_pow, bit_at-lt}
use Rattle.std.specs.Int.{bit_at}
use Rattle.scsi_cdb.proofs.bits.has_naca.Goals as goal

quad : (b : ℕ) → b < 2 → (b * 4 == 4) ≡ (b == 1)
quad zero h = refl
quad (suc zero) h = refl
quad (suc (suc b)) h = absurd (omega arith)

pub returns : goal.returns
returns c =
    let n = c.args.control in
    c.contains.ensures tt ∙ ap (λ x. x == 4) (and_pow n 2) ∙ quad (bit_at n 2) (bit_at-lt n 2)
