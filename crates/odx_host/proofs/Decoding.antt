-- The requests of a host are read as what they are
use Rattle.std.proofs.Common.{◌≡◌, ℕ, ◌<◌, ◌^◌, ap, ◌∙◌, Ok}
use Rattle.cm_base.specs.Fields.{field}
use Rattle.cm_base.proofs.PublicLaws.{number-back}
use Rattle.scsi_cdb.specs.declared.cdb.Cdb.{Cdb}
use Rattle.scsi_cdb.specs.Decoded.{decoded}
use Rattle.scsi_cdb.specs.Encoded.{encoded}

pub populate-decoded : (id n : ℕ) → id < 2 ^ 32 → n < 2 ^ 32 → decoded (encoded (Cdb.PopulateToken id n)) ≡ Ok (Cdb.PopulateToken id n)
populate-decoded id n a b =
    ap (λ x. Ok (Cdb.PopulateToken x (field (encoded (Cdb.PopulateToken id n)) 10 13))) (number-back 4 id a)
    ∙ ap (λ x. Ok (Cdb.PopulateToken id x)) (number-back 4 n b)

pub write-decoded : (id n : ℕ) → id < 2 ^ 32 → n < 2 ^ 32 → decoded (encoded (Cdb.WriteUsingToken id n)) ≡ Ok (Cdb.WriteUsingToken id n)
write-decoded id n a b =
    ap (λ x. Ok (Cdb.WriteUsingToken x (field (encoded (Cdb.WriteUsingToken id n)) 10 13))) (number-back 4 id a)
    ∙ ap (λ x. Ok (Cdb.WriteUsingToken id x)) (number-back 4 n b)

pub status-decoded : (id n : ℕ) → id < 2 ^ 32 → n < 2 ^ 32 → decoded (encoded (Cdb.TokenInformation id n)) ≡ Ok (Cdb.TokenInformation id n)
status-decoded id n a b =
    ap (λ x. Ok (Cdb.TokenInformation x (field (encoded (Cdb.TokenInformation id n)) 10 13))) (number-back 4 id a)
    ∙ ap (λ x. Ok (Cdb.TokenInformation id x)) (number-back 4 n b)
