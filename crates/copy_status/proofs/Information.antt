-- The status bytes, cut into header, sense and token
use Rattle.std.proofs.Common.{◌≡◌, ◌≤◌, ℕ, ◌-◌, Bool, Option, Some, None, List, ◌++◌, length, take, drop, slice_index, IfSome, ap, ◌∙◌, arith, append_assoc}
use Rattle.byteorder.specs.Endian.{big_bytes}
use Rattle.cm_base.specs.Fields.{counted}
use Rattle.scsi_sense.specs.SenseCode.{SenseCode}
use Rattle.scsi_sense.specs.SenseBytes.{sense_bytes}
use Rattle.copy_status.specs.StatusBytes.{information_bytes, token_part}

-- three parts behind their length
pub counted_parts : (n : ℕ) (fields sense token bytes : List ℕ) → bytes ≡ (big_bytes 4 n ++ fields) ++ (sense ++ token) → n ≡ length bytes - 4
    → bytes ≡ counted (fields ++ sense ++ token)
counted_parts n fields sense token bytes is len =
    let regrouped : (big_bytes 4 n ++ fields) ++ (sense ++ token) ≡ big_bytes 4 n ++ (fields ++ sense ++ token) = simp append_assoc in
    let whole : bytes ≡ big_bytes 4 n ++ (fields ++ sense ++ token) = is ∙ regrouped in
    let all : n ≡ length (fields ++ sense ++ token) = omega (arith, len, ap length whole) in
    whole ∙ ap (λ m. big_bytes 4 m ++ (fields ++ sense ++ token)) all

-- where byte 13 says that there is a sense, one follows the header
pub sense_follows : (populate : Bool) (status : ℕ) (running : Bool) (sense : Option SenseCode) (count : ℕ) (token : Option (List ℕ)) (bytes : List ℕ)
    → bytes ≡ information_bytes (record { populate = populate; status = status; running = running; sense = sense; count = count }) token
    → IfSome sense (λ s. s.key ≤ 15) → (slice_index (take 32 bytes) 13 ≡ 0 → ⊥)
    → ((s : SenseCode) (more : List ℕ) → s.key ≤ 15 → drop 32 bytes ≡ sense_bytes s ++ more → ⊥) → ⊥
sense_follows populate status running None count token bytes is key marked none = marked (ap (λ b. slice_index (take 32 b) 13) is)
sense_follows populate status running (Some s) count token bytes is key marked none = none s (token_part token) key (ap (drop 32) is)
