-- What is spelled as a header is read, whatever follows it
use Rattle.std.proofs.Common.{◌≡◌, ℕ, ◌+◌, ◌*◌, ◌^◌, ◌<◌, ◌≤◌, List, [], ◌∷◌, ◌++◌, length, take, drop, refl, ap, sym, ◌∙◌, arith, true, false, inl, inr, append_assoc, take_at, drop_at}
use Rattle.std.specs.Prelude.{nat_lt, nat_le, ◌==◌, ◌||◌, ◌⊎◌, None, flat_map}
use Rattle.std.specs.List.{AllByRecursion}
use Rattle.std.proofs.lemmas.Bool.{le-ltb, le-leb}
use Rattle.std.proofs.lemmas.List.{length-append, drop-drop}
use Rattle.std.proofs.lemmas.List.Elements.{recursion_from_All}
use Rattle.cm_base.specs.declared.config.UnitConfig.{UnitConfig}
use Rattle.cm_base.specs.declared.parsed.Parsed.TheVariants.{Whole}
use Rattle.byteorder.specs.Endian.{big_from, big_bytes}
use Rattle.byteorder.specs.Numbers.{big_number-reads_back}
use Rattle.cm_base.specs.Configuration.{IsUnit}
use Rattle.cm_base.specs.Fields.{is_between}
use Rattle.cm_base.proofs.PublicLaws.{number-back, field-moved}
use Rattle.cm_frame.specs.Grammar.{unit_bytes, header_bytes, IsConfig}
use Rattle.cm_frame.specs.Reading.{first_broken, unit_checks, unit_in, units_in, or_later, units_fault, units_told, config_in, judged_units, read_header}
use Rattle.cm_frame.specs.Laws.{IsReadBack, NoneBegins}
use Rattle.cm_frame.proofs.ReadBack.{none-begins}

between : (low high n : ℕ) → low ≤ n → n ≤ high → is_between low high n ≡ true
between low high n a b = let x = le-leb low n a in let y = le-leb n high b in rw (x, y) refl

two-lengths : (n : ℕ) → ((n ≡ 512) ⊎ (n ≡ 4096)) → ((n == 512) || (n == 4096)) ≡ true
two-lengths n (inl e) = rw e refl
two-lengths n (inr e) = rw e refl

unit-back : (u : UnitConfig) (rest : List ℕ) → IsUnit u → (unit_in (unit_bytes u ++ rest) ≡ u) × (first_broken (unit_checks (unit_bytes u ++ rest)) ≡ None)
unit-back u rest fits =
    let length_fits : u.block_length < 256 ^ 4 = small u.block_length fits.block_length in
    let f0 : big_from 0 8 (big_bytes 8 u.blocks) ≡ u.blocks = number-back 8 u.blocks (omega (arith, fits.blocks.1)) in
    let f8 : big_from 0 4 (big_bytes 4 u.block_length) ≡ u.block_length = number-back 4 u.block_length length_fits in
    let f12 : big_from 0 4 (big_bytes 4 u.entries) ≡ u.entries = number-back 4 u.entries (omega (arith, fits.entries.1)) in
    let f16 : big_from 0 8 (big_bytes 8 u.quota) ≡ u.quota = number-back 8 u.quota (omega (arith, fits.quota, fits.blocks.1)) in
    let f24 : big_from 0 4 (big_bytes 4 u.payload) ≡ u.payload = number-back 4 u.payload (omega (arith, fits.payload.1)) in
    let c0 = between 1 4_294_967_296 u.blocks fits.blocks.0 fits.blocks.1 in
    let c8 = two-lengths u.block_length fits.block_length in
    let c12 = between 1 1_048_576 u.entries fits.entries.0 fits.entries.1 in
    let c16 : nat_le u.quota u.blocks ≡ true = le-leb u.quota u.blocks fits.quota in
    let c24 = between 1 268_435_456 u.payload fits.payload.0 fits.payload.1 in
    let c28 : nat_le u.group 15 ≡ true = le-leb u.group 15 fits.group in
    (rw (f0, f8, f12, f16, f24) refl, rw (f0, f8, f12, f16, f24, c0, c8, c12, c16, c24, c28) refl)
  where
    small : (n : ℕ) → ((n ≡ 512) ⊎ (n ≡ 4096)) → n < 256 ^ 4
    small n (inl e) = omega (arith, e)
    small n (inr e) = omega (arith, e)

units-back : (us : List UnitConfig) (rest : List ℕ) → AllByRecursion IsUnit us → units_in (length us) (flat_map unit_bytes us ++ rest) ≡ us
units-back [] rest all = refl
units-back (u ∷ us) rest all =
    ap (λ v. v ∷ units_in (length us) (flat_map unit_bytes us ++ rest)) (unit-back u (flat_map unit_bytes us ++ rest) all.0).0
    ∙ ap (λ vs. u ∷ vs) (units-back us rest all.1)

faults-back : (us : List UnitConfig) (place : ℕ) (rest : List ℕ) → AllByRecursion IsUnit us → units_fault (length us) place (flat_map unit_bytes us ++ rest) ≡ None
faults-back [] place rest all = refl
faults-back (u ∷ us) place rest all =
    ap (λ f. or_later place f (units_fault (length us) (place + 32) (flat_map unit_bytes us ++ rest))) (unit-back u (flat_map unit_bytes us ++ rest) all.0).1
    ∙ faults-back us (place + 32) rest all.1

length-units : (us : List UnitConfig) → length (flat_map unit_bytes us) ≡ 32 * length us
length-units [] = refl
length-units (u ∷ us) =
    let more : length (flat_map unit_bytes (u ∷ us)) ≡ 32 + length (flat_map unit_bytes us) = omega arith in
    more ∙ omega (arith, length-units us)

pub header-back : IsReadBack IsConfig header_bytes read_header
header-back config rest fits =
    let n = length config.units in
    let units = flat_map unit_bytes config.units in
    let tail = ((config.secret ++ big_bytes 2 n) ++ units) ++ rest in
    let split : tail ≡ config.secret ++ (big_bytes 2 n ++ (units ++ rest)) =
    append_assoc (config.secret ++ big_bytes 2 n) units rest ∙ append_assoc config.secret (big_bytes 2 n) (units ++ rest) in
    let secret_is : take 32 tail ≡ config.secret = ap (take 32) split ∙ take_at config.secret (big_bytes 2 n ++ (units ++ rest)) 32 fits.secret.0 in
    let behind : drop 32 tail ≡ big_bytes 2 n ++ (units ++ rest) = ap (drop 32) split ∙ drop_at config.secret (big_bytes 2 n ++ (units ++ rest)) 32 fits.secret.0 in
    let told : big_from 40 2 (header_bytes config ++ rest) ≡ n =
    sym (field-moved 0 2 40 (header_bytes config ++ rest)) ∙ ap (big_from 0 2) behind ∙ big_number-reads_back 2 n (units ++ rest) (omega (arith, fits.units.count.1)) in
    let units_are : drop 34 tail ≡ units ++ rest = sym (drop-drop 2 32 tail) ∙ ap (drop 2) behind in
    let each = recursion_from_All IsUnit config.units fits.units.each in
    let long : length (header_bytes config ++ rest) ≡ 42 + 32 * n + length rest =
    omega (arith, length-append ((config.secret ++ big_bytes 2 n) ++ units) rest, length-append (config.secret ++ big_bytes 2 n) units, length-append config.secret (big_bytes 2 n), fits.secret.0, length-units config.units) in
    let used : length (header_bytes config) ≡ 42 + 32 * n =
    omega (arith, length-append (config.secret ++ big_bytes 2 n) units, length-append config.secret (big_bytes 2 n), fits.secret.0, length-units config.units) in
    let first : nat_lt (length (header_bytes config ++ rest)) 42 ≡ false = le-ltb _ 42 (omega (arith, long)) in
    let count : is_between 1 16 n ≡ true = between 1 16 n fits.units.count.0 fits.units.count.1 in
    let whole : nat_lt (length (header_bytes config ++ rest)) (42 + 32 * n) ≡ false = le-ltb _ (42 + 32 * n) (omega (arith, long)) in
    let fault = faults-back config.units 42 rest each in
    let list = units-back config.units rest each in
    let bytes = header_bytes config ++ rest in
    let units_is : units_in (units_told bytes) (drop 42 bytes) ≡ config.units =
    ap (λ m. units_in m (drop 42 bytes)) told ∙ ap (units_in n) units_are ∙ list in
    let config_is : config_in bytes ≡ config =
    ap (λ s. record { secret = s; units = units_in (units_told bytes) (drop 42 bytes) }) secret_is
    ∙ ap (λ us. record { secret = config.secret; units = us }) units_is in
    let last : judged_units bytes None ≡ Whole config (length (header_bytes config)) =
    ap (λ m. Whole (config_in bytes) (42 + 32 * m)) told ∙ ap (λ k. Whole (config_in bytes) k) (sym used)
    ∙ ap (λ c. Whole c (length (header_bytes config))) config_is in
    rw (first, told, count, whole, units_are, fault) last

pub headers-apart : NoneBegins IsConfig header_bytes
headers-apart = none-begins IsConfig header_bytes read_header header-back
