-- A header that is read was spelled so
use Rattle.std.proofs.Common.{◌≡◌, ℕ, zero, suc, ◌+◌, ◌*◌, ◌%◌, ◌<◌, ◌≤◌, List, [], ◌∷◌, ◌++◌, length, take, drop, refl, ap, sym, ◌∙◌, arith}
use Rattle.std.specs.Prelude.{not, bytes_eq, flat_map, Option, Some, None}
use Rattle.std.proofs.lemmas.Bool.{not-false}
use Rattle.std.proofs.lemmas.List.{length-drop}
use Rattle.std.proofs.lemmas.List.Elements.{All-drop}
use Rattle.std.proofs.lemmas.Slice.Eq.{bytes_eq-Decides}
use Rattle.std.proofs.Math.Nat.{mod-eq_of_lt}
use Rattle.byteorder.specs.Endian.{big_bytes}
use Rattle.cm_base.specs.Configuration.{Configuration}
use Rattle.cm_base.specs.declared.parsed.Parsed.TheVariants.{Whole}
use Rattle.cm_base.specs.Fields.{byte, field, part, is_between, AreBytes}
use Rattle.cm_base.proofs.PublicLaws.{below-bytes, bytes-part, field-spelled, length-part, parts-join}
use Rattle.cm_frame.specs.Grammar.{header_text, unit_bytes, header_bytes, IsConfig}
use Rattle.cm_frame.specs.Reading.{first_broken, unit_checks, unit_in, units_in, units_fault, units_told, config_in, judged_units, read_header}
use Rattle.cm_frame.specs.Laws.{IsSpelledSo}
use Rattle.cm_frame.proofs.Spelled.{guard-whole, bad-whole, Takes, moved, byte-spelled}
use Rattle.cm_frame.proofs.UnitSteps.{Sound, unit-sound, none-later, length-units_in, units-are, between-bounds}

unit-spelled : (bytes : List ℕ) → AreBytes bytes → 32 ≤ length bytes → Sound bytes → unit_bytes (unit_in bytes) ≡ take 32 bytes
unit-spelled bytes all there sound =
    let f0 = field-spelled 0 8 bytes all (omega arith) in
    let f8 = field-spelled 8 4 bytes all (omega arith) in
    let f12 = field-spelled 12 4 bytes all (omega arith) in
    let f16 = field-spelled 16 8 bytes all (omega arith) in
    let f24 = field-spelled 24 4 bytes all (omega arith) in
    let group : byte bytes 28 ≡ byte bytes 28 % 256 = sym (mod-eq_of_lt (below-bytes bytes all 28)) in
    let f28 : byte bytes 28 ∷ [] ≡ part 28 1 bytes = ap (λ k. k ∷ []) group ∙ byte-spelled 28 bytes (byte bytes 28) all (omega arith) refl in
    let f29 : big_bytes 3 0 ≡ part 29 3 bytes = ap (big_bytes 3) (sym sound.rest) ∙ field-spelled 29 3 bytes all (omega arith) in
    ap (λ l. l ++ (big_bytes 4 (field bytes 8 11) ++ (big_bytes 4 (field bytes 12 15) ++ (big_bytes 8 (field bytes 16 23) ++ (big_bytes 4 (field bytes 24 27) ++ ((byte bytes 28 ∷ []) ++ big_bytes 3 0)))))) f0
    ∙ ap (λ l. part 0 8 bytes ++ (l ++ (big_bytes 4 (field bytes 12 15) ++ (big_bytes 8 (field bytes 16 23) ++ (big_bytes 4 (field bytes 24 27) ++ ((byte bytes 28 ∷ []) ++ big_bytes 3 0)))))) f8
    ∙ ap (λ l. part 0 8 bytes ++ (part 8 4 bytes ++ (l ++ (big_bytes 8 (field bytes 16 23) ++ (big_bytes 4 (field bytes 24 27) ++ ((byte bytes 28 ∷ []) ++ big_bytes 3 0)))))) f12
    ∙ ap (λ l. part 0 8 bytes ++ (part 8 4 bytes ++ (part 12 4 bytes ++ (l ++ (big_bytes 4 (field bytes 24 27) ++ ((byte bytes 28 ∷ []) ++ big_bytes 3 0)))))) f16
    ∙ ap (λ l. part 0 8 bytes ++ (part 8 4 bytes ++ (part 12 4 bytes ++ (part 16 8 bytes ++ (l ++ ((byte bytes 28 ∷ []) ++ big_bytes 3 0)))))) f24
    ∙ ap (λ l. part 0 8 bytes ++ (part 8 4 bytes ++ (part 12 4 bytes ++ (part 16 8 bytes ++ (part 24 4 bytes ++ (l ++ big_bytes 3 0)))))) f28
    ∙ ap (λ l. part 0 8 bytes ++ (part 8 4 bytes ++ (part 12 4 bytes ++ (part 16 8 bytes ++ (part 24 4 bytes ++ (part 28 1 bytes ++ l)))))) f29
    ∙ ap (λ l. part 0 8 bytes ++ (part 8 4 bytes ++ (part 12 4 bytes ++ (part 16 8 bytes ++ (part 24 4 bytes ++ l))))) (parts-join 28 1 3 bytes)
    ∙ ap (λ l. part 0 8 bytes ++ (part 8 4 bytes ++ (part 12 4 bytes ++ (part 16 8 bytes ++ l)))) (parts-join 24 4 4 bytes)
    ∙ ap (λ l. part 0 8 bytes ++ (part 8 4 bytes ++ (part 12 4 bytes ++ l))) (parts-join 16 8 8 bytes)
    ∙ ap (λ l. part 0 8 bytes ++ (part 8 4 bytes ++ l)) (parts-join 12 4 16 bytes)
    ∙ ap (λ l. part 0 8 bytes ++ l) (parts-join 8 4 20 bytes) ∙ parts-join 0 8 24 bytes

units-spelled : (n place : ℕ) (bytes : List ℕ) → AreBytes bytes → 32 * n ≤ length bytes → units_fault n place bytes ≡ None
    → flat_map unit_bytes (units_in n bytes) ≡ take (32 * n) bytes
units-spelled zero place bytes all there none = refl
units-spelled (suc n) place bytes all there none =
    let both = none-later place (first_broken (unit_checks bytes)) (units_fault n (place + 32) (drop 32 bytes)) none in
    let one = unit-spelled bytes all (omega (arith, there)) (unit-sound bytes both.0) in
    let rest = units-spelled n (place + 32) (drop 32 bytes) (All-drop (λ b. b < 256) 32 bytes all) (omega (arith, there, length-drop 32 bytes)) both.1 in
    let count : 32 + 32 * n ≡ 32 * suc n = omega arith in
    ap (λ l. l ++ flat_map unit_bytes (units_in n (drop 32 bytes))) one ∙ ap (λ l. take 32 bytes ++ l) rest
    ∙ parts-join 0 32 (32 * n) bytes ∙ ap (λ k. take k bytes) count

judged-whole : (bytes : List ℕ) (fault : Option ℕ) (x : Configuration) (used : ℕ) → judged_units bytes fault ≡ Whole x used
    → (fault ≡ None) × (Whole (config_in bytes) (42 + 32 * units_told bytes) ≡ Whole x used)
judged-whole bytes None x used e = (refl, e)
judged-whole bytes (Some place) x used e = cc

header-takes : (bytes : List ℕ) (x : Configuration) (used : ℕ) → AreBytes bytes → read_header bytes ≡ Whole x used → Takes IsConfig header_bytes bytes x used
header-takes bytes x used all e =
    let n = units_told bytes in
    let behind = drop 42 bytes in
    let units = units_in n behind in
    let first = guard-whole 42 bytes _ x used e in
    let text = bad-whole (not (bytes_eq (take 8 bytes) header_text)) 0 _ x used first.1 in
    let count = bad-whole (not (is_between 1 16 n)) 40 _ x used text.1 in
    let whole = guard-whole (42 + 32 * n) bytes (judged_units bytes (units_fault n 42 behind)) x used count.1 in
    let judged = judged-whole bytes (units_fault n 42 behind) x used whole.1 in
    let bounds = between-bounds 1 16 n (not-false (is_between 1 16 n) count.0) in
    let text_is : take 8 bytes ≡ header_text = (bytes_eq-Decides (take 8 bytes) header_text).0 (not-false (bytes_eq (take 8 bytes) header_text) text.0) in
    let room : 32 * n ≤ length behind = omega (arith, whole.0, length-drop 42 bytes) in
    let list = units-spelled n 42 behind (All-drop (λ b. b < 256) 42 bytes all) room judged.0 in
    let told : big_bytes 2 (length units) ≡ part 40 2 bytes = ap (big_bytes 2) (length-units_in n behind) ∙ field-spelled 40 2 bytes all (omega (arith, first.0)) in
    let secret = part 8 32 bytes in
    let spelled : header_bytes (config_in bytes) ≡ take (42 + 32 * n) bytes =
    ap (λ l. l ++ ((secret ++ big_bytes 2 (length units)) ++ flat_map unit_bytes units)) (sym text_is)
    ∙ ap (λ l. take 8 bytes ++ ((secret ++ l) ++ flat_map unit_bytes units)) told
    ∙ ap (λ l. take 8 bytes ++ ((secret ++ part 40 2 bytes) ++ l)) list
    ∙ ap (λ l. take 8 bytes ++ (l ++ part 42 (32 * n) bytes)) (parts-join 8 32 2 bytes)
    ∙ ap (λ l. take 8 bytes ++ l) (parts-join 8 34 (32 * n) bytes)
    ∙ parts-join 0 8 (34 + 32 * n) bytes
    ∙ ap (λ k. take k bytes) (omega arith) in
    let fits : IsConfig (config_in bytes) = record {
      secret = (length-part 8 32 bytes (omega (arith, first.0)), bytes-part 8 32 bytes all);
      units = units-are n 42 behind bounds.0 bounds.1 judged.0;
    } in
    let mine : Takes IsConfig header_bytes bytes (config_in bytes) (42 + 32 * n) = record { fits = fits; within = whole.0; is = sym spelled } in
    moved IsConfig header_bytes bytes (config_in bytes) x (42 + 32 * n) used mine judged.1

pub header-spelled : IsSpelledSo IsConfig header_bytes read_header
header-spelled bytes x used small e =
    let t = header-takes bytes x used small e in
    (t.fits, t.within, t.is)
