-- Words that are numbers
use Rattle.std.proofs.Common.{◌≡◌, ℕ, ◌^◌, ◌<◌, ◌≤◌, ◌==◌, Bool, false, cond, List, length, get_or, drop, slice_index, Result, Ok, Err, decimal, sym, ap, ◌∙◌, subst, arith, ne_eqb, eqb-true}
use Rattle.std.specs.Prelude.{IsTrue}
use Rattle.std.proofs.lemmas.Fmt.{decimal_is_IsNumeral, first_decimal, decimal-digits_value, decimal_injective, IsAscii-decimal}
use Rattle.std.proofs.lemmas.Str.{IsUtf8-from_ascii}
use Rattle.std.proofs.lemmas.Str.Parse.{numerals_by_value, tells_digits, digit_at}
use Rattle.std.specs.Str.{IsUtf8}
use Rattle.std.specs.Str.Parse.{IsNumeral, ParsesUnsigned, digits_value, without_leading_plus}
use Rattle.cm_base.specs.Numbers.{IsUpTo}

-- a word that begins with a digit has no sign
plain : (word : List ℕ) → 49 ≤ slice_index word 0 → without_leading_plus word ≡ word
plain word low = let no : (slice_index word 0 == 43) ≡ false = ne_eqb (slice_index word 0) 43 (λ e. omega (arith, low, e)) in
    ap (λ b. drop (cond b 1 0) word) no

-- the word was read as this number
abbrev IsRead : List ℕ → ℕ → Type 0
IsRead word n =
    (IsNumeral 10 (without_leading_plus word) × (digits_value 10 (without_leading_plus word) < 2 ^ 32))
    × (n ≡ digits_value 10 (without_leading_plus word))

-- what was read is what is spelled
spelled-by : (word : List ℕ) (n : ℕ) → 49 ≤ slice_index word 0 → IsRead word n → word ≡ decimal n
spelled-by word n low (fits, is) =
    let bare = plain word low in
    let numeral : IsNumeral 10 word = subst (IsNumeral 10) bare fits.0 in
    let value : n ≡ digits_value 10 word = is ∙ ap (digits_value 10) bare in
    let small : digits_value 10 word < 2 ^ 64 = let below = subst (λ w. digits_value 10 w < 2 ^ 32) bare fits.1 in omega (arith, below) in
    let alone : get_or word 0 0 ≡ 48 → length word ≡ 1 = λ zero_first. absurd (omega (arith, zero_first, low)) in
    sym (ap decimal value ∙ decimal-digits_value (numerals_by_value _ tells_digits) word numeral.1 numeral.0 alone small)

pub spelled : {E : Type 0} (r : Result ℕ E) (text word : List ℕ) (n : ℕ) → r ≡ Ok n → text ≡ word → ParsesUnsigned 32 10 text r
    → 49 ≤ slice_index word 0 → word ≡ decimal n
spelled {E} r text word n got same parsed low =
    spelled-by word n low (subst (λ w. IsRead w n) same (subst (ParsesUnsigned {E = E} 32 10 text) got parsed))

-- a spelled number is text, and begins with a digit other than 0
pub text : (word : List ℕ) (most n : ℕ) → most < 2 ^ 32 → IsUpTo most n → word ≡ decimal n → IsUtf8 word
text word most n low few is = subst IsUtf8 (sym is) (IsUtf8-from_ascii (decimal n) (IsAscii-decimal n (omega (arith, few.1, low))))

-- what begins with another digit, or none, is no such number
pub first-low : (word : List ℕ) (most n : ℕ) → most < 2 ^ 32 → IsUpTo most n → word ≡ decimal n → 49 ≤ slice_index word 0
first-low word most n low few is = let more = first_decimal n (omega (arith, few.0)) (omega (arith, few.1, low)) in
    subst (λ (w : List ℕ). 49 ≤ slice_index w 0) (sym is) (omega (arith, more))

pub first-high : (word : List ℕ) (most n : ℕ) → most < 2 ^ 32 → IsUpTo most n → word ≡ decimal n → slice_index word 0 ≤ 57
first-high word most n low few is = let digits = (decimal_is_IsNumeral n (omega (arith, few.1, low))).0 in
    subst (λ (w : List ℕ). slice_index w 0 ≤ 57) (sym is) (digit_at (decimal n) 0 digits.1 digits.0).1

pub not-empty : (word : List ℕ) (most n : ℕ) → most < 2 ^ 32 → IsUpTo most n → word ≡ decimal n → 0 < length word
not-empty word most n low few is = subst (λ (w : List ℕ). 0 < length w) (sym is) (decimal_is_IsNumeral n (omega (arith, few.1, low))).0.0

-- a spelled number is not refused
pub refused : (E : Type 0) (word : List ℕ) (most n : ℕ) (e : E) → most < 2 ^ 32 → IsUpTo most n → word ≡ decimal n → ParsesUnsigned {E = E} 32 10 word (Err e) → ⊥
refused E word most n e low few is parsed =
    let numeral = decimal_is_IsNumeral n (omega (arith, few.1, low)) in
    let same : decimal n ≡ without_leading_plus word = sym is ∙ sym (plain word (first-low word most n low few is)) in
    parsed (subst (IsNumeral 10) same numeral.0, subst (λ w. digits_value 10 w < 2 ^ 32) same (omega (arith, numeral.1, few.1, low)))

-- a number that was read is the one that is spelled
pub same-number : {E : Type 0} (r : Result ℕ E) (text word : List ℕ) (most n m : ℕ) → most < 2 ^ 32 → IsUpTo most n → word ≡ decimal n → r ≡ Ok m → text ≡ word
    → ParsesUnsigned 32 10 text r → m ≡ n
same-number {E} r text word most n m low few is got same parsed =
    let read : IsRead text m = subst (ParsesUnsigned {E = E} 32 10 text) got parsed in
    decimal_injective m n (omega (arith, read.0.1, read.1)) (omega (arith, few.1, low))
    (sym (spelled r text word m got same parsed (first-low word most n low few is)) ∙ is)

pub some-word : (word : List ℕ) (most n : ℕ) (empty : Bool) → most < 2 ^ 32 → IsUpTo most n → word ≡ decimal n → empty ≡ (length word == 0) → IsTrue empty → ⊥
some-word word most n empty low few is e holds =
    let none : length word ≡ 0 = eqb-true (length word) 0 (subst IsTrue e holds) in
    omega (arith, none, not-empty word most n low few is)
