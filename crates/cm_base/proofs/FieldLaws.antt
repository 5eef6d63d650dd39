-- Fields of bytes: what comes behind them, where they stand, and their spelling
use Rattle.std.proofs.Common.{◌≡◌, ℕ, zero, suc, ◌+◌, ◌*◌, ◌/◌, ◌^◌, ◌<◌, ◌≤◌, List, [], ◌∷◌, ◌++◌, length, take, drop, slice_index, refl, sym, ap, ◌∙◌, arith, inl, inr}
use Rattle.std.specs.Prelude.{◌⊎◌}
use Rattle.std.specs.Int.{byte_at}
use Rattle.std.proofs.lemmas.Bool.{cases_lt}
use Rattle.std.proofs.lemmas.Grind.{common_steps}
use Rattle.std.proofs.lemmas.List.{length-drop, length-take-le, drop-drop, drop-append-le, take-append-le, get_or-drop, get_or_past, get_or_default, append-nil}
use Rattle.std.proofs.lemmas.List.Elements.{All-take, All-drop}
use Rattle.std.proofs.lemmas.Nat.{div-mul-add}
use Rattle.std.proofs.Math.ListN.{get_or-append}
use Rattle.std.proofs.Math.Nat.{mod-lt}
use Rattle.byteorder.specs.Endian.{big_from, big_bytes}
use Rattle.byteorder.specs.Numbers.{big_from-cons, big_from-take, big_from-lt, big_number-reads_back, length-bytes_high_first}
use Rattle.cm_base.specs.Fields.{part, AreBytes}

-- ---- what comes behind

-- a part that is there is the same, whatever comes behind
pub part-stays : (place n : ℕ) (a b : List ℕ) → place + n ≤ length a → part place n (a ++ b) ≡ part place n a
part-stays place n a b there =
    let rest : n ≤ length (drop place a) = omega (arith, length-drop place a) in
    ap (take n) (drop-append-le place a b (omega arith)) ∙ take-append-le n (drop place a) b rest

-- so is a byte
pub byte-stays : (place : ℕ) (a b : List ℕ) → place < length a → slice_index (a ++ b) place ≡ slice_index a place
byte-stays place a b there = get_or-append a b 0 place there

-- and the number in a field
pub field-stays : (place n : ℕ) (a b : List ℕ) → place + n ≤ length a → big_from place n (a ++ b) ≡ big_from place n a
field-stays place n a b there =
    sym (big_from-take place n (place + n) (a ++ b) (omega arith)) ∙ ap (big_from place n) (take-append-le (place + n) a b there)
    ∙ big_from-take place n (place + n) a (omega arith)

-- ---- where they stand

-- behind what is dropped
pub field-moved : (i n j : ℕ) (xs : List ℕ) → big_from i n (drop j xs) ≡ big_from (j + i) n xs
field-moved i zero j xs = refl
field-moved i (suc n) j xs =
    let here : slice_index (drop j xs) i ≡ slice_index xs (j + i) = get_or-drop j xs i 0 in
    let later : big_from (suc i) n (drop j xs) ≡ big_from (suc (j + i)) n xs =
    field-moved (suc i) n j xs ∙ ap (λ k. big_from k n xs) (omega arith) in
    rw (here, later) refl

-- a field is the number in its part
pub field-part : (place n : ℕ) (xs : List ℕ) → big_from 0 n (part place n xs) ≡ big_from place n xs
field-part place n xs =
    big_from-take 0 n n (drop place xs) (omega arith) ∙ field-moved 0 n place xs ∙ ap (λ k. big_from k n xs) (omega arith)

pub length-part : (place n : ℕ) (xs : List ℕ) → place + n ≤ length xs → length (part place n xs) ≡ n
length-part place n xs there = length-take-le n (drop place xs) (omega (arith, length-drop place xs))

-- one part and the next
pub parts-join : (place m n : ℕ) (xs : List ℕ) → part place m xs ++ part (place + m) n xs ≡ part place (m + n) xs
parts-join place m n xs =
    ap (λ l. part place m xs ++ take n l) (sym (drop-drop m place xs)) ∙ take-more (drop place xs) m n
  where
    take-more : (ys : List ℕ) (i k : ℕ) → take i ys ++ take k (drop i ys) ≡ take (i + k) ys
    take-more ys zero k = let e : 0 + k ≡ k = omega arith in rw e refl
    take-more [] (suc i) k = grind (arith, common_steps)
    take-more (y ∷ ys) (suc i) k = let e : suc i + k ≡ suc (i + k) = omega arith in rw e (ap (λ l. y ∷ l) (take-more ys i k))

-- ---- bytes

-- no place has more than a byte
pub below-bytes : (xs : List ℕ) → AreBytes xs → (k : ℕ) → slice_index xs k < 256
below-bytes xs small k = go (cases_lt k (length xs))
  where
    go : ((k < length xs) ⊎ (length xs ≤ k)) → slice_index xs k < 256
    go (inl within) = small k 0 within
    go (inr past) = let none : slice_index xs k ≡ 0 = get_or_past xs k 0 past in omega arith

pub bytes-from_places : (xs : List ℕ) → ((k : ℕ) → slice_index xs k < 256) → AreBytes xs
bytes-from_places xs small = λ k d within. let e = get_or_default xs k d 0 within in rw e (small k)

pub bytes-part : (place n : ℕ) (xs : List ℕ) → AreBytes xs → AreBytes (part place n xs)
bytes-part place n xs small = All-take (λ b. b < 256) n (drop place xs) (All-drop (λ b. b < 256) place xs small)

-- the number in bytes fits their width
pub field-fits : (place n : ℕ) (xs : List ℕ) → AreBytes xs → big_from place n xs < 256 ^ n
field-fits place n xs small = big_from-lt place n xs (below-bytes xs small)

-- ---- spelling

byte-below : (k x : ℕ) → byte_at k x < 256
byte-below zero x = mod-lt x (omega arith)
byte-below (suc k) x = mod-lt (x / 256 ^ suc k) (omega arith)

-- a number is spelled in bytes
pub spelled-below : (n x k : ℕ) → slice_index (big_bytes n x) k < 256
spelled-below zero x k = omega arith
spelled-below (suc n) x zero = byte-below n x
spelled-below (suc n) x (suc k) = spelled-below n x k

-- the number in its bytes
pub number-back : (n x : ℕ) → x < 256 ^ n → big_from 0 n (big_bytes n x) ≡ x
number-back n x fits = ap (big_from 0 n) (sym (append-nil (big_bytes n x))) ∙ big_number-reads_back n x [] fits

-- bytes with one number are the same
number-apart : (n : ℕ) (xs ys : List ℕ) → length xs ≡ n → length ys ≡ n → ((k : ℕ) → slice_index xs k < 256) → ((k : ℕ) → slice_index ys k < 256)
    → big_from 0 n xs ≡ big_from 0 n ys → xs ≡ ys
number-apart zero [] [] a b s t e = refl
number-apart zero (x ∷ xs) ys a b s t e = absurd (omega (arith, a))
number-apart zero [] (y ∷ ys) a b s t e = absurd (omega (arith, b))
number-apart (suc n) [] ys a b s t e = absurd (omega (arith, a))
number-apart (suc n) (x ∷ xs) [] a b s t e = absurd (omega (arith, b))
number-apart (suc n) (x ∷ xs) (y ∷ ys) a b s t e =
    let p = big_from-cons 0 n x xs in
    let q = big_from-cons 0 n y ys in
    let one : x * 256 ^ n + big_from 0 n xs ≡ y * 256 ^ n + big_from 0 n ys = sym (ap (λ r. x * 256 ^ n + r) p) ∙ e ∙ ap (λ r. y * 256 ^ n + r) q in
    let lx : big_from 0 n xs < 256 ^ n = big_from-lt 0 n xs (λ k. s (suc k)) in
    let ly : big_from 0 n ys < 256 ^ n = big_from-lt 0 n ys (λ k. t (suc k)) in
    let head : x ≡ y = sym (div-mul-add x (256 ^ n) (big_from 0 n xs) lx) ∙ ap (λ m. m / 256 ^ n) one ∙ div-mul-add y (256 ^ n) (big_from 0 n ys) ly in
    let same : x * 256 ^ n ≡ y * 256 ^ n = ap (λ z. z * 256 ^ n) head in
    let rest : big_from 0 n xs ≡ big_from 0 n ys = omega (arith, one, same) in
    let tails : xs ≡ ys = number-apart n xs ys (omega (arith, a)) (omega (arith, b)) (λ k. s (suc k)) (λ k. t (suc k)) rest in
    rw (head, tails) refl

-- the bytes of a field are its part
pub field-spelled : (place n : ℕ) (xs : List ℕ) → AreBytes xs → place + n ≤ length xs → big_bytes n (big_from place n xs) ≡ part place n xs
field-spelled place n xs small there =
    let x = big_from place n xs in
    let read : big_from 0 n (big_bytes n x) ≡ x = number-back n x (field-fits place n xs small) in
    number-apart n (big_bytes n x) (part place n xs) (length-bytes_high_first n x) (length-part place n xs there)
    (spelled-below n x) (below-bytes (part place n xs) (bytes-part place n xs small)) (read ∙ sym (field-part place n xs))
