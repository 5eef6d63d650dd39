-- A trace that grows by the bytes of items
use Rattle.std.proofs.Common.{◌≡◌, ℕ, zero, suc, ◌+◌, List, [], ◌∷◌, ◌++◌, flat_map, Result, OnOk, sym, ap, ◌∙◌, append_assoc, append-nil, arith}
use Rattle.std.proofs.lemmas.Grind.{flat_map-append}
use Rattle.std.proofs.lemmas.Result.{on_ok_weaker}
use Rattle.cm_frame.specs.declared.item.TraceItem.{TraceItem}
use Rattle.cm_frame.specs.Grammar.{header_bytes, item_bytes}
use Rattle.generator.specs.Settings.{count_from, settings}
use Rattle.generator.specs.Rounds.{round_items}
use Rattle.generator.specs.Generated.{items, generated}

-- the bytes of items, one after another
abbrev pub spelled : List TraceItem → List ℕ
spelled xs = flat_map item_bytes xs

-- the bytes of one item
pub one : (x : TraceItem) → item_bytes x ≡ spelled (x ∷ [])
one x = sym (append-nil (item_bytes x))

-- some items, and then more
pub goes_on : (a b c : List ℕ) (xs ys : List TraceItem) → b ≡ a ++ spelled xs → c ≡ b ++ spelled ys → c ≡ a ++ spelled (xs ++ ys)
goes_on a b c xs ys first then =
    then ∙ ap (λ l. l ++ spelled ys) first ∙ append_assoc a (spelled xs) (spelled ys) ∙ ap (λ l. a ++ l) (sym (flat_map-append item_bytes xs ys))

-- some bytes that are those of items, and then more
pub grows : {T E : Type 0} (r : Result T E) (a b c : List ℕ) (xs ys : List TraceItem) (bytes : List ℕ) → bytes ≡ spelled ys
    → b ≡ a ++ spelled xs → OnOk r (c ≡ b ++ bytes) → OnOk r (c ≡ a ++ spelled (xs ++ ys))
grows {T} {E} r a b c xs ys bytes is first then =
    on_ok_weaker {P = c ≡ b ++ bytes} {Q = c ≡ a ++ spelled (xs ++ ys)} r (λ e. goes_on a b c xs ys first (e ∙ ap (λ l. b ++ l) is)) then

-- counting goes on at its end
count-one : (first n : ℕ) → count_from first (suc n) ≡ count_from first n ++ (first + n) ∷ []
count-one first zero = ap (λ k. k ∷ []) (omega arith)
count-one first (suc n) = ap (λ l. first ∷ l) (count-one (suc first) n ∙ ap (λ k. count_from (suc first) n ++ k ∷ []) (omega arith))

-- the items of one more round
items-one : (n : ℕ) → items (suc n) ≡ items n ++ round_items n
items-one n =
    let last : 0 + n ≡ n = omega arith in
    ap (flat_map round_items) (count-one 0 n ∙ ap (λ k. count_from 0 n ++ k ∷ []) last) ∙ flat_map-append round_items (count_from 0 n) (n ∷ [])
    ∙ ap (λ l. items n ++ l) (append-nil (round_items n))

pub generated-one : (n : ℕ) (trace more : List ℕ) → trace ≡ generated n → more ≡ trace ++ spelled (round_items n) → more ≡ generated (n + 1)
generated-one n trace more is grown =
    let next : suc n ≡ n + 1 = omega arith in
    goes_on (header_bytes settings) trace more (items n) (round_items n) is grown
    ∙ ap (λ l. header_bytes settings ++ spelled l) (sym (items-one n)) ∙ ap generated next
