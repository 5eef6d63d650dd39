-- An item whose data-out stands apart from the bytes before it
use Rattle.std.proofs.Common.{◌≡◌, ℕ, ◌+◌, ◌-◌, ◌<◌, ◌≤◌, subst, inl, inr, List, ◌++◌, length, take, drop, refl, ap, sym, ◌∙◌, arith, false, append_assoc}
use Rattle.std.specs.Prelude.{nat_lt, ◌⊎◌}
use Rattle.std.proofs.lemmas.Bool.{le-ltb, cases_lt}
use Rattle.std.proofs.lemmas.List.{length-append, length-take-le, take-append-drop}
use Rattle.std.proofs.Math.Seq.{drop-append-add}
use Rattle.cm_frame.specs.declared.item.TraceItem.{TraceItem}
use Rattle.cm_base.specs.declared.parsed.Parsed.{Parsed}
use Rattle.cm_base.specs.declared.parsed.Parsed.TheVariants.{Whole, Short, Bad}
use Rattle.cm_frame.specs.declared.frame.Request.{Request}
use Rattle.cm_base.specs.Fields.{byte, field}
use Rattle.cm_base.proofs.PublicLaws.{field-stays, byte-stays}
use Rattle.cm_frame.specs.inner.DataOut.{IsFront, IsStart}
use Rattle.cm_frame.specs.Reading.{read_request, begin_in, read_item, HasItem}
use Rattle.cm_frame.proofs.LongRequests.{request_of, long-whole, long-short}
use Rattle.cm_frame.proofs.Within.{UsesWithin, item-within}

-- an item that begins so is read as its request is
pub item-reads : (start b : List ℕ) → IsStart start → read_item (start ++ b) ≡ begin_in (start ++ b) (read_request b)
item-reads start b is =
    let one : nat_lt (length (start ++ b)) 1 ≡ false = le-ltb _ 1 (omega (arith, length-append start b, is.all)) in
    let kind : byte (start ++ b) 0 ≡ 1 = byte-stays 0 start b (omega (arith, is.all)) ∙ is.kind in
    let behind : drop 13 (start ++ b) ≡ b = ap (λ k. drop k (start ++ b)) (sym is.all) ∙ drop-all start b in
    rw (one, kind, behind) refl
  where
    drop-all : (xs ys : List ℕ) → drop (length xs) (xs ++ ys) ≡ ys
    drop-all xs ys = ap (λ k. drop k (xs ++ ys)) (omega arith) ∙ drop-append-add xs ys 0

-- its fields are those of its beginning
pub begins-so : (start b : List ℕ) (request : Parsed Request) → IsStart start → begin_in (start ++ b) request ≡ begin_in start request
begins-so start b request is = go request
  where
    go : (p : Parsed Request) → begin_in (start ++ b) p ≡ begin_in start p
    go (Whole r used) =
        let first : field (start ++ b) 1 4 ≡ field start 1 4 = field-stays 1 4 start b (omega (arith, is.all)) in
        let second : field (start ++ b) 5 12 ≡ field start 5 12 = field-stays 5 8 start b (omega (arith, is.all)) in
        rw (first, second) refl
    go Short = refl
    go (Bad place) = refl

-- so the item is read as its request, with the fields of its beginning
pub item-of-request : (start bytes rest : List ℕ) → IsStart start → read_item ((start ++ bytes) ++ rest) ≡ begin_in start (read_request (bytes ++ rest))
item-of-request start bytes rest is =
    ap read_item (append_assoc start bytes rest) ∙ item-reads start (bytes ++ rest) is ∙ begins-so start (bytes ++ rest) (read_request (bytes ++ rest)) is

abbrev used_of : {A : Type 0} → Parsed A → ℕ
used_of {A} (Whole x used) = used
used_of {A} _ = 0

abbrev IsWhole : {A : Type 0} → Parsed A → Type 0
IsWhole {A} (Whole x used) = Unit {0}
IsWhole {A} _ = ⊥

-- where the item is whole with the bytes behind it, these have what its data-out lacks
item-used : (start front come rest : List ℕ) (wanted used : ℕ) (item : TraceItem) → IsStart start → IsFront front wanted → length come ≤ wanted
    → read_item ((start ++ (front ++ come)) ++ rest) ≡ Whole item used → (used ≡ 35 + wanted) × (wanted ≤ length come + length rest)
item-used start front come rest wanted used item begins is few e = go (cases_lt (length come + length rest) wanted)
  where
    read : begin_in start (read_request ((front ++ come) ++ rest)) ≡ Whole item used
    read = sym (item-of-request start (front ++ come) rest begins) ∙ e

    go : ((length come + length rest < wanted) ⊎ (wanted ≤ length come + length rest)) → (used ≡ 35 + wanted) × (wanted ≤ length come + length rest)
    go (inl short) =
        let less : length (come ++ rest) < wanted = omega (arith, length-append come rest, short) in
        let request : read_request ((front ++ come) ++ rest) ≡ Short = ap read_request (append_assoc front come rest) ∙ long-short front (come ++ rest) wanted is less in
        let same : Short ≡ Whole item used = sym (ap (begin_in start) request) ∙ read in
        absurd (subst IsWhole (sym same) tt)
    go (inr all) =
        let n = wanted - length come in
        let out = come ++ take n rest in
        let len : length out ≡ wanted = omega (arith, length-append come (take n rest), length-take-le n rest (omega (arith, few, all)), few) in
        let split : come ++ rest ≡ out ++ drop n rest =
        ap (λ r. come ++ r) (sym (take-append-drop n rest)) ∙ sym (append_assoc come (take n rest) (drop n rest)) in
        let bytes : (front ++ come) ++ rest ≡ (front ++ out) ++ drop n rest =
        append_assoc front come rest ∙ ap (λ r. front ++ r) split ∙ sym (append_assoc front out (drop n rest)) in
        let whole : begin_in start (read_request ((front ++ come) ++ rest)) ≡ begin_in start (Whole (request_of front out) (22 + wanted)) =
        ap (λ b. begin_in start (read_request b)) bytes ∙ ap (begin_in start) (long-whole front out (drop n rest) wanted is len) in
        let count : used ≡ 13 + (22 + wanted) = ap used_of (sym read ∙ whole) in
        (omega (arith, count), all)

-- how many of the bytes behind what was gathered are the item's
pub record Leaves (left used : ℕ) (rest bytes : List ℕ) : Type 0 where
  pub within : left ≤ length rest
  pub behind : drop left rest ≡ drop used bytes

pub leaves-long : (start front come rest bytes : List ℕ) (wanted missing used : ℕ) → IsStart start → IsFront front wanted → length come ≤ wanted
    → missing + length come ≡ wanted → (start ++ (front ++ come)) ++ rest ≡ bytes → HasItem bytes used → Leaves missing used rest bytes
leaves-long start front come rest bytes wanted missing used begins is few left same has =
    let all = item-used start front come rest wanted used has.0 begins is few (ap read_item same ∙ has.1) in
    let gathered = start ++ (front ++ come) in
    let count : used ≡ length gathered + missing =
    omega (arith, length-append start (front ++ come), length-append front come, begins.all, is.all, left, all.0) in
    record {
      within = omega (arith, left, all.1);
      behind = sym (drop-append-add gathered rest missing) ∙ ap (λ k. drop k (gathered ++ rest)) (sym count) ∙ ap (drop used) same;
    }

pub leaves-whole : (rest bytes : List ℕ) (used : ℕ) → rest ≡ bytes → HasItem bytes used → Leaves used used rest bytes
leaves-whole rest bytes used same has =
    let within : UsesWithin (length bytes) (Whole has.0 used) = subst (UsesWithin (length bytes)) has.1 (item-within bytes).uses in
    record { within = omega (arith, ap length same, within.1); behind = ap (drop used) same }

-- the beginning of an item
pub is-start : (bytes : List ℕ) → 13 ≤ length bytes → byte bytes 0 ≡ 1 → IsStart (take 13 bytes)
is-start bytes there kind =
    let start = take 13 bytes in
    let all : length start ≡ 13 = length-take-le 13 bytes there in
    record {
      all = all;
      kind = sym (byte-stays 0 start (drop 13 bytes) (omega (arith, all))) ∙ ap (λ b. byte b 0) (take-append-drop 13 bytes) ∙ kind;
    }
