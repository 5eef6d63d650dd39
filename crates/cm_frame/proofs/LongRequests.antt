-- A request whose data-out stands apart from the bytes before it
use Rattle.std.proofs.Common.{◌≡◌, ℕ, ◌+◌, ◌<◌, ◌≤◌, List, [], ◌++◌, length, take, drop, refl, ap, sym, ◌∙◌, arith, true, false, append_assoc, append-nil, take_at, drop_at}
use Rattle.std.specs.Prelude.{nat_lt}
use Rattle.std.proofs.lemmas.Bool.{le-ltb, lt-ltb}
use Rattle.std.proofs.lemmas.List.{length-append, length-take-le, take-append-drop}
use Rattle.cm_frame.specs.declared.frame.Request.{Request}
use Rattle.cm_base.specs.declared.parsed.Parsed.TheVariants.{Whole, Short}
use Rattle.cm_base.specs.Fields.{field, part}
use Rattle.cm_base.proofs.PublicLaws.{part-stays, field-stays}
use Rattle.cm_frame.specs.Grammar.{data_limit}
use Rattle.cm_frame.specs.inner.DataOut.{IsFront}
use Rattle.cm_frame.specs.Reading.{read_request}

-- the request with this data-out
abbrev pub request_of : List ℕ → List ℕ → Request
request_of front out = record { unit = field front 4 5; cdb = part 6 16 front; out = out }

pub long-whole : (front out rest : List ℕ) (wanted : ℕ) → IsFront front wanted → length out ≡ wanted
    → read_request ((front ++ out) ++ rest) ≡ Whole (request_of front out) (22 + wanted)
long-whole front out rest wanted is whole =
    let b = out ++ rest in
    let len = is.all in
    let long : length (front ++ b) ≡ 22 + (wanted + length rest) = omega (arith, length-append front b, length-append out rest, whole, len) in
    let told : field (front ++ b) 0 3 ≡ wanted = field-stays 0 4 front b (omega (arith, len)) ∙ is.told in
    let unit : field (front ++ b) 4 5 ≡ field front 4 5 = field-stays 4 2 front b (omega (arith, len)) in
    let cdb : part 6 16 (front ++ b) ≡ part 6 16 front = part-stays 6 16 front b (omega (arith, len)) in
    let behind : part 22 wanted (front ++ b) ≡ out = ap (take wanted) (drop_at front b 22 len) ∙ take_at out rest wanted whole in
    let four : nat_lt (length (front ++ b)) 4 ≡ false = le-ltb _ 4 (omega (arith, long)) in
    let limit : nat_lt data_limit wanted ≡ false = le-ltb data_limit wanted is.limit in
    let there : nat_lt (length (front ++ b)) (22 + wanted) ≡ false = le-ltb _ (22 + wanted) (omega (arith, long)) in
    ap read_request (append_assoc front out rest) ∙ rw (four, told, limit, there, unit, cdb, behind) refl

pub long-short : (front out : List ℕ) (wanted : ℕ) → IsFront front wanted → length out < wanted → read_request (front ++ out) ≡ Short
long-short front out wanted is few =
    let len = is.all in
    let long : length (front ++ out) ≡ 22 + length out = omega (arith, length-append front out, len) in
    let told : field (front ++ out) 0 3 ≡ wanted = field-stays 0 4 front out (omega (arith, len)) ∙ is.told in
    let four : nat_lt (length (front ++ out)) 4 ≡ false = le-ltb _ 4 (omega (arith, long)) in
    let limit : nat_lt data_limit wanted ≡ false = le-ltb data_limit wanted is.limit in
    let there : nat_lt (length (front ++ out)) (22 + wanted) ≡ true = lt-ltb _ (22 + wanted) (omega (arith, long, few)) in
    rw (four, told, limit, there) refl

pub is-front : (bytes : List ℕ) (wanted : ℕ) → 22 ≤ length bytes → wanted ≡ field bytes 0 3 → wanted ≤ data_limit → IsFront (take 22 bytes) wanted
is-front bytes wanted there told limit =
    let front = take 22 bytes in
    let all : length front ≡ 22 = length-take-le 22 bytes there in
    let split : front ++ drop 22 bytes ≡ bytes = take-append-drop 22 bytes in
    record {
      all = all;
      told = sym (field-stays 0 4 front (drop 22 bytes) (omega (arith, all))) ∙ ap (λ b. field b 0 3) split ∙ sym told;
      limit = limit;
    }

-- the bytes before the data-out, and what is behind them
pub rejoined : (bytes front come : List ℕ) → front ≡ take 22 bytes → come ≡ [] → (front ++ come) ++ drop 22 bytes ≡ bytes
rejoined bytes front come one two =
    let none : front ++ come ≡ front = ap (λ l. front ++ l) two ∙ append-nil front in
    ap (λ l. l ++ drop 22 bytes) (none ∙ one) ∙ take-append-drop 22 bytes
