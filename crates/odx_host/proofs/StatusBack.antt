-- What is spelled of a status is read
use Rattle.std.proofs.Common.{◌≡◌, ◌∙◌, ℕ, ◌+◌, ◌≤◌, List, length, drop, refl, ap, sym, arith, true, false, Bool}
use Rattle.std.specs.Prelude.{◌==◌, ◌&&◌, ◌||◌, nat_le, cond, bytes_eq, Option, Some, None, is_some, is_none, IfSome}
use Rattle.std.proofs.lemmas.Bool.{le-leb, leb-true, eqb-true, eq-eqb}
use Rattle.std.proofs.lemmas.Slice.Eq.{bytes_eq-Decides}
use Rattle.cm_base.specs.Fields.{byte, field}
use Rattle.cm_base.proofs.PublicLaws.{number-back}
use Rattle.scsi_sense.specs.SenseCode.{SenseCode}
use Rattle.copy_status.specs.CopyStatus.{CopyStatus, IsStatus, is_code}
use Rattle.copy_status.specs.StatusBytes.{sense_data, information_bytes, IsToken, IsTokenOf}
use Rattle.odx_host.specs.StatusRead.{sense_told, status_told, token_told, information_told, is_key, is_token, is_status, is_told, information_read}

-- ---- the parts

count-back : (populate running : Bool) (status count : ℕ) (sense : Option SenseCode) (t : Option (List ℕ)) → count ≤ 1_048_576
    → field (information_bytes (record { populate = populate; status = status; running = running; sense = sense; count = count }) t) 16 23 ≡ count
count-back populate running status count None t low = number-back 8 count (omega (arith, low))
count-back populate running status count (Some s) t low = number-back 8 count (omega (arith, low))

sense-back : (populate running : Bool) (status count : ℕ) (sense : Option SenseCode) (t : Option (List ℕ))
    → sense_told (information_bytes (record { populate = populate; status = status; running = running; sense = sense; count = count }) t) ≡ sense
sense-back populate running status count None t = refl
sense-back populate running status count (Some s) t = refl

populate-back : (populate running : Bool) (status count : ℕ) (sense : Option SenseCode) (t : Option (List ℕ))
    → (byte (information_bytes (record { populate = populate; status = status; running = running; sense = sense; count = count }) t) 4 == 0x10) ≡ populate
populate-back true running status count sense t = refl
populate-back false running status count sense t = refl

token-back : (populate running : Bool) (status count : ℕ) (sense : Option SenseCode) (t : Option (List ℕ)) → is_some t ≡ populate
    → token_told (information_bytes (record { populate = populate; status = status; running = running; sense = sense; count = count }) t) ≡ t
token-back true running status count None (Some token) e = refl
token-back true running status count (Some s) (Some token) e = refl
token-back false running status count sense None e = refl
token-back true running status count sense None e = cc
token-back false running status count sense (Some token) e = cc

-- ---- the whole

told-back : (f : CopyStatus) (t : Option (List ℕ)) → IsStatus f → IsTokenOf f t → information_told (information_bytes f t) ≡ record { status = f; token = t }
told-back f t is token =
    let p = populate-back f.populate f.running f.status f.count f.sense t in
    let s = sense-back f.populate f.running f.status f.count f.sense t in
    let k = token-back f.populate f.running f.status f.count f.sense t token.1 in
    let n = count-back f.populate f.running f.status f.count f.sense t is.count in
    let r = sym is.running in
    let same : status_told (information_bytes f t) ≡ f =
    ap (λ x. record { populate = x; status = f.status; running = (f.status == 0x11) || (f.status == 0x12); sense = sense_told (information_bytes f t); count = field (information_bytes f t) 16 23 }) p
    ∙ ap (λ x. record { populate = f.populate; status = f.status; running = x; sense = sense_told (information_bytes f t); count = field (information_bytes f t) 16 23 }) r
    ∙ ap (λ x. record { populate = f.populate; status = f.status; running = f.running; sense = x; count = field (information_bytes f t) 16 23 }) s
    ∙ ap (λ x. record { populate = f.populate; status = f.status; running = f.running; sense = f.sense; count = x }) n in
    ap (λ x. record { status = x; token = token_told (information_bytes f t) }) same ∙ ap (λ x. record { status = f; token = x }) k

key-is : (sense : Option SenseCode) → IfSome sense (λ s. s.key ≤ 15) → is_key sense ≡ true
key-is None h = refl
key-is (Some s) h = le-leb s.key 15 h

failed-is : (status : ℕ) (sense : Option SenseCode) → is_some sense ≡ (status == 0x02) → cond (status == 0x02) (is_some sense) (is_none sense) ≡ true
failed-is status None e = ap (λ b. cond b false true) (sym e)
failed-is status (Some s) e = ap (λ b. cond b true false) (sym e)

status-is : (f : CopyStatus) → IsStatus f → is_status f ≡ true
status-is f is = rw (is.code, failed-is f.status f.sense is.sense, key-is f.sense is.key, le-leb f.count 1_048_576 is.count) refl

token-is : (t : Option (List ℕ)) → IsToken t → is_token t ≡ true
token-is None h = refl
token-is (Some token) h = eq-eqb (length token) 512 h

pub information-back : (f : CopyStatus) (t : Option (List ℕ)) → IsStatus f → IsTokenOf f t → information_read (information_bytes f t) ≡ Some (record { status = f; token = t })
information-back f t is token =
    let same = told-back f t is token in
    let bytes = information_bytes f t in
    let test : is_told bytes (information_told bytes) ≡ true =
    ap (is_told bytes) same
    ∙ ap (λ b. b && is_token t && bytes_eq bytes bytes) (status-is f is)
    ∙ ap (λ b. b && bytes_eq bytes bytes) (token-is t token.0)
    ∙ (bytes_eq-Decides bytes bytes).1 refl in
    ap (λ b. cond b (Some (information_told bytes)) None) test ∙ ap (λ i. Some i) same

-- ---- what is read was spelled

and_first : (a b : Bool) → (a && b) ≡ true → a ≡ true
and_first true b e = refl
and_first false b e = cc

and_second : (a b : Bool) → (a && b) ≡ true → b ≡ true
and_second true b e = e
and_second false b e = cc

key-of : (sense : Option SenseCode) → is_key sense ≡ true → IfSome sense (λ s. s.key ≤ 15)
key-of None e = tt
key-of (Some s) e = leb-true s.key 15 e

failed-of : (failed : Bool) (sense : Option SenseCode) → cond failed (is_some sense) (is_none sense) ≡ true → is_some sense ≡ failed
failed-of true None e = cc
failed-of false None e = refl
failed-of true (Some s) e = refl
failed-of false (Some s) e = cc

status-of : (bytes : List ℕ) → is_status (status_told bytes) ≡ true → IsStatus (status_told bytes)
status-of bytes e =
    let s = status_told bytes in
    let known = is_code s.status in
    let failed = cond (s.status == 0x02) (is_some s.sense) (is_none s.sense) in
    let key = is_key s.sense in
    let three = and_first (known && failed && key) (nat_le s.count 1_048_576) e in
    let two = and_first (known && failed) key three in
    record {
      code = and_first known failed two;
      running = refl;
      sense = failed-of (s.status == 0x02) s.sense (and_second known failed two);
      key = key-of s.sense (and_second (known && failed) key three);
      count = leb-true s.count 1_048_576 (and_second (known && failed && key) (nat_le s.count 1_048_576) e);
    }

token-of : (t : Option (List ℕ)) → is_token t ≡ true → IsToken t
token-of None e = tt
token-of (Some token) e = eqb-true (length token) 512 e

has_token : (bytes : List ℕ) → is_some (token_told bytes) ≡ (byte bytes 4 == 0x10)
has_token bytes = go (byte bytes 4 == 0x10)
  where
    go : (b : Bool) → is_some (cond b (Some (drop (38 + length (sense_data (sense_told bytes))) bytes)) None) ≡ b
    go true = refl
    go false = refl

pub none-read : (bytes : List ℕ) → ((f : CopyStatus) (t : Option (List ℕ)) → IsStatus f → IsTokenOf f t → bytes ≡ information_bytes f t → ⊥) → information_read bytes ≡ None
none-read bytes none = go (is_told bytes (information_told bytes)) refl
  where
    go : (b : Bool) → is_told bytes (information_told bytes) ≡ b → cond b (Some (information_told bytes)) None ≡ None
    go false e = refl
    go true e =
        let status = is_status (status_told bytes) in
        let token = is_token (token_told bytes) in
        let spelled = bytes_eq bytes (information_bytes (status_told bytes) (token_told bytes)) in
        let two = and_first (status && token) spelled e in
        absurd (none (status_told bytes) (token_told bytes) (status-of bytes (and_first status token two))
        (token-of (token_told bytes) (and_second status token two), has_token bytes)
        ((bytes_eq-Decides bytes (information_bytes (status_told bytes) (token_told bytes))).0 (and_second (status && token) spelled e)))
