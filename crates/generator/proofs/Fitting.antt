-- Each item of a round can be spelled
use Rattle.std.proofs.Common.{◌≡◌, ℕ, zero, suc, ◌+◌, ◌-◌, ◌*◌, ◌%◌, ◌<◌, ◌≤◌, ◌^◌, List, [], ◌∷◌, ◌++◌, length, flat_map, All, refl, ◌∙◌, arith, inl, length-append, lit≤}
use Rattle.std.proofs.lemmas.List.Elements.{All-append, All-cons, All-replicate}
use Rattle.byteorder.specs.Endian.{big_bytes}
use Rattle.cm_base.specs.Configuration.{Configuration, IsUnit}
use Rattle.cm_base.specs.Fields.{AreBytes, zeros}
use Rattle.cm_base.specs.Units.{unit_name, unit_descriptor, unit_of}
use Rattle.cm_base.proofs.PublicLaws.{bytes-from_places}
use Rattle.cm_base.proofs.FieldLaws.{spelled-below}
use Rattle.cm_frame.specs.declared.item.TraceItem.{TraceItem}
use Rattle.cm_frame.specs.Grammar.{data_limit, IsConfig, IsItem}
use Rattle.lba_ranges.specs.declared.ranges.Range.{Range}
use Rattle.block_params.specs.ListsWritten.{descriptors, measured, sized}
use Rattle.rand_chacha.specs.ChaCha.{word_at, key_of}
use Rattle.rod_token.specs.TokenText.{words, nonce, token_text}
use Rattle.scsi_cdb.specs.declared.cdb.Cdb.{Cdb}
use Rattle.scsi_cdb.specs.Encoded.{beginning, encoded}
use Rattle.generator.specs.Settings.{count_from, unit, settings}
use Rattle.generator.specs.Rounds.{source, target, written, populate_list, write_list, begin_of, run_of, command, making, redeeming, looking, round_items}

-- ---- bytes

none : AreBytes []
none k d h = absurd (omega (arith, h))

-- a number in bytes
spelled : (n x : ℕ) → AreBytes (big_bytes n x)
spelled n x = bytes-from_places (big_bytes n x) (spelled-below n x)

-- some bytes and others
both : (xs ys : List ℕ) → AreBytes xs → AreBytes ys → AreBytes (xs ++ ys)
both xs ys = All-append (λ b. b < 256) xs ys

-- a byte and others
one : (x : ℕ) (xs : List ℕ) → x < 256 → AreBytes xs → AreBytes (x ∷ xs)
one x xs = All-cons (λ b. b < 256) x xs

nothing : (n : ℕ) → AreBytes (zeros n)
nothing n = All-replicate (λ b. b < 256) n 0 (lit≤ tt)

pub bytes-counted : (first n : ℕ) → first + n ≤ 256 → AreBytes (count_from first n)
bytes-counted first zero h = none
bytes-counted first (suc n) h = one first (count_from (suc first) n) (omega (arith, h)) (bytes-counted (suc first) n (omega (arith, h)))

-- ---- the data of commands

bytes-written : (round : ℕ) → AreBytes (written round)
bytes-written round = All-replicate (λ b. b < 256) 4096 (round % 251 + 1) (omega arith)

bytes-words : (key : List ℕ) (stream place n : ℕ) → AreBytes (words key stream place n)
bytes-words key stream place zero = none
bytes-words key stream place (suc n) =
    both (big_bytes 4 (word_at 10 key stream place)) (words key stream (suc place) n) (spelled 4 (word_at 10 key stream place)) (bytes-words key stream (suc place) n)

bytes-descriptors : (rs : List Range) → AreBytes (descriptors rs)
bytes-descriptors [] = none
bytes-descriptors (r ∷ rs) =
    both (big_bytes 8 r.lba ++ big_bytes 4 r.count ++ zeros 4) (descriptors rs)
    (both (big_bytes 8 r.lba) (big_bytes 4 r.count ++ zeros 4) (spelled 8 r.lba) (both (big_bytes 4 r.count) (zeros 4) (spelled 4 r.count) (nothing 4)))
    (bytes-descriptors rs)

bytes-measured : (rs : List Range) → AreBytes (measured rs)
bytes-measured rs = both (big_bytes 2 (16 * length rs)) (descriptors rs) (spelled 2 (16 * length rs)) (bytes-descriptors rs)

bytes-sized : (xs : List ℕ) → AreBytes xs → AreBytes (sized xs)
bytes-sized xs small = both (big_bytes 2 (length xs)) xs (spelled 2 (length xs)) small

bytes-populate : (round : ℕ) → AreBytes (populate_list round)
bytes-populate round =
    let rs = source round ∷ [] in
    let ranges = zeros 2 ++ measured rs in
    let rod = big_bytes 4 0x0080_0000 ++ ranges in
    let timed = big_bytes 4 0 ++ rod in
    bytes-sized (2 ∷ 0 ∷ timed)
    (one 2 (0 ∷ timed) (lit≤ tt) (one 0 timed (lit≤ tt)
    (both (big_bytes 4 0) rod (spelled 4 0) (both (big_bytes 4 0x0080_0000) ranges (spelled 4 0x0080_0000)
    (both (zeros 2) (measured rs) (nothing 2) (bytes-measured rs))))))

bytes-name : (unit : ℕ) → AreBytes (unit_name unit)
bytes-name unit = one 0x30 (zeros 5 ++ big_bytes 2 unit) (lit≤ tt) (both (zeros 5) (big_bytes 2 unit) (nothing 5) (spelled 2 unit))

bytes-descriptor : (config : Configuration) (unit : ℕ) → AreBytes (unit_descriptor config unit)
bytes-descriptor config unit =
    let size = big_bytes 3 (unit_of config unit).block_length in
    let front : List ℕ = 0xe4 ∷ 0 ∷ 0 ∷ 0 ∷ 1 ∷ 3 ∷ 0 ∷ 8 ∷ [] in
    let front_small : AreBytes front =
    one 0xe4 (0 ∷ 0 ∷ 0 ∷ 1 ∷ 3 ∷ 0 ∷ 8 ∷ []) (lit≤ tt) (one 0 (0 ∷ 0 ∷ 1 ∷ 3 ∷ 0 ∷ 8 ∷ []) (lit≤ tt) (one 0 (0 ∷ 1 ∷ 3 ∷ 0 ∷ 8 ∷ []) (lit≤ tt) (one 0 (1 ∷ 3 ∷ 0 ∷ 8 ∷ []) (lit≤ tt) (one 1 (3 ∷ 0 ∷ 8 ∷ []) (lit≤ tt) (one 3 (0 ∷ 8 ∷ []) (lit≤ tt) (one 0 (8 ∷ []) (lit≤ tt) (one 8 [] (lit≤ tt) none))))))) in
    both front (unit_name unit ++ zeros 12 ++ 0 ∷ size) front_small
    (both (unit_name unit) (zeros 12 ++ 0 ∷ size) (bytes-name unit) (both (zeros 12) (0 ∷ size) (nothing 12)
    (one 0 size (lit≤ tt) (spelled 3 (unit_of config unit).block_length))))

bytes-token : (config : Configuration) (unit serial blocks : ℕ) → AreBytes (token_text config unit serial blocks)
bytes-token config unit serial blocks =
    let size = blocks * (unit_of config unit).block_length in
    let ends = nonce config unit serial ++ zeros 416 in
    let sizes = big_bytes 16 size ++ ends in
    let names = unit_descriptor config unit ++ sizes in
    let serials = big_bytes 6 serial ++ names in
    let units = big_bytes 2 unit ++ serials in
    let lengths = big_bytes 2 0x01f8 ++ units in
    both (big_bytes 4 0x0080_0000) (zeros 2 ++ lengths) (spelled 4 0x0080_0000) (both (zeros 2) lengths (nothing 2)
    (both (big_bytes 2 0x01f8) units (spelled 2 0x01f8) (both (big_bytes 2 unit) serials (spelled 2 unit)
    (both (big_bytes 6 serial) names (spelled 6 serial) (both (unit_descriptor config unit) sizes (bytes-descriptor config unit)
    (both (big_bytes 16 size) ends (spelled 16 size) (both (nonce config unit serial) (zeros 416)
    (bytes-words (key_of config.secret) unit (8 * serial) 8) (nothing 416))))))))

bytes-write : (round : ℕ) → AreBytes (write_list round)
bytes-write round =
    let rs = target round ∷ [] in
    let token = token_text settings 0 round 8 in
    let ranges = zeros 6 ++ measured rs in
    let offset = big_bytes 8 0 ++ token ++ ranges in
    bytes-sized (1 ∷ zeros 5 ++ offset)
    (one 1 (zeros 5 ++ offset) (lit≤ tt) (both (zeros 5) offset (nothing 5) (both (big_bytes 8 0) (token ++ ranges) (spelled 8 0)
    (both token ranges (bytes-token settings 0 round 8) (both (zeros 6) (measured rs) (nothing 6) (bytes-measured rs))))))

-- ---- CDBs

bytes-encoded : (cdb : Cdb) → AreBytes (beginning cdb) → AreBytes (encoded cdb)
bytes-encoded cdb small = both (beginning cdb) (zeros (16 - length (beginning cdb))) small (nothing (16 - length (beginning cdb)))

-- an operation code, a byte, and two numbers
bytes-moving : (code lba count : ℕ) → code < 256 → AreBytes (code ∷ 0 ∷ big_bytes 8 lba ++ big_bytes 4 count)
bytes-moving code lba count low =
    let numbers = big_bytes 8 lba ++ big_bytes 4 count in
    one code (0 ∷ numbers) low (one 0 numbers (lit≤ tt) (both (big_bytes 8 lba) (big_bytes 4 count) (spelled 8 lba) (spelled 4 count)))

bytes-listing : (action id size : ℕ) → action < 256 → AreBytes (0x83 ∷ action ∷ zeros 4 ++ big_bytes 4 id ++ big_bytes 4 size)
bytes-listing action id size low =
    let numbers = big_bytes 4 id ++ big_bytes 4 size in
    one 0x83 (action ∷ zeros 4 ++ numbers) (lit≤ tt) (one action (zeros 4 ++ numbers) low (both (zeros 4) numbers (nothing 4)
    (both (big_bytes 4 id) (big_bytes 4 size) (spelled 4 id) (spelled 4 size))))

bytes-asking : (id size : ℕ) → AreBytes (0x84 ∷ 0x07 ∷ big_bytes 4 id ++ zeros 4 ++ big_bytes 4 size)
bytes-asking id size =
    let numbers = big_bytes 4 id ++ zeros 4 ++ big_bytes 4 size in
    one 0x84 (0x07 ∷ numbers) (lit≤ tt) (one 0x07 numbers (lit≤ tt) (both (big_bytes 4 id) (zeros 4 ++ big_bytes 4 size) (spelled 4 id)
    (both (zeros 4) (big_bytes 4 size) (nothing 4) (spelled 4 size))))

-- ---- items

fits-run : (round : ℕ) → round < 2 ^ 32 → IsItem (run_of round)
fits-run round h = (omega arith, omega (arith, h))

fits-begin : (round unit : ℕ) (cdb : Cdb) (out : List ℕ) → round < 2 ^ 32 → unit < 2 ^ 16
    → length (encoded cdb) ≡ 16 → AreBytes (beginning cdb) → length out ≤ data_limit → AreBytes out → IsItem (begin_of round unit cdb out)
fits-begin round unit cdb out h low whole small few bytes =
    (omega arith, omega (arith, h), record { unit = low; cdb = (whole, bytes-encoded cdb small); out = (few, bytes) })

no-items : All IsItem []
no-items k d h = absurd (omega (arith, h))

fit-command : (round unit : ℕ) (cdb : Cdb) (out : List ℕ) → round < 2 ^ 32 → IsItem (begin_of round unit cdb out) → All IsItem (command round unit cdb out)
fit-command round unit cdb out h begins =
    All-cons IsItem (begin_of round unit cdb out) (run_of round ∷ []) begins (All-cons IsItem (run_of round) [] (fits-run round h) no-items)

fit-making : (round : ℕ) → round < 2 ^ 32 → All IsItem (making round)
fit-making r h =
    let write = Cdb.Write (source r).lba 8 in
    let populate = Cdb.PopulateToken r 32 in
    All-append IsItem (command r 0 write (written r)) (command r 0 populate (populate_list r))
    (fit-command r 0 write (written r) h
    (fits-begin r 0 write (written r) h (lit≤ tt) refl (bytes-moving 0x8a (source r).lba 8 (lit≤ tt)) (lit≤ tt) (bytes-written r)))
    (fit-command r 0 populate (populate_list r) h
    (fits-begin r 0 populate (populate_list r) h (lit≤ tt) refl (bytes-listing 0x10 r 32 (lit≤ tt)) (lit≤ tt) (bytes-populate r)))

fit-redeeming : (round : ℕ) → round < 2 ^ 32 → All IsItem (redeeming round)
fit-redeeming r h =
    let write = Cdb.WriteUsingToken r 552 in
    let pump : IsItem (TraceItem.Pump 1 r) = (lit≤ tt, omega (arith, h)) in
    All-append IsItem (command r 1 write (write_list r)) (run_of r ∷ TraceItem.Pump 1 r ∷ [])
    (fit-command r 1 write (write_list r) h
    (fits-begin r 1 write (write_list r) h (lit≤ tt) refl (bytes-listing 0x11 r 552 (lit≤ tt)) (lit≤ tt) (bytes-write r)))
    (All-cons IsItem (run_of r) (TraceItem.Pump 1 r ∷ []) (fits-run r h) (All-cons IsItem (TraceItem.Pump 1 r) [] pump no-items))

fit-looking : (round : ℕ) → round < 2 ^ 32 → All IsItem (looking round)
fit-looking r h =
    let information = Cdb.TokenInformation r 1024 in
    let read = Cdb.Read (target r).lba 8 in
    All-append IsItem (command r 1 information []) (command r 1 read [])
    (fit-command r 1 information [] h (fits-begin r 1 information [] h (lit≤ tt) refl (bytes-asking r 1024) (lit≤ tt) none))
    (fit-command r 1 read [] h (fits-begin r 1 read [] h (lit≤ tt) refl (bytes-moving 0x88 (target r).lba 8 (lit≤ tt)) (lit≤ tt) none))

fit-round : (round : ℕ) → round < 2 ^ 32 → All IsItem (round_items round)
fit-round r h =
    All-append IsItem (making r) (redeeming r ++ looking r) (fit-making r h)
    (All-append IsItem (redeeming r) (looking r) (fit-redeeming r h) (fit-looking r h))

pub fit-from : (first n : ℕ) → first + n ≤ 2 ^ 32 → All IsItem (flat_map round_items (count_from first n))
fit-from first zero h = no-items
fit-from first (suc n) h =
    All-append IsItem (round_items first) (flat_map round_items (count_from (suc first) n))
    (fit-round first (omega (arith, h))) (fit-from (suc first) n (omega (arith, h)))

pub twelve-each : (first n : ℕ) → length (flat_map round_items (count_from first n)) ≡ 12 * n
twelve-each first zero = refl
twelve-each first (suc n) =
    length-append (round_items first) (flat_map round_items (count_from (suc first) n)) ∙ omega (arith, twelve-each (suc first) n)

-- ---- the header

fits-unit : IsUnit unit
fits-unit = record {
  blocks = (lit≤ tt, lit≤ tt);
  block_length = inl refl;
  entries = (lit≤ tt, lit≤ tt);
  quota = lit≤ tt;
  payload = (lit≤ tt, lit≤ tt);
  group = lit≤ tt;
}

no-units : All IsUnit []
no-units k d h = absurd (omega (arith, h))

pub fits-settings : IsConfig settings
fits-settings = record {
  secret = (refl, bytes-counted 0 32 (lit≤ tt));
  units = record {
    count = (lit≤ tt, lit≤ tt);
    each = All-cons IsUnit unit (unit ∷ []) fits-unit (All-cons IsUnit unit [] fits-unit no-units);
  };
}
