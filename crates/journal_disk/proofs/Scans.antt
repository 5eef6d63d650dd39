-- What is known of a file while its records are read
use Rattle.std.proofs.Common.{◌≡◌, ◌≢◌, ◌<◌, ◌^◌, ℕ, suc, ◌+◌, List, [], ◌∷◌, ◌++◌, length, get_or, take, drop, sym, ◌∙◌, ap, subst, refl, arith, length-append, length-drop, take-append-drop, take-add, Option, Some, None, Err, Ok, Bool, true, false}
use Rattle.std.specs.Prelude.{if◌then◌else◌}
use Rattle.std.proofs.lemmas.Bool.{eqb-true, eqb-false}
use Rattle.std.proofs.lemmas.List.{length-take-le, drop-drop, drop_more, append-nil}
use Rattle.byteorder.specs.Endian.{big_bytes}
use Rattle.cm_base.specs.Configuration.{Configuration}
use Rattle.cm_history.specs.declared.act.Entry.{Entry}
use Rattle.journal_disk.specs.Opened.{open_gate, begins_open, front_bytes, entry_in, may_follow, allowed, told_size, payload_in, good_entry, opened}
use Rattle.journal_disk.specs.Log.{framed, records}
use Rattle.journal_disk.specs.Journal.{AreInOrder, Spells, last_stamp}
use Rattle.journal_disk.specs.inner.Scanning.{IsNext, IsScanned, IsFound}
use Rattle.journal_disk.proofs.Gates.{length-framed, records-push}
use Rattle.journal_disk.proofs.Found.{good-none, holds-opens, cut-is-bad}
use Rattle.journal_disk.proofs.Entries.{spelled-push, last-push}

if-some : (b : Bool) (e x : Entry) → (if b then Some e else None) ≡ Some x → (Some e ≡ Some x) × (b ≡ true)
if-some true e x is = (is, refl)
if-some false e x is = absurd (cc is)

pub allowed-some : (test : Entry → Bool) (o : Option Entry) (e : Entry) → allowed test o ≡ Some e → (o ≡ Some e) × (test e ≡ true)
allowed-some test None e is = absurd (cc is)
allowed-some test (Some x) e is =
    let parts = if-some (test x) x e is in
    let same : x ≡ e = cc parts.0 in
    (parts.0, ap test (sym same) ∙ parts.1)

module _ (config : Configuration) (unit : ℕ) where
  -- ---- one record

  -- the record that was read
  pub next-is : (last gate size : ℕ) (file p : List ℕ) (e : Entry) → size < 2 ^ 64 → gate + 9 + size < length file → big_bytes 8 size ≡ take 8 (drop (gate + 1) file) → p ≡ take size (drop (gate + 9) file)
      → Some e ≡ allowed (may_follow config unit last) (entry_in p) → IsNext config unit last gate size file e
  next-is last gate size file p e short within spelled is found =
      let good = allowed-some (may_follow config unit last) (entry_in p) e (sym found) in
      let counts : length p ≡ size = ap length is ∙ length-take-le size (drop (gate + 9) file) (omega (arith, within, length-drop (gate + 9) file)) in
      let on : gate + 1 + 8 ≡ gate + 9 = omega arith in
      record {
        payload = p;
        counts = counts;
        spells = (omega (arith, counts, short), good.0, good.1);
        parts = take-add 8 size (drop (gate + 1) file)
            ∙ ap (λ (l : List ℕ). take 8 (drop (gate + 1) file) ++ take size l) (drop-drop 8 (gate + 1) file)
            ∙ ap (λ k. take 8 (drop (gate + 1) file) ++ take size (drop k file)) on
            ∙ ap (λ (l : List ℕ). l ++ take size (drop (gate + 9) file)) (sym spelled)
            ∙ ap (λ (l : List ℕ). big_bytes 8 size ++ l) (sym is)
            ∙ ap (λ k. big_bytes 8 k ++ p) (sym counts);
        within = within;
      }

  -- the record that is not good
  pub next-none : (last gate size : ℕ) (file p : List ℕ) → gate + 9 + size < length file → size ≡ told_size (drop (gate + 1) file) → p ≡ take size (drop (gate + 9) file)
      → None ≡ allowed (may_follow config unit last) (entry_in p) → good_entry config unit last (drop (gate + 1) file) ≡ None
  next-none last gate size file p within told is none =
      let bytes = drop (gate + 1) file in
      let on : gate + 1 + 8 ≡ gate + 9 = omega arith in
      let same : payload_in bytes ≡ p = ap (λ k. take k (drop 8 bytes)) (sym told) ∙ ap (λ (l : List ℕ). take size l) (drop-drop 8 (gate + 1) file) ∙ ap (λ k. take size (drop k file)) on ∙ sym is in
      good-none config unit last bytes (omega (arith, within, told, length-drop (gate + 1) file)) (ap (λ (l : List ℕ). allowed (may_follow config unit last) (entry_in l)) same ∙ sym none)

  -- one more that may stand behind them
  pub order-push : (last : ℕ) (es : List Entry) (e : Entry) → AreInOrder config unit last es → may_follow config unit (last_stamp last es) e ≡ true
      → AreInOrder config unit last (es ++ (e ∷ []))
  order-push last [] e order may = (may, tt)
  order-push last (x ∷ xs) e order may = (order.0, order-push x.stamp xs e order.1 may)

  -- ---- all of them

  pub scanned-start : (file : List ℕ) → take (length (front_bytes config unit)) file ≡ front_bytes config unit → length (front_bytes config unit) < length file
      → IsScanned config unit file (length (front_bytes config unit)) 0 []
  scanned-start file begins long = record {
    payloads = [];
    spelled = tt;
    gate_is = ap length (sym (append-nil (front_bytes config unit)));
    last_is = refl;
    parts = begins ∙ sym (append-nil (front_bytes config unit));
    within = long;
  }

  gate-first : (file : List ℕ) (gate : ℕ) → gate < length file → drop gate file ≡ get_or file gate 0 ∷ drop (gate + 1) file
  gate-first file gate within = drop_more file gate 0 within

  is-open : (file : List ℕ) (gate : ℕ) → gate < length file → begins_open (drop gate file) ≡ true → drop gate file ≡ open_gate ∷ drop (gate + 1) file
  is-open file gate within opens =
      let first = gate-first file gate within in
      let same : get_or file gate 0 ≡ open_gate = eqb-true (get_or file gate 0) open_gate (sym (ap begins_open first) ∙ opens) in
      first ∙ ap (λ g. g ∷ drop (gate + 1) file) same

  is-shut : (file : List ℕ) (gate : ℕ) → gate < length file → begins_open (drop gate file) ≡ false → get_or file gate 0 ≢ open_gate
  is-shut file gate within shut =
      let first = gate-first file gate within in
      eqb-false (get_or file gate 0) open_gate (sym (ap begins_open first) ∙ shut)

  pub scanned-more : (file : List ℕ) (gate last size : ℕ) (es : List Entry) (e : Entry) (next : ℕ) → next ≡ gate + (9 + size) → IsScanned config unit file gate last es → begins_open (drop gate file) ≡ true
      → IsNext config unit last gate size file e → IsScanned config unit file next e.stamp (es ++ (e ∷ []))
  scanned-more file gate last size es e next next_is scanned opens found =
      let front = front_bytes config unit in
      let ps = scanned.payloads in
      let p = found.payload in
      let push = records-push front ps p in
      let on : 9 + size ≡ suc (8 + size) = omega arith in
      let behind : take (9 + size) (drop gate file) ≡ open_gate ∷ framed p =
      ap (λ (l : List ℕ). take (9 + size) l) (is-open file gate scanned.within opens) ∙ ap (λ k. take k (open_gate ∷ drop (gate + 1) file)) on ∙ ap (λ (l : List ℕ). open_gate ∷ l) found.parts in
      record {
        payloads = ps ++ (p ∷ []);
        spelled = spelled-push config unit 0 ps es p e scanned.spelled (subst (λ k. Spells config unit k p e) scanned.last_is found.spells);
        gate_is = omega (arith, next_is, scanned.gate_is, found.counts, ap length push, length-append (front ++ records ps) (open_gate ∷ framed p), length-framed p);
        last_is = sym (last-push 0 es e);
        parts = ap (λ k. take k file) next_is ∙ take-add gate (9 + size) file ∙ ap (λ (l : List ℕ). l ++ take (9 + size) (drop gate file)) scanned.parts ∙ ap (λ (l : List ℕ). front ++ records ps ++ l) behind ∙ push;
        within = omega (arith, next_is, found.within);
      }

  pub scanned-found : (file : List ℕ) (gate last : ℕ) (es : List Entry) → IsScanned config unit file gate last es → begins_open (drop gate file) ≡ false → IsFound config unit file gate es
  scanned-found file gate last es scanned shut = record {
    payloads = scanned.payloads;
    spelled = scanned.spelled;
    gate_is = scanned.gate_is;
    holds = record {
      gate = get_or file gate 0;
      rest = drop (gate + 1) file;
      shut = is-shut file gate scanned.within shut;
      is = sym (take-append-drop gate file) ∙ ap (λ (l : List ℕ). l ++ drop gate file) scanned.parts ∙ ap (λ (l : List ℕ). front_bytes config unit ++ records scanned.payloads ++ l) (gate-first file gate scanned.within);
    };
  }

  pub scanned-cut : (file : List ℕ) (gate last : ℕ) (es : List Entry) → IsScanned config unit file gate last es → begins_open (drop gate file) ≡ true → good_entry config unit last (drop (gate + 1) file) ≡ None
      → opened config unit file ≡ Err (gate + 1)
  scanned-cut file gate last es scanned opens none =
      let front = front_bytes config unit in
      let ps = scanned.payloads in
      let is : file ≡ front ++ records ps ++ (open_gate ∷ drop (gate + 1) file) =
      sym (take-append-drop gate file) ∙ ap (λ (l : List ℕ). l ++ drop gate file) scanned.parts ∙ ap (λ (l : List ℕ). front ++ records ps ++ l) (is-open file gate scanned.within opens) in
      let place : length front + length (records ps) + 1 ≡ gate + 1 = omega (arith, scanned.gate_is, length-append front (records ps)) in
      cut-is-bad config unit ps es (drop (gate + 1) file) file scanned.spelled is (ap (λ k. good_entry config unit k (drop (gate + 1) file)) (sym scanned.last_is) ∙ none)
      ∙ ap (λ k. Err k) place

  pub found-opens : (file : List ℕ) (gate : ℕ) (es : List Entry) → IsFound config unit file gate es → opened config unit file ≡ Ok es
  found-opens file gate es found = holds-opens config unit found.payloads es file found.spelled found.holds
