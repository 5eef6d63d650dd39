-- Descriptors that are read one after the other
use Rattle.std.proofs.Common.{◌≡◌, ◌≢◌, ℕ, suc, ◌<◌, List, [], ◌∷◌, ◌++◌, length, drop, Some, None, Result, Ok, Err, refl, sym, ap, ◌∙◌, arith, append_assoc, if◌then◌else◌}
use Rattle.std.proofs.lemmas.Bool.{eq-eqb, ne_eqb}
use Rattle.cm_base.specs.Fields.{byte}
use Rattle.scsi_sense.specs.SenseCode.{SenseCode}
use Rattle.scsi_sense.specs.Codes.{unsupported_target_descriptor_type}
use Rattle.scsi_sense.specs.Faults.{unless}
use Rattle.seg_parse.specs.declared.list.Cscd.{Cscd}
use Rattle.seg_parse.specs.declared.list.Segment.{Segment}
use Rattle.seg_parse.specs.Descriptors.{followed, cscd, cscds_read, segment, segment_fault, segments_read}

-- what was read already, before what the rest says
abbrev pub preceded : {A : Type 0} → List A → Result (List A) SenseCode → Result (List A) SenseCode
preceded items (Ok more) = Ok (items ++ more)
preceded items (Err sense) = Err sense

pub preceded-none : {A : Type 0} (r : Result (List A) SenseCode) → preceded [] r ≡ r
preceded-none (Ok more) = refl
preceded-none (Err sense) = refl

pub preceded-followed : {A : Type 0} (items : List A) (item : A) (r : Result (List A) SenseCode) → preceded items (followed item r) ≡ preceded (items ++ item ∷ []) r
preceded-followed items item (Ok more) = ap Ok (sym (append_assoc items (item ∷ []) more))
preceded-followed items item (Err sense) = refl

-- ---- CSCDs

pub cscds-step : (n m : ℕ) (bytes : List ℕ) → n ≡ suc m → byte bytes 0 ≡ 0xe4 → cscds_read n bytes ≡ followed (cscd bytes) (cscds_read m (drop 32 bytes))
cscds-step n m bytes is known =
    ap (λ k. cscds_read k bytes) is
    ∙ ap (λ t. if t then followed (cscd bytes) (cscds_read m (drop 32 bytes)) else Err unsupported_target_descriptor_type) (eq-eqb (byte bytes 0) 0xe4 known)

pub cscds-fault : (n m : ℕ) (bytes : List ℕ) → n ≡ suc m → byte bytes 0 ≢ 0xe4 → cscds_read n bytes ≡ Err unsupported_target_descriptor_type
cscds-fault n m bytes is other =
    ap (λ k. cscds_read k bytes) is
    ∙ ap (λ t. if t then followed (cscd bytes) (cscds_read m (drop 32 bytes)) else Err unsupported_target_descriptor_type) (ne_eqb (byte bytes 0) 0xe4 other)

-- ---- segments

pub segments-step : (cscds n m : ℕ) (bytes : List ℕ) → n ≡ suc m → 0 < length bytes → segment_fault cscds bytes ≡ None
    → segments_read cscds n bytes ≡ followed (segment bytes) (segments_read cscds m (drop 28 bytes))
segments-step cscds n m [] is some sound = absurd (omega arith)
segments-step cscds n m (b ∷ bs) is some sound =
    ap (λ k. segments_read cscds k (b ∷ bs)) is
    ∙ ap (λ f. unless f (followed (segment (b ∷ bs)) (segments_read cscds m (drop 28 (b ∷ bs))))) sound

pub segments-fault : (cscds n m : ℕ) (bytes : List ℕ) (sense : SenseCode) → n ≡ suc m → 0 < length bytes → segment_fault cscds bytes ≡ Some sense
    → segments_read cscds n bytes ≡ Err sense
segments-fault cscds n m [] sense is some fault = absurd (omega arith)
segments-fault cscds n m (b ∷ bs) sense is some fault =
    ap (λ k. segments_read cscds k (b ∷ bs)) is
    ∙ ap (λ f. unless f (followed (segment (b ∷ bs)) (segments_read cscds m (drop 28 (b ∷ bs))))) fault

pub segments-end : (cscds n : ℕ) (bytes : List ℕ) → length bytes ≡ 0 → segments_read cscds n bytes ≡ Ok []
segments-end cscds n [] none = refl
segments-end cscds n (b ∷ bs) none = absurd (omega arith)

-- ---- a step of each loop

-- one more CSCD was read
pub cscds-more : (all : Result (List Cscd) SenseCode) (units more : List Cscd) (unit : Cscd) (n m : ℕ) (rest after : List ℕ) → all ≡ preceded units (cscds_read n rest)
    → n ≡ suc m → byte rest 0 ≡ 0xe4 → unit ≡ cscd rest → after ≡ drop 32 rest → more ≡ units ++ unit ∷ [] → all ≡ preceded more (cscds_read m after)
cscds-more all units more unit n m rest after so_far is known read behind pushed =
    so_far ∙ ap (preceded units) (cscds-step n m rest is known) ∙ preceded-followed units (cscd rest) (cscds_read m (drop 32 rest))
    ∙ ap (λ u. preceded (units ++ u ∷ []) (cscds_read m (drop 32 rest))) (sym read)
    ∙ ap (λ l. preceded l (cscds_read m (drop 32 rest))) (sym pushed) ∙ ap (λ l. preceded more (cscds_read m l)) (sym behind)

-- a CSCD is refused
pub cscds-refused : (all : Result (List Cscd) SenseCode) (units : List Cscd) (n m : ℕ) (rest : List ℕ) → all ≡ preceded units (cscds_read n rest)
    → n ≡ suc m → byte rest 0 ≢ 0xe4 → all ≡ Err unsupported_target_descriptor_type
cscds-refused all units n m rest so_far is other = so_far ∙ ap (preceded units) (cscds-fault n m rest is other)

-- one more segment was read
pub segments-more : (all : Result (List Segment) SenseCode) (items more : List Segment) (item : Segment) (cscds n m : ℕ) (rest after : List ℕ)
    → all ≡ preceded items (segments_read cscds n rest)
    → n ≡ suc m → 0 < length rest → segment_fault cscds rest ≡ None → item ≡ segment rest → after ≡ drop 28 rest → more ≡ items ++ item ∷ []
    → all ≡ preceded more (segments_read cscds m after)
segments-more all items more item cscds n m rest after so_far is some sound read behind pushed =
    so_far ∙ ap (preceded items) (segments-step cscds n m rest is some sound) ∙ preceded-followed items (segment rest) (segments_read cscds m (drop 28 rest))
    ∙ ap (λ u. preceded (items ++ u ∷ []) (segments_read cscds m (drop 28 rest))) (sym read)
    ∙ ap (λ l. preceded l (segments_read cscds m (drop 28 rest))) (sym pushed) ∙ ap (λ l. preceded more (segments_read cscds m l)) (sym behind)

-- a segment is refused
pub segments-refused : (all : Result (List Segment) SenseCode) (items : List Segment) (cscds n m : ℕ) (rest : List ℕ) (sense : SenseCode)
    → all ≡ preceded items (segments_read cscds n rest) → n ≡ suc m → 0 < length rest → segment_fault cscds rest ≡ Some sense → all ≡ Err sense
segments-refused all items cscds n m rest sense so_far is some fault = so_far ∙ ap (preceded items) (segments-fault cscds n m rest sense is some fault)
