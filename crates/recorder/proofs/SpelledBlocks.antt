-- Ranges and lists of blocks that are read were spelled so
use Rattle.std.proofs.Common.{◌≡◌, ℕ, zero, suc, ◌*◌, ◌^◌, ◌<◌, ◌≤◌, List, [], ◌∷◌, ◌++◌, length, take, drop, refl, ap, sym, ◌∙◌, subst, arith, true, false, Bool, take-append-drop, take_all}
use Rattle.std.specs.Prelude.{nat_le, ⊤, flat_map, All, Option, Some, None, not, replicate}
use Rattle.std.proofs.lemmas.Bool.{eqb-true}
use Rattle.std.proofs.lemmas.Bool.Decides.{nat_tests}
use Rattle.std.proofs.lemmas.List.{length-drop, length-take-le}
use Rattle.byteorder.specs.Endian.{big_bytes}
use Rattle.cm_base.specs.declared.parsed.Parsed.TheVariants.{Whole}
use Rattle.cm_base.specs.Fields.{flag, AreBytes}
use Rattle.lba_ranges.specs.declared.ranges.Range.{Range}
use Rattle.lba_ranges.specs.HeldBlocks.{AllSized, cut_into}
use Rattle.lba_ranges.specs.Writings.{Held}
use Rattle.recorder.specs.Text.{range_bytes, ranges_bytes, Group, with_hole, with_data, groups_of, group_bytes, blocks_text, FitsRange, FitRanges, FitBlocks}
use Rattle.recorder.specs.Cursor.{tested, number, some_bytes, repeated}
use Rattle.recorder.specs.Reading.{read_range, read_ranges, is_turn, read_content, read_group, read_groups, group_items, items_of, read_blocks}
use Rattle.recorder.proofs.Backs.{HasBytes, Formed}
use Rattle.recorder.proofs.Spelled.{Reads, any, after-reads, last-reads, done-reads, IsField, number-reads, tested-reads, IsByte, byte-reads, AreSome, bytes-reads, IsSpelt, repeated-reads}

-- ---- ranges

range-reads : Reads (IsSpelt FitsRange range_bytes) read_range
range-reads =
    after-reads (number 8) _ (IsField any 8) _ (number-reads 8 (omega arith)) (λ lba t p. last-reads (number 4) _ (IsField any 4) _ (number-reads 4 (omega arith)) (λ count u q.
    ((omega (arith, p.fits), omega (arith, q.fits)), ap (λ l. l ++ u) p.is ∙ ap (λ l. big_bytes 8 lba ++ l) q.is)))

ranges-each : (n : ℕ) (t : List ℕ) → IsByte (λ n. nat_le n 64) n t → (bytes : List ℕ) (rs : List Range) (used : ℕ) → AreBytes bytes → repeated read_range n bytes ≡ Whole rs used
    → (used ≤ length bytes) × IsSpelt FitRanges ranges_bytes rs (t ++ take used bytes)
ranges-each n t p bytes rs used all e =
    let found = (repeated-reads FitsRange range_bytes read_range n range-reads).each bytes rs used all e in
    let few : n ≤ 64 = (let h = p.allowed in grind (arith, nat_tests)) in
    let is : t ++ take used bytes ≡ ranges_bytes rs =
    ap (λ l. l ++ take used bytes) p.is ∙ ap (λ l. n ∷ l) found.1.is ∙ ap (λ k. k ∷ flat_map range_bytes rs) (sym found.1.count) in
    (found.0, ((omega (arith, few, found.1.count), found.1.fit), is))

pub ranges-reads : Reads (IsSpelt FitRanges ranges_bytes) read_ranges
ranges-reads = after-reads (tested (λ n. nat_le n 64) 1) _ (IsByte (λ n. nat_le n 64)) _ (byte-reads (λ n. nat_le n 64)) (λ n t p. record { each = ranges-each n t p })

-- ---- groups

-- a group that was read behind one of this kind
pub record IsGroup (size : ℕ) (last : Option Bool) (g : Group) (t : List ℕ) : Type 0 where
  pub some : 1 ≤ g.count
  pub few : g.count < 2 ^ 32
  pub turn : is_turn last (flag g.mapped) ≡ true
  pub has : HasBytes size g g.mapped
  pub small : AreBytes g.bytes
  pub is : t ≡ group_bytes g

no-bytes : AreBytes []
no-bytes k d h = absurd (omega arith)

-- the kind of a group is 0 or 1
turn-low : (last : Option Bool) (kind : ℕ) → is_turn last kind ≡ true → kind ≤ 1
turn-low None kind e = grind (arith, nat_tests)
turn-low (Some true) kind e = let is = eqb-true kind 0 e in omega (arith, is)
turn-low (Some false) kind e = let is = eqb-true kind 1 e in omega (arith, is)

content-reads : (size : ℕ) (last : Option Bool) (count : ℕ) (c : List ℕ) (kind : ℕ) (k : List ℕ) → IsField (nat_le 1) 4 count c → IsByte (is_turn last) kind k
    → Reads (λ g u. IsGroup size last g (c ++ (k ++ u))) (read_content size count kind)
content-reads size last count c zero k p q =
    done-reads (record { mapped = false; count = count; bytes = [] }) (λ g u. IsGroup size last g (c ++ (k ++ u))) (record {
      some = (let h = p.allowed in grind (arith, nat_tests));
      few = omega (arith, p.fits);
      turn = q.allowed;
      has = refl;
      small = no-bytes;
      is = ap (λ l. l ++ (k ++ [])) p.is ∙ ap (λ l. big_bytes 4 count ++ (l ++ [])) q.is;
    })
content-reads size last count c (suc zero) k p q =
    last-reads (some_bytes (count * size)) (λ held. record { mapped = true; count = count; bytes = held }) (AreSome (count * size)) (λ g u. IsGroup size last g (c ++ (k ++ u))) (bytes-reads (count * size)) (λ held u r. record {
      some = (let h = p.allowed in grind (arith, nat_tests));
      few = omega (arith, p.fits);
      turn = q.allowed;
      has = r.count;
      small = r.small;
      is = ap (λ l. l ++ (k ++ u)) p.is ∙ ap (λ l. big_bytes 4 count ++ (l ++ u)) q.is ∙ ap (λ l. big_bytes 4 count ++ (1 ∷ l)) r.is;
    })
content-reads size last count c (suc (suc kind)) k p q = absurd (let low = turn-low last (suc (suc kind)) q.allowed in omega (arith, low))

group-reads : (size : ℕ) (last : Option Bool) → Reads (IsGroup size last) (read_group size last)
group-reads size last =
    after-reads (tested (nat_le 1) 4) _ (IsField (nat_le 1) 4) _ (tested-reads (nat_le 1) 4 (omega arith)) (λ count c p.
    after-reads (tested (is_turn last) 1) _ (IsByte (is_turn last)) _ (byte-reads (is_turn last)) (λ kind k q. content-reads size last count c kind k p q))

abbrev FitsGroup : Group → Type 0
FitsGroup g = AreBytes g.bytes × (g.count < 2 ^ 32)

pub record AreGroups (size : ℕ) (last : Option Bool) (n : ℕ) (gs : List Group) (t : List ℕ) : Type 0 where
  pub count : length gs ≡ n
  pub formed : Formed size last gs
  pub fit : All FitsGroup gs
  pub is : t ≡ flat_map group_bytes gs

fit-more : (g : Group) (gs : List Group) → FitsGroup g → All FitsGroup gs → All FitsGroup (g ∷ gs)
fit-more g gs one all zero d h = one
fit-more g gs one all (suc k) d h = all k d (omega arith)

groups-reads : (size : ℕ) (last : Option Bool) (n : ℕ) → Reads (AreGroups size last n) (read_groups size last n)
groups-reads size last zero = done-reads [] (AreGroups size last 0) (record { count = refl; formed = tt; fit = λ k d h. absurd (omega arith); is = refl })
groups-reads size last (suc n) =
    after-reads (read_group size last) _ (IsGroup size last) _ (group-reads size last) (λ g t p.
    last-reads (read_groups size (Some g.mapped) n) (λ gs. g ∷ gs) (AreGroups size (Some g.mapped) n) (λ gs u. AreGroups size last (suc n) gs (t ++ u)) (groups-reads size (Some g.mapped) n) (λ gs u q. record {
      count = ap suc q.count;
      formed = (p.some, p.turn, p.has, q.formed);
      fit = fit-more g gs (p.small, p.few) q.fit;
      is = ap (λ l. l ++ u) p.is ∙ ap (λ l. group_bytes g ++ l) q.is;
    }))

-- ---- the blocks of groups are in these groups again

-- they begin with a group of the other kind, or there is none
abbrev Turns : Bool → List Group → Type 0
Turns kind [] = ⊤
Turns kind (g ∷ gs) = g.mapped ≡ not kind

turned : (size : ℕ) (kind : Bool) (gs : List Group) → Formed size (Some kind) gs → Turns kind gs
turned size kind [] f = tt
turned size kind (g ∷ gs) f = go kind g.mapped f.1
  where
    go : (kind b : Bool) → is_turn (Some kind) (flag b) ≡ true → b ≡ not kind
    go true true e = cc
    go true false e = refl
    go false true e = refl
    go false false e = cc

holes-grouped : (n : ℕ) (items : List Held) (gs : List Group) → groups_of items ≡ gs → Turns false gs
    → groups_of (replicate (suc n) None ++ items) ≡ record { mapped = false; count = suc n; bytes = [] } ∷ gs
holes-grouped zero items [] is turns = ap with_hole is
holes-grouped zero items (g ∷ gs) is turns = ap with_hole is ∙ (let e : g.mapped ≡ true = turns in rw e refl)
holes-grouped (suc n) items gs is turns = ap with_hole (holes-grouped n items gs is turns)

data-grouped : (size n : ℕ) (bytes : List ℕ) (items : List Held) (gs : List Group) → length bytes ≡ suc n * size → groups_of items ≡ gs → Turns true gs
    → groups_of (cut_into size (suc n) bytes ++ items) ≡ record { mapped = true; count = suc n; bytes = bytes } ∷ gs
data-grouped size zero bytes items gs long is turns =
    let all : take size bytes ≡ bytes = take_all size bytes (omega (arith, long)) in
    ap (with_data (take size bytes)) is ∙ ap (λ l. with_data l gs) all ∙ one gs turns
  where
    one : (gs : List Group) → Turns true gs → with_data bytes gs ≡ record { mapped = true; count = 1; bytes = bytes } ∷ gs
    one [] turns = refl
    one (g ∷ gs) turns = let e : g.mapped ≡ false = turns in rw e refl
data-grouped size (suc n) bytes items gs long is turns =
    let rest : length (drop size bytes) ≡ suc n * size = length-drop size bytes ∙ omega (arith, long) in
    ap (with_data (take size bytes)) (data-grouped size n (drop size bytes) items gs rest is turns)
    ∙ ap (λ l. record { mapped = true; count = suc (suc n); bytes = l } ∷ gs) (take-append-drop size bytes)

group-grouped : (size : ℕ) (g : Group) (items : List Held) (gs : List Group) → 1 ≤ g.count → HasBytes size g g.mapped → groups_of items ≡ gs → Turns g.mapped gs
    → groups_of (group_items size g g.mapped ++ items) ≡ g ∷ gs
group-grouped size g items gs some has is turns = go g.mapped refl g.count refl has turns
  where
    go : (b : Bool) → g.mapped ≡ b → (n : ℕ) → g.count ≡ n → HasBytes size g b → Turns b gs → groups_of (group_items size g g.mapped ++ items) ≡ g ∷ gs
    go b e zero f h t = absurd (omega (arith, some, f))
    go true e (suc n) f h t = rw (e, f) (data-grouped size n g.bytes items gs (h ∙ ap (λ k. k * size) f) is t ∙ (rw (← e, ← f) refl))
    go false e (suc n) f h t =
        let none : g.bytes ≡ [] = h in
        rw (e, f) (holes-grouped n items gs is t ∙ (rw (← e, ← f, ← none) refl))

pub groups-again : (size : ℕ) (last : Option Bool) (gs : List Group) → Formed size last gs → groups_of (items_of size gs) ≡ gs
groups-again size last [] f = refl
groups-again size last (g ∷ gs) f =
    group-grouped size g (items_of size gs) gs f.0 f.2 (groups-again size (Some g.mapped) gs f.3) (turned size g.mapped gs f.3)

-- ---- each block has its bytes

sized-holes : (size n : ℕ) (items : List Held) → AllSized size items → AllSized size (replicate n None ++ items)
sized-holes size zero items all block bytes e = all block bytes e
sized-holes size (suc n) items all zero bytes e = cc
sized-holes size (suc n) items all (suc block) bytes e = sized-holes size n items all block bytes e

sized-data : (size n : ℕ) (data_bytes : List ℕ) (items : List Held) → length data_bytes ≡ n * size → AllSized size items → AllSized size (cut_into size n data_bytes ++ items)
sized-data size zero held items long all block bytes e = all block bytes e
sized-data size (suc n) held items long all zero bytes e =
    let same : take size held ≡ bytes = cc in
    ap length (sym same) ∙ length-take-le size held (omega (arith, long))
sized-data size (suc n) held items long all (suc block) bytes e =
    sized-data size n (drop size held) items (length-drop size held ∙ omega (arith, long)) all block bytes e

sized-group : (size : ℕ) (g : Group) (items : List Held) → HasBytes size g g.mapped → AllSized size items → AllSized size (group_items size g g.mapped ++ items)
sized-group size g items has all = go g.mapped has
  where
    go : (b : Bool) → HasBytes size g b → AllSized size (group_items size g b ++ items)
    go true h = sized-data size g.count g.bytes items h all
    go false h = sized-holes size g.count items all

sized-groups : (size : ℕ) (last : Option Bool) (gs : List Group) → Formed size last gs → AllSized size (items_of size gs)
sized-groups size last [] f block bytes e = cc
sized-groups size last (g ∷ gs) f block bytes e = sized-group size g (items_of size gs) f.2 (sized-groups size (Some g.mapped) gs f.3) block bytes e

-- ---- lists of blocks

blocks-spelt : (size n : ℕ) (t u v : List ℕ) (gs : List Group) → IsField any 4 size t → IsField any 4 n u → AreGroups size None n gs v
    → IsSpelt FitBlocks blocks_text (record { block_length = size; items = items_of size gs }) (t ++ (u ++ v))
blocks-spelt size n t u v gs p q r =
    let again : groups_of (items_of size gs) ≡ gs = groups-again size None gs r.formed in
    let text : big_bytes 4 size ++ (big_bytes 4 (length gs) ++ flat_map group_bytes gs) ≡ blocks_text (record { block_length = size; items = items_of size gs }) = rw again refl in
    let is : t ++ (u ++ v) ≡ big_bytes 4 size ++ (big_bytes 4 (length gs) ++ flat_map group_bytes gs) =
    ap (λ l. l ++ (u ++ v)) p.is ∙ ap (λ l. big_bytes 4 size ++ (l ++ v)) (q.is ∙ ap (big_bytes 4) (sym r.count)) ∙ ap (λ l. big_bytes 4 size ++ (big_bytes 4 (length gs) ++ l)) r.is in (
      record {
        size = omega (arith, p.fits);
        sized = sized-groups size None gs r.formed;
        bytes = subst (All FitsGroup) (sym again) r.fit;
        few = subst (λ l. length l < 2 ^ 32) (sym again) (omega (arith, q.fits, r.count));
      },
      is ∙ text,
    )

pub blocks-reads : Reads (IsSpelt FitBlocks blocks_text) read_blocks
blocks-reads =
    after-reads (number 4) _ (IsField any 4) _ (number-reads 4 (omega arith)) (λ size t p. after-reads (number 4) _ (IsField any 4) _ (number-reads 4 (omega arith)) (λ n u q.
    last-reads (read_groups size None n) _ (AreGroups size None n) _ (groups-reads size None n) (λ gs v r. blocks-spelt size n t u v gs p q r)))
