-- Blocks of 512 bytes
use Rattle.std.proofs.Common.{◌≡◌, ℕ, zero, suc, ◌*◌, List, [], ◌∷◌, length, take, drop, map, Bool, true, false, if◌then◌else◌, refl, ◌∙◌, arith, length-append, length-take, length-drop}
use Rattle.std.specs.Prelude.{◌==◌}
use Rattle.lba_ranges.specs.HeldBlocks.{block_bytes, items_bytes, cut_into}
use Rattle.lba_ranges.specs.Writings.{Held, Writing, paired, after}
use Rattle.cm_history.specs.declared.answer.Answer.{Answer}
use Rattle.cm_history.specs.Answers.{wrote_of}
use Rattle.cm_history.specs.Blocks.{held}
use Rattle.cm_history.specs.Deeds.{Deed, is_refusal}
use Rattle.cm_history.specs.Members.{Each}
use Rattle.cm_history.specs.Operations.{is_failure}

-- what is read of the block has 512 bytes
abbrev pub IsBlock : Held → Type 0
IsBlock h = length (block_bytes 512 h) ≡ 512

-- each block has
abbrev pub Sized : List Deed → Type 0
Sized past = (b : ℕ) → IsBlock (held past b)

abbrev pub WritesBlocks : List Writing → Type 0
WritesBlocks ws = Each (λ (w : Writing). IsBlock w.held) ws

pub items-length : (items : List Held) → Each IsBlock items → length (items_bytes 512 items) ≡ 512 * length items
items-length [] all = refl
items-length (x ∷ items) all =
    length-append (block_bytes 512 x) (items_bytes 512 items) ∙ (let first = all.0 in let more = items-length items all.1 in omega (arith, first, more))

pub held-sized : (past : List Deed) (blocks : List ℕ) → Sized past → Each IsBlock (map (held past) blocks)
held-sized past [] sized = tt
held-sized past (b ∷ blocks) sized = (sized b, held-sized past blocks sized)

pub cut-sized : (n : ℕ) (bytes : List ℕ) → length bytes ≡ 512 * n → Each IsBlock (cut_into 512 n bytes)
cut-sized zero bytes whole = tt
cut-sized (suc n) bytes whole = (
  length-take 512 bytes ∙ omega (arith, whole),
  cut-sized n (drop 512 bytes) (length-drop 512 bytes ∙ omega (arith, whole)),
)

pub take-sized : (n : ℕ) (items : List Held) → Each IsBlock items → Each IsBlock (take n items)
take-sized zero items all = tt
take-sized (suc n) [] all = tt
take-sized (suc n) (x ∷ items) all = (all.0, take-sized n items all.1)

pub paired-sized : (blocks : List ℕ) (items : List Held) → Each IsBlock items → WritesBlocks (paired blocks items)
paired-sized [] items all = tt
paired-sized (b ∷ blocks) [] all = tt
paired-sized (b ∷ blocks) (x ∷ items) all = (all.0, paired-sized blocks items all.1)

pub take-writes : (n : ℕ) (ws : List Writing) → WritesBlocks ws → WritesBlocks (take n ws)
take-writes zero ws all = tt
take-writes (suc n) [] all = tt
take-writes (suc n) (w ∷ ws) all = (all.0, take-writes n ws all.1)

after-sized : (ws : List Writing) (b : ℕ) (was : Held) → WritesBlocks ws → IsBlock was → IsBlock (after ws b was)
after-sized [] b was all is = is
after-sized (w ∷ ws) b was all is = after-sized ws b (if w.block == b then w.held else was) all.1 (go (w.block == b))
  where
    go : (t : Bool) → IsBlock (if t then w.held else was)
    go true = all.0
    go false = is

-- one more deed
pub more-sized : (d : Deed) (past : List Deed) → WritesBlocks d.wrote → Sized past → Sized (d ∷ past)
more-sized d past wrote sized = λ b. after-sized d.wrote b (held past b) wrote (sized b)

pub wrote-sized : (a : Answer) (ws : List Writing) → WritesBlocks ws → WritesBlocks (wrote_of a ws)
wrote-sized a ws all = go (is_refusal a) (is_failure a)
  where
    go : (s t : Bool) → WritesBlocks (if s then [] else if t then [] else ws)
    go true t = tt
    go false true = tt
    go false false = all
