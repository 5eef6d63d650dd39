-- The blocks of a piece
use Rattle.std.proofs.Common.{◌≡◌, ℕ, zero, suc, ◌+◌, ◌-◌, ◌^◌, ◌<◌, List, [], ◌∷◌, length, take, drop, min, refl, ap, sym, ◌∙◌, arith, length-drop, length-take, true, false}
use Rattle.std.specs.Prelude.{◌==◌, slice_range}
use Rattle.std.specs.List.{list_any}
use Rattle.std.proofs.lemmas.List.{take_min}
use Rattle.lba_ranges.specs.Denoted.{blocks_of, total, has_repeat, is_within}
use Rattle.lba_ranges.specs.HeldBlocks.{HeldBlocks}
use Rattle.lba_ranges.specs.Writings.{Held}
use Rattle.lba_ranges.proofs.PublicLaws.{length-blocks_of}
use Rattle.cm_history.specs.Bounds.{piece_blocks}
use Rattle.copy_jobs.specs.declared.job.WriteJob.{WriteJob}
use Rattle.copy_jobs.specs.declared.piece.NextPiece.{NextPiece}
use Rattle.copy_jobs.specs.Pieces.{IsPiece}
use Rattle.copy_jobs.specs.inner.Tables.{IsWriteJob}
use Rattle.copy_jobs.proofs.Lists.{or_first, or_later, any-take}

pub repeat-take : (n : ℕ) (xs : List ℕ) → has_repeat xs ≡ false → has_repeat (take n xs) ≡ false
repeat-take zero xs e = refl
repeat-take (suc n) [] e = refl
repeat-take (suc n) (x ∷ xs) e =
    let here : list_any (λ a. a == x) (take n xs) ≡ false = any-take (λ a. a == x) n xs (or_first (list_any (λ a. a == x) xs) (has_repeat xs) e) in
    let later : has_repeat (take n xs) ≡ false = repeat-take n xs (or_later (list_any (λ a. a == x) xs) (has_repeat xs) e) in
    rw (here, later) refl

pub repeat-drop : (n : ℕ) (xs : List ℕ) → has_repeat xs ≡ false → has_repeat (drop n xs) ≡ false
repeat-drop zero xs e = e
repeat-drop (suc n) [] e = refl
repeat-drop (suc n) (x ∷ xs) e = repeat-drop n xs (or_later (list_any (λ a. a == x) xs) (has_repeat xs) e)

-- a part that ends at a bound, or with the list
pub cut-is : {X : Type 0} (from bound count : ℕ) (xs : List X) → count ≡ min (length xs - from) bound
    → slice_range xs from (from + count) ≡ take bound (drop from xs)
cut-is from bound count xs e =
    let size : from + count - from ≡ min bound (length (drop from xs)) = omega (arith, length-drop from xs) in
    ap (λ n. take n (drop from xs)) size ∙ take_min bound (drop from xs)

pub length-cut : {X : Type 0} (from bound : ℕ) (xs : List X) → length (take bound (drop from xs)) ≡ min bound (length xs - from)
length-cut from bound xs = length-take bound (drop from xs) ∙ ap (min bound) (length-drop from xs)

-- what is cut out of a write from its place on is its next piece
pub piece-is : (write : WriteJob) (piece : NextPiece) (count : ℕ) → IsWriteJob write → write.written < length write.rod.items
    → count ≡ min (length write.rod.items - write.written) piece_blocks
    → blocks_of piece.ranges ≡ slice_range (blocks_of write.ranges) write.written (write.written + count)
    → piece.list ≡ record write.rod { items = slice_range write.rod.items write.written (write.written + count) }
    → ((n : ℕ) → is_within n write.ranges ≡ true → is_within n piece.ranges ≡ true)
    → piece.written ≡ write.written → piece.is_last ≡ (write.written + count == length write.rod.items)
    → IsPiece write piece
piece-is write piece count is left size blocks list within from-is last-is =
    let from = write.written in
    let long : length (blocks_of write.ranges) ≡ length write.rod.items = length-blocks_of write.ranges ∙ is.total in
    let size-too : count ≡ min (length (blocks_of write.ranges) - from) piece_blocks = rw long size in
    let numbers : blocks_of piece.ranges ≡ take piece_blocks (drop from (blocks_of write.ranges)) =
    blocks ∙ cut-is from piece_blocks count (blocks_of write.ranges) size-too in
    let items : slice_range write.rod.items from (from + count) ≡ take piece_blocks (drop from write.rod.items) =
    cut-is from piece_blocks count write.rod.items size in
    let held : piece.list ≡ record { block_length = write.rod.block_length; items = take piece_blocks (drop from write.rod.items) } =
    list ∙ ap (λ (xs : List Held). let cut : HeldBlocks = record { block_length = write.rod.block_length; items = xs } in cut) items in
    let apart : has_repeat (blocks_of piece.ranges) ≡ false =
    ap has_repeat numbers ∙ repeat-take piece_blocks (drop from (blocks_of write.ranges)) (repeat-drop from (blocks_of write.ranges) is.apart) in
    let count-of : length piece.list.items ≡ min piece_blocks (length write.rod.items - from) =
    ap (λ (l : HeldBlocks). length l.items) held ∙ length-cut from piece_blocks write.rod.items in
    let total-of : total piece.ranges ≡ min piece_blocks (length write.rod.items - from) =
    sym (length-blocks_of piece.ranges) ∙ ap length numbers ∙ length-cut from piece_blocks (blocks_of write.ranges) ∙ ap (λ n. min piece_blocks (n - from)) long in
    record {
      blocks = numbers;
      list = held;
      within = within;
      numbers = within (2 ^ 64) is.numbers;
      apart = apart;
      total = total-of ∙ sym count-of;
      some = omega (arith, count-of);
      few = omega (arith, count-of);
      written = from-is;
      last =
          let same : count ≡ length piece.list.items = omega (arith, size, count-of) in
          last-is ∙ ap (λ n. write.written + n == length write.rod.items) same;
    }
