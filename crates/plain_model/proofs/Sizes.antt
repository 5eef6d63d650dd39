-- How many bytes the blocks of a past hold
use Rattle.std.proofs.Common.{◌≡◌, ℕ, zero, suc, List, [], ◌∷◌, length, take, drop, refl, sym, subst, true, false, Bool, Some, None, arith}
use Rattle.std.specs.Prelude.{◌==◌, Option, map, cond, if◌then◌else◌}
use Rattle.std.proofs.lemmas.Bool.Decides.{nat_tests}
use Rattle.cm_base.specs.Configuration.{Configuration}
use Rattle.cm_base.specs.Units.{unit_of}
use Rattle.lba_ranges.specs.Denoted.{row, blocks_of}
use Rattle.lba_ranges.specs.HeldBlocks.{HeldBlocks, AllSized}
use Rattle.lba_ranges.specs.Writings.{Held, Writing, after, paired, unmapped}
use Rattle.cm_history.specs.declared.act.Act.{Act}
use Rattle.cm_history.specs.declared.act.Actor.{Actor}
use Rattle.cm_history.specs.declared.act.Entry.{Entry}
use Rattle.cm_history.specs.declared.answer.Answer.{Answer}
use Rattle.cm_history.specs.Bounds.{piece_blocks}
use Rattle.cm_history.specs.Deeds.{Deed, is_refusal, is_answered}
use Rattle.cm_history.specs.Blocks.{held}
use Rattle.cm_history.specs.Limits.{fits_unit}
use Rattle.cm_history.specs.Tokens.{Token, Live, tokens, token_after, made_token}
use Rattle.cm_history.specs.Operations.{Operation, operations, operation_after, made_operation, makes_operation, list_of, written, is_failure, would_serve, running, is_running, fits}
use Rattle.cm_history.specs.Answers.{deed, writings, wrote_of, piece_of}
use Rattle.plain_model.specs.inner.Holds.{AreSized, AllWritingsSized, IsSizedPast}
use Rattle.plain_model.specs.inner.Fitting.{Fits, AllFit}
use Rattle.cm_history.proofs.PublicLaws.{Each, Each-in, Each-by, Each-map, Each-append, In-filter, find-in, made-after, token-kept, and_second}

-- ---- what blocks hold

-- what a block holds has so many bytes
abbrev IsOf : ℕ → Held → Type 0
IsOf size h = (bytes : List ℕ) → h ≡ Some bytes → length bytes ≡ size

choice-of : (size : ℕ) (t : Bool) (x was : Held) → IsOf size x → IsOf size was → IsOf size (cond t x was)
choice-of size true x was one other = one
choice-of size false x was one other = other

after-sized : (size : ℕ) (ws : List Writing) (b : ℕ) (was : Held) → AllWritingsSized size ws → IsOf size was → IsOf size (after ws b was)
after-sized size [] b was all is = is
after-sized size (w ∷ ws) b was all is = after-sized size ws b _ all.1 (choice-of size (w.block == b) w.held was all.0 is)

pub held-sized : (size : ℕ) (past : List Deed) → IsSizedPast size past → AreSized size (held past)
held-sized size [] all b bytes e = cc
held-sized size (d ∷ past) all b bytes e = after-sized size d.wrote b (held past b) all.0 (λ more f. held-sized size past all.1 b more f) bytes e

-- the deeds before a token was made
pub before-sized : (size : ℕ) (past : List Deed) → IsSizedPast size past → Each (λ (t : Token). IsSizedPast size t.before) (tokens past)
before-sized size [] all = tt
before-sized size (d ∷ past) all =
    Each-append _ (map (token_after d (tokens past)) (tokens past)) _
    (Each-map _ (token_after d (tokens past)) (tokens past)
    (Each-by _ (tokens past) (λ t i. subst (IsSizedPast size) (sym (token-kept d (tokens past) t).before) (Each-in _ (tokens past) t (before-sized size past all.1) i))))
    (new (length (tokens past)) d.entry.act)
  where
    new : (serial : ℕ) (act : Act) → Each (λ (t : Token). IsSizedPast size t.before) (made_token d past serial act)
    new serial (Act.Populate id timeout ranges) = go (is_answered d)
      where
        go : (t : Bool) → Each (λ (t : Token). IsSizedPast size t.before) (if t then record { serial = serial; ranges = ranges; timeout = timeout; before = past; last_use = d.moment; fate = Live } ∷ [] else [])
        go true = (all.1, tt)
        go false = tt
    new serial _ = tt

-- ---- what acts write

paired-sized : (size : ℕ) (bs : List ℕ) (xs : List Held) → AllSized size xs → AllWritingsSized size (paired bs xs)
paired-sized size [] xs all = tt
paired-sized size (c ∷ bs) [] all = tt
paired-sized size (c ∷ bs) (x ∷ xs) all = ((λ bytes e. all 0 bytes e), paired-sized size bs xs (λ i bytes e. all (suc i) bytes e))

unmapped-sized : (size : ℕ) (bs : List ℕ) → AllWritingsSized size (unmapped bs)
unmapped-sized size [] = tt
unmapped-sized size (b ∷ bs) = ((λ bytes e. cc), unmapped-sized size bs)

take-sized : (size n : ℕ) (ws : List Writing) → AllWritingsSized size ws → AllWritingsSized size (take n ws)
take-sized size zero ws all = tt
take-sized size (suc n) [] all = tt
take-sized size (suc n) (w ∷ ws) all = (all.0, take-sized size n ws all.1)

drop-sized : (size n : ℕ) (ws : List Writing) → AllWritingsSized size ws → AllWritingsSized size (drop n ws)
drop-sized size zero ws all = all
drop-sized size (suc n) [] all = tt
drop-sized size (suc n) (w ∷ ws) all = drop-sized size n ws all.1

wrote-sized : (size : ℕ) (a : Answer) (ws : List Writing) → AllWritingsSized size ws → AllWritingsSized size (wrote_of a ws)
wrote-sized size a ws all = go (is_refusal a) (is_failure a)
  where
    go : (r f : Bool) → AllWritingsSized size (if r then [] else if f then [] else ws)
    go true f = tt
    go false true = tt
    go false false = all

-- blocks of the unit's length
unit-sized : (config : Configuration) (unit : ℕ) (list : HeldBlocks) → fits_unit config unit list ≡ true → AllSized list.block_length list.items
    → AllSized (unit_of config unit).block_length list.items
unit-sized config unit list fits all =
    let same : list.block_length ≡ (unit_of config unit).block_length = grind (arith, nat_tests) in
    subst (λ n. AllSized n list.items) same all

list-sized : (config : Configuration) (unit : ℕ) (act : Act) → Fits config unit act → AllWritingsSized (unit_of config unit).block_length (list_of act)
list-sized config unit (Act.Start id background ranges rod) is =
    let fits : fits_unit config unit rod ≡ true = and_second _ (fits_unit config unit rod) is.limits in
    paired-sized _ (blocks_of ranges) rod.items (unit-sized config unit rod fits is.sized)
list-sized config unit _ is = tt

-- each operation was made by such an act
pub makers-fit : (config : Configuration) (unit : ℕ) (past : List Deed) → AllFit config unit past → Each (λ (o : Operation). Fits config unit o.made.entry.act) (operations past)
makers-fit config unit [] all = tt
makers-fit config unit (d ∷ past) all =
    Each-append _ (map (operation_after d) (operations past)) _
    (Each-map _ (operation_after d) (operations past)
    (Each-by _ (operations past) (λ o i. subst (λ (m : Deed). Fits config unit m.entry.act) (sym (made-after d o)) (Each-in _ (operations past) o (makers-fit config unit past all.1) i))))
    (new (makes_operation d))
  where
    new : (t : Bool) → Each (λ (o : Operation). Fits config unit o.made.entry.act) (if t then made_operation d ∷ [] else [])
    new true = (all.0, tt)
    new false = tt

piece-sized : (config : Configuration) (unit : ℕ) (past : List Deed) (actor : Actor) (act : Act) → AllFit config unit past
    → AllWritingsSized (unit_of config unit).block_length (piece_of (would_serve past actor act))
piece-sized config unit past actor act all = go (would_serve past actor act) refl
  where
    go : (w : Option Operation) → would_serve past actor act ≡ w → AllWritingsSized (unit_of config unit).block_length (piece_of w)
    go None e = tt
    go (Some o) e =
        let i = In-filter is_running (operations past) o (find-in (fits actor act) (running past) o e) in
        take-sized _ piece_blocks _ (drop-sized _ (length (written o)) _ (list-sized config unit o.made.entry.act (Each-in _ (operations past) o (makers-fit config unit past all) i)))

writings-sized : (config : Configuration) (unit : ℕ) (past : List Deed) (actor : Actor) (act : Act) → AllFit config unit past → Fits config unit act
    → AllWritingsSized (unit_of config unit).block_length (writings past actor act)
writings-sized config unit past actor (Act.Write lba list) all is =
    paired-sized _ (row lba (length list.items)) list.items
    (unit-sized config unit list (and_second _ (fits_unit config unit list) is.limits) is.sized)
writings-sized config unit past actor (Act.Put lba list) all is =
    paired-sized _ (row lba (length list.items)) list.items (unit-sized config unit list (and_second _ (fits_unit config unit list) is.limits) is.sized)
writings-sized config unit past actor (Act.Unmap ranges) all is = unmapped-sized _ (blocks_of ranges)
writings-sized config unit past actor (Act.Advance id) all is = piece-sized config unit past actor (Act.Advance id) all
writings-sized config unit past actor Act.Pump all is = piece-sized config unit past actor Act.Pump all
writings-sized config unit past actor _ all is = tt

pub deed-sized : (config : Configuration) (unit : ℕ) (past : List Deed) (e : Entry) → AllFit config unit past → Fits config unit e.act
    → AllWritingsSized (unit_of config unit).block_length (deed config unit past e).wrote
deed-sized config unit past e all is = wrote-sized _ _ (writings past e.actor e.act) (writings-sized config unit past e.actor e.act all is)
