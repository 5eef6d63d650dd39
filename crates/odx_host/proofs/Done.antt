-- A copy whose operations wrote all blocks
use Rattle.std.proofs.Common.{◌≡◌, ℕ, zero, suc, ◌-◌, ◌≤◌, List, [], ◌∷◌, ◌++◌, length, length-append, take, refl, ap, sym, ◌∙◌, arith}
use Rattle.std.specs.Prelude.{Some, map, flat_map, IsTrue, ◌==◌}
use Rattle.std.proofs.lemmas.List.{length-map, take_all}
use Rattle.std.proofs.lemmas.List.Elements.{filter-append}
use Rattle.lba_ranges.specs.Denoted.{blocks_of, total}
use Rattle.lba_ranges.specs.Writings.{paired, is_written}
use Rattle.lba_ranges.proofs.PublicLaws.{length-blocks_of}
use Rattle.cm_history.specs.declared.act.Entry.{Entry}
use Rattle.cm_history.specs.Deeds.{Deed}
use Rattle.cm_history.specs.Answers.{deed}
use Rattle.cm_history.specs.Blocks.{held}
use Rattle.cm_history.specs.History.{on, past_of}
use Rattle.cm_history.specs.Laws.{past_at, place_on, deed_at}
use Rattle.cm_history.specs.Tokens.{is_populate}
use Rattle.cm_history.proofs.PublicLaws.{Each, Each-in, Each-by, Each-map, Each-all, In-map, In-contains, contains-in, length-past}
use Rattle.copy_plan.specs.Jobs.{CopyJob, AreExtents}
use Rattle.odx_host.specs.declared.fault.Copied.{Copied}
use Rattle.odx_host.specs.Worlds.{World}
use Rattle.odx_host.specs.Copies.{Placed, IsOwn, is_start, blocks_in, rod_of, written_of, IsAlone, HasCopied}
use Rattle.odx_host.proofs.Redeeming.{at-whole, take-whole}
use Rattle.odx_host.proofs.Work.{work}
use Rattle.odx_host.proofs.Holds.{OnlyThese, blocks-hold}

-- an own Populate, and an own Start
abbrev pub IsPopulateAt : CopyJob → World → ℕ → Placed → Type 0
IsPopulateAt job v n d = IsOwn v n job.source d × IsTrue (is_populate d.entry.act)

abbrev pub IsStartAt : CopyJob → World → ℕ → Placed → Type 0
IsStartAt job v n d = IsOwn v n job.target d × IsTrue (is_start d.entry.act)

-- the blocks before a place were copied
pub record SoFar (job : CopyJob) (v : World) (n place : ℕ) (done : Copied) : Type 0 where
  pub populates : List Placed
  pub starts : List Placed
  pub populated : length populates ≡ done.populates
  pub begun : length starts ≡ done.writes
  pub at_source : Each (IsPopulateAt job v n) populates
  pub at_target : Each (IsStartAt job v n) starts
  pub from : flat_map blocks_in populates ≡ take place (blocks_of job.from)
  pub written : flat_map (written_of v) starts ≡ paired (take place (blocks_of job.to)) (flat_map (rod_of v) populates)

pub length-rods : (v : World) (ps : List Placed) → length (flat_map (rod_of v) ps) ≡ length (flat_map blocks_in ps)
length-rods v [] = refl
length-rods v (p ∷ ps) =
    let one = length-append (rod_of v p) (flat_map (rod_of v) ps) in
    let two = length-append (blocks_in p) (flat_map blocks_in ps) in
    let here = length-map (blocks_in p) (held (past_at v.config p.entry.unit v.history p.place)) in
    omega (arith, one, two, here, length-rods v ps)

take-behind : (base rest : List Entry) (k : ℕ) → length base ≤ k → take k (base ++ rest) ≡ base ++ take (k - length base) rest
take-behind [] rest k h = let e : k - 0 ≡ k = omega arith in rw e refl
take-behind (x ∷ base) rest zero h = absurd (omega arith)
take-behind (x ∷ base) rest (suc k) h = let e : suc k - suc (length base) ≡ k - length base = omega arith in rw e (ap (λ l. x ∷ l) (take-behind base rest k (omega arith)))

module _ (job : CopyJob) (w v : World) (rest : List Entry) (whole : w.history ++ rest ≡ v.history) where
  abbrev place_of : Placed → ℕ
  place_of d = place_on job.target v.history d.place

  works : (starts : List Placed) → Each (IsStartAt job v (length w.history)) starts
      → flat_map (work (past_of v.config job.target v.history)) (map place_of starts) ≡ flat_map (written_of v) starts
  works [] all = refl
  works (d ∷ ds) all =
      ap (λ u. work (past_of v.config u v.history) (place_on u v.history d.place) ++ flat_map (work (past_of v.config job.target v.history)) (map place_of ds)) (sym all.0.0.on_unit)
      ∙ ap (λ l. written_of v d ++ l) (works ds all.1)

  begins-late : (d : Placed) → length w.history ≤ d.place → length (past_of v.config job.target w.history) ≤ place_of d
  begins-late d late =
      let more = take (d.place - length w.history) rest in
      let front : take d.place v.history ≡ w.history ++ more = ap (take d.place) (sym whole) ∙ take-behind w.history rest d.place late in
      let split : length (on job.target (take d.place v.history)) ≡ length (on job.target w.history ++ on job.target more) =
      ap (λ l. length (on job.target l)) front ∙ ap length (filter-append (λ (e : Entry). e.unit == job.target) w.history more) in
      let sum = length-append (on job.target w.history) (on job.target more) in
      let first = length-past v.config job.target w.history in
      omega (arith, split, sum, first)

  only-these : (starts : List Placed) → IsAlone job v (length w.history) starts
      → OnlyThese v.config job.target (map place_of starts) (blocks_of job.to) w.history v.history
  only-these starts alone = λ front e behind block is late at i writes.
      let taken = take-whole front (e ∷ behind) v.history is in
      let same : deed_at v.config v.history (length front) e ≡ deed v.config job.target (past_of v.config job.target front) e =
      ap (λ l. deed v.config e.unit (past_of v.config e.unit l) e) taken ∙ ap (λ u. deed v.config u (past_of v.config u front) e) at in
      let s = alone (length front) e block late (at-whole front behind v.history e is) at (In-contains (blocks_of job.to) block i)
      (ap (λ (d : Deed). is_written d.wrote block) same ∙ writes) in (
        place_of s.start,
        In-map place_of starts s.start (contains-in starts s.start s.own),
        sym (ap (λ (d : Deed). d.served) same) ∙ s.serves ∙ ap (λ u. Some (place_on u v.history s.start.place)) at,
      )

  -- all blocks were copied
  pub has-copied : (place : ℕ) (done : Copied) → AreExtents job.to → total job.to ≡ total job.from → total job.from ≤ place → SoFar job v (length w.history) place done
      → HasCopied job done w v
  has-copied place done to same over s =
      let rods = flat_map (rod_of v) s.populates in
      let from_length = length-blocks_of job.from in
      let to_length = length-blocks_of job.to in
      let from : flat_map blocks_in s.populates ≡ blocks_of job.from = s.from ∙ take_all place (blocks_of job.from) (omega (arith, from_length, over)) in
      let written : flat_map (written_of v) s.starts ≡ paired (blocks_of job.to) rods =
      s.written ∙ ap (λ l. paired l rods) (take_all place (blocks_of job.to) (omega (arith, to_length, same, over))) in
      let count = ap length from in
      record {
        populates = s.populates;
        starts = s.starts;
        populated = s.populated;
        begun = s.begun;
        at_source = Each-all (IsPopulateAt job v (length w.history)) s.populates s.at_source;
        at_target = Each-all (IsStartAt job v (length w.history)) s.starts s.at_target;
        from = from;
        written = written;
        held = λ alone.
            blocks-hold v.config job.target (map place_of s.starts) (blocks_of job.to) rods w.history v.history to.apart
            (omega (arith, to_length, same, from_length, count, length-rods v s.populates))
            (works s.starts s.at_target ∙ written)
            (Each-map _ place_of s.starts (Each-by _ s.starts (λ d i. begins-late d (Each-in (IsStartAt job v (length w.history)) s.starts d s.at_target i).0.late)))
            (only-these s.starts alone) rest whole;
      }
