-- A copy over units that tell what they do
use Rattle.std.proofs.Common.{◌≡◌, ℕ, zero, suc, ◌+◌, ◌-◌, ◌<◌, ◌≤◌, ◌^◌, List, [], ◌∷◌, ◌++◌, length, length-append, take, drop, refl, ap, sym, ◌∙◌, subst, arith, true, false, Bool, inl, inr, ◌⊎◌}
use Rattle.std.specs.Prelude.{Result, Ok, map, flat_map, nat_lt, cond}
use Rattle.std.proofs.lemmas.Bool.{cases_lt, ltb-true, ltb-false}
use Rattle.std.proofs.lemmas.List.{length-map, length-take, length-take-le}
use Rattle.lba_ranges.specs.declared.ranges.Range.{Range}
use Rattle.lba_ranges.specs.Denoted.{blocks_of, total}
use Rattle.lba_ranges.specs.Writings.{Held, paired}
use Rattle.lba_ranges.proofs.PublicLaws.{length-blocks_of}
use Rattle.cm_history.specs.declared.act.Entry.{Entry}
use Rattle.cm_history.specs.Blocks.{held}
use Rattle.cm_history.specs.History.{past_of}
use Rattle.cm_history.specs.Laws.{past_at}
use Rattle.cm_history.specs.Legal.{IsLegal}
use Rattle.cm_history.specs.Tokens.{is_populate}
use Rattle.cm_history.proofs.PublicLaws.{Each, Each-append}
use Rattle.copy_plan.specs.Jobs.{CopyJob, AreExtents}
use Rattle.copy_plan.specs.Plans.{longest_run, part_limit}
use Rattle.copy_plan.proofs.PublicLaws.{run-longest}
use Rattle.odx_host.specs.declared.fault.Copied.{Copied}
use Rattle.odx_host.specs.declared.fault.CopyFault.{CopyFault}
use Rattle.odx_host.specs.Talk.{Talked}
use Rattle.odx_host.specs.Worlds.{World, Passed}
use Rattle.odx_host.specs.Parts.{writes_from, parts, parts_from, part_at, ranges_at, place_behind}
use Rattle.odx_host.specs.Rule.{HostProgram, Ends, writing, copying, next_step, rule, one_token, one_write, is_last}
use Rattle.odx_host.specs.Ruled.{AreAsked, after, EndsSo, IsRuled}
use Rattle.odx_host.specs.Copies.{Copies, Placed, ranges_of, blocks_in, rod_of, written_of}
use Rattle.odx_host.specs.inner.Steps.{steps_in}
use Rattle.odx_host.proofs.Coming.{run-some}
use Rattle.odx_host.proofs.Naming.{may-name, run-blocks}
use Rattle.odx_host.proofs.Listing.{paired-more, paired-short, take-add, drop-later, flat-push}
use Rattle.odx_host.proofs.Redeeming.{at-whole, take-whole}
use Rattle.odx_host.proofs.Populating.{HasToken, populate-on}
use Rattle.odx_host.proofs.Begun.{HasWritten, write-on}
use Rattle.odx_host.proofs.Done.{SoFar, length-rods, IsPopulateAt, IsStartAt, has-copied}
use Rattle.odx_host.proofs.Advancing.{Remains, Longer, passed-longer, by-outcome}
use Rattle.odx_host.proofs.Identifiers.{steps-few}

-- the blocks before `q` were copied, those from `first` on to `last` by this token
pub record Midway (job : CopyJob) (v : World) (n first last q : ℕ) (token : List ℕ) (id : ℕ) (parts : List Range) (h : ℕ) (done : Copied) : Type 0 where
  pub populates : List Placed
  pub starts : List Placed
  pub populated : length populates ≡ done.populates
  pub begun : length starts ≡ done.writes
  pub at_source : Each (IsPopulateAt job v n) populates
  pub at_target : Each (IsStartAt job v n) starts
  pub from : flat_map blocks_in populates ≡ take last (blocks_of job.from)
  pub written : flat_map (written_of v) starts ≡ paired (take q (blocks_of job.to)) (flat_map (rod_of v) populates)
  pub made : HasToken v n job.source id parts h token
  pub earlier : List Held
  pub rods : flat_map (rod_of v) populates ≡ earlier ++ map (held (past_of v.config job.source made.front)) (blocks_of parts)
  pub count : length earlier ≡ first

length-push : {X : Type 0} (xs : List X) (x : X) → length (xs ++ x ∷ []) ≡ suc (length xs)
length-push xs x = length-append xs (x ∷ []) ∙ omega arith

module _ (job : CopyJob) (w v : World) (outcome : Result Copied CopyFault) (legal : IsLegal v.config v.history)
    (from : AreExtents job.from) (to : AreExtents job.to) (same : total job.to ≡ total job.from) (creator : job.source < 2 ^ 16)
    (rest : List Entry) (whole : w.history ++ rest ≡ v.history) where
  -- one more write
  midway-on : (first last q : ℕ) (token : List ℕ) (id : ℕ) (parts : List Range) (h h2 : ℕ) (done : Copied) → first ≤ q → q < last → last ≡ first + total parts → last ≤ total job.to → h ≤ h2
      → (m : Midway job v (length w.history) first last q token id parts h done)
      → HasWritten v (length w.history) job.target (longest_run job.to q (last - q)) (map (held (past_of v.config job.source m.made.front)) (blocks_of parts)) (q - first)
      → Midway job v (length w.history) first last (q + total (longest_run job.to q (last - q))) token id parts h2 (one_write done)
  midway-on first last q token id parts h h2 done begun some ends within longer m one =
      let run = longest_run job.to q (last - q) in
      let k = total run in
      let t = m.made in
      let items = map (held (past_of v.config job.source t.front)) (blocks_of parts) in
      let rods = flat_map (rod_of v) m.populates in
      let passed = t.passed in
      let place : length m.earlier + (q - first) ≡ q = (let c = m.count in omega arith) in
      let later : drop q rods ≡ drop (q - first) items =
      ap (drop q) m.rods ∙ ap (λ p. drop p (m.earlier ++ items)) (sym place) ∙ drop-later m.earlier items (q - first) in
      let to_length = length-blocks_of job.to in
      let parts_length = length-blocks_of parts in
      let items_length = length-map (blocks_of parts) (held (past_of v.config job.source t.front)) in
      let sum = length-append m.earlier items in
      let size = ap length m.rods in
      let count = m.count in
      record {
        populates = m.populates;
        starts = m.starts ++ one.start ∷ [];
        populated = m.populated;
        begun = length-push m.starts one.start ∙ ap suc m.begun;
        at_source = m.at_source;
        at_target = Each-append (IsStartAt job v (length w.history)) m.starts (one.start ∷ []) m.at_target ((one.own, one.is), tt);
        from = m.from;
        written =
            flat-push (written_of v) m.starts one.start ∙ ap (λ l. l ++ written_of v one.start) m.written
            ∙ ap (λ l. paired (take q (blocks_of job.to)) rods ++ l) (one.wrote ∙ ap (λ bs. paired bs (take k (drop (q - first) items))) (run-blocks job.to q (last - q))
            ∙ ap (λ xs. paired (take k (drop q (blocks_of job.to))) (take k xs)) (sym later))
            ∙ paired-more q k (blocks_of job.to) rods (omega (arith, to_length, some, within)) (omega (arith, size, sum, items_length, parts_length, count, some, ends));
        made = record {
          front = t.front;
          e = t.e;
          behind = t.behind;
          whole = t.whole;
          late = t.late;
          passed = omega (arith, passed, longer);
          actor = t.actor;
          on_unit = t.on_unit;
          asks = t.asks;
          serial = t.serial;
          made = t.made;
          low = t.low;
          token_is = t.token_is;
        };
        earlier = m.earlier;
        rods = m.rods;
        count = m.count;
      }

  so-far-of : (first last q : ℕ) (token : List ℕ) (id : ℕ) (parts : List Range) (h : ℕ) (done : Copied) → q ≡ last → Midway job v (length w.history) first last q token id parts h done
      → SoFar job v (length w.history) last done
  so-far-of first last q token id parts h done e m = record {
    populates = m.populates;
    starts = m.starts;
    populated = m.populated;
    begun = m.begun;
    at_source = m.at_source;
    at_target = m.at_target;
    from = m.from;
    written = m.written ∙ ap (λ p. paired (take p (blocks_of job.to)) (flat_map (rod_of v) m.populates)) e;
  }

  -- all writes of a token
  write-all : (left first last q : ℕ) (token : List ℕ) (id : ℕ) (parts : List Range) (done : Copied) (go_on : Copied → HostProgram) (more_steps : ℕ) (talk : List Talked) (h : List Entry)
      → first ≤ q → q ≤ last → last - q ≤ left → last ≡ first + total parts → last ≤ total job.to → total parts ≤ 1_048_576 → length w.history ≤ length h
      → next_step done + length (writes_from left job.to q last) + more_steps ≤ 2 ^ 32
      → Midway job v (length w.history) first last q token id parts (length h) done
      → AreAsked (writing job token go_on done (q - first) (writes_from left job.to q last)) talk
      → after (writing job token go_on done (q - first) (writes_from left job.to q last)) talk ≡ Ends outcome → Remains v h talk
      → ((so_far : Copied) (ts : List Talked) (h2 : List Entry) → length w.history ≤ length h2 → next_step so_far + more_steps ≤ 2 ^ 32 → AreAsked (go_on so_far) ts → after (go_on so_far) ts ≡ Ends outcome → Remains v h2 ts
      → SoFar job v (length w.history) last so_far → Copies job outcome w v)
      → Copies job outcome w v
  write-all zero first last q token id parts done go_on more_steps talk h begun high enough ends within few late steps m asked over r k =
      k done talk h late (omega (arith, steps)) asked over r (so-far-of first last q token id parts (length h) done (omega arith) m)
  write-all (suc left) first last q token id parts done go_on more_steps talk h begun high enough ends within few late steps m asked over r k =
      go (cases_lt q last) (nat_lt q last) refl steps asked over (write-all left)
    where
      go : (q < last) ⊎ (last ≤ q) → (t : Bool) → nat_lt q last ≡ t
          → next_step done + length (cond t (longest_run job.to q (last - q) ∷ writes_from left job.to (q + total (longest_run job.to q (last - q))) last) []) + more_steps ≤ 2 ^ 32
          → AreAsked (writing job token go_on done (q - first) (cond t (longest_run job.to q (last - q) ∷ writes_from left job.to (q + total (longest_run job.to q (last - q))) last) [])) talk
          → after (writing job token go_on done (q - first) (cond t (longest_run job.to q (last - q) ∷ writes_from left job.to (q + total (longest_run job.to q (last - q))) last) [])) talk ≡ Ends outcome
          → ((first last q : ℕ) (token : List ℕ) (id : ℕ) (parts : List Range) (done : Copied) (go_on : Copied → HostProgram) (more_steps : ℕ) (talk : List Talked) (h : List Entry)
          → first ≤ q → q ≤ last → last - q ≤ left → last ≡ first + total parts → last ≤ total job.to → total parts ≤ 1_048_576 → length w.history ≤ length h
          → next_step done + length (writes_from left job.to q last) + more_steps ≤ 2 ^ 32
          → Midway job v (length w.history) first last q token id parts (length h) done
          → AreAsked (writing job token go_on done (q - first) (writes_from left job.to q last)) talk
          → after (writing job token go_on done (q - first) (writes_from left job.to q last)) talk ≡ Ends outcome → Remains v h talk
          → ((so_far : Copied) (ts : List Talked) (h2 : List Entry) → length w.history ≤ length h2 → next_step so_far + more_steps ≤ 2 ^ 32 → AreAsked (go_on so_far) ts → after (go_on so_far) ts ≡ Ends outcome → Remains v h2 ts
          → SoFar job v (length w.history) last so_far → Copies job outcome w v)
          → Copies job outcome w v)
          → Copies job outcome w v
      go (inr ended) true is s a o later = absurd (let low = ltb-true q last is in omega (arith, low, ended))
      go (inl some) false is s a o later = absurd (let high' = ltb-false q last is in omega (arith, high', some))
      go (inr ended) false is s a o later =
          k done talk h late (omega (arith, s)) a o r (so-far-of first last q token id parts (length h) done (omega (arith, ended, high)) m)
      go (inl some) true is s a o later =
          let n = length w.history in
          let step = next_step done in
          let limits = run-longest job.to q (last - q) (omega (arith, some, within)) in
          let fits = limits.within in
          let more = run-some job.to q (last - q) (omega (arith, some, within)) (omega (arith, some)) in
          let blocks = to.blocks in
          let delete = is_last (writes_from left job.to (q + total (longest_run job.to q (last - q))) last) in
          let next = writing job token go_on (one_write done) (q - first + total (longest_run job.to q (last - q))) (writes_from left job.to (q + total (longest_run job.to q (last - q))) last) in
          let offset : q - first + total (longest_run job.to q (last - q)) ≡ q + total (longest_run job.to q (last - q)) - first = omega (arith, begun) in
          write-on job w v outcome legal n job.source id job.target step parts (longest_run job.to q (last - q)) (omega (arith, s)) (may-name job.to q (last - q) to (omega (arith, some, within)) (omega (arith, begun, ends, few)))
          (omega (arith, fits, begun, ends, few)) creator token (q - first) delete next job.polls talk h late m.made (omega (arith, high, within, blocks)) a o r
          (λ ts h2 longer asked2 over2 left2 one.
          later first last (q + total (longest_run job.to q (last - q))) token id parts (one_write done) go_on more_steps ts h2
          (omega (arith, begun)) (omega (arith, fits, high)) (omega (arith, more, enough)) ends within few (omega (arith, late, longer)) (omega (arith, s))
          (midway-on first last q token id parts (length h) (length h2) done begun some ends within longer m one)
          (subst (λ x. AreAsked (writing job token go_on (one_write done) x (writes_from left job.to (q + total (longest_run job.to q (last - q))) last)) ts) offset asked2)
          (subst (λ x. after (writing job token go_on (one_write done) x (writes_from left job.to (q + total (longest_run job.to q (last - q))) last)) ts ≡ Ends outcome) offset over2)
          left2 k)

  -- a token was made of the next blocks
  midway-first : (place : ℕ) (token : List ℕ) (id h : ℕ) (done : Copied) → place ≤ total job.from → SoFar job v (length w.history) place done
      → HasToken v (length w.history) job.source id (ranges_at job place) h token
      → Midway job v (length w.history) place (place_behind job place) place token id (ranges_at job place) h (one_token done)
  midway-first place token id h done within s t =
      let ranges = ranges_at job place in
      let d : Placed = record { place = length t.front; entry = t.e } in
      let items = map (held (past_of v.config job.source t.front)) (blocks_of ranges) in
      let earlier = flat_map (rod_of v) s.populates in
      let named : blocks_in d ≡ blocks_of ranges = ap (λ a. blocks_of (ranges_of a)) t.asks in
      let rod : rod_of v d ≡ items =
      ap (λ u. map (held (past_at v.config u v.history (length t.front))) (blocks_in d)) t.on_unit
      ∙ ap (λ l. map (held (past_of v.config job.source l)) (blocks_in d)) (take-whole t.front (t.e ∷ t.behind) v.history t.whole)
      ∙ ap (map (held (past_of v.config job.source t.front))) named in
      let rods : flat_map (rod_of v) (s.populates ++ d ∷ []) ≡ earlier ++ items = flat-push (rod_of v) s.populates d ∙ ap (λ l. earlier ++ l) rod in
      let from_length = length-blocks_of job.from in
      let size = ap length s.from in
      let taken = length-take-le place (blocks_of job.from) (omega (arith, from_length, within)) in
      let count : length earlier ≡ place = length-rods v s.populates ∙ size ∙ taken in
      let short = length-take place (blocks_of job.to) in
      record {
        populates = s.populates ++ d ∷ [];
        starts = s.starts;
        populated = length-push s.populates d ∙ ap suc s.populated;
        begun = s.begun;
        at_source = Each-append (IsPopulateAt job v (length w.history)) s.populates (d ∷ []) s.at_source
            ((record { late = t.late; at = at-whole t.front t.behind v.history t.e t.whole; actor = t.actor; on_unit = t.on_unit }, ap is_populate t.asks), tt);
        at_target = s.at_target;
        from = flat-push blocks_in s.populates d ∙ ap (λ l. l ++ blocks_in d) s.from ∙ ap (λ l. take place (blocks_of job.from) ++ l) (named ∙ run-blocks job.from place part_limit)
            ∙ take-add place (total ranges) (blocks_of job.from);
        written = s.written ∙ sym (ap (paired (take place (blocks_of job.to))) rods ∙ paired-short (take place (blocks_of job.to)) earlier items (omega (arith, short, count)));
        made = t;
        earlier = earlier;
        rods = rods;
        count = count;
      }

  -- all parts
  copy-all : (left place : ℕ) (done : Copied) (talk : List Talked) (h : List Entry) → place ≤ total job.from → total job.from - place ≤ left → length w.history ≤ length h
      → next_step done + steps_in (parts_from left job place) ≤ 2 ^ 32
      → SoFar job v (length w.history) place done → AreAsked (copying job done (parts_from left job place)) talk → after (copying job done (parts_from left job place)) talk ≡ Ends outcome
      → Remains v h talk → Copies job outcome w v
  copy-all zero place done talk h within enough late steps s asked over r =
      by-outcome job w v outcome (Ok done) talk asked over (has-copied job w v rest whole place done to same (omega (arith, enough)) s)
  copy-all (suc left) place done talk h within enough late steps s asked over r = go (nat_lt place (total job.from)) refl steps asked over (copy-all left)
    where
      go : (t : Bool) → nat_lt place (total job.from) ≡ t
          → next_step done + steps_in (cond t (part_at job place ∷ parts_from left job (place_behind job place)) []) ≤ 2 ^ 32
          → AreAsked (copying job done (cond t (part_at job place ∷ parts_from left job (place_behind job place)) [])) talk
          → after (copying job done (cond t (part_at job place ∷ parts_from left job (place_behind job place)) [])) talk ≡ Ends outcome
          → ((place : ℕ) (done : Copied) (talk : List Talked) (h : List Entry) → place ≤ total job.from → total job.from - place ≤ left → length w.history ≤ length h
          → next_step done + steps_in (parts_from left job place) ≤ 2 ^ 32
          → SoFar job v (length w.history) place done → AreAsked (copying job done (parts_from left job place)) talk → after (copying job done (parts_from left job place)) talk ≡ Ends outcome
          → Remains v h talk → Copies job outcome w v)
          → Copies job outcome w v
      go false is st a o later = by-outcome job w v outcome (Ok done) talk a o (has-copied job w v rest whole place done to same (ltb-false place (total job.from) is) s)
      go true is st a o later =
          let ranges = ranges_at job place in
          let some = ltb-true place (total job.from) is in
          let limits = run-longest job.from place part_limit within in
          let fits = limits.within in
          let there = limits.there in
          let more = run-some job.from place part_limit some (omega arith) in
          let behind = place_behind job place in
          populate-on job w v outcome (length w.history) job.source (next_step done) ranges (omega (arith, st)) (may-name job.from place part_limit from within (omega arith)) fits
          (λ token. writing job token (λ so_far. copying job so_far (parts_from left job behind)) (one_token done) 0 (part_at job place).writes) talk h late a o r
          (λ token ts h2 longer asked2 over2 left2 t.
          let none : 0 ≡ place - place = omega arith in
          write-all (total ranges) place behind place token (next_step done) ranges (one_token done) (λ so_far. copying job so_far (parts_from left job behind)) (steps_in (parts_from left job behind)) ts h2
          (omega arith) (omega arith) (omega arith) refl (omega (arith, there, same)) fits (omega (arith, late, longer)) (omega (arith, st))
          (midway-first place token (next_step done) (length h2) done within s t)
          (subst (λ x. AreAsked (writing job token (λ so_far. copying job so_far (parts_from left job behind)) (one_token done) x (part_at job place).writes) ts) none asked2)
          (subst (λ x. after (writing job token (λ so_far. copying job so_far (parts_from left job behind)) (one_token done) x (part_at job place).writes) ts ≡ Ends outcome) none over2)
          left2
          (λ so_far ts3 h3 late3 steps3 asked3 over3 left3 s3.
          later behind so_far ts3 h3 (omega (arith, there)) (omega (arith, enough, more)) late3 steps3 s3 asked3 over3 left3))

  -- the whole copy
  pub copied-whole : (talk : List Talked) → steps_in (parts job) ≤ 1_000_000 → AreAsked (rule job) talk → after (rule job) talk ≡ Ends outcome → Remains v w.history talk → Copies job outcome w v
  copied-whole talk few asked over r =
      copy-all (total job.from) 0 (record { populates = 0; writes = 0 }) talk w.history (omega arith) (omega arith) (omega arith) (omega (arith, few))
      (record { populates = []; starts = []; populated = refl; begun = refl; at_source = tt; at_target = tt; from = refl; written = refl }) asked over r

-- where a copy was asked of units that tell what they do, they tell no bad data, and at its end it is done
pub copies-there : (job : CopyJob) (w v : World) (outcome : Result Copied CopyFault) (talk : List Talked) → IsLegal v.config v.history → AreExtents job.from → AreExtents job.to
    → total job.to ≡ total job.from → total job.from ≤ 4_294_967_296 → job.source < 2 ^ 16 → IsRuled (rule job) talk outcome → Passed w talk v → Copies job outcome w v
copies-there job w v outcome talk legal from to same few creator ruled passed = go ruled.ended
  where
    l : (w.config ≡ v.config) × (w.nexus ≡ v.nexus) × Longer w.history v.history
    l = passed-longer w v talk passed

    go : EndsSo (after (rule job) talk) outcome → Copies job outcome w v
    go (inl wanted) = subst (λ r. Copies job r w v) (sym wanted) tt
    go (inr is) =
        copied-whole job w v outcome legal from to same creator l.2.0 l.2.1 talk (steps-few job from to few same) ruled.asked is
        (record { u = w; history = refl; config = l.0; nexus = l.1; passed = passed })
