use Rattle.std.proofs.Common.{◌≡◌, ◌∷◌, [], ◌++◌, List, ap, sym, subst, refl, append_assoc, ◌∙◌, false}
use Rattle.lba_ranges.specs.HeldBlocks.{filled}
use Rattle.lba_ranges.specs.Denoted.{row, is_overlapping}
use Rattle.lba_ranges.specs.Writings.{Held, paired, after}
use Rattle.lun_extents.specs.declared.runs.Filling.{Filling}
use Rattle.lun_extents.specs.Extents.{held_in}
use Rattle.lun_extents.specs.inner.Runs.{ranges_of, AreRuns, IsSplitAt}
use Rattle.lun_extents.proofs.Planned.{splits-later, apart-later, after-run}
use Rattle.lun_extents.proofs.unit.ExtentUnit.set_runs.Goals as goal

all_runs : (c : goal.After-set_run-arg-1) → AreRuns c.loop-run.self.blocks c.loop-run.self.block_length (c.in-Some.run' ∷ c.next.new.self.rest.items)
all_runs c = subst (λ (l : List Filling). AreRuns c.loop-run.self.blocks c.loop-run.self.block_length l) c.in-Some.ensures.steps.0 c.loop-run.invariant.6

split_there : (c : goal.After-set_run-arg-1) → IsSplitAt c.loop-run.self.entries (ranges_of (c.in-Some.run' ∷ c.next.new.self.rest.items))
split_there c = subst (λ (l : List Filling). IsSplitAt c.loop-run.self.entries (ranges_of l)) c.in-Some.ensures.steps.0 c.loop-run.invariant.5

pub set_run-requires-clause-some : goal.set_run-requires-clause-some
set_run-requires-clause-some c = (all_runs c).0

pub set_run-requires-clause-within : goal.set_run-requires-clause-within
set_run-requires-clause-within c = (all_runs c).1

pub set_run-requires-clause-full : goal.set_run-requires-clause-full
set_run-requires-clause-full c = (all_runs c).2

pub set_run-requires-clause-start : goal.set_run-requires-clause-start
set_run-requires-clause-start c = (split_there c).start 0 c.in-Some.run'.range refl

pub set_run-requires-clause-end : goal.set_run-requires-clause-end
set_run-requires-clause-end c = (split_there c).end 0 c.in-Some.run'.range refl

pub loop-run-preserved : goal.loop-run-preserved
loop-run-preserved c =
    let r = c.in-Some.run' in
    let rest = c.next.new.self.rest.items in
    let size = c.args.self.now.block_length in
    let was = held_in size c.args.self.now.entries in
    let same = c.loop-run.invariant.3 in
    let steps = c.in-Some.ensures.steps.0 in
    let none : is_overlapping (ranges_of (r ∷ rest)) ≡ false = subst (λ (l : List Filling). is_overlapping (ranges_of l) ≡ false) steps c.loop-run.invariant.7 in
    let all = all_runs c.before in (
      tt,
      tt,
      c.set_run.ensures.blocks ∙ c.loop-run.invariant.2,
      c.set_run.ensures.length ∙ c.loop-run.invariant.3,
      λ b. c.set_run.ensures.held b
          ∙ ap (λ n. after (paired (row r.range.lba r.range.count) (filled n r.range.count r.fill)) b (held_in c.loop-run.self.block_length c.loop-run.self.entries b)) same
          ∙ ap (λ (x : Held). after (paired (row r.range.lba r.range.count) (filled size r.range.count r.fill)) b x) (c.loop-run.invariant.4 b)
          ∙ after-run size c.loop-run.yielded r b (was b),
      splits-later c.loop-run.self.blocks c.loop-run.self.block_length c.loop-run.self.entries c.set_run.new.self.entries r rest (split_there c.before) all none c.set_run.ensures.below c.set_run.ensures.above,
      subst (λ n. AreRuns n c.set_run.new.self.block_length rest) (sym c.set_run.ensures.blocks) (subst (λ n. AreRuns c.loop-run.self.blocks n rest) (sym c.set_run.ensures.length) all.3),
      apart-later r rest none,
      append_assoc c.loop-run.yielded (r ∷ []) rest ∙ ap (λ l. c.loop-run.yielded ++ l) (sym steps) ∙ c.loop-run.invariant.8,
    )
