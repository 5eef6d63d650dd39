use Rattle.std.proofs.Common.{◌≡◌, ◌∙◌, ◌+◌, ap, sym, subst, arith, take}
use Rattle.std.specs.Prelude.{IsSome}
use Rattle.std.proofs.lemmas.List.{take_all}
use Rattle.lba_ranges.specs.declared.ranges.Range.{Range}
use Rattle.lun_extents.specs.Extents.{Extents, stored}
use Rattle.lun_extents.specs.inner.Runs.{AreRuns, ranges_of, IsSplitAt}
use Rattle.lun_extents.proofs.Planned.{splits-more, runs-at, ranges-at, length-ranges}
use Rattle.lun_extents.proofs.unit.ExtentUnit.split_at_fillings.Goals as goal

pub overflow_add-end : goal.overflow_add-end
overflow_add-end c =
    let all : AreRuns c.self.inside.blocks c.self.inside.block_length c.args.runs.now = subst (λ (v : Extents). AreRuns v.blocks v.block_length c.args.runs.now) (sym c.self.view_is) c.requires in
    let fits = runs-at c.self.inside.blocks c.self.inside.block_length c.args.runs.now c.loop-run.run-index c.run-item.result all c.loop-run-test.true c.run-item.is in
    omega arith

pub split-requires-clause-within : goal.split-requires-clause-within
split-requires-clause-within c =
    let all : AreRuns c.self.inside.blocks c.self.inside.block_length c.args.runs.now = subst (λ (v : Extents). AreRuns v.blocks v.block_length c.args.runs.now) (sym c.self.view_is) c.requires in
    let fits = runs-at c.self.inside.blocks c.self.inside.block_length c.args.runs.now c.loop-run.run-index c.run-item.result all c.loop-run-test.true c.run-item.is in
    omega arith

pub split-requires-in-loop-run-clause-within : goal.split-requires-in-loop-run-clause-within
split-requires-in-loop-run-clause-within c =
    let all : AreRuns c.self.inside.blocks c.self.inside.block_length c.args.runs.now = subst (λ (v : Extents). AreRuns v.blocks v.block_length c.args.runs.now) (sym c.self.view_is) c.requires in
    let fits = runs-at c.self.inside.blocks c.self.inside.block_length c.args.runs.now c.loop-run.run-index c.run-item.result all c.loop-run-test.true c.run-item.is in
    omega arith

pub loop-run-preserved : goal.loop-run-preserved
loop-run-preserved c =
    let r : Range = c.run-item.result.range in
    let is = ranges-at c.args.runs.now c.loop-run.run-index c.run-item.result c.loop-run-test.true c.run-item.is in
    let end : r.lba + c.from.result ≡ r.lba + r.count = ap (λ n. r.lba + n) c.from.ensures in (
      c.loop-run.invariant.0,
      c.loop-run.invariant.1,
      c.loop-run.invariant.2,
      c.in_ok-split-2.ensures.extents,
      λ b. c.in_ok-split-2.ensures.held b ∙ c.in_ok-split.ensures.held b ∙ c.loop-run.invariant.4 b,
      splits-more c.loop-run.self-inside.extents.entries c.split-in-loop-run.new.map.entries (ranges_of c.args.runs.now) c.loop-run.run-index r c.loop-run.invariant.5 is
          (λ b some. c.in_ok-split-2.ensures.kept b (c.in_ok-split.ensures.kept b some))
          (c.in_ok-split-2.ensures.kept r.lba c.in_ok-split.ensures.begins)
          (subst (λ n. IsSome (stored c.split-in-loop-run.new.map.entries n)) end c.in_ok-split-2.ensures.begins),
    )

pub returns-clause-splits : goal.returns-clause-splits
returns-clause-splits c =
    let long = length-ranges c.args.runs.now in
    let all : take c.loop-run.run-index (ranges_of c.args.runs.now) ≡ ranges_of c.args.runs.now = take_all c.loop-run.run-index (ranges_of c.args.runs.now) (omega arith) in
    subst (λ rs. IsSplitAt c.loop-run.self-inside.extents.entries rs) all c.loop-run.invariant.5
