use Rattle.std.proofs.Common.{◌≡◌, ◌+◌, ◌<◌, ◌++◌, ◌∙◌, ◌^◌, length, take, ap, sym, arith}
use Rattle.std.specs.Prelude.{slice_range}
use Rattle.std.proofs.lemmas.List.Sums.{sum_by_push}
use Rattle.lba_ranges.specs.Denoted.{row, total}
use Rattle.lba_ranges.specs.declared.ranges.Range.{Range}
use Rattle.lba_ranges.proofs.PublicLaws.{within-at, total-get, take-get, blocks_of-get}
use Rattle.lun_extents.proofs.Planned.{front-more}
use Rattle.lun_extents.proofs.runs.runs_of.Goals as goal

pub push_runs-requires-clause-numbers : goal.push_runs-requires-clause-numbers
push_runs-requires-clause-numbers c =
    let fits = within-at c.args.blocks c.args.ranges.now c.loop-index.index c.at-range.result c.requires.within c.at-range.ensures in
    omega arith

pub push_runs-requires-clause-list : goal.push_runs-requires-clause-list
push_runs-requires-clause-list c =
    let all = total-get c.args.ranges.now c.loop-index.index c.at-range.result c.at-range.ensures in
    omega (arith, c.requires.total, c.loop-index.invariant.0)

pub overflow_add-from : goal.overflow_add-from
overflow_add-from c =
    let all = total-get c.args.ranges.now c.loop-index.index c.at-range.result c.at-range.ensures in
    let few : length c.args.list.now.items < 2 ^ 64 = omega (arith, c.blocks-all.ensures.count) in
    let sum : c.loop-index.from + c.from-from.result < 2 ^ 64 = omega (arith, c.requires.total, c.loop-index.invariant.0) in
    omega arith

pub loop-index-preserved : goal.loop-index-preserved
loop-index-preserved c =
    let rs = c.args.ranges.now in
    let k = c.loop-index.index in
    let r = c.at-range.result in
    let xs = c.args.list.now.items in
    let from = c.loop-index.from in
    let count = c.from-from.ensures in
    let fits = within-at c.args.blocks rs k r c.requires.within c.at-range.ensures in
    let next : total (take (k + 1) rs) ≡ total (take k rs) + r.count = ap total (take-get rs k r c.at-range.ensures) ∙ sum_by_push (λ (q : Range). q.count) (take k rs) r in (
      omega (arith, c.loop-index.invariant.0),
      c.in_ok-push_runs.ensures.blocks ∙ ap (λ l. l ++ row r.lba r.count) c.loop-index.invariant.1 ∙ sym (blocks_of-get rs k r c.at-range.ensures),
      c.in_ok-push_runs.ensures.items ∙ ap (λ l. l ++ slice_range xs from (from + r.count)) c.loop-index.invariant.2 ∙ sym (front-more xs from r.count) ∙ ap (λ n. take (from + n) xs) (sym count),
      c.in_ok-push_runs.ensures.runs c.args.blocks fits c.loop-index.invariant.3,
    )
