use Rattle.std.proofs.Common.{◌≡◌, List, [], ◌∷◌, suc, ◌+◌, ◌-◌, ◌≤◌, ◌++◌, length, take, arith, sym, ap, ◌∙◌, append-nil, append_assoc, length-append}
use Rattle.lba_ranges.specs.declared.ranges.Range.{Range}
use Rattle.lba_ranges.specs.Denoted.{total, blocks_of}
use Rattle.copy_plan.specs.Plans.{Cursor, ranges_between, longest_run}
use Rattle.std.proofs.lemmas.List.Sums.{sum_by_push}
use Rattle.copy_plan.proofs.Runs.{take-next, take-none, run-longest, run-between, blocks-between}
use Rattle.copy_plan.proofs.cursor.ExtentCursor.next_ranges.Goals as goal
use Rattle.copy_plan.proofs.cursor.ExtentCursor.next_ranges.Goals.{else-loop-test, then-loop-test+in-None}

pub loop-preserved : goal.loop-preserved
loop-preserved c =
    let ensures = c.in-Some.ensures in
    let was = c.loop.self in
    let range = c.in-Some.range in
    let left = c.loop.left in
    let k = 64 - (c.loop.counter + 1) in
    let one : 64 - c.loop.counter ≡ suc k = omega arith in
    let taken : c.from-left.result ≡ range.count = c.from-left.ensures in
    let later : List Range = take k (ranges_between was.extents (was.place + range.count) (was.place + range.count + (left - range.count))) in
    let more : take (suc k) (ranges_between was.extents was.place (was.place + left)) ≡ range ∷ later = take-next k was.extents was.place left range ensures.next ensures.within in
    let run : c.loop.room.items ++ take (suc k) (ranges_between was.extents was.place (was.place + left)) ≡ longest_run c.args.self.now.extents c.args.self.now.place c.args.most = rw one at c.loop.invariant.run in
    let added : total (c.loop.room.items ++ range ∷ []) ≡ total c.loop.room.items + range.count = sum_by_push (λ (r : Range). r.count) c.loop.room.items range in
    let longer : length (c.loop.room.items ++ range ∷ []) ≡ length c.loop.room.items + 1 = length-append c.loop.room.items (range ∷ []) in
    rw (ensures.passed, taken, c.append.ensures.added) (record {
      list = c.loop.invariant.list;
      place = omega arith;
      there = λ _. let far : was.place ≤ total c.args.self.now.extents = rw c.loop.invariant.list at ensures.there in omega arith;
      passed = omega arith;
      few = omega arith;
      spare = omega arith;
      run = append_assoc c.loop.room.items (range ∷ []) later ∙ sym (ap (λ l. c.loop.room.items ++ l) more) ∙ run;
    })

-- what the ranges are, and where the cursor stands
abbrev IsDone : goal.Left-loop → Type 0
IsDone c =
    (c.loop-test.ranges ≡ longest_run c.args.self.now.extents c.args.self.now.place c.args.most)
    × (c.loop-test.self.place ≡ c.args.self.now.place + total c.loop-test.ranges)
    × (c.args.self.now.place ≤ total c.args.self.now.extents)

done : (c : goal.Left-loop) → IsDone c
done c =
    elim c.loop-test.branch [
      | else-loop-test w ↦
          let none : 64 - c.loop.counter ≡ 0 = omega arith in
          let run : c.loop.room.items ++ [] ≡ longest_run c.args.self.now.extents c.args.self.now.place c.args.most = rw none at c.loop.invariant.run in
          let there = c.loop.invariant.there (omega arith) in
          (w.ranges-is ∙ sym (append-nil c.loop.room.items) ∙ run, ap (λ (s : Cursor). s.place) w.self-is ∙ c.loop.invariant.passed ∙ ap (λ rs. c.args.self.now.place + total rs) (sym w.ranges-is), there)
      | then-loop-test+in-None w ↦
          let nothing = take-none (64 - c.loop.counter) _ w.in-None.ensures.none in
          let run : c.loop.room.items ++ [] ≡ longest_run c.args.self.now.extents c.args.self.now.place c.args.most = rw nothing at c.loop.invariant.run in
          let far : c.loop.self.place ≤ total c.args.self.now.extents = rw c.loop.invariant.list at w.in-None.ensures.there in
          let stands : c.loop-test.self ≡ c.loop.self = w.self-is ∙ w.in-None.ensures.same in
          (w.ranges-is ∙ sym (append-nil c.loop.room.items) ∙ run, ap (λ (s : Cursor). s.place) stands ∙ c.loop.invariant.passed ∙ ap (λ rs. c.args.self.now.place + total rs) (sym w.ranges-is), omega arith)
    ]

pub returns-clause-run : goal.returns-clause-run
returns-clause-run c = let d = done c in rw d.0 (run-longest _ _ _ d.2)

pub returns-clause-between : goal.returns-clause-between
returns-clause-between c =
    let d = done c in
    d.0 ∙ run-between c.args.self.now.extents c.args.self.now.place c.args.most ∙ ap (λ q. ranges_between c.args.self.now.extents c.args.self.now.place q) (sym (d.1 ∙ ap (λ rs. c.args.self.now.place + total rs) d.0))

pub returns-clause-blocks : goal.returns-clause-blocks
returns-clause-blocks c = ap blocks_of (returns-clause-between c) ∙ blocks-between c.args.self.now.extents c.args.self.now.place c.loop-test.self.place
