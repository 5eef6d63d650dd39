use Rattle.std.proofs.Common.{◌≡◌, ◌+◌, ◌-◌, [], ◌∷◌, ◌++◌, ℕ, length, arith, length-append, ap, ◌∙◌}
use Rattle.lba_ranges.specs.Denoted.{total}
use Rattle.copy_plan.specs.Plans.{Cursor, part_limit, IsLongestRun}
use Rattle.copy_plan.proofs.Cuts.{ahead-more, cut-push, greedy-push, run-part, run-none}
use Rattle.copy_plan.proofs.planning.plan.Goals as goal

pub loop-cursor-preserved : goal.loop-cursor-preserved
loop-cursor-preserved c =
    let from = c.args.job.now.from in
    let place = c.loop-cursor.cursor.place in
    let ends = c.loop-cursor.ends in
    let n = c.pass.result in
    let run : IsLongestRun from place part_limit n = rw c.loop-cursor.invariant.extents at c.pass.ensures.run in
    let part = run-part from place n run c.loop-cursor-test.true in
    let there = run.there in
    let some = part.some in
    let length_is : place + n - place ≡ n = omega arith in
    let stands : c.pass.new.self.place ≡ place + n = ap (λ (s : Cursor). s.place) c.pass.ensures.passed in
    let list : c.pass.new.self.extents ≡ from = ap (λ (s : Cursor). s.extents) c.pass.ensures.passed ∙ c.loop-cursor.invariant.extents in
    let pushed : c.push.new.self ≡ ends ++ (place + n) ∷ [] = c.in_ok-push.ensures.ok ∙ ap (λ (e : ℕ). ends ++ e ∷ []) (c.place.ensures.place ∙ stands) in
    let more : length (ends ++ (place + n) ∷ []) ≡ length ends + 1 = length-append ends ((place + n) ∷ []) in
    rw (stands, pushed) (record {
      extents = list;
      within = there;
      cut = cut-push from 0 place (place + n) ends c.loop-cursor.invariant.cut part;
      greedy = greedy-push from 0 place (place + n) ends c.loop-cursor.invariant.cut c.loop-cursor.invariant.greedy (rw length_is run);
      ahead = λ other plan. rw more (ahead-more from other (length ends) place n (c.loop-cursor.invariant.ahead other plan) run (omega arith));
    })

pub returns-clause-plan : goal.returns-clause-plan
returns-clause-plan c =
    let from = c.args.job.now.from in
    let place = c.loop-cursor.cursor.place in
    let run : IsLongestRun from place part_limit c.pass.result = rw c.loop-cursor.invariant.extents at c.pass.ensures.run in
    let ended = run-none from place part_limit c.pass.result run (omega arith) (omega arith) in
    let within = c.loop-cursor.invariant.within in
    let same : place ≡ total from = omega arith in
    rw (← same) c.loop-cursor.invariant.cut
