use Rattle.std.proofs.Common.{◌≡◌, ◌+◌, ◌<◌, ◌≤◌, [], ◌∷◌, arith, length, get_or, subst, ℕ}
use Rattle.std.proofs.lemmas.Option.{slice_get-get_or, slice_get_past}
use Rattle.lba_ranges.specs.declared.ranges.Range.{Range}
use Rattle.lba_ranges.specs.Denoted.{total}
use Rattle.copy_plan.specs.Plans.{Cursor, ranges_between}
use Rattle.copy_plan.proofs.Overlaps.{no_range}
use Rattle.copy_plan.proofs.Between.{between-empty}
use Rattle.copy_plan.proofs.Cursors.{at-inside, at-next, at-blocks, at-end, at-within}
use Rattle.copy_plan.proofs.cursor.ExtentCursor.next_range.Goals as goal

-- so many blocks of an extent
abbrev part_from : Range → ℕ → ℕ → Range
part_from extent passed count = record { lba = extent.lba + passed; count = count }

pub overflow_sub-left : goal.overflow_sub-left
overflow_sub-left c =
    let extents = c.self.inside.extents.now in
    let within : c.self.inside.index < length extents = omega arith in
    let there = slice_get-get_or extents c.self.inside.index no_range within in
    let inside = c.self.invariant.inside _ there in
    omega arith

pub invariant_of-self : goal.invariant_of-self
invariant_of-self c =
    let extents = c.self.inside.extents.now in
    let within : c.self.inside.index < length extents = omega arith in
    let there = slice_get-get_or extents c.self.inside.index no_range within in
    let inside = c.self.invariant.inside _ there in
    at-next _ _ _ _ _ _ c.self.invariant there (omega arith)

pub invariant_of-self-else-count-left : goal.invariant_of-self-else-count-left
invariant_of-self-else-count-left c =
    let extents = c.self.inside.extents.now in
    let within : c.self.inside.index < length extents = omega arith in
    let there = slice_get-get_or extents c.self.inside.index no_range within in
    let inside = c.self.invariant.inside _ there in
    rw c.from-3.ensures (at-inside _ _ _ _ _ _ c.self.invariant there (omega arith))

pub returns-then-self-clause-none : goal.returns-then-self-clause-none
returns-then-self-clause-none c =
    let extents = c.self.inside.extents.now in
    let past = slice_get_past extents c.self.inside.index (omega arith) in
    subst (λ (s : Cursor). ranges_between s.extents s.place (s.place + c.args.most) ≡ []) c.self.view_is
    (at-end extents c.self.inside.index c.self.inside.passed c.self.inside.place c.args.most c.self.invariant past)

pub returns-then-count-eq0-clause-none : goal.returns-then-count-eq0-clause-none
returns-then-count-eq0-clause-none c =
    let extents = c.self.inside.extents.now in
    let within : c.self.inside.index < length extents = omega arith in
    let there = slice_get-get_or extents c.self.inside.index no_range within in
    let inside = c.self.invariant.inside _ there in
    between-empty c.args.self.now.extents c.args.self.now.place _ (omega arith)

pub returns-then-count-left-clause-next : goal.returns-then-count-left-clause-next
returns-then-count-left-clause-next c =
    let extents = c.self.inside.extents.now in
    let within : c.self.inside.index < length extents = omega arith in
    let there = slice_get-get_or extents c.self.inside.index no_range within in
    let inside = c.self.invariant.inside _ there in
    let next = at-blocks extents c.self.inside.index c.self.inside.passed c.self.inside.place c.args.most c.min-count.result _ c.self.invariant there (omega arith) (omega arith) in
    rw c.from-2.ensures (subst (λ (s : Cursor). ranges_between s.extents s.place (s.place + c.args.most) ≡ part_from (get_or extents c.self.inside.index no_range) c.self.inside.passed c.min-count.result ∷ ranges_between s.extents (s.place + c.min-count.result) (s.place + c.args.most)) c.self.view_is next)

pub returns-else-count-left-clause-next : goal.returns-else-count-left-clause-next
returns-else-count-left-clause-next c =
    let extents = c.self.inside.extents.now in
    let within : c.self.inside.index < length extents = omega arith in
    let there = slice_get-get_or extents c.self.inside.index no_range within in
    let inside = c.self.invariant.inside _ there in
    let next = at-blocks extents c.self.inside.index c.self.inside.passed c.self.inside.place c.args.most c.min-count.result _ c.self.invariant there (omega arith) (omega arith) in
    rw c.from-2.ensures (subst (λ (s : Cursor). ranges_between s.extents s.place (s.place + c.args.most) ≡ part_from (get_or extents c.self.inside.index no_range) c.self.inside.passed c.min-count.result ∷ ranges_between s.extents (s.place + c.min-count.result) (s.place + c.args.most)) c.self.view_is next)

pub returns-then-count-eq0-clause-there : goal.returns-then-count-eq0-clause-there
returns-then-count-eq0-clause-there c =
    subst (λ (s : Cursor). s.place ≤ total s.extents) c.self.view_is (at-within _ _ _ _ c.self.invariant)
