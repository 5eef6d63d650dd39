use Rattle.std.proofs.Common.{◌≡◌, ◌∙◌, ◌+◌, ap, subst, arith}
use Rattle.std.specs.Prelude.{true, IsSome}
use Rattle.lba_ranges.specs.Denoted.{is_within}
use Rattle.lba_ranges.proofs.PublicLaws.{within-at}
use Rattle.lun_extents.specs.Extents.{Extents, stored}
use Rattle.lun_extents.proofs.Planned.{splits-more}
use Rattle.lun_extents.proofs.unit.ExtentUnit.split_at_ranges.Goals as goal

pub overflow_add-end : goal.overflow_add-end
overflow_add-end c =
    let within : is_within c.self.inside.blocks c.args.ranges.now ≡ true = ap (λ (v : Extents). is_within v.blocks c.args.ranges.now) c.self.view_is ∙ c.requires in
    let fits = within-at c.self.inside.blocks c.args.ranges.now c.loop-index.index c.at-range.result within c.at-range.ensures in
    omega arith

pub split-requires-clause-within : goal.split-requires-clause-within
split-requires-clause-within c =
    let within : is_within c.self.inside.blocks c.args.ranges.now ≡ true = ap (λ (v : Extents). is_within v.blocks c.args.ranges.now) c.self.view_is ∙ c.requires in
    let fits = within-at c.self.inside.blocks c.args.ranges.now c.loop-index.index c.at-range.result within c.at-range.ensures in
    omega arith

pub split-requires-in-loop-index-clause-within : goal.split-requires-in-loop-index-clause-within
split-requires-in-loop-index-clause-within c =
    let within : is_within c.self.inside.blocks c.args.ranges.now ≡ true = ap (λ (v : Extents). is_within v.blocks c.args.ranges.now) c.self.view_is ∙ c.requires in
    let fits = within-at c.self.inside.blocks c.args.ranges.now c.loop-index.index c.at-range.result within c.at-range.ensures in
    omega arith

pub loop-index-preserved : goal.loop-index-preserved
loop-index-preserved c =
    let r = c.at-range.result in
    let end : r.lba + c.from.result ≡ r.lba + r.count = ap (λ n. r.lba + n) c.from.ensures in (
      c.loop-index.invariant.0,
      c.loop-index.invariant.1,
      c.loop-index.invariant.2,
      c.in_ok-split-2.ensures.extents,
      λ b. c.in_ok-split-2.ensures.held b ∙ c.in_ok-split.ensures.held b ∙ c.loop-index.invariant.4 b,
      splits-more c.loop-index.self-inside.extents.entries c.split-in-loop-index.new.map.entries c.args.ranges.now c.loop-index.index r c.loop-index.invariant.5 c.at-range.ensures
          (λ b some. c.in_ok-split-2.ensures.kept b (c.in_ok-split.ensures.kept b some))
          (c.in_ok-split-2.ensures.kept r.lba c.in_ok-split.ensures.begins)
          (subst (λ n. IsSome (stored c.split-in-loop-index.new.map.entries n)) end c.in_ok-split-2.ensures.begins),
    )
