use Rattle.std.proofs.Common.{◌≡◌, ◌≤◌, ℕ, ◌∙◌, ◌+◌, ◌-◌, ◌∷◌, [], ◌++◌, ap, sym, subst, arith, append_assoc, refl}
use Rattle.lba_ranges.specs.Denoted.{row}
use Rattle.lba_ranges.specs.Writings.{paired, after, mapped_below}
use Rattle.lba_ranges.specs.HeldBlocks.{filled}
use Rattle.lba_ranges.proofs.PublicLaws.{mapped-same}
use Rattle.lun_extents.specs.Extents.{Extents, stored, held_in}
use Rattle.lun_extents.specs.inner.Extents.{AreExtents}
use Rattle.lun_extents.specs.inner.Runs.{IsClear}
use Rattle.lun_extents.proofs.Clear.{IsSetUpTo, clear-alone, clear-unmapped, next-first, set-further, set-with, taken-back}
use Rattle.lun_extents.proofs.Nearest.{same-below}
use Rattle.lun_extents.proofs.unit.ExtentUnit.set_in_clear.Goals as goal

-- what is set before the next run
set-before : (c : goal.After-set_alone-arg-1) → IsSetUpTo c.args.self.now.blocks c.args.self.now.block_length c.args.self.now.entries c.loop-run.self.entries c.args.range c.loop-run.at c.loop-run.yielded
    (c.in-Some.run' ∷ c.next.new.self.rest.items)
set-before c = set-with c.args.self.now.blocks c.args.self.now.block_length c.args.self.now.entries c.loop-run.self.entries c.args.range c.loop-run.at c.loop-run.yielded
    c.loop-run.run-iterator.rest.items c.in-Some.run' c.next.new.self.rest.items c.loop-run.invariant.4 (c.in-Some.ensures.steps.0)

-- where nothing stands as yet
clear-there : (c : goal.After-set_alone-arg-1) → IsClear c.loop-run.self.entries c.in-Some.run'.range.lba (c.args.range.lba + c.args.range.count - c.loop-run.at) × (c.in-Some.run'.range.count ≤ c.args.range.lba + c.args.range.count - c.loop-run.at)
clear-there c =
    let is = set-before c in
    let first = next-first c.args.self.now.blocks c.args.self.now.block_length c.args.self.now.entries c.loop-run.self.entries c.args.range c.loop-run.at c.loop-run.yielded c.in-Some.run' c.next.new.self.rest.items is in
    (subst (λ k. IsClear c.loop-run.self.entries k (c.args.range.lba + c.args.range.count - c.loop-run.at)) (sym first.0) is.clear, first.1)

pub set_alone-requires-clause-alone : goal.set_alone-requires-clause-alone
set_alone-requires-clause-alone c =
    let r = c.in-Some.run'.range in
    clear-alone c.loop-run.self.entries r.lba (c.args.range.lba + c.args.range.count - c.loop-run.at) r.count (clear-there c).0 (set-before c).runs.0 (clear-there c).1

pub set_alone-requires-clause-before : goal.set_alone-requires-clause-before
set_alone-requires-clause-before c =
    let r = c.in-Some.run'.range in
    clear-unmapped c.loop-run.self.entries c.loop-run.self.block_length r.lba (c.args.range.lba + c.args.range.count - c.loop-run.at) r.count (clear-there c).0 (clear-there c).1

-- at a failure all extents are as they were
same-stored : (c : goal.After-drop-run-iterator) → (b : ℕ) → stored c.take_out.new.map.entries b ≡ stored c.args.self.now.entries b
same-stored c b =
    let now : c.self-in-loop-run.inside.extents.entries ≡ c.loop-run.self.entries = ap (λ (v : Extents). v.entries) c.self-in-loop-run.view_is ∙ ap (λ (v : Extents). v.entries) (c.in-Err.ensures.same) in
    taken-back c.args.self.now.entries c.loop-run.self.entries c.take_out.new.map.entries c.args.range c.loop-run.at
    c.requires.clear c.loop-run.invariant.4.low c.loop-run.invariant.4.high c.loop-run.invariant.4.below c.loop-run.invariant.4.above
    c.take_out.ensures.inside (λ x low. c.take_out.ensures.below x low ∙ ap (λ l. stored l x) now) (λ x high. c.take_out.ensures.above x high ∙ ap (λ l. stored l x) now) b

-- so each block holds what it held
same-held : (c : goal.After-drop-run-iterator) → (b : ℕ) → held_in c.args.self.now.block_length c.take_out.new.map.entries b ≡ held_in c.args.self.now.block_length c.args.self.now.entries b
same-held c b = same-below c.args.self.now.block_length (stored c.args.self.now.entries) (stored c.take_out.new.map.entries) b 0 (λ j low. same-stored c j)

blocks-are : (c : goal.After-drop-run-iterator) → c.self-in-loop-run.inside.blocks ≡ c.args.self.now.blocks
blocks-are c = ap (λ (v : Extents). v.blocks) c.self-in-loop-run.view_is ∙ c.in-Err.ensures.blocks ∙ c.loop-run.invariant.2

length-is : (c : goal.After-drop-run-iterator) → c.self-in-loop-run.inside.block_length ≡ c.args.self.now.block_length
length-is c = ap (λ (v : Extents). v.block_length) c.self-in-loop-run.view_is ∙ c.in-Err.ensures.length ∙ c.loop-run.invariant.3

pub invariant_of-self : goal.invariant_of-self
invariant_of-self c =
    let blocks = blocks-are c in
    let size = length-is c in
    let extents : AreExtents c.args.self.now.blocks c.args.self.now.block_length c.args.self.now.entries =
    subst (λ (v : Extents). AreExtents v.blocks v.block_length v.entries) c.self.view_is c.self.invariant.0 in
    let counted : c.self.inside.mapped ≡ mapped_below c.args.self.now.blocks (held_in c.args.self.now.block_length c.args.self.now.entries) =
    subst (λ (v : Extents). c.self.inside.mapped ≡ mapped_below v.blocks (held_in v.block_length v.entries)) c.self.view_is c.self.invariant.1 in
    let now : AreExtents c.args.self.now.blocks c.args.self.now.block_length c.take_out.new.map.entries = record {
      full = λ b p is. extents.full b p (sym (same-stored c b) ∙ is);
      within = λ b p is. extents.within b p (sym (same-stored c b) ∙ is);
    } in
    let same = mapped-same c.args.self.now.blocks (held_in c.args.self.now.block_length c.args.self.now.entries) (held_in c.args.self.now.block_length c.take_out.new.map.entries) (λ b low. sym (same-held c b)) in (
      subst (λ n. AreExtents n c.self-in-loop-run.inside.block_length c.take_out.new.map.entries) (sym blocks)
          (subst (λ n. AreExtents c.args.self.now.blocks n c.take_out.new.map.entries) (sym size) now),
      subst (λ n. c.self.inside.mapped ≡ mapped_below n (held_in c.self-in-loop-run.inside.block_length c.take_out.new.map.entries)) (sym blocks)
          (subst (λ n. c.self.inside.mapped ≡ mapped_below c.args.self.now.blocks (held_in n c.take_out.new.map.entries)) (sym size) (counted ∙ same)),
    )

pub returns-in-Err-clause-same : goal.returns-in-Err-clause-same
returns-in-Err-clause-same c = record {
  blocks = blocks-are c;
  block_length = length-is c;
  held = λ b. ap (λ n. held_in n c.take_out.new.map.entries b) (length-is c) ∙ same-held c b;
}

pub overflow_add-at : goal.overflow_add-at
overflow_add-at c =
    let is = set-with c.args.self.now.blocks c.args.self.now.block_length c.args.self.now.entries c.loop-run.self.entries c.args.range c.loop-run.at c.loop-run.yielded
    c.loop-run.run-iterator.rest.items c.in-Some.run' c.next.new.self.rest.items c.loop-run.invariant.4 (c.in-Some.ensures.steps.0) in
    let first = next-first c.args.self.now.blocks c.args.self.now.block_length c.args.self.now.entries c.loop-run.self.entries c.args.range c.loop-run.at c.loop-run.yielded c.in-Some.run' c.next.new.self.rest.items is in
    let few = first.1 in
    let high = is.high in
    let within = c.requires.within in
    let n = c.from-at.ensures in
    let blocks = ap (λ (v : Extents). v.blocks) c.self.view_is in
    omega arith

pub loop-run-preserved : goal.loop-run-preserved
loop-run-preserved c =
    let is = set-with c.args.self.now.blocks c.args.self.now.block_length c.args.self.now.entries c.loop-run.self.entries c.args.range c.loop-run.at c.loop-run.yielded
    c.loop-run.run-iterator.rest.items c.in-Some.run' c.next.new.self.rest.items c.loop-run.invariant.4 (c.in-Some.ensures.steps.0) in
    let set = c.in_default.ensures in
    let size = c.loop-run.invariant.3 in
    let length = c.set_alone.ensures.length ∙ size in
    let r = c.in-Some.run' in
    let held : (b : ℕ) → held_in c.args.self.now.block_length c.set_alone.new.self.entries b
    ≡ after (paired (row r.range.lba r.range.count) (filled c.args.self.now.block_length r.range.count r.fill)) b (held_in c.args.self.now.block_length c.loop-run.self.entries b) =
    λ b. ap (λ n. held_in n c.set_alone.new.self.entries b) (sym length) ∙ set.held b
    ∙ ap (λ n. after (paired (row r.range.lba r.range.count) (filled n r.range.count r.fill)) b (held_in n c.loop-run.self.entries b)) size in (
      tt,
      tt,
      c.set_alone.ensures.blocks ∙ c.loop-run.invariant.2,
      c.set_alone.ensures.length ∙ c.loop-run.invariant.3,
      subst (λ n. IsSetUpTo c.args.self.now.blocks c.args.self.now.block_length c.args.self.now.entries c.set_alone.new.self.entries c.args.range (c.loop-run.at + n)
          (c.loop-run.yielded ++ c.in-Some.run' ∷ []) c.next.new.self.rest.items) (sym c.from-at.ensures)
          (set-further c.args.self.now.blocks c.args.self.now.block_length c.args.self.now.entries c.loop-run.self.entries c.set_alone.new.self.entries c.args.range c.loop-run.at
          c.loop-run.yielded c.in-Some.run' c.next.new.self.rest.items (record { count = c.in-Some.run'.range.count; fill = c.in-Some.run'.fill }) is set.start refl set.others held),
      append_assoc c.loop-run.yielded (c.in-Some.run' ∷ []) c.next.new.self.rest.items ∙ ap (λ l. c.loop-run.yielded ++ l) (sym (c.in-Some.ensures.steps.0)) ∙ c.loop-run.invariant.5,
    )
