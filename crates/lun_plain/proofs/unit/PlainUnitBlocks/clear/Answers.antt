use Rattle.std.proofs.Common.{◌≡◌, take, ap, sym, ◌∙◌, arith}
use Rattle.std.specs.Prelude.{true}
use Rattle.lba_ranges.specs.Denoted.{row, blocks_of, is_within}
use Rattle.lba_ranges.specs.Writings.{Held, unmapped, after}
use Rattle.lba_ranges.proofs.PublicLaws.{within-at, blocks_of-get, after-append, unmapped-append}
use Rattle.lun_plain.specs.Plain.{Plain, stored}
use Rattle.lun_plain.proofs.PlainLemmas.{plain-clear}
use Rattle.lun_plain.proofs.unit.PlainUnitBlocks.clear.Goals as goal

pub invariant_of-self : goal.invariant_of-self
invariant_of-self c =
    rw (c.loop-index.invariant.0, c.loop-index.invariant.1)
    (plain-clear c.self.inside.blocks c.self.inside.block_length (blocks_of (take c.loop-index.index c.args.ranges.now)) c.self.inside.held.entries c.loop-index.self-inside.held.entries c.self.invariant c.loop-index.invariant.2)

pub clear_row-requires : goal.clear_row-requires
clear_row-requires c =
    let within : is_within c.self.inside.blocks c.args.ranges.now ≡ true = ap (λ (v : Plain). is_within v.blocks c.args.ranges.now) c.self.view_is ∙ c.requires in
    let fits = within-at c.self.inside.blocks c.args.ranges.now c.loop-index.index c.at-range.result within c.at-range.ensures in
    omega arith

pub loop-index-preserved : goal.loop-index-preserved
loop-index-preserved c =
    let rs = c.args.ranges.now in
    let i = c.loop-index.index in
    let r = c.at-range.result in (
      c.loop-index.invariant.0,
      c.loop-index.invariant.1,
      λ b. c.clear_row.ensures b ∙ ap (λ (x : Held). after (unmapped (row r.lba r.count)) b x) (c.loop-index.invariant.2 b)
          ∙ sym (after-append (unmapped (blocks_of (take i rs))) (unmapped (row r.lba r.count)) b (stored c.self.inside.held.entries b))
          ∙ sym (ap (λ ws. after ws b (stored c.self.inside.held.entries b)) (ap unmapped (blocks_of-get rs i r c.at-range.ensures) ∙ unmapped-append (blocks_of (take i rs)) (row r.lba r.count))),
    )
