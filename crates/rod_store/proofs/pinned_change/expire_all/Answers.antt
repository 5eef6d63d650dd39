use Rattle.std.proofs.Common.{◌≡◌, ◌∙◌, refl, sym, ap, subst, Some, None}
use Rattle.std.specs.Prelude.{is_some}
use Rattle.rod_store.proofs.Ended.{expire-ends}
use Rattle.rod_store.specs.Pinning.{holder, ArePinned}
use Rattle.rod_store.proofs.Pinned.{pinned-sized, show-end, show-next, token-ends}
use Rattle.rod_store.proofs.pinned_change.expire_all.Goals as goal

pub unpin-requires : goal.unpin-requires
unpin-requires g c =
    let ends = expire-ends c.args.moment c.loop-rod.tokens.tokens c.in-Some.rod (sym c.expire.ensures.value ∙ c.in-Some.is) in
    ap is_some ((c.loop-rod.invariant.7 c.requires.pinned.0 c.requires.pinned.1).live (Some ends.serial) c.in-Some.rod ends.was)

pub loop-rod-preserved : goal.loop-rod-preserved
loop-rod-preserved g c =
    let kept = c.loop-rod.invariant in
    let n = g.B.Pins.number c.in-Some.rod.pin in
    let was = g.B.Blocks.pinned c.args.blocks.now in
    let pins = g.B.Blocks.pinned c.loop-rod.blocks in
    let now = g.B.Blocks.pinned c.unpin.new.self in
    let ends = expire-ends c.args.moment c.loop-rod.tokens.tokens c.in-Some.rod (sym c.expire.ensures.value ∙ c.in-Some.is) in (
      c.expire.ensures.same ∙ kept.0,
      c.expire.ensures.unit ∙ kept.1,
      c.expire.ensures.spare ∙ kept.2,
      c.unpin.ensures.blocks ∙ kept.3,
      c.unpin.ensures.length ∙ kept.4,
      (λ block. c.unpin.ensures.holds block ∙ kept.5 block),
      show-next was pins now (g.B.Blocks.shown c.args.blocks.now) (g.B.Blocks.shown c.loop-rod.blocks) (g.B.Blocks.shown c.unpin.new.self) kept.6
          (show-end n pins now (g.B.Blocks.shown c.loop-rod.blocks) (g.B.Blocks.shown c.unpin.new.self) c.unpin.ensures.pinned c.unpin.ensures.shows),
      (λ spare are.
          rw c.expire.ensures.tokens (pinned-sized g.B.Pins.number (g.B.Blocks.blocks c.loop-rod.blocks) (g.B.Blocks.blocks c.unpin.new.self) now _ c.unpin.ensures.blocks
          (token-ends g.B.Pins.number (g.B.Blocks.blocks c.loop-rod.blocks) pins now spare c.loop-rod.tokens.tokens _ c.in-Some.rod (kept.7 spare are) ends c.unpin.ensures.pinned))),
      (λ w by. c.unpin.ensures.written w (kept.8 w by)),
    )

-- where the ranges of the rod are dropped from memory of their own
pub loop-rod-preserved-in-Some : goal.loop-rod-preserved-in-Some
loop-rod-preserved-in-Some g c =
    let kept = c.loop-rod.invariant in
    let n = g.B.Pins.number c.in-Some.rod.pin in
    let was = g.B.Blocks.pinned c.args.blocks.now in
    let pins = g.B.Blocks.pinned c.loop-rod.blocks in
    let now = g.B.Blocks.pinned c.unpin.new.self in
    let ends = expire-ends c.args.moment c.loop-rod.tokens.tokens c.in-Some.rod (sym c.expire.ensures.value ∙ c.in-Some.is) in (
      c.expire.ensures.same ∙ kept.0,
      c.expire.ensures.unit ∙ kept.1,
      c.expire.ensures.spare ∙ kept.2,
      c.unpin.ensures.blocks ∙ kept.3,
      c.unpin.ensures.length ∙ kept.4,
      (λ block. c.unpin.ensures.holds block ∙ kept.5 block),
      show-next was pins now (g.B.Blocks.shown c.args.blocks.now) (g.B.Blocks.shown c.loop-rod.blocks) (g.B.Blocks.shown c.unpin.new.self) kept.6
          (show-end n pins now (g.B.Blocks.shown c.loop-rod.blocks) (g.B.Blocks.shown c.unpin.new.self) c.unpin.ensures.pinned c.unpin.ensures.shows),
      (λ spare are.
          rw c.expire.ensures.tokens (pinned-sized g.B.Pins.number (g.B.Blocks.blocks c.loop-rod.blocks) (g.B.Blocks.blocks c.unpin.new.self) now _ c.unpin.ensures.blocks
          (token-ends g.B.Pins.number (g.B.Blocks.blocks c.loop-rod.blocks) pins now spare c.loop-rod.tokens.tokens _ c.in-Some.rod (kept.7 spare are) ends c.unpin.ensures.pinned))),
      (λ w by. c.unpin.ensures.written w (kept.8 w by)),
    )

pub returns-clause-pinned : goal.returns-clause-pinned
returns-clause-pinned g c = λ spare are. rw c.in_default.ensures.unchanged (c.loop-rod.invariant.7 spare are)
