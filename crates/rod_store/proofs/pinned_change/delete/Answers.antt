use Rattle.std.proofs.Common.{◌≡◌, ◌∙◌, refl, sym, ap, subst, Some, None}
use Rattle.std.specs.Prelude.{is_some}
use Rattle.rod_store.proofs.Ended.{delete-ends}
use Rattle.rod_store.specs.Pinning.{holder, ArePinned}
use Rattle.rod_store.proofs.Pinned.{pinned-sized, token-ends}
use Rattle.rod_store.proofs.pinned_change.delete.Goals as goal

pub unpin-requires : goal.unpin-requires
unpin-requires g c = ap is_some (c.requires.pinned.live (Some c.args.serial) c.in-Some.ended (sym c.delete.ensures.value ∙ c.in-Some.is))

pub returns-in-Some-clause-pinned : goal.returns-in-Some-clause-pinned
returns-in-Some-clause-pinned g c =
    let pins = g.B.Blocks.pinned c.args.blocks.now in
    let now = g.B.Blocks.pinned c.unpin.new.self in
    let tokens = c.args.tokens.now.tokens in
    let ends = delete-ends tokens c.args.serial c.in-Some.ended c.next_serial-placed.ensures.placed (sym c.delete.ensures.value ∙ c.in-Some.is) in
    rw c.delete.ensures.tokens (pinned-sized g.B.Pins.number (g.B.Blocks.blocks c.args.blocks.now) (g.B.Blocks.blocks c.unpin.new.self) now _ c.unpin.ensures.blocks
    (token-ends g.B.Pins.number (g.B.Blocks.blocks c.args.blocks.now) pins now None tokens _ c.in-Some.ended c.requires.pinned ends c.unpin.ensures.pinned))

pub returns-in-None-clause-pinned : goal.returns-in-None-clause-pinned
returns-in-None-clause-pinned g c = rw c.in-None.ensures.unchanged c.requires.pinned
