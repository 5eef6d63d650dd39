use Rattle.std.proofs.Common.{◌≡◌, ◌∙◌, refl, sym, ap, subst, Some, None}
use Rattle.std.specs.Prelude.{is_some}
use Rattle.rod_store.specs.Pinning.{holder, ArePinned}
use Rattle.rod_store.specs.TokenChanges.{rod_made}
use Rattle.rod_store.proofs.Pinned.{pinned-sized, spare-ends}
use Rattle.rod_store.proofs.pinned_change.give_up.Goals as goal

pub unpin-requires : goal.unpin-requires
unpin-requires g c = ap is_some (c.requires.pinned.1.live None c.in-Some.rod (sym c.rod.ensures ∙ c.in-Some.is))

pub returns-in-Some-clause-pinned : goal.returns-in-Some-clause-pinned
returns-in-Some-clause-pinned g c = λ own are.
    let pins = g.B.Blocks.pinned c.args.blocks.now in
    let now = g.B.Blocks.pinned c.unpin.new.self in
    let mine = subst (λ o. ArePinned g.B.Pins.number (g.B.Blocks.blocks c.args.blocks.now) pins (holder o own)) (sym c.rod.ensures ∙ c.in-Some.is) are in
    pinned-sized g.B.Pins.number (g.B.Blocks.blocks c.args.blocks.now) (g.B.Blocks.blocks c.unpin.new.self) now (holder None own) c.unpin.ensures.blocks
    (spare-ends g.B.Pins.number (g.B.Blocks.blocks c.args.blocks.now) pins now c.in-Some.rod own mine c.unpin.ensures.pinned)

pub returns-in-None-clause-pinned : goal.returns-in-None-clause-pinned
returns-in-None-clause-pinned g c = λ own are.
    subst (λ o. ArePinned g.B.Pins.number (g.B.Blocks.blocks c.args.blocks.now) (g.B.Blocks.pinned c.args.blocks.now) (holder o own)) (sym c.rod.ensures ∙ c.in-None.is) are
