use Rattle.std.proofs.Common.{◌≡◌, ◌∙◌, refl, sym, ap, subst, Some, None}
use Rattle.rod_store.proofs.Ended.{used-same}
use Rattle.rod_store.specs.Pinning.{holder, ArePinned}
use Rattle.rod_store.specs.TokenChanges.{rod_made}
use Rattle.rod_store.proofs.Pinned.{show-next, tokens-same}
use Rattle.rod_store.proofs.pinned_change.settle.Goals as goal

pub populate-requires-clause-pinned : goal.populate-requires-clause-pinned
populate-requires-clause-pinned g c = c.expire_all.ensures.pinned (Some c.in-Make.rod)
    (subst (λ o. ArePinned g.B.Pins.number (g.B.Blocks.blocks c.args.blocks.now) (g.B.Blocks.pinned c.args.blocks.now) (holder o c.args.tokens.now.tokens)) (ap rod_made c.in-Make.is) c.requires.pinned)

pub delete-requires : goal.delete-requires
delete-requires g c = record {
  pinned = c.expire_all.ensures.pinned None
      (subst (λ o. ArePinned g.B.Pins.number (g.B.Blocks.blocks c.args.blocks.now) (g.B.Blocks.pinned c.args.blocks.now) (holder o c.args.tokens.now.tokens)) (ap rod_made c.in-Delete.is) c.requires.pinned);
}

pub returns-in-Nothing-clause-pinned : goal.returns-in-Nothing-clause-pinned
returns-in-Nothing-clause-pinned g c = c.expire_all.ensures.pinned None
    (subst (λ o. ArePinned g.B.Pins.number (g.B.Blocks.blocks c.args.blocks.now) (g.B.Blocks.pinned c.args.blocks.now) (holder o c.args.tokens.now.tokens)) (ap rod_made c.in-Nothing.is) c.requires.pinned)

pub returns-in-Use-clause-pinned : goal.returns-in-Use-clause-pinned
returns-in-Use-clause-pinned g c =
    let are = c.expire_all.ensures.pinned None
    (subst (λ o. ArePinned g.B.Pins.number (g.B.Blocks.blocks c.args.blocks.now) (g.B.Blocks.pinned c.args.blocks.now) (holder o c.args.tokens.now.tokens)) (ap rod_made c.in-Use.is) c.requires.pinned) in
    rw c.note_use.ensures.tokens (tokens-same g.B.Pins.number (g.B.Blocks.blocks c.expire_all.new.blocks) (g.B.Blocks.pinned c.expire_all.new.blocks) None c.expire_all.new.tokens.tokens _ are
    (used-same c.in-Use.serial c.args.moment c.expire_all.new.tokens.tokens))

pub returns-in-Make-clause-shows : goal.returns-in-Make-clause-shows
returns-in-Make-clause-shows g c =
    show-next (g.B.Blocks.pinned c.args.blocks.now) (g.B.Blocks.pinned c.expire_all.new.blocks) (g.B.Blocks.pinned c.populate.new.blocks)
    (g.B.Blocks.shown c.args.blocks.now) (g.B.Blocks.shown c.expire_all.new.blocks) (g.B.Blocks.shown c.populate.new.blocks) c.expire_all.ensures.shows c.populate.ensures.shows

pub returns-in-Delete-clause-shows : goal.returns-in-Delete-clause-shows
returns-in-Delete-clause-shows g c =
    show-next (g.B.Blocks.pinned c.args.blocks.now) (g.B.Blocks.pinned c.expire_all.new.blocks) (g.B.Blocks.pinned c.delete.new.blocks)
    (g.B.Blocks.shown c.args.blocks.now) (g.B.Blocks.shown c.expire_all.new.blocks) (g.B.Blocks.shown c.delete.new.blocks) c.expire_all.ensures.shows c.delete.ensures.shows
