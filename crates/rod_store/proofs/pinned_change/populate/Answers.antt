use Rattle.std.proofs.Common.{◌≡◌, ◌∙◌, refl, sym, ap, subst, Some, None, ◌++◌, ◌∷◌, [], length, map}
use Rattle.std.specs.Prelude.{is_some}
use Rattle.std.proofs.lemmas.List.{length-map}
use Rattle.rod_store.specs.Kept.{evict_if}
use Rattle.rod_store.proofs.Ended.{append-last, evict-ends, evict-same}
use Rattle.rod_store.specs.Pinning.{holder, ArePinned}
use Rattle.rod_store.proofs.Pinned.{pinned-sized, spare-last, token-ends, tokens-same}
use Rattle.rod_store.proofs.pinned_change.populate.Goals as goal

pub unpin-requires : goal.unpin-requires
unpin-requires g c =
    let tokens = c.args.tokens.now.tokens in
    let ends = evict-ends tokens c.in-Some.ended c.next_serial-placed.ensures.placed (sym c.in-Ok.ensures.evicted ∙ c.in-Some.is) in
    ap is_some (c.requires.pinned.live (Some ends.serial) c.in-Some.ended ends.was)

pub returns-in-Some-clause-pinned : goal.returns-in-Some-clause-pinned
returns-in-Some-clause-pinned g c =
    let pins = g.B.Blocks.pinned c.args.blocks.now in
    let now = g.B.Blocks.pinned c.unpin.new.self in
    let tokens = c.args.tokens.now.tokens in
    let ends = evict-ends tokens c.in-Some.ended c.next_serial-placed.ensures.placed (sym c.in-Ok.ensures.evicted ∙ c.in-Some.is) in
    let fewer = token-ends g.B.Pins.number (g.B.Blocks.blocks c.args.blocks.now) pins now (Some c.args.rod) tokens (map (evict_if tokens) tokens) c.in-Some.ended c.requires.pinned ends c.unpin.ensures.pinned in
    rw c.in-Ok.ensures.tokens (pinned-sized g.B.Pins.number (g.B.Blocks.blocks c.args.blocks.now) (g.B.Blocks.blocks c.unpin.new.self) now _ c.unpin.ensures.blocks
    (spare-last g.B.Pins.number (g.B.Blocks.blocks c.args.blocks.now) now c.args.rod (map (evict_if tokens) tokens) (length tokens) c.args.count c.args.timeout c.args.moment fewer))

pub returns-in-None-clause-pinned : goal.returns-in-None-clause-pinned
returns-in-None-clause-pinned g c =
    let pins = g.B.Blocks.pinned c.args.blocks.now in
    let tokens = c.args.tokens.now.tokens in
    let same = tokens-same g.B.Pins.number (g.B.Blocks.blocks c.args.blocks.now) pins (Some c.args.rod) tokens (map (evict_if tokens) tokens) c.requires.pinned
    (evict-same tokens (sym c.in-Ok.ensures.evicted ∙ c.in-None.is)) in
    rw c.in-Ok.ensures.tokens (spare-last g.B.Pins.number (g.B.Blocks.blocks c.args.blocks.now) pins c.args.rod (map (evict_if tokens) tokens) (length tokens) c.args.count c.args.timeout c.args.moment same)
