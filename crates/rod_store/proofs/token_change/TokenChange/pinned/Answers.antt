use Rattle.std.proofs.Common.{◌≡◌, ◌∙◌, true, false, refl, sym, ap, subst, Some, None}
use Rattle.std.specs.Prelude.{Result, Ok, Err, OnErr}
use Rattle.rod_store.specs.declared.pinned_rod.PinnedRod.{PinnedRod}
use Rattle.rod_store.specs.Pinning.{holder, ArePinned, rod_shown, rod_now}
use Rattle.lba_ranges.specs.Denoted.{is_within, is_overlapping}
use Rattle.rod_store.specs.TokenChanges.{MayPin}
use Rattle.rod_store.proofs.Pinned.{pinned-same, pinned-sized, spare-made}
use Rattle.rod_store.proofs.RodsShown.{rod-made}
use Rattle.rod_store.proofs.token_change.TokenChange.pinned.Goals as goal

on-err : {T E : Type 0} (r : Result T E) (F : Type 0) → F → OnErr r F
on-err (Ok x) F f = tt
on-err (Err e) F f = f

pub returns-in_err-pin-in-Make-clause-same : goal.returns-in_err-pin-in-Make-clause-same
returns-in_err-pin-in-Make-clause-same g c = on-err c.from_residual.result _ (λ own are.
    pinned-sized g.B.Pins.number (g.B.Blocks.blocks c.args.blocks.now) (g.B.Blocks.blocks c.pin.new.self) (g.B.Blocks.pinned c.pin.new.self) (holder None own) c.pin.ensures.blocks
    (pinned-same g.B.Pins.number (g.B.Blocks.blocks c.args.blocks.now) (g.B.Blocks.pinned c.args.blocks.now) (g.B.Blocks.pinned c.pin.new.self) (holder None own) (holder None own) are
    c.in_err-pin-in-Make.ensures.none (λ at. refl)))

pub returns-in_ok-pin-in-Make-clause-pins : goal.returns-in_ok-pin-in-Make-clause-pins
returns-in_ok-pin-in-Make-clause-pins g c = λ own are.
    let may : (is_within (g.B.Blocks.blocks c.args.blocks.now) c.in-Make.ranges ≡ true) × (is_overlapping c.in-Make.ranges ≡ false) = subst (MayPin (g.B.Blocks.blocks c.args.blocks.now)) c.in-Make.is c.requires in
    pinned-sized g.B.Pins.number (g.B.Blocks.blocks c.args.blocks.now) (g.B.Blocks.blocks c.pin.new.self) (g.B.Blocks.pinned c.pin.new.self) _ c.pin.ensures.blocks
    (spare-made g.B.Pins.number (g.B.Blocks.blocks c.args.blocks.now) (g.B.Blocks.pinned c.args.blocks.now) (g.B.Blocks.pinned c.pin.new.self)
    (record { pin = c.in_ok-pin-in-Make.pin; ranges = c.in-Make.ranges }) own are c.in_ok-pin-in-Make.ensures.vacant may.0 c.in_ok-pin-in-Make.ensures.pinned)

pub returns-in_ok-pin-in-Make-clause-made : goal.returns-in_ok-pin-in-Make-clause-made
returns-in_ok-pin-in-Make-clause-made g c = λ rod e.
    let mine : PinnedRod _ = record { pin = c.in_ok-pin-in-Make.pin; ranges = c.in-Make.ranges } in
    let one : mine ≡ rod = cc in
    subst (λ r. rod_shown g.B.Pins.number (g.B.Blocks.block_length c.args.blocks.now) (g.B.Blocks.shown c.pin.new.self) r ≡ rod_now (g.B.Blocks.block_length c.args.blocks.now) (g.B.Blocks.holds c.args.blocks.now) r.ranges) one
    (rod-made g.B.Pins.number (g.B.Blocks.block_length c.args.blocks.now) (g.B.Blocks.shown c.pin.new.self) (g.B.Blocks.holds c.args.blocks.now) mine c.in_ok-pin-in-Make.ensures.shows)
