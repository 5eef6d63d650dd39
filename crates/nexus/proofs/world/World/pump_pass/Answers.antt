use Rattle.std.proofs.Common.{◌<◌, ◌≡◌, ◌+◌, ap, sym, ◌∙◌, length, arith}
use Rattle.std.specs.Prelude.{slice_index}
use Rattle.cm_base.specs.Configuration.{Configuration}
use Rattle.cm_history.specs.declared.act.Actor.TheVariants.{Pump}
use Rattle.merged_history.specs.Seats.{own_of}
use Rattle.nexus.specs.Roots.{RootView, WasMade}
use Rattle.nexus.proofs.Keeping.{made-more, on-ok}
use Rattle.nexus.proofs.Places.{index-here}
use Rattle.nexus.proofs.world.World.pump_pass.Goals as goal

pub index-seq-requires : goal.index-seq-requires
index-seq-requires g c =
    let units = ap (λ (k : Configuration). length k.units) (ap (λ (v : RootView). v.config) c.root.view_is ∙ c.requires.root.config) in
    let long = c.root.invariant.0.seqs_are.long in
    let seats = c.root.invariant.0.units in
    let same = c.from.ensures in
    let low = c.requires.configured in
    omega (arith, units, long, seats, same, low)

pub pass_of-requires-clause-seq : goal.pass_of-requires-clause-seq
pass_of-requires-clause-seq g c =
    let units = ap (λ (k : Configuration). length k.units) (ap (λ (v : RootView). v.config) c.root.view_is ∙ c.requires.root.config) in
    let long = c.root.invariant.0.seqs_are.long in
    let seats = c.root.invariant.0.units in
    let same = c.from.ensures in
    let low = c.requires.configured in
    let here = index-here c.root.inside.seqs.items c.from.result c.index-seq.result.now 0 (omega (arith, units, long, seats, same, low)) c.index-seq.ensures in
    sym here ∙ ap (slice_index c.root.inside.seqs.items) same ∙ c.root.invariant.0.seqs_are.are c.args.unit (omega (arith, units, seats, low))
    ∙ ap (λ (v : RootView). length (own_of (Pump c.args.unit) v.joined)) c.root.view_is

pub returns-clause-more : goal.returns-clause-more
returns-clause-more g c =
    on-ok c.pass_of.result (λ p. WasMade c.args.root.now c.pass_of.new.root p (Pump c.args.unit)) (length c.pass_of.new.root.out ≡ length c.args.root.now.out + 1) c.pass_of.ensures.made
    (λ p made. made-more c.args.root.now c.pass_of.new.root p (Pump c.args.unit) made)
