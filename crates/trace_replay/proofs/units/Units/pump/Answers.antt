use Rattle.std.proofs.Common.{refl, arith, ◌<◌, length}
use Rattle.trace_replay.proofs.UnitActs.{counted-pump, counted-same, after-full}
use Rattle.cm_history.specs.declared.act.Act.{Act}
use Rattle.cm_history.specs.declared.act.Actor.{Actor}
use Rattle.trace_replay.specs.inner.Machines.{HaveCounted}
use Rattle.trace_replay.proofs.units.Units.pump.Goals as goal
use Rattle.trace_replay.proofs.units.Units.pump.Goals.{in-Ok, in-Err-Full, in-Err-OutOfMemory}

pub returns : goal.returns
returns c = λ config entries h. elim c.match-ask.branch [
  | in-Ok w ↦
      let d = w.in-Ok.ensures.done config entries h.done in
      let room = d.0 in
      let configured : c.args.unit < length config.units = omega (arith, c.requires.configured, c.requires.counted.done.count, h.done.count) in
      rw (w.self-is, w.result-is, room)
      (counted-pump config entries c.args.self.now _ h.pumped c.args.unit c.from-place.result c.index-seq.result.now c.args.moment c.ask.new.self
      configured c.from-place.ensures c.index-seq.ensures w.in-Ok.ensures.pumps refl refl refl d.2)
  | in-Err-Full w ↦
      let d = w.in-Err-Full.ensures.done config entries h.done in
      rw (w.self-is, w.result-is)
      (after-full (λ es. HaveCounted config es c.ask.new.self) config entries (Actor.Pump c.args.unit) c.args.unit c.args.moment Act.Pump (rw w.in-Err-Full.field-0-is at d.1)
      (counted-same config entries c.args.self.now c.ask.new.self h.pumped d.0 w.in-Err-Full.ensures.pumps))
  | in-Err-OutOfMemory w ↦ rw w.result-is tt
]
