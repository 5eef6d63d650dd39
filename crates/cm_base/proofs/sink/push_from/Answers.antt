use Rattle.std.proofs.Common.{◌≡◌, ◌-◌, length, take, drop, arith, ap, ◌∙◌, sym, subst, ℕ, List}
use Rattle.std.proofs.Math.Seq.{take-length}
use Rattle.std.specs.Io.KnownBytes.{Appends}
use Rattle.std.proofs.lemmas.List.{length-drop}
use Rattle.cm_base.proofs.Pushed.{pushed}
use Rattle.cm_base.proofs.sink.push_from.Goals as goal

pub loop-at-preserved : goal.loop-at-preserved
loop-at-preserved g c =
    let bytes = c.args.bytes.now in
    let at = c.loop-at.at in
    let n = c.in_ok-count.count in
    let r = c.in_ok-count.ensures in
    let before = c.loop-at.invariant in
    let whole : take (length bytes - at) (drop at bytes) ≡ drop at bytes =
    ap (λ k. take k (drop at bytes)) (sym (length-drop at bytes)) ∙ take-length (drop at bytes) in
    let then : Appends (g.O.Sink.taken c.loop-at.sink) (g.O.Sink.taken c.push.new.self) (take n (drop at bytes)) =
    subst (λ (l : List ℕ). Appends (g.O.Sink.taken c.loop-at.sink) (g.O.Sink.taken c.push.new.self) (take n l)) whole r.grown in (
      omega arith,
      omega (arith, r.within, ap length whole, length-drop at bytes),
      r.sound ∙ before.2,
      r.told ∙ before.3,
      r.apart ∙ before.4,
      pushed _ _ _ before.5.0 bytes _ at n before.5.1 before.5.2 then,
    )
