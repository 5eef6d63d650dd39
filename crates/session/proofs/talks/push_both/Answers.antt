use Rattle.std.proofs.Common.{List, ℕ, ◌++◌}
use Rattle.std.proofs.KnownBytes.{Appends-trans}
use Rattle.std.specs.Io.KnownBytes.{Appends}
use Rattle.cm_base.specs.Sides.{IsCut}
use Rattle.session.proofs.Turning.{cut-longer, cut-behind, on-err, any-err}
use Rattle.session.proofs.talks.push_both.Goals as goal

pub returns-in_err-push_all-clause-begun : goal.returns-in_err-push_all-clause-begun
returns-in_err-push_all-clause-begun g c =
    let front = c.in_err-push_all.ensures.begun in
    any-err c.from_residual.result ((x : List ℕ) × IsCut x (c.args.front.now ++ c.args.behind.now) × Appends (g.K.Sink.taken c.args.link.now) (g.K.Sink.taken c.push_all.new.sink) x)
    (front.0, cut-longer front.0 c.args.front.now c.args.behind.now front.1, front.2)

pub returns-clause-begun : goal.returns-clause-begun
returns-clause-begun g c = on-err c.push_all-2.result _ _
    (λ f. (c.args.front.now ++ f.0, cut-behind f.0 c.args.front.now c.args.behind.now f.1, Appends-trans _ _ _ c.args.front.now f.0 c.in_ok-push_all.ensures.grown f.2))
    c.push_all-2.ensures.begun
