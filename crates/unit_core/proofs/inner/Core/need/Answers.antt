use Rattle.std.proofs.Common.{Bool, ◌∙◌, ap, sym, arith}
use Rattle.std.specs.Prelude.{if◌then◌else◌}
use Rattle.unit_core.proofs.Rooms.{need-by}
use Rattle.cm_history.specs.History.{past_of}
use Rattle.unit_core.proofs.inner.Core.need.Goals as goal

pub returns-in_default : goal.returns-in_default
returns-in_default g c = record {
  need = λ h a. sym (need-by (past_of c.args.self.now.config c.args.self.now.unit h) c.args.actor c.args.act.now c.in_default.not-Start c.in_default.not-Open ∙ ap (λ (t : Bool). if t then 0 else 1) (sym (c.if-serves.ensures h a)));
  few = omega arith;
}

pub returns-in_default-2 : goal.returns-in_default-2
returns-in_default-2 g c = record {
  need = λ h a. sym (need-by (past_of c.args.self.now.config c.args.self.now.unit h) c.args.actor c.args.act.now c.in_default.not-Start c.in_default.not-Open ∙ ap (λ (t : Bool). if t then 0 else 1) (sym (c.if-serves.ensures h a)));
  few = omega arith;
}
