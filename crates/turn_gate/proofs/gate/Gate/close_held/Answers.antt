use Rattle.turn_gate.proofs.Calls.{held_call}
use Rattle.turn_gate.proofs.gate.Gate.close_held.Goals as goal

pub returns-clause-opening : goal.returns-clause-opening
returns-clause-opening g c =
    (held_call g.V.Gated.stands_for g.V.Gated.kin g.V.Gated.marks c.self.inside.table.shared.key c.args.self c.self.inside.table.shared.table_id c.self.invariant c.self.view_is
    c.seat.inside.seat.table_id c.seat.inside.seat.id c.seat.inside.seat.me c.args.seat _ _ c.seat.invariant c.seat.view_is c.requires.gate c.requires.first c.requires.out c.close_with-closed.ensures.values.2).0

pub returns-clause-once : goal.returns-clause-once
returns-clause-once g c =
    (held_call g.V.Gated.stands_for g.V.Gated.kin g.V.Gated.marks c.self.inside.table.shared.key c.args.self c.self.inside.table.shared.table_id c.self.invariant c.self.view_is
    c.seat.inside.seat.table_id c.seat.inside.seat.id c.seat.inside.seat.me c.args.seat _ _ c.seat.invariant c.seat.view_is c.requires.gate c.requires.first c.requires.out c.close_with-closed.ensures.values.2).1
