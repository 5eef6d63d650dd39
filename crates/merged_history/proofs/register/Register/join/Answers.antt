use Rattle.merged_history.proofs.Left.{was-joined}
use Rattle.merged_history.proofs.register.Register.join.Goals as goal

pub returns : goal.returns
returns g c =
    rw (← c.root.view_is, ← c.pass.view_is)
    (was-joined c.root.inside.seat.table_id c.join_seat.new.root.table_id c.root.inside.seat.me c.join_seat.new.root.me c.pass.inside.seat.me.0 g.own c.join_seat.ensures.table c.join_seat.ensures.root c.join_seat.ensures.joined)
