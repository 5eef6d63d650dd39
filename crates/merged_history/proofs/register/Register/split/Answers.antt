use Rattle.merged_history.specs.inner.Rule.{ticket_by, joined_in}
use Rattle.merged_history.proofs.Left.{was-split, split-seat}
use Rattle.merged_history.proofs.register.Register.split.Goals as goal

pub invariant_of-root : goal.invariant_of-root
invariant_of-root c = split-seat c.root.inside.seat.me c.split_seat.new.root.me (ticket_by c.args.actor (joined_in c.root.inside.seat.me.0)) c.root.invariant.are c.split_seat.ensures.root

pub returns-clause-root : goal.returns-clause-root
returns-clause-root c =
    rw (← c.root.view_is)
    (was-split c.root.inside.seat.table_id c.split_seat.new.root.table_id c.root.inside.seat.me c.split_seat.new.root.me (ticket_by c.args.actor (joined_in c.root.inside.seat.me.0)) c.root.invariant.are c.split_seat.ensures.table.0 c.split_seat.ensures.root)
