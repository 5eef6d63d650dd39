use Rattle.std.proofs.Common.{refl, []}
use Rattle.trace_replay.proofs.CommandSteps.{begun}
use Rattle.trace_replay.proofs.nexus.Nexus.begin.Goals as goal

pub go_on-requires-clause-stands : goal.go_on-requires-clause-stands
go_on-requires-clause-stands c = record {
  p = record { initiator = c.args.initiator; request = c.args.request; outcomes = [] };
  is = record { stands = c.in-Ok.ensures.stands; gave_up = refl };
}

pub returns-in-Ok-clause-begun : goal.returns-in-Ok-clause-begun
returns-in-Ok-clause-begun c =
    begun c.args.config.now c.args.initiator c.args.request c.go_on.new.self.waiting c.go_on.result
    (c.go_on.ensures.went (record { initiator = c.args.initiator; request = c.args.request; outcomes = [] }) (record { stands = c.in-Ok.ensures.stands; gave_up = refl }))
