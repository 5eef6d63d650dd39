use Rattle.cm_server.proofs.laws.served_laws.Goals as goal

pub returns : goal.returns
returns c = record { token = c.token_law.ensures; count = c.count_law.ensures; write = c.write_law.ensures }
