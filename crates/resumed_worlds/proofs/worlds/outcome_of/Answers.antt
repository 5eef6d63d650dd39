use Rattle.resumed_worlds.proofs.worlds.outcome_of.Goals as goal

pub answered-requires-clause-asked : goal.answered-requires-clause-asked
answered-requires-clause-asked g c = c.requires.asked c.next_nexus-nexus.result
