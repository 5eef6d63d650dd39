use Rattle.copymgr.proofs.unkept.Unkept.tried.Goals as goal

pub returns-clause-noted : goal.returns-clause-noted
returns-clause-noted c = λ place from end low. c.with-self.ensures.second place (c.at.ensures.all place from end low)
