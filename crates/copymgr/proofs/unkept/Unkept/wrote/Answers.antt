use Rattle.copymgr.proofs.unkept.Unkept.wrote.Goals as goal

pub returns-clause-noted : goal.returns-clause-noted
returns-clause-noted c = λ place from end low. c.with-self.ensures.second place (c.at-span.ensures.all place from end low)

pub returns-clause-lost : goal.returns-clause-lost
returns-clause-lost c = λ place was not_now. c.without-self.ensures.left place was (λ among. let both = c.at-span.ensures.only place among in not_now both.0 both.1)
