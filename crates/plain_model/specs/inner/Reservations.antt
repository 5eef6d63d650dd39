-- What a PrOut is answered by the plain answers
use Rattle.pr_keys.specs.Reservations.{Reservations}
use Rattle.cm_history.specs.declared.act.Act.{Act}
use Rattle.cm_history.specs.declared.act.Actor.{Actor}
use Rattle.cm_history.specs.declared.answer.Answer.{Answer}
use Rattle.cm_history.specs.Reserving.{done_out, answer_out}

-- the answer to a PrOut; another act is done
abbrev pub answer_of_out : Reservations → Actor → Act → Answer
answer_of_out s actor (Act.PrOut action scope kind key action_key) = answer_out (done_out s actor action scope kind key action_key)
answer_of_out s actor _ = Answer.Done
