-- Fates of the tokens of the plain answers, as those of a past
use Rattle.plain_model.specs.declared.tokens.PlainFate.{PlainFate}
use Rattle.cm_history.specs.Tokens.{Fate, Live, Expired, Evicted, Deleted}

abbrev pub fate_of : PlainFate → Fate
fate_of PlainFate.Live = Live
fate_of PlainFate.Expired = Expired
fate_of PlainFate.Evicted = Evicted
fate_of PlainFate.Deleted = Deleted
