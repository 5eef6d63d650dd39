-- Forms and fates of the plain answers, as those of a past
use Rattle.plain_model.specs.declared.acts.PlainForm.{PlainForm}
use Rattle.cm_history.specs.Operations.{Form, OfToken, OfCopy}

abbrev pub as_form : PlainForm → Form
as_form PlainForm.OfToken = OfToken
as_form PlainForm.OfCopy = OfCopy
