use Rattle.cm_frame.proofs.HeaderSpelled.{header-spelled}
use Rattle.cm_frame.proofs.Spelled.{item-spelled, request-spelled}
use Rattle.cm_frame.proofs.ReplySpelled.{reply-spelled}
use Rattle.cm_frame.proofs.laws.one_spelling_law.Goals as goal

pub returns : goal.returns
returns c = record {
  headers = header-spelled;
  items = item-spelled;
  requests = request-spelled;
  replies = reply-spelled;
}
