use Rattle.cm_frame.proofs.HeaderBack.{header-back}
use Rattle.cm_frame.proofs.ReadBack.{item-back, request-back}
use Rattle.cm_frame.proofs.Replies.{reply-back}
use Rattle.cm_frame.proofs.laws.read_back_law.Goals as goal

pub returns : goal.returns
returns c = record {
  headers = header-back;
  items = item-back;
  requests = request-back;
  replies = reply-back;
}
