use Rattle.cm_frame.proofs.Stays.{header-stays, item-stays, request-stays}
use Rattle.cm_frame.proofs.Replies.{reply-stays}
use Rattle.cm_frame.proofs.laws.stays_judged_law.Goals as goal

pub returns : goal.returns
returns c = record {
  headers = header-stays;
  items = item-stays;
  requests = request-stays;
  replies = reply-stays;
}
