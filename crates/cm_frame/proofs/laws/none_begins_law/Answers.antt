use Rattle.cm_frame.proofs.HeaderBack.{headers-apart}
use Rattle.cm_frame.proofs.ReadBack.{items-apart, requests-apart}
use Rattle.cm_frame.proofs.Replies.{replies-apart}
use Rattle.cm_frame.proofs.laws.none_begins_law.Goals as goal

pub returns : goal.returns
returns c = record {
  headers = headers-apart;
  items = items-apart;
  requests = requests-apart;
  replies = replies-apart;
}
