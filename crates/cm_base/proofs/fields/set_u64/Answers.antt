use Rattle.cm_base.proofs.Writes.{put-at}
use Rattle.cm_base.proofs.fields.set_u64.Goals as goal

pub returns : goal.returns
returns c = put-at c.args.at 8 c.args.into.now _ _ c.requires c.write_u64.ensures
