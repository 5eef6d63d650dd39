use Rattle.cm_base.proofs.Writes.{put-at}
use Rattle.cm_base.proofs.fields.set_u32.Goals as goal

pub returns : goal.returns
returns c = put-at c.args.at 4 c.args.into.now _ _ c.requires c.write_u32.ensures
