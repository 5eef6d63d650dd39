use Rattle.cm_base.proofs.Writes.{put-at}
use Rattle.cm_base.proofs.fields.set_u16.Goals as goal

pub returns : goal.returns
returns c = put-at c.args.at 2 c.args.into.now _ _ c.requires c.write_u16.ensures
