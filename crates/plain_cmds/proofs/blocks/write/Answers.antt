use Rattle.std.proofs.Common.{refl}
use Rattle.plain_cmds.proofs.Cuts.{write-program, write-limits}
use Rattle.plain_cmds.proofs.blocks.write.Goals as goal

pub returns-clause-program : goal.returns-clause-program
returns-clause-program c =
    λ config. write-program c.args.unit c.args.lba c.args.count c.args.block_length c.args.out c.in_ok-list.list c.requires.some c.requires.whole c.in_ok-list.ensures

pub returns-clause-sound : goal.returns-clause-sound
returns-clause-sound c =
    λ config known told. record {
      configured = known;
      limits = write-limits config c.args.unit c.args.lba c.args.count c.args.block_length c.args.out c.in_ok-list.list c.requires.few told c.in_ok-list.ensures;
      asked = λ nexus. refl;
    }
