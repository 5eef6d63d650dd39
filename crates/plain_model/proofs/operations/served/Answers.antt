use Rattle.cm_history.specs.Operations.{operation_after}
use Rattle.plain_model.proofs.OneByOne.{sound-at}
use Rattle.plain_model.proofs.operations.served.Goals as goal

pub after-requires : goal.after-requires
after-requires c =
    sound-at (operation_after c.args.deed.now) c.args.operations.now c.loop-operation.operation-index c.operation-item.result c.requires c.loop-operation-test.true c.operation-item.is
