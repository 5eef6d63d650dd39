use Rattle.std.proofs.Common.{arith}
use Rattle.cm_frame.proofs.LongRequests.{is-front}
use Rattle.cm_frame.proofs.long_request.long_data.Goals as goal

pub returns-clause-front : goal.returns-clause-front
returns-clause-front c =
    is-front c.args.bytes.now c.get_u32-wanted.result (omega (arith, c.if-bytes-lt-FRONT.false)) (omega (arith, c.get_u32-wanted.ensures)) (omega arith)
