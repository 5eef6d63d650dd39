use Rattle.std.proofs.Common.{◌≡◌, ◌+◌, ◌*◌, length, arith, ap, ◌∙◌}
use Rattle.odx_host.proofs.Lengths.{write-length}
use Rattle.odx_host.proofs.requests.write_request.Goals as goal

pub overflow_cast-len : goal.overflow_cast-len
overflow_cast-len c =
    let long : length c.in_ok-out.out ≡ 536 + 16 * length c.args.list.now.ranges = ap length c.in_ok-out.ensures.written ∙ write-length c.args.list.now c.requires.token in
    omega (arith, long, c.len.ensures, c.requires.few)

pub returns-clause-fits : goal.returns-clause-fits
returns-clause-fits c =
    let long : length c.in_ok-out.out ≡ 536 + 16 * length c.args.list.now.ranges = ap length c.in_ok-out.ensures.written ∙ write-length c.args.list.now c.requires.token in
    omega (arith, long, ap length c.in_ok-copy_from_slice.ensures, ap length c.as_slice.ensures, c.requires.few)
