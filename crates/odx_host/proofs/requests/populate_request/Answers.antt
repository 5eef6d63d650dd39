use Rattle.std.proofs.Common.{◌≡◌, ◌+◌, ◌*◌, length, arith, ap, ◌∙◌}
use Rattle.odx_host.specs.Requests.{populate_list}
use Rattle.odx_host.proofs.Lengths.{populate-length}
use Rattle.odx_host.proofs.requests.populate_request.Goals as goal

pub overflow_cast-len : goal.overflow_cast-len
overflow_cast-len c =
    let long : length c.in_ok-out.out ≡ 16 + 16 * length c.args.ranges = ap length c.in_ok-out.ensures.written ∙ populate-length (populate_list c.args.ranges) in
    omega (arith, long, c.len.ensures, c.requires.few)

pub returns-clause-fits : goal.returns-clause-fits
returns-clause-fits c =
    let long : length c.in_ok-out.out ≡ 16 + 16 * length c.args.ranges = ap length c.in_ok-out.ensures.written ∙ populate-length (populate_list c.args.ranges) in
    omega (arith, long, ap length c.in_ok-copy_from_slice.ensures, ap length c.as_slice.ensures, c.requires.few)
