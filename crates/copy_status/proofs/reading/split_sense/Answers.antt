use Rattle.std.proofs.Common.{◌++◌, ap, ◌∙◌}
use Rattle.copy_status.proofs.Parts.{joined}
use Rattle.copy_status.proofs.reading.split_sense.Goals as goal

pub returns-clause-cut : goal.returns-clause-cut
returns-clause-cut c =
    let parts = c.in_ok-sense.ensures.cases in
    joined 18 c.args.bytes.now c.in_ok-sense.sense.now c.in_ok-sense.rest.now parts.0 parts.1
    ∙ ap (λ l. l ++ c.in_ok-sense.rest.now) c.in_ok-from_bytes.ensures.spelled
