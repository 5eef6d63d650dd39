use Rattle.std.proofs.Common.{ap, sym, ◌∙◌, slice_index}
use Rattle.copy_status.proofs.Statuses.{has_operation}
use Rattle.copy_status.proofs.reading.read_header.Goals as goal

pub returns-in_default-clause-none : goal.returns-in_default-clause-none
returns-in_default-clause-none c = λ fields legal same is.
    has_operation fields.status fields.sense legal.code legal.sense
    (λ s code sense. c.in_default.ensures.none s (code ∙ sym (ap (λ b. slice_index b 5) is)) (sense ∙ same))
