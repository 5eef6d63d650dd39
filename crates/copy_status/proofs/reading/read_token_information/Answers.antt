use Rattle.std.proofs.Common.{◌++◌, ◌-◌, length, slice_index, ap, sym, ◌∙◌, arith}
use Rattle.copy_status.specs.StatusBytes.{fields_bytes, header_bytes, sense_data, token_part}
use Rattle.copy_status.proofs.Information.{counted_parts, sense_follows}
use Rattle.copy_status.proofs.Parts.{joined}
use Rattle.copy_status.proofs.reading.read_token_information.Goals as goal

pub returns-in_default-split_sense-clause-none : goal.returns-in_default-split_sense-clause-none
returns-in_default-split_sense-clause-none c = λ f token legal of is.
    let parts = c.in-Some.ensures.cases in
    sense_follows f.populate f.status f.running f.sense f.count token c.args.bytes.now is legal.key
    (λ e. c.in_default-split_sense.ensures.wanted (ap (λ l. slice_index l 13) parts.0 ∙ e))
    (λ s more key e. c.in_default-split_sense.ensures.none s more key (parts.1 ∙ e))

pub returns-clause-spelled : goal.returns-clause-spelled
returns-clause-spelled c =
    let parts = c.in-Some.ensures.cases in
    let bytes = c.args.bytes.now in
    let f = c.in-Some-read_header.fields in
    let sense = c.in-Some-read_header.ensures.failed in
    let behind = c.in-Some-split_sense.ensures.cut ∙ ap (λ t. sense_data c.in-Some-split_sense.sense ++ t) c.in-Some-read_token.ensures.spelled in
    let head = c.in-Some-read_header.ensures.spelled in
    let whole = joined 32 bytes c.in-Some.head.now c.in-Some.rest.now parts.0 parts.1 in
    counted_parts (length bytes - 4) (fields_bytes f) (sense_data f.sense) (token_part c.in-Some-read_token.token) bytes
    (whole ∙ ap (λ l. l ++ c.in-Some.rest.now) head
    ∙ ap (λ l. header_bytes f (length bytes - 4) ++ l) (behind ∙ ap (λ s. sense_data s ++ token_part c.in-Some-read_token.token) (sym sense)))
    (omega arith)
