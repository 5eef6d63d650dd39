use Rattle.std.proofs.Common.{◌≡◌, length, false, refl}
use Rattle.std.specs.Prelude.{nat_lt}
use Rattle.std.proofs.lemmas.Bool.{le-ltb, false_from_ne_true}
use Rattle.cm_base.specs.Fields.{part}
use Rattle.cm_frame.specs.Reading.{sense_in, is_sense}
use Rattle.cm_frame.proofs.ReplySpelled.{is_sense-parts}
use Rattle.cm_frame.proofs.reply.read_check.Goals as goal

pub returns-in-None : goal.returns-in-None
returns-in-None c =
    let bytes = c.args.bytes.now in
    let text = part 6 18 bytes in
    let whole : nat_lt (length bytes) 24 ≡ false = le-ltb (length bytes) 24 c.if-bytes-lt24.false in
    let none : is_sense text ≡ false =
    false_from_ne_true (is_sense text) (λ e. c.in-None.ensures.none (sense_in text) (is_sense-parts text e).1 (is_sense-parts text e).0) in
    record { value = rw (whole, none) refl; within = tt; fits = tt }
