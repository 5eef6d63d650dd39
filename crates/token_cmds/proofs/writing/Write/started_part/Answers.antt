use Rattle.std.proofs.Common.{◌≡◌, ◌∙◌, ◌+◌, sym, subst, length, nat_lt, false}
use Rattle.std.specs.Prelude.{cond}
use Rattle.scsi_sense.specs.Codes.{invalid_field_in_parameter_list}
use Rattle.cmd_program.specs.declared.step.Outcome.{Outcome}
use Rattle.cmd_program.specs.Program.{next, refused}
use Rattle.cmd_program.specs.Meaning.{MayFollow}
use Rattle.cmd_program.specs.TokenWrite.{wanted, starting, rod_part}
use Rattle.token_cmds.proofs.writing.Write.started_part.Goals as goal

pub started-requires : goal.started-requires
started-requires c =
    let write = c.args.self in
    let rod = c.args.rod.now in
    let enough : nat_lt (length rod.items) (c.args.self.list.offset + wanted write) ≡ false = sym c.is_short.ensures ∙ c.if-is_short.false in (
      rod_part write rod,
      subst (λ short. MayFollow c.requires.0 (next (cond short (refused invalid_field_in_parameter_list) (starting write (rod_part write rod)))) (Outcome.Answered c.args.answer)) enough c.requires.1,
    )
