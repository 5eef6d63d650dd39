use Rattle.std.proofs.Common.{◌≡◌, ◌∙◌, sym, true}
use Rattle.cm_base.specs.declared.parsed.Parsed.TheVariants.{Whole}
use Rattle.cm_frame.specs.Reading.{read_item}
use Rattle.trace_check.proofs.Plays.{at-next}
use Rattle.trace_check.proofs.playing.play_item.Goals as goal

pub returns-then-branch-clause-played : goal.returns-then-branch-clause-played
returns-then-branch-clause-played c = λ whole n at.
    let read : read_item c.args.bytes.now ≡ Whole c.in-Whole.item c.in-Whole.used = sym c.in_ok-item.ensures.value ∙ c.in-Whole.is in
    let played = c.in_ok-play-in-Whole.ensures at.config at.s at.is in
    let yes : c.in_ok-play-in-Whole.field-0 ≡ true = c.if-branch.true in
    at-next whole n c.args.place c.args.bytes.now c.args.machine.now at c.in-Whole.item c.in-Whole.used c.play.new.self read (sym played.0 ∙ yes) (played.1 yes)
