use Rattle.std.proofs.Common.{◌≡◌, ◌+◌, ◌*◌, [], ◌∷◌, ◌++◌, take, ap, sym, ◌∙◌, append_assoc, arith}
use Rattle.byteorder.specs.Endian.{big_bytes}
use Rattle.cm_base.specs.Fields.{zeros}
use Rattle.lba_ranges.proofs.PublicLaws.{take-get}
use Rattle.cmd_program.specs.AnswerBytes.{run_bytes, runs_bytes}
use Rattle.plain_cmds.proofs.MapRuns.{runs-push, all-told}
use Rattle.plain_cmds.proofs.map_status.status_data.Goals as goal

pub loop-index-preserved : goal.loop-index-preserved
loop-index-preserved c =
    let head = big_bytes 4 (4 + 16 * c.len-count.result) ++ zeros 4 in
    let before = take c.loop-index.index c.args.runs.now in
    let run = c.at.result.now in
    let more : take (c.loop-index.index + 1) c.args.runs.now ≡ before ++ run ∷ [] = take-get c.args.runs.now c.loop-index.index run c.at.ensures in
    c.in_ok-extend.ensures.ok ∙ ap (λ l. l ++ c.descriptor.result) c.loop-index.invariant
    ∙ ap (λ l. (head ++ runs_bytes before) ++ l) c.descriptor.ensures
    ∙ append_assoc head (runs_bytes before) (run_bytes run)
    ∙ ap (λ l. head ++ l) (sym (runs-push before run))
    ∙ ap (λ l. head ++ runs_bytes l) (sym more)

pub returns : goal.returns
returns c =
    let all : c.loop-index.index ≡ c.len-count.result = omega arith in
    let told = all-told c.args.runs.now c.len-count.result c.len-count.ensures in
    c.loop-index.invariant ∙ ap (λ n. big_bytes 4 (4 + 16 * c.len-count.result) ++ zeros 4 ++ runs_bytes (take n c.args.runs.now)) all ∙ told
