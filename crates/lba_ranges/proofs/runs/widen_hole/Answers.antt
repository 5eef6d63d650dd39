use Rattle.std.proofs.Common.{◌≡◌, ◌-◌, ◌+◌, arith, length, ap, sym, ◌∙◌, refl}
use Rattle.std.specs.Prelude.{slice_get, Some}
use Rattle.std.proofs.lemmas.Option.{slice_get_within}
use Rattle.lba_ranges.specs.declared.fill.Fill.TheVariants.{Hole}
use Rattle.lba_ranges.proofs.Cells.{items_of-widened, AllFull-widened}
use Rattle.lba_ranges.proofs.Spanning.{pieces_of-set, pieces_of-get, length-pieces, Spans-widened}
use Rattle.lba_ranges.proofs.runs.widen_hole.Goals as goal

pub returns-clause-widened : goal.returns-clause-widened
returns-clause-widened c same size =
    let runs = c.args.runs.now.items in
    let k = c.len-last.result - 1 in
    let last = c.in-Some.last.now in
    let found : slice_get runs k ≡ Some last = grind arith in
    let within = slice_get_within runs k _ found in
    let end : k + 1 ≡ length runs = omega (arith, within, c.len-last.ensures.value) in
    let hole : c.args.more.now.fill ≡ Hole = c.in-Some-widened.ensures.both in
    let piece = pieces_of-get runs k last found ∙ ap Some c.in-Some-widened.ensures.hole in
    rw (c.replace_run.ensures, hole, pieces_of-set)
    (items_of-widened size _ k c.in-Some-widened.count c.args.more.now.count (end ∙ sym (length-pieces runs)) c.in-Some-widened.ensures.more piece)

pub returns-clause-full : goal.returns-clause-full
returns-clause-full c size all = rw (c.replace_run.ensures, pieces_of-set) (AllFull-widened size _ (c.len-last.result - 1) c.in-Some-widened.count all)

pub returns-clause-spans : goal.returns-clause-spans
returns-clause-spans c same before spans e =
    let runs = c.args.runs.now.items in
    let k = c.len-last.result - 1 in
    let last = c.in-Some.last.now in
    let found : slice_get runs k ≡ Some last = grind arith in
    let within = slice_get_within runs k _ found in
    let end : k + 1 ≡ length runs = omega (arith, within, c.len-last.ensures.value) in
    let long : last.piece.count ≡ c.in-Some-widened.count - c.args.more.now.count = rw c.in-Some-widened.ensures.hole refl in
    rw (c.replace_run.ensures, e) (Spans-widened 0 before runs k c.in-Some-widened.count c.args.more.now.count last end c.in-Some-widened.ensures.more found long spans)
