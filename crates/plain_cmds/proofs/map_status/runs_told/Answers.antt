use Rattle.std.proofs.Common.{◌≡◌, ◌≤◌, length, take, ap, sym, ◌∙◌, subst}
use Rattle.cm_frame.specs.Grammar.{data_limit}
use Rattle.cmd_program.specs.AnswerBytes.{map_bytes}
use Rattle.plain_cmds.proofs.MapRuns.{map-short}
use Rattle.plain_cmds.proofs.map_status.runs_told.Goals as goal

pub returns-clause-fits : goal.returns-clause-fits
returns-clause-fits c =
    let whole = c.in_ok-data.ensures.ok ∙ c.into_vec.ensures ∙ c.in_ok-status_data.ensures in
    let told : c.truncate.new.self ≡ take c.args.allocation (map_bytes c.args.runs.now) = c.truncate.ensures ∙ ap (take c.args.allocation) whole in
    subst (λ l. length l ≤ data_limit) (sym told) (map-short c.args.allocation c.args.runs.now c.requires)
