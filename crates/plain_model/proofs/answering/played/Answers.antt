use Rattle.std.proofs.Common.{◌≡◌, ◌+◌, ◌≤◌, ◌^◌, ◌++◌, ◌∷◌, [], ◌∙◌, sym, ap, subst, take, arith, List}
use Rattle.cm_base.specs.declared.config.UnitConfig.{UnitConfig}
use Rattle.cm_base.specs.Units.{unit_of}
use Rattle.lba_ranges.proofs.PublicLaws.{take-get}
use Rattle.cm_history.specs.declared.act.Entry.{Entry}
use Rattle.cm_history.specs.History.{past_of}
use Rattle.plain_model.specs.inner.Pasts.{IsPlayed}
use Rattle.plain_model.specs.inner.Fitting.{Fits, AllFit}
use Rattle.plain_model.proofs.Steps.{fit-mine, fit-other, played-mine, played-other, follows}
use Rattle.plain_model.proofs.answering.played.Goals as goal
use Rattle.plain_model.proofs.answering.played.Goals.{then-entry-number+in_ok-add, else-entry-number}

pub add-requires-clause-follows : goal.add-requires-clause-follows
add-requires-clause-follows c =
    let config = c.args.config.now in
    let e = c.at-entry.result.now in
    let limits = c.unit.ensures.limits.blocks in
    let told = ap (λ (u : UnitConfig). u.blocks) c.unit.ensures.told in
    let few : (unit_of config c.args.number).blocks ≤ 2 ^ 64 = omega (arith, limits.1, told) in
    let fits : Fits config c.args.number e.act = record {
      limits = c.requires.within c.loop-index.index e c.at-entry.ensures c.if-entry-number.true;
      sized = c.blocks_brought.ensures;
    } in
    follows config c.args.number (take c.loop-index.index c.args.history.now.entries) e c.loop-index.unit few c.loop-index.invariant.fits c.loop-index.invariant.played.is fits

pub loop-index-preserved : goal.loop-index-preserved
loop-index-preserved c =
    let config = c.args.config.now in
    let number = c.args.number in
    let before = take c.loop-index.index c.args.history.now.entries in
    let e = c.at-entry.result.now in
    let one : take (c.loop-index.index + 1) c.args.history.now.entries ≡ before ++ e ∷ [] = take-get c.args.history.now.entries c.loop-index.index e c.at-entry.ensures in
    elim c.if-entry-number.branch [
      | then-entry-number+in_ok-add w ↦
          let fits : Fits config number e.act = record {
            limits = c.requires.within c.loop-index.index e c.at-entry.ensures w.if-entry-number.true;
            sized = w.blocks_brought.ensures;
          } in record {
            played = subst (λ (entries : List Entry). IsPlayed config number entries c.if-entry-number.unit) (sym one)
                (played-mine config number before e c.loop-index.unit c.if-entry-number.unit c.loop-index.invariant.fits c.loop-index.invariant.played w.if-entry-number.true fits (w.unit-is ∙ w.in_ok-add.ensures.ok));
            fits = subst (λ (entries : List Entry). AllFit config number (past_of config number entries)) (sym one)
                (fit-mine config number before e c.loop-index.invariant.fits w.if-entry-number.true fits);
          }
      | else-entry-number w ↦ record {
        played = subst (λ (entries : List Entry). IsPlayed config number entries c.if-entry-number.unit) (sym one)
            (subst (IsPlayed config number (before ++ e ∷ [])) (sym w.unit-is)
            (played-other config number before e c.loop-index.unit c.loop-index.invariant.played w.if-entry-number.false));
        fits = subst (λ (entries : List Entry). AllFit config number (past_of config number entries)) (sym one)
            (fit-other config number before e c.loop-index.invariant.fits w.if-entry-number.false);
      }
    ]
