use Rattle.std.proofs.Common.{◌<◌, length, get_or, ◌+◌, arith, sym, ◌∙◌, subst}
use Rattle.std.proofs.lemmas.Option.{slice_get_within}
use Rattle.rod_store.proofs.LiveWalks.{live_at}
use Rattle.rod_store.proofs.Oldest.{OldestSoFar, oldest-first, oldest-new, oldest-old}
use Rattle.rod_store.proofs.walks.oldest_of_all.Goals as goal
use Rattle.rod_store.proofs.walks.oldest_of_all.Goals.{then-is_older, else-is_older}

pub loop-serial-init : goal.loop-serial-init
loop-serial-init g c = oldest-first _ 0 _ (live_at c.args.tokens.now c.args.live_serials.now c.requires.placed c.requires.live_serials 0 c.requires.some)

pub offset_bounds-tokens-serial : goal.offset_bounds-tokens-serial
offset_bounds-tokens-serial g c =
    let at = live_at c.args.tokens.now c.args.live_serials.now c.requires.placed c.requires.live_serials c.loop-serial.serial-index c.loop-serial-test.true in
    let low : get_or c.args.live_serials.now c.loop-serial.serial-index 0 < length c.args.tokens.now = slice_get_within c.args.tokens.now _ at.token at.found in
    omega arith

pub bounds-tokens-serial : goal.bounds-tokens-serial
bounds-tokens-serial g c =
    let at = live_at c.args.tokens.now c.args.live_serials.now c.requires.placed c.requires.live_serials c.loop-serial.serial-index c.loop-serial-test.true in
    slice_get_within _ _ at.token at.found

pub offset_bounds-tokens-oldest : goal.offset_bounds-tokens-oldest
offset_bounds-tokens-oldest g c =
    let low : c.loop-serial.oldest < length c.args.tokens.now = slice_get_within _ _ c.loop-serial.invariant.token c.loop-serial.invariant.found in
    omega arith

pub bounds-tokens-oldest : goal.bounds-tokens-oldest
bounds-tokens-oldest g c = slice_get_within _ _ c.loop-serial.invariant.token c.loop-serial.invariant.found

pub loop-serial-preserved : goal.loop-serial-preserved
loop-serial-preserved g c =
    let at = live_at c.args.tokens.now c.args.live_serials.now c.requires.placed c.requires.live_serials c.loop-serial.serial-index c.loop-serial-test.true in
    elim c.if-is_older.branch [
      | then-is_older w ↦ subst (λ place. OldestSoFar c.args.tokens.now (c.loop-serial.serial-index + 1) place) (sym w.oldest-is)
          (oldest-new c.args.tokens.now c.loop-serial.serial-index c.loop-serial.oldest (get_or c.args.live_serials.now c.loop-serial.serial-index 0)
          c.index-tokens-serial.result c.index-tokens-oldest.result c.index-tokens-serial.is c.index-tokens-oldest.is c.loop-serial.invariant at (sym c.is_older.ensures ∙ w.if-is_older.true))
      | else-is_older w ↦ subst (λ place. OldestSoFar c.args.tokens.now (c.loop-serial.serial-index + 1) place) (sym w.oldest-is)
          (oldest-old c.args.tokens.now c.loop-serial.serial-index c.loop-serial.oldest (get_or c.args.live_serials.now c.loop-serial.serial-index 0)
          c.index-tokens-serial.result c.index-tokens-oldest.result c.index-tokens-serial.is c.index-tokens-oldest.is c.loop-serial.invariant at (sym c.is_older.ensures ∙ w.if-is_older.false))
    ]
