use Rattle.std.proofs.Common.{◌≡◌, ◌≤◌, ◌<◌, length, get_or, arith, sym, ◌∙◌}
use Rattle.std.proofs.lemmas.Option.{slice_get_within}
use Rattle.rod_store.specs.Kept.{live}
use Rattle.rod_store.proofs.LiveWalks.{live_at, serials-many, first-found, first-passed, first-end}
use Rattle.rod_store.proofs.walks.first_over.Goals as goal

pub offset_bounds-tokens-serial : goal.offset_bounds-tokens-serial
offset_bounds-tokens-serial g c =
    let at = live_at c.args.tokens.now c.args.live_serials.now c.requires.placed c.requires.live_serials c.loop-serial.serial-index c.loop-serial-test.true in
    let low : get_or c.args.live_serials.now c.loop-serial.serial-index 0 < length c.args.tokens.now = slice_get_within c.args.tokens.now _ at.token at.found in
    omega arith

pub bounds-tokens-serial : goal.bounds-tokens-serial
bounds-tokens-serial g c =
    let at = live_at c.args.tokens.now c.args.live_serials.now c.requires.placed c.requires.live_serials c.loop-serial.serial-index c.loop-serial-test.true in
    slice_get_within _ _ at.token at.found

pub returns-then-is_over : goal.returns-then-is_over
returns-then-is_over g c =
    let at = live_at c.args.tokens.now c.args.live_serials.now c.requires.placed c.requires.live_serials c.loop-serial.serial-index c.loop-serial-test.true in
    first-found c.args.tokens.now c.args.moment c.loop-serial.serial-index (get_or c.args.live_serials.now c.loop-serial.serial-index 0) c.requires.placed at
    c.index-tokens-serial.result (sym c.is_over.ensures ∙ c.if-is_over.true) c.loop-serial.invariant

pub loop-serial-preserved : goal.loop-serial-preserved
loop-serial-preserved g c =
    let at = live_at c.args.tokens.now c.args.live_serials.now c.requires.placed c.requires.live_serials c.loop-serial.serial-index c.loop-serial-test.true in
    first-passed c.args.tokens.now c.args.moment c.loop-serial.serial-index (get_or c.args.live_serials.now c.loop-serial.serial-index 0) at
    c.index-tokens-serial.result (sym c.is_over.ensures ∙ c.if-is_over.false) c.loop-serial.invariant

pub returns : goal.returns
returns g c =
    let many : length c.args.live_serials.now ≡ length (live c.args.tokens.now) = serials-many c.args.tokens.now c.args.live_serials.now c.requires.live_serials in
    let all : length (live c.args.tokens.now) ≤ c.loop-serial.serial-index = omega arith in
    first-end c.args.tokens.now c.args.moment c.loop-serial.serial-index all c.loop-serial.invariant
