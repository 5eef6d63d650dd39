use Rattle.std.proofs.Common.{◌≡◌, ◌≤◌, ◌<◌, length, get_or, arith}
use Rattle.std.proofs.lemmas.Option.{slice_get_within}
use Rattle.rod_store.specs.Kept.{live}
use Rattle.rod_store.proofs.LiveWalks.{live_at, serials-many, least-more, least-all}
use Rattle.rod_store.proofs.walks.least_end.Goals as goal

pub offset_bounds-tokens-serial : goal.offset_bounds-tokens-serial
offset_bounds-tokens-serial g c =
    let at = live_at c.args.tokens.now c.args.live_serials.now c.requires.placed c.requires.live_serials c.loop-serial.serial-index c.loop-serial-test.true in
    let low : get_or c.args.live_serials.now c.loop-serial.serial-index 0 < length c.args.tokens.now = slice_get_within c.args.tokens.now _ at.token at.found in
    omega arith

pub bounds-tokens-serial : goal.bounds-tokens-serial
bounds-tokens-serial g c =
    let at = live_at c.args.tokens.now c.args.live_serials.now c.requires.placed c.requires.live_serials c.loop-serial.serial-index c.loop-serial-test.true in
    slice_get_within _ _ at.token at.found

pub loop-serial-preserved : goal.loop-serial-preserved
loop-serial-preserved g c =
    let at = live_at c.args.tokens.now c.args.live_serials.now c.requires.placed c.requires.live_serials c.loop-serial.serial-index c.loop-serial-test.true in
    least-more c.args.tokens.now c.loop-serial.least c.end_until-least.result c.loop-serial.serial-index (get_or c.args.live_serials.now c.loop-serial.serial-index 0) at
    c.index-tokens-serial.result c.end_until-least.ensures.until c.end_until-least.ensures.within c.loop-serial.invariant

pub returns : goal.returns
returns g c =
    let many : length c.args.live_serials.now ≡ length (live c.args.tokens.now) = serials-many c.args.tokens.now c.args.live_serials.now c.requires.live_serials in
    let all : length (live c.args.tokens.now) ≤ c.loop-serial.serial-index = omega arith in
    least-all c.args.tokens.now c.loop-serial.least c.loop-serial.serial-index all c.loop-serial.invariant
