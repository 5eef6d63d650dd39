use Rattle.std.proofs.Common.{◌<◌, ◌≤◌, length, get_or, ap, arith}
use Rattle.std.proofs.lemmas.Option.{slice_get_within}
use Rattle.rod_store.specs.declared.kept.Kept.{Kept}
use Rattle.rod_store.specs.Kept.{used_last}
use Rattle.rod_store.proofs.LiveWalks.{live_at}
use Rattle.rod_store.proofs.Oldest.{oldest-at-first}
use Rattle.rod_store.proofs.walks.oldest.Goals as goal

pub offset_bounds-tokens-first : goal.offset_bounds-tokens-first
offset_bounds-tokens-first g c =
    let at = live_at c.args.tokens.now c.args.live_serials.now c.requires.placed c.requires.live_serials 0 c.requires.some in
    let low : get_or c.args.live_serials.now 0 0 < length c.args.tokens.now = slice_get_within c.args.tokens.now _ at.token at.found in
    omega arith

pub bounds-tokens-first : goal.bounds-tokens-first
bounds-tokens-first g c =
    let at = live_at c.args.tokens.now c.args.live_serials.now c.requires.placed c.requires.live_serials 0 c.requires.some in
    slice_get_within _ _ at.token at.found

pub returns-then-used_last-least_use : goal.returns-then-used_last-least_use
returns-then-used_last-least_use g c =
    let at = live_at c.args.tokens.now c.args.live_serials.now c.requires.placed c.requires.live_serials 0 c.requires.some in
    let read = ap (λ (t : Kept g.row.K.Denot). used_last t.state) c.index-tokens-first.is in
    let used : used_last c.index-tokens-first.result.state ≤ c.args.least_use = omega (arith, read, c.used_last.ensures, c.if-used_last-least_use.true) in
    oldest-at-first c.args.tokens.now c.args.least_use (get_or c.args.live_serials.now 0 0) c.index-tokens-first.result c.requires.placed c.index-tokens-first.is at used c.requires.least_use
