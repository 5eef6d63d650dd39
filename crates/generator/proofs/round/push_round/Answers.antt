use Rattle.std.proofs.Common.{◌++◌, refl}
use Rattle.generator.specs.Rounds.{making, redeeming, looking}
use Rattle.generator.proofs.Spelled.{goes_on, grows}
use Rattle.generator.proofs.round.push_round.Goals as goal

pub returns : goal.returns
returns c =
    let r = c.args.round in
    grows c.push_look.result c.args.trace.now c.push_token_write.new.trace c.push_look.new.trace (making r ++ redeeming r) (looking r) _ refl
    (goes_on c.args.trace.now c.push_source.new.trace c.push_token_write.new.trace (making r) (redeeming r)
    c.in_ok-push_source.ensures c.in_ok-push_token_write.ensures)
    c.push_look.ensures
