use Rattle.std.proofs.Common.{◌≡◌, sym, Some}
use Rattle.std.specs.List.{slice_get}
use Rattle.rod_token.specs.TokenText.{serial_of}
use Rattle.cm_base.specs.Units.{unit_of}
use Rattle.cm_history.specs.Tokens.{Token, tokens}
use Rattle.cm_history.proofs.PublicLaws.{Each-in, get-in}
use Rattle.plain_model.proofs.Sizes.{held-sized, before-sized}
use Rattle.plain_model.proofs.unit.PlainUnit.redeem.Goals as goal

pub redeemed-requires-clause-sized : goal.redeemed-requires-clause-sized
redeemed-requires-clause-sized c =
    let size = (unit_of c.args.config.now c.args.unit).block_length in
    let t : Token = c.in-Some.token.now in
    let found : slice_get (tokens c.args.self.now) (serial_of c.args.text.now) ≡ Some t = sym c.in-Some.ensures in
    held-sized size t.before (Each-in _ (tokens c.args.self.now) t (before-sized size c.args.self.now c.requires.sized) (get-in (tokens c.args.self.now) (serial_of c.args.text.now) t found))
