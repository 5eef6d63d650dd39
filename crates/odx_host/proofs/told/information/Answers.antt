use Rattle.std.proofs.Common.{◌∙◌, ap, sym}
use Rattle.std.specs.Option.{option_map}
use Rattle.odx_host.specs.StatusRead.{information_read}
use Rattle.odx_host.specs.inner.Told.{information_of}
use Rattle.odx_host.proofs.StatusBack.{information-back, none-read}
use Rattle.odx_host.proofs.told.information.Goals as goal

pub returns-in_err-fields : goal.returns-in_err-fields
returns-in_err-fields c = ap (option_map information_of) c.from_residual.ensures ∙ sym (none-read c.args.bytes.now c.in_err-fields.ensures.none)

pub returns : goal.returns
returns c =
    let told = c.in_ok-fields.ensures in
    sym (ap information_read told.spelled ∙ information-back c.in_ok-fields.fields c.in_ok-fields.token c.is_status-holds.ensures.status told.token)
