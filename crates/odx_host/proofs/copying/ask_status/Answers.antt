use Rattle.odx_host.proofs.Steps.{talking-also}
use Rattle.odx_host.proofs.Asking.{asked-is}
use Rattle.odx_host.proofs.copying.ask_status.Goals as goal

pub returns : goal.returns
returns g c = talking-also _ _ _ _ _ c.ask_good.ensures (λ talk asked. asked-is _ _ c.args.step talk c.ask_good.result c.in_ok-request.ensures.request asked)
