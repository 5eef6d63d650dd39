-- What was asked of a port, and what it answered
use Rattle.std.specs.Prelude.{Result}
use Rattle.cm_frame.specs.declared.frame.Request.{Request}
use Rattle.cm_frame.specs.declared.frame.Reply.{Reply}
use Rattle.odx_host.specs.declared.port.PortFault.{PortFault}

-- a request, and what it was answered
pub record Talked : Type 0 where
  pub request : Request
  pub answer : Result Reply PortFault
