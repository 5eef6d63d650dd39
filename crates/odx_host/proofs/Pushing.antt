-- What was pushed are the frames of the requests
use Rattle.std.proofs.Common.{◌≡◌, ◌∙◌, ℕ, List, [], ◌∷◌, ◌++◌, refl, sym, ap, subst, inl, inr, append_assoc, append-nil}
use Rattle.std.specs.Prelude.{Result, Ok, Err}
use Rattle.std.specs.Io.KnownBytes.{Appends}
use Rattle.std.proofs.KnownBytes.{Appends-nil, Appends-trans}
use Rattle.cm_base.specs.Outside.{IsBeginning}
use Rattle.cm_frame.specs.declared.frame.Request.{Request}
use Rattle.cm_frame.specs.declared.frame.Reply.{Reply}
use Rattle.cm_frame.specs.Grammar.{request_bytes}
use Rattle.copy_plan.specs.Jobs.{CopyJob}
use Rattle.odx_host.specs.declared.port.PortFault.{PortFault}
use Rattle.odx_host.specs.declared.fault.Copied.{Copied}
use Rattle.odx_host.specs.declared.fault.CopyFault.{CopyFault}
use Rattle.odx_host.specs.declared.stream_port.StreamFault.{StreamFault}
use Rattle.odx_host.specs.Talk.{Talked}
use Rattle.odx_host.specs.Rule.{HostProgram, Asks, Ends, moved, port_fault, rule}
use Rattle.odx_host.specs.Ruled.{AreAsked, after, EndsSo}
use Rattle.odx_host.specs.Linked.{LinkState, IsPushed, Spoke}
use Rattle.odx_host.specs.CopiedOver.{outcome_of, frames_of, ArePushed, HasTalked}

pushed-whole : (result : Result Copied StreamFault) (frames : List ℕ) → ArePushed result frames frames
pushed-whole (Err StreamFault.WriteFault) frames = ([], append-nil frames)
pushed-whole (Err StreamFault.OutOfMemory) frames = ([], append-nil frames)
pushed-whole _ frames = refl

pushed-behind : (result : Result Copied StreamFault) (front frames pushed : List ℕ) → ArePushed result frames pushed → ArePushed result (front ++ frames) (front ++ pushed)
pushed-behind (Err StreamFault.WriteFault) front frames pushed p = (p.0, append_assoc front pushed p.0 ∙ ap (λ l. front ++ l) p.1)
pushed-behind (Err StreamFault.OutOfMemory) front frames pushed p = (p.0, append_assoc front pushed p.0 ∙ ap (λ l. front ++ l) p.1)
pushed-behind _ front frames pushed p = ap (λ l. front ++ l) p

-- ---- the last request

begun : (fault : PortFault) (frame pushed : List ℕ) → IsPushed (Err fault) frame pushed → IsBeginning pushed (frame ++ [])
begun PortFault.OutOfMemory frame pushed (inl none) = (frame ++ [], ap (λ l. l ++ (frame ++ [])) none)
begun PortFault.OutOfMemory frame pushed (inr all) = ([], ap (λ l. l ++ []) all)
begun PortFault.ReadFault frame pushed p = ([], ap (λ l. l ++ []) p)
begun PortFault.WriteFault frame pushed p = (p.rest, p.whole ∙ sym (append-nil frame))
begun PortFault.Ended frame pushed p = ([], ap (λ l. l ++ []) p)
begun PortFault.BadReply frame pushed p = ([], ap (λ l. l ++ []) p)

last-pushed : (fault : PortFault) (frame pushed : List ℕ) → IsPushed (Err fault) frame pushed → ArePushed (outcome_of (Err (port_fault fault))) (frame ++ []) pushed
last-pushed PortFault.OutOfMemory frame pushed p = begun PortFault.OutOfMemory frame pushed p
last-pushed PortFault.ReadFault frame pushed p = p ∙ sym (append-nil frame)
last-pushed PortFault.WriteFault frame pushed p = begun PortFault.WriteFault frame pushed p
last-pushed PortFault.Ended frame pushed p = p ∙ sym (append-nil frame)
last-pushed PortFault.BadReply frame pushed p = p ∙ sym (append-nil frame)

-- ---- all requests

abbrev HasPushed : Result Copied CopyFault → List Talked → LinkState → LinkState → Type 0
HasPushed outcome talk first last = (pushed : List ℕ) × Appends first.taken last.taken pushed × ArePushed (outcome_of outcome) (frames_of talk) pushed

-- behind a fault nothing is asked
at-fault : (request : Request) (fault : PortFault) (answer : Result Reply PortFault) (talk : List Talked) (first between last : LinkState) (pushed : List ℕ) (outcome : Result Copied CopyFault)
    → Appends first.taken between.taken pushed → IsPushed (Err fault) (request_bytes request) pushed → AreAsked (Ends (Err (port_fault fault))) talk → Spoke between talk last
    → EndsSo (after (Ends (Err (port_fault fault))) talk) outcome → HasPushed outcome (record { request = request; answer = answer } ∷ talk) first last
at-fault request fault answer (t ∷ ts) first between last pushed outcome given p asked spoke ended = absurd asked
at-fault request fault answer [] first between last pushed outcome given p asked spoke (inl wanted) = (
  pushed,
  subst (λ (s : LinkState). Appends first.taken s.taken pushed) (sym spoke) given,
  subst (λ o. ArePushed (outcome_of o) (request_bytes request ++ []) pushed) (sym wanted) (begun fault (request_bytes request) pushed p),
)
at-fault request fault answer [] first between last pushed outcome given p asked spoke (inr is) =
    let same : Err (port_fault fault) ≡ outcome = ap ended_as is in (
      pushed,
      subst (λ (s : LinkState). Appends first.taken s.taken pushed) (sym spoke) given,
      subst (λ o. ArePushed (outcome_of o) (request_bytes request ++ []) pushed) same (last-pushed fault (request_bytes request) pushed p),
    )
  where
    ended_as : HostProgram → Result Copied CopyFault
    ended_as (Ends o) = o
    ended_as (Asks again go_on) = outcome

abbrev PushedFrom : HostProgram → List Talked → Type 0
PushedFrom p talk = (first last : LinkState) (outcome : Result Copied CopyFault) → AreAsked p talk → Spoke first talk last → EndsSo (after p talk) outcome → HasPushed outcome talk first last

-- by what a request was answered
by-answer : (request : Request) (go_on : Reply → HostProgram) (answer : Result Reply PortFault) (talk : List Talked) (first between last : LinkState) (pushed : List ℕ) (outcome : Result Copied CopyFault)
    → ((reply : Reply) → PushedFrom (go_on reply) talk) → Appends first.taken between.taken pushed → IsPushed answer (request_bytes request) pushed
    → AreAsked (moved (Asks request go_on) answer) talk → Spoke between talk last → EndsSo (after (moved (Asks request go_on) answer) talk) outcome
    → HasPushed outcome (record { request = request; answer = answer } ∷ talk) first last
by-answer request go_on (Ok reply) talk first between last pushed outcome later given p asked spoke ended =
    let more = later reply between last outcome asked spoke ended in (
      pushed ++ more.0,
      Appends-trans first.taken between.taken last.taken pushed more.0 given more.1,
      subst (λ f. ArePushed (outcome_of outcome) (f ++ frames_of talk) (pushed ++ more.0)) p (pushed-behind (outcome_of outcome) pushed (frames_of talk) more.0 more.2),
    )
by-answer request go_on (Err fault) talk first between last pushed outcome later given p asked spoke ended =
    at-fault request fault (Err fault) talk first between last pushed outcome given p asked spoke ended

talk-pushed : (talk : List Talked) (p : HostProgram) → PushedFrom p talk
talk-pushed [] p first last outcome asked spoke ended = (
  [],
  subst (λ (s : LinkState). Appends first.taken s.taken []) (sym spoke) (Appends-nil first.taken),
  pushed-whole (outcome_of outcome) [],
)
talk-pushed (t ∷ ts) (Ends o) first last outcome asked spoke ended = absurd asked
talk-pushed (t ∷ ts) (Asks request go_on) first last outcome asked spoke ended =
    let s = spoke.1 in
    let all = by-answer t.request go_on t.answer ts first spoke.0 last s.pushed outcome (λ reply. talk-pushed ts (go_on reply)) s.given s.frame asked.1 spoke.2 ended in
    all

pub talked-pushed : (job : CopyJob) (before last : LinkState) (result : Result Copied StreamFault) (h : HasTalked job before last result)
    → (pushed : List ℕ) × Appends before.taken last.taken pushed × ArePushed result (frames_of h.talk) pushed
talked-pushed job before last result h =
    let all = talk-pushed h.talk (rule job) before last h.outcome h.ruled.asked h.spoke h.ruled.ended in
    (all.0, all.1, subst (λ r. ArePushed r (frames_of h.talk) all.0) (sym h.is) all.2)
