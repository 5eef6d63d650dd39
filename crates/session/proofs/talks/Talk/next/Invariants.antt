use Rattle.std.proofs.Common.{◌≡◌, ◌-◌, List, length}
use Rattle.std.specs.Prelude.{ℕ, Option}
use Rattle.cm_frame.specs.declared.frame.Request.{Request}
use Rattle.cm_frame.specs.Framing.{frames_limit}
use Rattle.session.specs.inner.Talking.{IsHeard}
use Rattle.session.proofs.talks.Talk.next.Given as goal

abbrev pub invariant-pulls : goal.invariant-pulls
invariant-pulls g l =
    ((left : Option (List ℕ)) (requests : List Request)
    → IsHeard left (g.K.Source.left l.initial.link) requests (frames_limit - l.initial.self.frames) l.initial.self.input
    → IsHeard left (g.K.Source.left l.link) requests (frames_limit - l.initial.self.frames) l.self.input)
    × (g.K.Source.read_faults l.link ≡ g.K.Source.read_faults l.initial.link)
    × (g.K.Source.unpulled l.link ≡ g.K.Source.unpulled l.initial.link)
    × (l.self.frames ≡ l.initial.self.frames)

abbrev pub decreases-pulls : goal.decreases-pulls
decreases-pulls g l = 8_388_631 - length l.self.input
