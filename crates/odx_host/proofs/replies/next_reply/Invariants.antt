use Rattle.std.proofs.Common.{◌≡◌, ◌-◌, ◌++◌, List, length}
use Rattle.std.specs.Prelude.{ℕ}
use Rattle.std.specs.Io.KnownBytes.{Consumes}
use Rattle.odx_host.proofs.replies.next_reply.Given as goal

abbrev pub invariant-pulls : goal.invariant-pulls
invariant-pulls g l = record {
  pulled : (pulled : List ℕ) × Consumes (g.S.Source.left l.initial.source) (g.S.Source.left l.source) pulled × (l.input ≡ l.initial.input ++ pulled);
  reads : g.S.Source.read_faults l.source ≡ g.S.Source.read_faults l.initial.source;
  apart : g.S.Source.unpulled l.source ≡ g.S.Source.unpulled l.initial.source;
}

abbrev pub decreases-pulls : goal.decreases-pulls
decreases-pulls g l = 8_388_615 - length l.input
