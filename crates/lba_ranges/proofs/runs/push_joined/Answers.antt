use Rattle.std.proofs.Common.{refl}
use Rattle.lba_ranges.proofs.Cells.{items_of-push, AllFull-push}
use Rattle.lba_ranges.proofs.Spanning.{pieces_of-append, Spans-push}
use Rattle.lba_ranges.proofs.runs.push_joined.Goals as goal

pub returns-then-widen_hole-clause-full : goal.returns-then-widen_hole-clause-full
returns-then-widen_hole-clause-full c size all full = c.if-widen_hole.ensures.full size all

pub returns-clause-items : goal.returns-clause-items
returns-clause-items c size = rw (c.in_ok-push.ensures.ok, pieces_of-append, items_of-push, c.if-widen_hole.ensures.kept refl) refl

pub returns-clause-full : goal.returns-clause-full
returns-clause-full c size all full = rw (c.in_ok-push.ensures.ok, pieces_of-append) (AllFull-push _ _ _ (c.if-widen_hole.ensures.full size all) full)

pub returns-clause-spans : goal.returns-clause-spans
returns-clause-spans c before spans e = rw (c.in_ok-push.ensures.ok, c.if-widen_hole.ensures.kept refl) (Spans-push 0 before _ _ spans e)
