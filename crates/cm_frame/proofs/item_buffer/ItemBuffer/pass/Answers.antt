use Rattle.std.proofs.Common.{◌≡◌, ◌++◌, ◌∙◌, ap, sym}
use Rattle.cm_frame.specs.inner.DataOut.{so_far}
use Rattle.cm_frame.specs.inner.Gathering.{gathered_item, begun_item}
use Rattle.cm_frame.proofs.LongItems.{Leaves, leaves-long, leaves-whole}
use Rattle.cm_frame.proofs.item_buffer.ItemBuffer.pass.Goals.{in-Some, in-None}
use Rattle.cm_frame.proofs.item_buffer.ItemBuffer.pass.Goals as goal

leaves : (c : goal.After-consume-arg-1) → Leaves c.match-self.left c.args.used c.match-self.self-inside.rest c.args.self.now
leaves c = elim c.match-self.branch [
  | in-Some w ↦
      let l = w.in-Some.long in
      let r = l.request in
      let rest = c.self.inside.rest in
      let view : gathered_item l ++ rest ≡ c.args.self.now = ap (λ x. begun_item x ++ rest) (sym w.in-Some.is) ∙ c.self.view_is in
      rw (w.left-is, w.self-inside-is)
      (leaves-long l.start r.front (so_far r.whole r.come.items) rest c.args.self.now r.wanted w.missing-left.result c.args.used l.is_start r.is_front r.few w.missing-left.ensures view c.requires)
  | in-None w ↦
      let view : c.self.inside.rest ≡ c.args.self.now = ap (λ x. begun_item x ++ c.self.inside.rest) (sym w.in-None.is) ∙ c.self.view_is in
      rw (w.left-is, w.self-inside-is) (leaves-whole c.self.inside.rest c.args.self.now c.args.used view c.requires)
]

pub consume-requires : goal.consume-requires
consume-requires c = (leaves c).within

pub returns : goal.returns
returns c = c.consume.ensures ∙ (leaves c.before).behind
