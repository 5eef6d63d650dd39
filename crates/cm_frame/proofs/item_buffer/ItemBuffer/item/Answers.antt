use Rattle.std.proofs.Common.{◌≡◌, ◌++◌, ◌∙◌, ap, sym, subst}
use Rattle.std.specs.Prelude.{IfOk}
use Rattle.cm_frame.specs.Reading.{read_item}
use Rattle.cm_frame.specs.inner.Gathering.{gathered_item, begun_item}
use Rattle.cm_frame.proofs.item_buffer.ItemBuffer.item.Goals as goal

pub returns-in_ok-gather-in-Some-clause-value : goal.returns-in_ok-gather-in-Some-clause-value
returns-in_ok-gather-in-Some-clause-value c =
    let bytes : gathered_item c.gather.new.self ++ c.gather.new.rest ≡ c.args.self.now =
    c.gather.ensures.same ∙ ap (λ l. begun_item l ++ c.self.inside.rest) (sym c.in-Some.is) ∙ c.self.view_is in
    subst (λ b. IfOk c.item.result (λ p. p ≡ read_item b)) bytes (c.item.ensures.value c.gather.new.rest c.in_ok-gather-in-Some.ensures.taken)
