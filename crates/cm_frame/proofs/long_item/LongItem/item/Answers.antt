use Rattle.std.proofs.Common.{◌≡◌, ◌+◌, ◌++◌, ◌∙◌, ap, sym, subst, arith, Some, None}
use Rattle.cm_base.specs.Fields.{field}
use Rattle.cm_frame.specs.inner.DataOut.{read_as}
use Rattle.cm_frame.specs.inner.Gathering.{gathered}
use Rattle.cm_frame.specs.Reading.{read_request, begin_in}
use Rattle.cm_frame.proofs.LongItems.{item-of-request}
use Rattle.cm_frame.proofs.long_item.LongItem.item.Goals as goal

pub returns-in_default-clause-value : goal.returns-in_default-clause-value
returns-in_default-clause-value c = λ rest taken.
    let l = c.args.self.now in
    let r = l.request in
    let read : read_request (gathered r ++ rest) ≡ read_as None r.wanted =
    subst (λ f. read_request (gathered r ++ rest) ≡ read_as f r.wanted) c.in_default.is (c.in_ok-request.ensures.value rest taken) in
    sym (item-of-request l.start (gathered r) rest l.is_start ∙ ap (begin_in l.start) read)

pub returns-clause-value : goal.returns-clause-value
returns-clause-value c = λ rest taken.
    let l = c.args.self.now in
    let r = l.request in
    let read : read_request (gathered r ++ rest) ≡ read_as (Some c.in-Some.request) r.wanted =
    subst (λ f. read_request (gathered r ++ rest) ≡ read_as f r.wanted) c.in-Some.is (c.in_ok-request.ensures.value rest taken) in
    let initiator : c.get_u32.result ≡ field l.start 1 4 = omega (arith, c.get_u32.ensures) in
    let moment : c.get_u64.result ≡ field l.start 5 12 = omega (arith, c.get_u64.ensures) in
    let len : c.len.result ≡ 22 + r.wanted = c.len.ensures ∙ ap (λ w. 22 + w) c.in_ok-request.ensures.wanted in
    rw (initiator, moment, len) (sym (item-of-request l.start (gathered r) rest l.is_start ∙ ap (begin_in l.start) read))
