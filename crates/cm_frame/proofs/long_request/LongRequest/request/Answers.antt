use Rattle.std.proofs.Common.{◌≡◌, ◌∙◌, length, ap, sym, subst, arith}
use Rattle.std.specs.Prelude.{IfSome}
use Rattle.cm_base.specs.Fields.{field, part}
use Rattle.cm_frame.specs.inner.DataOut.{so_far}
use Rattle.cm_frame.proofs.LongRequests.{long-whole}
use Rattle.cm_frame.proofs.long_request.LongRequest.request.Goals as goal

pub returns-clause-value : goal.returns-clause-value
returns-clause-value c = λ rest taken.
    let l = c.args.self.now in
    let out = so_far l.whole l.come.items in
    let w = subst (λ f. IfSome f (λ found. (found ≡ out) × (length found ≡ l.wanted))) c.in-Some.is c.in_ok-out.ensures.whole in
    let front = c.in_ok-out.ensures.front.0 in
    let unit : c.get_u16.result ≡ field c.out.new.self.front 4 5 = omega (arith, c.get_u16.ensures) in
    let cdb : c.copy_from_slice.new.self ≡ part 6 16 c.out.new.self.front = c.copy_from_slice.ensures.after in
    rw (unit, cdb, front, w.0) (long-whole l.front out rest l.wanted l.is_front (ap length (sym w.0) ∙ w.1))
