use Rattle.std.proofs.Common.{◌≡◌, ◌==◌, ◌∙◌, sym, ap, arith, length, false}
use Rattle.std.specs.Prelude.{Some, min}
use Rattle.std.proofs.lemmas.Bool.{ne_eqb}
use Rattle.trace_check.specs.Verdict.{first_difference}
use Rattle.trace_check.proofs.Differing.{ends-at}
use Rattle.trace_check.proofs.comparing.first_difference.Goals as goal

pub returns-else-expected-found : goal.returns-else-expected-found
returns-else-expected-found c =
    let n = c.loop-place.place in
    let end : n ≡ c.min-common.result = omega (arith, c.loop-place-test.false, c.loop-place.auto.place-end) in
    let least : min (length c.args.expected.now) (length c.args.found.now) ≡ n = omega (arith, c.min-common.ensures, end) in
    let other : (length c.args.expected.now == length c.args.found.now) ≡ false = ne_eqb _ _ (λ e. omega (arith, e, c.if-expected-found.false)) in
    ap Some (sym end) ∙ sym (ends-at n c.args.expected.now c.args.found.now c.loop-place.invariant least other)
