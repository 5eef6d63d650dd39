use Rattle.std.proofs.Common.{◌≡◌, ◌+◌, ◌++◌, ◌∙◌, length, drop, ap, sym, subst, arith, Some, List, ℕ, drop_at}
use Rattle.std.specs.Prelude.{IfSome}
use Rattle.std.proofs.lemmas.List.{length-append}
use Rattle.cm_frame.specs.inner.DataOut.{read_as}
use Rattle.cm_frame.specs.inner.Gathering.{gathered, begun}
use Rattle.cm_frame.specs.Reading.{read_request}
use Rattle.cm_frame.proofs.framing.Framer.take.Goals as goal

pub returns-clause-taken : goal.returns-clause-taken
returns-clause-taken c =
    let now = c.args.self.now in
    let l = c.gather.new.self in
    let rest = c.gather.new.rest in
    let used = 22 + l.wanted in
    let view : gathered l ++ rest ≡ now = c.gather.ensures.same ∙ ap (λ x. begun x ++ c.self.inside.rest) (sym c.in-Some.is) ∙ c.self.view_is in
    let read : read_request (gathered l ++ rest) ≡ read_as (Some c.in-Some-2.request) l.wanted =
    subst (λ f. read_request (gathered l ++ rest) ≡ read_as f l.wanted) c.in-Some-2.is (c.in_ok-request.ensures.value rest c.in_ok-gather.ensures.taken) in
    let all : length (gathered l) ≡ used =
    subst (λ f. IfSome f (λ request. length (gathered l) ≡ 22 + l.wanted)) c.in-Some-2.is c.in_ok-request.ensures.all in
    let len : length now ≡ length (gathered l) + length rest = ap (λ (b : List ℕ). length b) (sym view) ∙ length-append (gathered l) rest in
    (used, ap read_request (sym view) ∙ read, omega (arith, len, all), sym (ap (drop used) (sym view) ∙ drop_at (gathered l) rest used all))
