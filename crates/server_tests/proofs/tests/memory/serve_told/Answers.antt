use Rattle.std.proofs.Common.{◌≡◌, map, arith, ap, length, subst}
use Rattle.std.proofs.lemmas.List.{length-map}
use Rattle.cm_base.specs.Memory.{gone_of}
use Rattle.cm_server.specs.Serving.{WereServed}
use Rattle.cm_server.specs.declared.status.Status.{Status}
use Rattle.cm_server.specs.declared.term.Term.{Term}
use Rattle.server_tests.proofs.Answered.{at-done, first-answered, some-given}
use Rattle.server_tests.proofs.tests.memory.serve_told.Goals as goal

pub returns-clause-answered : goal.returns-clause-answered
returns-clause-answered g c = λ done none.
    at-done c.serve_at.result _ _ done c.serve_at.ensures.served
    (λ told. first-answered _ _ _ _ _ told.4.entries _ told.0 _ _ _ _ told.4.ends told.4.links (ap (map gone_of) none) (subst (λ (s : Status). WereServed Term.Counted s told.0 (length told.4.ends)) done told.4.reported.served) told.2.few.0)

pub returns-clause-some : goal.returns-clause-some
returns-clause-some g c = λ done none.
    at-done c.serve_at.result _ _ done c.serve_at.ensures.served
    (λ told. (let links = first-answered _ _ _ _ _ told.4.entries _ told.0 _ _ _ _ told.4.ends told.4.links (ap (map gone_of) none) (subst (λ (s : Status). WereServed Term.Counted s told.0 (length told.4.ends)) done told.4.reported.served) told.2.few.0 in
    let some = some-given _ _ links in
    let long = length-map c.serve_at.new.listener.gone gone_of in
    omega (arith, some, long)))
