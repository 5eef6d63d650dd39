use Rattle.std.proofs.Common.{◌≡◌, ◌∙◌, ap, sym, subst}
use Rattle.std.specs.Prelude.{None, find}
use Rattle.cm_history.specs.Operations.{would_serve}
use Rattle.cm_history.specs.History.{past_of}
use Rattle.copy_jobs.specs.Pieces as next
use Rattle.unit_core.specs.inner.Tables.{jobs_of}
use Rattle.unit_core.proofs.Steps.{known-of}
use Rattle.copy_jobs.specs.Pieces.{IsNextPiece}
use Rattle.unit_core.proofs.Keeping.{served-there}
use Rattle.unit_core.proofs.ServePlans.{piece-plan}
use Rattle.unit_core.proofs.TableAnswers.{piece-found, piece-of, next-is, found-of, none-of, for-piece, no-piece}
use Rattle.unit_core.proofs.inner.Core.plan_piece.Goals as goal

pub write_piece-requires-clause-within : goal.write_piece-requires-clause-within
write_piece-requires-clause-within g c =
    let u = c.args.self.now in
    let h = c.requires.known.0 in
    let a = c.requires.known.1 in
    let past = past_of u.config u.unit h in
    let known = known-of u.config u.unit h a.record_is in
    let told : IsNextPiece c.args.key u.tables.jobs c.in-Some.piece = (rw c.in-Some.is at c.in_ok-piece.ensures.piece) in
    let is : IsNextPiece c.args.key (jobs_of past) c.in-Some.piece = subst (λ js. IsNextPiece c.args.key js c.in-Some.piece) a.jobs told in
    (piece-found u.config u.unit past c.args.key c.in-Some.piece known is).piece.put.within

pub write_piece-requires-clause-few : goal.write_piece-requires-clause-few
write_piece-requires-clause-few g c =
    let u = c.args.self.now in
    let h = c.requires.known.0 in
    let a = c.requires.known.1 in
    let past = past_of u.config u.unit h in
    let known = known-of u.config u.unit h a.record_is in
    let told : IsNextPiece c.args.key u.tables.jobs c.in-Some.piece = (rw c.in-Some.is at c.in_ok-piece.ensures.piece) in
    let is : IsNextPiece c.args.key (jobs_of past) c.in-Some.piece = subst (λ js. IsNextPiece c.args.key js c.in-Some.piece) a.jobs told in
    (piece-found u.config u.unit past c.args.key c.in-Some.piece known is).piece.few

pub returns-in-Some : goal.returns-in-Some
returns-in-Some g c = λ h a.
    let u = c.args.self.now in
    let past = past_of u.config u.unit h in
    let known = known-of u.config u.unit h a.record_is in
    let told : IsNextPiece c.args.key u.tables.jobs c.in-Some.piece = (rw c.in-Some.is at c.in_ok-piece.ensures.piece) in
    let is : IsNextPiece c.args.key (jobs_of past) c.in-Some.piece = subst (λ js. IsNextPiece c.args.key js c.in-Some.piece) a.jobs told in
    rw (c.write_piece.ensures h a) (λ actor at act writes.
    let found = found-of (would_serve past actor act) is.job (sym (next-is u.config u.unit past actor act c.args.key c.args.otherwise known writes) ∙ is.found) in
    let for = for-piece u.config u.unit past actor at act c.args.key c.args.otherwise found.operation writes found.found in
    piece-plan u.config u.unit past actor at act found.operation c.in-Some.piece known for
    (piece-of u.config u.unit past found.operation c.args.key c.in-Some.piece known (served-there u.config u.unit past actor act found.operation known.is found.found) is found.same for.start))

pub returns-in-None : goal.returns-in-None
returns-in-None g c = λ h a.
    let u = c.args.self.now in
    let past = past_of u.config u.unit h in
    let known = known-of u.config u.unit h a.record_is in
    let none : find (next.is_next c.args.key) (jobs_of past) ≡ None = sym (ap (find (next.is_next c.args.key)) a.jobs) ∙ c.in_ok-piece.ensures.none c.in-None.is in
    rw (c.answered.ensures) (λ actor at act writes.
    no-piece u.config u.unit past actor at act c.args.key c.args.otherwise writes (none-of (would_serve past actor act) (sym (next-is u.config u.unit past actor act c.args.key c.args.otherwise known writes) ∙ none)))
