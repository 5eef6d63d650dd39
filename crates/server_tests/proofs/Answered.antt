-- The links of a listener that tells of them were answered
use Rattle.std.proofs.Common.{◌≡◌, ◌<◌, ◌≤◌, ℕ, suc, List, [], ◌∷◌, ◌++◌, length, map, refl, sym, ◌∙◌, ap, subst, arith}
use Rattle.std.specs.Prelude.{All, None, Option, Some}
use Rattle.std.proofs.lemmas.List.{length-map}
use Rattle.cm_base.specs.Configuration.{Configuration}
use Rattle.cm_base.specs.Listening.{Gone}
use Rattle.cm_frame.specs.Framing.{framed}
use Rattle.cm_history.specs.declared.act.Entry.{Entry}
use Rattle.cmd_program.specs.Conversations.{Folding}
use Rattle.cmd_program.specs.Exchanges.{requests_of}
use Rattle.cmd_program.specs.Stepping.{Stepping}
use Rattle.cm_server.specs.Served.{AreServed}
use Rattle.cm_server.specs.Talks.{AreRequestsIn, IsTalk, Talk}
use Rattle.cm_server.specs.Serving.{IfReported}
use Rattle.cm_server.specs.declared.status.Status.{Status}
use Rattle.cm_server.specs.declared.term.Term.{Term}
use Rattle.server_tests.specs.inner.Links.{AreAnswered, AreFirstAnswered, IsAnswered}
use Rattle.session.specs.Spoken.{ArePushed}
use Rattle.session.specs.declared.end.SessionEnd.{SessionEnd}
use Rattle.session.specs.declared.end.SessionFault.{SessionFault}

is-answered : (t : Talk) → IsTalk t → IsAnswered t.coming t.gone
is-answered t is = record {
  exchanges = t.conversation.exchanges;
  fault = t.end.fault;
  requests = is.requests;
  replies = is.replies;
  whole = λ none. (
    (subst (λ (f : Option SessionFault). AreRequestsIn (framed t.coming) (requests_of t.conversation.exchanges) f) none is.requests).0,
    subst (λ (f : Option SessionFault). ArePushed t.conversation.exchanges t.gone.taken f) none is.replies,
  );
}

are-answered : (ts : List Talk) → All IsTalk ts → AreAnswered (map (λ (t : Talk). t.coming) ts) (map (λ (t : Talk). t.gone) ts)
are-answered [] all = tt
are-answered (t ∷ ts) all = (is-answered t (all 0 t (omega arith)), are-answered ts (λ k d low. all (suc k) d (omega (arith, low))))

-- what serving owes of links of which it is told, none of which were given back before
pub first-answered : (step : Stepping) (config : Configuration) (Legal : List Entry → Type 0) (Folds : Folding) (opening entries : List Entry) (first n : ℕ)
    (coming rest : List (List ℕ)) (before after : List Gone) (ends : List SessionEnd)
    → AreServed step config Legal Folds Term.Counted opening entries first coming rest before after ends → before ≡ [] → length ends ≡ n → 1 ≤ n → AreFirstAnswered coming after
first-answered step config Legal Folds opening entries first n coming rest before after ends served none count some =
    let talks = served.talks in
    let all = length-map talks (λ (t : Talk). t.coming) in
    let those = length-map talks (λ (t : Talk). t.end) in
    let these = ap (λ (l : List SessionEnd). length l) served.ended in
    record {
      served = map (λ (t : Talk). t.coming) talks;
      rest = rest;
      first = served.accepted ∙ ap (λ l. l ++ rest) (served.ordered refl).over;
      some = omega (arith, all, those, these, count, some);
      answered = subst (AreAnswered (map (λ (t : Talk). t.coming) talks)) (sym (served.given_back ∙ ap (λ l. l ++ map (λ (t : Talk). t.gone) talks) none)) (are-answered talks served.each);
    }

answered-long : (served : List (List ℕ)) (ended : List Gone) → AreAnswered served ended → length served ≡ length ended
answered-long [] [] all = refl
answered-long [] (g ∷ gs) all = absurd all
answered-long (b ∷ bs) [] all = absurd all
answered-long (b ∷ bs) (g ∷ gs) all = ap suc (answered-long bs gs all.1)

-- so one at least was given back
pub some-given : (coming : List (List ℕ)) (ended : List Gone) → AreFirstAnswered coming ended → 0 < length ended
some-given coming ended is = let long = answered-long is.served ended is.answered in let some = is.some in omega (arith, long, some)

-- what is said where a report was pushed is so at a good end
pub at-done : (status : Status) (P Q : Type 0) → status ≡ Status.Done → IfReported status P → (P → Q) → Q
at-done status P Q done said goes = goes (subst (λ (s : Status). IfReported s P) done said)
