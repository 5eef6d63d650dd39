-- What was judged of a connection's bytes stays, whatever comes behind
use Rattle.std.proofs.Common.{◌≡◌, ℕ, List, ◌++◌, ap, sym, ◌∙◌, append_assoc, Result, Ok, Err}
use Rattle.std.specs.Prelude.{OnOk, OnErr}
use Rattle.cm_frame.specs.Laws.{IsJudged}
use Rattle.cm_frame.specs.Reading.{read_request}
use Rattle.cm_frame.proofs.Stays.{request-stays}

-- more bytes came behind those that were gathered and those that wait
pub joined-stays : (front rest more new now : List ℕ) → new ≡ rest ++ more → front ++ rest ≡ now → IsJudged (read_request now)
    → read_request (front ++ new) ≡ read_request now
joined-stays front rest more new now came view judged =
    ap (λ r. read_request (front ++ r)) came ∙ ap read_request (sym (append_assoc front rest more)) ∙ ap (λ b. read_request (b ++ more)) view
    ∙ request-stays now more judged

pub fed-stays : {A E : Type 0} (r : Result A E) (front rest piece new now : List ℕ) → OnOk r (new ≡ rest ++ piece) → OnErr r (new ≡ rest) → front ++ rest ≡ now
    → IsJudged (read_request now) → read_request (front ++ new) ≡ read_request now
fed-stays {A} {E} (Ok x) front rest piece new now ok err view judged = joined-stays front rest piece new now ok view judged
fed-stays {A} {E} (Err e) front rest piece new now ok err view judged = ap (λ r. read_request (front ++ r)) err ∙ ap read_request view
