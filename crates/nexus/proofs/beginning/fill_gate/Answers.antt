use Rattle.std.proofs.Common.{[], ◌++◌, ap, sym, ◌∙◌, subst}
use contract.BorrowLft.{⊑_static, ⊑_meet}
use Rattle.turn_gate.specs.inner.Seats.{first_seat}
use Rattle.unit_gate.specs.Recorded.{StandsFor, marks_of}
use Rattle.nexus.specs.inner.Building.{BegunState}
use Rattle.nexus.proofs.beginning.fill_gate.Goals as goal

pub fill-requires : goal.fill-requires
fill-requires g c = λ κs within.
    let κ = κs.0 in
    let lives = g.row.R.lives in
    let none = ⊑_static κ in
    let one = ⊑_meet κ lives [] within none in
    let two = ⊑_meet κ (lives ++ []) [] one none in
    let three = ⊑_meet κ ((lives ++ []) ++ []) [] two none in
    let both = ⊑_meet κ (lives ++ []) (((lives ++ []) ++ []) ++ []) one three in
    let last = ⊑_meet κ ((lives ++ []) ++ (((lives ++ []) ++ []) ++ [])) [] both none in
    let more = ⊑_meet κ lives (((lives ++ []) ++ (((lives ++ []) ++ []) ++ [])) ++ []) within last in
    let stands = subst (λ (b : BegunState). StandsFor b.unit g.opening) (sym c.begun.view_is) c.requires.1.1 in
    let same = ap (λ (b : BegunState). b.unit) c.begun.view_is ∙ c.requires.1.0 in
    (⊑_meet κ (lives ++ []) (lives ++ (((lives ++ []) ++ (((lives ++ []) ++ []) ++ [])) ++ [])) one more, (⊑_static κs.1.0, (⊑_static κs.1.1.0, (same, stands))))

pub returns-clause-seat : goal.returns-clause-seat
returns-clause-seat g c = c.fill.ensures.seat ∙ ap (λ (b : BegunState). first_seat c.fill.result.0 g.opening (marks_of b.unit)) c.begun.view_is
