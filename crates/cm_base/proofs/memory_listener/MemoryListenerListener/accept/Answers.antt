use Rattle.std.proofs.Common.{◌≡◌, suc, ◌∷◌, length, List, subst, ap, arith}
use Rattle.std.specs.Prelude.{All}
use Rattle.cm_base.specs.Memory.{Ends, IsFresh}
use Rattle.cm_base.proofs.memory_listener.MemoryListenerListener.accept.Goals as goal

pub invariant_of-self-in-Some : goal.invariant_of-self-in-Some
invariant_of-self-in-Some c =
    let rest = c.pop_front.new.self.items in
    let was : c.self.inside.waiting.items ≡ c.in-Some.link ∷ rest = c.in-Some.ensures.items in
    let fresh : All IsFresh (c.in-Some.link ∷ rest) = subst (λ (l : List Ends). All IsFresh l) was c.self.invariant.0 in
    let len : length c.self.inside.waiting.items ≡ suc (length rest) = ap (λ (l : List Ends). length l) was in
    (λ k d within. fresh (suc k) d (omega (arith, within)), omega (arith, c.self.invariant.1, len), c.self.invariant.2)
