use Rattle.std.proofs.Common.{◌≡◌, ◌+◌, ◌-◌, length, List, ap, ◌∙◌, arith}
use Rattle.std.proofs.lemmas.List.{length-append}
use Rattle.cm_base.specs.Memory.{Ends, Listening}
use Rattle.cm_base.proofs.memory_listener.MemoryListenerListener.done.Goals as goal

pub append-requires : goal.append-requires
append-requires c =
    let out : c.self.inside.links - (length c.self.inside.waiting.items + length c.self.inside.gone.items) ≡ c.args.self.now.out = ap (λ (l : Listening). l.out) c.self.view_is in
    omega (arith, out, c.requires, c.self.invariant.2)

pub invariant_of-self : goal.invariant_of-self
invariant_of-self c =
    let out : c.self.inside.links - (length c.self.inside.waiting.items + length c.self.inside.gone.items) ≡ c.args.self.now.out = ap (λ (l : Listening). l.out) c.self.view_is in
    let len : length c.append.new.self.items ≡ length c.self.inside.gone.items + 1 =
    ap (λ (l : List Ends). length l) c.append.ensures.added ∙ length-append c.self.inside.gone.items _ in
    (c.self.invariant.0, omega (arith, out, len, c.requires, c.self.invariant.1), omega (arith, len, c.append.ensures.room, c.self.invariant.2))
