use Rattle.std.proofs.Common.{◌≡◌, ℕ, ◌+◌, ◌-◌, ◌≤◌, List, length, take, drop, sym, ap, ◌∙◌, arith, length-drop}
use Rattle.std.specs.Prelude.{slice_range}
use Rattle.copymgr.specs.AtHand.{Left}
use Rattle.copymgr.proofs.Spelled.{pulled}
use Rattle.copymgr.proofs.ends.AtHandSource.pull.Goals as goal

pub returns-clause-taken : goal.returns-clause-taken
returns-clause-taken c =
    let at = c.self.inside.at in
    let n = c.min-count.result in
    let bytes = c.self.inside.bytes in
    let within : n ≤ length (drop at bytes) = omega (arith, length-drop at bytes, c.min-count.ensures, c.len.ensures, c.self.invariant) in
    let width : (at + n) - at ≡ n = omega arith in
    let copied : c.copy_from_slice.new.self ≡ take n (drop at bytes) =
    c.copy_from_slice.ensures.after ∙ ap (λ (l : List ℕ). slice_range l at (at + n)) c.as_slice.ensures ∙ ap (λ k. take k (drop at bytes)) width in
    ap (λ (s : Left). s.left) (sym c.self.view_is) ∙ pulled bytes c.args.into.now c.copy_from_slice.new.self at n copied within
