use Rattle.std.proofs.Common.{◌≡◌, ◌+◌, ◌-◌, ◌++◌, length, take, List, ℕ, ap, ◌∙◌, arith}
use Rattle.std.proofs.lemmas.List.{take_all}
use Rattle.cm_base.specs.inner.Windows.{held}
use Rattle.cm_base.proofs.Windows.{grown_vec}
use Rattle.cm_base.proofs.window.Window.append.Goals as goal

pub returns : goal.returns
returns c =
    let w = c.args.self.now in
    let piece = c.args.piece.now in
    let n = length piece in
    let put = c.copy_from_slice.new.self in
    let is : put ≡ piece = c.copy_from_slice.ensures.after in
    let len : length put ≡ n = ap (λ (l : List ℕ). length l) is in
    let whole : take n put ≡ piece = ap (take n) is ∙ take_all n piece (omega arith) in
    grown_vec w.bytes _ put w.start w.end (w.end + n - w.end) n c.deref_mut.ensures.value c.copy_from_slice.auto.self w.ordered w.within (omega (arith, len))
    ∙ ap (λ l. held w ++ l) whole
