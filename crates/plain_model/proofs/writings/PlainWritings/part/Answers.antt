use Rattle.std.proofs.Common.{◌≡◌, ◌+◌, ◌++◌, ◌∷◌, [], ◌∙◌, ap, sym, arith, List, take, drop, length}
use Rattle.std.specs.Prelude.{map}
use Rattle.std.proofs.lemmas.List.{length-map, length-take-le}
use Rattle.lba_ranges.specs.Writings.{Writing}
use Rattle.plain_model.specs.inner.Writings.{writing_of}
use Rattle.plain_model.proofs.Loops.{taken-more, part-in, part-before, part-behind}
use Rattle.plain_model.proofs.writings.PlainWritings.part.Goals as goal
use Rattle.plain_model.proofs.writings.PlainWritings.part.Goals.{then-from-place+then-place-from+in_ok-shared+in_ok-push, else-from-place, else-from-place-via-then-from-place+else-place-from, else-from-place-via-else-from-place}

pub loop-place-preserved : goal.loop-place-preserved
loop-place-preserved c =
    let ws = c.deref-writing-items.result.now in
    let i = c.loop-place.place in
    let x = c.writing-item.result in
    let front : List Writing = map writing_of (take i ws) in
    let from = c.args.from in
    let count = c.args.count in
    let long : length front ≡ i = length-map (take i ws) writing_of ∙ length-take-le i ws (omega arith) in
    let more : take count (drop from (map writing_of (take (i + 1) ws))) ≡ take count (drop from (front ++ writing_of x ∷ [])) =
    ap (λ (l : List Writing). take count (drop from l)) (taken-more ws i x c.loop-place-test.true c.writing-item.is) in
    elim c.if-from-place.branch [
      | then-from-place+then-place-from+in_ok-shared+in_ok-push w ↦
          let held = w.in_ok-shared.ensures ∙ w.as_ref.ensures.value in
          w.part-is ∙ w.in_ok-push.ensures
          ∙ ap (λ held. c.loop-place.part ++ (record { block = x.block; held = held }) ∷ []) held
          ∙ ap (λ (l : List Writing). l ++ writing_of x ∷ []) c.loop-place.invariant
          ∙ sym (more ∙ part-in front from count (writing_of x) (omega (arith, long)) (omega (arith, long)))
      | else-from-place w ↦
          let behind : take count (drop from (front ++ writing_of x ∷ [])) ≡ take count (drop from front) =
          elim w.else-from-place.branch [
            | else-from-place-via-then-from-place+else-place-from v ↦ part-behind front from count (writing_of x) (omega (arith, long)) (omega (arith, long))
            | else-from-place-via-else-from-place v ↦ part-before front from count (writing_of x) (omega (arith, long))
          ] in
          w.part-is ∙ c.loop-place.invariant ∙ sym (more ∙ behind)
    ]
