use Rattle.std.proofs.Common.{◌≡◌, ◌+◌, ◌*◌, ◌-◌, ◌++◌, ◌∷◌, [], List, drop, ap, sym, ◌∙◌, append_assoc}
use Rattle.lba_ranges.specs.declared.ranges.Range.{Range}
use Rattle.copy_plan.specs.Reading.{extents_in, extent_in}
use Rattle.copy_plan.proofs.ReadExtents.{rest-of, extent-step}
use Rattle.copy_plan.proofs.reading.extents_in.Goals as goal

pub loop-index-preserved : goal.loop-index-preserved
loop-index-preserved c =
    let bytes = c.args.bytes.now in
    let index = c.loop-index.index in
    let extents : List Range = c.loop-index.extents.items in
    let later = extents_in (c.args.count - (index + 1)) (drop (12 * (index + 1)) bytes) in
    let one : c.extent_in.result ≡ extent_in (drop (12 * index) bytes) = c.extent_in.ensures ∙ ap extent_in (rest-of (12 * index) bytes) in
    let pushed : c.push.new.self.items ≡ extents ++ c.extent_in.result ∷ [] = c.in_ok-push.ensures.items in
    ap (λ (l : List Range). l ++ later) pushed
    ∙ append_assoc extents (c.extent_in.result ∷ []) later
    ∙ ap (λ (e : Range). extents ++ (e ∷ later)) one
    ∙ ap (λ (l : List Range). extents ++ l) (sym (extent-step c.args.count index bytes c.loop-index-test.true))
    ∙ c.loop-index.invariant
