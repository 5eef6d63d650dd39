use Rattle.std.proofs.Common.{◌≡◌, ◌+◌, ◌<◌, ◌++◌, length, take, suc, ap, ◌∙◌, append_assoc, arith, List, ℕ}
use Rattle.std.specs.Prelude.{flat_map, slice_get}
use Rattle.byteorder.specs.Endian.{big_bytes}
use Rattle.cm_base.specs.Units.{told}
use Rattle.cm_frame.specs.Grammar.{header_text, unit_bytes}
use Rattle.cm_frame.proofs.UnitSteps.{flat-more}
use Rattle.cm_frame.proofs.header.write_header.Goals as goal

pub loop-unit-preserved : goal.loop-unit-preserved
loop-unit-preserved c =
    let units = c.args.config.now.units in
    let i = c.loop-unit.unit in
    let front = header_text ++ c.args.config.now.secret ++ big_bytes 2 (length units) in
    let within : i < length units = omega (arith, c.loop-unit-test.true, c.units-unit-end.ensures.count) in
    let bytes : c.unit_bytes.result ≡ unit_bytes (told (slice_get units i)) = c.unit_bytes.ensures ∙ ap unit_bytes c.unit.ensures.told in
    let next : suc i ≡ i + 1 = omega arith in
    c.in_ok-extend-4.ensures.ok
    ∙ ap (λ (l : List ℕ). l ++ c.unit_bytes.result) c.loop-unit.invariant
    ∙ ap (λ (l : List ℕ). (front ++ flat_map unit_bytes (take i units)) ++ l) bytes
    ∙ append_assoc front (flat_map unit_bytes (take i units)) (unit_bytes (told (slice_get units i)))
    ∙ ap (λ (l : List ℕ). front ++ l) (flat-more unit_bytes units i within)
    ∙ ap (λ n. front ++ flat_map unit_bytes (take n units)) next
