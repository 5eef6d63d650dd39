use Rattle.std.proofs.Common.{refl, suc, sym, ◌∙◌, ap, subst, map, length}
use Rattle.std.proofs.lemmas.List.{length-map}
use Rattle.merged_history.specs.inner.Merging.{IsLeast, AreDone}
use Rattle.merged_history.proofs.Taking.{get-low, so_far-none, is_at, round, so_far-all}
use Rattle.merged_history.proofs.merging.merge.Goals as goal

pub loop-unit-init : goal.loop-unit-init
loop-unit-init g c =
    rw (c.empty-merged.ensures) (so_far-none (map g.T.Kept.entries c.args.units.now) c.in_ok-at.at.items (length c.args.units.now) (c.in_ok-at.ensures.items_if_clones_equal (λ y e. e)) (sym (length-map c.args.units.now g.T.Kept.entries)))

pub taken-requires : goal.taken-requires
taken-requires g c =
    let hs = map g.T.Kept.entries c.args.units.now in
    let next = c.in-Some.ensures in
    let here = is_at g.T.Kept.entries c.args.units.now c.loop-unit.at.items c.as_slice.result.now c.in-Some.unit c.index-units-unit.result c.index.result.now next.0 _ c.loop-unit.merged.entries c.loop-unit.invariant c.as_slice.ensures.value refl next.1 c.index-units-unit.is c.index.ensures in
    let least = subst (λ a. IsLeast hs a (length c.args.units.now) c.in-Some.unit next.0) c.as_slice.ensures.value next.1 in
    get-low _ _ next.0 (here.head_is ∙ least.has)

pub loop-unit-smaller : goal.loop-unit-smaller
loop-unit-smaller g c =
    let hs = map g.T.Kept.entries c.args.units.now in
    let next = c.in-Some.ensures in
    let here = is_at g.T.Kept.entries c.args.units.now c.loop-unit.at.items c.as_slice.result.now c.in-Some.unit c.index-units-unit.result c.index.result.now next.0 _ c.loop-unit.merged.entries c.loop-unit.invariant c.as_slice.ensures.value refl next.1 c.index-units-unit.is c.index.ensures in
    let least = subst (λ a. IsLeast hs a (length c.args.units.now) c.in-Some.unit next.0) c.as_slice.ensures.value next.1 in
    let counted = subst (λ n. IsLeast hs c.loop-unit.at.items n c.in-Some.unit next.0) (sym (length-map c.args.units.now g.T.Kept.entries)) least in
    let r = round hs c.loop-unit.at.items c.in-Some.unit c.in_ok-entry.next next.0 c.in_ok-entry.entry c.loop-unit.merged.entries c.requires c.loop-unit.invariant counted (sym here.head_is ∙ c.in_ok-entry.ensures.entry) (c.in_ok-entry.ensures.next ∙ ap suc here.place_is) in
    r.fewer

pub loop-unit-preserved : goal.loop-unit-preserved
loop-unit-preserved g c =
    let hs = map g.T.Kept.entries c.args.units.now in
    let next = c.in-Some.ensures in
    let here = is_at g.T.Kept.entries c.args.units.now c.loop-unit.at.items c.as_slice.result.now c.in-Some.unit c.index-units-unit.result c.index.result.now next.0 _ c.loop-unit.merged.entries c.loop-unit.invariant c.as_slice.ensures.value refl next.1 c.index-units-unit.is c.index.ensures in
    let least = subst (λ a. IsLeast hs a (length c.args.units.now) c.in-Some.unit next.0) c.as_slice.ensures.value next.1 in
    let counted = subst (λ n. IsLeast hs c.loop-unit.at.items n c.in-Some.unit next.0) (sym (length-map c.args.units.now g.T.Kept.entries)) least in
    let r = round hs c.loop-unit.at.items c.in-Some.unit c.in_ok-entry.next next.0 c.in_ok-entry.entry c.loop-unit.merged.entries c.requires c.loop-unit.invariant counted (sym here.head_is ∙ c.in_ok-entry.ensures.entry) (c.in_ok-entry.ensures.next ∙ ap suc here.place_is) in
    rw (c.append.ensures.added, c.in_ok-reserve.ensures.same) r.kept

pub returns : goal.returns
returns g c =
    let hs = map g.T.Kept.entries c.args.units.now in
    let done = subst (λ a. AreDone hs a (length c.args.units.now)) c.as_slice.ensures.value c.in_default.ensures in
    let counted = subst (λ n. AreDone hs c.loop-unit.at.items n) (sym (length-map c.args.units.now g.T.Kept.entries)) done in
    so_far-all hs c.loop-unit.at.items c.loop-unit.merged.entries c.loop-unit.invariant counted
