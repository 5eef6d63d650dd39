use Rattle.std.proofs.Common.{◌≡◌, ◌<◌, ◌≤◌, ◌^◌, ◌++◌, ◌∷◌, [], ◌∙◌, ap, sym, subst, arith, true, length, slice_set, List}
use Rattle.cm_base.specs.Configuration.{Configuration}
use Rattle.cm_base.specs.declared.config.UnitConfig.{UnitConfig}
use Rattle.cm_base.specs.Units.{unit_of}
use Rattle.cm_history.specs.declared.act.Entry.{Entry}
use Rattle.cm_history.specs.Limits.{within_limits}
use Rattle.plain_model.specs.Holds.{PlayedUnits}
use Rattle.plain_model.specs.inner.Fitting.{Fits}
use Rattle.plain_model.specs.inner.Pasts.{HavePlayed}
use Rattle.plain_model.proofs.UnitLists.{IsFound, follows-at, grown-at}
use Rattle.plain_model.proofs.units.PlainUnits.add.Goals as goal

pub add-requires-clause-follows : goal.add-requires-clause-follows
add-requires-clause-follows c =
    let config = c.self.inside.config in
    let entries = c.self.inside.entries.items in
    let same = ap (λ (v : PlayedUnits). v.config) c.self.view_is in
    let next : Entry = c.next_entry-next.result in
    let act : next.act ≡ c.args.act = ap (λ (x : Entry). x.act) c.next_entry-next.ensures in
    let limits = c.unit.ensures.limits.blocks in
    let told = ap (λ (u : UnitConfig). u.blocks) c.unit.ensures.told in
    let few : (unit_of config c.args.unit).blocks ≤ 2 ^ 64 = omega (arith, limits.1, told) in
    let fits : Fits config c.args.unit c.args.act = record { limits = subst (λ (k : Configuration). within_limits k c.args.unit c.args.act ≡ true) (sym same) c.requires.limits; sized = c.blocks_brought.ensures } in
    let found : IsFound config entries c.self.inside.units.items c.args.unit c.from-place.result c.index_mut.result.now = record {
      have = c.self.invariant;
      configured = subst (λ (k : Configuration). c.args.unit < length k.units) (sym same) c.requires.configured;
      here = c.from-place.ensures;
      value = c.index_mut.ensures.value;
    } in
    follows-at config entries c.self.inside.units.items c.args.unit c.from-place.result c.index_mut.result.now next found few (subst (Fits config c.args.unit) (sym act) fits)

pub invariant_of-self-3 : goal.invariant_of-self-3
invariant_of-self-3 c =
    let config = c.self.inside.config in
    let entries = c.self.inside.entries.items in
    let same = ap (λ (v : PlayedUnits). v.config) c.self.view_is in
    let next : Entry = c.next_entry-next.result in
    let act : next.act ≡ c.args.act = ap (λ (x : Entry). x.act) c.next_entry-next.ensures in
    let mine : next.unit ≡ c.args.unit = ap (λ (x : Entry). x.unit) c.next_entry-next.ensures in
    let fits : Fits config c.args.unit c.args.act = record { limits = subst (λ (k : Configuration). within_limits k c.args.unit c.args.act ≡ true) (sym same) c.requires.limits; sized = c.blocks_brought.ensures } in
    let found : IsFound config entries c.self.inside.units.items c.args.unit c.from-place.result c.index_mut.result.now = record {
      have = c.self.invariant;
      configured = subst (λ (k : Configuration). c.args.unit < length k.units) (sym same) c.requires.configured;
      here = c.from-place.ensures;
      value = c.index_mut.ensures.value;
    } in
    let items : c.push_reserved.new.self.items ≡ entries ++ next ∷ [] = c.push_reserved.ensures.items ∙ ap (λ (l : List Entry). l ++ next ∷ []) c.in_ok-reserve.ensures.items in
    subst (λ (l : List Entry). HavePlayed config l (slice_set c.self.inside.units.items c.from-place.result c.add.new.self)) (sym items)
    (grown-at config entries c.self.inside.units.items c.args.unit c.from-place.result c.index_mut.result.now c.add.new.self next found mine (subst (Fits config c.args.unit) (sym act) fits) c.in_ok-add.ensures.ok)
