use Rattle.std.proofs.Common.{◌≡◌, true, false, ◌∙◌, ap, sym, refl}
use Rattle.cm_base.specs.declared.config.UnitConfig.{UnitConfig}
use Rattle.cm_base.specs.Units.{unit_of}
use Rattle.lba_ranges.specs.Denoted.{blocks_of}
use Rattle.cm_history.specs.Blocks.{held}
use Rattle.cm_history.specs.History.{past_of}
use Rattle.lba_ranges.specs.Writings.{paired, after, mapped_below, held_with}
use Rattle.lba_ranges.proofs.PublicLaws.{mapped-same}
use Rattle.cm_history.specs.Blocks.{mapped_with}
use Rattle.std.specs.Prelude.{nat_lt}
use Rattle.unit_core.proofs.inner.Core.write_piece.Goals as goal

pub returns-then-exceeds_quota : goal.returns-then-exceeds_quota
returns-then-exceeds_quota g c = λ h a.
    let u = c.args.self.now in
    let past = past_of u.config u.unit h in
    let limit = unit_of u.config u.unit in
    let holds = g.B.Blocks.holds u.tables.blocks in
    let ws = paired (blocks_of c.args.piece.ranges) c.args.piece.list.items in
    let same = ap (λ n. mapped_below n (held_with holds ws)) a.blocks.count
    ∙ mapped-same limit.blocks (held_with holds ws) (held_with (held past) ws) (λ b h. ap (after ws b) (a.blocks.same b h)) in
    let quota : c.unit-quota.result.quota ≡ limit.quota = ap (λ (v : UnitConfig). v.quota) c.unit-quota.ensures.told in
    let told : c.exceeds_quota.result ≡ nat_lt limit.quota (mapped_with limit (held past) ws) = c.exceeds_quota.ensures ∙ ap (λ n. nat_lt n (mapped_below (g.B.Blocks.blocks u.tables.blocks) (held_with holds ws))) quota ∙ ap (nat_lt limit.quota) same in
    let test : nat_lt limit.quota (mapped_with limit (held past) ws) ≡ true = sym told ∙ c.if-exceeds_quota.true in
    rw (c.of_jobs.ensures, c.space_allocation_failed.ensures, test) refl

pub returns : goal.returns
returns g c = λ h a.
    let u = c.args.self.now in
    let past = past_of u.config u.unit h in
    let limit = unit_of u.config u.unit in
    let holds = g.B.Blocks.holds u.tables.blocks in
    let ws = paired (blocks_of c.args.piece.ranges) c.args.piece.list.items in
    let same = ap (λ n. mapped_below n (held_with holds ws)) a.blocks.count
    ∙ mapped-same limit.blocks (held_with holds ws) (held_with (held past) ws) (λ b h. ap (after ws b) (a.blocks.same b h)) in
    let quota : c.unit-quota.result.quota ≡ limit.quota = ap (λ (v : UnitConfig). v.quota) c.unit-quota.ensures.told in
    let told : c.exceeds_quota.result ≡ nat_lt limit.quota (mapped_with limit (held past) ws) = c.exceeds_quota.ensures ∙ ap (λ n. nat_lt n (mapped_below (g.B.Blocks.blocks u.tables.blocks) (held_with holds ws))) quota ∙ ap (nat_lt limit.quota) same in
    let test : nat_lt limit.quota (mapped_with limit (held past) ws) ≡ false = sym told ∙ c.if-exceeds_quota.false in
    rw (c.state_after.ensures, c.blocks-blocks.ensures.count, test) refl
