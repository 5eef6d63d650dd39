use Rattle.std.proofs.Common.{◌≡◌, Some, IsSome, ap, sym, ◌∙◌, subst, arith}
use Rattle.std.specs.Prelude.{true}
use Rattle.rod_store.specs.Kept.{is_live, value_of, value_at}
use Rattle.rod_store.specs.Store.{Store}
use Rattle.rod_store.specs.inner.Store.{AreApart}
use Rattle.rod_store.proofs.Endings.{fewer-end}
use Rattle.rod_store.proofs.Stored.{lives_at, value-at, token-is, end-set, stored-end, serials-apart}
use Rattle.rod_store.proofs.store.RodStore.end.Goals as goal

pub invariant_of-self : goal.invariant_of-self
invariant_of-self g c =
    let tokens = c.self.inside.tokens.items in
    let kept = ap (λ (v : Store g.row.K.Denot). v.tokens) c.self.view_is in
    let at = lives_at tokens c.args.serial (subst (λ l. IsSome (value_at c.args.serial l)) (sym kept) c.requires.live) in
    let same : at.token ≡ c.index_mut.result.now = token-is tokens c.args.serial at.token c.index_mut.result.now at.found c.index_mut.ensures.value in
    let found = at.found ∙ ap Some same in
    let lives : is_live c.index_mut.result.now.state ≡ true = rw (← same) at.lives in
    let stored = stored-end tokens c.self.inside.live_serials.items c.self.inside.next_expiry c.self.inside.least_use c.self.invariant.0 c.args.ending c.requires.ends c.args.serial c.index_mut.result.now found lives in
    let write = end-set tokens c.self.invariant.0.placed c.args.ending c.args.serial c.index_mut.result.now found lives in
    (rw (c.replace.ensures.after, write, c.forget.ensures.serials) stored, rw c.forget.ensures.room c.self.invariant.1)

pub forget-requires : goal.forget-requires
forget-requires g c = subst AreApart (sym c.self.invariant.0.live_serials) (serials-apart 0 c.self.inside.tokens.items c.self.invariant.0.placed)

pub returns-clause-value : goal.returns-clause-value
returns-clause-value g c =
    let tokens = c.self.inside.tokens.items in
    let kept = ap (λ (v : Store g.row.K.Denot). v.tokens) c.self.view_is in
    let at = lives_at tokens c.args.serial (subst (λ l. IsSome (value_at c.args.serial l)) (sym kept) c.requires.live) in
    let same : at.token ≡ c.index_mut.result.now = token-is tokens c.args.serial at.token c.index_mut.result.now at.found c.index_mut.ensures.value in
    let value : value_of c.index_mut.result.now.state ≡ Some c.in-Live.value = ap value_of (sym c.replace.ensures.value ∙ c.in-Live.is) in
    rw (← kept) (value-at tokens c.args.serial c.index_mut.result.now (at.found ∙ ap Some same) ∙ value)

pub returns-clause-tokens : goal.returns-clause-tokens
returns-clause-tokens g c =
    let tokens = c.self.inside.tokens.items in
    let kept = ap (λ (v : Store g.row.K.Denot). v.tokens) c.self.view_is in
    let at = lives_at tokens c.args.serial (subst (λ l. IsSome (value_at c.args.serial l)) (sym kept) c.requires.live) in
    let same : at.token ≡ c.index_mut.result.now = token-is tokens c.args.serial at.token c.index_mut.result.now at.found c.index_mut.ensures.value in
    let lives : is_live c.index_mut.result.now.state ≡ true = rw (← same) at.lives in
    rw (c.replace.ensures.after, ← kept)
    (end-set tokens c.self.invariant.0.placed c.args.ending c.args.serial c.index_mut.result.now (at.found ∙ ap Some same) lives)

pub returns-clause-fewer : goal.returns-clause-fewer
returns-clause-fewer g c =
    let tokens = c.self.inside.tokens.items in
    let kept = ap (λ (v : Store g.row.K.Denot). v.tokens) c.self.view_is in
    let at = lives_at tokens c.args.serial (subst (λ l. IsSome (value_at c.args.serial l)) (sym kept) c.requires.live) in
    let fewer = fewer-end c.args.ending c.requires.ends c.args.serial 0 tokens c.self.invariant.0.placed c.args.serial at.token (omega arith) at.found at.lives in
    rw (returns-clause-tokens g c, ← kept) fewer
