use Rattle.std.proofs.Common.{◌≡◌, Some, IsSome, ap, sym, ◌∙◌, subst}
use Rattle.std.specs.Prelude.{true, false}
use Rattle.rod_store.specs.Kept.{is_live, is_over, with_use, value_at}
use Rattle.rod_store.specs.Store.{Store}
use Rattle.rod_store.specs.inner.Store.{is_used_before}
use Rattle.rod_store.proofs.Stored.{lives_at, token-is, use-set, stored-use}
use Rattle.rod_store.proofs.store.RodStore.note_use.Goals as goal

pub invariant_of-self : goal.invariant_of-self
invariant_of-self g c =
    let tokens = c.self.inside.tokens.items in
    let kept = ap (λ (v : Store g.row.K.Denot). v.tokens) c.self.view_is in
    let at = lives_at tokens c.args.serial (subst (λ l. IsSome (value_at c.args.serial l)) (sym kept) c.requires) in
    let same : at.token ≡ c.index_mut-token.result.now = token-is tokens c.args.serial at.token c.index_mut-token.result.now at.found c.index_mut-token.ensures.value in
    let found = at.found ∙ ap Some same in
    let lives : is_live c.index_mut-token.result.now.state ≡ true = rw (← same) at.lives in
    let within : is_over c.end_until-self-inside.result (with_use c.args.moment c.index_mut-token.result.now.state) ≡ false = rw (← c.note_use.ensures) c.end_until-self-inside.ensures.within in
    let before : is_used_before c.use_until-self-inside.result (with_use c.args.moment c.index_mut-token.result.now.state) ≡ false = rw (← c.note_use.ensures) c.use_until-self-inside.ensures.within in
    let stored = stored-use tokens c.self.inside.live_serials.items c.self.inside.next_expiry c.self.inside.least_use c.end_until-self-inside.result c.use_until-self-inside.result c.self.invariant.0 c.args.serial c.args.moment
    c.index_mut-token.result.now found lives c.end_until-self-inside.ensures.until within c.use_until-self-inside.ensures.until before in
    let write = use-set tokens c.self.invariant.0.placed c.args.serial c.args.moment c.index_mut-token.result.now found lives in
    (rw (c.note_use.ensures, write) stored, c.self.invariant.1)

pub returns-clause-tokens : goal.returns-clause-tokens
returns-clause-tokens g c =
    let tokens = c.self.inside.tokens.items in
    let kept = ap (λ (v : Store g.row.K.Denot). v.tokens) c.self.view_is in
    let at = lives_at tokens c.args.serial (subst (λ l. IsSome (value_at c.args.serial l)) (sym kept) c.requires) in
    let same : at.token ≡ c.index_mut-token.result.now = token-is tokens c.args.serial at.token c.index_mut-token.result.now at.found c.index_mut-token.ensures.value in
    let lives : is_live c.index_mut-token.result.now.state ≡ true = rw (← same) at.lives in
    rw (c.note_use.ensures, ← kept)
    (use-set tokens c.self.invariant.0.placed c.args.serial c.args.moment c.index_mut-token.result.now (at.found ∙ ap Some same) lives)
