use Rattle.std.proofs.Common.{◌≡◌, Some, None, ap, sym, ◌∙◌, subst}
use Rattle.rod_store.specs.Kept.{is_over_at, first, expired}
use Rattle.rod_store.specs.Store.{Store}
use Rattle.rod_store.specs.inner.Store.{serial_in}
use Rattle.rod_store.proofs.Expiring.{ExpiresAt, NoneExpires, expires_at, none_earlier, none_found}
use Rattle.rod_store.proofs.store.RodStore.expire.Goals as goal

pub returns-then-moment-self-clause-value : goal.returns-then-moment-self-clause-value
returns-then-moment-self-clause-value g c =
    let kept = ap (λ (v : Store g.row.K.Denot). v.tokens) c.self.view_is in
    (subst (λ l. NoneExpires l c.args.moment) kept (none_earlier c.self.inside.tokens.items c.self.inside.next_expiry c.args.moment c.if-moment-self.true c.self.invariant.0.next_expiry)).value

pub returns-then-moment-self-clause-tokens : goal.returns-then-moment-self-clause-tokens
returns-then-moment-self-clause-tokens g c =
    let kept = ap (λ (v : Store g.row.K.Denot). v.tokens) c.self.view_is in
    (subst (λ l. NoneExpires l c.args.moment) kept (none_earlier c.self.inside.tokens.items c.self.inside.next_expiry c.args.moment c.if-moment-self.true c.self.invariant.0.next_expiry)).ends

pub returns-then-moment-self-clause-none : goal.returns-then-moment-self-clause-none
returns-then-moment-self-clause-none g c =
    let kept = ap (λ (v : Store g.row.K.Denot). v.tokens) c.self.view_is in
    (subst (λ l. NoneExpires l c.args.moment) kept (none_earlier c.self.inside.tokens.items c.self.inside.next_expiry c.args.moment c.if-moment-self.true c.self.invariant.0.next_expiry)).none

pub end-requires-clause-live : goal.end-requires-clause-live
end-requires-clause-live g c =
    let kept = ap (λ (v : Store g.row.K.Denot). v.tokens) c.self.view_is in
    let is : Some c.in-Some.serial ≡ serial_in (first (is_over_at c.args.moment) c.self.inside.tokens.items) = c.in-Some.ensures ∙ ap (λ l. serial_in (first (is_over_at c.args.moment) l)) c.deref.ensures.value in
    (subst (λ l. ExpiresAt l c.args.moment c.in-Some.serial) kept (expires_at c.self.inside.tokens.items c.args.moment c.in-Some.serial c.self.invariant.0.placed is)).lives

pub returns-in-Some-clause-value : goal.returns-in-Some-clause-value
returns-in-Some-clause-value g c =
    let kept = ap (λ (v : Store g.row.K.Denot). v.tokens) c.self.view_is in
    let is : Some c.in-Some.serial ≡ serial_in (first (is_over_at c.args.moment) c.self.inside.tokens.items) = c.in-Some.ensures ∙ ap (λ l. serial_in (first (is_over_at c.args.moment) l)) c.deref.ensures.value in
    let at = subst (λ l. ExpiresAt l c.args.moment c.in-Some.serial) kept (expires_at c.self.inside.tokens.items c.args.moment c.in-Some.serial c.self.invariant.0.placed is) in
    sym (at.value ∙ c.end.ensures.value)

pub returns-in-Some-clause-tokens : goal.returns-in-Some-clause-tokens
returns-in-Some-clause-tokens g c =
    let kept = ap (λ (v : Store g.row.K.Denot). v.tokens) c.self.view_is in
    let is : Some c.in-Some.serial ≡ serial_in (first (is_over_at c.args.moment) c.self.inside.tokens.items) = c.in-Some.ensures ∙ ap (λ l. serial_in (first (is_over_at c.args.moment) l)) c.deref.ensures.value in
    let at = subst (λ l. ExpiresAt l c.args.moment c.in-Some.serial) kept (expires_at c.self.inside.tokens.items c.args.moment c.in-Some.serial c.self.invariant.0.placed is) in
    c.end.ensures.tokens ∙ at.ends

pub returns-in-Some-clause-same : goal.returns-in-Some-clause-same
returns-in-Some-clause-same g c =
    let kept = ap (λ (v : Store g.row.K.Denot). v.tokens) c.self.view_is in
    let is : Some c.in-Some.serial ≡ serial_in (first (is_over_at c.args.moment) c.self.inside.tokens.items) = c.in-Some.ensures ∙ ap (λ l. serial_in (first (is_over_at c.args.moment) l)) c.deref.ensures.value in
    let at = subst (λ l. ExpiresAt l c.args.moment c.in-Some.serial) kept (expires_at c.self.inside.tokens.items c.args.moment c.in-Some.serial c.self.invariant.0.placed is) in
    ap (expired c.args.moment) c.end.ensures.tokens ∙ at.same

pub returns-in-None-clause-tokens : goal.returns-in-None-clause-tokens
returns-in-None-clause-tokens g c =
    let kept = ap (λ (v : Store g.row.K.Denot). v.tokens) c.self.view_is in
    let is : None ≡ serial_in (first (is_over_at c.args.moment) c.self.inside.tokens.items) = c.in-None.ensures ∙ ap (λ l. serial_in (first (is_over_at c.args.moment) l)) c.deref.ensures.value in
    rw (← kept) (none_found c.self.inside.tokens.items c.args.moment is).ends

pub returns-in-None-clause-none : goal.returns-in-None-clause-none
returns-in-None-clause-none g c =
    let is : None ≡ serial_in (first (is_over_at c.args.moment) c.self.inside.tokens.items) = c.in-None.ensures ∙ ap (λ l. serial_in (first (is_over_at c.args.moment) l)) c.deref.ensures.value in
    (none_found c.self.inside.tokens.items c.args.moment is).none
