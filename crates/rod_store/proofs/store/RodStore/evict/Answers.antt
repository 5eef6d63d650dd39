use Rattle.std.proofs.Common.{◌≡◌, ◌<◌, length, ap, sym, ◌∙◌, subst, arith}
use Rattle.cm_history.specs.Bounds.{live_tokens}
use Rattle.rod_store.specs.Kept.{live}
use Rattle.rod_store.specs.Store.{Store}
use Rattle.rod_store.specs.inner.Store.{IsOldest}
use Rattle.rod_store.proofs.LiveWalks.{serials-many}
use Rattle.rod_store.proofs.Oldest.{evict-end, evicted-first, evict-none, evicted-none, least-of-oldest}
use Rattle.rod_store.proofs.store.RodStore.evict.Goals as goal

pub returns-then-len-lt-MOST_LIVE-clause-value : goal.returns-then-len-lt-MOST_LIVE-clause-value
returns-then-len-lt-MOST_LIVE-clause-value g c =
    let kept = ap (λ (v : Store g.row.K.Denot). v.tokens) c.self.view_is in
    let many = serials-many c.self.inside.tokens.items c.self.inside.live_serials.items c.self.invariant.0.live_serials in
    let few : length (live c.self.inside.tokens.items) < live_tokens = omega (arith, many, c.len.ensures, c.if-len-lt-MOST_LIVE.true, c.self.inside.live_serials.ok) in
    sym (evicted-none c.args.self.now.tokens (subst (λ l. length (live l) < live_tokens) kept few))

pub returns-then-len-lt-MOST_LIVE-clause-tokens : goal.returns-then-len-lt-MOST_LIVE-clause-tokens
returns-then-len-lt-MOST_LIVE-clause-tokens g c =
    let kept = ap (λ (v : Store g.row.K.Denot). v.tokens) c.self.view_is in
    let many = serials-many c.self.inside.tokens.items c.self.inside.live_serials.items c.self.invariant.0.live_serials in
    let few : length (live c.self.inside.tokens.items) < live_tokens = omega (arith, many, c.len.ensures, c.if-len-lt-MOST_LIVE.true, c.self.inside.live_serials.ok) in
    sym (evict-none c.args.self.now.tokens (subst (λ l. length (live l) < live_tokens) kept few))

pub returns-clause-value : goal.returns-clause-value
returns-clause-value g c =
    let kept = ap (λ (v : Store g.row.K.Denot). v.tokens) c.self.view_is in
    let many = serials-many c.self.inside.tokens.items c.self.inside.live_serials.items c.self.invariant.0.live_serials in
    let most = c.self.invariant.0.few in
    let full : length (live c.self.inside.tokens.items) ≡ live_tokens = omega (arith, many, most, c.len.ensures, c.if-len-lt-MOST_LIVE.false, c.self.inside.live_serials.ok) in
    let oldest = subst (λ l. IsOldest l c.oldest-serial.result) c.deref.ensures.value c.oldest-serial.ensures in
    rw (← kept) (sym (evicted-first c.self.inside.tokens.items c.oldest-serial.result c.self.invariant.0.placed full oldest ∙ c.end.ensures.value))

pub returns-clause-tokens : goal.returns-clause-tokens
returns-clause-tokens g c =
    let kept = ap (λ (v : Store g.row.K.Denot). v.tokens) c.self.view_is in
    let many = serials-many c.self.inside.tokens.items c.self.inside.live_serials.items c.self.invariant.0.live_serials in
    let most = c.self.invariant.0.few in
    let full : length (live c.self.inside.tokens.items) ≡ live_tokens = omega (arith, many, most, c.len.ensures, c.if-len-lt-MOST_LIVE.false, c.self.inside.live_serials.ok) in
    let oldest = subst (λ l. IsOldest l c.oldest-serial.result) c.deref.ensures.value c.oldest-serial.ensures in
    rw (← kept) (c.end.ensures.tokens ∙ evict-end c.self.inside.tokens.items c.oldest-serial.result c.self.invariant.0.placed full oldest)

pub invariant_of-self : goal.invariant_of-self
invariant_of-self g c =
    let is = c.self.invariant.0 in
    let oldest = subst (λ l. IsOldest l c.oldest-serial.result) c.deref.ensures.value c.oldest-serial.ensures in
    let least = least-of-oldest c.self.inside.tokens.items c.oldest-serial.result c.index.result.now c.index.ensures oldest in (
      record {
        placed = is.placed;
        count = is.count;
        live_serials = is.live_serials;
        few = is.few;
        next_expiry = is.next_expiry;
        least_use = rw c.used_last-self-inside.ensures least;
      },
      c.self.invariant.1,
    )
