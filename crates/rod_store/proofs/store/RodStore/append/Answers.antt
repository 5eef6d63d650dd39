use Rattle.std.proofs.Common.{◌≡◌, ◌<◌, ◌≤◌, ◌+◌, ◌^◌, ◌++◌, ◌∷◌, [], length, ap, sym, ◌∙◌, subst, arith}
use Rattle.std.specs.Prelude.{is_ok, true}
use Rattle.std.specs.Vec.{vec_len}
use Rattle.cm_history.specs.Bounds.{live_tokens}
use Rattle.rod_store.specs.Kept.{live}
use Rattle.rod_store.specs.Store.{Store}
use Rattle.rod_store.proofs.Stored.{stored-push}
use Rattle.rod_store.proofs.store.RodStore.append.Goals as goal

pub invariant_of-self : goal.invariant_of-self
invariant_of-self g c =
    let kept = ap (λ (v : Store g.row.K.Denot). v.tokens) c.self.view_is in
    let tokens = c.self.inside.tokens.items in
    let few : length (live tokens) < live_tokens = subst (λ l. length (live l) < live_tokens) (sym kept) c.requires.few in
    let serial : c.args.token.serial ≡ length tokens = c.requires.serial ∙ ap length (sym kept) in
    let count : length tokens < 2 ^ 48 = subst (λ l. length l < 2 ^ 48) (sym kept) c.requires.serials in
    let stored = stored-push tokens c.self.inside.live_serials.items c.self.inside.next_expiry c.self.inside.least_use c.end_until-self-inside.result c.use_until-self-inside.result c.args.token c.self.invariant.0 few serial count c.requires.live
    c.end_until-self-inside.ensures.until c.end_until-self-inside.ensures.within c.use_until-self-inside.ensures.until c.use_until-self-inside.ensures.within in
    let ok : is_ok c.push.result ≡ true = ap is_ok c.unwrap.ensures in
    let ok_2 : is_ok c.push-2.result ≡ true = ap is_ok c.unwrap-2.ensures in
    let own : c.push.new.self.items ≡ c.self.inside.live_serials.items ++ c.args.token.serial ∷ [] = rw ok at c.push.ensures.items in
    let all : c.push-2.new.self.items ≡ tokens ++ c.args.token ∷ [] = rw ok_2 at c.push-2.ensures.items in
    let spare : c.self.inside.spare ≡ c.args.self.now.spare = ap (λ (v : Store g.row.K.Denot). v.spare) c.self.view_is in
    let some : 1 ≤ c.self.inside.spare = rw spare c.requires.spare in
    let one : vec_len c.push-2.new.self ≡ vec_len c.self.inside.tokens + 1 = rw ok_2 at c.push-2.ensures.len in
    let room = c.self.invariant.1.tokens in
    let grown = c.push-2.ensures.capacity in
    let room_serials = c.self.invariant.1.live_serials in
    let grown_serials = c.push.ensures.capacity in
    (rw (own, all) stored, record { tokens = omega arith; live_serials = omega arith })
