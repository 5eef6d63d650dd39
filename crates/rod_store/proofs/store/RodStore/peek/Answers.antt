use Rattle.std.proofs.Common.{◌≡◌, Some, slice_get, ap, sym, ◌∙◌}
use Rattle.rod_token.specs.TokenText.{serial_of}
use Rattle.rod_store.specs.Store.{Store}
use Rattle.rod_store.specs.Judging.{judged_token}
use Rattle.rod_store.proofs.Places.{small-serial}
use Rattle.rod_store.proofs.Redeemed.{lives-on}
use Rattle.rod_store.proofs.store.RodStore.peek.Goals as goal

pub judge-requires-clause-serial : goal.judge-requires-clause-serial
judge-requires-clause-serial g c =
    let kept = ap (λ (v : Store g.row.K.Denot). v.tokens) c.self.view_is in
    let found : slice_get c.self.inside.tokens.items c.serial_of-serial.result ≡ Some c.in-Some.token.now = ap (λ l. slice_get l c.serial_of-serial.result) kept ∙ sym c.in-Some.ensures in
    small-serial c.self.inside.tokens.items c.self.invariant.0.placed c.self.invariant.0.count c.serial_of-serial.result c.in-Some.token.now found

pub returns-in-Ok-clause-ok : goal.returns-in-Ok-clause-ok
returns-in-Ok-clause-ok g c =
    let u = c.self.inside in
    let text = c.args.text.now in
    let kept = ap (λ (v : Store g.row.K.Denot). v.tokens) c.self.view_is in
    let found : slice_get u.tokens.items (serial_of text) ≡ Some c.in-Some.token.now =
    ap (slice_get u.tokens.items) (sym c.serial_of-serial.ensures) ∙ ap (λ l. slice_get l c.serial_of-serial.result) kept ∙ sym c.in-Some.ensures in
    rw (← c.self.view_is) (ap (judged_token c.args.config.now u.unit c.args.moment text c.args.target) found ∙ c.in-Ok.ensures.ok)

pub returns-in-Err-clause-err : goal.returns-in-Err-clause-err
returns-in-Err-clause-err g c =
    let u = c.self.inside in
    let text = c.args.text.now in
    let kept = ap (λ (v : Store g.row.K.Denot). v.tokens) c.self.view_is in
    let found : slice_get u.tokens.items (serial_of text) ≡ Some c.in-Some.token.now =
    ap (slice_get u.tokens.items) (sym c.serial_of-serial.ensures) ∙ ap (λ l. slice_get l c.serial_of-serial.result) kept ∙ sym c.in-Some.ensures in
    rw (← c.self.view_is) (ap (judged_token c.args.config.now u.unit c.args.moment text c.args.target) found ∙ c.in-Err.ensures.err)

pub returns-in-Ok-clause-lives : goal.returns-in-Ok-clause-lives
returns-in-Ok-clause-lives g c =
    let u = c.self.inside in
    let text = c.args.text.now in
    let kept = ap (λ (v : Store g.row.K.Denot). v.tokens) c.self.view_is in
    let found : slice_get u.tokens.items (serial_of text) ≡ Some c.in-Some.token.now =
    ap (slice_get u.tokens.items) (sym c.serial_of-serial.ensures) ∙ ap (λ l. slice_get l c.serial_of-serial.result) kept ∙ sym c.in-Some.ensures in
    rw (← c.self.view_is)
    (lives-on c.args.config.now u.unit c.args.moment text c.args.target u.tokens.items c.in-Ok.value.now
    (ap (judged_token c.args.config.now u.unit c.args.moment text c.args.target) found ∙ c.in-Ok.ensures.ok))
