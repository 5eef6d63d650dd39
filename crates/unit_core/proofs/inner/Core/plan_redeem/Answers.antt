use Rattle.std.proofs.Common.{◌≡◌, ◌∙◌, ap, refl, sym, subst}
use Rattle.std.specs.Prelude.{Ok, Err, IsSome, max, map}
use Rattle.cm_base.specs.Units.{unit_of}
use Rattle.cm_history.specs.declared.act.Act.{Act}
use Rattle.cm_history.specs.History.{past_of}
use Rattle.unit_core.specs.inner.Tables.{tokens_of}
use Rattle.unit_core.proofs.TableAnswers.{redeem-is, answer_of}
use Rattle.unit_core.proofs.Planned.{redeem-plan, refused-plan}
use Rattle.rod_token.specs.TokenText.{serial_of}
use Rattle.rod_store.specs.Kept.{value_at, expired, kept_with, is_over, value_in, value_of}
use Rattle.rod_store.specs.Judging.{judged, judged_token, judged_state}
use Rattle.cm_history.specs.Deeds.{moment}
use Rattle.cm_history.specs.Operations.{running}
use Rattle.cm_history.proofs.PublicLaws.{find-none}
use Rattle.rod_store.proofs.PublicLaws.{expired-with, judged-err, judged-ok, value-with}
use Rattle.std.specs.Prelude.{Option, Some, None, is_some}
use Rattle.std.specs.Option.{option_map}
use Rattle.rod_store.specs.Pinning.{rod_shown}
use Rattle.std.proofs.Common.{ℕ, List, true, false, Bool}
use Rattle.std.specs.Prelude.{not, slice_get, if◌then◌else◌}
use Rattle.std.specs.Str.{bytes_eq}
use Rattle.scsi_sense.specs.Codes.{token_expired, token_corrupt, remote_token_usage_not_supported}
use Rattle.cm_base.specs.Configuration.{Configuration}
use Rattle.rod_token.specs.TokenText.{token_text}
use Rattle.cm_history.specs.Redeeming.{are_alike}
use Rattle.rod_store.specs.declared.kept.Kept.{Kept}
use Rattle.rod_store.specs.declared.kept.TokenState.{TokenState}
use Rattle.rod_store.specs.declared.kept.TokenState.TheVariants.{Live, Expired, Evicted, Deleted}
use Rattle.unit_core.proofs.inner.Core.plan_redeem.Goals as goal

judged-value : {T : Type 0} (config : Configuration) (unit now : ℕ) (text : List ℕ) (target : ℕ) (ts : List (Kept T)) (value : T) → judged config unit now text target ts ≡ Ok value
    → value_at (serial_of text) ts ≡ Some value
judged-value config unit now text target ts value e = go (slice_get ts (serial_of text)) e
  where
    state : (s : TokenState _) → judged_state now s ≡ Ok value → value_of s ≡ Some value
    state (Live timeout last_use v) f = over (is_over now (Live timeout last_use v)) f
      where
        over : (b : Bool) → (if b then Err token_expired else Ok v) ≡ Ok value → Some v ≡ Some value
        over true g = cc
        over false g = let same : v ≡ value = cc in ap Some same
    state Expired f = cc
    state Evicted f = cc
    state Deleted f = cc

    tests : (t : Kept _) (a b : Bool)
        → (if not a then Err remote_token_usage_not_supported else if not b then Err token_corrupt else judged_state now t.state) ≡ Ok value → value_of t.state ≡ Some value
    tests t false b f = cc
    tests t true false f = cc
    tests t true true f = state t.state f

    go : (o : Option (Kept _)) → judged_token config unit now text target o ≡ Ok value → value_in o ≡ Some value
    go None f = cc
    go (Some t) f = tests t (are_alike (unit_of config unit) (unit_of config target)) (bytes_eq text (token_text config unit t.serial t.blocks)) f

some-map : {K T : Type 0} (f : K → T) (o : Option K) → IsSome o → IsSome (option_map f o)
some-map f None some = some
some-map f (Some k) some = refl

pub returns-in_ok-list-in-Ok : goal.returns-in_ok-list-in-Ok
returns-in_ok-list-in-Ok g c = λ h a.
    let u = c.args.self.now in
    let past = past_of u.config u.unit h in
    let text = c.args.text.now in
    let f = rod_shown g.B.Pins.number (g.B.Blocks.block_length u.tables.blocks) (g.B.Blocks.shown u.tables.blocks) in
    let all = u.tables.tokens.tokens in
    let now : c.max-now.result ≡ max c.args.moment (moment past) = c.max-now.ensures ∙ ap (max c.args.moment) a.moment in
    let same : judged u.config u.tables.tokens.unit c.max-now.result text c.args.target (map (kept_with f) all)
    ≡ judged u.config u.unit (max c.args.moment (moment past)) text c.args.target (tokens_of (unit_of u.config u.unit) past) =
    ap (λ n. judged u.config n c.max-now.result text c.args.target (map (kept_with f) all)) a.tokens.unit
    ∙ ap (λ n. judged u.config u.unit n text c.args.target (map (kept_with f) all)) now
    ∙ ap (judged u.config u.unit (max c.args.moment (moment past)) text c.args.target) a.tokens.tokens in
    let told : judged u.config u.unit (max c.args.moment (moment past)) text c.args.target (tokens_of (unit_of u.config u.unit) past) ≡ Ok (f c.in-Ok.rod.now) =
    sym same ∙ judged-ok f u.config u.tables.tokens.unit c.max-now.result text c.args.target all c.in-Ok.rod.now c.in-Ok.ensures.ok in
    let there : IsSome (value_at (serial_of text) (expired c.max-now.result (map (kept_with f) all))) =
    subst IsSome (sym (ap (value_at (serial_of text)) (expired-with f c.max-now.result all) ∙ value-with f (expired c.max-now.result all) (serial_of text)))
    (some-map f (value_at (serial_of text) (expired c.max-now.result all)) c.in-Ok.ensures.lives) in
    let lives : IsSome (value_at (serial_of text) (expired (max c.args.moment (moment past)) (tokens_of (unit_of u.config u.unit) past))) =
    rw (← now, ← a.tokens.tokens) there in
    rw (c.of_tokens.ensures, c.in_ok-list-in-Ok.ensures, c.in-Ok.ensures.serial)
    (λ actor. redeem-plan u.config u.unit past actor c.args.moment text c.args.target (f c.in-Ok.rod.now) (sym (redeem-is u.config u.unit past actor c.args.moment text c.args.target ∙ ap answer_of told)) lives)

pub returns-in-Err : goal.returns-in-Err
returns-in-Err g c = λ h a.
    let u = c.args.self.now in
    let past = past_of u.config u.unit h in
    let text = c.args.text.now in
    let f = rod_shown g.B.Pins.number (g.B.Blocks.block_length u.tables.blocks) (g.B.Blocks.shown u.tables.blocks) in
    let all = u.tables.tokens.tokens in
    let now : c.max-now.result ≡ max c.args.moment (moment past) = c.max-now.ensures ∙ ap (max c.args.moment) a.moment in
    let same : judged u.config u.tables.tokens.unit c.max-now.result text c.args.target (map (kept_with f) all)
    ≡ judged u.config u.unit (max c.args.moment (moment past)) text c.args.target (tokens_of (unit_of u.config u.unit) past) =
    ap (λ n. judged u.config n c.max-now.result text c.args.target (map (kept_with f) all)) a.tokens.unit
    ∙ ap (λ n. judged u.config u.unit n text c.args.target (map (kept_with f) all)) now
    ∙ ap (judged u.config u.unit (max c.args.moment (moment past)) text c.args.target) a.tokens.tokens in
    let told : judged u.config u.unit (max c.args.moment (moment past)) text c.args.target (tokens_of (unit_of u.config u.unit) past) ≡ Err c.in-Err.sense =
    sym same ∙ judged-err f u.config u.tables.tokens.unit c.max-now.result text c.args.target all c.in-Err.sense c.in-Err.ensures.err in
    rw (c.answered.ensures)
    (λ actor. refused-plan u.config u.unit past actor c.args.moment (Act.Redeem text c.args.target) c.in-Err.sense (sym (redeem-is u.config u.unit past actor c.args.moment text c.args.target ∙ ap answer_of told))
    (λ s. refl) (find-none (running past)) refl)

pub cut_at-requires-clause-live : goal.cut_at-requires-clause-live
cut_at-requires-clause-live g c =
    let u = c.args.self.now in
    ap is_some (c.requires.pinned.live (Some (serial_of c.args.text.now)) c.in-Ok.rod.now
    (judged-value u.config u.tables.tokens.unit c.max-now.result c.args.text.now c.args.target u.tables.tokens.tokens c.in-Ok.rod.now c.in-Ok.ensures.ok))

pub cut_at-requires-clause-within : goal.cut_at-requires-clause-within
cut_at-requires-clause-within g c =
    let u = c.args.self.now in
    c.requires.pinned.within (Some (serial_of c.args.text.now)) c.in-Ok.rod.now
    (judged-value u.config u.tables.tokens.unit c.max-now.result c.args.text.now c.args.target u.tables.tokens.tokens c.in-Ok.rod.now c.in-Ok.ensures.ok)
