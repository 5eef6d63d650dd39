-- What a token is redeemed for
use Rattle.std.proofs.Common.{◌≡◌, ℕ, ◌<◌, ◌^◌, List, [], ◌∷◌, ◌++◌, length, take, refl, ap, sym, ◌∙◌, subst}
use Rattle.std.specs.Prelude.{Some, slice_get}
use Rattle.std.proofs.Math.Seq.{take-append_seam}
use Rattle.lba_ranges.specs.declared.ranges.Range.{Range}
use Rattle.lba_ranges.specs.Denoted.{blocks_of}
use Rattle.lba_ranges.specs.HeldBlocks.{HeldBlocks}
use Rattle.cm_base.specs.Configuration.{Configuration}
use Rattle.cm_base.specs.Units.{unit_of}
use Rattle.cm_base.proofs.PublicLaws.{number-back}
use Rattle.rod_token.specs.declared.kind.TokenKind.{TokenKind}
use Rattle.rod_token.specs.TokenText.{token_text, classify, serial_of}
use Rattle.cm_history.specs.declared.act.Act.{Act}
use Rattle.cm_history.specs.declared.act.Entry.{Entry}
use Rattle.cm_history.specs.declared.answer.Answer.{Answer}
use Rattle.cm_history.specs.Blocks.{held, cut}
use Rattle.cm_history.specs.History.{answer, past_of}
use Rattle.cm_history.specs.Laws.{MadeToken}
use Rattle.cm_history.specs.Legal.{IsLegal}
use Rattle.cm_history.proofs.PublicLaws.{token_law}

-- ---- an entry in its history

pub get-at : (front behind : List Entry) (e : Entry) → slice_get (front ++ e ∷ behind) (length front) ≡ Some e
get-at [] behind e = refl
get-at (x ∷ front) behind e = get-at front behind e

pub at-whole : (front behind all : List Entry) (e : Entry) → front ++ e ∷ behind ≡ all → slice_get all (length front) ≡ Some e
at-whole front behind all e whole = subst (λ l. slice_get l (length front) ≡ Some e) whole (get-at front behind e)

pub take-whole : (front behind all : List Entry) → front ++ behind ≡ all → take (length front) all ≡ front
take-whole front behind all whole = ap (take (length front)) (sym whole) ∙ take-append_seam front behind

pub some-same : {X : Type 0} (a b : X) → Some a ≡ Some b → a ≡ b
some-same a b e = cc

-- ---- a token

pub text-names : (config : Configuration) (unit serial blocks : ℕ) → unit < 2 ^ 16 → serial < 2 ^ 48
    → classify (token_text config unit serial blocks) ≡ TokenKind.Names unit serial
text-names config unit serial blocks low high =
    ap (λ u. TokenKind.Names u (serial_of (token_text config unit serial blocks))) (number-back 2 unit low) ∙ ap (TokenKind.Names unit) (number-back 6 serial high)

pub text-serial : (config : Configuration) (unit serial blocks : ℕ) → serial < 2 ^ 48 → serial_of (token_text config unit serial blocks) ≡ serial
text-serial config unit serial blocks high = number-back 6 serial high

populate-ranges : (id timeout id' timeout' : ℕ) (rs ss : List Range) → Act.Populate id timeout rs ≡ Act.Populate id' timeout' ss → rs ≡ ss
populate-ranges id timeout id' timeout' rs ss e = cc

-- a Redeem that is answered with blocks shows those of the Populate that made the token
pub rod-shown : (config : Configuration) (all front behind front_r behind_r : List Entry) (e r : Entry) (unit id timeout serial target : ℕ) (ranges : List Range) (text : List ℕ) (list : HeldBlocks)
    → IsLegal config all → front ++ e ∷ behind ≡ all → e.unit ≡ unit → e.act ≡ Act.Populate id timeout ranges → answer config front unit e.actor e.moment e.act ≡ Answer.Made serial
    → serial_of text ≡ serial → length front < length front_r
    → front_r ++ r ∷ behind_r ≡ all → r.unit ≡ unit → r.act ≡ Act.Redeem text target → answer config front_r unit r.actor r.moment r.act ≡ Answer.Rod list
    → list ≡ cut (unit_of config unit) (held (past_of config unit front)) (blocks_of ranges)
rod-shown config all front behind front_r behind_r e r unit id timeout serial target ranges text list legal whole on act made named low whole_r on_r act_r rod =
    let taken = take-whole front (e ∷ behind) all whole in
    let taken_r = take-whole front_r (r ∷ behind_r) all whole_r in
    let promise = token_law config all (length front_r) r text target list (record {
      at = at-whole front_r behind_r all r whole_r;
      redeems = act_r;
      answered =
          ap (λ h. answer config h r.unit r.actor r.moment r.act) taken_r
          ∙ ap (λ u. answer config front_r u r.actor r.moment r.act) on_r ∙ rod;
    }) in
    let ours : MadeToken config all r.unit (serial_of text) (length front) ranges = record {
      entry = e;
      id = id;
      timeout = timeout;
      at = at-whole front behind all e whole;
      on_unit = on ∙ sym on_r;
      populates = act;
      answered =
          ap (λ h. answer config h e.unit e.actor e.moment e.act) taken
          ∙ ap (λ u. answer config front u e.actor e.moment e.act) on ∙ made ∙ ap Answer.Made (sym named);
    } in
    let place : length front ≡ promise.made_at = promise.only (length front) ranges low ours in
    let theirs = promise.made in
    let entry : theirs.entry ≡ e =
    some-same theirs.entry e (sym theirs.at ∙ ap (slice_get all) (sym place) ∙ at-whole front behind all e whole) in
    let same : promise.ranges ≡ ranges =
    populate-ranges theirs.id theirs.timeout id timeout promise.ranges ranges (sym theirs.populates ∙ ap (λ (x : Entry). x.act) entry ∙ act) in
    promise.shows
    ∙ ap (λ u. cut (unit_of config u) (held (past_of config u (take promise.made_at all))) (blocks_of promise.ranges)) on_r
    ∙ ap (λ p. cut (unit_of config unit) (held (past_of config unit (take p all))) (blocks_of promise.ranges)) (sym place)
    ∙ ap (λ h. cut (unit_of config unit) (held (past_of config unit h)) (blocks_of promise.ranges)) taken
    ∙ ap (λ rs. cut (unit_of config unit) (held (past_of config unit front)) (blocks_of rs)) same
