-- What an image says of tokens that are live no more changes no answer
use Rattle.std.proofs.Common.{◌≡◌, ℕ, List, ◌++◌, length, refl, ap, sym, ◌∙◌, true, false, Bool}
use Rattle.std.specs.Prelude.{Option, Some, None, ◌==◌, ◌&&◌, not, map, filter, max, option_map, if◌then◌else◌, slice_get}
use Rattle.std.specs.List.{list_all}
use Rattle.lba_ranges.specs.Writings.{Held, Writing}
use Rattle.cm_base.specs.Configuration.{Configuration}
use Rattle.cm_base.specs.declared.config.UnitConfig.{UnitConfig}
use Rattle.cm_base.specs.Units.{unit_of}
use Rattle.rod_token.specs.TokenText.{serial_of}
use Rattle.cm_history.specs.declared.act.Act.{Act}
use Rattle.cm_history.specs.declared.act.Actor.{Actor}
use Rattle.cm_history.specs.declared.act.Entry.{Entry}
use Rattle.cm_history.specs.declared.answer.Answer.{Answer}
use Rattle.cm_history.specs.Bounds.{live_tokens}
use Rattle.cm_history.specs.Deeds.{is_refusal}
use Rattle.cm_history.specs.Tokens.{Fate, Live, Expired, Evicted, Deleted, is_live, is_populate, is_delete_of, is_redeem_of}
use Rattle.cm_history.specs.Answers.{wrote_of}
use Rattle.cm_history.specs.Reserving.{bars_act}
use Rattle.cm_history.specs.Image.{Image, TokenImage, trim, trimmed}
use Rattle.cm_history.proofs.Imaging.{now_of, over_by, live_by, older_by, makes_room_by, ended_as, token_by, made_by, tokens_by, redeem_by, unbarred_by, answer_by, writings_by, with_answer, next_image}
use Rattle.cm_history.proofs.Lists.{filter-passes}
use Rattle.cm_history.proofs.Finding.{filter-map, filter-same, all-map, all-same, map-append, map-map, map-same}
use Rattle.cm_history.proofs.Made.{length-map}
use Rattle.cm_history.proofs.Records.{and_first}
use Rattle.cm_history.proofs.ImageTokens.{get-map}

trim-live : (t : TokenImage) → is_live t.fate ≡ true → trim t ≡ t
trim-live t e = rw e refl

trim-dead : (t : TokenImage) → is_live t.fate ≡ false → trim t ≡ record t { timeout = 0; last_use = 0 }
trim-dead t e = rw e refl

trim-fate : (t : TokenImage) → (trim t).fate ≡ t.fate
trim-fate t = go (is_live t.fate)
  where
    go : (b : Bool) → (if b then t else record t { timeout = 0; last_use = 0 }).fate ≡ t.fate
    go true = refl
    go false = refl

trim-twice : (t : TokenImage) → trim (trim t) ≡ trim t
trim-twice t = go (is_live t.fate) refl
  where
    go : (b : Bool) → is_live t.fate ≡ b → trim (trim t) ≡ trim t
    go true e = ap trim (trim-live t e)
    go false e = ap trim (trim-dead t e) ∙ rw e refl

live-trim : (now : ℕ) (t : TokenImage) → live_by now (trim t) ≡ live_by now t
live-trim now t = go (is_live t.fate) refl
  where
    go : (b : Bool) → is_live t.fate ≡ b → live_by now (trim t) ≡ live_by now t
    go true e = ap (live_by now) (trim-live t e)
    go false e = ap (live_by now) (trim-dead t e) ∙ rw e refl

room-trim : (now : ℕ) (ts : List TokenImage) (t : TokenImage) → makes_room_by now (map trim ts) t ≡ makes_room_by now ts t
room-trim now ts t =
    let live : filter (live_by now) (map trim ts) ≡ map trim (filter (live_by now) ts) =
    filter-map trim (live_by now) ts ∙ ap (map trim) (filter-same (λ x. live_by now (trim x)) (live_by now) ts (λ x i. live-trim now x)) in
    let old : list_all (older_by t) (map trim (filter (live_by now) ts)) ≡ list_all (older_by t) (filter (live_by now) ts) =
    all-map trim (older_by t) (filter (live_by now) ts)
    ∙ all-same (λ x. older_by t (trim x)) (older_by t) (filter (live_by now) ts) (λ x i. ap (older_by t) (trim-live x (and_first (is_live x.fate) _ (filter-passes (live_by now) ts x i)))) in
    ap (λ l. (length l == live_tokens) && list_all (older_by t) l) live
    ∙ ap (λ n. (n == live_tokens) && list_all (older_by t) (map trim (filter (live_by now) ts))) (length-map trim (filter (live_by now) ts))
    ∙ ap (λ b. (length (filter (live_by now) ts) == live_tokens) && b) old

token-trim : (moment : ℕ) (answered : Bool) (act : Act) (ts : List TokenImage) (t : TokenImage)
    → trim (token_by moment answered act (map trim ts) (trim t)) ≡ trim (token_by moment answered act ts t)
token-trim moment answered act ts t = go (is_live t.fate) refl
  where
    go : (b : Bool) → is_live t.fate ≡ b → trim (token_by moment answered act (map trim ts) (trim t)) ≡ trim (token_by moment answered act ts t)
    go true e =
        ap (λ x. trim (token_by moment answered act (map trim ts) x)) (trim-live t e)
        ∙ ap (λ r. trim (if not (is_live t.fate) then t else
        if over_by moment t then ended_as Expired t else
        if is_delete_of t.serial act then ended_as Deleted t else
        if is_populate act && answered && r then ended_as Evicted t else
        if is_redeem_of t.serial act && answered then record t { last_use = moment } else t)) (room-trim moment ts t)
    go false e =
        let off : is_live (trim t).fate ≡ false = ap is_live (trim-fate t) ∙ e in
        let one : token_by moment answered act (map trim ts) (trim t) ≡ trim t = rw off refl in
        let two : token_by moment answered act ts t ≡ t = rw e refl in
        ap trim one ∙ trim-twice t ∙ ap trim (sym two)

made-trim : (u : UnitConfig) (now : ℕ → Held) (moment : ℕ) (answered : Bool) (serial : ℕ) (act : Act) → map trim (made_by u now moment answered serial act) ≡ made_by u now moment answered serial act
made-trim u now moment true serial (Act.Populate id timeout ranges) = refl
made-trim u now moment false serial (Act.Populate id timeout ranges) = refl
made-trim u now moment answered serial _ = refl

tokens-trim : (u : UnitConfig) (i : Image) (moment : ℕ) (answered : Bool) (act : Act) → map trim (tokens_by u (trimmed i) moment answered act) ≡ map trim (tokens_by u i moment answered act)
tokens-trim u i moment answered act =
    let now = now_of i.blocks in
    let new = made_by u now moment answered (length i.tokens) act in
    map-append trim (map (token_by moment answered act (map trim i.tokens)) (map trim i.tokens)) (made_by u now moment answered (length (map trim i.tokens)) act)
    ∙ ap (λ n. map trim (map (token_by moment answered act (map trim i.tokens)) (map trim i.tokens)) ++ map trim (made_by u now moment answered n act)) (length-map trim i.tokens)
    ∙ ap (λ l. l ++ map trim new)
    (ap (map trim) (map-map trim (token_by moment answered act (map trim i.tokens)) i.tokens)
    ∙ map-map (λ x. token_by moment answered act (map trim i.tokens) (trim x)) trim i.tokens
    ∙ map-same (λ x. trim (token_by moment answered act (map trim i.tokens) (trim x))) (λ x. trim (token_by moment answered act i.tokens x)) i.tokens (λ x j. token-trim moment answered act i.tokens x)
    ∙ sym (map-map (token_by moment answered act i.tokens) trim i.tokens))
    ∙ sym (map-append trim (map (token_by moment answered act i.tokens) i.tokens) new)

redeem-trim : (config : Configuration) (unit now : ℕ) (text : List ℕ) (target : ℕ) (o : Option TokenImage)
    → redeem_by config unit now text target (option_map trim o) ≡ redeem_by config unit now text target o
redeem-trim config unit now text target None = refl
redeem-trim config unit now text target (Some t) = go (is_live t.fate) refl
  where
    dead : (f : Fate) → t.fate ≡ f → is_live f ≡ false → redeem_by config unit now text target (Some (record t { timeout = 0; last_use = 0 })) ≡ redeem_by config unit now text target (Some t)
    dead Live e off = cc
    dead Expired e off = rw e refl
    dead Evicted e off = rw e refl
    dead Deleted e off = rw e refl

    go : (b : Bool) → is_live t.fate ≡ b → redeem_by config unit now text target (Some (trim t)) ≡ redeem_by config unit now text target (Some t)
    go true e = ap (λ x. redeem_by config unit now text target (Some x)) (trim-live t e)
    go false e = ap (λ x. redeem_by config unit now text target (Some x)) (trim-dead t e) ∙ dead t.fate refl e

unbarred-trim : (config : Configuration) (unit : ℕ) (i : Image) (actor : Actor) (now : ℕ) (act : Act) → unbarred_by config unit (trimmed i) actor now act ≡ unbarred_by config unit i actor now act
unbarred-trim config unit i actor now (Act.Populate id timeout ranges) = rw (length-map trim i.tokens) refl
unbarred-trim config unit i actor now (Act.Redeem text target) =
    ap (redeem_by config unit (max now i.moment) text target) (get-map trim i.tokens (serial_of text)) ∙ redeem-trim config unit (max now i.moment) text target (slice_get i.tokens (serial_of text))
unbarred-trim config unit i actor now _ = refl

-- a trimmed image is answered as the whole one
pub answer-trim : (config : Configuration) (unit : ℕ) (i : Image) (actor : Actor) (now : ℕ) (act : Act) → answer_by config unit (trimmed i) actor now act ≡ answer_by config unit i actor now act
answer-trim config unit i actor now act = ap (λ (a : Answer). if bars_act i.reservations actor act then Answer.Conflict else a) (unbarred-trim config unit i actor now act)

writings-trim : (i : Image) (actor : Actor) (act : Act) → writings_by (trimmed i) actor act ≡ writings_by i actor act
writings-trim i actor (Act.Advance id) = refl
writings-trim i actor Act.Pump = refl
writings-trim i actor _ = refl

-- and stays so with one more entry
pub next-trim : (config : Configuration) (unit : ℕ) (i : Image) (e : Entry) → trimmed (next_image config unit (trimmed i) e) ≡ trimmed (next_image config unit i e)
next-trim config unit i e =
    let u = unit_of config unit in
    ap (λ (a : Answer). trimmed (with_answer u (trimmed i) e a (wrote_of a (writings_by (trimmed i) e.actor e.act)))) (answer-trim config unit i e.actor e.moment e.act)
    ∙ ap (λ (ws : List Writing). trimmed (with_answer u (trimmed i) e (answer_by config unit i e.actor e.moment e.act) (wrote_of (answer_by config unit i e.actor e.moment e.act) ws))) (writings-trim i e.actor e.act)
    ∙ ap (λ (ts : List TokenImage). record (trimmed (next_image config unit i e)) { tokens = ts })
    (tokens-trim u i (max e.moment i.moment) (not (is_refusal (answer_by config unit i e.actor e.moment e.act))) e.act)
