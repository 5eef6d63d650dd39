-- The images of tokens say what becomes of them
use Rattle.std.proofs.Common.{◌≡◌, ℕ, zero, suc, List, [], ◌∷◌, length, refl, ap, sym, ◌∙◌, true, false, Bool}
use Rattle.std.specs.Prelude.{◌==◌, ◌&&◌, not, map, filter, Option, Some, None, if◌then◌else◌, slice_get, option_map}
use Rattle.std.specs.List.{list_all}
use Rattle.std.specs.Str.{bytes_eq}
use Rattle.lba_ranges.specs.declared.ranges.Range.{Range}
use Rattle.lba_ranges.specs.Denoted.{total, blocks_of}
use Rattle.lba_ranges.specs.Writings.{Held}
use Rattle.cm_base.specs.Configuration.{Configuration}
use Rattle.cm_base.specs.declared.config.UnitConfig.{UnitConfig}
use Rattle.cm_base.specs.Units.{unit_of}
use Rattle.rod_token.specs.TokenText.{token_text}
use Rattle.cm_history.specs.declared.act.Act.{Act}
use Rattle.cm_history.specs.declared.answer.Answer.{Answer}
use Rattle.cm_history.specs.Bounds.{live_tokens}
use Rattle.scsi_sense.specs.Codes.{remote_token_usage_not_supported, token_corrupt}
use Rattle.cm_history.specs.Deeds.{Deed, is_answered}
use Rattle.cm_history.specs.Blocks.{held, cut}
use Rattle.cm_history.specs.Tokens.{Token, Fate, Live, Expired, Evicted, Deleted, token_after, made_token, is_live, is_over, is_live_at, gives_way, is_populate, is_delete_of, is_redeem_of}
use Rattle.cm_history.specs.Redeeming.{are_alike, fate_at, answer_by_fate, redeemed}
use Rattle.cm_history.specs.Image.{token_image}
use Rattle.cm_history.proofs.Imaging.{live_by, older_by, makes_room_by, ended_as, token_by, made_by, fate_by, fate_answer, redeem_by}
use Rattle.cm_history.proofs.Finding.{filter-map, all-map}
use Rattle.cm_history.proofs.Made.{length-map}

makes-room-image : (u : UnitConfig) (now : ℕ) (ts : List Token) (t : Token) → makes_room_by now (map (token_image u) ts) (token_image u t) ≡ gives_way now ts t
makes-room-image u now ts t =
    let live : filter (live_by now) (map (token_image u) ts) ≡ map (token_image u) (filter (is_live_at now) ts) = filter-map (token_image u) (live_by now) ts in
    ap (λ l. (length l == live_tokens) && list_all (older_by (token_image u t)) l) live
    ∙ ap (λ n. (n == live_tokens) && list_all (older_by (token_image u t)) (map (token_image u) (filter (is_live_at now) ts))) (length-map (token_image u) (filter (is_live_at now) ts))
    ∙ ap (λ b. (length (filter (is_live_at now) ts) == live_tokens) && b) (all-map (token_image u) (older_by (token_image u t)) (filter (is_live_at now) ts))

-- a token after one more deed
pub token-image-after : (u : UnitConfig) (d : Deed) (ts : List Token) (t : Token)
    → token_image u (token_after d ts t) ≡ token_by d.moment (is_answered d) d.entry.act (map (token_image u) ts) (token_image u t)
token-image-after u d ts t =
    go (is_live t.fate) refl (is_over d.moment t) (is_delete_of t.serial d.entry.act) (gives_way d.moment ts t) (is_redeem_of t.serial d.entry.act && is_answered d)
    ∙ ap (λ b. if not (is_live t.fate) then token_image u t else
    if is_over d.moment t then ended_as Expired (token_image u t) else
    if is_delete_of t.serial d.entry.act then ended_as Deleted (token_image u t) else
    if is_populate d.entry.act && is_answered d && b then ended_as Evicted (token_image u t) else
    if is_redeem_of t.serial d.entry.act && is_answered d then record (token_image u t) { last_use = d.moment } else token_image u t)
    (sym (makes-room-image u d.moment ts t))
  where
    go : (live : Bool) → is_live t.fate ≡ live → (over gone room used : Bool)
        → token_image u (if not live then t else if over then record t { fate = Expired } else if gone then record t { fate = Deleted } else
        if is_populate d.entry.act && is_answered d && room then record t { fate = Evicted } else if used then record t { last_use = d.moment } else t)
        ≡ (if not live then token_image u t else if over then ended_as Expired (token_image u t) else if gone then ended_as Deleted (token_image u t) else
        if is_populate d.entry.act && is_answered d && room then ended_as Evicted (token_image u t) else if used then record (token_image u t) { last_use = d.moment } else token_image u t)
    go false e over gone room used = refl
    go true e true gone room used = refl
    go true e false true room used = refl
    go true e false false room used = last (is_populate d.entry.act && is_answered d && room)
      where
        last : (b : Bool) → token_image u (if b then record t { fate = Evicted } else if used then record t { last_use = d.moment } else t)
            ≡ (if b then ended_as Evicted (token_image u t) else if used then record (token_image u t) { last_use = d.moment } else token_image u t)
        last true = refl
        last false = touched used
          where
            touched : (b : Bool) → token_image u (if b then record t { last_use = d.moment } else t) ≡ (if b then record (token_image u t) { last_use = d.moment } else token_image u t)
            touched true = refl
            touched false = refl

pub map-token-image : (u : UnitConfig) (d : Deed) (all ts : List Token)
    → map (token_image u) (map (token_after d all) ts) ≡ map (token_by d.moment (is_answered d) d.entry.act (map (token_image u) all)) (map (token_image u) ts)
map-token-image u d all [] = refl
map-token-image u d all (t ∷ ts) = rw (token-image-after u d all t, map-token-image u d all ts) refl

-- the token that a deed made, of the blocks as they stand
pub made-token-image : (u : UnitConfig) (d : Deed) (past : List Deed) (now : ℕ → Held) (serial : ℕ) (act : Act)
    → ((id timeout : ℕ) (ranges : List Range) → act ≡ Act.Populate id timeout ranges → is_answered d ≡ true → cut u now (blocks_of ranges) ≡ cut u (held past) (blocks_of ranges))
    → map (token_image u) (made_token d past serial act) ≡ made_by u now d.moment (is_answered d) serial act
made-token-image u d past now serial (Act.Populate id timeout ranges) same = go (is_answered d) (same id timeout ranges refl)
  where
    go : (t : Bool) → (t ≡ true → cut u now (blocks_of ranges) ≡ cut u (held past) (blocks_of ranges))
        → map (token_image u) (if t then record { serial = serial; ranges = ranges; timeout = timeout; before = past; last_use = d.moment; fate = Live } ∷ [] else [])
        ≡ (if t then record { serial = serial; blocks = total ranges; timeout = timeout; last_use = d.moment; fate = Live; rod = Some (cut u now (blocks_of ranges)) } ∷ [] else [])
    go true e = rw (e refl) refl
    go false e = refl
made-token-image u d past now serial _ same = refl

-- ---- a redeem

fate-image : (u : UnitConfig) (now : ℕ) (t : Token) (f : Fate) → t.fate ≡ f → fate_answer (token_image u t) (fate_by now (token_image u t) f) ≡ answer_by_fate u t (fate_at now t f)
fate-image u now t Live e = go (is_over now t)
  where
    go : (over : Bool) → fate_answer (token_image u t) (if over then Expired else Live) ≡ answer_by_fate u t (if over then Expired else Live)
    go true = refl
    go false = rw e refl
fate-image u now t Expired e = refl
fate-image u now t Evicted e = refl
fate-image u now t Deleted e = refl

pub redeem-image : (config : Configuration) (unit now : ℕ) (text : List ℕ) (target : ℕ) (o : Option Token)
    → redeemed config unit now text target o ≡ redeem_by config unit now text target (option_map (token_image (unit_of config unit)) o)
redeem-image config unit now text target None = refl
redeem-image config unit now text target (Some t) =
    ap (λ a. if not (are_alike (unit_of config unit) (unit_of config target)) then Answer.Refused remote_token_usage_not_supported else
    if not (bytes_eq text (token_text config unit t.serial (total t.ranges))) then Answer.Refused token_corrupt else a)
    (sym (fate-image (unit_of config unit) now t t.fate refl))

pub get-map : {X Y : Type 0} (f : X → Y) (xs : List X) (n : ℕ) → slice_get (map f xs) n ≡ option_map f (slice_get xs n)
get-map f [] n = refl
get-map f (x ∷ xs) zero = refl
get-map f (x ∷ xs) (suc n) = get-map f xs n
