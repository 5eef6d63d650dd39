-- The tokens of a past, and those that a store keeps
use Rattle.std.proofs.Common.{◌≡◌, ℕ, List, [], ◌∷◌, ◌++◌, length, refl, ap, sym, ◌∙◌, true, false, Bool, append-nil}
use Rattle.std.specs.List.{list_all}
use Rattle.std.specs.Prelude.{◌==◌, ◌&&◌, ◌||◌, not, map, filter, cond, nat_le, nat_lt, if◌then◌else◌}
use Rattle.std.proofs.lemmas.List.{length-map}
use Rattle.cm_base.specs.declared.config.UnitConfig.{UnitConfig}
use Rattle.lba_ranges.specs.declared.ranges.Range.{Range}
use Rattle.lba_ranges.specs.Denoted.{blocks_of, total}
use Rattle.lba_ranges.specs.HeldBlocks.{HeldBlocks}
use Rattle.rod_token.specs.TokenText.{serial_of}
use Rattle.cm_history.specs.Bounds.{live_tokens}
use Rattle.cm_history.specs.declared.act.Act.{Act}
use Rattle.cm_history.specs.Deeds.{Deed, is_answered}
use Rattle.cm_history.specs.Blocks.{held, cut}
use Rattle.cm_history.specs.Tokens.{Token, Fate, Live, Expired, Evicted, Deleted, tokens, token_after, made_token, rod, is_live, is_over, is_live_at, is_older, gives_way, is_populate, is_delete_of, is_redeem_of}
use Rattle.cm_history.proofs.PublicLaws.{filter-passes, filter-map, filter-same, map-append, map-map, map-same, all-map, all-same, and_first}
use Rattle.rod_store.specs.declared.kept.Kept.{Kept}
use Rattle.rod_store.specs.declared.kept.TokenState.{TokenState}
use Rattle.rod_store.specs.Kept as store
use Rattle.unit_core.specs.inner.Tables.{token_state_of, kept_of, tokens_of}
use Rattle.copy_jobs.proofs.PublicLaws.{same-sym as eqb-turned}

-- ---- one token

pub live-state : (r : HeldBlocks) (t : Token) (f : Fate) → store.is_live (token_state_of r t f) ≡ is_live f
live-state r t Live = refl
live-state r t Expired = refl
live-state r t Evicted = refl
live-state r t Deleted = refl

over-state : (now : ℕ) (r : HeldBlocks) (t : Token) (f : Fate) → store.is_over now (token_state_of r t f) ≡ (is_live f && is_over now t)
over-state now r t Live = refl
over-state now r t Expired = refl
over-state now r t Evicted = refl
over-state now r t Deleted = refl

-- the token at a moment: it has expired where its time is over
abbrev expire : ℕ → Token → Token
expire now t = if is_live t.fate && is_over now t then record t { fate = Expired } else t

expire-kept : (unit : UnitConfig) (now : ℕ) (t : Token) → store.expire_at now (kept_of unit t) ≡ kept_of unit (expire now t)
expire-kept unit now t =
    ap (λ b. if b then record (kept_of unit t) { state = TokenState.Expired } else kept_of unit t) (over-state now (rod unit t) t t.fate)
    ∙ go (is_live t.fate && is_over now t)
  where
    go : (b : Bool) → (if b then record (kept_of unit t) { state = TokenState.Expired } else kept_of unit t) ≡ kept_of unit (if b then record t { fate = Expired } else t)
    go true = refl
    go false = refl

live-expire : (now : ℕ) (t : Token) → is_live (expire now t).fate ≡ is_live_at now t
live-expire now t = go (is_live t.fate) (is_over now t) refl
  where
    go : (a b : Bool) → is_live t.fate ≡ a → is_live (if a && b then record t { fate = Expired } else t).fate ≡ (a && not b)
    go true true e = refl
    go true false e = e
    go false b e = e

stays-live : (now : ℕ) (t : Token) → is_live_at now t ≡ true → expire now t ≡ t
stays-live now t e = go (is_live t.fate) (is_over now t) e
  where
    go : (a b : Bool) → (a && not b) ≡ true → (if a && b then record t { fate = Expired } else t) ≡ t
    go true true e = cc
    go true false e = refl
    go false b e = refl

-- ---- the live tokens

live-all : (now : ℕ) (ts : List Token) → filter (λ (t : Token). is_live t.fate) (map (expire now) ts) ≡ filter (is_live_at now) ts
live-all now [] = refl
live-all now (t ∷ ts) =
    ap (λ b. cond b (expire now t ∷ filter (λ (x : Token). is_live x.fate) (map (expire now) ts)) (filter (λ (x : Token). is_live x.fate) (map (expire now) ts))) (live-expire now t)
    ∙ go (is_live_at now t) refl (live-all now ts)
  where
    rest : List Token
    rest = filter (λ (x : Token). is_live x.fate) (map (expire now) ts)

    go : (b : Bool) → is_live_at now t ≡ b → rest ≡ filter (is_live_at now) ts → cond b (expire now t ∷ rest) rest ≡ cond b (t ∷ filter (is_live_at now) ts) (filter (is_live_at now) ts)
    go true e ih = ap (λ x. x ∷ rest) (stays-live now t e) ∙ ap (λ l. t ∷ l) ih
    go false e ih = ih

expired-all : (unit : UnitConfig) (now : ℕ) (ts : List Token) → store.expired now (map (kept_of unit) ts) ≡ map (kept_of unit) (map (expire now) ts)
expired-all unit now ts =
    map-map (kept_of unit) (store.expire_at now) ts ∙ map-same (λ t. store.expire_at now (kept_of unit t)) (λ t. kept_of unit (expire now t)) ts (λ t i. expire-kept unit now t)
    ∙ sym (map-map (expire now) (kept_of unit) ts)

live-kept : (unit : UnitConfig) (now : ℕ) (ts : List Token) → store.live (store.expired now (map (kept_of unit) ts)) ≡ map (kept_of unit) (filter (is_live_at now) ts)
live-kept unit now ts =
    ap store.live (expired-all unit now ts)
    ∙ filter-map (kept_of unit) (λ (k : Kept HeldBlocks). store.is_live k.state) (map (expire now) ts)
    ∙ ap (map (kept_of unit)) (filter-same (λ t. store.is_live (kept_of unit t).state) (λ (t : Token). is_live t.fate) (map (expire now) ts) (λ t i. live-state (rod unit t) t t.fate))
    ∙ ap (map (kept_of unit)) (live-all now ts)

is-live : (f : Fate) → is_live f ≡ true → f ≡ Live
is-live Live e = refl
is-live Expired e = cc
is-live Evicted e = cc
is-live Deleted e = cc

last-kept : (unit : UnitConfig) (t : Token) → is_live t.fate ≡ true → store.used_last (kept_of unit t).state ≡ t.last_use
last-kept unit t e = ap (λ f. store.used_last (token_state_of (rod unit t) t f)) (is-live t.fate e)

older-kept : (unit : UnitConfig) (a b : Token) → is_live a.fate ≡ true → is_live b.fate ≡ true → store.is_older (kept_of unit a) (kept_of unit b) ≡ is_older a b
older-kept unit a b x y =
    ap (λ n. nat_lt n (store.used_last (kept_of unit b).state) || (n == store.used_last (kept_of unit b).state && nat_le a.serial b.serial)) (last-kept unit a x)
    ∙ ap (λ n. nat_lt a.last_use n || (a.last_use == n && nat_le a.serial b.serial)) (last-kept unit b y)

-- a live token makes room in the store exactly where it does in the past
room-kept : (unit : UnitConfig) (now : ℕ) (ts : List Token) (t : Token) → is_live_at now t ≡ true
    → store.gives_way (store.expired now (map (kept_of unit) ts)) (kept_of unit t) ≡ gives_way now ts t
room-kept unit now ts t e =
    let lives : is_live t.fate ≡ true = and_first (is_live t.fate) (not (is_over now t)) e in
    let all = live-kept unit now ts in
    let live = filter (is_live_at now) ts in
    ap (λ b. b && ((length (store.live (store.expired now (map (kept_of unit) ts))) == live_tokens) && list_all (store.is_older (kept_of unit t)) (store.live (store.expired now (map (kept_of unit) ts))))) (live-state (rod unit t) t t.fate ∙ lives)
    ∙ ap (λ l. (length l == live_tokens) && list_all (store.is_older (kept_of unit t)) l) all
    ∙ ap (λ n. (n == live_tokens) && list_all (store.is_older (kept_of unit t)) (map (kept_of unit) live)) (length-map live (kept_of unit))
    ∙ ap (λ b. (length live == live_tokens) && b)
    (all-map (kept_of unit) (store.is_older (kept_of unit t)) live
    ∙ all-same (λ x. store.is_older (kept_of unit t) (kept_of unit x)) (is_older t) live
    (λ x i. older-kept unit t x lives (and_first (is_live x.fate) (not (is_over now x)) (filter-passes (is_live_at now) ts x i))))

-- ---- a token after one more deed

not-live : (unit : UnitConfig) (now : ℕ) (t : Token) → is_live_at now t ≡ false → store.is_live (kept_of unit (expire now t)).state ≡ false
not-live unit now t e = live-state (rod unit (expire now t)) (expire now t) (expire now t).fate ∙ live-expire now t ∙ e

after-dead : (d : Deed) (ts : List Token) (t : Token) → is_live_at d.moment t ≡ false → token_after d ts t ≡ expire d.moment t
after-dead d ts t e = go (is_live t.fate) (is_over d.moment t) e
  where
    rest : Token
    rest = if is_delete_of t.serial d.entry.act then record t { fate = Deleted } else
        if is_populate d.entry.act && is_answered d && gives_way d.moment ts t then record t { fate = Evicted } else
        if is_redeem_of t.serial d.entry.act && is_answered d then record t { last_use = d.moment } else t

    go : (a b : Bool) → (a && not b) ≡ false → (if not a then t else if b then record t { fate = Expired } else rest) ≡ (if a && b then record t { fate = Expired } else t)
    go true true e = refl
    go true false e = cc
    go false b e = refl

after-live : (d : Deed) (ts : List Token) (t : Token) → is_live_at d.moment t ≡ true
    → token_after d ts t
    ≡ (if is_delete_of t.serial d.entry.act then record t { fate = Deleted } else
    if is_populate d.entry.act && is_answered d && gives_way d.moment ts t then record t { fate = Evicted } else
    if is_redeem_of t.serial d.entry.act && is_answered d then record t { last_use = d.moment } else t)
after-live d ts t e = go (is_live t.fate) (is_over d.moment t) e
  where
    rest : Token
    rest = if is_delete_of t.serial d.entry.act then record t { fate = Deleted } else
        if is_populate d.entry.act && is_answered d && gives_way d.moment ts t then record t { fate = Evicted } else
        if is_redeem_of t.serial d.entry.act && is_answered d then record t { last_use = d.moment } else t

    go : (a b : Bool) → (a && not b) ≡ true → (if not a then t else if b then record t { fate = Expired } else rest) ≡ rest
    go true true e = cc
    go true false e = refl
    go false b e = cc

-- what a deed does to a kept token, where it does nothing but to live ones
step-kept : (unit : UnitConfig) (d : Deed) (ts : List Token) (g : Kept HeldBlocks → Kept HeldBlocks)
    → ((k : Kept HeldBlocks) → store.is_live k.state ≡ false → g k ≡ k)
    → ((t : Token) → is_live_at d.moment t ≡ true → kept_of unit (token_after d ts t) ≡ g (kept_of unit t))
    → (t : Token) → kept_of unit (token_after d ts t) ≡ g (store.expire_at d.moment (kept_of unit t))
step-kept unit d ts g dead lives t = go (is_live_at d.moment t) refl
  where
    go : (b : Bool) → is_live_at d.moment t ≡ b → kept_of unit (token_after d ts t) ≡ g (store.expire_at d.moment (kept_of unit t))
    go true e = lives t e ∙ ap g (sym (expire-kept unit d.moment t ∙ ap (kept_of unit) (stays-live d.moment t e)))
    go false e =
        ap (kept_of unit) (after-dead d ts t e) ∙ sym (dead (kept_of unit (expire d.moment t)) (not-live unit d.moment t e))
        ∙ ap g (sym (expire-kept unit d.moment t))

steps-kept : (unit : UnitConfig) (d : Deed) (ts : List Token) (g : Kept HeldBlocks → Kept HeldBlocks)
    → ((k : Kept HeldBlocks) → store.is_live k.state ≡ false → g k ≡ k)
    → ((t : Token) → is_live_at d.moment t ≡ true → kept_of unit (token_after d ts t) ≡ g (kept_of unit t))
    → map (kept_of unit) (map (token_after d ts) ts) ≡ map g (store.expired d.moment (map (kept_of unit) ts))
steps-kept unit d ts g dead lives =
    map-map (token_after d ts) (kept_of unit) ts
    ∙ map-same (λ t. kept_of unit (token_after d ts t)) (λ t. g (store.expire_at d.moment (kept_of unit t))) ts (λ t i. step-kept unit d ts g dead lives t)
    ∙ sym (map-map (λ t. store.expire_at d.moment (kept_of unit t)) g ts)
    ∙ ap (map g) (sym (map-map (kept_of unit) (store.expire_at d.moment) ts))

-- ---- the tokens after one more deed, by its act

none-made : (d : Deed) (past : List Deed) (serial : ℕ) (act : Act) → (is_populate act && is_answered d) ≡ false → made_token d past serial act ≡ []
none-made d past serial (Act.Populate id timeout ranges) e = ap (λ b. if b then record { serial = serial; ranges = ranges; timeout = timeout; before = past; last_use = d.moment; fate = Live } ∷ [] else []) e
none-made d past serial _ e = refl

-- no token was made
unmade : (unit : UnitConfig) (d : Deed) (past : List Deed) (g : Kept HeldBlocks → Kept HeldBlocks) → (is_populate d.entry.act && is_answered d) ≡ false
    → ((k : Kept HeldBlocks) → store.is_live k.state ≡ false → g k ≡ k)
    → ((t : Token) → is_live_at d.moment t ≡ true → kept_of unit (token_after d (tokens past) t) ≡ g (kept_of unit t))
    → tokens_of unit (d ∷ past) ≡ map g (store.expired d.moment (tokens_of unit past))
unmade unit d past g none dead lives =
    ap (λ l. map (kept_of unit) (map (token_after d (tokens past)) (tokens past) ++ l)) (none-made d past (length (tokens past)) d.entry.act none)
    ∙ ap (map (kept_of unit)) (append-nil (map (token_after d (tokens past)) (tokens past)))
    ∙ steps-kept unit d (tokens past) g dead lives

map-own : {X : Type 0} (xs : List X) → map (λ x. x) xs ≡ xs
map-own [] = refl
map-own (x ∷ xs) = ap (λ l. x ∷ l) (map-own xs)

-- an act that has to do with no token
pub idle-tokens : (unit : UnitConfig) (d : Deed) (past : List Deed) → (is_populate d.entry.act && is_answered d) ≡ false
    → ((serial : ℕ) → is_delete_of serial d.entry.act ≡ false) → ((serial : ℕ) → (is_redeem_of serial d.entry.act && is_answered d) ≡ false)
    → tokens_of unit (d ∷ past) ≡ store.expired d.moment (tokens_of unit past)
idle-tokens unit d past none undeleted unused =
    unmade unit d past (λ k. k) none (λ k e. refl) lives ∙ map-own (store.expired d.moment (tokens_of unit past))
  where
    lives : (t : Token) → is_live_at d.moment t ≡ true → kept_of unit (token_after d (tokens past) t) ≡ kept_of unit t
    lives t e =
        ap (kept_of unit)
        (after-live d (tokens past) t e
        ∙ ap (λ b. if b then record t { fate = Deleted } else if is_populate d.entry.act && is_answered d && gives_way d.moment (tokens past) t then record t { fate = Evicted } else
        if is_redeem_of t.serial d.entry.act && is_answered d then record t { last_use = d.moment } else t) (undeleted t.serial)
        ∙ go (is_populate d.entry.act) (is_answered d) (gives_way d.moment (tokens past) t) none
        ∙ ap (λ b. if b then record t { last_use = d.moment } else t) (unused t.serial))
      where
        go : (a b c : Bool) → (a && b) ≡ false → (if a && b && c then record t { fate = Evicted } else if is_redeem_of t.serial d.entry.act && is_answered d then record t { last_use = d.moment } else t)
            ≡ (if is_redeem_of t.serial d.entry.act && is_answered d then record t { last_use = d.moment } else t)
        go true true c e = cc
        go true false c e = refl
        go false b c e = refl

pub deleted-tokens : (unit : UnitConfig) (d : Deed) (past : List Deed) (serial : ℕ) → d.entry.act ≡ Act.Delete serial
    → tokens_of unit (d ∷ past) ≡ store.deleted serial (store.expired d.moment (tokens_of unit past))
deleted-tokens unit d past serial is =
    unmade unit d past (store.end_at TokenState.Deleted serial) (ap (λ a. is_populate a && is_answered d) is) dead lives
  where
    dead : (k : Kept HeldBlocks) → store.is_live k.state ≡ false → store.end_at TokenState.Deleted serial k ≡ k
    dead k e = ap (λ b. if b && (k.serial == serial) then record k { state = TokenState.Deleted } else k) e

    lives : (t : Token) → is_live_at d.moment t ≡ true → kept_of unit (token_after d (tokens past) t) ≡ store.end_at TokenState.Deleted serial (kept_of unit t)
    lives t e =
        let live : store.is_live (kept_of unit t).state ≡ true = live-state (rod unit t) t t.fate ∙ and_first (is_live t.fate) (not (is_over d.moment t)) e in
        ap (kept_of unit)
        (after-live d (tokens past) t e
        ∙ ap (λ a. if is_delete_of t.serial a then record t { fate = Deleted } else if is_populate a && is_answered d && gives_way d.moment (tokens past) t then record t { fate = Evicted } else
        if is_redeem_of t.serial a && is_answered d then record t { last_use = d.moment } else t) is
        ∙ ap (λ b. if b then record t { fate = Deleted } else t) (eqb-turned serial t.serial))
        ∙ go (t.serial == serial)
        ∙ sym (ap (λ b. if b && (t.serial == serial) then record (kept_of unit t) { state = TokenState.Deleted } else kept_of unit t) live)
      where
        go : (b : Bool) → kept_of unit (if b then record t { fate = Deleted } else t) ≡ (if b then record (kept_of unit t) { state = TokenState.Deleted } else kept_of unit t)
        go true = refl
        go false = refl

pub used-tokens : (unit : UnitConfig) (d : Deed) (past : List Deed) (text : List ℕ) (target : ℕ) → d.entry.act ≡ Act.Redeem text target → is_answered d ≡ true
    → tokens_of unit (d ∷ past) ≡ store.used (serial_of text) d.moment (store.expired d.moment (tokens_of unit past))
used-tokens unit d past text target is answered =
    unmade unit d past (store.use_at (serial_of text) d.moment) (ap (λ a. is_populate a && is_answered d) is) dead lives
  where
    dead : (k : Kept HeldBlocks) → store.is_live k.state ≡ false → store.use_at (serial_of text) d.moment k ≡ k
    dead k e = ap (λ b. if b && (k.serial == serial_of text) then record k { state = store.with_use d.moment k.state } else k) e

    lives : (t : Token) → is_live_at d.moment t ≡ true → kept_of unit (token_after d (tokens past) t) ≡ store.use_at (serial_of text) d.moment (kept_of unit t)
    lives t e =
        let lives : is_live t.fate ≡ true = and_first (is_live t.fate) (not (is_over d.moment t)) e in
        let live : store.is_live (kept_of unit t).state ≡ true = live-state (rod unit t) t t.fate ∙ lives in
        ap (kept_of unit)
        (after-live d (tokens past) t e
        ∙ ap (λ a. if is_delete_of t.serial a then record t { fate = Deleted } else if is_populate a && is_answered d && gives_way d.moment (tokens past) t then record t { fate = Evicted } else
        if is_redeem_of t.serial a && is_answered d then record t { last_use = d.moment } else t) is
        ∙ ap (λ b. if (serial_of text == t.serial) && b then record t { last_use = d.moment } else t) answered
        ∙ go-and (serial_of text == t.serial)
        ∙ ap (λ b. if b then record t { last_use = d.moment } else t) (eqb-turned (serial_of text) t.serial))
        ∙ go (t.serial == serial_of text) (is-live t.fate lives)
        ∙ sym (ap (λ b. if b && (t.serial == serial_of text) then record (kept_of unit t) { state = store.with_use d.moment (kept_of unit t).state } else kept_of unit t) live)
      where
        go-and : (b : Bool) → (if b && true then record t { last_use = d.moment } else t) ≡ (if b then record t { last_use = d.moment } else t)
        go-and true = refl
        go-and false = refl

        go : (b : Bool) → t.fate ≡ Live → kept_of unit (if b then record t { last_use = d.moment } else t) ≡ (if b then record (kept_of unit t) { state = store.with_use d.moment (kept_of unit t).state } else kept_of unit t)
        go true e = rw e refl
        go false e = refl

pub made-tokens : (unit : UnitConfig) (d : Deed) (past : List Deed) (id timeout : ℕ) (ranges : List Range) → d.entry.act ≡ Act.Populate id timeout ranges → is_answered d ≡ true
    → tokens_of unit (d ∷ past) ≡ store.populated (store.expired d.moment (tokens_of unit past)) d.moment timeout (total ranges) (cut unit (held past) (blocks_of ranges))
made-tokens unit d past id timeout ranges is answered =
    map-append (kept_of unit) (map (token_after d (tokens past)) (tokens past)) (made_token d past (length (tokens past)) d.entry.act)
    ∙ ap (λ l. l ++ map (kept_of unit) (made_token d past (length (tokens past)) d.entry.act)) (steps-kept unit d (tokens past) (store.evict_if now) dead lives)
    ∙ ap (λ a. map (store.evict_if now) now ++ map (kept_of unit) (made_token d past (length (tokens past)) a)) is
    ∙ ap (λ b. map (store.evict_if now) now ++ map (kept_of unit) (if b then new ∷ [] else [])) answered
    ∙ ap (λ n. map (store.evict_if now) now ++ record { serial = n; blocks = total ranges; state = TokenState.Live timeout d.moment (cut unit (held past) (blocks_of ranges)) } ∷ []) count
  where
    now : List (Kept HeldBlocks)
    now = store.expired d.moment (tokens_of unit past)

    new : Token
    new = record { serial = length (tokens past); ranges = ranges; timeout = timeout; before = past; last_use = d.moment; fate = Live }

    count : length (tokens past) ≡ length now
    count = sym (length-map (tokens_of unit past) (store.expire_at d.moment) ∙ length-map (tokens past) (kept_of unit))

    dead : (k : Kept HeldBlocks) → store.is_live k.state ≡ false → store.evict_if now k ≡ k
    dead k e = ap (λ b. if b && ((length (store.live now) == live_tokens) && list_all (store.is_older k) (store.live now)) then record k { state = TokenState.Evicted } else k) e

    lives : (t : Token) → is_live_at d.moment t ≡ true → kept_of unit (token_after d (tokens past) t) ≡ store.evict_if now (kept_of unit t)
    lives t e =
        ap (kept_of unit)
        (after-live d (tokens past) t e
        ∙ ap (λ a. if is_delete_of t.serial a then record t { fate = Deleted } else if is_populate a && is_answered d && gives_way d.moment (tokens past) t then record t { fate = Evicted } else
        if is_redeem_of t.serial a && is_answered d then record t { last_use = d.moment } else t) is
        ∙ ap (λ b. if b && gives_way d.moment (tokens past) t then record t { fate = Evicted } else t) answered)
        ∙ go (gives_way d.moment (tokens past) t)
        ∙ sym (ap (λ b. if b then record (kept_of unit t) { state = TokenState.Evicted } else kept_of unit t) (room-kept unit d.moment (tokens past) t e))
      where
        go : (b : Bool) → kept_of unit (if b then record t { fate = Evicted } else t) ≡ (if b then record (kept_of unit t) { state = TokenState.Evicted } else kept_of unit t)
        go true = refl
        go false = refl
