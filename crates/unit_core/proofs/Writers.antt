-- The deeds that wrote what is seen of blocks, after one more deed
use Rattle.std.proofs.Common.{◌≡◌, ℕ, zero, suc, ◌+◌, ◌-◌, ◌<◌, ◌≤◌, List, [], ◌∷◌, ◌++◌, length, refl, ap, sym, ◌∙◌, subst, arith, true, false, Bool, inl, inr}
use Rattle.std.specs.Prelude.{Option, Some, None, is_some, ◌==◌, ◌&&◌, ◌⊎◌, not, map, slice_get, ⊤, if◌then◌else◌}
use Rattle.std.proofs.lemmas.Bool.{cases_lt}
use Rattle.std.proofs.lemmas.Bool.Decides.{nat_tests}
use Rattle.cm_base.specs.Configuration.{Configuration}
use Rattle.lba_ranges.specs.declared.ranges.Range.{Range}
use Rattle.lba_ranges.specs.Denoted.{denotes}
use Rattle.lba_ranges.specs.Versions.{writer_after}
use Rattle.lba_ranges.specs.Writings.{Writing, after, is_written}
use Rattle.cm_history.specs.declared.act.Act.{Act}
use Rattle.cm_history.specs.Deeds.{Deed, is_refusal, is_answered}
use Rattle.cm_history.specs.Tokens.{Token, Live, Expired, Evicted, Deleted, tokens, token_after, made_token, is_live, is_over, is_delete_of, is_populate, is_redeem_of, gives_way}
use Rattle.cm_history.proofs.PublicLaws.{Each-in, get-in, Has, IsMade, all-made, token-kept, IsPast}
use Rattle.unit_core.specs.Versions.{Sight, Now, ByToken, last_writer, writer_shown, writer_seen}
use Rattle.unit_core.specs.inner.Seen.{Nothing, Put, Before, origin_made, put_from, seen_after, ranges_made}

-- what is current after the writings of a put
pub writer-now : (put : ℕ) (ws : List Writing) (made : Option (List Range)) (serial : ℕ) (lives : ℕ → Bool) (seen : Sight → ℕ → Option ℕ) (block : ℕ)
    → writer_after ws put block (seen Now block) ≡ seen_after put ws made serial lives seen Now block
writer-now put ws made serial lives seen block = go (is_written ws block) (is_some (after ws block None))
  where
    go : (t u : Bool) → (if t then (if u then Some put else None) else seen Now block) ≡ put_from put seen block (if t then (if u then Put else Nothing) else Before Now)
    go true true = refl
    go true false = refl
    go false u = refl

-- ---- tokens

abbrev pub is_living : Option Token → Bool
is_living None = false
is_living (Some t) = is_live t.fate

-- the token of a serial is live
abbrev pub lives_at : List Deed → ℕ → Bool
lives_at past serial = is_living (slice_get (tokens past) serial)

record IsMapped (f : Token → Token) (ts us : List Token) (n : ℕ) : Type 0 where
  token : Token
  was : slice_get ts n ≡ Some token
  is : slice_get (map f ts ++ us) n ≡ Some (f token)

at-mapped : (f : Token → Token) (ts us : List Token) (n : ℕ) → n < length ts → IsMapped f ts us n
at-mapped f [] us n low = absurd (omega (arith, low))
at-mapped f (t ∷ ts) us zero low = record { token = t; was = refl; is = refl }
at-mapped f (t ∷ ts) us (suc n) low = let r = at-mapped f ts us n (omega (arith, low)) in record { token = r.token; was = r.was; is = r.is }

at-rest : (f : Token → Token) (ts us : List Token) (n : ℕ) → length ts ≤ n → slice_get (map f ts ++ us) n ≡ slice_get us (n - length ts)
at-rest f [] us n high = let e : n - 0 ≡ n = omega arith in rw e refl
at-rest f (t ∷ ts) us zero high = absurd (omega (arith, high))
at-rest f (t ∷ ts) us (suc n) high =
    let e : suc n - suc (length ts) ≡ n - length ts = omega arith in
    at-rest f ts us n (omega (arith, high)) ∙ ap (slice_get us) (sym e)

-- a token that is live after a deed was live before
live-before : (d : Deed) (ts : List Token) (t : Token) → is_live (token_after d ts t).fate ≡ true → is_live t.fate ≡ true
live-before d ts t e = go (is_live t.fate) refl
  where
    go : (u : Bool) → is_live t.fate ≡ u → is_live t.fate ≡ true
    go true was = was
    go false was =
        let same : token_after d ts t ≡ t =
        ap (λ (b : Bool). if not b then t else
        if is_over d.moment t then record t { fate = Expired } else
        if is_delete_of t.serial d.entry.act then record t { fate = Deleted } else
        if is_populate d.entry.act && is_answered d && gives_way d.moment ts t then record t { fate = Evicted } else
        if is_redeem_of t.serial d.entry.act && is_answered d then record t { last_use = d.moment } else t) was in
        sym (ap (λ (x : Token). is_live x.fate) same) ∙ e

-- the token that a deed made shows what was current
seen-made : (d : Deed) (past : List Deed) (n : ℕ) (act : Act) (k s block : ℕ) → s ≡ n + k
    → writer_shown (slice_get (made_token d past n act) k) block
    ≡ put_from d.place (writer_seen past) block (if is_living (slice_get (made_token d past n act) k) then (if s == n then origin_made (ranges_made d.answer act) block else Before (ByToken s)) else Nothing)
seen-made d past n (Act.Populate id timeout ranges) k s block is = go (is_refusal d.answer) k is
  where
    new : Token
    new = record { serial = n; ranges = ranges; timeout = timeout; before = past; last_use = d.moment; fate = Live }

    shows : (t : Bool) → (if t then last_writer past block else None) ≡ put_from d.place (writer_seen past) block (if t then Before Now else Nothing)
    shows true = refl
    shows false = refl

    go : (t : Bool) (k : ℕ) → s ≡ n + k
        → writer_shown (slice_get (if not t then new ∷ [] else []) k) block
        ≡ put_from d.place (writer_seen past) block (if is_living (slice_get (if not t then new ∷ [] else []) k) then (if s == n then origin_made (if t then None else Some ranges) block else Before (ByToken s)) else Nothing)
    go true k e = refl
    go false zero e = let same : (s == n) ≡ true = grind (arith, nat_tests) in rw same (shows (denotes ranges block))
    go false (suc k) e = refl
seen-made d past n _ k s block is = refl

-- what is seen after one more deed
pub seen-deed : (d : Deed) (past : List Deed) (sight : Sight) (block : ℕ)
    → writer_seen (d ∷ past) sight block ≡ seen_after d.place d.wrote (ranges_made d.answer d.entry.act) (length (tokens past)) (lives_at (d ∷ past)) (writer_seen past) sight block
seen-deed d past Now block = writer-now d.place d.wrote (ranges_made d.answer d.entry.act) (length (tokens past)) (lives_at (d ∷ past)) (writer_seen past) block
seen-deed d past (ByToken s) block = go (cases_lt s (length ts))
  where
    ts : List Token
    ts = tokens past

    us : List Token
    us = made_token d past (length (tokens past)) d.entry.act

    f : Token → Token
    f = token_after d (tokens past)

    From : Option Token → Option ℕ
    From o = put_from d.place (writer_seen past) block
        (if is_living o then (if s == length (tokens past) then origin_made (ranges_made d.answer d.entry.act) block else Before (ByToken s)) else Nothing)

    kept : (t : Token) → slice_get (tokens past) s ≡ Some t → (s == length (tokens past)) ≡ false → writer_shown (Some (token_after d (tokens past) t)) block ≡ From (Some (token_after d (tokens past) t))
    kept t was off = live (is_live (token_after d (tokens past) t).fate) refl
      where
        next : Token
        next = token_after d (tokens past) t

        live : (u : Bool) → is_live (token_after d (tokens past) t).fate ≡ u
            → writer_shown (Some (token_after d (tokens past) t)) block ≡ From (Some (token_after d (tokens past) t))
        live true e =
            let before = live-before d (tokens past) t e in
            let same = token-kept d (tokens past) t in
            ap (λ b. if b && denotes next.ranges block then last_writer next.before block else None) e
            ∙ ap (λ r. if denotes r block then last_writer next.before block else None) same.ranges
            ∙ ap (λ p. if denotes t.ranges block then last_writer p block else None) same.before
            ∙ sym (ap (λ b. if b && denotes t.ranges block then last_writer t.before block else None) before)
            ∙ sym (ap (λ o. writer_shown o block) was)
            ∙ sym (ap (λ b. put_from d.place (writer_seen past) block (if b then origin_made (ranges_made d.answer d.entry.act) block else Before (ByToken s))) off)
            ∙ sym (ap (λ b. put_from d.place (writer_seen past) block (if b then (if s == length (tokens past) then origin_made (ranges_made d.answer d.entry.act) block else Before (ByToken s)) else Nothing)) e)
        live false e =
            ap (λ b. if b && denotes next.ranges block then last_writer next.before block else None) e
            ∙ sym (ap (λ b. put_from d.place (writer_seen past) block (if b then (if s == length (tokens past) then origin_made (ranges_made d.answer d.entry.act) block else Before (ByToken s)) else Nothing)) e)

    go : (s < length (tokens past)) ⊎ (length (tokens past) ≤ s) → writer_shown (slice_get (tokens (d ∷ past)) s) block ≡ From (slice_get (tokens (d ∷ past)) s)
    go (inl low) =
        let r = at-mapped (token_after d (tokens past)) (tokens past) (made_token d past (length (tokens past)) d.entry.act) s low in
        let off : (s == length (tokens past)) ≡ false = grind (arith, nat_tests) in
        ap (λ o. writer_shown o block) r.is ∙ kept r.token r.was off ∙ sym (ap From r.is)
    go (inr high) =
        let is = at-rest (token_after d (tokens past)) (tokens past) (made_token d past (length (tokens past)) d.entry.act) s high in
        let sums : s ≡ length (tokens past) + (s - length (tokens past)) = omega (arith, high) in
        ap (λ o. writer_shown o block) is
        ∙ seen-made d past (length (tokens past)) d.entry.act (s - length (tokens past)) s block sums
        ∙ sym (ap From is)

-- ---- places

-- each deed has the number of those before it
abbrev pub ArePlaced : List Deed → Type 0
ArePlaced [] = ⊤
ArePlaced (d ∷ past) = (d.place ≡ length past) × ArePlaced past

pub placed : (config : Configuration) (unit : ℕ) (past : List Deed) → IsPast config unit past → ArePlaced past
placed config unit [] is = tt
placed config unit (d ∷ past) is = (ap (λ (x : Deed). x.place) is.0, placed config unit past is.1)

last-low : (past : List Deed) (block place : ℕ) → ArePlaced past → last_writer past block ≡ Some place → place < length past
last-low [] block place are e = cc
last-low (d ∷ past) block place are e = go (is_written d.wrote block) (is_some (after d.wrote block None)) e (last-low past block place are.1)
  where
    go : (t u : Bool) → (if t then (if u then Some d.place else None) else last_writer past block) ≡ Some place → (last_writer past block ≡ Some place → place < length past) → place < suc (length past)
    go true true e ih = let same : d.place ≡ place = cc in omega (arith, are.0, same)
    go true false e ih = cc
    go false u e ih = let low = ih e in omega (arith, low)

has-placed : (d : Deed) (before past : List Deed) → Has d before past → ArePlaced past → ArePlaced before × (length before < length past)
has-placed d before [] has are = absurd has
has-placed d before (x ∷ past) (inl is) are = let long = ap length is.1 in (subst ArePlaced is.1 are.1, omega (arith, long))
has-placed d before (x ∷ past) (inr has) are = let r = has-placed d before past has are.1 in (r.0, omega (arith, r.1))

-- what is seen was written at an earlier place
pub seen-low : (past : List Deed) (sight : Sight) (block place : ℕ) → ArePlaced past → writer_seen past sight block ≡ Some place → place < length past
seen-low past Now block place are e = last-low past block place are e
seen-low past (ByToken s) block place are e = go (slice_get (tokens past) s) refl e
  where
    go : (o : Option Token) → slice_get (tokens past) s ≡ o → writer_shown o block ≡ Some place → place < length past
    go None found e = cc
    go (Some t) found e =
        let made = Each-in (IsMade past) (tokens past) t (all-made past) (get-in (tokens past) s t found) in
        let r = has-placed made.made t.before past made.there are in
        shown r.0 r.1 (is_live t.fate && denotes t.ranges block) e
      where
        shown : ArePlaced t.before → length t.before < length past → (u : Bool) → (if u then last_writer t.before block else None) ≡ Some place → place < length past
        shown first less true e = let low = last-low t.before block place first e in omega (arith, low, less)
        shown first less false e = cc
