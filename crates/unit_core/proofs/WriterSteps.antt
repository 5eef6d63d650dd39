-- The deeds that wrote what the tables of a unit keep, after one more act
use Rattle.std.proofs.Common.{◌≡◌, ℕ, zero, suc, List, [], ◌∷◌, ◌++◌, length, refl, ap, sym, ◌∙◌, true, false, Bool}
use mathlib.Core.Path.{fun_ext}
use Rattle.std.specs.Prelude.{Option, Some, None, is_some, option_map, map, slice_get, if◌then◌else◌}
use Rattle.std.proofs.lemmas.List.{length-map}
use Rattle.cm_base.specs.Configuration.{Configuration}
use Rattle.cm_base.specs.Units.{unit_of}
use Rattle.cm_base.specs.declared.config.UnitConfig.{UnitConfig}
use Rattle.lba_ranges.specs.HeldBlocks.{HeldBlocks}
use Rattle.lba_ranges.specs.declared.ranges.Range.{Range}
use Rattle.lba_ranges.specs.Versions.{Writers, no_writers}
use Rattle.lba_ranges.specs.Writings.{Writing}
use Rattle.cm_history.specs.declared.act.Entry.{Entry}
use Rattle.cm_history.specs.Answers.{answer_after, deed, writings, wrote_of}
use Rattle.cm_history.specs.declared.act.Act.{Act}
use Rattle.cm_history.specs.declared.act.Actor.{Actor}
use Rattle.cm_history.specs.Folding.{StandsFor}
use Rattle.cm_history.specs.Image.{Image, TokenImage, image, token_image, trim, trimmed}
use Rattle.cm_history.proofs.PublicLaws.{past-is, writings-image, writings_by}
use Rattle.rod_store.specs.Pinning.{holder, ArePinned}
use Rattle.unit_core.specs.Sharing.{AreShared}
use Rattle.unit_core.specs.UnitState.{UnitState, Stands, shared_by}
use Rattle.unit_core.proofs.Alike.{ShareAlike, alike-after, alike-same, next-unseen, shares-are, table-alike, table-same}
use Rattle.cm_history.specs.Deeds.{Deed}
use Rattle.cm_history.specs.History.{past_of}
use Rattle.cm_history.specs.Tokens.{Token, Fate, Live, Expired, Evicted, Deleted, tokens, is_live, rod}
use Rattle.rod_store.specs.declared.kept.Kept.{Kept}
use Rattle.rod_store.specs.Kept.{value_at, value_in, value_of, kept_with}
use Rattle.rod_store.proofs.PublicLaws.{value-with}
use Rattle.rod_store.specs.declared.pinned_rod.PinnedRod.{PinnedRod}
use Rattle.rod_store.specs.TokenChanges.{ranges_pinned}
use Rattle.unit_core.specs.declared.plan.Plan.{Plan}
use Rattle.unit_core.specs.Versions.{Sight, Now, ByToken, writer_seen, shares, shares_table}
use Rattle.unit_core.specs.inner.BlockChanges.{writings_of}
use Rattle.unit_core.specs.inner.Planning.{IsPlan}
use Rattle.unit_core.specs.inner.Tables.{kept_of, tokens_of, token_state_of}
use Rattle.unit_core.specs.inner.Seen.{seen_after, ranges_made, put_seen, lives_in, shares_shown, AreWriters}
use Rattle.unit_core.proofs.Pasts.{past_of-push}
use Rattle.unit_core.proofs.Writers.{is_living, lives_at, placed, seen-deed}

same-after : (put : ℕ) (ws ws' : List Writing) (made made' : Option (List Range)) (n n' : ℕ) (lives lives' : ℕ → Bool) (f f' : Sight → ℕ → Option ℕ)
    → ws ≡ ws' → made ≡ made' → n ≡ n' → ((k : ℕ) → lives k ≡ lives' k) → ((s : Sight) (b : ℕ) → f s b ≡ f' s b)
    → (s : Sight) (b : ℕ) → seen_after put ws made n lives f s b ≡ seen_after put ws' made' n' lives' f' s b
same-after put ws ws' made made' n n' lives lives' f f' wrote ranges count live seen s b =
    ap (λ l. seen_after put l made n lives f s b) wrote
    ∙ ap (λ l. seen_after put ws' l n lives f s b) ranges
    ∙ ap (λ k. seen_after put ws' made' k lives f s b) count
    ∙ ap (λ g. seen_after put ws' made' n' g f s b) (fun_ext live)
    ∙ ap (λ h. seen_after put ws' made' n' lives' h s b) (fun_ext (λ x. fun_ext (seen x)))

-- ---- tables

get-map : {X Y : Type 0} (f : X → Y) (xs : List X) (n : ℕ) → slice_get (map f xs) n ≡ option_map f (slice_get xs n)
get-map f [] n = refl
get-map f (x ∷ xs) zero = refl
get-map f (x ∷ xs) (suc n) = get-map f xs n

some-map : {X Y : Type 0} (f : X → Y) (o : Option X) → is_some (option_map f o) ≡ is_some o
some-map f None = refl
some-map f (Some x) = refl

living-value : (u : UnitConfig) (o : Option Token) → is_some (value_in (option_map (kept_of u) o)) ≡ is_living o
living-value u None = refl
living-value u (Some t) = go t.fate
  where
    go : (f : Fate) → is_some (value_of (token_state_of (rod u t) t f)) ≡ is_live f
    go Live = refl
    go Expired = refl
    go Evicted = refl
    go Deleted = refl

-- the tables' tokens are live where those of the past are
pub lives-own : {P : Type 0} (f : PinnedRod P → HeldBlocks) (own : List (Kept (PinnedRod P))) (u : UnitConfig) (ts : List Token) → map (kept_with f) own ≡ map (kept_of u) ts
    → (k : ℕ) → lives_in own k ≡ is_living (slice_get ts k)
lives-own f own u ts same k =
    sym (some-map f (value_at k own)) ∙ ap is_some (sym (value-with f own k)) ∙ ap (λ l. is_some (value_at k l)) same
    ∙ ap (λ o. is_some (value_in o)) (get-map (kept_of u) ts k) ∙ living-value u (slice_get ts k)

length-own : {P : Type 0} (f : PinnedRod P → HeldBlocks) (own : List (Kept (PinnedRod P))) (u : UnitConfig) (ts : List Token) → map (kept_with f) own ≡ map (kept_of u) ts → length own ≡ length ts
length-own f own u ts same = sym (length-map own (kept_with f)) ∙ ap length same ∙ length-map ts (kept_of u)

-- the tables of a unit that nothing was asked of yet
pub writers-start : {P : Type 0} (number : P → ℕ) (written_by : Writers → Type 0) (own : List (Kept (PinnedRod P))) → own ≡ [] → written_by no_writers → AreWriters number written_by own (writer_seen [])
writers-start number written_by own none by = record { writers = no_writers; written = by; same = same }
  where
    same : (s : Sight) (b : ℕ) → put_seen number no_writers own s b ≡ writer_seen [] s b
    same Now b = refl
    same (ByToken s) b = ap (λ l. put_seen number no_writers l (ByToken s) b) none

-- the tables after an act, by its plan
pub writers-step : {P : Type 0} (number : P → ℕ) (config : Configuration) (unit : ℕ) (entries : List Entry) (e : Entry) (plan : Plan) (written_by written_by' : Writers → Type 0)
    → (own own' : List (Kept (PinnedRod P))) (f f' : PinnedRod P → HeldBlocks) (were : AreWriters number written_by own (writer_seen (past_of config unit entries)))
    → e.unit ≡ unit → IsPlan config unit (past_of config unit entries) e.actor e.moment e.act plan
    → map (kept_with f) own ≡ tokens_of (unit_of config unit) (past_of config unit entries)
    → map (kept_with f') own' ≡ tokens_of (unit_of config unit) (past_of config unit (entries ++ e ∷ []))
    → AreWriters number written_by' own'
    (seen_after (length (past_of config unit entries)) (writings_of plan.blocks) (ranges_pinned plan.tokens) (length own) (lives_in own') (put_seen number were.writers own))
    → AreWriters number written_by' own' (writer_seen (past_of config unit (entries ++ e ∷ [])))
writers-step number config unit entries e plan written_by written_by' own own' f f' were here planned was now are =
    record { writers = are.writers; written = are.written; same = λ s b. are.same s b ∙ seen s b }
  where
    past : List Deed
    past = past_of config unit entries

    u : UnitConfig
    u = unit_of config unit

    d : Deed
    d = deed config unit (past_of config unit entries) e

    next : past_of config unit (entries ++ e ∷ []) ≡ deed config unit (past_of config unit entries) e ∷ past_of config unit entries
    next = past_of-push config unit entries e here

    wrote : writings_of plan.blocks ≡ (deed config unit (past_of config unit entries) e).wrote
    wrote = planned.wrote ∙ ap (λ a. wrote_of a (writings (past_of config unit entries) e.actor e.act)) planned.answer

    ranges : ranges_pinned plan.tokens ≡ ranges_made (deed config unit (past_of config unit entries) e).answer e.act
    ranges = planned.makes ∙ ap (λ a. ranges_made a e.act) planned.answer

    seen : (s : Sight) (b : ℕ)
        → seen_after (length (past_of config unit entries)) (writings_of plan.blocks) (ranges_pinned plan.tokens) (length own) (lives_in own') (put_seen number were.writers own) s b
        ≡ writer_seen (past_of config unit (entries ++ e ∷ [])) s b
    seen s b =
        same-after (length past) (writings_of plan.blocks) d.wrote (ranges_pinned plan.tokens) (ranges_made d.answer e.act) (length own) (length (tokens past)) (lives_in own') (lives_at (d ∷ past))
        (put_seen number were.writers own) (writer_seen past)
        wrote ranges (length-own f own u (tokens past) was) (lives-own f' own' u (tokens (d ∷ past)) (now ∙ ap (tokens_of u) next)) were.same s b
        ∙ sym (seen-deed d past s b) ∙ ap (λ l. writer_seen l s b) (sym next)

-- ---- histories

trim-fate : (t : TokenImage) → (trim t).fate ≡ t.fate
trim-fate t = go (is_live t.fate)
  where
    go : (b : Bool) → (if b then t else record t { timeout = 0; last_use = 0 }).fate ≡ t.fate
    go true = refl
    go false = refl

abbrev image_lives : Option TokenImage → Bool
image_lives None = false
image_lives (Some t) = is_live t.fate

lives-image : (u : UnitConfig) (ts : List Token) (k : ℕ) → image_lives (slice_get (map trim (map (token_image u) ts)) k) ≡ is_living (slice_get ts k)
lives-image u ts k = ap image_lives (get-map trim (map (token_image u) ts) k ∙ ap (option_map trim) (get-map (token_image u) ts k)) ∙ go (slice_get ts k)
  where
    go : (o : Option Token) → image_lives (option_map trim (option_map (token_image u) o)) ≡ is_living o
    go None = refl
    go (Some t) = ap is_live (trim-fate (token_image u t))

-- where two histories have one image, the same tokens are live
lives-alike : (u : UnitConfig) (a b : List Deed) → trimmed (image u a) ≡ trimmed (image u b) → (k : ℕ) → lives_at a k ≡ lives_at b k
lives-alike u a b same k = sym (lives-image u (tokens a) k) ∙ ap (λ (i : Image). image_lives (slice_get i.tokens k)) same ∙ lives-image u (tokens b) k

pub tokens-alike : (u : UnitConfig) (a b : List Deed) → trimmed (image u a) ≡ trimmed (image u b) → length (tokens a) ≡ length (tokens b)
tokens-alike u a b same =
    sym (length-map (map (token_image u) (tokens a)) trim ∙ length-map (tokens a) (token_image u))
    ∙ ap (λ (i : Image). length i.tokens) same
    ∙ length-map (map (token_image u) (tokens b)) trim ∙ length-map (tokens b) (token_image u)

writings-trim : (i : Image) (actor : Actor) (act : Act) → writings_by (trimmed i) actor act ≡ writings_by i actor act
writings-trim i actor (Act.Advance id) = refl
writings-trim i actor Act.Pump = refl
writings-trim i actor _ = refl

-- and an act writes the same after both
writings-alike : (config : Configuration) (unit : ℕ) (a b : List Entry) (actor : Actor) (act : Act)
    → trimmed (image (unit_of config unit) (past_of config unit a)) ≡ trimmed (image (unit_of config unit) (past_of config unit b))
    → writings (past_of config unit a) actor act ≡ writings (past_of config unit b) actor act
writings-alike config unit a b actor act same =
    let i = image (unit_of config unit) (past_of config unit a) in
    let j = image (unit_of config unit) (past_of config unit b) in
    sym (writings-image config unit (past_of config unit a) actor act (past-is config unit a))
    ∙ sym (writings-trim i actor act) ∙ ap (λ (x : Image). writings_by x actor act) same ∙ writings-trim j actor act
    ∙ writings-image config unit (past_of config unit b) actor act (past-is config unit b)

-- two histories for which one unit stands keep the same versions with one more entry of both
pub alike-step : (config : Configuration) (unit n : ℕ) (a b : List Entry) (e : Entry) → e.unit ≡ unit
    → trimmed (image (unit_of config unit) (past_of config unit a)) ≡ trimmed (image (unit_of config unit) (past_of config unit b))
    → trimmed (image (unit_of config unit) (past_of config unit (a ++ e ∷ []))) ≡ trimmed (image (unit_of config unit) (past_of config unit (b ++ e ∷ [])))
    → answer_after config unit (past_of config unit a) e.actor e.moment e.act ≡ answer_after config unit (past_of config unit b) e.actor e.moment e.act
    → ShareAlike n (writer_seen (past_of config unit a)) (writer_seen (past_of config unit b))
    → ShareAlike n (writer_seen (past_of config unit (a ++ e ∷ []))) (writer_seen (past_of config unit (b ++ e ∷ [])))
alike-step config unit n a b e here was now answers alike =
    alike-same n
    (seen_after (length p) d.wrote (ranges_made d.answer e.act) (length (tokens p)) (lives_at (d ∷ p)) (writer_seen p)) (writer_seen (past_of config unit (a ++ e ∷ [])))
    (seen_after (length q) d.wrote (ranges_made d.answer e.act) (length (tokens p)) (lives_at (d ∷ p)) (writer_seen q)) (writer_seen (past_of config unit (b ++ e ∷ [])))
    (λ s block. ap (λ l. writer_seen l s block) next-a ∙ seen-deed d p s block)
    (λ s block. ap (λ l. writer_seen l s block) next-b ∙ seen-deed f q s block
    ∙ same-after (length q) f.wrote d.wrote (ranges_made f.answer e.act) (ranges_made d.answer e.act) (length (tokens q)) (length (tokens p)) (lives_at (f ∷ q)) (lives_at (d ∷ p)) (writer_seen q) (writer_seen q)
    wrote ranges (sym (tokens-alike u p q was)) live (λ x y. refl) s block)
    (alike-after n (length p) (length q) d.wrote (ranges_made d.answer e.act) (length (tokens p)) (lives_at (d ∷ p)) (writer_seen p) (writer_seen q) alike
    (next-unseen p (placed config unit p (past-is config unit a))) (next-unseen q (placed config unit q (past-is config unit b))))
  where
    u : UnitConfig
    u = unit_of config unit

    p : List Deed
    p = past_of config unit a

    q : List Deed
    q = past_of config unit b

    d : Deed
    d = deed config unit (past_of config unit a) e

    f : Deed
    f = deed config unit (past_of config unit b) e

    next-a : past_of config unit (a ++ e ∷ []) ≡ deed config unit (past_of config unit a) e ∷ past_of config unit a
    next-a = past_of-push config unit a e here

    next-b : past_of config unit (b ++ e ∷ []) ≡ deed config unit (past_of config unit b) e ∷ past_of config unit b
    next-b = past_of-push config unit b e here

    wrote : (deed config unit (past_of config unit b) e).wrote ≡ (deed config unit (past_of config unit a) e).wrote
    wrote =
        ap (λ x. wrote_of x (writings (past_of config unit b) e.actor e.act)) (sym answers)
        ∙ ap (wrote_of (answer_after config unit (past_of config unit a) e.actor e.moment e.act)) (sym (writings-alike config unit a b e.actor e.act was))

    ranges : ranges_made (deed config unit (past_of config unit b) e).answer e.act ≡ ranges_made (deed config unit (past_of config unit a) e).answer e.act
    ranges = ap (λ x. ranges_made x e.act) (sym answers)

    live : (k : ℕ) → lives_at (deed config unit (past_of config unit b) e ∷ past_of config unit b) k ≡ lives_at (deed config unit (past_of config unit a) e ∷ past_of config unit a) k
    live k =
        ap (λ l. lives_at l k) (sym next-b)
        ∙ sym (lives-alike (unit_of config unit) (past_of config unit (a ++ e ∷ [])) (past_of config unit (b ++ e ∷ [])) now k)
        ∙ ap (λ l. lives_at l k) next-a

-- ---- what a unit shows

-- the tables show the versions that the deeds wrote
pub table-are : {P : Type 0} (number : P → ℕ) (blocks n : ℕ) (pinned : ℕ → Option (List Range)) (written_by : Writers → Type 0) (own : List (Kept (PinnedRod P))) (past : List Deed) (f : PinnedRod P → HeldBlocks) (u : UnitConfig)
    (pins : ArePinned number blocks pinned (holder None own)) (are : AreWriters number written_by own (writer_seen past)) (shared : Option ℕ → Option ℕ → ℕ → Bool)
    → AreShared blocks pinned shared are.writers → blocks ≡ n → map (kept_with f) own ≡ tokens_of u past
    → shared_by n past ≡ shares_table blocks (length own) (shares_shown number shared own)
table-are number blocks n pinned written_by own past f u pins are shared told count same =
    sym (table-same blocks (length own) (shares_shown number shared own) (shares (writer_seen past)) (shares-are number blocks pinned written_by own past pins are shared told)
    ∙ ap (λ k. shares_table k (length own) (shares (writer_seen past))) count
    ∙ ap (λ k. shares_table n k (shares (writer_seen past))) (length-own f own u (tokens past) same))

-- histories that show one table share alike
pub shared-alike : (u : UnitConfig) (a b : List Deed) → trimmed (image u a) ≡ trimmed (image u b) → shared_by u.blocks a ≡ shared_by u.blocks b → ShareAlike u.blocks (writer_seen a) (writer_seen b)
shared-alike u a b images same =
    table-alike u.blocks (length (tokens a)) a b refl (sym (tokens-alike u a b images))
    (same ∙ ap (λ k. shares_table u.blocks k (shares (writer_seen b))) (sym (tokens-alike u a b images)))

-- and the other way round
pub alike-shared : (u : UnitConfig) (a b : List Deed) → trimmed (image u a) ≡ trimmed (image u b) → ShareAlike u.blocks (writer_seen a) (writer_seen b) → shared_by u.blocks a ≡ shared_by u.blocks b
alike-shared u a b images alike =
    table-same u.blocks (length (tokens a)) (shares (writer_seen a)) (shares (writer_seen b)) alike
    ∙ ap (λ k. shares_table u.blocks k (shares (writer_seen b))) (tokens-alike u a b images)

pub stands-with : (s : UnitState) (entries : List Entry) → StandsFor s.config s.unit s.image s.kept s.folded entries → shared_by (unit_of s.config s.unit).blocks (past_of s.config s.unit entries) ≡ s.shares → Stands s entries
stands-with s entries stands same = record { own = stands.own; asked = stands.asked; image = stands.image; keeps = stands.keeps; few = stands.few; versions = same }
