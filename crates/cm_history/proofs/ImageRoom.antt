-- The image of a unit and its kept entries say whether its record is full, and the lists for which it stands are one to it
use Rattle.std.proofs.Common.{subst, ◌≡◌, ℕ, zero, suc, ◌+◌, ◌-◌, ◌*◌, ◌<◌, ◌≤◌, List, [], ◌∷◌, ◌++◌, length, drop, refl, ap, sym, ◌∙◌, arith, true, false, Bool, inl, inr, length-append, append-nil}
use Rattle.std.specs.Prelude.{All, Option, Some, None, ◌^◌, ◌⊎◌, ◌==◌, ◌&&◌, ◌||◌, map, max, nat_lt, filter, cond, sum_by, is_some, nat_le, option_map, if◌then◌else◌}
use Rattle.std.proofs.lemmas.Bool.{cases_eq, cases_lt}
use Rattle.std.proofs.lemmas.Bool.Decides.{nat_tests}
use Rattle.std.proofs.lemmas.List.Sums.{sum_by-append, sum_by-cons}
use Rattle.std.proofs.lemmas.List.Elements.{filter-append}
use Rattle.cm_base.specs.Configuration.{Configuration}
use Rattle.cm_base.specs.declared.config.UnitConfig.{UnitConfig}
use Rattle.cm_base.specs.Units.{unit_of}
use Rattle.cm_history.specs.declared.act.Act.{Act}
use Rattle.cm_history.specs.declared.act.Actor.{Actor}
use Rattle.cm_history.specs.declared.act.Entry.{Entry}
use Rattle.cm_history.specs.Bounds.{piece_blocks}
use Rattle.cm_history.specs.Deeds.{Deed, last_stamp}
use Rattle.cm_history.specs.Limits.{within_limits}
use Rattle.cm_history.specs.Legal.{may_ask}
use Rattle.cm_history.specs.Operations.{Operation, Form, OfToken, OfCopy, form_of, list_of, written, count_of, is_running, is_running_state, state, state_of, operations, operation_after, made_operation, makes_operation, kept, would_serve}
use Rattle.cm_history.specs.Answers.{deed, is_busy}
use Rattle.cm_history.specs.History.{on, past_of, answer}
use Rattle.cm_history.specs.Room.{is_write, bytes_in, payload, pieces, kept_free, still_needed, need, need_to_serve, is_full}
use Rattle.cm_history.specs.Blocks.{held, mapped}
use Rattle.cm_history.specs.Tokens.{Token, tokens, is_live}
use Rattle.cm_history.specs.Image.{Image, OperationImage, TokenImage, image, operation_image, token_image, trim, trimmed}
use Rattle.lba_ranges.specs.Writings.{mapped_below}
use Rattle.lba_ranges.proofs.PublicLaws.{mapped-same}
use Rattle.cm_history.proofs.Imaging.{now_of, runs_by, served_by, busy_by, answer_by, next_image}
use Rattle.cm_history.specs.Asked.{IsAsked, AllAsked}
use Rattle.cm_history.specs.Folding.{StandsFor, live_in}
use Rattle.cm_history.proofs.Lists.{In, In-split, Each, Each-all, Each-in, Each-by, Each-map, Each-append}
use Rattle.cm_history.proofs.Finding.{filter-map, filter-same}
use Rattle.cm_history.proofs.Counts.{IsPast, IsBegun, begun, made-after}
use Rattle.cm_history.proofs.CountLaw.{past-is, length-past}
use Rattle.cm_history.proofs.Records.{kept_in, running_kept}
use Rattle.cm_history.proofs.Made.{by_last, length-map, past_of-mine, past_of-other}
use Rattle.cm_history.proofs.Starts.{start-length}
use Rattle.cm_history.proofs.Serving.{IsPaced, all-paced, few-written, length-drop}
use Rattle.cm_history.proofs.ImageOperations.{runs-image, Runs, runs-act, would-image, busy-image}
use Rattle.cm_history.proofs.FoldLaw.{answer-image, next-image, held-image}
use Rattle.cm_history.proofs.ImageTrim.{answer-trim, next-trim}

-- ---- room, of the image and the kept entries alone

-- the entries that are kept free for an operation that runs
abbrev pub reserved_of : OperationImage → Form → ℕ
reserved_of o OfToken = pieces (o.report.count + length o.unwritten) + 1 - pieces o.report.count
reserved_of o OfCopy = 1

abbrev pub reserved_by_image : Image → ℕ
reserved_by_image i = sum_by (λ (o : OperationImage). reserved_of o o.form) (filter runs_by i.kept)

abbrev pub serve_by : Image → Actor → Act → ℕ
serve_by i actor act = if is_some (served_by i actor act) then 0 else 1

abbrev pub need_by : Image → Actor → Act → ℕ
need_by i actor (Act.Start id background ranges rod) = 2 + pieces (length rod.items)
need_by i actor (Act.Open id) = 2
need_by i actor (Act.Advance id) = serve_by i actor (Act.Advance id)
need_by i actor Act.Pump = serve_by i actor Act.Pump
need_by i actor (Act.End id) = serve_by i actor (Act.End id)
need_by i actor (Act.Abort id) = serve_by i actor (Act.Abort id)
need_by i actor (Act.Close id result) = serve_by i actor (Act.Close id result)
need_by i actor _ = 1

abbrev pub payload_by : List Entry → ℕ
payload_by kept = sum_by (λ (e : Entry). bytes_in e.act) kept

abbrev pub full_by : UnitConfig → Image → List Entry → Actor → ℕ → Act → Bool
full_by unit i kept actor stamp act =
    (max stamp i.last_stamp == 2 ^ 64 - 1)
    || nat_lt unit.entries (length kept + reserved_by_image i + need_by i actor act)
    || (is_write act && nat_lt unit.payload (payload_by kept + bytes_in act))

-- ---- what is kept free

-- each operation was asked within the limits
abbrev IsMeant : Configuration → ℕ → Operation → Type 0
IsMeant config unit o = within_limits config unit o.made.entry.act ≡ true

all-meant : (config : Configuration) (unit : ℕ) (past : List Deed) → AllAsked config unit past → Each (IsMeant config unit) (operations past)
all-meant config unit [] asked = tt
all-meant config unit (d ∷ past) asked = go (all-meant config unit past asked.1)
  where
    new : (t : Bool) → Each (IsMeant config unit) (if t then made_operation d ∷ [] else [])
    new true = (asked.0.limits, tt)
    new false = tt

    go : Each (IsMeant config unit) (operations past) → Each (IsMeant config unit) (operations (d ∷ past))
    go before =
        Each-append (IsMeant config unit) (map (operation_after d) (operations past)) _
        (Each-map (IsMeant config unit) (operation_after d) (operations past) (Each-by _ (operations past) (λ o i.
        ap (λ (x : Deed). within_limits config unit x.entry.act) (made-after d o) ∙ Each-in (IsMeant config unit) (operations past) o before i)))
        (new (makes_operation d))

pub whole-pieces : (n : ℕ) → pieces (piece_blocks * n) ≡ n
whole-pieces n = omega arith

reserved-act : (config : Configuration) (unit : ℕ) (o : Operation) (act : Act) → o.made.entry.act ≡ act → Runs o act (form_of act) ≡ true → within_limits config unit act ≡ true
    → (is_running_state (state o) ≡ true → length (written o) ≡ piece_blocks * length o.servers) → IsBegun o
    → reserved_of (operation_image o) (form_of act) ≡ still_needed (length o.servers) act
reserved-act config unit o (Act.Start id background ranges rod) is runs meant paced begun =
    let count : (operation_image o).report.count ≡ length (written o) = ap (count_of (written o)) is in
    let pace = paced (ap is_running_state (ap (state_of o) is) ∙ runs) in
    let few = few-written o begun in
    let left = length-drop (length (written o)) (list_of o.made.entry.act) in
    let long : length (list_of o.made.entry.act) ≡ length rod.items = ap (λ a. length (list_of a)) is ∙ start-length config unit id background ranges rod meant in
    let whole : (operation_image o).report.count + length (operation_image o).unwritten ≡ length rod.items = omega (arith, count, few, left, long) in
    let served : pieces (operation_image o).report.count ≡ length o.servers = ap pieces (count ∙ pace) ∙ whole-pieces (length o.servers) in
    ap (λ n. pieces n + 1 - pieces (operation_image o).report.count) whole ∙ ap (λ n. pieces (length rod.items) + 1 - n) served
reserved-act config unit o (Act.Open id) is runs meant paced begun = refl
reserved-act config unit o _ is runs meant paced begun = cc

pub sum-filter : {X : Type 0} (f : X → ℕ) (p : X → Bool) (xs : List X) → sum_by f (filter p xs) ≡ sum_by (λ x. if p x then f x else 0) xs
sum-filter f p [] = refl
sum-filter f p (x ∷ xs) =
    go (p x) (sum-filter f p xs) ∙ sym (sum_by-cons (λ y. if p y then f y else 0) x xs)
  where
    go : (t : Bool) → sum_by f (filter p xs) ≡ sum_by (λ y. if p y then f y else 0) xs
        → sum_by f (cond t (x ∷ filter p xs) (filter p xs)) ≡ (if t then f x else 0) + sum_by (λ y. if p y then f y else 0) xs
    go true ih = sum_by-cons f x (filter p xs) ∙ ap (λ n. f x + n) ih
    go false ih = omega (arith, ih)

pub sum-map : {X Y : Type 0} (h : X → Y) (f : Y → ℕ) (xs : List X) → sum_by f (map h xs) ≡ sum_by (λ x. f (h x)) xs
sum-map h f [] = refl
sum-map h f (x ∷ xs) = sum_by-cons f (h x) (map h xs) ∙ ap (λ n. f (h x) + n) (sum-map h f xs) ∙ sym (sum_by-cons (λ y. f (h y)) x xs)

pub sum-same : {X : Type 0} (f g : X → ℕ) (xs : List X) → ((x : X) → In x xs → f x ≡ g x) → sum_by f xs ≡ sum_by g xs
sum-same f g [] h = refl
sum-same f g (x ∷ xs) h =
    sum_by-cons f x xs ∙ ap (λ n. n + sum_by f xs) (h x (inl refl)) ∙ ap (λ n. g x + n) (sum-same f g xs (λ y i. h y (inr i))) ∙ sym (sum_by-cons g x xs)

reserved-image : (config : Configuration) (unit : ℕ) (past : List Deed) → IsPast config unit past → AllAsked config unit past
    → reserved_by_image (image (unit_of config unit) past) ≡ kept_free past
reserved-image config unit past is asked =
    sum-filter (λ (x : OperationImage). reserved_of x x.form) runs_by (map operation_image (kept past))
    ∙ sum-map operation_image (λ (x : OperationImage). if runs_by x then reserved_of x x.form else 0) (kept past)
    ∙ sum-same (λ o. if runs_by (operation_image o) then reserved_of (operation_image o) (form_of o.made.entry.act) else 0) (λ (o : Operation). if is_running o then still_needed (length o.servers) o.made.entry.act else 0) (kept past) one
    ∙ sym (sum-filter (λ (o : Operation). still_needed (length o.servers) o.made.entry.act) is_running (kept past))
    ∙ ap (sum_by (λ (o : Operation). still_needed (length o.servers) o.made.entry.act)) (sym (running_kept config unit past is))
  where
    one : (o : Operation) → In o (kept past)
        → (if runs_by (operation_image o) then reserved_of (operation_image o) (form_of o.made.entry.act) else 0) ≡ (if is_running o then still_needed (length o.servers) o.made.entry.act else 0)
    one o i = ap (λ t. if t then reserved_of (operation_image o) (form_of o.made.entry.act) else 0) (runs-image o) ∙ go (is_running o) refl
      where
        there : In o (operations past)
        there = kept_in config unit past o is i

        go : (t : Bool) → is_running o ≡ t → (if t then reserved_of (operation_image o) (form_of o.made.entry.act) else 0) ≡ (if t then still_needed (length o.servers) o.made.entry.act else 0)
        go true e =
            reserved-act config unit o o.made.entry.act refl (runs-act o e) (Each-in (IsMeant config unit) (operations past) o (all-meant config unit past asked) there)
            (Each-in IsPaced (operations past) o (all-paced config unit past is) there) (Each-in IsBegun (operations past) o (begun config unit past is) there)
        go false e = refl

-- ---- what an act needs

pub some-map : {X Y : Type 0} (f : X → Y) (w : Option X) → is_some (option_map f w) ≡ is_some w
some-map f None = refl
some-map f (Some x) = refl

abbrev one_or_none : Bool → ℕ
one_or_none t = if t then 0 else 1

serve-image : (config : Configuration) (unit : ℕ) (past : List Deed) (actor : Actor) (act : Act) → IsPast config unit past
    → serve_by (image (unit_of config unit) past) actor act ≡ need_to_serve past actor act
serve-image config unit past actor act is = ap one_or_none (ap is_some (would-image config unit past actor act is) ∙ some-map operation_image (would_serve past actor act))

need-image : (config : Configuration) (unit : ℕ) (past : List Deed) (actor : Actor) (act : Act) → IsPast config unit past
    → need_by (image (unit_of config unit) past) actor act ≡ need past actor act
need-image config unit past actor (Act.Advance id) is = serve-image config unit past actor (Act.Advance id) is
need-image config unit past actor Act.Pump is = serve-image config unit past actor Act.Pump is
need-image config unit past actor (Act.End id) is = serve-image config unit past actor (Act.End id) is
need-image config unit past actor (Act.Abort id) is = serve-image config unit past actor (Act.Abort id) is
need-image config unit past actor (Act.Close id result) is = serve-image config unit past actor (Act.Close id result) is
need-image config unit past actor _ is = refl

-- ---- the bytes of the kept entries

drop-push : (n : ℕ) (es : List Entry) (e : Entry) → n ≤ length es → drop n (es ++ e ∷ []) ≡ drop n es ++ e ∷ []
drop-push zero es e low = refl
drop-push (suc n) [] e low = absurd (omega arith)
drop-push (suc n) (x ∷ es) e low = drop-push n es e (omega arith)

drop-past : (n : ℕ) (es : List Entry) → length es ≤ n → drop n es ≡ []
drop-past zero [] low = refl
drop-past zero (x ∷ es) low = absurd (omega arith)
drop-past (suc n) [] low = refl
drop-past (suc n) (x ∷ es) low = drop-past n es (omega arith)

on-mine : (unit : ℕ) (h : List Entry) (e : Entry) → e.unit ≡ unit → on unit (h ++ e ∷ []) ≡ on unit h ++ e ∷ []
on-mine unit h e here =
    let mine : (e.unit == unit) ≡ true = grind (arith, nat_tests) in
    filter-append (λ (o : Entry). o.unit == unit) h (e ∷ []) ∙ rw mine refl

on-other : (unit : ℕ) (h : List Entry) (e : Entry) → (e.unit ≡ unit → ⊥) → on unit (h ++ e ∷ []) ≡ on unit h
on-other unit h e other =
    let no : (e.unit == unit) ≡ false = grind (arith, nat_tests) in
    filter-append (λ (o : Entry). o.unit == unit) h (e ∷ []) ∙ rw no (append-nil (on unit h))

payload-image : (config : Configuration) (unit folded : ℕ) (h : List Entry) → payload folded (past_of config unit h) ≡ payload_by (drop folded (on unit h))
payload-image config unit folded = by_last (λ h. payload folded (past_of config unit h) ≡ payload_by (drop folded (on unit h))) none step
  where
    none : payload folded (past_of config unit []) ≡ payload_by (drop folded (on unit []))
    none = let e = drop-past folded [] (omega arith) in rw e refl

    step : (h : List Entry) (e : Entry) → payload folded (past_of config unit h) ≡ payload_by (drop folded (on unit h)) → payload folded (past_of config unit (h ++ e ∷ [])) ≡ payload_by (drop folded (on unit (h ++ e ∷ [])))
    step h e ih = go (cases_eq e.unit unit)
      where
        more : (length (on unit h) < folded) ⊎ (folded ≤ length (on unit h))
            → payload folded (past_of config unit h) + (if nat_le folded (length (past_of config unit h)) then bytes_in e.act else 0) ≡ payload_by (drop folded (on unit h ++ e ∷ []))
        more (inl high) =
            let long = length-past config unit h in
            let off : nat_le folded (length (past_of config unit h)) ≡ false = grind (arith, nat_tests) in
            let before : payload folded (past_of config unit h) ≡ 0 = ih ∙ ap payload_by (drop-past folded (on unit h) (omega arith)) in
            let longer = length-append (on unit h) (e ∷ []) in
            let after : drop folded (on unit h ++ e ∷ []) ≡ [] = drop-past folded (on unit h ++ e ∷ []) (omega (arith, longer, high)) in
            rw (off, before, after) refl
        more (inr low) =
            let long = length-past config unit h in
            let on' : nat_le folded (length (past_of config unit h)) ≡ true = grind (arith, nat_tests) in
            let after : payload_by (drop folded (on unit h ++ e ∷ [])) ≡ payload_by (drop folded (on unit h)) + payload_by (e ∷ []) =
            ap payload_by (drop-push folded (on unit h) e low) ∙ sum_by-append (λ (x : Entry). bytes_in x.act) (drop folded (on unit h)) (e ∷ []) in
            let one : payload_by (e ∷ []) ≡ bytes_in e.act = sum_by-cons (λ (x : Entry). bytes_in x.act) e [] ∙ omega arith in
            ap (λ t. payload folded (past_of config unit h) + (if t then bytes_in e.act else 0)) on' ∙ omega (arith, ih, after, one)

        go : (e.unit ≡ unit) ⊎ (e.unit ≡ unit → ⊥) → payload folded (past_of config unit (h ++ e ∷ [])) ≡ payload_by (drop folded (on unit (h ++ e ∷ [])))
        go (inl here) = ap (payload folded) (past_of-mine config unit h e here) ∙ more (cases_lt (length (on unit h)) folded) ∙ ap (λ l. payload_by (drop folded l)) (sym (on-mine unit h e here))
        go (inr other) = ap (payload folded) (past_of-other config unit h e other) ∙ ih ∙ ap (λ l. payload_by (drop folded l)) (sym (on-other unit h e other))

-- ---- the lists for which a unit stands

drop-long : (n : ℕ) (es left : List Entry) → drop n es ≡ left → length es - n ≡ length left
drop-long zero es left e = let same = ap length e in omega (arith, same)
drop-long (suc n) [] left e = let same = ap length e in omega (arith, same)
drop-long (suc n) (x ∷ es) left e = let more = drop-long n es left e in omega (arith, more)

-- the record is full by the image and the kept entries
pub full-image : (config : Configuration) (unit : ℕ) (i : Image) (kept : List Entry) (folded : ℕ) (h : List Entry) (actor : Actor) (stamp : ℕ) (act : Act) → StandsFor config unit i kept folded h
    → is_full (unit_of config unit) folded (past_of config unit h) actor stamp act ≡ full_by (unit_of config unit) i kept actor stamp act
full-image config unit i kept folded h actor stamp act s =
    let u = unit_of config unit in
    let past = past_of config unit h in
    let is = past-is config unit h in
    let entries : length past - folded ≡ length kept = ap (λ n. n - folded) (length-past config unit h ∙ ap length s.own) ∙ drop-long folded h kept s.keeps in
    let free : kept_free past ≡ reserved_by_image i = sym (reserved-image config unit past is s.asked) ∙ ap reserved_by_image s.image in
    let wants : need past actor act ≡ need_by i actor act = sym (need-image config unit past actor act is) ∙ ap (λ j. need_by j actor act) s.image in
    let bytes : payload folded past ≡ payload_by kept = payload-image config unit folded h ∙ ap (λ l. payload_by (drop folded l)) s.own ∙ ap payload_by s.keeps in
    let last : last_stamp past ≡ i.last_stamp = ap (λ (j : Image). j.last_stamp) s.image in
    rw (entries, free, wants, bytes, last) refl

-- the answer is that of the image
pub stands-answer : (config : Configuration) (unit : ℕ) (i : Image) (kept : List Entry) (folded : ℕ) (h : List Entry) (actor : Actor) (now : ℕ) (act : Act) → StandsFor config unit i kept folded h
    → answer config h unit actor now act ≡ answer_by config unit i actor now act
stands-answer config unit i kept folded h actor now act s =
    sym (answer-image config unit (past_of config unit h) actor now act (past-is config unit h))
    ∙ sym (answer-trim config unit (image (unit_of config unit) (past_of config unit h)) actor now act)
    ∙ ap (λ j. answer_by config unit j actor now act) s.image

-- all of them are answered alike
pub stands-answers : (config : Configuration) (unit : ℕ) (i : Image) (kept : List Entry) (folded : ℕ) (a b : List Entry) (actor : Actor) (now : ℕ) (act : Act)
    → StandsFor config unit i kept folded a → StandsFor config unit i kept folded b → answer config a unit actor now act ≡ answer config b unit actor now act
stands-answers config unit i kept folded a b actor now act s t = stands-answer config unit i kept folded a actor now act s ∙ sym (stands-answer config unit i kept folded b actor now act t)

-- and full alike
pub stands-full : (config : Configuration) (unit : ℕ) (i : Image) (kept : List Entry) (folded : ℕ) (a b : List Entry) (actor : Actor) (stamp : ℕ) (act : Act)
    → StandsFor config unit i kept folded a → StandsFor config unit i kept folded b
    → is_full (unit_of config unit) folded (past_of config unit a) actor stamp act ≡ is_full (unit_of config unit) folded (past_of config unit b) actor stamp act
stands-full config unit i kept folded a b actor stamp act s t =
    full-image config unit i kept folded a actor stamp act s ∙ sym (full-image config unit i kept folded b actor stamp act t)

-- one more entry
stands-push : (config : Configuration) (unit : ℕ) (i : Image) (kept : List Entry) (folded : ℕ) (h : List Entry) (e : Entry) → StandsFor config unit i kept folded h
    → e.unit ≡ unit → within_limits config unit e.act ≡ true → may_ask unit e.actor e.act ≡ true
    → StandsFor config unit (trimmed (next_image config unit i e)) (kept ++ e ∷ []) folded (h ++ e ∷ [])
stands-push config unit i kept folded h e s here within may =
    let next : past_of config unit (h ++ e ∷ []) ≡ deed config unit (past_of config unit h) e ∷ past_of config unit h = past_of-mine config unit h e here in
    let one : IsAsked config unit (deed config unit (past_of config unit h) e) = record { limits = within; asked = may } in
    let long = length-append h (e ∷ []) in
    record {
      own = on-mine unit h e here ∙ ap (λ l. l ++ e ∷ []) s.own;
      asked = rw next (one, s.asked);
      image =
          ap (λ l. trimmed (image (unit_of config unit) l)) next
          ∙ ap trimmed (next-image config unit (past_of config unit h) e (past-is config unit h))
          ∙ sym (next-trim config unit (image (unit_of config unit) (past_of config unit h)) e)
          ∙ ap (λ j. trimmed (next_image config unit j e)) s.image;
      keeps = drop-push folded h e s.few ∙ ap (λ l. l ++ e ∷ []) s.keeps;
      few = omega (arith, s.few, long);
    }

-- the image of one list with one more entry is that of each other
pub stands-more : (config : Configuration) (unit : ℕ) (i : Image) (kept : List Entry) (folded : ℕ) (a b : List Entry) (e : Entry)
    → StandsFor config unit i kept folded a → StandsFor config unit i kept folded b
    → e.unit ≡ unit → within_limits config unit e.act ≡ true → may_ask unit e.actor e.act ≡ true
    → StandsFor config unit (trimmed (image (unit_of config unit) (past_of config unit (a ++ e ∷ [])))) (kept ++ e ∷ []) folded (b ++ e ∷ [])
stands-more config unit i kept folded a b e s t here within may =
    subst
    (λ j. StandsFor config unit j (kept ++ e ∷ []) folded (b ++ e ∷ []))
    (sym (stands-push config unit i kept folded a e s here within may).image)
    (stands-push config unit i kept folded b e t here within may)

drop-done : (n : ℕ) (es done left : List Entry) → drop n es ≡ done ++ left → drop (n + length done) es ≡ left
drop-done n es [] left e = let s : n + 0 ≡ n = omega arith in rw s e
drop-done n es (x ∷ done) left e =
    let s : n + suc (length done) ≡ suc n + length done = omega arith in
    rw s (drop-done (suc n) es done left (drop-one n es x (done ++ left) e))
  where
    drop-one : (n : ℕ) (es : List Entry) (x : Entry) (rest : List Entry) → drop n es ≡ x ∷ rest → drop (suc n) es ≡ rest
    drop-one zero [] x rest e = cc
    drop-one zero (y ∷ es) x rest e = cc
    drop-one (suc n) [] x rest e = cc
    drop-one (suc n) (y ∷ es) x rest e = drop-one n es x rest e

-- the first of the kept entries were written out
pub stands-fold : (config : Configuration) (unit : ℕ) (i : Image) (kept done left : List Entry) (folded : ℕ) (h : List Entry) → StandsFor config unit i kept folded h → done ++ left ≡ kept
    → StandsFor config unit i left (folded + length done) h
stands-fold config unit i kept done left folded h s parts =
    let long : length kept ≡ length done + length left = ap length (sym parts) ∙ length-append done left in
    let all = drop-long folded h kept s.keeps in
    record {
      own = s.own;
      asked = s.asked;
      image = s.image;
      keeps = drop-done folded h done left (s.keeps ∙ sym parts);
      few = omega (arith, all, long, s.few);
    }

-- ---- the numbers that a unit tells

pub stands-mapped : (config : Configuration) (unit : ℕ) (i : Image) (kept : List Entry) (folded : ℕ) (h : List Entry) → StandsFor config unit i kept folded h
    → mapped (unit_of config unit) (past_of config unit h) ≡ mapped_below (unit_of config unit).blocks (now_of i.blocks)
stands-mapped config unit i kept folded h s =
    let u = unit_of config unit in
    let past = past_of config unit h in
    sym (mapped-same u.blocks (now_of (image u past).blocks) (held past) (held-image u past)) ∙ ap (λ (j : Image). mapped_below u.blocks (now_of j.blocks)) s.image

live-trim : (u : UnitConfig) (t : Token) → is_live (trim (token_image u t)).fate ≡ is_live t.fate
live-trim u t = go (is_live t.fate)
  where
    go : (b : Bool) → is_live (if b then token_image u t else record (token_image u t) { timeout = 0; last_use = 0 }).fate ≡ is_live t.fate
    go true = refl
    go false = refl

pub stands-live : (config : Configuration) (unit : ℕ) (i : Image) (kept : List Entry) (folded : ℕ) (h : List Entry) → StandsFor config unit i kept folded h
    → live_in (past_of config unit h) ≡ length (filter (λ (t : TokenImage). is_live t.fate) i.tokens)
stands-live config unit i kept folded h s =
    let u = unit_of config unit in
    let past = past_of config unit h in
    let same : filter (λ (t : TokenImage). is_live t.fate) (map trim (map (token_image u) (tokens past))) ≡ map trim (map (token_image u) (filter (λ (t : Token). is_live t.fate) (tokens past))) =
    filter-map trim (λ (t : TokenImage). is_live t.fate) (map (token_image u) (tokens past))
    ∙ ap (map trim) (filter-map (token_image u) (λ t. is_live (trim t).fate) (tokens past)
    ∙ ap (map (token_image u)) (filter-same (λ t. is_live (trim (token_image u t)).fate) (λ (t : Token). is_live t.fate) (tokens past) (λ t j. live-trim u t))) in
    let live = filter (λ (t : Token). is_live t.fate) (tokens past) in
    sym (ap length same ∙ length-map trim (map (token_image u) live) ∙ length-map (token_image u) live)
    ∙ ap (λ (j : Image). length (filter (λ (t : TokenImage). is_live t.fate) j.tokens)) s.image

pub stands-busy : (config : Configuration) (unit : ℕ) (i : Image) (kept : List Entry) (folded : ℕ) (h : List Entry) (actor : Actor) (form : Form) (id : ℕ) → StandsFor config unit i kept folded h
    → is_busy (past_of config unit h) actor form id ≡ busy_by i actor form id
stands-busy config unit i kept folded h actor form id s =
    sym (busy-image config unit (past_of config unit h) actor form id (past-is config unit h)) ∙ ap (λ (j : Image). busy_by j actor form id) s.image

pub stands-serves : (config : Configuration) (unit : ℕ) (i : Image) (kept : List Entry) (folded : ℕ) (h : List Entry) (actor : Actor) (act : Act) → StandsFor config unit i kept folded h
    → is_some (would_serve (past_of config unit h) actor act) ≡ is_some (served_by i actor act)
stands-serves config unit i kept folded h actor act s =
    sym (ap is_some (would-image config unit (past_of config unit h) actor act (past-is config unit h)) ∙ some-map operation_image (would_serve (past_of config unit h) actor act))
    ∙ ap (λ (j : Image). is_some (served_by j actor act)) s.image

-- ---- the kept entries

asked-entries : (config : Configuration) (unit : ℕ) (h : List Entry) → AllAsked config unit (past_of config unit h) → (e : Entry) → In e (on unit h) → within_limits config unit e.act ≡ true
asked-entries config unit = by_last (λ h. AllAsked config unit (past_of config unit h) → (e : Entry) → In e (on unit h) → within_limits config unit e.act ≡ true) (λ asked e i. absurd i) step
  where
    step : (h : List Entry) (x : Entry) → (AllAsked config unit (past_of config unit h) → (e : Entry) → In e (on unit h) → within_limits config unit e.act ≡ true)
        → AllAsked config unit (past_of config unit (h ++ x ∷ [])) → (e : Entry) → In e (on unit (h ++ x ∷ [])) → within_limits config unit e.act ≡ true
    step h x before asked e i = go (cases_eq x.unit unit)
      where
        last : IsAsked config unit (deed config unit (past_of config unit h) x) → In e (x ∷ []) → within_limits config unit e.act ≡ true
        last one (inl same) = subst (λ (y : Entry). within_limits config unit y.act ≡ true) same one.limits
        last one (inr none) = absurd none

        parts : AllAsked config unit (deed config unit (past_of config unit h) x ∷ past_of config unit h) → In e (on unit h) ⊎ In e (x ∷ []) → within_limits config unit e.act ≡ true
        parts all (inl j) = before all.1 e j
        parts all (inr j) = last all.0 j

        go : (x.unit ≡ unit) ⊎ (x.unit ≡ unit → ⊥) → within_limits config unit e.act ≡ true
        go (inl here) =
            parts (subst (AllAsked config unit) (past_of-mine config unit h x here) asked)
            (In-split (on unit h) (x ∷ []) e (subst (λ l. In e l) (on-mine unit h x here) i))
        go (inr other) =
            before (subst (AllAsked config unit) (past_of-other config unit h x other) asked) e (subst (λ l. In e l) (on-other unit h x other) i)

drop-in : (n : ℕ) (es : List Entry) (e : Entry) → In e (drop n es) → In e es
drop-in zero es e i = i
drop-in (suc n) [] e i = i
drop-in (suc n) (x ∷ es) e i = inr (drop-in n es e i)

-- the act of each kept entry is within its limits
pub stands-within : (config : Configuration) (unit : ℕ) (i : Image) (kept : List Entry) (folded : ℕ) (h : List Entry) → StandsFor config unit i kept folded h
    → All (λ (e : Entry). within_limits config unit e.act ≡ true) kept
stands-within config unit i kept folded h s =
    Each-all (λ (e : Entry). within_limits config unit e.act ≡ true) kept (Each-by (λ (e : Entry). within_limits config unit e.act ≡ true) kept (λ e j.
    asked-entries config unit h s.asked e
    (subst (λ l. In e l) (sym s.own) (drop-in folded h e (subst (λ l. In e l) (sym s.keeps) j)))))
