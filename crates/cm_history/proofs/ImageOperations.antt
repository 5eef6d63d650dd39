-- The images of operations say what serves them, and what becomes of them
use Rattle.std.proofs.Common.{◌≡◌, ℕ, zero, suc, ◌+◌, ◌-◌, ◌≤◌, List, [], ◌∷◌, ◌++◌, length, drop, refl, ap, sym, ◌∙◌, subst, arith, true, false, Bool, inl, inr, length-append}
use Rattle.std.specs.Prelude.{Option, Some, None, ◌==◌, ◌&&◌, ◌||◌, not, map, filter, find, cond, nat_lt, option_map, if◌then◌else◌, ⊤}
use Rattle.std.specs.List.{list_any}
use Rattle.std.proofs.lemmas.Bool.Decides.{nat_tests}
use Rattle.std.proofs.lemmas.Grind.{common_steps}
use Rattle.lba_ranges.specs.Writings.{Held, Writing}
use Rattle.cm_base.specs.Configuration.{Configuration}
use Rattle.cm_base.specs.declared.config.UnitConfig.{UnitConfig}
use Rattle.cm_history.specs.declared.act.Act.{Act}
use Rattle.cm_history.specs.declared.act.Actor.{Actor}
use Rattle.cm_history.specs.declared.answer.Answer.{Answer}
use Rattle.cm_history.specs.declared.answer.OpState.{OpState}
use Rattle.cm_history.specs.Bounds.{kept_operations}
use Rattle.scsi_sense.specs.Codes.{space_allocation_failed}
use Rattle.cm_history.specs.Deeds.{Deed, same_actor}
use Rattle.cm_history.specs.Blocks.{held, mapped_with}
use Rattle.cm_history.specs.Operations.{Operation, Form, OfToken, OfCopy, same_form, form_of, id_of, is_foreground, is_background, list_of, written, count_of, count, is_failure, was_stopped, is_ending, was_ended, result_of, state_of, state, is_running_copy, is_running_state, is_running_as, is_running, has_key, serves, operation_after, made_operation, operations, running, fits, would_serve, next_piece, has_ended, same_key, without_first_ended, with_room, keep, kept}
use Rattle.cm_history.specs.Answers.{deed, progress, is_busy, piece_of}
use Rattle.cm_history.specs.Image.{operation_image}
use Rattle.cm_history.proofs.Imaging.{runs_as, runs_by, has_key_by, fits_by, is_served_by, piece_by, progress_of, state_by, moved_by, change_first, ended_by, same_key_by, without_first_by, with_room_by, keep_by, new_state, new_count, new_by}
use Rattle.cm_history.proofs.Lists.{In, Each, Each-in, Each-by, find-in}
use Rattle.cm_history.proofs.Finding.{find-filter, find-map, find-same, any-filter, any-map, any-same, filter-map, filter-same, map-append}
use Rattle.cm_history.proofs.Counts.{IsPast, Apart, IsBegun, begun, apart, same_place}
use Rattle.cm_history.proofs.Records.{kept_in, running_kept, and_first}
use Rattle.cm_history.proofs.Keys.{KeysApart, keys-apart, and_second}
use Rattle.cm_history.proofs.Made.{length-map}
use Rattle.cm_history.proofs.Serving.{few-written, left-running, length-drop}
use Rattle.cm_history.proofs.CountLaw.{same_actor-self}

-- ---- which operations run, and which an act fits

runs-as-image : (o : Operation) (f : Form) → runs_as (operation_image o) f ≡ is_running_as o f
runs-as-image o OfToken = refl
runs-as-image o OfCopy = refl

pub runs-image : (o : Operation) → runs_by (operation_image o) ≡ is_running o
runs-image o = runs-as-image o (form_of o.made.entry.act)

-- an operation that runs, of this act
abbrev pub Runs : Operation → Act → Form → Bool
Runs o act OfToken = is_running_state (state_of o act)
Runs o act OfCopy = is_running_copy (result_of o.servers).state

runs-own : (o : Operation) (f : Form) → Runs o o.made.entry.act f ≡ is_running_as o f
runs-own o OfToken = refl
runs-own o OfCopy = refl

pub runs-act : (o : Operation) → is_running o ≡ true → Runs o o.made.entry.act (form_of o.made.entry.act) ≡ true
runs-act o e = runs-own o (form_of o.made.entry.act) ∙ e

-- a token operation that runs was begun by a Start
foreground : (o : Operation) (act : Act) → same_form (form_of act) OfToken ≡ true → Runs o act (form_of act) ≡ true → is_foreground act ≡ not (is_background act)
foreground o (Act.Start id background ranges rod) f e = refl
foreground o (Act.Open id) f e = cc
foreground o _ f e = cc

foreground-fits : (actor : Actor) (id : ℕ) (o : Operation) → is_running o ≡ true
    → (has_key actor OfToken id o && is_foreground o.made.entry.act) ≡ (has_key actor OfToken id o && not (is_background o.made.entry.act))
foreground-fits actor id o runs = go (has_key actor OfToken id o) refl
  where
    go : (k : Bool) → has_key actor OfToken id o ≡ k → (k && is_foreground o.made.entry.act) ≡ (k && not (is_background o.made.entry.act))
    go false e = refl
    go true e =
        let first : (same_actor o.made.entry.actor actor && same_form (form_of o.made.entry.act) OfToken) ≡ true = and_first (same_actor o.made.entry.actor actor && same_form (form_of o.made.entry.act) OfToken) (id_of o.made.entry.act == id) e in
        foreground o o.made.entry.act (and_second (same_actor o.made.entry.actor actor) (same_form (form_of o.made.entry.act) OfToken) first) (runs-act o runs)

fits-image : (actor : Actor) (act : Act) (o : Operation) → is_running o ≡ true → fits_by actor act (operation_image o) ≡ fits actor act o
fits-image actor (Act.Advance id) o runs = sym (foreground-fits actor id o runs)
fits-image actor (Act.End id) o runs = sym (foreground-fits actor id o runs)
fits-image actor (Act.Abort id) o runs = refl
fits-image actor (Act.Close id result) o runs = refl
fits-image actor Act.Pump o runs = refl
fits-image actor _ o runs = refl

pub served-image : (actor : Actor) (act : Act) (o : Operation) → is_served_by actor act (operation_image o) ≡ (is_running o && fits actor act o)
served-image actor act o =
    ap (λ t. t && fits_by actor act (operation_image o)) (runs-image o) ∙ go (is_running o) refl
  where
    go : (t : Bool) → is_running o ≡ t → (t && fits_by actor act (operation_image o)) ≡ (t && fits actor act o)
    go true e = fits-image actor act o e
    go false e = refl

-- the operation that an act would serve is found among the records
pub would-kept : (config : Configuration) (unit : ℕ) (past : List Deed) (actor : Actor) (act : Act) → IsPast config unit past
    → would_serve past actor act ≡ find (λ o. is_running o && fits actor act o) (kept past)
would-kept config unit past actor act is = ap (find (fits actor act)) (running_kept config unit past is) ∙ find-filter is_running (fits actor act) (kept past)

pub would-image : (config : Configuration) (unit : ℕ) (past : List Deed) (actor : Actor) (act : Act) → IsPast config unit past
    → find (is_served_by actor act) (map operation_image (kept past)) ≡ option_map operation_image (would_serve past actor act)
would-image config unit past actor act is =
    find-map operation_image (is_served_by actor act) (kept past)
    ∙ ap (option_map operation_image) (find-same (λ o. is_served_by actor act (operation_image o)) (λ o. is_running o && fits actor act o) (kept past) (λ o i. served-image actor act o)
    ∙ sym (would-kept config unit past actor act is))

pub busy-image : (config : Configuration) (unit : ℕ) (past : List Deed) (actor : Actor) (form : Form) (id : ℕ) → IsPast config unit past
    → list_any (λ o. runs_by o && has_key_by actor form id o) (map operation_image (kept past)) ≡ is_busy past actor form id
busy-image config unit past actor form id is =
    any-map operation_image (λ o. runs_by o && has_key_by actor form id o) (kept past)
    ∙ any-same (λ o. runs_by (operation_image o) && has_key_by actor form id (operation_image o)) (λ o. is_running o && has_key actor form id o) (kept past)
    (λ o i. ap (λ t. t && has_key actor form id o) (runs-image o))
    ∙ sym (any-filter is_running (has_key actor form id) (kept past))
    ∙ ap (list_any (has_key actor form id)) (sym (running_kept config unit past is))

pub running-image : (config : Configuration) (unit : ℕ) (past : List Deed) → IsPast config unit past
    → length (filter runs_by (map operation_image (kept past))) ≡ length (running past)
running-image config unit past is =
    ap length (filter-map operation_image runs_by (kept past))
    ∙ length-map operation_image (filter (λ o. runs_by (operation_image o)) (kept past))
    ∙ ap length (filter-same (λ o. runs_by (operation_image o)) is_running (kept past) (λ o i. runs-image o))
    ∙ ap length (sym (running_kept config unit past is))

pub found-image : (actor : Actor) (form : Form) (id : ℕ) (os : List Operation)
    → find (has_key_by actor form id) (map operation_image os) ≡ option_map operation_image (find (has_key actor form id) os)
found-image actor form id os = find-map operation_image (has_key_by actor form id) os

-- ---- what an operation has left

drop-more : {X : Type 0} (n k : ℕ) (xs : List X) → drop (n + k) xs ≡ drop k (drop n xs)
drop-more zero k xs = let e : 0 + k ≡ k = omega arith in rw e refl
drop-more (suc n) k [] = grind (arith, common_steps)
drop-more (suc n) k (x ∷ xs) = let e : suc n + k ≡ suc (n + k) = omega arith in rw e (drop-more n k xs)

-- an operation of a Start was told its count by what it has written
count-start : (ws : List Writing) (act : Act) → (is_foreground act || is_background act) ≡ true → count_of ws act ≡ length ws
count-start ws (Act.Start id background ranges rod) e = refl
count-start ws (Act.Populate id timeout ranges) e = cc
count-start ws _ e = cc

eq-plus : (a b n : ℕ) → a ≤ n → (a + b == n) ≡ (b == n - a)
eq-plus a b n low = grind (arith, nat_tests)

-- whether the piece is the last
last-image : (o : Operation) → IsBegun o → (is_foreground o.made.entry.act || is_background o.made.entry.act) ≡ true → (k : ℕ)
    → (count o + k == length (list_of o.made.entry.act)) ≡ (k == length (operation_image o).unwritten)
last-image o begun start k =
    ap (λ n. n + k == length (list_of o.made.entry.act)) (count-start (written o) o.made.entry.act start)
    ∙ eq-plus (length (written o)) k (length (list_of o.made.entry.act)) (few-written o begun)
    ∙ ap (λ n. k == n) (sym (length-drop (length (written o)) (list_of o.made.entry.act)))

abbrev pub IsStart : Option Operation → Type 0
IsStart None = ⊤
IsStart (Some o) = ((is_foreground o.made.entry.act || is_background o.made.entry.act) ≡ true) × IsBegun o

pub progress-image : (unit : UnitConfig) (past : List Deed) (now : ℕ → Held) (otherwise : Answer) (w : Option Operation)
    → ((ws : List Writing) → mapped_with unit now ws ≡ mapped_with unit (held past) ws) → IsStart w
    → progress_of unit now otherwise (option_map operation_image w) ≡ progress unit past otherwise w
progress-image unit past now otherwise None same start = refl
progress-image unit past now otherwise (Some o) same start =
    ap (λ n. if nat_lt unit.quota n then Answer.Progress (OpState.Failed space_allocation_failed) (count o) else
    Answer.Progress (if length (next_piece o) == length (operation_image o).unwritten then OpState.Done else OpState.Running) (count o + length (next_piece o))) (same (next_piece o))
    ∙ ap (λ t. if nat_lt unit.quota (mapped_with unit (held past) (next_piece o)) then Answer.Progress (OpState.Failed space_allocation_failed) (count o) else
    Answer.Progress (if t then OpState.Done else OpState.Running) (count o + length (next_piece o))) (sym (last-image o start.1 start.0 (length (next_piece o))))

pub piece-image : (w : Option Operation) → piece_by (option_map operation_image w) ≡ piece_of w
piece-image None = refl
piece-image (Some o) = refl

-- ---- an operation after the deed that served it

or-off : (a b : Bool) → b ≡ false → (a || b) ≡ a
or-off true b e = refl
or-off false b e = e

served-state : (d : Deed) (o : Operation) (act : Act) → o.made.entry.act ≡ act → Runs o act (form_of act) ≡ true → IsBegun o
    → state_of (record o { servers = d ∷ o.servers }) act ≡ state_by d.answer d.wrote d.entry.act (operation_image o) (form_of act)
served-state d o (Act.Start id background ranges rod) is runs begun =
    let left = left-running o (Act.Start id background ranges rod) runs in
    let stopped : (is_failure d.answer || was_stopped o.servers) ≡ is_failure d.answer = or-off (is_failure d.answer) (was_stopped o.servers) left.0 in
    let ended : (is_ending d.entry.act || was_ended o.servers) ≡ is_ending d.entry.act = or-off (is_ending d.entry.act) (was_ended o.servers) left.1 in
    let all = length (list_of o.made.entry.act) in
    let done : (length (written o ++ d.wrote) == all) ≡ (length d.wrote == length (operation_image o).unwritten) =
    ap (λ n. n == all) (length-append (written o) d.wrote)
    ∙ eq-plus (length (written o)) (length d.wrote) all (few-written o begun)
    ∙ ap (λ n. length d.wrote == n) (sym (length-drop (length (written o)) (list_of o.made.entry.act))) in
    ap (λ t. if t then OpState.Failed space_allocation_failed else if is_ending d.entry.act || was_ended o.servers then OpState.Terminated else if length (written o ++ d.wrote) == all then OpState.Done else OpState.Running) stopped
    ∙ ap (λ t. if is_failure d.answer then OpState.Failed space_allocation_failed else if t then OpState.Terminated else if length (written o ++ d.wrote) == all then OpState.Done else OpState.Running) ended
    ∙ ap (λ t. if is_failure d.answer then OpState.Failed space_allocation_failed else if is_ending d.entry.act then OpState.Terminated else if t then OpState.Done else OpState.Running) done
served-state d o (Act.Open id) is runs begun = sym (ap (state_of o) is)
served-state d o _ is runs begun = cc

served-count : (o : Operation) (more : List Writing) (act : Act) → Runs o act (form_of act) ≡ true → count_of (written o ++ more) act ≡ count_of (written o) act + length more
served-count o more (Act.Populate id timeout ranges) runs = cc
served-count o more _ runs = length-append (written o) more

pub moved-image : (d : Deed) (o : Operation) → is_running o ≡ true → IsBegun o
    → operation_image (record o { servers = d ∷ o.servers }) ≡ moved_by d.answer d.wrote d.entry.act (operation_image o)
moved-image d o runs begun =
    let now = record o { servers = d ∷ o.servers } in
    let state' : state now ≡ state_by d.answer d.wrote d.entry.act (operation_image o) (form_of o.made.entry.act) = served-state d o o.made.entry.act refl (runs-act o runs) begun in
    let count' : count now ≡ count o + length d.wrote = served-count o d.wrote o.made.entry.act (runs-act o runs) in
    let left : drop (length (written o ++ d.wrote)) (list_of o.made.entry.act) ≡ drop (length d.wrote) (operation_image o).unwritten =
    ap (λ n. drop n (list_of o.made.entry.act)) (length-append (written o) d.wrote) ∙ drop-more (length (written o)) (length d.wrote) (list_of o.made.entry.act) in
    ap (λ (s : OpState). record (operation_image now) { report = record (operation_image now).report { state = s } }) state'
    ∙ ap (λ (n : ℕ). record (operation_image now) { report = record (operation_image now).report { state = state_by d.answer d.wrote d.entry.act (operation_image o) (form_of o.made.entry.act); count = n } }) count'
    ∙ ap (λ (l : List Writing). record (moved_by d.answer d.wrote d.entry.act (operation_image o)) { unwritten = l }) left

-- ---- the one that is served is the first that the act fits

pub same_form-self : (f : Form) → same_form f f ≡ true
same_form-self OfToken = refl
same_form-self OfCopy = refl

same_key-self : (o : Operation) → same_key o o ≡ true
same_key-self o =
    let id : (id_of o.made.entry.act == id_of o.made.entry.act) ≡ true = grind (arith, nat_tests) in
    rw (same_actor-self o.made.entry.actor, same_form-self (form_of o.made.entry.act), id) refl

-- records with keys of their own have places of their own
places-apart : (all os : List Operation) → Apart all → KeysApart os → ((o : Operation) → In o os → In o all) → Apart os
places-apart all [] apart keys there = tt
places-apart all (o ∷ os) apart keys there = (
  Each-by (λ (other : Operation). o.made.place ≡ other.made.place → ⊥) os (λ other i. λ same.
      let one : o ≡ other = same_place all o other apart (there o (inl refl)) (there other (inr i)) same in
      let off : same_key other o ≡ false = Each-in (λ (x : Operation). same_key x o ≡ false) os other keys.0 i in
      let no = sym (same_key-self o) ∙ ap (λ x. same_key x o) one ∙ off in
      cc),
  places-apart all os apart keys.1 (λ x i. there x (inr i)),
)

pub kept-apart : (config : Configuration) (unit : ℕ) (past : List Deed) → IsPast config unit past → Apart (kept past)
kept-apart config unit past is = places-apart (operations past) (kept past) (apart config unit past is) (keys-apart config unit past is) (λ o i. kept_in config unit past o is i)

-- at every other place it is left
others-stay : (d : Deed) (place : ℕ) (os : List Operation) → Each (λ (x : Operation). place ≡ x.made.place → ⊥) os
    → map (λ (x : Operation). if x.made.place == place then record x { servers = d ∷ x.servers } else x) os ≡ os
others-stay d place [] away = refl
others-stay d place (o ∷ os) away =
    let off : (o.made.place == place) ≡ false = (let h = away.0 in grind (arith, nat_tests)) in
    rw (off, others-stay d place os away.1) refl

-- the change at the place of the first that passes is the change of the first that passes
first-changed : (d : Deed) (test : Operation → Bool) (os : List Operation) (o : Operation) → Apart os → find test os ≡ Some o
    → map (λ (x : Operation). if x.made.place == o.made.place then record x { servers = d ∷ x.servers } else x) os
    ≡ change_first test (λ (x : Operation). record x { servers = d ∷ x.servers }) os
first-changed d test [] o apart e = cc
first-changed d test (x ∷ os) o apart e = go (test x) e (first-changed d test os o apart.1)
  where
    Change : Operation → Operation
    Change y = if y.made.place == o.made.place then record y { servers = d ∷ y.servers } else y

    go : (t : Bool) → cond t (Some x) (find test os) ≡ Some o
        → (find test os ≡ Some o → map Change os ≡ change_first test (λ (y : Operation). record y { servers = d ∷ y.servers }) os)
        → Change x ∷ map Change os ≡ (if t then record x { servers = d ∷ x.servers } ∷ os else x ∷ change_first test (λ (y : Operation). record y { servers = d ∷ y.servers }) os)
    go true f later =
        let same : x ≡ o = cc in
        let on : (x.made.place == o.made.place) ≡ true = (let p = ap (λ (y : Operation). y.made.place) same in grind (arith, nat_tests)) in
        let rest : map Change os ≡ os = others-stay d o.made.place os (subst (λ (y : Operation). Each (λ (z : Operation). y.made.place ≡ z.made.place → ⊥) os) same apart.0) in
        ap (λ (t : Bool). (if t then record x { servers = d ∷ x.servers } else x) ∷ map Change os) on ∙ ap (λ l. record x { servers = d ∷ x.servers } ∷ l) rest
    go false f later =
        let there : In o os = find-in test os o f in
        let away = Each-in (λ (z : Operation). x.made.place ≡ z.made.place → ⊥) os o apart.0 there in
        let off : (x.made.place == o.made.place) ≡ false = grind (arith, nat_tests) in
        ap (λ (t : Bool). (if t then record x { servers = d ∷ x.servers } else x) ∷ map Change os) off ∙ ap (λ l. x ∷ l) (later f)

change-none : {X : Type 0} (test : X → Bool) (f : X → X) (xs : List X) → find test xs ≡ None → change_first test f xs ≡ xs
change-none test f [] e = refl
change-none test f (x ∷ xs) e = go (test x) e (change-none test f xs)
  where
    go : (t : Bool) → cond t (Some x) (find test xs) ≡ None → (find test xs ≡ None → change_first test f xs ≡ xs) → (if t then f x ∷ xs else x ∷ change_first test f xs) ≡ x ∷ xs
    go true h later = cc
    go false h later = ap (λ l. x ∷ l) (later h)

-- images of a list of which the first that passes was changed
change-image : (d : Deed) (actor : Actor) (act : Act) (os : List Operation) → Each IsBegun os
    → ((o : Operation) → (is_running o && fits actor act o) ≡ true → IsBegun o → operation_image (record o { servers = d ∷ o.servers }) ≡ moved_by d.answer d.wrote act (operation_image o))
    → map operation_image (change_first (λ o. is_running o && fits actor act o) (λ (x : Operation). record x { servers = d ∷ x.servers }) os)
    ≡ change_first (is_served_by actor act) (moved_by d.answer d.wrote act) (map operation_image os)
change-image d actor act [] begun moves = refl
change-image d actor act (o ∷ os) begun moves =
    go (is_running o && fits actor act o) refl (change-image d actor act os begun.1 moves)
    ∙ ap (λ t. if t then moved_by d.answer d.wrote act (operation_image o) ∷ map operation_image os else operation_image o ∷ change_first (is_served_by actor act) (moved_by d.answer d.wrote act) (map operation_image os))
    (sym (served-image actor act o))
  where
    go : (t : Bool) → (is_running o && fits actor act o) ≡ t
        → map operation_image (change_first (λ o. is_running o && fits actor act o) (λ (x : Operation). record x { servers = d ∷ x.servers }) os)
        ≡ change_first (is_served_by actor act) (moved_by d.answer d.wrote act) (map operation_image os)
        → map operation_image (if t then record o { servers = d ∷ o.servers } ∷ os else o ∷ change_first (λ o. is_running o && fits actor act o) (λ (x : Operation). record x { servers = d ∷ x.servers }) os)
        ≡ (if t then moved_by d.answer d.wrote act (operation_image o) ∷ map operation_image os else operation_image o ∷ change_first (is_served_by actor act) (moved_by d.answer d.wrote act) (map operation_image os))
    go true e later = ap (λ x. x ∷ map operation_image os) (moves o e begun.0)
    go false e later = ap (λ l. operation_image o ∷ l) later

kept-begun : (config : Configuration) (unit : ℕ) (past : List Deed) → IsPast config unit past → Each IsBegun (kept past)
kept-begun config unit past is = Each-by IsBegun (kept past) (λ o i. Each-in IsBegun (operations past) o (begun config unit past is) (kept_in config unit past o is i))

-- the records after a deed that makes no operation
pub after-image : (config : Configuration) (unit : ℕ) (past : List Deed) (d : Deed) → IsPast config unit past → d ≡ deed config unit past d.entry
    → map operation_image (map (operation_after d) (kept past))
    ≡ change_first (is_served_by d.entry.actor d.entry.act) (moved_by d.answer d.wrote d.entry.act) (map operation_image (kept past))
after-image config unit past d is made = go (would_serve past d.entry.actor d.entry.act) refl
  where
    actor : Actor
    actor = d.entry.actor

    act : Act
    act = d.entry.act

    served : d.served ≡ option_map (λ (x : Operation). x.made.place) (would_serve past d.entry.actor d.entry.act)
    served = ap (λ (x : Deed). x.served) made

    By : Option ℕ → List Operation
    By s = map (λ (o : Operation). if serves s o then record o { servers = d ∷ o.servers } else o) (kept past)

    moves : (o : Operation) → (is_running o && fits d.entry.actor d.entry.act o) ≡ true → IsBegun o
        → operation_image (record o { servers = d ∷ o.servers }) ≡ moved_by d.answer d.wrote d.entry.act (operation_image o)
    moves o e begun = moved-image d o (and_first (is_running o) _ e) begun

    unmoved : (os : List Operation) → map (λ (o : Operation). if serves None o then record o { servers = d ∷ o.servers } else o) os ≡ os
    unmoved [] = refl
    unmoved (o ∷ os) = ap (λ l. o ∷ l) (unmoved os)

    go : (w : Option Operation) → would_serve past d.entry.actor d.entry.act ≡ w
        → map operation_image (By d.served) ≡ change_first (is_served_by d.entry.actor d.entry.act) (moved_by d.answer d.wrote d.entry.act) (map operation_image (kept past))
    go None e =
        let none : d.served ≡ None = served ∙ ap (option_map (λ (x : Operation). x.made.place)) e in
        let found : find (is_served_by d.entry.actor d.entry.act) (map operation_image (kept past)) ≡ None = would-image config unit past d.entry.actor d.entry.act is ∙ ap (option_map operation_image) e in
        ap (λ s. map operation_image (By s)) none ∙ ap (map operation_image) (unmoved (kept past))
        ∙ sym (change-none (is_served_by d.entry.actor d.entry.act) (moved_by d.answer d.wrote d.entry.act) (map operation_image (kept past)) found)
    go (Some o) e =
        let some : d.served ≡ Some o.made.place = served ∙ ap (option_map (λ (x : Operation). x.made.place)) e in
        let found : find (λ x. is_running x && fits d.entry.actor d.entry.act x) (kept past) ≡ Some o = sym (would-kept config unit past d.entry.actor d.entry.act is) ∙ e in
        ap (λ s. map operation_image (By s)) some
        ∙ ap (map operation_image) (first-changed d (λ x. is_running x && fits d.entry.actor d.entry.act x) (kept past) o (kept-apart config unit past is) found)
        ∙ change-image d d.entry.actor d.entry.act (kept past) (kept-begun config unit past is) moves

-- ---- a new operation

ended-image : (o : Operation) → ended_by (operation_image o) ≡ has_ended o
ended-image o = ap not (runs-image o)

without-image : (os : List Operation) → map operation_image (without_first_ended os) ≡ without_first_by (map operation_image os)
without-image [] = refl
without-image (o ∷ os) =
    go (has_ended o) (without-image os) ∙ ap (λ t. if t then map operation_image os else operation_image o ∷ without_first_by (map operation_image os)) (sym (ended-image o))
  where
    go : (t : Bool) → map operation_image (without_first_ended os) ≡ without_first_by (map operation_image os)
        → map operation_image (if t then os else o ∷ without_first_ended os) ≡ (if t then map operation_image os else operation_image o ∷ without_first_by (map operation_image os))
    go true later = refl
    go false later = ap (λ l. operation_image o ∷ l) later

room-image : (os : List Operation) → map operation_image (with_room os) ≡ with_room_by (map operation_image os)
room-image os =
    go (length os == kept_operations)
    ∙ ap (λ n. if n == kept_operations then without_first_by (map operation_image os) else map operation_image os) (sym (length-map operation_image os))
  where
    go : (t : Bool) → map operation_image (if t then without_first_ended os else os) ≡ (if t then without_first_by (map operation_image os) else map operation_image os)
    go true = without-image os
    go false = refl

others-image : (os : List Operation) (o : Operation)
    → map operation_image (filter (λ r. not (has_ended r && same_key o r)) os) ≡ filter (λ r. not (ended_by r && same_key_by (operation_image o) r)) (map operation_image os)
others-image os o =
    sym (filter-map operation_image (λ r. not (ended_by r && same_key_by (operation_image o) r)) os
    ∙ ap (map operation_image) (filter-same (λ r. not (ended_by (operation_image r) && same_key_by (operation_image o) (operation_image r))) (λ r. not (has_ended r && same_key o r)) os
    (λ r i. ap (λ t. not (t && same_key o r)) (ended-image r))))

pub keep-image : (os : List Operation) (o : Operation) → map operation_image (keep os o) ≡ keep_by (map operation_image os) (operation_image o)
keep-image os o =
    map-append operation_image (with_room (filter (λ r. not (has_ended r && same_key o r)) os)) (o ∷ [])
    ∙ ap (λ l. l ++ operation_image o ∷ []) (room-image (filter (λ r. not (has_ended r && same_key o r)) os) ∙ ap with_room_by (others-image os o))

new-state : (d : Deed) (act : Act) → d.entry.act ≡ act → state_of (made_operation d) act ≡ new_state act
new-state d (Act.Start id background ranges rod) is = ap (λ a. if 0 == length (list_of a) then OpState.Done else OpState.Running) is
new-state d _ is = refl

new-count : (act : Act) → count_of [] act ≡ new_count act
new-count (Act.Populate id timeout ranges) = refl
new-count _ = refl

pub new-image : (d : Deed) → operation_image (made_operation d) ≡ new_by d.entry.actor d.entry.act d.answer
new-image d =
    ap (λ (s : OpState). record (operation_image (made_operation d)) { report = record (operation_image (made_operation d)).report { state = s } }) (new-state d d.entry.act refl)
    ∙ ap (λ (n : ℕ). record (new_by d.entry.actor d.entry.act d.answer) { report = record (new_by d.entry.actor d.entry.act d.answer).report { count = n } }) (new-count d.entry.act)
