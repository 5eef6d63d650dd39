-- The tables that a past makes show its image
use Rattle.std.proofs.Common.{◌≡◌, ℕ, zero, suc, List, [], ◌∷◌, ◌++◌, length, drop, refl, ap, sym, ◌∙◌, subst, true, false, Bool, inl, inr}
use Rattle.std.specs.Prelude.{Option, Some, None, ◌⊎◌, ◌==◌, ◌&&◌, ◌||◌, map, is_some, if◌then◌else◌}
use Rattle.cm_base.specs.Configuration.{Configuration}
use Rattle.cm_base.specs.declared.config.UnitConfig.{UnitConfig}
use Rattle.cm_base.specs.Units.{unit_of}
use Rattle.lba_ranges.specs.Denoted.{total}
use Rattle.lba_ranges.specs.Writings.{Writing}
use Rattle.cm_history.specs.declared.act.Act.{Act}
use Rattle.cm_history.specs.declared.act.Actor.{Actor}
use Rattle.cm_history.specs.declared.act.CopyEnd.{CopyEnd}
use Rattle.cm_history.specs.declared.answer.OpReport.{OpReport}
use Rattle.cm_history.specs.declared.answer.OpState.{OpState}
use Rattle.cm_history.specs.Deeds.{Deed, moment, last_stamp, same_actor}
use Rattle.cm_history.specs.Legal.{may_ask}
use Rattle.cm_history.specs.Blocks.{held}
use Rattle.cm_history.specs.Tokens.{Token, Fate, Live, Expired, Evicted, Deleted, tokens, rod, is_populate}
use Rattle.cm_history.specs.Operations.{Operation, Form, OfToken, OfCopy, form_of, same_form, id_of, is_making, is_foreground, is_background, operations, operation_after, made_operation, makes_operation, running, fits, would_serve, kept, written, count_of, list_of, state_of, result_of, result_or}
use Rattle.cm_history.specs.Reserving.{reservations}
use Rattle.cm_history.specs.Answers.{deed, serial_made}
use Rattle.cm_history.specs.Asked.{AllAsked}
use Rattle.cm_history.specs.Image.{TokenImage, OperationImage, image, token_image, operation_image, trim, trimmed}
use Rattle.cm_history.proofs.PublicLaws.{Each, Each-append, Each-by, Each-in, Each-map, IsPast, Serves, and_first, and_second, find-passes, kept_in, map-map, map-same, same_form-is, served-or-not, serving}
use Rattle.unit_core.specs.Keys.{number_of, is_copy}
use Rattle.unit_core.specs.inner.Tables.{token_state_of, kept_of, tokens_of, serial_or_none, work_of, job_of, jobs_of}
use Rattle.unit_core.specs.inner.Shown.{state_shown, token_shown, running_copy, work_shown, job_shown, image_shown}
use Rattle.unit_core.proofs.Operating.{IsMadeBy, all-made_by}

-- ---- tokens

pub token-shown : (u : UnitConfig) (t : Token) → trim (token_image u t) ≡ token_shown (kept_of u t)
token-shown u t = go t.fate refl
  where
    go : (f : Fate) → t.fate ≡ f → trim (token_image u t) ≡ state_shown t.serial (total t.ranges) (token_state_of (rod u t) t t.fate)
    go Live e = rw e refl
    go Expired e = rw e refl
    go Evicted e = rw e refl
    go Deleted e = rw e refl

-- ---- operations

-- no Close served an operation of a token, and a copy has written nothing
pub record IsPlain (o : Operation) : Type 0 where
  pub token : form_of o.made.entry.act ≡ OfToken → result_of o.servers ≡ running_copy
  pub copy : form_of o.made.entry.act ≡ OfCopy → written o ≡ []

apart : (f : Form) → f ≡ OfToken → f ≡ OfCopy → ⊥
apart f a b = let no = sym a ∙ b in cc

result-stays : (actor : Actor) (act : Act) (o : Operation) (was : CopyEnd) → fits actor act o ≡ true → form_of o.made.entry.act ≡ OfToken → result_or was act ≡ was
result-stays actor (Act.Close id result) o was f token =
    let keys = and_first (same_actor o.made.entry.actor actor && same_form (form_of o.made.entry.act) OfCopy) (id_of o.made.entry.act == id) f in
    let copy = same_form-is (form_of o.made.entry.act) OfCopy (and_second (same_actor o.made.entry.actor actor) (same_form (form_of o.made.entry.act) OfCopy) keys) in
    absurd (apart (form_of o.made.entry.act) token copy)
result-stays actor _ o was f token = refl

start-token : (act : Act) → (is_foreground act || is_background act) ≡ true → form_of act ≡ OfToken
start-token (Act.Start id background ranges rod) e = refl
start-token (Act.Open id) e = cc
start-token _ e = refl

copy-wrote : (u : UnitConfig) (past : List Deed) (d : Deed) (o : Operation) → Serves u past o d.answer d.wrote d.entry.act → form_of o.made.entry.act ≡ OfCopy → d.wrote ≡ []
copy-wrote u past d o (inl moves) copy = absurd (apart (form_of o.made.entry.act) (start-token o.made.entry.act moves.start) copy)
copy-wrote u past d o (inr (inl stops)) copy = stops.wrote
copy-wrote u past d o (inr (inr (inl ends))) copy = ends.wrote
copy-wrote u past d o (inr (inr (inr closes))) copy = closes.wrote

plain-served : (config : Configuration) (unit : ℕ) (past : List Deed) (d : Deed) (o : Operation) → d ≡ deed config unit past d.entry → would_serve past d.entry.actor d.entry.act ≡ Some o
    → IsPlain o → IsPlain (record o { servers = d ∷ o.servers })
plain-served config unit past d o made e plain = record {
  token = λ token. result-stays d.entry.actor d.entry.act o (result_of o.servers) (find-passes (fits d.entry.actor d.entry.act) (running past) o e) token ∙ plain.token token;
  copy = λ copy.
      ap (λ l. l ++ d.wrote) (plain.copy copy)
      ∙ copy-wrote (unit_of config unit) past d o (serving config unit past d o made e) copy;
}

pub all-plain : (config : Configuration) (unit : ℕ) (past : List Deed) → IsPast config unit past → Each IsPlain (operations past)
all-plain config unit [] is = tt
all-plain config unit (d ∷ past) is = go (all-plain config unit past is.1)
  where
    step : (o : Operation) → IsPlain o → (operation_after d o ≡ o) ⊎ ((would_serve past d.entry.actor d.entry.act ≡ Some o) × (operation_after d o ≡ record o { servers = d ∷ o.servers })) → IsPlain (operation_after d o)
    step o plain (inl same) = subst IsPlain (sym same) plain
    step o plain (inr served) = subst IsPlain (sym served.1) (plain-served config unit past d o is.0 served.0 plain)

    new : (t : Bool) → Each IsPlain (if t then made_operation d ∷ [] else [])
    new true = (record { token = λ e. refl; copy = λ e. refl }, tt)
    new false = tt

    go : Each IsPlain (operations past) → Each IsPlain (operations (d ∷ past))
    go before =
        Each-append IsPlain (map (operation_after d) (operations past)) _
        (Each-map IsPlain (operation_after d) (operations past) (Each-by _ (operations past) (λ o i. step o (Each-in IsPlain (operations past) o before i) (served-or-not config unit past d o is.1 is.0 i))))
        (new (makes_operation d))

-- an operation is begun by a nexus
nexus-number : (unit : ℕ) (actor : Actor) (act : Act) → may_ask unit actor act ≡ true → is_making act ≡ true → Actor.Nexus (number_of actor) ≡ actor
nexus-number unit (Actor.Nexus n) act e m = refl
nexus-number unit (Actor.Pump u) (Act.Populate id timeout ranges) e m = cc
nexus-number unit (Actor.Pump u) (Act.Start id background ranges rod) e m = cc
nexus-number unit (Actor.Pump u) (Act.Open id) e m = cc
nexus-number unit (Actor.Pump u) _ e m = cc

serial-some : (s : Option ℕ) → is_some s ≡ true → Some (serial_or_none s) ≡ s
serial-some None e = cc
serial-some (Some n) e = refl

serial-none : (s : Option ℕ) → is_some s ≡ false → s ≡ None
serial-none None e = refl
serial-none (Some n) e = cc

drop-none : (n : ℕ) (ws : List Writing) → ws ≡ [] → drop n ws ≡ []
drop-none zero ws e = e
drop-none (suc n) [] e = refl
drop-none (suc n) (w ∷ ws) e = cc

-- what is kept of an operation shows its image
abbrev Parts : Operation → Act → Actor → OperationImage
Parts o act actor = record {
  actor = actor;
  form = form_of act;
  id = id_of act;
  report = record { populate = is_populate act; background = is_background act; state = state_of o act; count = count_of (written o) act; serial = serial_made o.made.answer };
  result = result_of o.servers;
  unwritten = drop (length (written o)) (list_of act);
}

work-shown : (o : Operation) (act : Act) (actor : Actor) (number : ℕ) → o.made.entry.act ≡ act → is_making act ≡ true → Actor.Nexus number ≡ actor
    → is_some (serial_made o.made.answer) ≡ is_populate act
    → (form_of act ≡ OfToken → result_of o.servers ≡ running_copy) → (form_of act ≡ OfCopy → written o ≡ [])
    → Parts o act actor ≡ work_shown (record { actor = number; copy = is_copy (form_of act); id = id_of act }) (work_of o act)
work-shown o (Act.Populate id timeout ranges) actor number is makes who serial token copy =
    ap (λ (a : Actor). Parts o (Act.Populate id timeout ranges) a) (sym who)
    ∙ ap (λ (r : CopyEnd). record (Parts o (Act.Populate id timeout ranges) (Actor.Nexus number)) { result = r }) (token refl)
    ∙ ap (λ (l : List Writing). record (Parts o (Act.Populate id timeout ranges) (Actor.Nexus number)) { result = running_copy; unwritten = l }) (drop-none (length (written o)) [] refl)
    ∙ ap (λ (s : Option ℕ). let r : OpReport = record (Parts o (Act.Populate id timeout ranges) (Actor.Nexus number)).report { serial = s } in
    record (Parts o (Act.Populate id timeout ranges) (Actor.Nexus number)) { result = running_copy; unwritten = []; report = r }) (sym (serial-some (serial_made o.made.answer) serial))
work-shown o (Act.Start id background ranges rod) actor number is makes who serial token copy =
    ap (λ (a : Actor). Parts o (Act.Start id background ranges rod) a) (sym who)
    ∙ ap (λ (r : CopyEnd). record (Parts o (Act.Start id background ranges rod) (Actor.Nexus number)) { result = r }) (token refl)
    ∙ ap (λ (s : Option ℕ). let r : OpReport = record (Parts o (Act.Start id background ranges rod) (Actor.Nexus number)).report { serial = s } in
    record (Parts o (Act.Start id background ranges rod) (Actor.Nexus number)) { result = running_copy; report = r }) (serial-none (serial_made o.made.answer) serial)
    ∙ ap (λ (s : OpState). let r : OpReport = record (Parts o (Act.Start id background ranges rod) (Actor.Nexus number)).report { serial = None; state = s } in
    record (Parts o (Act.Start id background ranges rod) (Actor.Nexus number)) { result = running_copy; report = r }) (sym (ap (state_of o) is))
work-shown o (Act.Open id) actor number is makes who serial token copy =
    ap (λ (a : Actor). Parts o (Act.Open id) a) (sym who)
    ∙ ap (λ (l : List Writing). record (Parts o (Act.Open id) (Actor.Nexus number)) { unwritten = l }) (drop-none (length (written o)) [] refl)
    ∙ ap (λ (s : Option ℕ). let r : OpReport = record (Parts o (Act.Open id) (Actor.Nexus number)).report { serial = s } in
    record (Parts o (Act.Open id) (Actor.Nexus number)) { unwritten = []; report = r }) (serial-none (serial_made o.made.answer) serial)
    ∙ ap (λ (n : ℕ). let r : OpReport = record (Parts o (Act.Open id) (Actor.Nexus number)).report { serial = None; count = n } in
    record (Parts o (Act.Open id) (Actor.Nexus number)) { unwritten = []; report = r }) (ap length (copy refl))
work-shown o _ actor number is makes who serial token copy = cc

job-shown : (config : Configuration) (unit : ℕ) (o : Operation) → IsMadeBy config unit o.made → IsPlain o → operation_image o ≡ job_shown (job_of o)
job-shown config unit o by plain =
    work-shown o o.made.entry.act o.made.entry.actor (number_of o.made.entry.actor) refl by.makes
    (nexus-number unit o.made.entry.actor o.made.entry.act by.asked.asked by.makes) by.serial plain.token plain.copy

-- ---- the image

pub image-shown : (config : Configuration) (unit : ℕ) (past : List Deed) → IsPast config unit past → AllAsked config unit past
    → trimmed (image (unit_of config unit) past)
    ≡ image_shown (moment past) (last_stamp past) (length past) (unit_of config unit).blocks (held past) (tokens_of (unit_of config unit) past) (jobs_of past) (reservations past)
image-shown config unit past is asked =
    let u = unit_of config unit in
    let i = image u past in
    let ts : map trim (map (token_image u) (tokens past)) ≡ map token_shown (tokens_of u past) =
    map-map (token_image u) trim (tokens past)
    ∙ map-same (λ t. trim (token_image u t)) (λ t. token_shown (kept_of u t)) (tokens past) (λ t j. token-shown u t)
    ∙ sym (map-map (kept_of u) token_shown (tokens past)) in
    let os : map operation_image (kept past) ≡ map job_shown (jobs_of past) =
    map-same operation_image (λ o. job_shown (job_of o)) (kept past)
    (λ o j. let there = kept_in config unit past o is j in
    job-shown config unit o (Each-in (λ (x : Operation). IsMadeBy config unit x.made) (operations past) o (all-made_by config unit past is asked) there)
    (Each-in IsPlain (operations past) o (all-plain config unit past is) there))
    ∙ sym (map-map job_of job_shown (kept past)) in
    ap (λ (l : List TokenImage). record i { tokens = l }) ts
    ∙ ap (λ (l : List OperationImage). record i { tokens = map token_shown (tokens_of u past); kept = l }) os
