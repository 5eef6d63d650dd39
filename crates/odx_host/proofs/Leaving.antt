-- An entry of the nexus that makes an operation, and the quiet ones behind it
use Rattle.std.proofs.Common.{◌≡◌, ℕ, ◌≤◌, List, [], ◌∷◌, ◌++◌, length, refl, ap, sym, ◌∙◌, subst, arith, true, false, Bool, inl, inr, append_assoc, length-append}
use Rattle.std.specs.Prelude.{Some, None, Option, ◌&&◌, ◌==◌, not, cond, find, take}
use Rattle.std.proofs.lemmas.Bool.{eq-eqb}
use Rattle.cm_base.specs.Configuration.{Configuration}
use Rattle.cm_history.specs.declared.act.Act.{Act}
use Rattle.cm_history.specs.declared.act.Actor.{Actor}
use Rattle.cm_history.specs.declared.act.Entry.{Entry}
use Rattle.cm_history.specs.Deeds.{Deed, is_refusal, is_answered, same_actor}
use Rattle.cm_history.specs.Answers.{deed, answer_report, report_of}
use Rattle.cm_history.specs.History.{answer, past_of}
use Rattle.cm_history.specs.Operations.{Operation, OfToken, same_form, form_of, id_of, has_key, made_operation, makes_operation, is_making, kept, operations}
use Rattle.cm_history.proofs.PublicLaws.{In, Each, Each-append, Each-in, find-in, find-passes, past_of-mine, past-is, kept_in}
use Rattle.cmd_program.specs.InHistory.{entries_by, is_by}
use Rattle.cmd_program.specs.Program.{ask_then}
use Rattle.cmd_program.specs.SingleActs.{act_alone, told_token}
use Rattle.cmd_program.specs.AnswerBytes.{report_token_bytes}
use Rattle.cmd_program.specs.Program.{done}
use Rattle.odx_host.specs.Requests.{status_limit}
use Rattle.odx_host.proofs.Kept.{KeptOf, kept-new, IsQuiet, quiet-more}
use Rattle.odx_host.proofs.Ran.{RanIn, not-refused}

-- entries of others are quiet
pub others-quiet : (nexus : ℕ) (xs : List Entry) → entries_by nexus xs ≡ [] → Each (IsQuiet nexus) xs
others-quiet nexus [] e = tt
others-quiet nexus (x ∷ xs) e = go (is_by nexus x) refl e (λ k. others-quiet nexus xs k)
  where
    go : (t : Bool) → is_by nexus x ≡ t → cond t (x ∷ entries_by nexus xs) (entries_by nexus xs) ≡ [] → (entries_by nexus xs ≡ [] → Each (IsQuiet nexus) xs) → IsQuiet nexus x × Each (IsQuiet nexus) xs
    go true is none later = cc
    go false is none later = (inl is, later none)

-- behind the first `n` entries the nexus made this one, which was not refused, and since then only quiet ones
pub record Leaves (config : Configuration) (nexus n unit : ℕ) (act : Act) (front : List Entry) (e : Entry) (all : List Entry) : Type 0 where
  pub quiet : List Entry
  pub whole : front ++ e ∷ quiet ≡ all
  pub late : n ≤ length front
  pub still : Each (IsQuiet nexus) quiet
  pub actor : e.actor ≡ Actor.Nexus nexus
  pub on_unit : e.unit ≡ unit
  pub asks : e.act ≡ act
  pub answered : is_refusal (answer config front unit e.actor e.moment e.act) ≡ false

module _ (config : Configuration) (nexus n unit : ℕ) (act : Act) (front : List Entry) (e : Entry) where
  pub leaves-more : (all more : List Entry) → Leaves config nexus n unit act front e all → Each (IsQuiet nexus) more → Leaves config nexus n unit act front e (all ++ more)
  leaves-more all more l still = record {
    quiet = l.quiet ++ more;
    whole = sym (append_assoc front (e ∷ l.quiet) more) ∙ ap (λ x. x ++ more) l.whole;
    late = l.late;
    still = Each-append (IsQuiet nexus) l.quiet more l.still still;
    actor = l.actor;
    on_unit = l.on_unit;
    asks = l.asks;
    answered = l.answered;
  }

  -- the records of its key are of that deed
  pub kept-leaves : (all : List Entry) (id : ℕ) → Leaves config nexus n unit act front e all → is_making act ≡ true → form_of act ≡ OfToken → id_of act ≡ id
      → KeptOf (Actor.Nexus nexus) OfToken id (deed config unit (past_of config unit front) e) (kept (past_of config unit all))
  kept-leaves all id l making form key =
      let d : Deed = deed config unit (past_of config unit front) e in
      let makes : makes_operation d ≡ true = ap (λ b. b && is_answered d) (ap is_making l.asks ∙ making) ∙ ap not l.answered in
      let has : has_key (Actor.Nexus nexus) OfToken id (made_operation d) ≡ true =
      ap (λ a. same_actor a (Actor.Nexus nexus) && same_form (form_of e.act) OfToken && (id_of e.act == id)) l.actor
      ∙ ap (λ b. b && same_form (form_of e.act) OfToken && (id_of e.act == id)) (eq-eqb nexus nexus refl)
      ∙ ap (λ f. same_form f OfToken && (id_of e.act == id)) (ap form_of l.asks ∙ form)
      ∙ ap (λ k. k == id) (ap id_of l.asks ∙ key) ∙ eq-eqb id id refl in
      let mine = past_of-mine config unit front e l.on_unit in
      let first : KeptOf (Actor.Nexus nexus) OfToken id d (kept (past_of config unit (front ++ e ∷ []))) =
      rw mine (kept-new (Actor.Nexus nexus) OfToken id config unit d (past_of config unit front) (refl, past-is config unit front) makes has) in
      let parted : (front ++ e ∷ []) ++ l.quiet ≡ all = append_assoc front (e ∷ []) l.quiet ∙ l.whole in
      subst (λ h. KeptOf (Actor.Nexus nexus) OfToken id d (kept (past_of config unit h))) parted
      (quiet-more config nexus unit id OfToken d (front ++ e ∷ []) l.quiet l.still first)

-- ---- a command of one act

pub split-at : (before others quiet all : List Entry) (e : Entry) → (before ++ others ++ e ∷ []) ++ quiet ≡ all → (before ++ others) ++ e ∷ quiet ≡ all
split-at before others quiet all e h = sym (append_assoc (before ++ others) (e ∷ []) quiet) ∙ h

-- behind `before` the nexus made the one entry
pub left-by : (config : Configuration) (nexus n : ℕ) (all before : List Entry) (unit : ℕ) (act : Act) (bytes : List ℕ) → n ≤ length before
    → RanIn config nexus (act_alone unit act) all before bytes → (front : List Entry) × (e : Entry) × Leaves config nexus n unit act front e all × (length before ≤ length front)
left-by config nexus n all before unit act bytes low ran =
    let others = ran.0 in
    let e = ran.1 in
    let told = ran.2 in
    let next = ran.3 in
    let rest = not-refused config nexus done told all (before ++ others ++ e ∷ []) bytes ran.4 in
    let quiet = rest.1.1 in (
      before ++ others,
      e,
      record {
        quiet = quiet;
        whole = split-at before others quiet all e rest.1.2;
        late = omega (arith, low, length-append before others);
        still = others-quiet nexus quiet rest.1.3;
        actor = next.actor;
        on_unit = next.on_unit;
        asks = next.asks;
        answered =
            ap is_refusal (ap (λ a. answer config (before ++ others) unit a e.moment e.act) next.actor
            ∙ ap (λ a. answer config (before ++ others) unit (Actor.Nexus nexus) e.moment a) next.asks ∙ sym next.answered)
            ∙ rest.0;
      },
      omega (arith, length-append before others),
    )

-- ---- a report

-- the report of an operation that the nexus made last of its key
pub record Reported (config : Configuration) (nexus n unit : ℕ) (act : Act) (front : List Entry) (made : Entry) (before all : List Entry) (bytes : List ℕ) : Type 0 where
  pub others : List Entry
  pub e : Entry
  pub behind : List Entry
  pub whole : (before ++ others) ++ e ∷ behind ≡ all
  pub operation : Operation
  pub there : In operation (operations (past_of config unit (before ++ others)))
  pub made_is : operation.made ≡ deed config unit (past_of config unit front) made
  pub told : bytes ≡ take status_limit (report_token_bytes config unit (report_of operation))
  pub more : Leaves config nexus n unit act front made all

record IsTold (config : Configuration) (nexus unit : ℕ) (all after : List Entry) (bytes : List ℕ) (found : Option Operation) : Type 0 where
  pub operation : Operation
  pub is : found ≡ Some operation
  pub bytes_are : bytes ≡ take status_limit (report_token_bytes config unit (report_of operation))
  pub behind : List Entry
  pub whole : after ++ behind ≡ all
  pub apart : entries_by nexus behind ≡ []

is-told : (config : Configuration) (nexus unit : ℕ) (all after : List Entry) (bytes : List ℕ) (found : Option Operation)
    → RanIn config nexus (told_token config unit status_limit (answer_report found)) all after bytes → IsTold config nexus unit all after bytes found
is-told config nexus unit all after bytes None ran = let no = ran.0 in cc
is-told config nexus unit all after bytes (Some o) ran = record {
  operation = o;
  is = refl;
  bytes_are = let same = ran.0 in cc;
  behind = ran.1;
  whole = ran.2;
  apart = ran.3;
}

pub reported : (config : Configuration) (nexus n unit : ℕ) (act : Act) (front : List Entry) (made : Entry) (all before : List Entry) (id : ℕ) (bytes : List ℕ)
    → Leaves config nexus n unit act front made before → is_making act ≡ true → form_of act ≡ OfToken → id_of act ≡ id
    → RanIn config nexus (ask_then unit (Act.Report id) (told_token config unit status_limit)) all before bytes → Reported config nexus n unit act front made before all bytes
reported config nexus n unit act front made all before id bytes l making form key ran =
    let others = ran.0 in
    let e = ran.1 in
    let next = ran.3 in
    let has : Operation → Bool = has_key (Actor.Nexus nexus) OfToken id in
    let past = past_of config unit (before ++ others) in
    let t = is-told config nexus unit all (before ++ others ++ e ∷ []) bytes (find has (kept past))
    (subst (λ a. RanIn config nexus (told_token config unit status_limit a) all (before ++ others ++ e ∷ []) bytes) next.answered ran.4) in
    let still = others-quiet nexus others next.not_own in
    let later = leaves-more config nexus n unit act front made before others l still in
    let kept_of = kept-leaves config nexus n unit act front made (before ++ others) id later making form key in
    let i = find-in has (kept past) t.operation t.is in
    let quiet_e : IsQuiet nexus e = inr (ap is_making next.asks) in
    let whole : (before ++ others) ++ e ∷ t.behind ≡ all = split-at before others t.behind all e t.whole in
    record {
      others = others;
      e = e;
      behind = t.behind;
      whole = whole;
      operation = t.operation;
      there = kept_in config unit past t.operation (past-is config unit (before ++ others)) i;
      made_is = Each-in _ (kept past) t.operation kept_of i (find-passes has (kept past) t.operation t.is);
      told = t.bytes_are;
      more = subst (λ h. Leaves config nexus n unit act front made h) whole
          (leaves-more config nexus n unit act front made (before ++ others) (e ∷ t.behind) later (quiet_e, others-quiet nexus t.behind t.apart));
    }
