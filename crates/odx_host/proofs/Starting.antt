-- A write of a token that was begun
use Rattle.std.proofs.Common.{◌≡◌, ℕ, ◌+◌, ◌≤◌, List, [], ◌∷◌, ◌++◌, length, refl, ap, sym, ◌∙◌, subst, arith, true, false, Bool, inr, append_assoc, length-append}
use Rattle.std.specs.Prelude.{nat_lt, cond}
use Rattle.std.proofs.lemmas.Bool.{ltb-false}
use Rattle.lba_ranges.specs.HeldBlocks.{HeldBlocks}
use Rattle.cm_base.specs.Configuration.{Configuration}
use Rattle.cm_base.specs.Units.{is_configured}
use Rattle.scsi_sense.specs.Codes.{invalid_field_in_parameter_list, token_unknown}
use Rattle.rod_token.specs.declared.kind.TokenKind.{TokenKind}
use Rattle.rod_token.specs.TokenText.{classify}
use Rattle.cm_history.specs.declared.act.Act.{Act}
use Rattle.cm_history.specs.declared.act.Actor.{Actor}
use Rattle.cm_history.specs.declared.act.Entry.{Entry}
use Rattle.cm_history.specs.declared.answer.Answer.{Answer}
use Rattle.cm_history.specs.Deeds.{is_refusal}
use Rattle.cm_history.specs.History.{answer}
use Rattle.cm_history.specs.Operations.{is_making}
use Rattle.cm_history.proofs.PublicLaws.{Each, Each-append}
use Rattle.cmd_program.specs.Program.{done, refused, ask_then, unless_refused}
use Rattle.cmd_program.specs.TokenWrite.{TokenWrite, wanted, delete_by, deleting, started, starting, rod_part, after_redeem, write_by}
use Rattle.odx_host.proofs.Kept.{IsQuiet}
use Rattle.odx_host.proofs.Ran.{RanIn, not-refused, never-refused, never-busy}
use Rattle.odx_host.proofs.Leaving.{Leaves, others-quiet, split-at}

-- ---- behind the Start

record Deleted (nexus : ℕ) (all after : List Entry) : Type 0 where
  pub quiet : List Entry
  pub whole : after ++ quiet ≡ all
  pub still : Each (IsQuiet nexus) quiet

none-deleted : (config : Configuration) (nexus : ℕ) (all after : List Entry) (bytes : List ℕ) → RanIn config nexus done all after bytes → Deleted nexus all after
none-deleted config nexus all after bytes ran = record { quiet = ran.1; whole = ran.2; still = others-quiet nexus ran.1 ran.3 }

-- the token may be deleted, which makes no operation
deleted : (config : Configuration) (nexus : ℕ) (delete : Bool) (kind : TokenKind) (all after : List Entry) (bytes : List ℕ) → RanIn config nexus (delete_by delete kind) all after bytes → Deleted nexus all after
deleted config nexus false kind all after bytes ran = none-deleted config nexus all after bytes ran
deleted config nexus true TokenKind.BadLength all after bytes ran = none-deleted config nexus all after bytes ran
deleted config nexus true TokenKind.BadType all after bytes ran = none-deleted config nexus all after bytes ran
deleted config nexus true TokenKind.Zero all after bytes ran = none-deleted config nexus all after bytes ran
deleted config nexus true (TokenKind.Names creator serial) all after bytes ran =
    let others = ran.0 in
    let e = ran.1 in
    let next = ran.3 in
    let rest = not-refused config nexus done ran.2 all (after ++ others ++ e ∷ []) bytes ran.4 in
    let quiet_e : IsQuiet nexus e = inr (ap is_making next.asks) in
    record {
      quiet = others ++ e ∷ rest.1.1;
      whole = sym (append_assoc after others (e ∷ rest.1.1)) ∙ split-at after others rest.1.1 all e rest.1.2;
      still = Each-append (IsQuiet nexus) others (e ∷ rest.1.1) (others-quiet nexus others next.not_own) (quiet_e, others-quiet nexus rest.1.1 rest.1.3);
    }

-- ---- the Start

-- the Start of this part of a rod, behind `before`
pub record Started (config : Configuration) (nexus n : ℕ) (all before : List Entry) (w : TokenWrite) (rod : HeldBlocks) : Type 0 where
  pub others : List Entry
  pub e : Entry
  pub leaves : Leaves config nexus n w.unit (Act.Start w.id true w.list.ranges (rod_part w rod)) (before ++ others) e all

start-done : (config : Configuration) (nexus n : ℕ) (w : TokenWrite) (rod : HeldBlocks) (all before : List Entry) (bytes : List ℕ) → n ≤ length before → w.list.immed ≡ true
    → RanIn config nexus (starting w (rod_part w rod)) all before bytes → Started config nexus n all before w rod
start-done config nexus n w rod all before bytes low immed was =
    let act : Act = Act.Start w.id true w.list.ranges (rod_part w rod) in
    let ran : RanIn config nexus (ask_then w.unit act (unless_refused (deleting w))) all before bytes =
    subst (λ b. RanIn config nexus (ask_then w.unit (Act.Start w.id b w.list.ranges (rod_part w rod)) (started w b)) all before bytes) immed was in
    let others = ran.0 in
    let e = ran.1 in
    let next = ran.3 in
    let rest = not-refused config nexus (deleting w) ran.2 all (before ++ others ++ e ∷ []) bytes ran.4 in
    let d = deleted config nexus w.list.delete (classify w.list.token) all (before ++ others ++ e ∷ []) bytes rest.1 in
    record {
      others = others;
      e = e;
      leaves = record {
        quiet = d.quiet;
        whole = split-at before others d.quiet all e d.whole;
        late = omega (arith, low, length-append before others);
        still = d.still;
        actor = next.actor;
        on_unit = next.on_unit;
        asks = next.asks;
        answered =
            ap is_refusal (ap (λ a. answer config (before ++ others) w.unit a e.moment e.act) next.actor
            ∙ ap (λ a. answer config (before ++ others) w.unit (Actor.Nexus nexus) e.moment a) next.asks ∙ sym next.answered)
            ∙ rest.0;
      };
    }

-- the whole command: its token was redeemed for a rod, of which the Start has a part
pub record Begun (config : Configuration) (nexus n : ℕ) (all before : List Entry) (source serial : ℕ) (w : TokenWrite) : Type 0 where
  pub redeeming : List Entry
  pub r : Entry
  pub behind : List Entry
  pub whole : redeeming ++ r ∷ behind ≡ all
  pub late : length before ≤ length redeeming
  pub on_unit : r.unit ≡ source
  pub asks : r.act ≡ Act.Redeem w.list.token w.unit
  pub rod : HeldBlocks
  pub answered : answer config redeeming source r.actor r.moment r.act ≡ Answer.Rod rod
  pub few : w.list.offset + wanted w ≤ length rod.items
  pub start : Started config nexus n all (redeeming ++ r ∷ []) w rod

record HasRod (config : Configuration) (nexus : ℕ) (w : TokenWrite) (all after : List Entry) (bytes : List ℕ) (told : Answer) : Type 0 where
  pub rod : HeldBlocks
  pub is : told ≡ Answer.Rod rod
  pub few : w.list.offset + wanted w ≤ length rod.items
  pub ran : RanIn config nexus (starting w (rod_part w rod)) all after bytes

has-rod : (config : Configuration) (nexus : ℕ) (w : TokenWrite) (all after : List Entry) (bytes : List ℕ) (told : Answer) → RanIn config nexus (after_redeem w told) all after bytes
    → HasRod config nexus w all after bytes told
has-rod config nexus w all after bytes (Answer.Rod rod) ran = go (nat_lt (length rod.items) (w.list.offset + wanted w)) refl ran
  where
    go : (t : Bool) → nat_lt (length rod.items) (w.list.offset + wanted w) ≡ t
        → RanIn config nexus (cond t (refused invalid_field_in_parameter_list) (starting w (rod_part w rod))) all after bytes → HasRod config nexus w all after bytes (Answer.Rod rod)
    go true is r = absurd (never-refused config nexus invalid_field_in_parameter_list all after bytes r)
    go false is r = record { rod = rod; is = refl; few = ltb-false (length rod.items) (w.list.offset + wanted w) is; ran = r }
has-rod config nexus w all after bytes (Answer.Refused sense) ran = absurd (never-refused config nexus sense all after bytes ran)
has-rod config nexus w all after bytes _ ran = absurd (never-busy config nexus all after bytes ran)

pub write-begun : (config : Configuration) (nexus n : ℕ) (w : TokenWrite) (source serial : ℕ) (all before : List Entry) (bytes : List ℕ) → n ≤ length before → w.list.immed ≡ true
    → classify w.list.token ≡ TokenKind.Names source serial → RanIn config nexus (write_by config w (classify w.list.token)) all before bytes
    → Begun config nexus n all before source serial w
write-begun config nexus n w source serial all before bytes low immed names was =
    go (is_configured config source) (subst (λ k. RanIn config nexus (write_by config w k) all before bytes) names was)
  where
    found : RanIn config nexus (ask_then source (Act.Redeem w.list.token w.unit) (after_redeem w)) all before bytes → Begun config nexus n all before source serial w
    found ran =
        let others = ran.0 in
        let r = ran.1 in
        let next = ran.3 in
        let has = has-rod config nexus w all (before ++ others ++ r ∷ []) bytes ran.2 ran.4 in
        let longer = length-append before others in
        let longest = length-append (before ++ others) (r ∷ []) in
        let start = start-done config nexus n w has.rod all (before ++ others ++ r ∷ []) bytes (omega (arith, low, longer, longest)) immed has.ran in
        record {
          redeeming = before ++ others;
          r = r;
          behind = start.others ++ start.e ∷ start.leaves.quiet;
          whole = split-at before others (start.others ++ start.e ∷ start.leaves.quiet) all r
              (sym (append_assoc (before ++ others ++ r ∷ []) start.others (start.e ∷ start.leaves.quiet)) ∙ start.leaves.whole);
          late = omega (arith, longer);
          on_unit = next.on_unit;
          asks = next.asks;
          rod = has.rod;
          answered =
              ap (λ a. answer config (before ++ others) source a r.moment r.act) next.actor
              ∙ ap (λ a. answer config (before ++ others) source (Actor.Nexus nexus) r.moment a) next.asks ∙ sym next.answered ∙ has.is;
          few = has.few;
          start = start;
        }

    go : (t : Bool) → RanIn config nexus (cond t (ask_then source (Act.Redeem w.list.token w.unit) (after_redeem w)) (refused token_unknown)) all before bytes
        → Begun config nexus n all before source serial w
    go true ran = found ran
    go false ran = absurd (never-refused config nexus token_unknown all before bytes ran)
