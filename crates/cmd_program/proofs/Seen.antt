-- What a nexus saw of a unit, of which its last entry is
use Rattle.std.proofs.Common.{◌≡◌, ◌∙◌, ℕ, suc, ◌≤◌, List, [], ◌∷◌, ◌++◌, length, refl, ap, sym, subst, arith, false, true, Bool, append_assoc}
use Rattle.std.specs.Prelude.{◌==◌, cond, is_some}
use Rattle.std.proofs.lemmas.Bool.Decides.{nat_tests}
use Rattle.std.proofs.lemmas.List.Elements.{filter-append}
use Rattle.cm_base.specs.Configuration.{Configuration}
use Rattle.cm_history.specs.declared.act.Act.{Act}
use Rattle.cm_history.specs.declared.act.Actor.{Actor}
use Rattle.cm_history.specs.declared.act.Entry.{Entry}
use Rattle.cm_history.specs.Operations.{would_serve}
use Rattle.cm_history.specs.History.{on, past_of}
use Rattle.cm_history.proofs.PublicLaws.{past_of-on}
use Rattle.cmd_program.specs.Running.{Call}
use Rattle.cmd_program.specs.InHistory.{is_by, entries_by}
use Rattle.cmd_program.specs.Conversations.{Folding, IsFullBy, StampsRanOut}

-- the entry is kept where it passes
kept : (nexus : ℕ) (e : Entry) (es : List Entry) → is_by nexus e ≡ true → entries_by nexus (e ∷ es) ≡ e ∷ entries_by nexus es
kept nexus e es own = ap (λ t. cond t (e ∷ entries_by nexus es) (entries_by nexus es)) own

on-kept : (unit : ℕ) (e : Entry) (es : List Entry) → (e.unit == unit) ≡ true → on unit (e ∷ es) ≡ e ∷ on unit es
on-kept unit e es here = ap (λ t. cond t (e ∷ on unit es) (on unit es)) here

same-unit : (a b : ℕ) → a ≡ b → (a == b) ≡ true
same-unit a b e = grind (arith, nat_tests)

-- the order of the two choices says nothing
by-on : (nexus unit : ℕ) (es : List Entry) → entries_by nexus (on unit es) ≡ on unit (entries_by nexus es)
by-on nexus unit [] = refl
by-on nexus unit (e ∷ es) = go (is_by nexus e) (e.unit == unit) refl refl (by-on nexus unit es)
  where
    go : (a b : Bool) → is_by nexus e ≡ a → (e.unit == unit) ≡ b → entries_by nexus (on unit es) ≡ on unit (entries_by nexus es)
        → entries_by nexus (cond b (e ∷ on unit es) (on unit es)) ≡ on unit (cond a (e ∷ entries_by nexus es) (entries_by nexus es))
    go true true is-a is-b same = kept nexus e (on unit es) is-a ∙ ap (λ l. e ∷ l) same ∙ sym (on-kept unit e (entries_by nexus es) is-b)
    go true false is-a is-b same = same ∙ sym (ap (λ t. cond t (e ∷ on unit (entries_by nexus es)) (on unit (entries_by nexus es))) is-b)
    go false true is-a is-b same = ap (λ t. cond t (e ∷ entries_by nexus (on unit es)) (entries_by nexus (on unit es))) is-a ∙ same
    go false false is-a is-b same = same

on-twice : (unit : ℕ) (es : List Entry) → on unit (on unit es) ≡ on unit es
on-twice unit [] = refl
on-twice unit (e ∷ es) = go (e.unit == unit) refl (on-twice unit es)
  where
    go : (b : Bool) → (e.unit == unit) ≡ b → on unit (on unit es) ≡ on unit es → on unit (cond b (e ∷ on unit es) (on unit es)) ≡ cond b (e ∷ on unit es) (on unit es)
    go true is same = on-kept unit e (on unit es) is ∙ ap (λ l. e ∷ l) same
    go false is same = same

some-own : (nexus : ℕ) (bs : List Entry) (last : Entry) → is_by nexus last ≡ true → 1 ≤ length (entries_by nexus (bs ++ last ∷ []))
some-own nexus [] last own = let e = ap (λ (l : List Entry). length l) (kept nexus last [] own) in omega (arith, e)
some-own nexus (b ∷ bs) last own = go (is_by nexus b) (some-own nexus bs last own)
  where
    go : (t : Bool) → 1 ≤ length (entries_by nexus (bs ++ last ∷ [])) → 1 ≤ length (cond t (b ∷ entries_by nexus (bs ++ last ∷ [])) (entries_by nexus (bs ++ last ∷ [])))
    go true more = omega (arith, more)
    go false more = more

-- what was seen: these, and others' entries behind them
record Covers (nexus : ℕ) (front seen : List Entry) : Type 0 where
  others : List Entry
  all : front ++ others ≡ seen
  none : entries_by nexus others ≡ []

none-of-them : (xs : List Entry) → length xs ≡ 0 → xs ≡ []
none-of-them [] len = refl
none-of-them (x ∷ xs) len = absurd (omega arith)

-- What was seen has as many entries of the nexus as those up to its last one, so it has these.
covers : (nexus : ℕ) (bs : List Entry) (last : Entry) (seen later rest : List Entry) → is_by nexus last ≡ true → seen ++ later ≡ (bs ++ last ∷ []) ++ rest
    → length (entries_by nexus seen) ≡ length (entries_by nexus (bs ++ last ∷ [])) → Covers nexus (bs ++ last ∷ []) seen
covers nexus bs last [] later rest own all count = absurd (let more = some-own nexus bs last own in omega (arith, more, count))
covers nexus [] last (s ∷ ss) later rest own all count =
    let same : last ≡ s = cc in
    let front = ap (λ (l : List Entry). length l) (kept nexus last [] own) in
    let behind = ap (λ (l : List Entry). length l) (kept nexus s ss (subst (λ e. is_by nexus e ≡ true) same own)) in
    record { others = ss; all = ap (λ e. e ∷ ss) same; none = none-of-them (entries_by nexus ss) (omega (arith, front, behind, count)) }
covers nexus (b ∷ bs) last (s ∷ ss) later rest own all count =
    let same : b ≡ s = cc in
    let tail : ss ++ later ≡ (bs ++ last ∷ []) ++ rest = cc in
    let c = covers nexus bs last ss later rest own tail (less (is_by nexus s) (subst (λ e. length (entries_by nexus (s ∷ ss)) ≡ length (entries_by nexus (e ∷ bs ++ last ∷ []))) same count)) in
    record { others = c.others; all = ap (λ e. e ∷ (bs ++ last ∷ []) ++ c.others) same ∙ ap (λ l. s ∷ l) c.all; none = c.none }
  where
    less : (t : Bool) → length (cond t (s ∷ entries_by nexus ss) (entries_by nexus ss)) ≡ length (cond t (s ∷ entries_by nexus (bs ++ last ∷ [])) (entries_by nexus (bs ++ last ∷ [])))
        → length (entries_by nexus ss) ≡ length (entries_by nexus (bs ++ last ∷ []))
    less true e = omega (arith, e)
    less false e = e

-- An act that serves behind the last entry of the nexus, whatever others do, serves over what was seen; so no stamp was left.
pub stamps-ran-out : (config : Configuration) (Folds : Folding) (nexus : ℕ) (entries before : List Entry) (last : Entry) (rest : List Entry) (c : Call) (act : Act)
    → is_by nexus last ≡ true → (before ++ last ∷ []) ++ rest ≡ entries → c.unit ≡ last.unit → c.act ≡ act
    → IsFullBy config Folds entries nexus (entries_by nexus (before ++ last ∷ [])) c
    → ((others : List Entry) → entries_by nexus others ≡ [] → is_some (would_serve (past_of config last.unit (before ++ last ∷ others)) (Actor.Nexus nexus) act) ≡ true)
    → StampsRanOut config entries nexus
stamps-ran-out config Folds nexus entries before last rest c act own whole here asks full serves = record {
  unit = c.unit;
  before = before ++ last ∷ [];
  rest = rest;
  so_far = whole;
  seen = full.seen;
  later = full.later;
  begins = full.begins;
  last = full.serving served;
}
  where
    on-last : on c.unit (last ∷ []) ≡ last ∷ []
    on-last = on-kept c.unit last [] (same-unit last.unit c.unit (sym here))

    on-front : on c.unit (before ++ last ∷ []) ≡ on c.unit before ++ last ∷ []
    on-front = filter-append (λ (e : Entry). e.unit == c.unit) before (last ∷ []) ∙ ap (λ l. on c.unit before ++ l) on-last

    split : full.seen ++ full.later ≡ (on c.unit before ++ last ∷ []) ++ on c.unit rest
    split = full.begins ∙ ap (on c.unit) (sym whole) ∙ filter-append (λ (e : Entry). e.unit == c.unit) (before ++ last ∷ []) rest ∙ ap (λ l. l ++ on c.unit rest) on-front

    count : length (entries_by nexus full.seen) ≡ length (entries_by nexus (on c.unit before ++ last ∷ []))
    count = ap (λ (l : List Entry). length l)
        (full.own ∙ sym (by-on nexus c.unit (before ++ last ∷ [])) ∙ ap (entries_by nexus) on-front)

    cover : Covers nexus (on c.unit before ++ last ∷ []) full.seen
    cover = covers nexus (on c.unit before) last full.seen full.later (on c.unit rest) own split count

    same-on : on c.unit (before ++ last ∷ cover.others) ≡ on c.unit full.seen
    same-on =
        filter-append (λ (e : Entry). e.unit == c.unit) before (last ∷ cover.others)
        ∙ ap (λ l. l ++ on c.unit (last ∷ cover.others)) (sym (on-twice c.unit before))
        ∙ sym (filter-append (λ (e : Entry). e.unit == c.unit) (on c.unit before) (last ∷ cover.others))
        ∙ ap (on c.unit) (sym (append_assoc (on c.unit before) (last ∷ []) cover.others) ∙ cover.all)

    same-past : past_of config c.unit (before ++ last ∷ cover.others) ≡ past_of config c.unit full.seen
    same-past = sym (past_of-on config c.unit (before ++ last ∷ cover.others)) ∙ ap (past_of config c.unit) same-on ∙ past_of-on config c.unit full.seen

    served : is_some (would_serve (past_of config c.unit full.seen) (Actor.Nexus nexus) c.act) ≡ true
    served = subst (λ a. is_some (would_serve (past_of config c.unit full.seen) (Actor.Nexus nexus) a) ≡ true) (sym asks)
        (subst (λ p. is_some (would_serve p (Actor.Nexus nexus) act) ≡ true) same-past
        (subst (λ u. is_some (would_serve (past_of config u (before ++ last ∷ cover.others)) (Actor.Nexus nexus) act) ≡ true) (sym here) (serves cover.others cover.none)))
