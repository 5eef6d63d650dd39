-- The deeds that may follow a past
use Rattle.std.proofs.Common.{◌≡◌, ℕ, zero, suc, ◌≤◌, ◌^◌, List, [], ◌∷◌, ◌++◌, length, take, refl, ap, sym, ◌∙◌, subst, true, false, Bool, arith}
use Rattle.std.specs.Prelude.{◌==◌, ◌&&◌, not, map, IsTrue, nat_le, if◌then◌else◌}
use Rattle.std.proofs.lemmas.Bool.Decides.{nat_tests}
use Rattle.cm_base.specs.Configuration.{Configuration}
use Rattle.cm_base.specs.Units.{unit_of}
use Rattle.lba_ranges.specs.declared.ranges.Range.{Range}
use Rattle.lba_ranges.specs.Denoted.{total, is_within, is_overlapping}
use Rattle.lba_ranges.proofs.PublicLaws.{within-more}
use Rattle.cm_history.specs.declared.act.Act.{Act}
use Rattle.cm_history.specs.declared.act.Actor.{Actor}
use Rattle.cm_history.specs.declared.act.Entry.{Entry}
use Rattle.cm_history.specs.declared.answer.Answer.{Answer}
use Rattle.cm_history.specs.declared.answer.OpState.{OpState}
use Rattle.cm_history.specs.Deeds.{Deed, is_refusal, is_answered}
use Rattle.cm_history.specs.Limits.{within_limits, fits_unit}
use Rattle.scsi_sense.specs.Codes.{operation_in_progress, lba_out_of_range, insufficient_resources}
use Rattle.cm_history.specs.Tokens.{tokens}
use Rattle.cm_history.specs.Operations.{Operation, OfToken, operations, operation_after, made_operation, makes_operation, is_making, kept, list_of, written}
use Rattle.cm_history.specs.Reserving.{reservations, bars_act}
use Rattle.cm_history.specs.Answers.{answer_after, deed, is_busy, is_crowded}
use Rattle.plain_model.specs.inner.Holds.{MadeSound, IsSoundAct, IsSoundOperation, AllSound, MayFollow}
use Rattle.plain_model.specs.inner.Fitting.{Fits, AllFit}
use Rattle.cm_history.proofs.PublicLaws.{free-answered, In-map, Each, Each-in, Each-by, Each-map, Each-append, IsPast, IsBegun, begun, made-after, kept_in, and_first, and_second, populate-few as few-populated}

numbers-within : (blocks : ℕ) (ranges : List Range) → blocks ≤ 2 ^ 64 → is_within blocks ranges ≡ true → IsTrue (is_within (2 ^ 64) ranges)
numbers-within blocks ranges few inside = let far : is_within (2 ^ 64) ranges ≡ true = within-more blocks (2 ^ 64) ranges few inside in far

-- the act of a deed that was not refused
sound-act : (config : Configuration) (unit : ℕ) (past : List Deed) (actor : Actor) (now : ℕ) (act : Act) → (unit_of config unit).blocks ≤ 2 ^ 64 → within_limits config unit act ≡ true
    → not (is_refusal (answer_after config unit past actor now act)) ≡ true → IsSoundAct act
sound-act config unit past actor now (Act.Populate id timeout ranges) few limits answered = few-populated config unit id timeout ranges limits
sound-act config unit past actor now (Act.Start id background ranges rod) few limits answered =
    let short : nat_le (length rod.items) 1_048_576 ≡ true = and_second (not (is_overlapping ranges) && (total ranges == length rod.items)) _ (and_first _ (fits_unit config unit rod) limits) in
    let small : length rod.items ≤ 1_048_576 = grind (arith, nat_tests) in (
      small,
      numbers-within _ ranges few (go (is_busy past actor OfToken id) (is_within (unit_of config unit).blocks ranges)
          (free-answered (bars_act (reservations past) actor (Act.Start id background ranges rod)) _ answered)),
    )
  where
    last : Answer
    last = if is_crowded past then Answer.Refused insufficient_resources else Answer.Progress (if length rod.items == 0 then OpState.Done else OpState.Running) 0

    go : (a b : Bool) → not (is_refusal (if a then Answer.Refused operation_in_progress else if not b then Answer.Refused lba_out_of_range else last)) ≡ true → b ≡ true
    go true b h = cc
    go false true h = refl
    go false false h = cc
sound-act config unit past actor now _ few limits answered = tt

-- the token of a deed
made-sound : (config : Configuration) (unit : ℕ) (past : List Deed) (actor : Actor) (now : ℕ) (d : Deed) (act : Act) → (unit_of config unit).blocks ≤ 2 ^ 64 → within_limits config unit act ≡ true
    → is_answered d ≡ not (is_refusal (answer_after config unit past actor now act)) → MadeSound d (length (tokens past)) act
made-sound config unit past actor now d (Act.Populate id timeout ranges) few limits same = λ answered.
    let told = free-answered (bars_act (reservations past) actor (Act.Populate id timeout ranges)) _ (sym same ∙ answered) in
    let inside = go (is_busy past actor OfToken id) (is_within (unit_of config unit).blocks ranges) (nat_le (2 ^ 48) (length (tokens past))) told in
    let room : nat_le (2 ^ 48) (length (tokens past)) ≡ false = inside.1 in
    record { low = grind (arith, nat_tests); few = few-populated config unit id timeout ranges limits; numbers = numbers-within _ ranges few inside.0 }
  where
    go : (a b c : Bool) → not (is_refusal (if a then Answer.Refused operation_in_progress else if not b then Answer.Refused lba_out_of_range else if c then Answer.Refused insufficient_resources else Answer.Made (length (tokens past)))) ≡ true
        → (b ≡ true) × (c ≡ false)
    go true b c h = absurd cc
    go false false c h = absurd cc
    go false true true h = absurd cc
    go false true false h = (refl, refl)
made-sound config unit past actor now d _ few limits same = tt

-- ---- all operations of a past

makers-sound : (config : Configuration) (unit : ℕ) (past : List Deed) → (unit_of config unit).blocks ≤ 2 ^ 64 → IsPast config unit past → AllFit config unit past
    → Each (λ (o : Operation). IsSoundAct o.made.entry.act) (operations past)
makers-sound config unit [] few is all = tt
makers-sound config unit (d ∷ past) few is all =
    Each-append _ (map (operation_after d) (operations past)) _
    (Each-map _ (operation_after d) (operations past)
    (Each-by _ (operations past) (λ o i. subst (λ (m : Deed). IsSoundAct m.entry.act) (sym (made-after d o)) (Each-in _ (operations past) o (makers-sound config unit past few is.1 all.1) i))))
    (new (makes_operation d) refl)
  where
    new : (t : Bool) → makes_operation d ≡ t → Each (λ (o : Operation). IsSoundAct o.made.entry.act) (if t then made_operation d ∷ [] else [])
    new true e = (sound-act config unit past d.entry.actor d.entry.moment d.entry.act few all.0.limits (sym (ap is_answered is.0) ∙ and_second (is_making d.entry.act) (is_answered d) e), tt)
    new false e = tt

length-first : {X : Type 0} (n : ℕ) (xs : List X) → length (take n xs) ≤ length xs
length-first zero xs = omega arith
length-first (suc n) [] = omega arith
length-first (suc n) (x ∷ xs) = let h = length-first n xs in omega arith

sound-operations : (config : Configuration) (unit : ℕ) (past : List Deed) → (unit_of config unit).blocks ≤ 2 ^ 64 → IsPast config unit past → AllFit config unit past
    → Each IsSoundOperation (operations past)
sound-operations config unit past few is all =
    Each-by IsSoundOperation (operations past) (λ o i.
    let first : IsBegun o = Each-in IsBegun (operations past) o (begun config unit past is) i in
    let short = length-first (length (written o)) (list_of o.made.entry.act) in
    record {
      act = Each-in _ (operations past) o (makers-sound config unit past few is all) i;
      begun = subst (λ n. n ≤ length (list_of o.made.entry.act)) (sym (ap length first)) short;
    })

-- ---- one more deed

Each-front : {X : Type 0} (P : X → Type 0) (xs ys : List X) → Each P (xs ++ ys) → Each P xs
Each-front P [] ys all = tt
Each-front P (x ∷ xs) ys all = (all.0, Each-front P xs ys all.1)

Each-back : {X : Type 0} (P : X → Type 0) (xs ys : List X) → Each P (xs ++ ys) → Each P ys
Each-back P [] ys all = all
Each-back P (x ∷ xs) ys all = Each-back P xs ys all.1

all-sound : (os : List Operation) → Each IsSoundOperation os → AllSound os
all-sound [] all = tt
all-sound (o ∷ os) all = (all.0, all-sound os all.1)

pub may-follow : (config : Configuration) (unit : ℕ) (past : List Deed) (e : Entry) → (unit_of config unit).blocks ≤ 2 ^ 64 → IsPast config unit past → AllFit config unit past
    → Fits config unit e.act → MayFollow past (deed config unit past e)
may-follow config unit past e few is all fits = record {
  token = made-sound config unit past e.actor e.moment d e.act few fits.limits refl;
  served = all-sound (map (operation_after d) (operations past)) front;
  recorded = all-sound (map (operation_after d) (kept past))
      (Each-map IsSoundOperation (operation_after d) (kept past) (Each-by _ (kept past) (λ o i.
      Each-in IsSoundOperation (map (operation_after d) (operations past)) (operation_after d o) front (In-map (operation_after d) (operations past) o (kept_in config unit past o is i)))));
  made = λ makes. (subst (λ (t : Bool). Each IsSoundOperation (if t then made_operation d ∷ [] else [])) makes (Each-back IsSoundOperation (map (operation_after d) (operations past)) _ whole)).0;
}
  where
    d : Deed
    d = deed config unit past e

    whole : Each IsSoundOperation (operations (d ∷ past))
    whole = sound-operations config unit (d ∷ past) few (refl, is) (fits, all)

    front : Each IsSoundOperation (map (operation_after d) (operations past))
    front = Each-front IsSoundOperation (map (operation_after d) (operations past)) _ whole
