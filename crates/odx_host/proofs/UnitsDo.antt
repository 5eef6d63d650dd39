-- One more act of a port's units
use Rattle.std.proofs.Common.{◌≡◌, ℕ, ◌+◌, ◌-◌, ◌^◌, ◌<◌, List, [], ◌∷◌, ◌++◌, length, refl, ap, sym, ◌∙◌, subst, arith, true, false, Bool, append-nil, append_assoc, slice_set, slice_get}
use Rattle.std.specs.Prelude.{cond, ◌==◌, is_some, Some, map, filter, max, slice_index_or}
use Rattle.std.proofs.lemmas.List.{length-map, get_or_read}
use Rattle.std.proofs.lemmas.List.Elements.{filter-append}
use Rattle.std.proofs.lemmas.Option.{slice_get_read}
use Rattle.cm_base.specs.Configuration.{Configuration}
use Rattle.cm_base.specs.Units.{unit_of}
use Rattle.cm_history.specs.declared.act.Act.{Act}
use Rattle.cm_history.specs.declared.act.Actor.{Actor}
use Rattle.cm_history.specs.declared.act.Entry.{Entry}
use Rattle.cm_history.specs.declared.answer.Answer.{Answer}
use Rattle.cm_history.specs.Answers.{answer_after}
use Rattle.cm_history.specs.Deeds.{last_stamp, same_actor}
use Rattle.cm_history.specs.Operations.{would_serve}
use Rattle.cm_history.specs.Forms.{HasForm}
use Rattle.cm_history.specs.History.{on, past_of, answer}
use Rattle.cm_history.specs.Legal.{may_ask}
use Rattle.cm_history.specs.Limits.{within_limits}
use Rattle.cm_history.specs.Room.{is_full}
use Rattle.cm_history.proofs.PublicLaws.{past_of-on}
use Rattle.cmd_program.specs.declared.step.Outcome.{Outcome}
use Rattle.cmd_program.specs.Conversations.{IsFullBy, last_stamp_of}
use Rattle.cmd_program.specs.InHistory.{entries_by, is_by, IsNext}
use Rattle.cmd_program.specs.Meaning.{IsAskedOf}
use Rattle.unit_core.specs.UnitState.{UnitState}
use Rattle.unit_core.specs.Acting as whole
use Rattle.unit_core.specs.Unfolded.{IsUnfolded, UnfoldedUnit, unfolded, past, is_full_at}
use Rattle.unit_core.proofs.PublicLaws.{unfolded-entry, unfolded-full, unfolded-grown}
use Rattle.session.proofs.PublicLaws.{set-same, shown-at, shown-set}
use Rattle.odx_host.specs.Worlds.{MayFold}
use Rattle.odx_host.specs.Units.{host, UnitsAt, seq, AreAfter}
use Rattle.odx_host.specs.inner.Acting.{call, Stand, HasGoneOn}
use Rattle.odx_host.proofs.UnitsOn.{after-nexus, after-pump, pump-later}

-- the unit that a look-up by index found
pub unit-found : (config : Configuration) (h : List Entry) (s : UnitsAt) (items : List UnitState) (u place : ℕ) (x : UnitState) → AreAfter config h s → s.units ≡ map unfolded items
    → u < length config.units → place ≡ u → x ≡ slice_index_or items place x → slice_get items u ≡ Some x
unit-found config h s items u place x after shown within is found =
    let count : length items ≡ length config.units = sym (length-map items unfolded) ∙ sym (ap length shown) ∙ after.count in
    slice_get_read items (length items) u x refl (omega (arith, count, within)) (found ∙ ap (λ i. slice_index_or items i x) is)

-- the entries of one unit, and those of one nexus
by-on : (n u : ℕ) (h : List Entry) → entries_by n (on u h) ≡ on u (entries_by n h)
by-on n u [] = refl
by-on n u (e ∷ es) = go (e.unit == u) refl (is_by n e) refl (by-on n u es)
  where
    go : (a : Bool) → (e.unit == u) ≡ a → (b : Bool) → is_by n e ≡ b → entries_by n (on u es) ≡ on u (entries_by n es)
        → filter (is_by n) (cond a (e ∷ on u es) (on u es)) ≡ filter (λ (x : Entry). x.unit == u) (cond b (e ∷ entries_by n es) (entries_by n es))
    go true p true q ih = rw (p, q) (ap (λ l. e ∷ l) ih)
    go true p false q ih = rw q ih
    go false p true q ih = rw p ih
    go false p false q ih = ih

module _ (config : Configuration) (h : List Entry) (s : UnitsAt) (items : List UnitState) (u : ℕ) (x : UnitState) (actor : Actor) (act : Act)
    (after : AreAfter config h s) (shown : s.units ≡ map unfolded items) (at : slice_get items u ≡ Some x) (own : IsUnfolded x) where
  there : slice_get s.units u ≡ Some (unfolded x)
  there = ap (λ l. slice_get l u) shown ∙ shown-at items u x at

  its : unfolded x ≡ record { config = config; unit = u; entries = on u h }
  its = after.each u (unfolded x) there

  past-is : past (unfolded x) ≡ past_of config u h
  past-is = ap past its ∙ past_of-on config u h

  pub limits-of : within_limits config u act ≡ true → within_limits x.config x.unit act ≡ true
  limits-of e = subst (λ (v : UnfoldedUnit). within_limits v.config v.unit act ≡ true) (sym its) e

  pub asked-of : may_ask u actor act ≡ true → may_ask x.unit actor act ≡ true
  asked-of e = subst (λ (v : UnfoldedUnit). may_ask v.unit actor act ≡ true) (sym its) e

  pub form-of : (found : Answer) → HasForm x.config x.unit act found → HasForm config u act found
  form-of found has = subst (λ (v : UnfoldedUnit). HasForm v.config v.unit act found) its has

  full-of : (stamp : ℕ) → whole.is_full_at x x.kept actor stamp act ≡ is_full (unit_of config u) 0 (past_of config u h) actor stamp act
  full-of stamp =
      unfolded-full x actor stamp act own ∙ ap (λ v. is_full_at v actor stamp act) its
      ∙ ap (λ p. is_full (unit_of config u) 0 p actor stamp act) (past_of-on config u h)

  answer-of : (moment : ℕ) (found : Answer) → found ≡ answer x.config x.kept x.unit actor moment act → found ≡ answer config h u actor moment act
  answer-of moment found is =
      is ∙ ap (λ (v : UnfoldedUnit). answer v.config v.entries v.unit actor moment act) its
      ∙ ap (λ p. answer_after config u p actor moment act) (past_of-on config u h)

  abbrev entry : ℕ → ℕ → Entry
  entry n stamp = record { stamp = max stamp (last_stamp (past_of config u h)) + 1; unit = u; actor = actor; seq = n; moment = 0; act = act }

  entry-is : (n stamp : ℕ) → whole.entry_at x actor n stamp 0 act ≡ entry n stamp
  entry-is n stamp =
      unfolded-entry x actor n stamp 0 act own
      ∙ ap (λ k. record { stamp = max stamp k + 1; unit = x.unit; actor = actor; seq = n; moment = 0; act = act }) (ap last_stamp past-is)
      ∙ ap (λ k. record { stamp = max stamp (last_stamp (past_of config u h)) + 1; unit = k; actor = actor; seq = n; moment = 0; act = act }) (ap (λ (v : UnfoldedUnit). v.unit) its)

  -- the unit with one more entry
  grown : (n stamp : ℕ) (y : UnitState) → y.config ≡ x.config → y.unit ≡ x.unit → y.kept ≡ x.kept ++ whole.entry_at x actor n stamp 0 act ∷ []
      → unfolded y ≡ record (unfolded x) { entries = x.kept ++ entry n stamp ∷ [] }
  grown n stamp y told number kept =
      unfolded-grown x y (whole.entry_at x actor n stamp 0 act) told number kept
      ∙ ap (λ e. record (unfolded x) { entries = x.kept ++ e ∷ [] }) (entry-is n stamp)

  list-of : (n stamp place : ℕ) (y : UnitState) → place ≡ u → y.config ≡ x.config → y.unit ≡ x.unit → y.kept ≡ x.kept ++ whole.entry_at x actor n stamp 0 act ∷ []
      → map unfolded (slice_set items place y) ≡ slice_set s.units u (record (unfolded x) { entries = x.kept ++ entry n stamp ∷ [] })
  list-of n stamp place y is told number kept =
      ap (λ i. map unfolded (slice_set items i y)) is ∙ shown-set items u y ∙ ap (λ l. slice_set l u (unfolded y)) (sym shown)
      ∙ ap (slice_set s.units u) (grown n stamp y told number kept)

  -- nothing was done
  pub same-list : (place : ℕ) (y : UnitState) → place ≡ u → y ≡ x → map unfolded (slice_set items place y) ≡ s.units
  same-list place y is same =
      ap (λ i. map unfolded (slice_set items i y)) is ∙ ap (λ z. map unfolded (slice_set items u z)) same ∙ ap (map unfolded) (set-same items u x at) ∙ sym shown

  -- where it serves an operation, no stamp is left
  serving-by : actor ≡ Actor.Nexus host → (whole.serves_operation x x.kept actor act ≡ true → max s.stamp x.image.last_stamp ≡ 2 ^ 64 - 1)
      → x.image.last_stamp ≡ last_stamp (whole.past x x.kept) → is_some (would_serve (past_of config u (on u h)) (Actor.Nexus host) act) ≡ true
      → max (last_stamp_of (entries_by host h)) (last_stamp (past_of config u (on u h))) ≡ 2 ^ 64 - 1
  serving-by by serves shown serving =
      ap (λ n. max n (last_stamp (past_of config u (on u h)))) (sym after.stamp)
      ∙ ap (max s.stamp) (sym (shown ∙ ap last_stamp (past-is ∙ sym (past_of-on config u h))))
      ∙ serves (subst (λ a. is_some (would_serve (past (unfolded x)) a act) ≡ true) (sym by)
      (subst (λ p. is_some (would_serve p (Actor.Nexus host) act) ≡ true) (past_of-on config u h ∙ sym past-is) serving))

  pub full-by : actor ≡ Actor.Nexus host → whole.is_full_at x x.kept actor s.stamp act ≡ true
      → (whole.serves_operation x x.kept actor act ≡ true → max s.stamp x.image.last_stamp ≡ 2 ^ 64 - 1) → x.image.last_stamp ≡ last_stamp (whole.past x x.kept)
      → IsFullBy config MayFold h host (entries_by host h) (call u act Outcome.Full)
  full-by by full serves last = record {
    seen = on u h;
    later = [];
    begins = append-nil (on u h);
    own = by-on host u h;
    folded = 0;
    folds = omega arith;
    full =
        subst (λ a. is_full (unit_of config u) 0 (past_of config u (on u h)) a (last_stamp_of (entries_by host h)) act ≡ true) by
        (ap (λ p. is_full (unit_of config u) 0 p actor (last_stamp_of (entries_by host h)) act) (past_of-on config u h)
        ∙ ap (λ n. is_full (unit_of config u) 0 (past_of config u h) actor n act) (sym after.stamp) ∙ sym (full-of s.stamp) ∙ full);
    serving = serving-by by serves last;
  }

  pub next-of : actor ≡ Actor.Nexus host → (stamp n : ℕ) (found : Answer) → found ≡ answer x.config x.kept x.unit actor 0 act
      → IsNext config host h [] (entry n stamp) u act found
  next-of by stamp n found is = record {
    not_own = refl;
    actor = by;
    on_unit = refl;
    asks = refl;
    answered =
        answer-of 0 found is ∙ ap (λ a. answer config h u a 0 act) by
        ∙ ap (λ l. answer config l u (Actor.Nexus host) 0 act) (sym (append-nil h));
  }

  -- the nexus did it
  pub did-nexus : (v : UnitsAt) (place : ℕ) (y : UnitState) → actor ≡ Actor.Nexus host → IsAskedOf config u act → place ≡ u → y.config ≡ x.config → y.unit ≡ x.unit
      → y.kept ≡ x.kept ++ whole.entry_at x actor s.asked s.stamp 0 act ∷ [] → v.units ≡ map unfolded (slice_set items place y)
      → v.stamp ≡ max s.stamp (last_stamp (past_of config u h)) + 1 → v.asked ≡ s.asked + 1 → v.pumped ≡ s.pumped → AreAfter config (h ++ entry s.asked s.stamp ∷ []) v
  did-nexus v place y by may is told number kept list stamp asked pumped =
      after-nexus config h s v (entry s.asked s.stamp) (unfolded x) after
      (record {
        configured = may.configured;
        limits = may.limits;
        asked = subst (λ a. may_ask u a act ≡ true) (sym by) (may.asked host);
        late = omega arith;
        later = λ i d low same.
            let e = slice_index_or h i d in
            let mine : same_actor e.actor (Actor.Nexus host) ≡ true = subst (λ a. same_actor e.actor a ≡ true) by same in
            let had = after.own i d low mine in
            omega (arith, had);
        counted = after.asked ∙ ap (λ a. seq a h) (sym by);
        moment = refl;
      })
      there (list ∙ list-of s.asked s.stamp place y is told number kept) by (omega arith) stamp asked pumped

  -- the unit's pump did it
  pub did-pump : (v : UnitsAt) (n stamp place : ℕ) (y : UnitState) → actor ≡ Actor.Pump u → u < length config.units → within_limits config u act ≡ true → may_ask u actor act ≡ true
      → n ≡ seq (Actor.Pump u) h → place ≡ u → y.config ≡ x.config → y.unit ≡ x.unit
      → y.kept ≡ x.kept ++ whole.entry_at x actor n stamp 0 act ∷ [] → v.units ≡ map unfolded (slice_set items place y)
      → v.stamp ≡ s.stamp → v.asked ≡ s.asked → v.pumped ≡ slice_set s.pumped u (n + 1) → AreAfter config (h ++ entry n stamp ∷ []) v
  did-pump v n stamp place y by configured limits may right is told number kept list same_stamp asked pumped =
      after-pump config h s v (entry n stamp) (unfolded x) after
      (record {
        configured = configured;
        limits = limits;
        asked = may;
        late = omega arith;
        later = pump-later config h s (entry n stamp) after by (omega arith);
        counted = right ∙ ap (λ a. seq a h) (sym by);
        moment = refl;
      })
      there (list ∙ list-of n stamp place y is told number kept) by same_stamp asked pumped

  -- where there is room a stamp is left
  pub left-of : (stamp : ℕ) → whole.is_full_at x x.kept actor stamp act ≡ false → is_full_at (unfolded x) actor stamp act ≡ false
  left-of stamp room = sym (unfolded-full x actor stamp act own) ∙ room

  pub last-of : (n : ℕ) → n ≡ last_stamp (whole.past x x.kept) → n ≡ last_stamp (past_of config u h)
  last-of n is = is ∙ ap last_stamp past-is

-- how many entries a unit's pump made, as a look-up by index found it
pub pump-found : (config : Configuration) (h : List Entry) (s : UnitsAt) (u place n : ℕ) → AreAfter config h s → u < length config.units → place ≡ u
    → n ≡ slice_index_or s.pumped place n → n ≡ seq (Actor.Pump u) h
pump-found config h s u place n after within is found =
    let here : u < length s.pumped = omega (arith, within, after.pumps) in
    get_or_read s.pumped u n here (found ∙ ap (λ i. slice_index_or s.pumped i n) is) 0 ∙ after.pumped u within

-- ---- others that act

-- nobody acted
pub gone-none : (config : Configuration) (h : List Entry) (s : UnitsAt) → AreAfter config h s → HasGoneOn config h s
gone-none config h s after = record { others = []; apart = refl; after = subst (λ l. AreAfter config l s) (sym (append-nil h)) after }

pub gone-on : (config : Configuration) (h : List Entry) (s v : UnitsAt) → HasGoneOn config h s → ((more : List Entry) → AreAfter config more s → HasGoneOn config more v)
    → HasGoneOn config h v
gone-on config h s v first later =
    let l = later (h ++ first.others) first.after in
    record {
      others = first.others ++ l.others;
      apart = filter-append (is_by host) first.others l.others ∙ ap (λ x. x ++ entries_by host l.others) first.apart ∙ l.apart;
      after = subst (λ x. AreAfter config x v) (append_assoc h first.others l.others) l.after;
    }

pub stand-on : (config : Configuration) (s v : UnitsAt) → Stand config s → ((h : List Entry) → AreAfter config h s → HasGoneOn config h v) → Stand config v
stand-on config s v stand goes = let g = goes stand.history stand.after in record { history = stand.history ++ g.others; after = g.after }

-- the unit's pump made an entry
pub gone-pump : (config : Configuration) (h : List Entry) (v : UnitsAt) (e : Entry) → e.actor ≡ Actor.Pump e.unit → AreAfter config (h ++ e ∷ []) v → HasGoneOn config h v
gone-pump config h v e by after = record {
  others = e ∷ [];
  apart = let no : is_by host e ≡ false = ap (λ a. same_actor a (Actor.Nexus host)) by in rw no refl;
  after = after;
}
