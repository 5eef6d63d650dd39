-- What holds of the history of a played trace
use Rattle.std.proofs.Common.{◌≡◌, ◌∙◌, ℕ, suc, ◌+◌, ◌-◌, ◌^◌, ◌<◌, ◌≤◌, List, [], ◌∷◌, ◌++◌, length, refl, ap, sym, subst, arith, true, false, Bool, append-nil, append_assoc, length-append, inl, inr}
use Rattle.std.specs.Prelude.{All, ◌⊎◌, ◌==◌, max, is_some, if◌then◌else◌}
use Rattle.std.proofs.lemmas.Bool.{cases_eq}
use Rattle.cm_base.specs.Configuration.{Configuration}
use Rattle.cm_base.specs.Units.{unit_of}
use Rattle.cm_history.specs.declared.act.Act.{Act}
use Rattle.cm_history.specs.declared.act.Actor.{Actor}
use Rattle.cm_history.specs.declared.act.Entry.{Entry}
use Rattle.cm_history.specs.Asked.{IsAsked, AllAsked}
use Rattle.cm_history.specs.Deeds.{Deed, last_stamp}
use Rattle.cm_history.specs.Answers.{deed}
use Rattle.cm_history.specs.History.{past_of}
use Rattle.cm_history.specs.Legal.{IsLegal, may_ask}
use Rattle.cm_history.specs.Limits.{within_limits}
use Rattle.cm_history.specs.Operations.{would_serve}
use Rattle.cm_history.proofs.PublicLaws.{past_of-mine, past_of-other}
use Rattle.unit_core.specs.Serving.{HadRoom, AllHadRoom}
use Rattle.unit_core.proofs.PublicLaws.{serving}
use Rattle.cmd_program.specs.InHistory.{Lacking, entries_by}
use Rattle.cmd_program.specs.WriteEnds.{ServesInVain}
use Rattle.trace_replay.specs.ReplayState.{Shortage, Nowhere, AtBegin, AtAct, AtStep, new_entry, has_no_room, entries_after, entries_at}
use Rattle.trace_replay.proofs.Legally.{legal-none, legal-more, low-more}
use Rattle.trace_replay.proofs.UnitActs.{stamps-more}

-- it is legal, its stamps are 1, 2, 3, and each entry had room
pub record Sound (config : Configuration) (entries : List Entry) : Type 0 where
  pub legal : IsLegal config entries
  pub low : All (λ (e : Entry). e.stamp ≤ length entries) entries
  pub latest : (unit : ℕ) → last_stamp (past_of config unit entries) ≤ length entries
  pub asked : (unit : ℕ) → AllAsked config unit (past_of config unit entries)
  pub room : (unit : ℕ) → AllHadRoom config unit 0 (past_of config unit entries)

pub sound-none : (config : Configuration) → Sound config []
sound-none config = record {
  legal = legal-none config;
  low = λ i d h. absurd (omega (arith, h));
  latest = λ unit. omega arith;
  asked = λ unit. tt;
  room = λ unit. tt;
}

module _ (config : Configuration) (entries : List Entry) (actor : Actor) (u moment : ℕ) (act : Act) (s : Sound config entries)
    (configured : u < length config.units) (limits : within_limits config u act ≡ true) (may : may_ask u actor act ≡ true) where
  e : Entry
  e = new_entry entries actor u moment act

  asked-more : (unit : ℕ) → AllAsked config unit (past_of config unit (entries ++ new_entry entries actor u moment act ∷ []))
  asked-more unit = go (cases_eq u unit)
    where
      go : (u ≡ unit) ⊎ (u ≡ unit → ⊥) → AllAsked config unit (past_of config unit (entries ++ new_entry entries actor u moment act ∷ []))
      go (inl here) = subst (AllAsked config unit) (sym (past_of-mine config unit entries (new_entry entries actor u moment act) here))
          (record { limits = subst (λ n. within_limits config n act ≡ true) here limits; asked = subst (λ n. may_ask n actor act ≡ true) here may }, s.asked unit)
      go (inr there) = subst (AllAsked config unit) (sym (past_of-other config unit entries (new_entry entries actor u moment act) there)) (s.asked unit)

  room-more : has_no_room config entries actor u act ≡ false → (unit : ℕ) → AllHadRoom config unit 0 (past_of config unit (entries ++ new_entry entries actor u moment act ∷ []))
  room-more had unit = go (cases_eq u unit)
    where
      go : (u ≡ unit) ⊎ (u ≡ unit → ⊥) → AllHadRoom config unit 0 (past_of config unit (entries ++ new_entry entries actor u moment act ∷ []))
      go (inl here) = subst (AllHadRoom config unit 0) (sym (past_of-mine config unit entries (new_entry entries actor u moment act) here))
          (record { stamp = length entries; out = 0; no_more = omega arith; room = subst (λ n. has_no_room config entries actor n act ≡ false) here had }, s.room unit)
      go (inr there) = subst (AllHadRoom config unit 0) (sym (past_of-other config unit entries (new_entry entries actor u moment act) there)) (s.room unit)

  sound-more : has_no_room config entries actor u act ≡ false → Sound config (entries ++ new_entry entries actor u moment act ∷ [])
  sound-more had = record {
    legal = legal-more config entries actor u moment act s.low s.legal configured limits may;
    low = low-more config entries actor u moment act s.low;
    latest = λ unit. stamps-more config entries (new_entry entries actor u moment act) unit (omega arith) (s.latest unit);
    asked = asked-more;
    room = room-more had;
  }

  -- behind an act, with or without room
  pub sound-after : Sound config (entries_after config entries actor u moment act)
  sound-after = go (has_no_room config entries actor u act) refl
    where
      go : (t : Bool) → has_no_room config entries actor u act ≡ t → Sound config (if t then entries else entries ++ new_entry entries actor u moment act ∷ [])
      go true is = s
      go false is = sound-more is

  -- wherever memory is refused
  pub sound-at : (shortage : Shortage) → Sound config (entries_at shortage entries (entries_after config entries actor u moment act))
  sound-at Nowhere = sound-after
  sound-at AtBegin = sound-after
  sound-at AtAct = s
  sound-at AtStep = sound-after

-- how many entries there are behind an act
pub few-after : (config : Configuration) (entries : List Entry) (actor : Actor) (u moment : ℕ) (act : Act) (left : ℕ) → length entries + suc left ≤ 16_777_216
    → length (entries_after config entries actor u moment act) + left ≤ 16_777_216
few-after config entries actor u moment act left few = go (has_no_room config entries actor u act)
  where
    go : (t : Bool) → length (if t then entries else entries ++ new_entry entries actor u moment act ∷ []) + left ≤ 16_777_216
    go true = omega (arith, few)
    go false = let sum = length-append entries (new_entry entries actor u moment act ∷ []) in omega (arith, few, sum)

pub few-at : (config : Configuration) (entries : List Entry) (actor : Actor) (u moment : ℕ) (act : Act) (left : ℕ) (shortage : Shortage) → length entries + suc left ≤ 16_777_216
    → length (entries_at shortage entries (entries_after config entries actor u moment act)) + left ≤ 16_777_216
few-at config entries actor u moment act left Nowhere few = few-after config entries actor u moment act left few
few-at config entries actor u moment act left AtBegin few = few-after config entries actor u moment act left few
few-at config entries actor u moment act left AtAct few = omega (arith, few)
few-at config entries actor u moment act left AtStep few = few-after config entries actor u moment act left few

-- ---- no act that serves is refused for room

-- an act of the nexus found no room, behind its last entry
pub record Lack (config : Configuration) (nexus : ℕ) (before : List Entry) (unit : ℕ) (act : Act) : Type 0 where
  pub others : List Entry
  pub none : entries_by nexus others ≡ []
  pub full : has_no_room config (before ++ others) (Actor.Nexus nexus) unit act ≡ true
  pub sound : Sound config (before ++ others)
  pub few : length (before ++ others) ≤ 16_777_216

abbrev pub Lacks : Configuration → ℕ → Lacking
Lacks config nexus before unit act = Lack config nexus before unit act

pub never-in-vain : (config : Configuration) (nexus : ℕ) → ServesInVain config nexus (Lacks config nexus) → ⊥
never-in-vain config nexus v = last (max (length all) (last_stamp (past_of config v.last.unit all))) (bounded (length all) (last_stamp (past_of config v.last.unit all)) v.lacks.few (v.lacks.sound.latest v.last.unit)) at-last
  where
    all : List Entry
    all = v.before ++ v.last ∷ [] ++ v.lacks.others

    serves : is_some (would_serve (past_of config v.last.unit (v.before ++ v.last ∷ [] ++ v.lacks.others)) (Actor.Nexus nexus) (Act.Advance v.id)) ≡ true
    serves = subst (λ l. is_some (would_serve (past_of config v.last.unit l) (Actor.Nexus nexus) (Act.Advance v.id)) ≡ true)
        (sym (append_assoc v.before (v.last ∷ []) v.lacks.others)) (v.serves v.lacks.others v.lacks.none)

    at-last : max (length all) (last_stamp (past_of config v.last.unit all)) ≡ 2 ^ 64 - 1
    at-last = serving config v.last.unit all 0 (Actor.Nexus nexus) (length all) (Act.Advance v.id) (v.lacks.sound.asked v.last.unit) (v.lacks.sound.room v.last.unit) serves v.lacks.full

    bounded : (n m : ℕ) → n ≤ 16_777_216 → m ≤ n → max n m ≤ 16_777_216
    bounded n m few low = grind arith

    last : (n : ℕ) → n ≤ 16_777_216 → n ≡ 2 ^ 64 - 1 → ⊥
    last n few is = omega (arith, few, is)
