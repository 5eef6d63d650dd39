-- A generated trace ends between two items, or at one that does not fit
use Rattle.std.proofs.Common.{◌≡◌, ℕ, zero, suc, ◌+◌, ◌≤◌, List, [], ◌∷◌, ◌++◌, length, drop, flat_map, All, Bool, true, false, if◌then◌else◌, refl, sym, ap, ◌∙◌, subst, arith, drop_at}
use Rattle.cm_base.specs.Configuration.{Configuration}
use Rattle.cm_frame.specs.Grammar.{header_bytes, item_bytes, IsItem}
use Rattle.cm_frame.specs.Reading.{read_item}
use Rattle.cm_frame.specs.Laws.{IsReadBack}
use Rattle.cmd_program.specs.Stepping.{Stepping}
use Rattle.generator.specs.Settings.{settings}
use Rattle.generator.specs.Generated.{items, generated}
use Rattle.generator.specs.WellFormed.{HeaderIsRead, ItemsFit, TwelveEach, header_length}
use Rattle.trace_replay.specs.Items.{Ending, Done, Torn, BadHeader, BadRecord, Records, Placed, trace_of, items_limit}
use Rattle.trace_replay.specs.ReplayState.{ReplayState, Shortage, at_first, after_item, item_fits}
use Rattle.trace_replay.specs.Played.{Played, play, played, played_after, shortage_for, shortages_behind}
use Rattle.round_counts.proofs.PublicLaws.{items-end}

-- between two items, or at one that does not fit
abbrev pub EndsWell : Ending → Type 0
EndsWell Done = Unit {0}
EndsWell (BadRecord place) = Unit {0}
EndsWell (Torn place) = ⊥
EndsWell (BadHeader place) = ⊥
EndsWell Records = ⊥

either : {A : Type 0} (P : A → Type 0) (b : Bool) (x y : A) → P x → P y → P (if b then x else y)
either {A} P true x y p q = p
either {A} P false x y p q = q

play-ends : (step : Stepping) (config : Configuration) (s : ReplayState) (xs : List Placed) (ending : Ending) (shortages : List Shortage)
    → EndsWell ending → EndsWell (play step config s xs ending shortages).ending
play-ends step config s [] ending shortages well = well
play-ends step config s (x ∷ xs) ending shortages well =
    either (λ (p : Played). EndsWell p.ending) (item_fits config s x.item)
    (play step config (after_item step config s x.item (shortage_for x.item shortages)) xs ending (shortages_behind x.item shortages))
    (record { state = s; ending = BadRecord x.place })
    (play-ends step config (after_item step config s x.item (shortage_for x.item shortages)) xs ending (shortages_behind x.item shortages) well) tt

pub generated-ends : (step : Stepping) → IsReadBack IsItem item_bytes read_item → HeaderIsRead → ItemsFit → TwelveEach
    → (rounds : ℕ) → rounds ≤ 4096 → (shortages : List Shortage) → EndsWell (played step (generated rounds) shortages).ending
generated-ends step back header fit twelve rounds few shortages =
    let body = flat_map item_bytes (items rounds) in
    let bytes = generated rounds in
    let behind : drop header_length bytes ≡ body = drop_at (header_bytes settings) body header_length refl in
    let done : (trace_of items_limit header_length (drop header_length bytes)).ending ≡ Done =
    ap (λ l. (trace_of items_limit header_length l).ending) behind
    ∙ items-end back (items rounds) items_limit header_length (fit rounds (omega (arith, few))) (omega (arith, twelve rounds, few)) in
    subst (λ p. EndsWell (played_after step p bytes shortages).ending) (sym (header body))
    (play-ends step settings at_first (trace_of items_limit header_length (drop header_length bytes)).items
    (trace_of items_limit header_length (drop header_length bytes)).ending shortages (subst EndsWell (sym done) tt))
