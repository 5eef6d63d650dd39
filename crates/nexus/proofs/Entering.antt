-- The root's seats take every unit's turn
use Rattle.std.proofs.Common.{◌<◌, ◌≡◌, ℕ, zero, suc, ◌+◌, List, [], ◌∷◌, ◌++◌, length, map, refl, ap, sym, ◌∙◌, subst, arith, true, false, Some, append-nil}
use Rattle.std.specs.Prelude.{slice_get, slice_set, slice_index_or}
use mathlib.Core.List.{IsPrefix}
use Rattle.cm_base.specs.Configuration.{Configuration}
use Rattle.cm_history.specs.declared.act.Entry.{Entry}
use Rattle.cm_history.proofs.PublicLaws.{Each}
use Rattle.merged_history.specs.Passes.{of_unit, AreFrom}
use Rattle.merged_history.specs.Own.{Rises}
use Rattle.merged_history.specs.PassRules.{AreLonger, IsHistory}
use Rattle.turn_gate.specs.Marks.{AtMost}
use Rattle.unit_gate.specs.declared.kin.UnitKin.{UnitKin}
use Rattle.unit_gate.specs.Recorded.{RecordedState, kin_of}
use Rattle.unit_gate.specs.SeatActs.{UnitSeat, IsHeldBy}
use Rattle.nexus.specs.Worlds.{UnitGate}
use Rattle.nexus.specs.inner.Gates.{IsGateOf}
use Rattle.nexus.specs.Roots.{AreAtMost}
use Rattle.nexus.specs.inner.Keeping.{AreGates, gates_of, seens}
use Rattle.nexus.specs.inner.Closing.{HasEntered, AreEntered, AreHeld}
use Rattle.nexus.proofs.Members.{each-drop, rises-drop}

pub entered-more : (old now : List UnitSeat) (units : List RecordedState) (n : ℕ) (b a : UnitSeat) (u : RecordedState) → AreEntered old now units n → n < length old → b ≡ slice_index_or now n b → HasEntered b a u
    → AreEntered old (slice_set now n a) (units ++ u ∷ []) (suc n)
entered-more [] now units n b a u so low at has = absurd (omega arith)
entered-more (o ∷ os) now units zero b a u so low at has =
    let here : b ≡ o = at ∙ ap (λ l. slice_index_or l 0 b) so.0 in
    rw (so.0, so.1) (subst (λ x. HasEntered x a u) here has, (refl, refl))
entered-more (o ∷ os) [] units (suc n) b a u so low at has = absurd so
entered-more (o ∷ os) (w ∷ ws) [] (suc n) b a u so low at has = absurd so
entered-more (o ∷ os) (w ∷ ws) (v ∷ vs) (suc n) b a u so low at has = (so.0, entered-more os ws vs n b a u so.1 (omega arith) at has)

pub entered-rest : (old now : List UnitSeat) (units : List RecordedState) (n : ℕ) (d : UnitSeat) → AreEntered old now units n → slice_index_or now n d ≡ slice_index_or old n d
entered-rest old now units zero d so = ap (λ l. slice_index_or l 0 d) so.0
entered-rest [] now units (suc n) d so = absurd so
entered-rest (o ∷ os) [] units (suc n) d so = absurd so
entered-rest (o ∷ os) (w ∷ ws) [] (suc n) d so = absurd so
entered-rest (o ∷ os) (w ∷ ws) (v ∷ vs) (suc n) d so = entered-rest os ws vs n d so.1

pub entered-long : (old now : List UnitSeat) (units : List RecordedState) (n : ℕ) → AreEntered old now units n → (length now ≡ length old) × (length units ≡ n)
entered-long old now units zero so = (ap length so.0, ap length so.1)
entered-long [] now units (suc n) so = absurd so
entered-long (o ∷ os) [] units (suc n) so = absurd so
entered-long (o ∷ os) (w ∷ ws) [] (suc n) so = absurd so
entered-long (o ∷ os) (w ∷ ws) (v ∷ vs) (suc n) so = let rest = entered-long os ws vs n so.1 in (ap suc rest.0, ap suc rest.1)

-- ---- all have entered

pub map-entered : {Y : Type 0} (f : UnitSeat → Y) → ((b a : UnitSeat) (u : RecordedState) → HasEntered b a u → f a ≡ f b) → (old now : List UnitSeat) (units : List RecordedState) → AreEntered old now units (length old) → map f now ≡ map f old
map-entered f keep [] now units so = ap (map f) so.0
map-entered f keep (b ∷ bs) [] units so = absurd so
map-entered f keep (b ∷ bs) (a ∷ al) [] so = absurd so
map-entered f keep (b ∷ bs) (a ∷ al) (u ∷ us) so = ap (λ v. v ∷ map f al) (keep b a u so.0) ∙ ap (λ l. f b ∷ l) (map-entered f keep bs al us so.1)

pub each-entered : (P Q : UnitSeat → Type 0) → ((b a : UnitSeat) (u : RecordedState) → HasEntered b a u → P b → Q a) → (old now : List UnitSeat) (units : List RecordedState) → AreEntered old now units (length old) → Each P old → Each Q now
each-entered P Q keep [] now units so all = rw so.0 tt
each-entered P Q keep (b ∷ bs) [] units so all = absurd so
each-entered P Q keep (b ∷ bs) (a ∷ al) [] so all = absurd so
each-entered P Q keep (b ∷ bs) (a ∷ al) (u ∷ us) so all = (keep b a u so.0 all.0, each-entered P Q keep bs al us so.1 all.1)

pub entered-gates : (old now : List UnitSeat) (units : List RecordedState) → AreEntered old now units (length old) → gates_of now ≡ gates_of old
entered-gates = map-entered (λ (s : UnitSeat). s.gate) (λ b a u has. ap (λ (s : UnitSeat). s.gate) has.taken.seat)

pub entered-held : (old now : List UnitSeat) (units : List RecordedState) → AreEntered old now units (length old) → AreHeld now units
entered-held [] now units so = rw (so.0, so.1) tt
entered-held (b ∷ bs) [] units so = absurd so
entered-held (b ∷ bs) (a ∷ al) [] so = absurd so
entered-held (b ∷ bs) (a ∷ al) (u ∷ us) so =
    (subst (λ (g : UnitGate). IsHeldBy g.kin a u) (sym (ap (λ (s : UnitSeat). s.gate) so.0.taken.seat)) so.0.held, entered-held bs al us so.1)

pub entered-longer : (old now : List UnitSeat) (units : List RecordedState) → AreEntered old now units (length old) → AreLonger (seens old) (seens now)
entered-longer [] now units so unit = rw so.0 ([], refl)
entered-longer (b ∷ bs) [] units so unit = absurd so
entered-longer (b ∷ bs) (a ∷ al) [] so unit = absurd so
entered-longer (b ∷ bs) (a ∷ al) (u ∷ us) so zero = so.0.taken.turn.longer
entered-longer (b ∷ bs) (a ∷ al) (u ∷ us) so (suc unit) = entered-longer bs al us so.1 unit

pub entered-above : (old now : List UnitSeat) (units : List RecordedState) → AreEntered old now units (length old) → AreAtMost (map (λ (s : UnitSeat). s.marks) old) (map (λ (s : UnitSeat). s.marks) now)
entered-above [] now units so unit = rw so.0 (λ i. omega arith)
entered-above (b ∷ bs) [] units so unit = absurd so
entered-above (b ∷ bs) (a ∷ al) [] so unit = absurd so
entered-above (b ∷ bs) (a ∷ al) (u ∷ us) so zero = so.0.taken.marks
entered-above (b ∷ bs) (a ∷ al) (u ∷ us) so (suc unit) = entered-above bs al us so.1 unit

-- ---- the histories that were seen, and what the units keep of them

abbrev pub kept_in : List RecordedState → List (List Entry)
kept_in units = map (λ (u : RecordedState). u.unit.kept) units

history-of : (config : Configuration) (unit : ℕ) (b a : UnitSeat) (u : RecordedState) → IsGateOf config unit b.gate → HasEntered b a u → IsHistory unit a.seen
history-of config unit b a u gate has =
    let same : kin_of u ≡ gate.kin = (let x = has.held.kin_is in let y = gate.has in let z : Some (kin_of u) ≡ Some gate.kin = sym x ∙ y in cc) in
    let number : (kin_of u).unit ≡ unit = ap (λ (k : UnitKin). k.unit) same ∙ gate.unit_is in
    subst (λ n. IsHistory n a.seen) number has.taken.turn.is_history

abbrev pub AreFromGates : Configuration → ℕ → List UnitSeat → Type 0
AreFromGates config from old = (i : ℕ) (g : UnitGate) → slice_get (gates_of old) i ≡ Some g → IsGateOf config (from + i) g

pub entered-from : (config : Configuration) (from : ℕ) (old now : List UnitSeat) (units : List RecordedState) → AreFromGates config from old → AreEntered old now units (length old) → AreFrom from (seens now) × AreFrom from (kept_in units)
entered-from config from [] now units gates so = rw (so.0, so.1) (tt, tt)
entered-from config from (b ∷ bs) [] units gates so = absurd so
entered-from config from (b ∷ bs) (a ∷ al) [] gates so = absurd so
entered-from config from (b ∷ bs) (a ∷ al) (u ∷ us) gates so =
    let first : from + 0 ≡ from = omega arith in
    let is = history-of config from b a u (subst (λ n. IsGateOf config n b.gate) first (gates 0 b.gate refl)) so.0 in
    let shift : (i : ℕ) → from + suc i ≡ suc from + i = λ i. omega arith in
    let rest = entered-from config (suc from) bs al us (λ i g at. subst (λ n. IsGateOf config n g) (shift i) (gates (suc i) g at)) so.1 in
    let keeps = so.0.held.stands.unit.keeps in (
      (is.own, is.rising, rest.0),
      (
        subst (Each (λ (e : Entry). e.unit ≡ from)) keeps (each-drop (λ (e : Entry). e.unit ≡ from) u.unit.folded a.seen is.own),
        subst (Rises 0) keeps (rises-drop 0 u.unit.folded a.seen is.rising),
        rest.1,
      ),
    )
