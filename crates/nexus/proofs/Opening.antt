-- A world is made
use Rattle.std.proofs.Common.{◌<◌, ◌≤◌, ◌≡◌, ℕ, zero, suc, ◌+◌, List, [], ◌∷◌, ◌++◌, length, map, take, refl, ap, sym, ◌∙◌, subst, arith, true, false, Some, length-append, append_assoc, append-nil, add-one, take_all}
use Rattle.std.specs.Prelude.{slice_get, slice_index, Option}
use Rattle.std.proofs.lemmas.List.{length-map}
use Rattle.cm_base.specs.Configuration.{Configuration}
use Rattle.cm_history.specs.declared.act.Entry.{Entry}
use Rattle.cm_history.proofs.PublicLaws.{Each}
use Rattle.merged_history.specs.Own.{IsAsked}
use Rattle.merged_history.specs.Passes.{of_unit}
use Rattle.merged_history.proofs.PublicLaws.{root-new}
use Rattle.merged_history.specs.Seats.{RootState}
use Rattle.atomic_table.specs.Seated.{TableId}
use Rattle.turn_gate.specs.inner.Seats.{first_seat}
use Rattle.unit_core.specs.UnitState.{UnitState, Stands}
use Rattle.unit_gate.specs.declared.kin.RecorderFacts.{RecorderFacts}
use Rattle.unit_gate.specs.declared.kin.UnitKin.{UnitKin}
use Rattle.unit_gate.specs.Opening.{opening_entries}
use Rattle.unit_gate.specs.Recorded.{RecordedState, StandsFor, kin_of, marks_of, without_last}
use Rattle.unit_gate.specs.SeatActs.{UnitSeat}
use Rattle.unit_gate.proofs.PublicLaws.{stands-asked, without-none}
use Rattle.nexus.specs.Worlds.{UnitGate, WorldView}
use Rattle.nexus.specs.Roots.{RootView}
use Rattle.nexus.specs.inner.Gates.{IsGateOf, config_of, config_in}
use Rattle.nexus.specs.Opening.{kins_from, IsBegun, StoredUnit, kins_stored, entries_stored, GoesOn}
use Rattle.nexus.specs.inner.Rooms.{Room, HasRoom}
use Rattle.nexus.specs.inner.Building.{BegunState, entries_begun, units_in, IsBegunUnit, AreBegunUnits, IsBegunOf, AreBegunOf, BegunSoFar, IsNewUnit, AreNewUnits, NewSoFar, IsSeatOf, AreSeatsOf, BuiltSoFar, FilledSoFar, IsVacantWorld, IsBegunWith}
use Rattle.nexus.specs.inner.Keeping.{AreAbove, AreGates, IsAbove, IsOpened, KeepsWorld, KeepsRoot, gates_of, kepts, openings, seens, entries_joined, root_view}

pub map-push : {X Y : Type 0} (f : X → Y) (xs : List X) (x : X) → map f (xs ++ x ∷ []) ≡ map f xs ++ f x ∷ []
map-push f [] x = refl
map-push f (y ∷ ys) x = ap (λ l. f y ∷ l) (map-push f ys x)

pub map-same : {X Y Z : Type 0} (f : X → Z) (z : Z) → ((x : X) → f x ≡ z) → (xs : List X) (ys : List Y) → length xs ≡ length ys → map f xs ≡ map (λ (y : Y). z) ys
map-same f z is [] [] long = refl
map-same f z is [] (y ∷ ys) long = absurd (omega (arith, long))
map-same f z is (x ∷ xs) [] long = absurd (omega (arith, long))
map-same f z is (x ∷ xs) (y ∷ ys) long = ap (λ v. v ∷ map f xs) (is x) ∙ ap (λ l. z ∷ l) (map-same f z is xs ys (omega (arith, long)))

none-left : {X : Type 0} (gone rest all : List X) → gone ++ rest ≡ all → length gone ≡ length all → gone ≡ all
none-left gone [] all whole long = sym (append-nil gone) ∙ whole
none-left gone (r ∷ rs) all whole long = let a = ap length whole in let b = length-append gone (r ∷ rs) in absurd (omega (arith, a, b, long))

-- ---- the gates of units, and the seats at them

seats-push : (gs : List UnitGate) (ss : List UnitSeat) (bs : List BegunState) (g : UnitGate) (s : UnitSeat) (b : BegunState) → AreSeatsOf gs ss bs → IsSeatOf g s b → AreSeatsOf (gs ++ g ∷ []) (ss ++ s ∷ []) (bs ++ b ∷ [])
seats-push [] [] [] g s b all is = (is, tt)
seats-push [] [] (c ∷ bs) g s b all is = absurd all
seats-push [] (t ∷ ss) bs g s b all is = absurd all
seats-push (h ∷ gs) [] bs g s b all is = absurd all
seats-push (h ∷ gs) (t ∷ ss) [] g s b all is = absurd all
seats-push (h ∷ gs) (t ∷ ss) (c ∷ bs) g s b all is = (all.0, seats-push gs ss bs g s b all.1 is)

seated-gates : (gs : List UnitGate) (ss : List UnitSeat) (bs : List BegunState) → AreSeatsOf gs ss bs → gates_of ss ≡ gs
seated-gates [] [] bs all = refl
seated-gates [] (t ∷ ss) bs all = absurd all
seated-gates (h ∷ gs) [] bs all = absurd all
seated-gates (h ∷ gs) (t ∷ ss) [] all = absurd all
seated-gates (h ∷ gs) (t ∷ ss) (c ∷ bs) all = ap (λ (s : UnitSeat). s.gate ∷ gates_of ss) all.0.seat_is ∙ ap (λ l. h ∷ l) (seated-gates gs ss bs all.1)

seated-long : (gs : List UnitGate) (ss : List UnitSeat) (bs : List BegunState) → AreSeatsOf gs ss bs → (length gs ≡ length bs) × (length ss ≡ length bs)
seated-long [] [] [] all = (refl, refl)
seated-long [] [] (c ∷ bs) all = absurd all
seated-long [] (t ∷ ss) bs all = absurd all
seated-long (h ∷ gs) [] bs all = absurd all
seated-long (h ∷ gs) (t ∷ ss) [] all = absurd all
seated-long (h ∷ gs) (t ∷ ss) (c ∷ bs) all = let rest = seated-long gs ss bs all.1 in (ap suc rest.0, ap suc rest.1)

seated-kins : (gs : List UnitGate) (ss : List UnitSeat) (bs : List BegunState) → AreSeatsOf gs ss bs → map (λ (g : UnitGate). g.kin) gs ≡ map (λ (b : BegunState). Some (kin_of b.unit)) bs
seated-kins [] [] [] all = refl
seated-kins [] [] (c ∷ bs) all = absurd all
seated-kins [] (t ∷ ss) bs all = absurd all
seated-kins (h ∷ gs) [] bs all = absurd all
seated-kins (h ∷ gs) (t ∷ ss) [] all = absurd all
seated-kins (h ∷ gs) (t ∷ ss) (c ∷ bs) all = ap (λ k. k ∷ map (λ (g : UnitGate). g.kin) gs) all.0.kin ∙ ap (λ l. Some (kin_of c.unit) ∷ l) (seated-kins gs ss bs all.1)

seated-map : {Y : Type 0} (f : UnitSeat → Y) (k : BegunState → Y) → ((g : UnitGate) (s : UnitSeat) (b : BegunState) → IsSeatOf g s b → f s ≡ k b)
    → (gs : List UnitGate) (ss : List UnitSeat) (bs : List BegunState) → AreSeatsOf gs ss bs → map f ss ≡ map k bs
seated-map f k is [] [] [] all = refl
seated-map f k is [] [] (c ∷ bs) all = absurd all
seated-map f k is [] (t ∷ ss) bs all = absurd all
seated-map f k is (h ∷ gs) [] bs all = absurd all
seated-map f k is (h ∷ gs) (t ∷ ss) [] all = absurd all
seated-map f k is (h ∷ gs) (t ∷ ss) (c ∷ bs) all = ap (λ y. y ∷ map f ss) (is h t c all.0) ∙ ap (λ l. k c ∷ l) (seated-map f k is gs ss bs all.1)

seated-each : (P : UnitSeat → Type 0) → ((g : UnitGate) (b : BegunState) → P (first_seat g (entries_begun b) (marks_of b.unit)))
    → (gs : List UnitGate) (ss : List UnitSeat) (bs : List BegunState) → AreSeatsOf gs ss bs → Each P ss
seated-each P is [] [] bs all = tt
seated-each P is [] (t ∷ ss) bs all = absurd all
seated-each P is (h ∷ gs) [] bs all = absurd all
seated-each P is (h ∷ gs) (t ∷ ss) [] all = absurd all
seated-each P is (h ∷ gs) (t ∷ ss) (c ∷ bs) all = (subst P (sym all.0.seat_is) (is h c), seated-each P is gs ss bs all.1)

-- the entries with which it begins might be asked
begun-asked : (config : Configuration) (n : ℕ) (b : BegunState) → n < length config.units → IsBegunUnit config n b → Each (IsAsked config) (entries_begun b)
begun-asked config n b low is =
    let few : b.unit.unit.unit < length b.unit.unit.config.units = subst (λ (c : Configuration). b.unit.unit.unit < length c.units) (sym is.config_is) (let u = is.unit_is in omega (arith, u, low)) in
    subst (λ c. Each (IsAsked c) (entries_begun b)) is.config_is (stands-asked b.unit (entries_begun b) is.stands few)

seated-opened : (config : Configuration) (n : ℕ) (gs : List UnitGate) (ss : List UnitSeat) (bs : List BegunState) → n + length bs ≤ length config.units → AreBegunUnits config n bs → AreSeatsOf gs ss bs → Each (IsOpened config) ss
seated-opened config n [] [] bs low units all = tt
seated-opened config n [] (t ∷ ss) bs low units all = absurd all
seated-opened config n (h ∷ gs) [] bs low units all = absurd all
seated-opened config n (h ∷ gs) (t ∷ ss) [] low units all = absurd all
seated-opened config n (h ∷ gs) (t ∷ ss) (c ∷ bs) low units all =
    let es = entries_begun c in
    let asked : Each (IsAsked config) (take (length es) es) = subst (Each (IsAsked config)) (sym (take_all (length es) es (omega arith))) (begun-asked config n c (omega (arith, low)) units.0) in
    let opened : IsOpened config (first_seat h es (marks_of c.unit)) = record { low = omega arith; asked = asked } in (
      subst (IsOpened config) (sym all.0.seat_is) opened,
      seated-opened config (suc n) gs ss bs (omega (arith, low)) units.1 all.1,
    )

seated-above : (config : Configuration) (n : ℕ) (gs : List UnitGate) (ss : List UnitSeat) (bs : List BegunState) → AreBegunUnits config n bs → AreSeatsOf gs ss bs → AreAbove ss
seated-above config n [] [] bs units all = tt
seated-above config n [] (t ∷ ss) bs units all = absurd all
seated-above config n (h ∷ gs) [] bs units all = absurd all
seated-above config n (h ∷ gs) (t ∷ ss) [] units all = absurd all
seated-above config n (h ∷ gs) (t ∷ ss) (c ∷ bs) units all = (subst IsAbove (sym all.0.seat_is) first, seated-above config (suc n) gs ss bs units.1 all.1)
  where
    first : IsAbove (first_seat h (entries_begun c) (marks_of c.unit))
    first = λ kin has.
        let both : Some (kin_of c.unit) ≡ Some kin = sym all.0.kin ∙ has in
        let same : kin_of c.unit ≡ kin = cc in
        let there : c.unit.opening.faults ≡ kin.opening.faults = ap (λ (k : UnitKin). k.opening.faults) same in
        let faults = units.0.faults in
        omega (arith, there, faults)

seated-are : (config : Configuration) (n : ℕ) (gs : List UnitGate) (ss : List UnitSeat) (bs : List BegunState) → AreBegunUnits config n bs → AreSeatsOf gs ss bs
    → (i : ℕ) (g : UnitGate) → slice_get gs i ≡ Some g → IsGateOf config (n + i) g
seated-are config n [] ss bs units all i g at = cc
seated-are config n (h ∷ gs) [] bs units all i g at = absurd all
seated-are config n (h ∷ gs) (t ∷ ss) [] units all i g at = absurd all
seated-are config n (h ∷ gs) (t ∷ ss) (c ∷ bs) units all zero g at =
    let same : h ≡ g = cc in
    let first : n ≡ n + 0 = omega arith in
    record { kin = kin_of c.unit; has = ap (λ (x : UnitGate). x.kin) (sym same) ∙ all.0.kin; config_is = units.0.config_is; unit_is = units.0.unit_is ∙ first }
seated-are config n (h ∷ gs) (t ∷ ss) (c ∷ bs) units all (suc i) g at =
    let next : suc n + i ≡ n + suc i = omega arith in
    subst (λ u. IsGateOf config u g) next (seated-are config (suc n) gs ss bs units.1 all.1 i g at)

config-is : (config : Configuration) (gs : List UnitGate) (ss : List UnitSeat) (bs : List BegunState) → AreBegunUnits config 0 bs → AreSeatsOf gs ss bs → 1 ≤ length bs → config_of gs ≡ config
config-is config [] [] [] units all some = absurd (omega (arith, some))
config-is config [] [] (c ∷ bs) units all some = absurd all
config-is config [] (t ∷ ss) bs units all some = absurd all
config-is config (h ∷ gs) [] bs units all some = absurd all
config-is config (h ∷ gs) (t ∷ ss) [] units all some = absurd all
config-is config (h ∷ gs) (t ∷ ss) (c ∷ bs) units all some = ap config_in all.0.kin ∙ units.0.config_is

kept-none : (bs : List BegunState) (unit : ℕ) → of_unit (map (λ (b : BegunState). []) bs) unit ≡ []
kept-none [] unit = refl
kept-none (b ∷ bs) zero = refl
kept-none (b ∷ bs) (suc unit) = kept-none bs unit

seq-none : (gates : List UnitGate) (unit : ℕ) → slice_index (map (λ (g : UnitGate). 0) gates) unit ≡ 0
seq-none [] unit = refl
seq-none (g ∷ gs) zero = refl
seq-none (g ∷ gs) (suc unit) = seq-none gs unit

-- ---- one after the other

module _ (all : List BegunState) where
  pub built-none : BuiltSoFar all all [] [] [] 0
  built-none = record { gone = []; whole = refl; count = refl; seated = tt; seqs_are = refl }

  pub built-more : (rest more : List BegunState) (gates : List UnitGate) (seats : List UnitSeat) (seqs : List ℕ) (n : ℕ) (b : BegunState) (g : UnitGate) (s : UnitSeat) → BuiltSoFar all rest gates seats seqs n → rest ≡ b ∷ more
      → g.kin ≡ Some (kin_of b.unit) → s ≡ first_seat g (entries_begun b) (marks_of b.unit) → BuiltSoFar all more (gates ++ g ∷ []) (seats ++ s ∷ []) (seqs ++ 0 ∷ []) (suc n)
  built-more rest more gates seats seqs n b g s so next kin seat = record {
    gone = so.gone ++ b ∷ [];
    whole = append_assoc so.gone (b ∷ []) more ∙ ap (λ l. so.gone ++ l) (sym next) ∙ so.whole;
    count = length-append so.gone (b ∷ []) ∙ ap (λ k. k + 1) so.count ∙ add-one n;
    seated = seats-push gates seats so.gone g s b so.seated (record { kin = kin; seat_is = seat });
    seqs_are = ap (λ l. l ++ 0 ∷ []) so.seqs_are ∙ sym (map-push (λ (x : UnitGate). 0) gates g);
  }

-- ---- the gates are filled, one after the other

module _ (all : List BegunState) where
  pub filled-none : (vacant : List RecordedState) (register : TableId) (slip : RootState) (gates : List UnitGate) (seats : List UnitSeat) (seqs : List ℕ) (gate_room seat_room seq_room : ℕ) (rooms : Room)
      → IsVacantWorld (length vacant) register slip gates seats seqs gate_room seat_room seq_room rooms → vacant ≡ units_in all → FilledSoFar all all vacant gates seats seqs 0 gate_room seat_room seq_room
  filled-none vacant register slip gates seats seqs gate_room seat_room seq_room rooms is same =
      let long : length vacant ≡ length all = ap length same ∙ length-map all (λ (b : BegunState). b.unit) in
      let gates_fit = is.gates_fit in
      let seats_fit = is.seats_fit in
      let seqs_fit = is.seqs_fit in
      record {
        built = rw (is.no_gate, is.no_seat, is.no_seq) (built-none all);
        vacant_are = sym same;
        gates_fit = omega (arith, long, gates_fit);
        seats_fit = omega (arith, long, seats_fit);
        seqs_fit = omega (arith, long, seqs_fit);
      }

  module _ (rest more : List BegunState) (vacant : List RecordedState) (gates : List UnitGate) (seats : List UnitSeat) (seqs : List ℕ) (n gate_room seat_room seq_room : ℕ)
      (so : FilledSoFar all rest vacant gates seats seqs n gate_room seat_room seq_room) (b : BegunState) (next : rest ≡ b ∷ more) where
    -- the next unit has a vacant gate
    pub vacant-left : vacant ≡ [] → ⊥
    vacant-left none = let e : (b.unit ∷ units_in more) ≡ [] = ap units_in (sym next) ∙ so.vacant_are ∙ none in cc

    module _ (left : List RecordedState) (v : RecordedState) (is : vacant ≡ v ∷ left) where
      both : (b.unit ∷ units_in more) ≡ v ∷ left
      both = ap units_in (sym next) ∙ so.vacant_are ∙ is

      pub vacant-same : b.unit ≡ v
      vacant-same = let e = both in cc

      pub filled-more : (g : UnitGate) (s : UnitSeat) (gates_now seats_now seqs_now : ℕ) → g.kin ≡ Some (kin_of b.unit) → s ≡ first_seat g (entries_begun b) (marks_of b.unit)
          → gates_now ≡ gate_room → seats_now ≡ seat_room → seqs_now ≡ seq_room → FilledSoFar all more left (gates ++ g ∷ []) (seats ++ s ∷ []) (seqs ++ 0 ∷ []) (suc n) gates_now seats_now seqs_now
      filled-more g s gates_now seats_now seqs_now kin seat one two three = record {
        built = built-more all rest more gates seats seqs n b g s so.built next kin seat;
        vacant_are = let e = both in cc;
        gates_fit = rw one so.gates_fit;
        seats_fit = rw two so.seats_fit;
        seqs_fit = rw three so.seqs_fit;
      }

    gone-less : length so.built.gone < length all
    gone-less =
        let whole = ap length so.built.whole in
        let sum = length-append so.built.gone rest in
        let some = ap length next in
        omega (arith, whole, sum, some)

    pub gates-low : length gates < gate_room
    gates-low = let long = (seated-long gates seats so.built.gone so.built.seated).0 in let fit = so.gates_fit in let less = gone-less in omega (arith, long, fit, less)

    pub seats-low : length seats < seat_room
    seats-low = let long = (seated-long gates seats so.built.gone so.built.seated).1 in let fit = so.seats_fit in let less = gone-less in omega (arith, long, fit, less)

    pub seqs-low : length seqs < seq_room
    seqs-low =
        let long = (seated-long gates seats so.built.gone so.built.seated).0 in
        let zeros = ap length so.built.seqs_are ∙ length-map gates (λ (g : UnitGate). 0) in
        let fit = so.seqs_fit in
        let less = gone-less in
        omega (arith, long, zeros, fit, less)

units-next : (config : Configuration) (n : ℕ) (gone more : List BegunState) (b : BegunState) → AreBegunUnits config n (gone ++ b ∷ more) → StandsFor b.unit (entries_begun b)
units-next config n [] more b all = all.0.stands
units-next config n (c ∷ gone) more b all = units-next config (suc n) gone more b all.1

-- the next unit stands for the entries with which it begins
pub next-stands : (config : Configuration) (all rest more : List BegunState) (gates : List UnitGate) (seats : List UnitSeat) (seqs : List ℕ) (n : ℕ) (b : BegunState)
    → BuiltSoFar all rest gates seats seqs n → rest ≡ b ∷ more → AreBegunUnits config 0 all → StandsFor b.unit (entries_begun b)
next-stands config all rest more gates seats seqs n b so next units = units-next config 0 so.gone more b (subst (AreBegunUnits config 0) (sym so.whole ∙ ap (λ l. so.gone ++ l) next) units)

module _ (config : Configuration) (all rest : List BegunState) (gates : List UnitGate) (seats : List UnitSeat) (seqs : List ℕ) (n : ℕ) (so : BuiltSoFar all rest gates seats seqs n)
    (units : AreBegunUnits config 0 all) (one_each : length all ≡ length config.units) (some : 1 ≤ length config.units) (last : n ≡ length config.units) (register : TableId) (made : ℕ) where
  abbrev slip : RootState
  slip = record { register = register; out = []; joined = [] }

  gone-all : so.gone ≡ all
  gone-all = none-left so.gone rest all so.whole (so.count ∙ last ∙ sym one_each)

  seated : AreSeatsOf gates seats all
  seated = subst (AreSeatsOf gates seats) gone-all so.seated

  gates-long : length gates ≡ length config.units
  gates-long = (seated-long gates seats all seated).0 ∙ one_each

  seats-long : length seats ≡ length config.units
  seats-long = (seated-long gates seats all seated).1 ∙ one_each

  config-here : config_of gates ≡ config
  config-here = config-is config gates seats all units seated (omega (arith, some, one_each))

  are : AreGates config gates
  are = λ unit g at. let e : 0 + unit ≡ unit = omega arith in subst (λ u. IsGateOf config u g) e (seated-are config 0 gates seats all units seated unit g at)

  pub world-keeps : KeepsWorld gates
  world-keeps = record { units = gates-long ∙ sym (ap (λ (k : Configuration). length k.units) config-here); gates_are = subst (λ k. AreGates k gates) (sym config-here) are }

  gates-same : gates_of seats ≡ gates
  gates-same = seated-gates gates seats all seated

  kept-nothing : (unit : ℕ) → of_unit (kepts seats) unit ≡ []
  kept-nothing unit =
      ap (λ l. of_unit l unit) (seated-map (λ (s : UnitSeat). entries_joined s.joined) (λ b. []) (λ g s b is. ap (λ (x : UnitSeat). entries_joined x.joined) is.seat_is) gates seats all seated) ∙ kept-none all unit

  root-keeps-here : KeepsRoot config made seqs slip seats
  root-keeps-here = record {
    is = root-new config made (seens seats) (kepts seats) kept-nothing;
    gates_are = subst (AreGates config) (sym gates-same) are;
    units = seats-long;
    free = seated-each (λ (s : UnitSeat). s.holds ≡ false) (λ g b. refl) gates seats all seated;
    firsts = seated-each (λ (s : UnitSeat). s.first ≡ true) (λ g b. refl) gates seats all seated;
    outs = seated-each (λ (s : UnitSeat). s.out ≡ 0) (λ g b. refl) gates seats all seated;
    nothing = seated-each (λ (s : UnitSeat). s.own ≡ []) (λ g b. refl) gates seats all seated;
    openings = seated-opened config 0 gates seats all (let e : 0 + length all ≡ length all = omega arith in omega (arith, e, one_each)) units seated;
    seqs_are = record {
      long = ap length so.seqs_are ∙ length-map gates (λ (g : UnitGate). 0) ∙ gates-long ∙ sym seats-long;
      are = λ unit low. ap (λ l. slice_index l unit) so.seqs_are ∙ seq-none gates unit;
    };
  }

  pub root-above : AreAbove seats
  root-above = seated-above config 0 gates seats all units seated

  pub root-room : (count : ℕ) (room : Room) → count ≡ length all → HasRoom count room → HasRoom (length seats) room
  root-room count room same has = subst (λ k. HasRoom k room) (same ∙ sym (seated-long gates seats all seated).1) has

  pub root-keeps : KeepsRoot (config_of (gates_of seats)) made seqs slip seats
  root-keeps = subst (λ c. KeepsRoot c made seqs slip seats) (sym (ap config_of gates-same ∙ config-here)) root-keeps-here

  pub is-begun-with : IsBegunWith config all made (record { config = config_of gates; gates = gates; register = register }) (root_view (config_of (gates_of seats)) made slip seats)
  is-begun-with =
      let opened = seated-map (λ (s : UnitSeat). s.opening) (λ (b : BegunState). length (entries_begun b)) (λ g s b is. ap (λ (x : UnitSeat). x.opening) is.seat_is) gates seats all seated in
      let seen = seated-map (λ (s : UnitSeat). s.seen) entries_begun (λ g s b is. ap (λ (x : UnitSeat). x.seen) is.seat_is) gates seats all seated in
      let marks = seated-map (λ (s : UnitSeat). s.marks) (λ (b : BegunState). marks_of b.unit) (λ g s b is. ap (λ (x : UnitSeat). x.marks) is.seat_is) gates seats all seated in
      record { config_is = config-here; gates = seated-kins gates seats all seated; root_is = rw (gates-same, opened, seen, marks) refl }

-- ---- the units, by what they go on with

entries-are : (config : Configuration) (n : ℕ) (s : StoredUnit) (b : BegunState) → IsBegunOf config n s b → entries_begun b ≡ opening_entries config n s.history
entries-are config n s b is =
    ap (λ (k : UnitKin). opening_entries k.config k.unit b.history) is.kin ∙ ap (opening_entries config n) is.history_is

pub begun-units : (config : Configuration) (n : ℕ) (ss : List StoredUnit) (bs : List BegunState) → AreBegunOf config n ss bs → AreBegunUnits config n bs
begun-units config n [] [] all = tt
begun-units config n [] (b ∷ bs) all = absurd all
begun-units config n (s ∷ ss) [] all = absurd all
begun-units config n (s ∷ ss) (b ∷ bs) all = (
  record {
    config_is = ap (λ (k : UnitKin). k.config) all.0.kin;
    unit_is = ap (λ (k : UnitKin). k.unit) all.0.kin;
    stands = subst (StandsFor b.unit) (sym (entries-are config n s b all.0)) all.0.stands;
    faults = ap (λ (m : List ℕ). slice_index m 0) all.0.marks ∙ sym (ap (λ (k : UnitKin). k.opening.faults) all.0.kin);
  },
  begun-units config (suc n) ss bs all.1,
)

pub begun-long : (config : Configuration) (n : ℕ) (ss : List StoredUnit) (bs : List BegunState) → AreBegunOf config n ss bs → length bs ≡ length ss
begun-long config n [] [] all = refl
begun-long config n [] (b ∷ bs) all = absurd all
begun-long config n (s ∷ ss) [] all = absurd all
begun-long config n (s ∷ ss) (b ∷ bs) all = ap suc (begun-long config (suc n) ss bs all.1)

begun-push : (config : Configuration) (n : ℕ) (ss : List StoredUnit) (bs : List BegunState) (s : StoredUnit) (b : BegunState) → AreBegunOf config n ss bs → IsBegunOf config (n + length ss) s b → AreBegunOf config n (ss ++ s ∷ []) (bs ++ b ∷ [])
begun-push config n [] [] s b all is = let e : n + 0 ≡ n = omega arith in (subst (λ k. IsBegunOf config k s b) e is, tt)
begun-push config n [] (c ∷ bs) s b all is = absurd all
begun-push config n (t ∷ ss) [] s b all is = absurd all
begun-push config n (t ∷ ss) (c ∷ bs) s b all is =
    let e : n + suc (length ss) ≡ suc n + length ss = omega arith in (all.0, begun-push config (suc n) ss bs s b all.1 (subst (λ k. IsBegunOf config k s b) e is))

module _ {X : Type 0} (store_of : X → StoredUnit) (config : Configuration) (all : List X) where
  pub begun-none : BegunSoFar store_of config all all [] 0
  begun-none = record { gone = []; whole = refl; count = refl; are = tt }

  pub begun-more : (rest more : List X) (begun : List BegunState) (n : ℕ) (x : X) (b : BegunState) → BegunSoFar store_of config all rest begun n → rest ≡ x ∷ more → IsBegunOf config n (store_of x) b
      → BegunSoFar store_of config all more (begun ++ b ∷ []) (suc n)
  begun-more rest more begun n x b so next is =
      let count : n ≡ 0 + length (map store_of so.gone) = (let a = length-map so.gone store_of in let c = so.count in omega (arith, a, c)) in
      record {
        gone = so.gone ++ x ∷ [];
        whole = append_assoc so.gone (x ∷ []) more ∙ ap (λ l. so.gone ++ l) (sym next) ∙ so.whole;
        count = length-append so.gone (x ∷ []) ∙ ap (λ k. k + 1) so.count ∙ add-one n;
        are = subst (λ l. AreBegunOf config 0 l (begun ++ b ∷ [])) (sym (map-push store_of so.gone x))
            (begun-push config 0 (map store_of so.gone) begun (store_of x) b so.are (subst (λ k. IsBegunOf config k (store_of x) b) count is));
      }

  -- all are
  pub begun-all : (rest : List X) (begun : List BegunState) (n : ℕ) → BegunSoFar store_of config all rest begun n → n ≡ length all → AreBegunOf config 0 (map store_of all) begun
  begun-all rest begun n so last = subst (λ l. AreBegunOf config 0 (map store_of l) begun) (none-left so.gone rest all so.whole (so.count ∙ last)) so.are

  -- as long as one is left, not all are
  pub begun-low : (rest more : List X) (begun : List BegunState) (n : ℕ) (x : X) → BegunSoFar store_of config all rest begun n → rest ≡ x ∷ more → length begun < length all
  begun-low rest more begun n x so next =
      let a = ap length so.whole in
      let b = length-append so.gone rest in
      let c = ap length next in
      let d = begun-long config 0 (map store_of so.gone) begun so.are in
      let e = length-map so.gone store_of in
      omega (arith, a, b, c, d, e)

  -- while not all are, one is left
  pub some-left : (rest : List X) (begun : List BegunState) (n : ℕ) → BegunSoFar store_of config all rest begun n → n < length all → rest ≡ [] → ⊥
  some-left rest begun n so low none =
      let a = ap length so.whole in
      let b = length-append so.gone rest in
      let c = ap length none in
      let d = so.count in
      omega (arith, a, b, c, d, low)

each-left : {X : Type 0} (P : X → Type 0) (rest more : List X) (x : X) → rest ≡ x ∷ more → Each P rest → P x × Each P more
each-left P rest more x next all = let both : Each P (x ∷ more) = subst (Each P) next all in (both.0, both.1)

-- ---- units of which nothing was asked yet

abbrev pub fresh : {R : Type 0} → (R → RecorderFacts) → R → StoredUnit
fresh facts r = record { history = []; recorder = facts r }

pub new-push : (config : Configuration) (n : ℕ) (us : List UnitState) (u : UnitState) → AreNewUnits config n us → IsNewUnit config (n + length us) u → AreNewUnits config n (us ++ u ∷ [])
new-push config n [] u all is = let e : n + 0 ≡ n = omega arith in (subst (λ k. IsNewUnit config k u) e is, tt)
new-push config n (v ∷ us) u all is =
    let e : n + suc (length us) ≡ suc n + length us = omega arith in (all.0, new-push config (suc n) us u all.1 (subst (λ k. IsNewUnit config k u) e is))

module _ {R : Type 0} (facts : R → RecorderFacts) (P : R → Type 0) (config : Configuration) (all : List R) where
  pub new-none : (units : List UnitState) → Each P all → AreNewUnits config 0 units → length units ≡ length all → NewSoFar (fresh facts) P config all all units [] 0
  new-none units fits new long = record { begun_are = begun-none (fresh facts) config all; new = new; one_each = long; fits_rest = fits }

  -- as long as a recorder is left, a unit is
  pub new-left : (rest more : List R) (units : List UnitState) (begun : List BegunState) (n : ℕ) (r : R) → NewSoFar (fresh facts) P config all rest units begun n → rest ≡ r ∷ more → units ≡ [] → ⊥
  new-left rest more units begun n r so next none = let a = so.one_each in let b = ap length next in let c = ap length none in omega (arith, a, b, c)

  module _ (rest more : List R) (units left : List UnitState) (begun : List BegunState) (n : ℕ) (r : R) (u : UnitState) (so : NewSoFar (fresh facts) P config all rest units begun n) (next : rest ≡ r ∷ more) (unit : units ≡ u ∷ left) where
    pub new-fits : P r
    new-fits = (each-left P rest more r next so.fits_rest).0

    is-new : IsNewUnit config n u × AreNewUnits config (suc n) left
    is-new = let both : AreNewUnits config n (u ∷ left) = subst (AreNewUnits config n) unit so.new in (both.0, both.1)

    pub new-stands : Stands u []
    new-stands = is-new.0.stands

    pub new-folded : u.folded ≡ 0
    new-folded = is-new.0.folded

    pub new-more : (b : BegunState) → StandsFor b.unit [] → kin_of b.unit ≡ record { config = u.config; unit = u.unit; opening = facts r; folded = 0 } → marks_of b.unit ≡ (facts r).faults ∷ 0 ∷ 0 ∷ []
        → b.unit.recorder ≡ facts r → b.history ≡ [] → NewSoFar (fresh facts) P config all more left (begun ++ b ∷ []) (suc n)
    new-more b stands kin marks recorder none = record {
      begun_are = begun-more (fresh facts) config all rest more begun n r b so.begun_are next record {
        kin =
            kin
            ∙ ap (λ c. record { config = c; unit = u.unit; opening = facts r; folded = 0 }) is-new.0.config_is
            ∙ ap (λ (k : ℕ). record { config = config; unit = k; opening = facts r; folded = 0 }) is-new.0.unit_is
            ∙ ap (λ (o : RecorderFacts). record { config = config; unit = n; opening = o; folded = 0 }) (sym (without-none (facts r)));
        history_is = none;
        stands = stands;
        marks = marks;
        recorder_is = recorder;
      };
      new = is-new.1;
      one_each = let a = so.one_each in let b = ap length next in let c = ap length unit in omega (arith, a, b, c);
      fits_rest = (each-left P rest more r next so.fits_rest).1;
    }

-- ---- what contracts see of the world

kins-are : (config : Configuration) (n : ℕ) (ss : List StoredUnit) (bs : List BegunState) → AreBegunOf config n ss bs → map (λ (b : BegunState). Some (kin_of b.unit)) bs ≡ kins_stored config n ss
kins-are config n [] [] all = refl
kins-are config n [] (b ∷ bs) all = absurd all
kins-are config n (s ∷ ss) [] all = absurd all
kins-are config n (s ∷ ss) (b ∷ bs) all =
    ap (λ k. Some k ∷ map (λ (c : BegunState). Some (kin_of c.unit)) bs) all.0.kin
    ∙ ap (λ l. Some (record { config = config; unit = n; opening = without_last (length s.history) s.recorder; folded = length s.history }) ∷ l) (kins-are config (suc n) ss bs all.1)

seen-are : (config : Configuration) (n : ℕ) (ss : List StoredUnit) (bs : List BegunState) → AreBegunOf config n ss bs → map entries_begun bs ≡ entries_stored config n ss
seen-are config n [] [] all = refl
seen-are config n [] (b ∷ bs) all = absurd all
seen-are config n (s ∷ ss) [] all = absurd all
seen-are config n (s ∷ ss) (b ∷ bs) all =
    ap (λ x. x ∷ map entries_begun bs) (entries-are config n s b all.0) ∙ ap (λ l. opening_entries config n s.history ∷ l) (seen-are config (suc n) ss bs all.1)

opened-are : (config : Configuration) (n : ℕ) (ss : List StoredUnit) (bs : List BegunState) → AreBegunOf config n ss bs → map (λ (b : BegunState). length (entries_begun b)) bs ≡ map (λ (es : List Entry). length es) (entries_stored config n ss)
opened-are config n [] [] all = refl
opened-are config n [] (b ∷ bs) all = absurd all
opened-are config n (s ∷ ss) [] all = absurd all
opened-are config n (s ∷ ss) (b ∷ bs) all =
    ap (λ (x : List Entry). length x ∷ map (λ (c : BegunState). length (entries_begun c)) bs) (entries-are config n s b all.0)
    ∙ ap (λ l. length (opening_entries config n s.history) ∷ l) (opened-are config (suc n) ss bs all.1)

marks-are : (config : Configuration) (n : ℕ) (ss : List StoredUnit) (bs : List BegunState) → AreBegunOf config n ss bs
    → map (λ (b : BegunState). marks_of b.unit) bs ≡ map (λ (s : StoredUnit). s.recorder.faults ∷ length s.history ∷ 0 ∷ []) ss
marks-are config n [] [] all = refl
marks-are config n [] (b ∷ bs) all = absurd all
marks-are config n (s ∷ ss) [] all = absurd all
marks-are config n (s ∷ ss) (b ∷ bs) all =
    ap (λ m. m ∷ map (λ (c : BegunState). marks_of c.unit) bs) all.0.marks ∙ ap (λ l. (s.recorder.faults ∷ length s.history ∷ 0 ∷ []) ∷ l) (marks-are config (suc n) ss bs all.1)

abbrev view_of : WorldView → ℕ → List ℕ → List (List Entry) → List (List ℕ) → RootView
view_of world made openings seen marks =
    record { config = world.config; gates = world.gates; register = world.register; made = made; out = []; joined = []; openings = openings; seen = seen; marks = marks }

same-view : (world : WorldView) (made : ℕ) (os qs : List ℕ) (es fs : List (List Entry)) (ms ns : List (List ℕ)) → os ≡ qs → es ≡ fs → ms ≡ ns → view_of world made os es ms ≡ view_of world made qs fs ns
same-view world made os qs es fs ms ns a b c = ap (λ x. view_of world made x es ms) a ∙ ap (λ x. view_of world made qs x ms) b ∙ ap (view_of world made qs fs) c

pub goes-on : (config : Configuration) (ss : List StoredUnit) (bs : List BegunState) (made : ℕ) (world : WorldView) (root : RootView) → AreBegunOf config 0 ss bs → IsBegunWith config bs made world root → GoesOn config ss made world root
goes-on config ss bs made world root all is = record {
  config_is = is.config_is;
  gates = is.gates ∙ kins-are config 0 ss bs all;
  root_is = is.root_is
      ∙ same-view world made (map (λ (b : BegunState). length (entries_begun b)) bs) (map (λ (es : List Entry). length es) (entries_stored config 0 ss)) (map entries_begun bs) (entries_stored config 0 ss)
      (map (λ (b : BegunState). marks_of b.unit) bs) (map (λ (s : StoredUnit). s.recorder.faults ∷ length s.history ∷ 0 ∷ []) ss)
      (opened-are config 0 ss bs all) (seen-are config 0 ss bs all) (marks-are config 0 ss bs all);
}

module _ {R : Type 0} (facts : R → RecorderFacts) (config : Configuration) where
  kins-fresh : (n : ℕ) (rs : List R) → kins_stored config n (map (fresh facts) rs) ≡ kins_from config n (map facts rs)
  kins-fresh n [] = refl
  kins-fresh n (r ∷ rs) =
      ap (λ (o : RecorderFacts). Some (record { config = config; unit = n; opening = o; folded = 0 }) ∷ kins_stored config (suc n) (map (fresh facts) rs)) (without-none (facts r))
      ∙ ap (λ l. Some (record { config = config; unit = n; opening = facts r; folded = 0 }) ∷ l) (kins-fresh (suc n) rs)

  seen-fresh : (n : ℕ) (rs : List R) → entries_stored config n (map (fresh facts) rs) ≡ map (λ (r : RecorderFacts). []) (map facts rs)
  seen-fresh n [] = refl
  seen-fresh n (r ∷ rs) = ap (λ l. [] ∷ l) (seen-fresh (suc n) rs)

  opened-fresh : (n : ℕ) (rs : List R) → map (λ (es : List Entry). length es) (entries_stored config n (map (fresh facts) rs)) ≡ map (λ (r : RecorderFacts). 0) (map facts rs)
  opened-fresh n [] = refl
  opened-fresh n (r ∷ rs) = ap (λ l. 0 ∷ l) (opened-fresh (suc n) rs)

  marks-fresh : (rs : List R) → map (λ (s : StoredUnit). s.recorder.faults ∷ length s.history ∷ 0 ∷ []) (map (fresh facts) rs) ≡ map (λ (r : RecorderFacts). r.faults ∷ 0 ∷ 0 ∷ []) (map facts rs)
  marks-fresh [] = refl
  marks-fresh (r ∷ rs) = ap (λ l. ((facts r).faults ∷ 0 ∷ 0 ∷ []) ∷ l) (marks-fresh rs)

  pub is-begun : (rs : List R) (bs : List BegunState) (world : WorldView) (root : RootView) → AreBegunOf config 0 (map (fresh facts) rs) bs → IsBegunWith config bs 0 world root → IsBegun config (map facts rs) world root
  is-begun rs bs world root all is =
      let on = goes-on config (map (fresh facts) rs) bs 0 world root all is in
      record {
        config_is = on.config_is;
        gates = on.gates ∙ kins-fresh 0 rs;
        root_is = on.root_is
            ∙ same-view world 0 (map (λ (es : List Entry). length es) (entries_stored config 0 (map (fresh facts) rs))) (map (λ (r : RecorderFacts). 0) (map facts rs))
            (entries_stored config 0 (map (fresh facts) rs)) (map (λ (r : RecorderFacts). []) (map facts rs))
            (map (λ (s : StoredUnit). s.recorder.faults ∷ length s.history ∷ 0 ∷ []) (map (fresh facts) rs)) (map (λ (r : RecorderFacts). r.faults ∷ 0 ∷ 0 ∷ []) (map facts rs))
            (opened-fresh 0 rs) (seen-fresh 0 rs) (marks-fresh rs);
      }
