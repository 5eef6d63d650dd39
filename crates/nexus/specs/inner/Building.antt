-- The gates of a world, and the root's seats at them, as they are made
use Rattle.std.specs.Prelude.{◌≡◌, ◌+◌, ◌≤◌, ℕ, suc, ⊤, List, [], ◌∷◌, ◌++◌, length, map, Some}
use Rattle.atomic_table.specs.Seated.{TableId}
use Rattle.cm_base.specs.Configuration.{Configuration}
use Rattle.cm_history.specs.declared.act.Entry.{Entry}
use Rattle.cm_history.specs.Members.{Each}
use Rattle.merged_history.specs.Seats.{RootState}
use Rattle.turn_gate.specs.inner.Seats.{first_seat}
use Rattle.unit_core.specs.UnitState.{UnitState, Stands}
use Rattle.unit_gate.specs.Opening.{opening_entries}
use Rattle.unit_gate.specs.Recorded.{RecordedState, StandsFor, kin_of, marks_of, without_last}
use Rattle.unit_gate.specs.SeatActs.{UnitSeat}
use Rattle.nexus.specs.Worlds.{UnitGate, WorldView}
use Rattle.nexus.specs.Roots.{RootView}
use Rattle.nexus.specs.Opening.{StoredUnit, AreStored, bad_history}
use Rattle.nexus.specs.inner.Rooms.{Room, HasRoom}

-- ---- a unit and its recorder, and the history that was recorded before

pub record BegunState : Type 0 where
  pub unit : RecordedState
  pub history : List Entry

-- the entries with which it begins
abbrev pub entries_begun : BegunState → List Entry
entries_begun b = opening_entries b.unit.unit.config b.unit.unit.unit b.history

abbrev pub units_in : List BegunState → List RecordedState
units_in begun = map (λ (b : BegunState). b.unit) begun

-- it is the unit of this number, and stands for them
pub record IsBegunUnit (config : Configuration) (n : ℕ) (b : BegunState) : Type 0 where
  pub config_is : b.unit.unit.config ≡ config
  pub unit_is : b.unit.unit.unit ≡ n
  pub stands : StandsFor b.unit (entries_begun b)
  pub faults : b.unit.recorder.faults ≡ b.unit.opening.faults

abbrev pub AreBegunUnits : Configuration → ℕ → List BegunState → Type 0
AreBegunUnits config n [] = ⊤
AreBegunUnits config n (b ∷ bs) = IsBegunUnit config n b × AreBegunUnits config (suc n) bs

-- it is what such a store comes to
pub record IsBegunOf (config : Configuration) (n : ℕ) (s : StoredUnit) (b : BegunState) : Type 0 where
  pub kin : kin_of b.unit ≡ record { config = config; unit = n; opening = without_last (length s.history) s.recorder; folded = length s.history }
  pub history_is : b.history ≡ s.history
  pub stands : StandsFor b.unit (opening_entries config n s.history)
  pub marks : marks_of b.unit ≡ s.recorder.faults ∷ length s.history ∷ 0 ∷ []
  pub recorder_is : b.unit.recorder ≡ s.recorder

abbrev pub AreBegunOf : Configuration → ℕ → List StoredUnit → List BegunState → Type 0
AreBegunOf config n [] [] = ⊤
AreBegunOf config n (s ∷ ss) (b ∷ bs) = IsBegunOf config n s b × AreBegunOf config (suc n) ss bs
AreBegunOf config n _ _ = ⊥

-- the first n units are begun, of these, each of which comes to such a store
pub record BegunSoFar {X : Type 0} (store_of : X → StoredUnit) (config : Configuration) (all rest : List X) (begun : List BegunState) (n : ℕ) : Type 0 where
  pub gone : List X
  pub whole : gone ++ rest ≡ all
  pub count : length gone ≡ n
  pub are : AreBegunOf config 0 (map store_of gone) begun

-- ---- their gates

-- the gate of such a unit, and the root's seat at it
pub record IsSeatOf (gate : UnitGate) (seat : UnitSeat) (b : BegunState) : Type 0 where
  pub kin : gate.kin ≡ Some (kin_of b.unit)
  pub seat_is : seat ≡ first_seat gate (entries_begun b) (marks_of b.unit)

abbrev pub AreSeatsOf : List UnitGate → List UnitSeat → List BegunState → Type 0
AreSeatsOf [] [] [] = ⊤
AreSeatsOf (g ∷ gs) (s ∷ ss) (b ∷ bs) = IsSeatOf g s b × AreSeatsOf gs ss bs
AreSeatsOf _ _ _ = ⊥

-- the gates of the first n units are made
pub record BuiltSoFar (all rest : List BegunState) (gates : List UnitGate) (seats : List UnitSeat) (seqs : List ℕ) (n : ℕ) : Type 0 where
  pub gone : List BegunState
  pub whole : gone ++ rest ≡ all
  pub count : length gone ≡ n
  pub seated : AreSeatsOf gates seats gone
  pub seqs_are : seqs ≡ map (λ (g : UnitGate). 0) gates

-- so far the gates are filled, and these are still vacant. There is room for all
pub record FilledSoFar (all rest : List BegunState) (vacant : List RecordedState) (gates : List UnitGate) (seats : List UnitSeat) (seqs : List ℕ) (n gate_room seat_room seq_room : ℕ) : Type 0 where
  pub built : BuiltSoFar all rest gates seats seqs n
  pub vacant_are : units_in rest ≡ vacant
  pub gates_fit : length all ≤ gate_room
  pub seats_fit : length all ≤ seat_room
  pub seqs_fit : length all ≤ seq_room

-- a world whose units are still to come: no pass is in its register, and its lists are empty and have room for so many
pub record IsVacantWorld (units : ℕ) (register : TableId) (slip : RootState) (gates : List UnitGate) (seats : List UnitSeat) (seqs : List ℕ) (gate_room seat_room seq_room : ℕ) (rooms : Room) : Type 0 where
  pub slip_is : slip ≡ record { register = register; out = []; joined = [] }
  pub no_gate : gates ≡ []
  pub no_seat : seats ≡ []
  pub no_seq : seqs ≡ []
  pub gates_fit : units ≤ gate_room
  pub seats_fit : units ≤ seat_room
  pub seqs_fit : units ≤ seq_room
  pub rooms_fit : HasRoom units rooms

-- the world of these units, and its root, which has seen the entries with which they begin
pub record IsBegunWith (config : Configuration) (units : List BegunState) (made : ℕ) (world : WorldView) (root : RootView) : Type 0 where
  pub config_is : world.config ≡ config
  pub gates : map (λ (g : UnitGate). g.kin) world.gates ≡ map (λ (b : BegunState). Some (kin_of b.unit)) units
  pub root_is : root ≡ record {
    config = world.config;
    gates = world.gates;
    register = world.register;
    made = made;
    out = [];
    joined = [];
    openings = map (λ (b : BegunState). length (entries_begun b)) units;
    seen = map entries_begun units;
    marks = map (λ (b : BegunState). marks_of b.unit) units;
  }

-- ---- units that go on with histories

-- the unit of this number has gone on with the history: this was dropped
pub record HasGoneOn (config : Configuration) (n : ℕ) (s : StoredUnit) (u : UnitState) : Type 0 where
  pub stands : Stands u (opening_entries config n s.history)
  pub folded : u.folded ≡ length s.history
  pub config_is : u.config ≡ config
  pub unit_is : u.unit ≡ n

abbrev pub HaveGoneOn : Configuration → ℕ → List StoredUnit → List UnitState → Type 0
HaveGoneOn config n [] [] = ⊤
HaveGoneOn config n (s ∷ ss) (u ∷ us) = HasGoneOn config n s u × HaveGoneOn config (suc n) ss us
HaveGoneOn config n _ _ = ⊥

-- the first n have, and of the later ones some is bad exactly where some of all is
pub record GoneOnSoFar (config : Configuration) (all : List StoredUnit) (units : List UnitState) (n : ℕ) : Type 0 where
  pub gone : List StoredUnit
  pub rest : List StoredUnit
  pub whole : gone ++ rest ≡ all
  pub count : length gone ≡ n
  pub have : HaveGoneOn config 0 gone units
  pub stored : AreStored config n rest
  pub bad : bad_history config n rest ≡ bad_history config 0 all

-- the units have their recorders so far, and these stores and units are left
pub record RecordersSoFar {X : Type 0} (store_of : X → StoredUnit) (fits : X → Type 0) (config : Configuration) (all rest : List X) (units : List UnitState) (begun : List BegunState) (n : ℕ) : Type 0 where
  pub begun_are : BegunSoFar store_of config all rest begun n
  pub have : HaveGoneOn config n (map store_of rest) units
  pub stored : AreStored config n (map store_of rest)
  pub fits_rest : Each fits rest

-- ---- units of which nothing was asked yet

-- the unit of this number is one
pub record IsNewUnit (config : Configuration) (n : ℕ) (u : UnitState) : Type 0 where
  pub stands : Stands u []
  pub folded : u.folded ≡ 0
  pub config_is : u.config ≡ config
  pub unit_is : u.unit ≡ n

abbrev pub AreNewUnits : Configuration → ℕ → List UnitState → Type 0
AreNewUnits config n [] = ⊤
AreNewUnits config n (u ∷ us) = IsNewUnit config n u × AreNewUnits config (suc n) us

-- they have their recorders so far, and these recorders and units are left
pub record NewSoFar {X : Type 0} (store_of : X → StoredUnit) (fits : X → Type 0) (config : Configuration) (all rest : List X) (units : List UnitState) (begun : List BegunState) (n : ℕ) : Type 0 where
  pub begun_are : BegunSoFar store_of config all rest begun n
  pub new : AreNewUnits config n units
  pub one_each : length units ≡ length rest
  pub fits_rest : Each fits rest

-- ---- want of memory

-- what a unit began with
abbrev pub store_in : BegunState → StoredUnit
store_in b = record { history = b.history; recorder = b.unit.recorder }

-- so far it is given back, as `f` has it, and these units are left. There is room for all
pub record GivenBackSoFar {X Y : Type 0} (f : X → Y) (g : BegunState → Y) (all rest : List BegunState) (back : List X) (room : ℕ) : Type 0 where
  pub are : map f back ++ map g rest ≡ map g all
  pub fit : length back + length rest ≤ room
