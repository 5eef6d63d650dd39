-- What playing some bytes says of playing more
use Rattle.std.specs.Prelude.{◌≡◌, ℕ, ◌+◌, List, ◌++◌}
use Rattle.cm_base.specs.Configuration.{Configuration}
use Rattle.cm_base.specs.declared.parsed.Parsed.TheVariants.{Whole}
use Rattle.cm_frame.specs.Reading.{read_header}
use Rattle.cmd_program.specs.Stepping.{Stepping}
use Rattle.trace_replay.specs.ReplayState.{ReplayState, Shortage}
use Rattle.trace_replay.specs.Played.{played, played_from}
use Rattle.trace_replay.specs.Shortages.{may_lack, may_lack_from}

-- the bytes begin with a header of this configuration
pub record HasHeader (config : Configuration) (bytes : List ℕ) : Type 0 where
  pub used : ℕ
  pub read : read_header bytes ≡ Whole config used

-- The bytes that were pulled are those of a header and of whole items, and the buffered ones behind them. Whatever comes
-- behind the items plays from this state, where `n` more items are allowed and the buffer stands at a place; and shortages
-- may stand so far where they stand.
pub record StandsAt (step : Stepping) (config : Configuration) (pulled : List ℕ) (shortages : List Shortage) (s : ReplayState) (n place : ℕ) (buffered : List ℕ) : Type 0 where
  pub front : List ℕ
  pub all : front ++ buffered ≡ pulled
  pub header : HasHeader config front
  pub plays : (more : List ℕ) (later : List Shortage)
      → played step (front ++ more) (shortages ++ later) ≡ played_from step config s n place more later
  pub may : (more : List ℕ) (later : List Shortage)
      → may_lack step (front ++ more) (shortages ++ later) ≡ may_lack_from step config s n place more later
