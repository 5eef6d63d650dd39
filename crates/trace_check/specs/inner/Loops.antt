-- How far a trace was played
use Rattle.std.specs.Prelude.{◌≡◌, ℕ, List, []}
use Rattle.cm_base.specs.Configuration.{Configuration}
use Rattle.cmd_program.specs.Judging.{step}
use Rattle.trace_replay.specs.ReplayState.{ReplayState}
use Rattle.trace_replay.specs.Played.{Played, played_from}
use Rattle.trace_check.specs.declared.machine.Machine.{Machine}
use Rattle.trace_check.specs.inner.Machines.{IsStanding}

-- Played so far, with `n` more items allowed behind a place, the trace is what these bytes play to.
pub record IsAt (whole : Played) (n place : ℕ) (bytes : List ℕ) (m : Machine) : Type 0 where
  pub config : Configuration
  pub s : ReplayState
  pub is : IsStanding config s m
  pub plays : played_from step config s n place bytes [] ≡ whole
