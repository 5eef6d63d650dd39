-- Keys are equal where they are the same
use Rattle.std.proofs.Common.{◌≡◌, refl, true, false, Bool}
use Rattle.std.specs.Prelude.{◌==◌, ◌&&◌}
use mathlib.Core.Bool.{beq}
use Rattle.copy_jobs.specs.declared.key.Key.{Key}
use Rattle.copy_jobs.specs.contracts.key.KeyPartialEq.TheImpl.{eq-value}
use Rattle.copy_jobs.specs.Keys.{same_kind}
use Rattle.copy_jobs.proofs.Entries.{IsOwn}

pub key-own : (key : Key) → IsOwn key (eq-value.it key)
key-own key other = agree (key.actor == other.actor) key.copy other.copy (key.id == other.id)
  where
    agree : (actor a b id : Bool) → (actor && (beq a b && id)) ≡ ((actor && same_kind a b) && id)
    agree true true true id = refl
    agree true true false id = refl
    agree true false true id = refl
    agree true false false id = refl
    agree false a b id = refl
