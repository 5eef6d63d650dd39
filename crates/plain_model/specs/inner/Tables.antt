-- The tables of the plain answers, as those of a past
use Rattle.std.specs.Prelude.{◌≡◌, List}
use Rattle.cm_history.specs.Deeds.{Deed}
use Rattle.cm_history.specs.Tokens.{tokens}
use Rattle.cm_history.specs.Operations.{operations, kept}
use Rattle.cm_history.specs.Reserving.{reservations}
use Rattle.plain_model.specs.declared.tables.PlainTables.{PlainTables}

-- the tables come of the past
pub record ComeOf (past : List Deed) (made : PlainTables) : Type 0 where
  pub all_tokens : made.tokens.items ≡ tokens past
  pub all_operations : made.operations.items ≡ operations past
  pub all_records : made.kept.items ≡ kept past
  pub all_reservations : made.reservations ≡ reservations past
