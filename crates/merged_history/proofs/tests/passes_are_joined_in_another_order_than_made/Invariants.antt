use Rattle.std.proofs.Common.{[]}
use Rattle.merged_history.proofs.tests.passes_are_joined_in_another_order_than_made.Given as goal

abbrev pub ghost-join : goal.ghost-join
ghost-join a = []
