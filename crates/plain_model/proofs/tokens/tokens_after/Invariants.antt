use Rattle.std.proofs.Common.{◌≡◌, map, take}
use Rattle.cm_history.specs.Tokens.{token_after}
use Rattle.plain_model.proofs.tokens.tokens_after.Given as goal

abbrev pub invariant-loop-token : goal.invariant-loop-token
invariant-loop-token l = l.next.items ≡ map (token_after l.deed l.tokens) (take l.token-index l.tokens)
