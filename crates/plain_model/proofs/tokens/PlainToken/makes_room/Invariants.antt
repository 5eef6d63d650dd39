use Rattle.std.proofs.Common.{◌≡◌, ◌≤◌, length, take}
use Rattle.std.specs.Prelude.{filter}
use Rattle.std.specs.List.{list_all}
use Rattle.cm_history.specs.Tokens.{is_live_at, is_older}
use Rattle.plain_model.proofs.tokens.PlainToken.makes_room.Given as goal

abbrev pub invariant-loop-token : goal.invariant-loop-token
invariant-loop-token l = record {
  counted : l.live ≡ length (filter (is_live_at l.now) (take l.token-index l.tokens));
  few : l.live ≤ l.token-index;
  older : l.oldest ≡ list_all (is_older l.self) (filter (is_live_at l.now) (take l.token-index l.tokens));
}
