-- One more act of a unit, after a list of entries for which it stands
use Rattle.std.specs.Prelude.{◌≡◌, ℕ, ◌+◌, List, max, Some, is_some, Bool, true, false}
use Rattle.std.specs.Str.{bytes_eq}
use Rattle.lba_ranges.specs.Denoted.{total}
use Rattle.rod_token.specs.TokenText.{token_text}
use Rattle.cm_history.specs.Redeeming.{are_alike, named_token}
use Rattle.cm_base.specs.Units.{unit_of}
use Rattle.cm_history.specs.declared.act.Act.{Act}
use Rattle.cm_history.specs.declared.act.Actor.{Actor}
use Rattle.cm_history.specs.declared.act.Entry.{Entry}
use Rattle.cm_history.specs.Deeds.{Deed, moment}
use Rattle.cm_history.specs.History.{past_of}
use Rattle.cm_history.specs.Ends.{ends_operation}
use Rattle.cm_history.specs.Operations.{OfToken, OfCopy, would_serve}
use Rattle.cm_history.specs.Answers.{is_busy}
use Rattle.cm_history.specs.Folding.{live_in}
use Rattle.cm_history.specs.Tokens.{Token, Live, is_over}
use Rattle.cm_history.specs.Room.{is_full}
use Rattle.unit_core.specs.UnitState.{UnitState}

abbrev pub past : UnitState → List Entry → List Deed
past s entries = past_of s.config s.unit entries

-- the greatest moment of these entries
abbrev pub moment_at : UnitState → List Entry → ℕ
moment_at s entries = moment (past s entries)

-- the record, which has not the folded entries, has no room for the act
abbrev pub is_full_at : UnitState → List Entry → Actor → ℕ → Act → Bool
is_full_at s entries actor stamp act = is_full (unit_of s.config s.unit) s.folded (past s entries) actor stamp act

-- the entry of an act, with the stamp behind the greater of the caller's and the unit's last
abbrev pub entry_at : UnitState → Actor → ℕ → ℕ → ℕ → Act → Entry
entry_at s actor seq stamp moment act =
    record { stamp = max stamp s.image.last_stamp + 1; unit = s.unit; actor = actor; seq = seq; moment = moment; act = act }

-- the act serves a running operation
abbrev pub serves_operation : UnitState → List Entry → Actor → Act → Bool
serves_operation s entries actor act = is_some (would_serve (past s entries) actor act)

-- it is an End, Abort or Close that serves an operation
abbrev pub ends_operation_at : UnitState → List Entry → Actor → Act → Bool
ends_operation_at s entries actor act = ends_operation (past s entries) actor act

-- an operation of the actor and the identifier runs
abbrev pub is_busy_at : UnitState → List Entry → Actor → Bool → ℕ → Bool
is_busy_at s entries actor true id = is_busy (past s entries) actor OfCopy id
is_busy_at s entries actor false id = is_busy (past s entries) actor OfToken id

-- how many tokens are live
abbrev pub live_at : UnitState → List Entry → ℕ
live_at s entries = live_in (past s entries)

-- the text names a live token of the unit, unaltered, which may be used at the target
pub record MayRedeem (s : UnitState) (entries : List Entry) (at : ℕ) (text : List ℕ) (target : ℕ) (t : Token) : Type 0 where
  pub named : named_token (past s entries) text ≡ Some t
  pub alike : are_alike (unit_of s.config s.unit) (unit_of s.config target) ≡ true
  pub unaltered : bytes_eq text (token_text s.config s.unit t.serial (total t.ranges)) ≡ true
  pub live : t.fate ≡ Live
  pub in_time : is_over (max at (moment (past s entries))) t ≡ false
