-- Each act that a copy of segments asks for may be asked
use Rattle.std.proofs.Common.{◌≡◌, ◌∙◌, ℕ, zero, suc, ◌+◌, ◌-◌, ◌/◌, ◌<◌, ◌≤◌, ◌^◌, List, [], ◌∷◌, ◌++◌, length, map, min, refl, ap, sym, subst, arith, false, true, Bool, slice_index, append_assoc}
use Rattle.std.specs.Prelude.{◌==◌, ◌&&◌, cond, not, nat_lt, nat_le, take, drop, slice_range, Option, Some, None, Result, Ok, Err, if◌then◌else◌}
use Rattle.std.proofs.lemmas.Bool.{eq-eqb, eqb-true, le-leb}
use Rattle.std.proofs.lemmas.Bool.Decides.{nat_tests}
use Rattle.std.proofs.lemmas.Grind.{common_steps}
use Rattle.std.proofs.lemmas.List.Elements.{All-drop, All-take}
use Rattle.cm_base.specs.Configuration.{Configuration}
use Rattle.cm_base.specs.Fields.{AreBytes, byte, field}
use Rattle.cm_base.specs.Units.{unit_of}
use Rattle.cm_base.proofs.PublicLaws.{field-fits}
use Rattle.lba_ranges.specs.HeldBlocks.{HeldBlocks}
use Rattle.lba_ranges.specs.Writings.{Held}
use Rattle.scsi_sense.specs.SenseCode.{SenseCode}
use Rattle.scsi_sense.specs.Codes.{invalid_field_in_parameter_list, copy_lba_out_of_range}
use Rattle.scsi_sense.specs.Faults.{unless, or_else, first_fault}
use Rattle.seg_parse.specs.declared.list.Cscd.{Cscd}
use Rattle.seg_parse.specs.declared.list.Segment.{Segment}
use Rattle.seg_parse.specs.declared.list.CopyList.{CopyList}
use Rattle.seg_parse.specs.Descriptors.{followed, segment, segment_fault, segments_read}
use Rattle.seg_parse.specs.ListRead.{usage, cscd_length, segment_length, head_fault, cscds_of, segments_of, copy_list, lid1_read}
use Rattle.pr_keys.specs.declared.refused.Refusal.{Refusal}
use Rattle.cm_history.specs.Bounds.{piece_blocks}
use Rattle.cm_history.specs.Room.{pieces}
use Rattle.cm_history.specs.declared.act.Act.{Act}
use Rattle.cm_history.specs.declared.act.CopyState.{CopyState}
use Rattle.cm_history.specs.declared.answer.Answer.{Answer}
use Rattle.cm_history.specs.Limits.{within_limits}
use Rattle.cm_history.specs.Operations.{is_running_copy}
use Rattle.cmd_program.specs.Program.{Program, Asks, done, refused, unless_refused}
use Rattle.cmd_program.specs.ExtendedCopy.{places, move_of, moves_of, cscd_fault, move_fault, size_fault, copy_fault, Move, Copying, Tally, close_as, end_state, left_of, copy_reply, closing, segment_done, piece_at, piece_put, unless_ended, putting, captured, copying, fresh, opening, copy_by, copy_read, extended_copy}
use Rattle.cmd_program.proofs.Short.{place-within}
use Rattle.cmd_program.proofs.Asks.{IsSized, IsLastAsked, IsAsking, first-none, last-none, unless_refused-asks, asked}

-- a move whose acts may be asked
pub record IsMove (config : Configuration) (m : Move) : Type 0 where
  pub source : m.source < length config.units
  pub destination : m.destination < length config.units
  pub same : (unit_of config m.source).block_length ≡ (unit_of config m.destination).block_length
  pub few : m.count ≤ 65_535

abbrev pub AreMoves : Configuration → List Move → Type 0
AreMoves config [] = Unit {0}
AreMoves config (m ∷ ms) = IsMove config m × AreMoves config ms

module _ (config : Configuration) (c : Copying) (there : c.unit < length config.units) where
  left-asks : (t : Tally) → IsLastAsked config (left_of c t)
  left-asks t = go c.opened
    where
      go : (opened : Bool) → IsLastAsked config (cond opened (Some (close_as c t CopyState.Terminated)) None)
      go true = asked config c.unit there (Act.Close c.id (record { state = CopyState.Terminated; segments = t.segments; bytes = t.bytes })) refl (λ n. refl)
      go false = tt

  reply-asks : (ended_by : Option Refusal) → IsAsking config (copy_reply ended_by)
  reply-asks None = tt
  reply-asks (Some Refusal.Conflict) = tt
  reply-asks (Some (Refusal.Refused sense)) = tt

  not-running : (ended_by : Option Refusal) → not (is_running_copy (end_state ended_by)) ≡ true
  not-running None = refl
  not-running (Some refusal) = refl

  closing-asks : (t : Tally) (ended_by : Option Refusal) → IsAsking config (closing c t ended_by)
  closing-asks t ended_by = go c.opened
    where
      go : (opened : Bool) → IsAsking config (cond opened (Asks (close_as c t (end_state ended_by)) (left_of c t) (unless_refused (copy_reply ended_by))) (copy_reply ended_by))
      go true = (
        asked config c.unit there (Act.Close c.id (record { state = end_state ended_by; segments = t.segments; bytes = t.bytes })) (not-running ended_by) (λ n. refl),
        left-asks t,
        λ a sized. unless_refused-asks config (copy_reply ended_by) a (reply-asks ended_by),
      )
      go false = reply-asks ended_by

  ended-asks : (t : Tally) (rest : Program) (a : Answer) → IsAsking config rest → IsAsking config (unless_ended c t rest a)
  ended-asks t rest (Answer.Refused sense) asks = closing-asks t (Some (Refusal.Refused sense))
  ended-asks t rest Answer.Conflict asks = closing-asks t (Some Refusal.Conflict)
  ended-asks t rest _ asks = asks

  piece-short : (n at : ℕ) (xs : List Held) → length xs ≡ n → length (slice_range xs at (at + min 1024 (n - at))) ≤ 1024
  piece-short n at xs is = grind (arith, common_steps, nat_tests)

  module _ (m : Move) (is : IsMove config m) (rest : Tally → Program) (goes : (t : Tally) → IsAsking config (rest t)) where
    putting-asks : (list : HeldBlocks) → list.block_length ≡ (unit_of config m.source).block_length → (left at : ℕ) (t : Tally) → IsAsking config (putting c m list rest left at t)
    putting-asks list size zero at t = goes (segment_done t)
    putting-asks list size (suc left) at t = (
      asked config m.destination is.destination (Act.Put (m.to + at) (piece_at list at)) limits (λ n. refl),
      left-asks t,
      λ a sized. ended-asks t (putting c m list rest left (at + piece_blocks) (piece_put t list at)) a (putting-asks list size left (at + piece_blocks) (piece_put t list at)),
    )
      where
        limits : within_limits config m.destination (Act.Put (m.to + at) (piece_at list at)) ≡ true
        limits =
            let short : nat_le (length (piece_at list at).items) piece_blocks ≡ true = le-leb (length (piece_at list at).items) 1024 (piece-short (length list.items) at list.items refl) in
            let fits : (list.block_length == (unit_of config m.destination).block_length) ≡ true = eq-eqb list.block_length (unit_of config m.destination).block_length (size ∙ is.same) in
            rw (short, fits) refl

    captured-asks : (t : Tally) (a : Answer) → IsSized config m.source (Act.Capture m.from m.count) a → IsAsking config (captured c m rest t a)
    captured-asks t (Answer.Blocks list) sized = putting-asks list sized.size (pieces m.count) 0 t
    captured-asks t (Answer.Refused sense) sized = closing-asks t (Some (Refusal.Refused sense))
    captured-asks t Answer.Conflict sized = closing-asks t (Some Refusal.Conflict)
    captured-asks t _ sized = tt

  copying-asks : (ms : List Move) → AreMoves config ms → (t : Tally) → IsAsking config (copying c ms t)
  copying-asks [] are t = closing-asks t None
  copying-asks (m ∷ ms) are t = go (m.count == 0) (copying-asks ms are.1)
    where
      go : (none : Bool) → ((after : Tally) → IsAsking config (copying c ms after)) → IsAsking config (cond none (copying c ms (segment_done t))
          (Asks (record { unit = m.source; act = Act.Capture m.from m.count }) (left_of c t) (captured c m (copying c ms) t)))
      go true goes = goes (segment_done t)
      go false goes = (
        asked config m.source are.0.source (Act.Capture m.from m.count) (le-leb m.count 65_535 are.0.few) (λ n. refl),
        left-asks t,
        λ a sized. captured-asks m are.0 (copying c ms) goes t a sized,
      )

opening-asks : (config : Configuration) (unit id : ℕ) (moves : List Move) (unrecorded : Bool) → unit < length config.units → AreMoves config moves → IsAsking config (opening unit id moves unrecorded)
opening-asks config unit id moves true there are = copying-asks config (record { unit = unit; id = id; opened = false }) there moves are fresh
opening-asks config unit id moves false there are = (
  asked config unit there (Act.Open id) refl (λ n. refl),
  tt,
  λ a sized. unless_refused-asks config (copying (record { unit = unit; id = id; opened = true }) moves fresh) a (copying-asks config (record { unit = unit; id = id; opened = true }) there moves are fresh),
)

-- ---- the list

-- each segment has as many blocks as two bytes tell
abbrev FewEach : List Segment → Type 0
FewEach [] = Unit {0}
FewEach (s ∷ ss) = (s.count ≤ 65_535) × FewEach ss

abbrev HasFewEach : Result (List Segment) SenseCode → Type 0
HasFewEach (Err sense) = Unit {0}
HasFewEach (Ok segments) = FewEach segments

followed-each : (s : Segment) (read : Result (List Segment) SenseCode) → s.count ≤ 65_535 → HasFewEach read → HasFewEach (followed s read)
followed-each s (Err sense) few rest = tt
followed-each s (Ok segments) few rest = (few, rest)

unless-each : (fault : Option SenseCode) (read : Result (List Segment) SenseCode) → HasFewEach read → HasFewEach (unless fault read)
unless-each (Some sense) read few = tt
unless-each None read few = few

two-bytes : (n : ℕ) → n < 65_536 → n ≤ 65_535
two-bytes n low = omega (arith, low)

segments-each : (cscds n : ℕ) (bytes : List ℕ) → AreBytes bytes → HasFewEach (segments_read cscds n bytes)
segments-each cscds n [] are = tt
segments-each cscds zero (b ∷ bs) are = tt
segments-each cscds (suc n) (b ∷ bs) are =
    unless-each (segment_fault cscds (b ∷ bs)) (followed (segment (b ∷ bs)) (segments_read cscds n (drop 28 (b ∷ bs))))
    (followed-each (segment (b ∷ bs)) (segments_read cscds n (drop 28 (b ∷ bs))) (two-bytes (segment (b ∷ bs)).count (field-fits 10 2 (b ∷ bs) are))
    (segments-each cscds n (drop 28 (b ∷ bs)) (All-drop (λ x. x < 256) 28 (b ∷ bs) are)))

moves-are : (config : Configuration) (units : List ℕ) (segments : List Segment) (rest : List (Option SenseCode)) → FewEach segments → ((i : ℕ) → slice_index units i < length config.units)
    → first_fault (map (move_fault config) (map (move_of units) segments) ++ rest) ≡ None → AreMoves config (map (move_of units) segments)
moves-are config units [] rest few within none = tt
moves-are config units (s ∷ ss) rest few within none = (
  record { source = within s.source; destination = within s.destination; same = same; few = few.0 },
  moves-are config units ss rest few.1 within (last-none (move_fault config (move_of units s)) (first_fault (map (move_fault config) (map (move_of units) ss) ++ rest)) none),
)
  where
    alike : (a : Bool) (later : Option SenseCode) → (if not a then Some invalid_field_in_parameter_list else later) ≡ None → a ≡ true
    alike true later e = refl
    alike false later e = cc

    same : (unit_of config (slice_index units s.source)).block_length ≡ (unit_of config (slice_index units s.destination)).block_length
    same = eqb-true _ _ (alike _ _ (first-none (move_fault config (move_of units s)) (first_fault (map (move_fault config) (map (move_of units) ss) ++ rest)) none))

behind-none : (xs ys : List (Option SenseCode)) → first_fault (xs ++ ys) ≡ None → first_fault ys ≡ None
behind-none [] ys none = none
behind-none (x ∷ xs) ys none = behind-none xs ys (last-none x (first_fault (xs ++ ys)) none)

by-asks : (config : Configuration) (unit : ℕ) (list : CopyList) → unit < length config.units → FewEach list.segments
    → (fault : Option SenseCode) → copy_fault config list ≡ fault → IsAsking config (copy_by config unit list fault)
by-asks config unit list there few (Some sense) is = tt
by-asks config unit list there few None is =
    opening-asks config unit list.id (moves_of config list) (list.usage == 3) there
    (moves-are config (places config list.units) list.segments (size_fault config (moves_of config list) ∷ []) few
    (λ i. place-within config list.units i (some (length config.units) unit there))
    (behind-none (map (cscd_fault config) list.units) (map (move_fault config) (moves_of config list) ++ size_fault config (moves_of config list) ∷ [])
    (subst (λ l. first_fault l ≡ None) (append_assoc (map (cscd_fault config) list.units) (map (move_fault config) (moves_of config list)) (size_fault config (moves_of config list) ∷ [])) is)))
  where
    some : (n u : ℕ) → u < n → 0 < n
    some n u low = omega (arith, low)

list-asks : (config : Configuration) (unit : ℕ) (bytes : List ℕ) (units : Result (List Cscd) SenseCode) (segments : Result (List Segment) SenseCode)
    → unit < length config.units → HasFewEach segments → IsAsking config (copy_read config unit (copy_list bytes units segments))
list-asks config unit bytes (Err sense) segments there few = tt
list-asks config unit bytes (Ok units) (Err sense) there few = tt
list-asks config unit bytes (Ok units) (Ok segments) there few = by-asks config unit (record { id = byte bytes 0; usage = usage bytes; units = units; segments = segments }) there few _ refl

read-list-asks : (config : Configuration) (unit : ℕ) (bytes : List ℕ) (fault : Option SenseCode)
    → unit < length config.units → AreBytes bytes → IsAsking config (copy_read config unit (unless fault (copy_list bytes (cscds_of bytes) (segments_of bytes))))
read-list-asks config unit bytes (Some sense) there are = tt
read-list-asks config unit bytes None there are =
    list-asks config unit bytes (cscds_of bytes) (segments_of bytes) there
    (segments-each (cscd_length bytes / 32) 64 (slice_range bytes (16 + cscd_length bytes) (16 + cscd_length bytes + segment_length bytes))
    (All-take (λ x. x < 256) _ _ (All-drop (λ x. x < 256) (16 + cscd_length bytes) bytes are)))

pub extended-asks : (config : Configuration) (unit length' : ℕ) (bytes : List ℕ) → unit < length config.units → AreBytes bytes → IsAsking config (extended_copy config unit length' (lid1_read bytes))
extended-asks config unit zero bytes there are = tt
extended-asks config unit (suc n) bytes there are = read-list-asks config unit bytes (head_fault bytes) there are
