-- A unit of a generated trace between two acts: nothing is reserved, and its record has room
use Rattle.std.proofs.Common.{◌≡◌, ℕ, suc, ◌+◌, ◌-◌, ◌*◌, ◌^◌, ◌<◌, ◌≤◌, List, [], ◌∷◌, ◌++◌, length, Bool, true, false, refl, ap, ◌∙◌, arith, length-append}
use Rattle.std.specs.Prelude.{None, ◌==◌, ◌||◌, ◌&&◌, nat_le, nat_lt, filter, find, map, max, sum_by, option_map, if◌then◌else◌}
use Rattle.std.specs.List.{list_any}
use Rattle.std.proofs.lemmas.Bool.Decides.{nat_tests}
use Rattle.std.proofs.lemmas.List.Elements.{filter-append}
use Rattle.cm_base.specs.declared.config.UnitConfig.{UnitConfig}
use Rattle.cm_base.specs.Units.{unit_of}
use Rattle.lba_ranges.specs.declared.ranges.Range.{Range}
use Rattle.lba_ranges.specs.Denoted.{is_within}
use Rattle.lba_ranges.specs.Writings.{Held, Writing, held_with}
use Rattle.lba_ranges.proofs.PublicLaws.{mapped-le}
use Rattle.cm_history.specs.declared.act.Act.{Act}
use Rattle.cm_history.specs.declared.act.Actor.{Actor}
use Rattle.cm_history.specs.declared.act.Entry.{Entry}
use Rattle.cm_history.specs.Blocks.{mapped_with}
use Rattle.cm_history.specs.Deeds.{Deed, moment, last_stamp}
use Rattle.cm_history.specs.Operations.{Operation, OfToken, operations, made_operation, makes_operation, running, is_running, fits, has_key}
use Rattle.cm_history.specs.Tokens.{tokens, token_after, made_token}
use Rattle.pr_keys.specs.Reservations.{unreserved}
use Rattle.cm_history.specs.Reserving.{reservations, reserved_by as left_by, bars_actor}
use Rattle.cm_history.specs.Answers.{deed, writings, is_busy}
use Rattle.cm_history.specs.Room.{is_full, is_write, bytes_in, need, payload, kept_free, still_needed}
use Rattle.cm_history.proofs.PublicLaws.{served_none}
use Rattle.generator.specs.Settings.{settings, unit}
use Rattle.round_counts.proofs.Sized.{Sized, WritesBlocks, more-sized, wrote-sized}

-- So many tokens were made, nothing is reserved, the moment is `now` at most, deeds and stamps are `few` at most, and each
-- deed wrote blocks of 512 bytes, of which the record has 4096 for each deed at most.
pub record Kept (serial now few : ℕ) (past : List Deed) : Type 0 where
  pub made : length (tokens past) ≡ serial
  pub free : reservations past ≡ unreserved
  pub moment : moment past ≤ now
  pub count : length past ≤ few
  pub stamp : last_stamp past ≤ few
  pub bytes : payload 0 past ≤ 4096 * few
  pub sized : Sized past

-- and no operation runs
pub record Quiet (serial now few : ℕ) (past : List Deed) : Type 0 where
  pub kept : Kept serial now few past
  pub idle : running past ≡ []

-- before the first act
pub none-yet : Quiet 0 0 0 []
none-yet = record {
  kept = record { made = refl; free = refl; moment = omega arith; count = omega arith; stamp = omega arith; bytes = omega arith; sized = λ b. refl };
  idle = refl;
}

pub weaker : (serial now few later more : ℕ) (past : List Deed) → Kept serial now few past → now ≤ later → few ≤ more → Kept serial later more past
weaker serial now few later more past k a b = record {
  made = k.made;
  free = k.free;
  moment = omega (arith, k.moment, a);
  count = omega (arith, k.count, b);
  stamp = omega (arith, k.stamp, b);
  bytes = omega (arith, k.bytes, b);
  sized = k.sized;
}

-- ---- room

-- so many entries are kept free for the operations that run
pub has-room : (u serial now few free : ℕ) (past : List Deed) (actor : Actor) (stamp : ℕ) (act : Act) → unit_of settings u ≡ unit → Kept serial now few past → few < 60_000 → stamp ≤ few
    → kept_free past ≡ free → free + need past actor act ≤ 100 → bytes_in act ≤ 4096 → is_full (unit_of settings u) 0 past actor stamp act ≡ false
has-room u serial now few free past actor stamp act same k small low kept fits size =
    ap (λ (c : UnitConfig). is_full c 0 past actor stamp act) same ∙ room
  where
    stamps : (max stamp (last_stamp past) == 2 ^ 64 - 1) ≡ false
    stamps = let a = k.stamp in grind (arith, nat_tests)

    entries : nat_lt 1_048_576 (length past - 0 + kept_free past + need past actor act) ≡ false
    entries = let a = k.count in grind (arith, nat_tests)

    bytes : nat_lt 268_435_456 (payload 0 past + bytes_in act) ≡ false
    bytes = let a = k.bytes in grind (arith, nat_tests)

    never : (t : Bool) → (t && false) ≡ false
    never true = refl
    never false = refl

    room : is_full unit 0 past actor stamp act ≡ false
    room =
        ap (λ t. (t || nat_lt 1_048_576 (length past - 0 + kept_free past + need past actor act)) || (is_write act && nat_lt 268_435_456 (payload 0 past + bytes_in act))) stamps
        ∙ ap (λ t. t || (is_write act && nat_lt 268_435_456 (payload 0 past + bytes_in act))) entries
        ∙ ap (λ t. is_write act && t) bytes
        ∙ never (is_write act)

pub none-free : (past : List Deed) → running past ≡ [] → kept_free past ≡ 0
none-free past idle = ap (sum_by (λ (o : Operation). still_needed (length o.servers) o.made.entry.act)) idle

-- no more blocks are mapped than there are
pub within-quota : (u : ℕ) (holds : ℕ → Held) (more : List Writing) → unit_of settings u ≡ unit → nat_lt (unit_of settings u).quota (mapped_with (unit_of settings u) holds more) ≡ false
within-quota u holds more same = ap (λ (c : UnitConfig). nat_lt c.quota (mapped_with c holds more)) same ∙ go (mapped_with unit holds more) (mapped-le 1_048_576 (held_with holds more))
  where
    go : (n : ℕ) → n ≤ 1_048_576 → nat_lt 1_048_576 n ≡ false
    go n few = grind (arith, nat_tests)

-- ---- one more deed

length-map : {X Y : Type 0} (f : X → Y) (xs : List X) → length (map f xs) ≡ length xs
length-map f [] = refl
length-map f (x ∷ xs) = ap suc (length-map f xs)

more-tokens : (d : Deed) (past : List Deed) → length (tokens (d ∷ past)) ≡ length (tokens past) + length (made_token d past (length (tokens past)) d.entry.act)
more-tokens d past =
    length-append (map (token_after d (tokens past)) (tokens past)) (made_token d past (length (tokens past)) d.entry.act)
    ∙ ap (λ n. n + length (made_token d past (length (tokens past)) d.entry.act)) (length-map (token_after d (tokens past)) (tokens past))

pub still-kept : (u serial now few more : ℕ) (past : List Deed) (e : Entry) → Kept serial now few past → e.moment ≤ now → e.stamp ≤ few + 1
    → length (made_token (deed settings u past e) past (length (tokens past)) e.act) ≡ more → left_by (reservations past) e.actor e.act ≡ reservations past
    → bytes_in e.act ≤ 4096 → WritesBlocks (writings past e.actor e.act)
    → Kept (serial + more) now (few + 1) (deed settings u past e ∷ past)
still-kept u serial now few more past e k early low new keeps size writes = record {
  made = more-tokens (deed settings u past e) past ∙ omega (arith, k.made, new);
  free = keeps ∙ k.free;
  moment = omega (arith, k.moment, early);
  count = omega (arith, k.count);
  stamp = low;
  bytes = bytes (nat_le 0 (length past));
  sized = more-sized (deed settings u past e) past (wrote-sized _ (writings past e.actor e.act) writes) k.sized;
}
  where
    bytes : (t : Bool) → payload 0 past + (if t then bytes_in e.act else 0) ≤ 4096 * (few + 1)
    bytes true = let a = k.bytes in omega (arith, a, size)
    bytes false = let a = k.bytes in omega (arith, a)

-- nothing is served where nothing runs
pub serves-none : (u : ℕ) (past : List Deed) (e : Entry) → running past ≡ [] → (deed settings u past e).served ≡ None
serves-none u past e idle = ap (λ os. option_map (λ (o : Operation). o.made.place) (find (fits e.actor e.act) os)) idle

-- the operation that a deed made, if it made one
abbrev pub made_by : Deed → List Operation
made_by d = if makes_operation d then made_operation d ∷ [] else []

-- of the operations that ran before none runs
pub runs-next : (u : ℕ) (past : List Deed) (e : Entry) → (deed settings u past e).served ≡ None → running (deed settings u past e ∷ past) ≡ running past ++ filter is_running (made_by (deed settings u past e))
runs-next u past e none =
    ap (λ os. filter is_running (os ++ made_by (deed settings u past e))) (served_none (deed settings u past e) (operations past) none)
    ∙ filter-append is_running (operations past) (made_by (deed settings u past e))

pub still-quiet : (u serial now few more : ℕ) (past : List Deed) (e : Entry) → Quiet serial now few past → e.moment ≤ now → e.stamp ≤ few + 1
    → filter is_running (made_by (deed settings u past e)) ≡ [] → length (made_token (deed settings u past e) past (length (tokens past)) e.act) ≡ more
    → left_by (reservations past) e.actor e.act ≡ reservations past → bytes_in e.act ≤ 4096 → WritesBlocks (writings past e.actor e.act)
    → Quiet (serial + more) now (few + 1) (deed settings u past e ∷ past)
still-quiet u serial now few more past e q early low none new keeps size writes = record {
  kept = still-kept u serial now few more past e q.kept early low new keeps size writes;
  idle = runs-next u past e (serves-none u past e q.idle) ∙ ap (λ os. os ++ filter is_running (made_by (deed settings u past e))) q.idle ∙ none;
}

-- where nothing is reserved nothing is barred
unreserved-free : (actor : Actor) (writes : Bool) → bars_actor unreserved actor writes ≡ false
unreserved-free (Actor.Nexus n) writes = refl
unreserved-free (Actor.Pump u) writes = refl

pub unbarred : (serial now few : ℕ) (past : List Deed) (actor : Actor) (writes : Bool) → Kept serial now few past → bars_actor (reservations past) actor writes ≡ false
unbarred serial now few past actor writes k = ap (λ s. bars_actor s actor writes) k.free ∙ unreserved-free actor writes

pub not-busy : (past : List Deed) (actor : Actor) (id : ℕ) → running past ≡ [] → is_busy past actor OfToken id ≡ false
not-busy past actor id idle = ap (list_any (has_key actor OfToken id)) idle

-- the eight blocks from a place on
abbrev pub eight : ℕ → List Range
eight lba = record { lba = lba; count = 8 } ∷ []

pub eight-within : (u lba : ℕ) → unit_of settings u ≡ unit → lba + 8 ≤ 1_048_576 → is_within (unit_of settings u).blocks (eight lba) ≡ true
eight-within u lba same low = ap (λ (c : UnitConfig). is_within c.blocks (eight lba)) same ∙ here
  where
    here : is_within 1_048_576 (eight lba) ≡ true
    here = grind (arith, nat_tests)
