-- A write of a token that was done
use Rattle.std.proofs.Common.{◌≡◌, ℕ, ◌+◌, ◌-◌, ◌<◌, ◌≤◌, ◌^◌, List, [], ◌∷◌, ◌++◌, length, length-append, length-drop, take, drop, refl, ap, sym, ◌∙◌, subst, arith, true, false, Bool, append_assoc}
use Rattle.std.specs.Prelude.{Result, slice_range, map, IsTrue}
use Rattle.std.proofs.lemmas.List.{length-take}
use Rattle.lba_ranges.specs.declared.ranges.Range.{Range}
use Rattle.lba_ranges.specs.Denoted.{blocks_of, total}
use Rattle.lba_ranges.specs.HeldBlocks.{HeldBlocks}
use Rattle.lba_ranges.specs.Writings.{Held, paired}
use Rattle.cm_base.specs.Units.{is_configured}
use Rattle.scsi_sense.specs.Codes.{logical_unit_not_supported}
use Rattle.rod_token.specs.TokenText.{classify, serial_of}
use Rattle.cm_history.specs.declared.act.Entry.{Entry}
use Rattle.cm_history.specs.Blocks.{held}
use Rattle.cm_history.specs.History.{on, past_of}
use Rattle.cm_history.specs.Laws.{place_on}
use Rattle.cm_history.specs.Legal.{IsLegal}
use Rattle.cm_history.proofs.PublicLaws.{length-past}
use Rattle.cmd_program.specs.Judging.{program}
use Rattle.cmd_program.specs.TokenWrite.{TokenWrite, rod_part, write_by}
use Rattle.copy_plan.specs.Jobs.{CopyJob}
use Rattle.odx_host.specs.declared.fault.Copied.{Copied}
use Rattle.odx_host.specs.declared.fault.CopyFault.{CopyFault}
use Rattle.odx_host.specs.Talk.{Talked}
use Rattle.odx_host.specs.Worlds.{World}
use Rattle.odx_host.specs.Requests.{token_timeout, write_list, write_request}
use Rattle.odx_host.specs.Rule.{HostProgram, Asks, Ends, if_good, polling}
use Rattle.odx_host.specs.Ruled.{AreAsked, after}
use Rattle.odx_host.specs.Copies.{Copies, Placed, IsOwn, is_start, written_of}
use Rattle.odx_host.proofs.Ran.{RanIn, never-refused}
use Rattle.odx_host.proofs.Programs.{MayName, write-program, not-there}
use Rattle.odx_host.proofs.Reports.{length-text}
use Rattle.odx_host.proofs.Redeeming.{at-whole, take-whole, text-names, text-serial, rod-shown}
use Rattle.odx_host.proofs.Starting.{write-begun}
use Rattle.odx_host.proofs.Work.{work}
use Rattle.odx_host.proofs.Polled.{poll-on}
use Rattle.odx_host.proofs.Populating.{HasToken}
use Rattle.odx_host.proofs.Advancing.{Remains, remains-longer, ask-on}

-- the nexus began a write, which gave the blocks of these ranges the items from an offset on
pub record HasWritten (v : World) (n unit : ℕ) (ranges : List Range) (items : List Held) (offset : ℕ) : Type 0 where
  pub start : Placed
  pub own : IsOwn v n unit start
  pub is : IsTrue (is_start start.entry.act)
  pub wrote : written_of v start ≡ paired (blocks_of ranges) (take (total ranges) (drop offset items))

write-ran : (v : World) (unit id : ℕ) (token : List ℕ) (offset : ℕ) (delete : Bool) (ranges : List Range) (h2 h : List Entry) (bytes : List ℕ) → id < 2 ^ 32 → MayName ranges
    → offset < 2 ^ 64 → length token ≡ 512
    → RanIn v.config v.nexus (program v.config (write_request unit id token offset delete ranges)) h2 h bytes
    → RanIn v.config v.nexus (write_by v.config (record { unit = unit; id = id; list = write_list token offset delete ranges }) (classify token)) h2 h bytes
write-ran v unit id token offset delete ranges h2 h bytes low named high whole ran = go (is_configured v.config unit) refl
  where
    go : (t : Bool) → is_configured v.config unit ≡ t
        → RanIn v.config v.nexus (write_by v.config (record { unit = unit; id = id; list = write_list token offset delete ranges }) (classify token)) h2 h bytes
    go true is = subst (λ p. RanIn v.config v.nexus p h2 h bytes) (write-program v.config unit id token offset delete ranges is low named high whole) ran
    go false is = absurd (never-refused v.config v.nexus logical_unit_not_supported h2 h bytes
        (subst (λ p. RanIn v.config v.nexus p h2 h bytes) (not-there v.config (write_request unit id token offset delete ranges) is) ran))

-- the place of the entry among those of its unit
place-is : (v : World) (unit : ℕ) (front behind : List Entry) (e : Entry) → front ++ e ∷ behind ≡ v.history
    → place_on unit v.history (length front) ≡ length (past_of v.config unit front)
place-is v unit front behind e whole =
    ap (λ l. length (on unit l)) (take-whole front (e ∷ behind) v.history whole) ∙ sym (length-past v.config unit front)

module _ (job : CopyJob) (w v : World) (outcome : Result Copied CopyFault) (legal : IsLegal v.config v.history) (n source made_id unit id : ℕ) (parts ranges : List Range)
    (low : id < 2 ^ 32) (named : MayName ranges) (few : total ranges ≤ 1_048_576) (creator : source < 2 ^ 16) where
  pub write-on : (token : List ℕ) (offset : ℕ) (delete : Bool) (next : HostProgram) (polls : ℕ) (talk : List Talked) (h : List Entry) → n ≤ length h
      → (t : HasToken v n source made_id parts (length h) token) → offset < 2 ^ 64
      → AreAsked (Asks (write_request unit id token offset delete ranges) (if_good id (λ none. polling unit id (total ranges) next polls))) talk
      → after (Asks (write_request unit id token offset delete ranges) (if_good id (λ none. polling unit id (total ranges) next polls))) talk ≡ Ends outcome → Remains v h talk
      → ((ts : List Talked) (h2 : List Entry) → length h ≤ length h2 → AreAsked next ts → after next ts ≡ Ends outcome → Remains v h2 ts
      → HasWritten v n unit ranges (map (held (past_of v.config source t.front)) (blocks_of parts)) offset → Copies job outcome w v)
      → Copies job outcome w v
  write-on token offset delete next polls talk h late t high asked ends r k =
      ask-on job w v outcome (write_request unit id token offset delete ranges) id (λ none. polling unit id (total ranges) next polls) talk h asked ends r
      (λ none ts h2 more over left ran.
      let tw : TokenWrite = record { unit = unit; id = id; list = write_list token offset delete ranges } in
      let size : length token ≡ 512 = ap length t.token_is ∙ length-text v.config source t.serial (total parts) in
      let names = ap classify t.token_is ∙ text-names v.config source t.serial (total parts) creator t.low in
      let b = write-begun v.config v.nexus n tw source t.serial h2 h none late refl names
      (write-ran v unit id token offset delete ranges h2 h none low named high size ran) in
      let rest = remains-longer v h2 ts left in
      let whole_r : b.redeeming ++ b.r ∷ (b.behind ++ rest.0) ≡ v.history =
      sym (append_assoc b.redeeming (b.r ∷ b.behind) rest.0) ∙ ap (λ x. x ++ rest.0) b.whole ∙ rest.1 in
      let before = t.passed in
      let then_on = b.late in
      let shown = rod-shown v.config v.history t.front t.behind b.redeeming (b.behind ++ rest.0) t.e b.r source made_id token_timeout t.serial unit parts token b.rod
      legal t.whole t.on_unit t.asks t.made (ap serial_of t.token_is ∙ text-serial v.config source t.serial (total parts) t.low)
      (omega (arith, before, then_on)) whole_r b.on_unit b.asks b.answered in
      let its = map (held (past_of v.config source t.front)) (blocks_of parts) in
      let rod = rod_part tw b.rod in
      let there = ap (λ (x : HeldBlocks). x.items) shown in
      let count : offset + total ranges - offset ≡ total ranges = omega arith in
      let part : rod.items ≡ take (total ranges) (drop offset its) =
      ap (λ x. slice_range x offset (offset + total ranges)) there ∙ ap (λ k. take k (drop offset its)) count in
      let some = b.few in
      let have = ap length there in
      let whole : length rod.items ≡ total ranges =
      ap length part ∙ length-take (total ranges) (drop offset its) ∙ omega (arith, length-drop offset its, some, have) in
      let s = b.start in
      let l = s.leaves in
      let front = (b.redeeming ++ b.r ∷ []) ++ s.others in
      let one = length-append front (s.e ∷ l.quiet) in
      let all = ap length l.whole in
      let later = l.late in
      poll-on job w v outcome n unit id ranges rod whole few low front s.e polls next ts h2 l more over left
      (λ ts2 h3 further asked2 ends2 left2 done.
      let whole_s : front ++ s.e ∷ (l.quiet ++ rest.0) ≡ v.history =
      sym (append_assoc front (s.e ∷ l.quiet) rest.0) ∙ ap (λ x. x ++ rest.0) l.whole ∙ rest.1 in
      let two = length-append b.redeeming (b.r ∷ []) in
      let three = length-append (b.redeeming ++ b.r ∷ []) s.others in
      k ts2 h3 (omega (arith, one, all, two, three, then_on, further)) asked2 ends2 left2 (record {
        start = record { place = length front; entry = s.e };
        own = record {
          late = later;
          at = at-whole front (l.quiet ++ rest.0) v.history s.e whole_s;
          actor = l.actor;
          on_unit = l.on_unit;
        };
        is = ap is_start l.asks;
        wrote =
            ap (λ u. work (past_of v.config u v.history) (place_on u v.history (length front))) l.on_unit
            ∙ ap (work (past_of v.config unit v.history)) (place-is v unit front (l.quiet ++ rest.0) s.e whole_s)
            ∙ done ∙ ap (paired (blocks_of ranges)) part;
      })))
