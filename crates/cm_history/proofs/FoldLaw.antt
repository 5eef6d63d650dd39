-- The image of a unit says all that its answers, and its later images, depend on
use Rattle.cm_history.specs.Image.{FoldPromise}
use Rattle.std.proofs.Common.{◌≡◌, ℕ, ◌^◌, List, [], ◌∷◌, ◌++◌, length, refl, ap, sym, ◌∙◌, arith, true, false, Bool, inl, inr}
use Rattle.std.specs.Prelude.{Option, Some, None, ◌⊎◌, ◌&&◌, not, map, find, max, nat_le, option_map, if◌then◌else◌}
use Rattle.std.proofs.lemmas.Bool.{cases_eq, or_left, or_right}
use Rattle.lba_ranges.specs.declared.ranges.Range.{Range}
use Rattle.lba_ranges.specs.Denoted.{row, blocks_of, is_within}
use Rattle.lba_ranges.specs.Writings.{Held, Writing, after}
use Rattle.cm_base.specs.Configuration.{Configuration}
use Rattle.cm_base.specs.declared.config.UnitConfig.{UnitConfig}
use Rattle.cm_base.specs.Units.{unit_of}
use Rattle.rod_token.specs.TokenText.{serial_of}
use Rattle.cm_history.specs.declared.act.Act.{Act}
use Rattle.cm_history.specs.declared.act.Actor.{Actor}
use Rattle.cm_history.specs.declared.act.Entry.{Entry}
use Rattle.cm_history.specs.declared.answer.Answer.{Answer}
use Rattle.scsi_sense.specs.Codes.{lba_out_of_range, operation_in_progress, insufficient_resources, invalid_field_in_cdb}
use Rattle.cm_history.specs.Deeds.{Deed, moment, is_refusal, is_answered}
use Rattle.cm_history.specs.Blocks.{held, cut}
use Rattle.cm_history.specs.Tokens.{tokens, token_after, made_token}
use Rattle.cm_history.specs.Redeeming.{named_token}
use Rattle.cm_history.specs.Operations.{Operation, OfToken, OfCopy, has_key, is_making, is_foreground, operations, is_running, running, fits, would_serve, made_operation, keep, kept, operation_after}
use Rattle.cm_history.specs.Answers.{answer_after, answer_unbarred, answer_populate, answer_end, answer_report, answer_recall, done_if, is_busy, deed, writings, wrote_of}
use Rattle.cm_history.specs.Reserving.{reservations, bars_act}
use Rattle.cm_history.specs.History.{past_of, answer}
use Rattle.cm_history.specs.Image.{image, token_image, operation_image, OperationImage, TokenImage, SameImage}
use Rattle.cm_history.proofs.Imaging.{redeem_by, progress_of, piece_by, now_of, token_by, made_by, tokens_by, end_by, done_by, report_by, recall_by, unbarred_by, answer_by, writings_by, kept_by, keep_by, new_by, is_served_by, moved_by, change_first, with_answer, next_image}
use Rattle.cm_history.proofs.Lists.{Each-in, In-filter, find-in}
use Rattle.cm_history.proofs.Finding.{find-passes, map-append}
use Rattle.cm_history.proofs.Counts.{IsPast, IsBegun, begun}
use Rattle.cm_history.proofs.CountLaw.{past-is}
use Rattle.cm_history.proofs.Reserved.{free-answered}
use Rattle.cm_history.proofs.Keys.{and_second}
use Rattle.cm_history.proofs.Made.{length-map, past_of-mine, past_of-other}
use Rattle.cm_history.proofs.ImageBlocks.{SameBelow, now-is, map-row, read-same, write-same, status-same, mapped-with-same, cut-same}
use Rattle.cm_history.proofs.ImageTokens.{map-token-image, made-token-image, redeem-image, get-map}
use Rattle.cm_history.proofs.ImageOperations.{would-image, busy-image, running-image, found-image, IsStart, progress-image, piece-image, after-image, keep-image, new-image}

-- ---- the answers

pub held-image : (u : UnitConfig) (past : List Deed) → SameBelow u.blocks (now_of (image u past).blocks) (held past)
held-image u past = now-is (held past) u.blocks

-- an operation that an act would serve has begun its list
served-begun : (config : Configuration) (unit : ℕ) (past : List Deed) (actor : Actor) (act : Act) (o : Operation) → IsPast config unit past → would_serve past actor act ≡ Some o → IsBegun o
served-begun config unit past actor act o is e =
    Each-in IsBegun (operations past) o (begun config unit past is) (In-filter is_running (operations past) o (find-in (fits actor act) (running past) o e))

start-advance : (config : Configuration) (unit : ℕ) (past : List Deed) (actor : Actor) (id : ℕ) → IsPast config unit past → IsStart (would_serve past actor (Act.Advance id))
start-advance config unit past actor id is = go (would_serve past actor (Act.Advance id)) refl
  where
    go : (w : Option Operation) → would_serve past actor (Act.Advance id) ≡ w → IsStart w
    go None e = tt
    go (Some o) e = (
      or_left _ _ (and_second (has_key actor OfToken id o) (is_foreground o.made.entry.act) (find-passes (fits actor (Act.Advance id)) (running past) o e)),
      served-begun config unit past actor (Act.Advance id) o is e,
    )

start-pump : (config : Configuration) (unit : ℕ) (past : List Deed) (actor : Actor) → IsPast config unit past → IsStart (would_serve past actor Act.Pump)
start-pump config unit past actor is = go (would_serve past actor Act.Pump) refl
  where
    go : (w : Option Operation) → would_serve past actor Act.Pump ≡ w → IsStart w
    go None e = tt
    go (Some o) e = (or_right (is_foreground o.made.entry.act) _ (find-passes (fits actor Act.Pump) (running past) o e), served-begun config unit past actor Act.Pump o is e)

end-image : (w : Option Operation) → end_by (option_map operation_image w) ≡ answer_end w
end-image None = refl
end-image (Some o) = refl

done-image : (w : Option Operation) → done_by (option_map operation_image w) ≡ done_if w
done-image None = refl
done-image (Some o) = refl

report-image : (w : Option Operation) → report_by (option_map operation_image w) ≡ answer_report w
report-image None = refl
report-image (Some o) = refl

recall-image : (w : Option Operation) → recall_by (option_map operation_image w) ≡ answer_recall w
recall-image None = refl
recall-image (Some o) = refl

-- the answer to an act that nothing bars is a function of the image
unbarred-image : (config : Configuration) (unit : ℕ) (past : List Deed) (actor : Actor) (now : ℕ) (act : Act) → IsPast config unit past
    → unbarred_by config unit (image (unit_of config unit) past) actor now act ≡ answer_unbarred config unit past actor now act
unbarred-image config unit past actor now (Act.Read lba count) is = read-same (unit_of config unit) _ (held past) lba count (held-image (unit_of config unit) past)
unbarred-image config unit past actor now (Act.Write lba list) is = write-same (unit_of config unit) _ (held past) lba list.items (held-image (unit_of config unit) past)
unbarred-image config unit past actor now (Act.Unmap ranges) is = refl
unbarred-image config unit past actor now (Act.MapStatus lba) is = status-same (unit_of config unit) _ (held past) lba (held-image (unit_of config unit) past)
unbarred-image config unit past actor now (Act.Populate id timeout ranges) is =
    rw (busy-image config unit past actor OfToken id is, length-map (token_image (unit_of config unit)) (tokens past)) refl
unbarred-image config unit past actor now (Act.Redeem text target) is =
    ap (λ o. redeem_answer o) (get-map (token_image (unit_of config unit)) (tokens past) (serial_of text))
    ∙ sym (redeem-image config unit (max now (moment past)) text target (named_token past text))
  where
    redeem_answer : Option TokenImage → Answer
    redeem_answer o = redeem_by config unit (max now (moment past)) text target o
unbarred-image config unit past actor now (Act.Delete serial) is = refl
unbarred-image config unit past actor now (Act.Start id background ranges rod) is =
    rw (busy-image config unit past actor OfToken id is, running-image config unit past is) refl
unbarred-image config unit past actor now (Act.Advance id) is =
    let u = unit_of config unit in
    ap (progress_of u (now_of (image u past).blocks) (Answer.Refused invalid_field_in_cdb)) (would-image config unit past actor (Act.Advance id) is)
    ∙ progress-image u past (now_of (image u past).blocks) (Answer.Refused invalid_field_in_cdb) (would_serve past actor (Act.Advance id))
    (λ ws. mapped-with-same u (now_of (image u past).blocks) (held past) ws (held-image u past)) (start-advance config unit past actor id is)
unbarred-image config unit past actor now Act.Pump is =
    let u = unit_of config unit in
    ap (progress_of u (now_of (image u past).blocks) Answer.Idle) (would-image config unit past actor Act.Pump is)
    ∙ progress-image u past (now_of (image u past).blocks) Answer.Idle (would_serve past actor Act.Pump)
    (λ ws. mapped-with-same u (now_of (image u past).blocks) (held past) ws (held-image u past)) (start-pump config unit past actor is)
unbarred-image config unit past actor now (Act.End id) is = ap end_by (would-image config unit past actor (Act.End id) is) ∙ end-image (would_serve past actor (Act.End id))
unbarred-image config unit past actor now (Act.Abort id) is = ap done_by (would-image config unit past actor (Act.Abort id) is) ∙ done-image (would_serve past actor (Act.Abort id))
unbarred-image config unit past actor now (Act.Report id) is = ap report_by (found-image actor OfToken id (kept past)) ∙ report-image (find (has_key actor OfToken id) (kept past))
unbarred-image config unit past actor now (Act.Capture lba count) is = read-same (unit_of config unit) _ (held past) lba count (held-image (unit_of config unit) past)
unbarred-image config unit past actor now (Act.Put lba list) is = write-same (unit_of config unit) _ (held past) lba list.items (held-image (unit_of config unit) past)
unbarred-image config unit past actor now (Act.Open id) is =
    rw (busy-image config unit past actor OfCopy id is, running-image config unit past is) refl
unbarred-image config unit past actor now (Act.Close id result) is =
    ap done_by (would-image config unit past actor (Act.Close id result) is) ∙ done-image (would_serve past actor (Act.Close id result))
unbarred-image config unit past actor now (Act.Recall id) is = ap recall_by (found-image actor OfCopy id (kept past)) ∙ recall-image (find (has_key actor OfCopy id) (kept past))
unbarred-image config unit past actor now (Act.PrOut action scope kind key action_key) is = refl
unbarred-image config unit past actor now Act.PrKeys is = refl
unbarred-image config unit past actor now Act.PrHolder is = refl

-- so is each answer
pub answer-image : (config : Configuration) (unit : ℕ) (past : List Deed) (actor : Actor) (now : ℕ) (act : Act) → IsPast config unit past
    → answer_by config unit (image (unit_of config unit) past) actor now act ≡ answer_after config unit past actor now act
answer-image config unit past actor now act is =
    ap (λ (a : Answer). if bars_act (reservations past) actor act then Answer.Conflict else a) (unbarred-image config unit past actor now act is)

-- and what the act writes
pub writings-image : (config : Configuration) (unit : ℕ) (past : List Deed) (actor : Actor) (act : Act) → IsPast config unit past
    → writings_by (image (unit_of config unit) past) actor act ≡ writings past actor act
writings-image config unit past actor (Act.Write lba list) is = refl
writings-image config unit past actor (Act.Put lba list) is = refl
writings-image config unit past actor (Act.Unmap ranges) is = refl
writings-image config unit past actor (Act.Advance id) is =
    ap piece_by (would-image config unit past actor (Act.Advance id) is) ∙ piece-image (would_serve past actor (Act.Advance id))
writings-image config unit past actor Act.Pump is =
    ap piece_by (would-image config unit past actor Act.Pump is) ∙ piece-image (would_serve past actor Act.Pump)
writings-image config unit past actor _ is = refl

-- ---- the image after one more deed

-- the ranges of a token that was made lie within the unit
populate-within : (u : UnitConfig) (past : List Deed) (actor : Actor) (id : ℕ) (ranges : List Range)
    → not (is_refusal (answer_populate u past actor id ranges)) ≡ true → is_within u.blocks ranges ≡ true
populate-within u past actor id ranges e = go (is_busy past actor OfToken id) (is_within u.blocks ranges) (nat_le (2 ^ 48) (length (tokens past))) e
  where
    go : (a b c : Bool) → not (is_refusal (if a then Answer.Refused operation_in_progress else if not b then Answer.Refused lba_out_of_range else if c then Answer.Refused insufficient_resources else Answer.Made (length (tokens past)))) ≡ true
        → b ≡ true
    go true b c x = cc
    go false false c x = cc
    go false true c x = refl

pub tokens-image : (config : Configuration) (unit : ℕ) (past : List Deed) (e : Entry)
    → map (token_image (unit_of config unit)) (tokens (deed config unit past e ∷ past))
    ≡ tokens_by (unit_of config unit) (image (unit_of config unit) past) (max e.moment (moment past)) (is_answered (deed config unit past e)) e.act
tokens-image config unit past e =
    let u = unit_of config unit in
    let d = deed config unit past e in
    let now = now_of (image u past).blocks in
    let made = made_token d past (length (tokens past)) e.act in
    map-append (token_image u) (map (token_after d (tokens past)) (tokens past)) made
    ∙ ap (λ l. l ++ map (token_image u) made) (map-token-image u d (tokens past) (tokens past))
    ∙ ap (λ l. map (token_by d.moment (is_answered d) e.act (map (token_image u) (tokens past))) (map (token_image u) (tokens past)) ++ l)
    (made-token-image u d past now (length (tokens past)) e.act shows ∙ ap (λ n. made_by u now d.moment (is_answered d) n e.act) (sym (length-map (token_image u) (tokens past))))
  where
    shows : (id timeout : ℕ) (ranges : List Range) → e.act ≡ Act.Populate id timeout ranges → is_answered (deed config unit past e) ≡ true
        → cut (unit_of config unit) (now_of (image (unit_of config unit) past).blocks) (blocks_of ranges) ≡ cut (unit_of config unit) (held past) (blocks_of ranges)
    shows id timeout ranges is answered =
        cut-same (unit_of config unit) ranges _ (held past) (held-image (unit_of config unit) past)
        (populate-within (unit_of config unit) past e.actor id ranges (free-answered (bars_act (reservations past) e.actor (Act.Populate id timeout ranges)) _
        (sym (ap (λ a. not (is_refusal (answer_after config unit past e.actor e.moment a))) is) ∙ answered)))

pub kept-image : (config : Configuration) (unit : ℕ) (past : List Deed) (e : Entry) → IsPast config unit past
    → map operation_image (kept (deed config unit past e ∷ past))
    ≡ kept_by (image (unit_of config unit) past) e.actor e.act (deed config unit past e).answer (deed config unit past e).wrote
kept-image config unit past e is = go (is_making e.act && not (is_refusal (deed config unit past e).answer))
  where
    d : Deed
    d = deed config unit past e

    go : (t : Bool) → map operation_image (if t then keep (kept past) (made_operation (deed config unit past e)) else map (operation_after (deed config unit past e)) (kept past))
        ≡ (if t then keep_by (map operation_image (kept past)) (new_by e.actor e.act (deed config unit past e).answer)
        else change_first (is_served_by e.actor e.act) (moved_by (deed config unit past e).answer (deed config unit past e).wrote e.act) (map operation_image (kept past)))
    go true = keep-image (kept past) (made_operation (deed config unit past e)) ∙ ap (keep_by (map operation_image (kept past))) (new-image (deed config unit past e))
    go false = after-image config unit past (deed config unit past e) is refl

-- the image after one more entry, by its answer and what it wrote
pub deed-image : (config : Configuration) (unit : ℕ) (past : List Deed) (e : Entry) → IsPast config unit past
    → image (unit_of config unit) (deed config unit past e ∷ past)
    ≡ with_answer (unit_of config unit) (image (unit_of config unit) past) e (deed config unit past e).answer (deed config unit past e).wrote
deed-image config unit past e is =
    let u = unit_of config unit in
    let d = deed config unit past e in
    let now = image u (d ∷ past) in
    let blocks : map (held (d ∷ past)) (row 0 u.blocks) ≡ map (λ b. after d.wrote b (now_of (image u past).blocks b)) (row 0 u.blocks) =
    map-row u.blocks 0 u.blocks (held (d ∷ past)) (λ b. after d.wrote b (now_of (image u past).blocks b)) (λ b low. ap (after d.wrote b) (sym (held-image u past b low))) (omega arith) in
    ap (λ (l : List Held). record now { blocks = l }) blocks
    ∙ ap (λ (l : List TokenImage). record now { blocks = map (λ b. after d.wrote b (now_of (image u past).blocks b)) (row 0 u.blocks); tokens = l }) (tokens-image config unit past e)
    ∙ ap (λ (l : List OperationImage). record (with_answer u (image u past) e d.answer d.wrote) { kept = l }) (kept-image config unit past e is)

-- the image of one more entry is a function of the image and the entry
pub next-image : (config : Configuration) (unit : ℕ) (past : List Deed) (e : Entry) → IsPast config unit past
    → image (unit_of config unit) (deed config unit past e ∷ past) ≡ next_image config unit (image (unit_of config unit) past) e
next-image config unit past e is =
    let u = unit_of config unit in
    let i = image u past in
    deed-image config unit past e is
    ∙ ap (λ (ws : List Writing). with_answer u i e (answer_after config unit past e.actor e.moment e.act) (wrote_of (answer_after config unit past e.actor e.moment e.act) ws)) (sym (writings-image config unit past e.actor e.act is))
    ∙ ap (λ (a : Answer). with_answer u i e a (wrote_of a (writings_by i e.actor e.act))) (sym (answer-image config unit past e.actor e.moment e.act is))

-- ---- two histories

-- two histories with one image are answered alike
pub answers-alike : (config : Configuration) (a b : List Entry) (unit : ℕ) (actor : Actor) (now : ℕ) (act : Act) → SameImage config unit a b
    → answer config a unit actor now act ≡ answer config b unit actor now act
answers-alike config a b unit actor now act same =
    sym (answer-image config unit (past_of config unit a) actor now act (past-is config unit a))
    ∙ ap (λ i. answer_by config unit i actor now act) same
    ∙ answer-image config unit (past_of config unit b) actor now act (past-is config unit b)

-- and stay so with one more entry
pub images-again : (config : Configuration) (a b : List Entry) (unit : ℕ) (e : Entry) → SameImage config unit a b → SameImage config unit (a ++ e ∷ []) (b ++ e ∷ [])
images-again config a b unit e same = go (cases_eq e.unit unit)
  where
    u : UnitConfig
    u = unit_of config unit

    go : (e.unit ≡ unit) ⊎ (e.unit ≡ unit → ⊥) → SameImage config unit (a ++ e ∷ []) (b ++ e ∷ [])
    go (inl here) =
        ap (image (unit_of config unit)) (past_of-mine config unit a e here)
        ∙ next-image config unit (past_of config unit a) e (past-is config unit a)
        ∙ ap (λ i. next_image config unit i e) same
        ∙ sym (next-image config unit (past_of config unit b) e (past-is config unit b))
        ∙ sym (ap (image (unit_of config unit)) (past_of-mine config unit b e here))
    go (inr other) =
        ap (image (unit_of config unit)) (past_of-other config unit a e other) ∙ same ∙ sym (ap (image (unit_of config unit)) (past_of-other config unit b e other))

pub fold_law : (config : Configuration) (a b : List Entry) (unit : ℕ) (actor : Actor) (now : ℕ) (act : Act)
    → SameImage config unit a b → FoldPromise config a b unit actor now act
fold_law config a b unit actor now act same = record {
  alike = answers-alike config a b unit actor now act same;
  again = λ e. images-again config a b unit e same;
}
