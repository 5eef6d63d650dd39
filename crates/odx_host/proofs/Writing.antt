-- The writes of a token, and the parts of a copy, follow their programs
use Rattle.std.proofs.Common.{◌≡◌, ◌∙◌, ℕ, suc, ◌+◌, ◌-◌, ◌<◌, ◌≤◌, List, [], ◌++◌, length, refl, sym, ap, subst, arith, true, false, inl, inr}
use Rattle.std.specs.Prelude.{◌⊎◌, ◌==◌, Result, Ok, Err}
use Rattle.std.proofs.lemmas.Bool.{cases_lt}
use Rattle.std.proofs.lemmas.Bool.Decides.{nat_tests}
use Rattle.lba_ranges.specs.declared.ranges.Range.{Range}
use Rattle.lba_ranges.specs.Denoted.{total}
use Rattle.block_params.specs.declared.lists.WriteList.{WriteList}
use Rattle.cm_frame.specs.declared.frame.Request.{Request}
use Rattle.copy_plan.specs.Jobs.{CopyJob}
use Rattle.copy_plan.specs.Plans.{IsLongestRun, longest_run}
use Rattle.copy_plan.proofs.PublicLaws.{run-longest}
use Rattle.odx_host.specs.declared.copying.Host.{Host}
use Rattle.odx_host.specs.declared.fault.Copied.{Copied}
use Rattle.odx_host.specs.declared.fault.CopyFault.{CopyFault}
use Rattle.odx_host.specs.Talk.{Talked}
use Rattle.odx_host.specs.Requests.{write_request, write_list}
use Rattle.odx_host.specs.Parts.{part_at, place_behind, ranges_at}
use Rattle.odx_host.specs.Rule.{HostProgram, Asks, if_good, polling, writing, copying, populating, next_step, one_write, one_token, is_last, rule}
use Rattle.odx_host.specs.Ruled.{AreAsked, after, EndsSo, IsRuled}
use Rattle.odx_host.specs.inner.Steps.{StopsSo, steps_in, Follows, HasAsked, HasPolled, HasPopulated, HasWritten, HasWrittenAll, HasCopiedPart, WritesOn, CopiesOn, writes_on, writes_to_come, parts_to_come, behind_write}
use Rattle.odx_host.proofs.Steps.{follows-on, after-append, asked-append}
use Rattle.odx_host.proofs.Coming.{run-some, writes-next, writes-end, parts-next, writes-of}

-- ---- one write

same-test : (q last : ℕ) → q < last → (q == last) ≡ false
same-test q last low = grind (arith, nat_tests)

same-end : (q last : ℕ) → q ≡ last → (q == last) ≡ true
same-end q last e = grind (arith, nat_tests)

writes-last : (to : List Range) (q last : ℕ) → q ≤ last → last ≤ total to → is_last (writes_to_come to q last) ≡ (q == last)
writes-last to q last high within = go (cases_lt q last)
  where
    go : (q < last) ⊎ (last ≤ q) → is_last (writes_to_come to q last) ≡ (q == last)
    go (inl low) = ap is_last (writes-next to q last within low) ∙ sym (same-test q last low)
    go (inr over) = ap is_last (writes-end to q last over) ∙ sym (same-end q last (omega arith))

abbrev pub its_request : CopyJob → List ℕ → Copied → ℕ → ℕ → ℕ → Request
its_request job token done first last place =
    write_request job.target (next_step done) token (place - first) (behind_write job.to place last == last) (longest_run job.to place (last - place))

-- what follows the reply to the write
abbrev behind : CopyJob → List ℕ → (Copied → HostProgram) → Copied → ℕ → ℕ → ℕ → List ℕ → HostProgram
behind job token go_on done first last place none =
    polling job.target (next_step done) (total (longest_run job.to place (last - place)))
    (writes_on job token go_on (one_write done) first last (behind_write job.to place last)) job.polls

opened : (job : CopyJob) (token : List ℕ) (go_on : Copied → HostProgram) (done : Copied) (first last place : ℕ) → first ≤ place → place < last → last ≤ total job.to
    → writes_on job token go_on done first last place ≡ Asks (its_request job token done first last place) (if_good (next_step done) (behind job token go_on done first last place))
opened job token go_on done first last place begun some within =
    let run = longest_run job.to place (last - place) in
    let q = behind_write job.to place last in
    let longest : IsLongestRun job.to place (last - place) (total run) = run-longest job.to place (last - place) (omega arith) in
    let few = longest.within in
    let high : q ≤ last = omega arith in
    let offset : place - first + total run ≡ q - first = omega arith in
    ap (λ ws. writing job token go_on done (place - first) ws) (writes-next job.to place last within some)
    ∙ ap (λ b. Asks (write_request job.target (next_step done) token (place - first) b run) (if_good (next_step done)
    (λ none. polling job.target (next_step done) (total run) (writing job token go_on (one_write done) (place - first + total run) (writes_to_come job.to q last)) job.polls)))
    (writes-last job.to q last high within)
    ∙ ap (λ n. Asks (its_request job token done first last place) (if_good (next_step done)
    (λ none. polling job.target (next_step done) (total run) (writing job token go_on (one_write done) n (writes_to_come job.to q last)) job.polls))) offset

module _ (job : CopyJob) (token : List ℕ) (done : Copied) (first last place : ℕ) (begun : first ≤ place) (some : place < last) (within : last ≤ total job.to) where
  at-write : {B : Type 0} (go_on : Copied → HostProgram) (talk : List Talked) (next : B → HostProgram) (r : Result B CopyFault)
      → Follows (Asks (its_request job token done first last place) (if_good (next_step done) (behind job token go_on done first last place))) talk next r
      → Follows (writes_on job token go_on done first last place) talk next r
  at-write {B} go_on talk next r f = subst (λ p. Follows p talk next r) (sym (opened job token go_on done first last place begun some within)) f

  -- memory was wanted before it was asked
  pub write-refused : (xs : List Talked) (fault : CopyFault) → HasAsked (its_request job token done first last place) (next_step done) xs (Err fault)
      → HasWritten job token done first last place xs (Err fault)
  write-refused xs fault asked = λ go_on.
      at-write {B = Unit {0}} go_on xs (λ none. writes_on job token go_on (one_write done) first last (behind_write job.to place last)) (Err fault)
      (asked (behind job token go_on done first last place))

  pub write-polled : (xs ys : List Talked) (bytes : List ℕ) (r : Result (Unit {0}) CopyFault) → HasAsked (its_request job token done first last place) (next_step done) xs (Ok bytes)
      → HasPolled job.target (next_step done) (total (longest_run job.to place (last - place))) job.polls ys r
      → HasWritten job token done first last place (xs ++ ys) r
  write-polled xs ys bytes r asked polled = λ go_on.
      let next = writes_on job token go_on (one_write done) first last (behind_write job.to place last) in
      at-write {B = Unit {0}} go_on (xs ++ ys) (λ none. next) r
      (follows-on {B = Unit {0}} (Asks (its_request job token done first last place) (if_good (next_step done) (behind job token go_on done first last place)))
      (behind job token go_on done first last place bytes) xs ys (λ none. next) r
      (asked (behind job token go_on done first last place)) (polled next))

-- ---- the request that was built

pub request-is : (job : CopyJob) (token : List ℕ) (done : Copied) (first last place unit step : ℕ) (to : List Range) (list : WriteList) (request : Request)
    → request ≡ write_request unit step list.token list.offset list.delete list.ranges → unit ≡ job.target → step ≡ next_step done
    → list ≡ write_list token (place - first) (behind_write to place last == last) (longest_run to place (last - place)) → to ≡ job.to
    → request ≡ its_request job token done first last place
request-is job token done first last place unit step to list request is unit_is step_is list_is to_is =
    is
    ∙ ap (λ u. write_request u step list.token list.offset list.delete list.ranges) unit_is
    ∙ ap (λ s. write_request job.target s list.token list.offset list.delete list.ranges) step_is
    ∙ ap (λ (w : WriteList). write_request job.target (next_step done) w.token w.offset w.delete w.ranges) list_is
    ∙ ap (λ es. write_request job.target (next_step done) token (place - first) (behind_write es place last == last) (longest_run es place (last - place))) to_is

pub blocks-are : (job : CopyJob) (token : List ℕ) (first last place blocks : ℕ) (to : List Range) (list : WriteList) → blocks ≡ total list.ranges
    → list ≡ write_list token (place - first) (behind_write to place last == last) (longest_run to place (last - place)) → to ≡ job.to
    → blocks ≡ total (longest_run job.to place (last - place))
blocks-are job token first last place blocks to list is list_is to_is =
    is ∙ ap (λ (w : WriteList). total w.ranges) list_is ∙ ap (λ es. total (longest_run es place (last - place))) to_is

-- ---- all writes of a token

pub writes-first : (job : CopyJob) (token : List ℕ) (done : Copied) (first last : ℕ) → WritesOn job token done first last done first []
writes-first job token done first last = λ go_on. (tt, refl)

pub writes-on : (job : CopyJob) (token : List ℕ) (done so_far : Copied) (first last place : ℕ) (xs ys : List Talked) → WritesOn job token done first last so_far place xs
    → HasWritten job token so_far first last place ys (Ok (tt {0})) → WritesOn job token done first last (one_write so_far) (behind_write job.to place last) (xs ++ ys)
writes-on job token done so_far first last place xs ys runs written = λ go_on.
    let p = writes_on job token go_on done first last first in
    let here = runs go_on in
    let more = written go_on in (
      asked-append p xs ys here.0 (subst (λ s. AreAsked s ys) (sym here.1) more.0),
      after-append p xs ys ∙ ap (λ s. after s ys) here.1 ∙ more.1,
    )

pub writes-stop : (job : CopyJob) (token : List ℕ) (done so_far then_done : Copied) (first last place : ℕ) (xs ys : List Talked) (fault : CopyFault) → WritesOn job token done first last so_far place xs
    → HasWritten job token so_far first last place ys (Err fault) → HasWrittenAll job token done first last then_done (xs ++ ys) (Err fault)
writes-stop job token done so_far then_done first last place xs ys fault runs written = λ go_on.
    follows-on {B = Unit {0}} (writes_on job token go_on done first last first) (writes_on job token go_on so_far first last place) xs ys (λ none. go_on then_done) (Err fault) (runs go_on) (written go_on)

pub writes-done : (job : CopyJob) (token : List ℕ) (done so_far : Copied) (first last place : ℕ) (xs : List Talked) → last ≤ place → WritesOn job token done first last so_far place xs
    → HasWrittenAll job token done first last so_far xs (Ok (tt {0}))
writes-done job token done so_far first last place xs over runs = λ go_on.
    let here = runs go_on in
    (here.0, here.1 ∙ ap (λ ws. writing job token go_on so_far (place - first) ws) (writes-end job.to place last over))

-- ---- one part

-- what follows the token of a part
abbrev write_part : CopyJob → Copied → ℕ → List ℕ → HostProgram
write_part job done place token =
    writing job token (λ so_far. copying job so_far (parts_to_come job (place_behind job place))) (one_token done) 0 (part_at job place).writes

opened-part : (job : CopyJob) (done : Copied) (place : ℕ) → place < total job.from
    → copying job done (parts_to_come job place) ≡ populating job.source (next_step done) (ranges_at job place) (write_part job done place)
opened-part job done place some = ap (λ ps. copying job done ps) (parts-next job place some)

-- the writes begin at the part's place
begun-part : (job : CopyJob) (done : Copied) (place : ℕ) (token : List ℕ)
    → write_part job done place token
    ≡ writes_on job token (λ so_far. copying job so_far (parts_to_come job (place_behind job place))) (one_token done) place (place_behind job place) place
begun-part job done place token =
    let go_on : Copied → HostProgram = λ so_far. copying job so_far (parts_to_come job (place_behind job place)) in
    let none : 0 ≡ place - place = omega arith in
    ap (λ ws. writing job token go_on (one_token done) 0 ws) (writes-of job place)
    ∙ ap (λ n. writing job token go_on (one_token done) n (writes_to_come job.to place (place_behind job place))) none

module _ (job : CopyJob) (done then_done : Copied) (place : ℕ) (some : place < total job.from) where
  pub part-untold : (xs : List Talked) (fault : CopyFault) → HasPopulated job.source (next_step done) (ranges_at job place) xs (Err fault)
      → HasCopiedPart job done place then_done xs (Err fault)
  part-untold xs fault populated =
      subst (λ p. Follows {A = Unit {0}} p xs (λ none. copying job then_done (parts_to_come job (place_behind job place))) (Err fault)) (sym (opened-part job done place some))
      (populated (write_part job done place))

  pub part-written : (xs ys : List Talked) (token : List ℕ) (r : Result (Unit {0}) CopyFault) → HasPopulated job.source (next_step done) (ranges_at job place) xs (Ok token)
      → HasWrittenAll job token (one_token done) place (place_behind job place) then_done ys r
      → HasCopiedPart job done place then_done (xs ++ ys) r
  part-written xs ys token r populated written =
      let go_on : Copied → HostProgram = λ so_far. copying job so_far (parts_to_come job (place_behind job place)) in
      let next : HostProgram = copying job then_done (parts_to_come job (place_behind job place)) in
      subst (λ p. Follows {A = Unit {0}} p (xs ++ ys) (λ none. next) r) (sym (opened-part job done place some))
      (follows-on {B = Unit {0}} (populating job.source (next_step done) (ranges_at job place) (write_part job done place)) (write_part job done place token) xs ys (λ none. next) r
      (populated (write_part job done place))
      (subst (λ p. Follows {A = Unit {0}} p ys (λ none. next) r) (sym (begun-part job done place token)) (written go_on)))

-- ---- how far a copy has come

pub behind-in : (to : List Range) (place last : ℕ) → place < last → last ≤ total to → (place < behind_write to place last) × (behind_write to place last ≤ last)
behind-in to place last some within =
    let longest : IsLongestRun to place (last - place) (total (longest_run to place (last - place))) = run-longest to place (last - place) (omega arith) in
    let few = longest.within in
    let more : 0 < total (longest_run to place (last - place)) = run-some to place (last - place) (omega arith) (omega arith) in
    (omega arith, omega arith)

pub one-less : (to : List Range) (place last : ℕ) → place < last → last ≤ total to
    → length (writes_to_come to place last) ≡ suc (length (writes_to_come to (behind_write to place last) last))
one-less to place last some within = ap length (writes-next to place last within some)

-- a host that goes on is otherwise as it was
pub host-on : (i s n : Host) (place : ℕ) (copied : Copied) → n ≡ record s { to = record s.to { place = place }; copied = copied }
    → s ≡ record i { to = record i.to { place = s.to.place }; copied = s.copied } → n ≡ record i { to = record i.to { place = n.to.place }; copied = n.copied }
host-on i s n place copied is was =
    let all : n ≡ record i { to = record i.to { place = place }; copied = copied } = is ∙ ap (λ (h : Host). record h { to = record h.to { place = place }; copied = copied }) was in
    all
    ∙ ap (λ p. record i { to = record i.to { place = p }; copied = copied }) (sym (ap (λ (h : Host). h.to.place) all))
    ∙ ap (λ c. record i { to = record i.to { place = n.to.place }; copied = c }) (sym (ap (λ (h : Host). h.copied) all))

pub populated-is : (unit unit' step step' : ℕ) (ranges ranges' : List Range) (talk : List Talked) (r : Result (List ℕ) CopyFault) → unit ≡ unit' → step ≡ step' → ranges ≡ ranges'
    → HasPopulated unit step ranges talk r → HasPopulated unit' step' ranges' talk r
populated-is unit unit' step step' ranges ranges' talk r a b c h =
    subst (λ u. HasPopulated u step' ranges' talk r) a (subst (λ s. HasPopulated unit s ranges' talk r) b (subst (λ l. HasPopulated unit step l talk r) c h))

pub written-is : (job job' : CopyJob) (token : List ℕ) (done done' : Copied) (first first' last last' : ℕ) (then_done : Copied) (talk : List Talked) (r : Result (Unit {0}) CopyFault)
    → job ≡ job' → done ≡ done' → first ≡ first' → last ≡ last' → HasWrittenAll job token done first last then_done talk r → HasWrittenAll job' token done' first' last' then_done talk r
written-is job job' token done done' first first' last last' then_done talk r z a b c h =
    subst (λ j. HasWrittenAll j token done' first' last' then_done talk r) z
    (subst (λ d. HasWrittenAll job token d first' last' then_done talk r) a
    (subst (λ n. HasWrittenAll job token done n last' then_done talk r) b (subst (λ n. HasWrittenAll job token done first n then_done talk r) c h)))

-- ---- the whole copy

pub copies-on : (job : CopyJob) (so_far then_done : Copied) (place : ℕ) (xs ys : List Talked) → CopiesOn job so_far place xs
    → HasCopiedPart job so_far place then_done ys (Ok (tt {0})) → CopiesOn job then_done (place_behind job place) (xs ++ ys)
copies-on job so_far then_done place xs ys here more = (
  asked-append (rule job) xs ys here.0 (subst (λ s. AreAsked s ys) (sym here.1) more.0),
  after-append (rule job) xs ys ∙ ap (λ s. after s ys) here.1 ∙ more.1,
)

pub copies-stop : (job : CopyJob) (so_far then_done : Copied) (place : ℕ) (xs ys : List Talked) (fault : CopyFault) → CopiesOn job so_far place xs
    → HasCopiedPart job so_far place then_done ys (Err fault) → IsRuled (rule job) (xs ++ ys) (Err fault)
copies-stop job so_far then_done place xs ys fault here more = record {
  asked = asked-append (rule job) xs ys here.0 (subst (λ s. AreAsked s ys) (sym here.1) more.0);
  ended = ends fault (subst (λ s. StopsSo s fault) (sym (after-append (rule job) xs ys ∙ ap (λ s. after s ys) here.1)) more.1);
}
  where
    ends : (f : CopyFault) → StopsSo (after (rule job) (xs ++ ys)) f → EndsSo (after (rule job) (xs ++ ys)) (Err f)
    ends f (inl wanted) = inl (ap Err wanted)
    ends f (inr stopped) = inr stopped

pub copied-is : (job job' : CopyJob) (done : Copied) (place : ℕ) (then_done : Copied) (talk : List Talked) (r : Result (Unit {0}) CopyFault) → job ≡ job'
    → HasCopiedPart job done place then_done talk r → HasCopiedPart job' done place then_done talk r
copied-is job job' done place then_done talk r e h = subst (λ j. HasCopiedPart j done place then_done talk r) e h

-- the identifiers of the parts to come
pub steps-next : (job : CopyJob) (place : ℕ) → place < total job.from
    → steps_in (parts_to_come job place) ≡ suc (length (part_at job place).writes) + steps_in (parts_to_come job (place_behind job place))
steps-next job place some = ap steps_in (parts-next job place some)

pub part-ends : (job : CopyJob) (place : ℕ) → place < total job.from → place < place_behind job place
part-ends job place some = let more : 0 < total (ranges_at job place) = run-some job.from place 1_048_576 some (omega arith) in omega arith
