-- The requests of one token and of one write follow their programs
use Rattle.std.proofs.Common.{◌≡◌, ◌∙◌, ℕ, suc, ◌-◌, ◌<◌, List, [], ◌++◌, refl, sym, ap, subst, true, false, Bool, inr, arith}
use Rattle.std.specs.Prelude.{Result, Ok, Err, cond}
use Rattle.lba_ranges.specs.declared.ranges.Range.{Range}
use Rattle.lba_ranges.specs.Denoted.{total}
use Rattle.cm_frame.specs.declared.frame.Request.{Request}
use Rattle.odx_host.specs.declared.fault.CopyFault.{CopyFault}
use Rattle.odx_host.specs.Talk.{Talked}
use Rattle.odx_host.specs.StatusRead.{information_read}
use Rattle.odx_host.specs.Requests.{populate_request, status_request}
use Rattle.odx_host.specs.Rule.{HostProgram, Asks, if_good, if_ok, populating, token_of, polling, is_done}
use Rattle.odx_host.specs.Ruled.{AreAsked, after}
use Rattle.odx_host.specs.inner.Steps.{HasAsked, HasPopulated, HasPolled, StillRuns}
use Rattle.odx_host.proofs.Steps.{follows-on, follows-by, after-append, asked-append}

-- ---- one request

pub asked-is : (request same : Request) (step : ℕ) (talk : List Talked) (r : Result (List ℕ) CopyFault) → request ≡ same → HasAsked request step talk r → HasAsked same step talk r
asked-is request same step talk r e asked = subst (λ q. HasAsked q step talk r) e asked

-- ---- one token

-- what follows the reply to the POPULATE TOKEN, and the status behind it
abbrev told_on : ℕ → ℕ → (List ℕ → HostProgram) → List ℕ → HostProgram
told_on step blocks go_on bytes = if_ok go_on (token_of step blocks (information_read bytes))

abbrev status_on : ℕ → ℕ → ℕ → (List ℕ → HostProgram) → List ℕ → HostProgram
status_on unit step blocks go_on none = Asks (status_request unit step) (if_good step (told_on step blocks go_on))

pub populate-refused : (unit step : ℕ) (ranges : List Range) (xs : List Talked) (fault : CopyFault)
    → HasAsked (populate_request unit step ranges) step xs (Err fault) → HasPopulated unit step ranges xs (Err fault)
populate-refused unit step ranges xs fault asked = λ go_on. asked (status_on unit step (total ranges) go_on)

pub populate-untold : (unit step : ℕ) (ranges : List Range) (xs ys : List Talked) (got : List ℕ) (fault : CopyFault)
    → HasAsked (populate_request unit step ranges) step xs (Ok got) → HasAsked (status_request unit step) step ys (Err fault) → HasPopulated unit step ranges (xs ++ ys) (Err fault)
populate-untold unit step ranges xs ys got fault first later = λ go_on.
    follows-on (populating unit step ranges go_on) (status_on unit step (total ranges) go_on got) xs ys go_on (Err fault)
    (first (status_on unit step (total ranges) go_on)) (later (told_on step (total ranges) go_on))

pub populate-told : (unit step : ℕ) (ranges : List Range) (xs ys : List Talked) (got bytes : List ℕ) (token : Result (List ℕ) CopyFault)
    → HasAsked (populate_request unit step ranges) step xs (Ok got) → HasAsked (status_request unit step) step ys (Ok bytes)
    → token ≡ token_of step (total ranges) (information_read bytes) → HasPopulated unit step ranges (xs ++ ys) token
populate-told unit step ranges xs ys got bytes token first later is = λ go_on.
    let told = later (told_on step (total ranges) go_on) in
    follows-on (populating unit step ranges go_on) (status_on unit step (total ranges) go_on got) xs ys go_on token
    (first (status_on unit step (total ranges) go_on))
    (follows-by (Asks (status_request unit step) (if_good step (told_on step (total ranges) go_on))) ys go_on token told.0 (told.1 ∙ ap (λ r. if_ok go_on r) (sym is)))

-- ---- one write

-- what follows the status of a write
abbrev done_on : ℕ → ℕ → ℕ → HostProgram → ℕ → List ℕ → HostProgram
done_on unit step blocks next polls bytes =
    if_ok (λ done. cond done next (polling unit step blocks next polls)) (is_done step blocks (information_read bytes))

pub polls-first : (unit step blocks polls : ℕ) → StillRuns unit step blocks polls polls []
polls-first unit step blocks polls = λ next. (tt, refl)

pub polls-over : (unit step blocks polls : ℕ) (xs : List Talked) → StillRuns unit step blocks polls 0 xs → HasPolled unit step blocks polls xs (Err (CopyFault.Polls step))
polls-over unit step blocks polls xs runs = λ next. ((runs next).0, inr (runs next).1)

module _ (unit step blocks polls left : ℕ) (xs ys : List Talked) (runs : StillRuns unit step blocks polls (suc left) xs) where
  pub polls-untold : (fault : CopyFault) → HasAsked (status_request unit step) step ys (Err fault) → HasPolled unit step blocks polls (xs ++ ys) (Err fault)
  polls-untold fault asked = λ next.
      follows-on {B = Unit {0}} (polling unit step blocks next polls) (polling unit step blocks next (suc left)) xs ys (λ none. next) (Err fault) (runs next)
      (asked (done_on unit step blocks next left))

  -- the program after the status
  told-so : (bytes : List ℕ) (found : Result Bool CopyFault) → HasAsked (status_request unit step) step ys (Ok bytes) → found ≡ is_done step blocks (information_read bytes)
      → (next : HostProgram) → AreAsked (polling unit step blocks next (suc left)) ys
      × (after (polling unit step blocks next (suc left)) ys ≡ if_ok (λ done. cond done next (polling unit step blocks next left)) found)
  told-so bytes found asked is next =
      let told = asked (done_on unit step blocks next left) in
      (told.0, told.1 ∙ ap (λ r. if_ok (λ done. cond done next (polling unit step blocks next left)) r) (sym is))

  pub polls-faulted : (bytes : List ℕ) (found : Result Bool CopyFault) (fault : CopyFault) → HasAsked (status_request unit step) step ys (Ok bytes)
      → found ≡ is_done step blocks (information_read bytes) → found ≡ Err fault → HasPolled unit step blocks polls (xs ++ ys) (Err fault)
  polls-faulted bytes found fault asked is so = λ next.
      let told = told-so bytes found asked is next in
      follows-on {B = Unit {0}} (polling unit step blocks next polls) (polling unit step blocks next (suc left)) xs ys (λ none. next) (Err fault) (runs next)
      (told.0, inr (told.1 ∙ ap (λ r. if_ok (λ done. cond done next (polling unit step blocks next left)) r) so))

  pub polls-done : (bytes : List ℕ) (found : Result Bool CopyFault) → HasAsked (status_request unit step) step ys (Ok bytes)
      → found ≡ is_done step blocks (information_read bytes) → found ≡ Ok true → HasPolled unit step blocks polls (xs ++ ys) (Ok (tt {0}))
  polls-done bytes found asked is so = λ next.
      let told = told-so bytes found asked is next in
      follows-on {B = Unit {0}} (polling unit step blocks next polls) (polling unit step blocks next (suc left)) xs ys (λ none. next) (Ok (tt {0})) (runs next)
      (told.0, told.1 ∙ ap (λ r. if_ok (λ done. cond done next (polling unit step blocks next left)) r) so)

  pub polls-on : (bytes : List ℕ) (found : Result Bool CopyFault) → HasAsked (status_request unit step) step ys (Ok bytes)
      → found ≡ is_done step blocks (information_read bytes) → found ≡ Ok false → StillRuns unit step blocks polls left (xs ++ ys)
  polls-on bytes found asked is so = λ next.
      let told = told-so bytes found asked is next in
      let p = polling unit step blocks next polls in (
        asked-append p xs ys (runs next).0 (subst (λ s. AreAsked s ys) (sym (runs next).1) told.0),
        after-append p xs ys ∙ ap (λ s. after s ys) (runs next).1 ∙ told.1 ∙ ap (λ r. if_ok (λ done. cond done next (polling unit step blocks next left)) r) so,
      )

-- one poll is used
pub one-left : (unit step blocks polls counter : ℕ) (xs : List Talked) → counter < polls → StillRuns unit step blocks polls (polls - counter) xs
    → StillRuns unit step blocks polls (suc (polls - suc counter)) xs
one-left unit step blocks polls counter xs low runs =
    let same : polls - counter ≡ suc (polls - suc counter) = omega arith in
    subst (λ n. StillRuns unit step blocks polls n xs) same runs

pub polled-is : (unit unit' step step' blocks blocks' polls polls' : ℕ) (talk : List Talked) (r : Result (Unit {0}) CopyFault) → unit ≡ unit' → step ≡ step' → blocks ≡ blocks' → polls ≡ polls'
    → HasPolled unit step blocks polls talk r → HasPolled unit' step' blocks' polls' talk r
polled-is unit unit' step step' blocks blocks' polls polls' talk r a b c d h =
    subst (λ u. HasPolled u step' blocks' polls' talk r) a (subst (λ s. HasPolled unit s blocks' polls' talk r) b
    (subst (λ n. HasPolled unit step n polls' talk r) c (subst (λ n. HasPolled unit step blocks n talk r) d h)))
