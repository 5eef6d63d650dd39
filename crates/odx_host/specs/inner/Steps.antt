-- How the parts of a copy follow its rule
use Rattle.std.specs.Prelude.{◌≡◌, ℕ, suc, ◌+◌, ◌-◌, List, [], ◌∷◌, length, Result, Ok, Err, ◌⊎◌}
use Rattle.lba_ranges.specs.declared.ranges.Range.{Range}
use Rattle.lba_ranges.specs.Denoted.{total}
use Rattle.copy_plan.specs.Jobs.{CopyJob}
use Rattle.copy_plan.specs.Plans.{longest_run}
use Rattle.cm_frame.specs.declared.frame.Request.{Request}
use Rattle.odx_host.specs.declared.fault.Copied.{Copied}
use Rattle.odx_host.specs.declared.fault.CopyFault.{CopyFault}
use Rattle.odx_host.specs.Talk.{Talked}
use Rattle.odx_host.specs.Worlds.{World, Passed}
use Rattle.odx_host.specs.Parts.{Part, writes_from, parts_from, place_behind}
use Rattle.odx_host.specs.Rule.{HostProgram, Asks, Ends, if_good, populating, polling, writing, copying, one_write, rule}
use Rattle.odx_host.specs.Ruled.{AreAsked, after}

-- In every world in which the port may have been, it is now in one to which these requests led.
abbrev pub Leads : (World → Type 0) → List Talked → (World → Type 0) → Type 0
Leads Was talk Is = (w : World) → Was w → (v : World) × Is v × Passed w talk v

-- some requests were asked from one state of the port to another, and this is true of them
pub record Talking (Talks : List Talked → Type 0) (Was Is : World → Type 0) (F : List Talked → Type 0) : Type 0 where
  pub talk : List Talked
  pub talks : Talks talk
  pub leads : Leads Was talk Is
  pub follows : F talk

-- a program that is at its end, or memory was wanted
abbrev pub StopsSo : HostProgram → CopyFault → Type 0
StopsSo p fault = (fault ≡ CopyFault.OutOfMemory) ⊎ (p ≡ Ends (Err fault))

-- the requests are those of the program, and it is then at what comes next, or at its end
abbrev pub Follows : {A : Type 0} → HostProgram → List Talked → (A → HostProgram) → Result A CopyFault → Type 0
Follows {A} p talk next (Ok x) = AreAsked p talk × (after p talk ≡ next x)
Follows {A} p talk next (Err fault) = AreAsked p talk × StopsSo (after p talk) fault

-- a request was asked, and the program goes on with the data of its reply
abbrev pub HasAsked : Request → ℕ → List Talked → Result (List ℕ) CopyFault → Type 0
HasAsked request step talk found = (go_on : List ℕ → HostProgram) → Follows (Asks request (if_good step go_on)) talk go_on found

-- a token was made
abbrev pub HasPopulated : ℕ → ℕ → List Range → List Talked → Result (List ℕ) CopyFault → Type 0
HasPopulated unit step ranges talk token = (go_on : List ℕ → HostProgram) → Follows (populating unit step ranges go_on) talk go_on token

-- a write was polled until it was done
abbrev pub HasPolled : ℕ → ℕ → ℕ → ℕ → List Talked → Result Unit CopyFault → Type 0
HasPolled unit step blocks polls talk done = (next : HostProgram) → Follows (polling unit step blocks next polls) talk (λ none. next) done

-- the writes up to a place, and the parts, that are still to come
abbrev pub writes_to_come : List Range → ℕ → ℕ → List (List Range)
writes_to_come to place last = writes_from (last - place) to place last

abbrev pub parts_to_come : CopyJob → ℕ → List Part
parts_to_come job place = parts_from (total job.from - place) job place

-- a write was polled, and it still runs; so many polls are left
abbrev pub StillRuns : ℕ → ℕ → ℕ → ℕ → ℕ → List Talked → Type 0
StillRuns unit step blocks polls left talk = (next : HostProgram) → AreAsked (polling unit step blocks next polls) talk
    × (after (polling unit step blocks next polls) talk ≡ polling unit step blocks next left)

-- where the write that begins at a place ends
abbrev pub behind_write : List Range → ℕ → ℕ → ℕ
behind_write to place last = place + total (longest_run to place (last - place))

-- the writes of a token whose blocks are those from `first` to `last`, of which those up to a place were written
abbrev pub writes_on : CopyJob → List ℕ → (Copied → HostProgram) → Copied → ℕ → ℕ → ℕ → HostProgram
writes_on job token go_on done first last place = writing job token go_on done (place - first) (writes_to_come job.to place last)

-- one write
abbrev pub HasWritten : CopyJob → List ℕ → Copied → ℕ → ℕ → ℕ → List Talked → Result Unit CopyFault → Type 0
HasWritten job token done first last place talk r = (go_on : Copied → HostProgram) → Follows (writes_on job token go_on done first last place) talk
    (λ none. writes_on job token go_on (one_write done) first last (behind_write job.to place last)) r

-- all writes of a token, with what was then done
abbrev pub HasWrittenAll : CopyJob → List ℕ → Copied → ℕ → ℕ → Copied → List Talked → Result Unit CopyFault → Type 0
HasWrittenAll job token done first last then_done talk r = (go_on : Copied → HostProgram) → Follows (writes_on job token go_on done first last first) talk (λ none. go_on then_done) r

-- one part
abbrev pub HasCopiedPart : CopyJob → Copied → ℕ → Copied → List Talked → Result Unit CopyFault → Type 0
HasCopiedPart job done place then_done talk r =
    Follows (copying job done (parts_to_come job place)) talk (λ none. copying job then_done (parts_to_come job (place_behind job place))) r

-- the program of the writes came to a place, with what was done so far
abbrev pub WritesOn : CopyJob → List ℕ → Copied → ℕ → ℕ → Copied → ℕ → List Talked → Type 0
WritesOn job token done first last so_far place talk = (go_on : Copied → HostProgram) → AreAsked (writes_on job token go_on done first last first) talk
    × (after (writes_on job token go_on done first last first) talk ≡ writes_on job token go_on so_far first last place)

-- the program of the whole copy came to a place
abbrev pub CopiesOn : CopyJob → Copied → ℕ → List Talked → Type 0
CopiesOn job so_far place talk = AreAsked (rule job) talk × (after (rule job) talk ≡ copying job so_far (parts_to_come job place))

-- the POPULATE TOKENs and WRITE USING TOKENs of some parts
abbrev pub steps_in : List Part → ℕ
steps_in [] = 0
steps_in (part ∷ more) = suc (length part.writes) + steps_in more
