-- What is left of a world that was served, and what is told of it
use Rattle.std.proofs.Common.{◌≡◌, ℕ, suc, List, [], ◌∷◌, ◌++◌, length, refl, ap, sym, ◌∙◌, subst, arith, append-nil}
use Rattle.std.specs.Prelude.{All, Option, Some, None, map}
use Rattle.std.proofs.lemmas.List.{length-map}
use Rattle.cm_base.specs.Configuration.{Configuration}
use Rattle.cm_base.specs.Listening.{Gone}
use Rattle.cm_base.specs.declared.config.UnitConfig.{UnitConfig}
use Rattle.cm_frame.proofs.PublicLaws.{request-stays}
use Rattle.cm_history.specs.Legal.{IsLegal}
use Rattle.cm_history.specs.declared.act.Entry.{Entry}
use Rattle.cm_history.proofs.PublicLaws.{Each, map-append}
use Rattle.cmd_program.specs.Conversations.{Folding, KeepsAll}
use Rattle.cmd_program.specs.Judging.{step}
use Rattle.cm_server.specs.Recorders.{FoldsBy, GivesUpAll}
use Rattle.cm_server.specs.Reports.{report_text}
use Rattle.cm_server.specs.Served.{WasServed, unit_counts}
use Rattle.cm_server.specs.Serving.{HasReported, IfOfStore, IfReported, IfUnserved, Reports, ReportsKept}
use Rattle.cm_server.specs.declared.status.Status.{Status}
use Rattle.cm_server.specs.inner.Counting.{counts_in, kept_line}
use Rattle.cm_server.specs.declared.term.Term.{Term}
use Rattle.cm_server.specs.inner.Left.{IsClosed, IsClosedForgot, IsClosedWhole}
use Rattle.cm_server.specs.inner.Opened.{AreNew, IsLegalBehind, IsOlder, IsOpened, MayHold, OpenedUnit, entries_of, kins_of, new_units, opening_marks, recorders_of}
use Rattle.cm_server.specs.inner.Recording.{finals, HaveRecordedKept, IsReckoned, AreWritable}
use Rattle.cm_server.specs.inner.Serving.{HasServed, HasSettled}
use Rattle.cm_server.proofs.Back.{finals-are, new-recorders}
use Rattle.cm_server.proofs.Folds.{IsForgetting, all-folded, folded-as, none-folded}
use Rattle.cm_server.proofs.Recorded.{all-writable}
use Rattle.cm_server.proofs.Reporting.{served-kept}
use Rattle.cm_server.proofs.WorldServed.{legal-as, served-as, world-recorded}
use Rattle.merged_history.specs.Merged.{all_of}
use Rattle.nexus.specs.Closing.{WasEnded}
use Rattle.nexus.specs.Opening.{IsBegun, kins_from, no_recorder}
use Rattle.nexus.specs.Roots.{RootView}
use Rattle.nexus.specs.Worlds.{WorldView}
use Rattle.merged_history.specs.declared.known.Ticket.{Ticket}
use Rattle.session.specs.declared.end.SessionEnd.{SessionEnd}
use Rattle.unit_gate.specs.declared.kin.RecorderFacts.{RecorderFacts}
use Rattle.unit_gate.specs.declared.recorded_unit.ClosedUnit.{ClosedUnit}

-- ---- new units

new-entries : (recorders : List RecorderFacts) → all_of (entries_of (new_units recorders)) ≡ []
new-entries [] = refl
new-entries (r ∷ rs) = new-entries rs

new-new : (recorders : List RecorderFacts) → AreNew (new_units recorders)
new-new [] = tt
new-new (r ∷ rs) = (refl, new-new rs)

new-may : (recorders : List RecorderFacts) → Each MayHold (new_units recorders)
new-may [] = tt
new-may (r ∷ rs) = ((λ gone. refl), new-may rs)

new-kins : (config : Configuration) (unit : ℕ) (recorders : List RecorderFacts) → kins_from config unit recorders ≡ kins_of config unit (new_units recorders)
new-kins config unit [] = refl
new-kins config unit (r ∷ rs) = ap (λ l. Some (record { config = config; unit = unit; opening = r; folded = 0 }) ∷ l) (new-kins config (suc unit) rs)

new-openings : (recorders : List RecorderFacts) → map (λ (r : RecorderFacts). 0) recorders ≡ map (λ (es : List Entry). length es) (entries_of (new_units recorders))
new-openings [] = refl
new-openings (r ∷ rs) = ap (λ l. 0 ∷ l) (new-openings rs)

new-seen : (recorders : List RecorderFacts) → map (λ (r : RecorderFacts). []) recorders ≡ entries_of (new_units recorders)
new-seen [] = refl
new-seen (r ∷ rs) = ap (λ l. [] ∷ l) (new-seen rs)

new-marks : (recorders : List RecorderFacts) → map (λ (r : RecorderFacts). r.faults ∷ 0 ∷ 0 ∷ []) recorders ≡ opening_marks (new_units recorders)
new-marks [] = refl
new-marks (r ∷ rs) = ap (λ l. (r.faults ∷ 0 ∷ 0 ∷ []) ∷ l) (new-marks rs)

module _ (config : Configuration) (recorders : List RecorderFacts) (world : WorldView) (root : RootView) (begun : IsBegun config recorders world root) where
  -- no nexus has a pass yet
  pub begun-first : root.made ≡ 0
  begun-first = ap (λ (r : RootView). r.made) begun.root_is

  -- a new world is one that begins
  pub begun-opened : length recorders ≡ length config.units → IsOpened config (new_units recorders) world root
  begun-opened each = record {
    config_is = begun.config_is;
    each_unit = length-map recorders (λ (r : RecorderFacts). record { recorder = r; folded = 0; entries = [] }) ∙ each;
    gates = begun.gates ∙ new-kins config 0 recorders;
    older = subst (Each (IsOlder root.made)) (sym (new-entries recorders)) tt;
    may = new-may recorders;
    root_is = begun.root_is
        ∙ ap (λ (n : ℕ). record {
          config = world.config;
          gates = world.gates;
          register = world.register;
          made = n;
          out = [];
          joined = [];
          openings = map (λ (r : RecorderFacts). 0) recorders;
          seen = map (λ (r : RecorderFacts). []) recorders;
          marks = map (λ (r : RecorderFacts). r.faults ∷ 0 ∷ 0 ∷ []) recorders;
        }) (sym begun-first)
        ∙ ap (λ (l : List ℕ). record {
          config = world.config;
          gates = world.gates;
          register = world.register;
          made = root.made;
          out = [];
          joined = [];
          openings = l;
          seen = map (λ (r : RecorderFacts). []) recorders;
          marks = map (λ (r : RecorderFacts). r.faults ∷ 0 ∷ 0 ∷ []) recorders;
        }) (new-openings recorders)
        ∙ ap (λ (l : List (List Entry)). record {
          config = world.config;
          gates = world.gates;
          register = world.register;
          made = root.made;
          out = [];
          joined = [];
          openings = map (λ (es : List Entry). length es) (entries_of (new_units recorders));
          seen = l;
          marks = map (λ (r : RecorderFacts). r.faults ∷ 0 ∷ 0 ∷ []) recorders;
        }) (new-seen recorders)
        ∙ ap (λ (l : List (List ℕ)). record {
          config = world.config;
          gates = world.gates;
          register = world.register;
          made = root.made;
          out = [];
          joined = [];
          openings = map (λ (es : List Entry). length es) (entries_of (new_units recorders));
          seen = entries_of (new_units recorders);
          marks = l;
        }) (new-marks recorders);
  }

-- ---- a world that was closed

module _ {R : Type 0} (facts : R → RecorderFacts) (fits : R → Entry → Type 0) (config : Configuration) (Shows : ℕ → Type 0)
    (coming rest : Option (List (List ℕ))) (before after : Option (List Gone)) (ends : List SessionEnd) (units : List (ClosedUnit R)) where
  -- a world that was served, settled and closed
  pub closed-all : (term : Term) (opened : List OpenedUnit) (world : WorldView) (begin one two : RootView) → IsOpened config opened world begin
      → HasServed term world Shows begin.made begin one coming rest before after ends → HasSettled world Shows one two
      → WasEnded facts fits two units → IsClosed term facts fits config opened begin.made Shows coming rest before after ends units
  closed-all term opened world begin one two begun served settled ended =
      let same : world.config ≡ config = begun.config_is in
      let here : IsOpened world.config opened world begin = subst (λ (k : Configuration). IsOpened k opened world begin) (sym same) begun in
      record {
        gates = world.gates;
        served = subst (λ (k : Configuration). WasServed step k (IsLegalBehind k opened) (FoldsBy (recorders_of opened) (finals facts units)) term (all_of (entries_of opened)) begin.made Shows
            coming rest before after (λ entries told. (told ≡ ends) × IsReckoned facts fits opened world.gates units k entries)) same
            (world-recorded facts fits request-stays term world Shows opened begin one two coming rest before after ends units here served settled ended);
      }

  -- of new units the history is legal, and nothing was there at the opening
  pub closed-new : (term : Term) (recorders : List RecorderFacts) (Folds : Folding) (first : ℕ) (Reports : List Entry → List SessionEnd → Type 0) → first ≡ 0
      → WasServed step config (IsLegalBehind config (new_units recorders)) Folds term (all_of (entries_of (new_units recorders))) first Shows coming rest before after Reports
      → WasServed step config (IsLegal config) Folds term [] 0 Shows coming rest before after Reports
  closed-new term recorders Folds first Reports none s =
      subst (λ n. WasServed step config (IsLegal config) Folds term [] n Shows coming rest before after Reports) none
      (subst (λ o. WasServed step config (IsLegal config) Folds term o first Shows coming rest before after Reports) (new-entries recorders)
      (legal-as step config (IsLegalBehind config (new_units recorders)) (IsLegal config) Folds term (all_of (entries_of (new_units recorders))) first Shows coming rest before after Reports
      (λ entries l. l.legal (new-new recorders)) s))

  -- units without recorders keep all their entries
  pub closed-whole : (all : List UnitConfig) (first : ℕ) → first ≡ 0
      → IsClosed Term.Counted facts fits config (new_units (map (λ (u : UnitConfig). no_recorder) all)) first Shows coming rest before after ends units
      → IsClosedWhole config Shows coming rest before after ends units
  closed-whole all first zero-first c =
      let none = map (λ (u : UnitConfig). no_recorder) all in
      let told : List Entry → List SessionEnd → Type 0 = λ entries told. (told ≡ ends) × IsReckoned facts fits (new_units none) c.gates units config entries in
      let whole : List Entry → List SessionEnd → Type 0 = λ entries told. (told ≡ ends) × (counts_in units ≡ unit_counts config entries) in
      served-as step config (IsLegal config) KeepsAll Term.Counted [] 0 Shows coming rest before after told whole (λ entries is r. (r.0, r.1.counts))
      (folded-as (FoldsBy none (finals facts units)) KeepsAll (none-folded all (finals facts units)) step config (IsLegal config) Term.Counted [] 0 Shows coming rest before after told
      (subst (λ rs. WasServed step config (IsLegal config) (FoldsBy rs (finals facts units)) Term.Counted [] 0 Shows coming rest before after told) (new-recorders none)
      (closed-new Term.Counted none (FoldsBy (recorders_of (new_units none)) (finals facts units)) first told zero-first c.served)))

  -- units that forget give up all their entries
  pub closed-forgot : ((r : R) → (facts r).faults ≡ 0) → (recorders : List RecorderFacts) (first : ℕ) → Each IsForgetting recorders → first ≡ 0
      → IsClosed Term.Open facts fits config (new_units recorders) first Shows coming rest before after ends units
      → IsClosedForgot config Shows coming rest before after ends units
  closed-forgot none recorders first are zero-first c =
      let told : List Entry → List SessionEnd → Type 0 = λ entries told. (told ≡ ends) × IsReckoned facts fits (new_units recorders) c.gates units config entries in
      let whole : List Entry → List SessionEnd → Type 0 = λ entries told. (told ≡ ends) × (counts_in units ≡ unit_counts config entries) in
      served-as step config (IsLegal config) GivesUpAll Term.Open [] 0 Shows coming rest before after told whole (λ entries is r. (r.0, r.1.counts))
      (folded-as (FoldsBy recorders (finals facts units)) GivesUpAll (all-folded facts none recorders units are) step config (IsLegal config) Term.Open [] 0 Shows coming rest before after told
      (subst (λ rs. WasServed step config (IsLegal config) (FoldsBy rs (finals facts units)) Term.Open [] 0 Shows coming rest before after told) (new-recorders recorders)
      (closed-new Term.Open recorders (FoldsBy (recorders_of (new_units recorders)) (finals facts units)) first told zero-first c.served)))

  -- the entries that are left of its units may be recorded
  pub closed-writable : (term : Term) (opened : List OpenedUnit) (first : ℕ) → IsClosed term facts fits config opened first Shows coming rest before after ends units → All (AreWritable fits) units
  closed-writable term opened first c = all-writable facts fits config opened c.gates c.served.entries units c.served.legal.ordered c.served.reported.1

  -- it was recorded what was left of the units, and the report was pushed; the last recorders are spare
  pub told-kept : (recorders spare : List RecorderFacts) (zs : List (ClosedUnit R)) (left asked first : ℕ) (status : Status) (taken given : Option (List ℕ)) → first ≡ 0
      → IsClosed Term.Counted facts fits config (new_units recorders) first Shows coming rest before after ends units → HaveRecordedKept facts fits units zs left
      → HasReported Term.Counted status asked taken given (length ends) (report_text ends (counts_in zs) ++ kept_line (Some left))
      → WasServed step config (IsLegal config) (FoldsBy (recorders ++ spare) (finals facts zs ++ spare)) Term.Counted [] 0 Shows coming rest before after
      (ReportsKept (recorders ++ spare) (finals facts zs ++ spare) status asked config taken given)
  told-kept recorders spare zs left asked first status taken given none c kept told =
      let opened = new_units recorders in
      let last = finals facts zs ++ spare in
      subst (λ rs. WasServed step config (IsLegal config) (FoldsBy (rs ++ spare) last) Term.Counted [] 0 Shows coming rest before after (ReportsKept (rs ++ spare) last status asked config taken given))
      (new-recorders recorders)
      (closed-new Term.Counted recorders (FoldsBy (recorders_of opened ++ spare) last) first (ReportsKept (recorders_of opened ++ spare) last status asked config taken given) none
      (served-kept facts fits opened c.gates units config status asked taken given ends Shows coming rest before after (IsLegalBehind config opened) (all_of (entries_of opened)) first
      spare zs left kept told c.served))

-- the report was pushed on units that forget
pub told-forgot : {R : Type 0} (config : Configuration) (Shows : ℕ → Type 0) (coming rest : Option (List (List ℕ))) (before after : Option (List Gone)) (ends : List SessionEnd)
    (units : List (ClosedUnit R)) (asked : ℕ) (status : Status) (taken given : Option (List ℕ)) → IsClosedForgot config Shows coming rest before after ends units
    → HasReported Term.Open status asked taken given (length ends) (report_text ends (counts_in units) ++ kept_line None)
    → WasServed step config (IsLegal config) GivesUpAll Term.Open [] 0 Shows coming rest before after (Reports Term.Open status asked config taken given)
told-forgot config Shows coming rest before after ends units asked status taken given c told =
    served-as step config (IsLegal config) GivesUpAll Term.Open [] 0 Shows coming rest before after (λ entries is. (is ≡ ends) × (counts_in units ≡ unit_counts config entries))
    (Reports Term.Open status asked config taken given)
    (λ entries is r. subst (λ (l : List SessionEnd). HasReported Term.Open status asked taken given (length l) (report_text l (unit_counts config entries))) (sym r.0)
    (subst (λ c. HasReported Term.Open status asked taken given (length ends) (report_text ends c)) r.1
    (subst (HasReported Term.Open status asked taken given (length ends)) (append-nil (report_text ends (counts_in units))) told))) c

-- ---- without recorders

-- the report was pushed on units that keep all their entries
pub told-whole : {R : Type 0} (config : Configuration) (Shows : ℕ → Type 0) (coming rest : Option (List (List ℕ))) (before after : Option (List Gone)) (ends : List SessionEnd)
    (units : List (ClosedUnit R)) (asked : ℕ) (status : Status) (taken given : Option (List ℕ)) → IsClosedWhole config Shows coming rest before after ends units
    → HasReported Term.Counted status asked taken given (length ends) (report_text ends (counts_in units) ++ kept_line None)
    → WasServed step config (IsLegal config) KeepsAll Term.Counted [] 0 Shows coming rest before after (Reports Term.Counted status asked config taken given)
told-whole config Shows coming rest before after ends units asked status taken given c told =
    served-as step config (IsLegal config) KeepsAll Term.Counted [] 0 Shows coming rest before after (λ entries is. (is ≡ ends) × (counts_in units ≡ unit_counts config entries))
    (Reports Term.Counted status asked config taken given)
    (λ entries is r. subst (λ (l : List SessionEnd). HasReported Term.Counted status asked taken given (length l) (report_text l (unit_counts config entries))) (sym r.0)
    (subst (λ c. HasReported Term.Counted status asked taken given (length ends) (report_text ends c)) r.1
    (subst (HasReported Term.Counted status asked taken given (length ends)) (append-nil (report_text ends (counts_in units))) told))) c

-- ---- how it ended

-- no pass is out, where none was out before
pub none-out : (begin one : RootView) → begin.out ≡ [] → length one.out ≡ length begin.out → one.out ≡ []
none-out begin one none same = go one.out (same ∙ ap (λ (l : List Ticket). length l) none)
  where
    go : (l : List Ticket) → length l ≡ 0 → l ≡ []
    go [] e = refl
    go (x ∷ l) e = absurd (omega (arith, e))

pub if-reported : (status : Status) (P Q : Type 0) → (P → Q) → IfReported status P → IfReported status Q
if-reported Status.Done P Q f p = f p
if-reported Status.AcceptFault P Q f p = f p
if-reported Status.WriteFault P Q f p = f p
if-reported Status.OutOfMemory P Q f p = tt
if-reported Status.Usage P Q f p = tt
if-reported (Status.BadHeader place) P Q f p = tt
if-reported (Status.BadJournal unit place) P Q f p = tt
if-reported Status.DiskFault P Q f p = tt
if-reported (Status.BadHistory unit entry) P Q f p = tt

pub if-unserved : (status : Status) (P Q : Type 0) → (P → Q) → IfUnserved status P → IfUnserved status Q
if-unserved Status.Done P Q f p = tt
if-unserved Status.AcceptFault P Q f p = tt
if-unserved Status.WriteFault P Q f p = tt
if-unserved Status.OutOfMemory P Q f p = tt
if-unserved Status.Usage P Q f p = f p
if-unserved (Status.BadHeader place) P Q f p = f p
if-unserved (Status.BadJournal unit place) P Q f p = f p
if-unserved Status.DiskFault P Q f p = f p
if-unserved (Status.BadHistory unit entry) P Q f p = f p

-- of a store alone
pub of-store : (status : Status) (P Q : Type 0) → (P → Q) → IfUnserved status P → IfOfStore status Q
of-store Status.Done P Q f p = tt
of-store Status.AcceptFault P Q f p = tt
of-store Status.WriteFault P Q f p = tt
of-store Status.OutOfMemory P Q f p = tt
of-store Status.Usage P Q f p = tt
of-store (Status.BadHeader place) P Q f p = tt
of-store (Status.BadJournal unit place) P Q f p = f p
of-store Status.DiskFault P Q f p = f p
of-store (Status.BadHistory unit entry) P Q f p = f p

-- a status that was served is none of those that were not
pub served-not : (status : Status) (P : Type 0) → IfUnserved status ⊥ → IfUnserved status P
served-not Status.Done P none = tt
served-not Status.AcceptFault P none = tt
served-not Status.WriteFault P none = tt
served-not Status.OutOfMemory P none = tt
served-not Status.Usage P none = absurd none
served-not (Status.BadHeader place) P none = absurd none
served-not (Status.BadJournal unit place) P none = absurd none
served-not Status.DiskFault P none = absurd none
served-not (Status.BadHistory unit entry) P none = absurd none

-- ---- recorders that come back

module _ {R : Type 0} (facts : R → RecorderFacts) (fits : R → Entry → Type 0) (config : Configuration) (Shows : ℕ → Type 0)
    (coming rest : Option (List (List ℕ))) (before after : Option (List Gone)) (ends : List SessionEnd) (units : List (ClosedUnit R)) where
  -- said of the recorders that were given, and of those that come back
  pub told-back : (all front spare back : List R) (zs : List (ClosedUnit R)) (left asked first : ℕ) (status : Status) (taken given : Option (List ℕ))
      → first ≡ 0 → all ≡ front ++ spare → back ≡ map (λ (u : ClosedUnit R). u.recorder) zs ++ spare
      → IsClosed Term.Counted facts fits config (new_units (map facts front)) first Shows coming rest before after ends units → HaveRecordedKept facts fits units zs left
      → HasReported Term.Counted status asked taken given (length ends) (report_text ends (counts_in zs) ++ kept_line (Some left))
      → WasServed step config (IsLegal config) (FoldsBy (map facts all) (map facts back)) Term.Counted [] 0 Shows coming rest before after
      (ReportsKept (map facts all) (map facts back) status asked config taken given)
  told-back all front spare back zs left asked first status taken given none whole again c kept told =
      let last = finals facts zs ++ map facts spare in
      let given-are : map facts front ++ map facts spare ≡ map facts all = sym (map-append facts front spare) ∙ ap (map facts) (sym whole) in
      let end : last ≡ map facts back =
      ap (λ l. l ++ map facts spare) (finals-are facts zs) ∙ sym (map-append facts (map (λ (u : ClosedUnit R). u.recorder) zs) spare) ∙ ap (map facts) (sym again) in
      subst (λ k. WasServed step config (IsLegal config) (FoldsBy (map facts all) k) Term.Counted [] 0 Shows coming rest before after (ReportsKept (map facts all) k status asked config taken given)) end
      (subst (λ k. WasServed step config (IsLegal config) (FoldsBy k last) Term.Counted [] 0 Shows coming rest before after (ReportsKept k last status asked config taken given)) given-are
      (told-kept facts fits config Shows coming rest before after ends units (map facts front) (map facts spare) zs left asked first status taken given none c kept told))
