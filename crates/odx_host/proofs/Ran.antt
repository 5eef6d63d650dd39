-- The entries of a command that ended GOOD
use Rattle.std.proofs.Common.{◌≡◌, ℕ, List, [], ◌∷◌, ◌++◌, refl, subst, false}
use Rattle.cm_base.specs.Configuration.{Configuration}
use Rattle.scsi_sense.specs.SenseCode.{SenseCode}
use Rattle.cm_frame.specs.declared.frame.Reply.{Reply}
use Rattle.cm_history.specs.declared.act.Entry.{Entry}
use Rattle.cm_history.specs.declared.answer.Answer.{Answer}
use Rattle.cm_history.specs.Deeds.{is_refusal}
use Rattle.cmd_program.specs.Running.{Call}
use Rattle.cmd_program.specs.Program.{Program, Ends, Asks, GivesUp, unless_refused}
use Rattle.cmd_program.specs.InHistory.{entries_by, IsNext}
use Rattle.odx_host.specs.Worlds.{GrowsBy, Grows}
use Rattle.odx_host.proofs.Runs.{RunsWell}

-- each act of the program is the next entry of the nexus, and behind them others may act
abbrev pub RanIn : Configuration → ℕ → Program → List Entry → List Entry → List ℕ → Type 0
RanIn config nexus (Ends reply) all before bytes = (reply ≡ Reply.Good bytes) × (others : List Entry) × (before ++ others ≡ all) × (entries_by nexus others ≡ [])
RanIn config nexus (Asks ask last go_on) all before bytes =
    (others : List Entry) × (e : Entry) × (told : Answer) × IsNext config nexus before others e ask.unit ask.act told
    × RanIn config nexus (go_on told) all (before ++ others ++ e ∷ []) bytes
RanIn config nexus (GivesUp last reply) all before bytes = Unit {0}

pub ran-in : (config : Configuration) (nexus : ℕ) (p : Program) (all : List Entry) (cs : List Call) (before : List Entry) (bytes : List ℕ) → RunsWell p cs bytes
    → Grows config nexus all cs before → RanIn config nexus p all before bytes
ran-in config nexus (Ends reply) all [] before bytes runs g = (runs, g.0, g.1, g.2)
ran-in config nexus (Ends reply) all (c ∷ cs) before bytes runs g = absurd runs
ran-in config nexus (Asks ask last go_on) all [] before bytes runs g = absurd runs
ran-in config nexus (Asks ask last go_on) all (c ∷ cs) before bytes runs g =
    let told = runs.0 in
    let grown = subst (λ o. GrowsBy config nexus all c o before (λ after. Grows config nexus all cs after)) runs.3 g in
    let next : IsNext config nexus before grown.0 grown.1 ask.unit ask.act told =
    subst (λ u. IsNext config nexus before grown.0 grown.1 u ask.act told) runs.1 (subst (λ a. IsNext config nexus before grown.0 grown.1 c.unit a told) runs.2 grown.2) in
    (grown.0, grown.1, told, next, ran-in config nexus (go_on told) all cs (before ++ grown.0 ++ grown.1 ∷ []) bytes runs.4 grown.4)
ran-in config nexus (GivesUp last reply) all cs before bytes runs g = tt

-- an act that is not refused
pub not-refused : (config : Configuration) (nexus : ℕ) (rest : Program) (told : Answer) (all before : List Entry) (bytes : List ℕ)
    → RanIn config nexus (unless_refused rest told) all before bytes → (is_refusal told ≡ false) × RanIn config nexus rest all before bytes
not-refused config nexus rest (Answer.Refused sense) all before bytes ran = let no = ran.0 in cc
not-refused config nexus rest Answer.Conflict all before bytes ran = let no = ran.0 in cc
not-refused config nexus rest _ all before bytes ran = (refl, ran)

-- a refusal is not GOOD
pub never-refused : (config : Configuration) (nexus : ℕ) (sense : SenseCode) (all before : List Entry) (bytes : List ℕ)
    → RanIn config nexus (Ends (Reply.Check sense)) all before bytes → ⊥
never-refused config nexus sense all before bytes ran = let no = ran.0 in cc

pub never-busy : (config : Configuration) (nexus : ℕ) (all before : List Entry) (bytes : List ℕ) → RanIn config nexus (Ends Reply.Busy) all before bytes → ⊥
never-busy config nexus all before bytes ran = let no = ran.0 in cc
