use Rattle.std.proofs.Common.{Ok, Err, IfOk, ◌≡◌, ◌<◌, ℕ, List, [], ◌∷◌, length, refl, sym, ◌∙◌, subst, arith, true}
use Rattle.std.specs.Prelude.{None}
use Rattle.std.specs.declared.result.Result.{Result}
use Rattle.cm_base.specs.Configuration.{Configuration}
use Rattle.cm_history.specs.declared.act.Act.{Act}
use Rattle.cm_history.specs.declared.act.Actor.{Actor}
use Rattle.cm_history.specs.declared.act.Entry.{Entry}
use Rattle.cm_history.specs.Legal.{may_ask}
use Rattle.cm_history.specs.Limits.{within_limits}
use Rattle.unit_core.specs.UnitState.{UnitState, Stands}
use Rattle.unit_gate.specs.declared.resuming.ResumeRefused.{ResumeRefused}
use Rattle.unit_gate.specs.Opening.{IsGiven, opening_entries}
use Rattle.unit_gate.specs.Recorded.{HasRecorded}
use Rattle.unit_gate.proofs.PublicLaws.{opening-recorded}
use Rattle.gate_tests.proofs.tests.resuming.resumed.Goals as goal

given-one : (config : Configuration) (number : ℕ) (act : Act) (h : List Entry) → length config.units ≡ 1 → within_limits config 0 act ≡ true → may_ask 0 (Actor.Nexus number) act ≡ true
    → h ≡ record { stamp = 1; unit = 0; actor = Actor.Nexus number; seq = 0; moment = 0; act = act } ∷ [] → IsGiven config 0 h
given-one config number act h one limits asked is =
    subst (IsGiven config 0) (sym is) (record {
      is_history = record { own = (refl, tt); rising = (omega arith, tt) };
      asked = (record { configured = omega (arith, one); limits = limits; asked = asked }, tt);
    })

recorded-if : (config : Configuration) (h : List Entry) (r : Result UnitState ResumeRefused) → IsGiven config 0 h → IfOk r (λ u. Stands u (opening_entries config 0 h)) → IfOk r (λ u. u.folded ≡ length h)
    → IfOk r (λ u. (h : List Entry) × HasRecorded u None h)
recorded-if config h (Ok u) given stands folded = (opening_entries config 0 h, opening-recorded u None config 0 h given stands folded tt)
recorded-if config h (Err e) given stands folded = tt

pub resume-requires-clause-given : goal.resume-requires-clause-given
resume-requires-clause-given c =
    given-one c.args.config.now c.args.number c.args.act c.in_ok-history.history.entries c.requires.one (sym c.within_limits.ensures ∙ c.if-not-within_limits.false) c.requires.asked c.in_ok-history.ensures

pub returns : goal.returns
returns c =
    recorded-if c.args.config.now c.in_ok-history.history.entries c.resume.result
    (given-one c.args.config.now c.args.number c.args.act c.in_ok-history.history.entries c.requires.one (sym c.within_limits.ensures ∙ c.if-not-within_limits.false) c.requires.asked c.in_ok-history.ensures)
    c.resume.ensures.stands c.resume.ensures.folded
