use Rattle.std.proofs.Common.{refl, ap, sym, ◌∙◌, ◌≡◌}
use Rattle.std.specs.Prelude.{cond, ◌+◌, ◌∷◌, []}
use Rattle.cm_history.specs.declared.act.Actor.{Actor}
use Rattle.cm_history.specs.History.{answer}
use Rattle.cmd_program.specs.declared.step.Outcome.{Outcome}
use Rattle.std.proofs.lemmas.Bool.{eq-eqb}
use Rattle.trace_replay.specs.ReplayState.{Nowhere, seq, new_entry}
use Rattle.trace_replay.specs.inner.Machines.{HaveCounted}
use Rattle.trace_replay.proofs.UnitActs.{after-done, seq-same}
use Rattle.trace_replay.proofs.nexus.Nexus.do_act.Goals as goal

pub act-requires : goal.act-requires
act-requires c = record {
  config = c.requires.config;
  entries = c.requires.entries;
  done = c.requires.counted.done;
  configured = c.requires.askable.configured;
  limits = c.requires.askable.limits;
  asked = c.requires.askable.asked c.args.initiator;
}

pub returns-in-Ok : goal.returns-in-Ok
returns-in-Ok c = λ config entries h right.
    let actor = Actor.Nexus c.args.initiator in
    let d = c.in-Ok.ensures.done config entries h in
    record {
      shortage = Nowhere;
      allowed = refl;
      units = after-done (λ es. HaveCounted config es c.act.new.self) config entries actor c.args.unit c.args.moment c.args.act d.0 (d.2 right);
      seq = after-done (λ es. c.args.self.now.seq + 1 ≡ seq actor es) config entries actor c.args.unit c.args.moment c.args.act d.0
          (ap (λ n. n + 1) right ∙ sym (seq-same actor entries (new_entry entries actor c.args.unit c.args.moment c.args.act) (eq-eqb c.args.initiator c.args.initiator refl)));
      outcome = ap (λ b. cond b Outcome.Full (Outcome.Answered (answer config entries c.args.unit actor c.args.moment c.args.act)) ∷ []) d.0
          ∙ ap (λ a. Outcome.Answered a ∷ []) (sym d.1);
      follows = c.in-Ok.ensures.form config entries h;
    }
