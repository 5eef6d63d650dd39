-- What stays of a pass, whatever comes of an act
use Rattle.std.proofs.Common.{◌≡◌, ℕ, refl, sym, subst}
use Rattle.cm_history.specs.declared.act.Act.{Act}
use Rattle.cm_history.specs.declared.answer.Answer.{Answer}
use Rattle.cm_history.specs.declared.refused.ActRefused.{ActRefused}
use Rattle.unit_gate.specs.declared.refused.TryRefused.{TryRefused}
use Rattle.nexus.specs.Worlds.{PassView, HasLooked, WasAnswered, NotDone, NotTaken, Stays}

pub stays-answered : (before after : PassView) (unit moment : ℕ) (act : Act) (a : Answer) → WasAnswered before after unit moment act a → Stays before after
stays-answered before after unit moment act a was = subst (Stays before) (sym was.pass) refl

stays-looked : (before after : PassView) (unit : ℕ) → HasLooked before after unit → Stays before after
stays-looked before after unit looked = subst (Stays before) (sym looked.pass) refl

pub stays-refused : (before after : PassView) (unit : ℕ) (act : Act) (e : ActRefused) → NotDone before after unit act e → Stays before after
stays-refused before after unit act ActRefused.Full r = stays-looked before after unit r.0
stays-refused before after unit act ActRefused.OutOfMemory r = stays-looked before after unit r

pub stays-not-taken : (before after : PassView) (unit : ℕ) (act : Act) (e : TryRefused) → NotTaken before after unit act e → Stays before after
stays-not-taken before after unit act (TryRefused.Held handed) r = subst (Stays before) (sym r.1) refl
stays-not-taken before after unit act (TryRefused.Act e) r = stays-refused before after unit act e r
