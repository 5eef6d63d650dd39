-- A pump's pass keeps its unit's turn, and gives it back
use Rattle.std.proofs.Common.{◌≡◌, ◌<◌, ℕ, zero, suc, List, [], ◌∷◌, length, refl, ap, sym, ◌∙◌, subst, arith, Bool, true, false}
use Rattle.std.specs.Prelude.{All, slice_set, slice_index_or}
use Rattle.std.proofs.lemmas.List.{length-set}
use Rattle.cm_history.specs.Members.{Each}
use Rattle.cm_history.specs.declared.act.Entry.{Entry}
use Rattle.cm_server.specs.inner.Passes.{IsFree}
use Rattle.cm_server.specs.inner.Pumping.{IsPump}
use Rattle.cm_server.proofs.Passing.{seen-later}
use Rattle.merged_history.proofs.PublicLaws.{longer-set}
use Rattle.merged_history.specs.PassRules.{AreLonger, AreSeen}
use Rattle.merged_history.specs.Passes.{of_unit}
use Rattle.merged_history.specs.declared.known.Ticket.{Ticket}
use Rattle.nexus.specs.Holding.{HasWaited, HasTaken}
use Rattle.nexus.specs.Worlds.{WorldView, PassView, IsOf}

free-again : (holds : List Bool) (unit : ℕ) → All (λ h. h ≡ false) holds → All (λ h. h ≡ false) (slice_set (slice_set holds unit true) unit false)
free-again [] unit all k d low = absurd (omega (arith, low))
free-again (h ∷ hs) zero all zero d low = refl
free-again (h ∷ hs) zero all (suc k) d low = all (suc k) d (omega (arith, low))
free-again (h ∷ hs) (suc n) all zero d low = all 0 d (omega arith)
free-again (h ∷ hs) (suc n) all (suc k) d low = free-again hs n (λ i e less. all (suc i) e (omega (arith, less))) k d (omega (arith, low))

pub is-unheld : (holds : List Bool) (unit : ℕ) → All (λ h. h ≡ false) holds → slice_index_or holds unit false ≡ false
is-unheld [] unit all = refl
is-unheld (h ∷ hs) zero all = all 0 false (omega arith)
is-unheld (h ∷ hs) (suc n) all = is-unheld hs n (λ i e less. all (suc i) e (omega (arith, less)))

module _ (world : WorldView) (Shows : ℕ → Type 0) (unit : ℕ) (p q : PassView) (is : IsPump world Shows unit p) (waited : HasWaited p q unit) where
  holding : q ≡ record p { seen = slice_set p.seen unit (of_unit q.seen unit); holds = slice_set p.holds unit true; misses = q.misses; marks = q.marks }
  holding = waited.taken.pass ∙ ap (λ (x : PassView). record p { seen = slice_set p.seen unit (of_unit q.seen unit); holds = slice_set p.holds unit true; misses = x.misses; marks = x.marks }) (sym waited.taken.pass)

  pub holding-of : IsOf world q
  holding-of = record {
    config = ap (λ (x : PassView). x.config) holding ∙ is.free.of.config;
    gates = ap (λ (x : PassView). x.gates) holding ∙ is.free.of.gates;
    register = ap (λ (x : PassView). x.register) holding ∙ is.free.of.register;
  }

  seen-is : q.seen ≡ slice_set p.seen unit (of_unit q.seen unit)
  seen-is = ap (λ (x : PassView). x.seen) holding

  longer : AreLonger p.seen q.seen
  longer = subst (AreLonger p.seen) (sym seen-is) (longer-set p.seen unit (of_unit q.seen unit) waited.taken.turn.longer)

  own-is : q.own ≡ p.own
  own-is = ap (λ (x : PassView). x.own) holding

  given-back : IsPump world Shows unit (record q { holds = slice_set q.holds unit false })
  given-back = record {
    free = record {
      of = record { config = holding-of.config; gates = holding-of.gates; register = holding-of.register };
      units = ap (λ (s : List (List Entry)). length s) seen-is ∙ length-set p.seen unit (of_unit q.seen unit) ∙ is.free.units;
      free = subst (λ hs. All (λ h. h ≡ false) (slice_set hs unit false)) (sym (ap (λ (x : PassView). x.holds) holding)) (free-again p.holds unit is.free.free);
    };
    actor = ap (λ (x : PassView). x.ticket.actor) holding ∙ is.actor;
    on_unit = subst (Each (λ (e : Entry). e.unit ≡ unit)) (sym own-is) is.on_unit;
    shown = subst (Each (λ (e : Entry). Shows e.moment)) (sym own-is) is.shown;
    stands = subst (AreSeen q.seen) (sym own-is) (seen-later p.seen q.seen p.own longer is.stands);
  }

  -- it is still a pass of the pump when it was given back
  pub still-pump : (r : PassView) (held : ℕ) → held ≡ unit → r ≡ record q { holds = slice_set q.holds held false } → IsPump world Shows unit r
  still-pump r held same gave = subst (IsPump world Shows unit) (sym (gave ∙ ap (λ n. record q { holds = slice_set q.holds n false }) same)) given-back
