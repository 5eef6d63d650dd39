-- What was played is a legal history
use Rattle.std.proofs.Common.{◌≡◌, ℕ, ◌<◌, ◌≤◌, List, [], ◌∷◌, ◌++◌, length, refl, sym, ◌∙◌, subst, arith, true, length-append}
use Rattle.std.specs.Prelude.{All}
use Rattle.std.proofs.lemmas.List.Elements.{All-append}
use Rattle.cm_base.specs.Configuration.{Configuration}
use Rattle.cm_history.specs.declared.act.Act.{Act}
use Rattle.cm_history.specs.declared.act.Actor.{Actor}
use Rattle.cm_history.specs.declared.act.Entry.{Entry}
use Rattle.cm_history.specs.Limits.{within_limits}
use Rattle.cm_history.specs.Legal.{IsLegal, may_ask}
use Rattle.cm_history.proofs.PublicLaws.{Each-all, legal_push}
use Rattle.trace_replay.specs.ReplayState.{new_entry}

-- ---- one more entry

pub legal-none : (config : Configuration) → IsLegal config []
legal-none config = record {
  configured = λ i d h. absurd (omega (arith, h));
  limits = λ i d h. absurd (omega (arith, h));
  asked = λ i d h. absurd (omega (arith, h));
  rising = λ i j d low high. absurd (omega (arith, high));
  apart = λ i j d low high. absurd (omega (arith, high));
  counted = λ i d h. absurd (omega (arith, h));
}

module _ (config : Configuration) (entries : List Entry) (actor : Actor) (u moment : ℕ) (act : Act)
    (low : All (λ (e : Entry). e.stamp ≤ length entries) entries) where
  abbrev its : Entry
  its = new_entry entries actor u moment act

  pub legal-more : IsLegal config entries → u < length config.units → within_limits config u act ≡ true → may_ask u actor act ≡ true
      → IsLegal config (entries ++ its ∷ [])
  legal-more legal configured limits asked = legal_push config entries its legal (record {
    configured = configured;
    limits = limits;
    asked = asked;
    rising = λ i d h same. let stamp = low i d h in omega (arith, stamp);
    later = λ i d h same. let stamp = low i d h in omega (arith, stamp);
    counted = refl;
  })

  pub low-more : All (λ (e : Entry). e.stamp ≤ length (entries ++ its ∷ [])) (entries ++ its ∷ [])
  low-more = All-append (λ (e : Entry). e.stamp ≤ length (entries ++ its ∷ [])) entries (its ∷ [])
      (λ i d h. let stamp = low i d h in omega (arith, stamp, length-append entries (its ∷ [])))
      (Each-all (λ (e : Entry). e.stamp ≤ length (entries ++ its ∷ [])) (its ∷ []) (omega (arith, length-append entries (its ∷ [])), tt))
