use Rattle.std.proofs.Common.{◌≡◌, ℕ, List, [], ap, sym, ◌∙◌, refl}
use Rattle.std.specs.Prelude.{Option, Some, None}
use Rattle.lba_ranges.specs.declared.ranges.Range.{Range}
use Rattle.rod_store.specs.declared.kept.Kept.{Kept}
use Rattle.rod_store.specs.declared.pinned_rod.PinnedRod.{PinnedRod}
use Rattle.rod_store.specs.Pinning.{holder, ArePinned}
use Rattle.unit_core.proofs.tables.Tables.new.Goals as goal

-- where there is no token, and no pin
none-pinned : {P : Type 0} (number : P → ℕ) (blocks : ℕ) (pinned : ℕ → Option (List Range)) (tokens : List (Kept (PinnedRod P))) → tokens ≡ [] → ((n : ℕ) → pinned n ≡ None)
    → ArePinned number blocks pinned (holder None tokens)
none-pinned {P} number blocks pinned tokens e none = record {
  live = λ at rod h. let no : None ≡ Some rod = sym (nobody at) ∙ h in absurd cc;
  within = λ at rod h. let no : None ≡ Some rod = sym (nobody at) ∙ h in absurd cc;
  apart = λ at other rod its h k same. let no : None ≡ Some rod = sym (nobody at) ∙ h in absurd cc;
  held = λ n ranges h. let no : None ≡ Some ranges = sym (none n) ∙ h in absurd cc;
}
  where
    nobody : (at : Option ℕ) → holder None tokens at ≡ None
    nobody None = refl
    nobody (Some serial) = ap (λ kept. holder None kept (Some serial)) e

pub returns-clause-pinned : goal.returns-clause-pinned
returns-clause-pinned g c = none-pinned _ _ _ c.in_ok-tokens.tokens.tokens (ap (λ store. store.tokens) c.in_ok-tokens.ensures) c.in_ok-blocks.ensures.pinned
