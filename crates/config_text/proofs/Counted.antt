-- The lines of a text, counted up to a place
use Rattle.std.proofs.Common.{◌≡◌, ℕ, suc, ◌+◌, ◌<◌, ◌≤◌, ◌==◌, true, List, [], ◌∷◌, length, drop, get_or, arith, ap}
use Rattle.std.proofs.lemmas.Bool.{cases_Bool}
use Rattle.std.proofs.Common.{inl, inr}
use Rattle.std.proofs.lemmas.List.{drop_more}
use Rattle.config_text.specs.Lines.{last_line, IsLine}

-- the place `i` stands in this line, or in a later one
pub record Counted (text : List ℕ) (i line : ℕ) : Type 0 where
  pub first : 1 ≤ line
  pub within : line + last_line (drop i text) ≤ last_line text + 1
  pub small : line ≤ i + 1

pub counted-none : (text : List ℕ) → Counted text 0 1
counted-none text = record { first = omega arith; within = omega arith; small = omega arith }

some-line : (text : List ℕ) → 1 ≤ last_line text
some-line [] = omega arith
some-line (byte ∷ text) =
    elim (cases_Bool (byte == 10)) [
      | inl same ↦ rw same (omega arith)
      | inr other ↦ rw other (some-line text)
    ]

-- a byte is in the line that it ends, or in that of what follows
same-line : (byte : ℕ) (text : List ℕ) → last_line text ≤ last_line (byte ∷ text)
same-line byte text =
    elim (cases_Bool (byte == 10)) [
      | inl same ↦ rw same (omega arith)
      | inr other ↦ rw other (omega arith)
    ]

next-line : (byte : ℕ) (text : List ℕ) → (byte == 10) ≡ true → suc (last_line text) ≡ last_line (byte ∷ text)
next-line byte text ends = rw ends

pub counted-on : (text : List ℕ) (i line d : ℕ) → i < length text → Counted text i line → Counted text (i + 1) line
counted-on text i line d h c = record {
  first = c.first;
  within = omega (arith, c.within, ap last_line (drop_more text i d h), same-line (get_or text i d) (drop (i + 1) text));
  small = omega (arith, c.small);
}

pub counted-more : (text : List ℕ) (i line d : ℕ) → i < length text → Counted text i line → (get_or text i d == 10) ≡ true → Counted text (i + 1) (line + 1)
counted-more text i line d h c ends = record {
  first = omega arith;
  within = omega (arith, c.within, ap last_line (drop_more text i d h), next-line (get_or text i d) (drop (i + 1) text) ends);
  small = omega (arith, c.small);
}

pub is-line : (text : List ℕ) (i line : ℕ) → Counted text i line → IsLine text line
is-line text i line c = (c.first, omega (arith, c.within, some-line (drop i text)))

pub first-line : (text : List ℕ) → IsLine text 1
first-line text = (omega arith, some-line text)
