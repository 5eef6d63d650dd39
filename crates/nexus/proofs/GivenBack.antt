-- What a world was to be made of is given back
use Rattle.std.proofs.Common.{◌<◌, ◌≤◌, ◌≡◌, ℕ, suc, List, [], ◌∷◌, ◌++◌, length, map, refl, ap, sym, ◌∙◌, arith, length-append, append_assoc, append-nil}
use Rattle.cm_base.specs.Configuration.{Configuration}
use Rattle.cm_history.specs.declared.act.Entry.{Entry}
use Rattle.unit_gate.specs.declared.kin.RecorderFacts.{RecorderFacts}
use Rattle.nexus.specs.Opening.{StoredUnit}
use Rattle.nexus.specs.inner.Building.{BegunState, AreBegunOf, GivenBackSoFar, store_in}
use Rattle.nexus.proofs.Opening.{fresh, map-push}

module _ {X Y : Type 0} (f : X → Y) (g : BegunState → Y) (all : List BegunState) where
  pub back-none : (back : List X) (room : ℕ) → back ≡ [] → length all ≤ room → GivenBackSoFar f g all all back room
  back-none back room none fit = rw none (record { are = refl; fit = omega (arith, fit) })

  module _ (rest more : List BegunState) (back : List X) (room : ℕ) (b : BegunState) (so : GivenBackSoFar f g all rest back room) (next : rest ≡ b ∷ more) where
    pub back-low : length back < room
    back-low = let fit = so.fit in let some = ap length next in omega (arith, fit, some)

    pub back-more : (x : X) (now : ℕ) → f x ≡ g b → now ≡ room → GivenBackSoFar f g all more (back ++ x ∷ []) now
    back-more x now same is = record {
      are =
          ap (λ l. l ++ map g more) (map-push f back x)
          ∙ append_assoc (map f back) (f x ∷ []) (map g more)
          ∙ ap (λ y. map f back ++ (y ∷ map g more)) same
          ∙ ap (λ l. map f back ++ map g l) (sym next)
          ∙ so.are;
      fit = let fit = so.fit in let some = ap length next in let one = length-append back (x ∷ []) in omega (arith, fit, some, one, is);
    }

  -- all is
  pub back-all : (rest : List BegunState) (back : List X) (room : ℕ) → GivenBackSoFar f g all rest back room → rest ≡ [] → map f back ≡ map g all
  back-all rest back room so none = sym (append-nil (map f back)) ∙ ap (λ l. map f back ++ map g l) (sym none) ∙ so.are

-- the stores with which the units began
pub stores-back : (config : Configuration) (n : ℕ) (ss : List StoredUnit) (bs : List BegunState) → AreBegunOf config n ss bs → map store_in bs ≡ ss
stores-back config n [] [] all = refl
stores-back config n [] (b ∷ bs) all = absurd all
stores-back config n (s ∷ ss) [] all = absurd all
stores-back config n (s ∷ ss) (b ∷ bs) all =
    let one : store_in b ≡ record { history = s.history; recorder = b.unit.recorder } = ap (λ (h : List Entry). record { history = h; recorder = b.unit.recorder }) all.0.history_is in
    let two : store_in b ≡ s = one ∙ ap (λ (r : RecorderFacts). record { history = s.history; recorder = r }) all.0.recorder_is in
    ap (λ x. x ∷ map store_in bs) two ∙ ap (λ l. s ∷ l) (stores-back config (suc n) ss bs all.1)

-- their recorders, where they began with nothing else
pub recorders-back : {R : Type 0} (facts : R → RecorderFacts) (config : Configuration) (n : ℕ) (rs : List R) (bs : List BegunState) → AreBegunOf config n (map (fresh facts) rs) bs → map (λ (b : BegunState). b.unit.recorder) bs ≡ map facts rs
recorders-back facts config n [] [] all = refl
recorders-back facts config n [] (b ∷ bs) all = absurd all
recorders-back facts config n (r ∷ rs) [] all = absurd all
recorders-back facts config n (r ∷ rs) (b ∷ bs) all =
    ap (λ x. x ∷ map (λ (c : BegunState). c.unit.recorder) bs) all.0.recorder_is ∙ ap (λ l. facts r ∷ l) (recorders-back facts config (suc n) rs bs all.1)
