-- Recorders come back
use Rattle.std.proofs.Common.{◌≡◌, ◌≤◌, ℕ, zero, suc, List, [], ◌∷◌, ◌++◌, length, refl, ap, sym, ◌∙◌, subst, arith}
use Rattle.std.specs.Prelude.{Option, Some, IfSome, drop, map, take, slice_get, slice_set}
use Rattle.std.proofs.lemmas.List.{drop_at, length-map}
use Rattle.cm_base.specs.Configuration.{Configuration}
use Rattle.cm_history.specs.declared.act.Entry.{Entry}
use Rattle.cm_history.proofs.PublicLaws.{Each, map-append}
use Rattle.cm_server.specs.Recorders.{AreBack, IsBack}
use Rattle.cm_server.specs.inner.Opened.{IsOpened, OpenedUnit, kin_at, kins_of, new_units, opening_marks, recorders_of}
use Rattle.cm_server.specs.inner.Passes.{HasMoved}
use Rattle.cm_server.specs.inner.Recording.{HasRecordedKept, finals}
use Rattle.cm_server.proofs.Keeping.{RecordsSoFar, more-twice, none-more}
use Rattle.recorder.specs.Recording.{with_more}
use Rattle.nexus.specs.Closing.{AreLeftOf, IsLeftOf, WasEnded, marks_left}
use Rattle.nexus.specs.Roots.{AreAtMost, RootView}
use Rattle.nexus.specs.Worlds.{UnitGate, WorldView}
use Rattle.unit_gate.specs.declared.kin.RecorderFacts.{RecorderFacts}
use Rattle.unit_gate.specs.declared.kin.UnitKin.{UnitKin}
use Rattle.unit_gate.specs.declared.recorded_unit.ClosedUnit.{ClosedUnit}

-- ---- one recorder

pub back-same : (r : RecorderFacts) → IsBack r r
back-same r = record { absent = refl; front = refl; faults = omega arith; more = []; goes_on = none-more r.recorded }

pub back-then : (a b c : RecorderFacts) → IsBack a b → IsBack b c → IsBack a c
back-then a b c one two = record {
  absent = two.absent ∙ one.absent;
  front = two.front ∙ one.front;
  faults = (let x = one.faults in let y = two.faults in omega (arith, x, y));
  more = one.more ++ two.more;
  goes_on = two.goes_on ∙ ap (λ o. with_more o two.more) one.goes_on ∙ more-twice a.recorded one.more two.more;
}

-- ---- all recorders

pub all-same : (rs : List RecorderFacts) → AreBack rs rs
all-same [] = tt
all-same (r ∷ rs) = (back-same r, all-same rs)

pub all-then : (xs ys zs : List RecorderFacts) → AreBack xs ys → AreBack ys zs → AreBack xs zs
all-then [] [] [] one two = tt
all-then [] [] (z ∷ zs) one two = absurd two
all-then [] (y ∷ ys) zs one two = absurd one
all-then (x ∷ xs) [] zs one two = absurd one
all-then (x ∷ xs) (y ∷ ys) [] one two = absurd two
all-then (x ∷ xs) (y ∷ ys) (z ∷ zs) one two = (back-then x y z one.0 two.0, all-then xs ys zs one.1 two.1)

pub all-many : (xs ys : List RecorderFacts) → AreBack xs ys → length ys ≡ length xs
all-many [] [] back = refl
all-many [] (y ∷ ys) back = absurd back
all-many (x ∷ xs) [] back = absurd back
all-many (x ∷ xs) (y ∷ ys) back = ap suc (all-many xs ys back.1)

-- and spare ones behind
pub all-behind : (xs ys more : List RecorderFacts) → AreBack xs ys → AreBack (xs ++ more) (ys ++ more)
all-behind [] [] more back = all-same more
all-behind [] (y ∷ ys) more back = absurd back
all-behind (x ∷ xs) [] more back = absurd back
all-behind (x ∷ xs) (y ∷ ys) more back = (back.0, all-behind xs ys more back.1)

pub new-recorders : (recorders : List RecorderFacts) → recorders_of (new_units recorders) ≡ recorders
new-recorders [] = refl
new-recorders (r ∷ rs) = ap (λ l. r ∷ l) (new-recorders rs)

-- what is true of each is so of each of the first ones
pub each-front : {X : Type 0} (P : X → Type 0) (front spare : List X) → Each P (front ++ spare) → Each P front
each-front P [] spare all = tt
each-front P (x ∷ xs) spare all = (all.0, each-front P xs spare all.1)

-- those of no unit are as they were
pub spare-same : {X : Type 0} (all front spare again back : List X) (n : ℕ) → all ≡ front ++ spare → again ≡ back ++ spare → length front ≡ n → length back ≡ n → drop n again ≡ drop n all
spare-same all front spare again back n whole is one two = ap (drop n) is ∙ drop_at back spare n two ∙ sym (ap (drop n) whole ∙ drop_at front spare n one)

module _ {R : Type 0} (facts : R → RecorderFacts) where
  -- ---- what is left of units is recorded

  pub kept-back : (Fits : Entry → Type 0) (before after : RecorderFacts) (kept : List Entry) (left : ℕ) → HasRecordedKept Fits before after kept left → IsBack before after
  kept-back Fits before after kept left h = record { absent = h.stays; front = h.front; faults = h.faults; more = take h.done kept; goes_on = h.told }

  -- an entry was refused
  pub refused-back : (fits : R → Entry → Type 0) (old mid : ClosedUnit R) (recorder : R) (n : ℕ) → RecordsSoFar facts fits old mid n
      → (facts recorder).recorded ≡ (facts mid.recorder).recorded → (facts mid.recorder).faults ≤ (facts recorder).faults
      → (facts recorder).absent ≡ (facts mid.recorder).absent → (facts recorder).front ≡ (facts mid.recorder).front → IsBack (facts old.recorder) (facts recorder)
  refused-back fits old mid recorder n s same faults absent front = record {
    absent = absent ∙ s.stays;
    front = front ∙ s.front;
    faults = (let x = s.faults in omega (arith, x, faults));
    more = take n old.history.entries;
    goes_on = same ∙ s.told;
  }

  -- none was
  pub records-back : (fits : R → Entry → Type 0) (old new : ClosedUnit R) (n : ℕ) → RecordsSoFar facts fits old new n → IsBack (facts old.recorder) (facts new.recorder)
  records-back fits old new n s = record { absent = s.stays; front = s.front; faults = s.faults; more = take n old.history.entries; goes_on = s.told }

  -- one unit more
  pub back-set : (xs : List RecorderFacts) (us : List (ClosedUnit R)) (n : ℕ) (u z : ClosedUnit R) → AreBack xs (finals facts us) → slice_get us n ≡ Some u
      → IsBack (facts u.recorder) (facts z.recorder) → AreBack xs (finals facts (slice_set us n z))
  back-set xs [] n u z back at is = cc
  back-set [] (x ∷ us) n u z back at is = absurd back
  back-set (b ∷ xs) (x ∷ us) zero u z back at is =
      let same : x ≡ u = cc in
      (back-then b (facts u.recorder) (facts z.recorder) (subst (λ (k : ClosedUnit R). IsBack b (facts k.recorder)) same back.0) is, back.1)
  back-set (b ∷ xs) (x ∷ us) (suc n) u z back at is = (back.0, back-set xs us n u z back.1 at is)

  -- there are as many units
  pub units-back : (xs : List RecorderFacts) (us : List (ClosedUnit R)) → AreBack xs (finals facts us) → length us ≡ length xs
  units-back xs us back = sym (length-map us (λ (u : ClosedUnit R). facts u.recorder)) ∙ all-many xs (finals facts us) back

  -- of a world that was ended, and then recorded
  pub world-many : (opened : List OpenedUnit) (us zs : List (ClosedUnit R)) → AreBack (recorders_of opened) (finals facts us) → AreBack (finals facts us) (finals facts zs)
      → length zs ≡ length opened
  world-many opened us zs one two =
      units-back (recorders_of opened) zs (all-then (recorders_of opened) (finals facts us) (finals facts zs) one two) ∙ length-map opened (λ (u : OpenedUnit). u.recorder)

  -- ---- recorders that were given

  pub back-long : (xs ys : List R) → AreBack (map facts xs) (map facts ys) → length ys ≡ length xs
  back-long xs ys back = sym (length-map ys facts) ∙ all-many (map facts xs) (map facts ys) back ∙ length-map xs facts

  -- no world was made of the first ones
  pub same-recorders : (all front spare back again : List R) → all ≡ front ++ spare → map facts back ≡ map facts front → again ≡ back ++ spare → AreBack (map facts all) (map facts again)
  same-recorders all front spare back again whole same is =
      let these : map facts again ≡ map facts all =
      ap (map facts) is ∙ map-append facts back spare ∙ ap (λ l. l ++ map facts spare) same ∙ sym (map-append facts front spare) ∙ ap (map facts) (sym whole) in
      subst (AreBack (map facts all)) (sym these) (all-same (map facts all))

  pub finals-are : (zs : List (ClosedUnit R)) → finals facts zs ≡ map facts (map (λ (u : ClosedUnit R). u.recorder) zs)
  finals-are [] = refl
  finals-are (z ∷ zs) = ap (λ l. facts z.recorder ∷ l) (finals-are zs)

  -- a world of the first ones was served, ended and recorded
  pub recorders-back : (all front spare back : List R) (us zs : List (ClosedUnit R)) → all ≡ front ++ spare → back ≡ map (λ (u : ClosedUnit R). u.recorder) zs ++ spare
      → AreBack (recorders_of (new_units (map facts front))) (finals facts us) → AreBack (finals facts us) (finals facts zs) → AreBack (map facts all) (map facts back)
  recorders-back all front spare back us zs whole again one two =
      let these : List R = map (λ (u : ClosedUnit R). u.recorder) zs in
      let both : AreBack (map facts front) (finals facts zs) =
      subst (λ rs. AreBack rs (finals facts zs)) (new-recorders (map facts front)) (all-then (recorders_of (new_units (map facts front))) (finals facts us) (finals facts zs) one two) in
      let wide = all-behind (map facts front) (map facts these) (map facts spare) (subst (AreBack (map facts front)) (finals-are zs) both) in
      let first : map facts all ≡ map facts front ++ map facts spare = ap (map facts) whole ∙ map-append facts front spare in
      let last : map facts back ≡ map facts these ++ map facts spare = ap (map facts) again ∙ map-append facts these spare in
      subst (λ l. AreBack l (map facts back)) (sym first) (subst (AreBack (map facts front ++ map facts spare)) (sym last) wide)

  -- ---- a world was ended

  module _ (fits : R → Entry → Type 0) where
    left-back : (kin : UnitKin) (history : List Entry) (u : ClosedUnit R) → IsLeftOf facts fits kin history u → kin.opening.faults ≤ (facts u.recorder).faults
        → IsBack kin.opening (facts u.recorder)
    left-back kin history u l low = record { absent = l.absent; front = l.front; faults = low; more = take u.folded history; goes_on = l.recorded }

    left-all : (config : Configuration) (n : ℕ) (rs : List OpenedUnit) (gs : List UnitGate) (hs : List (List Entry)) (us : List (ClosedUnit R))
        → map (λ (g : UnitGate). g.kin) gs ≡ kins_of config n rs → AreLeftOf facts fits gs hs us → AreAtMost (opening_marks rs) (marks_left facts fits us)
        → AreBack (recorders_of rs) (finals facts us)
    left-all config n [] [] [] [] kins are marks = tt
    left-all config n [] [] [] (u ∷ us) kins are marks = absurd are
    left-all config n [] [] (h ∷ hs) us kins are marks = absurd are
    left-all config n [] (g ∷ gs) hs us kins are marks = cc
    left-all config n (r ∷ rs) [] hs us kins are marks = cc
    left-all config n (r ∷ rs) (g ∷ gs) [] us kins are marks = absurd are
    left-all config n (r ∷ rs) (g ∷ gs) (h ∷ hs) [] kins are marks = absurd are
    left-all config n (r ∷ rs) (g ∷ gs) (h ∷ hs) (u ∷ us) kins are marks =
        let kin : g.kin ≡ Some (kin_at config n r) = cc in
        let rest : map (λ (g : UnitGate). g.kin) gs ≡ kins_of config (suc n) rs = cc in
        let l = subst (λ (k : Option UnitKin). IfSome k (λ kin. IsLeftOf facts fits kin h u)) kin are.0 in
        let low = marks 0 0 in
        (left-back (kin_at config n r) h u l low, left-all config (suc n) rs gs hs us rest are.1 (λ v k. marks (suc v) k))

    -- whatever was served of it
    pub world-back : (config : Configuration) (opened : List OpenedUnit) (world : WorldView) (begin end : RootView) (units : List (ClosedUnit R)) → IsOpened config opened world begin
        → HasMoved world begin end → WasEnded facts fits end units → AreBack (recorders_of opened) (finals facts units)
    world-back config opened world begin end units begun moved ended =
        left-all config 0 opened world.gates ended.histories units begun.gates
        (subst (λ g. AreLeftOf facts fits g ended.histories units) moved.ready.of.gates ended.left)
        (subst (λ m. AreAtMost m (marks_left facts fits units)) (ap (λ (r : RootView). r.marks) begun.root_is)
        (λ u k. (let a = moved.known.above u k in let b = ended.marks u k in omega (arith, a, b))))
