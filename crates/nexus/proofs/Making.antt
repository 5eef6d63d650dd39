-- A pass is made
use Rattle.std.proofs.Common.{◌≡◌, ℕ, suc, ◌+◌, List, [], ◌∷◌, ◌++◌, length, map, refl, ap, sym, ◌∙◌, subst, arith, true, false, length-append, add-one, Bool, inl}
use Rattle.std.specs.Prelude.{fold}
use Rattle.std.proofs.lemmas.List.{length-map}
use Rattle.cm_base.specs.Configuration.{Configuration}
use Rattle.cm_history.specs.declared.act.Actor.{Actor}
use Rattle.cm_history.specs.declared.act.Entry.{Entry}
use Rattle.cm_history.proofs.PublicLaws.{Each}
use Rattle.merged_history.specs.Merged.{all_of, merged, put_in_order}
use Rattle.merged_history.specs.Passes.{AreFrom}
use Rattle.merged_history.specs.PassRules.{made_after, MayPass}
use Rattle.merged_history.proofs.PublicLaws.{root-makes, pass-new}
use Rattle.merged_history.specs.declared.known.Ticket.{Ticket}
use Rattle.merged_history.specs.Seats.{RootState, PassState, own_of, ticket_of}
use Rattle.turn_gate.specs.declared.view.Own.{Own}
use Rattle.unit_gate.specs.SeatActs.{UnitSeat}
use Rattle.nexus.specs.Worlds.{UnitGate}
use Rattle.nexus.specs.inner.Gates.{config_of}
use Rattle.nexus.specs.Roots.{WasMade}
use Rattle.nexus.specs.inner.Seats.{AreSplit}
use Rattle.nexus.specs.inner.Keeping.{AreAbove, AreSafe, IsAbove, IsSafeSeat, gates_of, entries_of, entries_joined, openings, owns, seens, kepts, pass_view, root_view, IsOpened, IsPumpOf, KeepsPass, KeepsRoot, AreSeqs}
use Rattle.nexus.proofs.Opened.{opened-longer, prefix-same}
use Rattle.nexus.proofs.Splitting.{map-now, map-fresh, split-long, each-now, each-fresh}

nothing-from : (unit : ℕ) (seats : List UnitSeat) → AreFrom unit (map (λ (s : UnitSeat). []) seats)
nothing-from unit [] = tt
nothing-from unit (s ∷ ss) = (tt, tt, nothing-from (suc unit) ss)

nothing-all : (seats : List UnitSeat) → all_of (map (λ (s : UnitSeat). []) seats) ≡ []
nothing-all [] = refl
nothing-all (s ∷ ss) = nothing-all ss

nothing-merged : (seats : List UnitSeat) → merged (map (λ (s : UnitSeat). []) seats) ≡ []
nothing-merged seats = ap (fold put_in_order []) (nothing-all seats)

map-const : {X Y Z : Type 0} (f : X → Y) (z : Z) (xs : List X) → map (λ (x : X). z) xs ≡ map (λ (y : Y). z) (map f xs)
map-const f z [] = refl
map-const f z (x ∷ xs) = ap (λ l. z ∷ l) (map-const f z xs)

module _ (made : ℕ) (seqs : List ℕ) (root : RootState) (old now fresh : List UnitSeat) (keeps : KeepsRoot (config_of (gates_of old)) made seqs root old) (split : AreSplit old now fresh (length old)) (actor : Actor) where
  abbrev config : Configuration
  config = config_of (gates_of old)

  abbrev ticket : Ticket
  ticket = ticket_of actor root.joined

  abbrev root_after : RootState
  root_after = record root { out = root.out ++ ticket ∷ [] }

  abbrev pass : PassState
  pass = record { register = root.register; ticket = ticket }

  nothing : owns fresh ≡ map (λ (s : UnitSeat). []) old
  nothing = map-fresh (λ (s : UnitSeat). entries_of s.own) (λ (s : UnitSeat). []) (λ b a x was. ap (λ (s : UnitSeat). entries_of s.own) was.new) old now fresh split

  none : merged (owns fresh) ≡ []
  none = ap merged nothing ∙ nothing-merged old

  gates-now : gates_of now ≡ gates_of old
  gates-now = map-now (λ (s : UnitSeat). s.gate) (λ b a x was. ap (λ (s : UnitSeat). s.gate) was.seat) old now fresh split

  gates-fresh : gates_of fresh ≡ gates_of old
  gates-fresh = map-fresh (λ (s : UnitSeat). s.gate) (λ (s : UnitSeat). s.gate) (λ b a x was. ap (λ (s : UnitSeat). s.gate) was.new) old now fresh split

  seens-now : seens now ≡ seens old
  seens-now = map-now (λ (s : UnitSeat). s.seen) (λ b a x was. ap (λ (s : UnitSeat). s.seen) was.seat) old now fresh split

  seens-fresh : seens fresh ≡ seens old
  seens-fresh = map-fresh (λ (s : UnitSeat). s.seen) (λ (s : UnitSeat). s.seen) (λ b a x was. ap (λ (s : UnitSeat). s.seen) was.new) old now fresh split

  openings-now : openings now ≡ openings old
  openings-now = map-now (λ (s : UnitSeat). s.opening) (λ b a x was. ap (λ (s : UnitSeat). s.opening) was.seat) old now fresh split

  marks-now : map (λ (s : UnitSeat). s.marks) now ≡ map (λ (s : UnitSeat). s.marks) old
  marks-now = map-now (λ (s : UnitSeat). s.marks) (λ b a x was. ap (λ (s : UnitSeat). s.marks) was.seat) old now fresh split

  marks-fresh : map (λ (s : UnitSeat). s.marks) fresh ≡ map (λ (s : UnitSeat). s.marks) old
  marks-fresh = map-fresh (λ (s : UnitSeat). s.marks) (λ (s : UnitSeat). s.marks) (λ b a x was. ap (λ (s : UnitSeat). s.marks) was.new) old now fresh split

  holds-fresh : map (λ (s : UnitSeat). s.holds) fresh ≡ map (λ (g : UnitGate). false) (gates_of old)
  holds-fresh = map-fresh (λ (s : UnitSeat). s.holds) (λ (s : UnitSeat). false) (λ b a x was. ap (λ (s : UnitSeat). s.holds) was.new) old now fresh split ∙ map-const (λ (s : UnitSeat). s.gate) false old

  misses-fresh : map (λ (s : UnitSeat). s.misses) fresh ≡ map (λ (g : UnitGate). 0) (gates_of old)
  misses-fresh = map-fresh (λ (s : UnitSeat). s.misses) (λ (s : UnitSeat). 0) (λ b a x was. ap (λ (s : UnitSeat). s.misses) was.new) old now fresh split ∙ map-const (λ (s : UnitSeat). s.gate) 0 old

  kepts-now : kepts now ≡ kepts old
  kepts-now = map-now (λ (s : UnitSeat). entries_joined s.joined) (λ b a x was. ap (λ (s : UnitSeat). entries_joined s.joined) was.seat) old now fresh split

  long : length now ≡ length old
  long = (split-long old now fresh (length old) split).now_is

  one-out : length (root.out ++ ticket ∷ []) ≡ length root.out + 1
  one-out = length-append root.out (ticket ∷ [])

  -- a new pass is safe, since it has made nothing
  pub fresh-safe : (eager : Bool) → AreAbove old → AreSafe eager fresh
  fresh-safe eager above = each-fresh IsAbove (IsSafeSeat eager) (λ b a x was is. subst (IsSafeSeat eager) (sym was.new) (record { above = is; safe = λ on kin has some. inl tt })) old now fresh split above

  pub above-now : AreAbove old → AreAbove now
  above-now above = each-now IsAbove IsAbove (λ b a x was is. subst IsAbove (sym was.seat) is) old now fresh split above

  module _ (may : MayPass actor made root.out) (pump : IsPumpOf config actor) (seq : ℕ) (seq_is : seq ≡ length (own_of actor root.joined)) where
    pass-keeps-old : KeepsPass config ticket fresh actor seq 0
    pass-keeps-old = record {
      is = rw seens-fresh (pass-new config made (seens old) (kepts old) (owns fresh) root.out root.joined actor keeps.is may
          (rw nothing (nothing-from 0 old)) (ap length nothing ∙ length-map old (λ (s : UnitSeat). []) ∙ sym (length-map old (λ (s : UnitSeat). s.seen))) none);
      gates_are = rw gates-fresh keeps.gates_are;
      units = (split-long old now fresh (length old) split).fresh_is ∙ keeps.units;
      actor_is = refl;
      pump = pump;
      seq_is = let b = ap length none in omega (arith, seq_is, b);
      last_is = rw none refl;
      rising = (keeps.is.passes actor).rising;
    }

    pub pass-keeps : KeepsPass (config_of (gates_of fresh)) ticket fresh actor seq 0
    pass-keeps = subst (λ c. KeepsPass c ticket fresh actor seq 0) (sym (ap config_of gates-fresh)) pass-keeps-old

    root-keeps-old : KeepsRoot config (made_after actor made) seqs root_after now
    root-keeps-old = record {
      is = rw (seens-now, kepts-now) (root-makes config made (seens old) (kepts old) root.out root.joined actor keeps.is may);
      gates_are = rw gates-now keeps.gates_are;
      units = long ∙ keeps.units;
      free = each-now (λ (s : UnitSeat). s.holds ≡ false) (λ (s : UnitSeat). s.holds ≡ false) (λ b a x was is. ap (λ (s : UnitSeat). s.holds) was.seat ∙ is) old now fresh split keeps.free;
      firsts = each-now (λ (s : UnitSeat). s.first ≡ true) (λ (s : UnitSeat). s.first ≡ true) (λ b a x was is. ap (λ (s : UnitSeat). s.first) was.seat ∙ is) old now fresh split keeps.firsts;
      outs = each-now (λ (s : UnitSeat). s.out ≡ length root.out) (λ (s : UnitSeat). s.out ≡ length (root.out ++ ticket ∷ []))
          (λ b a x was is. ap (λ (s : UnitSeat). s.out) was.seat ∙ ap (λ n. n + 1) is ∙ sym one-out) old now fresh split keeps.outs;
      nothing = each-now (λ (s : UnitSeat). s.own ≡ []) (λ (s : UnitSeat). s.own ≡ []) (λ b a x was is. ap (λ (s : UnitSeat). s.own) was.seat ∙ is) old now fresh split keeps.nothing;
      openings = each-now (IsOpened config) (IsOpened config) (λ b a x was is.
          opened-longer config b a (ap (λ (s : UnitSeat). s.opening) was.seat) (prefix-same b.seen a.seen (ap (λ (s : UnitSeat). s.seen) was.seat)) is) old now fresh split keeps.openings;
      seqs_are = rw long keeps.seqs_are;
    }

    pub root-keeps : KeepsRoot (config_of (gates_of now)) (made_after actor made) seqs root_after now
    root-keeps = subst (λ c. KeepsRoot c (made_after actor made) seqs root_after now) (sym (ap config_of gates-now)) root-keeps-old

    pub was-made : WasMade (root_view config made root old) (root_view (config_of (gates_of now)) (made_after actor made) root_after now) (pass_view (config_of (gates_of fresh)) pass fresh) actor
    was-made = record {
      root = rw (gates-now, seens-now, marks-now, openings-now) refl;
      new = rw (gates-fresh, none, seens-fresh, marks-fresh, holds-fresh, misses-fresh) refl;
    }
