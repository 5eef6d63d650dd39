-- A pass is joined
use Rattle.std.proofs.Common.{◌<◌, ◌≡◌, ℕ, zero, suc, ◌+◌, List, [], ◌∷◌, ◌++◌, length, map, refl, ap, sym, ◌∙◌, subst, arith, true, false, inl, inr, length-append, append_assoc, append-nil}
use Rattle.std.specs.Prelude.{◌⊎◌, slice_set, slice_index}
use Rattle.std.specs.List.{All}
use Rattle.std.proofs.lemmas.List.{length-map, length-set}
use Rattle.cm_base.specs.Configuration.{Configuration}
use Rattle.cm_history.specs.declared.act.Actor.{Actor}
use Rattle.cm_history.specs.declared.act.Actor.TheVariants.{Nexus, Pump}
use Rattle.cm_history.specs.declared.act.Entry.{Entry}
use Rattle.cm_history.proofs.PublicLaws.{Each, Each-by, Each-in, In}
use Rattle.merged_history.specs.Merged.{merged}
use Rattle.merged_history.specs.Passes.{of_unit}
use Rattle.merged_history.specs.PassRules.{IsRoot, AreLonger}
use Rattle.merged_history.proofs.PublicLaws.{In-append, In-split, in-merged, all-in, unit-stands, root-joins, IsJoinedTo, own_of-other, own_of-own}
use Rattle.merged_history.specs.declared.known.Ticket.{Ticket}
use Rattle.merged_history.specs.Seats.{Joined, RootState, PassState, own_of, IsJoined}
use Rattle.turn_gate.specs.declared.view.Own.{Own}
use Rattle.turn_gate.specs.declared.view.Joined.{Joined as JoinedSeat}
use Rattle.unit_gate.specs.SeatActs.{UnitSeat}
use Rattle.nexus.specs.Worlds.{UnitGate}
use Rattle.nexus.specs.inner.Gates.{config_of}
use Rattle.nexus.specs.Roots.{AreAtMost, WasTaken}
use Rattle.nexus.specs.inner.Seats.{AllFree, WasJoined, AreJoinedTo}
use Rattle.nexus.specs.inner.Keeping.{AreAbove, IsAbove, IsOpened, gates_of, entries_of, entries_joined, openings, owns, seens, kepts, pass_view, root_view, KeepsPass, KeepsRoot, AreSeqs, seqs_after}
use Rattle.nexus.proofs.Members.{In-right}
use Rattle.nexus.proofs.Safe.{above-more}
use Rattle.nexus.proofs.Opened.{opened-longer}

map-joined : {Y : Type 0} (f : UnitSeat → Y) → ((b p a : UnitSeat) → WasJoined b p a → f a ≡ f b) → (old passed now : List UnitSeat) → AreJoinedTo old passed now 0 → map f now ≡ map f old
map-joined f keep [] passed now so = ap (map f) so
map-joined f keep (b ∷ bs) [] now so = absurd so
map-joined f keep (b ∷ bs) (p ∷ ps) [] so = absurd so
map-joined f keep (b ∷ bs) (p ∷ ps) (a ∷ al) so = ap (λ v. v ∷ map f al) (keep b p a so.0) ∙ ap (λ l. f b ∷ l) (map-joined f keep bs ps al so.1)

each-joined : (P Q : UnitSeat → Type 0) → ((b p a : UnitSeat) → WasJoined b p a → P b → Q a) → (old passed now : List UnitSeat) → AreJoinedTo old passed now 0 → Each P old → Each Q now
each-joined P Q keep [] passed now so all = rw so tt
each-joined P Q keep (b ∷ bs) [] now so all = absurd so
each-joined P Q keep (b ∷ bs) (p ∷ ps) [] so all = absurd so
each-joined P Q keep (b ∷ bs) (p ∷ ps) (a ∷ al) so all = (keep b p a so.0 all.0, each-joined P Q keep bs ps al so.1 all.1)

longer-old : (old passed now : List UnitSeat) → AreJoinedTo old passed now 0 → AreLonger (seens old) (seens now)
longer-old [] passed now so unit = rw so ([], refl)
longer-old (b ∷ bs) [] now so unit = absurd so
longer-old (b ∷ bs) (p ∷ ps) [] so unit = absurd so
longer-old (b ∷ bs) (p ∷ ps) (a ∷ al) so zero = so.0.longer
longer-old (b ∷ bs) (p ∷ ps) (a ∷ al) so (suc unit) = longer-old bs ps al so.1 unit

longer-passed : (old passed now : List UnitSeat) → length passed ≡ length old → AreJoinedTo old passed now 0 → AreLonger (seens passed) (seens now)
longer-passed [] [] now long so unit = rw so ([], refl)
longer-passed [] (p ∷ ps) now long so unit = absurd (omega (arith, long))
longer-passed (b ∷ bs) [] now long so unit = absurd so
longer-passed (b ∷ bs) (p ∷ ps) [] long so unit = absurd so
longer-passed (b ∷ bs) (p ∷ ps) (a ∷ al) long so zero = so.0.longer_seat
longer-passed (b ∷ bs) (p ∷ ps) (a ∷ al) long so (suc unit) = longer-passed bs ps al (omega (arith, long)) so.1 unit

abbrev marks_of_all : List UnitSeat → List (List ℕ)
marks_of_all seats = map (λ (s : UnitSeat). s.marks) seats

above-old : (old passed now : List UnitSeat) → AreJoinedTo old passed now 0 → AreAtMost (marks_of_all old) (marks_of_all now)
above-old [] passed now so unit = rw so (λ i. omega arith)
above-old (b ∷ bs) [] now so unit = absurd so
above-old (b ∷ bs) (p ∷ ps) [] so unit = absurd so
above-old (b ∷ bs) (p ∷ ps) (a ∷ al) so zero = so.0.above
above-old (b ∷ bs) (p ∷ ps) (a ∷ al) so (suc unit) = above-old bs ps al so.1 unit

above-passed : (old passed now : List UnitSeat) → length passed ≡ length old → AreJoinedTo old passed now 0 → AreAtMost (marks_of_all passed) (marks_of_all now)
above-passed [] [] now long so unit = rw so (λ i. omega arith)
above-passed [] (p ∷ ps) now long so unit = absurd (omega (arith, long))
above-passed (b ∷ bs) [] now long so unit = absurd so
above-passed (b ∷ bs) (p ∷ ps) [] long so unit = absurd so
above-passed (b ∷ bs) (p ∷ ps) (a ∷ al) long so zero = so.0.above_seat
above-passed (b ∷ bs) (p ∷ ps) (a ∷ al) long so (suc unit) = above-passed bs ps al (omega (arith, long)) so.1 unit

entries_joined-push : (js : List (JoinedSeat Entry)) (j : JoinedSeat Entry) → entries_joined (js ++ j ∷ []) ≡ entries_joined js ++ entries_of j.own
entries_joined-push [] j = append-nil (entries_of j.own)
entries_joined-push (k ∷ ks) j = ap (λ l. entries_of k.own ++ l) (entries_joined-push ks j) ∙ sym (append_assoc (entries_of k.own) (entries_joined ks) (entries_of j.own))

-- what was kept of a unit, or what the pass made there
kept-or-made : (old passed now : List UnitSeat) (unit : ℕ) (e : Entry) → AreJoinedTo old passed now 0 → In e (of_unit (kepts now) unit) → In e (of_unit (kepts old) unit) ⊎ In e (of_unit (owns passed) unit)
kept-or-made [] passed now unit e so i = inl (subst (λ l. In e (of_unit (kepts l) unit)) so i)
kept-or-made (b ∷ bs) [] now unit e so i = absurd so
kept-or-made (b ∷ bs) (p ∷ ps) [] unit e so i = absurd so
kept-or-made (b ∷ bs) (p ∷ ps) (a ∷ al) zero e so i =
    In-split (entries_joined b.joined) (entries_of p.own) e
    (subst (In e) (ap (λ (s : UnitSeat). entries_joined s.joined) so.0.into ∙ entries_joined-push b.joined (record { own = p.own; seen = p.seen })) i)
kept-or-made (b ∷ bs) (p ∷ ps) (a ∷ al) (suc unit) e so i = kept-or-made bs ps al unit e so.1 i

-- both stand in what is kept now
kept-still : (old passed now : List UnitSeat) (unit : ℕ) (e : Entry) → AreJoinedTo old passed now 0 → In e (of_unit (kepts old) unit) → In e (of_unit (kepts now) unit)
kept-still [] passed now unit e so i = subst (λ l. In e (of_unit (kepts l) unit)) (sym so) i
kept-still (b ∷ bs) [] now unit e so i = absurd so
kept-still (b ∷ bs) (p ∷ ps) [] unit e so i = absurd so
kept-still (b ∷ bs) (p ∷ ps) (a ∷ al) zero e so i =
    subst (In e) (sym (ap (λ (s : UnitSeat). entries_joined s.joined) so.0.into ∙ entries_joined-push b.joined (record { own = p.own; seen = p.seen })))
    (In-append (entries_joined b.joined) (entries_of p.own) e i)
kept-still (b ∷ bs) (p ∷ ps) (a ∷ al) (suc unit) e so i = kept-still bs ps al unit e so.1 i

made-kept : (old passed now : List UnitSeat) (unit : ℕ) (e : Entry) → length passed ≡ length old → AreJoinedTo old passed now 0 → In e (of_unit (owns passed) unit) → In e (of_unit (kepts now) unit)
made-kept old [] now unit e long so i = absurd i
made-kept [] (p ∷ ps) now unit e long so i = absurd (omega (arith, long))
made-kept (b ∷ bs) (p ∷ ps) [] unit e long so i = absurd so
made-kept (b ∷ bs) (p ∷ ps) (a ∷ al) zero e long so i =
    subst (In e) (sym (ap (λ (s : UnitSeat). entries_joined s.joined) so.0.into ∙ entries_joined-push b.joined (record { own = p.own; seen = p.seen })))
    (In-right (entries_joined b.joined) (entries_of p.own) e i)
made-kept (b ∷ bs) (p ∷ ps) (a ∷ al) (suc unit) e long so i = made-kept bs ps al unit e (omega (arith, long)) so.1 i

-- ---- the next seq of each pump

index-set-own : (xs : List ℕ) (k y : ℕ) → k < length xs → slice_index (slice_set xs k y) k ≡ y
index-set-own [] k y low = absurd (omega arith)
index-set-own (x ∷ xs) zero y low = refl
index-set-own (x ∷ xs) (suc k) y low = index-set-own xs k y (omega arith)

index-set-other : (xs : List ℕ) (k i y : ℕ) → (k ≡ i → ⊥) → slice_index (slice_set xs k y) i ≡ slice_index xs i
index-set-other [] k i y other = refl
index-set-other (x ∷ xs) zero zero y other = absurd (other refl)
index-set-other (x ∷ xs) zero (suc i) y other = refl
index-set-other (x ∷ xs) (suc k) zero y other = refl
index-set-other (x ∷ xs) (suc k) (suc i) y other = index-set-other xs k i y (λ same. other (ap suc same))

seqs-after : (actor : Actor) (seq : ℕ) (seqs : List ℕ) (units : ℕ) (joined : List Joined) (own : List Entry) → AreSeqs seqs units joined → seq ≡ length (own_of actor joined) + length own
    → AreSeqs (seqs_after actor seq seqs) units (joined ++ record { actor = actor; own = own } ∷ [])
seqs-after (Nexus n) seq seqs units joined own are is = record {
  long = are.long;
  are = λ unit low. are.are unit low ∙ ap length (sym (own_of-other (Pump unit) joined (record { actor = Nexus n; own = own }) (λ same. cc)));
}
seqs-after (Pump u) seq seqs units joined own are is = record {
  long = length-set seqs u seq ∙ are.long;
  are = λ unit low. go unit low;
}
  where
    mine : length (own_of (Pump u) (joined ++ record { actor = Pump u; own = own } ∷ [])) ≡ seq
    mine = ap length (own_of-own (Pump u) joined (record { actor = Pump u; own = own }) refl) ∙ length-append (own_of (Pump u) joined) own ∙ sym is

    here : (unit : ℕ) → unit < units → u ≡ unit → slice_index (slice_set seqs u seq) unit ≡ length (own_of (Pump unit) (joined ++ record { actor = Pump u; own = own } ∷ []))
    here unit low same = subst (λ k. slice_index (slice_set seqs u seq) k ≡ length (own_of (Pump k) (joined ++ record { actor = Pump u; own = own } ∷ []))) same
        (index-set-own seqs u seq (let l = are.long in omega (arith, l, low, same)) ∙ sym mine)

    there : (unit : ℕ) → unit < units → (u ≡ unit → ⊥) → slice_index (slice_set seqs u seq) unit ≡ length (own_of (Pump unit) (joined ++ record { actor = Pump u; own = own } ∷ []))
    there unit low other = index-set-other seqs u unit seq other ∙ are.are unit low
        ∙ ap length (sym (own_of-other (Pump unit) joined (record { actor = Pump u; own = own }) (λ same. other (cc))))

    go : (unit : ℕ) → unit < units → slice_index (slice_set seqs u seq) unit ≡ length (own_of (Pump unit) (joined ++ record { actor = Pump u; own = own } ∷ []))
    go unit low = either (same-or-not u unit)
      where
        same-or-not : (a b : ℕ) → (a ≡ b) ⊎ (a ≡ b → ⊥)
        same-or-not zero zero = inl refl
        same-or-not zero (suc b) = inr (λ e. omega (arith, e))
        same-or-not (suc a) zero = inr (λ e. omega (arith, e))
        same-or-not (suc a) (suc b) = more (same-or-not a b)
          where
            more : (a ≡ b) ⊎ (a ≡ b → ⊥) → (suc a ≡ suc b) ⊎ (suc a ≡ suc b → ⊥)
            more (inl e) = inl (ap suc e)
            more (inr n) = inr (λ e. n (omega (arith, e)))

        either : (u ≡ unit) ⊎ (u ≡ unit → ⊥) → slice_index (slice_set seqs u seq) unit ≡ length (own_of (Pump unit) (joined ++ record { actor = Pump u; own = own } ∷ []))
        either (inl same) = here unit low same
        either (inr other) = there unit low other

module _ (made : ℕ) (seqs : List ℕ) (root after : RootState) (pass : PassState) (old passed now : List UnitSeat) (actor : Actor) (seq last : ℕ)
    (keeps : KeepsRoot (config_of (gates_of old)) made seqs root old) (keeps_pass : KeepsPass (config_of (gates_of passed)) pass.ticket passed actor seq last) (same : gates_of passed ≡ gates_of old)
    (back : IsJoined root after pass.ticket (merged (owns passed))) (joined : AreJoinedTo old passed now 0) where
  abbrev config : Configuration
  config = config_of (gates_of old)

  pass-here : KeepsPass config pass.ticket passed actor seq last
  pass-here = subst (λ g. KeepsPass (config_of g) pass.ticket passed actor seq last) same keeps_pass

  size : length passed ≡ length old
  size = sym (length-map passed (λ (s : UnitSeat). s.gate)) ∙ ap length same ∙ length-map old (λ (s : UnitSeat). s.gate)

  more : IsJoinedTo config (kepts old) (kepts now) (merged (owns passed))
  more = record {
    more = λ unit. Each-by _ (of_unit (kepts now) unit) (λ e i. go unit e (kept-or-made old passed now unit e joined i));
    stays = λ unit e i. kept-still old passed now unit e joined i;
    comes = Each-by _ (merged (owns passed)) (λ e i. made-kept old passed now e.unit e size joined (unit-stands (owns passed) e pass-here.is.parts i));
  }
    where
      go : (unit : ℕ) (e : Entry) → In e (of_unit (kepts old) unit) ⊎ In e (of_unit (owns passed) unit) → In e (of_unit (kepts old) unit) ⊎ In e (merged (owns passed))
      go unit e (inl i) = inl i
      go unit e (inr i) = inr (in-merged (owns passed) e (all-in (owns passed) unit e i))

  gates-now : gates_of now ≡ gates_of old
  gates-now = map-joined (λ (s : UnitSeat). s.gate) (λ b p a was. ap (λ (s : UnitSeat). s.gate) was.into) old passed now joined

  openings-now : openings now ≡ openings old
  openings-now = map-joined (λ (s : UnitSeat). s.opening) (λ b p a was. ap (λ (s : UnitSeat). s.opening) was.into) old passed now joined

  size-now : length now ≡ length old
  size-now = sym (length-map now (λ (s : UnitSeat). s.gate)) ∙ ap length gates-now ∙ length-map old (λ (s : UnitSeat). s.gate)

  longer : AreLonger (seens old) (seens now)
  longer = longer-old old passed now joined

  longer-pass : AreLonger (seens passed) (seens now)
  longer-pass = longer-passed old passed now size joined

  count : length root.out ≡ length (back.front ++ back.back) + 1
  count =
      let a = ap length back.was_out in let b = length-append back.front (pass.ticket ∷ back.back) in let c = length-append back.front back.back in omega (arith, a, b, c)

  in-middle : (front : List Ticket) (t : Ticket) (back : List Ticket) → In t (front ++ t ∷ back)
  in-middle [] t back = inl refl
  in-middle (f ∷ fs) t back = inr (in-middle fs t back)

  before : pass.ticket.before ≡ own_of pass.ticket.actor root.joined
  before =
      let all = subst (λ l. Each (λ (t : Ticket). t.before ≡ own_of t.actor root.joined) l) back.was_out keeps.is.goes_on in
      Each-in (λ (t : Ticket). t.before ≡ own_of t.actor root.joined) (back.front ++ pass.ticket ∷ back.back) pass.ticket all (in-middle back.front pass.ticket back.back)

  seqs-now : AreSeqs (seqs_after actor seq seqs) (length now) (root.joined ++ record { actor = pass.ticket.actor; own = merged (owns passed) } ∷ [])
  seqs-now =
      let is : seq ≡ length (own_of pass.ticket.actor root.joined) + length (merged (owns passed)) = pass-here.seq_is ∙ ap (λ l. length l + length (merged (owns passed))) before in
      rw (size-now, pass-here.actor_is) (seqs-after pass.ticket.actor seq seqs (length old) root.joined (merged (owns passed)) keeps.seqs_are is)

  root-takes-old : KeepsRoot config made (seqs_after actor seq seqs) after now
  root-takes-old = rw back.root record {
    is = root-joins config made (seens old) (seens now) (kepts old) (kepts now) (owns passed) (seens passed) back.front pass.ticket back.back root.joined
        (subst (λ l. IsRoot config made (seens old) (kepts old) l root.joined) back.was_out keeps.is) pass-here.is longer longer-pass more;
    gates_are = rw gates-now keeps.gates_are;
    units = size-now ∙ keeps.units;
    free = each-joined (λ (s : UnitSeat). s.holds ≡ false) (λ (s : UnitSeat). s.holds ≡ false) (λ b p a was is. ap (λ (s : UnitSeat). s.holds) was.into ∙ is) old passed now joined keeps.free;
    firsts = each-joined (λ (s : UnitSeat). s.first ≡ true) (λ (s : UnitSeat). s.first ≡ true) (λ b p a was is. ap (λ (s : UnitSeat). s.first) was.into ∙ is) old passed now joined keeps.firsts;
    outs = each-joined (λ (s : UnitSeat). s.out ≡ length root.out) (λ (s : UnitSeat). s.out ≡ length (back.front ++ back.back))
        (λ b p a was is. let fewer = was.fewer in omega (arith, fewer, is, count)) old passed now joined keeps.outs;
    nothing = each-joined (λ (s : UnitSeat). s.own ≡ []) (λ (s : UnitSeat). s.own ≡ []) (λ b p a was is. ap (λ (s : UnitSeat). s.own) was.into ∙ is) old passed now joined keeps.nothing;
    openings = each-joined (IsOpened config) (IsOpened config) (λ b p a was is. opened-longer config b a (ap (λ (s : UnitSeat). s.opening) was.into) was.longer is) old passed now joined keeps.openings;
    seqs_are = seqs-now;
  }

  pub root-takes : KeepsRoot (config_of (gates_of now)) made (seqs_after actor seq seqs) after now
  root-takes = subst (λ g. KeepsRoot (config_of g) made (seqs_after actor seq seqs) after now) (sym gates-now) root-takes-old

  pub above-joined : AreAbove old → AreAbove now
  above-joined above = each-joined IsAbove IsAbove (λ b p a was is. above-more b a (ap (λ (s : UnitSeat). s.gate) was.into) was.above is) old passed now joined above

  pub was-taken : WasTaken (root_view config made root old) (root_view (config_of (gates_of now)) made after now) (pass_view (config_of (gates_of passed)) pass passed)
  was-taken = record {
    front = back.front;
    back = back.back;
    was_out = back.was_out;
    units = length-map now (λ (s : UnitSeat). s.seen) ∙ size-now ∙ sym (length-map old (λ (s : UnitSeat). s.seen));
    longer = longer;
    longer_pass = longer-pass;
    marks = above-old old passed now joined;
    marks_pass = above-passed old passed now size joined;
    root = rw (gates-now, openings-now, back.root) refl;
  }

pub all-free : (seats : List UnitSeat) → All (λ h. h ≡ false) (map (λ (s : UnitSeat). s.holds) seats) → AllFree seats
all-free [] all = tt
all-free (p ∷ ps) all = (all 0 false (omega arith), all-free ps (λ k d low. all (suc k) d (omega arith)))
