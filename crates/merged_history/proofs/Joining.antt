-- Passes are made and joined, and the world is closed
use Rattle.std.proofs.Common.{◌≡◌, ℕ, List, [], ◌∷◌, ◌++◌, length, refl, ap, sym, ◌∙◌, subst, arith, true, false, Bool, inl, inr, append-nil}
use Rattle.std.specs.Prelude.{◌⊎◌, if◌then◌else◌}
use Rattle.cm_base.specs.Configuration.{Configuration}
use Rattle.cm_history.specs.declared.act.Actor.{Actor}
use Rattle.cm_history.specs.declared.act.Actor.TheVariants.{Nexus, Pump}
use Rattle.cm_history.specs.declared.act.Entry.{Entry}
use Rattle.cm_history.specs.Deeds.{same_actor}
use Rattle.cm_history.proofs.PublicLaws.{same_actor-self, Each-in, Each-by, Each-append, same_actor-is, In, Each}
use Rattle.merged_history.proofs.Members.{In-append, In-append_right}
use Rattle.merged_history.specs.Merged.{merged, rests}
use Rattle.merged_history.specs.Own.{IsAsked, IsBelow, IsOwn}
use Rattle.merged_history.specs.Resumed.{IsResumed}
use Rattle.merged_history.proofs.Resumed.{resumed}
use Rattle.merged_history.specs.Seats.{Joined, own_of, ticket_of}
use Rattle.merged_history.specs.Passes.{AreJoined, of_unit, AreFrom, IsWhole}
use Rattle.merged_history.specs.declared.known.Ticket.{Ticket}
use Rattle.merged_history.specs.PassRules.{IsNew, AreSeen, IsPass, AreLonger, AreApart, AreFree, IsRoot, made_after, MayPass}
use Rattle.merged_history.proofs.OfActor.{own_of-append, joined-more, joined-none}
use Rattle.merged_history.proofs.Whole.{whole}
use Rattle.merged_history.proofs.Passing.{seen-longer}
use Rattle.merged_history.proofs.Given.{AreHistories}

-- ---- the root of a new world

pub root-new : (config : Configuration) (made : ℕ) (seen kept : List (List Entry)) → ((unit : ℕ) → of_unit kept unit ≡ []) → IsRoot config made seen kept [] []
root-new config made seen kept none = record {
  passes = joined-none config;
  stands = λ actor. tt;
  goes_on = tt;
  apart = tt;
  free = record { no_pass = λ n low. tt; no_entry = λ n low. refl };
  covered = λ unit. rw (none unit) tt;
  held = λ actor. tt;
}

-- ---- the root sees more

pub root-sees : (config : Configuration) (made : ℕ) (seen after kept : List (List Entry)) (out : List Ticket) (joined : List Joined) → IsRoot config made seen kept out joined → AreLonger seen after → IsRoot config made after kept out joined
root-sees config made seen after kept out joined is longer = record {
  passes = is.passes;
  stands = λ actor. seen-longer seen after (own_of actor joined) longer (is.stands actor);
  goes_on = is.goes_on;
  apart = is.apart;
  free = is.free;
  covered = is.covered;
  held = is.held;
}

-- ---- a pass is made

apart-push : (out : List Ticket) (t : Ticket) → AreApart out → Each (λ (o : Ticket). o.actor ≡ t.actor → ⊥) out → AreApart (out ++ t ∷ [])
apart-push [] t a new = (tt, tt)
apart-push (o ∷ os) t a new = (Each-append _ os (t ∷ []) a.0 (new.0, tt), apart-push os t a.1 new.1)

no-other : (actor : Actor) (made : ℕ) (out : List Ticket) (joined : List Joined) → MayPass actor made out → AreFree made out joined → Each (λ (t : Ticket). t.actor ≡ actor → ⊥) out
no-other (Nexus n) made out joined may free = free.no_pass n (omega (arith, may))
no-other (Pump u) made out joined may free = may

free-after : (actor : Actor) (made : ℕ) (out : List Ticket) (joined : List Joined) → MayPass actor made out → AreFree made out joined → AreFree (made_after actor made) (out ++ ticket_of actor joined ∷ []) joined
free-after (Nexus m) made out joined may free = record {
  no_pass = λ n low. Each-append _ out _ (free.no_pass n (omega arith)) ((λ same. let one : m ≡ n = cc in absurd (omega (arith, low, one, may))), tt);
  no_entry = λ n low. free.no_entry n (omega arith);
}
free-after (Pump u) made out joined may free = record {
  no_pass = λ n low. Each-append _ out _ (free.no_pass n low) ((λ same. cc), tt);
  no_entry = free.no_entry;
}

pub root-makes : (config : Configuration) (made : ℕ) (seen kept : List (List Entry)) (out : List Ticket) (joined : List Joined) (actor : Actor)
    → IsRoot config made seen kept out joined → MayPass actor made out → IsRoot config (made_after actor made) seen kept (out ++ ticket_of actor joined ∷ []) joined
root-makes config made seen kept out joined actor is may = record {
  passes = is.passes;
  stands = is.stands;
  goes_on = Each-append _ out _ is.goes_on (refl, tt);
  apart = apart-push out (ticket_of actor joined) is.apart (no-other actor made out joined may is.free);
  free = free-after actor made out joined may is.free;
  covered = is.covered;
  held = is.held;
}

is-new : (actor : Actor) (made : ℕ) (out : List Ticket) (joined : List Joined) → MayPass actor made out → AreFree made out joined → IsNew actor (own_of actor joined)
is-new (Nexus n) made out joined may free = free.no_entry n (omega (arith, may))
is-new (Pump u) made out joined may free = tt

-- a pass that was just made
pub pass-new : (config : Configuration) (made : ℕ) (seen kept owns : List (List Entry)) (out : List Ticket) (joined : List Joined) (actor : Actor)
    → IsRoot config made seen kept out joined → MayPass actor made out → AreFrom 0 owns → length owns ≡ length seen → merged owns ≡ [] → IsPass config (ticket_of actor joined) owns seen
pass-new config made seen kept owns out joined actor is may parts units none = record {
  parts = parts;
  units = units;
  own = rw none record { mine = tt; asked = tt; rising = tt; numbered = tt };
  stands = rw none tt;
  earlier = is.stands actor;
  mine = (is.passes actor).mine;
  asked = (is.passes actor).asked;
  new = is-new actor made out joined may is.free;
  below = Each-by _ (own_of actor joined) (λ e i. rw none tt);
}

-- ---- a pass is joined

apart-middle : (front : List Ticket) (t : Ticket) (back : List Ticket) → AreApart (front ++ t ∷ back) → AreApart (front ++ back) × Each (λ (o : Ticket). o.actor ≡ t.actor → ⊥) (front ++ back)
apart-middle [] t back a = (a.1, Each-by _ back (λ o i. λ same. Each-in (λ (x : Ticket). t.actor ≡ x.actor → ⊥) back o a.0 i (sym same)))
apart-middle (f ∷ fs) t back a =
    let rest = apart-middle fs t back a.1 in (
      (without f fs t back a.0, rest.0),
      (Each-in (λ (x : Ticket). f.actor ≡ x.actor → ⊥) (fs ++ t ∷ back) t a.0 (In-append_right fs (t ∷ back) t (inl refl)), rest.1),
    )
  where
    without : (f : Ticket) (fs : List Ticket) (t : Ticket) (back : List Ticket) → Each (λ (x : Ticket). f.actor ≡ x.actor → ⊥) (fs ++ t ∷ back) → Each (λ (x : Ticket). f.actor ≡ x.actor → ⊥) (fs ++ back)
    without f [] t back all = all.1
    without f (g ∷ gs) t back all = (all.0, without f gs t back all.1)

pub middle : (P : Ticket → Type 0) (front : List Ticket) (t : Ticket) (back : List Ticket) → Each P (front ++ t ∷ back) → Each P (front ++ back)
middle P [] t back all = all.1
middle P (f ∷ fs) t back all = (all.0, middle P fs t back all.1)

-- what another actor has made stays
pub own_of-other : (actor : Actor) (joined : List Joined) (j : Joined) → (j.actor ≡ actor → ⊥) → own_of actor (joined ++ j ∷ []) ≡ own_of actor joined
own_of-other actor joined j other = own_of-append actor joined (j ∷ []) ∙ go (same_actor j.actor actor) refl
  where
    go : (b : Bool) → same_actor j.actor actor ≡ b → own_of actor joined ++ ((if b then j.own else []) ++ []) ≡ own_of actor joined
    go true is = absurd (other (same_actor-is j.actor actor is))
    go false is = append-nil (own_of actor joined)

-- what the joined pass has made comes at the end of what its actor has made
pub own_of-own : (actor : Actor) (joined : List Joined) (j : Joined) → j.actor ≡ actor → own_of actor (joined ++ j ∷ []) ≡ own_of actor joined ++ j.own
own_of-own actor joined j mine = own_of-append actor joined (j ∷ []) ∙ go (same_actor j.actor actor) (ap (λ a. same_actor j.actor a) (sym mine) ∙ same_actor-self j.actor)
  where
    go : (b : Bool) → b ≡ true → own_of actor joined ++ ((if b then j.own else []) ++ []) ≡ own_of actor joined ++ j.own
    go true is = ap (λ l. own_of actor joined ++ l) (append-nil j.own)
    go false is = cc

pub own_of-more : (actor : Actor) (joined : List Joined) (j : Joined) (e : Entry) → In e (own_of actor joined) → In e (own_of actor (joined ++ j ∷ []))
own_of-more actor joined j e i = subst (In e) (sym (own_of-append actor joined (j ∷ []))) (In-append (own_of actor joined) (own_of actor (j ∷ [])) e i)

own_of-mine : (joined : List Joined) (j : Joined) (e : Entry) → In e j.own → In e (own_of j.actor (joined ++ j ∷ []))
own_of-mine joined j e i = subst (In e) (sym (own_of-append j.actor joined (j ∷ []))) (In-append_right (own_of j.actor joined) (own_of j.actor (j ∷ [])) e (go (same_actor j.actor j.actor) (same_actor-self j.actor)))
  where
    go : (b : Bool) → b ≡ true → In e ((if b then j.own else []) ++ [])
    go true is = In-append j.own [] e i
    go false is = cc

-- what the joined seats have made on a unit, with what the new one made there
pub record IsJoinedTo (config : Configuration) (kept after : List (List Entry)) (own : List Entry) : Type 0 where
  pub more : (unit : ℕ) → Each (λ (e : Entry). In e (of_unit kept unit) ⊎ In e own) (of_unit after unit)
  pub stays : (unit : ℕ) (e : Entry) → In e (of_unit kept unit) → In e (of_unit after unit)
  pub comes : AreSeen after own

module _ (config : Configuration) (made : ℕ) (seen after kept kept_after owns pass_seen : List (List Entry)) (front : List Ticket) (t : Ticket) (back : List Ticket) (joined : List Joined)
    (is : IsRoot config made seen kept (front ++ t ∷ back) joined) (pass : IsPass config t owns pass_seen) (longer : AreLonger seen after) (longer_pass : AreLonger pass_seen after) (more : IsJoinedTo config kept kept_after (merged owns)) where
  abbrev pub j : Joined
  j = record { actor = t.actor; own = merged owns }

  mine : In t (front ++ t ∷ back)
  mine = go front
    where
      go : (fs : List Ticket) → In t (fs ++ t ∷ back)
      go [] = inl refl
      go (f ∷ fs) = inr (go fs)

  before : t.before ≡ own_of t.actor joined
  before = Each-in (λ (o : Ticket). o.before ≡ own_of o.actor joined) (front ++ t ∷ back) t is.goes_on mine

  passes : AreJoined config (joined ++ j ∷ [])
  passes = joined-more config joined j is.passes (subst (λ l. IsOwn config t.actor (length l) (merged owns)) before pass.own) (subst (λ l. IsBelow l (merged owns)) before pass.below)

  rest : AreApart (front ++ back) × Each (λ (o : Ticket). o.actor ≡ t.actor → ⊥) (front ++ back)
  rest = apart-middle front t back is.apart

  stands : (actor : Actor) (b : Bool) → same_actor t.actor actor ≡ b → AreSeen after (own_of actor (joined ++ j ∷ []))
  stands actor false e = rw (own_of-other actor joined j (λ same. let yes = ap (same_actor t.actor) (sym same) ∙ same_actor-self t.actor in let no = sym e ∙ yes in cc)) (seen-longer seen after (own_of actor joined) longer (is.stands actor))
  stands actor true e =
      let same = same_actor-is t.actor actor e in
      rw (own_of-append actor joined (j ∷ []), e, append-nil (merged owns))
      (Each-append _ (own_of actor joined) (merged owns) (seen-longer seen after (own_of actor joined) longer (is.stands actor)) (seen-longer pass_seen after (merged owns) longer_pass pass.stands))

  still : (own : List Entry) → AreSeen kept own → AreSeen kept_after own
  still own all = Each-by _ own (λ e i. more.stays e.unit e (Each-in (λ (o : Entry). In o (of_unit kept o.unit)) own e all i))

  holds : (actor : Actor) (b : Bool) → same_actor t.actor actor ≡ b → AreSeen kept_after (own_of actor (joined ++ j ∷ []))
  holds actor false e = rw (own_of-other actor joined j (λ same. let yes = ap (same_actor t.actor) (sym same) ∙ same_actor-self t.actor in let no = sym e ∙ yes in cc)) (still (own_of actor joined) (is.held actor))
  holds actor true e =
      rw (own_of-append actor joined (j ∷ []), e, append-nil (merged owns)) (Each-append _ (own_of actor joined) (merged owns) (still (own_of actor joined) (is.held actor)) more.comes)

  cover : (unit : ℕ) (e : Entry) → In e (of_unit kept unit) ⊎ In e (merged owns) → In e (own_of e.actor (joined ++ j ∷ []))
  cover unit e (inl i) = own_of-more e.actor joined j e (Each-in (λ (o : Entry). In o (own_of o.actor joined)) (of_unit kept unit) e (is.covered unit) i)
  cover unit e (inr i) = subst (λ a. In e (own_of a (joined ++ j ∷ []))) (sym (Each-in (λ (o : Entry). o.actor ≡ t.actor) (merged owns) e pass.own.mine i)) (own_of-mine joined j e i)

  pub root-joins : IsRoot config made after kept_after (front ++ back) (joined ++ j ∷ [])
  root-joins = record {
    passes = passes;
    stands = λ actor. stands actor (same_actor t.actor actor) refl;
    goes_on = Each-by _ (front ++ back) (λ o i.
        Each-in (λ (x : Ticket). x.before ≡ own_of x.actor joined) (front ++ back) o (middle (λ (x : Ticket). x.before ≡ own_of x.actor joined) front t back is.goes_on) i
        ∙ sym (own_of-other o.actor joined j (λ same. Each-in (λ (x : Ticket). x.actor ≡ t.actor → ⊥) (front ++ back) o rest.1 i (sym same))));
    apart = rest.0;
    free = record {
      no_pass = λ n low. middle (λ (o : Ticket). o.actor ≡ Nexus n → ⊥) front t back (is.free.no_pass n low);
      no_entry = λ n low. own_of-other (Nexus n) joined j (Each-in (λ (o : Ticket). o.actor ≡ Nexus n → ⊥) (front ++ t ∷ back) t (is.free.no_pass n low) mine) ∙ is.free.no_entry n low;
    };
    covered = λ unit. Each-by _ (of_unit kept_after unit) (λ e i. cover unit e (Each-in (λ (o : Entry). In o (of_unit kept unit) ⊎ In o (merged owns)) (of_unit kept_after unit) e (more.more unit) i));
    held = λ actor. holds actor (same_actor t.actor actor) refl;
  }

-- ---- the world is closed

-- all passes are joined, and what the root has seen are the histories, each entry of which a joined seat has made
pub root-closes : (config : Configuration) (made : ℕ) (histories kept : List (List Entry)) (joined : List Joined) → IsRoot config made histories kept [] joined → AreHistories config histories
    → ((unit : ℕ) → Each (λ (e : Entry). In e (of_unit kept unit)) (of_unit histories unit)) → IsWhole config histories joined (merged histories)
root-closes config made histories kept joined is are all = whole config histories are joined is.passes record {
  stands = is.stands;
  made = λ unit. Each-by _ (of_unit histories unit) (λ e i. Each-in (λ (o : Entry). In o (own_of o.actor joined)) (of_unit kept unit) e (is.covered unit) (Each-in (λ (o : Entry). In o (of_unit kept unit)) (of_unit histories unit) e (all unit) i));
}

-- the same where so many of the first entries were there at the opening, and joined seats have made the later ones
pub root-resumes : (config : Configuration) (made : ℕ) (openings : List ℕ) (histories kept : List (List Entry)) (joined : List Joined) → IsRoot config made histories kept [] joined → AreHistories config histories
    → ((unit : ℕ) → Each (λ (e : Entry). In e (of_unit kept unit)) (of_unit (rests openings histories) unit)) → ((unit : ℕ) → Each (λ (e : Entry). In e (of_unit (rests openings histories) unit)) (of_unit kept unit))
    → ((unit : ℕ) → Each (IsAsked config) (of_unit histories unit)) → IsResumed config openings histories joined
root-resumes config made openings histories kept joined is are later there asked = resumed config openings histories joined are is.passes record {
  stands = λ actor. Each-by _ (own_of actor joined) (λ e i.
      Each-in (λ (o : Entry). In o (of_unit (rests openings histories) e.unit)) (of_unit kept e.unit) e (there e.unit) (Each-in (λ (o : Entry). In o (of_unit kept o.unit)) (own_of actor joined) e (is.held actor) i));
  made = λ unit. Each-by _ (of_unit (rests openings histories) unit) (λ e i.
      Each-in (λ (o : Entry). In o (own_of o.actor joined)) (of_unit kept unit) e (is.covered unit) (Each-in (λ (o : Entry). In o (of_unit kept unit)) (of_unit (rests openings histories) unit) e (later unit) i));
  asked = asked;
}
