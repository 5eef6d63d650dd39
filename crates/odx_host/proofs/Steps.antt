-- Requests that were asked one after the other
use Rattle.std.proofs.Common.{◌≡◌, ◌∙◌, List, [], ◌∷◌, ◌++◌, refl, sym, ap, subst, inl, inr}
use Rattle.std.specs.Prelude.{Result, Ok, Err}
use Rattle.odx_host.specs.declared.fault.CopyFault.{CopyFault}
use Rattle.odx_host.specs.Talk.{Talked}
use Rattle.odx_host.specs.Worlds.{World, passed-append}
use Rattle.odx_host.specs.Rule.{HostProgram, Asks, Ends, moved, if_ok}
use Rattle.odx_host.specs.Ruled.{AreAsked, after}
use Rattle.odx_host.specs.inner.Steps.{Leads, Talking, StopsSo, Follows}

-- ---- programs

pub after-append : (p : HostProgram) (xs ys : List Talked) → after p (xs ++ ys) ≡ after (after p xs) ys
after-append p [] ys = refl
after-append p (x ∷ xs) ys = after-append (moved p x.answer) xs ys

pub asked-append : (p : HostProgram) (xs ys : List Talked) → AreAsked p xs → AreAsked (after p xs) ys → AreAsked p (xs ++ ys)
asked-append p [] ys first later = later
asked-append (Asks request go_on) (x ∷ xs) ys first later = (first.0, asked-append (moved (Asks request go_on) x.answer) xs ys first.1 later)
asked-append (Ends outcome) (x ∷ xs) ys first later = absurd first

-- the program went on to q, from which there is more
pub follows-on : {B : Type 0} (p q : HostProgram) (xs ys : List Talked) (next : B → HostProgram) (r : Result B CopyFault)
    → AreAsked p xs × (after p xs ≡ q) → Follows q ys next r → Follows p (xs ++ ys) next r
follows-on p q xs ys next (Ok x) first later = (
  asked-append p xs ys first.0 (subst (λ s. AreAsked s ys) (sym first.1) later.0),
  after-append p xs ys ∙ ap (λ s. after s ys) first.1 ∙ later.1,
)
follows-on p q xs ys next (Err fault) first later = (
  asked-append p xs ys first.0 (subst (λ s. AreAsked s ys) (sym first.1) later.0),
  subst (λ s. StopsSo s fault) (sym (after-append p xs ys ∙ ap (λ s. after s ys) first.1)) later.1,
)

-- ---- worlds

pub leads-on : (Was Between Is : World → Type 0) (xs ys : List Talked) → Leads Was xs Between → Leads Between ys Is → Leads Was (xs ++ ys) Is
leads-on Was Between Is xs ys first later = λ w was.
    let a = first w was in
    let b = later a.0 a.1 in
    (b.0, b.1, passed-append w a.0 b.0 xs ys a.2 b.2)

-- ---- a port, between whose states requests are asked

module _ {P : Type 0} (Talks : P → List Talked → P → Type 0) (IsIn : P → World → Type 0)
    (silent : (p : P) → Talks p [] p) (goes_on : (p q r : P) (xs ys : List Talked) → Talks p xs q → Talks q ys r → Talks p (xs ++ ys) r) where
  -- nothing was asked yet
  pub talking-none : (p : P) (F : List Talked → Type 0) → F [] → Talking (λ t. Talks p t p) (IsIn p) (IsIn p) F
  talking-none p F is = record { talk = []; talks = silent p; leads = λ w was. (w, was, refl); follows = is }

  pub talking-on : (p q r : P) (F G H : List Talked → Type 0) → Talking (λ t. Talks p t q) (IsIn p) (IsIn q) F → Talking (λ t. Talks q t r) (IsIn q) (IsIn r) G
      → ((xs ys : List Talked) → F xs → G ys → H (xs ++ ys)) → Talking (λ t. Talks p t r) (IsIn p) (IsIn r) H
  talking-on p q r F G H first later both = record {
    talk = first.talk ++ later.talk;
    talks = goes_on p q r first.talk later.talk first.talks later.talks;
    leads = leads-on (IsIn p) (IsIn q) (IsIn r) first.talk later.talk first.leads later.leads;
    follows = both first.talk later.talk first.follows later.follows;
  }

-- the same requests, of which more is said
pub talking-also : (Talks : List Talked → Type 0) (Was Is : World → Type 0) (F G : List Talked → Type 0) → Talking Talks Was Is F
    → ((talk : List Talked) → F talk → G talk) → Talking Talks Was Is G
talking-also Talks Was Is F G t more = record { talk = t.talk; talks = t.talks; leads = t.leads; follows = more t.talk t.follows }

-- ---- the words of programs

-- the program came to what a result says
pub follows-by : {A : Type 0} (p : HostProgram) (talk : List Talked) (go_on : A → HostProgram) (r : Result A CopyFault)
    → AreAsked p talk → after p talk ≡ if_ok go_on r → Follows p talk go_on r
follows-by p talk go_on (Ok x) asked is = (asked, is)
follows-by p talk go_on (Err fault) asked is = (asked, inr is)

-- memory was wanted where the program stood
pub follows-wanted : {A : Type 0} (p : HostProgram) (talk : List Talked) (next : A → HostProgram) → AreAsked p talk → Follows p talk next (Err CopyFault.OutOfMemory)
follows-wanted p talk next asked = (asked, inl refl)
