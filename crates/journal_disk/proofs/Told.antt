-- The records that a log tells are those that it has
use Rattle.std.proofs.Common.{◌≡◌, ◌⊎◌, ◌≤◌, ◌<◌, ◌^◌, ℕ, zero, suc, ◌+◌, List, [], ◌∷◌, ◌++◌, length, take, drop, inl, inr, sym, ◌∙◌, ap, subst, refl, arith, append_assoc, length-append, Option, Some, None, Result, Ok, Err, OnOk, OnErr, IfOk, IfErr, IfSome}
use Rattle.std.proofs.lemmas.List.{take_at, drop_at}
use Rattle.byteorder.specs.Endian.{big_bytes, big_from}
use Rattle.byteorder.specs.Numbers.{length-bytes_high_first, big_number-reads_back}
use Rattle.journal_disk.specs.Log.{framed, records, Behind, IsTried, IsKept}
use Rattle.cm_history.specs.declared.act.Entry.{Entry}
use Rattle.recorder.specs.Recording.{with_more}
use Rattle.recorder.specs.Text.{entry_bytes}
use Rattle.journal_disk.specs.Opened.{entry_in}
use Rattle.journal_disk.specs.Recording.{payloads_within, payloads_in, if_spelled, entries_of, recorded_in, life_in, IsTextOf, AreTexts, IsReady, IsFit}
use Rattle.journal_disk.specs.inner.Texts.{HasText, HoldsOrThis, IsTriedBy}
use Rattle.journal_disk.specs.declared.log.Log.{Log}
use Rattle.journal_disk.specs.Disk.{LeavesOnly}
use Rattle.journal_disk.proofs.Gates.{length-framed}
use Rattle.journal_disk.proofs.Moments.{weaker}
use Rattle.journal_disk.proofs.Since.{OrThis, or-this, kept-again, kept-more}

-- a length that eight bytes can hold
abbrev IsShort : List ℕ → Type 0
IsShort payload = length payload < 2 ^ 64

pub first-length : (p rest : List ℕ) → IsShort p → big_from 0 8 (framed p ++ rest) ≡ length p
first-length p rest short = ap (λ (l : List ℕ). big_from 0 8 l) (append_assoc (big_bytes 8 (length p)) p rest) ∙ big_number-reads_back 8 (length p) (p ++ rest) short

pub first-payload : (p rest : List ℕ) → IsShort p → take (big_from 0 8 (framed p ++ rest)) (drop 8 (framed p ++ rest)) ≡ p
first-payload p rest short =
    ap (λ n. take n (drop 8 (framed p ++ rest))) (first-length p rest short)
    ∙ ap (λ (l : List ℕ). take (length p) (drop 8 l)) (append_assoc (big_bytes 8 (length p)) p rest)
    ∙ ap (λ (l : List ℕ). take (length p) l) (drop_at (big_bytes 8 (length p)) (p ++ rest) 8 (length-bytes_high_first 8 (length p)))
    ∙ take_at p rest (length p) refl

pub first-rest : (p rest : List ℕ) → IsShort p → drop (8 + big_from 0 8 (framed p ++ rest)) (framed p ++ rest) ≡ rest
first-rest p rest short = ap (λ n. drop (8 + n) (framed p ++ rest)) (first-length p rest short) ∙ drop_at (framed p) rest (8 + length p) (length-framed p)

pub told-within : (n : ℕ) (ps : List (List ℕ)) → AreTexts ps → length (records ps) ≤ n → payloads_within n (records ps) ≡ ps
told-within zero [] texts fits = refl
told-within (suc n) [] texts fits = refl
told-within zero (p ∷ ps) texts fits = absurd (omega (arith, fits))
told-within (suc n) (p ∷ ps) texts fits =
    let short : IsShort p = texts.0.1.0 in
    ap (λ (l : List ℕ). l ∷ payloads_within n (drop (8 + big_from 0 8 (framed p ++ records ps)) (framed p ++ records ps))) (first-payload p (records ps) short)
    ∙ ap (λ (l : List ℕ). p ∷ payloads_within n l) (first-rest p (records ps) short)
    ∙ ap (λ (l : List (List ℕ)). p ∷ l) (told-within n ps texts.1 (omega (arith, fits, length-append (framed p) (records ps))))

front-of : (done : List ℕ) (last : Option (List ℕ)) (file : List ℕ) → Behind done last file → take (length done) file ≡ done
front-of done None file ends = ap (λ (l : List ℕ). take (length done) l) ends.is ∙ take_at done (ends.gate ∷ ends.rest) (length done) refl
front-of done (Some p) file next = ap (λ (l : List ℕ). take (length done) l) next.is ∙ take_at done (next.gate ∷ (framed p ++ (0 ∷ next.rest))) (length done) refl

front-first : (front more : List ℕ) (last : Option (List ℕ)) (file : List ℕ) → Behind (front ++ more) last file → take (length front) file ≡ front
front-first front more None file ends =
    ap (λ (l : List ℕ). take (length front) l) (ends.is ∙ append_assoc front more (ends.gate ∷ ends.rest)) ∙ take_at front (more ++ (ends.gate ∷ ends.rest)) (length front) refl
front-first front more (Some p) file next =
    ap (λ (l : List ℕ). take (length front) l) (next.is ∙ append_assoc front more (next.gate ∷ (framed p ++ (0 ∷ next.rest)))) ∙ take_at front (more ++ (next.gate ∷ (framed p ++ (0 ∷ next.rest)))) (length front) refl

module _ {D : Type 0} (reads : D → Option (List ℕ)) (may_leave : D → List ℕ → Type 0) (reads_left : (disk : D) (file : List ℕ) → reads disk ≡ Some file → may_leave disk file) where
  pub kept-recorded : (front : List ℕ) (ps : List (List ℕ)) (last : Option (List ℕ)) (log : Log D) → IsKept reads may_leave front ps last log → log.start ≡ length front → AreTexts ps
      → recorded_in log.start log.gate (reads log.disk) ≡ Some (entries_of ps)
  kept-recorded front ps last log kept start texts =
      let file = kept.told.0 in
      let whole : take log.gate file ≡ front ++ records ps = ap (λ n. take n file) kept.gate ∙ front-of (front ++ records ps) last file (kept.images file (reads_left log.disk file kept.told.1)) in
      let back : drop log.start (take log.gate file) ≡ records ps = ap (λ (l : List ℕ). drop log.start l) whole ∙ drop_at front (records ps) log.start (sym start) in
      ap (recorded_in log.start log.gate) kept.told.1 ∙ ap (λ (l : List ℕ). Some (entries_of (payloads_in l))) back ∙ ap (λ (l : List (List ℕ)). Some (entries_of l)) (told-within (length (records ps)) ps texts (omega arith))

  -- what it keeps for its life stays, whatever is recorded
  pub kept-life : (since first : ℕ) (front : List ℕ) (ps : List (List ℕ)) (last : Option (List ℕ)) (log : Log D) → IsKept reads may_leave front ps last log → log.start ≡ length front
      → life_in since first log.start (reads log.disk) ≡ Some (since ∷ first ∷ front)
  kept-life since first front ps last log kept start =
      let file = kept.told.0 in
      ap (life_in since first log.start) kept.told.1 ∙ ap (λ n. Some (since ∷ first ∷ take n file)) start
      ∙ ap (λ (l : List ℕ). Some (since ∷ first ∷ l)) (front-first front (records ps) last file (kept.images file (reads_left log.disk file kept.told.1)))

spelled-append : (o : Option Entry) (xs ys : List Entry) → if_spelled o (xs ++ ys) ≡ if_spelled o xs ++ ys
spelled-append None xs ys = refl
spelled-append (Some e) xs ys = refl

pub entries-push : (ps : List (List ℕ)) (p : List ℕ) (e : Entry) → entry_in p ≡ Some e → entries_of (ps ++ (p ∷ [])) ≡ entries_of ps ++ (e ∷ [])
entries-push [] p e read = ap (λ (o : Option Entry). if_spelled o []) read
entries-push (q ∷ ps) p e read = ap (λ (l : List Entry). if_spelled (entry_in q) l) (entries-push ps p e read) ∙ spelled-append (entry_in q) (entries_of ps) (e ∷ [])

pub texts-push : (ps : List (List ℕ)) (p : List ℕ) (e : Entry) → AreTexts ps → IsTextOf p e → AreTexts (ps ++ (p ∷ []))
texts-push [] p e all text = ((e, text), tt)
texts-push (q ∷ ps) p e all text = (all.0, texts-push ps p e all.1 text)

pub tried-by : (last : Option (List ℕ)) (e : Entry) (next : Option (List ℕ)) → HasText e → IsTried last (entry_bytes e) next → IsTriedBy last e next
tried-by last e next has (inl none) = inl none
tried-by last e next has (inr (inl same)) = inr (inl same)
tried-by last e next has (inr (inr this)) = inr (inr (this, has))

pub on-ok : {T E P : Type 0} (r : Result T E) → P → OnOk r P
on-ok (Ok x) p = p
on-ok (Err e) p = tt

pub on-ok-then : {T E P Q : Type 0} (r : Result T E) → (P → Q) → OnOk r P → OnOk r Q
on-ok-then (Ok x) f p = f p
on-ok-then (Err e) f p = tt

pub ok-then : {T E : Type 0} {P Q : T → Type 0} (r : Result T E) → ((x : T) → P x → Q x) → IfOk r P → IfOk r Q
ok-then (Ok x) f p = f x p
ok-then (Err e) f p = tt

pub err-then : {T E : Type 0} {P Q : E → Type 0} (r : Result T E) → ((e : E) → P e → Q e) → IfErr r P → IfErr r Q
err-then (Ok x) f p = tt
err-then (Err e) f p = f e p

pub on-both : {T E P Q S : Type 0} (r : Result T E) → (P → Q → S) → OnOk r P → OnOk r Q → OnOk r S
on-both (Ok x) f p q = f p q
on-both (Err e) f p q = tt

pub on-err : {T E P : Type 0} (r : Result T E) → P → OnErr r P
on-err (Ok x) p = tt
on-err (Err e) p = p

pub on-err-then : {T E P Q : Type 0} (r : Result T E) → (P → Q) → OnErr r P → OnErr r Q
on-err-then (Ok x) f p = tt
on-err-then (Err e) f p = f p

-- none was tried but this
same-again : (last : Option (List ℕ)) (e : Entry) (next : Option (List ℕ)) → (last ≡ None) ⊎ ((last ≡ Some (entry_bytes e)) × HasText e) → IsTriedBy last e next → (next ≡ None) ⊎ ((next ≡ Some (entry_bytes e)) × HasText e)
same-again last e next same (inl none) = inl none
same-again last e next (inl none) (inr (inl is)) = inl (is ∙ none)
same-again last e next (inr some) (inr (inl is)) = inr (is ∙ some.0, some.1)
same-again last e next same (inr (inr is)) = inr is

module _ {D : Type 0} (reads : D → Option (List ℕ)) (may_leave : D → List ℕ → Type 0) (reads_left : (disk : D) (file : List ℕ) → reads disk ≡ Some file → may_leave disk file)
    (moment : D → ℕ) (left_since : D → ℕ → List ℕ → Type 0) (old new : Log D) (e : Entry) (start : new.start ≡ old.start) (opening : new.opening ≡ old.opening) (untold : reads old.disk ≡ None → reads new.disk ≡ None) where
  abbrev Grows : {T E : Type 0} → Result T E → Type 0
  Grows {T} {E} r = (front : List ℕ) (ps : List (List ℕ)) (last : Option (List ℕ)) → IsKept reads may_leave front ps last old → OnOk r (IsKept reads may_leave front (ps ++ (entry_bytes e ∷ [])) None new)

  abbrev Stays : {T E : Type 0} → Result T E → Type 0
  Stays {T} {E} r = (front : List ℕ) (ps : List (List ℕ)) (last : Option (List ℕ)) → IsKept reads may_leave front ps last old
      → OnErr r ((next : Option (List ℕ)) × IsTriedBy last e next × IsKept reads may_leave front ps next new)

  -- at each moment of the call
  abbrev Runs : Type 0
  Runs = (front : List ℕ) (ps : List (List ℕ)) (last : Option (List ℕ)) → IsKept reads may_leave front ps last old → LeavesOnly moment left_since old.disk new.disk (HoldsOrThis front ps last e)

  ran : (ready : IsReady reads may_leave moment left_since old e) → Runs → LeavesOnly moment left_since old.disk new.disk (OrThis ready.front ready.ps e)
  ran ready run =
      weaker moment left_since old.disk new.disk (HoldsOrThis ready.front ready.ps ready.last e) (OrThis ready.front ready.ps e) (λ c holds. or-this ready.front ready.ps ready.last e c ready.same holds)
      (run ready.front ready.ps ready.last ready.kept)

  nothing-told : reads old.disk ≡ None → (recorded_in old.start old.gate (reads old.disk) ≡ None) × (recorded_in new.start new.gate (reads new.disk) ≡ None)
  nothing-told none = (ap (recorded_in old.start old.gate) none, ap (recorded_in new.start new.gate) (untold none))

  pub grown : {T E : Type 0} (r : Result T E) → IsFit reads may_leave moment left_since old e → OnOk r (HasText e) → Grows r
      → OnOk r (recorded_in new.start new.gate (reads new.disk) ≡ with_more (recorded_in old.start old.gate (reads old.disk)) (e ∷ []))
  grown r (inl none) text to = on-ok r ((nothing-told none).1 ∙ sym (ap (λ (t : Option (List Entry)). with_more t (e ∷ [])) (nothing-told none).0))
  grown r (inr ready) text to = on-both r
      (λ has kept. kept-recorded reads may_leave reads_left ready.front (ready.ps ++ (entry_bytes e ∷ [])) None new kept (start ∙ ready.start) (texts-push ready.ps (entry_bytes e) e ready.texts has)
      ∙ ap (λ (l : List Entry). Some l) (entries-push ready.ps (entry_bytes e) e has.1)
      ∙ sym (ap (λ (t : Option (List Entry)). with_more t (e ∷ [])) (kept-recorded reads may_leave reads_left ready.front ready.ps ready.last old ready.kept ready.start ready.texts)))
      text (to ready.front ready.ps ready.last ready.kept)

  pub any : {T E : Type 0} (r : Result T E) → IsFit reads may_leave moment left_since old e → OnOk r (HasText e) → Grows r → Runs → OnOk r ((x : Entry) → IsFit reads may_leave moment left_since new x)
  any r (inl none) text to run = on-ok r (λ x. inl (untold none))
  any r (inr ready) text to run = on-both r
      (λ has kept x. inr (record { front = ready.front; ps = ready.ps ++ (entry_bytes e ∷ []); last = None; kept = kept; start = start ∙ ready.start; texts = texts-push ready.ps (entry_bytes e) e ready.texts has; same = inl refl; past = kept-more moment left_since old new ready.front ready.ps e opening ready.past (ran ready run) x }))
      text (to ready.front ready.ps ready.last ready.kept)

  pub kept : {T E : Type 0} (r : Result T E) → IsFit reads may_leave moment left_since old e → Stays r → OnErr r (recorded_in new.start new.gate (reads new.disk) ≡ recorded_in old.start old.gate (reads old.disk))
  kept r (inl none) to = on-err r ((nothing-told none).1 ∙ sym (nothing-told none).0)
  kept r (inr ready) to = on-err-then r
      (λ after. kept-recorded reads may_leave reads_left ready.front ready.ps after.0 new after.2 (start ∙ ready.start) ready.texts
      ∙ sym (kept-recorded reads may_leave reads_left ready.front ready.ps ready.last old ready.kept ready.start ready.texts))
      (to ready.front ready.ps ready.last ready.kept)

  pub again : {T E : Type 0} (r : Result T E) → IsFit reads may_leave moment left_since old e → Stays r → Runs → OnErr r (IsFit reads may_leave moment left_since new e)
  again r (inl none) to run = on-err r (inl (untold none))
  again r (inr ready) to run = on-err-then r
      (λ after. inr (record { front = ready.front; ps = ready.ps; last = after.0; kept = after.2; start = start ∙ ready.start; texts = ready.texts; same = same-again ready.last e after.0 ready.same after.1; past = kept-again moment left_since old new ready.front ready.ps e opening ready.past (ran ready run) }))
      (to ready.front ready.ps ready.last ready.kept)

  abbrev life : Log D → Option (List ℕ)
  life log = life_in (moment log.opening.synced.value) log.opening.entries.value log.start (reads log.disk)

  -- what it keeps for its life stays, at Ok and after a refusal
  pub life-stays : {T E : Type 0} (r : Result T E) → IsFit reads may_leave moment left_since old e → Grows r → Stays r → life new ≡ life old
  life-stays r (inl none) to from =
      ap (life_in (moment new.opening.synced.value) new.opening.entries.value new.start) (untold none) ∙ sym (ap (life_in (moment old.opening.synced.value) old.opening.entries.value old.start) none)
  life-stays r (inr ready) to from =
      go r (to ready.front ready.ps ready.last ready.kept) (from ready.front ready.ps ready.last ready.kept)
      ∙ ap (λ o. Some (moment o.synced.value ∷ o.entries.value ∷ ready.front)) opening
      ∙ sym (kept-life reads may_leave reads_left (moment old.opening.synced.value) old.opening.entries.value ready.front ready.ps ready.last old ready.kept ready.start)
    where
      go : {T E : Type 0} (r : Result T E) → OnOk r (IsKept reads may_leave ready.front (ready.ps ++ (entry_bytes e ∷ [])) None new)
          → OnErr r ((next : Option (List ℕ)) × IsTriedBy ready.last e next × IsKept reads may_leave ready.front ready.ps next new)
          → life new ≡ Some (moment new.opening.synced.value ∷ new.opening.entries.value ∷ ready.front)
      go (Ok x) kept after = kept-life reads may_leave reads_left (moment new.opening.synced.value) new.opening.entries.value ready.front (ready.ps ++ (entry_bytes e ∷ [])) None new kept (start ∙ ready.start)
      go (Err x) kept after = kept-life reads may_leave reads_left (moment new.opening.synced.value) new.opening.entries.value ready.front ready.ps after.0 new after.2 (start ∙ ready.start)

-- the last gate lies within the file
gate-within : (done : List ℕ) (last : Option (List ℕ)) (file : List ℕ) → Behind done last file → length done < length file
gate-within done None file ends = omega (arith, ap length ends.is, length-append done (ends.gate ∷ ends.rest))
gate-within done (Some p) file next = omega (arith, ap length next.is, length-append done (next.gate ∷ (framed p ++ (0 ∷ next.rest))))

pub fit-within : {D : Type 0} (reads : D → Option (List ℕ)) (may_leave : D → List ℕ → Type 0) (reads_left : (disk : D) (file : List ℕ) → reads disk ≡ Some file → may_leave disk file)
    (moment : D → ℕ) (left_since : D → ℕ → List ℕ → Type 0) (log : Log D) (e : Entry) → IsFit reads may_leave moment left_since log e → IfSome (reads log.disk) (λ file. log.gate < length file)
fit-within reads may_leave reads_left moment left_since log e (inl none) = subst (λ (r : Option (List ℕ)). IfSome r (λ file. log.gate < length file)) (sym none) tt
fit-within reads may_leave reads_left moment left_since log e (inr ready) =
    let kept = ready.kept in
    let within : log.gate < length kept.told.0 = omega (arith, kept.gate, gate-within (ready.front ++ records ready.ps) ready.last kept.told.0 (kept.images kept.told.0 (reads_left log.disk kept.told.0 kept.told.1))) in
    subst (λ (r : Option (List ℕ)). IfSome r (λ file. log.gate < length file)) (sym kept.told.1) within
