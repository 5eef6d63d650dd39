-- A journal of which is known what a recorder tells: its front, its entries, and which entry may be the next
use Rattle.std.proofs.Common.{◌≡◌, ◌⊎◌, ◌≤◌, ℕ, zero, suc, List, [], ◌∷◌, ◌++◌, length, take, drop, inl, inr, refl, sym, ◌∙◌, ap, subst, append_assoc, length-append, take_all, arith, Option, Some, None, Ok}
use Rattle.std.proofs.lemmas.List.{take_at, drop_at, take-append-le}
use Rattle.byteorder.specs.Endian.{big_bytes, big_from}
use Rattle.byteorder.specs.Numbers.{length-bytes_high_first, big_number-reads_back}
use Rattle.cm_base.specs.Configuration.{Configuration}
use Rattle.cm_history.specs.declared.act.Act.{Act}
use Rattle.cm_history.specs.declared.act.Actor.{Actor}
use Rattle.cm_history.specs.declared.act.Entry.{Entry}
use Rattle.recorder.specs.Text.{actor_bytes, behind_actor, entry_bytes}
use Rattle.journal_disk.specs.Opened.{open_gate, front_bytes}
use Rattle.journal_disk.specs.Log.{framed, records, EndsBehind, Behind, HasNext, Holds, HoldsFirst, IsKept}
use Rattle.journal_disk.specs.Journal.{last_stamp, AreInOrder, MayFollow, AreSpelled, BegunSpells, IsJournal, OpensAsFirst}
use Rattle.journal_disk.specs.Recording.{if_spelled, entries_of, recorded_in, life_in, IsTextOf, AreTexts, IsReady, IsFit}
use Rattle.journal_disk.specs.declared.log.Log.{Log}
use Rattle.journal_disk.proofs.Gates.{records-push}
use Rattle.journal_disk.proofs.Found.{holds-opens, unmade-is}
use Rattle.journal_disk.proofs.Since.{spelled-length}
use Rattle.journal_disk.proofs.Entries.{journal-of, spelled-push}
use Rattle.journal_disk.proofs.Told.{kept-recorded, kept-life}

some-same : {A : Type 0} (a b : A) → Some a ≡ Some b → a ≡ b
some-same a b is = cc

-- ---- the opening of one record's gate is begun at most

next-text : (done text file : List ℕ) → HasNext done text file → (rest : List ℕ) × (drop 8 (drop 1 (drop (length done) file)) ≡ text ++ rest)
next-text done text file next =
    let rest = 0 ∷ next.rest in
    let all : drop (length done) file ≡ next.gate ∷ (framed text ++ rest) = ap (λ (l : List ℕ). drop (length done) l) next.is ∙ drop_at done (next.gate ∷ (framed text ++ rest)) (length done) refl in (
      rest,
      ap (λ (l : List ℕ). drop 8 (drop 1 l)) all
          ∙ ap (λ (l : List ℕ). drop 8 l) (append_assoc (big_bytes 8 (length text)) text rest)
          ∙ drop_at (big_bytes 8 (length text)) (text ++ rest) 8 (length-bytes_high_first 8 (length text)),
    )

stamp-first : (e : Entry) (rest : List ℕ) → take 8 (entry_bytes e ++ rest) ≡ big_bytes 8 e.stamp
stamp-first e rest =
    let stamp = big_bytes 8 e.stamp in
    let unit = big_bytes 2 e.unit in
    let actor = actor_bytes e.actor in
    let behind = behind_actor e in
    ap (λ (l : List ℕ). take 8 l)
    (append_assoc (stamp ++ unit ++ actor) behind rest ∙ append_assoc (stamp ++ unit) actor (behind ++ rest) ∙ append_assoc stamp unit (actor ++ (behind ++ rest)))
    ∙ take_at stamp (unit ++ (actor ++ (behind ++ rest))) 8 (length-bytes_high_first 8 e.stamp)

module _ {D : Type 0} (reads : D → Option (List ℕ)) (may_leave : D → List ℕ → Type 0) (moment : D → ℕ) (left_since : D → ℕ → List ℕ → Type 0) (reads_left : (disk : D) (file : List ℕ) → reads disk ≡ Some file → may_leave disk file) (log : Log D) where
  begun-stamp : (e : Entry) (ready : IsReady reads may_leave moment left_since log e) (file : List ℕ) → reads log.disk ≡ Some file → ready.last ≡ Some (entry_bytes e)
      → take 8 (drop 8 (drop 1 (drop log.gate file))) ≡ big_bytes 8 e.stamp
  begun-stamp e ready file told is =
      let done = ready.front ++ records ready.ps in
      let next : HasNext done (entry_bytes e) file = subst (λ (l : Option (List ℕ)). Behind done l file) is (ready.kept.images file (reads_left log.disk file told)) in
      let text = next-text done (entry_bytes e) file next in
      ap (λ n. take 8 (drop 8 (drop 1 (drop n file)))) ready.kept.gate ∙ ap (λ (l : List ℕ). take 8 l) text.1 ∙ stamp-first e text.0

-- the stamp of the last record
open-stamp : (done : List ℕ) (e : Entry) (c : List ℕ) → EndsBehind (done ++ (open_gate ∷ framed (entry_bytes e))) c → take 8 (drop 8 (drop 1 (drop (length done) c))) ≡ big_bytes 8 e.stamp
open-stamp done e c ends =
    let text = entry_bytes e in
    let rest = ends.gate ∷ ends.rest in
    let all : drop (length done) c ≡ open_gate ∷ (framed text ++ rest) =
    ap (λ (l : List ℕ). drop (length done) l) (ends.is ∙ append_assoc done (open_gate ∷ framed text) rest) ∙ drop_at done (open_gate ∷ (framed text ++ rest)) (length done) refl in
    ap (λ (l : List ℕ). take 8 (drop 8 (drop 1 l))) all
    ∙ ap (λ (l : List ℕ). take 8 (drop 8 l)) (append_assoc (big_bytes 8 (length text)) text rest)
    ∙ ap (λ (l : List ℕ). take 8 l) (drop_at (big_bytes 8 (length text)) (text ++ rest) 8 (length-bytes_high_first 8 (length text)))
    ∙ stamp-first e rest

-- two entries of other stamps
abbrev numbered : ℕ → Entry
numbered stamp = record { stamp = stamp; unit = 0; actor = Actor.Nexus 0; seq = 0; moment = 0; act = Act.Pump }

-- the two are not begun both
not-both : (bytes : List ℕ) → bytes ≡ big_bytes 8 0 → bytes ≡ big_bytes 8 1 → ⊥
not-both bytes none one =
    let first : big_from 0 8 (big_bytes 8 0 ++ []) ≡ 0 = big_number-reads_back 8 0 [] (omega arith) in
    let second : big_from 0 8 (big_bytes 8 1 ++ []) ≡ 1 = big_number-reads_back 8 1 [] (omega arith) in
    let same : big_from 0 8 (big_bytes 8 0 ++ []) ≡ big_from 0 8 (big_bytes 8 1 ++ []) = ap (λ (l : List ℕ). big_from 0 8 (l ++ [])) (sym none ∙ one) in
    let no : 0 ≡ 1 = sym first ∙ same ∙ second in
    cc

module _ (config : Configuration) (unit : ℕ) where
  -- records that spell entries, each of which may follow the one before
  texts-spell : (last : ℕ) (ps : List (List ℕ)) (es : List Entry) → AreTexts ps → entries_of ps ≡ es → AreInOrder config unit last es → AreSpelled config unit last ps es
  texts-spell last [] [] texts are order = tt
  texts-spell last [] (e ∷ es) texts are order = cc
  texts-spell last (p ∷ ps) es texts are order =
      go es (ap (λ (o : Option Entry). if_spelled o (entries_of ps)) (sym texts.0.1.1) ∙ are) order (λ stamp rest. texts-spell stamp ps rest texts.1)
    where
      go : (es : List Entry) → texts.0.0 ∷ entries_of ps ≡ es → AreInOrder config unit last es
          → ((stamp : ℕ) (rest : List Entry) → entries_of ps ≡ rest → AreInOrder config unit stamp rest → AreSpelled config unit stamp ps rest) → AreSpelled config unit last (p ∷ ps) es
      go [] same order later = cc
      go (e ∷ es) same order later =
          let first : texts.0.0 ≡ e = cc in
          let rest : entries_of ps ≡ es = cc in
          ((texts.0.1.0, texts.0.1.1 ∙ ap Some first, order.0), later e.stamp es rest order.1)

  -- the first of them
  spelled-take : (k last : ℕ) (ps : List (List ℕ)) (es : List Entry) → AreSpelled config unit last ps es → AreSpelled config unit last (take k ps) (take k es)
  spelled-take zero last ps es spelled = tt
  spelled-take (suc k) last [] [] spelled = tt
  spelled-take (suc k) last [] (e ∷ es) spelled = absurd spelled
  spelled-take (suc k) last (p ∷ ps) [] spelled = absurd spelled
  spelled-take (suc k) last (p ∷ ps) (e ∷ es) spelled = (spelled.0, spelled-take k e.stamp ps es spelled.1)

  -- records that spell entries spell them in their order
  spelled-order : (last : ℕ) (ps : List (List ℕ)) (es : List Entry) → AreSpelled config unit last ps es → AreInOrder config unit last es
  spelled-order last [] [] spelled = tt
  spelled-order last [] (e ∷ es) spelled = absurd spelled
  spelled-order last (p ∷ ps) [] spelled = absurd spelled
  spelled-order last (p ∷ ps) (e ∷ es) spelled = (spelled.0.2, spelled-order e.stamp ps es spelled.1)

  -- the entries of a journal may stand behind one another
  pub journal-order : {D : Type 0} (reads : D → Option (List ℕ)) (may_leave : D → List ℕ → Type 0) (es : List Entry) (tried : Option Entry) (log : Log D) → IsJournal reads may_leave config unit es tried log → AreInOrder config unit 0 es
  journal-order reads may_leave es tried log journal = spelled-order 0 journal.payloads es journal.spelled

  module _ {D : Type 0} (reads : D → Option (List ℕ)) (may_leave : D → List ℕ → Type 0) (moment : D → ℕ) (left_since : D → ℕ → List ℕ → Type 0) (reads_left : (disk : D) (file : List ℕ) → reads disk ≡ Some file → may_leave disk file)
      (log : Log D) (es : List Entry) (since least : ℕ)
      (life : life_in (moment log.opening.synced.value) log.opening.entries.value log.start (reads log.disk) ≡ Some (since ∷ least ∷ front_bytes config unit)) (told : recorded_in log.start log.gate (reads log.disk) ≡ Some es) (order : AreInOrder config unit 0 es) where
    ready-of : (e : Entry) → IsFit reads may_leave moment left_since log e → IsReady reads may_leave moment left_since log e
    ready-of e (inl none) =
        let no : None ≡ Some (since ∷ least ∷ front_bytes config unit) = sym (ap (life_in (moment log.opening.synced.value) log.opening.entries.value log.start) none) ∙ life in cc
    ready-of e (inr ready) = ready

    -- what the two sides say of its life is the same
    same-life : (e : Entry) (ready : IsReady reads may_leave moment left_since log e)
        → Some (moment log.opening.synced.value ∷ log.opening.entries.value ∷ ready.front) ≡ Some (since ∷ least ∷ front_bytes config unit)
    same-life e ready = sym (kept-life reads may_leave reads_left (moment log.opening.synced.value) log.opening.entries.value ready.front ready.ps ready.last log ready.kept ready.start) ∙ life

    since-is : (e : Entry) (ready : IsReady reads may_leave moment left_since log e) → moment log.opening.synced.value ≡ since
    since-is e ready = let h = same-life e ready in cc

    least-is : (e : Entry) (ready : IsReady reads may_leave moment left_since log e) → log.opening.entries.value ≡ least
    least-is e ready = let h = same-life e ready in cc

    front-is : (e : Entry) (ready : IsReady reads may_leave moment left_since log e) → ready.front ≡ front_bytes config unit
    front-is e ready = let h = same-life e ready in cc

    are-entries : (e : Entry) (ready : IsReady reads may_leave moment left_since log e) → entries_of ready.ps ≡ es
    are-entries e ready =
        some-same (entries_of ready.ps) es (sym (kept-recorded reads may_leave reads_left ready.front ready.ps ready.last log ready.kept ready.start ready.texts) ∙ told)

    of-ready : (e : Entry) (ready : IsReady reads may_leave moment left_since log e) (tried : Option Entry) → BegunSpells config unit (last_stamp 0 es) ready.last tried → IsJournal reads may_leave config unit es tried log
    of-ready e ready tried tries =
        let same = front-is e ready in
        let are = are-entries e ready in
        journal-of config unit reads may_leave ready.ps es ready.last tried log
        (subst (λ f. IsKept reads may_leave f ready.ps ready.last log) same ready.kept) (ready.start ∙ ap length same)
        (texts-spell 0 ready.ps es ready.texts are order) tries

    -- it is the journal of these entries, and was perhaps told to record the one that may be the next
    pub fit-journal : (e : Entry) → IsFit reads may_leave moment left_since log e → MayFollow config unit es e → (tried : Option Entry) × ((tried ≡ None) ⊎ (tried ≡ Some e)) × IsJournal reads may_leave config unit es tried log
    fit-journal e fit may = go (ready-of e fit)
      where
        go : IsReady reads may_leave moment left_since log e → (tried : Option Entry) × ((tried ≡ None) ⊎ (tried ≡ Some e)) × IsJournal reads may_leave config unit es tried log
        go ready = elim ready.same [
          | inl none ↦ (None, inl refl, of-ready e ready None (subst (λ (l : Option (List ℕ)). BegunSpells config unit (last_stamp 0 es) l None) (sym none) tt))
          | inr this ↦ (Some e, inr refl, of-ready e ready (Some e) (subst (λ (l : Option (List ℕ)). BegunSpells config unit (last_stamp 0 es) l (Some e)) (sym this.0) (this.1.0, this.1.1, may)))
        ]

    -- where any entry may be the next, none was told that is not recorded
    pub all-fit-journal : ((e : Entry) → IsFit reads may_leave moment left_since log e) → IsJournal reads may_leave config unit es None log
    all-fit-journal fits = go (ready-of (numbered 0) (fits (numbered 0))) (ready-of (numbered 1) (fits (numbered 1)))
      where
        none-begun : (e : Entry) (ready : IsReady reads may_leave moment left_since log e) → ready.last ≡ None → IsJournal reads may_leave config unit es None log
        none-begun e ready none = of-ready e ready None (subst (λ (l : Option (List ℕ)). BegunSpells config unit (last_stamp 0 es) l None) (sym none) tt)

        go : IsReady reads may_leave moment left_since log (numbered 0) → IsReady reads may_leave moment left_since log (numbered 1) → IsJournal reads may_leave config unit es None log
        go a b = elim a.same [
          | inl none ↦ none-begun (numbered 0) a none
          | inr this ↦ elim b.same [
            | inl none ↦ none-begun (numbered 1) b none
            | inr that ↦
                let file = a.kept.told.0 in
                let told = a.kept.told.1 in
                absurd (not-both (take 8 (drop 8 (drop 1 (drop log.gate file)))) (begun-stamp reads may_leave moment left_since reads_left log (numbered 0) a file told this.0) (begun-stamp reads may_leave moment left_since reads_left log (numbered 1) b file told that.0))
          ]
        ]

    -- ---- what a crash left at any moment since the journal began

    -- the first of the records, as entries
    first-opens : (ps : List (List ℕ)) (c : List ℕ) → AreSpelled config unit 0 ps es → HoldsFirst (front_bytes config unit) least ps c → OpensAsFirst config unit least es c
    first-opens ps c spelled (inl unmade) = (0, omega (arith, unmade.1), omega arith, unmade-is config unit (front_bytes config unit) c unmade.0)
    first-opens ps c spelled (inr first) =
        let long = spelled-length config unit 0 ps es spelled in
        (first.0, first.1, omega (arith, first.2, long), holds-opens config unit (take first.0 ps) (take first.0 es) c (spelled-take first.0 0 ps es spelled) first.3)

    module _ (e : Entry) (ready : IsReady reads may_leave moment left_since log e) where
      spelled-ready : AreSpelled config unit 0 ready.ps es
      spelled-ready = texts-spell 0 ready.ps es ready.texts (are-entries e ready) order

      image-ready : (c : List ℕ) → left_since log.disk since c
          → HoldsFirst (front_bytes config unit) least ready.ps c ⊎ (IsTextOf (entry_bytes e) e × Holds (front_bytes config unit) (ready.ps ++ (entry_bytes e ∷ [])) c)
      image-ready c left =
          subst (λ n. HoldsFirst (front_bytes config unit) n ready.ps c ⊎ (IsTextOf (entry_bytes e) e × Holds (front_bytes config unit) (ready.ps ++ (entry_bytes e ∷ [])) c)) (least-is e ready)
          (subst (λ f. HoldsFirst f log.opening.entries.value ready.ps c ⊎ (IsTextOf (entry_bytes e) e × Holds f (ready.ps ++ (entry_bytes e ∷ [])) c)) (front-is e ready)
          (ready.past.each c (subst (λ t. left_since log.disk t c) (sym (since-is e ready)) left)))

      more-opens : (c : List ℕ) → OpensAsFirst config unit least es c → OpensAsFirst config unit least (es ++ (e ∷ [])) c
      more-opens c first =
          let more = length-append es (e ∷ []) in
          (first.0, first.1, omega (arith, first.2, more), first.3 ∙ ap (λ (l : List Entry). Ok l) (sym (take-append-le first.0 es (e ∷ []) first.2)))

      this-opens : (c : List ℕ) → MayFollow config unit es e → IsTextOf (entry_bytes e) e → Holds (front_bytes config unit) (ready.ps ++ (entry_bytes e ∷ [])) c → OpensAsFirst config unit least (es ++ (e ∷ [])) c
      this-opens c may text holds =
          let long = spelled-length config unit 0 ready.ps es spelled-ready in
          let more = length-append es (e ∷ []) in
          let enough = ready.past.enough in
          let whole : take (length (es ++ (e ∷ []))) (es ++ (e ∷ [])) ≡ es ++ (e ∷ []) = take_all (length (es ++ (e ∷ []))) (es ++ (e ∷ [])) (omega arith) in (
            length (es ++ (e ∷ [])),
            omega (arith, long, more, enough, least-is e ready),
            omega arith,
            holds-opens config unit (ready.ps ++ (entry_bytes e ∷ [])) (es ++ (e ∷ [])) c (spelled-push config unit 0 ready.ps es (entry_bytes e) e spelled-ready (text.0, text.1, may)) holds
                ∙ ap (λ (l : List Entry). Ok l) (sym whole),
          )

      ready-opens : MayFollow config unit es e → (c : List ℕ) → left_since log.disk since c → OpensAsFirst config unit least (es ++ (e ∷ [])) c
      ready-opens may c left = go (image-ready c left)
        where
          go : HoldsFirst (front_bytes config unit) least ready.ps c ⊎ (IsTextOf (entry_bytes e) e × Holds (front_bytes config unit) (ready.ps ++ (entry_bytes e ∷ [])) c) → OpensAsFirst config unit least (es ++ (e ∷ [])) c
          go (inl first) = more-opens c (first-opens ready.ps c spelled-ready first)
          go (inr this) = this-opens c may this.0 this.1

      -- the stamp of the one more
      this-stamp : (c : List ℕ) → Holds (front_bytes config unit) (ready.ps ++ (entry_bytes e ∷ [])) c → take 8 (drop 8 (drop 1 (drop log.gate c))) ≡ big_bytes 8 e.stamp
      this-stamp c holds =
          let done = front_bytes config unit ++ records ready.ps in
          let gate : log.gate ≡ length done = ready.kept.gate ∙ ap (λ f. length (f ++ records ready.ps)) (front-is e ready) in
          ap (λ n. take 8 (drop 8 (drop 1 (drop n c)))) gate ∙ open-stamp done e c (subst (λ (l : List ℕ). EndsBehind l c) (sym (records-push (front_bytes config unit) ready.ps (entry_bytes e))) holds)

    -- the entries, and perhaps the one that may be the next
    pub fit-always : (e : Entry) → IsFit reads may_leave moment left_since log e → MayFollow config unit es e
        → (since ≤ moment log.disk) × ((c : List ℕ) → left_since log.disk since c → OpensAsFirst config unit least (es ++ (e ∷ [])) c)
    fit-always e fit may =
        let ready = ready-of e fit in
        (omega (arith, since-is e ready, ready.past.later), λ c left. ready-opens e ready may c left)

    -- where any entry may be the next, no other was ever told
    pub all-fit-always : ((e : Entry) → IsFit reads may_leave moment left_since log e)
        → (since ≤ moment log.disk) × ((c : List ℕ) → left_since log.disk since c → OpensAsFirst config unit least es c)
    all-fit-always fits =
        let a = ready-of (numbered 0) (fits (numbered 0)) in
        let b = ready-of (numbered 1) (fits (numbered 1)) in
        (omega (arith, since-is (numbered 0) a, a.past.later), λ c left. go a b c (image-ready (numbered 0) a c left) (image-ready (numbered 1) b c left))
      where
        go : (a : IsReady reads may_leave moment left_since log (numbered 0)) (b : IsReady reads may_leave moment left_since log (numbered 1)) (c : List ℕ)
            → HoldsFirst (front_bytes config unit) least a.ps c ⊎ (IsTextOf (entry_bytes (numbered 0)) (numbered 0) × Holds (front_bytes config unit) (a.ps ++ (entry_bytes (numbered 0) ∷ [])) c)
            → HoldsFirst (front_bytes config unit) least b.ps c ⊎ (IsTextOf (entry_bytes (numbered 1)) (numbered 1) × Holds (front_bytes config unit) (b.ps ++ (entry_bytes (numbered 1) ∷ [])) c)
            → OpensAsFirst config unit least es c
        go a b c (inl first) other = first-opens a.ps c (spelled-ready (numbered 0) a) first
        go a b c (inr this) (inl first) = first-opens b.ps c (spelled-ready (numbered 1) b) first
        go a b c (inr this) (inr that) =
            absurd (not-both (take 8 (drop 8 (drop 1 (drop log.gate c)))) (this-stamp (numbered 0) a c this.1) (this-stamp (numbered 1) b c that.1))
