-- What is known of a log and its images before and after each synced write
use Rattle.std.proofs.Common.{◌≡◌, ℕ, ◌+◌, List, [], ◌∷◌, ◌++◌, length, inl, inr, sym, ◌∙◌, ap, subst, refl, arith, length-append, Option, Some, None, option_map, true, false, is_some}
use Rattle.journal_disk.specs.Disk.{written, Torn, Both, IsNoShorter, After, IsSynced}
use Rattle.journal_disk.specs.Opened.{open_gate}
use Rattle.journal_disk.specs.Log.{framed, records, EndsBehind, HasNext, Behind, IsTold, IsKept, HoldsOrOneMore}
use Rattle.journal_disk.specs.declared.log.Log.{Log}
use Rattle.journal_disk.proofs.Gates.{length-framed, records-push, torn-behind, torn-gate, written-behind, written-shut, written-open, next-holds}

-- told before, told after
told-still : (r new : Option (List ℕ)) → Both IsNoShorter r new → IsTold r → IsTold new
told-still None None longer told = told
told-still None (Some c) longer told = (c, refl)
told-still (Some b) None longer told = absurd longer
told-still (Some b) (Some c) longer told = (c, refl)

told-written : (at : ℕ) (x : List ℕ) (r new : Option (List ℕ)) → IsTold r → new ≡ option_map (written at x) r → IsTold new
told-written at x r new told is = (written at x told.0, is ∙ ap (option_map (written at x)) told.1)

some-inj : (a b : List ℕ) → Some a ≡ Some b → a ≡ b
some-inj a b is = cc is

-- after a synced write each image is what was written
pub only-written : (at : ℕ) (x : List ℕ) (r new : Option (List ℕ)) (images : List ℕ → Type 0) (b c : List ℕ) → r ≡ Some b → new ≡ option_map (written at x) r → IsSynced new images → images c → c ≡ written at x b
only-written at x r new images b c told is synced now = synced (written at x b) (is ∙ ap (option_map (written at x)) told) c now

behind-gate : (done : List ℕ) (last : Option (List ℕ)) (d c : List ℕ) → is_some last ≡ true → Behind done last d → Torn (length done) 1 d c → Behind done last c
behind-gate done None d c some behind torn = absurd (cc some)
behind-gate done (Some p) d c some behind torn = torn-gate done p d c behind torn

behind-shut : (done : List ℕ) (last : Option (List ℕ)) (n : ℕ) (d c : List ℕ) → is_some last ≡ false → Behind done last d → Torn (length done + 1) n d c → EndsBehind done c
behind-shut done None n d c none behind torn = torn-behind done n d c behind torn
behind-shut done (Some p) n d c none behind torn = absurd (cc none)

-- none was begun
pub none-begun : (done : List ℕ) (last : Option (List ℕ)) (c : List ℕ) → is_some last ≡ false → Behind done last c → EndsBehind done c
none-begun done None c none behind = behind
none-begun done (Some p) c none behind = absurd (cc none)

shut-written : (done : List ℕ) (last : Option (List ℕ)) (b : List ℕ) → is_some last ≡ true → Behind done last b → EndsBehind done (written (length done) (0 ∷ []) b)
shut-written done None b some behind = absurd (cc some)
shut-written done (Some p) b some behind = written-shut done p b behind

-- at each moment it has the records, or one more
pub may-hold : (front : List ℕ) (ps : List (List ℕ)) (last : Option (List ℕ)) (payload c : List ℕ) → Behind (front ++ records ps) last c → HoldsOrOneMore front ps last payload c
may-hold front ps None payload c behind = inl behind
may-hold front ps (Some p) payload c behind = elim (next-holds (front ++ records ps) p c behind) [
  | inl same ↦ inl same
  | inr more ↦ inr (p, inr refl, subst (λ (l : List ℕ). EndsBehind l c) (records-push front ps p) more)
]

pub may-hold-this : (front : List ℕ) (ps : List (List ℕ)) (last : Option (List ℕ)) (payload c : List ℕ) → HasNext (front ++ records ps) payload c → HoldsOrOneMore front ps last payload c
may-hold-this front ps last payload c next = elim (next-holds (front ++ records ps) payload c next) [
  | inl same ↦ inl same
  | inr more ↦ inr (payload, inl refl, subst (λ (l : List ℕ). EndsBehind l c) (records-push front ps payload) more)
]

module _ {D : Type 0} (reads : D → Option (List ℕ)) (may_leave : D → List ℕ → Type 0) (reads_left : (disk : D) (file : List ℕ) → reads disk ≡ Some file → may_leave disk file)
    (front : List ℕ) (ps : List (List ℕ)) (last : Option (List ℕ)) (log : Log D) (kept : IsKept reads may_leave front ps last log) where
  -- a write to the gate, whose opening was begun
  pub gate-images : log.begun ≡ true → (c : List ℕ) → After (Torn log.gate 1) (may_leave log.disk) c → Behind (front ++ records ps) last c
  gate-images begun c from =
      behind-gate (front ++ records ps) last from.0 c (sym kept.begun ∙ begun) (kept.images from.0 from.1) (subst (λ g. Torn g 1 from.0 c) kept.gate from.2)

  -- a write behind the closed gate
  pub shut-images : (n : ℕ) → log.begun ≡ false → (c : List ℕ) → After (Torn (log.gate + 1) n) (may_leave log.disk) c → EndsBehind (front ++ records ps) c
  shut-images n begun c from =
      behind-shut (front ++ records ps) last n from.0 c (sym kept.begun ∙ begun) (kept.images from.0 from.1) (subst (λ g. Torn (g + 1) n from.0 c) kept.gate from.2)

  pub still : (disk : D) → Both IsNoShorter (reads log.disk) (reads disk) → ((c : List ℕ) → may_leave disk c → Behind (front ++ records ps) last c)
      → IsKept reads may_leave front ps last (record { disk = disk; start = log.start; gate = log.gate; begun = log.begun; opening = log.opening })
  still disk longer images = record { told = told-still (reads log.disk) (reads disk) longer kept.told; gate = kept.gate; begun = kept.begun; images = images }

  pub still-shut : (disk : D) → log.begun ≡ false → Both IsNoShorter (reads log.disk) (reads disk) → ((c : List ℕ) → may_leave disk c → EndsBehind (front ++ records ps) c)
      → IsKept reads may_leave front ps None (record { disk = disk; start = log.start; gate = log.gate; begun = log.begun; opening = log.opening })
  still-shut disk begun longer images = record { told = told-still (reads log.disk) (reads disk) longer kept.told; gate = kept.gate; begun = begun; images = images }

  pub was-shut : log.begun ≡ false → IsKept reads may_leave front ps None log
  was-shut begun = record { told = kept.told; gate = kept.gate; begun = begun; images = λ c now. none-begun (front ++ records ps) last c (sym kept.begun ∙ begun) (kept.images c now) }

  -- what reads give is an image
  here : Behind (front ++ records ps) last kept.told.0
  here = kept.images kept.told.0 (reads_left log.disk kept.told.0 kept.told.1)

  pub now-shut : (disk : D) → log.begun ≡ true → reads disk ≡ option_map (written log.gate (0 ∷ [])) (reads log.disk) → IsSynced (reads disk) (may_leave disk)
      → IsKept reads may_leave front ps None (record { disk = disk; start = log.start; gate = log.gate; begun = false; opening = log.opening })
  now-shut disk begun is synced = record {
    told = told-written log.gate (0 ∷ []) (reads log.disk) (reads disk) kept.told is;
    gate = kept.gate;
    begun = refl;
    images = λ c now. subst (λ (l : List ℕ). EndsBehind (front ++ records ps) l) (sym (only-written log.gate (0 ∷ []) (reads log.disk) (reads disk) (may_leave disk) kept.told.0 c kept.told.1 is synced now ∙ ap (λ g. written g (0 ∷ []) kept.told.0) kept.gate))
        (shut-written (front ++ records ps) last kept.told.0 (sym kept.begun ∙ begun) here);
  }

  pub now-staged : (disk : D) (payload text : List ℕ) → log.begun ≡ false → text ≡ framed payload ++ (0 ∷ []) → reads disk ≡ option_map (written (log.gate + 1) text) (reads log.disk) → IsSynced (reads disk) (may_leave disk)
      → IsKept reads may_leave front ps (Some payload) (record { disk = disk; start = log.start; gate = log.gate; begun = true; opening = log.opening })
  now-staged disk payload text begun spelled is synced = record {
    told = told-written (log.gate + 1) text (reads log.disk) (reads disk) kept.told is;
    gate = kept.gate;
    begun = refl;
    images = λ c now. subst (λ (l : List ℕ). HasNext (front ++ records ps) payload l)
        (sym (only-written (log.gate + 1) text (reads log.disk) (reads disk) (may_leave disk) kept.told.0 c kept.told.1 is synced now
        ∙ ap (λ g. written (g + 1) text kept.told.0) kept.gate ∙ ap (λ (l : List ℕ). written (length (front ++ records ps) + 1) l kept.told.0) spelled))
        (written-behind (front ++ records ps) payload kept.told.0 (none-begun (front ++ records ps) last kept.told.0 (sym kept.begun ∙ begun) here));
  }

pub now-open : {D : Type 0} (reads : D → Option (List ℕ)) (may_leave : D → List ℕ → Type 0) (reads_left : (disk : D) (file : List ℕ) → reads disk ≡ Some file → may_leave disk file)
    (front : List ℕ) (ps : List (List ℕ)) (payload : List ℕ) (log : Log D) (kept : IsKept reads may_leave front ps (Some payload) log) (disk : D) (size : ℕ) → size ≡ 9 + length payload
    → reads disk ≡ option_map (written log.gate (open_gate ∷ [])) (reads log.disk) → IsSynced (reads disk) (may_leave disk)
    → IsKept reads may_leave front (ps ++ (payload ∷ [])) None (record { disk = disk; start = log.start; gate = log.gate + size; begun = false; opening = log.opening })
now-open reads may_leave reads_left front ps payload log kept disk size counts is synced =
    let done = front ++ records ps in
    let push = records-push front ps payload in
    let long : length (front ++ records (ps ++ (payload ∷ []))) ≡ length done + size =
    omega (arith, ap length push, length-append done (open_gate ∷ framed payload), length-framed payload, counts) in
    let image = kept.images kept.told.0 (reads_left log.disk kept.told.0 kept.told.1) in
    record {
      told = told-written log.gate (open_gate ∷ []) (reads log.disk) (reads disk) kept.told is;
      gate = omega (arith, long, kept.gate);
      begun = refl;
      images = λ c now. subst (λ (l : List ℕ). EndsBehind l c) push
          (subst (λ (l : List ℕ). EndsBehind (done ++ (open_gate ∷ framed payload)) l)
          (sym (only-written log.gate (open_gate ∷ []) (reads log.disk) (reads disk) (may_leave disk) kept.told.0 c kept.told.1 is synced now ∙ ap (λ g. written g (open_gate ∷ []) kept.told.0) kept.gate))
          (written-open done payload kept.told.0 image));
    }
