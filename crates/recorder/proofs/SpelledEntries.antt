-- An entry that is read was spelled so
use Rattle.std.proofs.Common.{◌≡◌, ℕ, zero, suc, ◌^◌, ◌<◌, ◌≤◌, List, [], ◌∷◌, ◌++◌, length, take, refl, ap, sym, ◌∙◌, subst, arith, true, false, Bool}
use Rattle.std.specs.Prelude.{nat_le, nat_lt, ◌==◌, ◌&&◌}
use Rattle.std.proofs.lemmas.Bool.Decides.{nat_tests}
use Rattle.byteorder.specs.Endian.{big_bytes}
use Rattle.cm_base.specs.Fields.{flag, AreBytes}
use Rattle.cm_base.specs.declared.parsed.Parsed.{Parsed}
use Rattle.cm_base.specs.declared.parsed.Parsed.TheVariants.{Whole}
use Rattle.lba_ranges.specs.HeldBlocks.{HeldBlocks}
use Rattle.cm_history.specs.declared.act.Act.{Act}
use Rattle.cm_history.specs.declared.act.CopyEnd.{CopyEnd}
use Rattle.recorder.specs.Text.{ranges_bytes, blocks_text, state_code, end_bytes, act_code, act_fields, actor_bytes, entry_bytes, FitRanges, FitBlocks, FitsAct, FitsActor, IsEntry}
use Rattle.recorder.specs.Cursor.{after, done, tested, number, some_bytes}
use Rattle.recorder.specs.Reading.{read_ranges, read_blocks, state_in, read_end, is_bit, read_one, read_two, read_list, read_populate, read_start, read_redeem, read_close, read_out, read_fields, read_act, is_number_of, actor_of, read_number, read_actor, read_entry}
use Rattle.recorder.specs.Laws.{IsSpelledSo}
use Rattle.recorder.proofs.Spelled.{Reads, any, after-reads, last-reads, done-reads, IsField, number-reads, tested-reads, IsByte, byte-reads, AreSome, bytes-reads, IsSpelt, either-reads}
use Rattle.recorder.proofs.SpelledBlocks.{ranges-reads, blocks-reads}

-- ---- acts

-- an act of this code, and the bytes of its fields
pub record IsAct (code : ℕ) (act : Act) (t : List ℕ) : Type 0 where
  pub coded : act_code act ≡ code
  pub fits : FitsAct act
  pub is : t ≡ act_fields act

-- an act of one number
one-reads : (make : ℕ → Act) (width code : ℕ) → 0 < width → ((n : ℕ) (t : List ℕ) → IsField any width n t → IsAct code (make n) t) → Reads (IsAct code) (read_one make width)
one-reads make width code some to = last-reads (number width) make (IsField any width) _ (number-reads width some) to

-- or of one byte
byte-one : (make : ℕ → Act) (code : ℕ) → ((n : ℕ) (t : List ℕ) → IsByte any n t → IsAct code (make n) t) → Reads (IsAct code) (read_one make 1)
byte-one make code to = last-reads (number 1) make (IsByte any) _ (byte-reads any) to

two-reads : (make : ℕ → ℕ → Act) (code : ℕ) → ((a b : ℕ) (t u : List ℕ) → IsField any 8 a t → IsField any 4 b u → IsAct code (make a b) (t ++ u)) → Reads (IsAct code) (read_two make 8 4)
two-reads make code to =
    after-reads (number 8) _ (IsField any 8) _ (number-reads 8 (omega arith)) (λ a t p. last-reads (number 4) (make a) (IsField any 4) _ (number-reads 4 (omega arith)) (λ b u q. to a b t u p q))

list-reads : (make : ℕ → HeldBlocks → Act) (code : ℕ) → ((lba : ℕ) (list : HeldBlocks) (t u : List ℕ) → IsField any 8 lba t → IsSpelt FitBlocks blocks_text list u → IsAct code (make lba list) (t ++ u))
    → Reads (IsAct code) (read_list make)
list-reads make code to =
    after-reads (number 8) _ (IsField any 8) _ (number-reads 8 (omega arith)) (λ lba t p. last-reads read_blocks (make lba) (IsSpelt FitBlocks blocks_text) _ blocks-reads (λ list u q. to lba list t u p q))

populate-reads : Reads (IsAct 5) read_populate
populate-reads =
    after-reads (number 4) _ (IsField any 4) _ (number-reads 4 (omega arith)) (λ id t p. after-reads (number 4) _ (IsField any 4) _ (number-reads 4 (omega arith)) (λ timeout u q.
    last-reads read_ranges _ (IsSpelt FitRanges ranges_bytes) _ ranges-reads (λ ranges v r. record {
      coded = refl;
      fits = (omega (arith, p.fits), omega (arith, q.fits), r.0);
      is = ap (λ l. l ++ (u ++ v)) p.is ∙ ap (λ l. big_bytes 4 id ++ (l ++ v)) q.is ∙ ap (λ l. big_bytes 4 id ++ (big_bytes 4 timeout ++ l)) r.1;
    })))

bit-back : (n : ℕ) → is_bit n ≡ true → flag (n == 1) ≡ n
bit-back zero e = refl
bit-back (suc zero) e = refl
bit-back (suc (suc n)) e = absurd (let low : suc (suc n) ≤ 1 = grind (arith, nat_tests) in omega (arith, low))

start-reads : Reads (IsAct 8) read_start
start-reads =
    after-reads (number 4) _ (IsField any 4) _ (number-reads 4 (omega arith)) (λ id t p. after-reads (tested is_bit 1) _ (IsByte is_bit) _ (byte-reads is_bit) (λ background u q.
    after-reads read_ranges _ (IsSpelt FitRanges ranges_bytes) _ ranges-reads (λ ranges v r. last-reads read_blocks _ (IsSpelt FitBlocks blocks_text) _ blocks-reads (λ rod w s. record {
      coded = refl;
      fits = (omega (arith, p.fits), r.0, s.0);
      is = ap (λ l. l ++ (u ++ (v ++ w))) p.is ∙ ap (λ l. big_bytes 4 id ++ (l ++ (v ++ w))) (q.is ∙ ap (λ k. k ∷ []) (sym (bit-back background q.allowed)))
          ∙ ap (λ l. big_bytes 4 id ++ (flag (background == 1) ∷ (l ++ w))) r.1 ∙ ap (λ l. big_bytes 4 id ++ (flag (background == 1) ∷ (ranges_bytes ranges ++ l))) s.1;
    }))))

redeem-reads : Reads (IsAct 6) read_redeem
redeem-reads =
    after-reads (some_bytes 512) _ (AreSome 512) _ (bytes-reads 512) (λ text t p. last-reads (number 2) _ (IsField any 2) _ (number-reads 2 (omega arith)) (λ target u q. record {
      coded = refl;
      fits = (p.count, p.small, omega (arith, q.fits));
      is = ap (λ l. l ++ u) p.is ∙ ap (λ l. text ++ l) q.is;
    }))

-- the code of a state, 0 to 3
state-back : (n : ℕ) → nat_le n 3 ≡ true → state_code (state_in n) ≡ n
state-back zero e = refl
state-back (suc zero) e = refl
state-back (suc (suc zero)) e = refl
state-back (suc (suc (suc zero))) e = refl
state-back (suc (suc (suc (suc n)))) e = absurd (let low : suc (suc (suc (suc n))) ≤ 3 = grind (arith, nat_tests) in omega (arith, low))

abbrev FitsEnd : CopyEnd → Type 0
FitsEnd e = (e.segments < 2 ^ 16) × (e.bytes < 2 ^ 32)

end-reads : Reads (IsSpelt FitsEnd end_bytes) read_end
end-reads =
    after-reads (tested (λ n. nat_le n 3) 1) _ (IsByte (λ n. nat_le n 3)) _ (byte-reads (λ n. nat_le n 3)) (λ state t p. after-reads (number 2) _ (IsField any 2) _ (number-reads 2 (omega arith)) (λ segments u q.
    last-reads (number 4) _ (IsField any 4) _ (number-reads 4 (omega arith)) (λ count v r. (
      (omega (arith, q.fits), omega (arith, r.fits)),
      ap (λ l. l ++ (u ++ v)) (p.is ∙ ap (λ k. k ∷ []) (sym (state-back state p.allowed))) ∙ ap (λ l. state_code (state_in state) ∷ (l ++ v)) q.is
          ∙ ap (λ l. state_code (state_in state) ∷ (big_bytes 2 segments ++ l)) r.is,
    ))))

close-reads : Reads (IsAct 17) read_close
close-reads =
    after-reads (number 1) _ (IsByte any) _ (byte-reads any) (λ id t p. last-reads read_end _ (IsSpelt FitsEnd end_bytes) _ end-reads (λ result u q. record {
      coded = refl;
      fits = (omega (arith, p.fits), q.0.0, q.0.1);
      is = ap (λ l. l ++ u) p.is ∙ ap (λ l. id ∷ l) q.1;
    }))

out-reads : Reads (IsAct 19) read_out
out-reads =
    after-reads (number 1) _ (IsByte any) _ (byte-reads any) (λ action t p. after-reads (number 1) _ (IsByte any) _ (byte-reads any) (λ scope u q.
    after-reads (number 1) _ (IsByte any) _ (byte-reads any) (λ kind v r. after-reads (number 8) _ (IsField any 8) _ (number-reads 8 (omega arith)) (λ key w s.
    last-reads (number 8) _ (IsField any 8) _ (number-reads 8 (omega arith)) (λ action_key x y. record {
      coded = refl;
      fits = (omega (arith, p.fits), omega (arith, q.fits), omega (arith, r.fits), omega (arith, s.fits), omega (arith, y.fits));
      is = ap (λ l. l ++ (u ++ (v ++ (w ++ x)))) p.is ∙ ap (λ l. action ∷ (l ++ (v ++ (w ++ x)))) q.is ∙ ap (λ l. action ∷ scope ∷ (l ++ (w ++ x))) r.is
          ∙ ap (λ l. action ∷ scope ∷ kind ∷ (l ++ x)) s.is ∙ ap (λ l. action ∷ scope ∷ kind ∷ (big_bytes 8 key ++ l)) y.is;
    })))))

unmap-reads : Reads (IsAct 3) (λ bytes. after (read_ranges bytes) bytes (λ ranges rest. done (Act.Unmap ranges)))
unmap-reads = last-reads read_ranges Act.Unmap (IsSpelt FitRanges ranges_bytes) _ ranges-reads (λ ranges t p. record { coded = refl; fits = p.0; is = p.1 })

-- a reader of the fields of the act of this code is one of those of an equal code
coded : (code k : ℕ) (read : List ℕ → Parsed Act) → Reads (IsAct k) read → code ≡ k → Reads (IsAct code) read
coded code k read reads is = subst (λ c. Reads (IsAct c) read) (sym is) reads

four : (make : ℕ → Act) (code : ℕ) → ((n : ℕ) → act_code (make n) ≡ code) → ((n : ℕ) → n < 2 ^ 32 → FitsAct (make n)) → ((n : ℕ) → act_fields (make n) ≡ big_bytes 4 n) → Reads (IsAct code) (read_one make 4)
four make code same fits text = one-reads make 4 code (omega arith) (λ n t p. record { coded = same n; fits = fits n (omega (arith, p.fits)); is = p.is ∙ sym (text n) })

eight : (make : ℕ → Act) (code : ℕ) → ((n : ℕ) → act_code (make n) ≡ code) → ((n : ℕ) → n < 2 ^ 64 → FitsAct (make n)) → ((n : ℕ) → act_fields (make n) ≡ big_bytes 8 n) → Reads (IsAct code) (read_one make 8)
eight make code same fits text = one-reads make 8 code (omega arith) (λ n t p. record { coded = same n; fits = fits n (omega (arith, p.fits)); is = p.is ∙ sym (text n) })

small : (make : ℕ → Act) (code : ℕ) → ((n : ℕ) → act_code (make n) ≡ code) → ((n : ℕ) → n < 2 ^ 8 → FitsAct (make n)) → ((n : ℕ) → act_fields (make n) ≡ n ∷ []) → Reads (IsAct code) (read_one make 1)
small make code same fits text = byte-one make code (λ n t p. record { coded = same n; fits = fits n (omega (arith, p.fits)); is = p.is ∙ sym (text n) })

pair-reads : (make : ℕ → ℕ → Act) (code : ℕ) → ((a b : ℕ) → act_code (make a b) ≡ code) → ((a b : ℕ) → a < 2 ^ 64 → b < 2 ^ 32 → FitsAct (make a b))
    → ((a b : ℕ) → act_fields (make a b) ≡ big_bytes 8 a ++ big_bytes 4 b) → Reads (IsAct code) (read_two make 8 4)
pair-reads make code same fits text = two-reads make code (λ a b t u p q. record {
  coded = same a b;
  fits = fits a b (omega (arith, p.fits)) (omega (arith, q.fits));
  is = ap (λ l. l ++ u) p.is ∙ ap (λ l. big_bytes 8 a ++ l) q.is ∙ sym (text a b);
})

write-reads : (make : ℕ → HeldBlocks → Act) (code : ℕ) → ((a : ℕ) (l : HeldBlocks) → act_code (make a l) ≡ code) → ((a : ℕ) (l : HeldBlocks) → a < 2 ^ 64 → FitBlocks l → FitsAct (make a l))
    → ((a : ℕ) (l : HeldBlocks) → act_fields (make a l) ≡ big_bytes 8 a ++ blocks_text l) → Reads (IsAct code) (read_list make)
write-reads make code same fits text = list-reads make code (λ a list t u p q. record {
  coded = same a list;
  fits = fits a list (omega (arith, p.fits)) q.0;
  is = ap (λ l. l ++ u) p.is ∙ ap (λ l. big_bytes 8 a ++ l) q.1 ∙ sym (text a list);
})

fields-reads : (code : ℕ) → 1 ≤ code → code ≤ 21 → Reads (IsAct code) (read_fields code)
fields-reads code low high =
    either-reads (IsAct code) code 0x01 _ _ low (coded code 1 _ (pair-reads Act.Read 1 (λ a b. refl) (λ a b x y. (x, y)) (λ a b. refl))) (λ low.
    either-reads (IsAct code) code 0x02 _ _ low (coded code 2 _ (write-reads Act.Write 2 (λ a l. refl) (λ a l x y. (x, y)) (λ a l. refl))) (λ low.
    either-reads (IsAct code) code 0x03 _ _ low (coded code 3 _ unmap-reads) (λ low.
    either-reads (IsAct code) code 0x04 _ _ low (coded code 4 _ (eight Act.MapStatus 4 (λ n. refl) (λ n x. x) (λ n. refl))) (λ low.
    either-reads (IsAct code) code 0x05 _ _ low (coded code 5 _ populate-reads) (λ low.
    either-reads (IsAct code) code 0x06 _ _ low (coded code 6 _ redeem-reads) (λ low.
    either-reads (IsAct code) code 0x07 _ _ low (coded code 7 _ (eight Act.Delete 7 (λ n. refl) (λ n x. x) (λ n. refl))) (λ low.
    either-reads (IsAct code) code 0x08 _ _ low (coded code 8 _ start-reads) (λ low.
    either-reads (IsAct code) code 0x09 _ _ low (coded code 9 _ (four Act.Advance 9 (λ n. refl) (λ n x. x) (λ n. refl))) (λ low.
    either-reads (IsAct code) code 0x0a _ _ low (coded code 10 _ (done-reads Act.Pump _ (record { coded = refl; fits = tt; is = refl }))) (λ low.
    either-reads (IsAct code) code 0x0b _ _ low (coded code 11 _ (four Act.End 11 (λ n. refl) (λ n x. x) (λ n. refl))) (λ low.
    either-reads (IsAct code) code 0x0c _ _ low (coded code 12 _ (four Act.Abort 12 (λ n. refl) (λ n x. x) (λ n. refl))) (λ low.
    either-reads (IsAct code) code 0x0d _ _ low (coded code 13 _ (four Act.Report 13 (λ n. refl) (λ n x. x) (λ n. refl))) (λ low.
    either-reads (IsAct code) code 0x0e _ _ low (coded code 14 _ (pair-reads Act.Capture 14 (λ a b. refl) (λ a b x y. (x, y)) (λ a b. refl))) (λ low.
    either-reads (IsAct code) code 0x0f _ _ low (coded code 15 _ (write-reads Act.Put 15 (λ a l. refl) (λ a l x y. (x, y)) (λ a l. refl))) (λ low.
    either-reads (IsAct code) code 0x10 _ _ low (coded code 16 _ (small Act.Open 16 (λ n. refl) (λ n x. x) (λ n. refl))) (λ low.
    either-reads (IsAct code) code 0x11 _ _ low (coded code 17 _ close-reads) (λ low.
    either-reads (IsAct code) code 0x12 _ _ low (coded code 18 _ (small Act.Recall 18 (λ n. refl) (λ n x. x) (λ n. refl))) (λ low.
    either-reads (IsAct code) code 0x13 _ _ low (coded code 19 _ out-reads) (λ low.
    either-reads (IsAct code) code 0x14 _ _ low (coded code 20 _ (done-reads Act.PrKeys _ (record { coded = refl; fits = tt; is = refl }))) (λ low.
    coded code 21 _ (done-reads Act.PrHolder _ (record { coded = refl; fits = tt; is = refl })) (omega (arith, low, high))))))))))))))))))))))

both-hold : (a b : Bool) → (a && b) ≡ true → (a ≡ true) × (b ≡ true)
both-hold true b e = (refl, e)
both-hold false b e = cc

abbrev is_code : ℕ → Bool
is_code code = nat_le 1 code && nat_le code 21

abbrev act_text : Act → List ℕ
act_text act = act_code act ∷ act_fields act

act-each : (code : ℕ) (t : List ℕ) → IsByte is_code code t → (bytes : List ℕ) (act : Act) (used : ℕ) → AreBytes bytes → read_fields code bytes ≡ Whole act used
    → (used ≤ length bytes) × IsSpelt FitsAct act_text act (t ++ take used bytes)
act-each code t p bytes act used all e =
    let both = both-hold (nat_le 1 code) (nat_le code 21) p.allowed in
    let low : 1 ≤ code = (let h = both.0 in grind (arith, nat_tests)) in
    let high : code ≤ 21 = (let h = both.1 in grind (arith, nat_tests)) in
    let found = (fields-reads code low high).each bytes act used all e in
    (found.0, (found.1.fits, ap (λ l. l ++ take used bytes) p.is ∙ ap (λ k. k ∷ take used bytes) (sym found.1.coded) ∙ ap (λ l. act_code act ∷ l) found.1.is))

act-reads : Reads (IsSpelt FitsAct act_text) read_act
act-reads = after-reads (tested is_code 1) _ (IsByte is_code) _ (byte-reads is_code) (λ code t p. record { each = act-each code t p })

-- ---- entries

number-spelt : (kind : ℕ) (k : List ℕ) → IsByte is_bit kind k → Reads (λ actor u. IsSpelt FitsActor actor_bytes actor (k ++ u)) (read_number kind)
number-spelt zero k q = last-reads (tested (is_number_of 0) 4) (actor_of 0) (IsField (is_number_of 0) 4) _ (tested-reads (is_number_of 0) 4 (omega arith)) (λ n t p.
    (omega (arith, p.fits), ap (λ l. l ++ t) q.is ∙ ap (λ l. 0 ∷ l) p.is))
number-spelt (suc zero) k q = last-reads (tested (is_number_of 1) 4) (actor_of 1) (IsField (is_number_of 1) 4) _ (tested-reads (is_number_of 1) 4 (omega arith)) (λ n t p.
    ((let h : nat_lt n (2 ^ 16) ≡ true = p.allowed in grind (arith, nat_tests)), ap (λ l. l ++ t) q.is ∙ ap (λ l. 1 ∷ l) p.is))
number-spelt (suc (suc kind)) k q = absurd (let h = q.allowed in let low : suc (suc kind) ≤ 1 = grind (arith, nat_tests) in omega (arith, low))

actor-reads : Reads (IsSpelt FitsActor actor_bytes) read_actor
actor-reads = after-reads (tested is_bit 1) _ (IsByte is_bit) _ (byte-reads is_bit) (λ kind k q. number-spelt kind k q)

entry-reads : Reads (IsSpelt IsEntry entry_bytes) read_entry
entry-reads =
    after-reads (number 8) _ (IsField any 8) _ (number-reads 8 (omega arith)) (λ stamp a p. after-reads (number 2) _ (IsField any 2) _ (number-reads 2 (omega arith)) (λ unit b q.
    after-reads read_actor _ (IsSpelt FitsActor actor_bytes) _ actor-reads (λ actor c r. after-reads (number 8) _ (IsField any 8) _ (number-reads 8 (omega arith)) (λ seq d s.
    after-reads (number 8) _ (IsField any 8) _ (number-reads 8 (omega arith)) (λ moment f t. last-reads read_act _ (IsSpelt FitsAct act_text) _ act-reads (λ act g u. (
      record { stamp = omega (arith, p.fits); unit = omega (arith, q.fits); actor = r.0; seq = omega (arith, s.fits); moment = omega (arith, t.fits); act = u.0 },
      ap (λ l. l ++ (b ++ (c ++ (d ++ (f ++ g))))) p.is ∙ ap (λ l. big_bytes 8 stamp ++ (l ++ (c ++ (d ++ (f ++ g))))) q.is
          ∙ ap (λ l. big_bytes 8 stamp ++ (big_bytes 2 unit ++ (l ++ (d ++ (f ++ g))))) r.1
          ∙ ap (λ l. big_bytes 8 stamp ++ (big_bytes 2 unit ++ (actor_bytes actor ++ (l ++ (f ++ g))))) s.is
          ∙ ap (λ l. big_bytes 8 stamp ++ (big_bytes 2 unit ++ (actor_bytes actor ++ (big_bytes 8 seq ++ (l ++ g))))) t.is
          ∙ ap (λ l. big_bytes 8 stamp ++ (big_bytes 2 unit ++ (actor_bytes actor ++ (big_bytes 8 seq ++ (big_bytes 8 moment ++ l))))) u.1,
    )))))))

pub entry-spelled : IsSpelledSo IsEntry entry_bytes read_entry
entry-spelled bytes e used all is = let found = entry-reads.each bytes e used all is in (found.1.0, found.0, found.1.1)
