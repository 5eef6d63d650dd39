-- The requests in what was pulled, as more of it comes
use Rattle.std.proofs.Common.{◌≡◌, ℕ, suc, ◌≤◌, List, [], ◌∷◌, ◌++◌, length, drop, refl, ap, sym, ◌∙◌, subst, append-nil, append_assoc, inl, inr, arith, length-append}
use Rattle.std.specs.Prelude.{Option, Some, None, IfSome, ◌⊎◌}
use Rattle.std.specs.Io.KnownBytes.{Consumes, Keeps, IsAtEnd}
use Rattle.std.proofs.KnownBytes.{Consumes-nil, Consumes-trans, Consumes-kept}
use Rattle.std.proofs.lemmas.List.{drop-append-le}
use Rattle.cm_base.specs.declared.parsed.Parsed.TheVariants.{Whole, Short, Bad}
use Rattle.cm_frame.specs.declared.frame.Request.{Request}
use Rattle.cm_frame.specs.Reading.{read_request}
use Rattle.cm_frame.specs.Laws.{IsJudged, StaysJudged}
use Rattle.session.specs.declared.end.SessionFault.{SessionFault}
use Rattle.cm_base.specs.declared.input_buffer.FillFailed.{FillFailed}
use Rattle.cm_frame.specs.Framing.{Framed, Ending, ends, led_by, framed, framed_from, frames_limit, with_request}
use Rattle.session.specs.Spoken.{IsFront, EndsSo}
use Rattle.session.specs.inner.Talking.{with_all, IsHeard, IsHeardTo, IsWriteEnd, Hears, end_of}
use Rattle.session.specs.Talking.{fault_from}

module _ (left : Option (List ℕ)) where
  -- nothing was pulled yet
  pub heard-first : IsHeard left left [] frames_limit []
  heard-first = record { pulled = []; consumed = Consumes-nil left; frames = λ more. refl }

  -- more bytes came
  pub heard-more : (a b : Option (List ℕ)) (requests : List Request) (n : ℕ) (waits more after : List ℕ)
      → IsHeard left a requests n waits → Consumes a b more → after ≡ waits ++ more → IsHeard left b requests n after
  heard-more a b requests n waits more after h came is = record {
    pulled = h.pulled ++ more;
    consumed = Consumes-trans left a b h.pulled more h.consumed came;
    frames = λ later. ap framed (append_assoc h.pulled more later) ∙ h.frames (more ++ later)
        ∙ ap (λ l. with_all requests (framed_from n l)) (sym (append_assoc waits more later) ∙ ap (λ l. l ++ later) (sym is));
  }

  with-more : (requests : List Request) (request : Request) (f : Framed) → with_all requests (with_request request f) ≡ with_all (requests ++ request ∷ []) f
  with-more requests request f = ap (λ (l : List Request). record f { requests = l }) (sym (append_assoc requests (request ∷ []) f.requests))

  -- what is judged of a request stays, whatever comes
  led-whole : StaysJudged read_request → (n used : ℕ) (waits more : List ℕ) (request : Request) → read_request waits ≡ Whole request used → used ≤ length waits
      → framed_from (suc n) (waits ++ more) ≡ with_request request (framed_from n (drop used waits ++ more))
  led-whole stays n used [] more request is low = cc
  led-whole stays n used (b ∷ bs) more request is low =
      let same : read_request ((b ∷ bs) ++ more) ≡ Whole request used = stays (b ∷ bs) more (subst IsJudged (sym is) tt) ∙ is in
      ap (λ p. led_by p (λ u. framed_from n (drop u ((b ∷ bs) ++ more)))) same
      ∙ ap (λ l. with_request request (framed_from n l)) (drop-append-le used (b ∷ bs) more low)

  led-bad : StaysJudged read_request → (n place : ℕ) (waits more : List ℕ) → read_request waits ≡ Bad place → framed_from (suc n) (waits ++ more) ≡ ends Ending.BadFrame
  led-bad stays n place [] more is = cc
  led-bad stays n place (b ∷ bs) more is =
      let same : read_request ((b ∷ bs) ++ more) ≡ Bad place = stays (b ∷ bs) more (subst IsJudged (sym is) tt) ∙ is in
      ap (λ p. led_by p (λ u. framed_from n (drop u ((b ∷ bs) ++ more)))) same

  -- the request at the front was taken
  pub heard-one : StaysJudged read_request → (rest : Option (List ℕ)) (requests : List Request) (n used : ℕ) (waits after : List ℕ) (request : Request)
      → IsHeard left rest requests (suc n) waits → read_request waits ≡ Whole request used → used ≤ length waits → after ≡ drop used waits
      → IsHeard left rest (requests ++ request ∷ []) n after
  heard-one stays rest requests n used waits after request h is low same = record {
    pulled = h.pulled;
    consumed = h.consumed;
    frames = λ more. h.frames more ∙ ap (with_all requests) (led-whole stays n used waits more request is low)
        ∙ with-more requests request (framed_from n (drop used waits ++ more))
        ∙ ap (λ l. with_all (requests ++ request ∷ []) (framed_from n (l ++ more))) (sym same);
  }

  -- ---- the end

  -- all bytes that the link had, as far as they are told
  record Whole-of (pulled : List ℕ) : Type 0 where
    bytes : List ℕ
    later : List ℕ
    whole : IfSome left (λ all. bytes ≡ all)
    is : bytes ≡ pulled ++ later

told : (left rest : Option (List ℕ)) (pulled : List ℕ) → Consumes left rest pulled → Whole-of left pulled
told None rest pulled c = record { bytes = pulled ++ []; later = []; whole = tt; is = refl }
told (Some all) None pulled c = absurd c
told (Some all) (Some later) pulled c = record { bytes = all; later = later; whole = refl; is = c }

module _ (left rest : Option (List ℕ)) (requests : List Request) where
  -- the requests in all bytes, whatever is still to come
  pub heard-front : (fault : SessionFault) (n : ℕ) (waits : List ℕ) → IsWriteEnd fault → IsHeard left rest requests n waits → IsHeardTo left rest requests (Some fault)
  heard-front fault n waits end h =
      let t = told left rest h.pulled h.consumed in
      let f = framed_from n (waits ++ t.later) in
      let front : IsFront (framed t.bytes) requests = (f.requests, ap (λ (x : Framed). x.requests) (ap framed t.is ∙ h.frames t.later)) in
      go end t.bytes t.whole front
    where
      go : (fault ≡ SessionFault.WriteFault) ⊎ (fault ≡ SessionFault.OutOfMemory) → (bytes : List ℕ) → IfSome left (λ all. bytes ≡ all) → IsFront (framed bytes) requests
          → IsHeardTo left rest requests (Some fault)
      go (inl is) bytes whole front = subst (λ e. IsHeardTo left rest requests (Some e)) (sym is) (record { bytes = bytes; input = whole; requests_are = front })
      go (inr is) bytes whole front = subst (λ e. IsHeardTo left rest requests (Some e)) (sym is) (record { bytes = bytes; input = whole; requests_are = front })

  ended-so : (f : Framed) (ending : Ending) → f ≡ with_all requests (ends ending) → EndsSo f requests ending
  ended-so f ending is = (ap (λ (x : Framed). x.requests) is ∙ append-nil requests, ap (λ (x : Framed). x.ending) is)

  pub heard-bad : StaysJudged read_request → (n place : ℕ) (waits : List ℕ) → IsHeard left rest requests (suc n) waits → read_request waits ≡ Bad place → IsHeardTo left rest requests (Some SessionFault.BadFrame)
  heard-bad stays n place waits h is =
      let t = told left rest h.pulled h.consumed in
      record {
        bytes = t.bytes;
        input = t.whole;
        requests_are = ended-so (framed t.bytes) Ending.BadFrame (ap framed t.is ∙ h.frames t.later ∙ ap (with_all requests) (led-bad left stays n place waits t.later is));
      }

  pub heard-frames : (b : ℕ) (bs : List ℕ) → IsHeard left rest requests 0 (b ∷ bs) → IsHeardTo left rest requests (Some SessionFault.Frames)
  heard-frames b bs h =
      let t = told left rest h.pulled h.consumed in
      record { bytes = t.bytes; input = t.whole; requests_are = ended-so (framed t.bytes) Ending.Frames (ap framed t.is ∙ h.frames t.later) }

  -- what was pulled, where nothing comes behind it
  alone : (n : ℕ) (waits : List ℕ) (h : IsHeard left rest requests n waits) → framed h.pulled ≡ with_all requests (framed_from n waits)
  alone n waits h = ap framed (sym (append-nil h.pulled)) ∙ h.frames [] ∙ ap (λ l. with_all requests (framed_from n l)) (append-nil waits)

  pub heard-done : (n : ℕ) → IsHeard left rest requests n [] → IsAtEnd rest → IsHeardTo left rest requests None
  heard-done n h end = record {
    bytes = h.pulled;
    input = (h.consumed, end);
    requests_are = ended-so (framed h.pulled) Ending.Done (alone n [] h);
  }

  short-ends : (n : ℕ) (b : ℕ) (bs : List ℕ) → read_request (b ∷ bs) ≡ Short → framed_from (suc n) (b ∷ bs) ≡ ends Ending.Torn
  short-ends n b bs is = ap (λ p. led_by p (λ u. framed_from n (drop u (b ∷ bs)))) is

  pub heard-torn : (n b : ℕ) (bs : List ℕ) → IsHeard left rest requests (suc n) (b ∷ bs) → read_request (b ∷ bs) ≡ Short → IsAtEnd rest
      → IsHeardTo left rest requests (Some SessionFault.Torn)
  heard-torn n b bs h is end = record {
    bytes = h.pulled;
    input = (h.consumed, end);
    requests_are = ended-so (framed h.pulled) Ending.Torn (alone (suc n) (b ∷ bs) h ∙ ap (with_all requests) (short-ends n b bs is));
  }

  none-in : (n : ℕ) (waits : List ℕ) → read_request waits ≡ Short → (framed_from (suc n) waits).requests ≡ []
  none-in n [] is = refl
  none-in n (b ∷ bs) is = ap (λ (f : Framed). f.requests) (short-ends n b bs is)

  pub heard-read : (after : Option (List ℕ)) (n : ℕ) (waits : List ℕ) → IsHeard left rest requests (suc n) waits → read_request waits ≡ Short → Keeps rest after
      → IsHeardTo left after requests (Some SessionFault.ReadFault)
  heard-read after n waits h is kept = record {
    bytes = h.pulled;
    input = Consumes-kept left rest after h.pulled h.consumed kept;
    requests_are = ap (λ (f : Framed). f.requests) (alone (suc n) waits h) ∙ ap (λ l. requests ++ l) (none-in n waits is) ∙ append-nil requests;
  }

  pub heard-read-last : (after : Option (List ℕ)) → IsHeard left rest requests 0 [] → Keeps rest after → IsHeardTo left after requests (Some SessionFault.ReadFault)
  heard-read-last after h kept = record {
    bytes = h.pulled;
    input = Consumes-kept left rest after h.pulled h.consumed kept;
    requests_are = ap (λ (f : Framed). f.requests) (alone 0 [] h) ∙ append-nil requests;
  }

-- ---- what a pull brings

pub none-came : (waits more after : List ℕ) (n : ℕ) → length more ≡ n → after ≡ waits ++ more → n ≡ 0 → after ≡ waits
none-came waits [] after n len is none = is ∙ append-nil waits
none-came waits (b ∷ bs) after n len is none = absurd (omega arith)

pub empty-of : (xs : List ℕ) → length xs ≡ 0 → xs ≡ []
empty-of [] len = refl
empty-of (x ∷ xs) len = absurd (omega arith)

module _ (left a b : Option (List ℕ)) (requests : List Request) where
  pub hears-filling : (m : ℕ) (waits : List ℕ) (e : FillFailed) → IsHeard left a requests (suc m) waits → read_request waits ≡ Short
      → (e ≡ FillFailed.Read → Keeps a b) → (e ≡ FillFailed.OutOfMemory → b ≡ a) → IsHeardTo left b requests (Some (fault_from e))
  hears-filling m waits FillFailed.Read h is kept same = heard-read left a requests b m waits h is (kept refl)
  hears-filling m waits FillFailed.OutOfMemory h is kept same =
      subst (λ x. IsHeardTo left x requests (Some SessionFault.OutOfMemory)) (sym (same refl)) (heard-front left a requests SessionFault.OutOfMemory (suc m) waits (inr refl) h)

  pub ends-filling : (waits : List ℕ) (e : FillFailed) → IsHeard left a requests 0 waits → waits ≡ []
      → (e ≡ FillFailed.Read → Keeps a b) → (e ≡ FillFailed.OutOfMemory → b ≡ a) → IsHeardTo left b requests (Some (fault_from e))
  ends-filling waits FillFailed.Read h none kept same = heard-read-last left a requests b (subst (IsHeard left a requests 0) none h) (kept refl)
  ends-filling waits FillFailed.OutOfMemory h none kept same =
      subst (λ x. IsHeardTo left x requests (Some SessionFault.OutOfMemory)) (sym (same refl)) (heard-front left a requests SessionFault.OutOfMemory 0 waits (inr refl) h)

module _ (left rest : Option (List ℕ)) (requests : List Request) where
  pub hears-ended : (m n : ℕ) (waits after : List ℕ) → IsHeard left rest requests (suc m) waits → read_request waits ≡ Short → IsAtEnd rest
      → Hears left rest requests n after (end_of waits)
  hears-ended m n [] after h is end = heard-done left rest requests (suc m) h end
  hears-ended m n (b ∷ bs) after h is end = heard-torn left rest requests m b bs h is end

  pub frames-over : (waits : List ℕ) → IsHeard left rest requests 0 waits → (waits ≡ [] → ⊥) → IsHeardTo left rest requests (Some SessionFault.Frames)
  frames-over [] h some = absurd (some refl)
  frames-over (b ∷ bs) h some = heard-frames left rest requests b bs h

pub none-left : (waits more after : List ℕ) → after ≡ waits ++ more → after ≡ [] → length more ≡ 0
none-left waits more after is none =
    let sum = length-append waits more in
    let all : length (waits ++ more) ≡ 0 = ap (λ (l : List ℕ). length l) (sym is ∙ none) in
    omega arith
