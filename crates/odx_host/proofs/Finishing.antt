-- A write that has ended well
use Rattle.std.proofs.Common.{◌≡◌, ℕ, List, [], ◌∷◌, ◌++◌, length, length-append, take, refl, ap, sym, ◌∙◌, subst, arith, true, false, Bool, inl, inr, ◌⊎◌, append-nil, append_assoc}
use Rattle.std.specs.Prelude.{Some, ◌==◌, cond, find}
use Rattle.std.proofs.lemmas.Bool.{cases_eq, eq-eqb, eqb-true}
use Rattle.std.proofs.lemmas.List.{take_all}
use Rattle.lba_ranges.specs.declared.ranges.Range.{Range}
use Rattle.lba_ranges.specs.HeldBlocks.{HeldBlocks}
use Rattle.lba_ranges.specs.Writings.{Writing}
use Rattle.cm_base.specs.Configuration.{Configuration}
use Rattle.scsi_sense.specs.Codes.{space_allocation_failed}
use Rattle.cm_history.specs.declared.act.Act.{Act}
use Rattle.cm_history.specs.declared.act.Entry.{Entry}
use Rattle.cm_history.specs.declared.answer.OpState.{OpState}
use Rattle.cm_history.specs.Deeds.{Deed}
use Rattle.cm_history.specs.Answers.{deed}
use Rattle.cm_history.specs.History.{past_of}
use Rattle.cm_history.specs.Operations.{Operation, operations, operation_after, serves, written, list_of, state_of, was_stopped, was_ended}
use Rattle.cm_history.proofs.PublicLaws.{In, Each-in, IsBegun, begun, find-in, find-some, made-after, past-is, past_of-mine, past_of-other, apart, same_place}
use Rattle.odx_host.proofs.Work.{work, found-step}
use Rattle.odx_host.specs.Copies.{begins_at, written_if}

-- ---- the operation of a Start, later

pub record Later (config : Configuration) (unit place : ℕ) (h : List Entry) (o : Operation) : Type 0 where
  pub operation : Operation
  pub is : find (begins_at place) (operations (past_of config unit h)) ≡ Some operation
  pub made : operation.made ≡ o.made
  pub more : List Writing
  pub wrote : written operation ≡ written o ++ more

after-written : (d : Deed) (o : Operation) → (more : List Writing) × (written (operation_after d o) ≡ written o ++ more)
after-written d o = go (serves d.served o)
  where
    go : (t : Bool) → (more : List Writing) × (written (cond t (record o { servers = d ∷ o.servers }) o) ≡ written o ++ more)
    go true = (d.wrote, refl)
    go false = ([], sym (append-nil (written o)))

later-one : (config : Configuration) (unit place : ℕ) (h : List Entry) (e : Entry) (o : Operation) → Later config unit place h o → Later config unit place (h ++ e ∷ []) o
later-one config unit place h e o l = go (cases_eq e.unit unit)
  where
    go : (e.unit ≡ unit) ⊎ (e.unit ≡ unit → ⊥) → Later config unit place (h ++ e ∷ []) o
    go (inl here) =
        let past = past_of config unit h in
        let d = deed config unit past e in
        let w = after-written d l.operation in
        record {
          operation = operation_after d l.operation;
          is = ap (λ p. find (begins_at place) (operations p)) (past_of-mine config unit h e here) ∙ found-step config unit d past (past-is config unit h) refl place l.operation l.is;
          made = made-after d l.operation ∙ l.made;
          more = l.more ++ w.0;
          wrote = w.1 ∙ ap (λ ws. ws ++ w.0) l.wrote ∙ append_assoc (written o) l.more w.0;
        }
    go (inr other) = record {
      operation = l.operation;
      is = ap (λ p. find (begins_at place) (operations p)) (past_of-other config unit h e other) ∙ l.is;
      made = l.made;
      more = l.more;
      wrote = l.wrote;
    }

later-more : (config : Configuration) (unit place : ℕ) (h rest : List Entry) (o : Operation) → Later config unit place h o → Later config unit place (h ++ rest) o
later-more config unit place h [] o l = subst (λ x. Later config unit place x o) (sym (append-nil h)) l
later-more config unit place h (e ∷ es) o l =
    subst (λ x. Later config unit place x o) (append_assoc h (e ∷ []) es) (later-more config unit place (h ++ e ∷ []) es o (later-one config unit place h e o l))

-- an operation that has written all its blocks wrote these, whatever came later
pub finished : (config : Configuration) (unit : ℕ) (mid rest all : List Entry) (o : Operation) → mid ++ rest ≡ all → In o (operations (past_of config unit mid))
    → length (written o) ≡ length (list_of o.made.entry.act) → work (past_of config unit all) o.made.place ≡ list_of o.made.entry.act
finished config unit mid rest all o whole there done =
    let f = find-some (begins_at o.made.place) (operations (past_of config unit mid)) o there (eq-eqb o.made.place o.made.place refl) in
    let same : f.item ≡ o = same_place (operations (past_of config unit mid)) f.item o (apart config unit (past_of config unit mid) (past-is config unit mid)) f.there there
    (eqb-true f.item.made.place o.made.place f.passes) in
    let first : Later config unit o.made.place mid o = record { operation = o; is = f.is ∙ ap Some same; made = refl; more = []; wrote = sym (append-nil (written o)) } in
    let l = subst (λ h. Later config unit o.made.place h o) whole (later-more config unit o.made.place mid rest o first) in
    let i = find-in (begins_at o.made.place) (operations (past_of config unit all)) l.operation l.is in
    let begins : written l.operation ≡ take (length (written l.operation)) (list_of l.operation.made.entry.act) =
    Each-in IsBegun (operations (past_of config unit all)) l.operation (begun config unit (past_of config unit all) (past-is config unit all)) i in
    let act : list_of l.operation.made.entry.act ≡ list_of o.made.entry.act = ap (λ (d : Deed). list_of d.entry.act) l.made in
    let longer = length-append (written o) l.more in
    let count = ap length l.wrote in
    let size = ap length act in
    ap written_if l.is ∙ begins ∙ take_all (length (written l.operation)) (list_of l.operation.made.entry.act) (omega (arith, longer, count, size, done)) ∙ act

-- ---- what is told of it

-- a write in the background runs, is done, was stopped, or was ended
pub data IsState (o : Operation) : OpState → Type 0 where
  Runs : IsState o OpState.Running
  IsDone : length (written o) ≡ length (list_of o.made.entry.act) → IsState o OpState.Done
  WasStopped : IsState o (OpState.Failed space_allocation_failed)
  WasEnded : IsState o OpState.Terminated

pub state-is : (o : Operation) (id : ℕ) (ranges : List Range) (rod : HeldBlocks) → IsState o (state_of o (Act.Start id true ranges rod))
state-is o id ranges rod = go (was_stopped o.servers) (was_ended o.servers) (length (written o) == length (list_of o.made.entry.act)) refl
  where
    go : (a b c : Bool) → (length (written o) == length (list_of o.made.entry.act)) ≡ c
        → IsState o (cond a (OpState.Failed space_allocation_failed) (cond b OpState.Terminated (cond c OpState.Done OpState.Running)))
    go true b c e = WasStopped
    go false true c e = WasEnded
    go false false true e = IsDone (eqb-true (length (written o)) (length (list_of o.made.entry.act)) e)
    go false false false e = Runs
