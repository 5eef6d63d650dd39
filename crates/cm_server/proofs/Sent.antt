-- What sessions and pumps are given and hand back may go to another thread, and what they share may be shared.
use denote.Param.Send.{IsSend, IsSync, recorded_send, recorded_sync, struct_send, struct_sync, sendable}
use denote.RattleType.{RattleType}
use denote.Ref.{NamedLft}
use denote.Struct.Declared.{shape}
use denote.Struct.Field as field
use denote.Struct.Tuple as tuple
use Rattle.std.proofs.Common.{ℕ, List, [], ◌∷◌}
use Rattle.std.proofs.alloc.Global.TheSendSync as heap
use Rattle.cm_base.proofs.config.Config.TheSendSync as config
use Rattle.cm_base.specs.declared.clock.Clock as clock
use Rattle.cm_server.proofs.pumps.bell.Bell.TheSendSync as bell
use Rattle.cm_server.proofs.sessions.board.Board.TheSendSync as board
use Rattle.cm_server.proofs.term.Term.TheSendSync as term
use Rattle.cm_server.specs.contracts.sessions.beginning.Ended as Ended
use Rattle.cm_server.specs.contracts.shared.Shared as Shared
use Rattle.cm_server.specs.declared.sessions.meet.Meet as meet
use Rattle.nexus.proofs.PublicLaws.{pass-sent, world-shared}
use Rattle.nexus.specs.contracts.pass.Pass as Pass
use Rattle.recorder.specs.declared.recording.Recorder as recorder

-- ---- what a session hands back, and what threads share

pub ended_send : (K R : RattleType) (g : recorder.Ghosts R.Denot) → IsSend K → IsSend R → IsSend (Ended.the_row K R g)
ended_send K R g k r = recorded_send (Ended.the_field K R g).row _ _ (Ended.the_type K R g).to_one
    (struct_send (shape (Ended.the_type K R g)) (k, (pass-sent R g r, (search sendable depth 20, tt))))

pub shared_sync : (ℓ : NamedLft) (R C G W : RattleType) (t : clock.Ghosts C.Denot) (h : meet.Ghosts G.Denot) (g : recorder.Ghosts R.Denot) → IsSend R → IsSync C → IsSync G → IsSync W
    → IsSync (Shared.the_row ℓ R C G W t h g)
shared_sync ℓ R C G W t h g r c m w =
    let b = bell.the_sync in
    recorded_sync (Shared.the_field ℓ R C G W t h g).row _ _ (Shared.the_type ℓ R C G W t h g).to_one
    (struct_sync (shape (Shared.the_type ℓ R C G W t h g))
    (search (sendable, w), (heap.the_field_sync, (config.the_sync, (world-shared R g r, (search (sendable, b) depth 20, (search (sendable, board.the_sync), (term.the_field_sync, (c, (search (sendable, m), tt))))))))))

-- ---- what threads are given

module _ (R C G W : RattleType) (t : clock.Ghosts C.Denot) (h : meet.Ghosts G.Denot) (g : recorder.Ghosts R.Denot) (r : IsSend R) (c : IsSync C) (m : IsSync G) (w : IsSync W) where
  abbrev shared : NamedLft → RattleType
  shared ℓ = Shared.the_row ℓ R C G W t h g

  lent : (ℓ ℓ' : NamedLft) → IsSend (field.shr_ref_field ℓ (shared ℓ') tt).row
  lent ℓ ℓ' = let s = shared_sync ℓ' R C G W t h g r c m w in search (sendable, s) depth 20

  -- what is shared, a link, a pass, a number, and a place
  pub session_send : (n : List ℕ) (ℓ ℓ' : NamedLft) (K : RattleType) → IsSend K
      → IsSend (tuple.TupleAt n ((field.shr_ref_field ℓ (Shared.the_row ℓ' R C G W t h g) tt).row ∷ K ∷ Pass.the_row R g ∷ (field.u32-field).row ∷ (field.u8-field).row ∷ []))
  session_send n ℓ ℓ' K k =
      let rows : List RattleType = (field.shr_ref_field ℓ (Shared.the_row ℓ' R C G W t h g) tt).row ∷ K ∷ Pass.the_row R g ∷ (field.u32-field).row ∷ (field.u8-field).row ∷ [] in
      recorded_send (tuple.field_at n rows).row _ _ (tuple.type_at n rows).to_one
      (struct_send (shape (tuple.type_at n rows)) (lent ℓ ℓ', (k, (pass-sent R g r, (search sendable depth 20, (search sendable depth 20, tt))))))

  -- what is shared, a pass, and a unit
  pub pump_send : (n : List ℕ) (ℓ ℓ' : NamedLft)
      → IsSend (tuple.TupleAt n ((field.shr_ref_field ℓ (Shared.the_row ℓ' R C G W t h g) tt).row ∷ Pass.the_row R g ∷ (field.u16-field).row ∷ []))
  pump_send n ℓ ℓ' =
      let rows : List RattleType = (field.shr_ref_field ℓ (Shared.the_row ℓ' R C G W t h g) tt).row ∷ Pass.the_row R g ∷ (field.u16-field).row ∷ [] in
      recorded_send (tuple.field_at n rows).row _ _ (tuple.type_at n rows).to_one
      (struct_send (shape (tuple.type_at n rows)) (lent ℓ ℓ', (pass-sent R g r, (search sendable depth 20, tt))))
