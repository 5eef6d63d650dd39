use Rattle.std.proofs.Common.{rules}
use mathlib.Core.List.{List, [], ◌∷◌}
use Prim.Native.Nat.{ℕ}
use denote.RattleType.{RattleType}
use denote.Ref.{NamedLft}
use denote.Exit.{no}
use denote.Struct.Declared as Declared
use denote.Struct.Field.{shr_ref_field, u32-field}
use denote.Struct.Tuple.{TupleAt, type_at, field_at}
use denote.Param.{param}
use denote.Param.Send.{IsSend, IsSync, sendable, param_send, arg_send, recorded_send, struct_send, shr_send, param_sync}
use Rattle.std.proofs.Crossing as Crossing
use Rattle.std.proofs.alloc.Global.TheSendSync as global
use Rattle.std.specs.contracts.alloc.Global as Global
use Rattle.cm_base.proofs.config.Config.TheSendSync as config
use Rattle.cm_base.specs.contracts.config.Config as Config
use Rattle.cm_history.proofs.answer.Answer.TheSendSync as answer
use Rattle.recorder.proofs.absent.NoRecorder.TheSendSync as absent
use Rattle.recorder.specs.contracts.absent.NoRecorder as NoRecorder
use Rattle.recorder.specs.contracts.absent.NoRecorderRecorder.TheImpl as NoRecorderRecorder
use Rattle.nexus.specs.contracts.pass.Pass as Pass
use Rattle.nexus.specs.contracts.world.World as World
use Rattle.world_bench.proofs.work.Work.TheSendSync as work
use Rattle.world_bench.specs.contracts.work.Work as Work
use Rattle.nexus.proofs.PublicLaws.{pass-sent, world-shared}
use Rattle.world_bench.proofs.threads.+ask_side_by_side+fn-ask_side_by_side-join+arg3.Goals as goal

no-recorder : IsSend NoRecorder.the_row
no-recorder = search (absent.the_send, sendable)

world : IsSync (World.the_row NoRecorder.the_row NoRecorderRecorder.ghosts)
world = world-shared NoRecorder.the_row NoRecorderRecorder.ghosts no-recorder

pass : IsSend (Pass.the_row NoRecorder.the_row NoRecorderRecorder.ghosts)
pass = pass-sent NoRecorder.the_row NoRecorderRecorder.ghosts no-recorder

alloc : IsSync Global.the_row
alloc = search (global.the_sync, sendable)

settings : IsSync Config.the_row
settings = search (config.the_sync, Crossing.crosses, sendable) depth 60 fits 20000

asked : IsSync Work.the_row
asked = search (work.the_sync, sendable)

-- what the closure of one thread takes with it
abbrev captures : RattleType → (a b c d e f : NamedLft) → List RattleType
captures R a b c d e f = (shr_ref_field a (param 0 R) tt).row ∷ (shr_ref_field b Global.the_row tt).row ∷ (shr_ref_field c Config.the_row tt).row ∷ (shr_ref_field d (World.the_row NoRecorder.the_row NoRecorderRecorder.ghosts) tt).row ∷ Pass.the_row NoRecorder.the_row NoRecorderRecorder.ghosts ∷ (shr_ref_field e Work.the_row tt).row ∷ (shr_ref_field f u32-field.row tt).row ∷ []

taken : (name : List ℕ) (R : RattleType) (a b c d e f : NamedLft) → IsSync R → IsSend (TupleAt name (captures R a b c d e f))
taken name R a b c d e f shared =
    let T = type_at name (captures R a b c d e f) in
    recorded_send (field_at name (captures R a b c d e f)).row _ _ T.to_one
    (struct_send (Declared.shape T) (shr_send _ _ _ (param_sync 0 R shared), (shr_send _ _ _ alloc, (shr_send _ _ _ settings, (shr_send _ _ _ world, (pass, (shr_send _ _ _ asked, (search sendable, tt))))))))

pub join-asked-requires-send-F : goal.join-asked-requires-send-F
join-asked-requires-send-F g c = λ here κs within.
    let shared : IsSync g.row.R = search (rules, here.requires-raw) parts 8 in
    param_send 1 _ (arg_send _ no _ (taken _ _ _ _ _ _ _ _ shared))

pub join-asked-requires-send-A : goal.join-asked-requires-send-A
join-asked-requires-send-A g c = λ here κs within. search (pass, answer.the_send, Crossing.crosses, sendable) depth 60 fits 20000
