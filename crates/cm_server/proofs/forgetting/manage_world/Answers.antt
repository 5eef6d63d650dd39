use Rattle.std.proofs.Common.{◌∙◌, List, [], ◌∷◌, refl, None, false}
use Rattle.std.specs.Prelude.{map}
use Rattle.std.proofs.lemmas.List.{length-map}
use Rattle.cm_history.proofs.PublicLaws.{Each}
use Rattle.cm_server.specs.declared.forgetting.Forgetting.{Forgetting}
use Rattle.cm_server.specs.declared.term.Term.{Term}
use Rattle.cm_server.proofs.Folds.{IsForgetting}
use Rattle.cm_server.proofs.Left.{begun-first, begun-opened, closed-forgot, if-reported, told-forgot}
use Rattle.cm_server.proofs.Ran.{told-unless}
use Rattle.cm_server.specs.inner.Opened.{new_units}
use Rattle.unit_gate.specs.declared.kin.RecorderFacts.{RecorderFacts}
use Rattle.cm_server.proofs.forgetting.manage_world.Goals as goal

-- what contracts see of each
abbrev fact : Forgetting → RecorderFacts
fact r = record { recorded = None; faults = 0; absent = false; front = None }

all-forget : (rs : List Forgetting) → Each IsForgetting (map fact rs)
all-forget [] = tt
all-forget (r ∷ rs) = (record { present = refl; sound = refl }, all-forget rs)

pub serve_world-left-requires-clause-opened : goal.serve_world-left-requires-clause-opened
serve_world-left-requires-clause-opened g c κs within =
    let items = c.in-Ok.recorders.items in
    let all = map fact items in
    (new_units all, begun-opened c.args.config all _ _ c.in-Ok-with.ensures.begun (length-map items fact ∙ c.in-Ok.ensures ∙ c.units.ensures.count))

pub returns-clause-managed : goal.returns-clause-managed
returns-clause-managed g c =
    let items = c.in-Ok.recorders.items in
    let all = map fact items in
    let begun = begun-opened c.args.config all _ _ c.in-Ok-with.ensures.begun (length-map items fact ∙ c.in-Ok.ensures ∙ c.units.ensures.count) in
    let left = c.serve_world-left.result in
    told-unless left.ran.end c.tell.result _ _ c.tell.ensures.wanted (c.serve_world-left.ensures.served (new_units all) begun)
    (λ p. if-reported c.tell.result _ _
    (λ told. told-forgot c.args.config (g.C.Clock.shows c.args.clock) _ _ _ _ p.0 left.units.items 4_294_967_038 c.tell.result _ _
    (closed-forgot _ _ c.args.config (g.C.Clock.shows c.args.clock) _ _ _ _ p.0 left.units.items (λ r. refl) all _ (all-forget items)
    (begun-first c.args.config all _ _ c.in-Ok-with.ensures.begun) p.2) told)
    (c.tell.ensures.told Term.Open 4_294_967_038 p.0 p.1))

pub returns-clause-accept : goal.returns-clause-accept
returns-clause-accept g c = c.tell.ensures.accept _ _ c.serve_world-left.ensures.failed
