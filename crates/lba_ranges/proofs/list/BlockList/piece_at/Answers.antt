use Rattle.std.proofs.Common.{◌≡◌, ap, arith, length}
use Rattle.lba_ranges.specs.inner.Runs.{Spans, pieces_of}
use Rattle.lba_ranges.specs.HeldBlocks.{HeldBlocks}
use Rattle.lba_ranges.specs.inner.HeldBlocks.{AllFull}
use Rattle.lba_ranges.proofs.Spanning.{Spans-rise, Spans-within, AllFull-at, stands-in, part-in_run, first-within}
use Rattle.lba_ranges.proofs.list.BlockList.piece_at.Goals as goal

pub first_after-requires : goal.first_after-requires
first_after-requires c = rw c.as_slice-runs.ensures (Spans-rise 0 c.self.inside.count c.self.inside.runs.items c.self.invariant.2)

pub bounds-runs-first_after : goal.bounds-runs-first_after
bounds-runs-first_after c =
    let runs = c.as_slice-runs.result.now in
    let spans : Spans 0 runs c.self.inside.count = rw c.as_slice-runs.ensures c.self.invariant.2 in
    let all : c.self.inside.count ≡ length c.args.self.now.items = rw (← c.self.view_is) c.self.invariant.0 in
    first-within c.self.inside.count runs c.args.index c.first_after.result spans c.first_after.ensures.first (omega (arith, all, c.requires))

pub place-requires-clause-from : goal.place-requires-clause-from
place-requires-clause-from c =
    let runs = c.as_slice-runs.result.now in
    let spans : Spans 0 runs c.self.inside.count = rw c.as_slice-runs.ensures c.self.invariant.2 in
    let all : c.self.inside.count ≡ length c.args.self.now.items = rw (← c.self.view_is) c.self.invariant.0 in
    let within = first-within c.self.inside.count runs c.args.index c.first_after.result spans c.first_after.ensures.first (omega (arith, all, c.requires)) in
    (stands-in _ runs c.args.index c.first_after.result c.index-runs-first_after.result spans c.first_after.ensures.first within c.index-runs-first_after.is).from

pub place-requires-clause-to : goal.place-requires-clause-to
place-requires-clause-to c =
    let runs = c.as_slice-runs.result.now in
    let spans : Spans 0 runs c.self.inside.count = rw c.as_slice-runs.ensures c.self.invariant.2 in
    let all : c.self.inside.count ≡ length c.args.self.now.items = rw (← c.self.view_is) c.self.invariant.0 in
    let within = first-within c.self.inside.count runs c.args.index c.first_after.result spans c.first_after.ensures.first (omega (arith, all, c.requires)) in
    (stands-in _ runs c.args.index c.first_after.result c.index-runs-first_after.result spans c.first_after.ensures.first within c.index-runs-first_after.is).to

pub returns-clause-place : goal.returns-clause-place
returns-clause-place c =
    let runs = c.as_slice-runs.result.now in
    let spans : Spans 0 runs c.self.inside.count = rw c.as_slice-runs.ensures c.self.invariant.2 in
    let all : c.self.inside.count ≡ length c.args.self.now.items = rw (← c.self.view_is) c.self.invariant.0 in
    let within = first-within c.self.inside.count runs c.args.index c.first_after.result spans c.first_after.ensures.first (omega (arith, all, c.requires)) in
    let stands = stands-in _ runs c.args.index c.first_after.result c.index-runs-first_after.result spans c.first_after.ensures.first within c.index-runs-first_after.is in
    omega (arith, stands.to, c.place.ensures)

pub returns-clause-full : goal.returns-clause-full
returns-clause-full c =
    let runs = c.as_slice-runs.result.now in
    let spans : Spans 0 runs c.self.inside.count = rw c.as_slice-runs.ensures c.self.invariant.2 in
    let all : c.self.inside.count ≡ length c.args.self.now.items = rw (← c.self.view_is) c.self.invariant.0 in
    let size : c.self.inside.block_length ≡ c.args.self.now.block_length = ap (λ (v : HeldBlocks). v.block_length) c.self.view_is in
    let within = first-within c.self.inside.count runs c.args.index c.first_after.result spans c.first_after.ensures.first (omega (arith, all, c.requires)) in
    let full : AllFull c.args.self.now.block_length (pieces_of runs) = rw (c.as_slice-runs.ensures, ← size) c.self.invariant.1 in
    AllFull-at _ runs _ _ full within c.index-runs-first_after.is

pub returns-clause-within : goal.returns-clause-within
returns-clause-within c =
    let runs = c.as_slice-runs.result.now in
    let spans : Spans 0 runs c.self.inside.count = rw c.as_slice-runs.ensures c.self.invariant.2 in
    let all : c.self.inside.count ≡ length c.args.self.now.items = rw (← c.self.view_is) c.self.invariant.0 in
    let within = first-within c.self.inside.count runs c.args.index c.first_after.result spans c.first_after.ensures.first (omega (arith, all, c.requires)) in
    let stands = stands-in _ runs c.args.index c.first_after.result c.index-runs-first_after.result spans c.first_after.ensures.first within c.index-runs-first_after.is in
    let ends = rw (← c.index-runs-first_after.is) at (Spans-within 0 c.self.inside.count runs c.first_after.result c.index-runs-first_after.result spans within) in
    omega (arith, all, ends, stands.to, c.place.ensures)

pub returns-clause-part : goal.returns-clause-part
returns-clause-part c count few =
    let runs = c.as_slice-runs.result.now in
    let spans : Spans 0 runs c.self.inside.count = rw c.as_slice-runs.ensures c.self.invariant.2 in
    let all : c.self.inside.count ≡ length c.args.self.now.items = rw (← c.self.view_is) c.self.invariant.0 in
    let within = first-within c.self.inside.count runs c.args.index c.first_after.result spans c.first_after.ensures.first (omega (arith, all, c.requires)) in
    let stands = stands-in _ runs c.args.index c.first_after.result c.index-runs-first_after.result spans c.first_after.ensures.first within c.index-runs-first_after.is in
    let part = part-in_run c.self.inside.block_length runs c.args.index c.first_after.result c.place.result count c.index-runs-first_after.result stands c.place.ensures few in
    rw (← c.self.view_is, ← c.as_slice-runs.ensures) part
