use Rattle.std.proofs.Common.{◌≤◌, arith}
use Rattle.lba_ranges.specs.Denoted.{total}
use Rattle.odx_host.proofs.Ranges.{slice-apart, legal-ranges}
use Rattle.odx_host.proofs.copying.Host.next_list.Goals as goal

pub returns-clause-legal : goal.returns-clause-legal
returns-clause-legal c =
    let blocks = c.in_ok-ranges.ensures.blocks in
    let run = c.in_ok-ranges.ensures.run in
    let within = run.within in
    let few : total c.in_ok-ranges.ranges ≤ 1_048_576 = omega (arith, within, c.requires.begun, c.requires.some, c.requires.few, c.place-place.ensures.place) in
    legal-ranges c.in_ok-ranges.ranges (slice-apart c.args.self.now.to.extents c.in_ok-ranges.ranges _ _ c.requires.targets.apart blocks) few
