use Rattle.std.proofs.Common.{◌≡◌, ◌∙◌, ap, length, arith, rules}
use Rattle.lun_plain.proofs.PlainLemmas.{count_between}
use Rattle.lun_plain.proofs.map.stored_in.Goals as goal

pub returns : goal.returns
returns c =
    let all : c.count.result ≡ length c.range.result = search rules in
    all ∙ ap length (c.range.ensures.between tt) ∙ count_between c.args.lba c.args.count _ c.args.map.now.entries (omega arith) c.range.ensures.ordered
