use Rattle.std.proofs.Common.{◌∙◌, sym}
use Rattle.cm_server.proofs.Words.{three-words, same-bytes, asked-of}
use Rattle.cm_server.proofs.asking.words.sessions_of.Goals as goal

pub returns-in-len3-clause-asked : goal.returns-in-len3-clause-asked
returns-in-len3-clause-asked c =
    asked-of c.number.result c.args.words.now c.args.verb.now c.word-item.result c.address-item.result c.number-item.result
    (three-words c.args.words.now c.word-item.result c.address-item.result c.number-item.result c.in-len3.len_at_least c.in-len3.len_below
    c.word-item.is c.address-item.is c.number-item.is)
    (sym c.as_slice.ensures ∙ same-bytes c.as_slice.result.now c.args.verb.now c.eq.result c.eq.ensures c.if-eq.true)
    (c.is_plain.ensures.plain c.if-is_plain.true) c.number.ensures.spelled
