use Rattle.std.proofs.Common.{◌∙◌, sym}
use Rattle.cm_server.proofs.Words.{three-words, same-bytes, manage-words}
use Rattle.cm_server.proofs.asking.words.ask_to_manage.Goals as goal

pub returns-in-len3-clause-asked : goal.returns-in-len3-clause-asked
returns-in-len3-clause-asked c = λ holds.
    manage-words c.args.words.now c.as_slice-then-words-lt4.result.now c.word-item.result c.address-item.result c.file-item.result
    (three-words c.args.words.now c.word-item.result c.address-item.result c.file-item.result c.in-len3.len_at_least c.in-len3.len_below
    c.word-item.is c.address-item.is c.file-item.is)
    (sym c.as_slice.ensures ∙ same-bytes c.as_slice.result.now c.as_slice-then-words-lt4.result.now c.eq.result c.eq.ensures c.if-eq.true) c.as_slice-then-words-lt4.ensures
    (c.is_plain.ensures.plain c.if-is_plain.true) (c.is_name.ensures.named holds)
