use Rattle.std.proofs.Common.{[], ◌∷◌, sym, ap, ◌∙◌}
use Rattle.std.specs.Prelude.{codes}
use Rattle.copymgr.proofs.Spelled.{only-word, two-words}
use Rattle.copymgr.proofs.order.order_of.Goals as goal

pub returns-in-len1-clause-known : goal.returns-in-len1-clause-known
returns-in-len1-clause-known c = (
  tt,
  only-word c.args.words.now c.word-item.result _ c.eq.result c.in-len1.len_at_least c.in-len1.len_below c.word-item.is
      (rw (← c.as_slice.ensures, ← c.as_slice-then-words-lt2.ensures) c.eq.ensures) c.if-eq.true,
)

pub returns-in-len1-2-clause-known : goal.returns-in-len1-2-clause-known
returns-in-len1-2-clause-known c = (
  tt,
  only-word c.args.words.now c.word-item-then-words-lt2.result _ c.eq-then-words-lt2.result c.in-len1.len_at_least c.in-len1.len_below c.word-item-then-words-lt2.is
      (rw (← c.as_slice-then-words-lt2-2.ensures, ← c.as_slice-then-words-lt2-3.ensures) c.eq-then-words-lt2.ensures) c.if-eq-2.true,
)

pub returns-in-len1-3-clause-known : goal.returns-in-len1-3-clause-known
returns-in-len1-3-clause-known c = (
  tt,
  only-word c.args.words.now c.word-item-then-words-lt2-2.result _ c.eq-then-words-lt2-2.result c.in-len1.len_at_least c.in-len1.len_below c.word-item-then-words-lt2-2.is
      (rw (← c.as_slice-then-words-lt2-4.ensures, ← c.as_slice-then-words-lt2-5.ensures) c.eq-then-words-lt2-2.ensures) c.if-eq-3.true,
)

pub returns-in_ok-rounds-in-len2-clause-known : goal.returns-in_ok-rounds-in-len2-clause-known
returns-in_ok-rounds-in-len2-clause-known c =
    let spelled = c.in_ok-rounds-in-len2.ensures.spelled in (
      spelled.0,
      two-words c.args.words.now c.word-item-then-words-lt3.result c.number-item.result _ c.eq-then-words-lt3.result c.in-len2.len_at_least c.in-len2.len_below
          c.word-item-then-words-lt3.is c.number-item.is
          (rw (← c.as_slice-then-words-lt3.ensures, ← c.as_slice-then-words-lt3-2.ensures) c.eq-then-words-lt3.ensures) c.if-eq-4.true
          ∙ ap (λ w. codes "gen" ∷ w ∷ []) (sym c.as_slice-in-len2.ensures ∙ spelled.1),
    )
