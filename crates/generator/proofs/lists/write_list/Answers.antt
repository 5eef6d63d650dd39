use Rattle.std.proofs.Common.{◌≡◌, ℕ, List, [], ◌∷◌, ◌++◌, true, false, ap₂, ◌∙◌}
use Rattle.std.proofs.lemmas.Result.{IfOk-weaker}
use Rattle.lba_ranges.specs.declared.ranges.Range.{Range}
use Rattle.block_params.specs.ListsWritten.{write_token_written}
use Rattle.rod_token.specs.TokenText.{token_text}
use Rattle.generator.specs.Settings.{settings}
use Rattle.generator.specs.Rounds.{write_list, target}
use Rattle.generator.proofs.lists.write_list.Goals as goal

-- the list of a token and some ranges
with_token : List ℕ → List Range → List ℕ
with_token token ranges =
    write_token_written (record { immed = true; delete = false; offset = 0; token = token; ranges = ranges })

pub returns : goal.returns
unfolding with_token
returns c =
    let round = c.args.round in
    let token : c.text.result ≡ token_text settings 0 round 8 =
    c.text.ensures ∙ ap₂ (λ config serial. token_text config 0 serial 8) c.requires c.from.ensures in
    let ranges : c.push.new.self ≡ target round ∷ [] =
    c.in_ok-push.ensures.ok ∙ ap₂ (λ (l : List Range) (range : Range). l ++ range ∷ []) c.empty-ranges.ensures c.target.ensures in
    IfOk-weaker c.write_write_token.result (λ l. l ≡ with_token c.text.result c.push.new.self) (λ l. l ≡ write_list round)
    (λ l is. is ∙ ap₂ with_token token ranges) c.write_write_token.ensures.written
