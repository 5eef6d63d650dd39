use Rattle.std.proofs.Common.{◌≡◌, ◌-◌, ◌≤◌, ◌∙◌, ap, sym, arith, length, take, drop}
use Rattle.std.proofs.Math.Seq.{take-length}
use Rattle.std.proofs.lemmas.List.{length-drop}
use Rattle.std.proofs.lemmas.Result.{err_from_is_err_and}
use Rattle.cm_base.specs.Fields.{field}
use Rattle.trace_check.proofs.Checking.{judged-fault}
use Rattle.trace_check.proofs.checker.judge.Goals as goal

pub returns-in_err-replies : goal.returns-in_err-replies
returns-in_err-replies c =
    let p = err_from_is_err_and c.from_residual.result c.from_residual.ensures.1 in
    let bytes = c.args.bytes.now in
    let n = c.get_u64-length.result in
    let behind : take (length bytes - 8) (drop 8 bytes) ≡ drop 8 bytes =
    ap (λ k. take k (drop 8 bytes)) (sym (length-drop 8 bytes)) ∙ take-length (drop 8 bytes) in
    let told : n ≡ field bytes 0 7 = c.get_u64-length.ensures in
    let within : field bytes 0 7 ≤ length (drop 8 bytes) = omega (arith, c.if-behind-length.false, told, ap length behind) in
    rw (p.1, p.2) (judged-fault bytes _ c.in_err-replies.field-0.0 (omega (arith, c.if-bytes-lt-LENGTH.false))
    (omega (arith, c.if-length-gt-TRACE_LIMIT.false, told)) within
    (c.split_at.ensures.front ∙ ap (take n) behind ∙ ap (λ k. take k (drop 8 bytes)) told) c.in_err-replies.ensures)
