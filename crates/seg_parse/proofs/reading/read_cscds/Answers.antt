use Rattle.std.proofs.Common.{[], ap, ◌∷◌, All, subst, length-append, length, ◌+◌, ◌-◌, ◌∙◌, sym, arith}
use Rattle.std.proofs.lemmas.List.Elements.{All-push}
use Rattle.seg_parse.specs.CopyLists.{IsCscd}
use Rattle.std.proofs.lemmas.Result.{err_from_is_err_and}
use Rattle.seg_parse.specs.Descriptors.{cscds_read}
use Rattle.seg_parse.proofs.Preceded.{cscds-more, cscds-refused}
use Rattle.seg_parse.proofs.reading.read_cscds.Goals as goal

pub returns-in_err-read_cscd-clause-refused : goal.returns-in_err-read_cscd-clause-refused
returns-in_err-read_cscd-clause-refused c =
    let told = c.in_err-read_cscd.ensures in
    let refused = cscds-refused (cscds_read c.args.count c.args.bytes.now) c.loop.units (c.args.count - c.loop.counter) (c.args.count - (c.loop.counter + 1))
    c.loop.rest.now c.loop.invariant.read (omega arith) told.other in
    let p = err_from_is_err_and c.from_residual.result c.from_residual.ensures.1 in
    rw (p.1, p.2, told.unknown) refused

pub loop-preserved : goal.loop-preserved
loop-preserved c =
    let told = c.in_ok-read_cscd.ensures in
    let behind = c.split_at.ensures.back in
    record {
      read = cscds-more (cscds_read c.args.count c.args.bytes.now) c.loop.units c.push.new.self c.in_ok-read_cscd.field-0
          (c.args.count - c.loop.counter) (c.args.count - (c.loop.counter + 1)) c.loop.rest.now c.split_at.result.1.now
          c.loop.invariant.read (omega arith) told.known told.read behind c.in_ok-push.ensures.ok;
      count = ap length c.in_ok-push.ensures.ok ∙ length-append c.loop.units (c.in_ok-read_cscd.field-0 ∷ []) ∙ ap (λ n. n + 1) c.loop.invariant.count;
      fit = subst (All IsCscd) (sym c.in_ok-push.ensures.ok) (All-push IsCscd c.loop.units c.in_ok-read_cscd.field-0 c.loop.invariant.fit told.fits);
      whole = omega (arith, c.loop.invariant.whole, c.split_at.ensures.back_len);
    }
