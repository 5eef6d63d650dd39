use Rattle.std.proofs.Common.{All, subst, ◌≡◌, ◌+◌, ◌-◌, ◌<◌, [], ◌∷◌, ◌∙◌, ap, sym, suc, length, length-append, arith, rules, tests}
use Rattle.std.proofs.lemmas.List.Elements.{All-push, All-nil}
use Rattle.seg_parse.specs.CopyLists.{IsSegment}
use Rattle.std.proofs.lemmas.Result.{err_from_is_err_and}
use Rattle.seg_parse.specs.Descriptors.{segments_read}
use Rattle.seg_parse.proofs.Preceded.{preceded, preceded-none, segments-more, segments-refused}
use Rattle.seg_parse.proofs.reading.read_segments.Goals as goal

pub loop-rest-init : goal.loop-rest-init
loop-rest-init c =
    let cscds = c.args.cscds in
    let bytes = c.args.bytes.now in
    let none = c.empty-segments.ensures in
    record {
      read = sym (preceded-none (segments_read cscds 64 bytes))
          ∙ ap (λ s. preceded s (segments_read cscds (64 - length s) bytes)) (sym none);
      bound = omega (arith, ap length none);
      within = subst (All (IsSegment cscds)) (sym none) (All-nil (IsSegment cscds));
      few = omega (arith, ap length none);
    }

pub returns-in_err-read_segment-clause-refused : goal.returns-in_err-read_segment-clause-refused
returns-in_err-read_segment-clause-refused c =
    let items = c.loop-rest.segments in
    let rest = c.loop-rest.rest.now in
    let some : 0 < length rest = search (rules, tests) in
    let fuel : 64 - length items ≡ suc (63 - length items) = omega (arith, some, c.loop-rest.invariant.few) in
    let refused = segments-refused (segments_read c.args.cscds 64 c.args.bytes.now) items c.args.cscds (64 - length items) (63 - length items) rest
    c.in_err-read_segment.field-0.0 c.loop-rest.invariant.read fuel some c.in_err-read_segment.ensures.fault in
    let p = err_from_is_err_and c.from_residual.result c.from_residual.ensures.1 in
    rw (p.1, p.2) refused

pub loop-rest-preserved : goal.loop-rest-preserved
loop-rest-preserved c =
    let items = c.loop-rest.segments in
    let more = c.push.new.self in
    let rest = c.loop-rest.rest.now in
    let told = c.in_ok-read_segment.ensures in
    let pushed = c.in_ok-push.ensures.ok in
    let longer : length more ≡ length items + 1 = ap length pushed ∙ length-append items (c.in_ok-read_segment.field-0 ∷ []) in
    let some : 0 < length rest = omega (arith, told.whole) in
    let fuel : 64 - length items ≡ suc (64 - length more) = omega (arith, some, longer, c.loop-rest.invariant.few) in
    record {
      read = segments-more (segments_read c.args.cscds 64 c.args.bytes.now) items more c.in_ok-read_segment.field-0 c.args.cscds
          (64 - length items) (64 - length more) rest c.split_at.result.1.now c.loop-rest.invariant.read fuel some told.sound told.read
          c.split_at.ensures.back pushed;
      bound = omega (arith, longer, some, c.loop-rest.invariant.few);
      within = subst (All (IsSegment c.args.cscds)) (sym pushed)
          (All-push (IsSegment c.args.cscds) items c.in_ok-read_segment.field-0 c.loop-rest.invariant.within told.within);
      few = omega (arith, longer, told.whole, c.loop-rest.invariant.few, c.split_at.ensures.back_len);
    }
