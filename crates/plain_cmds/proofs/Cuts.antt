-- The blocks that some bytes are cut into
use Rattle.std.proofs.Common.{◌≡◌, ℕ, zero, suc, ◌*◌, ◌/◌, ◌<◌, ◌≤◌, List, drop, length, refl, ap, true}
use Rattle.std.specs.Prelude.{is_some}
use Rattle.std.specs.List.{list_all}
use Rattle.std.proofs.Math.Nat.{div-eq_of_eq-mul_left}
use Rattle.std.proofs.Common.{sym, ◌∙◌}
use Rattle.std.proofs.lemmas.Bool.{eq-eqb, le-leb}
use Rattle.std.specs.Prelude.{◌==◌, nat_le}
use Rattle.cm_base.specs.Configuration.{Configuration}
use Rattle.cm_base.specs.Units.{unit_of}
use Rattle.cm_history.specs.declared.act.Act.{Act}
use Rattle.cm_history.specs.Limits.{within_limits}
use Rattle.cmd_program.specs.SingleActs.{act_alone, blocks_in}
use Rattle.lba_ranges.specs.HeldBlocks.{HeldBlocks, cut_into}
use Rattle.lba_ranges.proofs.PublicLaws.{length-cut, mapped-cut as cut-mapped}

pub count-of : (size n all : ℕ) → 0 < size → all ≡ n * size → all / size ≡ n
count-of size n all some is = div-eq_of_eq-mul_left some is

-- ---- a WRITE of the blocks that its data is cut into

pub write-program : (unit lba count size : ℕ) (out : List ℕ) (list : HeldBlocks) → 0 < size → length out ≡ count * size
    → list ≡ record { block_length = size; items = cut_into size count out } → act_alone unit (Act.Write lba list) ≡ act_alone unit (Act.Write lba (blocks_in size out))
write-program unit lba count size out list some is blocks =
    let counted = count-of size count (length out) some is in
    let same : list ≡ blocks_in size out = blocks ∙ ap (λ n. record { block_length = size; items = cut_into size n out }) (sym counted) in
    ap (λ l. act_alone unit (Act.Write lba l)) same

pub write-limits : (config : Configuration) (unit lba count size : ℕ) (out : List ℕ) (list : HeldBlocks) → count ≤ 2048
    → (unit_of config unit).block_length ≡ size → list ≡ record { block_length = size; items = cut_into size count out }
    → within_limits config unit (Act.Write lba list) ≡ true
write-limits config unit lba count size out list few told blocks =
    let long : length list.items ≡ count = ap (λ (l : HeldBlocks). length l.items) blocks ∙ length-cut size count out in
    let short : nat_le (length list.items) 2048 ≡ true = ap (λ n. nat_le n 2048) long ∙ le-leb count 2048 few in
    let mapped : list_all is_some list.items ≡ true = ap (λ (l : HeldBlocks). list_all is_some l.items) blocks ∙ cut-mapped size count out in
    let fits : (list.block_length == (unit_of config unit).block_length) ≡ true =
    eq-eqb _ _ (ap (λ (l : HeldBlocks). l.block_length) blocks ∙ sym told) in
    rw (short, mapped, fits) refl
