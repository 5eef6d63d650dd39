-- The data of a frame that is there keeps its limit
use Rattle.std.proofs.Common.{◌≡◌, ℕ, ◌+◌, ◌-◌, ◌<◌, ◌≤◌, List, length, take, drop, slice_index, ap, sym, subst, ◌∙◌, arith}
use Rattle.cm_base.specs.Fields.{part}
use Rattle.cm_base.proofs.PublicLaws.{bytes-from_places, bytes-part, length-part}
use Rattle.cm_frame.specs.Grammar.{data_limit, IsData}

pub data-fits : (place count : ℕ) (bytes taken : List ℕ) → ((k : ℕ) → slice_index bytes k < 256) → place + count ≤ length bytes → count ≤ data_limit
    → taken ≡ take (place + count - place) (drop place bytes) → IsData taken
data-fits place count bytes taken small there limit is =
    let cut : place + count - place ≡ count = omega arith in
    let same : taken ≡ part place count bytes = is ∙ ap (λ k. take k (drop place bytes)) cut in
    let len : length (part place count bytes) ≡ count = length-part place count bytes there in
    subst IsData (sym same) (omega (arith, len), bytes-part place count bytes (bytes-from_places bytes small))
