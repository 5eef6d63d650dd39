-- Numbers and names that fit their fields, as the types of a list hold them
use Rattle.std.specs.Prelude.{◌≡◌, ◌<◌, ◌^◌, length, IfSome}
use Rattle.seg_parse.specs.declared.list.Cscd.{Cscd}
use Rattle.seg_parse.specs.declared.list.Segment.{Segment}

-- a name has eight bytes
abbrev pub IsSized : Cscd → Type 0
IsSized c = IfSome c.name (λ name. length name ≡ 8)

pub record IsWide (s : Segment) : Type 0 where
  pub source : s.source < 2 ^ 16
  pub destination : s.destination < 2 ^ 16
  pub count : s.count < 2 ^ 16
  pub from : s.from < 2 ^ 64
  pub to : s.to < 2 ^ 64
