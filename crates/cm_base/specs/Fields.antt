-- Numbers and bits in lists of bytes
use Rattle.std.specs.Prelude.{ℕ, suc, ◌-◌, ◌/◌, ◌%◌, ◌^◌, ◌<◌, ◌==◌, ◌&&◌, List, ◌++◌, length, take, drop, replicate, slice_index, All, Bool, nat_le, if◌then◌else◌}
use Rattle.byteorder.specs.Endian.{big_from, big_bytes}

-- the byte at a place; the first byte stands at place 0
abbrev pub byte : List ℕ → ℕ → ℕ
byte bytes place = slice_index bytes place

-- the number in bytes `first`..`last`
abbrev pub field : List ℕ → ℕ → ℕ → ℕ
field bytes first last = big_from first (suc last - first) bytes

-- the number in bits `high`..`low` of the byte at a place
abbrev pub bits : List ℕ → ℕ → ℕ → ℕ → ℕ
bits bytes place high low = slice_index bytes place / 2 ^ low % 2 ^ (suc high - low)

-- this bit of the byte at a place is set
abbrev pub bit : List ℕ → ℕ → ℕ → Bool
bit bytes place number = bits bytes place number number == 1

-- `n` bytes of zero
abbrev pub zeros : ℕ → List ℕ
zeros n = replicate n 0

-- 1 where it holds
abbrev pub flag : Bool → ℕ
flag holds = if holds then 1 else 0

-- the bytes, and before them their number in four bytes
abbrev pub counted : List ℕ → List ℕ
counted bytes = big_bytes 4 (length bytes) ++ bytes

-- `n` bytes from a place on
abbrev pub part : ℕ → ℕ → List ℕ → List ℕ
part place n bytes = take n (drop place bytes)

-- the number is one of low to high
abbrev pub is_between : ℕ → ℕ → ℕ → Bool
is_between low high n = nat_le low n && nat_le n high

-- each number is that of a byte
abbrev pub AreBytes : List ℕ → Type 0
AreBytes bytes = All (λ b. b < 256) bytes
