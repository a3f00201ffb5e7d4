-- 32-bit FNV-1a.
use Rattle.std.specs.Prelude.{ℕ, ◌*◌, ◌%◌, ◌^◌, List, [], ◌∷◌}
use Rattle.std.specs.Int.Bits.{bit_xor}

-- one byte more: exclusive or with the byte, then times 01000193 modulo 2^32
unfoldable pub summed : ℕ → ℕ → ℕ
summed sum byte = bit_xor sum byte * 0x01000193 % 2 ^ 32

unfoldable pub sum_from : ℕ → List ℕ → ℕ
sum_from sum [] = sum
sum_from sum (b ∷ l) = sum_from (summed sum b) l

-- from 811c9dc5 on, for each byte
unfoldable pub checksum_of : List ℕ → ℕ
checksum_of l = sum_from 0x811c9dc5 l
