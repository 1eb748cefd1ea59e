-- Bits of byte strings. Bit 0 is the most significant bit of the first byte.
--
--   a ⊕ b             XOR: the two differ
--   bit_at bytes i    bit i of a byte string: bit 7 − (i mod 8) of byte ⌊i / 8⌋; false past its end
--   first_bits n bytes  the first n bits, as a list
--   as_number bits    a list of bits as one number, the first bit most significant
--   bits_of n x       the lowest n bits of a number, the most significant of them first
--   byte_of f         the byte whose bits 0 to 7 are f 0 to f 7
--
-- From the library: range_with_len a n is the list a, a + 1, .. of n numbers; slice_index xs i is element i, or 0 past the end,
-- and slice_index_or xs i d is it, or d past the end;
-- beq tests Booleans, and nat_eq (also written ==), nat_lt and nat_le test =, < and ≤.
use Rattle.std.specs.Prelude.{ℕ, ◌+◌, ◌-◌, ◌*◌, ◌/◌, ◌%◌, ◌^◌, Bool, if◌then◌else◌, not, List, [], ◌∷◌, map, length, ◌==◌, nat_eq, slice_index}
use Rattle.std.specs.Bool.{beq}
use Rattle.std.specs.List.{range_with_len}

infixl 60 ◌⊕◌
abbrev pub ◌⊕◌ : Bool → Bool → Bool
a ⊕ b = not (beq a b)

abbrev pub bit_at : List ℕ → ℕ → Bool
bit_at bytes i = slice_index bytes (i / 8) / 2 ^ (7 - i % 8) % 2 == 1

unfoldable pub first_bits : ℕ → List ℕ → List Bool
first_bits n bytes = map (bit_at bytes) (range_with_len 0 n)

abbrev pub as_number : List Bool → ℕ
as_number [] = 0
as_number (b ∷ bits) = (if b then 1 else 0) * 2 ^ length bits + as_number bits

unfoldable pub bits_of : ℕ → ℕ → List Bool
bits_of n x = map (λ i. nat_eq (x / 2 ^ (n - 1 - i) % 2) 1) (range_with_len 0 n)

unfoldable pub byte_of : (ℕ → Bool) → ℕ
byte_of f = as_number (map f (range_with_len 0 8))
