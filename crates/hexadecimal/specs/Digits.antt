-- Byte strings as hexadecimal text.
--
--   hex_digit d    the character of a digit: '0' to '9', then 'a' to 'f'
--   hex_text bytes two digits to a byte
--   ByteString     numbers below 256
use Rattle.std.specs.Prelude.{ℕ, ◌+◌, ◌-◌, ◌/◌, ◌%◌, ◌<◌, if◌then◌else◌, List, [], ◌∷◌, nat_lt, slice_index}

abbrev pub hex_digit : ℕ → ℕ
hex_digit d = if nat_lt d 10 then 48 + d else 97 + (d - 10)

abbrev pub hex_text : List ℕ → List ℕ
hex_text [] = []
hex_text (byte ∷ bytes) = hex_digit (byte / 16) ∷ hex_digit (byte % 16) ∷ hex_text bytes

abbrev pub ByteString : List ℕ → Type 0
ByteString bytes = (i : ℕ) → slice_index bytes i < 256
