-- The pad kind. A pad is 1,024 bytes: 16 lines of 512 bits.
--
--   pad_kind                    the number of this kind
--   line_number variable        the line that is read: the variable's bits followed by zeros to four bits, the first most significant
--   pad_bit bytes key variable i  keystream bit i
--   pad_meaning bytes           what a pad of these bytes means
--   pad_answer bytes            whether a pad is made of them
--   key_of, variable_of         the key and the variable of the loaded part of a Pad
--   stream_meant                what the loaded part of a Pad means
--   meaning_of, meant_of        what a whole Pad means
use Rattle.std.specs.Prelude.{ℕ, ◌+◌, ◌-◌, ◌*◌, ◌%◌, Bool, false, List, [], ◌∷◌, ◌++◌, length, replicate, Some, None, Option, Result}
use Rattle.keystream.specs.declared.fault.PadFault.{PadFault}
use Rattle.keystream.specs.declared.pad.Pad.{Pad}
use Rattle.keystream.specs.declared.stream.Stream.{Stream}
use Rattle.keystream.specs.Bits.{◌⊕◌, bit_at, first_bits, as_number}
use Rattle.keystream.specs.Meaning.{Meaning, Meant, Key, Variable, idle, loaded}
use Rattle.keystream.specs.Refusals.{answered, pad_refusals}

abbrev pub pad_kind : ℕ
pad_kind = 2

abbrev pub line_number : Variable → ℕ
line_number variable = as_number (variable ++ replicate (4 - length variable) false)

abbrev pub pad_bit : List ℕ → Key → Variable → ℕ → Bool
pad_bit bytes key variable i = bit_at bytes (512 * line_number variable + i) ⊕ bit_at key (i % 8)

abbrev pub pad_meaning : List ℕ → Meaning
pad_meaning bytes = record { key_bits = 8; longest = 4; limit = 512; stream = pad_bit bytes }

abbrev pub pad_answer : List ℕ → Result (Unit {0}) PadFault
pad_answer bytes = answered (pad_refusals bytes) tt

abbrev pub meaning_of : Pad → Meaning
meaning_of pad = pad_meaning pad.bytes

abbrev pub key_of : Stream → Key
key_of s = s.key ∷ []

abbrev pub variable_of : Stream → Variable
variable_of s = first_bits s.count (s.variable ∷ [])

abbrev pub stream_meant : Option Stream → Meant
stream_meant None = idle
stream_meant (Some s) = loaded (key_of s) (variable_of s) s.place

abbrev pub meant_of : Pad → Meant
meant_of pad = stream_meant pad.stream
