-- A keystream applied to a span of bits of a buffer.
--
--   laid first bits i         the bit that lies over bit i when these bits are laid over a buffer from bit `first` on; false where none does
--   sealed buffer first bits  the whole buffer, each byte XOR the bits that lie over it
--   apply_answer, apply_buffer, apply_after  what applying the next n keystream bits answers, and the buffer and the generator after it
use Rattle.std.specs.Prelude.{ℕ, ◌+◌, ◌-◌, ◌*◌, Bool, false, if◌then◌else◌, List, map, length, Result, is_ok, bit_xor, nat_le, slice_index, slice_index_or}
use Rattle.std.specs.List.{range_with_len}
use Rattle.keystream.specs.declared.fault.SpanFault.{SpanFault}
use Rattle.keystream.specs.Bits.{byte_of}
use Rattle.keystream.specs.Meaning.{Meaning, Meant, keystream, moved}
use Rattle.keystream.specs.Refusals.{answered, span_refusals}

abbrev pub laid : ℕ → List Bool → ℕ → Bool
laid first bits i = if nat_le first i then slice_index_or bits (i - first) false else false

unfoldable pub sealed : List ℕ → ℕ → List Bool → List ℕ
sealed buffer first bits =
    map (λ j. bit_xor (slice_index buffer j) (byte_of (λ k. laid first bits (8 * j + k)))) (range_with_len 0 (length buffer))

abbrev pub apply_answer : Meaning → Meant → List ℕ → ℕ → ℕ → Result (Unit {0}) SpanFault
apply_answer m s buffer first n = answered (span_refusals m s (length buffer) first n) tt

abbrev pub apply_buffer : Meaning → Meant → List ℕ → ℕ → ℕ → List ℕ
apply_buffer m s buffer first n =
    if is_ok (apply_answer m s buffer first n) then sealed buffer first (keystream m s n) else buffer

abbrev pub apply_after : Meaning → Meant → List ℕ → ℕ → ℕ → Meant
apply_after m s buffer first n = if is_ok (apply_answer m s buffer first n) then moved s n else s
