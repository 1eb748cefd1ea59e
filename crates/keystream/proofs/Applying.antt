-- One more draw applied to a span, and the span applied twice.
use Rattle.std.proofs.Common.{◌≡◌, ℕ, ◌+◌, ◌*◌, ◌^◌, ◌<◌, ◌≤◌, List, length, Ok, arith}
use Rattle.std.proofs.lemmas.Bool.Decides.{nat_tests}
use Rattle.keystream.specs.Bits.{◌⊕◌, bit_at, as_number, bits_of}
use Rattle.keystream.specs.Meaning.{Meaning, Meant, left, keystream, moved}
use Rattle.keystream.specs.Calls.{take_answer}
use Rattle.keystream.specs.Span.{laid, sealed, apply_answer, apply_buffer}
use Rattle.keystream.proofs.Streams.{keystream_append, keystream_length, keystream_below, bits_of_keystream}
use Rattle.keystream.proofs.Sealing.{sealed_length, sealed-append, sealed_twice, sealed_bit}

-- a take of k bits that is accepted
module _ (m : Meaning) (s : Meant) (k word : ℕ) (took : Ok word ≡ take_answer m s k) where
  taken_within : k ≤ left m s
  taken_within = grind (arith, nat_tests)

  pub taken : word ≡ as_number (keystream m s k)
  taken = grind (arith, nat_tests)

  pub taken_below : word < 2 ^ k
  taken_below = rw taken (keystream_below m s k)

  taken_bits : bits_of k word ≡ keystream m s k
  taken_bits = rw taken (bits_of_keystream m s k taken_within)

-- the bits of such a take, laid after the first `done` of a span
pub taken_laid
    : (m m' : Meaning) (s s' : Meant) (buffer now : List ℕ) (first done k next place word : ℕ)
    → m' ≡ m → s' ≡ moved s done → now ≡ sealed buffer first (keystream m s done) → Ok word ≡ take_answer m' s' k
    → done ≤ left m s → done + k ≡ next → place ≡ first + done
    → sealed now place (bits_of k word) ≡ sealed buffer first (keystream m s next)
taken_laid m m' s s' buffer now first done k next place word same at so_far took within sum there =
    let drawn : Ok word ≡ take_answer m (moved s done) k = rw (same, at) at took in
    let from : place ≡ first + length (keystream m s done) = omega (arith, keystream_length m s done within) in
    rw (so_far, taken_bits m (moved s done) k word drawn, from, ← sum, keystream_append m s done k) (sealed-append buffer first _ _)

-- an accepted span
module _ (m : Meaning) (s : Meant) (buffer : List ℕ) (first n : ℕ) where
  pub apply_accepts : first + n ≤ 8 * length buffer → n ≤ left m s → apply_answer m s buffer first n ≡ Ok tt
  apply_accepts inside within = grind (arith, nat_tests)

  pub apply_seals : apply_answer m s buffer first n ≡ Ok tt → apply_buffer m s buffer first n ≡ sealed buffer first (keystream m s n)
  apply_seals e = rw (e, apply_buffer)

-- a span whose n bits are laid
module _ (m : Meaning) (s : Meant) (buffer after : List ℕ) (first n : ℕ) (whole : after ≡ sealed buffer first (keystream m s n)) where
  pub whole_bits : (i : ℕ) → i < 8 * length buffer → bit_at after i ≡ bit_at buffer i ⊕ laid first (keystream m s n) i
  whole_bits i h = rw whole (sealed_bit buffer first (keystream m s n) i h)

  -- applied once more from the same place, the buffer is back
  pub whole_twice : apply_answer m s buffer first n ≡ Ok tt → apply_buffer m s after first n ≡ buffer
  whole_twice e =
      let again : apply_answer m s after first n ≡ Ok tt = rw (whole, sealed_length buffer first (keystream m s n)) e in
      rw (apply_seals m s after first n again, whole) (sealed_twice buffer first (keystream m s n))
