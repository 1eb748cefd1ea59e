-- Laws of bits laid over a buffer: none laid, laid in two parts, and laid twice.
use Rattle.std.proofs.Common.{◌≡◌, ℕ, ◌+◌, ◌-◌, ◌*◌, ◌/◌, ◌%◌, ◌<◌, ◌≤◌, Bool, false, List, [], ◌++◌, length, get_or, bit_xor, sym, ◌∙◌, zero-add, arith}
use Rattle.std.specs.Int.Bits.{xor_assoc, xor_self, xor_zero_r}
use Rattle.std.proofs.lemmas.List.FromFn.{length-map-range_with_len, get_or-map-range_with_len}
use Rattle.std.proofs.lemmas.List.{get_or_past, get_or_append_left, get_or-append_right, ext_get_or}
use Rattle.std.proofs.lemmas.Bool.Decides.{nat_tests}
use Rattle.std.proofs.lemmas.Bool.{le-leb, lt-leb}
use Rattle.keystream.specs.Bits.{◌⊕◌, bit_at, byte_of}
use Rattle.keystream.specs.Span.{laid, sealed}
use Rattle.keystream.proofs.Bytes.{byte_of_same, byte_of_zeros, byte_of_xor, bit_of_byte, xor_bit}

pub laid_before : (first : ℕ) (bits : List Bool) (i : ℕ) → i < first → laid first bits i ≡ false
laid_before first bits i h = rw (lt-leb first i h)

pub laid_at : (first : ℕ) (bits : List Bool) (i : ℕ) → first ≤ i → laid first bits i ≡ get_or bits (i - first) false
laid_at first bits i h = rw (le-leb first i h)

pub laid_past : (first : ℕ) (bits : List Bool) (i : ℕ) → first + length bits ≤ i → laid first bits i ≡ false
laid_past first bits i h = laid_at first bits i (omega arith) ∙ get_or_past bits (i - first) false (omega arith)

laid-append : (first : ℕ) (xs ys : List Bool) (i : ℕ) → laid first (xs ++ ys) i ≡ laid first xs i ⊕ laid (first + length xs) ys i
laid-append first xs ys i = grind (arith, nat_tests, get_or_past, get_or_append_left, get_or-append_right)

none_laid : (first i : ℕ) → laid first [] i ≡ false
none_laid first i = grind (arith, nat_tests)

pub sealed_length : (buffer : List ℕ) (first : ℕ) (bits : List Bool) → length (sealed buffer first bits) ≡ length buffer
unfolding sealed
sealed_length buffer first bits = length-map-range_with_len _ 0 (length buffer)

-- byte j of a sealed buffer
pub sealed_at
    : (buffer : List ℕ) (first : ℕ) (bits : List Bool) (j : ℕ) → j < length buffer
    → get_or (sealed buffer first bits) j 0 ≡ bit_xor (get_or buffer j 0) (byte_of (λ k. laid first bits (8 * j + k)))
unfolding sealed
sealed_at buffer first bits j h = get_or-map-range_with_len _ 0 (length buffer) j j 0 h (zero-add j)

-- a byte that no bit lies over
pub sealed_clear
    : (buffer : List ℕ) (first : ℕ) (bits : List Bool) (j : ℕ) → j < length buffer
    → ((k : ℕ) → k < 8 → laid first bits (8 * j + k) ≡ false) → get_or (sealed buffer first bits) j 0 ≡ get_or buffer j 0
sealed_clear buffer first bits j h clear =
    rw (sealed_at buffer first bits j h, byte_of_same _ (λ k. false) clear, byte_of_zeros) (xor_zero_r (get_or buffer j 0))

pub sealed_none : (buffer : List ℕ) (first : ℕ) → sealed buffer first [] ≡ buffer
sealed_none buffer first =
    let long = sealed_length buffer first [] in
    ext_get_or 0 (sealed buffer first []) buffer long
    (λ j l. sealed_clear buffer first [] j (omega arith) (λ k o. none_laid first (8 * j + k)))

-- bits laid in two parts, the second where the first ends
pub sealed-append
    : (buffer : List ℕ) (first : ℕ) (xs ys : List Bool)
    → sealed (sealed buffer first xs) (first + length xs) ys ≡ sealed buffer first (xs ++ ys)
sealed-append buffer first xs ys =
    let once = sealed buffer first xs in
    let next = first + length xs in
    let long = sealed_length buffer first xs in
    let longer = sealed_length once next ys in
    ext_get_or 0 (sealed once next ys) (sealed buffer first (xs ++ ys))
    (longer ∙ long ∙ sym (sealed_length buffer first (xs ++ ys)))
    (λ j l.
    let h : j < length buffer = omega arith in
    let both = byte_of_same _ _ (λ k o. sym (laid-append first xs ys (8 * j + k))) in
    rw (sealed_at once next ys j (omega arith), sealed_at buffer first xs j h, sealed_at buffer first (xs ++ ys) j h, xor_assoc, byte_of_xor, both))

-- the same bits laid twice
pub sealed_twice : (buffer : List ℕ) (first : ℕ) (bits : List Bool) → sealed (sealed buffer first bits) first bits ≡ buffer
sealed_twice buffer first bits =
    let once = sealed buffer first bits in
    let long = sealed_length buffer first bits in
    let longer = sealed_length once first bits in
    ext_get_or 0 (sealed once first bits) buffer (longer ∙ long)
    (λ j l. rw (sealed_at once first bits j (omega arith), sealed_at buffer first bits j (omega arith), xor_assoc, xor_self) (xor_zero_r (get_or buffer j 0)))

-- each bit of a sealed buffer is the bit that was there XOR the bit that lies over it
pub sealed_bit
    : (buffer : List ℕ) (first : ℕ) (bits : List Bool) (i : ℕ) → i < 8 * length buffer
    → bit_at (sealed buffer first bits) i ≡ bit_at buffer i ⊕ laid first bits i
sealed_bit buffer first bits i h =
    let j = i / 8 in
    let d = 7 - i % 8 in
    let f : ℕ → Bool = λ k. laid first bits (8 * j + k) in
    let at : 8 * j + i % 8 ≡ i = omega arith in
    rw (sealed_at buffer first bits j (omega arith), xor_bit (get_or buffer j 0) (byte_of f) d, bit_of_byte f (i % 8) (omega arith), at)
