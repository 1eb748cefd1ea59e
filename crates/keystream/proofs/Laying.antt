-- A word of keystream moved to where its span begins, as the bits that lie over each byte.
use Rattle.std.proofs.Common.{◌≡◌, ℕ, ◌+◌, ◌-◌, ◌*◌, ◌/◌, ◌%◌, ◌^◌, ◌<◌, ◌≤◌, min, Bool, false, eqb, List, [], ◌∷◌, ◌++◌, map, length, get_or, take, drop, bit_xor, sym, ◌∙◌, inl, inr, zero-add, add-zero, rules, arith}
use Rattle.std.specs.List.{range_with_len}
use Rattle.std.proofs.lemmas.Nat.{pow_pos, shr-shr}
use Rattle.std.proofs.lemmas.Nat.Bits.{bit_at-zero, bit_at_above, bit_at_cat_low, bit_at_cat_high}
use Rattle.std.proofs.lemmas.List.FromFn.{length-map-range_with_len, get_or-map-range_with_len}
use Rattle.std.proofs.lemmas.List.{ext_get_or, get_or_append_left, places}
use Rattle.std.proofs.lemmas.Bool.{cases_lt}
use Rattle.keystream.specs.Bits.{byte_of, bits_of}
use Rattle.keystream.specs.Span.{laid, sealed}
use Rattle.keystream.proofs.Bytes.{low_byte, byte_of_same}
use Rattle.keystream.proofs.Sealing.{laid_before, laid_at, laid_past, sealed_length, sealed_at, sealed_clear}

bits_of_length : (n x : ℕ) → length (bits_of n x) ≡ n
unfolding bits_of
bits_of_length n x = length-map-range_with_len _ 0 n

bits_of_at : (n x k : ℕ) → k < n → get_or (bits_of n x) k false ≡ eqb (x / 2 ^ (n - 1 - k) % 2) 1
unfolding bits_of
bits_of_at n x k h = get_or-map-range_with_len _ 0 n k k false h (zero-add k)

-- bit d of a number moved up by s
moved_bit : (x s d : ℕ) → s ≤ d → x * 2 ^ s / 2 ^ d % 2 ≡ x / 2 ^ (d - s) % 2
moved_bit x s d h = rw (← add-zero (x * 2 ^ s)) (bit_at_cat_high x s 0 d (pow_pos s) h)

no_bit : (x s d : ℕ) → d < s → x * 2 ^ s / 2 ^ d % 2 ≡ 0
no_bit x s d h = rw (← add-zero (x * 2 ^ s)) (bit_at_cat_low x s 0 d h ∙ bit_at-zero d)

-- the bytes of a number of 128 bits
abbrev pub bytes_of : ℕ → List ℕ
bytes_of x = map (λ b. x / 2 ^ (120 - 8 * b) % 256) (range_with_len 0 15) ++ (x % 256 ∷ [])

bytes_at : (x b : ℕ) → b < 15 → get_or (bytes_of x) b 0 ≡ x / 2 ^ (120 - 8 * b) % 256
bytes_at x b h =
    let f : ℕ → ℕ = λ b. x / 2 ^ (120 - 8 * b) % 256 in
    get_or_append_left (map f (range_with_len 0 15)) (x % 256 ∷ []) 0 b (omega (arith, length-map-range_with_len f 0 15))
    ∙ get_or-map-range_with_len f 0 15 b b 0 h (zero-add b)

-- 128 bits that hold a word of `count` bits from bit r on
abbrev pub held : ℕ → ℕ → ℕ → ℕ
held word count r = word * 2 ^ (128 - r - count)

-- those bits laid from bit 8 * from of a buffer on
module _ (word count r from : ℕ) (w : word < 2 ^ count) (l : r + count ≤ 128) where
  abbrev mask : ℕ
  mask = held word count r

  abbrev bits : List Bool
  bits = bits_of count word

  -- the bit over bit i
  held_bit : (i high low : ℕ) → 8 * from ≤ i → i + (high + low) ≡ 8 * from + 127 → eqb (mask / 2 ^ high / 2 ^ low % 2) 1 ≡ laid (8 * from + r) bits i
  held_bit i high low start e =
      let s = 128 - r - count in
      let d = high + low in
      let first = 8 * from + r in
      let long = bits_of_length count word in
      rw (shr-shr mask high low)
      (elim (cases_lt i first) [
        | inl g ↦ rw (moved_bit word s d (omega arith), bit_at_above word count (d - s) w (omega arith), laid_before first bits i g)
        | inr g ↦
            elim (cases_lt i (first + count)) [
              | inl o ↦
                  let at : d - s ≡ count - 1 - (i - first) = omega arith in
                  rw (moved_bit word s d (omega arith), at, laid_at first bits i g, bits_of_at count word (i - first) (omega arith))
              | inr o ↦ rw (no_bit word s d (omega arith), laid_past first bits i (omega arith))
            ]
      ])

  -- the byte over byte j
  held_byte : (j : ℕ) → from ≤ j → j - from < 15 → get_or (bytes_of mask) (j - from) 0 ≡ byte_of (λ k. laid (8 * from + r) bits (8 * j + k))
  held_byte j start h =
      let high = 120 - 8 * (j - from) in
      bytes_at mask (j - from) h
      ∙ sym (low_byte (mask / 2 ^ high))
      ∙ byte_of_same _ _ (λ k o. held_bit (8 * j + k) high (7 - k) (omega arith) (omega arith))

-- those bits laid over `few` bytes: all that the word reaches, or all that there are
pub laid_over
    : (buffer part : List ℕ) (word count from bit few : ℕ)
    → word < 2 ^ count → bit < 8 → count ≤ 64 → few ≡ min (length buffer - from) 9
    → length part ≡ length (take few (drop from buffer))
    → ((k : ℕ) → k < length (take few (drop from buffer))
    → get_or part k 0 ≡ bit_xor (get_or (take few (drop from buffer)) k 0) (get_or (bytes_of (held word count bit)) k 0))
    → take from buffer ++ (part ++ drop few (drop from buffer)) ≡ sealed buffer (8 * from + bit) (bits_of count word)
laid_over buffer part word count from bit few w small short reach long each =
    let bits = bits_of count word in
    let first = 8 * from + bit in
    let spans = bits_of_length count word in
    let after = take from buffer ++ (part ++ drop few (drop from buffer)) in
    let size : length (take few (drop from buffer)) ≡ few = search (rules, places) in
    let same : length after ≡ length buffer = search (rules, places) in
    ext_get_or 0 after (sealed buffer first bits) (same ∙ sym (sealed_length buffer first bits))
    (λ j l.
    let h : j < length buffer = omega arith in
    elim (cases_lt j from) [
      | inl g ↦
          let is : get_or after j 0 ≡ get_or buffer j 0 = search (rules, places) in
          rw (is, sealed_clear buffer first bits j h (λ k o. laid_before first bits (8 * j + k) (omega arith)))
      | inr g ↦
          elim (cases_lt j (from + few)) [
            | inl o ↦
                let xored = each (j - from) (omega arith) in
                let is : get_or after j 0 ≡ bit_xor (get_or buffer j 0) (get_or (bytes_of (held word count bit)) (j - from) 0) = search (rules, places, xored) in
                rw (is, sealed_at buffer first bits j h, held_byte word count bit from w (omega arith) j g (omega arith))
            | inr o ↦
                let is : get_or after j 0 ≡ get_or buffer j 0 = search (rules, places) in
                rw (is, sealed_clear buffer first bits j h (λ k p. laid_past first bits (8 * j + k) (omega arith)))
          ]
    ])
