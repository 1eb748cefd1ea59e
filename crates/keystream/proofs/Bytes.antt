-- Bytes and their bits.
use Rattle.std.specs.Prelude.{◌≡◌, ℕ, ◌+◌, ◌-◌, ◌/◌, ◌%◌, ◌^◌, ◌<◌, ◌≤◌, Bool, false, List, [], ◌∷◌, ◌==◌, bit_xor, nat_eq, slice_index, refl}
use Rattle.std.proofs.Common.{sym, ap, ◌∙◌, zero-add, mod-eq_of_lt, arith}
use Rattle.std.proofs.lemmas.Nat.{shr_below}
use Rattle.std.proofs.lemmas.Nat.Bits.{bit_at_xor, bit_at-lt}
use Rattle.std.proofs.lemmas.Bool.Decides.{nat_tests}
use Rattle.keystream.specs.Bits.{◌⊕◌, bit_at, first_bits, byte_of, as_number}
use Rattle.keystream.proofs.Numbers.{leading_bits, run_same, xor_runs, bit_of_run}

-- the lowest byte of a number is made of its lowest eight bits
pub low_byte : (x : ℕ) → byte_of (λ k. nat_eq (x / 2 ^ (7 - k) % 2) 1) ≡ x % 2 ^ 8
unfolding byte_of
low_byte x = leading_bits x 8 8 (omega arith) ∙ omega arith

pub byte_of_same : (f g : ℕ → Bool) → ((k : ℕ) → k < 8 → f k ≡ g k) → byte_of f ≡ byte_of g
unfolding byte_of
byte_of_same f g h = ap as_number (run_same f g 0 0 8 (λ k l. ap f (zero-add k) ∙ h k l ∙ ap g (sym (zero-add k))))

pub byte_of_xor : (f g : ℕ → Bool) → bit_xor (byte_of f) (byte_of g) ≡ byte_of (λ k. f k ⊕ g k)
unfolding byte_of
byte_of_xor f g = xor_runs f g 0 8

-- bit k of a byte made of bits
pub bit_of_byte : (f : ℕ → Bool) (k : ℕ) → k < 8 → (byte_of f / 2 ^ (7 - k) % 2 == 1) ≡ f k
unfolding byte_of
bit_of_byte f k l = bit_of_run f 0 8 k l ∙ ap f (zero-add k)

pub byte_of_zeros : byte_of (λ k. false) ≡ 0
unfolding byte_of
byte_of_zeros = refl

sum_of_bits : (x y : ℕ) → x < 2 → y < 2 → ((x + y) % 2 == 1) ≡ nat_eq x 1 ⊕ nat_eq y 1
sum_of_bits x y g h = grind (arith, nat_tests)

-- a bit of an XOR
pub xor_bit : (a b d : ℕ) → (bit_xor a b / 2 ^ d % 2 == 1) ≡ nat_eq (a / 2 ^ d % 2) 1 ⊕ nat_eq (b / 2 ^ d % 2) 1
xor_bit a b d = ap (λ (x : ℕ). nat_eq x 1) (bit_at_xor a b d) ∙ sum_of_bits (a / 2 ^ d % 2) (b / 2 ^ d % 2) (bit_at-lt a d) (bit_at-lt b d)

-- up to eight bits are read off the first byte alone
pub first_bits_of_byte : (n : ℕ) (bytes : List ℕ) → n ≤ 8 → first_bits n bytes ≡ first_bits n (slice_index bytes 0 ∷ [])
unfolding first_bits
first_bits_of_byte n bytes l = run_same _ _ 0 0 n (λ k g. let q : (0 + k) / 8 ≡ 0 = omega arith in rw q)

pub number_of_first_bits : (v n : ℕ) → v < 2 ^ 8 → n ≤ 8 → as_number (first_bits n (v ∷ [])) ≡ v / 2 ^ (8 - n)
unfolding first_bits
number_of_first_bits v n h l =
    let f : ℕ → Bool = λ k. nat_eq (v / 2 ^ (8 - 1 - k) % 2) 1 in
    let whole : n + (8 - n) ≡ 8 = omega arith in
    let below : v / 2 ^ (8 - n) < 2 ^ n = shr_below v n (8 - n) (rw whole h) in
    ap as_number (run_same (bit_at (v ∷ [])) f 0 0 n (λ k g. let q : (0 + k) / 8 ≡ 0 = omega arith in let r : (0 + k) % 8 ≡ 0 + k = omega arith in rw (q, r)))
    ∙ leading_bits v 8 n l ∙ mod-eq_of_lt below
