-- Laws of a generator's keystream: in two parts, from a place further on, and as a number.
use Rattle.std.proofs.Common.{◌≡◌, ℕ, ◌+◌, ◌-◌, ◌*◌, ◌/◌, ◌%◌, ◌^◌, ◌<◌, ◌≤◌, [], ◌++◌, length, refl, ap, ◌∙◌, add-zero, arith}
use Rattle.std.proofs.lemmas.Nat.{pow_pos, shr_high, mod_low}
use Rattle.std.proofs.lemmas.List.FromFn.{length-map-range_with_len}
use Rattle.keystream.specs.Bits.{as_number, bits_of}
use Rattle.keystream.specs.Meaning.{Meaning, Meant, idle, loaded, left, keystream, moved}
use Rattle.keystream.proofs.Numbers.{as_number-append, run_append, run_below, bits_of_run}

pub moved_none : (s : Meant) → moved s 0 ≡ s
moved_none idle = refl
moved_none (loaded key variable place) = ap (loaded key variable) (add-zero place)

pub moved-moved : (s : Meant) (a b : ℕ) → moved (moved s a) b ≡ moved s (a + b)
moved-moved idle a b = refl
moved-moved (loaded key variable place) a b = ap (loaded key variable) (omega arith)

pub left-moved : (m : Meaning) (s : Meant) (a : ℕ) → left m (moved s a) ≡ left m s - a
left-moved m idle a = omega arith
left-moved m (loaded key variable place) a = omega arith

pub keystream_none : (m : Meaning) (s : Meant) → keystream m s 0 ≡ []
keystream_none m idle = refl
keystream_none m (loaded key variable place) = refl

pub keystream_append : (m : Meaning) (s : Meant) (a b : ℕ) → keystream m s (a + b) ≡ keystream m s a ++ keystream m (moved s a) b
keystream_append m idle a b = refl
keystream_append m (loaded key variable place) a b = run_append (m.stream key variable) place a b

pub keystream_length : (m : Meaning) (s : Meant) (n : ℕ) → n ≤ left m s → length (keystream m s n) ≡ n
keystream_length m idle n h = omega arith
keystream_length m (loaded key variable place) n h = length-map-range_with_len (m.stream key variable) place n

-- n keystream bits as a number have n bits
pub keystream_below : (m : Meaning) (s : Meant) (n : ℕ) → as_number (keystream m s n) < 2 ^ n
keystream_below m idle n = pow_pos n
keystream_below m (loaded key variable place) n = run_below (m.stream key variable) place n

-- the number of a + b keystream bits, made of those of the first a and of the b after them, and taken apart into them
module _ (m : Meaning) (s : Meant) (a b : ℕ) where
  pub keystream_joined : as_number (keystream m s (a + b)) ≡ as_number (keystream m s a) * 2 ^ b + as_number (keystream m (moved s a) b)
  keystream_joined = joined s
    where
      joined : (t : Meant) → as_number (keystream m t (a + b)) ≡ as_number (keystream m t a) * 2 ^ b + as_number (keystream m (moved t a) b)
      joined idle = omega arith
      joined (loaded key variable place) =
          let rest = keystream m (loaded key variable (place + a)) b in
          ap as_number (keystream_append m (loaded key variable place) a b)
          ∙ as_number-append (keystream m (loaded key variable place) a) rest
          ∙ ap (λ (k : ℕ). as_number (keystream m (loaded key variable place) a) * 2 ^ k + as_number rest) (length-map-range_with_len (m.stream key variable) (place + a) b)

  pub keystream_front : as_number (keystream m s (a + b)) / 2 ^ b ≡ as_number (keystream m s a)
  keystream_front = rw keystream_joined (shr_high _ b _ (keystream_below m (moved s a) b))

  pub keystream_rest : as_number (keystream m s (a + b)) % 2 ^ b ≡ as_number (keystream m (moved s a) b)
  keystream_rest = rw keystream_joined (mod_low _ b _ (keystream_below m (moved s a) b))

-- the bits of the number of n keystream bits are those bits
pub bits_of_keystream : (m : Meaning) (s : Meant) (n : ℕ) → n ≤ left m s → bits_of n (as_number (keystream m s n)) ≡ keystream m s n
unfolding bits_of
bits_of_keystream m idle n h =
    let none : n ≡ 0 = omega arith in
    ap (λ (k : ℕ). bits_of k 0) none
bits_of_keystream m (loaded key variable place) n h = bits_of_run (m.stream key variable) place n
