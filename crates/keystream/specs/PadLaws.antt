-- What a pad has loaded fits its meaning: the pad kind's proof of a law of every generator.
use Rattle.std.specs.Prelude.{◌≡◌, ℕ, ◌≤◌, List, [], ◌∷◌, length, Some, None, Option, refl}
use Rattle.std.proofs.Common.{sym, subst}
use Rattle.std.proofs.lemmas.List.FromFn.{length-map-range_with_len}
use Rattle.keystream.specs.declared.stream.Stream.{Stream}
use Rattle.keystream.specs.Bits.{bit_at, first_bits}
use Rattle.keystream.specs.Meaning.{Fits}
use Rattle.keystream.specs.PadKind.{stream_meant, pad_meaning}

pub first_bits_length : (n : ℕ) (bytes : List ℕ) → length (first_bits n bytes) ≡ n
unfolding first_bits
first_bits_length n bytes = length-map-range_with_len (bit_at bytes) 0 n

pub stream_fits : (bytes : _) (stream : Option Stream) → Fits (pad_meaning bytes) (stream_meant stream)
stream_fits bytes None = tt
stream_fits bytes (Some s) =
    record {
      key_length = refl;
      variable_length = subst (λ (k : ℕ). k ≤ 4) (sym (first_bits_length s.count (s.variable ∷ []))) s.short;
      place_within = s.within;
    }
