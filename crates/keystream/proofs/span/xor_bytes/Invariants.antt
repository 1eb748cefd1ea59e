use Rattle.std.specs.Prelude.{◌≡◌, ℕ, ◌<◌, ◌≤◌, bit_xor, slice_index}
use Rattle.keystream.proofs.span.xor_bytes.Given as goal

-- the first j bytes are XORed with theirs of the mask, and the others are as they were
abbrev pub invariant-loop-j : goal.invariant-loop-j
invariant-loop-j l = record {
  done : (k : ℕ) → k < l.j → slice_index l.bytes k ≡ bit_xor (slice_index l.initial.bytes k) (slice_index l.mask k);
  rest : (k : ℕ) → l.j ≤ k → slice_index l.bytes k ≡ slice_index l.initial.bytes k;
}
