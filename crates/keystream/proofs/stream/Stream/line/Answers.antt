use Rattle.std.proofs.Common.{◌≡◌, ℕ, ◌-◌, ◌*◌, ◌/◌, ◌%◌, ◌^◌, ◌<◌, ◌≤◌, false, [], ◌∷◌, ◌++◌, length, replicate, sym, arith, length-append, rules}
use Rattle.std.proofs.lemmas.List.{length-replicate}
use Rattle.std.proofs.lemmas.Nat.{shl_whole, shr_le}
use Rattle.keystream.specs.Bits.{first_bits}
use Rattle.keystream.specs.PadKind.{line_number}
use Rattle.keystream.proofs.Numbers.{as_number-append, as_number_below, as_number_zeros}
use Rattle.keystream.specs.PadLaws.{first_bits_length}
use Rattle.keystream.proofs.Bytes.{number_of_first_bits}
use Rattle.keystream.proofs.stream.Stream.line.Goals as goal

line_is : (v n : ℕ) → v < 2 ^ 8 → n ≤ 4 → line_number (first_bits n (v ∷ [])) ≡ v / 2 ^ (8 - n) * 2 ^ (4 - n)
line_is v n byte short =
    let value = number_of_first_bits v n byte (omega arith) in
    rw (as_number-append, length-replicate, as_number_zeros, first_bits_length n (v ∷ []), value) (omega arith)

line_below : (v n : ℕ) → n ≤ 4 → line_number (first_bits n (v ∷ [])) < 16
line_below v n short =
    let zeros = replicate (4 - length (first_bits n (v ∷ []))) false in
    let whole = first_bits n (v ∷ []) ++ zeros in
    let four : length whole ≡ 4 = rw (length-append, length-replicate, first_bits_length n (v ∷ [])) (omega arith) in
    rw four at (as_number_below whole)

pub returns : goal.returns
returns c =
    let v = c.args.self.variable in
    let n = c.args.self.count in
    let byte : v < 2 ^ 8 = search rules in
    let high = v / 2 ^ (8 - n) in
    let whole : high * 2 ^ (4 - n) % 2 ^ 64 ≡ high * 2 ^ (4 - n) = shl_whole high 8 (4 - n) 64 (omega (arith, shr_le v (8 - n))) (omega arith) in
    let line = line_is v n byte c.args.self.short in
    record {
      value = rw (c.from.ensures, whole) (sym line);
      bound = rw (c.from.ensures, whole, ← line) (line_below v n c.args.self.short);
    }
