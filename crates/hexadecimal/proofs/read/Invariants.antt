use Rattle.std.proofs.Common.{◌≡◌, [], ◌∷◌, map, take, vec_items}
use Rattle.hexadecimal.specs.Digits.{hex_text, ByteString}
use Rattle.hexadecimal.proofs.read.Given as goal

abbrev pub invariant-loop-pair : goal.invariant-loop-pair
invariant-loop-pair l = record {
  byte_string : ByteString (vec_items l.bytes);
  spelled : take l.pair-index l.pairs ≡ map (λ byte. hex_text (byte ∷ [])) (vec_items l.bytes);
}
