use Rattle.std.proofs.Common.{◌≡◌, ℕ, ◌*◌, List, [], ◌∷◌, length, get_or, drop, map, refl, arith}
use Rattle.std.specs.Simd.{first_chunks}
use Rattle.std.proofs.lemmas.Grind.{common_steps}
use Rattle.hexadecimal.specs.Digits.{hex_text}
use Rattle.hexadecimal.proofs.read.Goals as goal

length-hex_text : (bytes : List ℕ) → length (hex_text bytes) ≡ 2 * length bytes
length-hex_text [] = refl
length-hex_text (x ∷ bytes) = omega (arith, length-hex_text bytes)

pairs_of_hex_text
    : (bytes : List ℕ) → first_chunks 2 (length bytes) (hex_text bytes) ≡ map (λ byte. hex_text (byte ∷ [])) bytes
pairs_of_hex_text [] = refl
pairs_of_hex_text (x ∷ bytes) = cc (pairs_of_hex_text bytes)

-- a text whose pairs are the digits of the bytes is their text
hex_text_from_pairs
    : (bytes text : List ℕ) → length text ≡ 2 * length bytes
    → first_chunks 2 (length bytes) text ≡ map (λ byte. hex_text (byte ∷ [])) bytes → hex_text bytes ≡ text
hex_text_from_pairs [] text two_each spelled = grind (arith, common_steps)
hex_text_from_pairs (x ∷ bytes) text two_each spelled =
    grind (arith, common_steps, hex_text_from_pairs bytes (drop 2 text))

pub returns-then-not-is_empty : goal.returns-then-not-is_empty
returns-then-not-is_empty c bytes byte_string spells = grind (arith, length-hex_text)

pub returns-in_default : goal.returns-in_default
returns-in_default c bytes byte_string spells =
    let i = c.loop-pair.pair-index in
    c.in_default.ensures (get_or bytes i 0) (byte_string i)
    (grind (arith, common_steps, length-hex_text, pairs_of_hex_text bytes))

pub returns : goal.returns
returns c = grind (arith, common_steps, hex_text_from_pairs)
