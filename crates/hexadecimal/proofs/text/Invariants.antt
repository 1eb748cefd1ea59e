use Rattle.std.proofs.Common.{◌≡◌, ◌++◌, drop, string_bytes}
use Rattle.hexadecimal.specs.Digits.{hex_text}
use Rattle.hexadecimal.proofs.text.Given as goal

abbrev pub invariant-loop-byte : goal.invariant-loop-byte
invariant-loop-byte l = string_bytes l.text ++ hex_text (drop l.byte-index l.bytes) ≡ hex_text l.bytes
