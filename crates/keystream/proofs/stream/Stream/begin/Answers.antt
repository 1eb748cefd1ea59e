use Rattle.std.proofs.Common.{arith}
use Rattle.std.proofs.lemmas.Grind.{common_steps}
use Rattle.keystream.proofs.Bytes.{first_bits_of_byte}
use Rattle.keystream.proofs.stream.Stream.begin.Goals as goal

pub returns : goal.returns
returns c = grind (arith, common_steps, first_bits_of_byte)
