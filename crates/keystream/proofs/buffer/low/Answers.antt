use Rattle.std.proofs.Common.{arith}
use Rattle.std.proofs.lemmas.Grind.{common_steps}
use Rattle.std.proofs.lemmas.Nat.{one_shl, and_mask}
use Rattle.keystream.proofs.buffer.low.Goals as goal

pub returns : goal.returns
returns c = grind (arith, common_steps, one_shl, and_mask)
