use Rattle.std.proofs.Common.{◌+◌, ◌*◌, ◌/◌, ◌%◌, of_calls}
use Rattle.std.proofs.lemmas.List.FromFn.{fill_by_all}
use Rattle.seal.proofs.pad_bytes.pad_bytes.Goals as goal

pub returns : goal.returns
returns c = fill_by_all (λ j. (7 * j + j / 64) % 256) _ _ 0 c.from_fn.ensures.items.long (λ j h. search (of_calls, c.from_fn.ensures.items.at j 0 h))
