use Rattle.std.proofs.Common.{◌≡◌, ◌*◌, ◌^◌, ◌<◌, sym, arith}
use Rattle.std.proofs.lemmas.Bool.Decides.{nat_tests}
use Rattle.std.proofs.lemmas.Nat.{shl_whole, or_shifted}
use Rattle.keystream.specs.Meaning.{moved}
use Rattle.keystream.proofs.Streams.{keystream_below, keystream_joined}
use Rattle.keystream.proofs.buffer.joined.Goals as goal

pub returns : goal.returns
returns c m s n total sum most front rest =
    let high = c.args.high in
    let low = c.args.low in
    let count = c.args.count in
    let high_fits : high < 2 ^ n = rw front (keystream_below m s n) in
    let low_fits : low < 2 ^ count = rw rest (keystream_below m (moved s n) count) in
    let whole = shl_whole high n count 64 high_fits (omega arith) in
    let shifted : c.unbounded_shl.result ≡ high * 2 ^ count = grind (arith, nat_tests, whole) in
    rw (shifted, or_shifted high count low low_fits, front, rest, ← sum) (sym (keystream_joined m s n count))
