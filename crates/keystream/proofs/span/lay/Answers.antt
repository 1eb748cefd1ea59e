use Rattle.std.proofs.Common.{◌≡◌, ◌-◌, ◌*◌, ◌%◌, ◌^◌, arith}
use Rattle.std.proofs.lemmas.Nat.{shl_whole}
use Rattle.keystream.proofs.Laying.{bytes_of, held, laid_over}
use Rattle.keystream.proofs.span.lay.Goals as goal

pub returns : goal.returns
returns c =
    let word = c.args.word in
    let count = c.args.count in
    let bit = c.args.bit in
    let shift = 128 - bit - count in
    let shifted : c.from.result * 2 ^ shift % 2 ^ 128 ≡ held word count bit = rw c.from.ensures (shl_whole word count shift 128 (omega arith) (omega arith)) in
    let mask : c.to_be_bytes-mask.result ≡ bytes_of (held word count bit) = rw (← shifted) c.to_be_bytes-mask.ensures in
    laid_over c.args.buffer.now _ word count c.args.from bit (c.min-end.result - c.args.from)
    (omega arith) (omega arith) (omega arith) (omega arith) c.xor_bytes.auto.bytes (rw mask at c.xor_bytes.ensures)
