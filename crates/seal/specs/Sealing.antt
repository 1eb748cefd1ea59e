-- A message sealed under a key and a variable, from place 0 on, and opened again. A refusal changes nothing.
--
--   refusal_or answer next    a generator's refusal, lifted, and else what comes next
--   seal_answer, seal_message, seal_after  the answer, and the message and the generator afterwards
--   exchange_answer           sealed by one generator and opened by another: the sender's refusal first, then the receiver's
use Rattle.std.specs.Prelude.{ℕ, ◌*◌, if◌then◌else◌, List, length, Ok, Err, Result, is_ok, nat_lt}
use Rattle.keystream.specs.declared.fault.GeneratorFault.{GeneratorFault}
use Rattle.keystream.specs.declared.fault.GeneratorFault.TheVariants.{TakeBeyond}
use Rattle.keystream.specs.declared.fault.SpanFault.{SpanFault}
use Rattle.keystream.specs.declared.fault.SpanFault.TheVariants.{Generator}
use Rattle.keystream.specs.Meaning.{Meaning, Meant, Given, keystream, moved}
use Rattle.keystream.specs.Calls.{begun, load_answer}
use Rattle.keystream.specs.Span.{sealed}

abbrev pub refusal_or : Result (Unit {0}) GeneratorFault → Result (Unit {0}) SpanFault → Result (Unit {0}) SpanFault
refusal_or (Ok u) next = next
refusal_or (Err fault) next = Err (Generator fault)

-- what load refuses, and then a message with more bits than the limit
abbrev pub seal_answer : Meaning → Given → List ℕ → Result (Unit {0}) SpanFault
seal_answer m given message =
    refusal_or (load_answer m given) (if nat_lt m.limit (8 * length message) then Err (Generator TakeBeyond) else Ok tt)

abbrev pub seal_message : Meaning → Given → List ℕ → List ℕ
seal_message m given message =
    if is_ok (seal_answer m given message)
    then sealed message 0 (keystream m (begun given) (8 * length message))
    else message

abbrev pub seal_after : Meaning → Meant → Given → List ℕ → Meant
seal_after m s given message =
    if is_ok (seal_answer m given message) then moved (begun given) (8 * length message) else s

abbrev pub exchange_answer : Meaning → Meaning → Given → List ℕ → Result (Unit {0}) SpanFault
exchange_answer sender receiver given message =
    if is_ok (seal_answer sender given message)
    then seal_answer receiver given message
    else seal_answer sender given message
