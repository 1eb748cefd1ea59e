-- What each call of a generator answers, and what the generator means afterwards. A refusal changes nothing.
--
--   begun given              the key and the variable handed in, at place 0
--   load_answer, load_after  of load; check answers the same
--   take_answer, take_after  of take
--
-- From the library: is_ok answer, whether a call is accepted.
use Rattle.std.specs.Prelude.{ℕ, Result, is_ok, if◌then◌else◌}
use Rattle.keystream.specs.declared.fault.GeneratorFault.{GeneratorFault}
use Rattle.keystream.specs.Bits.{first_bits, as_number}
use Rattle.keystream.specs.Meaning.{Meaning, Meant, Given, loaded, left, keystream, moved}
use Rattle.keystream.specs.Refusals.{answered, load_refusals, take_refusals}

abbrev pub begun : Given → Meant
begun given = loaded given.key (first_bits given.count given.variable) 0

abbrev pub load_answer : Meaning → Given → Result (Unit {0}) GeneratorFault
load_answer m given = answered (load_refusals m given) tt

abbrev pub load_after : Meaning → Meant → Given → Meant
load_after m s given = if is_ok (load_answer m given) then begun given else s

abbrev pub take_answer : Meaning → Meant → ℕ → Result ℕ GeneratorFault
take_answer m s n = answered (take_refusals (left m s) n) (as_number (keystream m s n))

abbrev pub take_after : Meaning → Meant → ℕ → Meant
take_after m s n = if is_ok (take_answer m s n) then moved s n else s
