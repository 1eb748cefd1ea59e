-- The refusals: the number and the layer of each, and for each call those that it tries, in their order, with their conditions.
--
--   .._number, .._layer   the number and the layer of a refusal
--   layer_name            how a layer is printed
--   refusal_text          how a refusal is printed
--   .._refusals           what a call tries: each condition with its refusal
--   answered refusals x   the first refusal whose condition holds, or the answer x
use Rattle.std.specs.Prelude.{ℕ, ◌+◌, ◌*◌, ◌/◌, ◌^◌, Bool, if◌then◌else◌, not, ◌||◌, List, [], ◌∷◌, ◌++◌, length, Ok, Err, codes, decimal, Result, ◌==◌, nat_lt}
use Rattle.keystream.specs.declared.fault.Layer.{Layer}
use Rattle.keystream.specs.declared.fault.Layer.TheVariants as layers
use Rattle.keystream.specs.declared.fault.GeneratorFault.{GeneratorFault}
use Rattle.keystream.specs.declared.fault.GeneratorFault.TheVariants.{KeyLength, VariableTooLong, VariableBytes, TakeCount, TakeBeyond}
use Rattle.keystream.specs.declared.fault.PadFault.{PadFault}
use Rattle.keystream.specs.declared.fault.PadFault.TheVariants.{Length}
use Rattle.keystream.specs.declared.fault.CapFault.{CapFault}
use Rattle.keystream.specs.declared.fault.CapFault.TheVariants.{Limit}
use Rattle.keystream.specs.declared.fault.SpanFault.{SpanFault}
use Rattle.keystream.specs.declared.fault.SpanFault.TheVariants.{Outside, Generator}
use Rattle.keystream.specs.Meaning.{Meaning, Meant, Given, left}

abbrev pub layer_name : Layer → List ℕ
layer_name layers.Line = codes "line"
layer_name layers.Station = codes "station"
layer_name layers.Generator = codes "generator"

abbrev pub refusal_text : ℕ → Layer → List ℕ
refusal_text number layer = decimal number ++ (codes " " ++ layer_name layer)

abbrev pub generator_number : GeneratorFault → ℕ
generator_number KeyLength = 21
generator_number VariableTooLong = 22
generator_number VariableBytes = 23
generator_number TakeCount = 24
generator_number TakeBeyond = 25

abbrev pub generator_layer : GeneratorFault → Layer
generator_layer KeyLength = layers.Generator
generator_layer VariableTooLong = layers.Generator
generator_layer VariableBytes = layers.Generator
generator_layer TakeCount = layers.Generator
generator_layer TakeBeyond = layers.Generator

abbrev pub pad_number : PadFault → ℕ
pad_number Length = 28

abbrev pub pad_layer : PadFault → Layer
pad_layer Length = layers.Generator

abbrev pub cap_number : CapFault → ℕ
cap_number Limit = 29

abbrev pub cap_layer : CapFault → Layer
cap_layer Limit = layers.Generator

abbrev pub span_number : SpanFault → ℕ
span_number Outside = 30
span_number (Generator fault) = generator_number fault

abbrev pub span_layer : SpanFault → Layer
span_layer Outside = layers.Generator
span_layer (Generator fault) = generator_layer fault

abbrev pub answered : {X F : Type 0} → List (Bool × F) → X → Result X F
answered [] x = Ok x
answered ((condition, fault) ∷ rest) x = if condition then Err fault else answered rest x

-- making a pad of these bytes
abbrev pub pad_refusals : List ℕ → List (Bool × PadFault)
pad_refusals bytes = (not (length bytes == 1024), Length) ∷ []

-- making a cap with this limit
abbrev pub cap_refusals : ℕ → List (Bool × CapFault)
cap_refusals limit = (limit == 0 || nat_lt (2 ^ 54) limit, Limit) ∷ []

-- load and check
abbrev pub load_refusals : Meaning → Given → List (Bool × GeneratorFault)
load_refusals m given =
    (not (8 * length given.key == m.key_bits), KeyLength)
    ∷ ((nat_lt m.longest given.count, VariableTooLong)
    ∷ ((not (length given.variable == (given.count + 7) / 8), VariableBytes) ∷ []))

-- taking n bits where `rest` bits are left
abbrev pub take_refusals : ℕ → ℕ → List (Bool × GeneratorFault)
take_refusals rest n = (n == 0 || nat_lt 64 n, TakeCount) ∷ ((nat_lt rest n, TakeBeyond) ∷ [])

-- applying a keystream to n bits from bit `first` on of a buffer of `size` bytes
abbrev pub span_refusals : Meaning → Meant → ℕ → ℕ → ℕ → List (Bool × SpanFault)
span_refusals m s size first n = (nat_lt (8 * size) (first + n), Outside) ∷ ((nat_lt (left m s) n, Generator TakeBeyond) ∷ [])
