-- The cap: any generator, with a limit of its own.
--
--   capped limit m    the meaning m with the lesser of its limit and this one
--   cap_answer limit  whether a cap with this limit is made
--   cap_meaning, cap_meant, cap_sound  what a Cap means, and what its making sets up and each call keeps,
--                     given the same of the generator below
use Rattle.std.specs.Prelude.{ℕ, ◌^◌, ◌≤◌, min, Result}
use Rattle.keystream.specs.declared.fault.CapFault.{CapFault}
use Rattle.keystream.specs.declared.«cap».Cap.{Cap}
use Rattle.keystream.specs.Meaning.{Meaning, Meant, Fits}
use Rattle.keystream.specs.Refusals.{answered, cap_refusals}

abbrev pub capped : ℕ → Meaning → Meaning
capped limit m = record { key_bits = m.key_bits; longest = m.longest; limit = min m.limit limit; stream = m.stream }

abbrev pub cap_answer : ℕ → Result (Unit {0}) CapFault
cap_answer limit = answered (cap_refusals limit) tt

abbrev pub cap_meaning : {G : Type 0} → (G → Meaning) → Cap G → Meaning
cap_meaning meaning c = capped c.limit (meaning c.below)

abbrev pub cap_meant : {G : Type 0} → (G → Meant) → Cap G → Meant
cap_meant meant c = meant c.below

-- the limit is in range, and what is loaded below fits under it
abbrev pub cap_sound : {G : Type 0} → (G → Meaning) → (G → Meant) → (G → Type 0) → Cap G → Type 0
cap_sound meaning meant sound c =
    (1 ≤ c.limit) × (c.limit ≤ 2 ^ 54) × Fits (cap_meaning meaning c) (meant c.below) × sound c.below
