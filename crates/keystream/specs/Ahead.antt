-- The read-ahead: any generator, with up to 64 bits already drawn from it.
--
--   place_of s     the place; 0 with nothing loaded
--   back s count   the same key and variable, `count` places back
--   Held m s b     what is so of the bits held in b over a generator of meaning m that means s
--   ahead_meaning, ahead_meant, ahead_sound  what a ReadAhead means, and what its making sets up and each call keeps,
--                  given the same of the generator below
use Rattle.std.specs.Prelude.{◌≡◌, ℕ, ◌-◌, ◌≤◌}
use Rattle.keystream.specs.declared.ahead.ReadAhead.{ReadAhead}
use Rattle.keystream.specs.declared.buffer.Buffer.{Buffer}
use Rattle.keystream.specs.Bits.{as_number}
use Rattle.keystream.specs.Meaning.{Meaning, Meant, idle, loaded, keystream}

abbrev pub place_of : Meant → ℕ
place_of idle = 0
place_of (loaded key variable place) = place

abbrev pub back : Meant → ℕ → Meant
back idle count = idle
back (loaded key variable place) count = loaded key variable (place - count)

-- at most 64 bits, all drawn since the load, and the very keystream bits before the place below
pub record Held (m : Meaning) (s : Meant) (b : Buffer) : Type 0 where
  pub few : b.count ≤ 64
  pub drawn : b.count ≤ place_of s
  pub own : b.word ≡ as_number (keystream m (back s b.count) b.count)

abbrev pub ahead_meaning : {G : Type 0} → (G → Meaning) → ReadAhead G → Meaning
ahead_meaning meaning a = meaning a.below

abbrev pub ahead_meant : {G : Type 0} → (G → Meant) → ReadAhead G → Meant
ahead_meant meant a = back (meant a.below) a.buffer.count

abbrev pub ahead_sound : {G : Type 0} → (G → Meaning) → (G → Meant) → (G → Type 0) → ReadAhead G → Type 0
ahead_sound meaning meant sound a = Held (meaning a.below) (meant a.below) a.buffer × sound a.below
