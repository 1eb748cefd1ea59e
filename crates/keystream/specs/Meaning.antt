-- What a keystream generator means: four things that never change, and what is loaded.
--
--   Key         the bytes of a key
--   Variable    the bits of an initialisation variable; two variables are the same when these lists are
--   Given       what a load is handed: a key, and the bytes whose first `count` bits are the variable
--   Meaning     key length and longest variable in bits, the limit, and the keystream bit of each key, variable and place
--   Meant       nothing, or a key, a variable and a place
--   Ranges, Fits  what is so of every generator: of its meaning, and of what is loaded
--   left m s        keystream bits from the place up to the limit; none with nothing loaded
--   keystream m s n  the next n keystream bits
--   moved s n       the same key and variable, n places on
use Rattle.std.specs.Prelude.{◌≡◌, ℕ, ◌+◌, ◌-◌, ◌*◌, ◌%◌, ◌^◌, ◌≤◌, Bool, List, [], map, length}
use Rattle.std.specs.List.{range_with_len}

abbrev pub Key : Type 0
Key = List ℕ

abbrev pub Variable : Type 0
Variable = List Bool

pub record Given : Type 0 where
  pub key : Key
  pub count : ℕ
  pub variable : List ℕ

pub record Meaning : Type 0 where
  pub key_bits : ℕ
  pub longest : ℕ
  pub limit : ℕ
  pub stream : Key → Variable → ℕ → Bool

pub data Meant : Type 0 where
  idle : Meant
  loaded : Key → Variable → ℕ → Meant

-- the ranges of every generator
pub record Ranges (m : Meaning) : Type 0 where
  pub key_whole : m.key_bits % 8 ≡ 0
  pub key_least : 8 ≤ m.key_bits
  pub key_most : m.key_bits ≤ 256
  pub longest_most : m.longest ≤ 128
  pub limit_least : 1 ≤ m.limit
  pub limit_most : m.limit ≤ 2 ^ 54

-- a loaded key is of the key length, a variable no longer than the longest, and the place at most the limit
pub record LoadedFits (m : Meaning) (key : Key) (variable : Variable) (place : ℕ) : Type 0 where
  pub key_length : 8 * length key ≡ m.key_bits
  pub variable_length : length variable ≤ m.longest
  pub place_within : place ≤ m.limit

abbrev pub Fits : Meaning → Meant → Type 0
Fits m idle = Unit {0}
Fits m (loaded key variable place) = LoadedFits m key variable place

abbrev pub left : Meaning → Meant → ℕ
left m idle = 0
left m (loaded key variable place) = m.limit - place

abbrev pub keystream : Meaning → Meant → ℕ → List Bool
keystream m idle n = []
keystream m (loaded key variable place) n = map (m.stream key variable) (range_with_len place n)

abbrev pub moved : Meant → ℕ → Meant
moved idle n = idle
moved (loaded key variable place) n = loaded key variable (place + n)
