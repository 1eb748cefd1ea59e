-- The lines of a letter: a key and a variable in hexadecimal, and between them a bit count in decimal.
--
--   Hexadecimal text bytes  the text of these bytes
--   Unhexadecimal text      the text of no byte string
--   Decimal text n          a numeral, after a plus or not, that writes n, below 2^64
--   Undecimal text          no such numeral
--   ReadsLetter             what a letter's lines say
--   ReadsNone               the first line that says nothing
--   FailsToRead             the error of a letter that is not read: ReadsNone of its line, or no memory, of which nothing is said
--   given_of letter         the key and the variable of a letter, as a load is handed them
--   line_name               what that line is called
use Rattle.std.specs.Prelude.{◌≡◌, ℕ, ◌^◌, ◌<◌, List, vec_items, codes, ◌≢◌}
use Rattle.std.specs.Str.Parse.{IsNumeral, digits_value, without_leading_plus}
use Rattle.keystream.specs.Meaning.{Given}
use Rattle.hexadecimal.specs.Digits.{hex_text, ByteString}
use Rattle.seal.specs.declared.letter.Letter.{Letter}
use Rattle.seal.specs.declared.letter.Line.{Line}
use Rattle.seal.specs.declared.letter.Line.TheVariants.{Key, BitCount, Variable}
use Rattle.seal.specs.declared.letter.LetterError.{LetterError}
use Rattle.seal.specs.declared.letter.LetterError.TheVariants.{Unreadable, OutOfMemory}

abbrev pub Hexadecimal : List ℕ → List ℕ → Type 0
Hexadecimal text bytes = ByteString bytes × (hex_text bytes ≡ text)

abbrev pub Unhexadecimal : List ℕ → Type 0
Unhexadecimal text = (bytes : List ℕ) → ByteString bytes → hex_text bytes ≢ text

abbrev pub Decimal : List ℕ → ℕ → Type 0
Decimal text n = IsNumeral 10 (without_leading_plus text) × (digits_value 10 (without_leading_plus text) < 2 ^ 64) × (n ≡ digits_value 10 (without_leading_plus text))

abbrev pub Undecimal : List ℕ → Type 0
Undecimal text = IsNumeral 10 (without_leading_plus text) × (digits_value 10 (without_leading_plus text) < 2 ^ 64) → ⊥

abbrev pub ReadsLetter : List ℕ → List ℕ → List ℕ → Letter → Type 0
ReadsLetter key count variable letter =
    Hexadecimal key (vec_items letter.key) × Decimal count letter.count × Hexadecimal variable (vec_items letter.variable)

abbrev pub ReadsNone : List ℕ → List ℕ → List ℕ → Line → Type 0
ReadsNone key count variable Key = Unhexadecimal key
ReadsNone key count variable BitCount = ((bytes : List ℕ) × Hexadecimal key bytes) × Undecimal count
ReadsNone key count variable Variable =
    ((bytes : List ℕ) × Hexadecimal key bytes) × ((n : ℕ) × Decimal count n) × Unhexadecimal variable

abbrev pub FailsToRead : List ℕ → List ℕ → List ℕ → LetterError → Type 0
FailsToRead key count variable (Unreadable line) = ReadsNone key count variable line
FailsToRead key count variable (OutOfMemory cause) = Unit {0}

abbrev pub given_of : Letter → Given
given_of letter = record { key = vec_items letter.key; count = letter.count; variable = vec_items letter.variable }

abbrev pub line_name : Line → List ℕ
line_name Key = codes "key"
line_name BitCount = codes "bit count"
line_name Variable = codes "variable"
