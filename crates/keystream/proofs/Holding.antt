-- The bits that a read-ahead holds: the first of them taken out.
use Rattle.std.proofs.Common.{◌≡◌, ℕ, ◌+◌, ◌-◌, ◌/◌, ◌%◌, ◌^◌, ◌≤◌, sym, refl, ap, ◌∙◌, arith}
use Rattle.keystream.specs.declared.buffer.Buffer.{Buffer}
use Rattle.keystream.specs.Bits.{as_number}
use Rattle.keystream.specs.Meaning.{Meaning, Meant, idle, loaded, keystream, moved}
use Rattle.keystream.specs.Ahead.{place_of, back, Held}
use Rattle.keystream.proofs.Streams.{keystream_front, keystream_rest}

pub back_less : (s : Meant) (count n : ℕ) → n ≤ count → count ≤ place_of s → back s (count - n) ≡ moved (back s count) n
back_less idle count n l h = refl
back_less (loaded key variable place) count n l h = ap (loaded key variable) (omega arith)

module _ (m : Meaning) (s : Meant) (b : Buffer) (h : Held m s b) (n : ℕ) (l : n ≤ b.count) where
  abbrev rest : ℕ
  rest = b.count - n

  own : b.word ≡ as_number (keystream m (back s b.count) (n + rest))
  own = h.own ∙ ap (λ (k : ℕ). as_number (keystream m (back s b.count) k)) (omega arith)

  pub held_front : b.word / 2 ^ rest ≡ as_number (keystream m (back s b.count) n)
  held_front = ap (λ (x : ℕ). x / 2 ^ rest) own ∙ keystream_front m (back s b.count) n rest

  pub held_after : back s rest ≡ moved (back s b.count) n
  held_after = back_less s b.count n l h.drawn

  -- those that are left are held as before
  pub held_rest : (after : Buffer) → after.word ≡ b.word % 2 ^ rest → after.count ≡ rest → Held m s after
  held_rest after word count =
      record {
        few = omega (arith, h.few);
        drawn = omega (arith, h.drawn);
        own =
            word ∙ ap (λ (x : ℕ). x % 2 ^ rest) own
            ∙ keystream_rest m (back s b.count) n rest
            ∙ ap (λ (t : Meant). as_number (keystream m t rest)) (sym held_after)
            ∙ ap (λ (k : ℕ). as_number (keystream m (back s k) k)) (sym count);
      }
