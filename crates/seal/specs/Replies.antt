-- The text that answers a letter.
--
--   delivered_text sealed opened  what was sealed and what was opened, a line each
--   reply_to answer delivered     this text where a call is accepted, and else the refusal
--   reply_text                    of a message that is sealed and opened
use Rattle.std.specs.Prelude.{ℕ, List, ◌∷◌, ◌++◌, Ok, Err, Result, codes}
use Rattle.hexadecimal.specs.Digits.{hex_text}
use Rattle.keystream.specs.declared.fault.SpanFault.{SpanFault}
use Rattle.keystream.specs.Meaning.{Meaning, Given}
use Rattle.keystream.specs.Refusals.{refusal_text, span_number, span_layer}
use Rattle.seal.specs.Sealing.{seal_answer, seal_message}

abbrev pub line_feed : ℕ
line_feed = 10

abbrev pub delivered_text : List ℕ → List ℕ → List ℕ
delivered_text sealed opened = codes "sealed " ++ (hex_text sealed ++ (line_feed ∷ (codes "clear " ++ opened)))

abbrev pub reply_to : Result (Unit {0}) SpanFault → List ℕ → List ℕ
reply_to (Ok u) delivered = delivered
reply_to (Err fault) delivered = codes "no " ++ refusal_text (span_number fault) (span_layer fault)

abbrev pub reply_text : Meaning → Given → List ℕ → List ℕ
reply_text m given message = reply_to (seal_answer m given message) (delivered_text (seal_message m given message) message)
