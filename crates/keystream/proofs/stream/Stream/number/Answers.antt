use Rattle.std.proofs.Common.{rules, ◌≡◌, ℕ, ◌+◌, Bool, arith, refl, ap, ◌∙◌}
use Rattle.std.specs.List.{range_with_len, fold}
use Rattle.std.proofs.lemmas.Iterator.{YieldsList-from_range}
use Rattle.std.proofs.lemmas.Iterator.Consumers.{fold_from_yields_List}
use Rattle.keystream.specs.Bits.{as_number}
use Rattle.keystream.specs.PadKind.{pad_bit, key_of, variable_of}
use Rattle.keystream.proofs.Numbers.{shift_in, fold_shift_in, run_same}
use Rattle.keystream.proofs.stream.Stream.number.Goals as goal

pub returns : goal.returns
returns c =
    let stream = c.args.self in
    let place = stream.place in
    let n = c.args.n in
    let f = pad_bit c.args.pad.now (key_of stream) (variable_of stream) in
    let next : ℕ → Bool = λ i. f (place + i) in
    let folds : c.fold.result ≡ fold (shift_in next) 0 (range_with_len 0 n)
    = fold_from_yields_List _ (shift_in next) _ _ c.fold.ensures.ran (YieldsList-from_range 0 n n refl (omega arith)) (λ a x b q k. search rules) in
    folds ∙ fold_shift_in next 0 0 0 n (omega arith) (omega arith) ∙ omega arith ∙ ap as_number (run_same next f 0 place n (λ i l. ap next (omega arith)))
