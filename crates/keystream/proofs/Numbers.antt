-- Lists of bits as numbers: joined, made of a run of places, and read off a number.
use Rattle.std.specs.Prelude.{◌≡◌, ℕ, zero, suc, ◌+◌, ◌-◌, ◌*◌, ◌/◌, ◌%◌, ◌^◌, ◌<◌, ◌≤◌, Bool, true, false, cond, List, [], ◌∷◌, ◌++◌, map, length, replicate, ◌==◌, bit_or, bit_xor, nat_eq, refl}
use Rattle.std.proofs.Common.{sym, ap, ◌∙◌, subst, zero-add, add-zero, suc-add, add-mul, mul_assoc, arith, length-append, pow-add}
use Rattle.std.proofs.Math.Nat.{two-pow-succ}
use Rattle.std.specs.List.{range_with_len, fold}
use Rattle.std.specs.Int.{from_bool}
use Rattle.std.proofs.lemmas.Nat.{shl_whole, or_shifted, shr-shr, shr_high, mod_low, mod-pow-add, xor_block}
use Rattle.std.proofs.lemmas.Bool.Decides.{nat_tests}
use Rattle.std.proofs.lemmas.List.FromFn.{map-range_with_len_more, length-map-range_with_len}
use Rattle.keystream.specs.Bits.{◌⊕◌, as_number, bits_of}

pub as_number-append : (xs ys : List Bool) → as_number (xs ++ ys) ≡ as_number xs * 2 ^ length ys + as_number ys
as_number-append [] ys = omega arith
as_number-append (x ∷ xs) ys =
    let p = cond x 1 0 in
    let e : p * 2 ^ length (xs ++ ys) ≡ p * 2 ^ length xs * 2 ^ length ys
    = ap (λ n. p * 2 ^ n) (length-append xs ys) ∙ ap (λ n. p * n) (pow-add 2 (length xs) (length ys))
    ∙ sym (mul_assoc p (2 ^ length xs) (2 ^ length ys)) in
    omega (arith, e, as_number-append xs ys, add-mul (p * 2 ^ length xs) (as_number xs) (2 ^ length ys))

pub as_number_below : (bits : List Bool) → as_number bits < 2 ^ length bits
as_number_below [] = omega arith
as_number_below (true ∷ bits) = omega (arith, two-pow-succ (length bits), as_number_below bits)
as_number_below (false ∷ bits) = omega (arith, two-pow-succ (length bits), as_number_below bits)

from_bool_flag : (b : Bool) → from_bool b ≡ cond b 1 0
from_bool_flag true = refl
from_bool_flag false = refl

flag_below : (b : Bool) → cond b 1 0 < 2
flag_below true = omega arith
flag_below false = omega arith

pub as_number_zeros : (n : ℕ) → as_number (replicate n false) ≡ 0
as_number_zeros zero = refl
as_number_zeros (suc n) = omega (arith, as_number_zeros n)

-- one bit more
pub as_number_more : (f : ℕ → Bool) (a n : ℕ) → as_number (map f (range_with_len a (n + 1))) ≡ as_number (map f (range_with_len a n)) * 2 + cond (f (a + n)) 1 0
as_number_more f a n =
    ap as_number (map-range_with_len_more f a n (a + n) refl)
    ∙ as_number-append (map f (range_with_len a n)) (f (a + n) ∷ [])
    ∙ omega arith

pub run_below : (f : ℕ → Bool) (a n : ℕ) → as_number (map f (range_with_len a n)) < 2 ^ n
run_below f a n =
    subst (λ (k : ℕ). as_number (map f (range_with_len a n)) < 2 ^ k) (length-map-range_with_len f a n) (as_number_below (map f (range_with_len a n)))

-- a run of places in two parts
pub run_append : {X : Type 0} (f : ℕ → X) (p a b : ℕ) → map f (range_with_len p (a + b)) ≡ map f (range_with_len p a) ++ map f (range_with_len (p + a) b)
run_append f p zero b =
    ap (λ k. map f (range_with_len p k)) (zero-add b) ∙ ap (λ q. map f (range_with_len q b)) (sym (add-zero p))
run_append f p (suc a) b =
    ap (λ k. map f (range_with_len p k)) (suc-add a b)
    ∙ ap (λ l. f p ∷ l)
    (run_append f (p + 1) a b ∙ ap (λ q. map f (range_with_len (p + 1) a) ++ map f (range_with_len q b)) (omega arith))

-- runs of two functions that agree place by place
pub run_same
    : {X : Type 0} (f g : ℕ → X) (a b n : ℕ) → ((i : ℕ) → i < n → f (a + i) ≡ g (b + i)) → map f (range_with_len a n) ≡ map g (range_with_len b n)
run_same f g a b zero h = refl
run_same f g a b (suc n) h =
    let head : f a ≡ g b = ap f (sym (add-zero a)) ∙ h 0 (omega arith) ∙ ap g (add-zero b) in
    let tail =
    run_same f g (a + 1) (b + 1) n
    (λ i l.
    let p : a + 1 + i ≡ a + suc i = omega arith in
    let q : b + suc i ≡ b + 1 + i = omega arith in
    ap f p ∙ h (suc i) (omega arith) ∙ ap g q) in
    cc

-- what a bit of a number counts
bit_value : (x : ℕ) → cond (x % 2 == 1) 1 0 ≡ x % 2
bit_value x = grind (arith, nat_tests)

-- the first n of a number's lowest `width` bits, the most significant first
pub leading_bits
    : (x width n : ℕ) → n ≤ width
    → as_number (map (λ i. nat_eq (x / 2 ^ (width - 1 - i) % 2) 1) (range_with_len 0 n)) ≡ x / 2 ^ (width - n) % 2 ^ n
leading_bits x width zero l = omega arith
leading_bits x width (suc n) l =
    let f : ℕ → Bool = λ i. nat_eq (x / 2 ^ (width - 1 - i) % 2) 1 in
    let k = width - suc n in
    let at : width - 1 - (0 + n) ≡ k = omega arith in
    let up : width - n ≡ k + 1 = omega arith in
    let value : cond (f (0 + n)) 1 0 ≡ x / 2 ^ k % 2
    = ap (λ (j : ℕ). cond (x / 2 ^ j % 2 == 1) 1 0) at ∙ bit_value (x / 2 ^ k) in
    let high : as_number (map f (range_with_len 0 n)) ≡ x / 2 ^ k / 2 % 2 ^ n
    = leading_bits x width n (omega arith) ∙ ap (λ (j : ℕ). x / 2 ^ j % 2 ^ n) up
    ∙ ap (λ (y : ℕ). y % 2 ^ n) (sym (shr-shr x k 1)) in
    let sum : as_number (map f (range_with_len 0 n)) * 2 + cond (f (0 + n)) 1 0 ≡ x / 2 ^ k % 2 ^ (n + 1)
    = omega (arith, value, high, mod-pow-add (x / 2 ^ k) n 1) in
    let one : suc n ≡ n + 1 = omega arith in
    ap (λ (j : ℕ). as_number (map f (range_with_len 0 j))) one
    ∙ as_number_more f 0 n
    ∙ sum
    ∙ ap (λ (j : ℕ). x / 2 ^ k % 2 ^ j) (sym one)

flag_one : (b : Bool) → (cond b 1 0 == 1) ≡ b
flag_one true = refl
flag_one false = refl

-- bit k of the number of a run is what stands at place k
pub bit_of_run
    : (f : ℕ → Bool) (a n k : ℕ) → k < n → (as_number (map f (range_with_len a n)) / 2 ^ (n - 1 - k) % 2 == 1) ≡ f (a + k)
bit_of_run f a n k l =
    let r = n - 1 - k in
    let front = map f (range_with_len a (k + 1)) in
    let back = map f (range_with_len (a + (k + 1)) r) in
    let parts : n ≡ k + 1 + r = omega arith in
    let long : length back ≡ r = length-map-range_with_len f (a + (k + 1)) r in
    let joined : as_number (map f (range_with_len a n)) ≡ as_number front * 2 ^ r + as_number back
    = ap (λ (j : ℕ). as_number (map f (range_with_len a j))) parts
    ∙ ap as_number (run_append f a (k + 1) r)
    ∙ as_number-append front back
    ∙ ap (λ (j : ℕ). as_number front * 2 ^ j + as_number back) long in
    let top : as_number (map f (range_with_len a n)) / 2 ^ r ≡ as_number front
    = ap (λ (x : ℕ). x / 2 ^ r) joined ∙ shr_high (as_number front) r (as_number back) (run_below f (a + (k + 1)) r) in
    let low : as_number front % 2 ≡ cond (f (a + k)) 1 0
    = ap (λ (x : ℕ). x % 2) (as_number_more f a k) ∙ mod_low (as_number (map f (range_with_len a k))) 1 (cond (f (a + k)) 1 0) (flag_below (f (a + k))) in
    ap (λ (x : ℕ). nat_eq (x % 2) 1) top ∙ ap (λ (x : ℕ). nat_eq x 1) low ∙ flag_one (f (a + k))

-- the bits of the number of a run are the run
pub bits_of_run : (f : ℕ → Bool) (a n : ℕ) → bits_of n (as_number (map f (range_with_len a n))) ≡ map f (range_with_len a n)
unfolding bits_of
bits_of_run f a n =
    run_same _ f 0 a n
    (λ k l.
    let e : 0 + k ≡ k = omega arith in
    ap (λ (j : ℕ). nat_eq (as_number (map f (range_with_len a n)) / 2 ^ (n - 1 - j) % 2) 1) e ∙ bit_of_run f a n k l)

xor_flags : (a b : Bool) → bit_xor (cond a 1 0) (cond b 1 0) ≡ cond (a ⊕ b) 1 0
xor_flags true true = refl
xor_flags true false = refl
xor_flags false true = refl
xor_flags false false = refl

-- XOR of two runs
pub xor_runs
    : (f g : ℕ → Bool) (a n : ℕ)
    → bit_xor (as_number (map f (range_with_len a n))) (as_number (map g (range_with_len a n))) ≡ as_number (map (λ i. f i ⊕ g i) (range_with_len a n))
xor_runs f g a zero = refl
xor_runs f g a (suc n) =
    let h : ℕ → Bool = λ i. f i ⊕ g i in
    let F = as_number (map f (range_with_len a n)) in
    let G = as_number (map g (range_with_len a n)) in
    let x = f (a + n) in
    let y = g (a + n) in
    let one : suc n ≡ n + 1 = omega arith in
    ap (λ (j : ℕ). bit_xor (as_number (map f (range_with_len a j))) (as_number (map g (range_with_len a j)))) one
    ∙ ap (λ (z : ℕ). bit_xor z (as_number (map g (range_with_len a (n + 1))))) (as_number_more f a n)
    ∙ ap (bit_xor (F * 2 + cond x 1 0)) (as_number_more g a n)
    ∙ xor_block 1 F G (cond x 1 0) (cond y 1 0) (flag_below x) (flag_below y)
    ∙ ap (λ (z : ℕ). bit_xor F G * 2 + z) (xor_flags x y)
    ∙ ap (λ (z : ℕ). z * 2 + cond (x ⊕ y) 1 0) (xor_runs f g a n)
    ∙ sym (as_number_more h a n)
    ∙ ap (λ (j : ℕ). as_number (map h (range_with_len a j))) (sym one)

-- bits of a run shifted into a word of 64 bits, one after the other
abbrev pub shift_in : (ℕ → Bool) → ℕ → ℕ → ℕ
shift_in f word place = bit_or (word * 2 ^ 1 % 2 ^ 64) (from_bool (f place))

pub fold_shift_in
    : (f : ℕ → Bool) (word width a n : ℕ) → word < 2 ^ width → width + n ≤ 64
    → fold (shift_in f) word (range_with_len a n) ≡ word * 2 ^ n + as_number (map f (range_with_len a n))
fold_shift_in f word width a zero small few = omega arith
fold_shift_in f word width a (suc n) small few =
    let flag : ℕ = cond (f a) 1 0 in
    let rest = map f (range_with_len (a + 1) n) in
    let room : word * 2 ^ 1 % 2 ^ 64 ≡ word * 2 ^ 1 = shl_whole word width 1 64 small (omega arith) in
    let low : from_bool (f a) ≡ flag = from_bool_flag (f a) in
    let next : shift_in f word a ≡ word * 2 + flag
    = ap (λ (x : ℕ). bit_or x (from_bool (f a))) room
    ∙ ap (bit_or (word * 2 ^ 1)) low
    ∙ or_shifted word 1 flag (flag_below (f a)) in
    let wide : word * 2 + flag < 2 ^ (width + 1) = omega (arith, flag_below (f a), pow-add 2 width 1) in
    let long : flag * 2 ^ length rest ≡ flag * 2 ^ n = ap (λ (k : ℕ). flag * 2 ^ k) (length-map-range_with_len f (a + 1) n) in
    let twice : 2 * 2 ^ n ≡ 2 ^ suc n = omega (arith, two-pow-succ n) in
    let high : word * 2 * 2 ^ n ≡ word * 2 ^ suc n = mul_assoc word 2 (2 ^ n) ∙ ap (λ (p : ℕ). word * p) twice in
    ap (λ (x : ℕ). fold (shift_in f) x (range_with_len (a + 1) n)) next
    ∙ fold_shift_in f (word * 2 + flag) (width + 1) (a + 1) n wide (omega arith)
    ∙ omega (arith, add-mul (word * 2) flag (2 ^ n), high, long)
