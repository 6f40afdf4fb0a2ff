-- The fewest digits of a number are one number: what `io` writes is the definition's text. Assumes nothing.
use Rattle.std.specs.Prelude.{◌≡◌, refl, List, [], ◌∷◌, ◌++◌, Bool, true, false, ℕ, zero, suc, ◌-◌, ◌*◌, ◌/◌, ◌%◌, ◌^◌, ◌≤◌, ◌<◌, ltb}
use Rattle.std.proofs.Common.{ap, ◌∙◌, arith, div-lt_iff_lt-mul, le-div_iff_mul-le, pow-suc, one-mul, ltb-true, ltb-false}
use Rattle.std.proofs.Math.Nat.{pow-le-pow_right, pow-zero}
use Rattle.io.specs.Digits.{last_digits as io_digits, IsDigitCount}
use Rattle.definition.specs.Text.{glyph, digits, places, decimal, eight_digits}

pub digits_same : (b k n : ℕ) → io_digits b k n ≡ digits b k n
digits_same b zero n = refl
digits_same b (suc k) n = ap (λ (l : List ℕ). l ++ (glyph (n % b) ∷ [])) (digits_same b k (n / b))

pow_one : (b : ℕ) → b ^ 1 ≡ b
pow_one b = pow-suc b 0 ∙ rw (pow-zero b) (one-mul b)

more : (b l n j k : ℕ) → 0 < b → IsDigitCount b l n j → IsDigitCount b l n k → j < k → ⊥
more b l n j k z f g h =
    let e : j ≤ k - 1 = omega arith in
    let p : b ^ j ≤ b ^ (k - 1) = pow-le-pow_right z e in
    let w : l < k = omega (arith, f.0) in
    let q : b ^ (k - 1) ≤ n = g.2 w in
    let r : n < b ^ j = f.1 in
    omega arith

pub one_number : (b l n j k : ℕ) → 0 < b → IsDigitCount b l n j → IsDigitCount b l n k → j ≡ k
one_number b l n j k z f g = go (ltb j k) refl (ltb k j) refl
  where
    go : (s : Bool) → ltb j k ≡ s → (t : Bool) → ltb k j ≡ t → j ≡ k
    go true e t e' = absurd (more b l n j k z f g (ltb-true j k e))
    go false e true e' = absurd (more b l n k j z g f (ltb-true k j e'))
    go false e false e' =
        let p : k ≤ j = ltb-false j k e in
        let q : j ≤ k = ltb-false k j e' in
        omega arith

last : (b n m : ℕ) → 1 ≤ m → (1 < m → b ^ (m - 1) ≤ n / b) → b ≤ n → 0 < b → b ^ m ≤ n
last b n zero l g p z = absurd (omega arith)
last b n (suc zero) l g p z = let q : b ^ 1 ≡ b = pow_one b in omega arith
last b n (suc (suc m)) l g p z =
    let e : suc (suc m) - 1 ≡ suc m = omega arith in
    let g' : b ^ suc m ≤ n / b = rw e at (g (omega arith)) in
    let q : b ^ suc m * b ≤ n = (le-div_iff_mul-le z).0 g' in
    let r : b ^ suc (suc m) ≡ b ^ suc m * b = pow-suc b (suc m) in
    omega arith

wider : (b n m : ℕ) → 1 < b → b ≤ n → IsDigitCount b 1 (n / b) m → IsDigitCount b 1 n (suc m)
wider b n m z p i =
    let z' : 0 < b = omega arith in
    let u : n < b ^ m * b = (div-lt_iff_lt-mul z').0 i.1 in
    let v : b ^ suc m ≡ b ^ m * b = pow-suc b m in
    let e : suc m - 1 ≡ m = omega arith in
    (omega arith, omega arith, λ w. rw e (last b n m i.0 i.2 p z'))

pub fewest : (b f n : ℕ) → 1 < b → n < b ^ suc f → IsDigitCount b 1 n (places b f n)
unfolding places
fewest b zero n z h = (omega arith, h, λ w. absurd (let w' : 1 < 1 = w in omega arith))
fewest b (suc f) n z h =
    let z' : 0 < b = omega arith in
    let h' : n < b ^ suc f * b = rw (← pow-suc) h in
    go (ltb n b) refl (fewest b f (n / b) z ((div-lt_iff_lt-mul z').1 h'))
  where
    go : (t : Bool) → ltb n b ≡ t → IsDigitCount b 1 (n / b) (places b f (n / b)) → IsDigitCount b 1 n (elim t [ true ↦ 1 | false ↦ suc (places b f (n / b)) ])
    go true e i =
        let p : n < b = ltb-true n b e in
        let q : b ^ 1 ≡ b = pow_one b in
        (omega arith, omega arith, λ w. absurd (let w' : 1 < 1 = w in omega arith))
    go false e i = wider b n (places b f (n / b)) z (ltb-false n b e) i

-- a number is below the power of its successor
below_power : (n : ℕ) → n < 10 ^ suc n
below_power zero = let e : 10 ^ 1 ≡ 10 = pow_one 10 in omega arith
below_power (suc n) =
    let h : n < 10 ^ suc n = below_power n in
    let e : 10 ^ suc (suc n) ≡ 10 ^ suc n * 10 = pow-suc 10 (suc n) in
    omega arith

pub fewest_decimal : (n : ℕ) → IsDigitCount 10 1 n (places 10 n n)
fewest_decimal n = fewest 10 n n (omega arith) (below_power n)

pub decimal_is : (n k : ℕ) → IsDigitCount 10 1 n k → io_digits 10 k n ≡ decimal n
unfolding decimal
decimal_is n k f = digits_same 10 k n ∙ ap (λ (j : ℕ). digits 10 j n) (one_number 10 1 n k (places 10 n n) (omega arith) f (fewest_decimal n))

pub bits_is : (n k : ℕ) → n < 4294967296 → IsDigitCount 16 8 n k → io_digits 16 k n ≡ eight_digits n
unfolding eight_digits
bits_is n k h f = digits_same 16 k n ∙ ap (λ (j : ℕ). digits 16 j n) (one_number 16 8 n k 8 (omega arith) f (omega arith, omega arith, λ w. absurd (let w' : 8 < 8 = w in omega arith)))

pub decimal_short : (n k : ℕ) → n < 4294967296 → IsDigitCount 10 1 n k → k ≤ 20
decimal_short n k h f = go (ltb 20 k) refl
  where
    go : (t : Bool) → ltb 20 k ≡ t → k ≤ 20
    go false e = ltb-false 20 k e
    go true e =
        let l : 20 < k = ltb-true 20 k e in
        let g : 20 ≤ k - 1 = omega arith in
        let p : 10 ^ 20 ≤ 10 ^ (k - 1) = pow-le-pow_right {n = 10} (omega arith) g in
        let q : 10 ^ (k - 1) ≤ n = f.2 (omega arith) in
        absurd (omega arith)

pub bits_short : (n k : ℕ) → n < 4294967296 → IsDigitCount 16 8 n k → k ≤ 16
bits_short n k h f =
    let e : k ≡ 8 = one_number 16 8 n k 8 (omega arith) f (omega arith, omega arith, λ w. absurd (let w' : 8 < 8 = w in omega arith)) in
    omega arith
