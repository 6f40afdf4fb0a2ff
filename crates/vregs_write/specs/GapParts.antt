-- A gap opened in one of the tables. Assumes nothing.
use mathlib.Core.Path.{◌≡◌, sym, ap, ◌∙◌}
use mathlib.Core.List.{List, ◌++◌, append_assoc}
use Prim.Native.Nat.{ℕ, ◌+◌, ◌-◌, ◌≤◌, ◌<◌}
use native.Mathlib.Omega.{arith}
use lib.ListN.{length, set, take, drop, replicate, length-append, length-replicate}
use lib.Seq.{slice, take_at, drop_at, drop-append-add}
use Rattle.std.proofs.lemmas.List.{drop-append-le}
use Rattle.words.specs.Parts.{pad, drop_replicate}
use Rattle.words.specs.Moves.{Gap}
use Rattle.words.specs.Tables.{Table, size_of, table_at, words_at, base_of, Tabled, change}

-- a gap past_pieces the words x, in words and what is past_pieces them
gap_between : (x y t gap O : List ℕ) (a e n : ℕ) → O ≡ x ++ (y ++ t) → length x ≡ a → length x + length y ≡ e
    → take a O ++ (gap ++ (slice a e O ++ drop (e + n) O)) ≡ x ++ (gap ++ (y ++ drop n t))
gap_between x y t gap O a e n eo la le =
    let whole : O ≡ (x ++ y) ++ t = eo ∙ sym (append_assoc x y t) in
    let lxy : length (x ++ y) ≡ e = length-append x y ∙ le in
    let f : take a O ≡ x = ap (λ (l : List ℕ). take a l) eo ∙ take_at x (y ++ t) a la in
    let s : slice a e O ≡ y = ap (λ (l : List ℕ). drop a (take e l)) whole ∙ ap (λ (l : List ℕ). drop a l) (take_at (x ++ y) t e lxy) ∙ drop_at x y a la in
    let d : drop (e + n) O ≡ drop n t = ap (λ (l : List ℕ). drop (e + n) l) whole ∙ ap (λ (m : ℕ). drop (m + n) ((x ++ y) ++ t)) (sym lxy) ∙ drop-append-add (x ++ y) t n in
    λ i. f i ++ (gap ++ (s i ++ d i))

module _ (ts : List Table) (cs : List (List ℕ)) (O : List ℕ) (l : Tabled ts cs O) (i : ℕ) (h : i < length cs) where
  -- between the words x and y of table i
  pub put_gap : (a e n : ℕ) (x y O' : List ℕ) (g : Gap O a e n O') → words_at i cs ≡ x ++ y → a ≡ base_of i ts + length x → e ≡ base_of i ts + (length x + length y)
      → length x + length y + n ≤ size_of (table_at i ts) → Tabled ts (set cs i (x ++ (g.gap ++ y))) O'
  unfolding pad
  put_gap a e n x y O' g ew ea ee f =
      let N : ℕ = size_of (table_at i ts) in
      let lg : length (x ++ (g.gap ++ y)) ≡ length x + (n + length y) = length-append x (g.gap ++ y) ∙ (let q = length-append g.gap y in omega (arith, g.long)) in
      change ts cs O l i h (x ++ (g.gap ++ y)) O' (omega arith) (λ p z lp eo.
      let Z : List ℕ = replicate (N - length (words_at i cs)) 0 in
      let lw : length (words_at i cs) ≡ length x + length y = ap length ew ∙ length-append x y in
      let lz : length Z ≡ N - length (words_at i cs) = length-replicate (N - length (words_at i cs)) 0 in
      let here : O ≡ (p ++ x) ++ (y ++ (Z ++ z)) = eo ∙ ap (λ (t : List ℕ). p ++ ((t ++ Z) ++ z)) ew ∙ simp append_assoc in
      let rest : drop n (Z ++ z) ≡ replicate (N - length (x ++ (g.gap ++ y))) 0 ++ z =
      drop-append-le n Z z (omega arith) ∙ ap (λ (t : List ℕ). t ++ z) (drop_replicate n (N - length (words_at i cs)) 0 ∙ (let k : N - length (words_at i cs) - n ≡ N - length (x ++ (g.gap ++ y)) = omega arith in ap (λ (m : ℕ). replicate m 0) k)) in
      g.is
      ∙ gap_between (p ++ x) y (Z ++ z) g.gap O a e n here (length-append p x ∙ omega arith) (let q = length-append p x in omega arith)
      ∙ ap (λ (t : List ℕ). (p ++ x) ++ (g.gap ++ (y ++ t))) rest
      ∙ simp append_assoc)
