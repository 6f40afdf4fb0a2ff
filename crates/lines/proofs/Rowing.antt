-- A row of words written field by field, and the words and ends of records. Assumes nothing.
use mathlib.Core.Path.{◌≡◌, refl, sym, ap, ◌∙◌}
use mathlib.Core.Bool.{Bool, true, false}
use mathlib.Core.List.{List, [], ◌∷◌, ◌++◌, append_assoc, append-nil}
use Prim.Native.Nat.{ℕ, ◌+◌, ◌-◌, ◌*◌, ◌≤◌, ◌<◌}
use native.Mathlib.Omega.{arith}
use native.Mathlib.Numerals.{add-one}
use lib.ListN.{length, get_or, take, drop, length-drop}
use Rattle.std.specs.Prelude.{Option, Some, None}
use lib.Seq.{take-suc, length-take-le, get_or-drop}
use Rattle.definition.specs.Text.{decimal, eight_digits}
use Rattle.lines.specs.Wrote.{Wrote}
use Rattle.lines.specs.Laws.{then, as_text}
use Rattle.lines.specs.Rows.{bits_at, value_text, row_fields, tabs, row_text, more_text}

pub value_bits : (t : Bool) (v : ℕ) → t ≡ true → 9 ∷ eight_digits v ≡ 9 ∷ value_text t v
unfolding value_text
value_bits t v e = ap (λ (x : Bool). 9 ∷ value_text x v) (sym e)

pub value_number : (t : Bool) (v : ℕ) → t ≡ false → 9 ∷ decimal v ≡ 9 ∷ value_text t v
unfolding value_text
value_number t v e = ap (λ (x : Bool). 9 ∷ value_text x v) (sym e)

pub more_field : (more : Option ℕ) (k : ℕ) → more ≡ Some k → (9 ∷ decimal k) ++ (10 ∷ []) ≡ more_text more
unfolding more_text
more_field more k e =
    ap (λ (l : List ℕ). 9 ∷ (l ++ (10 ∷ []))) (sym (append-nil (decimal k))) ∙ ap more_text (sym e)

pub more_none : (more : Option ℕ) → more ≡ None → 10 ∷ [] ≡ more_text more
unfolding more_text
more_none more e = ap more_text (sym e)

-- one field more
fields_more : (key j : ℕ) (vs : List ℕ) (v : ℕ)
    → tabs (row_fields key j (vs ++ (v ∷ [])))
    ≡ tabs (row_fields key j vs) ++ (9 ∷ value_text (bits_at key (j + length vs)) v)
unfolding row_fields
fields_more key j [] v =
    let e : j ≡ j + 0 = omega arith in
    ap (λ (l : List ℕ). 9 ∷ l) (append-nil (value_text (bits_at key j) v))
    ∙ ap (λ (i : ℕ). 9 ∷ value_text (bits_at key i) v) e
fields_more key j (u ∷ vs) v =
    let e : j + 1 + length vs ≡ j + length (u ∷ vs) = omega arith in
    ap (λ (l : List ℕ). 9 ∷ (f ++ l)) (fields_more key (j + 1) vs v)
    ∙ ap (λ (i : ℕ). 9 ∷ (f ++ (fs ++ g i))) e
    ∙ sym (append_assoc (9 ∷ f) fs (g (j + length (u ∷ vs))))
  where
    f : List ℕ
    f = value_text (bits_at key j) u

    fs : List ℕ
    fs = tabs (row_fields key (j + 1) vs)

    g : ℕ → List ℕ
    g i = 9 ∷ value_text (bits_at key i) v

row_more : (key : ℕ) (vs : List ℕ) (v : ℕ)
    → row_text key (vs ++ (v ∷ [])) ≡ row_text key vs ++ (9 ∷ value_text (bits_at key (length vs)) v)
unfolding row_text
row_more key vs v =
    let e : 0 + length vs ≡ length vs = omega arith in
    fields_more key 0 vs v ∙ ap (λ (i : ℕ). tabs (row_fields key 0 vs) ++ (9 ∷ value_text (bits_at key i) v)) e

-- the fields so far: j of the n words from word a on
pub record Rowing (out₀ : List ℕ) (at key : ℕ) (ws : List ℕ) (a n : ℕ) (out : List ℕ) (end j : ℕ) : Type 0 where
  pub within : j ≤ n
  pub long : length out ≡ length out₀
  pub wrote : Wrote (j * 21) at out₀ end out (row_text key (take j (drop a ws)))

pub row_start : (out : List ℕ) (at key : ℕ) (ws : List ℕ) (a n : ℕ) → Rowing out at key ws a n out at 0
unfolding row_text
row_start out at key ws a n = record {
  within = omega arith;
  long = refl;
  wrote = record { most = omega arith; is = sym (append-nil (take at out)) };
}

pub row_next : {out₀ ws out o : List ℕ} {at key a n end j q v : ℕ} {t : Bool}
    → Rowing out₀ at key ws a n out end j → j < n → a + n ≤ length ws → length o ≡ length out
    → t ≡ bits_at key j → v ≡ get_or ws (a + j) 0 → Wrote 21 end out q o (9 ∷ value_text t v)
    → Rowing out₀ at key ws a n o q (j + 1)
row_next {out₀} {ws} {out} {o} {at} {key} {a} {n} {end} {j} {q} {v} {t} r h f l b e w =
    let d : length vs ≡ length ws - a = length-drop a ws in
    let g : j < length vs = omega arith in
    let p : length (take j vs) ≡ j = length-take-le j vs (omega arith) in
    record {
      within = omega arith;
      long = l ∙ r.long;
      wrote =
          as_text ((j + 1) * 21) _ (then r.wrote w) (omega arith)
          (sym
          (ap (λ (i : ℕ). row_text key (take i vs)) (add-one j)
          ∙ ap (row_text key) (take-suc vs j 0 g)
          ∙ row_more key (take j vs) (get_or vs j 0)
          ∙ ap (λ (i : ℕ). row_text key (take j vs) ++ (9 ∷ value_text (bits_at key i) (get_or vs j 0))) p
          ∙ ap (λ (x : Bool). row_text key (take j vs) ++ (9 ∷ value_text x (get_or vs j 0))) (sym b)
          ∙ ap (λ (x : ℕ). row_text key (take j vs) ++ (9 ∷ value_text t x)) (get_or-drop a ws j 0 ∙ sym e)));
    }
  where
    vs : List ℕ
    vs = drop a ws
