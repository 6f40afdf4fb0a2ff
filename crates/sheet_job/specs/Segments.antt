-- The segments of the table, each with its uses, are the definition's. Assumes nothing.
use Rattle.std.specs.Prelude.{◌≡◌, refl, List, [], ◌∷◌, ℕ, ◌+◌, ◌-◌, ◌*◌, ◌≤◌, ◌<◌, length, get_or, ltb}
use Rattle.std.proofs.Common.{ap, ◌∙◌, arith, lt-ltb, le-ltb}
use Rattle.words.specs.Tab.{tab}
use Rattle.words.specs.RowsAt.{rows_at, rows_at_more}
use Rattle.definition.specs.declared.Use.{Use}
use Rattle.definition.specs.Types.{Segment}
use Rattle.definition.specs.JobSheet.{Word as Named, opt, bank, class, reg, block, value, vgroup, operand, hint, seg, use', end, Record, only, use_of, flags_of as flags_in, segment_of as segment_in, segments_of}
use Rattle.definition.specs.Conversion.{rec}
use Rattle.uses.specs.Rows.{raw_row}
use Rattle.job.specs.Layout.{flags_of, seg_row, seg_at, pick_n, next_use, job_uses, segment_of}
use Rattle.sheet_rules.specs.Places.{bases, base_of, widths, width_of, stored_of, stored_fields}
use Rattle.sheet_laws.specs.Stands.{Row, Stands, bump}
use Rattle.sheet_job.specs.Fixed.{table_at, fixed_layout}
use Rattle.sheet_job.specs.Decode.{use_read}

-- the first use behind those of the segments before segment s
unfoldable pub next_first : List ℕ → ℕ → ℕ
next_first T s = pick_n (ltb s (get_or T 8 0)) (get_or T (13974 + s * 5 + 4) 0) (get_or T 9 0)

-- from segment c 9 and use c 10 on
abbrev pub Claim : List ℕ → (ℕ → ℕ) → List Record → Type 0
Claim T c rs =
    (tab (segment_of raw_row T (fixed_layout T)) (c 9) (length (only seg rs)) ≡ (segments_of rs).made)
    × ((rows_at raw_row T (19094 + c 10 * 6) 6 (next_first T (c 9) - c 10) ≡ (segments_of rs).waiting)
    × (c 10 ≤ next_first T (c 9)))

segment_read : (T : List ℕ) (i u : ℕ) (ns : List ℕ) (us : List Use) → Row T 9 i ns u → rows_at raw_row T (19094 + u * 6) 6 (next_first T (i + 1) - u) ≡ us
    → segment_of raw_row T (fixed_layout T) i ≡ segment_in ns us
unfolding segment_of seg_at seg_row flags_of next_use job_uses segment_in flags_in fixed_layout table_at next_first bases base_of widths width_of stored_of stored_fields
segment_read T i u ns us r e =
    let z : 13974 + i * 5 ≡ 13974 + i * 5 + (0 + 0) = omega arith in
    let f₀ : get_or T (13974 + i * 5) 0 ≡ get_or ns 0 0 = ap (λ (a : ℕ). get_or T a 0) z ∙ r.fields 0 (omega arith) in
    let f₁ : get_or T (13974 + i * 5 + 1) 0 ≡ get_or ns 1 0 = r.fields 1 (omega arith) in
    let f₂ : get_or T (13974 + i * 5 + 2) 0 ≡ get_or ns 2 0 = r.fields 2 (omega arith) in
    let f₃ : get_or T (13974 + i * 5 + 3) 0 ≡ get_or ns 3 0 = r.fields 3 (omega arith) in
    let f₄ : get_or T (13974 + i * 5 + 4) 0 ≡ u = r.before refl in
    rw (f₀, f₁, f₂, f₃, f₄, e)

next_here : (T : List ℕ) (i u : ℕ) (ns : List ℕ) → Row T 9 i ns u → i < get_or T 8 0 → next_first T i ≡ u
unfolding next_first bases base_of widths width_of
next_here T i u ns r h = rw (lt-ltb i (get_or T 8 0) h) (r.before refl)

next_none : (T : List ℕ) (i : ℕ) → get_or T 8 0 ≤ i → next_first T i ≡ get_or T 9 0
unfolding next_first
next_none T i h = rw (le-ltb i (get_or T 8 0) h)

step : (T : List ℕ) (w : Named) (ns : List ℕ) (rs : List Record) (c : ℕ → ℕ) → Stands T c (rec w ns ∷ rs)
    → get_or T 8 0 ≡ c 9 + length (only seg (rec w ns ∷ rs)) → get_or T 9 0 ≡ c 10 + length (only use' (rec w ns ∷ rs))
    → ((d : ℕ → ℕ) → Stands T d rs → get_or T 8 0 ≡ d 9 + length (only seg rs) → get_or T 9 0 ≡ d 10 + length (only use' rs) → Claim T d rs)
    → Claim T c (rec w ns ∷ rs)
unfolding only segments_of bases base_of widths width_of rows_at
step T opt ns rs c s p q ih = ih (bump 0 c) s.1 p q
step T bank ns rs c s p q ih = ih (bump 1 c) s.1 p q
step T class ns rs c s p q ih = ih (bump 2 c) s.1 p q
step T reg ns rs c s p q ih = ih (bump 3 c) s.1 p q
step T block ns rs c s p q ih = ih (bump 4 c) s.1 p q
step T value ns rs c s p q ih = ih (bump 5 c) s.1 p q
step T vgroup ns rs c s p q ih = ih (bump 6 c) s.1 p q
step T operand ns rs c s p q ih = ih (bump 7 c) s.1 p q
step T hint ns rs c s p q ih = ih (bump 8 c) s.1 p q
step T end ns rs c s p q ih = ih (bump 11 c) s.1 p q
step T seg ns rs c s p q ih = own (s.0 (omega arith) (omega arith)) (ih (bump 9 c) s.1 (omega (arith, p)) q)
  where
    own : Row T 9 (c 9) ns (c 10) → Claim T (bump 9 c) rs → Claim T c (rec seg ns ∷ rs)
    own r k =
        let e : next_first T (c 9) ≡ c 10 = next_here T (c 9) (c 10) ns r (omega (arith, p)) in
        let z : next_first T (c 9) - c 10 ≡ 0 = omega arith in (
          ap (λ (x : Segment). x ∷ tab (segment_of raw_row T (fixed_layout T)) (c 9 + 1) (length (only seg rs))) (segment_read T (c 9) (c 10) ns (segments_of rs).waiting r k.1.0)
              ∙ ap (λ (l : List Segment). segment_in ns (segments_of rs).waiting ∷ l) k.0,
          (ap (λ (n : ℕ). rows_at raw_row T (19094 + c 10 * 6) 6 n) z, omega arith),
        )
step T use' ns rs c s p q ih = own (s.0 (omega arith) (omega arith)) (ih (bump 10 c) s.1 p (omega (arith, q)))
  where
    own : Row T 10 (c 10) ns (c 10) → Claim T (bump 10 c) rs → Claim T c (rec use' ns ∷ rs)
    own r k =
        let h : c 10 + 1 ≤ next_first T (c 9) = k.1.1 in (
          k.0,
          (
            rows_at_more raw_row T 19094 6 (next_first T (c 9)) (c 10) (omega arith)
                ∙ ap (λ (x : Use). x ∷ rows_at raw_row T (19094 + (c 10 + 1) * 6) 6 (next_first T (c 9) - (c 10 + 1))) (use_read T (c 10) ns (c 10) r)
                ∙ ap (λ (l : List Use). use_of ns ∷ l) k.1.0,
            omega arith,
          ),
        )

pub claim : (T : List ℕ) (rs : List Record) (c : ℕ → ℕ) → Stands T c rs → get_or T 8 0 ≡ c 9 + length (only seg rs) → get_or T 9 0 ≡ c 10 + length (only use' rs) → Claim T c rs
unfolding only segments_of rows_at
claim T [] c s p q =
    let e : next_first T (c 9) ≡ c 10 = next_none T (c 9) (omega (arith, p)) ∙ (let q' : get_or T 9 0 ≡ c 10 + 0 = q in omega arith) in
    let z : next_first T (c 9) - c 10 ≡ 0 = omega arith in
    (refl, (ap (λ (n : ℕ). rows_at raw_row T (19094 + c 10 * 6) 6 n) z, omega arith))
claim T (r ∷ rs) c s p q = step T r.word r.fields rs c s p q (λ d t a b. claim T rs d t a b)

-- THE LAW: the segments of the whole table
pub segments_read : (T : List ℕ) (rs : List Record) → Stands T (λ k. 0) rs → get_or T 8 0 ≡ length (only seg rs) → get_or T 9 0 ≡ length (only use' rs)
    → tab (segment_of raw_row T (fixed_layout T)) 0 (get_or T 8 0) ≡ (segments_of rs).made
segments_read T rs s p q =
    ap (λ (n : ℕ). tab (segment_of raw_row T (fixed_layout T)) 0 n) p
    ∙ (claim T rs (λ k. 0) s (omega (arith, p)) (omega (arith, q))).0
