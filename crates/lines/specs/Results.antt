-- What `vregs` prints can be told apart for different answers. Assumes nothing.
use Rattle.std.specs.Prelude.{◌≡◌, List, [], ◌∷◌, ◌++◌, ℕ, suc, ◌<◌, get_or}
use Rattle.std.proofs.Common.{sym, ap, ◌∙◌, append_assoc, arith}
use Rattle.std.proofs.Math.Option.{Option, none, some}
use Rattle.std.specs.Float.{binary32}
use Rattle.std.specs.Float.Ieee.{to_bits}
use Rattle.definition.specs.declared.Use.{Use}
use Rattle.definition.specs.declared.VirtReg.{VirtReg}
use Rattle.definition.specs.Types.{Piece, Register}
use Rattle.definition.specs.Build.{Result}
use Rattle.definition.specs.Lines.{Line, vreg_line_lem, seg_line_lem, use_line_lem, group_line_lem, end_line_lem, use_lines, seg_lines, vreg_lines, group_lines, printed}
use Rattle.definition.specs.Text.{bytes, decimal, line, Fields, fields_of, lines_of}
use Rattle.definition.specs.RegisterSheet.{line_bytes, lines_bytes}
use Rattle.definition.specs.SheetForms.{sheet_number_of, SheetOut, given', refused', answer_text}
use Rattle.lines.specs.Clean.{clean_decimal, body, tabbed_body, feed_line, fields_back, lines_back}
use Rattle.lines.specs.Unprint.{Words, one_sheet, number, number_back}

-- the weights of a result are words
abbrev pub Weighed : List Register → Type 0
Weighed [] = Unit {0}
Weighed (r ∷ rs) = (to_bits binary32 r.weight < 4294967296) × Weighed rs

words_append : (ls ms : List Line) → Words ls → Words ms → Words (ls ++ ms)
words_append [] ms a b = b
words_append (l ∷ ls) ms a b = (a.0, words_append ls ms a.1 b)

words_uses : (us : List Use) → Words (use_lines us)
unfolding use_lines
words_uses [] = tt
words_uses (u ∷ us) = (tt, words_uses us)

words_segs : (ps : List Piece) → Words (seg_lines ps)
unfolding seg_lines
words_segs [] = tt
words_segs (p ∷ ps) = (tt, words_append (use_lines p.seg.uses) (seg_lines ps) (words_uses p.seg.uses) (words_segs ps))

words_vregs : (n : ℕ) (rs : List Register) → Weighed rs → Words (vreg_lines n rs)
unfolding vreg_lines
words_vregs n [] w = tt
words_vregs n (r ∷ rs) w = (w.0, words_append (seg_lines r.pieces) (vreg_lines (suc n) rs) (words_segs r.pieces) (words_vregs (suc n) rs w.1))

words_groups : (n : ℕ) (gs : List (List (Option VirtReg))) → Words (group_lines n gs)
unfolding group_lines
words_groups n [] = tt
words_groups n (g ∷ gs) = (tt, words_groups (suc n) gs)

pub printed_words : (res : Result) → Weighed res.registers → Words (printed res)
unfolding printed
printed_words res w =
    words_append (vreg_lines 0 res.registers) _ (words_vregs 0 res.registers w) (words_append (group_lines 0 res.groups) _ (words_groups 0 res.groups) (tt, tt))

-- ---- a refusal

bodies : Option (List (List ℕ)) → List (List ℕ)
bodies none = []
bodies (some ls) = ls

-- the number that a refusal's sheet has
refused_number : List ℕ → ℕ
refused_number bs = number (get_or (fields_of (get_or (bodies (lines_of bs)) 0 [])).rest 0 [])

refused_back : (n : ℕ) → refused_number (line "refused" (decimal n ∷ [])) ≡ n
unfolding refused_number bodies lines_of
refused_back n =
    let w : List ℕ = bytes "refused" in
    let fs : List (List ℕ) = decimal n ∷ [] in
    let e : line "refused" fs ≡ (w ++ body fs) ++ (10 ∷ []) = ap (λ (t : List ℕ). w ++ t) (tabbed_body fs) ∙ sym (append_assoc w (body fs) (10 ∷ [])) in
    let l : lines_of ((w ++ body fs) ++ (10 ∷ [])) ≡ some ((w ++ body fs) ∷ []) = lines_back (w ++ body fs) [] (feed_line w fs (omega arith, (omega arith, (omega arith, (omega arith, (omega arith, (omega arith, (omega arith, tt))))))) (clean_decimal n, tt)) in
    let f : fields_of (w ++ body fs) ≡ record { first = w; rest = fs } = fields_back w fs (omega arith, (omega arith, (omega arith, (omega arith, (omega arith, (omega arith, (omega arith, tt))))))) (clean_decimal n, tt) in
    ap (λ (t : List ℕ). number (get_or (fields_of (get_or (bodies (lines_of t)) 0 [])).rest 0 [])) e
    ∙ ap (λ (m : Option (List (List ℕ))). number (get_or (fields_of (get_or (bodies m) 0 [])).rest 0 [])) l
    ∙ ap (λ (r : Fields). number (get_or r.rest 0 [])) f
    ∙ number_back n

-- no line begins with an `r`
no_r : (ls : List Line) → get_or (lines_bytes ls) 0 0 ≡ 114 → ⊥
unfolding lines_bytes line_bytes
no_r [] e = omega (arith, e)
no_r (vreg_line_lem n s c w g i h ∷ ls) e = omega (arith, e)
no_r (seg_line_lem v a b f o ∷ ls) e = omega (arith, e)
no_r (use_line_lem u ∷ ls) e = omega (arith, e)
no_r (group_line_lem n ms ∷ ls) e = omega (arith, e)
no_r (end_line_lem r g ∷ ls) e = omega (arith, e)

-- ---- the law

abbrev pub Fit : SheetOut Result → Type 0
Fit (given' res) = Weighed res.registers
Fit (refused' r) = Unit {0}

-- "Results are equal if the vreg, seg, use, group and end lines for them are the same"; of a refusal the number is told
abbrev pub SameAnswer : SheetOut Result → SheetOut Result → Type 0
SameAnswer (given' a) (given' b) = printed a ≡ printed b
SameAnswer (given' a) (refused' r) = ⊥
SameAnswer (refused' r) (given' b) = ⊥
SameAnswer (refused' r) (refused' s) = sheet_number_of r ≡ sheet_number_of s

-- THE LAW: equal sheets are equal answers
pub told_apart : (a b : SheetOut Result) → Fit a → Fit b → answer_text a ≡ answer_text b → SameAnswer a b
unfolding answer_text
told_apart (given' a) (given' b) f g e = one_sheet (printed a) (printed b) (printed_words a f) (printed_words b g) e
told_apart (given' a) (refused' r) f g e = no_r (printed a) (ap (λ (l : List ℕ). get_or l 0 0) e)
told_apart (refused' r) (given' b) f g e = no_r (printed b) (ap (λ (l : List ℕ). get_or l 0 0) (sym e))
told_apart (refused' r) (refused' s) f g e = sym (refused_back (sheet_number_of r)) ∙ ap refused_number e ∙ refused_back (sheet_number_of s)
