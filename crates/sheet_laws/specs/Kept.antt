-- The written fields that were kept are those of the records, in order. Assumes nothing.
use Rattle.std.specs.Prelude.{◌≡◌, refl, List, [], ◌∷◌, ◌++◌, true, ℕ, ◌+◌, ◌-◌, ◌≤◌, ◌<◌, length, take, drop, set, replicate, ltb}
use Rattle.std.proofs.Common.{sym, ap, subst, ◌∙◌, append_assoc, append-nil, arith, length-append, drop_at, lt-ltb, le-ltb}
use Rattle.std.proofs.lemmas.List.{replicate-append-replicate, set-append_left}
use Rattle.std.proofs.Math.Seq.{take-append_seam}
use Rattle.words.specs.Parts.{set_past, pad, length_pad, pad_splice, pad_none}
use Rattle.words.specs.Moves.{store_1}
use Rattle.definition.specs.JobSheet.{Word, opt, bank, class, reg, block, value, vgroup, operand, hint, seg, use', end}
use Rattle.definition.specs.JobSheet.{Record, at, only}
use Rattle.definition.specs.SheetForms.{written_firsts, written_sets}
use Rattle.definition.specs.Conversion.{rec}
use Rattle.sheet_rules.specs.Rules.{low_of}
use Rattle.sheet.specs.Front.{Keeping, keep_of}
use Rattle.sheet_laws.specs.Bare.{keep_by, keep_all}
use Rattle.sheet_laws.specs.Jobs.{WrittenSmall, AllBared}
use Rattle.sheet_laws.specs.Sheet.{none_kept}

-- the words of the table: 512 places for first instructions, 1,024 for sets, zeros behind those in use
unfoldable pub kept_words : List ℕ → List ℕ → List ℕ
unfolding pad
kept_words firsts sets = pad 512 firsts ++ pad 1024 sets

pub record Holding (t : Keeping) (firsts sets : List ℕ) : Type 0 where
  pub counts_firsts : t.kept.firsts ≡ length firsts
  pub counts_sets : t.kept.sets ≡ length sets
  pub words : t.words ≡ kept_words firsts sets

none_held : Holding (none_kept 1536) [] []
unfolding kept_words
none_held = record {
  counts_firsts = refl;
  counts_sets = refl;
  words = sym (replicate-append-replicate 512 1024 0) ∙ ap (λ (l : List ℕ). l ++ replicate 1024 0) (sym (pad_none 512))
      ∙ ap (λ (l : List ℕ). pad 512 [] ++ l) (sym (pad_none 1024));
}

pad_next : (n : ℕ) (xs : List ℕ) (v : ℕ) → length xs < n → set (pad n xs) (length xs) v ≡ pad n (xs ++ (v ∷ []))
pad_next n xs v h = store_1 (pad n xs) (length xs) v (omega (arith, length_pad n xs (omega arith)))
    ∙ pad_splice n xs (v ∷ []) (length xs) refl

low_small : (v : ℕ) → v ≤ 4294967295 → low_of v ≡ v
unfolding low_of
low_small v h = rw (le-ltb 4294967295 v h)

keep_first : (t : Keeping) (firsts sets : List ℕ) (v : ℕ) → Holding t firsts sets → length firsts < 512 → v ≤ 4294967295
    → Holding (keep_of 4 v t) (firsts ++ (v ∷ [])) sets
unfolding keep_of kept_words
keep_first t firsts sets v h l s =
    let e : ltb t.kept.firsts 512 ≡ true = lt-ltb t.kept.firsts 512 (omega (arith, h.counts_firsts)) in
    let p : length (pad 512 firsts) ≡ 512 = length_pad 512 firsts (omega arith) in
    rw e
    (record {
      counts_firsts = ap (λ (k : ℕ). k + 1) h.counts_firsts ∙ sym (length-append firsts (v ∷ []));
      counts_sets = h.counts_sets;
      words =
          ap (λ (w : List ℕ). set w t.kept.firsts (low_of v)) h.words
          ∙ ap (λ (k : ℕ). set (pad 512 firsts ++ pad 1024 sets) k (low_of v)) h.counts_firsts
          ∙ ap (λ (k : ℕ). set (pad 512 firsts ++ pad 1024 sets) (length firsts) k) (low_small v s)
          ∙ set-append_left (pad 512 firsts) (pad 1024 sets) (length firsts) v (omega (arith, p))
          ∙ ap (λ (w : List ℕ). w ++ pad 1024 sets) (pad_next 512 firsts v l);
    })

keep_set : (t : Keeping) (firsts sets : List ℕ) (v : ℕ) → Holding t firsts sets → length firsts ≤ 512
    → length sets < 1024 → v ≤ 4294967295 → Holding (keep_of 9 v t) firsts (sets ++ (v ∷ []))
unfolding keep_of kept_words
keep_set t firsts sets v h f l s =
    let e : ltb t.kept.sets 1024 ≡ true = lt-ltb t.kept.sets 1024 (omega (arith, h.counts_sets)) in
    let p : length (pad 512 firsts) ≡ 512 = length_pad 512 firsts f in
    rw e
    (record {
      counts_firsts = h.counts_firsts;
      counts_sets = ap (λ (k : ℕ). k + 1) h.counts_sets ∙ sym (length-append sets (v ∷ []));
      words =
          ap (λ (w : List ℕ). set w (512 + t.kept.sets) (low_of v)) h.words
          ∙ ap (λ (k : ℕ). set (pad 512 firsts ++ pad 1024 sets) (512 + k) (low_of v)) h.counts_sets
          ∙ ap (λ (k : ℕ). set (pad 512 firsts ++ pad 1024 sets) (512 + length sets) k) (low_small v s)
          ∙ set_past (pad 512 firsts) (pad 1024 sets) (512 + length sets) (length sets) v (omega (arith, p))
          ∙ ap (λ (w : List ℕ). pad 512 firsts ++ w) (pad_next 1024 sets v l);
    })

-- all records, behind some
kept_on : (rs : List Record) → AllBared rs → (t : Keeping) (firsts sets : List ℕ) → Holding t firsts sets
    → length firsts + length (only block rs) ≤ 512 → length sets + length (only seg rs) ≤ 1024
    → Holding (keep_all t rs) (firsts ++ written_firsts rs) (sets ++ written_sets rs)
unfolding keep_all only written_firsts written_sets
kept_on [] b t firsts sets h p q = subst (λ (l : List ℕ). Holding t l (sets ++ [])) (sym (append-nil firsts))
    (subst (λ (l : List ℕ). Holding t firsts l) (sym (append-nil sets)) h)
kept_on (r ∷ rs) b t firsts sets h p q = by r.word b.0.small p q (kept_on rs b.1)
  where
    by : (w : Word) → WrittenSmall w r.fields → length firsts + length (only block (rec w r.fields ∷ rs)) ≤ 512
        → length sets + length (only seg (rec w r.fields ∷ rs)) ≤ 1024
        → ((u : Keeping) (xs ys : List ℕ) → Holding u xs ys → length xs + length (only block rs) ≤ 512
        → length ys + length (only seg rs) ≤ 1024
        → Holding (keep_all u rs) (xs ++ written_firsts rs) (ys ++ written_sets rs))
        → Holding (keep_all (keep_by w r.fields t) rs) (firsts ++ written_firsts (rec w r.fields ∷ rs))
        (sets ++ written_sets (rec w r.fields ∷ rs))
    by opt s p q ih = ih t firsts sets h p q
    by bank s p q ih = ih t firsts sets h p q
    by class s p q ih = ih t firsts sets h p q
    by reg s p q ih = ih t firsts sets h p q
    by block s p q ih =
        let v : ℕ = at r.fields 2 in
        let l : length (firsts ++ (v ∷ [])) ≡ length firsts + 1 = length-append firsts (v ∷ []) in
        subst (λ (xs : List ℕ). Holding (keep_all (keep_of 4 v t) rs) xs (sets ++ written_sets rs))
        (append_assoc firsts (v ∷ []) (written_firsts rs))
        (ih (keep_of 4 v t) (firsts ++ (v ∷ [])) sets (keep_first t firsts sets v h (omega arith) s)
        (omega (arith, l)) q)
    by value s p q ih = ih t firsts sets h p q
    by vgroup s p q ih = ih t firsts sets h p q
    by operand s p q ih = ih t firsts sets h p q
    by hint s p q ih = ih t firsts sets h p q
    by seg s p q ih =
        let v : ℕ = at r.fields 4 in
        let l : length (sets ++ (v ∷ [])) ≡ length sets + 1 = length-append sets (v ∷ []) in
        subst (λ (xs : List ℕ). Holding (keep_all (keep_of 9 v t) rs) (firsts ++ written_firsts rs) xs)
        (append_assoc sets (v ∷ []) (written_sets rs))
        (ih (keep_of 9 v t) firsts (sets ++ (v ∷ [])) (keep_set t firsts sets v h (omega arith) (omega arith) s) p
        (omega (arith, l)))
    by use' s p q ih = ih t firsts sets h p q
    by end s p q ih = ih t firsts sets h p q

-- THE LAW: within the limits the table has all written fields, in order, and zeros behind them
pub kept_words_lem : (rs : List Record) → AllBared rs → length (only block rs) ≤ 512 → length (only seg rs) ≤ 1024
    → (keep_all (none_kept 1536) rs).words ≡ kept_words (written_firsts rs) (written_sets rs)
kept_words_lem rs b p q = (kept_on rs b (none_kept 1536) [] [] none_held (omega arith) (omega arith)).words

pad_front : (xs : List ℕ) → take (length xs) (pad 1024 xs) ≡ xs
unfolding pad
pad_front xs = take-append_seam xs (replicate (1024 - length xs) 0)

-- the first words of either part
pub first_words : (firsts sets : List ℕ) (n : ℕ) → length firsts ≡ n → take n (kept_words firsts sets) ≡ firsts
unfolding kept_words pad
first_words firsts sets n e =
    ap (λ (k : ℕ). take k ((firsts ++ replicate (512 - length firsts) 0) ++ pad 1024 sets)) (sym e)
    ∙ ap (take (length firsts)) (append_assoc firsts (replicate (512 - length firsts) 0) (pad 1024 sets))
    ∙ take-append_seam firsts (replicate (512 - length firsts) 0 ++ pad 1024 sets)

pub set_words : (firsts sets : List ℕ) (n : ℕ) → length firsts ≤ 512 → length sets ≡ n
    → take n (drop 512 (kept_words firsts sets)) ≡ sets
unfolding kept_words
set_words firsts sets n f e = ap (take n) (drop_at (pad 512 firsts) (pad 1024 sets) 512 (length_pad 512 firsts f))
    ∙ last
  where
    last : take n (pad 1024 sets) ≡ sets
    last = ap (λ (k : ℕ). take k (pad 1024 sets)) (sym e) ∙ pad_front sets
