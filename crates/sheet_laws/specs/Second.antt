-- The lines of a sheet of the second form are its records. Assumes nothing.
use Rattle.std.specs.Prelude.{◌≡◌, Bool, not, length, take, Some, None}
use Rattle.std.proofs.Math.Path.{refl, sym, ap}
use Rattle.std.proofs.Common.{◌∙◌}
use mathlib.Core.List.{List, [], ◌∷◌, ◌++◌}
use Rattle.std.proofs.Math.Bool.{true, false, cond}
use Rattle.std.proofs.Math.Option.{Option, none, some}
use Prim.Native.Nat.{ℕ, zero, suc}
use Rattle.std.proofs.Math.Dec.{eqb}
use Rattle.definition.specs.Text.{◌>>=◌, fields_of, read_number}
use Rattle.definition.specs.JobSheet.{Word, opt, bank, class, reg, block, value, vgroup, operand, hint, seg, use', end}
use Rattle.definition.specs.JobSheet.{word_number, all_words, word_among, Form, number, bits, use_flags, read_fields}
use Rattle.definition.specs.JobSheet.{read_record, Record, record_of, at}
use Rattle.definition.specs.SheetForms.{read_second, second_record, second_records}
use Rattle.definition.specs.Conversion.{rec, bare_fields, shrunk}
use Rattle.sheet_rules.specs.Rules.{key_of, follows_of}
use Rattle.sheet.specs.Fields.{begin_of, start_of}
use Rattle.sheet.specs.Front.{Keeping, keep_of}
use Rattle.sheet_laws.specs.Words.{Bytes, spelled, word_of, record_word}
use Rattle.sheet_laws.specs.Split.{Seen, gone, view_n, on, close_r, field_s, fields_s, line_s, done_s}
use Rattle.sheet_laws.specs.Table.{Filled, keyed, put}
use Rattle.sheet_laws.specs.Records.{AllBytes, placed, line_p, started, Named?, named, no_follower, fields_bytes}
use Rattle.sheet_laws.specs.Records.{first_field, fields_record, fields_record_lem, line_record, go_s}
use Rattle.sheet_laws.specs.Sheets.{On}
use Rattle.sheet_laws.specs.Views.{Viewed, nought, with_p, word, line_v, lines_v}
use Rattle.sheet_laws.specs.Lines.{Parted, last_of, keep_if, cut_s, next_s, word_s, word_line}
use Rattle.sheet_laws.specs.Bare.{bare, keep_by, keep_all, fields_cut, fields_long, take_before}
use Rattle.sheet_laws.specs.Bare.{at_last}

-- the record of a line's fields in the second form
abbrev second_fields : List ℕ → List (List ℕ) → Option Record
second_fields c fs = word_among all_words c >>= λ w. read_second w fs >>= λ ns. some (rec w ns)

-- the reader behind a record: what is kept of it, and the bare one in the table
abbrev pub line_q : ℕ → Filled → Keeping → Option Record → Viewed
line_q prev f t none = nought
line_q prev f t (some r) = cond (not (follows_of prev (keyed r))) nought
    (with_p word (keep_by r.word r.fields t) (placed (keyed r) (put f (bare r))))

module _ (prev : ℕ) (f : Filled) (t : Keeping) where
  -- ---- a record that has no written field

  plain_record : (w : Word) → ((ns : List ℕ) → bare_fields w ns ≡ ns) → ((ns : List ℕ) → keep_by w ns t ≡ t)
      → (m : Option (List ℕ))
      → with_p word t (line_p prev f (m >>= λ ns. some (rec w ns))) ≡ line_q prev f t (m >>= λ ns. some (rec w ns))
  plain_record w b k none = refl
  plain_record w b k (some ns) = go (not (follows_of prev (word_number w)))
    where
      go : (u : Bool) → with_p word t (cond u gone (placed (word_number w) (put f (rec w ns))))
          ≡ cond u nought (with_p word (keep_by w ns t) (placed (word_number w) (put f (rec w (bare_fields w ns)))))
      go true = refl
      go false =
          ap (λ (s : Keeping). with_p word s (placed (word_number w) (put f (rec w ns)))) (sym (k ns))
          ∙ ap (λ (xs : List ℕ). with_p word (keep_by w ns t) (placed (word_number w) (put f (rec w xs)))) (sym (b ns))

  -- nothing behind the word
  no_fields : (w : Word)
      → with_p word t (line_p prev f (read_record w [] >>= λ ns. some (rec w ns)))
      ≡ line_q prev f t (read_second w [] >>= λ ns. some (rec w ns))
  unfolding read_second read_record read_fields
  no_fields opt = plain_record opt (λ ns. refl) (λ ns. refl) (read_record opt [])
  no_fields bank = plain_record bank (λ ns. refl) (λ ns. refl) (read_record bank [])
  no_fields class = plain_record class (λ ns. refl) (λ ns. refl) (read_record class [])
  no_fields reg = plain_record reg (λ ns. refl) (λ ns. refl) (read_record reg [])
  no_fields block = refl
  no_fields value = plain_record value (λ ns. refl) (λ ns. refl) (read_record value [])
  no_fields vgroup = plain_record vgroup (λ ns. refl) (λ ns. refl) (read_record vgroup [])
  no_fields operand = plain_record operand (λ ns. refl) (λ ns. refl) (read_record operand [])
  no_fields hint = plain_record hint (λ ns. refl) (λ ns. refl) (read_record hint [])
  no_fields seg = refl
  no_fields use' = plain_record use' (λ ns. refl) (λ ns. refl) (read_record use' [])
  no_fields end = plain_record end (λ ns. refl) (λ ns. refl) (read_record end [])

  -- ---- a record that has one, behind k more fields than one

  module _ (w : Word) (ms : List Form) (k : ℕ) (l : length ms ≡ suc k) (r₁ : (fs : List (List ℕ))
      → read_record w fs ≡ read_fields ms fs)
      (r₂ : (fs : List (List ℕ)) → read_second w fs ≡ read_fields (ms ++ (number ∷ [])) fs)
      (b : (ns : List ℕ) → bare_fields w ns ≡ take (length ms) ns) (kb : (ns : List ℕ)
      → keep_by w ns t ≡ keep_of (word_number w) (at ns (length ms)) t) where
    written_some : (ns : List ℕ) (v : ℕ) → length ns ≡ length ms
        → with_p word (keep_of (word_number w) v t) (line_p prev f (some (rec w ns)))
        ≡ line_q prev f t (some (rec w (ns ++ (v ∷ []))))
    written_some ns v e = go (not (follows_of prev (word_number w)))
      where
        kept : keep_of (word_number w) v t ≡ keep_by w (ns ++ (v ∷ [])) t
        kept = ap (λ (x : ℕ). keep_of (word_number w) x t) (sym (at_last ns v (length ms) e)) ∙ sym (kb (ns ++ (v ∷ [])))

        cut : ns ≡ bare_fields w (ns ++ (v ∷ []))
        cut = sym (take_before ns v (length ms) e) ∙ sym (b (ns ++ (v ∷ [])))

        go : (u : Bool) → with_p word (keep_of (word_number w) v t)
            (cond u gone (placed (word_number w) (put f (rec w ns))))
            ≡ cond u nought (with_p word (keep_by w (ns ++ (v ∷ [])) t)
            (placed (word_number w) (put f (rec w (bare_fields w (ns ++ (v ∷ [])))))))
        go true = refl
        go false =
            ap (λ (s : Keeping). with_p word s (placed (word_number w) (put f (rec w ns)))) kept
            ∙ ap (λ (xs : List ℕ). with_p word (keep_by w (ns ++ (v ∷ [])) t)
            (placed (word_number w) (put f (rec w xs)))) cut

    both : (q : Option (List ℕ)) → On (λ (ns : List ℕ). length ns ≡ length ms) q → (m : Option ℕ)
        → keep_if (word_number w) t m (line_p prev f (q >>= λ ns. some (rec w ns)))
        ≡ line_q prev f t ((q >>= λ ns. m >>= λ v. some (ns ++ (v ∷ []))) >>= λ ns. some (rec w ns))
    both none h none = refl
    both none h (some v) = refl
    both (some ns) h none = refl
    both (some ns) h (some v) = written_some ns v h

    parted_bytes : (j : ℕ) (gs : List (List ℕ)) → AllBytes gs → On (λ (p : Parted). AllBytes p.0) (last_of j gs)
    unfolding last_of
    parted_bytes zero [] h = tt
    parted_bytes (suc j) [] h = tt
    parted_bytes zero (c ∷ []) h = tt
    parted_bytes zero (c ∷ d ∷ ds) h = tt
    parted_bytes (suc j) (g ∷ gs) h = go (last_of j gs) (parted_bytes j gs h.1)
      where
        onto : Parted → Option Parted
        onto p = some (g ∷ p.0, p.1)

        go : (m : Option Parted) → On (λ (p : Parted). AllBytes p.0) m
            → On (λ (p : Parted). AllBytes p.0) (m >>= λ p. onto p)
        go none h = tt
        go (some p) a = (h.0, a)

    written_record : (c g : List ℕ) (gs : List (List ℕ)) → word_among all_words c ≡ some w → Bytes c → Bytes g
        → AllBytes gs
        → cut_s (word_number w) t (field_s (placed prev f) c) g (last_of k gs)
        ≡ line_q prev f t (read_second w (g ∷ gs) >>= λ ns. some (rec w ns))
    unfolding last_of
    written_record c g gs e bc bg bs =
        go (last_of k gs) (parted_bytes k gs bs)
        ∙ ap (λ (q : Option Parted). line_q prev f t
        ((q >>= λ p. read_fields ms p.0 >>= λ ns. read_number 4294967295 p.1 >>= λ v. some (ns ++ (v ∷ []))) >>=
        λ ns. some (rec w ns))) (ap (λ (j : ℕ). last_of j (g ∷ gs)) (sym l))
        ∙ ap (λ (q : Option (List ℕ)). line_q prev f t (q >>= λ ns. some (rec w ns))) (sym (fields_cut ms (g ∷ gs))
        ∙ sym (r₂ (g ∷ gs)))
      where
        onto : Parted → Option Parted
        onto p = some (g ∷ p.0, p.1)

        line : (is : List (List ℕ)) → AllBytes is
            → on (fields_s (field_s (placed prev f) c) g is) close_r
            ≡ line_p prev f (read_fields ms (g ∷ is) >>= λ ns. some (rec w ns))
        line is a =
            fields_record_lem prev f c (g ∷ is) bc (bg, a)
            ∙ ap (λ (m : Option Word). line_p prev f (m >>= λ v. read_record v (g ∷ is) >>= λ ns. some (rec v ns))) e
            ∙ ap (λ (m : Option (List ℕ)). line_p prev f (m >>= λ ns. some (rec w ns))) (r₁ (g ∷ is))

        go : (q : Option Parted) → On (λ (p : Parted). AllBytes p.0) q
            → cut_s (word_number w) t (field_s (placed prev f) c) g q
            ≡ line_q prev f t (((q >>= λ p. onto p) >>= λ p. read_fields ms p.0 >>= λ ns. read_number 4294967295
            p.1 >>= λ v. some (ns ++ (v ∷ []))) >>= λ ns. some (rec w ns))
        go none h = refl
        go (some p) h =
            ap (λ y. keep_if (word_number w) t (read_number 4294967295 p.1) y) (line p.0 h)
            ∙ both (read_fields ms (g ∷ p.0)) (fields_long ms (g ∷ p.0)) (read_number 4294967295 p.1)

  -- ---- a line

  refused_line_lem : (w : Word) (m : Option (List ℕ)) → not (follows_of prev (word_number w)) ≡ true
      → nought ≡ line_q prev f t (m >>= λ ns. some (rec w ns))
  refused_line_lem w none e = refl
  refused_line_lem w (some ns) e = rw e

  block_line : (c g : List ℕ) (gs : List (List ℕ)) → word_among all_words c ≡ some block → Bytes c → Bytes g → AllBytes gs
      → cut_s 4 t (field_s (placed prev f) c) g (last_of 1 gs)
      ≡ line_q prev f t (read_second block (g ∷ gs) >>= λ ns. some (rec block ns))
  unfolding read_second read_record
  block_line c g gs e bc bg bs = written_record block (number ∷ bits ∷ []) 1 refl (λ fs. refl) (λ fs. refl) (λ ns. refl)
      (λ ns. refl) c g gs e bc bg bs

  seg_line_lem : (c g : List ℕ) (gs : List (List ℕ)) → word_among all_words c ≡ some seg → Bytes c → Bytes g → AllBytes gs
      → cut_s 9 t (field_s (placed prev f) c) g (last_of 3 gs)
      ≡ line_q prev f t (read_second seg (g ∷ gs) >>= λ ns. some (rec seg ns))
  unfolding read_second read_record
  seg_line_lem c g gs e bc bg bs = written_record seg (number ∷ number ∷ number ∷ use_flags ∷ []) 3 refl (λ fs. refl)
      (λ fs. refl) (λ ns. refl) (λ ns. refl) c g gs e bc bg bs

  module _ (c g : List ℕ) (gs : List (List ℕ)) (bc : Bytes c) (bg : Bytes g) (bs : AllBytes gs) (y : Seen) (h : y
      ≡ line_p prev f (fields_record c (g ∷ gs))) where
    -- behind a word that may come, with its number k
    begun : ℕ → Viewed
    begun k = cond (eqb k 4) (cut_s 4 t (field_s (placed prev f) c) g (last_of 1 gs))
        (cond (eqb k 9) (cut_s 9 t (field_s (placed prev f) c) g (last_of 3 gs)) (with_p word t y))

    whole : (w : Word) → word_among all_words c ≡ some w
        → y ≡ line_p prev f (read_record w (g ∷ gs) >>= λ ns. some (rec w ns))
    whole w e = h ∙ ap (λ (m : Option Word). line_p prev f
        (m >>= λ v. read_record v (g ∷ gs) >>= λ ns. some (rec v ns))) e

    by_word : (w : Word) → word_among all_words c ≡ some w
        → begun (word_number w) ≡ line_q prev f t (read_second w (g ∷ gs) >>= λ ns. some (rec w ns))
    unfolding read_second begun
    by_word opt e = ap (with_p word t) (whole opt e)
        ∙ plain_record opt (λ ns. refl) (λ ns. refl) (read_record opt (g ∷ gs))
    by_word bank e = ap (with_p word t) (whole bank e)
        ∙ plain_record bank (λ ns. refl) (λ ns. refl) (read_record bank (g ∷ gs))
    by_word class e = ap (with_p word t) (whole class e)
        ∙ plain_record class (λ ns. refl) (λ ns. refl) (read_record class (g ∷ gs))
    by_word reg e = ap (with_p word t) (whole reg e)
        ∙ plain_record reg (λ ns. refl) (λ ns. refl) (read_record reg (g ∷ gs))
    by_word block e = block_line c g gs e bc bg bs
    by_word value e = ap (with_p word t) (whole value e)
        ∙ plain_record value (λ ns. refl) (λ ns. refl) (read_record value (g ∷ gs))
    by_word vgroup e = ap (with_p word t) (whole vgroup e)
        ∙ plain_record vgroup (λ ns. refl) (λ ns. refl) (read_record vgroup (g ∷ gs))
    by_word operand e = ap (with_p word t) (whole operand e)
        ∙ plain_record operand (λ ns. refl) (λ ns. refl) (read_record operand (g ∷ gs))
    by_word hint e = ap (with_p word t) (whole hint e)
        ∙ plain_record hint (λ ns. refl) (λ ns. refl) (read_record hint (g ∷ gs))
    by_word seg e = seg_line_lem c g gs e bc bg bs
    by_word use' e = ap (with_p word t) (whole use' e)
        ∙ plain_record use' (λ ns. refl) (λ ns. refl) (read_record use' (g ∷ gs))
    by_word end e = ap (with_p word t) (whole end e)
        ∙ plain_record end (λ ns. refl) (λ ns. refl) (read_record end (g ∷ gs))

    -- what the reader holds behind the word
    behind : ℕ → Bool → Seen
    behind k u = view_n (cond u None (Some (started prev f k))) f.out

    by_start : (k : ℕ) (u : Bool) → field_s (placed prev f) c ≡ behind k u → (w : Word) → k ≡ word_number w
        → word_among all_words c ≡ some w → not (follows_of prev k) ≡ u
        → next_s t (field_s (placed prev f) c) y g gs ≡ line_q prev f t (read_second w (g ∷ gs) >>= λ ns. some (rec w ns))
    unfolding behind begun started
    by_start k true d w i e q = ap (λ x. next_s t x y g gs) d
        ∙ refused_line_lem w (read_second w (g ∷ gs)) (ap (λ (j : ℕ). not (follows_of prev j)) (sym i) ∙ q)
    by_start k false d w i e q =
        ap (λ x. next_s t x y g gs) d
        ∙ ap (λ x. cond (eqb k 4) (cut_s 4 t x g (last_of 1 gs))
        (cond (eqb k 9) (cut_s 9 t x g (last_of 3 gs)) (with_p word t y))) (sym d)
        ∙ ap begun i
        ∙ by_word w e

    by_name : (k : ℕ) (m : Option Word) → Named? k m → word_among all_words c ≡ m
        → field_s (placed prev f) c ≡ behind k (not (follows_of prev k))
        → next_s t (field_s (placed prev f) c) y g gs
        ≡ line_q prev f t (m >>= λ w. read_second w (g ∷ gs) >>= λ ns. some (rec w ns))
    unfolding behind
    by_name k none n e d = ap (λ x. next_s t x y g gs) (d ∙ ap (λ (u : Bool). behind k u) (no_follower prev k n))
    by_name k (some w) n e d = by_start k (not (follows_of prev k)) d w n e refl

    by_fields : (m : Option ℕ) → spelled c ≡ m
        → next_s t (field_s (placed prev f) c) y g gs ≡ line_q prev f t (second_fields c (g ∷ gs))
    unfolding begin_of start_of started behind
    by_fields none e =
        ap (λ x. next_s t x y g gs) (first_field prev f c bc ∙ ap (done_s (begin_of prev f.over) f.out) e)
        ∙ ap (λ (m : Option Word). line_q prev f t (m >>= λ w. read_second w (g ∷ gs) >>= λ ns. some (rec w ns)))
        (sym (ap (λ (m : Option ℕ). m >>= λ v. word_of (key_of v)) e) ∙ record_word c bc)
    by_fields (some v) e =
        let i : word_of (key_of v) ≡ word_among all_words c = sym (ap (λ (m : Option ℕ). m >>= λ x. word_of (key_of x)) e)
        ∙ record_word c bc in
        by_name (key_of v) (word_of (key_of v)) (named (key_of v)) (sym i) (first_field prev f c bc
        ∙ ap (done_s (begin_of prev f.over) f.out) e)
        ∙ ap (λ (m : Option Word). line_q prev f t (m >>= λ w. read_second w (g ∷ gs) >>= λ ns. some (rec w ns))) i

  pub second_line : (l : List ℕ) → Bytes l → line_v (with_p word t (placed prev f)) l ≡ line_q prev f t (second_record l)
  unfolding second_record record_of
  second_line l b = word_line l t (placed prev f)
      ∙ go (fields_of l).first (fields_of l).rest (fields_bytes l b).0 (fields_bytes l b).1 (line_record prev f l b)
    where
      empty : (m : Option Word)
          → with_p word t (line_p prev f (m >>= λ w. read_record w [] >>= λ ns. some (rec w ns)))
          ≡ line_q prev f t (m >>= λ w. read_second w [] >>= λ ns. some (rec w ns))
      empty none = refl
      empty (some w) = no_fields w

      go : (c : List ℕ) (fs : List (List ℕ)) → Bytes c → AllBytes fs
          → line_s (placed prev f) l ≡ line_p prev f (fields_record c fs)
          → word_s t (placed prev f) (line_s (placed prev f) l) c fs ≡ line_q prev f t (second_fields c fs)
      go c [] bc bs h = ap (with_p word t) h ∙ empty (word_among all_words c)
      go c (g ∷ gs) bc bs h = by_fields c g gs bc bs.0 bs.1 (line_s (placed prev f) l) h (spelled c) refl

-- ---- the lines of a sheet

-- the records, in order: the reader goes over the bare ones
unfoldable pub sheet_q : ℕ → Filled → Keeping → Option (List Record) → Viewed
sheet_q prev f t none = nought
sheet_q prev f t (some rs) = with_p word (keep_all t rs) (go_s prev f (shrunk rs))

nought_lines : (ls : List (List ℕ)) → lines_v nought ls ≡ nought
nought_lines [] = refl
nought_lines (l ∷ ls) = ap (λ x. lines_v x ls) (none_line l) ∙ nought_lines ls
  where
    none_line : (l : List ℕ) → line_v nought l ≡ nought
    none_line [] = refl
    none_line (b ∷ l) = none_line l

pub lines_second : (ls : List (List ℕ)) → AllBytes ls → (prev : ℕ) (f : Filled) (t : Keeping)
    → lines_v (with_p word t (placed prev f)) ls ≡ sheet_q prev f t (second_records ls)
unfolding second_records sheet_q shrunk keep_all
lines_second [] b prev f t = refl
lines_second (l ∷ ls) b prev f t =
    ap (λ x. lines_v x ls) (second_line prev f t l b.0)
    ∙ go (second_record l) (λ r. lines_second ls b.1 (keyed r) (put f (bare r)) (keep_by r.word r.fields t))
  where
    refuse : (m : Option (List Record)) (r : Record) → not (follows_of prev (keyed r)) ≡ true
        → nought ≡ sheet_q prev f t (m >>= λ rs. some (r ∷ rs))
    refuse none r e = refl
    refuse (some rs) r e = rw e

    admit : (m : Option (List Record)) (r : Record) → not (follows_of prev (keyed r)) ≡ false
        → sheet_q (keyed r) (put f (bare r)) (keep_by r.word r.fields t) m
        ≡ sheet_q prev f t (m >>= λ rs. some (r ∷ rs))
    admit none r e = refl
    admit (some rs) r e = rw e

    by : (r : Record) → lines_v (with_p word (keep_by r.word r.fields t) (placed (keyed r) (put f (bare r)))) ls
        ≡ sheet_q (keyed r) (put f (bare r)) (keep_by r.word r.fields t) (second_records ls)
        → (u : Bool) → not (follows_of prev (keyed r)) ≡ u
        → lines_v (cond u nought (with_p word (keep_by r.word r.fields t) (placed (keyed r) (put f (bare r))))) ls
        ≡ sheet_q prev f t (second_records ls >>= λ rs. some (r ∷ rs))
    by r ih true e = nought_lines ls ∙ refuse (second_records ls) r e
    by r ih false e = ih ∙ admit (second_records ls) r e

    go : (m : Option Record)
        → ((r : Record) → lines_v (with_p word (keep_by r.word r.fields t) (placed (keyed r) (put f (bare r)))) ls
        ≡ sheet_q (keyed r) (put f (bare r)) (keep_by r.word r.fields t) (second_records ls))
        → lines_v (line_q prev f t m) ls ≡ sheet_q prev f t (m >>= λ r. second_records ls >>= λ rs. some (r ∷ rs))
    go none ih = nought_lines ls
    go (some r) ih = by r (ih r) (not (follows_of prev (keyed r))) refl
