-- The ways of a build of a job of good shape. Assumes nothing.
use mathlib.Core.Path.{◌≡◌, refl, sym, ap, ◌∙◌, subst}
use mathlib.Core.List.{List, [], append-nil}
use mathlib.Core.Option.{none, some}
use Prim.Native.Nat.{ℕ, ◌/◌, ◌≤◌, ◌<◌}
use native.Mathlib.Omega.{arith}
use lib.ListN.{length, get_or, replicate}
use Rattle.words.specs.Words.{word_count, words_of}
use Rattle.words.specs.Laws.{length_words, words_replicate}
use Rattle.definition.specs.declared.Refusal.{Refusal}
use Rattle.definition.specs.declared.Refusal.TheVariants.{NotARecord, OverALimit, BadBook, BadFunction, BadHint, BadSegment, BadUse, Stopped, Full}
use Rattle.definition.specs.Types.{Job, State, Out, done, refused, number_of}
use Rattle.definition.specs.Place.{◌>>=◌, empty}
use Rattle.definition.specs.Build.{Result, build, result_of}
use Rattle.definition.specs.Entry.{entry, answer}
use Rattle.job.specs.declared.Layout.{Layout}
use Rattle.job.specs.Layout.{seg_at}
use Rattle.job.specs.Job.{raw_job, job_of}
use Rattle.virt_regs.specs.declared.OutLayout.{OutLayout}
use Rattle.virt_regs.specs.declared.Counts.{Counts}
use Rattle.virt_regs.specs.Encoding.{tables_end, room_of, counts_of, Holds}
use Rattle.virt_regs.specs.Held.{fit_registers, fit_groups}
use Rattle.virt_regs.specs.Reads.{holds_mapping}
use Rattle.job.specs.declared.work.WorkLayout.{WorkLayout}
use Rattle.job.specs.Regions.{max_work}
use Rattle.entry.specs.Accepted.{Accepted, Prepared}
use Rattle.entry.proofs.Numbers.{answer_built, answer_refused}
use Rattle.std.specs.Prelude.{Ok, Err}
use Rattle.placing.specs.declared.end.NotPlaced.{NotPlaced}
use Rattle.placing.specs.EndEnds.{Placed, end_of}
use Rattle.steps.specs.Fits.{StandsAs}
use Rattle.build.specs.Begins.{begun, onward_begin, builds}
use Rattle.build.specs.Empty.{Clear, clear_zeros, empty_stands}
use Rattle.build.specs.Loop.{finished, build_from, build_begins}
use Rattle.build_answer.specs.declared.BuildEnd.{BuildEnd}
use Rattle.build_answer.specs.Answered.{bytes_left, end_left, state_of, Answered}
use Rattle.build_answer.specs.Held.{held_left, answered_refused}
use Rattle.conflicts.specs.Conflicts.{EndsAs}
use Rattle.conflicts.proofs.Going.{ended_state}
use Rattle.build.specs.SetsSets.{SetsReady}
use Rattle.build.specs.Ends.{end_number, built_end, refused_end, Cleared}

-- ---- numbers

end_refused : (k : ℕ) (f : Refusal) → k ≡ number_of f → refused_end k ≡ end_left (refused f)
unfolding end_left
end_refused k f e = ap refused_end e

end_built : (st : State) (c : Counts) → c ≡ counts_of st → built_end c ≡ end_left (done (result_of st))
unfolding end_left
end_built st c e = ap built_end e

ended_number : (f : Refusal) (e : NotPlaced) → end_of f e → end_number e ≡ number_of f
ended_number (Stopped s) e h = ap end_number h
ended_number Full e h = ap end_number h
ended_number NotARecord e h = absurd h
ended_number OverALimit e h = absurd h
ended_number BadBook e h = absurd h
ended_number BadFunction e h = absurd h
ended_number BadHint e h = absurd h
ended_number BadSegment e h = absurd h
ended_number BadUse e h = absurd h

pub answered_as : {n : ℕ} {ol : OutLayout} {o : Out Result} {x : List ℕ} {y y' : BuildEnd} → y' ≡ y → Answered n ol o y x → Answered n ol o y' x
answered_as {n} {ol} {o} {x} e a = subst (λ (y : BuildEnd). Answered n ol o y x) (sym e) a

module _ (s : List ℕ) (lay : Layout) (ol : OutLayout) where
  -- ---- the entry refuses

  pub refused_entry : (n k : ℕ) (f : Refusal) (x : List ℕ) → k ≡ number_of f → some f ≡ entry (raw_job (words_of s) lay) → x ≡ replicate n 0
      → Answered n ol (answer (raw_job (words_of s) lay) (room_of ol)) (refused_end k) x
  refused_entry n k f x e d z =
      answered_refused n ol (answer (raw_job (words_of s) lay) (room_of ol)) f (refused_end k) x (answer_refused (words_of s) lay (room_of ol) f (sym d)).0 (end_refused k f e) z

  -- ---- the entry accepts: what is built is the answer

  pub answered_entry : (n : ℕ) (r : BuildEnd) (x : List ℕ) (l : Layout) → l ≡ lay → none ≡ entry (raw_job (words_of s) lay)
      → Answered n ol (build (raw_job (words_of s) l) (room_of ol)) r x
      → Answered n ol (answer (raw_job (words_of s) lay) (room_of ol)) r x
  answered_entry n r x l q e h =
      let b : build (raw_job (words_of s) l) (room_of ol) ≡ answer (raw_job (words_of s) lay) (room_of ol) =
      ap (λ (y : Layout). build (raw_job (words_of s) y) (room_of ol)) q
      ∙ sym (answer_built (words_of s) lay (room_of ol) (sym e)) in
      subst (λ (o : Out Result). Answered n ol o r x) b h

  module _ (K : List ℕ) (wl : WorkLayout) (n : ℕ) (a : Accepted s K lay wl n) (p : Prepared (words_of s) K lay wl) where
    -- the sets can be built
    pub sets_ready : (w : ℕ) (x : List ℕ) → max_work ≤ w → Cleared ol x → SetsReady (word_count s) w (word_count x) (words_of s) K (words_of x) lay wl ol
    sets_ready w x h c =
        let clear : Clear (tables_end ol) (words_of x) =
        subst (λ (O : List ℕ). Clear (tables_end ol) O) (sym (ap words_of c.zeros ∙ words_replicate (length x))) (clear_zeros (length x / 4) (tables_end ol)) in
        record {
          begun = begun a h;
          builds = builds a (word_count x) ol (omega (arith, c.long)) c.regs c.segs c.uses c.groups;
          onward = λ m. onward_begin a (seg_at (words_of s) lay 0).first h p;
          stands = empty_stands (job_of (words_of s) lay) ol (words_of x) (omega (arith, c.long, length_words x)) clear p;
        }

    -- they ended with r, the words O of the result tables and K₁ of the work slice
    module _ (O K₁ : List ℕ) (r : Placed)
        (h : EndsAs (job_of (words_of s) lay) ol (words_of s) lay wl O K₁ r (build_from (words_of s) lay (room_of ol) 0 empty)) where
      abbrev sets : Out State
      sets = build_from (words_of s) lay (room_of ol) 0 empty

      built_is : build (raw_job (words_of s) lay) (room_of ol) ≡ (sets >>= λ st. finished st)
      built_is = ap (λ (j : Job). build j (room_of ol)) a.same ∙ build_begins (words_of s) lay (room_of ol)

      module _ (c₁ : Counts) (d : r ≡ Ok c₁) where
        left : (st : State) × (sets ≡ done st) × StandsAs (job_of (words_of s) lay) ol O (words_of s) K₁ lay wl c₁ st
        left = ended_state (job_of (words_of s) lay) ol (words_of s) lay wl O K₁ r sets c₁ h d

        -- done: a word counts the rows
        pub built_counts : (x : List ℕ) → Cleared ol x → (c₁.regs < 4294967296) × (c₁.groups < 4294967296)
        built_counts x c =
            let l = left in
            let e = l.2.counts in
            let g : c₁.regs ≡ length l.0.registers = ap (λ (i : Counts). i.regs) e in
            let g' : c₁.groups ≡ length l.0.groups = ap (λ (i : Counts). i.groups) e in
            (omega (arith, fit_registers l.2.stands.tables, c.regs), omega (arith, fit_groups l.2.stands.tables, c.groups))

        pub answered_built : (x₀ x : List ℕ) → Cleared ol x₀ → length x ≡ length x₀ → O ≡ words_of x → ((i : ℕ) → get_or x i 0 < 256)
            → Answered (length x₀) ol (build (raw_job (words_of s) lay) (room_of ol)) (built_end c₁) x
        answered_built x₀ x c lx eo b =
            let l = left in
            let st = l.0 in
            let t : Holds ol (words_of x) st = subst (λ (w : List ℕ). Holds ol w st) eo l.2.stands.tables in
            let o : build (raw_job (words_of s) lay) (room_of ol) ≡ done (result_of st) = built_is ∙ ap (λ (y : Out State). y >>= λ st'. finished st') l.1 in
            record {
              end = end_built st c₁ l.2.counts ∙ ap end_left (sym o);
              bytes = sym (append-nil x) ∙ held_left (length x₀) 0 ol x st (lx ∙ c.long) (λ i m. b i) (omega arith) t ∙ ap (λ (u : Out Result). bytes_left (length x₀) ol u) (sym o);
              holds = λ res is. let m : result_of st ≡ res = cc in subst (λ (y : Result). Holds ol (words_of x) (state_of y)) m (holds_mapping ol (words_of x) st [] t);
            }

      -- not done: the tables are cleared
      pub answered_ended : (v : NotPlaced) → r ≡ Err v → (q : ℕ) → q ≡ end_number v → (m : ℕ) (x : List ℕ) → x ≡ replicate m 0 → Answered m ol (build (raw_job (words_of s) lay) (room_of ol)) (refused_end q) x
      unfolding EndsAs
      answered_ended v d q eq m x e = go sets refl (subst (λ (y : Placed). EndsAs (job_of (words_of s) lay) ol (words_of s) lay wl O K₁ y sets) d h)
        where
          go : (y : Out State) → sets ≡ y → EndsAs (job_of (words_of s) lay) ol (words_of s) lay wl O K₁ (Err v) y → Answered m ol (build (raw_job (words_of s) lay) (room_of ol)) (refused_end q) x
          go (done st) i u = absurd u
          go (refused f) i u =
              answered_refused m ol (build (raw_job (words_of s) lay) (room_of ol)) f (refused_end q) x (built_is ∙ ap (λ (y : Out State). y >>= λ st. finished st) i) (end_refused q f (eq ∙ ended_number f v u)) e
