-- Uses that fit their types and are of an instruction of the job: the job's own, those that turns and cuts leave, and block parameters. Assumes nothing.
use Rattle.std.specs.Prelude.{◌≡◌, true}
use Rattle.std.proofs.Common.{sym, subst, ltb-true}
use Rattle.std.proofs.Math.Option.{none}
use mathlib.Core.List.{List, [], ◌∷◌, ◌++◌}
use Prim.Native.Nat.{ℕ, zero, suc, ◌+◌, ◌*◌, ◌<◌}
use Rattle.words.specs.Tab.{tab}
use Rattle.words.specs.RowsAt.{rows_at}
use Rattle.definition.specs.declared.Inst.{Inst}
use Rattle.definition.specs.declared.Hint.{Hint}
use Rattle.definition.specs.declared.Use.{Use}
use Rattle.definition.specs.declared.UseKind.TheVariants.{BlockparamIn}
use Rattle.definition.specs.Types.{Segment, Job}
use Rattle.definition.specs.Cuts.{left_cut, right_cut, uses_before, uses_from}
use Rattle.definition.specs.Place.{uses_of}
use Rattle.definition.specs.Build.{turned_use, turn_in, turn_at}
use Rattle.definition.specs.Entry.{insts_of, insts, use_ok, use_tests, uses_ok, entry, entry_tests}
use Rattle.definition.proofs.Cuts.{uses_cut, cut_uses}
use Rattle.definition.proofs.Counts.{uses_turn}
use Rattle.definition.proofs.Entries.{and_both, conj_all, every_all, lowest_none}
use Rattle.definition.proofs.Places.{All}
use Rattle.uses.specs.Rows.{use_row, uses_at}
use Rattle.job.specs.declared.Layout.{Layout}
use Rattle.job.specs.Layout.{segment_of, job_uses}
use Rattle.job.specs.Job.{job_by, job_of}
use Rattle.virt_regs.specs.Each.{Each, each_append, each_weaker}
use Rattle.vreg_weight.specs.Typed.{TypedUse, row_typed, turned_typed, param_typed}
use Rattle.vreg_weight.specs.Weighed.{Inside}

unfoldable pub Sound : Job → Use → Type 0
Sound J u = TypedUse u × (u.pos.0 < insts_of J.blocks)

-- ---- parts of a list

pub each_left : {A : Type 0} (P : A → Type 0) (l r : List A) → Each P (l ++ r) → Each P l
unfolding Each
each_left P [] r p = tt
each_left P (a ∷ l) r p = (p.0, each_left P l r p.1)

pub each_right : {A : Type 0} (P : A → Type 0) (l r : List A) → Each P (l ++ r) → Each P r
unfolding Each
each_right P [] r p = p
each_right P (a ∷ l) r p = each_right P l r p.1

-- the definition's proofs have another name for the same
pub all_each : {A : Type 0} (P : A → Type 0) (l : List A) → All P l → Each P l
unfolding Each
all_each P [] h = tt
all_each P (a ∷ l) h = (h.0, all_each P l h.1)

pub each_all : {A : Type 0} (P : A → Type 0) (l : List A) → Each P l → All P l
unfolding Each
each_all P [] h = tt
each_all P (a ∷ l) h = (h.0, each_all P l h.1)

-- the uses of segments, by segment
pub each_uses : (P : Use → Type 0) (ss : List Segment) → Each (λ s. Each P s.uses) ss → Each P (uses_of ss)
unfolding uses_of Each
each_uses P [] h = tt
each_uses P (s ∷ ss) h = each_append P s.uses (uses_of ss) h.0 (each_uses P ss h.1)

-- ---- what they say

module _ (J : Job) where
  pub sound_typed : (us : List Use) → Each (Sound J) us → Each TypedUse us
  unfolding Sound
  sound_typed us h = each_weaker (Sound J) TypedUse (λ u p. p.0) us h

  pub sound_inside : (us : List Use) → Each (Sound J) us → Inside J us
  unfolding Sound Inside
  sound_inside us h = each_weaker (Sound J) (λ u. u.pos.0 < insts_of J.blocks) (λ u p. p.1) us h

  -- ---- what keeps them

  pub sound_turned : (u : Use) → Sound J u → Sound J (turned_use u)
  unfolding Sound
  sound_turned u p = (turned_typed u, p.1)

  pub sound_param : (i : Inst) (p : ℕ) → i.0 < insts_of J.blocks → Sound J (record { pos = i; kind = BlockparamIn p })
  unfolding Sound
  sound_param i p h = (param_typed i p, h)

  pub sound_turn : (n : ℕ) (us : List Use) → Each (Sound J) us → Each (Sound J) (turn_in n us)
  unfolding turn_in Each
  sound_turn n [] h = tt
  sound_turn zero (u ∷ us) h = (sound_turned u h.0, h.1)
  sound_turn (suc n) (u ∷ us) h = (h.0, sound_turn n us h.1)

  pub sound_turn_at : (n : ℕ) (ss : List Segment) → Each (Sound J) (uses_of ss) → Each (Sound J) (uses_of (turn_at n ss))
  sound_turn_at n ss h = subst (λ (us : List Use). Each (Sound J) us) (sym (uses_turn n ss)) (sound_turn n (uses_of ss) h)

  pub sound_before : (p : Inst) (us : List Use) → Each (Sound J) us → Each (Sound J) (uses_before p us)
  sound_before p us h = each_left (Sound J) (uses_before p us) (uses_from p us) (subst (λ (l : List Use). Each (Sound J) l) (sym (uses_cut p us)) h)

  pub sound_from : (p : Inst) (us : List Use) → Each (Sound J) us → Each (Sound J) (uses_from p us)
  sound_from p us h = each_right (Sound J) (uses_before p us) (uses_from p us) (subst (λ (l : List Use). Each (Sound J) l) (sym (uses_cut p us)) h)

  pub sound_left : (hs : List Hint) (p : Inst) (ss : List Segment) → Each (Sound J) (uses_of ss) → Each (Sound J) (uses_of (left_cut hs p ss))
  sound_left hs p ss h = each_left (Sound J) (uses_of (left_cut hs p ss)) (uses_of (right_cut hs p ss)) (subst (λ (l : List Use). Each (Sound J) l) (sym (cut_uses hs p ss)) h)

  pub sound_right : (hs : List Hint) (p : Inst) (ss : List Segment) → Each (Sound J) (uses_of ss) → Each (Sound J) (uses_of (right_cut hs p ss))
  sound_right hs p ss h = each_right (Sound J) (uses_of (left_cut hs p ss)) (uses_of (right_cut hs p ss)) (subst (λ (l : List Use). Each (Sound J) l) (sym (cut_uses hs p ss)) h)

  -- ---- the uses that passed rule 7

  uses_inside : (s : Segment) (us : List Use) → All (λ u. use_ok J s u ≡ true) us → Inside J us
  unfolding use_ok insts Inside Each
  uses_inside s [] h = tt
  uses_inside s (u ∷ us) h = (ltb-true _ _ (conj_all (use_tests J s u) h.0).0, uses_inside s us h.1)

  segments_inside : (ss : List Segment) → All (λ s. uses_ok J s ≡ true) ss → Each (λ s. Inside J s.uses) ss
  unfolding uses_ok Each
  segments_inside [] h = tt
  segments_inside (s ∷ ss) h = (uses_inside s s.uses (every_all (use_ok J s) s.uses (and_both _ _ h.0).0), segments_inside ss h.1)

-- ---- every use that is read off words fits

pub rows_typed : (W : List ℕ) (at n : ℕ) → Each TypedUse (uses_at W at n)
unfolding uses_at rows_at Each
rows_typed W at n = go 0 n
  where
    go : (i k : ℕ) → Each TypedUse (tab (λ m. use_row W (at + m * 6)) i k)
    go i zero = tt
    go i (suc k) = (row_typed W (at + i * 6), go (i + 1) k)

both : (J : Job) (us : List Use) → Each TypedUse us → Inside J us → Each (Sound J) us
unfolding Each Inside Sound
both J [] t i = tt
both J (u ∷ us) t i = ((t.0, i.0), both J us t.1 i.1)

segments_both : (J : Job) (ss : List Segment) → Each (λ s. Each TypedUse s.uses) ss → Each (λ s. Inside J s.uses) ss → Each (λ s. Each (Sound J) s.uses) ss
unfolding Each
segments_both J [] t i = tt
segments_both J (s ∷ ss) t i = (both J s.uses t.0 i.0, segments_both J ss t.1 i.1)

segments_typed : (W : List ℕ) (lay : Layout) (i k : ℕ) → Each (λ s. Each TypedUse s.uses) (tab (segment_of use_row W lay) i k)
unfolding Each segment_of job_uses uses_at
segments_typed W lay i zero = tt
segments_typed W lay i (suc k) = (rows_typed W _ _, segments_typed W lay (i + 1) k)

job_typed : (W : List ℕ) (lay : Layout) → Each (λ s. Each TypedUse s.uses) (job_of W lay).segments
unfolding job_of job_by
job_typed W lay = segments_typed W lay 0 lay.segments.n

-- the uses of an accepted job
pub accepted_sound : (W : List ℕ) (lay : Layout) → entry (job_of W lay) ≡ none → Each (λ s. Each (Sound (job_of W lay)) s.uses) (job_of W lay).segments
unfolding entry
accepted_sound W lay e =
    segments_both (job_of W lay) (job_of W lay).segments (job_typed W lay)
    (segments_inside (job_of W lay) (job_of W lay).segments (every_all (uses_ok (job_of W lay)) (job_of W lay).segments (lowest_none (entry_tests (job_of W lay)) e).1.1.1.1.1.0))
