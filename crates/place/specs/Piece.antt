-- A conflict piece can be weighed. Assumes nothing.
use Rattle.std.proofs.Common.{sym, subst, arith}
use Rattle.std.proofs.Math.Option.{Option, none, some}
use Rattle.std.specs.Prelude.{List, [], ◌∷◌, map, ℕ, zero, suc, ◌+◌, ◌-◌, ◌*◌, ◌≤◌, ◌<◌, get_or}
use Rattle.words.specs.Tab.{tab}
use Rattle.definition.specs.declared.Value.{Value}
use Rattle.definition.specs.declared.Inst.{Inst}
use Rattle.definition.specs.declared.Use.{Use}
use Rattle.definition.specs.Types.{Job, Turned}
use Rattle.definition.specs.Entry.{insts_of}
use Rattle.definition.specs.Build.{opening, conflict_piece}
use Rattle.definition.specs.Place.{segs_of}
use Rattle.function.specs.Blocks.{blocks_at}
use Rattle.uses.specs.Rows.{use_row}
use Rattle.job.specs.declared.Layout.{Layout}
use Rattle.job.specs.Job.{job_by, job_of}
use Rattle.virt_regs.specs.Each.{Each, each_append, each_one, each_none}
use Rattle.job.specs.declared.work.WorkLayout.{WorkLayout}
use Rattle.constraints.specs.Ready.{Ready}
use Rattle.vreg_weight.specs.Typed.{row_typed}
use Rattle.vreg_weight.specs.Sound.{Sound, sound_param}
use Rattle.vreg_weight.specs.Sorted.{Sorted}
use Rattle.vreg_weight.specs.Fair.{Fair}
use Rattle.pieces.specs.Conflict.{row_use, turned_rows_of, RowsOk}
use Rattle.pieces.proofs.ConflictRows.{rows_uses, piece_uses}

each_tab : (P : Use → Type 0) (f : ℕ → Use) (i n : ℕ) → ((k : ℕ) → i ≤ k → k < i + n → P (f k)) → Each P (tab f i n)
unfolding Each
each_tab P f i zero h = tt
each_tab P f i (suc n) h = (h i (omega arith) (omega arith), each_tab P f (i + 1) n (λ k a b. h k (omega arith) (omega arith)))

-- the use of a row is one of the job's
row_sound : (W : List ℕ) (lay : Layout) (n : ℕ) → (use_row W (lay.uses.at + n * 6)).pos.0 < insts_of (blocks_at W lay.blocks.at lay.blocks.n)
    → Sound (job_of W lay) (use_row W (lay.uses.at + n * 6))
unfolding Sound job_of job_by
row_sound W lay n h = (row_typed W (lay.uses.at + n * 6), h)

pub rows_sound : (t w : ℕ) (W K : List ℕ) (lay : Layout) (wl : WorkLayout) (a b : ℕ) → Ready t w W K lay wl → 0 < lay.segments.n → RowsOk w K wl.turned lay a b
    → Each (Sound (job_of W lay)) (map (λ t. t.use') (turned_rows_of K wl.turned W lay a b))
unfolding row_use
rows_sound t w W K lay wl a b r l o =
    subst (λ (us : List Use). Each (Sound (job_of W lay)) us) (sym (rows_uses K wl.turned W lay a b))
    (each_tab (Sound (job_of W lay)) (row_use K wl.turned W lay) a (b - a)
    (λ k x y. let known = o.known k x (omega arith) in row_sound W lay (get_or K (wl.turned + k * 4 + 1) 0) (r.within l (get_or K (wl.turned + k * 4 + 1) 0) known)))

opening_sound : (J : Job) (p : Inst) (q : Option ℕ) → p.0 < insts_of J.blocks → Each (Sound J) (opening p q)
opening_sound J p none h = each_none (Sound J)
opening_sound J p (some x) h = each_one (Sound J) _ (sound_param J p x h)

piece_sorted : (v : Value) (p : Inst) (q : Option ℕ) (ts : List Turned) → p.0 < 4096 → Sorted 0 4096 (segs_of (conflict_piece v p q ts ∷ []))
unfolding Sorted conflict_piece
piece_sorted v p q ts h = (omega arith, omega arith, omega arith, tt)

-- [4p, 4p+2), with the uses of an instruction p of the job
pub fair_conflict : (J : Job) (v : Value) (p : Inst) (q : Option ℕ) (ts : List Turned) → p.0 < insts_of J.blocks → insts_of J.blocks ≤ 4096 → Each (Sound J) (map (λ t. t.use') ts)
    → Fair J 4096 (conflict_piece v p q ts ∷ [])
fair_conflict J v p q ts h l s =
    record {
      sound =
          subst (λ (us : List Use). Each (Sound J) us) (sym (piece_uses v p q ts))
          (each_append (Sound J) (opening p q) (map (λ t. t.use') ts) (opening_sound J p q h) s);
      sorted = piece_sorted v p q ts (omega arith);
      filled = omega arith;
    }

pub insts_in : (t w : ℕ) (W K : List ℕ) (lay : Layout) (wl : WorkLayout) → Ready t w W K lay wl → insts_of (job_of W lay).blocks ≤ 4096
unfolding job_of job_by
insts_in t w W K lay wl r = r.few_insts

-- the piece of turned rows
pub fair_rows : (t w : ℕ) (W K : List ℕ) (lay : Layout) (wl : WorkLayout) (a b : ℕ) (v : Value) (p : Inst) (q : Option ℕ) → Ready t w W K lay wl → 0 < lay.segments.n → RowsOk w K wl.turned lay a b
    → p.0 < insts_of (job_of W lay).blocks → Fair (job_of W lay) 4096 (conflict_piece v p q (turned_rows_of K wl.turned W lay a b) ∷ [])
fair_rows t w W K lay wl a b v p q r l o h =
    fair_conflict (job_of W lay) v p q (turned_rows_of K wl.turned W lay a b) h (insts_in t w W K lay wl r) (rows_sound t w W K lay wl a b r l o)
