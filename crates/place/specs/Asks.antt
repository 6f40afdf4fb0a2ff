-- What placing a conflict piece asks, and what follows from room in the tables. Assumes nothing.
use Rattle.std.specs.Prelude as code
use Rattle.std.specs.Int.{from_bool}
use Rattle.std.specs.Prelude.{◌≡◌, refl, Bool, true, false, Option, List, [], ◌∷◌, ℕ, ◌+◌, ◌-◌, ◌*◌, ◌^◌, ◌≤◌, ◌<◌, eqb}
use Rattle.std.proofs.Math.Path.{sym}
use Rattle.std.proofs.Common.{ap, ◌∙◌, subst, zero-add, arith}
use Rattle.std.proofs.Math.Bool.{cond}
use Rattle.std.proofs.Math.ListN.{get_or}
use Rattle.std.proofs.Math.Option.{none, some}
use Rattle.words.specs.Tab.{tab_ext}
use Rattle.words.specs.Words.{word_count, words_of}
use Rattle.words.specs.Laws.{length_words}
use Rattle.definition.specs.declared.Value.{Value}
use Rattle.definition.specs.declared.Inst.{Inst}
use Rattle.definition.specs.Types.{Job, Piece, Turned, State, point}
use Rattle.definition.specs.Entry.{insts_of}
use Rattle.definition.specs.Build.{conflict_piece}
use Rattle.definition.specs.Place.{uses_of, segs_of, first_from, last_to}
use Rattle.job.specs.declared.Layout.{Layout}
use Rattle.job.specs.Job.{job_of}
use Rattle.virt_regs.specs.declared.OutLayout.{OutLayout}
use Rattle.virt_regs.specs.declared.Counts.{Counts}
use Rattle.virt_regs.specs.Encoding.{tables_end, counts_of, Holds}
use Rattle.constraints.specs.declared.Held.{Held}
use Rattle.job.specs.declared.work.WorkLayout.{WorkLayout}
use Rattle.virt_regs.specs.Held.{fit_groups}
use Rattle.constraints.specs.Ready as constraints
use Rattle.pieces.specs.Maps.{MapApart, Outside}
use Rattle.pieces.proofs.Kept.{ready_kept}
use Rattle.emit.specs.declared.tally.Tally.{Tally}
use Rattle.emit.specs.Told.{Told}
use Rattle.vreg_weight.specs.Fair.{Fair}
use Rattle.pieces.specs.Conflict.{turned_row_at, turned_rows_of, RowsOk, param_by, open_count}
use Rattle.pieces.proofs.ConflictRows.{count_conflict, hint_conflict}
use Rattle.pieces.proofs.ConflictGoing.{row_kept, known_kept}
use Rattle.placing.specs.Ready.{RowsOf}
use Rattle.placing.specs.Held.{HeldFits}
use Rattle.placing.specs.Asked.{Measured}
use Rattle.placing.specs.Setting.{Small, Setting}
use Rattle.place.specs.Piece.{insts_in, fair_rows}
use Rattle.placing.specs.EndEnds.{Sane}

-- the piece of turned rows a to b - 1
abbrev pub pieces_of : List ℕ → ℕ → List ℕ → Layout → ℕ → ℕ → Value → Inst → code.Option ℕ → List Piece
pieces_of K turned W lay a b v p q = conflict_piece v p (param_by q) (turned_rows_of K turned W lay a b) ∷ []

-- The job and the work slice are ready, the rows a to b - 1 are turned uses of the job, p is one of its instructions, and the tables, of n words, hold some state with these counts, of which F is so.
pub record Asks (t w n : ℕ) (W K O : List ℕ) (lay : Layout) (wl : WorkLayout) (ol : OutLayout) (a b : ℕ) (p : Inst) (c : Counts) (F : State → Type 0) : Type 0 where
  pub ready : constraints.Ready t w W K lay wl
  pub apart : MapApart lay wl
  pub rows : RowsOk w K wl.turned lay a b
  pub segments : 0 < lay.segments.n
  pub inst : p.0 < insts_of (job_of W lay).blocks
  pub long : tables_end ol ≤ n
  pub small : (ol.regs < 2 ^ 32) × (ol.segs < 2 ^ 32) × (ol.uses < 2 ^ 32) × (ol.groups + 1 < 2 ^ 32)
  pub st : State
  pub holds : Holds ol O st
  pub counts : c ≡ counts_of st
  pub more : F st

-- a bool as a number, by which the opening's uses are counted
pub count_open : (b : Bool) → from_bool b ≡ cond b 1 0
count_open true = refl
count_open false = refl

-- how many uses it has, by whether it has a parameter
pub count_param : (q : code.Option ℕ) (n : ℕ) → code.is_some q ≡ true → 1 + n ≡ open_count q + n
count_param q n e = ap (λ (x : Bool). cond x 1 0 + n) (sym e)

pub count_rows : (q : code.Option ℕ) (n : ℕ) → code.is_some q ≡ false → n ≡ open_count q + n
count_rows q n e = sym (zero-add n) ∙ ap (λ (x : Bool). cond x 1 0 + n) (sym e)

-- what is held fits, and all pieces can be weighed
abbrev pub HeldIn : Job → Held → State → Type 0
HeldIn J h st = HeldFits J st h × Sane J st

module _ {t w n : ℕ} {W K O : List ℕ} {lay : Layout} {wl : WorkLayout} {ol : OutLayout} {a b : ℕ} {p : Inst} {c : Counts} where
  module _ {F : State → Type 0} (k : Asks t w n W K O lay wl ol a b p c F) where
    -- an instruction of the job
    pub asks_inst : p.0 < 4096
    asks_inst = omega (arith, k.inst, asks_insts)
      where
        asks_insts : insts_of (job_of W lay).blocks ≤ 4096
        asks_insts = insts_in t w W K lay wl k.ready

    -- groups are counted by words
    pub asks_groups : c.groups + 1 < 2 ^ 32
    asks_groups = omega (arith, ap (λ (y : Counts). y.groups) k.counts, fit_groups k.holds, k.small.3)

    pub asks_small : Small ol
    asks_small = (k.small.0, k.small.1, k.small.2, k.small.3)

    module _ (v : Value) (q : code.Option ℕ) where
      pub asks_fair : Fair (job_of W lay) 4096 (pieces_of K wl.turned W lay a b v p q)
      asks_fair = fair_rows t w W K lay wl a b v p (param_by q) k.ready k.segments k.rows k.inst

-- the rows of the piece
pub piece_rows : {nu : ℕ} (K : List ℕ) (turned : ℕ) (W : List ℕ) (lay : Layout) (a b : ℕ) (v : Value) (p : Inst) (q : code.Option ℕ) → nu ≡ open_count q + (b - a)
    → RowsOf (pieces_of K turned W lay a b v p q) (record { pieces = 1; uses = nu; hint = false })
piece_rows K turned W lay a b v p q e = record {
  pieces = refl;
  uses = count_conflict v p q K turned W lay a b ∙ sym e;
  hinted = sym (hint_conflict v p (param_by q) (turned_rows_of K turned W lay a b));
}

pub piece_measured : {nu : ℕ} (K : List ℕ) (turned : ℕ) (W : List ℕ) (lay : Layout) (a b : ℕ) (v : Value) (p : Inst) (q : code.Option ℕ) → nu ≡ open_count q + (b - a)
    → Measured (pieces_of K turned W lay a b v p q) (record { pieces = 1; uses = nu; «from» = point (4 * p.0); to = point (4 * p.0 + 2) })
unfolding first_from last_to conflict_piece
piece_measured K turned W lay a b v p q e = record {
  pieces = refl;
  uses = e ∙ sym (count_conflict v p q K turned W lay a b);
  begin = refl;
  end = refl;
}

-- what is asked is a setting of the plan
pub asks_setting : {t w n : ℕ} {W K O : List ℕ} {lay : Layout} {wl : WorkLayout} {ol : OutLayout} {a b : ℕ} {p : Inst} {c : Counts} {h : Held} (k : Asks t w n W K O lay wl ol a b p c (HeldIn (job_of W lay) h)) (v : Value) (q : code.Option ℕ)
    → Setting (job_of W lay) ol O c h k.st (pieces_of K wl.turned W lay a b v p q)
asks_setting k v q = record { holds = k.holds; counts = k.counts; fits = k.more.0; sane = k.more.1; fair = asks_fair k v q }

-- and so for every state that the tables hold
pub stands_setting : {t w n : ℕ} {W K O : List ℕ} {lay : Layout} {wl : WorkLayout} {ol : OutLayout} {a b : ℕ} {p : Inst} {c : Counts} {F : State → Type 0} (k : Asks t w n W K O lay wl ol a b p c F) (v : Value) (q : code.Option ℕ) (h : Held) (st : State)
    → Holds ol O st → c ≡ counts_of st → Sane (job_of W lay) st → HeldFits (job_of W lay) st h → Setting (job_of W lay) ol O c h st (pieces_of K wl.turned W lay a b v p q)
stands_setting k v q h st hs ec s f = record { holds = hs; counts = ec; fits = f; sane = s; fair = asks_fair k v q }

-- ---- after operands have been mapped

module _ (lay : Layout) (wl : WorkLayout) (K K₁ : List ℕ) (o : Outside lay wl K K₁) (m : MapApart lay wl) where
  row_at_kept : (W : List ℕ) (k : ℕ) → turned_row_at K wl.turned W lay k ≡ turned_row_at K₁ wl.turned W lay k
  unfolding turned_row_at
  row_at_kept W k =
      let e₀ : get_or K₁ (wl.turned + k * 4) 0 ≡ get_or K (wl.turned + k * 4) 0 = o.behind (wl.turned + k * 4) (omega (arith, m.turned)) in
      let e₂ : get_or K₁ (wl.turned + k * 4 + 2) 0 ≡ get_or K (wl.turned + k * 4 + 2) 0 = o.behind (wl.turned + k * 4 + 2) (omega (arith, m.turned)) in
      let e₃ : get_or K₁ (wl.turned + k * 4 + 3) 0 ≡ get_or K (wl.turned + k * 4 + 3) 0 = o.behind (wl.turned + k * 4 + 3) (omega (arith, m.turned)) in
      λ t. record {
        value = record { 0 = sym e₀ t };
        use' = sym (row_kept lay wl K K₁ o m W k) t;
        param = cond (eqb (sym e₂ t) 0) none (some (sym e₃ t));
      }

  -- the rows are as they were
  pub rows_kept : (W : List ℕ) (a b : ℕ) → turned_rows_of K wl.turned W lay a b ≡ turned_rows_of K₁ wl.turned W lay a b
  unfolding turned_rows_of
  rows_kept W a b = tab_ext (turned_row_at K wl.turned W lay) (turned_row_at K₁ wl.turned W lay) a a (b - a) (λ n l. row_at_kept W (a + n))

  pub rows_ok : (w w₁ a b : ℕ) → w₁ ≡ w → RowsOk w K wl.turned lay a b → RowsOk w₁ K₁ wl.turned lay a b
  rows_ok w w₁ a b e r =
      record { order = r.order; within = omega (arith, r.within); known = λ k h l. known_kept lay wl K K₁ o m w a b k r h l }

  pub pieces_kept : (W : List ℕ) (a b : ℕ) (v : Value) (p : Inst) (q : code.Option ℕ) → pieces_of K₁ wl.turned W lay a b v p q ≡ pieces_of K wl.turned W lay a b v p q
  pieces_kept W a b v p q = ap (λ (ts : List Turned). conflict_piece v p (param_by q) ts ∷ []) (sym (rows_kept W a b))

pub ready_then : (t : ℕ) (W work work' : List ℕ) (lay : Layout) (wl : WorkLayout) → Outside lay wl (words_of work) (words_of work') → MapApart lay wl → constraints.Ready t (word_count work) W (words_of work) lay wl
    → constraints.Ready t (word_count work') W (words_of work') lay wl
ready_then t W work work' lay wl x a r =
    let e : word_count work ≡ word_count work' = sym (length_words work) ∙ sym x.long ∙ length_words work' in
    subst (λ (m : ℕ). constraints.Ready t m W (words_of work') lay wl) e (ready_kept lay wl (words_of work) (words_of work') x a t (word_count work) W r)

module _ (W K K' : List ℕ) (lay : Layout) (wl : WorkLayout) (a b : ℕ) (v : Value) (p : Inst) (q : code.Option ℕ) (x : Outside lay wl K K') (m : MapApart lay wl) where
  pub fair_then : (J : Job) → Fair J 4096 (pieces_of K wl.turned W lay a b v p q) → Fair J 4096 (pieces_of K' wl.turned W lay a b v p q)
  fair_then J = subst (Fair J 4096) (sym (pieces_kept lay wl K K' x m W a b v p q))

  -- what was told of the piece when its operands were mapped
  pub told_then : (J : Job) (ol : OutLayout) (O O₁ : List ℕ) (i u : ℕ) (t : Tally) → Told J ol O i u (pieces_of K' wl.turned W lay a b v p q) O₁ t → Told J ol O i u (pieces_of K wl.turned W lay a b v p q) O₁ t
  told_then J ol O O₁ i u t = subst (λ (ps : List Piece). Told J ol O i u ps O₁ t) (pieces_kept lay wl K K' x m W a b v p q)
