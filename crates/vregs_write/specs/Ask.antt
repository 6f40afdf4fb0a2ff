-- What opening gaps asks of the tables. Assumes nothing.
use Rattle.std.specs.Prelude.{◌≡◌, List, ◌++◌, ℕ, ◌+◌, ◌*◌, ◌^◌, ◌≤◌, ◌<◌, length, get_or, take, drop}
use Rattle.std.proofs.Common.{sym, ap, ◌∙◌, arith, length-append, take-append-drop}
use Rattle.words.specs.Moves.{Gap}
use Rattle.definition.specs.declared.VirtReg.{VirtReg}
use Rattle.definition.specs.Types.{Piece, State}
use Rattle.definition.specs.Place.{pieces_in, uses_in, uses_of, segs_of}
use Rattle.definition.specs.Admit.{register_at}
use Rattle.virt_regs.specs.declared.OutLayout.{OutLayout}
use Rattle.virt_regs.specs.declared.Counts.{Counts}
use Rattle.virt_regs.specs.Encoding.{seg_base, use_base, tables_end, all_pieces, counts_of, Holds}
use Rattle.virt_regs.specs.Counting.{uses_append, count_uses}
use Rattle.virt_regs.specs.Reads.{first_use, pieces_in_lem, first_held, count_held, piece_word}
use Rattle.vregs_write.specs.InsertFlat.{Liftable}
use Rattle.virt_regs.specs.Held.{held_long, fit_registers, fit_segments}

-- The tables hold some state with these counts, with room for np pieces and nu uses more; register v has piece k or ends there.
pub record Ask (ol : OutLayout) (O : List ℕ) (c : Counts) (v : VirtReg) (k np nu : ℕ) : Type 0 where
  pub st : State
  pub holds : Holds ol O st
  pub counts : c ≡ counts_of st
  pub here : v.0 < length st.registers
  pub before : k ≤ length (register_at st v).pieces
  pub segs : c.segs + np ≤ ol.segs
  pub uses : c.uses + nu ≤ ol.uses
  pub small : (c.segs + np < 2 ^ 32) × (c.uses + nu < 2 ^ 32)

-- the pieces' gap, then the uses'
pub record Gaps₂ (ol : OutLayout) (c : Counts) (p u np nu : ℕ) (O O' : List ℕ) : Type 0 where
  pub mid : List ℕ
  pub pieces : Gap O (seg_base ol + p * 7) (seg_base ol + c.segs * 7) (np * 7) mid
  pub uses : Gap mid (use_base ol + u * 6) (use_base ol + c.uses * 6) (nu * 6) O'

-- the first use of a piece is among the uses
pub first_use_le : (st : State) (i : ℕ) → first_use st i ≤ uses_in st
unfolding first_use
first_use_le st i =
    let A : List Piece = all_pieces st.registers in
    let e : uses_of (segs_of A) ≡ uses_of (segs_of (take i A)) ++ uses_of (segs_of (drop i A)) = ap (λ (t : List Piece). uses_of (segs_of t)) (sym (take-append-drop i A)) ∙ uses_append (take i A) (drop i A) in
    omega (arith, count_uses st, ap length e, length-append (uses_of (segs_of (take i A))) (uses_of (segs_of (drop i A))))

module _ (ol : OutLayout) (O : List ℕ) (c : Counts) (v : VirtReg) (k np nu : ℕ) (a : Ask ol O c v k np nu) where
  pub ask_first : get_or O (v.0 * 8 + 6) 0 + k ≤ c.segs
  ask_first =
      let n : c.segs ≡ pieces_in a.st = ap (λ (x : Counts). x.segs) a.counts in
      omega (arith, first_held ol O a.st a.holds v a.here, pieces_in_lem ol O a.st a.holds v a.here, a.before)

  pub ask_long : tables_end ol ≤ length O
  ask_long = held_long a.holds

  pub ask_row : v.0 < ol.regs
  ask_row = omega (arith, fit_registers a.holds, a.here)

  pub ask_lift : (p : ℕ) → p ≤ c.segs → Liftable ol c v.0 p np nu O
  ask_lift p hp =
      let en : c.regs ≡ length a.st.registers = ap (λ (x : Counts). x.regs) a.counts in
      let ep : c.segs ≡ pieces_in a.st = ap (λ (x : Counts). x.segs) a.counts in
      let eu : c.uses ≡ uses_in a.st = ap (λ (x : Counts). x.uses) a.counts in
      record {
        here = omega (arith, a.here);
        before = hp;
        regs = omega (arith, fit_registers a.holds);
        segs = omega (arith, fit_segments a.holds);
        count = omega (arith, count_held ol O a.st a.holds v a.here, pieces_in_lem ol O a.st a.holds v a.here, a.small);
        firsts = λ i l.
            let w : VirtReg = record { 0 = i } in
            omega (arith, first_held ol O a.st a.holds w (omega arith), pieces_in_lem ol O a.st a.holds w (omega arith), a.small);
        uses = λ i l. omega (arith, piece_word ol O a.st a.holds i 5 (omega arith) (omega arith), first_use_le a.st i, a.small);
      }
