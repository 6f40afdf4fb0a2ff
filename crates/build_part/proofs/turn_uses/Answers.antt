use mathlib.Core.Path.{refl, sym, ap, subst, ◌∙◌}
use Prim.Native.Nat.{ℕ, ◌/◌}
use native.Mathlib.Omega.{arith}
use Rattle.words.specs.Words.{word_count, words_of}
use Rattle.words.specs.Laws.{length_words}
use Rattle.job.specs.JobWords.{words_in}
use Rattle.frame.specs.InFrame.{marked_use}
use Rattle.constraints.specs.Ready.{Ready}
use Rattle.definition.specs.Admit.{turn}
use Rattle.steps.specs.Turns.{TurnRoom}
use Rattle.steps.proofs.Moved.{part_range}
use Rattle.build_part.proofs.Turns.{turn_asked}
use Rattle.build_part.proofs.Turned.{turning_none, turning_then, none_held, turning_one, turn_within, turn_less, end_held, moves_settled}
use Rattle.build_part.proofs.turn_uses.Goals as goal

pub loop-last-init : goal.loop-last-init
loop-last-init c =
    let r = part_range _ _ _ c.requires.0.ok in
    (refl, turning_none c.requires.0, omega arith, r.0, λ st h. none_held _ st (marked_use c.args.fr.now c.args.work.now) c.args.sp.first _ _ c.fresh_held-held.ensures)

pub move_from-m-requires : goal.move_from-m-requires
move_from-m-requires c =
    let i = c.loop-last.invariant in
    let r = part_range _ _ _ i.1.laid.ok in (
      subst (λ (k : ℕ). Ready (word_count c.args.fr.now.job.bytes.now) k (words_in c.args.fr.now.job) (words_of c.loop-last.work) c.args.fr.now.job.lay c.args.fr.now.wl)
          (ap (λ (k : ℕ). k / 4) (sym i.0)) i.1.laid.ready,
      c.requires.1.long,
      i.2,
      i.3,
      r.1,
      r.2,
      c.requires.1.book,
    )

-- no use is to be turned
pub returns-in-Ok-clause-turning : goal.returns-in-Ok-clause-turning
returns-in-Ok-clause-turning c = c.loop-last.invariant.1

pub returns-in-Ok-clause-moves : goal.returns-in-Ok-clause-moves
returns-in-Ok-clause-moves c st h =
    let i = c.loop-last.invariant in
    moves_settled _ _ _ _ _ i.1.laid.ok st _ _ _ (c.move_from-m.ensures.moves st h (i.4 st h)).0 _ _ (c.settle.ensures _ _) c.in-Ok.is

pub returns-in-Ok-clause-passes : goal.returns-in-Ok-clause-passes
returns-in-Ok-clause-passes c st h = (c.move_from-m.ensures.moves st h (c.loop-last.invariant.4 st h)).1

pub turn_one-requires : goal.turn_one-requires
turn_one-requires c =
    let i = c.loop-last.invariant in
    let s = c.requires.2 in
    let h = i.1.stands s.0 s.1 in
    let m = moves_settled _ _ _ _ _ i.1.laid.ok s.0 _ _ _ (c.move_from-m.ensures.moves s.0 h (i.4 s.0 h)).0 _ _ (c.settle.ensures _ _) c.in-Err.is in
    let x = turn_asked i.1.laid (ap (λ (k : ℕ). k / 4) (sym i.0) ∙ sym (length_words _)) s.0 _ _ (m ∙ ap turn (sym c.saturating_sub.ensures)) in
    (x.0, subst (λ (k : ℕ). TurnRoom k c.args.fr.now.job.lay c.args.fr.now.wl) (ap (λ (k : ℕ). k / 4) (sym i.0)) x.1, x.2, x.3)

-- an end is turned
pub loop-last-smaller-then-k-m : goal.loop-last-smaller-then-k-m
loop-last-smaller-then-k-m c =
    let i = c.loop-last.invariant in
    let s = c.requires.2 in
    turn_less i.1.laid (ap (λ (k : ℕ). k / 4) (sym i.0) ∙ sym (length_words _)) s.0 (i.1.stands s.0 s.1) c.args.top _
    (λ st h. moves_settled _ _ _ _ _ i.1.laid.ok st _ _ _ (c.move_from-m.ensures.moves st h (i.4 st h)).0 _ _ (c.settle.ensures _ _) c.in-Err.is ∙ ap turn (sym c.saturating_sub.ensures))
    _ c.turn_one.ensures

pub loop-last-preserved-then-k-m : goal.loop-last-preserved-then-k-m
loop-last-preserved-then-k-m c =
    let i = c.loop-last.invariant in
    let s = c.requires.2 in
    let w = c.move_from-m.ensures.within in
    let one =
    turning_one i.1.laid (ap (λ (k : ℕ). k / 4) (sym i.0) ∙ sym (length_words _)) s.0 (i.1.stands s.0 s.1) c.args.top _
    (λ st h. moves_settled _ _ _ _ _ i.1.laid.ok st _ _ _ (c.move_from-m.ensures.moves st h (i.4 st h)).0 _ _ (c.settle.ensures _ _) c.in-Err.is ∙ ap turn (sym c.saturating_sub.ensures))
    _ c.turn_one.ensures in
    let within =
    turn_within i.1.laid (ap (λ (k : ℕ). k / 4) (sym i.0) ∙ sym (length_words _)) s.0 (i.1.stands s.0 s.1) c.args.top _
    (λ st h. moves_settled _ _ _ _ _ i.1.laid.ok st _ _ _ (c.move_from-m.ensures.moves st h (i.4 st h)).0 _ _ (c.settle.ensures _ _) c.in-Err.is ∙ ap turn (sym c.saturating_sub.ensures)) in
    let behind =
    end_held i.1.laid (ap (λ (k : ℕ). k / 4) (sym i.0) ∙ sym (length_words _)) s.0 (i.1.stands s.0 s.1) c.args.top _
    (λ st h. moves_settled _ _ _ _ _ i.1.laid.ok st _ _ _ (c.move_from-m.ensures.moves st h (i.4 st h)).0 _ _ (c.settle.ensures _ _) c.in-Err.is ∙ ap turn (sym c.saturating_sub.ensures))
    _ c.turn_one.ensures c.in-Err.k (c.saturating_sub.ensures) (omega (arith, w.0, i.2, c.if-k-m.true)) _
    (λ st h. rw c.if-k-m.true (c.move_from-m.ensures.moves st h (i.4 st h)).1) in
    (omega (arith, i.0, c.turn_one.auto.work), turning_then i.1 one, omega (arith, w.0, i.2, c.if-k-m.true), omega (arith, within, c.saturating_sub.ensures, w.0, i.2, c.if-k-m.true), behind)

-- a start is turned
pub loop-last-smaller : goal.loop-last-smaller
loop-last-smaller c =
    let i = c.loop-last.invariant in
    let s = c.requires.2 in
    turn_less i.1.laid (ap (λ (k : ℕ). k / 4) (sym i.0) ∙ sym (length_words _)) s.0 (i.1.stands s.0 s.1) c.args.top _
    (λ st h. moves_settled _ _ _ _ _ i.1.laid.ok st _ _ _ (c.move_from-m.ensures.moves st h (i.4 st h)).0 _ _ (c.settle.ensures _ _) c.in-Err.is ∙ ap turn (sym c.saturating_sub.ensures))
    _ c.turn_one.ensures

pub loop-last-preserved : goal.loop-last-preserved
loop-last-preserved c =
    let i = c.loop-last.invariant in
    let s = c.requires.2 in
    let one =
    turning_one i.1.laid (ap (λ (k : ℕ). k / 4) (sym i.0) ∙ sym (length_words _)) s.0 (i.1.stands s.0 s.1) c.args.top _
    (λ st h. moves_settled _ _ _ _ _ i.1.laid.ok st _ _ _ (c.move_from-m.ensures.moves st h (i.4 st h)).0 _ _ (c.settle.ensures _ _) c.in-Err.is ∙ ap turn (sym c.saturating_sub.ensures))
    _ c.turn_one.ensures in
    let r = part_range _ _ _ i.1.laid.ok in
    (omega (arith, i.0, c.turn_one.auto.work), turning_then i.1 one, omega arith, r.0, λ st h. none_held _ st (marked_use c.args.fr.now c.turn_one.new.work) c.args.sp.first _ _ c.fresh_held-held-else-k-m.ensures)
