use native.Mathlib.Omega.{arith}
use Prim.Native.Nat.{◌+◌}
use mathlib.Core.Path.{◌≡◌, refl, ◌∙◌}
use Rattle.words.specs.Words.{words_of}
use Rattle.words.specs.Laws.{length_words, words_small}
use Rattle.function.specs.Blocks.{blocks_at, start_words}
use Rattle.words.specs.Parts.{splice}
use Rattle.function.specs.declared.starts.table.BlockStarts.{BlockStarts}
use Rattle.function.specs.Table.{words_in}
use Rattle.split_placement.proofs.Chosen.{Judges}
use Rattle.function.proofs.Made.{table_made}
use Rattle.cut_moves.proofs.Same.{Open, open_order, open_there, open_finite, table_chosen}
use Rattle.cut_moves.proofs.Found.{opened, no_more, above, listed}
use Rattle.cut_moves.proofs.put_sorted.Goals.{After-judging-to}
use Rattle.cut_moves.proofs.put_sorted.Goals as goal

-- the open blocks found in the table that is lent
found : (c : After-judging-to) {t : BlockStarts} → words_in t ≡ words_of c.put_starts.new.starts → t.at ≡ 0
    → t.n ≡ c.args.n → Judges t c.args.side (c.args.after + 1) c.judging-from.result.0
    → Judges t c.args.side c.args.before c.judging-to.result.0
    → Open t (blocks_at (words_of c.args.blocks.now) 0 c.args.n) c.args.after c.args.before c.args.side
    c.judging-from.result.0 c.judging-to.result.0
found c {t} words at count first last =
    let a = c.args in
    let p = c.requires in
    let small = words_small a.blocks.now (λ i. omega (arith, c.type_inv.blocks i)) in
    let made : words_in t ≡ splice (words_of a.work.now) t.at (start_words (words_of a.blocks.now) 0 t.n) =
    words ∙ c.put_starts.ensures ∙ rw (at, count) in
    opened t _ a.after a.before a.side _ _
    (rw (← count) (table_made t _ _ _ made (omega (arith, length_words a.work.now)) small (rw count p.8)))
    p.8 p.5 p.6 first last

pub chosen-c-requires : goal.chosen-c-requires
chosen-c-requires c = let o = found (goal.at.chosen-c-requires c).After-judging-to refl refl refl
    c.judging-from.ensures.1 c.judging-to.ensures.1 in
    (open_order o, omega (arith, open_there o))

pub edge_of-e-requires : goal.edge_of-e-requires
edge_of-e-requires c = let o = found (goal.at.edge_of-e-requires c).After-judging-to refl refl refl
    c.judging-from.ensures.1 c.judging-to.ensures.1 in
    let t = open_there o in
    (omega (arith, t), omega (arith, t), open_finite o)

pub put_moves-count-requires : goal.put_moves-count-requires
put_moves-count-requires c =
    let o = found (goal.at.put_moves-count-requires c).After-judging-to refl refl refl
    c.judging-from.ensures.1 c.judging-to.ensures.1 in
    let t = open_there o in
    let ec = c.chosen-c.ensures in (
      omega (arith, t),
      omega (arith, t),
      omega (arith, t),
      open_finite o,
      table_chosen o ec,
      above o _ _ ec c.edge_of-e.ensures,
      c.requires.9,
    )

pub sort-requires : goal.sort-requires
sort-requires c =
    let o = found (goal.at.sort-requires c).After-judging-to refl refl refl
    c.judging-from.ensures.1 c.judging-to.ensures.1 in
    let k = no_more o _ _ _ c.put_moves-count.ensures.0 in
    (omega (arith, k, c.put_moves-count.auto.list), omega (arith, k, c.put_starts.auto.starts))

pub returns : goal.returns
returns c =
    let o = found (goal.at.returns c).After-judging-to refl refl refl
    c.judging-from.ensures.1 c.judging-to.ensures.1 in
    listed o _ _ c.chosen-c.ensures c.edge_of-e.ensures _ _ _ _ (omega arith)
    c.put_moves-count.ensures.0 c.put_moves-count.ensures.1 c.sort.ensures
