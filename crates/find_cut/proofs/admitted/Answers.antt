use mathlib.Core.Path.{sym}
use borrow.Author.Tests.{eqb-true, eqb-false}
use Rattle.std.proofs.Common.{rules}
use Rattle.find_cut.proofs.Answers.{unsided, sided, no_side, no_rows, no_block, reads, unread, stopped, passed}
use Rattle.find_cut.proofs.admitted.Goals as goal

pub returns-in_default : goal.returns-in_default
returns-in_default c = let a = c.args in
    unread a.blocks.now a.after a.before a.side (no_side a.blocks.now a.side (unsided _ _ c.in_default.ensures))

pub returns-then-blocks-ne0 : goal.returns-then-blocks-ne0
returns-then-blocks-ne0 c = let a = c.args in
    unread a.blocks.now a.after a.before a.side (no_rows a.blocks.now a.side c.if-blocks-ne0.true)

pub returns-then-is_empty : goal.returns-then-is_empty
returns-then-is_empty c = let a = c.args in
    unread a.blocks.now a.after a.before a.side (no_block a.blocks.now a.side (eqb-true _ _ (sym c.if-is_empty.ensures)))

pub returns-in_err-tested : goal.returns-in_err-tested
returns-in_err-tested c = let a = c.args in
    let r = reads a.blocks.now a.side (sided _ _ _ c.in-Some.ensures).0 c.if-blocks-ne0.false (eqb-false _ _ (sym c.if-is_empty.ensures)) in
    let h = stopped a.blocks.now a.after a.before a.side r _ c.in_err-tested.ensures in
    search (rules, h)

pub returns : goal.returns
returns c = let a = c.args in
    let d = sided _ _ _ c.in-Some.ensures in
    let r = reads a.blocks.now a.side d.0 c.if-blocks-ne0.false (eqb-false _ _ (sym c.if-is_empty.ensures)) in
    passed a.blocks.now a.after a.before a.side r _ d.1 c.in_ok-tested.ensures
