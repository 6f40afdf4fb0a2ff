use Rattle.sheet_output.proofs.Steps.{use_asked, seg_asked, vreg_asked, group_asked, end_asked, use_step, seg_step, vreg_step, group_step, end_step}
use borrow.Author.Rules.{rules}
use Rattle.sheet_output.proofs.put_next.Goals as goal

pub next_use-requires : goal.next_use-requires
next_use-requires c = let s = c.requires in
    let a = use_asked s.0 c.if-cur.true in
    (search rules, a.0, a.1, search rules)

pub returns-then-cur : goal.returns-then-cur
returns-then-cur c = let s = c.requires in
    let r = c.next_use.ensures in
    use_step _ _ _ _ _ _ _ _ _ _ s.0 s.1 c.if-cur.true r.0 r.1

pub next_seg-requires : goal.next_seg-requires
next_seg-requires c = (search rules, seg_asked c.requires.0 c.if-cur-2.true, search rules)

pub returns-then-cur-2 : goal.returns-then-cur-2
returns-then-cur-2 c = let s = c.requires in
    let r = c.next_seg.ensures in
    seg_step _ _ _ _ _ _ _ _ _ _ s.0 s.1 c.if-cur.false c.if-cur-2.true r.0 r.1

pub next_vreg-requires : goal.next_vreg-requires
next_vreg-requires c = let a = vreg_asked c.requires.0 c.if-cur-regs.true in
    (a.0, a.1, search rules)

pub returns-then-cur-regs : goal.returns-then-cur-regs
returns-then-cur-regs c = let s = c.requires in
    let r = c.next_vreg.ensures in
    vreg_step _ _ _ _ _ _ _ _ _ _ s.0 s.1 c.if-cur.false c.if-cur-2.false c.if-cur-regs.true r.0 r.1

pub next_group-requires : goal.next_group-requires
next_group-requires c = let a = group_asked c.requires.0 c.if-cur-groups.true in
    (search rules, a.0, a.1, a.2, search rules)

pub returns-then-cur-groups : goal.returns-then-cur-groups
returns-then-cur-groups c = let s = c.requires in
    let r = c.next_group.ensures in
    group_step _ _ _ _ _ _ _ _ _ _ s.0 s.1 c.if-cur.false c.if-cur-2.false c.if-cur-regs.false c.if-cur-groups.true r.0 r.1

pub next_end-requires : goal.next_end-requires
next_end-requires c = let a = end_asked c.requires.0 in
    (a.0, a.1, search rules)

pub returns : goal.returns
returns c = let s = c.requires in
    let r = c.next_end.ensures in
    end_step _ _ _ _ _ _ _ _ _ _ s.0 s.1 c.if-cur.false c.if-cur-2.false c.if-cur-regs.false c.if-cur-groups.false r.0 r.1
