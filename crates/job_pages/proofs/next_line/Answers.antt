use mathlib.Core.Path.{◌≡◌}
use native.Mathlib.Omega.{arith}
use Rattle.sheet_rules.specs.Kinds.{number_of, key_number}
use Rattle.job_pages.specs.Lines.{line_step}
use Rattle.job_pages.proofs.Asked.{more, shown_few, row_word, ready_key, ready_at, fields_in, fields_few}
use Rattle.job_pages.proofs.next_line.Goals as goal

pub overflow_cast-shown : goal.overflow_cast-shown
overflow_cast-shown c = let p = c.requires in
    omega (arith, shown_few p.0 c.args.key p.1 p.2, c.shown.ensures)

pub behind-next-requires : goal.behind-next-requires
behind-next-requires c = let p = c.requires in
    let r = ready_key p.0 c.args.key p.1 p.2 c.shown.ensures c.row_at-w.ensures in (
      r.key,
      omega (arith, r.rows),
      omega (arith, r.segs),
      omega (arith, r.uses),
      λ q. (omega (arith, (r.block q).0, p.0.long), omega (arith, (r.block q).1)),
    )

pub fields-n-requires : goal.fields-n-requires
fields-n-requires c = let p = c.requires in
    let r = ready_at p.0 c.args.key p.1 p.2 c.shown.ensures c.row_at-w.ensures in
    (λ q. omega (arith, r.group q, p.0.long), λ q. (omega (arith, (r.kind q).0, p.0.long), (r.kind q).1))

pub first_field-a-requires : goal.first_field-a-requires
first_field-a-requires c = let p = c.requires in
    let r = ready_at p.0 c.args.key p.1 p.2 c.shown.ensures c.row_at-w.ensures in
    omega (arith, r.row)

pub written-more-requires : goal.written-more-requires
written-more-requires c = let p = c.requires in
    let r = ready_key p.0 c.args.key p.1 p.2 c.shown.ensures c.row_at-w.ensures in
    (p.0.long, r.values, r.seg)

pub put_record-end-requires : goal.put_record-end-requires
put_record-end-requires c = let p = c.requires in
    let r = ready_at p.0 c.args.key p.1 p.2 c.shown.ensures c.row_at-w.ensures in (
      omega (arith, p.3, c.open-front.ensures.most, c.open-front.auto),
      fields_in p.0 c.args.key p.1 p.2 r c.fields-n.ensures c.first_field-a.ensures,
      fields_few p.0 c.args.key p.1 p.2 r c.fields-n.ensures,
    )

pub returns : goal.returns
returns c = let p = c.requires in
    let e : key_number c.args.cur.key ≡ number_of c.args.key = p.1 in
    line_step _ _ (more p.0 c.args.key p.1) p.0.long _ _ _ _ _ _ _ _ _ _ _ _ p.0 p.2
    (row_word p.0 c.args.key p.1 p.2 c.shown.ensures c.row_at-w.ensures)
    (rw (← e) at c.fields-n.ensures) c.written-more.ensures (rw (← e) at c.open-front.ensures)
    (rw (← e) at c.first_field-a.ensures)
    (rw (← e) at c.put_record-end.ensures) c.behind-next.ensures
