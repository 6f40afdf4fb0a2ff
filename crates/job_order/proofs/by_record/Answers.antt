use Rattle.std.specs.Prelude.{ℕ, List}
use Rattle.std.proofs.Common.{ap, ◌∙◌, arith}
use Rattle.words.specs.Words.{words_of}
use Rattle.job_pages.specs.Cursors.{cursor_of}
use Rattle.job_pages.proofs.Asked.{fields_in}
use Rattle.job_order.specs.Rows.{words_from, fields_at}
use Rattle.job_order.proofs.Fields.{by_words}
use Rattle.job_order.proofs.Asked.{ready_kind, fields_lem}
use Rattle.job_order.proofs.by_record.Goals as goal

pub first_field-a-requires : goal.first_field-a-requires
first_field-a-requires c = let p = c.requires in
    omega (arith, (ready_kind p.0 c.args.key p.2 p.3 c.first_word-w.ensures).row)

pub fields-n-requires : goal.fields-n-requires
fields-n-requires c = let p = c.requires in
    let r = ready_kind p.0 c.args.key p.2 p.3 c.first_word-w.ensures in
    (λ q. omega (arith, r.group q, p.0.long), λ q. (omega (arith, (r.kind q).0, p.0.long), (r.kind q).1))

pub fields-m-requires : goal.fields-m-requires
fields-m-requires c = let p = c.requires in
    let r = ready_kind p.1 c.args.key p.2 p.4 c.first_word-w.ensures in
    (λ q. omega (arith, r.group q, p.1.long), λ q. (omega (arith, (r.kind q).0, p.1.long), (r.kind q).1))

pub by_fields-requires : goal.by_fields-requires
by_fields-requires c = let p = c.requires in (
  fields_in p.0 c.args.key p.2 p.3 (ready_kind p.0 c.args.key p.2 p.3 c.first_word-w.ensures) c.fields-n.ensures
      c.first_field-a.ensures,
  fields_in p.1 c.args.key p.2 p.4 (ready_kind p.1 c.args.key p.2 p.4 c.first_word-w.ensures) c.fields-m.ensures
      c.first_field-a.ensures,
)

pub returns : goal.returns
returns c = let p = c.requires in
    c.by_fields.ensures
    ∙ ap
    (λ (l : List ℕ). by_words l (words_from (words_of c.args.y.now) c.first_field-a.result c.fields-m.result))
    (fields_lem (words_of c.args.x.now) (cursor_of c.args.cur) c.args.key c.first_word-w.result
    c.first_field-a.result c.fields-n.result p.2 c.first_word-w.ensures c.first_field-a.ensures
    c.fields-n.ensures)
    ∙ ap (λ (l : List ℕ). by_words (fields_at (words_of c.args.x.now) (cursor_of c.args.cur)) l)
    (fields_lem (words_of c.args.y.now) (cursor_of c.args.cur) c.args.key c.first_word-w.result
    c.first_field-a.result c.fields-m.result p.2 c.first_word-w.ensures c.first_field-a.ensures
    c.fields-m.ensures)
