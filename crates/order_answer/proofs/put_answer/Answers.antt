use Rattle.std.proofs.Common.{ap, arith, length}
use Rattle.order_answer.proofs.Texts.{word_short, word_line, number_line}
use Rattle.order_answer.proofs.put_answer.Goals as goal

pub put_bytes-n-requires : goal.put_bytes-n-requires
put_bytes-n-requires c = omega (arith, c.requires, word_short c.in-Ok.o, ap length c.word.ensures)

pub put_bytes-requires : goal.put_bytes-requires
put_bytes-requires c =
    omega (
      arith,
      c.requires,
      word_short c.in-Ok.o,
      ap length c.word.ensures,
      c.put_bytes-n.ensures.most,
      c.put_bytes-n.auto,
    )

pub returns-in-Ok : goal.returns-in-Ok
returns-in-Ok c =
    word_line c.args.r c.in-Ok.o c.word.result.now _ _ _ _ _ c.in-Ok.is c.word.ensures c.put_bytes-n.ensures
    c.put_bytes.ensures

pub returns-in-Err : goal.returns-in-Err
returns-in-Err c =
    number_line c.args.r c.in-Err.f _ _ _ _ c.in-Err.is c.number.ensures c.put_refused.ensures
