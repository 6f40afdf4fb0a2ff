-- A stream, on a tape what its calls answer and its bytes, before some calls and behind them. Assumes nothing.
use Rattle.std.specs.Prelude.{List, ℕ}
use Rattle.streams.specs.declared.Stream.{Stream}

pub record Taped : Type 0 where
  pub tape : List ℕ
  pub bytes : List ℕ
  pub at : Stream
  pub next : Stream

abbrev pub taped : List ℕ → List ℕ → Stream → Stream → Taped
taped l bs s t = record { tape = l; bytes = bs; at = s; next = t }
