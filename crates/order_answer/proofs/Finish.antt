-- From two sheets that were read and the write of a line to how the run ends. Assumes nothing.
use Rattle.std.specs.Prelude.{◌≡◌, Bool, true, false, List, ℕ, Result, Ok, Err, is_err}
use Rattle.std.specs.Result.{result_or}
use Rattle.std.proofs.Common.{sym, subst}
use Rattle.words.specs.Words.{words_of}
use Rattle.definition.specs.declared.Order.{Order as Placed}
use Rattle.definition.specs.declared.SheetRefusal.{SheetRefusal}
use Rattle.definition.specs.SheetForms.{SheetOut}
use Rattle.definition.specs.JobOrder.{answered, ordered_text}
use Rattle.order_answer.specs.Answers.{Answers, out_of}
use Rattle.streams.specs.declared.Cut.{Cut}
use Rattle.order_answer.specs.declared.run.BrokenAt.{BrokenAt}
use Rattle.order_answer.specs.declared.run.BrokenAt.TheVariants.{Output}
use Rattle.order_answer.specs.Tapes.{Taped}
use Rattle.order_answer.specs.Reads.{rest_of, Told}
use Rattle.order_answer.specs.Runs.{Written, Answered, Ordered}

module _ (s t o : Taped) (v w : Result Unit SheetRefusal) (T U : List ℕ) (a : Told s v T) (b : Told t w U)
    (q : Result Placed SheetRefusal) (h : Answers v (words_of T) w (words_of U) q) (P : List ℕ) where
  -- the line that is written is the answer to the bytes that are given
  answer_is : (failed : Bool) → Written o (answered (out_of q)) failed P → Answered s t o failed P
  unfolding ordered_text
  answer_is failed e = record {
    first = a.whole;
    second = b.whole;
    written = λ y z.
        subst (λ (x : SheetOut Placed). Written o (answered x) failed P)
        (h (rest_of s) (rest_of t) (a.shelved y) (b.shelved z)) e;
  }

  pub ordered_put : (u : Result Unit Cut) (r : Result Unit BrokenAt) → r ≡ result_or u (Err Output)
      → Written o (answered (out_of q)) (is_err u) P → Ordered s t o r P
  ordered_put u r e f = subst (λ (x : Result Unit BrokenAt). Ordered s t o x P) (sym e) (go u f)
    where
      go : (u : Result Unit Cut) → Written o (answered (out_of q)) (is_err u) P
          → Ordered s t o (result_or u (Err Output)) P
      go (Ok tt) g = answer_is false g
      go (Err c) g = answer_is true g
