-- What the entry rules say of an accepted job's words. Assumes nothing.
use mathlib.Core.Path.{◌≡◌, refl, ◌∙◌, subst}
use mathlib.Core.Bool.{Bool, true, false}
use mathlib.Core.Option.{none}
use mathlib.Core.List.{List}
use Prim.Native.Nat.{ℕ, ◌+◌, ◌*◌, ◌≤◌, ◌<◌}
use lib.Dec.{T}
use lib.ListN.{get_or}
use lib.Ieee.{binary32, of_bits}
use borrow.Author.Tests.{leb-true}
use Rattle.words.specs.RowsAt.{get_or_rows_at}
use Rattle.definition.specs.declared.ClassData.{ClassData}
use Rattle.definition.specs.Types.{cls}
use Rattle.definition.specs.RegInfo.{no_class, class_at}
use Rattle.definition.specs.Entry.{small, entry}
use Rattle.definition.proofs.Entries.{accepted_adjust}
use Rattle.weights.proofs.Bits.{small_test}
use Rattle.weights.specs.Costs.{PlainJob}
use Rattle.weights.proofs.Sums.{accepted_plain}
use Rattle.reginfo.specs.Rows.{class_row, classes_at}
use Rattle.job.specs.declared.Layout.{Layout}
use Rattle.job.specs.Layout.{options_row}
use Rattle.job.specs.Job.{job_by, job_of}
use Rattle.vreg_weight.specs.Book.{SmallBook}

is_true : (b : Bool) → T b → b ≡ true
is_true true t = refl
is_true false t = absurd t

small_bits : (b : ℕ) → b < 4294967296 → T (small (of_bits binary32 b)) → b ≤ 0x4980_0000
small_bits b h t = leb-true b 0x4980_0000 (small_test b h ∙ is_true (small (of_bits binary32 b)) t)

-- costs, scales and k; the words are u32
pub book_small : (W : List ℕ) (lay : Layout) → ((i : ℕ) → get_or W i 0 < 4294967296) → PlainJob (job_of W lay) → (job_of W lay).options.adjust ≤ 65535 → SmallBook W lay
unfolding job_of job_by options_row classes_at class_row class_at
book_small W lay h p k =
    record {
      adjust = k;
      move = small_bits _ (h (lay.opts + 1)) p.scales.move_small;
      load = small_bits _ (h (lay.opts + 2)) p.scales.load_small;
      indirect = small_bits _ (h (lay.opts + 3)) p.scales.indirect_small;
      costs = λ c l.
          small_bits _ (h (lay.classes.at + c * 4 + 1))
          (subst (λ (d : ClassData). T (small d.cost)) (get_or_rows_at class_row W lay.classes.at 4 lay.classes.n c no_class l) (p.costs (cls c)));
    }

pub accepted_book : (W : List ℕ) (lay : Layout) → ((i : ℕ) → get_or W i 0 < 4294967296) → entry (job_of W lay) ≡ none → SmallBook W lay
accepted_book W lay h e = book_small W lay h (accepted_plain (job_of W lay) e) (accepted_adjust (job_of W lay) e)
