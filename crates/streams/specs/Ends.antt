-- How a program ends that hands on whether its last write failed. Assumes nothing.
use Rattle.std.specs.Prelude.{◌≡◌, refl, false, Result, Ok, Err, is_err}
use Rattle.std.specs.Result.{result_or}
use Rattle.std.proofs.Common.{ap, ◌∙◌}
use Rattle.streams.specs.declared.Cut.{Cut}
use Rattle.streams.specs.declared.Broken.{Broken}
use Rattle.streams.specs.declared.Broken.TheVariants.{Output}
use Rattle.streams.specs.Tape.{in_broken, out_broken}

by_write : (w : Result Unit Cut) → (in_broken (result_or w (Err Output)) ≡ false) × (out_broken (result_or w (Err Output)) ≡ is_err w)
by_write (Ok u) = (refl, refl)
by_write (Err e) = (refl, refl)

-- where the write failed, the output broke
pub or_broken : (w : Result Unit Cut) (r : Result Unit Broken) → r ≡ result_or w (Err Output) → (in_broken r ≡ false) × (out_broken r ≡ is_err w)
or_broken w r e = (ap (λ (y : Result Unit Broken). in_broken y) e ∙ (by_write w).0, ap (λ (y : Result Unit Broken). out_broken y) e ∙ (by_write w).1)
