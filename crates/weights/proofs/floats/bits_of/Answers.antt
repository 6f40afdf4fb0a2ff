-- `floats::bits_of` meets its contract. Assumes nothing.
use mathlib.Core.Path.{refl, sym, subst}
use lib.Dec.{T}
use lib.Ieee.{binary32, fits}
use lib.Ieee.Bits.{of_bits-to_bits}
use Rattle.weights.proofs.Bits.{nonneg_bits}
use Rattle.weights.proofs.Nonneg.{nonneg_number}
use Rattle.weights.proofs.floats.bits_of.Goals as goal

pub float_to_bits-result : goal.float_to_bits-result
float_to_bits-result c = nonneg_number c.args.x c.requires

pub returns : goal.returns
returns c =
    -- what owning an `f32` tells: the format holds it
    let held : T (fits binary32 c.args.x) = subst T (sym c.well_formed.0.1) tt in
    (refl, of_bits-to_bits binary32 c.args.x held, nonneg_bits c.args.x held c.requires)
