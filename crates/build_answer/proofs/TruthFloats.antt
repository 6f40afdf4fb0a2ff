-- The floats of a job that a sheet stands for are f32: each is read from its pattern. Assumes nothing.
use mathlib.Core.Path.{◌≡◌, refl, subst}
use mathlib.Core.Bool.{Bool, true, false}
use mathlib.Core.Option.{Option, none, some, some-injective}
use mathlib.Core.List.{List, [], ◌∷◌, map}
use Prim.Native.Nat.{ℕ, ◌-◌}
use native.Mathlib.Omega.{arith}
use lib.Dec.{T, ltb}
use lib.ListN.{get_or}
use lib.Ieee.{binary32, fits}
use lib.Ieee.Bits.{of_bits-fits}
use Rattle.definition.specs.declared.BlockData.{BlockData}
use Rattle.definition.specs.declared.ClassData.{ClassData}
use Rattle.definition.specs.declared.Options.{Options}
use Rattle.definition.specs.Types.{Job}
use Rattle.definition.specs.RegInfo.{zero_f, no_class, class_at}
use Rattle.definition.specs.SplitPlacement.{freq_at}
use Rattle.definition.specs.Text.{◌>>=◌}
use Rattle.definition.specs.JobSheet.{Record, opt, class, block, at, float, options_of, class_data_of, block_data_of, only}
use Rattle.definition.specs.JobSheet.{job_of_records}
use Rattle.definition.specs.SheetForms.{records_in, job_in}
use Rattle.definition.proofs.Places.{All, all_get_d}
use Rattle.build_answer.specs.Truth.{F32Job}

zero_fits : T (fits binary32 zero_f)
unfolding fits
zero_fits = tt

abbrev pub CostFits : ClassData → Type 0
CostFits d = T (fits binary32 d.cost)

abbrev pub FreqFits : BlockData → Type 0
FreqFits b = T (fits binary32 b.frequency)

freq_fits : (bs : List BlockData) → All FreqFits bs → (i : ℕ) → T (fits binary32 (freq_at bs i))
unfolding freq_at
freq_fits [] h i = zero_fits
freq_fits (b ∷ bs) h i = go (ltb i b.insts) refl (freq_fits bs h.1 (i - b.insts))
  where
    go : (t : Bool) → ltb i b.insts ≡ t → T (fits binary32 (freq_at bs (i - b.insts)))
        → T (fits binary32 (freq_at (b ∷ bs) i))
    go true e ih = rw (e, freq_at) h.0
    go false e ih = rw (e, freq_at) ih

pub record ScalesFit (o : Options) : Type 0 where
  pub move : T (fits binary32 o.cheaper_than_move)
  pub load : T (fits binary32 o.cheaper_than_load)
  pub indirect : T (fits binary32 o.indirect)

-- a job is of f32 if its three tables of floats are
pub f32_job : (job : Job) → ScalesFit job.options → All CostFits job.classes → All FreqFits job.blocks
    → F32Job job
unfolding class_at
f32_job job s cs bs = record {
  move_fits = s.move;
  load_fits = s.load;
  indirect_fits = s.indirect;
  costs = λ c. all_get_d CostFits job.classes c.0 no_class cs zero_fits;
  frequencies = freq_fits job.blocks bs;
}

-- ---- the sheet's

map_all : {A B : Type 0} (P : B → Type 0) (f : A → B) → ((a : A) → P (f a)) → (xs : List A) → All P (map f xs)
map_all P f h [] = tt
map_all P f h (x ∷ xs) = (h x, map_all P f h xs)

float_fits : (b : ℕ) → T (fits binary32 (float b))
unfolding float
float_fits b = of_bits-fits binary32 b

options_fit : (ns : List ℕ) → ScalesFit (options_of ns)
unfolding options_of
options_fit ns = record { move = float_fits (at ns 1); load = float_fits (at ns 2); indirect = float_fits (at ns 3) }

cost_fits : (ns : List ℕ) → CostFits (class_data_of ns)
unfolding class_data_of
cost_fits ns = float_fits (at ns 1)

frequency_fits : (ns : List ℕ) → FreqFits (block_data_of ns)
unfolding block_data_of
frequency_fits ns = float_fits (at ns 1)

records_f32 : (rs : List Record) → F32Job (job_of_records rs)
unfolding job_of_records
records_f32 rs =
    f32_job (job_of_records rs) (options_fit (get_or (only opt rs) 0 []))
    (map_all CostFits class_data_of cost_fits (only class rs))
    (map_all FreqFits block_data_of frequency_fits (only block rs))

pub sheet_f32 : (bs : List ℕ) (job : Job) → job_in bs ≡ some job → F32Job job
unfolding job_in
sheet_f32 bs job e = go (records_in bs) e
  where
    go : (o : Option (List Record)) → (o >>= λ rs. some (job_of_records rs)) ≡ some job → F32Job job
    go none f = absurd (let z : ◌≡◌ {A = ℕ} 0 1 = cc in omega arith)
    go (some rs) f = subst F32Job (some-injective (job_of_records rs) job f) (records_f32 rs)
