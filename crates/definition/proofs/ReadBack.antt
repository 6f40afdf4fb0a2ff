-- Reading back: every class use of the job stands in the result exactly as often, a turned one in a conflict piece of its value. Assumes nothing.
use mathlib.Core.Path.{◌≡◌, refl, ap, sym, ◌∙◌}
use Prim.Native.Nat.{ℕ, zero, suc, ◌+◌, ◌<◌}
use native.Mathlib.Omega.{arith}
use mathlib.Core.Bool.{Bool, true, false, cond}
use mathlib.Core.Option.{Option, none, some}
use mathlib.Core.List.{List, [], ◌∷◌, ◌++◌, map}
use lib.ListN.{length, get_or}
use lib.Dec.{eqb}
use Rattle.definition.specs.Types.{BlockparamIn, Inst, Job, Piece, Room, Turned, Use, Value, done}
use Rattle.definition.specs.Admit.{no_use}
use Rattle.definition.specs.Place.{total}
use Rattle.definition.specs.Build.{Result, build, conflict_piece, one, opening, turn_in, turned_of, turned_use}
use Rattle.definition.proofs.Places.{All, counted}
use Rattle.definition.proofs.Measures.{Measure, measured}
use Rattle.definition.proofs.Points.{cond_sum, own_uses, passing, uses_parted}

-- a test that conflict marks and block parameters do not pass
pub record Test (P : Use → Bool) : Type 0 where
  pub mark : (u : Use) → P (turned_use u) ≡ false
  pub param : (p : Inst) (q : ℕ) → P (record { pos = p; kind = BlockparamIn q }) ≡ false

module _ (v : Value) (P : Use → Bool) where
  -- how many uses of value v pass: of a piece, own or added; of a turned use
  abbrev pub of_piece : Piece → ℕ
  of_piece p = own_uses v P p.seg

  abbrev of_turned : Turned → ℕ
  of_turned t = cond (eqb t.value.0 v.0) (one (P t.use')) 0

  module _ (test : Test P) where
    -- a turned use leaves its segment
    turn_passing : (n : ℕ) (us : List Use) → n < length us → passing v P (turn_in n us) + one (P (get_or us n no_use)) ≡ passing v P us
    unfolding turn_in total
    turn_passing n [] h = absurd (omega arith)
    turn_passing zero (u ∷ us) h = rw (test.mark u) (omega arith)
    turn_passing (suc n) (u ∷ us) h = omega (arith, turn_passing n us (omega arith))

    uses_taken : (w : Value) (ts : List Turned) → All (λ t. t.value ≡ w) ts → cond (eqb w.0 v.0) (passing v P (map (λ t. t.use') ts)) 0 ≡ total of_turned ts
    unfolding total
    uses_taken w [] a = go (eqb w.0 v.0)
      where
        go : (b : Bool) → ◌≡◌ {A = ℕ} (cond b 0 0) 0
        go true = refl
        go false = refl
    uses_taken w (t ∷ ts) a =
        let us = passing v P (map (λ t. t.use') ts) in
        rw a.0 (sym (cond_sum (eqb w.0 v.0) (one (P t.use')) us (one (P t.use') + us) refl)
        ∙ ap (λ (n : ℕ). cond (eqb w.0 v.0) (one (P t.use')) 0 + n) (uses_taken w ts a.1))

    opening_none : (p : Inst) (o : Option ℕ) (us : List Use) → passing v P (opening p o ++ us) ≡ passing v P us
    unfolding total
    opening_none p none us = refl
    opening_none p (some q) us = rw (test.param p q) (omega arith)

    uses_measure : Measure of_piece of_turned
    unfolding turned_of conflict_piece
    uses_measure = record {
      parted = uses_parted v P;
      turned = λ n s c.
          cond_sum (eqb s.value.0 v.0) (passing v P (turn_in n s.uses)) (one (P (get_or s.uses n no_use))) (passing v P s.uses) (turn_passing n s.uses c.0);
      taken = λ w p o ts a. ap (λ (n : ℕ). cond (eqb w.0 v.0) n 0) (opening_none p o (map (λ t. t.use') ts)) ∙ uses_taken w ts a;
    }

    -- a use of value v that passes the test stands in the pieces of an accepted job's result exactly as often as in the job
    pub uses_same : (job : Job) (room : Room) (res : Result) → build job room ≡ done res → counted of_piece res.registers ≡ total (own_uses v P) job.segments
    uses_same job room res e = measured of_piece of_turned uses_measure job room res e
