-- Change request 13 of every accepted result, and of every sheet's. Assumes nothing.
use mathlib.Core.Path.{◌≡◌, refl, sym, subst}
use mathlib.Core.Option.{none, some}
use mathlib.Core.List.{List}
use Prim.Native.Nat.{ℕ, ◌+◌, ◌≤◌, ◌<◌}
use native.Mathlib.Omega.{arith}
use lib.Ieee.{Float}
use Rattle.definition.specs.Types.{Job, Register, Room, done}
use Rattle.definition.specs.RegInfo.{zero_f}
use Rattle.definition.specs.LiveRange.{live_insts}
use Rattle.definition.specs.Weights.{sum_segs}
use Rattle.definition.specs.Place.{segs_of}
use Rattle.definition.specs.Build.{Result}
use Rattle.definition.specs.Entry.{answer, entry}
use Rattle.definition.specs.SheetForms.{job_in, given', answer_to_sheet}
use Rattle.definition.specs.Promised.{OwnWeight}
use Rattle.definition.proofs.Accepted.{accepted}
use Rattle.definition.proofs.Entries.{accepted_adjust}
use Rattle.definition.proofs.Places.{All, all_map}
use Rattle.definition.proofs.Promises.{promise_weighed}
use Rattle.definition.proofs.Forms.{answer_given}
use Rattle.weights.proofs.Sums.{accepted_plain}
use Rattle.build_answer.specs.Truth.{FineWeight, F32Job, NearExact, TrueWeight, RankTrue, nonzeros, exact_sum}
use Rattle.build_answer.proofs.Sums.{sum_near}
use Rattle.build_answer.proofs.Truth.{fine_count, weight_true}
use Rattle.build_answer.proofs.Rank.{rank_true}
use Rattle.build_answer.proofs.TruthFloats.{sheet_f32}

module _ (job : Job) (e : entry job ≡ none) (f : F32Job job) where
  -- the weight of its own pieces is true, and the instructions and k stay exact as an f32
  register_true : (r : Register) → OwnWeight job r → TrueWeight job r
  register_true r w s =
      let ss = segs_of r.pieces in
      let k = w s.0 in
      let l : live_insts ss + job.options.adjust ≤ 16777216 = omega (arith, k.1, accepted_adjust job e) in
      subst (NearExact job ss) (sym k.0)
      (weight_true job (accepted_plain job e) f r.class ss l (subst (FineWeight job ss) k.0 s.1))

  -- a register that the conditions hold of is weighed over one instruction at least, or k
  count_above : (ss : List _) (w : Float) → FineWeight job ss w → 0 < live_insts ss + job.options.adjust
  count_above ss w g =
      fine_count (sum_segs job zero_f ss) (live_insts ss + job.options.adjust)
      (sum_near job (accepted_plain job e) f ss g.sums).finite g.quotient

  ranked : (r q : Register) → TrueWeight job r → TrueWeight job q → RankTrue job r q
  ranked r q t u a b far =
      let ss = segs_of r.pieces in
      let ts = segs_of q.pieces in
      let k = job.options.adjust in
      rank_true (nonzeros job ss) (nonzeros job ts) r.weight q.weight (exact_sum job ss) (exact_sum job ts)
      (live_insts ss + k) (live_insts ts + k) (count_above ss r.weight a.1) (count_above ts q.weight b.1)
      (t a) (u b) far

no_number : (job : Job) (room : Room) (res : Result) → answer job room ≡ done res → entry job ≡ none
unfolding answer
no_number job room res e = (accepted (entry job) job room res refl e).0

-- "Then the distance of W and E times 2^23 is at most (n + 3) × E": of each register of an accepted result that is
-- without group and of finite weight, under the conditions, with the uses of its own pieces.
-- Rules out, as readings: a group member's weight, which is its group's least; n as the uses of the whole set.
pub promise_weights : (job : Job) (room : Room) (res : Result) → F32Job job → answer job room ≡ done res
    → All (TrueWeight job) res.registers
promise_weights job room res f e =
    all_map (OwnWeight job) (TrueWeight job) (register_true job (no_number job room res e) f) res.registers
    (promise_weighed job room res e)

-- The rule for ranks, of each two registers of one result.
-- Rules out, as readings: that the greater weight is enough; that one of the two allowances is.
pub promise_ranks : (job : Job) (room : Room) (res : Result) → F32Job job → answer job room ≡ done res
    → All (λ r. All (RankTrue job r) res.registers) res.registers
promise_ranks job room res f e =
    let a = promise_weights job room res f e in
    let n = no_number job room res e in
    let others : (r : Register) → TrueWeight job r → All (RankTrue job r) res.registers =
    λ r t. all_map (TrueWeight job) (RankTrue job r) (λ q u. ranked job n f r q t u) res.registers a in
    all_map (TrueWeight job) (λ r. All (RankTrue job r) res.registers) others res.registers a

-- The same of the job of a sheet of either form.
-- Rules out, as readings: another job's numbers for those of the sheet; a sheet that is refused.
pub promise_weights_sheet : (bs : List ℕ) (room : Room) (job : Job) (res : Result) → job_in bs ≡ some job
    → answer_to_sheet bs room ≡ given' res → All (TrueWeight job) res.registers
promise_weights_sheet bs room job res j e = promise_weights job room res (sheet_f32 bs job j) (answer_given bs room job res j e)
