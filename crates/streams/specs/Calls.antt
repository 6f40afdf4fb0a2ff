-- Calls behind calls, on a tape. Assumes nothing.
use Rattle.std.specs.Prelude.{◌≡◌, List, ℕ, ◌+◌, ◌≤◌, ◌<◌, get_or}
use Rattle.std.proofs.Common.{subst, arith, inl, inr}
use Rattle.std.proofs.lemmas.Bool.{cases_lt}
use Rattle.streams.specs.declared.Stream.{Stream}
use Rattle.streams.specs.Tape.{call_of, Passed, Stopped}

pub passed_none : (tape : List ℕ) (s : Stream) → Passed tape s s
passed_none tape s = record { onward = omega arith; none = λ k h g. absurd (omega (arith, h, g)) }

-- those up to t did not fail: then none from s on, if none from t on
none_on : (tape : List ℕ) (s t : Stream) (n : ℕ) → Passed tape s t
    → ((k : ℕ) → call_of t ≤ k → k < n → 0 < get_or tape k 0)
    → (k : ℕ) → call_of s ≤ k → k < n → 0 < get_or tape k 0
none_on tape s t n p f k h g = elim (cases_lt k (call_of t)) [ inl l ↦ p.none k h l | inr l ↦ f k l g ]

pub passed_on : (tape : List ℕ) (s t u : Stream) → Passed tape s t → Passed tape t u → Passed tape s u
passed_on tape s t u p q = record {
  onward = omega (arith, p.onward, q.onward);
  none = none_on tape s t (call_of u) p q.none;
}

pub stopped_on : (tape : List ℕ) (s t u : Stream) (full : Type 0) → Passed tape s t → Stopped tape t u full
    → Stopped tape s u full
stopped_on tape s t u full p q = record {
  call = q.call;
  from = omega (arith, p.onward, q.from);
  none = none_on tape s t q.call p q.none;
  fails = q.fails;
  made = q.made;
  last = q.last;
}

-- behind the end of the tape
pub stopped_end : (tape : List ℕ) (s t : Stream) (full : Type 0) → Passed tape s t → get_or tape (call_of t) 0 ≡ 0
    → Stopped tape s t full
stopped_end tape s t full p z = record {
  call = call_of t;
  from = p.onward;
  none = p.none;
  fails = λ h. absurd (omega (arith, h, z));
  made = omega arith;
  last = omega arith;
}

-- the one call from s to t
pub passed_one : (tape : List ℕ) (s t : Stream) → call_of t ≡ call_of s + 1 → 0 < get_or tape (call_of s) 0
    → Passed tape s t
passed_one tape s t e z = record {
  onward = omega (arith, e);
  none = λ k h g.
      let i : call_of s ≡ k = omega (arith, e, h, g) in
      subst (λ (j : ℕ). 0 < get_or tape j 0) i z;
}
