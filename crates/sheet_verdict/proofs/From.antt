-- Parts of a buffer, and a stream that is read. Assumes nothing.
use mathlib.Core.Path.{◌≡◌, refl, sym, ap, subst, ◌∙◌}
use mathlib.Core.Bool.{Bool, true, false}
use mathlib.Core.List.{List, [], ◌∷◌, ◌++◌, append_assoc}
use Prim.Native.Nat.{ℕ, zero, suc, ◌+◌, ◌≤◌, ◌<◌}
use native.Mathlib.Omega.{arith}
use Rattle.std.proofs.lemmas.Bool.{true≢false}
use lib.ListN.{length, get_or, take, drop, take-append-drop, get_or-eq_default}
use lib.Seq.{drop-drop}
use Rattle.std.specs.Prelude.{Result, Ok, is_err}
use Rattle.sheet.specs.Front.{Formed, run_form}
use Rattle.sheet.specs.Stream.{Streamed, none_yet, one_more_lem}
use Rattle.streams.specs.declared.Stream.{Stream}
use Rattle.streams.specs.declared.Cut.{Cut}
use Rattle.streams.specs.Tape.{is_tape, call_of, at_of, Passed, Played, Read, got}
use Rattle.streams.specs.Calls.{passed_none, passed_on, stopped_on, stopped_end}
use Rattle.sheet_verdict.specs.Taken.{Taken}

pub small_take : (n : ℕ) (l : List ℕ) → ((i : ℕ) → get_or l i 0 < 256) → (i : ℕ) → get_or (take n l) i 0 < 256
small_take zero l h i = omega arith
small_take (suc n) [] h i = omega arith
small_take (suc n) (x ∷ l) h zero = h 0
small_take (suc n) (x ∷ l) h (suc i) = small_take n l (λ j. h (suc j)) i

-- behind so many turns
pub record Kept (tape given bytes : List ℕ) (s cur : Stream) (turns : ℕ) : Type 0 where
  pub fed : bytes ++ drop (at_of cur) given ≡ drop (at_of s) given
  pub passed : Passed tape s cur
  pub calls : turns ≤ call_of cur

pub record Taking (tape given : List ℕ) (s cur : Stream) (turns : ℕ) (f g : Formed) : Type 0 where
  pub streamed : Streamed f g
  pub taped : is_tape cur ≡ is_tape s
  pub bound : at_of cur ≤ length given
  pub kept : is_tape s ≡ true → Kept tape given streamed.bytes s cur turns

pub taking_start : (tape given : List ℕ) (s : Stream) (f : Formed) → at_of s ≤ length given
    → Taking tape given s s 0 f f
unfolding none_yet
taking_start tape given s f h = record {
  streamed = none_yet f;
  taped = refl;
  bound = h;
  kept = λ _. record { fed = refl; passed = passed_none tape s; calls = omega arith };
}

module _ (tape given : List ℕ) (s cur : Stream) (turns : ℕ) (f g : Formed) (v : Stream) (B : List ℕ)
    (t : Taking tape given s cur turns f g) where
  pub taking_next : (n : ℕ) (h : Formed) → Read tape given cur (Ok n) v B
      → ((i : ℕ) → get_or B i 0 < 256) → h ≡ run_form g (take n B) → Taking tape given s v (turns + 1) f h
  unfolding one_more_lem
  taking_next n h q b e =
      record {
        streamed = one_more_lem h (take n B) t.streamed (small_take n B b) e;
        taped = q.taped ∙ t.taped;
        bound = q.bound;
        kept = λ y.
            let k : Kept tape given t.streamed.bytes s cur turns = t.kept y in
            let w : Played tape given cur n false v B = q.played (t.taped ∙ y) in
            record {
              fed =
                  append_assoc t.streamed.bytes (take n B) (drop (at_of v) given)
                  ∙ ap (λ (l : List ℕ). t.streamed.bytes ++ (l ++ drop (at_of v) given)) w.bytes
                  ∙ ap (λ (m : ℕ). t.streamed.bytes ++ (take n (drop (at_of cur) given) ++ drop m given)) w.at
                  ∙ ap (λ (l : List ℕ). t.streamed.bytes ++ (take n (drop (at_of cur) given) ++ l))
                  (sym (drop-drop n (at_of cur) given))
                  ∙ ap (λ (l : List ℕ). t.streamed.bytes ++ l) (take-append-drop n (drop (at_of cur) given))
                  ∙ k.fed;
              passed = passed_on tape s cur v k.passed (w.passed refl);
              calls = omega (arith, k.calls, w.onward refl);
            };
      }

  module _ (r : Result ℕ Cut) (q : Read tape given cur r v B) where
    -- a call that read nothing
    stands : is_tape s ≡ true → got r ≡ 0 → t.streamed.bytes ++ drop (at_of v) given ≡ drop (at_of s) given
    stands y z =
        let e : at_of v ≡ (at_of cur) = omega (arith, (q.played (t.taped ∙ y)).at, z) in
        ap (λ (m : ℕ). t.streamed.bytes ++ drop m given) e ∙ (t.kept y).fed

    pub taking_failed : is_err r ≡ true → Taken tape given s f g true v
    taking_failed e =
        record {
          streamed = t.streamed;
          on_tape = λ y. record {
            fed = stands y (q.nothing e);
            whole = λ z. absurd (true≢false z);
            passed = λ z. absurd (true≢false z);
            stopped = λ _. stopped_on tape s cur v ⊥ (t.kept y).passed ((q.played (t.taped ∙ y)).stopped e);
          };
        }

  pub taking_end : Read tape given cur (Ok 0) v B → 1 ≤ length B → Taken tape given s f g false v
  taking_end q l =
      record {
        streamed = t.streamed;
        on_tape = λ y. record {
          fed = stands (Ok 0) q y refl;
          whole = λ _. omega (arith, (q.played (t.taped ∙ y)).at, q.end (t.taped ∙ y) refl l);
          passed = λ _. passed_on tape s cur v (t.kept y).passed ((q.played (t.taped ∙ y)).passed refl);
          stopped = λ e. absurd (true≢false (sym e));
        };
      }

pub taking_out : (tape given : List ℕ) (s cur : Stream) (turns : ℕ) (f g : Formed) → Taking tape given s cur turns f g
    → length tape ≤ turns → Taken tape given s f g true cur
taking_out tape given s cur turns f g t z =
    record {
      streamed = t.streamed;
      on_tape = λ y. record {
        fed = (t.kept y).fed;
        whole = λ e. absurd (true≢false e);
        passed = λ e. absurd (true≢false e);
        stopped = λ _.
            stopped_end tape s cur ⊥ (t.kept y).passed
            (get_or-eq_default tape 0 (omega (arith, z, (t.kept y).calls)));
      };
    }

pub taken_from : (tape given : List ℕ) (s next : Stream) (f f' g : Formed) (failed : Bool) → f ≡ f'
    → Taken tape given s f g failed next → Taken tape given s f' g failed next
taken_from tape given s next f f' g failed e t = subst (λ (k : Formed). Taken tape given s k g failed next) e t
