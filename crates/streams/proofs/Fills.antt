-- A buffer that is filled from its start on. Assumes nothing.
use mathlib.Core.Path.{◌≡◌, refl, sym, ap, ◌∙◌}
use mathlib.Core.Bool.{true, false}
use mathlib.Core.List.{List, ◌++◌}
use Prim.Native.Nat.{ℕ, ◌+◌, ◌-◌, ◌≤◌}
use native.Mathlib.Omega.{arith}
use lib.ListN.{length, take, drop, length-drop, length-append}
use lib.Seq.{length-take-le, take-add, take-append-add, take-append-le, drop-drop}
use Rattle.std.specs.Prelude.{Result, Ok, is_err}
use Rattle.streams.specs.declared.Stream.{Stream}
use Rattle.streams.specs.declared.Cut.{Cut}
use Rattle.streams.specs.Tape.{is_tape, fd_of, call_of, at_of, Passed, Played, Read, got}
use Rattle.streams.specs.Calls.{passed_on}

-- X with its elements from `done` on lent, and back as Y
abbrev pub back : ℕ → ℕ → List ℕ → List ℕ → List ℕ
back done k X Y = take done X ++ (Y ++ drop k (drop done X))

take_back : (done k n : ℕ) (X Y : List ℕ) → done ≤ length X → n ≤ length Y → take (done + n) (back done k X Y) ≡ take done X ++ take n Y
take_back done k n X Y h g =
    let Z : List ℕ = Y ++ drop k (drop done X) in
    ap (λ (m : ℕ). take (m + n) (take done X ++ Z)) (sym (length-take-le done X h)) ∙ take-append-add (take done X) Z n
    ∙ ap (λ (l : List ℕ). take done X ++ l) (take-append-le n Y (drop k (drop done X)) g)

-- the part was lent, and has as many elements as it had
pub part_long : (done : ℕ) (X Y : List ℕ) → length Y ≡ length (take (length X - done) (drop done X)) → length Y ≡ length X - done
part_long done X Y e = e ∙ length-take-le (length X - done) (drop done X) (omega (arith, length-drop done X))

pub length_back : (done k : ℕ) (X Y : List ℕ) → done ≤ length X → k ≡ length X - done → length Y ≡ k → length (back done k X Y) ≡ length X
length_back done k X Y h e g =
    let Z : List ℕ = Y ++ drop k (drop done X) in
    omega (arith, length-append (take done X) Z, length-append Y (drop k (drop done X)), length-take-le done X h, length-drop k (drop done X), length-drop done X)

-- on a tape, between two turns
pub record Kept-filled (tape given : List ℕ) (s cur : Stream) (done : ℕ) (B : List ℕ) : Type 0 where
  pub at : at_of cur ≡ at_of s + done
  pub bytes : take done B ≡ take done (drop (at_of s) given)
  pub passed : Passed tape s cur
  pub onward : 1 ≤ done → call_of s + 1 ≤ call_of cur

pub record Filling (tape given : List ℕ) (s cur : Stream) (done : ℕ) (B : List ℕ) : Type 0 where
  pub within : done ≤ length B
  pub taped : is_tape cur ≡ is_tape s
  pub fd : fd_of cur ≡ fd_of s
  pub bound : at_of cur ≤ length given
  pub kept : is_tape s ≡ true → Kept-filled tape given s cur done B

module _ (tape given : List ℕ) (s cur : Stream) (done k : ℕ) (X : List ℕ) (t : Stream) (Y : List ℕ) (h : Filling tape given s cur done X) (e : k ≡ length X - done) (l : length Y ≡ k) where
  module _ (r : Result ℕ Cut) (q : Read tape given cur r t Y) where
    played : is_tape s ≡ true → Played tape given cur (got r) (is_err r) t Y
    played y = q.played (h.taped ∙ y)

    filled_within : done + got r ≤ length (back done k X Y)
    filled_within = omega (arith, h.within, q.within, length_back done k X Y h.within e l)

    filled_bytes : (y : is_tape s ≡ true) → take (done + got r) (back done k X Y) ≡ take (done + got r) (drop (at_of s) given)
    filled_bytes y =
        let z : Kept-filled tape given s cur done X = h.kept y in
        let D : List ℕ = drop (at_of s) given in
        let n : ℕ = got r in
        take_back done k n X Y h.within q.within
        ∙ ap (λ (x : List ℕ). x ++ take n Y) z.bytes
        ∙ ap (λ (x : List ℕ). take done D ++ x) ((played y).bytes ∙ ap (λ (m : ℕ). take n (drop m given)) z.at ∙ ap (take n) (sym (drop-drop done (at_of s) given)))
        ∙ sym (take-add done n D)

  pub filling_next : (n : ℕ) → (n ≡ 0 → ⊥) → Read tape given cur (Ok n) t Y → Filling tape given s t (done + n) (back done k X Y)
  filling_next n p q =
      record {
        within = filled_within (Ok n) q;
        taped = q.taped ∙ h.taped;
        fd = q.fd ∙ h.fd;
        bound = q.bound;
        kept = λ y.
            let z : Kept-filled tape given s cur done X = h.kept y in
            let w : Played tape given cur n false t Y = played (Ok n) q y in
            record {
              at = omega (arith, w.at, z.at);
              bytes = filled_bytes (Ok n) q y;
              passed = passed_on tape s cur t z.passed (w.passed refl);
              onward = λ _. omega (arith, w.onward refl, z.passed.onward);
            };
      }
