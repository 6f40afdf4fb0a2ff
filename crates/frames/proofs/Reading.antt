-- A frame read part by part. Assumes nothing.
use mathlib.Core.Path.{◌≡◌, refl, sym, ap, subst, ◌∙◌}
use mathlib.Core.Bool.{Bool, true, false, ◌&&◌, false≢true}
use mathlib.Core.List.{List, ◌++◌}
use Prim.Native.Nat.{ℕ, zero, suc, ◌+◌, ◌*◌, ◌≤◌, ◌<◌}
use native.Mathlib.Omega.{arith}
use lib.Dec.{leb, eqb}
use lib.ListN.{length, get_or, take, drop, length-drop, length-append}
use lib.Seq.{get_or-take, take_all, take_at, drop-drop, length-take-le}
use borrow.Author.Tests.{leb-true, le-leb, ne_eqb}
use Rattle.std.specs.Prelude.{Ok, Err}
use Rattle.definition.specs.Text.{digit_of}
use Rattle.streams.specs.declared.Stream.{Stream}
use Rattle.streams.specs.Tape.{is_tape, at_of, AllPlayed, Filled}
use Rattle.streams.specs.Calls.{passed_on}
use Rattle.streams.proofs.Steps.{never}
use Rattle.frames.specs.declared.Frame.{Frame}
use Rattle.frames.specs.declared.NoFrame.TheVariants.{Other}
use Rattle.frames.specs.Frames.{spelled, sheet_size, frame_size, is_head, is_frame}
use Rattle.frames.specs.Read.{Headed, HeadRead, FrameRead}

-- ---- tests

and_false : (b : Bool) → b && false ≡ false
and_false true = refl
and_false false = refl

and_left : (a b : Bool) → a && b ≡ true → a ≡ true
and_left true b e = refl
and_left false b e = e

and_right : (a b : Bool) → a && b ≡ true → b ≡ true
and_right true b e = e
and_right false b e = absurd (false≢true e)

no_head : (D : List ℕ) → is_head D ≡ false → is_frame D ≡ false
no_head D e = ap (λ (b : Bool). b && leb (frame_size D) (length D)) e

some_left : (D : List ℕ) → 1 ≤ length D → false ≡ eqb (length D) 0
some_left D h = sym (ne_eqb (length D) 0 (λ e. absurd (omega (arith, h, e))))

-- ---- the head: the first 18 bytes say as much as all

spelled_front : (D : List ℕ) (at k v : ℕ) → at + k ≤ 18 → spelled (take 18 D) at k v ≡ spelled D at k v
unfolding spelled
spelled_front D at zero v h = refl
spelled_front D at (suc k) v h =
    rw (get_or-take 18 D at 0 (omega (arith, h)), spelled_front D (suc at) k (v * 10 + digit_of (get_or D at 0)) (omega (arith, h))) refl

module _ (tape given : List ℕ) (s : Stream) (n : ℕ) (t : Stream) (H : List ℕ) (l : length H ≡ 18) (q : Filled tape given s (Ok n) t H) where
  abbrev D : List ℕ
  D = drop (at_of s) given

  played : is_tape s ≡ true → AllPlayed tape given s (Ok n) t H
  played y = q.played y

  module _ (g : 18 ≤ n) where
    eighteen : n ≡ 18
    eighteen = omega (arith, g, l, q.within)

    long : is_tape s ≡ true → 18 ≤ length D
    long y = omega (arith, length-drop (at_of s) given, (played y).at, q.bound, g)

    front : is_tape s ≡ true → H ≡ take 18 D
    front y = sym (take_all 18 H (omega (arith, l))) ∙ subst (λ (m : ℕ). take m H ≡ take m D) eighteen (played y).bytes

    number_is : (y : is_tape s ≡ true) (at : ℕ) → at + 8 ≤ 18 → spelled H at 8 0 ≡ spelled D at 8 0
    number_is y at p = ap (λ (b : List ℕ). spelled b at 8 0) (front y) ∙ spelled_front D at 8 0 p

    byte_is : (y : is_tape s ≡ true) (i : ℕ) → i < 18 → get_or H i 0 ≡ get_or D i 0
    byte_is y i p = ap (λ (b : List ℕ). get_or b i 0) (front y) ∙ get_or-take 18 D i 0 p

    module _ (k m : ℕ) (ek : k ≡ spelled H 0 8 0) (em : m ≡ spelled H 9 8 0) where
      head_is : (b : Bool) → b ≡ (eqb (get_or H 8 0) 9 && eqb (get_or H 17 0) 10 && leb k 262144 && leb m 524288) → is_tape s ≡ true → b ≡ is_head D
      head_is b e y = e ∙ rw (byte_is y 8 (omega arith), byte_is y 17 (omega arith), ek, em, number_is y 0 (omega arith), number_is y 9 (omega arith)) refl

      -- another line
      pub head_none : (b : Bool) → b ≡ (eqb (get_or H 8 0) 9 && eqb (get_or H 17 0) 10 && leb k 262144 && leb m 524288) → b ≡ false → HeadRead tape given s (Err Other) t
      head_none b e z =
          record {
            taped = q.taped;
            bound = q.bound;
            room = tt;
            whole = tt;
            missing = λ y. record {
              stopped = λ f. never f;
              passed = λ _. (played y).passed refl;
              none = λ _. no_head D (sym (head_is b e y) ∙ z);
              empty = λ _. some_left D (omega (arith, long y));
            };
          }

      pub head_some : (b : Bool) → b ≡ (eqb (get_or H 8 0) 9 && eqb (get_or H 17 0) 10 && leb k 262144 && leb m 524288) → b ≡ true → HeadRead tape given s (Ok (record { sheet = k; answer = m })) t
      head_some b e z =
          let w : (eqb (get_or H 8 0) 9 && eqb (get_or H 17 0) 10 && leb k 262144 && leb m 524288) ≡ true = sym e ∙ z in
          record {
            taped = q.taped;
            bound = q.bound;
            room = (leb-true k 262144 (and_right (eqb (get_or H 8 0) 9 && eqb (get_or H 17 0) 10) (leb k 262144) (and_left (eqb (get_or H 8 0) 9 && eqb (get_or H 17 0) 10 && leb k 262144) (leb m 524288) w)), leb-true m 524288 (and_right (eqb (get_or H 8 0) 9 && eqb (get_or H 17 0) 10 && leb k 262144) (leb m 524288) w));
            whole = λ y. record {
              long = long y;
              head = sym (head_is b e y) ∙ z;
              sheet = ek ∙ number_is y 0 (omega arith);
              answer = em ∙ number_is y 9 (omega arith);
              at = omega (arith, (played y).at, eighteen);
              passed = (played y).passed refl;
              onward = (played y).onward (omega (arith, l)) refl;
            };
            missing = tt;
          }

    abbrev marks : Bool
    marks = eqb (get_or H 8 0) 9 && eqb (get_or H 17 0) 10

    -- eight bytes that are no number
    pub head_no_sheet : 100000000 ≡ spelled H 0 8 0 → HeadRead tape given s (Err Other) t
    head_no_sheet e = head_none 100000000 (spelled H 9 8 0) e refl (marks && false && leb (spelled H 9 8 0) 524288) refl (ap (λ (b : Bool). b && leb (spelled H 9 8 0) 524288) (and_false marks))

    pub head_no_answer : 100000000 ≡ spelled H 9 8 0 → HeadRead tape given s (Err Other) t
    head_no_answer e = head_none (spelled H 0 8 0) 100000000 refl e (marks && leb (spelled H 0 8 0) 262144 && false) refl (and_false (marks && leb (spelled H 0 8 0) 262144))

-- ---- the parts

module _ (tape given : List ℕ) (s : Stream) (f : Frame) (u : Stream) (q : HeadRead tape given s (Ok f) u) where
  headed : is_tape s ≡ true → Headed tape (drop (at_of s) given) s f u
  headed y = q.whole y

  module _ (n : ℕ) (v : Stream) (X : List ℕ) (lx : length X ≡ f.sheet) (p : Filled tape given u (Ok n) v X) where
    sheet_played : is_tape s ≡ true → AllPlayed tape given u (Ok n) v X
    sheet_played y = p.played (q.taped ∙ y)

    module _ (h : f.sheet ≤ n) (m : ℕ) (t : Stream) (Y : List ℕ) (ly : length Y ≡ f.answer) (r : Filled tape given v (Ok m) t Y) where
      answer_played : is_tape s ≡ true → AllPlayed tape given v (Ok m) t Y
      answer_played y = r.played (p.taped ∙ q.taped ∙ y)

      all_sheet : n ≡ f.sheet
      all_sheet = omega (arith, h, lx, p.within)

      -- a front of a buffer that is full
      full : (i : ℕ) (Z R : List ℕ) → length Z ≡ i → (i ≤ length (Z ++ R)) × (i ≡ length (take i (Z ++ R)))
      full i Z R e = let g : i ≤ length (Z ++ R) = omega (arith, e, length-append Z R) in (g, sym (length-take-le i (Z ++ R) g))

      filled_with : (i k j : ℕ) (Z R : List ℕ) (x : Stream) → length Z ≡ i → j ≡ i → take j Z ≡ take j (drop (at_of x) given) → at_of x ≡ at_of s + k → take i (Z ++ R) ≡ take i (drop k (drop (at_of s) given))
      filled_with i k j Z R x e w y z =
          take_at Z R i e ∙ sym (take_all i Z (omega (arith, e))) ∙ subst (λ (a : ℕ). take a Z ≡ take a (drop (at_of x) given)) w y
          ∙ ap (λ (a : ℕ). take i (drop a given)) z ∙ ap (take i) (sym (drop-drop k (at_of s) given))

      pub frame_whole : (SR AR : List ℕ) → f.answer ≤ m → FrameRead tape given s (Ok f) t (X ++ SR) (Y ++ AR)
      frame_whole SR AR k =
          record {
            taped = r.taped ∙ p.taped ∙ q.taped;
            bound = r.bound;
            sheet = full f.sheet X SR lx;
            answer = full f.answer Y AR ly;
            whole = λ y.
                let hd : Headed tape (drop (at_of s) given) s f u = headed y in
                record {
                  frame = ap (λ (c : Bool). c && leb (frame_size (drop (at_of s) given)) (length (drop (at_of s) given))) hd.head ∙ le-leb (frame_size (drop (at_of s) given)) (length (drop (at_of s) given)) (omega (arith, end y, r.bound, length-drop (at_of s) given, hd.sheet, hd.answer));
                  sheet = filled_with f.sheet 18 n X SR u lx all_sheet (sheet_played y).bytes hd.at ∙ ap (λ (j : ℕ). take j (drop 18 (drop (at_of s) given))) hd.sheet;
                  answer =
                      filled_with f.answer (18 + sheet_size (drop (at_of s) given)) m Y AR v ly all_answer (answer_played y).bytes (omega (arith, (sheet_played y).at, hd.at, all_sheet, hd.sheet))
                      ∙ ap (λ (j : ℕ). take j (drop (18 + sheet_size (drop (at_of s) given)) (drop (at_of s) given))) hd.answer;
                  at = omega (arith, end y, hd.sheet, hd.answer);
                  passed = passed_on tape s u t hd.passed
                      (passed_on tape u v t ((sheet_played y).passed refl) ((answer_played y).passed refl));
                  onward = omega (
                    arith,
                    hd.onward,
                    ((sheet_played y).passed refl).onward,
                    ((answer_played y).passed refl).onward,
                  );
                };
            missing = tt;
          }
        where
          all_answer : m ≡ f.answer
          all_answer = omega (arith, k, ly, r.within)

          end : is_tape s ≡ true → at_of t ≡ at_of s + 18 + f.sheet + f.answer
          end y = omega (arith, (headed y).at, (sheet_played y).at, (answer_played y).at, all_sheet, all_answer)
