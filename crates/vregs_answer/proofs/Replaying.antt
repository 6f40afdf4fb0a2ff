-- Frame after frame. Assumes nothing.
use mathlib.Core.Path.{◌≡◌, refl, sym, ap, subst, ◌∙◌}
use mathlib.Core.Bool.{Bool, true, false, ◌&&◌, cond}
use mathlib.Core.List.{List, [], ◌++◌, append_assoc, append-nil}
use Prim.Native.Nat.{ℕ, zero, suc, ◌+◌, ◌≤◌}
use native.Mathlib.Omega.{arith}
use lib.Dec.{leb, eqb}
use lib.ListN.{length, take, drop, length-drop, take-append-drop, drop_of_length-le, get_or-eq_default}
use lib.Seq.{drop-drop}
use borrow.Author.Tests.{leb-true}
use Rattle.std.specs.Prelude.{Result, Ok, Err, is_ok, is_err}
use Rattle.definition.specs.Text.{same}
use Rattle.definition.specs.SheetForms.{vregs_of}
use Rattle.std.specs.Result.{result_or}
use Rattle.streams.specs.declared.Stream.{Stream}
use Rattle.streams.specs.declared.Cut.{Cut}
use Rattle.streams.specs.declared.Broken.{Broken}
use Rattle.streams.specs.declared.Broken.TheVariants.{Input, Output}
use Rattle.streams.specs.Tape.{is_tape, call_of, at_of, Passed, AllMarked, WroteAll}
use Rattle.streams.specs.Tape.{written as moved, in_broken, out_broken}
use Rattle.streams.specs.Calls.{passed_none, passed_on, stopped_on, stopped_end}
use Rattle.streams.specs.Ends.{or_broken}
use Rattle.streams.proofs.Steps.{never}
use Rattle.frames.specs.declared.Frame.{Frame}
use Rattle.frames.specs.Frames.{is_head, is_frame, frame_size, frame_answer, agrees, past_frame}
use Rattle.frames.specs.Report.{differs_line, missed, summary, report_from, report}
use Rattle.frames.specs.declared.NoFrame.{NoFrame}
use Rattle.frames.specs.Read.{Missing, Framed, FrameRead, failed, ended}
use Rattle.vregs_answer.specs.Ran.{Compared, AnswerRead, Ran}

-- what did not fail
unbroken : (w : Result Unit Cut) → is_err w ≡ false → is_ok w ≡ true
unbroken (Ok u) e = refl
unbroken (Err d) e = never (sym e)

-- ---- one frame

pub found_some : (tape given : List ℕ) (s : Stream) (f : Frame) (t : Stream) (S A : List ℕ) (b : Bool) → FrameRead tape given s (Ok f) t S A → b ≡ same (take f.answer A) (vregs_of (take f.sheet S)) → AnswerRead tape given s (Ok b) t
found_some tape given s f t S A b q i =
    record {
      taped = q.taped;
      bound = q.bound;
      whole = λ y.
          let w : Framed tape (drop (at_of s) given) s f t S A = q.whole y in
          record {
            frame = w.frame;
            is = i ∙ ap (λ (l : List ℕ). same l (vregs_of (take f.sheet S))) w.answer ∙ ap (λ (l : List ℕ). same (frame_answer (drop (at_of s) given)) (vregs_of l)) w.sheet;
            at = w.at;
            passed = w.passed;
            onward = w.onward;
          };
      missing = tt;
    }

-- ---- the report, frame by frame

report_stop : (k n d : ℕ) (D : List ℕ) → is_frame D ≡ false → report_from k n d D ≡ summary (eqb (length D) 0) n d
unfolding report_from
report_stop zero n d D e = refl
report_stop (suc k) n d D e =
    ap (λ (b : Bool). cond b (differs_line (agrees D) (n + 1) ++ report_from k (n + 1) (d + missed (agrees D)) (past_frame D)) (summary (eqb (length D) 0) n d)) e

report_next : (k n d : ℕ) (D : List ℕ) → is_frame D ≡ true → report_from (suc k) n d D ≡ differs_line (agrees D) (n + 1) ++ report_from k (n + 1) (d + missed (agrees D)) (past_frame D)
unfolding report_from
report_next k n d D e =
    ap (λ (b : Bool). cond b (differs_line (agrees D) (n + 1) ++ report_from k (n + 1) (d + missed (agrees D)) (past_frame D)) (summary (eqb (length D) 0) n d)) e

and_right : (a b : Bool) → a && b ≡ true → b ≡ true
and_right true b e = e
and_right false b e = never e

frame_fits : (D : List ℕ) → is_frame D ≡ true → frame_size D ≤ length D
frame_fits D e = leb-true (frame_size D) (length D) (and_right (is_head D) (leb (frame_size D) (length D)) e)

pub missed_one : (b : Bool) → missed b ≤ 1
missed_one true = omega arith
missed_one false = omega arith

-- ---- between two turns

pub record Kept (reads given : List ℕ) (input : Stream) (writes paper : List ℕ) (output at to : Stream)
    (answers differ turn : ℕ) (P : List ℕ) : Type 0 where
  pub fuel : ℕ
  pub enough : length (drop (at_of at) given) ≤ fuel
  pub text : take (at_of to) P ++ report_from fuel answers differ (drop (at_of at) given) ≡ take (at_of output) paper ++ report (drop (at_of input) given)
  pub read : Passed reads input at
  pub written : Passed writes output to
  pub made : turn ≤ call_of at

pub record Replaying (reads given : List ℕ) (input : Stream) (writes paper : List ℕ) (output at to : Stream)
    (answers differ turn : ℕ) (P : List ℕ) : Type 0 where
  pub in_taped : is_tape at ≡ is_tape input
  pub out_taped : is_tape to ≡ is_tape output
  pub in_bound : at_of at ≤ length given
  pub out_bound : at_of to ≤ length P
  pub few : answers ≤ turn
  pub less : differ ≤ answers
  pub kept : is_tape input ≡ true → is_tape output ≡ true → Kept reads given input writes paper output at to answers differ turn P

pub replaying_start : (reads given : List ℕ) (input : Stream) (writes paper : List ℕ) (output : Stream)
    → at_of input ≤ length given → at_of output ≤ length paper
    → Replaying reads given input writes paper output input output 0 0 0 paper
replaying_start reads given input writes paper output h g =
    record {
      in_taped = refl;
      out_taped = refl;
      in_bound = h;
      out_bound = g;
      few = omega arith;
      less = omega arith;
      kept = λ _ _. record {
        fuel = length (drop (at_of input) given);
        enough = omega arith;
        text = refl;
        read = passed_none reads input;
        written = passed_none writes output;
        made = omega arith;
      };
    }

-- what was written of a text, and what is left of it
written : (tape P text : List ℕ) (to : Stream) (w : Result Unit Cut) (t : Stream) (Q R : List ℕ) → AllMarked tape P text to w t Q → take (at_of t) Q ++ (drop (moved text w) text ++ R) ≡ take (at_of to) P ++ (text ++ R)
written tape P text to w t Q R m =
    let n : ℕ = moved text w in
    ap (λ (l : List ℕ). l ++ (drop n text ++ R)) m.text
    ∙ append_assoc (take (at_of to) P) (take n text) (drop n text ++ R)
    ∙ ap (λ (l : List ℕ). take (at_of to) P ++ l) (sym (append_assoc (take n text) (drop n text) R) ∙ ap (λ (l : List ℕ). l ++ R) (take-append-drop n text))

nothing_left : (text : List ℕ) (n : ℕ) → n ≡ length text → drop n text ≡ []
nothing_left text n e = let h : length text ≤ n = omega (arith, e) in drop_of_length-le text h

module _ (reads given : List ℕ) (input : Stream) (writes paper : List ℕ) (output at to : Stream) (answers differ turn : ℕ) (P : List ℕ) (h : Replaying reads given input writes paper output at to answers differ turn P) where
  -- no turn is left
  pub replaying_out : length reads ≤ turn → Ran reads given input at writes paper output (Err Input) to P
  replaying_out z =
      record {
        on_tapes = λ ti tw.
            let k : Kept reads given input writes paper output at to answers differ turn P = h.kept ti tw in
            record {
              rest = report_from k.fuel answers differ (drop (at_of at) given);
              is = k.text;
              whole = λ y _. never (sym y);
              unread = λ _. stopped_end reads input at ⊥ k.read (get_or-eq_default reads 0 (omega (arith, k.made, z)));
              read = λ y. never (sym y);
              unwritten = λ y. never y;
              written = λ _. k.written;
            };
      }

  module _ (e : NoFrame) (next : Stream) (q : AnswerRead reads given at (Err e) next) where
    missing : is_tape input ≡ true → Missing reads (drop (at_of at) given) at e next
    missing t = q.missing (h.in_taped ∙ t)

    -- no frame is left: the last line
    module _ (b : Bool) (eb : b ≡ ended e) (z : failed e ≡ false) (w : Result Unit Cut) (t : Stream) (Q : List ℕ) (a : WroteAll writes P (summary b answers differ) to w t Q) where
      abbrev last : List ℕ
      last = summary b answers differ

      marked : is_tape output ≡ true → AllMarked writes P last to w t Q
      marked tw = a.marked (h.out_taped ∙ tw)

      all_but : is_tape input ≡ true → is_tape output ≡ true → take (at_of t) Q ++ drop (moved last w) last ≡ take (at_of output) paper ++ report (drop (at_of input) given)
      all_but ti tw =
          let k : Kept reads given input writes paper output at to answers differ turn P = h.kept ti tw in
          ap (λ (l : List ℕ). take (at_of t) Q ++ l) (sym (append-nil (drop (moved last w) last))) ∙ written writes P last to w t Q [] (marked tw)
          ∙ ap (λ (l : List ℕ). take (at_of to) P ++ l) (append-nil last ∙ ap (λ (c : Bool). summary c answers differ) (eb ∙ (missing ti).empty z) ∙ sym (report_stop k.fuel answers differ (drop (at_of at) given) ((missing ti).none z)))
          ∙ k.text

      pub replaying_end : (r : Result Unit Broken) → r ≡ result_or w (Err Output) → Ran reads given input next writes paper output r t Q
      replaying_end r i =
          let ei : in_broken r ≡ false = (or_broken w r i).0 in
          let eo : is_err w ≡ out_broken r = sym (or_broken w r i).1 in
          record {
            on_tapes = λ ti tw. record {
              rest = drop (moved last w) last;
              is = all_but ti tw;
              whole = λ _ y. nothing_left last (moved last w) (a.whole (unbroken w (eo ∙ y)));
              unread = λ y. never (sym ei ∙ y);
              read = λ _. passed_on reads input at next (h.kept ti tw).read ((missing ti).passed z);
              unwritten = λ y.
                  stopped_on writes output to t (at_of t ≡ length Q) (h.kept ti tw).written
                  ((marked tw).stopped (eo ∙ y));
              written = λ y.
                  passed_on writes output to t (h.kept ti tw).written ((marked tw).passed (unbroken w (eo ∙ y)));
            };
          }

  module _ (b : Bool) (next : Stream) (q : AnswerRead reads given at (Ok b) next) (w : Result Unit Cut) (t : Stream) (Q : List ℕ) (a : WroteAll writes P (differs_line b (answers + 1)) to w t Q) where
    compared : is_tape input ≡ true → Compared reads (drop (at_of at) given) at b next
    compared y = q.whole (h.in_taped ∙ y)

    -- what is left to report, its line first
    record Onward (k : Kept reads given input writes paper output at to answers differ turn P) : Type 0 where
      fuel : ℕ
      enough : length (drop (at_of next) given) ≤ fuel
      is : report_from k.fuel answers differ (drop (at_of at) given) ≡ differs_line b (answers + 1) ++ report_from fuel (answers + 1) (differ + missed b) (drop (at_of next) given)

    onward : (y : is_tape input ≡ true) (k : Kept reads given input writes paper output at to answers differ turn P) → Onward k
    onward y k = go k.fuel refl
      where
        go : (n : ℕ) → k.fuel ≡ n → Onward k
        go zero e = absurd (omega (arith, e, k.enough, frame_fits (drop (at_of at) given) (compared y).frame))
        go (suc n) e =
            let p : drop (at_of next) given ≡ past_frame (drop (at_of at) given) = ap (λ (j : ℕ). drop j given) (compared y).at ∙ sym (drop-drop (frame_size (drop (at_of at) given)) (at_of at) given) in
            record {
              fuel = n;
              enough = omega (arith, e, k.enough, length-drop (at_of next) given, length-drop (at_of at) given, (compared y).at, frame_fits (drop (at_of at) given) (compared y).frame);
              is =
                  ap (λ (j : ℕ). report_from j answers differ (drop (at_of at) given)) e
                  ∙ report_next n answers differ (drop (at_of at) given) (compared y).frame
                  ∙ ap (λ (c : Bool). differs_line c (answers + 1) ++ report_from n (answers + 1) (differ + missed c) (past_frame (drop (at_of at) given))) (sym (compared y).is)
                  ∙ ap (λ (l : List ℕ). differs_line b (answers + 1) ++ report_from n (answers + 1) (differ + missed b) l) (sym p);
            }

    abbrev line : List ℕ
    line = differs_line b (answers + 1)

    -- a write failed
    pub replaying_unwritten : is_err w ≡ true → Ran reads given input next writes paper output (Err Output) t Q
    replaying_unwritten z =
        record {
          on_tapes = λ ti tw.
              let k : Kept reads given input writes paper output at to answers differ turn P = h.kept ti tw in
              let o : Onward k = onward ti k in
              let m : AllMarked writes P line to w t Q = a.marked (h.out_taped ∙ tw) in
              let R : List ℕ = report_from o.fuel (answers + 1) (differ + missed b) (drop (at_of next) given) in
              record {
                rest = drop (moved line w) line ++ R;
                is = written writes P line to w t Q R m ∙ ap (λ (l : List ℕ). take (at_of to) P ++ l) (sym o.is) ∙ k.text;
                whole = λ _ y. never (sym y);
                unread = λ y. never y;
                read = λ _. passed_on reads input at next k.read (compared ti).passed;
                unwritten = λ _. stopped_on writes output to t (at_of t ≡ length Q) k.written (m.stopped z);
                written = λ y. never (sym y);
              };
        }

    pub replaying_next : (x : ℕ) → x ≡ missed b → is_err w ≡ false → Replaying reads given input writes paper output next t (answers + 1) (differ + x) (turn + 1) Q
    replaying_next x i z =
        subst (λ (y : ℕ). Replaying reads given input writes paper output next t (answers + 1) (differ + y) (turn + 1) Q) (sym i)
        (record {
          in_taped = q.taped ∙ h.in_taped;
          out_taped = a.taped ∙ h.out_taped;
          in_bound = q.bound;
          out_bound = a.bound;
          few = omega (arith, h.few);
          less = omega (arith, h.less, missed_one b);
          kept = λ ti tw.
              let k : Kept reads given input writes paper output at to answers differ turn P = h.kept ti tw in
              let o : Onward k = onward ti k in
              let m : AllMarked writes P line to w t Q = a.marked (h.out_taped ∙ tw) in
              let R : List ℕ = report_from o.fuel (answers + 1) (differ + missed b) (drop (at_of next) given) in
              record {
                fuel = o.fuel;
                enough = o.enough;
                text =
                    ap (λ (l : List ℕ). take (at_of t) Q ++ (l ++ R)) (sym (nothing_left line (moved line w) (a.whole (unbroken w z))))
                    ∙ written writes P line to w t Q R m ∙ ap (λ (l : List ℕ). take (at_of to) P ++ l) (sym o.is) ∙ k.text;
                read = passed_on reads input at next k.read (compared ti).passed;
                written = passed_on writes output to t k.written (m.passed (unbroken w z));
                made = omega (arith, k.made, (compared ti).onward);
              };
        })
