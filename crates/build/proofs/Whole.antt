-- The tables as a part of the caller's slice, and a binary job's answer. Assumes nothing.
use mathlib.Core.Path.{◌≡◌, refl, sym, ap, ◌∙◌, subst}
use mathlib.Core.Bool.{true}
use mathlib.Core.List.{List, ◌++◌, append_assoc}
use Prim.Native.Nat.{ℕ, ◌+◌, ◌-◌, ◌*◌, ◌/◌, ◌≤◌}
use native.Mathlib.Omega.{arith}
use lib.ListN.{length, take, drop, replicate, replicate-append-replicate, length-append, length-replicate}
use lib.Seq.{length-take-le}
use Rattle.words.specs.Parts.{pad, drop_replicate}
use Rattle.words.specs.Words.{words_of, bytes_of}
use Rattle.words.specs.Laws.{words_append}
use Rattle.definition.specs.declared.Refusal.TheVariants.{NotARecord}
use Rattle.definition.specs.Types.{Out, done, refused}
use Rattle.definition.specs.Build.{Result}
use Rattle.definition.specs.Entry.{answer}
use Rattle.job.specs.Job.{raw_job}
use Rattle.std.specs.Prelude.{Option, Some, None, is_some}
use Rattle.job.specs.declared.Layout.{Layout}
use Rattle.job_shape.specs.Shape.{layout_of, shape_ok, Formed}
use Rattle.job_shape.specs.Answer.{binary_answer}
use Rattle.virt_regs.specs.declared.OutLayout.{OutLayout}
use Rattle.virt_regs.specs.Encoding.{tables_end, room_of, Holds}
use Rattle.entry.proofs.Numbers.{binary_off, binary_on}
use Rattle.build_answer.specs.declared.BuildEnd.{BuildEnd}
use Rattle.build_answer.specs.Answered.{out_layout_of, Cut, result_words, bytes_left, end_left, state_of, Answered}
use Rattle.build_answer.specs.Held.{holds_front, lent_zeros, answered_refused, answered_cut}
use Rattle.build.specs.Ends.{refused_end, Cleared}

-- zeros behind padding
pad_more : (n e k : ℕ) (xs : List ℕ) → length (pad e xs) ≡ e → e + k ≡ n → pad e xs ++ replicate k 0 ≡ pad n xs
unfolding pad
pad_more n e k xs l h =
    let zs : List ℕ = replicate (e - length xs) 0 in
    let r : length zs ≡ e - length xs = length-replicate (e - length xs) 0 in
    let m : length xs + length zs ≡ e = sym (length-append xs zs) ∙ l in
    let q : e - length xs + k ≡ n - length xs = omega arith in
    append_assoc xs (replicate (e - length xs) 0) (replicate k 0)
    ∙ ap (λ (t : List ℕ). xs ++ t) (replicate-append-replicate (e - length xs) k 0 ∙ ap (λ (i : ℕ). replicate i 0) q)

-- The tables, the first e bytes of a cleared slice s of n bytes, are lent, and are p then: the slice is then p, and zeros.
module _ (n m a b c d e : ℕ) (ol : OutLayout) (s : List ℕ) (cleared : s ≡ replicate n 0) (k : Cut m a b c d ol) (words : m ≡ length s / 4) (takes : e ≡ tables_end ol * 4) where
  pub whole_long : length s ≡ n
  whole_long = ap length cleared ∙ length-replicate n 0

  pub part_fits : e ≤ n
  part_fits = omega (arith, whole_long, k.fits)

  pub part_long : length (take e s) ≡ e
  part_long = length-take-le e s (omega (arith, whole_long, part_fits))

  pub part_cleared : Cleared ol (take e s)
  part_cleared =
      record {
        long = part_long ∙ takes;
        zeros = lent_zeros n e s cleared part_fits ∙ ap (λ (i : ℕ). replicate i 0) (sym part_long);
        regs = k.few_registers;
        segs = k.few_segments;
        uses = k.few_uses;
        groups = k.few_groups;
      }

  module _ (p : List ℕ) (long : length p ≡ length (take e s)) (r : BuildEnd) where
    length_p : length p ≡ e
    length_p = long ∙ part_long

    behind : drop e s ≡ replicate (n - e) 0
    behind = ap (λ (t : List ℕ). drop e t) cleared ∙ drop_replicate e n 0

    bytes_left_lem : (o : Out Result) → p ≡ bytes_left e ol o → p ++ drop e s ≡ bytes_left n ol o
    unfolding bytes_left
    bytes_left_lem (done res) q =
        ap (λ (t : List ℕ). p ++ t) behind ∙ ap (λ (t : List ℕ). t ++ replicate (n - e) 0) q
        ∙ pad_more n e (n - e) (bytes_of (result_words ol res)) (ap length (sym q) ∙ length_p) (omega (arith, part_fits))
    bytes_left_lem (refused f) q =
        let y : e + (n - e) ≡ n = omega (arith, part_fits) in
        ap (λ (t : List ℕ). p ++ t) behind ∙ ap (λ (t : List ℕ). t ++ replicate (n - e) 0) q ∙ replicate-append-replicate e (n - e) 0 ∙ ap (λ (i : ℕ). replicate i 0) y

    part_answered : (o : Out Result) → Answered (length (take e s)) ol o r p → Answered n ol o r (p ++ drop e s)
    part_answered o w =
        record {
          end = w.end;
          bytes = bytes_left_lem o (w.bytes ∙ ap (λ (i : ℕ). bytes_left i ol o) part_long);
          holds = λ res is.
              subst (λ (w : List ℕ). Holds ol w (state_of res)) (sym (words_append p (drop e s) (omega (arith, length_p, takes)))) (holds_front ol (words_of p) (words_of (drop e s)) (state_of res) (w.holds res is));
        }

    -- a slice of good shape
    pub answered_whole : (x : List ℕ) (h : Option Layout) (lay : Layout) → Formed x h → h ≡ Some lay → Answered (length (take e s)) ol (answer (raw_job (words_of x) lay) (room_of ol)) r p
        → Answered n (out_layout_of (n / 4) a b c d) (binary_answer x (room_of (out_layout_of (n / 4) a b c d))) r (p ++ drop e s)
    answered_whole x h lay f t w =
        let g : Formed x (Some lay) = subst (λ (o : Option Layout). Formed x o) t f in
        let ok : shape_ok x ≡ true = sym g.is in
        let found : lay ≡ layout_of (words_of x) = g.found in
        answered_cut n m a b c d ol (λ i. binary_answer x (room_of i)) r (p ++ drop e s) k (words ∙ ap (λ (i : ℕ). i / 4) whole_long)
        (part_answered (binary_answer x (room_of ol)) (subst (λ (o : Out Result). Answered (length (take e s)) ol o r p) (sym (binary_on x lay found ok (room_of ol))) w))

-- a slice off its shape
pub answered_off : (n m a b c d : ℕ) (ol : OutLayout) (s x : List ℕ) (h : Option Layout) → s ≡ replicate n 0 → Cut m a b c d ol → m ≡ length s / 4 → Formed x h → h ≡ None
    → Answered n (out_layout_of (n / 4) a b c d) (binary_answer x (room_of (out_layout_of (n / 4) a b c d))) (refused_end 1) s
unfolding end_left
answered_off n m a b c d ol s x h z k em f t =
    let l : length s ≡ n = ap length z ∙ length-replicate n 0 in
    answered_cut n m a b c d ol (λ i. binary_answer x (room_of i)) (refused_end 1) s k (em ∙ ap (λ (i : ℕ). i / 4) l)
    (answered_refused n ol (binary_answer x (room_of ol)) NotARecord (refused_end 1) s (binary_off x (room_of ol) (sym f.is ∙ ap is_some t)) refl z)
