-- The bytes of lent tables that hold a state, as a value, and how a build has answered. Assumes nothing.
use Rattle.std.specs.Prelude.{◌≡◌, List, [], ◌++◌, ℕ, ◌+◌, ◌-◌, ◌*◌, ◌/◌, ◌≤◌, ◌<◌, length, get_or, take, drop, replicate}
use Rattle.std.proofs.Common.{sym, ap, subst, ◌∙◌, arith, take_at}
use Rattle.std.proofs.lemmas.List.{replicate-append-replicate, length-replicate}
use Rattle.std.proofs.Math.ListN.{get_or-append}
use Rattle.words.specs.Parts.{pad, drop_replicate}
use Rattle.words.specs.Words.{words_of, bytes_of}
use Rattle.words.specs.Laws.{length_words, words_replicate, words_append, bytes_words}
use Rattle.definition.specs.declared.Refusal.{Refusal}
use Rattle.definition.specs.Types.{Mapped, State, Out, done, refused}
use Rattle.definition.specs.Place.{empty, set_mapping}
use Rattle.definition.specs.Build.{Result, result_of}
use Rattle.virt_regs.specs.declared.OutLayout.{OutLayout}
use Rattle.virt_regs.specs.Encoding.{tables_end, Holds, tables, contents}
use Rattle.virt_regs.specs.Reads.{holds_none, holds_mapping}
use Rattle.build_answer.specs.declared.BuildEnd.{BuildEnd}
use Rattle.build_answer.specs.Answered.{out_layout_of, Cut, result_words, bytes_left, end_left, state_of, Answered}
use Rattle.words.specs.Tables.{tabled_all, tabled_front}

-- ---- the words

-- words that are just the tables, and hold a state, are its rows
pub held_words : (ol : OutLayout) (O : List ℕ) (st : State) → length O ≡ tables_end ol → Holds ol O st → O ≡ result_words ol (result_of st)
unfolding result_words
held_words ol O st l h = tabled_all (tables ol) (contents st) O h.tabled l

-- words behind the tables are no part of them
pub holds_front : (ol : OutLayout) (O Z : List ℕ) (st : State) → Holds ol O st → Holds ol (O ++ Z) st
holds_front ol O Z st h =
    record { tabled = tabled_front (tables ol) (contents st) O Z h.tabled; typed = h.typed; weights = h.weights; members = h.members }

-- ---- the bytes

-- bytes that are just the tables
pub held_bytes : (ol : OutLayout) (p : List ℕ) (st : State) → length p ≡ tables_end ol * 4 → ((i : ℕ) → i < length p → get_or p i 0 < 256) → Holds ol (words_of p) st
    → p ≡ bytes_of (result_words ol (result_of st))
held_bytes ol p st l f h =
    let n : length (words_of p) ≡ tables_end ol = omega (arith, length_words p) in
    sym (bytes_words p f (omega arith)) ∙ ap bytes_of (held_words ol (words_of p) st n h)

-- with zeros behind them
pub held_left : (n k : ℕ) (ol : OutLayout) (p : List ℕ) (st : State) → length p ≡ tables_end ol * 4 → ((i : ℕ) → i < length p → get_or p i 0 < 256) → length p + k ≡ n
    → Holds ol (words_of p) st → p ++ replicate k 0 ≡ bytes_left n ol (done (result_of st))
unfolding bytes_left pad
held_left n k ol p st l f e h =
    let b = held_bytes ol p st l f h in
    let m : k ≡ n - length (bytes_of (result_words ol (result_of st))) = omega (arith, ap length b) in
    λ i. b i ++ replicate (m i) 0

-- ---- a cleared slice s, of which the part that the tables take is lent: `&mut s[..e]`

-- at first the part is zeros, and holds no register and no group
pub lent_zeros : (n e : ℕ) (s : List ℕ) → s ≡ replicate n 0 → e ≤ n → take e s ≡ replicate e 0
lent_zeros n e s z h =
    let k : n ≡ e + (n - e) = omega arith in
    ap (λ (t : List ℕ). take e t) (z ∙ ap (λ (m : ℕ). replicate m 0) k ∙ sym (replicate-append-replicate e (n - e) 0)) ∙ take_at (replicate e 0) _ e (length-replicate e 0)

pub lent_holds : (n e : ℕ) (ol : OutLayout) (s : List ℕ) (ms : List Mapped) → s ≡ replicate n 0 → e ≡ tables_end ol * 4 → e ≤ n
    → Holds ol (words_of (take e s)) (set_mapping ms empty)
lent_holds n e ol s ms z takes h =
    subst (λ (w : List ℕ). Holds ol w (set_mapping ms empty)) (sym (ap words_of (lent_zeros n e s z h) ∙ words_replicate e))
    (holds_none ol (e / 4) ms (omega arith))

-- ---- how a build has answered

-- accepted: the part then holds the state
module _ (n e : ℕ) (ol : OutLayout) (s p : List ℕ) (st : State) (cleared : s ≡ replicate n 0) (takes : e ≡ tables_end ol * 4) (fit : e ≤ n) (l : length p ≡ e)
    (f : (i : ℕ) → get_or (p ++ drop e s) i 0 < 256) (h : Holds ol (words_of p) st) where
  behind : drop e s ≡ replicate (n - e) 0
  behind = ap (λ (t : List ℕ). drop e t) cleared ∙ drop_replicate e n 0

  pub part_left : p ++ drop e s ≡ bytes_left n ol (done (result_of st))
  part_left =
      let b : (i : ℕ) → i < length p → get_or p i 0 < 256 = λ i k. rw (sym (get_or-append p (drop e s) 0 i k)) (f i) in
      ap (λ (t : List ℕ). p ++ t) behind ∙ held_left n (n - e) ol p st (l ∙ takes) b (omega arith) h

  pub part_holds : Holds ol (words_of (p ++ drop e s)) (state_of (result_of st))
  part_holds =
      subst (λ (w : List ℕ). Holds ol w (state_of (result_of st))) (sym (words_append p (drop e s) (omega arith)))
      (holds_mapping ol _ st [] (holds_front ol (words_of p) (words_of (drop e s)) st h))

  pub answered_done : (o : Out Result) (r : BuildEnd) → o ≡ done (result_of st) → r ≡ end_left (done (result_of st)) → Answered n ol o r (p ++ drop e s)
  answered_done o r q d =
      record {
        end = d ∙ ap end_left (sym q);
        bytes = part_left ∙ ap (λ (u : Out Result). bytes_left n ol u) (sym q);
        holds = λ res is. let m : result_of st ≡ res = cc in subst (λ (t : Result). Holds ol (words_of (p ++ drop e s)) (state_of t)) m part_holds;
      }

-- refused: the slice is cleared
pub answered_refused : (n : ℕ) (ol : OutLayout) (o : Out Result) (f : Refusal) (r : BuildEnd) (x : List ℕ) → o ≡ refused f → r ≡ end_left (refused f) → x ≡ replicate n 0
    → Answered n ol o r x
unfolding bytes_left
answered_refused n ol o f r x q e z =
    record {
      end = e ∙ ap end_left (sym q);
      bytes = z ∙ ap (λ (u : Out Result). bytes_left n ol u) (sym q);
      holds = λ res d. absurd (let w : ◌≡◌ {A = ℕ} 0 1 = cc in omega arith);
    }

-- with the tables that the caller's numbers of rows give in a slice of n bytes, which has m words
pub answered_cut : (n m a b c d : ℕ) (ol : OutLayout) (o : OutLayout → Out Result) (r : BuildEnd) (x : List ℕ) → Cut m a b c d ol → m ≡ n / 4 → Answered n ol (o ol) r x
    → Answered n (out_layout_of (n / 4) a b c d) (o (out_layout_of (n / 4) a b c d)) r x
answered_cut n m a b c d ol o r x k e h = subst (λ (t : OutLayout). Answered n t (o t) r x) (k.is ∙ ap (λ (w : ℕ). out_layout_of w a b c d) e) h
