-- A text written page by page: what stands on the paper, and what is still to come; and a program that reads all and
-- then writes one text. Assumes nothing.
use Rattle.std.specs.Prelude.{◌≡◌, refl, Bool, true, false, List, [], ◌++◌, ℕ, ◌≤◌, length, take, drop}
use Rattle.std.specs.Prelude.{Result, Ok, Err, IsOk, IsErr, is_err}
use Rattle.std.specs.Result.{result_or}
use Rattle.std.proofs.Common.{sym, ap, subst, ◌∙◌, append_assoc, append-nil, arith, take-append-drop, take_all}
use Rattle.std.proofs.lemmas.Bool.{false≢true}
use Rattle.streams.specs.declared.Stream.{Stream}
use Rattle.streams.specs.declared.Cut.{Cut}
use Rattle.streams.specs.declared.Broken.{Broken}
use Rattle.streams.specs.declared.Broken.TheVariants.{Input, Output}
use Rattle.streams.specs.Tape.{is_tape, at_of, Passed, Unread, Unwritten, AllMarked, WroteAll, written}
use Rattle.streams.specs.Tape.{in_broken, out_broken}
use Rattle.streams.specs.Calls.{passed_none, passed_on, stopped_on}
use Rattle.streams.specs.Ends.{or_broken}

-- the text, behind what stood on the paper: all of it, and no write failed; or its first bytes, and then one did
pub record OnPaper (tape paper text : List ℕ) (s : Stream) (failed : Bool) (next : Stream) (P : List ℕ) : Type 0 where
  pub rest : List ℕ
  pub is : take (at_of next) P ++ rest ≡ take (at_of s) paper ++ text
  pub whole : failed ≡ false → rest ≡ []
  pub stopped : failed ≡ true → Unwritten tape s next P
  pub passed : failed ≡ false → Passed tape s next

-- ---- page after page

-- from s on the stream stands at cur: what it has written and what is left are the text, and no write failed
pub record Writing (tape paper text : List ℕ) (s cur : Stream) (left P : List ℕ) : Type 0 where
  pub taped : is_tape cur ≡ is_tape s
  pub bound : at_of cur ≤ length P
  pub passed : is_tape s ≡ true → Passed tape s cur
  pub text_left : is_tape s ≡ true → take (at_of cur) P ++ left ≡ take (at_of s) paper ++ text

pub writing_start : (tape paper text : List ℕ) (s : Stream) → at_of s ≤ length paper
    → Writing tape paper text s s text paper
writing_start tape paper text s h = record {
  taped = refl;
  bound = h;
  passed = λ _. passed_none tape s;
  text_left = λ _. refl;
}

-- a page is handed to the stream, and L is left behind it
module _ (tape paper text : List ℕ) (s cur : Stream) (page L P : List ℕ) (w : Result Unit Cut) (t : Stream)
    (Q : List ℕ) (h : Writing tape paper text s cur (page ++ L) P) (a : WroteAll tape P page cur w t Q) where
  marked : is_tape s ≡ true → AllMarked tape P page cur w t Q
  marked y = a.marked (h.taped ∙ y)

  -- behind the first bytes of the page that were written
  parted : is_tape s ≡ true → take (at_of t) Q ++ (drop (written page w) page ++ L) ≡ take (at_of s) paper ++ text
  parted y =
      ap (λ (l : List ℕ). l ++ (drop (written page w) page ++ L)) (marked y).text
      ∙ append_assoc (take (at_of cur) P) (take (written page w) page) (drop (written page w) page ++ L)
      ∙ ap (λ (l : List ℕ). take (at_of cur) P ++ l)
      (sym (append_assoc (take (written page w) page) (drop (written page w) page) L))
      ∙ ap (λ (l : List ℕ). take (at_of cur) P ++ (l ++ L)) (take-append-drop (written page w) page)
      ∙ h.text_left y

  pub writing_next : IsOk w → Writing tape paper text s t L Q
  writing_next f = record {
    taped = a.taped ∙ h.taped;
    bound = a.bound;
    passed = λ y. passed_on tape s cur t (h.passed y) ((marked y).passed f);
    text_left = λ y.
        ap (λ (l : List ℕ). l ++ L) ((marked y).text
        ∙ ap (λ (l : List ℕ). take (at_of cur) P ++ l) (take_all (written page w) page (omega (arith, a.whole f))))
        ∙ append_assoc (take (at_of cur) P) page L
        ∙ h.text_left y;
  }

  pub writing_failed : IsErr w → is_tape s ≡ true → OnPaper tape paper text s true t Q
  writing_failed f y = record {
    rest = drop (written page w) page ++ L;
    is = parted y;
    whole = λ e. absurd (false≢true (sym e));
    stopped = λ _. stopped_on tape s cur t (at_of t ≡ length Q) (h.passed y) ((marked y).stopped f);
    passed = λ e. absurd (false≢true (sym e));
  }

-- nothing is left
pub writing_end : (tape paper text : List ℕ) (s cur : Stream) (P : List ℕ) → Writing tape paper text s cur [] P
    → is_tape s ≡ true → OnPaper tape paper text s false cur P
writing_end tape paper text s cur P h y = record {
  rest = [];
  is = h.text_left y;
  whole = λ _. refl;
  stopped = λ e. absurd (false≢true e);
  passed = λ _. h.passed y;
}

-- a text that is one page
pub one_page : (tape paper page : List ℕ) (s : Stream) (w : Result Unit Cut) (t : Stream) (Q : List ℕ)
    → at_of s ≤ length paper → WroteAll tape paper page s w t Q → is_tape s ≡ true
    → OnPaper tape paper page s (is_err w) t Q
one_page tape paper page s w t Q h a y = go w a
  where
    begun : Writing tape paper page s s (page ++ []) paper
    begun = subst (λ (l : List ℕ). Writing tape paper page s s l paper) (sym (append-nil page))
        (writing_start tape paper page s h)

    go : (w : Result Unit Cut) → WroteAll tape paper page s w t Q → OnPaper tape paper page s (is_err w) t Q
    go (Err e) a = writing_failed tape paper page s s page [] paper (Err e) t Q begun a refl y
    go (Ok u) a =
        writing_end tape paper page s t Q (writing_next tape paper page s s page [] paper (Ok u) t Q begun a refl) y

-- ---- a program between its first read and its last write

-- where a read failed nothing was written; else on tapes no read failed, and what was written is the answer to all bytes
-- that are given, or its first bytes and then a write failed. No call is made behind one that failed
pub record Ran (answer : List ℕ → List ℕ) (reads given : List ℕ) (input at : Stream) (writes paper : List ℕ)
    (output : Stream) (r : Result Unit Broken) (to : Stream) (P : List ℕ) : Type 0 where
  pub nothing : in_broken r ≡ true → (P ≡ paper) × (to ≡ output)
  pub unread : in_broken r ≡ true → is_tape input ≡ true → Unread reads input at
  pub read : in_broken r ≡ false → is_tape input ≡ true → Passed reads input at
  pub written : in_broken r ≡ false → is_tape input ≡ true → is_tape output ≡ true
      → OnPaper writes paper (answer (drop (at_of input) given)) output (out_broken r) to P

module _ (answer : List ℕ → List ℕ) (reads given : List ℕ) (input at : Stream) (writes paper : List ℕ)
    (output : Stream) where
  -- a read failed
  pub ran_unread : (is_tape input ≡ true → Unread reads input at)
      → Ran answer reads given input at writes paper output (Err Input) output paper
  ran_unread h = record {
    nothing = λ _. (refl, refl);
    unread = λ _. h;
    read = λ q. absurd (false≢true (sym q));
    written = λ q. absurd (false≢true (sym q));
  }

  -- none did, and the last write failed or not
  pub ran_written : (w : Result Unit Cut) (r : Result Unit Broken) (to : Stream) (P : List ℕ)
      → r ≡ result_or w (Err Output)
      → (is_tape input ≡ true → Passed reads input at)
      → (is_tape input ≡ true → is_tape output ≡ true
      → OnPaper writes paper (answer (drop (at_of input) given)) output (is_err w) to P)
      → Ran answer reads given input at writes paper output r to P
  ran_written w r to P e f h =
      let o : (in_broken r ≡ false) × (out_broken r ≡ is_err w) = or_broken w r e in
      let none : in_broken r ≡ true → ⊥ = λ q. false≢true (sym o.0 ∙ q) in
      record {
        nothing = λ q. absurd (none q);
        unread = λ q. absurd (none q);
        read = λ _. f;
        written = λ _ y z. rw o.1 (h y z);
      }
