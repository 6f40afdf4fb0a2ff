-- What the order of the records says at a cursor. Assumes nothing.
use Rattle.std.specs.Prelude.{◌≡◌, refl, Bool, true, false, cond, ◌&&◌, ◌||◌, List, [], ◌∷◌, ℕ, ◌≤◌, ◌<◌, eqb}
use Rattle.std.proofs.Common.{sym, ap, subst, ◌∙◌, arith, eqb-true, ne_eqb}
use Rattle.std.proofs.lemmas.Bool.{false≢true}
use Rattle.definition.specs.JobSheet.{Word, opt, end, word_number, Record, next, among, only, ordered}
use Rattle.sheet_laws.specs.Sheets.{ordered_first}
use Rattle.sheet_laws.specs.Jobs.{same_word}
use Rattle.job_pages.specs.Left.{later}

-- ---- words behind a kind

-- all of them have a greater number
abbrev Above : ℕ → List Word → Type 0
Above k [] = Unit {0}
Above k (v ∷ vs) = (k < word_number v) × Above k vs

among_above : (k : ℕ) (v : Word) (ws : List Word) → Above k ws → among v ws ≡ true → k < word_number v
among_above k v [] h e = absurd (false≢true e)
among_above k v (w ∷ ws) h e = go (eqb (word_number v) (word_number w)) refl e (among_above k v ws h.1)
  where
    go : (t : Bool) → eqb (word_number v) (word_number w) ≡ t → t || among v ws ≡ true
        → (among v ws ≡ true → k < word_number v) → k < word_number v
    go true q f ih =
        let s : word_number v ≡ word_number w = eqb-true (word_number v) (word_number w) q in omega (arith, h.0, s)
    go false q f ih = ih f

-- behind a record of a greater number come such records alone, up to hints
next_above : (k : ℕ) → k ≤ 8 → (u : Word) → k < word_number u → Above k (next u)
next_above k h end l = tt
next_above k h u l = omega arith

later_above : (w : Word) → 1 ≤ word_number w → word_number w ≤ 8 → Above (word_number w) (later w)
later_above opt a b = tt
later_above w a b = omega arith

-- where such words alone may come, there is no record of the kind
none_above : (w : Word) → word_number w ≤ 8 → (rs : List Record) (ws : List Word) → Above (word_number w) ws
    → ordered ws rs ≡ true → only w rs ≡ []
unfolding only
none_above w h [] ws a e = refl
none_above w h (r ∷ rs) ws a e =
    let o = ordered_first ws r rs e in
    let l : word_number w < word_number r.word = among_above (word_number w) r.word ws a o.0 in
    let n : eqb (word_number r.word) (word_number w) ≡ false =
    ne_eqb (word_number r.word) (word_number w) (λ q. omega (arith, q, l)) in
    ap (λ (t : Bool). cond t (r.fields ∷ only w rs) (only w rs)) n
    ∙ none_above w h rs (next r.word) (next_above (word_number w) h r.word l) o.1

-- no record of a kind is left where a later one comes
pub none_later : (w : Word) → 1 ≤ word_number w → word_number w ≤ 8 → (rs : List Record)
    → ordered (later w) rs ≡ true → only w rs ≡ []
none_later w a b rs e = none_above w b rs (later w) (later_above w a b) e

-- ---- more words

-- each of the words is among the others
unfoldable pub inside : List Word → List Word → Bool
inside [] vs = true
inside (w ∷ ws) vs = among w vs && inside ws vs

among_inside : (v : Word) (ws vs : List Word) → inside ws vs ≡ true → among v ws ≡ true → among v vs ≡ true
unfolding inside
among_inside v [] vs i e = absurd (false≢true e)
among_inside v (w ∷ ws) vs i e =
    go (among w vs) refl i (eqb (word_number v) (word_number w)) refl e (among_inside v ws vs)
  where
    go : (s : Bool) → among w vs ≡ s → s && inside ws vs ≡ true → (t : Bool) → eqb (word_number v) (word_number w) ≡ t
        → t || among v ws ≡ true → (inside ws vs ≡ true → among v ws ≡ true → among v vs ≡ true) → among v vs ≡ true
    go false a j t q f ih = absurd (false≢true j)
    go true a j true q f ih = subst (λ (u : Word). among u vs ≡ true) (sym (same_word v w q)) a
    go true a j false q f ih = ih j f

-- what may come where fewer words may
pub ordered_more : (ws vs : List Word) (r : Record) (rs : List Record) → inside ws vs ≡ true
    → ordered ws (r ∷ rs) ≡ true → ordered vs (r ∷ rs) ≡ true
unfolding ordered
ordered_more ws [] r rs i e =
    absurd (false≢true (among_inside r.word ws [] i (ordered_first ws r rs e).0))
ordered_more ws (v ∷ vs) r rs i e =
    let o = ordered_first ws r rs e in
    ap (λ (t : Bool). elim t [ true ↦ ordered (next r.word) rs | false ↦ false ])
    (among_inside r.word ws (v ∷ vs) i o.0)
    ∙ o.1

-- a record that is not of the first kind is of a later one
pub ordered_later : (w : Word) (ws : List Word) (r : Record) (rs : List Record) → ordered (w ∷ ws) (r ∷ rs) ≡ true
    → eqb (word_number r.word) (word_number w) ≡ false → ordered ws (r ∷ rs) ≡ true
unfolding ordered
ordered_later w ws r rs e n = go ws (ordered_first (w ∷ ws) r rs e)
  where
    go : (vs : List Word) → (among r.word (w ∷ vs) ≡ true) × (ordered (next r.word) rs ≡ true)
        → ordered vs (r ∷ rs) ≡ true
    go [] o = absurd (false≢true (sym (ap (λ (t : Bool). t || false) n) ∙ o.0))
    go (v ∷ vs) o =
        ap (λ (t : Bool). elim t [ true ↦ ordered (next r.word) rs | false ↦ false ])
        (sym (ap (λ (t : Bool). t || among r.word (v ∷ vs)) n) ∙ o.0)
        ∙ o.1
