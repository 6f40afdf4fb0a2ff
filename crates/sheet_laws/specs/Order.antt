-- The order of the records by the table of what may follow is the definition's. Assumes nothing.
use Rattle.std.specs.Prelude.{◌≡◌, refl, List, [], ◌∷◌, Bool, true, false, cond, not, ◌&&◌, ℕ, zero, suc, eqb}
use Rattle.std.proofs.Common.{sym, ap, ◌∙◌}
use Rattle.std.specs.Bool.{beq}
use Rattle.std.proofs.lemmas.Bool.{false≢true}
use Rattle.std.proofs.Math.Option.{Option, none, some}
use Rattle.definition.specs.JobSheet.{Word as Named, opt, bank, class, reg, block, value, vgroup, operand, hint, seg, use', end, word_number, all_words, next, among, Record, ordered}
use Rattle.definition.proofs.Entries.{and_both}
use Rattle.sheet_rules.specs.Rules.{order, follows_of}
use Rattle.sheet_laws.specs.Words.{word_number_lem, none_some}
use Rattle.sheet_laws.specs.Table.{keyed}

-- 12 stands before the first; the last is 11, end
unfoldable pub ordered_n : ℕ → List Record → Bool
ordered_n prev [] = eqb prev 11
ordered_n prev (r ∷ rs) = cond (not (follows_of prev (keyed r))) false (ordered_n (keyed r) rs)

-- ---- a test of all words

abbrev all : (Named → Bool) → List Named → Bool
all p [] = true
all p (w ∷ ws) = p w && all p ws

abbrev word_in : List Named → ℕ → Option Named
word_in [] k = none
word_in (w ∷ ws) zero = some w
word_in (w ∷ ws) (suc k) = word_in ws k

abbrev the : Named → Option Named → Named
the d none = d
the d (some w) = w

all_at : (p : Named → Bool) (ws : List Named) → all p ws ≡ true → (k : ℕ) (w : Named) → word_in ws k ≡ some w → p w ≡ true
all_at p [] e k w q = absurd (none_some q)
all_at p (v ∷ ws) e zero w q = ap p (sym (ap (the v) q)) ∙ (and_both (p v) (all p ws) e).0
all_at p (v ∷ ws) e (suc k) w q = all_at p ws (and_both (p v) (all p ws) e).1 k w q

each : (p : Named → Bool) → all p all_words ≡ true → (w : Named) → p w ≡ true
each p e w = all_at p all_words e (word_number w) w (word_number_lem w)

beq_true : (a b : Bool) → beq a b ≡ true → a ≡ b
beq_true true true e = refl
beq_true true false e = absurd (false≢true e)
beq_true false true e = absurd (false≢true e)
beq_true false false e = refl

-- ---- what may follow, and where a sheet may end

abbrev empty : List Named → Bool
empty [] = true
empty (w ∷ ws) = false

pub record Like (ws : List Named) (prev : ℕ) : Type 0 where
  pub follow : (w : Named) → among w ws ≡ follows_of prev (word_number w)
  pub last : empty ws ≡ eqb prev 11

module _ (ws : List Named) (prev : ℕ) where
  abbrev agrees : Named → Bool
  agrees w = beq (among w ws) (follows_of prev (word_number w))

  like : all agrees all_words ≡ true → empty ws ≡ eqb prev 11 → Like ws prev
  like e f = record { follow = λ w. beq_true (among w ws) (follows_of prev (word_number w)) (each agrees e w); last = f }

likes : (v : Named) → Like (next v) (word_number v)
unfolding follows_of order
likes opt = like (next opt) 0 refl refl
likes bank = like (next bank) 1 refl refl
likes class = like (next class) 2 refl refl
likes reg = like (next reg) 3 refl refl
likes block = like (next block) 4 refl refl
likes value = like (next value) 5 refl refl
likes vgroup = like (next vgroup) 6 refl refl
likes operand = like (next operand) 7 refl refl
likes hint = like (next hint) 8 refl refl
likes seg = like (next seg) 9 refl refl
likes use' = like (next use') 10 refl refl
likes end = like (next end) 11 refl refl

pub likes_start : Like (opt ∷ []) 12
unfolding follows_of order
likes_start = like (opt ∷ []) 12 refl refl

pub same_order : (rs : List Record) (ws : List Named) (prev : ℕ) → Like ws prev → ordered_n prev rs ≡ ordered ws rs
unfolding ordered_n ordered
same_order [] [] prev l = sym l.last
same_order [] (w ∷ ws) prev l = sym l.last
same_order (r ∷ rs) ws prev l = by (follows_of prev (keyed r)) (l.follow r.word) (same_order rs (next r.word) (keyed r) (likes r.word)) ∙ opened ws
  where
    step : Bool → Bool
    step t = elim t [ true ↦ ordered (next r.word) rs | false ↦ false ]

    opened : (vs : List Named) → step (among r.word vs) ≡ ordered vs (r ∷ rs)
    opened [] = refl
    opened (v ∷ vs) = refl

    by : (t : Bool) → among r.word ws ≡ t → ordered_n (keyed r) rs ≡ ordered (next r.word) rs → cond (not t) false (ordered_n (keyed r) rs) ≡ step (among r.word ws)
    by true a h = h ∙ sym (ap step a)
    by false a h = sym (ap step a)
