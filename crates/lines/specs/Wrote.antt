-- What functions that write leave, and the fields that they write. Assumes nothing.
use Rattle.std.specs.Prelude.{List, [], ◌∷◌, ◌++◌, ◌≡◌, ℕ, zero, suc, ◌+◌, ◌≤◌, take}
use Rattle.definition.specs.Text.{bytes, decimal}

-- behind the first `at` bytes of `out` stands the text now, of at most m bytes, and ends at r
pub record Wrote (m at : ℕ) (out : List ℕ) (r : ℕ) (now : List ℕ) (text : List ℕ) : Type 0 where
  pub most : r ≤ at + m
  pub is : take r now ≡ take at out ++ text

-- "- for an empty place"; 1 stands for 0
unfoldable pub index_text : ℕ → List ℕ
index_text zero = bytes "-"
index_text (suc n) = decimal n

module _ (text : ℕ → List ℕ) where
  -- a tab before each
  unfoldable pub texts_of : List ℕ → List ℕ
  texts_of [] = []
  texts_of (v ∷ vs) = 9 ∷ (text v ++ texts_of vs)

unfoldable pub fields_text : List ℕ → List ℕ
unfolding texts_of
fields_text vs = texts_of decimal vs

unfoldable pub index_fields : List ℕ → List ℕ
unfolding texts_of
index_fields vs = texts_of index_text vs
