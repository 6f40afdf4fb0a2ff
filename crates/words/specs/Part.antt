-- A part of a list of words, and words put into the list, seen from each part. Assumes nothing.
use Rattle.std.specs.Prelude.{◌≡◌, List, [], ◌∷◌, ◌++◌, ℕ, ◌+◌, ◌-◌, ◌≤◌, ◌<◌}
use Rattle.std.proofs.Common.{sym, ap, ◌∙◌, subst, append_assoc, arith, drop-drop, length-take-le, take_at, drop_at, get_or-drop, get_or-take}
use lib.ListN.{length, get_or, set, take, drop, replicate, length-append, length-take, length-drop, take-append-drop}
use Rattle.std.proofs.lemmas.List.{take-append-le, drop-append-le}
use Rattle.std.proofs.Math.Seq.{drop-append-add, take-append-add}
use Rattle.words.specs.Parts.{splice, length_splice, drop_replicate}
use Rattle.words.specs.Moves.{store_1}

-- the words from a up to e
unfoldable pub part : ℕ → ℕ → List ℕ → List ℕ
part a e w = take (e - a) (drop a w)

pub length_part : (a e : ℕ) (w : List ℕ) → e ≤ length w → length (part a e w) ≡ e - a
unfolding part
length_part a e w h = length-take-le (e - a) (drop a w) (simp length-drop (omega arith))

pub part_get : (a e j : ℕ) (w : List ℕ) → j < e - a → get_or (part a e w) j 0 ≡ get_or w (a + j) 0
unfolding part
part_get a e j w h = get_or-take (e - a) (drop a w) j 0 h ∙ get_or-drop a w j 0

-- ahead of the part
pub part_ahead : (a e i : ℕ) (w vs : List ℕ) → i + length vs ≤ a → a ≤ length w → part a e (splice w i vs) ≡ part a e w
unfolding part splice
part_ahead a e i w vs h l =
    let k : length (take i w ++ vs) ≡ i + length vs = length-append (take i w) vs ∙ ap (λ (n : ℕ). n + length vs) (length-take-le i w (omega arith)) in
    let q : a ≡ length (take i w ++ vs) + (a - (i + length vs)) = omega arith in
    let r : i + length vs + (a - (i + length vs)) ≡ a = omega arith in
    ap (λ (x : List ℕ). take (e - a) x)
    (ap (λ (x : List ℕ). drop a x) (sym (append_assoc (take i w) vs (drop (i + length vs) w)))
    ∙ ap (λ (n : ℕ). drop n ((take i w ++ vs) ++ drop (i + length vs) w)) q
    ∙ drop-append-add (take i w ++ vs) (drop (i + length vs) w) (a - (i + length vs))
    ∙ drop-drop (a - (i + length vs)) (i + length vs) w
    ∙ ap (λ (n : ℕ). drop n w) r)

pub part_front : (a e : ℕ) (x y : List ℕ) → a ≤ e → e ≤ length x → part a e (x ++ y) ≡ part a e x
unfolding part
part_front a e x y h l = rw (drop-append-le a x y (omega arith), take-append-le (e - a) (drop a x) y (simp length-drop (omega arith)))

-- behind it
pub part_behind : (a e i : ℕ) (w vs : List ℕ) → a ≤ e → e ≤ i → i ≤ length w → part a e (splice w i vs) ≡ part a e w
unfolding splice
part_behind a e i w vs h k l =
    let n : e ≤ length (take i w) = simp length-take (omega arith) in
    part_front a e (take i w) (vs ++ drop (i + length vs) w) h n ∙ sym (part_front a e (take i w) (drop i w) h n) ∙ ap (λ (x : List ℕ). part a e x) (take-append-drop i w)

-- a list cut at a part
pub part_cut : (a e : ℕ) (w : List ℕ) → a ≤ e → w ≡ take a w ++ (part a e w ++ drop e w)
unfolding part
part_cut a e w h =
    let k : a + (e - a) ≡ e = omega arith in
    sym (take-append-drop a w)
    ∙ ap (λ (x : List ℕ). take a w ++ x) (sym (take-append-drop (e - a) (drop a w)) ∙ ap (λ (x : List ℕ). take (e - a) (drop a w) ++ x) (drop-drop (e - a) a w ∙ ap (λ (n : ℕ). drop n w) k))

pub splice_past : (p y vs : List ℕ) (a j : ℕ) → length p ≡ a → splice (p ++ y) (a + j) vs ≡ p ++ splice y j vs
unfolding splice
splice_past p y vs a j e =
    let t : take (a + j) (p ++ y) ≡ p ++ take j y = ap (λ (n : ℕ). take (n + j) (p ++ y)) (sym e) ∙ take-append-add p y j in
    let k : a + j + length vs ≡ length p + (j + length vs) = omega arith in
    let d : drop (a + j + length vs) (p ++ y) ≡ drop (j + length vs) y = ap (λ (n : ℕ). drop n (p ++ y)) k ∙ drop-append-add p y (j + length vs) in
    rw (t, d, append_assoc)

pub splice_front : (y z vs : List ℕ) (j : ℕ) → j + length vs ≤ length y → splice (y ++ z) j vs ≡ splice y j vs ++ z
unfolding splice
splice_front y z vs j h = rw (take-append-le j y z (omega arith), drop-append-le (j + length vs) y z h) (simp append_assoc)

-- words put in at two places that do not meet, in either order
pub splice_swap : (t v w : List ℕ) (a b : ℕ) → a + length v ≤ b → b ≤ length t → splice (splice t a v) b w ≡ splice (splice t b w) a v
splice_swap t v w a b h l =
    let y : List ℕ = take b t in
    let z : List ℕ = drop b t in
    let ly : length y ≡ b = length-take-le b t l in
    let n : length (splice y a v) ≡ b = length_splice y a v (omega arith) ∙ ly in
    let k : b ≡ b + 0 = omega arith in
    subst (λ (s : List ℕ). splice (splice s a v) b w ≡ splice (splice s b w) a v) (take-append-drop b t)
    (ap (λ (s : List ℕ). splice s b w) (splice_front y z v a (omega arith))
    ∙ ap (λ (i : ℕ). splice (splice y a v ++ z) i w) k
    ∙ splice_past (splice y a v) z w b 0 n
    ∙ sym (ap (λ (i : ℕ). splice (splice (y ++ z) i w) a v) k ∙ ap (λ (s : List ℕ). splice s a v) (splice_past y z w b 0 ly) ∙ splice_front y (splice z 0 w) v a (omega arith)))

pub part_middle : (p y z : List ℕ) (a e : ℕ) → length p ≡ a → length y ≡ e - a → part a e (p ++ (y ++ z)) ≡ y
unfolding part
part_middle p y z a e h l = rw (drop_at p (y ++ z) a h, take_at y z (e - a) l)

-- in it
pub part_in : (a e i j : ℕ) (w vs : List ℕ) → i ≡ a + j → a ≤ e → j + length vs ≤ e - a → e ≤ length w → part a e (splice w i vs) ≡ splice (part a e w) j vs
part_in a e i j w vs q h k l =
    let la : length (take a w) ≡ a = length-take-le a w (omega arith) in
    let lp : length (part a e w) ≡ e - a = length_part a e w l in
    ap (λ (n : ℕ). part a e (splice w n vs)) q
    ∙ ap (λ (x : List ℕ). part a e (splice x (a + j) vs)) (part_cut a e w h)
    ∙ ap (λ (x : List ℕ). part a e x)
    (splice_past (take a w) (part a e w ++ drop e w) vs a j la ∙ ap (λ (x : List ℕ). take a w ++ x) (splice_front (part a e w) (drop e w) vs j (omega arith)))
    ∙ part_middle (take a w) (splice (part a e w) j vs) (drop e w) a e la (length_splice (part a e w) j vs (omega arith) ∙ lp)

-- one word stored
pub part_set_ahead : (a e i x : ℕ) (w : List ℕ) → i < a → a ≤ length w → part a e (set w i x) ≡ part a e w
part_set_ahead a e i x w h l = ap (λ (t : List ℕ). part a e t) (store_1 w i x (omega arith)) ∙ part_ahead a e i w (x ∷ []) (omega arith) l

pub part_set_behind : (a e i x : ℕ) (w : List ℕ) → a ≤ e → e ≤ i → i < length w → part a e (set w i x) ≡ part a e w
part_set_behind a e i x w h k l = ap (λ (t : List ℕ). part a e t) (store_1 w i x (omega arith)) ∙ part_behind a e i w (x ∷ []) h k (omega arith)

pub part_set_in : (a e i j x : ℕ) (w : List ℕ) → i ≡ a + j → a ≤ e → j < e - a → e ≤ length w → part a e (set w i x) ≡ set (part a e w) j x
part_set_in a e i j x w q h k l =
    ap (λ (t : List ℕ). part a e t) (store_1 w i x (omega arith))
    ∙ part_in a e i j w (x ∷ []) q h (omega arith) l
    ∙ sym (store_1 (part a e w) j x (omega (arith, length_part a e w l)))

pub part_zeros : (a e n : ℕ) → e ≤ n → part a e (replicate n 0) ≡ replicate (e - a) 0
unfolding part
part_zeros a e n h =
    let k : n - a ≡ e - a + (n - a - (e - a)) = omega arith in
    ap (λ (l : List ℕ). take (e - a) l) (drop_replicate a n 0 ∙ ap (λ (m : ℕ). replicate m 0) k ∙ sym (lib.ListN.replicate-append-replicate (e - a) (n - a - (e - a)) 0))
    ∙ take_at (replicate (e - a) 0) _ (e - a) (lib.ListN.length-replicate (e - a) 0)
