-- Lists of registers: changes in front of a register that is added, weights where pieces change, the uses of one register. Assumes nothing.
use Rattle.std.specs.Prelude.{◌≡◌, refl, List, [], ◌∷◌, ◌++◌, ℕ, zero, suc, ◌<◌, length, get_or, take, drop, Float}
use Rattle.std.proofs.Common.{ap, ◌∙◌, subst, arith}
use Rattle.std.proofs.Math.Option.{Option, none, some}
use Rattle.std.proofs.Math.Seq.{split_at}
use Rattle.definition.specs.declared.Inst.{Inst}
use Rattle.definition.specs.declared.RegClass.{RegClass}
use Rattle.definition.specs.declared.VirtReg.{VirtReg}
use Rattle.definition.specs.declared.Use.{Use}
use Rattle.definition.specs.declared.UseKind.{UseKind}
use Rattle.definition.specs.declared.UseKind.TheVariants.{FixedDef, FixedUse, TiedUse, ConstraintConflict, ClassUse, ClassDef, GroupClassUse, GroupClassDef, BlockparamIn, BlockparamOut}
use Rattle.definition.specs.Types.{Piece, Register, State}
use Rattle.definition.specs.Admit.{register_at, no_register}
use Rattle.definition.specs.Place.{uses_of, segs_of, with_weight, with_pieces, update, spread}
use Rattle.virt_regs.specs.Each.{Each, each_front, each_back, each_weaker}
use Rattle.virt_regs.specs.Encoding.{all_pieces, TypedKind, Typed}
use Rattle.virt_regs.specs.Update.{length_update}
use Rattle.virt_regs.specs.Counting.{all_append, uses_append}
use Rattle.vreg_weight.specs.Typed.{TypedUse}

update_front : (f : Register → Register) (v : ℕ) (rs ss : List Register) → v < length rs → update f v (rs ++ ss) ≡ update f v rs ++ ss
unfolding update
update_front f v [] ss h = absurd (omega arith)
update_front f zero (r ∷ rs) ss h = refl
update_front f (suc v) (r ∷ rs) ss h = ap (λ (l : List Register). r ∷ l) (update_front f v rs ss (omega arith))

-- members in front of a register that is added
pub spread_front : (c : RegClass) (w : Float) (ms : List (Option VirtReg)) (rs ss : List Register) → ((i : ℕ) (r : VirtReg) → get_or ms i none ≡ some r → r.0 < length rs)
    → spread c w ms (rs ++ ss) ≡ spread c w ms rs ++ ss
unfolding spread
spread_front c w [] rs ss f = refl
spread_front c w (none ∷ ms) rs ss f = spread_front c w ms rs ss (λ i r e. f (suc i) r e)
spread_front c w (some v ∷ ms) rs ss f =
    let n : length (update (with_weight c w) v.0 rs) ≡ length rs = length_update (with_weight c w) v.0 rs in
    ap (λ (t : List Register). spread c w ms t) (update_front (with_weight c w) v.0 rs ss (f 0 v refl))
    ∙ spread_front c w ms (update (with_weight c w) v.0 rs) ss (λ i r e. let l = f (suc i) r e in omega arith)

-- new pieces leave the weights, and are there
pub weight_pieces : (qs : List Piece) (v k : ℕ) (rs : List Register) (d : Register) → (get_or (update (with_pieces qs) v rs) k d).weight ≡ (get_or rs k d).weight
unfolding update
weight_pieces qs v k [] d = refl
weight_pieces qs zero zero (r ∷ rs) d = refl
weight_pieces qs zero (suc k) (r ∷ rs) d = refl
weight_pieces qs (suc v) zero (r ∷ rs) d = refl
weight_pieces qs (suc v) (suc k) (r ∷ rs) d = weight_pieces qs v k rs d

pub pieces_new : (qs : List Piece) (v : ℕ) (rs : List Register) (d : Register) → v < length rs → (get_or (update (with_pieces qs) v rs) v d).pieces ≡ qs
unfolding update
pieces_new qs v [] d h = absurd (omega arith)
pieces_new qs zero (r ∷ rs) d h = refl
pieces_new qs (suc v) (r ∷ rs) d h = pieces_new qs v rs d (omega arith)

-- ---- typed uses

kind_typed : (k : UseKind) (p : Inst) → TypedKind k → TypedUse (record { pos = p; kind = k })
unfolding TypedKind TypedUse
kind_typed (FixedDef r) p t = tt
kind_typed (FixedUse r) p t = tt
kind_typed (TiedUse s d c i) p t = t
kind_typed ConstraintConflict p t = tt
kind_typed (ClassUse s c) p t = t
kind_typed (ClassDef s c) p t = t
kind_typed (GroupClassUse s c i) p t = t
kind_typed (GroupClassDef s c i) p t = t
kind_typed (BlockparamIn q) p t = tt
kind_typed BlockparamOut p t = tt

pub typed_uses : (us : List Use) → Each Typed us → Each TypedUse us
typed_uses us t = each_weaker Typed TypedUse (λ u p. kind_typed u.kind u.pos p) us t

-- the uses of one register are among all
pub typed_register : (st : State) (v : VirtReg) → v.0 < length st.registers → Each Typed (uses_of (segs_of (all_pieces st.registers)))
    → Each Typed (uses_of (segs_of (register_at st v).pieces))
unfolding register_at all_pieces
typed_register st v l t =
    let rs : List Register = st.registers in
    let r : Register = get_or rs v.0 no_register in
    let ps : List Piece = all_pieces (take v.0 rs) in
    let qs : List Piece = all_pieces (drop (suc v.0) rs) in
    let A : List Use = uses_of (segs_of ps) in
    let B : List Use = uses_of (segs_of r.pieces) in
    let C : List Use = uses_of (segs_of qs) in
    let e : all_pieces rs ≡ ps ++ (r.pieces ++ qs) = ap (λ (x : List Register). all_pieces x) (split_at rs v.0 no_register l) ∙ all_append (take v.0 rs) (r ∷ drop (suc v.0) rs) in
    let eu : uses_of (segs_of (all_pieces rs)) ≡ A ++ (B ++ C) =
    ap (λ (x : List Piece). uses_of (segs_of x)) e ∙ uses_append ps (r.pieces ++ qs) ∙ ap (λ (x : List Use). A ++ x) (uses_append r.pieces qs) in
    each_front Typed B C (each_back Typed A (B ++ C) (subst (λ (us : List Use). Each Typed us) eu t))
