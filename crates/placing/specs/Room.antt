-- Room in the tables, by the counts. Assumes nothing.
use Rattle.std.specs.Prelude.{◌≡◌, refl, Bool, true, false, ◌&&◌, List, ℕ, ◌+◌, ◌^◌, ◌≤◌, ◌<◌, leb, length}
use Rattle.std.proofs.Common.{ap, arith, leb-true}
use Rattle.definition.specs.Types.{Piece, State}
use Rattle.definition.specs.Place.{pieces_in, uses_in, uses_of_pieces, has_room}
use Rattle.virt_regs.specs.declared.OutLayout.{OutLayout}
use Rattle.virt_regs.specs.declared.Counts.{Counts}
use Rattle.virt_regs.specs.Encoding.{room_of, counts_of}
use Rattle.placing.specs.Ready.{Space}

four : (a b c d : Bool) → a && b && c && d ≡ true → (a ≡ true) × (b ≡ true) × (c ≡ true) × (d ≡ true)
four true true true true e = (refl, refl, refl, refl)
four false b c d e = absurd (let z : ◌≡◌ {A = ℕ} 0 1 = cc in omega arith)
four true false c d e = absurd (let z : ◌≡◌ {A = ℕ} 0 1 = cc in omega arith)
four true true false d e = absurd (let z : ◌≡◌ {A = ℕ} 0 1 = cc in omega arith)
four true true true false e = absurd (let z : ◌≡◌ {A = ℕ} 0 1 = cc in omega arith)

-- the tables hold r registers and g groups more, and np pieces with nu uses
pub room_counts : (ol : OutLayout) (st : State) (c : Counts) (r g np nu : ℕ) (ps : List Piece) → c ≡ counts_of st → length ps ≡ np → uses_of_pieces ps ≡ nu → has_room (room_of ol) st r g ps ≡ true
    → (c.regs + r ≤ ol.regs) × (c.segs + np ≤ ol.segs) × (c.uses + nu ≤ ol.uses) × (c.groups + g ≤ ol.groups)
unfolding has_room
room_counts ol st c r g np nu ps ec ep eu e =
    let f = four (leb (length st.registers + r) ol.regs) (leb (pieces_in st + length ps) ol.segs) (leb (uses_in st + uses_of_pieces ps) ol.uses) (leb (length st.groups + g) ol.groups) e in
    let cr : c.regs ≡ length st.registers = ap (λ (x : Counts). x.regs) ec in
    let cs : c.segs ≡ pieces_in st = ap (λ (x : Counts). x.segs) ec in
    let cu : c.uses ≡ uses_in st = ap (λ (x : Counts). x.uses) ec in
    let cg : c.groups ≡ length st.groups = ap (λ (x : Counts). x.groups) ec in
    let lr : length st.registers + r ≤ ol.regs = leb-true _ _ f.0 in
    let ls : pieces_in st + length ps ≤ ol.segs = leb-true _ _ f.1 in
    let lu : uses_in st + uses_of_pieces ps ≤ ol.uses = leb-true _ _ f.2 in
    let lg : length st.groups + g ≤ ol.groups = leb-true _ _ f.3 in
    (omega arith, omega arith, omega arith, omega arith)

-- room for a register, where the tables' rows are counted by words
pub space : (ol : OutLayout) (st : State) (c : Counts) (g np nu : ℕ) (ps : List Piece) → c ≡ counts_of st → length ps ≡ np → uses_of_pieces ps ≡ nu → has_room (room_of ol) st 1 g ps ≡ true
    → ol.regs < 2 ^ 32 → ol.segs < 2 ^ 32 → ol.uses < 2 ^ 32 → Space ol c np nu
space ol st c g np nu ps ec ep eu e lr ls lu =
    let k = room_counts ol st c 1 g np nu ps ec ep eu e in
    record { regs = omega arith; segs = omega arith; uses = omega arith; small = (omega arith, omega arith, omega arith) }
