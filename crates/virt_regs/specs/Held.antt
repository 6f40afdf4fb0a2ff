-- What words that hold a state say of each of the four tables: that its rows fit, and its part of the slice. Assumes nothing.
use mathlib.Core.Path.{◌≡◌, refl}
use mathlib.Core.List.{List}
use Prim.Native.Nat.{ℕ, ◌*◌, ◌≤◌}
use native.Mathlib.Omega.{arith}
use lib.ListN.{length}
use Rattle.words.specs.Parts.{pad}
use Rattle.definition.specs.Types.{State}
use Rattle.definition.specs.Place.{pieces_in, uses_in, uses_of, segs_of}
use Rattle.virt_regs.specs.declared.OutLayout.{OutLayout}
use Rattle.words.specs.Part.{part}
use Rattle.words.specs.Tables.{tabled_long, fits_at, table_part}
use Rattle.virt_regs.specs.Encoding.{group_row, tables, contents, seg_base, use_base, group_base, tables_end, all_pieces, register_rows, piece_rows, use_rows, group_rows, Holds}
use Rattle.virt_regs.specs.Counting.{count_pieces, count_uses, length_registers, length_pieces, length_uses, length_groups}

module _ {ol : OutLayout} {O : List ℕ} {st : State} (h : Holds ol O st) where
  pub held_long : tables_end ol ≤ length O
  held_long = tabled_long (tables ol) (contents st) O h.tabled

  pub fit_registers : length st.registers ≤ ol.regs
  fit_registers = let f = fits_at 0 (tables ol) (contents st) (omega arith) h.tabled.fits in omega (arith, length_registers 0 st.registers)

  pub fit_segments : pieces_in st ≤ ol.segs
  fit_segments = let f = fits_at 1 (tables ol) (contents st) (omega arith) h.tabled.fits in omega (arith, length_pieces 0 (all_pieces st.registers), count_pieces st)

  pub fit_uses : uses_in st ≤ ol.uses
  fit_uses = let f = fits_at 2 (tables ol) (contents st) (omega arith) h.tabled.fits in omega (arith, length_uses (uses_of (segs_of (all_pieces st.registers))), count_uses st)

  pub fit_groups : length st.groups ≤ ol.groups
  fit_groups = let f = fits_at 3 (tables ol) (contents st) (omega arith) h.tabled.fits in omega (arith, length_groups st.groups)

  pub part_registers : part 0 (seg_base ol) O ≡ pad (ol.regs * 8) (register_rows 0 st.registers)
  part_registers = table_part (tables ol) (contents st) O h.tabled 0 (omega arith) 0 (seg_base ol) refl (omega arith)

  pub part_segments : part (seg_base ol) (use_base ol) O ≡ pad (ol.segs * 7) (piece_rows 0 (all_pieces st.registers))
  part_segments = table_part (tables ol) (contents st) O h.tabled 1 (omega arith) (seg_base ol) (use_base ol) refl refl

  pub part_uses : part (use_base ol) (group_base ol) O ≡ pad (ol.uses * 6) (use_rows (uses_of (segs_of (all_pieces st.registers))))
  part_uses = table_part (tables ol) (contents st) O h.tabled 2 (omega arith) (use_base ol) (group_base ol) refl refl

  pub part_groups : part (group_base ol) (tables_end ol) O ≡ pad (ol.groups * group_row) (group_rows st.groups)
  part_groups = table_part (tables ol) (contents st) O h.tabled 3 (omega arith) (group_base ol) (tables_end ol) refl refl
