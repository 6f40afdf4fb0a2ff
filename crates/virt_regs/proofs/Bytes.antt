-- The bytes of a part are the part of the words. Assumes nothing.
use mathlib.Core.Path.{◌≡◌, ap, ◌∙◌}
use mathlib.Core.List.{List}
use Prim.Native.Nat.{ℕ, ◌+◌, ◌-◌, ◌*◌}
use lib.ListN.{get_or, take, drop}
use Rattle.words.specs.Words.{words_of}
use Rattle.words.specs.Laws.{words_part}
use Rattle.definition.specs.declared.VirtReg.{VirtReg}
use Rattle.virt_regs.specs.declared.OutLayout.{OutLayout}
use Rattle.words.specs.Part.{part}
use Rattle.virt_regs.specs.Encoding.{seg_base}
use Rattle.virt_regs.specs.Reads.{segments_in}

pub segments_part : (s : List ℕ) (ol : OutLayout) (v : VirtReg) (f n : ℕ) → f ≡ get_or (words_of s) (v.0 * 8 + 6) 0 → n ≡ get_or (words_of s) (v.0 * 8 + 7) 0
    → words_of (take ((seg_base ol + f * 7 + n * 7) * 4 - (seg_base ol + f * 7) * 4) (drop ((seg_base ol + f * 7) * 4) s)) ≡ segments_in ol (words_of s) v
unfolding segments_in part
segments_part s ol v f n ef en =
    words_part (seg_base ol + f * 7) (seg_base ol + f * 7 + n * 7) s
    ∙ ap (λ (k : ℕ). part (seg_base ol + f * 7) (seg_base ol + f * 7 + k * 7) (words_of s)) en
    ∙ ap (λ (k : ℕ). part (seg_base ol + k * 7) (seg_base ol + k * 7 + get_or (words_of s) (v.0 * 8 + 7) 0 * 7) (words_of s)) ef
