-- What `to_form2` and `to_form1` write, by computation: three sheets both ways, one of which `vregs`
-- refuses by 8; each refusal; and a sheet of each form given to the wrong program.
-- Assumes nothing.
use mathlib.Core.Path.{◌≡◌, refl}
use Prim.Native.Nat.{ℕ, ◌+◌}
use Prim.Native.String.{String}
use mathlib.Core.List.{List, [], ◌∷◌, ◌++◌, map}
use lib.ListN.{take, drop}
use Rattle.definition.specs.Text.{bytes}
use Rattle.definition.specs.Conversion.{to_form2, to_form1}
use Rattle.definition.specs.SheetForms.{vregs_of}
use Rattle.definition.proofs.SheetCases.{text, case_a, every_record, second_a, each_changed}

-- ---- both ways

-- a sheet with every record, in the second form: value 5 has the leader 0
every_second : List String
every_second =
    "form 2"
    ∷ "opt 1 3f000000 3e800000 3e000000"
    ∷ "bank 0"
    ∷ "bank 3"
    ∷ "class 00000007 3f800000 1 0"
    ∷ "class 00000002 3f800000 1 0"
    ∷ "class 00000004 40000000 1 1"
    ∷ "class 00000008 3f800000 2 0"
    ∷ "reg 0"
    ∷ "reg 1"
    ∷ "block 4 3f800000 0"
    ∷ "block 4 40000000 4"
    ∷ "value 0 0 1"
    ∷ "value 0 1 2"
    ∷ "value 0 2 3"
    ∷ "value 1 3 0"
    ∷ "value 1 4 0"
    ∷ "value 0 0 0"
    ∷ "vgroup 3 4"
    ∷ "vgroup 4 3"
    ∷ "operand 2 0 0 3"
    ∷ "operand 6 1 1 3"
    ∷ "hint 0 0 1"
    ∷ "hint 0 5 0"
    ∷ "seg 0 2 26 4 0"
    ∷ "use 5 0 0 1"
    ∷ "use 4 6 0 2"
    ∷ "seg 5 28 30 1 0"
    ∷ "use 4 7 0 1"
    ∷ "use 4 7 1 2"
    ∷ "seg 1 2 20 8 1"
    ∷ "use 0 0 1"
    ∷ "use 1 4 0"
    ∷ "seg 2 0 32 3 2"
    ∷ "use 8 0 4294967295"
    ∷ "use 2 3 0 1 0 0"
    ∷ "use 9 7"
    ∷ "seg 3 8 26 0 3"
    ∷ "use 7 2 0 3 0"
    ∷ "use 6 6 1 3 1"
    ∷ "end"
    ∷ []

-- case B's class, which shares nothing with the top one: `vregs` answers these by 8
stops : List String
unfolding case_a each_changed
stops = each_changed ((2, "class 00000003 3f800000 1 0") ∷ []) case_a

stops_second : List String
unfolding second_a each_changed
stops_second = each_changed ((3, "class 00000003 3f800000 1 0") ∷ []) second_a

-- a sheet of the first form, and the same in the second
both_forms : List (List String × List String)
unfolding case_a second_a every_record every_second stops stops_second
both_forms = (case_a, second_a) ∷ (every_record, every_second) ∷ (stops, stops_second) ∷ []

there-and-home :
    (map (λ p. to_form2 (text p.0)) both_forms ≡ map (λ p. text p.1) both_forms)
    × (map (λ p. to_form1 (text p.1)) both_forms ≡ map (λ p. text p.0) both_forms)
    × (map (λ s. vregs_of (text s)) (stops ∷ stops_second ∷ []) ≡ map text (("refused 8" ∷ []) ∷ ("refused 8" ∷ []) ∷ []))
unfolding to_form2 to_form1 vregs_of text both_forms stops stops_second
there-and-home = (refl, refl, refl)

-- ---- refusals

-- case A's sheet in either form with one other line, and the number of both
refused_a : List (ℕ × String × String)
refused_a =
    (0, "opts 0 3f800000 3f800000 3f800000", "refused 1")
    ∷ (1, "bank 00", "refused 1")
    ∷ (0, "opt 65536 3f800000 3f800000 3f800000", "refused 2")
    ∷ (1, "bank 3", "refused 3")
    ∷ (7, "value 0 3 0", "refused 4")
    ∷ (9, "use 3 0", "refused 7")
    ∷ (10, "use 4 9 0 2", "refused 7")
    ∷ []

abbrev first_with : ℕ → String → List ℕ
first_with n l = text (each_changed ((n, l) ∷ []) case_a)

abbrev second_with : ℕ → String → List ℕ
second_with n l = text (each_changed ((n, l) ∷ []) second_a)

refusals-hold :
    (map (λ c. to_form2 (first_with c.0 c.1)) refused_a ≡ map (λ c. text (c.2 ∷ [])) refused_a)
    × (map (λ c. to_form1 (second_with (c.0 + 1) c.1)) refused_a ≡ map (λ c. text (c.2 ∷ [])) refused_a)
unfolding to_form2 to_form1 text refused_a case_a second_a each_changed
refusals-hold = (refl, refl)

-- ---- what differs by the form, and the wrong program

-- for `to_form2` and for `to_form1`
others : List (List ℕ × String × String)
unfolding text case_a second_a each_changed
others =
    -- a sheet in the form that is asked for: 1, whatever else is wrong with it
    (text (each_changed ((9, "seg 7 2 14 0 7") ∷ []) second_a), "refused 1", "refused 6")
    ∷ (text (each_changed ((8, "seg 7 2 14 0") ∷ []) case_a), "refused 6", "refused 1")
    ∷ (text (take 8 case_a ++ ("hint 0 9 0" ∷ drop 8 case_a)), "refused 5", "refused 1")
    ∷ (text (take 9 second_a ++ ("hint 0 9 0" ∷ drop 9 second_a)), "refused 1", "refused 5")
    -- 1 is tested over the whole sheet, before 5: lines behind the end, and a hint past the last instruction
    ∷ (text (each_changed ((8, "hint 0 9 0") ∷ (9, "end") ∷ []) case_a), "refused 1", "refused 1")
    -- 10 is `to_form1`'s alone
    ∷ (text (each_changed ((7, "block 2 3f000000 3") ∷ []) second_a), "refused 1", "refused 10")
    ∷ (text (each_changed ((9, "seg 0 2 14 0 1") ∷ []) second_a), "refused 1", "refused 10")
    -- a written field in the first form, and none in the second
    ∷ (text (each_changed ((8, "seg 0 2 14 0 0") ∷ []) case_a), "refused 1", "refused 1")
    ∷ (text (each_changed ((9, "seg 0 2 14 0") ∷ []) second_a), "refused 1", "refused 1")
    -- no byte, a line feed, the form line alone, without its line feed
    ∷ ([], "refused 1", "refused 1")
    ∷ (text ("" ∷ []), "refused 1", "refused 1")
    ∷ (text ("form 2" ∷ []), "refused 1", "refused 1")
    ∷ (bytes "form\t2", "refused 1", "refused 1")
    ∷ []

others-hold :
    (map (λ c. to_form2 c.0) others ≡ map (λ c. text (c.1 ∷ [])) others)
    × (map (λ c. to_form1 c.0) others ≡ map (λ c. text (c.2 ∷ [])) others)
    × (to_form2 (text second_a) ≡ text ("refused 1" ∷ []))
    × (to_form1 (text case_a) ≡ text ("refused 1" ∷ []))
unfolding to_form2 to_form1 text others case_a second_a
others-hold = (refl, refl, refl, refl)
