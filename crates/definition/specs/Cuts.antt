-- What a cut at an instruction leaves on its two sides (uses.rs, hints.rs, builder.rs). Assumes nothing.
use Rattle.std.specs.Prelude.{◌*◌, true, false, ◌&&◌, cond, List, [], ◌∷◌, leb, ltb}
use Rattle.definition.specs.Types.{Inst, Use, Hint, Segment, point}
use Rattle.definition.specs.LiveRange.{inst_of, next_inst}
use Rattle.definition.specs.Hints.{hinted}

-- "Splitting at instruction p sends uses before p left, those at p right." The uses do not fall, so each half is one part of the list.
unfoldable pub uses_before : Inst → List Use → List Use
uses_before p [] = []
uses_before p (u ∷ us) = elim (ltb u.pos.0 p.0) [ true ↦ u ∷ uses_before p us | false ↦ [] ]

unfoldable pub uses_from : Inst → List Use → List Use
uses_from p [] = []
uses_from p (u ∷ us) = elim (ltb u.pos.0 p.0) [ true ↦ uses_from p us | false ↦ u ∷ us ]

-- "The left list gains live-out, the right live-in; a fixed-def flag stays left." "When a list with a fixed hint is cut at p, the left has it exactly
-- if the value has a hint from incoming at the instruction of `from` to outgoing at p, the right from incoming at p to outgoing at `to` rounded up to a Boundary.
-- A list without it gives none."
unfoldable pub left_of : List Hint → Inst → Segment → Segment
unfolding uses_before hinted
left_of hs p s = record {
  value = s.value;
  «from» = s.«from»;
  to = point (4 * p.0);
  flags = record {
    livein = s.flags.livein;
    liveout = true;
    fixedhint = s.flags.fixedhint && hinted hs s.value (inst_of s.«from») p.0;
    fixeddef = s.flags.fixeddef;
  };
  uses = uses_before p s.uses;
}

unfoldable pub right_of : List Hint → Inst → Segment → Segment
unfolding uses_from hinted
right_of hs p s = record {
  value = s.value;
  «from» = point (4 * p.0);
  to = s.to;
  flags = record {
    livein = true;
    liveout = s.flags.liveout;
    fixedhint = s.flags.fixedhint && hinted hs s.value p.0 (next_inst s.to);
    fixeddef = false;
  };
  uses = uses_from p s.uses;
}

-- "A cut at 4p sends left the segments that end by it and splits one across it."
unfoldable pub left_cut : List Hint → Inst → List Segment → List Segment
unfolding left_of
left_cut hs p [] = []
left_cut hs p (s ∷ ss) =
    elim (leb s.to.0 (4 * p.0)) [ true ↦ s ∷ left_cut hs p ss | false ↦ cond (ltb s.«from».0 (4 * p.0)) (left_of hs p s ∷ []) [] ]

unfoldable pub right_cut : List Hint → Inst → List Segment → List Segment
unfolding right_of
right_cut hs p [] = []
right_cut hs p (s ∷ ss) =
    elim (leb s.to.0 (4 * p.0)) [ true ↦ right_cut hs p ss | false ↦ cond (ltb s.«from».0 (4 * p.0)) (right_of hs p s ∷ ss) (s ∷ ss) ]
