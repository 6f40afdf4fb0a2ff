-- The flags on the two sides of a cut, named apart from the segments that have them. Assumes nothing.
use Rattle.std.specs.Prelude.{◌≡◌, refl, true, false, ◌&&◌, List}
use Rattle.definition.specs.declared.Inst.{Inst}
use Rattle.definition.specs.declared.Value.{Value}
use Rattle.definition.specs.declared.LiveRangePoint.{LiveRangePoint}
use Rattle.definition.specs.declared.UseFlags.{UseFlags}
use Rattle.definition.specs.declared.Hint.{Hint}
use Rattle.definition.specs.Types.{Segment}
use Rattle.definition.specs.LiveRange.{inst_of, next_inst}
use Rattle.definition.specs.Hints.{hinted}
use Rattle.definition.specs.Cuts.{left_of, right_of}

-- of a segment of value v that starts at q
unfoldable pub left_flags : List Hint → Inst → Value → LiveRangePoint → UseFlags → UseFlags
unfolding hinted
left_flags hs p v q f = record {
  livein = f.livein;
  liveout = true;
  fixedhint = f.fixedhint && hinted hs v (inst_of q) p.0;
  fixeddef = f.fixeddef;
}

-- of a segment of value v that ends at q
unfoldable pub right_flags : List Hint → Inst → Value → LiveRangePoint → UseFlags → UseFlags
unfolding hinted
right_flags hs p v q f = record {
  livein = true;
  liveout = f.liveout;
  fixedhint = f.fixedhint && hinted hs v p.0 (next_inst q);
  fixeddef = false;
}

-- these are the definition's
pub left_flags_lem : (hs : List Hint) (p : Inst) (s : Segment) → (left_of hs p s).flags ≡ left_flags hs p s.value s.«from» s.flags
unfolding left_of left_flags
left_flags_lem hs p s = refl

pub right_flags_lem : (hs : List Hint) (p : Inst) (s : Segment) → (right_of hs p s).flags ≡ right_flags hs p s.value s.to s.flags
unfolding right_of right_flags
right_flags_lem hs p s = refl
