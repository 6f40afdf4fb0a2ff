use native.Mathlib.Omega.{arith}
use mathlib.Core.Path.{sym, ◌∙◌}
use borrow.Author.Tests.{not-true, not-false}
use Rattle.entry_uses.proofs.KindTests.{group_there, group_few, fits_class, fits_index, fits_by}
use Rattle.entry_uses.proofs.kind.operand_fits.Goals as goal

pub returns-then-ne : goal.returns-then-ne
returns-then-ne c = fits_class _ _ c.args.indexed.now.ready.passed _ c.requires _ c.operand_at-o.ensures _ _ _ (not-true _ (sym c.ne.ensures ∙ c.if-ne.true))

pub group_len-requires : goal.group_len-requires
group_len-requires c = omega (arith, group_there _ _ c.args.indexed.now.ready.passed _ c.requires _ c.operand_at-o.ensures, c.args.indexed.now.ready.fits.vgroups)

pub returns-then-group_len-index : goal.returns-then-group_len-index
returns-then-group_len-index c = fits_index _ _ c.args.indexed.now.ready.passed _ c.requires _ c.operand_at-o.ensures _ _ _ (not-false _ (sym c.ne.ensures ∙ c.if-ne.false)) _ c.group_len.ensures c.if-group_len-index.true

pub member_at-requires : goal.member_at-requires
member_at-requires c = (
  omega (arith, group_there _ _ c.args.indexed.now.ready.passed _ c.requires _ c.operand_at-o.ensures, c.args.indexed.now.ready.fits.vgroups),
  group_few _ _ c.args.indexed.now.ready.passed _ c.requires _ c.operand_at-o.ensures,
  omega (arith, c.group_len.ensures, c.if-group_len-index.false),
)

pub returns : goal.returns
returns c = c.eq.ensures ∙ fits_by _ _ c.args.indexed.now.ready.passed _ c.requires _ c.operand_at-o.ensures _ _ _ (not-false _ (sym c.ne.ensures ∙ c.if-ne.false)) _ c.group_len.ensures c.if-group_len-index.false _ c.member_at.ensures
