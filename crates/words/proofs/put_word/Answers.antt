use Rattle.std.proofs.Common.{◌≡◌, rules}
use Rattle.std.specs.Int.{w32, to_le_bytes}
use Rattle.words.proofs.Stores.{word_stored}
use Rattle.words.proofs.put_word.Goals as goal

pub returns : goal.returns
returns c = let e : c.copy_from_slice.new.self ≡ to_le_bytes w32 c.args.x = search rules in
    word_stored c.args.s.now _ c.args.i c.args.x c.requires c.ranges.x.fits e
