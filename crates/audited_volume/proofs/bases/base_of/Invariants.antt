use Rattle.std.proofs.Common.{◌≡◌, map, take, true}
use Rattle.volume.specs.Volumed.{is_loud_in_all, plain_of}
use Rattle.audited_volume.specs.Books.{shown_in}
use Rattle.audited_volume.proofs.bases.base_of.Given as goal

abbrev pub invariant-loop-k : goal.invariant-loop-k
invariant-loop-k g l = is_loud_in_all g.B.Block.layers l.volume ≡ true → map shown_in l.saved.items ≡ take l.k (plain_of g.B.Block.contents g.B.Block.layers l.volume).saved
