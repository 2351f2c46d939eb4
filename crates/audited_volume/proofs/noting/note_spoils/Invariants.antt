use Rattle.std.proofs.Common.{◌≡◌, vec_capacity}
use Rattle.volume.specs.Volumed.{plain_of}
use Rattle.audited_volume.specs.Noted.{Noted}
use Rattle.audited_volume.proofs.noting.note_spoils.Given as goal

abbrev pub invariant-loop-k : goal.invariant-loop-k
invariant-loop-k g l =
    Noted l.k (plain_of g.B.Block.contents g.B.Block.layers l.volume).saved l.fn.lives.items l.lives.items l.fn.entries.items l.entries.items
    × (vec_capacity l.entries ≡ vec_capacity l.fn.entries)
