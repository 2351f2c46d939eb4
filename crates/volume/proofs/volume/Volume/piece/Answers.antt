-- The least chunk is as small as each.
use Rattle.std.proofs.Common.{◌≡◌, ◌∙◌, ap, subst, arith, true}
use Rattle.std.specs.List.{All}
use Rattle.chunk.specs.Sizes.{is_chunk}
use Rattle.snapshot.specs.Kept.{Kept}
use Rattle.volume.specs.Volumed.{Volumed, piece_of}
use Rattle.volume.proofs.Least.{within_each}
use Rattle.volume.proofs.volume.Volume.piece.Goals as goal

pub returns-in-Some-clause-within : goal.returns-in-Some-clause-within
returns-in-Some-clause-within g c =
    let seen = c.as_slice.ensures.value ∙ ap (λ (x : Volumed g.row.B.Denot). x.snaps) c.self.view_is in
    let all : All (λ (s : Kept g.row.B.Denot). is_chunk s.state.chunk ≡ true) c.args.self.now.snaps = subst (All (λ (s : Kept g.row.B.Denot). is_chunk s.state.chunk ≡ true)) seen c.least_chunk-least.ensures.each in
    let least = c.least_chunk-least.ensures.is ∙ ap piece_of seen in
    within_each c.args.self.now.snaps c.min.result all (omega (arith, least, c.min.ensures))

pub returns-in-None-clause-within : goal.returns-in-None-clause-within
returns-in-None-clause-within g c =
    let seen = c.as_slice.ensures.value ∙ ap (λ (x : Volumed g.row.B.Denot). x.snaps) c.self.view_is in
    let all : All (λ (s : Kept g.row.B.Denot). is_chunk s.state.chunk ≡ true) c.args.self.now.snaps = subst (All (λ (s : Kept g.row.B.Denot). is_chunk s.state.chunk ≡ true)) seen c.least_chunk-least.ensures.each in
    let least = c.least_chunk-least.ensures.is ∙ ap piece_of seen in
    within_each c.args.self.now.snaps c.least_chunk-least.result all (omega (arith, least))
