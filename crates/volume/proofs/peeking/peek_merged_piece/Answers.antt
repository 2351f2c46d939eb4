-- A piece of a chunk with a copy is the store's, every other the origin's.
use Rattle.std.proofs.Common.{◌≡◌, ◌+◌, ◌*◌, ◌/◌, ◌%◌, ◌<◌, Some, None, ap, ◌∙◌, sym, arith}
use Rattle.sector.specs.Bytes.{sectors_at}
use Rattle.cow_format.specs.Picture.{place_of}
use Rattle.whole_commands.proofs.PictureSectors.{one_of}
use Rattle.volume.proofs.Listed.{listed_plain, listed_copied, place_by}
use Rattle.volume.proofs.Peeked.{place_low, place_high}
use Rattle.volume.proofs.peeking.peek_merged_piece.Goals as goal

pub overflow_mul-range : goal.overflow_mul-range
overflow_mul-range g c =
    let s = c.args.merge.now in
    let room = c.requires.places c.chunk_of.result c.in-Some.place (sym c.place_of.ensures ∙ c.in-Some.is) in
    let low = place_low s.state.chunk c.from-chunk.result c.in-Some.place (g.B.Block.size s.device) (c.from-chunk.ensures ∙ c.requires.chunk) room in
    omega (arith, low, g.met.B.Block.small s.device)

pub overflow_add-range : goal.overflow_add-range
overflow_add-range g c =
    let s = c.args.merge.now in
    let room = c.requires.places c.chunk_of.result c.in-Some.place (sym c.place_of.ensures ∙ c.in-Some.is) in
    let fits = one_of c.args.geometry.now.chunk s.state.chunk c.args.piece.first c.args.piece.count (rw (← c.requires.chunk) c.args.geometry.now.some) c.requires.chunk c.requires.some c.requires.one in
    let high = place_high s.state.chunk c.from-chunk.result c.in-Some.place (g.B.Block.size s.device) c.args.piece.first c.args.piece.count (c.from-chunk.ensures ∙ c.requires.chunk) fits room in
    omega (arith, high, g.met.B.Block.small s.device)

pub invariant_of-range : goal.invariant_of-range
invariant_of-range g c =
    let s = c.args.merge.now in
    let room = c.requires.places c.chunk_of.result c.in-Some.place (sym c.place_of.ensures ∙ c.in-Some.is) in
    let fits = one_of c.args.geometry.now.chunk s.state.chunk c.args.piece.first c.args.piece.count (rw (← c.requires.chunk) c.args.geometry.now.some) c.requires.chunk c.requires.some c.requires.one in
    let high = place_high s.state.chunk c.from-chunk.result c.in-Some.place (g.B.Block.size s.device) c.args.piece.first c.args.piece.count (c.from-chunk.ensures ∙ c.requires.chunk) fits room in
    let size : c.sectors.result ≡ g.B.Block.size s.device = c.sectors.ensures ∙ ap g.B.Block.size c.device.ensures in
    record { inside = rw size high }

pub returns-in-None : goal.returns-in-None
returns-in-None g c =
    let s = c.args.merge.now in
    let pos : 0 < s.state.chunk = rw (← c.requires.chunk) c.args.geometry.now.some in
    let none : place_of s.pairs (c.args.piece.first / s.state.chunk) ≡ None =
    place_by s.state.chunk c.args.geometry.now.chunk c.args.piece.first s.pairs _ None c.requires.chunk (c.place_of.ensures ∙ ap (place_of s.pairs) c.chunk_of.ensures) c.in-None.is in
    c.peek.ensures ∙ listed_plain s.state.chunk c.args.piece.first c.args.piece.count (g.B.Block.contents c.args.origin.now) (g.B.Block.contents s.device) s.pairs pos none
    (one_of c.args.geometry.now.chunk s.state.chunk c.args.piece.first c.args.piece.count pos c.requires.chunk c.requires.some c.requires.one)
    (omega (arith, g.met.B.Block.whole c.args.origin.now, c.requires.inside))

pub returns-in-Some : goal.returns-in-Some
returns-in-Some g c =
    let s = c.args.merge.now in
    let pos : 0 < s.state.chunk = rw (← c.requires.chunk) c.args.geometry.now.some in
    let some : place_of s.pairs (c.args.piece.first / s.state.chunk) ≡ Some c.in-Some.place =
    place_by s.state.chunk c.args.geometry.now.chunk c.args.piece.first s.pairs _ (Some c.in-Some.place) c.requires.chunk (c.place_of.ensures ∙ ap (place_of s.pairs) c.chunk_of.ensures) c.in-Some.is in
    let room = c.requires.places c.chunk_of.result c.in-Some.place (sym c.place_of.ensures ∙ c.in-Some.is) in
    c.peek-in-Some.ensures
    ∙ ap (λ d. sectors_at (g.B.Block.contents d) (c.from-chunk.result * c.in-Some.place + c.args.piece.first % c.from-chunk.result) c.args.piece.count) c.device-in-Some.ensures
    ∙ ap (λ n. sectors_at (g.B.Block.contents s.device) (n * c.in-Some.place + c.args.piece.first % n) c.args.piece.count) (c.from-chunk.ensures ∙ c.requires.chunk)
    ∙ listed_copied s.state.chunk c.args.piece.first c.args.piece.count c.in-Some.place (g.B.Block.contents c.args.origin.now) (g.B.Block.contents s.device) s.pairs pos some
    (one_of c.args.geometry.now.chunk s.state.chunk c.args.piece.first c.args.piece.count pos c.requires.chunk c.requires.some c.requires.one)
    (omega (arith, g.met.B.Block.whole c.args.origin.now, c.requires.inside))
    (omega (arith, g.met.B.Block.whole s.device, room))
