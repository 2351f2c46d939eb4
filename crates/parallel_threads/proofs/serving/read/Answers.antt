-- A read whose bytes are not put into words is cut short behind its last piece.
use Rattle.chunk.specs.Pieces.{span_of}
use Rattle.locked_volume.specs.Denying.{Serve}
use Rattle.locked_volume.specs.Fixed.{piece_at}
use Rattle.volume_threads.specs.Rigs.{seen_at}
use Rattle.parallel_threads.specs.Tasks.{denied_of}
use Rattle.parallel_threads.proofs.Reading.{unsaid}
use Rattle.parallel_threads.proofs.serving.read.Goals as goal

pub returns-in-Ok : goal.returns-in-Ok
returns-in-Ok g c =
    let done = c.in-Ok.ensures.ok in
    (done.0, done.1, unsaid (λ request r. denied_of g.J.Room.start g.J.Room.fixed c.args.volume (seen_at c.read.new.self c.args.volume) (Serve request) r) (piece_at (g.J.Room.fixed c.args.volume)) c.args.dev (span_of c.args.range) done.0 c.in-Ok.bytes done.2)
