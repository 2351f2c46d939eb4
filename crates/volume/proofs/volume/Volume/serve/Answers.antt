-- A request is served by the way it goes.
use Rattle.volume.proofs.volume.Volume.serve.Goals as goal

pub serve_at_disk-requires-clause-quiet : goal.serve_at_disk-requires-clause-quiet
serve_at_disk-requires-clause-quiet g c = c.in-Disk.ensures.0

pub serve_at_disk-requires-clause-alone : goal.serve_at_disk-requires-clause-alone
serve_at_disk-requires-clause-alone g c = c.in-Disk.ensures.1

pub serve_at_disk-requires-clause-goes : goal.serve_at_disk-requires-clause-goes
serve_at_disk-requires-clause-goes g c = c.in-Disk.ensures.2

pub serve_at_store-requires-clause-quiet : goal.serve_at_store-requires-clause-quiet
serve_at_store-requires-clause-quiet g c = c.in-Store.ensures.0

pub serve_at_store-requires-clause-alone : goal.serve_at_store-requires-clause-alone
serve_at_store-requires-clause-alone g c = c.in-Store.ensures.1

pub serve_at_store-requires-clause-read : goal.serve_at_store-requires-clause-read
serve_at_store-requires-clause-read g c = c.in-Store.ensures.2

pub submit_waiting-requires-clause-alone : goal.submit_waiting-requires-clause-alone
submit_waiting-requires-clause-alone g c = c.in-Copies.ensures.0

pub submit_waiting-requires-clause-kind : goal.submit_waiting-requires-clause-kind
submit_waiting-requires-clause-kind g c = c.in-Copies.ensures.1

pub submit_waiting-requires-clause-waits : goal.submit_waiting-requires-clause-waits
submit_waiting-requires-clause-waits g c = c.in-Copies.ensures.2
