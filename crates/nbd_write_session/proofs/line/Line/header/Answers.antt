use Rattle.std.proofs.Common.{sym}
use Rattle.std.proofs.lemmas.List.{length-take-le}
use Rattle.nbd_write_session.proofs.line.Line.header.Goals as goal

pub slice_bounds-request_in-end : goal.slice_bounds-request_in-end
slice_bounds-request_in-end c = sym (length-take-le 28 _ (rw c.heard.ensures c.requires))

pub request_in-requires : goal.request_in-requires
request_in-requires c = length-take-le 28 _ (rw c.heard.ensures c.requires)
