-- To be believed: what a read is answered, by doc/proto.md of the NBD project: "Simple reply message", "Structured reply chunk
-- message".
use Rattle.std.specs.Prelude.{◌==◌, ℕ, Bool, true, false, List, if◌then◌else◌}
use Rattle.nbd_messages.specs.Replies.{simple_reply, bare_chunk, error_chunk, data_front}
use Rattle.nbd_messages.specs.declared.request.Request.{Request}

-- what stands before a read's bytes: the front of a simple or of a structured reply, of which there is none without bytes
abbrev pub data_start : Bool → Request → List ℕ
data_start false request = simple_reply 0 request.cookie
data_start true request =
    if request.length == 0 then bare_chunk request.cookie else
    data_front request.cookie request.offset request.length

-- an error in place of a read's bytes
abbrev pub error_reply : Bool → ℕ → Request → List ℕ
error_reply false error request = simple_reply error request.cookie
error_reply true error request = error_chunk error request.cookie
