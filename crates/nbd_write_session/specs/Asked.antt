-- To be believed: what a client asks for, by doc/proto.md of the NBD project: "Transmission", "Request message",
-- "NBD_CMD_DISC". A request that is refused is answered once its header is there; its payload is not looked at.
use Rattle.std.specs.Prelude.{◌≡◌, ℕ, ◌+◌, ◌≤◌, List, [], ◌∷◌, length, take, drop, Option, Some, None, ⊤}
use Rattle.nbd_messages.specs.declared.command.Command.TheVariants.{Disconnect}
use Rattle.nbd_messages.specs.declared.request.Request.{Request}
use Rattle.nbd_messages.specs.Requests.{request_in}
use Rattle.nbd_messages.specs.Writing.{payload}
use Rattle.nbd_jobs.specs.Refused.{refusal_of}
use Rattle.nbd_write_session.specs.Owed.{Owed, given_with, owed_for}

-- The next request of these bytes, of an export of so many bytes: its header is at their front, and its payload behind it
-- where it is to be served.
pub record IsNext (size : ℕ) (request : Request) (bytes : List ℕ) : Type 0 where
  pub header : 28 ≤ length bytes
  pub is : request_in (take 28 bytes) ≡ Some request
  pub whole : refusal_of size request ≡ None → 28 + payload request ≤ length bytes

-- Bytes are requests, none of which disconnects, and the rest, and this is owed for them. So many were served before, and so many with
-- them.
abbrev pub AreAsked : ℕ → ℕ → List Owed → List ℕ → List ℕ → ℕ → Type 0
AreAsked size given [] bytes rest with_them = (bytes ≡ rest) × (with_them ≡ given)
AreAsked size given (owed ∷ more) bytes rest with_them =
    IsNext size owed.request bytes × (owed.request.command ≡ Disconnect → ⊥) × (owed ≡ owed_for size given owed.request bytes)
    × AreAsked size (given_with owed.refusal given) more (drop (28 + payload owed.request) bytes) rest with_them

-- the same where the bytes are known
abbrev pub Asks : ℕ → ℕ → List Owed → Option (List ℕ) → Option (List ℕ) → ℕ → Type 0
Asks size given owed None new with_them = ⊤
Asks size given owed (Some bytes) None with_them = ⊥
Asks size given owed (Some bytes) (Some rest) with_them = AreAsked size given owed bytes rest with_them

-- Nothing more is asked: no request is next but one that disconnects.
abbrev pub IsOver : ℕ → List ℕ → Type 0
IsOver size bytes = (request : Request) → IsNext size request bytes → request.command ≡ Disconnect
