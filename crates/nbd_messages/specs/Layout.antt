-- To be believed: numbers in the messages of the Network Block Device protocol, the highest byte first. The protocol is
-- described in doc/proto.md of the NBD project (github.com/NetworkBlockDevice/nbd).
use Rattle.std.specs.Prelude.{ℕ, List, drop}
use Rattle.byteorder.specs.Endian.{big_number}

-- the number in so many bytes, from one on
unfoldable pub number_at : List ℕ → ℕ → ℕ → ℕ
number_at bytes at count = big_number count (drop at bytes)
