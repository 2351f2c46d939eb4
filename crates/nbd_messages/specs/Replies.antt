-- To be believed: what a server says, by doc/proto.md of the NBD project: "Newstyle negotiation", "Option reply types",
-- "Simple reply message", "Structured reply chunk message" and its types, "Error values".
use Rattle.std.specs.Prelude.{ℕ, ◌+◌, Bool, true, false, List, [], ◌++◌, length, replicate}
use Rattle.byteorder.specs.Endian.{big_bytes}

-- What a server says first: NBDMAGIC, IHAVEOPT, and that it knows the fixed newstyle and clients that want no zeros.
unfoldable pub greeting : List ℕ
greeting = big_bytes 8 0x4e42_444d_4147_4943 ++ big_bytes 8 0x4948_4156_454f_5054 ++ big_bytes 2 3

-- the front of a reply to an option: the magic number, the option, the type of the reply, the length of its data
unfoldable pub option_front : ℕ → ℕ → ℕ → List ℕ
option_front option kind len = big_bytes 8 0x0003_e889_0455_65a9 ++ big_bytes 4 option ++ big_bytes 4 kind ++ big_bytes 4 len

-- the reply to an option, with its data
abbrev pub option_reply : ℕ → ℕ → List ℕ → List ℕ
option_reply option kind payload = option_front option kind (length payload) ++ payload

-- the data of a reply that lists an export: its name behind its length
unfoldable pub listed_name : List ℕ → List ℕ
listed_name name = big_bytes 4 (length name) ++ name

-- the data of a reply on an export: that it is of the export itself, its size, its flags
unfoldable pub export_info : ℕ → ℕ → List ℕ
export_info size flags = big_bytes 2 0 ++ big_bytes 8 size ++ big_bytes 2 flags

-- the data of a reply on an export's blocks: that it is of them, 3, the least, the best and the greatest length of a request
unfoldable pub blocks_info : ℕ → ℕ → ℕ → List ℕ
blocks_info least best most = big_bytes 2 3 ++ big_bytes 4 least ++ big_bytes 4 best ++ big_bytes 4 most

-- the data of a reply on a context, of which a client can ask the state of blocks: its number in this session, and its name
unfoldable pub context_info : ℕ → List ℕ → List ℕ
context_info number name = big_bytes 4 number ++ name

-- the end of the haggling by an export's name: its size, its flags, and zeros for a client that didn't decline them
unfoldable pub export_reply : ℕ → ℕ → ℕ → List ℕ
export_reply size flags zeros = big_bytes 8 size ++ big_bytes 2 flags ++ replicate zeros 0

-- a simple reply: the magic number, the error or 0, the request's cookie; a read's data follow it
unfoldable pub simple_reply : ℕ → ℕ → List ℕ
simple_reply error cookie = big_bytes 4 0x6744_6698 ++ big_bytes 4 error ++ big_bytes 8 cookie

-- The front of a chunk of a structured reply: the magic number, whether it is the reply's last chunk, its type, the request's
-- cookie, and the length of its data.
abbrev pub last_flag : Bool → ℕ
last_flag false = 0
last_flag true = 1

unfoldable pub chunk_kind : Bool → ℕ → List ℕ
chunk_kind last kind = big_bytes 4 0x668e_33ef ++ big_bytes 2 (last_flag last) ++ big_bytes 2 kind

unfoldable pub chunk_front : Bool → ℕ → ℕ → ℕ → List ℕ
chunk_front last kind cookie len = chunk_kind last kind ++ big_bytes 8 cookie ++ big_bytes 4 len

-- a chunk without data
abbrev pub bare_chunk : ℕ → List ℕ
bare_chunk cookie = chunk_front true 0 cookie 0

-- a chunk that tells an error: the error, and that no words follow
abbrev pub error_chunk : ℕ → ℕ → List ℕ
error_chunk error cookie = chunk_front true 32769 cookie 6 ++ big_bytes 4 error ++ big_bytes 2 0

-- the front of a chunk with so many bytes of an export: their offset
abbrev pub data_front : ℕ → ℕ → ℕ → List ℕ
data_front cookie offset len = chunk_front true 1 cookie (8 + len) ++ big_bytes 8 offset

-- the data of a reply on the state of blocks: the context's number, and one range: how many bytes it has, and its state
unfoldable pub block_state : ℕ → ℕ → ℕ → List ℕ
block_state context len state = big_bytes 4 context ++ big_bytes 4 len ++ big_bytes 4 state

-- a chunk that tells the state of blocks, the last one of its reply or not
abbrev pub state_chunk : Bool → ℕ → ℕ → ℕ → ℕ → List ℕ
state_chunk last cookie context len state = chunk_front last 5 cookie 12 ++ block_state context len state
