-- A volume of devices and snapshots that is at rest, whatever is kept beside it, stays so from one piece to the next.
use Rattle.std.proofs.Common.{◌≡◌, ℕ, ◌+◌, ◌*◌, ◌/◌, ◌%◌, ◌≤◌, true, List, [], ◌∷◌, length, map, arith, ap, ◌∙◌, sym, subst}
use Rattle.sector.specs.declared.range.Range.{Range}
use Rattle.chunk.specs.Sizes.{is_chunk}
use Rattle.chunk.specs.Pieces.{Span, span_of, Join, IsInOneChunk}
use Rattle.chunk.proofs.Limits.{is_chunk-some}
use Rattle.chunk.proofs.Wider.{wider}
use Rattle.plain_machine.specs.declared.request.Request.{Request}
use Rattle.plain_machine.specs.declared.request.Dev.{Dev}
use Rattle.plain_machine.specs.declared.request.Op.{Op}
use Rattle.whole_commands.specs.Order.{IsInOrder}
use Rattle.chunk.proofs.PiecePlaces.{join_le, piece_high}
use Rattle.whole_commands.specs.Snaps.{Snap, Volume}
use Rattle.event_machine.specs.Held.{SnapHeld, Moving}
use Rattle.event_machine.specs.Rest.{IsResting, IsAtRest}
use Rattle.event_machine.specs.Settles.{SettlesTo}
use Rattle.event_machine.specs.Submitting.{submitted}
use Rattle.event_machine.specs.Requests.{volume_of, IsInChunk, IsFit}
use Rattle.whole_commands.specs.Requests.{answered_by, answer_of, FitsRange}
use Rattle.whole_commands.proofs.Each.{Each, all_from, each_from, each_weaker}
use Rattle.whole_command_laws.proofs.Requests.{request_settles}
use Rattle.whole_commands.proofs.Chunks.{HasChunks, answer_keeps}

-- a live snapshot's store is in order
abbrev pub IsOrderly : ℕ → Snap → Type 0
IsOrderly sectors s = s.live ≡ true → (size : ℕ) × IsInOrder s.chunk sectors size s.store.bytes

-- a piece that lies inside the origin and inside one chunk
pub record IsInside (sectors chunk : ℕ) (piece : Span) : Type 0 where
  pub one : IsInOneChunk chunk piece
  pub inside : piece.first + piece.count ≤ sectors
  pub ends : piece.first + piece.count ≤ piece.size

-- At rest, over an origin of so many sectors, each snapshot with chunks of so many or more.
pub record IsWell (sectors chunk : ℕ) (v : Volume) : Type 0 where
  pub moving : Moving
  pub rest : IsAtRest sectors moving
  pub is : volume_of moving ≡ v
  pub chunks : Each (HasChunks chunk) v.snaps

orders_of : (sectors : ℕ) (hs : List SnapHeld) → Each (IsResting sectors) hs → Each (IsOrderly sectors) (map (λ (h : SnapHeld). h.snap) hs)
orders_of sectors [] all = tt
orders_of sectors (h ∷ hs) all = (λ live. (all.0.live live).order, orders_of sectors hs all.1)

-- a piece lies inside one chunk of as many sectors or more
pub one_chunk : (chunk c : ℕ) (piece : Span) → is_chunk chunk ≡ true → (is_chunk c ≡ true) × (chunk ≤ c) → IsInOneChunk chunk piece → piece.first + piece.count ≤ c * (piece.first / c) + c
one_chunk chunk c piece ok has one = wider chunk c piece.first piece.count ok has.0 has.1 (piece_high chunk piece.first piece.count (is_chunk-some chunk ok) one.some one.one)

-- and from where it begins in it, not past its end
pub room_in : (chunk c : ℕ) (piece : Span) → is_chunk chunk ≡ true → (is_chunk c ≡ true) × (chunk ≤ c) → IsInOneChunk chunk piece → piece.first % c + piece.count ≤ c
room_in chunk c piece ok has one = (let high = one_chunk chunk c piece ok has one in let at : c * (piece.first / c) + piece.first % c ≡ piece.first = omega arith in omega (arith, high, at))

-- and inside one of each snapshot
pub one_each : (chunk : ℕ) (piece : Span) (snaps : List Snap) → is_chunk chunk ≡ true → IsInOneChunk chunk piece → Each (HasChunks chunk) snaps → Each (λ (s : Snap). piece.first + piece.count ≤ s.chunk * (piece.first / s.chunk) + s.chunk) snaps
one_each chunk piece snaps ok one all = each_weaker (HasChunks chunk) (λ (s : Snap). piece.first + piece.count ≤ s.chunk * (piece.first / s.chunk) + s.chunk) snaps (λ s has. one_chunk chunk s.chunk piece ok has one) all

module _ (sectors chunk : ℕ) (ok : is_chunk chunk ≡ true) where
  pub well_orders : (v : Volume) → IsWell sectors chunk v → Each (IsOrderly sectors) v.snaps
  well_orders v well = subst (λ (w : Volume). Each (IsOrderly sectors) w.snaps) well.is (orders_of sectors well.moving.snaps (each_from (IsResting sectors) well.moving.snaps well.rest.snaps))

  pub well_whole : (v : Volume) → IsWell sectors chunk v → length v.origin.bytes ≡ 512 * sectors
  well_whole v well = ap (λ (w : Volume). length w.origin.bytes) (sym well.is) ∙ well.rest.whole

  -- a piece lies inside one chunk of each snapshot
  pub one_all : (range : Range) (snaps : List SnapHeld) → IsInOneChunk chunk (span_of range) → Each (HasChunks chunk) (map (λ (h : SnapHeld). h.snap) snaps) → Each (IsInChunk range) snaps
  one_all range [] one all = tt
  one_all range (h ∷ snaps) one all =
      (one_chunk chunk h.snap.chunk (span_of range) ok all.0 one, one_all range snaps one all.1)

  -- after one piece it is at rest again
  pub well_after : (dev : Dev) (op : Op) (piece : Span) (v : Volume) → IsWell sectors chunk v → IsInside sectors chunk piece → FitsRange op piece.count → IsWell sectors chunk (answered_by dev op piece v).state
  well_after dev op piece v well fits bytes =
      let range : Range = record { first = piece.first; count = piece.count; size = piece.size; inside = fits.ends } in
      let request : Request = record { dev = dev; op = op; range = range } in
      let chunks : Each (HasChunks chunk) (map (λ (h : SnapHeld). h.snap) well.moving.snaps) = subst (λ (w : Volume). Each (HasChunks chunk) w.snaps) (sym well.is) well.chunks in
      let fit : IsFit sectors well.moving.snaps request = record { some = fits.one.some; inside = fits.inside; bytes = bytes; chunks = all_from (IsInChunk range) well.moving.snaps (one_all range well.moving.snaps fits.one chunks) } in
      let to : SettlesTo sectors (submitted 0 request well.moving) (answer_of request (volume_of well.moving)) = request_settles sectors 0 request well.moving well.rest fit in
      let mk : _ → List Snap → Volume = λ o (ss : List Snap). record { origin = o; snaps = ss } in
      let last : volume_of to.last ≡ (answered_by dev op piece (volume_of well.moving)).state = ap (λ o. mk o (volume_of to.last).snaps) to.origin ∙ ap (mk (answer_of request (volume_of well.moving)).state.origin) to.snaps in
      record {
        moving = to.last;
        rest = to.rest;
        is = last ∙ ap (λ (w : Volume). (answered_by dev op piece w).state) well.is;
        chunks = answer_keeps chunk dev op piece v well.chunks;
      }

  -- pieces that join to a span lie inside
  pub inside_joined : (a b size : ℕ) (pieces : List Span) → Join a b pieces → Each (IsInOneChunk chunk) pieces → Each (λ (p : Span). p.size ≡ size) pieces → b ≤ sectors → b ≤ size → Each (IsInside sectors chunk) pieces
  inside_joined a b size [] join one sizes inside ends = tt
  inside_joined a b size (p ∷ pieces) join one sizes inside ends =
      let le : a + p.count ≤ b = join_le (a + p.count) b pieces join.1 in
      let start : p.first ≡ a = join.0 in
      let same : p.size ≡ size = sizes.0 in
      (record { one = one.0; inside = omega arith; ends = omega arith }, inside_joined (a + p.count) b size pieces join.1 one.1 sizes.1 inside ends)
