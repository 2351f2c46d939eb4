-- A command between two of its pieces.
use Rattle.std.proofs.Common.{◌≡◌, ℕ, ◌+◌, ◌-◌, ◌*◌, ◌/◌, ◌<◌, ◌≤◌, true, List, [], ◌∷◌, map, Option, Some, None, refl, ap, sym, ◌∙◌, subst, arith}
use Rattle.std.specs.Prelude.{min}
use Rattle.std.specs.List.{All}
use Rattle.std.proofs.lemmas.List.Elements.{All-nil, All-cons, All-head, All-tail}
use Rattle.sector.specs.declared.range.Range.{Range}
use Rattle.device.specs.Layers.{Layer}
use Rattle.chunk.specs.Sizes.{is_chunk}
use Rattle.chunk.specs.Pieces.{span_of}
use Rattle.plain_machine.specs.declared.request.Dev.{Dev}
use Rattle.plain_machine.specs.declared.request.Op.{Op}
use Rattle.chunk.proofs.Runs.{IsFirstPiece}
use Rattle.whole_commands.specs.Commands.{piece_of as least_of}
use Rattle.whole_commands.specs.Requests.{FitsRange}
use Rattle.snapshot.specs.Kept.{Kept}
use Rattle.merge.specs.Merging.{Merging}
use Rattle.event_machine.specs.MergeRest.{merge_in}
use Rattle.event_machine.specs.MergeSeen.{held_in}
use Rattle.whole_commands.specs.Beside.{chunk_by, chunk_beside}
use Rattle.volume.specs.Moved.{merge_seen}
use Rattle.volume.specs.Volumed.{Volumed, piece_of, piece_with}
use Rattle.volume_commands.specs.Rested.{attached_of, rested_of, snap_of, settled_of, merged_of, IsSettled}
use Rattle.volume_commands.specs.Kept.{KeepsDevices}
use Rattle.volume_commands.specs.Between.{IsBetween}
use Rattle.volume_commands.specs.Serving.{CanServe, CanAsk, IsAsLarge}
use Rattle.volume_commands.proofs.Seen.{devices_none, devices_more, size_kept, dev_kept, snap_chunks_kept}

-- chunks that have the sizes that they had
all_chunks : {B : Type 0} (chunk : ℕ) (xs ys : List (Kept B)) → map (λ (s : Kept B). s.state.chunk) xs ≡ map (λ (s : Kept B). s.state.chunk) ys → All (IsAsLarge chunk) ys → All (IsAsLarge chunk) xs
all_chunks chunk [] ys e all = All-nil (IsAsLarge chunk)
all_chunks chunk (x ∷ xs) [] e all = absurd (cc)
all_chunks {B} chunk (x ∷ xs) (y ∷ ys) e all =
    let head : x.state.chunk ≡ y.state.chunk = cc in
    let tail : map (λ (s : Kept B). s.state.chunk) xs ≡ map (λ (s : Kept B). s.state.chunk) ys = cc in
    All-cons (IsAsLarge chunk) x xs (subst (λ (n : ℕ). (is_chunk n ≡ true) × (chunk ≤ n)) (sym head) (All-head (IsAsLarge chunk) y ys all)) (all_chunks chunk xs ys tail (All-tail (IsAsLarge chunk) y ys all))

-- pieces of the settled machine are those of the volume
piece_least : {B : Type 0} (contents : B → List ℕ) (layers : B → List Layer) (xs : List (Kept B)) → least_of (map (snap_of contents layers) (map attached_of xs)) ≡ piece_of xs
piece_least contents layers [] = refl
piece_least contents layers (x ∷ xs) = ap (min x.state.chunk) (piece_least contents layers xs)

-- whether a merge is begun or not
pub chunk_least : {B : Type 0} (contents : B → List ℕ) (layers : B → List Layer) (v : Volumed B) → chunk_beside (merged_of contents layers (rested_of v)) ≡ piece_with v.merge v.snaps
chunk_least {B} contents layers v = by v.merge
  where
    by : (m : Option (Merging B)) → chunk_by (merge_in (held_in (merge_seen contents layers m))) (settled_of contents layers (rested_of v)) ≡ piece_with m v.snaps
    by None = piece_least contents layers v.snaps
    by (Some m) = ap (min m.state.chunk) (piece_least contents layers v.snaps)

-- what a volume says of its pieces
pub chunks_by : {B : Type 0} (v : Volumed B) (n : ℕ) → n ≡ piece_with v.merge v.snaps → All (IsAsLarge n) v.snaps → is_chunk n ≡ true → All (IsAsLarge (piece_with v.merge v.snaps)) v.snaps × (is_chunk (piece_with v.merge v.snaps) ≡ true)
chunks_by {B} v n is all allowed = (subst (λ (m : ℕ). All (IsAsLarge m) v.snaps) is all, subst (λ (m : ℕ). is_chunk m ≡ true) is allowed)

-- So far, from byte `from` of the command on: what holds between two commands, and how many numbers were given.
pub record GoesSo {B : Type 0} (contents : B → List ℕ) (layers : B → List Layer) (size : B → ℕ) (from : ℕ) (old new : Volumed B) : Type 0 where
  pub between : IsBetween new
  pub kept : KeepsDevices layers size (rested_of old) (rested_of new)
  pub settled : IsSettled layers (rested_of old) → IsSettled layers (rested_of new)
  pub piece : piece_with new.merge new.snaps ≡ piece_with old.merge old.snaps
  pub requests : 512 * new.requests ≤ 512 * old.requests + from

module _ {B : Type 0} (contents : B → List ℕ) (layers : B → List Layer) (size : B → ℕ) where
  pub goes_none : (v : Volumed B) → IsBetween v → GoesSo contents layers size 0 v v
  goes_none v between = record { between = between; kept = devices_none size layers (rested_of v); settled = λ s. s; piece = refl; requests = omega arith }

  -- the next piece can be served
  pub goes_can : (dev : Dev) (op : Op) (range piece : Range) (from : ℕ) (old new : Volumed B) → CanAsk size dev range old → GoesSo contents layers size from old new
      → is_chunk (piece_with old.merge old.snaps) ≡ true → All (IsAsLarge (piece_with old.merge old.snaps)) old.snaps
      → IsFirstPiece (piece_with old.merge old.snaps) range.first (range.first + range.count) from (span_of piece) → FitsRange op piece.count → CanServe size dev op piece new
  goes_can dev op range piece from old new can so chunk all is bytes =
      let same : piece_with new.merge new.snaps ≡ piece_with old.merge old.snaps = so.piece in
      let origin : size new.origin ≡ size old.origin = size_kept size layers (rested_of old) (rested_of new) so.kept in
      record {
        there = dev_kept size layers dev (rested_of old) (rested_of new) so.kept ∙ can.there;
        some = is.some;
        inside = omega (arith, is.end, can.inside, origin);
        one = subst (λ (n : ℕ). (piece.first + piece.count - 1) / n ≡ piece.first / n) (sym same) is.one;
        bytes = bytes;
        allowed = subst (λ (n : ℕ). is_chunk n ≡ true) (sym same) chunk;
        chunks = subst (λ (n : ℕ). All (IsAsLarge n) new.snaps) (sym same) (all_chunks (piece_with old.merge old.snaps) new.snaps old.snaps (snap_chunks_kept size layers old new so.kept) all);
        requests = omega (arith, so.requests, can.requests, is.bytes);
      }

  -- one piece more
  pub goes_more : (from count : ℕ) (old v new : Volumed B) → GoesSo contents layers size from old v → IsBetween new → KeepsDevices layers size (rested_of v) (rested_of new)
      → (IsSettled layers (rested_of v) → IsSettled layers (rested_of new)) → piece_with new.merge new.snaps ≡ piece_with v.merge v.snaps → new.requests ≤ v.requests + 1 → 0 < count → GoesSo contents layers size (from + count * 512) old new
  goes_more from count old v new so between kept settled piece requests some = record {
    between = between;
    kept = devices_more size layers (rested_of old) (rested_of v) (rested_of new) so.kept kept;
    settled = λ s. settled (so.settled s);
    piece = piece ∙ so.piece;
    requests = omega (arith, so.requests, requests, some);
  }

  -- as many numbers at most as there are sectors
  pub goes_within : (from count : ℕ) (old new : Volumed B) → GoesSo contents layers size from old new → from ≤ 512 * count → new.requests ≤ old.requests + count
  goes_within from count old new so le = omega (arith, so.requests, le)
