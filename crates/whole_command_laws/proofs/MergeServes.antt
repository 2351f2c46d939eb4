-- The origin is read and written while a merge is begun, one piece at a time.
use Rattle.std.proofs.Common.{◌≡◌, inl, inr, ℕ, ◌+◌, ◌*◌, ◌/◌, ◌%◌, ◌<◌, ◌≤◌, Bool, true, false, List, length, arith, refl, ap, ◌∙◌, sym, subst}
use Rattle.std.specs.Prelude.{if◌then◌else◌, Option, Some, None}
use Rattle.std.proofs.lemmas.Bool.{cases_Bool, cond-true, cond-false}
use Rattle.sector.specs.Bytes.{sectors_at, with_sectors}
use Rattle.sector.specs.declared.pair.Pair.{Pair}
use Rattle.sector.proofs.Sectors.{length-with_sectors, byte_outside}
use Rattle.device.specs.declared.operation.Operation.{Operation}
use Rattle.device.specs.declared.operation.Operation.TheVariants.{Reads, Writes, Flushes}
use Rattle.chunk.specs.Sizes.{is_chunk}
use Rattle.chunk.specs.Pieces.{Span}
use Rattle.plain_machine.specs.declared.request.Dev.TheVariants.{Origin}
use Rattle.plain_machine.specs.declared.request.Op.TheVariants.{Write}
use Rattle.plain_machine.specs.declared.request.Reply.TheVariants.{Data, Written, Refused}
use Rattle.plain_machine.specs.declared.request.Failure.TheVariants.{Io}
use Rattle.cow_format.specs.Places.{is_area_place, ChangesOnly}
use Rattle.cow_format.specs.Pairs.{pairs_of, IsInside, AreWellFormed}
use Rattle.cow_format.specs.Picture.{place_of, picture}
use Rattle.cow_format.proofs.Slots.{changes_only, pairs-outside}
use Rattle.whole_commands.proofs.PictureSectors.{shown_plain, shown_copied}
use Rattle.volume_laws.specs.Steps.{WritesDisk}
use Rattle.volume_laws.proofs.Pairs.{place_of-All}
use Rattle.volume_laws.proofs.PlaceWrites.{picture_placed, picture_disk}
use Rattle.whole_commands.specs.Devices.{answers, met, written_by}
use Rattle.whole_commands.specs.Snaps.{Snap, Volume}
use Rattle.whole_commands.specs.Pieces.{save_all, Answered}
use Rattle.whole_commands.specs.Shown.{ShowTheSame}
use Rattle.whole_commands.specs.Merges.{Merge, Merging, pairs_in, with_store, with_origin, sector_in, write_at, read_at, place_in, write_part, read_part, flush_through}
use Rattle.whole_commands.specs.MergeShown.{IsWell, IsMerging, IsUnseen, shown_through}
use Rattle.whole_commands.proofs.Each.{Each, each_from, all_from}
use Rattle.whole_commands.proofs.Chunks.{OfChunks, chunks_keep}
use Rattle.whole_commands.proofs.SavedBytes.{save_all_bytes}
use Rattle.whole_command_laws.proofs.MergeSaves.{IsInOne, all_well, all_shown, show_same}
use Rattle.whole_command_laws.proofs.MergeShows.{unseen_still}

-- A write of the origin: where it is answered Written its bytes stand in what the origin shows, else nothing changes there;
-- each snapshot shows what it showed, while it is live.
pub record WritesThrough (sectors first : ℕ) (bytes : List ℕ) (m : Merging) (r : Answered Merging) : Type 0 where
  pub holds : IsMerging sectors r.state
  pub chunk : r.state.merge.chunk ≡ m.merge.chunk
  pub wrote : Bool
  pub reply : r.reply ≡ (if wrote then Written else Refused Io)
  pub origin : shown_through r.state ≡ (if wrote then with_sectors (shown_through m) first bytes else shown_through m)
  pub snaps : ShowTheSame m.volume.origin.bytes r.state.volume.origin.bytes m.volume.snaps r.state.volume.snaps

-- A read of the origin is not seen; it answers what the origin shows, or Io.
pub record ReadsThrough (sectors first count : ℕ) (m : Merging) (r : Answered Merging) : Type 0 where
  pub unseen : IsUnseen sectors m r.state
  pub done : Bool
  pub reply : r.reply ≡ (if done then Data (sectors_at (shown_through m) first count) else Refused Io)

-- one of two lists of bytes
either : (P : List ℕ → Type 0) (x y : List ℕ) (b : Bool) → P x → P y → P (if b then x else y)
either P x y true px py = px
either P x y false px py = py

either_is : (f : List ℕ → List ℕ) (x y z : List ℕ) (b : Bool) → f x ≡ z → f (if b then x else y) ≡ (if b then z else f y)
either_is f x y z true same = same
either_is f x y z false same = refl

-- at the place of its chunk in the store
module _ (sectors n : ℕ) (piece : Span) (m : Merging) (is : IsMerging sectors m) (some : 0 < piece.count) (inside : piece.first + piece.count ≤ sectors) (one : piece.first + piece.count ≤ m.merge.chunk * (piece.first / m.merge.chunk) + m.merge.chunk)
    (named : place_of (pairs_in m.merge) (piece.first / m.merge.chunk) ≡ Some n) where
  placed : (pair : Pair) × (pair.old ≡ piece.first / m.merge.chunk) × (pair.new ≡ n) × IsInside m.merge.chunk sectors is.merge.size pair
  placed = place_of-All (IsInside m.merge.chunk sectors is.merge.size) (pairs_in m.merge) (piece.first / m.merge.chunk) n is.merge.pairs.inside named

  place_room : m.merge.chunk * (n + 1) ≤ is.merge.size
  place_room = subst (λ x. m.merge.chunk * (x + 1) ≤ is.merge.size) placed.2 placed.3.new

  place_free : is_area_place m.merge.chunk n ≡ false
  place_free = ap (is_area_place m.merge.chunk) (sym placed.2) ∙ placed.3.free

  off_fits : piece.first % m.merge.chunk + piece.count ≤ m.merge.chunk
  off_fits = let at : piece.first ≡ m.merge.chunk * (piece.first / m.merge.chunk) + piece.first % m.merge.chunk = omega arith in omega arith

  read_copy : sectors_at m.merge.store.bytes (sector_in n piece m.merge) piece.count ≡ sectors_at (shown_through m) piece.first piece.count
  read_copy =
      let whole = is.whole in
      let long = is.merge.whole in
      let room = place_room in
      shown_copied m.merge.chunk piece.first piece.count n m.volume.origin.bytes m.merge.store.bytes is.merge.some named off_fits (omega arith) (omega arith)

  pub reads_copy : ReadsThrough sectors piece.first piece.count m (read_at (Some n) piece m)
  reads_copy = record {
    unseen = unseen_still sectors m (with_store m (met m.merge.store (Reads (sector_in n piece m.merge) piece.count))) is refl refl refl refl refl;
    done = answers m.merge.store (Reads (sector_in n piece m.merge) piece.count);
    reply = ap (λ b. if answers m.merge.store (Reads (sector_in n piece m.merge) piece.count) then Data b else Refused Io) read_copy;
  }

  module _ (bytes : List ℕ) (len : length bytes ≡ 512 * piece.count) where
    room_in : 512 * sector_in n piece m.merge + length bytes ≤ length m.merge.store.bytes
    room_in =
        let more : m.merge.chunk * (n + 1) ≡ m.merge.chunk * n + m.merge.chunk = grind arith in
        let long = is.merge.whole in
        let room = place_room in
        let fits = off_fits in
        omega arith

    over_only : ChangesOnly m.merge.chunk n m.merge.store.bytes (with_sectors m.merge.store.bytes (sector_in n piece m.merge) bytes)
    over_only =
        let room = room_in in
        let fits = off_fits in
        changes_only m.merge.chunk n (sector_in n piece m.merge) piece.count m.merge.store.bytes (with_sectors m.merge.store.bytes (sector_in n piece m.merge) bytes) (length-with_sectors m.merge.store.bytes (sector_in n piece m.merge) bytes room) (omega arith) (omega arith)
        (λ i out. byte_outside m.merge.store.bytes (sector_in n piece m.merge) bytes i room (elim out [ inl lo ↦ inl lo | inr hi ↦ inr (omega arith) ]))

    pub over_pairs : pairs_of m.merge.chunk (with_sectors m.merge.store.bytes (sector_in n piece m.merge) bytes) ≡ pairs_in m.merge
    over_pairs = pairs-outside m.merge.chunk n m.merge.store.bytes (with_sectors m.merge.store.bytes (sector_in n piece m.merge) bytes) is.merge.some place_free over_only

    over_picture : picture m.merge.chunk m.volume.origin.bytes (with_sectors m.merge.store.bytes (sector_in n piece m.merge) bytes) ≡ with_sectors (shown_through m) piece.first bytes
    over_picture =
        let whole = is.whole in
        let fits = off_fits in
        let at : m.merge.chunk * (piece.first / m.merge.chunk) + piece.first % m.merge.chunk ≡ piece.first = omega arith in
        picture_placed m.merge.chunk (piece.first / m.merge.chunk) n (piece.first % m.merge.chunk) piece.count m.volume.origin.bytes m.merge.store.bytes (with_sectors m.merge.store.bytes (sector_in n piece m.merge) bytes) bytes (pairs_in m.merge) is.merge.some is.merge.pairs.apart refl over_pairs named fits len room_in (omega arith) refl
        ∙ ap (λ x. with_sectors (shown_through m) x bytes) at

    pub writes_copy : WritesThrough sectors piece.first bytes m (write_at (Some n) piece bytes m)
    writes_copy =
        let op : Operation = Writes (sector_in n piece m.merge) piece.count in
        let new : List ℕ = with_sectors m.merge.store.bytes (sector_in n piece m.merge) bytes in
        let now : List ℕ = (written_by m.merge.store op new).bytes in
        let under : Merge = (with_store m (written_by m.merge.store op new)).merge in
        let both : (P : List ℕ → Type 0) → P new → P m.merge.store.bytes → P now = λ P px py. either P new m.merge.store.bytes (answers m.merge.store op) px py in
        let pairs : pairs_in under ≡ pairs_in m.merge = both (λ b. pairs_of m.merge.chunk b ≡ pairs_in m.merge) over_pairs refl in
        let count = ap length pairs in
        let low = is.merge.low in
        let high = is.merge.high in
        record {
          holds = record {
            whole = is.whole;
            merge = record {
              some = is.merge.some;
              size = is.merge.size;
              whole = both (λ b. length b ≡ 512 * is.merge.size) (over_only.len ∙ is.merge.whole) is.merge.whole;
              pairs = subst (AreWellFormed m.merge.chunk sectors is.merge.size) (sym pairs) is.merge.pairs;
              low = omega arith;
              high = omega arith;
            };
            snaps = is.snaps;
            allowed = is.allowed;
            chunks = is.chunks;
          };
          chunk = refl;
          wrote = answers m.merge.store op;
          reply = refl;
          origin = either_is (picture m.merge.chunk m.volume.origin.bytes) new m.merge.store.bytes (with_sectors (shown_through m) piece.first bytes) (answers m.merge.store op) over_picture;
          snaps = show_same m.volume.origin.bytes m.volume.snaps;
        }

-- at the origin disk
module _ (sectors : ℕ) (piece : Span) (m : Merging) (is : IsMerging sectors m) (some : 0 < piece.count) (inside : piece.first + piece.count ≤ sectors) (one : piece.first + piece.count ≤ m.merge.chunk * (piece.first / m.merge.chunk) + m.merge.chunk)
    (none : place_of (pairs_in m.merge) (piece.first / m.merge.chunk) ≡ None) where
  pub reads_disk : ReadsThrough sectors piece.first piece.count m (read_at None piece m)
  reads_disk =
      let whole = is.whole in
      let at : piece.first ≡ m.merge.chunk * (piece.first / m.merge.chunk) + piece.first % m.merge.chunk = omega arith in
      record {
        unseen = unseen_still sectors m (with_origin m (met m.volume.origin (Reads piece.first piece.count))) is refl refl refl refl refl;
        done = answers m.volume.origin (Reads piece.first piece.count);
        reply = ap (λ b. if answers m.volume.origin (Reads piece.first piece.count) then Data b else Refused Io)
            (shown_plain m.merge.chunk piece.first piece.count m.volume.origin.bytes m.merge.store.bytes is.merge.some none (omega arith) (omega arith));
      }

  pub writes_disk : Each (IsInOne piece.first piece.count) m.volume.snaps → (bytes : List ℕ) → length bytes ≡ 512 * piece.count → WritesThrough sectors piece.first bytes m (write_at None piece bytes m)
  writes_disk each bytes len =
      let whole = is.whole in
      let fits : 512 * piece.first + length bytes ≤ length m.volume.origin.bytes = omega arith in
      let r : Answered Merging = write_at None piece bytes m in
      let all : Volume = save_all piece.first m.volume.origin m.volume.snaps in
      let same : all.origin.bytes ≡ m.volume.origin.bytes = save_all_bytes piece.first m.volume.origin m.volume.snaps in
      let wrote : Bool = answers all.origin (Writes piece.first piece.count) in
      let new : List ℕ = with_sectors m.volume.origin.bytes piece.first bytes in
      let disk : r.state.volume.origin.bytes ≡ (if wrote then new else m.volume.origin.bytes) = ap (λ b. if wrote then with_sectors b piece.first bytes else b) same in
      let kept : length new ≡ length m.volume.origin.bytes = length-with_sectors m.volume.origin.bytes piece.first bytes fits in
      let HasSize : Snap → Type 0 = λ (s : Snap). is_chunk s.chunk ≡ true in
      let changed : WritesDisk piece.first piece.count m.volume.origin.bytes new = record { len = kept; rest = λ i out. byte_outside m.volume.origin.bytes piece.first bytes i fits (elim out [ inl lo ↦ inl lo | inr hi ↦ inr (omega arith) ]) } in
      let shows : picture m.merge.chunk new m.merge.store.bytes ≡ with_sectors (shown_through m) piece.first bytes =
      picture_disk m.merge.chunk piece.first piece.count m.volume.origin.bytes new m.merge.store.bytes bytes (pairs_in m.merge) is.merge.some refl none one len (omega arith) changed refl in
      record {
        holds = record {
          whole = ap length disk ∙ either (λ b. length b ≡ 512 * sectors) new m.volume.origin.bytes wrote (kept ∙ whole) whole;
          merge = is.merge;
          snaps = all_from (IsWell sectors) all.snaps (all_well sectors piece.first piece.count bytes some inside len m.volume.origin m.volume.snaps whole (each_from (IsWell sectors) m.volume.snaps is.snaps));
          allowed = is.allowed;
          chunks = all_from HasSize all.snaps (chunks_keep (λ n. is_chunk n ≡ true) Origin (Write bytes) piece m.volume (each_from HasSize m.volume.snaps is.chunks));
        };
        chunk = refl;
        wrote = wrote;
        reply = refl;
        origin = ap (λ b. picture m.merge.chunk b m.merge.store.bytes) disk ∙ either_is (λ b. picture m.merge.chunk b m.merge.store.bytes) new m.volume.origin.bytes (with_sectors (shown_through m) piece.first bytes) wrote shows;
        snaps = all_shown sectors piece.first piece.count bytes some inside len m.volume.origin m.volume.snaps r.state.volume.origin.bytes whole (each_from (IsWell sectors) m.volume.snaps is.snaps) each wrote disk;
      }

-- a piece of the origin inside one chunk of the merging store, and of each snapshot where it is written
module _ (sectors : ℕ) (piece : Span) (m : Merging) (is : IsMerging sectors m) (some : 0 < piece.count) (inside : piece.first + piece.count ≤ sectors) (one : piece.first + piece.count ≤ m.merge.chunk * (piece.first / m.merge.chunk) + m.merge.chunk) where
  pub writes_through : Each (IsInOne piece.first piece.count) m.volume.snaps → (bytes : List ℕ) → length bytes ≡ 512 * piece.count → WritesThrough sectors piece.first bytes m (write_part Origin piece bytes m)
  writes_through each bytes len = by_place (place_in piece.first m.merge) refl
    where
      by_place : (o : Option ℕ) → place_in piece.first m.merge ≡ o → WritesThrough sectors piece.first bytes m (write_at o piece bytes m)
      by_place None none = writes_disk sectors piece m is some inside one none each bytes len
      by_place (Some n) named = writes_copy sectors n piece m is some inside one named bytes len

  pub reads_through : ReadsThrough sectors piece.first piece.count m (read_part Origin piece m)
  reads_through = by_place (place_in piece.first m.merge) refl
    where
      by_place : (o : Option ℕ) → place_in piece.first m.merge ≡ o → ReadsThrough sectors piece.first piece.count m (read_at o piece m)
      by_place None none = reads_disk sectors piece m is some inside one none
      by_place (Some n) named = reads_copy sectors n piece m is some inside one named

-- a flush of the origin is not seen
pub flushes_through : (sectors : ℕ) (m : Merging) → IsMerging sectors m → IsUnseen sectors m (flush_through m).state
flushes_through sectors m is =
    let after : Merging = with_store m (met m.merge.store Flushes) in
    let both : Merging = with_origin after (met m.volume.origin Flushes) in
    elim (cases_Bool (answers m.merge.store Flushes)) [
      | inl ok ↦ subst (λ (r : Answered Merging). IsUnseen sectors m r.state) (sym (cond-true _ _ _ ok)) (unseen_still sectors m both is refl refl refl refl refl)
      | inr failed ↦ subst (λ (r : Answered Merging). IsUnseen sectors m r.state) (sym (cond-false _ _ _ failed)) (unseen_still sectors m after is refl refl refl refl refl)
    ]

-- a write keeps the sizes of chunks
pub part_keeps : (P : ℕ → Type 0) (piece : Span) (bytes : List ℕ) (m : Merging) → Each (OfChunks P) m.volume.snaps → Each (OfChunks P) (write_part Origin piece bytes m).state.volume.snaps
part_keeps P piece bytes m each = by_place (place_in piece.first m.merge)
  where
    by_place : (o : Option ℕ) → Each (OfChunks P) (write_at o piece bytes m).state.volume.snaps
    by_place None = chunks_keep P Origin (Write bytes) piece m.volume each
    by_place (Some n) = each
