-- A write of pieces of a volume at rest is one of plain arrays.
use Rattle.std.proofs.Common.{◌≡◌, ◌≢◌, inl, inr, ℕ, suc, ◌+◌, ◌*◌, ◌/◌, ◌<◌, ◌≤◌, Bool, true, false, List, [], ◌∷◌, ◌++◌, length, take, drop, map, arith, refl, ap, ◌∙◌, sym, subst, length-take, length-drop}
use Rattle.std.specs.Prelude.{◌==◌, if◌then◌else◌, Option}
use Rattle.std.proofs.Math.Seq.{take-add}
use Rattle.std.proofs.lemmas.Bool.{cases_Bool, cond-true, cond-false}
use Rattle.sector.specs.Bytes.{with_sectors}
use Rattle.sector.specs.declared.range.Range.{Range}
use Rattle.device.specs.declared.operation.Operation.TheVariants.{Writes}
use Rattle.chunk.specs.Sizes.{is_chunk}
use Rattle.chunk.specs.Pieces.{Span, Join}
use Rattle.cow_format.specs.Picture.{picture}
use Rattle.cow_format.proofs.Pictures.{length-picture}
use Rattle.plain_machine.specs.Plain.{Saved, Live, Invalid, Entry, marked_in, overflow_under, Shown}
use Rattle.plain_machine.specs.declared.request.Dev.{Dev}
use Rattle.plain_machine.specs.declared.request.Dev.TheVariants.{Origin, Snap as ToSnap}
use Rattle.plain_machine.specs.declared.request.Overflowing.{Overflowing}
use Rattle.plain_machine.specs.declared.request.Overflowing.TheVariants.{Never, May, Did}
use Rattle.plain_machine.specs.declared.request.Op.TheVariants.{Write}
use Rattle.plain_machine.specs.declared.request.Reply.{Reply}
use Rattle.plain_machine.specs.declared.request.Reply.TheVariants.{Data, Written, Flushed, Refused}
use Rattle.plain_machine.specs.declared.request.Failure.TheVariants.{Invalid as Declined, Io, Overflow}
use Rattle.whole_commands.specs.Devices.{Device, answers}
use Rattle.whole_commands.specs.Snaps.{Snap, Volume}
use Rattle.whole_commands.specs.Shown.{ShowTheSame}
use Rattle.whole_commands.specs.Saving.{save}
use Rattle.whole_commands.specs.Pieces.{Answered, save_all, write_origin, write_snap, in_snap}
use Rattle.whole_commands.specs.Commands.{write_piece, write_pieces, go_on}
use Rattle.event_machine.specs.Held.{SnapHeld}
use Rattle.whole_commands.proofs.Each.{Each}
use Rattle.whole_commands.proofs.Chunks.{HasChunks}
use Rattle.whole_command_laws.proofs.Shown.{origin_write_shows}
use Rattle.whole_commands.proofs.SavedBytes.{save_all_bytes}
use Rattle.volume_commands.specs.Showing.{entry_of, arrays_of, saved_at, saved_of, with_bytes, IsLive, IsOpen, AreKept, IsWritten, IsWrittenInPart, IsOverflown, IsLost, sectors_in}
use Rattle.volume_commands.proofs.Rests.{IsInside, IsWell, one_all, well_orders, well_whole, well_after}
use Rattle.volume_commands.proofs.Overflows.{save_overflow}
use Rattle.volume_commands.proofs.Parts.{with_sectors_none, overflow_changed, marked_again, written_none, written_more, lost_more}
use Rattle.volume_commands.proofs.SnapWrites.{save_number, AreShownBy, in_stays, in_written}

-- a write found the full store of its snapshot, which is marked: it may overflow, or did before
abbrev pub IsMarked : Dev → Shown → Shown → Type 0
IsMarked Origin old new = ⊥
IsMarked (ToSnap number) old new = (overflow_under number old.saved ≢ Never) × (new.origin ≡ old.origin) × (new.saved ≡ marked_in number old.saved) × (new.begun ≡ old.begun)

-- what is shown after a write of one piece
abbrev pub IsPieceShown : Dev → ℕ → List ℕ → Shown → Shown → Reply → Type 0
IsPieceShown dev first part old new (Data bytes) = ⊥
IsPieceShown dev first part old new Flushed = ⊥
IsPieceShown dev first part old new Written = IsLive dev old × IsOpen dev old × IsWritten dev first part old new
IsPieceShown dev first part old new (Refused Declined) = IsLost dev old new
IsPieceShown dev first part old new (Refused Io) = IsLive dev old × IsWritten dev first [] old new
IsPieceShown dev first part old new (Refused Overflow) = IsLive dev old × IsMarked dev old new

-- snapshots that show the same where they are live
pub kept_saved : (first : ℕ) (before after : List ℕ) (origin : Device) (snaps : List Snap) → ShowTheSame before after snaps (save_all first origin snaps).snaps → AreKept (map (entry_of before) snaps) (map (entry_of after) (save_all first origin snaps).snaps)
kept_saved first before after origin [] same = tt
kept_saved first before after origin (s ∷ snaps) same =
    let t : Snap = (save (first / s.chunk) origin s).snap in (
      save_number (first / s.chunk) origin s,
      save_overflow (first / s.chunk) origin s,
      elim (cases_Bool t.live) [ inl live ↦ inl (same.0 live) | inr out ↦ inr (cond-false _ _ _ out) ],
      kept_saved first before after (save (first / s.chunk) origin s).origin snaps same.1,
    )

-- each array is as long as the origin's
array_long : (number : ℕ) (origin array : List ℕ) (snaps : List Snap) → saved_at number (map (entry_of origin) snaps) ≡ Live array → length array ≡ length origin
array_long number origin array [] live = absurd (cc)
array_long number origin array (s ∷ snaps) live = elim (cases_Bool (s.number == number)) [
  | inl this ↦ at_live s.live (picture s.chunk origin s.store.bytes) (length-picture s.chunk origin s.store.bytes) (sym (cond-true _ _ _ this) ∙ live)
  | inr other ↦ array_long number origin array snaps (sym (cond-false _ _ _ other) ∙ live)
]
  where
    back : Saved → List ℕ
    back (Live xs) = xs
    back Invalid = []

    at_live : (b : Bool) (pic : List ℕ) → length pic ≡ length origin → (if b then Live pic else Invalid) ≡ Live array → length array ≡ length origin
    at_live true pic len e = ap (λ (s : Saved). length (back s)) (sym e) ∙ len
    at_live false pic len e = absurd (cc)

dev_long : (dev : Dev) (array : List ℕ) (v : Volume) → saved_of dev (arrays_of v) ≡ Live array → length array ≡ length v.origin.bytes
dev_long Origin array v live = ap (λ (s : Saved). length (back s)) (sym live)
  where
    back : Saved → List ℕ
    back (Live xs) = xs
    back Invalid = []
dev_long (ToSnap number) array v live = array_long number v.origin.bytes array v.snaps live

module _ (sectors chunk : ℕ) (ok : is_chunk chunk ≡ true) where
  origin_shown : (piece : Span) (part : List ℕ) (v : Volume) → IsWell sectors chunk v → IsInside sectors chunk piece → length part ≡ 512 * piece.count → IsPieceShown Origin piece.first part (arrays_of v) (arrays_of (write_origin piece part v).state) (write_origin piece part v).reply
  origin_shown piece part v well fits len =
      let range : Range = record { first = piece.first; count = piece.count; size = piece.size; inside = fits.ends } in
      let chunks : Each (HasChunks chunk) (map (λ (h : SnapHeld). h.snap) well.moving.snaps) = subst (λ (w : Volume). Each (HasChunks chunk) w.snaps) (sym well.is) well.chunks in
      let all : Volume = save_all piece.first v.origin v.snaps in
      let saved : all.origin.bytes ≡ v.origin.bytes = save_all_bytes piece.first v.origin v.snaps in
      let after : List ℕ = (write_origin piece part v).state.origin.bytes in
      let same : ShowTheSame v.origin.bytes after v.snaps (write_origin piece part v).state.snaps =
      subst (λ (w : Volume). ShowTheSame w.origin.bytes (write_origin piece part w).state.origin.bytes w.snaps (write_origin piece part w).state.snaps) well.is
      (origin_write_shows sectors piece part fits.one.some fits.inside len well.moving well.rest (one_all sectors chunk ok range well.moving.snaps fits.one chunks)) in
      let kept : AreKept (arrays_of v).saved (arrays_of (write_origin piece part v).state).saved = kept_saved piece.first v.origin.bytes after v.origin v.snaps same in
      elim (cases_Bool (answers all.origin (Writes piece.first piece.count))) [
        | inl ok ↦ (let now : after ≡ with_sectors v.origin.bytes piece.first part = cond-true _ _ _ ok ∙ ap (λ (b : List ℕ). with_sectors b piece.first part) saved in
            subst (IsPieceShown Origin piece.first part (arrays_of v) (arrays_of (write_origin piece part v).state)) (sym (cond-true _ _ _ ok)) ((v.origin.bytes, refl), tt, (now, kept, refl)))
        | inr failed ↦ (let now : after ≡ v.origin.bytes = cond-false _ _ _ failed ∙ saved in
            subst (IsPieceShown Origin piece.first part (arrays_of v) (arrays_of (write_origin piece part v).state)) (sym (cond-false _ _ _ failed)) ((v.origin.bytes, refl), (now ∙ sym (with_sectors_none v.origin.bytes piece.first), kept, refl)))
      ]

  -- a piece of a snapshot, by what all of them show
  as_shown : (number : ℕ) (piece : Span) (part : List ℕ) (old new : Shown) (reply : Reply) → new.origin ≡ old.origin → new.begun ≡ old.begun → AreShownBy number piece part old.saved new.saved reply → IsPieceShown (ToSnap number) piece.first part old new reply
  as_shown number piece part old new (Data bytes) same begun by = by
  as_shown number piece part old new Flushed same begun by = by
  as_shown number piece part old new Written same begun by = (by.0, by.1, (same, by.2, begun))
  as_shown number piece part old new (Refused Declined) same begun by = (same, by, begun)
  as_shown number piece part old new (Refused Io) same begun by = (by.0, (same, by.1 ∙ (written_none (ToSnap number) piece.first old).1, begun))
  as_shown number piece part old new (Refused Overflow) same begun by = (by.0, (by.1, same, by.2, begun))

  piece_shown : (dev : Dev) (piece : Span) (part : List ℕ) (v : Volume) → IsWell sectors chunk v → IsInside sectors chunk piece → length part ≡ 512 * piece.count → IsPieceShown dev piece.first part (arrays_of v) (arrays_of (write_piece dev piece part v).state) (write_piece dev piece part v).reply
  piece_shown Origin piece part v well fits len = origin_shown piece part v well fits len
  piece_shown (ToSnap number) piece part v well fits len =
      let a : Answered Volume = in_snap number (write_snap piece part) v.origin v.snaps in
      let same : a.state.origin.bytes ≡ v.origin.bytes = in_stays number piece part v.origin v.snaps in
      as_shown number piece part (arrays_of v) (arrays_of a.state) a.reply same refl
      (subst (λ (b : List ℕ). AreShownBy number piece part (map (entry_of v.origin.bytes) v.snaps) (map (entry_of b) a.state.snaps) a.reply) (sym same)
      (in_written sectors chunk ok number piece part fits len v.origin v.snaps (well_whole sectors chunk ok v well) well.chunks (well_orders sectors chunk ok v well)))

-- what is shown after a write of pieces
abbrev pub AreWritten : Dev → ℕ → List Span → List ℕ → Shown → Shown → Reply → Type 0
AreWritten dev first pieces bytes old new (Data all) = ⊥
AreWritten dev first pieces bytes old new Flushed = ⊥
AreWritten dev first pieces bytes old new Written = (0 < length pieces → IsLive dev old × IsOpen dev old) × IsWritten dev first (take (512 * sectors_in pieces) bytes) old new
AreWritten dev first pieces bytes old new (Refused Declined) = IsLost dev old new
AreWritten dev first pieces bytes old new (Refused Io) = IsLive dev old × IsWrittenInPart dev first pieces bytes old new
AreWritten dev first pieces bytes old new (Refused Overflow) = IsLive dev old × IsOverflown dev first pieces bytes old new

-- the first of some pieces overflowed the store
overflown_first : (dev : Dev) (first : ℕ) (piece : Span) (pieces : List Span) (bytes : List ℕ) (old new : Shown) → IsMarked dev old new → IsOverflown dev first (piece ∷ pieces) bytes old new
overflown_first Origin first piece pieces bytes old new marked = absurd marked
overflown_first (ToSnap number) first piece pieces bytes old new marked = by (overflow_under number old.saved) refl
  where
    mk : List ℕ → List Entry → Shown
    mk origin saved = record { origin = origin; begun = old.begun; saved = saved }

    is : new ≡ mk old.origin (marked_in number old.saved)
    is = ap (λ (b : Option ℕ). let a : Shown = record { origin = new.origin; begun = b; saved = new.saved } in a) marked.3 ∙ ap (λ (o : List ℕ). mk o new.saved) marked.1 ∙ ap (mk old.origin) marked.2

    by : (o : Overflowing) → overflow_under number old.saved ≡ o → IsOverflown (ToSnap number) first (piece ∷ pieces) bytes old new
    by Never so = absurd (marked.0 so)
    by May so = inr (so, old, (0, omega arith, written_none (ToSnap number) first old), is)
    by Did so = inl (so, is ∙ ap (mk old.origin) (marked_again number old.saved so))

-- or a later one, after the first was written
overflown_later : (dev : Dev) (first next : ℕ) (piece : Span) (pieces : List Span) (part bytes tail : List ℕ) (old mid new : Shown) → IsOpen dev old → IsWritten dev first part old mid
    → ((end : Shown) (n : ℕ) → IsWritten dev next (take (512 * n) tail) mid end → IsWritten dev first (take (512 * (piece.count + n)) bytes) old end) → IsOverflown dev next pieces tail mid new → IsOverflown dev first (piece ∷ pieces) bytes old new
overflown_later Origin first next piece pieces part bytes tail old mid new free here join later = absurd later
overflown_later (ToSnap number) first next piece pieces part bytes tail old mid new free here join later =
    let same : overflow_under number mid.saved ≡ overflow_under number old.saved = ap (overflow_under number) here.1 ∙ overflow_changed number (with_bytes first part) old.saved in
    elim later [
      | inl did ↦ absurd (free (sym same ∙ did.0))
      | inr may ↦ inr (sym same ∙ may.0, may.1, (suc may.2.0, (let lt = may.2.1 in omega (arith, lt)), join may.1 (sectors_in (take may.2.0 pieces)) may.2.2), may.3)
    ]

module _ (dev : Dev) (piece : Span) (pieces : List Span) (bytes : List ℕ) (old mid : Shown) (room : 512 * piece.count ≤ length bytes) (fits : (array : List ℕ) → saved_of dev old ≡ Live array → 512 * piece.first ≤ length array) where
  -- these bytes, and then some of those after them
  join_more : IsWritten dev piece.first (take (512 * piece.count) bytes) old mid → (end : Shown) (n : ℕ) → IsWritten dev (piece.first + piece.count) (take (512 * n) (drop (512 * piece.count) bytes)) mid end → IsWritten dev piece.first (take (512 * (piece.count + n)) bytes) old end
  join_more here end n more =
      let len : length (take (512 * piece.count) bytes) ≡ 512 * piece.count = simp length-take (omega (arith, room)) in
      let is : take (512 * piece.count) bytes ++ take (512 * n) (drop (512 * piece.count) bytes) ≡ take (512 * (piece.count + n)) bytes = sym (take-add (512 * piece.count) (512 * n) bytes) ∙ ap (λ k. take k bytes) (omega arith) in
      subst (λ (b : List ℕ). IsWritten dev piece.first b old end) is (written_more dev piece.first piece.count (take (512 * piece.count) bytes) (take (512 * n) (drop (512 * piece.count) bytes)) old mid end len fits here more)

  pub write_more : (new : Shown) (reply : Reply) → IsLive dev old → IsOpen dev old → IsWritten dev piece.first (take (512 * piece.count) bytes) old mid
      → AreWritten dev (piece.first + piece.count) pieces (drop (512 * piece.count) bytes) mid new reply → AreWritten dev piece.first (piece ∷ pieces) bytes old new reply
  write_more new (Data all) live free here more = more
  write_more new Flushed live free here more = more
  write_more new Written live free here more = (λ some. (live, free), join_more here new (sectors_in pieces) more.1)
  write_more new (Refused Declined) live free here more = lost_more dev piece.first (take (512 * piece.count) bytes) old mid new here more
  write_more new (Refused Io) live free here more = (live, (suc more.1.0, (let lt = more.1.1 in omega (arith, lt)), join_more here new (sectors_in (take more.1.0 pieces)) more.1.2))
  write_more new (Refused Overflow) live free here more =
      (live, overflown_later dev piece.first (piece.first + piece.count) piece pieces (take (512 * piece.count) bytes) bytes (drop (512 * piece.count) bytes) old mid new free here (join_more here) more.1)

goes_write : (dev : Dev) (piece : Span) (pieces : List Span) (bytes : List ℕ) (old : Shown) (r : Reply) (here more : Answered Volume) → 512 * piece.count ≤ length bytes → ((array : List ℕ) → saved_of dev old ≡ Live array → 512 * piece.first ≤ length array) → here.reply ≡ r
    → IsPieceShown dev piece.first (take (512 * piece.count) bytes) old (arrays_of here.state) r → AreWritten dev (piece.first + piece.count) pieces (drop (512 * piece.count) bytes) (arrays_of here.state) (arrays_of more.state) more.reply
    → AreWritten dev piece.first (piece ∷ pieces) bytes old (arrays_of (go_on r here more).state) (go_on r here more).reply
goes_write dev piece pieces bytes old (Data all) here more room fits is shows rest = absurd shows
goes_write dev piece pieces bytes old Flushed here more room fits is shows rest = absurd shows
goes_write dev piece pieces bytes old Written here more room fits is shows rest = write_more dev piece pieces bytes old (arrays_of here.state) room fits (arrays_of more.state) more.reply shows.0 shows.1 shows.2 rest
goes_write dev piece pieces bytes old (Refused Declined) here more room fits is shows rest = subst (AreWritten dev piece.first (piece ∷ pieces) bytes old (arrays_of here.state)) (sym is) shows
goes_write dev piece pieces bytes old (Refused Io) here more room fits is shows rest = subst (AreWritten dev piece.first (piece ∷ pieces) bytes old (arrays_of here.state)) (sym is) (shows.0, (0, omega arith, shows.1))
goes_write dev piece pieces bytes old (Refused Overflow) here more room fits is shows rest =
    subst (AreWritten dev piece.first (piece ∷ pieces) bytes old (arrays_of here.state)) (sym is) (shows.0, overflown_first dev piece.first piece pieces bytes old (arrays_of here.state) shows.1)

module _ (sectors chunk : ℕ) (ok : is_chunk chunk ≡ true) where
  pub pieces_written : (dev : Dev) (first b : ℕ) (pieces : List Span) (bytes : List ℕ) (v : Volume) → IsWell sectors chunk v → Each (IsInside sectors chunk) pieces → Join first b pieces → 512 * sectors_in pieces ≤ length bytes
      → AreWritten dev first pieces bytes (arrays_of v) (arrays_of (write_pieces dev pieces bytes v).state) (write_pieces dev pieces bytes v).reply
  pieces_written dev first b [] bytes v well fits join room = (λ some. absurd (omega arith), written_none dev first (arrays_of v))
  pieces_written dev first b (piece ∷ pieces) bytes v well fits join room =
      let part : List ℕ = take (512 * piece.count) bytes in
      let tail : List ℕ = drop (512 * piece.count) bytes in
      let here : Answered Volume = write_piece dev piece part v in
      let len : length part ≡ 512 * piece.count = simp length-take (omega (arith, room)) in
      let back : 512 * sectors_in pieces ≤ length tail = simp length-drop (omega (arith, room)) in
      let whole = well_whole sectors chunk ok v well in
      let low : (array : List ℕ) → saved_of dev (arrays_of v) ≡ Live array → 512 * piece.first ≤ length array =
      λ array live. (let long = dev_long dev array v live in let i = fits.0.inside in omega (arith, long, whole, i)) in
      let rest = pieces_written dev (first + piece.count) b pieces tail here.state (well_after sectors chunk ok dev (Write part) piece v well fits.0 len) fits.1 join.1 back in
      subst (λ (x : ℕ). AreWritten dev x (piece ∷ pieces) bytes (arrays_of v) (arrays_of (write_pieces dev (piece ∷ pieces) bytes v).state) (write_pieces dev (piece ∷ pieces) bytes v).reply) join.0
      (goes_write dev piece pieces bytes (arrays_of v) here.reply here (write_pieces dev pieces tail here.state) (omega (arith, room)) low refl (piece_shown sectors chunk ok dev piece part v well fits.0 len)
      (subst (λ (x : ℕ). AreWritten dev (x + piece.count) pieces tail (arrays_of here.state) (arrays_of (write_pieces dev pieces tail here.state).state) (write_pieces dev pieces tail here.state).reply) (sym join.0) rest))
