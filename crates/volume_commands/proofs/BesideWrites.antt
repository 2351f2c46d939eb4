-- A write of many sectors of a settled volume is one of plain arrays, whether a merge is begun or not.
use Rattle.std.proofs.Common.{◌≡◌, inl, inr, ℕ, zero, suc, ◌+◌, ◌*◌, ◌/◌, ◌<◌, ◌≤◌, true, List, [], ◌∷◌, Option, Some, None, length, take, drop, arith, refl, ap, ◌∙◌, sym, subst, length-take, length-drop}
use Rattle.std.specs.List.{All}
use Rattle.std.proofs.lemmas.List.{take_all}
use Rattle.std.proofs.lemmas.Bool.{cases_Bool, cond-true, cond-false}
use Rattle.sector.specs.declared.range.Range.{Range}
use Rattle.sector.specs.declared.refusal.Refusal.{Refusal}
use Rattle.device.specs.Layers.{Layer}
use Rattle.chunk.specs.Sizes.{is_chunk}
use Rattle.chunk.specs.Pieces.{Span, span_of, Join, AreCutFrom, pieces_of}
use Rattle.chunk.proofs.Limits.{is_chunk-some}
use Rattle.chunk.proofs.Whole.{cut_pieces}
use Rattle.cow_format.proofs.Pictures.{length-picture}
use Rattle.plain_machine.specs.Plain.{Saved, Live, Invalid, Shown}
use Rattle.plain_machine.specs.declared.request.Dev.{Dev}
use Rattle.plain_machine.specs.declared.request.Dev.TheVariants.{Origin, Snap as ToSnap}
use Rattle.whole_commands.specs.Refusals.{is_starved}
use Rattle.whole_commands.proofs.Starved.{starved_by}
use Rattle.plain_machine.specs.declared.request.Op.TheVariants.{Write}
use Rattle.plain_machine.specs.declared.request.Reply.{Reply}
use Rattle.plain_machine.specs.declared.request.Reply.TheVariants.{Data, Written, Flushed, Refused}
use Rattle.plain_machine.specs.declared.request.Failure.{Failure}
use Rattle.plain_machine.specs.declared.request.Failure.TheVariants.{Invalid as Declined, Io, Overflow}
use Rattle.whole_commands.specs.Snaps.{Volume}
use Rattle.whole_commands.specs.Shown.{ShowTheSame}
use Rattle.whole_commands.specs.Pieces.{Answered}
use Rattle.whole_commands.specs.Commands.{write_piece, write_pieces, go_on}
use Rattle.whole_commands.proofs.Chunks.{HasChunks, answer_keeps}
use Rattle.whole_commands.proofs.Each.{Each}
use Rattle.whole_commands.specs.Beside.{chunk_beside, written_beside}
use Rattle.volume.specs.Volumed.{Volumed, piece_with}
use Rattle.volume.specs.Moved.{moving_of}
use Rattle.event_machine.specs.Held.{MergeHeld}
use Rattle.event_machine.specs.MergeRest.{IsBetween, in_big_steps}
use Rattle.whole_commands.specs.Merges.{Merge, Merged, Merging, merged_of as in_one, beside, write_at, write_part, write_parts, place_in}
use Rattle.whole_commands.specs.MergeShown.{IsMerging, array_of, shown_through}
use Rattle.volume_commands.specs.Rested.{rested_of, merged_of, IsSettled}
use Rattle.plain_machine.specs.Failures.{refusal_of}
use Rattle.volume_commands.specs.Commands.{IsDoneBy, IsWriteRefused}
use Rattle.volume_commands.specs.Serving.{IsAsLarge}
use Rattle.volume_commands.specs.Showing.{arrays_of, arrays_in, saved_of, AreKept, IsWritten, IsPlainWrite, IsPlainWriteRefused, IsWrittenInPart, pieces_for, sectors_in}
use Rattle.volume_commands.proofs.Shown.{arrays_by, arrays_with, seen}
use Rattle.volume_commands.proofs.Rests.{IsInside, IsWell, one_chunk, one_each}
use Rattle.volume_commands.proofs.Parts.{with_sectors_none, kept_none, written_none}
use Rattle.volume_commands.proofs.PlainReads.{missing_by, sectors_joined, has_pieces, settled_well, span_inside, IsUnder, under_by}
use Rattle.whole_command_laws.proofs.MergeServes.{WritesThrough, writes_through}
use Rattle.volume_commands.proofs.BesideReads.{with_merge}
use Rattle.volume_commands.proofs.WriteRuns.{answer, parts_written, served_parts}
use Rattle.volume_commands.proofs.Writing.{write_whole, write_first}
use Rattle.volume_commands.proofs.PlainWrites.{IsPieceShown, AreWritten, kept_saved, write_more, pieces_written}

-- some first pieces stand, where there was no room for all
written_starved : (dev : Dev) (span : Span) (pieces : List Span) (bytes : List ℕ) (refusal : Refusal) (old new : Shown) → is_starved refusal ≡ true → IsWrittenInPart dev span.first pieces bytes old new → IsPlainWriteRefused dev span pieces bytes refusal old new
written_starved dev span pieces bytes refusal old new starved part = elim (starved_by refusal starved) [
  | inl memory ↦ subst (λ (r : Refusal). IsPlainWriteRefused dev span pieces bytes r old new) (sym memory) part
  | inr full ↦ subst (λ (r : Refusal). IsPlainWriteRefused dev span pieces bytes r old new) (sym full) part
]

module _ (sectors chunk : ℕ) (ok : is_chunk chunk ≡ true) where
  -- one piece of the origin beside a merge
  module _ (piece : Span) (part : List ℕ) (m : Merging) (is : IsMerging sectors m) (wide : chunk ≤ m.merge.chunk) (each : Each (HasChunks chunk) m.volume.snaps) (fits : IsInside sectors chunk piece) (len : length part ≡ 512 * piece.count) where
    abbrev Shows : Answered Merging → Type 0
    Shows r = ShowTheSame m.volume.origin.bytes r.state.volume.origin.bytes m.volume.snaps r.state.volume.snaps

    kept_at : (o : Option ℕ) → Shows (write_at o piece part m) → AreKept (arrays_with (in_one m)).saved (arrays_with (in_one (write_at o piece part m).state)).saved
    kept_at None shows = kept_saved piece.first m.volume.origin.bytes (write_at None piece part m).state.volume.origin.bytes m.volume.origin m.volume.snaps shows
    kept_at (Some n) shows = kept_none (arrays_with (in_one m)).saved

    begun_at : (o : Option ℕ) → (arrays_with (in_one (write_at o piece part m).state)).begun ≡ (arrays_with (in_one m)).begun
    begun_at None = refl
    begun_at (Some n) = refl

    one_through : WritesThrough sectors piece.first part m (write_part Origin piece part m)
    one_through =
        let high : piece.first + piece.count ≤ m.merge.chunk * (piece.first / m.merge.chunk) + m.merge.chunk = one_chunk chunk m.merge.chunk piece ok (is.allowed, wide) fits.one in
        writes_through sectors piece m is fits.one.some fits.inside high (one_each chunk piece m.volume.snaps ok fits.one each) part len

    one_shown : IsPieceShown Origin piece.first part (arrays_with (in_one m)) (arrays_with (in_one (write_part Origin piece part m).state)) (write_part Origin piece part m).reply
    one_shown =
        let w = one_through in
        let r : Answered Merging = write_part Origin piece part m in
        let kept : AreKept (arrays_with (in_one m)).saved (arrays_with (in_one r.state)).saved = kept_at (place_in piece.first m.merge) w.snaps in
        let begun : (arrays_with (in_one r.state)).begun ≡ (arrays_with (in_one m)).begun = begun_at (place_in piece.first m.merge) in
        elim (cases_Bool w.wrote) [
          | inl ok ↦ subst (IsPieceShown Origin piece.first part (arrays_with (in_one m)) (arrays_with (in_one r.state))) (sym (w.reply ∙ cond-true _ _ _ ok)) ((shown_through m, refl), tt, (w.origin ∙ cond-true _ _ _ ok, kept, begun))
          | inr failed ↦ subst (IsPieceShown Origin piece.first part (arrays_with (in_one m)) (arrays_with (in_one r.state))) (sym (w.reply ∙ cond-false _ _ _ failed))
              ((shown_through m, refl), (w.origin ∙ cond-false _ _ _ failed ∙ sym (with_sectors_none (shown_through m) piece.first), kept, begun))
        ]

  -- a piece keeps the sizes of chunks
  part_keeps : (piece : Span) (part : List ℕ) (m : Merging) → Each (HasChunks chunk) m.volume.snaps → Each (HasChunks chunk) (write_part Origin piece part m).state.volume.snaps
  part_keeps piece part m each = by (place_in piece.first m.merge)
    where
      by : (o : Option ℕ) → Each (HasChunks chunk) (write_at o piece part m).state.volume.snaps
      by None = answer_keeps chunk Origin (Write part) piece m.volume each
      by (Some n) = each

  goes_through : (piece : Span) (pieces : List Span) (bytes : List ℕ) (old : Shown) (r : Reply) (here more : Answered Merging) → 512 * piece.count ≤ length bytes → ((array : List ℕ) → saved_of Origin old ≡ Live array → 512 * piece.first ≤ length array) → here.reply ≡ r
      → IsPieceShown Origin piece.first (take (512 * piece.count) bytes) old (arrays_with (in_one here.state)) r → AreWritten Origin (piece.first + piece.count) pieces (drop (512 * piece.count) bytes) (arrays_with (in_one here.state)) (arrays_with (in_one more.state)) more.reply
      → AreWritten Origin piece.first (piece ∷ pieces) bytes old (arrays_with (in_one (go_on r here more).state)) (go_on r here more).reply
  goes_through piece pieces bytes old (Data all) here more room low is shows rest = absurd shows
  goes_through piece pieces bytes old Flushed here more room low is shows rest = absurd shows
  goes_through piece pieces bytes old Written here more room low is shows rest = write_more Origin piece pieces bytes old (arrays_with (in_one here.state)) room low (arrays_with (in_one more.state)) more.reply shows.0 shows.1 shows.2 rest
  goes_through piece pieces bytes old (Refused Declined) here more room low is shows rest = absurd shows
  goes_through piece pieces bytes old (Refused Io) here more room low is shows rest = subst (AreWritten Origin piece.first (piece ∷ pieces) bytes old (arrays_with (in_one here.state))) (sym is) (shows.0, (0, omega arith, shows.1))
  goes_through piece pieces bytes old (Refused Overflow) here more room low is shows rest = absurd shows.1

  -- pieces of the origin beside a merge
  through_written : (first b : ℕ) (pieces : List Span) (bytes : List ℕ) (m : Merging) → IsMerging sectors m → chunk ≤ m.merge.chunk → Each (HasChunks chunk) m.volume.snaps → Each (IsInside sectors chunk) pieces → Join first b pieces → 512 * sectors_in pieces ≤ length bytes
      → AreWritten Origin first pieces bytes (arrays_with (in_one m)) (arrays_with (in_one (write_parts Origin pieces bytes m).state)) (write_parts Origin pieces bytes m).reply
  through_written first b [] bytes m is wide each fits join room = (λ some. absurd (omega arith), written_none Origin first (arrays_with (in_one m)))
  through_written first b (piece ∷ pieces) bytes m is wide each fits join room =
      let part : List ℕ = take (512 * piece.count) bytes in
      let tail : List ℕ = drop (512 * piece.count) bytes in
      let here : Answered Merging = write_part Origin piece part m in
      let len : length part ≡ 512 * piece.count = simp length-take (omega (arith, room)) in
      let back : 512 * sectors_in pieces ≤ length tail = simp length-drop (omega (arith, room)) in
      let w = one_through piece part m is wide each fits.0 len in
      let whole = is.whole in
      let low : (array : List ℕ) → saved_of Origin (arrays_with (in_one m)) ≡ Live array → 512 * piece.first ≤ length array =
      λ array live. (let long : length array ≡ length m.volume.origin.bytes = ap saved_length (sym live) ∙ length-picture m.merge.chunk m.volume.origin.bytes m.merge.store.bytes in let i = fits.0.inside in omega (arith, long, whole, i)) in
      let rest = through_written (first + piece.count) b pieces tail here.state w.holds (subst (λ (n : ℕ). chunk ≤ n) (sym w.chunk) wide) (part_keeps piece part m each) fits.1 join.1 back in
      subst (λ (x : ℕ). AreWritten Origin x (piece ∷ pieces) bytes (arrays_with (in_one m)) (arrays_with (in_one (write_parts Origin (piece ∷ pieces) bytes m).state)) (write_parts Origin (piece ∷ pieces) bytes m).reply) join.0
      (goes_through piece pieces bytes (arrays_with (in_one m)) here.reply here (write_parts Origin pieces tail here.state) (omega (arith, room)) low refl (one_shown piece part m is wide each fits.0 len)
      (subst (λ (x : ℕ). AreWritten Origin (x + piece.count) pieces tail (arrays_with (in_one here.state)) (arrays_with (in_one (write_parts Origin pieces tail here.state).state)) (write_parts Origin pieces tail here.state).reply) (sym join.0) rest))
    where
      saved_length : Saved → ℕ
      saved_length (Live xs) = length xs
      saved_length Invalid = 0

snap_goes : (g : Merge) (r : Reply) (here more : Answered Volume) → go_on r (beside g here) (beside g more) ≡ beside g (go_on r here more)
snap_goes g (Data bytes) here more = refl
snap_goes g Written here more = refl
snap_goes g Flushed here more = refl
snap_goes g (Refused failure) here more = refl

-- the merge has no part in a write of a snapshot
snap_parts : (number : ℕ) (pieces : List Span) (bytes : List ℕ) (g : Merge) (v : Volume) → write_parts (ToSnap number) pieces bytes (record { volume = v; merge = g }) ≡ beside g (write_pieces (ToSnap number) pieces bytes v)
snap_parts number [] bytes g v = refl
snap_parts number (p ∷ ps) bytes g v =
    let here : Answered Volume = write_piece (ToSnap number) p (take (512 * p.count) bytes) v in
    let tail : List ℕ = drop (512 * p.count) bytes in
    ap (go_on here.reply (beside g here)) (snap_parts number ps tail g here.state) ∙ snap_goes g here.reply here (write_pieces (ToSnap number) ps tail here.state)

snap_written : (number first : ℕ) (pieces : List Span) (bytes : List ℕ) (g : Merge) (old new : Shown) (reply : Reply) → AreWritten (ToSnap number) first pieces bytes old new reply → AreWritten (ToSnap number) first pieces bytes (with_merge (Some g) old) (with_merge (Some g) new) reply
snap_written number first pieces bytes g old new (Data all) law = law
snap_written number first pieces bytes g old new Flushed law = law
snap_written number first pieces bytes g old new Written law = (law.0, (ap (λ x. array_of x (Some g)) law.1.0, law.1.1, refl))
snap_written number first pieces bytes g old new (Refused Declined) law = (ap (λ x. array_of x (Some g)) law.0, law.1, refl)
snap_written number first pieces bytes g old new (Refused Io) law = (law.0, (law.1.0, law.1.1, (ap (λ x. array_of x (Some g)) law.1.2.0, law.1.2.1, refl)))
snap_written number first pieces bytes g old new (Refused Overflow) law = (
  law.0,
  elim law.1 [
    | inl did ↦ inl (did.0, ap (with_merge (Some g)) did.1)
    | inr may ↦ inr (may.0, with_merge (Some g) may.1, (may.2.0, may.2.1, (ap (λ x. array_of x (Some g)) may.2.2.0, may.2.2.1, refl)), ap (with_merge (Some g)) may.3)
  ],
)

-- pieces that are written, whether a merge is begun or not
module _ (sectors chunk : ℕ) (ok : is_chunk chunk ≡ true) (first b : ℕ) (pieces : List Span) (bytes : List ℕ) (fits : Each (IsInside sectors chunk) pieces) (join : Join first b pieces) (room : 512 * sectors_in pieces ≤ length bytes) where
  pub parts_shown : (dev : Dev) (o : Option Merge) (v : Volume) → IsWell sectors chunk v → ((g : Merge) → o ≡ Some g → (let m : Merging = record { volume = v; merge = g } in IsMerging sectors m) × (chunk ≤ g.chunk))
      → (let m : Merged = record { volume = v; merge = o } in AreWritten dev first pieces bytes (arrays_with m) (arrays_with (parts_written dev pieces bytes m).state) (parts_written dev pieces bytes m).reply)
  parts_shown dev None v well under =
      let m : Merged = record { volume = v; merge = None } in
      subst (λ (a : Answered Merged). AreWritten dev first pieces bytes (arrays_with m) (arrays_with a.state) a.reply) (served_parts dev pieces bytes m) (pieces_written sectors chunk ok dev first b pieces bytes v well fits join room)
  parts_shown Origin (Some g) v well under =
      let m : Merged = record { volume = v; merge = Some g } in
      let is = under g refl in
      subst (λ (a : Answered Merged). AreWritten Origin first pieces bytes (arrays_with m) (arrays_with a.state) a.reply) (served_parts Origin pieces bytes m)
      (through_written sectors chunk ok first b pieces bytes (record { volume = v; merge = g }) is.0 is.1 well.chunks fits join room)
  parts_shown (ToSnap number) (Some g) v well under =
      let m : Merged = record { volume = v; merge = Some g } in
      let a : Answered Volume = write_pieces (ToSnap number) pieces bytes v in
      subst (λ (a : Answered Merged). AreWritten (ToSnap number) first pieces bytes (arrays_with m) (arrays_with a.state) a.reply) (served_parts (ToSnap number) pieces bytes m)
      (subst (λ (r : Answered Merging). AreWritten (ToSnap number) first pieces bytes (arrays_with m) (arrays_with (in_one r.state)) r.reply) (sym (snap_parts number pieces bytes g v))
      (snap_written number first pieces bytes g (arrays_of v) (arrays_of a.state) a.reply (pieces_written sectors chunk ok (ToSnap number) first b pieces bytes v well fits join room)))

-- some first pieces
pub join_take : (a b count : ℕ) (pieces : List Span) → Join a b pieces → (c : ℕ) × Join a c (take count pieces)
join_take a b zero pieces join = (a, refl)
join_take a b (suc count) [] join = (a, refl)
join_take a b (suc count) (p ∷ pieces) join = let more = join_take (a + p.count) b count pieces join.1 in (more.0, (join.0, more.1))

pub each_take : {X : Type 0} (P : X → Type 0) (count : ℕ) (xs : List X) → Each P xs → Each P (take count xs)
each_take P zero xs all = tt
each_take P (suc count) [] all = tt
each_take P (suc count) (x ∷ xs) all = (all.0, each_take P count xs all.1)

pub fewer_in : (count : ℕ) (pieces : List Span) → sectors_in (take count pieces) ≤ sectors_in pieces
fewer_in zero pieces = omega arith
fewer_in (suc count) [] = omega arith
fewer_in (suc count) (p ∷ pieces) = let h = fewer_in count pieces in omega (arith, h)

module _ {B : Type 0} (contents : B → List ℕ) (layers : B → List Layer) (size : B → ℕ) (dev : Dev) (range : Range) (chunk : ℕ) (bytes : List ℕ) (v w : Volumed B) (ok : is_chunk chunk ≡ true) (some : 0 < range.count) (inside : range.first + range.count ≤ size v.origin) (len : length bytes ≡ 512 * range.count)
    (all : All (IsAsLarge chunk) v.snaps) (least : chunk_beside (merged_of contents layers (rested_of v)) ≡ chunk) (with_chunk : chunk ≡ piece_with v.merge v.snaps)
    (between : IsBetween (size v.origin) (moving_of contents layers None v)) (under : (h : MergeHeld) → (moving_of contents layers None v).merge ≡ Some h → IsMerging (size v.origin) (in_big_steps h (moving_of contents layers None v))) where
  abbrev start : Merged
  start = merged_of contents layers (rested_of v)

  abbrev old : Shown
  old = arrays_by contents layers (rested_of v)

  abbrev new : Shown
  new = arrays_by contents layers (rested_of w)

  abbrev pieces : List Span
  pieces = pieces_of chunk (span_of range)

  cut : AreCutFrom chunk (span_of range) pieces
  cut = cut_pieces chunk (span_of range) pieces refl (is_chunk-some chunk ok)

  count_all : sectors_in pieces ≡ range.count
  count_all = let h = sectors_joined range.first (range.first + range.count) pieces cut.join in omega (arith, h)

  many : 0 < length pieces
  many = has_pieces range.first (range.first + range.count) pieces cut.join (omega (arith, some))

  -- the merge that is begun
  is_under : (g : Merge) → start.merge ≡ Some g → (let m : Merging = record { volume = start.volume; merge = g } in IsMerging (size v.origin) m) × (chunk ≤ g.chunk)
  is_under g e = let is : IsUnder contents layers size v under g = under_by contents layers size v under (moving_of contents layers None v).merge refl g e in (is.0, subst (λ (n : ℕ). n ≤ g.chunk) (sym with_chunk) is.1)

  -- the first pieces, by the settled machine
  first_written : (count : ℕ) (reply : Reply) → parts_written dev (take count pieces) bytes start ≡ answer (merged_of contents layers (rested_of w)) reply → AreWritten dev range.first (take count pieces) bytes old new reply
  first_written count reply done =
      let few = fewer_in count pieces in
      let whole = count_all in
      let (end, join) = join_take range.first (range.first + range.count) count pieces cut.join in
      subst (λ (a : Answered Merged). AreWritten dev range.first (take count pieces) bytes old (arrays_with a.state) a.reply) done
      (parts_shown (size v.origin) chunk ok range.first end (take count pieces) bytes (each_take (IsInside (size v.origin) chunk) count pieces (span_inside (size v.origin) chunk range ok inside)) join (omega (arith, few, whole, len))
      dev start.merge start.volume (settled_well contents layers size chunk v all between) is_under)

  whole_written : (reply : Reply) → IsDoneBy contents layers (written_beside dev (span_of range) bytes) reply (rested_of v) (rested_of w) → IsSettled layers (rested_of v) → AreWritten dev range.first pieces bytes old new reply
  whole_written reply done settled =
      let is : take (length pieces) pieces ≡ pieces = take_all (length pieces) pieces (omega arith) in
      subst (λ (ps : List Span). AreWritten dev range.first ps bytes old new reply) is
      (first_written (length pieces) reply (ap (λ (ps : List Span). parts_written dev ps bytes start) is ∙ ap (λ n. parts_written dev (pieces_of n (span_of range)) bytes start) (sym least) ∙ sym (write_whole dev (span_of range) bytes start) ∙ done settled))

  -- one that is done
  write_by : IsDoneBy contents layers (written_beside dev (span_of range) bytes) Written (rested_of v) (rested_of w) → IsSettled layers (rested_of v) → IsPlainWrite dev (span_of range) bytes (arrays_by contents layers (rested_of v)) (arrays_by contents layers (rested_of w))
  write_by done settled =
      let law = whole_written Written done settled in
      let count = count_all in
      ((law.0 many).0, (law.0 many).1, subst (λ (b : List ℕ). IsWritten dev range.first b old new) (take_all (512 * sectors_in pieces) bytes (omega (arith, count, len))) law.1)

  failed_write : (failure : Failure) → AreWritten dev range.first pieces bytes old new (Refused failure) → IsPlainWriteRefused dev (span_of range) pieces bytes (refusal_of failure) old new
  failed_write Declined law = law
  failed_write Io law = law
  failed_write Overflow law = law

  -- one that is refused
  plain_write_refused : (refusal : Refusal) → IsWriteRefused contents layers dev (span_of range) bytes refusal (rested_of v) (rested_of w) → IsSettled layers (rested_of v) → IsPlainWriteRefused dev (span_of range) pieces bytes refusal old new
  plain_write_refused refusal why settled = elim why [
    | inl missing ↦ subst (λ (r : Refusal). IsPlainWriteRefused dev (span_of range) pieces bytes r old new) (sym missing.0) (missing_by contents layers dev (rested_of v) missing.1, ap (arrays_by contents layers) missing.2)
    | inr there ↦ elim there [
      | inl failed ↦ subst (λ (r : Refusal). IsPlainWriteRefused dev (span_of range) pieces bytes r old new) (sym failed.1.1) (failed_write failed.1.0 (whole_written (Refused failed.1.0) failed.1.2 settled))
      | inr starved ↦ written_starved dev (span_of range) pieces bytes refusal old new starved.1 (
        starved.2.0,
        subst (λ (n : ℕ). starved.2.0 < length (pieces_of n (span_of range))) least starved.2.1,
        (first_written starved.2.0 Written (ap (λ n. parts_written dev (take starved.2.0 (pieces_of n (span_of range))) bytes start) (sym least) ∙ sym (write_first starved.2.0 dev (span_of range) bytes start) ∙ starved.2.2 settled)).1,
      )
    ]
  ]

  lost_by : (refusal : Refusal) → IsWriteRefused contents layers dev (span_of range) bytes refusal (rested_of v) (rested_of w) → IsSettled layers (rested_of v)
      → IsPlainWriteRefused dev (span_of range) (pieces_for contents layers (span_of range) (rested_of v)) bytes refusal (arrays_by contents layers (rested_of v)) (arrays_by contents layers (rested_of w))
  lost_by refusal why settled = subst (λ (n : ℕ). IsPlainWriteRefused dev (span_of range) (pieces_of n (span_of range)) bytes refusal old new) (sym least) (plain_write_refused refusal why settled)

  -- both in the words of the contract
  pub plain_write : IsDoneBy contents layers (written_beside dev (span_of range) bytes) Written (rested_of v) (rested_of w) → IsSettled layers (rested_of v)
      → IsPlainWrite dev (span_of range) bytes (arrays_in contents layers (rested_of v)) (arrays_in contents layers (rested_of w))
  plain_write done settled = seen contents layers (IsPlainWrite dev (span_of range) bytes) (rested_of v) (rested_of w) (write_by done settled)

  pub plain_write_lost : (refusal : Refusal) → IsWriteRefused contents layers dev (span_of range) bytes refusal (rested_of v) (rested_of w) → IsSettled layers (rested_of v)
      → IsPlainWriteRefused dev (span_of range) (pieces_for contents layers (span_of range) (rested_of v)) bytes refusal (arrays_in contents layers (rested_of v)) (arrays_in contents layers (rested_of w))
  plain_write_lost refusal why settled =
      seen contents layers (IsPlainWriteRefused dev (span_of range) (pieces_for contents layers (span_of range) (rested_of v)) bytes refusal) (rested_of v) (rested_of w) (lost_by refusal why settled)
