-- A read of many sectors of a settled volume is one of plain arrays, whether a merge is begun or not.
use Rattle.std.proofs.Common.{◌≡◌, ◌⊎◌, inl, inr, ℕ, ◌+◌, ◌-◌, ◌<◌, ◌≤◌, true, false, List, [], ◌∷◌, length, map, take, Option, Some, None, arith, refl, ap, ◌∙◌, sym, subst}
use Rattle.std.specs.Prelude.{◌==◌, ◌||◌}
use Rattle.std.specs.List.{All, list_any}
use Rattle.std.proofs.lemmas.Bool.{cases_Bool, cond-false, true≢false}
use Rattle.std.proofs.lemmas.List.Elements.{All-head, All-tail}
use Rattle.sector.specs.Bytes.{sectors_at}
use Rattle.sector.specs.declared.range.Range.{Range}
use Rattle.sector.specs.declared.refusal.Refusal.{Refusal}
use Rattle.device.specs.Layers.{Layer}
use Rattle.chunk.specs.Sizes.{is_chunk}
use Rattle.chunk.specs.Pieces.{Span, span_of, Join, IsInOneChunk, AreCutFrom, pieces_of}
use Rattle.chunk.proofs.Limits.{is_chunk-some}
use Rattle.chunk.proofs.Whole.{cut_pieces}
use Rattle.plain_machine.specs.Plain.{Saved, Live, Invalid, Shown}
use Rattle.plain_machine.specs.declared.request.Dev.{Dev}
use Rattle.plain_machine.specs.declared.request.Dev.TheVariants.{Origin, Snap as ToSnap}
use Rattle.whole_commands.specs.Refusals.{is_starved}
use Rattle.whole_commands.proofs.Starved.{starved_by}
use Rattle.plain_machine.specs.declared.request.Reply.{Reply}
use Rattle.plain_machine.specs.declared.request.Reply.TheVariants.{Data, Written, Flushed, Refused}
use Rattle.plain_machine.specs.declared.request.Failure.TheVariants.{Invalid as Declined, Io, Overflow}
use Rattle.whole_commands.specs.Snaps.{Volume}
use Rattle.whole_commands.specs.Commands.{read_pieces}
use Rattle.whole_commands.specs.Merges.{Merge, Merged, Merging, merged_of as in_one, read_parts}
use Rattle.whole_commands.specs.MergeShown.{IsMerging, shown_through}
use Rattle.whole_command_laws.proofs.MergeReads.{range_read}
use Rattle.whole_commands.proofs.Each.{Each, each_from}
use Rattle.whole_commands.proofs.Chunks.{HasChunks}
use Rattle.snapshot.specs.Kept.{Kept}
use Rattle.volume.specs.Volumed.{Volumed, piece_with}
use Rattle.event_machine.specs.Held.{MergeHeld}
use Rattle.event_machine.specs.MergeRest.{IsBetween, merge_in, in_big_steps}
use Rattle.whole_commands.specs.Beside.{chunk_beside, read_beside}
use Rattle.volume.specs.Moved.{moving_of}
use Rattle.volume_commands.specs.Rested.{Attached, Rested, attached_of, rested_of, snap_of, settled_of, merged_of, IsSettled, has_dev, has_number}
use Rattle.plain_machine.specs.Failures.{refusal_of}
use Rattle.volume_commands.specs.Commands.{IsDoneBy, IsReadRefused}
use Rattle.volume_commands.specs.Serving.{IsAsLarge}
use Rattle.volume_commands.specs.Showing.{entry_of, arrays_of, arrays_in, saved_at, saved_of, IsPlainRead, IsReadLost, IsPlainReadRefused, sectors_in}
use Rattle.volume_commands.proofs.Shown.{arrays_by, arrays_with, seen, shown_by}
use Rattle.volume_commands.proofs.Seen.{settled_same}
use Rattle.volume_commands.proofs.Served.{held_chunk}
use Rattle.volume_commands.proofs.WriteRuns.{answer}
use Rattle.volume_commands.proofs.ReadRuns.{parts_read, served_parts}
use Rattle.volume_commands.proofs.Reading.{read_whole, read_first_parts}
use Rattle.volume_commands.proofs.BesideReads.{parts_shown, snap_parts}
use Rattle.volume_commands.proofs.Rests.{IsInside, IsWell, inside_joined}
use Rattle.volume_commands.proofs.ShownReads.{IsReadTo, pieces_read, pieces_dead}
use Rattle.whole_commands.specs.Pieces.{Answered}

pub saved_cases : (s : Saved) → (s ≡ Invalid) ⊎ ((array : List ℕ) × (s ≡ Live array))
saved_cases Invalid = inl refl
saved_cases (Live array) = inr (array, refl)

pub sectors_joined : (a b : ℕ) (pieces : List Span) → Join a b pieces → a + sectors_in pieces ≡ b
sectors_joined a b [] join = omega arith
sectors_joined a b (p ∷ pieces) join = let h = sectors_joined (a + p.count) b pieces join.1 in omega arith

-- a span is cut into pieces, one at least
pub has_pieces : (a b : ℕ) (pieces : List Span) → Join a b pieces → a < b → 0 < length pieces
has_pieces a b [] join lt = absurd (omega arith)
has_pieces a b (p ∷ pieces) join lt = omega arith

-- what a read of pieces is of plain arrays
abbrev IsPlainReply : Dev → Span → Shown → Reply → Type 0
IsPlainReply dev span old (Data bytes) = (array : List ℕ) × (saved_of dev old ≡ Live array) × (bytes ≡ sectors_at array span.first span.count)
IsPlainReply dev span old Written = ⊥
IsPlainReply dev span old Flushed = ⊥
IsPlainReply dev span old (Refused failure) = IsReadLost dev (refusal_of failure) old

-- there was no room for it
pub read_starved : (dev : Dev) (refusal : Refusal) (old : Shown) → is_starved refusal ≡ true → IsReadLost dev refusal old
read_starved dev refusal old starved = elim (starved_by refusal starved) [
  | inl memory ↦ subst (λ (r : Refusal). IsReadLost dev r old) (sym memory) tt
  | inr full ↦ subst (λ (r : Refusal). IsReadLost dev r old) (sym full) tt
]

plain_reply : (dev : Dev) (span : Span) (old : Shown) (array : List ℕ) (reply : Reply) → saved_of dev old ≡ Live array → IsReadTo array span.first span.count [] reply → IsPlainReply dev span old reply
plain_reply dev span old array (Data bytes) live read = (array, live, read)
plain_reply dev span old array Written live read = read
plain_reply dev span old array Flushed live read = read
plain_reply dev span old array (Refused Declined) live read = absurd read
plain_reply dev span old array (Refused Io) live read = (array, live)
plain_reply dev span old array (Refused Overflow) live read = absurd read

module _ {B : Type 0} (contents : B → List ℕ) (layers : B → List Layer) where
  -- a device that is not there shows nothing
  missing_at : (number : ℕ) (origin : List ℕ) (snaps : List (Attached B)) → list_any (has_number number) snaps ≡ false → saved_at number (map (entry_of origin) (map (snap_of contents layers) snaps)) ≡ Invalid
  missing_at number origin [] none = refl
  missing_at number origin (s ∷ snaps) none = elim (cases_Bool (s.number == number)) [
    | inl this ↦ absurd (true≢false (sym (ap (λ b. b || list_any (has_number number) snaps) this) ∙ none))
    | inr other ↦ cond-false _ _ _ other ∙ missing_at number origin snaps (sym (ap (λ b. b || list_any (has_number number) snaps) other) ∙ none)
  ]

  pub missing_by : (dev : Dev) (v : Rested B) → has_dev dev v ≡ false → saved_of dev (arrays_by contents layers v) ≡ Invalid
  missing_by Origin v none = absurd (true≢false none)
  missing_by (ToSnap number) v none = missing_at number (contents v.origin) v.snaps none

  pub missing_shows : (dev : Dev) (v : Rested B) → has_dev dev v ≡ false → saved_of dev (arrays_in contents layers v) ≡ Invalid
  missing_shows dev v none = ap (saved_of dev) (shown_by contents layers v) ∙ missing_by dev v none

  chunks_each : (chunk : ℕ) (xs : List (Kept B)) → All (IsAsLarge chunk) xs → Each (HasChunks chunk) (map (snap_of contents layers) (map attached_of xs))
  chunks_each chunk [] all = tt
  chunks_each chunk (x ∷ xs) all = (All-head (IsAsLarge chunk) x xs all, chunks_each chunk xs (All-tail (IsAsLarge chunk) x xs all))

  -- the volume without its merge is at rest
  pub settled_well : (size : B → ℕ) (chunk : ℕ) (v : Volumed B) → All (IsAsLarge chunk) v.snaps → IsBetween (size v.origin) (moving_of contents layers None v) → IsWell (size v.origin) chunk (settled_of contents layers (rested_of v))
  settled_well size chunk v all between = record {
    moving = record (moving_of contents layers None v) { merge = None };
    rest = record { whole = between.whole; snaps = between.snaps; requests = between.requests; alone = refl };
    is = sym (settled_same contents layers None v);
    chunks = chunks_each chunk v.snaps all;
  }

-- the pieces of a span
pub span_inside : (sectors chunk : ℕ) (range : Range) → is_chunk chunk ≡ true → range.first + range.count ≤ sectors → Each (IsInside sectors chunk) (pieces_of chunk (span_of range))
span_inside sectors chunk range ok inside =
    let pieces : List Span = pieces_of chunk (span_of range) in
    let cut : AreCutFrom chunk (span_of range) pieces = cut_pieces chunk (span_of range) pieces refl (is_chunk-some chunk ok) in
    inside_joined sectors chunk ok range.first (range.first + range.count) range.size pieces cut.join (each_from (IsInOneChunk chunk) pieces cut.inside) (each_from (λ (p : Span). p.size ≡ range.size) pieces cut.sizes) inside range.inside

-- a read of the pieces of a range, of a volume at rest
module _ (sectors chunk : ℕ) (range : Range) (ok : is_chunk chunk ≡ true) (some : 0 < range.count) (inside : range.first + range.count ≤ sectors) where
  abbrev span : Span
  span = span_of range

  abbrev pieces : List Span
  pieces = pieces_of chunk span

  cut : AreCutFrom chunk span pieces
  cut = cut_pieces chunk span pieces refl (is_chunk-some chunk ok)

  alone_plain : (dev : Dev) (v : Volume) → IsWell sectors chunk v → IsPlainReply dev span (arrays_of v) (read_pieces dev pieces [] v).reply
  alone_plain dev v well =
      let all : range.first + sectors_in pieces ≡ range.first + range.count = sectors_joined range.first (range.first + range.count) pieces cut.join in
      let count : sectors_in pieces ≡ range.count = omega (arith, all) in
      let many : 0 < length pieces = has_pieces range.first (range.first + range.count) pieces cut.join (omega (arith, some)) in
      elim (saved_cases (saved_of dev (arrays_of v))) [
        | inl dead ↦ subst (IsPlainReply dev span (arrays_of v)) (sym (pieces_dead dev pieces [] v many dead)) dead
        | inr (array, live) ↦ plain_reply dev span (arrays_of v) array (read_pieces dev pieces [] v).reply live
            (subst (λ (n : ℕ). IsReadTo array range.first n [] (read_pieces dev pieces [] v).reply) count (pieces_read sectors chunk ok dev range.first (range.first + range.count) pieces [] array v well (span_inside sectors chunk range ok inside) cut.join live))
      ]

  -- of the origin beside a merge
  through_plain : (m : Merging) → IsMerging sectors m → chunk ≤ m.merge.chunk → IsPlainReply Origin span (arrays_with (in_one m)) (read_parts Origin pieces [] m).reply
  through_plain m is wide =
      let law = range_read sectors chunk ok range.first (range.first + range.count) pieces [] m is wide cut.join (each_from (IsInOneChunk chunk) pieces cut.inside) inside in
      let count : range.first + range.count - range.first ≡ range.count = omega arith in
      elim law.reply [
        | inl answered ↦ subst (IsPlainReply Origin span (arrays_with (in_one m))) (sym answered) (shown_through m, refl, ap (λ n. sectors_at (shown_through m) range.first n) count)
        | inr refused ↦ subst (IsPlainReply Origin span (arrays_with (in_one m))) (sym refused) (shown_through m, refl)
      ]

  -- whether a merge is begun or not
  parts_plain : (dev : Dev) (o : Option Merge) (v : Volume) → IsWell sectors chunk v → ((g : Merge) → o ≡ Some g → (let m : Merging = record { volume = v; merge = g } in IsMerging sectors m) × (chunk ≤ g.chunk))
      → (let m : Merged = record { volume = v; merge = o } in IsPlainReply dev span (arrays_with m) (parts_read dev pieces [] m).reply)
  parts_plain dev None v well under =
      let m : Merged = record { volume = v; merge = None } in
      subst (λ (a : Answered Merged). IsPlainReply dev span (arrays_with m) a.reply) (served_parts dev pieces [] m) (alone_plain dev v well)
  parts_plain Origin (Some g) v well under =
      let m : Merged = record { volume = v; merge = Some g } in
      let is = under g refl in
      subst (λ (a : Answered Merged). IsPlainReply Origin span (arrays_with m) a.reply) (served_parts Origin pieces [] m) (through_plain (record { volume = v; merge = g }) is.0 is.1)
  parts_plain (ToSnap number) (Some g) v well under =
      let m : Merged = record { volume = v; merge = Some g } in
      subst (λ (a : Answered Merged). IsPlainReply (ToSnap number) span (arrays_with m) a.reply) (served_parts (ToSnap number) pieces [] m)
      (subst (λ (r : Answered Merging). IsPlainReply (ToSnap number) span (arrays_with m) r.reply) (sym (snap_parts number pieces [] g v)) (snap_plain number g v (read_pieces (ToSnap number) pieces [] v).reply (alone_plain (ToSnap number) v well)))
    where
      -- a snapshot shows the same beside a merge
      snap_plain : (number : ℕ) (g : Merge) (v : Volume) (reply : Reply) → IsPlainReply (ToSnap number) span (arrays_of v) reply → (let m : Merged = record { volume = v; merge = Some g } in IsPlainReply (ToSnap number) span (arrays_with m) reply)
      snap_plain number g v (Data bytes) law = law
      snap_plain number g v Written law = law
      snap_plain number g v Flushed law = law
      snap_plain number g v (Refused Declined) law = law
      snap_plain number g v (Refused Io) law = law
      snap_plain number g v (Refused Overflow) law = law

-- the merge that is begun
module _ {B : Type 0} (contents : B → List ℕ) (layers : B → List Layer) (size : B → ℕ) (v : Volumed B)
    (under : (h : MergeHeld) → (moving_of contents layers None v).merge ≡ Some h → IsMerging (size v.origin) (in_big_steps h (moving_of contents layers None v))) where
  abbrev pub IsUnder : Merge → Type 0
  IsUnder g = (let m : Merging = record { volume = settled_of contents layers (rested_of v); merge = g } in IsMerging (size v.origin) m) × (piece_with v.merge v.snaps ≤ g.chunk)

  pub under_by : (o : Option MergeHeld) → (moving_of contents layers None v).merge ≡ o → (g : Merge) → merge_in o ≡ Some g → IsUnder g
  under_by None is g e = absurd (cc)
  under_by (Some h) is g e =
      let same : h.merge ≡ g = cc in
      let with_volume : Volume → Merging = λ x. record { volume = x; merge = h.merge } in
      subst IsUnder same (subst (λ (x : Volume). IsMerging (size v.origin) (with_volume x)) (sym (settled_same contents layers None v)) (under h is), held_chunk contents layers v.merge v.snaps h is)

module _ {B : Type 0} (contents : B → List ℕ) (layers : B → List Layer) (size : B → ℕ) (dev : Dev) (range : Range) (v w : Volumed B) (ok : is_chunk (piece_with v.merge v.snaps) ≡ true) (some : 0 < range.count) (inside : range.first + range.count ≤ size v.origin)
    (all : All (IsAsLarge (piece_with v.merge v.snaps)) v.snaps) (least : chunk_beside (merged_of contents layers (rested_of v)) ≡ piece_with v.merge v.snaps)
    (between : IsBetween (size v.origin) (moving_of contents layers None v)) (under : (h : MergeHeld) → (moving_of contents layers None v).merge ≡ Some h → IsMerging (size v.origin) (in_big_steps h (moving_of contents layers None v))) where
  abbrev old : Merged
  old = merged_of contents layers (rested_of v)

  done_plain : (reply : Reply) → IsDoneBy contents layers (read_beside dev (span_of range)) reply (rested_of v) (rested_of w) → IsSettled layers (rested_of v)
      → IsPlainReply dev (span_of range) (arrays_by contents layers (rested_of v)) reply × (arrays_by contents layers (rested_of w) ≡ arrays_by contents layers (rested_of v))
  done_plain reply done settled =
      let pieces : List Span = pieces_of (piece_with v.merge v.snaps) (span_of range) in
      let did : parts_read dev pieces [] old ≡ answer (merged_of contents layers (rested_of w)) reply =
      sym (read_whole dev (span_of range) old ∙ ap (λ n. parts_read dev (pieces_of n (span_of range)) [] old) least) ∙ done settled in (
        subst (λ (a : Answered Merged). IsPlainReply dev (span_of range) (arrays_with old) a.reply) did
            (parts_plain (size v.origin) (piece_with v.merge v.snaps) range ok some inside dev old.merge old.volume (settled_well contents layers size (piece_with v.merge v.snaps) v all between) (under_by contents layers size v under (moving_of contents layers None v).merge refl)),
        ap (λ (a : Answered Merged). arrays_with a.state) (sym did) ∙ parts_shown dev pieces [] old,
      )

  -- one that is done
  read_by : (bytes : List ℕ) → IsDoneBy contents layers (read_beside dev (span_of range)) (Data bytes) (rested_of v) (rested_of w) → IsSettled layers (rested_of v)
      → IsPlainRead dev (span_of range) bytes (arrays_by contents layers (rested_of v)) (arrays_by contents layers (rested_of w))
  read_by bytes done settled =
      let law = done_plain (Data bytes) done settled in
      record { array = law.0.0; live = law.0.1; read = law.0.2; same = law.1 }

  -- one that is refused
  refused_by : (refusal : Refusal) → IsReadRefused contents layers dev (span_of range) refusal (rested_of v) (rested_of w) → IsSettled layers (rested_of v)
      → IsPlainReadRefused dev refusal (arrays_by contents layers (rested_of v)) (arrays_by contents layers (rested_of w))
  refused_by refusal why settled =
      let before : Shown = arrays_by contents layers (rested_of v) in
      let after : Shown = arrays_by contents layers (rested_of w) in
      elim why [
        | inl missing ↦ subst (λ (r : Refusal). IsPlainReadRefused dev r before after) (sym missing.0) (missing_by contents layers dev (rested_of v) missing.1, ap (arrays_by contents layers) missing.2)
        | inr there ↦ elim there [
          | inl failed ↦ subst (λ (r : Refusal). IsPlainReadRefused dev r before after) (sym failed.1.1) (done_plain (Refused failed.1.0) failed.1.2 settled)
          | inr starved ↦ (read_starved dev refusal before starved.1, ap (λ (a : Answered Merged). arrays_with a.state) (sym (starved.2.3 settled)) ∙ ap (λ (a : Answered Merged). arrays_with a.state) (read_first_parts starved.2.0 dev (span_of range) old) ∙ parts_shown dev (take starved.2.0 (pieces_of (chunk_beside old) (span_of range))) [] old)
        ]
      ]

  -- both in the words of the contract
  pub plain_read : (bytes : List ℕ) → IsDoneBy contents layers (read_beside dev (span_of range)) (Data bytes) (rested_of v) (rested_of w) → IsSettled layers (rested_of v)
      → IsPlainRead dev (span_of range) bytes (arrays_in contents layers (rested_of v)) (arrays_in contents layers (rested_of w))
  plain_read bytes done settled = seen contents layers (IsPlainRead dev (span_of range) bytes) (rested_of v) (rested_of w) (read_by bytes done settled)

  pub plain_read_refused : (refusal : Refusal) → IsReadRefused contents layers dev (span_of range) refusal (rested_of v) (rested_of w) → IsSettled layers (rested_of v)
      → IsPlainReadRefused dev refusal (arrays_in contents layers (rested_of v)) (arrays_in contents layers (rested_of w))
  plain_read_refused refusal why settled = seen contents layers (IsPlainReadRefused dev refusal) (rested_of v) (rested_of w) (refused_by refusal why settled)
