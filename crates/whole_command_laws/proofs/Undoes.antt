-- A snapshot over a store without pairs, which is not written: what it shows is what the origin was, whatever was written to
-- the origin since. So its merge undoes all of that.
use Rattle.std.proofs.Common.{◌≡◌, inl, inr, ℕ, ◌+◌, ◌*◌, ◌/◌, ◌<◌, ◌≤◌, Bool, true, false, List, [], ◌∷◌, length, map, refl, ap, ◌∙◌, sym, subst}
use Rattle.std.specs.Prelude.{if◌then◌else◌, Some, None}
use Rattle.std.specs.List.{All}
use Rattle.std.proofs.lemmas.Bool.{cond-true}
use Rattle.sector.specs.Bytes.{with_sectors}
use Rattle.device.specs.declared.operation.Operation.TheVariants.{Writes}
use Rattle.sector.specs.declared.range.Range.{Range}
use Rattle.chunk.specs.Sizes.{is_chunk}
use Rattle.chunk.specs.Pieces.{Span}
use Rattle.plain_machine.specs.Plain.{Live}
use Rattle.plain_machine.specs.declared.request.Dev.{Dev}
use Rattle.plain_machine.specs.declared.request.Dev.TheVariants.{Origin, Snap as ToSnap}
use Rattle.plain_machine.specs.declared.request.Op.{Op}
use Rattle.plain_machine.specs.declared.request.Op.TheVariants.{Read, Write, Flush}
use Rattle.cow_format.specs.Pairs.{pairs_of}
use Rattle.cow_format.specs.Picture.{picture}
use Rattle.whole_commands.specs.Saves.{next_of}
use Rattle.volume_laws.proofs.Attaching.{picture_none}
use Rattle.whole_commands.specs.Devices.{Device, answers}
use Rattle.whole_commands.specs.Snaps.{Snap, Volume, shown}
use Rattle.whole_commands.specs.Pieces.{Answered, save_all, write_origin, write_snap, read_snap, flush_snap}
use Rattle.event_machine.specs.Held.{SnapHeld, Moving}
use Rattle.event_machine.specs.Rest.{IsResting, IsAtRest}
use Rattle.event_machine.specs.Settles.{SettlesTo}
use Rattle.whole_commands.specs.Requests.{answered_by, FitsRange}
use Rattle.event_machine.specs.Requests.{IsInChunk}
use Rattle.whole_commands.specs.MergeShown.{IsWell, origin_shown, shown_through}
use Rattle.whole_command_laws.specs.Undone.{IsVolume, Asked, asked, IsAsked, Spares}
use Rattle.whole_commands.specs.Merges.{snap_named, begun, merge_all}
use Rattle.whole_commands.proofs.Each.{Each, each_from, all_from}
use Rattle.whole_commands.proofs.Chunks.{HasChunks, answer_keeps, wide_allowed}
use Rattle.whole_commands.proofs.SavedBytes.{save_all_bytes}
use Rattle.whole_command_laws.proofs.MergeSaves.{IsInOne, all_shown, shown_live, one_wider}
use Rattle.whole_command_laws.proofs.MergeBegins.{unmerged, begun_by, begins, begin_shows, begins_well}
use Rattle.whole_command_laws.proofs.MergeEnds.{merge_leaves}
use Rattle.whole_commands.proofs.Named.{WasShown, all_named, one_named, one_bytes, write_number, write_bytes, is_read, is_flushed}
use Rattle.whole_command_laws.proofs.Requests.{request_settles}

-- a snapshot at rest
abbrev pub at_rest : Snap → SnapHeld
at_rest s = record { snap = s; untried = false; marked = false; pairs = pairs_of s.chunk s.store.bytes; next = next_of s.chunk (pairs_of s.chunk s.store.bytes); zeroed = false; firm = false; copies = []; marks = [] }

abbrev pub volume_at_rest : Volume → Moving
volume_at_rest v = record { origin = v.origin; snaps = map at_rest v.snaps; merge = None; requests = []; replied = None; started = 0 }

snaps_of : (snaps : List Snap) → map (λ (h : SnapHeld). h.snap) (map at_rest snaps) ≡ snaps
snaps_of [] = refl
snaps_of (s ∷ snaps) = ap (λ x. s ∷ x) (snaps_of snaps)

each_rests : (sectors : ℕ) (snaps : List Snap) → Each (IsWell sectors) snaps → Each (IsResting sectors) (map at_rest snaps)
each_rests sectors [] all = tt
each_rests sectors (s ∷ snaps) all = (
  record { tried = refl; copies = refl; marks = refl; live = λ on. record { order = all.0 on; pairs = refl; next = refl; zeroed = refl; firm = refl; unmarked = refl } },
  each_rests sectors snaps all.1,
)

each_well : (sectors : ℕ) (held : List SnapHeld) → Each (IsResting sectors) held → Each (IsWell sectors) (map (λ (h : SnapHeld). h.snap) held)
each_well sectors [] all = tt
each_well sectors (h ∷ held) all = (λ on. (all.0.live on).order, each_well sectors held all.1)

each_in_chunk : (range : Range) (snaps : List Snap) → Each (IsInOne range.first range.count) snaps → Each (IsInChunk range) (map at_rest snaps)
each_in_chunk range [] all = tt
each_in_chunk range (s ∷ snaps) all = (all.0, each_in_chunk range snaps all.1)

-- a request leaves a volume that is well
pub answer_well : (sectors chunk : ℕ) (a : Asked) (v : Volume) → IsVolume sectors chunk v → IsAsked sectors chunk a → IsVolume sectors chunk (answered_by a.dev a.op a.piece v).state
answer_well sectors chunk a v is fit =
    let range : Range = record { first = a.piece.first; count = a.piece.count; size = a.piece.size; inside = fit.sized } in
    let chunks : Each (HasChunks chunk) v.snaps = each_from (HasChunks chunk) v.snaps is.chunks in
    let rest : IsAtRest sectors (volume_at_rest v) = record {
      whole = is.whole;
      snaps = all_from (IsResting sectors) (map at_rest v.snaps) (each_rests sectors v.snaps (each_from (IsWell sectors) v.snaps is.snaps));
      requests = refl;
      alone = refl;
    } in
    let made : List Snap → Answered Volume = λ (ss : List Snap). answered_by a.dev a.op a.piece (record { origin = v.origin; snaps = ss }) in
    let settles : SettlesTo sectors _ (made (map (λ (h : SnapHeld). h.snap) (map at_rest v.snaps))) = request_settles sectors 0 (record { dev = a.dev; op = a.op; range = range }) (volume_at_rest v) rest
    (record { some = fit.some; inside = fit.inside; bytes = fit.bytes; chunks = all_from (IsInChunk range) (map at_rest v.snaps) (each_in_chunk range v.snaps (one_wider chunk range.first range.count v.snaps is.allowed fit.one chunks)) }) in
    let same : made (map (λ (h : SnapHeld). h.snap) (map at_rest v.snaps)) ≡ answered_by a.dev a.op a.piece v = ap made (snaps_of v.snaps) in
    let after : Volume = (answered_by a.dev a.op a.piece v).state in
    let origin : settles.last.origin ≡ after.origin = settles.origin ∙ ap (λ (x : Answered Volume). x.state.origin) same in
    let snaps : map (λ (h : SnapHeld). h.snap) settles.last.snaps ≡ after.snaps = settles.snaps ∙ ap (λ (x : Answered Volume). x.state.snaps) same in
    record {
      whole = sym (ap (λ (d : Device). length d.bytes) origin) ∙ settles.rest.whole;
      snaps = all_from (IsWell sectors) after.snaps (subst (Each (IsWell sectors)) snaps (each_well sectors settles.last.snaps (each_from (IsResting sectors) settles.last.snaps settles.rest.snaps)));
      allowed = is.allowed;
      chunks = all_from (HasChunks chunk) after.snaps (answer_keeps chunk a.dev a.op a.piece v chunks);
    }

-- What the snapshot of a number shows after a request that spares it, it showed before.
module _ (sectors chunk number : ℕ) (piece : Span) (v : Volume) (is : IsVolume sectors chunk v) (some : 0 < piece.count) (inside : piece.first + piece.count ≤ sectors) (one : piece.first + piece.count ≤ chunk * (piece.first / chunk) + chunk) where
  write_shows : (bytes : List ℕ) → length bytes ≡ 512 * piece.count → (t : Snap) → snap_named number (write_origin piece bytes v).state.snaps ≡ Some t → WasShown number v.origin.bytes (write_origin piece bytes v).state.origin.bytes v.snaps t
  write_shows bytes len t named =
      let all : Volume = save_all piece.first v.origin v.snaps in
      let wrote : Bool = answers all.origin (Writes piece.first piece.count) in
      let after : List ℕ = (write_origin piece bytes v).state.origin.bytes in
      let disk : (write_origin piece bytes v).state.origin.bytes ≡ (if wrote then with_sectors v.origin.bytes piece.first bytes else v.origin.bytes) =
      ap (λ b. if wrote then with_sectors b piece.first bytes else b) (save_all_bytes piece.first v.origin v.snaps) in
      all_named number piece.first v.origin v.snaps v.origin.bytes after t
      (all_shown sectors piece.first piece.count bytes some inside len v.origin v.snaps after is.whole (each_from (IsWell sectors) v.snaps is.snaps)
      (one_wider chunk piece.first piece.count v.snaps is.allowed one (each_from (HasChunks chunk) v.snaps is.chunks)) wrote disk) named

  pub one_shows : (dev : Dev) (op : Op) → FitsRange op piece.count → Spares number dev op → (t : Snap) → snap_named number (answered_by dev op piece v).state.snaps ≡ Some t → WasShown number v.origin.bytes (answered_by dev op piece v).state.origin.bytes v.snaps t
  one_shows Origin Read fits spares t named = record { was = t; named = named; same = λ live. refl }
  one_shows Origin (Write bytes) fits spares t named = write_shows bytes fits t named
  one_shows Origin Flush fits spares t named = record { was = t; named = named; same = λ live. refl }
  one_shows (ToSnap n) Read fits spares t named =
      subst (λ (b : List ℕ). WasShown number v.origin.bytes b v.snaps t) (sym (one_bytes n (read_snap piece) (λ origin s. (is_read piece origin s).bytes) v.origin v.snaps))
      (one_named number n (read_snap piece) (λ origin s. (is_read piece origin s).number) (inr (λ origin s disk. (is_read piece origin s).shows disk)) v.origin v.snaps v.origin.bytes t named)
  one_shows (ToSnap n) (Write bytes) fits spares t named =
      subst (λ (b : List ℕ). WasShown number v.origin.bytes b v.snaps t) (sym (one_bytes n (write_snap piece bytes) (write_bytes piece bytes) v.origin v.snaps))
      (one_named number n (write_snap piece bytes) (write_number piece bytes) (inl spares) v.origin v.snaps v.origin.bytes t named)
  one_shows (ToSnap n) Flush fits spares t named =
      subst (λ (b : List ℕ). WasShown number v.origin.bytes b v.snaps t) (sym (one_bytes n flush_snap (λ origin s. (is_flushed origin s).bytes) v.origin v.snaps))
      (one_named number n flush_snap (λ origin s. (is_flushed origin s).number) (inr (λ origin s disk. (is_flushed origin s).shows disk)) v.origin v.snaps v.origin.bytes t named)

-- the snapshot of a number shows this array, if it is there and live
abbrev pub ShowsAs : ℕ → List ℕ → Volume → Type 0
ShowsAs number array v = (t : Snap) → snap_named number v.snaps ≡ Some t → t.live ≡ true → shown v.origin.bytes t ≡ Live array

request_shows : (sectors chunk number : ℕ) (array : List ℕ) (a : Asked) (v : Volume) → IsVolume sectors chunk v → IsAsked sectors chunk a → Spares number a.dev a.op → ShowsAs number array v → ShowsAs number array (answered_by a.dev a.op a.piece v).state
request_shows sectors chunk number array a v is fit spares shows t named live =
    let after : Volume = (answered_by a.dev a.op a.piece v).state in
    let before = one_shows sectors chunk number a.piece v is fit.some fit.inside fit.one a.dev a.op fit.bytes spares t named in
    let same : shown after.origin.bytes t ≡ shown v.origin.bytes before.was = before.same live in
    let on : before.was.live ≡ true = shown_live v.origin.bytes before.was (picture t.chunk after.origin.bytes t.store.bytes) (sym same ∙ cond-true _ _ _ live) in
    same ∙ shows before.was before.named on

-- any number of requests
asked_each : (sectors chunk number : ℕ) (array : List ℕ) (requests : List Asked) (v : Volume) → IsVolume sectors chunk v → Each (IsAsked sectors chunk) requests → Each (λ a. Spares number a.dev a.op) requests → ShowsAs number array v → IsVolume sectors chunk (asked requests v) × ShowsAs number array (asked requests v)
asked_each sectors chunk number array [] v is fit spares shows = (is, shows)
asked_each sectors chunk number array (a ∷ requests) v is fit spares shows =
    asked_each sectors chunk number array requests (answered_by a.dev a.op a.piece v).state (answer_well sectors chunk a v is fit.0) fit.1 spares.1 (request_shows sectors chunk number array a v is fit.0 spares.0 shows)

-- A snapshot whose store has no pair shows what stands on the origin disk.
fresh_shows : (number : ℕ) (v : Volume) (s : Snap) → snap_named number v.snaps ≡ Some s → pairs_of s.chunk s.store.bytes ≡ [] → ShowsAs number v.origin.bytes v
fresh_shows number v s named none t other live =
    let e : Some t ≡ Some s = sym other ∙ named in
    let same : t ≡ s = cc in
    let fresh : pairs_of t.chunk t.store.bytes ≡ [] = ap (λ (x : Snap). pairs_of x.chunk x.store.bytes) same ∙ none in
    cond-true _ _ _ live ∙ ap Live (picture_none t.chunk v.origin.bytes t.store.bytes fresh)

-- The law of undoing: v is the volume when the snapshot was taken, over a store without pairs, and w after any requests that
-- spare it. Where it is still live its merge makes the origin show what stood on the origin disk then; and where nothing of
-- the whole merge fails, that stands on the origin disk.
module _ (sectors chunk number : ℕ) (requests : List Asked) (v : Volume) (s t : Snap) (is : IsVolume sectors chunk v) (fits : All (IsAsked sectors chunk) requests) (spares : All (λ a. Spares number a.dev a.op) requests)
    (taken : snap_named number v.snaps ≡ Some s) (fresh : pairs_of s.chunk s.store.bytes ≡ []) (named : snap_named number (asked requests v).snaps ≡ Some t) (live : t.live ≡ true) where
  kept : IsVolume sectors chunk (asked requests v) × ShowsAs number v.origin.bytes (asked requests v)
  kept = asked_each sectors chunk number v.origin.bytes requests v is (each_from (IsAsked sectors chunk) requests fits) (each_from (λ a. Spares number a.dev a.op) requests spares) (fresh_shows number v s taken fresh)

  pub undo_shows : origin_shown (begun number (unmerged (asked requests v))) ≡ v.origin.bytes
  undo_shows =
      let is : Live (origin_shown (begun number (unmerged (asked requests v)))) ≡ Live v.origin.bytes = begin_shows number (asked requests v) t named live ∙ kept.1 t named live in
      cc

  pub undo_leaves : (merge_all (begun_by number (asked requests v) t)).merge.failed ≡ false → (merge_all (begun_by number (asked requests v) t)).volume.origin.bytes ≡ v.origin.bytes
  undo_leaves fine =
      let w : Volume = asked requests v in
      let same : shown_through (begun_by number w t) ≡ v.origin.bytes = sym (ap origin_shown (begins number w t named live)) ∙ undo_shows in
      merge_leaves sectors (begun_by number w t) (begins_well sectors number w t kept.0.whole kept.0.snaps (all_from (λ (x : Snap). is_chunk x.chunk ≡ true) w.snaps (wide_allowed chunk w.snaps (each_from (HasChunks chunk) w.snaps kept.0.chunks))) named live) fine ∙ same
