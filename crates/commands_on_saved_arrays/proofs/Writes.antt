-- A write of a volume that is well is one of plain arrays, whether a merge is begun or not.
use Rattle.std.proofs.Common.{◌≡◌, inl, inr, ℕ, zero, suc, ◌+◌, ◌*◌, ◌<◌, ◌≤◌, true, List, [], ◌∷◌, length, map, take, arith, refl, ap, ◌∙◌, sym, subst}
use Rattle.std.specs.Prelude.{Option, Some, None, Result, Ok, Err, is_some, nat_lt, slice_get, slice_set}
use Rattle.std.proofs.lemmas.Bool.{cases_Bool, cond-true}
use Rattle.std.proofs.lemmas.List.{take_all}
use Rattle.sector.specs.declared.range.Range.{Range}
use Rattle.sector.specs.declared.refusal.Refusal.{Refusal}
use Rattle.sector.specs.declared.refusal.Refusal.TheVariants.{OutOfRange}
use Rattle.chunk.specs.Pieces.{Span, AreCutFrom, pieces_of}
use Rattle.chunk.proofs.Limits.{is_chunk-some}
use Rattle.chunk.proofs.Whole.{cut_pieces}
use Rattle.plain_machine.specs.Plain.{Saved, Live, Invalid, marked_in, Shown as Plainly}
use Rattle.plain_machine.specs.declared.request.Dev.{Dev}
use Rattle.plain_machine.specs.declared.request.Dev.TheVariants as devs
use Rattle.plain_machine.specs.declared.request.Reply.{Reply}
use Rattle.plain_machine.specs.declared.request.Reply.TheVariants.{Data, Written, Flushed, Refused}
use Rattle.plain_machine.specs.declared.request.Failure.TheVariants.{Invalid as Declined, Io, Overflow}
use Rattle.whole_commands.specs.Devices.{sectors_of}
use Rattle.whole_commands.specs.Snaps.{Snap}
use Rattle.whole_commands.specs.Merges.{Merge, Merged}
use Rattle.whole_commands.specs.MergeShown.{origin_shown}
use Rattle.whole_commands.proofs.Each.{Each}
use Rattle.whole_commands.specs.Beside.{chunk_beside, written_beside, written_first_beside}
use Rattle.command_semantics.specs.Changes.{Did}
use Rattle.command_semantics.specs.Raw.{fits}
use Rattle.command_semantics.specs.Messages.{snap_at}
use Rattle.command_semantics.specs.Sectors.{Asked, asked_of, serves, dev_of, takes, after_asking, write_answer, write_by, written_in, IsPartWritten, IsPartWrittenBy}
use Rattle.command_semantics.proofs.Begun.{merged_is}
use Rattle.command_semantics.proofs.Keeping.{came_by, same_ok, not_ok}
use Rattle.command_semantics.specs.State.{Names, Merging as Begun, Volume, merge_in, merged_in}
use Rattle.whole_commands.specs.Refusals.{is_starved}
use Rattle.command_semantics.specs.declared.place.Role.{Role}
use Rattle.command_semantics.specs.declared.place.Role.TheVariants.{Origin, Under, Snapshot, Store, Merging as InMerging, MergingStore}
use Rattle.volume_commands.specs.Showing.{entry_of, changed_at, saved_at, with_bytes, IsLive, IsWritten, IsLost, sectors_in}
use Rattle.volume_commands.proofs.Shown.{arrays_with}
use Rattle.volume_commands.proofs.Rests.{IsInside}
use Rattle.volume_commands.proofs.PlainReads.{span_inside, sectors_joined, has_pieces}
use Rattle.volume_commands.proofs.PlainWrites.{AreWritten}
use Rattle.volume_commands.proofs.BesideWrites.{parts_shown, join_take, each_take, fewer_in}
use Rattle.volume_commands.proofs.WriteRuns.{parts_written}
use Rattle.volume_commands.proofs.Writing.{write_whole, write_first}
use Rattle.commands_on_saved_arrays.specs.Arrays.{Named, Arrays, named_by, arrays_of}
use Rattle.commands_on_saved_arrays.specs.Shown.{AreKept, IsOriginWritten, IsSnapshotChanged, IsSavedWritten, IsWrittenTo, IsWriteDone, IsWriteRefused}
use Rattle.commands_on_saved_arrays.specs.Well.{IsWell}
use Rattle.commands_on_saved_arrays.proofs.Lists.{Rise, named_with, named_is, named_marked, numbers_are, entry_at, entries_kept, IsHere, is_here, snap_there}
use Rattle.commands_on_saved_arrays.proofs.Resting.{rests}
use Rattle.whole_commands.specs.Pieces.{Answered}

-- the arrays of a volume with other devices
abbrev pub arrays_at : List ℕ → List Names → Merged → Arrays
arrays_at name names m = record { name = name; array = origin_shown m; snaps = named_by m.volume.origin.bytes names m.volume.snaps }

-- fewer pieces are fewer sectors
fewer_sectors : (sectors chunk count : ℕ) (pieces : List Span) → Each (IsInside sectors chunk) pieces → count < length pieces → sectors_in (take count pieces) < sectors_in pieces
fewer_sectors sectors chunk count [] fits lt = absurd (omega (arith, lt))
fewer_sectors sectors chunk zero (p ∷ pieces) fits lt = let some = fits.0.one.some in omega (arith, some)
fewer_sectors sectors chunk (suc count) (p ∷ pieces) fits lt = let h = fewer_sectors sectors chunk count pieces fits.1 (omega (arith, lt)) in omega (arith, h)

-- plain arrays of two moments, with names beside them
module _ (name : List ℕ) (names : List Names) (m after : Merged) where
  abbrev old : Arrays
  old = arrays_at name names m

  abbrev new : Arrays
  new = arrays_at name names after

  -- nothing was
  pub same_named : arrays_with after ≡ arrays_with m → new ≡ old
  same_named is =
      let mk : List ℕ → List Named → Arrays = λ (array : List ℕ) (snaps : List Named). record { name = name; array = array; snaps = snaps } in
      ap (mk (origin_shown after)) (named_is after.volume.origin.bytes names after.volume.snaps) ∙ ap (λ (a : Plainly). mk a.origin (named_with names a.saved)) is
      ∙ ap (mk (origin_shown m)) (sym (named_is m.volume.origin.bytes names m.volume.snaps))

  -- the origin is written
  pub origin_named : (first : ℕ) (bytes : List ℕ) → IsWritten devs.Origin first bytes (arrays_with m) (arrays_with after) → IsOriginWritten first bytes old new
  origin_named first bytes law = record {
    name = refl;
    array = law.0;
    snaps = subst (λ (xs : List Named). AreKept xs new.snaps) (sym (named_is m.volume.origin.bytes names m.volume.snaps))
        (subst (AreKept (named_with names (arrays_with m).saved)) (sym (named_is after.volume.origin.bytes names after.volume.snaps)) (entries_kept names (arrays_with m).saved (arrays_with after).saved law.1));
  }

  -- snapshot k has this number
  module _ (k : ℕ) (s : Snap) (len : length names ≡ length m.volume.snaps) (rise : Rise (map (λ t. t.number) m.volume.snaps)) (at : slice_get m.volume.snaps k ≡ Some s) where
    here : (f : Saved → Saved) → IsHere s.number k f names (arrays_with m).saved
    here f = is_here s.number k f names (arrays_with m).saved (entry_of m.volume.origin.bytes s) (len ∙ sym (length-mapped m.volume.snaps)) (subst Rise (sym (numbers_are m.volume.origin.bytes m.volume.snaps)) rise) (entry_at m.volume.origin.bytes k m.volume.snaps s at) refl
      where
        length-mapped : (snaps : List Snap) → length (map (entry_of m.volume.origin.bytes) snaps) ≡ length snaps
        length-mapped [] = refl
        length-mapped (t ∷ snaps) = ap (λ n. suc n) (length-mapped snaps)

    changed_named : (f : Saved → Saved) (how : Saved → Saved → Type 0) → ((saved : Saved) → saved_at s.number (arrays_with m).saved ≡ saved → how saved (f saved)) → (arrays_with after).origin ≡ (arrays_with m).origin → named_with names (arrays_with after).saved ≡ named_with names (changed_at s.number f (arrays_with m).saved) → IsSnapshotChanged k how old new
    changed_named f how so array saved =
        let h = here f in
        record {
          snapshot = h.snapshot;
          saved = f h.snapshot.saved;
          was = ap (λ xs. slice_get xs k) (named_is m.volume.origin.bytes names m.volume.snaps) ∙ h.was;
          becomes = so h.snapshot.saved h.shows;
          name = refl;
          array = array;
          snaps = named_is after.volume.origin.bytes names after.volume.snaps ∙ saved ∙ h.becomes ∙ ap (λ xs. slice_set xs k (record { name = h.snapshot.name; saved = f h.snapshot.saved })) (sym (named_is m.volume.origin.bytes names m.volume.snaps));
        }

    written : (first : ℕ) (bytes : List ℕ) → IsLive (devs.Snap s.number) (arrays_with m) → (saved : Saved) → saved_at s.number (arrays_with m).saved ≡ saved → IsSavedWritten first bytes saved (with_bytes first bytes saved)
    written first bytes live saved e = by saved live.0 (sym e ∙ live.1)
      where
        by : (saved : Saved) (array : List ℕ) → saved ≡ Live array → IsSavedWritten first bytes saved (with_bytes first bytes saved)
        by (Live xs) array e = refl
        by Invalid array e = absurd (cc)

    pub snapshot_named : (first : ℕ) (bytes : List ℕ) → IsLive (devs.Snap s.number) (arrays_with m) → IsWritten (devs.Snap s.number) first bytes (arrays_with m) (arrays_with after) → IsSnapshotChanged k (IsSavedWritten first bytes) old new
    snapshot_named first bytes live law = changed_named (with_bytes first bytes) (IsSavedWritten first bytes) (written first bytes live) law.0 (ap (named_with names) law.1)

    -- and then it was marked for its full store
    pub snapshot_overflown : (first : ℕ) (bytes : List ℕ) → IsLive (devs.Snap s.number) (arrays_with m) → (mid : Plainly) → IsWritten (devs.Snap s.number) first bytes (arrays_with m) mid
        → arrays_with after ≡ record mid { saved = marked_in s.number mid.saved } → IsSnapshotChanged k (IsSavedWritten first bytes) old new
    snapshot_overflown first bytes live mid law is =
        changed_named (with_bytes first bytes) (IsSavedWritten first bytes) (written first bytes live) (ap (λ (a : Plainly). a.origin) is ∙ law.0)
        (ap (λ (a : Plainly). named_with names a.saved) is ∙ named_marked s.number names mid.saved ∙ ap (named_with names) law.1)

    pub snapshot_lost : IsLost (devs.Snap s.number) (arrays_with m) (arrays_with after) → IsSnapshotChanged k (λ before saved. saved ≡ Invalid) old new
    snapshot_lost law = changed_named (λ saved. Invalid) (λ before saved. saved ≡ Invalid) (λ saved e. refl) law.0 (ap (named_with names) law.1)

-- a merge is begun after a request where it was before
served_begun : (dev : Dev) (span : Span) (bytes : List ℕ) (m : Merged) → is_some (written_beside dev span bytes m).state.merge ≡ is_some m.merge
unfolding written_beside
served_begun dev span bytes m = by m.merge
  where
    by : (o : Option Merge) → (let n : Merged = record { volume = m.volume; merge = o } in is_some (written_beside dev span bytes n).state.merge ≡ is_some o)
    by None = refl
    by (Some g) = refl

module _ (volume : Volume) (well : IsWell volume) (first count : ℕ) (bytes : List ℕ) (len : length bytes ≡ 512 * count) (some : 0 < count) (fits : first + count ≤ sectors_of volume.state.origin) where
  abbrev m : Merged
  m = merged_in volume

  abbrev chunk : ℕ
  chunk = chunk_beside m

  abbrev span : Span
  span = record { first = first; count = count; size = sectors_of volume.state.origin }

  abbrev pieces : List Span
  pieces = pieces_of chunk span

  abbrev range : Range
  range = record { first = first; count = count; size = sectors_of volume.state.origin; inside = fits }

  inside : first + count ≤ well.ordered.sectors
  inside = let whole = well.ordered.is.whole in omega (arith, whole, fits)

  cut : AreCutFrom chunk span pieces
  cut = cut_pieces chunk span pieces refl (is_chunk-some chunk well.ordered.is.allowed)

  count_all : sectors_in pieces ≡ count
  count_all = let h = sectors_joined first (first + count) pieces cut.join in omega (arith, h)

  many : 0 < length pieces
  many = has_pieces first (first + count) pieces cut.join (omega (arith, some))

  each_inside : Each (IsInside well.ordered.sectors chunk) pieces
  each_inside = span_inside well.ordered.sectors chunk range well.ordered.is.allowed inside

  -- the first pieces
  first_written : (dev : Dev) (n : ℕ) → AreWritten dev first (take n pieces) bytes (arrays_with m) (arrays_with (parts_written dev (take n pieces) bytes m).state) (parts_written dev (take n pieces) bytes m).reply
  first_written dev n =
      let few = fewer_in n pieces in
      let whole = count_all in
      let (end, join) = join_take first (first + count) n pieces cut.join in
      parts_shown well.ordered.sectors chunk well.ordered.is.allowed first end (take n pieces) bytes (each_take (IsInside well.ordered.sectors chunk) n pieces each_inside) join (omega (arith, few, whole, len))
      dev m.merge m.volume (rests well.ordered.sectors chunk m.volume well.ordered.is) (λ g is. let h = well.ordered.merge g is in (h.1, h.0))

  whole_written : (dev : Dev) → AreWritten dev first pieces bytes (arrays_with m) (arrays_with (written_beside dev span bytes m).state) (written_beside dev span bytes m).reply
  whole_written dev =
      let all : take (length pieces) pieces ≡ pieces = take_all (length pieces) pieces (omega arith) in
      let a : AreWritten dev first pieces bytes (arrays_with m) (arrays_with (parts_written dev pieces bytes m).state) (parts_written dev pieces bytes m).reply =
      subst (λ (ps : List Span). AreWritten dev first ps bytes (arrays_with m) (arrays_with (parts_written dev ps bytes m).state) (parts_written dev ps bytes m).reply) all (first_written dev (length pieces)) in
      subst (λ (r : Answered Merged). AreWritten dev first pieces bytes (arrays_with m) (arrays_with r.state) r.reply) (sym (write_whole dev span bytes m)) a

  abbrev before : Arrays
  before = arrays_at volume.origin volume.snaps m

  abbrev seen_after : Merged → Arrays
  seen_after after = arrays_at volume.origin volume.snaps after

  whole_bytes : take (512 * sectors_in pieces) bytes ≡ bytes
  whole_bytes = let sum = count_all in take_all (512 * sectors_in pieces) bytes (omega (arith, sum, len))

  fewer_bytes : (n : ℕ) → n < length pieces → 512 * sectors_in (take n pieces) < length bytes
  fewer_bytes n lt = let h = fewer_sectors well.ordered.sectors chunk n pieces each_inside lt in let sum = count_all in omega (arith, h, sum, len)

  -- a write of the origin
  origin_done : (reply : Reply) (after : Merged) → AreWritten devs.Origin first pieces bytes (arrays_with m) (arrays_with after) reply → IsWriteDone Origin first bytes (write_answer reply) before (seen_after after)
  origin_done (Data all) after law = absurd law
  origin_done Written after law = origin_named volume.origin volume.snaps m after first bytes (subst (λ (b : List ℕ). IsWritten devs.Origin first b (arrays_with m) (arrays_with after)) whole_bytes law.1)
  origin_done Flushed after law = absurd law
  origin_done (Refused Declined) after law = absurd law
  origin_done (Refused Overflow) after law = absurd law.1
  origin_done (Refused Io) after law = inr (inr (inl refl, (sectors_in (take law.1.0 pieces), fewer_bytes law.1.0 law.1.1, origin_named volume.origin volume.snaps m after first (take (512 * sectors_in (take law.1.0 pieces)) bytes) law.1.2)))

  -- a write of a snapshot
  snapshot_done : (k : ℕ) (s : Snap) → slice_get volume.state.snaps k ≡ Some s → (reply : Reply) (after : Merged) → AreWritten (devs.Snap s.number) first pieces bytes (arrays_with m) (arrays_with after) reply → IsWriteDone (Snapshot k) first bytes (write_answer reply) before (seen_after after)
  snapshot_done k s at (Data all) after law = absurd law
  snapshot_done k s at Written after law =
      snapshot_named volume.origin volume.snaps m after k s well.numbered.named well.numbered.numbers at first bytes (law.0 many).0 (subst (λ (b : List ℕ). IsWritten (devs.Snap s.number) first b (arrays_with m) (arrays_with after)) whole_bytes law.1)
  snapshot_done k s at Flushed after law = absurd law
  snapshot_done k s at (Refused Declined) after law = inr (inl (refl, snapshot_lost volume.origin volume.snaps m after k s well.numbered.named well.numbered.numbers at law))
  snapshot_done k s at (Refused Io) after law =
      inr (inr (inl refl, (sectors_in (take law.1.0 pieces), fewer_bytes law.1.0 law.1.1, snapshot_named volume.origin volume.snaps m after k s well.numbered.named well.numbered.numbers at first (take (512 * sectors_in (take law.1.0 pieces)) bytes) law.0 law.1.2)))
  snapshot_done k s at (Refused Overflow) after law = elim law.1 [
    | inl did ↦ inl (same_named volume.origin volume.snaps m after did.1)
    | inr may ↦ inr (inr (
      inr (inl refl),
      (
        sectors_in (take may.2.0 pieces),
        fewer_bytes may.2.0 may.2.1,
        snapshot_overflown volume.origin volume.snaps m after k s well.numbered.named well.numbered.numbers at first (take (512 * sectors_in (take may.2.0 pieces)) bytes) law.0 may.1 may.2.2 may.3,
      ),
    ))
  ]

  -- by the role of the device
  role_done : (role : Role) (dev : Dev) → dev_of role volume.state ≡ Ok dev → (reply : Reply) (after : Merged) → AreWritten dev first pieces bytes (arrays_with m) (arrays_with after) reply → IsWriteDone role first bytes (write_answer reply) before (seen_after after)
  unfolding dev_of
  role_done Origin dev is reply after law = origin_done reply after (subst (λ (d : Dev). AreWritten d first pieces bytes (arrays_with m) (arrays_with after) reply) (sym (same_ok devs.Origin dev is)) law)
  role_done (Under depth) dev is reply after law = absurd (not_ok _ dev is)
  role_done (Snapshot k) dev is reply after law =
      let got = came_by (snap_at k volume.state) _ dev is in
      snapshot_done k got.0 (snap_there k volume.state got.0 got.1) reply after (subst (λ (d : Dev). AreWritten d first pieces bytes (arrays_with m) (arrays_with after) reply) (sym (same_ok _ dev got.2)) law)
  role_done (Store k depth) dev is reply after law = absurd (not_ok _ dev is)
  role_done InMerging dev is reply after law = absurd (not_ok _ dev is)
  role_done (MergingStore depth) dev is reply after law = absurd (not_ok _ dev is)

  -- bytes that stand, by the role of the device
  role_first : (role : Role) (dev : Dev) → dev_of role volume.state ≡ Ok dev → (part : List ℕ) → IsLive dev (arrays_with m) → (after : Merged) → IsWritten dev first part (arrays_with m) (arrays_with after) → IsWrittenTo role first part before (seen_after after)
  unfolding dev_of
  role_first Origin dev is part live after law = origin_named volume.origin volume.snaps m after first part (subst (λ (d : Dev). IsWritten d first part (arrays_with m) (arrays_with after)) (sym (same_ok devs.Origin dev is)) law)
  role_first (Under depth) dev is part live after law = absurd (not_ok _ dev is)
  role_first (Snapshot k) dev is part live after law =
      let got = came_by (snap_at k volume.state) _ dev is in
      let same = sym (same_ok _ dev got.2) in
      snapshot_named volume.origin volume.snaps m after k got.0 well.numbered.named well.numbered.numbers (snap_there k volume.state got.0 got.1) first part
      (subst (λ (d : Dev). IsLive d (arrays_with m)) same live) (subst (λ (d : Dev). IsWritten d first part (arrays_with m) (arrays_with after)) same law)
  role_first (Store k depth) dev is part live after law = absurd (not_ok _ dev is)
  role_first InMerging dev is part live after law = absurd (not_ok _ dev is)
  role_first (MergingStore depth) dev is part live after law = absurd (not_ok _ dev is)

-- the arrays of a volume after a command
pub after_arrays : (volume : Volume) (count : ℕ) (s : Merged) → is_some s.merge ≡ is_some (merge_in volume.merging) → arrays_of (after_asking count s volume) ≡ arrays_at volume.origin volume.snaps s
after_arrays volume count s same = ap (λ (x : Merged). let a : Arrays = record { name = volume.origin; array = origin_shown x; snaps = named_by s.volume.origin.bytes volume.snaps s.volume.snaps } in a) (merged_is s volume (same ∙ begun volume.merging))
  where
    begun : (g : Option Begun) → is_some (merge_in g) ≡ is_some g
    begun None = refl
    begun (Some g) = refl

inside_by : (size first count : ℕ) (done : Unit {0}) → fits size first count ≡ Ok done → first + count ≤ size
inside_by size first count done is = elim (cases_Bool (nat_lt size (first + count))) [
  | inl past ↦ absurd (not_ok OutOfRange done (sym (cond-true _ _ _ past) ∙ is))
  | inr within ↦ grind (arith, within)
]

-- what is asked of a volume: its device and sectors that are there
pub asked_there : (role : Role) (first count : ℕ) (volume : Volume) (asks : Asked) → asked_of role first count volume ≡ Ok asks →
    (dev_of role volume.state ≡ Ok asks.dev) × (first + count ≤ sectors_of volume.state.origin) × (asks.span ≡ record { first = first; count = count; size = sectors_of volume.state.origin })
unfolding asked_of
asked_there role first count volume asks is =
    let a = came_by (serves role) _ asks is in
    let b = came_by (fits (sectors_of volume.state.origin) first count) _ asks a.2 in
    let c = came_by (dev_of role volume.state) _ asks b.2 in
    let d = came_by (takes count volume) _ asks c.2 in
    let e = same_ok _ asks d.2 in
    (c.1 ∙ ap (λ (x : Asked). ok x.dev) e, inside_by (sectors_of volume.state.origin) first count b.0 b.1, sym (ap (λ (x : Asked). x.span) e))
  where
    ok : Dev → Result Dev Refusal
    ok dev = Ok dev

-- a write of a volume that is well
pub write_shows : (role : Role) (first count : ℕ) (bytes : List ℕ) (volume : Volume) → IsWell volume → length bytes ≡ 512 * count → 0 < count → (let done : Did (Unit {0}) Volume = written_in role first count bytes volume in IsWriteDone role first bytes done.answer (arrays_of volume) (arrays_of done.left))
unfolding written_in
write_shows role first count bytes volume well len some = by (asked_of role first count volume) refl
  where
    by : (asks : Result Asked Refusal) → asked_of role first count volume ≡ asks → (let done : Did (Unit {0}) Volume = write_by count bytes volume asks in IsWriteDone role first bytes done.answer (arrays_of volume) (arrays_of done.left))
    by (Err refusal) is = inl refl
    by (Ok asks) is =
        let (dev, fits, span) = asked_there role first count volume asks is in
        let r : Answered Merged = written_beside asks.dev asks.span bytes (merged_in volume) in
        let law : AreWritten asks.dev first (pieces_of (chunk_beside (merged_in volume)) asks.span) bytes (arrays_with (merged_in volume)) (arrays_with r.state) r.reply =
        subst (λ (sp : Span). AreWritten asks.dev first (pieces_of (chunk_beside (merged_in volume)) sp) bytes (arrays_with (merged_in volume)) (arrays_with (written_beside asks.dev sp bytes (merged_in volume)).state) (written_beside asks.dev sp bytes (merged_in volume)).reply) (sym span)
        (whole_written volume well first count bytes len some fits asks.dev) in
        subst (IsWriteDone role first bytes (write_answer r.reply) (arrays_of volume)) (sym (after_arrays volume count r.state (served_begun asks.dev asks.span bytes (merged_in volume))))
        (role_done volume well first count bytes len some fits role asks.dev dev r.reply r.state (subst (λ (sp : Span). AreWritten asks.dev first (pieces_of (chunk_beside (merged_in volume)) sp) bytes (arrays_with (merged_in volume)) (arrays_with r.state) r.reply) span law))

-- a merge is begun after some first pieces where it was before
first_begun : (n : ℕ) (dev : Dev) (span : Span) (bytes : List ℕ) (m : Merged) → is_some (written_first_beside n dev span bytes m).state.merge ≡ is_some m.merge
first_begun n dev span bytes m = by m.merge
  where
    by : (o : Option Merge) → (let k : Merged = record { volume = m.volume; merge = o } in is_some (written_first_beside n dev span bytes k).state.merge ≡ is_some o)
    by None = refl
    by (Some g) = refl

module _ (volume : Volume) (well : IsWell volume) (first count : ℕ) (bytes : List ℕ) (len : length bytes ≡ 512 * count) (some : 0 < count) (fits : first + count ≤ sectors_of volume.state.origin) (role : Role) (dev : Dev) (is : dev_of role volume.state ≡ Ok dev) where
  abbrev Pieces : List Span
  Pieces = pieces_of (chunk_beside (merged_in volume)) (record { first = first; count = count; size = sectors_of volume.state.origin })

  abbrev done_first : ℕ → Answered Merged
  done_first n = written_first_beside n dev (record { first = first; count = count; size = sectors_of volume.state.origin }) bytes (merged_in volume)

  -- none of them
  none_done : (done_first 0).state ≡ merged_in volume
  none_done = by volume.merging
    where
      by : (g : Option Begun) → (let k : Merged = record { volume = volume.state; merge = merge_in g } in (written_first_beside 0 dev (record { first = first; count = count; size = sectors_of volume.state.origin }) bytes k).state ≡ k)
      by None = refl
      by (Some g) = refl

  pub first_shows : (n : ℕ) → n < length Pieces → (done_first n).reply ≡ Written → (new : Volume) (e : Refusal) → is_starved e ≡ true → new ≡ after_asking count (done_first n).state volume → IsWriteRefused role first bytes e (arrays_of volume) (arrays_of new)
  first_shows n lt wrote new e wanting left =
      let after : Merged = (done_first n).state in
      let shows : arrays_of new ≡ arrays_at volume.origin volume.snaps after = ap arrays_of left ∙ after_arrays volume count after (first_begun n dev (record { first = first; count = count; size = sectors_of volume.state.origin }) bytes (merged_in volume)) in
      subst (IsWriteRefused role first bytes e (arrays_of volume)) (sym shows) (by n lt wrote)
    where
      law : (n : ℕ) → (done_first n).reply ≡ Written → AreWritten dev first (take n Pieces) bytes (arrays_with (merged_in volume)) (arrays_with (done_first n).state) Written
      law n wrote = subst (AreWritten dev first (take n Pieces) bytes (arrays_with (merged_in volume)) (arrays_with (done_first n).state)) wrote
          (subst (λ (r : Answered Merged). AreWritten dev first (take n Pieces) bytes (arrays_with (merged_in volume)) (arrays_with r.state) r.reply) (sym (write_first n dev (record { first = first; count = count; size = sectors_of volume.state.origin }) bytes (merged_in volume)))
          (first_written volume well first count bytes len some fits dev n))

      by : (n : ℕ) → n < length Pieces → (done_first n).reply ≡ Written → IsWriteRefused role first bytes e (arrays_of volume) (arrays_at volume.origin volume.snaps (done_first n).state)
      by zero lt wrote = inl (ap (arrays_at volume.origin volume.snaps) none_done)
      by (suc n) lt wrote =
          let a = law (suc n) wrote in
          let sum : ℕ = sectors_in (take (suc n) Pieces) in
          inr (inr (inr (inr wanting), (sum, fewer_bytes volume well first count bytes len some fits (suc n) lt, role_first volume well first count bytes len some fits role dev is (take (512 * sum) bytes) (a.0 (many_first n Pieces lt)).0 (done_first (suc n)).state a.1)))
        where
          many_first : (n : ℕ) (ps : List Span) → suc n < length ps → 0 < length (take (suc n) ps)
          many_first n [] lt = absurd (omega (arith, lt))
          many_first n (p ∷ ps) lt = omega arith

-- some first pieces of a write, where memory, or the room of a journal, ran out
pub part_shows : (role : Role) (first count : ℕ) (bytes : List ℕ) (volume new : Volume) (e : Refusal) → is_starved e ≡ true → IsWell volume → length bytes ≡ 512 * count → 0 < count → IsPartWritten role first count bytes volume new → IsWriteRefused role first bytes e (arrays_of volume) (arrays_of new)
unfolding IsPartWritten
part_shows role first count bytes volume new e wanting well len some = by (asked_of role first count volume) refl
  where
    m : Merged
    m = merged_in volume

    by : (asks : Result Asked Refusal) → asked_of role first count volume ≡ asks → IsPartWrittenBy count bytes volume new asks → IsWriteRefused role first bytes e (arrays_of volume) (arrays_of new)
    by (Err refusal) is part = absurd part
    by (Ok asks) is part =
        let (dev, fits, span) = asked_there role first count volume asks is in
        first_shows volume well first count bytes len some fits role asks.dev dev part.pieces
        (subst (λ (sp : Span). part.pieces < length (pieces_of (chunk_beside (merged_in volume)) sp)) span part.fewer)
        (subst (λ (sp : Span). (written_first_beside part.pieces asks.dev sp bytes (merged_in volume)).reply ≡ Written) span part.done)
        new e wanting (part.left ∙ ap (λ (sp : Span). after_asking count (written_first_beside part.pieces asks.dev sp bytes (merged_in volume)).state volume) span)
