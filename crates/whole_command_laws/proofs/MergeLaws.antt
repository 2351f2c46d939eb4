-- What commands of a merge leave: the whole merge, a resume, a finish, and requests of the other snapshots.
use Rattle.std.proofs.Common.{◌≡◌, ℕ, ◌<◌, true, false, List, [], length, refl, ap, ◌∙◌, sym}
use Rattle.std.specs.Prelude.{nat_lt, Some, None}
use Rattle.std.proofs.lemmas.Bool.{cond-true, cond-false, lt-ltb}
use Rattle.chunk.specs.Sizes.{is_chunk}
use Rattle.chunk.specs.Pieces.{Span}
use Rattle.cow_format.specs.Picture.{picture}
use Rattle.plain_machine.specs.declared.request.Dev.{Dev}
use Rattle.plain_machine.specs.declared.request.Dev.TheVariants.{Snap as ToSnap}
use Rattle.plain_machine.specs.declared.request.Op.{Op}
use Rattle.plain_machine.specs.declared.request.Op.TheVariants.{Read, Write, Flush}
use Rattle.volume_laws.proofs.Attaching.{picture_none}
use Rattle.whole_commands.specs.Snaps.{Snap, Volume}
use Rattle.whole_commands.specs.Pieces.{write_snap, read_snap, flush_snap, Answered}
use Rattle.whole_commands.specs.Requests.{answered_by}
use Rattle.whole_commands.specs.Merges.{Merging, merged_of, pairs_in, snap_named, least_chunk, merge_all, merged, resumed, Finished, finished, beside}
use Rattle.whole_commands.specs.MergeShown.{IsMerging, IsUnseen, origin_shown, shown_through}
use Rattle.whole_command_laws.specs.Undone.{IsVolume, IsAsked, Spares}
use Rattle.whole_commands.proofs.Each.{each_from, all_from}
use Rattle.whole_commands.proofs.Chunks.{HasChunks, wide_allowed}
use Rattle.whole_command_laws.proofs.MergeSaves.{HasLeast, has_least}
use Rattle.whole_command_laws.proofs.MergeBegins.{unmerged}
use Rattle.whole_command_laws.proofs.MergeShows.{unseen_still}
use Rattle.whole_command_laws.proofs.MergeEnds.{merge_unseen}
use Rattle.whole_commands.proofs.Named.{WasShown, one_bytes, write_bytes, is_read, is_flushed}
use Rattle.whole_command_laws.proofs.Undoes.{answer_well, one_shows}

-- the whole merge is one step that nobody sees
pub merged_shows : (sectors : ℕ) (m : Merging) → IsMerging sectors m → (merged (merged_of m) ≡ merged_of (merge_all m)) × (origin_shown (merged (merged_of m)) ≡ origin_shown (merged_of m))
merged_shows sectors m is = (refl, (merge_unseen sectors m is).origin)

-- a merge that goes on, which had failed or not
abbrev pub going_on : Merging → Merging
going_on m = record m { merge = record m.merge { failed = false } }

pub resumed_unseen : (sectors : ℕ) (m : Merging) → IsMerging sectors m → (resumed (merged_of m) ≡ merged_of (going_on m)) × IsUnseen sectors m (going_on m)
resumed_unseen sectors m is = (refl, unseen_still sectors m (going_on m) is refl refl refl refl refl)

-- a finish takes the merge out where no pair is left, and gives its store back; the origin shows what it showed
pub finish_leaves : (m : Merging) → pairs_in m.merge ≡ [] → (finished (merged_of m) ≡ record { state = unmerged m.volume; back = Some (record { device = m.merge.store; stale = false }) }) × (origin_shown (finished (merged_of m)).state ≡ origin_shown (merged_of m))
finish_leaves m none =
    let done : Finished = record { state = unmerged m.volume; back = Some (record { device = m.merge.store; stale = false }) } in
    let not_some : nat_lt 0 (length (pairs_in m.merge)) ≡ false = ap (λ ps. nat_lt 0 (length ps)) none in
    let is : finished (merged_of m) ≡ done = cond-false _ _ _ not_some in
    (is, ap (λ (x : Finished). origin_shown x.state) is ∙ sym (picture_none m.merge.chunk m.volume.origin.bytes m.merge.store.bytes none))

-- where a pair is left a finish changes nothing
pub finish_waits : (m : Merging) → 0 < length (pairs_in m.merge) → finished (merged_of m) ≡ record { state = merged_of m; back = None }
finish_waits m some = cond-true _ _ _ (lt-ltb _ _ some)

-- a volume whose origin is merged into, without the merge
pub volume_well : (sectors : ℕ) (m : Merging) → IsMerging sectors m → IsVolume sectors (least_chunk m) m.volume
volume_well sectors m is =
    let fits : HasLeast m = has_least sectors m is in
    record { whole = is.whole; snaps = is.snaps; allowed = fits.allowed; chunks = all_from (HasChunks (least_chunk m)) m.volume.snaps fits.snaps }

pub snap_bytes : (n : ℕ) (op : Op) (piece : Span) (v : Volume) → (answered_by (ToSnap n) op piece v).state.origin.bytes ≡ v.origin.bytes
snap_bytes n Read piece v = one_bytes n (read_snap piece) (λ origin s. (is_read piece origin s).bytes) v.origin v.snaps
snap_bytes n (Write bytes) piece v = one_bytes n (write_snap piece bytes) (write_bytes piece bytes) v.origin v.snaps
snap_bytes n Flush piece v = one_bytes n flush_snap (λ origin s. (is_flushed origin s).bytes) v.origin v.snaps

-- A request of another snapshot while a merge is begun: the origin shows what it showed, and so does each snapshot that the
-- request spares.
pub record SnapServed (sectors : ℕ) (dev : Dev) (op : Op) (m : Merging) (r : Answered Merging) : Type 0 where
  pub holds : IsMerging sectors r.state
  pub merge : r.state.merge ≡ m.merge
  pub origin : shown_through r.state ≡ shown_through m
  pub others : (number : ℕ) (t : Snap) → Spares number dev op → snap_named number r.state.volume.snaps ≡ Some t → WasShown number m.volume.origin.bytes r.state.volume.origin.bytes m.volume.snaps t

pub snap_served : (sectors n : ℕ) (op : Op) (piece : Span) (m : Merging) → IsMerging sectors m → IsAsked sectors (least_chunk m) (record { dev = ToSnap n; op = op; piece = piece }) → SnapServed sectors (ToSnap n) op m (beside m.merge (answered_by (ToSnap n) op piece m.volume))
snap_served sectors n op piece m is fit =
    let well = volume_well sectors m is in
    let left : List Snap = (answered_by (ToSnap n) op piece m.volume).state.snaps in
    let HasSize : Snap → Type 0 = λ (s : Snap). is_chunk s.chunk ≡ true in
    let after = answer_well sectors (least_chunk m) (record { dev = ToSnap n; op = op; piece = piece }) m.volume well fit in
    record {
      holds = record { whole = after.whole; merge = is.merge; snaps = after.snaps; allowed = is.allowed; chunks = all_from HasSize left (wide_allowed (least_chunk m) left (each_from (HasChunks (least_chunk m)) left after.chunks)) };
      merge = refl;
      origin = ap (λ b. picture m.merge.chunk b m.merge.store.bytes) (snap_bytes n op piece m.volume);
      others = λ number t spares named. one_shows sectors (least_chunk m) number piece m.volume well fit.some fit.inside fit.one (ToSnap n) op fit.bytes spares t named;
    }
