-- A read changes nothing where no read changes the layers of a device.
use Rattle.std.proofs.Common.{◌≡◌, inl, inr, ℕ, ◌+◌, ◌*◌, ◌%◌, ◌/◌, Bool, true, false, List, [], ◌∷◌, ◌++◌, map, Option, Some, None, refl, sym, ◌∙◌, ap, subst}
use Rattle.std.specs.Prelude.{◌==◌, if◌then◌else◌, take}
use Rattle.std.specs.List.{All}
use Rattle.std.proofs.lemmas.List.Elements.{All-nil, All-cons, All-head, All-tail}
use Rattle.device.specs.declared.operation.Operation.TheVariants.{Reads}
use Rattle.device.specs.Layers.{Layer, layers_after}
use Rattle.chunk.specs.Pieces.{Span, pieces_of}
use Rattle.cow_format.specs.Pairs.{pairs_of}
use Rattle.cow_format.specs.Picture.{place_of}
use Rattle.plain_machine.specs.declared.request.Dev.{Dev}
use Rattle.plain_machine.specs.declared.request.Dev.TheVariants.{Origin, Snap as ToSnap}
use Rattle.plain_machine.specs.declared.request.Reply.{Reply}
use Rattle.plain_machine.specs.declared.request.Reply.TheVariants.{Data, Written, Flushed, Refused}
use Rattle.whole_commands.specs.Devices.{Device, met}
use Rattle.whole_commands.specs.Snaps.{Snap, Volume}
use Rattle.whole_commands.specs.Pieces.{Answered, read_place, read_snap, in_snap}
use Rattle.whole_commands.specs.Commands.{read_piece, read_pieces, go_on, bytes_in, read, read_first, pieces_first}
use Rattle.whole_commands.specs.Merges.{Merge, Merged, Merging, merged_of as with_merge, with_store, place_in, sector_in, read_at, read_part, read_parts, read_through, least_chunk}
use Rattle.event_machine.specs.MergeRest.{merge_in}
use Rattle.event_machine.specs.MergeSeen.{held_in}
use Rattle.merge.specs.Merging.{Merging as MergingStack}
use Rattle.volume.specs.Moved.{merge_seen}
use Rattle.whole_commands.specs.Beside.{served_by, read_beside, read_first_beside, read_first_through}
use Rattle.volume_commands.specs.Rested.{Attached, Rested, snap_of, settled_of, merged_of, IsSettled}
use Rattle.volume_commands.specs.Commands.{IsDoneBy, IsReadRefused}
use Rattle.volume_commands.specs.Unread.{IsUnmoved, AreUnmoved}
use Rattle.whole_commands.specs.Saving.{Saving}

met_same : (device : Device) (first count : ℕ) → IsUnmoved device → met device (Reads first count) ≡ device
met_same device first count still = ap (λ (ls : List Layer). let d : Device = record { bytes = device.bytes; layers = ls } in d) (still first count)

-- a device and a snapshot that were served are as before
record IsSame (o : Device) (s : Snap) (a : Answered Saving) : Type 0 where
  pub origin : a.state.origin ≡ o
  pub snap : a.state.snap ≡ s

place_same : (piece : Span) (o : Device) (s : Snap) (at : Option ℕ) → IsUnmoved o → IsUnmoved s.store → IsSame o s (read_place piece o s at)
place_same piece o s None ho hs = record { origin = met_same o piece.first piece.count ho; snap = refl }
place_same piece o s (Some n) ho hs = record {
  origin = refl;
  snap = ap (λ (d : Device). let t : Snap = record s { store = d } in t) (met_same s.store (s.chunk * n + piece.first % s.chunk) piece.count hs);
}

either_same : (b : Bool) (o : Device) (s : Snap) (x y : Answered Saving) → IsSame o s x → IsSame o s y → IsSame o s (if b then x else y)
either_same true o s x y hx hy = hx
either_same false o s x y hx hy = hy

snap_same : (piece : Span) (o : Device) (s : Snap) → IsUnmoved o → IsUnmoved s.store → IsSame o s (read_snap piece o s)
snap_same piece o s ho hs = either_same s.live o s _ _ (place_same piece o s (place_of (pairs_of s.chunk s.store.bytes) (piece.first / s.chunk)) ho hs) (record { origin = refl; snap = refl })

here_same : (o : Device) (s : Snap) (ss : List Snap) (a : Answered Saving) → IsSame o s a → (let v : Volume = record { origin = a.state.origin; snaps = a.state.snap ∷ ss } in v) ≡ record { origin = o; snaps = s ∷ ss }
here_same o s ss a h =
    ap (λ (d : Device). let v : Volume = record { origin = d; snaps = a.state.snap ∷ ss } in v) h.origin
    ∙ ap (λ (t : Snap). let v : Volume = record { origin = o; snaps = t ∷ ss } in v) h.snap

later_same : (o : Device) (s : Snap) (ss : List Snap) (v : Volume) → v ≡ record { origin = o; snaps = ss } → (let w : Volume = record { origin = v.origin; snaps = s ∷ v.snaps } in w) ≡ record { origin = o; snaps = s ∷ ss }
later_same o s ss v h = ap (λ (u : Volume). let w : Volume = record { origin = u.origin; snaps = s ∷ u.snaps } in w) h

either_volume : (b : Bool) (v : Volume) (x y : Answered Volume) → x.state ≡ v → y.state ≡ v → (if b then x else y).state ≡ v
either_volume true v x y hx hy = hx
either_volume false v x y hx hy = hy

in_same : (number : ℕ) (piece : Span) (o : Device) (ss : List Snap) → IsUnmoved o → All (λ (s : Snap). IsUnmoved s.store) ss → (in_snap number (read_snap piece) o ss).state ≡ record { origin = o; snaps = ss }
in_same number piece o [] ho hs = refl
in_same number piece o (s ∷ ss) ho hs =
    either_volume (s.number == number) _ _ _
    (here_same o s ss (read_snap piece o s) (snap_same piece o s ho (All-head (λ (x : Snap). IsUnmoved x.store) s ss hs)))
    (later_same o s ss (in_snap number (read_snap piece) o ss).state (in_same number piece o ss ho (All-tail (λ (x : Snap). IsUnmoved x.store) s ss hs)))

piece_same : (dev : Dev) (piece : Span) (v : Volume) → AreUnmoved v → (read_piece dev piece v).state ≡ v
piece_same Origin piece v h = ap (λ (d : Device). let w : Volume = record { origin = d; snaps = v.snaps } in w) (met_same v.origin piece.first piece.count h.origin)
piece_same (ToSnap number) piece v h = in_same number piece v.origin v.snaps h.origin h.snaps

goes_on : (reply : Reply) (v : Volume) (here rest : Answered Volume) → here.state ≡ v → rest.state ≡ v → (go_on reply here rest).state ≡ v
goes_on (Data bytes) v here rest h r = r
goes_on Written v here rest h r = r
goes_on Flushed v here rest h r = r
goes_on (Refused failure) v here rest h r = h

pieces_same : (dev : Dev) (pieces : List Span) (before : List ℕ) (v : Volume) → AreUnmoved v → (read_pieces dev pieces before v).state ≡ v
pieces_same dev [] before v h = refl
pieces_same dev (piece ∷ pieces) before v h =
    let here : Answered Volume = read_piece dev piece v in
    let stays : here.state ≡ v = piece_same dev piece v h in
    let rest = pieces_same dev pieces (before ++ bytes_in here.reply) here.state (subst AreUnmoved (sym stays) h) in
    goes_on here.reply v here (read_pieces dev pieces (before ++ bytes_in here.reply) here.state) stays (rest ∙ stays)

-- a read
pub read_changes_nothing : (dev : Dev) (span : Span) (v : Volume) → AreUnmoved v → (read dev span v).state ≡ v
unfolding read
read_changes_nothing dev span v h = pieces_same dev _ [] v h

-- and the first pieces of one
pub read_first_changes_nothing : (count : ℕ) (dev : Dev) (span : Span) (v : Volume) → AreUnmoved v → (read_first count dev span v).state ≡ v
read_first_changes_nothing count dev span v h = pieces_same dev (pieces_first count span v) [] v h

-- nor those of the merging store
abbrev pub HasUnmoved : Option Merge → Type 0
HasUnmoved None = Unit {0}
HasUnmoved (Some g) = IsUnmoved g.store

-- one piece beside a merge
at_same : (place : Option ℕ) (piece : Span) (m : Merging) → AreUnmoved m.volume → IsUnmoved m.merge.store → (read_at place piece m).state ≡ m
at_same None piece m hv hg = ap (λ (v : Volume). let n : Merging = record { volume = v; merge = m.merge } in n) (piece_same Origin piece m.volume hv)
at_same (Some n) piece m hv hg = ap (λ (d : Device). with_store m d) (met_same m.merge.store (sector_in n piece m.merge) piece.count hg)

part_same : (dev : Dev) (piece : Span) (m : Merging) → AreUnmoved m.volume → IsUnmoved m.merge.store → (read_part dev piece m).state ≡ m
part_same Origin piece m hv hg = at_same (place_in piece.first m.merge) piece m hv hg
part_same (ToSnap number) piece m hv hg = ap (λ (v : Volume). let n : Merging = record { volume = v; merge = m.merge } in n) (piece_same (ToSnap number) piece m.volume hv)

goes_on_beside : (reply : Reply) (m : Merging) (here rest : Answered Merging) → here.state ≡ m → rest.state ≡ m → (go_on reply here rest).state ≡ m
goes_on_beside (Data bytes) m here rest h r = r
goes_on_beside Written m here rest h r = r
goes_on_beside Flushed m here rest h r = r
goes_on_beside (Refused failure) m here rest h r = h

parts_same : (dev : Dev) (pieces : List Span) (before : List ℕ) (m : Merging) → AreUnmoved m.volume → IsUnmoved m.merge.store → (read_parts dev pieces before m).state ≡ m
parts_same dev [] before m hv hg = refl
parts_same dev (piece ∷ pieces) before m hv hg =
    let here : Answered Merging = read_part dev piece m in
    let stays : here.state ≡ m = part_same dev piece m hv hg in
    let rest = parts_same dev pieces (before ++ bytes_in here.reply) here.state (subst (λ (n : Merging). AreUnmoved n.volume) (sym stays) hv) (subst (λ (n : Merging). IsUnmoved n.merge.store) (sym stays) hg) in
    goes_on_beside here.reply m here (read_parts dev pieces (before ++ bytes_in here.reply) here.state) stays (rest ∙ stays)

through_same : (dev : Dev) (span : Span) (m : Merging) → AreUnmoved m.volume → IsUnmoved m.merge.store → (read_through dev span m).state ≡ m
unfolding read_through
through_same dev span m hv hg = parts_same dev (pieces_of (least_chunk m) span) [] m hv hg

-- a command, by what it is without a merge and with one
either_done : (without : Volume → Answered Volume) (through : Merging → Answered Merging) (o : Option Merge) (v : Volume)
    → (without v).state ≡ v → ((g : Merge) → o ≡ Some g → (through (record { volume = v; merge = g })).state ≡ record { volume = v; merge = g })
    → (served_by without through o v).state ≡ record { volume = v; merge = o }
either_done without through None v alone beside = ap (λ (w : Volume). let m : Merged = record { volume = w; merge = None } in m) alone
either_done without through (Some g) v alone beside = ap (λ (m : Merging). with_merge m) (beside g refl)

store_of : (o : Option Merge) (g : Merge) → HasUnmoved o → o ≡ Some g → IsUnmoved g.store
store_of o g h is = subst HasUnmoved is h

-- a read of a volume that may have a merge begun
pub read_leaves_all : (dev : Dev) (span : Span) (m : Merged) → AreUnmoved m.volume → HasUnmoved m.merge → (read_beside dev span m).state ≡ m
unfolding read_beside
read_leaves_all dev span m hv hg =
    either_done (read dev span) (read_through dev span) m.merge m.volume
    (read_changes_nothing dev span m.volume hv)
    (λ g is. through_same dev span (record { volume = m.volume; merge = g }) hv (store_of m.merge g hg is))

-- and the first pieces of one
pub read_first_leaves_all : (count : ℕ) (dev : Dev) (span : Span) (m : Merged) → AreUnmoved m.volume → HasUnmoved m.merge → (read_first_beside count dev span m).state ≡ m
read_first_leaves_all count dev span m hv hg =
    either_done (read_first count dev span) (read_first_through count dev span) m.merge m.volume
    (read_first_changes_nothing count dev span m.volume hv)
    (λ g is. parts_same dev (take count (pieces_of (least_chunk (record { volume = m.volume; merge = g })) span)) [] (record { volume = m.volume; merge = g }) hv (store_of m.merge g hg is))

-- a volume over devices whose layers no read changes
module _ {B : Type 0} (contents : B → List ℕ) (layers : B → List Layer) (reads : (d : B) (first count : ℕ) → layers_after (layers d) (Reads first count) ≡ layers d) where
  snaps_unmoved : (xs : List (Attached B)) → All (λ (s : Snap). IsUnmoved s.store) (map (snap_of contents layers) xs)
  snaps_unmoved [] = All-nil (λ (s : Snap). IsUnmoved s.store)
  snaps_unmoved (x ∷ xs) = All-cons (λ (s : Snap). IsUnmoved s.store) (snap_of contents layers x) (map (snap_of contents layers) xs) (reads x.store) (snaps_unmoved xs)

  are_unmoved : (v : Rested B) → AreUnmoved (settled_of contents layers v)
  are_unmoved v = record { origin = reads v.origin; snaps = snaps_unmoved v.snaps }

  has_unmoved : (o : Option (MergingStack B)) → HasUnmoved (merge_in (held_in (merge_seen contents layers o)))
  has_unmoved None = tt
  has_unmoved (Some m) = reads m.device

  -- a command that leaves the settled machine's volume and its merge as they are
  by_command : (command : Merged → Answered Merged) (reply : Reply) (old new : Rested B) → ((m : Merged) → AreUnmoved m.volume → HasUnmoved m.merge → (command m).state ≡ m) → IsDoneBy contents layers command reply old new
      → IsSettled layers old → merged_of contents layers new ≡ merged_of contents layers old
  by_command command reply old new still done settled = ap (λ (a : Answered Merged). a.state) (sym (done settled)) ∙ still (merged_of contents layers old) (are_unmoved old) (has_unmoved old.events.merge)

  -- a read that is done
  pub read_leaves : (dev : Dev) (span : Span) (reply : Reply) (old new : Rested B) → IsDoneBy contents layers (read_beside dev span) reply old new → IsSettled layers old → merged_of contents layers new ≡ merged_of contents layers old
  read_leaves dev span reply old new = by_command (read_beside dev span) reply old new (read_leaves_all dev span)

  -- and one that is refused
  pub refused_read_leaves : (dev : Dev) (span : Span) (refusal : _) (old new : Rested B) → IsReadRefused contents layers dev span refusal old new → IsSettled layers old → merged_of contents layers new ≡ merged_of contents layers old
  refused_read_leaves dev span refusal old new why settled = elim why [
    | inl missing ↦ ap (merged_of contents layers) missing.2
    | inr there ↦ elim there [
      | inl failed ↦ read_leaves dev span _ old new failed.1.2 settled
      | inr starved ↦ by_command (read_first_beside starved.2.0 dev span) (Data starved.2.1) old new (read_first_leaves_all starved.2.0 dev span) starved.2.3 settled
    ]
  ]
