-- Devices that are made, and taken away.
use Rattle.std.proofs.Common.{◌≡◌, ℕ, ◌+◌, Bool, true, false, List, [], ◌∷◌, ◌++◌, length, refl, ap, ◌∙◌, sym, subst}
use Rattle.std.specs.Prelude.{◌&&◌, ◌||◌, if◌then◌else◌, Option, Some, None, Result, Ok, Err, is_some, nat_lt}
use Rattle.std.specs.List.{remove}
use Rattle.std.proofs.lemmas.Bool.{cond-true, true≢false}
use Rattle.sector.specs.declared.refusal.Refusal.{Refusal}
use Rattle.sector.specs.declared.refusal.Refusal.TheVariants.{Busy, TooMany, Stale, BadChunk}
use Rattle.plain_machine.specs.declared.request.Overflowing.{Overflowing}
use Rattle.plain_machine.specs.Plain.{Saved, Live, overflow_of}
use Rattle.whole_commands.specs.Snaps.{Snap, Volume as Settled}
use Rattle.chunk.specs.Sizes.{is_chunk}
use Rattle.cow_format.specs.Picture.{picture}
use Rattle.whole_commands.specs.Devices.{Device, sectors_of}
use Rattle.whole_commands.specs.MergeShown.{array_of}
use Rattle.whole_commands.specs.Attaching.{Tried, Store, Attached, open_store, refused_attach, taken_by, with_tried, attached}
use Rattle.whole_commands.proofs.Tried.{TakenAs}
use Rattle.whole_commands.proofs.Shows.{ShowsOver, open_shows}
use Rattle.chunk.proofs.Limits.{is_chunk-some}
use Rattle.snapshot.specs.Opening.{shown_as, shown_array}
use Rattle.command_semantics.specs.State.{Stacked, Names, Merging, Volume, Table, merge_in}
use Rattle.words.specs.Given.{◌>>=◌}
use Rattle.command_semantics.specs.Places.{stack_at, volume_at}
use Rattle.command_semantics.specs.Layers.{top}
use Rattle.command_semantics.specs.Origins.{same_size, origin_on, origin_made, stack_under, still, closed}
use Rattle.command_semantics.specs.Snapshots.{store_of, with_snapshot, kept_out, attached_to, meet}
use Rattle.command_semantics.proofs.Keeping.{came_by, same_ok, not_ok}
use Rattle.commands_on_saved_arrays.specs.Arrays.{Named, named_by, arrays_of, arrays_in}
use Rattle.commands_on_saved_arrays.specs.Commands.{IsSnapshotMade, stack_named}
use Rattle.commands_on_saved_arrays.proofs.Tables.{one_more, one_less, named_more}
use Rattle.command_semantics.proofs.TriedOver.{open_over}

-- a stack by its name
pub stack_is : (name : List ℕ) (table : Table) (i : ℕ) (stacked : Stacked) → top name table ≡ Ok i → stack_at i table ≡ Ok stacked → stack_named name table ≡ Ok stacked
stack_is name table i stacked at is = ap (λ (r : Result ℕ Refusal). r >>= λ k. stack_at k table) at ∙ is

-- an origin is made: it shows the bytes of its device
pub origin_shows : (name : List ℕ) (sectors : ℕ) (device : List ℕ) (table new : Table) → origin_made name sectors device table ≡ Ok new →
    (under : Stacked) × (stack_named device table ≡ Ok under) × (arrays_in new ≡ arrays_in table ++ (record { name = name; array = under.device.bytes; snaps = [] }) ∷ [])
unfolding origin_made
origin_shows name sectors device table new is =
    let a = came_by (top device table) _ new is in
    let b = came_by (stack_at a.0 table) _ new a.2 in
    let c = came_by (same_size sectors (sectors_of b.0.device)) _ new b.2 in
    (b.0, stack_is device table a.0 b.0 a.1 b.1, ap arrays_in (sym (same_ok _ new c.2)) ∙ one_more table.volumes (origin_on name b.0))

-- an origin is taken away
pub closed_shows : (v : ℕ) (table new : Table) → closed v table ≡ Ok new → arrays_in new ≡ remove (arrays_in table) v
unfolding closed
closed_shows v table new is =
    let a = came_by (volume_at v table) _ new is in
    by a.0 (nat_lt 0 (length a.0.snaps) || is_some a.0.merging) a.2
  where
    by : (volume : Volume) (busy : Bool) → (if busy then Err Busy else (still volume >>= λ _. Ok (record { stacks = table.stacks ++ stack_under volume ∷ []; volumes = remove table.volumes v }))) ≡ Ok new → arrays_in new ≡ remove (arrays_in table) v
    by volume true h = absurd (not_ok Busy new h)
    by volume false h =
        let b = came_by (still volume) _ new h in
        ap arrays_in (sym (same_ok _ new b.2)) ∙ one_less table.volumes v

-- an attach that is not refused, over a store with these bytes: there is one snapshot more, it is live, the origin has the bytes
-- that it had, and no merge is begun
pub record IsTakenOver (store : List ℕ) (merging : Bool) (v : Settled) (a : Attached) : Type 0 where
  pub snap : Snap
  pub origin : Device
  pub live : snap.live ≡ true
  pub same : origin.bytes ≡ v.origin.bytes
  pub shows : picture snap.chunk v.origin.bytes snap.store.bytes ≡ shown_array v.origin.bytes store
  pub alone : merging ≡ false
  pub becomes : a.volume ≡ record { origin = origin; snaps = v.snaps ++ snap ∷ [] }

abbrev IsTaken : List ℕ → Bool → Settled → Attached → Type 0
IsTaken store merging v a = a.refused ≡ None → IsTakenOver store merging v a

module _ (store : List ℕ) (v : Settled) where
  either : (m b : Bool) (x y : Attached) → IsTaken store m v x → IsTaken store m v y → IsTaken store m v (if b then x else y)
  either m true x y hx hy = hx
  either m false x y hx hy = hy

  not_taken : (m : Bool) (refusal : Refusal) (from : Store) → IsTaken store m v (refused_attach refusal from v)
  not_taken m refusal from none = absurd (cc)

  taken : (number : ℕ) (overflow : Overflowing) (o device : Device) (outcome : Result ℕ Refusal) → o.bytes ≡ v.origin.bytes → TakenAs (ShowsOver v.origin.bytes (shown_array v.origin.bytes store)) outcome device → IsTaken store false v (taken_by number overflow device outcome (record { origin = o; snaps = v.snaps }))
  taken number overflow o device (Err refusal) same shows none = absurd (cc)
  taken number overflow o device (Ok chunk) same shows none = record {
    snap = record { number = number; chunk = chunk; live = true; stale = false; overflow = overflow; store = device };
    origin = o;
    live = refl;
    same = same;
    shows = shows;
    alone = refl;
    becomes = refl;
  }

  -- by whether the line's chunk has a size that is allowed
  tried : (number chunk : ℕ) (overflow : Overflowing) (from : Store) → store ≡ from.device.bytes → (b : Bool) → is_chunk chunk ≡ b → IsTaken store false v (if b then with_tried number overflow (open_store chunk v.origin from.device) v else refused_attach BadChunk from v)
  tried number chunk overflow from bytes false is = not_taken false BadChunk from
  tried number chunk overflow from bytes true is =
      let t : Tried = open_store chunk v.origin from.device in
      let disk : List ℕ = v.origin.bytes in
      taken number overflow t.origin t.device t.outcome (open_over disk chunk v.origin refl from.device).same
      (subst (λ (b : List ℕ). TakenAs (ShowsOver disk (shown_array disk b)) t.outcome t.device) (sym bytes) (open_shows chunk v.origin from.device disk (shown_as disk from.device.bytes) refl (λ own. refl) (is_chunk-some chunk is)))

  -- and whether a merge is begun
  beside : (m : Bool) (kept : Refusal) (from : Store) (number chunk : ℕ) (overflow : Overflowing) → store ≡ from.device.bytes → IsTaken store m v (if m then refused_attach kept from v else attached number chunk overflow from v)
  unfolding attached
  beside true kept from number chunk overflow bytes = not_taken true kept from
  beside false kept from number chunk overflow bytes =
      either false from.stale _ _ (not_taken false Stale from)
      (either false (nat_lt (length v.snaps) 8 && nat_lt number 4_294_967_296) _ _ (tried number chunk overflow from bytes (is_chunk chunk) refl) (not_taken false TooMany from))

is_taken : (chunk : ℕ) (overflow : Bool) (stacked : Stacked) (volume : Volume) → IsTaken stacked.device.bytes (is_some volume.merging) volume.state (attached_to chunk overflow stacked volume)
unfolding attached_to
is_taken chunk overflow stacked volume = beside stacked.device.bytes volume.state (is_some volume.merging) (kept_out stacked) (store_of stacked) (volume.given + 1) chunk (overflow_of overflow) refl

-- without a merge the origin shows its disk
unmerged_disk : (disk : List ℕ) (m : Option Merging) → is_some m ≡ false → array_of disk (merge_in m) ≡ disk
unmerged_disk disk None alone = refl
unmerged_disk disk (Some g) alone = absurd (true≢false alone)

-- the volume then
pub met_shows : (name : List ℕ) (chunk : ℕ) (overflow : Bool) (stacked : Stacked) (volume : Volume) → length volume.snaps ≡ length volume.state.snaps → (meet name chunk overflow stacked volume).refused ≡ None → IsSnapshotMade name stacked.device.bytes (arrays_of volume) (arrays_of (meet name chunk overflow stacked volume).volume)
unfolding meet
met_shows name chunk overflow stacked volume len none =
    let a : Attached = attached_to chunk overflow stacked volume in
    let t = is_taken chunk overflow stacked volume none in
    let s : Snap = t.snap in
    let disk : List ℕ = volume.state.origin.bytes in
    let store : List ℕ = stacked.device.bytes in
    let new : Names = record { snapshot = name; store = stacked.names; overflow = overflow } in
    let made : Saved → Named = λ (b : Saved). record { name = name; saved = b } in
    let plain : array_of disk (merge_in volume.merging) ≡ disk = unmerged_disk disk volume.merging t.alone in
    subst (λ (w : Settled). IsSnapshotMade name store (arrays_of volume) (arrays_of (with_snapshot name overflow stacked w volume))) (sym t.becomes) (record {
      same = refl;
      array = ap (λ (d : List ℕ). array_of d (merge_in volume.merging)) t.same;
      snaps = named_more t.origin.bytes volume.snaps volume.state.snaps new s len
          ∙ ap (λ (b : Saved). named_by t.origin.bytes volume.snaps volume.state.snaps ++ made b ∷ []) (cond-true _ _ _ t.live)
          ∙ ap (λ (d : List ℕ). named_by d volume.snaps volume.state.snaps ++ made (Live (picture s.chunk d s.store.bytes)) ∷ []) t.same
          ∙ ap (λ (b : List ℕ). named_by disk volume.snaps volume.state.snaps ++ made (Live b) ∷ []) (t.shows ∙ ap (λ (d : List ℕ). shown_array d store) (sym plain));
    })
