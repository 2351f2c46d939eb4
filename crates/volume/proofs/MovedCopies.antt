-- The events of a copy: it is read from the origin disk, and written to its place.
use Rattle.std.proofs.Common.{◌≡◌, ℕ, ◌*◌, ◌/◌, Bool, true, false, List, [], ◌∷◌, Option, length, set, map, refl, sym, ◌∙◌, ap, arith}
use Rattle.std.specs.Prelude.{if◌then◌else◌}
use Rattle.std.specs.List.{list_any}
use Rattle.sector.specs.Bytes.{sectors_at, with_sectors}
use Rattle.sector.specs.declared.pair.Pair.{Pair}
use Rattle.device.specs.Layers.{Layer}
use Rattle.device.specs.declared.operation.Operation.{Operation}
use Rattle.device.specs.declared.operation.Operation.TheVariants.{Reads, Writes}
use Rattle.plain_machine.specs.declared.event.Event.TheVariants.{CopyRead, CopyWrite}
use Rattle.plain_machine.specs.declared.request.Reply.{Reply}
use Rattle.in_flight.specs.Copies.{count_of}
use Rattle.in_flight.specs.Due.{is_stage}
use Rattle.in_flight.specs.Routes.{refused_of}
use Rattle.in_flight.specs.declared.copies.Stage.{Stage}
use Rattle.in_flight.specs.declared.copies.Stage.TheVariants.{Waiting, Read, Written}
use Rattle.in_flight.specs.declared.copies.ChunkCopy.{ChunkCopy}
use Rattle.store.specs.Operations.{IsOneOperation}
use Rattle.whole_commands.specs.Devices.{answers, met}
use Rattle.event_machine.specs.Held.{Copying, SnapHeld, Moving, with_store}
use Rattle.event_machine.specs.Stepping.{for_some, first_that, with_first, put, spoil, store_write, is_copy, on_copy, read_copy, write_copy, stepped}
use Rattle.event_machine.specs.Seen.{copying_of}
use Rattle.snapshot.specs.Kept.{Kept}
use Rattle.snapshot.specs.Calls.{GoesTo}
use Rattle.volume.specs.Volumed.{Volumed}
use Rattle.snapshot_list.specs.Finding.{is_copy_of, has_copy_at}
use Rattle.volume.specs.Moved.{device_of, held_of, moving_of}
use Rattle.volume.proofs.MovedLists.{IsFirst, first_by_test, first_is, with_is, any_seen, if_true, if_false}
use Rattle.volume.proofs.MovedSnaps.{changed, spoilt, met_is, put_is, spoil_is, write_is, fail_is}

-- what was read of a copy's chunk: nothing while it waits
abbrev bytes_at : Stage → List ℕ → List ℕ
bytes_at stage bytes = if is_stage Waiting stage then [] else bytes

-- a copy by its parts
copying_by : (n n' : ℕ) (p p' : Pair) (s s' : Stage) (b b' : List ℕ) → n ≡ n' → p ≡ p' → s ≡ s' → b ≡ b'
    → ◌≡◌ {A = Copying} (record { number = n; pair = p; stage = s; bytes = b }) (record { number = n'; pair = p'; stage = s'; bytes = b' })
copying_by n n' p p' s s' b b' pn pp ps pb =
    ap (λ (x : ℕ). record { number = x; pair = p; stage = s; bytes = b }) pn
    ∙ ap (λ (x : Pair). record { number = n'; pair = x; stage = s; bytes = b }) pp
    ∙ ap (λ (x : Stage). record { number = n'; pair = p'; stage = x; bytes = b }) ps
    ∙ ap (λ (x : List ℕ). record { number = n'; pair = p'; stage = s'; bytes = x }) pb

-- a copy that went on, as it is seen
went : (far : Stage) (bytes : List ℕ) (p q : ChunkCopy) → bytes_at far bytes ≡ bytes → GoesTo far bytes p q → record (copying_of p) { stage = far; bytes = bytes } ≡ copying_of q
went far bytes p q kept g =
    sym (copying_by q.number p.number q.pair p.pair q.stage far (bytes_at q.stage q.buffer.items) bytes g.number g.pair g.stage
    (ap (λ (s : Stage). bytes_at s q.buffer.items) g.stage ∙ ap (λ (b : List ℕ). bytes_at far b) g.buffer ∙ kept))

-- an origin's sectors
pub sectors_is : (bytes : List ℕ) (n : ℕ) → length bytes ≡ 512 * n → length bytes / 512 ≡ n
sectors_is bytes n e = omega (arith, e)

module _ {B : Type 0} (contents : B → List ℕ) (layers : B → List Layer) (replied : Option Reply) (v : Volumed B) (stage : Stage) (n k j : ℕ) (s : Kept B) (p : ChunkCopy)
    (found : IsFirst (λ (x : Kept B). has_copy_at stage n x) k s v.snaps) (copy : IsFirst (is_copy_of stage n) j p s.copies) where
  -- the test of a snapshot, as the event has it
  abbrev has : SnapHeld → Bool
  has h = list_any (is_copy stage n) h.copies

  seen : IsFirst (λ x. has (held_of contents layers x)) k s v.snaps
  seen = first_by_test (λ (x : Kept B). has_copy_at stage n x) (λ x. has (held_of contents layers x)) k s v.snaps (λ x. sym (any_seen copying_of (is_copy stage n) (is_copy_of stage n) x.copies (λ c. refl))) found

  mine : IsFirst (λ c. is_copy stage n (copying_of c)) j p s.copies
  mine = first_by_test (is_copy_of stage n) (λ c. is_copy stage n (copying_of c)) j p s.copies (λ c. refl) copy

  on_copy_is : (f : (SnapHeld → Bool) → (Copying → Bool) → SnapHeld → Copying → Moving → Moving)
      → on_copy stage n f (moving_of contents layers replied v) ≡ f has (is_copy stage n) (held_of contents layers s) (copying_of p) (moving_of contents layers replied v)
  on_copy_is f =
      let m : Moving = moving_of contents layers replied v in
      ap (λ (x : Option SnapHeld). for_some x (λ h. for_some (first_that (is_copy stage n) h.copies) (λ c. f has (is_copy stage n) h c m) m) m) (first_is (held_of contents layers) has k s v.snaps seen)
      ∙ ap (λ (x : Option Copying). for_some x (λ c. f has (is_copy stage n) (held_of contents layers s) c m) m) (first_is copying_of (is_copy stage n) j p s.copies mine)

  -- the snapshot with the copy gone on
  copies_is : (far : Stage) (bytes : List ℕ) (q : ChunkCopy) → bytes_at far bytes ≡ bytes → GoesTo far bytes p q
      → with_first (is_copy stage n) (record (copying_of p) { stage = far; bytes = bytes }) (map copying_of s.copies) ≡ map copying_of (set s.copies j q)
  copies_is far bytes q kept g = ap (λ (x : Copying). with_first (is_copy stage n) x (map copying_of s.copies)) (went far bytes p q kept g) ∙ with_is copying_of (is_copy stage n) j p q s.copies mine

module _ {B : Type 0} (contents : B → List ℕ) (layers : B → List Layer) (replied : Option Reply) (v : Volumed B) (n k j : ℕ) (s : Kept B) (p : ChunkCopy) where
  module _ (found : IsFirst (λ (x : Kept B). has_copy_at Waiting n x) k s v.snaps) (copy : IsFirst (is_copy_of Waiting n) j p s.copies)
      (sectors : length (contents v.origin) ≡ 512 * s.state.origin) (faults faults' done done' : ℕ) (o' : B) (same : contents o' ≡ contents v.origin) where
    abbrev size : ℕ
    size = count_of s.state.chunk s.state.origin p.pair.old

    count_is : count_of s.state.chunk (length (contents v.origin) / 512) p.pair.old ≡ size
    count_is = ap (λ x. count_of s.state.chunk x p.pair.old) (sectors_is (contents v.origin) s.state.origin sectors)

    -- with as many sectors as the event has it
    abbrev reading : ℕ → Moving
    reading count =
        let m : Moving = moving_of contents layers replied v in
        let h : SnapHeld = held_of contents layers s in
        let op : Operation = Reads (s.state.chunk * p.pair.old) count in
        let read : Copying = record (copying_of p) { stage = Read; bytes = sectors_at (contents v.origin) (s.state.chunk * p.pair.old) count } in
        let w : Moving = record m { origin = met m.origin op } in
        if answers m.origin op then put (has contents layers replied v Waiting n k j s p found copy) (record h { copies = with_first (is_copy Waiting n) read h.copies }) w
        else spoil (has contents layers replied v Waiting n k j s p found copy) h w

    reading_is : stepped (CopyRead n) (moving_of contents layers replied v) ≡ reading size
    reading_is = on_copy_is contents layers replied v Waiting n k j s p found copy read_copy ∙ ap reading count_is

    -- the chunk is read
    pub copy_read_done : (q : ChunkCopy) (s' : Kept B) → IsOneOperation (Reads (s.state.chunk * p.pair.old) size) true (layers v.origin) (layers o') faults faults' done done'
        → GoesTo Read (sectors_at (contents v.origin) (s.state.chunk * p.pair.old) size) p q → s' ≡ record s { copies = set s.copies j q }
        → stepped (CopyRead n) (moving_of contents layers replied v) ≡ moving_of contents layers replied (changed v o' k s' v.flights)
    copy_read_done q s' one goes is =
        let m : Moving = moving_of contents layers replied v in
        let h : SnapHeld = held_of contents layers s in
        let test : SnapHeld → Bool = λ (x : SnapHeld). list_any (is_copy Waiting n) x.copies in
        let op : Operation = Reads (s.state.chunk * p.pair.old) size in
        let bytes : List ℕ = sectors_at (contents v.origin) (s.state.chunk * p.pair.old) size in
        let read : Copying = record (copying_of p) { stage = Read; bytes = bytes } in
        let h' : SnapHeld = record h { copies = with_first (is_copy Waiting n) read h.copies } in
        let w : Moving = record m { origin = met m.origin op } in
        reading_is ∙ if_true (answers m.origin op) (put test h' w) (spoil test h w) (sym one.answer)
        ∙ put_is contents layers replied v k s test (seen contents layers replied v Waiting n k j s p found copy) o' (met m.origin op) s' h' (met_is contents layers op true faults faults' done done' v.origin o' one same)
        (ap (λ (x : List Copying). record h { copies = x }) (copies_is contents layers replied v Waiting n k j s p found copy Read bytes q refl goes) ∙ sym (ap (held_of contents layers) is))

    -- the origin disk failed, and the snapshot is spoiled
    pub copy_read_fault : (q : ChunkCopy) (s' s'' : Kept B) → IsOneOperation (Reads (s.state.chunk * p.pair.old) size) false (layers v.origin) (layers o') faults faults' done done'
        → s' ≡ record s { copies = set s.copies j q } → s'' ≡ spoilt s'
        → stepped (CopyRead n) (moving_of contents layers replied v) ≡ moving_of contents layers replied (changed v o' k s'' (map (refused_of (s.number ∷ [])) v.flights))
    copy_read_fault q s' s'' one is gone =
        let m : Moving = moving_of contents layers replied v in
        let h : SnapHeld = held_of contents layers s in
        let test : SnapHeld → Bool = λ (x : SnapHeld). list_any (is_copy Waiting n) x.copies in
        let op : Operation = Reads (s.state.chunk * p.pair.old) size in
        let read : Copying = record (copying_of p) { stage = Read; bytes = sectors_at (contents v.origin) (s.state.chunk * p.pair.old) size } in
        let h' : SnapHeld = record h { copies = with_first (is_copy Waiting n) read h.copies } in
        let w : Moving = record m { origin = met m.origin op } in
        reading_is ∙ if_false (answers m.origin op) (put test h' w) (spoil test h w) (sym one.answer)
        ∙ spoil_is contents layers replied v k s test (seen contents layers replied v Waiting n k j s p found copy) o' (met m.origin op) s'' h (met_is contents layers op false faults faults' done done' v.origin o' one same)
        (sym (ap (held_of contents layers) gone ∙ ap (λ (x : Kept B). held_of contents layers (spoilt x)) is)) refl

  module _ (found : IsFirst (λ (x : Kept B). has_copy_at Read n x) k s v.snaps) (copy : IsFirst (is_copy_of Read n) j p s.copies) (at : p.stage ≡ Read)
      (sectors : length (contents v.origin) ≡ 512 * s.state.origin) (faults faults' done done' : ℕ) (d : B) where
    abbrev short : ℕ
    short = count_of s.state.chunk s.state.origin p.pair.old

    short_is : count_of s.state.chunk (length (contents v.origin) / 512) p.pair.old ≡ short
    short_is = ap (λ x. count_of s.state.chunk x p.pair.old) (sectors_is (contents v.origin) s.state.origin sectors)

    bytes_is : bytes_at p.stage p.buffer.items ≡ p.buffer.items
    bytes_is = ap (λ (x : Stage). bytes_at x p.buffer.items) at

    abbrev next : SnapHeld → SnapHeld
    next after = record after { copies = with_first (is_copy Read n) (record (copying_of p) { stage = Written }) after.copies }

    -- so many sectors of these bytes are written
    abbrev writing : ℕ → List ℕ → Moving
    writing count bytes = store_write (has contents layers replied v Read n k j s p found copy) (held_of contents layers s) (Writes (s.state.chunk * p.pair.new) count)
        (with_sectors (contents s.device) (s.state.chunk * p.pair.new) bytes) next (moving_of contents layers replied v)

    writing_is : stepped (CopyWrite n) (moving_of contents layers replied v) ≡ writing short p.buffer.items
    writing_is = on_copy_is contents layers replied v Read n k j s p found copy write_copy ∙ ap (λ (c : ℕ). writing c (bytes_at p.stage p.buffer.items)) short_is ∙ ap (writing short) bytes_is

    -- the copy is written
    pub copy_write_done : (q : ChunkCopy) (s' : Kept B) → IsOneOperation (Writes (s.state.chunk * p.pair.new) short) true (layers s.device) (layers d) faults faults' done done'
        → contents d ≡ with_sectors (contents s.device) (s.state.chunk * p.pair.new) p.buffer.items → GoesTo Written p.buffer.items p q → s' ≡ record s { device = d; copies = set s.copies j q }
        → stepped (CopyWrite n) (moving_of contents layers replied v) ≡ moving_of contents layers replied (changed v v.origin k s' v.flights)
    copy_write_done q s' one new goes is =
        let bytes : List ℕ = with_sectors (contents s.device) (s.state.chunk * p.pair.new) p.buffer.items in
        let h : SnapHeld = with_store (held_of contents layers s) (device_of contents layers d) in
        let q_is : record (copying_of p) { stage = Written } ≡ copying_of q =
        sym (copying_by q.number p.number q.pair p.pair q.stage Written (bytes_at q.stage q.buffer.items) (bytes_at p.stage p.buffer.items) goes.number goes.pair goes.stage
        (ap (λ (x : Stage). bytes_at x q.buffer.items) goes.stage ∙ goes.buffer ∙ sym bytes_is)) in
        let copies : with_first (is_copy Read n) (record (copying_of p) { stage = Written }) (map copying_of s.copies) ≡ map copying_of (set s.copies j q) =
        ap (λ (x : Copying). with_first (is_copy Read n) x (map copying_of s.copies)) q_is
        ∙ with_is copying_of (is_copy Read n) j p q s.copies (mine contents layers replied v Read n k j s p found copy) in
        writing_is ∙ write_is contents layers replied v k s (λ (x : SnapHeld). list_any (is_copy Read n) x.copies) (seen contents layers replied v Read n k j s p found copy)
        (Writes (s.state.chunk * p.pair.new) short) bytes next s' faults faults' done done' d one new
        (ap (λ (x : List Copying). record h { copies = x }) copies ∙ sym (ap (held_of contents layers) is))

    -- the store failed, and the snapshot is spoiled
    pub copy_write_fault : (s' s'' : Kept B) → IsOneOperation (Writes (s.state.chunk * p.pair.new) short) false (layers s.device) (layers d) faults faults' done done'
        → contents d ≡ contents s.device → s' ≡ record s { device = d } → s'' ≡ spoilt s'
        → stepped (CopyWrite n) (moving_of contents layers replied v) ≡ moving_of contents layers replied (changed v v.origin k s'' (map (refused_of (s.number ∷ [])) v.flights))
    copy_write_fault s' s'' one same kept gone =
        writing_is ∙ fail_is contents layers replied v k s (λ (x : SnapHeld). list_any (is_copy Read n) x.copies) (seen contents layers replied v Read n k j s p found copy)
        (Writes (s.state.chunk * p.pair.new) short) (with_sectors (contents s.device) (s.state.chunk * p.pair.new) p.buffer.items) next s' s'' faults faults' done done' d one same kept gone
