-- The events of a store: the next area is zeroed, and the first copies are committed.
use Rattle.std.proofs.Common.{◌≡◌, ℕ, zero, suc, ◌+◌, ◌*◌, ◌/◌, ◌%◌, ◌<◌, ◌≤◌, Bool, true, false, List, [], ◌∷◌, ◌++◌, Option, length, get_or, map, take, drop, replicate, refl, sym, ◌∙◌, ap, arith}
use Rattle.std.specs.Prelude.{◌==◌, ◌&&◌, not, if◌then◌else◌}
use Rattle.std.specs.List.{All, flat_map}
use Rattle.std.proofs.lemmas.Bool.{false≢true}
use Rattle.std.proofs.lemmas.List.{drop-map}
use Rattle.std.proofs.lemmas.Nat.{div-mul-add}
use Rattle.sector.specs.Bytes.{with_part, with_sectors}
use Rattle.sector.specs.declared.pair.Pair.{Pair}
use Rattle.device.specs.Layers.{Layer}
use Rattle.device.specs.declared.operation.Operation.{Operation}
use Rattle.device.specs.declared.operation.Operation.TheVariants.{Writes}
use Rattle.cow_format.specs.Places.{area_place}
use Rattle.cow_format.specs.NextPlace.{LacksArea}
use Rattle.cow_format.specs.Slots.{pair_bytes}
use Rattle.plain_machine.specs.declared.event.Event.TheVariants.{ZeroNext, WriteArea}
use Rattle.plain_machine.specs.declared.request.Reply.{Reply}
use Rattle.in_flight.specs.Copies.{pair_of}
use Rattle.in_flight.specs.Routes.{refused_of}
use Rattle.in_flight.specs.declared.copies.ChunkCopy.{ChunkCopy}
use Rattle.in_flight.specs.declared.copies.Mark.{Mark}
use Rattle.store.specs.Operations.{IsOneOperation}
use Rattle.store.specs.Slots.{pairs_bytes, slot_start}
use Rattle.store.specs.Stored.{after_commit}
use Rattle.store.specs.declared.state.State.{State}
use Rattle.volume_laws.specs.Steps.{mark_of}
use Rattle.whole_commands.specs.Saves.{zeroed}
use Rattle.whole_commands.specs.Saving.{lacks_area}
use Rattle.event_machine.specs.Held.{Copying, SnapHeld, Moving, with_store}
use Rattle.event_machine.specs.Due.{batch_of as batch_in, can_commit, can_zero}
use Rattle.event_machine.specs.Stepping.{spoil, store_write, zero_next, all_paired, commit, stepped, pair_of as pair_of_copying, mark_of as mark_of_copying}
use Rattle.event_machine.specs.Seen.{copying_of}
use Rattle.snapshot.specs.Kept.{Kept, batch_of, spare_after}
use Rattle.volume.specs.Volumed.{Volumed}
use Rattle.snapshot_list.specs.Finding.{is_committing, is_zeroing}
use Rattle.volume.specs.Whole.{IsCounted}
use Rattle.volume.specs.Moved.{device_of, held_of, moving_of}
use Rattle.volume.proofs.MovedLists.{IsFirst, first_by_all, if_true, if_false}
use Rattle.volume.proofs.MovedDue.{slot_within, batch_same, can_commit_same, can_zero_same}
use Rattle.volume.proofs.MovedSnaps.{changed, spoilt, spoil_is, on_snap_is, write_is, fail_is}

and_false : (b : Bool) → (b && false) ≡ false
and_false true = refl
and_false false = refl

and_true : (b : Bool) → (b && true) ≡ b
and_true true = refl
and_true false = refl

and_left : (a b : Bool) → (a && b) ≡ true → a ≡ true
and_left true b e = refl
and_left false b e = absurd (false≢true e)

and_right : (a b : Bool) → (a && b) ≡ true → b ≡ true
and_right true b e = e
and_right false b e = absurd (false≢true e)

-- a snapshot by the parts that a commit changes
held_by : (s : SnapHeld) (c c' : ℕ) (ps ps' : List Pair) (z z' f f' : Bool) (cs cs' : List Copying) (ms ms' : List Mark) → c ≡ c' → ps ≡ ps' → z ≡ z' → f ≡ f' → cs ≡ cs' → ms ≡ ms'
    → ◌≡◌ {A = SnapHeld} (record s { snap = record s.snap { chunk = c }; pairs = ps; zeroed = z; firm = f; copies = cs; marks = ms }) (record s { snap = record s.snap { chunk = c' }; pairs = ps'; zeroed = z'; firm = f'; copies = cs'; marks = ms' })
held_by s c c' ps ps' z z' f f' cs cs' ms ms' pc pp pz pf pcs pm =
    ap (λ (x : ℕ). record s { snap = record s.snap { chunk = x }; pairs = ps; zeroed = z; firm = f; copies = cs; marks = ms }) pc
    ∙ ap (λ (x : List Pair). record s { snap = record s.snap { chunk = c' }; pairs = x; zeroed = z; firm = f; copies = cs; marks = ms }) pp
    ∙ ap (λ (x : Bool). record s { snap = record s.snap { chunk = c' }; pairs = ps'; zeroed = x; firm = f; copies = cs; marks = ms }) pz
    ∙ ap (λ (x : Bool). record s { snap = record s.snap { chunk = c' }; pairs = ps'; zeroed = z'; firm = x; copies = cs; marks = ms }) pf
    ∙ ap (λ (x : List Copying). record s { snap = record s.snap { chunk = c' }; pairs = ps'; zeroed = z'; firm = f'; copies = x; marks = ms }) pcs
    ∙ ap (λ (x : List Mark). record s { snap = record s.snap { chunk = c' }; pairs = ps'; zeroed = z'; firm = f'; copies = cs'; marks = x }) pm

-- the state after a commit, as the event machine has it
state_chunk : (b : Bool) (s x y : State) → x.chunk ≡ s.chunk → y.chunk ≡ s.chunk → s.chunk ≡ (if b then x else y).chunk
state_chunk true s x y xc yc = sym xc
state_chunk false s x y xc yc = sym yc

state_zeroed : (b : Bool) (s x y : State) → x.zeroed ≡ false → y.zeroed ≡ s.zeroed → (s.zeroed && not b) ≡ (if b then x else y).zeroed
state_zeroed true s x y xz yz = and_false s.zeroed ∙ sym xz
state_zeroed false s x y xz yz = and_true s.zeroed ∙ sym yz

state_firm : (b : Bool) (s x y : State) → x.firm ≡ false → y.firm ≡ s.firm → (s.firm && not b) ≡ (if b then x else y).firm
state_firm true s x y xz yz = and_false s.firm ∙ sym xz
state_firm false s x y xz yz = and_true s.firm ∙ sym yz

commit_chunk : (s : State) (count : ℕ) → s.chunk ≡ (after_commit s count).chunk
commit_chunk s count = state_chunk (s.filled + count == 32 * s.chunk) s (record s { current = s.current + 1; filled = 0; zeroed = false; firm = false }) (record s { filled = s.filled + count }) refl refl

commit_zeroed : (s : State) (count : ℕ) → (s.zeroed && not (s.filled + count == 32 * s.chunk)) ≡ (after_commit s count).zeroed
commit_zeroed s count = state_zeroed (s.filled + count == 32 * s.chunk) s (record s { current = s.current + 1; filled = 0; zeroed = false; firm = false }) (record s { filled = s.filled + count }) refl refl

commit_firm : (s : State) (count : ℕ) → (s.firm && not (s.filled + count == 32 * s.chunk)) ≡ (after_commit s count).firm
commit_firm s count = state_firm (s.filled + count == 32 * s.chunk) s (record s { current = s.current + 1; filled = 0; zeroed = false; firm = false }) (record s { filled = s.filled + count }) refl refl

-- the slot of the next pair
slot_area : (a n f k : ℕ) → f < n → k ≡ a * n + f → k / n ≡ a
slot_area a n f k lt is = ap (λ x. x / n) is ∙ div-mul-add a n f lt

-- the first copies, their pairs and their marks, as the event machine has them
pairs_seen : (count : ℕ) (copies : List ChunkCopy) → map pair_of_copying (take count (map copying_of copies)) ≡ take count (map pair_of copies)
pairs_seen zero copies = refl
pairs_seen (suc count) [] = refl
pairs_seen (suc count) (p ∷ ps) = ap (λ (qs : List Pair). p.pair ∷ qs) (pairs_seen count ps)

marks_seen : (count : ℕ) (copies : List ChunkCopy) → map mark_of_copying (take count (map copying_of copies)) ≡ map mark_of (take count copies)
marks_seen zero copies = refl
marks_seen (suc count) [] = refl
marks_seen (suc count) (p ∷ ps) = ap (λ (ms : List Mark). mark_of p ∷ ms) (marks_seen count ps)

bytes_same : (pairs : List Pair) → flat_map pair_bytes pairs ≡ pairs_bytes pairs
bytes_same [] = refl
bytes_same (pair ∷ pairs) = ap (λ (b : List ℕ). pair_bytes pair ++ b) (bytes_same pairs)

paired_is : (chunk : ℕ) (store : List ℕ) (k a f : ℕ) (pairs : List Pair) → k / (32 * chunk) ≡ a → k % (32 * chunk) ≡ f → all_paired chunk store k pairs ≡ with_part store (slot_start chunk a f) (pairs_bytes pairs)
paired_is chunk store k a f pairs area slot =
    ap (λ x. with_part store (512 * (chunk * area_place chunk x) + 16 * (k % (32 * chunk))) (flat_map pair_bytes pairs)) area
    ∙ ap (λ x. with_part store (512 * (chunk * area_place chunk a) + 16 * x) (flat_map pair_bytes pairs)) slot
    ∙ ap (with_part store (slot_start chunk a f)) (bytes_same pairs)

module _ {B : Type 0} (contents : B → List ℕ) (layers : B → List Layer) (replied : Option Reply) (v : Volumed B) (counted : All IsCounted v.snaps) (n k : ℕ) (s : Kept B) where
  module _ (found : IsFirst (is_committing n) k s v.snaps) (counts : IsCounted s) (live : s.live ≡ true) (count : ℕ) (batched : count ≡ batch_of s.state s.copies) (agree : s.begun ≡ map pair_of s.copies)
      (faults faults' done done' : ℕ) (d : B) where
    abbrev commits : SnapHeld → Bool
    commits h = (h.snap.number == n) && can_commit h

    commits_first : IsFirst (λ x. commits (held_of contents layers x)) k s v.snaps
    commits_first = first_by_all (is_committing n) (λ x. commits (held_of contents layers x)) k s v.snaps
        (λ i e lt. sym (ap (λ b. ((get_or v.snaps i e).number == n) && b) (can_commit_same contents layers (get_or v.snaps i e) (counted i e lt)))) found

    abbrev op : Operation
    op = Writes (s.state.chunk * area_place s.state.chunk s.state.current) s.state.chunk

    abbrev bytes : List ℕ
    bytes = with_part (contents s.device) (slot_start s.state.chunk s.state.current s.state.filled) (pairs_bytes (take count s.begun))

    abbrev now : List Copying
    now = take count (map copying_of s.copies)

    -- the snapshot after the commit, by how many slots of the area were in use
    abbrev committed : ℕ → SnapHeld → SnapHeld
    committed f after = record after {
      pairs = after.pairs ++ map pair_of_copying now;
      copies = drop count after.copies;
      marks = after.marks ++ map mark_of_copying now;
      zeroed = after.zeroed && not (f + count == 32 * s.state.chunk);
      firm = after.firm && not (f + count == 32 * s.state.chunk);
    }

    area_is : length s.pairs / (32 * s.state.chunk) ≡ s.state.current
    area_is = slot_area s.state.current (32 * s.state.chunk) s.state.filled (length s.pairs) (counts.fits live) counts.count

    slot_is : length s.pairs % (32 * s.state.chunk) ≡ s.state.filled
    slot_is = slot_within s.state.current (32 * s.state.chunk) s.state.filled (length s.pairs) (counts.fits live) counts.count

    pairs_are : map pair_of_copying now ≡ take count s.begun
    pairs_are = pairs_seen count s.copies ∙ ap (take count) (sym agree)

    bytes_are : all_paired s.state.chunk (contents s.device) (length s.pairs) (map pair_of_copying now) ≡ bytes
    bytes_are =
        paired_is s.state.chunk (contents s.device) (length s.pairs) s.state.current s.state.filled (map pair_of_copying now) area_is slot_is
        ∙ ap (λ (qs : List Pair). with_part (contents s.device) (slot_start s.state.chunk s.state.current s.state.filled) (pairs_bytes qs)) pairs_are

    committing_is : stepped (WriteArea n) (moving_of contents layers replied v) ≡ store_write commits (held_of contents layers s) op bytes (committed s.state.filled) (moving_of contents layers replied v)
    committing_is =
        let m : Moving = moving_of contents layers replied v in
        let h : SnapHeld = held_of contents layers s in
        let test : SnapHeld → Bool = λ (x : SnapHeld). (x.snap.number == n) && can_commit x in
        on_snap_is contents layers replied v k s test commits_first (λ t x. commit (batch_in x) t x)
        ∙ ap (λ c. commit c test h m) (batch_same contents layers s counts live ∙ sym batched)
        ∙ ap (λ (a : ℕ). store_write test h (Writes (s.state.chunk * area_place s.state.chunk a) s.state.chunk) (all_paired s.state.chunk (contents s.device) (length s.pairs) (map pair_of_copying now)) (committed (length s.pairs % (32 * s.state.chunk))) m) area_is
        ∙ ap (λ (f : ℕ). store_write test h op (all_paired s.state.chunk (contents s.device) (length s.pairs) (map pair_of_copying now)) (committed f) m) slot_is
        ∙ ap (λ (b : List ℕ). store_write test h op b (committed s.state.filled) m) bytes_are

    -- the first copies are committed
    pub write_area_done : (s' : Kept B) → IsOneOperation op true (layers s.device) (layers d) faults faults' done done'
        → contents d ≡ with_part (contents s.device) (slot_start s.state.chunk s.state.current s.state.filled) (pairs_bytes (take count s.begun))
        → s' ≡ record s { device = d; state = after_commit s.state count; pairs = s.pairs ++ take count s.begun; begun = drop count s.begun; copies = drop count s.copies; marks = s.marks ++ map mark_of (take count s.copies); spare = spare_after count s }
        → stepped (WriteArea n) (moving_of contents layers replied v) ≡ moving_of contents layers replied (changed v v.origin k s' v.flights)
    write_area_done s' one new is =
        let h : SnapHeld = with_store (held_of contents layers s) (device_of contents layers d) in
        committing_is ∙ write_is contents layers replied v k s (λ (x : SnapHeld). (x.snap.number == n) && can_commit x) commits_first op bytes (committed s.state.filled) s' faults faults' done done' d one new
        (held_by h s.state.chunk (after_commit s.state count).chunk (s.pairs ++ map pair_of_copying now) (s.pairs ++ take count s.begun)
        (s.state.zeroed && not (s.state.filled + count == 32 * s.state.chunk)) (after_commit s.state count).zeroed (s.state.firm && not (s.state.filled + count == 32 * s.state.chunk)) (after_commit s.state count).firm (drop count (map copying_of s.copies)) (map copying_of (drop count s.copies))
        (s.marks ++ map mark_of_copying now) (s.marks ++ map mark_of (take count s.copies))
        (commit_chunk s.state count) (ap (λ (qs : List Pair). s.pairs ++ qs) pairs_are)
        (commit_zeroed s.state count) (commit_firm s.state count)
        (drop-map copying_of count s.copies) (ap (λ (ms : List Mark). s.marks ++ ms) (marks_seen count s.copies))
        ∙ sym (ap (held_of contents layers) is))

    -- the store failed, and the snapshot is spoiled
    pub write_area_fault : (s' s'' : Kept B) → IsOneOperation op false (layers s.device) (layers d) faults faults' done done'
        → contents d ≡ contents s.device → s' ≡ record s { device = d } → s'' ≡ spoilt s'
        → stepped (WriteArea n) (moving_of contents layers replied v) ≡ moving_of contents layers replied (changed v v.origin k s'' (map (refused_of (s.number ∷ [])) v.flights))
    write_area_fault s' s'' one same kept gone =
        committing_is ∙ fail_is contents layers replied v k s (λ (x : SnapHeld). (x.snap.number == n) && can_commit x) commits_first op bytes (committed s.state.filled) s' s'' faults faults' done done' d one same kept gone

  module _ (found : IsFirst (is_zeroing n) k s v.snaps) (counts : IsCounted s) (live : s.live ≡ true) (sized : length (contents s.device) ≡ 512 * s.state.size)
      (faults faults' done done' : ℕ) (d : B) where
    abbrev zeroes : SnapHeld → Bool
    zeroes h = (h.snap.number == n) && can_zero h

    zeroes_first : IsFirst (λ x. zeroes (held_of contents layers x)) k s v.snaps
    zeroes_first = first_by_all (is_zeroing n) (λ x. zeroes (held_of contents layers x)) k s v.snaps
        (λ i e lt. sym (ap (λ b. ((get_or v.snaps i e).number == n) && b) (can_zero_same contents layers (get_or v.snaps i e) (counted i e lt)))) found

    abbrev zero_op : ℕ → Operation
    zero_op a = Writes (s.state.chunk * area_place s.state.chunk a) s.state.chunk

    abbrev zero_kept : SnapHeld → SnapHeld
    zero_kept after = record after { zeroed = true; firm = false }

    -- with area a as the next one
    abbrev zeroing : ℕ → Moving
    zeroing a =
        let m : Moving = moving_of contents layers replied v in
        let h : SnapHeld = held_of contents layers s in
        if lacks_area a h.snap then spoil zeroes h m else store_write zeroes h (zero_op a) (zeroed s.state.chunk (contents s.device) a) zero_kept m

    zeroing_is : stepped (ZeroNext n) (moving_of contents layers replied v) ≡ zeroing (s.state.current + 1)
    zeroing_is = on_snap_is contents layers replied v k s (λ (x : SnapHeld). (x.snap.number == n) && can_zero x) zeroes_first zero_next
        ∙ ap (λ a. zeroing (a + 1)) (slot_area s.state.current (32 * s.state.chunk) s.state.filled (length s.pairs) (counts.fits live) counts.count)

    lacks : LacksArea s.state.chunk s.state.size (s.state.current + 1) → lacks_area (s.state.current + 1) (held_of contents layers s).snap ≡ true
    lacks short =
        let lt : length (contents s.device) < 512 * (s.state.chunk * (area_place s.state.chunk (s.state.current + 1) + 1)) = omega (arith, sized, short) in
        search (arith, lt)

    has_area : s.state.chunk * (area_place s.state.chunk (s.state.current + 1) + 1) ≤ s.state.size → lacks_area (s.state.current + 1) (held_of contents layers s).snap ≡ false
    has_area inside =
        let le : 512 * (s.state.chunk * (area_place s.state.chunk (s.state.current + 1) + 1)) ≤ length (contents s.device) = omega (arith, sized, inside) in
        search (arith, le)

    -- the area is zeroed
    pub zero_next_done : (s' : Kept B) → s.state.chunk * (area_place s.state.chunk (s.state.current + 1) + 1) ≤ s.state.size
        → IsOneOperation (zero_op (s.state.current + 1)) true (layers s.device) (layers d) faults faults' done done'
        → contents d ≡ with_sectors (contents s.device) (s.state.chunk * area_place s.state.chunk (s.state.current + 1)) (replicate (512 * s.state.chunk) 0)
        → s' ≡ record s { device = d; state = record s.state { zeroed = true; firm = false } }
        → stepped (ZeroNext n) (moving_of contents layers replied v) ≡ moving_of contents layers replied (changed v v.origin k s' v.flights)
    zero_next_done s' inside one new is =
        let m : Moving = moving_of contents layers replied v in
        let h : SnapHeld = held_of contents layers s in
        let test : SnapHeld → Bool = λ (x : SnapHeld). (x.snap.number == n) && can_zero x in
        let a : ℕ = s.state.current + 1 in
        zeroing_is ∙ if_false (lacks_area a h.snap) (spoil test h m) (store_write test h (zero_op a) (zeroed s.state.chunk (contents s.device) a) zero_kept m) (has_area inside)
        ∙ write_is contents layers replied v k s test zeroes_first (zero_op a) (zeroed s.state.chunk (contents s.device) a) zero_kept s' faults faults' done done' d one new (sym (ap (held_of contents layers) is))

    -- the store failed, and the snapshot is spoiled
    pub zero_next_fault : (s' s'' : Kept B) → s.state.chunk * (area_place s.state.chunk (s.state.current + 1) + 1) ≤ s.state.size
        → IsOneOperation (zero_op (s.state.current + 1)) false (layers s.device) (layers d) faults faults' done done'
        → contents d ≡ contents s.device → s' ≡ record s { device = d } → s'' ≡ spoilt s'
        → stepped (ZeroNext n) (moving_of contents layers replied v) ≡ moving_of contents layers replied (changed v v.origin k s'' (map (refused_of (s.number ∷ [])) v.flights))
    zero_next_fault s' s'' inside one same kept gone =
        let m : Moving = moving_of contents layers replied v in
        let h : SnapHeld = held_of contents layers s in
        let test : SnapHeld → Bool = λ (x : SnapHeld). (x.snap.number == n) && can_zero x in
        let a : ℕ = s.state.current + 1 in
        zeroing_is ∙ if_false (lacks_area a h.snap) (spoil test h m) (store_write test h (zero_op a) (zeroed s.state.chunk (contents s.device) a) zero_kept m) (has_area inside)
        ∙ fail_is contents layers replied v k s test zeroes_first (zero_op a) (zeroed s.state.chunk (contents s.device) a) zero_kept s' s'' faults faults' done done' d one same kept gone

    -- the store lacks the area, and the snapshot is spoiled
    pub zero_next_lacks : (s' : Kept B) → LacksArea s.state.chunk s.state.size (s.state.current + 1) → s' ≡ spoilt s
        → stepped (ZeroNext n) (moving_of contents layers replied v) ≡ moving_of contents layers replied (changed v v.origin k s' (map (refused_of (s.number ∷ [])) v.flights))
    zero_next_lacks s' short gone =
        let m : Moving = moving_of contents layers replied v in
        let h : SnapHeld = held_of contents layers s in
        let test : SnapHeld → Bool = λ (x : SnapHeld). (x.snap.number == n) && can_zero x in
        let a : ℕ = s.state.current + 1 in
        zeroing_is ∙ if_true (lacks_area a h.snap) (spoil test h m) (store_write test h (zero_op a) (zeroed s.state.chunk (contents s.device) a) zero_kept m) (lacks short)
        ∙ spoil_is contents layers replied v k s test zeroes_first v.origin m.origin s' h refl (sym (ap (held_of contents layers) gone)) refl
