-- What an event does that finds its snapshot: the parts that all events share.
use Rattle.std.proofs.Common.{◌≡◌, ℕ, Bool, true, false, List, [], ◌∷◌, Option, None, set, map, refl, sym, ◌∙◌, ap}
use Rattle.std.specs.Prelude.{if◌then◌else◌}
use Rattle.device.specs.Layers.{Layer, layers_after}
use Rattle.device.specs.declared.operation.Operation.{Operation}
use Rattle.plain_machine.specs.declared.request.Reply.{Reply}
use Rattle.in_flight.specs.Routes.{refused_of}
use Rattle.in_flight.specs.declared.flights.Flight.{Flight}
use Rattle.store.specs.Operations.{IsOneOperation}
use Rattle.whole_commands.specs.Devices.{Device, answers, met, written_by}
use Rattle.event_machine.specs.Held.{SnapHeld, Going, MergeHeld, Moving, spoiled, with_store}
use Rattle.event_machine.specs.Again.{refused}
use Rattle.event_machine.specs.Stepping.{for_some, with_first, put, spoil, store_write, on_snap}
use Rattle.event_machine.specs.Seen.{going_of}
use Rattle.event_machine.specs.MergeSeen.{held_in}
use Rattle.snapshot.specs.Kept.{Kept}
use Rattle.volume.specs.Volumed.{Volumed}
use Rattle.volume.specs.Moved.{device_of, held_of, merge_seen, moving_of}
use Rattle.volume.proofs.MovedLists.{IsFirst, first_is, with_is, if_true, if_false}

-- a volume with another origin disk, another snapshot at place k, and these requests in flight
abbrev pub changed : {B : Type 0} → Volumed B → B → ℕ → Kept B → List Flight → Volumed B
changed v o k s flights = record v { origin = o; snaps = set v.snaps k s; flights = flights }

-- a snapshot that is spoiled
abbrev pub spoilt : {B : Type 0} → Kept B → Kept B
spoilt s = record s { live = false; untried = true; state = record s.state { copying = false }; begun = []; copies = []; marks = []; kept_back = 0; spare = false; merging = None }

module _ {B : Type 0} (contents : B → List ℕ) (layers : B → List Layer) where
  -- the devices after an operation
  pub met_is : (op : Operation) (ok : Bool) (faults faults' done done' : ℕ) (o o' : B) → IsOneOperation op ok (layers o) (layers o') faults faults' done done' → contents o' ≡ contents o → met (device_of contents layers o) op ≡ device_of contents layers o'
  met_is op ok faults faults' done done' o o' one same = sym (ap (λ (b : List ℕ). record { bytes = b; layers = layers o' }) same ∙ ap (λ (l : List Layer). record { bytes = contents o; layers = l }) one.layers)

  pub device_by : (x y : List ℕ) (l m : List Layer) → x ≡ y → l ≡ m → ◌≡◌ {A = Device} (record { bytes = x; layers = l }) (record { bytes = y; layers = m })
  device_by x y l m p q = ap (λ (b : List ℕ). record { bytes = b; layers = l }) p ∙ ap (λ (k : List Layer). record { bytes = y; layers = k }) q

  -- a write that is answered
  pub wrote_is : (op : Operation) (bytes : List ℕ) (faults faults' done done' : ℕ) (o o' : B) → IsOneOperation op true (layers o) (layers o') faults faults' done done' → contents o' ≡ bytes
      → written_by (device_of contents layers o) op bytes ≡ device_of contents layers o'
  wrote_is op bytes faults faults' done done' o o' one new =
      device_by (if answers (device_of contents layers o) op then bytes else contents o) (contents o') (layers_after (layers o) op) (layers o')
      (if_true (answers (device_of contents layers o) op) bytes (contents o) (sym one.answer) ∙ sym new) (sym one.layers)

  -- one that fails
  pub failed_is : (op : Operation) (bytes : List ℕ) (faults faults' done done' : ℕ) (o o' : B) → IsOneOperation op false (layers o) (layers o') faults faults' done done' → contents o' ≡ contents o
      → written_by (device_of contents layers o) op bytes ≡ device_of contents layers o'
  failed_is op bytes faults faults' done done' o o' one same =
      device_by (if answers (device_of contents layers o) op then bytes else contents o) (contents o') (layers_after (layers o) op) (layers o')
      (if_false (answers (device_of contents layers o) op) bytes (contents o) (sym one.answer) ∙ sym same) (sym one.layers)

  -- a machine by its parts
  pub machine_by : (merge : Option MergeHeld) (replied : Option Reply) (started : ℕ) (o o' : Device) (hs hs' : List SnapHeld) (rs rs' : List Going) → o ≡ o' → hs ≡ hs' → rs ≡ rs'
      → ◌≡◌ {A = Moving} (record { origin = o; snaps = hs; merge = merge; requests = rs; replied = replied; started = started }) (record { origin = o'; snaps = hs'; merge = merge; requests = rs'; replied = replied; started = started })
  machine_by merge replied started o o' hs hs' rs rs' po ps pr =
      ap (λ (x : Device). record { origin = x; snaps = hs; merge = merge; requests = rs; replied = replied; started = started }) po
      ∙ ap (λ (x : List SnapHeld). record { origin = o'; snaps = x; merge = merge; requests = rs; replied = replied; started = started }) ps
      ∙ ap (λ (x : List Going). record { origin = o'; snaps = hs'; merge = merge; requests = x; replied = replied; started = started }) pr

  -- a spoil's requests
  pub refused_seen : (n : ℕ) (fs : List Flight) → map (refused n) (map going_of fs) ≡ map going_of (map (refused_of (n ∷ [])) fs)
  refused_seen n [] = refl
  refused_seen n (f ∷ fs) = ap (λ (rs : List Going). going_of (refused_of (n ∷ []) f) ∷ rs) (refused_seen n fs)

  module _ (replied : Option Reply) (v : Volumed B) (k : ℕ) (s : Kept B) (test : SnapHeld → Bool) (found : IsFirst (λ x. test (held_of contents layers x)) k s v.snaps) where
    -- the snapshot becomes another, which is seen as h
    pub put_is : (o' : B) (o : Device) (s' : Kept B) (h : SnapHeld) → o ≡ device_of contents layers o' → h ≡ held_of contents layers s'
        → put test h (record (moving_of contents layers replied v) { origin = o }) ≡ moving_of contents layers replied (changed v o' k s' v.flights)
    put_is o' o s' h disk is =
        machine_by (held_in (merge_seen contents layers v.merge)) replied v.copies o (device_of contents layers o') (with_first test h (map (held_of contents layers) v.snaps)) (map (held_of contents layers) (set v.snaps k s')) (map going_of v.flights) (map going_of v.flights) disk
        (ap (λ (x : SnapHeld). with_first test x (map (held_of contents layers) v.snaps)) is ∙ with_is (held_of contents layers) test k s s' v.snaps found) refl

    -- it is spoiled
    pub spoil_is : (o' : B) (o : Device) (s' : Kept B) (h : SnapHeld) → o ≡ device_of contents layers o' → spoiled h ≡ held_of contents layers s' → h.snap.number ≡ s.number
        → spoil test h (record (moving_of contents layers replied v) { origin = o }) ≡ moving_of contents layers replied (changed v o' k s' (map (refused_of (s.number ∷ [])) v.flights))
    spoil_is o' o s' h disk is number =
        machine_by (held_in (merge_seen contents layers v.merge)) replied v.copies o (device_of contents layers o') (with_first test (spoiled h) (map (held_of contents layers) v.snaps)) (map (held_of contents layers) (set v.snaps k s'))
        (map (refused h.snap.number) (map going_of v.flights)) (map going_of (map (refused_of (s.number ∷ [])) v.flights)) disk
        (ap (λ (x : SnapHeld). with_first test x (map (held_of contents layers) v.snaps)) is ∙ with_is (held_of contents layers) test k s s' v.snaps found)
        (ap (λ (n : ℕ). map (refused n) (map going_of v.flights)) number ∙ refused_seen s.number v.flights)

    -- an event of a snapshot
    pub on_snap_is : (f : (SnapHeld → Bool) → SnapHeld → Moving → Moving) → on_snap test f (moving_of contents layers replied v) ≡ f test (held_of contents layers s) (moving_of contents layers replied v)
    on_snap_is f = ap (λ (x : Option SnapHeld). for_some x (λ h. f test h (moving_of contents layers replied v)) (moving_of contents layers replied v)) (first_is (held_of contents layers) test k s v.snaps found)

    -- a write of its store that is answered, and one that fails
    pub write_is : (op : Operation) (bytes : List ℕ) (next : SnapHeld → SnapHeld) (s' : Kept B) (faults faults' done done' : ℕ) (d : B) → IsOneOperation op true (layers s.device) (layers d) faults faults' done done'
        → contents d ≡ bytes → next (with_store (held_of contents layers s) (device_of contents layers d)) ≡ held_of contents layers s'
        → store_write test (held_of contents layers s) op bytes next (moving_of contents layers replied v) ≡ moving_of contents layers replied (changed v v.origin k s' v.flights)
    write_is op bytes next s' faults faults' done done' d one new is =
        let m : Moving = moving_of contents layers replied v in
        let h : SnapHeld = held_of contents layers s in
        let after : SnapHeld = with_store h (written_by h.snap.store op bytes) in
        if_true (answers h.snap.store op) (put test (next after) m) (spoil test after m) (sym one.answer)
        ∙ put_is v.origin m.origin s' (next after) refl (ap (λ (x : Device). next (with_store h x)) (wrote_is op bytes faults faults' done done' s.device d one new) ∙ is)

    pub fail_is : (op : Operation) (bytes : List ℕ) (next : SnapHeld → SnapHeld) (s' s'' : Kept B) (faults faults' done done' : ℕ) (d : B) → IsOneOperation op false (layers s.device) (layers d) faults faults' done done'
        → contents d ≡ contents s.device → s' ≡ record s { device = d } → s'' ≡ spoilt s'
        → store_write test (held_of contents layers s) op bytes next (moving_of contents layers replied v) ≡ moving_of contents layers replied (changed v v.origin k s'' (map (refused_of (s.number ∷ [])) v.flights))
    fail_is op bytes next s' s'' faults faults' done done' d one same kept gone =
        let m : Moving = moving_of contents layers replied v in
        let h : SnapHeld = held_of contents layers s in
        let after : SnapHeld = with_store h (written_by h.snap.store op bytes) in
        if_false (answers h.snap.store op) (put test (next after) m) (spoil test after m) (sym one.answer)
        ∙ spoil_is v.origin m.origin s'' after refl
        (ap (λ (x : Device). spoiled (with_store h x)) (failed_is op bytes faults faults' done done' s.device d one same)
        ∙ sym (ap (held_of contents layers) gone ∙ ap (λ (x : Kept B). held_of contents layers (spoilt x)) kept)) refl
