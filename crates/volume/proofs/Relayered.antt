-- Where layers alone change, and a device drops writes as before, a volume stays whole.
use Rattle.std.proofs.Common.{◌≡◌, ◌≢◌, inl, inr, ℕ, suc, ◌+◌, ◌<◌, ◌≤◌, Bool, true, List, [], ◌∷◌, length, get_or, set, map, refl, sym, ◌∙◌, ap, subst, arith, ◌++◌}
use Rattle.std.specs.Prelude.{sum_by, Option, Some, None, ◌&&◌}
use Rattle.std.specs.List.{sum}
use Rattle.std.proofs.lemmas.List.Sums.{sum-map}
use Rattle.std.proofs.lemmas.List.{get_or-set_same, get_or-set_other, length-set, get_or_default}
use Rattle.std.proofs.lemmas.Bool.{cases_eq}
use Rattle.chunk.specs.Sizes.{is_chunk}
use Rattle.device.specs.Layers.{Layer, is_loud}
use Rattle.layers.specs.Ticks.{layers_ticked}
use Rattle.layers.specs.Loudness.{loud_ticked}
use Rattle.event_machine.specs.Held.{SnapHeld, MergeHeld, Moving, on_device}
use Rattle.event_machine.specs.MergeSeen.{held_in, merge_held_of}
use Rattle.whole_commands.specs.Moments.{relayered}
use Rattle.plain_machine.specs.declared.request.Reply.{Reply}
use Rattle.volume_laws.specs.Books.{Books, SnapBooks, MergeBooks}
use Rattle.volume_laws.specs.Due.{DueSnap}
use Rattle.volume_laws.specs.MergeDue.{DueMerge}
use Rattle.volume_laws.specs.MergeRooms.{RoomSnap, KeepBack}
use Rattle.volume_laws.specs.MergeWaits.{MergeGoes}
use Rattle.volume_laws.specs.Whole.{Holds}
use Rattle.in_flight.specs.Due.{number_of_flight}
use Rattle.volume_laws.specs.Waits.{Waits}
use Rattle.snapshot.specs.Kept.{Kept, books_of as snap_books, due_of_kept}
use Rattle.snapshot_list.specs.Rooms.{merge_books, room_of}
use Rattle.volume.specs.Volumed.{Volumed, books_of, dues_of, is_loud_with}
use Rattle.snapshot_list.specs.Numbers.{number_of_snap, count_in}
use Rattle.volume.specs.Whole.{IsWhole, IsAttached, IsCounted, IsMerged, GoesOn, SharesNone, AreNumbers, starts_left}
use Rattle.volume.specs.Moved.{moving_of, held_of, merge_seen}
use Rattle.volume.specs.Layering.{Measures, IsLater, IsSnapLater, IsTicked, held_relayered, merging_relayered, moving_relayered, IsMergeLater}
use Rattle.merge.specs.Merging.{Merging, books_of as merging_books, due_of as merging_due}
use Rattle.volume.specs.Causes.{counts_with}
use Rattle.volume.specs.Stepping.{merged_of}

-- maps that agree at each place
pub map_at : {A C : Type 0} (f g : A → C) (xs ys : List A) → length ys ≡ length xs → ((k : ℕ) (d : A) → k < length xs → f (get_or ys k d) ≡ g (get_or xs k d)) → map f ys ≡ map g xs
map_at f g [] [] len each = refl
map_at f g [] (y ∷ ys) len each = absurd (omega (arith, len))
map_at f g (x ∷ xs) [] len each = absurd (omega (arith, len))
map_at f g (x ∷ xs) (y ∷ ys) len each =
    let head : f y ≡ g x = each 0 x (omega arith) in
    let tail : map f ys ≡ map g xs = map_at f g xs ys (omega (arith, len)) (λ k d lt. each (suc k) d (omega (arith, lt))) in
    ap (λ z. z ∷ map f ys) head ∙ ap (λ zs. g x ∷ zs) tail

sum_at : {A : Type 0} (f : A → ℕ) (xs ys : List A) → map f ys ≡ map f xs → sum_by f ys ≡ sum_by f xs
sum_at f xs ys same = sym (sum-map f ys) ∙ ap sum same ∙ sum-map f xs

module _ {B : Type 0} (contents : B → List ℕ) (layers : B → List Layer) (size : B → ℕ) where
  -- a device that is as it was, but perhaps for layers that do all that they answer as before
  pub record IsAlike (old new : B) : Type 0 where
    pub bytes : contents new ≡ contents old
    pub sectors : size new ≡ size old
    pub loud : is_loud (layers new) ≡ is_loud (layers old)

  pub record IsSnapAlike (s t : Kept B) : Type 0 where
    pub store : IsAlike s.device t.device
    pub same : t ≡ record s { device = t.device }

  abbrev pub IsMergeAlike : Option (Merging B) → Option (Merging B) → Type 0
  IsMergeAlike None None = Unit {0}
  IsMergeAlike None (Some y) = ⊥
  IsMergeAlike (Some x) None = ⊥
  IsMergeAlike (Some x) (Some y) = IsAlike x.device y.device × (y ≡ record x { device = y.device })

  pub record IsVolumeAlike (v w : Volumed B) : Type 0 where
    pub origin : IsAlike v.origin w.origin
    pub count : length w.snaps ≡ length v.snaps
    pub snaps : (k : ℕ) (d : Kept B) → k < length v.snaps → IsSnapAlike (get_or v.snaps k d) (get_or w.snaps k d)
    pub merge : IsMergeAlike v.merge w.merge
    pub becomes : w ≡ record v { origin = w.origin; snaps = w.snaps; merge = w.merge }

  -- the same merge
  pub merge_same : (x : Option (Merging B)) → IsMergeAlike x x
  merge_same None = tt
  merge_same (Some x) = (record { bytes = refl; sectors = refl; loud = refl }, refl)

  merge_books_alike : (loud : Bool) (x y : Option (Merging B)) → IsMergeAlike x y → merge_books contents layers loud y ≡ merge_books contents layers loud x
  merge_books_alike loud None None h = refl
  merge_books_alike loud None (Some y) h = absurd h
  merge_books_alike loud (Some x) None h = absurd h
  merge_books_alike loud (Some x) (Some y) h =
      let mk : Bool → List ℕ → Option MergeBooks = λ b store. Some (record (merging_books contents b x) { store = store }) in
      ap (λ z. Some (merging_books contents (loud && is_loud (layers y.device)) z)) h.1
      ∙ ap (λ b. mk (loud && b) (contents y.device)) h.0.loud ∙ ap (mk (loud && is_loud (layers x.device))) h.0.bytes

  -- the merging store drops writes as before, and is as large
  pub merge_loud_alike : (others : Bool) (x y : Option (Merging B)) → IsMergeAlike x y → is_loud_with layers y others ≡ is_loud_with layers x others
  merge_loud_alike others None None h = refl
  merge_loud_alike others None (Some y) h = absurd h
  merge_loud_alike others (Some x) None h = absurd h
  merge_loud_alike others (Some x) (Some y) h = ap (λ b. others && b) h.0.loud

  pub merge_sized_alike : (counts : List ℕ) (x y : Option (Merging B)) → IsMergeAlike x y → counts_with size y counts ≡ counts_with size x counts
  merge_sized_alike counts None None h = refl
  merge_sized_alike counts None (Some y) h = absurd h
  merge_sized_alike counts (Some x) None h = absurd h
  merge_sized_alike counts (Some x) (Some y) h = ap (λ n. counts ++ n ∷ []) h.0.sectors

  pub merged_alike : (x y : Option (Merging B)) → IsMergeAlike x y → merged_of y ≡ merged_of x
  merged_alike None None h = refl
  merged_alike None (Some y) h = absurd h
  merged_alike (Some x) None h = absurd h
  merged_alike (Some x) (Some y) h = ap (λ (z : Merging B). Some (z.number, z.state.chunk)) h.1

  -- what says which of its events are due is the same
  merge_due_alike : (loud : Bool) (x y : Merging B) → IsAlike x.device y.device → y ≡ record x { device = y.device } → merging_due contents loud y ≡ merging_due contents loud x
  merge_due_alike loud x y h same =
      let mk : List ℕ → DueMerge = λ store. (let d : DueMerge = merging_due contents loud x in record d { books = record d.books { store = store } }) in
      ap (merging_due contents loud) same ∙ ap mk h.bytes

  alike : (d : B) → IsAlike d d
  alike d = record { bytes = refl; sectors = refl; loud = refl }

  books_alike : (s t : Kept B) → IsSnapAlike s t → snap_books contents layers t ≡ snap_books contents layers s
  books_alike s t h =
      let mk : Bool → List ℕ → SnapBooks = λ loud store. record (snap_books contents layers s) { loud = loud; store = store } in
      ap (snap_books contents layers) h.same ∙ ap (λ b. mk b (contents t.device)) h.store.loud ∙ ap (mk (is_loud (layers s.device))) h.store.bytes

  due_alike : (s t : Kept B) → IsSnapAlike s t → due_of_kept contents layers t ≡ due_of_kept contents layers s
  due_alike s t h =
      let mk : SnapBooks → DueSnap = λ b. record (due_of_kept contents layers s) { books = b } in
      ap (due_of_kept contents layers) h.same ∙ ap (λ (x : Kept B). mk (snap_books contents layers x)) (sym h.same) ∙ ap mk (books_alike s t h)

  room_alike : (s t : Kept B) → IsSnapAlike s t → room_of contents layers t ≡ room_of contents layers s
  room_alike s t h =
      let mk : SnapBooks → RoomSnap = λ b. record (room_of contents layers s) { books = b } in
      ap (room_of contents layers) h.same ∙ ap (λ (x : Kept B). mk (snap_books contents layers x)) (sym h.same) ∙ ap mk (books_alike s t h)

  attached_alike : (copies sectors : ℕ) (s t : Kept B) → IsSnapAlike s t → IsAttached copies sectors s → IsAttached copies sectors t
  attached_alike copies sectors s t h a = subst (IsAttached copies sectors) (sym h.same) (record { origin = a.origin; allowed = a.allowed; some = a.some; numbers = a.numbers })

  counted_alike : (s t : Kept B) → IsSnapAlike s t → IsCounted s → IsCounted t
  counted_alike s t h c = subst IsCounted (sym h.same) (record { some = c.some; count = c.count; fits = c.fits; idle = c.idle })

  shares_alike : (s s' t t' : Kept B) → IsSnapAlike s s' → IsSnapAlike t t' → SharesNone s t → SharesNone s' t'
  shares_alike s s' t t' h k apart = subst (λ (x : Kept B). SharesNone x t') (sym h.same) (subst (SharesNone (record s { device = s'.device })) (sym k.same) apart)

  module _ (v w : Volumed B) (h : IsVolumeAlike v w) where
    books_map : map (snap_books contents layers) w.snaps ≡ map (snap_books contents layers) v.snaps
    books_map = map_at (snap_books contents layers) (snap_books contents layers) v.snaps w.snaps h.count (λ k d lt. books_alike (get_or v.snaps k d) (get_or w.snaps k d) (h.snaps k d lt))

    dues_map : dues_of contents layers w ≡ dues_of contents layers v
    dues_map = map_at (due_of_kept contents layers) (due_of_kept contents layers) v.snaps w.snaps h.count (λ k d lt. due_alike (get_or v.snaps k d) (get_or w.snaps k d) (h.snaps k d lt))

    pub books_of_alike : books_of contents layers size w ≡ books_of contents layers size v
    books_of_alike =
        let mk : List ℕ → ℕ → Bool → List SnapBooks → Option MergeBooks → Books = λ o n l ss m. record (books_of contents layers size v) { origin = o; sectors = n; loud = l; snaps = ss; merge = m } in
        ap (books_of contents layers size) h.becomes
        ∙ ap (λ o. mk o (size w.origin) (is_loud (layers w.origin)) (map (snap_books contents layers) w.snaps) (merge_books contents layers (is_loud (layers w.origin)) w.merge)) h.origin.bytes
        ∙ ap (λ n. mk (contents v.origin) n (is_loud (layers w.origin)) (map (snap_books contents layers) w.snaps) (merge_books contents layers (is_loud (layers w.origin)) w.merge)) h.origin.sectors
        ∙ ap (λ l. mk (contents v.origin) (size v.origin) l (map (snap_books contents layers) w.snaps) (merge_books contents layers l w.merge)) h.origin.loud
        ∙ ap (λ ss. mk (contents v.origin) (size v.origin) (is_loud (layers v.origin)) ss (merge_books contents layers (is_loud (layers v.origin)) w.merge)) books_map
        ∙ ap (mk (contents v.origin) (size v.origin) (is_loud (layers v.origin)) (map (snap_books contents layers) v.snaps)) (merge_books_alike (is_loud (layers v.origin)) v.merge w.merge h.merge)

    rooms_map : map (room_of contents layers) w.snaps ≡ map (room_of contents layers) v.snaps
    rooms_map = map_at (room_of contents layers) (room_of contents layers) v.snaps w.snaps h.count (λ k d lt. room_alike (get_or v.snaps k d) (get_or w.snaps k d) (h.snaps k d lt))

    numbers_map : map number_of_snap w.snaps ≡ map number_of_snap v.snaps
    numbers_map = map_at number_of_snap number_of_snap v.snaps w.snaps h.count (λ k d lt. ap number_of_snap (h.snaps k d lt).same)

    lefts_map : map starts_left w.snaps ≡ map starts_left v.snaps
    lefts_map = map_at starts_left starts_left v.snaps w.snaps h.count (λ k d lt. ap starts_left (h.snaps k d lt).same)

    counts_map : map count_in w.snaps ≡ map count_in v.snaps
    counts_map = map_at count_in count_in v.snaps w.snaps h.count (λ k d lt. ap count_in (h.snaps k d lt).same)

    -- a merge goes on
    module _ (x y : Merging B) (near : IsAlike x.device y.device) (same : y ≡ record x { device = y.device }) (g : IsMerged contents layers size x v) where
      other_number : (k : ℕ) (d : Kept B) → k < length w.snaps → (get_or w.snaps k d).number ≢ y.number
      other_number k d lt =
          let within : k < length v.snaps = omega (arith, lt, h.count) in
          subst (λ (n : ℕ). n ≢ y.number) (sym (ap number_of_snap (h.snaps k d within).same))
          (subst (λ (n : ℕ). (get_or v.snaps k d).number ≢ n) (sym (ap (λ (z : Merging B). z.number) same)) (g.apart k d within))

      merged_goes : (loud : Bool) → MergeGoes (map (snap_books contents layers) w.snaps) (merging_due contents loud y)
      merged_goes loud =
          subst (λ (ss : List SnapBooks). MergeGoes ss (merging_due contents loud y)) (sym books_map)
          (subst (MergeGoes (map (snap_books contents layers) v.snaps)) (sym (merge_due_alike loud x y near same)) (g.goes loud))

      merged_rooms : KeepBack y.state.chunk y.state.origin y.pairs (map (room_of contents layers) w.snaps)
      merged_rooms =
          subst (λ (z : Merging B). KeepBack z.state.chunk z.state.origin z.pairs (map (room_of contents layers) w.snaps)) (sym same)
          (subst (KeepBack x.state.chunk x.state.origin x.pairs) (sym rooms_map) g.rooms)

      merged_on : IsMerged contents layers size y w
      merged_on = record {
        origin = ap (λ (z : Merging B). z.state.origin) same ∙ g.origin ∙ sym h.origin.sectors;
        allowed = ap (λ (z : Merging B). is_chunk z.state.chunk) same ∙ g.allowed;
        apart = other_number;
        given = omega (arith, ap (λ (z : Merging B). z.number) same, ap (λ (z : Volumed B). z.attached) h.becomes, g.given);
        few = omega (arith, h.count, g.few);
        goes = merged_goes;
        rooms = merged_rooms;
      }

    goes_alike : (x y : Option (Merging B)) → IsMergeAlike x y → GoesOn contents layers size x v → GoesOn contents layers size y w
    goes_alike None None e g = tt
    goes_alike None (Some y) e g = absurd e
    goes_alike (Some x) None e g = absurd e
    goes_alike (Some x) (Some y) e g = merged_on x y e.0 e.1 g

    pub whole_alike : IsWhole contents layers size v → IsWhole contents layers size w
    whole_alike whole = record {
      merge = goes_alike v.merge w.merge h.merge whole.merge;
      holds = subst Holds (sym books_of_alike) whole.holds;
      waits = subst Waits (sym books_of_alike) whole.waits;
      snaps = λ k d lt. subst (λ (n : ℕ). IsAttached n (size w.origin) (get_or w.snaps k d)) (sym (ap (λ (x : Volumed B). x.copies) h.becomes))
          (subst (λ (n : ℕ). IsAttached v.copies n (get_or w.snaps k d)) (sym h.origin.sectors)
          (attached_alike v.copies (size v.origin) (get_or v.snaps k d) (get_or w.snaps k d) (h.snaps k d (inside k lt)) (whole.snaps k d (inside k lt))));
      counted = λ k d lt. counted_alike (get_or v.snaps k d) (get_or w.snaps k d) (h.snaps k d (inside k lt)) (whole.counted k d (inside k lt));
      apart = λ i j d lt within. shares_alike (get_or v.snaps i d) (get_or w.snaps i d) (get_or v.snaps j d) (get_or w.snaps j d) (h.snaps i d (omega (arith, lt, inside j within))) (h.snaps j d (inside j within)) (whole.apart i j d lt (inside j within));
      numbers = subst (AreNumbers w.attached) (sym numbers_map) (subst (λ (n : ℕ). AreNumbers n (map number_of_snap v.snaps)) (sym (ap (λ (x : Volumed B). x.attached) h.becomes)) whole.numbers);
      requests = subst (λ (x : Volumed B). AreNumbers x.requests (map number_of_flight x.flights)) (sym h.becomes) whole.requests;
      few = omega (arith, h.count, whole.few);
      few_copies = omega (arith, sum_at count_in v.snaps w.snaps counts_map, whole.few_copies);
      few_requests = subst (λ (x : Volumed B). length x.flights ≤ 64) (sym h.becomes) whole.few_requests;
      numbers_left = omega (arith, sum_at starts_left v.snaps w.snaps lefts_map, ap (λ (x : Volumed B). x.copies) h.becomes, ap (λ (x : Volumed B). x.attached) h.becomes, whole.numbers_left);
    }
      where
        inside : (k : ℕ) → k < length w.snaps → k < length v.snaps
        inside k lt = omega (arith, lt, h.count)

pub map_twice : {X Y Z : Type 0} (f : X → Y) (g : Y → Z) (xs : List X) → map g (map f xs) ≡ map (λ x. g (f x)) xs
map_twice f g [] = refl
map_twice f g (x ∷ xs) = ap (λ ys. g (f x) ∷ ys) (map_twice f g xs)

-- without a merge time passes for the origin's device and the snapshots' stores
pub relayered_alone : (f : List Layer → List Layer) (v : Moving) → v.merge ≡ None → moving_relayered f v ≡ record v { origin = relayered f v.origin; snaps = map (held_relayered f) v.snaps }
relayered_alone f v alone =
    ap (λ (g : Option MergeHeld). (let w : Moving = record v { origin = relayered f v.origin; snaps = map (held_relayered f) v.snaps; merge = g } in w)) (ap (merging_relayered f) alone ∙ sym alone)

-- time passes
module _ {B : Type 0} (m : Measures B) (layers : B → List Layer) (seconds : ℕ) where
  later_alike : (old new : B) → IsLater m layers seconds old new → IsAlike m.contents layers m.size old new
  later_alike old new h = record { bytes = h.rest.contents_are; sectors = h.rest.size_is; loud = ap is_loud h.moved ∙ loud_ticked seconds (layers old) }

  snap_later_alike : (s t : Kept B) → IsSnapLater m layers seconds s t → IsSnapAlike m.contents layers m.size s t
  snap_later_alike s t h = record { store = later_alike s.device t.device h.store; same = h.same }

  merge_later_alike : (x y : Option (Merging B)) → IsMergeLater m layers seconds x y → IsMergeAlike m.contents layers m.size x y
  merge_later_alike None None h = tt
  merge_later_alike None (Some y) h = absurd h
  merge_later_alike (Some x) None h = absurd h
  merge_later_alike (Some x) (Some y) h = (later_alike x.device y.device h.0, h.1)

  pub ticked_alike : (v w : Volumed B) → IsTicked m layers seconds v w → IsVolumeAlike m.contents layers m.size v w
  ticked_alike v w h = record {
    origin = later_alike v.origin w.origin h.origin;
    count = h.count;
    snaps = λ k d lt. snap_later_alike (get_or v.snaps k d) (get_or w.snaps k d) (h.snaps k d lt);
    merge = merge_later_alike v.merge w.merge h.merge;
    becomes = h.becomes;
  }

  held_later : (s t : Kept B) → IsSnapLater m layers seconds s t → held_of m.contents layers t ≡ held_relayered (layers_ticked seconds) (held_of m.contents layers s)
  held_later s t h =
      let mk : List ℕ → List Layer → SnapHeld = λ bytes ls. (let o : SnapHeld = held_of m.contents layers s in record o { snap = record o.snap { store = record { bytes = bytes; layers = ls } } }) in
      ap (held_of m.contents layers) h.same ∙ ap (λ b. mk b (layers t.device)) h.store.rest.contents_are ∙ ap (mk (m.contents s.device)) h.store.moved

  merge_later : (x y : Option (Merging B)) → IsMergeLater m layers seconds x y → held_in (merge_seen m.contents layers y) ≡ merging_relayered (layers_ticked seconds) (held_in (merge_seen m.contents layers x))
  merge_later None None h = refl
  merge_later None (Some y) h = absurd h
  merge_later (Some x) None h = absurd h
  merge_later (Some x) (Some y) h =
      let mk : List ℕ → List Layer → Option MergeHeld = λ bytes ls.
      (let o : MergeHeld = merge_held_of (record { due = merging_due m.contents true x; layers = layers x.device; next = x.next }) in Some (on_device o (record { bytes = bytes; layers = ls }))) in
      ap (λ (z : Merging B). held_in (merge_seen m.contents layers (Some z))) h.1 ∙ ap (λ b. mk b (layers y.device)) h.0.rest.contents_are ∙ ap (mk (m.contents x.device)) h.0.moved

  pub ticked_moving : (replied : Option Reply) (v w : Volumed B) → IsTicked m layers seconds v w → moving_of m.contents layers replied w ≡ moving_relayered (layers_ticked seconds) (moving_of m.contents layers replied v)
  ticked_moving replied v w h =
      let o : Moving = moving_of m.contents layers replied v in
      let mk : List ℕ → List Layer → List SnapHeld → Option MergeHeld → Moving = λ bytes ls ss g. record o { origin = record { bytes = bytes; layers = ls }; snaps = ss; merge = g } in
      let after : Option MergeHeld = held_in (merge_seen m.contents layers w.merge) in
      let snaps : map (held_of m.contents layers) w.snaps ≡ map (held_relayered (layers_ticked seconds)) (map (held_of m.contents layers) v.snaps) =
      map_at (held_of m.contents layers) (λ s. held_relayered (layers_ticked seconds) (held_of m.contents layers s)) v.snaps w.snaps h.count (λ k d lt. held_later (get_or v.snaps k d) (get_or w.snaps k d) (h.snaps k d lt))
      ∙ sym (map_twice (held_of m.contents layers) (held_relayered (layers_ticked seconds)) v.snaps) in
      ap (moving_of m.contents layers replied) h.becomes
      ∙ ap (λ b. mk b (layers w.origin) (map (held_of m.contents layers) w.snaps) after) h.origin.rest.contents_are
      ∙ ap (λ ls. mk (m.contents v.origin) ls (map (held_of m.contents layers) w.snaps) after) h.origin.moved
      ∙ ap (λ ss. mk (m.contents v.origin) (layers_ticked seconds (layers v.origin)) ss after) snaps
      ∙ ap (mk (m.contents v.origin) (layers_ticked seconds (layers v.origin)) (map (held_relayered (layers_ticked seconds)) (map (held_of m.contents layers) v.snaps))) (merge_later v.merge w.merge h.merge)

  -- so far: the snapshots before place k are later, the others as they were
  pub record AreLaterBelow (k : ℕ) (olds news : List (Kept B)) : Type 0 where
    pub count : length news ≡ length olds
    pub each : (j : ℕ) (d : Kept B) → j < k → j < length olds → IsSnapLater m layers seconds (get_or olds j d) (get_or news j d)
    pub rest : (j : ℕ) (d : Kept B) → k ≤ j → get_or news j d ≡ get_or olds j d

  pub later_none : (olds : List (Kept B)) → AreLaterBelow 0 olds olds
  later_none olds = record { count = refl; each = λ j d lt within. absurd (omega (arith, lt)); rest = λ j d le. refl }

  pub later_more : (k : ℕ) (olds news : List (Kept B)) (s t : Kept B) → AreLaterBelow k olds news → k < length news → IsSnapLater m layers seconds (get_or news k s) t → AreLaterBelow (k + 1) olds (set news k t)
  later_more k olds news s t h within is = record {
    count = length-set news k t ∙ h.count;
    each = λ j d lt inside. elim (cases_eq j k) [
      | inl same ↦
          subst (λ (x : Kept B). IsSnapLater m layers seconds (get_or olds j d) x) (sym (ap (λ i. get_or (set news k t) i d) same ∙ get_or-set_same news k t d within))
          (subst (λ (x : Kept B). IsSnapLater m layers seconds x t) (get_or_default news k s d within ∙ ap (λ i. get_or news i d) (sym same) ∙ h.rest j d (omega (arith, same))) is)
      | inr other ↦
          subst (λ (x : Kept B). IsSnapLater m layers seconds (get_or olds j d) x) (sym (get_or-set_other news k j t d other)) (h.each j d (omega (arith, lt, other)) inside)
    ];
    rest = λ j d le. (let other : j ≢ k = omega (arith, le) in get_or-set_other news k j t d other ∙ h.rest j d (omega (arith, le)));
  }

  pub later_done : (k : ℕ) (olds news : List (Kept B)) → AreLaterBelow k olds news → k ≡ length news → (j : ℕ) (d : Kept B) → j < length olds → IsSnapLater m layers seconds (get_or olds j d) (get_or news j d)
  later_done k olds news h whole j d lt = h.each j d (omega (arith, lt, whole, h.count)) lt
