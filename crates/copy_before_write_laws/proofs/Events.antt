-- An event of a volume saves first: what the volume keeps, in the event machine's words.
use Rattle.std.proofs.Common.{◌≡◌, ◌≢◌, ◌⊎◌, inl, inr, ℕ, suc, ◌+◌, ◌*◌, ◌/◌, ◌<◌, ◌≤◌, Bool, true, false, List, [], ◌∷◌, length, map, get_or, Option, None, Some, Result, Ok, Err, refl, arith, ap, ◌∙◌, sym, subst}
use Rattle.std.specs.Prelude.{◌==◌, ◌&&◌, AllPairs}
use Rattle.std.specs.List.{All, list_all}
use Rattle.std.proofs.lemmas.Bool.{cases_Bool, cond-true, cond-false, eqb-true, false≢true}
use Rattle.std.proofs.lemmas.List.{get_or-map, length-map}
use Rattle.std.proofs.lemmas.Simd.{map-map}
use Rattle.sector.specs.Bytes.{sector_at}
use Rattle.cow_header.specs.HeaderText.{found_in}
use Rattle.cow_header.specs.declared.found.Found.TheVariants.{Header}
use Rattle.device.specs.Layers.{Layer, is_loud}
use Rattle.sector.specs.declared.pair.Pair.{Pair}
use Rattle.sector.specs.declared.refusal.Refusal.{Refusal}
use Rattle.sector.specs.declared.refusal.Refusal.TheVariants.{Invalid}
use Rattle.cow_header.specs.declared.found.Found.{Found}
use Rattle.cow_format.specs.Places.{area_place, slot}
use Rattle.cow_format.specs.Pairs.{pairs_of}
use Rattle.cow_format.proofs.AreaPlaces.{area_of}
use Rattle.crash_laws.specs.Clauses.{Given}
use Rattle.crash_laws.specs.Stop.{IsTorn}
use Rattle.crash_laws.specs.May.{sector_of}
use Rattle.crash_laws.proofs.May.{slot_there}
use Rattle.cache_loss_laws.specs.Kept.{SnapLasts, last_of, last_slot}
use Rattle.plain_machine.specs.declared.event.Event.{Event}
use Rattle.plain_machine.specs.declared.event.Outcome.{Outcome}
use Rattle.plain_machine.specs.declared.request.Dev.TheVariants.{Snap as ToSnap}
use Rattle.plain_machine.specs.Plain.{asked_under}
use Rattle.in_flight.specs.Kinds.{in_flight, kind_at, kind_of}
use Rattle.in_flight.specs.declared.flights.Kind.TheVariants.{SnapWrite}
use Rattle.in_flight.specs.declared.flights.Route.TheVariants.{Refused, Store}
use Rattle.in_flight.specs.declared.flights.Flight.{Flight}
use Rattle.volume_laws.specs.Books.{SnapBooks}
use Rattle.volume_laws.specs.Held.{RefusedHolds, SnapHolds}
use Rattle.volume_laws.specs.Waits.{WaitsHolds}
use Rattle.volume_laws.specs.Whole.{OriginHolds}
use Rattle.event_machine.specs.Held.{Going, Moving}
use Rattle.event_machine.specs.Due.{is_issuable}
use Rattle.event_machine.specs.MergeSeen.{MergeSeen, books_in}
use Rattle.event_machine.specs.Seen.{Seen, going_of, held_of as held_seen, replied_by}
use Rattle.event_machine.specs.Stepping.{first_that}
use Rattle.snapshot.specs.Kept.{Kept, books_of as snap_books}
use Rattle.merge.specs.Merging.{Merging, books_of as merging_books}
use Rattle.snapshot_list.specs.Rooms.{merge_books}
use Rattle.volume.specs.Exact.{IsExact}
use Rattle.volume.specs.Lasting.{IsKept}
use Rattle.volume.specs.Moved.{held_of, merge_seen, moving_of, seen_of}
use Rattle.volume.specs.SnapLasting.{SnapLasting, lost_of}
use Rattle.volume.specs.Stepping.{KeepsAll}
use Rattle.volume.specs.Stopping.{given_as, given_by, given_in}
use Rattle.volume.specs.Volumed.{Volumed, is_loud_in_all, is_loud_with}
use Rattle.volume.specs.Whole.{GoesOn, IsCounted}
use Rattle.read_beside_writer.specs.Moments.{IsLive, IsSavedFirst}
use Rattle.copy_before_write_laws.specs.Saves.{IsNotWritten, SavesFirst}
use Rattle.copy_before_write_laws.proofs.Changes.{Changes, IsWrittenBy, event_changes, first_passes, first_stands, takes}
use Rattle.copy_before_write_laws.proofs.Laws.{IsMergeSeen, IsSeenAll, each_passes, goes}
use Rattle.copy_before_write_laws.proofs.Snaps.{IsSeen, there_is}
use Rattle.copy_before_write_laws.proofs.Writes.{IsBeside, inside_beside}

none_some : {X : Type 0} (x : X) → None ≡ Some x → ⊥
none_some x e = cc

both : (a b : Bool) → (a && b) ≡ true → (a ≡ true) × (b ≡ true)
both true b e = (refl, e)
both false b e = absurd (false≢true e)

-- The request of a number that goes somewhere is the one that is asked under it, where no two have one number.
asked_found : (n : ℕ) (r : Going) (fs : List Flight) → AllPairs (λ (f g : Flight). f.number ≢ g.number) fs → first_that (takes n) (map going_of fs) ≡ Some r → asked_under n (map in_flight fs) ≡ Some r.request
asked_found n r [] apart found = absurd (none_some r found)
asked_found n r (f ∷ fs) apart found = elim (cases_Bool (f.number == n)) [
  | inl mine ↦ cond-true _ _ _ mine ∙ ap Some (own mine (cases_Bool (is_issuable (going_of f))))
  | inr other ↦ cond-false _ _ _ other ∙ asked_found n r fs (λ i j d lt within. apart (suc i) (suc j) d (omega (arith, lt)) (omega (arith, within))) (sym (cond-false _ _ _ (ap (λ b. b && is_issuable (going_of f)) other)) ∙ found)
] where
  own : (f.number == n) ≡ true → (is_issuable (going_of f) ≡ true) ⊎ (is_issuable (going_of f) ≡ false) → f.request ≡ r.request
  own mine (inl routed) =
      let same : Some (going_of f) ≡ Some r = sym (cond-true _ _ _ (ap (λ b. b && is_issuable (going_of f)) mine ∙ routed)) ∙ found in
      let is : going_of f ≡ r = cc in
      ap (λ (g : Going). g.request) is
  own mine (inr held) =
      let rest : first_that (takes n) (map going_of fs) ≡ Some r = sym (cond-false _ _ _ (ap (λ b. b && is_issuable (going_of f)) mine ∙ held)) ∙ found in
      let stands = first_stands (takes n) (map going_of fs) r rest in
      let within : stands.index < length fs = (let w = stands.within in omega (arith, w, length-map fs going_of)) in
      let number : (get_or fs stands.index f).number ≡ n =
      ap (λ (g : Going). g.number) (sym (get_or-map going_of fs stands.index f r within) ∙ sym stands.is) ∙ eqb-true r.number n (both (r.number == n) (is_issuable r) (first_passes (takes n) (map going_of fs) r rest)).0 in
      absurd (apart 0 (suc stands.index) f (omega arith) (omega (arith, within)) (eqb-true f.number n mine ∙ sym number))

-- what holds of what a list becomes
all_mapped : {X Y : Type 0} (P : Y → Type 0) (f : X → Y) (xs : List X) → All (λ x. P (f x)) xs → All P (map f xs)
all_mapped P f xs all k y lt =
    let within : k < length xs = omega (arith, lt, length-map xs f) in
    let (x, is) = there_is xs k within in
    subst P (sym (get_or-map f xs k x y within)) (all k x within)

refused_elsewhere : (place : ℕ) → Refused ≡ Store place → ⊥
refused_elsewhere place e = cc

bad_header : (chunk : ℕ) (r : Result Found Refusal) → r ≡ Err Invalid → r ≡ Ok (Header chunk) → ⊥
bad_header chunk r bad good = let e : Err Invalid ≡ Ok (Header chunk) = sym bad ∙ good in cc

module _ {B : Type 0} (holds : B → ℕ → List ℕ → Type 0) (contents : B → List ℕ) (layers : B → List Layer) (size : B → ℕ) (whole : (d : B) → length (contents d) ≡ 512 * size d) (here : (d : B) (s : ℕ) → s < size d → holds d s (sector_at (contents d) s)) where
  -- all devices drop no writes
  pub record IsLoudAll (v : Volumed B) : Type 0 where
    pub origin : is_loud (layers v.origin) ≡ true
    pub snaps : All (λ (s : Kept B). is_loud (layers s.device) ≡ true) v.snaps
    pub merge : (m : Merging B) → v.merge ≡ Some m → is_loud (layers m.device) ≡ true

  pub loud_all : (v : Volumed B) → is_loud_in_all layers v ≡ true → IsLoudAll v
  loud_all v loud = by v.merge refl loud
    where
      by : (merge : Option (Merging B)) → v.merge ≡ merge → is_loud_with layers merge (is_loud (layers v.origin) && list_all (λ (s : Kept B). is_loud (layers s.device)) v.snaps) ≡ true → IsLoudAll v
      by None is loud =
          let two = both (is_loud (layers v.origin)) (list_all (λ (s : Kept B). is_loud (layers s.device)) v.snaps) loud in
          record { origin = two.0; snaps = each_passes (λ (s : Kept B). is_loud (layers s.device)) v.snaps two.1; merge = λ m at. absurd (none_some m (sym is ∙ at)) }
      by (Some x) is loud =
          let all = both (is_loud (layers v.origin) && list_all (λ (s : Kept B). is_loud (layers s.device)) v.snaps) (is_loud (layers x.device)) loud in
          let two = both (is_loud (layers v.origin)) (list_all (λ (s : Kept B). is_loud (layers s.device)) v.snaps) all.0 in
          record { origin = two.0; snaps = each_passes (λ (s : Kept B). is_loud (layers s.device)) v.snaps two.1; merge = λ m at. (let one : Some x ≡ Some m = sym is ∙ at in let same : x ≡ m = cc in subst (λ (y : Merging B). is_loud (layers y.device) ≡ true) same all.1) }

  module _ (v : Volumed B) (kept : IsKept holds contents layers size v) (loud : is_loud_in_all layers v ≡ true) where
    all_loud : IsLoudAll v
    all_loud = loud_all v loud

    abbrev seens : List Seen
    seens = map (seen_of contents layers) v.snaps

    abbrev merging : Option MergeSeen
    merging = merge_seen contents layers v.merge

    books_are : map (λ (s : Seen). s.due.books) seens ≡ map (snap_books contents layers) v.snaps
    books_are = map-map (λ (s : Seen). s.due.books) (seen_of contents layers) v.snaps

    -- the books of the merge are those that the machine sees
    merge_are : merge_books contents layers (is_loud (layers v.origin)) v.merge ≡ books_in merging
    merge_are = by v.merge refl
      where
        by : (m : Option (Merging B)) → v.merge ≡ m → merge_books contents layers (is_loud (layers v.origin)) m ≡ books_in (merge_seen contents layers m)
        by None is = refl
        by (Some m) is = ap (λ b. Some (merging_books contents (b && is_loud (layers m.device)) m)) all_loud.origin ∙ ap (λ b. Some (merging_books contents b m)) (all_loud.merge m is)

    merge_known : IsMergeSeen (size v.origin) (contents v.origin) v.flights merging
    merge_known = by v.merge refl
      where
        by : (m : Option (Merging B)) → v.merge ≡ m → IsMergeSeen (size v.origin) (contents v.origin) v.flights (merge_seen contents layers m)
        by None is = tt
        by (Some m) is =
            let before : OriginHolds (contents v.origin) v.flights (Some (merging_books contents true m)) =
            subst (OriginHolds (contents v.origin) v.flights) (merge_are ∙ ap (λ x. books_in (merge_seen contents layers x)) is) kept.whole.holds.merge in
            let goes : GoesOn contents layers size (Some m) v = subst (λ x. GoesOn contents layers size x v) is kept.whole.merge in
            (before, goes.origin)

    seen_all : IsSeenAll (size v.origin) (contents v.origin) seens v.flights merging
    seen_all = record {
      long = whole v.origin;
      holds = subst (All (SnapHolds true (contents v.origin) v.flights)) (sym books_are) (subst (λ b. All (SnapHolds b (contents v.origin) v.flights) (map (snap_books contents layers) v.snaps)) all_loud.origin kept.whole.holds.snaps);
      some = subst (All (λ (b : SnapBooks). 0 < b.chunk)) (sym books_are) (all_mapped (λ (b : SnapBooks). 0 < b.chunk) (snap_books contents layers) v.snaps (λ k s lt. (kept.whole.snaps k s lt).some));
      requests = kept.whole.holds.requests;
      waits = λ k f lt. subst (λ bs. WaitsHolds (books_in merging) bs (get_or v.flights k f)) (sym books_are) (subst (λ m. WaitsHolds m (map (snap_books contents layers) v.snaps) (get_or v.flights k f)) merge_are (kept.whole.waits.held k f lt));
      merge = merge_known;
    }

    module _ (k : ℕ) (s : Kept B) (within : k < length v.snaps) (is : s ≡ get_or v.snaps k s) where
      lasting : SnapLasting holds contents layers size v.origin s
      lasting = subst (SnapLasting holds contents layers size v.origin) (sym is) (kept.lasting.snaps k s within)

      loud_store : is_loud (layers s.device) ≡ true
      loud_store = subst (λ (x : Kept B). is_loud (layers x.device) ≡ true) (sym is) (all_loud.snaps k s within)

      some_chunk : 0 < s.state.chunk
      some_chunk = subst (λ (x : Kept B). 0 < x.state.chunk) (sym is) (kept.whole.snaps k s within).some

      held : SnapHolds true (contents v.origin) v.flights (snap_books contents layers s)
      held =
          let b : SnapBooks = snap_books contents layers s in
          let at : get_or (map (snap_books contents layers) v.snaps) k b ≡ snap_books contents layers s = get_or-map (snap_books contents layers) v.snaps k s b within ∙ ap (snap_books contents layers) (sym is) in
          subst (λ l. SnapHolds l (contents v.origin) v.flights (snap_books contents layers s)) all_loud.origin
          (subst (SnapHolds (is_loud (layers v.origin)) (contents v.origin) v.flights) at (kept.whole.holds.snaps k b (omega (arith, within, length-map v.snaps (snap_books contents layers)))))

      some_sectors : 0 < size s.device
      some_sectors =
          let n : ℕ = length s.pairs / (32 * s.state.chunk) in
          let up : s.state.chunk * (area_place s.state.chunk n + 1) ≡ s.state.chunk * area_place s.state.chunk n + s.state.chunk = grind arith in
          let room = lasting.formed.room in
          omega (arith, up, room, some_chunk)

      -- the slots of the current area behind the pairs are empty
      past : s.live ≡ true → (j : ℕ) → length s.pairs ≤ j → j < (length s.pairs / (32 * s.state.chunk) + 1) * (32 * s.state.chunk) → (slot s.state.chunk (contents s.device) j).new ≡ 0
      past live j low high =
          let lasts : SnapLasts (holds v.origin) (holds s.device) (contents v.origin) (contents s.device) _ (lost_of size v.origin s) = lasting.live all_loud.origin loud_store live in
          let counted = subst (IsCounted {B = B}) (sym is) (kept.whole.counted k s within) in
          let current : length s.pairs / (32 * s.state.chunk) ≡ s.state.current = ap (λ n. n / (32 * s.state.chunk)) counted.count ∙ area_of s.state.chunk s.state.current s.state.filled (counted.fits live) in
          let below : j < (s.state.current + 1) * (32 * s.state.chunk) = subst (λ n. j < (n + 1) * (32 * s.state.chunk)) current high in
          let known : j ≤ last_of (lost_of size v.origin s) = last_known s.state.firm below in
          ap (λ (p : Pair). p.new) (sym (slot_there s.state.chunk (contents s.device) j some_chunk))
          ∙ (lasts.list.slots j (sector_at (contents s.device) (sector_of s.state.chunk j)) known (here s.device (sector_of s.state.chunk j) (lasts.inside j known))).past low
        where
          last_known : (b : Bool) → j < (s.state.current + 1) * (32 * s.state.chunk) → j ≤ last_slot s.state.chunk s.state.current b
          last_known true below = (let more : (s.state.current + 2) * (32 * s.state.chunk) ≡ (s.state.current + 1) * (32 * s.state.chunk) + 32 * s.state.chunk = grind arith in omega (arith, below, more))
          last_known false below = omega (arith, below)

      -- an untried header that was not marked is good
      good : s.untried ≡ true → s.marked ≡ false → found_in (sector_at (contents s.device) 0) ≡ Ok (Header s.state.chunk)
      good untried unmarked = elim (cases_Bool s.live) [
        | inl live ↦ absurd (false≢true (sym (held.alive live).tried ∙ untried))
        | inr dead ↦ elim ((lasting.untried all_loud.origin loud_store dead untried).header (sector_at (contents s.device) 0) (here s.device 0 some_sectors)) [
          | inl fine ↦ fine
          | inr bad ↦ absurd (false≢true (sym unmarked ∙ bad.0))
        ]
      ]

      seen_one : IsSeen (size v.origin) (size s.device) (contents v.origin) v.flights (snap_books contents layers s)
      seen_one = record {
        some = some_chunk;
        holds = held;
        loud = loud_store;
        long = whole s.device;
        formed = lasting.formed;
        listed = lasting.listed loud_store;
        past = past;
        good = good;
      }

      side : s.stale ≡ false → (s.live ≡ true) ⊎ (s.untried ≡ true) ⊎ (found_in (sector_at (contents s.device) 0) ≡ Ok (Header s.state.chunk) → ⊥)
      side fresh = elim (cases_Bool s.live) [
        | inl live ↦ inl live
        | inr dead ↦ elim (cases_Bool s.untried) [
          | inl untried ↦ inr (inl untried)
          | inr tried ↦ inr (inr (λ fine. bad_header s.state.chunk (found_in (sector_at (contents s.device) 0)) ((lasting.tried all_loud.origin loud_store dead tried fresh).header (sector_at (contents s.device) 0) (here s.device 0 some_sectors)) fine))
        ]
      ]

      -- a write of its array is what the event issues
      not_written : (event : Event) → IsNotWritten event v s → IsWrittenBy event (map going_of v.flights) (held_of contents layers s) → ⊥
      not_written event none e = elim (cases_Bool s.live) [
        | inl live ↦
            (let g : Given = record { array = Some s.number; first = e.request.request.range.first; count = e.request.request.range.count; bytes = e.bytes } in
            let asked : asked_under e.number (map in_flight v.flights) ≡ Some e.request.request = asked_found e.number e.request v.flights kept.whole.waits.numbers e.found in
            let gives : given_as e.request.request.dev e.request.request.range e.request.request.op ≡ Some g =
            ap (λ dev. given_as dev e.request.request.range e.request.request.op) e.dev ∙ ap (given_as (ToSnap s.number) e.request.request.range) e.op in
            none live g (ap (λ x. given_by x (map in_flight v.flights)) e.issued ∙ ap given_in asked ∙ gives) refl)
        | inr dead ↦
            (let stands = first_stands (takes e.number) (map going_of v.flights) e.request e.found in
            let lt : stands.index < length v.flights = (let x = stands.within in omega (arith, x, length-map v.flights going_of)) in
            let (f, at) = there_is v.flights stands.index lt in
            let same : e.request ≡ going_of f = stands.is ∙ get_or-map going_of v.flights stands.index f e.request lt ∙ ap going_of (sym at) in
            let kind : kind_of f.request ≡ SnapWrite s.number = sym (ap (λ (g : Going). kind_of g.request) same) ∙ ap (λ dev. kind_at dev e.request.request.op) e.dev ∙ ap (kind_at (ToSnap s.number)) e.op in
            let refused : RefusedHolds s.number f = subst (RefusedHolds s.number) (sym at) ((held.spoilt dead).routes stands.index f lt) in
            refused_elsewhere e.place (sym (refused.write kind) ∙ sym (ap (λ (g : Going). g.route) same) ∙ e.route))
      ]

  module _ (event : Event) (outcome : Outcome) (v w : Volumed B) (kept : IsKept holds contents layers size v) (kept' : IsKept holds contents layers size w) (loud : is_loud_in_all layers v ≡ true) (loud' : is_loud_in_all layers w ≡ true) (same : KeepsAll size v w) (exact : IsExact contents layers event outcome v w) where
    abbrev before : Moving
    before = moving_of contents layers None v

    abbrev after : Moving
    after = moving_of contents layers (replied_by outcome None) w

    changed : Changes event before after
    changed = subst (Changes event before) (exact.step loud None) (event_changes event before)

    long_enough : length w.snaps ≡ length v.snaps
    long_enough = sym (length-map w.snaps (λ (s : Kept B). s.state.chunk)) ∙ ap length same.chunks ∙ length-map v.snaps (λ (s : Kept B). s.state.chunk)

    module _ (k : ℕ) (s t : Kept B) (within : k < length v.snaps) (is : s ≡ get_or v.snaps k s) (at : t ≡ get_or w.snaps k t) where
      low : k < length w.snaps
      low = omega (arith, within, long_enough)

      same_chunk : t.state.chunk ≡ s.state.chunk
      same_chunk =
          ap (λ (x : Kept B). x.state.chunk) at ∙ sym (get_or-map (λ (x : Kept B). x.state.chunk) w.snaps k t 0 low) ∙ ap (λ xs. get_or xs k 0) same.chunks
          ∙ get_or-map (λ (x : Kept B). x.state.chunk) v.snaps k s 0 within ∙ ap (λ (x : Kept B). x.state.chunk) (sym is)

      beside : All (IsBeside s.state.chunk) t.pairs
      beside = subst (λ c. All (IsBeside c) t.pairs) same_chunk (inside_beside t.state.chunk (size w.origin) (size t.device) t.pairs (lasting w kept' loud' k t low at).formed.inside)

      listed : pairs_of s.state.chunk (contents t.device) ≡ t.pairs
      listed = subst (λ c. pairs_of c (contents t.device) ≡ t.pairs) same_chunk ((lasting w kept' loud' k t low at).listed (loud_store w kept' loud' k t low at))

      -- The snapshot is saved first, from any moment of the event to any later one.
      pub saved_first : s.stale ≡ false → IsNotWritten event v s → (om om' m m' : List ℕ) → IsTorn (size v.origin) (contents v.origin) (contents w.origin) om → IsTorn (size v.origin) om (contents w.origin) om' → IsTorn (size s.device) (contents s.device) (contents t.device) m → IsTorn (size s.device) m (contents t.device) m'
          → IsLive s.state.chunk (record { origin = om'; store = m' }) → IsLive s.state.chunk (record { origin = om; store = m }) × IsSavedFirst s.state.chunk (record { origin = om; store = m }) (record { origin = om'; store = m' })
      saved_first fresh none = goes (size v.origin) (size s.device) event before after (seens v kept loud) v.flights (merging v kept loud) (sym (map-map held_seen (seen_of contents layers) v.snaps)) refl refl (seen_all v kept loud) k (seen_of contents layers s) (held_of contents layers t)
          (omega (arith, within, length-map v.snaps (seen_of contents layers)))
          (ap (seen_of contents layers) is ∙ sym (get_or-map (seen_of contents layers) v.snaps k s (seen_of contents layers s) within))
          (ap (held_of contents layers) at ∙ sym (get_or-map (held_of contents layers) w.snaps k t (held_of contents layers t) low))
          (seen_one v kept loud k s within is) (side v kept loud k s within is fresh) beside listed (not_written v kept loud k s within is event none) changed

    -- An event of a volume saves first.
    pub event_saves : SavesFirst contents layers size event v w
    event_saves = record { each = λ k s t within is at heard fresh none mid later between rest live. saved_first k s t within is at fresh none mid.origin later.origin mid.store later.store between.origin rest.origin between.store rest.store live }
