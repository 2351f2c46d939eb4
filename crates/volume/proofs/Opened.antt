-- Values that a stop may leave in a sector of an array after one call: they might be left there before, or the call's write gives
-- them.
use Rattle.std.proofs.Common.{◌≡◌, ◌⊎◌, inl, inr, ℕ, suc, ◌*◌, ◌<◌, true, false, List, [], ◌∷◌, length, get_or, map, Option, None, Some, refl, sym, ◌∙◌, ap, subst, arith, length-take, length-drop, min, ◌-◌}
use Rattle.std.proofs.lemmas.List.{get_or-map, get_or_default, get_or_append_left, get_or_push, length-map}
use Rattle.sector.specs.Bytes.{sector_at, with_sectors}
use Rattle.sector.proofs.Sectors.{sectors_at-with_same}
use Rattle.cow_format.specs.Picture.{picture}
use Rattle.crash_laws.specs.Stop.{MayLeave, Within}
use Rattle.crash_laws.specs.Again.{IsOpen}
use Rattle.crash_laws.specs.Clauses.{Given, Gives, StopsDisk, StopsMerge}
use Rattle.crash_laws.proofs.Opens.{left_with}
use Rattle.snapshot.specs.Kept.{Kept}
use Rattle.snapshot_list.specs.Numbers.{number_of_snap}
use Rattle.merge.specs.Merging.{Merging}
use Rattle.volume.specs.AddedUp.{IsOpenSnap, IsLeftAt, IsOpenOrigin}
use Rattle.volume.specs.Adding.{LeavesNoMore}
use Rattle.volume.specs.Causes.{IsAt, counts_with, lives_of}
use Rattle.volume.specs.Stepping.{KeepsAll, merged_of}
use Rattle.volume.specs.Stopping.{StopsVolume, StopsOrigin}
use Rattle.volume.specs.Volumed.{Volumed}
use Rattle.volume.proofs.FewerLives.{AreFewer}

-- two lists that agree in a map agree in it at each place
pub same_at : {X Y : Type 0} (f : X → Y) (xs ys : List X) (k : ℕ) (x y : X) → map f ys ≡ map f xs → k < length xs → k < length ys → x ≡ get_or xs k x → y ≡ get_or ys k y → f y ≡ f x
same_at f xs ys k x y same within inside is are = ap f are ∙ sym (get_or-map f ys k y (f y) inside) ∙ ap (λ l. get_or l k (f y)) same ∙ get_or-map f xs k x (f y) within ∙ ap f (sym is)

pub long_as : {X Y : Type 0} (f : X → Y) (xs ys : List X) → map f ys ≡ map f xs → length ys ≡ length xs
long_as f xs ys same = sym (length-map ys f) ∙ ap length same ∙ length-map xs f

-- the sectors of the origin's device, of a snapshot's and of the merging store's, of the list of all of them
size_first : {B : Type 0} (size : B → ℕ) (origin : B) (snaps : List (Kept B)) (m : Option (Merging B)) → get_or (counts_with size m (size origin ∷ map (λ s. size s.device) snaps)) 0 0 ≡ size origin
size_first size origin snaps None = refl
size_first size origin snaps (Some m) = refl

size_snap : {B : Type 0} (size : B → ℕ) (origin : B) (snaps : List (Kept B)) (m : Option (Merging B)) (k : ℕ) (d : Kept B) → k < length snaps → get_or (counts_with size m (size origin ∷ map (λ s. size s.device) snaps)) (suc k) 0 ≡ size (get_or snaps k d).device
size_snap size origin snaps None k d within = get_or-map (λ s. size s.device) snaps k d 0 within
size_snap size origin snaps (Some m) k d within =
    get_or_append_left (map (λ s. size s.device) snaps) (size m.device ∷ []) 0 k (omega (arith, within, length-map snaps (λ s. size s.device))) ∙ get_or-map (λ s. size s.device) snaps k d 0 within

size_merge : {B : Type 0} (size : B → ℕ) (origin : B) (snaps : List (Kept B)) (m : Merging B) → get_or (counts_with size (Some m) (size origin ∷ map (λ s. size s.device) snaps)) (suc (length snaps)) 0 ≡ size m.device
size_merge size origin snaps m = get_or_push (map (λ s. size s.device) snaps) (size m.device) 0 (length snaps) (length-map snaps (λ s. size s.device))

-- of a merge's number and chunk
abbrev chunk_in : Option (ℕ × ℕ) → ℕ
chunk_in None = 0
chunk_in (Some p) = p.1

some_none : (p : ℕ × ℕ) → Some p ≡ None → ⊥
some_none p e = cc

module _ {B : Type 0} (holds : B → ℕ → List ℕ → Type 0) (size : B → ℕ) where
  -- what may be left after a call is left within it
  within_new : (old new : ℕ → List ℕ → Type 0) (n m : ℕ) (b : List ℕ) → n ≡ m → MayLeave new n b → MayLeave (Within old new) m b
  within_new old new n m b same left = record { whole = left.whole ∙ ap (λ k. 512 * k) same; each = λ s lt. inr (left.each s (omega (arith, lt, same))) }

  -- what may be left where no more may be than before might be left before
  left_before : (d d' : B) (b : List ℕ) → size d' ≡ size d → LeavesNoMore holds size d d' → MayLeave (holds d') (size d') b → MayLeave (holds d) (size d) b
  left_before d d' b same less left = record { whole = left.whole ∙ ap (λ k. 512 * k) same; each = λ s lt. less s (sector_at b s) lt (left.each s (omega (arith, lt, same))) }

  pub open_before : (chunk chunk' s : ℕ) (x : List ℕ) (o o' d d' : B) → chunk' ≡ chunk → size o' ≡ size o → size d' ≡ size d → LeavesNoMore holds size o o' → LeavesNoMore holds size d d' → IsOpen chunk' (holds o') (holds d') (size o') (size d') s x → IsOpen chunk (holds o) (holds d) (size o) (size d) s x
  open_before chunk chunk' s x o o' d d' chunks so sd lo ld may = record {
    origin = may.origin;
    store = may.store;
    origin_left = left_before o o' may.origin so lo may.origin_left;
    store_left = left_before d d' may.store sd ld may.store_left;
    is = may.is ∙ ap (λ (k : ℕ). sector_at (picture k may.origin may.store) s) chunks;
  }

  -- a snapshot of a volume before a call, for one after it
  pub record IsEarlier (v : Volumed B) (t : Kept B) : Type 0 where
    pub place : ℕ
    pub snap : Kept B
    pub at : IsAt place snap v
    pub number : snap.number ≡ t.number
    pub live : snap.live ≡ true
    pub chunk : t.state.chunk ≡ snap.state.chunk
    pub size_is : size t.device ≡ size snap.device
    pub less : LeavesNoMore holds size snap.device t.device

  -- a call after which no device may be left with more
  pub snap_before : (v w : Volumed B) → size w.origin ≡ size v.origin → LeavesNoMore holds size v.origin w.origin → ((k : ℕ) (t : Kept B) → IsAt k t w → t.live ≡ true → IsEarlier v t) → (number s : ℕ) (x : List ℕ) → IsOpenSnap holds size w number s x → IsOpenSnap holds size v number s x
  snap_before v w so lo each number s x o =
      let e = each o.place o.snap o.at o.live in
      record {
        place = e.place;
        snap = e.snap;
        at = e.at;
        mine = e.number ∙ o.mine;
        live = e.live;
        shows = open_before e.snap.state.chunk o.snap.state.chunk s x v.origin w.origin e.snap.device o.snap.device e.chunk so e.size_is lo e.less o.shows;
      }

  disk_before : (o o' : B) (s : ℕ) (x : List ℕ) → size o' ≡ size o → LeavesNoMore holds size o o' → IsLeftAt (holds o') (size o') s x → IsLeftAt (holds o) (size o) s x
  disk_before o o' s x so lo at = record { bytes = at.bytes; left = left_before o o' at.bytes so lo at.left; is = at.is }

  -- the merging store, before a call and after it
  abbrev pub IsEarlierMerge : Option (Merging B) → Option (Merging B) → Type 0
  IsEarlierMerge None None = Unit {0}
  IsEarlierMerge None (Some m) = ⊥
  IsEarlierMerge (Some m) None = ⊥
  IsEarlierMerge (Some m) (Some m') = (m'.state.chunk ≡ m.state.chunk) × (size m'.device ≡ size m.device) × LeavesNoMore holds size m.device m'.device

  pub origin_before : (o o' : B) (m m' : Option (Merging B)) → size o' ≡ size o → LeavesNoMore holds size o o' → IsEarlierMerge m m' → (s : ℕ) (x : List ℕ) → IsOpenOrigin holds size o' m' s x → IsOpenOrigin holds size o m s x
  origin_before o o' None None so lo e s x may = disk_before o o' s x so lo may
  origin_before o o' None (Some m') so lo e s x may = absurd e
  origin_before o o' (Some m) None so lo e s x may = absurd e
  origin_before o o' (Some m) (Some m') so lo e s x may = open_before m.state.chunk m'.state.chunk s x o o' m.device m'.device e.0 so e.1 lo e.2 may

  -- An event: a value that may be left after it might be left before it, or its write gives it.
  module _ (given : Option Given) (v w : Volumed B) (kept : KeepsAll size v w) (stops : StopsVolume holds size given v w) where
    pub event_sectors : size w.origin ≡ size v.origin
    event_sectors = sym (size_first size w.origin w.snaps w.merge) ∙ ap (λ l. get_or l 0 0) kept.sizes ∙ size_first size v.origin v.snaps v.merge

    many : length w.snaps ≡ length v.snaps
    many = long_as number_of_snap v.snaps w.snaps kept.numbers

    pub event_snap : AreFewer (lives_of w) (lives_of v) → (number s : ℕ) (x : List ℕ) → s < size w.origin → IsOpenSnap holds size w number s x → IsOpenSnap holds size v number s x ⊎ Gives given (Some number) s x
    event_snap fewer number s x lt o =
        let k : ℕ = o.place in
        let t : Kept B = o.snap in
        let inside = o.at.within in
        let within : k < length v.snaps = omega (arith, inside, many) in
        let b : Kept B = get_or v.snaps k t in
        let is : b ≡ get_or v.snaps k b = get_or_default v.snaps k t b within in
        let number_is : t.number ≡ b.number = same_at number_of_snap v.snaps w.snaps k b t kept.numbers within inside is o.at.is in
        let chunk_is : t.state.chunk ≡ b.state.chunk = same_at (λ (y : Kept B). y.state.chunk) v.snaps w.snaps k b t kept.chunks within inside is o.at.is in
        let size_is : size t.device ≡ size b.device =
        ap (λ (y : Kept B). size y.device) o.at.is ∙ sym (size_snap size w.origin w.snaps w.merge k t inside) ∙ ap (λ l. get_or l (suc k) 0) kept.sizes ∙ size_snap size v.origin v.snaps v.merge k t within in
        let lives : b.live ≡ true = sym (get_or-map (λ (y : Kept B). y.live) v.snaps k t false within) ∙ fewer k (get_or-map (λ (y : Kept B). y.live) w.snaps k t false inside ∙ ap (λ (y : Kept B). y.live) (sym o.at.is) ∙ o.live) in
        let left = stops.snaps k b t within is o.at.is o.shows.origin o.shows.store (within_new (holds v.origin) (holds w.origin) (size w.origin) (size v.origin) o.shows.origin event_sectors o.shows.origin_left)
        (within_new (holds b.device) (holds t.device) (size t.device) (size b.device) o.shows.store size_is o.shows.store_left) in
        let shown : x ≡ sector_at (picture b.state.chunk o.shows.origin o.shows.store) s = o.shows.is ∙ ap (λ (c : ℕ). sector_at (picture c o.shows.origin o.shows.store) s) chunk_is in
        let mine : b.number ≡ number = sym number_is ∙ o.mine in
        elim ((left.0 lives).1 s (omega (arith, lt, event_sectors))) [
          | inl may ↦ inl (record { place = k; snap = b; at = record { within = within; is = is }; mine = mine; live = lives; shows = subst (IsOpen b.state.chunk (holds v.origin) (holds b.device) (size v.origin) (size b.device) s) (sym shown) may })
          | inr gives ↦ inr (subst (λ (n : ℕ). Gives given (Some n) s x) mine (subst (Gives given (Some b.number) s) (sym shown) gives))
        ]

  -- of the origin's disk alone
  module _ (contents : B → List ℕ) (whole : (d : B) → length (contents d) ≡ 512 * size d) (here : (d : B) (s : ℕ) → s < size d → holds d s (sector_at (contents d) s)) where
    left_now : (d : B) → MayLeave (holds d) (size d) (contents d)
    left_now d = record { whole = whole d; each = here d }

    sector_long : (b : List ℕ) (n s : ℕ) → length b ≡ 512 * n → s < n → length (sector_at b s) ≡ 512
    sector_long b n s is lt = (let e : length (sector_at b s) ≡ min 512 (length b - 512 * s) = simp (length-take, length-drop) in omega (arith, e, is, lt))

    disk_event : (given : Option Given) (o o' : B) (s : ℕ) (x : List ℕ) → size o' ≡ size o → s < size o → StopsDisk holds size given o o' → IsLeftAt (holds o') (size o') s x → IsLeftAt (holds o) (size o) s x ⊎ Gives given None s x
    disk_event given o o' s x so lt stops at =
        let left = within_new (holds o) (holds o') (size o') (size o) at.bytes so at.left in
        let long = left.whole in
        elim (stops at.bytes left s lt) [
          | inl before ↦
              (let y : List ℕ = sector_at at.bytes s in
              let len : length y ≡ 512 = sector_long at.bytes (size o) s long lt in
              let now = whole o in
              inl (record {
                bytes = with_sectors (contents o) s y;
                left = left_with (holds o) (size o) s (contents o) y (left_now o) lt len before;
                is = at.is ∙ sym (sectors_at-with_same (contents o) s 1 y (omega (arith, now, len, lt)) (omega (arith, len)));
              }))
          | inr gives ↦ inr (subst (Gives given None s) (sym at.is) gives)
        ]

    merge_event : (given : Option Given) (o o' : B) (m m' : Merging B) (s : ℕ) (x : List ℕ) → size o' ≡ size o → size m'.device ≡ size m.device → m'.state.chunk ≡ m.state.chunk → s < size o → StopsMerge holds size given m.state.chunk o o' m.device m'.device
        → IsOpen m'.state.chunk (holds o') (holds m'.device) (size o') (size m'.device) s x → IsOpen m.state.chunk (holds o) (holds m.device) (size o) (size m.device) s x ⊎ Gives given None s x
    merge_event given o o' m m' s x so sm chunk lt stops may =
        let left = stops may.origin may.store (within_new (holds o) (holds o') (size o') (size o) may.origin so may.origin_left) (within_new (holds m.device) (holds m'.device) (size m'.device) (size m.device) may.store sm may.store_left) in
        let shown : x ≡ sector_at (picture m.state.chunk may.origin may.store) s = may.is ∙ ap (λ (c : ℕ). sector_at (picture c may.origin may.store) s) chunk in
        elim (left.1 s lt) [
          | inl before ↦ inl (subst (IsOpen m.state.chunk (holds o) (holds m.device) (size o) (size m.device) s) (sym shown) before)
          | inr gives ↦ inr (subst (Gives given None s) (sym shown) gives)
        ]

    origin_event : (given : Option Given) (o o' : B) (snaps snaps' : List (Kept B)) (m m' : Option (Merging B)) (s : ℕ) (x : List ℕ) → size o' ≡ size o → length snaps' ≡ length snaps → merged_of m' ≡ merged_of m
        → counts_with size m' (size o' ∷ map (λ y. size y.device) snaps') ≡ counts_with size m (size o ∷ map (λ y. size y.device) snaps) → s < size o → StopsOrigin holds size given o o' m m' → IsOpenOrigin holds size o' m' s x → IsOpenOrigin holds size o m s x ⊎ Gives given None s x
    origin_event given o o' snaps snaps' None None s x so count merged sizes lt stops may = disk_event given o o' s x so lt stops may
    origin_event given o o' snaps snaps' None (Some m') s x so count merged sizes lt stops may = absurd (some_none (m'.number, m'.state.chunk) merged)
    origin_event given o o' snaps snaps' (Some m) None s x so count merged sizes lt stops may = absurd stops
    origin_event given o o' snaps snaps' (Some m) (Some m') s x so count merged sizes lt stops may =
        let same : size m'.device ≡ size m.device = sym (size_merge size o' snaps' m') ∙ ap (λ l. get_or l (suc (length snaps')) 0) sizes ∙ ap (λ n. get_or (counts_with size (Some m) (size o ∷ map (λ y. size y.device) snaps)) (suc n) 0) count ∙ size_merge size o snaps m in
        merge_event given o o' m m' s x so same (ap chunk_in merged) lt stops.0 may

    pub event_origin : (given : Option Given) (v w : Volumed B) → KeepsAll size v w → StopsVolume holds size given v w → (s : ℕ) (x : List ℕ) → s < size w.origin → IsOpenOrigin holds size w.origin w.merge s x → IsOpenOrigin holds size v.origin v.merge s x ⊎ Gives given None s x
    event_origin given v w kept stops s x lt may =
        let so = event_sectors given v w kept stops in
        origin_event given v.origin w.origin v.snaps w.snaps v.merge w.merge s x so (many given v w kept stops) kept.merged kept.sizes (omega (arith, lt, so)) stops.origin may
