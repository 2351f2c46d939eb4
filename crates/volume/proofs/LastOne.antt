-- What a call does to one snapshot: what lasts of it afterwards, and what a stop before, within or after it leaves of its store.
use Rattle.std.proofs.Common.{◌≡◌, ◌≢◌, ◌⊎◌, inl, inr, ℕ, ◌+◌, ◌*◌, ◌/◌, ◌<◌, Bool, true, false, List, [], ◌++◌, Option, None, Some, length, get_or, refl, sym, ◌∙◌, ap, subst, arith}
use Rattle.std.proofs.lemmas.Bool.{cases_Bool, cases_lt, false≢true}
use Rattle.std.proofs.lemmas.List.{length-map, length-append, get_or-map, get_or-append-add}
use Rattle.std.proofs.Math.ListN.{get_or-append}
use Rattle.sector.specs.Bytes.{sector_at}
use Rattle.sector.specs.declared.pair.Pair.{Pair}
use Rattle.device.specs.Layers.{Layer, is_loud}
use Rattle.cow_format.specs.Pairs.{pairs_of, AreWellFormed, IsApart, IsInside}
use Rattle.cow_format.specs.Picture.{place_of}
use Rattle.cow_format.specs.Places.{area_place}
use Rattle.cow_format.proofs.Views.{place_none}
use Rattle.in_flight.specs.Copies.{pair_of}
use Rattle.in_flight.specs.declared.copies.ChunkCopy.{ChunkCopy}
use Rattle.in_flight.specs.declared.flights.Flight.{Flight}
use Rattle.crash_laws.specs.Stop.{MayLeave}
use Rattle.crash_laws.specs.Firm.{AddsNow}
use Rattle.crash_laws.specs.Clauses.{Given, Gives, StopsSnap}
use Rattle.cache_loss_laws.specs.Kept.{Kept as Lost, SnapLasts, SnapRefused}
use Rattle.cache_loss_laws.specs.Calm.{IsCalmSnap, StopsSnapLost}
use Rattle.cache_loss_laws.proofs.Kept.{calm_stops, calm_lasts, refused_lasts}
use Rattle.cache_loss_laws.proofs.CalmCalls.{calm_same}
use Rattle.cache_loss_laws.proofs.Clauses.{snap_clause}
use Rattle.cache_loss_laws.proofs.Places.{place_all}
use Rattle.volume_laws.specs.Held.{SnapHolds, LiveHolds}
use Rattle.snapshot.specs.Kept.{Kept, books_of as snap_books}
use Rattle.volume.specs.SnapLasting.{IsReady, lost_of, IsThereOn, SnapLastsOn, SnapLasting}
use Rattle.volume.specs.Stopping.{stopping_of}

-- what a volume keeps of one snapshot
pub record IsKeptSnap {B : Type 0} (contents : B → List ℕ) (layers : B → List Layer) (size : B → ℕ) (o : B) (rs : List Flight) (s : Kept B) : Type 0 where
  pub some : 0 < s.state.chunk
  pub fits : s.state.origin ≡ size o
  pub holds : SnapHolds (is_loud (layers o)) (contents o) rs (snap_books contents layers s)

-- A device after a call that changes no byte of it.
pub record IsSameDevice {B : Type 0} (holds : B → ℕ → List ℕ → Type 0) (contents : B → List ℕ) (layers : B → List Layer) (size : B → ℕ) (d d' : B) : Type 0 where
  pub adds : is_loud (layers d) ≡ true → AddsNow (holds d) (holds d') (contents d')
  pub bytes : contents d' ≡ contents d
  pub sectors : size d' ≡ size d
  pub loud : is_loud (layers d') ≡ is_loud (layers d)

-- and after one that maybe writes to it
pub record IsCalled {B : Type 0} (holds : B → ℕ → List ℕ → Type 0) (contents : B → List ℕ) (layers : B → List Layer) (size : B → ℕ) (d d' : B) : Type 0 where
  pub adds : is_loud (layers d) ≡ true → AddsNow (holds d) (holds d') (contents d')
  pub sectors : size d' ≡ size d
  pub loud : is_loud (layers d') ≡ is_loud (layers d)

-- What a call leaves of a snapshot that it does not write: all that losses speak of, but that it may be spoiled or lose copies.
pub record IsLeft {B : Type 0} (s t : Kept B) : Type 0 where
  pub chunk : t.state.chunk ≡ s.state.chunk
  pub current : t.state.current ≡ s.state.current
  pub zeroed : t.state.zeroed ≡ s.state.zeroed
  pub firm : t.state.firm ≡ s.state.firm
  pub sure : t.state.sure ≡ s.state.sure
  pub marked : t.marked ≡ s.marked
  pub pairs : t.pairs ≡ s.pairs

abbrev pub Stays : {B : Type 0} → Kept B → Kept B → Type 0
Stays s t = (t.live ≡ s.live) × (t.untried ≡ s.untried) × (t.stale ≡ s.stale) × ((q : Pair) → IsReady t.copies q → IsReady s.copies q)

abbrev pub Spoils : {B : Type 0} → Kept B → Kept B → Type 0
Spoils s t = (s.live ≡ true) × (t.live ≡ false) × (t.untried ≡ true) × ((q : Pair) → IsReady t.copies q → ⊥)

pub none_ready : (copies : List ChunkCopy) (q : Pair) → copies ≡ [] → IsReady copies q → ⊥
none_ready copies q none r = (let within = r.within in omega (arith, within, ap length none))

module _ {B : Type 0} (holds : B → ℕ → List ℕ → Type 0) (contents : B → List ℕ) (layers : B → List Layer) (size : B → ℕ) (whole : (d : B) → length (contents d) ≡ 512 * size d) (here : (d : B) (s : ℕ) → s < size d → holds d s (sector_at (contents d) s)) where
  -- what is there may be left
  pub leaves : (d : B) → MayLeave (holds d) (size d) (contents d)
  leaves d = record { whole = whole d; each = here d }

  pub same_device : (d : B) → IsSameDevice holds contents layers size d d
  same_device d = record { adds = λ loud s v there. inl there; bytes = refl; sectors = refl; loud = refl }

  pub called : (d d' : B) → IsSameDevice holds contents layers size d d' → IsCalled holds contents layers size d d'
  called d d' same = record { adds = same.adds; sectors = same.sectors; loud = same.loud }

  -- What lasts of it, and what a stop leaves of it, after a call.
  pub record Goes (given : Option Given) (o o' : B) (s t : Kept B) : Type 0 where
    pub stops : is_loud (layers o) ≡ true → is_loud (layers s.device) ≡ true → StopsSnap holds size given o o' (stopping_of s) (stopping_of t)
    pub lasts : SnapLasting holds contents layers size o' t

  module _ (o : B) (rs : List Flight) (s : Kept B) (k : IsKeptSnap contents layers size o rs s) (l : SnapLasting holds contents layers size o s) where
    -- a copy of a live one, whose pair stands behind the committed ones
    module _ (live : s.live ≡ true) where
      pub alive : LiveHolds (is_loud (layers o)) (contents o) rs (snap_books contents layers s)
      alive = k.holds.alive live

      pub sized : s.state.size ≡ size s.device
      sized = (let w = alive.text.whole in omega (arith, w, whole s.device))

      begun_long : length s.begun ≡ length s.copies
      begun_long = ap length alive.agree ∙ length-map s.copies pair_of

      module _ (i : ℕ) (p : ChunkCopy) (within : i < length s.copies) (is : p ≡ get_or s.copies i p) where
        pub begun_is : (d : Pair) → get_or s.begun i d ≡ p.pair
        begun_is d = ap (λ z. get_or z i d) alive.agree ∙ get_or-map pair_of s.copies i p d within ∙ ap pair_of (sym is)

        in_given : (d : Pair) → get_or (s.pairs ++ s.begun) (length s.pairs + i) d ≡ p.pair
        in_given d = get_or-append-add s.pairs s.begun i d ∙ begun_is d

        given_below : length s.pairs + i < length (s.pairs ++ s.begun)
        given_below = omega (arith, within, begun_long, length-append s.pairs s.begun)

        apart_at : (a : ℕ) (d : Pair) → a < length s.pairs → IsApart (get_or s.pairs a d) p.pair
        apart_at a d lt = subst (λ z. IsApart z p.pair) (get_or-append s.pairs s.begun d a lt) (subst (IsApart (get_or (s.pairs ++ s.begun) a d)) (in_given d) (alive.text.apart a (length s.pairs + i) d (omega (arith, lt)) given_below))

        pub copy_unlisted : place_of s.pairs p.pair.old ≡ None
        copy_unlisted = place_none s.pairs p.pair.old (λ a d lt. (apart_at a d lt).old)

        pub copy_inside : IsInside s.state.chunk (size o) (size s.device) p.pair
        copy_inside = subst (IsInside s.state.chunk (size o) (size s.device)) (in_given p.pair)
            (subst (λ n. IsInside s.state.chunk n (size s.device) (get_or (s.pairs ++ s.begun) (length s.pairs + i) p.pair)) k.fits
            (subst (λ n. IsInside s.state.chunk s.state.origin n (get_or (s.pairs ++ s.begun) (length s.pairs + i) p.pair)) sized (alive.text.inside (length s.pairs + i) p.pair given_below)))

        -- no pair has its place
        pub copy_place : (x m : ℕ) → place_of s.pairs x ≡ Some m → m ≢ p.pair.new
        copy_place x m at e =
            let (q, ne, old, new) = place_all (λ (z : Pair). z.new ≢ p.pair.new) s.pairs x m (λ a d lt. (apart_at a d lt).new) at in
            ne (new ∙ e)

        -- and no other copy
        pub copy_apart : (j : ℕ) (c : ChunkCopy) → j < length s.copies → c ≡ get_or s.copies j c → j ≢ i → c.pair.new ≢ p.pair.new
        copy_apart j c lt at ne e =
            let theirs : get_or (s.pairs ++ s.begun) (length s.pairs + j) p.pair ≡ c.pair = get_or-append-add s.pairs s.begun j p.pair ∙ ap (λ z. get_or z j p.pair) alive.agree ∙ get_or-map pair_of s.copies j c p.pair lt ∙ ap pair_of (sym at) in
            let low : length s.pairs + j < length (s.pairs ++ s.begun) = omega (arith, lt, begun_long, length-append s.pairs s.begun) in
            elim (cases_lt j i) [
              | inl below ↦ (alive.text.apart (length s.pairs + j) (length s.pairs + i) p.pair (omega (arith, below)) given_below).new (ap (λ (z : Pair). z.new) theirs ∙ e ∙ ap (λ (z : Pair). z.new) (sym (in_given p.pair)))
              | inr from ↦ (alive.text.apart (length s.pairs + i) (length s.pairs + j) p.pair (omega (arith, from, ne)) low).new (ap (λ (z : Pair). z.new) (in_given p.pair) ∙ sym e ∙ ap (λ (z : Pair). z.new) (sym theirs))
            ]

    dead_ready : s.live ≡ false → (q : Pair) → IsReady s.copies q → ⊥
    dead_ready dead q r = none_ready s.copies q (k.holds.spoilt dead).copies r

    -- what the volume's facts say of it
    pub there_of : is_loud (layers s.device) ≡ true → IsThereOn holds contents size o s
    there_of loud = record {
      some = k.some;
      disk_now = leaves o;
      store_now = leaves s.device;
      listed = l.listed loud;
      formed = l.formed;
      unlisted = λ q r. elim (cases_Bool s.live) [ inl live ↦ subst (λ (z : Pair). place_of s.pairs z.old ≡ None) r.pair (copy_unlisted live r.index r.copy r.within r.is) | inr dead ↦ absurd (dead_ready dead q r) ];
      lies = λ q r. elim (cases_Bool s.live) [ inl live ↦ subst (IsInside s.state.chunk (size o) (size s.device)) r.pair (copy_inside live r.index r.copy r.within r.is) | inr dead ↦ absurd (dead_ready dead q r) ];
    }

    -- its store has sectors
    pub some_sectors : 0 < size s.device
    some_sectors =
        let n : ℕ = length s.pairs / (32 * s.state.chunk) in
        let up : s.state.chunk * (area_place s.state.chunk n + 1) ≡ s.state.chunk * area_place s.state.chunk n + s.state.chunk = grind arith in
        let room = l.formed.room in
        let pos = k.some in
        omega (arith, up, room, pos)

    -- what lasts of one that is live, or spoiled with its mark untried
    pub was : is_loud (layers o) ≡ true → is_loud (layers s.device) ≡ true → (s.live ≡ true) ⊎ (s.untried ≡ true) → SnapLastsOn holds contents size o s
    was lo ls side = elim (cases_Bool s.live) [
      | inl live ↦ l.live lo ls live
      | inr dead ↦ l.untried lo ls dead (elim side [ inl live ↦ absurd (false≢true (sym dead ∙ live)) | inr untried ↦ untried ])
    ]

    -- what a law says of the call
    module _ (given : Option Given) (o' : B) (t : Kept B) (disk : IsCalled holds contents layers size o o') (store : IsCalled holds contents layers size s.device t.device) (marked : Bool)
        (stopping : is_loud (layers o) ≡ true → is_loud (layers s.device) ≡ true → (s.live ≡ true) ⊎ (s.untried ≡ true) → IsThereOn holds contents size o s → SnapLastsOn holds contents size o s → StopsSnapLost (holds o) (holds s.device) (holds o') (holds t.device) marked (Gives given (Some s.number)) (lost_of size o s))
        (lasting : is_loud (layers o) ≡ true → is_loud (layers s.device) ≡ true → (s.live ≡ true) ⊎ (s.untried ≡ true) → IsThereOn holds contents size o s → SnapLastsOn holds contents size o s → (t.live ≡ true) ⊎ (t.untried ≡ true) → SnapLastsOn holds contents size o' t)
        (unmarked : s.live ≡ true → marked ≡ false) (unmarked' : t.live ≡ true → t.marked ≡ false)
        (formed : AreWellFormed t.state.chunk (size o') (size t.device) t.pairs) (listed : is_loud (layers s.device) ≡ true → pairs_of t.state.chunk (contents t.device) ≡ t.pairs)
        (on : (t.live ≡ true) ⊎ (t.untried ≡ true) → (s.live ≡ true) ⊎ (s.untried ≡ true))
        (refused : is_loud (layers o) ≡ true → is_loud (layers s.device) ≡ true → s.live ≡ false → s.untried ≡ false → s.stale ≡ false → SnapRefused (holds t.device))
        (refuses : is_loud (layers o) ≡ true → is_loud (layers s.device) ≡ true → t.live ≡ false → t.untried ≡ false → t.stale ≡ false → SnapRefused (holds t.device)) where
      pub law_goes : Goes given o o' s t
      law_goes = record {
        stops = λ lo ls. snap_clause holds size given o o' (stopping_of s) (stopping_of t) s.state.current s.state.sure s.state.zeroed s.state.firm s.marked marked some_sectors unmarked
            (λ side. stopping lo ls side (there_of ls) (was lo ls side)) (λ dead tried fresh. (l.tried lo ls dead tried fresh, refused lo ls dead tried fresh));
        lasts = record {
          unmarked = unmarked';
          formed = formed;
          listed = λ ls. listed (sym store.loud ∙ ls);
          live = λ lo ls lives. lasting (sym disk.loud ∙ lo) (sym store.loud ∙ ls) (on (inl lives)) (there_of (sym store.loud ∙ ls)) (was (sym disk.loud ∙ lo) (sym store.loud ∙ ls) (on (inl lives))) (inl lives);
          untried = λ lo ls dead waits. lasting (sym disk.loud ∙ lo) (sym store.loud ∙ ls) (on (inr waits)) (there_of (sym store.loud ∙ ls)) (was (sym disk.loud ∙ lo) (sym store.loud ∙ ls) (on (inr waits))) (inr waits);
          tried = λ lo ls dead tried fresh. refuses (sym disk.loud ∙ lo) (sym store.loud ∙ ls) dead tried fresh;
        };
      }

    -- a call that leaves its list and its copies
    module _ (given : Option Given) (o' : B) (t : Kept B) (disk : IsCalled holds contents layers size o o') (store : IsCalled holds contents layers size s.device t.device) (zeroed marked : Bool) (lost : lost_of size o' t ≡ record (lost_of size o s) { zeroed = zeroed; marked = marked })
        (calm : is_loud (layers o) ≡ true → is_loud (layers s.device) ≡ true → (s.live ≡ true) ⊎ (s.untried ≡ true) → IsThereOn holds contents size o s → SnapLastsOn holds contents size o s → IsCalmSnap (contents o) (contents o') (contents s.device) (contents t.device) (IsReady s.copies) (IsReady t.copies) zeroed marked (Gives given (Some s.number)) (lost_of size o s))
        (unmarked : s.live ≡ true → marked ≡ false) (unmarked' : t.live ≡ true → marked ≡ false) (listed : is_loud (layers s.device) ≡ true → pairs_of s.state.chunk (contents t.device) ≡ s.pairs)
        (on : (t.live ≡ true) ⊎ (t.untried ≡ true) → (s.live ≡ true) ⊎ (s.untried ≡ true))
        (refused : is_loud (layers o) ≡ true → is_loud (layers s.device) ≡ true → s.live ≡ false → s.untried ≡ false → s.stale ≡ false → SnapRefused (holds t.device))
        (refuses : is_loud (layers o) ≡ true → is_loud (layers s.device) ≡ true → t.live ≡ false → t.untried ≡ false → t.stale ≡ false → SnapRefused (holds t.device)) where
      pub calm_goes : Goes given o o' s t
      calm_goes = law_goes given o' t disk store marked
          (λ lo ls side there lasts. calm_stops (holds o) (holds s.device) (holds o') (holds t.device) (contents o) (contents o') (contents s.device) (contents t.device) (IsReady s.copies) (IsReady t.copies) zeroed marked (Gives given (Some s.number)) (lost_of size o s) there lasts (calm lo ls side there lasts) (disk.adds lo) (store.adds ls))
          (λ lo ls side there lasts lives. subst (SnapLasts (holds o') (holds t.device) (contents o') (contents t.device) (IsReady t.copies)) (sym lost)
          (calm_lasts (holds o) (holds s.device) (holds o') (holds t.device) (contents o) (contents o') (contents s.device) (contents t.device) (IsReady s.copies) (IsReady t.copies) zeroed marked (Gives given (Some s.number)) (lost_of size o s) there lasts (calm lo ls side there lasts) (disk.adds lo) (store.adds ls)
          (subst (λ n. MayLeave (holds o') n (contents o')) disk.sectors (leaves o'))))
          unmarked (λ lives. ap (λ (v : Lost). v.marked) lost ∙ unmarked' lives) (subst (λ (v : Lost). AreWellFormed v.chunk v.sectors v.size v.pairs) (sym lost) l.formed)
          (λ ls. subst (λ (v : Lost). pairs_of v.chunk (contents t.device) ≡ v.pairs) (sym lost) (listed ls)) on refused refuses

    -- what losses speak of, where the call leaves it
    pub left_lost : (o' : B) (t : Kept B) → IsLeft s t → size o' ≡ size o → size t.device ≡ size s.device → lost_of size o' t ≡ record (lost_of size o s) { zeroed = s.state.zeroed; marked = s.marked }
    left_lost o' t i disk store = cc (i.chunk, i.current, i.zeroed, i.firm, i.sure, i.marked, i.pairs, disk, store)

    -- one that is refused, and is not written
    pub refused_store : (t : Kept B) → IsSameDevice holds contents layers size s.device t.device → is_loud (layers o) ≡ true → is_loud (layers s.device) ≡ true → s.live ≡ false → s.untried ≡ false → s.stale ≡ false → SnapRefused (holds t.device)
    refused_store t store lo ls dead tried fresh = refused_lasts (holds s.device) (holds t.device) (contents s.device) (contents t.device) (l.tried lo ls dead tried fresh) (here s.device 0 some_sectors) (store.adds ls) (ap (λ z. sector_at z 0) store.bytes)

    -- It is not written, and neither is the origin disk.
    module _ (given : Option Given) (o' : B) (t : Kept B) (disk : IsSameDevice holds contents layers size o o') (store : IsSameDevice holds contents layers size s.device t.device) (i : IsLeft s t) where
      same_calm : ((q : Pair) → IsReady t.copies q → IsReady s.copies q) → IsThereOn holds contents size o s → SnapLastsOn holds contents size o s
          → IsCalmSnap (contents o) (contents o') (contents s.device) (contents t.device) (IsReady s.copies) (IsReady t.copies) s.state.zeroed s.marked (Gives given (Some s.number)) (lost_of size o s)
      same_calm fewer there lasts =
          subst (λ z. IsCalmSnap (contents o) z (contents s.device) (contents t.device) (IsReady s.copies) (IsReady t.copies) s.state.zeroed s.marked (Gives given (Some s.number)) (lost_of size o s)) (sym disk.bytes)
          (subst (λ z. IsCalmSnap (contents o) (contents o) (contents s.device) z (IsReady s.copies) (IsReady t.copies) s.state.zeroed s.marked (Gives given (Some s.number)) (lost_of size o s)) (sym store.bytes)
          (calm_same (holds o) (holds s.device) (contents o) (contents s.device) (IsReady s.copies) (lost_of size o s) there lasts (IsReady t.copies) (Gives given (Some s.number)) fewer))

      same_listed : is_loud (layers s.device) ≡ true → pairs_of s.state.chunk (contents t.device) ≡ s.pairs
      same_listed ls = ap (pairs_of s.state.chunk) store.bytes ∙ l.listed ls

      pub stays_goes : Stays s t → Goes given o o' s t
      stays_goes st = calm_goes given o' t (called o o' disk) (called s.device t.device store) s.state.zeroed s.marked (left_lost o' t i disk.sectors store.sectors) (λ lo ls side there lasts. same_calm st.3 there lasts)
          l.unmarked (λ lives. l.unmarked (sym st.0 ∙ lives)) same_listed (λ side. elim side [ inl lives ↦ inl (sym st.0 ∙ lives) | inr waits ↦ inr (sym st.1 ∙ waits) ])
          (refused_store t store) (λ lo ls dead tried fresh. refused_store t store lo ls (sym st.0 ∙ dead) (sym st.1 ∙ tried) (sym st.2 ∙ fresh))

      pub spoils_goes : Spoils s t → Goes given o o' s t
      spoils_goes sp = calm_goes given o' t (called o o' disk) (called s.device t.device store) s.state.zeroed s.marked (left_lost o' t i disk.sectors store.sectors) (λ lo ls side there lasts. same_calm (λ q r. absurd (sp.3 q r)) there lasts)
          l.unmarked (λ lives. absurd (false≢true (sym sp.1 ∙ lives))) same_listed (λ side. inl sp.0)
          (refused_store t store) (λ lo ls dead tried fresh. absurd (false≢true (sym tried ∙ sp.2)))

      pub left_goes : Stays s t ⊎ Spoils s t → Goes given o o' s t
      left_goes side = elim side [ inl st ↦ stays_goes st | inr sp ↦ spoils_goes sp ]
