-- A write is issued, in a whole volume: Issue of an origin write without a merge, and of a snapshot write to its place.
use Rattle.std.proofs.Common.{Bool, ◌≡◌, ◌≢◌, inl, inr, ℕ, suc, ◌+◌, ◌*◌, ◌/◌, ◌%◌, ◌<◌, ◌≤◌, true, List, [], ◌∷◌, Some, None, length, get_or, set, map, refl, sym, ◌∙◌, ap, subst, arith}
use Rattle.std.specs.List.{All, remove}
use Rattle.std.specs.Prelude.{AllPairs}
use Rattle.std.proofs.lemmas.Bool.{cases_Bool, false≢true}
use Rattle.std.proofs.lemmas.List.{map-set}
use Rattle.std.proofs.lemmas.List.Elements.{All-set}
use Rattle.std.proofs.lemmas.Nat.{div-add-mod'}
use Rattle.sector.specs.Bytes.{with_sectors}
use Rattle.cow_format.specs.Picture.{picture}
use Rattle.plain_machine.specs.declared.request.Dev.TheVariants.{Origin as AtOrigin, Snap}
use Rattle.plain_machine.specs.declared.request.Op.TheVariants.{Write}
use Rattle.plain_machine.specs.declared.request.Reply.TheVariants.{Written as IsWritten}
use Rattle.plain_machine.specs.Plain.{Entry, Live}
use Rattle.in_flight.specs.Kinds.{kind_of}
use Rattle.in_flight.specs.declared.flights.Flight.{Flight}
use Rattle.in_flight.specs.declared.flights.Kind.TheVariants.{OriginWrite, SnapWrite}
use Rattle.in_flight.specs.declared.flights.Route.TheVariants.{Origin, Store, Refused}
use Rattle.volume_laws.specs.Books.{SnapBooks, Books}
use Rattle.volume_laws.specs.Published.{IsPublished, IsSaved, IsSavedOver}
use Rattle.volume_laws.specs.Held.{SnapHolds, RouteHolds, RefusedHolds, RequestHolds}
use Rattle.volume_laws.specs.Whole.{Holds, IsLoud, plain_of, entry_of, origin_of, begun_of, UnmergedHolds, OriginHolds}
use Rattle.volume_laws.specs.Steps.{WritesOut, WritesSnapOut, WritesDisk}
use Rattle.volume_laws.specs.Outcomes.{IsReply}
use Rattle.volume_laws.proofs.Lists.{All-remove}
use Rattle.volume_laws.proofs.Same.{same_volume}
use Rattle.volume_laws.proofs.Requests.{asked, gone, found_holds, origin_out, snap_out, live_out}
use Rattle.volume_laws.proofs.Entries.{saved_at, with_saved_at, as_entry, origin_write_is, snap_write_is, serves_as}
use Rattle.volume_laws.proofs.SnapRequests.{place_write, place_write_picture}
use Rattle.volume_laws.proofs.DiskWrites.{disk_write, disk_write_picture}
use Rattle.volume_laws.proofs.Bytes.{sector_in}
use Rattle.volume_laws.proofs.WholeOne.{snap_holds, snap_loud, same_entry, same_numbers, shown}

pub same_map : (f g : SnapBooks → Entry) (vs : List SnapBooks) → All (λ v. f v ≡ g v) vs → map f vs ≡ map g vs
same_map f g [] all = refl
same_map f g (v ∷ vs) all = ap (λ x. x ∷ map f vs) (all 0 v (omega arith)) ∙ ap (λ x. g v ∷ x) (same_map f g vs (λ k d lt. all (suc k) d (omega arith)))

-- where a piece lies inside one chunk, that alone is touched
pub saved_over : (s : SnapBooks) (first count : ℕ) → (s.live ≡ true → 0 < s.chunk) → (s.live ≡ true → first + count ≤ s.chunk * (first / s.chunk) + s.chunk) → IsSaved first s → IsSavedOver first count s
saved_over s first count some piece published i lt live =
    subst (IsPublished s.pairs s.marks) (sym (sector_in s.chunk first i (some live) (omega (arith, piece live, lt)))) (published live)

-- what a write to the origin disk leaves of a snapshot
pub disk_write_over : {l : Bool} (o o' : List ℕ) (rs : List Flight) (s : SnapBooks) (first count : ℕ) → SnapHolds l o rs s → WritesDisk first count o o' → IsSavedOver first count s → SnapHolds l o' rs s
disk_write_over o o' rs s first count h e published = record {
  alive = λ live. disk_write o o' rs s (h.alive live) first count e (λ j lt. published j lt live);
  spoilt = h.spoilt;
}

pub disk_write_shown : {l : Bool} (o o' : List ℕ) (rs : List Flight) (s : SnapBooks) (first count : ℕ) → SnapHolds l o rs s → s.loud ≡ true → WritesDisk first count o o' → IsSavedOver first count s → entry_of o' s ≡ entry_of o s
disk_write_shown o o' rs s first count h loud e published = same_entry o o' s s refl refl refl (λ live. disk_write_picture o o' rs s (h.alive live) first count e (λ j lt. published j lt live) loud)

-- and one that lies inside one chunk of it
pub disk_write_snap : {l : Bool} (o o' : List ℕ) (rs : List Flight) (s : SnapBooks) (first count : ℕ) → SnapHolds l o rs s → WritesDisk first count o o' → (s.live ≡ true → first + count ≤ s.chunk * (first / s.chunk) + s.chunk) → IsSaved first s → SnapHolds l o' rs s
disk_write_snap o o' rs s first count h e piece published = disk_write_over o o' rs s first count h e (saved_over s first count (λ live. (h.alive live).text.some) piece published)

pub disk_write_entry : {l : Bool} (o o' : List ℕ) (rs : List Flight) (s : SnapBooks) (first count : ℕ) → SnapHolds l o rs s → s.loud ≡ true → WritesDisk first count o o' → (s.live ≡ true → first + count ≤ s.chunk * (first / s.chunk) + s.chunk) → IsSaved first s → entry_of o' s ≡ entry_of o s
disk_write_entry o o' rs s first count h loud e piece published = disk_write_shown o o' rs s first count h loud e (saved_over s first count (λ live. (h.alive live).text.some) piece published)

-- an origin write that is routed to the origin disk, without a merge
module _ (number k : ℕ) (r : Flight) (bytes : List ℕ) (v w : Books) (h : Holds v) (e : WritesOut number k r bytes v w) (none : v.merge ≡ None)
    (kind : kind_of r.request ≡ OriginWrite) (route : r.route ≡ Origin) where
  abbrev first : ℕ
  first = r.request.range.first

  abbrev rest : List Flight
  rest = remove v.requests k

  abbrev after : Books
  after = record v { origin = w.origin; requests = rest }

  after_is : w ≡ after
  after_is = (let t = e.out in same_volume w after refl t.sectors t.loud e.snaps t.merge t.requests)

  route_in : (j : ℕ) (d : SnapBooks) → j < length v.snaps → (get_or v.snaps j d).live ≡ true → RouteHolds (get_or v.snaps j d).number (get_or v.snaps j d).chunk (get_or v.snaps j d).pairs (get_or v.snaps j d).marks r
  route_in j d lt live = (let s = get_or v.snaps j d in found_holds (RouteHolds s.number s.chunk s.pairs s.marks) number k r v w e.out ((h.snaps j d lt).alive live).routes)

  snaps_now : All (SnapHolds v.loud w.origin rest) v.snaps
  snaps_now j d lt =
      let s = get_or v.snaps j d in
      disk_write_snap v.origin w.origin rest s first r.request.range.count (snap_out v.origin v.requests s k (h.snaps j d lt)) e.disk
      (λ live. (route_in j d lt live).piece.within) (λ live. (route_in j d lt live).origin_write kind route)

  entries_now : IsLoud v → map (entry_of w.origin) v.snaps ≡ map (entry_of v.origin) v.snaps
  entries_now loud = same_map (entry_of w.origin) (entry_of v.origin) v.snaps (λ j d lt.
      (let s = get_or v.snaps j d in
      disk_write_entry v.origin w.origin v.requests s first r.request.range.count (h.snaps j d lt) (loud.snaps j d lt) e.disk
      (λ live. (route_in j d lt live).piece.within) (λ live. (route_in j d lt live).origin_write kind route)))

  unmerged : All UnmergedHolds rest
  unmerged = All-remove UnmergedHolds v.requests k (subst (OriginHolds v.origin v.requests) none h.merge)

  after_holds : Holds after
  after_holds = record {
    whole = e.disk.len ∙ h.whole;
    merge = subst (OriginHolds w.origin rest) (sym none) unmerged;
    snaps = snaps_now;
    requests = All-remove (RequestHolds v.sectors) v.requests k h.requests;
    numbers = h.numbers;
  }

  pub write_disk_event : IsReply number IsWritten v w
  write_disk_event = record {
    holds = subst Holds (sym after_is) after_holds;
    step = λ loud. record {
      request = r.request;
      asked = asked number k r v w e.out;
      gone = gone number k r v w e.out;
      served = serves_as (plain_of v) (plain_of w) IsWritten r.request AtOrigin (Write bytes) (origin_write_is r.request.dev r.request.op kind) e.op (
        v.origin,
        sym (ap (origin_of v.origin) none),
        record {
          origin = ap (origin_of w.origin) (e.out.merge ∙ none) ∙ e.written loud.origin;
          begun = ap begun_of e.out.merge;
          saved = ap (map (entry_of w.origin)) e.snaps ∙ entries_now loud;
        },
      );
    };
  }

-- a snapshot write that is routed to the chunk's place
module _ (number k : ℕ) (r : Flight) (bytes : List ℕ) (j place : ℕ) (s s' : SnapBooks) (v w : Books) (h : Holds v) (e : WritesSnapOut number k r bytes j place s s' v w)
    (kind : kind_of r.request ≡ SnapWrite s.number) (route : r.route ≡ Store place) where
  abbrev left : List Flight
  left = remove v.requests k

  store_ne_refused : Store place ≢ Refused
  store_ne_refused c = cc

  this : SnapHolds v.loud v.origin v.requests s
  this = snap_holds v j s h e.within e.was

  live : s.live ≡ true
  live = elim (cases_Bool s.live) [
    | inl is ↦ is
    | inr dead ↦ absurd (store_ne_refused (sym route ∙ (found_holds (RefusedHolds s.number) number k r v w e.out (this.spoilt dead).routes).write kind))
  ]

  at : RouteHolds s.number s.chunk s.pairs s.marks r
  at = found_holds (RouteHolds s.number s.chunk s.pairs s.marks) number k r v w e.out (this.alive live).routes

  request_is : RequestHolds v.sectors r
  request_is = found_holds (RequestHolds v.sectors) number k r v w e.out h.requests

  whole : length bytes ≡ 512 * r.request.range.count
  whole = request_is.bytes bytes e.op

  begins : s.chunk * (r.request.range.first / s.chunk) + r.request.range.first % s.chunk ≡ r.request.range.first
  begins = grind (arith, div-add-mod' r.request.range.first s.chunk)

  fits : r.request.range.first % s.chunk + r.request.range.count ≤ s.chunk
  fits = (let p = at.piece.within in let b = begins in omega (arith, p, b))

  one_now : SnapHolds v.loud v.origin left s'
  one_now = record {
    alive = λ _. place_write v.origin left s s' (live_out v.origin v.requests s k (this.alive live)) (r.request.range.first / s.chunk) place (r.request.range.first % s.chunk) bytes e.store
        (at.write_stored place kind route).0 (at.write_stored place kind route).1 r.request.range.count whole fits;
    spoilt = λ dead. absurd (false≢true (sym dead ∙ e.store.same.live ∙ live));
  }

  abbrev now : Books
  now = record v { snaps = set v.snaps j s'; requests = left }

  now_is : w ≡ now
  now_is = (let t = e.out in same_volume w now e.origin t.sectors t.loud e.snaps t.merge t.requests)

  now_holds : Holds now
  now_holds = record {
    whole = h.whole;
    merge = origin_out v.origin v.requests k v.merge h.merge;
    snaps = All-set (SnapHolds v.loud v.origin left) v.snaps j s' one_now (λ i d lt. snap_out v.origin v.requests (get_or v.snaps i d) k (h.snaps i d lt));
    requests = All-remove (RequestHolds v.sectors) v.requests k h.requests;
    numbers = subst (AllPairs (λ m n. m ≢ n)) (sym (same_numbers v.snaps j s s' e.was e.store.same.number)) h.numbers;
  }

  array_now : IsLoud v → picture s'.chunk v.origin s'.store ≡ with_sectors (picture s.chunk v.origin s.store) r.request.range.first bytes
  array_now loud =
      place_write_picture v.origin v.requests s s' (this.alive live) (r.request.range.first / s.chunk) place (r.request.range.first % s.chunk) bytes e.store
      (at.write_stored place kind route).0 (at.write_stored place kind route).1 (snap_loud v j s loud e.within e.was) r.request.range.count whole fits
      (let i = request_is.inside in let f = h.whole in let b = begins in omega (arith, i, f, b))
      ∙ ap (λ x. with_sectors (picture s.chunk v.origin s.store) x bytes) begins

  entry_now : IsLoud v → entry_of v.origin s' ≡ as_entry s.number s.overflow (Live (with_sectors (picture s.chunk v.origin s.store) r.request.range.first bytes))
  entry_now loud = ap (λ n. shown n s'.overflow s'.live (picture s'.chunk v.origin s'.store)) e.store.same.number
      ∙ ap (λ b. shown s.number s'.overflow b (picture s'.chunk v.origin s'.store)) (e.store.same.live ∙ live)
      ∙ ap (λ x. shown s.number x true (picture s'.chunk v.origin s'.store)) e.store.same.overflow
      ∙ ap (shown s.number s.overflow true) (array_now loud)

  pub snap_write_event : IsReply number IsWritten v w
  snap_write_event = record {
    holds = subst Holds (sym now_is) now_holds;
    step = λ loud. record {
      request = r.request;
      asked = asked number k r v w e.out;
      gone = gone number k r v w e.out;
      served = serves_as (plain_of v) (plain_of w) IsWritten r.request (Snap s.number) (Write bytes) (snap_write_is r.request.dev r.request.op s.number kind) e.op (
        picture s.chunk v.origin s.store,
        saved_at v.origin v.snaps j s h.numbers e.within e.was ∙ ap (λ b. Some (shown s.number s.overflow b (picture s.chunk v.origin s.store)).saved) live,
        record {
          origin = ap (λ (x : Books). origin_of x.origin x.merge) now_is;
          begun = ap (λ (x : Books). begun_of x.merge) now_is;
          saved = ap (λ (x : Books). map (entry_of x.origin) x.snaps) now_is ∙ map-set (entry_of v.origin) v.snaps j s' ∙ ap (set (map (entry_of v.origin) v.snaps) j) (entry_now loud)
              ∙ sym (with_saved_at v.origin v.snaps j s (Live (with_sectors (picture s.chunk v.origin s.store) r.request.range.first bytes)) h.numbers e.within e.was);
        },
      );
    };
  }
