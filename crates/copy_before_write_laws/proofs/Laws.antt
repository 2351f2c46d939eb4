-- An event saves first: of one snapshot among the others, in the event machine's words.
use Rattle.std.proofs.Common.{◌≡◌, ◌≢◌, ◌⊎◌, inl, inr, ℕ, zero, suc, ◌+◌, ◌*◌, ◌/◌, ◌<◌, ◌≤◌, Bool, true, false, List, [], ◌∷◌, ◌++◌, length, map, take, get_or, Option, None, Some, Ok, refl, arith, ap, ◌∙◌, sym, subst, length-append}
use Rattle.std.specs.Prelude.{◌&&◌, not}
use Rattle.std.specs.List.{All, list_all, list_any}
use Rattle.std.proofs.lemmas.Bool.{cases_Bool, false≢true}
use Rattle.std.proofs.lemmas.List.{get_or-append-add, get_or_append_left, get_or-map, length-map, length-take}
use Rattle.sector.specs.Bytes.{sector_at, with_sectors}
use Rattle.sector.specs.declared.pair.Pair.{Pair}
use Rattle.cow_header.specs.HeaderText.{found_in}
use Rattle.cow_header.specs.declared.found.Found.TheVariants.{Header}
use Rattle.cow_format.specs.Places.{area_place}
use Rattle.cow_format.specs.Pairs.{pairs_of, IsInside}
use Rattle.cow_format.specs.Picture.{place_of}
use Rattle.crash_laws.specs.Stop.{IsTorn}
use Rattle.crash_laws.proofs.Torn.{torn_still}
use Rattle.plain_machine.specs.declared.event.Event.{Event}
use Rattle.plain_machine.specs.declared.request.Dev.{Dev}
use Rattle.plain_machine.specs.declared.request.Dev.TheVariants.{Origin as ToOrigin, Snap as ToSnap}
use Rattle.plain_machine.specs.declared.request.Op.TheVariants.{Write}
use Rattle.in_flight.specs.Copies.{count_of}
use Rattle.in_flight.specs.Kinds.{kind_at, kind_of}
use Rattle.in_flight.specs.declared.flights.Flight.{Flight}
use Rattle.in_flight.specs.declared.flights.Kind.TheVariants.{OriginWrite, SnapWrite}
use Rattle.in_flight.specs.declared.flights.Route.TheVariants.{Origin, Refused}
use Rattle.volume_laws.specs.Books.{SnapBooks, MergeBooks}
use Rattle.volume_laws.specs.Published.{IsSavedOver, is_clear_over as is_clear_over_in, is_saved_over}
use Rattle.volume_laws.specs.Held.{RefusedHolds, RequestHolds, RouteHolds, SnapHolds}
use Rattle.volume_laws.specs.Merging.{MergeHolds}
use Rattle.volume_laws.specs.Waits.{WaitsHolds}
use Rattle.volume_laws.proofs.Lists.{All-from_list_any}
use Rattle.volume_laws.proofs.Nexts.{over_saved}
use Rattle.whole_commands.specs.Devices.{sectors_of}
use Rattle.event_machine.specs.Again.{is_clear_over}
use Rattle.event_machine.specs.Held.{SnapHeld, Going, MergeHeld, Moving}
use Rattle.event_machine.specs.Seen.{Seen, going_of, held_of}
use Rattle.event_machine.specs.MergeSeen.{MergeSeen, books_in, buffered, held_in, merge_held_of}
use Rattle.event_machine.proofs.Tied.{clear_over_seen}
use Rattle.read_beside_writer.specs.Moments.{IsLive, IsSavedFirst}
use Rattle.copy_before_write_laws.proofs.Copies.{live_between, origin_between, store_between}
use Rattle.copy_before_write_laws.proofs.Changes.{AreEach, Changes, IsChanged, IsDiskWritten, IsMergedBack, IsOriginChanged, IsStill, IsWrittenBy, Untouched, OnDisk, MergedBack, first_stands, takes}
use Rattle.copy_before_write_laws.proofs.Snaps.{IsSeen, changed_safe, disk_placed, merged_placed, there_is}
use Rattle.copy_before_write_laws.proofs.Writes.{IsBeside, IsSafe, disk_written, origin_safe}

and_both : (a b : Bool) → (a && b) ≡ true → (a ≡ true) × (b ≡ true)
and_both true b e = (refl, e)
and_both false b e = absurd (false≢true e)

not_true : (b : Bool) → not b ≡ true → b ≡ false
not_true true e = absurd (false≢true e)
not_true false e = refl

all_left : {X : Type 0} (P : X → Type 0) (xs ys : List X) → All P (xs ++ ys) → All P xs
all_left P xs ys all k x lt = subst P (get_or_append_left xs ys x k lt) (all k x (omega (arith, lt, length-append xs ys)))

all_right : {X : Type 0} (P : X → Type 0) (xs ys : List X) → All P (xs ++ ys) → All P ys
all_right P xs ys all k x lt = subst P (get_or-append-add xs ys k x) (all (length xs + k) x (omega (arith, lt, length-append xs ys)))

-- where all pass a test, each does
pub each_passes : {X : Type 0} (test : X → Bool) (xs : List X) → list_all test xs ≡ true → All (λ x. test x ≡ true) xs
each_passes test [] e k x lt = absurd (omega (arith, lt))
each_passes test (y ∷ ys) e zero x lt = (and_both (test y) (list_all test ys) e).0
each_passes test (y ∷ ys) e (suc k) x lt = each_passes test ys (and_both (test y) (list_all test ys) e).1 k x (omega (arith, lt))

-- two lists one by one, at one place
pub each_at : (R : SnapHeld → SnapHeld → Type 0) (xs ys : List SnapHeld) → AreEach R xs ys → (k : ℕ) (x y : SnapHeld) → k < length xs → x ≡ get_or xs k x → y ≡ get_or ys k y → R x y
each_at R [] ys each k x y lt is at = absurd (omega (arith, lt))
each_at R (a ∷ xs) [] each k x y lt is at = absurd each
each_at R (a ∷ xs) (b ∷ ys) each zero x y lt is at = subst (λ u. R u y) (sym is) (subst (R a) (sym at) each.0)
each_at R (a ∷ xs) (b ∷ ys) each (suc k) x y lt is at = each_at R xs ys each.1 k x y (omega (arith, lt)) is at

origin_ne_refused : Origin ≢ Refused
origin_ne_refused e = cc

-- a write that goes to the origin disk is one of the origin
pub disk_kind : (merge : Option MergeBooks) (o : List ℕ) (rs : List Flight) (bs : List SnapBooks) → All (SnapHolds true o rs) bs → (k : ℕ) (f : Flight) → k < length rs → f ≡ get_or rs k f → WaitsHolds merge bs f → f.route ≡ Origin → (bytes : List ℕ) → f.request.op ≡ Write bytes → kind_of f.request ≡ OriginWrite
disk_kind merge o rs bs holds k f within is waits route bytes op = by f.request.dev refl
  where
    here : (P : Flight → Type 0) → All P rs → P f
    here P all = subst P (sym is) (all k f within)

    by : (dev : Dev) → f.request.dev ≡ dev → kind_of f.request ≡ OriginWrite
    by ToOrigin at = ap (λ d. kind_at d f.request.op) at ∙ ap (kind_at ToOrigin) op
    by (ToSnap n) at =
        let kind : kind_of f.request ≡ SnapWrite n = ap (λ d. kind_at d f.request.op) at ∙ ap (kind_at (ToSnap n)) op in
        let (i, b, lt, stands, number) = waits.write_attached n kind in
        let its : kind_of f.request ≡ SnapWrite b.number = kind ∙ ap SnapWrite (sym number) in
        let held : SnapHolds true o rs b = subst (SnapHolds true o rs) stands (holds i b lt) in
        elim (cases_Bool b.live) [
          | inl live ↦ absurd ((here (RouteHolds b.number b.chunk b.pairs b.marks) (held.alive live).routes).write its route)
          | inr dead ↦ absurd (origin_ne_refused (sym route ∙ (here (RefusedHolds b.number) (held.spoilt dead).routes).write its))
        ]

-- What is known of a merge that may be begun: its pairs are inside, and its sectors are the origin's.
abbrev pub IsMergeSeen : ℕ → List ℕ → List Flight → Option MergeSeen → Type 0
IsMergeSeen sectors o rs None = Unit {0}
IsMergeSeen sectors o rs (Some x) = MergeHolds o rs x.due.books × (x.due.books.sectors ≡ sectors)

-- A volume before an event, all of whose devices drop no writes: what its books say.
pub record IsSeenAll (sectors : ℕ) (o : List ℕ) (ss : List Seen) (fs : List Flight) (ms : Option MergeSeen) : Type 0 where
  pub long : length o ≡ 512 * sectors
  pub holds : All (SnapHolds true o fs) (map (λ s. s.due.books) ss)
  pub some : All (λ (b : SnapBooks). 0 < b.chunk) (map (λ s. s.due.books) ss)
  pub requests : All (RequestHolds sectors) fs
  pub waits : All (WaitsHolds (books_in ms) (map (λ s. s.due.books) ss)) fs
  pub merge : IsMergeSeen sectors o fs ms

module _ (sectors size : ℕ) (event : Event) (v w : Moving) (ss : List Seen) (fs : List Flight) (ms : Option MergeSeen) (snaps_are : v.snaps ≡ map held_of ss) (requests_are : v.requests ≡ map going_of fs) (merge_is : v.merge ≡ held_in ms)
    (all : IsSeenAll sectors v.origin.bytes ss fs ms) (k : ℕ) (s : Seen) (t : SnapHeld) (within : k < length ss) (is : s ≡ get_or ss k s) (at : t ≡ get_or w.snaps k t)
    (seen : IsSeen sectors size v.origin.bytes fs s.due.books) (side : (s.due.books.live ≡ true) ⊎ (s.due.books.untried ≡ true) ⊎ (found_in (sector_at s.due.books.store 0) ≡ Ok (Header s.due.books.chunk) → ⊥))
    (beside : All (IsBeside s.due.books.chunk) t.pairs) (listed : pairs_of s.due.books.chunk t.snap.store.bytes ≡ t.pairs) (quiet : IsWrittenBy event v.requests (held_of s) → ⊥) (changes : Changes event v w) where
  abbrev chunk : ℕ
  chunk = s.due.books.chunk

  abbrev o : List ℕ
  o = v.origin.bytes

  abbrev d : List ℕ
  d = s.due.books.store

  abbrev o' : List ℕ
  o' = w.origin.bytes

  abbrev d' : List ℕ
  d' = t.snap.store.bytes

  abbrev IsSome : Type 0
  IsSome = (s.due.books.live ≡ true) ⊎ (s.due.books.untried ≡ true)

  some_sectors : 0 < size
  some_sectors =
      let n : ℕ = length s.due.books.pairs / (32 * chunk) in
      let up : chunk * (area_place chunk n + 1) ≡ chunk * area_place chunk n + chunk = grind arith in
      let room = seen.formed.room in
      let pos = seen.some in
      omega (arith, up, room, pos)

  here : held_of s ≡ get_or v.snaps k (held_of s)
  here = ap held_of is ∙ sym (get_or-map held_of ss k s (held_of s) within) ∙ ap (λ xs. get_or xs k (held_of s)) (sym snaps_are)

  low : k < length v.snaps
  low = omega (arith, within, length-map ss held_of, ap length snaps_are)

  -- of the origin: where it changes there is a copy
  abbrev IsSafeOrigin : Type 0
  IsSafeOrigin = (length o' ≡ 512 * sectors) × ((i : ℕ) → place_of (pairs_of chunk d) (i / (512 * chunk)) ≡ None → get_or o' i 0 ≡ get_or o i 0)

  listed_none : (i : ℕ) → place_of (pairs_of chunk d) (i / (512 * chunk)) ≡ None → place_of s.due.books.pairs (i / (512 * chunk)) ≡ None
  listed_none i none = ap (λ ps. place_of ps (i / (512 * chunk))) (sym seen.listed) ∙ none

  disk_safe : IsSome → IsDiskWritten v.requests o o' → IsSafeOrigin
  disk_safe some e =
      let stands = first_stands (takes e.number) v.requests e.request e.found in
      let lt : stands.index < length fs = (let x = stands.within in omega (arith, x, length-map fs going_of, ap length requests_are)) in
      let (f, at) = there_is fs stands.index lt in
      put f stands.index lt at (stands.is ∙ ap (λ xs. get_or xs stands.index e.request) requests_are ∙ get_or-map going_of fs stands.index f e.request lt ∙ ap going_of (sym at))
    where
      put : (f : Flight) (i : ℕ) → i < length fs → f ≡ get_or fs i f → e.request ≡ going_of f → IsSafeOrigin
      put f i lt at same =
          let request : RequestHolds sectors f = subst (RequestHolds sectors) (sym at) (all.requests i f lt) in
          let waits : WaitsHolds (books_in ms) (map (λ s. s.due.books) ss) f = subst (WaitsHolds (books_in ms) (map (λ s. s.due.books) ss)) (sym at) (all.waits i f lt) in
          let route : f.route ≡ Origin = sym (ap (λ (g : Going). g.route) same) ∙ e.route in
          let op : f.request.op ≡ Write e.bytes = sym (ap (λ (g : Going). g.request.op) same) ∙ e.op in
          let long : length e.bytes ≡ 512 * f.request.range.count = request.bytes e.bytes op in
          let kind = disk_kind (books_in ms) o fs (map (λ s. s.due.books) ss) all.holds i f lt at waits route e.bytes op in
          let inside = request.inside in
          let becomes : o' ≡ with_sectors o f.request.range.first e.bytes = e.now ∙ ap (λ (g : Going). with_sectors o g.request.range.first e.bytes) same in
          let wrote = disk_written o e.bytes f.request.range.first f.request.range.count (omega (arith, long)) (omega (arith, long, inside, all.long)) in (
            ap length becomes ∙ wrote.len ∙ all.long,
            λ j none. ap (λ b. get_or b j 0) becomes ∙ origin_safe chunk f.request.range.first f.request.range.count o (with_sectors o f.request.range.first e.bytes) s.due.books.pairs wrote (disk_placed o fs s.due.books seen.some seen.holds some i f lt at kind route) j (listed_none j none),
          )

  -- a pair whose chunk is in the buffer
  grouped : (x : MergeSeen) → MergeHolds o fs x.due.books → {q : Pair} {rest : List Pair} → x.due.books.reading ≡ q ∷ rest → IsInside x.due.books.chunk x.due.books.sectors x.due.books.size q
  grouped x holds {q} {rest} reading =
      let m : MergeBooks = x.due.books in
      let P : Pair → Type 0 = IsInside x.due.books.chunk x.due.books.sectors x.due.books.size in
      let pairs : All P x.due.books.pairs = all_left P x.due.books.pairs x.due.books.released holds.text.inside in
      let (kept, ending) = holds.ending in
      let group : All P (x.due.books.waiting ++ (x.due.books.reading ++ x.due.books.copied)) = all_right P kept (x.due.books.waiting ++ (x.due.books.reading ++ x.due.books.copied)) (subst (All P) ending pairs) in
      let read : All P x.due.books.reading = all_left P x.due.books.reading x.due.books.copied (all_right P x.due.books.waiting (x.due.books.reading ++ x.due.books.copied) group) in
      let its : All P (q ∷ rest) = subst (All P) reading read in
      its 0 q (omega arith)

  book : s.due.books ≡ get_or (map (λ s. s.due.books) ss) k s.due.books
  book = ap (λ (x : Seen). x.due.books) is ∙ sym (get_or-map (λ s. s.due.books) ss k s s.due.books within)

  lower : k < length (map (λ s. s.due.books) ss)
  lower = omega (arith, within, length-map ss (λ (s : Seen). s.due.books))

  clear_placed : IsSome → (first count : ℕ) → is_clear_over_in (map (λ s. s.due.books) ss) first count ≡ true → (j : ℕ) → j < count → place_of s.due.books.pairs ((first + j) / chunk) ≢ None
  clear_placed some first count clear =
      let both = and_both (list_all (is_saved_over first count) (map (λ s. s.due.books) ss)) (not (list_any (λ (b : SnapBooks). b.untried) (map (λ s. s.due.books) ss))) clear in
      let saved : IsSavedOver first count s.due.books = over_saved first count s.due.books (λ _. seen.some) (subst (λ b. is_saved_over first count b ≡ true) (sym book) (each_passes (is_saved_over first count) (map (λ s. s.due.books) ss) both.0 k s.due.books lower)) in
      let tried : s.due.books.untried ≡ false = subst (λ (b : SnapBooks). b.untried ≡ false) (sym book) (All-from_list_any (λ (b : SnapBooks). b.untried) (map (λ s. s.due.books) ss) (not_true _ both.1) k s.due.books lower) in
      elim some [
        | inl live ↦ merged_placed first count s.due.books saved live
        | inr untried ↦ absurd (false≢true (sym tried ∙ untried))
      ]

  merged_safe : IsSome → IsMergedBack v o' → IsSafeOrigin
  merged_safe some e = by ms refl
    where
      sectors_are : sectors_of v.origin ≡ sectors
      sectors_are = omega (arith, all.long)

      by : (m : Option MergeSeen) → ms ≡ m → IsSafeOrigin
      by None none = absurd (let x : None ≡ Some e.merge = sym (merge_is ∙ ap held_in none) ∙ e.is in cc)
      by (Some x) one =
          let same : e.merge ≡ merge_held_of x = (let y : Some (merge_held_of x) ≡ Some e.merge = sym (merge_is ∙ ap held_in one) ∙ e.is in cc) in
          let known : MergeHolds o fs x.due.books × (x.due.books.sectors ≡ sectors) = subst (IsMergeSeen sectors o fs) one all.merge in
          put x known.0 known.1 same (sym (ap (λ (m : MergeHeld). m.reading) same) ∙ e.reading)
        where
          put : (x : MergeSeen) → MergeHolds o fs x.due.books → x.due.books.sectors ≡ sectors → e.merge ≡ merge_held_of x → x.due.books.reading ≡ e.pair ∷ e.rest → IsSafeOrigin
          put x holds its same reading =
              let c : ℕ = x.due.books.chunk in
              let q : Pair = e.pair in
              let first : ℕ = x.due.books.chunk * e.pair.old in
              let n : ℕ = count_of x.due.books.chunk sectors e.pair.old in
              let bytes : List ℕ = take (512 * count_of x.due.books.chunk sectors e.pair.old) x.due.books.buffer in
              let becomes : o' ≡ with_sectors o (x.due.books.chunk * e.pair.old) (take (512 * count_of x.due.books.chunk sectors e.pair.old) x.due.books.buffer) =
              e.now ∙ ap (λ (m : MergeHeld). with_sectors o (m.merge.chunk * e.pair.old) m.buffer) same
              ∙ ap (λ (r : List Pair). with_sectors o (x.due.books.chunk * e.pair.old) (buffered x.due.books.chunk x.due.books.sectors r x.due.books.buffer)) reading
              ∙ ap (λ (z : ℕ). with_sectors o (x.due.books.chunk * e.pair.old) (take (512 * count_of x.due.books.chunk z e.pair.old) x.due.books.buffer)) its in
              let few : length bytes ≤ 512 * n = omega (arith, length-take (512 * n) x.due.books.buffer) in
              let old : x.due.books.chunk * e.pair.old < sectors = subst (λ z. x.due.books.chunk * e.pair.old < z) its (grouped x holds reading).old in
              let wrote = disk_written o bytes first n few (omega (arith, few, old, all.long)) in
              let clear : is_clear_over_in (map (λ s. s.due.books) ss) first n ≡ true =
              sym (clear_over_seen first n ss) ∙ ap (λ xs. is_clear_over xs first n) (sym snaps_are)
              ∙ subst (λ z. is_clear_over v.snaps (x.due.books.chunk * e.pair.old) (count_of x.due.books.chunk z e.pair.old) ≡ true) sectors_are
              (subst (λ (m : MergeHeld). is_clear_over v.snaps (m.merge.chunk * e.pair.old) (count_of m.merge.chunk (sectors_of v.origin) e.pair.old) ≡ true) same e.clear) in (
                ap length becomes ∙ wrote.len ∙ all.long,
                λ j none. ap (λ b. get_or b j 0) becomes ∙ origin_safe chunk first n o (with_sectors o first bytes) s.due.books.pairs wrote (clear_placed some first n clear) j (listed_none j none),
              )

  origin_goes : IsSome → IsOriginChanged v o' → IsSafeOrigin
  origin_goes some (Untouched e) = (ap length e ∙ all.long, λ i none. ap (λ b. get_or b i 0) e)
  origin_goes some (OnDisk e) = disk_safe some e
  origin_goes some (MergedBack e) = merged_safe some e

  -- a good header is that of a snapshot which is live, or untried
  is_some : found_in (sector_at d 0) ≡ Ok (Header chunk) → IsSome
  is_some good = elim side [ inl live ↦ inl live | inr rest ↦ elim rest [ inl untried ↦ inr untried | inr bad ↦ absurd (bad good) ] ]

  -- The snapshot is saved first, from any moment of the event to any later one.
  pub goes : (om om' m m' : List ℕ) → IsTorn sectors o o' om → IsTorn sectors om o' om' → IsTorn size d d' m → IsTorn size m d' m' → IsLive chunk (record { origin = om'; store = m' })
      → IsLive chunk (record { origin = om; store = m }) × IsSavedFirst chunk (record { origin = om; store = m }) (record { origin = om'; store = m' })
  goes om om' m m' torn later store store' live = by changes
    where
      by : Changes event v w → IsLive chunk (record { origin = om; store = m }) × IsSavedFirst chunk (record { origin = om; store = m }) (record { origin = om'; store = m' })
      by (inl (each, origin)) =
          let same : d' ≡ d = (each_at IsStill v.snaps w.snaps each k (held_of s) t low here at).bytes_are in
          let first : m ≡ d = torn_still size d m (subst (λ x. IsTorn size d x m) same store) seen.long in
          let last : m' ≡ d = torn_still size d m' (subst (λ x. IsTorn size x d m') first (subst (λ x. IsTorn size m x m') same store')) seen.long in
          let lives = live_between size chunk d d' m m' o om om' some_sectors store store' (λ good. sym (ap (λ l. found_in (sector_at l 0)) same) ∙ good) live in
          let safe = origin_goes (is_some lives.1) origin in (
            lives.0,
            subst (λ x. IsSavedFirst chunk (record { origin = om; store = x }) (record { origin = om'; store = m' })) (sym first)
                (subst (λ x. IsSavedFirst chunk (record { origin = om; store = d }) (record { origin = om'; store = x })) (sym last) (origin_between sectors chunk o o' om om' d all.long safe.0 torn later safe.1)),
          )
      by (inr (same, each)) = put same (changed_safe sectors size o fs s seen event v.requests t beside listed (each_at (IsChanged event v.requests) v.snaps w.snaps each k (held_of s) t low here at))
        where
          put : o' ≡ o → IsWrittenBy event v.requests (held_of s) ⊎ ((qs : List Pair) × IsSafe chunk o d d' s.due.books.pairs qs) → IsLive chunk (record { origin = om; store = m }) × IsSavedFirst chunk (record { origin = om; store = m }) (record { origin = om'; store = m' })
          put same (inl written) = absurd (quiet written)
          put same (inr (qs, safe)) =
              let first : om ≡ o = torn_still sectors o om (subst (λ x. IsTorn sectors o x om) same torn) all.long in
              let last : om' ≡ o = torn_still sectors o om' (subst (λ x. IsTorn sectors x o om') first (subst (λ x. IsTorn sectors om x om') same later)) all.long in
              let lives = live_between size chunk d d' m m' o om om' some_sectors store store' safe.back live in (
                lives.0,
                subst (λ x. IsSavedFirst chunk (record { origin = x; store = m }) (record { origin = om'; store = m' })) (sym first)
                    (subst (λ x. IsSavedFirst chunk (record { origin = o; store = m }) (record { origin = x; store = m' })) (sym last)
                    (store_between size chunk safe.place o d d' m m' s.due.books.pairs qs seen.some seen.long store store' safe.only safe.was safe.now safe.away safe.copied)),
              )
