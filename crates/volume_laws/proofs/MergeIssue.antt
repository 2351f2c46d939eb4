-- Origin requests are issued during a merge: what each route does to the merging store, and what it answers.
use Rattle.std.proofs.Common.{◌≡◌, ◌≢◌, ℕ, ◌+◌, ◌*◌, ◌/◌, ◌%◌, ◌<◌, ◌≤◌, true, false, List, ◌++◌, Some, None, length, get_or, refl, sym, ◌∙◌, ap, subst, arith}
use Rattle.std.specs.List.{All}
use Rattle.sector.specs.Bytes.{sectors_at, with_sectors}
use Rattle.sector.specs.declared.pair.Pair.{Pair}
use Rattle.sector.specs.declared.range.Range.{Range}
use Rattle.sector.proofs.Sectors.{byte_read}
use Rattle.cow_format.specs.Places.{is_area_place, ChangesOnly}
use Rattle.cow_format.specs.Pairs.{pairs_of, IsApart, IsInside}
use Rattle.cow_format.specs.Picture.{place_of, byte_of, picture_at, picture, IsCopied}
use Rattle.cow_format.proofs.Pictures.{length-picture, get_or-picture, picture-written}
use Rattle.cow_format.proofs.Slots.{pairs-outside}
use Rattle.cow_format.proofs.Views.{picture-more}
use Rattle.in_flight.specs.Copies.{count_of}
use Rattle.in_flight.specs.declared.flights.Flight.{Flight}
use Rattle.volume_laws.specs.Books.{MergeBooks, listed, taken}
use Rattle.volume_laws.specs.Published.{IsPiece}
use Rattle.volume_laws.specs.Merging.{MergeHolds}
use Rattle.volume_laws.specs.Steps.{WritesDisk}
use Rattle.volume_laws.proofs.Lists.{All-front, All-back, AllPairs-front}
use Rattle.volume_laws.proofs.Pairs.{place_of-All, place_of-front_none, place_of-front_some, other_places, unnamed}
use Rattle.volume_laws.proofs.Stores.{copied_kept}
use Rattle.volume_laws.proofs.Committing.{fresh_pairs}
use Rattle.volume_laws.proofs.Bytes.{disk_other, piece_low, byte_chunk, sectors_are, length-sectors}
use Rattle.volume_laws.proofs.PlaceWrites.{offset, front_kept, picture_placed, picture_disk}
use Rattle.volume_laws.proofs.MergeEvents.{All-taken}

-- an origin write that is routed to the place of its chunk c
module _ (o : List ℕ) (rs : List Flight) (m : MergeBooks) (h : MergeHolds o rs m) (c place off : ℕ) (bytes store : List ℕ)
    (named : place_of (listed m) c ≡ Some place) (free : All (λ q. q.old ≢ c) (taken m))
    (only : ChangesOnly m.chunk place m.store store) (written : m.loud ≡ true → store ≡ with_sectors m.store (m.chunk * place + off) bytes) where
  abbrev pub overwritten : MergeBooks
  overwritten = record m { store = store }

  placed : (pair : Pair) × (pair.old ≡ c) × (pair.new ≡ place) × IsInside m.chunk m.sectors m.size pair
  placed = place_of-All (IsInside m.chunk m.sectors m.size) (listed m) c place h.text.inside named

  place_room : m.chunk * (place + 1) ≤ m.size
  place_room = subst (λ n. m.chunk * (n + 1) ≤ m.size) placed.2 placed.3.new

  place_free : is_area_place m.chunk place ≡ false
  place_free = ap (is_area_place m.chunk) (sym placed.2) ∙ placed.3.free

  -- the taken pairs have other places
  apart_from : All (λ q. q.new ≢ place) (taken m)
  apart_from k d lt = All-taken o rs m h (λ q. q.old ≢ c → q.new ≢ place) (other_places (listed m) c place h.text.apart named) k d lt (free k d lt)

  named_now : place_of m.pairs c ≡ Some place
  named_now = place_of-front_some m.pairs m.released c place named
      (All-back (λ q. q.new ≢ place) m.copied m.released (All-back (λ q. q.new ≢ place) m.reading (m.copied ++ m.released) apart_from))

  stored_now : m.loud ≡ true → pairs_of m.chunk store ≡ m.pairs
  stored_now loud = pairs-outside m.chunk place m.store store h.text.some place_free only ∙ h.stored loud

  pub merge_place_write : MergeHolds o rs overwritten
  merge_place_write = record {
    text = (let t = h.text in record { some = t.some; allowed = t.allowed; whole = only.len ∙ t.whole; inside = t.inside; apart = t.apart });
    stored = stored_now;
    fits = h.fits;
    ending = h.ending;
    room = h.room;
    buffered = λ loud k d lt. (let q = get_or m.reading k d in
        h.buffered loud k d lt ∙ sym (front_kept m.chunk place q.new (count_of m.chunk m.sectors q.old) m.store store only (All-front (λ q. q.new ≢ place) m.reading (m.copied ++ m.released) apart_from k d lt) (omega arith)));
    back = λ loud k d lt. copied_kept m.chunk place o m.store store (get_or (m.copied ++ m.released) k d) h.text.some only
        (All-back (λ q. q.new ≢ place) m.reading (m.copied ++ m.released) apart_from k d lt) (h.back loud k d lt);
    routes = h.routes;
  }

  -- it is the write of the origin's array
  pub merge_place_picture : (count : ℕ) → m.loud ≡ true → length bytes ≡ 512 * count → off + count ≤ m.chunk → 512 * (m.chunk * c + off + count) ≤ length o
      → picture m.chunk o store ≡ with_sectors (picture m.chunk o m.store) (m.chunk * c + off) bytes
  merge_place_picture count loud whole fits inside =
      let more : m.chunk * (place + 1) ≡ m.chunk * place + m.chunk = grind arith in
      let room = place_room in
      picture_placed m.chunk c place off count o m.store store bytes m.pairs h.text.some (AllPairs-front IsApart m.pairs m.released h.text.apart) (h.stored loud) (stored_now loud) named_now fits whole
      (omega (arith, h.text.whole)) inside (written loud)

-- an origin write that is routed to the origin disk: no listed pair has its chunk
module _ (o o' : List ℕ) (rs : List Flight) (m : MergeBooks) (h : MergeHolds o rs m) (first count : ℕ) (unplaced : place_of (listed m) (first / m.chunk) ≡ None)
    (piece : first + count ≤ m.chunk * (first / m.chunk) + m.chunk) (e : WritesDisk first count o o') where
  pub merge_disk_write : MergeHolds o' rs m
  merge_disk_write = record {
    text = h.text;
    stored = h.stored;
    fits = e.len ∙ h.fits;
    ending = h.ending;
    room = h.room;
    buffered = h.buffered;
    back = λ loud k d lt. (let q = get_or (m.copied ++ m.released) k d in let old = h.back loud k d lt in
        let ne : q.old ≢ first / m.chunk = All-back (λ q. q.old ≢ first / m.chunk) m.reading (m.copied ++ m.released) (All-taken o rs m h (λ q. q.old ≢ first / m.chunk) (unnamed (listed m) (first / m.chunk) unplaced)) k d lt in
        record {
          front = λ i inside at. old.front i (omega (arith, e.len)) at
              ∙ sym (disk_other m.chunk first count (first / m.chunk) i o o' h.text.some e (piece_low m.chunk first h.text.some) piece (λ same. ne (sym at ∙ same)));
        });
    routes = h.routes;
  }

  pub merge_disk_picture : (bytes : List ℕ) → m.loud ≡ true → length bytes ≡ 512 * count → 512 * (first + count) ≤ length o → o' ≡ with_sectors o first bytes → picture m.chunk o' m.store ≡ with_sectors (picture m.chunk o m.store) first bytes
  merge_disk_picture bytes loud whole inside written = picture_disk m.chunk first count o o' m.store bytes m.pairs h.text.some (h.stored loud)
      (place_of-front_none m.pairs m.released (first / m.chunk) unplaced) piece whole inside e written

-- a byte of the array
array_at : (o : List ℕ) (rs : List Flight) (m : MergeBooks) → MergeHolds o rs m → m.loud ≡ true → (i : ℕ) → i < length o → get_or (picture m.chunk o m.store) i 0 ≡ picture_at m.chunk o m.store m.pairs i
array_at o rs m h loud i lt = get_or-picture m.chunk o m.store i lt ∙ ap (λ ps. picture_at m.chunk o m.store ps i) (h.stored loud)

-- a read that is routed to a place, also after the slots were cleared
pub merge_place_read : (o : List ℕ) (rs : List Flight) (m : MergeBooks) → MergeHolds o rs m → m.loud ≡ true → (range : Range) (place : ℕ) → IsPiece m.chunk range → range.first + range.count ≤ m.sectors → place_of (listed m) (range.first / m.chunk) ≡ Some place
    → sectors_at m.store (m.chunk * place + range.first % m.chunk) range.count ≡ sectors_at (picture m.chunk o m.store) range.first range.count
merge_place_read o rs m h loud range place piece inside named =
    let (off, at, fits, is) = offset m.chunk range.first range.count h.text.some piece.within in
    let pair = place_of-All (IsInside m.chunk m.sectors m.size) (listed m) (range.first / m.chunk) place h.text.inside named in
    let room : m.chunk * (place + 1) ≤ m.size = subst (λ n. m.chunk * (n + 1) ≤ m.size) pair.2 pair.3.new in
    let more : m.chunk * (place + 1) ≡ m.chunk * place + m.chunk = grind arith in
    let len = length-picture m.chunk o m.store in
    let bytes : List ℕ = sectors_at m.store (m.chunk * place + off) range.count in
    ap (λ x. sectors_at m.store (m.chunk * place + x) range.count) is
    ∙ sym (sectors_are (picture m.chunk o m.store) bytes range.first range.count (omega (arith, h.fits)) (length-sectors m.store (m.chunk * place + off) range.count (omega (arith, h.text.whole)))
    (λ k lt. array_at o rs m h loud (512 * range.first + k) (omega (arith, h.fits))
    ∙ sym (picture-more m.chunk o m.store m.pairs m.released (fresh_pairs m.pairs m.released h.text.apart) (All-back (IsCopied m.chunk o m.store) m.copied m.released (h.back loud)) (512 * range.first + k) (omega (arith, h.fits)))
    ∙ ap (λ x. picture_at m.chunk o m.store (listed m) (512 * x + k)) at
    ∙ picture-written m.chunk (range.first / m.chunk) place off range.count o m.store bytes (listed m) h.text.some named fits refl k lt))

-- a read that is routed to the origin disk
pub merge_disk_read : (o : List ℕ) (rs : List Flight) (m : MergeBooks) → MergeHolds o rs m → m.loud ≡ true → (range : Range) → IsPiece m.chunk range → range.first + range.count ≤ m.sectors → place_of m.pairs (range.first / m.chunk) ≡ None
    → sectors_at o range.first range.count ≡ sectors_at (picture m.chunk o m.store) range.first range.count
merge_disk_read o rs m h loud range piece inside none =
    let len = length-picture m.chunk o m.store in
    sym (sectors_are (picture m.chunk o m.store) (sectors_at o range.first range.count) range.first range.count (omega (arith, h.fits)) (length-sectors o range.first range.count (omega (arith, h.fits)))
    (λ k lt. array_at o rs m h loud (512 * range.first + k) (omega (arith, h.fits))
    ∙ ap (byte_of m.chunk o m.store (512 * range.first + k)) (ap (place_of m.pairs) (byte_chunk m.chunk range.first range.count k h.text.some piece.within lt) ∙ none)
    ∙ sym (byte_read o range.first range.count k lt)))
