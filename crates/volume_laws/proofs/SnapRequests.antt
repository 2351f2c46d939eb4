-- Reads and writes of one live snapshot, by each route.
use Rattle.std.specs.Prelude.{◌&&◌}
use Rattle.std.proofs.Common.{Bool, ◌≡◌, ◌≢◌, ◌⊎◌, inl, inr, ℕ, ◌+◌, ◌*◌, ◌-◌, ◌/◌, ◌%◌, ◌<◌, ◌≤◌, true, false, List, Some, length, get_or, refl, sym, ◌∙◌, ap, subst, arith}
use Rattle.std.specs.List.{All}
use Rattle.std.proofs.lemmas.List.{get_or_default}
use Rattle.std.proofs.lemmas.Nat.{div-add-mod'}
use Rattle.sector.specs.Bytes.{sectors_at, with_sectors}
use Rattle.sector.specs.declared.pair.Pair.{Pair}
use Rattle.sector.specs.declared.range.Range.{Range}
use Rattle.sector.proofs.Sectors.{byte_read, byte_outside, sectors_at-with_same}
use Rattle.cow_format.specs.Places.{is_area_place}
use Rattle.cow_format.specs.Pairs.{pairs_of, IsApart, IsInside}
use Rattle.cow_format.specs.Picture.{place_of, byte_of, picture_at, picture}
use Rattle.cow_format.proofs.Pictures.{length-picture, get_or-picture, picture-written, picture-write, picture_with}
use Rattle.cow_format.proofs.Slots.{pairs-outside}
use Rattle.cow_format.proofs.AreaPlaces.{chunks_apart}
use Rattle.in_flight.specs.declared.flights.Flight.{Flight}
use Rattle.volume_laws.proofs.Heard.{store_loud}
use Rattle.volume_laws.specs.Books.{SnapBooks}
use Rattle.volume_laws.specs.Published.{IsPiece, IsPublished, IsUnpublished}
use Rattle.volume_laws.specs.Held.{LiveHolds, CopyHolds, MarkHolds}
use Rattle.volume_laws.specs.Steps.{WritesPlace}
use Rattle.volume_laws.proofs.Pairs.{place_of-All}
use Rattle.volume_laws.proofs.Same.{same_books}
use Rattle.volume_laws.proofs.Stores.{apart_from_pairs, inside_pairs, apart_pairs, copied_kept}
use Rattle.volume_laws.proofs.Bytes.{piece_low, byte_chunk, byte_in, byte_below, sectors_are, length-sectors}

-- a byte of a chunk that is not published is the origin disk's
pub unpublished_is : {l : Bool} (o : List ℕ) (rs : List Flight) (v : SnapBooks) → LiveHolds l o rs v → (l && v.loud) ≡ true → (c i : ℕ) → IsUnpublished v.pairs v.marks c → i < length o → i / (512 * v.chunk) ≡ c → picture_at v.chunk o v.store v.pairs i ≡ get_or o i 0
unpublished_is o rs v h loud c i (inl none) lt at = ap (byte_of v.chunk o v.store i) (ap (place_of v.pairs) at ∙ none)
unpublished_is o rs v h loud c i (inr (k, m, within, is, chunk_is)) lt at =
    let same : MarkHolds v.chunk o v.store v.pairs m = subst (MarkHolds v.chunk o v.store v.pairs) is (h.unpublished loud k m within) in
    same.same i lt (at ∙ sym chunk_is)

-- a byte of the array
array_at : {l : Bool} (o : List ℕ) (rs : List Flight) (v : SnapBooks) → LiveHolds l o rs v → v.loud ≡ true → (i : ℕ) → i < length o → get_or (picture v.chunk o v.store) i 0 ≡ picture_at v.chunk o v.store v.pairs i
array_at o rs v h loud i lt = get_or-picture v.chunk o v.store i lt ∙ ap (λ ps. picture_at v.chunk o v.store ps i) (h.stored loud)

-- a read that is routed to the origin disk
pub disk_read : {l : Bool} (o : List ℕ) (rs : List Flight) (v : SnapBooks) → LiveHolds l o rs v → (l && v.loud) ≡ true → (range : Range) → IsPiece v.chunk range → range.first + range.count ≤ v.sectors → IsUnpublished v.pairs v.marks (range.first / v.chunk)
    → sectors_at o range.first range.count ≡ sectors_at (picture v.chunk o v.store) range.first range.count
disk_read o rs v h loud range piece inside un =
    let len = length-picture v.chunk o v.store in
    sym (sectors_are (picture v.chunk o v.store) (sectors_at o range.first range.count) range.first range.count (omega (arith, h.fits)) (length-sectors o range.first range.count (omega (arith, h.fits)))
    (λ k lt. array_at o rs v h (store_loud _ v.loud loud) (512 * range.first + k) (omega (arith, h.fits))
    ∙ unpublished_is o rs v h loud (range.first / v.chunk) (512 * range.first + k) un (omega (arith, h.fits)) (byte_chunk v.chunk range.first range.count k h.text.some piece.within lt)
    ∙ sym (byte_read o range.first range.count k lt)))

-- a piece as an offset in its chunk
offset : (chunk first count : ℕ) → 0 < chunk → first + count ≤ chunk * (first / chunk) + chunk → (off : ℕ) × (first ≡ chunk * (first / chunk) + off) × (off + count ≤ chunk) × (first % chunk ≡ off)
offset chunk first count pos piece =
    let low = piece_low chunk first pos in
    let h : chunk * (first / chunk) + first % chunk ≡ first = grind (arith, div-add-mod' first chunk) in
    (first - chunk * (first / chunk), omega arith, omega arith, omega arith)

-- a read that is routed to the chunk's place
pub place_read : {l : Bool} (o : List ℕ) (rs : List Flight) (v : SnapBooks) → LiveHolds l o rs v → v.loud ≡ true → (range : Range) (place : ℕ) → IsPiece v.chunk range → range.first + range.count ≤ v.sectors → place_of v.pairs (range.first / v.chunk) ≡ Some place
    → sectors_at v.store (v.chunk * place + range.first % v.chunk) range.count ≡ sectors_at (picture v.chunk o v.store) range.first range.count
place_read o rs v h loud range place piece inside named =
    let (off, at, fits, is) = offset v.chunk range.first range.count h.text.some piece.within in
    let pair = place_of-All (IsInside v.chunk v.sectors v.size) v.pairs (range.first / v.chunk) place (inside_pairs o rs v h) named in
    let room : v.chunk * (place + 1) ≤ v.size = subst (λ n. v.chunk * (n + 1) ≤ v.size) pair.2 pair.3.new in
    let more : v.chunk * (place + 1) ≡ v.chunk * place + v.chunk = grind arith in
    let len = length-picture v.chunk o v.store in
    let bytes : List ℕ = sectors_at v.store (v.chunk * place + off) range.count in
    ap (λ x. sectors_at v.store (v.chunk * place + x) range.count) is
    ∙ sym (sectors_are (picture v.chunk o v.store) bytes range.first range.count (omega (arith, h.fits)) (length-sectors v.store (v.chunk * place + off) range.count (omega (arith, h.text.whole)))
    (λ k lt. array_at o rs v h loud (512 * range.first + k) (omega (arith, h.fits))
    ∙ ap (λ x. picture_at v.chunk o v.store v.pairs (512 * x + k)) at
    ∙ picture-written v.chunk (range.first / v.chunk) place off range.count o v.store bytes v.pairs h.text.some named fits refl k lt))

-- a write that is routed to the chunk's place
module _ {l : Bool} (o : List ℕ) (rs : List Flight) (v w : SnapBooks) (h : LiveHolds l o rs v) (c place off : ℕ) (bytes : List ℕ) (e : WritesPlace c place off bytes v w)
    (named : place_of v.pairs c ≡ Some place) (published : IsPublished v.pairs v.marks c) where
  placed : (pair : Pair) × (pair.old ≡ c) × (pair.new ≡ place) × IsInside v.chunk v.sectors v.size pair
  placed = place_of-All (IsInside v.chunk v.sectors v.size) v.pairs c place (inside_pairs o rs v h) named

  place_room : v.chunk * (place + 1) ≤ v.size
  place_room = subst (λ n. v.chunk * (n + 1) ≤ v.size) placed.2 placed.3.new

  place_free : is_area_place v.chunk place ≡ false
  place_free = ap (is_area_place v.chunk) (sym placed.2) ∙ placed.3.free

  same_pairs : pairs_of v.chunk w.store ≡ pairs_of v.chunk v.store
  same_pairs = pairs-outside v.chunk place v.store w.store h.text.some place_free e.only

  copies_apart : All (CopyHolds (l && v.loud) v.chunk v.sectors o w.store) v.copies
  copies_apart k d lt =
      let x = get_or v.copies k d in
      let x_is : x ≡ get_or v.copies k x = get_or_default v.copies k d x lt in
      let old = h.copies k d lt in
      let found = place_of-All (λ q. IsApart q x.pair) v.pairs c place (apart_from_pairs o rs v h k x lt x_is) named in
      let ne : x.pair.new ≢ place = λ same. found.3.new (found.2 ∙ sym same) in
      record { room = old.room; read = old.read; written = λ loud is. copied_kept v.chunk place o v.store w.store x.pair h.text.some e.only ne (old.written loud is) }

  module _ (loud : v.loud ≡ true) (count : ℕ) (whole : length bytes ≡ 512 * count) (fits : off + count ≤ v.chunk) where
    size_room : 512 * (v.chunk * place + off) + length bytes ≤ length v.store
    size_room = (let more : v.chunk * (place + 1) ≡ v.chunk * place + v.chunk = grind arith in let room = place_room in omega (arith, h.text.whole))

    rest_at : (i : ℕ) → (i < 512 * (v.chunk * place + off)) ⊎ (512 * (v.chunk * place + off + count) ≤ i) → get_or w.store i 0 ≡ get_or v.store i 0
    rest_at i out = ap (λ x. get_or x i 0) (e.written loud) ∙ byte_outside v.store (v.chunk * place + off) bytes i size_room (elim out [ inl lo ↦ inl lo | inr hi ↦ inr (omega arith) ])

    pub array_outside : (i : ℕ) → (i < 512 * (v.chunk * c + off)) ⊎ (512 * (v.chunk * c + off + count) ≤ i) → picture_at v.chunk o w.store v.pairs i ≡ picture_at v.chunk o v.store v.pairs i
    array_outside = picture-write v.chunk c place off count o v.store w.store bytes v.pairs h.text.some (apart_pairs o rs v h) named fits rest_at

    array_inside : (k : ℕ) → k < 512 * count → picture_at v.chunk o w.store v.pairs (512 * (v.chunk * c + off) + k) ≡ get_or bytes k 0
    array_inside = picture-written v.chunk c place off count o w.store bytes v.pairs h.text.some named fits
        (ap (λ x. sectors_at x (v.chunk * place + off) count) (e.written loud) ∙ sectors_at-with_same v.store (v.chunk * place + off) count bytes size_room whole)

    pub place_write_picture : 512 * (v.chunk * c + off + count) ≤ length o → picture w.chunk o w.store ≡ with_sectors (picture v.chunk o v.store) (v.chunk * c + off) bytes
    place_write_picture inside = ap (λ x. picture x o w.store) e.same.chunk
        ∙ picture_with v.chunk (v.chunk * c + off) count o v.store w.store bytes same_pairs whole inside
        (λ i out. ap (λ ps. picture_at v.chunk o w.store ps i) (h.stored loud) ∙ array_outside i out ∙ sym (ap (λ ps. picture_at v.chunk o v.store ps i) (h.stored loud)))
        (λ k lt. ap (λ ps. picture_at v.chunk o w.store ps (512 * (v.chunk * c + off) + k)) (h.stored loud) ∙ array_inside k lt)

  pub place_write : (count : ℕ) → length bytes ≡ 512 * count → off + count ≤ v.chunk → LiveHolds l o rs w
  place_write count whole fits =
      let s = e.same in
      let u : SnapBooks = record v { store = w.store } in
      let now : w ≡ u = same_books w u s.number s.live s.untried s.marked s.loud s.overflow s.chunk s.sectors s.size refl e.pairs e.begun e.sure e.copies e.marks in
      let t = h.text in
      subst (LiveHolds _ o rs) (sym now) (record {
        text = record { some = t.some; allowed = t.allowed; whole = e.only.len ∙ t.whole; inside = t.inside; apart = t.apart };
        stored = λ loud. same_pairs ∙ h.stored loud;
        fits = h.fits;
        tried = h.tried;
        agree = h.agree;
        few = h.few;
        link = h.link;
        copies = copies_apart;
        unpublished = λ loud k d lt.
            (let m = get_or v.marks k d in
            record { same = λ i inside at. array_outside (store_loud _ v.loud loud) count whole fits i (other_chunk i (λ same. published.unmarked k d lt (sym at ∙ same))) ∙ (h.unpublished loud k d lt).same i inside at });
        routes = h.routes;
      })
    where
      other_chunk : (i : ℕ) → i / (512 * v.chunk) ≢ c → (i < 512 * (v.chunk * c + off)) ⊎ (512 * (v.chunk * c + off + count) ≤ i)
      other_chunk i ne = elim (chunks_apart v.chunk (i / (512 * v.chunk)) c ne) [
        | inl x ↦ inl (let a = byte_in v.chunk i in let b = byte_below v.chunk i h.text.some in omega arith)
        | inr x ↦ inr (let a = byte_in v.chunk i in omega arith)
      ]
