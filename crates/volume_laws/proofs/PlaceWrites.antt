-- What a write at a chunk's place, or at an unplaced chunk of the origin disk, does to a picture.
use Rattle.std.proofs.Common.{◌≡◌, ◌≢◌, ◌⊎◌, inl, inr, ℕ, ◌+◌, ◌*◌, ◌-◌, ◌/◌, ◌%◌, ◌<◌, ◌≤◌, List, Option, Some, None, length, get_or, take, drop, refl, sym, ◌∙◌, ap, arith}
use Rattle.std.specs.Prelude.{AllPairs}
use Rattle.std.proofs.lemmas.List.{take-take}
use Rattle.std.proofs.lemmas.Nat.{div-add-mod'}
use Rattle.sector.specs.Bytes.{sectors_at, with_sectors}
use Rattle.sector.specs.declared.pair.Pair.{Pair}
use Rattle.sector.proofs.Sectors.{byte_outside, byte_inside, sectors_at-with_same}
use Rattle.cow_format.specs.Places.{ChangesOnly}
use Rattle.cow_format.specs.Pairs.{pairs_of, IsApart}
use Rattle.cow_format.specs.Picture.{place_of, byte_of, picture_at, picture}
use Rattle.cow_format.proofs.Pictures.{picture-written, picture-write, picture_with, with_sectors-is, length-picture, get_or-picture}
use Rattle.volume_laws.specs.Steps.{WritesDisk}
use Rattle.volume_laws.proofs.Bytes.{byte_chunk, piece_low}

-- a piece as an offset in its chunk
pub offset : (chunk first count : ℕ) → 0 < chunk → first + count ≤ chunk * (first / chunk) + chunk → (off : ℕ) × (first ≡ chunk * (first / chunk) + off) × (off + count ≤ chunk) × (first % chunk ≡ off)
offset chunk first count pos piece =
    let low = piece_low chunk first pos in
    let h : chunk * (first / chunk) + first % chunk ≡ first = grind (arith, div-add-mod' first chunk) in
    (first - chunk * (first / chunk), omega arith, omega arith, omega arith)

-- the front of another chunk
pub front_kept : (chunk n m count : ℕ) (old new : List ℕ) → ChangesOnly chunk n old new → m ≢ n → count ≤ chunk → sectors_at new (chunk * m) count ≡ sectors_at old (chunk * m) count
front_kept chunk n m count old new only ne short =
    sym (take-take (512 * count) (512 * chunk) (drop (512 * (chunk * m)) new) (omega arith))
    ∙ ap (take (512 * count)) (only.rest m ne)
    ∙ take-take (512 * count) (512 * chunk) (drop (512 * (chunk * m)) old) (omega arith)

-- a write at the place of a chunk is a write of the array
pub picture_placed : (chunk c place off count : ℕ) (o old new bytes : List ℕ) (ps : List Pair) → 0 < chunk → AllPairs IsApart ps → pairs_of chunk old ≡ ps → pairs_of chunk new ≡ ps → place_of ps c ≡ Some place → off + count ≤ chunk
    → length bytes ≡ 512 * count → 512 * (chunk * place + off) + length bytes ≤ length old → 512 * (chunk * c + off + count) ≤ length o → new ≡ with_sectors old (chunk * place + off) bytes
    → picture chunk o new ≡ with_sectors (picture chunk o old) (chunk * c + off) bytes
picture_placed chunk c place off count o old new bytes ps pos apart before after named fits whole room inside written =
    let rest : (i : ℕ) → (i < 512 * (chunk * place + off)) ⊎ (512 * (chunk * place + off + count) ≤ i) → get_or new i 0 ≡ get_or old i 0 =
    λ i out. ap (λ x. get_or x i 0) written ∙ byte_outside old (chunk * place + off) bytes i room (elim out [ inl lo ↦ inl lo | inr hi ↦ inr (omega arith) ]) in
    picture_with chunk (chunk * c + off) count o old new bytes (after ∙ sym before) whole inside
    (λ i out. ap (λ qs. picture_at chunk o new qs i) before ∙ picture-write chunk c place off count o old new bytes ps pos apart named fits rest i out ∙ sym (ap (λ qs. picture_at chunk o old qs i) before))
    (λ k lt. ap (λ qs. picture_at chunk o new qs (512 * (chunk * c + off) + k)) before
    ∙ picture-written chunk c place off count o new bytes ps pos named fits (ap (λ x. sectors_at x (chunk * place + off) count) written ∙ sectors_at-with_same old (chunk * place + off) count bytes room whole) k lt)

-- a write of the origin disk in a chunk that no pair names is a write of the array
pub picture_disk : (chunk first count : ℕ) (o o' store bytes : List ℕ) (ps : List Pair) → 0 < chunk → pairs_of chunk store ≡ ps → place_of ps (first / chunk) ≡ None → first + count ≤ chunk * (first / chunk) + chunk
    → length bytes ≡ 512 * count → 512 * (first + count) ≤ length o → WritesDisk first count o o' → o' ≡ with_sectors o first bytes → picture chunk o' store ≡ with_sectors (picture chunk o store) first bytes
picture_disk chunk first count o o' store bytes ps pos is none piece whole inside e written =
    let now = length-picture chunk o' store in
    let was = length-picture chunk o store in
    let read : (i : ℕ) → i < length o → get_or (picture chunk o' store) i 0 ≡ picture_at chunk o' store ps i = λ i lt. get_or-picture chunk o' store i (let s = e.len in omega arith) ∙ ap (λ qs. picture_at chunk o' store qs i) is in
    let read' : (i : ℕ) → i < length o → get_or (picture chunk o store) i 0 ≡ picture_at chunk o store ps i = λ i lt. get_or-picture chunk o store i lt ∙ ap (λ qs. picture_at chunk o store qs i) is in
    with_sectors-is (picture chunk o' store) (picture chunk o store) first bytes (now ∙ e.len ∙ sym was) (omega arith)
    (λ i lt out. read i (omega arith) ∙ at_same i (place_of ps (i / (512 * chunk))) (e.rest i (elim out [ inl lo ↦ inl lo | inr hi ↦ inr (omega arith) ])) ∙ sym (read' i (omega arith)))
    (λ k lt. read (512 * first + k) (omega arith)
    ∙ ap (byte_of chunk o' store (512 * first + k)) (ap (place_of ps) (byte_chunk chunk first count k pos piece (omega arith)) ∙ none)
    ∙ ap (λ x. get_or x (512 * first + k) 0) written ∙ byte_inside o first bytes k (omega arith) lt)
  where
    at_same : (i : ℕ) (r : Option ℕ) → get_or o' i 0 ≡ get_or o i 0 → byte_of chunk o' store i r ≡ byte_of chunk o store i r
    at_same i None same = same
    at_same i (Some n) same = refl
