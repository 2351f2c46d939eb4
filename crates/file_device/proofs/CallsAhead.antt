-- What a read and a sync that were done ahead leave, and a write.
use Rattle.std.proofs.Common.{◌≡◌, ◌⊎◌, inl, inr, ℕ, ◌+◌, ◌*◌, ◌-◌, ◌<◌, ◌≤◌, ◌∙◌, Bool, true, false, List, [], ◌∷◌, length, take, slice_index, refl, sym, ap, subst, arith}
use Rattle.std.specs.Prelude.{◌==◌, if◌then◌else◌, Option, Some, None}
use Rattle.std.specs.List.{All}
use Rattle.std.proofs.lemmas.Bool.Decides.{nat_tests}
use Rattle.std.proofs.lemmas.List.{places}
use Rattle.std.proofs.lemmas.List.Elements.{All-nil, All-cons}
use Rattle.sector.specs.Bytes.{sector_at, sectors_at, with_part, with_sectors}
use Rattle.sector.proofs.Sectors.{length-with_sectors, kept_or_written, byte_outside, sectors_at-with_same}
use Rattle.device.specs.Layers.{is_loud}
use Rattle.file_calls.specs.Calls.{Call, Read, Write, Sync}
use Rattle.file_calls.specs.Kept.{with_bytes, now_in, MayHold, is_kept}
use Rattle.file_calls.specs.Laws.{with_bytes_inside, now_held, read_leaves, read_adds_none}
use Rattle.file_device.specs.declared.piece.Piece.{Piece}
use Rattle.file_device.specs.declared.pieces.Pieces.{Pieces}
use Rattle.file_device.specs.Pieces.{IsPieceOf}
use Rattle.file_device.specs.Layers.{is_found_kept, file_layers}
use Rattle.file_device.specs.Laws.{loud_of}

-- Behind a call that was done ahead the layers are loud where all is kept.
pub read_kept : (start : List ℕ) (past h : List Call) (at count : ℕ) (answer : Option (List ℕ)) → h ≡ Read at count answer ∷ past → (broken : Bool) (pieces : Pieces) → is_loud (file_layers broken pieces (is_found_kept start h)) ≡ true → is_kept start (Read at count answer ∷ past) ≡ true
read_kept start past h at count answer is broken pieces loud = sym (ap (is_found_kept start) is) ∙ sym (loud_of broken pieces (is_found_kept start h)) ∙ loud

pub sync_kept : (start : List ℕ) (past h : List Call) (done : Bool) → h ≡ Sync done false ∷ past → (broken : Bool) (pieces : Pieces) → is_loud (file_layers broken pieces (is_found_kept start h)) ≡ true → is_kept start (Sync done false ∷ past) ≡ true
sync_kept start past h done is broken pieces loud = sym (ap (is_found_kept start) is) ∙ sym (loud_of broken pieces (is_found_kept start h)) ∙ loud

pub with_sectors_inside : (b : List ℕ) (n first count : ℕ) (bytes : List ℕ) → length b ≡ 512 * n → first + count ≤ n → length bytes ≡ 512 * count → (at : ℕ) → at ≡ 512 * first → with_bytes b at bytes ≡ with_sectors b first bytes
with_sectors_inside b n first count bytes long inside whole at is = with_bytes_inside b at bytes (omega (arith, long, inside, whole, is)) ∙ ap (λ i. with_part b i bytes) is

-- what was read, or nothing
abbrev pub got : Bool → List ℕ → Option (List ℕ)
got done bytes = if done then Some bytes else None

-- the bytes after a read
pub read_long : (start : List ℕ) (past h : List Call) (n first count : ℕ) (bytes : List ℕ) (done : Bool) → length (now_in start past) ≡ 512 * n → first + count ≤ n → length bytes ≡ 512 * count → h ≡ Read (512 * first) (512 * count) (got done bytes) ∷ past → length (now_in start h) ≡ 512 * n
read_long start past h n first count bytes true long inside whole is =
    ap (λ c. length (now_in start c)) is ∙ ap length (with_sectors_inside (now_in start past) n first count bytes long inside whole (512 * first) refl)
    ∙ length-with_sectors (now_in start past) first bytes (omega (arith, long, inside, whole)) ∙ long
read_long start past h n first count bytes false long inside whole is = ap (λ c. length (now_in start c)) is ∙ long

pub read_same : (start : List ℕ) (past : List Call) (n first count : ℕ) (bytes : List ℕ) (done : Bool) → length (now_in start past) ≡ 512 * n → first + count ≤ n → is_kept start (Read (512 * first) (512 * count) (got done bytes) ∷ past) ≡ true → now_in start (Read (512 * first) (512 * count) (got done bytes) ∷ past) ≡ now_in start past
read_same start past n first count bytes true long inside is = read_leaves start past (512 * first) (512 * count) bytes (omega (arith, long, inside)) is
read_same start past n first count bytes false long inside is = refl

pub read_stop : (start : List ℕ) (past : List Call) (n first count : ℕ) (bytes : List ℕ) (done : Bool) → length (now_in start past) ≡ 512 * n → first + count ≤ n → is_kept start (Read (512 * first) (512 * count) (got done bytes) ∷ past) ≡ true → (s : ℕ) (v : List ℕ) → MayHold start (Read (512 * first) (512 * count) (got done bytes) ∷ past) s v → MayHold start past s v
read_stop start past n first count bytes true long inside is s v held = read_adds_none start past (512 * first) (512 * count) bytes (omega (arith, long, inside)) is s v held
read_stop start past n first count bytes false long inside is s v held = held

-- the piece that was read
pub piece_read : (start : List ℕ) (past h : List Call) (n first count : ℕ) (p : Piece) → length (now_in start past) ≡ 512 * n → first + count ≤ n → 0 < count → 512 * count ≤ length p.bytes.items → p.first ≡ first → p.count ≡ count → h ≡ Read (512 * first) (512 * count) (Some (take (512 * count) p.bytes.items)) ∷ past → IsPieceOf (now_in start h) n p
piece_read start past h n first count p long inside some room first_is count_is is = record {
  some = omega (arith, some, count_is);
  inside = omega (arith, inside, first_is, count_is);
  same =
      ap (λ c. take (512 * c) p.bytes.items) count_is
      ∙ sym (sectors_at-with_same (now_in start past) first count (take (512 * count) p.bytes.items) (omega (arith, long, inside, whole)) whole)
      ∙ ap (λ b. sectors_at b first count) (sym (ap (now_in start) is ∙ with_sectors_inside (now_in start past) n first count (take (512 * count) p.bytes.items) long inside whole (512 * first) refl))
      ∙ ap (λ f. sectors_at (now_in start h) f count) (sym first_is) ∙ ap (λ c. sectors_at (now_in start h) p.first c) (sym count_is);
}
  where
    whole : length (take (512 * count) p.bytes.items) ≡ 512 * count
    whole = grind (arith, places, room)

one_there : (P : Piece → Type 0) (b : Bool) (p : Piece) (xs : List Piece) → xs ≡ [] → (b ≡ false → P p) → All P (if b then xs else p ∷ xs)
one_there P true p xs none is = subst (All P) (sym none) (All-nil P)
one_there P false p xs none is = All-cons P p xs (is refl) (subst (All P) (sym none) (All-nil P))

-- it is all that there is
pub read_there : (start : List ℕ) (past h : List Call) (n first count : ℕ) (p : Piece) (xs : List Piece) (done : Bool) → length (now_in start past) ≡ 512 * n → first + count ≤ n → 0 < count → 512 * count ≤ length p.bytes.items → p.count ≡ (if done then count else 0) → (done ≡ true → p.first ≡ first) → xs ≡ [] → h ≡ Read (512 * first) (512 * count) (got done (take (512 * count) p.bytes.items)) ∷ past → All (IsPieceOf (now_in start h) n) (if p.count == 0 then xs else p ∷ xs)
read_there start past h n first count p xs true long inside some room count_is first_is none is = one_there (IsPieceOf (now_in start h) n) (p.count == 0) p xs none (λ there. piece_read start past h n first count p long inside some room (first_is refl) count_is is)
read_there start past h n first count p xs false long inside some room count_is first_is none is = one_there (IsPieceOf (now_in start h) n) (p.count == 0) p xs none (λ there. absurd (let no : ⊥ = grind (arith, nat_tests, count_is, there) in no))

-- what a stop may leave after a write
pub write_stop : (start : List ℕ) (past h : List Call) (n first count at : ℕ) (bytes : List ℕ) (done : Bool) → length (now_in start past) ≡ 512 * n → first + count ≤ n → length bytes ≡ 512 * count → at ≡ first * 512 → h ≡ Write at bytes done ∷ past → (s : ℕ) (v : List ℕ) → MayHold start h s v → MayHold start past s v ⊎ ((first ≤ s) × (s < first + count) × (v ≡ sector_at bytes (s - first)))
write_stop start past h n first count at bytes done long inside whole at_is is s v held = by_case (subst (λ c. MayHold start c s v) is held)
  where
    by_case : MayHold start past s v ⊎ (v ≡ sector_at (with_bytes (now_in start past) at bytes) s) → MayHold start past s v ⊎ ((first ≤ s) × (s < first + count) × (v ≡ sector_at bytes (s - first)))
    by_case (inl before) = inl before
    by_case (inr now) =
        elim (kept_or_written (with_bytes (now_in start past) at bytes) (now_in start past) first count bytes s v (with_sectors_inside (now_in start past) n first count bytes long inside whole at (omega (arith, at_is))) (omega (arith, long, inside, whole)) whole now) [
          | inl old ↦ inl (subst (MayHold start past s) (sym old) (now_held start past s))
          | inr new ↦ inr new
        ]

-- the bytes beside a write
pub write_rest : (start : List ℕ) (past h : List Call) (n first count at : ℕ) (bytes : List ℕ) (done : Bool) → length (now_in start past) ≡ 512 * n → first + count ≤ n → length bytes ≡ 512 * count → at ≡ first * 512 → h ≡ Write at bytes done ∷ past → (i : ℕ) → (i < 512 * first) ⊎ (512 * (first + count) ≤ i) → slice_index (now_in start h) i ≡ slice_index (now_in start past) i
write_rest start past h n first count at bytes done long inside whole at_is is i out =
    ap (λ c. slice_index (now_in start c) i) is
    ∙ ap (λ b. slice_index b i) (with_sectors_inside (now_in start past) n first count bytes long inside whole at (omega (arith, at_is)))
    ∙ byte_outside (now_in start past) first bytes i (omega (arith, long, inside, whole)) (elim out [ inl lo ↦ inl lo | inr hi ↦ inr (omega (arith, hi, whole)) ])
