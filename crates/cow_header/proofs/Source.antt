-- A header that was written is read as its source.
use Rattle.std.proofs.Common.{◌≡◌, ℕ, ◌-◌, ◌^◌, ◌<◌, List, [], ◌++◌, replicate, Bool, true, false, if◌then◌else◌, ◌&&◌, nat_le, Ok, Err, refl, ap, ◌∙◌, sym, arith, append_assoc, length-append, inl, inr}
use Rattle.std.proofs.lemmas.Bool.{leb-true, cases_Bool, true≢false}
use Rattle.std.specs.Int.{is_power_of_two}
use Rattle.sector.specs.Number.{number_at, number_bytes}
use Rattle.sector.proofs.Numbers.{length-number_bytes}
use Rattle.sector.proofs.Endian.{number_written}
use Rattle.chunk.specs.Sizes.{is_chunk}
use Rattle.cow_header.specs.HeaderText.{found_in, found_by, header_bytes, magic_number}
use Rattle.cow_header.specs.declared.found.Found.TheVariants.{Header}
use Rattle.sector.specs.declared.refusal.Refusal.TheVariants.{Invalid}

-- the answer for a header's four numbers
found_good : (chunk : ℕ) (valid : Bool) → is_chunk chunk ≡ true → found_by magic_number (if valid then 1 else 0) 1 chunk ≡ (if valid then Ok (Header chunk) else Err Invalid)
found_good chunk true allowed = rw allowed refl
found_good chunk false allowed = rw allowed refl

small_mark : (valid : Bool) → (if valid then 1 else 0) < 256 ^ 4
small_mark true = omega arith
small_mark false = omega arith

and_false : (a b : Bool) → b ≡ false → (a && b) ≡ false
and_false true b e = e
and_false false b e = refl

small_chunk : (chunk : ℕ) → is_chunk chunk ≡ true → chunk < 256 ^ 4
small_chunk chunk allowed = elim (cases_Bool (nat_le chunk 1024)) [
  | inl le ↦ (let h = leb-true chunk 1024 le in omega arith)
  | inr gt ↦ absurd (true≢false (sym allowed ∙ and_false (is_power_of_two chunk) (nat_le chunk 1024) gt))
]

-- what a header of an allowed chunk size says
pub found-header_bytes : (length chunk : ℕ) (valid : Bool) → is_chunk chunk ≡ true → found_in (header_bytes length valid chunk) ≡ (if valid then Ok (Header chunk) else Err Invalid)
unfolding header_bytes
found-header_bytes length chunk valid allowed =
    let a = number_bytes 4 magic_number in
    let b = number_bytes 4 (if valid then 1 else 0) in
    let c = number_bytes 4 1 in
    let d = number_bytes 4 chunk in
    let rest : List ℕ = replicate (length - 16) 0 in
    let la = length-number_bytes 4 magic_number in
    let lb = length-number_bytes 4 (if valid then 1 else 0) in
    let lc = length-number_bytes 4 1 in
    let magic : number_at (a ++ (b ++ (c ++ (d ++ rest)))) 0 4 ≡ magic_number = number_written 4 magic_number 0 [] (b ++ (c ++ (d ++ rest))) (omega arith) refl in
    let mark : number_at (a ++ (b ++ (c ++ (d ++ rest)))) 4 4 ≡ (if valid then 1 else 0) = number_written 4 (if valid then 1 else 0) 4 a (c ++ (d ++ rest)) (small_mark valid) la in
    let version : number_at (a ++ (b ++ (c ++ (d ++ rest)))) 8 4 ≡ 1 =
    ap (λ x. number_at x 8 4) (sym (append_assoc a b (c ++ (d ++ rest)))) ∙ number_written 4 1 8 (a ++ b) (d ++ rest) (omega arith) (omega (arith, length-append a b)) in
    let size : number_at (a ++ (b ++ (c ++ (d ++ rest)))) 12 4 ≡ chunk =
    ap (λ x. number_at x 12 4) (sym (append_assoc a b (c ++ (d ++ rest))) ∙ sym (append_assoc (a ++ b) c (d ++ rest))) ∙ number_written 4 chunk 12 ((a ++ b) ++ c) rest (small_chunk chunk allowed) (omega (arith, length-append a b, length-append (a ++ b) c)) in
    ap (λ m. found_by m (number_at (a ++ (b ++ (c ++ (d ++ rest)))) 4 4) (number_at (a ++ (b ++ (c ++ (d ++ rest)))) 8 4) (number_at (a ++ (b ++ (c ++ (d ++ rest)))) 12 4)) magic
    ∙ ap (λ m. found_by magic_number m (number_at (a ++ (b ++ (c ++ (d ++ rest)))) 8 4) (number_at (a ++ (b ++ (c ++ (d ++ rest)))) 12 4)) mark
    ∙ ap (λ m. found_by magic_number (if valid then 1 else 0) m (number_at (a ++ (b ++ (c ++ (d ++ rest)))) 12 4)) version
    ∙ ap (λ m. found_by magic_number (if valid then 1 else 0) 1 m) size
    ∙ found_good chunk valid allowed
