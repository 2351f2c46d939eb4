-- The pieces of a span, from the first on.
use Rattle.std.proofs.Common.{◌≡◌, ℕ, zero, suc, ◌+◌, ◌-◌, ◌*◌, ◌/◌, ◌%◌, ◌<◌, ◌≤◌, min, [], ◌∷◌, map, arith, refl, ap, sym, ◌∙◌, inl, inr}
use Rattle.std.specs.List.{range_with_len}
use Rattle.std.proofs.lemmas.Bool.{cases_lt}
use borrow.Author.Tests.{tests}
use Rattle.chunk.specs.Pieces.{Span, part_in, touched, pieces_of}
use Rattle.chunk.proofs.Chunks.{chunk_begins, in_chunk, chunk_order, next_border, same_chunk}

-- spans are the same where they say the same
span_same : (f c z f' c' z' : ℕ) → f ≡ f' → c ≡ c' → z ≡ z' → (let s : Span = record { first = f; count = c; size = z } in s) ≡ record { first = f'; count = c'; size = z' }
span_same f c z f' c' z' p q r = cc

-- no sectors, no pieces
pub pieces_none : (chunk : ℕ) (s : Span) → s.count ≡ 0 → pieces_of chunk s ≡ []
unfolding pieces_of
pieces_none chunk s none = rw none refl

-- spans that end together have the same part in a chunk that begins behind both
part_same : (chunk : ℕ) (s t : Span) (c : ℕ) → s.size ≡ t.size → s.first + s.count ≡ t.first + t.count → s.first ≤ chunk * c → t.first ≤ chunk * c → part_in chunk s c ≡ part_in chunk t c
part_same chunk s t c size end s_from t_from = span_same _ _ _ _ _ _ (omega arith) (omega arith) size

-- and so in all later ones
parts_same : (chunk : ℕ) (s t : Span) (n c : ℕ) → s.size ≡ t.size → s.first + s.count ≡ t.first + t.count → s.first ≤ chunk * c → t.first ≤ chunk * c → map (part_in chunk s) (range_with_len c n) ≡ map (part_in chunk t) (range_with_len c n)
parts_same chunk s t zero c size end s_from t_from = refl
parts_same chunk s t (suc n) c size end s_from t_from =
    let here : part_in chunk s c ≡ part_in chunk t c = part_same chunk s t c size end s_from t_from in
    let more : map (part_in chunk s) (range_with_len (c + 1) n) ≡ map (part_in chunk t) (range_with_len (c + 1) n) = parts_same chunk s t n (c + 1) size end (omega arith) (omega arith) in
    cc

-- the part in the chunk where the span begins
part_first : (chunk : ℕ) (s : Span) (n : ℕ) → 0 < chunk → n ≡ min s.count (chunk - s.first % chunk) → part_in chunk s (s.first / chunk) ≡ record { first = s.first; count = n; size = s.size }
part_first chunk s n some is =
    span_same _ _ _ _ _ _ (omega (arith, chunk_begins chunk s.first)) (omega (arith, chunk_begins chunk s.first, next_border chunk s.first some)) refl

-- the count of the chunks, where there are sectors
pub touched_some : (chunk : ℕ) (s : Span) → 0 < s.count → touched chunk s ≡ (s.first + s.count - 1) / chunk - s.first / chunk + 1
touched_some chunk s full = grind (arith, tests)

-- the pieces from a chunk on
pieces_are : (chunk : ℕ) (s : Span) (c m : ℕ) → s.first / chunk ≡ c → touched chunk s ≡ m → pieces_of chunk s ≡ map (part_in chunk s) (range_with_len c m)
unfolding pieces_of
pieces_are chunk s c m is count = cc

-- a span that ends in the chunk where it begins
pieces_one : (chunk : ℕ) (s : Span) → 0 < chunk → 0 < s.count → s.count ≤ chunk - s.first % chunk → pieces_of chunk s ≡ s ∷ []
pieces_one chunk s some full fits =
    let same : (s.first + (s.count - 1)) / chunk ≡ s.first / chunk = same_chunk chunk s.first (s.count - 1) some (omega arith) in
    let place : s.first + s.count - 1 ≡ s.first + (s.count - 1) = omega arith in
    let last : (s.first + s.count - 1) / chunk ≡ s.first / chunk = ap (λ x. x / chunk) place ∙ same in
    let one : touched chunk s ≡ 1 = omega (arith, touched_some chunk s full) in
    let first : part_in chunk s (s.first / chunk) ≡ record { first = s.first; count = s.count; size = s.size } = part_first chunk s s.count some (omega arith) in
    pieces_are chunk s (s.first / chunk) 1 refl one ∙ ap (λ p. p ∷ []) first

-- the first piece, and then the pieces of the rest
pub pieces_first : (chunk : ℕ) (s : Span) (n : ℕ) → 0 < chunk → 0 < s.count → n ≡ min s.count (chunk - s.first % chunk) → pieces_of chunk s ≡ (record { first = s.first; count = n; size = s.size }) ∷ pieces_of chunk (record { first = s.first + n; count = s.count - n; size = s.size })
pieces_first chunk s n some full is =
    let rest : Span = record { first = s.first + n; count = s.count - n; size = s.size } in
    elim (cases_lt (chunk - s.first % chunk) s.count) [
      | inl more ↦
          let c : ℕ = s.first / chunk in
          let border : s.first + n ≡ chunk * (c + 1) = omega (arith, next_border chunk s.first some) in
          let next : (s.first + n) / chunk ≡ c + 1 = in_chunk chunk (c + 1) (s.first + n) (omega arith) (omega arith) in
          let end : s.first + n + (s.count - n) - 1 ≡ s.first + s.count - 1 = omega arith in
          let last : (s.first + n + (s.count - n) - 1) / chunk ≡ (s.first + s.count - 1) / chunk = ap (λ x. x / chunk) end in
          let order : (s.first + n) / chunk ≤ (s.first + s.count - 1) / chunk = chunk_order chunk (s.first + n) (s.first + s.count - 1) some (omega arith) in
          let count : touched chunk s ≡ touched chunk rest + 1 = omega (arith, touched_some chunk s full, touched_some chunk rest (omega arith)) in
          let first : part_in chunk s c ≡ record { first = s.first; count = n; size = s.size } = part_first chunk s n some is in
          let same : map (part_in chunk s) (range_with_len (c + 1) (touched chunk rest)) ≡ map (part_in chunk rest) (range_with_len (c + 1) (touched chunk rest)) = parts_same chunk s rest (touched chunk rest) (c + 1) refl (omega arith) (omega arith) (omega arith) in
          let whole : pieces_of chunk s ≡ map (part_in chunk s) (range_with_len c (suc (touched chunk rest))) = pieces_are chunk s c (suc (touched chunk rest)) refl (omega arith) in
          let others : pieces_of chunk rest ≡ map (part_in chunk rest) (range_with_len (c + 1) (touched chunk rest)) = pieces_are chunk rest (c + 1) (touched chunk rest) next refl in
          cc
      | inr all ↦
          let e : n ≡ s.count = omega arith in
          let one : pieces_of chunk s ≡ s ∷ [] = pieces_one chunk s some full all in
          let whole : s ≡ record { first = s.first; count = n; size = s.size } = span_same _ _ _ _ _ _ refl (sym e) refl in
          let none : pieces_of chunk rest ≡ [] = pieces_none chunk rest (omega arith) in
          cc
    ]
