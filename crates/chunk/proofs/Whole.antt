-- The pieces join to their span, one in each chunk.
use Rattle.std.proofs.Common.{◌≡◌, ℕ, zero, suc, ◌+◌, ◌-◌, ◌*◌, ◌/◌, ◌%◌, ◌<◌, ◌≤◌, min, List, [], ◌∷◌, map, length, arith, refl, ap, subst, sym, ◌∙◌, inl, inr}
use Rattle.std.specs.List.{range_with_len}
use Rattle.std.proofs.lemmas.List.Elements.{All-nil, All-cons}
use Rattle.std.proofs.lemmas.Bool.{cases_lt}
use Rattle.chunk.specs.Pieces.{Span, pieces_of, Join, IsInOneChunk, AreCutFrom}
use Rattle.chunk.proofs.Chunks.{next_border, in_chunk, same_chunk}
use Rattle.chunk.proofs.Cuts.{pieces_none, pieces_first}

-- the first piece before the pieces of the rest
cut_more : (chunk : ℕ) (s : Span) (n : ℕ) (ps : List Span) → 0 < chunk → 0 < s.count → n ≡ min s.count (chunk - s.first % chunk) → (s.count ≡ n → ps ≡ []) → AreCutFrom chunk (record { first = s.first + n; count = s.count - n; size = s.size }) ps → AreCutFrom chunk s ((record { first = s.first; count = n; size = s.size }) ∷ ps)
cut_more chunk s n ps some full is last rest =
    let end : s.first + n + (s.count - n) ≡ s.first + s.count = omega arith in
    let here : s.first + n - 1 ≡ s.first + (n - 1) = omega arith in
    record {
      join = (refl, subst (λ b. Join (s.first + n) b ps) end rest.join);
      inside = All-cons (IsInOneChunk chunk) _ _ (record { some = omega arith; one = ap (λ x. x / chunk) here ∙ same_chunk chunk s.first (n - 1) some (omega arith) }) rest.inside;
      in_turn = elim (cases_lt (chunk - s.first % chunk) s.count) [
        | inl more ↦
            let border : s.first + n ≡ chunk * (s.first / chunk + 1) = omega (arith, next_border chunk s.first some) in
            let next : (s.first + n) / chunk ≡ s.first / chunk + 1 = in_chunk chunk (s.first / chunk + 1) (s.first + n) (omega arith) (omega arith) in
            ap (λ ns. s.first / chunk ∷ ns) (rest.in_turn ∙ ap (λ c. range_with_len c (length ps)) next)
        | inr all ↦ subst (λ qs. (s.first / chunk ∷ map (λ p. p.first / chunk) qs) ≡ (s.first / chunk ∷ range_with_len (s.first / chunk + 1) (length qs))) (sym (last (omega arith))) refl
      ];
      sizes = All-cons (λ p. p.size ≡ s.size) _ _ refl rest.sizes;
    }

-- a span of no sectors
cut_none : (chunk : ℕ) (s : Span) → s.count ≡ 0 → AreCutFrom chunk s (pieces_of chunk s)
cut_none chunk s none =
    subst (λ ps. AreCutFrom chunk s ps) (sym (pieces_none chunk s none))
    (record { join = omega arith; inside = All-nil (IsInOneChunk chunk); in_turn = refl; sizes = All-nil (λ p. p.size ≡ s.size) })

-- pieces of a span of no more than so many sectors
cut_within : (m chunk : ℕ) (s : Span) → 0 < chunk → s.count ≤ m → AreCutFrom chunk s (pieces_of chunk s)
cut_within zero chunk s some small = cut_none chunk s (omega arith)
cut_within (suc m) chunk s some small =
    elim (cases_lt 0 s.count) [
      | inl full ↦
          let n : ℕ = min s.count (chunk - s.first % chunk) in
          let rest : Span = record { first = s.first + n; count = s.count - n; size = s.size } in
          let front : 0 < chunk - s.first % chunk = omega arith in
          subst (λ ps. AreCutFrom chunk s ps) (sym (pieces_first chunk s n some full refl))
          (cut_more chunk s n (pieces_of chunk rest) some full refl (λ whole. pieces_none chunk rest (omega arith)) (cut_within m chunk rest some (omega arith)))
      | inr none ↦ cut_none chunk s (omega arith)
    ]

-- the pieces of a span are cut from it
pub cut_pieces : (chunk : ℕ) (s : Span) (pieces : List Span) → pieces ≡ pieces_of chunk s → 0 < chunk → AreCutFrom chunk s pieces
cut_pieces chunk s pieces are some = subst (λ ps. AreCutFrom chunk s ps) (sym are) (cut_within s.count chunk s some (omega arith))
