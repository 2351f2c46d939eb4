-- One piece after the other.
use Rattle.std.proofs.Common.{◌≡◌, ℕ, suc, [], ◌∷◌, ◌+◌, ◌*◌, ◌-◌, ◌/◌, ◌<◌, ◌≤◌, List, refl, subst, arith}
use Rattle.std.specs.List.{All}
use Rattle.chunk.specs.Pieces.{Span, Join, IsInOneChunk, AreCutFrom}
use Rattle.chunk.proofs.PiecePlaces.{join_le}

-- where a run of pieces stands: from this byte on, between these sectors
pub record StandsAt (chunk first last from : ℕ) (pieces : List Span) : Type 0 where
  pub passed : ℕ
  pub at : from ≡ 512 * passed
  pub join : Join (first + passed) last pieces
  pub inside : All (IsInOneChunk chunk) pieces

-- the first piece of a run
pub record IsFirstPiece (chunk first last from : ℕ) (p : Span) : Type 0 where
  pub some : 0 < p.count
  pub one : (p.first + p.count - 1) / chunk ≡ p.first / chunk
  pub end : p.first + p.count ≤ last
  pub bytes : from + p.count * 512 ≤ 512 * (last - first)
  pub place : 512 * p.first ≡ 512 * first + from

pub first_piece : (chunk first last from : ℕ) (ps rest : List Span) (p : Span) → StandsAt chunk first last from ps → ps ≡ p ∷ rest → IsFirstPiece chunk first last from p
first_piece chunk first last from ps rest p stands e =
    let join : Join (first + stands.passed) last (p ∷ rest) = subst (Join (first + stands.passed) last) e stands.join in
    let inside : All (IsInOneChunk chunk) (p ∷ rest) = subst (All (IsInOneChunk chunk)) e stands.inside in
    let here = inside 0 p (omega arith) in
    let le = join_le (first + stands.passed + p.count) last rest join.1 in
    let start = join.0 in
    let at = stands.at in
    record { some = here.some; one = here.one; end = omega arith; bytes = omega arith; place = omega arith }

-- the rest of the run
pub stands_next : (chunk first last from : ℕ) (ps rest : List Span) (p : Span) → StandsAt chunk first last from ps → ps ≡ p ∷ rest → StandsAt chunk first last (from + p.count * 512) rest
stands_next chunk first last from ps rest p stands e =
    let join : Join (first + stands.passed) last (p ∷ rest) = subst (Join (first + stands.passed) last) e stands.join in
    let inside : All (IsInOneChunk chunk) (p ∷ rest) = subst (All (IsInOneChunk chunk)) e stands.inside in
    let sum : first + stands.passed + p.count ≡ first + (stands.passed + p.count) = omega arith in
    record {
      passed = stands.passed + p.count;
      at = (let at = stands.at in omega arith);
      join = subst (λ (x : ℕ). Join x last rest) sum join.1;
      inside = λ k d lt. inside (suc k) d (omega arith);
    }

-- the whole run
pub stands_first : (chunk : ℕ) (s : Span) (ps qs : List Span) → AreCutFrom chunk s ps → qs ≡ ps → StandsAt chunk s.first (s.first + s.count) 0 qs
stands_first chunk s ps qs cut e = rw e (record { passed = 0; at = refl; join = subst (λ (x : ℕ). Join x (s.first + s.count) ps) (omega arith) cut.join; inside = cut.inside })

-- its end
pub stands_last : (chunk first last from : ℕ) (ps : List Span) → StandsAt chunk first last from ps → ps ≡ [] → first ≤ last → from ≡ 512 * (last - first)
stands_last chunk first last from ps stands e le =
    let join : Join (first + stands.passed) last [] = subst (Join (first + stands.passed) last) e stands.join in
    let at = stands.at in
    omega arith
