-- What one more read that was done ahead leaves of those before it.
use Rattle.std.proofs.Common.{◌≡◌, ◌⊎◌, inl, inr, ℕ, ◌+◌, ◌*◌, ◌<◌, ◌≤◌, ◌++◌, ◌∙◌, Bool, true, false, List, [], ◌∷◌, length, refl, sym, ap, subst, arith}
use Rattle.std.specs.Prelude.{◌&&◌, ◌||◌, not, nat_lt, Result, Ok, Err, IfOk, OnErr}
use Rattle.std.specs.List.{All, list_any}
use Rattle.std.proofs.lemmas.Bool.Decides.{nat_tests}
use Rattle.std.proofs.lemmas.List.Elements.{All-nil, All-cons, All-head, All-tail, All-append}
use Rattle.sector.specs.Bytes.{with_sectors}
use Rattle.sector.proofs.Sectors.{sectors_at_apart}
use Rattle.device.specs.Ahead.{PassesBeside}
use Rattle.file_calls.specs.Calls.{Call, Read}
use Rattle.file_calls.specs.Kept.{now_in}
use Rattle.file_device.specs.declared.piece.Piece.{Piece}
use Rattle.file_device.specs.declared.pieces.Pieces.{Pieces}
use Rattle.file_device.specs.Pieces.{IsPieceOf, has_all, meets, pieces_in}
use Rattle.file_device.specs.Layers.{file_layers}
use Rattle.file_device.specs.Laws.{answers}
use Rattle.file_device.proofs.CallsAhead.{got, with_sectors_inside}

or_parts : (one other : Bool) → (one || other) ≡ false → (one ≡ false) × (other ≡ false)
or_parts false other is = (refl, is)
or_parts true other is = absurd (let misses : ⊥ = cc in misses)

-- one that has none of these sectors
apart : (first count : ℕ) (p : Piece) → meets first count p ≡ false → (p.first + p.count ≤ first) ⊎ (first + count ≤ p.first)
apart first count p misses = tests (nat_lt p.first (first + count)) refl
  where
    tests : (b : Bool) → nat_lt p.first (first + count) ≡ b → (p.first + p.count ≤ first) ⊎ (first + count ≤ p.first)
    tests false is = inr (grind (arith, nat_tests, is))
    tests true is = inl (let above : nat_lt first (p.first + p.count) ≡ false = sym (ap (λ b. b && nat_lt first (p.first + p.count)) is) ∙ misses in grind (arith, nat_tests, above))

-- has the bytes that it had
still : (b : List ℕ) (n first count : ℕ) (bytes : List ℕ) (p : Piece) → length b ≡ 512 * n → first + count ≤ n → length bytes ≡ 512 * count → meets first count p ≡ false → IsPieceOf b n p → IsPieceOf (with_sectors b first bytes) n p
still b n first count bytes p long inside whole misses is = record {
  some = is.some;
  inside = is.inside;
  same = is.same ∙ sym (sectors_at_apart b first count bytes p.first p.count (omega (arith, long, inside, whole)) whole (apart first count p misses));
}

all_still : (b : List ℕ) (n first count : ℕ) (bytes : List ℕ) (xs : List Piece) → length b ≡ 512 * n → first + count ≤ n → length bytes ≡ 512 * count → list_any (meets first count) xs ≡ false → All (IsPieceOf b n) xs → All (IsPieceOf (with_sectors b first bytes) n) xs
all_still b n first count bytes [] long inside whole misses are = All-nil (IsPieceOf (with_sectors b first bytes) n)
all_still b n first count bytes (p ∷ xs) long inside whole misses are =
    let parts = or_parts (meets first count p) (list_any (meets first count) xs) misses in
    All-cons (IsPieceOf (with_sectors b first bytes) n) p xs (still b n first count bytes p long inside whole parts.0 (All-head (IsPieceOf b n) p xs are)) (all_still b n first count bytes xs long inside whole parts.1 (All-tail (IsPieceOf b n) p xs are))

-- all of them, after a read of sectors that none has
pub more_still : (start : List ℕ) (past h : List Call) (n first count : ℕ) (bytes : List ℕ) (done : Bool) (xs : List Piece) → length (now_in start past) ≡ 512 * n → first + count ≤ n → length bytes ≡ 512 * count → h ≡ Read (512 * first) (512 * count) (got done bytes) ∷ past → list_any (meets first count) xs ≡ false → All (IsPieceOf (now_in start past) n) xs → All (IsPieceOf (now_in start h) n) xs
more_still start past h n first count bytes true xs long inside whole is misses are =
    subst (λ b. All (IsPieceOf b n) xs) (sym (ap (now_in start) is ∙ with_sectors_inside (now_in start past) n first count bytes long inside whole (512 * first) refl)) (all_still (now_in start past) n first count bytes xs long inside whole misses are)
more_still start past h n first count bytes false xs long inside whole is misses are = subst (λ b. All (IsPieceOf b n) xs) (sym (ap (now_in start) is)) are

-- and with the new one
pub with_one : (P : Piece → Type 0) (xs ys : List Piece) (p : Piece) → ys ≡ xs ++ p ∷ [] → All P xs → P p → All P ys
with_one P xs ys p is are one = subst (All P) (sym is) (All-append P xs (p ∷ []) are (All-cons P p [] one (All-nil P)))

-- if none has one of some sectors, none has them all
has_one : (first count : ℕ) (p : Piece) → 0 < count → 0 < p.count → meets first count p ≡ false → has_all first count p ≡ false
has_one first count p some there misses = tests (has_all first count p) refl
  where
    tests : (b : Bool) → has_all first count p ≡ b → has_all first count p ≡ false
    tests false is = is
    tests true is = absurd (elim (apart first count p misses) [
      | inl below ↦ (let never : ⊥ = grind (arith, nat_tests, is, below, some, there) in never)
      | inr above ↦ (let never : ⊥ = grind (arith, nat_tests, is, above, some, there) in never)
    ])

pub none_has : (b : List ℕ) (n first count : ℕ) (xs : List Piece) → 0 < count → All (IsPieceOf b n) xs → list_any (meets first count) xs ≡ false → list_any (has_all first count) xs ≡ false
none_has b n first count [] some are misses = refl
none_has b n first count (p ∷ xs) some are misses =
    let parts = or_parts (meets first count p) (list_any (meets first count) xs) misses in
    let here = All-head (IsPieceOf b n) p xs are in
    ap (λ t. t || list_any (has_all first count) xs) (has_one first count p some here.some parts.0) ∙ none_has b n first count xs some (All-tail (IsPieceOf b n) p xs are) parts.1

any_front : (t : Piece → Bool) (xs ys : List Piece) → list_any t xs ≡ true → list_any t (xs ++ ys) ≡ true
any_front t [] ys is = absurd (let misses : ⊥ = cc in misses)
any_front t (x ∷ xs) ys is = by_test (t x) (list_any t xs) (list_any t (xs ++ ys)) is (any_front t xs ys)
  where
    by_test : (b before after : Bool) → (b || before) ≡ true → (before ≡ true → after ≡ true) → (b || after) ≡ true
    by_test true before after is' more = refl
    by_test false before after is' more = more is'

-- if each read that some piece answers is apart from these sectors, none has one of them
none_meets : (b : List ℕ) (n first count : ℕ) (all xs : List Piece) → ((t : Piece → Bool) → list_any t xs ≡ true → list_any t all ≡ true) → 0 < count → All (IsPieceOf b n) xs → ((f m : ℕ) → 0 < m → list_any (has_all f m) all ≡ true → (f + m ≤ first) ⊎ (first + count ≤ f)) → list_any (meets first count) xs ≡ false
none_meets b n first count all [] among some are beside = refl
none_meets b n first count all (p ∷ xs) among some are beside =
    let here = All-head (IsPieceOf b n) p xs are in
    let own : has_all p.first p.count p ≡ true = grind (arith, nat_tests) in
    let out = beside p.first p.count here.some (among (has_all p.first p.count) (ap (λ t. t || list_any (has_all p.first p.count) xs) own)) in
    let misses : meets first count p ≡ false = elim out [ inl below ↦ no_meet (inl below) | inr above ↦ no_meet (inr above) ] in
    ap (λ t. t || list_any (meets first count) xs) misses ∙ none_meets b n first count all xs (λ t is. among t (ap (λ b. t p || b) is ∙ or_true (t p))) some (All-tail (IsPieceOf b n) p xs are) beside
  where
    or_true : (b : Bool) → (b || true) ≡ true
    or_true true = refl
    or_true false = refl

    no_meet : (p.first + p.count ≤ first) ⊎ (first + count ≤ p.first) → meets first count p ≡ false
    no_meet (inl below) = grind (arith, nat_tests, below)
    no_meet (inr above) = grind (arith, nat_tests, above)

-- with the new one, or without where memory was refused
pub added : {A E : Type 0} (P : Piece → Type 0) (xs ys : List Piece) (p : Piece) (r : Result A E) → IfOk r (λ x. ys ≡ xs ++ p ∷ []) → OnErr r (ys ≡ xs) → All P xs → P p → All P ys
added P xs ys p (Ok x) done undone are one = with_one P xs ys p done are one
added P xs ys p (Err e) done undone are one = subst (All P) (sym undone) are

pub and_false : (b : Bool) → (b && false) ≡ false
and_false true = refl
and_false false = refl

not_broken : (broken : Bool) → broken ≡ false → (b : Bool) → (not broken && b) ≡ b
not_broken false is b = refl
not_broken true is b = absurd (let misses : ⊥ = cc in misses)

-- each read that passed still passes
pub passes : (b : List ℕ) (n first count : ℕ) (old made new : Pieces) (p : Piece) (broken broken' kept kept' : Bool) → broken ≡ false → broken' ≡ false → 0 < count → All (IsPieceOf b n) (pieces_in old) → (list_any (meets first count) (pieces_in old) ≡ false → pieces_in made ≡ pieces_in old) → pieces_in new ≡ pieces_in made ++ p ∷ []
    → PassesBeside (file_layers broken old kept) (file_layers broken' new kept') first count
passes b n first count old made new p broken broken' kept kept' whole whole' some are same is beside f m more passed =
    let misses : list_any (meets first count) (pieces_in old) ≡ false = none_meets b n first count (pieces_in old) (pieces_in old) (λ t any. any) some are (λ f' m' more' any. beside f' m' more' (answers broken old kept f' m' ∙ not_broken broken whole (list_any (has_all f' m') (pieces_in old)) ∙ any)) in
    answers broken' new kept' f m ∙ not_broken broken' whole' (list_any (has_all f m) (pieces_in new)) ∙ ap (list_any (has_all f m)) is
    ∙ any_front (has_all f m) (pieces_in made) (p ∷ []) (ap (list_any (has_all f m)) (same misses) ∙ sym (not_broken broken whole (list_any (has_all f m) (pieces_in old))) ∙ sym (answers broken old kept f m) ∙ passed)
