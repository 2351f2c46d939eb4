-- What commits and merges do to a picture.
use Rattle.std.proofs.Common.{◌≡◌, ◌≢◌, ℕ, suc, ◌+◌, ◌*◌, ◌/◌, ◌%◌, ◌<◌, List, [], ◌∷◌, ◌++◌, length, take, get_or, arith, refl, ap, ◌∙◌, sym, append_assoc, append-nil}
use Rattle.std.proofs.lemmas.Bool.{cond-false, ne_eqb, true≢false}
use Rattle.std.proofs.lemmas.Nat.{mod_below}
use Rattle.std.specs.Prelude.{Option, Some, None}
use Rattle.sector.proofs.Sectors.{byte_read}
use Rattle.sector.specs.declared.pair.Pair.{Pair}
use Rattle.cow_format.specs.Places.{area_place, is_area_place, ChangesOnly}
use Rattle.cow_format.specs.Pairs.{pairs_of, IsInside}
use Rattle.cow_format.specs.Picture.{place_of, byte_of, picture_at, picture, IsCopied}
use Rattle.cow_format.proofs.AreaPlaces.{place_is}
use Rattle.cow_format.proofs.Pictures.{place_found, picture-push, same_picture}

-- a byte of another chunk
pub byte_same : (chunk n m r : ℕ) (old new : List ℕ) → ChangesOnly chunk n old new → m ≢ n → r < 512 * chunk → get_or new (512 * (chunk * m) + r) 0 ≡ get_or old (512 * (chunk * m) + r) 0
byte_same chunk n m r old new only ne lt = sym (byte_read new (chunk * m) chunk r lt) ∙ ap (λ b. get_or b r 0) (only.rest m ne) ∙ byte_read old (chunk * m) chunk r lt

byte_of_other : (chunk n i : ℕ) (origin old new : List ℕ) (o : Option ℕ) → ChangesOnly chunk n old new → i % (512 * chunk) < 512 * chunk → o ≢ Some n → byte_of chunk origin new i o ≡ byte_of chunk origin old i o
byte_of_other chunk n i origin old new None only lt ne = refl
byte_of_other chunk n i origin old new (Some m) only lt ne = byte_same chunk n m (i % (512 * chunk)) old new only (λ e. ne (ap Some e)) lt

-- a write to a chunk of the store that no pair names
pub picture-only : (chunk n : ℕ) (origin old new : List ℕ) (ps : List Pair) → 0 < chunk → ChangesOnly chunk n old new → ((c : ℕ) → place_of ps c ≢ Some n) → (i : ℕ) → picture_at chunk origin new ps i ≡ picture_at chunk origin old ps i
picture-only chunk n origin old new ps pos only unnamed i = byte_of_other chunk n i origin old new (place_of ps (i / (512 * chunk))) only (mod_below i (512 * chunk) (omega arith)) (unnamed (i / (512 * chunk)))

-- no pair's copy stands on an area's place
pub place_unnamed : (chunk origin store a : ℕ) (ps : List Pair) → 0 < chunk → ((k : ℕ) (d : Pair) → k < length ps → IsInside chunk origin store (get_or ps k d)) → (c : ℕ) → place_of ps c ≢ Some (area_place chunk a)
place_unnamed chunk origin store a ps pos inside c e =
    let (k, lt, at) = place_found ps c (area_place chunk a) e in
    let d : Pair = record { old = 0; new = 0 } in
    true≢false (sym (place_is chunk a pos) ∙ sym (ap (is_area_place chunk) (at d).1) ∙ (inside k d lt).free)

-- a chunk that no pair names has no copy
pub place_none : (ps : List Pair) (c : ℕ) → ((k : ℕ) (d : Pair) → k < length ps → (get_or ps k d).old ≢ c) → place_of ps c ≡ None
place_none [] c none = refl
place_none (p ∷ ps) c none = cond-false _ _ _ (ne_eqb _ _ (none 0 p (omega arith))) ∙ place_none ps c (λ k d lt. none (suc k) d (omega arith))

-- pairs more (a commit) or fewer (a merge's commit), each with the origin's bytes
pub picture-more : (chunk : ℕ) (origin store : List ℕ) (ps qs : List Pair) → ((k : ℕ) (d : Pair) → k < length qs → place_of (ps ++ take k qs) (get_or qs k d).old ≡ None) → ((k : ℕ) (d : Pair) → k < length qs → IsCopied chunk origin store (get_or qs k d)) → (i : ℕ) → i < length origin → picture_at chunk origin store (ps ++ qs) i ≡ picture_at chunk origin store ps i
picture-more chunk origin store ps [] none same i lt = ap (λ x. picture_at chunk origin store x i) (append-nil ps)
picture-more chunk origin store ps (q ∷ qs) none same i lt =
    ap (λ x. picture_at chunk origin store x i) (sym (append_assoc ps (q ∷ []) qs))
    ∙ picture-more chunk origin store (ps ++ q ∷ []) qs
    (λ k d h. ap (λ x. place_of x (get_or qs k d).old) (append_assoc ps (q ∷ []) (take k qs)) ∙ none (suc k) d (omega arith))
    (λ k d h. same (suc k) d (omega arith)) i lt
    ∙ picture-push chunk origin store ps q (ap (λ x. place_of x q.old) (sym (append-nil ps)) ∙ none 0 q (omega arith)) (same 0 q (omega arith)).front i lt

-- a commit leaves the array
pub picture-committed : (chunk n : ℕ) (origin old new : List ℕ) (qs : List Pair) → 0 < chunk → ChangesOnly chunk n old new → pairs_of chunk new ≡ pairs_of chunk old ++ qs → ((c : ℕ) → place_of (pairs_of chunk old ++ qs) c ≢ Some n) → ((k : ℕ) (d : Pair) → k < length qs → place_of (pairs_of chunk old ++ take k qs) (get_or qs k d).old ≡ None) → ((k : ℕ) (d : Pair) → k < length qs → IsCopied chunk origin old (get_or qs k d)) → picture chunk origin new ≡ picture chunk origin old
picture-committed chunk n origin old new qs pos only more unnamed none same =
    same_picture chunk origin old origin new (pairs_of chunk old ++ qs) refl more
    (λ i lt. picture-only chunk n origin old new (pairs_of chunk old ++ qs) pos only unnamed i ∙ picture-more chunk origin old (pairs_of chunk old) qs none same i lt)

-- a merge's commit leaves the array, where the chunks were copied to the origin
pub picture-merged : (chunk n : ℕ) (origin old new : List ℕ) (ps qs : List Pair) → 0 < chunk → ChangesOnly chunk n old new → pairs_of chunk old ≡ ps ++ qs → pairs_of chunk new ≡ ps → ((c : ℕ) → place_of ps c ≢ Some n) → ((k : ℕ) (d : Pair) → k < length qs → place_of (ps ++ take k qs) (get_or qs k d).old ≡ None) → ((k : ℕ) (d : Pair) → k < length qs → IsCopied chunk origin old (get_or qs k d)) → picture chunk origin new ≡ picture chunk origin old
picture-merged chunk n origin old new ps qs pos only was is unnamed none same =
    same_picture chunk origin old origin new ps refl is
    (λ i lt. picture-only chunk n origin old new ps pos only unnamed i ∙ sym (picture-more chunk origin old ps qs none same i lt) ∙ ap (λ x. picture_at chunk origin old x i) (sym was))

-- the same, with the list under a name
pub picture-commit : (chunk n : ℕ) (origin old new : List ℕ) (ps qs : List Pair) → 0 < chunk → ChangesOnly chunk n old new → pairs_of chunk old ≡ ps → pairs_of chunk new ≡ ps ++ qs → ((c : ℕ) → place_of (ps ++ qs) c ≢ Some n) → ((k : ℕ) (d : Pair) → k < length qs → place_of (ps ++ take k qs) (get_or qs k d).old ≡ None) → ((k : ℕ) (d : Pair) → k < length qs → IsCopied chunk origin old (get_or qs k d)) → picture chunk origin new ≡ picture chunk origin old
picture-commit chunk n origin old new ps qs pos only is more unnamed none same =
    same_picture chunk origin old origin new (ps ++ qs) refl more
    (λ i lt. picture-only chunk n origin old new (ps ++ qs) pos only unnamed i ∙ picture-more chunk origin old ps qs none same i lt ∙ ap (λ x. picture_at chunk origin old x i) (sym is))
