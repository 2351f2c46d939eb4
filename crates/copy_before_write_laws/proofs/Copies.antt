-- A write of the origin whose chunks have their copies, and a write of one chunk of a store that no pair names, save first: at any
-- two moments of the write.
use Rattle.std.proofs.Common.{◌≡◌, ◌≢◌, inl, inr, ℕ, ◌+◌, ◌*◌, ◌/◌, ◌%◌, ◌<◌, List, [], ◌∷◌, ◌++◌, length, take, drop, get_or, Bool, true, false, None, Some, Ok, refl, arith, ap, ◌∙◌, sym, subst, append_assoc, length-append}
use Rattle.std.specs.List.{All}
use Rattle.std.specs.Prelude.{◌==◌, if◌then◌else◌}
use Rattle.std.proofs.Math.Nat.{mod-lt}
use Rattle.std.proofs.lemmas.Bool.{cases_lt}
use Rattle.std.proofs.lemmas.List.{take-append-drop, take_all, length-take-le, length-drop, get_or-take, get_or-drop, get_or-append-add, get_or_append_left}
use Rattle.sector.specs.Bytes.{sector_at}
use Rattle.sector.specs.declared.pair.Pair.{Pair}
use Rattle.cow_header.specs.HeaderText.{found_in}
use Rattle.cow_header.specs.declared.found.Found.TheVariants.{Header}
use Rattle.cow_format.specs.Places.{slot, ChangesOnly}
use Rattle.cow_format.specs.Pairs.{pairs_of}
use Rattle.cow_format.specs.Picture.{place_of, IsCopied}
use Rattle.cow_format.proofs.Slots.{IsListed-of}
use Rattle.cow_format.proofs.Pictures.{place_found}
use Rattle.cow_format.proofs.Views.{byte_same}
use Rattle.crash_laws.specs.Stop.{IsTorn}
use Rattle.crash_laws.proofs.Torn.{torn_byte, torn_only}
use Rattle.crash_laws.proofs.Between.{IsBetween}
use Rattle.crash_laws.proofs.Areas.{between_all, torn_between, torn_pairs}
use Rattle.volume_laws.proofs.Stores.{copied_kept, unnamed_by}
use Rattle.read_beside_writer.specs.Moments.{IsLive, IsSavedFirst}
use Rattle.read_beside_writer.proofs.Places.{place_front}
use Rattle.read_beside_writer.proofs.Slots.{front}

none_some : {X : Type 0} (x : X) → None ≡ Some x → ⊥
none_some x e = cc

-- a chunk that only the pairs behind have
place_behind : (ps qs : List Pair) (c : ℕ) → place_of ps c ≡ None → place_of (ps ++ qs) c ≡ place_of qs c
place_behind [] qs c none = refl
place_behind (x ∷ ps) qs c none = by (x.old == c) (place_behind ps qs c) none
  where
    by : (b : Bool) → (place_of ps c ≡ None → place_of (ps ++ qs) c ≡ place_of qs c) → (if b then Some x.new else place_of ps c) ≡ None → (if b then Some x.new else place_of (ps ++ qs) c) ≡ place_of qs c
    by true next none = absurd (none_some x.new (sym none))
    by false next none = next none

-- the origin is written where there are copies
pub origin_saved : (chunk : ℕ) (o o' d : List ℕ) → ((i : ℕ) → place_of (pairs_of chunk d) (i / (512 * chunk)) ≡ None → get_or o' i 0 ≡ get_or o i 0) → IsSavedFirst chunk (record { origin = o; store = d }) (record { origin = o'; store = d })
origin_saved chunk o o' d same = record {
  grows = take_all (length (pairs_of chunk d)) (pairs_of chunk d) (omega arith);
  stays = λ c p i place lt. refl;
  copied = λ i p lt was is. absurd (none_some p (sym was ∙ is));
  saved = same;
}

-- one chunk of the store is written that no pair names, and the pairs that come to it have their copies
pub store_saved : (chunk n : ℕ) (o d d' : List ℕ) (qs : List Pair) → 0 < chunk → ChangesOnly chunk n d d' → pairs_of chunk d' ≡ pairs_of chunk d ++ qs → All (λ q. q.new ≢ n) (pairs_of chunk d ++ qs) → All (IsCopied chunk o d) qs
    → IsSavedFirst chunk (record { origin = o; store = d }) (record { origin = o; store = d' })
store_saved chunk n o d d' qs pos only more away copies = record {
  grows = front (pairs_of chunk d) (pairs_of chunk d') qs more;
  stays = λ c p i place lt. byte_same chunk n p i d d' only (λ same. unnamed_by (pairs_of chunk d ++ qs) n c away (place_front (pairs_of chunk d) qs c p place ∙ ap Some same)) lt;
  copied = λ i p lt was is. put i p lt was (ap (λ (l : List Pair). place_of l (i / (512 * chunk))) (sym more) ∙ is);
  saved = λ i none. refl;
} where
  put : (i p : ℕ) → i < length o → place_of (pairs_of chunk d) (i / (512 * chunk)) ≡ None → place_of (pairs_of chunk d ++ qs) (i / (512 * chunk)) ≡ Some p → get_or d' (512 * (chunk * p) + i % (512 * chunk)) 0 ≡ get_or o i 0
  put i p lt was is =
      let (k, within, at) = place_found qs (i / (512 * chunk)) p (sym (place_behind (pairs_of chunk d) qs (i / (512 * chunk)) was) ∙ is) in
      let q : Pair = record { old = 0; new = 0 } in
      byte_same chunk n p (i % (512 * chunk)) d d' only (λ same. unnamed_by (pairs_of chunk d ++ qs) n (i / (512 * chunk)) away (is ∙ ap Some same)) (mod-lt i (omega (arith, pos)))
      ∙ ap (λ m. get_or d (512 * (chunk * m) + i % (512 * chunk)) 0) (sym (at q).1) ∙ (copies k q within).front i lt (sym (at q).0)

-- Within a write of the origin, at any two moments.
pub origin_between : (sectors chunk : ℕ) (o o' om om' d : List ℕ) → length o ≡ 512 * sectors → length o' ≡ 512 * sectors → IsTorn sectors o o' om → IsTorn sectors om o' om' → ((i : ℕ) → place_of (pairs_of chunk d) (i / (512 * chunk)) ≡ None → get_or o' i 0 ≡ get_or o i 0)
    → IsSavedFirst chunk (record { origin = om; store = d }) (record { origin = om'; store = d })
origin_between sectors chunk o o' om om' d lo ln torn later same = origin_saved chunk om om' d (λ i none.
    (let first : get_or om i 0 ≡ get_or o i 0 = torn_byte sectors o o' om torn lo ln i (same i none) in
    torn_byte sectors om o' om' later torn.whole ln i (same i none ∙ sym first)))

-- a chunk alone changes, on the way too
only_on : (chunk n : ℕ) (a b c : List ℕ) → ChangesOnly chunk n a b → ChangesOnly chunk n a c → ChangesOnly chunk n b c
only_on chunk n a b c x y = record { len = y.len ∙ sym x.len; rest = λ m ne. y.rest m ne ∙ sym (x.rest m ne) }

-- slots that hold the first pairs, of which so many are listed
between_listed : (chunk n : ℕ) (b : List ℕ) (ps qs : List Pair) → 0 < chunk → pairs_of chunk b ≡ ps → IsBetween (slot chunk b) n (ps ++ qs) → IsBetween (slot chunk b) (length ps) (ps ++ qs)
between_listed chunk n b ps qs pos is x = let l = IsListed-of chunk b ps pos is in record {
  low = omega (arith, length-append ps qs);
  sure = λ k d lt. l.each k d lt ∙ sym (get_or_append_left ps qs d k lt);
  maybe = λ k d lo hi. elim (cases_lt k n) [
    | inl below ↦ inl (x.sure k d below)
    | inr above ↦ x.maybe k d above hi
  ];
  ends = x.ends;
  valid = x.valid;
}

-- Within a write of one chunk of the store that no pair names, at any two moments: the pairs that come to it have their copies.
pub store_between : (size chunk n : ℕ) (o d d' m m' : List ℕ) (ps qs : List Pair) → 0 < chunk → length d ≡ 512 * size → IsTorn size d d' m → IsTorn size m d' m' → ChangesOnly chunk n d d' → IsBetween (slot chunk d) (length ps) (ps ++ qs) → pairs_of chunk d' ≡ ps ++ qs → All (λ q. q.new ≢ n) (ps ++ qs) → All (IsCopied chunk o d) qs
    → IsSavedFirst chunk (record { origin = o; store = m }) (record { origin = o; store = m' })
store_between size chunk n o d d' m m' ps qs pos long torn later only was now away copies =
    let ln : length d' ≡ 512 * size = only.len ∙ long in
    let end : IsBetween (slot chunk d') (length ps) (ps ++ qs) = between_all chunk d' ps qs pos now in
    let middle : IsBetween (slot chunk m) (length ps) (ps ++ qs) = torn_between size chunk (length ps) d d' m (ps ++ qs) pos torn long ln was end in
    let (a, few, first) = torn_pairs size chunk d d' m ps qs pos torn long ln was end in
    let whole : (ps ++ take a qs) ++ drop a qs ≡ ps ++ qs = append_assoc ps (take a qs) (drop a qs) ∙ ap (λ l. ps ++ l) (take-append-drop a qs) in
    let sure : IsBetween (slot chunk m) (length (ps ++ take a qs)) ((ps ++ take a qs) ++ drop a qs) =
    between_listed chunk (length ps) m (ps ++ take a qs) (drop a qs) pos first (subst (IsBetween (slot chunk m) (length ps)) (sym whole) middle) in
    let (b, few', more) = torn_pairs size chunk m d' m' (ps ++ take a qs) (drop a qs) pos later torn.whole ln sure (between_all chunk d' (ps ++ take a qs) (drop a qs) pos (now ∙ sym whole)) in
    let first_only : ChangesOnly chunk n d m = torn_only size chunk n d d' m torn long only in
    let rest_only : ChangesOnly chunk n m m' = torn_only size chunk n m d' m' later torn.whole (only_on chunk n d m d' first_only only) in
    let behind : (pairs_of chunk m ++ take b (drop a qs)) ++ drop b (drop a qs) ≡ ps ++ qs =
    append_assoc (pairs_of chunk m) (take b (drop a qs)) (drop b (drop a qs)) ∙ ap (λ l. pairs_of chunk m ++ l) (take-append-drop b (drop a qs)) ∙ ap (λ l. l ++ drop a qs) first ∙ whole in
    store_saved chunk n o m m' (take b (drop a qs)) pos rest_only (more ∙ ap (λ l. l ++ take b (drop a qs)) (sym first))
    (λ k x lt. subst (λ (q : Pair). q.new ≢ n) (ap (λ (l : List Pair). get_or l k x) (sym behind) ∙ get_or_append_left (pairs_of chunk m ++ take b (drop a qs)) (drop b (drop a qs)) x k lt)
    (away k x (let len = ap length behind in omega (arith, len, lt, length-append (pairs_of chunk m ++ take b (drop a qs)) (drop b (drop a qs))))))
    (λ k x lt.
    (let short : k < length (drop a qs) = omega (arith, lt, length-take-le b (drop a qs) few') in
    let inside : a + k < length qs = omega (arith, short, length-drop a qs) in
    let at : get_or (take b (drop a qs)) k x ≡ get_or qs (a + k) x = get_or-take b (drop a qs) k x (omega (arith, lt, length-take-le b (drop a qs) few')) ∙ get_or-drop a qs k x in
    let named : (get_or qs (a + k) x).new ≢ n = subst (λ (q : Pair). q.new ≢ n) (get_or-append-add ps qs (a + k) x) (away (length ps + (a + k)) x (omega (arith, inside, length-append ps qs))) in
    subst (IsCopied chunk o m) (sym at) (copied_kept chunk n o d m (get_or qs (a + k) x) pos first_only named (copies (a + k) x inside))))

-- A store that is live later was live before, where it was at the beginning if it is at the end.
pub live_between : (size chunk : ℕ) (d d' m m' o om om' : List ℕ) → 0 < size → IsTorn size d d' m → IsTorn size m d' m' → (found_in (sector_at d' 0) ≡ Ok (Header chunk) → found_in (sector_at d 0) ≡ Ok (Header chunk))
    → IsLive chunk (record { origin = om'; store = m' }) → IsLive chunk (record { origin = om; store = m }) × IsLive chunk (record { origin = o; store = d })
live_between size chunk d d' m m' o om om' some torn later back live =
    let middle : found_in (sector_at d' 0) ≡ Ok (Header chunk) → found_in (sector_at m 0) ≡ Ok (Header chunk) = λ good. elim (torn.each 0 some) [ inl e ↦ ap found_in e ∙ back good | inr e ↦ ap found_in e ∙ good ] in
    let now : found_in (sector_at m 0) ≡ Ok (Header chunk) = elim (later.each 0 some) [ inl e ↦ sym (ap found_in e) ∙ live | inr e ↦ middle (sym (ap found_in e) ∙ live) ] in
    let first : found_in (sector_at d 0) ≡ Ok (Header chunk) = elim (torn.each 0 some) [ inl e ↦ sym (ap found_in e) ∙ now | inr e ↦ back (sym (ap found_in e) ∙ now) ] in
    (now, first)
