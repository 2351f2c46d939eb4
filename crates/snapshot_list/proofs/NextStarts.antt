-- The copies for a merge are started in one snapshot after another.
use Rattle.std.proofs.Common.{◌≡◌, inl, inr, ℕ, zero, suc, ◌+◌, ◌*◌, ◌/◌, ◌<◌, ◌≤◌, Bool, List, [], ◌∷◌, ◌++◌, length, get_or, set, take, drop, true, false, refl, sym, ◌∙◌, ap, subst, arith, nat_eq}
use Rattle.std.specs.Prelude.{Option, Some, None}
use Rattle.std.specs.List.{All, list_any}
use Rattle.std.specs.Global.{Vec}
use Rattle.std.proofs.lemmas.Bool.{cases_Bool, cond-true, cond-false, false≢true, le-ltb, MatchBool-at_true, MatchBool-at_false, ne_eqb}
use Rattle.std.proofs.lemmas.List.Elements.{All-weaker, All-head, All-tail}
use Rattle.std.proofs.lemmas.List.Folds.{list_any_none}
use Rattle.std.proofs.lemmas.List.{get_or-drop, drop-set-lt}
use Rattle.std.proofs.lemmas.Grind.{drop_more_same}
use Rattle.std.proofs.Math.Seq.{take-suc-set, take-suc}
use Rattle.std.specs.Option.{is_some, unwrap_or}
use Rattle.chunk.specs.Pieces.{touched, chunks_over}
use Rattle.chunk.proofs.Chunks.{chunk_begins}
use Rattle.chunk.proofs.Over.{touches}
use Rattle.device.specs.Layers.{Layer}
use Rattle.in_flight.specs.Due.{first_by}
use Rattle.volume_laws.proofs.Nexts.{span, touched_all}
use Rattle.in_flight.specs.declared.copies.ChunkCopy.{ChunkCopy}
use Rattle.in_flight.specs.declared.flights.Flight.{Flight}
use Rattle.snapshot.specs.Kept.{Kept}
use Rattle.snapshot.specs.Calls.{StartsMerging, started}
use Rattle.snapshot_list.specs.Starting.{lacks_chunk, starts_chunk, overflows_chunk, is_full_of, next_chunk_of}
use Rattle.snapshot_list.specs.MergeStarting.{KeepsRoomFor, IsNextSavedIn, AreNextSavedIn, LacksAtMost}

module _ {B : Type 0} (contents : B → List ℕ) (layers : B → List Layer) where
  -- no number is taken back
  pub saved_given : (c : ℕ) (s t : Kept B) (n m : ℕ) (fs gs : List Flight) → IsNextSavedIn contents layers c s t n m fs gs → n ≤ m
  saved_given c s t n m fs gs e = elim (cases_Bool (starts_chunk c s)) [
    | inl begins ↦ (let (buffer, at, m_is, g) = MatchBool-at_true _ _ begins e in omega (arith, m_is))
    | inr unsaid ↦ elim (cases_Bool (overflows_chunk c s)) [
      | inl over ↦ (let (same, m_is, g) = MatchBool-at_true _ _ over (MatchBool-at_false _ _ unsaid e) in omega (arith, m_is))
      | inr fine ↦ (let (same, m_is, g) = MatchBool-at_false _ _ fine (MatchBool-at_false _ _ unsaid e) in omega (arith, m_is))
    ]
  ]

  -- a copy is started
  pub saved_started : (c : ℕ) (s t : Kept B) (n : ℕ) (fs : List Flight) (buffer : Vec ℕ) → lacks_chunk c s ≡ true → s.state.chunk * (s.next + 1) ≤ s.state.size → StartsMerging contents layers (started (n + 1) c s.next buffer) s t → IsNextSavedIn contents layers c s t n (n + 1) fs fs
  saved_started c s t n fs buffer lacking fits at =
      let room : is_full_of s ≡ false = le-ltb s.state.size (s.state.chunk * (s.next + 1)) fits in
      let begins : starts_chunk c s ≡ true = rw (lacking, room) refl in
      rw begins (buffer, at, refl, refl)

  -- nothing is done where nothing is lacking
  pub saved_has : (c : ℕ) (s : Kept B) (n : ℕ) (fs : List Flight) → lacks_chunk c s ≡ false → IsNextSavedIn contents layers c s s n n fs fs
  saved_has c s n fs has =
      let begins : starts_chunk c s ≡ false = rw has refl in
      let over : overflows_chunk c s ≡ false = rw has refl in
      rw (begins, over) (refl, refl, refl)

  -- no copy is started while one of the merge's is under way
  pub saved_busy : (c : ℕ) (s : Kept B) (n copies : ℕ) (fs : List Flight) → KeepsRoomFor c copies s → is_some s.merging ≡ true → IsNextSavedIn contents layers c s s n n fs fs
  saved_busy c s n copies fs room busy = elim (cases_Bool (lacks_chunk c s)) [
    | inl lacking ↦ absurd (false≢true (sym (ap is_some (room.idle lacking)) ∙ busy))
    | inr has ↦ saved_has c s n fs has
  ]

  -- at most one number is given
  pub saved_step : (c : ℕ) (s t : Kept B) (n m : ℕ) (fs gs : List Flight) → IsNextSavedIn contents layers c s t n m fs gs → m ≤ n + 1
  saved_step c s t n m fs gs e = elim (cases_Bool (starts_chunk c s)) [
    | inl begins ↦ (let (buffer, at, m_is, g) = MatchBool-at_true _ _ begins e in omega (arith, m_is))
    | inr unsaid ↦ elim (cases_Bool (overflows_chunk c s)) [
      | inl over ↦ (let (same, m_is, g) = MatchBool-at_true _ _ over (MatchBool-at_false _ _ unsaid e) in omega (arith, m_is))
      | inr fine ↦ (let (same, m_is, g) = MatchBool-at_false _ _ fine (MatchBool-at_false _ _ unsaid e) in omega (arith, m_is))
    ]
  ]

  module _ (at : Kept B → ℕ) where
    pub saved_push : (ss ts : List (Kept B)) (s t : Kept B) (n m k : ℕ) (fs gs hs : List Flight) → AreNextSavedIn contents layers at ss ts n m fs gs → IsNextSavedIn contents layers (at s) s t m k gs hs → AreNextSavedIn contents layers at (ss ++ s ∷ []) (ts ++ t ∷ []) n k fs hs
    saved_push [] [] s t n m k fs gs hs (m_is, g_is) one =
        (k, hs, subst (λ (x : ℕ). IsNextSavedIn contents layers (at s) s t x k fs hs) m_is (subst (λ (x : List Flight). IsNextSavedIn contents layers (at s) s t m k x hs) g_is one), (refl, refl))
    saved_push [] (y ∷ ts) s t n m k fs gs hs e one = absurd e
    saved_push (x ∷ ss) [] s t n m k fs gs hs e one = absurd e
    saved_push (x ∷ ss) (y ∷ ts) s t n m k fs gs hs (n', fs', begun, rest) one = (n', fs', begun, saved_push ss ts s t n' m k fs' gs hs rest one)

    -- so far: the snapshots before place k are as they become, the others as they were
    pub record IsNextSavedBelow (k : ℕ) (olds news : List (Kept B)) (n m : ℕ) (fs gs : List Flight) : Type 0 where
      pub saved : AreNextSavedIn contents layers at (take k olds) (take k news) n m fs gs
      pub rest : drop k news ≡ drop k olds
      pub few : m ≤ n + k
      pub more : n ≤ m

    pub saved_none : (olds : List (Kept B)) (n : ℕ) (fs : List Flight) → IsNextSavedBelow 0 olds olds n n fs fs
    saved_none olds n fs = record { saved = (refl, refl); rest = refl; few = omega arith; more = omega arith }

    pub saved_here : (k : ℕ) (olds news : List (Kept B)) (n m : ℕ) (fs gs : List Flight) (d : Kept B) → IsNextSavedBelow k olds news n m fs gs → get_or news k d ≡ get_or olds k d
    saved_here k olds news n m fs gs d h =
        let place : k ≡ k + 0 = omega arith in
        ap (λ i. get_or news i d) place ∙ sym (get_or-drop k news 0 d) ∙ ap (λ xs. get_or xs 0 d) h.rest ∙ get_or-drop k olds 0 d ∙ ap (λ i. get_or olds i d) (sym place)

    pub saved_more : (k : ℕ) (olds news : List (Kept B)) (s t : Kept B) (n m m' : ℕ) (fs gs hs : List Flight) → k < length olds → length news ≡ length olds → s ≡ get_or olds k s → IsNextSavedBelow k olds news n m fs gs → IsNextSavedIn contents layers (at s) s t m m' gs hs → m' ≤ m + 1
        → IsNextSavedBelow (k + 1) olds (set news k t) n m' fs hs
    saved_more k olds news s t n m m' fs gs hs within len is h one step =
        let inside : k < length news = omega (arith, within, len) in
        let up : suc k ≡ k + 1 = omega arith in
        let front : take (k + 1) olds ≡ take k olds ++ s ∷ [] = ap (λ i. take i olds) (sym up) ∙ take-suc olds k s within ∙ ap (λ x. take k olds ++ x ∷ []) (sym is) in
        let back : take (k + 1) (set news k t) ≡ take k news ++ t ∷ [] = ap (λ i. take i (set news k t)) (sym up) ∙ take-suc-set news k t inside in
        record {
          saved = subst (λ (x : List (Kept B)). AreNextSavedIn contents layers at x (take (k + 1) (set news k t)) n m' fs hs) (sym front)
              (subst (λ (x : List (Kept B)). AreNextSavedIn contents layers at (take k olds ++ s ∷ []) x n m' fs hs) (sym back) (saved_push (take k olds) (take k news) s t n m m' fs gs hs h.saved one));
          rest = drop-set-lt (k + 1) news k t (omega arith) ∙ drop_more_same news olds k h.rest;
          few = omega (arith, h.few, step);
          more = omega (arith, h.more, saved_given (at s) s t m m' gs hs one);
        }

    -- where all but the one at a place lack nothing
    still : (ss : List (Kept B)) (n : ℕ) (fs : List Flight) → All (λ s. lacks_chunk (at s) s ≡ false) ss → AreNextSavedIn contents layers at ss ss n n fs fs
    still [] n fs has = (refl, refl)
    still (s ∷ ss) n fs has = (n, fs, saved_has (at s) s n fs (has 0 s (omega arith)), still ss n fs (λ j d lt. has (suc j) d (omega (arith, lt))))

    pub saved_only : (place : ℕ) (ss : List (Kept B)) (s t : Kept B) (n m : ℕ) (fs gs : List Flight) → place < length ss → s ≡ get_or ss place s → LacksAtMost at place ss → IsNextSavedIn contents layers (at s) s t n m fs gs
        → AreNextSavedIn contents layers at ss (set ss place t) n m fs gs
    saved_only place [] s t n m fs gs within is others one = absurd (omega (arith, within))
    saved_only zero (x ∷ ss) s t n m fs gs within is others one =
        (m, gs, subst (λ (y : Kept B). IsNextSavedIn contents layers (at y) y t n m fs gs) is one, still ss m gs (λ j d lt. others (suc j) d (omega (arith, lt)) (omega arith)))
    saved_only (suc place) (x ∷ ss) s t n m fs gs within is others one =
        (n, fs, saved_has (at x) x n fs (others 0 x (omega arith) (omega arith)), saved_only place ss s t n m fs gs (omega (arith, within)) is (λ j d lt ne. others (suc j) d (omega (arith, lt)) (omega (arith, ne))) one)

-- no copy has a number that was not given
pub not_given : (n : ℕ) (ps : List ChunkCopy) → All (λ p. p.number ≤ n) ps → list_any (λ p. nat_eq p.number (n + 1)) ps ≡ false
not_given n ps below = list_any_none (λ p. nat_eq p.number (n + 1)) ps (All-weaker (λ p. p.number ≤ n) (λ p. nat_eq p.number (n + 1) ≡ false) (λ p le. ne_eqb p.number (n + 1) (λ e. absurd (omega (arith, le, e)))) ps below)

-- room is kept for the copy also where more numbers were given
pub room_later : {B : Type 0} (c n m : ℕ) (s : Kept B) → n ≤ m → KeepsRoomFor c n s → KeepsRoomFor c m s
room_later c n m s le h = record { some = h.some; spare = h.spare; idle = h.idle; given = λ i d lt. (let below = h.given i d lt in omega (arith, below, le)) }

-- what all have, the first that passes has
first_holds : (P : ℕ → Type 0) (test : ℕ → Bool) (xs : List ℕ) (c : ℕ) → All P xs → first_by test (λ n. n) xs ≡ Some c → P c
first_holds P test [] c all is = (let none : None ≡ Some c = is in absurd cc)
first_holds P test (x ∷ xs) c all is = elim (cases_Bool (test x)) [
  | inl here ↦ subst P (some_same x c (sym (cond-true _ _ _ here) ∙ is)) (All-head P x xs all)
  | inr other ↦ first_holds P test xs c (All-tail P x xs all) (sym (cond-false _ _ _ other) ∙ is)
]
  where
    some_same : (m n : ℕ) → Some m ≡ Some n → m ≡ n
    some_same m n e = cc

-- the chunk that comes next begins before the end of the sectors that touch it
pub next_begins : (test : ℕ → Bool) (chunk first count : ℕ) → 0 < chunk → 0 < count → chunk * unwrap_or (first_by test (λ n. n) (chunks_over chunk first count)) (first / chunk) < first + count
next_begins test chunk first count some full = at (first_by test (λ n. n) (chunks_over chunk first count)) refl
  where
    begins : (c : ℕ) → first / chunk ≤ c → c < first / chunk + touched chunk (span first count) → chunk * c < first + count
    begins c from to =
        let (i, lt, is) = touches chunk (span first count) c some full from to in
        let low = chunk_begins chunk (first + i) in
        let e = ap (λ n. chunk * n) is in
        omega (arith, low, e, lt)

    at : (o : Option ℕ) → first_by test (λ n. n) (chunks_over chunk first count) ≡ o → chunk * unwrap_or o (first / chunk) < first + count
    at None is = (let low = chunk_begins chunk first in omega (arith, low, full))
    at (Some c) is = first_holds (λ n. chunk * n < first + count) test (chunks_over chunk first count) c (touched_all (λ n. chunk * n < first + count) chunk first count begins) is

-- the chunks that come next, of the same sectors
pub next_same : {B : Type 0} (first first' count count' : ℕ) → first ≡ first' → count ≡ count' → next_chunk_of {B = B} first count ≡ next_chunk_of first' count'
next_same first first' count count' f c = ap (λ n. next_chunk_of n count) f ∙ ap (next_chunk_of first') c
