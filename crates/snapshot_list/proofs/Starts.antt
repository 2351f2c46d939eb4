-- Room is made in one snapshot after another, and copies are started in one after another.
use Rattle.std.proofs.Common.{◌≡◌, inl, inr, ℕ, suc, ◌+◌, ◌*◌, ◌/◌, ◌%◌, ◌<◌, ◌≤◌, List, [], ◌∷◌, ◌++◌, length, get_or, set, map, take, take_all, drop, true, false, refl, sym, ◌∙◌, ap, subst, arith, length-append}
use Rattle.std.specs.Global.{Vec}
use Rattle.std.proofs.lemmas.Bool.{cases_eq, cases_Bool, le-ltb, MatchBool-at_true, MatchBool-at_false}
use Rattle.std.proofs.lemmas.List.{get_or-set_same, get_or-set_other, get_or_append_left, get_or-append-add, get_or-drop, drop-set-lt, get_or_default}
use Rattle.std.proofs.lemmas.Nat.{div-add-mod'}
use Rattle.std.proofs.lemmas.Grind.{drop_more_same}
use Rattle.std.proofs.Math.Seq.{map-set_same, take-suc-set, take-suc}
use Rattle.device.specs.Layers.{Layer}
use Rattle.in_flight.specs.declared.flights.Flight.{Flight}
use Rattle.snapshot.specs.Kept.{Kept}
use Rattle.snapshot.specs.Calls.{StartsAt, started}
use Rattle.snapshot_list.specs.Starting.{unroomed, HasRoomFor, HaveRooms, IsSavedIn, AreSavedIn, lacks, lacks_chunk, starts_chunk, overflows_chunk, is_full_of}

-- a chunk begins at its sector or before it
pub own_begins : (p first : ℕ) → p * (first / p) ≤ first
own_begins p first =
    let whole : first / p * p + first % p ≡ first = div-add-mod' first p in
    let turned : first / p * p ≡ p * (first / p) = grind arith in
    omega (arith, whole, turned)

pub unroomed_set : {B : Type 0} (snaps : List (Kept B)) (k : ℕ) (s t : Kept B) → s ≡ get_or snaps k s → unroomed t ≡ unroomed s → map unroomed (set snaps k t) ≡ map unroomed snaps
unroomed_set snaps k s t is same = map-set_same unroomed snaps k t s (same ∙ ap unroomed is)

-- room of some bytes is there only where the chunk is lacking
pub lacks_by : {B : Type 0} (first : ℕ) (s : Kept B) (room : Vec ℕ) → HasRoomFor first s room → (length room.items ≡ 0 → ⊥) → lacks first s ≡ true
lacks_by first s room h some = elim (cases_Bool (lacks first s)) [
  | inl lacking ↦ lacking
  | inr has ↦ absurd (some (h.none has))
]

-- the first snapshots have room
pub record HaveRoomBelow {B : Type 0} (first k : ℕ) (snaps : List (Kept B)) (rooms : List (Vec ℕ)) : Type 0 where
  pub len : length rooms ≡ k
  pub each : (j : ℕ) (d : Kept B) (e : Vec ℕ) → j < k → HasRoomFor first (get_or snaps j d) (get_or rooms j e)

pub rooms_none : {B : Type 0} (first : ℕ) (snaps : List (Kept B)) → HaveRoomBelow first 0 snaps []
rooms_none first snaps = record { len = refl; each = λ j d e lt. absurd (omega (arith, lt)) }

pub rooms_more : {B : Type 0} (first k : ℕ) (snaps : List (Kept B)) (rooms : List (Vec ℕ)) (t : Kept B) (room : Vec ℕ) → HaveRoomBelow first k snaps rooms → k < length snaps → HasRoomFor first t room → HaveRoomBelow first (k + 1) (set snaps k t) (rooms ++ room ∷ [])
rooms_more first k snaps rooms t room h within has = record {
  len = length-append rooms (room ∷ []) ∙ ap (λ n. n + 1) h.len;
  each = λ j d e lt. elim (cases_eq j k) [
    | inl same ↦
        (let one : get_or (set snaps k t) j d ≡ t = ap (λ i. get_or (set snaps k t) i d) same ∙ get_or-set_same snaps k t d within in
        let at : j ≡ length rooms + 0 = omega (arith, same, h.len) in
        let two : get_or (rooms ++ room ∷ []) j e ≡ room = ap (λ i. get_or (rooms ++ room ∷ []) i e) at ∙ get_or-append-add rooms (room ∷ []) 0 e in
        subst (λ (x : Kept _). HasRoomFor first x (get_or (rooms ++ room ∷ []) j e)) (sym one) (subst (HasRoomFor first t) (sym two) has))
    | inr other ↦
        (let below : j < length rooms = omega (arith, lt, other, h.len) in
        subst (λ (x : Kept _). HasRoomFor first x (get_or (rooms ++ room ∷ []) j e)) (sym (get_or-set_other snaps k j t d other))
        (subst (HasRoomFor first (get_or snaps j d)) (sym (get_or_append_left rooms (room ∷ []) e j below)) (h.each j d e (omega (arith, lt, other)))))
  ];
}

pub rooms_done : {B : Type 0} (first k : ℕ) (snaps : List (Kept B)) (rooms : List (Vec ℕ)) → HaveRoomBelow first k snaps rooms → k ≡ length snaps → HaveRooms first snaps rooms
rooms_done first k snaps rooms h whole = record { len = h.len ∙ whole; each = λ j d e lt. h.each j d e (omega (arith, lt, whole)) }

module _ {B : Type 0} (contents : B → List ℕ) (layers : B → List Layer) where
  -- a copy is started
  pub saved_started : (c : ℕ) (s t : Kept B) (n : ℕ) (fs : List Flight) (buffer : Vec ℕ) → lacks_chunk c s ≡ true → s.state.chunk * (s.next + 1) ≤ s.state.size → StartsAt contents layers (started (n + 1) c s.next buffer) s t → IsSavedIn contents layers c s t n (n + 1) fs fs
  saved_started c s t n fs buffer lacking fits at =
      let room : is_full_of s ≡ false = le-ltb s.state.size (s.state.chunk * (s.next + 1)) fits in
      let begins : starts_chunk c s ≡ true = rw (lacking, room) refl in
      rw begins (buffer, at, refl, refl)

  -- at most one number is given
  pub saved_step : (c : ℕ) (s t : Kept B) (n m : ℕ) (fs gs : List Flight) → IsSavedIn contents layers c s t n m fs gs → m ≤ n + 1
  saved_step c s t n m fs gs e = elim (cases_Bool (starts_chunk c s)) [
    | inl begins ↦ (let (buffer, at, m_is, g) = MatchBool-at_true _ _ begins e in omega (arith, m_is))
    | inr unsaid ↦ elim (cases_Bool (overflows_chunk c s)) [
      | inl over ↦ (let (same, m_is, g) = MatchBool-at_true _ _ over (MatchBool-at_false _ _ unsaid e) in omega (arith, m_is))
      | inr fine ↦ (let (same, m_is, g) = MatchBool-at_false _ _ fine (MatchBool-at_false _ _ unsaid e) in omega (arith, m_is))
    ]
  ]

  module _ (at : Kept B → ℕ) where
    pub saved_push : (ss ts : List (Kept B)) (s t : Kept B) (n m k : ℕ) (fs gs hs : List Flight) → AreSavedIn contents layers at ss ts n m fs gs → IsSavedIn contents layers (at s) s t m k gs hs → AreSavedIn contents layers at (ss ++ s ∷ []) (ts ++ t ∷ []) n k fs hs
    saved_push [] [] s t n m k fs gs hs (m_is, g_is) one =
        (k, hs, subst (λ (x : ℕ). IsSavedIn contents layers (at s) s t x k fs hs) m_is (subst (λ (x : List Flight). IsSavedIn contents layers (at s) s t m k x hs) g_is one), (refl, refl))
    saved_push [] (y ∷ ts) s t n m k fs gs hs e one = absurd e
    saved_push (x ∷ ss) [] s t n m k fs gs hs e one = absurd e
    saved_push (x ∷ ss) (y ∷ ts) s t n m k fs gs hs (n', fs', begun, rest) one = (n', fs', begun, saved_push ss ts s t n' m k fs' gs hs rest one)

    -- so far: the snapshots before place k are as they become, the others as they were
    pub record IsSavedBelow (k : ℕ) (olds news : List (Kept B)) (n m : ℕ) (fs gs : List Flight) : Type 0 where
      pub saved : AreSavedIn contents layers at (take k olds) (take k news) n m fs gs
      pub rest : drop k news ≡ drop k olds
      pub few : m ≤ n + k

    pub saved_none : (olds : List (Kept B)) (n : ℕ) (fs : List Flight) → IsSavedBelow 0 olds olds n n fs fs
    saved_none olds n fs = record { saved = (refl, refl); rest = refl; few = omega arith }

    pub saved_here : (k : ℕ) (olds news : List (Kept B)) (n m : ℕ) (fs gs : List Flight) (d : Kept B) → IsSavedBelow k olds news n m fs gs → get_or news k d ≡ get_or olds k d
    saved_here k olds news n m fs gs d h =
        let place : k ≡ k + 0 = omega arith in
        ap (λ i. get_or news i d) place ∙ sym (get_or-drop k news 0 d) ∙ ap (λ xs. get_or xs 0 d) h.rest ∙ get_or-drop k olds 0 d ∙ ap (λ i. get_or olds i d) (sym place)

    pub saved_more : (k : ℕ) (olds news : List (Kept B)) (s t : Kept B) (n m m' : ℕ) (fs gs hs : List Flight) → k < length olds → length news ≡ length olds → s ≡ get_or olds k s → IsSavedBelow k olds news n m fs gs → IsSavedIn contents layers (at s) s t m m' gs hs → m' ≤ m + 1
        → IsSavedBelow (k + 1) olds (set news k t) n m' fs hs
    saved_more k olds news s t n m m' fs gs hs within len is h one step =
        let inside : k < length news = omega (arith, within, len) in
        let up : suc k ≡ k + 1 = omega arith in
        let front : take (k + 1) olds ≡ take k olds ++ s ∷ [] = ap (λ i. take i olds) (sym up) ∙ take-suc olds k s within ∙ ap (λ x. take k olds ++ x ∷ []) (sym is) in
        let back : take (k + 1) (set news k t) ≡ take k news ++ t ∷ [] = ap (λ i. take i (set news k t)) (sym up) ∙ take-suc-set news k t inside in
        record {
          saved = subst (λ (x : List (Kept B)). AreSavedIn contents layers at x (take (k + 1) (set news k t)) n m' fs hs) (sym front)
              (subst (λ (x : List (Kept B)). AreSavedIn contents layers at (take k olds ++ s ∷ []) x n m' fs hs) (sym back) (saved_push (take k olds) (take k news) s t n m m' fs gs hs h.saved one));
          rest = drop-set-lt (k + 1) news k t (omega arith) ∙ drop_more_same news olds k h.rest;
          few = omega (arith, h.few, step);
        }

    -- all are
    pub saved_all : (k : ℕ) (olds news : List (Kept B)) (n m : ℕ) (fs gs : List Flight) → length olds ≤ k → length news ≤ k → IsSavedBelow k olds news n m fs gs → AreSavedIn contents layers at olds news n m fs gs
    saved_all k olds news n m fs gs whole len h =
        subst (λ (x : List (Kept B)). AreSavedIn contents layers at x news n m fs gs) (take_all k olds whole) (subst (λ (x : List (Kept B)). AreSavedIn contents layers at (take k olds) x n m fs gs) (take_all k news len) h.saved)

-- an element as its own default
pub element_is : {X : Type 0} (xs : List X) (k : ℕ) (d : X) → k < length xs → get_or xs k d ≡ get_or xs k (get_or xs k d)
element_is xs k d lt = get_or_default xs k d (get_or xs k d) lt
