-- Snapshots that a call does not write: copies are started, marks taken away, or one is spoiled.
use Rattle.std.proofs.Common.{◌≡◌, ◌≢◌, ◌⊎◌, inl, inr, ℕ, zero, suc, ◌<◌, Bool, true, false, List, [], ◌∷◌, ◌++◌, length, get_or, set, map, refl, sym, ◌∙◌, ap, subst, arith, length-append}
use Rattle.std.specs.Prelude.{◌&&◌}
use Rattle.std.proofs.lemmas.Bool.{cases_Bool, cases_eq, cases_lt, false≢true, MatchBool-at_true, MatchBool-at_false}
use Rattle.std.proofs.lemmas.List.{length-map, length-set, get_or-map, get_or_default, get_or-set_other}
use Rattle.std.proofs.lemmas.Grind.{get_or-set_at}
use Rattle.std.proofs.Math.ListN.{get_or-append}
use Rattle.std.proofs.Math.Seq.{get_or-append_seam}
use Rattle.sector.specs.declared.pair.Pair.{Pair}
use Rattle.device.specs.Layers.{Layer}
use Rattle.in_flight.specs.declared.copies.ChunkCopy.{ChunkCopy}
use Rattle.in_flight.specs.declared.copies.Stage.TheVariants.{Waiting, Flushed}
use Rattle.in_flight.specs.declared.flights.Flight.{Flight}
use Rattle.snapshot.specs.Kept.{Kept}
use Rattle.snapshot.specs.Calls.{StartsAt, StartsMerging}
use Rattle.snapshot_list.specs.Starting.{starts_chunk, overflows_chunk, lacks_chunk, spoilt_of, unroomed, IsSavedIn, AreSavedIn}
use Rattle.snapshot_list.specs.MergeStarting.{IsNextSavedIn, AreNextSavedIn}
use Rattle.volume.specs.SnapLasting.{IsReady}
use Rattle.volume.proofs.LastOne.{IsLeft, Stays, Spoils, none_ready}

-- its device is the same, and so is all that losses speak of, but that it may be spoiled or lose copies
abbrev pub LeftBy : {B : Type 0} → Kept B → Kept B → Type 0
LeftBy s t = (t.device ≡ s.device) × IsLeft s t × (Stays s t ⊎ Spoils s t)

pub left_refl : {B : Type 0} (s : Kept B) → LeftBy s s
left_refl s = (refl, record { chunk = refl; current = refl; zeroed = refl; firm = refl; sure = refl; marked = refl; pairs = refl }, inl (refl, refl, refl, λ q r. r))

pub left_same : {B : Type 0} (s t : Kept B) → t ≡ s → LeftBy s t
left_same s t e = subst (LeftBy s) (sym e) (left_refl s)

-- after a spoil
pub left_spoilt : {B : Type 0} (s t : Kept B) → s.live ≡ true → t ≡ spoilt_of s → LeftBy s t
left_spoilt s t live e = subst (LeftBy s) (sym e) (
  refl,
  record { chunk = refl; current = refl; zeroed = refl; firm = refl; sure = refl; marked = refl; pairs = refl },
  inr (live, refl, refl, λ q r. none_ready [] q refl r),
)

-- its room for copies alone changed
pub left_room : {B : Type 0} (s t : Kept B) → unroomed t ≡ unroomed s → LeftBy s t
left_room s t e = (
  ap (λ (x : Kept _). x.device) e,
  record {
    chunk = ap (λ (x : Kept _). x.state.chunk) e;
    current = ap (λ (x : Kept _). x.state.current) e;
    zeroed = ap (λ (x : Kept _). x.state.zeroed) e;
    firm = ap (λ (x : Kept _). x.state.firm) e;
    sure = ap (λ (x : Kept _). x.state.sure) e;
    marked = ap (λ (x : Kept _). x.marked) e;
    pairs = ap (λ (x : Kept _). x.pairs) e;
  },
  inl (ap (λ (x : Kept _). x.live) e, ap (λ (x : Kept _). x.untried) e, ap (λ (x : Kept _). x.stale) e, λ q r. subst (λ cs. IsReady cs q) (ap (λ (x : Kept _). x.copies) e) r),
)

waiting_late : Waiting ≢ Flushed
waiting_late e = cc

-- a copy that waits is put behind the others
pub ready_push : (copies : List ChunkCopy) (p : ChunkCopy) (q : Pair) → p.stage ≢ Flushed → IsReady (copies ++ p ∷ []) q → IsReady copies q
ready_push copies p q not r = elim (cases_lt r.index (length copies)) [
  | inl lt ↦ record { index = r.index; copy = r.copy; within = lt; is = r.is ∙ get_or-append copies (p ∷ []) r.copy r.index lt; flushed = r.flushed; pair = r.pair }
  | inr from ↦ (let w = r.within in let last : r.index ≡ length copies = omega (arith, from, w, length-append copies (p ∷ [])) in
      let same : r.copy ≡ p = r.is ∙ ap (λ i. get_or (copies ++ p ∷ []) i r.copy) last ∙ get_or-append_seam copies p [] r.copy in
      absurd (not (ap (λ (c : ChunkCopy). c.stage) (sym same) ∙ r.flushed)))
]

module _ {B : Type 0} (contents : B → List ℕ) (layers : B → List Layer) where
  -- a copy is started
  pub left_starts : (p : ChunkCopy) (s t : Kept B) → p.stage ≡ Waiting → StartsAt contents layers p s t → LeftBy s t
  left_starts p s t stage e = (let f = e.fields in (
    ap (λ (x : Kept B). x.device) f,
    record { chunk = ap (λ (x : Kept B). x.state.chunk) f; current = ap (λ (x : Kept B). x.state.current) f; zeroed = ap (λ (x : Kept B). x.state.zeroed) f; firm = ap (λ (x : Kept B). x.state.firm) f; sure = ap (λ (x : Kept B). x.state.sure) f; marked = ap (λ (x : Kept B). x.marked) f; pairs = ap (λ (x : Kept B). x.pairs) f },
    inl (
      ap (λ (x : Kept B). x.live) f,
      ap (λ (x : Kept B). x.untried) f,
      ap (λ (x : Kept B). x.stale) f,
      λ q r. ready_push s.copies p q (λ far. waiting_late (sym stage ∙ far)) (subst (λ cs. IsReady cs q) (ap (λ (x : Kept B). x.copies) f) r),
    ),
  ))

  -- and one for a merge
  pub left_merging : (p : ChunkCopy) (s t : Kept B) → p.stage ≡ Waiting → StartsMerging contents layers p s t → LeftBy s t
  left_merging p s t stage e = (let f = e.fields in (
    ap (λ (x : Kept B). x.device) f,
    record { chunk = ap (λ (x : Kept B). x.state.chunk) f; current = ap (λ (x : Kept B). x.state.current) f; zeroed = ap (λ (x : Kept B). x.state.zeroed) f; firm = ap (λ (x : Kept B). x.state.firm) f; sure = ap (λ (x : Kept B). x.state.sure) f; marked = ap (λ (x : Kept B). x.marked) f; pairs = ap (λ (x : Kept B). x.pairs) f },
    inl (
      ap (λ (x : Kept B). x.live) f,
      ap (λ (x : Kept B). x.untried) f,
      ap (λ (x : Kept B). x.stale) f,
      λ q r. ready_push s.copies p q (λ far. waiting_late (sym stage ∙ far)) (subst (λ cs. IsReady cs q) (ap (λ (x : Kept B). x.copies) f) r),
    ),
  ))

  and_first : (a b : Bool) → (a && b) ≡ true → a ≡ true
  and_first true b e = refl
  and_first false b e = absurd (false≢true e)

  -- one that overflows is live
  over_lives : (c : ℕ) (s : Kept B) → overflows_chunk c s ≡ true → s.live ≡ true
  over_lives c s e = and_first s.live _ (and_first (s.live && _) _ (and_first (lacks_chunk c s) _ e))

  -- a write's copy in one
  pub left_saved : (c : ℕ) (s t : Kept B) (n m : ℕ) (fs gs : List Flight) → IsSavedIn contents layers c s t n m fs gs → LeftBy s t
  left_saved c s t n m fs gs e = elim (cases_Bool (starts_chunk c s)) [
    | inl does ↦ (let r = MatchBool-at_true _ _ does e in left_starts _ s t refl r.1)
    | inr not ↦ (let rest = MatchBool-at_false _ _ not e in elim (cases_Bool (overflows_chunk c s)) [
      | inl over ↦ (let r = MatchBool-at_true _ _ over rest in left_spoilt s t (over_lives c s over) r.0)
      | inr fits ↦ (let r = MatchBool-at_false _ _ fits rest in left_same s t r.0)
    ])
  ]

  pub left_next : (c : ℕ) (s t : Kept B) (n m : ℕ) (fs gs : List Flight) → IsNextSavedIn contents layers c s t n m fs gs → LeftBy s t
  left_next c s t n m fs gs e = elim (cases_Bool (starts_chunk c s)) [
    | inl does ↦ (let r = MatchBool-at_true _ _ does e in left_merging _ s t refl r.1)
    | inr not ↦ (let rest = MatchBool-at_false _ _ not e in elim (cases_Bool (overflows_chunk c s)) [
      | inl over ↦ (let r = MatchBool-at_true _ _ over rest in left_spoilt s t (over_lives c s over) r.0)
      | inr fits ↦ (let r = MatchBool-at_false _ _ fits rest in left_same s t r.0)
    ])
  ]

  -- and in all of a list
  pub all_saved : (at : Kept B → ℕ) (ss ts : List (Kept B)) (n m : ℕ) (fs gs : List Flight) → AreSavedIn contents layers at ss ts n m fs gs → (length ts ≡ length ss) × ((k : ℕ) (d e : Kept B) → k < length ss → LeftBy (get_or ss k d) (get_or ts k e))
  all_saved at [] [] n m fs gs h = (refl, λ k d e lt. absurd (omega (arith, lt)))
  all_saved at [] (t ∷ ts) n m fs gs h = absurd h
  all_saved at (s ∷ ss) [] n m fs gs h = absurd h
  all_saved at (s ∷ ss) (t ∷ ts) n m fs gs (k, hs, one, more) = (let rest = all_saved at ss ts k m hs gs more in (ap suc rest.0, λ i d e lt. by rest.1 i d e lt))
    where
      by : ((j : ℕ) (d e : Kept B) → j < length ss → LeftBy (get_or ss j d) (get_or ts j e)) → (i : ℕ) (d e : Kept B) → i < length (s ∷ ss) → LeftBy (get_or (s ∷ ss) i d) (get_or (t ∷ ts) i e)
      by rest zero d e lt = left_saved (at s) s t n k fs hs one
      by rest (suc i) d e lt = rest i d e (omega (arith, lt))

  pub all_next : (at : Kept B → ℕ) (ss ts : List (Kept B)) (n m : ℕ) (fs gs : List Flight) → AreNextSavedIn contents layers at ss ts n m fs gs → (length ts ≡ length ss) × ((k : ℕ) (d e : Kept B) → k < length ss → LeftBy (get_or ss k d) (get_or ts k e))
  all_next at [] [] n m fs gs h = (refl, λ k d e lt. absurd (omega (arith, lt)))
  all_next at [] (t ∷ ts) n m fs gs h = absurd h
  all_next at (s ∷ ss) [] n m fs gs h = absurd h
  all_next at (s ∷ ss) (t ∷ ts) n m fs gs (k, hs, one, more) = (let rest = all_next at ss ts k m hs gs more in (ap suc rest.0, λ i d e lt. by rest.1 i d e lt))
    where
      by : ((j : ℕ) (d e : Kept B) → j < length ss → LeftBy (get_or ss j d) (get_or ts j e)) → (i : ℕ) (d e : Kept B) → i < length (s ∷ ss) → LeftBy (get_or (s ∷ ss) i d) (get_or (t ∷ ts) i e)
      by rest zero d e lt = left_next (at s) s t n k fs hs one
      by rest (suc i) d e lt = rest i d e (omega (arith, lt))

-- one after another
pub left_then : {B : Type 0} (s t u : Kept B) → LeftBy s t → LeftBy t u → LeftBy s u
left_then s t u a b = (
  b.0 ∙ a.0,
  record { chunk = b.1.chunk ∙ a.1.chunk; current = b.1.current ∙ a.1.current; zeroed = b.1.zeroed ∙ a.1.zeroed; firm = b.1.firm ∙ a.1.firm; sure = b.1.sure ∙ a.1.sure; marked = b.1.marked ∙ a.1.marked; pairs = b.1.pairs ∙ a.1.pairs },
  elim a.2 [
    | inl st ↦ elim b.2 [
      | inl su ↦ inl (su.0 ∙ st.0, su.1 ∙ st.1, su.2 ∙ st.2, λ q r. st.3 q (su.3 q r))
      | inr sp ↦ inr (sym st.0 ∙ sp.0, sp.1, sp.2, sp.3)
    ]
    | inr sp ↦ elim b.2 [
      | inl su ↦ inr (sp.0, su.0 ∙ sp.1, su.1 ∙ sp.2, λ q r. sp.3 q (su.3 q r))
      | inr again ↦ absurd (false≢true (sym sp.1 ∙ again.0))
    ]
  ],
)

-- lists whose snapshots are left so, one by one
abbrev pub AllLeft : {B : Type 0} → List (Kept B) → List (Kept B) → Type 0
AllLeft ss ts = (length ts ≡ length ss) × ((k : ℕ) (d e : Kept _) → k < length ss → LeftBy (get_or ss k d) (get_or ts k e))

pub all_rooms : {B : Type 0} (ss ts : List (Kept B)) → map unroomed ts ≡ map unroomed ss → AllLeft ss ts
all_rooms ss ts e = (
  (let n = ap length e in omega (arith, n, length-map ts unroomed, length-map ss unroomed)),
  λ k d x lt. (let n = ap length e in
      let lt' : k < length ts = omega (arith, lt, n, length-map ts unroomed, length-map ss unroomed) in
      left_room (get_or ss k d) (get_or ts k x) (sym (get_or-map unroomed ts k x (unroomed d) lt') ∙ ap (λ zs. get_or zs k (unroomed d)) e ∙ get_or-map unroomed ss k d (unroomed d) lt)),
)

pub all_then : {B : Type 0} (ss ts us : List (Kept B)) → AllLeft ss ts → AllLeft ts us → AllLeft ss us
all_then ss ts us a b = (b.0 ∙ a.0, λ k d e lt. left_then (get_or ss k d) (get_or ts k d) (get_or us k e) (a.1 k d d lt) (b.1 k d e (let n = a.0 in omega (arith, lt, n))))

pub all_same : {B : Type 0} (ss ts : List (Kept B)) → ts ≡ ss → AllLeft ss ts
all_same ss ts e = (ap length e, λ k d x lt. left_same (get_or ss k d) (get_or ts k x) (ap (λ zs. get_or zs k x) e ∙ get_or_default ss k x d lt))

-- one of a list is left so, and the others are as they were
pub one_left : {B : Type 0} (ss : List (Kept B)) (k : ℕ) (s s' : Kept B) → k < length ss → s ≡ get_or ss k s → LeftBy s s' → AllLeft ss (set ss k s')
one_left ss k s s' within is left = (
  length-set ss k s',
  λ j d e lt. elim (cases_eq j k) [
    | inl at ↦ (let x : get_or ss j d ≡ s = ap (λ i. get_or ss i d) at ∙ get_or_default ss k d s within ∙ sym is in
        subst (λ z. LeftBy z (get_or (set ss k s') j e)) (sym x) (subst (LeftBy s) (sym (get_or-set_at ss k j s' e at within)) left))
    | inr ne ↦ left_same (get_or ss j d) (get_or (set ss k s') j e) (get_or-set_other ss k j s' e ne ∙ get_or_default ss j e d lt)
  ],
)
