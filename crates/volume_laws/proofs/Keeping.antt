-- The copies' events keep each held request's reason.
use Rattle.std.proofs.Common.{◌≡◌, ◌≢◌, ◌⊎◌, inl, inr, ℕ, zero, suc, ◌+◌, ◌/◌, ◌<◌, Bool, true, false, List, [], ◌∷◌, ◌++◌, Option, Some, None, length, get_or, set, map, take, drop, refl, sym, ◌∙◌, ap, subst, arith, length-append, nat_eq, eq-eqb, ne_eqb}
use Rattle.std.specs.Prelude.{◌||◌, not, Any}
use Rattle.std.specs.List.{All, list_any}
use Rattle.std.specs.Option.{is_some}
use Rattle.std.proofs.lemmas.Bool.{cases_Bool, cases_eq, false≢true, eqb-true}
use Rattle.std.proofs.lemmas.List.{get_or-set_same, get_or-set_other, length-set, get_or_default, get_or_append_left, get_or-append-add, take-append-drop, take-map}
use Rattle.std.proofs.lemmas.List.Elements.{All-weaker}
use Rattle.std.proofs.lemmas.List.Folds.{list_any_none}
use Rattle.sector.specs.declared.pair.Pair.{Pair}
use Rattle.cow_format.specs.Picture.{place_of}
use Rattle.in_flight.specs.Copies.{pair_of}
use Rattle.in_flight.specs.Flushed.{flushed_copy, safe_mark}
use Rattle.in_flight.specs.declared.copies.ChunkCopy.{ChunkCopy}
use Rattle.in_flight.specs.declared.copies.Mark.{Mark}
use Rattle.in_flight.specs.declared.flights.Flight.{Flight}
use Rattle.volume_laws.specs.Books.{SnapBooks}
use Rattle.volume_laws.specs.Published.{IsPublished, is_published}
use Rattle.volume_laws.specs.Held.{LiveHolds}
use Rattle.volume_laws.specs.Steps.{IsSame, ReadsCopy, WritesCopy, ZeroesArea, Commits, FlushesStore, WritesMark, StartsCopy, CopyGoesOn, mark_of}
use Rattle.volume_laws.proofs.Lists.{All-front, All-back}
use Rattle.volume_laws.proofs.Pairs.{place_of-front_kept, place_of-whole_none, some_ne_none}
use Rattle.volume_laws.proofs.Clear.{published_true}
use Rattle.volume_laws.proofs.Flushing.{any_mapped, is_published_flushed}
use Rattle.volume_laws.proofs.Waiting.{KeepsWaiting}

abbrev pub Copies : ℕ → List ChunkCopy → Type 0
Copies c copies = Any (λ (p : ChunkCopy). p.pair.old ≡ c) copies

abbrev Marks : ℕ → List Mark → Type 0
Marks c marks = Any (λ (m : Mark). m.chunk ≡ c) marks

-- an event that leaves the pairs and the marks, and no copy fewer
keeps_by : (s s' : SnapBooks) → IsSame s s' → s'.pairs ≡ s.pairs → s'.marks ≡ s.marks → ((c : ℕ) → Copies c s.copies → Copies c s'.copies) → KeepsWaiting s s'
keeps_by s s' same pairs marks copies = record {
  number = same.number;
  live = same.live;
  untried = same.untried;
  chunk = same.chunk;
  unsaved = λ first e. ap (λ l. not l || is_published s'.pairs s'.marks (first / s'.chunk)) same.live ∙ ap (λ ps. not s.live || is_published ps s'.marks (first / s'.chunk)) pairs
      ∙ ap (λ ms. not s.live || is_published s.pairs ms (first / s'.chunk)) marks ∙ ap (λ n. not s.live || is_published s.pairs s.marks (first / n)) same.chunk ∙ e;
  saving = λ c e. elim e [
    | inl placed ↦ inl (λ none. placed (ap (λ ps. place_of ps c) (sym pairs) ∙ none))
    | inr any ↦ inr (copies c any)
  ];
  copying = λ c e. elim e [
    | inl any ↦ inl (copies c any)
    | inr both ↦ inr ((λ none. both.0 (ap (λ ps. place_of ps c) (sym pairs) ∙ none)), subst (Marks c) (sym marks) both.1)
  ];
}

pub any_set : (P : ChunkCopy → Type 0) (xs : List ChunkCopy) (k : ℕ) (p q : ChunkCopy) → k < length xs → p ≡ get_or xs k p → (P p → P q) → Any P xs → Any P (set xs k q)
any_set P xs k p q within is keeps (j, x, lt, x_is, holds) = elim (cases_eq j k) [
  | inl same ↦ (let at : x ≡ p = sym x_is ∙ ap (λ i. get_or xs i x) same ∙ get_or_default xs k x p within ∙ sym is in
      (k, q, omega (arith, within, length-set xs k q), get_or-set_same xs k q q within, keeps (subst P at holds)))
  | inr other ↦ (j, x, omega (arith, lt, length-set xs k q), get_or-set_other xs k j q x other ∙ x_is, holds)
]

goes_on : (k : ℕ) (p q : ChunkCopy) (v w : SnapBooks) → CopyGoesOn k p q v w → (c : ℕ) → Copies c v.copies → Copies c w.copies
goes_on k p q v w e c any = subst (Copies c) (sym e.copies) (any_set (λ (x : ChunkCopy). x.pair.old ≡ c) v.copies k p q e.within e.was (λ at. ap (λ (x : Pair). x.old) e.pair ∙ at) any)

pub copy_read_keeps : (o : List ℕ) (k : ℕ) (p q : ChunkCopy) (v w : SnapBooks) → ReadsCopy o k p q v w → KeepsWaiting v w
copy_read_keeps o k p q v w e = keeps_by v w e.same e.store.pairs e.marks (goes_on k p q v w e.copy)

pub copy_write_keeps : (k : ℕ) (p q : ChunkCopy) (v w : SnapBooks) → WritesCopy k p q v w → KeepsWaiting v w
copy_write_keeps k p q v w e = keeps_by v w e.same e.pairs e.marks (goes_on k p q v w e.copy)

pub zero_keeps : (a : ℕ) (v w : SnapBooks) → ZeroesArea a v w → KeepsWaiting v w
zero_keeps a v w e = keeps_by v w e.same e.pairs e.marks (λ c any. subst (Copies c) (sym e.copies) any)

-- FlushStore of a live snapshot
pub flush_keeps : (v w : SnapBooks) → FlushesStore v w → KeepsWaiting v w
flush_keeps v w e = record {
  number = e.same.number;
  live = e.same.live;
  untried = e.same.untried;
  chunk = e.same.chunk;
  unsaved = λ first was. ap (λ l. not l || is_published w.pairs w.marks (first / w.chunk)) e.same.live ∙ ap (λ ps. not v.live || is_published ps w.marks (first / w.chunk)) e.pairs
      ∙ ap (λ ms. not v.live || is_published v.pairs ms (first / w.chunk)) e.marks ∙ ap (λ b. not v.live || b) (is_published_flushed v.pairs v.marks (first / w.chunk))
      ∙ ap (λ n. not v.live || is_published v.pairs v.marks (first / n)) e.same.chunk ∙ was;
  saving = λ c s. elim s [
    | inl placed ↦ inl (λ none. placed (ap (λ ps. place_of ps c) (sym e.pairs) ∙ none))
    | inr any ↦ inr (subst (Copies c) (sym e.copies) (any_mapped flushed_copy (λ (x : ChunkCopy). x.pair.old ≡ c) v.copies any))
  ];
  copying = λ c s. elim s [
    | inl any ↦ inl (subst (Copies c) (sym e.copies) (any_mapped flushed_copy (λ (x : ChunkCopy). x.pair.old ≡ c) v.copies any))
    | inr both ↦ inr ((λ none. both.0 (ap (λ ps. place_of ps c) (sym e.pairs) ∙ none)), subst (Marks c) (sym e.marks) (any_mapped safe_mark (λ (m : Mark). m.chunk ≡ c) v.marks both.1))
  ];
}

-- WriteInvalid, where the mark is written
pub mark_keeps : (v w : SnapBooks) → WritesMark v w → KeepsWaiting v w
mark_keeps v w e = record {
  number = e.number;
  live = e.live ∙ sym e.was;
  untried = e.untried;
  chunk = e.chunk;
  unsaved = λ first was. absurd (false≢true (sym was ∙ ap (λ l. not l || is_published v.pairs v.marks (first / v.chunk)) e.was));
  saving = λ c s. elim s [
    | inl placed ↦ inl (λ none. placed (ap (λ ps. place_of ps c) (sym e.pairs) ∙ none))
    | inr any ↦ inr (subst (Copies c) (sym e.copies) any)
  ];
  copying = λ c s. elim s [
    | inl any ↦ inl (subst (Copies c) (sym e.copies) any)
    | inr both ↦ inr ((λ none. both.0 (ap (λ ps. place_of ps c) (sym e.pairs) ∙ none)), subst (Marks c) (sym e.marks) both.1)
  ];
}

pub any_more : {X : Type 0} (P : X → Type 0) (xs ys : List X) → Any P xs → Any P (xs ++ ys)
any_more P xs ys (k, x, lt, is, holds) = (k, x, omega (arith, lt, length-append xs ys), get_or_append_left xs ys x k lt ∙ is, holds)

pub any_after : {X : Type 0} (P : X → Type 0) (xs ys : List X) → Any P ys → Any P (xs ++ ys)
any_after P xs ys (k, x, lt, is, holds) = (length xs + k, x, omega (arith, lt, length-append xs ys), get_or-append-add xs ys k x ∙ is, holds)

pub start_keeps : (p : ChunkCopy) (v w : SnapBooks) → StartsCopy p v w → KeepsWaiting v w
start_keeps p v w e = keeps_by v w e.same e.pairs e.marks (λ c any. subst (Copies c) (sym e.copies) (any_more (λ (x : ChunkCopy). x.pair.old ≡ c) v.copies (p ∷ []) any))

-- an element of a list is in its front, or after it
pub any_split : (P : ChunkCopy → Type 0) (xs ys : List ChunkCopy) → Any P (xs ++ ys) → Any P xs ⊎ Any P ys
any_split P [] ys any = inr any
any_split P (x ∷ xs) ys (zero, y, lt, is, holds) = inl (zero, y, omega arith, is, holds)
any_split P (x ∷ xs) ys (suc k, y, lt, is, holds) = elim (any_split P xs ys (k, y, omega (arith, lt), is, holds)) [
  | inl (j, z, z_lt, z_is, z_holds) ↦ inl (suc j, z, omega (arith, z_lt), z_is, z_holds)
  | inr any ↦ inr any
]

-- copies of a chunk name it, and so do their marks
pub named_by : (cs : List ChunkCopy) (c : ℕ) → Copies c cs → place_of (map pair_of cs) c ≡ None → ⊥
named_by [] c (k, x, lt, is, holds) none = absurd (omega (arith, lt))
named_by (p ∷ cs) c (zero, x, lt, is, holds) none =
    let same : nat_eq p.pair.old c ≡ true = eq-eqb p.pair.old c (ap (λ (y : ChunkCopy). y.pair.old) is ∙ holds) in
    let got : Some p.pair.new ≡ None = rw same at none in some_ne_none p.pair.new got
named_by (p ∷ cs) c (suc k, x, lt, is, holds) none = elim (cases_Bool (nat_eq p.pair.old c)) [
  | inl same ↦ (let got : Some p.pair.new ≡ None = rw same at none in some_ne_none p.pair.new got)
  | inr other ↦ named_by cs c (k, x, omega (arith, lt), is, holds) (rw other at none)
]

marked_of : (cs : List ChunkCopy) (c : ℕ) → Copies c cs → Marks c (map mark_of cs)
marked_of [] c (k, x, lt, is, holds) = absurd (omega (arith, lt))
marked_of (p ∷ cs) c (zero, x, lt, is, holds) = (zero, mark_of p, omega arith, refl, ap (λ (y : ChunkCopy). y.pair.old) is ∙ holds)
marked_of (p ∷ cs) c (suc k, x, lt, is, holds) = any_after (λ (m : Mark). m.chunk ≡ c) (mark_of p ∷ []) (map mark_of cs) (marked_of cs c (k, x, omega (arith, lt), is, holds))

copied_of : (cs : List ChunkCopy) (c n : ℕ) → place_of (map pair_of cs) c ≡ Some n → Marks c (map mark_of cs)
copied_of [] c n e = absurd (some_ne_none n (sym e))
copied_of (p ∷ cs) c n e = elim (cases_Bool (nat_eq p.pair.old c)) [
  | inl same ↦ (zero, mark_of p, omega arith, refl, eqb-true p.pair.old c same)
  | inr other ↦ any_after (λ (m : Mark). m.chunk ≡ c) (mark_of p ∷ []) (map mark_of cs) (copied_of cs c n (rw other at e))
]

-- the test for what is published
pub published_test : (ps : List Pair) (ms : List Mark) (c : ℕ) → IsPublished ps ms c → is_published ps ms c ≡ true
published_test ps ms c h =
    let unmarked : list_any (λ m. nat_eq m.chunk c) ms ≡ false = list_any_none (λ m. nat_eq m.chunk c) ms (All-weaker (λ m. m.chunk ≢ c) (λ m. nat_eq m.chunk c ≡ false) (λ m ne. ne_eqb m.chunk c ne) ms h.unmarked) in
    rw (placed (place_of ps c) refl, unmarked) refl
  where
    placed : (r : Option ℕ) → place_of ps c ≡ r → is_some (place_of ps c) ≡ true
    placed None is = absurd (h.placed is)
    placed (Some n) is = ap is_some is

-- a commit publishes nothing
pub not_published : (ps : List Pair) (ms : List Mark) (cs : List ChunkCopy) (c : ℕ) → is_published ps ms c ≡ false → is_published (ps ++ map pair_of cs) (ms ++ map mark_of cs) c ≡ false
not_published ps ms cs c e = elim (cases_Bool (is_published (ps ++ map pair_of cs) (ms ++ map mark_of cs) c)) [
  | inr fails ↦ fails
  | inl here ↦ absurd (false≢true (sym e ∙ published_test ps ms c (before (published_true (ps ++ map pair_of cs) (ms ++ map mark_of cs) c here))))
]
  where
    unnamed : All (λ (m : Mark). m.chunk ≢ c) (map mark_of cs) → (r : Option ℕ) → place_of (map pair_of cs) c ≡ r → place_of (map pair_of cs) c ≡ None
    unnamed none None is = is
    unnamed none (Some n) is = (let (k, m, lt, at, same) = copied_of cs c n is in absurd (subst (λ (x : Mark). x.chunk ≢ c) at (none k m lt) same))

    before : IsPublished (ps ++ map pair_of cs) (ms ++ map mark_of cs) c → IsPublished ps ms c
    before h = record {
      placed = λ none. h.placed (place_of-whole_none ps (map pair_of cs) c none (unnamed (All-back (λ (m : Mark). m.chunk ≢ c) ms (map mark_of cs) h.unmarked) (place_of (map pair_of cs) c) refl));
      unmarked = All-front (λ (m : Mark). m.chunk ≢ c) ms (map mark_of cs) h.unmarked;
    }

pub placed_more : (ps qs : List Pair) (c : ℕ) → place_of ps c ≢ None → place_of (ps ++ qs) c ≢ None
placed_more ps qs c named = at (place_of ps c) refl
  where
    at : (r : Option ℕ) → place_of ps c ≡ r → place_of (ps ++ qs) c ≢ None
    at None is = absurd (named is)
    at (Some n) is = λ none. some_ne_none n (sym (place_of-front_kept ps qs c n is) ∙ none)

pub placed_behind : (ps qs : List Pair) (c : ℕ) → place_of qs c ≢ None → place_of (ps ++ qs) c ≡ None → ⊥
placed_behind [] qs c named none = named none
placed_behind (p ∷ ps) qs c named none = elim (cases_Bool (nat_eq p.old c)) [
  | inl same ↦ (let got : Some p.new ≡ None = rw same at none in some_ne_none p.new got)
  | inr other ↦ placed_behind ps qs c named (rw other at none)
]

pub commit_keeps : {l : Bool} (o : List ℕ) (rs : List Flight) (count a : ℕ) (v w : SnapBooks) → LiveHolds l o rs v → Commits count a v w → KeepsWaiting v w
commit_keeps o rs count a v w h e =
    let first : List ChunkCopy = take count v.copies in
    let qs : List Pair = map pair_of (take count v.copies) in
    let pairs : w.pairs ≡ v.pairs ++ map pair_of (take count v.copies) = e.pairs ∙ ap (λ x. v.pairs ++ x) (ap (take count) h.agree ∙ take-map pair_of count v.copies) in
    let split : (c : ℕ) → Copies c v.copies → Copies c (take count v.copies) ⊎ Copies c (drop count v.copies) =
    λ c any. any_split (λ (p : ChunkCopy). p.pair.old ≡ c) (take count v.copies) (drop count v.copies) (subst (Copies c) (sym (take-append-drop count v.copies)) any) in
    let placed : (c : ℕ) → place_of (v.pairs ++ map pair_of (take count v.copies)) c ≢ None → place_of w.pairs c ≢ None = λ c named none. named (ap (λ ps. place_of ps c) (sym pairs) ∙ none) in
    record {
      number = e.same.number;
      live = e.same.live;
      untried = e.same.untried;
      chunk = e.same.chunk;
      unsaved = λ n s. ap (λ l. not l || is_published w.pairs w.marks (n / w.chunk)) e.same.live ∙ ap (λ ps. not v.live || is_published ps w.marks (n / w.chunk)) pairs
          ∙ ap (λ ms. not v.live || is_published (v.pairs ++ map pair_of (take count v.copies)) ms (n / w.chunk)) e.marks
          ∙ ap (λ x. not v.live || is_published (v.pairs ++ map pair_of (take count v.copies)) (v.marks ++ map mark_of (take count v.copies)) (n / x)) e.same.chunk
          ∙ or_false v.live (is_published v.pairs v.marks (n / v.chunk)) (is_published (v.pairs ++ map pair_of (take count v.copies)) (v.marks ++ map mark_of (take count v.copies)) (n / v.chunk))
          (not_published v.pairs v.marks (take count v.copies) (n / v.chunk)) s;
      saving = λ c s. elim s [
        | inl named ↦ inl (placed c (placed_more v.pairs (map pair_of (take count v.copies)) c named))
        | inr any ↦ elim (split c any) [
          | inl front ↦ inl (placed c (placed_behind v.pairs (map pair_of (take count v.copies)) c (named_by (take count v.copies) c front)))
          | inr rest ↦ inr (subst (Copies c) (sym e.copies) rest)
        ]
      ];
      copying = λ c s. elim s [
        | inl any ↦ elim (split c any) [
          | inl front ↦ inr (
            placed c (placed_behind v.pairs (map pair_of (take count v.copies)) c (named_by (take count v.copies) c front)),
            subst (Marks c) (sym e.marks) (any_after (λ (m : Mark). m.chunk ≡ c) v.marks (map mark_of (take count v.copies)) (marked_of (take count v.copies) c front)),
          )
          | inr rest ↦ inl (subst (Copies c) (sym e.copies) rest)
        ]
        | inr both ↦ inr (
          placed c (placed_more v.pairs (map pair_of (take count v.copies)) c both.0),
          subst (Marks c) (sym e.marks) (any_more (λ (m : Mark). m.chunk ≡ c) v.marks (map mark_of (take count v.copies)) both.1),
        )
      ];
    }
  where
    or_false : (l a b : Bool) → (a ≡ false → b ≡ false) → (not l || a) ≡ false → (not l || b) ≡ false
    or_false true a b f e = f e
    or_false false a b f e = e
