-- What is noted of arrays that were made last holds of a volume: through a call that opens what was open, or what a write in flight
-- gives.
use Rattle.std.proofs.Common.{◌≡◌, ◌⊎◌, inl, inr, ℕ, ◌*◌, ◌/◌, ◌<◌, Bool, true, false, List, [], ◌∷◌, ◌++◌, filter, length, map, Option, None, Some, refl, sym, ◌∙◌, ap, subst}
use Rattle.std.specs.Prelude.{◌==◌, not, if◌then◌else◌}
use Rattle.std.proofs.lemmas.Bool.{cases_Bool, cases_eq, cond-true, cond-false, eqb-true, eq-eqb, false≢true, ne_eqb}
use Rattle.sector.specs.Bytes.{sector_at}
use Rattle.device.specs.Layers.{Layer}
use Rattle.crash_laws.specs.Clauses.{Given, Gives}
use Rattle.plain_machine.specs.Kept.{kept, kept_range}
use Rattle.plain_machine.specs.Plain.{InFlight, Plain, asked_under, without}
use Rattle.plain_machine.specs.declared.event.Event.{Event}
use Rattle.plain_machine.specs.declared.event.Event.TheVariants.{Issue, CopyRead, CopyWrite, ZeroNext, WriteArea, Publish, WriteInvalid, FlushStore, MergeGroup, MergeAreaRead, MergeRead, MergeWrite, MergeFlush, MergeCommit, MergeRelease}
use Rattle.plain_machine.specs.declared.event.Outcome.{Outcome}
use Rattle.plain_machine.specs.declared.event.Outcome.TheVariants.{Done as Silent, Fault, Reply as Replied}
use Rattle.plain_machine.specs.declared.request.Op.{Op}
use Rattle.plain_machine.specs.declared.request.Op.TheVariants.{Read, Write, Flush}
use Rattle.plain_machine.specs.declared.request.Request.{Request}
use Rattle.in_flight.specs.Kinds.{in_flight, kind_of}
use Rattle.in_flight.specs.declared.flights.Flight.{Flight}
use Rattle.in_flight.specs.declared.flights.Kind.TheVariants.{OriginFlush}
use Rattle.in_flight.specs.declared.flights.Route.TheVariants.{Whole}
use Rattle.event_machine.specs.Held.{Going}
use Rattle.event_machine.specs.Seen.{going_of}
use Rattle.event_machine.specs.Stepping.{first_that}
use Rattle.merge.specs.Merging.{Merging}
use Rattle.volume.specs.AddedUp.{GivesAsked, IsOpenIn, IsSomeOf, OpensOnly}
use Rattle.volume.specs.Flying.{IsFlown}
use Rattle.volume.specs.Layering.{Measures}
use Rattle.volume.specs.Stopping.{IsOut, StaysOut, array_of, given_as, given_by, given_in}
use Rattle.volume.specs.Volumed.{Volumed, plain_of}
use Rattle.volume.proofs.AskedFor.{asked_given}
use Rattle.volume_lifetime.specs.Flushed.{Allows, Asked, Flushed, History, is_same, with_bytes, with_write, with_writes}

-- a fact of each of some
abbrev pub EachOf : {X : Type 0} → (X → Type 0) → List X → Type 0
EachOf P [] = Unit {0}
EachOf P (x ∷ xs) = P x × EachOf P xs

pub each_map : {X Y : Type 0} (P : X → Type 0) (Q : Y → Type 0) (f : X → Y) (xs : List X) → ((x : X) → P x → Q (f x)) → EachOf P xs → EachOf Q (map f xs)
each_map P Q f [] step all = tt
each_map P Q f (x ∷ xs) step all = (step x all.0, each_map P Q f xs step all.1)

pub each_as : {X : Type 0} (P Q : X → Type 0) (xs : List X) → ((x : X) → P x → Q x) → EachOf P xs → EachOf Q xs
each_as P Q [] step all = tt
each_as P Q (x ∷ xs) step all = (step x all.0, each_as P Q xs step all.1)

pub each_filter : {X : Type 0} (P Q : X → Type 0) (test : X → Bool) (xs : List X) → ((x : X) → test x ≡ true → P x → Q x) → EachOf P xs → EachOf Q (filter test xs)
each_filter P Q test [] step all = tt
each_filter P Q test (x ∷ xs) step all = elim (cases_Bool (test x)) [
  | inl t ↦ rw t (step x t all.0, each_filter P Q test xs step all.1)
  | inr f ↦ rw f (each_filter P Q test xs step all.1)
]

pub each_append : {X : Type 0} (P : X → Type 0) (xs ys : List X) → EachOf P xs → EachOf P ys → EachOf P (xs ++ ys)
each_append P [] ys left right = right
each_append P (x ∷ xs) ys left right = (left.0, each_append P xs ys left.1 right)

-- arrays that are the same
pub same_true : (a b : Option ℕ) → a ≡ b → is_same a b ≡ true
same_true a b e = subst (λ z. is_same a z ≡ true) e (itself a)
  where
    itself : (a : Option ℕ) → is_same a a ≡ true
    itself None = refl
    itself (Some n) = eq-eqb n n refl

pub same_is : (a b : Option ℕ) → is_same a b ≡ true → a ≡ b
same_is None None e = refl
same_is (Some a) (Some b) e = ap Some (eqb-true a b e)
same_is None (Some b) e = absurd (false≢true e)
same_is (Some a) None e = absurd (false≢true e)

pub flipped : (a b : ℕ) → (a == b) ≡ false → (b == a) ≡ false
flipped a b ne = elim (cases_eq b a) [
  | inl same ↦ absurd (false≢true (sym ne ∙ eq-eqb a b (sym same)))
  | inr other ↦ ne_eqb b a other
]

-- what is allowed, with a write more
pub with_array : (g : Option Given) (f : Flushed) → (with_write g f).array ≡ f.array
with_array None f = refl
with_array (Some g) f = elim (cases_Bool (is_same g.array f.array)) [ inl t ↦ rw t refl | inr t ↦ rw t refl ]

pub allows_more : (g : Option Given) (f : Flushed) (s : ℕ) (x : List ℕ) → Allows f s x → Allows (with_write g f) s x
allows_more None f s x a = a
allows_more (Some g) f s x a = elim (cases_Bool (is_same g.array f.array)) [
  | inl t ↦ rw t (elim a [ inl b ↦ inl b | inr c ↦ inr (inr c) ])
  | inr t ↦ rw t a
]

pub allows_given : (g : Option Given) (f : Flushed) (s : ℕ) (x : List ℕ) → Gives g f.array s x → Allows (with_write g f) s x
allows_given None f s x gives = absurd gives
allows_given (Some g) f s x gives = (let t : is_same g.array f.array ≡ true = same_true g.array f.array gives.0 in rw t (inr (inl (refl, gives.1, gives.2, gives.3))))

pub allows_bytes : (p : Plain) (f : Flushed) (s : ℕ) (x : List ℕ) → Allows f s x → Allows (with_bytes p f) s x
allows_bytes p f s x (inl b) = inl (inr b)
allows_bytes p f s x (inr c) = inr c

pub given_kept : (r : Request) → given_in (Some (kept r)) ≡ given_in (Some r)
given_kept r = by r.op
  where
    by : (op : Op) → given_as r.dev (kept_range op r.range) op ≡ given_as r.dev r.range op
    by Read = refl
    by (Write bytes) = refl
    by Flush = refl

pub some_split : {X : Type 0} (P : X → Type 0) (xs ys : List X) → IsSomeOf P (xs ++ ys) → IsSomeOf P xs ⊎ IsSomeOf P ys
some_split P [] ys one = inr one
some_split P (x ∷ xs) ys (inl here) = inl (inl here)
some_split P (x ∷ xs) ys (inr later) = elim (some_split P xs ys later) [ inl a ↦ inl (inr a) | inr b ↦ inr b ]

pub writes_array : (rs : List InFlight) (f : Flushed) → (with_writes rs f).array ≡ f.array
writes_array [] f = refl
writes_array (r ∷ rs) f = with_array (given_in (Some r.request)) (with_writes rs f) ∙ writes_array rs f

-- each write that is in flight is among them
pub writes_allow : (rs : List InFlight) (f : Flushed) (s : ℕ) (x : List ℕ) → IsSomeOf (GivesAsked f.array s x) rs → Allows (with_writes rs f) s x
writes_allow [] f s x one = absurd one
writes_allow (r ∷ rs) f s x (inl here) = allows_given (given_in (Some r.request)) (with_writes rs f) s x (subst (λ a. Gives (given_in (Some r.request)) a s x) (sym (writes_array rs f)) here)
writes_allow (r ∷ rs) f s x (inr later) = allows_more (given_in (Some r.request)) (with_writes rs f) s x (writes_allow rs f s x later)

-- requests in flight, without one of them, or with one more
some_without : (P : InFlight → Type 0) (n : ℕ) (rs : List InFlight) → IsSomeOf P (without n rs) → IsSomeOf P rs
some_without P n [] one = one
some_without P n (r ∷ rs) one = elim (cases_Bool (r.number == n)) [
  | inl gone ↦ inr (subst (IsSomeOf P) (cond-true _ _ _ gone) one)
  | inr stays ↦ elim (subst (IsSomeOf P) (cond-false _ _ _ stays) one) [ inl here ↦ inl here | inr later ↦ inr (some_without P n rs later) ]
]

pub under_without : (n k : ℕ) (rs : List InFlight) → (k == n) ≡ false → asked_under n (without k rs) ≡ asked_under n rs
under_without n k [] ne = refl
under_without n k (r ∷ rs) ne = elim (cases_Bool (r.number == k)) [
  | inl gone ↦ (let other : (r.number == n) ≡ false = ap (λ i. i == n) (eqb-true r.number k gone) ∙ ne in ap (asked_under n) (cond-true _ _ _ gone) ∙ sym (cond-false _ _ _ other))
  | inr stays ↦ ap (asked_under n) (cond-false _ _ _ stays) ∙ elim (cases_Bool (r.number == n)) [
    | inl here ↦ cond-true _ _ _ here ∙ sym (cond-true _ _ _ here)
    | inr there ↦ cond-false _ _ _ there ∙ under_without n k rs ne ∙ sym (cond-false _ _ _ there)
  ]
]

pub under_more : (n : ℕ) (q : Request) (rs more : List InFlight) → asked_under n rs ≡ Some q → asked_under n (rs ++ more) ≡ Some q
under_more n q [] more e = absurd (let no : None ≡ Some q = e in cc)
under_more n q (r ∷ rs) more e = elim (cases_Bool (r.number == n)) [
  | inl here ↦ cond-true _ _ _ here ∙ sym (cond-true _ _ _ here) ∙ e
  | inr there ↦ cond-false _ _ _ there ∙ under_more n q rs more (sym (cond-false _ _ _ there) ∙ e)
]

-- an event leaves no other in flight
pub fewer_flown : (event : Event) (outcome : Outcome) (xs ys : List InFlight) → IsFlown event outcome xs ys → (P : InFlight → Type 0) → IsSomeOf P ys → IsSomeOf P xs
fewer_flown event (Replied k reply) xs ys f P one = some_without P k xs (subst (IsSomeOf P) f.1.gone one)
fewer_flown (Issue n) Silent xs ys f P one = subst (IsSomeOf P) f.same one
fewer_flown (Issue n) Fault xs ys f P one = absurd f
fewer_flown (CopyRead n) Silent xs ys f P one = subst (IsSomeOf P) f one
fewer_flown (CopyRead n) Fault xs ys f P one = subst (IsSomeOf P) f one
fewer_flown (CopyWrite n) Silent xs ys f P one = subst (IsSomeOf P) f one
fewer_flown (CopyWrite n) Fault xs ys f P one = subst (IsSomeOf P) f one
fewer_flown (ZeroNext n) Silent xs ys f P one = subst (IsSomeOf P) f one
fewer_flown (ZeroNext n) Fault xs ys f P one = subst (IsSomeOf P) f one
fewer_flown (WriteArea n) Silent xs ys f P one = subst (IsSomeOf P) f one
fewer_flown (WriteArea n) Fault xs ys f P one = subst (IsSomeOf P) f one
fewer_flown (Publish n) Silent xs ys f P one = subst (IsSomeOf P) f one
fewer_flown (Publish n) Fault xs ys f P one = subst (IsSomeOf P) f one
fewer_flown (WriteInvalid n) Silent xs ys f P one = subst (IsSomeOf P) f one
fewer_flown (WriteInvalid n) Fault xs ys f P one = subst (IsSomeOf P) f one
fewer_flown (FlushStore n) Silent xs ys f P one = subst (IsSomeOf P) f one
fewer_flown (FlushStore n) Fault xs ys f P one = subst (IsSomeOf P) f one
fewer_flown MergeGroup Silent xs ys f P one = subst (IsSomeOf P) f one
fewer_flown MergeGroup Fault xs ys f P one = subst (IsSomeOf P) f one
fewer_flown MergeAreaRead Silent xs ys f P one = subst (IsSomeOf P) f one
fewer_flown MergeAreaRead Fault xs ys f P one = subst (IsSomeOf P) f one
fewer_flown MergeRead Silent xs ys f P one = subst (IsSomeOf P) f one
fewer_flown MergeRead Fault xs ys f P one = subst (IsSomeOf P) f one
fewer_flown MergeWrite Silent xs ys f P one = subst (IsSomeOf P) f one
fewer_flown MergeWrite Fault xs ys f P one = subst (IsSomeOf P) f one
fewer_flown MergeFlush Silent xs ys f P one = subst (IsSomeOf P) f one
fewer_flown MergeFlush Fault xs ys f P one = subst (IsSomeOf P) f one
fewer_flown MergeCommit Silent xs ys f P one = subst (IsSomeOf P) f one
fewer_flown MergeCommit Fault xs ys f P one = subst (IsSomeOf P) f one
fewer_flown MergeRelease Silent xs ys f P one = subst (IsSomeOf P) f one
fewer_flown MergeRelease Fault xs ys f P one = subst (IsSomeOf P) f one

-- what an event's write gives, one in flight gives
pub given_some : (event : Event) (rs : List InFlight) (array : Option ℕ) (s : ℕ) (x : List ℕ) → Gives (given_by event rs) array s x → IsSomeOf (GivesAsked array s x) rs
given_some (Issue n) rs array s x gives = asked_given array s x n rs gives
given_some (CopyRead n) rs array s x gives = absurd gives
given_some (CopyWrite n) rs array s x gives = absurd gives
given_some (ZeroNext n) rs array s x gives = absurd gives
given_some (WriteArea n) rs array s x gives = absurd gives
given_some (Publish n) rs array s x gives = absurd gives
given_some (WriteInvalid n) rs array s x gives = absurd gives
given_some (FlushStore n) rs array s x gives = absurd gives
given_some MergeGroup rs array s x gives = absurd gives
given_some MergeAreaRead rs array s x gives = absurd gives
given_some MergeRead rs array s x gives = absurd gives
given_some MergeWrite rs array s x gives = absurd gives
given_some MergeFlush rs array s x gives = absurd gives
given_some MergeCommit rs array s x gives = absurd gives
given_some MergeRelease rs array s x gives = absurd gives

module _ {B : Type 0} (holds : B → ℕ → List ℕ → Type 0) (m : Measures B) (layers : B → List Layer) where
  abbrev pub plain : Volumed B → Plain
  plain v = plain_of m.contents layers v

  abbrev pub asks : Volumed B → List InFlight
  asks v = map in_flight v.flights

  -- What was made last lasts, and writes in flight are among those since.
  pub record Holds (v : Volumed B) (f : Flushed) : Type 0 where
    pub shows : (s : ℕ) (x : List ℕ) → IsOpenIn holds m.size v f.array s x → Allows f s x
    pub asked : (s : ℕ) (x : List ℕ) → IsSomeOf (GivesAsked f.array s x) (asks v) → Allows f s x

  -- a flush of the origin that goes to the merging store first
  pub record Waits (v : Volumed B) (n : ℕ) : Type 0 where
    pub going : Going
    pub first : first_that (λ (k : Going). k.number == n) (map going_of v.flights) ≡ Some going
    pub whole : going.route ≡ Whole
    pub kind : kind_of going.request ≡ OriginFlush

  -- Beside a merge such a flush did not begin, or each sector is closed by its first Issue or taken from the disk for good.
  abbrev pub HalfOf : Volumed B → Asked → Option (Merging B) → Type 0
  HalfOf v a None = Unit {0}
  HalfOf v a (Some g) = Waits v a.number ⊎ ((s : ℕ) → s < m.size v.origin → ((x : List ℕ) → IsOpenIn holds m.size v None s x → Allows a.will s x) ⊎ IsOut holds m.size g.state.chunk g.device (s / g.state.chunk))

  -- a flush in flight
  pub record Pends (v : Volumed B) (a : Asked) : Type 0 where
    pub request : Request
    pub under : asked_under a.number (asks v) ≡ Some request
    pub flush : request.op ≡ Flush
    pub array : array_of request.dev ≡ a.will.array
    pub asked : (s : ℕ) (x : List ℕ) → IsSomeOf (GivesAsked a.will.array s x) (asks v) → Allows a.will s x
    pub half : a.will.array ≡ None → HalfOf v a v.merge

  pub record Known (v : Volumed B) (h : History) : Type 0 where
    pub made : EachOf (Holds v) h.made
    pub asked : EachOf (Pends v) h.asked

  -- A call that opens what was open, or what a write in flight gives, and brings no chunk back to a merging store.
  abbrev pub MergeFollows : Option (Merging B) → Option (Merging B) → Type 0
  MergeFollows None None = Unit {0}
  MergeFollows None (Some g) = ⊥
  MergeFollows (Some g) None = ⊥
  MergeFollows (Some g) (Some g') = (g'.state.chunk ≡ g.state.chunk) × StaysOut holds m.size g.state.chunk g.device g'.device

  abbrev pub Opened : Volumed B → Volumed B → Type 0
  Opened v w = (array : Option ℕ) (s : ℕ) (x : List ℕ) → IsOpenIn holds m.size w array s x → IsOpenIn holds m.size v array s x ⊎ IsSomeOf (GivesAsked array s x) (asks v)

  abbrev pub Fewer : Volumed B → Volumed B → Type 0
  Fewer v w = (array : Option ℕ) (s : ℕ) (x : List ℕ) → IsSomeOf (GivesAsked array s x) (asks w) → IsSomeOf (GivesAsked array s x) (asks v)

  pub record Follows (v w : Volumed B) : Type 0 where
    pub sectors : m.size w.origin ≡ m.size v.origin
    pub opened : Opened v w
    pub merge : MergeFollows v.merge w.merge

  pub opened_of : (v w : Volumed B) → OpensOnly holds m.size [] v w → Opened v w
  opened_of v w opens array s x may = (let f = opens array s x may in from f.from f.comes f.is)
    where
      from : (o : Option ℕ) → (o ≡ array) ⊎ ((array ≡ None) × ⊥) → IsOpenIn holds m.size v o s x ⊎ (IsSomeOf (GivesAsked o s x) (asks v) ⊎ ⊥) → IsOpenIn holds m.size v array s x ⊎ IsSomeOf (GivesAsked array s x) (asks v)
      from o (inr merged) is = absurd merged.1
      from o (inl same) (inl before) = inl (subst (λ z. IsOpenIn holds m.size v z s x) same before)
      from o (inl same) (inr (inl asked)) = inr (subst (λ z. IsSomeOf (GivesAsked z s x) (asks v)) same asked)
      from o (inl same) (inr (inr none)) = absurd none

  pub holds_on : (v w : Volumed B) (f : Flushed) → Opened v w → Fewer v w → Holds v f → Holds w f
  holds_on v w f opened fewer h = record {
    shows = λ s x may. elim (opened f.array s x may) [ inl before ↦ h.shows s x before | inr gives ↦ h.asked s x gives ];
    asked = λ s x gives. h.asked s x (fewer f.array s x gives);
  }

  pub half_on : (v w : Volumed B) (a : Asked) → Follows v w → (Waits v a.number → Waits w a.number) → ((s : ℕ) (x : List ℕ) → IsSomeOf (GivesAsked None s x) (asks v) → Allows a.will s x) → HalfOf v a v.merge → HalfOf w a w.merge
  half_on v w a follows waits asked half = by v.merge w.merge follows.merge half
    where
      by : (x y : Option (Merging B)) → MergeFollows x y → HalfOf v a x → HalfOf w a y
      by None None f h = tt
      by None (Some g) f h = absurd f
      by (Some g) None f h = absurd f
      by (Some g) (Some g') f (inl begins) = inl (waits begins)
      by (Some g) (Some g') f (inr each) = inr (λ s lt. elim (each s (subst (λ n. s < n) follows.sectors lt)) [
        | inl closed ↦ inl (λ x may. elim (follows.opened None s x may) [ inl before ↦ closed x before | inr gives ↦ asked s x gives ])
        | inr out ↦ inr (subst (λ c. IsOut holds m.size c g'.device (s / c)) (sym f.0) (f.1 (s / g.state.chunk) out))
      ])

  -- with more that is allowed
  pub half_more : (v : Volumed B) (a b : Asked) (merge : Option (Merging B)) → b.number ≡ a.number → ((s : ℕ) (x : List ℕ) → Allows a.will s x → Allows b.will s x) → HalfOf v a merge → HalfOf v b merge
  half_more v a b None same more half = tt
  half_more v a b (Some g) same more (inl begins) = inl (subst (Waits v) (sym same) begins)
  half_more v a b (Some g) same more (inr each) = inr (λ s lt. elim (each s lt) [ inl closed ↦ inl (λ x may. more s x (closed x may)) | inr out ↦ inr out ])

  pub pends_on : (v w : Volumed B) (a : Asked) → Follows v w → (Waits v a.number → Waits w a.number) → Fewer v w → asked_under a.number (asks w) ≡ asked_under a.number (asks v) → Pends v a → Pends w a
  pends_on v w a follows waits fewer same p = record {
    request = p.request;
    under = same ∙ p.under;
    flush = p.flush;
    array = p.array;
    asked = λ s x gives. p.asked s x (fewer a.will.array s x gives);
    half = λ none. half_on v w a follows waits (λ s x gives. p.asked s x (subst (λ o. IsSomeOf (GivesAsked o s x) (asks v)) (sym none) gives)) (p.half none);
  }

  -- A deed that leaves all requests in flight as they were.
  pub known_on : (v w : Volumed B) (h : History) → Follows v w → ((n : ℕ) → Waits v n → Waits w n) → asks w ≡ asks v → Known v h → Known w h
  known_on v w h follows waits same k = record {
    made = each_as (Holds v) (Holds w) h.made (λ f. holds_on v w f follows.opened fewer) k.made;
    asked = each_as (Pends v) (Pends w) h.asked (λ a. pends_on v w a follows (waits a.number) fewer (ap (asked_under a.number) same)) k.asked;
  }
    where
      fewer : Fewer v w
      fewer array s x gives = subst (IsSomeOf (GivesAsked array s x)) same gives

  -- where none is in flight none is asked
  pub none_asked : (v w : Volumed B) (asked : List Asked) → asks v ≡ [] → EachOf (Pends v) asked → EachOf (Pends w) asked
  none_asked v w asked none all = each_as (Pends v) (Pends w) asked (λ a p. absurd (let no : None ≡ Some p.request = sym (ap (asked_under a.number) none) ∙ p.under in cc)) all
