-- Where no event is due the volume is quiet: no copy, no mark, no untried mark and no request is left.
use Rattle.std.proofs.Common.{◌≡◌, ◌≢◌, ◌⊎◌, inl, inr, ℕ, suc, ◌/◌, Bool, true, false, List, [], ◌∷◌, Option, Some, None, length, get_or, map, refl, sym, ◌∙◌, ap, subst, arith, nat_eq}
use Rattle.std.specs.Prelude.{◌&&◌, ◌||◌, not, Any}
use Rattle.std.specs.List.{All, list_any, list_all}
use Rattle.std.specs.Option.{is_some}
use Rattle.std.proofs.lemmas.Bool.{cases_Bool, false≢true}
use Rattle.std.proofs.lemmas.List.Elements.{All-head, All-tail, All-map}
use Rattle.std.proofs.lemmas.List.Folds.{Any-from_list_any}
use Rattle.cow_format.specs.Picture.{place_of}
use Rattle.in_flight.specs.Kinds.{kind_of}
use Rattle.in_flight.specs.declared.copies.Stage.{Stage}
use Rattle.in_flight.specs.declared.copies.Stage.TheVariants.{Waiting, Read, Written, Flushed}
use Rattle.in_flight.specs.declared.copies.ChunkCopy.{ChunkCopy}
use Rattle.in_flight.specs.declared.copies.Mark.{Mark}
use Rattle.in_flight.specs.declared.flights.Flight.{Flight}
use Rattle.in_flight.specs.declared.flights.Kind.{Kind}
use Rattle.in_flight.specs.declared.flights.Kind.TheVariants.{OriginRead, OriginWrite, OriginFlush, SnapRead, SnapWrite, SnapFlush}
use Rattle.in_flight.specs.declared.flights.Route.{Route}
use Rattle.in_flight.specs.declared.flights.Route.TheVariants.{Held, Origin, Store, Whole, Refused}
use Rattle.in_flight.specs.Routes.{is_reading, reads_origin_of}
use Rattle.in_flight.specs.Due.{is_copy_at, number_of_copy, number_of_mark, front_ready, front_unflushed, is_publishable, is_issuable, is_routed, is_stage, first_by}
use Rattle.volume_laws.specs.Books.{SnapBooks, Books}
use Rattle.volume_laws.specs.Published.{chunk_of, is_published, is_saved}
use Rattle.volume_laws.specs.Due.{DueSnap, books_of, due_of, is_unsafe, can_flush_store}
use Rattle.volume_laws.specs.Waits.{IsSaving, WaitsFor, WaitsHolds, Waits, is_grouped, IsDone, IsQuiet}
use Rattle.volume_laws.proofs.Due.{IsIdle, nothing_due, first_none}

or_false : (a b : Bool) → (a || b) ≡ false → (a ≡ false) × (b ≡ false)
or_false true b e = absurd (false≢true (sym e))
or_false false b e = (refl, e)

-- a copy is at some stage, and each is followed by an event
front_stage : (stage : Stage) (needs waits : Bool) → is_stage Waiting stage ≡ false → is_stage Read stage ≡ false → is_stage Written stage ≡ false → (is_stage Flushed stage && (waits && not needs)) ≡ false
    → (is_stage Flushed stage && not waits) ≡ false → (is_stage Flushed stage && needs) ≡ false → ⊥
front_stage Waiting needs waits a b c d e f = false≢true (sym a)
front_stage Read needs waits a b c d e f = false≢true (sym b)
front_stage Written needs waits a b c d e f = false≢true (sym c)
front_stage Flushed true waits a b c d e f = false≢true (sym f)
front_stage Flushed false true a b c d e f = false≢true (sym d)
front_stage Flushed false false a b c d e f = false≢true (sym e)

no_copies : (copies : List ChunkCopy) (needs waits : Bool) → first_by (is_copy_at Waiting) number_of_copy copies ≡ None → first_by (is_copy_at Read) number_of_copy copies ≡ None
    → front_unflushed copies ≡ false → (front_ready copies && (waits && not needs)) ≡ false → (front_ready copies && not waits) ≡ false → (front_ready copies && needs) ≡ false → copies ≡ []
no_copies [] needs waits a b c d e f = refl
no_copies (x ∷ xs) needs waits a b c d e f = absurd (front_stage x.stage needs waits
    (All-head (λ y. is_copy_at Waiting y ≡ false) x xs (first_none (is_copy_at Waiting) number_of_copy (x ∷ xs) a))
    (All-head (λ y. is_copy_at Read y ≡ false) x xs (first_none (is_copy_at Read) number_of_copy (x ∷ xs) b)) c d e f)

-- a request that reads a chunk from the origin disk goes somewhere
reading_routed : (snap : ℕ) (kind : Kind) (route : Route) → reads_origin_of snap kind route ≡ true → is_routed route ≡ true
reading_routed snap OriginRead route e = absurd (false≢true e)
reading_routed snap OriginWrite route e = absurd (false≢true e)
reading_routed snap OriginFlush route e = absurd (false≢true e)
reading_routed snap (SnapWrite n) route e = absurd (false≢true e)
reading_routed snap (SnapFlush n) route e = absurd (false≢true e)
reading_routed snap (SnapRead n) Held e = absurd (false≢true e)
reading_routed snap (SnapRead n) Origin e = refl
reading_routed snap (SnapRead n) (Store place) e = refl
reading_routed snap (SnapRead n) Whole e = refl
reading_routed snap (SnapRead n) Refused e = refl

and_second : (a b : Bool) → (a && b) ≡ true → b ≡ true
and_second true b e = e
and_second false b e = absurd (false≢true e)

not_false : (b : Bool) → not b ≡ false → b ≡ true
not_false true e = refl
not_false false e = absurd (false≢true (sym e))

no_marks : (rs : List Flight) (snap chunk : ℕ) (marks : List Mark) → All (λ f. is_issuable f ≡ false) rs → list_any is_unsafe marks ≡ false → first_by (is_publishable snap chunk rs) number_of_mark marks ≡ None → marks ≡ []
no_marks rs snap chunk [] idle safe e = refl
no_marks rs snap chunk (m ∷ ms) idle safe e =
    let here : m.safe ≡ true = not_false m.safe (or_false (is_unsafe m) (list_any is_unsafe ms) safe).0 in
    let held : is_publishable snap chunk rs m ≡ false = All-head (λ x. is_publishable snap chunk rs x ≡ false) m ms (first_none (is_publishable snap chunk rs) number_of_mark (m ∷ ms) e) in
    let blocked : not (list_any (is_reading snap chunk m.chunk) rs) ≡ false = rw here at held in
    let (k, f, within, is, reads) = Any-from_list_any (is_reading snap chunk m.chunk) rs (not_false (list_any (is_reading snap chunk m.chunk) rs) blocked) in
    let goes : is_issuable f ≡ true = reading_routed snap (kind_of f.request) f.route (and_second (nat_eq (chunk_of chunk f) m.chunk) (reads_origin_of snap (kind_of f.request) f.route) reads) in
    absurd (false≢true (sym (idle k f within) ∙ ap is_issuable is ∙ goes))

-- an invalid mark is written, or flushed
no_invalid : (untried marked : Bool) → (untried && not marked) ≡ false → (untried && marked) ≡ false → untried ≡ false
no_invalid false marked a b = refl
no_invalid true true a b = absurd (false≢true (sym b))
no_invalid true false a b = absurd (false≢true (sym a))

-- of a snapshot that waits for no flush of its store
idle_flush : (s : DueSnap) → can_flush_store s ≡ false → ((s.books.untried && s.books.marked) ≡ false) × ((front_unflushed s.books.copies ≡ false) × (((front_ready s.books.copies && (s.waits && not s.needs)) ≡ false) × (list_any is_unsafe s.books.marks ≡ false)))
idle_flush s e =
    let invalid : Bool = s.books.untried && s.books.marked in
    let front : Bool = front_unflushed s.books.copies in
    let area : Bool = front_ready s.books.copies && (s.waits && not s.needs) in
    let c = or_false (invalid || front || area) (list_any is_unsafe s.books.marks) e in
    let b = or_false (invalid || front) area c.0 in
    let a = or_false invalid front b.0 in
    (a.0, (a.1, (b.1, c.1)))

pub all_done : (snaps : List DueSnap) (rs : List Flight) → IsIdle snaps rs → All (λ s. IsDone (books_of s)) snaps
all_done snaps rs e k d lt =
    let s = get_or snaps k d in
    let (invalid, (front, (area, safe))) = idle_flush s (e.flushed k d lt) in
    record {
      tried = no_invalid s.books.untried s.books.marked (e.marked k d lt) invalid;
      copies = no_copies s.books.copies s.needs s.waits (e.read k d lt) (e.written k d lt) front area (e.committed k d lt) (e.zeroed k d lt);
      marks = no_marks rs s.books.number s.books.chunk s.books.marks e.issued safe (e.published k d lt);
    }

-- a test that fails of some element
pub fails_any : {X : Type 0} (test : X → Bool) (xs : List X) → list_all test xs ≡ false → Any (λ x. test x ≡ false) xs
fails_any test [] e = absurd (false≢true (sym e))
fails_any test (x ∷ xs) e = elim (cases_Bool (test x)) [
  | inl here ↦ (let rest : list_all test xs ≡ false = rw here at e in
      let (k, y, within, is, fails) = fails_any test xs rest in (suc k, y, omega (arith, within), is, fails))
  | inr fails ↦ (0, x, omega arith, refl, fails)
]

pub and_false : (a b : Bool) → (a && b) ≡ false → (a ≡ false) ⊎ (b ≡ false)
and_false true b e = inr e
and_false false b e = inl refl

-- a snapshot with nothing left has published what it is saving
pub done_chunk : (s : SnapBooks) (c : ℕ) → IsDone s → IsSaving c s → is_published s.pairs s.marks c ≡ true
done_chunk s c done (inl named) = rw (placed (place_of s.pairs c) refl named, ap (list_any (λ m. nat_eq m.chunk c)) done.marks) refl
  where
    placed : (r : Option ℕ) → place_of s.pairs c ≡ r → place_of s.pairs c ≢ None → is_some (place_of s.pairs c) ≡ true
    placed None is named = absurd (named is)
    placed (Some n) is named = ap is_some is
done_chunk s c done (inr (k, p, within, is, same)) = absurd (omega (arith, within, ap length done.copies))

-- and is saved, where it is saving
pub done_saved : (s : SnapBooks) (first : ℕ) → IsDone s → (s.live ≡ true → IsSaving (first / s.chunk) s) → is_saved first s ≡ false → ⊥
done_saved s first done saving e = at s.live refl
  where
    published : s.live ≡ true → is_published s.pairs s.marks (first / s.chunk) ≡ true
    published live = done_chunk s (first / s.chunk) done (saving live)

    at : (b : Bool) → s.live ≡ b → ⊥
    at true live = false≢true (sym e ∙ (rw live (published live)))
    at false dead = false≢true (sym e ∙ (rw dead refl))

-- no invalid mark is untried
pub all_tried : (snaps : List SnapBooks) → All IsDone snaps → list_any (λ s. s.untried) snaps ≡ false
all_tried [] all = refl
all_tried (s ∷ ss) all = rw (All-head IsDone s ss all).tried (all_tried ss (All-tail IsDone s ss all))

-- no request is held whose chunk is in no group
no_wait : (v : Books) (f : Flight) → All IsDone v.snaps → WaitsHolds v.merge v.snaps f → is_grouped v.merge f ≡ false → f.route ≡ Held → ⊥
no_wait v f done h ungrouped held = at (kind_of f.request) refl
  where
    snap_left : (n : ℕ) → Any (WaitsFor n f) v.snaps → ⊥
    snap_left n (k, s, within, is, waits) =
        let d : IsDone s = subst IsDone is (done k s within) in
        elim waits.copying [
          | inl (j, p, in_copies, at, same) ↦ omega (arith, in_copies, ap length d.copies)
          | inr (placed, (j, m, in_marks, at, same)) ↦ omega (arith, in_marks, ap length d.marks)
        ]

    write_left : kind_of f.request ≡ OriginWrite → ⊥
    write_left kind =
        elim (and_false (list_all (is_saved f.request.range.first) v.snaps) (not (list_any (λ s. s.untried) v.snaps)) (h.origin_write kind held ungrouped)) [
          | inl unsaved ↦ (let (k, s, within, is, fails) = fails_any (is_saved f.request.range.first) v.snaps unsaved in
              done_saved s f.request.range.first (subst IsDone is (done k s within)) (subst (λ (x : SnapBooks). x.live ≡ true → IsSaving (chunk_of x.chunk f) x) is (h.saving kind held ungrouped k s within)) fails)
          | inr untried ↦ false≢true (sym untried ∙ rw (all_tried v.snaps done) refl)
        ]

    at : (kind : Kind) → kind_of f.request ≡ kind → ⊥
    at OriginRead is = h.origin_read is held
    at OriginWrite is = write_left is
    at OriginFlush is = h.origin_flush is held
    at (SnapRead n) is = h.snap_read n is held
    at (SnapWrite n) is = snap_left n (h.snap_write n is held)
    at (SnapFlush n) is = h.snap_flush n is held

pub unrouted : (route : Route) → is_routed route ≡ false → route ≡ Held
unrouted Held e = refl
unrouted Origin e = absurd (false≢true (sym e))
unrouted (Store place) e = absurd (false≢true (sym e))
unrouted Whole e = absurd (false≢true (sym e))
unrouted Refused e = absurd (false≢true (sym e))

pub none_left : (v : Books) (rs : List Flight) → All (λ f. is_issuable f ≡ false) rs → All (WaitsHolds v.merge v.snaps) rs → All IsDone v.snaps → ((f : Flight) → is_grouped v.merge f ≡ false) → rs ≡ []
none_left v [] idle waits done none = refl
none_left v (f ∷ fs) idle waits done none =
    absurd (no_wait v f done (All-head (WaitsHolds v.merge v.snaps) f fs waits) (none f) (unrouted f.route (All-head (λ x. is_issuable x ≡ false) f fs idle)))

pub quiet : (v : Books) (snaps : List DueSnap) → Waits v → v.merge ≡ None → map books_of snaps ≡ v.snaps → due_of snaps v.requests ≡ None → IsQuiet v
quiet v snaps h none shown e =
    let idle = nothing_due snaps v.requests e in
    let done : All IsDone v.snaps = subst (All IsDone) shown (All-map IsDone books_of snaps (all_done snaps v.requests idle)) in
    record { requests = none_left v v.requests idle.issued h.held done (λ f. ap (λ m. is_grouped m f) none); snaps = done }
