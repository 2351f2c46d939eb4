-- Snapshots that only wait are left out, at the front and at the back: what is due first, but reads of chunks, stays the same.
use Rattle.std.proofs.Common.{◌≡◌, ℕ, ◌+◌, ◌<◌, ◌≤◌, arith, Bool, false, List, [], ◌∷◌, ◌++◌, Option, Some, None, length, get_or, map, take, drop, refl, sym, ◌∙◌, ap, subst}
use Rattle.std.specs.Prelude.{◌==◌, ◌&&◌, ◌||◌, not, if◌then◌else◌}
use Rattle.std.specs.List.{list_any}
use Rattle.std.proofs.lemmas.Bool.{eqb-true, not-false, or_parts, true≢false}
use Rattle.std.proofs.lemmas.List.{drop_more, nil_from_length, take_more}
use Rattle.plain_machine.specs.declared.event.Event.{Event}
use Rattle.plain_machine.specs.declared.event.Event.TheVariants.{CopyWrite, ZeroNext, WriteArea, Publish, WriteInvalid, FlushStore}
use Rattle.in_flight.specs.Due.{first_by, front_ready, front_unflushed, is_copy_at, is_publishable, is_stage, least, number_of_copy, number_of_mark}
use Rattle.in_flight.specs.declared.copies.ChunkCopy.{ChunkCopy}
use Rattle.in_flight.specs.declared.copies.Mark.{Mark}
use Rattle.in_flight.specs.declared.copies.Stage.{Stage}
use Rattle.in_flight.specs.declared.copies.Stage.TheVariants.{Waiting, Read, Written, Flushed}
use Rattle.in_flight.specs.declared.flights.Flight.{Flight}
use Rattle.volume_laws.specs.Due.{DueSnap, can_commit, can_flush_store, can_mark, can_zero, copy_of, due_of, event_or, is_unsafe, least_of, publishable_of, snap_number}
use Rattle.snapshot_list.specs.Busy.{AreAlike, busy_due, is_begun, is_busy, waiting_due}

-- a stage at which a copy waits is no other
not_flushed : (t : Stage) → not (is_stage Waiting t) ≡ false → is_stage Flushed t ≡ false
not_flushed Waiting e = refl
not_flushed Read e = absurd (true≢false e)
not_flushed Written e = absurd (true≢false e)
not_flushed Flushed e = absurd (true≢false e)

not_written : (t : Stage) → not (is_stage Waiting t) ≡ false → is_stage Written t ≡ false
not_written Waiting e = refl
not_written Read e = absurd (true≢false e)
not_written Written e = absurd (true≢false e)
not_written Flushed e = absurd (true≢false e)

not_read : (t : Stage) → not (is_stage Waiting t) ≡ false → is_stage Read t ≡ false
not_read Waiting e = refl
not_read Read e = absurd (true≢false e)
not_read Written e = absurd (true≢false e)
not_read Flushed e = absurd (true≢false e)

-- of copies that all wait none is ready, unflushed or read
waiting_ready : (cs : List ChunkCopy) → list_any is_begun cs ≡ false → front_ready cs ≡ false
waiting_ready [] e = refl
waiting_ready (c ∷ cs) e = not_flushed c.stage (or_parts (is_begun c) (list_any is_begun cs) e).0

waiting_flush : (cs : List ChunkCopy) → list_any is_begun cs ≡ false → front_unflushed cs ≡ false
waiting_flush [] e = refl
waiting_flush (c ∷ cs) e = not_written c.stage (or_parts (is_begun c) (list_any is_begun cs) e).0

waiting_read : (cs : List ChunkCopy) → list_any is_begun cs ≡ false → first_by (is_copy_at Read) number_of_copy cs ≡ None
waiting_read [] e = refl
waiting_read (c ∷ cs) e =
    let parts = or_parts (is_begun c) (list_any is_begun cs) e in
    ap (λ b. if b then Some (number_of_copy c) else first_by (is_copy_at Read) number_of_copy cs) (not_read c.stage parts.0) ∙ waiting_read cs parts.1

-- and the first of them is the first that waits
waiting_first : (cs : List ChunkCopy) (p : ChunkCopy) → 1 ≤ length cs → p ≡ get_or cs 0 p → list_any is_begun cs ≡ false → first_by (is_copy_at Waiting) number_of_copy cs ≡ Some p.number
waiting_first [] p some is e = absurd (omega (arith, some))
waiting_first (c ∷ cs) p some is e =
    ap (λ b. if b then Some (number_of_copy c) else first_by (is_copy_at Waiting) number_of_copy cs) (not-false (is_stage Waiting c.stage) (or_parts (is_begun c) (list_any is_begun cs) e).0)
    ∙ ap (λ (x : ChunkCopy). Some x.number) (sym is)

none_unsafe : (ms : List Mark) → ms ≡ [] → list_any is_unsafe ms ≡ false
none_unsafe ms e = ap (list_any is_unsafe) e

none_published : (ms : List Mark) (test : Mark → Bool) → ms ≡ [] → first_by test number_of_mark ms ≡ None
none_published ms test e = ap (first_by test number_of_mark) e

-- the tests over plain truth values
mark_by : (untried marked : Bool) → untried ≡ false → (untried && not marked) ≡ false
mark_by untried marked e = rw e refl

flush_by : (untried marked unflushed ready waits needs unsafe : Bool) → untried ≡ false → unflushed ≡ false → ready ≡ false → unsafe ≡ false → ((untried && marked) || unflushed || (ready && (waits && not needs)) || unsafe) ≡ false
flush_by untried marked unflushed ready waits needs unsafe a b c d = rw (a, b, c, d) refl

ready_by : (ready other : Bool) → ready ≡ false → (ready && other) ≡ false
ready_by ready other e = rw e refl

-- a snapshot of which nothing is due but reads of chunks
pub record IsIdle (s : DueSnap) : Type 0 where
  pub marking : can_mark s ≡ false
  pub flushing : can_flush_store s ≡ false
  pub publishing : (rs : List Flight) → publishable_of rs s ≡ None
  pub committing : can_commit s ≡ false
  pub zeroing : can_zero s ≡ false
  pub writing : copy_of Read s ≡ None

pub idle_by : (s : DueSnap) → is_busy s ≡ false → IsIdle s
idle_by s e =
    let parts = or_parts (s.books.untried || not (length s.books.marks == 0)) (list_any is_begun s.books.copies) e in
    let two = or_parts s.books.untried (not (length s.books.marks == 0)) parts.0 in
    let none : s.books.marks ≡ [] = nil_from_length s.books.marks (eqb-true (length s.books.marks) 0 (not-false (length s.books.marks == 0) two.1)) in
    let ready = waiting_ready s.books.copies parts.1 in
    record {
      marking = mark_by s.books.untried s.books.marked two.0;
      flushing = flush_by s.books.untried s.books.marked (front_unflushed s.books.copies) (front_ready s.books.copies) s.waits s.needs (list_any is_unsafe s.books.marks) two.0 (waiting_flush s.books.copies parts.1) ready (none_unsafe s.books.marks none);
      publishing = λ rs. none_published s.books.marks (is_publishable s.books.number s.books.chunk rs) none;
      committing = ready_by (front_ready s.books.copies) (not s.waits) ready;
      zeroing = ready_by (front_ready s.books.copies) s.needs ready;
      writing = waiting_read s.books.copies parts.1;
    }

-- one is left out
first_skip : (test : DueSnap → Bool) (s : DueSnap) (ss : List DueSnap) → test s ≡ false → first_by test snap_number ss ≡ first_by test snap_number (s ∷ ss)
first_skip test s ss e = rw e refl

least_skip : (h : DueSnap → Option ℕ) (s : DueSnap) (ss : List DueSnap) → h s ≡ None → least_of h ss ≡ least_of h (s ∷ ss)
least_skip h s ss e = rw e refl

first_cut : (test : DueSnap → Bool) (s : DueSnap) (ss : List DueSnap) → test s ≡ false → first_by test snap_number ss ≡ first_by test snap_number (ss ++ s ∷ [])
first_cut test s [] e = rw e refl
first_cut test s (x ∷ xs) e = ap (λ r. if test x then Some (snap_number x) else r) (first_cut test s xs e)

least_cut : (h : DueSnap → Option ℕ) (s : DueSnap) (ss : List DueSnap) → h s ≡ None → least_of h ss ≡ least_of h (ss ++ s ∷ [])
least_cut h s [] e = rw e refl
least_cut h s (x ∷ xs) e = ap (λ r. least (h x) r) (least_cut h s xs e)

pub alike_all : (ss : List DueSnap) → AreAlike ss ss
alike_all ss = record { marking = refl; flushing = refl; publishing = λ rs. refl; committing = refl; zeroing = refl; writing = refl }

alike_then : (xs ys zs : List DueSnap) → AreAlike xs ys → AreAlike ys zs → AreAlike xs zs
alike_then xs ys zs a b = record {
  marking = a.marking ∙ b.marking;
  flushing = a.flushing ∙ b.flushing;
  publishing = λ rs. a.publishing rs ∙ b.publishing rs;
  committing = a.committing ∙ b.committing;
  zeroing = a.zeroing ∙ b.zeroing;
  writing = a.writing ∙ b.writing;
}

skip : (s : DueSnap) (ss : List DueSnap) → IsIdle s → AreAlike ss (s ∷ ss)
skip s ss idle = record {
  marking = first_skip can_mark s ss idle.marking;
  flushing = first_skip can_flush_store s ss idle.flushing;
  publishing = λ rs. least_skip (publishable_of rs) s ss (idle.publishing rs);
  committing = first_skip can_commit s ss idle.committing;
  zeroing = first_skip can_zero s ss idle.zeroing;
  writing = least_skip (copy_of Read) s ss idle.writing;
}

cut : (s : DueSnap) (ss : List DueSnap) → IsIdle s → AreAlike ss (ss ++ s ∷ [])
cut s ss idle = record {
  marking = first_cut can_mark s ss idle.marking;
  flushing = first_cut can_flush_store s ss idle.flushing;
  publishing = λ rs. least_cut (publishable_of rs) s ss (idle.publishing rs);
  committing = first_cut can_commit s ss idle.committing;
  zeroing = first_cut can_zero s ss idle.zeroing;
  writing = least_cut (copy_of Read) s ss idle.writing;
}

-- what waits of a snapshot that only waits is its first copy, or nothing
pub idle_first : (s : DueSnap) (cs : List ChunkCopy) (p : ChunkCopy) → is_busy s ≡ false → cs ≡ s.books.copies → 1 ≤ length cs → p ≡ get_or cs 0 p → copy_of Waiting s ≡ Some p.number
idle_first s cs p e same some is =
    let parts = or_parts (s.books.untried || not (length s.books.marks == 0)) (list_any is_begun s.books.copies) e in
    ap (first_by (is_copy_at Waiting) number_of_copy) (sym same) ∙ waiting_first cs p some is (ap (list_any is_begun) same ∙ parts.1)

pub idle_none : (s : DueSnap) (cs : List ChunkCopy) → cs ≡ s.books.copies → length cs < 1 → copy_of Waiting s ≡ None
idle_none s cs same none = ap (first_by (is_copy_at Waiting) number_of_copy) (sym same ∙ nil_from_length cs (omega (arith, none)))

map_end : {X Y : Type 0} (f : X → Y) (xs : List X) (x : X) → map f (xs ++ x ∷ []) ≡ map f xs ++ f x ∷ []
map_end f [] x = refl
map_end f (y ∷ ys) x = ap (λ zs. f y ∷ zs) (map_end f ys x)

module _ {X : Type 0} (f : X → DueSnap) (xs : List X) (k : ℕ) (x : X) (within : k < length xs) (is : x ≡ get_or xs k x) (idle : is_busy (f x) ≡ false) where
  here : get_or xs k x ≡ x
  here = sym is

  -- the first of the rest only waits
  pub alike_front : AreAlike (map f (drop k xs)) (map f xs) → AreAlike (map f (drop (k + 1) xs)) (map f xs)
  alike_front so =
      let rest : drop k xs ≡ x ∷ drop (k + 1) xs = drop_more xs k x within ∙ ap (λ y. y ∷ drop (k + 1) xs) here in
      alike_then (map f (drop (k + 1) xs)) (map f (drop k xs)) (map f xs)
      (subst (λ ys. AreAlike (map f (drop (k + 1) xs)) (map f ys)) (sym rest) (skip (f x) (map f (drop (k + 1) xs)) (idle_by (f x) idle))) so

  -- the last of those before only waits
  pub alike_back : AreAlike (map f (take (k + 1) xs)) (map f xs) → AreAlike (map f (take k xs)) (map f xs)
  alike_back so =
      let rest : take (k + 1) xs ≡ take k xs ++ x ∷ [] = take_more xs k x within ∙ ap (λ y. take k xs ++ y ∷ []) here in
      alike_then (map f (take k xs)) (map f (take (k + 1) xs)) (map f xs)
      (subst (AreAlike (map f (take k xs))) (sym (ap (map f) rest ∙ map_end f (take k xs) x)) (cut (f x) (map f (take k xs)) (idle_by (f x) idle))) so

-- the event that is due first of some is that of all
pub busy_same : (part all : List DueSnap) (rs : List Flight) → AreAlike part all → busy_due part rs ≡ busy_due all rs
busy_same part all rs a =
    by (first_by can_mark snap_number part) (first_by can_mark snap_number all) (first_by can_flush_store snap_number part) (first_by can_flush_store snap_number all) (least_of (publishable_of rs) part) (least_of (publishable_of rs) all)
    (first_by can_commit snap_number part) (first_by can_commit snap_number all) (first_by can_zero snap_number part) (first_by can_zero snap_number all) (least_of (copy_of Read) part) (least_of (copy_of Read) all)
    a.marking a.flushing (a.publishing rs) a.committing a.zeroing a.writing
  where
    by : (m m' f f' p p' c c' z z' w w' : Option ℕ) → m ≡ m' → f ≡ f' → p ≡ p' → c ≡ c' → z ≡ z' → w ≡ w'
        → event_or m WriteInvalid (event_or f FlushStore (event_or p Publish (event_or c WriteArea (event_or z ZeroNext (event_or w CopyWrite None)))))
        ≡ event_or m' WriteInvalid (event_or f' FlushStore (event_or p' Publish (event_or c' WriteArea (event_or z' ZeroNext (event_or w' CopyWrite None)))))
    by m m' f f' p p' c c' z z' w w' a b d e g h = rw (a, b, d, e, g, h) refl

-- what is due first of all, in two parts
abbrev pub first_of : Option Event → Option Event → Option Event
first_of None b = b
first_of (Some e) b = Some e

then_or : (a : Option ℕ) (event : ℕ → Event) (rest more : Option Event) → event_or a event (first_of rest more) ≡ first_of (event_or a event rest) more
then_or None event rest more = refl
then_or (Some n) event rest more = refl

split : (m f p c z w : Option ℕ) (more : Option Event)
    → event_or m WriteInvalid (event_or f FlushStore (event_or p Publish (event_or c WriteArea (event_or z ZeroNext (event_or w CopyWrite more)))))
    ≡ first_of (event_or m WriteInvalid (event_or f FlushStore (event_or p Publish (event_or c WriteArea (event_or z ZeroNext (event_or w CopyWrite None)))))) more
split m f p c z w more =
    let six = then_or w CopyWrite None more in
    let five = ap (event_or z ZeroNext) six ∙ then_or z ZeroNext (event_or w CopyWrite None) more in
    let four = ap (event_or c WriteArea) five ∙ then_or c WriteArea (event_or z ZeroNext (event_or w CopyWrite None)) more in
    let three = ap (event_or p Publish) four ∙ then_or p Publish (event_or c WriteArea (event_or z ZeroNext (event_or w CopyWrite None))) more in
    let two = ap (event_or f FlushStore) three ∙ then_or f FlushStore (event_or p Publish (event_or c WriteArea (event_or z ZeroNext (event_or w CopyWrite None)))) more in
    ap (event_or m WriteInvalid) two ∙ then_or m WriteInvalid (event_or f FlushStore (event_or p Publish (event_or c WriteArea (event_or z ZeroNext (event_or w CopyWrite None))))) more

due_split : (snaps : List DueSnap) (rs : List Flight) → due_of snaps rs ≡ first_of (busy_due snaps rs) (waiting_due snaps rs)
due_split snaps rs =
    split (first_by can_mark snap_number snaps) (first_by can_flush_store snap_number snaps) (least_of (publishable_of rs) snaps) (first_by can_commit snap_number snaps) (first_by can_zero snap_number snaps) (least_of (copy_of Read) snaps) (waiting_due snaps rs)

-- what is found first of some that are alike is due first of all; and where nothing is, what waits
module _ (part some all : List DueSnap) (rs : List Flight) (one : AreAlike part some) (two : AreAlike some all) where
  same : busy_due part rs ≡ busy_due all rs
  same = busy_same part all rs (alike_then part some all one two)

  pub due_busy : (event : Event) → busy_due part rs ≡ Some event → due_of all rs ≡ Some event
  due_busy event e = due_split all rs ∙ ap (λ b. first_of b (waiting_due all rs)) (sym same ∙ e)

  pub due_waiting : busy_due part rs ≡ None → due_of all rs ≡ waiting_due all rs
  due_waiting e = due_split all rs ∙ ap (λ b. first_of b (waiting_due all rs)) (sym same ∙ e)
