-- Which event is due first where one snapshot has a copy, a mark or a spoil, those before it are idle, and those after it
-- have copies that wait at most.
use Rattle.std.specs.List.{list_any}
use Rattle.std.proofs.Common.{◌≡◌, ℕ, true, false, List, [], ◌∷◌, ◌++◌, Option, Some, None, refl, ap}
use Rattle.plain_machine.specs.declared.event.Event.TheVariants.{CopyRead, CopyWrite, ZeroNext, WriteArea, Publish, WriteInvalid, FlushStore}
use Rattle.plain_machine.specs.declared.request.Reply.{Reply}
use Rattle.in_flight.specs.declared.copies.Stage.{Stage}
use Rattle.in_flight.specs.declared.copies.Stage.TheVariants.{Waiting, Read}
use Rattle.in_flight.specs.Due.{first_by, least}
use Rattle.whole_commands.specs.Devices.{Device}
use Rattle.event_machine.specs.Held.{SnapHeld, Going, MergeHeld, Moving, number_of}
use Rattle.event_machine.specs.Due.{can_mark, can_flush_store, can_commit, can_zero, copy_at, publishable_in, is_issuable, number_of_going, least_in, chosen, due, is_front_ready, is_front_unflushed}
use Rattle.whole_commands.proofs.Each.{Each, each_weaker}
use Rattle.event_machine.specs.Stepping.{is_copy}
use Rattle.event_machine.proofs.Lists.{here_by, none_by, nowhere_by, only_least, first_least, nowhere_least, none_least, Above}

-- a volume
abbrev pub at_with : Option MergeHeld → Device → List SnapHeld → List Going → Option Reply → ℕ → Moving
at_with merge origin snaps requests replied started = record { origin = origin; snaps = snaps; merge = merge; requests = requests; replied = replied; started = started }

-- one without a merge; what is due of snapshots and requests is due beside any merge
abbrev pub at : Device → List SnapHeld → List Going → Option Reply → ℕ → Moving
at origin snaps requests replied started = at_with None origin snaps requests replied started

-- one without a merge is that
pub at_alone : (v : Moving) → v.merge ≡ None → v ≡ at v.origin v.snaps v.requests v.replied v.started
at_alone v alone = ap (λ (merge : Option MergeHeld). let w : Moving = record v { merge = merge } in w) alone

pub record IsIdle (h : SnapHeld) : Type 0 where
  pub tried : h.untried ≡ false
  pub copies : h.copies ≡ []
  pub marks : h.marks ≡ []

pub record IsLater (h : SnapHeld) : Type 0 where
  pub tried : h.untried ≡ false
  pub marks : h.marks ≡ []
  pub front : is_front_ready h.copies ≡ false
  pub unflushed : is_front_unflushed h.copies ≡ false
  pub read : copy_at Read h ≡ None

idle_waits : (h : SnapHeld) → IsIdle h → copy_at Waiting h ≡ None
idle_waits h idle = rw idle.copies refl

pub idle_later : (h : SnapHeld) → IsIdle h → IsLater h
idle_later h idle = record { tried = idle.tried; marks = idle.marks; front = rw idle.copies refl; unflushed = rw idle.copies refl; read = rw idle.copies refl }

-- A snapshot before the one that has copy n: it has no copy of that number, and one that waits comes after it.
pub record IsBefore (n : ℕ) (h : SnapHeld) : Type 0 where
  pub later : IsLater h
  pub above : Above n (copy_at Waiting h)
  pub apart : (stage : Stage) → list_any (is_copy stage n) h.copies ≡ false

pub idle_before : (n : ℕ) (h : SnapHeld) → IsIdle h → IsBefore n h
idle_before n h idle = record { later = idle_later h idle; above = rw idle.copies tt; apart = λ stage. rw idle.copies refl }

pub later_marks : (h : SnapHeld) → IsLater h → can_mark h ≡ false
later_marks h later = rw later.tried refl

pub later_flushes : (h : SnapHeld) → IsLater h → can_flush_store h ≡ false
later_flushes h later = rw (later.tried, later.unflushed, later.front, later.marks) refl

pub later_commits : (h : SnapHeld) → IsLater h → can_commit h ≡ false
later_commits h later = rw later.front refl

pub later_zeroes : (h : SnapHeld) → IsLater h → can_zero h ≡ false
later_zeroes h later = rw later.front refl

later_publishes : (rs : List Going) (h : SnapHeld) → IsLater h → publishable_in rs h ≡ None
later_publishes rs h later = rw later.marks refl

-- the choice, case by case
chosen_flush : (a b c d e f g i : Option ℕ) (n : ℕ) → a ≡ None → b ≡ Some n → chosen a b c d e f g i ≡ Some (FlushStore n)
chosen_flush a b c d e f g i n pa pb = rw (pa, pb) refl

chosen_publish : (a b c d e f g i : Option ℕ) (n : ℕ) → a ≡ None → b ≡ None → c ≡ Some n → chosen a b c d e f g i ≡ Some (Publish n)
chosen_publish a b c d e f g i n pa pb pc = rw (pa, pb, pc) refl

chosen_area : (a b c d e f g i : Option ℕ) (n : ℕ) → a ≡ None → b ≡ None → c ≡ None → d ≡ Some n → chosen a b c d e f g i ≡ Some (WriteArea n)
chosen_area a b c d e f g i n pa pb pc pd = rw (pa, pb, pc, pd) refl

chosen_zeros : (a b c d e f g i : Option ℕ) (n : ℕ) → a ≡ None → b ≡ None → c ≡ None → d ≡ None → e ≡ Some n → chosen a b c d e f g i ≡ Some (ZeroNext n)
chosen_zeros a b c d e f g i n pa pb pc pd pe = rw (pa, pb, pc, pd, pe) refl

chosen_write : (a b c d e f g i : Option ℕ) (n : ℕ) → a ≡ None → b ≡ None → c ≡ None → d ≡ None → e ≡ None → f ≡ Some n → chosen a b c d e f g i ≡ Some (CopyWrite n)
chosen_write a b c d e f g i n pa pb pc pd pe pf = rw (pa, pb, pc, pd, pe, pf) refl

chosen_read : (a b c d e f g i : Option ℕ) (n : ℕ) → a ≡ None → b ≡ None → c ≡ None → d ≡ None → e ≡ None → f ≡ None → g ≡ Some n → chosen a b c d e f g i ≡ Some (CopyRead n)
chosen_read a b c d e f g i n pa pb pc pd pe pf pg = rw (pa, pb, pc, pd, pe, pf, pg) refl

-- a spoiled snapshot's mark comes first
pub due_invalid : (origin : Device) (done rest : List SnapHeld) (h : SnapHeld) (rs : List Going) (a : Option Reply) (k : ℕ) → Each (λ d. d.untried ≡ false) done → h.untried ≡ true → h.marked ≡ false → due (at origin (done ++ h ∷ rest) rs a k) ≡ Some (WriteInvalid h.snap.number)
due_invalid origin done rest h rs a k before is unmarked =
    rw (here_by can_mark number_of done rest h (each_weaker (λ d. d.untried ≡ false) (λ d. can_mark d ≡ false) done (λ d tried. rw tried refl) before) (rw (is, unmarked) refl)) refl

module _ (origin : Device) (done rest : List SnapHeld) (h : SnapHeld) (rs : List Going) (a : Option Reply) (k : ℕ) (befores : Each IsLater done) (later : Each IsLater rest) where
  no_mark : can_mark h ≡ false → first_by can_mark number_of (done ++ h ∷ rest) ≡ None
  no_mark is = nowhere_by can_mark number_of done rest h (each_weaker IsLater (λ d. can_mark d ≡ false) done later_marks befores) is (each_weaker IsLater (λ d. can_mark d ≡ false) rest later_marks later)

  tried_mark : h.untried ≡ false → first_by can_mark number_of (done ++ h ∷ rest) ≡ None
  tried_mark tried = no_mark (rw tried refl)

  no_flush : can_flush_store h ≡ false → first_by can_flush_store number_of (done ++ h ∷ rest) ≡ None
  no_flush is = nowhere_by can_flush_store number_of done rest h (each_weaker IsLater (λ d. can_flush_store d ≡ false) done later_flushes befores) is (each_weaker IsLater (λ d. can_flush_store d ≡ false) rest later_flushes later)

  no_publish : publishable_in rs h ≡ None → least_in (publishable_in rs) (done ++ h ∷ rest) ≡ None
  no_publish is = nowhere_least (publishable_in rs) done rest h (each_weaker IsLater (λ d. publishable_in rs d ≡ None) done (later_publishes rs) befores) is (each_weaker IsLater (λ d. publishable_in rs d ≡ None) rest (later_publishes rs) later)

  no_area : can_commit h ≡ false → first_by can_commit number_of (done ++ h ∷ rest) ≡ None
  no_area is = nowhere_by can_commit number_of done rest h (each_weaker IsLater (λ d. can_commit d ≡ false) done later_commits befores) is (each_weaker IsLater (λ d. can_commit d ≡ false) rest later_commits later)

  no_zeros : can_zero h ≡ false → first_by can_zero number_of (done ++ h ∷ rest) ≡ None
  no_zeros is = nowhere_by can_zero number_of done rest h (each_weaker IsLater (λ d. can_zero d ≡ false) done later_zeroes befores) is (each_weaker IsLater (λ d. can_zero d ≡ false) rest later_zeroes later)

  no_write : copy_at Read h ≡ None → least_in (copy_at Read) (done ++ h ∷ rest) ≡ None
  no_write is = nowhere_least (copy_at Read) done rest h (each_weaker IsLater (λ d. copy_at Read d ≡ None) done (λ d i. i.read) befores) is (each_weaker IsLater (λ d. copy_at Read d ≡ None) rest (λ d i. i.read) later)

  -- something of one waits for a flush of its store, and no mark is to be written
  pub due_flush : can_mark h ≡ false → can_flush_store h ≡ true → due (at origin (done ++ h ∷ rest) rs a k) ≡ Some (FlushStore h.snap.number)
  due_flush marked is =
      chosen_flush _ _ _ _ _ _ _ _ h.snap.number (no_mark marked)
      (here_by can_flush_store number_of done rest h (each_weaker IsLater (λ d. can_flush_store d ≡ false) done later_flushes befores) is)

  pub due_publish : (n : ℕ) → h.untried ≡ false → can_flush_store h ≡ false → publishable_in rs h ≡ Some n → due (at origin (done ++ h ∷ rest) rs a k) ≡ Some (Publish n)
  due_publish n tried flushed is =
      chosen_publish _ _ _ _ _ _ _ _ n (tried_mark tried) (no_flush flushed)
      (only_least (publishable_in rs) n done rest h (each_weaker IsLater (λ d. publishable_in rs d ≡ None) done (later_publishes rs) befores) is (each_weaker IsLater (λ d. publishable_in rs d ≡ None) rest (later_publishes rs) later))

  pub due_area : h.untried ≡ false → can_flush_store h ≡ false → publishable_in rs h ≡ None → can_commit h ≡ true → due (at origin (done ++ h ∷ rest) rs a k) ≡ Some (WriteArea h.snap.number)
  due_area tried flushed unmarked is =
      chosen_area _ _ _ _ _ _ _ _ h.snap.number (tried_mark tried) (no_flush flushed) (no_publish unmarked)
      (here_by can_commit number_of done rest h (each_weaker IsLater (λ d. can_commit d ≡ false) done later_commits befores) is)

  pub due_zeros : h.untried ≡ false → can_flush_store h ≡ false → publishable_in rs h ≡ None → can_commit h ≡ false → can_zero h ≡ true → due (at origin (done ++ h ∷ rest) rs a k) ≡ Some (ZeroNext h.snap.number)
  due_zeros tried flushed unmarked not_yet is =
      chosen_zeros _ _ _ _ _ _ _ _ h.snap.number (tried_mark tried) (no_flush flushed) (no_publish unmarked) (no_area not_yet)
      (here_by can_zero number_of done rest h (each_weaker IsLater (λ d. can_zero d ≡ false) done later_zeroes befores) is)

  pub due_write : (n : ℕ) → h.untried ≡ false → can_flush_store h ≡ false → publishable_in rs h ≡ None → is_front_ready h.copies ≡ false → copy_at Read h ≡ Some n → due (at origin (done ++ h ∷ rest) rs a k) ≡ Some (CopyWrite n)
  due_write n tried flushed unmarked front is =
      chosen_write _ _ _ _ _ _ _ _ n (tried_mark tried) (no_flush flushed) (no_publish unmarked) (no_area (rw front refl)) (no_zeros (rw front refl))
      (only_least (copy_at Read) n done rest h (each_weaker IsLater (λ d. copy_at Read d ≡ None) done (λ d i. i.read) befores) is (each_weaker IsLater (λ d. copy_at Read d ≡ None) rest (λ d i. i.read) later))

  pub due_read : (n : ℕ) → Each (λ d. Above n (copy_at Waiting d)) done → IsLater h → copy_at Waiting h ≡ Some n → least (Some n) (least_in (copy_at Waiting) rest) ≡ Some n → due (at origin (done ++ h ∷ rest) rs a k) ≡ Some (CopyRead n)
  due_read n above here is low =
      chosen_read _ _ _ _ _ _ _ _ n (tried_mark here.tried) (no_flush (later_flushes h here)) (no_publish (later_publishes rs h here)) (no_area (later_commits h here)) (no_zeros (later_zeroes h here)) (no_write here.read)
      (first_least (copy_at Waiting) n done rest h above is low)

-- where all snapshots are idle, a request that goes somewhere, or nothing
module _ (origin : Device) (snaps : List SnapHeld) (rs : List Going) (a : Option Reply) (k : ℕ) (idle : Each IsIdle snaps) where
  all_later : Each IsLater snaps
  all_later = each_weaker IsIdle IsLater snaps idle_later idle

  pub due_request : (o : Option ℕ) → first_by is_issuable number_of_going rs ≡ o → due (at origin snaps rs a k) ≡ chosen None None None None None None None o
  due_request o is =
      rw (
        none_by can_mark number_of snaps (each_weaker IsLater (λ d. can_mark d ≡ false) snaps later_marks all_later),
        none_by can_flush_store number_of snaps (each_weaker IsLater (λ d. can_flush_store d ≡ false) snaps later_flushes all_later),
        none_least (publishable_in rs) snaps (each_weaker IsLater (λ d. publishable_in rs d ≡ None) snaps (later_publishes rs) all_later),
        none_by can_commit number_of snaps (each_weaker IsLater (λ d. can_commit d ≡ false) snaps later_commits all_later),
        none_by can_zero number_of snaps (each_weaker IsLater (λ d. can_zero d ≡ false) snaps later_zeroes all_later),
        none_least (copy_at Read) snaps (each_weaker IsLater (λ d. copy_at Read d ≡ None) snaps (λ d i. i.read) all_later),
        none_least (copy_at Waiting) snaps (each_weaker IsIdle (λ d. copy_at Waiting d ≡ None) snaps idle_waits idle),
        is,
      ) refl
