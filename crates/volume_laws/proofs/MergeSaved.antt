-- What a merge keeps of itself and of the other snapshots, over each event.
use Rattle.std.proofs.Common.{◌≡◌, ◌≢◌, inl, inr, ℕ, ◌+◌, ◌*◌, ◌/◌, ◌<◌, Bool, true, false, List, [], ◌∷◌, ◌++◌, Some, None, length, get_or, set, map, take, refl, sym, ◌∙◌, ap, subst, arith, append_assoc, append-nil, length-append}
use Rattle.std.specs.List.{All, remove}
use Rattle.std.specs.Prelude.{Any}
use Rattle.std.proofs.lemmas.Bool.{cases_Bool, cases_eq, false≢true}
use Rattle.std.proofs.lemmas.List.{take-map, get_or-append-add, get_or_default, get_or-set_same, get_or-set_other, length-set}
use Rattle.std.proofs.lemmas.List.Elements.{All-set, All-weaker, All-cons, All-nil}
use Rattle.sector.specs.declared.pair.Pair.{Pair}
use Rattle.cow_format.specs.Picture.{place_of}
use Rattle.in_flight.specs.Copies.{count_of, pair_of}
use Rattle.in_flight.specs.declared.copies.ChunkCopy.{ChunkCopy}
use Rattle.in_flight.specs.declared.copies.Mark.{Mark}
use Rattle.in_flight.specs.declared.flights.Flight.{Flight}
use Rattle.volume_laws.specs.Books.{SnapBooks, MergeBooks, Books, group_of}
use Rattle.volume_laws.specs.Published.{IsPublished, is_published, IsSaved, IsSavedOver, next_over}
use Rattle.volume_laws.specs.Held.{LiveHolds}
use Rattle.volume_laws.specs.Steps.{IsSame, ReadsCopy, WritesCopy, ZeroesArea, Commits, FlushesStore, Unmarks, StartsCopy, WritesPlace, SpoilsSnap, TriesMark, ChangesSnap, SpoilsOne, mark_of}
use Rattle.volume_laws.specs.Waits.{IsSaving}
use Rattle.volume_laws.specs.MergeDue.{DueMerge, last_of, next_pair}
use Rattle.volume_laws.specs.MergeWaits.{next_pairs, next_in, IsSavedSoon, IsSavedIn, IsStaged, MergeSteady, MergeGoes}
use Rattle.volume_laws.specs.MergeSteps.{FormsGroup, ReadsBack, WritesBack, FlushesBack, CommitsGroup, ReleasesGroup, ReadsArea, FailsMerge, Resumes, WritesStore, without_group}
use Rattle.volume_laws.proofs.Lists.{All-remove}
use Rattle.volume_laws.proofs.Committing.{published_more, fresh_marks}
use Rattle.volume_laws.proofs.Waiting.{KeepsWaiting}
use Rattle.volume_laws.proofs.Clear.{published_true}
use Rattle.volume_laws.proofs.Flushing.{published_flushed, is_published_flushed}
use Rattle.volume_laws.proofs.Keeping.{copy_read_keeps, copy_write_keeps, zero_keeps, flush_keeps, start_keeps, commit_keeps, published_test, not_published}
use Rattle.volume_laws.proofs.Nexts.{next_same}
use Rattle.volume_laws.proofs.MergeEvents.{IsUngrouped}
use Rattle.volume_laws.proofs.MergeLeft.{no_group}

-- What an event of another snapshot must keep for a merge, where it leaves that snapshot live.
pub record KeepsSaved (s s' : SnapBooks) : Type 0 where
  pub live : s'.live ≡ true → s.live ≡ true
  pub chunk : s'.live ≡ true → s'.chunk ≡ s.chunk
  pub saving : s'.live ≡ true → (c : ℕ) → IsSaving c s → IsSaving c s'
  pub published : s'.live ≡ true → (c : ℕ) → IsPublished s.pairs s.marks c → IsPublished s'.pairs s'.marks c

saved_still : (first : ℕ) (s s' : SnapBooks) → KeepsSaved s s' → IsSaved first s → IsSaved first s'
saved_still first s s' keeps h live = subst (λ n. IsPublished s'.pairs s'.marks (first / n)) (sym (keeps.chunk live)) (keeps.published live (first / s.chunk) (h (keeps.live live)))

over_still : (first count : ℕ) (s s' : SnapBooks) → KeepsSaved s s' → IsSavedOver first count s → IsSavedOver first count s'
over_still first count s s' keeps h i lt = saved_still (first + i) s s' keeps (h i lt)

-- And what each but a publication keeps: just the same chunks are published, so the one that comes next is the same.
pub record KeepsNext (s s' : SnapBooks) : Type 0 where
  pub saved : KeepsSaved s s'
  pub same : s'.live ≡ true → (c : ℕ) → is_published s'.pairs s'.marks c ≡ is_published s.pairs s.marks c

pub next_still : (first count : ℕ) (s s' : SnapBooks) → KeepsNext s s' → s'.live ≡ true → next_over first count s' ≡ next_over first count s
next_still first count s s' keeps live = next_same first count s s' (keeps.saved.chunk live) (keeps.same live)

saving_still : (first count : ℕ) (s s' : SnapBooks) → KeepsNext s s' → (s.live ≡ true → IsSaving (next_over first count s) s) → s'.live ≡ true → IsSaving (next_over first count s') s'
saving_still first count s s' keeps h live =
    subst (λ c. IsSaving c s') (sym (next_still first count s s' keeps live)) (keeps.saved.saving live (next_over first count s) (h (keeps.saved.live live)))

-- a merge that goes on is steady, and one that is steady goes on where the copies of its next chunk are started
pub goes_steady : (snaps : List SnapBooks) (d : DueMerge) → MergeGoes snaps d → MergeSteady snaps d
goes_steady snaps d h = record { staged = h.staged; ending = h.ending; area = h.area; saved = h.saved }

pub steady_goes : (snaps : List SnapBooks) (d : DueMerge) → MergeSteady snaps d → All (IsSavedSoon d.books.chunk d.books.sectors snaps) (next_in d.books) → MergeGoes snaps d
steady_goes snaps d h soon = record { staged = h.staged; ending = h.ending; area = h.area; next = soon; saved = h.saved }

-- of all snapshots, where one changes
module _ (snaps : List SnapBooks) (k : ℕ) (s s' : SnapBooks) (within : k < length snaps) (is : s ≡ get_or snaps k s) (keeps : KeepsSaved s s') where
  pub saved_set : (first : ℕ) → All (IsSaved first) snaps → All (IsSaved first) (set snaps k s')
  saved_set first h = All-set (IsSaved first) snaps k s' (saved_still first s s' keeps (subst (IsSaved first) (sym is) (h k s within))) h

  pub saved_in : (chunk sectors : ℕ) (q : Pair) → IsSavedIn chunk sectors snaps q → IsSavedIn chunk sectors (set snaps k s') q
  saved_in chunk sectors q h =
      All-set (IsSavedOver (chunk * q.old) (count_of chunk sectors q.old)) snaps k s'
      (over_still (chunk * q.old) (count_of chunk sectors q.old) s s' keeps (subst (IsSavedOver (chunk * q.old) (count_of chunk sectors q.old)) (sym is) (h k s within))) h

  -- a publication leaves the merge steady
  pub steady_changed : (d : DueMerge) → MergeSteady snaps d → MergeSteady (set snaps k s') d
  steady_changed d h = record {
    staged = h.staged;
    ending = h.ending;
    area = h.area;
    saved = All-weaker (IsSavedIn d.books.chunk d.books.sectors snaps) (IsSavedIn d.books.chunk d.books.sectors (set snaps k s')) (saved_in d.books.chunk d.books.sectors) (d.books.copied ++ d.books.released) h.saved;
  }

-- and each other event lets it go on
module _ (snaps : List SnapBooks) (k : ℕ) (s s' : SnapBooks) (within : k < length snaps) (is : s ≡ get_or snaps k s) (keeps : KeepsNext s s') where
  pub saved_soon : (chunk sectors : ℕ) (q : Pair) → IsSavedSoon chunk sectors snaps q → IsSavedSoon chunk sectors (set snaps k s') q
  saved_soon chunk sectors q h =
      All-set (λ v. v.live ≡ true → IsSaving (next_over (chunk * q.old) (count_of chunk sectors q.old) v) v) snaps k s'
      (saving_still (chunk * q.old) (count_of chunk sectors q.old) s s' keeps
      (subst (λ (v : SnapBooks). v.live ≡ true → IsSaving (next_over (chunk * q.old) (count_of chunk sectors q.old) v) v) (sym is) (h k s within))) h

  pub goes_changed : (d : DueMerge) → MergeGoes snaps d → MergeGoes (set snaps k s') d
  goes_changed d h = steady_goes (set snaps k s') d (steady_changed snaps k s s' within is keeps.saved d (goes_steady snaps d h))
      (All-weaker (IsSavedSoon d.books.chunk d.books.sectors snaps) (IsSavedSoon d.books.chunk d.books.sectors (set snaps k s')) (saved_soon d.books.chunk d.books.sectors) (next_in d.books) h.next)

-- an event that keeps what waits, and what is published
keeps_too : (s s' : SnapBooks) → KeepsWaiting s s' → ((c : ℕ) → IsPublished s.pairs s.marks c → IsPublished s'.pairs s'.marks c) → KeepsSaved s s'
keeps_too s s' keeps published = record {
  live = λ live. sym keeps.live ∙ live;
  chunk = λ _. keeps.chunk;
  saving = λ _. keeps.saving;
  published = λ _. published;
}

same_published : (s s' : SnapBooks) → s'.pairs ≡ s.pairs → s'.marks ≡ s.marks → (c : ℕ) → IsPublished s.pairs s.marks c → IsPublished s'.pairs s'.marks c
same_published s s' pairs marks c h = subst (λ x. IsPublished x s'.marks c) (sym pairs) (subst (λ x. IsPublished s.pairs x c) (sym marks) h)

-- where the pairs and the marks stay, what comes next does
pub next_by : (s s' : SnapBooks) → KeepsSaved s s' → s'.pairs ≡ s.pairs → s'.marks ≡ s.marks → KeepsNext s s'
next_by s s' saved pairs marks = record { saved = saved; same = λ _ c. ap (λ x. is_published x s'.marks c) pairs ∙ ap (λ x. is_published s.pairs x c) marks }

pub copy_read_saved : (o : List ℕ) (k : ℕ) (p q : ChunkCopy) (v w : SnapBooks) → ReadsCopy o k p q v w → KeepsSaved v w
copy_read_saved o k p q v w e = keeps_too v w (copy_read_keeps o k p q v w e) (same_published v w e.store.pairs e.marks)

pub copy_read_next : (o : List ℕ) (k : ℕ) (p q : ChunkCopy) (v w : SnapBooks) → ReadsCopy o k p q v w → KeepsNext v w
copy_read_next o k p q v w e = next_by v w (copy_read_saved o k p q v w e) e.store.pairs e.marks

pub copy_write_saved : (k : ℕ) (p q : ChunkCopy) (v w : SnapBooks) → WritesCopy k p q v w → KeepsSaved v w
copy_write_saved k p q v w e = keeps_too v w (copy_write_keeps k p q v w e) (same_published v w e.pairs e.marks)

pub copy_write_next : (k : ℕ) (p q : ChunkCopy) (v w : SnapBooks) → WritesCopy k p q v w → KeepsNext v w
copy_write_next k p q v w e = next_by v w (copy_write_saved k p q v w e) e.pairs e.marks

pub zero_saved : (a : ℕ) (v w : SnapBooks) → ZeroesArea a v w → KeepsSaved v w
zero_saved a v w e = keeps_too v w (zero_keeps a v w e) (same_published v w e.pairs e.marks)

pub zero_next : (a : ℕ) (v w : SnapBooks) → ZeroesArea a v w → KeepsNext v w
zero_next a v w e = next_by v w (zero_saved a v w e) e.pairs e.marks

pub start_saved : (p : ChunkCopy) (v w : SnapBooks) → StartsCopy p v w → KeepsSaved v w
start_saved p v w e = keeps_too v w (start_keeps p v w e) (same_published v w e.pairs e.marks)

pub start_next : (p : ChunkCopy) (v w : SnapBooks) → StartsCopy p v w → KeepsNext v w
start_next p v w e = next_by v w (start_saved p v w e) e.pairs e.marks

pub commit_saved : {l : Bool} (o : List ℕ) (rs : List Flight) (count a : ℕ) (v w : SnapBooks) → LiveHolds l o rs v → Commits count a v w → KeepsSaved v w
commit_saved o rs count a v w h e =
    let qs : List Pair = map pair_of (take count v.copies) in
    let ns : List Mark = map mark_of (take count v.copies) in
    let pairs : w.pairs ≡ v.pairs ++ map pair_of (take count v.copies) = e.pairs ∙ ap (λ x. v.pairs ++ x) (ap (take count) h.agree ∙ take-map pair_of count v.copies) in
    keeps_too v w (commit_keeps o rs count a v w h e) (λ c old.
    subst (λ x. IsPublished x w.marks c) (sym pairs) (subst (λ x. IsPublished (v.pairs ++ map pair_of (take count v.copies)) x c) (sym e.marks)
    (published_more v.pairs (map pair_of (take count v.copies)) v.marks (map mark_of (take count v.copies)) c (fresh_marks o rs count a v w h e) old)))

pub commit_next : {l : Bool} (o : List ℕ) (rs : List Flight) (count a : ℕ) (v w : SnapBooks) → LiveHolds l o rs v → Commits count a v w → KeepsNext v w
commit_next o rs count a v w h e = record {
  saved = commit_saved o rs count a v w h e;
  same = λ live c. elim (cases_Bool (is_published v.pairs v.marks c)) [
    | inl here ↦ published_test w.pairs w.marks c ((commit_saved o rs count a v w h e).published live c (published_true v.pairs v.marks c here)) ∙ sym here
    | inr none ↦ ap (λ x. is_published x w.marks c) (e.pairs ∙ ap (λ x. v.pairs ++ x) (ap (take count) h.agree ∙ take-map pair_of count v.copies))
        ∙ ap (λ x. is_published (v.pairs ++ map pair_of (take count v.copies)) x c) e.marks ∙ not_published v.pairs v.marks (take count v.copies) c none ∙ sym none
  ];
}

-- FlushStore
pub flush_saved : (v w : SnapBooks) → FlushesStore v w → KeepsSaved v w
flush_saved v w e = keeps_too v w (flush_keeps v w e) (λ c old. subst (λ x. IsPublished x w.marks c) (sym e.pairs) (subst (λ x. IsPublished v.pairs x c) (sym e.marks) (published_flushed v.pairs v.marks c old)))

pub flush_next : (v w : SnapBooks) → FlushesStore v w → KeepsNext v w
flush_next v w e = record {
  saved = flush_saved v w e;
  same = λ _ c. ap (λ x. is_published x w.marks c) e.pairs ∙ ap (λ x. is_published v.pairs x c) e.marks ∙ is_published_flushed v.pairs v.marks c;
}

-- an event that leaves the pairs and the copies, and no mark more
keeps_pairs : (s s' : SnapBooks) → IsSame s s' → s'.pairs ≡ s.pairs → s'.copies ≡ s.copies → ((c : ℕ) → All (λ (m : Mark). m.chunk ≢ c) s.marks → All (λ (m : Mark). m.chunk ≢ c) s'.marks) → KeepsSaved s s'
keeps_pairs s s' same pairs copies marks = record {
  live = λ live. sym same.live ∙ live;
  chunk = λ _. same.chunk;
  saving = λ _ c. saves c;
  published = λ _ c h. record { placed = λ none. h.placed (ap (λ x. place_of x c) (sym pairs) ∙ none); unmarked = marks c h.unmarked };
}
  where
    saves : (c : ℕ) → IsSaving c s → IsSaving c s'
    saves c (inl named) = inl (λ none. named (ap (λ x. place_of x c) (sym pairs) ∙ none))
    saves c (inr any) = inr (subst (λ x. Any (λ (p : ChunkCopy). p.pair.old ≡ c) x) (sym copies) any)

pub unmark_saved : (k : ℕ) (m : Mark) (v w : SnapBooks) → Unmarks k m v w → KeepsSaved v w
unmark_saved k m v w e = keeps_pairs v w e.same e.store.pairs e.copies (λ c all. subst (All (λ (n : Mark). n.chunk ≢ c)) (sym e.marks) (All-remove (λ (n : Mark). n.chunk ≢ c) v.marks k all))

pub place_saved : (c place off : ℕ) (bytes : List ℕ) (v w : SnapBooks) → WritesPlace c place off bytes v w → KeepsSaved v w
place_saved c place off bytes v w e = keeps_pairs v w e.same e.pairs e.copies (λ n all. subst (All (λ (m : Mark). m.chunk ≢ n)) (sym e.marks) all)

pub place_next : (c place off : ℕ) (bytes : List ℕ) (v w : SnapBooks) → WritesPlace c place off bytes v w → KeepsNext v w
place_next c place off bytes v w e = next_by v w (place_saved c place off bytes v w e) e.pairs e.marks

-- a spoiled snapshot is asked for nothing
pub dead_saved : (s s' : SnapBooks) → s'.live ≡ false → KeepsSaved s s'
dead_saved s s' dead = record {
  live = λ live. absurd (false≢true (sym dead ∙ live));
  chunk = λ live. absurd (false≢true (sym dead ∙ live));
  saving = λ live. absurd (false≢true (sym dead ∙ live));
  published = λ live. absurd (false≢true (sym dead ∙ live));
}

pub dead_next : (s s' : SnapBooks) → s'.live ≡ false → KeepsNext s s'
dead_next s s' dead = record { saved = dead_saved s s' dead; same = λ live. absurd (false≢true (sym dead ∙ live)) }

pub spoil_saved : (v w : SnapBooks) → SpoilsSnap v w → KeepsSaved v w
spoil_saved v w e = dead_saved v w e.live

pub tried_saved : (v w : SnapBooks) → TriesMark v w → KeepsSaved v w
tried_saved v w e = dead_saved v w e.live

pub same_saved : (s : SnapBooks) → KeepsSaved s s
same_saved s = record { live = λ live. live; chunk = λ _. refl; saving = λ _ c h. h; published = λ _ c h. h }

pub keeps_both : (s t u : SnapBooks) → KeepsSaved s t → KeepsSaved t u → KeepsSaved s u
keeps_both s t u a b = record {
  live = λ live. a.live (b.live live);
  chunk = λ live. b.chunk live ∙ a.chunk (b.live live);
  saving = λ live c h. b.saving live c (a.saving (b.live live) c h);
  published = λ live c h. b.published live c (a.published (b.live live) c h);
}

-- each snapshot changes, as by the copies that a group's forming starts
pub record KeepsAll (snaps snaps' : List SnapBooks) : Type 0 where
  pub len : length snaps' ≡ length snaps
  pub each : (k : ℕ) (d : SnapBooks) → k < length snaps → KeepsSaved (get_or snaps k d) (get_or snaps' k d)

pub all_saved_in : (snaps snaps' : List SnapBooks) (chunk sectors : ℕ) (q : Pair) → KeepsAll snaps snaps' → IsSavedIn chunk sectors snaps q → IsSavedIn chunk sectors snaps' q
all_saved_in snaps snaps' chunk sectors q keeps h k d lt = over_still (chunk * q.old) (count_of chunk sectors q.old) (get_or snaps k d) (get_or snaps' k d) (keeps.each k d (omega (arith, lt, keeps.len))) (h k d (omega (arith, lt, keeps.len)))

pub steady_all : (snaps snaps' : List SnapBooks) (d : DueMerge) → KeepsAll snaps snaps' → MergeSteady snaps d → MergeSteady snaps' d
steady_all snaps snaps' d keeps h = record {
  staged = h.staged;
  ending = h.ending;
  area = h.area;
  saved = All-weaker (IsSavedIn d.books.chunk d.books.sectors snaps) (IsSavedIn d.books.chunk d.books.sectors snaps') (λ q. all_saved_in snaps snaps' d.books.chunk d.books.sectors q keeps) (d.books.copied ++ d.books.released) h.saved;
}

-- none changes, one changes, and changes one after another
pub keeps_all_same : (snaps : List SnapBooks) → KeepsAll snaps snaps
keeps_all_same snaps = record { len = refl; each = λ k d lt. same_saved (get_or snaps k d) }

pub keeps_all_set : (snaps : List SnapBooks) (k : ℕ) (s s' : SnapBooks) → k < length snaps → s ≡ get_or snaps k s → KeepsSaved s s' → KeepsAll snaps (set snaps k s')
keeps_all_set snaps k s s' within is keeps = record {
  len = length-set snaps k s';
  each = λ j d lt. elim (cases_eq j k) [
    | inl same ↦ (let at : s ≡ get_or snaps j d = is ∙ ap (λ i. get_or snaps i s) (sym same) ∙ get_or_default snaps j s d lt in
        let now : s' ≡ get_or (set snaps k s') j d = sym (ap (λ i. get_or (set snaps k s') i d) same ∙ get_or-set_same snaps k s' d within) in
        subst (λ x. KeepsSaved (get_or snaps j d) x) now (subst (λ x. KeepsSaved x s') at keeps))
    | inr other ↦ subst (KeepsSaved (get_or snaps j d)) (sym (get_or-set_other snaps k j s' d other)) (same_saved (get_or snaps j d))
  ];
}

pub keeps_all_both : (xs ys zs : List SnapBooks) → KeepsAll xs ys → KeepsAll ys zs → KeepsAll xs zs
keeps_all_both xs ys zs a b = record {
  len = b.len ∙ a.len;
  each = λ k d lt. keeps_both (get_or xs k d) (get_or ys k d) (get_or zs k d) (a.each k d lt) (b.each k d (omega (arith, lt, a.len)));
}

-- in a whole volume a snapshot changes, or is spoiled
pub keeps_changed : (k : ℕ) (s s' : SnapBooks) (v w : Books) → ChangesSnap k s s' v w → KeepsSaved s s' → KeepsAll v.snaps w.snaps
keeps_changed k s s' v w e keeps = subst (KeepsAll v.snaps) (sym e.snaps) (keeps_all_set v.snaps k s s' e.within e.was keeps)

pub keeps_spoiled : (k : ℕ) (s s' : SnapBooks) (v w : Books) → SpoilsOne k s s' v w → KeepsAll v.snaps w.snaps
keeps_spoiled k s s' v w e = subst (KeepsAll v.snaps) (sym e.snaps) (keeps_all_set v.snaps k s s' e.within e.was (dead_saved s s' e.spoils.live))

-- a snapshot is detached
pub goes_detached : (snaps : List SnapBooks) (k : ℕ) (d : DueMerge) → MergeGoes snaps d → MergeGoes (remove snaps k) d
goes_detached snaps k d h = record {
  staged = h.staged;
  ending = h.ending;
  area = h.area;
  next = All-weaker (IsSavedSoon d.books.chunk d.books.sectors snaps) (IsSavedSoon d.books.chunk d.books.sectors (remove snaps k))
      (λ q. All-remove (λ s. s.live ≡ true → IsSaving (next_over (d.books.chunk * q.old) (count_of d.books.chunk d.books.sectors q.old) s) s) snaps k) (next_in d.books) h.next;
  saved = All-weaker (IsSavedIn d.books.chunk d.books.sectors snaps) (IsSavedIn d.books.chunk d.books.sectors (remove snaps k)) (λ q. All-remove (IsSavedOver (d.books.chunk * q.old) (count_of d.books.chunk d.books.sectors q.old)) snaps k) (d.books.copied ++ d.books.released) h.saved;
}

-- what a copy that is started saves
pub started_saving : (p : ChunkCopy) (v w : SnapBooks) → StartsCopy p v w → IsSaving p.pair.old w
started_saving p v w e = inr (subst (λ x. Any (λ (q : ChunkCopy). q.pair.old ≡ p.pair.old) x) (sym e.copies)
    (length v.copies + 0, p, omega (arith, length-append v.copies (p ∷ [])), get_or-append-add v.copies (p ∷ []) 0 p, refl))

-- a merge without a group asks nothing of the other snapshots
goes_alone : (snaps : List SnapBooks) (m : MergeBooks) (failed flushed : Bool) (filled current : ℕ) → IsUngrouped m → length m.pairs ≡ current * (32 * m.chunk) + filled
    → MergeGoes snaps (record { books = m; failed = failed; flushed = flushed; filled = filled; current = current })
goes_alone snaps m failed flushed filled current none area = record {
  staged = record {
    one = omega (arith, ap length none.reading);
    read = λ _. none.waiting;
    written = λ _. none.reading;
    copied = λ _. none.copied;
    over = λ _. none.waiting;
    out = λ _. none.reading;
    none = λ _. empty;
  };
  ending = (
    m.pairs,
    sym (append-nil m.pairs) ∙ sym (ap (λ x. m.pairs ++ (x ++ (m.reading ++ m.copied))) none.waiting ∙ ap (λ x. m.pairs ++ (x ++ m.copied)) none.reading ∙ ap (λ x. m.pairs ++ x) none.copied),
  );
  area = area;
  next = subst (All (IsSavedSoon m.chunk m.sectors snaps)) (sym (ap (λ x. next_pairs x (last_of m.waiting)) none.reading ∙ ap (λ x. next_pairs [] (last_of x)) none.waiting)) (All-nil (IsSavedSoon m.chunk m.sectors snaps));
  saved = subst (All (IsSavedIn m.chunk m.sectors snaps)) (sym (ap (λ x. x ++ m.released) none.copied ∙ none.released)) (All-nil (IsSavedIn m.chunk m.sectors snaps));
}
  where
    empty : group_of m ≡ []
    empty = ap (λ x. x ++ (m.reading ++ (m.copied ++ m.released))) none.waiting ∙ ap (λ x. x ++ (m.copied ++ m.released)) none.reading ∙ ap (λ x. x ++ m.released) none.copied ∙ none.released

-- over other snapshots, as where one is attached
pub goes_ungrouped : (snaps snaps' : List SnapBooks) (d : DueMerge) → group_of d.books ≡ [] → MergeGoes snaps d → MergeGoes snaps' d
goes_ungrouped snaps snaps' d none h = goes_alone snaps' d.books d.failed d.flushed d.filled d.current (no_group d.books none) h.area

-- begin_merge
pub goes_begun : (snaps : List SnapBooks) (d : DueMerge) → group_of d.books ≡ [] → length d.books.pairs ≡ d.current * (32 * d.books.chunk) + d.filled → MergeGoes snaps d
goes_begun snaps d none area = goes_alone snaps d.books d.failed d.flushed d.filled d.current (no_group d.books none) area

-- the last of pairs is the one that was pushed
pub last_pushed : (rest : List Pair) (q : Pair) → last_of (rest ++ q ∷ []) ≡ Some q
last_pushed [] q = refl
last_pushed (p ∷ []) q = refl
last_pushed (p ∷ r ∷ rest) q = last_pushed (r ∷ rest) q

-- The merge's own events. MergeGroup, before the copies of its last chunk are started in the snapshots that lack it.
pub steady_grouped : (snaps : List SnapBooks) (kept group : List Pair) (d d' : DueMerge) → FormsGroup kept group d d' → MergeSteady snaps d → MergeSteady snaps d'
steady_grouped snaps kept group d d' e h =
    let none = no_group d.books e.none in
    subst (λ m. MergeSteady snaps (record d' { books = m })) (sym e.books) (record {
      staged = record {
        one = omega (arith, ap length none.reading);
        read = λ flushed. absurd (false≢true (sym e.flushed ∙ flushed));
        written = λ _. none.reading;
        copied = λ _. none.copied;
        over = λ some. absurd (some none.released);
        out = λ _. none.reading;
        none = λ failed. absurd (false≢true (sym e.failed ∙ failed));
      };
      ending = (kept, e.ends ∙ ap (λ x. kept ++ x) (sym (append-nil group)) ∙ sym (ap (λ x. kept ++ (group ++ (x ++ d.books.copied))) none.reading ∙ ap (λ x. kept ++ (group ++ x)) none.copied));
      area = h.area ∙ ap (λ n. n * (32 * d.books.chunk) + d.filled) (sym e.current) ∙ ap (λ n. d'.current * (32 * d.books.chunk) + n) (sym e.filled);
      saved = h.saved;
    })

-- and after it
pub goes_grouped : (snaps : List SnapBooks) (kept group : List Pair) (d d' : DueMerge) → FormsGroup kept group d d' → MergeSteady snaps d → All (IsSavedSoon d.books.chunk d.books.sectors snaps) (next_in d'.books) → MergeGoes snaps d'
goes_grouped snaps kept group d d' e h soon = steady_goes snaps d' (steady_grouped snaps kept group d d' e h)
    (subst (λ (m : MergeBooks). All (IsSavedSoon m.chunk m.sectors snaps) (next_in d'.books)) (sym e.books) soon)

-- MergeRead
pub goes_read : (snaps : List SnapBooks) (rest : List Pair) (q : Pair) (bytes : List ℕ) (d d' : DueMerge) → ReadsBack rest q bytes d d' → MergeGoes snaps d → MergeGoes snaps d'
goes_read snaps rest q bytes d d' e h =
    subst (λ m. MergeGoes snaps (record d' { books = m })) (sym e.books) (record {
      staged = record {
        one = omega arith;
        read = λ flushed. absurd (false≢true (sym e.flushed ∙ flushed));
        written = λ flushed. absurd (false≢true (sym e.flushed ∙ flushed));
        copied = h.staged.copied;
        over = λ some. absurd (waits some);
        out = λ some. absurd (waits some);
        none = λ failed. absurd (false≢true (sym e.failed ∙ failed));
      };
      ending = (
        h.ending.0,
        h.ending.1 ∙ ap (λ x. h.ending.0 ++ (x ++ (d.books.reading ++ d.books.copied))) e.last ∙ ap (λ x. h.ending.0 ++ ((rest ++ q ∷ []) ++ (x ++ d.books.copied))) e.empty
            ∙ ap (λ x. h.ending.0 ++ x) (append_assoc rest (q ∷ []) d.books.copied),
      );
      area = h.area ∙ ap (λ n. n * (32 * d.books.chunk) + d.filled) (sym e.current) ∙ ap (λ n. d'.current * (32 * d.books.chunk) + n) (sym e.filled);
      next = subst (All (IsSavedSoon d.books.chunk d.books.sectors snaps)) (ap (λ x. next_pairs x (last_of d.books.waiting)) e.empty ∙ ap (λ x. next_pairs [] (last_of x)) e.last ∙ ap (next_pairs []) (last_pushed rest q)) h.next;
      saved = h.saved;
    })
  where
    waits : d.books.released ≢ [] → ⊥
    waits some = omega (arith, ap length (h.staged.over some), ap length e.last, length-append rest (q ∷ []))

-- MergeWrite: each live snapshot has published the chunk; before the copies of the next one are started
pub steady_written : (snaps : List SnapBooks) (q : Pair) (d d' : DueMerge) → WritesBack q d d' → MergeSteady snaps d → IsSavedIn d.books.chunk d.books.sectors snaps q → MergeSteady snaps d'
steady_written snaps q d d' e h published =
    subst (λ m. MergeSteady snaps (record d' { books = m })) (sym e.books) (record {
      staged = record {
        one = omega arith;
        read = λ flushed. absurd (false≢true (sym e.flushed ∙ flushed));
        written = λ _. refl;
        copied = λ some. absurd (full some);
        over = h.staged.over;
        out = λ _. refl;
        none = λ failed. absurd (false≢true (sym e.failed ∙ failed));
      };
      ending = (h.ending.0, h.ending.1 ∙ ap (λ x. h.ending.0 ++ (d.books.waiting ++ (x ++ d.books.copied))) e.full);
      area = h.area ∙ ap (λ n. n * (32 * d.books.chunk) + d.filled) (sym e.current) ∙ ap (λ n. d'.current * (32 * d.books.chunk) + n) (sym e.filled);
      saved = All-cons (IsSavedIn d.books.chunk d.books.sectors snaps) q (d.books.copied ++ d.books.released) published h.saved;
    })
  where
    full : d.books.released ≢ [] → ⊥
    full some = omega (arith, ap length (h.staged.out some), ap length e.full)

-- and after it
pub goes_written : (snaps : List SnapBooks) (q : Pair) (d d' : DueMerge) → WritesBack q d d' → MergeSteady snaps d → IsSavedIn d.books.chunk d.books.sectors snaps q → All (IsSavedSoon d.books.chunk d.books.sectors snaps) (next_in d'.books) → MergeGoes snaps d'
goes_written snaps q d d' e h published soon = steady_goes snaps d' (steady_written snaps q d d' e h published)
    (subst (λ (m : MergeBooks). All (IsSavedSoon m.chunk m.sectors snaps) (next_in d'.books)) (sym e.books) soon)

-- MergeFlush
pub goes_flushed : (snaps : List SnapBooks) (d d' : DueMerge) → FlushesBack d d' → MergeGoes snaps d → MergeGoes snaps d'
goes_flushed snaps d d' e h =
    subst (λ m. MergeGoes snaps (record d' { books = m })) (sym e.books) (record {
      staged = record {
        one = h.staged.one;
        read = λ _. e.all_read;
        written = λ _. e.all_written;
        copied = h.staged.copied;
        over = h.staged.over;
        out = h.staged.out;
        none = λ failed. absurd (false≢true (sym e.failed ∙ failed));
      };
      ending = h.ending;
      area = h.area ∙ ap (λ n. n * (32 * d.books.chunk) + d.filled) (sym e.current) ∙ ap (λ n. d'.current * (32 * d.books.chunk) + n) (sym e.filled);
      next = h.next;
      saved = h.saved;
    })

-- MergeCommit
pub goes_committed : (snaps : List SnapBooks) (kept : List Pair) (store : List ℕ) (d d' : DueMerge) → CommitsGroup kept store d d' → MergeGoes snaps d → MergeGoes snaps d'
goes_committed snaps kept store d d' e h =
    let all : length d.books.pairs ≡ length kept + length d.books.copied = ap length e.ends ∙ length-append kept d.books.copied in
    let area : length kept ≡ d.current * (32 * d.books.chunk) + d'.filled = omega (arith, all, h.area, e.filled) in
    subst (λ m. MergeGoes snaps (record d' { books = m })) (sym e.books) (record {
      staged = record {
        one = h.staged.one;
        read = λ _. e.all_read;
        written = λ _. e.all_written;
        copied = λ _. refl;
        over = λ _. e.all_read;
        out = λ _. e.all_written;
        none = λ failed. absurd (false≢true (sym e.failed ∙ failed));
      };
      ending = (kept, sym (append-nil kept) ∙ ap (λ x. kept ++ x) (sym (ap (λ x. x ++ (d.books.reading ++ [])) e.all_read ∙ ap (λ x. x ++ []) e.all_written)));
      area = area ∙ ap (λ n. n * (32 * d.books.chunk) + d'.filled) (sym e.current);
      next = h.next;
      saved = h.saved;
    })

-- an ended group asks nothing of the other snapshots
goes_ended : (snaps : List SnapBooks) (d d' : DueMerge) → d'.books ≡ without_group d.books → d'.filled ≡ d.filled → d'.current ≡ d.current → MergeGoes snaps d → MergeGoes snaps d'
goes_ended snaps d d' books filled current h =
    subst (λ m. MergeGoes snaps (record d' { books = m })) (sym books)
    (goes_alone snaps (without_group d.books) d'.failed d'.flushed d'.filled d'.current (record { waiting = refl; reading = refl; copied = refl; released = refl })
    (h.area ∙ ap (λ n. n * (32 * d.books.chunk) + d.filled) (sym current) ∙ ap (λ n. d'.current * (32 * d.books.chunk) + n) (sym filled)))

-- MergeRelease
pub goes_released : (snaps : List SnapBooks) (d d' : DueMerge) → ReleasesGroup d d' → MergeGoes snaps d → MergeGoes snaps d'
goes_released snaps d d' e h = goes_ended snaps d d' e.books e.filled e.current h

-- a fault
pub goes_failed : (snaps : List SnapBooks) (d d' : DueMerge) → FailsMerge d d' → MergeGoes snaps d → MergeGoes snaps d'
goes_failed snaps d d' e h = goes_ended snaps d d' e.books e.filled e.current h

-- MergeAreaRead
pub goes_area : (snaps : List SnapBooks) (d d' : DueMerge) → ReadsArea d d' → MergeGoes snaps d → MergeGoes snaps d'
goes_area snaps d d' e h =
    let before : d.current ≡ d'.current + 1 = omega (arith, e.current, e.before) in
    let area : length d.books.pairs ≡ d'.current * (32 * d.books.chunk) + d'.filled =
    h.area ∙ ap (λ n. n * (32 * d.books.chunk) + d.filled) before ∙ ap (λ n. (d'.current + 1) * (32 * d.books.chunk) + n) e.empty ∙ one_less d'.current (32 * d.books.chunk)
    ∙ ap (λ n. d'.current * (32 * d.books.chunk) + n) (sym e.filled) in
    subst (λ m. MergeGoes snaps (record d' { books = m })) (sym e.books)
    (goes_alone snaps d.books d'.failed d'.flushed d'.filled d'.current (no_group d.books e.none) area)
  where
    one_less : (n w : ℕ) → (n + 1) * w + 0 ≡ n * w + w
    one_less n w = grind arith

-- resume_merge
pub goes_resumed : (snaps : List SnapBooks) (d d' : DueMerge) → Resumes d d' → MergeGoes snaps d → MergeGoes snaps d'
goes_resumed snaps d d' e h =
    subst (λ m. MergeGoes snaps (record d' { books = m })) (sym e.books)
    (goes_alone snaps d.books d'.failed d'.flushed d'.filled d'.current (no_group d.books (h.staged.none e.was))
    (h.area ∙ ap (λ n. n * (32 * d.books.chunk) + d.filled) (sym e.current) ∙ ap (λ n. d'.current * (32 * d.books.chunk) + n) (sym e.filled)))

-- an origin write at its chunk's place
pub goes_stored : (snaps : List SnapBooks) (store : List ℕ) (d d' : DueMerge) → WritesStore store d d' → MergeGoes snaps d → MergeGoes snaps d'
goes_stored snaps store d d' e h =
    subst (λ m. MergeGoes snaps (record d' { books = m })) (sym e.books) (record {
      staged = record {
        one = h.staged.one;
        read = λ flushed. h.staged.read (sym e.flushed ∙ flushed);
        written = λ flushed. h.staged.written (sym e.flushed ∙ flushed);
        copied = h.staged.copied;
        over = h.staged.over;
        out = h.staged.out;
        none = λ failed. h.staged.none (sym e.failed ∙ failed);
      };
      ending = h.ending;
      area = h.area ∙ ap (λ n. n * (32 * d.books.chunk) + d.filled) (sym e.current) ∙ ap (λ n. d'.current * (32 * d.books.chunk) + n) (sym e.filled);
      next = h.next;
      saved = h.saved;
    })

-- the pair that is copied next, and the list of it
pub next_some : (d : DueMerge) → IsStaged d → (q : Pair) → next_pair d.books.reading d.books.waiting ≡ Some q → next_in d.books ≡ q ∷ []
next_some d h q e = at d.books.reading refl
  where
    at : (reading : List Pair) → d.books.reading ≡ reading → next_in d.books ≡ q ∷ []
    at [] is = ap (λ x. next_pairs x (last_of d.books.waiting)) is ∙ ap (next_pairs []) (sym (ap (λ x. next_pair x d.books.waiting) is) ∙ e)
    at (p ∷ []) is = (let one : Some p ≡ Some q = sym (ap (λ x. next_pair x d.books.waiting) is) ∙ e in let same : p ≡ q = cc in
        ap (λ x. next_pairs x (last_of d.books.waiting)) is ∙ ap (λ x. x ∷ []) same)
    at (p ∷ r ∷ rest) is = absurd (omega (arith, ap length is, h.one))

pub next_none : (m : MergeBooks) → next_pair m.reading m.waiting ≡ None → next_in m ≡ []
next_none m e = at m.reading refl
  where
    at : (reading : List Pair) → m.reading ≡ reading → next_in m ≡ []
    at [] is = ap (λ x. next_pairs x (last_of m.waiting)) is ∙ ap (next_pairs []) (sym (ap (λ x. next_pair x m.waiting) is) ∙ e)
    at (p ∷ rest) is = (let no_pair : Some p ≡ None = sym (ap (λ x. next_pair x m.waiting) is) ∙ e in absurd (cc))
