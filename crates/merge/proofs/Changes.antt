-- What each event does to a merge's books.
use Rattle.std.proofs.Common.{◌≡◌, ◌≢◌, ◌==◌, ◌&&◌, nat_lt, ℕ, suc, ◌+◌, ◌-◌, ◌*◌, ◌<◌, ◌≤◌, Bool, true, false, List, [], ◌∷◌, ◌++◌, length, take, drop, arith, refl, ap, ◌∙◌, sym, subst, append-nil}
use Rattle.std.specs.Prelude.{Option, Some, None}
use Rattle.std.proofs.lemmas.List.{take-append-drop}
use Rattle.sector.specs.Bytes.{sectors_at, with_part}
use Rattle.sector.specs.declared.pair.Pair.{Pair}
use Rattle.cow_format.specs.Places.{area_place, ChangesOnly}
use Rattle.cow_format.specs.Pairs.{pairs_of, IsInside}
use Rattle.in_flight.specs.Copies.{count_of}
use Rattle.store.specs.Grouping.{shifted, run_at, IsGroup}
use Rattle.store.proofs.Groups.{run-append, length-run}
use Rattle.store.specs.declared.state.State.{State}
use Rattle.volume_laws.specs.Books.{MergeBooks}
use Rattle.volume_laws.specs.Steps.{WritesDisk}
use Rattle.volume_laws.specs.MergeDue.{DueMerge}
use Rattle.volume_laws.specs.MergeSteps.{FormsGroup, ReadsBack, WritesBack, FlushesBack, CommitsGroup, ReadsArea, ReleasesGroup}
use Rattle.merge.specs.declared.group.Group.{Group}
use Rattle.merge.specs.declared.group.Progress.{Progress}
use Rattle.merge.specs.declared.group.Progress.TheVariants.{Open, Full, Flushed, Committed}
use Rattle.merge.specs.Due.{next_read_of, full_of, can_flush_of, can_commit_of, can_release_of, can_read_area_of}
use Rattle.merge.specs.Lists.{total, formed, taken_in, written_in, flushed_in, committed_in, changed, copied_count, waiting_of, reading_of, copied_of, released_of, reading_at, copied_at, released_at, group_pairs, is_flushed}
use Rattle.merge.specs.Held.{IsGroupOf}
use Rattle.merge.specs.Merging.{Merging, books_of, due_of, flushed_of}
use Rattle.merge.specs.Steps.{ReadsInto, WritesOrigin, WritesArea}
use Rattle.merge.proofs.Stages.{idle_from, releases, reads_next, holds_chunk, copied_back, commits, take-front, length-front, length-read}

-- what callers see of a merge, of its parts
abbrev pub merging : {B : Type 0} → ℕ → B → Bool → State → ℕ → List Pair → Option Group → List ℕ → Merging B
merging number device failed s n p g b = record { number = number; device = device; state = s; next = n; pairs = p; group = g; buffer = b; failed = failed }

-- two merges of the same parts
pub same_merging : {B : Type 0} (number : ℕ) (device : B) (failed : Bool) (s s' : State) (n n' : ℕ) (p p' : List Pair) (g g' : Option Group) (b b' : List ℕ) → s ≡ s' → n ≡ n' → p ≡ p' → g ≡ g' → b ≡ b'
    → merging number device failed s n p g b ≡ merging number device failed s' n' p' g' b'
same_merging number device failed s s' n n' p p' g g' b b' es en ep eg eb =
    ap (λ x. merging number device failed x n p g b) es ∙ ap (λ x. merging number device failed s' x p g b) en ∙ ap (λ x. merging number device failed s' n' x g b) ep
    ∙ ap (λ x. merging number device failed s' n' p' x b) eg ∙ ap (λ x. merging number device failed s' n' p' g' x) eb

-- books with other lists
abbrev at : MergeBooks → List ℕ → List Pair → List Pair → List ℕ → List Pair → List Pair → MergeBooks
at b store waiting reading buffer copied released = record b { store = store; waiting = waiting; reading = reading; buffer = buffer; copied = copied; released = released }

same_at : (b : MergeBooks) (s s' : List ℕ) (w w' r r' : List Pair) (u u' : List ℕ) (c c' l l' : List Pair) → s ≡ s' → w ≡ w' → r ≡ r' → u ≡ u' → c ≡ c' → l ≡ l' → at b s w r u c l ≡ at b s' w' r' u' c' l'
same_at b s s' w w' r r' u u' c c' l l' es ew er eu ec el =
    ap (λ x. at b x w r u c l) es ∙ ap (λ x. at b s' x r u c l) ew ∙ ap (λ x. at b s' w' x u c l) er ∙ ap (λ x. at b s' w' r' x c l) eu
    ∙ ap (λ x. at b s' w' r' u' x l) ec ∙ ap (λ x. at b s' w' r' u' c' x) el

-- the lists of a group at a progress
reading_is : (group : Option Group) (g : Group) (p : Progress) → group ≡ Some g → g.progress ≡ p → reading_of group ≡ reading_at p g
reading_is group g p is far = ap reading_of is ∙ ap (λ (q : Progress). reading_at q g) far

copied_is : (group : Option Group) (g : Group) (p : Progress) → group ≡ Some g → g.progress ≡ p → copied_of group ≡ copied_at p g
copied_is group g p is far = ap copied_of is ∙ ap (λ (q : Progress). copied_at q g) far

released_is : (group : Option Group) (g : Group) (p : Progress) → group ≡ Some g → g.progress ≡ p → released_of group ≡ released_at p g
released_is group g p is far = ap released_of is ∙ ap (λ (q : Progress). released_at q g) far

-- a merge with a group has not failed
pub sound_with : (failed : Bool) (group : Option Group) (g : Group) → (failed ≡ true → group ≡ None) → group ≡ Some g → failed ≡ false
sound_with true group g alone is = (let none : Some g ≡ None = sym is ∙ alone refl in absurd (cc))
sound_with false group g alone is = refl

-- a run of some pairs
run_some : (first : Pair) (k n : ℕ) → 0 < n → run_at first k n ≢ []
run_some first k n some e = (let l : length (run_at first k n) ≡ 0 = ap length e in let m = length-run first k n in omega (arith, l, m, some))

module _ {B : Type 0} (contents : B → List ℕ) (loud : Bool) (v : Merging B) where
  abbrev old : MergeBooks
  old = books_of contents loud v

  abbrev due : DueMerge
  due = due_of contents loud v

  -- MergeGroup
  pub forms : (first : Pair) (count : ℕ) → v.failed ≡ false → v.group ≡ None → IsGroup v.state.filled v.pairs first count → FormsGroup (take (length v.pairs - count) v.pairs) (run_at first 0 count) due (due_of contents loud (record v { group = Some (formed first count) }))
  forms first count sound none is = record {
    running = sound;
    none = ap group_pairs none;
    some = run_some first 0 count is.some;
    ends = sym (take-append-drop (length v.pairs - count) v.pairs) ∙ ap (λ x. take (length v.pairs - count) v.pairs ++ x) is.ends.run;
    books = same_at old (contents v.device) (contents v.device) (run_at first 0 count) (run_at first 0 count) [] (reading_of v.group) v.buffer v.buffer [] (copied_of v.group) [] (released_of v.group)
        refl refl (sym (ap reading_of none)) refl (sym (ap copied_of none)) (sym (ap released_of none));
    failed = sound;
    flushed = refl;
    filled = refl;
    current = refl;
  }

  -- MergeRead
  pub reads : (q : Pair) (d : B) (bytes : List ℕ) → (v.failed ≡ true → v.group ≡ None) → next_read_of v.group ≡ Some q → contents d ≡ contents v.device
      → bytes ≡ sectors_at (contents v.device) (v.state.chunk * q.new) (count_of v.state.chunk v.state.origin q.old) → length (contents v.device) ≡ 512 * v.state.size → length v.buffer ≡ 512 * v.state.chunk → IsInside v.state.chunk v.state.origin v.state.size q
      → ReadsBack (waiting_of (changed taken_in v.group)) q (with_part v.buffer 0 bytes) due (due_of contents loud (record v { device = d; group = changed taken_in v.group; buffer = with_part v.buffer 0 bytes }))
      × ReadsInto q old (books_of contents loud (record v { device = d; group = changed taken_in v.group; buffer = with_part v.buffer 0 bytes }))
  reads q d bytes alone e same read whole room inside =
      let r = reads_next v.group q e in
      let count : ℕ = count_of v.state.chunk v.state.origin q.old in
      let up : v.state.chunk * (q.new + 1) ≡ v.state.chunk * q.new + v.state.chunk = grind arith in
      let few : count ≤ v.state.chunk = omega arith in
      let within : v.state.chunk * q.new + count ≤ v.state.size = (let i = inside.new in omega (arith, up, few, i)) in
      let long : length bytes ≡ 512 * count = ap length read ∙ length-read (contents v.device) v.state.size (v.state.chunk * q.new) count whole within in
      let some = r.some in
      let last : r.g.waiting ≡ (r.g.waiting - 1) + 1 = omega (arith, some) in
      let zeroed : 0 + (r.g.waiting - 1) ≡ r.g.waiting - 1 = omega arith in
      let now : changed taken_in v.group ≡ Some (taken_in r.g) = ap (changed taken_in) r.is in
      let sound = sound_with v.failed v.group r.g alone r.is in (
        record {
          running = sound;
          last = ap waiting_of r.is ∙ ap (run_at r.g.first 0) last ∙ run-append r.g.first 0 (r.g.waiting - 1) 1
              ∙ ap (λ (k : ℕ). run_at r.g.first 0 (r.g.waiting - 1) ++ shifted r.g.first k ∷ []) zeroed
              ∙ ap (λ (p : Pair). run_at r.g.first 0 (r.g.waiting - 1) ++ p ∷ []) (sym r.pair) ∙ sym (ap (λ x. waiting_of x ++ q ∷ []) now);
          empty = reading_is v.group r.g Open r.is r.far;
          books = same_at old (contents d) (contents v.device) (waiting_of (changed taken_in v.group)) (waiting_of (changed taken_in v.group)) (reading_of (changed taken_in v.group)) (q ∷ []) (with_part v.buffer 0 bytes) (with_part v.buffer 0 bytes)
              (copied_of (changed taken_in v.group)) (copied_of v.group) (released_of (changed taken_in v.group)) (released_of v.group)
              same refl (ap reading_of now ∙ ap (λ (p : Pair). p ∷ []) (sym r.pair)) refl
              (ap copied_of now ∙ ap (λ (k : ℕ). run_at r.g.first k r.g.copied) (sym last) ∙ sym (copied_is v.group r.g Open r.is r.far))
              (ap released_of now ∙ sym (released_is v.group r.g Open r.is r.far));
          failed = sound;
          flushed = ap flushed_of now;
          filled = refl;
          current = refl;
        },
        record {
          read = take-front v.buffer bytes (512 * count) long ∙ read;
          sized = length-front v.buffer bytes (omega (arith, long, room, few)) ∙ room;
        },
      )

  -- MergeWrite
  pub writes : (q : Pair) (o o' : List ℕ) → (v.failed ≡ true → v.group ≡ None) → full_of v.group ≡ Some q → WritesDisk (v.state.chunk * q.old) (count_of v.state.chunk v.state.origin q.old) o o'
      → (loud ≡ true → sectors_at o' (v.state.chunk * q.old) (count_of v.state.chunk v.state.origin q.old) ≡ take (512 * count_of v.state.chunk v.state.origin q.old) v.buffer)
      → WritesBack q due (due_of contents loud (record v { group = changed written_in v.group })) × WritesOrigin q o o' old
  writes q o o' alone e disk written =
      let r = holds_chunk v.group q e in
      let now : changed written_in v.group ≡ Some (written_in r.g) = ap (changed written_in) r.is in
      let more : r.g.copied + 1 ≡ suc r.g.copied = omega arith in
      let sound = sound_with v.failed v.group r.g alone r.is in (
        record {
          running = sound;
          full = reading_is v.group r.g Full r.is r.full ∙ ap (λ (p : Pair). p ∷ []) (sym r.pair);
          books = same_at old (contents v.device) (contents v.device) (waiting_of (changed written_in v.group)) (waiting_of v.group) (reading_of (changed written_in v.group)) [] v.buffer v.buffer
              (copied_of (changed written_in v.group)) (q ∷ copied_of v.group) (released_of (changed written_in v.group)) (released_of v.group)
              refl (ap waiting_of now ∙ sym (ap waiting_of r.is)) (ap reading_of now) refl
              (ap copied_of now ∙ ap (run_at r.g.first r.g.waiting) more ∙ ap (λ (p : Pair). p ∷ run_at r.g.first (r.g.waiting + 1) r.g.copied) (sym r.pair) ∙ ap (λ x. q ∷ x) (sym (copied_is v.group r.g Full r.is r.full)))
              (ap released_of now ∙ sym (released_is v.group r.g Full r.is r.full));
          failed = sound;
          flushed = ap flushed_of now;
          filled = refl;
          current = refl;
        },
        record { disk = disk; written = written },
      )

  -- MergeFlush
  pub flushes : ((g : Group) → v.group ≡ Some g → IsGroupOf v.state v.pairs g) → (v.failed ≡ true → v.group ≡ None) → can_flush_of v.group ≡ true → FlushesBack due (due_of contents loud (record v { group = changed flushed_in v.group }))
  flushes is alone e =
      let r = copied_back v.group e in
      let group : IsGroupOf v.state v.pairs r.at.g = is r.at.g r.at.is in
      let n : total r.at.g ≡ r.at.g.waiting + (0 + r.at.g.copied) = rw r.at.far refl in
      let some = group.some in
      let none = r.none in
      let sound = sound_with v.failed v.group r.at.g alone r.at.is in
      let now : changed flushed_in v.group ≡ Some (flushed_in r.at.g) = ap (changed flushed_in) r.at.is in
      record {
        running = sound;
        all_read = ap waiting_of r.at.is ∙ ap (run_at r.at.g.first 0) none;
        all_written = reading_is v.group r.at.g Open r.at.is r.at.far;
        some = λ c. run_some r.at.g.first r.at.g.waiting r.at.g.copied (omega (arith, n, some, none)) (sym (copied_is v.group r.at.g Open r.at.is r.at.far) ∙ c);
        was = ap flushed_of r.at.is ∙ ap is_flushed r.at.far;
        books = same_at old (contents v.device) (contents v.device) (waiting_of (changed flushed_in v.group)) (waiting_of v.group) (reading_of (changed flushed_in v.group)) (reading_of v.group) v.buffer v.buffer
            (copied_of (changed flushed_in v.group)) (copied_of v.group) (released_of (changed flushed_in v.group)) (released_of v.group)
            refl (ap waiting_of now ∙ sym (ap waiting_of r.at.is)) (ap reading_of now ∙ sym (reading_is v.group r.at.g Open r.at.is r.at.far)) refl
            (ap copied_of now ∙ sym (copied_is v.group r.at.g Open r.at.is r.at.far)) (ap released_of now ∙ sym (released_is v.group r.at.g Open r.at.is r.at.far));
        failed = sound;
        flushed = ap flushed_of now;
        filled = refl;
        current = refl;
      }

  -- MergeCommit
  pub clears : (d : B) (t : State) (next : ℕ) → ((g : Group) → v.group ≡ Some g → IsGroupOf v.state v.pairs g) → (v.failed ≡ true → v.group ≡ None) → can_commit_of v.group ≡ true → t.filled ≡ v.state.filled - copied_count v.group → t.current ≡ v.state.current → t.chunk ≡ v.state.chunk → t.origin ≡ v.state.origin → t.size ≡ v.state.size
      → ChangesOnly v.state.chunk (area_place v.state.chunk v.state.current) (contents v.device) (contents d) → (loud ≡ true → pairs_of v.state.chunk (contents d) ≡ take (length v.pairs - copied_count v.group) v.pairs)
      → CommitsGroup (take (length v.pairs - copied_count v.group) v.pairs) (contents d) due (due_of contents loud (record v { device = d; state = t; next = next; pairs = take (length v.pairs - copied_count v.group) v.pairs; group = changed committed_in v.group }))
      × WritesArea v.state.current old (books_of contents loud (record v { device = d; state = t; next = next; pairs = take (length v.pairs - copied_count v.group) v.pairs; group = changed committed_in v.group }))
  clears d t next is alone e filled current chunk origin size only stored =
      let r = commits v.group e in
      let g : Group = r.g in
      let group : IsGroupOf v.state v.pairs g = is g r.is in
      let now : changed committed_in v.group ≡ Some (committed_in g) = ap (changed committed_in) r.is in
      let none : g.waiting ≡ 0 = group.done (rw r.far refl) in
      let n : total g ≡ g.waiting + (0 + g.copied) = rw r.far refl in
      let all : total g ≡ g.copied = omega (arith, n, none) in
      let count : copied_count v.group ≡ total g = ap copied_count r.is ∙ sym all in
      let run : drop (length v.pairs - copied_count v.group) v.pairs ≡ run_at g.first g.waiting g.copied =
      ap (λ (k : ℕ). drop (length v.pairs - k) v.pairs) count ∙ (group.ends (rw r.far refl)).run ∙ ap (run_at g.first 0) all ∙ ap (λ (k : ℕ). run_at g.first k g.copied) (sym none) in
      let some = group.some in
      let fits = group.fits (rw r.far refl) in
      let long : length (copied_of v.group) ≡ g.copied = ap length (copied_is v.group g Flushed r.is r.far) ∙ length-run g.first g.waiting g.copied in
      let sound = sound_with v.failed v.group g alone r.is in (
        record {
          running = sound;
          some = λ c. run_some g.first g.waiting g.copied (omega (arith, all, some)) (sym (copied_is v.group g Flushed r.is r.far) ∙ c);
          ends = sym (take-append-drop (length v.pairs - copied_count v.group) v.pairs) ∙ ap (λ x. take (length v.pairs - copied_count v.group) v.pairs ++ x) (run ∙ sym (copied_is v.group g Flushed r.is r.far));
          all_read = ap waiting_of r.is ∙ ap (run_at g.first 0) none;
          all_written = reading_is v.group g Flushed r.is r.far;
          books = ap (λ (k : ℕ). record (books_of contents loud (record v { device = d; state = t; pairs = take (length v.pairs - copied_count v.group) v.pairs; group = changed committed_in v.group })) { chunk = k }) chunk
              ∙ ap (λ (k : ℕ). record (books_of contents loud (record v { device = d; state = t; pairs = take (length v.pairs - copied_count v.group) v.pairs; group = changed committed_in v.group })) { chunk = v.state.chunk; sectors = k }) origin
              ∙ ap (λ (k : ℕ). record (books_of contents loud (record v { device = d; state = t; pairs = take (length v.pairs - copied_count v.group) v.pairs; group = changed committed_in v.group })) { chunk = v.state.chunk; sectors = v.state.origin; size = k }) size
              ∙ same_at (record old { pairs = take (length v.pairs - copied_count v.group) v.pairs }) (contents d) (contents d) (waiting_of (changed committed_in v.group)) (waiting_of v.group) (reading_of (changed committed_in v.group)) (reading_of v.group) v.buffer v.buffer
              (copied_of (changed committed_in v.group)) [] (released_of (changed committed_in v.group)) (copied_of v.group ++ released_of v.group)
              refl (ap waiting_of now ∙ sym (ap waiting_of r.is)) (ap reading_of now ∙ sym (reading_is v.group g Flushed r.is r.far)) refl (ap copied_of now)
              (ap released_of now ∙ sym (append-nil (run_at g.first g.waiting g.copied)) ∙ ap (λ x. x ++ []) (sym (copied_is v.group g Flushed r.is r.far))
              ∙ ap (λ x. copied_of v.group ++ x) (sym (released_is v.group g Flushed r.is r.far)));
          failed = sound;
          filled = omega (arith, filled, count, all, long, fits);
          current = current;
        },
        record { only = only; stored = stored },
      )

  -- MergeAreaRead
  pub reads_area : (d : B) (t : State) → can_read_area_of v ≡ true → contents d ≡ contents v.device → t ≡ record v.state { current = v.state.current - 1; filled = 32 * v.state.chunk; zeroed = false; firm = false; copying = false }
      → ReadsArea due (due_of contents loud (record v { device = d; state = t }))
  reads_area d t e same is =
      let idle = idle_from v.failed v.group ((v.state.filled == 0) && nat_lt 0 v.state.current) e in
      let more = idle.more in
      let empty : v.state.filled ≡ 0 = grind arith in
      let before : 0 < v.state.current = grind arith in
      subst (λ (x : State). ReadsArea due (due_of contents loud (record v { device = d; state = x }))) (sym is) (record {
        running = idle.sound;
        none = ap group_pairs idle.none;
        empty = empty;
        before = before;
        books = ap (λ x. at old x (waiting_of v.group) (reading_of v.group) v.buffer (copied_of v.group) (released_of v.group)) same;
        failed = idle.sound;
        flushed = ap flushed_of idle.none;
        filled = refl;
        current = refl;
      })

  -- MergeRelease
  pub ends_group : ((g : Group) → v.group ≡ Some g → IsGroupOf v.state v.pairs g) → (v.failed ≡ true → v.group ≡ None) → can_release_of v.group ≡ true → ReleasesGroup due (due_of contents loud (record v { group = None }))
  ends_group is alone e =
      let r = releases v.group e in
      let group : IsGroupOf v.state v.pairs r.g = is r.g r.is in
      let none : r.g.waiting ≡ 0 = group.done (rw r.far refl) in
      let n : total r.g ≡ r.g.waiting + (0 + r.g.copied) = rw r.far refl in
      let some = group.some in
      let sound = sound_with v.failed v.group r.g alone r.is in
      record {
        running = sound;
        some = λ c. run_some r.g.first r.g.waiting r.g.copied (omega (arith, n, some, none)) (sym (released_is v.group r.g Committed r.is r.far) ∙ c);
        books = refl;
        failed = sound;
        filled = refl;
        current = refl;
      }

-- its store is flushed
pub flushed_books : {B : Type 0} (contents : B → List ℕ) (loud : Bool) (v : Merging B) (d : B) → contents d ≡ contents v.device → due_of contents loud (record v { device = d }) ≡ due_of contents loud v
flushed_books contents loud v d same = ap (λ (x : List ℕ). record (due_of contents loud v) { books = record (books_of contents loud v) { store = x } }) same

-- what the contracts say of an event
abbrev pub ReadStep : {B : Type 0} → (B → List ℕ) → Bool → Pair → Merging B → Merging B → Type 0
ReadStep contents loud q v w = ReadsBack (waiting_of w.group) q w.buffer (due_of contents loud v) (due_of contents loud w) × ReadsInto q (books_of contents loud v) (books_of contents loud w)

abbrev pub WriteStep : {B : Type 0} → (B → List ℕ) → Bool → Pair → List ℕ → List ℕ → Merging B → Merging B → Type 0
WriteStep contents loud q o o' v w = WritesBack q (due_of contents loud v) (due_of contents loud w) × WritesOrigin q o o' (books_of contents loud v)

abbrev pub CommitStep : {B : Type 0} → (B → List ℕ) → Bool → Merging B → Merging B → Type 0
CommitStep contents loud v w = CommitsGroup w.pairs (contents w.device) (due_of contents loud v) (due_of contents loud w) × WritesArea v.state.current (books_of contents loud v) (books_of contents loud w)
