-- What each event makes of the present group, and of the merge's books.
use Rattle.std.proofs.Common.{◌≡◌, inl, inr, ◌&&◌, not, nat_le, ℕ, ◌+◌, ◌-◌, ◌*◌, ◌<◌, ◌≤◌, Bool, true, false, nat_lt, List, ◌++◌, length, get_or, take, drop, arith, refl, ap, ◌∙◌, sym, subst, length-append, length-drop}
use Rattle.std.specs.Prelude.{Option, Some, None}
use Rattle.std.specs.List.{All}
use Rattle.std.proofs.lemmas.List.Elements.{All-nil, All-append}
use Rattle.cow_format.specs.Picture.{place_of}
use Rattle.cow_format.proofs.Pictures.{place_found}
use Rattle.volume_laws.proofs.Lists.{All-front}
use Rattle.std.proofs.lemmas.Bool.{cases_lt, false≢true, true≢false}
use Rattle.std.proofs.lemmas.List.{append-nil, drop_all, length-take-le, take_at}
use Rattle.sector.specs.Bytes.{sectors_at, with_part, with_sectors}
use Rattle.sector.proofs.Sectors.{sectors_at-with_same}
use Rattle.sector.specs.declared.pair.Pair.{Pair}
use Rattle.cow_format.specs.Pairs.{IsInside}
use Rattle.in_flight.specs.Copies.{count_of}
use Rattle.store.specs.Grouping.{shifted, run_at, EndsWithRun, IsGroup}
use Rattle.store.proofs.Groups.{get_or-run, length-run, run_get}
use Rattle.store.specs.declared.state.State.{State}
use Rattle.merge.specs.declared.group.Group.{Group}
use Rattle.merge.specs.declared.group.Progress.{Progress}
use Rattle.merge.specs.declared.group.Progress.TheVariants.{Open, Full, Flushed, Committed}
use Rattle.merge.specs.Due.{has_group_of, last_in, read_at_progress, next_read_of, full_at, full_of, flush_at, can_flush_of, commit_at, can_commit_of, release_at, can_release_of, copy_at}
use Rattle.merge.specs.Lists.{total, all_in, is_flushed, is_committed, formed, taken_in, written_in, flushed_in, committed_in, copied_in, changed, released_at, released_of}
use Rattle.merge.specs.Held.{IsGroupOf}

-- the group of an option
pub the_group : (g h : Group) → Some g ≡ Some h → g ≡ h
the_group g h e = cc

-- no group is there, and nothing has failed
pub record IsIdle (failed : Bool) (group : Option Group) (rest : Bool) : Type 0 where
  pub sound : failed ≡ false
  pub none : group ≡ None
  pub more : rest ≡ true

pub idle_from : (failed : Bool) (group : Option Group) (rest : Bool) → (not failed && (not (has_group_of group) && rest)) ≡ true → IsIdle failed group rest
idle_from true group rest e = absurd (false≢true e)
idle_from false None rest e = record { sound = refl; none = refl; more = e }
idle_from false (Some g) rest e = absurd (false≢true e)

-- the group whose last waiting pair may be read
pub record ReadsNext (group : Option Group) (q : Pair) : Type 0 where
  pub g : Group
  pub is : group ≡ Some g
  pub far : g.progress ≡ Open
  pub some : 0 < g.waiting
  pub pair : q ≡ shifted g.first (g.waiting - 1)

last_from : (g : Group) (q : Pair) → last_in g ≡ Some q → (0 < g.waiting) × (q ≡ shifted g.first (g.waiting - 1))
last_from g q e = elim (cases_lt 0 g.waiting) [
  | inl lt ↦ (let here : nat_lt 0 g.waiting ≡ true = grind arith in let f = rw here at e in (lt, let k : q ≡ shifted g.first (g.waiting - 1) = cc in k))
  | inr ge ↦ (let here : nat_lt 0 g.waiting ≡ false = grind arith in let f = rw here at e in absurd (cc))
]

reads_at : (p : Progress) (g : Group) (q : Pair) → g.progress ≡ p → read_at_progress p g ≡ Some q → ReadsNext (Some g) q
reads_at Open g q is e = (let l = last_from g q e in record { g = g; is = refl; far = is; some = l.0; pair = l.1 })
reads_at Full g q is e = absurd (cc)
reads_at Flushed g q is e = absurd (cc)
reads_at Committed g q is e = absurd (cc)

pub reads_next : (group : Option Group) (q : Pair) → next_read_of group ≡ Some q → ReadsNext group q
reads_next None q e = absurd (cc)
reads_next (Some g) q e = reads_at g.progress g q refl e

-- the group whose chunk is in the buffer
pub record HoldsChunk (group : Option Group) (q : Pair) : Type 0 where
  pub g : Group
  pub is : group ≡ Some g
  pub full : g.progress ≡ Full
  pub pair : q ≡ shifted g.first g.waiting

holds_at : (p : Progress) (g : Group) (q : Pair) → g.progress ≡ p → full_at p g ≡ Some q → HoldsChunk (Some g) q
holds_at Open g q is e = absurd (cc)
holds_at Full g q is e = record { g = g; is = refl; full = is; pair = (let k : q ≡ shifted g.first g.waiting = cc in k) }
holds_at Flushed g q is e = absurd (cc)
holds_at Committed g q is e = absurd (cc)

pub holds_chunk : (group : Option Group) (q : Pair) → full_of group ≡ Some q → HoldsChunk group q
holds_chunk None q e = absurd (cc)
holds_chunk (Some g) q e = holds_at g.progress g q refl e

-- the group that is at a progress
pub record IsAt (group : Option Group) (p : Progress) : Type 0 where
  pub g : Group
  pub is : group ≡ Some g
  pub far : g.progress ≡ p

-- all its chunks are copied
pub record IsCopiedBack (group : Option Group) : Type 0 where
  pub at : IsAt group Open
  pub none : at.g.waiting ≡ 0

copied_back_at : (p : Progress) (g : Group) → g.progress ≡ p → flush_at p g ≡ true → IsCopiedBack (Some g)
copied_back_at Open g is e = record { at = record { g = g; is = refl; far = is }; none = (let k : g.waiting ≡ 0 = grind arith in k) }
copied_back_at Full g is e = absurd (false≢true e)
copied_back_at Flushed g is e = absurd (false≢true e)
copied_back_at Committed g is e = absurd (false≢true e)

pub copied_back : (group : Option Group) → can_flush_of group ≡ true → IsCopiedBack group
copied_back None e = absurd (false≢true e)
copied_back (Some g) e = copied_back_at g.progress g refl e

commits_at : (p : Progress) (g : Group) → g.progress ≡ p → commit_at p ≡ true → IsAt (Some g) Flushed
commits_at Open g is e = absurd (false≢true e)
commits_at Full g is e = absurd (false≢true e)
commits_at Flushed g is e = record { g = g; is = refl; far = is }
commits_at Committed g is e = absurd (false≢true e)

pub commits : (group : Option Group) → can_commit_of group ≡ true → IsAt group Flushed
commits None e = absurd (false≢true e)
commits (Some g) e = commits_at g.progress g refl e

releases_at : (p : Progress) (g : Group) → g.progress ≡ p → release_at p ≡ true → IsAt (Some g) Committed
releases_at Open g is e = absurd (false≢true e)
releases_at Full g is e = absurd (false≢true e)
releases_at Flushed g is e = absurd (false≢true e)
releases_at Committed g is e = record { g = g; is = refl; far = is }

pub releases : (group : Option Group) → can_release_of group ≡ true → IsAt group Committed
releases None e = absurd (false≢true e)
releases (Some g) e = releases_at g.progress g refl e

-- a group that goes on before its commit
group_on : (s : State) (ps : List Pair) (g h : Group) → IsGroupOf s ps g → is_committed g.progress ≡ false → h.first ≡ g.first → total h ≡ total g → (is_flushed h.progress ≡ true → h.waiting ≡ 0) → IsGroupOf s ps h
group_on s ps g h is early first same done =
    let lists : all_in g ≡ all_in h = ap (λ (p : Pair). run_at p 0 (total g)) (sym first) ∙ ap (run_at h.first 0) (sym same) in
    record {
      some = (let a = is.some in omega (arith, a, same));
      inside = subst (All (IsInside s.chunk s.origin s.size)) lists is.inside;
      done = done;
      fits = λ _. (let a = is.fits early in omega (arith, a, same));
      ends = λ _. subst (λ (n : ℕ). EndsWithRun ps h.first n) (sym same) (subst (λ (p : Pair). EndsWithRun ps p (total g)) (sym first) (is.ends early));
    }

-- MergeGroup
pub present_formed : (s : State) (ps : List Pair) (first : Pair) (count : ℕ) (group : Option Group) → All (IsInside s.chunk s.origin s.size) ps → IsGroup s.filled ps first count → group ≡ Some (formed first count) → (g : Group) → group ≡ Some g → IsGroupOf s ps g
present_formed s ps first count group inside is e g same =
    let f : formed first count ≡ g = the_group (formed first count) g (sym e ∙ same) in
    let n : total (formed first count) ≡ count = omega arith in
    let some = is.some in let fits = is.fits in let room = is.ends.fits in
    subst (IsGroupOf s ps) f (record {
      some = omega (arith, n, some);
      inside = λ k d lt.
          (let within : k < count = (let l = length-run first 0 (total (formed first count)) in omega (arith, l, n)) in
          let all : k < total (formed first count) = omega (arith, n, within) in
          let z : 0 + k ≡ k = omega arith in
          subst (λ (p : Pair). IsInside s.chunk s.origin s.size p)
          (run_get ps first count k d is.ends within ∙ sym (ap (shifted first) z) ∙ sym (get_or-run first 0 (total (formed first count)) k d all))
          (inside (length ps - count + k) d (omega (arith, room, within))));
      done = λ c. absurd (false≢true c);
      fits = λ _. omega (arith, n, fits);
      ends = λ _. subst (λ (x : ℕ). EndsWithRun ps first x) (sym n) is.ends;
    })

-- MergeRead
pub present_taken : (s : State) (ps : List Pair) (group : Option Group) (q : Pair) → ((g : Group) → group ≡ Some g → IsGroupOf s ps g) → next_read_of group ≡ Some q → (g : Group) → changed taken_in group ≡ Some g → IsGroupOf s ps g
present_taken s ps group q is e g same =
    let r = reads_next group q e in
    let old : IsGroupOf s ps r.g = is r.g r.is in
    let f : taken_in r.g ≡ g = the_group (taken_in r.g) g (ap (changed taken_in) (sym r.is) ∙ same) in
    let some = r.some in
    let before : total r.g ≡ r.g.waiting + (0 + r.g.copied) = rw r.far refl in
    subst (IsGroupOf s ps) f (group_on s ps r.g (taken_in r.g) old (ap is_committed r.far) refl (omega (arith, before, some)) (λ c. absurd (false≢true c)))

-- MergeWrite
pub present_written : (s : State) (ps : List Pair) (group : Option Group) (q : Pair) → ((g : Group) → group ≡ Some g → IsGroupOf s ps g) → full_of group ≡ Some q → (g : Group) → changed written_in group ≡ Some g → IsGroupOf s ps g
present_written s ps group q is e g same =
    let r = holds_chunk group q e in
    let old : IsGroupOf s ps r.g = is r.g r.is in
    let f : written_in r.g ≡ g = the_group (written_in r.g) g (ap (changed written_in) (sym r.is) ∙ same) in
    let before : total r.g ≡ r.g.waiting + (1 + r.g.copied) = rw r.full refl in
    subst (IsGroupOf s ps) f (group_on s ps r.g (written_in r.g) old (ap is_committed r.full) refl (omega (arith, before)) (λ c. absurd (false≢true c)))

-- MergeFlush
pub present_flushed : (s : State) (ps : List Pair) (group : Option Group) → ((g : Group) → group ≡ Some g → IsGroupOf s ps g) → can_flush_of group ≡ true → (g : Group) → changed flushed_in group ≡ Some g → IsGroupOf s ps g
present_flushed s ps group is e g same =
    let r = copied_back group e in
    let old : IsGroupOf s ps r.at.g = is r.at.g r.at.is in
    let f : flushed_in r.at.g ≡ g = the_group (flushed_in r.at.g) g (ap (changed flushed_in) (sym r.at.is) ∙ same) in
    let before : total r.at.g ≡ r.at.g.waiting + (0 + r.at.g.copied) = rw r.at.far refl in
    subst (IsGroupOf s ps) f (group_on s ps r.at.g (flushed_in r.at.g) old (ap is_committed r.at.far) refl (sym before) (λ _. r.none))

-- MergeCommit
pub present_committed : (s t : State) (ps qs : List Pair) (group : Option Group) → ((g : Group) → group ≡ Some g → IsGroupOf s ps g) → can_commit_of group ≡ true → t.chunk ≡ s.chunk → t.origin ≡ s.origin → t.size ≡ s.size → (g : Group) → changed committed_in group ≡ Some g → IsGroupOf t qs g
present_committed s t ps qs group is e chunk origin size g same =
    let r = commits group e in
    let old : IsGroupOf s ps r.g = is r.g r.is in
    let f : committed_in r.g ≡ g = the_group (committed_in r.g) g (ap (changed committed_in) (sym r.is) ∙ same) in
    let before : total r.g ≡ r.g.waiting + (0 + r.g.copied) = rw r.far refl in
    let some = old.some in
    subst (IsGroupOf t qs) f (record {
      some = omega (arith, before, some);
      inside = subst (λ (n : ℕ). All (IsInside t.chunk t.origin t.size) (run_at r.g.first 0 n)) before
          (subst (λ (n : ℕ). All (IsInside n t.origin t.size) (all_in r.g)) (sym chunk) (subst (λ (n : ℕ). All (IsInside s.chunk n t.size) (all_in r.g)) (sym origin) (subst (λ (n : ℕ). All (IsInside s.chunk s.origin n) (all_in r.g)) (sym size) old.inside)));
      done = λ _. old.done (ap is_flushed r.far);
      fits = λ c. absurd (true≢false c);
      ends = λ c. absurd (true≢false c);
    })

-- a chunk's sectors, read from its place
pub length-read : (bytes : List ℕ) (size first count : ℕ) → length bytes ≡ 512 * size → first + count ≤ size → length (sectors_at bytes first count) ≡ 512 * count
length-read bytes size first count whole inside =
    let l = length-drop (512 * first) bytes in
    length-take-le (512 * count) (drop (512 * first) bytes) (omega (arith, l, whole, inside))

pub take-front : (old bytes : List ℕ) (n : ℕ) → length bytes ≡ n → take n (with_part old 0 bytes) ≡ bytes
take-front old bytes n len = take_at bytes (drop (0 + length bytes) old) n len

pub length-front : (old bytes : List ℕ) → length bytes ≤ length old → length (with_part old 0 bytes) ≡ length old
length-front old bytes le =
    let l = length-drop (0 + length bytes) old in
    length-append bytes (drop (0 + length bytes) old) ∙ omega (arith, l, le)

-- a pair of a group is inside
inside_at : (s : State) (ps : List Pair) (g : Group) (k : ℕ) → IsGroupOf s ps g → k < total g → IsInside s.chunk s.origin s.size (shifted g.first k)
inside_at s ps g k is lt =
    let z : 0 + k ≡ k = omega arith in
    subst (λ (p : Pair). IsInside s.chunk s.origin s.size p) (get_or-run g.first 0 (total g) k g.first lt ∙ ap (shifted g.first) z)
    (is.inside k g.first (let l = length-run g.first 0 (total g) in omega (arith, l, lt)))

pub read_inside : (s : State) (ps : List Pair) (group : Option Group) (q : Pair) → ((g : Group) → group ≡ Some g → IsGroupOf s ps g) → next_read_of group ≡ Some q → IsInside s.chunk s.origin s.size q
read_inside s ps group q is e =
    let r = reads_next group q e in
    let n : total r.g ≡ r.g.waiting + (0 + r.g.copied) = rw r.far refl in
    let some = r.some in
    subst (λ (p : Pair). IsInside s.chunk s.origin s.size p) (sym r.pair) (inside_at s ps r.g (r.g.waiting - 1) (is r.g r.is) (omega (arith, n, some)))

pub full_inside : (s : State) (ps : List Pair) (group : Option Group) (q : Pair) → ((g : Group) → group ≡ Some g → IsGroupOf s ps g) → full_of group ≡ Some q → IsInside s.chunk s.origin s.size q
full_inside s ps group q is e =
    let r = holds_chunk group q e in
    let n : total r.g ≡ r.g.waiting + (1 + r.g.copied) = rw r.full refl in
    subst (λ (p : Pair). IsInside s.chunk s.origin s.size p) (sym r.pair) (inside_at s ps r.g r.g.waiting (is r.g r.is) (omega (arith, n)))

-- a group whose chunk is in the buffer has one more to copy
pub full_room : (s : State) (ps : List Pair) (group : Option Group) (q : Pair) → ((g : Group) → group ≡ Some g → IsGroupOf s ps g) → full_of group ≡ Some q → (g : Group) → group ≡ Some g → g.copied + 1 ≤ s.filled
full_room s ps group q is e g same =
    let r = holds_chunk group q e in
    let n : total r.g ≡ r.g.waiting + (1 + r.g.copied) = rw r.full refl in
    let fits = (is r.g r.is).fits (ap is_committed r.full) in
    let this : r.g ≡ g = the_group r.g g (sym r.is ∙ same) in
    let count : r.g.copied ≡ g.copied = ap (λ (x : Group). x.copied) this in
    omega (arith, n, fits, count)

-- a group that may be committed
pub record IsReady (s : State) (ps : List Pair) (g : Group) : Type 0 where
  pub far : g.progress ≡ Flushed
  pub some : 0 < g.copied
  pub fits : g.copied ≤ s.filled
  pub all : total g ≡ g.copied
  pub ends : EndsWithRun ps g.first g.copied

pub ready_group : (s : State) (ps : List Pair) (group : Option Group) (g : Group) → ((g : Group) → group ≡ Some g → IsGroupOf s ps g) → group ≡ Some g → can_commit_of group ≡ true → IsReady s ps g
ready_group s ps group g is here e =
    let r = commits group e in
    let this : r.g ≡ g = the_group r.g g (sym r.is ∙ here) in
    let far : g.progress ≡ Flushed = ap (λ (x : Group). x.progress) (sym this) ∙ r.far in
    let old : IsGroupOf s ps g = is g here in
    let none : g.waiting ≡ 0 = old.done (ap is_flushed far) in
    let n : total g ≡ g.waiting + (0 + g.copied) = rw far refl in
    let all : total g ≡ g.copied = omega (arith, n, none) in
    let some = old.some in
    let fits = old.fits (ap is_committed far) in
    record {
      far = far;
      some = omega (arith, all, some);
      fits = omega (arith, all, fits);
      all = all;
      ends = subst (λ (x : ℕ). EndsWithRun ps g.first x) all (old.ends (ap is_committed far));
    }

-- its old chunks fall by one from the last
pub falls : (ps : List Pair) (first : Pair) (count i : ℕ) (d : Pair) → EndsWithRun ps first count → i < count → (get_or ps (length ps - (i + 1)) d).old + i ≡ first.old + (count - 1)
falls ps first count i d ends lt =
    let fits = ends.fits in
    let at : length ps - count + (count - (i + 1)) ≡ length ps - (i + 1) = omega (arith, fits, lt) in
    let pair : get_or ps (length ps - (i + 1)) d ≡ shifted first (count - (i + 1)) = ap (λ (k : ℕ). get_or ps k d) (sym at) ∙ run_get ps first count (count - (i + 1)) d ends (omega (arith, lt)) in
    let old : (get_or ps (length ps - (i + 1)) d).old ≡ first.old + (count - (i + 1)) = ap (λ (p : Pair). p.old) pair in
    omega (arith, old, lt)

-- the pairs that are released are inside
released_at_inside : (p : Progress) (s : State) (ps : List Pair) (g : Group) → g.progress ≡ p → IsGroupOf s ps g → All (IsInside s.chunk s.origin s.size) (released_at p g)
released_at_inside Open s ps g far is = All-nil (IsInside s.chunk s.origin s.size)
released_at_inside Full s ps g far is = All-nil (IsInside s.chunk s.origin s.size)
released_at_inside Flushed s ps g far is = All-nil (IsInside s.chunk s.origin s.size)
released_at_inside Committed s ps g far is =
    let none : g.waiting ≡ 0 = is.done (ap is_flushed far) in
    let n : total g ≡ g.waiting + (0 + g.copied) = rw far refl in
    let all : total g ≡ g.copied = omega (arith, n, none) in
    subst (λ (k : ℕ). All (IsInside s.chunk s.origin s.size) (run_at g.first k g.copied)) (sym none) (subst (λ (x : ℕ). All (IsInside s.chunk s.origin s.size) (run_at g.first 0 x)) all is.inside)

released_inside : (s : State) (ps : List Pair) (group : Option Group) → ((g : Group) → group ≡ Some g → IsGroupOf s ps g) → All (IsInside s.chunk s.origin s.size) (released_of group)
released_inside s ps None is = All-nil (IsInside s.chunk s.origin s.size)
released_inside s ps (Some g) is = released_at_inside g.progress s ps g refl (is g refl)

-- the place of a listed pair
pub listed_inside : (s : State) (ps begun : List Pair) (group : Option Group) (c place : ℕ) → ((g : Group) → group ≡ Some g → IsGroupOf s ps g) → All (IsInside s.chunk s.origin s.size) (ps ++ begun)
    → place_of (ps ++ released_of group) c ≡ Some place → (o : ℕ) × IsInside s.chunk s.origin s.size (record { old = o; new = place })
listed_inside s ps begun group c place is inside found =
    let P : Pair → Type 0 = IsInside s.chunk s.origin s.size in
    let all : All P (ps ++ released_of group) = All-append P ps (released_of group) (All-front P ps begun inside) (released_inside s ps group is) in
    let (k, lt, at) = place_found (ps ++ released_of group) c place found in
    let d : Pair = record { old = 0; new = 0 } in
    let h : P (get_or (ps ++ released_of group) k d) = all k d lt in
    ((get_or (ps ++ released_of group) k d).old, subst (λ (n : ℕ). P (record { old = (get_or (ps ++ released_of group) k d).old; new = n })) (at d).1 h)

-- what was written to the origin disk
pub wrote_back : (o o' buffer : List ℕ) (chunk origin old : ℕ) → length o ≡ 512 * origin → chunk * old < origin → length buffer ≡ 512 * chunk → o' ≡ with_sectors o (chunk * old) (take (512 * count_of chunk origin old) buffer)
    → sectors_at o' (chunk * old) (count_of chunk origin old) ≡ take (512 * count_of chunk origin old) buffer
wrote_back o o' buffer chunk origin old whole begins room written =
    let count : ℕ = count_of chunk origin old in
    let few : count ≤ chunk = omega arith in
    let inside : chunk * old + count ≤ origin = omega (arith, begins) in
    let len : length (take (512 * count) buffer) ≡ 512 * count = length-take-le (512 * count) buffer (omega (arith, room, few)) in
    ap (λ x. sectors_at x (chunk * old) count) written ∙ sectors_at-with_same o (chunk * old) count (take (512 * count) buffer) (omega (arith, len, whole, inside)) len

-- an operation of the merge comes before the commit
release_at_far : (group : Option Group) (g : Group) (p : Progress) → group ≡ Some g → g.progress ≡ p → can_release_of group ≡ release_at p
release_at_far group g p is far = ap can_release_of is ∙ ap release_at far

pub read_early : (group : Option Group) (q : Pair) → next_read_of group ≡ Some q → can_release_of group ≡ false
read_early group q e = (let r = reads_next group q e in release_at_far group r.g Open r.is r.far)

pub write_early : (group : Option Group) (q : Pair) → full_of group ≡ Some q → can_release_of group ≡ false
write_early group q e = (let r = holds_chunk group q e in release_at_far group r.g Full r.is r.full)

pub flush_early : (group : Option Group) → can_flush_of group ≡ true → can_release_of group ≡ false
flush_early group e = (let r = copied_back group e in release_at_far group r.at.g Open r.at.is r.at.far)

pub commit_early : (group : Option Group) → can_commit_of group ≡ true → can_release_of group ≡ false
commit_early group e = (let r = commits group e in release_at_far group r.g Flushed r.is r.far)

-- the group whose chunks are copied at once
pub record CopiesAll (g : Group) (chunk sectors : ℕ) : Type 0 where
  pub far : g.progress ≡ Open
  pub two : 1 < g.waiting
  pub whole : chunk * (g.first.old + g.waiting) ≤ sectors

copies_at : (p : Progress) (g : Group) (chunk sectors : ℕ) → g.progress ≡ p → copy_at p g chunk sectors ≡ true → CopiesAll g chunk sectors
copies_at Open g chunk sectors is e = (let both : (nat_lt 1 g.waiting ≡ true) × (nat_le (chunk * (g.first.old + g.waiting)) sectors ≡ true) = grind arith in record { far = is; two = (let a = both.0 in grind arith); whole = (let b = both.1 in grind arith) })
copies_at Full g chunk sectors is e = absurd (false≢true e)
copies_at Flushed g chunk sectors is e = absurd (false≢true e)
copies_at Committed g chunk sectors is e = absurd (false≢true e)

pub copies_all : (g : Group) (chunk sectors : ℕ) → copy_at g.progress g chunk sectors ≡ true → CopiesAll g chunk sectors
copies_all g chunk sectors e = copies_at g.progress g chunk sectors refl e

pub present_copied : (s : State) (ps : List Pair) (group : Option Group) (g : Group) → ((g : Group) → group ≡ Some g → IsGroupOf s ps g) → group ≡ Some g → g.progress ≡ Open → (h : Group) → changed copied_in group ≡ Some h → IsGroupOf s ps h
present_copied s ps group g present is far h same =
    let f : copied_in g ≡ h = the_group (copied_in g) h (ap (changed copied_in) (sym is) ∙ same) in
    let before : total g ≡ g.waiting + (0 + g.copied) = rw far refl in
    let after : total (copied_in g) ≡ 0 + (0 + (g.copied + g.waiting)) = rw far refl in
    subst (IsGroupOf s ps) f (group_on s ps g (copied_in g) (present g is) (ap is_committed far) refl (omega (arith, before, after)) (λ c. refl))

-- its first pairs lie inside
pub waiting_inside : (s : State) (ps : List Pair) (g : Group) → IsGroupOf s ps g → g.progress ≡ Open → All (IsInside s.chunk s.origin s.size) (run_at g.first 0 g.waiting)
waiting_inside s ps g is far k d lt =
    let n : total g ≡ g.waiting + (0 + g.copied) = rw far refl in
    let l = length-run g.first 0 g.waiting in
    let within : k < g.waiting = omega (arith, l, lt) in
    let z : 0 + k ≡ k = omega arith in
    subst (λ (p : Pair). IsInside s.chunk s.origin s.size p) (sym (get_or-run g.first 0 g.waiting k d within ∙ ap (shifted g.first) z)) (inside_at s ps g k is (omega (arith, n, within)))

pub inside_of : (s : State) (ps : List Pair) (g : Group) (k : ℕ) → IsGroupOf s ps g → k < total g → IsInside s.chunk s.origin s.size (shifted g.first k)
inside_of = inside_at

pub one_more : (chunk place : ℕ) → chunk * (place + 1) ≡ chunk * place + chunk
one_more chunk place = grind arith

-- the chunk of each of so many is whole, where the last is
pub chunk_whole : (chunk old k n sectors : ℕ) → k < n → chunk * (old + n) ≤ sectors → count_of chunk sectors (old + k) ≡ chunk
chunk_whole chunk old k n sectors within whole =
    let up : chunk * (old + k + 1) ≡ chunk * (old + k) + chunk = grind arith in
    let le : chunk * (old + k + 1) ≤ chunk * (old + n) = (let lt : old + k + 1 ≤ old + n = omega arith in grind arith) in
    omega (arith, up, le, whole)

-- and fills the buffer
pub front_all : (old bytes : List ℕ) → length bytes ≡ length old → with_part old 0 bytes ≡ bytes
front_all old bytes long = ap (λ xs. bytes ++ xs) (drop_all (0 + length bytes) old (omega (arith, long))) ∙ append-nil bytes
