-- What nobody writes stays known, and is kept.
use Rattle.std.proofs.Common.{◌≡◌, ◌⊎◌, inl, inr, ℕ, Bool, true, false, List, [], ◌∷◌, ◌++◌, filter, map, Option, None, Some, refl, sym, ◌∙◌, ap, subst}
use Rattle.std.specs.Prelude.{◌==◌, ◌&&◌, Err, IfErr, Ok, Result, slice_get}
use Rattle.std.proofs.lemmas.Bool.{cases_Bool, eqb-true, or_parts}
use Rattle.sector.specs.Bytes.{sector_at}
use Rattle.sector.specs.declared.range.Range.{Range}
use Rattle.sector.specs.declared.refusal.Refusal.{Refusal}
use Rattle.device.specs.Layers.{Layer, is_loud}
use Rattle.cow_header.specs.HeaderText.{found_in}
use Rattle.cow_header.specs.declared.found.Found.{Found}
use Rattle.cow_header.specs.declared.found.Found.TheVariants.{Header}
use Rattle.cow_format.specs.Picture.{picture}
use Rattle.crash_laws.specs.Stop.{MayLeave, Within}
use Rattle.plain_machine.specs.Plain.{Entry, Live, Plain, Saved, overflow_of, saved_under}
use Rattle.plain_machine.specs.Unwritten.{is_written, writes}
use Rattle.in_flight.specs.Kinds.{in_flight}
use Rattle.plain_machine.specs.declared.event.Event.{Event}
use Rattle.plain_machine.specs.declared.event.Event.TheVariants.{Issue, CopyRead, CopyWrite, ZeroNext, WriteArea, Publish, WriteInvalid, FlushStore, MergeGroup, MergeAreaRead, MergeRead, MergeWrite, MergeFlush, MergeCommit, MergeRelease}
use Rattle.plain_machine.specs.declared.event.Outcome.{Outcome}
use Rattle.plain_machine.specs.declared.event.Outcome.TheVariants.{Done as Silent, Fault, Reply as Replied}
use Rattle.plain_machine.specs.declared.request.Dev.{Dev}
use Rattle.plain_machine.specs.declared.request.Dev.TheVariants.{Origin, Snap}
use Rattle.plain_machine.specs.declared.request.Op.{Op}
use Rattle.plain_machine.specs.declared.request.Op.TheVariants.{Read, Write, Flush}
use Rattle.plain_machine.specs.declared.request.Reply.{Reply}
use Rattle.plain_machine.specs.declared.request.Reply.TheVariants.{Data, Written, Flushed as IsFlushed, Refused}
use Rattle.plain_machine.specs.declared.request.Request.{Request}
use Rattle.plain_machine.proofs.Unwritten.{submit_keeps}
use Rattle.snapshot.specs.Kept.{Kept}
use Rattle.snapshot.specs.Opening.{shown_array, shown_as}
use Rattle.snapshot.specs.declared.opening.StoreDev.{StoreDev}
use Rattle.merge.specs.Merging.{Merging}
use Rattle.volume.specs.DoesSubmit.{DoesSubmit}
use Rattle.volume.specs.Layering.{Measures}
use Rattle.volume.specs.Shown.{shown_entry}
use Rattle.volume.specs.Stopping.{given_as, given_in}
use Rattle.volume.specs.Submitting.{IsRefusedAs}
use Rattle.volume.specs.Volumed.{Volumed, is_loud_in_all, plain_of}
use Rattle.volume.proofs.Declines.{refused_declined}
use Rattle.volume.proofs.Shown.{and_left, and_right}
use Rattle.volume_lifetime.specs.declared.deed.Deed.TheVariants.{Submit as Submits}
use Rattle.volume_lifetime.specs.declared.deed.Done.TheVariants.{Submitted}
use Rattle.volume_lifetime.specs.Flushed.{Flushed, History, LastAll, LastsArray, LosesNothing, answered, bytes_of, noted, of_number, issued, stepped_on, will_of, with_write}
use Rattle.volume_lifetime.specs.Lasted.{LastsTaken}
use Rattle.volume_lifetime.specs.Lived.{Taken}
use Rattle.volume_lifetime.proofs.Lives.{attach_done}
use Rattle.volume_lifetime.proofs.Plains.{IsKept, refused_keeps, saved_last, stepped_keeps}
use Rattle.nbd_backend.specs.Calls.{Call, Choose, Submit, Step}
use Rattle.nbd_backend.specs.declared.array.Refused.{Refused as Why}
use Rattle.nbd_backend.specs.declared.array.Stepped.{Stepped as Told}
use Rattle.nbd_jobs.specs.declared.work.Work.{Work}
use Rattle.volume_nbd.specs.Answers.{taken_as}
use Rattle.volume_nbd.specs.Calls.{does_by}
use Rattle.volume_nbd.specs.Served.{Served}
use Rattle.volume_nbd.specs.Steps.{DoesEvent}
use Rattle.volume_nbd.specs.Submits.{IsHandedOn, IsOf, op_of}
use Rattle.volume_opening.specs.Loaded.{IsLoaded}
use Rattle.served_session_laws.specs.Keeping.{AreLoaded, GivesBack, IsLoadedFrom, IsMergedFrom, KeepsNow, chosen_by, is_given, used_after}
use Rattle.served_session_laws.specs.Sessions.{LosesNow, Notes, as_shown, known_first, known_with, opened}

none_some : {X : Type 0} (x : X) → None ≡ Some x → ⊥
none_some x e = cc

-- one of some
abbrev Among : Flushed → List Flushed → Type 0
Among f [] = ⊥
Among f (g ∷ gs) = (g ≡ f) ⊎ Among f gs

among_behind : (f : Flushed) (more made : List Flushed) → Among f made → Among f (more ++ made)
among_behind f [] made is = is
among_behind f (g ∷ more) made is = inr (among_behind f more made is)

among_before : (f : Flushed) (made more : List Flushed) → Among f made → Among f (made ++ more)
among_before f [] more is = absurd is
among_before f (g ∷ made) more (inl here) = inl here
among_before f (g ∷ made) more (inr there) = inr (among_before f made more there)

among_same : (f : Flushed) (change : Flushed → Flushed) (made : List Flushed) → change f ≡ f → Among f made → Among f (map change made)
among_same f change [] same is = absurd is
among_same f change (g ∷ made) same (inl here) = inl (ap change here ∙ same)
among_same f change (g ∷ made) same (inr there) = inr (among_same f change made same there)

-- an array that was made last, with no write since
abbrev just : ℕ → List ℕ → Flushed
just number array = record { array = Some number; bytes = array ∷ []; since = [] }

-- a write of another array is none of it
other_write : (dev : Dev) (range : Range) (op : Op) (number : ℕ) (array : List ℕ) → writes number dev op ≡ false → with_write (given_as dev range op) (just number array) ≡ just number array
other_write dev range Read number array none = refl
other_write dev range Flush number array none = refl
other_write Origin range (Write bytes) number array none = refl
other_write (Snap n) range (Write bytes) number array none = (let other : (n == number) ≡ false = none in rw other refl)

answered_among : (f : Flushed) (k : ℕ) (reply : Reply) (p : Plain) (h : History) → Among f h.made → Among f (answered k reply p h).made
answered_among f k IsFlushed p h is = among_behind f (map will_of (filter (of_number k) (map (issued k p) h.asked))) h.made is
answered_among f k (Data bytes) p h is = is
answered_among f k Written p h is = is
answered_among f k (Refused failure) p h is = is

stepped_among : (f : Flushed) (event : Event) (outcome : Outcome) (p : Plain) (h : History) → Among f h.made → Among f (stepped_on event outcome p h).made
stepped_among f event (Replied k reply) p h is = answered_among f k reply p h is
stepped_among f (Issue k) Silent p h is = is
stepped_among f (Issue k) Fault p h is = is
stepped_among f (CopyRead k) Silent p h is = is
stepped_among f (CopyRead k) Fault p h is = is
stepped_among f (CopyWrite k) Silent p h is = is
stepped_among f (CopyWrite k) Fault p h is = is
stepped_among f (ZeroNext k) Silent p h is = is
stepped_among f (ZeroNext k) Fault p h is = is
stepped_among f (WriteArea k) Silent p h is = is
stepped_among f (WriteArea k) Fault p h is = is
stepped_among f (Publish k) Silent p h is = is
stepped_among f (Publish k) Fault p h is = is
stepped_among f (WriteInvalid k) Silent p h is = is
stepped_among f (WriteInvalid k) Fault p h is = is
stepped_among f (FlushStore k) Silent p h is = is
stepped_among f (FlushStore k) Fault p h is = is
stepped_among f MergeGroup Silent p h is = is
stepped_among f MergeGroup Fault p h is = is
stepped_among f MergeAreaRead Silent p h is = is
stepped_among f MergeAreaRead Fault p h is = is
stepped_among f MergeRead Silent p h is = is
stepped_among f MergeRead Fault p h is = is
stepped_among f MergeWrite Silent p h is = is
stepped_among f MergeWrite Fault p h is = is
stepped_among f MergeFlush Silent p h is = is
stepped_among f MergeFlush Fault p h is = is
stepped_among f MergeCommit Silent p h is = is
stepped_among f MergeCommit Fault p h is = is
stepped_among f MergeRelease Silent p h is = is
stepped_among f MergeRelease Fault p h is = is

-- what is known first
abbrev shown_last : ℕ → Option Saved → Flushed
shown_last number saved = record { array = Some number; bytes = bytes_of saved ∷ []; since = [] }

entry_among : (p : Plain) (number : ℕ) (array : List ℕ) → saved_under number p.saved ≡ Some (Live array) → (entries : List Entry) → saved_under number entries ≡ Some (Live array) → Among (just number array) (map (λ (e : Entry). as_shown p (Some e.number)) entries)
entry_among p number array found [] is = absurd (none_some (Live array) is)
entry_among p number array found (e ∷ es) is = elim (cases_Bool (e.number == number)) [
  | inl mine ↦ inl (ap (λ n. as_shown p (Some n)) (eqb-true e.number number mine) ∙ ap (shown_last number) found)
  | inr other ↦ inr (entry_among p number array found es (sym (rw other refl) ∙ is))
]

first_among : {B : Type 0} (p : Plain) (carried : List Flushed) (number : ℕ) (array : List ℕ) (entry : Kept B → Entry) (snaps : List (Kept B)) (merge : Option (Merging B)) → p.saved ≡ map entry snaps → saved_under number p.saved ≡ Some (Live array)
    → Among (just number array) (known_with snaps merge (opened carried p)).made
first_among p carried number array entry [] merge are found = absurd (none_some (Live array) (sym (ap (saved_under number) are) ∙ found))
first_among p carried number array entry (s ∷ snaps) merge are found = inr (among_before (just number array) (map (λ (e : Entry). as_shown p (Some e.number)) p.saved) carried (entry_among p number array found p.saved found))

-- What is known to last, lasts.
module _ {B : Type 0} (holds : B → ℕ → List ℕ → Type 0) (m : Measures B) (layers : B → List Layer) where
  last_among : (v : Volumed B) (f : Flushed) (made : List Flushed) → LastAll holds m.size made v v → Among f made → LastsArray holds m.size f f.array v v
  last_among v f [] all is = absurd is
  last_among v f (g ∷ made) all (inl here) = subst (λ (x : Flushed). LastsArray holds m.size x x.array v v) here all.0
  last_among v f (g ∷ made) all (inr there) = last_among v f made all.1 there

  pub either : (d : B) (b : List ℕ) → MayLeave (holds d) (m.size d) b → MayLeave (Within (holds d) (holds d)) (m.size d) b
  either d b left = record { whole = left.whole; each = λ k lt. inl (left.each k lt) }

  lasts_of : (v : Volumed B) (number : ℕ) (array : List ℕ) (made : List Flushed) → LosesNothing holds m.size made v v → Among (just number array) made → LastsTaken holds m.size v (record { number = number; array = array })
  lasts_of v number array made loses is place s at mine live o c lo lc = (
    loses.loads.snaps place s s at at live c (either s.device c lc),
    λ n lt. exact n (sector_at (picture s.state.chunk o c) n) (last_among v (just number array) made loses.lasts is place s s at at mine live o c (either v.origin o lo) (either s.device c lc) n lt),
  )
    where
      exact : (n : ℕ) (x : List ℕ) → ((x ≡ sector_at array n) ⊎ ⊥) ⊎ ⊥ → x ≡ sector_at array n
      exact n x (inl (inl is)) = is
      exact n x (inl (inr none)) = absurd none
      exact n x (inr none) = absurd none

-- What lasts is given back.
same_live : (a b : List ℕ) → Some (Live a) ≡ Some (Live b) → a ≡ b
same_live a b e = cc

-- one more behind it changes nothing
saved_more : (number : ℕ) (saved : Saved) (more : Entry) (entries : List Entry) → saved_under number entries ≡ Some saved → saved_under number (entries ++ more ∷ []) ≡ Some saved
saved_more number saved more [] is = absurd (none_some saved is)
saved_more number saved more (e ∷ es) is = elim (cases_Bool (e.number == number)) [
  | inl mine ↦ rw mine (sym (rw mine refl) ∙ is)
  | inr other ↦ rw other (saved_more number saved more es (sym (rw other refl) ∙ is))
]

module _ {B : Type 0} (holds : B → ℕ → List ℕ → Type 0) (m : Measures B) (layers : B → List Layer) (failed : B → Bool) where
  abbrev saved_in : ℕ → Volumed B → Option Saved
  saved_in number v = saved_under number (plain_of m.contents layers v).saved

  -- a store that is loaded
  module _ (chunk : ℕ) (overflow : Bool) (device : B) (number : ℕ) (found : Found) (old new : Volumed B) (loads : IsLoaded holds m layers failed chunk overflow device number found old new) (kept : is_loud_in_all layers new ≡ true) where
    abbrev store : StoreDev B
    store = record { device = loads.seen; stale = false }

    both : (is_loud_in_all layers old && is_loud (layers loads.seen)) ≡ true
    both = sym loads.attached.loud ∙ kept

    pub was : is_loud_in_all layers old ≡ true
    was = and_left (is_loud_in_all layers old) (is_loud (layers loads.seen)) both

    pub brought : is_loud (layers loads.seen) ≡ true
    brought = and_right (is_loud_in_all layers old) (is_loud (layers loads.seen)) both

    new_saved : saved_in number new ≡ Some (Live (shown_array (m.contents old.origin) (m.contents loads.seen)))
    new_saved =
        let none = ((attach_done holds m layers store chunk overflow old new (Ok number) loads.attached tt).seen was brought).sees.0 in
        ap (λ (p : Plain). saved_under number p.saved) (loads.attached.taken was brought).becomes
        ∙ saved_last number (Live (shown_array (m.contents old.origin) (m.contents loads.seen))) (overflow_of overflow) (plain_of m.contents layers old).saved none

    old_saved : (n : ℕ) (saved : Saved) → saved_in n old ≡ Some saved → saved_in n new ≡ Some saved
    old_saved n saved is = ap (λ (p : Plain). saved_under n p.saved) (loads.attached.taken was brought).becomes ∙ saved_more n saved _ (plain_of m.contents layers old).saved is

  pub loads_loud : (others : List ℕ) (old new : Volumed B) → AreLoaded holds m layers failed others old new → is_loud_in_all layers new ≡ true → is_loud_in_all layers old ≡ true
  loads_loud [] old new same kept = subst (λ (x : Volumed B). is_loud_in_all layers x ≡ true) same kept
  loads_loud (n ∷ others) old new (mid, chunk, overflow, device, found, loads, more) kept = was chunk overflow device n found old mid loads (loads_loud others mid new more kept)

  loads_saved : (others : List ℕ) (old new : Volumed B) → AreLoaded holds m layers failed others old new → is_loud_in_all layers new ≡ true → (number : ℕ) (saved : Saved) → saved_in number old ≡ Some saved → saved_in number new ≡ Some saved
  loads_saved [] old new same kept number saved is = ap (saved_in number) same ∙ is
  loads_saved (n ∷ others) old new (mid, chunk, overflow, device, found, loads, more) kept number saved is =
      loads_saved others mid new more kept number saved (old_saved chunk overflow device n found old mid loads (loads_loud others mid new more kept) number saved is)

  -- the array of a store that is loaded: the picture of what a stop left
  pub loaded_from : (chunk : ℕ) (o c : List ℕ) (number : ℕ) (new : Volumed B) → found_in (sector_at c 0) ≡ Ok (Header chunk) → IsLoadedFrom holds m layers failed o c number new → saved_in number new ≡ Some (Live (picture chunk o c))
  loaded_from chunk o c number new header again =
      let kept = loads_loud again.others again.loaded new again.more again.kept in
      let array = shown_array (m.contents again.old.origin) (m.contents again.loads.seen) in
      let first : saved_in number again.loaded ≡ Some (Live array) = new_saved again.chunk again.overflow again.device number again.found again.old again.loaded again.loads kept in
      let bytes : m.contents again.loads.seen ≡ c = again.loads.looked.same (brought again.chunk again.overflow again.device number again.found again.old again.loaded again.loads kept) ∙ again.store_is in
      loads_saved again.others again.loaded new again.more again.kept number (Live array) first
      ∙ ap (λ x. Some (Live x)) (ap (λ x. shown_array x (m.contents again.loads.seen)) again.origin_is ∙ ap (shown_array o) bytes ∙ ap (shown_as o c) header)

  -- and which is merged
  pub merged_from : (chunk : ℕ) (o c : List ℕ) (new : Volumed B) → found_in (sector_at c 0) ≡ Ok (Header chunk) → (again : IsMergedFrom holds m layers failed o c new) → (plain_of m.contents layers new).origin ≡ picture chunk o c
  merged_from chunk o c new header again =
      let begun = again.merges.assigned again.from.kept in
      ap (λ (p : Plain). p.origin) begun.becomes ∙ same_live begun.array (picture chunk o c) (sym begun.found ∙ loaded_from chunk o c again.number again.opened header again.from)

  given_back : (v : Volumed B) (t : Taken) → LastsTaken holds m.size v t → GivesBack holds m layers failed v t
  given_back v t lasts place s at mine live o c lo lc new again n lt =
      let left = lasts place s at mine live o c lo lc in
      ap (λ b. sector_at b n) (merged_from s.state.chunk o c new left.0.header again) ∙ left.1 n lt

-- Calls one after another.
module _ {B : Type 0} (holds : B → ℕ → List ℕ → Type 0) (m : Measures B) (layers : B → List Layer) (failed : B → Bool) (start : Served B) where
  abbrev plain : Volumed B → Plain
  plain v = plain_of m.contents layers v

  -- what is kept at a point of the list
  pub record IsKeptBy (calls : List Call) (v : Served B) (h : History) : Type 0 where
    pub exports : v.exports ≡ start.exports
    pub used : v.chosen ≡ used_after start.exports start.chosen calls
    pub each : (number : ℕ) (array : List ℕ) → saved_under number (plain start.volume).saved ≡ Some (Live array) → is_given number start.exports start.chosen calls ≡ false
        → Among (just number array) h.made × (is_loud_in_all layers v.volume ≡ true → IsKept (plain v.volume) (record { number = number; array = array }))

  pub kept_first : (carried : List Flushed) → start.volume.flights ≡ [] → IsKeptBy [] start (known_first m layers carried start.volume)
  kept_first carried idle = record {
    exports = refl;
    used = refl;
    each = λ number array found none. (
      first_among (plain start.volume) carried number array (shown_entry m.contents (m.contents start.volume.origin)) start.volume.snaps start.volume.merge refl found,
      λ loud. record { shows = inl found; free = ap (λ fs. is_written number (map in_flight fs)) idle },
    );
  }

  pub keeps_now : (calls : List Call) (v : Served B) (h : History) → IsKeptBy calls v h → LosesNow holds m layers h v → KeepsNow holds m layers failed start calls v
  keeps_now calls v h kept loses number array found none loud =
      let k = kept.each number array found none in
      let lasts : LastsTaken holds m.size v.volume (record { number = number; array = array }) = lasts_of holds m layers v.volume number array h.made (loses loud) k.0 in
      record { shows = (k.1 loud).shows; lasts = lasts; undoes = given_back holds m layers failed v.volume (record { number = number; array = array }) lasts }

  same_kept : (v w : Volumed B) (t : Taken) → w ≡ v → IsKept (plain v) t → IsKept (plain w) t
  same_kept v w t same kept = subst (λ (x : Volumed B). IsKept (plain x) t) (sym same) kept

  -- a piece, of which nothing writes the snapshot where it is taken in
  submit_among : (number : ℕ) (array : List ℕ) (request : Request) (answer : Result ℕ Refusal) (p : Plain) (h : History) → ((k : ℕ) → answer ≡ Ok k → writes number request.dev request.op ≡ false) → Among (just number array) h.made
      → Among (just number array) (noted {B = B} (Submits request) (Submitted answer) p h).made
  submit_among number array request (Ok k) p h none is = among_same (just number array) (with_write (given_in (Some request))) h.made (other_write request.dev request.range request.op number array (none k refl)) is
  submit_among number array request (Err refusal) p h none is = is

  submit_kept : (t : Taken) (request : Request) (answer : Result ℕ Refusal) (v w : Volumed B) → DoesSubmit m.contents layers m.size request answer v w → IfErr answer (λ refusal. IsRefusedAs m.contents layers m.size request refusal v w)
      → ((k : ℕ) → answer ≡ Ok k → writes t.number request.dev request.op ≡ false) → is_loud_in_all layers v ≡ true → IsKept (plain v) t → IsKept (plain w) t
  submit_kept t request (Ok k) v w does why none loud kept =
      let (shows, free) = submit_keeps t.number t.array (plain v) (plain w) kept.free kept.shows request (none k refl) (inl (k, _, does.ok.legal loud)) in
      record { shows = shows; free = free }
  submit_kept t request (Err refusal) v w does why none loud kept = (refused_keeps request refusal (plain v) (plain w) (t ∷ []) (refused_declined m.contents layers m.size v w request refusal why loud) (kept, tt)).0

  -- where it is not given by the calls with this one, it is not by those before, and a request of this one is no write of it
  free_before : (number : ℕ) (work : Work) (part : List ℕ) (told : Result ℕ Why) (calls : List Call) → is_given number start.exports start.chosen (Submit work part told ∷ calls) ≡ false → is_given number start.exports start.chosen calls ≡ false
  free_before number work part (Ok taken) calls none = (or_parts (writes number (used_after start.exports start.chosen calls) (op_of work.kind work.count part)) (is_given number start.exports start.chosen calls) none).1
  free_before number work part (Err why) calls none = none

  free_of : (number : ℕ) (work : Work) (part : List ℕ) (told : Result ℕ Why) (calls : List Call) (old : Served B) (sectors : ℕ) (request : Request) (answer : Result ℕ Refusal) → old.chosen ≡ used_after start.exports start.chosen calls → IsOf old.chosen work part sectors request → told ≡ taken_as answer
      → is_given number start.exports start.chosen (Submit work part told ∷ calls) ≡ false → (k : ℕ) → answer ≡ Ok k → writes number request.dev request.op ≡ false
  free_of number work part (Err why) calls old sectors request answer used is told none k ok = absurd (let no : Err why ≡ Ok k = told ∙ ap taken_as ok in cc)
  free_of number work part (Ok taken) calls old sectors request answer used is told none k ok =
      ap (λ d. writes number d request.op) (is.dev ∙ used) ∙ ap (writes number (used_after start.exports start.chosen calls)) is.op
      ∙ (or_parts (writes number (used_after start.exports start.chosen calls) (op_of work.kind work.count part)) (is_given number start.exports start.chosen calls) none).0

  submit_noted : (unanswered : B → Bool) (number : ℕ) (array : List ℕ) (work : Work) (part : List ℕ) (told : Result ℕ Why) (calls : List Call) (old new : Served B) (before after : History) → old.chosen ≡ used_after start.exports start.chosen calls → Notes holds m layers failed unanswered (Submit work part told) before old new after
      → is_given number start.exports start.chosen (Submit work part told ∷ calls) ≡ false → Among (just number array) before.made → Among (just number array) after.made
  submit_noted unanswered number array work part told calls old new before after used (inl (handed, noted_is)) none among =
      subst (λ (h : History). Among (just number array) h.made) (sym noted_is) (submit_among number array handed.request handed.answer (plain new.volume) before (free_of number work part told calls old (m.size old.volume.origin) handed.request handed.answer used handed.is handed.told none) among)
  submit_noted unanswered number array work part told calls old new before after used (inr (same, still)) none among = subst (λ (h : History). Among (just number array) h.made) (sym still) among

  step_noted : (unanswered : B → Bool) (number : ℕ) (array : List ℕ) (told : Told) (old new : Served B) (before after : History) → Notes holds m layers failed unanswered (Step told) before old new after → Among (just number array) before.made → Among (just number array) after.made
  step_noted unanswered number array told old new before after (inl n) among = subst (λ (h : History). Among (just number array) h.made) (sym n.noted_as) (stepped_among (just number array) n.does.event n.does.outcome (plain new.volume) before among)
  step_noted unanswered number array told old new before after (inr (same, back, still)) among = subst (λ (h : History). Among (just number array) h.made) (sym still) among

  handed_kept : (t : Taken) (work : Work) (part : List ℕ) (told : Result ℕ Why) (calls : List Call) (old new : Served B) → old.chosen ≡ used_after start.exports start.chosen calls → IsHandedOn holds m.contents layers m.size old.chosen work part told old.volume new.volume
      → is_given t.number start.exports start.chosen (Submit work part told ∷ calls) ≡ false → (is_loud_in_all layers old.volume ≡ true → IsKept (plain old.volume) t) → is_loud_in_all layers new.volume ≡ true → IsKept (plain new.volume) t
  handed_kept t work part told calls old new used h none kept loud =
      let was = sym h.does.loud ∙ loud in
      submit_kept t h.request h.answer old.volume new.volume h.does h.reasons (free_of t.number work part told calls old (m.size old.volume.origin) h.request h.answer used h.is h.told none) was (kept was)

  event_kept : (unanswered : B → Bool) (t : Taken) (told : Told) (old new : Served B) → DoesEvent holds m.contents layers m.size m.faults m.done failed unanswered old.chosen told old.volume new.volume
      → (is_loud_in_all layers old.volume ≡ true → IsKept (plain old.volume) t) → is_loud_in_all layers new.volume ≡ true → IsKept (plain new.volume) t
  event_kept unanswered t told old new e kept loud = (stepped_keeps e.event e.outcome (plain old.volume) (plain new.volume) (t ∷ []) (e.legal loud) (kept (e.ahead.loud (sym e.step.loud ∙ loud)), tt)).0

  still_kept : (t : Taken) (old new : Served B) → new.volume ≡ old.volume → (is_loud_in_all layers old.volume ≡ true → IsKept (plain old.volume) t) → is_loud_in_all layers new.volume ≡ true → IsKept (plain new.volume) t
  still_kept t old new same kept loud = same_kept old.volume new.volume t same (kept (subst (λ (x : Volumed B). is_loud_in_all layers x ≡ true) same loud))

  -- which device is used
  chosen_next : (place : ℕ) (told : Bool) (old new : Served B) (calls : List Call) → (told ≡ true → Some new.chosen ≡ slice_get old.exports place) → (told ≡ false → new ≡ old) → old.exports ≡ start.exports → old.chosen ≡ used_after start.exports start.chosen calls
      → new.chosen ≡ used_after start.exports start.chosen (Choose place told ∷ calls)
  chosen_next place true old new calls found same exports used = sym (ap (λ e. chosen_by true e (used_after start.exports start.chosen calls)) (sym (found refl ∙ ap (λ es. slice_get es place) exports)))
  chosen_next place false old new calls found same exports used = ap (λ (x : Served B). x.chosen) (same refl) ∙ used

  pub kept_call : (unanswered : B → Bool) (call : Call) (calls : List Call) (old new : Served B) (before after : History) → does_by holds m.contents layers m.size m.faults m.done failed unanswered call old new → Notes holds m layers failed unanswered call before old new after → IsKeptBy calls old before → IsKeptBy (call ∷ calls) new after
  kept_call unanswered (Choose place told) calls old new before after (may, found, same, becomes) notes k = record {
    exports = ap (λ (x : Served B). x.exports) becomes ∙ k.exports;
    used = chosen_next place told old new calls found same k.exports k.used;
    each = λ number array live none. (
      subst (λ (h : History). Among (just number array) h.made) (sym notes) (k.each number array live none).0,
      still_kept (record { number = number; array = array }) old new (ap (λ (x : Served B). x.volume) becomes) (k.each number array live none).1,
    );
  }
  kept_call unanswered (Submit work part told) calls old new before after (inl handed, becomes) notes k = record {
    exports = ap (λ (x : Served B). x.exports) becomes ∙ k.exports;
    used = ap (λ (x : Served B). x.chosen) becomes ∙ k.used;
    each = λ number array live none.
        (let was = k.each number array live (free_before number work part told calls none) in
        (submit_noted unanswered number array work part told calls old new before after k.used notes none was.0, handed_kept (record { number = number; array = array }) work part told calls old new k.used handed none was.1));
  }
  kept_call unanswered (Submit work part told) calls old new before after (inr away, becomes) notes k = record {
    exports = ap (λ (x : Served B). x.exports) becomes ∙ k.exports;
    used = ap (λ (x : Served B). x.chosen) becomes ∙ k.used;
    each = λ number array live none.
        (let was = k.each number array live (free_before number work part told calls none) in
        (submit_noted unanswered number array work part told calls old new before after k.used notes none was.0, still_kept (record { number = number; array = array }) old new away.0 was.1));
  }
  kept_call unanswered (Step told) calls old new before after (inl event, still, ended, stopped, becomes) notes k = record {
    exports = ap (λ (x : Served B). x.exports) becomes ∙ k.exports;
    used = ap (λ (x : Served B). x.chosen) becomes ∙ k.used;
    each = λ number array live none. (let was = k.each number array live none in (step_noted unanswered number array told old new before after notes was.0, event_kept unanswered (record { number = number; array = array }) told old new event was.1));
  }
  kept_call unanswered (Step told) calls old new before after (inr none_done, still, ended, stopped, becomes) notes k = record {
    exports = ap (λ (x : Served B). x.exports) becomes ∙ k.exports;
    used = ap (λ (x : Served B). x.chosen) becomes ∙ k.used;
    each = λ number array live none. (let was = k.each number array live none in (step_noted unanswered number array told old new before after notes was.0, still_kept (record { number = number; array = array }) old new none_done.0 was.1));
  }
