-- What entries do to the base, one after another, and what a checkpoint keeps.
use Rattle.std.proofs.Common.{◌≡◌, ◌≢◌, ℕ, zero, suc, ◌+◌, ◌*◌, ◌<◌, ◌≤◌, Bool, true, List, [], ◌∷◌, ◌++◌, length, get_or, set, map, take, drop, reverse, Option, Some, None, refl, sym, ◌∙◌, ap, subst, arith, eq-eqb}
use Rattle.std.specs.List.{remove}
use Rattle.std.proofs.lemmas.Bool.{ne_eqb}
use Rattle.std.proofs.lemmas.List.{get_or-map, get_or_default, length-map, map-set, reverse-append}
use Rattle.std.proofs.lemmas.List.Edits.{map_over_more}
use Rattle.sector.specs.Bytes.{with_sectors}
use Rattle.sector.specs.declared.range.Range.{Range}
use Rattle.plain_machine.specs.Plain.{Plain, Entry as ShownEntry, Saved as State, Live, Invalid, marked_in, saved_under, spoiled_entry, with_saved, without_saved, Shown}
use Rattle.plain_machine.specs.Serves.{Serves, Shows}
use Rattle.plain_machine.specs.declared.request.Dev.{Dev}
use Rattle.plain_machine.specs.declared.request.Failure.{Failure}
use Rattle.plain_machine.specs.declared.request.Op.{Op}
use Rattle.plain_machine.specs.declared.request.Overflowing.TheVariants.{Did}
use Rattle.plain_machine.specs.declared.request.Op.TheVariants.{Read, Write, Flush}
use Rattle.plain_machine.specs.declared.request.Reply.{Reply}
use Rattle.plain_machine.specs.declared.request.Reply.TheVariants.{Data, Written, Flushed, Refused}
use Rattle.audited_volume.specs.declared.entry.Entry.{Entry}
use Rattle.audited_volume.specs.declared.entry.Entry.TheVariants.{Answered, Spoiled, Overflowed, Attached, Detached, Begun, Finished}
use Rattle.audited_volume.specs.declared.entry.Saved.{Saved}
use Rattle.volume.specs.Volumed.{Volumed}
use Rattle.audited_volume.specs.Books.{Books, IsKept, shown_in, state_in}
use Rattle.audited_volume.specs.Entries.{entries_by}
use Rattle.audited_volume.specs.Inside.{AllInside, IsInside, LiesInside, attached_count}
use Rattle.audited_volume.specs.Replay.{AllLawful, IsLawful, after, array_in, plain_in, put, replay, served}

-- the first snapshot with a number
pub record IsFirstSaved (n : ℕ) (xs : List Saved) (k : ℕ) : Type 0 where
  pub within : k < length xs
  pub number : (d : Saved) → (get_or xs k d).number ≡ n
  pub before : (j : ℕ) (d : Saved) → j < k → (get_or xs j d).number ≢ n

pub first_saved : (n : ℕ) (xs : List Saved) (k : ℕ) → (k < length xs) × ((d : Saved) → (get_or xs k d).number ≡ n) × ((j : ℕ) (d : Saved) → j < k → (get_or xs j d).number ≢ n) → IsFirstSaved n xs k
first_saved n xs k f = record { within = f.0; number = f.1; before = f.2 }

later : (n : ℕ) (x : Saved) (xs : List Saved) (k : ℕ) → IsFirstSaved n (x ∷ xs) (suc k) → IsFirstSaved n xs k
later n x xs k f = record { within = omega (arith, f.within); number = f.number; before = λ j d lt. f.before (suc j) d (omega (arith, lt)) }

pub under_first : (n : ℕ) (xs : List Saved) (k : ℕ) (d : Saved) → IsFirstSaved n xs k → saved_under n (map shown_in xs) ≡ Some (state_in (get_or xs k d).array)
under_first n [] k d f = absurd (omega (arith, f.within))
under_first n (x ∷ xs) zero d f = rw (eq-eqb x.number n (f.number d)) refl
under_first n (x ∷ xs) (suc k) d f = rw (ne_eqb x.number n (f.before 0 d (omega arith))) (under_first n xs k d (later n x xs k f))

pub with_first : (n : ℕ) (state : State) (xs : List Saved) (k : ℕ) (y : Saved) → IsFirstSaved n xs k → shown_in y ≡ record (shown_in (get_or xs k y)) { saved = state } → map shown_in (set xs k y) ≡ with_saved n state (map shown_in xs)
with_first n state [] k y f is = absurd (omega (arith, f.within))
with_first n state (x ∷ xs) zero y f is = rw (eq-eqb x.number n (f.number x)) (ap (λ e. e ∷ map shown_in xs) is)
with_first n state (x ∷ xs) (suc k) y f is = rw (ne_eqb x.number n (f.before 0 x (omega arith))) (ap (λ es. shown_in x ∷ es) (with_first n state xs k y (later n x xs k f) is))

pub without_first : (n : ℕ) (xs : List Saved) (k : ℕ) → IsFirstSaved n xs k → map shown_in (remove xs k) ≡ without_saved n (map shown_in xs)
without_first n [] k f = absurd (omega (arith, f.within))
without_first n (x ∷ xs) zero f = rw (eq-eqb x.number n (f.number x)) refl
without_first n (x ∷ xs) (suc k) f = rw (ne_eqb x.number n (f.before 0 x (omega arith))) (ap (λ es. shown_in x ∷ es) (without_first n xs k (later n x xs k f)))

pub under_none : (n : ℕ) (xs : List Saved) → ((j : ℕ) (d : Saved) → j < length xs → (get_or xs j d).number ≢ n) → saved_under n (map shown_in xs) ≡ None
under_none n [] none = refl
under_none n (x ∷ xs) none = rw (ne_eqb x.number n (none 0 x (omega arith))) (under_none n xs (λ j d lt. none (suc j) d (omega (arith, lt))))

pub without_none : (n : ℕ) (xs : List Saved) → ((j : ℕ) (d : Saved) → j < length xs → (get_or xs j d).number ≢ n) → map shown_in xs ≡ without_saved n (map shown_in xs)
without_none n [] none = refl
without_none n (x ∷ xs) none = rw (ne_eqb x.number n (none 0 x (omega arith))) (ap (λ es. shown_in x ∷ es) (without_none n xs (λ j d lt. none (suc j) d (omega (arith, lt)))))

pub not_none : {X : Type 0} (o : Option X) (x : X) → o ≡ None → o ≡ Some x → ⊥
not_none o x none some = let e : None ≡ Some x = sym none ∙ some in absurd (cc)

-- the array of a state
pub array_of : (o : Option (List ℕ)) (array : List ℕ) → Some (state_in o) ≡ Some (Live array) → o ≡ Some array
array_of None array e = absurd (cc)
array_of (Some other) array e = let same : other ≡ array = cc in ap Some same

-- spoils, place after place
pub spoilt_here : (n : ℕ) (x : ShownEntry) → x.number ≡ n → record x { saved = Invalid } ≡ spoiled_entry (n ∷ []) x
spoilt_here n x same = rw (eq-eqb n x.number (sym same)) refl

pub spoilt_other : (n : ℕ) (x : ShownEntry) → x.number ≢ n → x ≡ spoiled_entry (n ∷ []) x
spoilt_other n x apart = rw (ne_eqb n x.number (λ e. apart (sym e))) refl

pub spoilt_more : (n : ℕ) (old now : List Saved) (k : ℕ) (y : Saved) → k < length old → k < length now → map shown_in now ≡ map (spoiled_entry (n ∷ [])) (take k (map shown_in old)) ++ drop k (map shown_in old) → shown_in y ≡ spoiled_entry (n ∷ []) (shown_in (get_or now k y))
    → map shown_in (set now k y) ≡ map (spoiled_entry (n ∷ [])) (take (k + 1) (map shown_in old)) ++ drop (k + 1) (map shown_in old)
spoilt_more n old now k y within here so is =
    let x : ShownEntry = shown_in (get_or now k y) in
    map-set shown_in now k y ∙ ap (set (map shown_in now) k) is
    ∙ map_over_more (spoiled_entry (n ∷ [])) (map shown_in old) (map shown_in now) k x (omega (arith, within, length-map old shown_in)) so (sym (get_or-map shown_in now k y x here))

-- what a write that was done does to the base, and that no other reply does anything
pub served_put : (s s' : Shown) (dev : Dev) (op : Op) (range : Range) (reply : Reply) (bytes : List ℕ) → op ≡ Write bytes → reply ≡ Written → Serves (plain_in s) dev op range reply (plain_in (served dev op range.first reply s)) → LiesInside s dev op range.first reply
    → ((array : List ℕ) → Shows (plain_in s) dev array → 512 * range.first + length bytes ≤ length array → s' ≡ put dev range.first bytes s) → s' ≡ served dev op range.first reply s
served_put s s' dev Read range reply bytes writes done serves inside puts = absurd (cc)
served_put s s' dev Flush range reply bytes writes done serves inside puts = absurd (cc)
served_put s s' dev (Write sent) range (Data read) bytes writes done serves inside puts = absurd (cc)
served_put s s' dev (Write sent) range Flushed bytes writes done serves inside puts = absurd (cc)
served_put s s' dev (Write sent) range (Refused failure) bytes writes done serves inside puts = absurd (cc)
served_put s s' dev (Write sent) range Written bytes writes done serves inside puts =
    let same : bytes ≡ sent = cc in
    subst (λ b. s' ≡ put dev range.first b s) same (puts serves.0 serves.1 (subst (λ b. 512 * range.first + length b ≤ length serves.0) (sym same) (inside serves.0 serves.1)))

pub served_read : (s : Shown) (dev : Dev) (op : Op) (first : ℕ) (reply : Reply) → op ≡ Read → s ≡ served dev op first reply s
served_read s dev Read first (Data bytes) is = refl
served_read s dev Read first Written is = refl
served_read s dev Read first Flushed is = refl
served_read s dev Read first (Refused failure) is = refl
served_read s dev (Write sent) first reply is = absurd (cc)
served_read s dev Flush first reply is = absurd (cc)

pub served_flush : (s : Shown) (dev : Dev) (op : Op) (first : ℕ) (reply : Reply) → op ≡ Flush → s ≡ served dev op first reply s
served_flush s dev Flush first (Data bytes) is = refl
served_flush s dev Flush first Written is = refl
served_flush s dev Flush first Flushed is = refl
served_flush s dev Flush first (Refused failure) is = refl
served_flush s dev Read first reply is = absurd (cc)
served_flush s dev (Write sent) first reply is = absurd (cc)

pub served_flushed : (s : Shown) (dev : Dev) (op : Op) (first : ℕ) (reply : Reply) → reply ≡ Flushed → s ≡ served dev op first reply s
served_flushed s dev op first Flushed is = refl
served_flushed s dev op first (Data bytes) is = absurd (cc)
served_flushed s dev op first Written is = absurd (cc)
served_flushed s dev op first (Refused failure) is = absurd (cc)

pub served_data : (s : Shown) (dev : Dev) (op : Op) (first : ℕ) (reply : Reply) (bytes : List ℕ) → reply ≡ Data bytes → s ≡ served dev op first reply s
served_data s dev op first (Data read) bytes is = refl
served_data s dev op first Written bytes is = absurd (cc)
served_data s dev op first Flushed bytes is = absurd (cc)
served_data s dev op first (Refused failure) bytes is = absurd (cc)

pub served_refused : (s : Shown) (dev : Dev) (op : Op) (first : ℕ) (reply : Reply) (failure : Failure) → reply ≡ Refused failure → s ≡ served dev op first reply s
served_refused s dev op first (Data read) failure is = absurd (cc)
served_refused s dev op first Written failure is = absurd (cc)
served_refused s dev op first Flushed failure is = absurd (cc)
served_refused s dev op first (Refused why) failure is = refl

pub put_at : (n first : ℕ) (bytes array : List ℕ) (xs : List ShownEntry) → saved_under n xs ≡ Some (Live array) → with_saved n (Live (with_sectors array first bytes)) xs ≡ with_saved n (Live (with_sectors (array_in (saved_under n xs)) first bytes)) xs
put_at n first bytes array xs found = ap (λ a. with_saved n (Live (with_sectors a first bytes)) xs) (sym (ap array_in found))

pub put_first : (n first : ℕ) (bytes array : List ℕ) (xs : List Saved) (k : ℕ) (old new : Saved) → IsFirstSaved n xs k → old ≡ get_or xs k old → saved_under n (map shown_in xs) ≡ Some (Live array) → 512 * first + length bytes ≤ length array
    → ((a : List ℕ) → old.array ≡ Some a → 512 * first + length bytes ≤ length a → new ≡ record old { array = Some (with_sectors a first bytes) })
    → map shown_in (set xs k new) ≡ with_saved n (Live (with_sectors array first bytes)) (map shown_in xs)
put_first n first bytes array xs k old new f is found room done =
    let here : Some (state_in old.array) ≡ Some (Live array) = ap (λ (s : Saved). Some (state_in s.array)) is ∙ sym (under_first n xs k old f) ∙ found in
    let at : old ≡ get_or xs k new = is ∙ get_or_default xs k old new f.within in
    with_first n (Live (with_sectors array first bytes)) xs k new f (ap shown_in (done array (array_of old.array array here) room) ∙ ap (λ (s : Saved). record (shown_in s) { saved = Live (with_sectors array first bytes) }) at)

-- a store that overflowed
pub marked_first : (n : ℕ) (xs : List Saved) (k : ℕ) (old new : Saved) → IsFirstSaved n xs k → old ≡ get_or xs k old → new ≡ record old { overflow = Did } → map shown_in (set xs k new) ≡ marked_in n (map shown_in xs)
marked_first n [] k old new f is done = absurd (omega (arith, f.within))
marked_first n (x ∷ xs) zero old new f is done = rw (eq-eqb x.number n (f.number x)) (ap (λ e. e ∷ map shown_in xs) (ap shown_in done ∙ ap (λ (s : Saved). record (shown_in s) { overflow = Did }) is))
marked_first n (x ∷ xs) (suc k) old new f is done = rw (ne_eqb x.number n (f.before 0 x (omega arith))) (ap (λ es. shown_in x ∷ es) (marked_first n xs k old new (later n x xs k f) is done))

pub marked_none : (n : ℕ) (xs : List Saved) → ((j : ℕ) (d : Saved) → j < length xs → (get_or xs j d).number ≢ n) → map shown_in xs ≡ marked_in n (map shown_in xs)
marked_none n [] none = refl
marked_none n (x ∷ xs) none = rw (ne_eqb x.number n (none 0 x (omega arith))) (ap (λ es. shown_in x ∷ es) (marked_none n xs (λ j d lt. none (suc j) d (omega (arith, lt)))))

pub out_first : (n : ℕ) (xs : List Saved) (k : ℕ) (x : Saved) (array : List ℕ) → IsFirstSaved n xs k → x ≡ get_or xs k x → saved_under n (map shown_in xs) ≡ Some (Live array) → state_in x.array ≡ Live array
out_first n xs k x array f is found =
    let here : Some (state_in x.array) ≡ Some (Live array) = ap (λ (s : Saved). Some (state_in s.array)) is ∙ sym (under_first n xs k x f) ∙ found in cc

-- a merge that begins
pub begun_none : (o : Option Saved) (array : List ℕ) → o ≡ None → (s : Saved) × (o ≡ Some s) × (state_in s.array ≡ Live array) → ⊥
begun_none o array none found = let e : None ≡ Some found.0 = sym none ∙ found.1 in absurd (cc)

pub begun_spoilt : (o : Option (List ℕ)) (array : List ℕ) → o ≡ None → state_in o ≡ Live array → ⊥
begun_spoilt None array none found = absurd (cc)
begun_spoilt (Some other) array none found = absurd (cc)

pub begun_after : (s : Shown) (n : ℕ) (o : Option (List ℕ)) (array taken : List ℕ) (left : List ShownEntry) → saved_under n s.saved ≡ Some (Live array) → o ≡ Some taken → state_in o ≡ Live array → left ≡ without_saved n s.saved
    → (let t : Shown = record { origin = taken; begun = Some n; saved = left } in t) ≡ after s (Begun n)
begun_after s n None array taken left found is live gone = absurd (cc)
begun_after s n (Some other) array taken left found is live gone =
    let same : taken ≡ array = cc in
    (λ i. record { origin = (same ∙ ap array_in (sym found)) i; begun = Some n; saved = gone i })

-- the entries that are left, last first
pub count_both : (es fs : List Entry) → attached_count (es ++ fs) ≡ attached_count es + attached_count fs
count_both [] fs = omega arith
count_both (Answered a ∷ es) fs = count_both es fs
count_both (Spoiled n ∷ es) fs = count_both es fs
count_both (Overflowed n ∷ es) fs = count_both es fs
count_both (Attached n array overflow fresh ∷ es) fs = omega (arith, count_both es fs)
count_both (Detached n ∷ es) fs = count_both es fs
count_both (Begun n ∷ es) fs = count_both es fs
count_both (Finished ∷ es) fs = count_both es fs

pub count_one : (e : Entry) (es : List Entry) → attached_count (e ∷ es) ≡ attached_count (e ∷ []) + attached_count es
count_one (Answered a) es = omega arith
count_one (Spoiled n) es = omega arith
count_one (Overflowed n) es = omega arith
count_one (Attached n array overflow fresh) es = omega arith
count_one (Detached n) es = omega arith
count_one (Begun n) es = omega arith
count_one Finished es = omega arith

pub reverse_twice : (es : List Entry) → reverse (reverse es) ≡ es
reverse_twice [] = refl
reverse_twice (e ∷ es) = ap reverse (reverse-append (e ∷ []) es) ∙ reverse-append (reverse es) (e ∷ []) ∙ ap (λ fs. e ∷ fs) (reverse_twice es)

pub count_reversed : (es : List Entry) → attached_count (reverse es) ≡ attached_count es
count_reversed [] = refl
count_reversed (e ∷ es) = ap attached_count (reverse-append (e ∷ []) es) ∙ count_both (reverse es) (e ∷ []) ∙ omega (arith, count_reversed es, count_one e es)

-- What is left to do, from a base on, comes to what all of it does from the base that there was.
pub record IsLeft (s : Shown) (es : List Entry) (old : Shown) (all : List Entry) : Type 0 where
  pub comes_to : replay s es ≡ replay old all
  pub lawful : AllLawful s es
  pub inside : AllInside s es

pub all_left : (s : Shown) (es all : List Entry) → es ≡ all → AllLawful s all → AllInside s all → IsLeft s es s all
all_left s es all same lawful inside = subst (λ xs. IsLeft s xs s all) (sym same) (record { comes_to = refl; lawful = lawful; inside = inside })

pub left_next : (s s' old : Shown) (e : Entry) (es all : List Entry) → IsLeft s (e ∷ es) old all → (IsLawful s e → IsInside s e → s' ≡ after s e) → IsLeft s' es old all
left_next s s' old e es all l does = subst (λ t. IsLeft t es old all) (sym (does l.lawful.0 l.inside.0)) (record { comes_to = l.comes_to; lawful = l.lawful.1; inside = l.inside.1 })

pub left_last : (s old : Shown) (e : Entry) (es fs all : List Entry) → fs ≡ es ++ e ∷ [] → IsLeft s (reverse fs) old all → IsLeft s (e ∷ reverse es) old all
left_last s old e es fs all are l = subst (λ xs. IsLeft s xs old all) (ap reverse are ∙ reverse-append es (e ∷ [])) l

pub left_none : (s old : Shown) (es all : List Entry) → es ≡ [] → IsLeft s es old all → s ≡ replay old all
left_none s old es all none l = sym (ap (replay s) none) ∙ l.comes_to

-- a checkpoint
pub cut_keeps : {B : Type 0} (w : Volumed B) (loud told : Bool) (p : Plain) (v : Books) (base : Shown) (entries : List Entry) (folded : List ℕ) (room : ℕ) → IsKept w loud told p v → (told ≡ true → base ≡ replay v.base v.entries) → entries ≡ [] → folded ≡ v.counts → room ≡ v.room
    → IsKept w loud told p (record v { base = base; taken = 0; entries = entries; folded = folded; room = room })
cut_keeps w loud told p v base entries folded room h made none cut same = record {
  audit = record {
    counted = record {
      fits = h.audit.counted.fits;
      held = h.audit.counted.held;
      counts = λ s lt. omega (arith, ap (λ (l : List ℕ). get_or l s 0) cut, ap (λ (es : List Entry). length (entries_by s es)) none);
      seats = h.audit.counted.seats;
      folds = ap length cut ∙ h.audit.counted.seats;
      lives = h.audit.counted.lives;
      may = h.audit.counted.may;
      entries = omega (arith, ap length none, h.audit.counted.entries);
      room = omega (arith, same, h.audit.counted.room);
    };
    loud_is = h.audit.loud_is;
    replays = λ on. let r = h.audit.replays on in record {
      replay_is = ap (replay base) none ∙ made on ∙ r.replay_is;
      lawful = subst (AllLawful base) (sym none) tt;
      lives = r.lives;
      may = r.may;
    };
  };
  bounded = record {
    asked = h.bounded.asked;
    made = h.bounded.made;
    inside = λ on. subst (AllInside base) (sym none) tt;
  };
  earned = omega (arith, h.earned, ap length none);
  lives = h.lives;
  may = h.may;
}
