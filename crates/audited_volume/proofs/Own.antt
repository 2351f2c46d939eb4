-- A byte stays as a write left it until an entry changes it; so a seat that reads behind its own write meets that.
use Rattle.std.proofs.Common.{◌≡◌, ◌⊎◌, inl, inr, ℕ, ◌+◌, ◌-◌, ◌*◌, ◌<◌, ◌≤◌, true, false, List, [], ◌∷◌, ◌++◌, map, length, nat_lt, Option, Some, refl, sym, ◌∙◌, ap, subst, arith, ltb-false}
use Rattle.std.specs.Prelude.{◌==◌, ◌&&◌, slice_index}
use Rattle.std.specs.List.{list_any}
use Rattle.std.proofs.lemmas.Bool.{cases_Bool, eqb-true, false≢true, ltb-true}
use Rattle.sector.specs.Bytes.{with_sectors}
use Rattle.sector.specs.declared.range.Range.{Range}
use Rattle.sector.proofs.Sectors.{byte_inside, byte_outside, byte_read}
use Rattle.plain_machine.specs.Plain.{Plain, Entry as ShownEntry, Saved, Live, Invalid, saved_under, spoiled_entry, with_saved, is_in, Shown}
use Rattle.plain_machine.specs.Serves.{Serves, Shows}
use Rattle.plain_machine.specs.declared.request.Dev.{Dev}
use Rattle.plain_machine.specs.declared.request.Dev.TheVariants.{Origin, Snap}
use Rattle.plain_machine.specs.declared.request.Op.{Op}
use Rattle.plain_machine.specs.declared.request.Op.TheVariants.{Read, Write, Flush}
use Rattle.plain_machine.specs.declared.request.Reply.{Reply}
use Rattle.plain_machine.specs.declared.request.Reply.TheVariants.{Data, Written, Flushed, Refused}
use Rattle.plain_machine.proofs.Unwritten.{saved_marked}
use Rattle.audited_volume.specs.declared.entry.Answered.{Answered as AnsweredEntry}
use Rattle.audited_volume.specs.declared.entry.Entry.{Entry}
use Rattle.audited_volume.specs.declared.entry.Entry.TheVariants.{Answered, Spoiled, Overflowed, Attached, Detached, Begun, Finished}
use Rattle.audited_volume.specs.Entries.{entries_by}
use Rattle.audited_volume.specs.Inside.{AllInside, IsInside, LiesInside}
use Rattle.audited_volume.specs.Replay.{AllLawful, IsLawful, after, array_in, plain_in, put, replay, served}
use Rattle.audited_volume.specs.Own.{HasGot, HasPut, MeetsOwn, changes, has_place, is_dev, puts}
use Rattle.audited_volume.proofs.Undone.{less_other, more_other}

-- a snapshot that shows an array after a spoil showed it before
live_spoiled : (n m : ℕ) (xs : List ShownEntry) (array : List ℕ) → saved_under m (map (spoiled_entry (n ∷ [])) xs) ≡ Some (Live array) → saved_under m xs ≡ Some (Live array)
live_spoiled n m [] array is = is
live_spoiled n m (x ∷ xs) array is = elim (cases_Bool (x.number == m)) [
  | inl here ↦ elim (cases_Bool (is_in (n ∷ []) x.number)) [
    | inl lost ↦ (let gone : Some (Invalid) ≡ Some (Live array) = subst (λ (o : Option Saved). o ≡ Some (Live array)) (rw lost (rw here refl)) is in absurd cc)
    | inr free ↦ (let same : saved_under m (map (spoiled_entry (n ∷ [])) (x ∷ xs)) ≡ saved_under m (x ∷ xs) = rw free (rw here refl) in sym same ∙ is)
  ]
  | inr there ↦ elim (cases_Bool (is_in (n ∷ []) x.number)) [
    | inl lost ↦ (let rest : saved_under m (map (spoiled_entry (n ∷ [])) (x ∷ xs)) ≡ saved_under m (map (spoiled_entry (n ∷ [])) xs) = rw lost (rw there refl) in rw there (live_spoiled n m xs array (sym rest ∙ is)))
    | inr free ↦ (let rest : saved_under m (map (spoiled_entry (n ∷ [])) (x ∷ xs)) ≡ saved_under m (map (spoiled_entry (n ∷ [])) xs) = rw free (rw there refl) in rw there (live_spoiled n m xs array (sym rest ∙ is)))
  ]
]

-- the array that was put, of this snapshot and of another
own_saved : (n : ℕ) (saved other : Saved) (xs : List ShownEntry) → saved_under n xs ≡ Some other → saved_under n (with_saved n saved xs) ≡ Some saved
own_saved n saved other [] is = absurd cc
own_saved n saved other (x ∷ xs) is = elim (cases_Bool (x.number == n)) [
  | inl here ↦ rw here (rw here refl)
  | inr there ↦ (let rest : saved_under n (x ∷ xs) ≡ saved_under n xs = rw there refl in rw there (rw there (own_saved n saved other xs (sym rest ∙ is))))
]

other_saved : (m n : ℕ) (saved : Saved) (xs : List ShownEntry) → (n == m) ≡ false → saved_under m (with_saved n saved xs) ≡ saved_under m xs
other_saved m n saved [] ne = refl
other_saved m n saved (x ∷ xs) ne = elim (cases_Bool (x.number == n)) [
  | inl here ↦ (let at : (x.number == m) ≡ false = ap (λ k. k == m) (eqb-true x.number n here) ∙ ne in rw here (rw at refl))
  | inr there ↦ elim (cases_Bool (x.number == m)) [
    | inl mine ↦ rw there (rw mine refl)
    | inr other ↦ rw there (rw other (other_saved m n saved xs ne))
  ]
]

outside : (first long i : ℕ) → has_place first long i ≡ false → (i < 512 * first) ⊎ (512 * first + long ≤ i)
outside first long i none = elim (cases_Bool (nat_lt i (512 * first))) [
  | inl low ↦ inl (ltb-true i (512 * first) low)
  | inr high ↦ inr (ltb-false i (512 * first + long) (sym (rw high refl) ∙ none))
]

-- a device that shows an array has this byte in it
abbrev Holds : Dev → ℕ → ℕ → Shown → Type 0
Holds dev i byte s = (array : List ℕ) → Shows (plain_in s) dev array → slice_index array i ≡ byte

module _ (i byte : ℕ) where
  still_snap : (m : ℕ) (s t : Shown) → saved_under m t.saved ≡ saved_under m s.saved → Holds (Snap m) i byte s → Holds (Snap m) i byte t
  still_snap m s t same h = λ array shows. h array (sym same ∙ shows)

  live_is : (o : Option Saved) (a b : List ℕ) → o ≡ Some (Live a) → o ≡ Some (Live b) → a ≡ b
  live_is o a b e f = let both : Some (Live a) ≡ Some (Live b) = sym e ∙ f in cc

  -- the array of a snapshot that was written
  snap_put : (n first : ℕ) (bytes array new : List ℕ) (s : Shown) → saved_under n s.saved ≡ Some (Live array) → Shows (plain_in (put (Snap n) first bytes s)) (Snap n) new → new ≡ with_sectors array first bytes
  snap_put n first bytes array new s is shows =
      live_is (saved_under n (put (Snap n) first bytes s).saved) new (with_sectors array first bytes) shows
      (own_saved n (Live (with_sectors (array_in (saved_under n s.saved)) first bytes)) (Live array) s.saved is ∙ ap (λ (o : Option Saved). Some (Live (with_sectors (array_in o) first bytes))) is)

  -- a write elsewhere
  put_holds : (dev of : Dev) (first : ℕ) (bytes array : List ℕ) (s : Shown) → Shows (plain_in s) of array → 512 * first + length bytes ≤ length array → (is_dev dev of && has_place first (length bytes) i) ≡ false → Holds dev i byte s → Holds dev i byte (put of first bytes s)
  put_holds Origin Origin first bytes array s is fits none h =
      λ new shows. ap (λ (x : List ℕ). slice_index x i) shows ∙ byte_outside s.origin first bytes i (subst (λ (x : List ℕ). 512 * first + length bytes ≤ length x) is fits) (outside first (length bytes) i none) ∙ h s.origin refl
  put_holds Origin (Snap n) first bytes array s is fits none h = h
  put_holds (Snap m) Origin first bytes array s is fits none h = h
  put_holds (Snap m) (Snap n) first bytes array s is fits none h = elim (cases_Bool (n == m)) [
    | inl mine ↦ (
        let at : n ≡ m = eqb-true n m mine in
        let out : has_place first (length bytes) i ≡ false = sym (rw mine refl) ∙ none in
        λ new shows.
        ap (λ (x : List ℕ). slice_index x i) (snap_put n first bytes array new s is (subst (λ (k : ℕ). saved_under k (put (Snap n) first bytes s).saved ≡ Some (Live new)) (sym at) shows))
        ∙ byte_outside array first bytes i fits (outside first (length bytes) i out)
        ∙ h array (subst (λ (k : ℕ). saved_under k s.saved ≡ Some (Live array)) at is)
        )
    | inr other ↦ still_snap m s (put (Snap n) first bytes s) (other_saved m n (Live (with_sectors (array_in (saved_under n s.saved)) first bytes)) s.saved other) h
  ]

  served_holds : (dev of : Dev) (op : Op) (range : Range) (reply : Reply) (s : Shown) (new : Plain) → Serves (plain_in s) of op range reply new → LiesInside s of op range.first reply → puts dev i of op range.first reply ≡ false → Holds dev i byte s → Holds dev i byte (served of op range.first reply s)
  served_holds dev of op range (Data read) s new lawful inside none h = h
  served_holds dev of op range (Refused failure) s new lawful inside none h = h
  served_holds dev of op range Flushed s new lawful inside none h = h
  served_holds dev of Read range Written s new lawful inside none h = absurd lawful
  served_holds dev of Flush range Written s new lawful inside none h = absurd lawful
  served_holds dev of (Write bytes) range Written s new lawful inside none h = put_holds dev of range.first bytes lawful.0 s lawful.1 (inside lawful.0 lawful.1) none h

  one_holds : (dev : Dev) (e : Entry) (s : Shown) → IsLawful s e → IsInside s e → changes dev i e ≡ false → Holds dev i byte s → Holds dev i byte (after s e)
  one_holds dev (Answered a) s lawful inside none h = served_holds dev a.request.dev a.request.op a.request.range a.reply s (plain_in (after s (Answered a))) lawful inside none h
  one_holds Origin (Spoiled n) s lawful inside none h = h
  one_holds (Snap m) (Spoiled n) s lawful inside none h = λ array shows. h array (live_spoiled n m s.saved array shows)
  one_holds Origin (Overflowed n) s lawful inside none h = h
  one_holds (Snap m) (Overflowed n) s lawful inside none h = still_snap m s (after s (Overflowed n)) (saved_marked m n s.saved) h
  one_holds Origin (Attached n array overflow fresh) s lawful inside none h = h
  one_holds (Snap m) (Attached n array overflow fresh) s lawful inside none h = still_snap m s (after s (Attached n array overflow fresh)) (more_other m n (Live array) overflow s.saved none) h
  one_holds Origin (Detached n) s lawful inside none h = h
  one_holds (Snap m) (Detached n) s lawful inside none h = still_snap m s (after s (Detached n)) (less_other m n s.saved none) h
  one_holds Origin (Begun n) s lawful inside none h = absurd (false≢true (sym none))
  one_holds (Snap m) (Begun n) s lawful inside none h = still_snap m s (after s (Begun n)) (less_other m n s.saved none) h
  one_holds Origin Finished s lawful inside none h = h
  one_holds (Snap m) Finished s lawful inside none h = h

  all_hold : (dev : Dev) (es : List Entry) (s : Shown) → AllLawful s es → AllInside s es → list_any (changes dev i) es ≡ false → Holds dev i byte s → Holds dev i byte (replay s es)
  all_hold dev [] s lawful inside none h = h
  all_hold dev (e ∷ es) s lawful inside none h = elim (cases_Bool (changes dev i e)) [
    | inl one ↦ absurd (false≢true (sym none ∙ rw one refl))
    | inr free ↦ all_hold dev es (after s e) lawful.1 inside.1 (sym (rw free refl) ∙ none) (one_holds dev e s lawful.0 inside.0 free h)
  ]

-- what a write put there
put_there : (dev : Dev) (i first : ℕ) (bytes array : List ℕ) (s : Shown) → Shows (plain_in s) dev array → 512 * first + length bytes ≤ length array → 512 * first ≤ i → i < 512 * first + length bytes → Holds dev i (slice_index bytes (i - 512 * first)) (put dev first bytes s)
put_there dev i first bytes array s is fits from below =
    let at : 512 * first + (i - 512 * first) ≡ i = omega (arith, from) in
    let has : slice_index (with_sectors array first bytes) i ≡ slice_index bytes (i - 512 * first) = ap (slice_index (with_sectors array first bytes)) (sym at) ∙ byte_inside array first bytes (i - 512 * first) fits (omega (arith, from, below)) in
    go dev is has
  where
    go : (dev : Dev) → Shows (plain_in s) dev array → slice_index (with_sectors array first bytes) i ≡ slice_index bytes (i - 512 * first) → Holds dev i (slice_index bytes (i - 512 * first)) (put dev first bytes s)
    go Origin is has = λ new shows. ap (λ (x : List ℕ). slice_index x i) (shows ∙ ap (λ (x : List ℕ). with_sectors x first bytes) (sym is)) ∙ has
    go (Snap n) is has = λ new shows. ap (λ (x : List ℕ). slice_index x i) (snap_put i 0 n first bytes array new s is shows) ∙ has

put_by : (dev of : Dev) (i : ℕ) (op : Op) (bytes : List ℕ) (range : Range) (reply : Reply) (s : Shown) (new : Plain) → of ≡ dev → op ≡ Write bytes → reply ≡ Written → 512 * range.first ≤ i → i < 512 * range.first + length bytes → Serves (plain_in s) of op range reply new → LiesInside s of op range.first reply
    → Holds dev i (slice_index bytes (i - 512 * range.first)) (served of op range.first reply s)
put_by dev of i op bytes range reply s new d o r from below lawful inside =
    let lawful' : Serves (plain_in s) of (Write bytes) range Written new = subst (λ (x : Reply). Serves (plain_in s) of (Write bytes) range x new) r (subst (λ (x : Op). Serves (plain_in s) of x range reply new) o lawful) in
    let inside' : LiesInside s of (Write bytes) range.first Written = subst (λ (x : Reply). LiesInside s of (Write bytes) range.first x) r (subst (λ (x : Op). LiesInside s of x range.first reply) o inside) in
    let there : Holds of i (slice_index bytes (i - 512 * range.first)) (put of range.first bytes s) = put_there of i range.first bytes lawful'.0 s lawful'.1 (inside' lawful'.0 lawful'.1) from below in
    let made : served of (Write bytes) range.first Written s ≡ served of op range.first reply s = (λ j. served of (sym o j) range.first (sym r j) s) in
    subst (λ (x : Shown). Holds dev i (slice_index bytes (i - 512 * range.first)) x) made (subst (λ (x : Dev). Holds x i (slice_index bytes (i - 512 * range.first)) (put of range.first bytes s)) d there)

-- what a read gave
got_by : (dev of : Dev) (i byte : ℕ) (op : Op) (bytes : List ℕ) (range : Range) (reply : Reply) (s : Shown) (new : Plain) → of ≡ dev → reply ≡ Data bytes → 512 * range.first ≤ i → i < 512 * (range.first + range.count) → Serves (plain_in s) of op range reply new → Holds dev i byte s → slice_index bytes (i - 512 * range.first) ≡ byte
got_by dev of i byte op bytes range reply s new d r from below lawful h = go op (subst (λ (x : Reply). Serves (plain_in s) of op range x new) r lawful)
  where
    at : 512 * range.first + (i - 512 * range.first) ≡ i
    at = omega (arith, from)

    go : (op : Op) → Serves (plain_in s) of op range (Data bytes) new → slice_index bytes (i - 512 * range.first) ≡ byte
    go Read is =
        let array : List ℕ = is.1.0 in
        ap (λ (x : List ℕ). slice_index x (i - 512 * range.first)) is.1.2 ∙ byte_read array range.first range.count (i - 512 * range.first) (omega (arith, from, below))
        ∙ ap (slice_index array) at ∙ h array (subst (λ (x : Dev). Shows (plain_in s) x array) d is.1.1)
    go (Write sent) is = absurd is
    go Flush is = absurd is

-- where one of a seat's stands among all
record Found (seat : ℕ) (a : AnsweredEntry) (rest : List AnsweredEntry) (es : List Entry) : Type 0 where
  front : List Entry
  back : List Entry
  order : es ≡ front ++ (Answered a ∷ back)
  left : entries_by seat back ≡ rest

found_later : (seat : ℕ) (a : AnsweredEntry) (rest : List AnsweredEntry) (e : Entry) (es : List Entry) → Found seat a rest es → Found seat a rest (e ∷ es)
found_later seat a rest e es f = record { front = e ∷ f.front; back = f.back; order = ap (λ (l : List Entry). e ∷ l) f.order; left = f.left }

head_is : (x y : AnsweredEntry) (xs ys : List AnsweredEntry) → x ∷ xs ≡ y ∷ ys → (x ≡ y) × (xs ≡ ys)
head_is x y xs ys e = (cc, cc)

find_own : (seat : ℕ) (es : List Entry) (before : List AnsweredEntry) (a : AnsweredEntry) (rest : List AnsweredEntry) → entries_by seat es ≡ before ++ (a ∷ rest) → Found seat a rest es
find_own seat [] [] a rest e = absurd cc
find_own seat [] (b ∷ before) a rest e = absurd cc
find_own seat (Spoiled n ∷ es) before a rest e = found_later seat a rest (Spoiled n) es (find_own seat es before a rest e)
find_own seat (Overflowed n ∷ es) before a rest e = found_later seat a rest (Overflowed n) es (find_own seat es before a rest e)
find_own seat (Attached n array overflow fresh ∷ es) before a rest e = found_later seat a rest (Attached n array overflow fresh) es (find_own seat es before a rest e)
find_own seat (Detached n ∷ es) before a rest e = found_later seat a rest (Detached n) es (find_own seat es before a rest e)
find_own seat (Begun n ∷ es) before a rest e = found_later seat a rest (Begun n) es (find_own seat es before a rest e)
find_own seat (Finished ∷ es) before a rest e = found_later seat a rest Finished es (find_own seat es before a rest e)
find_own seat (Answered x ∷ es) before a rest e = elim (cases_Bool (x.seat == seat)) [
  | inr other ↦ found_later seat a rest (Answered x) es (find_own seat es before a rest (sym (rw other refl) ∙ e))
  | inl mine ↦ here before (λ (bs : List AnsweredEntry) (same : entries_by seat es ≡ bs ++ (a ∷ rest)). find_own seat es bs a rest same) (sym (rw mine refl) ∙ e)
]
  where
    here : (before : List AnsweredEntry) → ((bs : List AnsweredEntry) → entries_by seat es ≡ bs ++ (a ∷ rest) → Found seat a rest es) → x ∷ entries_by seat es ≡ before ++ (a ∷ rest) → Found seat a rest (Answered x ∷ es)
    here [] deeper same = let (first, others) = head_is x a (entries_by seat es) rest same in record { front = []; back = es; order = ap (λ (y : AnsweredEntry). Answered y ∷ es) first; left = others }
    here (b ∷ before) deeper same = found_later seat a rest (Answered x) es (deeper before (head_is x b (entries_by seat es) (before ++ (a ∷ rest)) same).1)

pub lawful_rest : (s : Shown) (es fs : List Entry) → AllLawful s (es ++ fs) → AllLawful (replay s es) fs
lawful_rest s [] fs all = all
lawful_rest s (e ∷ es) fs all = lawful_rest (after s e) es fs all.1

lawful_first : (s : Shown) (es fs : List Entry) → AllLawful s (es ++ fs) → AllLawful s es
lawful_first s [] fs all = tt
lawful_first s (e ∷ es) fs all = (all.0, lawful_first (after s e) es fs all.1)

pub inside_rest : (s : Shown) (es fs : List Entry) → AllInside s (es ++ fs) → AllInside (replay s es) fs
inside_rest s [] fs all = all
inside_rest s (e ∷ es) fs all = inside_rest (after s e) es fs all.1

inside_first : (s : Shown) (es fs : List Entry) → AllInside s (es ++ fs) → AllInside s es
inside_first s [] fs all = tt
inside_first s (e ∷ es) fs all = (all.0, inside_first (after s e) es fs all.1)

-- two requests, with entries between them
meets_two : (s : Shown) (w r : AnsweredEntry) (between back : List Entry) → AllLawful s (Answered w ∷ (between ++ (Answered r ∷ back))) → AllInside s (Answered w ∷ (between ++ (Answered r ∷ back)))
    → (dev : Dev) (i put got : ℕ) → HasPut dev i put w → HasGot dev i got r → (got ≡ put) ⊎ (list_any (changes dev i) between ≡ true)
meets_two s w r between back lawful inside dev i put got p g = elim (cases_Bool (list_any (changes dev i) between)) [
  | inl changed ↦ inr changed
  | inr none ↦ (
      let t : Shown = after s (Answered w) in
      let holds : Holds dev i put t = subst (λ (b : ℕ). Holds dev i b t) (sym p.byte_is) (put_by dev w.request.dev i w.request.op p.bytes w.request.range w.reply s (plain_in t) p.dev_is p.op_is p.done p.from p.below lawful.0 inside.0) in
      let still : Holds dev i put (replay t between) = all_hold i put dev between t (lawful_first t between (Answered r ∷ back) lawful.1) (inside_first t between (Answered r ∷ back) inside.1) none holds in
      let rest : AllLawful (replay t between) (Answered r ∷ back) = lawful_rest t between (Answered r ∷ back) lawful.1 in
      inl (g.byte_is ∙ got_by dev r.request.dev i put r.request.op g.bytes r.request.range r.reply (replay t between) (plain_in (after (replay t between) (Answered r))) g.dev_is g.reply_is g.from g.below rest.0 still)
      )
]

-- the law: in lawful entries whose writes lie inside their arrays, a seat meets its own
pub meets_own : (s : Shown) (es : List Entry) → AllLawful s es → AllInside s es → (seat : ℕ) → MeetsOwn seat es
meets_own s es lawful inside seat = λ before between after w r e.
    let first : Found seat w (between ++ (r ∷ after)) es = find_own seat es before w (between ++ (r ∷ after)) e in
    let second : Found seat r after first.back = find_own seat first.back between r after first.left in
    let order : es ≡ first.front ++ (Answered w ∷ (second.front ++ (Answered r ∷ second.back))) = first.order ∙ ap (λ (l : List Entry). first.front ++ (Answered w ∷ l)) second.order in
    record {
      front = first.front;
      between = second.front;
      back = second.back;
      order = order;
      meets = meets_two (replay s first.front) w r second.front second.back
          (lawful_rest s first.front (Answered w ∷ (second.front ++ (Answered r ∷ second.back))) (subst (AllLawful s) order lawful))
          (inside_rest s first.front (Answered w ∷ (second.front ++ (Answered r ∷ second.back))) (subst (AllInside s) order inside));
    }
