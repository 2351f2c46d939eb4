-- Entries that are replayed one after another.
use Rattle.std.proofs.Common.{◌≡◌, ◌≢◌, ℕ, zero, suc, ◌<◌, ◌≤◌, Bool, true, false, List, [], ◌∷◌, ◌++◌, length, get_or, map, Some, None, refl, sym, ◌∙◌, ap, arith, eq-eqb}
use Rattle.std.specs.Prelude.{◌==◌, if◌then◌else◌}
use Rattle.std.specs.List.{remove}
use Rattle.std.proofs.lemmas.Bool.{ne_eqb}
use Rattle.sector.specs.declared.range.Range.{Range}
use Rattle.plain_machine.specs.declared.request.Dev.{Dev}
use Rattle.plain_machine.specs.declared.request.Dev.TheVariants.{Origin, Snap}
use Rattle.plain_machine.specs.declared.request.Op.{Op}
use Rattle.plain_machine.specs.declared.request.Op.TheVariants.{Read, Write, Flush}
use Rattle.plain_machine.specs.declared.request.Reply.{Reply}
use Rattle.plain_machine.specs.declared.request.Reply.TheVariants.{Data, Written, Flushed, Refused}
use Rattle.plain_machine.specs.declared.request.Failure.TheVariants.{Invalid as IsInvalid, Io, Overflow}
use Rattle.plain_machine.specs.Plain.{Plain, Entry as ShownEntry, Live, Invalid, is_in, spoiled_entry, saved_under, with_saved, asked_under, without, Shown, shown_of}
use Rattle.plain_machine.specs.Serves.{Serves, SameArrays, Shows, Assigns, IsSpoilt}
use Rattle.sector.specs.Bytes.{with_sectors}
use Rattle.audited_volume.specs.declared.entry.Answered.{Answered as AnsweredEntry}
use Rattle.audited_volume.specs.declared.entry.Entry.{Entry}
use Rattle.audited_volume.specs.declared.entry.Entry.TheVariants.{Answered, Spoiled, Overflowed, Attached, Detached, Begun, Finished}
use Rattle.audited_volume.specs.declared.entry.HeldRequest.{HeldRequest}
use Rattle.audited_volume.specs.Replay.{plain_in, served, array_in, after, replay, AllLawful}
use Rattle.audited_volume.specs.Entries.{entries_by}
use Rattle.audited_volume.specs.Books.{in_flight}
use Rattle.audited_volume.specs.Noted.{is_live, is_live_state}
use Rattle.audited_volume.specs.Seats.{seated, seated_under, without_seated}

pub replay_then : (s : Shown) (es fs : List Entry) → replay s (es ++ fs) ≡ replay (replay s es) fs
replay_then s [] fs = refl
replay_then s (e ∷ es) fs = replay_then (after s e) es fs

pub lawful_then : (s : Shown) (es fs : List Entry) → AllLawful s es → AllLawful (replay s es) fs → AllLawful s (es ++ fs)
lawful_then s [] fs all more = more
lawful_then s (e ∷ es) fs all more = (all.0, lawful_then (after s e) es fs all.1 more)

-- spoils
pub spoiled_none : (xs : List ShownEntry) → map (spoiled_entry []) xs ≡ xs
spoiled_none [] = refl
spoiled_none (x ∷ xs) = ap (λ ys. x ∷ ys) (spoiled_none xs)

both_spoiled : (n : ℕ) (ns : List ℕ) (x : ShownEntry) → spoiled_entry ns (spoiled_entry (n ∷ []) x) ≡ spoiled_entry (n ∷ ns) x
both_spoiled n ns x = by (n == x.number) refl
  where
    same : (b : Bool) (y : ShownEntry) → (if b then (record y { saved = Invalid }) else (record y { saved = Invalid })) ≡ record y { saved = Invalid }
    same true y = refl
    same false y = refl

    by : (b : Bool) → (n == x.number) ≡ b → spoiled_entry ns (spoiled_entry (n ∷ []) x) ≡ spoiled_entry (n ∷ ns) x
    by true e = rw e (same (is_in ns x.number) x)
    by false e = rw e refl

pub spoiled_both : (n : ℕ) (ns : List ℕ) (xs : List ShownEntry) → map (spoiled_entry ns) (map (spoiled_entry (n ∷ [])) xs) ≡ map (spoiled_entry (n ∷ ns)) xs
spoiled_both n ns [] = refl
spoiled_both n ns (x ∷ xs) = (λ i. both_spoiled n ns x i ∷ spoiled_both n ns xs i)

pub replay_spoils : (s : Shown) (ns : List ℕ) → replay s (map Spoiled ns) ≡ record s { saved = map (spoiled_entry ns) s.saved }
replay_spoils s [] = ap (λ ys. record s { saved = ys }) (sym (spoiled_none s.saved))
replay_spoils s (n ∷ ns) =
    replay_spoils (record s { saved = map (spoiled_entry (n ∷ [])) s.saved }) ns ∙ ap (λ ys. record s { saved = ys }) (spoiled_both n ns s.saved)

-- the entries of a seat
pub entries_by_spoils : (seat : ℕ) (es : List Entry) (ns : List ℕ) → entries_by seat (es ++ map Spoiled ns) ≡ entries_by seat es
entries_by_spoils seat [] [] = refl
entries_by_spoils seat [] (n ∷ ns) = entries_by_spoils seat [] ns
entries_by_spoils seat (Answered a ∷ es) ns = ap (λ x. if a.seat == seat then a ∷ x else x) (entries_by_spoils seat es ns)
entries_by_spoils seat (Spoiled n ∷ es) ns = entries_by_spoils seat es ns
entries_by_spoils seat (Overflowed n ∷ es) ns = entries_by_spoils seat es ns
entries_by_spoils seat (Attached n array overflow fresh ∷ es) ns = entries_by_spoils seat es ns
entries_by_spoils seat (Detached n ∷ es) ns = entries_by_spoils seat es ns
entries_by_spoils seat (Begun n ∷ es) ns = entries_by_spoils seat es ns
entries_by_spoils seat (Finished ∷ es) ns = entries_by_spoils seat es ns

behind : (b : Bool) (a c : AnsweredEntry) (xs : List AnsweredEntry) → (if b then (a ∷ (xs ++ c ∷ [])) else (xs ++ c ∷ [])) ≡ (if b then (a ∷ xs) else xs) ++ c ∷ []
behind true a c xs = refl
behind false a c xs = refl

pub entries_by_mine : (seat : ℕ) (es : List Entry) (a : AnsweredEntry) → a.seat ≡ seat → entries_by seat (es ++ Answered a ∷ []) ≡ entries_by seat es ++ a ∷ []
entries_by_mine seat [] a same = ap (λ b. if b then (a ∷ []) else []) (eq-eqb a.seat seat same)
entries_by_mine seat (Answered x ∷ es) a same = ap (λ y. if x.seat == seat then (x ∷ y) else y) (entries_by_mine seat es a same) ∙ behind (x.seat == seat) x a (entries_by seat es)
entries_by_mine seat (Spoiled n ∷ es) a same = entries_by_mine seat es a same
entries_by_mine seat (Overflowed n ∷ es) a same = entries_by_mine seat es a same
entries_by_mine seat (Attached n array overflow fresh ∷ es) a same = entries_by_mine seat es a same
entries_by_mine seat (Detached n ∷ es) a same = entries_by_mine seat es a same
entries_by_mine seat (Begun n ∷ es) a same = entries_by_mine seat es a same
entries_by_mine seat (Finished ∷ es) a same = entries_by_mine seat es a same

pub entries_by_other : (seat : ℕ) (es : List Entry) (a : AnsweredEntry) → a.seat ≢ seat → entries_by seat (es ++ Answered a ∷ []) ≡ entries_by seat es
entries_by_other seat [] a apart = ap (λ b. if b then (a ∷ []) else []) (ne_eqb a.seat seat apart)
entries_by_other seat (Answered x ∷ es) a apart = ap (λ y. if x.seat == seat then (x ∷ y) else y) (entries_by_other seat es a apart)
entries_by_other seat (Spoiled n ∷ es) a apart = entries_by_other seat es a apart
entries_by_other seat (Overflowed n ∷ es) a apart = entries_by_other seat es a apart
entries_by_other seat (Attached n array overflow fresh ∷ es) a apart = entries_by_other seat es a apart
entries_by_other seat (Detached n ∷ es) a apart = entries_by_other seat es a apart
entries_by_other seat (Begun n ∷ es) a apart = entries_by_other seat es a apart
entries_by_other seat (Finished ∷ es) a apart = entries_by_other seat es a apart

-- a seat has no more than all
at_most_more : (b : Bool) (a : AnsweredEntry) (xs : List AnsweredEntry) (n : ℕ) → length xs ≤ n → length (if b then (a ∷ xs) else xs) ≤ suc n
at_most_more true a xs n le = omega (arith, le)
at_most_more false a xs n le = omega (arith, le)

pub entries_by_few : (seat : ℕ) (es : List Entry) → length (entries_by seat es) ≤ length es
entries_by_few seat [] = omega arith
entries_by_few seat (Answered x ∷ es) = at_most_more (x.seat == seat) x (entries_by seat es) (length es) (entries_by_few seat es)
entries_by_few seat (Spoiled n ∷ es) = omega (arith, entries_by_few seat es)
entries_by_few seat (Overflowed n ∷ es) = omega (arith, entries_by_few seat es)
entries_by_few seat (Attached n array overflow fresh ∷ es) = omega (arith, entries_by_few seat es)
entries_by_few seat (Detached n ∷ es) = omega (arith, entries_by_few seat es)
entries_by_few seat (Begun n ∷ es) = omega (arith, entries_by_few seat es)
entries_by_few seat (Finished ∷ es) = omega (arith, entries_by_few seat es)

-- a reply of the plain machine is what replay makes of it
same_shown : (p q : Plain) → SameArrays p q → shown_of q ≡ shown_of p
same_shown p q s = (λ i. record { origin = s.origin i; begun = s.begun i; saved = s.saved i })

pub served_is : (p q : Plain) (dev : Dev) (op : Op) (range : Range) (reply : Reply) → Serves p dev op range reply q → shown_of q ≡ served dev op range.first reply (shown_of p)
served_is p q dev Read range (Data bytes) s = same_shown p q s.0
served_is p q dev (Write bytes) range (Data read) s = absurd s
served_is p q dev Read range Written s = absurd s
served_is p q Origin (Write bytes) range Written s =
    let w = s.2 in
    (λ i. record { origin = (w.origin ∙ ap (λ array. with_sectors array range.first bytes) s.1) i; begun = w.begun i; saved = w.saved i })
served_is p q (Snap number) (Write bytes) range Written s =
    let w = s.2 in
    let same : with_saved number (Live (with_sectors s.0 range.first bytes)) p.saved ≡ with_saved number (Live (with_sectors (array_in (saved_under number p.saved)) range.first bytes)) p.saved =
    ap (λ array. with_saved number (Live (with_sectors array range.first bytes)) p.saved) (sym (ap array_in s.1)) in
    (λ i. record { origin = w.origin i; begun = w.begun i; saved = (w.saved ∙ same) i })
served_is p q dev Read range (Refused Io) s = same_shown p q s.0
served_is p q dev (Write bytes) range (Refused Io) s = same_shown p q s.0
served_is p q dev Read range (Refused IsInvalid) s = same_shown p q s.0
served_is p q dev (Write bytes) range (Refused IsInvalid) s = same_shown p q s.0
served_is p q dev Read range (Refused Overflow) s = absurd s
served_is p q dev Read range Flushed s = absurd s
served_is p q dev (Write bytes) range Flushed s = absurd s
served_is p q dev Flush range Flushed s = same_shown p q s.0
served_is p q dev Flush range (Data bytes) s = absurd s
served_is p q dev Flush range Written s = absurd s
served_is p q dev Flush range (Refused Io) s = same_shown p q s.0
served_is p q dev Flush range (Refused IsInvalid) s = same_shown p q s.0
served_is p q dev Flush range (Refused Overflow) s = absurd s
served_is p q dev (Write bytes) range (Refused Overflow) s = absurd s

bare_arrays : (p q : Plain) → SameArrays p q → SameArrays (plain_in (shown_of p)) (plain_in (shown_of q))
bare_arrays p q s = record { origin = s.origin; begun = s.begun; saved = s.saved }

bare_shows : (p : Plain) (dev : Dev) (array : List ℕ) → Shows p dev array → Shows (plain_in (shown_of p)) dev array
bare_shows p Origin array s = s
bare_shows p (Snap number) array s = s

bare_spoilt : (p : Plain) (dev : Dev) → IsSpoilt p dev → IsSpoilt (plain_in (shown_of p)) dev
bare_spoilt p Origin s = absurd s
bare_spoilt p (Snap number) s = s

bare_assigns : (p q : Plain) (dev : Dev) (array : List ℕ) → Assigns dev p q array → Assigns dev (plain_in (shown_of p)) (plain_in (shown_of q)) array
bare_assigns p q Origin array w = record { origin = w.origin; begun = w.begun; saved = w.saved }
bare_assigns p q (Snap number) array w = record { origin = w.origin; begun = w.begun; saved = w.saved }

-- and keeps which snapshots are live
live_with : (b : Bool) (n : ℕ) (x : ShownEntry) (xs : List ShownEntry) (array other : List ℕ) → (x.number == n) ≡ b → (if b then Some x.saved else saved_under n xs) ≡ Some (Live other)
    → (saved_under n xs ≡ Some (Live other) → map is_live (with_saved n (Live array) xs) ≡ map is_live xs)
    → map is_live (if b then (record x { saved = Live array }) ∷ xs else x ∷ with_saved n (Live array) xs) ≡ is_live x ∷ map is_live xs
live_with true n x xs array other e found rest = let is : x.saved ≡ Live other = cc in ap (λ y. y ∷ map is_live xs) (sym (ap is_live_state is))
live_with false n x xs array other e found rest = ap (λ ys. is_live x ∷ ys) (rest found)

lives_with : (n : ℕ) (xs : List ShownEntry) (array other : List ℕ) → saved_under n xs ≡ Some (Live other) → map is_live (with_saved n (Live array) xs) ≡ map is_live xs
lives_with n [] array other found = refl
lives_with n (x ∷ xs) array other found = live_with (x.number == n) n x xs array other refl found (lives_with n xs array other)

pub lives_served : (p q : Plain) (dev : Dev) (op : Op) (range : Range) (reply : Reply) → Serves p dev op range reply q → map is_live q.saved ≡ map is_live p.saved
lives_served p q dev Read range (Data bytes) s = ap (map is_live) s.0.saved
lives_served p q dev (Write bytes) range (Data read) s = absurd s
lives_served p q dev Read range Written s = absurd s
lives_served p q Origin (Write bytes) range Written s = let w = s.2 in ap (map is_live) w.saved
lives_served p q (Snap number) (Write bytes) range Written s = let w = s.2 in ap (map is_live) w.saved ∙ lives_with number p.saved (with_sectors s.0 range.first bytes) s.0 s.1
lives_served p q dev Read range (Refused Io) s = ap (map is_live) s.0.saved
lives_served p q dev (Write bytes) range (Refused Io) s = ap (map is_live) s.0.saved
lives_served p q dev Read range (Refused IsInvalid) s = ap (map is_live) s.0.saved
lives_served p q dev (Write bytes) range (Refused IsInvalid) s = ap (map is_live) s.0.saved
lives_served p q dev Read range (Refused Overflow) s = absurd s
lives_served p q dev Read range Flushed s = absurd s
lives_served p q dev (Write bytes) range Flushed s = absurd s
lives_served p q dev Flush range Flushed s = ap (map is_live) s.0.saved
lives_served p q dev Flush range (Data bytes) s = absurd s
lives_served p q dev Flush range Written s = absurd s
lives_served p q dev Flush range (Refused Io) s = ap (map is_live) s.0.saved
lives_served p q dev Flush range (Refused IsInvalid) s = ap (map is_live) s.0.saved
lives_served p q dev Flush range (Refused Overflow) s = absurd s
lives_served p q dev (Write bytes) range (Refused Overflow) s = absurd s

-- the arrays and states alone say whether a reply is lawful
pub lawful_is : (p q : Plain) (dev : Dev) (op : Op) (range : Range) (reply : Reply) → Serves p dev op range reply q → Serves (plain_in (shown_of p)) dev op range reply (plain_in (shown_of q))
lawful_is p q dev Read range (Data bytes) s = (bare_arrays p q s.0, (s.1.0, bare_shows p dev s.1.0 s.1.1, s.1.2))
lawful_is p q dev (Write bytes) range (Data read) s = absurd s
lawful_is p q dev Read range Written s = absurd s
lawful_is p q dev (Write bytes) range Written s = (s.0, bare_shows p dev s.0 s.1, bare_assigns p q dev (with_sectors s.0 range.first bytes) s.2)
lawful_is p q dev Read range (Refused Io) s = (bare_arrays p q s.0, (s.1.0, bare_shows p dev s.1.0 s.1.1))
lawful_is p q dev (Write bytes) range (Refused Io) s = (bare_arrays p q s.0, (s.1.0, bare_shows p dev s.1.0 s.1.1))
lawful_is p q dev Read range (Refused IsInvalid) s = (bare_arrays p q s.0, bare_spoilt p dev s.1)
lawful_is p q dev (Write bytes) range (Refused IsInvalid) s = (bare_arrays p q s.0, bare_spoilt p dev s.1)
lawful_is p q dev Read range (Refused Overflow) s = absurd s
lawful_is p q dev Read range Flushed s = absurd s
lawful_is p q dev (Write bytes) range Flushed s = absurd s
lawful_is p q dev Flush range Flushed s = (bare_arrays p q s.0, (s.1.0, bare_shows p dev s.1.0 s.1.1))
lawful_is p q dev Flush range (Data bytes) s = absurd s
lawful_is p q dev Flush range Written s = absurd s
lawful_is p q dev Flush range (Refused Io) s = (bare_arrays p q s.0, (s.1.0, bare_shows p dev s.1.0 s.1.1))
lawful_is p q dev Flush range (Refused IsInvalid) s = (bare_arrays p q s.0, bare_spoilt p dev s.1)
lawful_is p q dev Flush range (Refused Overflow) s = absurd s
lawful_is p q dev (Write bytes) range (Refused Overflow) s = absurd s

-- the first request in flight with a number
pub record IsFirst (n : ℕ) (hs : List HeldRequest) (k : ℕ) (x : HeldRequest) : Type 0 where
  pub within : k < length hs
  pub is : x ≡ get_or hs k x
  pub number : x.number ≡ n
  pub before : (j : ℕ) (d : HeldRequest) → j < k → (get_or hs j d).number ≢ n

pub asked_first : (n : ℕ) (hs : List HeldRequest) (k : ℕ) (x : HeldRequest) → IsFirst n hs k x → asked_under n (map in_flight hs) ≡ Some x.for_entry
asked_first n [] k x f = absurd (omega (arith, f.within))
asked_first n (h ∷ hs) zero x f = ap (λ b. if b then Some h.for_entry else asked_under n (map in_flight hs)) (eq-eqb h.number n (ap (λ (y : HeldRequest). y.number) (sym f.is) ∙ f.number)) ∙ ap (λ (y : HeldRequest). Some y.for_entry) (sym f.is)
asked_first n (h ∷ hs) (suc k) x f =
    ap (λ b. if b then Some h.for_entry else asked_under n (map in_flight hs)) (ne_eqb h.number n (f.before 0 h (omega arith)))
    ∙ asked_first n hs k x (record { within = omega (arith, f.within); is = f.is; number = f.number; before = λ j d lt. f.before (suc j) d (omega (arith, lt)) })

pub without_first : (n : ℕ) (hs : List HeldRequest) (k : ℕ) (x : HeldRequest) → IsFirst n hs k x → without n (map in_flight hs) ≡ map in_flight (remove hs k)
without_first n [] k x f = absurd (omega (arith, f.within))
without_first n (h ∷ hs) zero x f = ap (λ b. if b then map in_flight hs else (in_flight h ∷ without n (map in_flight hs))) (eq-eqb h.number n (ap (λ (y : HeldRequest). y.number) (sym f.is) ∙ f.number))
without_first n (h ∷ hs) (suc k) x f =
    ap (λ b. if b then map in_flight hs else (in_flight h ∷ without n (map in_flight hs))) (ne_eqb h.number n (f.before 0 h (omega arith)))
    ∙ ap (λ y. in_flight h ∷ y) (without_first n hs k x (record { within = omega (arith, f.within); is = f.is; number = f.number; before = λ j d lt. f.before (suc j) d (omega (arith, lt)) }))

pub seated_first : (n : ℕ) (hs : List HeldRequest) (k : ℕ) (x : HeldRequest) → IsFirst n hs k x → seated_under n (map seated hs) ≡ Some (seated x)
seated_first n [] k x f = absurd (omega (arith, f.within))
seated_first n (h ∷ hs) zero x f = ap (λ b. if b then Some (seated h) else seated_under n (map seated hs)) (eq-eqb h.number n (ap (λ (y : HeldRequest). y.number) (sym f.is) ∙ f.number)) ∙ ap (λ (y : HeldRequest). Some (seated y)) (sym f.is)
seated_first n (h ∷ hs) (suc k) x f =
    ap (λ b. if b then Some (seated h) else seated_under n (map seated hs)) (ne_eqb h.number n (f.before 0 h (omega arith)))
    ∙ seated_first n hs k x (record { within = omega (arith, f.within); is = f.is; number = f.number; before = λ j d lt. f.before (suc j) d (omega (arith, lt)) })

pub unseated_first : (n : ℕ) (hs : List HeldRequest) (k : ℕ) (x : HeldRequest) → IsFirst n hs k x → without_seated n (map seated hs) ≡ map seated (remove hs k)
unseated_first n [] k x f = absurd (omega (arith, f.within))
unseated_first n (h ∷ hs) zero x f = ap (λ b. if b then map seated hs else (seated h ∷ without_seated n (map seated hs))) (eq-eqb h.number n (ap (λ (y : HeldRequest). y.number) (sym f.is) ∙ f.number))
unseated_first n (h ∷ hs) (suc k) x f =
    ap (λ b. if b then map seated hs else (seated h ∷ without_seated n (map seated hs))) (ne_eqb h.number n (f.before 0 h (omega arith)))
    ∙ ap (λ y. seated h ∷ y) (unseated_first n hs k x (record { within = omega (arith, f.within); is = f.is; number = f.number; before = λ j d lt. f.before (suc j) d (omega (arith, lt)) }))

-- none has the number
pub seated_none : (n : ℕ) (hs : List HeldRequest) → ((j : ℕ) (d : HeldRequest) → j < length hs → (get_or hs j d).number ≢ n) → seated_under n (map seated hs) ≡ None
seated_none n [] none = refl
seated_none n (h ∷ hs) none =
    ap (λ b. if b then Some (seated h) else seated_under n (map seated hs)) (ne_eqb h.number n (none 0 h (omega arith)))
    ∙ seated_none n hs (λ j d lt. none (suc j) d (omega (arith, lt)))

-- an entry of no request is of no seat
pub entries_by_silent : (seat : ℕ) (es : List Entry) (e : Entry) → entries_by seat (e ∷ []) ≡ [] → entries_by seat (es ++ e ∷ []) ≡ entries_by seat es
entries_by_silent seat [] e silent = silent
entries_by_silent seat (Answered a ∷ es) e silent = ap (λ x. if a.seat == seat then a ∷ x else x) (entries_by_silent seat es e silent)
entries_by_silent seat (Spoiled n ∷ es) e silent = entries_by_silent seat es e silent
entries_by_silent seat (Overflowed n ∷ es) e silent = entries_by_silent seat es e silent
entries_by_silent seat (Attached n array overflow fresh ∷ es) e silent = entries_by_silent seat es e silent
entries_by_silent seat (Detached n ∷ es) e silent = entries_by_silent seat es e silent
entries_by_silent seat (Begun n ∷ es) e silent = entries_by_silent seat es e silent
entries_by_silent seat (Finished ∷ es) e silent = entries_by_silent seat es e silent
