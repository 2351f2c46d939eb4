-- A snapshot that was taken and not written since shows its array, or is lost, after every entry; so its merge gives it back.
use Rattle.std.proofs.Common.{◌≡◌, inl, inr, ℕ, Bool, true, false, List, [], ◌∷◌, ◌++◌, Option, None, Some, refl, sym, ◌∙◌, ap}
use Rattle.std.specs.Prelude.{◌==◌}
use Rattle.std.specs.List.{flat_map}
use Rattle.std.proofs.lemmas.Bool.{cases_Bool, eqb-true}
use Rattle.plain_machine.specs.Plain.{Plain, Entry as ShownEntry, Saved, Live, Invalid, saved_under, without_saved, Shown, shown_of}
use Rattle.sector.specs.declared.range.Range.{Range}
use Rattle.plain_machine.specs.declared.request.Overflowing.{Overflowing}
use Rattle.plain_machine.specs.declared.request.Dev.{Dev}
use Rattle.plain_machine.specs.declared.request.Op.{Op}
use Rattle.plain_machine.specs.declared.request.Op.TheVariants.{Read, Write, Flush}
use Rattle.plain_machine.specs.declared.request.Reply.{Reply}
use Rattle.plain_machine.specs.declared.request.Reply.TheVariants.{Data, Written, Flushed, Refused}
use Rattle.plain_machine.specs.declared.request.Failure.{Failure}
use Rattle.plain_machine.specs.declared.request.Failure.TheVariants.{Io, Invalid as IsInvalid, Overflow}
use Rattle.plain_machine.specs.Serves.{Serves}
use Rattle.plain_machine.specs.Unwritten.{writes, StillShows}
use Rattle.plain_machine.proofs.Unwritten.{still_spoiled, saved_marked, unwritten_serves}
use Rattle.device.specs.Layers.{Layer}
use Rattle.merge.specs.Merging.{Merging}
use Rattle.volume.specs.Shown.{shown_begun, shown_origin}
use Rattle.volume.specs.Volumed.{Volumed, plain_of}
use Rattle.audited_volume.specs.declared.entry.Entry.{Entry}
use Rattle.audited_volume.specs.declared.entry.Entry.TheVariants.{Answered, Spoiled, Overflowed, Attached, Detached, Begun, Finished}
use Rattle.audited_volume.specs.Replay.{plain_in, after, array_in, replay, IsLawful, AllLawful}
use Rattle.audited_volume.specs.Undone.{Taken, wrote, ends, still, held_back, noted, ShowsTaken, IsUndone, AllUndone, live_of, taken_in, left_of, AllShow}
use Rattle.audited_volume.proofs.Gained.{saved_last}

-- one more, or one less, with another number
pub more_other : (number n : ℕ) (saved : Saved) (overflow : Overflowing) (entries : List ShownEntry) → (n == number) ≡ false → saved_under number (entries ++ record { number = n; saved = saved; overflow = overflow } ∷ []) ≡ saved_under number entries
more_other number n saved overflow [] ne = rw ne refl
more_other number n saved overflow (e ∷ es) ne = elim (cases_Bool (e.number == number)) [
  | inl mine ↦ rw mine refl
  | inr other ↦ rw other (more_other number n saved overflow es ne)
]

pub less_other : (number n : ℕ) (entries : List ShownEntry) → (n == number) ≡ false → saved_under number (without_saved n entries) ≡ saved_under number entries
less_other number n [] ne = refl
less_other number n (e ∷ es) ne = elim (cases_Bool (e.number == n)) [
  | inl here ↦ (let at : (e.number == number) ≡ false = ap (λ k. k == number) (eqb-true e.number n here) ∙ ne in rw here (rw at refl))
  | inr there ↦ elim (cases_Bool (e.number == number)) [
    | inl mine ↦ rw there (rw mine refl)
    | inr other ↦ rw there (rw other (less_other number n es ne))
  ]
]

same_shows : (number : ℕ) (array : List ℕ) (s t : Shown) → saved_under number t.saved ≡ saved_under number s.saved → StillShows number array (plain_in s) → StillShows number array (plain_in t)
same_shows number array s t at shows = elim shows [ inl live ↦ inl (at ∙ live) | inr lost ↦ inr (at ∙ lost) ]

-- a reply that is no write's leaves what the snapshots show
refused_same : (number : ℕ) (old new : Plain) (dev : Dev) (op : Op) (range : Range) (failure : Failure) → Serves old dev op range (Refused failure) new → saved_under number new.saved ≡ saved_under number old.saved
refused_same number old new dev Read range Io h = ap (saved_under number) h.0.saved
refused_same number old new dev Read range IsInvalid h = ap (saved_under number) h.0.saved
refused_same number old new dev Read range Overflow h = absurd h
refused_same number old new dev (Write bytes) range Io h = ap (saved_under number) h.0.saved
refused_same number old new dev (Write bytes) range IsInvalid h = ap (saved_under number) h.0.saved
refused_same number old new dev (Write bytes) range Overflow h = absurd h
refused_same number old new dev Flush range Io h = ap (saved_under number) h.0.saved
refused_same number old new dev Flush range IsInvalid h = ap (saved_under number) h.0.saved
refused_same number old new dev Flush range Overflow h = absurd h

read_same : (number : ℕ) (old new : Plain) (dev : Dev) (op : Op) (range : Range) (bytes : List ℕ) → Serves old dev op range (Data bytes) new → saved_under number new.saved ≡ saved_under number old.saved
read_same number old new dev Read range bytes h = ap (saved_under number) h.0.saved
read_same number old new dev (Write put) range bytes h = absurd h
read_same number old new dev Flush range bytes h = absurd h

flush_same : (number : ℕ) (old new : Plain) (dev : Dev) (op : Op) (range : Range) → Serves old dev op range Flushed new → saved_under number new.saved ≡ saved_under number old.saved
flush_same number old new dev Read range h = absurd h
flush_same number old new dev (Write put) range h = absurd h
flush_same number old new dev Flush range h = ap (saved_under number) h.0.saved

unwritten : (number : ℕ) (old new : Plain) (dev : Dev) (op : Op) (range : Range) (reply : Reply) → wrote reply (writes number dev op) ≡ false → Serves old dev op range reply new → saved_under number new.saved ≡ saved_under number old.saved
unwritten number old new dev op range Written free h = unwritten_serves number old new dev op range Written free h
unwritten number old new dev op range (Data bytes) free h = read_same number old new dev op range bytes h
unwritten number old new dev op range Flushed free h = flush_same number old new dev op range h
unwritten number old new dev op range (Refused failure) free h = refused_same number old new dev op range failure h

-- after an entry that neither writes it nor takes it away
one_keeps : (e : Entry) (number : ℕ) (array : List ℕ) (s : Shown) → IsLawful s e → ends e number ≡ false → StillShows number array (plain_in s) → StillShows number array (plain_in (after s e))
one_keeps (Answered a) number array s lawful free shows =
    same_shows number array s (after s (Answered a)) (unwritten number (plain_in s) (plain_in (after s (Answered a))) a.request.dev a.request.op a.request.range a.reply free lawful) shows
one_keeps (Spoiled n) number array s lawful free shows = still_spoiled (n ∷ []) number array (plain_in s) (plain_in (after s (Spoiled n))) refl shows
one_keeps (Overflowed n) number array s lawful free shows = same_shows number array s (after s (Overflowed n)) (saved_marked number n s.saved) shows
one_keeps (Attached n other overflow fresh) number array s lawful free shows = same_shows number array s (after s (Attached n other overflow fresh)) (more_other number n (Live other) overflow s.saved free) shows
one_keeps (Detached n) number array s lawful free shows = same_shows number array s (after s (Detached n)) (less_other number n s.saved free) shows
one_keeps (Begun n) number array s lawful free shows = same_shows number array s (after s (Begun n)) (less_other number n s.saved free) shows
one_keeps Finished number array s lawful free shows = same_shows number array s (after s Finished) refl shows

still_show : (e : Entry) (taken : List Taken) (s : Shown) → IsLawful s e → AllShow taken s → AllShow (still e taken) (after s e)
still_show e [] s lawful all = tt
still_show e (t ∷ taken) s lawful all = elim (cases_Bool (ends e t.number)) [
  | inl gone ↦ rw gone (still_show e taken s lawful all.1)
  | inr free ↦ rw free (one_keeps e t.number t.array s lawful free all.0, still_show e taken s lawful all.1)
]

all_keep : (e : Entry) (taken : List Taken) (s : Shown) → IsLawful s e → ((t : Taken) → ends e t.number ≡ false) → AllShow taken s → AllShow taken (after s e)
all_keep e [] s lawful free all = tt
all_keep e (t ∷ taken) s lawful free all = (one_keeps e t.number t.array s lawful (free t) all.0, all_keep e taken s lawful free all.1)

-- what is remembered of a snapshot is what it shows when it is taken
held_is : (fresh : Bool) (origin array : List ℕ) → (fresh ≡ true → array ≡ origin) → array ≡ held_back fresh origin array
held_is true origin array same = same refl
held_is false origin array same = refl

noted_show : (e : Entry) (taken : List Taken) (s : Shown) → IsLawful s e → AllShow taken s → AllShow (noted s.origin e taken) (after s e)
noted_show (Answered a) taken s lawful all = still_show (Answered a) taken s lawful all
noted_show (Spoiled n) taken s lawful all = all_keep (Spoiled n) taken s lawful (λ t. refl) all
noted_show (Overflowed n) taken s lawful all = all_keep (Overflowed n) taken s lawful (λ t. refl) all
noted_show (Attached n array overflow fresh) taken s lawful all = (
  inl (saved_last n (Live array) overflow s.saved lawful.0 ∙ ap (λ a. Some (Live a)) (held_is fresh s.origin array lawful.2)),
  still_show (Attached n array overflow fresh) taken s lawful all,
)
noted_show (Detached n) taken s lawful all = still_show (Detached n) taken s lawful all
noted_show (Begun n) taken s lawful all = still_show (Begun n) taken s lawful all
noted_show Finished taken s lawful all = all_keep Finished taken s lawful (λ t. refl) all

-- the array that a live one shows is the one that was taken
taken_is : (number n : ℕ) (array live : List ℕ) (s : Shown) → number ≡ n → saved_under n s.saved ≡ Some (Live live) → StillShows number array (plain_in s) → array_in (saved_under n s.saved) ≡ array
taken_is number n array live s same is (inl shows) =
    ap array_in (ap (λ k. saved_under k s.saved) (sym same) ∙ shows)
taken_is number n array live s same is (inr lost) =
    let both : Some (Live live) ≡ Some Invalid = sym is ∙ ap (λ k. saved_under k s.saved) (sym same) ∙ lost in
    absurd cc

begun_shows : (n : ℕ) (live : List ℕ) (taken : List Taken) (s : Shown) → saved_under n s.saved ≡ Some (Live live) → AllShow taken s → ShowsTaken n (array_in (saved_under n s.saved)) taken
begun_shows n live [] s is all = tt
begun_shows n live (t ∷ taken) s is all = ((λ same. taken_is t.number n t.array live s same is all.0), begun_shows n live taken s is all.1)

one_undone : (e : Entry) (taken : List Taken) (s : Shown) → IsLawful s e → AllShow taken s → IsUndone taken e (after s e)
one_undone (Answered a) taken s lawful all = tt
one_undone (Spoiled n) taken s lawful all = tt
one_undone (Overflowed n) taken s lawful all = tt
one_undone (Attached n array overflow fresh) taken s lawful all = tt
one_undone (Detached n) taken s lawful all = tt
one_undone (Begun n) taken s lawful all = begun_shows n lawful.1.0 taken s lawful.1.1 all
one_undone Finished taken s lawful all = tt

all_undone : (taken : List Taken) (s : Shown) (es : List Entry) → AllShow taken s → AllLawful s es → AllUndone taken s es
all_undone taken s [] all lawful = tt
all_undone taken s (e ∷ es) all lawful = (one_undone e taken s lawful.0 all, all_undone (noted s.origin e taken) (after s e) es (noted_show e taken s lawful.0 all) lawful.1)

-- without a merge the origin shows its disk
pub disk_shown : {B : Type 0} (contents : B → List ℕ) (layers : B → List Layer) (v : Volumed B) (s : Shown) → s ≡ shown_of (plain_of contents layers v) → s.begun ≡ None → s.origin ≡ contents v.origin
disk_shown {B} contents layers v s is none = ap (λ (x : Shown). x.origin) is ∙ by v.merge (sym (ap (λ (x : Shown). x.begun) is) ∙ none)
  where
    by : (m : Option (Merging B)) → shown_begun m ≡ None → shown_origin contents v.origin m ≡ contents v.origin
    by None e = refl
    by (Some m) e = absurd (cc)

-- those that are live show what they show
one_more : (s : Shown) (n : ℕ) (saved : Option Saved) (rest : List Taken) → saved_under n s.saved ≡ saved → AllShow rest s → AllShow (live_of n saved ++ rest) s
one_more s n (Some (Live array)) rest is all = (inl is, all)
one_more s n (Some Invalid) rest is all = all
one_more s n None rest is all = all

taken_show : (s : Shown) (entries : List ShownEntry) → AllShow (flat_map (λ e. live_of e.number (saved_under e.number s.saved)) entries) s
taken_show s [] = tt
taken_show s (e ∷ entries) = one_more s e.number (saved_under e.number s.saved) (flat_map (λ x. live_of x.number (saved_under x.number s.saved)) entries) refl (taken_show s entries)

all_shown : (taken : List Taken) (s : Shown) (es : List Entry) → AllShow taken s → AllLawful s es → AllShow (left_of taken s es) (replay s es)
all_shown taken s [] all lawful = all
all_shown taken s (e ∷ es) all lawful = all_shown (noted s.origin e taken) (after s e) es (noted_show e taken s lawful.0 all) lawful.1

-- the laws: lawful entries undo, also of what was there before them; and what is not written stays
pub lawful_undone : (s : Shown) (es : List Entry) → AllLawful s es → AllUndone (taken_in s) s es
lawful_undone s es lawful = all_undone (taken_in s) s es (taken_show s s.saved) lawful

pub lawful_shown : (s : Shown) (es : List Entry) → AllLawful s es → AllShow (left_of (taken_in s) s es) (replay s es)
lawful_shown s es lawful = all_shown (taken_in s) s es (taken_show s s.saved) lawful
