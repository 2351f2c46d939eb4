-- Snapshots by their numbers, as the plain machine sees them.
use Rattle.std.proofs.Common.{◌≡◌, ◌≢◌, ℕ, zero, suc, ◌<◌, false, List, [], ◌∷◌, Some, length, get_or, set, map, refl, sym, ◌∙◌, ap, subst, arith, eq-eqb, ne_eqb}
use Rattle.std.specs.List.{remove}
use Rattle.std.specs.Prelude.{AllPairs}
use Rattle.std.proofs.lemmas.List.{length-map, get_or-map}
use Rattle.plain_machine.specs.declared.request.Dev.{Dev}
use Rattle.plain_machine.specs.declared.request.Dev.TheVariants.{Origin as AtOrigin, Snap}
use Rattle.plain_machine.specs.declared.request.Op.{Op}
use Rattle.plain_machine.specs.declared.request.Op.TheVariants.{Read, Write, Flush}
use Rattle.plain_machine.specs.declared.request.Reply.{Reply}
use Rattle.plain_machine.specs.declared.request.Reply.TheVariants.{Refused}
use Rattle.plain_machine.specs.declared.request.Failure.TheVariants.{Invalid as IsInvalid, Io}
use Rattle.plain_machine.specs.declared.request.Request.{Request}
use Rattle.sector.specs.declared.range.Range.{Range}
use Rattle.plain_machine.specs.declared.request.Overflowing.{Overflowing}
use Rattle.plain_machine.specs.declared.request.Overflowing.TheVariants.{Did}
use Rattle.plain_machine.specs.Plain.{Plain, Entry, Saved, saved_under, with_saved, without_saved, overflow_under, did_overflow, marked_in}
use Rattle.plain_machine.specs.Legal.{is_shut}
use Rattle.plain_machine.specs.Serves.{Serves, SameArrays, IsShowing, IsSpoilt}
use Rattle.in_flight.specs.Kinds.{kind_at}
use Rattle.in_flight.specs.declared.flights.Kind.TheVariants.{OriginRead, OriginWrite, OriginFlush, SnapRead, SnapWrite, SnapFlush}
use Rattle.volume_laws.specs.Books.{SnapBooks, number_of}
use Rattle.volume_laws.specs.Whole.{entry_of}
use Rattle.volume_laws.proofs.Lists.{AllPairs-tail}

-- the first has another number than the later ones
first_differs : (v s : SnapBooks) (snaps : List SnapBooks) (j : ℕ) → AllPairs (λ m n. m ≢ n) (map number_of (v ∷ snaps)) → j < length snaps → s ≡ get_or snaps j s → v.number ≢ s.number
first_differs v s snaps j all within is e =
    all 0 (suc j) 0 (omega arith) (omega (arith, within, length-map snaps number_of))
    (e ∙ sym (get_or-map number_of snaps j s 0 within ∙ sym (ap number_of is)))

-- the state under a snapshot's number
pub saved_at : (o : List ℕ) (snaps : List SnapBooks) (j : ℕ) (s : SnapBooks) → AllPairs (λ m n. m ≢ n) (map number_of snaps) → j < length snaps → s ≡ get_or snaps j s → saved_under s.number (map (entry_of o) snaps) ≡ Some (entry_of o s).saved
saved_at o [] j s all within is = absurd (omega (arith, within))
saved_at o (v ∷ snaps) zero s all within is = rw (eq-eqb v.number s.number (ap number_of (sym is))) (ap (λ (x : SnapBooks). Some (entry_of o x).saved) (sym is))
saved_at o (v ∷ snaps) (suc j) s all within is =
    rw (ne_eqb v.number s.number (first_differs v s snaps j all (omega (arith, within)) is))
    (saved_at o snaps j s (AllPairs-tail (λ m n. m ≢ n) v.number (map number_of snaps) all) (omega (arith, within)) is)

-- what a write of it does that finds its store full
pub overflow_at : (o : List ℕ) (snaps : List SnapBooks) (j : ℕ) (s : SnapBooks) → AllPairs (λ m n. m ≢ n) (map number_of snaps) → j < length snaps → s ≡ get_or snaps j s → overflow_under s.number (map (entry_of o) snaps) ≡ s.overflow
overflow_at o [] j s all within is = absurd (omega (arith, within))
overflow_at o (v ∷ snaps) zero s all within is = rw (eq-eqb v.number s.number (ap number_of (sym is))) (ap (λ (x : SnapBooks). x.overflow) (sym is))
overflow_at o (v ∷ snaps) (suc j) s all within is =
    rw (ne_eqb v.number s.number (first_differs v s snaps j all (omega (arith, within)) is))
    (overflow_at o snaps j s (AllPairs-tail (λ m n. m ≢ n) v.number (map number_of snaps) all) (omega (arith, within)) is)

abbrev pub as_entry : ℕ → Overflowing → Saved → Entry
as_entry number overflow saved = record { number = number; saved = saved; overflow = overflow }

pub with_saved_at : (o : List ℕ) (snaps : List SnapBooks) (j : ℕ) (s : SnapBooks) (saved : Saved) → AllPairs (λ m n. m ≢ n) (map number_of snaps) → j < length snaps → s ≡ get_or snaps j s
    → with_saved s.number saved (map (entry_of o) snaps) ≡ set (map (entry_of o) snaps) j (as_entry s.number s.overflow saved)
with_saved_at o [] j s saved all within is = absurd (omega (arith, within))
with_saved_at o (v ∷ snaps) zero s saved all within is = rw (eq-eqb v.number s.number (ap number_of (sym is))) (ap (λ (x : SnapBooks). as_entry x.number x.overflow saved ∷ map (entry_of o) snaps) (sym is))
with_saved_at o (v ∷ snaps) (suc j) s saved all within is =
    rw (ne_eqb v.number s.number (first_differs v s snaps j all (omega (arith, within)) is))
    (ap (λ es. entry_of o v ∷ es) (with_saved_at o snaps j s saved (AllPairs-tail (λ m n. m ≢ n) v.number (map number_of snaps) all) (omega (arith, within)) is))

-- its store overflowed
pub marked_at : (o : List ℕ) (snaps : List SnapBooks) (j : ℕ) (s : SnapBooks) → AllPairs (λ m n. m ≢ n) (map number_of snaps) → j < length snaps → s ≡ get_or snaps j s
    → marked_in s.number (map (entry_of o) snaps) ≡ set (map (entry_of o) snaps) j (entry_of o (record s { overflow = Did }))
marked_at o [] j s all within is = absurd (omega (arith, within))
marked_at o (v ∷ snaps) zero s all within is = rw (eq-eqb v.number s.number (ap number_of (sym is))) (ap (λ (x : SnapBooks). entry_of o (record x { overflow = Did }) ∷ map (entry_of o) snaps) (sym is))
marked_at o (v ∷ snaps) (suc j) s all within is =
    rw (ne_eqb v.number s.number (first_differs v s snaps j all (omega (arith, within)) is))
    (ap (λ es. entry_of o v ∷ es) (marked_at o snaps j s (AllPairs-tail (λ m n. m ≢ n) v.number (map number_of snaps) all) (omega (arith, within)) is))

pub without_saved_at : (o : List ℕ) (snaps : List SnapBooks) (j : ℕ) (s : SnapBooks) → AllPairs (λ m n. m ≢ n) (map number_of snaps) → j < length snaps → s ≡ get_or snaps j s
    → map (entry_of o) (remove snaps j) ≡ without_saved s.number (map (entry_of o) snaps)
without_saved_at o [] j s all within is = absurd (omega (arith, within))
without_saved_at o (v ∷ snaps) zero s all within is = rw (eq-eqb v.number s.number (ap number_of (sym is))) refl
without_saved_at o (v ∷ snaps) (suc j) s all within is =
    rw (ne_eqb v.number s.number (first_differs v s snaps j all (omega (arith, within)) is))
    (ap (λ es. entry_of o v ∷ es) (without_saved_at o snaps j s (AllPairs-tail (λ m n. m ≢ n) v.number (map number_of snaps) all) (omega (arith, within)) is))

-- what a kind says of the device and the operation
pub origin_read_is : (dev : Dev) (op : Op) → kind_at dev op ≡ OriginRead → (dev ≡ AtOrigin) × (op ≡ Read)
origin_read_is AtOrigin Read e = (refl, refl)
origin_read_is AtOrigin (Write b) e = cc
origin_read_is AtOrigin Flush e = cc
origin_read_is (Snap n) Read e = cc
origin_read_is (Snap n) (Write b) e = cc
origin_read_is (Snap n) Flush e = cc

pub origin_write_is : (dev : Dev) (op : Op) → kind_at dev op ≡ OriginWrite → dev ≡ AtOrigin
origin_write_is AtOrigin Read e = refl
origin_write_is AtOrigin (Write b) e = refl
origin_write_is AtOrigin Flush e = refl
origin_write_is (Snap n) Read e = cc
origin_write_is (Snap n) (Write b) e = cc
origin_write_is (Snap n) Flush e = cc

pub origin_flush_is : (dev : Dev) (op : Op) → kind_at dev op ≡ OriginFlush → (dev ≡ AtOrigin) × (op ≡ Flush)
origin_flush_is AtOrigin Read e = cc
origin_flush_is AtOrigin (Write b) e = cc
origin_flush_is AtOrigin Flush e = (refl, refl)
origin_flush_is (Snap n) Read e = cc
origin_flush_is (Snap n) (Write b) e = cc
origin_flush_is (Snap n) Flush e = cc

pub snap_read_is : (dev : Dev) (op : Op) (n : ℕ) → kind_at dev op ≡ SnapRead n → (dev ≡ Snap n) × (op ≡ Read)
snap_read_is AtOrigin Read n e = cc
snap_read_is AtOrigin (Write b) n e = cc
snap_read_is AtOrigin Flush n e = cc
snap_read_is (Snap m) Read n e = let same : m ≡ n = cc in (ap Snap same, refl)
snap_read_is (Snap m) (Write b) n e = cc
snap_read_is (Snap m) Flush n e = cc

pub snap_write_is : (dev : Dev) (op : Op) (n : ℕ) → kind_at dev op ≡ SnapWrite n → dev ≡ Snap n
snap_write_is AtOrigin Read n e = cc
snap_write_is AtOrigin (Write b) n e = cc
snap_write_is AtOrigin Flush n e = cc
snap_write_is (Snap m) Read n e = cc
snap_write_is (Snap m) (Write b) n e = let same : m ≡ n = cc in ap Snap same
snap_write_is (Snap m) Flush n e = cc

pub snap_flush_is : (dev : Dev) (op : Op) (n : ℕ) → kind_at dev op ≡ SnapFlush n → (dev ≡ Snap n) × (op ≡ Flush)
snap_flush_is AtOrigin Read n e = cc
snap_flush_is AtOrigin (Write b) n e = cc
snap_flush_is AtOrigin Flush n e = cc
snap_flush_is (Snap m) Read n e = cc
snap_flush_is (Snap m) (Write b) n e = cc
snap_flush_is (Snap m) Flush n e = let same : m ≡ n = cc in (ap Snap same, refl)

-- a request that is no write of a snapshot is never shut out, and a write of snapshot s while s did not overflow
pub origin_open : (dev : Dev) (op : Op) (es : List Entry) → dev ≡ AtOrigin → is_shut dev op es ≡ false
origin_open dev op es is = ap (λ d. is_shut d op es) is

pub read_open : (dev : Dev) (op : Op) (es : List Entry) (n : ℕ) → kind_at dev op ≡ SnapRead n → is_shut dev op es ≡ false
read_open dev op es n kind = (let (dev_is, op_is) = snap_read_is dev op n kind in ap (λ d. is_shut d op es) dev_is ∙ ap (λ x. is_shut (Snap n) x es) op_is)

pub flush_open : (dev : Dev) (op : Op) (es : List Entry) (n : ℕ) → kind_at dev op ≡ SnapFlush n → is_shut dev op es ≡ false
flush_open dev op es n kind = (let (dev_is, op_is) = snap_flush_is dev op n kind in ap (λ d. is_shut d op es) dev_is ∙ ap (λ x. is_shut (Snap n) x es) op_is)

pub write_open : (dev : Dev) (op : Op) (es : List Entry) (n : ℕ) → kind_at dev op ≡ SnapWrite n → did_overflow (overflow_under n es) ≡ false → is_shut dev op es ≡ false
write_open AtOrigin Read es n kind writable = refl
write_open AtOrigin (Write b) es n kind writable = refl
write_open AtOrigin Flush es n kind writable = refl
write_open (Snap m) Read es n kind writable = refl
write_open (Snap m) Flush es n kind writable = refl
write_open (Snap m) (Write b) es n kind writable = (let same : m ≡ n = cc in ap (λ x. did_overflow (overflow_under x es)) same ∙ writable)

-- a request that is served as another with its device and operation
pub serves_as : (old new : Plain) (reply : Reply) (request : Request) (dev : Dev) (op : Op) → request.dev ≡ dev → request.op ≡ op → Serves old dev op request.range reply new → Serves old request.dev request.op request.range reply new
serves_as old new reply request dev op dev_is op_is h =
    subst (λ x. Serves old request.dev x request.range reply new) (sym op_is) (subst (λ x. Serves old x op request.range reply new) (sym dev_is) h)

pub io_served : (old new : Plain) (dev : Dev) (op : Op) (range : Range) → SameArrays old new → IsShowing old dev → Serves old dev op range (Refused Io) new
io_served old new dev Read range h showing = (h, showing)
io_served old new dev (Write b) range h showing = (h, showing)
io_served old new dev Flush range h showing = (h, showing)

pub invalid_served : (old new : Plain) (dev : Dev) (op : Op) (range : Range) → SameArrays old new → IsSpoilt old dev → Serves old dev op range (Refused IsInvalid) new
invalid_served old new dev Read range h spoilt = (h, spoilt)
invalid_served old new dev (Write b) range h spoilt = (h, spoilt)
invalid_served old new dev Flush range h spoilt = (h, spoilt)
