-- A read gives the bytes of the array that its device shows, and changes nothing that is shown.
use Rattle.std.proofs.Common.{◌≡◌, inl, inr, ℕ, ◌+◌, ◌*◌, ◌/◌, ◌%◌, ◌<◌, ◌≤◌, Bool, true, false, List, [], ◌∷◌, ◌++◌, length, map, take, drop, Option, Some, None, arith, refl, ap, ◌∙◌, sym, subst, append-nil}
use Rattle.std.specs.Prelude.{◌==◌, if◌then◌else◌}
use Rattle.std.proofs.Math.Seq.{take-add}
use Rattle.std.proofs.lemmas.List.{drop-drop, append_assoc}
use Rattle.std.proofs.lemmas.Bool.{cases_Bool, cond-true, cond-false}
use Rattle.sector.specs.Bytes.{sectors_at}
use Rattle.device.specs.declared.operation.Operation.TheVariants.{Reads}
use Rattle.chunk.specs.Sizes.{is_chunk}
use Rattle.chunk.specs.Pieces.{Span, Join}
use Rattle.cow_format.specs.Pairs.{pairs_of}
use Rattle.cow_format.specs.Picture.{place_of, picture}
use Rattle.plain_machine.specs.Plain.{Saved, Live, Invalid, Entry, Shown}
use Rattle.plain_machine.specs.declared.request.Dev.{Dev}
use Rattle.plain_machine.specs.declared.request.Dev.TheVariants.{Origin, Snap as ToSnap}
use Rattle.plain_machine.specs.declared.request.Op.TheVariants.{Read}
use Rattle.plain_machine.specs.declared.request.Reply.{Reply}
use Rattle.plain_machine.specs.declared.request.Reply.TheVariants.{Data, Written, Flushed, Refused}
use Rattle.plain_machine.specs.declared.request.Failure.TheVariants.{Invalid as Declined, Io, Overflow}
use Rattle.whole_commands.proofs.Laws.{option_cases}
use Rattle.whole_commands.proofs.PictureSectors.{shown_plain, shown_copied, place_inside}
use Rattle.whole_commands.specs.Devices.{Device, answers, read_reply}
use Rattle.whole_commands.specs.Snaps.{Snap, Volume, shown}
use Rattle.whole_commands.specs.Pieces.{Answered, read_place, read_snap, in_snap}
use Rattle.whole_commands.specs.Commands.{read_piece, read_pieces, go_on, bytes_in}
use Rattle.whole_commands.proofs.Each.{Each}
use Rattle.whole_commands.proofs.Chunks.{HasChunks}
use Rattle.volume_commands.specs.Showing.{entry_of, arrays_of, saved_at, saved_of, sectors_in}
use Rattle.volume_commands.proofs.Rests.{IsOrderly, IsInside, IsWell, room_in, well_orders, well_whole, well_after}
use Rattle.whole_commands.specs.Saving.{Saving}

-- a read of an array: the bytes of these sectors, or a failure
abbrev pub IsReadOf : List ℕ → Span → Reply → Type 0
IsReadOf array piece (Data bytes) = bytes ≡ sectors_at array piece.first piece.count
IsReadOf array piece Written = ⊥
IsReadOf array piece Flushed = ⊥
IsReadOf array piece (Refused Declined) = ⊥
IsReadOf array piece (Refused Io) = Unit {0}
IsReadOf array piece (Refused Overflow) = ⊥

-- of a device whose sectors are those of the array
reads_of : (device : Device) (first : ℕ) (array : List ℕ) (piece : Span) → sectors_at device.bytes first piece.count ≡ sectors_at array piece.first piece.count → IsReadOf array piece (read_reply device first piece.count)
reads_of device first array piece same = elim (cases_Bool (answers device (Reads first piece.count))) [
  | inl ok ↦ subst (IsReadOf array piece) (sym (cond-true _ _ _ ok)) same
  | inr failed ↦ subst (IsReadOf array piece) (sym (cond-false _ _ _ failed)) tt
]

module _ (sectors chunk : ℕ) (ok : is_chunk chunk ≡ true) where
  -- a live snapshot
  live_read : (piece : Span) (origin : Device) (s : Snap) → length origin.bytes ≡ 512 * sectors → IsInside sectors chunk piece → HasChunks chunk s → IsOrderly sectors s → s.live ≡ true → IsReadOf (picture s.chunk origin.bytes s.store.bytes) piece (read_snap piece origin s).reply
  live_read piece origin s whole fits has orderly live =
      let (size, order) = orderly live in
      let room : piece.first % s.chunk + piece.count ≤ s.chunk = room_in chunk s.chunk piece ok has fits.one in
      let array : List ℕ = picture s.chunk origin.bytes s.store.bytes in
      let inside : 512 * (piece.first + piece.count) ≤ length origin.bytes = (let i = fits.inside in omega (arith, whole, i)) in
      subst (λ (a : Answered Saving). IsReadOf array piece a.reply) (sym (cond-true _ _ _ live)) (elim (option_cases (place_of (pairs_of s.chunk s.store.bytes) (piece.first / s.chunk))) [
        | inl none ↦ subst (λ (o : Option ℕ). IsReadOf array piece (read_place piece origin s o).reply) (sym none)
            (reads_of origin piece.first array piece (shown_plain s.chunk piece.first piece.count origin.bytes s.store.bytes order.some none room inside))
        | inr (n, some) ↦ subst (λ (o : Option ℕ). IsReadOf array piece (read_place piece origin s o).reply) (sym some)
            (reads_of s.store (s.chunk * n + piece.first % s.chunk) array piece (shown_copied s.chunk piece.first piece.count n origin.bytes s.store.bytes order.some some room inside
            (let fit = place_inside s.chunk sectors size (piece.first / s.chunk) n (pairs_of s.chunk s.store.bytes) order.pairs.inside some in let w = order.whole in omega (arith, fit, w))))
      ])

  live_not : (b : Bool) (array other : List ℕ) → (if b then Live other else Invalid) ≡ Live array → (b ≡ true) × (other ≡ array)
  live_not true array other e = (refl, (let f : Saved → List ℕ = back in ap f e))
    where
      back : Saved → List ℕ
      back (Live xs) = xs
      back Invalid = []
  live_not false array other e = absurd (cc)

  -- the first snapshot with a number
  at_read : (number : ℕ) (piece : Span) (array : List ℕ) (origin : Device) (snaps : List Snap) → length origin.bytes ≡ 512 * sectors → IsInside sectors chunk piece → Each (HasChunks chunk) snaps → Each (IsOrderly sectors) snaps
      → saved_at number (map (entry_of origin.bytes) snaps) ≡ Live array → IsReadOf array piece (in_snap number (read_snap piece) origin snaps).reply
  at_read number piece array origin [] whole fits chunks orders live = absurd (cc)
  at_read number piece array origin (s ∷ snaps) whole fits chunks orders live = elim (cases_Bool (s.number == number)) [
    | inl this ↦ (let here : shown origin.bytes s ≡ Live array = sym (cond-true _ _ _ this) ∙ live in
        let both = live_not s.live array (picture s.chunk origin.bytes s.store.bytes) here in
        subst (λ (a : Answered Volume). IsReadOf array piece a.reply) (sym (cond-true _ _ _ this))
        (subst (λ (b : List ℕ). IsReadOf b piece (read_snap piece origin s).reply) both.1 (live_read piece origin s whole fits chunks.0 orders.0 both.0)))
    | inr other ↦ subst (λ (a : Answered Volume). IsReadOf array piece a.reply) (sym (cond-false _ _ _ other))
        (at_read number piece array origin snaps whole fits chunks.1 orders.1 (sym (cond-false _ _ _ other) ∙ live))
  ]

at_dead : (number : ℕ) (piece : Span) (origin : Device) (snaps : List Snap) → saved_at number (map (entry_of origin.bytes) snaps) ≡ Invalid → (in_snap number (read_snap piece) origin snaps).reply ≡ Refused Declined
at_dead number piece origin [] dead = refl
at_dead number piece origin (s ∷ snaps) dead = elim (cases_Bool (s.number == number)) [
  | inl this ↦ (let here : shown origin.bytes s ≡ Invalid = sym (cond-true _ _ _ this) ∙ dead in
      let out : s.live ≡ false = not_live s.live (picture s.chunk origin.bytes s.store.bytes) here in
      ap (λ (a : Answered Volume). a.reply) (cond-true _ _ _ this) ∙ ap (λ (a : Answered Saving). a.reply) (cond-false _ _ _ out))
  | inr other ↦ ap (λ (a : Answered Volume). a.reply) (cond-false _ _ _ other) ∙ at_dead number piece origin snaps (sym (cond-false _ _ _ other) ∙ dead)
]
  where
    not_live : (b : Bool) (other : List ℕ) → (if b then Live other else Invalid) ≡ Invalid → b ≡ false
    not_live true other e = absurd (cc)
    not_live false other e = refl

-- a device and a snapshot whose bytes are as they were
pub record IsSame (o : Device) (s : Snap) (a : Answered Saving) : Type 0 where
  pub origin : a.state.origin.bytes ≡ o.bytes
  pub snap : (b : List ℕ) → entry_of b a.state.snap ≡ entry_of b s

place_same : (piece : Span) (o : Device) (s : Snap) (at : Option ℕ) → IsSame o s (read_place piece o s at)
place_same piece o s None = record { origin = refl; snap = λ b. refl }
place_same piece o s (Some n) = record { origin = refl; snap = λ b. refl }

pub either_same : (b : Bool) (o : Device) (s : Snap) (x y : Answered Saving) → IsSame o s x → IsSame o s y → IsSame o s (if b then x else y)
either_same true o s x y hx hy = hx
either_same false o s x y hx hy = hy

snap_same : (piece : Span) (o : Device) (s : Snap) → IsSame o s (read_snap piece o s)
snap_same piece o s = either_same s.live o s _ _ (place_same piece o s (place_of (pairs_of s.chunk s.store.bytes) (piece.first / s.chunk))) (record { origin = refl; snap = λ b. refl })

abbrev pub IsKeptBy : List ℕ → List Snap → Answered Volume → Type 0
IsKeptBy b snaps a = (a.state.origin.bytes ≡ b) × ((c : List ℕ) → map (entry_of c) a.state.snaps ≡ map (entry_of c) snaps)

pub either_kept : (t : Bool) (b : List ℕ) (snaps : List Snap) (x y : Answered Volume) → IsKeptBy b snaps x → IsKeptBy b snaps y → IsKeptBy b snaps (if t then x else y)
either_kept true b snaps x y hx hy = hx
either_kept false b snaps x y hx hy = hy

in_same : (number : ℕ) (piece : Span) (o : Device) (snaps : List Snap) → IsKeptBy o.bytes snaps (in_snap number (read_snap piece) o snaps)
in_same number piece o [] = (refl, λ c. refl)
in_same number piece o (s ∷ snaps) =
    let here = snap_same piece o s in
    let later = in_same number piece o snaps in
    either_kept (s.number == number) o.bytes (s ∷ snaps) _ _
    (here.origin, λ c. ap (λ (e : Entry). e ∷ map (entry_of c) snaps) (here.snap c))
    (later.0, λ c. ap (λ (es : List Entry). entry_of c s ∷ es) (later.1 c))

pub arrays_same : (v : Volume) (a : Answered Volume) → IsKeptBy v.origin.bytes v.snaps a → arrays_of a.state ≡ arrays_of v
arrays_same v a kept =
    let mk : List ℕ → List Entry → Shown = λ (o : List ℕ) (es : List Entry). record { origin = o; begun = None; saved = es } in
    ap (λ (o : List ℕ). mk o (map (entry_of o) a.state.snaps)) kept.0 ∙ ap (mk v.origin.bytes) (kept.1 v.origin.bytes)

-- a piece leaves what is shown
pub piece_shown : (dev : Dev) (piece : Span) (v : Volume) → arrays_of (read_piece dev piece v).state ≡ arrays_of v
piece_shown Origin piece v = refl
piece_shown (ToSnap number) piece v = arrays_same v (in_snap number (read_snap piece) v.origin v.snaps) (in_same number piece v.origin v.snaps)

-- a piece of a device that shows nothing
pub piece_dead : (dev : Dev) (piece : Span) (v : Volume) → saved_of dev (arrays_of v) ≡ Invalid → (read_piece dev piece v).reply ≡ Refused Declined
piece_dead Origin piece v dead = absurd (cc)
piece_dead (ToSnap number) piece v dead = at_dead number piece v.origin v.snaps dead

-- runs of sectors, one after the other
pub sectors_joined : (array : List ℕ) (first m n : ℕ) → sectors_at array first m ++ sectors_at array (first + m) n ≡ sectors_at array first (m + n)
sectors_joined array first m n =
    let far : drop (512 * (first + m)) array ≡ drop (512 * m) (drop (512 * first) array) = ap (λ k. drop k array) (omega arith) ∙ sym (drop-drop (512 * m) (512 * first) array) in
    ap (λ xs. take (512 * m) (drop (512 * first) array) ++ take (512 * n) xs) far ∙ sym (take-add (512 * m) (512 * n) (drop (512 * first) array)) ∙ ap (λ k. take k (drop (512 * first) array)) (omega arith)

-- what was read so far, or a failure
abbrev pub IsReadTo : List ℕ → ℕ → ℕ → List ℕ → Reply → Type 0
IsReadTo array first count before (Data bytes) = bytes ≡ before ++ sectors_at array first count
IsReadTo array first count before Written = ⊥
IsReadTo array first count before Flushed = ⊥
IsReadTo array first count before (Refused Declined) = ⊥
IsReadTo array first count before (Refused Io) = Unit {0}
IsReadTo array first count before (Refused Overflow) = ⊥

read_more : (array : List ℕ) (first m n : ℕ) (before bytes : List ℕ) (reply : Reply) → bytes ≡ sectors_at array first m → IsReadTo array (first + m) n (before ++ bytes) reply → IsReadTo array first (m + n) before reply
read_more array first m n before bytes (Data all) part more =
    more ∙ append_assoc before bytes (sectors_at array (first + m) n) ∙ ap (λ (xs : List ℕ). before ++ (xs ++ sectors_at array (first + m) n)) part ∙ ap (λ (xs : List ℕ). before ++ xs) (sectors_joined array first m n)
read_more array first m n before bytes Written part more = more
read_more array first m n before bytes Flushed part more = more
read_more array first m n before bytes (Refused Declined) part more = more
read_more array first m n before bytes (Refused Io) part more = tt
read_more array first m n before bytes (Refused Overflow) part more = more

goes_read : (array : List ℕ) (piece : Span) (n : ℕ) (before : List ℕ) (r : Reply) (here more : Answered Volume) → here.reply ≡ r → IsReadOf array piece r → IsReadTo array (piece.first + piece.count) n (before ++ bytes_in r) more.reply → IsReadTo array piece.first (piece.count + n) before (go_on r here more).reply
goes_read array piece n before (Data bytes) here more is read rest = read_more array piece.first piece.count n before bytes more.reply read rest
goes_read array piece n before Written here more is read rest = absurd read
goes_read array piece n before Flushed here more is read rest = absurd read
goes_read array piece n before (Refused Declined) here more is read rest = absurd read
goes_read array piece n before (Refused Overflow) here more is read rest = absurd read
goes_read array piece n before (Refused Io) here more is read rest = subst (IsReadTo array piece.first (piece.count + n) before) (sym is) tt

goes_shown : (r : Reply) (shows : Shown) (here more : Answered Volume) → arrays_of here.state ≡ shows → arrays_of more.state ≡ shows → arrays_of (go_on r here more).state ≡ shows
goes_shown (Data bytes) shows here more h m = m
goes_shown Written shows here more h m = m
goes_shown Flushed shows here more h m = m
goes_shown (Refused failure) shows here more h m = h

-- pieces leave what is shown
pub pieces_shown : (dev : Dev) (pieces : List Span) (before : List ℕ) (v : Volume) → arrays_of (read_pieces dev pieces before v).state ≡ arrays_of v
pieces_shown dev [] before v = refl
pieces_shown dev (piece ∷ pieces) before v =
    let here : Answered Volume = read_piece dev piece v in
    let same : arrays_of here.state ≡ arrays_of v = piece_shown dev piece v in
    goes_shown here.reply (arrays_of v) here (read_pieces dev pieces (before ++ bytes_in here.reply) here.state) same (pieces_shown dev pieces (before ++ bytes_in here.reply) here.state ∙ same)

module _ (sectors chunk : ℕ) (ok : is_chunk chunk ≡ true) where
  -- a piece of a device that shows an array
  piece_read : (dev : Dev) (piece : Span) (array : List ℕ) (v : Volume) → IsWell sectors chunk v → IsInside sectors chunk piece → saved_of dev (arrays_of v) ≡ Live array → IsReadOf array piece (read_piece dev piece v).reply
  piece_read Origin piece array v well fits live = reads_of v.origin piece.first array piece (ap (λ (b : List ℕ). sectors_at b piece.first piece.count) (let f : Saved → List ℕ = back in ap f live))
    where
      back : Saved → List ℕ
      back (Live xs) = xs
      back Invalid = []
  piece_read (ToSnap number) piece array v well fits live = at_read sectors chunk ok number piece array v.origin v.snaps (well_whole sectors chunk ok v well) fits well.chunks (well_orders sectors chunk ok v well) live

  pub pieces_read : (dev : Dev) (first b : ℕ) (pieces : List Span) (before array : List ℕ) (v : Volume) → IsWell sectors chunk v → Each (IsInside sectors chunk) pieces → Join first b pieces → saved_of dev (arrays_of v) ≡ Live array → IsReadTo array first (sectors_in pieces) before (read_pieces dev pieces before v).reply
  pieces_read dev first b [] before array v well fits join live = sym (append-nil before)
  pieces_read dev first b (piece ∷ pieces) before array v well fits join live =
      let here : Answered Volume = read_piece dev piece v in
      let next : Volume = here.state in
      let same : arrays_of next ≡ arrays_of v = piece_shown dev piece v in
      let rest = pieces_read dev (first + piece.count) b pieces (before ++ bytes_in here.reply) array next (well_after sectors chunk ok dev Read piece v well fits.0 tt) fits.1 join.1 (ap (saved_of dev) same ∙ live) in
      subst (λ (x : ℕ). IsReadTo array x (piece.count + sectors_in pieces) before (read_pieces dev (piece ∷ pieces) before v).reply) join.0
      (goes_read array piece (sectors_in pieces) before here.reply here (read_pieces dev pieces (before ++ bytes_in here.reply) next) refl (piece_read dev piece array v well fits.0 live)
      (subst (λ (x : ℕ). IsReadTo array (x + piece.count) (sectors_in pieces) (before ++ bytes_in here.reply) (read_pieces dev pieces (before ++ bytes_in here.reply) next).reply) (sym join.0) rest))

pub pieces_dead : (dev : Dev) (pieces : List Span) (before : List ℕ) (v : Volume) → 0 < length pieces → saved_of dev (arrays_of v) ≡ Invalid → (read_pieces dev pieces before v).reply ≡ Refused Declined
pieces_dead dev [] before v some dead = absurd (omega arith)
pieces_dead dev (piece ∷ pieces) before v some dead =
    let here : Answered Volume = read_piece dev piece v in
    let out : here.reply ≡ Refused Declined = piece_dead dev piece v dead in
    ap (λ (r : Reply). (go_on r here (read_pieces dev pieces (before ++ bytes_in here.reply) here.state)).reply) out ∙ out
