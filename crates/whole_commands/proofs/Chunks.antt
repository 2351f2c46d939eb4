-- No request changes the sectors of a snapshot's chunks; and the least of them.
use Rattle.std.proofs.Common.{◌≡◌, ℕ, ◌/◌, ◌≤◌, true, List, [], ◌∷◌, Option, Some, None, min, arith, refl, ap, ◌∙◌, sym, subst, inl, inr}
use Rattle.std.specs.Prelude.{◌==◌, ◌||◌, not}
use Rattle.std.proofs.lemmas.Bool.{cases_Bool, cases_lt, cond-true, cond-false}
use Rattle.sector.specs.declared.pair.Pair.{Pair}
use Rattle.chunk.specs.Sizes.{is_chunk}
use Rattle.chunk.specs.Pieces.{Span}
use Rattle.plain_machine.specs.declared.request.Dev.{Dev}
use Rattle.plain_machine.specs.declared.request.Dev.TheVariants.{Origin, Snap as ToSnap}
use Rattle.plain_machine.specs.declared.request.Op.{Op}
use Rattle.plain_machine.specs.declared.request.Op.TheVariants.{Read, Write, Flush}
use Rattle.cow_format.specs.Pairs.{pairs_of}
use Rattle.cow_format.specs.Picture.{place_of}
use Rattle.whole_commands.specs.Devices.{Device, answers}
use Rattle.whole_commands.specs.Snaps.{Snap, Volume}
use Rattle.whole_commands.specs.Saving.{Saving, next_place, is_full, has_chunk, save}
use Rattle.whole_commands.specs.Pieces.{Answered, save_at, write_place, write_saved, shuts, write_snap, read_place, read_snap, flush_snap, in_snap}
use Rattle.whole_commands.specs.Commands.{piece_of}
use Rattle.whole_commands.specs.Requests.{answered_by}
use Rattle.whole_commands.proofs.Each.{Each, each_weaker}
use Rattle.whole_commands.proofs.Saves.{saves_nothing, saves_full, saves_copy, chunk_read}
use Rattle.whole_commands.proofs.Keeps.{copy_keeps}

pub save_chunk : (c : ℕ) (origin : Device) (s : Snap) → (save c origin s).snap.chunk ≡ s.chunk
save_chunk c origin s = elim (cases_Bool (not s.live || has_chunk c s)) [
  | inl none ↦ ap (λ (x : Saving). x.snap.chunk) (saves_nothing c origin s none)
  | inr some ↦ elim (cases_Bool (is_full s)) [
    | inl full ↦ ap (λ (x : Saving). x.snap.chunk) (saves_full c origin s some full)
    | inr room ↦ (let q : Pair = record { old = c; new = next_place s } in
        ap (λ (x : Saving). x.snap.chunk) (saves_copy c origin s some room) ∙ elim (cases_Bool (answers origin (chunk_read c origin s))) [
          | inl ok ↦ ap (λ (t : Snap). t.chunk) (cond-true _ _ _ ok) ∙ copy_keeps (λ (t : Snap). t.chunk) (λ t d. refl) (λ t. refl) origin.bytes q s
          | inr failed ↦ ap (λ (t : Snap). t.chunk) (cond-false _ _ _ failed)
        ])
  ]
]

-- what holds of the sectors of a snapshot's chunks
module _ (P : ℕ → Type 0) where
  abbrev pub OfChunks : Snap → Type 0
  OfChunks s = P s.chunk

  stays : (s t : Snap) → t.chunk ≡ s.chunk → OfChunks s → OfChunks t
  stays s t same of = subst P (sym same) of

  pub at_keep : (wanted : Snap → ℕ) (origin : Device) (snaps : List Snap) → Each OfChunks snaps → Each OfChunks (save_at wanted origin snaps).snaps
  at_keep wanted origin [] all = tt
  at_keep wanted origin (s ∷ snaps) all =
      let here : Saving = save (wanted s) origin s in
      (stays s here.snap (save_chunk (wanted s) origin s) all.0, at_keep wanted here.origin snaps all.1)

  snap_keep : (number : ℕ) (serve : Device → Snap → Answered Saving) → ((origin : Device) (s : Snap) → (serve origin s).state.snap.chunk ≡ s.chunk) → (origin : Device) (snaps : List Snap) → Each OfChunks snaps → Each OfChunks (in_snap number serve origin snaps).state.snaps
  snap_keep number serve keeps origin [] all = tt
  snap_keep number serve keeps origin (s ∷ snaps) all =
      let here : Answered Volume = (let a : Answered Saving = serve origin s in record { state = record { origin = a.state.origin; snaps = a.state.snap ∷ snaps }; reply = a.reply }) in
      let there : Answered Volume = (let a : Answered Volume = in_snap number serve origin snaps in record { state = record { origin = a.state.origin; snaps = s ∷ a.state.snaps }; reply = a.reply }) in
      elim (cases_Bool (s.number == number)) [
        | inl this ↦ subst_snaps _ here (cond-true _ _ _ this) (stays s (serve origin s).state.snap (keeps origin s) all.0, all.1)
        | inr other ↦ subst_snaps _ there (cond-false _ _ _ other) (all.0, snap_keep number serve keeps origin snaps all.1)
      ]
    where
      subst_snaps : (a b : Answered Volume) → a ≡ b → Each OfChunks b.state.snaps → Each OfChunks a.state.snaps
      subst_snaps a b same each = rw same each

  place_keeps : (piece : Span) (bytes : List ℕ) (origin : Device) (s : Snap) (o : Option ℕ) → (write_place piece bytes origin s o).state.snap.chunk ≡ s.chunk
  place_keeps piece bytes origin s None = refl
  place_keeps piece bytes origin s (Some n) = refl

  saved_keeps : (piece : Span) (bytes : List ℕ) (origin : Device) (s : Snap) → (write_saved piece bytes (save (piece.first / s.chunk) origin s)).state.snap.chunk ≡ s.chunk
  saved_keeps piece bytes origin s =
      let a : Saving = save (piece.first / s.chunk) origin s in
      elim (cases_Bool a.snap.live) [
        | inl on ↦ ap (λ (x : Answered Saving). x.state.snap.chunk) (cond-true _ _ _ on) ∙ place_keeps piece bytes a.origin a.snap (place_of (pairs_of a.snap.chunk a.snap.store.bytes) (piece.first / a.snap.chunk)) ∙ save_chunk (piece.first / s.chunk) origin s
        | inr out ↦ ap (λ (x : Answered Saving). x.state.snap.chunk) (cond-false _ _ _ out) ∙ save_chunk (piece.first / s.chunk) origin s
      ]

  write_keeps : (piece : Span) (bytes : List ℕ) (origin : Device) (s : Snap) → (write_snap piece bytes origin s).state.snap.chunk ≡ s.chunk
  write_keeps piece bytes origin s = elim (cases_Bool (shuts (piece.first / s.chunk) s)) [
    | inl shut ↦ ap (λ (x : Answered Saving). x.state.snap.chunk) (cond-true _ _ _ shut)
    | inr takes ↦ ap (λ (x : Answered Saving). x.state.snap.chunk) (cond-false _ _ _ takes) ∙ saved_keeps piece bytes origin s
  ]

  read_place_keeps : (piece : Span) (origin : Device) (s : Snap) (o : Option ℕ) → (read_place piece origin s o).state.snap.chunk ≡ s.chunk
  read_place_keeps piece origin s None = refl
  read_place_keeps piece origin s (Some n) = refl

  read_keeps : (piece : Span) (origin : Device) (s : Snap) → (read_snap piece origin s).state.snap.chunk ≡ s.chunk
  read_keeps piece origin s = elim (cases_Bool s.live) [
    | inl on ↦ ap (λ (x : Answered Saving). x.state.snap.chunk) (cond-true _ _ _ on) ∙ read_place_keeps piece origin s (place_of (pairs_of s.chunk s.store.bytes) (piece.first / s.chunk))
    | inr out ↦ ap (λ (x : Answered Saving). x.state.snap.chunk) (cond-false _ _ _ out)
  ]

  flush_keeps : (origin : Device) (s : Snap) → (flush_snap origin s).state.snap.chunk ≡ s.chunk
  flush_keeps origin s = elim (cases_Bool s.live) [
    | inl on ↦ ap (λ (x : Answered Saving). x.state.snap.chunk) (cond-true _ _ _ on)
    | inr out ↦ ap (λ (x : Answered Saving). x.state.snap.chunk) (cond-false _ _ _ out)
  ]

  pub chunks_keep : (dev : Dev) (op : Op) (piece : Span) (v : Volume) → Each OfChunks v.snaps → Each OfChunks (answered_by dev op piece v).state.snaps
  chunks_keep Origin Read piece v all = all
  chunks_keep Origin (Write bytes) piece v all = at_keep (λ s. piece.first / s.chunk) v.origin v.snaps all
  chunks_keep Origin Flush piece v all = all
  chunks_keep (ToSnap n) Read piece v all = snap_keep n (read_snap piece) (read_keeps piece) v.origin v.snaps all
  chunks_keep (ToSnap n) (Write bytes) piece v all = snap_keep n (write_snap piece bytes) (write_keeps piece bytes) v.origin v.snaps all
  chunks_keep (ToSnap n) Flush piece v all = snap_keep n flush_snap flush_keeps v.origin v.snaps all

-- a size that is allowed, and no less than this one
module _ (chunk : ℕ) where
  abbrev pub IsWide : ℕ → Type 0
  IsWide own = (is_chunk own ≡ true) × (chunk ≤ own)

  abbrev pub HasChunks : Snap → Type 0
  HasChunks s = (is_chunk s.chunk ≡ true) × (chunk ≤ s.chunk)

  pub answer_keeps : (dev : Dev) (op : Op) (piece : Span) (v : Volume) → Each HasChunks v.snaps → Each HasChunks (answered_by dev op piece v).state.snaps
  answer_keeps dev op piece v all = chunks_keep IsWide dev op piece v all

-- the least of two sizes, or of those of all snapshots
pub least_allowed : (a b : ℕ) → is_chunk a ≡ true → is_chunk b ≡ true → is_chunk (min a b) ≡ true
least_allowed a b ha hb = elim (cases_lt a b) [
  | inl lt ↦ (let e : min a b ≡ a = omega arith in ap is_chunk e ∙ ha)
  | inr ge ↦ (let e : min a b ≡ b = omega arith in ap is_chunk e ∙ hb)
]

-- the largest size
pub most_allowed : is_chunk 1024 ≡ true
unfolding lib.Count.ones
most_allowed = refl

pub piece_allowed : (snaps : List Snap) → Each (λ s. is_chunk s.chunk ≡ true) snaps → is_chunk (piece_of snaps) ≡ true
piece_allowed [] all = most_allowed
piece_allowed (s ∷ snaps) all = least_allowed s.chunk (piece_of snaps) all.0 (piece_allowed snaps all.1)

-- no chunk is less than a size that is no more than the least
pub piece_least : (chunk : ℕ) (snaps : List Snap) → chunk ≤ piece_of snaps → Each (λ s. is_chunk s.chunk ≡ true) snaps → Each (HasChunks chunk) snaps
piece_least chunk [] le all = tt
piece_least chunk (s ∷ snaps) le all = ((all.0, omega (arith, le)), piece_least chunk snaps (omega (arith, le)) all.1)

pub wide_allowed : (chunk : ℕ) (snaps : List Snap) → Each (HasChunks chunk) snaps → Each (λ s. is_chunk s.chunk ≡ true) snaps
wide_allowed chunk snaps all = each_weaker (HasChunks chunk) (λ s. is_chunk s.chunk ≡ true) snaps (λ s wide. wide.0) all
