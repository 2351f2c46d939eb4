-- On devices without layers the machine is the one whose devices never fail, and all writes are answered.
use Rattle.std.proofs.Common.{◌≡◌, ℕ, ◌+◌, ◌*◌, ◌/◌, ◌%◌, Bool, true, false, List, [], ◌∷◌, length, take, drop, map, min, refl, ap, ◌∙◌, sym, subst, inl, inr}
use Rattle.std.specs.Prelude.{◌==◌, if◌then◌else◌}
use Rattle.std.proofs.lemmas.Bool.{cases_Bool, cond-true, cond-false}
use Rattle.sector.specs.Bytes.{with_sectors}
use Rattle.sector.specs.declared.pair.Pair.{Pair}
use Rattle.chunk.specs.Pieces.{Span, pieces_of}
use Rattle.plain_machine.specs.declared.request.Overflowing.{Overflowing}
use Rattle.plain_machine.specs.declared.request.Dev.TheVariants.{Origin as ToOrigin}
use Rattle.plain_machine.specs.declared.request.Reply.{Reply}
use Rattle.plain_machine.specs.declared.request.Reply.TheVariants.{Written}
use Rattle.plain_machine.specs.Plain.{Saved, Live, Invalid}
use Rattle.cow_format.specs.Pairs.{pairs_of}
use Rattle.whole_commands.specs.Saves.{Saving as Stored, copied, committed, saved}
use Rattle.whole_commands.specs.Faultless.{Snap as Plainly, Settled, save_in, save_for, after_saving, write_piece as settled_piece, write_pieces as settled_pieces, piece_of as settled_piece_of, written as settled_written}
use Rattle.whole_commands.specs.Devices.{Device}
use Rattle.whole_commands.specs.Snaps.{Snap, Volume}
use Rattle.whole_commands.specs.Saving.{Saving, lacks_area, commit, next_place, is_full, has_chunk, save}
use Rattle.whole_commands.specs.Pieces.{Answered, save_all, write_disk, write_origin}
use Rattle.whole_commands.specs.Commands.{go_on, write_pieces, piece_of, written}
use Rattle.whole_commands.specs.Bare.{is_live, bare, AreBare, IsBare}
use Rattle.whole_commands.proofs.Saves.{saves_nothing, saves_full, saves_copy}

-- a device without layers
abbrev pub plainly : List ℕ → Device
plainly bytes = record { bytes = bytes; layers = [] }

-- a live snapshot, and one as it was saved
abbrev pub live_snap : ℕ → Overflowing → ℕ → List ℕ → Snap
live_snap number overflow chunk store = record { number = number; chunk = chunk; live = true; overflow = overflow; stale = false; store = plainly store }

abbrev pub saved_as : ℕ → Overflowing → ℕ → Stored → Snap
saved_as number overflow chunk x = record { number = number; chunk = chunk; live = x.live; overflow = overflow; stale = false; store = plainly x.store }

module _ (number : ℕ) (overflow : Overflowing) (chunk : ℕ) where
  commit_bare : (k : ℕ) (q : Pair) (store : List ℕ) → commit k q (live_snap number overflow chunk store) ≡ saved_as number overflow chunk (committed chunk store k q)
  commit_bare k q store = elim (cases_Bool (((k + 1) % (32 * chunk)) == 0)) [
    | inr part ↦ cond-false _ _ _ part ∙ ap (saved_as number overflow chunk) (sym (cond-false _ _ _ part))
    | inl full ↦ elim (cases_Bool (lacks_area ((k + 1) / (32 * chunk)) (live_snap number overflow chunk store))) [
      | inl lacks ↦ cond-true _ _ _ full ∙ cond-true _ _ _ lacks ∙ ap (saved_as number overflow chunk) (sym (cond-true _ _ _ full ∙ cond-true _ _ _ lacks))
      | inr room ↦ cond-true _ _ _ full ∙ cond-false _ _ _ room ∙ ap (saved_as number overflow chunk) (sym (cond-true _ _ _ full ∙ cond-false _ _ _ room))
    ]
  ]

  save_bare : (c : ℕ) (disk store : List ℕ) → save c (plainly disk) (live_snap number overflow chunk store) ≡ record { origin = plainly disk; snap = saved_as number overflow chunk (saved chunk disk store c) }
  unfolding saved
  save_bare c disk store =
      let s : Snap = live_snap number overflow chunk store in
      let made : Stored → Saving = λ (x : Stored). record { origin = plainly disk; snap = saved_as number overflow chunk x } in
      elim (cases_Bool (has_chunk c s)) [
        | inl some ↦ saves_nothing c (plainly disk) s some ∙ ap made (sym (cond-true _ _ _ some))
        | inr lacks ↦ elim (cases_Bool (is_full s)) [
          | inl full ↦ saves_full c (plainly disk) s lacks full ∙ ap made (sym (cond-false _ _ _ lacks ∙ cond-true _ _ _ full))
          | inr room ↦ (let q : Pair = record { old = c; new = next_place s } in
              let put : Snap → Saving = λ (t : Snap). record { origin = plainly disk; snap = t } in
              saves_copy c (plainly disk) s lacks room
              ∙ ap put (commit_bare (length (pairs_of chunk store)) q (copied chunk disk store c (next_place s)))
              ∙ ap made (sym (cond-false _ _ _ lacks ∙ cond-false _ _ _ room)))
        ]
      ]

  -- a snapshot as the other machine saves it
  live_after : (array : List ℕ) (x : Stored) → saved_as number overflow chunk x ≡ bare number overflow (after_saving chunk array x)
  live_after array x =
      let mk : Bool → Snap = λ (b : Bool). record { number = number; chunk = chunk; live = b; overflow = overflow; stale = false; store = plainly x.store } in
      ap mk (is_live_if x.live)
    where
      is_live_if : (b : Bool) → b ≡ is_live (if b then Live array else Invalid)
      is_live_if true = refl
      is_live_if false = refl

-- saving a chunk in one snapshot
save_in_bare : (disk : List ℕ) (first number : ℕ) (overflow : Overflowing) (chunk : ℕ) (store : List ℕ) (shown : Saved) → (let was : Plainly = record { chunk = chunk; saved = shown; store = store } in
    save (first / chunk) (plainly disk) (bare number overflow was) ≡ record { origin = plainly disk; snap = bare number overflow (save_for disk first chunk store shown) })
save_in_bare disk first number overflow chunk store (Live array) =
    let put : Snap → Saving = λ (t : Snap). record { origin = plainly disk; snap = t } in
    save_bare number overflow chunk (first / chunk) disk store ∙ ap put (live_after number overflow chunk array (saved chunk disk store (first / chunk)))
save_in_bare disk first number overflow chunk store Invalid = saves_nothing (first / chunk) (plainly disk) (bare number overflow (record { chunk = chunk; saved = Invalid; store = store })) refl

save_is : (disk : List ℕ) (first : ℕ) (s : Snap) (t : Plainly) → s ≡ bare s.number s.overflow t → save (first / s.chunk) (plainly disk) s ≡ record { origin = plainly disk; snap = bare s.number s.overflow (save_in disk first t) }
save_is disk first s t is = ap (λ (x : Snap). save (first / x.chunk) (plainly disk) x) is ∙ save_in_bare disk first s.number s.overflow t.chunk t.store t.saved

save_all_bare : (disk : List ℕ) (first : ℕ) (ss : List Snap) (ts : List Plainly) → AreBare ss ts → ((save_all first (plainly disk) ss).origin ≡ plainly disk) × AreBare (save_all first (plainly disk) ss).snaps (map (save_in disk first) ts)
save_all_bare disk first [] [] are = (refl, tt)
save_all_bare disk first [] (t ∷ ts) are = absurd are
save_all_bare disk first (s ∷ ss) [] are = absurd are
save_all_bare disk first (s ∷ ss) (t ∷ ts) are =
    let is : save (first / s.chunk) (plainly disk) s ≡ record { origin = plainly disk; snap = bare s.number s.overflow (save_in disk first t) } = save_is disk first s t are.0 in
    let then_all : Saving → Volume = λ (x : Saving). record { origin = (save_all first x.origin ss).origin; snaps = x.snap ∷ (save_all first x.origin ss).snaps } in
    let all : save_all first (plainly disk) (s ∷ ss) ≡ record { origin = (save_all first (plainly disk) ss).origin; snaps = bare s.number s.overflow (save_in disk first t) ∷ (save_all first (plainly disk) ss).snaps } = ap then_all is in
    let rest = save_all_bare disk first ss ts are.1 in (
      ap (λ (v : Volume). v.origin) all ∙ rest.0,
      subst (λ (v : Volume). AreBare v.snaps (map (save_in disk first) (t ∷ ts))) (sym all) (refl, rest.1),
    )

-- a piece of an origin write
pub piece_bare : (piece : Span) (bytes : List ℕ) (v : Volume) (w : Settled) → IsBare v w → IsBare (write_origin piece bytes v).state (settled_piece piece.first bytes w) × ((write_origin piece bytes v).reply ≡ Written)
piece_bare piece bytes v w is =
    let all : Volume = save_all piece.first v.origin v.snaps in
    let start : all ≡ save_all piece.first (plainly w.disk) v.snaps = ap (λ (o : Device). save_all piece.first o v.snaps) is.origin in
    let done = save_all_bare w.disk piece.first v.snaps w.snaps is.snaps in
    let origin : all.origin ≡ plainly w.disk = ap (λ (x : Volume). x.origin) start ∙ done.0 in
    let written_on : Device → Answered Volume = λ (o : Device). write_disk piece bytes (record { origin = o; snaps = all.snaps }) in
    let whole : write_origin piece bytes v ≡ record { state = record { origin = plainly (with_sectors w.disk piece.first bytes); snaps = all.snaps }; reply = Written } = ap written_on origin in (
      record {
        origin = ap (λ (x : Answered Volume). x.state.origin) whole;
        snaps = subst (λ (x : Answered Volume). AreBare x.state.snaps (map (save_in w.disk piece.first) w.snaps)) (sym whole) (subst (λ (x : Volume). AreBare x.snaps (map (save_in w.disk piece.first) w.snaps)) (sym start) done.1);
      },
      ap (λ (x : Answered Volume). x.reply) whole,
    )

pieces_bare : (pieces : List Span) (bytes : List ℕ) (v : Volume) (w : Settled) → IsBare v w → IsBare (write_pieces ToOrigin pieces bytes v).state (settled_pieces pieces bytes w) × ((write_pieces ToOrigin pieces bytes v).reply ≡ Written)
pieces_bare [] bytes v w is = (is, refl)
pieces_bare (piece ∷ pieces) bytes v w is =
    let here : Answered Volume = write_origin piece (take (512 * piece.count) bytes) v in
    let step = piece_bare piece (take (512 * piece.count) bytes) v w is in
    let rest : Answered Volume = write_pieces ToOrigin pieces (drop (512 * piece.count) bytes) here.state in
    let goes : write_pieces ToOrigin (piece ∷ pieces) bytes v ≡ rest = ap (λ (r : Reply). go_on r here rest) step.1 in
    let more = pieces_bare pieces (drop (512 * piece.count) bytes) here.state (settled_piece piece.first (take (512 * piece.count) bytes) w) step.0 in (
      subst (λ (x : Answered Volume). IsBare x.state (settled_pieces pieces (drop (512 * piece.count) bytes) (settled_piece piece.first (take (512 * piece.count) bytes) w))) (sym goes) more.0,
      ap (λ (x : Answered Volume). x.reply) goes ∙ more.1,
    )

piece_size : (ss : List Snap) (ts : List Plainly) → AreBare ss ts → piece_of ss ≡ settled_piece_of ts
piece_size [] [] are = refl
piece_size [] (t ∷ ts) are = absurd are
piece_size (s ∷ ss) [] are = absurd are
piece_size (s ∷ ss) (t ∷ ts) are = ap (λ (x : Snap). min x.chunk (piece_of ss)) are.0 ∙ ap (min t.chunk) (piece_size ss ts are.1)

-- a settled write of the origin
pub faultless : (span : Span) (bytes : List ℕ) (v : Volume) (w : Settled) → IsBare v w → IsBare (written ToOrigin span bytes v).state (settled_written span bytes w) × ((written ToOrigin span bytes v).reply ≡ Written)
unfolding written settled_written
faultless span bytes v w is =
    subst (λ (n : ℕ). IsBare (write_pieces ToOrigin (pieces_of (piece_of v.snaps) span) bytes v).state (settled_pieces (pieces_of n span) bytes w) × ((write_pieces ToOrigin (pieces_of (piece_of v.snaps) span) bytes v).reply ≡ Written))
    (piece_size v.snaps w.snaps is.snaps) (pieces_bare (pieces_of (piece_of v.snaps) span) bytes v w is)
