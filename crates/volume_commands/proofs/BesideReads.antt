-- Reads, whether a merge is begun or not, change nothing that is shown; those of a snapshot are as they are without a merge.
use Rattle.std.proofs.Common.{◌≡◌, ℕ, List, [], ◌∷◌, ◌++◌, Option, Some, None, refl, ap, ◌∙◌}
use Rattle.chunk.specs.Pieces.{Span}
use Rattle.plain_machine.specs.declared.request.Dev.{Dev}
use Rattle.plain_machine.specs.declared.request.Dev.TheVariants.{Origin, Snap as ToSnap}
use Rattle.plain_machine.specs.declared.request.Reply.{Reply}
use Rattle.plain_machine.specs.declared.request.Reply.TheVariants.{Data, Written, Flushed, Refused}
use Rattle.whole_commands.specs.Snaps.{Volume}
use Rattle.whole_commands.specs.Pieces.{Answered}
use Rattle.whole_commands.specs.Commands.{go_on, bytes_in, read_piece, read_pieces}
use Rattle.whole_commands.specs.Merges.{Merge, Merged, Merging, merged_of, beside, place_in, read_at, read_parts}
use Rattle.whole_commands.specs.MergeShown.{array_of}
use Rattle.volume_commands.specs.Serving.{part_read}
use Rattle.volume_commands.proofs.Shown.{arrays_with, begun_with}
use Rattle.volume_commands.proofs.ReadRuns.{parts_read}
use Rattle.volume_commands.proofs.ShownReads.{piece_shown}
use Rattle.plain_machine.specs.Plain.{Shown}

-- one piece of the origin beside a merge
at_shown : (o : Option ℕ) (piece : Span) (m : Merging) → arrays_with (merged_of (read_at o piece m).state) ≡ arrays_with (merged_of m)
at_shown None piece m = refl
at_shown (Some n) piece m = refl

-- the arrays of a volume, as they are with a merge
abbrev pub with_merge : Option Merge → Shown → Shown
with_merge o a = record { origin = array_of a.origin o; begun = begun_with o; saved = a.saved }

part_by : (dev : Dev) (piece : Span) (o : Option Merge) (v : Volume) → (let m : Merged = record { volume = v; merge = o } in arrays_with (part_read dev piece m).state ≡ arrays_with m)
part_by dev piece None v = piece_shown dev piece v
part_by Origin piece (Some g) v = at_shown (place_in piece.first g) piece (record { volume = v; merge = g })
part_by (ToSnap number) piece (Some g) v = ap (with_merge (Some g)) (piece_shown (ToSnap number) piece v)

goes_shown : (r : Reply) (shows : Shown) (here more : Answered Merged) → arrays_with here.state ≡ shows → arrays_with more.state ≡ shows → arrays_with (go_on r here more).state ≡ shows
goes_shown (Data bytes) shows here more h m = m
goes_shown Written shows here more h m = m
goes_shown Flushed shows here more h m = m
goes_shown (Refused failure) shows here more h m = h

-- pieces leave what is shown
pub parts_shown : (dev : Dev) (pieces : List Span) (before : List ℕ) (m : Merged) → arrays_with (parts_read dev pieces before m).state ≡ arrays_with m
parts_shown dev [] before m = refl
parts_shown dev (piece ∷ pieces) before m =
    let here : Answered Merged = part_read dev piece m in
    let same : arrays_with here.state ≡ arrays_with m = part_by dev piece m.merge m.volume in
    goes_shown here.reply (arrays_with m) here (parts_read dev pieces (before ++ bytes_in here.reply) here.state) same (parts_shown dev pieces (before ++ bytes_in here.reply) here.state ∙ same)

snap_goes : (g : Merge) (r : Reply) (here more : Answered Volume) → go_on r (beside g here) (beside g more) ≡ beside g (go_on r here more)
snap_goes g (Data bytes) here more = refl
snap_goes g Written here more = refl
snap_goes g Flushed here more = refl
snap_goes g (Refused failure) here more = refl

-- the merge has no part in a read of a snapshot
pub snap_parts : (number : ℕ) (pieces : List Span) (before : List ℕ) (g : Merge) (v : Volume) → read_parts (ToSnap number) pieces before (record { volume = v; merge = g }) ≡ beside g (read_pieces (ToSnap number) pieces before v)
snap_parts number [] before g v = refl
snap_parts number (p ∷ ps) before g v =
    let here : Answered Volume = read_piece (ToSnap number) p v in
    ap (go_on here.reply (beside g here)) (snap_parts number ps (before ++ bytes_in here.reply) g here.state) ∙ snap_goes g here.reply here (read_pieces (ToSnap number) ps (before ++ bytes_in here.reply) here.state)
