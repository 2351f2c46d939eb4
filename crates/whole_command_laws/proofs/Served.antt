-- A request to one snapshot: what is left of the volume is what the big step leaves of that snapshot.
use Rattle.std.proofs.Common.{◌≡◌, ℕ, ◌*◌, true, false, List, [], ◌∷◌, ◌++◌, length, map, Option, Some, refl, ap, ◌∙◌, sym}
use Rattle.std.specs.Prelude.{◌==◌}
use Rattle.plain_machine.specs.declared.request.Reply.{Reply}
use Rattle.whole_commands.specs.Devices.{Device}
use Rattle.whole_commands.specs.Snaps.{Snap, Volume}
use Rattle.whole_commands.specs.Pieces.{Answered, in_snap}
use Rattle.event_machine.specs.Held.{SnapHeld, MergeHeld, Moving}
use Rattle.event_machine.specs.Rest.{IsResting}
use Rattle.whole_commands.proofs.Each.{Each}
use Rattle.whole_command_laws.proofs.Goes.{no_start, Goes}
use Rattle.event_machine.proofs.Around.{at_with}
use Rattle.event_machine.proofs.Found.{served_here}
use Rattle.whole_command_laws.proofs.Issued.{Serves, serves_there}
use Rattle.whole_commands.specs.Saving.{Saving}

abbrev pub snap_of : SnapHeld → Snap
snap_of h = h.snap

pub map_split : (done rest : List SnapHeld) (h : SnapHeld) → map snap_of (done ++ h ∷ rest) ≡ map snap_of done ++ h.snap ∷ map snap_of rest
map_split [] rest h = refl
map_split (d ∷ done) rest h = ap (λ ss. d.snap ∷ ss) (map_split done rest h)

module _ (P : SnapHeld → Type 0) where
  pub each_first : (done rest : List SnapHeld) (h : SnapHeld) → Each P (done ++ h ∷ rest) → Each P done
  each_first [] rest h all = tt
  each_first (d ∷ done) rest h all = (all.0, each_first done rest h all.1)

  pub each_here : (done rest : List SnapHeld) (h : SnapHeld) → Each P (done ++ h ∷ rest) → P h
  each_here [] rest h all = all.0
  each_here (d ∷ done) rest h all = each_here done rest h all.1

  pub each_last : (done rest : List SnapHeld) (h : SnapHeld) → Each P (done ++ h ∷ rest) → Each P rest
  each_last [] rest h all = all.1
  each_last (d ∷ done) rest h all = each_last done rest h all.1

  pub each_joined : (done rest : List SnapHeld) (h : SnapHeld) → Each P done → P h → Each P rest → Each P (done ++ h ∷ rest)
  each_joined [] rest h before here later = (here, later)
  each_joined (d ∷ done) rest h before here later = (before.0, each_joined done rest h before.1 here later)

pub served_by : (sectors : ℕ) (g : Option MergeHeld) (number : ℕ) (serve : Device → Snap → Answered Saving) (origin origin' : Device) (done rest : List SnapHeld) (h h' : SnapHeld) (reply : Reply) (k : ℕ) (u v : Moving) →
    Each (λ (d : SnapHeld). (d.snap.number == number) ≡ false) done → (h.snap.number == number) ≡ true → Each (IsResting sectors) (done ++ h ∷ rest) → IsResting sectors h' → length origin'.bytes ≡ 512 * sectors →
    serve origin h.snap ≡ record { state = record { origin = origin'; snap = h'.snap }; reply = reply } → u ≡ v → Goes no_start v (at_with g origin' (done ++ h' ∷ rest) [] (Some reply) k) → Serves sectors g u (in_snap number serve origin (map snap_of (done ++ h ∷ rest)))
served_by sectors g number serve origin origin' done rest h h' reply k u v before pass all resting whole is begun goes =
    let made : Answered Saving → Answered Volume = λ (a : Answered Saving). record { state = record { origin = a.state.origin; snaps = map snap_of done ++ a.state.snap ∷ map snap_of rest }; reply = a.reply } in
    let put : List Snap → Answered Volume = λ (ss : List Snap). record { state = record { origin = origin'; snaps = ss }; reply = reply } in
    serves_there sectors g u v origin' (done ++ h' ∷ rest) reply k (in_snap number serve origin (map snap_of (done ++ h ∷ rest))) begun goes whole
    (each_joined (IsResting sectors) done rest h' (each_first (IsResting sectors) done rest h all) resting (each_last (IsResting sectors) done rest h all))
    (served_here number serve origin done rest h before pass ∙ ap made is ∙ ap put (sym (map_split done rest h')))
