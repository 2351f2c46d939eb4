-- A volume that is well, without its merge, is at rest.
use Rattle.std.proofs.Common.{◌≡◌, ℕ, List, [], ◌∷◌, map, refl, ap}
use Rattle.whole_commands.specs.Snaps.{Snap, Volume}
use Rattle.whole_commands.specs.MergeShown.{IsWell as IsOrderly}
use Rattle.whole_commands.proofs.Chunks.{HasChunks}
use Rattle.whole_commands.proofs.Each.{Each, each_from, all_from}
use Rattle.event_machine.specs.Held.{SnapHeld}
use Rattle.event_machine.specs.Rest.{IsResting}
use Rattle.whole_command_laws.specs.Undone.{IsVolume}
use Rattle.whole_command_laws.proofs.Undoes.{at_rest, volume_at_rest}
use Rattle.volume_commands.proofs.Rests.{IsWell}

snaps_of : (snaps : List Snap) → map (λ (h : SnapHeld). h.snap) (map at_rest snaps) ≡ snaps
snaps_of [] = refl
snaps_of (s ∷ snaps) = ap (λ x. s ∷ x) (snaps_of snaps)

each_rests : (sectors : ℕ) (snaps : List Snap) → Each (IsOrderly sectors) snaps → Each (IsResting sectors) (map at_rest snaps)
each_rests sectors [] all = tt
each_rests sectors (s ∷ snaps) all = (
  record { tried = refl; copies = refl; marks = refl; live = λ on. record { order = all.0 on; pairs = refl; next = refl; zeroed = refl; firm = refl; unmarked = refl } },
  each_rests sectors snaps all.1,
)

pub rests : (sectors chunk : ℕ) (v : Volume) → IsVolume sectors chunk v → IsWell sectors chunk v
rests sectors chunk v is = record {
  moving = volume_at_rest v;
  rest = record {
    whole = is.whole;
    snaps = all_from (IsResting sectors) (map at_rest v.snaps) (each_rests sectors v.snaps (each_from (IsOrderly sectors) v.snaps is.snaps));
    requests = refl;
    alone = refl;
  };
  is = ap (λ (ss : List Snap). let w : Volume = record { origin = v.origin; snaps = ss } in w) (snaps_of v.snaps);
  chunks = each_from (HasChunks chunk) v.snaps is.chunks;
}
