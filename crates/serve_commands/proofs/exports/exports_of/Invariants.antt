-- The exports so far are the origin's and those of the snapshots so far.
use Rattle.std.proofs.Common.{◌≡◌, ◌∷◌, ◌*◌, [], codes, map, take}
use Rattle.plain_machine.specs.declared.request.Dev.TheVariants.{Origin, Snap}
use Rattle.serve_options.specs.Exports.{last_part}
use Rattle.serve_commands.proofs.exports.exports_of.Given as goal

abbrev pub invariant-loop-snap : goal.invariant-loop-snap
invariant-loop-snap l = record {
  names : map (λ export. export.name.now) l.exports.named.items ≡ codes "origin" ∷ map (λ snap. last_part [] snap.device.file.name.now) (take l.snap-index l.snaps);
  devices : l.exports.devices.items ≡ Origin ∷ map (λ snap. Snap snap.number) (take l.snap-index l.snaps);
  size : l.exports.size ≡ 512 * l.volume.origin.sectors;
}
