-- A write of the origin, submitted to a volume at rest, settles to the big step.
use Rattle.std.proofs.Common.{◌≡◌, ℕ, ◌+◌, ◌*◌, ◌<◌, ◌≤◌, Bool, false, List, [], length, map, Option, None, arith, refl, ap, ◌∙◌, sym, subst, inl, inr}
use Rattle.std.specs.Prelude.{◌||◌, is_some, if◌then◌else◌}
use Rattle.std.proofs.lemmas.Bool.{cases_Bool, cond-true, cond-false}
use Rattle.sector.specs.Bytes.{with_sectors}
use Rattle.sector.specs.declared.range.Range.{Range}
use Rattle.sector.proofs.Sectors.{length-with_sectors}
use Rattle.device.specs.declared.operation.Operation.TheVariants.{Writes}
use Rattle.chunk.specs.Pieces.{span_of}
use Rattle.plain_machine.specs.declared.request.Request.{Request}
use Rattle.plain_machine.specs.declared.request.Dev.TheVariants.{Origin as ToOrigin}
use Rattle.plain_machine.specs.declared.request.Op.TheVariants.{Write}
use Rattle.plain_machine.specs.declared.request.Reply.{Reply}
use Rattle.whole_commands.specs.Devices.{Device, answers, written_by}
use Rattle.whole_commands.specs.Snaps.{Snap, Volume}
use Rattle.whole_commands.specs.Pieces.{Answered, save_all, write_origin}
use Rattle.event_machine.specs.Held.{SnapHeld, Going, MergeHeld, Moving}
use Rattle.event_machine.specs.Again.{is_grouped, merged_place, write_route}
use Rattle.event_machine.specs.Stepping.{write_reply}
use Rattle.event_machine.specs.Submitting.{started_all, started_by, start_copies, chunk_at, accepted, submitted}
use Rattle.event_machine.specs.Rest.{IsResting, IsAtRest}
use Rattle.event_machine.specs.Settles.{SettlesTo}
use Rattle.whole_commands.proofs.Each.{Each, each_weaker, each_from}
use Rattle.whole_command_laws.proofs.Goes.{goes_on}
use Rattle.event_machine.proofs.Around.{at, at_with, at_alone, IsIdle}
use Rattle.whole_command_laws.proofs.Issued.{Serves, serves_there, serves_settles}
use Rattle.whole_command_laws.proofs.Primed.{resting_idle, refused_none}
use Rattle.whole_command_laws.proofs.SavesSettle.{snap_of, AreRouted, Finals, saves_settle}
use Rattle.whole_command_laws.proofs.OriginWrites.{held_write, write_routed, writing, issues}
use Rattle.whole_commands.proofs.SavedBytes.{save_all_bytes}

-- a write of a device keeps its size
pub written_length : (device : Device) (first count : ℕ) (bytes : List ℕ) → length bytes ≡ 512 * count → 512 * (first + count) ≤ length device.bytes → length (written_by device (Writes first count) (with_sectors device.bytes first bytes)).bytes ≡ length device.bytes
written_length device first count bytes len fits = elim (cases_Bool (answers device (Writes first count))) [
  | inl ok ↦ ap length (cond-true _ _ _ ok) ∙ length-with_sectors device.bytes first bytes (omega arith)
  | inr failed ↦ ap length (cond-false _ _ _ failed)
]

-- the request
abbrev pub write_request : Range → List ℕ → Request
write_request range bytes = record { dev = ToOrigin; op = Write bytes; range = range }

-- beside a merge whose group and pairs do not have its chunk
module _ (g : Option MergeHeld) (sectors number : ℕ) (range : Range) (ungrouped : is_grouped g range.first ≡ false) (unplaced : merged_place g range.first ≡ None) (bytes : List ℕ) (a : Option Reply) where
  -- it starts copies
  write_begins : (origin : Device) (snaps : List SnapHeld) (k : ℕ) → submitted number (write_request range bytes) (at_with g origin snaps [] a k) ≡ writing g sectors number range ungrouped unplaced bytes a (started_by (chunk_at range.first) k snaps) origin (started_all (chunk_at range.first) k snaps)
  write_begins origin snaps k =
      let v : Moving = at_with g origin snaps [] a k in
      let starts : Bool → Moving = λ (b : Bool). let w : Moving = if b then v else start_copies (chunk_at range.first) v in accepted number (write_request range bytes) (write_route w.merge w.snaps range.first) w in
      ap (λ b. starts (b || is_some (merged_place g range.first))) ungrouped ∙ ap (λ o. starts (is_some o)) unplaced
      ∙ ap (λ rs. accepted number (write_request range bytes) (write_route g (started_all (chunk_at range.first) k snaps) range.first) (at_with g origin (started_all (chunk_at range.first) k snaps) rs a (started_by (chunk_at range.first) k snaps))) (refused_none (chunk_at range.first) snaps)

  pub origin_write_serves : (origin : Device) (snaps : List SnapHeld) (k : ℕ) → length origin.bytes ≡ 512 * sectors → Each (IsResting sectors) snaps → 0 < range.count → range.first + range.count ≤ sectors → length bytes ≡ 512 * range.count →
      Serves sectors g (submitted number (write_request range bytes) (at_with g origin snaps [] a k)) (write_origin (span_of range) bytes (record { origin = origin; snaps = map snap_of snaps }))
  origin_write_serves origin snaps k whole resting some fits len =
      let k' : ℕ = started_by (chunk_at range.first) k snaps in
      let held : List SnapHeld → List Going = held_write g sectors number range ungrouped unplaced bytes a k' in
      let routed : AreRouted g range.first held = write_routed g sectors number range ungrouped unplaced bytes a k' in
      let start : Moving = writing g sectors number range ungrouped unplaced bytes a k' origin (started_all (chunk_at range.first) k snaps) in
      let inside : range.first < sectors = omega arith in
      let saved : Finals g sectors range.first held routed a k' start origin [] snaps = saves_settle g sectors range.first held routed a k' origin snaps k whole inside resting in
      let all : Volume = save_all range.first origin (map snap_of snaps) in
      let idle : Each IsIdle saved.finals = each_weaker (IsResting sectors) IsIdle saved.finals (resting_idle sectors) saved.rest in
      let same : length all.origin.bytes ≡ length origin.bytes = ap length (save_all_bytes range.first origin (map snap_of snaps)) in
      let room : 512 * (range.first + range.count) ≤ length all.origin.bytes = omega arith in
      let after : Device = written_by all.origin (Writes range.first range.count) (with_sectors all.origin.bytes range.first bytes) in
      let reply : Reply = write_reply all.origin range.first range.count in
      let made : List Snap → Answered Volume = λ (ss : List Snap). record { state = record { origin = after; snaps = ss }; reply = reply } in
      serves_there sectors g (submitted number (write_request range bytes) (at_with g origin snaps [] a k)) start after saved.finals reply k' _ (write_begins origin snaps k)
      (goes_on start _ _ saved.goes (issues g sectors number range ungrouped unplaced bytes a k' all.origin saved.finals idle saved.saved))
      (written_length all.origin range.first range.count bytes len room ∙ same ∙ whole) saved.rest (ap made (sym saved.same))

pub origin_write_settles : (sectors number : ℕ) (range : Range) (bytes : List ℕ) (v : Moving) → IsAtRest sectors v → 0 < range.count → range.first + range.count ≤ sectors → length bytes ≡ 512 * range.count →
    SettlesTo sectors (submitted number (write_request range bytes) v) (write_origin (span_of range) bytes (record { origin = v.origin; snaps = map (λ (h : SnapHeld). h.snap) v.snaps }))
origin_write_settles sectors number range bytes v rest some fits len =
    let answer : Answered Volume = write_origin (span_of range) bytes (record { origin = v.origin; snaps = map snap_of v.snaps }) in
    let Settles : Moving → Type 0 = λ (w : Moving). SettlesTo sectors (submitted number (write_request range bytes) w) answer in
    subst Settles (sym (at_alone v rest.alone))
    (subst (λ (rs : List Going). Settles (at v.origin v.snaps rs v.replied v.started)) (sym rest.requests)
    (serves_settles sectors _ answer (origin_write_serves None sectors number range refl refl bytes v.replied v.origin v.snaps v.started rest.whole (each_from (IsResting sectors) v.snaps rest.snaps) some fits len)))
