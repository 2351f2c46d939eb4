-- A write of the origin leaves what each snapshot shows, where that stays live, whatever fails.
use Rattle.std.proofs.Common.{◌≡◌, ℕ, ◌+◌, ◌*◌, ◌/◌, ◌<◌, ◌≤◌, Bool, true, false, List, [], ◌∷◌, length, map, arith, refl, ap, ◌∙◌, sym, subst}
use Rattle.std.specs.Prelude.{if◌then◌else◌}
use Rattle.std.proofs.lemmas.Bool.{cond-true}
use Rattle.sector.specs.Bytes.{with_sectors}
use Rattle.device.specs.declared.operation.Operation.TheVariants.{Writes}
use Rattle.chunk.specs.Pieces.{Span}
use Rattle.cow_format.specs.Picture.{picture}
use Rattle.plain_machine.specs.Plain.{Live}
use Rattle.whole_commands.specs.Saves.{Saving as Stored, saved}
use Rattle.whole_commands.proofs.Saved.{AfterSaving, IsSavedTo}
use Rattle.whole_commands.proofs.Laws.{saving_law}
use Rattle.whole_commands.proofs.Writes.{picture-saved}
use Rattle.chunk.proofs.PiecePlaces.{piece_low}
use Rattle.whole_commands.specs.Devices.{Device, answers, written_by}
use Rattle.whole_commands.specs.Snaps.{Snap, Volume, shown}
use Rattle.whole_commands.specs.Saving.{save}
use Rattle.whole_commands.specs.Pieces.{save_all, write_origin}
use Rattle.whole_commands.specs.Shown.{ShowTheSame}
use Rattle.event_machine.specs.Held.{SnapHeld, Moving}
use Rattle.event_machine.specs.Rest.{IsResting, IsAtRest}
use Rattle.event_machine.specs.Requests.{volume_of}
use Rattle.whole_commands.proofs.Each.{Each, each_from}
use Rattle.whole_commands.proofs.Chunks.{save_chunk}
use Rattle.whole_commands.proofs.SavedBytes.{save_bytes, save_all_bytes}
use Rattle.whole_commands.proofs.LiveSaves.{live_saved}

module _ (sectors : ℕ) (piece : Span) (bytes : List ℕ) (some : 0 < piece.count) (inside : piece.first + piece.count ≤ sectors) (len : length bytes ≡ 512 * piece.count) where
  -- one snapshot, over an origin disk that was written or not
  shows_same : (origin : Device) (h : SnapHeld) (after : List ℕ) → length origin.bytes ≡ 512 * sectors → IsResting sectors h → piece.first + piece.count ≤ h.snap.chunk * (piece.first / h.snap.chunk) + h.snap.chunk → (wrote : Bool) → after ≡ (if wrote then with_sectors origin.bytes piece.first bytes else origin.bytes) →
      (save (piece.first / h.snap.chunk) origin h.snap).snap.live ≡ true → shown after (save (piece.first / h.snap.chunk) origin h.snap).snap ≡ shown origin.bytes h.snap
  shows_same origin h after whole rest one wrote is live =
      let s : Snap = h.snap in
      let c : ℕ = piece.first / s.chunk in
      let t : Snap = (save c origin s).snap in
      let both = live_saved c origin s live in
      let kept = rest.live both.0 in
      let (size, order) = kept.order in
      let low : s.chunk * c ≤ piece.first = piece_low s.chunk piece.first in
      let law : AfterSaving s.chunk sectors size c origin.bytes s.store.bytes (saved s.chunk origin.bytes s.store.bytes c) = saving_law s.chunk sectors size c origin.bytes s.store.bytes whole order (omega arith) in
      let alive : (saved s.chunk origin.bytes s.store.bytes c).live ≡ true = sym (ap (λ (x : Stored). x.live) both.1) ∙ live in
      let done : IsSavedTo s.chunk sectors size c origin.bytes s.store.bytes t.store.bytes = subst (IsSavedTo s.chunk sectors size c origin.bytes s.store.bytes) (sym (ap (λ (x : Stored). x.store) both.1)) (law.1 alive) in
      let chunk : t.chunk ≡ s.chunk = save_chunk c origin s in
      let over : (b : Bool) → picture s.chunk (if b then with_sectors origin.bytes piece.first bytes else origin.bytes) t.store.bytes ≡ picture s.chunk origin.bytes t.store.bytes =
      by_answer (λ (b : List ℕ). picture s.chunk b t.store.bytes ≡ picture s.chunk origin.bytes t.store.bytes) (with_sectors origin.bytes piece.first bytes) origin.bytes
      (picture-saved s.chunk c piece.first piece.count origin.bytes t.store.bytes bytes order.some done.copy low one len (omega arith)) refl in
      cond-true _ _ _ live ∙ ap Live (ap (λ n. picture n after t.store.bytes) chunk ∙ ap (λ b. picture s.chunk b t.store.bytes) is ∙ over wrote ∙ done.same) ∙ sym (cond-true _ _ _ both.0)
    where
      by_answer : (P : List ℕ → Type 0) (x y : List ℕ) → P x → P y → (b : Bool) → P (if b then x else y)
      by_answer P x y px py true = px
      by_answer P x y px py false = py

  show_all : (origin : Device) (snaps : List SnapHeld) (after : List ℕ) → length origin.bytes ≡ 512 * sectors → Each (IsResting sectors) snaps → Each (λ h. piece.first + piece.count ≤ h.snap.chunk * (piece.first / h.snap.chunk) + h.snap.chunk) snaps → (wrote : Bool) → after ≡ (if wrote then with_sectors origin.bytes piece.first bytes else origin.bytes) →
      ShowTheSame origin.bytes after (map (λ h. h.snap) snaps) (save_all piece.first origin (map (λ h. h.snap) snaps)).snaps
  show_all origin [] after whole rest one wrote is = tt
  show_all origin (h ∷ snaps) after whole rest one wrote is =
      let c : ℕ = piece.first / h.snap.chunk in
      let next : Device = (save c origin h.snap).origin in
      let same : next.bytes ≡ origin.bytes = save_bytes c origin h.snap in (
        shows_same origin h after whole rest.0 one.0 wrote is,
        subst (λ (b : List ℕ). ShowTheSame b after (map (λ h. h.snap) snaps) (save_all piece.first next (map (λ h. h.snap) snaps)).snaps) same
            (show_all next snaps after (ap length same ∙ whole) rest.1 one.1 wrote (is ∙ ap (λ b. if wrote then with_sectors b piece.first bytes else b) (sym same))),
      )

  -- a write of the origin
  pub origin_write_shows : (v : Moving) → IsAtRest sectors v → Each (λ h. piece.first + piece.count ≤ h.snap.chunk * (piece.first / h.snap.chunk) + h.snap.chunk) v.snaps →
      ShowTheSame v.origin.bytes (write_origin piece bytes (volume_of v)).state.origin.bytes (volume_of v).snaps (write_origin piece bytes (volume_of v)).state.snaps
  origin_write_shows v rest one =
      let all : Volume = save_all piece.first v.origin (map (λ h. h.snap) v.snaps) in
      let same : all.origin.bytes ≡ v.origin.bytes = save_all_bytes piece.first v.origin (map (λ h. h.snap) v.snaps) in
      let wrote : Bool = answers all.origin (Writes piece.first piece.count) in
      show_all v.origin v.snaps (written_by all.origin (Writes piece.first piece.count) (with_sectors all.origin.bytes piece.first bytes)).bytes rest.whole (each_from (IsResting sectors) v.snaps rest.snaps) one wrote
      (ap (λ b. if wrote then with_sectors b piece.first bytes else b) same)
