-- What a new rig's room says of what was opened for it and of its audits.
use Rattle.std.proofs.Common.{◌≡◌, ℕ, zero, suc, ◌<◌, List, [], ◌∷◌, length, get_or, slice_index_or, refl, sym, ap, ◌∙◌, arith}
use Rattle.std.proofs.lemmas.List.{get_or-map}
use Rattle.atomic_table.specs.Seated.{TableId}
use Rattle.thread_channels.specs.BoardPasses.{BoardId}
use Rattle.thread_channels.specs.Passes.{Queue}
use Rattle.device.specs.Layers.{Layer}
use Rattle.audited_volume.specs.declared.entry.Entry.{Entry}
use Rattle.audited_volume.specs.Books.{AuditShape}
use Rattle.locked_volume.specs.Fixed.{Fixed, fixed_of}
use Rattle.locked_volume.specs.Names.{no_table, nothing_fixed}
use Rattle.volume_threads.specs.Rigs.{AreDealt, IsRoomOf, IsStart, OpenedShape}

-- an item is the same, whatever stands for those that are not there
same_at : {A : Type 0} (xs : List A) (k : ℕ) (d e : A) → k < length xs → get_or xs k d ≡ get_or xs k e
same_at [] k d e low = absurd (omega (arith, low))
same_at (x ∷ xs) zero d e low = refl
same_at (x ∷ xs) (suc k) d e low = same_at xs k d e (omega (arith, low))

module _ {B : Type 0} (size : B → ℕ) (layers : B → List Layer) (audits : List (AuditShape B)) (opened : OpenedShape) (volumes : ℕ) (history : ℕ → TableId) (boards : ℕ → List BoardId) (start : ℕ → List Entry) (queue : Queue) (fixed : ℕ → Fixed) (room : IsRoomOf size layers audits opened volumes history boards start queue fixed) where
  -- no seat is dealt
  pub dealt_first : AreDealt history boards volumes 1 0 opened.volumes
  dealt_first = record {
    many = room.is_opened.many ∙ sym room.volumes_are;
    tables = λ k d low.
        ap (λ o. o.table) (same_at opened.volumes k d (record { table = no_table; boards = []; next = 0 }) (omega (arith, low, room.is_opened.many, room.volumes_are)))
        ∙ sym (ap (λ (f : ℕ → TableId). f k) room.histories);
    boards_are = λ k d low.
        ap (λ o. o.boards) (same_at opened.volumes k d (record { table = no_table; boards = []; next = 0 }) (omega (arith, low, room.is_opened.many, room.volumes_are)))
        ∙ sym (ap (λ (f : ℕ → List BoardId). f k) room.boards_are);
    firsts = λ k d low none. absurd (omega (arith, none));
    others = λ k d low all. room.is_opened.nexts k d (omega (arith, low, room.volumes_are));
  }

  -- the audits are those that the room names
  pub starts_are : ((k : ℕ) (d : AuditShape B) → k < length audits → (slice_index_or audits k d).held ≡ [])
      → (k : ℕ) (d : AuditShape B) → k < volumes → IsStart (start k) (fixed k) (fixed_of size layers (slice_index_or audits k d)) (slice_index_or audits k d)
  starts_are quiet k d low =
      let within : k < length audits = omega (arith, low, room.volumes_are) in
      record {
        entries = sym (ap (λ (f : ℕ → List Entry). f k) room.starts ∙ get_or-map (λ (a : AuditShape B). a.entries) audits k d [] within);
        held = quiet k d within;
        fixed_is = sym (ap (λ (f : ℕ → Fixed). f k) room.fixed_is ∙ get_or-map (fixed_of size layers) audits k d nothing_fixed within);
      }
