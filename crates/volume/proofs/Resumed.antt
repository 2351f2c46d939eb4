-- A merge that failed goes on.
use Rattle.std.proofs.Common.{◌≡◌, ℕ, false, List, Option, Some, refl, sym, ap, subst}
use Rattle.std.proofs.lemmas.Bool.{false≢true}
use Rattle.device.specs.Layers.{Layer, is_loud}
use Rattle.plain_machine.specs.declared.request.Reply.{Reply}
use Rattle.volume_laws.specs.Books.{SnapBooks, Books}
use Rattle.volume_laws.specs.MergeDue.{DueMerge}
use Rattle.volume_laws.specs.MergeWaits.{MergeGoes}
use Rattle.volume_laws.specs.Whole.{Holds}
use Rattle.volume_laws.specs.Waits.{Waits}
use Rattle.event_machine.specs.Merging.{resumed}
use Rattle.merge.specs.Merging.{Merging, due_of as merging_due}
use Rattle.snapshot_list.specs.Rooms.{merge_books}
use Rattle.volume.specs.Volumed.{Volumed, books_of, plain_of, is_loud_in_all}
use Rattle.volume.specs.Whole.{IsMerged, IsWhole, GoesOn}
use Rattle.volume.specs.Moved.{moving_of}

goes_again : (snaps : List SnapBooks) (d d' : DueMerge) → d' ≡ record d { failed = false } → MergeGoes snaps d → MergeGoes snaps d'
goes_again snaps d d' is h = subst (MergeGoes snaps) (sym is) (record {
  staged = record {
    one = h.staged.one;
    read = h.staged.read;
    written = h.staged.written;
    copied = h.staged.copied;
    over = h.staged.over;
    out = h.staged.out;
    none = λ e. absurd (false≢true e);
  };
  ending = h.ending;
  area = h.area;
  next = h.next;
  saved = h.saved;
})

-- a volume with its merge, and with one that did not fail as it was
pub with_own : {B : Type 0} (v : Volumed B) (m : Merging B) → v.merge ≡ Some m → v ≡ record v { merge = Some m }
with_own {B = B} v m is = ap (λ (o : Option (Merging B)). let w : Volumed B = record v { merge = o } in w) is

pub unfailed_same : {B : Type 0} (v : Volumed B) (m : Merging B) → m.failed ≡ false → record v { merge = Some m } ≡ record v { merge = Some (record m { failed = false }) }
unfailed_same {B = B} v m e = ap (λ b. let n : Merging B = record m { failed = b } in let w : Volumed B = record v { merge = Some n } in w) e

module _ {B : Type 0} (contents : B → List ℕ) (layers : B → List Layer) (size : B → ℕ) (v : Volumed B) (m : Merging B) (is : v.merge ≡ Some m) where
  abbrev going : Merging B
  going = record m { failed = false }

  abbrev again : Volumed B
  again = record v { merge = Some (record m { failed = false }) }

  merged : IsMerged contents layers size m v → IsMerged contents layers size going again
  merged g = record {
    origin = g.origin;
    allowed = g.allowed;
    apart = g.apart;
    given = g.given;
    few = g.few;
    goes = λ loud. goes_again _ (merging_due contents loud m) (merging_due contents loud going) refl (g.goes loud);
    rooms = g.rooms;
  }

  pub whole_resumed : IsWhole contents layers size v → IsWhole contents layers size (record v { merge = Some (record m { failed = false }) })
  whole_resumed h =
      let b = books_of contents layers size v in
      let with_books : Option (Merging B) → Books = λ o. record b { merge = merge_books contents layers (is_loud (layers v.origin)) o } in
      record {
        holds = subst (λ (o : Option (Merging B)). Holds (with_books o)) is h.holds;
        waits = subst (λ (o : Option (Merging B)). Waits (with_books o)) is h.waits;
        merge = merged (subst (λ (o : Option (Merging B)). GoesOn contents layers size o v) is h.merge);
        snaps = h.snaps;
        counted = h.counted;
        apart = h.apart;
        numbers = h.numbers;
        requests = h.requests;
        few = h.few;
        few_copies = h.few_copies;
        few_requests = h.few_requests;
        numbers_left = h.numbers_left;
      }

  pub plain_resumed : plain_of contents layers (record v { merge = Some (record m { failed = false }) }) ≡ plain_of contents layers v
  plain_resumed = ap (plain_of contents layers) (sym (with_own v m is))

  pub loud_resumed : is_loud_in_all layers (record v { merge = Some (record m { failed = false }) }) ≡ is_loud_in_all layers v
  loud_resumed = ap (is_loud_in_all layers) (sym (with_own v m is))

  pub exact_resumed : (replied : Option Reply) → resumed (moving_of contents layers replied v) ≡ moving_of contents layers replied (record v { merge = Some (record m { failed = false }) })
  exact_resumed replied = ap (λ (w : Volumed B). resumed (moving_of contents layers replied w)) (with_own v m is)
