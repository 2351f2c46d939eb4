-- The origin disk is written in chunks that a live snapshot has published: by an origin write, or by a merge.
use Rattle.std.specs.Prelude.{◌&&◌}
use Rattle.std.proofs.Common.{Bool, ◌≡◌, ◌≢◌, ℕ, ◌+◌, ◌*◌, ◌/◌, ◌<◌, true, List, Option, Some, None, get_or, refl, sym, ◌∙◌, ap, arith}
use Rattle.std.specs.List.{All}
use Rattle.std.proofs.lemmas.List.{get_or_default}
use Rattle.cow_format.specs.Picture.{place_of, byte_of, picture_at, picture}
use Rattle.cow_format.proofs.Pictures.{same_picture}
use Rattle.in_flight.specs.Copies.{count_of}
use Rattle.in_flight.specs.declared.flights.Flight.{Flight}
use Rattle.volume_laws.specs.Books.{SnapBooks}
use Rattle.volume_laws.specs.Published.{IsPublished}
use Rattle.volume_laws.specs.Held.{LiveHolds, CopyHolds}
use Rattle.volume_laws.specs.Steps.{WritesDisk}
use Rattle.volume_laws.proofs.Stores.{not_placed}
use Rattle.volume_laws.proofs.Bytes.{disk_untouched, disk_chunk}

module _ {l : Bool} (o o' : List ℕ) (rs : List Flight) (v : SnapBooks) (h : LiveHolds l o rs v) (first count : ℕ) (e : WritesDisk first count o o')
    (published : (j : ℕ) → j < count → IsPublished v.pairs v.marks ((first + j) / v.chunk)) where
  -- a chunk that is not published is not written
  away_unplaced : (d : ℕ) → place_of v.pairs d ≡ None → (j : ℕ) → j < count → (first + j) / v.chunk ≢ d
  away_unplaced d none j lt same = (published j lt).placed (ap (place_of v.pairs) same ∙ none)

  picture_same : (i : ℕ) → picture_at v.chunk o' v.store v.pairs i ≡ picture_at v.chunk o v.store v.pairs i
  picture_same i = at (place_of v.pairs (i / (512 * v.chunk))) refl
    where
      at : (found : Option ℕ) → place_of v.pairs (i / (512 * v.chunk)) ≡ found → picture_at v.chunk o' v.store v.pairs i ≡ picture_at v.chunk o v.store v.pairs i
      at (Some n) is = ap (byte_of v.chunk o' v.store i) is ∙ sym (ap (byte_of v.chunk o v.store i) is)
      at None is = ap (byte_of v.chunk o' v.store i) is ∙ disk_untouched v.chunk first count i o o' e (away_unplaced (i / (512 * v.chunk)) is) ∙ sym (ap (byte_of v.chunk o v.store i) is)

  copies_kept : All (CopyHolds (l && v.loud) v.chunk v.sectors o' v.store) v.copies
  copies_kept k d lt =
      let x = get_or v.copies k d in
      let old = h.copies k d lt in
      let away : (j : ℕ) → j < count → (first + j) / v.chunk ≢ x.pair.old = away_unplaced x.pair.old (not_placed o rs v h k x lt (get_or_default v.copies k d x lt)) in
      record {
        room = old.room;
        read = λ loud is. old.read loud is ∙ sym (disk_chunk v.chunk first count x.pair.old (count_of v.chunk v.sectors x.pair.old) o o' h.text.some e away (omega arith));
        written = λ loud is. record {
          front = λ i lt at. (old.written loud is).front i (omega (arith, e.len)) at ∙ sym (disk_untouched v.chunk first count i o o' e (λ j inside same. away j inside (same ∙ at)));
        };
      }

  pub disk_write : LiveHolds l o' rs v
  disk_write = record {
    text = h.text;
    stored = h.stored;
    fits = e.len ∙ h.fits;
    tried = h.tried;
    agree = h.agree;
    few = h.few;
    link = h.link;
    copies = copies_kept;
    unpublished = λ loud k d lt.
        (let m = get_or v.marks k d in
        record {
          same = λ i inside at. picture_same i ∙ (h.unpublished loud k d lt).same i (omega (arith, e.len)) at
              ∙ sym (disk_untouched v.chunk first count i o o' e (λ j within same. (published j within).unmarked k d lt (sym at ∙ sym same)));
        });
    routes = h.routes;
  }

  pub disk_write_picture : v.loud ≡ true → picture v.chunk o' v.store ≡ picture v.chunk o v.store
  disk_write_picture loud = same_picture v.chunk o v.store o' v.store v.pairs e.len (h.stored loud)
      (λ i lt. picture_same i ∙ sym (ap (λ ps. picture_at v.chunk o v.store ps i) (h.stored loud)))
