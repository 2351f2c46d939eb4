-- A snapshot is taken, and let go, in a quiet volume; the volume as it begins.
use Rattle.std.proofs.Common.{◌≡◌, ◌≢◌, ℕ, ◌*◌, Bool, List, [], ◌∷◌, ◌++◌, None, length, map, drop, sym, ◌∙◌, ap, subst, arith, append-nil}
use Rattle.std.specs.List.{All, remove}
use Rattle.std.specs.Prelude.{AllPairs}
use Rattle.std.proofs.lemmas.Bool.{false≢true}
use Rattle.std.proofs.lemmas.List.{map_push, ext_get_or, length-map}
use Rattle.std.proofs.lemmas.List.Elements.{All-push, All-nil}
use Rattle.std.proofs.lemmas.List.Quantifiers.{all_pairs_push, all_pairs_remove}
use Rattle.cow_format.specs.Pairs.{pairs_of}
use Rattle.cow_format.specs.Picture.{picture, picture_at}
use Rattle.cow_format.proofs.Pictures.{length-picture, get_or-picture}
use Rattle.plain_machine.specs.Legal.{IsTaken, IsDetached}
use Rattle.in_flight.specs.Copies.{pair_of}
use Rattle.in_flight.specs.Kinds.{in_flight}
use Rattle.volume_laws.specs.Books.{SnapBooks, Books, number_of}
use Rattle.volume_laws.specs.Held.{StoreHolds, LiveHolds, SnapHolds, CopyHolds, MarkHolds, RouteHolds, RequestHolds, IsLinked}
use Rattle.volume_laws.specs.Whole.{Holds, plain_of, entry_of, origin_of, begun_of, UnmergedHolds}
use Rattle.volume_laws.specs.Steps.{IsNewSnap, Attaches, Detaches}
use Rattle.volume_laws.proofs.Lists.{All-remove, map-remove}
use Rattle.volume_laws.proofs.Sure.{link_flushed}
use Rattle.volume_laws.proofs.Same.{same_volume, plain}
use Rattle.volume_laws.proofs.Entries.{saved_at, without_saved_at}
use Rattle.volume_laws.proofs.WholeOne.{shown}

-- without pairs the picture is the origin
pub picture_none : (chunk : ℕ) (o store : List ℕ) → pairs_of chunk store ≡ [] → picture chunk o store ≡ o
picture_none chunk o store none = ext_get_or 0 (picture chunk o store) o (length-picture chunk o store)
    (λ i lt. get_or-picture chunk o store i (let e = length-picture chunk o store in omega arith) ∙ ap (λ ps. picture_at chunk o store ps i) none)

new_live : {l : Bool} (o : List ℕ) (s : SnapBooks) → IsNewSnap o s → LiveHolds l o [] s
new_live o s n = record {
  text = subst (StoreHolds s.chunk s.sectors s.size s.store) (sym (ap (λ x. s.pairs ++ x) n.begun ∙ append-nil s.pairs)) n.text;
  stored = n.stored;
  fits = n.fits;
  tried = n.tried;
  agree = n.begun ∙ ap (map pair_of) (sym n.copies);
  few = omega (arith, n.sure);
  link = subst (λ x. All (IsLinked s.marks) (drop x s.pairs)) (sym n.sure) (link_flushed s.pairs s.marks);
  copies = subst (All (CopyHolds _ s.chunk s.sectors o s.store)) (sym n.copies) (All-nil (CopyHolds _ s.chunk s.sectors o s.store));
  unpublished = λ _. subst (All (MarkHolds s.chunk o s.store s.pairs)) (sym n.marks) (All-nil (MarkHolds s.chunk o s.store s.pairs));
  routes = All-nil (RouteHolds s.number s.chunk s.pairs s.marks);
}

-- attach
pub attach_event : (s : SnapBooks) (v w : Books) → Holds v → Attaches s v w → IsNewSnap v.origin s → Holds w × IsTaken (plain_of v) s.number (picture s.chunk v.origin s.store) s.overflow (plain_of w)
attach_event s v w h e n =
    let after : Books = record v { snaps = v.snaps ++ s ∷ [] } in
    let now : w ≡ after = same_volume w after e.origin e.sectors e.loud e.snaps e.merge e.requests in (
      subst Holds (sym now) (record {
        whole = h.whole;
        merge = h.merge;
        snaps = All-push (SnapHolds v.loud v.origin v.requests) v.snaps s h.snaps (record {
          alive = λ _. subst (λ rs. LiveHolds v.loud v.origin rs s) (sym e.quiet) (new_live v.origin s n);
          spoilt = λ dead. absurd (false≢true (sym dead ∙ n.live));
        });
        requests = h.requests;
        numbers = subst (AllPairs (λ m k. m ≢ k)) (sym (map_push number_of v.snaps s)) (all_pairs_push (λ m k. m ≢ k) (map number_of v.snaps) s.number h.numbers e.fresh);
      }),
      record {
        strict = n.strict;
        becomes = ap plain_of now
            ∙ ap (λ x. plain (origin_of v.origin v.merge) (begun_of v.merge) x (map in_flight v.requests))
            (map_push (entry_of v.origin) v.snaps s ∙ ap (λ b. map (entry_of v.origin) v.snaps ++ shown s.number s.overflow b (picture s.chunk v.origin s.store) ∷ []) n.live);
      },
    )

-- detach
pub detach_event : (k : ℕ) (s : SnapBooks) (v w : Books) → Holds v → Detaches k s v w → Holds w × IsDetached (plain_of v) s.number (plain_of w)
detach_event k s v w h e =
    let after : Books = record v { snaps = remove v.snaps k } in
    let now : w ≡ after = same_volume w after e.origin e.sectors e.loud e.snaps e.merge e.requests in (
      subst Holds (sym now) (record {
        whole = h.whole;
        merge = h.merge;
        snaps = All-remove (SnapHolds v.loud v.origin v.requests) v.snaps k h.snaps;
        requests = h.requests;
        numbers = subst (AllPairs (λ m n. m ≢ n)) (sym (map-remove number_of v.snaps k)) (all_pairs_remove (λ m n. m ≢ n) (map number_of v.snaps) k (omega (arith, e.within, length-map v.snaps number_of)) h.numbers);
      }),
      record {
        saved = (entry_of v.origin s).saved;
        found = saved_at v.origin v.snaps k s h.numbers e.within e.was;
        becomes = ap plain_of now
            ∙ ap (λ x. plain (origin_of v.origin v.merge) (begun_of v.merge) x (map in_flight v.requests)) (without_saved_at v.origin v.snaps k s h.numbers e.within e.was);
      },
    )

-- a new volume over an origin disk
pub new_volume : (o : List ℕ) (sectors : ℕ) (loud : Bool) → length o ≡ 512 * sectors → Holds (record { origin = o; sectors = sectors; loud = loud; snaps = []; merge = None; requests = [] })
new_volume o sectors loud whole = record {
  whole = whole;
  merge = All-nil UnmergedHolds;
  snaps = All-nil (SnapHolds _ o []);
  requests = All-nil (RequestHolds sectors);
  numbers = λ i j d lt within. absurd (omega (arith, within));
}
