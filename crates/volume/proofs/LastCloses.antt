-- What an Issue of a Flush closes: a device that was flushed may be left with nothing but what is there.
use Rattle.std.proofs.Common.{◌≡◌, inl, inr, ℕ, ◌*◌, ◌<◌, true, List, Option, None, Some, length, get_or, map, refl, sym, ◌∙◌, ap, subst, arith}
use Rattle.std.specs.Prelude.{◌==◌, AllPairs}
use Rattle.std.specs.List.{All, position}
use Rattle.std.proofs.lemmas.Bool.{cases_eq, cases_lt}
use Rattle.std.proofs.lemmas.List.{length-map, length-set, get_or-map, get_or-set_other}
use Rattle.std.proofs.lemmas.Grind.{get_or-set_at}
use Rattle.sector.specs.Bytes.{sector_at}
use Rattle.sector.specs.declared.pair.Pair.{Pair}
use Rattle.device.specs.Layers.{Layer, is_loud}
use Rattle.plain_machine.specs.declared.event.Event.TheVariants.{Issue}
use Rattle.plain_machine.specs.declared.event.Outcome.TheVariants.{Reply as Replied}
use Rattle.plain_machine.specs.declared.request.Dev.{Dev}
use Rattle.plain_machine.specs.declared.request.Dev.TheVariants.{Origin as AtOrigin, Snap}
use Rattle.plain_machine.specs.declared.request.Op.{Op}
use Rattle.plain_machine.specs.declared.request.Op.TheVariants.{Read, Write, Flush}
use Rattle.plain_machine.specs.declared.request.Reply.TheVariants.{Flushed}
use Rattle.plain_machine.specs.declared.request.Request.{Request}
use Rattle.in_flight.specs.Kinds.{kind_at, in_flight}
use Rattle.in_flight.specs.declared.flights.Flight.{Flight}
use Rattle.in_flight.specs.declared.flights.Kind.TheVariants.{OriginFlush}
use Rattle.crash_laws.specs.Firm.{IsFirm}
use Rattle.cache_loss_laws.specs.Kept.{IsThere, SnapLasts}
use Rattle.cache_loss_laws.proofs.Closing.{snap_closes_all}
use Rattle.volume_laws.proofs.Requests.{asked_first}
use Rattle.snapshot.specs.Kept.{Kept}
use Rattle.snapshot_list.specs.Numbers.{number_of_snap}
use Rattle.volume.specs.Closing.{ClosesAll, ClosesArray, ClosesBy}
use Rattle.volume.specs.SnapLasting.{SnapLasting, SnapLastsOn, lost_of}
use Rattle.volume.specs.Volumed.{Volumed}
use Rattle.volume.specs.Whole.{IsWhole}
use Rattle.volume.proofs.Changing.{changed}

-- a flush of the origin
pub origin_dev : (dev : Dev) (op : Op) → kind_at dev op ≡ OriginFlush → dev ≡ AtOrigin
origin_dev AtOrigin op e = refl
origin_dev (Snap n) Read e = absurd (cc)
origin_dev (Snap n) (Write bytes) e = absurd (cc)
origin_dev (Snap n) Flush e = absurd (cc)

-- numbers that ascend are different
pub apart_numbers : (ns : List ℕ) → AllPairs (λ m n. m < n) ns → (i j : ℕ) (d : ℕ) → i < length ns → j < length ns → get_or ns i d ≡ get_or ns j d → i ≡ j
apart_numbers ns up i j d li lj same = elim (cases_eq i j) [
  | inl e ↦ e
  | inr ne ↦ elim (cases_lt i j) [
    | inl below ↦ absurd (let x = up i j d below lj in omega (arith, x, same))
    | inr from ↦ absurd (let x = up j i d (omega (arith, from, ne)) li in omega (arith, x, same))
  ]
]

module _ {B : Type 0} (holds : B → ℕ → List ℕ → Type 0) (contents : B → List ℕ) (layers : B → List Layer) (size : B → ℕ) (whole : (d : B) → length (contents d) ≡ 512 * size d) (here : (d : B) (s : ℕ) → s < size d → holds d s (sector_at (contents d) s))
    (v : Volumed B) (h : IsWhole contents layers size v) (number place : ℕ) (f : Flight) (found : position (λ (r : Flight). r.number == number) v.flights ≡ Some place) (at : f ≡ get_or v.flights place f) where
  -- what is asked is the request at that place
  by_array : (w : Volumed B) (dev : Dev) → f.request.dev ≡ dev → ClosesArray holds contents layers size dev w.origin w.snaps → ClosesBy holds contents layers size (Issue number) (Replied number Flushed) (map in_flight v.flights) w
  by_array w dev is closes = λ request asked.
      (let same : Some f.request ≡ Some request = sym (asked_first number place f v.flights found at) ∙ asked in
      let one : f.request ≡ request = cc in
      subst (λ d. ClosesArray holds contents layers size d w.origin w.snaps) (sym is ∙ ap (λ (r : Request). r.dev) one) closes)

  -- A snapshot's store was flushed, and all its pairs are surely in its list.
  module _ (k : ℕ) (s s' : Kept B) (flights : List Flight) (within : k < length v.snaps) (is : s ≡ get_or v.snaps k s) (chunk : s'.state.chunk ≡ s.state.chunk) (loud : is_loud (layers s'.device) ≡ is_loud (layers s.device)) (live : s'.live ≡ true) (sure : s'.state.sure ≡ length s'.pairs)
      (all : All (SnapLasting holds contents layers size v.origin) (changed v v.origin k s' flights).snaps) (firm : is_loud (layers s.device) ≡ true → IsFirm (holds s'.device) (contents s'.device) (size s'.device)) where
    lasts : SnapLasting holds contents layers size v.origin s'
    lasts = subst (SnapLasting holds contents layers size v.origin) (get_or-set_at v.snaps k k s' s' refl within) (all k s' (omega (arith, within, length-set v.snaps k s')))

    snap_all : is_loud (layers v.origin) ≡ true → is_loud (layers s'.device) ≡ true → ClosesAll holds contents size s'.state.chunk v.origin s'.device
    snap_all lo ls x value lt may = snap_closes_all (holds v.origin) (holds s'.device) (contents v.origin) (contents s'.device) none_ready (lost_of size v.origin s') there kept sure (firm (sym loud ∙ ls)) x value lt may
      where
        none_ready : Pair → Type 0
        none_ready q = ⊥

        old : SnapLastsOn holds contents size v.origin s'
        old = lasts.live lo ls live

        there : IsThere (holds v.origin) (holds s'.device) (contents v.origin) (contents s'.device) none_ready (lost_of size v.origin s')
        there = record {
          some = subst (λ n. 0 < n) (sym chunk) (subst (λ (y : Kept B). 0 < y.state.chunk) (sym is) (h.snaps k s within).some);
          disk_now = record { whole = whole v.origin; each = here v.origin };
          store_now = record { whole = whole s'.device; each = here s'.device };
          listed = lasts.listed ls;
          formed = lasts.formed;
          unlisted = λ q none. absurd none;
          lies = λ q none. absurd none;
        }

        kept : SnapLasts (holds v.origin) (holds s'.device) (contents v.origin) (contents s'.device) none_ready (lost_of size v.origin s')
        kept = record { header = old.header; list = old.list; inside = old.inside; ahead = old.ahead; disk = old.disk; placed = old.placed; copies = λ q none. absurd none }

    pub snap_closes : f.request.dev ≡ Snap s.number → s'.number ≡ s.number → ClosesBy holds contents layers size (Issue number) (Replied number Flushed) (map in_flight v.flights) (changed v v.origin k s' flights)
    snap_closes dev same = by_array (changed v v.origin k s' flights) (Snap s.number) dev (λ j x lt are mine lo ls.
        (let low : j < length v.snaps = omega (arith, lt, length-set v.snaps k s') in
        elim (cases_eq j k) [
          | inl e ↦ (let ex : x ≡ s' = are ∙ get_or-set_at v.snaps k j s' x e within in
              subst (λ (y : Kept B). ClosesAll holds contents size y.state.chunk v.origin y.device) (sym ex) (snap_all lo (subst (λ (y : Kept B). is_loud (layers y.device) ≡ true) ex ls)))
          | inr ne ↦ (let ex : x ≡ get_or v.snaps j x = are ∙ get_or-set_other v.snaps k j s' x ne in
              let nj : get_or (map number_of_snap v.snaps) j 0 ≡ s.number = get_or-map number_of_snap v.snaps j x 0 low ∙ ap number_of_snap (sym ex) ∙ mine in
              let nk : get_or (map number_of_snap v.snaps) k 0 ≡ s.number = get_or-map number_of_snap v.snaps k s 0 within ∙ ap number_of_snap (sym is) in
              let long = length-map v.snaps number_of_snap in
              absurd (ne (apart_numbers (map number_of_snap v.snaps) h.numbers.ascending j k 0 (omega (arith, low, long)) (omega (arith, within, long)) (nj ∙ sym nk))))
        ]))

  -- the origin's disk was flushed
  pub disk_closes : (o' : B) (flights : List Flight) → f.request.dev ≡ AtOrigin → is_loud (layers o') ≡ is_loud (layers v.origin) → (is_loud (layers v.origin) ≡ true → IsFirm (holds o') (contents o') (size o')) → ClosesBy holds contents layers size (Issue number) (Replied number Flushed) (map in_flight v.flights) (record v { origin = o'; flights = flights })
  disk_closes o' flights dev loud firm = by_array (record v { origin = o'; flights = flights }) AtOrigin dev (λ lo. firm (sym loud ∙ lo))
