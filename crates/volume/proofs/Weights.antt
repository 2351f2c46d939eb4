-- What the requests in flight weigh: no new route changes it, but for a flush of the origin that goes on to the origin disk.
use Rattle.std.proofs.Common.{◌≡◌, inl, inr, ℕ, zero, suc, ◌<◌, ◌≤◌, Bool, List, [], ◌∷◌, Option, length, get_or, set, map, refl, ◌∙◌, ap, arith}
use Rattle.std.specs.Prelude.{sum_by}
use Rattle.std.specs.List.{remove}
use Rattle.std.proofs.lemmas.Bool.{cases_Bool, MatchBool-at_true, MatchBool-at_false}
use Rattle.std.proofs.lemmas.List.Sums.{sum_by-cons}
use Rattle.device.specs.Layers.{Layer}
use Rattle.in_flight.specs.Kinds.{kind_of}
use Rattle.in_flight.specs.Routes.{again_route_of, placed_route_of, refused_route_of, refused_of}
use Rattle.in_flight.specs.declared.flights.Flight.{Flight}
use Rattle.in_flight.specs.declared.flights.Kind.{Kind}
use Rattle.in_flight.specs.declared.flights.Kind.TheVariants.{OriginRead, OriginWrite, OriginFlush, SnapRead, SnapWrite, SnapFlush}
use Rattle.in_flight.specs.declared.flights.Route.{Route}
use Rattle.in_flight.specs.declared.flights.Route.TheVariants.{Held, Origin, Store, Whole, Refused}
use Rattle.volume_laws.specs.Again.{again_of, new_route, placed_of, published_place}
use Rattle.volume_laws.specs.Books.{SnapBooks, MergeBooks}
use Rattle.volume_laws.specs.Due.{weight_at, weight_of}
use Rattle.volume_laws.specs.Published.{chunk_of}
use Rattle.snapshot.specs.Kept.{Kept}
use Rattle.snapshot_list.specs.Starting.{overflows_chunk, starts_chunk}
use Rattle.snapshot_list.specs.MergeStarting.{AreNextSavedIn, IsNextSavedIn}

-- a list weighs as much where each request does
weights_same : (f : Flight → Flight) → ((r : Flight) → weight_of (f r) ≡ weight_of r) → (rs : List Flight) → sum_by weight_of (map f rs) ≡ sum_by weight_of rs
weights_same f same [] = refl
weights_same f same (r ∷ rs) =
    let one = same r in
    let rest = weights_same f same rs in
    let old = sum_by-cons weight_of r rs in
    let new = sum_by-cons weight_of (f r) (map f rs) in
    omega (arith, one, rest, old, new)

-- only a held request gets another route
again_weight : (kind : Kind) (route new : Route) → weight_at kind (again_route_of kind route new) ≡ weight_at kind route
again_weight kind Origin new = refl
again_weight kind (Store place) new = refl
again_weight kind Whole new = refl
again_weight kind Refused new = refl
again_weight OriginRead Held new = refl
again_weight OriginWrite Held new = refl
again_weight OriginFlush Held new = refl
again_weight (SnapRead n) Held new = refl
again_weight (SnapWrite n) Held new = refl
again_weight (SnapFlush n) Held new = refl

pub again_weights : (merge : Option MergeBooks) (clear : ℕ → Bool) (rs : List Flight) → sum_by weight_of (map (again_of merge clear) rs) ≡ sum_by weight_of rs
again_weights merge clear = weights_same (again_of merge clear) (λ r. again_weight (kind_of r.request) r.route (new_route merge clear r))

placed_weight : (snap : ℕ) (kind : Kind) (route : Route) (place : Option ℕ) → weight_at kind (placed_route_of snap kind route place) ≡ weight_at kind route
placed_weight snap OriginRead route place = refl
placed_weight snap OriginWrite route place = refl
placed_weight snap OriginFlush route place = refl
placed_weight snap (SnapRead n) route place = refl
placed_weight snap (SnapFlush n) route place = refl
placed_weight snap (SnapWrite n) route place = refl

pub placed_weights : (s : SnapBooks) (rs : List Flight) → sum_by weight_of (map (placed_of s) rs) ≡ sum_by weight_of rs
placed_weights s = weights_same (placed_of s) (λ r. placed_weight s.number (kind_of r.request) r.route (published_place s.pairs s.marks (chunk_of s.chunk r)))

refused_weight : (which : List ℕ) (kind : Kind) (route : Route) → weight_at kind (refused_route_of which kind route) ≡ weight_at kind route
refused_weight which OriginRead route = refl
refused_weight which OriginWrite route = refl
refused_weight which OriginFlush route = refl
refused_weight which (SnapRead n) route = refl
refused_weight which (SnapWrite n) route = refl
refused_weight which (SnapFlush n) route = refl

pub refused_weights : (which : List ℕ) (rs : List Flight) → sum_by weight_of (map (refused_of which) rs) ≡ sum_by weight_of rs
refused_weights which = weights_same (refused_of which) (λ r. refused_weight which (kind_of r.request) r.route)

-- each weighs something
weight_some : (kind : Kind) (route : Route) → 1 ≤ weight_at kind route
weight_some OriginRead route = omega arith
weight_some OriginWrite route = omega arith
weight_some OriginFlush Held = omega arith
weight_some OriginFlush Origin = omega arith
weight_some OriginFlush (Store place) = omega arith
weight_some OriginFlush Whole = omega arith
weight_some OriginFlush Refused = omega arith
weight_some (SnapRead n) route = omega arith
weight_some (SnapWrite n) route = omega arith
weight_some (SnapFlush n) route = omega arith

-- so one fewer weighs less
pub removed_weights : (rs : List Flight) (k : ℕ) → k < length rs → sum_by weight_of (remove rs k) < sum_by weight_of rs
removed_weights [] k lt = absurd (omega (arith, lt))
removed_weights (r ∷ rs) zero lt = (let some = weight_some (kind_of r.request) r.route in let old = sum_by-cons weight_of r rs in omega (arith, some, old))
removed_weights (r ∷ rs) (suc k) lt =
    let rest = removed_weights rs k (omega (arith, lt)) in
    let old = sum_by-cons weight_of r rs in
    let new = sum_by-cons weight_of r (remove rs k) in
    omega (arith, rest, old, new)

-- and so does one where one of them weighs less
pub lighter_weights : (rs : List Flight) (k : ℕ) (r q : Flight) → k < length rs → r ≡ get_or rs k r → weight_of q < weight_of r → sum_by weight_of (set rs k q) < sum_by weight_of rs
lighter_weights [] k r q lt is less = absurd (omega (arith, lt))
lighter_weights (x ∷ rs) zero r q lt is less =
    let same : weight_of r ≡ weight_of x = ap weight_of is in
    let old = sum_by-cons weight_of x rs in
    let new = sum_by-cons weight_of q rs in
    omega (arith, less, same, old, new)
lighter_weights (x ∷ rs) (suc k) r q lt is less =
    let rest = lighter_weights rs k r q (omega (arith, lt)) is less in
    let old = sum_by-cons weight_of x rs in
    let new = sum_by-cons weight_of x (set rs k q) in
    omega (arith, rest, old, new)

-- starting what a merge waits for refuses requests, and changes no other route
module _ {B : Type 0} (contents : B → List ℕ) (layers : B → List Layer) (at : Kept B → ℕ) where
  one_weights : (s t : Kept B) (n m : ℕ) (fs gs : List Flight) → IsNextSavedIn contents layers (at s) s t n m fs gs → sum_by weight_of gs ≡ sum_by weight_of fs
  one_weights s t n m fs gs e = elim (cases_Bool (starts_chunk (at s) s)) [
    | inl begins ↦ (let (buffer, begun, m_is, g) = MatchBool-at_true _ _ begins e in ap (sum_by weight_of) g)
    | inr unsaid ↦ elim (cases_Bool (overflows_chunk (at s) s)) [
      | inl over ↦ (let (same, m_is, g) = MatchBool-at_true _ _ over (MatchBool-at_false _ _ unsaid e) in ap (sum_by weight_of) g ∙ refused_weights (s.number ∷ []) fs)
      | inr fine ↦ (let (same, m_is, g) = MatchBool-at_false _ _ fine (MatchBool-at_false _ _ unsaid e) in ap (sum_by weight_of) g)
    ]
  ]

  pub next_weights : (ss ts : List (Kept B)) (n m : ℕ) (fs gs : List Flight) → AreNextSavedIn contents layers at ss ts n m fs gs → sum_by weight_of gs ≡ sum_by weight_of fs
  next_weights [] [] n m fs gs e = ap (sum_by weight_of) e.1
  next_weights [] (t ∷ ts) n m fs gs e = absurd e
  next_weights (s ∷ ss) [] n m fs gs e = absurd e
  next_weights (s ∷ ss) (t ∷ ts) n m fs gs (k, hs, one, rest) = next_weights ss ts k m hs gs rest ∙ one_weights s t n k fs hs one
