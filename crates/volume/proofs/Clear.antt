-- What a write of the origin waits for, if the merge has not its chunk: where that is nothing, no copy is started; and where it
-- waits, it does so still once the copies that are lacking are started.
use Rattle.std.proofs.Common.{◌≡◌, inl, inr, ℕ, ◌+◌, ◌<◌, ◌≤◌, Bool, true, false, List, [], ◌∷◌, length, map, refl, sym, ◌∙◌, ap, subst}
use Rattle.std.specs.Prelude.{◌&&◌, ◌||◌, not, None, sum_by, count_by, if◌then◌else◌}
use Rattle.std.specs.List.{list_all, list_any}
use Rattle.std.proofs.lemmas.Bool.{cases_Bool, MatchBool-at_true, MatchBool-at_false, and_parts, and_from, or_parts, true≢false}
use Rattle.device.specs.Layers.{Layer}
use Rattle.plain_machine.specs.declared.request.Request.{Request}
use Rattle.in_flight.specs.Kinds.{kind_of, room_of}
use Rattle.in_flight.specs.Routes.{write_route_of}
use Rattle.in_flight.specs.declared.flights.Flight.{Flight}
use Rattle.in_flight.specs.declared.flights.Kind.TheVariants.{OriginWrite}
use Rattle.in_flight.specs.declared.flights.Route.TheVariants.{Origin}
use Rattle.volume_laws.specs.Accepting.{IsTakenIn}
use Rattle.volume_laws.specs.Books.{SnapBooks}
use Rattle.volume_laws.specs.Published.{is_clear, is_saved}
use Rattle.snapshot.specs.Kept.{Kept, books_of as snap_books}
use Rattle.snapshot_list.specs.Numbers.{count_in}
use Rattle.snapshot_list.specs.Routing.{is_merged_at}
use Rattle.snapshot_list.specs.Starting.{lacks, is_full_of, starts, overflows, overflowing, own_of, IsSavedIn, AreSavedIn}
use Rattle.snapshot_list.proofs.Overflowing.{overflowing_fine, saved_lives}
use Rattle.volume.specs.Submitting.{IsAsked, IsAcceptedAs, IsEntered, entered_of, lives_after, spoiled_by}
use Rattle.volume.specs.Causes.{lives_of}
use Rattle.volume.specs.Exact.{IsSubmittedAs}
use Rattle.volume.specs.Volumed.{Volumed, books_of, piece_with}
use Rattle.volume.specs.Whole.{IsWhole}
use Rattle.volume.proofs.Accepts.{entered_accepted}
use Rattle.volume.proofs.Finishes.{taken}
use Rattle.volume.proofs.MovedAccepts.{origin_write_is}
use Rattle.volume.proofs.MovedLists.{if_false}
use Rattle.volume.proofs.Submitted.{sized_all}
use Rattle.volume.proofs.Unflushed.{unflushed}

-- of a live snapshot the chunk is published, so it is there
has_it : (live placed marked copying : Bool) → (not live || (placed && not marked)) ≡ true → (live && not placed && not copying) ≡ false
has_it false placed marked copying e = refl
has_it true true marked copying e = refl
has_it true false marked copying e = absurd (true≢false (sym e))

clear_of : (saved untried : Bool) → (saved && not untried) ≡ true → (saved ≡ true) × (untried ≡ false)
clear_of true false e = (refl, refl)
clear_of true true e = absurd (true≢false (sym e))
clear_of false untried e = absurd (true≢false (sym e))

module _ {B : Type 0} (contents : B → List ℕ) (layers : B → List Layer) (first : ℕ) where
  abbrev books : Kept B → SnapBooks
  books = snap_books contents layers

  -- a snapshot that lacks nothing stays as it is
  fine_saved : (s : Kept B) (n : ℕ) (fs : List Flight) → lacks first s ≡ false → IsSavedIn contents layers (own_of first s) s s n n fs fs
  fine_saved s n fs none =
      let no_start : starts first s ≡ false = ap (λ (b : Bool). b && not (is_full_of s)) none in
      let no_spoil : overflows first s ≡ false = ap (λ (b : Bool). b && is_full_of s) none in
      rw (no_start, no_spoil) (refl, refl, refl)

  saved_lacks : (s : Kept B) → is_saved first (books s) ≡ true → lacks first s ≡ false
  saved_lacks s e = has_it s.live _ _ _ e

  -- and so do all, where all are saved
  pub all_fine : (ss : List (Kept B)) (n : ℕ) (fs : List Flight) → list_all (is_saved first) (map books ss) ≡ true → AreSavedIn contents layers (own_of first) ss ss n n fs fs
  all_fine [] n fs e = (refl, refl)
  all_fine (s ∷ ss) n fs e =
      let both = and_parts (is_saved first (books s)) (list_all (is_saved first) (map books ss)) e in
      (n, fs, fine_saved s n fs (saved_lacks s both.0), all_fine ss n fs both.1)

  pub none_full : (ss : List (Kept B)) → list_all (is_saved first) (map books ss) ≡ true → overflowing (own_of first) ss ≡ []
  none_full [] e = refl
  none_full (s ∷ ss) e =
      let both = and_parts (is_saved first (books s)) (list_all (is_saved first) (map books ss)) e in
      overflowing_fine (own_of first) s ss (ap (λ (b : Bool). b && is_full_of s) (saved_lacks s both.0)) ∙ none_full ss both.1

  -- what is clear once the copies are started was clear before
  one_back : (s t : Kept B) (n m : ℕ) (fs gs : List Flight) → IsSavedIn contents layers (own_of first s) s t n m fs gs → is_saved first (books t) ≡ true → t.untried ≡ false → (is_saved first (books s) ≡ true) × (s.untried ≡ false)
  one_back s t n m fs gs e saved tried = elim (cases_Bool (starts first s)) [
    | inl begins ↦ (let (buffer, at, m_is, g) = MatchBool-at_true _ _ begins e in (sym (ap (λ (x : Kept B). is_saved first (books x)) at.fields) ∙ saved, sym (ap (λ (x : Kept B). x.untried) at.fields) ∙ tried))
    | inr unsaid ↦ elim (cases_Bool (overflows first s)) [
      | inl over ↦ (let (same, m_is, g) = MatchBool-at_true _ _ over (MatchBool-at_false _ _ unsaid e) in absurd (true≢false (sym (ap (λ (x : Kept B). x.untried) same) ∙ tried)))
      | inr fine ↦ (let (same, m_is, g) = MatchBool-at_false _ _ fine (MatchBool-at_false _ _ unsaid e) in (sym (ap (λ (x : Kept B). is_saved first (books x)) same) ∙ saved, sym (ap (λ (x : Kept B). x.untried) same) ∙ tried))
    ]
  ]

  all_back : (ss ts : List (Kept B)) (n m : ℕ) (fs gs : List Flight) → AreSavedIn contents layers (own_of first) ss ts n m fs gs → list_all (is_saved first) (map books ts) ≡ true → list_any (λ (x : SnapBooks). x.untried) (map books ts) ≡ false
      → (list_all (is_saved first) (map books ss) ≡ true) × (list_any (λ (x : SnapBooks). x.untried) (map books ss) ≡ false)
  all_back [] [] n m fs gs e saved tried = (refl, refl)
  all_back [] (t ∷ ts) n m fs gs e saved tried = absurd e
  all_back (s ∷ ss) [] n m fs gs e saved tried = absurd e
  all_back (s ∷ ss) (t ∷ ts) n m fs gs (k, hs, one, rest) saved tried =
      let both = and_parts (is_saved first (books t)) (list_all (is_saved first) (map books ts)) saved in
      let none = or_parts t.untried (list_any (λ (x : SnapBooks). x.untried) (map books ts)) tried in
      let here = one_back s t n k fs hs one both.0 none.0 in
      let more = all_back ss ts k m hs gs rest both.1 none.1 in
      (and_from (is_saved first (books s)) (list_all (is_saved first) (map books ss)) here.0 more.0, ap (λ (b : Bool). b || list_any (λ (x : SnapBooks). x.untried) (map books ss)) here.1 ∙ more.1)

  pub still_waits : (ss ts : List (Kept B)) (n m : ℕ) (fs gs : List Flight) → AreSavedIn contents layers (own_of first) ss ts n m fs gs → is_clear (map books ss) first ≡ false → is_clear (map books ts) first ≡ false
  still_waits ss ts n m fs gs e waits = elim (cases_Bool (is_clear (map books ts) first)) [
    | inr waiting ↦ waiting
    | inl clear ↦
        (let both = clear_of (list_all (is_saved first) (map books ts)) (list_any (λ (x : SnapBooks). x.untried) (map books ts)) clear in
        let back = all_back ss ts n m fs gs e both.0 both.1 in
        let was : is_clear (map books ss) first ≡ true = ap (λ (b : Bool). b && not (list_any (λ (x : SnapBooks). x.untried) (map books ss))) back.0 ∙ ap not back.1 in
        absurd (true≢false (sym was ∙ waits)))
  ]

-- A write that waits for nothing goes to the origin disk at once.
module _ {B : Type 0} (contents : B → List ℕ) (layers : B → List Layer) (size : B → ℕ) (v : Volumed B) (h : IsWhole contents layers size v) where
  abbrev all_saved : ℕ → Type 0
  all_saved first = list_all (is_saved first) (map (snap_books contents layers) v.snaps) ≡ true

  saved_by : (first : ℕ) → is_clear (map (snap_books contents layers) v.snaps) first ≡ true → all_saved first
  saved_by first clear = (clear_of (list_all (is_saved first) (map (snap_books contents layers) v.snaps)) (list_any (λ (x : SnapBooks). x.untried) (map (snap_books contents layers) v.snaps)) clear).0

  pub clear_goes : (f : Flight) → f.number ≡ v.requests + 1 → IsAsked (size v.origin) (piece_with v.merge v.snaps) f.request → length f.room.items ≡ room_of f.request → kind_of f.request ≡ OriginWrite → f.route ≡ Origin → length v.flights < 64
      → sum_by count_in v.snaps + count_by (starts f.request.range.first) v.snaps ≤ 256 → is_merged_at f.request.range.first v.merge ≡ false → is_clear (map (snap_books contents layers) v.snaps) f.request.range.first ≡ true
      → IsTakenIn [] f.number f.request (books_of contents layers size v) (books_of contents layers size (entered_of f v))
  clear_goes f number asked room kind route space few unmerged clear =
      let first : ℕ = f.request.range.first in
      let at : AreSavedIn contents layers (own_of first) v.snaps v.snaps v.copies v.copies v.flights v.flights = all_fine contents layers first v.snaps v.copies v.flights (saved_by first clear) in
      subst (λ (ns : List ℕ). IsTakenIn ns f.number f.request (books_of contents layers size v) (books_of contents layers size (entered_of f v))) (none_full contents layers first v.snaps (saved_by first clear))
      (taken contents layers size v h v.snaps v.snaps refl v.copies v.flights f at few number asked room kind (route ∙ sym (ap (write_route_of false None) clear)) space unmerged)

  pub clear_accepted : (request : Request) (number : ℕ) (w : Volumed B) → kind_of request ≡ OriginWrite → is_merged_at request.range.first v.merge ≡ false → is_clear (map (snap_books contents layers) v.snaps) request.range.first ≡ true
      → IsEntered contents layers request Origin number v w → IsAcceptedAs contents layers request number v w
  clear_accepted request number w kind unmerged clear e =
      let first : ℕ = request.range.first in
      let at : AreSavedIn contents layers (own_of first) v.snaps v.snaps v.copies v.copies v.flights v.flights = all_fine contents layers first v.snaps v.copies v.flights (saved_by first clear) in
      let none : spoiled_by OriginWrite first v.merge v.snaps ≡ [] = if_false (is_merged_at first v.merge) [] (overflowing (own_of first) v.snaps) unmerged ∙ none_full contents layers first v.snaps (saved_by first clear) in
      let live : lives_of v ≡ lives_after OriginWrite first v.merge v.snaps =
      saved_lives contents layers (own_of first) v.snaps v.snaps v.copies v.copies v.flights v.flights at
      ∙ sym (if_false (is_merged_at first v.merge) (map (λ (s : Kept B). s.live) v.snaps) (map (λ (s : Kept B). if overflows first s then false else s.live) v.snaps) unmerged) in
      let exact : IsSubmittedAs contents layers request number v w = λ replied.
      origin_write_is contents layers replied number request e.flight e.number_is e.request_is v w v.copies v.snaps v.snaps v.flights kind unmerged refl (sized_all contents layers size v h) at
      (e.route_is ∙ sym (ap (write_route_of false None) clear)) e.becomes in
      entered_accepted contents layers request Origin number v w OriginWrite kind (unflushed request OriginWrite kind tt) none live e exact
