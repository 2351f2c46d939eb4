-- A snapshot that is taken keeps what is true of an audit.
use Rattle.std.proofs.Common.{◌≡◌, ◌≢◌, ℕ, zero, suc, ◌+◌, ◌*◌, ◌<◌, ◌≤◌, Bool, true, false, List, [], ◌∷◌, ◌++◌, length, get_or, map, take, Option, Some, None, nat_lt, cond, refl, sym, ◌∙◌, ap, subst, arith, length-append}
use Rattle.std.specs.Prelude.{◌==◌, ◌&&◌, if◌then◌else◌}
use Rattle.std.specs.List.{All, list_all, position_or_len}
use Rattle.std.proofs.Common.{eq-eqb}
use Rattle.std.proofs.lemmas.Bool.{false≢true, ne_eqb}
use Rattle.std.proofs.lemmas.List.{length-map, map-append}
use Rattle.std.proofs.Math.Seq.{get_or-append_seam, take-length}
use Rattle.device.specs.Layers.{Layer, is_loud}
use Rattle.sector.specs.Bytes.{sectors_at}
use Rattle.sector.specs.declared.refusal.Refusal.TheVariants.{Invalid}
use Rattle.plain_machine.specs.Plain.{Plain, Entry as ShownEntry, Saved, Live, overflow_of, saved_under, shown_of}
use Rattle.plain_machine.specs.declared.request.Overflowing.{Overflowing}
use Rattle.plain_machine.specs.Legal.{IsTaken}
use Rattle.plain_machine.specs.declared.request.Dev.TheVariants.{Snap}
use Rattle.in_flight.specs.Kinds.{in_flight}
use Rattle.snapshot.specs.Kept.{Kept}
use Rattle.snapshot.specs.declared.opening.StoreDev.{StoreDev}
use Rattle.snapshot_list.specs.Finding.{place_of_snap}
use Rattle.merge.specs.Merging.{Merging}
use Rattle.volume.specs.Shown.{shown_entry}
use Rattle.volume.specs.Attached.{IsGained}
use Rattle.volume.specs.Peeking.{is_loud_at, is_loud_under}
use Rattle.volume.specs.Submitting.{dev_refusal, refusal_at}
use Rattle.volume.specs.Volumed.{Volumed, plain_of, is_loud_in_all, is_loud_with}
use Rattle.audited_volume.specs.declared.entry.Entry.{Entry}
use Rattle.audited_volume.specs.declared.entry.Entry.TheVariants.{Attached}
use Rattle.audited_volume.specs.Entries.{entries_by}
use Rattle.audited_volume.specs.Replay.{after, IsLawful}
use Rattle.audited_volume.specs.Noted.{is_live, is_open, kept_count, live_count}
use Rattle.audited_volume.specs.PlacesTaken.{places_for}
use Rattle.audited_volume.specs.Books.{Books, IsAudit}
use Rattle.audited_volume.proofs.Changes.{entry_keeps}
use Rattle.audited_volume.proofs.Mays.{may_more, wanted_may}
use Rattle.audited_volume.proofs.Receipts.{saved_count}
use Rattle.audited_volume.proofs.Replaying.{entries_by_silent}

-- all bytes of an array are its sectors from the first on
pub all_sectors : (array : List ℕ) (n : ℕ) → length array ≡ 512 * n → sectors_at array 0 n ≡ array
all_sectors array n whole = ap (λ k. take k array) (sym whole) ∙ take-length array

-- a search that finds the last one alone
ends_last : {X : Type 0} (test : X → Bool) (xs : List X) (x : X) → ((j : ℕ) (d : X) → j < length xs → test (get_or xs j d) ≡ false) → test x ≡ true → position_or_len test (xs ++ x ∷ []) ≡ length xs
ends_last test [] x none here = rw here refl
ends_last test (y ∷ ys) x none here = let rest = ends_last test ys x (λ j d lt. none (suc j) d (omega (arith, lt))) here in rw (none 0 y (omega arith)) (omega (arith, rest))

last_under : {X : Type 0} (xs : List X) (x : X) → nat_lt (length xs) (length (xs ++ x ∷ [])) ≡ true
last_under xs x = let more = length-append xs (x ∷ []) in less (length xs) (length (xs ++ x ∷ [])) (omega (arith, more)) where
  less : (m n : ℕ) → m < n → nat_lt m n ≡ true
  less m n lt = search (arith)

place_last : {B : Type 0} (number : ℕ) (snaps : List (Kept B)) (s : Kept B) → All (λ x. x.number ≢ number) snaps → s.number ≡ number → place_of_snap number (snaps ++ s ∷ []) ≡ Some (length snaps)
place_last number snaps s fresh mine =
    let end = ends_last (λ x. x.number == number) snaps s (λ j d lt. ne_eqb (get_or snaps j d).number number (fresh j d lt)) (eq-eqb s.number number mine) in
    ap (λ k. cond (nat_lt k (length (snaps ++ s ∷ []))) (Some k) None) end ∙ ap (λ b. cond b (Some (length snaps)) None) (last_under snaps s)

live_last : {B : Type 0} (snaps : List (Kept B)) (s : Kept B) → s.live ≡ true → get_or (map (λ x. x.live) (snaps ++ s ∷ [])) (length snaps) false ≡ true
live_last snaps s live =
    ap (λ bs. get_or bs (length snaps) false) (map-append (λ x. x.live) snaps (s ∷ [])) ∙ ap (λ k. get_or (map (λ x. x.live) snaps ++ s.live ∷ []) k false) (sym (length-map snaps (λ x. x.live)))
    ∙ get_or-append_seam (map (λ x. x.live) snaps) s.live [] false ∙ live

-- a snapshot that was just taken may be asked
pub taken_there : {B : Type 0} (contents : B → List ℕ) (layers : B → List Layer) (size : B → ℕ) (number : ℕ) (wanted : Bool) (store : StoreDev B) (w w' : Volumed B) → IsGained contents layers size number wanted store w w' → w.merge ≡ None → dev_refusal (Snap number) w'.merge w'.snaps ≡ None
taken_there contents layers size number wanted store w w' g alone =
    ap (λ (x : Volumed _). dev_refusal (Snap number) x.merge x.snaps) g.becomes ∙ ap (λ m. dev_refusal (Snap number) m (w.snaps ++ g.snap ∷ [])) alone
    ∙ ap (refusal_at (w.snaps ++ g.snap ∷ [])) (place_last number w.snaps g.snap g.fresh g.number_is)
    ∙ ap (λ b. if b then None else Some Invalid) (live_last w.snaps g.snap g.live)

pub and_left : (a b : Bool) → (a && b) ≡ true → a ≡ true
and_left true b all = refl
and_left false b all = all

and_right : (a b : Bool) → (a && b) ≡ true → b ≡ true
and_right true b all = all
and_right false b all = absurd (false≢true all)

-- where no device drops writes, those under one do not
all_at : {X : Type 0} (p : X → Bool) (xs : List X) (k : ℕ) → list_all p xs ≡ true → get_or (map p xs) k true ≡ true
all_at p [] k all = refl
all_at p (x ∷ xs) zero all = and_left (p x) (list_all p xs) all
all_at p (x ∷ xs) (suc k) all = all_at p xs k (and_right (p x) (list_all p xs) all)

loud_others : {B : Type 0} (layers : B → List Layer) (merge : Option (Merging B)) (others : Bool) → is_loud_with layers merge others ≡ true → others ≡ true
loud_others layers None others all = all
loud_others layers (Some m) others all = and_left others (is_loud (layers m.device)) all

loud_place : {B : Type 0} (layers : B → List Layer) (snaps : List (Kept B)) (place : Option ℕ) → list_all (λ s. is_loud (layers s.device)) snaps ≡ true → is_loud_at layers snaps place ≡ true
loud_place layers snaps None all = refl
loud_place layers snaps (Some k) all = all_at (λ s. is_loud (layers s.device)) snaps k all

pub loud_under : {B : Type 0} (layers : B → List Layer) (number : ℕ) (w : Volumed B) → is_loud_in_all layers w ≡ true → is_loud_under layers (Snap number) w.merge w.snaps ≡ true
loud_under layers number w all =
    loud_place layers w.snaps (place_of_snap number w.snaps) (and_right (is_loud (layers w.origin)) (list_all (λ s. is_loud (layers s.device)) w.snaps) (loud_others layers w.merge (is_loud (layers w.origin) && list_all (λ s. is_loud (layers s.device)) w.snaps) all))

-- the last of a list, where no other has its number
pub saved_last : (number : ℕ) (saved : Saved) (overflow : Overflowing) (xs : List ShownEntry) → All (λ e. e.number ≢ number) xs → saved_under number (xs ++ record { number = number; saved = saved; overflow = overflow } ∷ []) ≡ Some saved
saved_last number saved overflow [] fresh = rw (eq-eqb number number refl) refl
saved_last number saved overflow (x ∷ xs) fresh = rw (ne_eqb x.number number (fresh 0 x (omega arith))) (saved_last number saved overflow xs (λ j d lt. fresh (suc j) d (omega (arith, lt))))

fresh_both : (xs : List ShownEntry) (x : ShownEntry) (number : ℕ) → x.number ≢ number → All (λ e. e.number ≢ number) xs → All (λ e. e.number ≢ number) (x ∷ xs)
fresh_both xs x number here rest zero d lt = here
fresh_both xs x number here rest (suc j) d lt = rest j d (omega (arith, lt))

fresh_shown : {B : Type 0} (contents : B → List ℕ) (origin : List ℕ) (number : ℕ) (snaps : List (Kept B)) → All (λ s. s.number ≢ number) snaps → All (λ e. e.number ≢ number) (map (shown_entry contents origin) snaps)
fresh_shown contents origin number [] fresh = λ j d lt. absurd (omega (arith, lt))
fresh_shown contents origin number (s ∷ snaps) fresh = fresh_both (map (shown_entry contents origin) snaps) (shown_entry contents origin s) number (fresh 0 s (omega arith)) (fresh_shown contents origin number snaps (λ i e less. fresh (suc i) e (omega (arith, less))))

-- one more is live
one_more : (bs : List Bool) → live_count (bs ++ true ∷ []) ≡ live_count bs + 1
one_more [] = omega arith
one_more (true ∷ bs) = omega (arith, one_more bs)
one_more (false ∷ bs) = one_more bs

-- and may overflow, or not
pub kept_more : (wanted : Bool) (bs ms : List Bool) → length ms ≡ length bs → kept_count (bs ++ true ∷ []) (ms ++ wanted ∷ []) + 1 ≤ kept_count bs ms + places_for wanted
kept_more true bs ms same = omega (arith, one_more bs, may_more bs ms true true same)
kept_more false bs ms same = omega (arith, one_more bs, may_more bs ms true false same)

none_attached : (number : ℕ) (array : List ℕ) (overflow : Overflowing) (fresh : Bool) (s : ℕ) (es : List Entry) → entries_by s (es ++ Attached number array overflow fresh ∷ []) ≡ entries_by s es
none_attached number array overflow fresh s es = entries_by_silent s es (Attached number array overflow fresh) refl

module _ {B : Type 0} (contents : B → List ℕ) (layers : B → List Layer) (size : B → ℕ) (number : ℕ) (wanted : Bool) (store : StoreDev B) (w w' : Volumed B) (g : IsGained contents layers size number wanted store w w') where
  abbrev p : Plain
  p = plain_of contents layers w

  abbrev q : Plain
  q = plain_of contents layers w'

  fresh_saved : All (λ e. e.number ≢ number) p.saved
  fresh_saved = fresh_shown contents (contents w.origin) number w.snaps g.fresh

  pub shows_last : (array : List ℕ) → IsTaken p number array (overflow_of wanted) q → saved_under number q.saved ≡ Some (Live array)
  shows_last array t = ap (λ (x : Plain). saved_under number x.saved) t.becomes ∙ saved_last number (Live array) (overflow_of wanted) p.saved fresh_saved

  abbrev entry_more : List ℕ → ShownEntry
  entry_more array = record { number = number; saved = Live array; overflow = overflow_of wanted }

  pub attached_does : (array : List ℕ) (fresh : Bool) (lives may : List Bool) → IsTaken p number array (overflow_of wanted) q → (fresh ≡ true → array ≡ p.origin)
      → (after (shown_of p) (Attached number array (overflow_of wanted) fresh) ≡ shown_of q) × IsLawful (shown_of p) (Attached number array (overflow_of wanted) fresh)
      × (lives ≡ map is_live p.saved → lives ++ true ∷ [] ≡ map is_live q.saved) × (may ≡ map is_open p.saved → may ++ wanted ∷ [] ≡ map is_open q.saved)
  attached_does array fresh lives may t same = (
    sym (ap shown_of t.becomes),
    (fresh_saved, t.strict, same),
    λ was. ap (λ (bs : List Bool). bs ++ true ∷ []) was ∙ sym (map-append is_live p.saved (entry_more array ∷ [])) ∙ ap (λ (x : Plain). map is_live x.saved) (sym t.becomes),
    λ was. (λ i. was i ++ sym (wanted_may wanted) i ∷ []) ∙ sym (map-append is_open p.saved (entry_more array ∷ [])) ∙ ap (λ (x : Plain). map is_open x.saved) (sym t.becomes),
  )

  one_gained : length q.saved ≡ length p.saved + 1
  one_gained = omega (arith, saved_count contents layers w, saved_count contents layers w', ap (λ (x : Volumed B). length x.snaps) g.becomes, length-append w.snaps (g.snap ∷ []))

  pub attached_keeps : (loud loud' more told told' : Bool) (v : Books) (room' : ℕ) → IsAudit loud told p v → loud' ≡ (loud && more) → told' ≡ (told && more)
      → v.taken + length v.entries + length v.held + kept_count v.lives v.may + places_for wanted ≤ 65_536 → room' ≡ v.room → (array : List ℕ) → (fresh : Bool) → (shown : List ℕ) → (loud ≡ true → more ≡ true → (array ≡ shown) × IsTaken p number shown (overflow_of wanted) q × (fresh ≡ true → shown ≡ p.origin))
      → IsAudit loud' told' q (record v { entries = v.entries ++ Attached number array (overflow_of wanted) fresh ∷ []; lives = v.lives ++ true ∷ []; may = v.may ++ wanted ∷ []; room = room' })
  attached_keeps loud loud' more told told' v room' h both tells free room array fresh shown taken =
      entry_keeps loud loud' told told' p q v (Attached number array (overflow_of wanted) fresh) (v.lives ++ true ∷ []) (v.may ++ wanted ∷ []) room' h (λ on. and_left told more (sym tells ∙ on))
      (λ on was. both ∙ ap (λ b. b && more) was ∙ and_right told more (sym tells ∙ on))
      (ap (λ (x : Volumed B). map in_flight x.flights) g.becomes)
      (omega (arith, length-append v.lives (true ∷ []), h.counted.lives, one_gained)) (omega (arith, length-append v.may (wanted ∷ []), h.counted.may, one_gained))
      (none_attached number array (overflow_of wanted) fresh) (omega (arith, free, kept_more wanted v.lives v.may (h.counted.may ∙ sym h.counted.lives))) room
      (λ on was. let t = taken was (and_right told more (sym tells ∙ on)) in attached_does array fresh v.lives v.may (subst (λ (a : List ℕ). IsTaken p number a (overflow_of wanted) q) (sym t.0) t.1) (λ new. t.0 ∙ t.2 new))
