-- A quiet volume takes a snapshot.
use Rattle.std.proofs.Common.{◌≡◌, ◌≢◌, inl, inr, ℕ, ◌+◌, ◌<◌, ◌≤◌, Bool, true, false, List, [], ◌∷◌, ◌++◌, length, get_or, map, refl, sym, ap, subst, arith, length-append}
use Rattle.std.specs.Prelude.{Option, Some, None}
use Rattle.std.specs.List.{All}
use Rattle.std.specs.Option.{is_some}
use Rattle.std.proofs.lemmas.Bool.Decides.{leb_tells}
use Rattle.std.proofs.lemmas.List.{get_or-map, length-map}
use Rattle.sector.specs.declared.refusal.Refusal.TheVariants.{TooMany}
use Rattle.std.proofs.lemmas.List.Elements.{All-nil, All-push, All-weaker}
use Rattle.std.proofs.lemmas.List.Quantifiers.{all_pairs_push}
use Rattle.std.proofs.lemmas.List.Sums.{sum_by-append}
use Rattle.chunk.specs.Sizes.{is_chunk}
use Rattle.device.specs.Layers.{Layer}
use Rattle.cow_format.specs.Picture.{picture}
use Rattle.plain_machine.specs.declared.request.Overflowing.{Overflowing}
use Rattle.plain_machine.specs.Legal.{IsTaken}
use Rattle.volume_laws.specs.Books.{number_of}
use Rattle.volume_laws.specs.Steps.{Attaches, IsNewSnap}
use Rattle.volume_laws.specs.Whole.{plain_of as plain_books}
use Rattle.volume_laws.proofs.Attaching.{attach_event}
use Rattle.volume_laws.proofs.Waiting.{waits_none}
use Rattle.snapshot.specs.Kept.{Kept, books_of as snap_books}
use Rattle.merge.specs.Merging.{Merging}
use Rattle.volume.specs.Volumed.{Volumed, books_of, plain_of}
use Rattle.snapshot_list.specs.Numbers.{number_of_snap, numbers_in, count_in}
use Rattle.volume.specs.Whole.{AreNumbers, SharesNone, IsAttached, IsWhole, GoesOn, IsCounted, starts_left}
use Rattle.volume.specs.Taking.{taking_refusal}
use Rattle.volume.proofs.Shown.{shown}
use Rattle.volume.proofs.StartsLeft.{left_whole}
use Rattle.volume.proofs.Sums.{sum_cons}

-- the next number is no other snapshot's
pub attach_fresh : {B : Type 0} (contents : B → List ℕ) (layers : B → List Layer) (size : B → ℕ) (v : Volumed B) → IsWhole contents layers size v → (number : ℕ) → number ≡ v.attached + 1 → All (λ s. s.number ≢ number) v.snaps
attach_fresh contents layers size v h number next k d lt same =
    let at : get_or (map number_of_snap v.snaps) k 0 ≡ (get_or v.snaps k d).number = get_or-map number_of_snap v.snaps k d 0 lt in
    let below : get_or (map number_of_snap v.snaps) k 0 ≤ v.attached = h.numbers.given k 0 (omega (arith, lt, length-map v.snaps number_of_snap)) in
    omega (arith, at, below, next, same)

-- a volume that takes one more is quiet, and has less than eight and no merge
pub taking_none : (stale begun quiet : Bool) (count attached chunk : ℕ) → taking_refusal stale begun quiet count attached chunk ≡ None → (quiet ≡ true) × (count < 8) × (begun ≡ false)
taking_none true begun quiet count attached chunk e = absurd (cc)
taking_none false true quiet count attached chunk e = absurd (cc)
taking_none false false false count attached chunk e = absurd (cc)
taking_none false false true count attached chunk e = (
  refl,
  elim (leb_tells 8 count) [
    | inl many ↦ (let got : Some TooMany ≡ None = rw many.0 at e in absurd (cc))
    | inr few ↦ few.1
  ],
  refl,
)

-- where none is begun, there is no merge
pub none_begun : {X : Type 0} (merge : Option X) → is_some merge ≡ false → merge ≡ None
none_begun None e = refl
none_begun (Some m) e = absurd (cc)

books_push : {B : Type 0} (contents : B → List ℕ) (layers : B → List Layer) (xs : List (Kept B)) (s : Kept B) → map (snap_books contents layers) (xs ++ s ∷ []) ≡ map (snap_books contents layers) xs ++ snap_books contents layers s ∷ []
books_push contents layers [] s = refl
books_push contents layers (x ∷ xs) s = ap (λ ys. snap_books contents layers x ∷ ys) (books_push contents layers xs s)

numbers_push : {B : Type 0} (xs : List (Kept B)) (s : Kept B) → map number_of_snap (xs ++ s ∷ []) ≡ map number_of_snap xs ++ s.number ∷ []
numbers_push [] s = refl
numbers_push (x ∷ xs) s = ap (λ ys. x.number ∷ ys) (numbers_push xs s)

numbers_same : {B : Type 0} (contents : B → List ℕ) (layers : B → List Layer) (xs : List (Kept B)) → map number_of (map (snap_books contents layers) xs) ≡ map number_of_snap xs
numbers_same contents layers [] = refl
numbers_same contents layers (x ∷ xs) = ap (λ ys. x.number ∷ ys) (numbers_same contents layers xs)

module _ {B : Type 0} (contents : B → List ℕ) (layers : B → List Layer) (size : B → ℕ) (v : Volumed B) (s : Kept B) (none : v.flights ≡ []) (alone : v.merge ≡ None) (h : IsWhole contents layers size v) (number : s.number ≡ v.attached + 1) (new : IsNewSnap (contents v.origin) (snap_books contents layers s)) where
  abbrev pub taken : Volumed B
  taken = record v { snaps = v.snaps ++ s ∷ []; attached = v.attached + 1 }

  attaches : Attaches (snap_books contents layers s) (books_of contents layers size v) (books_of contents layers size taken)
  attaches = record {
    quiet = none;
    requests = refl;
    fresh = subst (All (λ n. n ≢ s.number)) (sym (numbers_same contents layers v.snaps)) (All-weaker (λ n. n ≤ v.attached) (λ n. n ≢ s.number) (λ n le e. absurd (omega (arith, le, e, number))) (map number_of_snap v.snaps) h.numbers.given);
    snaps = books_push contents layers v.snaps s;
    origin = refl;
    sectors = refl;
    loud = refl;
    merge = refl;
  }

  pub whole_taken : length v.snaps < 8 → s.state.size ≤ 2_147_483_648 → s.state.origin ≡ size v.origin → is_chunk s.state.chunk ≡ true → numbers_in s ≡ [] → IsCounted s → IsWhole contents layers size taken
  whole_taken room small origin allowed idle counts =
      let all_numbers : AreNumbers v.copies (numbers_in s) = subst (AreNumbers v.copies) (sym idle) (record { given = All-nil (λ n. n ≤ v.copies); ascending = λ i j d lt within. absurd (omega (arith, within)) }) in
      record {
        merge = subst (λ (x : Option (Merging B)). GoesOn contents layers size x taken) (sym alone) tt;
        holds = (attach_event (snap_books contents layers s) (books_of contents layers size v) (books_of contents layers size taken) h.holds attaches new).0;
        waits = waits_none (books_of contents layers size taken) none;
        snaps = All-push (IsAttached v.copies (size v.origin)) v.snaps s h.snaps (record { origin = origin; allowed = allowed; some = new.text.some; numbers = all_numbers });
        counted = All-push IsCounted v.snaps s h.counted counts;
        apart = all_pairs_push SharesNone v.snaps s h.apart (λ k d lt i e within. subst (All (λ n. get_or (numbers_in (get_or v.snaps k d)) i e ≢ n)) (sym idle) (All-nil (λ n. get_or (numbers_in (get_or v.snaps k d)) i e ≢ n)));
        numbers = subst (AreNumbers (v.attached + 1)) (sym (numbers_push v.snaps s)) (record {
          given = All-push (λ n. n ≤ v.attached + 1) (map number_of_snap v.snaps) s.number (All-weaker (λ n. n ≤ v.attached) (λ n. n ≤ v.attached + 1) (λ n le. omega (arith, le)) (map number_of_snap v.snaps) h.numbers.given) (omega (arith, number));
          ascending = all_pairs_push (λ m n. m < n) (map number_of_snap v.snaps) s.number h.numbers.ascending (All-weaker (λ n. n ≤ v.attached) (λ n. n < s.number) (λ n le. omega (arith, le, number)) (map number_of_snap v.snaps) h.numbers.given);
        });
        requests = h.requests;
        few = omega (arith, room, length-append v.snaps (s ∷ []));
        few_copies = let sums = sum_by-append count_in v.snaps (s ∷ []) in let one = sum_cons count_in s [] in omega (arith, h.few_copies, sums, one, ap length idle);
        few_requests = h.few_requests;
        numbers_left = let sums = sum_by-append starts_left v.snaps (s ∷ []) in let one = sum_cons starts_left s [] in let most = left_whole s 2_147_483_648 small in omega (arith, h.numbers_left, sums, one, most);
      }

  pub plain_taken : (array : List ℕ) → picture s.state.chunk (contents v.origin) (contents s.device) ≡ array → IsTaken (plain_of contents layers v) (v.attached + 1) array s.overflow (plain_of contents layers taken)
  plain_taken array shows =
      let step = (attach_event (snap_books contents layers s) (books_of contents layers size v) (books_of contents layers size taken) h.holds attaches new).1 in
      subst (λ (n : ℕ). IsTaken (plain_of contents layers v) n array s.overflow (plain_of contents layers taken)) number
      (subst (λ (x : List ℕ). IsTaken (plain_of contents layers v) s.number x s.overflow (plain_of contents layers taken)) shows
      (subst (λ p. IsTaken p s.number (picture s.state.chunk (contents v.origin) (contents s.device)) s.overflow (plain_of contents layers taken)) (sym (shown contents layers size v))
      (subst (IsTaken (plain_books (books_of contents layers size v)) s.number (picture s.state.chunk (contents v.origin) (contents s.device)) s.overflow) (sym (shown contents layers size taken)) step)))

  pub plain_taken_as : (array : List ℕ) (overflow : Overflowing) (snaps : List (Kept B)) → s.overflow ≡ overflow → snaps ≡ v.snaps ++ s ∷ [] → picture s.state.chunk (contents v.origin) (contents s.device) ≡ array → IsTaken (plain_of contents layers v) (v.attached + 1) array overflow (plain_of contents layers (record v { snaps = snaps; attached = v.attached + 1 }))
  plain_taken_as array overflow snaps overflow_is same shows =
      subst (λ (x : List (Kept B)). IsTaken (plain_of contents layers v) (v.attached + 1) array overflow (plain_of contents layers (record v { snaps = x; attached = v.attached + 1 }))) (sym same)
      (subst (λ (o : Overflowing). IsTaken (plain_of contents layers v) (v.attached + 1) array o (plain_of contents layers taken)) overflow_is (plain_taken array shows))
