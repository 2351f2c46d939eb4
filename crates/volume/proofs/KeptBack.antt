-- What snapshots keep back for a merge changes in a quiet volume, and nothing else.
use Rattle.std.proofs.Common.{◌≡◌, ℕ, suc, ◌<◌, ◌≤◌, true, List, [], ◌∷◌, Option, None, length, get_or, map, refl, sym, ◌∙◌, ap, subst, arith, nat_eq}
use Rattle.std.specs.Prelude.{sum_by, ◌&&◌, not}
use Rattle.std.specs.List.{All, list_all}
use Rattle.std.proofs.lemmas.Bool.{eqb-true}
use Rattle.std.proofs.lemmas.List.{nil_from_length}
use Rattle.std.proofs.lemmas.List.Elements.{All-cons, All-nil}
use Rattle.device.specs.Layers.{Layer, is_loud}
use Rattle.plain_machine.specs.declared.request.Reply.{Reply}
use Rattle.volume_laws.specs.Books.{SnapBooks, Books}
use Rattle.volume_laws.specs.Whole.{Holds, plain_of as plain_books}
use Rattle.volume_laws.specs.Waits.{Waits}
use Rattle.event_machine.specs.Held.{SnapHeld, Moving}
use Rattle.snapshot.specs.Kept.{Kept, books_of as snap_books}
use Rattle.snapshot_list.specs.Numbers.{number_of_snap, numbers_in, count_in}
use Rattle.merge.specs.Merging.{Merging}
use Rattle.snapshot_list.specs.Keeping.{unkept}
use Rattle.volume.specs.Volumed.{Volumed, books_of, plain_of, is_loud_in_all, is_loud_with}
use Rattle.volume.specs.Whole.{AreNumbers, SharesNone, IsAttached, IsWhole, IsCounted, GoesOn, starts_left}
use Rattle.volume.specs.Moved.{held_of, moving_of}
use Rattle.volume.specs.Leaving.{is_done_of}
use Rattle.volume.proofs.Unlike.{hidden_map, hidden_sum, hidden_length, hidden_at}
use Rattle.volume.proofs.Shown.{and_left, and_right, shown}
use Rattle.volume.proofs.Sums.{sum_cons}

-- no snapshot of a quiet volume has a copy or a mark
pub all_done : {B : Type 0} (ss : List (Kept B)) → list_all is_done_of ss ≡ true → All (λ s. (s.copies ≡ []) × (s.marks ≡ [])) ss
all_done [] e = All-nil (λ s. (s.copies ≡ []) × (s.marks ≡ []))
all_done (s ∷ ss) e =
    let lists = and_left (nat_eq (length s.copies) 0 && nat_eq (length s.marks) 0) (not s.untried) (and_left (is_done_of s) (list_all is_done_of ss) e) in
    All-cons (λ t. (t.copies ≡ []) × (t.marks ≡ [])) s ss (
      nil_from_length s.copies (eqb-true (length s.copies) 0 (and_left (nat_eq (length s.copies) 0) (nat_eq (length s.marks) 0) lists)),
      nil_from_length s.marks (eqb-true (length s.marks) 0 (and_right (nat_eq (length s.copies) 0) (nat_eq (length s.marks) 0) lists)),
    ) (all_done ss (and_right (is_done_of s) (list_all is_done_of ss) e))

-- so none of its copies counts
none_counts : {B : Type 0} (ss : List (Kept B)) → All (λ s. (s.copies ≡ []) × (s.marks ≡ [])) ss → sum_by (λ (s : Kept B). length (numbers_in s)) ss ≡ 0
none_counts [] done = refl
none_counts {B = B} (s ∷ ss) done =
    let here = done 0 s (omega arith) in
    let one : length (numbers_in s) ≡ 0 = rw (here.0, here.1) refl in
    omega (arith, sum_cons (λ (t : Kept B). length (numbers_in t)) s ss, one, none_counts ss (λ k d lt. done (suc k) d (omega (arith, lt))))

fewer_counts : {B : Type 0} (ss : List (Kept B)) → sum_by count_in ss ≤ sum_by (λ (s : Kept B). length (numbers_in s)) ss
fewer_counts [] = omega arith
fewer_counts {B = B} (s ∷ ss) =
    let less : count_in s ≤ length (numbers_in s) = omega arith in
    omega (arith, sum_cons count_in s ss, sum_cons (λ (t : Kept B). length (numbers_in t)) s ss, less, fewer_counts ss)

module _ {B : Type 0} (contents : B → List ℕ) (layers : B → List Layer) (size : B → ℕ) (v : Volumed B) (snaps : List (Kept B)) (e : map unkept snaps ≡ map unkept v.snaps) where
  abbrev with_kept : Volumed B
  with_kept = record v { snaps = snaps }

  pub books_kept : map (snap_books contents layers) snaps ≡ map (snap_books contents layers) v.snaps
  books_kept = hidden_map unkept snaps v.snaps e (snap_books contents layers) (λ s. refl)

  -- none of it is seen of the machine, nor by the plain one
  pub moving_kept : (replied : Option Reply) → moving_of contents layers replied (record v { snaps = snaps }) ≡ moving_of contents layers replied v
  moving_kept replied = ap (λ (hs : List SnapHeld). let w : Moving = record (moving_of contents layers replied v) { snaps = hs } in w) (hidden_map unkept snaps v.snaps e (held_of contents layers) (λ s. refl))

  pub plain_kept : plain_of contents layers (record v { snaps = snaps }) ≡ plain_of contents layers v
  plain_kept =
      let bs = books_of contents layers size v in
      shown contents layers size with_kept
      ∙ ap (λ (xs : List SnapBooks). let b : Books = record bs { snaps = xs } in plain_books b) books_kept
      ∙ sym (shown contents layers size v)

  pub loud_kept : is_loud_in_all layers (record v { snaps = snaps }) ≡ is_loud_in_all layers v
  loud_kept = ap (λ b. is_loud_with layers v.merge (is_loud (layers v.origin) && b))
      (sym (all_seen snaps) ∙ ap (list_all (λ b. b)) (hidden_map unkept snaps v.snaps e (λ s. is_loud (layers s.device)) (λ s. refl)) ∙ all_seen v.snaps)
    where
      all_seen : (ss : List (Kept B)) → list_all (λ b. b) (map (λ (s : Kept B). is_loud (layers s.device)) ss) ≡ list_all (λ (s : Kept B). is_loud (layers s.device)) ss
      all_seen [] = refl
      all_seen (s ∷ ss) = ap (λ b. is_loud (layers s.device) && b) (all_seen ss)

  pub whole_kept : v.merge ≡ None → list_all is_done_of v.snaps ≡ true → IsWhole contents layers size v → IsWhole contents layers size (record v { snaps = snaps })
  whole_kept alone done h =
      let bs = books_of contents layers size v in
      let len = hidden_length unkept snaps v.snaps e in
      let counts = hidden_sum unkept snaps v.snaps e (λ (s : Kept B). length (numbers_in s)) (λ s. refl) in
      let none = none_counts v.snaps (all_done v.snaps done) in
      let lefts = hidden_sum unkept snaps v.snaps e starts_left (λ s. refl) in
      record {
        holds = subst (λ (xs : List SnapBooks). let b : Books = record bs { snaps = xs } in Holds b) (sym books_kept) h.holds;
        waits = subst (λ (xs : List SnapBooks). let b : Books = record bs { snaps = xs } in Waits b) (sym books_kept) h.waits;
        merge = subst (λ (m : Option (Merging B)). GoesOn contents layers size m with_kept) (sym alone) tt;
        snaps = λ k d lt. seen v.copies (size v.origin) (get_or snaps k d)
            (subst (IsAttached v.copies (size v.origin)) (hidden_at unkept snaps v.snaps e k d lt) (unseen v.copies (size v.origin) (get_or v.snaps k d) (h.snaps k d (omega (arith, lt, len)))));
        counted = λ k d lt. seen_counts (get_or snaps k d)
            (subst IsCounted (hidden_at unkept snaps v.snaps e k d lt) (unseen_counts (get_or v.snaps k d) (h.counted k d (omega (arith, lt, len)))));
        apart = λ i j d lt inside.
            (let i_in : i < length snaps = omega (arith, lt, inside) in
            let was : SharesNone (unkept (get_or v.snaps i d)) (unkept (get_or v.snaps j d)) = h.apart i j d lt (omega (arith, inside, len)) in
            let now : SharesNone (unkept (get_or snaps i d)) (unkept (get_or snaps j d)) =
            subst (λ (x : Kept B). SharesNone x (unkept (get_or snaps j d))) (hidden_at unkept snaps v.snaps e i d i_in) (subst (SharesNone (unkept (get_or v.snaps i d))) (hidden_at unkept snaps v.snaps e j d inside) was) in
            now);
        numbers = subst (AreNumbers v.attached) (sym (hidden_map unkept snaps v.snaps e number_of_snap (λ s. refl))) h.numbers;
        requests = h.requests;
        few = omega (arith, h.few, len);
        few_copies = omega (arith, fewer_counts snaps, counts, none);
        few_requests = h.few_requests;
        numbers_left = omega (arith, h.numbers_left, lefts);
      }
    where
      unseen : (copies sectors : ℕ) (s : Kept B) → IsAttached copies sectors s → IsAttached copies sectors (unkept s)
      unseen copies sectors s a = record { origin = a.origin; allowed = a.allowed; some = a.some; numbers = a.numbers }

      unseen_counts : (s : Kept B) → IsCounted s → IsCounted (unkept s)
      unseen_counts s a = record { some = a.some; count = a.count; fits = a.fits; idle = a.idle }

      seen : (copies sectors : ℕ) (s : Kept B) → IsAttached copies sectors (unkept s) → IsAttached copies sectors s
      seen copies sectors s a = record { origin = a.origin; allowed = a.allowed; some = a.some; numbers = a.numbers }

      seen_counts : (s : Kept B) → IsCounted (unkept s) → IsCounted s
      seen_counts s a = record { some = a.some; count = a.count; fits = a.fits; idle = a.idle }
