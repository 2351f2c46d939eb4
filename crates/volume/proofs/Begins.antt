-- A snapshot of the volume starts a copy, under the next number.
use Rattle.std.proofs.Common.{◌≡◌, ◌≢◌, inl, inr, ℕ, true, ◌+◌, ◌<◌, ◌≤◌, List, [], ◌∷◌, ◌++◌, length, get_or, set, map, refl, sym, ◌∙◌, ap, subst, arith, length-append}
use Rattle.std.specs.Prelude.{AllPairs, sum_by}
use Rattle.std.specs.List.{All}
use Rattle.std.proofs.lemmas.Bool.{cases_eq}
use Rattle.std.proofs.lemmas.List.{get_or-set_same, get_or-set_other, length-set, get_or_default, append_assoc}
use Rattle.std.proofs.lemmas.List.Elements.{All-set, All-weaker, All-push}
use Rattle.std.proofs.lemmas.List.Quantifiers.{all_pairs_push}
use Rattle.std.proofs.lemmas.List.Sums.{sum_by-set}
use Rattle.std.proofs.Math.Seq.{map-set_same}
use Rattle.chunk.specs.Sizes.{is_chunk}
use Rattle.device.specs.Layers.{Layer}
use Rattle.in_flight.specs.Due.{number_of_copy, number_of_mark}
use Rattle.in_flight.specs.declared.copies.ChunkCopy.{ChunkCopy}
use Rattle.volume_laws.specs.Whole.{Holds}
use Rattle.volume_laws.specs.Waits.{Waits}
use Rattle.volume_laws.proofs.MergeRooms.{KeepsRoom}
use Rattle.volume_laws.proofs.MergeRoomEvents.{start_room, spoil_room}
use Rattle.snapshot.specs.Kept.{Kept}
use Rattle.snapshot.specs.Calls.{StartsAt}
use Rattle.snapshot_list.specs.Starting.{spoilt_of}
use Rattle.snapshot_list.specs.Rooms.{room_of}
use Rattle.volume.specs.Volumed.{Volumed, books_of}
use Rattle.snapshot_list.specs.Numbers.{number_of_snap, numbers_in, count_in, merged_count}
use Rattle.volume.specs.Whole.{AreNumbers, SharesNone, IsAttached, IsWhole, IsCounted, starts_left}
use Rattle.volume.proofs.Changing.{goes_changed}

map_push : {X : Type 0} (f : X → ℕ) (xs : List X) (x : X) → map f (xs ++ x ∷ []) ≡ map f xs ++ f x ∷ []
map_push f [] x = refl
map_push f (y ∷ ys) x = ap (λ zs. f y ∷ zs) (map_push f ys x)

-- one element changes, and keeps how it stands to each other one, of which something is known
pub all_pairs_set_in : {X : Type 0} (P : X → Type 0) (R : X → X → Type 0) (xs : List X) (k : ℕ) (s s' : X) → k < length xs → s ≡ get_or xs k s → All P xs → ((t : X) → P t → R s t → R s' t) → ((t : X) → P t → R t s → R t s') → AllPairs R xs → AllPairs R (set xs k s')
all_pairs_set_in P R xs k s s' within is known left right all i j d lt inside =
    let j_in : j < length xs = omega (arith, inside, length-set xs k s') in
    let i_in : i < length xs = omega (arith, j_in, lt) in
    let was : R (get_or xs i d) (get_or xs j d) = all i j d lt j_in in
    elim (cases_eq i k) [
      | inl same ↦
          (let other : j ≢ k = omega (arith, lt, same) in
          let at : get_or xs i d ≡ s = ap (λ n. get_or xs n d) same ∙ get_or_default xs k d s within ∙ sym is in
          subst (λ x. R x (get_or (set xs k s') j d)) (sym (ap (λ n. get_or (set xs k s') n d) same ∙ get_or-set_same xs k s' d within))
          (subst (R s') (sym (get_or-set_other xs k j s' d other)) (left (get_or xs j d) (known j d j_in) (subst (λ x. R x (get_or xs j d)) at was))))
      | inr i_other ↦ elim (cases_eq j k) [
        | inl same ↦
            (let at : get_or xs j d ≡ s = ap (λ n. get_or xs n d) same ∙ get_or_default xs k d s within ∙ sym is in
            subst (λ x. R x (get_or (set xs k s') j d)) (sym (get_or-set_other xs k i s' d i_other))
            (subst (R (get_or xs i d)) (sym (ap (λ n. get_or (set xs k s') n d) same ∙ get_or-set_same xs k s' d within)) (right (get_or xs i d) (known i d i_in) (subst (R (get_or xs i d)) at was))))
        | inr j_other ↦ subst (λ x. R x (get_or (set xs k s') j d)) (sym (get_or-set_other xs k i s' d i_other)) (subst (R (get_or xs i d)) (sym (get_or-set_other xs k j s' d j_other)) was)
      ]
    ]

-- more numbers may have been given
pub given_more : {B : Type 0} (n m sectors : ℕ) (s : Kept B) → n ≤ m → IsAttached n sectors s → IsAttached m sectors s
given_more n m sectors s le h = record {
  origin = h.origin;
  allowed = h.allowed;
  some = h.some;
  numbers = record { given = All-weaker (λ x. x ≤ n) (λ x. x ≤ m) (λ x below. omega (arith, below, le)) (numbers_in s) h.numbers.given; ascending = h.numbers.ascending };
}

-- one copy more waits
pub count_more : {B : Type 0} (s s' : Kept B) (n : ℕ) → numbers_in s' ≡ numbers_in s ++ n ∷ [] → s'.merging ≡ s.merging → count_in s' ≤ count_in s + 1
count_more s s' n numbers merging = omega (arith, ap length numbers, length-append (numbers_in s) (n ∷ []), ap merged_count merging)

module _ {B : Type 0} (contents : B → List ℕ) (layers : B → List Layer) (size : B → ℕ) (v : Volumed B) (k : ℕ) (s s' : Kept B) (within : k < length v.snaps) (is : s ≡ get_or v.snaps k s) where
  abbrev pub begun : Volumed B
  begun = record v { snaps = set v.snaps k s'; copies = v.copies + 1 }

  pub whole_begun : IsWhole contents layers size v → s'.number ≡ s.number → s'.state.chunk ≡ s.state.chunk → s'.state.origin ≡ s.state.origin → numbers_in s' ≡ numbers_in s ++ (v.copies + 1) ∷ [] → s'.merging ≡ s.merging → (IsCounted s → IsCounted s') → starts_left s' + 1 ≤ starts_left s → sum_by count_in v.snaps < 256
      → Holds (books_of contents layers size begun) → Waits (books_of contents layers size begun) → KeepsRoom (room_of contents layers s) (room_of contents layers s') → IsWhole contents layers size begun
  whole_begun h number chunk origin numbers merging counts fewer room holds waits keeps =
      let old : IsAttached v.copies (size v.origin) s = subst (IsAttached v.copies (size v.origin)) (sym is) (h.snaps k s within) in
      let more : v.copies ≤ v.copies + 1 = omega arith in
      let below : All (λ x. x ≤ v.copies + 1) (numbers_in s) = All-weaker (λ x. x ≤ v.copies) (λ x. x ≤ v.copies + 1) (λ x le. omega (arith, le)) (numbers_in s) old.numbers.given in
      let under : All (λ x. x < v.copies + 1) (numbers_in s) = All-weaker (λ x. x ≤ v.copies) (λ x. x < v.copies + 1) (λ x le. omega (arith, le)) (numbers_in s) old.numbers.given in
      let mine : IsAttached (v.copies + 1) (size v.origin) s' = record {
        origin = origin ∙ old.origin;
        allowed = ap is_chunk chunk ∙ old.allowed;
        some = subst (λ n. 0 < n) (sym chunk) old.some;
        numbers = subst (AreNumbers (v.copies + 1)) (sym numbers) (record {
          given = All-push (λ x. x ≤ v.copies + 1) (numbers_in s) (v.copies + 1) below (omega arith);
          ascending = all_pairs_push (λ m n. m < n) (numbers_in s) (v.copies + 1) old.numbers.ascending under;
        });
      } in
      let all : All (IsAttached (v.copies + 1) (size v.origin)) v.snaps =
      All-weaker (IsAttached v.copies (size v.origin)) (IsAttached (v.copies + 1) (size v.origin)) (λ x. given_more v.copies (v.copies + 1) (size v.origin) x more) v.snaps h.snaps in
      let sums = sum_by-set count_in v.snaps k s' s within in
      let lefts = sum_by-set starts_left v.snaps k s' s within in
      let left : starts_left (get_or v.snaps k s) ≡ starts_left s = ap starts_left (sym is) in
      let at : count_in (get_or v.snaps k s) ≡ count_in s = ap count_in (sym is) in
      let one : count_in s' ≤ count_in s + 1 = count_more s s' (v.copies + 1) numbers merging in
      record {
        holds = holds;
        waits = waits;
        merge = goes_changed contents layers size v begun v.merge k s s' within is refl refl refl number keeps h.merge;
        snaps = All-set (IsAttached (v.copies + 1) (size v.origin)) v.snaps k s' mine all;
        counted = All-set IsCounted v.snaps k s' (counts (subst IsCounted (sym is) (h.counted k s within))) h.counted;
        apart = all_pairs_set_in (IsAttached v.copies (size v.origin)) SharesNone v.snaps k s s' within is h.snaps
            (λ t known none. subst (All (λ m. All (λ n. m ≢ n) (numbers_in t))) (sym numbers)
            (All-push (λ m. All (λ n. m ≢ n) (numbers_in t)) (numbers_in s) (v.copies + 1) none
            (All-weaker (λ x. x ≤ v.copies) (λ n. v.copies + 1 ≢ n) (λ x le e. absurd (omega (arith, le, e))) (numbers_in t) known.numbers.given)))
            (λ t known none i d lt. subst (All (λ n. get_or (numbers_in t) i d ≢ n)) (sym numbers)
            (All-push (λ n. get_or (numbers_in t) i d ≢ n) (numbers_in s) (v.copies + 1) (none i d lt)
            (let le = known.numbers.given i d lt in λ e. absurd (omega (arith, le, e)))))
            h.apart;
        numbers = subst (AreNumbers v.attached) (sym (map-set_same number_of_snap v.snaps k s' s (number ∙ ap number_of_snap is))) h.numbers;
        requests = h.requests;
        few = omega (arith, h.few, length-set v.snaps k s');
        few_copies = omega (arith, sums, at, one, room);
        few_requests = h.few_requests;
        numbers_left = omega (arith, lefts, left, fewer, h.numbers_left);
      }

-- the numbers of a snapshot's copies, with one more
pub numbers_pushed : {B : Type 0} (s s' : Kept B) (p : ChunkCopy) → s'.marks ≡ s.marks → s'.copies ≡ s.copies ++ p ∷ [] → numbers_in s' ≡ numbers_in s ++ p.number ∷ []
numbers_pushed s s' p marks copies =
    ap (λ ms. map number_of_mark ms ++ map number_of_copy s'.copies) marks
    ∙ ap (λ cs. map number_of_mark s.marks ++ map number_of_copy cs) copies
    ∙ ap (λ ns. map number_of_mark s.marks ++ ns) (map_push number_of_copy s.copies p)
    ∙ sym (append_assoc (map number_of_mark s.marks) (map number_of_copy s.copies) (p.number ∷ []))

-- what it keeps back for a merge stays
pub room_begun : {B : Type 0} (contents : B → List ℕ) (layers : B → List Layer) (p : ChunkCopy) (s t : Kept B) → StartsAt contents layers p s t → KeepsRoom (room_of contents layers s) (room_of contents layers t)
room_begun contents layers p s t at = start_room p (room_of contents layers s) (room_of contents layers t) at.event (record {
  kept_back = ap (λ (x : Kept _). x.kept_back) at.fields;
  spare = ap (λ (x : Kept _). x.spare) at.fields;
  merging = ap (λ (x : Kept _). x.merging) at.fields;
})

-- one that is spoiled keeps nothing back
pub room_spoilt : {B : Type 0} (contents : B → List ℕ) (layers : B → List Layer) (s : Kept B) → s.live ≡ true → KeepsRoom (room_of contents layers s) (room_of contents layers (spoilt_of s))
room_spoilt contents layers s live = spoil_room (room_of contents layers s) (room_of contents layers (spoilt_of s)) (record { number = refl; was = live; live = refl; overflow = refl; chunk = refl; pairs = refl; sure = refl; copies = refl; marks = refl })
