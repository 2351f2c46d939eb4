-- Marks of sectors, and the lists of those that were written.
use Rattle.std.proofs.Common.{◌≡◌, ◌≢◌, ◌⊎◌, inl, inr, ℕ, ◌+◌, ◌<◌, ◌≤◌, List, [], ◌++◌, length, get_or, set, take, drop, replicate, refl, ap, ◌∙◌, sym, arith, true, false}
use Rattle.std.specs.List.{range_with_len}
use Rattle.std.proofs.Math.Seq.{take-append_seam}
use Rattle.std.proofs.lemmas.Bool.{cases_eq, cases_lt, true≢false}
use Rattle.std.proofs.lemmas.List.{get_or-set_same, get_or-set_other, get_or_default, get_or-replicate, get_or_past, length-replicate}
use Rattle.device.specs.declared.mark.Mark.{Mark}
use Rattle.device.specs.declared.mark.Mark.TheVariants.{Fresh, Same, Zero, Kept, Loaded}
use Rattle.device.specs.Listed.{place_in}
use Rattle.device.specs.Marks.{mark_at, is_settled, is_kept, put_mark, AreKept, AreZeroed}
use Rattle.device.proofs.Listed.{place_at, once_more, more_at, more_has, few, room_left}

-- the mark that is set, and the others
pub mark_set : (marks : List Mark) (s : ℕ) (m : Mark) → s < length marks → mark_at (set marks s m) s ≡ m
mark_set marks s m lt = get_or-set_same marks s m Same lt

pub mark_other : (marks : List Mark) (s t : ℕ) (m : Mark) → t ≢ s → mark_at (set marks s m) t ≡ mark_at marks t
mark_other marks s t m ne = get_or-set_other marks s t m Same ne

-- one more of some that are set in order
pub set_more : (marks : List Mark) (first s : ℕ) (m : Mark) → s < length marks → ((t : ℕ) → first ≤ t → t < s → mark_at marks t ≡ m) → (t : ℕ) → first ≤ t → t < s + 1 → mark_at (set marks s m) t ≡ m
set_more marks first s m lt before t lo hi = elim (cases_eq t s) [
  | inl e ↦ ap (mark_at (set marks s m)) e ∙ mark_set marks s m lt
  | inr ne ↦ mark_other marks s t m ne ∙ before t lo (omega arith)
]

pub others_more : (old marks : List Mark) (first s : ℕ) (m : Mark) → first ≤ s → ((t : ℕ) → (t < first) ⊎ (s ≤ t) → mark_at marks t ≡ mark_at old t) → (t : ℕ) → (t < first) ⊎ (s + 1 ≤ t) → mark_at (set marks s m) t ≡ mark_at old t
others_more old marks first s m from before t (inl lo) = let ne : t ≢ s = omega arith in mark_other marks s t m ne ∙ before t (inl lo)
others_more old marks first s m from before t (inr hi) = let ne : t ≢ s = omega arith in mark_other marks s t m ne ∙ before t (inr (omega arith))

-- a sector is among some that follow one another, or beside them
pub where_is : (a n t : ℕ) → ((a ≤ t) × (t < a + n)) ⊎ ((t < a) ⊎ (a + n ≤ t))
where_is a n t = elim (cases_lt t a) [
  | inl low ↦ inr (inl low)
  | inr from ↦ elim (cases_lt t (a + n)) [ inl below ↦ inl (from, below) | inr high ↦ inr (inr high) ]
]

-- a mark that was read
pub mark_is : (marks : List Mark) (s : ℕ) (r m : Mark) → s < length marks → r ≡ get_or marks s r → r ≡ m → mark_at marks s ≡ m
mark_is marks s r m lt at is = get_or_default marks s Same r lt ∙ sym at ∙ is

-- a sector that is not marked so is not listed
pub not_kept : (marks : List Mark) (kept : List ℕ) (t : ℕ) → AreKept marks kept → is_kept (mark_at marks t) ≡ false → length kept ≤ place_in kept t
not_kept marks kept t are none = elim (cases_lt (place_in kept t) (length kept)) [
  | inl lt ↦ absurd (true≢false (sym (are.marked (place_in kept t) lt) ∙ ap (λ s. is_kept (mark_at marks s)) (place_at kept t lt) ∙ none))
  | inr ge ↦ ge
]

pub not_zeroed : (marks : List Mark) (zeroed : List ℕ) (t : ℕ) → AreZeroed marks zeroed → mark_at marks t ≡ Fresh → length zeroed ≤ place_in zeroed t
not_zeroed marks zeroed t are is = elim (cases_lt (place_in zeroed t) (length zeroed)) [
  | inl lt ↦ absurd (are.marked (place_in zeroed t) lt (ap (mark_at marks) (place_at zeroed t lt) ∙ is))
  | inr ge ↦ ge
]

-- all that is listed is there
pub kept_inside : (marks : List Mark) (kept : List ℕ) → AreKept marks kept → (j : ℕ) → j < length kept → get_or kept j 0 < length marks
kept_inside marks kept are j lt = elim (cases_lt (get_or kept j 0) (length marks)) [
  | inl there ↦ there
  | inr past ↦ absurd (true≢false (sym (are.marked j lt) ∙ ap is_kept (get_or_past marks (get_or kept j 0) Same past)))
]

-- there is room for more
pub kept_room : (marks : List Mark) (kept : List ℕ) (a n : ℕ) → AreKept marks kept → a + n ≤ length marks → ((t : ℕ) → a ≤ t → t < a + n → mark_at marks t ≡ Same) → length kept + n ≤ length marks
kept_room marks kept a n are fits same = room_left kept a n (length marks) are.once (kept_inside marks kept are) fits (λ t lo hi. not_kept marks kept t are (ap is_kept (same t lo hi)))

pub zeroed_room : (marks : List Mark) (zeroed : List ℕ) (a n : ℕ) → AreZeroed marks zeroed → a + n ≤ length marks → ((t : ℕ) → a ≤ t → t < a + n → mark_at marks t ≡ Fresh) → length zeroed + n ≤ length marks
zeroed_room marks zeroed a n are fits fresh = room_left zeroed a n (length marks) are.once are.inside fits (λ t lo hi. not_zeroed marks zeroed t are (fresh t lo hi))

-- marks that change beside the list
pub kept_same : (marks marks' : List Mark) (kept : List ℕ) (a n : ℕ) → ((t : ℕ) → a ≤ t → t < a + n → is_kept (mark_at marks' t) ≡ is_kept (mark_at marks t)) → ((t : ℕ) → (t < a) ⊎ (a + n ≤ t) → mark_at marks' t ≡ mark_at marks t) → AreKept marks kept → AreKept marks' kept
kept_same marks marks' kept a n own others are = record {
  all = λ s is. are.all s (sym (still s) ∙ is);
  marked = λ j lt. still (get_or kept j 0) ∙ are.marked j lt;
  once = are.once;
}
  where
    still : (t : ℕ) → is_kept (mark_at marks' t) ≡ is_kept (mark_at marks t)
    still t = elim (where_is a n t) [ inl near ↦ own t near.0 near.1 | inr out ↦ ap is_kept (others t out) ]

pub zeroed_same : (marks marks' : List Mark) (zeroed : List ℕ) → length marks' ≡ length marks → ((t : ℕ) → mark_at marks' t ≡ Zero → mark_at marks t ≡ Zero) → ((t : ℕ) → mark_at marks' t ≡ Fresh → mark_at marks t ≡ Fresh) → AreZeroed marks zeroed → AreZeroed marks' zeroed
zeroed_same marks marks' zeroed len zero fresh are = record {
  all = λ s is. are.all s (zero s is);
  inside = λ j lt. omega (arith, len, are.inside j lt);
  marked = λ j lt is. are.marked j lt (fresh (get_or zeroed j 0) is);
  once = are.once;
}

-- sectors that are listed and marked
pub kept_more : (marks marks' : List Mark) (kept : List ℕ) (a n : ℕ) → AreKept marks kept → ((t : ℕ) → a ≤ t → t < a + n → mark_at marks t ≡ Same) → ((t : ℕ) → a ≤ t → t < a + n → mark_at marks' t ≡ Kept) → ((t : ℕ) → (t < a) ⊎ (a + n ≤ t) → mark_at marks' t ≡ mark_at marks t) → AreKept marks' (kept ++ range_with_len a n)
kept_more marks marks' kept a n are same new others = record {
  all = λ s is. elim (where_is a n s) [
    | inl near ↦ more_has kept a n s (inr near)
    | inr out ↦ more_has kept a n s (inl (are.all s (sym (ap is_kept (others s out)) ∙ is)))
  ];
  marked = more_at kept a n (λ t. is_kept (mark_at marks' t) ≡ true) (λ j lt. elim (where_is a n (get_or kept j 0)) [
    | inl near ↦ ap is_kept (new (get_or kept j 0) near.0 near.1)
    | inr out ↦ ap is_kept (others (get_or kept j 0) out) ∙ are.marked j lt
  ]) (λ t lo hi. ap is_kept (new t lo hi));
  once = once_more kept a n are.once (λ t lo hi. not_kept marks kept t are (ap is_kept (same t lo hi)));
}

pub zeroed_more : (marks marks' : List Mark) (zeroed : List ℕ) (a n : ℕ) → length marks' ≡ length marks → a + n ≤ length marks → AreZeroed marks zeroed → ((t : ℕ) → a ≤ t → t < a + n → mark_at marks t ≡ Fresh) → ((t : ℕ) → a ≤ t → t < a + n → mark_at marks' t ≡ Zero) → ((t : ℕ) → (t < a) ⊎ (a + n ≤ t) → mark_at marks' t ≡ mark_at marks t) → AreZeroed marks' (zeroed ++ range_with_len a n)
zeroed_more marks marks' zeroed a n len fits are fresh new others = record {
  all = λ s is. elim (where_is a n s) [
    | inl near ↦ more_has zeroed a n s (inr near)
    | inr out ↦ more_has zeroed a n s (inl (are.all s (sym (others s out) ∙ is)))
  ];
  inside = more_at zeroed a n (λ t. t < length marks') (λ j lt. omega (arith, len, are.inside j lt)) (λ t lo hi. omega (arith, len));
  marked = more_at zeroed a n (λ t. mark_at marks' t ≢ Fresh) (λ j lt. elim (where_is a n (get_or zeroed j 0)) [
    | inl near ↦ zero_not _ (new (get_or zeroed j 0) near.0 near.1)
    | inr out ↦ λ is. are.marked j lt (sym (others (get_or zeroed j 0) out) ∙ is)
  ]) (λ t lo hi. zero_not _ (new t lo hi));
  once = once_more zeroed a n are.once (λ t lo hi. not_zeroed marks zeroed t are (fresh t lo hi));
}
  where
    zero_not : (m : Mark) → m ≡ Zero → m ≢ Fresh
    zero_not m is not = let no : Zero ≡ Fresh = sym is ∙ not in cc

-- what a mark becomes
pub put_zero : (m : Mark) → put_mark m ≢ Zero
put_zero Fresh is = cc
put_zero Same is = cc
put_zero Zero is = cc
put_zero Kept is = cc
put_zero Loaded is = cc

pub put_fresh : (m : Mark) → put_mark m ≢ Fresh
put_fresh Fresh is = cc
put_fresh Same is = cc
put_fresh Zero is = cc
put_fresh Kept is = cc
put_fresh Loaded is = cc

pub put_kept : (m : Mark) → is_kept (put_mark m) ≡ is_kept m
put_kept Fresh = refl
put_kept Same = refl
put_kept Zero = refl
put_kept Kept = refl
put_kept Loaded = refl

pub put_settled : (m : Mark) → is_settled (put_mark m) ≡ true
put_settled Fresh = refl
put_settled Same = refl
put_settled Zero = refl
put_settled Kept = refl
put_settled Loaded = refl

pub put_lists : (marks marks' : List Mark) (zeroed kept : List ℕ) (a n : ℕ) → length marks' ≡ length marks → ((t : ℕ) → a ≤ t → t < a + n → mark_at marks' t ≡ put_mark (mark_at marks t)) → ((t : ℕ) → (t < a) ⊎ (a + n ≤ t) → mark_at marks' t ≡ mark_at marks t) → AreZeroed marks zeroed → AreKept marks kept → AreZeroed marks' zeroed × AreKept marks' kept
put_lists marks marks' zeroed kept a n len put others zeros keeps = (
  zeroed_same marks marks' zeroed len
      (λ t is. elim (where_is a n t) [ inl near ↦ absurd (put_zero _ (sym (put t near.0 near.1) ∙ is)) | inr out ↦ sym (others t out) ∙ is ])
      (λ t is. elim (where_is a n t) [ inl near ↦ absurd (put_fresh _ (sym (put t near.0 near.1) ∙ is)) | inr out ↦ sym (others t out) ∙ is ])
      zeros,
  kept_same marks marks' kept a n (λ t lo hi. ap is_kept (put t lo hi) ∙ put_kept (mark_at marks t)) others keeps,
)

-- where all are settled, the lists may be empty
pub none_zeroed : (marks : List Mark) → ((t : ℕ) → is_settled (mark_at marks t) ≡ true) → AreZeroed marks []
none_zeroed marks settled = record {
  all = λ s is. absurd (true≢false (sym (settled s) ∙ ap is_settled is));
  inside = λ j lt. absurd (omega arith);
  marked = λ j lt. absurd (omega arith);
  once = λ j lt. absurd (omega arith);
}

pub none_kept : (marks : List Mark) → ((t : ℕ) → is_kept (mark_at marks t) ≡ false) → AreKept marks []
none_kept marks none = record {
  all = λ s is. absurd (true≢false (sym is ∙ none s));
  marked = λ j lt. absurd (omega arith);
  once = λ j lt. absurd (omega arith);
}

-- once all listed sectors are settled, no mark is left but these
same_or_fresh : (marks marks' marks'' : List Mark) (zeroed kept : List ℕ) → AreZeroed marks zeroed → AreKept marks kept → ((t : ℕ) → place_in zeroed t < length zeroed → mark_at marks' t ≡ Same) → ((t : ℕ) → (mark_at marks' t ≡ Same) ⊎ (mark_at marks' t ≡ mark_at marks t)) → ((t : ℕ) → place_in kept t < length kept → mark_at marks'' t ≡ Same) → ((t : ℕ) → (mark_at marks'' t ≡ Same) ⊎ (mark_at marks'' t ≡ mark_at marks' t)) → (t : ℕ) → (mark_at marks'' t ≡ Same) ⊎ (mark_at marks'' t ≡ Fresh)
same_or_fresh marks marks' marks'' zeroed kept zeros keeps one one' two two' t = of (mark_at marks t) refl
  where
    as_was : (m : Mark) → mark_at marks t ≡ m → (mark_at marks'' t ≡ Same) ⊎ (mark_at marks'' t ≡ m)
    as_was m is = elim (two' t) [
      | inl same ↦ inl same
      | inr as_one ↦ elim (one' t) [ inl same ↦ inl (as_one ∙ same) | inr was ↦ inr (as_one ∙ (was ∙ is)) ]
    ]

    of : (m : Mark) → mark_at marks t ≡ m → (mark_at marks'' t ≡ Same) ⊎ (mark_at marks'' t ≡ Fresh)
    of Fresh is = as_was Fresh is
    of Same is = elim (as_was Same is) [ inl same ↦ inl same | inr still ↦ inl still ]
    of Zero is = elim (two' t) [ inl same ↦ inl same | inr as_one ↦ inl (as_one ∙ one t (zeros.all t is)) ]
    of Kept is = inl (two t (keeps.all t (ap is_kept is)))
    of Loaded is = inl (two t (keeps.all t (ap is_kept is)))

pub all_are_settled : (marks marks' marks'' : List Mark) (zeroed kept : List ℕ) → AreZeroed marks zeroed → AreKept marks kept → ((t : ℕ) → place_in zeroed t < length zeroed → mark_at marks' t ≡ Same) → ((t : ℕ) → (mark_at marks' t ≡ Same) ⊎ (mark_at marks' t ≡ mark_at marks t)) → ((t : ℕ) → place_in kept t < length kept → mark_at marks'' t ≡ Same) → ((t : ℕ) → (mark_at marks'' t ≡ Same) ⊎ (mark_at marks'' t ≡ mark_at marks' t)) → (t : ℕ) → is_settled (mark_at marks'' t) ≡ true
all_are_settled marks marks' marks'' zeroed kept zeros keeps one one' two two' t = elim (same_or_fresh marks marks' marks'' zeroed kept zeros keeps one one' two two' t) [ inl same ↦ ap is_settled same | inr fresh ↦ ap is_settled fresh ]

pub none_are_kept : (marks marks' marks'' : List Mark) (zeroed kept : List ℕ) → AreZeroed marks zeroed → AreKept marks kept → ((t : ℕ) → place_in zeroed t < length zeroed → mark_at marks' t ≡ Same) → ((t : ℕ) → (mark_at marks' t ≡ Same) ⊎ (mark_at marks' t ≡ mark_at marks t)) → ((t : ℕ) → place_in kept t < length kept → mark_at marks'' t ≡ Same) → ((t : ℕ) → (mark_at marks'' t ≡ Same) ⊎ (mark_at marks'' t ≡ mark_at marks' t)) → (t : ℕ) → is_kept (mark_at marks'' t) ≡ false
none_are_kept marks marks' marks'' zeroed kept zeros keeps one one' two two' t = elim (same_or_fresh marks marks' marks'' zeroed kept zeros keeps one one' two two' t) [ inl same ↦ ap is_kept same | inr fresh ↦ ap is_kept fresh ]

-- none becomes fresh
pub fresh_before : (marks marks' marks'' : List Mark) → ((t : ℕ) → (mark_at marks' t ≡ Same) ⊎ (mark_at marks' t ≡ mark_at marks t)) → ((t : ℕ) → (mark_at marks'' t ≡ Same) ⊎ (mark_at marks'' t ≡ mark_at marks' t)) → (t : ℕ) → mark_at marks'' t ≡ Fresh → mark_at marks t ≡ Fresh
fresh_before marks marks' marks'' one two t is = elim (two t) [
  | inl same ↦ absurd (let no : Same ≡ Fresh = sym same ∙ is in cc)
  | inr as_one ↦ elim (one t) [
    | inl same ↦ absurd (let no : Same ≡ Fresh = sym same ∙ (sym as_one ∙ is) in cc)
    | inr as_was ↦ sym as_was ∙ (sym as_one ∙ is)
  ]
]

pub fresh_settled : (n t : ℕ) → is_settled (mark_at (replicate n Fresh) t) ≡ true
fresh_settled n t = elim (cases_lt t n) [
  | inl lt ↦ ap is_settled (get_or-replicate n t Fresh Same lt)
  | inr past ↦ ap is_settled (get_or_past (replicate n Fresh) t Same (omega (arith, length-replicate n Fresh)))
]

pub fresh_unkept : (n t : ℕ) → is_kept (mark_at (replicate n Fresh) t) ≡ false
fresh_unkept n t = elim (cases_lt t n) [
  | inl lt ↦ ap is_kept (get_or-replicate n t Fresh Same lt)
  | inr past ↦ ap is_kept (get_or_past (replicate n Fresh) t Same (omega (arith, length-replicate n Fresh)))
]

-- no more sectors are kept aside than there are
pub kept_few : (marks : List Mark) (kept : List ℕ) → AreKept marks kept → length marks ≤ 16_777_216 → length kept ≤ 16_777_216
kept_few marks kept are small = omega (arith, few kept (length marks) are.once (kept_inside marks kept are), small)

-- a vector of marks after a write through its slice
pub marks_back : (n : ℕ) (x y : List Mark) → length x ≡ n → take n (x ++ drop (length x) y) ≡ x
marks_back n x y long = ap (λ k. take k (x ++ drop (length x) y)) (sym long) ∙ take-append_seam x (drop (length x) y)
