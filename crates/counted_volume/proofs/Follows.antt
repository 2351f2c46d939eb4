-- The event that follows one that was due first is due first then, or changes nothing.
use Rattle.std.proofs.Common.{◌≡◌, ◌⊎◌, inl, inr, ℕ, ◌+◌, ◌*◌, ◌/◌, Bool, true, false, List, [], ◌∷◌, ◌++◌, length, map, drop, Option, Some, None, refl, ap, ◌∙◌, sym, subst, eqb-true}
use Rattle.std.specs.Prelude.{◌==◌, ◌&&◌, ◌||◌, not, take, if◌then◌else◌}
use Rattle.std.specs.List.{list_any, prefix_len}
use Rattle.std.proofs.lemmas.Bool.{cases_Bool, cond-true, cond-false, true≢false}
use Rattle.device.specs.declared.operation.Operation.{Operation}
use Rattle.device.specs.declared.operation.Operation.TheVariants.{Reads, Writes}
use Rattle.plain_machine.specs.declared.event.Event.{Event}
use Rattle.plain_machine.specs.declared.event.Event.TheVariants.{CopyRead, CopyWrite, WriteArea, FlushStore}
use Rattle.in_flight.specs.declared.copies.Stage.{Stage}
use Rattle.in_flight.specs.declared.copies.Stage.TheVariants.{Waiting, Read, Written, Flushed}
use Rattle.cow_format.specs.Places.{area_place}
use Rattle.in_flight.specs.Copies.{count_of}
use Rattle.in_flight.specs.Due.{first_by, least, is_stage}
use Rattle.sector.specs.Bytes.{sectors_at}
use Rattle.whole_commands.specs.Devices.{sectors_of, answers, met, written_by}
use Rattle.whole_commands.proofs.Each.{Each, each_weaker}
use Rattle.event_machine.specs.Held.{Copying, SnapHeld, Moving, number_of, with_store, spoiled}
use Rattle.event_machine.specs.Due.{batch_of, filled_of, can_mark, can_flush_store, can_commit, can_zero, is_at, is_ready, is_front_ready, is_front_unflushed, number_of_copying, copy_at, publishable_in, least_in, chosen, due}
use Rattle.event_machine.specs.Stepping.{for_some, first_that, with_first, put, spoil, store_write, read_copy, write_copy, pair_of, mark_of, all_paired, commit, flush_store, is_copy, stepped}
use Rattle.event_machine.proofs.Found.{IsSplit, split_at, none_that}
use Rattle.event_machine.proofs.Lists.{here_that, here_with, here_by, nowhere_by, nowhere_least, only_least}

-- what has no first element fails for each, and what has no least number has none of any
pub fails_by : {X : Type 0} (test : X → Bool) (number : X → ℕ) (xs : List X) → first_by test number xs ≡ None → Each (λ x. test x ≡ false) xs
fails_by test number [] none = tt
fails_by test number (x ∷ xs) none = elim (cases_Bool (test x)) [
  | inl pass ↦ (let e : Some (number x) ≡ None = sym (cond-true _ _ _ pass) ∙ none in absurd (cc))
  | inr fail ↦ (fail, fails_by test number xs (sym (cond-false _ _ _ fail) ∙ none))
]

least_none : (a b : Option ℕ) → least a b ≡ None → (a ≡ None) × (b ≡ None)
least_none None b e = (refl, e)
least_none (Some m) None e = absurd (cc)
least_none (Some m) (Some n) e = absurd (cc)

pub lacks_by : (f : SnapHeld → Option ℕ) (snaps : List SnapHeld) → least_in f snaps ≡ None → Each (λ h. f h ≡ None) snaps
lacks_by f [] none = tt
lacks_by f (h ∷ snaps) none = (let both = least_none (f h) (least_in f snaps) none in (both.0, lacks_by f snaps both.1))

-- of each element of two lists and one between them
pub each_done : {X : Type 0} (P : X → Type 0) (done rest : List X) (x : X) → Each P (done ++ x ∷ rest) → Each P done
each_done P [] rest x all = tt
each_done P (d ∷ done) rest x all = (all.0, each_done P done rest x all.1)

pub each_here : {X : Type 0} (P : X → Type 0) (done rest : List X) (x : X) → Each P (done ++ x ∷ rest) → P x
each_here P [] rest x all = all.0
each_here P (d ∷ done) rest x all = each_here P done rest x all.1

pub each_rest : {X : Type 0} (P : X → Type 0) (done rest : List X) (x : X) → Each P (done ++ x ∷ rest) → Each P rest
each_rest P [] rest x all = all.1
each_rest P (d ∷ done) rest x all = each_rest P done rest x all.1

pub each_join : {X : Type 0} (P : X → Type 0) (done rest : List X) (x : X) → Each P done → P x → Each P rest → Each P (done ++ x ∷ rest)
each_join P [] rest x a b c = (b, c)
each_join P (d ∷ done) rest x a b c = (a.0, each_join P done rest x a.1 b c)

pub and_no : (x y : Bool) → y ≡ false → (x && y) ≡ false
and_no true y e = e
and_no false y e = refl

pub and_left : (x y : Bool) → (x && y) ≡ true → x ≡ true
and_left true y e = refl
and_left false y e = absurd (true≢false (sym e))

pub and_right : (x y : Bool) → (x && y) ≡ true → y ≡ true
and_right true y e = e
and_right false y e = absurd (true≢false (sym e))

-- no mark is to be written, and no store to be flushed
pub record IsCalm (snaps : List SnapHeld) : Type 0 where
  pub marks : Each (λ h. can_mark h ≡ false) snaps
  pub flushes : Each (λ h. can_flush_store h ≡ false) snaps

abbrev pub Follows : Event → Moving → Type 0
Follows next m = (due m ≡ Some next) ⊎ (stepped next m ≡ m)

-- A flush of a store is first, or changes nothing, where all snapshots but one are calm, and no mark is to be written for that
-- one if its store is to be flushed.
module _ (s : ℕ) where
  abbrev pub flush_test : SnapHeld → Bool
  flush_test h = (h.snap.number == s) && can_flush_store h

  pub flush_nowhere : (m : Moving) → Each (λ h. flush_test h ≡ false) m.snaps → stepped (FlushStore s) m ≡ m
  flush_nowhere m none = ap (λ o. for_some o (λ h. flush_store flush_test h m) m) (none_that flush_test m.snaps none)

  pub flush_calm : (m : Moving) → IsCalm m.snaps → stepped (FlushStore s) m ≡ m
  flush_calm m calm = flush_nowhere m (each_weaker (λ (h : SnapHeld). can_flush_store h ≡ false) (λ h. flush_test h ≡ false) m.snaps (λ h e. and_no (h.snap.number == s) (can_flush_store h) e) calm.flushes)

  module _ (m : Moving) (done rest : List SnapHeld) (h : SnapHeld) (is : m.snaps ≡ done ++ h ∷ rest)
      (before : IsCalm done) (later : IsCalm rest) (own : (can_mark h ≡ false) ⊎ (can_flush_store h ≡ false)) where
    fails : (snaps : List SnapHeld) → IsCalm snaps → Each (λ d. flush_test d ≡ false) snaps
    fails snaps calm = each_weaker (λ (d : SnapHeld). can_flush_store d ≡ false) (λ d. flush_test d ≡ false) snaps (λ d e. and_no (d.snap.number == s) (can_flush_store d) e) calm.flushes

    first : (h.snap.number == s) ≡ true → can_flush_store h ≡ true → can_mark h ≡ false → due m ≡ Some (FlushStore s)
    first number waits unmarked =
        let no_mark : first_by can_mark number_of m.snaps ≡ None = ap (first_by can_mark number_of) is ∙ nowhere_by can_mark number_of done rest h before.marks unmarked later.marks in
        let flush : first_by can_flush_store number_of m.snaps ≡ Some h.snap.number = ap (first_by can_flush_store number_of) is ∙ here_by can_flush_store number_of done rest h before.flushes waits in
        let same : h.snap.number ≡ s = eqb-true h.snap.number s number in
        rw (no_mark, flush) (ap (λ (n : ℕ). Some (FlushStore n)) same)

    none : flush_test h ≡ false → stepped (FlushStore s) m ≡ m
    none fail = flush_nowhere m (subst (Each (λ d. flush_test d ≡ false)) (sym is) (each_join (λ d. flush_test d ≡ false) done rest h (fails done before) fail (fails rest later)))

    pub flush_follows : Follows (FlushStore s) m
    flush_follows = elim (cases_Bool (flush_test h)) [
      | inr fail ↦ inr (none fail)
      | inl pass ↦ elim own [
        | inl unmarked ↦ inl (first (and_left _ _ pass) (and_right _ _ pass) unmarked)
        | inr unflushed ↦ absurd (true≢false (sym (and_right _ _ pass) ∙ unflushed))
      ]
    ]

-- a spoiled snapshot's mark is to be written, or its store to be flushed
pub spoiled_own : (h : SnapHeld) → (can_mark (spoiled h) ≡ false) ⊎ (can_flush_store (spoiled h) ≡ false)
spoiled_own h = elim (cases_Bool h.marked) [
  | inl marked ↦ inl (ap not marked)
  | inr unmarked ↦ inr (rw unmarked refl)
]

-- An event of a snapshot whose store it writes: what is calm of the others stays so.
module _ (s : ℕ) (m : Moving) (calm : IsCalm m.snaps) where
  calm_done : (done rest : List SnapHeld) (h : SnapHeld) → m.snaps ≡ done ++ h ∷ rest → IsCalm done
  calm_done done rest h is = record {
    marks = each_done (λ (d : SnapHeld). can_mark d ≡ false) done rest h (subst (Each (λ d. can_mark d ≡ false)) is calm.marks);
    flushes = each_done (λ (d : SnapHeld). can_flush_store d ≡ false) done rest h (subst (Each (λ d. can_flush_store d ≡ false)) is calm.flushes);
  }

  calm_rest : (done rest : List SnapHeld) (h : SnapHeld) → m.snaps ≡ done ++ h ∷ rest → IsCalm rest
  calm_rest done rest h is = record {
    marks = each_rest (λ (d : SnapHeld). can_mark d ≡ false) done rest h (subst (Each (λ d. can_mark d ≡ false)) is calm.marks);
    flushes = each_rest (λ (d : SnapHeld). can_flush_store d ≡ false) done rest h (subst (Each (λ d. can_flush_store d ≡ false)) is calm.flushes);
  }

  calm_here : (done rest : List SnapHeld) (h : SnapHeld) → m.snaps ≡ done ++ h ∷ rest → can_mark h ≡ false
  calm_here done rest h is = each_here (λ (d : SnapHeld). can_mark d ≡ false) done rest h (subst (Each (λ d. can_mark d ≡ false)) is calm.marks)

  module _ (test : SnapHeld → Bool) (split : IsSplit test m.snaps) where
    put_is : (h : SnapHeld) → with_first test h m.snaps ≡ split.done ++ h ∷ split.rest
    put_is h = ap (with_first test h) split.is ∙ here_with test h split.done split.rest split.here split.before split.pass

    -- one that is spoiled
    spoil_follows : (h : SnapHeld) → Follows (FlushStore s) (spoil test h m)
    spoil_follows h =
        flush_follows s (spoil test h m) split.done split.rest (spoiled h) (put_is (spoiled h))
        (calm_done split.done split.rest split.here split.is) (calm_rest split.done split.rest split.here split.is) (spoiled_own h)

    -- one of which no mark is to be written
    put_follows : (h : SnapHeld) → can_mark h ≡ false → Follows (FlushStore s) (put test h m)
    put_follows h unmarked =
        flush_follows s (put test h m) split.done split.rest h (put_is h)
        (calm_done split.done split.rest split.here split.is) (calm_rest split.done split.rest split.here split.is) (inl unmarked)

    write_follows : (op : Operation) (bytes : List ℕ) (next : SnapHeld → SnapHeld) → ((w : SnapHeld) → can_mark (next w) ≡ can_mark w) → Follows (FlushStore s) (store_write test split.here op bytes next m)
    write_follows op bytes next same =
        let after : SnapHeld = with_store split.here (written_by split.here.snap.store op bytes) in
        elim (cases_Bool (answers split.here.snap.store op)) [
          | inl ok ↦ subst (Follows (FlushStore s)) (sym (cond-true _ _ _ ok)) (put_follows (next after) (same after ∙ calm_here split.done split.rest split.here split.is))
          | inr failed ↦ subst (Follows (FlushStore s)) (sym (cond-false _ _ _ failed)) (spoil_follows after)
        ]

-- after an area was written, or none could be
module _ (s : ℕ) (m : Moving) (calm : IsCalm m.snaps) where
  abbrev area_test : SnapHeld → Bool
  area_test h = (h.snap.number == s) && can_commit h

  abbrev area_act : SnapHeld → Moving
  area_act h = commit (batch_of h) area_test h m

  pub area_follows : Follows (FlushStore s) (stepped (WriteArea s) m)
  area_follows = elim (split_at area_test m.snaps) [
    | inl none ↦ subst (Follows (FlushStore s)) (sym (ap (λ o. for_some o area_act m) (none_that area_test m.snaps none))) (inr (flush_calm s m calm))
    | inr split ↦ subst (Follows (FlushStore s)) (sym (ap (λ o. for_some o area_act m) (ap (first_that area_test) split.is ∙ here_that area_test split.done split.rest split.here split.before split.pass)))
        (let h : SnapHeld = split.here in
        let k : ℕ = length h.pairs in
        let now : List Copying = take (batch_of h) h.copies in
        let room : Bool = not (filled_of h + batch_of h == 32 * h.snap.chunk) in
        write_follows s m calm area_test split (Writes (h.snap.chunk * area_place h.snap.chunk (k / (32 * h.snap.chunk))) h.snap.chunk) (all_paired h.snap.chunk h.snap.store.bytes k (map pair_of now))
        (λ after. record after { pairs = after.pairs ++ map pair_of now; copies = drop (batch_of h) after.copies; marks = after.marks ++ map mark_of now; zeroed = after.zeroed && room; firm = after.firm && room }) (λ w. refl))
  ]

-- what was not due, where this is chosen
area_calm : (s : ℕ) (a b c d e f g i : Option ℕ) → chosen a b c d e f g i ≡ Some (WriteArea s) → (a ≡ None) × (b ≡ None)
area_calm s (Some x) b c d e f g i is = absurd (cc)
area_calm s None (Some x) c d e f g i is = absurd (cc)
area_calm s None None c d e f g i is = (refl, refl)

due_calm : (m : Moving) → (first_by can_mark number_of m.snaps ≡ None) × (first_by can_flush_store number_of m.snaps ≡ None) → IsCalm m.snaps
due_calm m none = record { marks = fails_by can_mark number_of m.snaps none.0; flushes = fails_by can_flush_store number_of m.snaps none.1 }

pub flush_after_area : (s : ℕ) (m : Moving) → due m ≡ Some (WriteArea s) → Follows (FlushStore s) (stepped (WriteArea s) m)
flush_after_area s m is = area_follows s m (due_calm m (area_calm s _ _ _ _ _ _ _ _ is))

-- A copy that was read, in place of one that waits: neither is written, nor may it be committed.
module _ (before after : List Copying) (p q : Copying) where
  same_front : is_ready p ≡ is_ready q → is_front_ready (before ++ p ∷ after) ≡ is_front_ready (before ++ q ∷ after)
  same_front same = by before
    where
      by : (before : List Copying) → is_front_ready (before ++ p ∷ after) ≡ is_front_ready (before ++ q ∷ after)
      by [] = same
      by (b ∷ before) = refl

  same_unflushed : is_at Written p ≡ is_at Written q → is_front_unflushed (before ++ p ∷ after) ≡ is_front_unflushed (before ++ q ∷ after)
  same_unflushed same = by before
    where
      by : (before : List Copying) → is_front_unflushed (before ++ p ∷ after) ≡ is_front_unflushed (before ++ q ∷ after)
      by [] = same
      by (b ∷ before) = refl

  same_prefix : is_ready p ≡ is_ready q → prefix_len is_ready (before ++ p ∷ after) ≡ prefix_len is_ready (before ++ q ∷ after)
  same_prefix same = by before
    where
      by : (before : List Copying) → prefix_len is_ready (before ++ p ∷ after) ≡ prefix_len is_ready (before ++ q ∷ after)
      by [] = ap (λ t. if t then 1 + prefix_len is_ready after else 0) same
      by (b ∷ before) = ap (λ n. if is_ready b then 1 + n else 0) (by before)

waits_at : (stage : Stage) → is_stage Waiting stage ≡ true → stage ≡ Waiting
waits_at Waiting e = refl
waits_at Read e = absurd (true≢false (sym e))
waits_at Written e = absurd (true≢false (sym e))
waits_at Flushed e = absurd (true≢false (sym e))

-- a snapshot without a copy that was read has none of this number
module _ (n : ℕ) where
  abbrev pub has_read : SnapHeld → Bool
  has_read h = list_any (is_copy Read n) h.copies

  no_copy : (cs : List Copying) → Each (λ p. is_at Read p ≡ false) cs → list_any (is_copy Read n) cs ≡ false
  no_copy [] all = refl
  no_copy (p ∷ cs) all = ap (λ b. b || list_any (is_copy Read n) cs) (and_no (p.number == n) (is_at Read p) all.0) ∙ no_copy cs all.1

  not_read : (h : SnapHeld) → copy_at Read h ≡ None → has_read h ≡ false
  not_read h none = no_copy h.copies (fails_by (is_at Read) number_of_copying h.copies none)

  pub write_nowhere : (m : Moving) → Each (λ h. has_read h ≡ false) m.snaps → stepped (CopyWrite n) m ≡ m
  write_nowhere m none = ap (λ o. for_some o (λ h. for_some (first_that (is_copy Read n) h.copies) (λ p. write_copy has_read (is_copy Read n) h p m) m) m) (none_that has_read m.snaps none)

  pub unread : (snaps : List SnapHeld) → Each (λ h. copy_at Read h ≡ None) snaps → Each (λ h. has_read h ≡ false) snaps
  unread snaps all = each_weaker (λ (h : SnapHeld). copy_at Read h ≡ None) (λ h. has_read h ≡ false) snaps not_read all

-- what was not due where the read of a chunk is chosen
pub record IsReadChosen (a b c d e f : Option ℕ) : Type 0 where
  pub marks : a ≡ None
  pub flushes : b ≡ None
  pub publishes : c ≡ None
  pub commits : d ≡ None
  pub zeroes : e ≡ None
  pub reads : f ≡ None

pub read_chosen : (n : ℕ) (a b c d e f g i : Option ℕ) → chosen a b c d e f g i ≡ Some (CopyRead n) → IsReadChosen a b c d e f
read_chosen n (Some x) b c d e f g i is = absurd (cc)
read_chosen n None (Some x) c d e f g i is = absurd (cc)
read_chosen n None None (Some x) d e f g i is = absurd (cc)
read_chosen n None None None (Some x) e f g i is = absurd (cc)
read_chosen n None None None None (Some x) f g i is = absurd (cc)
read_chosen n None None None None None (Some x) g i is = absurd (cc)
read_chosen n None None None None None None g i is = record { marks = refl; flushes = refl; publishes = refl; commits = refl; zeroes = refl; reads = refl }

abbrev pub Chosen : Moving → Type 0
Chosen m = IsReadChosen (first_by can_mark number_of m.snaps) (first_by can_flush_store number_of m.snaps) (least_in (publishable_in m.requests) m.snaps) (first_by can_commit number_of m.snaps) (first_by can_zero number_of m.snaps) (least_in (copy_at Read) m.snaps)

module _ (n : ℕ) (m : Moving) (c : Chosen m) where
  pub all_unread : Each (λ h. copy_at Read h ≡ None) m.snaps
  all_unread = lacks_by (copy_at Read) m.snaps c.reads

  -- no copy waits under this number
  same_follows : Follows (CopyWrite n) m
  same_follows = inr (write_nowhere n m (unread n m.snaps all_unread))

  module _ (split : IsSplit (λ h. list_any (is_copy Waiting n) h.copies) m.snaps) (copy : IsSplit (is_copy Waiting n) split.here.copies) (bytes : List ℕ) (w : Moving) (same : w.requests ≡ m.requests) (alike : w.snaps ≡ m.snaps) where
    abbrev pub test : SnapHeld → Bool
    test h = list_any (is_copy Waiting n) h.copies

    abbrev pub read : Copying
    read = record copy.here { stage = Read; bytes = bytes }

    abbrev pub now : SnapHeld
    now = record split.here { copies = with_first (is_copy Waiting n) read split.here.copies }

    waiting : copy.here.stage ≡ Waiting
    waiting = waits_at copy.here.stage (and_right _ _ copy.pass)

    copies_now : with_first (is_copy Waiting n) read split.here.copies ≡ copy.done ++ read ∷ copy.rest
    copies_now = ap (with_first (is_copy Waiting n) read) copy.is ∙ here_with (is_copy Waiting n) read copy.done copy.rest copy.here copy.before copy.pass

    ready_same : is_ready read ≡ is_ready copy.here
    ready_same = sym (ap (is_stage Flushed) waiting)

    written_same : is_at Written read ≡ is_at Written copy.here
    written_same = sym (ap (is_stage Written) waiting)

    front_now : is_front_ready (with_first (is_copy Waiting n) read split.here.copies) ≡ is_front_ready split.here.copies
    front_now = ap is_front_ready copies_now ∙ same_front copy.done copy.rest read copy.here ready_same ∙ sym (ap is_front_ready copy.is)

    unflushed_now : is_front_unflushed (with_first (is_copy Waiting n) read split.here.copies) ≡ is_front_unflushed split.here.copies
    unflushed_now = ap is_front_unflushed copies_now ∙ same_unflushed copy.done copy.rest read copy.here written_same ∙ sym (ap is_front_unflushed copy.is)

    prefix_now : prefix_len is_ready (with_first (is_copy Waiting n) read split.here.copies) ≡ prefix_len is_ready split.here.copies
    prefix_now = ap (prefix_len is_ready) copies_now ∙ same_prefix copy.done copy.rest read copy.here ready_same ∙ sym (ap (prefix_len is_ready) copy.is)

    pub snaps_now : with_first test now w.snaps ≡ split.done ++ now ∷ split.rest
    snaps_now = ap (with_first test now) (alike ∙ split.is) ∙ here_with test now split.done split.rest split.here split.before split.pass

    nowhere_now : (t : SnapHeld → Bool) → first_by t number_of m.snaps ≡ None → t now ≡ t split.here → first_by t number_of (with_first test now w.snaps) ≡ None
    nowhere_now t none alike_here =
        let all : Each (λ d. t d ≡ false) (split.done ++ split.here ∷ split.rest) = subst (Each (λ d. t d ≡ false)) split.is (fails_by t number_of m.snaps none) in
        ap (first_by t number_of) snaps_now ∙ nowhere_by t number_of split.done split.rest now
        (each_done (λ d. t d ≡ false) split.done split.rest split.here all) (alike_here ∙ each_here (λ d. t d ≡ false) split.done split.rest split.here all) (each_rest (λ d. t d ≡ false) split.done split.rest split.here all)

    none_now : (f : SnapHeld → Option ℕ) → least_in f m.snaps ≡ None → f now ≡ f split.here → least_in f (with_first test now w.snaps) ≡ None
    none_now f none alike_here =
        let all : Each (λ d. f d ≡ None) (split.done ++ split.here ∷ split.rest) = subst (Each (λ d. f d ≡ None)) split.is (lacks_by f m.snaps none) in
        ap (least_in f) snaps_now ∙ nowhere_least f split.done split.rest now
        (each_done (λ d. f d ≡ None) split.done split.rest split.here all) (alike_here ∙ each_here (λ d. f d ≡ None) split.done split.rest split.here all) (each_rest (λ d. f d ≡ None) split.done split.rest split.here all)

    unread_all : Each (λ d. copy_at Read d ≡ None) (split.done ++ split.here ∷ split.rest)
    unread_all = subst (Each (λ d. copy_at Read d ≡ None)) split.is all_unread

    read_here : copy_at Read now ≡ Some n
    read_here =
        let none : copy_at Read split.here ≡ None = each_here (λ d. copy_at Read d ≡ None) split.done split.rest split.here unread_all in
        let fails : Each (λ p. is_at Read p ≡ false) (copy.done ++ copy.here ∷ copy.rest) = subst (Each (λ p. is_at Read p ≡ false)) copy.is (fails_by (is_at Read) number_of_copying split.here.copies none) in
        ap (first_by (is_at Read) number_of_copying) copies_now
        ∙ here_by (is_at Read) number_of_copying copy.done copy.rest read (each_done (λ p. is_at Read p ≡ false) copy.done copy.rest copy.here fails) refl
        ∙ ap Some (eqb-true copy.here.number n (and_left _ _ copy.pass))

    least_now : least_in (copy_at Read) (with_first test now w.snaps) ≡ Some n
    least_now =
        ap (least_in (copy_at Read)) snaps_now ∙ only_least (copy_at Read) n split.done split.rest now
        (each_done (λ d. copy_at Read d ≡ None) split.done split.rest split.here unread_all) read_here (each_rest (λ d. copy_at Read d ≡ None) split.done split.rest split.here unread_all)

    pub publish_now : least_in (publishable_in w.requests) (with_first test now w.snaps) ≡ None
    publish_now = ap (λ rs. least_in (publishable_in rs) (with_first test now w.snaps)) same ∙ none_now (publishable_in m.requests) c.publishes refl

    write_first : due (put test now w) ≡ Some (CopyWrite n)
    write_first =
        rw (
          nowhere_now can_mark c.marks refl,
          nowhere_now can_flush_store c.flushes (rw (front_now, unflushed_now, prefix_now) refl),
          publish_now,
          nowhere_now can_commit c.commits (rw (front_now, prefix_now) refl),
          nowhere_now can_zero c.zeroes (rw (front_now, prefix_now) refl),
          least_now,
        ) refl

    -- where the chunk was not read, nothing of that number is left
    spoilt_follows : Follows (CopyWrite n) (spoil test split.here w)
    spoilt_follows =
        let is : with_first test (spoiled split.here) w.snaps ≡ split.done ++ spoiled split.here ∷ split.rest = ap (with_first test (spoiled split.here)) (alike ∙ split.is) ∙ here_with test (spoiled split.here) split.done split.rest split.here split.before split.pass in
        inr (write_nowhere n (spoil test split.here w) (subst (Each (λ d. has_read n d ≡ false)) (sym is)
        (each_join (λ d. has_read n d ≡ false) split.done split.rest (spoiled split.here) (unread n split.done (each_done (λ d. copy_at Read d ≡ None) split.done split.rest split.here unread_all)) refl
        (unread n split.rest (each_rest (λ d. copy_at Read d ≡ None) split.done split.rest split.here unread_all)))))

  copy_follows : (split : IsSplit (λ h. list_any (is_copy Waiting n) h.copies) m.snaps) → Follows (CopyWrite n) (for_some (first_that (is_copy Waiting n) split.here.copies) (λ p. read_copy (λ h. list_any (is_copy Waiting n) h.copies) (is_copy Waiting n) split.here p m) m)
  copy_follows split =
      let act : Copying → Moving = λ p. read_copy (λ h. list_any (is_copy Waiting n) h.copies) (is_copy Waiting n) split.here p m in
      elim (split_at (is_copy Waiting n) split.here.copies) [
        | inl none ↦ subst (Follows (CopyWrite n)) (sym (ap (λ o. for_some o act m) (none_that (is_copy Waiting n) split.here.copies none))) same_follows
        | inr copy ↦ subst (Follows (CopyWrite n)) (sym (ap (λ o. for_some o act m) (ap (first_that (is_copy Waiting n)) copy.is ∙ here_that (is_copy Waiting n) copy.done copy.rest copy.here copy.before copy.pass)))
            (let first : ℕ = split.here.snap.chunk * copy.here.pair.old in
            let count : ℕ = count_of split.here.snap.chunk (sectors_of m.origin) copy.here.pair.old in
            let w : Moving = record m { origin = met m.origin (Reads first count) } in
            elim (cases_Bool (answers m.origin (Reads first count))) [
              | inl ok ↦ subst (Follows (CopyWrite n)) (sym (cond-true _ _ _ ok)) (inl (write_first split copy (sectors_at m.origin.bytes first count) w refl refl))
              | inr failed ↦ subst (Follows (CopyWrite n)) (sym (cond-false _ _ _ failed)) (spoilt_follows split copy [] w refl refl)
            ])
      ]

  read_follows : Follows (CopyWrite n) (stepped (CopyRead n) m)
  read_follows =
      let test : SnapHeld → Bool = λ h. list_any (is_copy Waiting n) h.copies in
      let act : SnapHeld → Moving = λ h. for_some (first_that (is_copy Waiting n) h.copies) (λ p. read_copy test (is_copy Waiting n) h p m) m in
      elim (split_at test m.snaps) [
        | inl none ↦ subst (Follows (CopyWrite n)) (sym (ap (λ o. for_some o act m) (none_that test m.snaps none))) same_follows
        | inr split ↦ subst (Follows (CopyWrite n)) (sym (ap (λ o. for_some o act m) (ap (first_that test) split.is ∙ here_that test split.done split.rest split.here split.before split.pass))) (copy_follows split)
      ]

pub write_after_read : (n : ℕ) (m : Moving) → due m ≡ Some (CopyRead n) → Follows (CopyWrite n) (stepped (CopyRead n) m)
write_after_read n m is = read_follows n m (read_chosen n _ _ _ _ _ _ _ _ is)
