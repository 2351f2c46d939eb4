-- A merge starts the copies that it waits for next: but for the room that they take, they are those of a request.
use Rattle.std.proofs.Common.{◌≡◌, inl, inr, ℕ, ◌+◌, ◌≤◌, Bool, true, false, List, [], ◌∷◌, length, map, Option, refl, sym, ◌∙◌, ap, subst, arith, nat_eq, if◌then◌else◌}
use Rattle.std.specs.Prelude.{◌&&◌, ◌-◌, not, filter, sum_by}
use Rattle.std.specs.List.{All, list_any}
use Rattle.std.specs.Option.{is_some}
use Rattle.std.proofs.lemmas.Bool.{cases_Bool, true≢false, MatchBool-at_true, MatchBool-at_false}
use Rattle.std.proofs.lemmas.List.Elements.{All-head, All-tail}
use Rattle.std.proofs.lemmas.List.Sums.{sum_by-cons}
use Rattle.sector.specs.declared.pair.Pair.{Pair}
use Rattle.device.specs.Layers.{Layer}
use Rattle.cow_format.specs.Picture.{place_of}
use Rattle.in_flight.specs.declared.copies.ChunkCopy.{ChunkCopy}
use Rattle.in_flight.specs.declared.flights.Flight.{Flight}
use Rattle.volume_laws.specs.Due.{DueSnap}
use Rattle.volume_laws.specs.Touched.{lacks_chunk as lacks_in}
use Rattle.volume_laws.specs.Steps.{SpoilsSnap, StartsCopy}
use Rattle.volume_laws.proofs.MergeBeside.{weigh}
use Rattle.event_machine.specs.Held.{SnapHeld}
use Rattle.snapshot.specs.Kept.{Kept, books_of as snap_books, due_of_kept}
use Rattle.snapshot.specs.Calls.{StartsAt, StartsMerging, started}
use Rattle.snapshot_list.specs.Numbers.{number_of_snap}
use Rattle.snapshot_list.specs.Starting.{lacks_chunk, is_full_of, starts_chunk, overflows_chunk, spoilt_of, IsSavedIn, AreSavedIn}
use Rattle.snapshot_list.specs.MergeStarting.{IsNextSavedIn, AreNextSavedIn}
use Rattle.snapshot_list.proofs.NextStarts.{saved_step, saved_given}
use Rattle.volume.specs.Moved.{held_of}

-- the numbers of the snapshots that are found full, where a chunk of each is wanted
abbrev pub losing : {B : Type 0} → (Kept B → ℕ) → List (Kept B) → List ℕ
losing at snaps = map number_of_snap (filter (λ s. overflows_chunk (at s) s) snaps)

pub losing_full : {B : Type 0} (at : Kept B → ℕ) (s : Kept B) (ss : List (Kept B)) → overflows_chunk (at s) s ≡ true → losing at (s ∷ ss) ≡ s.number ∷ losing at ss
losing_full at s ss full = rw full refl

pub losing_fine : {B : Type 0} (at : Kept B → ℕ) (s : Kept B) (ss : List (Kept B)) → overflows_chunk (at s) s ≡ false → losing at (s ∷ ss) ≡ losing at ss
losing_fine at s ss fine = rw fine refl

-- a snapshot that has the room which a request's copy would leave it
abbrev pub roomed : {B : Type 0} → Kept B → Kept B → Kept B
roomed s t = record t { room = s.room - 1; kept_back = s.kept_back; spare = s.spare; merging = s.merging }

pub and_first : (a b : Bool) → (a && b) ≡ true → a ≡ true
and_first true b e = refl
and_first false b e = e

-- one that starts a copy is not full
pub not_both : (a b : Bool) → (a && not b) ≡ true → (a && b) ≡ false
not_both true true e = sym e
not_both true false e = refl
not_both false b e = refl

and_then : (a b c : Bool) → ((a && b) && c) ≡ true → (b && c) ≡ true
and_then true b c e = e
and_then false b c e = absurd (true≢false (sym e))

-- a snapshot that lacks a chunk is live, and has it neither placed nor copied
pub lacking_live : {B : Type 0} (c : ℕ) (s : Kept B) → lacks_chunk c s ≡ true → s.live ≡ true
lacking_live c s e = and_first s.live (not (is_some (place_of s.pairs c))) (and_first (s.live && not (is_some (place_of s.pairs c))) (not (list_any (λ p. nat_eq p.pair.old c) s.copies)) e)

module _ {B : Type 0} (contents : B → List ℕ) (layers : B → List Layer) where
  pub lacking_books : (c : ℕ) (s : Kept B) → lacks_chunk c s ≡ true → lacks_in c (snap_books contents layers s) ≡ true
  lacking_books c s e = and_then s.live (not (is_some (place_of s.pairs c))) (not (list_any (λ p. nat_eq p.pair.old c) s.copies)) e

  pub as_started : (p : ChunkCopy) (s t : Kept B) → StartsMerging contents layers p s t → StartsAt contents layers p s (roomed s t)
  as_started p s t begun = record { fields = ap (λ (x : Kept B). roomed s x) begun.fields; event = begun.event }

  module _ (at : Kept B → ℕ) where
    abbrev held : Kept B → SnapHeld
    held = held_of contents layers

    abbrev due : Kept B → DueSnap
    due = due_of_kept contents layers

    -- u is t but for the room, and started its copy for a request
    pub record IsSeenAs (s t u : Kept B) (n m : ℕ) (fs gs : List Flight) : Type 0 where
      pub saved : IsSavedIn contents layers (at s) s u n m fs gs
      pub held : held_of contents layers u ≡ held_of contents layers t
      pub live : u.live ≡ t.live

    one_as_saved : (s t : Kept B) (n m : ℕ) (fs gs : List Flight) → IsNextSavedIn contents layers (at s) s t n m fs gs → (u : Kept B) × IsSeenAs s t u n m fs gs
    one_as_saved s t n m fs gs e = elim (cases_Bool (starts_chunk (at s) s)) [
      | inl begins ↦
          (let (buffer, begun, m_is, g) = MatchBool-at_true _ _ begins e in
          (roomed s t, record { saved = rw begins (buffer, as_started (started (n + 1) (at s) s.next buffer) s t begun, m_is, g); held = refl; live = refl }))
      | inr unsaid ↦ (t, record { saved = rw unsaid (MatchBool-at_false _ _ unsaid e); held = refl; live = refl })
    ]

    -- of all snapshots
    pub record AreSeenAs (ss ts us : List (Kept B)) (n m : ℕ) (fs gs : List Flight) : Type 0 where
      pub saved : AreSavedIn contents layers at ss us n m fs gs
      pub held : map (held_of contents layers) us ≡ map (held_of contents layers) ts
      pub live : map (λ (x : Kept B). x.live) us ≡ map (λ (x : Kept B). x.live) ts

    pub as_saved : (ss ts : List (Kept B)) (n m : ℕ) (fs gs : List Flight) → AreNextSavedIn contents layers at ss ts n m fs gs → (us : List (Kept B)) × AreSeenAs ss ts us n m fs gs
    as_saved [] [] n m fs gs e = ([], record { saved = e; held = refl; live = refl })
    as_saved [] (t ∷ ts) n m fs gs e = absurd e
    as_saved (s ∷ ss) [] n m fs gs e = absurd e
    as_saved (s ∷ ss) (t ∷ ts) n m fs gs (k, hs, one, rest) =
        let (u, a) = one_as_saved s t n k fs hs one in
        let (us, b) = as_saved ss ts k m hs gs rest in (
          u ∷ us,
          record {
            saved = (k, hs, a.saved, b.saved);
            held = ap (λ (x : SnapHeld). x ∷ map (held_of contents layers) us) a.held ∙ ap (λ (xs : List SnapHeld). held_of contents layers t ∷ xs) b.held;
            live = ap (λ (x : Bool). x ∷ map (λ (y : Kept B). y.live) us) a.live ∙ ap (λ (xs : List Bool). t.live ∷ xs) b.live;
          },
        )

    -- a snapshot is live afterwards where it was and is not found full
    one_lives : (s t : Kept B) (n m : ℕ) (fs gs : List Flight) → IsNextSavedIn contents layers (at s) s t n m fs gs → t.live ≡ (if overflows_chunk (at s) s then false else s.live)
    one_lives s t n m fs gs e = elim (cases_Bool (starts_chunk (at s) s)) [
      | inl begins ↦ (let (buffer, begun, m_is, g) = MatchBool-at_true _ _ begins e in rw (not_both (lacks_chunk (at s) s) (is_full_of s) begins) (ap (λ (x : Kept B). x.live) begun.fields))
      | inr unsaid ↦ elim (cases_Bool (overflows_chunk (at s) s)) [
        | inl over ↦ (let (same, m_is, g) = MatchBool-at_true _ _ over (MatchBool-at_false _ _ unsaid e) in rw over (ap (λ (x : Kept B). x.live) same))
        | inr fine ↦ (let (same, m_is, g) = MatchBool-at_false _ _ fine (MatchBool-at_false _ _ unsaid e) in rw fine (ap (λ (x : Kept B). x.live) same))
      ]
    ]

    pub next_lives : (ss ts : List (Kept B)) (n m : ℕ) (fs gs : List Flight) → AreNextSavedIn contents layers at ss ts n m fs gs → map (λ s. s.live) ts ≡ map (λ s. if overflows_chunk (at s) s then false else s.live) ss
    next_lives [] [] n m fs gs e = refl
    next_lives [] (t ∷ ts) n m fs gs e = absurd e
    next_lives (s ∷ ss) [] n m fs gs e = absurd e
    next_lives (s ∷ ss) (t ∷ ts) n m fs gs (k, hs, one, rest) = ap (λ b. b ∷ map (λ (x : Kept B). x.live) ts) (one_lives s t n k fs hs one)
        ∙ ap (λ bs. (if overflows_chunk (at s) s then false else s.live) ∷ bs) (next_lives ss ts k m hs gs rest)

    -- what neither a start nor a spoil changes
    module _ {X : Type 0} (f : Kept B → X)
        (start : (s : Kept B) (next : ℕ) (begun : List Pair) (copies : List ChunkCopy) (kept : ℕ) (spare : Bool) (merging : Option ℕ) → f (record s { next = next; begun = begun; copies = copies; kept_back = kept; spare = spare; merging = merging }) ≡ f s)
        (spoil : (s : Kept B) → f (spoilt_of s) ≡ f s) where
      one_same : (s t : Kept B) (n m : ℕ) (fs gs : List Flight) → IsNextSavedIn contents layers (at s) s t n m fs gs → f t ≡ f s
      one_same s t n m fs gs e = elim (cases_Bool (starts_chunk (at s) s)) [
        | inl begins ↦ (let (buffer, begun, m_is, g) = MatchBool-at_true _ _ begins e in ap f begun.fields ∙ start s _ _ _ _ _ _)
        | inr unsaid ↦ elim (cases_Bool (overflows_chunk (at s) s)) [
          | inl over ↦ (let (same, m_is, g) = MatchBool-at_true _ _ over (MatchBool-at_false _ _ unsaid e) in ap f same ∙ spoil s)
          | inr fine ↦ (let (same, m_is, g) = MatchBool-at_false _ _ fine (MatchBool-at_false _ _ unsaid e) in ap f same)
        ]
      ]

      pub next_same : (ss ts : List (Kept B)) (n m : ℕ) (fs gs : List Flight) → AreNextSavedIn contents layers at ss ts n m fs gs → map f ts ≡ map f ss
      next_same [] [] n m fs gs e = refl
      next_same [] (t ∷ ts) n m fs gs e = absurd e
      next_same (s ∷ ss) [] n m fs gs e = absurd e
      next_same (s ∷ ss) (t ∷ ts) n m fs gs (k, hs, one, rest) = ap (λ (x : X). x ∷ map f ts) (one_same s t n k fs hs one) ∙ ap (λ (xs : List X). f s ∷ xs) (next_same ss ts k m hs gs rest)

    -- at most one number is given in each snapshot, and none is taken back
    pub next_few : (ss ts : List (Kept B)) (n m : ℕ) (fs gs : List Flight) → AreNextSavedIn contents layers at ss ts n m fs gs → m ≤ n + length ss
    next_few [] [] n m fs gs e = omega (arith, e.0)
    next_few [] (t ∷ ts) n m fs gs e = absurd e
    next_few (s ∷ ss) [] n m fs gs e = absurd e
    next_few (s ∷ ss) (t ∷ ts) n m fs gs (k, hs, one, rest) =
        let here = saved_step contents layers (at s) s t n k fs hs one in
        let more = next_few ss ts k m hs gs rest in
        omega (arith, here, more)

    pub next_given : (ss ts : List (Kept B)) (n m : ℕ) (fs gs : List Flight) → AreNextSavedIn contents layers at ss ts n m fs gs → n ≤ m
    next_given [] [] n m fs gs e = omega (arith, e.0)
    next_given [] (t ∷ ts) n m fs gs e = absurd e
    next_given (s ∷ ss) [] n m fs gs e = absurd e
    next_given (s ∷ ss) (t ∷ ts) n m fs gs (k, hs, one, rest) =
        let here = saved_given contents layers (at s) s t n k fs hs one in
        let more = next_given ss ts k m hs gs rest in
        omega (arith, here, more)

    -- what is left of each, with what the copies need that a merge is to start in it, does not rise
    module _ (chunk sectors : ℕ) (pairs : List Pair) where
      abbrev weight : Kept B → ℕ
      weight s = weigh chunk sectors pairs (due_of_kept contents layers s)

      pub record IsWeighed (s : Kept B) : Type 0 where
        pub start : lacks_chunk (at s) s ≡ true → (p : ChunkCopy) (t : Kept B) → StartsCopy p (snap_books contents layers s) (snap_books contents layers t) → p.pair.old ≡ at s → t.state.zeroed ≡ s.state.zeroed → t.state.firm ≡ s.state.firm
            → weigh chunk sectors pairs (due_of_kept contents layers t) ≤ weigh chunk sectors pairs (due_of_kept contents layers s)
        pub spoil : lacks_chunk (at s) s ≡ true → SpoilsSnap (snap_books contents layers s) (snap_books contents layers (spoilt_of s))
            → weigh chunk sectors pairs (due_of_kept contents layers (spoilt_of s)) ≤ weigh chunk sectors pairs (due_of_kept contents layers s)

      one_left : (s t : Kept B) (n m : ℕ) (fs gs : List Flight) → IsWeighed s → IsNextSavedIn contents layers (at s) s t n m fs gs → weight t ≤ weight s
      one_left s t n m fs gs w e = elim (cases_Bool (starts_chunk (at s) s)) [
        | inl begins ↦
            (let (buffer, begun, m_is, same) = MatchBool-at_true _ _ begins e in
            w.start (and_first (lacks_chunk (at s) s) (not (is_full_of s)) begins) (started (n + 1) (at s) s.next buffer) t begun.event refl (ap (λ (x : Kept B). x.state.zeroed) begun.fields) (ap (λ (x : Kept B). x.state.firm) begun.fields))
        | inr unsaid ↦ elim (cases_Bool (overflows_chunk (at s) s)) [
          | inl over ↦
              (let (same, m_is, requests) = MatchBool-at_true _ _ over (MatchBool-at_false _ _ unsaid e) in
              let lacks = and_first (lacks_chunk (at s) s) (is_full_of s) over in
              let one = w.spoil lacks (record { number = refl; was = lacking_live (at s) s lacks; live = refl; overflow = refl; chunk = refl; pairs = refl; sure = refl; copies = refl; marks = refl }) in
              subst (λ (x : Kept B). weight x ≤ weight s) (sym same) one)
          | inr fine ↦
              (let (same, m_is, requests) = MatchBool-at_false _ _ fine (MatchBool-at_false _ _ unsaid e) in
              subst (λ (x : Kept B). weight x ≤ weight s) (sym same) (omega arith))
        ]
      ]

      pub next_left : (ss ts : List (Kept B)) (n m : ℕ) (fs gs : List Flight) → All IsWeighed ss → AreNextSavedIn contents layers at ss ts n m fs gs
          → sum_by (weigh chunk sectors pairs) (map (due_of_kept contents layers) ts) ≤ sum_by (weigh chunk sectors pairs) (map (due_of_kept contents layers) ss)
      next_left [] [] n m fs gs weighed e = omega arith
      next_left [] (t ∷ ts) n m fs gs weighed e = absurd e
      next_left (s ∷ ss) [] n m fs gs weighed e = absurd e
      next_left (s ∷ ss) (t ∷ ts) n m fs gs weighed (k, hs, one, rest) =
          let here : weight t ≤ weight s = one_left s t n k fs hs (All-head IsWeighed s ss weighed) one in
          let more = next_left ss ts k m hs gs (All-tail IsWeighed s ss weighed) rest in
          let old = sum_by-cons (weigh chunk sectors pairs) (due_of_kept contents layers s) (map (due_of_kept contents layers) ss) in
          let new = sum_by-cons (weigh chunk sectors pairs) (due_of_kept contents layers t) (map (due_of_kept contents layers) ts) in
          omega (arith, here, more, old, new)
