-- The copies that an origin write starts in all snapshots, as the event machine has them.
use Rattle.std.proofs.Common.{◌≡◌, ℕ, ◌+◌, ◌*◌, ◌<◌, ◌≤◌, Bool, true, false, List, [], ◌∷◌, length, map, nat_lt, refl, sym, ◌∙◌, ap, subst, arith, inl, inr}
use Rattle.std.specs.Prelude.{◌==◌, ◌&&◌, ◌||◌, not, MatchBool, if◌then◌else◌}
use Rattle.std.specs.List.{All, list_any}
use Rattle.std.specs.Option.{is_some}
use Rattle.std.specs.Global.{Vec}
use Rattle.std.proofs.lemmas.Bool.{cases_Bool, cases_lt, false≢true, MatchBool-at_true, MatchBool-at_false}
use Rattle.std.proofs.lemmas.List.{map-append}
use Rattle.std.proofs.lemmas.List.Elements.{All-head, All-tail}
use Rattle.device.specs.Layers.{Layer}
use Rattle.cow_format.specs.Picture.{place_of}
use Rattle.cow_format.specs.NextPlace.{stepped as stepped_place}
use Rattle.in_flight.specs.Routes.{refused_of}
use Rattle.in_flight.specs.declared.copies.ChunkCopy.{ChunkCopy}
use Rattle.in_flight.specs.declared.flights.Flight.{Flight}
use Rattle.event_machine.specs.Held.{Copying, SnapHeld, Going, spoiled}
use Rattle.event_machine.specs.Again.{refused}
use Rattle.event_machine.specs.Seen.{copying_of, going_of}
use Rattle.event_machine.specs.Submitting.{is_filled, with_copy, needs_none, started_all, started_by, refused_by}
use Rattle.snapshot.specs.Kept.{Kept}
use Rattle.snapshot.specs.Calls.{StartsAt, started}
use Rattle.snapshot_list.specs.Starting.{lacks_chunk, is_full_of, overflows_chunk, spoilt_of, IsSavedIn, AreSavedIn}
use Rattle.volume.specs.Moved.{held_of}
use Rattle.volume.proofs.MovedLists.{any_seen, if_true, if_false}
use Rattle.volume.proofs.MovedSnaps.{refused_seen}

-- a snapshot whose store has the size that it is told
pub record IsSized {B : Type 0} (contents : B → List ℕ) (s : Kept B) : Type 0 where
  pub sized : s.live ≡ true → length (contents s.device) ≡ 512 * s.state.size

full_alike : (bytes size x : ℕ) → bytes ≡ 512 * size → nat_lt bytes (512 * x) ≡ nat_lt size x
full_alike bytes size x e = elim (cases_lt size x) [
  | inl lt ↦ (let less : bytes < 512 * x = omega (arith, e, lt) in below bytes (512 * x) less ∙ sym (below size x lt))
  | inr ge ↦ (let more : 512 * x ≤ bytes = omega (arith, e, ge) in above bytes (512 * x) more ∙ sym (above size x ge))
]
  where
    below : (m n : ℕ) → m < n → nat_lt m n ≡ true
    below m n lt = search (arith)

    above : (m n : ℕ) → n ≤ m → nat_lt m n ≡ false
    above m n le = search (arith)

needs_lacks : (live has under : Bool) → (not live || has || under) ≡ not (live && not has && not under)
needs_lacks true true under = refl
needs_lacks true false true = refl
needs_lacks true false false = refl
needs_lacks false has under = refl

pub not_of : (b c : Bool) → b ≡ not c → c ≡ true → b ≡ false
not_of b c e t = e ∙ ap not t

pub yes_of : (b c : Bool) → b ≡ not c → c ≡ false → b ≡ true
yes_of b c e f = e ∙ ap not f

both : (a b : Bool) → a ≡ true → b ≡ true → (a && b) ≡ true
both a b p q = ap (λ x. x && b) p ∙ q

first_no : (a b : Bool) → a ≡ false → (a && b) ≡ false
first_no a b p = ap (λ x. x && b) p

then_no : (a b : Bool) → a ≡ true → b ≡ false → (a && b) ≡ false
then_no a b p q = ap (λ x. x && b) p ∙ q

first_of : (a b : Bool) → (a && b) ≡ true → a ≡ true
first_of true b e = refl
first_of false b e = absurd (false≢true e)

either_first : (a b : Bool) → a ≡ true → (a || b) ≡ true
either_first a b p = ap (λ x. x || b) p

either_then : (a b c : Bool) → a ≡ false → b ≡ c → (a || b) ≡ c
either_then a b c p q = ap (λ x. x || b) p ∙ q

-- one that lacks its chunk is live
pub lacks_live : {B : Type 0} (c : ℕ) (s : Kept B) → lacks_chunk c s ≡ true → s.live ≡ true
lacks_live c s e = first_of s.live (not (is_some (place_of s.pairs c))) (first_of (s.live && not (is_some (place_of s.pairs c))) (not (list_any (λ p. p.pair.old == c) s.copies)) e)

-- what becomes of a snapshot, before the others
abbrev one_of : ℕ → ℕ → SnapHeld → (ℕ → List SnapHeld) → List SnapHeld
one_of c n h rest =
    if needs_none c h then h ∷ rest n
    else (if is_filled h then spoiled h ∷ rest n
    else with_copy (n + 1) c h ∷ rest (n + 1))

-- of the numbers
abbrev count_one : ℕ → ℕ → SnapHeld → (ℕ → ℕ) → ℕ
count_one c n h rest = if needs_none c h || is_filled h then rest n else rest (n + 1)

-- and of the requests
abbrev refuse_one : ℕ → SnapHeld → List Going → (List Going → List Going) → List Going
refuse_one c h rs rest = if needs_none c h || not (is_filled h) then rest rs else rest (map (refused h.snap.number) rs)

module _ {B : Type 0} (contents : B → List ℕ) (layers : B → List Layer) where
  abbrev held : Kept B → SnapHeld
  held = held_of contents layers

  pub needs_is : (c : ℕ) (s : Kept B) → needs_none c (held s) ≡ not (lacks_chunk c s)
  needs_is c s =
      ap (λ b. not s.live || is_some (place_of s.pairs c) || b) (any_seen copying_of (λ (p : Copying). p.pair.old == c) (λ (p : ChunkCopy). p.pair.old == c) s.copies (λ p. refl))
      ∙ needs_lacks s.live (is_some (place_of s.pairs c)) (list_any (λ p. p.pair.old == c) s.copies)

  pub filled_is : (s : Kept B) → IsSized contents s → s.live ≡ true → is_filled (held s) ≡ is_full_of s
  filled_is s i live = full_alike (length (contents s.device)) s.state.size (s.state.chunk * (s.next + 1)) (i.sized live)

  -- a copy is started
  pub with_copy_is : (c : ℕ) (s t : Kept B) (n : ℕ) (buffer : Vec ℕ) → StartsAt contents layers (started (n + 1) c s.next buffer) s t → with_copy (n + 1) c (held s) ≡ held t
  with_copy_is c s t n buffer starts_at =
      let p : ChunkCopy = started (n + 1) c s.next buffer in
      let next : ℕ = stepped_place s.state.chunk (s.next + 1) in
      ap (λ (cs : List Copying). record (held s) { next = next; copies = cs }) (sym (map-append copying_of s.copies (p ∷ [])))
      ∙ sym (ap (held_of contents layers) starts_at.fields)

  abbrev Starts : ℕ → Kept B → Kept B → ℕ → ℕ → List Flight → List Flight → Type 0
  Starts c s t n k fs gs = (buffer : Vec ℕ) × StartsAt contents layers (started (n + 1) c s.next buffer) s t × (k ≡ n + 1) × (gs ≡ fs)

  abbrev Spoils : Kept B → Kept B → ℕ → ℕ → List Flight → List Flight → Type 0
  Spoils s t n k fs gs = (t ≡ spoilt_of s) × (k ≡ n) × (gs ≡ map (refused_of (s.number ∷ [])) fs)

  abbrev Stays : Kept B → Kept B → ℕ → ℕ → List Flight → List Flight → Type 0
  Stays s t n k fs gs = (t ≡ s) × (k ≡ n) × (gs ≡ fs)

  -- what it is seen as, which number was given last then, and the requests
  pub record IsOne (c : ℕ) (s t : Kept B) (n k : ℕ) (fs gs : List Flight) (rest : ℕ → List SnapHeld) (more : ℕ → ℕ) (next : List Going → List Going) : Type 0 where
    pub seen : one_of c n (held s) rest ≡ held t ∷ rest k
    pub count : count_one c n (held s) more ≡ more k
    pub requests : refuse_one c (held s) (map going_of fs) next ≡ next (map going_of gs)

  module _ (c : ℕ) (s t : Kept B) (n k : ℕ) (fs gs : List Flight) (rest : ℕ → List SnapHeld) (more : ℕ → ℕ) (next : List Going → List Going) (i : IsSized contents s) where
    abbrev needs : Bool
    needs = needs_none c (held s)

    abbrev filled : Bool
    filled = is_filled (held s)

    abbrev rs : List Going
    rs = map going_of fs

    one_started : lacks_chunk c s ≡ true → is_full_of s ≡ false → Starts c s t n k fs gs → IsOne c s t n k fs gs rest more next
    one_started lacking room h =
        let some : needs ≡ false = not_of needs (lacks_chunk c s) (needs_is c s) lacking in
        let free : filled ≡ false = filled_is s i (lacks_live c s lacking) ∙ room in
        record {
          seen = if_false needs (held s ∷ rest n) (if filled then spoiled (held s) ∷ rest n else with_copy (n + 1) c (held s) ∷ rest (n + 1)) some
              ∙ if_false filled (spoiled (held s) ∷ rest n) (with_copy (n + 1) c (held s) ∷ rest (n + 1)) free
              ∙ ap (λ (x : SnapHeld). x ∷ rest (n + 1)) (with_copy_is c s t n h.0 h.1) ∙ ap (λ j. held t ∷ rest j) (sym h.2);
          count = if_false (needs || filled) (more n) (more (n + 1)) (either_then needs filled false some free) ∙ ap more (sym h.2);
          requests = if_true (needs || not filled) (next rs) (next (map (refused s.number) rs)) (either_then needs (not filled) true some (ap not free)) ∙ ap (λ (xs : List Flight). next (map going_of xs)) (sym h.3);
        }

    one_spoilt : lacks_chunk c s ≡ true → is_full_of s ≡ true → Spoils s t n k fs gs → IsOne c s t n k fs gs rest more next
    one_spoilt lacking full h =
        let some : needs ≡ false = not_of needs (lacks_chunk c s) (needs_is c s) lacking in
        let none : filled ≡ true = filled_is s i (lacks_live c s lacking) ∙ full in
        record {
          seen = if_false needs (held s ∷ rest n) (if filled then spoiled (held s) ∷ rest n else with_copy (n + 1) c (held s) ∷ rest (n + 1)) some
              ∙ if_true filled (spoiled (held s) ∷ rest n) (with_copy (n + 1) c (held s) ∷ rest (n + 1)) none
              ∙ ap (λ (x : Kept B). held x ∷ rest n) (sym h.0) ∙ ap (λ j. held t ∷ rest j) (sym h.1);
          count = if_true (needs || filled) (more n) (more (n + 1)) (either_then needs filled true some none) ∙ ap more (sym h.1);
          requests = if_false (needs || not filled) (next rs) (next (map (refused s.number) rs)) (either_then needs (not filled) false some (ap not none))
              ∙ ap next (refused_seen contents layers s.number fs) ∙ ap (λ (xs : List Flight). next (map going_of xs)) (sym h.2);
        }

    one_stays : lacks_chunk c s ≡ false → Stays s t n k fs gs → IsOne c s t n k fs gs rest more next
    one_stays has h =
        let none : needs ≡ true = yes_of needs (lacks_chunk c s) (needs_is c s) has in
        record {
          seen = if_true needs (held s ∷ rest n) (if filled then spoiled (held s) ∷ rest n else with_copy (n + 1) c (held s) ∷ rest (n + 1)) none
              ∙ ap (λ (x : Kept B). held x ∷ rest n) (sym h.0) ∙ ap (λ j. held t ∷ rest j) (sym h.1);
          count = if_true (needs || filled) (more n) (more (n + 1)) (either_first needs filled none) ∙ ap more (sym h.1);
          requests = if_true (needs || not filled) (next rs) (next (map (refused s.number) rs)) (either_first needs (not filled) none) ∙ ap (λ (xs : List Flight). next (map going_of xs)) (sym h.2);
        }

    one_is : IsSavedIn contents layers c s t n k fs gs → IsOne c s t n k fs gs rest more next
    one_is saved =
        let or_else : Type 0 = MatchBool (overflows_chunk c s) (Spoils s t n k fs gs) (Stays s t n k fs gs) in
        elim (cases_Bool (lacks_chunk c s)) [
          | inl lacking ↦ elim (cases_Bool (is_full_of s)) [
            | inl full ↦ one_spoilt lacking full
                (MatchBool-at_true (Spoils s t n k fs gs) (Stays s t n k fs gs) (both (lacks_chunk c s) (is_full_of s) lacking full)
                (MatchBool-at_false (Starts c s t n k fs gs) or_else (then_no (lacks_chunk c s) (not (is_full_of s)) lacking (ap not full)) saved))
            | inr room ↦ one_started lacking room
                (MatchBool-at_true (Starts c s t n k fs gs) or_else (both (lacks_chunk c s) (not (is_full_of s)) lacking (ap not room)) saved)
          ]
          | inr has ↦ one_stays has
              (MatchBool-at_false (Spoils s t n k fs gs) (Stays s t n k fs gs) (first_no (lacks_chunk c s) (is_full_of s) has)
              (MatchBool-at_false (Starts c s t n k fs gs) or_else (first_no (lacks_chunk c s) (not (is_full_of s)) has) saved))
        ]

  -- All snapshots, what they are seen as, which number was given last, and the requests. at: the chunk that is wanted of each;
  -- here: the same, of the machine's.
  pub record AreAll (here : SnapHeld → ℕ) (snaps snaps' : List (Kept B)) (n m : ℕ) (fs gs : List Flight) : Type 0 where
    pub seen : started_all here n (map held snaps) ≡ map held snaps'
    pub count : started_by here n (map held snaps) ≡ m
    pub requests : refused_by here (map held snaps) (map going_of fs) ≡ map going_of gs

  module _ (at : Kept B → ℕ) (here : SnapHeld → ℕ) (same : (s : Kept B) → here (held_of contents layers s) ≡ at s) where
    pub all_are : (snaps snaps' : List (Kept B)) (n m : ℕ) (fs gs : List Flight) → All (IsSized contents) snaps → AreSavedIn contents layers at snaps snaps' n m fs gs → AreAll here snaps snaps' n m fs gs
    all_are [] [] n m fs gs sized saved = record { seen = refl; count = sym saved.0; requests = ap (map going_of) (sym saved.1) }
    all_are [] (t ∷ ts) n m fs gs sized saved = absurd saved
    all_are (s ∷ ss) [] n m fs gs sized saved = absurd saved
    all_are (s ∷ ss) (t ∷ ts) n m fs gs sized saved =
        let k : ℕ = saved.0 in
        let hs : List Flight = saved.1 in
        let rest : ℕ → List SnapHeld = λ j. started_all here j (map held ss) in
        let more : ℕ → ℕ = λ j. started_by here j (map held ss) in
        let next : List Going → List Going = λ xs. refused_by here (map held ss) xs in
        let one : IsOne (here (held s)) s t n k fs hs rest more next =
        one_is (here (held s)) s t n k fs hs rest more next (All-head (IsSized contents) s ss sized) (subst (λ c. IsSavedIn contents layers c s t n k fs hs) (sym (same s)) saved.2) in
        let later : AreAll here ss ts k m hs gs = all_are ss ts k m hs gs (All-tail (IsSized contents) s ss sized) saved.3 in
        record { seen = one.seen ∙ ap (λ (xs : List SnapHeld). held t ∷ xs) later.seen; count = one.count ∙ later.count; requests = one.requests ∙ later.requests }
