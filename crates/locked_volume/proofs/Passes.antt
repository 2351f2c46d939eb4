-- Passes that publish, one after the other.
use Rattle.std.proofs.Common.{◌≡◌, ◌<◌, ◌≤◌, ◌+◌, ℕ, List, [], ◌∷◌, ◌++◌, length, below_more, map, set, get_or, inl, inr, refl, sym, ap, ◌∙◌, subst, arith, length-set}
use Rattle.std.proofs.lemmas.List.{get_or-map, get_or_default}
use Rattle.std.proofs.Math.ListN.{get_or-append}
use Rattle.thread_channels.specs.Growth.{EndsIn}
use Rattle.thread_channels.specs.BoardPasses.{BoardId, Seen}
use Rattle.thread_channels.specs.declared.usage.PlaceUsage.{PlaceUsage}
use Rattle.volume.specs.Volumed.{Volumed}
use Rattle.locked_volume.specs.Boards.{AreKeptUp, ArePublishers, AreShown, IsKeptUp, IsPublished, Publishes}
use Rattle.locked_volume.specs.Usages.{usage_at}
use Rattle.locked_volume.proofs.Matched.{each_set, last_is}

-- the first of the passes did something each, and the others are as they were
pub record AreDone (does : ℕ → Seen → Seen → Type 0) (boards : List BoardId) (old now : List Seen) (n : ℕ) : Type 0 where
  pub publish : ArePublishers boards now
  pub done : (k : ℕ) (d : Seen) → k < n → does k (get_or old k d) (get_or now k d)
  pub left : (k : ℕ) (d : Seen) → n ≤ k → get_or now k d ≡ get_or old k d

module _ (does : ℕ → Seen → Seen → Type 0) (boards : List BoardId) (old : List Seen) where
  pub none_done : ArePublishers boards old → AreDone does boards old old 0
  none_done publish = record { publish = publish; done = λ k d low. absurd (omega (arith, low)); left = λ k d high. refl }

  pub one_done : (now : List Seen) (n : ℕ) (p q : Seen) → n < 8 → AreDone does boards old now n → p ≡ get_or now n p → q.board ≡ p.board → q.publishes ≡ p.publishes → does n p q
      → AreDone does boards old (set now n q) (n + 1)
  one_done now n p q low h is same may did =
      let within : n < length now = omega (arith, low, h.publish.many) in
      let at : (d : Seen) → get_or now n d ≡ p = λ d. get_or_default now n d p within ∙ sym is in
      record {
        publish = record {
          boards_many = h.publish.boards_many;
          many = length-set now n q ∙ h.publish.many;
          each = λ k b d few.
              each_set (λ j x. j < 8 → Publishes (get_or boards j b) x) now n q d within (λ j apart small. h.publish.each j b d small)
              (λ small. let own = h.publish.each n b d small in record { of_board = same ∙ ap (λ (s : Seen). s.board) (sym (at d)) ∙ own.of_board; may = may ∙ ap (λ (s : Seen). s.publishes) (sym (at d)) ∙ own.may })
              k few;
        };
        done = λ k d few.
            each_set (λ j x. j < n + 1 → does j (get_or old j d) x) now n q d within (λ j apart small. h.done j d (omega (arith, apart, small)))
            (λ small. subst (λ x. does n x q) (sym (at d) ∙ h.left n d (omega arith)) did) k few;
        left = λ k d many.
            each_set (λ j x. n + 1 ≤ j → x ≡ get_or old j d) now n q d within (λ j apart high. h.left j d (omega (arith, high))) (λ high. absurd (omega (arith, high))) k many;
      }

-- the last publication is this usage
pub published_ends : (usage : PlaceUsage) (p q : Seen) → IsPublished usage p q → EndsIn q.seen usage
published_ends usage p q is = (p.seen, is)

pub kept_ends : (usage : PlaceUsage) (p q : Seen) → IsKeptUp usage p q → EndsIn q.seen usage
kept_ends usage p q (inl (ends, same)) = subst (λ l. EndsIn l usage) (sym same) ends
kept_ends usage p q (inr (moved, is)) = published_ends usage p q is

-- nothing is published where nothing changed
pub kept_still : {B : Type 0} (boards : List BoardId) (v w : Volumed B) (ps : List Seen) → v ≡ w → AreShown boards w ps → AreKeptUp v ps ps
kept_still boards v w ps is h k d low = inl (subst (λ x. EndsIn (get_or ps k d).seen (usage_at k x)) (sym is) (h.last k d low), refl)

-- there is one last publication
ends_same : (seen : List PlaceUsage) (u w : PlaceUsage) → EndsIn seen u → EndsIn seen w → u ≡ w
ends_same seen u w (us, at) (ws, there) = sym (last us u) ∙ ap (last_of u) (sym at ∙ there) ∙ last ws w
  where
    last_of : PlaceUsage → List PlaceUsage → PlaceUsage
    last_of d [] = d
    last_of d (x ∷ xs) = last_of x xs

    last : (xs : List PlaceUsage) (x : PlaceUsage) → last_of u (xs ++ x ∷ []) ≡ x
    last xs x = go u xs
      where
        go : (d : PlaceUsage) (ys : List PlaceUsage) → last_of d (ys ++ x ∷ []) ≡ x
        go d [] = refl
        go d (y ∷ ys) = go y ys

-- what was read is what was published last
pub kept_same : (usage found : PlaceUsage) (p q : Seen) → q.seen ≡ p.seen → EndsIn q.seen found → found ≡ usage → IsKeptUp usage p q
kept_same usage found p q same ends is = inl (subst (λ l. EndsIn l usage) same (subst (EndsIn q.seen) is ends), same)

pub kept_more : (usage found : PlaceUsage) (p mid q : Seen) → mid.seen ≡ p.seen → EndsIn mid.seen found → (found ≡ usage → ⊥) → IsPublished usage mid q → IsKeptUp usage p q
kept_more usage found p mid q same ends other is =
    inr ((λ last. other (ends_same p.seen found usage (subst (λ l. EndsIn l found) same ends) last)), is ∙ ap (λ (l : List PlaceUsage). l ++ usage ∷ []) same)

-- a board that stands at a place, and the pass there
pub own_board : {P : Type 0} (f : P → BoardId) (items : List P) (boards : List BoardId) (n : ℕ) (x : P) (b : BoardId) → map f items ≡ boards → length items ≡ 8 → n < 8 → x ≡ get_or items n x → b ≡ f x
    → get_or boards n b ≡ b
own_board f items boards n x b named many low is value =
    ap (λ (l : List BoardId). get_or l n b) (sym named) ∙ get_or-map f items n x b (omega (arith, low, many)) ∙ ap f (sym is) ∙ sym value

pub own_pass : {P : Type 0} (f : P → BoardId) (items : List P) (boards : List BoardId) (ps : List Seen) (n : ℕ) (x : P) (b : BoardId) (p : Seen) → map f items ≡ boards → length items ≡ 8 → n < 8
    → ArePublishers boards ps → x ≡ get_or items n x → b ≡ f x → p ≡ get_or ps n p → Publishes b p
own_pass f items boards ps n x b p named many low h is value at =
    subst (λ (o : BoardId × Seen). Publishes o.0 o.1) (λ i. (own_board f items boards n x b named many low is value i, sym at i)) (h.each n b p low)

-- a pass that is another of the one that publishes there
pub own_reader : {P : Type 0} (f : P → BoardId) (items : List P) (boards : List BoardId) (ps : List Seen) (n : ℕ) (x : P) (b : BoardId) (p : Seen) → map f items ≡ boards → length items ≡ 8 → n < 8
    → ArePublishers boards ps → x ≡ get_or items n x → b ≡ f x → p ≡ get_or ps n p → (d : BoardId) → p.board ≡ get_or boards n d
own_reader f items boards ps n x b p named many low h is value at d =
    (own_pass f items boards ps n x b p named many low h is value at).of_board ∙ sym (own_board f items boards n x b named many low is value)
    ∙ get_or_default boards n b d (omega (arith, low, h.boards_many))

-- one pass more to the boards in their order
pub reader_more : (n : ℕ) (ps : List Seen) (boards : List BoardId) (p : Seen) → length ps ≡ n → n < length boards
    → ((k : ℕ) (d : Seen) (b : BoardId) → k < n → (get_or ps k d).board ≡ get_or boards k b) → ((b : BoardId) → p.board ≡ get_or boards n b)
    → (k : ℕ) (d : Seen) (b : BoardId) → k < n + 1 → (get_or (ps ++ p ∷ []) k d).board ≡ get_or boards k b
reader_more n ps boards p long within all here k d b =
    below_more (λ j. (get_or (ps ++ p ∷ []) j d).board ≡ get_or boards j b) n
    (λ j low. ap (λ (s : Seen). s.board) (get_or-append ps (p ∷ []) d j (omega (arith, long, low))) ∙ all j d b low)
    (ap (λ (s : Seen). s.board) (last_is n ps p d long) ∙ here b) k

-- the same boards and the same volume, by other names
pub shown_as : {B : Type 0} (boards others : List BoardId) (v w : Volumed B) (ps : List Seen) → boards ≡ others → v ≡ w → AreShown boards v ps → AreShown others w ps
shown_as {B} boards others v w ps same is h = subst (λ (x : List BoardId × Volumed B). AreShown x.0 x.1 ps) (λ i. (same i, is i)) h
