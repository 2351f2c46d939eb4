-- Steps one after another: the parts of an event that does several things.
use Rattle.std.proofs.Common.{◌≡◌, inl, inr, ℕ, Bool, true, List, [], ◌∷◌, ◌++◌, map, refl, sym, ◌∙◌, ap, subst}
use Rattle.std.specs.Prelude.{◌||◌, ◌==◌, if◌then◌else◌}
use Rattle.std.specs.List.{All}
use Rattle.std.proofs.lemmas.Bool.{cases_Bool}
use Rattle.std.proofs.lemmas.List.Folds.{list_any-append}
use Rattle.std.proofs.lemmas.List.Elements.{All-set}
use Rattle.plain_machine.specs.declared.request.Request.{Request}
use Rattle.plain_machine.specs.declared.request.Dev.{Dev}
use Rattle.plain_machine.specs.declared.request.Dev.TheVariants.{Origin, Snap}
use Rattle.plain_machine.specs.declared.request.Op.{Op}
use Rattle.plain_machine.specs.declared.request.Op.TheVariants.{Read, Write, Flush}
use Rattle.plain_machine.specs.Plain.{Plain, Entry, Invalid, is_in, spoiled, spoiled_entry, overflow_under, did_overflow}
use Rattle.plain_machine.specs.Kept.{kept}
use Rattle.plain_machine.specs.Legal.{Spoils, is_shut}
use Rattle.volume_laws.specs.Books.{SnapBooks, Books}
use Rattle.volume_laws.specs.Whole.{IsLoud, plain_of}
use Rattle.volume_laws.specs.Steps.{ChangesSnap, SpoilsOne}
use Rattle.volume_laws.specs.Again.{Reroutes}
use Rattle.volume_laws.specs.Outcomes.{IsSilent, IsSpoil, IsAccepted}
use Rattle.volume_laws.proofs.Same.{plain}

entry_twice : (xs ys : List ℕ) (e : Entry) → spoiled_entry ys (spoiled_entry xs e) ≡ spoiled_entry (xs ++ ys) e
entry_twice xs ys e = elim (cases_Bool (is_in xs e.number)) [
  | inl one ↦ (let both : is_in (xs ++ ys) e.number ≡ true = list_any-append (λ n. n == e.number) xs ys ∙ ap (λ b. b || is_in ys e.number) one in
      rw one (rw both (again ys e.number)))
  | inr none ↦ (let both : is_in (xs ++ ys) e.number ≡ is_in ys e.number = list_any-append (λ n. n == e.number) xs ys ∙ ap (λ b. b || is_in ys e.number) none in
      rw none (rw both refl))
]
  where
    again : (ys : List ℕ) (n : ℕ) → spoiled_entry ys (record { number = n; saved = Invalid; overflow = e.overflow }) ≡ record { number = n; saved = Invalid; overflow = e.overflow }
    again ys n = elim (cases_Bool (is_in ys n)) [ inl one ↦ rw one refl | inr none ↦ rw none refl ]

entries_twice : (xs ys : List ℕ) (es : List Entry) → map (spoiled_entry ys) (map (spoiled_entry xs) es) ≡ map (spoiled_entry (xs ++ ys)) es
entries_twice xs ys [] = refl
entries_twice xs ys (e ∷ es) = ap (λ x. x ∷ map (spoiled_entry ys) (map (spoiled_entry xs) es)) (entry_twice xs ys e) ∙ ap (λ x. spoiled_entry (xs ++ ys) e ∷ x) (entries_twice xs ys es)

-- snapshots are spoiled, and then others
pub spoiled_twice : (xs ys : List ℕ) (p : Plain) → spoiled ys (spoiled xs p) ≡ spoiled (xs ++ ys) p
spoiled_twice xs ys p = ap (λ x. plain p.origin p.begun x p.requests) (entries_twice xs ys p.saved)

pub Spoils_then : (xs ys : List ℕ) (p q r : Plain) → Spoils xs p q → Spoils ys q r → Spoils (xs ++ ys) p r
Spoils_then xs ys p q r one two = two ∙ ap (spoiled ys) one ∙ spoiled_twice xs ys p

pub spoil_then : (xs ys : List ℕ) (v u w : Books) → IsSpoil xs v u → IsSpoil ys u w → (IsLoud v → IsLoud u) → IsSpoil (xs ++ ys) v w
spoil_then xs ys v u w one two loud = record { holds = two.holds; step = λ l. Spoils_then xs ys (plain_of v) (plain_of u) (plain_of w) (one.step l) (two.step (loud l)) }

-- a silent step spoils none
pub silent_is : (v w : Books) → IsSilent v w → IsSpoil [] v w
silent_is v w h = record { holds = h.holds; step = h.step }

pub silent_then : (v u w : Books) → IsSilent v u → IsSilent u w → (IsLoud v → IsLoud u) → IsSilent v w
silent_then v u w one two loud = record { holds = two.holds; step = λ l. Spoils_then [] [] (plain_of v) (plain_of u) (plain_of w) (one.step l) (two.step (loud l)) }

-- a spoil changes nothing of which snapshots take writes
overflow_spoiled : (which : List ℕ) (number : ℕ) (es : List Entry) → overflow_under number (map (spoiled_entry which) es) ≡ overflow_under number es
overflow_spoiled which number [] = refl
overflow_spoiled which number (e ∷ es) = elim (cases_Bool (is_in which e.number)) [
  | inl one ↦ rw one (ap (λ x. if e.number == number then e.overflow else x) (overflow_spoiled which number es))
  | inr none ↦ rw none (ap (λ x. if e.number == number then e.overflow else x) (overflow_spoiled which number es))
]

shut_spoiled : (which : List ℕ) (dev : Dev) (op : Op) (es : List Entry) → is_shut dev op (map (spoiled_entry which) es) ≡ is_shut dev op es
shut_spoiled which Origin op es = refl
shut_spoiled which (Snap number) Read es = refl
shut_spoiled which (Snap number) (Write bytes) es = ap did_overflow (overflow_spoiled which number es)
shut_spoiled which (Snap number) Flush es = refl

-- snapshots are spoiled, and then a request is accepted
pub accept_then : (which : List ℕ) (number : ℕ) (request : Request) (v u w : Books) → IsSpoil which v u → IsAccepted [] number request u w → (IsLoud v → IsLoud u) → IsAccepted which number request v w
accept_then which number request v u w one two loud = record {
  holds = two.holds;
  step = λ l. (let a = one.step l in let b = (two.step (loud l)).becomes in record {
    writable = sym (shut_spoiled which request.dev request.op (plain_of v).saved) ∙ sym (ap (λ (p : Plain). is_shut request.dev request.op p.saved) a) ∙ (two.step (loud l)).writable;
    becomes = b ∙ ap (λ (p : Plain). plain p.origin p.begun (spoiled [] p).saved (p.requests ++ record { number = number; request = kept request } ∷ [])) a
        ∙ ap (λ x. plain (plain_of v).origin (plain_of v).begun x ((plain_of v).requests ++ record { number = number; request = kept request } ∷ [])) (none_more (map (spoiled_entry which) (plain_of v).saved));
  });
}
  where
    none_more : (es : List Entry) → map (spoiled_entry []) es ≡ es
    none_more [] = refl
    none_more (e ∷ es) = ap (λ x. e ∷ x) (none_more es)

-- loudness goes over
pub loud_one : (k : ℕ) (s s' : SnapBooks) (v w : Books) → ChangesSnap k s s' v w → s'.loud ≡ s.loud → IsLoud v → IsLoud w
loud_one k s s' v w e same l = record {
  origin = e.loud ∙ l.origin;
  snaps = subst (All (λ (x : SnapBooks). x.loud ≡ true)) (sym e.snaps) (All-set (λ (x : SnapBooks). x.loud ≡ true) v.snaps k s' (same ∙ subst (λ (x : SnapBooks). x.loud ≡ true) (sym e.was) (l.snaps k s e.within)) l.snaps);
  merge = λ m is. l.merge m (sym e.merge ∙ is);
}

pub loud_spoiled : (k : ℕ) (s s' : SnapBooks) (v w : Books) → SpoilsOne k s s' v w → s'.loud ≡ s.loud → IsLoud v → IsLoud w
loud_spoiled k s s' v w e same l = record {
  origin = e.loud ∙ l.origin;
  snaps = subst (All (λ (x : SnapBooks). x.loud ≡ true)) (sym e.snaps) (All-set (λ (x : SnapBooks). x.loud ≡ true) v.snaps k s' (same ∙ subst (λ (x : SnapBooks). x.loud ≡ true) (sym e.was) (l.snaps k s e.within)) l.snaps);
  merge = λ m is. l.merge m (sym e.merge ∙ is);
}

pub loud_rerouted : (clear : ℕ → Bool) (v w : Books) → Reroutes clear v w → IsLoud v → IsLoud w
loud_rerouted clear v w e l = record {
  origin = e.loud ∙ l.origin;
  snaps = subst (All (λ (x : SnapBooks). x.loud ≡ true)) (sym e.snaps) l.snaps;
  merge = λ m is. l.merge m (sym e.merge ∙ is);
}
