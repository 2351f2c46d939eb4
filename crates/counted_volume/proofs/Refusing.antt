-- A request that was not accepted.
use Rattle.std.proofs.Common.{◌≡◌, ◌≢◌, inl, inr, ℕ, zero, suc, get_or, set, Bool, ◌+◌, ◌≤◌, true, false, List, [], ◌∷◌, length, map, refl, sym, ◌∙◌, ap, arith}
use Rattle.std.specs.Prelude.{◌&&◌, not}
use Rattle.std.specs.List.{list_all}
use Rattle.sector.specs.declared.refusal.Refusal.{Refusal}
use Rattle.sector.specs.declared.refusal.Refusal.TheVariants.{Invalid}
use Rattle.whole_commands.specs.Refusals.{is_starved}
use Rattle.device.specs.Layers.{Layer}
use Rattle.plain_machine.specs.declared.request.Overflowing.TheVariants.{Did}
use Rattle.plain_machine.specs.declared.request.Request.{Request}
use Rattle.snapshot.specs.Kept.{Kept}
use Rattle.volume.specs.Volumed.{Volumed}
use Rattle.volume.specs.Leaving.{has_group_in, is_done_of, is_quiet_of}
use Rattle.snapshot_list.specs.Starting.{unroomed}
use Rattle.volume.specs.Submitting.{SameButRoom, IsOverflown, IsRefusedAs}
use Rattle.counted_volume.specs.Declined.{IsUnsent}

all_unroomed : {B : Type 0} (test : Kept B → Bool) (xs : List (Kept B)) → ((s : Kept B) → test (unroomed s) ≡ test s) → list_all test (map unroomed xs) ≡ list_all test xs
all_unroomed test [] same = refl
all_unroomed test (x ∷ xs) same = ap (λ b. b && list_all test (map unroomed xs)) (same x) ∙ ap (λ b. test x && b) (all_unroomed test xs same)

all_roomed : {B : Type 0} (test : Kept B → Bool) (xs ys : List (Kept B)) → map unroomed xs ≡ map unroomed ys → ((s : Kept B) → test (unroomed s) ≡ test s) → list_all test xs ≡ list_all test ys
all_roomed test xs ys e same = sym (all_unroomed test xs same) ∙ ap (list_all test) e ∙ all_unroomed test ys same

-- where nothing but room was made, the volume is as quiet
pub room_quiet : {B : Type 0} (old new : Volumed B) → SameButRoom old new → is_quiet_of new ≡ is_quiet_of old
room_quiet {B} old new same =
    ap (λ (v : Volumed B). is_quiet_of v) same.becomes ∙ ap (λ b. Rattle.std.specs.Prelude.◌==◌ (length old.flights) 0 && (not (has_group_in old.merge) && b)) (all_roomed is_done_of new.snaps old.snaps same.roomed (λ s. refl))

-- where a snapshot is marked for its full store, the volume is as quiet
all_marked : {B : Type 0} (test : Kept B → Bool) (xs : List (Kept B)) (k : ℕ) (x y : Kept B) → x ≡ get_or xs k x → test y ≡ test x → list_all test (set xs k y) ≡ list_all test xs
all_marked test [] k x y is same = refl
all_marked test (z ∷ zs) zero x y is same = ap (λ b. b && list_all test zs) (same ∙ ap test is)
all_marked test (z ∷ zs) (suc k) x y is same = ap (λ b. test z && b) (all_marked test zs k x y is same)

marked_quiet : {B : Type 0} (contents : B → List ℕ) (layers : B → List Layer) (number first : ℕ) (old new : Volumed B) → IsOverflown contents layers number first old new → is_quiet_of new ≡ is_quiet_of old
marked_quiet {B} contents layers number first old new o =
    let did : Kept B = record o.snap { overflow = Did } in
    let done : list_all is_done_of new.snaps ≡ list_all is_done_of old.snaps =
    all_roomed is_done_of new.snaps (set old.snaps o.place did) o.marked (λ s. refl) ∙ all_marked is_done_of old.snaps o.place o.snap did o.is refl in
    ap (λ (v : Volumed B). is_quiet_of v) o.becomes ∙ ap (λ b. Rattle.std.specs.Prelude.◌==◌ (length old.flights) 0 && (not (has_group_in old.merge) && b)) done

-- a request was refused
module _ {B : Type 0} (contents : B → List ℕ) (layers : B → List Layer) (size : B → ℕ) (request : Request) (refusal : Refusal) (old new : Volumed B) (refused : IsUnsent contents layers size request refusal old new) where
  -- one that its snapshot refuses is not starved
  pub invalid_refused : refusal ≡ Invalid → IsRefusedAs contents layers size request refusal old new
  invalid_refused invalid = elim refused [
    | inl starved ↦ absurd (let both : false ≡ true = sym (ap is_starved invalid) ∙ starved.0 in cc)
    | inr other ↦ other
  ]

  -- nor is one that is refused for another reason than want of room
  pub plain_refused : is_starved refusal ≡ false → IsRefusedAs contents layers size request refusal old new
  plain_refused other = elim refused [
    | inl starved ↦ absurd (let both : false ≡ true = sym other ∙ starved.0 in cc)
    | inr plain ↦ plain
  ]

  pub refused_given : new.requests ≡ old.requests
  refused_given = elim refused [
    | inl starved ↦ ap (λ (v : Volumed B). v.requests) starved.1
    | inr plain ↦ elim plain [
      | inl first ↦ ap (λ (v : Volumed B). v.requests) first.1
      | inr later ↦ elim later [
        | inl lacks ↦ ap (λ (v : Volumed B). v.requests) lacks.2.becomes
        | inr full ↦ elim full [
          | inl lost ↦ ap (λ (v : Volumed B). v.requests) lost.2.2.becomes
          | inr shut ↦ ap (λ (v : Volumed B). v.requests) shut.2.2.becomes
        ]
      ]
    ]
  ]

  pub refused_requests : new.requests ≤ old.requests + 1
  refused_requests = (let same = refused_given in omega (arith, same))

  -- it is as quiet as before, where its snapshot is not spoiled
  pub refused_quiet : refusal ≢ Invalid → is_quiet_of new ≡ is_quiet_of old
  refused_quiet other = elim refused [
    | inl starved ↦ ap (λ (v : Volumed B). is_quiet_of v) starved.1
    | inr plain ↦ elim plain [
      | inl first ↦ ap (λ (v : Volumed B). is_quiet_of v) first.1
      | inr later ↦ elim later [
        | inl lacks ↦ room_quiet old new lacks.2
        | inr full ↦ elim full [ inl lost ↦ absurd (other lost.1) | inr shut ↦ marked_quiet contents layers shut.2.0 request.range.first old new shut.2.2 ]
      ]
    ]
  ]
