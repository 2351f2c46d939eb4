-- Whether a snapshot takes a write, as the event machine has it.
use Rattle.std.proofs.Common.{◌≡◌, ◌≢◌, ◌/◌, ℕ, Bool, true, false, List, refl, sym, ◌∙◌, ap}
use Rattle.std.specs.Prelude.{◌&&◌, ◌||◌, not}
use Rattle.std.proofs.lemmas.Bool.{false≢true}
use Rattle.device.specs.Layers.{Layer}
use Rattle.plain_machine.specs.declared.request.Overflowing.{Overflowing}
use Rattle.plain_machine.specs.declared.request.Overflowing.TheVariants.{Never, May, Did}
use Rattle.plain_machine.specs.Plain.{did_overflow, may_overflow}
use Rattle.event_machine.specs.Submitting.{is_filled, needs_none, shuts}
use Rattle.snapshot.specs.Kept.{Kept}
use Rattle.snapshot_list.specs.Starting.{lacks, is_full_of, own_of}
use Rattle.volume.specs.Moved.{held_of}
use Rattle.volume.proofs.MovedSubmits.{IsSized, lacks_live, needs_is, filled_is, not_of, yes_of}

-- one whose store did not overflow is open where it needs no copy, or its store is not full
open_needless : (live did may needs filled : Bool) → did ≡ false → needs ≡ true → (live && (did || (may && (not needs && filled)))) ≡ false
open_needless false did may needs filled d n = refl
open_needless true true may needs filled d n = absurd (false≢true (sym d))
open_needless true false false needs filled d n = refl
open_needless true false true true filled d n = refl
open_needless true false true false filled d n = absurd (false≢true n)

open_free : (live did may needs filled : Bool) → did ≡ false → filled ≡ false → (live && (did || (may && (not needs && filled)))) ≡ false
open_free false did may needs filled d f = refl
open_free true true may needs filled d f = absurd (false≢true (sym d))
open_free true false false needs filled d f = refl
open_free true false true true filled d f = refl
open_free true false true false filled d f = f

-- or where it never overflows
open_never : (live did may rest : Bool) → did ≡ false → may ≡ false → (live && (did || (may && rest))) ≡ false
open_never false did may rest d m = refl
open_never true true may rest d m = absurd (false≢true (sym d))
open_never true false true rest d m = absurd (false≢true (sym m))
open_never true false false rest d m = refl

shut_did : (live did rest : Bool) → live ≡ true → did ≡ true → (live && (did || rest)) ≡ true
shut_did true true rest l d = refl
shut_did true false rest l d = absurd (false≢true d)
shut_did false did rest l d = absurd (false≢true l)

shut_full : (live did may needs filled : Bool) → live ≡ true → may ≡ true → needs ≡ false → filled ≡ true → (live && (did || (may && (not needs && filled)))) ≡ true
shut_full true true may needs filled l m n f = refl
shut_full true false true false true l m n f = refl
shut_full true false true false false l m n f = absurd (false≢true f)
shut_full true false true true filled l m n f = absurd (false≢true (sym n))
shut_full true false false needs filled l m n f = absurd (false≢true m)
shut_full false did may needs filled l m n f = absurd (false≢true l)

-- no live one that did not overflow, and may not, ever does
pub never_did : (o : Overflowing) → did_overflow o ≡ false → o ≢ May → o ≡ Never
never_did Never d m = refl
never_did May d m = absurd (m refl)
never_did Did d m = absurd (false≢true (sym d))

module _ {B : Type 0} (contents : B → List ℕ) (layers : B → List Layer) (first : ℕ) (s : Kept B) where
  abbrev c : ℕ
  c = first / s.state.chunk

  pub has_open : did_overflow s.overflow ≡ false → lacks first s ≡ false → shuts c (held_of contents layers s) ≡ false
  has_open did has = open_needless s.live (did_overflow s.overflow) (may_overflow s.overflow) (needs_none c (held_of contents layers s)) (is_filled (held_of contents layers s)) did
      (yes_of (needs_none c (held_of contents layers s)) (lacks first s) (needs_is contents layers (own_of first s) s) has)

  pub room_open : did_overflow s.overflow ≡ false → IsSized contents s → lacks first s ≡ true → is_full_of s ≡ false → shuts c (held_of contents layers s) ≡ false
  room_open did sized lacking room = open_free s.live (did_overflow s.overflow) (may_overflow s.overflow) (needs_none c (held_of contents layers s)) (is_filled (held_of contents layers s)) did
      (filled_is contents layers s sized (lacks_live (own_of first s) s lacking) ∙ room)

  pub never_open : s.overflow ≡ Never → shuts c (held_of contents layers s) ≡ false
  never_open never = open_never s.live (did_overflow s.overflow) (may_overflow s.overflow) (not (needs_none c (held_of contents layers s)) && is_filled (held_of contents layers s)) (ap did_overflow never) (ap may_overflow never)

  pub dead_open : s.live ≡ false → shuts c (held_of contents layers s) ≡ false
  dead_open dead = ap (λ (b : Bool). b && (did_overflow s.overflow || (may_overflow s.overflow && (not (needs_none c (held_of contents layers s)) && is_filled (held_of contents layers s))))) dead

  pub did_shut : s.live ≡ true → did_overflow s.overflow ≡ true → shuts c (held_of contents layers s) ≡ true
  did_shut live did = shut_did s.live (did_overflow s.overflow) (may_overflow s.overflow && (not (needs_none c (held_of contents layers s)) && is_filled (held_of contents layers s))) live did

  pub full_shut : s.overflow ≡ May → IsSized contents s → lacks first s ≡ true → is_full_of s ≡ true → shuts c (held_of contents layers s) ≡ true
  full_shut may sized lacking full =
      let live : s.live ≡ true = lacks_live (own_of first s) s lacking in
      shut_full s.live (did_overflow s.overflow) (may_overflow s.overflow) (needs_none c (held_of contents layers s)) (is_filled (held_of contents layers s)) live (ap may_overflow may)
      (not_of (needs_none c (held_of contents layers s)) (lacks first s) (needs_is contents layers (own_of first s) s) lacking) (filled_is contents layers s sized live ∙ full)
