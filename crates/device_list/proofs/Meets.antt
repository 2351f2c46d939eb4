-- A stack meets a volume, as the settled machine's attach says.
use Rattle.std.proofs.Common.{◌≡◌, ◌⊎◌, ℕ, ◌+◌, Bool, true, false, List, [], ◌∷◌, ◌++◌, length, refl, sym, ap, ◌∙◌, inl, inr, subst}
use Rattle.std.specs.Prelude.{Option, Some, None, is_some, ◌&&◌, ◌||◌, ◌==◌, ◌≢◌, nat_le, length, if◌then◌else◌}
use Rattle.std.proofs.lemmas.Bool.{cases_Bool}
use Rattle.sector.specs.declared.refusal.Refusal.{Refusal}
use Rattle.sector.specs.declared.refusal.Refusal.TheVariants.{NoMemory, NotQuiet, Stale, MergeInProgress, TooMany, BadChunk}
use Rattle.device.specs.Layers.{is_loud}
use Rattle.layers.specs.declared.stack.Stack.{Stack}
use Rattle.layers.specs.Stack.{stack_contents, stack_layers}
use Rattle.layers.specs.Beneath.{stack_reads}
use Rattle.snapshot.specs.declared.opening.StoreDev.{StoreDev}
use Rattle.store.specs.Reading.{layers_read, AreRead}
use Rattle.whole_commands.specs.Snaps.{Volume as Settled}
use Rattle.plain_machine.specs.Plain.{overflow_of}
use Rattle.whole_commands.specs.Refusals.{is_starved}
use Rattle.whole_commands.specs.Attaching.{Store, attached, refused_attach}
use Rattle.volume.specs.Volumed.{Volumed}
use Rattle.volume.specs.Leaving.{is_quiet_of}
use Rattle.volume.specs.Taking.{taking_refusal, attach_refusal, IsNotTaken}
use Rattle.command_semantics.specs.Stacks.{device_of}
use Rattle.command_semantics.specs.State.{Stacked, Names, Volume}
use Rattle.command_semantics.specs.Messages.{with_device}
use Rattle.chunk.specs.Sizes.{is_chunk}
use Rattle.store.specs.Opening.{IsRefused}
use Rattle.command_semantics.specs.Snapshots.{meet, attached_to, kept_out, store_of}

-- it was taken
pub met : (name : List ℕ) (chunk : ℕ) (overflow : Bool) (stacked : Stacked) (volume : Volume) (snaps : List Names) (state : Settled) (given number : ℕ) (sound : Bool) → is_some volume.merging ≡ false → number ≡ volume.given + 1 → attached number chunk (overflow_of overflow) (store_of stacked) volume.state ≡ record { volume = state; refused = None; back = None } → snaps ≡ volume.snaps ++ (record { snapshot = name; store = stacked.names; overflow = overflow }) ∷ [] → given ≡ number → sound ≡ (volume.sound && is_loud stacked.device.layers) → ((meet name chunk overflow stacked volume).refused ≡ None) × ((meet name chunk overflow stacked volume).volume ≡ record volume { snaps = snaps; state = state; given = given; sound = sound })
unfolding meet attached_to
met name chunk overflow stacked volume snaps state given number sound alone is exact more gave loud =
    let here = ap (λ n. attached n chunk (overflow_of overflow) (store_of stacked) volume.state) (sym is) ∙ exact in
    rw alone (rw here (rw more (rw gave (rw is (rw loud (refl, refl))))))

-- or refused, and given back
unmet_alone : (name : List ℕ) (chunk : ℕ) (overflow : Bool) (stacked back : Stacked) (volume : Volume) (left : Settled) (refusal : Refusal) (store : Store) → is_some volume.merging ≡ false → attached (volume.given + 1) chunk (overflow_of overflow) (store_of stacked) volume.state ≡ refused_attach refusal store left → back ≡ with_device store.device stacked → ((meet name chunk overflow stacked volume).refused ≡ Some refusal) × ((meet name chunk overflow stacked volume).stacked ≡ back)
unfolding meet attached_to
unmet_alone name chunk overflow stacked back volume left refusal store alone exact is = rw alone (rw exact (rw is (refl, refl)))

-- beside a merge it comes back as it was
unmet_beside : (name : List ℕ) (chunk : ℕ) (overflow : Bool) (stacked back : Stacked) (volume : Volume) (refusal : Refusal) → is_some volume.merging ≡ true → refusal ≡ kept_out stacked → back ≡ stacked → ((meet name chunk overflow stacked volume).refused ≡ Some refusal) × ((meet name chunk overflow stacked volume).stacked ≡ back)
unfolding meet attached_to
unmet_beside name chunk overflow stacked back volume refusal begun why is = rw begun (rw why (rw is (refl, refl)))

-- why a volume takes none: beside a merge, and while it is not quiet
beside_is : (stale quiet : Bool) (count given chunk : ℕ) (e : Refusal) → taking_refusal stale true quiet count given chunk ≡ Some e → e ≡ (if stale then Stale else MergeInProgress)
beside_is true quiet count given chunk e is = cc
beside_is false quiet count given chunk e is = cc

never_beside : (stale quiet : Bool) (count given chunk : ℕ) → taking_refusal stale true quiet count given chunk ≡ None → ⊥
never_beside true quiet count given chunk is = absurd (cc)
never_beside false quiet count given chunk is = absurd (cc)

busy_is : (stale begun quiet : Bool) (count given chunk : ℕ) (e : Refusal) → quiet ≡ false → taking_refusal stale begun quiet count given chunk ≡ Some e → e ≡ (if stale then Stale else (if begun then MergeInProgress else NotQuiet))
busy_is true begun quiet count given chunk e busy is = cc
busy_is false true quiet count given chunk e busy is = cc
busy_is false false false count given chunk e busy is = cc
busy_is false false true count given chunk e busy is = absurd (cc)

never_taken : (stale begun quiet : Bool) (count given chunk : ℕ) → quiet ≡ false → taking_refusal stale begun quiet count given chunk ≡ None → ⊥
never_taken true begun quiet count given chunk busy is = absurd (cc)
never_taken false true quiet count given chunk busy is = absurd (cc)
never_taken false false false count given chunk busy is = absurd (cc)
never_taken false false true count given chunk busy is = absurd (cc)

-- without a merge none is in progress
last_of : (many fits : Bool) → (if many then Some TooMany else (if fits then None else Some BadChunk)) ≡ Some MergeInProgress → ⊥
last_of true fits is = absurd (cc)
last_of false true is = absurd (cc)
last_of false false is = absurd (cc)

not_begun : (stale quiet : Bool) (count given chunk : ℕ) → taking_refusal stale false quiet count given chunk ≡ Some MergeInProgress → ⊥
not_begun true quiet count given chunk is = absurd (cc)
not_begun false false count given chunk is = absurd (cc)
not_begun false true count given chunk is = last_of (nat_le 8 count || (given == 4_294_967_295)) (is_chunk chunk) is

alone_refused : (stale : Bool) (chunk origin size : ℕ) (bytes : List ℕ) (v : Volumed Stack) (e : Refusal) → is_some v.merge ≡ false → IsNotTaken stale chunk origin size bytes v e → e ≢ MergeInProgress
alone_refused stale chunk origin size bytes v e alone why same =
    let plain = ap (λ b. taking_refusal stale b (is_quiet_of v) (length v.snaps) v.attached chunk) alone in
    elim why [
      | inl first ↦ not_begun stale (is_quiet_of v) (length v.snaps) v.attached chunk (sym plain ∙ first ∙ ap (λ (r : Refusal). let x : Option Refusal = Some r in x) same)
      | inr later ↦ elim later.1 [
        | inl none ↦ absurd (let clash : NoMemory ≡ MergeInProgress = sym none ∙ same in cc)
        | inr store ↦ subst (IsRefused chunk origin size bytes) same store
      ]
    ]

-- A stack that a volume refuses.
module _ (chunk origin size : ℕ) (bytes : List ℕ) (names : List (List ℕ)) (device : Stack) (stale : Bool) (store : StoreDev Stack) (stacked back : Stacked) (v : Volumed Stack) (e : Refusal)
    (why : IsNotTaken stale chunk origin size bytes v e)
    (same : attach_refusal stale chunk v ≡ Some e → store ≡ record { device = device; stale = stale })
    (is : stacked ≡ record { names = names; device = device_of device; stale = stale })
    (back_is : back ≡ record { names = names; device = device_of store.device; stale = store.stale }) where
  -- while a merge is begun
  beside_back : is_some v.merge ≡ true → (e ≡ kept_out stacked) × (back ≡ stacked)
  beside_back begun =
      let plain = ap (λ b. taking_refusal stale b (is_quiet_of v) (length v.snaps) v.attached chunk) begun in
      elim why [
        | inl first ↦ (rw is (beside_is stale (is_quiet_of v) (length v.snaps) v.attached chunk e (sym plain ∙ first)), rw back_is (rw (same first) (rw is refl)))
        | inr later ↦ absurd (never_beside stale (is_quiet_of v) (length v.snaps) v.attached chunk (sym plain ∙ later.0))
      ]

  -- the refusal is that of the settled machine, whether a merge is begun or not
  pub unmet : (name : List ℕ) (overflow : Bool) (volume : Volume) (left : Settled) → is_some volume.merging ≡ is_some v.merge → store.stale ≡ stale
      → (e ≢ MergeInProgress → attached (volume.given + 1) chunk (overflow_of overflow) (record { device = device_of device; stale = stale }) volume.state ≡ refused_attach e (record { device = device_of store.device; stale = store.stale }) left)
      → ((meet name chunk overflow stacked volume).refused ≡ Some e) × ((meet name chunk overflow stacked volume).stacked ≡ back)
  unmet name overflow volume left merged mark exact = elim (cases_Bool (is_some v.merge)) [
    | inl begun ↦ (let b = beside_back begun in unmet_beside name chunk overflow stacked back volume e (merged ∙ begun) b.0 b.1)
    | inr alone ↦ unmet_alone name chunk overflow stacked back volume left e (record { device = device_of store.device; stale = store.stale }) (merged ∙ alone)
        (rw is (exact (alone_refused stale chunk origin size bytes v e alone why)))
        (rw back_is (rw is (rw mark refl)))
  ]

  -- a volume that is not quiet takes none, and the stack comes back as it was
  pub busy_back : (begun : Bool) → begun ≡ is_some v.merge → is_quiet_of v ≡ false
      → ((is_starved e ≡ true) ⊎ (e ≡ (if stacked.stale then Stale else (if begun then MergeInProgress else NotQuiet)))) × (back ≡ stacked)
  busy_back begun merged busy =
      elim why [
        | inl first ↦ (inr (rw is (rw merged (busy_is stale (is_some v.merge) (is_quiet_of v) (length v.snaps) v.attached chunk e busy first))), rw back_is (rw (same first) (rw is refl)))
        | inr later ↦ absurd (never_taken stale (is_some v.merge) (is_quiet_of v) (length v.snaps) v.attached chunk busy later.0)
      ]

-- some reads leave the layers of a stack
all_read : (s : Stack) (ranges : List (ℕ × ℕ)) → layers_read (stack_layers s) ranges ≡ stack_layers s
all_read s [] = refl
all_read s (range ∷ ranges) = ap (λ layers. layers_read layers ranges) (stack_reads s range.0 range.1) ∙ all_read s ranges

-- and the stack
pub read_same : (s t : Stack) → stack_contents t ≡ stack_contents s → AreRead (stack_layers s) (stack_layers t) → device_of t ≡ device_of s
read_same s t contents reads = rw contents (rw (reads.1 ∙ all_read s reads.0) refl)
