-- A volume that was taken out is put back.
use Rattle.std.proofs.Common.{◌≡◌, ◌⊎◌, ℕ, suc, ◌<◌, ◌≤◌, true, false, [], length, get_or, Option, Some, None, refl, sym, ap, ◌∙◌, subst, inl, inr, arith}
use Rattle.std.specs.Prelude.{is_some, slice_get, ◌&&◌}
use Rattle.std.proofs.lemmas.List.{length-map}
use Rattle.std.proofs.lemmas.List.Edits.{length-remove}
use Rattle.std.proofs.lemmas.List.Folds.{list_all-map}
use Rattle.std.proofs.lemmas.Option.{slice_get-get_or}
use Rattle.device.specs.Layers.{is_loud}
use Rattle.layers.specs.declared.stack.Stack.{Stack}
use Rattle.layers.specs.Stack.{stack_layers, stack_size}
use Rattle.audited_volume.specs.Books.{AuditShape}
use Rattle.merge.specs.Merging.{Merging}
use Rattle.snapshot_list.specs.Numbers.{number_of_snap}
use Rattle.volume.specs.Leaving.{is_quiet_of}
use Rattle.volume.specs.Stepping.{merged_of}
use Rattle.volume.specs.Volumed.{Volumed, is_loud_in_all, is_loud_with}
use Rattle.volume_commands.specs.Kept.{KeepsDevices}
use Rattle.volume_commands.specs.Rested.{Attached, Rested, attached_of, is_loud_in, rested_of}
use Rattle.command_semantics.specs.State.{Names, Volume}
use Rattle.device_list.specs.Names.{IsNamedBegun, KeepsNames}
use Rattle.device_list.specs.Parting.{HasAll, HasBegun, Parts, named_with, place_begun, with_begun, with_requests}
use Rattle.device_list.proofs.Begun.{place_within}
use Rattle.device_list.specs.Flights.{IsBehind}
use Rattle.device_list.proofs.Merges.{merge_is, names_are, still_begun}
use Rattle.locked_volume.specs.Fixed.{HasBegun as HasOneBegun, HasSame, fixed_of}
use Rattle.parallel_lines.specs.Running.{IsRun}
use Rattle.parallel_lines.specs.Taking.{IsBack}

-- as many snapshots
same_many : (old new : Rested Stack) → KeepsDevices stack_layers stack_size old new → length new.snaps ≡ length old.snaps
same_many old new kept =
    let number : Attached Stack → ℕ = λ s. s.number in
    sym (length-map new.snaps number) ∙ ap length kept.numbers ∙ length-map old.snaps number

merged_some : (m : Option (Merging Stack)) → is_some (merged_of m) ≡ is_some m
merged_some None = refl
merged_some (Some m) = refl

none_of : {X : Type 0} (o : Option X) → is_some o ≡ false → o ≡ None
none_of None is = refl
none_of (Some x) is = absurd (let no : ⊥ = cc in no)

-- as many snapshots as numbers
numbers_many : (a : AuditShape Stack) → length (fixed_of stack_size stack_layers a).numbers ≡ length (rested_of a.volume).snaps
numbers_many a = length-map a.volume.snaps number_of_snap ∙ sym (length-map a.volume.snaps attached_of)

-- a name for each of its snapshots still, or one of them is being merged
still_fits : (p : Parts) (old new : AuditShape Stack) → HasAll p (rested_of old.volume) → HasSame (fixed_of stack_size stack_layers old) (fixed_of stack_size stack_layers new) ⊎ HasOneBegun (fixed_of stack_size stack_layers old) (fixed_of stack_size stack_layers new) → HasAll p (rested_of new.volume) ⊎ HasBegun p (rested_of new.volume)
still_fits p old new all (inl same) = inl (record {
  many = all.many ∙ sym (numbers_many old) ∙ ap length (sym same.0) ∙ numbers_many new;
  begun = all.begun ∙ sym (merged_some old.volume.merge) ∙ ap is_some (sym same.2) ∙ merged_some new.volume.merge;
})
still_fits p old new all (inr (none, (k, within, numbers, chunks, merged))) = inr (record {
  many = (let less = length-remove (fixed_of stack_size stack_layers old).numbers k within in
      let is = ap length numbers in
      omega (arith, all.many, numbers_many old, numbers_many new, less, is));
  was = none_of p.merging (all.begun ∙ sym (merged_some old.volume.merge) ∙ ap is_some none);
  begun = sym (merged_some new.volume.merge) ∙ ap is_some merged;
})

-- and stays so as it comes to rest
rests : (p : Parts) (old new : Rested Stack) → HasAll p old ⊎ HasBegun p old → KeepsDevices stack_layers stack_size old new → HasAll p new ⊎ HasBegun p new
rests p old new (inl all) kept = inl (record { many = all.many ∙ sym (same_many old new kept); begun = all.begun ∙ still_begun old new kept.merging })
rests p old new (inr begun) kept = inr (record { many = begun.many ∙ ap suc (sym (same_many old new kept)); was = begun.was; begun = sym (still_begun old new kept.merging) ∙ begun.begun })

pub fits : (before : AuditShape Stack) (p : Parts) (audit : AuditShape Stack) (old : Volume) (new : Rested Stack) → IsBack before p audit old → KeepsDevices stack_layers stack_size (rested_of audit.volume) new → HasAll p new ⊎ HasBegun p new
fits before p audit old new back kept =
    rests p (rested_of audit.volume) new (still_fits p before audit back.out.parted.all back.left.stays.snaps) kept

-- whether its devices drop writes
pub loud_is : (v : Volumed Stack) → is_loud_in stack_layers (rested_of v) ≡ is_loud_in_all stack_layers v
loud_is v = ap (λ b. is_loud_with stack_layers v.merge (is_loud (stack_layers v.origin) && b)) (list_all-map (λ (s : Attached Stack). is_loud (stack_layers s.store)) attached_of v.snaps)

pub loud : (before : AuditShape Stack) (p : Parts) (audit : AuditShape Stack) (old : Volume) (new : Rested Stack) → IsBack before p audit old → KeepsDevices stack_layers stack_size (rested_of audit.volume) new → p.sound ≡ true → is_loud_in stack_layers new ≡ true
loud before p audit old new back kept sound =
    kept.loud ∙ loud_is audit.volume ∙ back.left.stays.sound ∙ sym (loud_is before.volume) ∙ back.out.parted.loud sound

-- as many attaches
given : (before : AuditShape Stack) (p : Parts) (audit : AuditShape Stack) (old : Volume) (new : Rested Stack) → (back : IsBack before p audit old) → KeepsDevices stack_layers stack_size (rested_of audit.volume) new → new.attached ≡ before.volume.attached
given before p audit old new back kept = kept.attached ∙ back.left.stays.attached

keeps : (p : Parts) (requests : ℕ) (old new : Rested Stack) → HasAll p old → HasAll p new → new.attached ≡ old.attached → KeepsNames (named_with p old) (named_with (with_requests requests p) new)
keeps p requests old new was now attached = record {
  origin = refl;
  under = refl;
  stale = refl;
  snaps = refl;
  merging = names_are p.merging new now.begun ∙ sym (names_are p.merging old was.begun);
  given = attached;
  sound = refl;
}

begins : (p : Parts) (requests : ℕ) (old new : Rested Stack) → HasAll p old → HasBegun p new → new.attached ≡ old.attached → IsNamedBegun (place_begun new) (named_with p old) (named_with (with_requests requests (with_begun (place_begun new) p)) new)
begins p requests old new was now attached =
    let k = place_begun new in
    let low : k < length p.snaps = omega (arith, place_within new, now.many) in
    let d : Names = record { snapshot = []; store = []; overflow = false } in
    let is : slice_get p.snaps k ≡ Some (get_or p.snaps k d) = slice_get-get_or p.snaps k d low in
    let some : is_some (slice_get p.snaps k) ≡ is_some new.events.merge = ap is_some is ∙ sym now.begun in record {
      origin = refl;
      under = refl;
      stale = refl;
      names = get_or p.snaps k d;
      named = rw is refl;
      snaps = refl;
      before = names_are p.merging old was.begun ∙ now.was;
      merging = names_are (slice_get p.snaps k) new some ∙ is;
      given = attached;
    }

-- lines were run at it
pub is_run : (before : AuditShape Stack) (p : Parts) (audit : AuditShape Stack) (old : Volume) (new : Rested Stack) (result : Volume) → IsBack before p audit old → KeepsDevices stack_layers stack_size (rested_of audit.volume) new → is_quiet_of new.events ≡ true → result.sound ≡ p.sound → result.quiet ≡ is_quiet_of new.events
    → (HasAll p new → result ≡ named_with (with_requests new.requests p) new) → (HasBegun p new → result ≡ named_with (with_requests new.requests (with_begun (place_begun new) p)) new) → IsRun old result
is_run before p audit old new result back kept quiet sound now all begun = record {
  names = elim (fits before p audit old new back kept) [
    | inl one ↦ inl (subst (λ (o : Volume). KeepsNames o result) (sym back.out.named)
        (subst (λ (r : Volume). KeepsNames (named_with p (rested_of before.volume)) r) (sym (all one))
        (keeps p new.requests (rested_of before.volume) new back.out.parted.all one (given before p audit old new back kept))))
    | inr one ↦ inr (
      place_begun new,
      subst (λ (o : Volume). IsNamedBegun (place_begun new) o result) (sym back.out.named)
          (subst (λ (r : Volume). IsNamedBegun (place_begun new) (named_with p (rested_of before.volume)) r) (sym (begun one))
          (begins p new.requests (rested_of before.volume) new back.out.parted.all one (given before p audit old new back kept))),
    )
  ];
  sound = sound ∙ sym (ap (λ (o : Volume). o.sound) back.out.named);
  quiet = λ was. now ∙ quiet;
}

-- The volume of events behind it.

stands : (p : Parts) (v : Volumed Stack) → is_some p.merging ≡ is_some v.merge → v.requests ≤ p.asked → IsBehind v (named_with p (rested_of v))
stands p v begun few = record { state = refl; merge = merge_is p.merging (rested_of v) begun; quiet = refl; flying = refl; requests = few }

pub stood : (before : AuditShape Stack) (p : Parts) (audit : AuditShape Stack) (old : Volume) → IsBack before p audit old → IsBehind before.volume old
stood before p audit old back = subst (λ (o : Volume). IsBehind before.volume o) (sym back.out.named) (stands p before.volume back.out.parted.all.begun back.out.parted.requests)

-- the snapshot that is merged has a name
begun_named : (p : Parts) (new : Rested Stack) → HasBegun p new → is_some (slice_get p.snaps (place_begun new)) ≡ is_some new.events.merge
begun_named p new begun =
    let k = place_begun new in
    let low : k < length p.snaps = omega (arith, place_within new, begun.many) in
    let d : Names = record { snapshot = []; store = []; overflow = false } in
    ap is_some (slice_get-get_or p.snaps k d low) ∙ sym begun.begun

pub stands_now : (before : AuditShape Stack) (p : Parts) (audit : AuditShape Stack) (old : Volume) (v : Volumed Stack) (result : Volume) → IsBack before p audit old → KeepsDevices stack_layers stack_size (rested_of audit.volume) (rested_of v)
    → (HasAll p (rested_of v) → result ≡ named_with (with_requests v.requests p) (rested_of v)) → (HasBegun p (rested_of v) → result ≡ named_with (with_requests v.requests (with_begun (place_begun (rested_of v)) p)) (rested_of v)) → IsBehind v result
stands_now before p audit old v result back kept all begun = elim (fits before p audit old (rested_of v) back kept) [
  | inl one ↦ subst (λ (r : Volume). IsBehind v r) (sym (all one)) (stands (with_requests v.requests p) v one.begun (omega arith))
  | inr one ↦ subst (λ (r : Volume). IsBehind v r) (sym (begun one)) (stands (with_requests v.requests (with_begun (place_begun (rested_of v)) p)) v (begun_named p (rested_of v) one) (omega arith))
]
