-- A volume whose origin's device met a flush, or nothing, while a store was tried: it is whole, and shows what it showed.
use Rattle.std.proofs.Common.{◌≡◌, ◌≢◌, inl, inr, ℕ, Bool, List, Option, length, refl, ◌∙◌, ap}
use Rattle.device.specs.Layers.{Layer, is_loud}
use Rattle.sector.specs.declared.refusal.Refusal.{Refusal}
use Rattle.sector.specs.declared.refusal.Refusal.TheVariants.{Io}
use Rattle.plain_machine.specs.declared.request.Reply.{Reply}
use Rattle.event_machine.specs.Rest.{IsAtRest}
use Rattle.snapshot.specs.Opened.{IsFlushedAs, IsOriginBack}
use Rattle.volume.specs.Volumed.{Volumed, is_loud_in_all, plain_of}
use Rattle.volume.specs.Whole.{IsWhole}
use Rattle.volume.specs.Moved.{moving_of}
use Rattle.volume.specs.Attached.{IsTriedOrigin, IsRefusedOver}
use Rattle.volume.proofs.Relayered.{IsVolumeAlike, merge_same, whole_alike}
use Rattle.volume.proofs.Told.{plain_alike, loud_alike}

module _ {B : Type 0} (contents : B → List ℕ) (layers : B → List Layer) (size : B → ℕ) (v : Volumed B) (o : B) (t : IsTriedOrigin contents layers size v.origin o) where
  abbrev pub over : Volumed B
  over = record v { origin = o }

  over_alike : IsVolumeAlike contents layers size v over
  over_alike = record {
    origin = record { bytes = t.contents_are; sectors = t.size_is; loud = t.loud_is };
    count = refl;
    snaps = λ k d lt. record { store = record { bytes = refl; sectors = refl; loud = refl }; same = refl };
    merge = merge_same contents layers size v.merge;
    becomes = refl;
  }

  pub over_whole : IsWhole contents layers size v → IsWhole contents layers size over
  over_whole = whole_alike contents layers size v over over_alike

  pub over_shown : plain_of contents layers over ≡ plain_of contents layers v
  over_shown = plain_alike contents layers size v over over_alike

  pub over_loud : is_loud_in_all layers over ≡ is_loud_in_all layers v
  over_loud = loud_alike contents layers size v over over_alike

  pub over_rests : (sectors : ℕ) (replied : Option Reply) → IsAtRest sectors (moving_of contents layers replied v) → IsAtRest sectors (moving_of contents layers replied over)
  over_rests sectors replied rest = record { whole = ap length t.contents_are ∙ rest.whole; snaps = rest.snaps; requests = rest.requests; alone = rest.alone }

  -- where a store is refused
  pub refused_over : (refusal : Refusal) → (refusal ≢ Io → o ≡ v.origin) → IsRefusedOver contents layers size refusal v over
  refused_over refusal kept = record {
    becomes = refl;
    origin = t;
    kept = λ other. ap (λ d. (let w : Volumed B = record v { origin = d } in w)) (kept other);
    shown = over_shown;
    loud = over_loud;
    rests = over_rests;
  }

-- where nothing was tried
pub refused_still : {B : Type 0} (contents : B → List ℕ) (layers : B → List Layer) (size : B → ℕ) (v : Volumed B) (refusal : Refusal) → IsRefusedOver contents layers size refusal v v
refused_still contents layers size v refusal = refused_over contents layers size v v.origin (record { contents_are = refl; size_is = refl; loud_is = refl; layers_are = inl refl }) refusal (λ _. refl)

-- what an opening says of the origin's device
pub tried_flushed : {B : Type 0} (contents : B → List ℕ) (layers : B → List Layer) (size faults done : B → ℕ) (ok : Bool) (old new : B) → IsFlushedAs contents layers size faults done ok old new → IsTriedOrigin contents layers size old new
tried_flushed contents layers size faults done ok old new f = record { contents_are = f.same; size_is = f.sized; loud_is = f.operation.loud; layers_are = inr f.operation.layers }

pub tried_back : {B : Type 0} (contents : B → List ℕ) (layers : B → List Layer) (size faults done : B → ℕ) (refusal : Refusal) (old new : B) → IsOriginBack contents layers size faults done refusal old new
    → IsTriedOrigin contents layers size old new × (refusal ≢ Io → new ≡ old)
tried_back contents layers size faults done refusal old new (inl same) =
    (record { contents_are = ap contents same; size_is = ap size same; loud_is = ap (λ d. is_loud (layers d)) same; layers_are = inl (ap layers same) }, λ _. same)
tried_back contents layers size faults done refusal old new (inr failed) = (tried_flushed contents layers size faults done failed.1 old new failed.2, λ other. absurd (other failed.0))
