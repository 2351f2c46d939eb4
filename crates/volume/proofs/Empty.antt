-- A volume without snapshots and requests.
use Rattle.std.proofs.Common.{◌≡◌, ℕ, ◌*◌, ◌≤◌, List, [], None, length, refl, arith}
use Rattle.std.proofs.lemmas.List.Elements.{All-nil}
use Rattle.device.specs.Layers.{Layer, is_loud}
use Rattle.volume_laws.proofs.Attaching.{new_volume}
use Rattle.volume_laws.proofs.Waiting.{waits_none}
use Rattle.volume.specs.Volumed.{Volumed, books_of}
use Rattle.volume.specs.Whole.{AreNumbers, IsAttached, IsWhole, IsCounted}

none_numbered : (most : ℕ) → AreNumbers most []
none_numbered most = record { given = All-nil (λ n. n ≤ most); ascending = λ i j d lt within. absurd (omega (arith, within)) }

-- no snapshots, no requests, and no numbers given
abbrev pub empty : {B : Type 0} → B → Volumed B
empty origin = record { origin = origin; snaps = []; merge = None; flights = []; requests = 0; copies = 0; attached = 0 }

pub empty_whole : {B : Type 0} (contents : B → List ℕ) (layers : B → List Layer) (size : B → ℕ) (origin : B) → length (contents origin) ≡ 512 * size origin → IsWhole contents layers size (empty origin)
empty_whole contents layers size origin whole = record {
  merge = tt;
  holds = new_volume (contents origin) (size origin) (is_loud (layers origin)) whole;
  waits = waits_none (books_of contents layers size (empty origin)) refl;
  snaps = All-nil (IsAttached 0 (size origin));
  counted = All-nil IsCounted;
  apart = λ i j d lt within. absurd (omega (arith, within));
  numbers = none_numbered 0;
  requests = none_numbered 0;
  few = omega arith;
  few_copies = omega arith;
  few_requests = omega arith;
  numbers_left = omega arith;
}
