-- To be believed: what a session promises of those before it and behind it is said in these words.
-- Sessions of the same files follow one another: each opens what a stop left of the one before. What was known to last there is known
-- here, under the numbers that snapshots have here: so the promise is about the files, and about no single session. This project's own.
use Rattle.std.specs.Prelude.{◌≡◌, ℕ, ◌<◌, Bool, true, List, [], ◌∷◌, filter, map, Option, Some, None}
use Rattle.sector.specs.Bytes.{sector_at}
use Rattle.device.specs.Layers.{Layer}
use Rattle.crash_laws.specs.Stop.{MayLeave, Within}
use Rattle.plain_machine.specs.Plain.{Plain}
use Rattle.snapshot.specs.Kept.{Kept}
use Rattle.merge.specs.Due.{is_finished_of}
use Rattle.merge.specs.Merging.{Merging}
use Rattle.volume.specs.Causes.{IsAt}
use Rattle.volume.specs.Layering.{Measures}
use Rattle.volume.specs.Volumed.{Volumed, is_loud_in_all, plain_of}
use Rattle.volume_lifetime.specs.Flushed.{Allows, Flushed, array_in, is_of}
use Rattle.served_session_laws.specs.Keeping.{AreLoaded, IsLoadedFrom, IsMergedFrom}

-- Each sector of these arrays, as a volume shows them, is what is allowed.
abbrev pub AreShown : Plain → ℕ → List Flushed → Type 0
AreShown p sectors [] = Unit {0}
AreShown p sectors (f ∷ carried) = ((s : ℕ) → s < sectors → Allows f s (sector_at (array_in f.array p) s)) × AreShown p sectors carried

-- what was made last of the origin; and of a snapshot, under its number in the next session
abbrev pub of_origin : List Flushed → List Flushed
of_origin made = filter (is_of None) made

abbrev pub as_array : ℕ → Flushed → Flushed
as_array number f = record f { array = Some number }

abbrev pub of_snap : ℕ → ℕ → List Flushed → List Flushed
of_snap before number made = map (as_array number) (filter (is_of (Some before)) made)

-- Files are opened, the origin's with these bytes, and stores' one after another.
pub record IsOpenedOver {B : Type 0} (holds : B → ℕ → List ℕ → Type 0) (m : Measures B) (layers : B → List Layer) (failed : B → Bool) (origin : List ℕ) (new : Volumed B) : Type 0 where
  pub old : Volumed B
  pub origin_is : m.contents old.origin ≡ origin
  pub none : old.merge ≡ None
  pub numbers : List ℕ
  pub loads : AreLoaded holds m layers failed numbers old new
  pub kept : is_loud_in_all layers new ≡ true

-- Whatever a stop between a moment and another leaves of all files together, the next session shows what was made last, or what a write
-- since gives: of the origin, where no merge is left to do; of each live snapshot; and of the origin, where the snapshot is merged further
-- that was. The next session's devices may be of another type N: it has files with records of their own.
pub record Carries {B N : Type 0} (holds : B → ℕ → List ℕ → Type 0) (size : B → ℕ) (next_holds : N → ℕ → List ℕ → Type 0) (m : Measures N) (layers : N → List Layer) (failed : N → Bool) (made : List Flushed) (old new : Volumed B) : Type 0 where
  pub origin : ((g : Merging B) → old.merge ≡ Some g → is_finished_of g ≡ true) → (o : List ℕ) → MayLeave (Within (holds old.origin) (holds new.origin)) (size old.origin) o
      → (next : Volumed N) → IsOpenedOver next_holds m layers failed o next → AreShown (plain_of m.contents layers next) (size old.origin) (of_origin made)
  pub snaps : (place : ℕ) (s t : Kept B) → IsAt place s old → IsAt place t new → s.live ≡ true
      → (o c : List ℕ) → MayLeave (Within (holds old.origin) (holds new.origin)) (size old.origin) o → MayLeave (Within (holds s.device) (holds t.device)) (size s.device) c
      → (number : ℕ) (next : Volumed N) → IsLoadedFrom next_holds m layers failed o c number next → AreShown (plain_of m.contents layers next) (size old.origin) (of_snap s.number number made)
  pub merging : (g h : Merging B) → old.merge ≡ Some g → new.merge ≡ Some h
      → (o c : List ℕ) → MayLeave (Within (holds old.origin) (holds new.origin)) (size old.origin) o → MayLeave (Within (holds g.device) (holds h.device)) (size g.device) c
      → (next : Volumed N) → IsMergedFrom next_holds m layers failed o c next → AreShown (plain_of m.contents layers next) (size old.origin) (of_origin made)
