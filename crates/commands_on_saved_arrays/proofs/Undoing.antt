-- What commands leave of a snapshot that none of them writes, and what its merge gives its origin.
use Rattle.std.proofs.Common.{◌≡◌, ◌≢◌, ◌⊎◌, ℕ, zero, suc, List, [], ◌∷◌, ◌++◌, refl, sym, ap, ◌∙◌, subst, inl, inr}
use Rattle.std.specs.Prelude.{Bool, slice_get, slice_set, Option, Some, None, Result, Ok, Err}
use Rattle.std.specs.List.{remove}
use Rattle.sector.specs.declared.refusal.Refusal.{Refusal}
use Rattle.command.specs.declared.grammar.Command.{Command}
use Rattle.command.specs.declared.grammar.Command.TheVariants as commands
use Rattle.table.specs.declared.lines.Target.{Target}
use Rattle.table.specs.declared.lines.Target.TheVariants as targets
use Rattle.plain_machine.specs.Plain.{Saved, Live, Invalid}
use Rattle.whole_commands.proofs.Each.{Each, each_weaker, each_more, each_from, all_from}
use Rattle.command_semantics.specs.declared.place.Role.{Role}
use Rattle.command_semantics.specs.declared.place.Role.TheVariants.{Origin, Under, Snapshot, Store, Merging, MergingStore}
use Rattle.command_semantics.specs.declared.place.Place.{Place}
use Rattle.command_semantics.specs.declared.place.Place.TheVariants.{Free, In}
use Rattle.command_semantics.specs.Places.{place_of}
use Rattle.command_semantics.specs.State.{Table}
use Rattle.snapshot.specs.Opening.{shown_array, shown_as}
use Rattle.commands_on_saved_arrays.specs.Arrays.{Named, Arrays, arrays_in}
use Rattle.commands_on_saved_arrays.specs.Shown.{AreKept, IsChangedAt, IsGoneOn, IsMergedBack, IsOriginWritten, IsSnapshotChanged, IsWrittenTo, IsLostBy, IsWriteRefused}
use Rattle.commands_on_saved_arrays.specs.Commands.{IsTakenAway, IsSnapshotMade, IsRemoved, IsMade, IsAnswered, IsRefused, IsShown}
use Rattle.commands_on_saved_arrays.specs.Undoing.{HasNone, IsFreshIn, IsOver, OriginShows, ShowsStill, Spares}
use Rattle.commands_on_saved_arrays.proofs.Places.{placed_named}

-- what holds of each element of a list
each_at : {X : Type 0} (P : X → Type 0) (xs : List X) (k : ℕ) (x : X) → Each P xs → slice_get xs k ≡ Some x → P x
each_at P [] k x all at = absurd (cc)
each_at P (y ∷ xs) zero x all at = let e : y ≡ x = cc in subst P e all.0
each_at P (y ∷ xs) (suc k) x all at = each_at P xs k x all.1 at

each_set : {X : Type 0} (P : X → Type 0) (xs : List X) (k : ℕ) (y : X) → Each P xs → P y → Each P (slice_set xs k y)
each_set P [] k y all one = tt
each_set P (x ∷ xs) zero y all one = (one, all.1)
each_set P (x ∷ xs) (suc k) y all one = (all.0, each_set P xs k y all.1 one)

each_less : {X : Type 0} (P : X → Type 0) (xs : List X) (k : ℕ) → Each P xs → Each P (remove xs k)
each_less P [] zero all = tt
each_less P [] (suc k) all = tt
each_less P (x ∷ xs) zero all = all.1
each_less P (x ∷ xs) (suc k) all = (all.0, each_less P xs k all.1)

set_there : {X : Type 0} (xs : List X) (k : ℕ) (x y : X) → slice_get xs k ≡ Some x → slice_get (slice_set xs k y) k ≡ Some y
set_there [] k x y at = absurd (cc)
set_there (z ∷ xs) zero x y at = refl
set_there (z ∷ xs) (suc k) x y at = set_there xs k x y at

-- one of two things that a snapshot shows
same_live : (a b : List ℕ) → (let x : Saved = Live a in x) ≡ Live b → a ≡ b
same_live a b is = cc

live_is : (saved : Saved) (array b : List ℕ) → (saved ≡ Live array) ⊎ (saved ≡ Invalid) → saved ≡ Live b → b ≡ array
live_is saved array b (inl live) is = same_live b array (sym is ∙ live)
live_is saved array b (inr lost) is = absurd (no_live b (sym is ∙ lost))
  where
    no_live : (c : List ℕ) → (let x : Saved = Live c in x) ≡ Invalid → ⊥
    no_live c wrong = absurd (cc)

-- A snapshot of this name, of an origin that shows this array.
module _ (name origin array : List ℕ) where
  abbrev Still : List ℕ → Named → Type 0
  Still owner s = s.name ≡ name → (owner ≡ origin) × ((s.saved ≡ Live array) ⊎ (s.saved ≡ Invalid))

  abbrev StillIn : Arrays → Type 0
  StillIn a = Each (Still a.name) a.snaps

  other : (owner : List ℕ) (s : Named) → s.name ≢ name → Still owner s
  other owner s differs is = absurd (differs is)

  renamed : (owner now : List ℕ) (snaps : List Named) → now ≡ owner → Each (Still owner) snaps → Each (Still now) snaps
  renamed owner now snaps same all = subst (λ (n : List ℕ). Each (Still n) snaps) (sym same) all

  -- what is lost is lost
  kept : (owner : List ℕ) (old new : List Named) → AreKept old new → Each (Still owner) old → Each (Still owner) new
  kept owner [] [] are all = tt
  kept owner [] (t ∷ ts) are all = absurd are
  kept owner (s ∷ ss) [] are all = absurd are
  kept owner (s ∷ ss) (t ∷ ts) are all = (λ is. one (all.0 (sym are.0 ∙ is)), kept owner ss ts are.2 all.1)
    where
      one : (owner ≡ origin) × ((s.saved ≡ Live array) ⊎ (s.saved ≡ Invalid)) → (owner ≡ origin) × ((t.saved ≡ Live array) ⊎ (t.saved ≡ Invalid))
      one was = (
        was.0,
        elim are.1 [
          | inl same ↦ elim was.1 [
            | inl live ↦ inl (same ∙ live)
            | inr lost ↦ inr (same ∙ lost)
          ]
          | inr lost ↦ inr lost
        ],
      )

  -- in one volume
  gone_on : (a b : Arrays) → IsGoneOn a b → StillIn a → StillIn b
  gone_on a b how all = renamed a.name b.name b.snaps how.name (kept a.name a.snaps b.snaps how.snaps all)

  merged_back : (k : ℕ) (a b : Arrays) → IsMergedBack k a b → StillIn a → StillIn b
  merged_back k a b how all =
      renamed a.name b.name b.snaps how.name (subst (λ (ss : List Named). Each (Still a.name) ss) (sym how.snaps) (each_less (Still a.name) a.snaps k all))

  taken_away : (k : ℕ) (a b : Arrays) → IsTakenAway k a b → StillIn a → StillIn b
  taken_away k a b how all =
      renamed a.name b.name b.snaps how.name (subst (λ (ss : List Named). Each (Still a.name) ss) (sym how.snaps) (each_less (Still a.name) a.snaps k all))

  snapshot_made : (made store : List ℕ) (a b : Arrays) → made ≢ name → IsSnapshotMade made store a b → StillIn a → StillIn b
  snapshot_made made store a b differs how all =
      renamed a.name b.name b.snaps how.same
      (subst (λ (ss : List Named). Each (Still a.name) ss) (sym how.snaps) (each_more (Still a.name) a.snaps _ all (other a.name _ differs)))

  origin_written : (first : ℕ) (bytes : List ℕ) (a b : Arrays) → IsOriginWritten first bytes a b → StillIn a → StillIn b
  origin_written first bytes a b how all = renamed a.name b.name b.snaps how.name (kept a.name a.snaps b.snaps how.snaps all)

  snapshot_changed : (k : ℕ) (change : Saved → Saved → Type 0) (a b : Arrays) → ((s : Named) → slice_get a.snaps k ≡ Some s → s.name ≢ name) → IsSnapshotChanged k change a b → StillIn a → StillIn b
  snapshot_changed k change a b differs how all =
      renamed a.name b.name b.snaps how.name
      (subst (λ (ss : List Named). Each (Still a.name) ss) (sym how.snaps) (each_set (Still a.name) a.snaps k _ all (other a.name _ (differs how.snapshot how.was))))

  -- in one of them
  changed : (v : ℕ) (how : Arrays → Arrays → Type 0) (old new : List Arrays) → ((a b : Arrays) → slice_get old v ≡ Some a → how a b → StillIn a → StillIn b) → IsChangedAt v how old new → Each StillIn old → Each StillIn new
  changed v how old new goes at all =
      let a : Arrays = at.0 in
      let b : Arrays = at.1 in
      let there = at.2 in
      subst (λ (shown : List Arrays). Each StillIn shown) (sym at.4) (each_set StillIn old v b all (goes a b there at.3 (each_at StillIn old v a all there)))

  same : (old new : List Arrays) → new ≡ old → Each StillIn old → Each StillIn new
  same old new is all = subst (λ (shown : List Arrays). Each StillIn shown) (sym is) all

  -- a write of another device
  module _ (device : List ℕ) (first : ℕ) (bytes : List ℕ) (table : Table) (v : ℕ) (differs : device ≢ name) where
    apart : (k : ℕ) (a : Arrays) → place_of device table ≡ Some (In v (Snapshot k)) → slice_get (arrays_in table) v ≡ Some a → (s : Named) → slice_get a.snaps k ≡ Some s → s.name ≢ name
    apart k a at there s here is = differs (sym (placed_named device table v k a s at there here) ∙ is)

    written : (role : Role) (some : List ℕ) (a b : Arrays) → place_of device table ≡ Some (In v role) → slice_get (arrays_in table) v ≡ Some a → IsWrittenTo role first some a b → StillIn a → StillIn b
    written Origin some a b at there how all = origin_written first some a b how all
    written (Under depth) some a b at there how all = absurd how
    written (Snapshot k) some a b at there how all = snapshot_changed k _ a b (apart k a at there) how all
    written (Store k depth) some a b at there how all = absurd how
    written Merging some a b at there how all = absurd how
    written (MergingStore depth) some a b at there how all = absurd how

    lost : (role : Role) (a b : Arrays) → place_of device table ≡ Some (In v role) → slice_get (arrays_in table) v ≡ Some a → IsLostBy role a b → StillIn a → StillIn b
    lost Origin a b at there how all = absurd how
    lost (Under depth) a b at there how all = absurd how
    lost (Snapshot k) a b at there how all = snapshot_changed k _ a b (apart k a at there) how all
    lost (Store k depth) a b at there how all = absurd how
    lost Merging a b at there how all = absurd how
    lost (MergingStore depth) a b at there how all = absurd how

    refused : (role : Role) (refusal : Refusal) (a b : Arrays) → place_of device table ≡ Some (In v role) → slice_get (arrays_in table) v ≡ Some a → IsWriteRefused role first bytes refusal a b → StillIn a → StillIn b
    refused role refusal a b at there how all = elim how [
      | inl nothing ↦ subst StillIn (sym nothing) all
      | inr more ↦ elim more [
        | inl gone ↦ lost role a b at there gone.1 all
        | inr part ↦ written role _ a b at there part.1.2 all
      ]
    ]

  removed : (place : Option Place) (old new : List Arrays) → IsRemoved place old new → Each StillIn old → Each StillIn new
  removed None old new how all = absurd how
  removed (Some (Free i depth)) old new how all = same old new how all
  removed (Some (In v Origin)) old new how all = subst (λ (shown : List Arrays). Each StillIn shown) (sym how) (each_less StillIn old v all)
  removed (Some (In v (Under depth))) old new how all = absurd how
  removed (Some (In v (Snapshot k))) old new how all = changed v (IsTakenAway k) old new (λ a b there. taken_away k a b) how all
  removed (Some (In v (Store k depth))) old new how all = absurd how
  removed (Some (In v Merging)) old new how all = absurd how
  removed (Some (In v (MergingStore depth))) old new how all = absurd how

  made : (device : List ℕ) (target : Target) (table : Table) (old new : List Arrays) → device ≢ name → IsMade device target table old new → Each StillIn old → Each StillIn new
  made device (targets.Origin under) table old new differs how all = subst (λ (shown : List Arrays). Each StillIn shown) (sym how.2) (each_more StillIn old _ all tt)
  made device (targets.Snapshot under store chunk overflow) table old new differs how all =
      changed how.0 (IsSnapshotMade device how.1.device.bytes) old new (λ a b there. snapshot_made device how.1.device.bytes a b differs) how.4 all
  made device (targets.Merge under store chunk overflow) table old new differs how all = absurd how
  made device (targets.Flakey under offset up down features) table old new differs how all = same old new how all
  made device (targets.Dust under block) table old new differs how all = same old new how all
  made device targets.Error table old new differs how all = same old new how all

  -- each command
  answered : (command : Command) (table : Table) (new : List Arrays) → Spares name command → IsAnswered command table (arrays_in table) new → Each StillIn (arrays_in table) → Each StillIn new
  answered (commands.Create device line) table new spares how all = made device line.target table (arrays_in table) new spares how all
  answered (commands.Remove device) table new spares how all = removed (place_of device table) (arrays_in table) new how all
  answered (commands.Write device first bytes) table new spares how all =
      changed how.0 (IsWrittenTo how.1 first bytes) (arrays_in table) new (λ a b there. written device first bytes table how.0 spares how.1 bytes a b how.2 there) how.3 all
  answered (commands.Settle volume) table new spares how all = changed how.0 IsGoneOn (arrays_in table) new (λ a b there. gone_on a b) how.2 all
  answered (commands.Merge device) table new spares how all = changed how.0 (IsMergedBack how.1) (arrays_in table) new (λ a b there. merged_back how.1 a b) how.3 all
  answered (commands.Disk device sectors) table new spares how all = same (arrays_in table) new how all
  answered (commands.Load disk first bytes) table new spares how all = same (arrays_in table) new how all
  answered (commands.Save disk first count) table new spares how all = same (arrays_in table) new how all
  answered (commands.Copy from first to count) table new spares how all = same (arrays_in table) new how all
  answered commands.List table new spares how all = same (arrays_in table) new how all
  answered (commands.Message device message) table new spares how all = same (arrays_in table) new how all
  answered (commands.Tick seconds) table new spares how all = same (arrays_in table) new how all
  answered (commands.Read device first count) table new spares how all = same (arrays_in table) new how all
  answered (commands.Flush device) table new spares how all = same (arrays_in table) new how all
  answered (commands.StartRead device first count) table new spares how all = same (arrays_in table) new how all
  answered (commands.StartWrite device first bytes) table new spares how all = same (arrays_in table) new how all
  answered (commands.Step volume event) table new spares how all = same (arrays_in table) new how all
  answered (commands.Resume volume) table new spares how all = same (arrays_in table) new how all
  answered (commands.Finish volume) table new spares how all = same (arrays_in table) new how all
  answered (commands.Checkpoint volume) table new spares how all = same (arrays_in table) new how all
  answered (commands.Stop volume) table new spares how all = subst (λ (shown : List Arrays). Each StillIn shown) (sym how.2) (each_less StillIn (arrays_in table) how.0 all)
  answered (commands.StopLosing volume) table new spares how all = subst (λ (shown : List Arrays). Each StillIn shown) (sym how.2) (each_less StillIn (arrays_in table) how.0 all)
  answered (commands.Status device) table new spares how all = same (arrays_in table) new how all
  answered (commands.Table device) table new spares how all = same (arrays_in table) new how all
  answered (commands.Map device) table new spares how all = same (arrays_in table) new how all

  denied : (command : Command) (table : Table) (refusal : Refusal) (new : List Arrays) → Spares name command → IsRefused command table refusal (arrays_in table) new → Each StillIn (arrays_in table) → Each StillIn new
  denied (commands.Write device first bytes) table refusal new spares how all = elim how [
    | inl nothing ↦ same (arrays_in table) new nothing all
    | inr some ↦ changed some.0 (IsWriteRefused some.1 first bytes refusal) (arrays_in table) new (λ a b there. refused device first bytes table some.0 spares some.1 refusal a b some.2 there) some.3 all
  ]
  denied (commands.Create device line) table refusal new spares how all = same (arrays_in table) new how all
  denied (commands.Remove device) table refusal new spares how all = same (arrays_in table) new how all
  denied (commands.Settle volume) table refusal new spares how all = same (arrays_in table) new how all
  denied (commands.Merge device) table refusal new spares how all = same (arrays_in table) new how all
  denied (commands.Disk device sectors) table refusal new spares how all = same (arrays_in table) new how all
  denied (commands.Load disk first bytes) table refusal new spares how all = same (arrays_in table) new how all
  denied (commands.Save disk first count) table refusal new spares how all = same (arrays_in table) new how all
  denied (commands.Copy from first to count) table refusal new spares how all = same (arrays_in table) new how all
  denied commands.List table refusal new spares how all = same (arrays_in table) new how all
  denied (commands.Message device message) table refusal new spares how all = same (arrays_in table) new how all
  denied (commands.Tick seconds) table refusal new spares how all = same (arrays_in table) new how all
  denied (commands.Read device first count) table refusal new spares how all = same (arrays_in table) new how all
  denied (commands.Flush device) table refusal new spares how all = same (arrays_in table) new how all
  denied (commands.StartRead device first count) table refusal new spares how all = same (arrays_in table) new how all
  denied (commands.StartWrite device first bytes) table refusal new spares how all = same (arrays_in table) new how all
  denied (commands.Step volume event) table refusal new spares how all = same (arrays_in table) new how all
  denied (commands.Resume volume) table refusal new spares how all = same (arrays_in table) new how all
  denied (commands.Finish volume) table refusal new spares how all = same (arrays_in table) new how all
  denied (commands.Checkpoint volume) table refusal new spares how all = same (arrays_in table) new how all
  denied (commands.Stop volume) table refusal new spares how all = same (arrays_in table) new how all
  denied (commands.StopLosing volume) table refusal new spares how all = same (arrays_in table) new how all
  denied (commands.Status device) table refusal new spares how all = same (arrays_in table) new how all
  denied (commands.Table device) table refusal new spares how all = same (arrays_in table) new how all
  denied (commands.Map device) table refusal new spares how all = same (arrays_in table) new how all

  pub from_all : (shown : List Arrays) → ShowsStill name origin array shown → Each StillIn shown
  from_all shown all = each_weaker _ StillIn shown (λ a each. each_from (Still a.name) a.snaps each) (each_from _ shown all)

  pub to_all : (shown : List Arrays) → Each StillIn shown → ShowsStill name origin array shown
  to_all shown each = all_from _ shown (each_weaker StillIn _ shown (λ a all. all_from (Still a.name) a.snaps all) each)

  -- a command that spares the snapshot
  pub still_shown : {A : Type 0} (command : Command) (table : Table) (answer : Result A Refusal) (new : List Arrays) → Spares name command → IsShown command table answer (arrays_in table) new → ShowsStill name origin array (arrays_in table) → ShowsStill name origin array new
  still_shown command table (Ok answer) new spares how all = to_all new (answered command table new spares how (from_all (arrays_in table) all))
  still_shown command table (Err refusal) new spares how all = to_all new (denied command table refusal new spares how (from_all (arrays_in table) all))

  -- its merge
  pub merge_shows : (table : Table) (new : List Arrays) → IsAnswered (commands.Merge name) table (arrays_in table) new → ShowsStill name origin array (arrays_in table) → OriginShows origin array new
  merge_shows table new how all =
      let v : ℕ = how.0 in
      let k : ℕ = how.1 in
      let at = how.3 in
      let a : Arrays = at.0 in
      let b : Arrays = at.1 in
      let there = at.2 in
      let back = at.3 in
      let s : Named = back.snapshot in
      let of_name : s.name ≡ name = placed_named name table v k a s how.2 there back.was in
      let was = each_at (Still a.name) a.snaps k s (each_at StillIn (arrays_in table) v a (from_all (arrays_in table) all) there) back.was of_name in
      record {
        place = v;
        volume = b;
        there = ap (λ (shown : List Arrays). slice_get shown v) at.4 ∙ set_there (arrays_in table) v a b there;
        name = back.name ∙ was.0;
        shows = live_is s.saved array b.array was.1 back.array;
      }

-- one that is made over a store without a header
pub made_shows : (name device store : List ℕ) (chunk : ℕ) (overflow : Bool) (table : Table) (new : List Arrays) → HasNone name (arrays_in table) → IsFreshIn store table → IsMade name (targets.Snapshot device store chunk overflow) table (arrays_in table) new → (a : Arrays) × IsOver device table a × ShowsStill name a.name a.array new
made_shows name device store chunk overflow table new none fresh how =
    let v : ℕ = how.0 in
    let bytes : List ℕ = how.1.device.bytes in
    let at = how.4 in
    let a : Arrays = at.0 in
    let b : Arrays = at.1 in
    let there = at.2 in
    let more = at.3 in
    let whole : shown_array a.array bytes ≡ a.array = ap (shown_as a.array bytes) (fresh how.1 how.3) in
    let In : Arrays → Type 0 = StillIn name a.name a.array in
    let Of : Named → Type 0 = Still name a.name a.array a.name in
    let before : Each In (arrays_in table) =
    each_weaker _ In (arrays_in table) (λ w each. each_weaker _ (Still name a.name a.array w.name) w.snaps (λ s differs. other name a.name a.array w.name s differs) (each_from _ w.snaps each)) (each_from _ (arrays_in table) none) in
    let one : Each Of (a.snaps ++ (record { name = name; saved = Live (shown_array a.array bytes) }) ∷ []) =
    each_more Of a.snaps _ (each_at In (arrays_in table) v a before there) (λ is. (refl, inl (ap (λ (x : List ℕ). let s : Saved = Live x in s) whole))) in
    let here : In b = renamed name a.name a.array a.name b.name b.snaps more.same (subst (λ (ss : List Named). Each Of ss) (sym more.snaps) one) in
    let after : Each In new = subst (λ (shown : List Arrays). Each In shown) (sym at.4) (each_set In (arrays_in table) v b before here) in
    (a, record { place = v; over_it = how.2; there = there }, to_all name a.name a.array new after)
