-- What is shown where devices are made and taken away.
use Rattle.std.proofs.Common.{◌≡◌, ℕ, zero, suc, Bool, true, false, List, [], refl, ap, ◌∙◌, sym, subst}
use Rattle.std.specs.Prelude.{if◌then◌else◌, Option, Some, None, Result, Ok, Err, is_some, nat_le, not}
use Rattle.sector.specs.declared.refusal.Refusal.{Refusal}
use Rattle.sector.specs.declared.refusal.Refusal.TheVariants.{BadTable, OutOfRange, Busy, TooMany, MergeInProgress, NoSuchDevice}
use Rattle.device.specs.Layers.{Layer, Flaky, Dusty}
use Rattle.whole_commands.specs.Devices.{sectors_of}
use Rattle.words.specs.Given.{◌>>=◌}
use Rattle.command.specs.declared.grammar.Command.TheVariants as commands
use Rattle.table.specs.declared.lines.Line.{Line}
use Rattle.table.specs.declared.lines.Target.{Target}
use Rattle.table.specs.declared.lines.Target.TheVariants as targets
use Rattle.command_semantics.specs.declared.place.Role.TheVariants.{Origin, Under, Snapshot, Store, Merging, MergingStore}
use Rattle.command_semantics.specs.declared.place.Place.{Place}
use Rattle.command_semantics.specs.declared.place.Place.TheVariants.{Free, In}
use Rattle.command_semantics.specs.State.{Stacked, Volume, Table}
use Rattle.command_semantics.specs.Changes.{Did, refused, changed}
use Rattle.command_semantics.specs.Places.{place_of, found, stack_at, volume_at}
use Rattle.command_semantics.specs.Disks.{make, device_count, is_size, with_stack, alone, blank, failing}
use Rattle.command_semantics.specs.Layers.{top, top_of, layered, laid, broken, flakey_over, dust_over, features_of}
use Rattle.command_semantics.specs.Origins.{same_size, origin_made}
use Rattle.command_semantics.specs.Snapshots.{Named as Line_names, over, meet, named_in, snapshot_left, snapshot_by, snapshot_made, parted, left_by}
use Rattle.command_semantics.specs.Removing.{lowered_to, with_left, lowered, removed_at, take_away}
use Rattle.command_semantics.specs.Creating.{made, is_merge, create}
use Rattle.command_semantics.proofs.Keeping.{came_by, same_ok, not_ok}
use Rattle.commands_on_saved_arrays.specs.Arrays.{arrays_in}
use Rattle.commands_on_saved_arrays.specs.Shown.{IsChangedAt}
use Rattle.commands_on_saved_arrays.specs.Commands.{IsTakenAway, IsSnapshotMade, IsRemoved, IsMade, IsShown, stack_named}
use Rattle.commands_on_saved_arrays.specs.Well.{IsNumbered, IsNumberedFor, IsNumberedTarget}
use Rattle.commands_on_saved_arrays.proofs.Tables.{changed_in}
use Rattle.commands_on_saved_arrays.proofs.Rules.{parted_shows}
use Rattle.commands_on_saved_arrays.proofs.Making.{stack_is, origin_shows, closed_shows, met_shows}

-- `disk NAME N`
pub disk_line : (name : List ℕ) (sectors : ℕ) (table : Table) → arrays_in (changed table (make name sectors table)).left ≡ arrays_in table
unfolding make
disk_line name sectors table = by (is_some (place_of name table)) (not (is_size sectors)) (nat_le 64 (device_count table))
  where
    by : (a b c : Bool) → arrays_in (changed table (if a then Err Busy else if b then Err OutOfRange else if c then Err TooMany else Ok (with_stack (alone name (blank sectors)) table))).left ≡ arrays_in table
    by true b c = refl
    by false true c = refl
    by false false true = refl
    by false false false = refl

-- what is left of a stack stands in its place, or nothing does
left_same : (i : ℕ) (o : Option Stacked) (table : Table) → arrays_in (with_left i o table) ≡ arrays_in table
left_same i None table = refl
left_same i (Some stacked) table = refl

lowered_same : (i : ℕ) (table new : Table) → lowered i table ≡ Ok new → arrays_in new ≡ arrays_in table
unfolding lowered
lowered_same i table new is =
    let a = came_by (stack_at i table) _ new is in
    ap arrays_in (sym (same_ok _ new a.2)) ∙ left_same i (lowered_to a.0) table

-- a snapshot that goes
left_shows : (v k : ℕ) (table new : Table) → ((volume : Volume) → volume_at v table ≡ Ok volume → IsNumbered volume) → left_by v k table ≡ Ok new → IsChangedAt v (IsTakenAway k) (arrays_in table) (arrays_in new)
unfolding left_by
left_shows v k table new numbered is =
    let a = came_by (volume_at v table) _ new is in
    let b = came_by (parted k a.0) _ new a.2 in
    subst (λ (t : Table). IsChangedAt v (IsTakenAway k) (arrays_in table) (arrays_in t)) (same_ok _ new b.2)
    (changed_in v table a.0 b.0.1 (IsTakenAway k) a.1 (parted_shows k a.0 b.0 (numbered a.0 a.1) b.1))

-- `remove NAME`
removed_shows : (place : Place) (table new : Table) → ((v k : ℕ) → place ≡ In v (Snapshot k) → (volume : Volume) → volume_at v table ≡ Ok volume → IsNumbered volume) → removed_at place table ≡ Ok new → IsRemoved (Some place) (arrays_in table) (arrays_in new)
removed_shows (Free i depth) table new numbered is =
    let a = came_by (top_of i depth) _ new is in
    lowered_same a.0 table new a.2
removed_shows (In v Origin) table new numbered is = closed_shows v table new is
removed_shows (In v (Under depth)) table new numbered is = absurd (not_ok Busy new is)
removed_shows (In v (Snapshot k)) table new numbered is = left_shows v k table new (numbered v k refl) is
removed_shows (In v (Store k depth)) table new numbered is = absurd (not_ok Busy new is)
removed_shows (In v Merging) table new numbered is = absurd (not_ok MergeInProgress new is)
removed_shows (In v (MergingStore depth)) table new numbered is = absurd (not_ok Busy new is)

pub remove_line : (name : List ℕ) (table : Table) → IsNumberedFor name table → (let done : Did (Unit {0}) Table = changed table (take_away name table) in IsShown (commands.Remove name) table done.answer (arrays_in table) (arrays_in done.left))
unfolding take_away
remove_line name table numbered = by (place_of name table) refl
  where
    there : (place : Place) (r : Result Table Refusal) → place_of name table ≡ Some place → removed_at place table ≡ r → (let done : Did (Unit {0}) Table = changed table r in IsShown (commands.Remove name) table done.answer (arrays_in table) (arrays_in done.left))
    there place (Err e) at is = refl
    there place (Ok new) at is =
        subst (λ (o : Option Place). IsRemoved o (arrays_in table) (arrays_in new)) (sym at)
        (removed_shows place table new (λ v k same volume here. numbered v (Snapshot k) volume (at ∙ ap Some same) here) is)

    by : (o : Option Place) → place_of name table ≡ o → (let done : Did (Unit {0}) Table = changed table (found o >>= λ place. removed_at place table) in IsShown (commands.Remove name) table done.answer (arrays_in table) (arrays_in done.left))
    by None at = refl
    by (Some place) at = there place (removed_at place table) at refl

-- a layer is laid over a stack
laid_same : (name : List ℕ) (layer : Layer) (first count : ℕ) (below : List ℕ) (table : Table) → arrays_in (changed table (laid name layer first count below table)).left ≡ arrays_in table
unfolding laid
laid_same name layer first count below table = by (laid name layer first count below table) refl
  where
    by : (r : Result Table Refusal) → laid name layer first count below table ≡ r → arrays_in (changed table r).left ≡ arrays_in table
    by (Err e) is = refl
    by (Ok new) is =
        let a = came_by (top below table) _ new is in
        let b = came_by (stack_at a.0 table) _ new a.2 in
        let c = came_by (layered name layer first count b.0) _ new b.2 in
        ap arrays_in (sym (same_ok _ new c.2))

-- an error layer is made
broken_same : (name : List ℕ) (sectors : ℕ) (table : Table) → arrays_in (changed table (broken name sectors table)).left ≡ arrays_in table
broken_same name sectors table = by (is_size sectors)
  where
    by : (b : Bool) → arrays_in (changed table (if b then Ok (with_stack (alone name (failing sectors)) table) else Err BadTable)).left ≡ arrays_in table
    by true = refl
    by false = refl

-- the volume of a snapshot's line
over_there : (o : Option Place) (v : ℕ) → over o ≡ Ok v → o ≡ Some (In v (Under zero))
over_there None v is = absurd (not_ok NoSuchDevice v is)
over_there (Some (Free i depth)) v is = absurd (not_ok NoSuchDevice v is)
over_there (Some (In w Origin)) v is = absurd (not_ok NoSuchDevice v is)
over_there (Some (In w (Under zero))) v is = ap (λ x. Some (In x (Under zero))) (same_ok w v is)
over_there (Some (In w (Under (suc depth)))) v is = absurd (not_ok NoSuchDevice v is)
over_there (Some (In w (Snapshot k))) v is = absurd (not_ok NoSuchDevice v is)
over_there (Some (In w (Store k depth))) v is = absurd (not_ok NoSuchDevice v is)
over_there (Some (In w Merging)) v is = absurd (not_ok NoSuchDevice v is)
over_there (Some (In w (MergingStore depth))) v is = absurd (not_ok NoSuchDevice v is)

-- what a snapshot's line names
pub record AreNames (sectors : ℕ) (device store : List ℕ) (table : Table) (n : Line_names) : Type 0 where
  pub over : over (place_of device table) ≡ Ok n.v
  pub volume : volume_at n.v table ≡ Ok n.volume
  pub stacked : stack_named store table ≡ Ok n.stacked

are_names : (sectors : ℕ) (device store : List ℕ) (table : Table) (n : Line_names) → named_in sectors device store table ≡ Ok n → AreNames sectors device store table n
unfolding named_in
are_names sectors device store table n is =
    let a = came_by (over (place_of device table)) _ n is in
    let b = came_by (top store table) _ n a.2 in
    let c = came_by (stack_at b.0 table) _ n b.2 in
    let d = came_by (volume_at a.0 table) _ n c.2 in
    let e = came_by (same_size sectors (sectors_of d.0.state.origin)) _ n d.2 in
    subst (AreNames sectors device store table) (same_ok _ n e.2) (record { over = a.1; volume = d.1; stacked = stack_is store table b.0 c.0 b.1 c.1 })

module _ (name : List ℕ) (sectors : ℕ) (table : Table) where
  -- by its answer
  abbrev Makes : Target → Did (Unit {0}) Table → Type 0
  Makes target done = let line : Line = record { sectors = sectors; target = target } in IsShown (commands.Create name line) table done.answer (arrays_in table) (arrays_in done.left)

  by_rule : (target : Target) (rule : Result Table Refusal) → ((new : Table) → rule ≡ Ok new → IsMade name target table (arrays_in table) (arrays_in new)) → Makes target (changed table rule)
  by_rule target (Ok new) f = f new refl
  by_rule target (Err e) f = refl

  kept_same : (rule : Result Table Refusal) → arrays_in (changed table rule).left ≡ arrays_in table → (new : Table) → rule ≡ Ok new → arrays_in new ≡ arrays_in table
  kept_same rule same new is = ap (λ (r : Result Table Refusal). arrays_in (changed table r).left) (sym is) ∙ same

  snapshot_makes : (device store : List ℕ) (chunk : ℕ) (overflow : Bool) → IsNumberedFor device table → Makes (targets.Snapshot device store chunk overflow) (snapshot_made name sectors device store chunk overflow table)
  unfolding snapshot_made
  snapshot_makes device store chunk overflow numbered = by (named_in sectors device store table) refl
    where
      by_met : (n : Line_names) → AreNames sectors device store table n → (o : Option Refusal) → (meet name chunk overflow n.stacked n.volume).refused ≡ o → Makes (targets.Snapshot device store chunk overflow) (snapshot_left n.i n.v o (meet name chunk overflow n.stacked n.volume).stacked (meet name chunk overflow n.stacked n.volume).volume table)
      by_met n are (Some refusal) is = refl
      by_met n are None is =
          let place = over_there (place_of device table) n.v are.over in
          let here = numbered n.v (Under zero) n.volume place are.volume in
          (n.v, n.stacked, are.over, are.stacked, changed_in n.v table n.volume (meet name chunk overflow n.stacked n.volume).volume (IsSnapshotMade name n.stacked.device.bytes) are.volume (met_shows name chunk overflow n.stacked n.volume here.named is))

      by : (r : Result Line_names Refusal) → named_in sectors device store table ≡ r → Makes (targets.Snapshot device store chunk overflow) (snapshot_by name chunk overflow table r)
      by (Err e) is = refl
      by (Ok n) is = by_met n (are_names sectors device store table n is) (meet name chunk overflow n.stacked n.volume).refused refl

  made_makes : (target : Target) → is_merge target ≡ false → IsNumberedTarget target table → Makes target (made name sectors target table)
  unfolding made
  made_makes (targets.Origin device) other numbered = by_rule (targets.Origin device) (origin_made name sectors device table) (λ new is. origin_shows name sectors device table new is)
  made_makes (targets.Snapshot device store chunk overflow) other numbered = snapshot_makes device store chunk overflow numbered
  made_makes (targets.Merge device store chunk overflow) other numbered = absurd (cc)
  made_makes (targets.Flakey device offset up down features) other numbered =
      by_rule (targets.Flakey device offset up down features) (flakey_over name sectors device offset up down features table) (kept_same (flakey_over name sectors device offset up down features table) (laid_same name (Flaky 0 up down (features_of features) offset) offset sectors device table))
  made_makes (targets.Dust device block) other numbered =
      by_rule (targets.Dust device block) (dust_over name sectors device block table) (kept_same (dust_over name sectors device block table) (laid_same name (Dusty sectors block false []) 0 sectors device table))
  made_makes targets.Error other numbered = by_rule targets.Error (broken name sectors table) (kept_same (broken name sectors table) (broken_same name sectors table))

-- `create NAME LINE`
pub create_line : (name : List ℕ) (line : Line) (table : Table) → IsNumberedTarget line.target table → (let done : Did (Unit {0}) Table = create name line table in IsShown (commands.Create name line) table done.answer (arrays_in table) (arrays_in done.left))
unfolding create
create_line name line table numbered = by (is_merge line.target) refl (is_some (place_of name table)) (nat_le 64 (device_count table))
  where
    by : (a : Bool) → is_merge line.target ≡ a → (b c : Bool)
        → (let done : Did (Unit {0}) Table = if a then refused table BadTable else if b then refused table Busy else if c then refused table TooMany else made name line.sectors line.target table in IsShown (commands.Create name line) table done.answer (arrays_in table) (arrays_in done.left))
    by true is b c = refl
    by false is true c = refl
    by false is false true = refl
    by false is false false = made_makes name line.sectors table line.target is numbered
