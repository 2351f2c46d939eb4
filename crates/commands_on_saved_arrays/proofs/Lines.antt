-- What each command does to what is shown, by its rule.
use Rattle.std.proofs.Common.{◌≡◌, inl, inr, ℕ, ◌*◌, ◌/◌, ◌%◌, ◌<◌, true, false, List, length, arith, refl, ap, ◌∙◌, sym, subst}
use Rattle.std.specs.Prelude.{◌==◌, ◌&&◌, Option, Some, None, Result, Ok, Err, nat_lt, nat_le, not}
use Rattle.std.proofs.lemmas.Bool.{cases_Bool, cond-true, cond-false, eqb-true}
use Rattle.sector.specs.declared.refusal.Refusal.{Refusal}
use Rattle.sector.specs.declared.refusal.Refusal.TheVariants.{BadTable, NoSuchDevice, OutOfRange, Busy, MergeInProgress}
use Rattle.layers.specs.declared.message.Message.{Message}
use Rattle.layers.specs.declared.message.Answer.{Answer}
use Rattle.words.specs.Given.{◌>>=◌}
use Rattle.command.specs.Words.{sectors_of}
use Rattle.command.specs.declared.grammar.Command.{Command}
use Rattle.command.specs.declared.grammar.Command.TheVariants as commands
use Rattle.whole_commands.specs.Refusals.{is_starved}
use Rattle.command_semantics.specs.declared.place.Role.{Role}
use Rattle.command_semantics.specs.declared.place.Role.TheVariants.{Origin, Under, Snapshot, Store, Merging, MergingStore}
use Rattle.command_semantics.specs.declared.place.Place.{Place}
use Rattle.command_semantics.specs.declared.place.Place.TheVariants.{Free, In}
use Rattle.command_semantics.specs.State.{Volume, Table, merged_in}
use Rattle.command_semantics.specs.Changes.{Did, kept, changed}
use Rattle.command_semantics.specs.Places.{place_of, found, stack_at, volume_at}
use Rattle.command_semantics.specs.Messages.{put_volume, told_at, told_free, told_mounted, tell}
use Rattle.command_semantics.specs.Raw.{whole, load, save, copied, loaded_at, loaded_free, in_use, raw_under, fits}
use Rattle.command_semantics.specs.Sectors.{Asked, asked_of, at_role, in_volume, flush, flush_by, flushed_in, read_by, read_in, read_some, after_asking, read, written_in, write_some, write, IsPartWritten, IsReadAsked, IsFlushStarved, IsReadStarved, IsWriteStarved, IsAtRole, IsInVolume, IsWriteStarvedBy}
use Rattle.command_semantics.specs.Events.{origin_at, origin_by, merge_done, settle}
use Rattle.command_semantics.specs.Merging.{begun, begun_at, merge_begun, resumed, merge_resumed, finished, merge_finished}
use Rattle.command_semantics.specs.Stopping.{volume_stopped}
use Rattle.command_semantics.specs.Journal.{checkpointed}
use Rattle.command_semantics.proofs.Keeping.{came_by, same_ok, not_ok}
use Rattle.commands_on_saved_arrays.specs.Arrays.{arrays_of, arrays_in}
use Rattle.commands_on_saved_arrays.specs.Shown.{IsGoneOn, IsMergedBack, IsWrittenTo, IsWriteRefused, IsWriteDone}
use Rattle.commands_on_saved_arrays.specs.Commands.{IsAnswered, IsRefused, IsShown}
use Rattle.commands_on_saved_arrays.specs.Well.{IsNumberedFor, IsWellFor}
use Rattle.commands_on_saved_arrays.proofs.Tables.{changed_in, same_in, one_less}
use Rattle.commands_on_saved_arrays.proofs.Settles.{merge_goes_on}
use Rattle.commands_on_saved_arrays.proofs.Rules.{begun_shows, resumed_shows, finished_shows}
use Rattle.commands_on_saved_arrays.proofs.Writes.{write_shows, part_shows, after_arrays}
use Rattle.commands_on_saved_arrays.proofs.Layers.{told_shows}

-- by the rule of a command that only changes something
by_change : (command : Command) (table : Table) (rule : Result Table Refusal) → ((e : Refusal) → IsRefused command table e (arrays_in table) (arrays_in table)) → ((new : Table) → rule ≡ Ok new → IsAnswered command table (arrays_in table) (arrays_in new))
    → (let done : Did (Unit {0}) Table = changed table rule in IsShown command table done.answer (arrays_in table) (arrays_in done.left))
by_change command table (Ok new) not done = done new refl
by_change command table (Err e) not done = not e

-- a name that is there
found_there : (o : Option Place) (place : Place) → found o ≡ Ok place → o ≡ Some place
found_there None place is = absurd (not_ok NoSuchDevice place is)
found_there (Some p) place is = ap Some (same_ok p place is)

origin_there : (place : Place) (v : ℕ) → origin_at place ≡ Ok v → place ≡ In v Origin
origin_there (Free i depth) v is = absurd (not_ok BadTable v is)
origin_there (In w Origin) v is = ap (λ x. In x Origin) (same_ok w v is)
origin_there (In w (Under depth)) v is = absurd (not_ok BadTable v is)
origin_there (In w (Snapshot k)) v is = absurd (not_ok BadTable v is)
origin_there (In w (Store k depth)) v is = absurd (not_ok BadTable v is)
origin_there (In w Merging) v is = absurd (not_ok BadTable v is)
origin_there (In w (MergingStore depth)) v is = absurd (not_ok BadTable v is)

origin_named : (name : List ℕ) (table : Table) (v : ℕ) → origin_by name table ≡ Ok v → place_of name table ≡ Some (In v Origin)
unfolding origin_by
origin_named name table v is =
    let a = came_by (found (place_of name table)) _ v is in
    found_there (place_of name table) a.0 a.1 ∙ ap Some (origin_there a.0 v a.2)

-- `settle VOL`
settled_as : (name : List ℕ) (table new : Table) → IsWellFor name table → settle name table ≡ Ok new → IsAnswered (commands.Settle name) table (arrays_in table) (arrays_in new)
unfolding settle
settled_as name table new well is =
    let a = came_by (origin_by name table) _ new is in
    let b = came_by (volume_at a.0 table) _ new a.2 in
    let place = origin_named name table a.0 a.1 in
    subst (λ (t : Table). IsAnswered (commands.Settle name) table (arrays_in table) (arrays_in t)) (same_ok _ new b.2)
    (a.0, a.1, changed_in a.0 table b.0 (merge_done b.0) IsGoneOn b.1 (merge_goes_on b.0 (well a.0 Origin b.0 place b.1)))

pub settle_line : (name : List ℕ) (table : Table) → IsWellFor name table → (let done : Did (Unit {0}) Table = changed table (settle name table) in IsShown (commands.Settle name) table done.answer (arrays_in table) (arrays_in done.left))
settle_line name table well = by_change (commands.Settle name) table (settle name table) (λ e. refl) (λ new is. settled_as name table new well is)

-- `merge SNAP`
merged_as : (name : List ℕ) (table new : Table) → IsNumberedFor name table → merge_begun name table ≡ Ok new → IsAnswered (commands.Merge name) table (arrays_in table) (arrays_in new)
unfolding merge_begun begun_at
merged_as name table new numbered is =
    let a = came_by (found (place_of name table)) _ new is in
    by a.0 (found_there (place_of name table) a.0 a.1) a.2
  where
    by : (place : Place) → place_of name table ≡ Some place → begun_at place table ≡ Ok new → IsAnswered (commands.Merge name) table (arrays_in table) (arrays_in new)
    by (Free i depth) at h = absurd (not_ok BadTable new h)
    by (In v Origin) at h = absurd (not_ok BadTable new h)
    by (In v (Under depth)) at h = absurd (not_ok BadTable new h)
    by (In v (Snapshot k)) at h =
        let b = came_by (volume_at v table) _ new h in
        let c = came_by (begun k b.0) _ new b.2 in
        subst (λ (t : Table). IsAnswered (commands.Merge name) table (arrays_in table) (arrays_in t)) (same_ok _ new c.2)
        (v, k, at, changed_in v table b.0 c.0 (IsMergedBack k) b.1 (begun_shows k b.0 c.0 (numbered v (Snapshot k) b.0 at b.1) c.1))
    by (In v (Store k depth)) at h = absurd (not_ok BadTable new h)
    by (In v Merging) at h = absurd (not_ok MergeInProgress new h)
    by (In v (MergingStore depth)) at h = absurd (not_ok BadTable new h)

pub merge_line : (name : List ℕ) (table : Table) → IsNumberedFor name table → (let done : Did (Unit {0}) Table = changed table (merge_begun name table) in IsShown (commands.Merge name) table done.answer (arrays_in table) (arrays_in done.left))
merge_line name table numbered = by_change (commands.Merge name) table (merge_begun name table) (λ e. refl) (λ new is. merged_as name table new numbered is)

-- `resume VOL`
resumed_as : (name : List ℕ) (table new : Table) → merge_resumed name table ≡ Ok new → arrays_in new ≡ arrays_in table
unfolding merge_resumed
resumed_as name table new is =
    let a = came_by (origin_by name table) _ new is in
    let b = came_by (volume_at a.0 table) _ new a.2 in
    let c = came_by (resumed b.0) _ new b.2 in
    ap arrays_in (sym (same_ok _ new c.2)) ∙ same_in a.0 table b.0 c.0 b.1 (resumed_shows b.0 c.0 c.1)

pub resume_line : (name : List ℕ) (table : Table) → (let done : Did (Unit {0}) Table = changed table (merge_resumed name table) in IsShown (commands.Resume name) table done.answer (arrays_in table) (arrays_in done.left))
resume_line name table = by_change (commands.Resume name) table (merge_resumed name table) (λ e. refl) (λ new is. resumed_as name table new is)

-- `finish VOL`
finished_as : (name : List ℕ) (table new : Table) → merge_finished name table ≡ Ok new → arrays_in new ≡ arrays_in table
unfolding merge_finished
finished_as name table new is =
    let a = came_by (origin_by name table) _ new is in
    let b = came_by (volume_at a.0 table) _ new a.2 in
    let c = came_by (finished b.0) _ new b.2 in
    ap arrays_in (sym (same_ok _ new c.2)) ∙ same_in a.0 table b.0 c.0.1 b.1 (finished_shows b.0 c.0 c.1)

pub finish_line : (name : List ℕ) (table : Table) → (let done : Did (Unit {0}) Table = changed table (merge_finished name table) in IsShown (commands.Finish name) table done.answer (arrays_in table) (arrays_in done.left))
finish_line name table = by_change (commands.Finish name) table (merge_finished name table) (λ e. refl) (λ new is. finished_as name table new is)

-- `checkpoint VOL`
pub checkpoint_line : (name : List ℕ) (table : Table) → (let done : Did (Unit {0}) Table = changed table (checkpointed name table) in IsShown (commands.Checkpoint name) table done.answer (arrays_in table) (arrays_in done.left))
unfolding checkpointed
checkpoint_line name table = by_change (commands.Checkpoint name) table (checkpointed name table) (λ e. refl)
    (λ new is. let a = came_by (origin_by name table) _ new is in ap arrays_in (sym (same_ok _ new a.2)))

-- `stop VOL`
stopped_as : (name : List ℕ) (table new : Table) → volume_stopped name table ≡ Ok new → IsAnswered (commands.Stop name) table (arrays_in table) (arrays_in new)
unfolding volume_stopped
stopped_as name table new is =
    let a = came_by (origin_by name table) _ new is in
    let b = came_by (volume_at a.0 table) _ new a.2 in
    (a.0, a.1, ap arrays_in (sym (same_ok _ new b.2)) ∙ one_less table.volumes a.0)

pub stop_line : (name : List ℕ) (table : Table) → (let done : Did (Unit {0}) Table = changed table (volume_stopped name table) in IsShown (commands.Stop name) table done.answer (arrays_in table) (arrays_in done.left))
stop_line name table = by_change (commands.Stop name) table (volume_stopped name table) (λ e. refl) (λ new is. stopped_as name table new is)

-- bytes that are whole sectors
whole_there : (bytes : List ℕ) (count : ℕ) → whole bytes ≡ Ok count → (length bytes ≡ 512 * count) × (0 < count)
whole_there bytes count is = elim (cases_Bool (length bytes % 512 == 0)) [
  | inr odd ↦ absurd (not_ok BadTable count (sym (cond-false _ _ _ odd) ∙ is))
  | inl even ↦ (let n : ℕ = length bytes / 512 in
      elim (cases_Bool (nat_lt 0 n && nat_le n 2048)) [
        | inr out ↦ absurd (not_ok OutOfRange count (sym (cond-true _ _ _ even ∙ cond-false _ _ _ out) ∙ is))
        | inl fit ↦ (let same : n ≡ count = same_ok n count (sym (cond-true _ _ _ even ∙ cond-true _ _ _ fit) ∙ is) in
            let zero : length bytes % 512 ≡ 0 = eqb-true _ _ even in
            let pos : 0 < n = both_pos n fit in
            (omega (arith, same, zero), omega (arith, same, pos)))
      ])
]
  where
    both_pos : (n : ℕ) → (nat_lt 0 n && nat_le n 2048) ≡ true → 0 < n
    both_pos n fit = elim (cases_Bool (nat_lt 0 n)) [
      | inl lt ↦ grind (arith, lt)
      | inr none ↦ (let bad : false ≡ true = sym (ap (λ b. b && nat_le n 2048) none) ∙ fit in absurd (cc))
    ]

-- `write DEV S DATA`
pub write_line : (name : List ℕ) (first : ℕ) (bytes : List ℕ) (table : Table) → IsWellFor name table → (let done : Did (Unit {0}) Table = write name first bytes table in IsShown (commands.Write name first bytes) table done.answer (arrays_in table) (arrays_in done.left))
unfolding write
write_line name first bytes table well = by_count (whole bytes) refl
  where
    in_one : (v : ℕ) (role : Role) (volume : Volume) (done : Did (Unit {0}) Volume) → place_of name table ≡ Some (In v role) → volume_at v table ≡ Ok volume → IsWriteDone role first bytes done.answer (arrays_of volume) (arrays_of done.left)
        → IsShown (commands.Write name first bytes) table done.answer (arrays_in table) (arrays_in (put_volume v done.left table))
    in_one v role volume done at there shows = by done.answer shows
      where
        by : (answer : Result (Unit {0}) Refusal) → IsWriteDone role first bytes answer (arrays_of volume) (arrays_of done.left) → IsShown (commands.Write name first bytes) table answer (arrays_in table) (arrays_in (put_volume v done.left table))
        by (Ok tt) shows = (v, role, at, changed_in v table volume done.left (IsWrittenTo role first bytes) there shows)
        by (Err e) shows = inr (v, role, at, changed_in v table volume done.left (IsWriteRefused role first bytes e) there shows)

    by_volume : (v : ℕ) (role : Role) (count : ℕ) → place_of name table ≡ Some (In v role) → whole bytes ≡ Ok count → (r : Result Volume Refusal) → volume_at v table ≡ r
        → (let done : Did (Unit {0}) Table = in_volume v table (written_in role first count bytes) r in IsShown (commands.Write name first bytes) table done.answer (arrays_in table) (arrays_in done.left))
    by_volume v role count at so (Err e) there = inl refl
    by_volume v role count at so (Ok volume) there =
        let all = whole_there bytes count so in
        in_one v role volume (written_in role first count bytes volume) at there (write_shows role first count bytes volume (well v role volume at there) all.0 all.1)

    by_place : (count : ℕ) → whole bytes ≡ Ok count → (o : Option Place) → place_of name table ≡ o
        → (let done : Did (Unit {0}) Table = at_role table (λ role volume. written_in role first count bytes volume) (found o) in IsShown (commands.Write name first bytes) table done.answer (arrays_in table) (arrays_in done.left))
    by_place count so None at = inl refl
    by_place count so (Some (Free i depth)) at = inl refl
    by_place count so (Some (In v role)) at = by_volume v role count at so (volume_at v table) refl

    by_count : (r : Result ℕ Refusal) → whole bytes ≡ r → (let done : Did (Unit {0}) Table = write_some name first bytes table r in IsShown (commands.Write name first bytes) table done.answer (arrays_in table) (arrays_in done.left))
    by_count (Err e) so = inl refl
    by_count (Ok count) so = by_place count so (place_of name table) refl

-- where memory, or the room of a journal, ran out for it
pub write_starved : (name : List ℕ) (first : ℕ) (bytes : List ℕ) (table new : Table) (e : Refusal) → is_starved e ≡ true → IsWellFor name table → IsWriteStarved name first bytes table new → IsRefused (commands.Write name first bytes) table e (arrays_in table) (arrays_in new)
unfolding IsWriteStarved
write_starved name first bytes table new e wanting well = by_count (whole bytes) refl
  where
    by_volume : (v : ℕ) (role : Role) (count : ℕ) → place_of name table ≡ Some (In v role) → whole bytes ≡ Ok count → (r : Result Volume Refusal) → volume_at v table ≡ r → IsInVolume (IsPartWritten role first count bytes) v table new r
        → IsRefused (commands.Write name first bytes) table e (arrays_in table) (arrays_in new)
    by_volume v role count at so (Err refusal) there h = absurd h
    by_volume v role count at so (Ok volume) there h =
        let all = whole_there bytes count so in
        subst (λ (t : Table). IsRefused (commands.Write name first bytes) table e (arrays_in table) (arrays_in t)) (sym h.2)
        (inr (v, role, at, changed_in v table volume h.0 (IsWriteRefused role first bytes e) there (part_shows role first count bytes volume h.0 e wanting (well v role volume at there) all.0 all.1 h.1)))

    by_place : (count : ℕ) → whole bytes ≡ Ok count → (o : Option Place) → place_of name table ≡ o → IsAtRole (λ role. IsPartWritten role first count bytes) table new (found o) → IsRefused (commands.Write name first bytes) table e (arrays_in table) (arrays_in new)
    by_place count so None at h = absurd h
    by_place count so (Some (Free i depth)) at h = absurd h
    by_place count so (Some (In v role)) at h = by_volume v role count at so (volume_at v table) refl h

    by_count : (r : Result ℕ Refusal) → whole bytes ≡ r → IsWriteStarvedBy name first bytes table new r → IsRefused (commands.Write name first bytes) table e (arrays_in table) (arrays_in new)
    by_count (Err refusal) so h = absurd h
    by_count (Ok count) so h = by_place count so (place_of name table) refl h

-- `read DEV S N`
asked_shows : (count : ℕ) (volume : Volume) → arrays_of (after_asking count (merged_in volume) volume) ≡ arrays_of volume
asked_shows count volume = after_arrays volume count (merged_in volume) refl

pub read_line : (name : List ℕ) (first count : ℕ) (table : Table) → arrays_in (read name first count table).left ≡ arrays_in table
unfolding read read_in
read_line name first count table = by_count (sectors_of count)
  where
    by_asks : (role : Role) (n : ℕ) (volume : Volume) (r : Result Asked Refusal) → arrays_of (read_by n volume r).left ≡ arrays_of volume
    by_asks role n volume (Err e) = refl
    by_asks role n volume (Ok asks) = asked_shows n volume

    by_volume : (v : ℕ) (role : Role) (n : ℕ) (r : Result Volume Refusal) → volume_at v table ≡ r → arrays_in (in_volume v table (read_in role first n) r).left ≡ arrays_in table
    by_volume v role n (Err e) there = refl
    by_volume v role n (Ok volume) there = same_in v table volume (read_in role first n volume).left there (by_asks role n volume (asked_of role first n volume))

    by_place : (n : ℕ) (r : Result Place Refusal) → arrays_in (at_role table (λ role volume. read_in role first n volume) r).left ≡ arrays_in table
    by_place n (Err e) = refl
    by_place n (Ok (Free i depth)) = refl
    by_place n (Ok (In v role)) = by_volume v role n (volume_at v table) refl

    by_count : (r : Result ℕ Refusal) → arrays_in (read_some name first table r).left ≡ arrays_in table
    by_count (Err e) = refl
    by_count (Ok n) = by_place n (found (place_of name table))

-- a command that asked for so many sectors, and found no room
starved_shows : (count : ℕ) (table new : Table) (r : Result Place Refusal) → IsAtRole (λ role. IsReadAsked count) table new r → arrays_in new ≡ arrays_in table
starved_shows count table new r h = by r h
  where
    by_volume : (v : ℕ) (r : Result Volume Refusal) → volume_at v table ≡ r → IsInVolume (IsReadAsked count) v table new r → arrays_in new ≡ arrays_in table
    by_volume v (Err e) there h = absurd h
    by_volume v (Ok volume) there h = ap arrays_in h.2 ∙ same_in v table volume h.0 there (ap arrays_of h.1 ∙ asked_shows count volume)

    by : (r : Result Place Refusal) → IsAtRole (λ role. IsReadAsked count) table new r → arrays_in new ≡ arrays_in table
    by (Err e) h = absurd h
    by (Ok (Free i depth)) h = absurd h
    by (Ok (In v role)) h = by_volume v (volume_at v table) refl h

pub read_starved : (name : List ℕ) (first count : ℕ) (table new : Table) → IsReadStarved name first count table new → arrays_in new ≡ arrays_in table
unfolding IsReadStarved
read_starved name first count table new h = starved_shows count table new (found (place_of name table)) h

-- `flush DEV`
pub flush_line : (name : List ℕ) (table : Table) → arrays_in (flush name table).left ≡ arrays_in table
unfolding flush flushed_in
flush_line name table = by_place (found (place_of name table))
  where
    by_asks : (volume : Volume) (r : Result Asked Refusal) → arrays_of (flush_by volume r).left ≡ arrays_of volume
    by_asks volume (Err e) = refl
    by_asks volume (Ok asks) = asked_shows 1 volume

    by_volume : (v : ℕ) (role : Role) (r : Result Volume Refusal) → volume_at v table ≡ r → arrays_in (in_volume v table (flushed_in role) r).left ≡ arrays_in table
    by_volume v role (Err e) there = refl
    by_volume v role (Ok volume) there = same_in v table volume (flushed_in role volume).left there (by_asks volume (asked_of role 0 1 volume))

    by_place : (r : Result Place Refusal) → arrays_in (at_role table (λ role volume. flushed_in role volume) r).left ≡ arrays_in table
    by_place (Err e) = refl
    by_place (Ok (Free i depth)) = refl
    by_place (Ok (In v role)) = by_volume v role (volume_at v table) refl

pub flush_starved : (name : List ℕ) (table new : Table) → IsFlushStarved name table new → arrays_in new ≡ arrays_in table
unfolding IsFlushStarved
flush_starved name table new h = starved_shows 1 table new (found (place_of name table)) h

-- `message DEV 0 WORDS`
pub tell_line : (name : List ℕ) (message : Message) (table : Table) → arrays_in (kept table (tell name message table)).left ≡ arrays_in table
unfolding tell told_at
tell_line name message table = by (tell name message table) refl
  where
    by_place : (place : Place) (done : Answer × Table) → told_at place message table ≡ Ok done → arrays_in done.1 ≡ arrays_in table
    by_place (Free i depth) done h =
        let a = came_by (stack_at i table) _ done h in
        let b = came_by (told_free depth message a.0) _ done a.2 in
        ap (λ (d : Answer × Table). arrays_in d.1) (sym (same_ok _ done b.2))
    by_place (In v role) done h =
        let a = came_by (volume_at v table) _ done h in
        let b = came_by (told_mounted role message a.0) _ done a.2 in
        ap (λ (d : Answer × Table). arrays_in d.1) (sym (same_ok _ done b.2)) ∙ same_in v table a.0 b.0.1 a.1 (told_shows role message a.0 b.0 b.1)

    by : (r : Result (Answer × Table) Refusal) → tell name message table ≡ r → arrays_in (kept table r).left ≡ arrays_in table
    by (Err e) is = refl
    by (Ok done) is =
        let a = came_by (found (place_of name table)) _ done is in
        by_place a.0 done a.2

-- `load DISK S DATA`
pub load_line : (name : List ℕ) (first : ℕ) (bytes : List ℕ) (table : Table) → arrays_in (changed table (load name first bytes table)).left ≡ arrays_in table
unfolding load loaded_at in_use
load_line name first bytes table = by (load name first bytes table) refl
  where
    by_place : (place : Place) (count : ℕ) (new : Table) → loaded_at place first count bytes table ≡ Ok new → arrays_in new ≡ arrays_in table
    by_place (Free i depth) count new h =
        let a = came_by (stack_at i table) _ new h in
        let b = came_by (loaded_free depth first count bytes a.0) _ new a.2 in
        ap arrays_in (sym (same_ok _ new b.2))
    by_place (In v role) count new h =
        let a = came_by (volume_at v table) _ new h in
        let b = came_by (raw_under role a.0) _ new a.2 in
        let c = came_by (fits (length b.0 / 512) first count) _ new b.2 in
        absurd (not_ok Busy new c.2)

    by : (r : Result Table Refusal) → load name first bytes table ≡ r → arrays_in (changed table r).left ≡ arrays_in table
    by (Err e) is = refl
    by (Ok new) is =
        let a = came_by (whole bytes) _ new is in
        let b = came_by (found (place_of name table)) _ new a.2 in
        by_place b.0 a.0 new b.2

-- `copy DISK S DISK N`
pub copy_line : (from : List ℕ) (first : ℕ) (to : List ℕ) (count : ℕ) (table : Table) → arrays_in (changed table (copied from first to count table)).left ≡ arrays_in table
unfolding copied
copy_line from first to count table = by (save from first count table)
  where
    by : (saved : Result (List ℕ) Refusal) → arrays_in (changed table (saved >>= λ bytes. load to first bytes table)).left ≡ arrays_in table
    by (Ok bytes) = load_line to first bytes table
    by (Err e) = refl
