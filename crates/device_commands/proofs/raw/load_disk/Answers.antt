use Rattle.std.proofs.Common.{rules, refl, sym, ap, ◌∙◌}
use Rattle.std.specs.Prelude.{Ok}
use Rattle.command_semantics.specs.Naming.{AreNamed}
use Rattle.command_semantics.specs.Raw.{whole}
use Rattle.command_semantics.specs.declared.place.Place.{Place}
use Rattle.command_semantics.specs.declared.place.Place.TheVariants.{Free}
use Rattle.command_semantics.proofs.Keeping.{changes_keep}
use Rattle.command_semantics.proofs.NamedRules.{loaded_at_named}
use Rattle.command_semantics.proofs.SoundRules.{IsSound, loaded_at_sound}
use Rattle.device_list.specs.Tables.{table_of}
use Rattle.device_list.proofs.Showing.{shown_at, shown_inside}
use Rattle.device_commands.proofs.InVolume.{load_refused}
use Rattle.device_commands.proofs.raw.load_disk.Goals as goal

pub returns-in-Free-clause-sound : goal.returns-in-Free-clause-sound
returns-in-Free-clause-sound c = λ sound.
    changes_keep IsSound c.load_free.result (table_of c.args.held.now) (table_of c.load_free.new.held) _
    c.load_free.ensures sound (loaded_at_sound (Free c.in-Free.i c.in-Free.depth) c.args.first c.in_ok-count.count c.as_slice-bytes.result.now (table_of c.args.held.now) sound)

pub returns-in-Free-clause-named : goal.returns-in-Free-clause-named
returns-in-Free-clause-named c = λ named.
    changes_keep AreNamed c.load_free.result (table_of c.args.held.now) (table_of c.load_free.new.held) _
    c.load_free.ensures named (loaded_at_named (Free c.in-Free.i c.in-Free.depth) c.args.first c.in_ok-count.count c.as_slice-bytes.result.now (table_of c.args.held.now) named)

pub returns-in-In-clause-done : goal.returns-in-In-clause-done
returns-in-In-clause-done c = (
  refl,
  λ other.
      load_refused c.args.name.now c.args.first c.args.bytes.now (table_of c.args.held.now) c.in_ok-count.count c.in-In.v c.in-In.role c.index.result.now.shown c.refuse_load.result
      (sym (c.in_ok-count.ensures.value ∙ ap whole c.as_slice-bytes.ensures)) (sym c.in_ok-i.ensures.place ∙ ap (λ (place : Place). Ok place) c.in-In.is) (search rules) (shown_at c.args.held.now.volumes.items c.in-In.v c.index.result.now (shown_inside c.args.held.now.volumes.items c.in-In.v (search rules)) c.index.ensures) (search rules),
)
