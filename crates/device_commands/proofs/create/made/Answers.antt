use Rattle.std.proofs.Common.{◌≡◌, sym, subst}
use Rattle.std.specs.Prelude.{IfErr}
use Rattle.sector.specs.declared.refusal.Refusal.TheVariants.{JournalFull}
use Rattle.table.specs.declared.lines.Target.{Target}
use Rattle.command_semantics.specs.Naming.{AreNamed}
use Rattle.command_semantics.proofs.Keeping.{changes_keep}
use Rattle.command_semantics.proofs.NamedRules.{broken_named, laid_named, origin_made_named}
use Rattle.device_list.specs.Tables.{table_of}
use Rattle.device_commands.specs.Asked.{IsAskedMuch}
use Rattle.device_commands.specs.Order.{changed_under}
use Rattle.device_commands.proofs.RulesNeverFull.{broken_never, changes_never, laid_never, origin_made_never}
use Rattle.device_commands.proofs.create.made.Goals as goal

pub returns-in-Origin-clause-named : goal.returns-in-Origin-clause-named
returns-in-Origin-clause-named c = λ none room named.
    changes_keep AreNamed c.make_origin.result (table_of c.args.held.now) (table_of c.make_origin.new.held) _
    c.make_origin.ensures named (origin_made_named c.args.name c.args.sectors c.in-Origin.device (table_of c.args.held.now) none room named)

pub returns-in-Flakey-clause-named : goal.returns-in-Flakey-clause-named
returns-in-Flakey-clause-named c = λ none room named.
    changes_keep AreNamed c.lay_flakey.result (table_of c.args.held.now) (table_of c.lay_flakey.new.held) _
    c.lay_flakey.ensures named (laid_named c.args.name _ _ _ c.in-Flakey.device (table_of c.args.held.now) none room named)

pub returns-in-Dust-clause-named : goal.returns-in-Dust-clause-named
returns-in-Dust-clause-named c = λ none room named.
    changes_keep AreNamed c.lay_dust.result (table_of c.args.held.now) (table_of c.lay_dust.new.held) _
    c.lay_dust.ensures named (laid_named c.args.name _ _ _ c.in-Dust.device (table_of c.args.held.now) none room named)

pub returns-in-Error-clause-named : goal.returns-in-Error-clause-named
returns-in-Error-clause-named c = λ none room named.
    changes_keep AreNamed c.lay_error.result (table_of c.args.held.now) (table_of c.lay_error.new.held) _
    c.lay_error.ensures named (broken_named c.args.name c.args.sectors (table_of c.args.held.now) none room named)

pub returns-in-Origin-clause-full : goal.returns-in-Origin-clause-full
returns-in-Origin-clause-full c =
    let P : Target → Type 0 = λ target. IfErr c.make_origin.result (λ e. e ≡ JournalFull → IsAskedMuch (changed_under target) (table_of c.args.held.now) (table_of c.make_origin.new.held)) in
    let never = changes_never c.make_origin.result (table_of c.args.held.now) (table_of c.make_origin.new.held) _ c.make_origin.ensures (origin_made_never c.args.name c.args.sectors c.in-Origin.device (table_of c.args.held.now)) in
    subst P (sym c.in-Origin.is) never.other

pub returns-in-Flakey-clause-full : goal.returns-in-Flakey-clause-full
returns-in-Flakey-clause-full c =
    let P : Target → Type 0 = λ target. IfErr c.lay_flakey.result (λ e. e ≡ JournalFull → IsAskedMuch (changed_under target) (table_of c.args.held.now) (table_of c.lay_flakey.new.held)) in
    let never = changes_never c.lay_flakey.result (table_of c.args.held.now) (table_of c.lay_flakey.new.held) _ c.lay_flakey.ensures (laid_never c.args.name _ _ _ c.in-Flakey.device (table_of c.args.held.now)) in
    subst P (sym c.in-Flakey.is) never.other

pub returns-in-Dust-clause-full : goal.returns-in-Dust-clause-full
returns-in-Dust-clause-full c =
    let P : Target → Type 0 = λ target. IfErr c.lay_dust.result (λ e. e ≡ JournalFull → IsAskedMuch (changed_under target) (table_of c.args.held.now) (table_of c.lay_dust.new.held)) in
    let never = changes_never c.lay_dust.result (table_of c.args.held.now) (table_of c.lay_dust.new.held) _ c.lay_dust.ensures (laid_never c.args.name _ _ _ c.in-Dust.device (table_of c.args.held.now)) in
    subst P (sym c.in-Dust.is) never.other

pub returns-in-Error-clause-full : goal.returns-in-Error-clause-full
returns-in-Error-clause-full c =
    let P : Target → Type 0 = λ target. IfErr c.lay_error.result (λ e. e ≡ JournalFull → IsAskedMuch (changed_under target) (table_of c.args.held.now) (table_of c.lay_error.new.held)) in
    let never = changes_never c.lay_error.result (table_of c.args.held.now) (table_of c.lay_error.new.held) _ c.lay_error.ensures (broken_never c.args.name c.args.sectors (table_of c.args.held.now)) in
    subst P (sym c.in-Error.is) never.other
