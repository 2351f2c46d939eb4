use Rattle.std.proofs.Common.{◌≡◌, ◌∙◌, ◌+◌, ◌++◌, ◌∷◌, [], ap, refl, sym, subst, true, false, arith, inl, inr}
use Rattle.std.specs.Prelude.{◌&&◌, Option, is_some}
use Rattle.std.proofs.lemmas.Bool.{cases_Bool}
use Rattle.device.specs.Layers.{is_loud}
use Rattle.command_semantics.specs.Stacks.{device_of}
use Rattle.command_semantics.specs.State.{Stacked, Volume}
use Rattle.device_list.specs.Backed.{Backed}
use Rattle.layers.specs.Stack.{stack_contents, stack_size}
use Rattle.layers.specs.declared.stack.Stack.{Stack}
use Rattle.whole_commands.specs.Refusals.{is_starved}
use Rattle.merge.specs.Merging.{Merging}
use Rattle.volume.specs.Leaving.{is_quiet_of}
use Rattle.volume_commands.specs.Rested.{Rested}
use Rattle.device_list.specs.Held.{flying_in, merged_inside, merging_with, settled_in}
use Rattle.device_list.proofs.Merges.{begun_too, merge_by, merging_as_before}
use Rattle.device_list.proofs.Meets.{met, unmet, busy_back, read_same}
use Rattle.device_list.proofs.Parts.{no_both}
use Rattle.device_list.proofs.Refused.{as_many, refused_seen}
use Rattle.device_list.proofs.origin.NamedVolume.attach.Goals.{then-self, else-self}
use Rattle.device_list.proofs.Filled.{asked_err}
use Rattle.device_list.proofs.origin.NamedVolume.attach.Goals as goal

pub returns-after-self-clause-ok : goal.returns-after-self-clause-ok
returns-after-self-clause-ok c =
    rw (← c.self.view_is) (rw c.into_parts-names.ensures (rw c.in-Ok-attach.ensures.seen.quiet.1 (rw c.in-Ok-attach.ensures.seen.quiet.0 (λ sound quiet loud.
    let here : Stacked = record { names = c.into_parts-names.result.0.items; device = device_of c.into_parts-names.result.1; stale = c.into_parts-names.result.2 } in
    let same : c.is_loud-loud.result ≡ is_loud here.device.layers = c.is_loud-loud.ensures ∙ ap (λ (s : Stacked). is_loud s.device.layers) c.into_parts-names.ensures in
    let both : c.if-self.self ≡ (c.self.inside.sound && is_loud here.device.layers) =
    elim c.if-self.branch [ then-self w ↦ rw sound (w.self-is ∙ same) | else-self w ↦ absurd (cc) ] in
    let alone = c.in-Ok-attach.ensures.seen.alone in
    let unmerged : (merged_inside c.attach.new.self.rested).merge ≡ (merged_inside c.self.inside.volume.rested).merge = ap (λ (o : Option (Merging Stack)). merge_by o) (alone.1 ∙ sym alone.0) in
    let none : is_some (merging_with c.self.inside.merging c.self.inside.volume.rested) ≡ false = begun_too _ c.self.inside.volume.rested c.self.invariant.begun ∙ c.self.invariant.begun ∙ ap (λ (o : Option (Merging Stack)). is_some o) alone.0 in
    rw (merging_as_before c.self.inside.merging c.self.inside.volume.rested c.attach.new.self.rested unmerged) (
    met c.args.name c.args.chunk c.args.overflow here _ c.push_reserved.new.self.items (settled_in c.attach.new.self.rested) c.attach.new.self.rested.attached c.in-Ok-attach.field-0 c.if-self.self none
    (c.in-Ok-attach.ensures.does.number ∙ ap (λ (x : Rested Stack). x.attached + 1) (sym c.attach.ensures.whole.0)) (c.in-Ok-attach.ensures.seen.exact (c.look.ensures c.in-Ok-attach.ensures.seen.quiet.0 (c.self.invariant.loud sound)) loud)
    (c.push_reserved.ensures.items ∙ ap (λ names. names ++ (record { snapshot = c.args.name; store = here.names; overflow = c.args.overflow }) ∷ []) c.reserve.ensures.items) c.in-Ok-attach.ensures.seen.taken.attached both)))))

pub returns-in-Err-attach-clause-err : goal.returns-in-Err-attach-clause-err
returns-in-Err-attach-clause-err c =
    rw (← c.self.view_is) (λ other sound quiet loud. elim c.in-Err-attach.ensures.refused [
      | inl starved ↦ absurd (no_both (is_starved c.in-Err-attach.refusal) starved.0 other)
      | inr why ↦
          unmet c.args.chunk (stack_size c.self.inside.volume.rested.origin) _ (stack_contents c.into_parts-names.result.1) c.into_parts-names.result.0.items c.into_parts-names.result.1 c.into_parts-names.result.2 c.in-Err-attach.store c.args.stack c.of_parts.result c.self.inside.volume.rested.events c.in-Err-attach.refusal
          why c.in-Err-attach.ensures.does.unread c.into_parts-names.ensures c.of_parts.ensures c.args.name c.args.overflow _ (settled_in c.attach.new.self.rested)
          (begun_too _ c.self.inside.volume.rested c.self.invariant.begun ∙ c.self.invariant.begun) c.in-Err-attach.ensures.does.stale
          (λ fresh. c.in-Err-attach.ensures.seen.back other fresh (c.look.ensures quiet (c.self.invariant.loud sound)) (subst (λ (s : Stacked). is_loud s.device.layers ≡ true) c.into_parts-names.ensures loud))
    ])

pub returns-in-Err-attach-clause-starved : goal.returns-in-Err-attach-clause-starved
returns-in-Err-attach-clause-starved c = λ none.
    let e = c.in-Err-attach.ensures.does.starved none in
    rw c.into_parts-names.ensures (rw c.of_parts.ensures (rw (read_same c.into_parts-names.result.1 c.in-Err-attach.store.device e.0 e.1) (rw c.in-Err-attach.ensures.does.stale refl)))

pub returns-in-Err-attach-clause-busy : goal.returns-in-Err-attach-clause-busy
returns-in-Err-attach-clause-busy c =
    rw (← c.self.view_is) (λ busy. elim c.in-Err-attach.ensures.refused [
      | inl starved ↦ (inl starved.0, rw c.into_parts-names.ensures (rw c.of_parts.ensures (rw starved.1 refl)))
      | inr why ↦
          busy_back c.args.chunk (stack_size c.self.inside.volume.rested.origin) _ (stack_contents c.into_parts-names.result.1) c.into_parts-names.result.0.items c.into_parts-names.result.1 c.into_parts-names.result.2 c.in-Err-attach.store c.args.stack c.of_parts.result c.self.inside.volume.rested.events c.in-Err-attach.refusal
          why c.in-Err-attach.ensures.does.unread c.into_parts-names.ensures c.of_parts.ensures _ (begun_too _ c.self.inside.volume.rested c.self.invariant.begun ∙ c.self.invariant.begun) busy
    ])

pub returns-in-Err-attach-clause-refused : goal.returns-in-Err-attach-clause-refused
returns-in-Err-attach-clause-refused c =
    rw (← c.self.view_is) (elim c.in-Err-attach.ensures.refused [
      | inl starved ↦ inl starved.0
      | inr why ↦ inr (rw c.into_parts-names.ensures (record {
        events = c.self.inside.volume.rested.events;
        origin = c.self.inside.volume.rested.origin;
        store = c.into_parts-names.result.1;
        quiet = refl;
        merge = sym (begun_too _ c.self.inside.volume.rested c.self.invariant.begun ∙ c.self.invariant.begun);
        snaps = as_many c.self.inside.volume.rested c.attach.ensures.whole.0;
        given = sym (ap (λ (x : Rested Stack). x.attached) c.attach.ensures.whole.0);
        origin_is = refl;
        store_is = refl;
        cause = why;
      }))
    ])

-- at most its origin was flushed
pub returns-in-Err-attach-clause-same : goal.returns-in-Err-attach-clause-same
returns-in-Err-attach-clause-same c =
    let m = c.self.inside in
    let held : Volume = record {
      origin = m.origin;
      under = m.under.items;
      stale = m.stale;
      snaps = m.snaps.items;
      merging = merging_with m.merging m.volume.rested;
      state = settled_in m.volume.rested;
      given = m.volume.rested.attached;
      asked = m.asked;
      sound = m.sound;
      quiet = is_quiet_of m.volume.rested.events;
      flying = flying_in m.volume.rested.events;
    } in
    rw c.reserve.ensures.items (refused_seen c.in-Err-attach.refusal m.volume.rested c.attach.new.self.rested c.in-Err-attach.ensures.seen.same held m.merging ∙ ap (λ (v : Backed). v.shown) c.self.view_is)

pub returns-in-Err-attach-clause-full : goal.returns-in-Err-attach-clause-full
returns-in-Err-attach-clause-full c =
    let was = c.self.inside.volume in
    asked_err _ c.in-Err-attach.refusal was.taken was.rested.requests was.rested.attached c.self.inside.asked c.attach.new.self.rested.attached c.in-Err-attach.ensures.places.full (elim (cases_Bool c.args.overflow) [ inl does ↦ rw does (omega arith) | inr never ↦ rw never (omega arith) ]) c.look_at_places.ensures c.self.invariant.requests (ap (λ (x : Rested Stack). x.attached) c.in-Err-attach.ensures.seen.same.becomes)
