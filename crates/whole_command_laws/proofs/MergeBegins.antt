-- A merge begins: the origin shows what the snapshot showed, and nothing else changes.
use Rattle.std.proofs.Common.{◌≡◌, inl, inr, ℕ, ◌*◌, true, List, [], ◌∷◌, length, arith, ap, ◌∙◌, sym, subst}
use Rattle.std.specs.Prelude.{◌==◌, Option, Some, None}
use Rattle.std.specs.List.{All}
use Rattle.std.proofs.lemmas.Bool.{cases_Bool, cond-true, cond-false}
use Rattle.std.proofs.lemmas.Nat.{mod_below, div-add-mod'}
use Rattle.chunk.specs.Sizes.{is_chunk}
use Rattle.cow_format.specs.Pairs.{pairs_of}
use Rattle.plain_machine.specs.Plain.{Live}
use Rattle.whole_commands.specs.Snaps.{Snap, Volume, shown}
use Rattle.whole_commands.specs.Attaching.{detached}
use Rattle.whole_commands.specs.Merges.{Merged, Merging, merged_of, merge_of, snap_named, begun_with, begun}
use Rattle.whole_commands.specs.MergeShown.{IsWell, IsMerging, origin_shown}
use Rattle.whole_commands.proofs.Each.{Each, each_from, all_from}

-- without a merge, and with that of a snapshot
abbrev pub unmerged : Volume → Merged
unmerged v = record { volume = v; merge = None }

abbrev pub begun_by : ℕ → Volume → Snap → Merging
begun_by number v s = record { volume = record { origin = v.origin; snaps = detached number v.snaps }; merge = merge_of s }

-- the merge of a live snapshot is begun
pub begins : (number : ℕ) (v : Volume) (s : Snap) → snap_named number v.snaps ≡ Some s → s.live ≡ true → begun number (unmerged v) ≡ merged_of (begun_by number v s)
begins number v s named live = named_so (snap_named number v.snaps) named
  where
    named_so : (o : Option Snap) → o ≡ Some s → begun_with o number v ≡ merged_of (begun_by number v s)
    named_so None is = absurd (cc)
    named_so (Some t) is = ap (λ o. begun_with o number v) is ∙ cond-true _ _ _ live

-- the origin shows what the snapshot showed
pub begin_shows : (number : ℕ) (v : Volume) (s : Snap) → snap_named number v.snaps ≡ Some s → s.live ≡ true → Live (origin_shown (begun number (unmerged v))) ≡ shown v.origin.bytes s
begin_shows number v s named live = ap (λ (m : Merged). Live (origin_shown m)) (begins number v s named live) ∙ sym (cond-true _ _ _ live)

-- the other snapshots are those that were there
each_detached : (P : Snap → Type 0) (number : ℕ) (snaps : List Snap) → Each P snaps → Each P (detached number snaps)
each_detached P number [] all = tt
each_detached P number (s ∷ snaps) all = elim (cases_Bool (s.number == number)) [
  | inl this ↦ subst (Each P) (sym (cond-true _ _ _ this)) all.1
  | inr other ↦ subst (Each P) (sym (cond-false _ _ _ other)) (all.0, each_detached P number snaps all.1)
]

named_has : (P : Snap → Type 0) (number : ℕ) (snaps : List Snap) (s : Snap) → Each P snaps → snap_named number snaps ≡ Some s → P s
named_has P number [] s all is = absurd (cc)
named_has P number (t ∷ snaps) s all is = elim (cases_Bool (t.number == number)) [
  | inl this ↦ (let e : Some t ≡ Some s = sym (cond-true _ _ _ this) ∙ is in let same : t ≡ s = cc in subst P same all.0)
  | inr other ↦ named_has P number snaps s all.1 (sym (cond-false _ _ _ other) ∙ is)
]

-- the merge is under way
pub begins_well : (sectors number : ℕ) (v : Volume) (s : Snap) → length v.origin.bytes ≡ 512 * sectors → All (IsWell sectors) v.snaps → All (λ s. is_chunk s.chunk ≡ true) v.snaps → snap_named number v.snaps ≡ Some s → s.live ≡ true → IsMerging sectors (begun_by number v s)
begins_well sectors number v s whole well chunks named live =
    let HasChunk : Snap → Type 0 = λ (t : Snap). is_chunk t.chunk ≡ true in
    let wells : Each (IsWell sectors) v.snaps = each_from (IsWell sectors) v.snaps well in
    let same : Each HasChunk v.snaps = each_from HasChunk v.snaps chunks in
    let (size, order) = named_has (IsWell sectors) number v.snaps s wells named live in
    let pos = order.some in
    let parts = div-add-mod' (length (pairs_of s.chunk s.store.bytes)) (32 * s.chunk) in
    let below = mod_below (length (pairs_of s.chunk s.store.bytes)) (32 * s.chunk) (omega arith) in
    record {
      whole = whole;
      merge = record { some = order.some; size = size; whole = order.whole; pairs = order.pairs; low = omega arith; high = omega arith };
      snaps = all_from (IsWell sectors) (detached number v.snaps) (each_detached (IsWell sectors) number v.snaps wells);
      allowed = named_has HasChunk number v.snaps s same named;
      chunks = all_from HasChunk (detached number v.snaps) (each_detached HasChunk number v.snaps same);
    }
