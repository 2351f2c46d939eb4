-- A request that was submitted to a volume at rest, beside a merge or without one, and whose events were done until none was
-- due.
use Rattle.std.proofs.Common.{◌≡◌, ℕ, ◌+◌, ◌*◌, ◌/◌, ◌≤◌, true, List, [], ◌∷◌, map, Option, Some, None, arith, refl, ap, ◌∙◌, sym, subst}
use Rattle.std.specs.List.{All}
use Rattle.std.proofs.lemmas.List.Elements.{All-nil, All-cons, All-head, All-tail}
use Rattle.device.specs.Layers.{Layer}
use Rattle.sector.specs.declared.range.Range.{Range}
use Rattle.plain_machine.specs.declared.request.Request.{Request}
use Rattle.plain_machine.specs.declared.request.Reply.{Reply}
use Rattle.chunk.specs.Sizes.{is_chunk}
use Rattle.chunk.specs.Pieces.{span_of, IsInOneChunk}
use Rattle.whole_commands.specs.Merges.{Merged, Merging, merged_of as in_one}
use Rattle.whole_commands.specs.MergeShown.{IsMerging}
use Rattle.whole_commands.specs.Snaps.{Snap, Volume}
use Rattle.whole_commands.specs.Pieces.{Answered}
use Rattle.whole_commands.specs.Requests.{answer_of}
use Rattle.whole_commands.specs.Beside.{served_by}
use Rattle.event_machine.specs.Held.{MergeHeld, Moving}
use Rattle.event_machine.specs.Due.{due}
use Rattle.event_machine.specs.MergeRest.{IsBetween, merge_in, in_big_steps}
use Rattle.event_machine.specs.MergeSeen.{held_in}
use Rattle.event_machine.specs.MergeSettles.{part_of, SettlesToReplied}
use Rattle.event_machine.specs.Requests.{volume_of, IsInChunk, IsFit}
use Rattle.event_machine.specs.Settles.{SettlesTo}
use Rattle.event_machine.specs.Submitting.{submitted}
use Rattle.event_machine.proofs.MergeCommands.{alone_between, merged_between}
use Rattle.whole_command_laws.proofs.Requests.{request_settles}
use Rattle.whole_command_laws.proofs.PartsSettle.{part_settles}
use Rattle.snapshot.specs.Kept.{Kept}
use Rattle.merge.specs.Merging.{Merging as MergingKept}
use Rattle.volume.specs.Volumed.{Volumed, piece_with}
use Rattle.volume.specs.Moved.{held_of, merge_seen, moving_of}
use Rattle.volume.specs.Reaching.{Reaches}
use Rattle.volume.proofs.Reaches.{reaches_end, reaches_replied}
use Rattle.volume_commands.specs.Rested.{rested_of, merged_of}
use Rattle.volume_commands.specs.Serving.{CanServe, IsAsLarge, part_done}
use Rattle.volume_commands.proofs.Seen.{settled_same}
use Rattle.volume_commands.proofs.Rests.{one_chunk}

module _ {B : Type 0} (contents : B → List ℕ) (layers : B → List Layer) where
  in_chunks : (range : Range) (chunk : ℕ) (xs : List (Kept B)) → is_chunk chunk ≡ true → IsInOneChunk chunk (span_of range) → All (IsAsLarge chunk) xs → All (IsInChunk range) (map (held_of contents layers) xs)
  in_chunks range chunk [] ok one all = All-nil (IsInChunk range)
  in_chunks range chunk (x ∷ xs) ok one all =
      All-cons (IsInChunk range) (held_of contents layers x) (map (held_of contents layers) xs) (one_chunk chunk x.state.chunk (span_of range) ok (All-head (IsAsLarge chunk) x xs all) one)
      (in_chunks range chunk xs ok one (All-tail (IsAsLarge chunk) x xs all))

  -- no piece is larger than the merge's chunks
  pub held_chunk : (m : Option (MergingKept B)) (snaps : List (Kept B)) (h : MergeHeld) → held_in (merge_seen contents layers m) ≡ Some h → piece_with m snaps ≤ h.merge.chunk
  held_chunk None snaps h e = absurd (cc)
  held_chunk (Some m) snaps h e = (let is : h.merge.chunk ≡ m.state.chunk = ap chunk_in (sym e) in omega (arith, is))
    where
      chunk_in : Option MergeHeld → ℕ
      chunk_in None = 0
      chunk_in (Some k) = k.merge.chunk

  module _ (size : B → ℕ) (request : Request) (number : ℕ) (before reply : Reply) (old mid new : Volumed B) (can : CanServe size request.dev request.op request.range old)
      (between : (replied : Option Reply) → IsBetween (size old.origin) (moving_of contents layers replied old))
      (under : (replied : Option Reply) (h : MergeHeld) → (moving_of contents layers replied old).merge ≡ Some h → IsMerging (size old.origin) (in_big_steps h (moving_of contents layers replied old)))
      (entered : submitted number request (moving_of contents layers (Some before) old) ≡ moving_of contents layers (Some before) mid)
      (reaches : Reaches (moving_of contents layers (Some before) mid) (moving_of contents layers (Some reply) new))
      (none : due (moving_of contents layers (Some reply) new) ≡ None) where
    abbrev start : Moving
    start = moving_of contents layers (Some before) old

    abbrev end : Moving
    end = moving_of contents layers (Some reply) new

    in_piece : IsInOneChunk (piece_with old.merge old.snaps) (span_of request.range)
    in_piece = record { some = can.some; one = can.one }

    fits : IsFit (size old.origin) start.snaps request
    fits = record { some = can.some; inside = can.inside; bytes = can.bytes; chunks = in_chunks request.range (piece_with old.merge old.snaps) old.snaps can.allowed in_piece can.chunks }

    abbrev Did : Type 0
    Did = part_done request (merged_of contents layers (rested_of old)) ≡ record { state = merged_of contents layers (rested_of new); reply = reply }

    abbrev by_merge : Option MergeHeld → Volume → Answered Merged
    by_merge o v = served_by (answer_of request) (part_of request.dev request.op (span_of request.range)) (merge_in o) v

    abbrev with_both : Option MergeHeld → Volume → Merged
    with_both o v = record { volume = v; merge = merge_in o }

    abbrev replied_with : Reply → Merged → Answered Merged
    replied_with r m = record { state = m; reply = r }

    last_same : (w : Moving) → end ≡ w → (o : Option MergeHeld) → w.merge ≡ o → with_both o (volume_of w) ≡ merged_of contents layers (rested_of new)
    last_same w there o is =
        ap (λ x. with_both x (volume_of w)) (sym is) ∙ ap (λ (x : Moving). with_both x.merge (volume_of x)) (sym there) ∙ ap (with_both end.merge) (sym (settled_same contents layers (Some reply) new))

    begins : (o : Option MergeHeld) → start.merge ≡ o → part_done request (merged_of contents layers (rested_of old)) ≡ by_merge o (volume_of start)
    begins o is = ap (by_merge start.merge) (settled_same contents layers (Some before) old) ∙ ap (λ x. by_merge x (volume_of start)) is

    alone_did : start.merge ≡ None → Did
    alone_did is =
        let big : Answered Volume = answer_of request (volume_of start) in
        let to : SettlesTo (size old.origin) (moving_of contents layers (Some before) mid) big = subst (λ (m : Moving). SettlesTo (size old.origin) m big) entered
        (request_settles (size old.origin) number request start (alone_between (size old.origin) start (between (Some before)) is) fits) in
        let there : end ≡ to.last = reaches_end (size old.origin) big (moving_of contents layers (Some before) mid) end to reaches none in
        let mk : _ → List Snap → Volume = λ o (ss : List Snap). record { origin = o; snaps = ss } in
        let volume : volume_of to.last ≡ big.state = ap (λ o. mk o (volume_of to.last).snaps) to.origin ∙ ap (mk big.state.origin) to.snaps in
        let replied : Some reply ≡ Some big.reply = ap (λ (x : Moving). x.replied) there ∙ to.reply in
        let same : reply ≡ big.reply = cc in
        begins None is ∙ ap (λ r. replied_with r (with_both None big.state)) (sym same) ∙ ap (λ v. replied_with reply (with_both None v)) (sym volume)
        ∙ ap (replied_with reply) (last_same to.last there None to.rest.alone)

    beside_did : (h : MergeHeld) → start.merge ≡ Some h → Did
    beside_did h is =
        let m : Merging = in_big_steps h start in
        let big : Answered Merging = part_of request.dev request.op (span_of request.range) m in
        let one : request.range.first + request.range.count ≤ h.merge.chunk * (request.range.first / h.merge.chunk) + h.merge.chunk =
        one_chunk (piece_with old.merge old.snaps) h.merge.chunk (span_of request.range) can.allowed ((under (Some before) h is).allowed, held_chunk old.merge old.snaps h is) in_piece in
        let to : SettlesToReplied (size old.origin) (moving_of contents layers (Some before) mid) big = subst (λ (x : Moving). SettlesToReplied (size old.origin) x big) entered
        (part_settles (size old.origin) number request start h (merged_between (size old.origin) h start (between (Some before)) is) (under (Some before) h is) fits one) in
        let there : end ≡ to.last = reaches_replied (size old.origin) big (moving_of contents layers (Some before) mid) end to reaches none in
        let replied : Some reply ≡ Some big.reply = ap (λ (x : Moving). x.replied) there ∙ to.reply in
        let same : reply ≡ big.reply = cc in
        begins (Some h) is ∙ ap (λ r. replied_with r (in_one big.state)) (sym same) ∙ ap (λ (x : Merging). replied_with reply (in_one x)) (sym to.is)
        ∙ ap (replied_with reply) (last_same to.last there (Some to.held) to.rest.is)

    pub served_did : Did
    served_did = by start.merge refl
      where
        by : (o : Option MergeHeld) → start.merge ≡ o → Did
        by None is = alone_did is
        by (Some h) is = beside_did h is
