-- Writes of many sectors of the origin while a merge is begun: the pieces that were done stand in what it shows.
use Rattle.std.proofs.Common.{◌≡◌, ◌⊎◌, inl, inr, ℕ, ◌+◌, ◌*◌, ◌-◌, ◌/◌, ◌≤◌, true, false, List, [], ◌∷◌, ◌++◌, length, take, drop, arith, rules, refl, ap, ◌∙◌, sym, subst, length-take, length-drop}
use Rattle.std.proofs.lemmas.Bool.{cases_Bool, cond-true, cond-false}
use Rattle.std.proofs.lemmas.List.{places, same_lists, take-append-drop, length-take-le}
use Rattle.sector.specs.Bytes.{with_sectors}
use Rattle.chunk.specs.Pieces.{Span, Join, IsInOneChunk, pieces_of}
use Rattle.chunk.proofs.Whole.{cut_pieces}
use Rattle.plain_machine.specs.declared.request.Dev.TheVariants.{Origin}
use Rattle.plain_machine.specs.declared.request.Reply.{Reply}
use Rattle.plain_machine.specs.declared.request.Reply.TheVariants.{Written, Refused}
use Rattle.plain_machine.specs.declared.request.Failure.TheVariants.{Io}
use Rattle.cow_format.proofs.Pictures.{length-picture}
use Rattle.chunk.specs.Sizes.{is_chunk}
use Rattle.chunk.proofs.Limits.{is_chunk-some}
use Rattle.chunk.proofs.Wider.{wider}
use Rattle.chunk.proofs.PiecePlaces.{join_le, piece_high}
use Rattle.whole_commands.specs.Shown.{ShowTheSame}
use Rattle.whole_commands.specs.Commands.{go_on}
use Rattle.whole_commands.specs.Merges.{Merging, write_part, write_parts, written_through, least_chunk}
use Rattle.whole_commands.specs.MergeShown.{IsMerging, shown_through}
use Rattle.whole_commands.proofs.Each.{Each, each_from}
use Rattle.whole_commands.proofs.Chunks.{IsWide, HasChunks}
use Rattle.whole_command_laws.proofs.MergeSaves.{show_same, show_then, HasLeast, has_least, one_wider}
use Rattle.whole_command_laws.proofs.MergeServes.{WritesThrough, writes_through, part_keeps}
use Rattle.whole_commands.specs.Pieces.{Answered}

-- nothing written, and two writes side by side
wrote_none : (a : List ℕ) (first : ℕ) → with_sectors a first [] ≡ a
wrote_none a first = ap (λ n. take (512 * first) a ++ drop n a) (omega arith) ∙ take-append-drop (512 * first) a

wrote_more : (a x y : List ℕ) (first c : ℕ) → length x ≡ 512 * c → 512 * first + length x + length y ≤ length a → with_sectors (with_sectors a first x) (first + c) y ≡ with_sectors a first (x ++ y)
wrote_more a x y first c len fits = same_lists _ _ (search (rules, places)) (λ k d h. grind (arith, places))

take_more : (n m : ℕ) (xs : List ℕ) → n ≤ length xs → take n xs ++ take m (drop n xs) ≡ take (n + m) xs
take_more n m xs le = same_lists _ _ (search (rules, places)) (λ k d h. grind (arith, places))

-- A write of sectors from one on, of which so many were done: all of them, or the rest was refused with Io.
pub record WritesRange (sectors first count : ℕ) (bytes : List ℕ) (m : Merging) (r : Answered Merging) : Type 0 where
  pub holds : IsMerging sectors r.state
  pub chunk : r.state.merge.chunk ≡ m.merge.chunk
  pub done : ℕ
  pub most : done ≤ count
  pub origin : shown_through r.state ≡ with_sectors (shown_through m) first (take (512 * done) bytes)
  pub reply : ((r.reply ≡ Written) × (done ≡ count)) ⊎ (r.reply ≡ Refused Io)
  pub snaps : ShowTheSame m.volume.origin.bytes r.state.volume.origin.bytes m.volume.snaps r.state.volume.snaps

module _ (sectors chunk : ℕ) (allowed : is_chunk chunk ≡ true) where
  -- the first piece was refused
  range_refused : (first b : ℕ) (p : Span) (pieces : List Span) (bytes : List ℕ) (m : Merging) (w : WritesThrough sectors first (take (512 * p.count) bytes) m (write_part Origin p (take (512 * p.count) bytes) m)) → first ≤ b → w.wrote ≡ false →
      WritesRange sectors first (b - first) bytes m (write_parts Origin (p ∷ pieces) bytes m)
  range_refused first b p pieces bytes m w le lost =
      let here : Answered Merging = write_part Origin p (take (512 * p.count) bytes) m in
      let refused : here.reply ≡ Refused Io = w.reply ∙ cond-false _ _ _ lost in
      let rest : Answered Merging = write_parts Origin pieces (drop (512 * p.count) bytes) here.state in
      subst (WritesRange sectors first (b - first) bytes m) (sym (ap (λ (r : Reply). go_on r here rest) refused)) (record {
        holds = w.holds;
        chunk = w.chunk;
        done = 0;
        most = omega arith;
        origin = w.origin ∙ cond-false _ _ _ lost ∙ sym (wrote_none (shown_through m) first);
        reply = inr refused;
        snaps = w.snaps;
      })

  pub range_written : (a b : ℕ) (pieces : List Span) (bytes : List ℕ) (m : Merging) → IsMerging sectors m → chunk ≤ m.merge.chunk → Each (HasChunks chunk) m.volume.snaps → Join a b pieces → Each (IsInOneChunk chunk) pieces → b ≤ sectors → length bytes ≡ 512 * (b - a) → a ≤ b → WritesRange sectors a (b - a) bytes m (write_parts Origin pieces bytes m)
  range_written a b [] bytes m is wide each join one inside len le = record {
    holds = is;
    chunk = refl;
    done = 0;
    most = omega arith;
    origin = sym (wrote_none (shown_through m) a);
    reply = inl (refl, omega arith);
    snaps = show_same m.volume.origin.bytes m.volume.snaps;
  }
  range_written a b (p ∷ pieces) bytes m is wide each join one inside len le =
      let start : p.first ≡ a = join.0 in
      let end = join_le (a + p.count) b pieces join.1 in
      let front : length (take (512 * p.count) bytes) ≡ 512 * p.count = simp length-take (omega arith) in
      let back : length (drop (512 * p.count) bytes) ≡ 512 * (b - (a + p.count)) = simp length-drop (omega arith) in
      let high : p.first + p.count ≤ chunk * (p.first / chunk) + chunk = piece_high chunk p.first p.count (is_chunk-some chunk allowed) one.0.some one.0.one in
      let fits : p.first + p.count ≤ m.merge.chunk * (p.first / m.merge.chunk) + m.merge.chunk = wider chunk m.merge.chunk p.first p.count allowed is.allowed wide high in
      let here : Answered Merging = write_part Origin p (take (512 * p.count) bytes) m in
      let rest : Answered Merging = write_parts Origin pieces (drop (512 * p.count) bytes) here.state in
      let w : WritesThrough sectors a (take (512 * p.count) bytes) m here = subst (λ (n : ℕ). WritesThrough sectors n (take (512 * p.count) bytes) m here) start (writes_through sectors p m is one.0.some (omega arith) fits (one_wider chunk p.first p.count m.volume.snaps allowed high each) (take (512 * p.count) bytes) front) in
      elim (cases_Bool w.wrote) [
        | inr lost ↦ range_refused a b p pieces bytes m w le lost
        | inl wrote ↦ (let written : here.reply ≡ Written = w.reply ∙ cond-true _ _ _ wrote in
            let more : WritesRange sectors (a + p.count) (b - (a + p.count)) (drop (512 * p.count) bytes) here.state rest = range_written (a + p.count) b pieces (drop (512 * p.count) bytes) here.state w.holds (subst (λ (n : ℕ). chunk ≤ n) (sym w.chunk) wide) (part_keeps (IsWide chunk) p (take (512 * p.count) bytes) m each) join.1 one.1 inside back end in
            let most = more.most in
            let whole = is.whole in
            let room = length-picture m.merge.chunk m.volume.origin.bytes m.merge.store.bytes in
            let tail : length (take (512 * more.done) (drop (512 * p.count) bytes)) ≡ 512 * more.done = length-take-le (512 * more.done) (drop (512 * p.count) bytes) (omega arith) in
            subst (WritesRange sectors a (b - a) bytes m) (sym (ap (λ (r : Reply). go_on r here rest) written)) (record {
              holds = more.holds;
              chunk = more.chunk ∙ w.chunk;
              done = p.count + more.done;
              most = omega arith;
              origin = more.origin ∙ ap (λ x. with_sectors x (a + p.count) (take (512 * more.done) (drop (512 * p.count) bytes))) (w.origin ∙ cond-true _ _ _ wrote)
                  ∙ wrote_more (shown_through m) (take (512 * p.count) bytes) (take (512 * more.done) (drop (512 * p.count) bytes)) a p.count front (omega arith)
                  ∙ ap (with_sectors (shown_through m) a) (take_more (512 * p.count) (512 * more.done) bytes (omega arith) ∙ ap (λ n. take n bytes) (omega arith));
              reply = elim more.reply [ inl all ↦ inl (all.0, let last = all.1 in omega arith) | inr refused ↦ inr refused ];
              snaps = show_then m.volume.origin.bytes here.state.volume.origin.bytes rest.state.volume.origin.bytes m.volume.snaps here.state.volume.snaps rest.state.volume.snaps w.snaps more.snaps;
            }))
      ]

-- a whole write of the origin
pub command_written : (sectors : ℕ) (span : Span) (bytes : List ℕ) (m : Merging) → IsMerging sectors m → span.first + span.count ≤ sectors → length bytes ≡ 512 * span.count → WritesRange sectors span.first span.count bytes m (written_through Origin span bytes m)
unfolding written_through
command_written sectors span bytes m is inside len =
    let chunk : ℕ = least_chunk m in
    let fits : HasLeast m = has_least sectors m is in
    let pieces : List Span = pieces_of chunk span in
    let cut = cut_pieces chunk span pieces refl (is_chunk-some chunk fits.allowed) in
    let all : span.first + span.count - span.first ≡ span.count = omega arith in
    subst (λ (n : ℕ). WritesRange sectors span.first n bytes m (write_parts Origin (pieces_of (least_chunk m) span) bytes m)) all
    (range_written sectors chunk fits.allowed span.first (span.first + span.count) pieces bytes m is fits.merge fits.snaps cut.join (each_from (IsInOneChunk chunk) pieces cut.inside) inside (omega arith) (omega arith))
