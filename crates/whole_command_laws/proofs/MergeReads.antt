-- Reads of many sectors of the origin while a merge is begun: nobody sees them, and they answer what the origin shows.
use Rattle.std.proofs.Common.{◌≡◌, ◌⊎◌, inl, inr, ℕ, ◌+◌, ◌*◌, ◌-◌, ◌/◌, ◌≤◌, true, List, [], ◌∷◌, ◌++◌, length, arith, rules, refl, ap, ◌∙◌, sym, subst, append_assoc, append-nil}
use Rattle.std.proofs.lemmas.Bool.{cases_Bool, cond-true, cond-false}
use Rattle.std.proofs.lemmas.List.{places, same_lists}
use Rattle.sector.specs.Bytes.{sectors_at}
use Rattle.chunk.specs.Pieces.{Span, Join, IsInOneChunk, pieces_of}
use Rattle.chunk.proofs.Whole.{cut_pieces}
use Rattle.plain_machine.specs.declared.request.Dev.TheVariants.{Origin}
use Rattle.plain_machine.specs.declared.request.Reply.{Reply}
use Rattle.plain_machine.specs.declared.request.Reply.TheVariants.{Data, Refused}
use Rattle.plain_machine.specs.declared.request.Failure.TheVariants.{Io}
use Rattle.cow_format.proofs.Pictures.{length-picture}
use Rattle.chunk.specs.Sizes.{is_chunk}
use Rattle.chunk.proofs.Limits.{is_chunk-some}
use Rattle.chunk.proofs.Wider.{wider}
use Rattle.chunk.proofs.PiecePlaces.{join_le, piece_high}
use Rattle.whole_commands.specs.Commands.{go_on, bytes_in}
use Rattle.whole_commands.specs.Merges.{Merging, read_part, read_parts, read_through, least_chunk}
use Rattle.whole_commands.specs.MergeShown.{IsMerging, IsUnseen, shown_through}
use Rattle.whole_commands.proofs.Each.{Each, each_from}
use Rattle.whole_command_laws.proofs.MergeShows.{unseen_then, unseen_still}
use Rattle.whole_command_laws.proofs.MergeServes.{ReadsThrough, reads_through}
use Rattle.whole_command_laws.proofs.MergeSaves.{HasLeast, has_least}
use Rattle.whole_commands.specs.Pieces.{Answered}

-- two runs of sectors side by side
sectors_join : (b : List ℕ) (first c d : ℕ) → 512 * (first + c + d) ≤ length b → sectors_at b first c ++ sectors_at b (first + c) d ≡ sectors_at b first (c + d)
sectors_join b first c d fits = same_lists _ _ (search (rules, places)) (λ k e h. grind (arith, places))

-- A read of sectors from one on, after these bytes.
pub record ReadsRange (sectors first count : ℕ) (before : List ℕ) (m : Merging) (r : Answered Merging) : Type 0 where
  pub unseen : IsUnseen sectors m r.state
  pub reply : (r.reply ≡ Data (before ++ sectors_at (shown_through m) first count)) ⊎ (r.reply ≡ Refused Io)

module _ (sectors chunk : ℕ) (allowed : is_chunk chunk ≡ true) where
  pub range_read : (a b : ℕ) (pieces : List Span) (before : List ℕ) (m : Merging) → IsMerging sectors m → chunk ≤ m.merge.chunk → Join a b pieces → Each (IsInOneChunk chunk) pieces → b ≤ sectors → ReadsRange sectors a (b - a) before m (read_parts Origin pieces before m)
  range_read a b [] before m is wide join one inside =
      let none : b - a ≡ 0 = omega arith in record {
        unseen = unseen_still sectors m m is refl refl refl refl refl;
        reply = inl (ap Data (sym (append-nil before)) ∙ ap (λ n. Data (before ++ sectors_at (shown_through m) a n)) (sym none));
      }
  range_read a b (p ∷ pieces) before m is wide join one inside =
      let start : p.first ≡ a = join.0 in
      let end = join_le (a + p.count) b pieces join.1 in
      let high : p.first + p.count ≤ chunk * (p.first / chunk) + chunk = piece_high chunk p.first p.count (is_chunk-some chunk allowed) one.0.some one.0.one in
      let fits : p.first + p.count ≤ m.merge.chunk * (p.first / m.merge.chunk) + m.merge.chunk = wider chunk m.merge.chunk p.first p.count allowed is.allowed wide high in
      let here : Answered Merging = read_part Origin p m in
      let w : ReadsThrough sectors a p.count m here = subst (λ (n : ℕ). ReadsThrough sectors n p.count m here) start (reads_through sectors p m is one.0.some (omega arith) fits) in
      let after : Reply → Answered Merging = λ (r : Reply). go_on r here (read_parts Origin pieces (before ++ bytes_in r) here.state) in
      let got : List ℕ = sectors_at (shown_through m) a p.count in
      elim (cases_Bool w.done) [
        | inr lost ↦ (let refused : here.reply ≡ Refused Io = w.reply ∙ cond-false _ _ _ lost in
            subst (ReadsRange sectors a (b - a) before m) (sym (ap after refused)) (record { unseen = w.unseen; reply = inr refused }))
        | inl done ↦ (let is_read : here.reply ≡ Data got = w.reply ∙ cond-true _ _ _ done in
            let more : ReadsRange sectors (a + p.count) (b - (a + p.count)) (before ++ got) here.state (read_parts Origin pieces (before ++ got) here.state) = range_read (a + p.count) b pieces (before ++ got) here.state w.unseen.holds (subst (λ (n : ℕ). chunk ≤ n) (sym w.unseen.chunk) wide) join.1 one.1 inside in
            let whole = is.whole in
            let room = length-picture m.merge.chunk m.volume.origin.bytes m.merge.store.bytes in
            let joined : sectors_at (shown_through m) a p.count ++ sectors_at (shown_through m) (a + p.count) (b - (a + p.count)) ≡ sectors_at (shown_through m) a (p.count + (b - (a + p.count))) = sectors_join (shown_through m) a p.count (b - (a + p.count)) (omega arith) in
            let all : p.count + (b - (a + p.count)) ≡ b - a = omega arith in
            subst (ReadsRange sectors a (b - a) before m) (sym (ap after is_read)) (record {
              unseen = unseen_then sectors m here.state (read_parts Origin pieces (before ++ got) here.state).state w.unseen more.unseen;
              reply = elim more.reply [
                | inl data_is ↦ inl (data_is ∙ ap (λ x. Data ((before ++ got) ++ sectors_at x (a + p.count) (b - (a + p.count)))) w.unseen.origin
                    ∙ ap Data (append_assoc before got (sectors_at (shown_through m) (a + p.count) (b - (a + p.count))))
                    ∙ ap (λ x. Data (before ++ x)) (joined ∙ ap (sectors_at (shown_through m) a) all))
                | inr refused ↦ inr refused
              ];
            }))
      ]

-- a whole read of the origin
pub command_read : (sectors : ℕ) (span : Span) (m : Merging) → IsMerging sectors m → span.first + span.count ≤ sectors → ReadsRange sectors span.first span.count [] m (read_through Origin span m)
unfolding read_through
command_read sectors span m is inside =
    let chunk : ℕ = least_chunk m in
    let fits : HasLeast m = has_least sectors m is in
    let pieces : List Span = pieces_of chunk span in
    let cut = cut_pieces chunk span pieces refl (is_chunk-some chunk fits.allowed) in
    let all : span.first + span.count - span.first ≡ span.count = omega arith in
    subst (λ (n : ℕ). ReadsRange sectors span.first n [] m (read_parts Origin (pieces_of (least_chunk m) span) [] m)) all
    (range_read sectors chunk fits.allowed span.first (span.first + span.count) pieces [] m is fits.merge cut.join (each_from (IsInOneChunk chunk) pieces cut.inside) inside)
