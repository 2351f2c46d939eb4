-- The lines of a text, one letter further.
use Rattle.std.proofs.Common.{arith, ◌≡◌, ◌≢◌, ◌∙◌, ◌∷◌, ◌++◌, ◌+◌, ◌-◌, ◌<◌, ◌≤◌, ◌==◌, ℕ, List, [], Option, Some, true, false, ap, sym, subst, drop, take, length, slice_index_or, if◌then◌else◌}
use Rattle.std.proofs.lemmas.List.{at_drop_more, drop_all, drop-append-le, drop-take, take_more}
use Rattle.std.proofs.lemmas.Grind.{common_steps}
use Rattle.serve_files.specs.Listing.{Given, is_given, left_out, unless_given}

-- what stands between two places
pub between : (from place : ℕ) (text : List ℕ) → from ≤ place → drop from (take place text) ≡ take (place - from) (drop from text)
between from place text le = subst (λ k. drop from (take k text) ≡ take (place - from) (drop from text)) (let same : from + (place - from) ≡ place = grind arith in same) (drop-take from (place - from) text)

-- a line that begins has nothing yet, and else has a letter more
pub begins : (place : ℕ) (text : List ℕ) → drop (place + 1) (take (place + 1) text) ≡ []
begins place text = drop_all (place + 1) (take (place + 1) text) (grind (arith, common_steps))

pub goes_on : (from place : ℕ) (text : List ℕ) (d : ℕ) → from ≤ place → place < length text → drop from (take (place + 1) text) ≡ drop from (take place text) ++ slice_index_or text place d ∷ []
goes_on from place text d le within = ap (drop from) (take_more text place d within) ∙ drop-append-le from (take place text) (slice_index_or text place d ∷ []) (grind (arith, common_steps))

module _ (given : Given) (line text : List ℕ) (place d : ℕ) (within : place < length text) where
  one_letter : left_out given line (drop place text) ≡ (if slice_index_or text place d == 10 then unless_given given line (left_out given [] (drop (place + 1) text)) else left_out given (line ++ slice_index_or text place d ∷ []) (drop (place + 1) text))
  one_letter = at_drop_more (left_out given line) text place d within

  -- a line ends that is given, or not
  ended_line : slice_index_or text place d ≡ 10 → left_out given line (drop place text) ≡ unless_given given line (left_out given [] (drop (place + 1) text))
  ended_line break = one_letter ∙ ap (λ x. if x == 10 then unless_given given line (left_out given [] (drop (place + 1) text)) else left_out given (line ++ slice_index_or text place d ∷ []) (drop (place + 1) text)) break

  pub is_left : slice_index_or text place d ≡ 10 → is_given given line ≡ false → left_out given line (drop place text) ≡ Some line
  is_left break other = ended_line break ∙ ap (λ b. if b then left_out given [] (drop (place + 1) text) else Some line) other

  pub is_not_left : slice_index_or text place d ≡ 10 → is_given given line ≡ true → left_out given line (drop place text) ≡ left_out given [] (drop (place + 1) text)
  is_not_left break same = ended_line break ∙ ap (λ b. if b then left_out given [] (drop (place + 1) text) else Some line) same

  -- or no line ends
  no_break : (x : ℕ) → x ≢ 10 → (x == 10) ≡ false
  no_break x other = grind (arith, common_steps)

  pub same_line : slice_index_or text place d ≢ 10 → left_out given line (drop place text) ≡ left_out given (line ++ slice_index_or text place d ∷ []) (drop (place + 1) text)
  same_line other = one_letter ∙ ap (λ b. if b then unless_given given line (left_out given [] (drop (place + 1) text)) else left_out given (line ++ slice_index_or text place d ∷ []) (drop (place + 1) text)) (no_break (slice_index_or text place d) other)
