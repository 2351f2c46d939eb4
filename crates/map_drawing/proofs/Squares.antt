-- A square more is drawn.
use Rattle.std.proofs.Common.{◌≡◌, ℕ, ◌+◌, ◌<◌, List, ◌++◌, length, get_or, drop, sym, ap, ◌∙◌, append_assoc}
use Rattle.std.proofs.lemmas.List.{drop_more}
use Rattle.map_drawing.specs.Cells.{chunks_in}
use Rattle.map_drawing.specs.Marks.{level, square, squares}
use Rattle.map_drawing.specs.declared.picture.Cells.{Cells}

pub squares_on : (told whole : List ℕ) (cells : Cells) (counts : List ℕ) (i d : ℕ) → i < length counts → told ++ squares cells i (drop i counts) ≡ whole → (told ++ square i (level (get_or counts i d) (chunks_in cells.part cells.all i))) ++ squares cells (i + 1) (drop (i + 1) counts) ≡ whole
squares_on told whole cells counts i d lt all =
    append_assoc told (square i (level (get_or counts i d) (chunks_in cells.part cells.all i))) (squares cells (i + 1) (drop (i + 1) counts))
    ∙ ap (λ xs. told ++ xs) (sym (ap (squares cells i) (drop_more counts i d lt))) ∙ all
