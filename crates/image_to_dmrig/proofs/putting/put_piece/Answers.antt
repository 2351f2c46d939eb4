use Rattle.std.proofs.Common.{List, [], ℕ, ◌∙◌, length, subst, sym}
use Rattle.std.specs.Io.KnownBytes.{Appends}
use Rattle.std.proofs.KnownBytes.{Appends-nil}
use Rattle.image_to_dmrig.specs.Loads.{piece, load_if}
use Rattle.image_to_dmrig.proofs.Fronts.{no_front, piece_got, blank_piece, loaded_piece}
use Rattle.image_to_dmrig.proofs.putting.put_piece.Goals as goal

pub returns-in-Err-clause-part : goal.returns-in-Err-clause-part
returns-in-Err-clause-part g c = λ b bis rest. ([], no_front (load_if c.args.name.now c.args.number (piece b c.args.number)), Appends-nil _)

pub returns-then-is_blank-clause-all : goal.returns-then-is_blank-clause-all
returns-then-is_blank-clause-all g c = λ b bis rest.
    let got = piece_got (g.I.Image.bytes c.args.image.now) b c.read_at.new.out c.args.number (length c.args.room.now) bis c.in_default.ensures.data rest in
    subst (λ (xs : List ℕ). Appends (g.S.Sink.contents c.args.sink.now) (g.S.Sink.contents c.args.sink.now) xs)
    (sym (blank_piece c.args.name.now c.args.number (piece b c.args.number) c.read_at.new.out got (sym c.is_blank.ensures ∙ c.if-is_blank.true))) (Appends-nil _)

pub returns-in_default-load_text-clause-part : goal.returns-in_default-load_text-clause-part
returns-in_default-load_text-clause-part g c = λ b bis rest. ([], no_front (load_if c.args.name.now c.args.number (piece b c.args.number)), Appends-nil _)

pub returns-in-Ok-put-clause-all : goal.returns-in-Ok-put-clause-all
returns-in-Ok-put-clause-all g c = λ b bis rest.
    let got = piece_got (g.I.Image.bytes c.args.image.now) b c.read_at.new.out c.args.number (length c.args.room.now) bis c.in_default.ensures.data rest in
    let text = c.in-Ok.ensures ∙ sym (loaded_piece c.args.name.now c.args.number (piece b c.args.number) c.read_at.new.out got (sym c.is_blank.ensures ∙ c.if-is_blank.false)) in
    subst (λ (xs : List ℕ). Appends (g.S.Sink.contents c.args.sink.now) (g.S.Sink.contents c.put.new.self) xs) (c.as_slice.ensures.value ∙ text) c.in-Ok-put.ensures.all

pub returns-clause-part : goal.returns-clause-part
returns-clause-part g c = λ b bis rest.
    let got = piece_got (g.I.Image.bytes c.args.image.now) b c.read_at.new.out c.args.number (length c.args.room.now) bis c.in_default.ensures.data rest in
    let text = c.in-Ok.ensures ∙ sym (loaded_piece c.args.name.now c.args.number (piece b c.args.number) c.read_at.new.out got (sym c.is_blank.ensures ∙ c.if-is_blank.false)) in
    let (front, left, is, appends) = c.in-Err-put.ensures.part in
    (front, (left, is ∙ c.as_slice.ensures.value ∙ text), appends)
