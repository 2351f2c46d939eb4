use Rattle.std.proofs.Common.{◌≡◌, ◌∙◌, ap, length, if◌then◌else◌, ℕ, Bool, true, false, refl}
use mir.Val.{bool_byte}
use Rattle.sector.specs.Bytes.{with_part}
use Rattle.sector.specs.Number.{number_bytes}
use Rattle.sector.proofs.Numbers.{length-number_bytes}
use Rattle.cow_header.specs.HeaderText.{header_bytes, magic_number}
use Rattle.cow_header.proofs.Text.{four_parts}
use Rattle.cow_header.proofs.writing.encode.Goals as goal

-- a bool as a number
mark_is : (valid : Bool) → bool_byte valid ≡ (if valid then 1 else 0)
mark_is true = refl
mark_is false = refl

pub returns-clause-text : goal.returns-clause-text
unfolding header_bytes
returns-clause-text c =
    let mark : ℕ = if c.args.valid then 1 else 0 in
    c.put_u32-4.ensures.all
    ∙ ap (λ y. with_part y 12 (number_bytes 4 c.args.chunk)) (c.put_u32-3.ensures.all
    ∙ ap (λ y. with_part y 8 (number_bytes 4 1)) (c.put_u32-2.ensures.all
    ∙ ap (λ m. with_part c.put_u32.new.bytes 4 (number_bytes 4 m)) (mark_is c.args.valid)
    ∙ ap (λ y. with_part y 4 (number_bytes 4 mark)) (c.put_u32.ensures.all
    ∙ ap (λ y. with_part y 0 (number_bytes 4 magic_number)) (c.fill.ensures.after (λ y e. e)))))
    ∙ four_parts (length c.args.bytes.now) (number_bytes 4 magic_number) (number_bytes 4 mark) (number_bytes 4 1) (number_bytes 4 c.args.chunk)
    (length-number_bytes 4 magic_number) (length-number_bytes 4 mark) (length-number_bytes 4 1) (length-number_bytes 4 c.args.chunk) c.requires
