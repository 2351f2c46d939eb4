-- Names, as bytes, and with which file there was trouble.
use Rattle.std.specs.Prelude.{◌≡◌, ℕ, List, Option, Some, None}
use Rattle.std.specs.Borrow.{Bor}
use Rattle.serve_files.specs.declared.trouble.Trouble.{Trouble}

abbrev pub text_of : Bor (List ℕ) → List ℕ
text_of text = text.now

abbrev pub text_in : Option (Bor (List ℕ)) → Option (List ℕ)
text_in None = None
text_in (Some text) = Some text.now

-- what went wrong went wrong with the file of this name
abbrev pub IsAbout : List ℕ → Trouble → Type 0
IsAbout name trouble = trouble.name.now ≡ name
