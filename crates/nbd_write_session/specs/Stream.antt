-- What a client said, and what was not taken of it yet.
use Rattle.std.specs.Prelude.{◌≡◌, ℕ, ◌-◌, min, List, ◌++◌, length, drop, Option}
use Rattle.std.specs.Option.{option_map}

-- Bytes that were heard and not taken, and how many that nobody wants are to come next.
pub record Stream : Type 0 where
  pub heard : List ℕ
  pub unwanted : ℕ

-- so many bytes were dropped of those that are there
abbrev pub dropped : ℕ → Stream → Stream
dropped count s = record { heard = drop count s.heard; unwanted = s.unwanted }

-- The bytes that nobody wants are dropped, as many as there are.
abbrev pub thinned : Stream → Stream
thinned s = record {
  heard = drop (min s.unwanted (length s.heard)) s.heard;
  unwanted = s.unwanted - min s.unwanted (length s.heard);
}

-- so many of the next bytes are not wanted
abbrev pub lessened : ℕ → Stream → Stream
lessened count s = thinned (record { heard = s.heard; unwanted = count })

-- what is left for requests where these bytes are still to be heard
abbrev pub rest_of : Stream → List ℕ → List ℕ
rest_of s bytes = drop s.unwanted (s.heard ++ bytes)

-- the same where it is known what is still to be heard
abbrev pub left : Stream → Option (List ℕ) → Option (List ℕ)
left s known = option_map (rest_of s) known
