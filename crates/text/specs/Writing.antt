-- A text at the start of a lent buffer.
use Rattle.std.specs.Prelude.{ℕ, cond, List, ◌++◌, leb, length, drop, Option, Some, None}

-- No text is longer: the title has 56 bytes, and each of at most eight lines no more than 160. A buffer has to have as many for a text of any length.
abbrev pub most_bytes : ℕ
most_bytes = 1336

-- a buffer that a text is copied into: the text at its start and behind it what was there, or where the buffer is too short all of what was there
unfoldable pub copied_into : List ℕ → List ℕ → List ℕ
copied_into out text = cond (leb most_bytes (length out)) (text ++ drop (length text) out) out

-- the length of the text that was copied, and none where the buffer is too short
unfoldable pub length_copied : List ℕ → List ℕ → Option ℕ
length_copied out text = cond (leb most_bytes (length out)) (Some (length text)) None
