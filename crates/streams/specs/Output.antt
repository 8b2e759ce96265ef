-- An output.
use Rattle.std.specs.Prelude.{ℕ, ◌≡◌, Bool, true, Option, Result, List, IsErr}
use Rattle.std.specs.declared.io.Error.{Error}
use Rattle.streams.specs.declared.output.Output.{Output}

abbrev pub has_failed : {W : Type 0} → Output W → Bool
has_failed o = o.has_failed

abbrev pub writer_of : {W : Type 0} → Output W → W
writer_of o = o.to

abbrev pub bytes_in : {W : Type 0} → (W → Option (List ℕ)) → Output W → Option (List ℕ)
bytes_in contents o = contents (writer_of o)

-- what failed once has failed
abbrev pub Stays : {W T : Type 0} → Output W → Result T Error → Output W → Type 0
Stays before r after = has_failed before ≡ true → (after ≡ before) × IsErr r
