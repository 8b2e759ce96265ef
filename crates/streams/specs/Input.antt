-- An input, a part at a time.
use Rattle.std.specs.Prelude.{ℕ, ◌+◌, ◌-◌, ◌^◌, ◌<◌, ◌≤◌, ◌≡◌, cond, eqb, Option, Result, Ok, Err, IfErr, List, All, length, take, drop}
use Rattle.std.specs.List.{FoldsTo}
use Rattle.std.specs.IoError.{error_kind}
use Rattle.std.specs.Io.{ReadsAtMost}
use Rattle.std.specs.Io.KnownBytes.{Consumes, ReadConsumes, IsAtEnd}
use Rattle.std.specs.declared.ops.ControlFlow.{ControlFlow}
use Rattle.std.specs.declared.ops.ControlFlow.TheVariants.{Continue, Break}
use Rattle.std.specs.declared.io.Error.{Error}
use Rattle.std.specs.declared.io.ErrorKind.TheVariants.{Interrupted}
use Rattle.streams.specs.declared.input.Input.{Input}

-- ---- a call that is made again

abbrev pub IsInterrupted : Error → Type 0
IsInterrupted e = error_kind e ≡ Interrupted

-- the answer is the last call's: each one before it was interrupted, and it only where no more may be made
pub record Retried {F T : Type 0} (step : F → Result T Error → F → Type 0) (tries : ℕ) (old : F) (r : Result T Error) (new : F) : Type 0 where
  pub failed : List Error
  pub last : F
  pub calls : FoldsTo (λ f e g. step f (Err e) g) old failed last
  pub answers : step last r new
  pub interrupted : All IsInterrupted failed
  pub fewer : length failed < tries
  pub gives_up : IfErr r (λ e. IsInterrupted e → length failed + 1 ≡ tries)

-- ---- a part

-- a read goes on behind the bytes that are there, and leaves those
pub record Behind (done : ℕ) (given after : List ℕ) (got : Result ℕ Error) : Type 0 where
  pub same_length : length after ≡ length given
  pub kept : take done after ≡ take done given
  pub bound : ReadsAtMost got (drop done after)

-- a part of which so many bytes are there, or what became of it
abbrev pub Progress : Type 0
Progress = ControlFlow (Result ℕ Error) ℕ

-- a read that fails is a failure, wherever it comes; only a read that answers 0 is the end, with the bytes in front of it
abbrev pub after_read : ℕ → Result ℕ Error → Progress
after_read done (Ok n) = cond (eqb n 0) (Break (Ok done)) (Continue (done + n))
after_read done (Err e) = Break (Err e)

-- one read more of a part that goes on, with an input's known bytes before and after
abbrev pub GoesOn : Option (List ℕ) → Option (List ℕ) → ℕ → List ℕ → List ℕ → Progress → Type 0
GoesOn before after done given part p =
    (got : Result ℕ Error) × Behind done given part got × ReadConsumes before after got (drop done part) × (p ≡ after_read done got)

-- what a part holds of an input of known bytes: the next ones, with none behind a part that isn't full; where a read failed, some may be gone
abbrev pub PartTook : {E : Type 0} → Option (List ℕ) → Option (List ℕ) → List ℕ → Result ℕ E → Type 0
PartTook before after part (Ok n) = Consumes before after (take n part) × (n < length part → IsAtEnd after)
PartTook before after part (Err e) = (n : ℕ) × (n ≤ length part) × Consumes before after (take n part)

-- ---- parts

-- as many as 64 bits count
abbrev pub most_parts : ℕ
most_parts = 2 ^ 64 - 1

abbrev pub parts_left : {R : Type 0} → Input R → ℕ
parts_left i = i.left

abbrev pub reader_of : {R : Type 0} → Input R → R
reader_of i = i.from

abbrev pub bytes_left : {R : Type 0} → (R → Option (List ℕ)) → Input R → Option (List ℕ)
bytes_left remaining i = remaining (reader_of i)
