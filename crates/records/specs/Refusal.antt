-- Why a record isn't taken, by number and as it is printed.
use Rattle.std.specs.Prelude.{ℕ, List, codes}
use Rattle.std.specs.Fmt.{decimal}
use Rattle.amounts.specs.Decline as decline
use Rattle.records.specs.declared.refusal.Refusal.{Refusal}
use Rattle.records.specs.declared.refusal.Refusal.TheVariants.{Declined, Malformed}

-- the number that stands for a malformed record; no decline has it
abbrev pub malformed_number : ℕ
malformed_number = 255

abbrev pub number : Refusal → ℕ
number (Declined d) = decline.number d
number Malformed = malformed_number

-- as it is printed
abbrev pub text_of : Refusal → List ℕ
text_of (Declined d) = decimal (decline.number d)
text_of Malformed = codes "malformed"
