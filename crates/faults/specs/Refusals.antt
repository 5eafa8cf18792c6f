-- The numbers of a refusal, over the faults of a call, and how one fault is carried in another.
use Rattle.std.specs.Prelude.{◌≡◌, ℕ, Ok, Err, Result}
use Rattle.format.specs.Values.{DigestValue}
use Rattle.format.specs.Meaning.{digest_value}
use Rattle.format.specs.Outcomes.{RefusalValue, refusal, refusal_at, Outcome, Refused, Passed}
use Rattle.format.specs.declared.digest.Digest.{Digest}
use Rattle.applications.specs.declared.application.ApplicationFault.{ApplicationFault}
use Rattle.reading.specs.Parts.{read_refusal}
use Rattle.reading.specs.declared.part.ReadFault.{ReadFault}
use Rattle.faults.specs.declared.AtCommand.{AtCommand}
use Rattle.faults.specs.declared.CommandFault.{CommandFault}
use Rattle.faults.specs.declared.CommandFault.TheVariants.{AfterClose, Key, Child, SecondOpen, Application}
use Rattle.faults.specs.declared.CallFault.{CallFault}
use Rattle.faults.specs.declared.CallFault.TheVariants.{Reading, Member, Seal, Weight, NoOwner, OwnerSeal, HeightAbove, HeightBelow, Previous, Voted, Command, MinusMarks, NoPlace, NoOutgoing, Committee, Roots, NotBlank}

-- the command at a place: 17 has the application's own number with it
abbrev pub command_refusal : ℕ → CommandFault → RefusalValue
command_refusal place AfterClose = refusal_at 13 place
command_refusal place Key = refusal_at 14 place
command_refusal place Child = refusal_at 15 place
command_refusal place SecondOpen = refusal_at 16 place
command_refusal place (Application fault) = record { number = 17; place = place; inner = fault.number }

abbrev pub call_refusal : CallFault → RefusalValue
call_refusal (Reading fault) = read_refusal fault
call_refusal (Member place) = refusal_at 4 place
call_refusal (Seal place) = refusal_at 5 place
call_refusal Weight = refusal 6
call_refusal NoOwner = refusal 7
call_refusal OwnerSeal = refusal 8
call_refusal HeightAbove = refusal 9
call_refusal HeightBelow = refusal 10
call_refusal Previous = refusal 11
call_refusal Voted = refusal 12
call_refusal (Command at) = command_refusal at.place at.fault
call_refusal MinusMarks = refusal 18
call_refusal NoPlace = refusal 19
call_refusal NoOutgoing = refusal 20
call_refusal Committee = refusal 21
call_refusal Roots = refusal 22
call_refusal NotBlank = refusal 23

-- what a result stands for, by the value of what it holds and the refusal of its fault
abbrev pub answered : {T E V : Type 0} → (T → V) → (E → RefusalValue) → Result T E → Outcome V
answered value refusal_of (Ok x) = Passed (value x)
answered value refusal_of (Err f) = Refused (refusal_of f)

-- what a call answers
abbrev pub call_answer : Result Digest CallFault → Outcome DigestValue
call_answer = answered digest_value call_refusal

-- whole: the fault below is all there in the one above
abbrev pub CarriesApplication : ApplicationFault → CommandFault → Type 0
CarriesApplication fault r = r ≡ Application fault

abbrev pub CarriesCommand : AtCommand → CallFault → Type 0
CarriesCommand fault r = r ≡ Command fault

abbrev pub CarriesReading : ReadFault → CallFault → Type 0
CarriesReading fault r = r ≡ Reading fault
