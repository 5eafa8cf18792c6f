-- What the code's types stand for.
use Rattle.std.specs.Option.{option_map}
use Rattle.std.specs.Prelude.{ℕ, Ok, Err, Result}
use Rattle.applications.specs.Steps.{SentValue, StepValue, Refuses, Gives}
use Rattle.applications.specs.declared.application.ApplicationFault.{ApplicationFault}
use Rattle.applications.specs.declared.application.Sent.{Sent}
use Rattle.applications.specs.declared.application.Step.{Step}
use Rattle.applications.specs.declared.running.Asked.{Asked}
use Rattle.applications.specs.declared.running.Asked.TheVariants.{Operation, Message}
use Rattle.applications.specs.declared.running.Stop.{Stop}
use Rattle.applications.specs.declared.running.Tally.{Tally}
use Rattle.applications.specs.Tallies.{AskedStep, by_operation, by_message, StopValue, TallyValue}

abbrev pub sent_value : Sent → SentValue
sent_value s = record { code = s.code; value = s.value }

-- a step whose fault has this number
abbrev pub rule_value : {E : Type 0} → (E → ℕ) → Result Step E → StepValue
rule_value number (Ok s) = Gives s.a s.b (option_map sent_value s.sent)
rule_value number (Err f) = Refuses (number f)

abbrev pub step_value : Result Step ApplicationFault → StepValue
step_value r = rule_value (λ f. f.number) r

abbrev pub asked_value : Asked → AskedStep
asked_value (Operation code value) = by_operation code value
asked_value (Message code value) = by_message code value

abbrev pub stop_value : Stop → StopValue
stop_value s = record { place = s.place; number = s.fault.number }

abbrev pub tally_value : Tally → TallyValue
tally_value t = record { a = t.a; b = t.b; stop = option_map stop_value t.stop }
