-- A run in which two members accept a block, so that no premise of the agreement is empty.
use Rattle.std.specs.Prelude.{◌≡◌, ℕ, false, List, [], ◌∷◌, Some}
use Rattle.format.specs.Values.{BlockValue}
use Rattle.agreement.specs.Lists.{In}
use Rattle.agreement.specs.Runs.{Setting, Grounds, Event, Run, DigestsDiffer, accepts, accepted}

-- the call is at member i, and accepts the block
pub record AcceptsAt (es : List Event) (i : ℕ) (b : BlockValue) : Type 0 where
  pub event : Event
  pub among : In event es
  pub member : event.at ≡ i
  pub block : accepts event ≡ Some b

-- All premises hold, a member is dishonest, and members 0 and 1 accept one block.
pub record AcceptingRun : Type 0 where
  pub setting : Setting
  pub grounds : Grounds setting
  pub dishonest : setting.honest 3 ≡ false
  pub events : List Event
  pub runs : Run setting events
  pub differ : DigestsDiffer events
  pub block : BlockValue
  pub first : AcceptsAt events 0 block
  pub second : AcceptsAt events 1 block
  pub history : accepted events ≡ block ∷ []
