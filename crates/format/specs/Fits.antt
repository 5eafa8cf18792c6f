-- Values that have the widths of their fields.
use Rattle.std.specs.Prelude.{◌^◌, ◌<◌, FitsSigned}
use Rattle.std.specs.Int.{w64}
use Rattle.format.specs.Layout.{height_len}
use Rattle.format.specs.Identifiers.{Identifies}
use Rattle.format.specs.Values.{NameValue, MessageValue}

pub record NameFits (n : NameValue) : Type 0 where
  pub sender : Identifies n.sender
  pub height : n.height < 256 ^ height_len

pub record MessageFits (m : MessageValue) : Type 0 where
  pub name : NameFits m.name
  pub value : FitsSigned w64 m.value
