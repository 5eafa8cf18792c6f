-- What the code's types stand for.
use Rattle.std.specs.Prelude.{map, take}
use Rattle.format.specs.Values.{IdentifierValue, DigestValue, NameValue, MessageValue, CommandValue, opens, changes, closes, executes, receives, BlockValue}
use Rattle.format.specs.Outcomes.{RefusalValue}
use Rattle.format.specs.declared.identifier.Identifier.{Identifier}
use Rattle.format.specs.declared.refusal.Refusal.{Refusal}
use Rattle.format.specs.declared.digest.Digest.{Digest}
use Rattle.format.specs.declared.message.Name.{Name}
use Rattle.format.specs.declared.message.Message.{Message}
use Rattle.format.specs.declared.block.Command.{Command}
use Rattle.format.specs.declared.block.Command.TheVariants.{Open, Change, Close, Execute, Receive}
use Rattle.format.specs.declared.block.Block.{Block}

-- the numbers in use
abbrev pub identifier_value : Identifier → IdentifierValue
identifier_value i = take i.depth i.numbers

abbrev pub digest_value : Digest → DigestValue
digest_value d = d.bytes

abbrev pub name_value : Name → NameValue
name_value n = record { sender = identifier_value n.sender; height = n.height.0; index = n.index }

abbrev pub message_value : Message → MessageValue
message_value m = record { name = name_value m.name; code = m.code; value = m.value }

abbrev pub command_value : Command → CommandValue
command_value (Open child key) = opens (identifier_value child) key.0
command_value (Change key) = changes key.0
command_value Close = closes
command_value (Execute code argument target) = executes code argument (identifier_value target)
command_value (Receive message) = receives (message_value message)

abbrev pub block_value : Block → BlockValue
block_value b = record {
  chain = identifier_value b.chain;
  height = b.height.0;
  previous = digest_value b.previous;
  commands = map command_value b.commands.now;
}

abbrev pub refusal_value : Refusal → RefusalValue
refusal_value r = record { number = r.number; place = r.place; inner = r.inner }
