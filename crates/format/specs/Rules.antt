-- The rules that the values of a block keep.
use Rattle.std.specs.Prelude.{ℕ, Bool, true, ◌&&◌, ◌||◌, List, [], ◌∷◌, length, replicate, nat_le, nat_lt}
use Rattle.std.specs.Str.{bytes_eq}
use Rattle.format.specs.Layout.{digest_len, max_height, max_commands, max_index}
use Rattle.format.specs.Values.{DigestValue, NameValue, CommandValue, opens, changes, closes, executes, receives, BlockValue}

abbrev pub zero_digest : DigestValue
zero_digest = replicate digest_len 0

-- height, previous digest and command count; at height 0 the previous digest is all zero
unfoldable pub head_allowed : ℕ → DigestValue → ℕ → Bool
head_allowed height previous count =
    nat_le height max_height && ((nat_lt 0 height || bytes_eq previous zero_digest) && nat_le count max_commands)

abbrev pub name_allowed : NameValue → Bool
name_allowed n = nat_le n.height max_height && nat_le n.index max_index

-- of the operands only a message's name can break a rule
abbrev pub command_allowed : CommandValue → Bool
command_allowed (opens child key) = true
command_allowed (changes key) = true
command_allowed closes = true
command_allowed (executes code argument target) = true
command_allowed (receives message) = name_allowed message.name

abbrev pub commands_allowed : List CommandValue → Bool
commands_allowed [] = true
commands_allowed (c ∷ cs) = command_allowed c && commands_allowed cs

abbrev pub block_allowed : BlockValue → Bool
block_allowed b = head_allowed b.height b.previous (length b.commands) && commands_allowed b.commands
