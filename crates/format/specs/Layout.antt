-- The widths, limits and command bytes of blocks. Each has one name, the same as in the code.
use Rattle.std.specs.Prelude.{ℕ, ◌+◌, ◌-◌, ◌*◌}
pub use Rattle.hash.specs.Sizes.{digest_len}

-- widths of fields in bytes
abbrev pub number_len : ℕ
number_len = 2

abbrev pub height_len : ℕ
height_len = 2

abbrev pub key_len : ℕ
key_len = 4

abbrev pub code_len : ℕ
code_len = 1

abbrev pub index_len : ℕ
index_len = 1

-- arguments and values: signed numbers
abbrev pub value_len : ℕ
value_len = 8

-- the depth of an identifier, the count of commands, a command byte
abbrev pub depth_len : ℕ
depth_len = 1

abbrev pub count_len : ℕ
count_len = 1

abbrev pub command_byte_len : ℕ
command_byte_len = 1

-- limits
abbrev pub max_depth : ℕ
max_depth = 4

abbrev pub max_height : ℕ
max_height = 65534

abbrev pub max_commands : ℕ
max_commands = 16

-- an index is the place, from 0, of a command in its block
abbrev pub max_index : ℕ
max_index = max_commands - 1

-- lengths that follow
abbrev pub identifier_len : ℕ
identifier_len = depth_len + max_depth * number_len

abbrev pub head_len : ℕ
head_len = identifier_len + height_len + digest_len + count_len

abbrev pub name_len : ℕ
name_len = identifier_len + height_len + index_len

-- operands of each command
abbrev pub open_len : ℕ
open_len = identifier_len + key_len

abbrev pub change_len : ℕ
change_len = key_len

abbrev pub close_len : ℕ
close_len = 0

abbrev pub execute_len : ℕ
execute_len = code_len + value_len + identifier_len

abbrev pub receive_len : ℕ
receive_len = name_len + code_len + value_len

-- a block full of the longest command
abbrev pub max_block_len : ℕ
max_block_len = head_len + max_commands * (command_byte_len + receive_len)

-- command bytes
abbrev pub open_byte : ℕ
open_byte = 1

abbrev pub change_byte : ℕ
change_byte = 2

abbrev pub close_byte : ℕ
close_byte = 3

abbrev pub execute_byte : ℕ
execute_byte = 4

abbrev pub receive_byte : ℕ
receive_byte = 5
