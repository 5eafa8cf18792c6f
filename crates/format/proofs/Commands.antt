-- The commands of a block, one more at a time.
use Rattle.std.proofs.Common.{◌≡◌, ℕ, ◌+◌, ◌<◌, Bool, ◌&&◌, List, [], ◌∷◌, ◌++◌, map, length, get_or, drop, sym, refl, ap, ◌∙◌}
use Rattle.std.proofs.lemmas.List.{at_drop_more}
use Rattle.std.specs.List.{flat_map}
use Rattle.format.specs.Bytes.{command_bytes}
use Rattle.format.specs.Rules.{command_allowed, commands_allowed}
use Rattle.format.specs.Meaning.{command_value}
use Rattle.format.specs.Composing.{encoded}
use Rattle.format.specs.declared.block.Command.{Command}

-- whether commands of the code keep their rules
abbrev pub allowed : List Command → Bool
allowed cs = commands_allowed (map command_value cs)

pub allowed_drop : (cs : List Command) (i : ℕ) (x : Command) → i < length cs → x ≡ get_or cs i x → allowed (drop i cs) ≡ (command_allowed (command_value x) && allowed (drop (i + 1) cs))
allowed_drop cs i x h e = at_drop_more allowed cs i x h ∙ ap (λ y. command_allowed (command_value y) && allowed (drop (i + 1) cs)) (sym e)

pub joined_map : (cs : List Command) → flat_map command_bytes (map command_value cs) ≡ flat_map encoded cs
joined_map [] = refl
joined_map (c ∷ cs) = ap (λ z. encoded c ++ z) (joined_map cs)
