-- The keys of roots.
use Rattle.std.specs.Prelude.{ℕ, List, map}
use Rattle.format.specs.declared.fields.Key.{Key}

abbrev pub keys_value : List Key → List ℕ
keys_value ks = map (λ k. k.0) ks
