-- What the code's types stand for.
use Rattle.std.specs.Prelude.{List, map}
use Rattle.committee.specs.Rules.{MemberValue, CommitteeValue}
use Rattle.committee.specs.declared.Member.{Member}

abbrev pub member_value : Member → MemberValue
member_value m = record { key = m.key.0; weight = m.weight }

abbrev pub members_value : List Member → CommitteeValue
members_value ms = map member_value ms
