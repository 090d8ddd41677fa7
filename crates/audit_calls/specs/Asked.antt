-- What a call asks, by the group that it asks it in.
use Rattle.std.specs.Prelude.{ℕ, Option, None, Some}
use Rattle.call_rules.specs.declared.want.Want.{Want}
use Rattle.call_rules.specs.declared.want.Want.TheVariants.{Look, Open, OpenToMend, Make, Do, Close, Give, Never}

-- the group whose packs must be there for the request
abbrev pub group_asked : Want → Option ℕ
group_asked (Look file what) = Some file.group
group_asked (Open file how) = Some file.group
group_asked (OpenToMend file) = Some file.group
group_asked (Make group kind sites) = Some group
group_asked (Do i o) = None
group_asked (Close i) = None
group_asked (Give r) = None
group_asked Never = None
