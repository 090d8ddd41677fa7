-- A look that isn't at a whole content means what it says.
use Rattle.std.proofs.Common.{◌≡◌, true, false, refl}
use Rattle.trace_book.specs.declared.operation.What.{What}
use Rattle.trace_book.specs.declared.operation.What.TheVariants as what
use Rattle.call_rules.specs.declared.want.Want.{Want}
use Rattle.call_rules.specs.declared.want.Want.TheVariants as want
use Rattle.audit_rules.specs.Meant.{what_meant}
use Rattle.audit_told_calls.specs.Meanings.{is_whole}

pub as_said : (w : Want) (x : What) → is_whole x ≡ false → x ≡ what_meant w x
as_said (want.Look f (what.Whole a)) (what.Name c) h = refl
as_said (want.Look f (what.Whole a)) what.List h = refl
as_said (want.Look f (what.Whole a)) what.Stat h = refl
as_said (want.Look f (what.Whole a)) (what.Whole s) h = absurd (cc)
as_said (want.Look f (what.Name d)) x h = refl
as_said (want.Look f what.List) x h = refl
as_said (want.Look f what.Stat) x h = refl
as_said (want.Open f m) x h = refl
as_said (want.OpenToMend f) x h = refl
as_said (want.Make g k s) x h = refl
as_said (want.Do i o) x h = refl
as_said (want.Close i) x h = refl
as_said (want.Give r) x h = refl
as_said want.Never x h = refl
