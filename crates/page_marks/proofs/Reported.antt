-- What is reported of a copy has its size.
use Rattle.std.proofs.Common.{◌≡◌, [], length, Option, None, Some, refl, ap}
use Rattle.std.specs.Option.{option_map}
use Rattle.role_steps.specs.Storage.{content_of, reported}
use Rattle.role_steps.specs.declared.copies.FileCopy.{FileCopy}
use Rattle.role_steps.specs.of_wire_messages.declared.body.ReportedCopy.{ReportedCopy}

pub size_reported : (copy : ReportedCopy) (held : Option FileCopy) → Some copy ≡ option_map reported held → copy.size ≡ length (content_of held)
size_reported copy None is = absurd (let e : Some copy ≡ None = is in cc)
size_reported copy (Some x) is = ap (λ (r : ReportedCopy). r.size) (let e : copy ≡ reported x = (let f : Some copy ≡ Some (reported x) = is in cc) in e)

pub none_reported : (held : Option FileCopy) → None ≡ option_map reported held → content_of held ≡ []
none_reported None is = refl
none_reported (Some x) is = absurd (let e : None ≡ Some (reported x) = is in cc)
