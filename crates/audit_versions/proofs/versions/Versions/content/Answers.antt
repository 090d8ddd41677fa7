use Rattle.std.proofs.Common.{ap, sym, ◌∙◌}
use Rattle.audit_versions.proofs.Lookups.{found_content, content_is}
use Rattle.audit_versions.proofs.versions.Versions.content.Goals as goal

pub returns-in-Some-clause-value : goal.returns-in-Some-clause-value
returns-in-Some-clause-value c = c.as_slice.ensures ∙ (ap found_content c.in-Some.ensures.value ∙ sym (content_is c.args.file c.args.stamp c.args.self.now))

pub returns-in-None-clause-value : goal.returns-in-None-clause-value
returns-in-None-clause-value c = ap found_content c.in-None.ensures.value ∙ sym (content_is c.args.file c.args.stamp c.args.self.now)
