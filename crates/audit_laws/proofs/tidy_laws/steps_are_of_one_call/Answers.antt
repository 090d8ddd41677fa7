use Rattle.promises.specs.Past.{acts, ends}
use Rattle.promises.specs.After.{is_actor, is_ender}
use Rattle.audit_laws.proofs.Tidy.Acting.{calls_found, actor_is, ender_is, few_act, few_end, changes_by_name}
use Rattle.audit_laws.proofs.tidy_laws.steps_are_of_one_call.Goals as goal

pub returns-clause-own : goal.returns-clause-own
returns-clause-own g c p tidy = calls_found p tidy.calls

pub returns-clause-acted : goal.returns-clause-acted
returns-clause-acted g c p t i n x k f tidy st turns there found = changes_by_name p (is_actor t i n) (acts t.id x n) f k tidy.calls (actor_is t i n x st there) (few_act p.sites p.calls t.id x n tidy.calls turns) found

pub returns-clause-ended : goal.returns-clause-ended
returns-clause-ended g c p t i x k f tidy st there found = changes_by_name p (is_ender t i) (ends t.id x) f k tidy.calls (ender_is t i x st there) (few_end p t.id x tidy.calls tidy.users) found
