use Rattle.audit_laws.proofs.Tidy.Makings.{commits_one, making_is}
use Rattle.audit_laws.proofs.Tidy.Steps.{accepts_next, acts_one, ends_one, grants_call, grants_unopened_there, looks_one, refuses_one}
use Rattle.audit_laws.proofs.tidy_laws.records_have_one_call.Goals as goal

pub returns-clause-accepts : goal.returns-clause-accepts
returns-clause-accepts g c p site process id words tidy may = accepts_next c p site process id words tidy may

pub returns-clause-looks : goal.returns-clause-looks
returns-clause-looks g c p e id request f w result tidy may = looks_one c p e id request f w result tidy may

pub returns-clause-grants : goal.returns-clause-grants
returns-clause-grants g c p e id request i m f stamp ss tidy may = grants_call c p e id request i m f stamp ss tidy may

pub returns-clause-unopened : goal.returns-clause-unopened
returns-clause-unopened g c p e id request i m f stamp ss tidy may t found = grants_unopened_there c p e id request i m f stamp ss tidy may t found

pub returns-clause-refuses : goal.returns-clause-refuses
returns-clause-refuses g c p e id request i m f why tidy may = refuses_one c p e id request i m f why tidy may

pub returns-clause-acts : goal.returns-clause-acts
returns-clause-acts g c p e i n o result tidy may = acts_one c p e i n o result tidy may

pub returns-clause-releases : goal.returns-clause-releases
returns-clause-releases g c p e i f stamp tidy may = ends_one c p e i f stamp tidy may

pub returns-clause-commits : goal.returns-clause-commits
returns-clause-commits g c p f site stamp parents content tidy may = commits_one c p f site stamp parents content tidy may

pub returns-clause-making : goal.returns-clause-making
returns-clause-making g c p f site it = making_is c p f site it
