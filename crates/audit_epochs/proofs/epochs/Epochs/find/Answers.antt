use Rattle.std.proofs.Common.{sym}
use Rattle.audit_epochs.proofs.Placing.{apart_in, found_get, found_nowhere, one_lost, one_of}
use Rattle.audit_epochs.proofs.epochs.Epochs.find.Goals as goal

pub returns-in-Some-clause-found : goal.returns-in-Some-clause-found
returns-in-Some-clause-found c =
    found_get c.args.epoch c.args.self.now c.self.inside.rows.items c.deref.result.now c.in-Some.place c.get.result c.self.view_is c.deref.ensures.value c.in-Some.ensures
    c.get.ensures.lookup.0 c.get.ensures.lookup.1

pub returns-in-Some-clause-one : goal.returns-in-Some-clause-one
returns-in-Some-clause-one c = one_of c.args.epoch c.args.self.now (apart_in c.self.inside.places c.args.self.now c.self.inside.rows.items c.self.view_is c.self.invariant.0 c.self.invariant.1)

pub returns-in-None-clause-found : goal.returns-in-None-clause-found
returns-in-None-clause-found c = sym (found_nowhere c.args.epoch c.args.self.now c.in-None.ensures)

pub returns-in-None-clause-one : goal.returns-in-None-clause-one
returns-in-None-clause-one c = one_lost c.args.epoch c.args.self.now c.in-None.ensures
