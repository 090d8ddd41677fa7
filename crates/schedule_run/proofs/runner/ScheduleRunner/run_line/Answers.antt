use Rattle.std.proofs.Common.{refl, subst}
use Rattle.line_text.specs.ReadSoFar.{ReadsNext}
use Rattle.line_text.specs.declared.schedule_reader.LineRead.{LineRead}
use Rattle.schedule_run.proofs.Complete.{event_config, event_order}
use Rattle.schedule_run.proofs.Lasting.{passed_next, event_next}
use Rattle.schedule_run.proofs.runner.ScheduleRunner.run_line.Goals as goal

pub returns-in-Passed-clause-ran : goal.returns-in-Passed-clause-ran
returns-in-Passed-clause-ran c = λ lines taken en h.
    passed_next lines c.args.bytes.now taken c.args.number c.args.self.now _ en h
    (subst (λ (x : LineRead). ReadsNext lines c.args.bytes.now x c.read.new.self) c.in-Passed.is (c.in_ok-read.ensures.read lines h.reader)) refl

pub returns-in-Event-clause-ran : goal.returns-in-Event-clause-ran
returns-in-Event-clause-ran c = λ lines taken en h.
    event_next lines c.args.bytes.now taken c.args.number c.in-Event.line c.args.self.now (record c.args.self.now { reader = c.read.new.self }) c.happen.new.self c.happen.result en h
    (subst (λ (x : LineRead). ReadsNext lines c.args.bytes.now x c.read.new.self) c.in-Event.is (c.in_ok-read.ensures.read lines h.reader)) refl
    c.happen.ensures.reader c.happen.ensures.world

pub returns-in-Event-clause-world : goal.returns-in-Event-clause-world
returns-in-Event-clause-world c = λ lines taken fault h e.
    let n = c.in_ok-read.ensures.read lines h.reader in
    record { line = n.line; reads = n.reads }

pub returns-in-Event-clause-complete : goal.returns-in-Event-clause-complete
returns-in-Event-clause-complete c = λ lines taken fault en o h e.
    let n = subst (λ (x : LineRead). ReadsNext lines c.args.bytes.now x c.read.new.self) c.in-Event.is (c.in_ok-read.ensures.read lines h.reader) in
    c.happen.ensures.complete lines taken fault en (event_config lines c.args.bytes.now c.in-Event.line c.read.new.self n) (event_order lines c.args.bytes.now c.in-Event.line c.read.new.self o n) h.world e
