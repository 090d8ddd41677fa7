use Rattle.std.proofs.Common.{ap, sym, ◌∙◌, arith, reverse}
use Rattle.audit_versions.proofs.Beside.{name_placed, counts_within, counter_placed, counter_few, counter_past, absent_counter, sited_along}
use Rattle.audit_versions.proofs.versions.Versions.counter.Goals as goal

pub bounds-counts-place : goal.bounds-counts-place
bounds-counts-place c = counts_within c.self.inside.rows.history c.args.self.now c.as_slice-counts.result.now c.self.inside.rows.names c.in-Some.place c.self.invariant.names_are (ap reverse c.as_slice-counts.ensures.value ∙ c.self.invariant.counts_are) c.in-Some.ensures.within

pub returns-in-Some-clause-value : goal.returns-in-Some-clause-value
returns-in-Some-clause-value c =
    let placed = name_placed c.self.inside.rows.history c.args.self.now c.self.inside.rows.names c.version_key.result c.args.file c.args.stamp _ c.self.view_is c.self.invariant.names_are c.version_key.ensures c.in-Some.ensures.place in
    counter_placed c.self.inside.rows.history c.args.self.now c.as_slice-counts.result.now c.args.file c.args.stamp c.in-Some.place c.from-site.result c.args.site c.self.view_is (ap reverse c.as_slice-counts.ensures.value ∙ c.self.invariant.counts_are) placed c.from-site.ensures c.if-site-lt-COUNTERS.true

pub returns-in-Some-clause-few : goal.returns-in-Some-clause-few
returns-in-Some-clause-few c =
    let placed = name_placed c.self.inside.rows.history c.args.self.now c.self.inside.rows.names c.version_key.result c.args.file c.args.stamp _ c.self.view_is c.self.invariant.names_are c.version_key.ensures c.in-Some.ensures.place in
    let is = counter_placed c.self.inside.rows.history c.args.self.now c.as_slice-counts.result.now c.args.file c.args.stamp c.in-Some.place c.from-site.result c.args.site c.self.view_is (ap reverse c.as_slice-counts.ensures.value ∙ c.self.invariant.counts_are) placed c.from-site.ensures c.if-site-lt-COUNTERS.true in
    let few = counter_few c.args.self.now c.args.file c.args.stamp c.args.site in
    omega (arith, is, few)

pub returns-in-Some-2-clause-value : goal.returns-in-Some-2-clause-value
returns-in-Some-2-clause-value c =
    let past = c.if-site-lt-COUNTERS.false in let is = c.from-site.ensures in
    sym (counter_past c.args.self.now c.args.file c.args.stamp c.args.site (sited_along c.self.inside.rows.history c.args.self.now c.self.view_is c.self.invariant.sited) (omega (arith, past, is)))

pub returns-in-None-clause-value : goal.returns-in-None-clause-value
returns-in-None-clause-value c =
    let placed = name_placed c.self.inside.rows.history c.args.self.now c.self.inside.rows.names c.version_key.result c.args.file c.args.stamp _ c.self.view_is c.self.invariant.names_are c.version_key.ensures c.in-None.ensures.place in
    sym (absent_counter c.args.self.now c.args.file c.args.stamp c.args.site placed)
