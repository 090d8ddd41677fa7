use Rattle.std.proofs.Common.{ap, sym, ◌∙◌}
use Rattle.call_rules.specs.declared.want.Want.TheVariants as want
use Rattle.tree_model.specs.declared.instance.Granted.{Granted}
use Rattle.promises.specs.Past.{acts}
use Rattle.promises.specs.Rows.{is_asked}
use Rattle.audit_rows.proofs.Acts.{act_few, actor_step, judged, next, not_asked, not_open, not_ready, not_there, open_at}
use Rattle.audit_rows.proofs.acting.act_with.Goals as goal

pub returns-in_default : goal.returns-in_default
returns-in_default c = not_there c.args.config.now c.args.told.now c.args.at.epoch c.args.at.instance c.args.at.n c.args.op.now c.in_default.ensures

pub returns-in_default-instance_row : goal.returns-in_default-instance_row
returns-in_default-instance_row c = not_open c.args.config.now c.args.told.now c.args.at.epoch c.args.at.instance c.args.at.n c.args.op.now c.in-Some.t.now c.in-Some.ensures c.in_default-instance_row.ensures.found

pub returns-then-not-is_ready : goal.returns-then-not-is_ready
returns-then-not-is_ready c =
    not_ready c.args.config.now c.args.told.now c.args.at.epoch c.args.at.instance c.args.at.n c.args.op.now
    (open_at c.args.told.now c.args.at.epoch c.args.at.instance c.in-Some.t.now c.in-Some-instance_row.x.now c.requires.each c.in-Some.ensures c.in-Some-instance_row.ensures.one c.in-Some-instance_row.ensures.found)
    c.if-not-is_ready.ensures

pub asked_for-requires-clause-one : goal.asked_for-requires-clause-one
asked_for-requires-clause-one c =
    act_few c.args.told.now c.args.at.epoch c.args.at.instance c.args.at.n
    (open_at c.args.told.now c.args.at.epoch c.args.at.instance c.in-Some.t.now c.in-Some-instance_row.x.now c.requires.each c.in-Some.ensures c.in-Some-instance_row.ensures.one c.in-Some-instance_row.ensures.found)
    c.requires.once c.id.result c.id.ensures

pub returns-in_default-2 : goal.returns-in_default-2
returns-in_default-2 c =
    not_asked c.args.config.now c.args.told.now c.args.at.epoch c.args.at.instance c.args.at.n c.args.op.now
    (open_at c.args.told.now c.args.at.epoch c.args.at.instance c.in-Some.t.now c.in-Some-instance_row.x.now c.requires.each c.in-Some.ensures c.in-Some-instance_row.ensures.one c.in-Some-instance_row.ensures.found)
    (sym c.in_default-2.is ∙ c.in_ok-actor.ensures c.in-Some.t.now (sym c.id.ensures))

pub returns : goal.returns
returns c =
    let it = open_at c.args.told.now c.args.at.epoch c.args.at.instance c.in-Some.t.now c.in-Some-instance_row.x.now c.requires.each c.in-Some.ensures c.in-Some-instance_row.ensures.one c.in-Some-instance_row.ensures.found in
    let asked = sym c.in-Some-2.is ∙ c.in_ok-actor.ensures c.in-Some.t.now (sym c.id.ensures) in
    record {
      stands = it;
      next = next c.args.config.now c.args.told.now c.args.at.epoch c.args.at.instance c.args.at.n c.args.op.now it c.if-not-is_ready.ensures;
      step = actor_step c.args.told.now c.args.at.epoch c.args.at.instance c.args.at.n it (is_asked c.args.config.now c.args.told.now c.in-Some.t.now (acts c.in-Some.t.now.id c.in-Some-instance_row.x.now c.args.at.n) (want.Do c.args.at.instance c.args.op.now)) c.in-Some-2.actor c.requires.each c.requires.once asked;
      mode = ap (λ (g : Granted). g.mode) c.grant.ensures;
      added = c.in_ok-added.ensures.value;
      short = c.in_ok-added.ensures.short;
      free = c.pages_free.ensures;
      judged = judged c.args.config.now c.args.told.now c.args.at.epoch c.args.at.instance c.args.at.n c.args.op.now it c.in-Some-2.actor c.if-not-is_ready.ensures asked;
    }
