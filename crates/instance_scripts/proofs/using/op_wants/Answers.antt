use Rattle.instance_scripts.proofs.using.op_wants.Goals as goal

pub returns-in_default : goal.returns-in_default
returns-in_default c = c.op_reply.ensures c.args.op
