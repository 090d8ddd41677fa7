use Rattle.instance_scripts.proofs.Refusing.{refused_close}
use Rattle.instance_scripts.proofs.closing.refuse.Goals as goal

pub returns : goal.returns
returns c = rw (refused_close c.args.inst c.args.own.now c.args.reply.now c.args.why.now c.args.answers.now) c.give_up.ensures
