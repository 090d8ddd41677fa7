use Rattle.instance_scripts.proofs.using.uses_wants.Goals as goal

pub returns-in_default-answers : goal.returns-in_default-answers
returns-in_default-answers c = rw c.in-Write.is (c.op_reply.ensures _)
