use Rattle.role_steps.specs.Using.{close_answer}
use Rattle.store_laws.proofs.Serving.{looked_stands}
use Rattle.store_laws.proofs.AnswerAnswering.{act_waits, close_waits}
use Rattle.store_laws.proofs.answer.answers_wait_where_they_are_asked.Goals as goal

pub returns : goal.returns
returns c = record {
  acts = λ config trace h. record {
    done = λ e d i o n r here asked counted fact. (act_waits config trace e d i o fact.0 n r h (record { accepted = here.caller; named = here.named; made_in = here.made_in }) here.inside asked counted fact.1).0;
    same = λ e d i o p n r here asked counted was. (act_waits config trace e d i o p n r h (record { accepted = here.caller; named = here.named; made_in = here.made_in }) here.inside asked counted was).1;
  };
  closes = λ config trace h. record { closed = λ e d i a here asked fact. close_waits config trace h e d i fact.0 (close_answer a) (record { accepted = here.caller; named = here.named; made_in = here.made_in }) asked fact.1 };
  looks = λ config trace e d request times f w s h was. looked_stands config trace h e d request times f w s was;
}
