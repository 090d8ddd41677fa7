use Rattle.std.proofs.Common.{refl}
use Rattle.tree_laws.specs.Packets.{serial_of}
use Rattle.tree_laws.specs.Serials.{serial_asked}
use Rattle.store_laws.proofs.AnswerMending.{mend_waits}
use Rattle.store_laws.proofs.AnswerUnasked.{opens_unasked}
use Rattle.store_laws.proofs.answer.opens_wait_as_they_were_granted.Goals as goal

pub returns : goal.returns
returns c = λ config trace h laws. record {
  unasked = λ e d here opens. opens_unasked config trace h e d (serial_of d.site (serial_asked config trace d)) (record { accepted = here.caller; named = here.named; made_in = here.made_in }) here.inside opens refl refl;
  mending = λ e d request i file stamp ss here was same. mend_waits config trace h laws e d request i file stamp ss was same;
}
