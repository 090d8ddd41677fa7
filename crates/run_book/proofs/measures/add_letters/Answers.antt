use Rattle.wire_messages.specs.declared.packet.Packet.{Packet}
use Rattle.wire_messages.specs.Packets.{FitsPacket}
use Rattle.run_book.proofs.Parts.{rest_has}
use Rattle.run_book.proofs.PartLetters.{letters_more}
use Rattle.run_book.proofs.measures.add_letters.Goals as goal

pub loop-i-preserved : goal.loop-i-preserved
loop-i-preserved c = record {
  letters = letters_more c.args.part.now.packets c.loop-i.i c.in-Some.packet.now c.loop-i.letters _ _ c.in-Some.ensures c.in_ok-add_letter-in-Some.ensures.letter c.loop-i.invariant.letters;
  fits = rest_has (λ (p : Packet). FitsPacket p) c.args.part.now.packets c.loop-i.i c.in-Some.packet.now c.in-Some.ensures c.in_ok-add_letter-in-Some.ensures.fits c.loop-i.invariant.fits;
}
