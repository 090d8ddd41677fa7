use Rattle.packet_order.proofs.Spelled.{letter_in, letter_long, next_within, place_within, found_here, found_later}
use Rattle.packet_order.proofs.sorting.place_for.Goals as goal

pub letter_at-letter-requires : goal.letter_at-letter-requires
letter_at-letter-requires c = next_within c.args.packets.now c.args.letters.now c.args.next c.requires.letters c.requires.next

pub letter_at-other-requires : goal.letter_at-other-requires
letter_at-other-requires c = place_within c.args.packets.now c.args.letters.now c.args.places.now c.loop-i.i 0 c.requires.letters c.requires.within c.loop-i-test.true

pub is_before-requires-clause-first : goal.is_before-requires-clause-first
is_before-requires-clause-first c = letter_long c.args.packets.now c.args.next c.letter_at-letter.result.now (letter_in c.args.packets.now c.args.letters.now c.args.next c.letter_at-letter.result.now c.requires.letters c.letter_at-letter.ensures)

pub is_before-requires-clause-second : goal.is_before-requires-clause-second
is_before-requires-clause-second c = letter_long c.args.packets.now _ c.letter_at-other.result.now (letter_in c.args.packets.now c.args.letters.now _ c.letter_at-other.result.now c.requires.letters c.letter_at-other.ensures)

pub returns-then-is_before : goal.returns-then-is_before
returns-then-is_before c = λ p e. found_here c.args.packets.now c.args.places.now c.args.next c.loop-i.i 0 c.letter_at-letter.result.now c.letter_at-other.result.now p c.is_before.result
    (letter_in c.args.packets.now c.args.letters.now c.args.next c.letter_at-letter.result.now c.requires.letters c.letter_at-letter.ensures)
    (letter_in c.args.packets.now c.args.letters.now _ c.letter_at-other.result.now c.requires.letters c.letter_at-other.ensures)
    e c.is_before.ensures c.if-is_before.true c.loop-i-test.true (c.loop-i.invariant p e)

pub loop-i-preserved : goal.loop-i-preserved
loop-i-preserved c = λ p e. found_later c.args.packets.now c.args.places.now c.args.next c.loop-i.i 0 c.letter_at-letter.result.now c.letter_at-other.result.now p c.is_before.result
    (letter_in c.args.packets.now c.args.letters.now c.args.next c.letter_at-letter.result.now c.requires.letters c.letter_at-letter.ensures)
    (letter_in c.args.packets.now c.args.letters.now _ c.letter_at-other.result.now c.requires.letters c.letter_at-other.ensures)
    e c.is_before.ensures c.if-is_before.false c.loop-i-test.true (c.loop-i.invariant p e)
