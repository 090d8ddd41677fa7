use Rattle.std.proofs.Common.{sym}
use Rattle.line_text.proofs.HexWords.{byte_found, byte_none, byte_upper}
use Rattle.line_text.proofs.hex_words.hex_byte.Goals as goal

pub returns-then-not-are_lower_digits : goal.returns-then-not-are_lower_digits
returns-then-not-are_lower_digits c = byte_upper c.args.word.now (sym c.if-not-are_lower_digits.ensures)

pub returns-in-Ok : goal.returns-in-Ok
returns-in-Ok c =
    byte_found c.args.word.now c.decode_to_slice.new.out c.decode_to_slice.result c.in-Ok.field-0 c.decode_to_slice.ensures.value c.in-Ok.is (sym c.if-not-are_lower_digits.ensures)

pub returns-in-Err : goal.returns-in-Err
returns-in-Err c = byte_none c.args.word.now c.decode_to_slice.new.out c.decode_to_slice.result c.in-Err.field-0 c.decode_to_slice.ensures.value c.in-Err.is
