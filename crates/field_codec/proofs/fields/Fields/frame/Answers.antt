use Rattle.std.proofs.Common.{arith}
use Rattle.field_codec.proofs.Shapes.{frame_read}
use Rattle.field_codec.proofs.fields.Fields.frame.Goals as goal

pub returns : goal.returns
returns c = frame_read c.in_ok-length.length c.self.inside.at c.self.inside.bytes.now c.args.self.now c.get_u32.new.self c.in_ok-length.ensures.read c.self.view_is (omega (arith, c.if-left-length.false, c.left.ensures))
