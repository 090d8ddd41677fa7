use Rattle.std.proofs.Common.{map, ap, ◌∙◌}
use Rattle.packet_mail.specs.Posts.{Post, pending_of}
use Rattle.world.specs.States.{state_of}
use Rattle.world.proofs.Pending.{pending_follows}
use Rattle.world.proofs.world.World.list_pending.Goals as goal

pub returns : goal.returns
returns c = pending_follows c.args.line (state_of c.args.self.now) _ _ _ _ (c.in_ok-pending.ensures ∙ ap (λ (m : Post). map pending_of m.underway) c.mail.ensures) c.as_slice.ensures c.in_ok-out.ensures c.in_ok-note_told.ensures.config c.in_ok-note_told.ensures.places c.in_ok-note_told.ensures.cuts c.in_ok-note_told.ensures.book
