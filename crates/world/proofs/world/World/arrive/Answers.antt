use Rattle.std.proofs.Common.{◌≡◌, Some, refl, sym, ap, ◌∙◌}
use Rattle.packet_mail.specs.Posts.{Post, sent_at, is_sent, packet_in}
use Rattle.world.specs.States.{state_of}
use Rattle.complete_laws.specs.Lines.{CanHappen}
use Rattle.world.specs.Faults.{WantsMemoryWithin}
use Rattle.role_steps.specs.Views.{Receives}
use Rattle.the_run.specs.Worlds.{Numbered}
use Rattle.the_run.specs.Runs.{packet_at}
use Rattle.world.proofs.Wanting.{given_on}
use Rattle.world.proofs.Letters.{arrive_shown, arrive_unsent, arrive_wants}
use Rattle.world.proofs.world.World.arrive.Goals as goal

pub returns-then-not-is_sent-clause-step : goal.returns-then-not-is_sent-clause-step
returns-then-not-is_sent-clause-step c = arrive_unsent c.args.line c.args.number (state_of c.args.self.now) (sym (ap (λ (m : Post). is_sent c.args.number m) c.mail-mail.ensures) ∙ (sym c.is_sent.ensures ∙ c.if-not-is_sent.true))

pub returns-clause-step : goal.returns-clause-step
returns-clause-step c = arrive_shown c.args.line c.args.number c.in-Ok.packet (state_of c.args.self.now) _ _ (c.in-Ok.ensures.found ∙ ap (λ (m : Post). packet_in (sent_at c.args.number m)) c.mail-mail.ensures) refl refl refl c.pass.ensures c.in_ok-hand_over.ensures.step

pub returns-in_err-hand_over-clause-fit : goal.returns-in_err-hand_over-clause-fit
returns-in_err-hand_over-clause-fit c = given_on (λ fault. (x : Numbered) → WantsMemoryWithin (λ k w. (packet_at w c.args.number ≡ Some x) × CanHappen k x.packet.to (Receives x.packet) w) (state_of c.args.self.now) fault) c.from_residual.result c.in_err-hand_over.field-0.0 c.from_residual.ensures
    (arrive_wants c.args.number c.in-Ok.packet (state_of c.args.self.now) _ c.in_err-hand_over.field-0.0 (c.in-Ok.ensures.found ∙ ap (λ (m : Post). packet_in (sent_at c.args.number m)) c.mail-mail.ensures) refl refl refl c.pass.ensures c.in_err-hand_over.ensures.fit)
