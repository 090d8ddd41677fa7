use Rattle.std.proofs.Common.{◌≡◌, Option, Some, None, sym, ap, subst, ◌∙◌}
use Rattle.std.specs.Option.{IfSome}
use Rattle.the_run.specs.Worlds.{Limit}
use Rattle.the_run.specs.Runs.{packet_at, next_packet, next_packet_of}
use Rattle.circuits.specs.Circuits.{TellsUp}
use Rattle.packet_mail.specs.Posts.{number_in}
use Rattle.world.specs.States.{state_of}
use Rattle.world.specs.Reached.{boots_of}
use Rattle.world.specs.Listed.{next_number}
use Rattle.world.proofs.LineLaws.{always, where_over}
use Rattle.world.proofs.Letters.{next_within, next_known}
use Rattle.world.proofs.world.World.next.Goals as goal

pub returns-then-is_some-clause-value : goal.returns-then-is_some-clause-value
returns-then-is_some-clause-value c = where_over (state_of c.args.self.now) (λ w. next_number w ≡ None) c.passed.result c.passed.ensures (sym c.is_some.ensures ∙ c.if-is_some.true) (λ w l e. ap (λ o. number_in (next_packet_of w o)) e)

pub returns-then-is_some-clause-known : goal.returns-then-is_some-clause-known
returns-then-is_some-clause-known c = where_over (state_of c.args.self.now) (λ w. IfSome (next_packet w) (λ x. packet_at w x.number ≡ Some x)) c.passed.result c.passed.ensures (sym c.is_some.ensures ∙ c.if-is_some.true) (λ w l e. subst (λ (o : Option Limit). IfSome (next_packet_of w o) (λ x. packet_at w x.number ≡ Some x)) (sym e) tt)

pub returns-clause-value : goal.returns-clause-value
returns-clause-value c = always (state_of c.args.self.now) (λ w. next_number w ≡ c.next.result) c.passed.result c.passed.ensures (sym c.is_some.ensures ∙ c.if-is_some.false) (λ k taken w o sh. next_within (state_of c.args.self.now) c.next.ensures.value.0 c.next.result k taken w o sh (subst (λ l. TellsUp c.next.ensures.value.0 c.args.self.now.cuts (boots_of l)) c.deref.ensures.value c.next.ensures.value.1.0) c.next.ensures.known c.next.ensures.value.1.1)

pub returns-clause-known : goal.returns-clause-known
returns-clause-known c = always (state_of c.args.self.now) (λ w. IfSome (next_packet w) (λ x. packet_at w x.number ≡ Some x)) c.passed.result c.passed.ensures (sym c.is_some.ensures ∙ c.if-is_some.false) (λ k taken w o sh. next_known (state_of c.args.self.now) k taken w o sh c.next.ensures.known)
