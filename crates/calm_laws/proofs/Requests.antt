-- The packet of a request carries it, where it goes to a member.
use Rattle.std.proofs.Common.{◌≡◌, ℕ, Option, Some, None, refl, ap, inl}
use Rattle.locus_ids.specs.declared.config.Config.{Config}
use Rattle.wire_messages.specs.declared.body.Body.{Body}
use Rattle.wire_messages.specs.declared.body.Body.TheVariants as body
use Rattle.wire_messages.specs.declared.packet.Packet.{Packet}
use Rattle.role_steps.specs.Requests.{request_packets, operation_body}
use Rattle.role_steps.specs.Views.{packet, to_some, sync_site}
use Rattle.role_steps.specs.declared.rounds.InEpoch.{InEpoch}
use Rattle.role_steps.specs.declared.users.Asking.{Asking}
use Rattle.role_steps.specs.declared.users.Asking.TheVariants as asking
use Rattle.role_steps.specs.declared.users.WaitingCall.{WaitingCall}
use Rattle.the_run.specs.Kept.{Among}
use Rattle.run_laws.specs.Epochs.Known.{Places}
use Rattle.calm_laws.specs.Carrying.{IsMember, frame_of, look_body, open_body, Carries}
use Rattle.calm_laws.specs.Rounds.{GoesToMember}
use Rattle.calm_laws.proofs.Members.{sync_is}

pub to_some_has : (c : Config) (e : InEpoch) (s css : ℕ) (b : Body) (o : Option ℕ) → o ≡ Some css → Among (packet (frame_of c e s) css b) (to_some (frame_of c e s) b o)
to_some_has c e s css b None h = absurd (none h)
  where
    none : ◌≡◌ {A = Option ℕ} None (Some css) → ⊥
    none q = cc
to_some_has c e s css b (Some t) h = inl (ap (λ (x : ℕ). packet (frame_of c e s) x b) (same h))
  where
    same : ◌≡◌ {A = Option ℕ} (Some t) (Some css) → css ≡ t
    same q = cc

-- the packet of the request, which carries it
pub record Requested (c : Config) (e : InEpoch) (at : Places) (s : ℕ) (x : WaitingCall) (a : Asking) : Type 0 where
  pub letter : Packet
  pub there : Among letter (request_packets (frame_of c e s) x a)
  pub carries : Carries c e at s x a letter

pub request_carries : (c : Config) (e : InEpoch) (at : Places) (s : ℕ) (x : WaitingCall) (a : Asking) → IsMember e s → GoesToMember c e a → Requested c e at s x a
request_carries c e at s x (asking.Look file w take) m g = record {
  letter = packet (frame_of c e s) g.0 (look_body x file w take);
  there = to_some_has c e s g.0 (look_body x file w take) (sync_site c e.members file.group) g.1;
  carries = (g.0, g.1, inl (record { sender = m; receiver = (sync_is c e file.group g.0 g.1).1; is = refl }));
}
request_carries c e at s x (asking.Open serial file how) m g = record {
  letter = packet (frame_of c e s) g.0 (open_body x serial file how);
  there = to_some_has c e s g.0 (open_body x serial file how) (sync_site c e.members file.group) g.1;
  carries = (g.0, g.1, inl (record { sender = m; receiver = (sync_is c e file.group g.0 g.1).1; is = refl }));
}
request_carries c e at s x (asking.Op serial ss n o seen) m g = record { letter = packet (frame_of c e s) ss (operation_body x.copied serial n o seen); there = inl refl; carries = inl (record { sender = m; receiver = g; is = refl }) }
request_carries c e at s x (asking.Close serial ss) m g = record { letter = packet (frame_of c e s) ss (body.Close serial); there = inl refl; carries = inl (record { sender = m; receiver = g; is = refl }) }
