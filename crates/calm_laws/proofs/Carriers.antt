-- Which kinds of packets carry which requests.
use Rattle.std.proofs.Common.{ℕ, ◌⊎◌, List, Option, Some, sym, ap, subst, inl, inr}
use Rattle.locus_ids.specs.declared.config.Config.{Config}
use Rattle.trace_book.specs.declared.operation.Op.{Op}
use Rattle.trace_book.specs.declared.operation.Op.TheVariants as op
use Rattle.wire_messages.specs.declared.body.Body.{Body}
use Rattle.wire_messages.specs.declared.body.Body.TheVariants as body
use Rattle.wire_messages.specs.declared.body.MadeVersion.{MadeVersion}
use Rattle.wire_messages.specs.declared.body.OpenedAs.{OpenedAs}
use Rattle.wire_messages.specs.declared.packet.Packet.{Packet}
use Rattle.role_steps.specs.Requests.{operation_body}
use Rattle.role_steps.specs.declared.rounds.InEpoch.{InEpoch}
use Rattle.role_steps.specs.declared.synchronizing.OpenRow.{OpenRow}
use Rattle.role_steps.specs.declared.users.Asking.{Asking}
use Rattle.role_steps.specs.declared.users.Asking.TheVariants as asking
use Rattle.role_steps.specs.declared.users.WaitingCall.{WaitingCall}
use Rattle.run_laws.specs.Epochs.Known.{Places}
use Rattle.calm_laws.specs.Carrying.{Goes, look_body, open_body, opening_body, own_serial, CarriesLook, CarriesOpen, CarriesOp, CarriesClose, Carries}

-- the packet is of the kind of what goes
pub of_kind : (K : Body → Type 0) (c : Config) (e : InEpoch) (from to : ℕ) (b : Body) (p : Packet) → K p.body → Goes c e from to b p → K b
of_kind K c e from to b p k g = subst K (ap (λ (q : Packet). q.body) g.is) k

-- what goes is of the kind of the packet
is_kind : (K : Body → Type 0) (c : Config) (e : InEpoch) (from to : ℕ) (b : Body) (p : Packet) → K b → Goes c e from to b p → K p.body
is_kind K c e from to b p k g = subst K (sym (ap (λ (q : Packet). q.body) g.is)) k

-- a packet of this kind may carry such a request
abbrev pub MayCarry : Asking → Body → Type 0
MayCarry (asking.Look file w take) (body.Look call process request times f what) = Unit {0}
MayCarry (asking.Look file w take) (body.LookSs us call process request times f what stamp) = Unit {0}
MayCarry (asking.Look file w take) (body.LookDone call request times answer) = Unit {0}
MayCarry (asking.Open serial file how) (body.Open number call process request f as_how) = Unit {0}
MayCarry (asking.Open serial file how) (body.OpenSs inst f mode set kind base vector parents) = Unit {0}
MayCarry (asking.Open serial file how) (body.Opened inst answer) = Unit {0}
MayCarry (asking.Open serial file how) (body.OpenDone number answer) = Unit {0}
MayCarry (asking.Op serial ss n o seen) (body.Op number k what saw) = Unit {0}
MayCarry (asking.Op serial ss n o seen) (body.ReadHeld number k at len) = Unit {0}
MayCarry (asking.Op serial ss n o seen) (body.OpDone number k result) = Unit {0}
MayCarry (asking.Op serial ss n o seen) (body.AsHeld number k len) = Unit {0}
MayCarry (asking.Close serial ss) (body.Close number) = Unit {0}
MayCarry (asking.Close serial ss) (body.Closed inst made) = Unit {0}
MayCarry (asking.Close serial ss) (body.ClosedOk inst) = Unit {0}
MayCarry (asking.Close serial ss) (body.CloseDone number answer) = Unit {0}
MayCarry _ _ = ⊥

-- what is asked is such
abbrev pub IsLookAsking : Asking → Type 0
IsLookAsking (asking.Look file w take) = Unit {0}
IsLookAsking _ = ⊥

pub carrier_kind : (c : Config) (e : InEpoch) (at : Places) (s : ℕ) (x : WaitingCall) (a : Asking) (p : Packet) → Carries c e at s x a p → MayCarry a p.body
carrier_kind c e at s x (asking.Look file w take) p k = over k.2
  where
    over : CarriesLook c e s x file w take k.0 p → MayCarry (asking.Look file w take) p.body
    over (inl g) = is_kind (MayCarry (asking.Look file w take)) c e s k.0 (look_body x file w take) p tt g
    over (inr (inl h)) = is_kind (MayCarry (asking.Look file w take)) c e h.css h.holder (body.LookSs s x.call x.process x.request take file w h.stamp) p tt h.goes
    over (inr (inr h)) = is_kind (MayCarry (asking.Look file w take)) c e h.from s (body.LookDone x.call x.request take h.answer) p tt h.goes
carrier_kind c e at s x (asking.Open serial file how) p k = over k.2
  where
    way : (o : OpenRow) → Goes c e k.0 o.ss (opening_body o) p ⊎ ((a : OpenedAs) × Goes c e o.ss k.0 (body.Opened (own_serial s serial) a) p) → MayCarry (asking.Open serial file how) p.body
    way o (inl g) = is_kind (MayCarry (asking.Open serial file how)) c e k.0 o.ss (opening_body o) p tt g
    way o (inr g) = is_kind (MayCarry (asking.Open serial file how)) c e o.ss k.0 (body.Opened (own_serial s serial) g.0) p tt g.1

    over : CarriesOpen c e at s x serial file how k.0 p → MayCarry (asking.Open serial file how) p.body
    over (inl g) = is_kind (MayCarry (asking.Open serial file how)) c e s k.0 (open_body x serial file how) p tt g
    over (inr (inl h)) = way h.opened h.way
    over (inr (inr h)) = is_kind (MayCarry (asking.Open serial file how)) c e k.0 s (body.OpenDone serial h.answer) p tt h.goes
carrier_kind c e at s x (asking.Op serial ss n o seen) p k = over k
  where
    asks : (copied : Option (List ℕ)) (what : Op) → MayCarry (asking.Op serial ss n o seen) (operation_body copied serial n what seen)
    asks (Some bytes) (op.Read at len) = tt
    asks copied what = tt

    over : CarriesOp c e s serial ss n x.copied o seen p → MayCarry (asking.Op serial ss n o seen) p.body
    over (inl g) = is_kind (MayCarry (asking.Op serial ss n o seen)) c e s ss (operation_body x.copied serial n o seen) p (asks x.copied o) g
    over (inr (inl h)) = is_kind (MayCarry (asking.Op serial ss n o seen)) c e ss s (body.OpDone serial n h.result) p tt h.goes
    over (inr (inr h)) = is_kind (MayCarry (asking.Op serial ss n o seen)) c e ss s (body.AsHeld serial n h.many) p tt h.goes
carrier_kind c e at s x (asking.Close serial ss) p k = over k
  where
    way : (css : ℕ) → ((made : Option MadeVersion) × Goes c e ss css (body.Closed (own_serial s serial) made) p) ⊎ Goes c e css ss (body.ClosedOk (own_serial s serial)) p → MayCarry (asking.Close serial ss) p.body
    way css (inl g) = is_kind (MayCarry (asking.Close serial ss)) c e ss css (body.Closed (own_serial s serial) g.0) p tt g.1
    way css (inr g) = is_kind (MayCarry (asking.Close serial ss)) c e css ss (body.ClosedOk (own_serial s serial)) p tt g

    over : CarriesClose c e at s serial ss p → MayCarry (asking.Close serial ss) p.body
    over (inl g) = is_kind (MayCarry (asking.Close serial ss)) c e s ss (body.Close serial) p tt g
    over (inr (inl h)) = way h.css h.way
    over (inr (inr h)) = is_kind (MayCarry (asking.Close serial ss)) c e ss s (body.CloseDone serial h.answer) p tt h.goes
