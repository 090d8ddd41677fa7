-- Answers come to a using site: to looks, operations and closes.
use Rattle.std.proofs.Common.{ℕ, List, subst}
use Rattle.locus_ids.specs.declared.config.Config.{Config}
use Rattle.locus_ids.specs.declared.ids.EpochId.{EpochId}
use Rattle.trace_book.specs.declared.operation.Outcome.{Outcome as Result}
use Rattle.wire_messages.specs.declared.body.Body.{Body}
use Rattle.wire_messages.specs.declared.body.Body.TheVariants as body
use Rattle.wire_messages.specs.declared.body.CloseAnswer.{CloseAnswer}
use Rattle.wire_messages.specs.declared.body.LookAnswer.{LookAnswer}
use Rattle.wire_messages.specs.declared.packet.Packet.{Packet}
use Rattle.role_steps.specs.Using.{on_as_held, on_close_done, on_look_done, on_op_done}
use Rattle.role_steps.specs.Views.{Frame, Users}
use Rattle.the_run.specs.Worlds.{Line}
use Rattle.tree_laws.specs.Packets.{BodyFact, CloseDoneFact, HeldFact, LookDoneFact, OpDoneFact, serial_of}
use Rattle.store_laws.proofs.Users.OnClose.{close_done_fine}
use Rattle.store_laws.proofs.Users.OnHeld.{held_fine}
use Rattle.store_laws.proofs.Users.OnLook.{look_done_fine}
use Rattle.store_laws.proofs.Users.OnOp.{op_done_fine}
use Rattle.store_laws.specs.OneTree.Places.{UsersOf}
use Rattle.store_laws.specs.OneTree.Rest.{AllRest}
use Rattle.store_laws.specs.OneTree.Roles.{Came, CallsFine, Ready}
use Rattle.store_laws.specs.OneTree.UserStepRests.{UserRests}
use Rattle.store_laws.proofs.OneTree.UserStepResting.{calls_fine, staying, steady}

-- the fact of the packet that came
pub its_fact : (c : Config) (t : List Line) (f : Frame) (p : Packet) (b : Body) → Came c t f p b → BodyFact c t p b
its_fact c t f p b came = subst (BodyFact c t p) came.body_is came.fact

pub looked : (c : Config) → UserRests c → (n : ℕ) (t : List Line) (f : Frame) (p : Packet) (call request take : ℕ) (a : LookAnswer) (u : Users) → Ready c t f → UsersOf c f t u → Came c t f p (body.LookDone call request take a) → AllRest c n t (on_look_done f call request take a u).told → CallsFine c n t f (on_look_done f call request take a u)
looked c rests n t f p call request take a u ready k came rest = calls_fine c n t f (on_look_done f call request take a u)
    (look_done_fine c n t f u ready.past.followed ready.frame k.inside (steady c t ready.past) (rests.looks t ready.past) call request take a fact (staying c rests n t (on_look_done f call request take a u).told ready.past rest))
  where
    fact : LookDoneFact c t f.epoch f.me f.boot call request take a
    fact = subst (λ (e : EpochId). LookDoneFact c t e f.me f.boot call request take a) came.received.epoch_is
        (subst (λ (s : ℕ). LookDoneFact c t p.epoch s f.boot call request take a) came.received.to_is
        (subst (λ (b : ℕ). LookDoneFact c t p.epoch p.to b call request take a) came.received.to_boot_is (its_fact c t f p (body.LookDone call request take a) came)))

pub acted : (c : Config) → UserRests c → (n : ℕ) (t : List Line) (f : Frame) (p : Packet) (serial k : ℕ) (r : Result) (u : Users) → Ready c t f → UsersOf c f t u → Came c t f p (body.OpDone serial k r) → AllRest c n t (on_op_done f serial k r u).told → CallsFine c n t f (on_op_done f serial k r u)
acted c rests n t f p serial k r u ready has came rest = calls_fine c n t f (on_op_done f serial k r u)
    (op_done_fine c n t f u serial k r ready.past.followed ready.frame has.inside (rests.acts t ready.past) (rests.reads t ready.past) fact (staying c rests n t (on_op_done f serial k r u).told ready.past rest))
  where
    fact : OpDoneFact t f.epoch (serial_of f.me serial) k r
    fact = subst (λ (e : EpochId). OpDoneFact t e (serial_of f.me serial) k r) came.received.epoch_is
        (subst (λ (s : ℕ). OpDoneFact t p.epoch (serial_of s serial) k r) came.received.to_is (its_fact c t f p (body.OpDone serial k r) came))

pub held : (c : Config) → UserRests c → (n : ℕ) (t : List Line) (f : Frame) (p : Packet) (serial k len : ℕ) (u : Users) → Ready c t f → UsersOf c f t u → Came c t f p (body.AsHeld serial k len) → AllRest c n t (on_as_held f serial k u).told → CallsFine c n t f (on_as_held f serial k u)
held c rests n t f p serial k len u ready has came rest = calls_fine c n t f (on_as_held f serial k u)
    (held_fine c n t f u serial k len ready.past.followed ready.frame has.inside (rests.acts t ready.past) (rests.reads t ready.past) fact (staying c rests n t (on_as_held f serial k u).told ready.past rest))
  where
    fact : HeldFact t f.epoch (serial_of f.me serial) k len
    fact = subst (λ (e : EpochId). HeldFact t e (serial_of f.me serial) k len) came.received.epoch_is
        (subst (λ (s : ℕ). HeldFact t p.epoch (serial_of s serial) k len) came.received.to_is (its_fact c t f p (body.AsHeld serial k len) came))

pub closed : (c : Config) → UserRests c → (n : ℕ) (t : List Line) (f : Frame) (p : Packet) (serial : ℕ) (a : CloseAnswer) (u : Users) → Ready c t f → UsersOf c f t u → Came c t f p (body.CloseDone serial a) → AllRest c n t (on_close_done f serial a u).told → CallsFine c n t f (on_close_done f serial a u)
closed c rests n t f p serial a u ready has came rest = calls_fine c n t f (on_close_done f serial a u)
    (close_done_fine c n t f u serial a ready.past.followed ready.frame has.inside (rests.closes t ready.past) fact (staying c rests n t (on_close_done f serial a u).told ready.past rest))
  where
    fact : CloseDoneFact c t f.epoch (serial_of f.me serial) a
    fact = subst (λ (e : EpochId). CloseDoneFact c t e (serial_of f.me serial) a) came.received.epoch_is
        (subst (λ (s : ℕ). CloseDoneFact c t p.epoch (serial_of s serial) a) came.received.to_is (its_fact c t f p (body.CloseDone serial a) came))
