-- Operations and closes at their storage sites come as they may, from all that was told so far.
use Rattle.std.proofs.Common.{◌≡◌, ◌≤◌, ℕ, List, Some, subst, inl, inr}
use Rattle.locus_ids.specs.declared.config.Config.{Config}
use Rattle.locus_ids.specs.declared.ids.CallId.{CallId}
use Rattle.locus_ids.specs.declared.ids.EpochId.{EpochId}
use Rattle.locus_ids.specs.declared.ids.Serial.{Serial}
use Rattle.locus_ids.specs.Sizes.{sites_max}
use Rattle.trace_book.specs.declared.operation.Op.{Op}
use Rattle.trace_book.specs.declared.operation.Op.TheVariants as op
use Rattle.call_rules.specs.declared.want.Want.TheVariants as want
use Rattle.wire_messages.specs.declared.body.Body.{Body}
use Rattle.wire_messages.specs.declared.body.Body.TheVariants as body
use Rattle.wire_messages.specs.declared.packet.Packet.{Packet}
use Rattle.role_steps.specs.Mends.{mending}
use Rattle.role_steps.specs.Operations.{on_op}
use Rattle.role_steps.specs.OperationEffects.{Mending}
use Rattle.role_steps.specs.Storage.{instance_of, on_close}
use Rattle.role_steps.specs.Views.{Frame, SiteView, Store}
use Rattle.role_steps.specs.declared.instances.Instance.{Instance}
use Rattle.the_run.specs.Steps.{group_of}
use Rattle.the_run.specs.Worlds.{Line}
use Rattle.lawful_trace.specs.TreeRows.{IsCallIn}
use Rattle.tree_laws.specs.Calls.{Asks}
use Rattle.tree_laws.specs.Doing.{StoreFine, StoreHeld}
use Rattle.tree_laws.specs.Packets.{BodyFact, CloseFact, OpFact}
use Rattle.tree_laws.specs.Printed.{entries}
use Rattle.tree_laws.proofs.Grants.{open_named}
use Rattle.store_laws.proofs.AnswerDone.{done_named}
use Rattle.store_laws.specs.Rests.{MendsAs}
use Rattle.store_laws.proofs.Ending.{close_fine}
use Rattle.store_laws.proofs.Executing.{op_fine}
use Rattle.store_laws.proofs.StorageResting.{room_is}
use Rattle.store_laws.specs.OneTree.Places.{InsideFact}
use Rattle.store_laws.specs.OneTree.Rest.{AllRest, Past}
use Rattle.store_laws.specs.OneTree.Roles.{Came, Ready}
use Rattle.store_laws.proofs.OneTree.Staying.{rest_below}
use Rattle.rest_laws.specs.StoreStepSteps.{MendsRest}
use Rattle.rest_laws.proofs.StoreStepNamed.{named_low, released_low}
use Rattle.rest_laws.proofs.StoreStepResting.{op_rests, plain_rests, store_rests}
use Rattle.rest_laws.proofs.StoreStepStaying.{all_stay, unspent_told}
use Rattle.rest_laws.proofs.StoreStepWriting.{may_write}

abbrev pub user_of : Packet → ℕ → Serial
user_of p serial = record { us = p.from; serial = serial }

-- the fact of the packet that came
pub its_fact : (c : Config) (t : List Line) (f : Frame) (p : Packet) (b : Body) → Came c t f p b → BodyFact c t p b
its_fact c t f p b came = subst (BodyFact c t p) came.body_is came.fact

-- ---- closes ----

close_low : (c : Config) (t : List Line) → Past c t → (e : EpochId) (ss : ℕ) (i : Serial) → CloseFact c t e ss i → i.us ≤ sites_max
close_low c t past e ss i (inl k) = released_low c t past e i k
close_low c t past e ss i (inr k) = named_low c t past.followed past.rest.each e i (open_named c t e i k.0 k.1.open_at.found)

pub closes_fine : (c : Config) (n : ℕ) (t : List Line) (f : Frame) (p : Packet) (serial : ℕ) (s : Store) → Ready c t f → StoreHeld c f t s → Came c t f p (body.Close serial) → AllRest c n t (on_close f (record { us = p.from; serial = serial }) s).told → StoreFine c n t f s (on_close f (record { us = p.from; serial = serial }) s)
closes_fine c n t f p serial s ready held came rest =
    close_fine c n t ready.past.rest.packs ready.past.followed (store_rests c t ready.past) f ready.frame s held (may_write c t ready.past f ready.frame s held) (user_of p serial) (close_low c t ready.past f.epoch f.me (user_of p serial) fact) fact
    (all_stay c n (on_close f (user_of p serial) s).told t ready.past rest)
  where
    fact : CloseFact c t f.epoch f.me (user_of p serial)
    fact = subst (λ (e : EpochId). CloseFact c t e f.me (user_of p serial)) came.received.epoch_is (subst (λ (m : ℕ). CloseFact c t p.epoch m (user_of p serial)) came.received.to_is (its_fact c t f p (body.Close serial) came))

-- ---- operations ----

pub op_low : (c : Config) (t : List Line) → Past c t → (e : EpochId) (ss : ℕ) (i : Serial) (k : ℕ) (o : Op) (seen : List ℕ) → OpFact c t e ss i k o seen → i.us ≤ sites_max
op_low c t past e ss i k o seen (inl d) = named_low c t past.followed past.rest.each e i (done_named c t past.followed e i k o d.0 d.1)
op_low c t past e ss i k o seen (inr q) = named_low c t past.followed past.rest.each e i (open_named c t e i q.at q.open_at.found)

pub acts_fine : (c : Config) → MendsRest c → (n : ℕ) (t : List Line) (f : Frame) (p : Packet) (serial k : ℕ) (o : Op) (seen : List ℕ) (v : SiteView) → Ready c t f → InsideFact c f t v → Came c t f p (body.Op serial k o seen) →
    AllRest c n t (on_op f (mending v (group_of (instance_of v.store (record { us = p.from; serial = serial })))) (record { us = p.from; serial = serial }) k o seen v.store).told → StoreFine c n t f v.store (on_op f (mending v (group_of (instance_of v.store (record { us = p.from; serial = serial })))) (record { us = p.from; serial = serial }) k o seen v.store)
acts_fine c left n t f p serial k o seen v ready inside came rest =
    op_fine c n t ready.past.rest.packs ready.past.followed (store_rests c t ready.past) (op_rests c t ready.past) f ready.frame v.store inside.store
    (room_is c t ready.past.followed (rest_below c t ready.past.rest) (plain_rests c t ready.past) f ready.frame v.store inside.store) (may_write c t ready.past f ready.frame v.store inside.store)
    m (user_of p serial) (op_low c t ready.past f.epoch f.me (user_of p serial) k o seen fact) k o seen fact kept_so
    (unspent_told c n (on_op f m (user_of p serial) k o seen v.store).told t rest)
    (all_stay c n (on_op f m (user_of p serial) k o seen v.store).told t ready.past rest)
  where
    m : Mending
    m = mending v (group_of (instance_of v.store (user_of p serial)))

    fact : OpFact c t f.epoch f.me (user_of p serial) k o seen
    fact = subst (λ (e : EpochId). OpFact c t e f.me (user_of p serial) k o seen) came.received.epoch_is (subst (λ (z : ℕ). OpFact c t p.epoch z (user_of p serial) k o seen) came.received.to_is (its_fact c t f p (body.Op serial k o seen) came))

    kept_so : (i : Instance) → instance_of v.store (user_of p serial) ≡ Some i → o ≡ op.Mend → (d : CallId) → IsCallIn (entries t) f.epoch d → Asks c t d (want.Do (user_of p serial) op.Mend) → MendsAs c t f i.file m
    kept_so i found is d made asks = left.mends t f v ready inside (user_of p serial) (op_low c t ready.past f.epoch f.me (user_of p serial) k o seen fact) i found d made asks
