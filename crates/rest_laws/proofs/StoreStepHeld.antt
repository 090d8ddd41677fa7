-- A read whose asker has the bytes comes to its storage site: it is done as any read is, and its answer carries its fact in either form.
use Rattle.std.proofs.Common.{◌≡◌, ℕ, List, [], ◌∷◌, Option, Some, None, refl, sym, subst}
use Rattle.std.specs.Prelude.{map}
use Rattle.locus_ids.specs.declared.config.Config.{Config}
use Rattle.locus_ids.specs.declared.ids.EpochId.{EpochId}
use Rattle.locus_ids.specs.declared.ids.Serial.{Serial}
use Rattle.call_rules.specs.of_commit_graph.Grants.{is_read}
use Rattle.dir_format.specs.Entries.{nothing_seen}
use Rattle.trace_book.specs.declared.operation.Op.TheVariants as op
use Rattle.trace_book.specs.declared.operation.Outcome.TheVariants as result
use Rattle.wire_messages.specs.declared.body.Body.{Body}
use Rattle.wire_messages.specs.declared.body.Body.TheVariants as body
use Rattle.wire_messages.specs.declared.packet.Packet.{Packet}
use Rattle.role_steps.specs.Operations.{in_form, nothing_to_mend, on_op, on_read_held, short_body, short_packet}
use Rattle.role_steps.specs.Own.{Every}
use Rattle.role_steps.specs.Storage.{instance_of}
use Rattle.role_steps.specs.Views.{Frame, Store, Outcome}
use Rattle.role_steps.specs.declared.instances.Instance.{Instance}
use Rattle.role_steps.proofs.Sending.{every_cond}
use Rattle.the_run.specs.Worlds.{Line, told_onto}
use Rattle.tree_laws.specs.Doing.{StoreFine, StoreHeld}
use Rattle.tree_laws.specs.Packets.{BodyFact, OpFact, PacketFact}
use Rattle.store_laws.proofs.Executing.{op_fine}
use Rattle.store_laws.proofs.StorageResting.{room_is}
use Rattle.store_laws.specs.OneTree.Rest.{AllRest}
use Rattle.store_laws.specs.OneTree.Roles.{Came, Ready}
use Rattle.store_laws.proofs.OneTree.Staying.{rest_below}
use Rattle.rest_laws.proofs.StoreStepResting.{op_rests, plain_rests, store_rests}
use Rattle.rest_laws.proofs.StoreStepStaying.{all_stay, unspent_told}
use Rattle.rest_laws.proofs.StoreStepSteps.{its_fact, op_low, user_of}
use Rattle.rest_laws.proofs.StoreStepWriting.{may_write}

-- ---- the form of the answer ----

short_fact : (c : Config) (t : List Line) (p : Packet) (b : Body) → BodyFact c t p b → BodyFact c t (record p { body = short_body b }) (short_body b)
short_fact c t p (body.OpDone serial n (result.Data bytes)) k = (bytes, refl, k)
short_fact c t p b k = k

short_facts : (c : Config) (t : List Line) (ps : List Packet) → Every (PacketFact c t) ps → Every (PacketFact c t) (map short_packet ps)
short_facts c t [] k = tt
short_facts c t (p ∷ ps) k = (short_fact c t p p.body k.0, short_facts c t ps k.1)

-- nothing else is other
form_fine : (c : Config) (n : ℕ) (t : List Line) (f : Frame) (s : Store) (i : Option Instance) (o : Outcome Store) → StoreFine c n t f s o → StoreFine c n t f s (in_form i o)
form_fine c n t f s None o k = k
form_fine c n t f s (Some i) o k = record {
  told = k.told;
  own = k.own;
  view = k.view;
  sent = every_cond (PacketFact c (told_onto n o.told t)) (is_read i.mode) (map short_packet o.sent) o.sent (short_facts c (told_onto n o.told t) o.sent k.sent) k.sent;
  written = k.written;
}

form_told : (i : Option Instance) (o : Outcome Store) → (in_form i o).told ≡ o.told
form_told None o = refl
form_told (Some i) o = refl

-- ---- the read ----

no_mend : (at len : ℕ) → op.Read at len ≡ op.Mend → ⊥
no_mend at len e = cc

module _ (c : Config) (n : ℕ) (t : List Line) (f : Frame) (p : Packet) (serial k at len : ℕ) (s : Store) where
  abbrev i : Serial
  i = user_of p serial

  abbrev o : Outcome Store
  o = on_op f nothing_to_mend i k (op.Read at len) nothing_seen s

  its_op : Came c t f p (body.ReadHeld serial k at len) → OpFact c t f.epoch f.me i k (op.Read at len) nothing_seen
  its_op came = subst (λ (e : EpochId). OpFact c t e f.me i k (op.Read at len) nothing_seen) came.received.epoch_is (subst (λ (m : ℕ). OpFact c t p.epoch m i k (op.Read at len) nothing_seen) came.received.to_is (its_fact c t f p (body.ReadHeld serial k at len) came))

  op_done_fine : Ready c t f → StoreHeld c f t s → Came c t f p (body.ReadHeld serial k at len) → AllRest c n t o.told → StoreFine c n t f s o
  op_done_fine ready held came rest = op_fine c n t ready.past.rest.packs ready.past.followed (store_rests c t ready.past) (op_rests c t ready.past) f ready.frame s held
      (room_is c t ready.past.followed (rest_below c t ready.past.rest) (plain_rests c t ready.past) f ready.frame s held) (may_write c t ready.past f ready.frame s held)
      nothing_to_mend i (op_low c t ready.past f.epoch f.me i k (op.Read at len) nothing_seen (its_op came)) k (op.Read at len) nothing_seen (its_op came) (λ x found is d made asks. absurd (no_mend at len is))
      (unspent_told c n o.told t rest) (all_stay c n o.told t ready.past rest)

  pub reads_fine : Ready c t f → StoreHeld c f t s → Came c t f p (body.ReadHeld serial k at len) → AllRest c n t (on_read_held f (record { us = p.from; serial = serial }) k at len s).told → StoreFine c n t f s (on_read_held f (record { us = p.from; serial = serial }) k at len s)
  reads_fine ready held came rest = form_fine c n t f s (instance_of s i) o (op_done_fine ready held came (subst (AllRest c n t) (form_told (instance_of s i) o) rest))
