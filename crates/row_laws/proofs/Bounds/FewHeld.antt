-- A held read sends as few packets as the operation that it stands for.
use Rattle.std.proofs.Common.{◌≡◌, ℕ, ◌+◌, ◌≤◌, Bool, true, false, cond, List, [], ◌∷◌, map, Option, Some, None, refl, ◌∙◌, ap, arith}
use Rattle.locus_ids.specs.declared.ids.Serial.{Serial}
use Rattle.commit_graph.specs.Grants.{is_read}
use Rattle.trace_book.specs.declared.operation.Op.TheVariants as op
use Rattle.trace_book.specs.declared.operation.Outcome.TheVariants as result
use Rattle.wire_messages.specs.declared.packet.Packet.{Packet}
use Rattle.wire_messages.specs.declared.body.Body.{Body}
use Rattle.wire_messages.specs.declared.body.Body.TheVariants as body
use Rattle.role_steps.specs.of_dir_format.Entries.{nothing_seen}
use Rattle.role_steps.specs.Views.{Frame, Store, Outcome}
use Rattle.role_steps.specs.Storage.{instance_of}
use Rattle.role_steps.specs.Operations.{on_op, short_body, short_packet, sent_in_form, in_form, nothing_to_mend, on_read_held}
use Rattle.role_steps.specs.declared.instances.Instance.{Instance}
use Rattle.row_laws.specs.Bounds.Deliveries.{opens_mend_in, serves_other, count}
use Rattle.row_laws.proofs.Bounds.Counting.{Few}
use Rattle.row_laws.proofs.Bounds.FewRoles.{SendsFew, on_op_few}

short_serves : (b : Body) → serves_other (short_body b) ≡ serves_other b
short_serves (body.OpDone serial n (result.Data bytes)) = refl
short_serves b = refl

short_opens : (g : ℕ) (b : Body) → opens_mend_in g (short_body b) ≡ opens_mend_in g b
short_opens g (body.OpDone serial n (result.Data bytes)) = refl
short_opens g b = refl

-- as many are such in the short form
count_short : (test : Body → Bool) → ((b : Body) → test (short_body b) ≡ test b) → (ps : List Packet) → count test (map short_packet ps) ≡ count test ps
count_short test same [] = refl
count_short test same (p ∷ ps) = ap (λ (b : Bool). cond b 1 0 + count test (map short_packet ps)) (same p.body) ∙ ap (λ (n : ℕ). cond (test p.body) 1 0 + n) (count_short test same ps)

short_few : (ps : List Packet) → Few ps → Few (map short_packet ps)
short_few ps h = record {
  calls = (let e : count serves_other (map short_packet ps) ≡ count serves_other ps = count_short serves_other short_serves ps in let l : count serves_other ps ≤ 1 = h.calls in omega (arith, e, l));
  mends = λ g. count_short (opens_mend_in g) (short_opens g) ps ∙ h.mends g;
}

form_few : (i : Option Instance) (o : Outcome Store) → SendsFew o → SendsFew (in_form i o)
form_few None o h = h
form_few (Some i) o h = elim (is_read i.mode) as (λ b. Few (cond b (map short_packet o.sent) o.sent)) [ true ↦ short_few o.sent h | false ↦ h ]

pub on_read_held_few : (f : Frame) (inst : Serial) (n at len : ℕ) (s : Store) → SendsFew (on_read_held f inst n at len s)
on_read_held_few f inst n at len s = form_few (instance_of s inst) (on_op f nothing_to_mend inst n (op.Read at len) nothing_seen s) (on_op_few f nothing_to_mend inst n (op.Read at len) nothing_seen s)
