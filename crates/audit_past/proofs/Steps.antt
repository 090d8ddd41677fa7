-- What the past becomes by a record that names a call or an instance, where the one that it names is at hand.
use Rattle.std.proofs.Common.{ℕ, ◌≡◌, ◌≤◌, Bool, true, false, cond, List, [], ◌∷◌, ◌++◌, length, filter, fold, Option, Some, refl, ap}
use Rattle.std.specs.List.{find, list_any}
use Rattle.locus_ids.specs.declared.config.Config.{Config}
use Rattle.locus_ids.specs.declared.sites.Members.{Members}
use Rattle.locus_ids.specs.declared.ids.FileId.{FileId}
use Rattle.locus_ids.specs.declared.ids.Stamp.{Stamp}
use Rattle.locus_ids.specs.declared.ids.EpochId.{EpochId}
use Rattle.locus_ids.specs.declared.ids.CallId.{CallId}
use Rattle.locus_ids.specs.declared.ids.Serial.{Serial}
use Rattle.trace_book.specs.declared.record.Record.TheVariants as rec
use Rattle.trace_book.specs.declared.operation.Op.{Op}
use Rattle.trace_book.specs.declared.operation.Outcome.{Outcome}
use Rattle.trace_book.specs.declared.reply.Reply.{Reply}
use Rattle.file_effects.specs.declared.work.Work.{Work}
use Rattle.call_rules.specs.declared.answer.Answer.{Answer}
use Rattle.promises.specs.Past.{Past, CallSoFar, Epoch, Instance, acts, ends, epoch_at, is_named, unformed}
use Rattle.promises.specs.Tree.{work_after}
use Rattle.promises.specs.After.{acted, answered, begun_make, change, change_epoch, close_answer, is_actor, is_ender, is_epoch, is_id, released, replied_to, told_by, with_epoch}
use Rattle.lawful_trace.specs.Progress.{outcome_answer}
use Rattle.past_laws.proofs.Changing.{only_one}
use Rattle.past_laws.proofs.Names.{call_own}
use Rattle.past_laws.proofs.TreesLists.{any_one}
use Rattle.audit_past.proofs.Once.{change_alike, one_changed}

-- an epoch is there from its first join on, and nothing else changes
abbrev pub formed : EpochId → Members → List Epoch → List Epoch
formed e members epochs = cond (list_any (is_epoch e) epochs) epochs (record (unformed e) { members = members } ∷ epochs)

pub with_epoch_is : (e : EpochId) (members : Members) (p : Past) → with_epoch e members p ≡ record p { epochs = formed e members p.epochs }
with_epoch_is e members p = at (list_any (is_epoch e) p.epochs)
  where
    at : (b : Bool) → cond b p (record p { epochs = record (unformed e) { members = members } ∷ p.epochs }) ≡ record p { epochs = cond b p.epochs (record (unformed e) { members = members } ∷ p.epochs) }
    at true = refl
    at false = refl

-- the call of the name is answered
pub told_answer : (c : Config) (p : Past) (site process : ℕ) (id : CallId) (r : Reply) (k : CallSoFar) → length (filter (is_id id) p.calls) ≤ 1 → find (is_id id) p.calls ≡ Some k → told_by c (rec.Answer site process id r) p ≡ replied_to r k p
told_answer c p site process id r k few found = rw (only_one (is_id id) p.calls k few found) refl

-- the call of the close is answered, and the instance ends
pub told_release : (c : Config) (p : Past) (e : EpochId) (i : Serial) (f : FileId) (stamp : Option Stamp) (x : Instance) → length (filter (is_named i) (epoch_at p e).opened) ≤ 1 → find (is_named i) (epoch_at p e).opened ≡ Some x → told_by c (rec.Release e i f stamp) p ≡ change_epoch (is_epoch e) (released i f stamp) (answered (is_ender (epoch_at p e) i) (close_answer stamp x) p)
told_release c p e i f stamp x few found = rw (only_one (is_named i) (epoch_at p e).opened x few found) refl

-- what an operation makes of the epoch, where this becomes of the work of the instance
abbrev pub acted_so : Serial → Op → Outcome → Work → Epoch → Epoch
acted_so i o result w t = record t {
  opened = change (is_named i) (λ (x : Instance). record x { work = w }) t.opened;
  makes = fold (λ old x. begun_make o result x ++ old) t.makes (filter (is_named i) t.opened);
}

-- the instance of the name works on, in the one epoch of its name
pub told_act : (c : Config) (p : Past) (e : EpochId) (i : Serial) (n : ℕ) (o : Op) (result : Outcome) (t : Epoch) (x : Instance) →
    length (filter (is_epoch e) p.epochs) ≤ 1 → find (is_epoch e) p.epochs ≡ Some t → length (filter (is_named i) t.opened) ≤ 1 → find (is_named i) t.opened ≡ Some x →
    told_by c (rec.Act e i n o result) p ≡ change_epoch (is_epoch e) (acted_so i o result (work_after p t o result x)) (answered (is_actor (epoch_at p e) i n) (outcome_answer result) p)
told_act c p e i n o result t x once there few found =
    ap (λ ts. record (answered (is_actor (epoch_at p e) i n) (outcome_answer result) p) { epochs = ts })
    (change_alike (is_epoch e) (acted i o result p) (acted_so i o result (work_after p t o result x)) p.epochs t once there
    (ap (λ xs. record t { opened = xs; makes = fold (λ old y. begun_make o result y ++ old) t.makes (filter (is_named i) t.opened) })
    (change_alike (is_named i) (λ (y : Instance). record y { work = work_after p t o result y }) (λ (y : Instance). record y { work = work_after p t o result x }) t.opened x few found refl)))

-- The call whose step an operation or a release is.

-- by the instance of the name, what is asked of a call
pub actor_by : (t : Epoch) (i : Serial) (n : ℕ) (x : Instance) → length (filter (is_named i) t.opened) ≤ 1 → find (is_named i) t.opened ≡ Some x → (k : CallSoFar) → is_actor t i n k ≡ acts t.id x n k
actor_by t i n x few found k = any_one (is_named i) (λ (y : Instance). acts t.id y n k) t.opened x few found

pub ender_by : (t : Epoch) (i : Serial) (x : Instance) → length (filter (is_named i) t.opened) ≤ 1 → find (is_named i) t.opened ≡ Some x → (k : CallSoFar) → is_ender t i k ≡ ends t.id x k
ender_by t i x few found k = any_one (is_named i) (λ (y : Instance). ends t.id y k) t.opened x few found

-- the calls that pass are one, which is answered by its name
pub answered_one : (p : Past) (which : CallSoFar → Bool) (a : Answer) (k : CallSoFar) → length (filter which p.calls) ≤ 1 → length (filter (is_id k.id) p.calls) ≤ 1 → find which p.calls ≡ Some k → answered which a p ≡ answered (is_id k.id) a p
answered_one p which a k few once found = ap (λ ks. record p { calls = ks }) (one_changed which (is_id k.id) (λ (x : CallSoFar). record x { answers = x.answers ++ a ∷ [] }) p.calls k few once found (call_own k.id))
