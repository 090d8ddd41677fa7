-- An operation that may come next, but for what it gives: of which open instance and of which call it is a step, and what it is
-- carried out with.
use Rattle.std.specs.Prelude.{ℕ, ◌≡◌, ◌+◌, false, Option, None, Some}
use Rattle.std.specs.List.{find}
use Rattle.std.specs.Option.{option_map}
use Rattle.locus_ids.specs.declared.config.Config.{Config}
use Rattle.locus_ids.specs.declared.ids.CallId.{CallId}
use Rattle.locus_ids.specs.declared.ids.EpochId.{EpochId}
use Rattle.locus_ids.specs.declared.ids.Serial.{Serial}
use Rattle.trace_book.specs.declared.operation.Op.{Op}
use Rattle.trace_book.specs.declared.operation.Outcome.{Outcome}
use Rattle.tree_model.specs.Same.{is_given}
use Rattle.promises.specs.Past.{CallSoFar, Instance, Past, acts, epoch_at}
use Rattle.promises.specs.Rows.{may_act}
use Rattle.promises.specs.Tree.{free_pages, result_on}
use Rattle.audit_tree.specs.Adding.{IsShort, added_on}
use Rattle.audit_told_calls.specs.of_audit_past.Writing.{IsActor, IsOpen}
use Rattle.audit_rows.specs.declared.acting.Acting.{Acting}

-- the name of the call whose step operation n of the instance is
abbrev pub actor_of : Past → EpochId → Instance → ℕ → Option CallId
actor_of p e x n = option_map (λ (k : CallSoFar). k.id) (find (acts e x n) p.calls)

-- the operation is the next of an open instance, a step that this call asks, and is carried out with what the tree adds to it;
-- it may come next where what it gives is what it was recorded to give
pub record MayActWith (c : Config) (p : Past) (e : EpochId) (i : Serial) (n : ℕ) (o : Op) (a : Acting) : Type 0 where
  pub stands : IsOpen p e i
  pub next : n ≡ stands.instance.work.ops + 1
  pub step : IsActor p e i n a.actor
  pub mode : a.mode ≡ stands.instance.grant.mode
  pub added : a.added ≡ added_on p stands.epoch o stands.instance
  pub short : IsShort a.added
  pub free : a.free ≡ free_pages p stands.epoch stands.instance.grant.file.group stands.instance.grant.ss
  pub judged : (result : Outcome) → may_act c p (epoch_at p e) i n o result ≡ is_given (result_on p stands.epoch o stands.instance) result

-- it may with this, or it may not, whatever it gives
abbrev pub MayAct : Config → Past → EpochId → Serial → ℕ → Op → Option Acting → Type 0
MayAct c p e i n o None = (result : Outcome) → may_act c p (epoch_at p e) i n o result ≡ false
MayAct c p e i n o (Some a) = MayActWith c p e i n o a
