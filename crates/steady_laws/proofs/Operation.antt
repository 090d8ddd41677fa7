-- What a read on an open instance gives.
use Rattle.std.proofs.Common.{ℕ, ◌≡◌, ◌==◌, ◌+◌, Bool, true, false, ◌&&◌, cond, nat_lt, List, Option, None, Some, refl, sym}
use Rattle.std.proofs.lemmas.Bool.{false≢true}
use Rattle.std.proofs.lemmas.Slice.Eq.{bytes_eq-Decides}
use Rattle.locus_ids.specs.declared.ids.Serial.{Serial}
use Rattle.locus_ids.specs.declared.refusal.Refusal.TheVariants.{NoSpace}
use Rattle.commit_graph.specs.declared.history.Version.{Version}
use Rattle.file_content.specs.Contents.{part}
use Rattle.trace_book.specs.declared.operation.Op.TheVariants as op
use Rattle.trace_book.specs.declared.operation.Outcome.{Outcome}
use Rattle.trace_book.specs.declared.operation.Outcome.TheVariants as outcome
use Rattle.tree_model.specs.declared.instance.Instance.{Instance}
use Rattle.tree_model.specs.Given.{gives_act, instance_gives}
use Rattle.tree_model.specs.Same.{same_outcome}
use Rattle.tree_model.specs.State.{TreeState, instance_in}
use Rattle.file_effects.specs.Effects.{Effect, is_refusal, tells}
use Rattle.file_effects.specs.Works.{carried_out, counted}
use Rattle.tree_model.specs.Working.{free_pages, work_after}
use Rattle.steady_laws.specs.Answered.{KeepsContent, ReadsOn}

second : (a b : Bool) → (a && b) ≡ true → b ≡ true
second true b e = e
second false b e = absurd (false≢true e)

-- a read that gives bytes is of the working content of its instance
pub read_gives : (h : List Version) (t : TreeState) (i : Serial) (n at len : ℕ) (bytes : List ℕ) → gives_act h t i n (op.Read at len) (outcome.Data bytes) ≡ true → ReadsOn t i at len bytes
read_gives h t i n at len bytes e = over (instance_in t i) refl e
  where
    over : (o : Option Instance) → instance_in t i ≡ o → instance_gives h t n (op.Read at len) (outcome.Data bytes) o ≡ true → ReadsOn t i at len bytes
    over None q e = absurd (false≢true e)
    over (Some x) q e = record { on = x; is_open = q; bytes_are = sym (room (nat_lt (free_pages h t x.grant.ss) 0) (second (n == x.work.ops + 1) _ e)) }
      where
        room : (b : Bool) → same_outcome (cond b (outcome.No (NoSpace 0 (free_pages h t x.grant.ss))) (outcome.Data (part x.work.content at len))) (outcome.Data bytes) ≡ true → part x.work.content at len ≡ bytes
        room true k = absurd (false≢true k)
        room false k = (bytes_eq-Decides (part x.work.content at len) bytes).0 k

-- and leaves it as it is, on the version on which the instance stands
pub read_keeps : (h : List Version) (t : TreeState) (at len : ℕ) (result : Outcome) (x : Instance) → KeepsContent x.work (work_after h t (op.Read at len) result x)
read_keeps h t at len result x = over (is_refusal result)
  where
    e : Effect
    e = tells x.work.content (outcome.Data (part x.work.content at len))

    over : (b : Bool) → KeepsContent x.work (cond b (counted x.work) (carried_out e x.work))
    over true = record { content = refl; last = refl; committed = refl }
    over false = record { content = refl; last = refl; committed = refl }
