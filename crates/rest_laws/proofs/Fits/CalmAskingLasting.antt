-- An open instance that owes nothing stands on a version, but for that of a mend.
use Rattle.std.proofs.Common.{◌≡◌, ℕ, ◌==◌, Bool, true, false, not, cond, ◌&&◌, List, [], ◌∷◌, Option, Some, None, refl, sym, ◌∙◌, ap, subst, ◌⊎◌, inl, inr}
use Rattle.std.specs.Option.{is_none}
use Rattle.role_steps.proofs.of_plain_facts.Tests.{and_first, and_second, or_first, true_false}
use Rattle.locus_ids.specs.declared.config.Config.{Config}
use Rattle.locus_ids.specs.declared.ids.CallId.{CallId}
use Rattle.locus_ids.specs.declared.ids.EpochId.{EpochId}
use Rattle.locus_ids.specs.declared.ids.FileId.{FileId}
use Rattle.locus_ids.specs.declared.ids.Mode.{Mode}
use Rattle.locus_ids.specs.declared.ids.Mode.TheVariants as mode
use Rattle.locus_ids.specs.declared.ids.Serial.{Serial}
use Rattle.locus_ids.specs.declared.ids.Stamp.{Stamp}
use Rattle.commit_graph.specs.declared.history.Version.{Version}
use Rattle.trace_book.specs.declared.operation.Op.{Op}
use Rattle.trace_book.specs.declared.operation.Op.TheVariants as op
use Rattle.trace_book.specs.declared.operation.Outcome.{Outcome}
use Rattle.file_effects.specs.Effects.{Effect, is_refusal}
use Rattle.file_effects.specs.Works.{begins_owing, carried_out, counted}
use Rattle.file_effects.specs.declared.work.Work.{Work}
use Rattle.the_run.specs.Worlds.{Line}
use Rattle.tree_model.specs.declared.instance.Instance.{Instance}
use Rattle.tree_model.specs.Histories.{history}
use Rattle.tree_model.specs.Opening.{is_only, is_placed, open_refusal}
use Rattle.tree_model.specs.Same.{same_version}
use Rattle.tree_model.specs.State.{TreeState, held_at, is_granted, kept_of}
use Rattle.tree_model.specs.Tree.{once_acted, tree_of}
use Rattle.tree_model.specs.Working.{effect_on, operated_by, work_after}
use Rattle.tree_laws.specs.Following.{IsFollowed}
use Rattle.tree_laws.specs.Instances.{instance_now}
use Rattle.tree_laws.specs.Printed.{entries}
use Rattle.tree_laws.proofs.Orders.Standing.{acted_keeps}
use Rattle.store_laws.proofs.Holdings.Turning.{acted_last}
use Rattle.rest_laws.proofs.Fits.CalmAskingInstances.{Keeps, keeps}

-- it is a mend's, or is owed from its beginning
abbrev Begins : Instance → Type 0
Begins x = (x.grant.mode ≡ mode.Mend) ⊎ ((begins_owing x.grant.mode ≡ true) × ((x.work.owes ≡ true) × (x.work.committed ≡ None)))

abbrev Lasts : List Line → Instance → Type 0
Lasts t x = x.work.last ≡ None → Begins x

-- ---- as it is granted ----

none_only : (kept : List Stamp) → is_only kept None ≡ true → ⊥
none_only [] e = true_false (sym e)
none_only (a ∷ []) e = true_false (sym e)
none_only (a ∷ b ∷ others) e = true_false (sym e)

placed : (h : List Version) (t : TreeState) (call : CallId) (m : Mode) (f : FileId) (ss : ℕ) → is_placed h t call m f None ss ≡ true → (m ≡ mode.Mend) ⊎ (begins_owing m ≡ true)
placed h t call mode.Read f ss e = absurd (none_only (kept_of h t f) (and_first (is_only (kept_of h t f) None) (same_version (held_at t ss f.ino) None) e))
placed h t call mode.Write f ss e = absurd (none_only (kept_of h t f) (and_first (is_only (kept_of h t f) None) (same_version (held_at t ss f.ino) None) e))
placed h t call mode.Resolve f ss e = inr refl
placed h t call mode.Mend f ss e = inl refl
placed h t call mode.Make f ss e = inr refl

-- ---- by an operation ----

owes_still : (result : Outcome) (o : Option Effect) (w : Work) → w.owes ≡ true → (operated_by result o w).owes ≡ true
owes_still result None w e = e
owes_still result (Some x) w e = over (is_refusal result)
  where
    over : (b : Bool) → (cond b (counted w) (carried_out x w)).owes ≡ true
    over true = e
    over false = or_first w.owes x.counts e

aborted_owes : (m : Mode) (o : Option Stamp) → begins_owing m ≡ true → o ≡ None → (begins_owing m && is_none o) ≡ true
aborted_owes m o e k = ap (λ (z : Option Stamp). begins_owing m && is_none z) k ∙ ap (λ (b : Bool). b && true) e

acted_owes : (h : List Version) (t : TreeState) (o : Op) (result : Outcome) (x : Instance) → begins_owing x.grant.mode ≡ true → x.work.committed ≡ None → x.work.owes ≡ true → (work_after h t o result x).owes ≡ true
acted_owes h t op.Commit result x m k e = e
acted_owes h t op.Abort result x m k e = aborted_owes x.grant.mode x.work.committed m k
acted_owes h t op.Mend result x m k e = owes_still result (effect_on h t op.Mend x) x.work e
acted_owes h t op.Empty result x m k e = owes_still result (effect_on h t op.Empty x) x.work e
acted_owes h t (op.Probe name) result x m k e = owes_still result (effect_on h t (op.Probe name) x) x.work e
acted_owes h t (op.Find component) result x m k e = owes_still result (effect_on h t (op.Find component) x) x.work e
acted_owes h t (op.Insert name ino kind) result x m k e = owes_still result (effect_on h t (op.Insert name ino kind) x) x.work e
acted_owes h t (op.Remove name ino) result x m k e = owes_still result (effect_on h t (op.Remove name ino) x) x.work e
acted_owes h t (op.Rename component name) result x m k e = owes_still result (effect_on h t (op.Rename component name) x) x.work e
acted_owes h t (op.Read at len) result x m k e = owes_still result (effect_on h t (op.Read at len) x) x.work e
acted_owes h t (op.Write at bytes) result x m k e = owes_still result (effect_on h t (op.Write at bytes) x) x.work e
acted_owes h t (op.Cut len) result x m k e = owes_still result (effect_on h t (op.Cut len) x) x.work e

acted_begins : (h : List Version) (t : TreeState) (o : Op) (result : Outcome) (x : Instance) → Begins x → Begins (once_acted h t o result x)
acted_begins h t o result x (inl m) = inl m
acted_begins h t o result x (inr k) = inr (k.0, (acted_owes h t o result x k.0 k.1.1 k.1.0, acted_keeps h t o result x ∙ k.1.1))

-- ---- the whole ----

some_none : (s : Stamp) → ◌≡◌ {A = Option Stamp} (Some s) None → ⊥
some_none s e = cc

lasts : (c : Config) (e : EpochId) (i : Serial) → Keeps c e i Lasts
lasts c e i = record {
  grants = λ n older at d request inst m f stamp ss h may is same none. begun (tree_of c at f.group (entries older)) (history c (entries older)) d inst m f stamp ss (may.row.gives) none;
  acts = λ n older at inst number o result old h may is same found k none. acted_begins (history c (entries older)) (tree_of c at _ (entries older)) o result old (k (sym (acted_last (history c (entries older)) (tree_of c at _ (entries older)) o result old) ∙ none));
  commits = λ n older f s stamp parents content old h may found writes k none. absurd (some_none stamp none);
  stays = λ n x older old h may apart found k none. k none;
}
  where
    begun : (t : TreeState) (h : List Version) (d : CallId) (inst : Serial) (m : Mode) (f : FileId) (stamp : Option Stamp) (ss : ℕ) → (t.started && (is_none (open_refusal h t m d f) && ((inst.us == d.site) && (not (is_granted t inst) && is_placed h t d m f stamp ss)))) ≡ true → stamp ≡ None →
        (m ≡ mode.Mend) ⊎ ((begins_owing m ≡ true) × ((begins_owing m ≡ true) × (◌≡◌ {A = Option Stamp} None None)))
    begun t h d inst m f stamp ss gives none = over (placed h t d m f ss (subst (λ (o : Option Stamp). is_placed h t d m f o ss ≡ true) none
        (and_second (not (is_granted t inst)) (is_placed h t d m f stamp ss) (and_second (inst.us == d.site) _ (and_second (is_none (open_refusal h t m d f)) _ (and_second t.started _ gives))))))
      where
        over : (m ≡ mode.Mend) ⊎ (begins_owing m ≡ true) → (m ≡ mode.Mend) ⊎ ((begins_owing m ≡ true) × ((begins_owing m ≡ true) × (◌≡◌ {A = Option Stamp} None None)))
        over (inl k) = inl k
        over (inr k) = inr (k, (k, refl))

-- an instance that owes nothing has a last version, but for a mend's
pub last_stands : (c : Config) (t : List Line) → IsFollowed c t → (e : EpochId) (i : Serial) (x : Instance) → instance_now c t e i ≡ Some x → (x.grant.mode ≡ mode.Mend → ⊥) → x.work.owes ≡ false → (stamp : Stamp) × (x.work.last ≡ Some stamp)
last_stands c t h e i x found other clean = over x.work.last refl
  where
    over : (o : Option Stamp) → x.work.last ≡ o → (stamp : Stamp) × (o ≡ Some stamp)
    over (Some s) is = (s, refl)
    over None is = absurd (none (keeps c e i Lasts (lasts c e i) t h x found is))
      where
        none : Begins x → ⊥
        none (inl m) = other m
        none (inr k) = true_false (sym k.1.0 ∙ clean)
