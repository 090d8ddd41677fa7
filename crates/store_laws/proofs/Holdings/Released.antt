-- What was released isn't open any more.
use Rattle.std.proofs.Common.{◌≡◌, ℕ, ◌==◌, Bool, true, false, ◌&&◌, cond, List, [], ◌∷◌, Option, Some, None, sym, ◌∙◌, subst, ◌⊎◌, inl, inr}
use Rattle.std.specs.List.{find}
use Rattle.tree_laws.proofs.of_plain_facts.Numbers.{equal_self}
use Rattle.tree_laws.proofs.of_plain_facts.Options.{none_some}
use Rattle.tree_laws.proofs.of_plain_facts.Tests.{true_false}
use Rattle.locus_ids.specs.declared.config.Config.{Config}
use Rattle.locus_ids.specs.declared.ids.EpochId.{EpochId}
use Rattle.locus_ids.specs.declared.ids.FileId.{FileId}
use Rattle.locus_ids.specs.declared.ids.Serial.{Serial}
use Rattle.locus_ids.specs.declared.ids.Stamp.{Stamp}
use Rattle.trace_book.specs.Same.{same_epoch}
use Rattle.trace_book.specs.declared.record.Record.{Record}
use Rattle.trace_book.specs.declared.record.Record.TheVariants as says
use Rattle.site_laws.specs.of_role_steps.Views.{Told, Shown}
use Rattle.tree_laws.specs.of_the_run.Worlds.{Line}
use Rattle.tree_model.specs.declared.instance.Instance.{Instance}
use Rattle.tree_model.specs.Histories.{history}
use Rattle.tree_model.specs.State.{instance_in, is_named}
use Rattle.tree_model.specs.Tree.{released, tree_of}
use Rattle.tree_laws.specs.of_lawful_trace.TreeRows.{granted_group}
use Rattle.tree_laws.specs.Following.{IsFollowed, MayTell}
use Rattle.tree_laws.specs.Instances.{instance_now}
use Rattle.tree_laws.specs.Past.{EndRecord, Printed, WasNamed, WasReleased}
use Rattle.tree_laws.specs.Printed.{entries}
use Rattle.tree_laws.proofs.Grants.{Had, before_record, open_named}
use Rattle.tree_laws.proofs.Names.{same_epoch_own}
use Rattle.tree_laws.proofs.Opened.{GrantsIt}
use Rattle.tree_laws.proofs.Rows.{followed_rows}
use Rattle.tree_laws.proofs.Orders.Alone.{tree_named}
use Rattle.store_laws.proofs.Holdings.Distinct.{none_left, open_now, rows_names_apart}

pub released_named : (c : Config) (trace : List Line) → IsFollowed c trace → (e : EpochId) (i : Serial) → WasReleased trace e i → WasNamed trace e i
released_named c [] followed e i k = absurd k
released_named c (x ∷ older) followed e i (inr k) = inr (released_named c older followed.1 e i k)
released_named c (x ∷ older) followed e i (inl k) = inr (over x.told followed.0 k)
  where
    of : (r : Record) → MayTell c older (Shown r) → EndRecord e i older r → WasNamed older e i
    of (says.Release at inst file last) may k = subst (λ (z : EpochId). WasNamed older z i) k.epoch_is (subst (λ (z : Serial). WasNamed older at z) k.serial_is (open_named c older at inst may.in_time.at may.in_time.open_at.found))
    of r may k = absurd k

    over : (y : Told) → MayTell c older y → Printed (EndRecord e i) older y → WasNamed older e i
    over (Shown r) may k = of r may k
    over y may k = absurd k

-- a release takes the instance out
ends_now : (c : Config) (older : List Line) (n : ℕ) (at : EpochId) (inst : Serial) (file : FileId) (last : Option Stamp) → IsFollowed c older → MayTell c older (Shown (says.Release at inst file last)) → (x : Instance) →
    instance_now c (record { number = n; told = Shown (says.Release at inst file last) } ∷ older) at inst ≡ Some x → ⊥
ends_now c older n at inst file last followed may x k = none_some x (sym gone ∙ there)
  where
    there : instance_in (tree_of c at file.group (record { line = n; what = says.Release at inst file last } ∷ entries older)) inst ≡ Some x
    there = subst (λ (g : ℕ). instance_in (tree_of c at g (record { line = n; what = says.Release at inst file last } ∷ entries older)) inst ≡ Some x) may.in_time.group_is k

    same : same_epoch at (tree_of c at file.group (entries older)).epoch ≡ true
    same = subst (λ (z : EpochId). same_epoch at z ≡ true) (sym (tree_named c at file.group (entries older)).0) (same_epoch_own at)

    in_group : (file.group == (tree_of c at file.group (entries older)).group) ≡ true
    in_group = subst (λ (g : ℕ). (file.group == g) ≡ true) (sym (tree_named c at file.group (entries older)).1) (equal_self file.group)

    over : (a b : Bool) → a ≡ true → b ≡ true → find (is_named inst) (cond (a && b) (released inst file last (tree_of c at file.group (entries older))) (tree_of c at file.group (entries older))).instances ≡ None
    over true true p q = none_left inst (tree_of c at file.group (entries older)).instances (rows_names_apart c (entries older) (followed_rows c older followed) at file.group)
    over true false p q = absurd (true_false (sym q))
    over false b p q = absurd (true_false (sym p))

    gone : instance_in (tree_of c at file.group (record { line = n; what = says.Release at inst file last } ∷ entries older)) inst ≡ None
    gone = over (same_epoch at (tree_of c at file.group (entries older)).epoch) (file.group == (tree_of c at file.group (entries older)).group) same in_group

pub released_shut : (c : Config) (trace : List Line) → IsFollowed c trace → (e : EpochId) (i : Serial) (x : Instance) → WasReleased trace e i → instance_now c trace e i ≡ Some x → ⊥
released_shut c [] followed e i x k found = k
released_shut c (y ∷ older) followed e i x (inl k) found = over y.told followed.0 k found
  where
    of : (r : Record) → MayTell c older (Shown r) → EndRecord e i older r → instance_now c (record { number = y.number; told = Shown r } ∷ older) e i ≡ Some x → ⊥
    of (says.Release at inst file last) may k found = ends_now c older y.number at inst file last followed.1 may x
        (subst (λ (z : EpochId). instance_now c (record { number = y.number; told = Shown (says.Release at inst file last) } ∷ older) z inst ≡ Some x) (sym k.epoch_is)
        (subst (λ (z : Serial). instance_now c (record { number = y.number; told = Shown (says.Release at inst file last) } ∷ older) e z ≡ Some x) (sym k.serial_is) found))
    of r may k found = absurd k

    over : (z : Told) → MayTell c older z → Printed (EndRecord e i) older z → instance_now c (record { number = y.number; told = z } ∷ older) e i ≡ Some x → ⊥
    over (Shown r) may k found = of r may k found
    over z may k found = absurd k
released_shut c (y ∷ older) followed e i x (inr k) found = over y.told followed.0 (λ z. released_shut c older followed.1 e i z k) found
  where
    granted : (r : Record) → MayTell c older (Shown r) → (g : ℕ) → GrantsIt (tree_of c e g (entries older)).epoch i r → ⊥
    granted (says.Grant at call number inst m f stamp ss) may g w = may.in_time.new (subst (λ (z : EpochId). WasNamed older z inst) (sym (w.0 ∙ (tree_named c e g (entries older)).0)) (subst (λ (z : Serial). WasNamed older e z) (sym w.1) (released_named c older followed.1 e i k)))
    granted r may g w = absurd w

    was : (r : Record) → MayTell c older (Shown r) → ((z : Instance) → instance_now c older e i ≡ Some z → ⊥) → (g : ℕ) → Had i (tree_of c e g (entries older)).instances ⊎ GrantsIt (tree_of c e g (entries older)).epoch i r → ⊥
    was r may later g (inl w) = later w.0 (open_now c older followed.1 e g i w.0 w.1)
    was r may later g (inr w) = granted r may g w

    over : (z : Told) → MayTell c older z → ((w : Instance) → instance_now c older e i ≡ Some w → ⊥) → instance_now c (record { number = y.number; told = z } ∷ older) e i ≡ Some x → ⊥
    over (Shown r) may later found = was r may later (granted_group (record { line = y.number; what = r } ∷ entries older) e i)
        (before_record (history c (entries older)) (tree_of c e (granted_group (record { line = y.number; what = r } ∷ entries older) e i) (entries older)) i x r found)
    over z may later found = later x found
