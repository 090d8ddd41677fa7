-- The grants of a tree are those of its epoch: what a call was granted is found among them, in its group.
use Rattle.std.proofs.Common.{◌≡◌, ℕ, ◌==◌, Bool, true, false, cond, ◌&&◌, List, [], ◌∷◌, ◌++◌, Option, Some, None, refl, sym, ◌∙◌, ap, subst, ◌⊎◌, inl, inr}
use Rattle.std.specs.List.{find}
use Rattle.plain_facts.proofs.Numbers.{equal_self}
use Rattle.plain_facts.proofs.Options.{none_some}
use Rattle.plain_facts.proofs.Tests.{true_false}
use Rattle.locus_ids.specs.declared.config.Config.{Config}
use Rattle.locus_ids.specs.declared.ids.CallId.{CallId}
use Rattle.locus_ids.specs.declared.ids.EpochId.{EpochId}
use Rattle.locus_ids.specs.declared.ids.FileId.{FileId}
use Rattle.locus_ids.specs.declared.ids.Mode.{Mode}
use Rattle.locus_ids.specs.declared.ids.Serial.{Serial}
use Rattle.locus_ids.specs.declared.ids.Stamp.{Stamp}
use Rattle.commit_graph.specs.declared.history.Version.{Version}
use Rattle.trace_book.specs.Same.{same_epoch, same_serial}
use Rattle.trace_book.specs.declared.record.Record.{Record}
use Rattle.trace_book.specs.declared.record.Record.TheVariants as says
use Rattle.role_steps.specs.Views.{Told, Shown}
use Rattle.the_run.specs.Worlds.{Line}
use Rattle.tree_model.specs.declared.instance.Granted.{Granted}
use Rattle.tree_model.specs.Calls.{granted_to}
use Rattle.tree_model.specs.Histories.{history}
use Rattle.tree_model.specs.State.{TreeState, is_grant_of, is_granted_here, is_group_of, is_make}
use Rattle.tree_model.specs.Tree.{next, tree_of, joined, left, grant_of}
use Rattle.lawful_trace.specs.TreeRows.{granted_group}
use Rattle.tree_laws.specs.Printed.{entries, onto_entries}
use Rattle.tree_laws.specs.Following.{MayTell, IsFollowed}
use Rattle.tree_laws.specs.Past.{WasNamed}
use Rattle.tree_laws.proofs.Finds.{find_added}
use Rattle.tree_laws.proofs.Kinship.{tree_epoch_is, tree_group_is}
use Rattle.tree_laws.proofs.Names.{same_epoch_eq, same_serial_eq}
use Rattle.tree_laws.proofs.Owners.{granted_named}
use Rattle.tree_laws.proofs.Orders.ProcessOpen.{find_last}

-- ---- the grants of a tree ----

either : (b : Bool) (u t : TreeState) → u.grants ≡ t.grants → (cond b u t).grants ≡ t.grants
either true u t e = e
either false u t e = refl

both_ways : (b : Bool) (u v t : TreeState) → u.grants ≡ t.grants → v.grants ≡ t.grants → (cond b u v).grants ≡ t.grants
both_ways true u v t e f = e
both_ways false u v t e f = f

-- the record grants something in the epoch
abbrev GrantsIn : EpochId → Record → Type 0
GrantsIn e (says.Grant at call request i m f stamp ss) = same_epoch at e ≡ true
GrantsIn e _ = ⊥

-- another record leaves them
grants_kept : (h : List Version) (r : Record) (t : TreeState) → (GrantsIn t.epoch r → ⊥) → (next h r t).grants ≡ t.grants
grants_kept h (says.Join s e m) t differs = both_ways (same_epoch e t.epoch) (joined s m t) (left s t) t refl refl
grants_kept h (says.Start e group copies) t differs = either (same_epoch e t.epoch && (group == t.group)) _ t refl
grants_kept h (says.Refuse e call request i m f why) t differs = either (same_epoch e t.epoch && ((f.group == t.group) && is_make m)) _ t refl
grants_kept h (says.Act e i n o result) t differs = either (same_epoch e t.epoch && is_granted_here t i) _ t refl
grants_kept h (says.Release e i f stamp) t differs = either (same_epoch e t.epoch && (f.group == t.group)) _ t refl
grants_kept h (says.Grant e call request i m f stamp ss) t differs = over (same_epoch e t.epoch) refl
  where
    over : (b : Bool) → same_epoch e t.epoch ≡ b → (next h (says.Grant e call request i m f stamp ss) t).grants ≡ t.grants
    over true k = absurd (differs k)
    over false k = rw k refl
grants_kept h _ t differs = refl

-- ---- what they are ----

-- the instance was granted in the epoch: it is among the grants, of the group that the records say
record IsIn (t : List Line) (e : EpochId) (i : Serial) (grants : List Granted) : Type 0 where
  grant : Granted
  found : find (is_grant_of i) grants ≡ Some grant
  group_is : grant.file.group ≡ granted_group (entries t) e i
  call_is : granted_to (entries t) e i ≡ Some grant.call

-- or it wasn't
record IsNot (t : List Line) (e : EpochId) (i : Serial) (grants : List Granted) : Type 0 where
  lost : find (is_grant_of i) grants ≡ None
  ungranted : granted_to (entries t) e i ≡ None

abbrev Agrees : List Line → EpochId → Serial → List Granted → Type 0
Agrees t e i grants = IsNot t e i grants ⊎ IsIn t e i grants

find_other : (i : Serial) (xs : List Granted) (y : Granted) → find (is_grant_of i) xs ≡ None → is_grant_of i y ≡ false → find (is_grant_of i) (xs ++ y ∷ []) ≡ None
find_other i [] y e k = ap (λ (b : Bool). cond b (Some y) None) k
find_other i (x ∷ xs) y e k = at (λ (m : find (is_grant_of i) xs ≡ None). find_other i xs y m k) (is_grant_of i x) e
  where
    none : (a : Granted) → ◌≡◌ {A = Option Granted} (Some a) None → ⊥
    none a e = cc

    at : (find (is_grant_of i) xs ≡ None → find (is_grant_of i) (xs ++ y ∷ []) ≡ None) → (b : Bool) → cond b (Some x) (find (is_grant_of i) xs) ≡ None → cond b (Some x) (find (is_grant_of i) (xs ++ y ∷ [])) ≡ None
    at later true m = absurd (none x m)
    at later false m = later m

module _ (c : Config) (n : ℕ) (at : EpochId) (call : CallId) (request : ℕ) (inst : Serial) (m : Mode) (f : FileId) (stamp : Option Stamp) (ss : ℕ) (older : List Line) (may : MayTell c older (Shown (says.Grant at call request inst m f stamp ss))) (e : EpochId) (i : Serial) (group : ℕ) where
  abbrev r : Record
  r = says.Grant at call request inst m f stamp ss

  abbrev t : TreeState
  t = tree_of c e group (entries older)

  abbrev now : List Line
  now = record { number = n; told = Shown r } ∷ older

  g : Granted
  g = grant_of t call inst m f ss

  more : same_epoch at e ≡ true → (next (history c (entries older)) r t).grants ≡ t.grants ++ g ∷ []
  unfolding g
  more k = rw (ap (same_epoch at) (tree_epoch_is c e group (entries older)) ∙ k) refl

  same_to : (b : Bool) → (same_epoch at e && same_serial inst i) ≡ b → b ≡ false → (granted_to (entries now) e i ≡ granted_to (entries older) e i) × (granted_group (entries now) e i ≡ granted_group (entries older) e i)
  same_to b p q = (ap (λ (x : Bool). cond x (Some call) (granted_to (entries older) e i)) (p ∙ q), ap (λ (x : Bool). cond x f.group (granted_group (entries older) e i)) (p ∙ q))

  own_to : (same_epoch at e && same_serial inst i) ≡ true → (granted_to (entries now) e i ≡ Some call) × (granted_group (entries now) e i ≡ f.group)
  own_to p = (ap (λ (x : Bool). cond x (Some call) (granted_to (entries older) e i)) p, ap (λ (x : Bool). cond x f.group (granted_group (entries older) e i)) p)

  agrees_grant : Agrees older e i t.grants → Agrees now e i (next (history c (entries older)) r t).grants
  unfolding g
  agrees_grant k = over (same_epoch at e) (same_serial inst i) refl refl
    where
      -- not granted before
      again : IsIn older e i t.grants → same_epoch at e ≡ true → same_serial inst i ≡ true → ⊥
      again z p q = may.in_time.new (subst (λ (j : Serial). WasNamed older at j) (sym (same_serial_eq inst i q)) (subst (λ (w : EpochId). WasNamed older w i) (sym (same_epoch_eq at e p)) (granted_named older e i z.grant.call z.call_is)))

      new : same_epoch at e ≡ true → same_serial inst i ≡ true → Agrees older e i t.grants → Agrees now e i (next (history c (entries older)) r t).grants
      new p q (inr z) = absurd (again z p q)
      new p q (inl z) = (let both : (same_epoch at e && same_serial inst i) ≡ true = ap (λ (x : Bool). x && same_serial inst i) p ∙ q in
          inr (record { grant = g; found = ap (find (is_grant_of i)) (more p) ∙ find_last (is_grant_of i) t.grants g z.lost q; group_is = sym (own_to both).1; call_is = (own_to both).0 }))

      kept : (same_epoch at e && same_serial inst i) ≡ false → same_epoch at e ≡ true → same_serial inst i ≡ false → Agrees older e i t.grants → Agrees now e i (next (history c (entries older)) r t).grants
      kept differs p q (inl z) = inl (record { lost = ap (find (is_grant_of i)) (more p) ∙ find_other i t.grants g z.lost q; ungranted = (same_to false differs refl).0 ∙ z.ungranted })
      kept differs p q (inr z) = inr (record { grant = z.grant; found = ap (find (is_grant_of i)) (more p) ∙ find_added (is_grant_of i) t.grants (g ∷ []) z.grant z.found; group_is = z.group_is ∙ sym (same_to false differs refl).1; call_is = (same_to false differs refl).0 ∙ z.call_is })

      away : (same_epoch at e && same_serial inst i) ≡ false → same_epoch at e ≡ false → Agrees older e i t.grants → Agrees now e i (next (history c (entries older)) r t).grants
      away differs p k = subst (Agrees now e i) (sym (grants_kept (history c (entries older)) r t (λ z. true_false (sym (sym (ap (same_epoch at) (tree_epoch_is c e group (entries older))) ∙ z) ∙ p)))) (moved k)
        where
          moved : Agrees older e i t.grants → Agrees now e i t.grants
          moved (inl z) = inl (record { lost = z.lost; ungranted = (same_to false differs refl).0 ∙ z.ungranted })
          moved (inr z) = inr (record { grant = z.grant; found = z.found; group_is = z.group_is ∙ sym (same_to false differs refl).1; call_is = (same_to false differs refl).0 ∙ z.call_is })

      over : (a b : Bool) → same_epoch at e ≡ a → same_serial inst i ≡ b → Agrees now e i (next (history c (entries older)) r t).grants
      over true true p q = new p q k
      over true false p q = kept (ap (λ (x : Bool). x && same_serial inst i) p ∙ q) p q k
      over false b p q = away (ap (λ (x : Bool). x && same_serial inst i) p) p k

agrees_record : (c : Config) (n : ℕ) (r : Record) (older : List Line) (e : EpochId) (i : Serial) (group : ℕ) → MayTell c older (Shown r) → Agrees older e i (tree_of c e group (entries older)).grants → Agrees (record { number = n; told = Shown r } ∷ older) e i (next (history c (entries older)) r (tree_of c e group (entries older))).grants
agrees_record c n (says.Grant at call request inst m f stamp ss) older e i group may k = agrees_grant c n at call request inst m f stamp ss older may e i group k
agrees_record c n r older e i group may k = subst (Agrees (record { number = n; told = Shown r } ∷ older) e i) (sym (grants_kept (history c (entries older)) r (tree_of c e group (entries older)) (λ z. z))) (moved k)
  where
    moved : Agrees older e i (tree_of c e group (entries older)).grants → Agrees (record { number = n; told = Shown r } ∷ older) e i (tree_of c e group (entries older)).grants
    moved (inl z) = inl (record { lost = z.lost; ungranted = z.ungranted })
    moved (inr z) = inr (record { grant = z.grant; found = z.found; group_is = z.group_is; call_is = z.call_is })

agrees_told : (c : Config) (n : ℕ) (x : Told) (older : List Line) (e : EpochId) (i : Serial) (group : ℕ) → MayTell c older x → Agrees older e i (tree_of c e group (entries older)).grants → Agrees (record { number = n; told = x } ∷ older) e i (tree_of c e group (onto_entries n x (entries older))).grants
agrees_told c n (Shown r) older e i group may k = agrees_record c n r older e i group may k
agrees_told c n x older e i group may k = moved k
  where
    moved : Agrees older e i (tree_of c e group (entries older)).grants → Agrees (record { number = n; told = x } ∷ older) e i (tree_of c e group (entries older)).grants
    moved (inl z) = inl (record { lost = z.lost; ungranted = z.ungranted })
    moved (inr z) = inr (record { grant = z.grant; found = z.found; group_is = z.group_is; call_is = z.call_is })

agrees : (c : Config) (t : List Line) → IsFollowed c t → (e : EpochId) (i : Serial) (group : ℕ) → Agrees t e i (tree_of c e group (entries t)).grants
agrees c [] h e i group = inl (record { lost = refl; ungranted = refl })
agrees c (x ∷ older) h e i group = agrees_told c x.number x.told older e i group h.0 (agrees c older h.1 e i group)

-- in the tree of the group in which it was granted it is granted
pub granted_here : (c : Config) (t : List Line) → IsFollowed c t → (e : EpochId) (i : Serial) (g : CallId) → granted_to (entries t) e i ≡ Some g → is_granted_here (tree_of c e (granted_group (entries t) e i) (entries t)) i ≡ true
granted_here c t h e i g k = over (agrees c t h e i (granted_group (entries t) e i))
  where
    tree : TreeState
    tree = tree_of c e (granted_group (entries t) e i) (entries t)

    over : Agrees t e i tree.grants → is_granted_here tree i ≡ true
    over (inl z) = absurd (none_some g (sym z.ungranted ∙ k))
    over (inr z) = ap (λ (o : Option Granted). is_group_of o tree.group) z.found ∙ (ap (λ (m : ℕ). z.grant.file.group == m) (tree_group_is c e (granted_group (entries t) e i) (entries t)) ∙ (ap (λ (m : ℕ). m == granted_group (entries t) e i) z.group_is ∙ equal_self (granted_group (entries t) e i)))
