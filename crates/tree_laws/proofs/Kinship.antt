-- Which tree a tree is never changes; which sites are inside it are those of the epoch; what is open in it was granted.
use Rattle.std.proofs.Common.{◌≡◌, ℕ, ◌==◌, Bool, true, false, cond, ◌&&◌, List, [], ◌∷◌, Some, refl, sym, ◌∙◌, subst, ◌⊎◌, inl, inr, ⊎_elim}
use Rattle.locus_ids.specs.declared.config.Config.{Config}
use Rattle.locus_ids.specs.declared.ids.EpochId.{EpochId}
use Rattle.locus_ids.specs.declared.ids.Serial.{Serial}
use Rattle.commit_graph.specs.declared.history.Version.{Version}
use Rattle.trace_book.specs.Same.{same_epoch, same_serial}
use Rattle.trace_book.specs.declared.record.Record.{Record}
use Rattle.trace_book.specs.declared.record.Record.TheVariants as says
use Rattle.the_run.specs.of_role_steps.Views.{Told, Shown}
use Rattle.the_run.specs.Worlds.{Line}
use Rattle.lawful_trace.specs.of_tree_model.declared.instance.Instance.{Instance}
use Rattle.lawful_trace.specs.of_tree_model.Folds.{Trace}
use Rattle.lawful_trace.specs.of_tree_model.Histories.{history}
use Rattle.lawful_trace.specs.of_tree_model.State.{TreeState, instance_in, is_granted_here}
use Rattle.lawful_trace.specs.of_tree_model.Tree.{next, tree_of, joined, left}
use Rattle.lawful_trace.specs.of_tree_model.State.{is_make}
use Rattle.lawful_trace.specs.TreeRows.{granted_group}
use Rattle.tree_laws.specs.Printed.{entries, onto_entries}
use Rattle.tree_laws.specs.Following.{MayTell}
use Rattle.tree_laws.specs.Instances.{instance_now, IsStarted}
use Rattle.tree_laws.specs.Past.{WasNamed}
use Rattle.tree_laws.proofs.Names.{same_epoch_eq, same_serial_eq}
use Rattle.tree_laws.proofs.Opened.{GrantsIt, EndsIt, GoesOn, Found, next_found}

-- ---- a field that each part of a record's change keeps ----

-- the value of a field is kept
abbrev Keeps : {A : Type 0} → (TreeState → A) → List Version → Record → TreeState → Type 0
Keeps g h r t = g (next h r t) ≡ g t

-- each of the two is kept, so either is
either : {A : Type 0} (g : TreeState → A) (b : Bool) (u t : TreeState) → g u ≡ g t → g (cond b u t) ≡ g t
either g true u t e = e
either g false u t e = refl

both_ways : {A : Type 0} (g : TreeState → A) (b : Bool) (u v t : TreeState) → g u ≡ g t → g v ≡ g t → g (cond b u v) ≡ g t
both_ways g true u v t e f = e
both_ways g false u v t e f = f

-- which tree it is
abbrev tree_epoch : TreeState → EpochId
tree_epoch t = t.epoch

abbrev tree_group : TreeState → ℕ
tree_group t = t.group

epoch_kept : (h : List Version) (r : Record) (t : TreeState) → Keeps tree_epoch h r t
epoch_kept h (says.Join s e m) t = both_ways tree_epoch (same_epoch e t.epoch) (joined s m t) (left s t) t refl refl
epoch_kept h (says.Start e group copies) t = either tree_epoch (same_epoch e t.epoch && (group == t.group)) _ t refl
epoch_kept h (says.Grant e call request i m f stamp ss) t = either tree_epoch (same_epoch e t.epoch) _ t refl
epoch_kept h (says.Refuse e call request i m f why) t = either tree_epoch (same_epoch e t.epoch && ((f.group == t.group) && is_make m)) _ t refl
epoch_kept h (says.Act e i n o result) t = either tree_epoch (same_epoch e t.epoch && is_granted_here t i) _ t refl
epoch_kept h (says.Release e i f stamp) t = either tree_epoch (same_epoch e t.epoch && (f.group == t.group)) _ t refl
epoch_kept h _ t = refl

group_kept : (h : List Version) (r : Record) (t : TreeState) → Keeps tree_group h r t
group_kept h (says.Join s e m) t = both_ways tree_group (same_epoch e t.epoch) (joined s m t) (left s t) t refl refl
group_kept h (says.Start e group copies) t = either tree_group (same_epoch e t.epoch && (group == t.group)) _ t refl
group_kept h (says.Grant e call request i m f stamp ss) t = either tree_group (same_epoch e t.epoch) _ t refl
group_kept h (says.Refuse e call request i m f why) t = either tree_group (same_epoch e t.epoch && ((f.group == t.group) && is_make m)) _ t refl
group_kept h (says.Act e i n o result) t = either tree_group (same_epoch e t.epoch && is_granted_here t i) _ t refl
group_kept h (says.Release e i f stamp) t = either tree_group (same_epoch e t.epoch && (f.group == t.group)) _ t refl
group_kept h _ t = refl

pub tree_epoch_is : (c : Config) (e : EpochId) (g : ℕ) (before : Trace) → (tree_of c e g before).epoch ≡ e
tree_epoch_is c e g [] = refl
tree_epoch_is c e g (r ∷ before) = epoch_kept (history c before) r.what (tree_of c e g before) ∙ tree_epoch_is c e g before

pub tree_group_is : (c : Config) (e : EpochId) (g : ℕ) (before : Trace) → (tree_of c e g before).group ≡ g
tree_group_is c e g [] = refl
tree_group_is c e g (r ∷ before) = group_kept (history c before) r.what (tree_of c e g before) ∙ tree_group_is c e g before

-- ---- a group that has started has started for good ----

started_kept : (h : List Version) (r : Record) (t : TreeState) → t.started ≡ true → (next h r t).started ≡ true
started_kept h (says.Join s e m) t k = both_ways (λ (u : TreeState). u.started) (same_epoch e t.epoch) (joined s m t) (left s t) t refl refl ∙ k
started_kept h (says.Start e group copies) t k = over (same_epoch e t.epoch && (group == t.group))
  where
    over : (b : Bool) → (cond b (record t { started = true }) t).started ≡ true
    over true = refl
    over false = k
started_kept h (says.Grant e call request i m f stamp ss) t k = either (λ (u : TreeState). u.started) (same_epoch e t.epoch) _ t refl ∙ k
started_kept h (says.Refuse e call request i m f why) t k = either (λ (u : TreeState). u.started) (same_epoch e t.epoch && ((f.group == t.group) && is_make m)) _ t refl ∙ k
started_kept h (says.Act e i n o result) t k = either (λ (u : TreeState). u.started) (same_epoch e t.epoch && is_granted_here t i) _ t refl ∙ k
started_kept h (says.Release e i f stamp) t k = either (λ (u : TreeState). u.started) (same_epoch e t.epoch && (f.group == t.group)) _ t refl ∙ k
started_kept h _ t k = k

started_told : (c : Config) (n : ℕ) (x : Told) (before : Trace) (e : EpochId) (g : ℕ) → (tree_of c e g before).started ≡ true → (tree_of c e g (onto_entries n x before)).started ≡ true
started_told c n (Shown r) before e g k = started_kept (history c before) r (tree_of c e g before) k
started_told c n _ before e g k = k

pub started_stays : (c : Config) (n : ℕ) (x : Told) (older : List Line) (e : EpochId) (g : ℕ) → IsStarted c older e g → IsStarted c (record { number = n; told = x } ∷ older) e g
started_stays c n x older e g k = started_told c n x (entries older) e g k

-- ---- the instance of the epoch under a serial number ----

-- a record that doesn't grant it leaves the group in which it was granted
group_record : (n : ℕ) (r : Record) (before : Trace) (e : EpochId) (i : Serial) → (granted_group (record { line = n; what = r } ∷ before) e i ≡ granted_group before e i) ⊎ GrantsIt e i r
group_record n (says.Grant at call request inst m f stamp ss) before e i = over (same_epoch at e) (same_serial inst i) refl refl
  where
    over : (a b : Bool) → same_epoch at e ≡ a → same_serial inst i ≡ b → (cond (a && b) f.group (granted_group before e i) ≡ granted_group before e i) ⊎ GrantsIt e i (says.Grant at call request inst m f stamp ss)
    over true true p q = inr (same_epoch_eq at e p, same_serial_eq inst i q)
    over true false p q = inl refl
    over false b p q = inl refl
group_record n _ before e i = inl refl

-- how an instance that is open goes on by what is told
abbrev pub GoesOnTold : Config → List Line → EpochId → Serial → Instance → Instance → Told → Type 0
GoesOnTold c older e i old new (Shown r) = GoesOn (history c (entries older)) (tree_of c e (granted_group (entries older) e i) (entries older)) e i old new r
GoesOnTold c older e i old new _ = new ≡ old

pub record StaysOpen (c : Config) (older : List Line) (n : ℕ) (x : Told) (e : EpochId) (i : Serial) (old : Instance) : Type 0 where
  pub new : Instance
  pub found : instance_now c (record { number = n; told = x } ∷ older) e i ≡ Some new
  pub grant_same : new.grant ≡ old.grant
  pub goes : GoesOnTold c older e i old new x

-- what is told releases it
abbrev pub Ends : EpochId → Serial → Told → Type 0
Ends e i (Shown r) = EndsIt e i r
Ends e i _ = ⊥

stays_record : (c : Config) (older : List Line) (n : ℕ) (r : Record) (e : EpochId) (i : Serial) (old : Instance) → MayTell c older (Shown r) → WasNamed older e i → instance_now c older e i ≡ Some old →
    StaysOpen c older n (Shown r) e i old ⊎ EndsIt e i r
stays_record c older n r e i old may named k = ⊎_elim
    (λ (same : granted_group (record { line = n; what = r } ∷ entries older) e i ≡ granted_group (entries older) e i). over same (next_found (history c (entries older)) t i old r k))
    (λ (g : GrantsIt e i r). absurd (again r may g)) (group_record n r (entries older) e i)
  where
    t : TreeState
    t = tree_of c e (granted_group (entries older) e i) (entries older)

    is : t.epoch ≡ e
    is = tree_epoch_is c e (granted_group (entries older) e i) (entries older)

    over : granted_group (record { line = n; what = r } ∷ entries older) e i ≡ granted_group (entries older) e i → Found (history c (entries older)) t i old r ⊎ EndsIt t.epoch i r → StaysOpen c older n (Shown r) e i old ⊎ EndsIt e i r
    over same (inr h) = inr (subst (λ (y : EpochId). EndsIt y i r) is h)
    over same (inl f) = inl (record {
      new = f.new;
      found = subst (λ (g : ℕ). instance_in (tree_of c e g (record { line = n; what = r } ∷ entries older)) i ≡ Some f.new) (sym same) f.found;
      grant_same = f.grant_same;
      goes = subst (λ (y : EpochId). GoesOn (history c (entries older)) t y i old f.new r) is f.goes;
    })

    again : (r : Record) → MayTell c older (Shown r) → GrantsIt e i r → ⊥
    again (says.Grant at call request inst m f stamp ss) may g = may.in_time.new (subst (λ (y : Serial). WasNamed older at y) (sym g.1) (subst (λ (y : EpochId). WasNamed older y i) (sym g.0) named))
    again _ may g = absurd g

pub open_stays : (c : Config) (older : List Line) (n : ℕ) (x : Told) (e : EpochId) (i : Serial) (old : Instance) → MayTell c older x → WasNamed older e i → instance_now c older e i ≡ Some old →
    StaysOpen c older n x e i old ⊎ Ends e i x
open_stays c older n (Shown r) e i old may named k = stays_record c older n r e i old may named k
open_stays c older n _ e i old may named k = inl (record { new = old; found = k; grant_same = refl; goes = refl })
