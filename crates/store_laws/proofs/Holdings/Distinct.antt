-- An open instance has its name alone in its tree, and the group of the tree is that of its grant.
use Rattle.std.proofs.Common.{◌≡◌, ℕ, ◌==◌, Bool, true, false, not, ◌&&◌, cond, List, [], ◌∷◌, ◌++◌, Option, Some, None, refl, sym, ap, ◌∙◌, subst, ◌⊎◌, inl, inr}
use Rattle.std.specs.List.{AllByRecursion, find, list_any}
use Rattle.std.specs.Option.{is_none}
use Rattle.tree_laws.proofs.of_plain_facts.Numbers.{equal}
use Rattle.tree_laws.proofs.of_plain_facts.Options.{none_some, some_same}
use Rattle.tree_laws.proofs.of_plain_facts.Tests.{and_first, and_second, true_false}
use Rattle.locus_ids.specs.declared.config.Config.{Config}
use Rattle.locus_ids.specs.declared.ids.CallId.{CallId}
use Rattle.locus_ids.specs.declared.ids.EpochId.{EpochId}
use Rattle.locus_ids.specs.declared.ids.FileId.{FileId}
use Rattle.locus_ids.specs.declared.ids.Mode.{Mode}
use Rattle.locus_ids.specs.declared.ids.Serial.{Serial}
use Rattle.locus_ids.specs.declared.ids.Stamp.{Stamp}
use Rattle.commit_graph.specs.declared.history.Version.{Version}
use Rattle.trace_book.specs.Same.{same_epoch, same_serial}
use Rattle.trace_book.specs.declared.record.Record.{Record}
use Rattle.trace_book.specs.declared.record.Record.TheVariants as says
use Rattle.site_laws.specs.of_role_steps.Views.{Told, Shown}
use Rattle.tree_laws.specs.of_the_run.Worlds.{Line}
use Rattle.tree_model.specs.declared.instance.Granted.{Granted}
use Rattle.tree_model.specs.declared.instance.Instance.{Instance}
use Rattle.tree_model.specs.Folds.{Trace}
use Rattle.tree_model.specs.Given.{gives_grant}
use Rattle.tree_model.specs.Histories.{history}
use Rattle.tree_model.specs.Lists.{change_first, without_first}
use Rattle.tree_model.specs.Opening.{open_refusal}
use Rattle.tree_model.specs.State.{TreeState, instance_in, is_grant_of, is_granted, is_granted_here, is_inside, is_make, is_named, is_writer}
use Rattle.tree_model.specs.Tree.{grant_of, joined, left, next, once_acted, once_committed, opened, tree_of, without_make}
use Rattle.tree_laws.specs.of_lawful_trace.Lawful.{MayCome}
use Rattle.tree_laws.specs.of_lawful_trace.TreeRows.{granted_group}
use Rattle.tree_laws.specs.Following.{IsFollowed, MayTell, RowsAreLawful}
use Rattle.tree_laws.specs.Instances.{instance_now}
use Rattle.tree_laws.specs.Past.{WasNamed}
use Rattle.tree_laws.specs.Printed.{entries, onto_entries}
use Rattle.tree_laws.proofs.Grants.{Had, before_record, in_tree_named}
use Rattle.tree_laws.proofs.Names.{same_epoch_eq, same_epoch_own, same_serial_eq, same_serial_own}
use Rattle.tree_laws.proofs.Opened.{GrantsIt}
use Rattle.tree_laws.proofs.Orders.Alone.{tree_is, tree_named}
use Rattle.tree_laws.proofs.Orders.Lists.{all_changed, all_found, all_more, all_then, all_without, any_last, any_more}

-- ---- lists whose instances have different names ----

abbrev Apart : Instance → Instance → Type 0
Apart x y = same_serial x.grant.inst y.grant.inst ≡ false

abbrev pub NamesApart : List Instance → Type 0
NamesApart [] = Unit {0}
NamesApart (x ∷ xs) = AllByRecursion (Apart x) xs × NamesApart xs

apart_more : (xs : List Instance) (y : Instance) → NamesApart xs → AllByRecursion (λ (x : Instance). Apart x y) xs → NamesApart (xs ++ y ∷ [])
apart_more [] y apart by = (tt, tt)
apart_more (x ∷ xs) y apart by = (all_more (Apart x) xs y apart.0 by.0, apart_more xs y apart.1 by.1)

apart_changed : (q : Instance → Bool) (change : Instance → Instance) → ((x : Instance) → (change x).grant ≡ x.grant) → (xs : List Instance) → NamesApart xs → NamesApart (change_first q change xs)
apart_changed q change same [] apart = tt
apart_changed q change same (x ∷ xs) apart = at (q x) (apart_changed q change same xs apart.1)
  where
    at : (b : Bool) → NamesApart (change_first q change xs) → NamesApart (cond b (change x ∷ xs) (x ∷ change_first q change xs))
    at true later = (all_then (Apart x) (Apart (change x)) (λ y k. subst (λ (g : Granted). same_serial g.inst y.grant.inst ≡ false) (sym (same x)) k) xs apart.0, apart.1)
    at false later = (all_changed (Apart x) q change (λ y k. subst (λ (g : Granted). same_serial x.grant.inst g.inst ≡ false) (sym (same y)) k) xs apart.0, later)

apart_without : (q : Instance → Bool) (xs : List Instance) → NamesApart xs → NamesApart (without_first q xs)
apart_without q [] apart = tt
apart_without q (x ∷ xs) apart = at (q x) (apart_without q xs apart.1)
  where
    at : (b : Bool) → NamesApart (without_first q xs) → NamesApart (cond b xs (x ∷ without_first q xs))
    at true later = apart.1
    at false later = (all_without (Apart x) q xs apart.0, later)

-- what is found by whatever test is found by its name
pub found_own : (p : Instance → Bool) (xs : List Instance) (x : Instance) → NamesApart xs → find p xs ≡ Some x → find (is_named x.grant.inst) xs ≡ Some x
found_own p [] x apart e = absurd (none_some x e)
found_own p (y ∷ ys) x apart e = at (p y) e (found_own p ys x apart.1)
  where
    mine : y ≡ x → (b : Bool) → is_named x.grant.inst y ≡ b → cond b (Some y) (find (is_named x.grant.inst) ys) ≡ Some x
    mine is true k = ap (λ (z : Instance). Some z) is
    mine is false k = absurd (true_false (sym (subst (λ (z : Instance). is_named x.grant.inst z ≡ true) (sym is) (same_serial_own x.grant.inst)) ∙ k))

    other : find p ys ≡ Some x → (b : Bool) → is_named x.grant.inst y ≡ b → find (is_named x.grant.inst) ys ≡ Some x → cond b (Some y) (find (is_named x.grant.inst) ys) ≡ Some x
    other f true k later = absurd (true_false (sym k ∙ all_found (Apart y) p ys x apart.0 f))
    other f false k later = later

    at : (b : Bool) → cond b (Some y) (find p ys) ≡ Some x → (find p ys ≡ Some x → find (is_named x.grant.inst) ys ≡ Some x) → find (is_named x.grant.inst) (y ∷ ys) ≡ Some x
    at true e later = mine (some_same y x e) (is_named x.grant.inst y) refl
    at false e later = other e (is_named x.grant.inst y) refl (later e)

-- and once it is taken out none of its name is found
pub none_left : (i : Serial) (xs : List Instance) → NamesApart xs → find (is_named i) (without_first (is_named i) xs) ≡ None
none_left i [] apart = refl
none_left i (x ∷ xs) apart = at (is_named i x) refl (none_left i xs apart.1)
  where
    gone : (ys : List Instance) → is_named i x ≡ true → AllByRecursion (Apart x) ys → find (is_named i) ys ≡ None
    gone [] k all = refl
    gone (y ∷ ys) k all = over (is_named i y) refl (gone ys k all.1)
      where
        over : (b : Bool) → is_named i y ≡ b → find (is_named i) ys ≡ None → cond b (Some y) (find (is_named i) ys) ≡ None
        over true l later = absurd (true_false (sym (subst (λ (j : Serial). same_serial x.grant.inst j ≡ true) (same_serial_eq x.grant.inst i k ∙ sym (same_serial_eq y.grant.inst i l)) (same_serial_own x.grant.inst)) ∙ all.0))
        over false l later = later

    at : (b : Bool) → is_named i x ≡ b → find (is_named i) (without_first (is_named i) xs) ≡ None → find (is_named i) (cond b xs (x ∷ without_first (is_named i) xs)) ≡ None
    at true k later = gone xs k apart.0
    at false k later = ap (λ (b : Bool). cond b (Some x) (find (is_named i) (without_first (is_named i) xs))) k ∙ later

-- ---- record by record ----

abbrev IsNamedIn : List Granted → Instance → Type 0
IsNamedIn gs x = list_any (is_grant_of x.grant.inst) gs ≡ true

record Single (t : TreeState) : Type 0 where
  apart : NamesApart t.instances
  granted : AllByRecursion (IsNamedIn t.grants) t.instances

single_as : (t u : TreeState) → u.instances ≡ t.instances → u.grants ≡ t.grants → Single t → Single u
single_as t u i g a = record {
  apart = subst NamesApart (sym i) a.apart;
  granted = subst (λ (gs : List Granted). AllByRecursion (IsNamedIn gs) u.instances) (sym g) (subst (λ (xs : List Instance). AllByRecursion (IsNamedIn t.grants) xs) (sym i) a.granted);
}

if_single : (b : Bool) (u t : TreeState) → Single u → Single t → Single (cond b u t)
if_single true u t a b = a
if_single false u t a b = b

changed_single : (t u : TreeState) (q : Instance → Bool) (change : Instance → Instance) → ((x : Instance) → (change x).grant ≡ x.grant) → u.instances ≡ change_first q change t.instances → u.grants ≡ t.grants → Single t → Single u
changed_single t u q change same i g a = record {
  apart = subst NamesApart (sym i) (apart_changed q change same t.instances a.apart);
  granted = subst (λ (gs : List Granted). AllByRecursion (IsNamedIn gs) u.instances) (sym g) (subst (λ (xs : List Instance). AllByRecursion (IsNamedIn t.grants) xs) (sym i)
      (all_changed (IsNamedIn t.grants) q change (λ x k. subst (λ (d : Granted). list_any (is_grant_of d.inst) t.grants ≡ true) (sym (same x)) k) t.instances a.granted));
}

left_single : (t u : TreeState) (q : Instance → Bool) → u.instances ≡ without_first q t.instances → u.grants ≡ t.grants → Single t → Single u
left_single t u q i g a = record {
  apart = subst NamesApart (sym i) (apart_without q t.instances a.apart);
  granted = subst (λ (gs : List Granted). AllByRecursion (IsNamedIn gs) u.instances) (sym g) (subst (λ (xs : List Instance). AllByRecursion (IsNamedIn t.grants) xs) (sym i) (all_without (IsNamedIn t.grants) q t.instances a.granted));
}

more_named : (gs : List Granted) (g : Granted) (xs : List Instance) → AllByRecursion (IsNamedIn gs) xs → AllByRecursion (IsNamedIn (gs ++ g ∷ [])) xs
more_named gs g xs all = all_then (IsNamedIn gs) (IsNamedIn (gs ++ g ∷ [])) (λ x k. any_more (is_grant_of x.grant.inst) gs (g ∷ []) k) xs all

-- who is named among the grants has another name than one that isn't
named_apart : (gs : List Granted) (g : Granted) (xs : List Instance) (y : Instance) → y.grant ≡ g → list_any (is_grant_of g.inst) gs ≡ false → AllByRecursion (IsNamedIn gs) xs → AllByRecursion (λ (x : Instance). Apart x y) xs
named_apart gs g xs y is unlike all = all_then (IsNamedIn gs) (λ (x : Instance). Apart x y) (λ x k. over x k (same_serial x.grant.inst y.grant.inst) refl) xs all
  where
    over : (x : Instance) → IsNamedIn gs x → (b : Bool) → same_serial x.grant.inst y.grant.inst ≡ b → b ≡ false
    over x k true l = absurd (true_false (sym k ∙ (ap (λ (j : Serial). list_any (is_grant_of j) gs) (same_serial_eq x.grant.inst y.grant.inst l ∙ ap (λ (d : Granted). d.inst) is) ∙ unlike)))
    over x k false l = refl

granted_single : (h : List Version) (t : TreeState) (g : Granted) (stamp : Option Stamp) (b : Bool) → (b ≡ true → list_any (is_grant_of g.inst) t.grants ≡ false) → Single t
    → Single (record t { grants = t.grants ++ g ∷ []; instances = cond b (t.instances ++ opened h g stamp ∷ []) t.instances })
granted_single h t g stamp true new a = record {
  apart = apart_more t.instances (opened h g stamp) a.apart (named_apart t.grants g t.instances (opened h g stamp) refl (new refl) a.granted);
  granted = all_more (IsNamedIn (t.grants ++ g ∷ [])) t.instances (opened h g stamp) (more_named t.grants g t.instances a.granted) (any_last (is_grant_of g.inst) t.grants g (same_serial_own g.inst));
}
granted_single h t g stamp false new a = record { apart = a.apart; granted = more_named t.grants g t.instances a.granted }

module _ (c : Config) (e : EpochId) (group : ℕ) (before : Trace) where
  abbrev t : TreeState
  t = tree_of c e group before

  abbrev h : List Version
  h = history c before

  new_name : (d : EpochId) (call : CallId) (i : Serial) (m : Mode) (f : FileId) (stamp : Option Stamp) (ss : ℕ) → gives_grant h (tree_of c d f.group before) call i m f stamp ss ≡ true → same_epoch d t.epoch ≡ true → (f.group == t.group) ≡ true → is_granted t i ≡ false
  new_name d call i m f stamp ss gives same in_group = un (is_granted t i) (and_first (not (is_granted t i)) _ (and_second (i.us == call.site) _ (and_second (is_none (open_refusal h t m call f)) _ (and_second t.started _ here))))
    where
      un : (b : Bool) → not b ≡ true → b ≡ false
      un true k = absurd (true_false (sym k))
      un false k = refl

      here : gives_grant h t call i m f stamp ss ≡ true
      here = subst (λ (u : TreeState). gives_grant h u call i m f stamp ss ≡ true) (tree_is c e d group f.group before (same_epoch_eq d t.epoch same ∙ (tree_named c e group before).0) (equal f.group t.group in_group ∙ (tree_named c e group before).1)) gives

  next_single : (r : Record) → MayCome c before r → Single t → Single (next h r t)
  next_single (says.Grant d call request i m f stamp ss) may a = over (same_epoch d t.epoch) refl
    where
      over : (b : Bool) → same_epoch d t.epoch ≡ b → Single (cond b (record t { grants = t.grants ++ grant_of t call i m f ss ∷ []; instances = cond (f.group == t.group) (t.instances ++ opened h (grant_of t call i m f ss) stamp ∷ []) t.instances }) t)
      over true b = granted_single h t (grant_of t call i m f ss) stamp (f.group == t.group) (λ in_group. new_name d call i m f stamp ss may.gives b in_group) a
      over false b = a
  next_single (says.Join s d m) may a = if_single (same_epoch d t.epoch) (joined s m t) (left s t) (single_as t (joined s m t) refl refl a) (single_as t (left s t) refl refl a)
  next_single (says.Start d k copies) may a = if_single (same_epoch d t.epoch && (k == t.group)) (record t { started = true }) t (single_as t (record t { started = true }) refl refl a) a
  next_single (says.Refuse d call request i m f why) may a = if_single (same_epoch d t.epoch && ((f.group == t.group) && is_make m)) (record t { makes = without_make call t.makes }) t (single_as t (record t { makes = without_make call t.makes }) refl refl a) a
  next_single (says.Act d i n o result) may a = if_single (same_epoch d t.epoch && is_granted_here t i) _ t (changed_single t _ (is_named i) (once_acted h t o result) (λ x. refl) refl refl a) a
  next_single (says.Commit f s stamp parents content) may a = over (is_inside t s)
    where
      over : (b : Bool) → Single (record t { copies = (next h (says.Commit f s stamp parents content) t).copies; instances = cond b (change_first (is_writer f s) (once_committed stamp) t.instances) t.instances })
      over true = changed_single t _ (is_writer f s) (once_committed stamp) (λ x. refl) refl refl a
      over false = single_as t _ refl refl a
  next_single (says.Release d i f stamp) may a = if_single (same_epoch d t.epoch && (f.group == t.group)) _ t (left_single t _ (is_named i) refl refl a) a
  next_single r may a = single_as t (next h r t) refl refl a

rows_single : (c : Config) (trace : Trace) → RowsAreLawful c trace → (e : EpochId) (group : ℕ) → Single (tree_of c e group trace)
rows_single c [] rows e group = record { apart = tt; granted = tt }
rows_single c (r ∷ before) rows e group = next_single c e group before r.what rows.0 (rows_single c before rows.1 e group)

pub rows_names_apart : (c : Config) (trace : Trace) → RowsAreLawful c trace → (e : EpochId) (group : ℕ) → NamesApart (tree_of c e group trace).instances
rows_names_apart c trace rows e group = (rows_single c trace rows e group).apart

-- ---- the group of a tree is that of the grants of what is open in it ----

module _ (c : Config) (older : List Line) (n : ℕ) (e : EpochId) (group : ℕ) (i : Serial) (x : Instance) (old : (y : Instance) → instance_in (tree_of c e group (entries older)) i ≡ Some y → granted_group (entries older) e i ≡ group) where
  abbrev tree : TreeState
  tree = tree_of c e group (entries older)

  group_next : (r : Record) → MayTell c older (Shown r) → instance_in (next (history c (entries older)) r tree) i ≡ Some x → Had i tree.instances ⊎ GrantsIt tree.epoch i r → granted_group (record { line = n; what = r } ∷ entries older) e i ≡ group
  group_next (says.Grant at call request inst m f stamp ss) may k had = over (same_epoch at e) refl (same_serial inst i) refl had
    where
      -- a grant of the name is in this group, for what it opens is found here
      mine : same_epoch at e ≡ true → same_serial inst i ≡ true → (b : Bool) → (f.group == tree.group) ≡ b → (a : Bool) → same_epoch at tree.epoch ≡ a → find (is_named i) (cond a (record tree { grants = tree.grants ++ grant_of tree call inst m f ss ∷ []; instances = cond b (tree.instances ++ opened (history c (entries older)) (grant_of tree call inst m f ss) stamp ∷ []) tree.instances }) tree).instances ≡ Some x → f.group ≡ group
      mine p q true l a w k = equal f.group tree.group l ∙ (tree_named c e group (entries older)).1
      mine p q false l true w k = absurd (may.in_time.new (subst (λ (y : EpochId). WasNamed older y inst) (sym (same_epoch_eq at e p)) (subst (λ (j : Serial). WasNamed older e j) (sym (same_serial_eq inst i q)) (in_tree_named c e group i older x k))))
      mine p q false l false w k = absurd (may.in_time.new (subst (λ (y : EpochId). WasNamed older y inst) (sym (same_epoch_eq at e p)) (subst (λ (j : Serial). WasNamed older e j) (sym (same_serial_eq inst i q)) (in_tree_named c e group i older x k))))

      before : same_epoch at e && same_serial inst i ≡ false → Had i tree.instances ⊎ GrantsIt tree.epoch i (says.Grant at call request inst m f stamp ss) → granted_group (entries older) e i ≡ group
      before apart (inl y) = old y.0 y.1
      before apart (inr g) = absurd (true_false (sym (both (same_epoch at e) (same_serial inst i) (subst (λ (y : EpochId). same_epoch at y ≡ true) (g.0 ∙ (tree_named c e group (entries older)).0) (same_epoch_own at)) (subst (λ (j : Serial). same_serial inst j ≡ true) g.1 (same_serial_own inst))) ∙ apart))
        where
          both : (a b : Bool) → a ≡ true → b ≡ true → a && b ≡ true
          both true b p q = q
          both false b p q = absurd (true_false (sym p))

      over : (a : Bool) → same_epoch at e ≡ a → (b : Bool) → same_serial inst i ≡ b → Had i tree.instances ⊎ GrantsIt tree.epoch i (says.Grant at call request inst m f stamp ss) → cond (a && b) f.group (granted_group (entries older) e i) ≡ group
      over true p true q had = mine p q (f.group == tree.group) refl (same_epoch at tree.epoch) refl k
      over true p false q had = before (ap (λ (y : Bool). y && same_serial inst i) p ∙ q) had
      over false p b q had = before (ap (λ (y : Bool). y && same_serial inst i) p) had
  group_next r may k (inl y) = old y.0 y.1
  group_next r may k (inr g) = absurd g

pub open_group : (c : Config) (trace : List Line) → IsFollowed c trace → (e : EpochId) (group : ℕ) (i : Serial) (x : Instance) → instance_in (tree_of c e group (entries trace)) i ≡ Some x → granted_group (entries trace) e i ≡ group
open_group c [] followed e group i x k = absurd (none_some x k)
open_group c (y ∷ older) followed e group i x k = over y.told followed.0 (λ z. open_group c older followed.1 e group i z) k
  where
    over : (z : Told) → MayTell c older z → ((w : Instance) → instance_in (tree_of c e group (entries older)) i ≡ Some w → granted_group (entries older) e i ≡ group) → instance_in (tree_of c e group (onto_entries y.number z (entries older))) i ≡ Some x → granted_group (onto_entries y.number z (entries older)) e i ≡ group
    over (Shown r) may old k = group_next c older y.number e group i x old r may k (before_record (history c (entries older)) (tree_of c e group (entries older)) i x r k)
    over _ may old k = old x k

-- so what is open in a tree is open in its epoch
pub open_now : (c : Config) (trace : List Line) → IsFollowed c trace → (e : EpochId) (group : ℕ) (i : Serial) (x : Instance) → instance_in (tree_of c e group (entries trace)) i ≡ Some x → instance_now c trace e i ≡ Some x
open_now c trace followed e group i x k = subst (λ (g : ℕ). instance_in (tree_of c e g (entries trace)) i ≡ Some x) (sym (open_group c trace followed e group i x k)) k
