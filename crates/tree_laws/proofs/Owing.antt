-- Whoever is inside a tree is in its epoch; what is open in a tree is of its group; so an open instance that a commit may be
-- of is the one that the commit is of, and owes it.
use Rattle.std.proofs.Common.{◌≡◌, ℕ, ◌==◌, Bool, true, false, not, cond, ◌&&◌, ◌||◌, List, [], ◌∷◌, ◌++◌, filter, Option, Some, None, refl, sym, ◌∙◌, ap, subst, arith}
use Rattle.std.specs.List.{find, list_any}
use Rattle.std.proofs.lemmas.Bool.Decides.{nat_tests}
use Rattle.the_run.proofs.of_plain_facts.Numbers.{equal}
use Rattle.the_run.proofs.of_plain_facts.Options.{some_same}
use Rattle.the_run.proofs.of_plain_facts.Tests.{true_false}
use Rattle.locus_ids.specs.declared.config.Config.{Config}
use Rattle.locus_ids.specs.declared.ids.EpochId.{EpochId}
use Rattle.locus_ids.specs.declared.ids.FileId.{FileId}
use Rattle.locus_ids.specs.declared.ids.Serial.{Serial}
use Rattle.locus_ids.specs.declared.ids.Stamp.{Stamp}
use Rattle.commit_graph.specs.Grants.{is_read}
use Rattle.commit_graph.specs.Versions.{same_file}
use Rattle.commit_graph.specs.declared.history.Version.{Version}
use Rattle.trace_book.specs.Same.{same_epoch}
use Rattle.trace_book.specs.declared.record.Record.{Record}
use Rattle.trace_book.specs.declared.record.Record.TheVariants as says
use Rattle.the_run.specs.of_role_steps.Own.{Every}
use Rattle.the_run.specs.of_role_steps.Views.{Told, Shown}
use Rattle.the_run.specs.Worlds.{Line}
use Rattle.lawful_trace.specs.of_tree_model.declared.instance.Granted.{Granted}
use Rattle.lawful_trace.specs.of_tree_model.declared.instance.Instance.{Instance}
use Rattle.lawful_trace.specs.of_tree_model.Epochs.{epoch_of, is_in}
use Rattle.lawful_trace.specs.of_tree_model.Folds.{Trace}
use Rattle.lawful_trace.specs.of_tree_model.Histories.{history}
use Rattle.lawful_trace.specs.of_tree_model.Lists.{change_first, without_first}
use Rattle.lawful_trace.specs.of_tree_model.State.{TreeState, is_named, is_writer, is_inside, is_granted_here, is_make, instance_in}
use Rattle.lawful_trace.specs.of_tree_model.Tree.{next, tree_of, joined, left, without_number, grant_of, opened, once_committed, once_acted, without_make, with_make, is_passed_probe, released}
use Rattle.lawful_trace.specs.TreeRows.{granted_group, is_writing}
use Rattle.tree_laws.specs.Printed.{entries}
use Rattle.tree_laws.specs.Following.{MayTell}
use Rattle.tree_laws.specs.Frames.{CommitsTold, CommitsOwe}
use Rattle.tree_laws.specs.Instances.{instance_now}
use Rattle.tree_laws.proofs.Names.{same_epoch_eq}
use Rattle.tree_laws.proofs.Kinship.{tree_epoch_is, tree_group_is}

-- ---- who is inside ----

abbrev has : List ℕ → ℕ → Bool
has ns b = list_any (λ m. m == b) ns

without_own : (a : ℕ) (ns : List ℕ) → has (without_number a ns) a ≡ false
without_own a [] = refl
without_own a (n ∷ ns) = at (without_own a ns) (n == a) refl
  where
    at : has (without_number a ns) a ≡ false → (b : Bool) → (n == a) ≡ b → has (without_number a (n ∷ ns)) a ≡ false
    at later true e = rw e later
    at later false e = rw e (rw e later)

without_other : (a b : ℕ) (ns : List ℕ) → (a == b) ≡ false → has (without_number a ns) b ≡ has ns b
without_other a b [] ne = refl
without_other a b (n ∷ ns) ne = at (without_other a b ns ne) (n == a) refl
  where
    other : (n == a) ≡ true → (n == b) ≡ false
    other e = subst (λ (m : ℕ). (m == b) ≡ false) (sym (equal n a e)) ne

    at : has (without_number a ns) b ≡ has ns b → (c : Bool) → (n == a) ≡ c → has (without_number a (n ∷ ns)) b ≡ has (n ∷ ns) b
    at later true e = rw e (rw (other e) later)
    at later false e = rw e (ap (λ (x : Bool). (n == b) || x) later)

-- a site leaves, in the tree and by its epoch
left_in : (a s : ℕ) (ns : List ℕ) (o : Option EpochId) (e : EpochId) → has ns s ≡ is_in o e → has (without_number a ns) s ≡ is_in (cond (a == s) None o) e
left_in a s ns o e h = at (a == s) refl
  where
    at : (b : Bool) → (a == s) ≡ b → has (without_number a ns) s ≡ is_in (cond b None o) e
    at true k = subst (λ (m : ℕ). has (without_number a ns) m ≡ false) (equal a s k) (without_own a ns)
    at false k = without_other a s ns k ∙ h

-- a site joins
entered_in : (a s : ℕ) (ns : List ℕ) (o : Option EpochId) (at_epoch e : EpochId) → same_epoch at_epoch e ≡ true → has ns s ≡ is_in o e → has (a ∷ without_number a ns) s ≡ is_in (cond (a == s) (Some at_epoch) o) e
entered_in a s ns o at_epoch e same h = at (a == s) refl
  where
    at : (b : Bool) → (a == s) ≡ b → (b || has (without_number a ns) s) ≡ is_in (cond b (Some at_epoch) o) e
    at true k = sym same
    at false k = without_other a s ns k ∙ h

passed_in : (a s : ℕ) (ns : List ℕ) (o : Option EpochId) (at_epoch e : EpochId) → same_epoch at_epoch e ≡ false → has ns s ≡ is_in o e → has (without_number a ns) s ≡ is_in (cond (a == s) (Some at_epoch) o) e
passed_in a s ns o at_epoch e other h = at (a == s) refl
  where
    at : (b : Bool) → (a == s) ≡ b → has (without_number a ns) s ≡ is_in (cond b (Some at_epoch) o) e
    at true k = subst (λ (m : ℕ). has (without_number a ns) m ≡ false) (equal a s k) (without_own a ns) ∙ sym other
    at false k = without_other a s ns k ∙ h

inside_kept : (b : Bool) (u t : TreeState) (s : ℕ) (x : Bool) → is_inside u s ≡ is_inside t s → is_inside t s ≡ x → is_inside (cond b u t) s ≡ x
inside_kept true u t s x e h = e ∙ h
inside_kept false u t s x e h = h

inside_record : (c : Config) (n : ℕ) (r : Record) (before : Trace) (e : EpochId) (g s : ℕ) → is_inside (tree_of c e g before) s ≡ is_in (epoch_of before s) e → is_inside (tree_of c e g (record { line = n; what = r } ∷ before)) s ≡ is_in (epoch_of (record { line = n; what = r } ∷ before) s) e
inside_record c n (says.Up a boot) before e g s h = left_in a s (tree_of c e g before).inside (epoch_of before s) e h
inside_record c n (says.Stopped a cause) before e g s h = left_in a s (tree_of c e g before).inside (epoch_of before s) e h
inside_record c n (says.Leave a at) before e g s h = left_in a s (tree_of c e g before).inside (epoch_of before s) e h
inside_record c n (says.Join a at members) before e g s h = over (same_epoch at (tree_of c e g before).epoch) refl
  where
    t : TreeState
    t = tree_of c e g before

    over : (b : Bool) → same_epoch at t.epoch ≡ b → is_inside (cond b (joined a members t) (left a t)) s ≡ is_in (cond (a == s) (Some at) (epoch_of before s)) e
    over true k = entered_in a s t.inside (epoch_of before s) at e (subst (λ (y : EpochId). same_epoch at y ≡ true) (tree_epoch_is c e g before) k) h
    over false k = passed_in a s t.inside (epoch_of before s) at e (subst (λ (y : EpochId). same_epoch at y ≡ false) (tree_epoch_is c e g before) k) h
inside_record c n (says.Start at group copies) before e g s h = inside_kept (same_epoch at (tree_of c e g before).epoch && (group == (tree_of c e g before).group)) (record (tree_of c e g before) { started = true }) (tree_of c e g before) s _ refl h
inside_record c n (says.Grant at call request i m f stamp ss) before e g s h = over (same_epoch at (tree_of c e g before).epoch) h
  where
    t : TreeState
    t = tree_of c e g before

    over : (b : Bool) → is_inside t s ≡ is_in (epoch_of before s) e → is_inside (cond b (record t { grants = t.grants ++ grant_of t call i m f ss ∷ []; instances = cond (f.group == t.group) (t.instances ++ opened (history c before) (grant_of t call i m f ss) stamp ∷ []) t.instances }) t) s ≡ is_in (epoch_of before s) e
    over true h = h
    over false h = h
inside_record c n (says.Refuse at call request i m f why) before e g s h = inside_kept (same_epoch at (tree_of c e g before).epoch && ((f.group == (tree_of c e g before).group) && is_make m)) (record (tree_of c e g before) { makes = without_make call (tree_of c e g before).makes }) (tree_of c e g before) s _ refl h
inside_record c n (says.Act at i number o result) before e g s h = over (same_epoch at (tree_of c e g before).epoch && is_granted_here (tree_of c e g before) i) h
  where
    t : TreeState
    t = tree_of c e g before

    over : (b : Bool) → is_inside t s ≡ is_in (epoch_of before s) e → is_inside (cond b (record t { instances = change_first (is_named i) (once_acted (history c before) t o result) t.instances; makes = cond (is_passed_probe o result) (with_make (instance_in t i) t.makes) t.makes }) t) s ≡ is_in (epoch_of before s) e
    over true h = h
    over false h = h
inside_record c n (says.Release at i f stamp) before e g s h = inside_kept (same_epoch at (tree_of c e g before).epoch && (f.group == (tree_of c e g before).group)) (released i f stamp (tree_of c e g before)) (tree_of c e g before) s _ refl h
inside_record c n _ before e g s h = h

pub inside_is : (c : Config) (before : Trace) (e : EpochId) (g s : ℕ) → is_inside (tree_of c e g before) s ≡ is_in (epoch_of before s) e
inside_is c [] e g s = refl
inside_is c (r ∷ before) e g s = inside_record c r.line r.what before e g s (inside_is c before e g s)

-- ---- what is open in a tree is of its group ----

abbrev pub InGroup : ℕ → Instance → Type 0
InGroup g x = x.grant.file.group ≡ g

pub every_added : {A : Type 0} (P : A → Type 0) (xs : List A) (x : A) → Every P xs → P x → Every P (xs ++ x ∷ [])
every_added P [] x h p = (p, tt)
every_added P (y ∷ xs) x h p = (h.0, every_added P xs x h.1 p)

pub every_changed : {A : Type 0} (P : A → Type 0) (q : A → Bool) (change : A → A) → ((x : A) → P x → P (change x)) → (xs : List A) → Every P xs → Every P (change_first q change xs)
every_changed P q change keeps [] h = tt
every_changed P q change keeps (x ∷ xs) h = at (every_changed P q change keeps xs h.1) (q x)
  where
    at : Every P (change_first q change xs) → (b : Bool) → Every P (cond b (change x ∷ xs) (x ∷ change_first q change xs))
    at later true = (keeps x h.0, h.1)
    at later false = (h.0, later)

pub every_left : {A : Type 0} (P : A → Type 0) (q : A → Bool) (xs : List A) → Every P xs → Every P (without_first q xs)
every_left P q [] h = tt
every_left P q (x ∷ xs) h = at (every_left P q xs h.1) (q x)
  where
    at : Every P (without_first q xs) → (b : Bool) → Every P (cond b xs (x ∷ without_first q xs))
    at later true = h.1
    at later false = (h.0, later)

pub found_every : {A : Type 0} (P : A → Type 0) (p : A → Bool) (xs : List A) (x : A) → find p xs ≡ Some x → Every P xs → P x
found_every P p [] x e h = absurd (none e)
  where
    none : ◌≡◌ {A = Option _} None (Some x) → ⊥
    none e = cc
found_every P p (y ∷ xs) x e h = at (λ (k : find p xs ≡ Some x). found_every P p xs x k h.1) (p y) e
  where
    at : (find p xs ≡ Some x → P x) → (b : Bool) → cond b (Some y) (find p xs) ≡ Some x → P x
    at later true k = subst P (some_same y x k) h.0
    at later false k = later k

-- what the record grants in the tree has the property
abbrev pub GrantHas : (Granted → Type 0) → TreeState → Record → Type 0
GrantHas P t (says.Grant e call request i m f stamp ss) = e ≡ t.epoch → f.group ≡ t.group → P (grant_of t call i m f ss)
GrantHas P t _ = Unit {0}

-- a property of grants that each open instance's grant has, each has after a record
pub grants_have : (P : Granted → Type 0) (h : List Version) (r : Record) (t : TreeState) → GrantHas P t r → Every (λ (x : Instance). P x.grant) t.instances → Every (λ (x : Instance). P x.grant) (next h r t).instances
grants_have P h (says.Join s e m) t new k = over (same_epoch e t.epoch)
  where
    over : (b : Bool) → Every (λ (x : Instance). P x.grant) (cond b (joined s m t) (left s t)).instances
    over true = k
    over false = k
grants_have P h (says.Start e group copies) t new k = over (same_epoch e t.epoch && (group == t.group))
  where
    over : (b : Bool) → Every (λ (x : Instance). P x.grant) (cond b (record t { started = true }) t).instances
    over true = k
    over false = k
grants_have P h (says.Refuse e call request i m f why) t new k = over (same_epoch e t.epoch && ((f.group == t.group) && is_make m))
  where
    over : (b : Bool) → Every (λ (x : Instance). P x.grant) (cond b (record t { makes = without_make call t.makes }) t).instances
    over true = k
    over false = k
grants_have P h (says.Grant e call request i m f stamp ss) t new k = over (same_epoch e t.epoch) (f.group == t.group) refl refl
  where
    g : Granted
    g = grant_of t call i m f ss

    over : (a b : Bool) → same_epoch e t.epoch ≡ a → (f.group == t.group) ≡ b → Every (λ (x : Instance). P x.grant) (cond a (record t { grants = t.grants ++ g ∷ []; instances = cond b (t.instances ++ opened h g stamp ∷ []) t.instances }) t).instances
    over true true p q = every_added (λ (x : Instance). P x.grant) t.instances (opened h g stamp) k (new (same_epoch_eq e t.epoch p) (equal f.group t.group q))
    over true false p q = k
    over false b p q = k
grants_have P h (says.Act e i n o result) t new k = over (same_epoch e t.epoch && is_granted_here t i)
  where
    over : (b : Bool) → Every (λ (x : Instance). P x.grant) (cond b (record t { instances = change_first (is_named i) (once_acted h t o result) t.instances; makes = cond (is_passed_probe o result) (with_make (instance_in t i) t.makes) t.makes }) t).instances
    over true = every_changed (λ (x : Instance). P x.grant) (is_named i) (once_acted h t o result) (λ x p. p) t.instances k
    over false = k
grants_have P h (says.Commit f s stamp parents content) t new k = over (is_inside t s)
  where
    over : (b : Bool) → Every (λ (x : Instance). P x.grant) (cond b (change_first (is_writer f s) (once_committed stamp) t.instances) t.instances)
    over true = every_changed (λ (x : Instance). P x.grant) (is_writer f s) (once_committed stamp) (λ x p. p) t.instances k
    over false = k
grants_have P h (says.Release e i f stamp) t new k = over (same_epoch e t.epoch && (f.group == t.group))
  where
    over : (b : Bool) → Every (λ (x : Instance). P x.grant) (cond b (released i f stamp t) t).instances
    over true = every_left (λ (x : Instance). P x.grant) (is_named i) t.instances k
    over false = k
grants_have P h _ t new k = k

group_given : (t : TreeState) (r : Record) → GrantHas (λ (g : Granted). g.file.group ≡ t.group) t r
group_given t (says.Grant e call request i m f stamp ss) = λ at same. same
group_given t _ = tt

group_record : (h : List Version) (r : Record) (t : TreeState) → Every (InGroup t.group) t.instances → Every (InGroup t.group) (next h r t).instances
group_record h r t k = grants_have (λ (g : Granted). g.file.group ≡ t.group) h r t (group_given t r) k

pub in_group : (c : Config) (e : EpochId) (g : ℕ) (before : Trace) → Every (InGroup g) (tree_of c e g before).instances
in_group c e g [] = tt
in_group c e g (r ∷ before) = (let t : TreeState = tree_of c e g before in
    subst (λ (k : ℕ). Every (InGroup k) (next (history c before) r.what t).instances) (tree_group_is c e g before)
    (group_record (history c before) r.what t (subst (λ (k : ℕ). Every (InGroup k) t.instances) (sym (tree_group_is c e g before)) (in_group c e g before))))

-- ---- the one that is committed ----

pub none_left : {A : Type 0} (p q : A → Bool) (xs : List A) (x : A) → find p xs ≡ Some x → q x ≡ true → filter q xs ≡ [] → ⊥
none_left p q [] x e t f = none e
  where
    none : ◌≡◌ {A = Option _} None (Some x) → ⊥
    none e = cc
none_left p q (y ∷ xs) x e t f = at (λ (k : find p xs ≡ Some x). none_left p q xs x k t) (p y) (q y) refl e f
  where
    empty : {A : Type 0} (a : A) (as_after : List A) → a ∷ as_after ≡ [] → ⊥
    empty a as_after e = cc

    at : (find p xs ≡ Some x → filter q xs ≡ [] → ⊥) → (b d : Bool) → q y ≡ d → cond b (Some y) (find p xs) ≡ Some x → cond d (y ∷ filter q xs) (filter q xs) ≡ [] → ⊥
    at later b true g e f = empty y (filter q xs) f
    at later true false g e f = true_false (sym t ∙ (ap q (sym (some_same y x e)) ∙ g))
    at later false false g e f = later e f

pub only_one : {A : Type 0} (p q : A → Bool) (xs : List A) (x y : A) → find p xs ≡ Some x → q x ≡ true → filter q xs ≡ y ∷ [] → x ≡ y
only_one p q [] x y e t f = absurd (none e)
  where
    none : ◌≡◌ {A = Option _} None (Some x) → ⊥
    none e = cc
only_one p q (z ∷ xs) x y e t f = at (λ (k : find p xs ≡ Some x). only_one p q xs x y k t) (p z) (q z) refl e f
  where
    first_is : {A : Type 0} (a b : A) (as_after : List A) → a ∷ as_after ≡ b ∷ [] → a ≡ b
    first_is a b as_after e = cc

    rest_is : {A : Type 0} (a b : A) (as_after : List A) → a ∷ as_after ≡ b ∷ [] → as_after ≡ []
    rest_is a b as_after e = cc

    at : (find p xs ≡ Some x → filter q xs ≡ y ∷ [] → x ≡ y) → (b d : Bool) → q z ≡ d → cond b (Some z) (find p xs) ≡ Some x → cond d (z ∷ filter q xs) (filter q xs) ≡ y ∷ [] → x ≡ y
    at later true true g e f = sym (some_same z x e) ∙ first_is z y (filter q xs) f
    at later true false g e f = absurd (true_false (sym t ∙ (ap q (sym (some_same z x e)) ∙ g)))
    at later false true g e f = absurd (none_left p q xs x e t (rest_is z y (filter q xs) f))
    at later false false g e f = later e f

pub writer_writes : (f : FileId) (s : ℕ) (x : Instance) → is_writer f s x ≡ true → is_writing f x ≡ true
writer_writes f s x h = over (same_file x.grant.file f) (x.grant.ss == s) (not (is_read x.grant.mode)) h
  where
    over : (a b d : Bool) → a && (b && d) ≡ true → a && d ≡ true
    over true true d k = k
    over true false d k = absurd (true_false (sym k))
    over false b d k = k

writer_group : (f : FileId) (s : ℕ) (x : Instance) → is_writer f s x ≡ true → x.grant.file.group ≡ f.group
writer_group f s x h = over (same_file x.grant.file f) ((x.grant.ss == s) && not (is_read x.grant.mode)) refl h
  where
    same : same_file x.grant.file f ≡ true → x.grant.file.group ≡ f.group
    same k = grind (arith, nat_tests)

    over : (a b : Bool) → same_file x.grant.file f ≡ a → a && b ≡ true → x.grant.file.group ≡ f.group
    over true b e k = same e
    over false b e k = absurd (true_false (sym k))

-- an instance that is found in a tree of the epoch, and that a commit may be of, owes it
pub owed_where : (c : Config) (older : List Line) (e : EpochId) (g : ℕ) (p : Instance → Bool) (at : Instance) (f : FileId) (s : ℕ) (stamp : Stamp) (parents : List Stamp) (content : List ℕ) → MayTell c older (Shown (says.Commit f s stamp parents content)) →
    find p (tree_of c e g (entries older)).instances ≡ Some at → is_inside (tree_of c e g (entries older)) s ≡ true → is_writer f s at ≡ true → at.work.owes ≡ true
owed_where c older e g p at f s stamp parents content may found inside writes = subst (λ (x : Instance). x.work.owes ≡ true) (sym (only_one p (is_writing f) t.instances at may.row.instance found (writer_writes f s at writes) one)) may.row.owes
  where
    t : TreeState
    t = tree_of c e g (entries older)

    epoch_is : may.row.epoch ≡ e
    epoch_is = same_epoch_eq may.row.epoch e (ap (λ (o : Option EpochId). is_in o e) (sym may.row.inside) ∙ (sym (inside_is c (entries older) e g s) ∙ inside))

    group_is : f.group ≡ g
    group_is = sym (writer_group f s at writes) ∙ found_every (InGroup g) p t.instances at found (in_group c e g (entries older))

    one : filter (is_writing f) t.instances ≡ may.row.instance ∷ []
    one = subst (λ (k : ℕ). filter (is_writing f) (tree_of c e k (entries older)).instances ≡ may.row.instance ∷ []) group_is
        (subst (λ (y : EpochId). filter (is_writing f) (tree_of c y f.group (entries older)).instances ≡ may.row.instance ∷ []) epoch_is may.row.one)

owed_record : (c : Config) (older : List Line) (r : Record) (e : EpochId) (i : Serial) (at : Instance) → MayTell c older (Shown r) → instance_now c older e i ≡ Some at → CommitsTold c older e i at (Shown r) → at.work.owes ≡ true
owed_record c older (says.Commit f s stamp parents content) e i at may found told = owed_where c older e (granted_group (entries older) e i) (is_named i) at f s stamp parents content may found told.0 told.1
owed_record c older _ e i at may found told = absurd told

pub commits_owe : (c : Config) (older : List Line) (x : Told) → MayTell c older x → CommitsOwe c older x
commits_owe c older (Shown r) may = record { owes = λ e i at found told. owed_record c older r e i at may found told }
commits_owe c older _ may = record { owes = λ e i at found told. absurd told }
