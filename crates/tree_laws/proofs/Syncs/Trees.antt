-- What a record that isn't of a group's table leaves in the tree of the epoch and group: its start, the versions that it knows,
-- and who has its files open.
use Rattle.std.proofs.Common.{◌≡◌, ℕ, ◌==◌, Bool, true, false, ◌&&◌, cond, List, [], ◌∷◌, ◌++◌, filter, map, refl, sym, ap, ◌∙◌}
use Rattle.role_steps.proofs.of_plain_facts.Numbers.{equal}
use Rattle.role_steps.proofs.of_plain_facts.Tests.{and_first, and_second}
use Rattle.locus_ids.specs.declared.ids.EpochId.{EpochId}
use Rattle.locus_ids.specs.declared.ids.FileId.{FileId}
use Rattle.locus_ids.specs.declared.ids.Serial.{Serial}
use Rattle.commit_graph.specs.Grants.{Opener}
use Rattle.commit_graph.specs.Versions.{same_file}
use Rattle.commit_graph.specs.declared.history.Version.{Version}
use Rattle.trace_book.specs.Same.{same_epoch}
use Rattle.trace_book.specs.declared.record.Record.{Record}
use Rattle.trace_book.specs.declared.record.Record.TheVariants as says
use Rattle.role_steps.specs.Opens.{is_open_on, opener_of as row_opener, openers as table_openers}
use Rattle.role_steps.specs.Views.{Frame, Shown}
use Rattle.role_steps.specs.declared.synchronizing.OpenRow.{OpenRow}
use Rattle.role_steps.specs.declared.synchronizing.SyncTable.{SyncTable}
use Rattle.tree_model.specs.declared.copy.HeldCopy.{HeldCopy}
use Rattle.tree_model.specs.declared.instance.Instance.{Instance}
use Rattle.tree_model.specs.Lists.{change_first}
use Rattle.tree_model.specs.Packs.{has_pack}
use Rattle.tree_model.specs.State.{TreeState, is_granted_here, is_inside, is_make, is_named, is_writer, opener_of, openers, with_all}
use Rattle.tree_model.specs.Tree.{acted, grant_of, granted, joined, left, next, once_acted, once_committed, opened, released, with_root, without_make}
use Rattle.tree_laws.specs.Tables.{named_instance, named_openers, tree_openers}
use Rattle.tree_laws.proofs.Names.{same_epoch_eq}
use Rattle.tree_laws.specs.Syncs.Staying.{Starts, Names, Releases}

-- ---- two ways ----

pub same_if : {X : Type 0} (field : TreeState → X) (b : Bool) (u t : TreeState) → (b ≡ true → field u ≡ field t) → field (cond b u t) ≡ field t
same_if field true u t e = e refl
same_if field false u t e = refl

-- ---- instances ----

-- a list of openers, where one of the instances goes on under its grant
openers_changed : (p q : Instance → Bool) (change : Instance → Instance) → ((x : Instance) → p (change x) ≡ p x) → ((x : Instance) → named_instance (change x) ≡ named_instance x) → (xs : List Instance)
    → map named_instance (filter p (change_first q change xs)) ≡ map named_instance (filter p xs)
openers_changed p q change passes same [] = refl
openers_changed p q change passes same (x ∷ xs) = at (q x) (openers_changed p q change passes same xs)
  where
    front : (b : Bool) → map named_instance (cond b (change x ∷ filter p xs) (filter p xs)) ≡ map named_instance (cond b (x ∷ filter p xs) (filter p xs))
    front true = ap (λ (o : Serial × Opener). o ∷ map named_instance (filter p xs)) (same x)
    front false = refl

    back : (b : Bool) → map named_instance (filter p (change_first q change xs)) ≡ map named_instance (filter p xs) → map named_instance (cond b (x ∷ filter p (change_first q change xs)) (filter p (change_first q change xs))) ≡ map named_instance (cond b (x ∷ filter p xs) (filter p xs))
    back true later = ap (λ (os : List (Serial × Opener)). named_instance x ∷ os) later
    back false later = later

    at : (b : Bool) → map named_instance (filter p (change_first q change xs)) ≡ map named_instance (filter p xs) → map named_instance (filter p (cond b (change x ∷ xs) (x ∷ change_first q change xs))) ≡ map named_instance (filter p (x ∷ xs))
    at true later = ap (λ (b : Bool). map named_instance (cond b (change x ∷ filter p xs) (filter p xs))) (passes x) ∙ front (p x)
    at false later = back (p x) later

-- who has it open is who has it open by name
seconds : {A B C : Type 0} (f : A → B) (g : A → C) (xs : List A) → map (λ (p : B × C). p.1) (map (λ (x : A). (f x, g x)) xs) ≡ map g xs
seconds f g [] = refl
seconds {C = C} f g (x ∷ xs) = ap (λ (ys : List C). g x ∷ ys) (seconds f g xs)

pub openers_by_name : (t : SyncTable) (s : TreeState) (file : FileId) → named_openers t file ≡ tree_openers s file → table_openers t file ≡ openers s file
openers_by_name t s file e =
    sym (seconds (λ (r : OpenRow). r.inst) row_opener (filter (is_open_on file) t.opens))
    ∙ (ap (λ (os : List (Serial × Opener)). map (λ (p : Serial × Opener). p.1) os) e
    ∙ seconds (λ (x : Instance). x.grant.inst) opener_of (filter (λ (x : Instance). same_file x.grant.file file) s.instances))

-- ---- record by record ----

-- a site that joins the epoch of the tree has no pack of its group
abbrev pub JoinsWithout : TreeState → Record → Type 0
JoinsWithout t (says.Join s e m) = same_epoch e t.epoch ≡ true → has_pack t.config t.group s ≡ false
JoinsWithout t _ = Unit {0}

module _ (h : List Version) (t : TreeState) (f : Frame) (group : ℕ) (epoch_is : t.epoch ≡ f.epoch) (group_is : t.group ≡ group) where
  -- what is of the epoch and group of the tree is of the table
  its : (e : EpochId) (g : ℕ) → same_epoch e t.epoch && (g == t.group) ≡ true → (e ≡ f.epoch) × (g ≡ group)
  its e g b = (same_epoch_eq e t.epoch (and_first (same_epoch e t.epoch) _ b) ∙ epoch_is, equal g t.group (and_second (same_epoch e t.epoch) _ b) ∙ group_is)

  pub started_same : (r : Record) → (Starts f group (Shown r) → ⊥) → (next h r t).started ≡ t.started
  started_same (says.Join s e m) apart = over (same_epoch e t.epoch)
    where
      over : (b : Bool) → (cond b (joined s m t) (left s t)).started ≡ t.started
      over true = refl
      over false = refl
  started_same (says.Start e g copies) apart = same_if (λ (u : TreeState). u.started) (same_epoch e t.epoch && (g == t.group)) (record t { started = true }) t (λ b. absurd (apart (its e g b)))
  started_same (says.Grant e call request i m file stamp ss) apart = same_if (λ (u : TreeState). u.started) (same_epoch e t.epoch) (granted h (grant_of t call i m file ss) stamp t) t (λ b. refl)
  started_same (says.Refuse e call request i m file why) apart = same_if (λ (u : TreeState). u.started) (same_epoch e t.epoch && ((file.group == t.group) && is_make m)) (record t { makes = without_make call t.makes }) t (λ b. refl)
  started_same (says.Act e i n o result) apart = same_if (λ (u : TreeState). u.started) (same_epoch e t.epoch && is_granted_here t i) (acted h i o result t) t (λ b. refl)
  started_same (says.Release e i file stamp) apart = same_if (λ (u : TreeState). u.started) (same_epoch e t.epoch && (file.group == t.group)) (released i file stamp t) t (λ b. refl)
  started_same r apart = refl

  pub known_same : (r : Record) → (Releases f group (Shown r) → ⊥) → JoinsWithout t r → (next h r t).known ≡ t.known
  known_same (says.Join s e m) apart none = over (same_epoch e t.epoch) none
    where
      over : (b : Bool) → (b ≡ true → has_pack t.config t.group s ≡ false) → (cond b (joined s m t) (left s t)).known ≡ t.known
      over true k = ap (λ (b : Bool). cond b (with_all (filter (λ (c : HeldCopy). c.site == s) (with_root t s)) t.known) t.known) (k refl)
      over false k = refl
  known_same (says.Start e g copies) apart none = same_if (λ (u : TreeState). u.known) (same_epoch e t.epoch && (g == t.group)) (record t { started = true }) t (λ b. refl)
  known_same (says.Grant e call request i m file stamp ss) apart none = same_if (λ (u : TreeState). u.known) (same_epoch e t.epoch) (granted h (grant_of t call i m file ss) stamp t) t (λ b. refl)
  known_same (says.Refuse e call request i m file why) apart none = same_if (λ (u : TreeState). u.known) (same_epoch e t.epoch && ((file.group == t.group) && is_make m)) (record t { makes = without_make call t.makes }) t (λ b. refl)
  known_same (says.Act e i n o result) apart none = same_if (λ (u : TreeState). u.known) (same_epoch e t.epoch && is_granted_here t i) (acted h i o result t) t (λ b. refl)
  known_same (says.Release e i file stamp) apart none = same_if (λ (u : TreeState). u.known) (same_epoch e t.epoch && (file.group == t.group)) (released i file stamp t) t (λ b. absurd (apart (its e file.group b)))
  known_same r apart none = refl

  pub openers_same : (r : Record) (file : FileId) → (Names f group (Shown r) → ⊥) → (Releases f group (Shown r) → ⊥) → tree_openers (next h r t) file ≡ tree_openers t file
  openers_same (says.Join s e m) file unnamed held = over (same_epoch e t.epoch)
    where
      over : (b : Bool) → tree_openers (cond b (joined s m t) (left s t)) file ≡ tree_openers t file
      over true = refl
      over false = refl
  openers_same (says.Start e g copies) file unnamed held = same_if (λ (u : TreeState). tree_openers u file) (same_epoch e t.epoch && (g == t.group)) (record t { started = true }) t (λ b. refl)
  openers_same (says.Grant e call request i m g stamp ss) file unnamed held = over (same_epoch e t.epoch) refl
    where
      inner : (a : Bool) → (a ≡ true → ⊥) → map named_instance (filter (λ (x : Instance). same_file x.grant.file file) (cond a (t.instances ++ opened h (grant_of t call i m g ss) stamp ∷ []) t.instances)) ≡ tree_openers t file
      inner true none = absurd (none refl)
      inner false none = refl

      over : (b : Bool) → same_epoch e t.epoch ≡ b → tree_openers (cond b (granted h (grant_of t call i m g ss) stamp t) t) file ≡ tree_openers t file
      over true b = inner (g.group == t.group) (λ k. unnamed (same_epoch_eq e t.epoch b ∙ epoch_is, equal g.group t.group k ∙ group_is))
      over false b = refl
  openers_same (says.Refuse e call request i m g why) file unnamed held = same_if (λ (u : TreeState). tree_openers u file) (same_epoch e t.epoch && ((g.group == t.group) && is_make m)) (record t { makes = without_make call t.makes }) t (λ b. refl)
  openers_same (says.Act e i n o result) file unnamed held = same_if (λ (u : TreeState). tree_openers u file) (same_epoch e t.epoch && is_granted_here t i) (acted h i o result t) t
      (λ b. openers_changed (λ (x : Instance). same_file x.grant.file file) (is_named i) (once_acted h t o result) (λ x. refl) (λ x. refl) t.instances)
  openers_same (says.Commit g s stamp parents content) file unnamed held = over (is_inside t s)
    where
      over : (b : Bool) → map named_instance (filter (λ (x : Instance). same_file x.grant.file file) (cond b (change_first (is_writer g s) (once_committed stamp) t.instances) t.instances)) ≡ tree_openers t file
      over true = openers_changed (λ (x : Instance). same_file x.grant.file file) (is_writer g s) (once_committed stamp) (λ x. refl) (λ x. refl) t.instances
      over false = refl
  openers_same (says.Release e i g stamp) file unnamed held = same_if (λ (u : TreeState). tree_openers u file) (same_epoch e t.epoch && (g.group == t.group)) (released i g stamp t) t (λ b. absurd (held (its e g.group b)))
  openers_same r file unnamed held = refl
