-- Open instances of one file exclude each other: a grant is given only beside those that it doesn't exclude.
use Rattle.std.proofs.Common.{◌≡◌, ℕ, ◌==◌, Bool, true, false, not, ◌&&◌, cond, List, [], ◌∷◌, ◌++◌, filter, map, Option, Some, None, refl, sym, ap, ◌∙◌, subst}
use Rattle.std.specs.List.{AllByRecursion, list_any}
use Rattle.std.specs.Option.{is_none, option_or}
use Rattle.plain_facts.proofs.Numbers.{equal}
use Rattle.plain_facts.proofs.Tests.{and_first, and_second, true_false}
use Rattle.locus_ids.specs.declared.config.Config.{Config}
use Rattle.locus_ids.specs.declared.ids.CallId.{CallId}
use Rattle.locus_ids.specs.declared.ids.EpochId.{EpochId}
use Rattle.locus_ids.specs.declared.ids.FileId.{FileId}
use Rattle.locus_ids.specs.declared.ids.Mode.{Mode}
use Rattle.locus_ids.specs.declared.ids.Mode.TheVariants as mode
use Rattle.locus_ids.specs.declared.ids.Serial.{Serial}
use Rattle.locus_ids.specs.declared.ids.Stamp.{Stamp}
use Rattle.commit_graph.specs.declared.history.Version.{Version}
use Rattle.commit_graph.specs.Grants.{Opener, excluder, grant_refusal, is_read}
use Rattle.commit_graph.specs.Versions.{same_file}
use Rattle.trace_book.specs.Same.{same_epoch}
use Rattle.trace_book.specs.declared.record.Record.{Record}
use Rattle.trace_book.specs.declared.record.Record.TheVariants as says
use Rattle.tree_model.specs.declared.instance.Granted.{Granted}
use Rattle.tree_model.specs.declared.instance.Instance.{Instance}
use Rattle.tree_model.specs.Folds.{Trace}
use Rattle.tree_model.specs.Given.{gives_grant}
use Rattle.tree_model.specs.Histories.{history}
use Rattle.tree_model.specs.Lists.{change_first, without_first}
use Rattle.tree_model.specs.Opening.{is_given_by, is_new_file, is_placed, is_site, making_site, open_refusal, place_refusal}
use Rattle.tree_model.specs.State.{TreeState, held_at, kept_of, is_granted_here, is_inside, is_make, is_named, is_taken, is_writer, opener_of, openers}
use Rattle.tree_model.specs.Tree.{grant_of, joined, left, next, once_acted, once_committed, opened, tree_of, without_make}
use Rattle.lawful_trace.specs.Lawful.{MayCome}
use Rattle.tree_laws.specs.Following.{RowsAreLawful}
use Rattle.tree_laws.proofs.Names.{same_epoch_eq}
use Rattle.tree_laws.specs.Orders.Alone.{AreAlone, MayStandBy}
use Rattle.tree_laws.proofs.Orders.Lists.{all_changed, all_more, all_then, all_without, any_last, any_more}

-- ---- lists of instances ----

pub alone_more : (xs : List Instance) (y : Instance) → AreAlone xs → AllByRecursion (λ (x : Instance). MayStandBy x y) xs → AreAlone (xs ++ y ∷ [])
alone_more [] y alone by = (tt, tt)
alone_more (x ∷ xs) y alone by = (all_more (MayStandBy x) xs y alone.0 by.0, alone_more xs y alone.1 by.1)

-- who stands by an instance stands by one of the same grant
stands_by : (x y z : Instance) → z.grant ≡ y.grant → MayStandBy x y → MayStandBy x z
stands_by x y z e by = subst (λ (g : Granted). same_file x.grant.file g.file ≡ true → (is_read x.grant.mode ≡ true) × (is_read g.mode ≡ true)) (sym e) by

by_stands : (x y z : Instance) → z.grant ≡ x.grant → MayStandBy x y → MayStandBy z y
by_stands x y z e by = subst (λ (g : Granted). same_file g.file y.grant.file ≡ true → (is_read g.mode ≡ true) × (is_read y.grant.mode ≡ true)) (sym e) by

pub alone_changed : (q : Instance → Bool) (change : Instance → Instance) → ((x : Instance) → (change x).grant ≡ x.grant) → (xs : List Instance) → AreAlone xs → AreAlone (change_first q change xs)
alone_changed q change same [] alone = tt
alone_changed q change same (x ∷ xs) alone = at (q x) (alone_changed q change same xs alone.1)
  where
    at : (b : Bool) → AreAlone (change_first q change xs) → AreAlone (cond b (change x ∷ xs) (x ∷ change_first q change xs))
    at true later = (all_then (MayStandBy x) (MayStandBy (change x)) (λ y. by_stands x y (change x) (same x)) xs alone.0, alone.1)
    at false later = (all_changed (MayStandBy x) q change (λ y. stands_by x y (change y) (same y)) xs alone.0, later)

pub alone_without : (q : Instance → Bool) (xs : List Instance) → AreAlone xs → AreAlone (without_first q xs)
alone_without q [] alone = tt
alone_without q (x ∷ xs) alone = at (q x) (alone_without q xs alone.1)
  where
    at : (b : Bool) → AreAlone (without_first q xs) → AreAlone (cond b xs (x ∷ without_first q xs))
    at true later = alone.1
    at false later = (all_without (MayStandBy x) q xs alone.0, later)

-- ---- what a grant asks ----

-- among the grants is one of the file
abbrev pub IsTakenIn : List Granted → Instance → Type 0
IsTakenIn gs x = (f : FileId) → same_file x.grant.file f ≡ true → list_any (λ (g : Granted). same_file g.file f) gs ≡ true

not_true : (a : Bool) → not a ≡ true → a ≡ true → ⊥
not_true true h e = true_false (sym h)
not_true false h e = true_false (sym e)

-- none of these excludes the mode
pub none_excludes : (m : Mode) (f : FileId) (xs : List Instance) → excluder m (map opener_of (filter (λ (x : Instance). same_file x.grant.file f) xs)) ≡ None
    → AllByRecursion (λ (x : Instance). same_file x.grant.file f ≡ true → (is_read x.grant.mode ≡ true) × (is_read m ≡ true)) xs
none_excludes m f [] none = tt
none_excludes m f (x ∷ xs) none = at (same_file x.grant.file f) refl none (none_excludes m f xs)
  where
    later : List Opener
    later = map opener_of (filter (λ (y : Instance). same_file y.grant.file f) xs)

    both : (b : Bool) → is_read m && is_read x.grant.mode ≡ b → cond (not b) (Some (opener_of x)) (excluder m later) ≡ None → ((is_read x.grant.mode ≡ true) × (is_read m ≡ true)) × (excluder m later ≡ None)
    both true e h = ((and_second (is_read m) (is_read x.grant.mode) e, and_first (is_read m) (is_read x.grant.mode) e), h)
    both false e h = absurd cc

    at : (b : Bool) → same_file x.grant.file f ≡ b → excluder m (map opener_of (cond b (x ∷ filter (λ (y : Instance). same_file y.grant.file f) xs) (filter (λ (y : Instance). same_file y.grant.file f) xs))) ≡ None
        → (excluder m later ≡ None → AllByRecursion (λ (y : Instance). same_file y.grant.file f ≡ true → (is_read y.grant.mode ≡ true) × (is_read m ≡ true)) xs)
        → AllByRecursion (λ (y : Instance). same_file y.grant.file f ≡ true → (is_read y.grant.mode ≡ true) × (is_read m ≡ true)) (x ∷ xs)
    at true e h rest = (let k = both (is_read m && is_read x.grant.mode) refl h in ((λ same. k.0), rest k.1))
    at false e h rest = ((λ same. absurd (true_false (sym same ∙ e))), rest h)

-- an open that nothing refuses is excluded by none
pub unrefused : (m : Mode) (os : List Opener) (kept : List Stamp) (o : Option Opener) → excluder m os ≡ o → grant_refusal m os kept ≡ None → o ≡ None
unrefused m os kept None e h = refl
unrefused m os kept (Some one) e h = absurd (some (rw e at h))
  where
    some : {A : Type 0} {x : A} → ◌≡◌ {A = Option A} (Some x) None → ⊥
    some k = cc

pub first_none : {A : Type 0} (a b : Option A) → is_none (option_or a b) ≡ true → a ≡ None
first_none None b h = refl
first_none (Some x) b h = absurd (true_false (sym h))

module _ (h : List Version) (t : TreeState) (call : CallId) (f : FileId) where
  abbrev Beside : Mode → Type 0
  Beside m = AllByRecursion (λ (x : Instance). same_file x.grant.file f ≡ true → (is_read x.grant.mode ≡ true) × (is_read m ≡ true)) t.instances

  refused_none : (m : Mode) → is_none (option_or (grant_refusal m (openers t f) (kept_of h t f)) (place_refusal h t m call f)) ≡ true → Beside m
  refused_none m none = none_excludes m f t.instances (unrefused m (openers t f) (kept_of h t f) (excluder m (openers t f)) refl (first_none (grant_refusal m (openers t f) (kept_of h t f)) (place_refusal h t m call f) none))

  -- a made file has no instance
  made_none : AllByRecursion (IsTakenIn t.grants) t.instances → not (is_taken t f) ≡ true → Beside mode.Make
  made_none taken new = all_then (IsTakenIn t.grants) (λ (x : Instance). same_file x.grant.file f ≡ true → (is_read x.grant.mode ≡ true) × (is_read mode.Make ≡ true)) (λ x is same. absurd (not_true (is_taken t f) new (is f same))) t.instances taken

  -- what is given stands beside those that are open
  pub given_beside : (i : Serial) (m : Mode) (stamp : Option Stamp) (ss : ℕ) → AllByRecursion (IsTakenIn t.grants) t.instances → gives_grant h t call i m f stamp ss ≡ true → Beside m
  given_beside i mode.Read stamp ss taken g = refused_none mode.Read (and_first (is_none (open_refusal h t mode.Read call f)) _ (and_second t.started _ g))
  given_beside i mode.Write stamp ss taken g = refused_none mode.Write (and_first (is_none (open_refusal h t mode.Write call f)) _ (and_second t.started _ g))
  given_beside i mode.Resolve stamp ss taken g = refused_none mode.Resolve (and_first (is_none (open_refusal h t mode.Resolve call f)) _ (and_second t.started _ g))
  given_beside i mode.Mend stamp ss taken g = refused_none mode.Mend (and_first (is_none (open_refusal h t mode.Mend call f)) _ (and_second t.started _ g))
  given_beside i mode.Make stamp ss taken g =
      let placed : is_placed h t call mode.Make f stamp ss ≡ true = and_second _ _ (and_second _ _ (and_second (is_none (open_refusal h t mode.Make call f)) _ (and_second t.started _ g))) in
      let new : is_new_file t call f ss ≡ true = and_first (is_new_file t call f ss) (is_none stamp) placed in
      made_none taken (and_second (is_none (held_at t ss f.ino)) (not (is_taken t f)) (and_second (is_given_by ss f.ino) _ (and_second (is_site (making_site t call) ss) _ new)))

-- ---- record by record ----

pub record Apart (t : TreeState) : Type 0 where
  pub alone : AreAlone t.instances
  pub taken : AllByRecursion (IsTakenIn t.grants) t.instances

apart_as : (t u : TreeState) → u.instances ≡ t.instances → u.grants ≡ t.grants → Apart t → Apart u
apart_as t u i g a = record {
  alone = subst AreAlone (sym i) a.alone;
  taken = subst (λ (gs : List Granted). AllByRecursion (IsTakenIn gs) u.instances) (sym g) (subst (λ (xs : List Instance). AllByRecursion (IsTakenIn t.grants) xs) (sym i) a.taken);
}

-- the tree is one of these
if_apart : (b : Bool) (u t : TreeState) → Apart u → Apart t → Apart (cond b u t)
if_apart true u t a b = a
if_apart false u t a b = b

changed_apart : (t u : TreeState) (q : Instance → Bool) (change : Instance → Instance) → ((x : Instance) → (change x).grant ≡ x.grant) → u.instances ≡ change_first q change t.instances → u.grants ≡ t.grants → Apart t → Apart u
changed_apart t u q change same i g a = record {
  alone = subst AreAlone (sym i) (alone_changed q change same t.instances a.alone);
  taken = subst (λ (gs : List Granted). AllByRecursion (IsTakenIn gs) u.instances) (sym g) (subst (λ (xs : List Instance). AllByRecursion (IsTakenIn t.grants) xs) (sym i)
      (all_changed (IsTakenIn t.grants) q change (λ x is. subst (λ (d : Granted). (f : FileId) → same_file d.file f ≡ true → list_any (λ (g : Granted). same_file g.file f) t.grants ≡ true) (sym (same x)) is) t.instances a.taken));
}

released_apart : (t u : TreeState) (q : Instance → Bool) → u.instances ≡ without_first q t.instances → u.grants ≡ t.grants → Apart t → Apart u
released_apart t u q i g a = record {
  alone = subst AreAlone (sym i) (alone_without q t.instances a.alone);
  taken = subst (λ (gs : List Granted). AllByRecursion (IsTakenIn gs) u.instances) (sym g) (subst (λ (xs : List Instance). AllByRecursion (IsTakenIn t.grants) xs) (sym i) (all_without (IsTakenIn t.grants) q t.instances a.taken));
}

-- one grant more
more_taken : (gs : List Granted) (g : Granted) (xs : List Instance) → AllByRecursion (IsTakenIn gs) xs → AllByRecursion (IsTakenIn (gs ++ g ∷ [])) xs
more_taken gs g xs taken = all_then (IsTakenIn gs) (IsTakenIn (gs ++ g ∷ [])) (λ x is f same. any_more (λ (d : Granted). same_file d.file f) gs (g ∷ []) (is f same)) xs taken

granted_apart : (h : List Version) (t : TreeState) (g : Granted) (stamp : Option Stamp) (b : Bool) → (b ≡ true → AllByRecursion (λ (x : Instance). MayStandBy x (opened h g stamp)) t.instances) → Apart t
    → Apart (record t { grants = t.grants ++ g ∷ []; instances = cond b (t.instances ++ opened h g stamp ∷ []) t.instances })
granted_apart h t g stamp true by a = record {
  alone = alone_more t.instances (opened h g stamp) a.alone (by refl);
  taken = all_more (IsTakenIn (t.grants ++ g ∷ [])) t.instances (opened h g stamp) (more_taken t.grants g t.instances a.taken) (λ f same. any_last (λ (d : Granted). same_file d.file f) t.grants g same);
}
granted_apart h t g stamp false by a = record { alone = a.alone; taken = more_taken t.grants g t.instances a.taken }

-- ---- the tree of a trace ----

pub tree_is : (c : Config) (e d : EpochId) (g k : ℕ) (before : Trace) → d ≡ e → k ≡ g → tree_of c d k before ≡ tree_of c e g before
tree_is c e d g k before same group = ap (λ (x : EpochId). tree_of c x k before) same ∙ ap (λ (n : ℕ). tree_of c e n before) group

named_if : (b : Bool) (u t : TreeState) → u.epoch ≡ t.epoch → u.group ≡ t.group → ((cond b u t).epoch ≡ t.epoch) × ((cond b u t).group ≡ t.group)
named_if true u t e g = (e, g)
named_if false u t e g = (refl, refl)

-- a record leaves the epoch and the group of the tree as they are
named_next : (h : List Version) (t : TreeState) (r : Record) → ((next h r t).epoch ≡ t.epoch) × ((next h r t).group ≡ t.group)
named_next h t (says.Join s e m) = over (same_epoch e t.epoch)
  where
    over : (b : Bool) → ((cond b (joined s m t) (left s t)).epoch ≡ t.epoch) × ((cond b (joined s m t) (left s t)).group ≡ t.group)
    over true = (refl, refl)
    over false = (refl, refl)
named_next h t (says.Start e group copies) = named_if (same_epoch e t.epoch && (group == t.group)) (record t { started = true }) t refl refl
named_next h t (says.Grant e call request i m f stamp ss) = named_if (same_epoch e t.epoch) _ t refl refl
named_next h t (says.Refuse e call request i m f why) = named_if _ _ t refl refl
named_next h t (says.Act e i n o result) = named_if (same_epoch e t.epoch && is_granted_here t i) _ t refl refl
named_next h t (says.Release e i f stamp) = named_if (same_epoch e t.epoch && (f.group == t.group)) _ t refl refl
named_next h t r = (refl, refl)

pub tree_named : (c : Config) (e : EpochId) (g : ℕ) (before : Trace) → ((tree_of c e g before).epoch ≡ e) × ((tree_of c e g before).group ≡ g)
tree_named c e g [] = (refl, refl)
tree_named c e g (r ∷ before) =
    let k = named_next (history c before) (tree_of c e g before) r.what in
    let n = tree_named c e g before in
    (k.0 ∙ n.0, k.1 ∙ n.1)

module _ (c : Config) (e : EpochId) (group : ℕ) (before : Trace) where
  abbrev t : TreeState
  t = tree_of c e group before

  abbrev h : List Version
  h = history c before

  -- what is granted in this tree stands beside those that are open in it
  beside : (d : EpochId) (call : CallId) (i : Serial) (m : Mode) (f : FileId) (stamp : Option Stamp) (ss : ℕ) → Apart t → gives_grant h (tree_of c d f.group before) call i m f stamp ss ≡ true → same_epoch d t.epoch ≡ true → (f.group == t.group) ≡ true
      → AllByRecursion (λ (x : Instance). same_file x.grant.file f ≡ true → (is_read x.grant.mode ≡ true) × (is_read m ≡ true)) t.instances
  beside d call i m f stamp ss a gives same in_group =
      let named = tree_named c e group before in
      let is : tree_of c d f.group before ≡ t = tree_is c e d group f.group before (same_epoch_eq d t.epoch same ∙ named.0) (equal f.group t.group in_group ∙ named.1) in
      given_beside h t call f i m stamp ss a.taken (subst (λ (u : TreeState). gives_grant h u call i m f stamp ss ≡ true) is gives)

  next_apart : (r : Record) → MayCome c before r → Apart t → Apart (next h r t)
  next_apart (says.Grant d call request i m f stamp ss) may a = over (same_epoch d t.epoch) refl
    where
      g : Granted
      g = grant_of t call i m f ss

      over : (b : Bool) → same_epoch d t.epoch ≡ b → Apart (cond b (record t { grants = t.grants ++ g ∷ []; instances = cond (f.group == t.group) (t.instances ++ opened h g stamp ∷ []) t.instances }) t)
      over true b = granted_apart h t g stamp (f.group == t.group) (λ in_group. beside d call i m f stamp ss a may.gives b in_group) a
      over false b = a
  next_apart (says.Join s d m) may a = if_apart (same_epoch d t.epoch) (joined s m t) (left s t) (apart_as t (joined s m t) refl refl a) (apart_as t (left s t) refl refl a)
  next_apart (says.Start d k copies) may a = if_apart (same_epoch d t.epoch && (k == t.group)) (record t { started = true }) t (apart_as t (record t { started = true }) refl refl a) a
  next_apart (says.Refuse d call request i m f why) may a = if_apart (same_epoch d t.epoch && ((f.group == t.group) && is_make m)) (record t { makes = without_make call t.makes }) t (apart_as t (record t { makes = without_make call t.makes }) refl refl a) a
  next_apart (says.Act d i n o result) may a = if_apart (same_epoch d t.epoch && is_granted_here t i) _ t (changed_apart t _ (is_named i) (once_acted h t o result) (λ x. refl) refl refl a) a
  next_apart (says.Commit f s stamp parents content) may a = over (is_inside t s)
    where
      over : (b : Bool) → Apart (record t { copies = (next h (says.Commit f s stamp parents content) t).copies; instances = cond b (change_first (is_writer f s) (once_committed stamp) t.instances) t.instances })
      over true = changed_apart t _ (is_writer f s) (once_committed stamp) (λ x. refl) refl refl a
      over false = apart_as t _ refl refl a
  next_apart (says.Release d i f stamp) may a = if_apart (same_epoch d t.epoch && (f.group == t.group)) _ t (released_apart t _ (is_named i) refl refl a) a
  next_apart r may a = apart_as t (next h r t) refl refl a

pub rows_apart : (c : Config) (trace : Trace) → RowsAreLawful c trace → (e : EpochId) (group : ℕ) → Apart (tree_of c e group trace)
rows_apart c [] rows e group = record { alone = tt; taken = tt }
rows_apart c (r ∷ before) rows e group = next_apart c e group before r.what rows.0 (rows_apart c before rows.1 e group)
