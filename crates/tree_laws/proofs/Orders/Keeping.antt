-- While an open instance may change a file, the kept versions of the file stay.
use Rattle.std.proofs.Common.{◌≡◌, ℕ, ◌==◌, Bool, true, false, not, ◌&&◌, ◌||◌, cond, List, [], ◌∷◌, filter, map, Option, Some, None, refl, sym, ap, ◌∙◌, subst, arith, ◌⊎◌, inl, inr}
use Rattle.std.proofs.lemmas.Bool.Decides.{nat_tests}
use Rattle.std.specs.List.{AllByRecursion, find, list_any}
use Rattle.plain_facts.proofs.Numbers.{equal}
use Rattle.plain_facts.proofs.Options.{some_same}
use Rattle.plain_facts.proofs.Tests.{and_first, and_second, true_false}
use Rattle.locus_ids.specs.declared.config.Config.{Config}
use Rattle.locus_ids.specs.declared.ids.Brought.{Brought}
use Rattle.locus_ids.specs.declared.ids.EpochId.{EpochId}
use Rattle.locus_ids.specs.declared.ids.FileId.{FileId}
use Rattle.locus_ids.specs.declared.ids.Serial.{Serial}
use Rattle.locus_ids.specs.declared.ids.Stamp.{Stamp}
use Rattle.commit_graph.specs.declared.history.Version.{Version}
use Rattle.commit_graph.specs.Grants.{is_read}
use Rattle.commit_graph.specs.Versions.{is_covered, is_in, is_proper_ancestor, is_version, kept, same_file}
use Rattle.trace_book.specs.Same.{same_epoch}
use Rattle.trace_book.specs.declared.record.Record.{Record}
use Rattle.trace_book.specs.declared.record.Record.TheVariants as says
use Rattle.tree_model.specs.declared.copy.HeldCopy.{HeldCopy}
use Rattle.tree_model.specs.declared.instance.Instance.{Instance}
use Rattle.tree_model.specs.Folds.{Trace}
use Rattle.tree_model.specs.Given.{gives_release, instance_ends}
use Rattle.tree_model.specs.Histories.{history}
use Rattle.tree_model.specs.Packs.{has_pack}
use Rattle.tree_model.specs.Same.{same_brought, same_version}
use Rattle.tree_model.specs.State.{TreeState, instance_in, is_brought_below, is_granted_here, is_make, is_named, stamps_of, with_all, with_brought}
use Rattle.tree_model.specs.Tree.{acted, granted, grant_of, joined, kept_in, left, next, published, released, tree_of, with_root, without_make}
use Rattle.lawful_trace.specs.Lawful.{MayCome}
use Rattle.tree_laws.specs.Following.{RowsAreLawful}
use Rattle.tree_laws.proofs.Names.{same_epoch_eq, same_serial_eq}
use Rattle.tree_laws.specs.Orders.Alone.{AreAlone, MayStandBy}
use Rattle.tree_laws.specs.Orders.Keeping.{IsChanging, KeepsVersions, PassesBy}
use Rattle.tree_laws.proofs.Orders.Alone.{rows_apart, tree_is, tree_named}
use Rattle.tree_laws.specs.Orders.Joining.{PacksAreOfSites}
use Rattle.tree_laws.proofs.Orders.Joining.{no_pack_comes}
use Rattle.tree_laws.proofs.Orders.Started.{open_started}
use Rattle.lawful_trace.specs.SiteRows.{MayJoin}
use Rattle.tree_laws.proofs.Orders.Knowing.{rows_sound, tree_config}
use Rattle.tree_laws.proofs.Orders.Lists.{all_found}
use Rattle.tree_laws.proofs.Orders.Standing.{At, KnownStands, same_file_eq, same_stamp_eq}

-- ---- one version more in the history ----

-- none of these is the version
abbrev pub AreOthers : Version → FileId → List Stamp → Type 0
AreOthers v f ss = AllByRecursion (λ s. is_version f s v ≡ false) ss

ancestor_same : (v : Version) (h : List Version) (f : FileId) (a b : Stamp) → is_version f b v ≡ false → is_proper_ancestor (v ∷ h) f a b ≡ is_proper_ancestor h f a b
ancestor_same v h f a b other = rw other refl

covered_same : (v : Version) (h : List Version) (f : FileId) (ss : List Stamp) (a : Stamp) → AreOthers v f ss → is_covered (v ∷ h) f ss a ≡ is_covered h f ss a
covered_same v h f [] a others = refl
covered_same v h f (s ∷ ss) a others =
    ap (λ (b : Bool). b || list_any (is_proper_ancestor (v ∷ h) f a) ss) (ancestor_same v h f a s others.0)
    ∙ ap (λ (b : Bool). is_proper_ancestor h f a s || b) (covered_same v h f ss a others.1)

filter_same : {X : Type 0} (p q : X → Bool) → ((x : X) → p x ≡ q x) → (xs : List X) → filter p xs ≡ filter q xs
filter_same p q same [] = refl
filter_same p q same (x ∷ xs) = ap (λ (b : Bool). cond b (x ∷ filter p xs) (filter p xs)) (same x) ∙ ap (λ ys. cond (q x) (x ∷ ys) ys) (filter_same p q same xs)

pub kept_same : (v : Version) (h : List Version) (f : FileId) (ss : List Stamp) → AreOthers v f ss → kept (v ∷ h) f ss ≡ kept h f ss
kept_same v h f ss others = filter_same (λ a. not (is_covered (v ∷ h) f ss a)) (λ a. not (is_covered h f ss a)) (λ a. ap not (covered_same v h f ss a others)) ss

-- what stands is another version than a new one
pub others_stand : (v : Version) (h : List Version) (f : FileId) (s : Stamp) → is_in h v.file v.stamp ≡ false → is_in h f s ≡ true → is_version f s v ≡ false
others_stand v h f s new stands = at (is_version f s v) refl
  where
    is : is_version f s v ≡ true → is_in h v.file v.stamp ≡ true
    is e = subst (λ (g : FileId). is_in h g v.stamp ≡ true) (sym (same_file_eq v.file f (and_first (same_file v.file f) _ e))) (subst (λ (r : Stamp). is_in h f r ≡ true) (sym (same_stamp_eq v.stamp s (and_second (same_file v.file f) _ e))) stands)

    at : (b : Bool) → is_version f s v ≡ b → b ≡ false
    at true e = absurd (true_false (sym (is e) ∙ new))
    at false e = refl

pub all_others : (v : Version) (h : List Version) (g ino : ℕ) (known : List Brought) → is_in h v.file v.stamp ≡ false → AllByRecursion (KnownStands h g) known → AreOthers v (At g ino) (map (λ (b : Brought). b.stamp) (filter (λ (b : Brought). b.ino == ino) known))
all_others v h g ino [] new all = tt
all_others v h g ino (b ∷ bs) new all = at (b.ino == ino) refl (all_others v h g ino bs new all.1)
  where
    at : (k : Bool) → (b.ino == ino) ≡ k → AreOthers v (At g ino) (stamps_of bs ino) → AreOthers v (At g ino) (map (λ (y : Brought). y.stamp) (cond k (b ∷ filter (λ (y : Brought). y.ino == ino) bs) (filter (λ (y : Brought). y.ino == ino) bs)))
    at true e later = (others_stand v h (At g ino) b.stamp new (subst (λ (n : ℕ). is_in h (At g n) b.stamp ≡ true) (equal b.ino ino e) all.0), later)
    at false e later = later

-- ---- another file's version is published ----

stamps_same : (new : Brought) (ino : ℕ) (bs : List Brought) → (new.ino == ino) ≡ false → stamps_of (with_brought new bs) ino ≡ stamps_of bs ino
stamps_same new ino [] other = rw other refl
stamps_same new ino (b ∷ bs) other = at (is_brought_below new b) (same_brought new b) (stamps_same new ino bs other)
  where
    front : (k : Bool) → stamps_of (with_brought new bs) ino ≡ stamps_of bs ino
        → map (λ (y : Brought). y.stamp) (cond k (b ∷ filter (λ (y : Brought). y.ino == ino) (with_brought new bs)) (filter (λ (y : Brought). y.ino == ino) (with_brought new bs)))
        ≡ map (λ (y : Brought). y.stamp) (cond k (b ∷ filter (λ (y : Brought). y.ino == ino) bs) (filter (λ (y : Brought). y.ino == ino) bs))
    front true later = ap (λ ss. b.stamp ∷ ss) later
    front false later = later

    at : (a d : Bool) → stamps_of (with_brought new bs) ino ≡ stamps_of bs ino → stamps_of (cond a (new ∷ b ∷ bs) (cond d (b ∷ bs) (b ∷ with_brought new bs))) ino ≡ stamps_of (b ∷ bs) ino
    at true d later = rw other refl
    at false true later = refl
    at false false later = front (b.ino == ino) later

pub published_same : (f : FileId) (stamp : Option Stamp) (ino : ℕ) (known : List Brought) → (f.ino == ino) ≡ false → stamps_of (published f stamp known) ino ≡ stamps_of known ino
published_same f None ino known other = refl
published_same f (Some s) ino known other = stamps_same (record { ino = f.ino; stamp = s }) ino known other

-- ---- one of a file alone ----

-- two that are found stand by each other, or are one
pub stand_or_same : (xs : List Instance) (i j : Serial) (x y : Instance) → AreAlone xs → find (is_named i) xs ≡ Some x → find (is_named j) xs ≡ Some y → (MayStandBy x y) ⊎ ((MayStandBy y x) ⊎ (x ≡ y))
stand_or_same [] i j x y alone e k = absurd (none e)
  where
    none : ◌≡◌ {A = Option Instance} None (Some x) → ⊥
    none e = cc
stand_or_same (z ∷ zs) i j x y alone e k = at (is_named i z) (is_named j z) e k (stand_or_same zs i j x y alone.1)
  where
    at : (a b : Bool) → cond a (Some z) (find (is_named i) zs) ≡ Some x → cond b (Some z) (find (is_named j) zs) ≡ Some y
        → (find (is_named i) zs ≡ Some x → find (is_named j) zs ≡ Some y → (MayStandBy x y) ⊎ ((MayStandBy y x) ⊎ (x ≡ y))) → (MayStandBy x y) ⊎ ((MayStandBy y x) ⊎ (x ≡ y))
    at true true e k later = inr (inr (sym (some_same z x e) ∙ some_same z y k))
    at true false e k later = inl (subst (λ (w : Instance). MayStandBy w y) (some_same z x e) (all_found (MayStandBy z) (is_named j) zs y alone.0 k))
    at false true e k later = inr (inl (subst (λ (w : Instance). MayStandBy w x) (some_same z y k) (all_found (MayStandBy z) (is_named i) zs x alone.0 e)))
    at false false e k later = later e k

own_file : (f : FileId) → same_file f f ≡ true
own_file f = grind (arith, nat_tests)

found_name : (i : Serial) (xs : List Instance) (x : Instance) → find (is_named i) xs ≡ Some x → x.grant.inst ≡ i
found_name i [] x e = absurd (none e)
  where
    none : ◌≡◌ {A = Option Instance} None (Some x) → ⊥
    none e = cc
found_name i (y ∷ ys) x e = at (is_named i y) refl e (found_name i ys x)
  where
    at : (b : Bool) → is_named i y ≡ b → cond b (Some y) (find (is_named i) ys) ≡ Some x → (find (is_named i) ys ≡ Some x → x.grant.inst ≡ i) → x.grant.inst ≡ i
    at true k e later = subst (λ (z : Instance). z.grant.inst ≡ i) (some_same y x e) (same_serial_eq y.grant.inst i k)
    at false k e later = later e

-- beside one that may change its file no other of the file is open
pub changes_alone : (xs : List Instance) (i j : Serial) (x y : Instance) → AreAlone xs → find (is_named i) xs ≡ Some x → find (is_named j) xs ≡ Some y → x.grant.file ≡ y.grant.file → is_read x.grant.mode ≡ false → j ≡ i
changes_alone xs i j x y alone e k same writes = over (stand_or_same xs i j x y alone e k)
  where
    files : same_file x.grant.file y.grant.file ≡ true
    files = subst (λ (g : FileId). same_file x.grant.file g ≡ true) same (own_file x.grant.file)

    back : same_file y.grant.file x.grant.file ≡ true
    back = subst (λ (g : FileId). same_file g x.grant.file ≡ true) same (own_file x.grant.file)

    over : (MayStandBy x y) ⊎ ((MayStandBy y x) ⊎ (x ≡ y)) → j ≡ i
    over (inl by) = absurd (true_false (sym (by files).0 ∙ writes))
    over (inr (inl by)) = absurd (true_false (sym (by back).1 ∙ writes))
    over (inr (inr is)) = sym (found_name j xs y k) ∙ (ap (λ (z : Instance). z.grant.inst) (sym is) ∙ found_name i xs x e)

-- ---- record by record ----

abbrev known_stamps : FileId → TreeState → List Stamp
known_stamps f t = stamps_of t.known f.ino

known_if : (f : FileId) (b : Bool) (u t : TreeState) → (b ≡ true → known_stamps f u ≡ known_stamps f t) → known_stamps f (cond b u t) ≡ known_stamps f t
known_if f true u t e = e refl
known_if f false u t e = refl

-- what a release that may come publishes leaves what is known of the file as it is
abbrev pub PublishesNothing : Config → Trace → EpochId → FileId → Serial → Type 0
PublishesNothing c before e f i = (d : EpochId) (j : Serial) (g : FileId) (stamp : Option Stamp) → gives_release (history c before) (tree_of c d g.group before) j g stamp ≡ true → PassesBy c before e f i (says.Release d j g stamp)
    → same_epoch d (tree_of c e f.group before).epoch && (g.group == (tree_of c e f.group before).group) ≡ true → stamps_of (published g stamp (tree_of c e f.group before).known) f.ino ≡ stamps_of (tree_of c e f.group before).known f.ino

-- what may be released in a tree is open in it, and is released with what it committed
pub record EndsIn (c : Config) (before : Trace) (e : EpochId) (f : FileId) (d : EpochId) (j : Serial) (g : FileId) (stamp : Option Stamp) : Type 0 where
  pub ended : Instance
  pub found : instance_in (tree_of c e f.group before) j ≡ Some ended
  pub file_is : ended.grant.file ≡ g
  pub group_is : g.group ≡ f.group
  pub epoch_is : d ≡ e
  pub made : same_version stamp ended.work.committed ≡ true

pub ends_in : (c : Config) (before : Trace) (e : EpochId) (f : FileId) (d : EpochId) (j : Serial) (g : FileId) (stamp : Option Stamp) → gives_release (history c before) (tree_of c d g.group before) j g stamp ≡ true
    → same_epoch d (tree_of c e f.group before).epoch && (g.group == (tree_of c e f.group before).group) ≡ true → EndsIn c before e f d j g stamp
ends_in c before e f d j g stamp gives same = of (instance_in t j) refl (subst (λ (u : TreeState). gives_release (history c before) u j g stamp ≡ true) (tree_is c e d f.group g.group before epoch_is group_is) gives)
  where
    t : TreeState
    t = tree_of c e f.group before

    epoch_is : d ≡ e
    epoch_is = same_epoch_eq d (tree_of c e f.group before).epoch (and_first (same_epoch d (tree_of c e f.group before).epoch) _ same) ∙ (tree_named c e f.group before).0

    group_is : g.group ≡ f.group
    group_is = equal g.group (tree_of c e f.group before).group (and_second (same_epoch d (tree_of c e f.group before).epoch) _ same) ∙ (tree_named c e f.group before).1

    of : (o : Option Instance) → instance_in (tree_of c e f.group before) j ≡ o → instance_ends (history c before) (tree_of c e f.group before) g stamp o ≡ true → EndsIn c before e f d j g stamp
    of None k h = absurd (true_false (sym h))
    of (Some w) k h = record {
      ended = w;
      found = k;
      file_is = same_file_eq w.grant.file g (and_first (same_file w.grant.file g) _ h);
      group_is = group_is;
      epoch_is = epoch_is;
      made = and_first (same_version stamp w.work.committed) _ (and_second (same_file w.grant.file g) _ h);
    }

-- a file that has the group and the inode of another is that one
pub file_eq : (g f : FileId) → g.group ≡ f.group → g.ino ≡ f.ino → g ≡ f
file_eq g f a b = (λ q. record { group = a q; ino = b q })

-- beside an open instance that changes the file no other is released
pub changing_publishes_nothing : (c : Config) (before : Trace) → RowsAreLawful c before → (e : EpochId) (f : FileId) (i : Serial) (x : Instance) → IsChanging c before e f i x → PublishesNothing c before e f i
changing_publishes_nothing c before rows e f i x changing d j g stamp gives passes same = at (ends_in c before e f d j g stamp gives same) (g.ino == f.ino) refl
  where
    at : EndsIn c before e f d j g stamp → (b : Bool) → (g.ino == f.ino) ≡ b → stamps_of (published g stamp (tree_of c e f.group before).known) f.ino ≡ stamps_of (tree_of c e f.group before).known f.ino
    at w false k = published_same g stamp f.ino (tree_of c e f.group before).known k
    at w true k = absurd (passes w.epoch_is (changes_alone (tree_of c e f.group before).instances i j x w.ended (rows_apart c before rows e f.group).alone changing.found w.found
        (changing.file_is ∙ (sym (file_eq g f w.group_is (equal g.ino f.ino k)) ∙ sym w.file_is)) changing.writes))

-- the record publishes nothing of the file
abbrev pub PublishesNone : Config → Trace → EpochId → FileId → Record → Type 0
PublishesNone c before e f (says.Release d j g stamp) = same_epoch d (tree_of c e f.group before).epoch && (g.group == (tree_of c e f.group before).group) ≡ true → stamps_of (published g stamp (tree_of c e f.group before).known) f.ino ≡ stamps_of (tree_of c e f.group before).known f.ino
PublishesNone c before e f _ = Unit {0}

-- a commit has a stamp that its file has in no older version
abbrev pub IsNew : Config → Trace → Record → Type 0
IsNew c before (says.Commit g site stamp parents content) = is_in (history c before) g stamp ≡ false
IsNew c before _ = Unit {0}

pub passes_new : (c : Config) (before : Trace) (e : EpochId) (f : FileId) (i : Serial) (r : Record) → PassesBy c before e f i r → IsNew c before r
passes_new c before e f i (says.Commit g site stamp parents content) passes = passes
passes_new c before e f i r passes = tt

pub passes_none : (c : Config) (before : Trace) (e : EpochId) (f : FileId) (i : Serial) → PublishesNothing c before e f i → (r : Record) → MayCome c before r → PassesBy c before e f i r → PublishesNone c before e f r
passes_none c before e f i calm (says.Release d j g stamp) may passes = λ same. calm d j g stamp may.gives passes same
passes_none c before e f i calm r may passes = tt

-- once the group has started what is kept stays, but for what is published
module _ (c : Config) (before : Trace) (few : PacksAreOfSites c) (rows : RowsAreLawful c before) (e : EpochId) (f : FileId) (started : (tree_of c e f.group before).started ≡ true) where
  abbrev t : TreeState
  t = tree_of c e f.group before

  abbrev h : List Version
  h = history c before

  named : (t.epoch ≡ e) × (t.group ≡ f.group)
  named = tree_named c e f.group before

  -- the versions that the tree knows of the file stay
  pub known_same : (r : Record) → MayCome c before r → PublishesNone c before e f r → known_stamps f (next h r t) ≡ known_stamps f t
  known_same (says.Join s d m) may passes = over (same_epoch d t.epoch) refl
    where
      brings : same_epoch d t.epoch ≡ true → has_pack t.config t.group s ≡ false
      brings b = subst (λ (k : Config). has_pack k t.group s ≡ false) (sym (tree_config c e f.group before)) (subst (λ (g : ℕ). has_pack c g s ≡ false) (sym named.1)
          (no_pack_comes c before few rows e f.group s m started (subst (λ (y : EpochId). MayJoin c before s y m) (same_epoch_eq d t.epoch b ∙ named.0) may)))

      over : (b : Bool) → same_epoch d t.epoch ≡ b → known_stamps f (cond b (joined s m t) (left s t)) ≡ known_stamps f t
      over true b = ap (λ (k : Bool). stamps_of (cond k (with_all (filter (λ (y : HeldCopy). y.site == s) (with_root t s)) t.known) t.known) f.ino) (brings b)
      over false b = refl
  known_same (says.Start d k copies) may passes = known_if f (same_epoch d t.epoch && (k == t.group)) (record t { started = true }) t (λ b. refl)
  known_same (says.Grant d call request j m g stamp ss) may passes = known_if f (same_epoch d t.epoch) (granted h (grant_of t call j m g ss) stamp t) t (λ b. refl)
  known_same (says.Refuse d call request j m g why) may passes = known_if f (same_epoch d t.epoch && ((g.group == t.group) && is_make m)) (record t { makes = without_make call t.makes }) t (λ b. refl)
  known_same (says.Act d j n o result) may passes = known_if f (same_epoch d t.epoch && is_granted_here t j) (acted h j o result t) t (λ b. refl)
  known_same (says.Release d j g stamp) may passes = known_if f (same_epoch d t.epoch && (g.group == t.group)) (released j g stamp t) t passes
  known_same r may passes = refl

  -- and so do those of them that are kept
  pub kept_by : (line : ℕ) (r : Record) → MayCome c before r → IsNew c before r → PublishesNone c before e f r → kept_in c (record { line = line; what = r } ∷ before) e f ≡ kept_in c before e f
  kept_by line (says.Commit g site stamp parents content) may new passes = kept_same v h f (known_stamps f t) (all_others v h f.group f.ino t.known new stands)
    where
      v : Version
      v = record { file = g; site = site; stamp = stamp; parents = parents; content = content }

      stands : AllByRecursion (KnownStands h f.group) t.known
      stands = subst (λ (k : ℕ). AllByRecursion (KnownStands h k) t.known) named.1 (rows_sound c before rows e f.group).known
  kept_by line r may new passes = ap (λ (ss : List Stamp). kept h f ss) (known_same r may passes)

pub versions_kept : (c : Config) (line : ℕ) (r : Record) (before : Trace) → PacksAreOfSites c → MayCome c before r → RowsAreLawful c before → KeepsVersions c line r before
versions_kept c line r before few may rows e f i x changing passes = kept_by c before few rows e f (open_started c before rows e f.group i x changing.found) line r may (passes_new c before e f i r passes) (passes_none c before e f i (changing_publishes_nothing c before rows e f i x changing) r may passes)
