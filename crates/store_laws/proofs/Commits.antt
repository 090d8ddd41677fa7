-- A commit at its storage site: it comes as it may, the copy is then what the site holds, and the instance goes on as the tree's.
use Rattle.std.proofs.Common.{◌≡◌, ℕ, ◌+◌, ◌*◌, ◌<◌, ◌≤◌, ◌==◌, Bool, true, false, not, cond, ◌&&◌, ◌||◌, filter, List, [], ◌∷◌, length, max, replicate, Option, Some, None, refl, sym, ◌∙◌, ap, subst, arith, ◌⊎◌, inl, inr}
use Rattle.std.specs.List.{find}
use Rattle.std.specs.List.{list_any}
use Rattle.wire_messages.specs.declared.body.Opening.TheVariants as how
use Rattle.role_steps.specs.Views.{serial_key}
use Rattle.tree_model.specs.Files.{committing}
use Rattle.tree_model.specs.Lists.{put_first}
use Rattle.tree_model.specs.Opening.{is_new_file, is_placed, is_site, making_site}
use Rattle.tree_model.specs.State.{copy_of as copy_of_site, held_at, held_of, is_copy_of, with_copy as with_held}
use Rattle.tree_model.specs.Tree.{copy_now}
use Rattle.tree_model.specs.State.{kept_of}
use Rattle.tree_laws.specs.Past.{GrantRecord, Printed, WasGranted}
use Rattle.tree_laws.specs.Stores.{IsMaker, PlainLies}
use Rattle.tree_laws.proofs.Grants.{open_named}
use Rattle.tree_laws.proofs.Kinship.{tree_group_is}
use Rattle.tree_laws.proofs.Serials.{unnamed}
use Rattle.tree_laws.proofs.Orders.Keeping.{changes_alone}
use Rattle.store_laws.proofs.Beginning.{given_parts}
use Rattle.store_laws.proofs.Holding.{versions_same}
use Rattle.store_laws.proofs.Makers.{lies_stay}
use Rattle.store_laws.proofs.Places.{open_is}
use Rattle.store_laws.proofs.Ranges.{given_range, range_narrow}
use Rattle.store_laws.proofs.Staying.{instance_more}
use Rattle.std.specs.Option.{is_none, option_map, option_or}
use Rattle.std.proofs.lemmas.Bool.Decides.{nat_tests}
use Rattle.role_steps.proofs.of_plain_facts.Numbers.{equal_self}
use Rattle.role_steps.proofs.of_plain_facts.Tests.{and_first, and_second, and_true, or_second, true_false}
use Rattle.locus_ids.specs.declared.config.Config.{Config}
use Rattle.locus_ids.specs.declared.ids.CallId.{CallId}
use Rattle.locus_ids.specs.declared.ids.EpochId.{EpochId}
use Rattle.locus_ids.specs.declared.ids.FileId.{FileId}
use Rattle.locus_ids.specs.declared.ids.Kind.TheVariants.{Dir}
use Rattle.locus_ids.specs.declared.ids.Mode.{Mode}
use Rattle.locus_ids.specs.declared.ids.Mode.TheVariants as mode
use Rattle.locus_ids.specs.declared.ids.Serial.{Serial}
use Rattle.locus_ids.specs.declared.ids.Stamp.{Stamp}
use Rattle.locus_ids.specs.Sizes.{inode_span, sites_max}
use Rattle.version_vector.specs.Counters.{part}
use Rattle.commit_graph.specs.Grants.{is_read}
use Rattle.commit_graph.specs.Vectors.{vector_of}
use Rattle.commit_graph.specs.Versions.{content_of as version_content, is_ancestor, is_in, is_version, same_file, same_stamp}
use Rattle.commit_graph.specs.declared.history.Version.{Version}
use Rattle.trace_book.specs.declared.record.Record.TheVariants as says
use Rattle.file_effects.specs.Works.{committed}
use Rattle.file_effects.specs.declared.work.Work.{Work}
use Rattle.role_steps.specs.Storage.{commit_record, copy_key, copy_made, copy_of, instance_committed, instance_key, next_stamp, next_vector, with_commit}
use Rattle.role_steps.specs.Views.{Frame, Store, Told, Shown, file_key}
use Rattle.role_steps.specs.declared.instances.Instance.{Instance}
use Rattle.the_run.specs.Worlds.{Line}
use Rattle.tree_model.specs.declared.instance.Instance.{Instance as Open}
use Rattle.tree_model.specs.Epochs.{epoch_of, is_in as is_of_epoch}
use Rattle.trace_book.specs.declared.record.Record.{Record}
use Rattle.tree_model.specs.Folds.{Trace}
use Rattle.tree_model.specs.Files.{committing_in, first_call, held_version, kind_made, kind_of_file, set_of_file, version_of, words_named}
use Rattle.tree_model.specs.Histories.{history, held}
use Rattle.tree_model.specs.Lists.{change_first}
use Rattle.tree_model.specs.Opening.{is_given_by, sites_made}
use Rattle.tree_model.specs.Packs.{packs_of}
use Rattle.tree_model.specs.State.{TreeState, instance_in, is_inside, is_named, is_writer}
use Rattle.tree_model.specs.Tree.{once_committed, tree_of}
use Rattle.tree_model.specs.Working.{merges}
use Rattle.lawful_trace.specs.TreeRows.{granted_group, is_writing}
use Rattle.tree_laws.specs.Printed.{entries}
use Rattle.tree_laws.specs.Doing.{FrameFact, StoreHeld}
use Rattle.tree_laws.specs.Following.{MayTell, IsFollowed}
use Rattle.tree_laws.specs.Frames.{AllStay, VersionsStay}
use Rattle.tree_laws.specs.Instances.{held_in, HasAtLeast, IsOpenAt, Stands}
use Rattle.tree_laws.specs.Packets.{JoinsParents}
use Rattle.tree_laws.specs.Past.{WasShut}
use Rattle.tree_laws.specs.Stores.{CopiesAreHeld, InstanceFact, LiesAs, WorksAs, copy_for}
use Rattle.tree_laws.proofs.Names.{same_epoch_own}
use Rattle.tree_laws.proofs.Owing.{inside_is}
use Rattle.tree_laws.proofs.Rows.{followed_rows}
use Rattle.tree_laws.proofs.Versions.{versions_stay}
use Rattle.tree_laws.specs.Orders.Joining.{PacksAreOfSites}
use Rattle.tree_laws.proofs.Orders.Alone.{rows_apart}
use Rattle.tree_laws.proofs.Orders.Standing.{newest, same_file_eq}
use Rattle.store_laws.specs.Rests.{StoreRests}
use Rattle.store_laws.proofs.Holding.{held_stands}
use Rattle.store_laws.proofs.Raising.{first_writer, next_numbered, one_writes, vector_written, writer_changed, zeros}
use Rattle.store_laws.proofs.Runs.{found_in, open_group}
use Rattle.store_laws.proofs.Tabled.{ascends_row, row_other, row_same}

pub file_own : (f : FileId) → same_file f f ≡ true
file_own f = grind (arith, nat_tests)

stamp_own : (s : Stamp) → same_stamp s s ≡ true
stamp_own s = grind (arith, nat_tests)

pub put_found : {A : Type 0} (p : A → Bool) (new : A) (xs : List A) → p new ≡ true → find p (put_first p new xs) ≡ Some new
put_found p new [] e = rw e refl
put_found p new (x ∷ xs) e = at (put_found p new xs e) (p x) refl
  where
    at : find p (put_first p new xs) ≡ Some new → (b : Bool) → p x ≡ b → find p (cond b (new ∷ xs) (x ∷ put_first p new xs)) ≡ Some new
    at later true t = rw e refl
    at later false t = rw t later

above_one : (site ino : ℕ) → is_given_by site ino ≡ true → (ino == 1) ≡ false
above_one site ino e = grind (arith, nat_tests)

pub keys_same : (a b : FileId) → a.ino < inode_span → b.ino < inode_span → file_key a ≡ file_key b → same_file a b ≡ true
keys_same a b low narrow e = and_true (a.group == b.group) (a.ino == b.ino) (subst (λ (n : ℕ). (a.group == n) ≡ true) (groups a.group b.group a.ino b.ino low narrow e) (equal_self a.group)) (subst (λ (n : ℕ). (a.ino == n) ≡ true) (numbers a.group b.group a.ino b.ino low narrow e) (equal_self a.ino))
  where
    groups : (g h i j : ℕ) → i < inode_span → j < inode_span → g * inode_span + i ≡ h * inode_span + j → g ≡ h
    groups g h i j l m k = omega (arith, l, m, k)

    numbers : (g h i j : ℕ) → i < inode_span → j < inode_span → g * inode_span + i ≡ h * inode_span + j → i ≡ j
    numbers g h i j l m k = omega (arith, l, m, k)

-- the kind and the set of its file, and its number
record LiesNow (c : Config) (trace : List Line) (i : Instance) : Type 0 where
  kind_is : kind_of_file c (entries trace) i.file ≡ i.kind
  set_is : set_of_file c (entries trace) i.file ≡ i.set
  narrow : i.file.ino < inode_span

-- a granted make is of a number of its site
granted_number : (c : Config) (trace : List Line) → IsFollowed c trace → (e : EpochId) (d : CallId) (request : ℕ) (i : Serial) (f : FileId) (stamp : Option Stamp) (ss : ℕ) → WasGranted trace e d request i mode.Make f stamp ss → is_given_by ss f.ino ≡ true
granted_number c [] h e d request i f stamp ss g = absurd g
granted_number c (y ∷ older) h e d request i f stamp ss (inr g) = granted_number c older h.1 e d request i f stamp ss g
granted_number c (y ∷ older) h e d request i f stamp ss (inl g) = now y.told h.0 g
  where
    number : (hs : List Version) (t : TreeState) (call : CallId) (file : FileId) (on : Option Stamp) (place : ℕ) → is_placed hs t call mode.Make file on place ≡ true → is_given_by place file.ino ≡ true
    number hs t call file on place e = and_first (is_given_by place file.ino) _ (and_second (is_site (making_site t call) place) _ (and_first (is_new_file t call file place) (is_none on) e))

    now : (z : Told) → MayTell c older z → Printed (GrantRecord e d request i mode.Make f stamp ss) older z → is_given_by ss f.ino ≡ true
    now (Shown (says.Grant at call n inst m file on place)) may p = subst (λ (y : ℕ). is_given_by y f.ino ≡ true) p.place_is (subst (λ (y : FileId). is_given_by place y.ino ≡ true) p.file_is
        (number (history c (entries older)) (tree_of c at file.group (entries older)) call file on place (subst (λ (k : Mode). is_placed (history c (entries older)) (tree_of c at file.group (entries older)) call k file on place ≡ true) p.mode_is
        (given_parts (history c (entries older)) (tree_of c at file.group (entries older)) call inst m file on place may.row.gives).placed)))
    now _ may p = absurd p

-- a file without versions has no first commit
none_after : (c : Config) (before : Trace) (f : FileId) (n : ℕ) (z : Record) → (((s : Stamp) → is_in (history c before) f s ≡ true → ⊥) → first_call c before f ≡ None) → ((s : Stamp) → is_in (history c (record { line = n; what = z } ∷ before)) f s ≡ true → ⊥) → first_call c (record { line = n; what = z } ∷ before) f ≡ None
none_after c before f n (says.Commit g site stamp parents content) older off = ap (λ (o : Option CallId). option_or o (cond (same_file g f) (option_map (λ (x : Open). x.grant.call) (committing c before f site)) None)) (older (λ s e. off s (or_second _ _ e))) ∙ over (same_file g f) refl
  where
    over : (b : Bool) → same_file g f ≡ b → cond b (option_map (λ (x : Open). x.grant.call) (committing c before f site)) None ≡ None
    over true e = absurd (off stamp (newest (record { file = g; site = site; stamp = stamp; parents = parents; content = content }) (history c before) f stamp (same_file_eq g f e) refl))
    over false e = refl
none_after c before f n _ older off = older off

none_first : (c : Config) (before : Trace) (f : FileId) → ((s : Stamp) → is_in (history c before) f s ≡ true → ⊥) → first_call c before f ≡ None
none_first c [] f off = refl
none_first c (r ∷ before) f off = none_after c before f r.line r.what (none_first c before f) off

module _ (c : Config) (n : ℕ) (trace : List Line) (few : PacksAreOfSites c) (h : IsFollowed c trace) (rests : StoreRests c trace) (f : Frame) (frame : FrameFact c trace f) (s : Store) (kept : StoreHeld c f trace s) (i : Instance) (k : InstanceFact c trace f i) (x : Open) (w : WorksAs c trace f i x) (unshut : WasShut trace f.me f.epoch i.inst → ⊥) (owes : i.work.owes ≡ true) (writes : is_read i.mode ≡ false) where
  abbrev vector : List ℕ
  vector = next_vector f i

  abbrev stamp : Stamp
  stamp = next_stamp f (next_vector f i)

  abbrev told : Told
  told = Shown (commit_record f i (next_stamp f (next_vector f i)))

  abbrev after : List Line
  after = record { number = n; told = Shown (commit_record f i (next_stamp f (next_vector f i))) } ∷ trace

  abbrev tree : TreeState
  tree = tree_of c f.epoch i.file.group (entries trace)

  low : 1 ≤ f.me
  low = (rests.places f.epoch f.me frame.inside).0

  high : f.me ≤ sites_max
  high = (rests.places f.epoch f.me frame.inside).1

  -- ---- it comes as it may ----

  found : instance_in tree i.inst ≡ Some x
  found = found_in c trace f.epoch i.inst x i.file.group w.open_at.found (ap (λ (y : FileId). y.group) w.file_is)

  writing : is_writing i.file x ≡ true
  writing = and_true (same_file x.grant.file i.file) (not (is_read x.grant.mode)) (subst (λ (y : FileId). same_file y i.file ≡ true) (sym w.file_is) (file_own i.file)) (ap not (ap is_read w.mode_is ∙ writes))

  writer : is_writer i.file f.me x ≡ true
  writer = and_true (same_file x.grant.file i.file) ((x.grant.ss == f.me) && not (is_read x.grant.mode)) (subst (λ (y : FileId). same_file y i.file ≡ true) (sym w.file_is) (file_own i.file))
      (and_true (x.grant.ss == f.me) (not (is_read x.grant.mode)) (subst (λ (y : ℕ). (y == f.me) ≡ true) (sym w.open_at.place) (equal_self f.me)) (ap not (ap is_read w.mode_is ∙ writes)))

  one : filter (is_writing i.file) tree.instances ≡ x ∷ []
  one = one_writes i.file (is_named i.inst) tree.instances x (rows_apart c (entries trace) (followed_rows c trace h) f.epoch i.file.group).alone found writing

  pub may_commit : MayTell c trace (Shown (commit_record f i (next_stamp f (next_vector f i))))
  may_commit = record {
    row = record {
      epoch = f.epoch;
      inside = frame.inside;
      instance = x;
      one = one;
      at = w.open_at.place;
      owes = ap (λ (y : Work). y.owes) w.work_is ∙ owes;
      same = ap (λ (y : Work). y.content) (sym w.work_is);
      above = w.parents_are;
      numbered = λ j. record { site = f.me; n = next_numbered c trace i.file f.me i.parents i.vector low high k.vector_is j };
    };
    in_time = record {
      epoch = f.epoch;
      inside = frame.inside;
      inst = i.inst;
      at = x;
      open_at = w.open_at;
      file_is = w.file_is;
      owes = ap (λ (y : Work). y.owes) w.work_is ∙ owes;
      runs = record { begun = k.begun; not_shut = unshut };
    };
  }

  -- ---- the instance goes on ----

  abbrev now : Open
  now = once_committed (next_stamp f (next_vector f i)) x

  inside : is_inside tree f.me ≡ true
  inside = inside_is c (entries trace) f.epoch i.file.group f.me ∙ (ap (λ (o : Option EpochId). is_of_epoch o f.epoch) frame.inside ∙ same_epoch_own f.epoch)

  found_now : find (is_named i.inst) (cond (is_inside tree f.me) (change_first (is_writer i.file f.me) (once_committed (next_stamp f (next_vector f i))) tree.instances) tree.instances) ≡ Some now
  found_now = ap (λ (b : Bool). find (is_named i.inst) (cond b (change_first (is_writer i.file f.me) (once_committed (next_stamp f (next_vector f i))) tree.instances) tree.instances)) inside
      ∙ writer_changed i.file f.me (is_named i.inst) (once_committed (next_stamp f (next_vector f i))) (λ y. refl) tree.instances x one writer found

  group : granted_group (entries trace) f.epoch i.inst ≡ i.file.group
  group = sym (open_group c trace f.epoch i.inst x w.open_at.found) ∙ ap (λ (y : FileId). y.group) w.file_is

  open_now : IsOpenAt c after f.epoch i.inst f.me now
  open_now = record { found = subst (λ (g : ℕ). instance_in (tree_of c f.epoch g (entries after)) i.inst ≡ Some now) (sym group) found_now; place = w.open_at.place }

  pub works_now : WorksAs c after f (instance_committed i (next_vector f i) (next_stamp f (next_vector f i))) now
  works_now = record {
    open_at = open_now;
    file_is = w.file_is;
    mode_is = w.mode_is;
    work_is = ap (committed (next_stamp f (next_vector f i))) w.work_is;
    parents_are = over (merges x.grant.mode);
  }
    where
      over : (b : Bool) → next_stamp f (next_vector f i) ∷ [] ≡ cond (b && false) (kept_of (history c (entries after)) (tree_of c f.epoch i.file.group (entries after)) x.grant.file) (next_stamp f (next_vector f i) ∷ [])
      over true = refl
      over false = refl

  -- ---- the version ----

  pub written : next_vector f i ≡ vector_of (history c (entries after)) i.file (next_stamp f (next_vector f i))
  written = vector_written c trace i.file f.me i.parents i.vector (next_stamp f (next_vector f i)) i.work.content low high k.vector_is

  pub stands_now : Stands c after i.file (next_stamp f (next_vector f i))
  stands_now = newest (record { file = i.file; site = f.me; stamp = next_stamp f (next_vector f i); parents = i.parents; content = i.work.content }) (history c (entries trace)) i.file (next_stamp f (next_vector f i)) refl refl

  own_version : is_version i.file (next_stamp f (next_vector f i)) (record { file = i.file; site = f.me; stamp = next_stamp f (next_vector f i); parents = i.parents; content = i.work.content }) ≡ true
  own_version = and_true (same_file i.file i.file) (same_stamp (next_stamp f (next_vector f i)) (next_stamp f (next_vector f i))) (file_own i.file) (stamp_own (next_stamp f (next_vector f i)))

  pub content_now : version_content (history c (entries after)) i.file (next_stamp f (next_vector f i)) ≡ i.work.content
  content_now = ap (λ (b : Bool). cond b i.work.content (version_content (history c (entries trace)) i.file (next_stamp f (next_vector f i)))) own_version

  pub joins_now : JoinsParents c after i.file (next_stamp f (next_vector f i) ∷ []) (next_vector f i)
  joins_now = (replicate sites_max 0, stands_now, (zeros sites_max, refl), parts, long)
    where
      no_more : (a b : ℕ) → b ≡ 0 → a ≡ max a b
      no_more a b e = grind (arith, nat_tests)

      parts : (t : ℕ) → part (next_vector f i) t ≡ max (part (vector_of (history c (entries after)) i.file (next_stamp f (next_vector f i))) t) (part (replicate sites_max 0) t)
      parts t = ap (λ (v : List ℕ). part v t) written ∙ no_more (part (vector_of (history c (entries after)) i.file (next_stamp f (next_vector f i))) t) (part (replicate sites_max 0) t) (zeros sites_max t)

      long : length (next_vector f i) ≡ sites_max
      long = ap length written

  pub has_now : HasAtLeast c after f.epoch f.me i.file (next_stamp f (next_vector f i))
  has_now = record { now = next_stamp f (next_vector f i); held = held_now; above = above }
    where
      above : is_ancestor (history c (entries after)) i.file (next_stamp f (next_vector f i)) (next_stamp f (next_vector f i)) ≡ true
      above = ap (λ (b : Bool). cond b (same_stamp (next_stamp f (next_vector f i)) (next_stamp f (next_vector f i)) || list_any (is_ancestor (history c (entries trace)) i.file (next_stamp f (next_vector f i))) i.parents) (is_ancestor (history c (entries trace)) i.file (next_stamp f (next_vector f i)) (next_stamp f (next_vector f i)))) own_version
          ∙ ap (λ (b : Bool). b || list_any (is_ancestor (history c (entries trace)) i.file (next_stamp f (next_vector f i))) i.parents) (stamp_own (next_stamp f (next_vector f i)))

      group_test : (i.file.group == tree.group) ≡ true
      group_test = subst (λ (g : ℕ). (i.file.group == g) ≡ true) (sym (tree_group_is c f.epoch i.file.group (entries trace))) (equal_self i.file.group)

      held_now : held_in c (entries after) f.epoch f.me i.file ≡ Some (next_stamp f (next_vector f i))
      held_now = ap (λ (b : Bool). held_of (copy_of_site (cond b (with_held (copy_now tree f.me i.file.ino (next_stamp f (next_vector f i))) tree.copies) tree.copies) f.me i.file.ino)) group_test
          ∙ (ap held_of (put_found (is_copy_of f.me i.file.ino) (copy_now tree f.me i.file.ino (next_stamp f (next_vector f i))) tree.copies (and_true (f.me == f.me) (i.file.ino == i.file.ino) (equal_self f.me) (equal_self i.file.ino)))
          ∙ ap (λ (b : Bool). cond b (Some (next_stamp f (next_vector f i))) (held_at tree f.me i.file.ino)) inside)

  -- ---- the file ----

  pub committing_is : committing c (entries trace) i.file f.me ≡ Some x
  committing_is = ap (committing_in c (entries trace) i.file f.me) frame.inside ∙ first_writer i.file f.me tree.instances x one writer

  -- the versions that stood stay, where the line leaves them
  module _ (stay : AllStay c trace after told) where
    versions : VersionsStay c trace after
    versions = versions_stay c n told trace h may_commit stay.fresh stay.order

    -- the first version of a make's file is by the call that made it
    first_now : (d : CallId) → x.grant.call ≡ d → (first_call c (entries trace) i.file ≡ None) ⊎ (first_call c (entries trace) i.file ≡ Some d) → first_call c (entries after) i.file ≡ Some d
    first_now d is (inl none) = ap (λ (o : Option CallId). option_or o (cond (same_file i.file i.file) (option_map (λ (y : Open). y.grant.call) (committing c (entries trace) i.file f.me)) None)) none
        ∙ (ap (λ (b : Bool). cond b (option_map (λ (y : Open). y.grant.call) (committing c (entries trace) i.file f.me)) None) (file_own i.file) ∙ (ap (option_map (λ (y : Open). y.grant.call)) committing_is ∙ ap Some is))
    first_now d is (inr some) = ap (λ (o : Option CallId). option_or o (cond (same_file i.file i.file) (option_map (λ (y : Open). y.grant.call) (committing c (entries trace) i.file f.me)) None)) some

    -- the call of the make, and its number
    made_granted : (d : CallId) → IsMaker c trace f i d → (request : ℕ) × WasGranted trace f.epoch d request i.inst mode.Make i.file None f.me
    made_granted d (inl m) = absurd (unnamed c trace f.epoch m.now.call m.now.request i.inst m.now.file (how.Make i.set i.kind) h m.now.asks m.now.user_is (open_named c trace f.epoch i.inst x w.open_at.found))
    made_granted d (inr g) = g

    made_given : (d : CallId) → IsMaker c trace f i d → is_given_by f.me i.file.ino ≡ true
    made_given d m = (let g : (request : ℕ) × WasGranted trace f.epoch d request i.inst mode.Make i.file None f.me = made_granted d m in granted_number c trace h f.epoch d g.0 i.inst i.file None f.me g.1)

    made_first : (d : CallId) → IsMaker c trace f i d → i.mode ≡ mode.Make → first_call c (entries after) i.file ≡ Some d
    made_first d m make = (let g : (request : ℕ) × WasGranted trace f.epoch d request i.inst mode.Make i.file None f.me = made_granted d m in
        let call : x.grant.call ≡ d = (open_is c trace h f.epoch d g.0 i.inst mode.Make i.file None f.me x g.1 w.open_at.found).3 in
        first_now d call (subst (λ (y : CallId). (first_call c (entries trace) i.file ≡ None) ⊎ (first_call c (entries trace) i.file ≡ Some y)) call (subst (λ (y : FileId). (first_call c (entries trace) y ≡ None) ⊎ (first_call c (entries trace) y ≡ Some x.grant.call)) w.file_is (none_or (rests.first f.epoch i.inst x w.open_at.found (w.mode_is ∙ make) (subst (λ (z : ℕ). epoch_of (entries trace) z ≡ Some f.epoch) (sym w.open_at.place) frame.inside))))))
      where
        none_or : ((t : Stamp) → Stands c trace x.grant.file t → ⊥) ⊎ (first_call c (entries trace) x.grant.file ≡ Some x.grant.call) → (first_call c (entries trace) x.grant.file ≡ None) ⊎ (first_call c (entries trace) x.grant.file ≡ Some x.grant.call)
        none_or (inl away) = inl (none_first c (entries trace) x.grant.file away)
        none_or (inr some) = inr some

    not_root : (d : CallId) → IsMaker c trace f i d → (i.file.ino == 1) ≡ false
    not_root d m = above_one f.me i.file.ino (made_given d m)

    plain_now : PlainLies c trace i → LiesNow c after i
    plain_now l = record { kind_is = versions.kinds i.file l.stamp l.stands ∙ sym l.kind_is; set_is = versions.sets i.file l.stamp l.stands ∙ sym l.set_is; narrow = rests.narrow i.file l.stamp l.stands }

    lies_now : (m : Mode) → i.mode ≡ m → LiesAs c trace f i m → LiesNow c after i
    lies_now mode.Make is l = record {
      kind_is = ap (λ (b : Bool). cond b Dir (kind_made (words_named (entries after) (first_call c (entries after) i.file)))) (not_root l.0 l.1) ∙ (ap (λ (o : Option CallId). kind_made (words_named (entries after) o)) (made_first l.0 l.1 is) ∙ sym l.3);
      set_is = ap (λ (b : Bool). cond b (packs_of c i.file.group) (sites_made (packs_of c i.file.group) (words_named (entries after) (first_call c (entries after) i.file)))) (not_root l.0 l.1) ∙ (ap (λ (o : Option CallId). sites_made (packs_of c i.file.group) (words_named (entries after) o)) (made_first l.0 l.1 is) ∙ sym l.2);
      narrow = range_narrow f.me i.file.ino high (given_range f.me i.file.ino low (made_given l.0 l.1)).high;
    }
    lies_now mode.Read is l = plain_now l
    lies_now mode.Write is l = plain_now l
    lies_now mode.Resolve is l = plain_now l
    lies_now mode.Mend is l = plain_now l

    file_now : LiesNow c after i
    file_now = lies_now i.mode refl k.lies

    pub narrow_now : i.file.ino < inode_span
    narrow_now = file_now.narrow

    -- ---- the disk ----

    copy_is : copy_made i (next_vector f i) (next_stamp f (next_vector f i)) ≡ copy_for i.file (version_of c (entries after) i.file (next_stamp f (next_vector f i)))
    copy_is = λ j. record { file = i.file; kind = sym file_now.kind_is j; set = sym file_now.set_is j; stamp = next_stamp f (next_vector f i); vector = written j; content = sym content_now j }

    own_copy : (g : FileId) → i.file ≡ g → copy_of (with_commit i (next_vector f i) (next_stamp f (next_vector f i)) s) g ≡ option_map (copy_for g) (held_version c (entries after) f.me g)
    own_copy g same = subst (λ (y : FileId). copy_of (with_commit i (next_vector f i) (next_stamp f (next_vector f i)) s) y ≡ option_map (copy_for y) (held_version c (entries after) f.me y)) same
        (row_same copy_key (copy_made i (next_vector f i) (next_stamp f (next_vector f i))) s.copies ∙ (ap Some copy_is ∙ sym (ap (λ (o : Option Stamp). option_map (copy_for i.file) (option_map (version_of c (entries after) i.file) o)) held_own)))
      where
        held_own : held c (entries after) f.me i.file ≡ Some (next_stamp f (next_vector f i))
        held_own = ap (λ (b : Bool). cond b (Some (next_stamp f (next_vector f i))) (held c (entries trace) f.me i.file)) (and_true (same_file i.file i.file) (f.me == f.me) (file_own i.file) (equal_self f.me))

    other_copy : (g : FileId) → g.ino < inode_span → same_file i.file g ≡ false → copy_of (with_commit i (next_vector f i) (next_stamp f (next_vector f i)) s) g ≡ option_map (copy_for g) (held_version c (entries after) f.me g)
    other_copy g narrow other = row_other copy_key (copy_made i (next_vector f i) (next_stamp f (next_vector f i))) (file_key g) s.copies (λ e. true_false (sym (keys_same i.file g file_now.narrow narrow e) ∙ other))
        ∙ (kept.copies.are g narrow ∙ sym (ap (λ (o : Option Stamp). option_map (copy_for g) (option_map (version_of c (entries after) g) o)) held_other ∙ versions_same c trace after versions g (held c (entries trace) f.me g) (λ t e. held_stands c (entries trace) (followed_rows c trace h) f.me g t e)))
      where
        held_other : held c (entries after) f.me g ≡ held c (entries trace) f.me g
        held_other = ap (λ (b : Bool). cond (b && (f.me == f.me)) (Some (next_stamp f (next_vector f i))) (held c (entries trace) f.me g)) other

    pub copies_now : CopiesAreHeld c after f.me (with_commit i (next_vector f i) (next_stamp f (next_vector f i)) s)
    copies_now = record { are = λ g narrow. over g narrow (same_file i.file g) refl; ascends = ascends_row copy_key (copy_made i (next_vector f i) (next_stamp f (next_vector f i))) s.copies kept.copies.ascends }
      where
        over : (g : FileId) → g.ino < inode_span → (b : Bool) → same_file i.file g ≡ b → copy_of (with_commit i (next_vector f i) (next_stamp f (next_vector f i)) s) g ≡ option_map (copy_for g) (held_version c (entries after) f.me g)
        over g narrow true e = own_copy g (same_file_eq i.file g e)
        over g narrow false e = other_copy g narrow e

    -- ---- the other instances ----

    pub others_now : (j : Instance) → (instance_key j ≡ instance_key i → ⊥) → InstanceFact c trace f j → InstanceFact c after f j
    others_now j other fact = instance_more c n told trace few h may_commit stay f j aside fact
      where
        aside : (y : Open) → WorksAs c trace f j y → f.me ≡ f.me → i.file ≡ j.file → ⊥
        aside y v site same = other (ap serial_key (changes_alone tree.instances i.inst j.inst x y (rows_apart c (entries trace) (followed_rows c trace h) f.epoch i.file.group).alone found
            (found_in c trace f.epoch j.inst y i.file.group v.open_at.found (ap (λ (z : FileId). z.group) (v.file_is ∙ sym same))) (w.file_is ∙ (same ∙ sym v.file_is)) (ap is_read w.mode_is ∙ writes)))

    pub lies_after : LiesAs c after f i i.mode
    lies_after = lies_stay c n told trace h may_commit versions f i k.begun i.mode k.lies
