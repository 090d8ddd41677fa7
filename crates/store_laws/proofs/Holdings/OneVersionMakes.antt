-- Until a make that its storage site has begun is named, its number is free: nothing is held, known or granted of it in the epoch.
use Rattle.std.proofs.Common.{◌≡◌, ℕ, ◌==◌, Bool, true, false, ◌&&◌, ◌||◌, cond, List, [], ◌∷◌, ◌++◌, filter, Option, Some, None, refl, sym, ap, ◌∙◌, subst, arith, ◌⊎◌, inl, inr}
use Rattle.std.proofs.lemmas.Bool.Decides.{nat_tests}
use Rattle.std.specs.List.{list_any}
use Rattle.tree_laws.proofs.of_plain_facts.Numbers.{equal}
use Rattle.tree_laws.proofs.of_plain_facts.Options.{none_some, some_same}
use Rattle.tree_laws.proofs.of_plain_facts.Tests.{and_first, true_false}
use Rattle.locus_ids.specs.declared.config.Config.{Config}
use Rattle.locus_ids.specs.declared.ids.EpochId.{EpochId}
use Rattle.locus_ids.specs.declared.ids.FileId.{FileId}
use Rattle.locus_ids.specs.declared.ids.Mode.{Mode}
use Rattle.locus_ids.specs.declared.ids.Mode.TheVariants as mode
use Rattle.locus_ids.specs.declared.ids.Serial.{Serial}
use Rattle.locus_ids.specs.declared.ids.Stamp.{Stamp}
use Rattle.commit_graph.specs.declared.history.Version.{Version}
use Rattle.commit_graph.specs.Versions.{is_in, is_version, same_file, same_stamp}
use Rattle.trace_book.specs.Same.{same_epoch}
use Rattle.trace_book.specs.declared.record.Record.{Record}
use Rattle.trace_book.specs.declared.record.Record.TheVariants as says
use Rattle.site_laws.specs.of_role_steps.Views.{Told, Shown, Begins}
use Rattle.tree_laws.specs.of_the_run.Worlds.{Line}
use Rattle.tree_model.specs.declared.instance.Granted.{Granted}
use Rattle.tree_model.specs.declared.instance.Instance.{Instance}
use Rattle.tree_model.specs.Epochs.{epoch_of, has_joined, is_in as is_at}
use Rattle.tree_model.specs.Histories.{history}
use Rattle.tree_model.specs.Opening.{is_given_by}
use Rattle.tree_model.specs.State.{TreeState, has_stamp, held_at, held_of, is_granted_here, is_inside, is_make, is_named, is_taken, stamps_of}
use Rattle.tree_model.specs.Tree.{acted, grant_of, granted, joined, left, next, published, released, tree_of, without_make}
use Rattle.tree_laws.specs.of_lawful_trace.Lawful.{MayCome}
use Rattle.tree_laws.specs.of_lawful_trace.TreeRows.{is_writing}
use Rattle.tree_laws.specs.Following.{BeginsGranted, BeginsMade, IsFollowed, MakesInTime, MayTell}
use Rattle.tree_laws.specs.Instances.{IsKnown, IsStarted, held_in}
use Rattle.tree_laws.specs.Past.{BeginsIt, WasBegun, WasNamed}
use Rattle.tree_laws.specs.Printed.{entries}
use Rattle.tree_laws.proofs.Kinship.{started_stays}
use Rattle.tree_laws.proofs.Names.{same_epoch_eq}
use Rattle.tree_laws.proofs.Owing.{inside_is}
use Rattle.tree_laws.proofs.Rows.{followed_rows}
use Rattle.tree_laws.specs.Orders.Joining.{PacksAreOfSites}
use Rattle.tree_laws.proofs.Orders.Alone.{IsTakenIn, rows_apart, tree_is, tree_named}
use Rattle.tree_laws.proofs.Orders.Keeping.{EndsIn, PublishesNone, ends_in, file_eq, known_same, published_same}
use Rattle.tree_laws.proofs.Orders.Lists.{all_found}
use Rattle.tree_laws.proofs.Orders.Standing.{same_file_eq}
use Rattle.store_laws.specs.Holdings.OneVersionNumbers.{IsFreeNumber}
use Rattle.store_laws.proofs.Holdings.Ancestors.{some_of}
use Rattle.store_laws.proofs.Holdings.Copies.{copies_are, copy_after, copy_next, epoch_joined, joined_more}
use Rattle.store_laws.proofs.Holdings.OneVersionHomes.{IsRooted, OnGround, grants_on_ground, home_holds, one_home, rows_rooted}
use Rattle.store_laws.proofs.Holdings.Made.{committed_file, filter_one}
use Rattle.store_laws.proofs.Holdings.OneVersionNaming.{named_or_not}
use Rattle.store_laws.proofs.Holdings.Rising.{Hit, joined_or, known_stands, written_or}
use Rattle.store_laws.proofs.Holdings.OneVersionReserving.{GrantRooted, Reserved, granted_named, grants_rooted, one_begun}

-- ---- a free number stays free until the make is named ----

-- who is in an epoch after a site has left one was in it
pub still_there : (o : Option EpochId) (e : EpochId) (b : Bool) → cond b None o ≡ Some e → o ≡ Some e
still_there o e true k = absurd (none_some e k)
still_there o e false k = k

pub record Free (c : Config) (trace : List Line) (s : ℕ) (e : EpochId) (f : FileId) : Type 0 where
  pub started : IsStarted c trace e f.group
  pub joined : has_joined (entries trace) s e ≡ true
  pub given : is_given_by s f.ino ≡ true
  pub known : (v : Stamp) → IsKnown c trace e f v → ⊥
  pub held : (v : Stamp) → held_in c (entries trace) e s f ≡ Some v → ⊥
  pub taken : is_taken (tree_of c e f.group (entries trace)) f ≡ false
  -- while the site is in the epoch there is no version of the file at all
  pub unmade : epoch_of (entries trace) s ≡ Some e → (v : Stamp) → is_in (history c (entries trace)) f v ≡ true → ⊥

-- a make is begun on a free number
module _ (c : Config) (older : List Line) (followed : IsFollowed c older) (s : ℕ) (e : EpochId) (i : Serial) (f : FileId) (may : MayTell c older (Begins s e i f)) (made : BeginsMade c older s e i f) where
  nothing_held : (v : Stamp) → held_in c (entries older) e s f ≡ Some v → ⊥
  nothing_held v k = made.unused (inl (v, k))

  nothing_stands : (v : Stamp) → is_in (history c (entries older)) f v ≡ true → ⊥
  nothing_stands v k = (let w = home_holds c (entries older) (followed_rows c older followed) f v s made.number k in nothing_held w.0 ((copies_are c (entries older) e f.group s f.ino).held_is may.inside ∙ w.1))

  free_at_begin : Free c older s e f
  free_at_begin = record {
    started = made.started;
    joined = epoch_joined (entries older) s e may.inside;
    given = made.number;
    known = λ v k. nothing_stands v (known_stands c (entries older) (followed_rows c older followed) e f v k);
    held = nothing_held;
    taken = at (is_taken (tree_of c e f.group (entries older)) f) refl;
    unmade = λ inside v k. nothing_stands v k;
  }
    where
      untaken : (d : Granted) → same_file d.file f ≡ true → GrantRooted c older e f.group d → ⊥
      untaken d same rooted = over (rooted (ap (λ (y : FileId). y.group) is))
        where
          is : d.file ≡ f
          is = same_file_eq d.file f same

          over : ((v : Stamp) × (is_in (history c (entries older)) d.file v ≡ true)) ⊎ Reserved older e d.file → ⊥
          over (inl w) = nothing_stands w.0 (subst (λ (y : FileId). is_in (history c (entries older)) y w.0 ≡ true) is w.1)
          over (inr w) = made.untouched w.inst (subst (λ (y : FileId). WasBegun older s e w.inst y) is (subst (λ (y : ℕ). WasBegun older y e w.inst d.file) (one_home w.site s f.ino (subst (λ (y : FileId). is_given_by w.site y.ino ≡ true) is w.given) made.number) w.begun))

      at : (b : Bool) → is_taken (tree_of c e f.group (entries older)) f ≡ b → b ≡ false
      at true k = (let w = some_of (λ (d : Granted). same_file d.file f) (GrantRooted c older e f.group) (tree_of c e f.group (entries older)).grants k (grants_rooted c older followed e f.group) in absurd (untaken w.one w.passes w.is_so))
      at false k = refl

-- a line more
module _ (c : Config) (few : PacksAreOfSites c) (older : List Line) (n : ℕ) (followed : IsFollowed c older) (s : ℕ) (e : EpochId) (i : Serial) (f : FileId) (begun : WasBegun older s e i f) (unnamed : WasNamed older e i → ⊥) (old : Free c older s e f) where
  abbrev tree : TreeState
  tree = tree_of c e f.group (entries older)

  abbrev past : List Version
  past = history c (entries older)

  which : (tree.epoch ≡ e) × (tree.group ≡ f.group)
  which = tree_named c e f.group (entries older)

  epoch_named : (z : ℕ) (d : EpochId) → is_inside tree z ≡ true → epoch_of (entries older) z ≡ Some d → d ≡ e
  epoch_named z d inside at = same_epoch_eq d e (sym (ap (λ (o : Option EpochId). is_at o e) at) ∙ (sym (inside_is c (entries older) e f.group z) ∙ inside))

  own_file : (y : FileId) → same_file y y ≡ true
  own_file y = grind (arith, nat_tests)

  -- no instance of the file is open
  none_open : (x : Instance) → x.grant.file ≡ f → IsTakenIn tree.grants x → ⊥
  none_open x is taken = true_false (sym (taken f (subst (λ (y : FileId). same_file x.grant.file y ≡ true) is (own_file x.grant.file))) ∙ old.taken)

  publishes_none : (r : Record) → MayCome c (entries older) r → PublishesNone c (entries older) e f r
  publishes_none (says.Release d j g stamp) may = λ same. at (ends_in c (entries older) e f d j g stamp may.gives same) (g.ino == f.ino) refl
    where
      at : EndsIn c (entries older) e f d j g stamp → (b : Bool) → (g.ino == f.ino) ≡ b → stamps_of (published g stamp tree.known) f.ino ≡ stamps_of tree.known f.ino
      at w false k = published_same g stamp f.ino tree.known k
      at w true k = absurd (none_open w.ended (w.file_is ∙ file_eq g f w.group_is (equal g.ino f.ino k)) (all_found (IsTakenIn tree.grants) (is_named j) tree.instances w.ended (rows_apart c (entries older) (followed_rows c older followed) e f.group).taken w.found))
  publishes_none r may = tt

  still_unknown : (r : Record) → MayCome c (entries older) r → (v : Stamp) → has_stamp (stamps_of (next past r tree).known f.ino) v ≡ true → ⊥
  still_unknown r may v k = old.known v (subst (λ (ss : List Stamp). has_stamp ss v ≡ true) (known_same c (entries older) few (followed_rows c older followed) e f old.started r may (publishes_none r may)) k)

  -- nothing is written of it at the site
  still_none : (r : Record) → MayCome c (entries older) r → (v : Stamp) → held_at (next past r tree) s f.ino ≡ Some v → ⊥
  still_none (says.Join z d m) may v k = over (joined_or tree d z s f.ino)
    where
      over : (held_of (copy_after (says.Join z d m) tree s f.ino) ≡ held_at tree s f.ino) ⊎ ((d ≡ tree.epoch) × (z ≡ s)) → ⊥
      over (inl same) = old.held v (sym same ∙ (sym (ap held_of (copy_next past tree (says.Join z d m) s f.ino)) ∙ k))
      over (inr p) = true_false (sym old.joined ∙ (ap (λ (y : ℕ). has_joined (entries older) y e) (sym p.1) ∙ (ap (λ (y : EpochId). has_joined (entries older) z y) (sym (p.0 ∙ which.0)) ∙ may.new)))
  still_none (says.Commit g z stamp parents content) may v k = over (written_or tree g z stamp s f.ino)
    where
      file_is : Hit tree g z s f.ino → g ≡ f
      file_is hit = file_eq g f (equal g.group tree.group hit.group_is ∙ which.1) hit.ino_is

      open_one : (hit : Hit tree g z s f.ino) → IsTakenIn tree.grants may.instance
      open_one hit = filter_one (IsTakenIn tree.grants) (is_writing g) tree.instances may.instance
          (subst (λ (u : TreeState). filter (is_writing g) u.instances ≡ may.instance ∷ []) (tree_is c e may.epoch f.group g.group (entries older) (epoch_named z may.epoch hit.inside may.inside) (equal g.group tree.group hit.group_is ∙ which.1)) may.one)
          (rows_apart c (entries older) (followed_rows c older followed) e f.group).taken

      over : (held_of (copy_after (says.Commit g z stamp parents content) tree s f.ino) ≡ held_at tree s f.ino) ⊎ (Hit tree g z s f.ino × (held_of (copy_after (says.Commit g z stamp parents content) tree s f.ino) ≡ Some stamp)) → ⊥
      over (inl same) = old.held v (sym same ∙ (sym (ap held_of (copy_next past tree (says.Commit g z stamp parents content) s f.ino)) ∙ k))
      over (inr hit) = none_open may.instance (committed_file c (entries older) (followed_rows c older followed) g z stamp parents content may ∙ file_is hit.0) (open_one hit.0)
  still_none (says.Adopt g z stamp) may v k = over (written_or tree g z stamp s f.ino)
    where
      file_is : Hit tree g z s f.ino → g ≡ f
      file_is hit = file_eq g f (equal g.group tree.group hit.group_is ∙ which.1) hit.ino_is

      over : (held_of (copy_after (says.Adopt g z stamp) tree s f.ino) ≡ held_at tree s f.ino) ⊎ (Hit tree g z s f.ino × (held_of (copy_after (says.Adopt g z stamp) tree s f.ino) ≡ Some stamp)) → ⊥
      over (inl same) = old.held v (sym same ∙ (sym (ap held_of (copy_next past tree (says.Adopt g z stamp) s f.ino)) ∙ k))
      over (inr hit) = old.known stamp (subst (λ (y : FileId). IsKnown c older e y stamp) (file_is hit.0) (subst (λ (y : EpochId). IsKnown c older y g stamp) (epoch_named z may.epoch hit.0.inside may.inside) may.known))
  still_none r may v k = old.held v (sym (ap held_of (copy_next past tree r s f.ino)) ∙ k)

  -- a grant on the file is that of the make
  abbrev Still : Record → Type 0
  Still r = WasNamed (record { number = n; told = Shown r } ∷ older) e i ⊎ (is_taken (next past r tree) f ≡ false)

  untaken_if : (r : Record) (b : Bool) (u v : TreeState) → u.grants ≡ tree.grants → v.grants ≡ tree.grants → is_taken (cond b u v) f ≡ false
  untaken_if r true u v p q = ap (λ (gs : List Granted). list_any (λ (d : Granted). same_file d.file f) gs) p ∙ old.taken
  untaken_if r false u v p q = ap (λ (gs : List Granted). list_any (λ (d : Granted). same_file d.file f) gs) q ∙ old.taken

  taken_last : (xs : List Granted) (y : Granted) → list_any (λ (d : Granted). same_file d.file f) xs ≡ false → same_file y.file f ≡ false → list_any (λ (d : Granted). same_file d.file f) (xs ++ y ∷ []) ≡ false
  taken_last [] y k l = ap (λ (b : Bool). b || false) l
  taken_last (x ∷ xs) y k l = at (same_file x.file f) k (taken_last xs y)
    where
      at : (b : Bool) → b || list_any (λ (d : Granted). same_file d.file f) xs ≡ false → (list_any (λ (d : Granted). same_file d.file f) xs ≡ false → same_file y.file f ≡ false → list_any (λ (d : Granted). same_file d.file f) (xs ++ y ∷ []) ≡ false) → b || list_any (λ (d : Granted). same_file d.file f) (xs ++ y ∷ []) ≡ false
      at true k later = absurd (true_false k)
      at false k later = later k l

  untaken : (r : Record) → MayTell c older (Shown r) → Still r
  untaken (says.Grant d call request j m g stamp ss) may = over (same_epoch d tree.epoch) refl (same_file g f) refl
    where
      named_now : d ≡ e → i ≡ j → WasNamed (record { number = n; told = Shown (says.Grant d call request j m g stamp ss) } ∷ older) e i
      named_now p q = inl (record { epoch_is = p; serial_is = sym q })

      -- a make of the number is this one
      make_is : (m : Mode) → MakesInTime older d j g ss m → OnGround (tree_of c d g.group (entries older)) m g ss → d ≡ e → g ≡ f → WasNamed (record { number = n; told = Shown (says.Grant d call request j m g stamp ss) } ∷ older) e i
      make_is m makes (inr k) p q = absurd (old.known k.0 (subst (λ (y : FileId). IsKnown c older e y k.0) q (subst (λ (y : EpochId). IsKnown c older y g k.0) p k.1)))
      make_is mode.Make makes (inl k) p q = named_now p (one_begun c older followed s e i j f begun
          (subst (λ (y : ℕ). WasBegun older y e j f) (one_home ss s f.ino (subst (λ (y : FileId). is_given_by ss y.ino ≡ true) q k.1) old.given) (subst (λ (y : FileId). WasBegun older ss e j y) q (subst (λ (y : EpochId). WasBegun older ss y j g) p makes)))
          unnamed (λ w. may.in_time.new (subst (λ (y : EpochId). WasNamed older y j) (sym p) w)))
      make_is mode.Read makes (inl k) p q = absurd (plain k.0)
        where
          plain : mode.Read ≡ mode.Make → ⊥
          plain q = cc
      make_is mode.Write makes (inl k) p q = absurd (plain k.0)
        where
          plain : mode.Write ≡ mode.Make → ⊥
          plain q = cc
      make_is mode.Resolve makes (inl k) p q = absurd (plain k.0)
        where
          plain : mode.Resolve ≡ mode.Make → ⊥
          plain q = cc
      make_is mode.Mend makes (inl k) p q = absurd (plain k.0)
        where
          plain : mode.Mend ≡ mode.Make → ⊥
          plain q = cc

      added : (b : Bool) → same_file g f ≡ false → is_taken (cond b (granted past (grant_of tree call j m g ss) stamp tree) tree) f ≡ false
      added true l = taken_last tree.grants (grant_of tree call j m g ss) old.taken l
      added false l = old.taken

      over : (a : Bool) → same_epoch d tree.epoch ≡ a → (b : Bool) → same_file g f ≡ b → Still (says.Grant d call request j m g stamp ss)
      over true p true q = inl (make_is m may.in_time.makes (grants_on_ground past (tree_of c d g.group (entries older)) call j m g stamp ss may.row.gives) (same_epoch_eq d tree.epoch p ∙ which.0) (same_file_eq g f q))
      over true p false q = inr (added (same_epoch d tree.epoch) q)
      over false p b q = inr (ap (λ (y : Bool). is_taken (cond y (granted past (grant_of tree call j m g ss) stamp tree) tree) f) p ∙ old.taken)
  untaken (says.Join z d m) may = inr (untaken_if (says.Join z d m) (same_epoch d tree.epoch) (joined z m tree) (left z tree) refl refl)
  untaken (says.Start d k copies) may = inr (untaken_if (says.Start d k copies) (same_epoch d tree.epoch && (k == tree.group)) (record tree { started = true }) tree refl refl)
  untaken (says.Refuse d call request j m g why) may = inr (untaken_if (says.Refuse d call request j m g why) (same_epoch d tree.epoch && ((g.group == tree.group) && is_make m)) (record tree { makes = without_make call tree.makes }) tree refl refl)
  untaken (says.Act d j k o result) may = inr (untaken_if (says.Act d j k o result) (same_epoch d tree.epoch && is_granted_here tree j) (acted past j o result tree) tree refl refl)
  untaken (says.Release d j g stamp) may = inr (untaken_if (says.Release d j g stamp) (same_epoch d tree.epoch && (g.group == tree.group)) (released j g stamp tree) tree refl refl)
  untaken r may = inr old.taken

  -- nobody makes it elsewhere while the site is in the epoch
  still_unmade : (r : Record) → MayCome c (entries older) r → epoch_of (record { line = n; what = r } ∷ entries older) s ≡ Some e → (v : Stamp) → is_in (history c (record { line = n; what = r } ∷ entries older)) f v ≡ true → ⊥
  still_unmade (says.Commit g z stamp parents content) may inside v k = over (either (is_version f v (record { file = g; site = z; stamp = stamp; parents = parents; content = content })) (is_in past f v) k)
    where
      either : (a b : Bool) → a || b ≡ true → (a ≡ true) ⊎ (b ≡ true)
      either true b k = inl refl
      either false b k = inr k

      made_here : g ≡ f → IsRooted past may.instance → ⊥
      made_here is (inl w) = old.unmade inside w.0 (subst (λ (y : FileId). is_in past y w.0 ≡ true) (committed_file c (entries older) (followed_rows c older followed) g z stamp parents content may ∙ is) w.1)
      made_here is (inr w) = none_open may.instance (committed_file c (entries older) (followed_rows c older followed) g z stamp parents content may ∙ is)
          (filter_one (IsTakenIn tree.grants) (is_writing g) tree.instances may.instance
          (subst (λ (u : TreeState). filter (is_writing g) u.instances ≡ may.instance ∷ []) (tree_is c e may.epoch f.group g.group (entries older) epoch_is (ap (λ (y : FileId). y.group) is)) may.one)
          (rows_apart c (entries older) (followed_rows c older followed) e f.group).taken)
        where
          site_is : z ≡ s
          site_is = sym may.at ∙ one_home may.instance.grant.ss s f.ino (subst (λ (y : FileId). is_given_by may.instance.grant.ss y.ino ≡ true) (committed_file c (entries older) (followed_rows c older followed) g z stamp parents content may ∙ is) w) old.given

          epoch_is : may.epoch ≡ e
          epoch_is = some_same may.epoch e (sym may.inside ∙ (ap (λ (y : ℕ). epoch_of (entries older) y) site_is ∙ inside))

      over : (is_version f v (record { file = g; site = z; stamp = stamp; parents = parents; content = content }) ≡ true) ⊎ (is_in past f v ≡ true) → ⊥
      over (inr q) = old.unmade inside v q
      over (inl q) = made_here (same_file_eq g f (and_first (same_file g f) (same_stamp stamp v) q)) (filter_one (IsRooted past) (is_writing g) (tree_of c may.epoch g.group (entries older)).instances may.instance may.one (rows_rooted c (entries older) (followed_rows c older followed) may.epoch g.group))
  still_unmade (says.Join z d m) may inside v k = over (z == s) refl inside
    where
      over : (b : Bool) → (z == s) ≡ b → cond b (Some d) (epoch_of (entries older) s) ≡ Some e → ⊥
      over true q l = true_false (sym old.joined ∙ (ap (λ (y : ℕ). has_joined (entries older) y e) (sym (equal z s q)) ∙ (ap (λ (y : EpochId). has_joined (entries older) z y) (sym (some_same d e l)) ∙ may.new)))
      over false q l = old.unmade l v k
  still_unmade (says.Leave z d) may inside v k = old.unmade (still_there (epoch_of (entries older) s) e (z == s) inside) v k
  still_unmade (says.Stopped z cause) may inside v k = old.unmade (still_there (epoch_of (entries older) s) e (z == s) inside) v k
  still_unmade (says.Up z boot) may inside v k = old.unmade (still_there (epoch_of (entries older) s) e (z == s) inside) v k
  still_unmade r may inside v k = old.unmade inside v k

  record_free : (r : Record) → MayTell c older (Shown r) → WasNamed (record { number = n; told = Shown r } ∷ older) e i ⊎ Free c (record { number = n; told = Shown r } ∷ older) s e f
  record_free r may = over (untaken r may)
    where
      over : Still r → WasNamed (record { number = n; told = Shown r } ∷ older) e i ⊎ Free c (record { number = n; told = Shown r } ∷ older) s e f
      over (inl named) = inl named
      over (inr free) = inr (record {
        started = started_stays c n (Shown r) older e f.group old.started;
        joined = joined_more r n (entries older) s e old.joined;
        given = old.given;
        known = λ v k. still_unknown r may.row v k;
        held = λ v k. still_none r may.row v k;
        taken = free;
        unmade = λ inside v k. still_unmade r may.row inside v k;
      })

  told_free : (x : Told) → MayTell c older x → WasNamed (record { number = n; told = x } ∷ older) e i ⊎ Free c (record { number = n; told = x } ∷ older) s e f
  told_free (Shown r) may = record_free r may
  told_free _ may = inr (record { started = old.started; joined = old.joined; given = old.given; known = old.known; held = old.held; taken = old.taken; unmade = old.unmade })

-- what a storage site has begun was named, or is a make of a free number
pub free_or_named : (c : Config) (trace : List Line) → PacksAreOfSites c → IsFollowed c trace → (s : ℕ) (e : EpochId) (i : Serial) (f : FileId) → WasBegun trace s e i f → WasNamed trace e i ⊎ Free c trace s e f
free_or_named c [] few followed s e i f k = absurd k
free_or_named c (x ∷ older) few followed s e i f (inr k) = over (free_or_named c older few followed.1 s e i f k)
  where
    split : (w : WasNamed older e i ⊎ (WasNamed older e i → ⊥)) → Free c older s e f → WasNamed (x ∷ older) e i ⊎ Free c (x ∷ older) s e f
    split (inl named) free = inl (inr named)
    split (inr unnamed) free = told_free c few older x.number followed.1 s e i f k unnamed free x.told followed.0

    over : WasNamed older e i ⊎ Free c older s e f → WasNamed (x ∷ older) e i ⊎ Free c (x ∷ older) s e f
    over (inl named) = inl (inr named)
    over (inr free) = split (named_or_not older e i) free
free_or_named c (x ∷ older) few followed s e i f (inl k) = begins x.told followed.0 k
  where
    same : (site : ℕ) (at : EpochId) (inst : Serial) (file : FileId) → site ≡ s → at ≡ e → inst ≡ i → file ≡ f → BeginsGranted c older site at inst file ⊎ BeginsMade c older site at inst file → MayTell c older (Begins site at inst file) →
        WasNamed older at inst ⊎ Free c older site at file
    same site at inst file p q r w (inl k) may = inl (granted_named c older site at inst file k)
    same site at inst file p q r w (inr k) may = inr (free_at_begin c older followed.1 site at inst file may k)

    begins : (y : Told) → MayTell c older y → BeginsIt s e i f older y → WasNamed (record { number = x.number; told = y } ∷ older) e i ⊎ Free c (record { number = x.number; told = y } ∷ older) s e f
    begins (Begins site at inst file) may k = moved (same site at inst file k.site_is k.epoch_is k.serial_is k.file_is may.may may)
      where
        moved : WasNamed older at inst ⊎ Free c older site at file → WasNamed (record { number = x.number; told = Begins site at inst file } ∷ older) e i ⊎ Free c (record { number = x.number; told = Begins site at inst file } ∷ older) s e f
        moved (inl named) = inl (inr (subst (λ (z : EpochId). WasNamed older z i) k.epoch_is (subst (λ (z : Serial). WasNamed older at z) k.serial_is named)))
        moved (inr free) = inr (here (subst (λ (z : FileId). Free c older s e z) k.file_is (subst (λ (z : EpochId). Free c older s z file) k.epoch_is (subst (λ (z : ℕ). Free c older z at file) k.site_is free))))
          where
            here : Free c older s e f → Free c (record { number = x.number; told = Begins site at inst file } ∷ older) s e f
            here w = record { started = w.started; joined = w.joined; given = w.given; known = w.known; held = w.held; taken = w.taken; unmade = w.unmade }
    begins _ may k = absurd k

pub free_number : (c : Config) (trace : List Line) → PacksAreOfSites c → IsFollowed c trace → (s : ℕ) (e : EpochId) (i : Serial) (f : FileId) → WasBegun trace s e i f → (WasNamed trace e i → ⊥) → IsFreeNumber c trace e s f
free_number c trace few followed s e i f begun unnamed = over (free_or_named c trace few followed s e i f begun)
  where
    none : (o : Option Stamp) → held_in c (entries trace) e s f ≡ o → ((v : Stamp) → held_in c (entries trace) e s f ≡ Some v → ⊥) → o ≡ None
    none None k un = refl
    none (Some v) k un = absurd (un v k)

    over : WasNamed trace e i ⊎ Free c trace s e f → IsFreeNumber c trace e s f
    over (inl named) = absurd (unnamed named)
    over (inr free) = record { given = free.given; held = none (held_in c (entries trace) e s f) refl free.held; known = free.known; taken = free.taken }
