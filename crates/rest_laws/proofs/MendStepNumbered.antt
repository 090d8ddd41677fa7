-- Files that stand, and files that are open, have a number: none has number 0.
use Rattle.std.proofs.Common.{◌≡◌, ℕ, ◌+◌, ◌*◌, ◌==◌, Bool, true, false, not, cond, ◌&&◌, ◌||◌, nat_lt, nat_le, List, [], ◌∷◌, ◌++◌, filter, Option, Some, None, refl, sym, ap, ◌∙◌, subst, arith, ◌⊎◌, inl, inr}
use Rattle.std.proofs.lemmas.Bool.Decides.{nat_tests}
use Rattle.std.specs.List.{AllByRecursion}
use Rattle.std.specs.Option.{is_none, option_or}
use Rattle.role_steps.proofs.of_plain_facts.Tests.{and_first, and_second, or_either, true_false}
use Rattle.locus_ids.specs.declared.config.Config.{Config}
use Rattle.locus_ids.specs.declared.ids.CallId.{CallId}
use Rattle.locus_ids.specs.declared.ids.EpochId.{EpochId}
use Rattle.locus_ids.specs.declared.ids.FileId.{FileId}
use Rattle.locus_ids.specs.declared.ids.Mode.{Mode}
use Rattle.locus_ids.specs.declared.ids.Mode.TheVariants as mode
use Rattle.locus_ids.specs.declared.ids.Serial.{Serial}
use Rattle.locus_ids.specs.declared.ids.Stamp.{Stamp}
use Rattle.locus_ids.specs.declared.refusal.Refusal.{Refusal}
use Rattle.locus_ids.specs.declared.refusal.Refusal.TheVariants as refusal
use Rattle.locus_ids.specs.declared.sites.Sites.{Sites}
use Rattle.locus_ids.specs.Sizes.{site_inodes}
use Rattle.commit_graph.specs.declared.history.Version.{Version}
use Rattle.commit_graph.specs.Grants.{grant_refusal, kept_refusal}
use Rattle.commit_graph.specs.Versions.{is_covered, is_in, is_version, same_file, same_stamp}
use Rattle.trace_book.specs.Same.{same_epoch}
use Rattle.trace_book.specs.declared.record.Record.{Record}
use Rattle.trace_book.specs.declared.record.Record.TheVariants as says
use Rattle.tree_model.specs.declared.instance.Granted.{Granted}
use Rattle.tree_model.specs.declared.instance.Instance.{Instance}
use Rattle.tree_model.specs.Folds.{Trace}
use Rattle.tree_model.specs.Given.{gives_grant}
use Rattle.tree_model.specs.Histories.{format_stamp, format_version, format_versions, history}
use Rattle.tree_model.specs.Lists.{change_first}
use Rattle.tree_model.specs.Opening.{is_given_by, is_new_file, is_placed, is_site, making_site, open_refusal, place_refusal}
use Rattle.tree_model.specs.State.{TreeState, has_stamp, is_granted_here, is_inside, is_make, is_named, is_writer, kept_of, openers}
use Rattle.tree_model.specs.Tree.{acted, candidates, grant_of, joined, left, next, once_acted, once_committed, opened, released, tree_of, without_make}
use Rattle.lawful_trace.specs.Lawful.{MayCome}
use Rattle.lawful_trace.specs.TreeRows.{is_writing}
use Rattle.tree_laws.specs.Following.{RowsAreLawful}
use Rattle.store_laws.proofs.of_tree_laws.Orders.Alone.{first_none}
use Rattle.store_laws.proofs.of_tree_laws.Orders.Knowing.{versions_stand}
use Rattle.store_laws.proofs.of_tree_laws.Orders.Lists.{all_changed, all_filtered, all_more, all_without}
use Rattle.store_laws.proofs.of_tree_laws.Orders.Standing.{At, same_file_eq}
use Rattle.store_laws.proofs.of_tree_laws.Syncs.Refusing.{unrefused}
use Rattle.rest_laws.proofs.MendStepLists.{has_filtered, own_stamp}

abbrev IsNumbered : Instance → Type 0
IsNumbered x = x.grant.file.ino ≡ 0 → ⊥

-- ---- the format's versions ----

one_two : (n : ℕ) → n ≡ 1 → n ≡ 0 → ⊥
one_two n e z = omega (arith, e, z)

format_root : (k : ℕ) (packs : List Sites) (f : FileId) (s : Stamp) → is_in (format_versions k packs) f s ≡ true → f.ino ≡ 1
format_root k [] f s h = absurd (true_false (sym h))
format_root k (p ∷ ps) f s h = at (p.0 == 0) h (format_root (k + 1) ps f s)
  where
    over : (is_version f s (format_version k) ≡ true) ⊎ (is_in (format_versions (k + 1) ps) f s ≡ true) → (is_in (format_versions (k + 1) ps) f s ≡ true → f.ino ≡ 1) → f.ino ≡ 1
    over (inl e) later = sym (ap (λ (y : FileId). y.ino) (same_file_eq (At k 1) f (and_first (same_file (At k 1) f) (same_stamp format_stamp s) e)))
    over (inr e) later = later e

    at : (b : Bool) → is_in (cond b (format_versions (k + 1) ps) (format_version k ∷ format_versions (k + 1) ps)) f s ≡ true → (is_in (format_versions (k + 1) ps) f s ≡ true → f.ino ≡ 1) → f.ino ≡ 1
    at true h later = later h
    at false h later = over (or_either (is_version f s (format_version k)) (is_in (format_versions (k + 1) ps) f s) h) later

-- ---- what is granted ----

abbrev Stand : Config → Trace → Type 0
Stand c before = (f : FileId) (s : Stamp) → is_in (history c before) f s ≡ true → f.ino ≡ 0 → ⊥

none_some : (why : Refusal) → ◌≡◌ {A = Option Refusal} (Some why) None → ⊥
none_some why e = cc

-- where nothing is kept, only a make isn't refused
some_kept : (m : Mode) → is_make m ≡ false → kept_refusal m [] ≡ None → ⊥
some_kept mode.Read k e = none_some refusal.NoStorage e
some_kept mode.Write k e = none_some refusal.NoStorage e
some_kept mode.Resolve k e = none_some refusal.NoStorage e
some_kept mode.Mend k e = none_some refusal.NoStorage e
some_kept mode.Make k e = true_false k

given_above : (site ino : ℕ) → is_given_by site ino ≡ true → ino ≡ 0 → ⊥
given_above site ino g z = low (and_second (nat_le ino (site_inodes * site)) (nat_lt 1 ino) (and_second (nat_lt (site_inodes * site) (ino + site_inodes)) (nat_le ino (site_inodes * site) && nat_lt 1 ino) g))
  where
    low : nat_lt 1 ino ≡ true → ⊥
    low e = grind (arith, nat_tests)

module _ (c : Config) (before : Trace) (rows : RowsAreLawful c before) (stand : Stand c before) (e : EpochId) (call : CallId) (i : Serial) (f : FileId) (stamp : Option Stamp) (ss : ℕ) where
  abbrev t : TreeState
  t = tree_of c e f.group before

  abbrev h : List Version
  h = history c before

  kept_numbered : (m : Mode) → is_make m ≡ false → (ks : List Stamp) → kept_of h t f ≡ ks → kept_refusal m ks ≡ None → f.ino ≡ 0 → ⊥
  kept_numbered m plain [] is none z = some_kept m plain none
  kept_numbered m plain (a ∷ rest) is none z = stand f a ((versions_stand c before rows).known e f a (has_filtered (λ (b : Stamp). not (is_covered h f (candidates c before e f) b)) (candidates c before e f) a (ap (λ (ks : List Stamp). has_stamp ks a) is ∙ ap (λ (b : Bool). b || has_stamp rest a) (own_stamp a)))) z

  plain_numbered : (m : Mode) → is_make m ≡ false → is_none (option_or (grant_refusal m (openers t f) (kept_of h t f)) (place_refusal h t m call f)) ≡ true → f.ino ≡ 0 → ⊥
  plain_numbered m plain none = kept_numbered m plain (kept_of h t f) refl (unrefused m (openers t f) (kept_of h t f) (first_none (grant_refusal m (openers t f) (kept_of h t f)) (place_refusal h t m call f) none)).1

  pub granted_numbered : (m : Mode) → gives_grant h t call i m f stamp ss ≡ true → f.ino ≡ 0 → ⊥
  granted_numbered mode.Read g = plain_numbered mode.Read refl (and_first (is_none (open_refusal h t mode.Read call f)) _ (and_second t.started _ g))
  granted_numbered mode.Write g = plain_numbered mode.Write refl (and_first (is_none (open_refusal h t mode.Write call f)) _ (and_second t.started _ g))
  granted_numbered mode.Resolve g = plain_numbered mode.Resolve refl (and_first (is_none (open_refusal h t mode.Resolve call f)) _ (and_second t.started _ g))
  granted_numbered mode.Mend g = plain_numbered mode.Mend refl (and_first (is_none (open_refusal h t mode.Mend call f)) _ (and_second t.started _ g))
  granted_numbered mode.Make g =
      let placed : is_placed h t call mode.Make f stamp ss ≡ true = and_second _ _ (and_second _ _ (and_second (is_none (open_refusal h t mode.Make call f)) _ (and_second t.started _ g))) in
      let new : is_new_file t call f ss ≡ true = and_first (is_new_file t call f ss) (is_none stamp) placed in
      given_above ss f.ino (and_first (is_given_by ss f.ino) _ (and_second (is_site (making_site t call) ss) _ new))

-- ---- what is open ----

module _ (c : Config) (before : Trace) (rows : RowsAreLawful c before) (stand : Stand c before) (e : EpochId) (group : ℕ) where
  abbrev now : TreeState
  now = tree_of c e group before

  if_numbered : (b : Bool) (u t : TreeState) → AllByRecursion IsNumbered u.instances → AllByRecursion IsNumbered t.instances → AllByRecursion IsNumbered (cond b u t).instances
  if_numbered true u t p q = p
  if_numbered false u t p q = q

  next_numbered : (r : Record) → MayCome c before r → AllByRecursion IsNumbered now.instances → AllByRecursion IsNumbered (next (history c before) r now).instances
  next_numbered (says.Grant d call request i m f stamp ss) may all = over (same_epoch d now.epoch)
    where
      g : Granted
      g = grant_of now call i m f ss

      inner : (b : Bool) → AllByRecursion IsNumbered (cond b (now.instances ++ opened (history c before) g stamp ∷ []) now.instances)
      inner true = all_more IsNumbered now.instances (opened (history c before) g stamp) all (granted_numbered c before rows stand d call i f stamp ss m may.gives)
      inner false = all

      over : (b : Bool) → AllByRecursion IsNumbered (cond b (record now { grants = now.grants ++ g ∷ []; instances = cond (f.group == now.group) (now.instances ++ opened (history c before) g stamp ∷ []) now.instances }) now).instances
      over true = inner (f.group == now.group)
      over false = all
  next_numbered (says.Join s d m) may all = if_numbered (same_epoch d now.epoch) (joined s m now) (left s now) all all
  next_numbered (says.Start d k copies) may all = if_numbered (same_epoch d now.epoch && (k == now.group)) (record now { started = true }) now all all
  next_numbered (says.Refuse d call request i m f why) may all = if_numbered (same_epoch d now.epoch && ((f.group == now.group) && is_make m)) (record now { makes = without_make call now.makes }) now all all
  next_numbered (says.Act d i n o result) may all = if_numbered (same_epoch d now.epoch && is_granted_here now i) (acted (history c before) i o result now) now
      (all_changed IsNumbered (is_named i) (once_acted (history c before) now o result) (λ x k. k) now.instances all) all
  next_numbered (says.Commit f s stamp parents content) may all = over (is_inside now s)
    where
      over : (b : Bool) → AllByRecursion IsNumbered (cond b (change_first (is_writer f s) (once_committed stamp) now.instances) now.instances)
      over true = all_changed IsNumbered (is_writer f s) (once_committed stamp) (λ x k. k) now.instances all
      over false = all
  next_numbered (says.Release d i f stamp) may all = if_numbered (same_epoch d now.epoch && (f.group == now.group)) (released i f stamp now) now (all_without IsNumbered (is_named i) now.instances all) all
  next_numbered r may all = all

-- ---- together ----

pub record FilesAreNumbered (c : Config) (trace : Trace) : Type 0 where
  pub stand : Stand c trace
  pub open_ones : (e : EpochId) (group : ℕ) → AllByRecursion IsNumbered (tree_of c e group trace).instances

passing : (p : Instance → Bool) (xs : List Instance) → AllByRecursion (λ (x : Instance). p x ≡ true) (filter p xs)
passing p [] = tt
passing p (x ∷ xs) = at (p x) refl (passing p xs)
  where
    at : (b : Bool) → p x ≡ b → AllByRecursion (λ (y : Instance). p y ≡ true) (filter p xs) → AllByRecursion (λ (y : Instance). p y ≡ true) (cond b (x ∷ filter p xs) (filter p xs))
    at true e later = (e, later)
    at false e later = later

stand_next : (c : Config) (line : ℕ) (r : Record) (before : Trace) → MayCome c before r → FilesAreNumbered c before → Stand c (record { line = line; what = r } ∷ before)
stand_next c line (says.Commit g z stamp parents content) before may old f s k = over (or_either (same_file g f && same_stamp stamp s) (is_in (history c before) f s) k)
  where
    of : AllByRecursion IsNumbered (may.instance ∷ []) × AllByRecursion (λ (x : Instance). is_writing g x ≡ true) (may.instance ∷ [])
    of = (
      subst (AllByRecursion IsNumbered) may.one (all_filtered IsNumbered (is_writing g) (tree_of c may.epoch g.group before).instances (old.open_ones may.epoch g.group)),
      subst (AllByRecursion (λ (x : Instance). is_writing g x ≡ true)) may.one (passing (is_writing g) (tree_of c may.epoch g.group before).instances),
    )

    over : (same_file g f && same_stamp stamp s ≡ true) ⊎ (is_in (history c before) f s ≡ true) → f.ino ≡ 0 → ⊥
    over (inl e) z = of.0.0 (ap (λ (y : FileId). y.ino) (same_file_eq may.instance.grant.file g (and_first (same_file may.instance.grant.file g) _ of.1.0) ∙ same_file_eq g f (and_first (same_file g f) (same_stamp stamp s) e)) ∙ z)
    over (inr e) z = old.stand f s e z
stand_next c line r before may old f s k = old.stand f s k

pub files_numbered : (c : Config) (trace : Trace) → RowsAreLawful c trace → FilesAreNumbered c trace
files_numbered c [] rows = record { stand = λ f s k z. one_two f.ino (format_root 0 c.packs f s k) z; open_ones = λ e group. tt }
files_numbered c (r ∷ before) rows = over (files_numbered c before rows.1)
  where
    over : FilesAreNumbered c before → FilesAreNumbered c (r ∷ before)
    over old = record {
      stand = stand_next c r.line r.what before rows.0 old;
      open_ones = λ e group. next_numbered c before rows.1 old.stand e group r.what rows.0 (old.open_ones e group);
    }
