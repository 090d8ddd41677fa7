-- A file is made at the site whose number it has: that site has a version of it, once it has any.
use Rattle.std.proofs.Common.{◌≡◌, ℕ, ◌+◌, ◌*◌, ◌==◌, ◌<◌, ◌≤◌, Bool, true, false, not, ◌&&◌, ◌||◌, cond, List, [], ◌∷◌, ◌++◌, filter, Option, Some, None, refl, sym, ap, ◌∙◌, subst, arith, ◌⊎◌, inl, inr, nat_lt, nat_le}
use Rattle.std.proofs.lemmas.Bool.Decides.{nat_tests}
use Rattle.std.specs.List.{AllByRecursion, list_any}
use Rattle.std.specs.Option.{is_none, option_or}
use Rattle.tree_laws.proofs.of_plain_facts.Numbers.{equal_self}
use Rattle.tree_laws.proofs.of_plain_facts.Options.{none_some}
use Rattle.tree_laws.proofs.of_plain_facts.Tests.{and_first, and_second, or_second, true_false}
use Rattle.locus_ids.specs.declared.config.Config.{Config}
use Rattle.locus_ids.specs.declared.ids.CallId.{CallId}
use Rattle.locus_ids.specs.declared.ids.EpochId.{EpochId}
use Rattle.locus_ids.specs.declared.ids.FileId.{FileId}
use Rattle.locus_ids.specs.declared.ids.Mode.{Mode}
use Rattle.locus_ids.specs.declared.ids.Mode.TheVariants as mode
use Rattle.locus_ids.specs.declared.ids.Serial.{Serial}
use Rattle.locus_ids.specs.declared.ids.Stamp.{Stamp}
use Rattle.locus_ids.specs.declared.sites.Sites.{Sites}
use Rattle.locus_ids.specs.Sizes.{site_inodes}
use Rattle.commit_graph.specs.declared.history.Version.{Version}
use Rattle.commit_graph.specs.Grants.{excluder, grant_refusal, kept_refusal}
use Rattle.commit_graph.specs.Versions.{is_covered, is_in, is_version, same_file, same_stamp}
use Rattle.commit_graph.proofs.Names.{same_stamp_refl}
use Rattle.trace_book.specs.Same.{same_epoch}
use Rattle.trace_book.specs.declared.record.Record.{Record}
use Rattle.trace_book.specs.declared.record.Record.TheVariants as says
use Rattle.tree_model.specs.declared.instance.Instance.{Instance}
use Rattle.tree_model.specs.Folds.{Trace}
use Rattle.tree_model.specs.Given.{gives_grant}
use Rattle.tree_model.specs.Histories.{format_stamp, format_version, format_versions, held, history, history_after}
use Rattle.tree_model.specs.Lists.{change_first}
use Rattle.tree_model.specs.Opening.{is_given_by, is_new_file, is_site, making_site, open_refusal, place_refusal}
use Rattle.tree_model.specs.State.{TreeState, has_stamp, is_granted_here, is_inside, is_make, is_named, is_writer, kept_of, openers, stamps_of}
use Rattle.tree_model.specs.Tree.{acted, grant_of, joined, left, next, once_acted, once_committed, opened, released, tree_of, without_make}
use Rattle.tree_laws.specs.of_lawful_trace.Lawful.{MayCome}
use Rattle.tree_laws.specs.of_lawful_trace.TreeRows.{MayCommit, is_writing}
use Rattle.tree_laws.specs.Following.{RowsAreLawful}
use Rattle.tree_laws.proofs.Orders.Alone.{first_none, unrefused}
use Rattle.tree_laws.proofs.Orders.Lists.{all_changed, all_more, all_then, all_without}
use Rattle.tree_laws.proofs.Orders.Standing.{At, same_file_eq}
use Rattle.store_laws.proofs.Holdings.Made.{candidates_stand, committed_file, filter_one}
use Rattle.store_laws.proofs.Holdings.Rising.{member_stands}

-- ---- numbers ----

-- a number is one of one site's
pub one_home : (a b ino : ℕ) → is_given_by a ino ≡ true → is_given_by b ino ≡ true → a ≡ b
one_home a b ino k l = (let p = bounds a ino k in let q = bounds b ino l in omega (arith, p.0, p.1, q.0, q.1))
  where
    lt : (m n : ℕ) → nat_lt m n ≡ true → m < n
    lt m n e = grind (arith, nat_tests)

    le : (m n : ℕ) → nat_le m n ≡ true → m ≤ n
    le m n e = grind (arith, nat_tests)

    bounds : (s ino : ℕ) → is_given_by s ino ≡ true → (site_inodes * s < ino + site_inodes) × (ino ≤ site_inodes * s)
    bounds s ino e = (lt (site_inodes * s) (ino + site_inodes) (and_first (nat_lt (site_inodes * s) (ino + site_inodes)) _ e), le ino (site_inodes * s) (and_first (nat_le ino (site_inodes * s)) _ (and_second (nat_lt (site_inodes * s) (ino + site_inodes)) _ e)))

-- no site gives a root's
pub no_root : (s ino : ℕ) → is_given_by s ino ≡ true → ino ≡ 1 → ⊥
no_root s ino e is = true_false (sym (subst (λ (n : ℕ). nat_lt 1 n ≡ true) is (and_second (nat_le ino (site_inodes * s)) _ (and_second (nat_lt (site_inodes * s) (ino + site_inodes)) _ e))))

-- ---- what a grant rests on ----

some_kept : (m : Mode) (kept : List Stamp) → (m ≡ mode.Make → ⊥) → kept_refusal m kept ≡ None → (s : Stamp) × (has_stamp kept s ≡ true)
some_kept m (a ∷ as_after) plain k = (a, ap (λ (b : Bool). b || has_stamp as_after a) (same_stamp_refl a))
some_kept mode.Read [] plain k = absurd (none_some _ (sym k))
some_kept mode.Write [] plain k = absurd (none_some _ (sym k))
some_kept mode.Resolve [] plain k = absurd (none_some _ (sym k))
some_kept mode.Mend [] plain k = absurd (none_some _ (sym k))
some_kept mode.Make [] plain k = absurd (plain refl)

unfiltered : (q p : Stamp → Bool) (xs : List Stamp) → list_any q (filter p xs) ≡ true → list_any q xs ≡ true
unfiltered q p [] k = k
unfiltered q p (x ∷ xs) k = at (p x) k (unfiltered q p xs)
  where
    more : (b : Bool) → (list_any q (filter p xs) ≡ true → list_any q xs ≡ true) → b || list_any q (filter p xs) ≡ true → b || list_any q xs ≡ true
    more true later l = refl
    more false later l = later l

    at : (b : Bool) → list_any q (cond b (x ∷ filter p xs) (filter p xs)) ≡ true → (list_any q (filter p xs) ≡ true → list_any q xs ≡ true) → q x || list_any q xs ≡ true
    at true l later = more (q x) later l
    at false l later = or_second (q x) (list_any q xs) (later l)

-- a make of a number of its storage site, or a version of the file is known
abbrev pub OnGround : TreeState → Mode → FileId → ℕ → Type 0
OnGround t m f ss = ((m ≡ mode.Make) × (is_given_by ss f.ino ≡ true)) ⊎ ((s : Stamp) × (has_stamp (stamps_of t.known f.ino) s ≡ true))

plain_known : (h : List Version) (t : TreeState) (m : Mode) (f : FileId) (call : CallId) → (m ≡ mode.Make → ⊥) → is_none (option_or (grant_refusal m (openers t f) (kept_of h t f)) (place_refusal h t m call f)) ≡ true → (s : Stamp) × (has_stamp (stamps_of t.known f.ino) s ≡ true)
plain_known h t m f call plain none = (let k = some_kept m (kept_of h t f) plain kept in (k.0, unfiltered (λ a. same_stamp a k.0) (λ a. not (is_covered h f (stamps_of t.known f.ino) a)) (stamps_of t.known f.ino) k.1))
  where
    refusal : grant_refusal m (openers t f) (kept_of h t f) ≡ None
    refusal = first_none (grant_refusal m (openers t f) (kept_of h t f)) (place_refusal h t m call f) none

    kept : kept_refusal m (kept_of h t f) ≡ None
    kept = rw (unrefused m (openers t f) (kept_of h t f) (excluder m (openers t f)) refl refusal) at refusal

pub grants_on_ground : (h : List Version) (t : TreeState) (call : CallId) (i : Serial) (m : Mode) (f : FileId) (stamp : Option Stamp) (ss : ℕ) → gives_grant h t call i m f stamp ss ≡ true → OnGround t m f ss
grants_on_ground h t call i mode.Make f stamp ss k = inl (
  refl,
  and_first (is_given_by ss f.ino) _ (and_second (is_site (making_site t call) ss) _ (and_first (is_new_file t call f ss) (is_none stamp)
      (and_second _ _ (and_second _ _ (and_second (is_none (open_refusal h t mode.Make call f)) _ (and_second t.started _ k)))))),
)
grants_on_ground h t call i mode.Read f stamp ss k = inr (plain_known h t mode.Read f call (λ e. cc) (and_first (is_none (open_refusal h t mode.Read call f)) _ (and_second t.started _ k)))
grants_on_ground h t call i mode.Write f stamp ss k = inr (plain_known h t mode.Write f call (λ e. cc) (and_first (is_none (open_refusal h t mode.Write call f)) _ (and_second t.started _ k)))
grants_on_ground h t call i mode.Resolve f stamp ss k = inr (plain_known h t mode.Resolve f call (λ e. cc) (and_first (is_none (open_refusal h t mode.Resolve call f)) _ (and_second t.started _ k)))
grants_on_ground h t call i mode.Mend f stamp ss k = inr (plain_known h t mode.Mend f call (λ e. cc) (and_first (is_none (open_refusal h t mode.Mend call f)) _ (and_second t.started _ k)))

-- ---- open instances ----

-- a version of its file stands, or it is a make of a number of its site
abbrev pub IsRooted : List Version → Instance → Type 0
IsRooted h x = ((s : Stamp) × (is_in h x.grant.file s ≡ true)) ⊎ (is_given_by x.grant.ss x.grant.file.ino ≡ true)

abbrev AreRooted : List Version → TreeState → Type 0
AreRooted h t = AllByRecursion (IsRooted h) t.instances

more_rooted : (h k : List Version) → ((f : FileId) (s : Stamp) → is_in h f s ≡ true → is_in k f s ≡ true) → (x : Instance) → IsRooted h x → IsRooted k x
more_rooted h k more x (inl w) = inl (w.0, more x.grant.file w.0 w.1)
more_rooted h k more x (inr w) = inr w

in_more : (h : List Version) (r : Record) (f : FileId) (s : Stamp) → is_in h f s ≡ true → is_in (history_after r h) f s ≡ true
in_more h (says.Commit g site stamp parents content) f s x = or_second (is_version f s (record { file = g; site = site; stamp = stamp; parents = parents; content = content })) (is_in h f s) x
in_more h _ f s x = x

module _ (c : Config) (e : EpochId) (g : ℕ) (before : Trace) (rows : RowsAreLawful c before) (old : AreRooted (history c before) (tree_of c e g before)) where
  abbrev t : TreeState
  t = tree_of c e g before

  abbrev h : List Version
  h = history c before

  if_rooted : (b : Bool) (u : TreeState) → AreRooted h u → AreRooted h (cond b u t)
  if_rooted true u k = k
  if_rooted false u k = old

  granted_rooted : (d : EpochId) (call : CallId) (i : Serial) (m : Mode) (f : FileId) (stamp : Option Stamp) (ss : ℕ) → gives_grant h (tree_of c d f.group before) call i m f stamp ss ≡ true → IsRooted h (opened h (grant_of t call i m f ss) stamp)
  granted_rooted d call i m f stamp ss gives = over (grants_on_ground h (tree_of c d f.group before) call i m f stamp ss gives)
    where
      over : OnGround (tree_of c d f.group before) m f ss → IsRooted h (opened h (grant_of t call i m f ss) stamp)
      over (inl k) = inr k.1
      over (inr k) = inl (k.0, member_stands (λ s. is_in h f s ≡ true) (stamps_of (tree_of c d f.group before).known f.ino) k.0 k.1 (candidates_stand c before rows d f))

  next_rooted : (r : Record) → MayCome c before r → AreRooted h (next h r t)
  next_rooted (says.Grant d call request i m f stamp ss) may = over (same_epoch d t.epoch) (f.group == t.group)
    where
      over : (a b : Bool) → AllByRecursion (IsRooted h) (cond a (record t { grants = t.grants ++ grant_of t call i m f ss ∷ []; instances = cond b (t.instances ++ opened h (grant_of t call i m f ss) stamp ∷ []) t.instances }) t).instances
      over true true = all_more (IsRooted h) t.instances (opened h (grant_of t call i m f ss) stamp) old (granted_rooted d call i m f stamp ss may.gives)
      over true false = old
      over false b = old
  next_rooted (says.Join s d m) may = over (same_epoch d t.epoch)
    where
      over : (b : Bool) → AllByRecursion (IsRooted h) (cond b (joined s m t) (left s t)).instances
      over true = old
      over false = old
  next_rooted (says.Start d k copies) may = if_rooted (same_epoch d t.epoch && (k == t.group)) (record t { started = true }) old
  next_rooted (says.Refuse d call request i m f why) may = if_rooted (same_epoch d t.epoch && ((f.group == t.group) && is_make m)) (record t { makes = without_make call t.makes }) old
  next_rooted (says.Act d i n o result) may = if_rooted (same_epoch d t.epoch && is_granted_here t i) (acted h i o result t) (all_changed (IsRooted h) (is_named i) (once_acted h t o result) (λ x k. k) t.instances old)
  next_rooted (says.Commit f s stamp parents content) may = over (is_inside t s)
    where
      over : (b : Bool) → AllByRecursion (IsRooted h) (cond b (change_first (is_writer f s) (once_committed stamp) t.instances) t.instances)
      over true = all_changed (IsRooted h) (is_writer f s) (once_committed stamp) (λ x k. k) t.instances old
      over false = old
  next_rooted (says.Release d i f stamp) may = if_rooted (same_epoch d t.epoch && (f.group == t.group)) (released i f stamp t) (all_without (IsRooted h) (is_named i) t.instances old)
  next_rooted r may = old

pub rows_rooted : (c : Config) (trace : Trace) → RowsAreLawful c trace → (e : EpochId) (g : ℕ) → AreRooted (history c trace) (tree_of c e g trace)
rows_rooted c [] rows e g = tt
rows_rooted c (r ∷ before) rows e g = all_then (IsRooted (history c before)) (IsRooted (history c (r ∷ before))) (more_rooted (history c before) (history c (r ∷ before)) (in_more (history c before) r.what)) (next (history c before) r.what (tree_of c e g before)).instances
    (next_rooted c e g before rows.1 (rows_rooted c before rows.1 e g) r.what rows.0)

-- ---- homes ----

-- the format's versions are of roots
format_root : (k : ℕ) (packs : List Sites) (f : FileId) (s : Stamp) → is_in (format_versions k packs) f s ≡ true → f.ino ≡ 1
format_root k [] f s h = absurd (true_false (sym h))
format_root k (p ∷ ps) f s h = at (p.0 == 0) h (format_root (k + 1) ps f s)
  where
    either : (a b : Bool) → a || b ≡ true → (a ≡ true) ⊎ (b ≡ true)
    either true b h = inl refl
    either false b h = inr h

    over : (is_version f s (format_version k) ≡ true) ⊎ (is_in (format_versions (k + 1) ps) f s ≡ true) → (is_in (format_versions (k + 1) ps) f s ≡ true → f.ino ≡ 1) → f.ino ≡ 1
    over (inl e) later = sym (ap (λ (y : FileId). y.ino) (same_file_eq (At k 1) f (and_first (same_file (At k 1) f) (same_stamp format_stamp s) e)))
    over (inr e) later = later e

    at : (b : Bool) → is_in (cond b (format_versions (k + 1) ps) (format_version k ∷ format_versions (k + 1) ps)) f s ≡ true → (is_in (format_versions (k + 1) ps) f s ≡ true → f.ino ≡ 1) → f.ino ≡ 1
    at true h later = later h
    at false h later = over (either (is_version f s (format_version k)) (is_in (format_versions (k + 1) ps) f s) h) later

abbrev pub HoldsSome : Config → Trace → ℕ → FileId → Type 0
HoldsSome c before z f = (v : Stamp) × (held c before z f ≡ Some v)

held_more : (c : Config) (r : Record) (before : Trace) (z : ℕ) (f : FileId) → HoldsSome c before z f → HoldsSome c (record { line = 0; what = r } ∷ before) z f
held_more c (says.Commit g s stamp parents content) before z f k = at (same_file g f && (s == z))
  where
    at : (b : Bool) → (v : Stamp) × (cond b (Some stamp) (held c before z f) ≡ Some v)
    at true = (stamp, refl)
    at false = k
held_more c (says.Adopt g s stamp) before z f k = at (same_file g f && (s == z))
  where
    at : (b : Bool) → (v : Stamp) × (cond b (Some stamp) (held c before z f) ≡ Some v)
    at true = (stamp, refl)
    at false = k
held_more c r before z f k = k

-- the site of a file's number has a version of it, once it stands
pub home_holds : (c : Config) (trace : Trace) → RowsAreLawful c trace → (f : FileId) (s : Stamp) (z : ℕ) → is_given_by z f.ino ≡ true → is_in (history c trace) f s ≡ true → HoldsSome c trace z f
home_holds c [] rows f s z given k = absurd (no_root z f.ino given (format_root 0 c.packs f s k))
home_holds c (r ∷ before) rows f s z given k = step r.what rows.0 k (λ a. home_holds c before rows.1 f a z given)
  where
    either : (a b : Bool) → a || b ≡ true → (a ≡ true) ⊎ (b ≡ true)
    either true b h = inl refl
    either false b h = inr h

    committed : (g : FileId) (y : ℕ) (stamp : Stamp) (parents : List Stamp) (content : List ℕ) (may : MayCommit c before g y stamp parents content) → g ≡ f → IsRooted (history c before) may.instance → ((a : Stamp) → is_in (history c before) f a ≡ true → HoldsSome c before z f) → HoldsSome c (record { line = 0; what = says.Commit g y stamp parents content } ∷ before) z f
    committed g y stamp parents content may is (inl w) later = held_more c (says.Commit g y stamp parents content) before z f (later w.0 (subst (λ (q : FileId). is_in (history c before) q w.0 ≡ true) (committed_file c before rows.1 g y stamp parents content may ∙ is) w.1))
    committed g y stamp parents content may is (inr w) later = (stamp, ap (λ (b : Bool). cond b (Some stamp) (held c before z f)) here)
      where
        site_is : y ≡ z
        site_is = sym may.at ∙ one_home may.instance.grant.ss z f.ino (subst (λ (q : FileId). is_given_by may.instance.grant.ss q.ino ≡ true) (committed_file c before rows.1 g y stamp parents content may ∙ is) w) given

        own : (q : FileId) → same_file q q ≡ true
        own q = grind (arith, nat_tests)

        both : (a b : Bool) → a ≡ true → b ≡ true → a && b ≡ true
        both true b p q = q
        both false b p q = absurd (true_false (sym p))

        here : same_file g f && (y == z) ≡ true
        here = both (same_file g f) (y == z) (subst (λ (q : FileId). same_file g q ≡ true) is (own g)) (subst (λ (q : ℕ). (y == q) ≡ true) site_is (equal_self y))

    rooted : (g : FileId) (y : ℕ) (stamp : Stamp) (parents : List Stamp) (content : List ℕ) (may : MayCommit c before g y stamp parents content) → IsRooted (history c before) may.instance
    rooted g y stamp parents content may = filter_one (IsRooted (history c before)) (is_writing g) (tree_of c may.epoch g.group before).instances may.instance may.one (rows_rooted c before rows.1 may.epoch g.group)

    newest : (g : FileId) (y : ℕ) (stamp : Stamp) (parents : List Stamp) (content : List ℕ) (may : MayCommit c before g y stamp parents content) → (is_version f s (record { file = g; site = y; stamp = stamp; parents = parents; content = content }) ≡ true) ⊎ (is_in (history c before) f s ≡ true) →
        ((a : Stamp) → is_in (history c before) f a ≡ true → HoldsSome c before z f) → HoldsSome c (record { line = 0; what = says.Commit g y stamp parents content } ∷ before) z f
    newest g y stamp parents content may (inl e) later = committed g y stamp parents content may (same_file_eq g f (and_first (same_file g f) (same_stamp stamp s) e)) (rooted g y stamp parents content may) later
    newest g y stamp parents content may (inr e) later = held_more c (says.Commit g y stamp parents content) before z f (later s e)

    step : (r : Record) → MayCome c before r → is_in (history c (record { line = 0; what = r } ∷ before)) f s ≡ true → ((a : Stamp) → is_in (history c before) f a ≡ true → HoldsSome c before z f) → HoldsSome c (record { line = 0; what = r } ∷ before) z f
    step (says.Commit g y stamp parents content) may k later = newest g y stamp parents content may (either (is_version f s (record { file = g; site = y; stamp = stamp; parents = parents; content = content })) (is_in (history c before) f s) k) later
    step (says.Adopt g y stamp) may k later = held_more c (says.Adopt g y stamp) before z f (later s k)
    step r may k later = later s k
