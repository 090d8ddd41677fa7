-- Along the trace: each version is no longer than a file may be, and each open instance works over the version on which it stands.
use Rattle.std.proofs.Common.{◌≡◌, ◌≤◌, ℕ, ◌+◌, ◌==◌, Bool, true, false, ◌&&◌, cond, List, [], ◌∷◌, ◌++◌, length, filter, Option, None, Some, refl, sym, ◌∙◌, ap, subst, arith}
use Rattle.std.specs.List.{AllByRecursion}
use Rattle.tree_laws.proofs.of_plain_facts.Numbers.{equal, equal_self}
use Rattle.tree_laws.proofs.of_plain_facts.Tests.{and_first, and_second, true_false}
use Rattle.locus_ids.specs.declared.config.Config.{Config}
use Rattle.locus_ids.specs.declared.ids.CallId.{CallId}
use Rattle.locus_ids.specs.declared.ids.EpochId.{EpochId}
use Rattle.locus_ids.specs.declared.ids.FileId.{FileId}
use Rattle.locus_ids.specs.declared.ids.Mode.{Mode}
use Rattle.locus_ids.specs.declared.ids.Serial.{Serial}
use Rattle.locus_ids.specs.declared.ids.Stamp.{Stamp}
use Rattle.locus_ids.specs.declared.sites.Sites.{Sites}
use Rattle.locus_ids.specs.Sizes.{content_bytes_max, file_bytes_max}
use Rattle.commit_graph.specs.Versions.{content_of, is_in, is_version, same_file, same_stamp}
use Rattle.commit_graph.specs.declared.history.Version.{Version}
use Rattle.trace_book.specs.Same.{same_epoch}
use Rattle.trace_book.specs.declared.operation.Op.{Op}
use Rattle.trace_book.specs.declared.operation.Op.TheVariants as op
use Rattle.trace_book.specs.declared.operation.Outcome.{Outcome}
use Rattle.trace_book.specs.declared.record.Record.{Record}
use Rattle.trace_book.specs.declared.record.Record.TheVariants as says
use Rattle.file_effects.specs.Effects.{Deed, Effect, is_refusal}
use Rattle.file_effects.specs.Works.{carried_out, counted}
use Rattle.file_effects.specs.declared.work.Work.{Work}
use Rattle.role_steps.specs.Views.{Told, Shown}
use Rattle.the_run.specs.Worlds.{Line}
use Rattle.tree_model.specs.declared.instance.Instance.{Instance}
use Rattle.tree_model.specs.Epochs.{is_in as is_at}
use Rattle.tree_model.specs.Folds.{Trace}
use Rattle.tree_model.specs.Histories.{format_version, format_versions, history, history_after, stamped_content}
use Rattle.tree_model.specs.Lists.{change_first}
use Rattle.tree_model.specs.State.{TreeState, held_at, is_granted_here, is_inside, is_make, is_named, is_writer}
use Rattle.tree_model.specs.Tree.{acted, grant_of, granted, joined, left, next, once_acted, once_committed, opened, released, tree_of, without_make}
use Rattle.tree_model.specs.Working.{deed_of, effect_of, effect_on, operated_by, work_after}
use Rattle.lawful_trace.specs.TreeRows.{MayCommit, is_writing}
use Rattle.tree_laws.specs.Following.{IsFollowed, MayTell, RowsAreLawful}
use Rattle.tree_laws.specs.Frames.{IsFresh}
use Rattle.tree_laws.specs.Printed.{entries, onto_entries}
use Rattle.tree_laws.proofs.Names.{same_epoch_eq}
use Rattle.tree_laws.proofs.Owing.{inside_is, writer_writes}
use Rattle.tree_laws.proofs.Rows.{followed_rows}
use Rattle.tree_laws.proofs.Orders.Alone.{tree_is}
use Rattle.tree_laws.proofs.Orders.Knowing.{versions_stand}
use Rattle.tree_laws.proofs.Orders.Lists.{all_filtered, all_more, all_then, all_without}
use Rattle.tree_laws.proofs.Orders.Standing.{same_file_eq, same_stamp_eq}
use Rattle.store_laws.proofs.Holdings.Seats.{Seat, rows_seated}
use Rattle.store_laws.proofs.Holdings.Turning.{acted_last, all_passing}
use Rattle.store_laws.proofs.Holdings.Below.{commits_new, line_fresh}
use Rattle.store_laws.proofs.Holdings.Made.{CommitsAreNew}
use Rattle.store_laws.specs.Holdings.Below.{LawsBelow}
use Rattle.store_laws.specs.Works.Working.{AllWork, AreSized, FitsOver, Works}
use Rattle.store_laws.proofs.Works.Effects.{begins_fit, changed_fits, effect_so}

-- ---- lists ----

none_pass : {X : Type 0} (q : X → Bool) (P : X → Type 0) (xs : List X) → filter q xs ≡ [] → AllByRecursion (λ (x : X). q x ≡ true → P x) xs
none_pass q P [] e = tt
none_pass {X} q P (x ∷ xs) e = over (q x) refl e (none_pass q P xs)
  where
    full : (ys : List X) → x ∷ ys ≡ [] → ⊥
    full ys e = cc

    over : (b : Bool) → q x ≡ b → cond b (x ∷ filter q xs) (filter q xs) ≡ [] → (filter q xs ≡ [] → AllByRecursion (λ (y : X). q y ≡ true → P y) xs) → (q x ≡ true → P x) × AllByRecursion (λ (y : X). q y ≡ true → P y) xs
    over true k e later = absurd (full (filter q xs) e)
    over false k e later = ((λ h. absurd (true_false (sym h ∙ k))), later e)

-- where one passes, whoever passes is it
one_passes : {X : Type 0} (q : X → Bool) (y : X) (xs : List X) → filter q xs ≡ y ∷ [] → AllByRecursion (λ (x : X). q x ≡ true → x ≡ y) xs
one_passes q y [] e = tt
one_passes {X} q y (x ∷ xs) e = over (q x) refl e (one_passes q y xs)
  where
    head : (zs : List X) → x ∷ zs ≡ y ∷ [] → x ≡ y
    head zs e = cc

    tail : (zs : List X) → x ∷ zs ≡ y ∷ [] → zs ≡ []
    tail zs e = cc

    over : (b : Bool) → q x ≡ b → cond b (x ∷ filter q xs) (filter q xs) ≡ y ∷ [] → (filter q xs ≡ y ∷ [] → AllByRecursion (λ (z : X). q z ≡ true → z ≡ y) xs) → (q x ≡ true → x ≡ y) × AllByRecursion (λ (z : X). q z ≡ true → z ≡ y) xs
    over true k e later = ((λ h. head (filter q xs) e), none_pass q (λ (z : X). z ≡ y) xs (tail (filter q xs) e))
    over false k e later = ((λ h. absurd (true_false (sym h ∙ k))), later e)

all_both : {X : Type 0} (P Q : X → Type 0) (xs : List X) → AllByRecursion P xs → AllByRecursion Q xs → AllByRecursion (λ (x : X). P x × Q x) xs
all_both P Q [] a b = tt
all_both P Q (x ∷ xs) a b = ((a.0, b.0), all_both P Q xs a.1 b.1)

-- ---- what holds of histories and instances ----

-- a pack holds what a file may be
pub holds_file : (n : ℕ) → n ≤ file_bytes_max → n ≤ content_bytes_max
holds_file n few = omega (arith, few)

abbrev LastStands : List Version → Instance → Type 0
LastStands h x = (s : Stamp) → x.work.last ≡ Some s → is_in h x.grant.file s ≡ true

sized_at : (h : List Version) → AreSized h → (f : FileId) (o : Option Stamp) → length (stamped_content h f o) ≤ file_bytes_max
sized_at h sized f None = omega arith
sized_at h sized f (Some s) = sized f s

-- ---- an operation ----

operated_works : (base : List ℕ) (result : Outcome) (o : Option Effect) (w : Work) → ((e : Effect) → o ≡ Some e → FitsOver base (carried_out e w).content (carried_out e w).changed) → FitsOver base w.content w.changed → FitsOver base (operated_by result o w).content (operated_by result o w).changed
operated_works base result None w each fits = fits
operated_works base result (Some e) w each fits = over (is_refusal result)
  where
    over : (b : Bool) → FitsOver base (cond b (counted w) (carried_out e w)).content (cond b (counted w) (carried_out e w)).changed
    over true = fits
    over false = each e refl

deed_works : (base : List ℕ) (d : Option Deed) (w : Work) → FitsOver base w.content w.changed → (e : Effect) → effect_of d w.content ≡ Some e → FitsOver base (carried_out e w).content (carried_out e w).changed
deed_works base None w fits e k = absurd (none k)
  where
    none : ◌≡◌ {A = Option Effect} None (Some e) → ⊥
    none k = cc
deed_works base (Some d) w fits e k = changed_fits base w.content w.changed e fits (effect_so w.content fits.size d e k)

acts_so : (h : List Version) (t : TreeState) (o : Op) (result : Outcome) (x : Instance) → Works h x → FitsOver (stamped_content h x.grant.file x.work.last) (operated_by result (effect_on h t o x) x.work).content (operated_by result (effect_on h t o x) x.work).changed
acts_so h t o result x k = operated_works (stamped_content h x.grant.file x.work.last) result (effect_on h t o x) x.work (deed_works (stamped_content h x.grant.file x.work.last) (deed_of h t o x) x.work k) k

after_works : (h : List Version) → AreSized h → (t : TreeState) (o : Op) (result : Outcome) (x : Instance) → Works h x → FitsOver (stamped_content h x.grant.file x.work.last) (work_after h t o result x).content (work_after h t o result x).changed
after_works h sized t op.Commit result x k = k
after_works h sized t op.Abort result x k = begins_fit (stamped_content h x.grant.file x.work.last) (sized_at h sized x.grant.file x.work.last)
after_works h sized t op.Mend result x k = acts_so h t op.Mend result x k
after_works h sized t (op.Probe name) result x k = acts_so h t (op.Probe name) result x k
after_works h sized t (op.Find component) result x k = acts_so h t (op.Find component) result x k
after_works h sized t (op.Insert name ino kind) result x k = acts_so h t (op.Insert name ino kind) result x k
after_works h sized t (op.Remove name ino) result x k = acts_so h t (op.Remove name ino) result x k
after_works h sized t (op.Rename component name) result x k = acts_so h t (op.Rename component name) result x k
after_works h sized t op.Empty result x k = acts_so h t op.Empty result x k
after_works h sized t (op.Read at len) result x k = acts_so h t (op.Read at len) result x k
after_works h sized t (op.Write at bytes) result x k = acts_so h t (op.Write at bytes) result x k
after_works h sized t (op.Cut len) result x k = acts_so h t (op.Cut len) result x k

once_works : (h : List Version) → AreSized h → (t : TreeState) (o : Op) (result : Outcome) (x : Instance) → Works h x → Works h (once_acted h t o result x)
once_works h sized t o result x k = subst (λ (s : Option Stamp). FitsOver (stamped_content h x.grant.file s) (work_after h t o result x).content (work_after h t o result x).changed) (sym (acted_last h t o result x)) (after_works h sized t o result x k)

-- ---- one record ----

module _ (c : Config) (older : List Line) (followed : IsFollowed c older) (sized : AreSized (history c (entries older))) (works : (e : EpochId) (g : ℕ) → AllByRecursion (Works (history c (entries older))) (tree_of c e g (entries older)).instances) where
  abbrev before : Trace
  before = entries older

  abbrev h : List Version
  h = history c before

  rows : RowsAreLawful c before
  rows = followed_rows c older followed

  seat_stands : (e : EpochId) (g : ℕ) (x : Instance) → Seat e g before (tree_of c e g before) x → LastStands h x
  seat_stands e g x seat s last = (versions_stand c before rows).held e x.grant.file x.grant.ss s
      (subst (λ (k : ℕ). held_at (tree_of c e k before) x.grant.ss x.grant.file.ino ≡ Some s) (sym seat.group_is) (sym seat.last_is ∙ last))

  -- ---- a commit ----

  module _ (f : FileId) (z : ℕ) (stamp : Stamp) (parents : List Stamp) (content : List ℕ) (may : MayCommit c before f z stamp parents content) (fresh : is_in h f stamp ≡ true → ⊥) where
    abbrev made : Version
    made = record { file = f; site = z; stamp = stamp; parents = parents; content = content }

    its_works : Works h may.instance
    its_works = (subst (AllByRecursion (Works h)) may.one (all_filtered (Works h) (is_writing f) (tree_of c may.epoch f.group before).instances (works may.epoch f.group))).0

    short : length content ≤ file_bytes_max
    short = subst (λ (xs : List ℕ). length xs ≤ file_bytes_max) (sym may.same) its_works.size

    commit_sized : AreSized (made ∷ h)
    commit_sized g s = over (is_version g s made)
      where
        over : (b : Bool) → length (cond b content (content_of h g s)) ≤ file_bytes_max
        over true = short
        over false = sized g s

    -- the version on which another instance stands is what it was
    stays : (x : Instance) → LastStands h x → (o : Option Stamp) → x.work.last ≡ o → stamped_content (made ∷ h) x.grant.file o ≡ stamped_content h x.grant.file o
    stays x stands None e = refl
    stays x stands (Some s) e = over (is_version x.grant.file s made) refl
      where
        it : is_version x.grant.file s made ≡ true → is_in h f stamp ≡ true
        it q = subst (λ (g : FileId). is_in h g stamp ≡ true) (sym (same_file_eq f x.grant.file (and_first (same_file f x.grant.file) _ q)))
            (subst (λ (y : Stamp). is_in h x.grant.file y ≡ true) (sym (same_stamp_eq stamp s (and_second (same_file f x.grant.file) _ q))) (stands s e))

        over : (b : Bool) → is_version x.grant.file s made ≡ b → cond b content (content_of h x.grant.file s) ≡ content_of h x.grant.file s
        over true q = absurd (fresh (it q))
        over false q = refl

    keeps : (x : Instance) → Works h x → LastStands h x → Works (made ∷ h) x
    keeps x k stands = subst (λ (base : List ℕ). FitsOver base x.work.content x.work.changed) (sym (stays x stands x.work.last refl)) k

    turns : (x : Instance) → is_writer f z x ≡ true → x ≡ may.instance → Works h x → Works (made ∷ h) (once_committed stamp x)
    turns x writes is k = subst (λ (base : List ℕ). FitsOver base x.work.content []) (sym base_is) (begins_fit x.work.content k.size)
      where
        own_file : (g : FileId) → same_file g g ≡ true
        own_file g = both (g.group == g.group) (g.ino == g.ino) (equal_self g.group) (equal_self g.ino)
          where
            both : (a b : Bool) → a ≡ true → b ≡ true → a && b ≡ true
            both true b p q = q
            both false b p q = absurd (true_false (sym p))

        own_stamp : (s : Stamp) → same_stamp s s ≡ true
        own_stamp s = both (s.site == s.site) (s.n == s.n) (equal_self s.site) (equal_self s.n)
          where
            both : (a b : Bool) → a ≡ true → b ≡ true → a && b ≡ true
            both true b p q = q
            both false b p q = absurd (true_false (sym p))

        file_is : x.grant.file ≡ f
        file_is = same_file_eq x.grant.file f (and_first (same_file x.grant.file f) _ writes)

        named : is_version x.grant.file stamp made ≡ true
        named = ap (λ (b : Bool). b && same_stamp stamp stamp) (subst (λ (g : FileId). same_file f g ≡ true) (sym file_is) (own_file f)) ∙ own_stamp stamp

        base_is : content_of (made ∷ h) x.grant.file stamp ≡ x.work.content
        base_is = ap (λ (b : Bool). cond b content (content_of h x.grant.file stamp)) named ∙ (may.same ∙ ap (λ (y : Instance). y.work.content) (sym is))

    module _ (e : EpochId) (g : ℕ) where
      abbrev t : TreeState
      t = tree_of c e g before

      abbrev Old : Instance → Type 0
      Old x = Works h x × LastStands h x

      olds : AllByRecursion Old t.instances
      olds = all_both (Works h) (LastStands h) t.instances (works e g) (all_then (Seat e g before t) (LastStands h) (λ x k. seat_stands e g x k) t.instances (rows_seated c before rows e g))

      -- in the tree of the site's epoch there is one writer, and in the tree of another group none
      only : is_inside t z ≡ true → AllByRecursion (λ (x : Instance). is_writing f x ≡ true → x ≡ may.instance) t.instances
      only inside = over (f.group == g) refl
        where
          epoch_is : may.epoch ≡ e
          epoch_is = same_epoch_eq may.epoch e (sym (ap (λ (o : Option EpochId). is_at o e) may.inside) ∙ (sym (inside_is c before e g z) ∙ inside))

          strange : (f.group == g) ≡ false → (x : Instance) → Seat e g before t x → is_writing f x ≡ true → x ≡ may.instance
          strange q x seat k = absurd (true_false (sym (subst (λ (n : ℕ). (f.group == n) ≡ true) (ap (λ (y : FileId). y.group) (sym (same_file_eq x.grant.file f (and_first (same_file x.grant.file f) _ k))) ∙ seat.group_is) (equal_self f.group)) ∙ q))

          over : (b : Bool) → (f.group == g) ≡ b → AllByRecursion (λ (x : Instance). is_writing f x ≡ true → x ≡ may.instance) t.instances
          over true q = one_passes (is_writing f) may.instance t.instances (subst (λ (u : TreeState). filter (is_writing f) u.instances ≡ may.instance ∷ []) (tree_is c e may.epoch g f.group before epoch_is (equal f.group g q)) may.one)
          over false q = all_then (Seat e g before t) (λ (x : Instance). is_writing f x ≡ true → x ≡ may.instance) (strange q) t.instances (rows_seated c before rows e g)

      commit_works : AllByRecursion (Works (made ∷ h)) (cond (is_inside t z) (change_first (is_writer f z) (once_committed stamp) t.instances) t.instances)
      commit_works = over (is_inside t z) refl
        where
          over : (b : Bool) → is_inside t z ≡ b → AllByRecursion (Works (made ∷ h)) (cond b (change_first (is_writer f z) (once_committed stamp) t.instances) t.instances)
          over true inside = all_passing (λ (x : Instance). Old x × (is_writing f x ≡ true → x ≡ may.instance)) (Works (made ∷ h)) (is_writer f z) (once_committed stamp)
              (λ x k. keeps x k.0.0 k.0.1)
              (λ x writes k. turns x writes (k.1 (writer_writes f z x writes)) k.0.0)
              t.instances (all_both Old (λ (x : Instance). is_writing f x ≡ true → x ≡ may.instance) t.instances olds (only inside))
          over false out = all_then Old (Works (made ∷ h)) (λ x k. keeps x k.0 k.1) t.instances olds

  -- ---- any other record ----

  module _ (e : EpochId) (g : ℕ) where
    abbrev tree : TreeState
    tree = tree_of c e g before

    old : AllByRecursion (Works h) tree.instances
    old = works e g

    grants : (d : EpochId) (call : CallId) (i : Serial) (m : Mode) (f : FileId) (stamp : Option Stamp) (ss : ℕ) (a : Bool) → AllByRecursion (Works h) (cond a (granted h (grant_of tree call i m f ss) stamp tree) tree).instances
    grants d call i m f stamp ss false = old
    grants d call i m f stamp ss true = over (f.group == tree.group)
      where
        over : (b : Bool) → AllByRecursion (Works h) (cond b (tree.instances ++ opened h (grant_of tree call i m f ss) stamp ∷ []) tree.instances)
        over true = all_more (Works h) tree.instances (opened h (grant_of tree call i m f ss) stamp) old (begins_fit (stamped_content h f stamp) (sized_at h sized f stamp))
        over false = old

    same_if : (b : Bool) (u : TreeState) → u.instances ≡ tree.instances → AllByRecursion (Works h) (cond b u tree).instances
    same_if true u k = subst (AllByRecursion (Works h)) (sym k) old
    same_if false u k = old

    joins : (b : Bool) (u w : TreeState) → u.instances ≡ tree.instances → w.instances ≡ tree.instances → AllByRecursion (Works h) (cond b u w).instances
    joins true u w k l = subst (AllByRecursion (Works h)) (sym k) old
    joins false u w k l = subst (AllByRecursion (Works h)) (sym l) old

    acts : (i : Serial) (o : Op) (result : Outcome) (b : Bool) → AllByRecursion (Works h) (cond b (acted h i o result tree) tree).instances
    acts i o result true = all_passing (Works h) (Works h) (is_named i) (once_acted h tree o result) (λ x k. k) (λ x q k. once_works h sized tree o result x k) tree.instances old
    acts i o result false = old

    ends : (i : Serial) (f : FileId) (stamp : Option Stamp) (b : Bool) → AllByRecursion (Works h) (cond b (released i f stamp tree) tree).instances
    ends i f stamp true = all_without (Works h) (is_named i) tree.instances old
    ends i f stamp false = old

  record_works : (n : ℕ) (r : Record) → MayTell c older (Shown r) → IsFresh c older (Shown r) → AreSized (history_after r h) × ((e : EpochId) (g : ℕ) → AllByRecursion (Works (history_after r h)) (next h r (tree_of c e g before)).instances)
  record_works n (says.Commit f z stamp parents content) may fresh = (commit_sized f z stamp parents content may.row fresh, λ e g. commit_works f z stamp parents content may.row fresh e g)
  record_works n (says.Grant d call request i m f stamp ss) may fresh = (sized, λ e g. grants e g d call i m f stamp ss (same_epoch d (tree_of c e g before).epoch))
  record_works n (says.Act d i k o result) may fresh = (sized, λ e g. acts e g i o result (same_epoch d (tree_of c e g before).epoch && is_granted_here (tree_of c e g before) i))
  record_works n (says.Release d i f stamp) may fresh = (sized, λ e g. ends e g i f stamp (same_epoch d (tree_of c e g before).epoch && (f.group == (tree_of c e g before).group)))
  record_works n (says.Join z d m) may fresh = (sized, λ e g. joins e g (same_epoch d (tree_of c e g before).epoch) (joined z m (tree_of c e g before)) (left z (tree_of c e g before)) refl refl)
  record_works n (says.Start d k copies) may fresh = (sized, λ e g. same_if e g (same_epoch d (tree_of c e g before).epoch && (k == (tree_of c e g before).group)) (record (tree_of c e g before) { started = true }) refl)
  record_works n (says.Refuse d call request i m f why) may fresh = (sized, λ e g. same_if e g (same_epoch d (tree_of c e g before).epoch && ((f.group == (tree_of c e g before).group) && is_make m)) (record (tree_of c e g before) { makes = without_make call (tree_of c e g before).makes }) refl)
  record_works n _ may fresh = (sized, works)

-- ---- all ----

formats_sized : (k : ℕ) (packs : List Sites) → AreSized (format_versions k packs)
formats_sized k [] f s = omega arith
formats_sized k (p ∷ ps) f s = at (p.0 == 0) (formats_sized (k + 1) ps f s)
  where
    over : (b : Bool) → length (content_of (format_versions (k + 1) ps) f s) ≤ file_bytes_max → length (cond b [] (content_of (format_versions (k + 1) ps) f s)) ≤ file_bytes_max
    over true later = omega arith
    over false later = later

    at : (a : Bool) → length (content_of (format_versions (k + 1) ps) f s) ≤ file_bytes_max → length (content_of (cond a (format_versions (k + 1) ps) (format_version k ∷ format_versions (k + 1) ps)) f s) ≤ file_bytes_max
    at true later = later
    at false later = over (is_version f s (format_version k)) later

new_works : (c : Config) (trace : List Line) → IsFollowed c trace → CommitsAreNew c (entries trace) → AreSized (history c (entries trace)) × ((e : EpochId) (g : ℕ) → AllByRecursion (Works (history c (entries trace))) (tree_of c e g (entries trace)).instances)
new_works c [] h new = (formats_sized 0 c.packs, λ e g. tt)
new_works c (x ∷ older) h new = over x.told h.0 (line_fresh c older x.number x.told new) new (λ k. new_works c older h.1 k)
  where
    over : (y : Told) → MayTell c older y → IsFresh c older y → CommitsAreNew c (onto_entries x.number y (entries older)) →
        (CommitsAreNew c (entries older) → AreSized (history c (entries older)) × ((e : EpochId) (g : ℕ) → AllByRecursion (Works (history c (entries older))) (tree_of c e g (entries older)).instances)) →
        AreSized (history c (onto_entries x.number y (entries older))) × ((e : EpochId) (g : ℕ) → AllByRecursion (Works (history c (onto_entries x.number y (entries older)))) (tree_of c e g (onto_entries x.number y (entries older))).instances)
    over (Shown r) may fresh k before = (let so : AreSized (history c (entries older)) × ((e : EpochId) (g : ℕ) → AllByRecursion (Works (history c (entries older))) (tree_of c e g (entries older)).instances) = before k.1 in record_works c older h.1 so.0 so.1 x.number r may fresh)
    over _ may fresh k before = before k

pub trace_works : (c : Config) (trace : List Line) → IsFollowed c trace → LawsBelow c trace → AreSized (history c (entries trace)) × ((e : EpochId) (g : ℕ) → AllByRecursion (Works (history c (entries trace))) (tree_of c e g (entries trace)).instances)
trace_works c trace h laws = new_works c trace h (commits_new c trace h laws.once)

pub all_work : (c : Config) (trace : List Line) → IsFollowed c trace → LawsBelow c trace → AllWork c trace
all_work c trace h laws = (let so : AreSized (history c (entries trace)) × ((e : EpochId) (g : ℕ) → AllByRecursion (Works (history c (entries trace))) (tree_of c e g (entries trace)).instances) = trace_works c trace h laws in record { sized = so.0; works = so.1 })
