-- While nobody has a file open its only kept version stays so: by the trace.
use Rattle.std.proofs.Common.{Bool, List, Option, Some, [], ap, arith, cond, false, filter, inl, inr, map, refl, subst, sym, true, ℕ, ◌++◌, ◌==◌, ◌∙◌, ◌∷◌, ◌≡◌, ◌⊎◌}
use Rattle.std.proofs.lemmas.Bool.Decides.{nat_tests}
use Rattle.std.specs.List.{find}
use Rattle.commit_graph.specs.Versions.{is_in, same_file}
use Rattle.calm_laws.proofs.Convergence.Vectors.{never_below}
use Rattle.calm_laws.specs.Convergence.Offers.{Offer}
use Rattle.calm_laws.specs.Convergence.Rounds.{IsShut, IsShutFrom}
use Rattle.lawful_trace.specs.Lawful.{MayCome}
use Rattle.locus_ids.specs.Sites.{has}
use Rattle.locus_ids.specs.declared.config.Config.{Config}
use Rattle.locus_ids.specs.declared.ids.EpochId.{EpochId}
use Rattle.locus_ids.specs.declared.ids.FileId.{FileId}
use Rattle.locus_ids.specs.declared.ids.Serial.{Serial}
use Rattle.locus_ids.specs.declared.ids.Stamp.{Stamp}
use Rattle.locus_ids.specs.declared.sites.Sites.{Sites}
use Rattle.tree_laws.proofs.Orders.Keeping.{EndsIn, IsNew, PublishesNone, ends_in, file_eq, kept_by, published_same}
use Rattle.calm_laws.proofs.Pulls.Falling.{past_earlier, written_later}
use Rattle.calm_laws.proofs.Pulls.Under.{known_under}
use Rattle.store_laws.proofs.Holdings.Begun.{open_in_group}
use Rattle.store_laws.proofs.Holdings.Rising.{known_stands}
use Rattle.store_laws.proofs.OneTree.RemoveScripts.{goes}
use Rattle.tree_laws.proofs.Syncs.Notices.{kept_is_known}
use Rattle.tree_laws.proofs.Syncs.Orderly.{below_through}
use Rattle.calm_laws.specs.Pulls.Known.{written}
use Rattle.store_laws.specs.OneTree.Rest.{Past, more}
use Rattle.role_steps.proofs.of_plain_facts.Numbers.{equal, same}
use Rattle.role_steps.proofs.of_plain_facts.Options.{none_some, some_same}
use Rattle.role_steps.proofs.of_plain_facts.Tests.{true_false}
use Rattle.role_steps.specs.Versions.{is_below}
use Rattle.role_steps.specs.Views.{Shown, Told}
use Rattle.role_steps.specs.declared.rounds.InEpoch.{InEpoch}
use Rattle.role_steps.specs.declared.synchronizing.VersionRow.{VersionRow}
use Rattle.the_run.specs.Worlds.{Line}
use Rattle.trace_book.specs.declared.record.Record.{Record}
use Rattle.trace_book.specs.declared.record.Record.TheVariants as says
use Rattle.tree_laws.proofs.Kinship.{started_stays}
use Rattle.tree_laws.proofs.Origins.{set_same}
use Rattle.tree_laws.proofs.Rows.{followed_rows}
use Rattle.tree_laws.specs.Following.{IsFollowed, RowsAreLawful}
use Rattle.tree_laws.specs.Frames.{IsFresh}
use Rattle.tree_laws.specs.Instances.{IsKnown, IsStarted, Stands, instance_now}
use Rattle.tree_laws.specs.Printed.{entries, onto_entries}
use Rattle.tree_model.specs.Files.{set_of_file}
use Rattle.tree_model.specs.Folds.{Trace}
use Rattle.tree_model.specs.Histories.{history}
use Rattle.tree_model.specs.State.{has_stamp, instance_in, is_named, opener_of, openers, stamps_of}
use Rattle.tree_model.specs.Tree.{kept_in, published, tree_of}
use Rattle.tree_model.specs.declared.instance.Instance.{Instance}

-- the kept version at the end
abbrev pub last_offer : FileId → VersionRow → Offer
last_offer file v = record { file = file; stamp = v.stamp; vector = v.vector }

-- it is the only kept version of its file in the one tree
pub record IsKeptOnly (c : Config) (t : List Line) (e : InEpoch) (d : Offer) : Type 0 where
  pub only : kept_in c (entries t) e.id d.file ≡ d.stamp ∷ []
  pub vector : d.vector ≡ written c t d.file d.stamp
  pub stands : Stands c t d.file d.stamp

-- ---- what nobody has open isn't published ----

file_itself : (f : FileId) → same_file f f ≡ true
file_itself f = grind (arith, nat_tests)

cons_nil : {A : Type 0} (z : A) (zs : List A) → ◌≡◌ {A = List A} (z ∷ zs) [] → ⊥
cons_nil z zs q = cc

-- what is found stands among those that pass
pub found_left : {A B : Type 0} (through test : A → Bool) (g : A → B) (xs : List A) (x : A) → find through xs ≡ Some x → test x ≡ true → map g (filter test xs) ≡ [] → ⊥
found_left through test g [] x e t none = none_some x e
found_left {A = A} {B = B} through test g (y ∷ ys) x e t none = over (through y) (test y) refl e none (λ k m. found_left through test g ys x k t m)
  where
    over : (a b : Bool) → test y ≡ b → ◌≡◌ {A = Option A} (cond a (Some y) (find through ys)) (Some x) → ◌≡◌ {A = List B} (map g (cond b (y ∷ filter test ys) (filter test ys))) [] → (find through ys ≡ Some x → map g (filter test ys) ≡ [] → ⊥) → ⊥
    over a true q k m rest = cons_nil (g y) (map g (filter test ys)) m
    over true false q k m rest = true_false (sym t ∙ (ap test (sym (some_same y x k)) ∙ q))
    over false false q k m rest = rest k m

-- no instance of the file is open in the tree
pub none_open : (c : Config) (e : InEpoch) (file : FileId) (t : List Line) → IsFollowed c t → IsShut c e file t → (i : Serial) (x : Instance) → instance_now c t e.id i ≡ Some x → x.grant.file ≡ file → ⊥
none_open c e file t followed shut i x now is = found_left (is_named i) (λ (y : Instance). same_file y.grant.file file) opener_of (tree_of c e.id file.group (entries t)).instances x found (subst (λ (g : FileId). same_file g file ≡ true) (sym is) (file_itself file)) shut
  where
    found : find (is_named i) (tree_of c e.id file.group (entries t)).instances ≡ Some x
    found = subst (λ (g : FileId). instance_in (tree_of c e.id g.group (entries t)) i ≡ Some x) is (open_in_group c t followed e.id i x now)

none_published : (c : Config) (e : InEpoch) (file : FileId) (before : Trace) → openers (tree_of c e.id file.group before) file ≡ [] → (r : Record) → MayCome c before r → PublishesNone c before e.id file r
none_published c e file before shut (says.Release d j g stamp) may = λ same. over (ends_in c before e.id file d j g stamp may.gives same) (g.ino == file.ino) refl
  where
    over : EndsIn c before e.id file d j g stamp → (b : Bool) → (g.ino == file.ino) ≡ b → stamps_of (published g stamp (tree_of c e.id file.group before).known) file.ino ≡ stamps_of (tree_of c e.id file.group before).known file.ino
    over w false k = published_same g stamp file.ino (tree_of c e.id file.group before).known k
    over w true k = absurd (found_left (is_named j) (λ (y : Instance). same_file y.grant.file file) opener_of (tree_of c e.id file.group before).instances w.ended w.found
        (subst (λ (h : FileId). same_file h file ≡ true) (sym (w.file_is ∙ file_eq g file w.group_is (equal g.ino file.ino k))) (file_itself file)) shut)
none_published c e file before shut r may = tt

-- ---- one line ----

new_commit : (c : Config) (t : List Line) (r : Record) → IsFresh c t (Shown r) → IsNew c (entries t) r
new_commit c t (says.Commit f site stamp parents content) fresh = over (is_in (history c (entries t)) f stamp) refl
  where
    over : (b : Bool) → is_in (history c (entries t)) f stamp ≡ b → b ≡ false
    over true e = absurd (fresh e)
    over false e = refl
new_commit c t r fresh = tt

kept_told : (c : Config) (n : ℕ) (x : Told) (t : List Line) (e : InEpoch) (file : FileId) → Past c (record { number = n; told = x } ∷ t) → IsStarted c t e.id file.group → IsShut c e file t → kept_in c (onto_entries n x (entries t)) e.id file ≡ kept_in c (entries t) e.id file
kept_told c n (Shown r) t e file past started shut =
    let rows : RowsAreLawful c (entries (record { number = n; told = Shown r } ∷ t)) = followed_rows c (record { number = n; told = Shown r } ∷ t) past.followed in
    kept_by c (entries t) past.rest.packs rows.1 e.id file started n r rows.0 (new_commit c t r past.rest.each.0.fresh) (none_published c e file (entries t) shut r rows.0)
kept_told c n _ t e file past started shut = refl

-- ---- all lines between ----

-- what stands by the trace of a file at rest, which is for the site
pub record RestsBy (c : Config) (e : InEpoch) (file : FileId) (v : VersionRow) (s : ℕ) (t : List Line) : Type 0 where
  pub past : Past c t
  pub kept : IsKeptOnly c t e (last_offer file v)
  pub started : IsStarted c t e.id file.group
  pub shut : IsShut c e file t
  pub in_set : has (set_of_file c (entries t) file) s ≡ true

own_stamp : (s : Stamp) → has_stamp (s ∷ []) s ≡ true
own_stamp s = grind (arith, nat_tests)

-- the kept version is known, and stands
pub kept_known : (c : Config) (e : InEpoch) (file : FileId) (stamp : Stamp) (t : List Line) → kept_in c (entries t) e.id file ≡ stamp ∷ [] → IsKnown c t e.id file stamp
kept_known c e file stamp t only = kept_is_known c t (record { config = c; me = 0; boot = 0; epoch = e.id; members = e.members }) file stamp (ap (λ (ss : List Stamp). has_stamp ss stamp) only ∙ own_stamp stamp)

one_back : (c : Config) (x : Line) (t : List Line) (e : InEpoch) (file : FileId) (v : VersionRow) (s : ℕ) → IsStarted c t e.id file.group → IsShut c e file t → RestsBy c e file v s (x ∷ t) → RestsBy c e file v s t
one_back c x t e file v s started shut h = record {
  past = past;
  kept = record { only = only; vector = h.kept.vector ∙ written_later c (x ∷ []) t h.past file v.stamp stands; stands = stands };
  started = started;
  shut = shut;
  in_set = ap (λ (z : Sites). has z s) (sym (set_same c x.number x.told t file v.stamp past.followed h.past.followed.0 stands)) ∙ h.in_set;
}
  where
    past : Past c t
    past = past_earlier c (x ∷ []) t h.past

    only : kept_in c (entries t) e.id file ≡ v.stamp ∷ []
    only = sym (kept_told c x.number x.told t e file h.past started shut) ∙ h.kept.only

    stands : Stands c t file v.stamp
    stands = known_stands c (entries t) (followed_rows c t past.followed) e.id file v.stamp (kept_known c e file v.stamp t only)

pub starts_stay : (c : Config) (new old : List Line) (e : EpochId) (g : ℕ) → IsStarted c old e g → IsStarted c (new ++ old) e g
starts_stay c [] old e g h = h
starts_stay c (x ∷ xs) old e g h = started_stays c x.number x.told (xs ++ old) e g (starts_stay c xs old e g h)

pub rests_back : (c : Config) (e : InEpoch) (file : FileId) (v : VersionRow) (s : ℕ) (new old : List Line) → IsStarted c old e.id file.group → IsShutFrom c e file old (new ++ old) → RestsBy c e file v s (new ++ old) → RestsBy c e file v s old
rests_back c e file v s [] old started shut h = h
rests_back c e file v s (x ∷ xs) old started shut h =
    rests_back c e file v s xs old started (λ more since now is goes. shut (x ∷ more) since now (ap (λ (l : List Line). x ∷ l) is) goes)
    (one_back c x (xs ++ old) e file v s (starts_stay c xs old e.id file.group started) (shut (x ∷ []) xs (xs ++ old) refl refl) h)

-- ---- versions above it ----

-- of the kept version's file nothing is known above it
module _ (c : Config) (t : List Line) (past : Past c t) (e : InEpoch) (o : Offer) (kept : IsKeptOnly c t e o) where
  pub under_it : (q : Stamp) (vector : List ℕ) → IsKnown c t e.id o.file q → vector ≡ written c t o.file q → ((q ≡ o.stamp) × (vector ≡ o.vector)) ⊎ (is_below vector o.vector ≡ true)
  under_it q vector known is = over (known_under c t past e.id o.file o.stamp q kept.only known)
    where
      over : (q ≡ o.stamp) ⊎ (is_below (written c t o.file q) (written c t o.file o.stamp) ≡ true) → ((q ≡ o.stamp) × (vector ≡ o.vector)) ⊎ (is_below vector o.vector ≡ true)
      over (inl eq) = inl (eq, is ∙ (ap (written c t o.file) eq ∙ sym kept.vector))
      over (inr k) = inr (ap (λ (x : List ℕ). is_below x o.vector) is ∙ (ap (is_below (written c t o.file q)) kept.vector ∙ k))

  pub not_over : (q : Stamp) (vector : List ℕ) → IsKnown c t e.id o.file q → vector ≡ written c t o.file q → is_below o.vector vector ≡ false
  not_over q vector known is = over (under_it q vector known is)
    where
      not_true : (b : Bool) → (b ≡ true → ⊥) → b ≡ false
      not_true true f = absurd (f refl)
      not_true false f = refl

      over : ((q ≡ o.stamp) × (vector ≡ o.vector)) ⊎ (is_below vector o.vector ≡ true) → is_below o.vector vector ≡ false
      over (inl k) = ap (is_below o.vector) k.1 ∙ never_below o.vector
      over (inr k) = not_true (is_below o.vector vector) (λ h. true_false (sym (below_through o.vector vector o.vector h k) ∙ never_below o.vector))

  pub it_or_below : (q : Stamp) (vector : List ℕ) → IsKnown c t e.id o.file q → vector ≡ written c t o.file q → is_below vector o.vector ≡ false → (q ≡ o.stamp) × (vector ≡ o.vector)
  it_or_below q vector known is high = over (under_it q vector known is)
    where
      over : ((q ≡ o.stamp) × (vector ≡ o.vector)) ⊎ (is_below vector o.vector ≡ true) → (q ≡ o.stamp) × (vector ≡ o.vector)
      over (inl k) = k
      over (inr k) = absurd (true_false (sym k ∙ high))
