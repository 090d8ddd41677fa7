-- Versions that the trees know stand in the history.
use Rattle.std.proofs.Common.{◌≡◌, ℕ, zero, suc, ◌+◌, ◌-◌, ◌==◌, Bool, true, false, ◌&&◌, ◌||◌, cond, List, [], ◌∷◌, ◌++◌, filter, map, get_or, Option, Some, None, refl, sym, ap, ◌∙◌, subst, arith, ◌⊎◌, inl, inr}
use Rattle.std.proofs.lemmas.Bool.Decides.{nat_tests}
use Rattle.std.proofs.lemmas.Nat.Bits.{bit_at-zero}
use Rattle.std.specs.Int.{bit_at}
use Rattle.std.specs.List.{AllByRecursion}
use Rattle.std.specs.Option.{is_none}
use Rattle.plain_facts.proofs.Numbers.{equal}
use Rattle.plain_facts.proofs.Options.{some_same}
use Rattle.plain_facts.proofs.Tests.{and_first, and_second, or_first, or_second, true_false}
use Rattle.locus_ids.specs.Sites.{has}
use Rattle.locus_ids.specs.declared.sites.Members.{Members}
use Rattle.locus_ids.specs.declared.sites.Sites.{Sites}
use Rattle.locus_ids.specs.declared.config.Config.{Config}
use Rattle.locus_ids.specs.declared.ids.Brought.{Brought}
use Rattle.locus_ids.specs.declared.ids.FileId.{FileId}
use Rattle.locus_ids.specs.declared.ids.Serial.{Serial}
use Rattle.locus_ids.specs.declared.ids.Stamp.{Stamp}
use Rattle.commit_graph.specs.declared.history.Version.{Version}
use Rattle.commit_graph.specs.Versions.{is_in, is_version, same_file, same_stamp}
use Rattle.trace_book.specs.declared.operation.Op.{Op}
use Rattle.trace_book.specs.declared.operation.Op.TheVariants as op
use Rattle.trace_book.specs.declared.operation.Outcome.{Outcome}
use Rattle.trace_book.specs.declared.record.Record.{Record}
use Rattle.trace_book.specs.declared.record.Record.TheVariants as says
use Rattle.tree_model.specs.of_file_effects.Effects.{Effect, is_refusal}
use Rattle.tree_model.specs.of_file_effects.Works.{carried_out, counted}
use Rattle.tree_model.specs.of_file_effects.declared.work.Work.{Work}
use Rattle.tree_model.specs.declared.copy.HeldCopy.{HeldCopy}
use Rattle.tree_model.specs.declared.instance.Instance.{Instance}
use Rattle.tree_model.specs.Folds.{Trace}
use Rattle.tree_model.specs.Given.{instance_ends}
use Rattle.tree_model.specs.Histories.{format_stamp, format_version, format_versions, history, history_after}
use Rattle.tree_model.specs.Packs.{has_pack, no_sites}
use Rattle.tree_model.specs.Same.{same_version}
use Rattle.tree_model.specs.State.{TreeState, copy_of, has_stamp, held_at, held_of, instance_in, is_brought_below, is_copy_of, is_inside, is_named, stamps_of, with_all, with_brought, with_copy}
use Rattle.tree_model.specs.Tree.{copy_now, entered, has_now, joined, published, with_root}
use Rattle.tree_model.specs.Working.{effect_on, operated_by, work_after}
use Rattle.tree_laws.proofs.Orders.Lists.{all_filtered, all_found, all_mapped, all_more, all_put, all_then}

-- ---- what stands ----

abbrev pub At : ℕ → ℕ → FileId
At g ino = record { group = g; ino = ino }

-- what a site has now, and what it had in the epoch
pub record CopyStands (h : List Version) (g : ℕ) (x : HeldCopy) : Type 0 where
  pub now : is_in h (At g x.ino) x.now ≡ true
  pub held : (s : Stamp) → x.held ≡ Some s → is_in h (At g x.ino) s ≡ true

abbrev pub KnownStands : List Version → ℕ → Brought → Type 0
KnownStands h g b = is_in h (At g b.ino) b.stamp ≡ true

abbrev pub WorkStands : List Version → Instance → Type 0
WorkStands h x = (s : Stamp) → x.work.committed ≡ Some s → is_in h x.grant.file s ≡ true

pub record Sound (h : List Version) (t : TreeState) : Type 0 where
  pub copies : AllByRecursion (CopyStands h t.group) t.copies
  pub known : AllByRecursion (KnownStands h t.group) t.known
  pub works : AllByRecursion (WorkStands h) t.instances

-- ---- the same file and stamp ----

pub same_file_eq : (a b : FileId) → same_file a b ≡ true → a ≡ b
same_file_eq a b h = id_eq (grind (arith, nat_tests)) (grind (arith, nat_tests))
  where
    id_eq : a.group ≡ b.group → a.ino ≡ b.ino → a ≡ b
    id_eq e f = λ i. record { group = e i; ino = f i }

pub same_stamp_eq : (a b : Stamp) → same_stamp a b ≡ true → a ≡ b
same_stamp_eq a b h = id_eq (grind (arith, nat_tests)) (grind (arith, nat_tests))
  where
    id_eq : a.site ≡ b.site → a.n ≡ b.n → a ≡ b
    id_eq e f = λ i. record { site = e i; n = f i }

own_version : (v : Version) → is_version v.file v.stamp v ≡ true
own_version v = both (same_file v.file v.file) (same_stamp v.stamp v.stamp) (own_file v.file) (own_stamp v.stamp)
  where
    own_file : (a : FileId) → same_file a a ≡ true
    own_file a = grind (arith, nat_tests)

    own_stamp : (a : Stamp) → same_stamp a a ≡ true
    own_stamp a = grind (arith, nat_tests)

    both : (a b : Bool) → a ≡ true → b ≡ true → a && b ≡ true
    both true b x y = y
    both false b x y = absurd (true_false (sym x))

-- the newest version stands
pub newest : (v : Version) (h : List Version) (f : FileId) (s : Stamp) → v.file ≡ f → v.stamp ≡ s → is_in (v ∷ h) f s ≡ true
newest v h f s e k = subst (λ (g : FileId). is_in (v ∷ h) g s ≡ true) e (subst (λ (r : Stamp). is_in (v ∷ h) v.file r ≡ true) k (or_first (is_version v.file v.stamp v) (is_in h v.file v.stamp) (own_version v)))

-- ---- roots ----

none_in : (s : Sites) (site : ℕ) → s.0 ≡ 0 → has s site ≡ true → ⊥
none_in s site z h = true_false (sym h ∙ ap (λ (n : ℕ). bit_at n (site - 1) == 1) z ∙ ap (λ (n : ℕ). n == 1) (bit_at-zero (site - 1)))

root_in : (k : ℕ) (packs : List Sites) (i site : ℕ) → has (get_or packs i no_sites) site ≡ true → is_in (format_versions k packs) (At (k + i) 1) format_stamp ≡ true
root_in k [] i site h = absurd (none_in no_sites site refl h)
root_in k (p ∷ ps) zero site h = at (p.0 == 0) refl
  where
    here : k ≡ k + 0
    here = omega arith

    at : (b : Bool) → (p.0 == 0) ≡ b → is_in (cond b (format_versions (k + 1) ps) (format_version k ∷ format_versions (k + 1) ps)) (At (k + 0) 1) format_stamp ≡ true
    at true e = absurd (none_in p site (equal p.0 0 e) h)
    at false e = newest (format_version k) (format_versions (k + 1) ps) (At (k + 0) 1) format_stamp (ap (λ (n : ℕ). At n 1) here) refl
root_in k (p ∷ ps) (suc i) site h = at (p.0 == 0) (root_in (k + 1) ps i site h)
  where
    there : (k + 1) + i ≡ k + suc i
    there = omega arith

    at : (b : Bool) → is_in (format_versions (k + 1) ps) (At ((k + 1) + i) 1) format_stamp ≡ true → is_in (cond b (format_versions (k + 1) ps) (format_version k ∷ format_versions (k + 1) ps)) (At (k + suc i) 1) format_stamp ≡ true
    at true x = subst (λ (n : ℕ). is_in (format_versions (k + 1) ps) (At n 1) format_stamp ≡ true) there x
    at false x = or_second (is_version (At (k + suc i) 1) format_stamp (format_version k)) _ (subst (λ (n : ℕ). is_in (format_versions (k + 1) ps) (At n 1) format_stamp ≡ true) there x)

-- ---- one record more ----

in_more : (h : List Version) (r : Record) (f : FileId) (s : Stamp) → is_in h f s ≡ true → is_in (history_after r h) f s ≡ true
in_more h (says.Commit g site stamp parents content) f s x = or_second (is_version f s (record { file = g; site = site; stamp = stamp; parents = parents; content = content })) (is_in h f s) x
in_more h _ f s x = x

-- the root of a pack stands in every history
pub roots_stand : (c : Config) (trace : Trace) (g site : ℕ) → has_pack c g site ≡ true → is_in (history c trace) (At g 1) format_stamp ≡ true
roots_stand c [] g site h = subst (λ (n : ℕ). is_in (format_versions 0 c.packs) (At n 1) format_stamp ≡ true) from_start (root_in 0 c.packs g site h)
  where
    from_start : 0 + g ≡ g
    from_start = omega arith
roots_stand c (r ∷ before) g site h = in_more (history c before) r.what (At g 1) format_stamp (roots_stand c before g site h)

pub more_sound : (h k : List Version) (t : TreeState) → ((f : FileId) (s : Stamp) → is_in h f s ≡ true → is_in k f s ≡ true) → Sound h t → Sound k t
more_sound h k t more x = record {
  copies = all_then (CopyStands h t.group) (CopyStands k t.group) (λ y z. record { now = more (At t.group y.ino) y.now z.now; held = λ s e. more (At t.group y.ino) s (z.held s e) }) t.copies x.copies;
  known = all_then (KnownStands h t.group) (KnownStands k t.group) (λ b z. more (At t.group b.ino) b.stamp z) t.known x.known;
  works = all_then (WorkStands h) (WorkStands k) (λ y z s e. more y.grant.file s (z s e)) t.instances x.works;
}

pub if_sound : (h : List Version) (b : Bool) (u t : TreeState) → Sound h u → Sound h t → Sound h (cond b u t)
if_sound h true u t a b = a
if_sound h false u t a b = b

-- ---- joins ----

brought_more : (h : List Version) (g : ℕ) (new : Brought) (bs : List Brought) → KnownStands h g new → AllByRecursion (KnownStands h g) bs → AllByRecursion (KnownStands h g) (with_brought new bs)
brought_more h g new [] p all = (p, tt)
brought_more h g new (b ∷ bs) p all = at (is_brought_below new b) _ (brought_more h g new bs p all.1)
  where
    at : (a d : Bool) → AllByRecursion (KnownStands h g) (with_brought new bs) → AllByRecursion (KnownStands h g) (cond a (new ∷ b ∷ bs) (cond d (b ∷ bs) (b ∷ with_brought new bs)))
    at true d later = (p, all)
    at false true later = all
    at false false later = (all.0, later)

all_brought : (h : List Version) (g : ℕ) (cs : List HeldCopy) (known : List Brought) → AllByRecursion (CopyStands h g) cs → AllByRecursion (KnownStands h g) known → AllByRecursion (KnownStands h g) (with_all cs known)
all_brought h g [] known cs all = all
all_brought h g (x ∷ xs) known cs all = all_brought h g xs (with_brought (record { ino = x.ino; stamp = x.now }) known) cs.1 (brought_more h g (record { ino = x.ino; stamp = x.now }) known cs.0.now all)

enters : (h : List Version) (g s : ℕ) (x : HeldCopy) → CopyStands h g x → CopyStands h g (entered s x)
enters h g s x p = at (x.site == s)
  where
    at : (b : Bool) → CopyStands h g (cond b (record x { held = Some x.now }) x)
    at true = record { now = p.now; held = λ r e. subst (λ (y : Stamp). is_in h (At g x.ino) y ≡ true) (some_same x.now r e) p.now }
    at false = p

pub joined_sound : (h : List Version) (t : TreeState) (s : ℕ) (m : Members) → (has_pack t.config t.group s ≡ true → is_in h (At t.group 1) format_stamp ≡ true) → Sound h t → Sound h (joined s m t)
joined_sound h t s m root x = record {
  copies = all_mapped (CopyStands h t.group) (entered s) (enters h t.group s) (with_root t s) rooted;
  known = knows (has_pack t.config t.group s);
  works = x.works;
}
  where
    none_held : (r : Stamp) → ◌≡◌ {A = Option Stamp} None (Some r) → ⊥
    none_held r e = cc

    at : (b : Bool) → (b ≡ true → is_in h (At t.group 1) format_stamp ≡ true) → AllByRecursion (CopyStands h t.group) (cond b (t.copies ++ record { site = s; ino = 1; now = format_stamp; held = None } ∷ []) t.copies)
    at true there = all_more (CopyStands h t.group) t.copies (record { site = s; ino = 1; now = format_stamp; held = None }) x.copies (record { now = there refl; held = λ r e. absurd (none_held r e) })
    at false there = x.copies

    rooted : AllByRecursion (CopyStands h t.group) (with_root t s)
    rooted = at (has_pack t.config t.group s && is_none (copy_of t.copies s 1)) (λ e. root (and_first (has_pack t.config t.group s) _ e))

    knows : (b : Bool) → AllByRecursion (KnownStands h t.group) (cond b (with_all (filter (λ (y : HeldCopy). y.site == s) (with_root t s)) t.known) t.known)
    knows true = all_brought h t.group (filter (λ (y : HeldCopy). y.site == s) (with_root t s)) t.known (all_filtered (CopyStands h t.group) (λ (y : HeldCopy). y.site == s) (with_root t s) rooted) x.known
    knows false = x.known

-- ---- commits and adoptions ----

pub held_stands : (h : List Version) (g site ino : ℕ) (cs : List HeldCopy) (s : Stamp) → AllByRecursion (CopyStands h g) cs → held_of (copy_of cs site ino) ≡ Some s → is_in h (At g ino) s ≡ true
held_stands h g site ino [] s all e = absurd (none e)
  where
    none : ◌≡◌ {A = Option Stamp} None (Some s) → ⊥
    none e = cc
held_stands h g site ino (x ∷ xs) s all e = at (is_copy_of site ino x) refl e (held_stands h g site ino xs s all.1)
  where
    at : (b : Bool) → is_copy_of site ino x ≡ b → held_of (cond b (Some x) (copy_of xs site ino)) ≡ Some s → (held_of (copy_of xs site ino) ≡ Some s → is_in h (At g ino) s ≡ true) → is_in h (At g ino) s ≡ true
    at true k e later = subst (λ (n : ℕ). is_in h (At g n) s ≡ true) (equal x.ino ino (and_second (x.site == site) (x.ino == ino) k)) (all.0.held s e)
    at false k e later = later e

pub now_stands : (h : List Version) (t : TreeState) (f : FileId) (site : ℕ) (stamp : Stamp) → ((f.group == t.group) ≡ true → is_in h (At t.group f.ino) stamp ≡ true) → AllByRecursion (CopyStands h t.group) t.copies
    → AllByRecursion (CopyStands h t.group) (has_now f site stamp t).copies
now_stands h t f site stamp there all = over (f.group == t.group) there
  where
    new : is_in h (At t.group f.ino) stamp ≡ true → (b : Bool) → CopyStands h t.group (record { site = site; ino = f.ino; now = stamp; held = cond b (Some stamp) (held_at t site f.ino) })
    new k true = record { now = k; held = λ r e. subst (λ (y : Stamp). is_in h (At t.group f.ino) y ≡ true) (some_same stamp r e) k }
    new k false = record { now = k; held = λ r e. held_stands h t.group site f.ino t.copies r all e }

    over : (b : Bool) → (b ≡ true → is_in h (At t.group f.ino) stamp ≡ true) → AllByRecursion (CopyStands h t.group) (cond b (with_copy (copy_now t site f.ino stamp) t.copies) t.copies)
    over true k = all_put (CopyStands h t.group) (is_copy_of site f.ino) (copy_now t site f.ino stamp) t.copies (new (k refl) (is_inside t site)) all
    over false k = all

-- what is among the stamps of a file is known
pub known_found : (h : List Version) (g ino : ℕ) (known : List Brought) (s : Stamp) → AllByRecursion (KnownStands h g) known → has_stamp (stamps_of known ino) s ≡ true → is_in h (At g ino) s ≡ true
known_found h g ino [] s all e = absurd (true_false (sym e))
known_found h g ino (b ∷ bs) s all e = at (b.ino == ino) refl e (known_found h g ino bs s all.1)
  where
    or : (a d : Bool) → a || d ≡ true → (a ≡ true) ⊎ (d ≡ true)
    or true d k = inl refl
    or false d k = inr k

    is : (b.ino == ino) ≡ true → same_stamp b.stamp s ≡ true → is_in h (At g ino) s ≡ true
    is k l = subst (λ (n : ℕ). is_in h (At g n) s ≡ true) (equal b.ino ino k) (subst (λ (r : Stamp). is_in h (At g b.ino) r ≡ true) (same_stamp_eq b.stamp s l) all.0)

    at : (a : Bool) → (b.ino == ino) ≡ a → has_stamp (map (λ (y : Brought). y.stamp) (cond a (b ∷ filter (λ (y : Brought). y.ino == ino) bs) (filter (λ (y : Brought). y.ino == ino) bs))) s ≡ true
        → (has_stamp (stamps_of bs ino) s ≡ true → is_in h (At g ino) s ≡ true) → is_in h (At g ino) s ≡ true
    at true k e later = which (or (same_stamp b.stamp s) _ e)
      where
        which : (same_stamp b.stamp s ≡ true) ⊎ (has_stamp (stamps_of bs ino) s ≡ true) → is_in h (At g ino) s ≡ true
        which (inl l) = is k l
        which (inr l) = later l
    at false k e later = later e

-- ---- operations ----

operated_keeps : (result : Outcome) (e : Option Effect) (w : Work) → (operated_by result e w).committed ≡ w.committed
operated_keeps result None w = refl
operated_keeps result (Some e) w = at (is_refusal result)
  where
    at : (b : Bool) → (cond b (counted w) (carried_out e w)).committed ≡ w.committed
    at true = refl
    at false = refl

pub acted_keeps : (h : List Version) (t : TreeState) (o : Op) (result : Outcome) (x : Instance) → (work_after h t o result x).committed ≡ x.work.committed
acted_keeps h t op.Commit result x = refl
acted_keeps h t op.Abort result x = refl
acted_keeps h t op.Mend result x = operated_keeps result (effect_on h t op.Mend x) x.work
acted_keeps h t (op.Probe name) result x = operated_keeps result (effect_on h t (op.Probe name) x) x.work
acted_keeps h t (op.Find component) result x = operated_keeps result (effect_on h t (op.Find component) x) x.work
acted_keeps h t (op.Insert name ino kind) result x = operated_keeps result (effect_on h t (op.Insert name ino kind) x) x.work
acted_keeps h t (op.Remove name ino) result x = operated_keeps result (effect_on h t (op.Remove name ino) x) x.work
acted_keeps h t (op.Rename component name) result x = operated_keeps result (effect_on h t (op.Rename component name) x) x.work
acted_keeps h t op.Empty result x = operated_keeps result (effect_on h t op.Empty x) x.work
acted_keeps h t (op.Read at len) result x = operated_keeps result (effect_on h t (op.Read at len) x) x.work
acted_keeps h t (op.Write at bytes) result x = operated_keeps result (effect_on h t (op.Write at bytes) x) x.work
acted_keeps h t (op.Cut len) result x = operated_keeps result (effect_on h t (op.Cut len) x) x.work

-- ---- releases ----

same_version_eq : (a b : Option Stamp) (s : Stamp) → same_version a b ≡ true → a ≡ Some s → b ≡ Some s
same_version_eq None b s k e = absurd (none e)
  where
    none : ◌≡◌ {A = Option Stamp} None (Some s) → ⊥
    none e = cc
same_version_eq (Some a) None s k e = absurd (true_false (sym k))
same_version_eq (Some a) (Some b) s k e = ap (λ (r : Stamp). Some r) (sym (same_stamp_eq a b k) ∙ some_same a s e)

-- what is released with was committed
pub released_stands : (h : List Version) (t : TreeState) (i : Serial) (f : FileId) (s : Stamp) (o : Option Instance) → instance_in t i ≡ o → AllByRecursion (WorkStands h) t.instances → instance_ends h t f (Some s) o ≡ true → is_in h f s ≡ true
released_stands h t i f s None e all k = absurd (true_false (sym k))
released_stands h t i f s (Some x) e all k =
    let stands : WorkStands h x = all_found (WorkStands h) (is_named i) t.instances x all e in
    let file : x.grant.file ≡ f = same_file_eq x.grant.file f (and_first (same_file x.grant.file f) _ k) in
    let was : x.work.committed ≡ Some s = same_version_eq (Some s) x.work.committed s (and_first (same_version (Some s) x.work.committed) _ (and_second (same_file x.grant.file f) _ k)) refl in
    subst (λ (g : FileId). is_in h g s ≡ true) file (stands s was)

pub published_stands : (h : List Version) (g : ℕ) (f : FileId) (stamp : Option Stamp) (known : List Brought) → ((s : Stamp) → stamp ≡ Some s → is_in h (At g f.ino) s ≡ true) → AllByRecursion (KnownStands h g) known → AllByRecursion (KnownStands h g) (published f stamp known)
published_stands h g f None known there all = all
published_stands h g f (Some s) known there all = brought_more h g (record { ino = f.ino; stamp = s }) known (there s refl) all
