-- What the tree of an epoch knows of a file, and what its sites have, are versions of the file.
use Rattle.std.proofs.Common.{◌≡◌, ℕ, ◌==◌, Bool, true, false, ◌&&◌, cond, List, [], ◌∷◌, ◌++◌, filter, map, Option, Some, None, refl, ◌∙◌, subst, arith, inl, inr}
use Rattle.std.proofs.lemmas.Bool.Decides.{nat_tests}
use Rattle.std.specs.Option.{is_none}
use Rattle.role_steps.proofs.of_plain_facts.Numbers.{equal}
use Rattle.role_steps.proofs.of_plain_facts.Tests.{both_true}
use Rattle.locus_ids.specs.declared.config.Config.{Config}
use Rattle.locus_ids.specs.declared.sites.Members.{Members}
use Rattle.locus_ids.specs.declared.ids.EpochId.{EpochId}
use Rattle.locus_ids.specs.declared.ids.FileId.{FileId}
use Rattle.locus_ids.specs.declared.ids.Stamp.{Stamp}
use Rattle.locus_ids.specs.declared.ids.Brought.{Brought}
use Rattle.commit_graph.specs.declared.history.Version.{Version}
use Rattle.trace_book.specs.Same.{same_epoch}
use Rattle.trace_book.specs.declared.record.Record.{Record}
use Rattle.trace_book.specs.declared.record.Record.TheVariants as says
use Rattle.tree_model.specs.of_dir_format.Entries.{nothing_seen}
use Rattle.tree_model.specs.declared.copy.HeldCopy.{HeldCopy}
use Rattle.tree_model.specs.Lists.{put_first}
use Rattle.tree_model.specs.Packs.{has_pack}
use Rattle.tree_model.specs.Same.{same_brought}
use Rattle.tree_model.specs.Histories.{history, format_stamp}
use Rattle.tree_model.specs.State.{TreeState, is_copy_of, copy_of, with_copy, is_brought_below, with_brought, with_all, stamps_of, is_granted_here, is_make}
use Rattle.tree_model.specs.Tree.{with_root, entered, joined, left, copy_now, has_now, published, released, granted, grant_of, acted, without_make, next, tree_of, candidates}
use Rattle.role_steps.specs.Own.{Every}
use Rattle.role_steps.specs.Views.{Told, Shown}
use Rattle.role_steps.proofs.Sending.{every_append}
use Rattle.the_run.specs.Worlds.{Line}
use Rattle.the_run.proofs.Boots.{every_weaker}
use Rattle.site_laws.specs.Vectors.Written.{past_of, WrittenAs, NumberedRecord, NumberedTold, CommitsAreNumbered}
use Rattle.site_laws.specs.Vectors.Facts.{file_in}
use Rattle.site_laws.proofs.Vectors.SyncFacts.{seen_none, file_eq}
use Rattle.site_laws.specs.Kept.Printed.{onto_printed, printed}
use Rattle.site_laws.specs.Kept.Known.{IsVersion, NamedRecord, NamedTold, NamesAreVersions}

-- ---- what a tree has ----

abbrev HeldOne : List Told → ℕ → HeldCopy → Type 0
HeldOne past group x = IsVersion past (file_in group x.ino) x.now

abbrev KnownOne : List Told → ℕ → Brought → Type 0
KnownOne past group b = IsVersion past (file_in group b.ino) b.stamp

record HasVersions (past : List Told) (group : ℕ) (t : TreeState) : Type 0 where
  group_is : t.group ≡ group
  copies : Every (HeldOne past group) t.copies
  known : Every (KnownOne past group) t.known

version_later : (x : Told) (past : List Told) (file : FileId) (stamp : Stamp) → IsVersion past file stamp → IsVersion (x ∷ past) file stamp
version_later x past file stamp h = (h.0, inl h.1)

versions_later : (x : Told) (past : List Told) (group : ℕ) (t : TreeState) → HasVersions past group t → HasVersions (x ∷ past) group t
versions_later x past group t h = record {
  group_is = h.group_is;
  copies = every_weaker (HeldOne past group) (HeldOne (x ∷ past) group) t.copies (λ y. version_later x past (file_in group y.ino) y.now) h.copies;
  known = every_weaker (KnownOne past group) (KnownOne (x ∷ past) group) t.known (λ b. version_later x past (file_in group b.ino) b.stamp) h.known;
}

-- the format's version of a root
format_version : (past : List Told) (group : ℕ) → IsVersion past (file_in group 1) format_stamp
format_version [] group = (nothing_seen, record { root = refl; site = refl; number = refl; none = seen_none })
format_version (x ∷ past) group = version_later x past (file_in group 1) format_stamp (format_version past group)

-- ---- lists ----

put_every : {X : Type 0} (P : X → Type 0) (p : X → Bool) (new : X) (xs : List X) → P new → Every P xs → Every P (put_first p new xs)
put_every P p new [] k h = (k, tt)
put_every P p new (x ∷ xs) k h = elim (p x) as (λ b. Every P (cond b (new ∷ xs) (x ∷ put_first p new xs))) [ true ↦ (k, h.1) | false ↦ (h.0, put_every P p new xs k h.1) ]

filter_every : {X : Type 0} (P : X → Type 0) (p : X → Bool) (xs : List X) → Every P xs → Every P (filter p xs)
filter_every P p [] h = tt
filter_every P p (x ∷ xs) h = elim (p x) as (λ b. Every P (cond b (x ∷ filter p xs) (filter p xs))) [ true ↦ (h.0, filter_every P p xs h.1) | false ↦ filter_every P p xs h.1 ]

brought_every : (P : Brought → Type 0) (new : Brought) (bs : List Brought) → P new → Every P bs → Every P (with_brought new bs)
brought_every P new [] k h = (k, tt)
brought_every P new (b ∷ bs) k h =
    elim (is_brought_below new b) as (λ t. Every P (cond t (new ∷ b ∷ bs) (cond (same_brought new b) (b ∷ bs) (b ∷ with_brought new bs)))) [
      | true ↦ (k, h)
      | false ↦ elim (same_brought new b) as (λ t. Every P (cond t (b ∷ bs) (b ∷ with_brought new bs))) [ true ↦ h | false ↦ (h.0, brought_every P new bs k h.1) ]
    ]

all_every : (past : List Told) (group : ℕ) (cs : List HeldCopy) (known : List Brought) → Every (HeldOne past group) cs → Every (KnownOne past group) known → Every (KnownOne past group) (with_all cs known)
all_every past group [] known h g = g
all_every past group (c ∷ cs) known h g = all_every past group cs (with_brought (record { ino = c.ino; stamp = c.now }) known) h.1 (brought_every (KnownOne past group) (record { ino = c.ino; stamp = c.now }) known h.0 g)

entered_every : (past : List Told) (group site : ℕ) (cs : List HeldCopy) → Every (HeldOne past group) cs → Every (HeldOne past group) (map (entered site) cs)
entered_every past group site [] h = tt
entered_every past group site (c ∷ cs) h = (elim (c.site == site) as (λ b. HeldOne past group (cond b (record c { held = Some c.now }) c)) [ true ↦ h.0 | false ↦ h.0 ], entered_every past group site cs h.1)

root_every : (past : List Told) (group site : ℕ) (t : TreeState) → HasVersions past group t → Every (HeldOne past group) (with_root t site)
root_every past group site t h =
    elim (has_pack t.config t.group site && is_none (copy_of t.copies site 1)) as (λ b. Every (HeldOne past group) (cond b (t.copies ++ record { site = site; ino = 1; now = format_stamp; held = None } ∷ []) t.copies)) [
      | true ↦ every_append (HeldOne past group) t.copies (record { site = site; ino = 1; now = format_stamp; held = None } ∷ []) h.copies (format_version past group, tt)
      | false ↦ h.copies
    ]

-- ---- what becomes of a tree ----

cond_versions : (past : List Told) (group : ℕ) (b : Bool) (t u : TreeState) → HasVersions past group t → HasVersions past group u → HasVersions past group (cond b t u)
cond_versions past group true t u h g = h
cond_versions past group false t u h g = g

left_versions : (past : List Told) (group site : ℕ) (t : TreeState) → HasVersions past group t → HasVersions past group (left site t)
left_versions past group site t h = record { group_is = h.group_is; copies = h.copies; known = h.known }

joined_versions : (past : List Told) (group site : ℕ) (m : Members) (t : TreeState) → HasVersions past group t → HasVersions past group (joined site m t)
joined_versions past group site m t h =
    let roots : Every (HeldOne past group) (with_root t site) = root_every past group site t h in
    record {
      group_is = h.group_is;
      copies = entered_every past group site (with_root t site) roots;
      known = elim (has_pack t.config t.group site) as (λ b. Every (KnownOne past group) (cond b (with_all (filter (λ (c : HeldCopy). c.site == site) (with_root t site)) t.known) t.known)) [
        | true ↦ all_every past group (filter (λ (c : HeldCopy). c.site == site) (with_root t site)) t.known (filter_every (HeldOne past group) (λ (c : HeldCopy). c.site == site) (with_root t site) roots) h.known
        | false ↦ h.known
      ];
    }

-- the file is of the tree's group
of_group : (past : List Told) (group : ℕ) (f : FileId) (stamp : Stamp) (t : TreeState) → t.group ≡ group → (f.group == t.group) ≡ true → IsVersion past f stamp → IsVersion past (file_in group f.ino) stamp
of_group past group f stamp t g e h = (h.0, subst (λ (x : FileId). WrittenAs past x stamp h.0) (file_eq f group f.ino (equal f.group t.group e ∙ g) refl) h.1)

now_versions : (past : List Told) (group : ℕ) (f : FileId) (site : ℕ) (stamp : Stamp) (t : TreeState) → IsVersion past f stamp → HasVersions past group t → HasVersions past group (has_now f site stamp t)
now_versions past group f site stamp t k h = record {
  group_is = h.group_is;
  copies = (elim (f.group == t.group) as (λ b. (f.group == t.group) ≡ b → Every (HeldOne past group) (cond b (with_copy (copy_now t site f.ino stamp) t.copies) t.copies)) [
    | true ↦ λ e. put_every (HeldOne past group) (is_copy_of site f.ino) (copy_now t site f.ino stamp) t.copies (of_group past group f stamp t h.group_is e k) h.copies
    | false ↦ λ e. h.copies
  ]) refl;
  known = h.known;
}

published_every : (past : List Told) (group : ℕ) (e : EpochId) (inst : _) (f : FileId) (stamp : Option Stamp) (t : TreeState) → t.group ≡ group → (f.group == t.group) ≡ true → NamedRecord past (says.Release e inst f stamp) → Every (KnownOne past group) t.known → Every (KnownOne past group) (published f stamp t.known)
published_every past group e inst f None t g q k h = h
published_every past group e inst f (Some stamp) t g q k h = brought_every (KnownOne past group) (record { ino = f.ino; stamp = stamp }) t.known (of_group past group f stamp t g q k) h

-- a record leaves a tree of versions, where it names versions
next_versions : (older : List Told) (group : ℕ) (h : List Version) (r : Record) (t : TreeState) → NumberedRecord older r → NamedRecord older r → HasVersions older group t → HasVersions (Shown r ∷ older) group (next h r t)
next_versions older group h (says.Up site boot) t n k g = left_versions _ group site t (versions_later _ older group t g)
next_versions older group h (says.Stopped site cause) t n k g = left_versions _ group site t (versions_later _ older group t g)
next_versions older group h (says.Leave site e) t n k g = left_versions _ group site t (versions_later _ older group t g)
next_versions older group h (says.Join site e m) t n k g = let l : HasVersions (Shown (says.Join site e m) ∷ older) group t = versions_later _ older group t g in cond_versions _ group (same_epoch e t.epoch) (joined site m t) (left site t) (joined_versions _ group site m t l) (left_versions _ group site t l)
next_versions older group h (says.Start e of copies) t n k g = let l : HasVersions (Shown (says.Start e of copies) ∷ older) group t = versions_later _ older group t g in cond_versions _ group (same_epoch e t.epoch && (of == t.group)) (record t { started = true }) t (record { group_is = l.group_is; copies = l.copies; known = l.known }) l
next_versions older group h (says.Accept site process call words) t n k g = let l : HasVersions (Shown (says.Accept site process call words) ∷ older) group t = versions_later _ older group t g in record { group_is = l.group_is; copies = l.copies; known = l.known }
next_versions older group h (says.Commit f site stamp parents content) t n k g =
    let r : Record = says.Commit f site stamp parents content in
    let made : IsVersion (Shown r ∷ older) f stamp = (_, inr (refl, refl, record { base = n.base; joins = n.joins; raised_is = refl })) in
    let l : HasVersions (Shown r ∷ older) group (has_now f site stamp t) = now_versions (Shown r ∷ older) group f site stamp t made (versions_later (Shown r) older group t g) in
    record { group_is = l.group_is; copies = l.copies; known = l.known }
next_versions older group h (says.Adopt f site stamp) t n k g = now_versions _ group f site stamp t (version_later (Shown (says.Adopt f site stamp)) older f stamp k) (versions_later _ older group t g)
next_versions older group h (says.Grant e call request i m f stamp ss) t n k g = let l : HasVersions (Shown (says.Grant e call request i m f stamp ss) ∷ older) group t = versions_later _ older group t g in cond_versions _ group (same_epoch e t.epoch) (granted h (grant_of t call i m f ss) stamp t) t (record { group_is = l.group_is; copies = l.copies; known = l.known }) l
next_versions older group h (says.Refuse e call request i m f why) t n k g = let l : HasVersions (Shown (says.Refuse e call request i m f why) ∷ older) group t = versions_later _ older group t g in cond_versions _ group (same_epoch e t.epoch && ((f.group == t.group) && is_make m)) (record t { makes = without_make call t.makes }) t (record { group_is = l.group_is; copies = l.copies; known = l.known }) l
next_versions older group h (says.Act e i o what result) t n k g = let l : HasVersions (Shown (says.Act e i o what result) ∷ older) group t = versions_later _ older group t g in cond_versions _ group (same_epoch e t.epoch && is_granted_here t i) (acted h i what result t) t (record { group_is = l.group_is; copies = l.copies; known = l.known }) l
next_versions older group h (says.Release e i f stamp) t n k g =
    let r : Record = says.Release e i f stamp in
    let l : HasVersions (Shown r ∷ older) group t = versions_later (Shown r) older group t g in
    (elim (same_epoch e t.epoch && (f.group == t.group)) as (λ b. (same_epoch e t.epoch && (f.group == t.group)) ≡ b → HasVersions (Shown r ∷ older) group (cond b (released i f stamp t) t)) [
      | true ↦ λ q. record { group_is = l.group_is; copies = l.copies; known = published_every (Shown r ∷ older) group e i f stamp t l.group_is (both_true (same_epoch e t.epoch) (f.group == t.group) q).1 (release_later (Shown r) older e i f stamp k) l.known }
      | false ↦ λ q. l
    ]) refl
  where
    release_later : (x : Told) (past : List Told) (e : EpochId) (i : _) (f : FileId) (stamp : Option Stamp) → NamedRecord past (says.Release e i f stamp) → NamedRecord (x ∷ past) (says.Release e i f stamp)
    release_later x past e i f None k = tt
    release_later x past e i f (Some s) k = version_later x past f s k
next_versions older group h _ t n k g = versions_later _ older group t g

told_versions : (c : Config) (e : EpochId) (group n : ℕ) (x : Told) (older : List Line) → NumberedTold (past_of older) x → NamedTold (past_of older) x → HasVersions (past_of older) group (tree_of c e group (printed older)) → HasVersions (x ∷ past_of older) group (tree_of c e group (onto_printed n x (printed older)))
told_versions c e group n (Shown r) older numbered named h = next_versions (past_of older) group (history c (printed older)) r (tree_of c e group (printed older)) numbered named h
told_versions c e group n _ older numbered named h = versions_later _ (past_of older) group (tree_of c e group (printed older)) h

tree_versions : (c : Config) (e : EpochId) (group : ℕ) (trace : List Line) → CommitsAreNumbered (past_of trace) → NamesAreVersions (past_of trace) → HasVersions (past_of trace) group (tree_of c e group (printed trace))
tree_versions c e group [] n k = record { group_is = refl; copies = tt; known = tt }
tree_versions c e group (x ∷ older) n k = told_versions c e group x.number x.told older n.0 k.0 (tree_versions c e group older n.1 k.1)

-- ---- the candidates of a file ----

stamps_every : (past : List Told) (group ino : ℕ) (known : List Brought) → Every (KnownOne past group) known → Every (IsVersion past (file_in group ino)) (stamps_of known ino)
stamps_every past group ino [] h = tt
stamps_every past group ino (b ∷ bs) h =
    (elim (b.ino == ino) as (λ t. (b.ino == ino) ≡ t → Every (IsVersion past (file_in group ino)) (map (λ (x : Brought). x.stamp) (cond t (b ∷ filter (λ (x : Brought). x.ino == ino) bs) (filter (λ (x : Brought). x.ino == ino) bs)))) [
      | true ↦ λ e. (subst (λ (i : ℕ). IsVersion past (file_in group i) b.stamp) (equal b.ino ino e) h.0, stamps_every past group ino bs h.1)
      | false ↦ λ e. stamps_every past group ino bs h.1
    ]) refl

pub candidates_stand : (c : Config) (e : EpochId) (file : FileId) (trace : List Line) → CommitsAreNumbered (past_of trace) → NamesAreVersions (past_of trace) → Every (IsVersion (past_of trace) file) (candidates c (printed trace) e file)
candidates_stand c e file trace n k = stamps_every (past_of trace) file.group file.ino (tree_of c e file.group (printed trace)).known (tree_versions c e file.group trace n k).known
