-- Pulls: what a site pulls is a version that is known, of a file of which one version is kept, over the version that it has; its pages are
-- those of the version, and all in which the two differ. So it stays while lines are told, and so does a notice leave it.
use Rattle.std.proofs.Common.{◌≡◌, ℕ, ◌*◌, ◌-◌, ◌<◌, ◌≤◌, Bool, true, false, cond, ◌||◌, List, [], ◌∷◌, length, Option, Some, None, refl, sym, ◌∙◌, ap, subst, arith, inl, inr}
use Rattle.std.specs.List.{list_any}
use Rattle.std.specs.Option.{option_map}
use Rattle.std.proofs.lemmas.Bool.Decides.{nat_tests}
use Rattle.role_steps.proofs.of_plain_facts.Options.{none_some, some_same}
use Rattle.role_steps.proofs.of_plain_facts.Tests.{true_false}
use Rattle.locus_ids.specs.declared.config.Config.{Config}
use Rattle.locus_ids.specs.declared.ids.EpochId.{EpochId}
use Rattle.locus_ids.specs.declared.ids.FileId.{FileId}
use Rattle.locus_ids.specs.declared.ids.Kind.{Kind}
use Rattle.locus_ids.specs.declared.ids.Stamp.{Stamp}
use Rattle.locus_ids.specs.declared.sites.Sites.{Sites}
use Rattle.locus_ids.specs.Sizes.{inode_span, page_bytes}
use Rattle.commit_graph.specs.Vectors.{vector_of}
use Rattle.commit_graph.specs.Versions.{is_ancestor, is_version, same_stamp}
use Rattle.commit_graph.specs.declared.history.Version.{Version}
use Rattle.file_content.specs.Pages.{pages_from, pages_of}
use Rattle.wire_messages.specs.declared.body.Body.TheVariants as body
use Rattle.role_steps.specs.Own.{Every}
use Rattle.role_steps.specs.Pulling.{begins_pull, goes_on, is_complete, next_asked, on_notify, pull_key, pull_of, pull_over, pull_packets, replaces_pull}
use Rattle.role_steps.specs.Storage.{copy_of}
use Rattle.role_steps.specs.Versions.{is_below}
use Rattle.role_steps.specs.Views.{Frame, Store, Told, packet, quiet, sends}
use Rattle.role_steps.specs.declared.copies.FileCopy.{FileCopy}
use Rattle.role_steps.specs.declared.pulls.Pull.{Pull}
use Rattle.the_run.specs.Worlds.{Line}
use Rattle.tree_model.specs.Epochs.{has_joined}
use Rattle.tree_model.specs.Files.{HeldVersion, held_version, version_of}
use Rattle.tree_model.specs.Histories.{held, history}
use Rattle.tree_laws.specs.Printed.{entries}
use Rattle.tree_laws.specs.Deltas.{BaseFact, PullsOver}
use Rattle.tree_laws.specs.Doing.{FrameFact, PullsFact, PullsFine}
use Rattle.tree_laws.specs.Following.{MayTell, IsFollowed}
use Rattle.tree_laws.specs.Frames.{AllStay, VersionsStay}
use Rattle.tree_laws.specs.Instances.{HasAtLeast, Stands}
use Rattle.tree_laws.specs.Packets.{NotifyFact, PacketFact}
use Rattle.tree_laws.specs.Stores.{CopiesAreHeld, PullFact, copy_for}
use Rattle.tree_laws.proofs.CarriedLooks.{More}
use Rattle.tree_laws.proofs.CarriedVersions.{same_version_of, version_stays}
use Rattle.tree_laws.proofs.Kinship.{started_stays}
use Rattle.tree_laws.proofs.Rows.{followed_rows}
use Rattle.tree_laws.proofs.Versions.{versions_stay}
use Rattle.tree_laws.proofs.Orders.Standing.{same_stamp_eq}
use Rattle.tree_laws.proofs.Syncs.Members.{inside_joined}
use Rattle.store_laws.specs.Pulling.{AdoptsFile, MakesVersion, NewAreNotBelow}
use Rattle.store_laws.specs.Rests.{StoreRests}
use Rattle.store_laws.proofs.Holding.{HeldAfter, fresh_made, held_after, held_stands}
use Rattle.store_laws.proofs.PulledPages.{all_ascend, all_below}
use Rattle.store_laws.proofs.Serving.{IsCopy, copy_is}
use Rattle.store_laws.proofs.Tabled.{every_row}

-- ---- while lines are told ----

-- what a site holds, told again
pub held_same : (c : Config) (old new : List Line) → VersionsStay c old new → (f : FileId) (o : Option Stamp) → ((s : Stamp) → o ≡ Some s → Stands c old f s) → option_map (version_of c (entries new) f) o ≡ option_map (version_of c (entries old) f) o
held_same c old new v f None stands = refl
held_same c old new v f (Some s) stands = ap Some (same_version_of c old new v f s (stands s refl))

base_stays : (c : Config) (old new : List Line) → VersionsStay c old new → (o : Option HeldVersion) (p : Pull) (base : Option Stamp) → BaseFact c old o p base → BaseFact c new o p base
base_stays c old new v o p None k = tt
base_stays c old new v o p (Some b) k = record { stands = v.stands p.file b k.stands; now = k.now; has = k.has; over = k.over }

base_stands : (c : Config) (trace : List Line) (o : Option HeldVersion) (p : Pull) (base : Option Stamp) (s : Stamp) → BaseFact c trace o p base → base ≡ Some s → Stands c trace p.file s
base_stands c trace o p None s k e = absurd (none_some s e)
base_stands c trace o p (Some b) s k e = subst (Stands c trace p.file) (some_same b s e) k.stands

-- over a version that the site has just made
base_new : (c : Config) (old new : List Line) → VersionsStay c old new → (o : Option HeldVersion) (now : HeldVersion) (p : Pull) (base : Option Stamp) → is_below now.vector p.vector ≡ false → BaseFact c old o p base → BaseFact c new (Some now) p base
base_new c old new v o now p None apart k = tt
base_new c old new v o now p (Some b) apart k = record { stands = v.stands p.file b k.stands; now = now; has = refl; over = inr apart }

module _ (c : Config) (n : ℕ) (x : Told) (older : List Line) (h : IsFollowed c older) (may : MayTell c older x) (stay : AllStay c older (More n x older) x) (newer : NewAreNotBelow c older (More n x older) x) (e : EpochId) (me : ℕ) (p : Pull) (away : AdoptsFile me p.file x → ⊥) (k : PullFact c older e me p) where
  abbrev new : List Line
  new = More n x older

  v : VersionsStay c older new
  v = versions_stay c n x older h may stay.fresh stay.order

  vector_same : p.vector ≡ vector_of (history c (entries older)) p.file p.stamp
  vector_same = sym k.vector_is ∙ (ap (λ (y : HeldVersion). y.vector) k.is_version.same ∙ ap (vector_of (history c (entries older)) p.file) k.stamp_is)

  stands : Stands c older p.file p.stamp
  stands = subst (λ (y : Stamp). Stands c older p.file y) k.stamp_is k.is_version.stands

  -- what the pull is over, of what the site has then
  record IsOver (o : Option HeldVersion) : Type 0 where
    based : BaseFact c new o p p.base
    over : PullsOver o p k.version

  is_same : held c (entries new) me p.file ≡ held c (entries older) me p.file → IsOver (held_version c (entries new) me p.file)
  is_same e = subst IsOver (sym (ap (option_map (version_of c (entries new) p.file)) e ∙ held_same c older new v p.file (held c (entries older) me p.file) (λ s q. held_stands c (entries older) (followed_rows c older h) me p.file s q)))
      (record { based = base_stays c older new v (held_version c (entries older) me p.file) p p.base k.based; over = k.over })

  is_new : (s : Stamp) → MakesVersion me p.file s x → held c (entries new) me p.file ≡ Some s → IsOver (held_version c (entries new) me p.file)
  is_new s made e = subst IsOver (sym (ap (option_map (version_of c (entries new) p.file)) e)) (record {
    based = base_new c older new v (held_version c (entries older) me p.file) (version_of c (entries new) p.file s) p p.base apart k.based;
    over = λ q b. absurd (fresh_made c older x me p.file s stay.fresh made (base_stands c older (held_version c (entries older) me p.file) p p.base s k.based q));
  })
    where
      apart : is_below (vector_of (history c (entries new)) p.file s) p.vector ≡ false
      apart = subst (λ (y : List ℕ). is_below (vector_of (history c (entries new)) p.file s) y ≡ false) (sym vector_same) (newer me p.file s made p.stamp stands)

  is_over : HeldAfter c n x older me p.file → IsOver (held_version c (entries new) me p.file)
  is_over (inl e) = is_same e
  is_over (inr made) = is_new made.0 made.1 made.2

  pub pull_stays : PullFact c new e me p
  pull_stays = (let o : IsOver (held_version c (entries new) me p.file) = is_over (held_after c n x older me p.file away) in record {
    started = started_stays c n x older e p.file.group k.started;
    known = v.known e p.file p.stamp k.known;
    single = v.single e p.file k.started k.single;
    version = k.version;
    is_version = version_stays c older new v p.file k.version k.is_version;
    stamp_is = k.stamp_is;
    kind_is = k.kind_is;
    set_is = k.set_is;
    vector_is = k.vector_is;
    size_is = k.size_is;
    rising = k.rising;
    inside = k.inside;
    few = k.few;
    pages = k.pages;
    even = k.even;
    based = o.based;
    over = o.over;
    wanted = k.wanted;
    holds = v.have e p.holder p.file p.stamp k.holds;
  })

pub all_pulls_stay : (c : Config) (n : ℕ) (x : Told) (older : List Line) → IsFollowed c older → MayTell c older x → AllStay c older (More n x older) x → NewAreNotBelow c older (More n x older) x → (f : Frame) (ps : List Pull) → Every (λ (p : Pull). AdoptsFile f.me p.file x → ⊥) ps → PullsFact c f older ps → PullsFact c f (More n x older) ps
all_pulls_stay c n x older h may stay newer f [] away k = tt
all_pulls_stay c n x older h may stay newer f (p ∷ ps) away k = (pull_stays c n x older h may stay newer f.epoch f.me p away.0 k.0, all_pulls_stay c n x older h may stay newer f ps away.1 k.1)

-- ---- what is sent ----

-- each version is its own ancestor
pub own_ancestor : (h : List Version) (f : FileId) (a : Stamp) → is_ancestor h f a a ≡ true
own_ancestor [] f a = grind (arith, nat_tests)
own_ancestor (v ∷ older) f a = over (is_version f a v) (same_stamp a a) own (own_ancestor older f a)
  where
    own : same_stamp a a ≡ true
    own = grind (arith, nat_tests)

    over : (b d : Bool) → d ≡ true → is_ancestor older f a a ≡ true → cond b (d || list_any (is_ancestor older f a) v.parents) (is_ancestor older f a a) ≡ true
    over true true t later = refl
    over true false t later = absurd (true_false (sym t))
    over false d t later = later

asked_of : (c : Config) (trace : List Line) (f : Frame) (p : Pull) → has_joined (entries trace) f.me f.epoch ≡ true → Stands c trace p.file p.stamp → (base : Option Stamp) (wanted : Option (List ℕ)) → BaseFact c trace (held_version c (entries trace) f.me p.file) p base → PacketFact c trace (packet f p.holder (next_asked p base wanted))
asked_of c trace f p joined stands (Some own) None k = record { wanted_stands = stands; own_stands = k.stands; joined = joined }
asked_of c trace f p joined stands (Some own) (Some pages) k = stands
asked_of c trace f p joined stands None wanted k = stands

pub asked_sent : (c : Config) (trace : List Line) (f : Frame) (p : Pull) → has_joined (entries trace) f.me f.epoch ≡ true → PullFact c trace f.epoch f.me p → Every (PacketFact c trace) (pull_packets f p)
asked_sent c trace f p joined k = over (is_complete p)
  where
    over : (b : Bool) → Every (PacketFact c trace) (cond b [] (packet f p.holder (next_asked p p.base p.wanted) ∷ []))
    over true = tt
    over false = (asked_of c trace f p joined (subst (λ (s : Stamp). Stands c trace p.file s) k.stamp_is k.is_version.stands) p.base p.wanted k.based, tt)

pub goes_fine : (c : Config) (n : ℕ) (trace : List Line) (f : Frame) (p : Pull) (ps : List Pull) → has_joined (entries trace) f.me f.epoch ≡ true → PullsFact c f trace ps → PullFact c trace f.epoch f.me p → PullsFine c n trace f (goes_on f p ps)
goes_fine c n trace f p ps joined all k = record { told = tt; own = tt; view = every_row pull_key p (PullFact c trace f.epoch f.me) ps all k; sent = asked_sent c trace f p joined k; written = tt }

pub still : (c : Config) (n : ℕ) (trace : List Line) (f : Frame) (ps : List Pull) → PullsFact c f trace ps → PullsFine c n trace f (quiet ps)
still c n trace f ps all = record { told = tt; own = tt; view = all; sent = tt; written = tt }

-- ---- Notify ----

begins_fine : (c : Config) (n : ℕ) (trace : List Line) (f : Frame) (own : Option FileCopy) (p : Pull) (ps : List Pull) → has_joined (entries trace) f.me f.epoch ≡ true → PullsFact c f trace ps → PullFact c trace f.epoch f.me (pull_over own p) → PullsFine c n trace f (begins_pull f own p ps)
begins_fine c n trace f own p ps joined all k = over (replaces_pull own p (pull_of ps p.file))
  where
    over : (b : Bool) → PullsFine c n trace f (elim b [ true ↦ goes_on f (pull_over own p) ps | false ↦ quiet ps ])
    over true = goes_fine c n trace f (pull_over own p) ps joined all k
    over false = still c n trace f ps all

-- no page has come
no_pages : (k : ℕ) → k < pages_of 0 → ⊥
no_pages k lt = omega (arith, lt)

none_few : (n : ℕ) → pages_of 0 ≤ n
none_few n = omega arith

none_even : 0 ≡ page_bytes * pages_of 0
none_even = omega arith

-- the pull that a notice names
abbrev named : FileId → Kind → Sites → ℕ → Stamp → List ℕ → ℕ → Pull
named file k set size stamp vector holder = record { file = file; kind = k; set = set; size = size; stamp = stamp; vector = vector; holder = holder; base = None; wanted = None; content = [] }

-- what a notice begins to pull where the site has no copy, and over the copy that it has
noticed_whole : (c : Config) (trace : List Line) (e : EpochId) (to : ℕ) (file : FileId) (k : Kind) (set : Sites) (size : ℕ) (stamp : Stamp) (vector : List ℕ) (holder : ℕ) → held_version c (entries trace) to file ≡ None → NotifyFact c trace e to file k set size stamp vector holder → PullFact c trace e to (pull_over None (named file k set size stamp vector holder))
noticed_whole c trace e to file k set size stamp vector holder bare t = record {
  started = t.started;
  known = t.known;
  single = t.single;
  version = t.version;
  is_version = t.is_version;
  stamp_is = t.stamp_is;
  kind_is = t.kind_is;
  set_is = t.set_is;
  vector_is = t.vector_is;
  size_is = t.size_is;
  rising = all_ascend 0 (pages_of size);
  inside = subst (λ (m : ℕ). Every (λ (page : ℕ). page < pages_of m) (pages_from 0 (pages_of size))) (sym t.size_is) (all_below 0 (pages_of size) (pages_of size) (omega arith));
  few = none_few (length (pages_from 0 (pages_of size)));
  pages = λ i lt. absurd (no_pages i lt);
  even = inr none_even;
  based = tt;
  over = subst (λ (o : Option HeldVersion). PullsOver o (pull_over None (named file k set size stamp vector holder)) t.version) (sym bare) (λ q. ap (λ (m : ℕ). Some (pages_from 0 (pages_of m))) (sym t.size_is));
  wanted = t.wanted;
  holds = t.holds;
}

noticed_over : (c : Config) (trace : List Line) (e : EpochId) (to : ℕ) (file : FileId) (k : Kind) (set : Sites) (size : ℕ) (stamp : Stamp) (vector : List ℕ) (holder : ℕ) (own : FileCopy) (now : HeldVersion) → held_version c (entries trace) to file ≡ Some now → Stands c trace file own.stamp → now.stamp ≡ own.stamp → NotifyFact c trace e to file k set size stamp vector holder → PullFact c trace e to (pull_over (Some own) (named file k set size stamp vector holder))
noticed_over c trace e to file k set size stamp vector holder own now has stands same t = record {
  started = t.started;
  known = t.known;
  single = t.single;
  version = t.version;
  is_version = t.is_version;
  stamp_is = t.stamp_is;
  kind_is = t.kind_is;
  set_is = t.set_is;
  vector_is = t.vector_is;
  size_is = t.size_is;
  rising = refl;
  inside = tt;
  few = none_few 0;
  pages = λ i lt. absurd (no_pages i lt);
  even = inr none_even;
  based = record { stands = stands; now = now; has = has; over = inl same };
  over = subst (λ (o : Option HeldVersion). PullsOver o (pull_over (Some own) (named file k set size stamp vector holder)) t.version) (sym has) (λ q b. inl refl);
  wanted = t.wanted;
  holds = t.holds;
}

pub notify_fine : (c : Config) (n : ℕ) (trace : List Line) → IsFollowed c trace → StoreRests c trace → (f : Frame) → FrameFact c trace f → (s : Store) → CopiesAreHeld c trace f.me s → (ps : List Pull) → PullsFact c f trace ps → (from : ℕ) (file : FileId) (k : Kind) (set : Sites) (size : ℕ) (stamp : Stamp) (vector : List ℕ) (holder : ℕ) →
    NotifyFact c trace f.epoch f.me file k set size stamp vector holder → PullsFine c n trace f (on_notify f from (copy_of s file) (record { file = file; kind = k; set = set; size = size; stamp = stamp; vector = vector; holder = holder; base = None; wanted = None; content = [] }) ps)
notify_fine c n trace h rests f frame s copies ps all from file k set size stamp vector holder t = over (copy_of s file) (copies.are file narrow) (copy_is c trace h f.me s copies file narrow)
  where
    stands : Stands c trace file stamp
    stands = subst (λ (y : Stamp). Stands c trace file y) t.stamp_is t.is_version.stands

    narrow : file.ino < inode_span
    narrow = rests.narrow file stamp stands

    p : Pull
    p = named file k set size stamp vector holder

    joined : has_joined (entries trace) f.me f.epoch ≡ true
    joined = inside_joined c trace h f.me f.epoch frame.inside

    bare : (o : Option HeldVersion) → None ≡ option_map (copy_for file) o → o ≡ None
    bare None e = refl
    bare (Some v) e = absurd (none_some (copy_for file v) e)

    fact : (x : FileCopy) → IsCopy c trace f.me file x → PullFact c trace f.epoch f.me (pull_over (Some x) p)
    fact x y = noticed_over c trace f.epoch f.me file k set size stamp vector holder x (version_of c (entries trace) file y.stamp) (ap (option_map (version_of c (entries trace) file)) y.holds) (subst (Stands c trace file) (sym at) y.stands) (sym at) t
      where
        at : x.stamp ≡ y.stamp
        at = ap (λ (z : FileCopy). z.stamp) y.same

    has : (x : FileCopy) → IsCopy c trace f.me file x → same_stamp x.stamp stamp ≡ true → HasAtLeast c trace f.epoch f.me file stamp
    has x y e = record {
      now = stamp;
      held = rests.inside f.epoch f.me file frame.inside ∙ (y.holds ∙ ap Some (sym (ap (λ (z : FileCopy). z.stamp) y.same) ∙ same_stamp_eq x.stamp stamp e));
      above = own_ancestor (history c (entries trace)) file stamp;
    }

    above : (x : FileCopy) → IsCopy c trace f.me file x → (b : Bool) → PullsFine c n trace f (elim b [ true ↦ begins_pull f (Some x) p ps | false ↦ quiet ps ])
    above x y true = begins_fine c n trace f (Some x) p ps joined all (fact x y)
    above x y false = still c n trace f ps all

    known : (x : FileCopy) → IsCopy c trace f.me file x → (b : Bool) → same_stamp x.stamp stamp ≡ b → PullsFine c n trace f (elim b [ true ↦ sends (packet f from (body.Have file stamp) ∷ []) ps | false ↦ elim (is_below x.vector vector) [ true ↦ begins_pull f (Some x) p ps | false ↦ quiet ps ] ])
    known x y true e = record { told = tt; own = tt; view = all; sent = (record { started = t.started; has = has x y e }, tt); written = tt }
    known x y false e = above x y (is_below x.vector vector)

    over : (o : Option FileCopy) → o ≡ option_map (copy_for file) (held_version c (entries trace) f.me file) → ((x : FileCopy) → o ≡ Some x → IsCopy c trace f.me file x) → PullsFine c n trace f (on_notify f from o p ps)
    over None e are = begins_fine c n trace f None p ps joined all (noticed_whole c trace f.epoch f.me file k set size stamp vector holder (bare (held_version c (entries trace) f.me file) e) t)
    over (Some x) e are = known x (are x refl) (same_stamp x.stamp stamp) refl
