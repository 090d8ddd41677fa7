-- A world of a run in which all members of an epoch that run are in it, whichever circuits are cut: what stands of it by the one tree, and
-- of a file that is at rest.
use Rattle.std.proofs.Common.{Bool, List, None, Option, Some, ap, arith, false, inl, inr, length, nat_le, nat_lt, refl, subst, sym, true, ℕ, ◌&&◌, ◌*◌, ◌++◌, ◌+◌, ◌<◌, ◌∙◌, ◌≡◌, ◌≤◌, ◌⊎◌}
use Rattle.std.proofs.lemmas.Bool.Decides.{nat_tests}
use Rattle.std.specs.Option.{option_map}
use Rattle.calm_laws.proofs.Delivered.{inside_fact}
use Rattle.calm_laws.proofs.Facts.{RoundFacts, round_facts}
use Rattle.calm_laws.proofs.Lists.{every_among}
use Rattle.calm_laws.proofs.Rounds.{in_round}
use Rattle.calm_laws.proofs.Ticks.{no_round}
use Rattle.rest_laws.proofs.StoreStepKnown.{inside_site, stands_narrow}
use Rattle.rest_laws.proofs.StoreStepResting.{open_narrow}
use Rattle.calm_laws.specs.Carrying.{IsMember, frame_of}
use Rattle.calm_laws.specs.Rounds.{IsInRound}
use Rattle.calm_laws.proofs.Convergence.Coming.{inside_view}
use Rattle.calm_laws.proofs.Convergence.CommitsRising.{copies_rise, copy_held}
use Rattle.calm_laws.proofs.Convergence.Resting.{RestsBy, it_or_below, kept_known, last_offer, none_open, not_over}
use Rattle.calm_laws.proofs.Convergence.Vectors.{never_below}
use Rattle.calm_laws.specs.Convergence.Copies.{HoldsTheOnly}
use Rattle.calm_laws.specs.Convergence.Offers.{Offer, is_above, offer_of}
use Rattle.run_laws.proofs.Epochs.Run.{first_good, good_kept}
use Rattle.run_laws.specs.Epochs.Known.{Good}
use Rattle.locus_ids.specs.Sizes.{inode_span, site_inodes, sites_max}
use Rattle.locus_ids.specs.declared.config.Config.{Config}
use Rattle.locus_ids.specs.declared.ids.EpochId.{EpochId}
use Rattle.locus_ids.specs.declared.ids.FileId.{FileId}
use Rattle.locus_ids.specs.declared.ids.Kind.{Kind}
use Rattle.locus_ids.specs.declared.ids.Stamp.{Stamp}
use Rattle.locus_ids.specs.declared.sites.Sites.{Sites}
use Rattle.row_laws.specs.Orderly.Calm.{AreTogether}
use Rattle.calm_laws.proofs.Pulls.Ascending.{ascend_kept, first_ascend}
use Rattle.store_laws.proofs.Holdings.Below.{packs_hold}
use Rattle.store_laws.proofs.Holdings.Holding.{known_or_ahead}
use Rattle.store_laws.proofs.Holdings.OneVersionMakes.{Free, free_or_named}
use Rattle.store_laws.proofs.OneTree.Run.{sent_fact}
use Rattle.store_laws.proofs.OneTree.Staying.{rest_below}
use Rattle.calm_laws.specs.Pulls.Known.{written}
use Rattle.calm_laws.specs.Pulls.Pulls.{PullsAscend}
use Rattle.store_laws.specs.Holdings.Held.{IsKnownOrAhead}
use Rattle.store_laws.specs.OneTree.Places.{InsideFact}
use Rattle.store_laws.specs.OneTree.Rest.{Past}
use Rattle.role_steps.proofs.of_plain_facts.Options.{none_some, some_same}
use Rattle.role_steps.proofs.of_plain_facts.Tests.{and_first, and_second, true_false}
use Rattle.role_steps.specs.Storage.{copy_of}
use Rattle.role_steps.specs.Versions.{is_below}
use Rattle.role_steps.specs.Views.{SiteView, boot_in, file_key}
use Rattle.role_steps.specs.declared.copies.FileCopy.{FileCopy}
use Rattle.role_steps.specs.declared.instances.Instance.{Instance}
use Rattle.role_steps.specs.declared.instances.Stage.TheVariants as stage
use Rattle.role_steps.specs.declared.pulls.Pull.{Pull}
use Rattle.role_steps.specs.declared.rounds.InEpoch.{InEpoch}
use Rattle.role_steps.specs.declared.synchronizing.VersionRow.{VersionRow}
use Rattle.schedule_lines.specs.declared.line.ScheduleLine.{ScheduleLine}
use Rattle.the_run.specs.Kept.{Among, WasSent}
use Rattle.the_run.specs.Worlds.{Line, Numbered, Running, World, place_at}
use Rattle.tree_laws.specs.Instances.{IsKnown, held_in}
use Rattle.tree_laws.specs.Packets.{BodyFact, PacketFact}
use Rattle.tree_laws.specs.Past.{WasNamed}
use Rattle.tree_laws.specs.Printed.{entries}
use Rattle.tree_laws.specs.Stores.{InstanceFact, PullFact, RunsAs, StageFact, copy_for}
use Rattle.tree_laws.specs.Tables.{IsAhead}
use Rattle.tree_model.specs.Epochs.{epoch_of}
use Rattle.tree_model.specs.Files.{HeldVersion, version_of}
use Rattle.tree_model.specs.Opening.{is_given_by}
use Rattle.wire_messages.specs.declared.body.Body.TheVariants as body
use Rattle.wire_messages.specs.declared.packet.Packet.{Packet}

pub record Midst (c : Config) (e : InEpoch) (w : World) : Type 0 where
  pub past : Past c w.trace
  pub good : Good w
  pub groups : length c.packs ≤ 4
  -- a member that runs is in the epoch
  pub stays : (s : ℕ) (v : SiteView) → IsMember e s → place_at w s ≡ Some (Running v) → (v.epoch ≡ Some e) × (v.boot ≡ boot_in e.members.boot s)
  pub site : (s : ℕ) (v : SiteView) → IsMember e s → place_at w s ≡ Some (Running v) → InsideFact c (frame_of c e s) w.trace v
  pub packets : (x : Numbered) → WasSent w x → PacketFact c w.trace x.packet
  pub ascend : PullsAscend w

pub past_of_round : (c : Config) (w : World) → RoundFacts c w → Past c w.trace
past_of_round c w facts = record { followed = facts.fact.followed; rest = facts.rest }

pub good_in : (c : Config) (lines : List ScheduleLine) (n : ℕ) (w : World) → IsInRound c lines n w → Good w
good_in c lines n w h = in_round c Good (good_kept c) (first_good c) lines n w h

-- a world of a round is such
pub midst_in : (c : Config) (lines : List ScheduleLine) (n : ℕ) (e : InEpoch) (w : World) → IsInRound c lines n w → AreTogether w e → Midst c e w
midst_in c lines n e w round together = record {
  past = past_of_round c w facts;
  good = good_in c lines n w round;
  groups = round.groups;
  stays = λ s v m here. inside_view e w s v (together.inside s m) here;
  site = λ s v m here. inside_fact c e w s v facts.fact together m here;
  packets = λ x sent. sent_fact c w x facts.fact sent;
  ascend = in_round c PullsAscend (ascend_kept c) (first_ascend c) lines n w round;
}
  where
    facts : RoundFacts c w
    facts = round_facts c lines n w round

pub round_none : (c : Config) (e : InEpoch) (w : World) → Midst c e w → (s : ℕ) (v : SiteView) → IsMember e s → place_at w s ≡ Some (Running v) → v.round ≡ None
round_none c e w k s v m here = no_round w s v e k.good here (k.stays s v m here).0

pub pull_in : (c : Config) (e : InEpoch) (w : World) → Midst c e w → (s : ℕ) (v : SiteView) → IsMember e s → place_at w s ≡ Some (Running v) → (p : Pull) → Among p v.pulls → PullFact c w.trace e.id s p
pull_in c e w k s v m here p a = every_among (PullFact c w.trace e.id s) p v.pulls a (k.site s v m here).pulls

-- ---- pulls ----

-- what is pulled is known, with its written vector
pub pull_written : (c : Config) (t : List Line) (e : EpochId) (m : ℕ) (p : Pull) → PullFact c t e m p → p.vector ≡ written c t p.file p.stamp
pull_written c t e m p f = sym f.vector_is ∙ (ap (λ (v : HeldVersion). v.vector) f.is_version.same ∙ ap (written c t p.file) f.stamp_is)

pub pull_narrow : (c : Config) (t : List Line) → Past c t → (e : EpochId) (m : ℕ) (p : Pull) → PullFact c t e m p → p.file.ino < inode_span
pull_narrow c t past e m p f = stands_narrow c t past.rest.each p.file f.version.stamp f.is_version.stands

pub file_of_key : (a b : FileId) → a.ino < inode_span → b.ino < inode_span → file_key a ≡ file_key b → a ≡ b
file_of_key a b low high e = λ i. record { group = group_is i; ino = ino_is i }
  where
    keys : a.group * inode_span + a.ino ≡ b.group * inode_span + b.ino
    keys = e

    group_is : a.group ≡ b.group
    group_is = omega (arith, low, high, keys)

    ino_is : a.ino ≡ b.ino
    ino_is = omega (arith, low, high, keys)

-- ---- copies rise ----

-- what is not above a copy isn't above a later one
pub low_stays : (c : Config) (e : InEpoch) (w u : World) (lines : List Line) → Midst c e w → Midst c e u → u.trace ≡ lines ++ w.trace → (s : ℕ) → IsMember e s → (v z : SiteView) → place_at w s ≡ Some (Running v) → place_at u s ≡ Some (Running z) → (file : FileId) → file.ino < inode_span → (x : List ℕ) →
    is_above x (copy_of v.store file) ≡ false → is_above x (copy_of z.store file) ≡ false
low_stays c e w u lines k j goes s m v z here there file narrow x low = over (is_above x (copy_of z.store file)) refl
  where
    over : (b : Bool) → is_above x (copy_of z.store file) ≡ b → is_above x (copy_of z.store file) ≡ false
    over false q = q
    over true q = absurd (true_false (sym (copies_rise c e w u lines s v z file k.past j.past goes (k.site s v m here) (j.site s z m there) narrow x q) ∙ low))

-- a site that has a copy has one later
pub copy_stays : (c : Config) (e : InEpoch) (w u : World) (lines : List Line) → Midst c e w → Midst c e u → u.trace ≡ lines ++ w.trace → (s : ℕ) → IsMember e s → (v z : SiteView) → place_at w s ≡ Some (Running v) → place_at u s ≡ Some (Running z) → (file : FileId) → file.ino < inode_span →
    copy_of z.store file ≡ None → copy_of v.store file ≡ None
copy_stays c e w u lines k j goes s m v z here there file narrow none = over (copy_of v.store file) refl
  where
    over : (o : Option FileCopy) → copy_of v.store file ≡ o → copy_of v.store file ≡ None
    over None q = q
    over (Some x) q = absurd (true_false (sym (ap (is_above x.vector) none) ∙ low_stays c e w u lines k j goes s m v z here there file narrow x.vector (ap (is_above x.vector) q ∙ never_below x.vector)))

-- ---- numbers that a site gives ----

given_narrow : (site ino : ℕ) → site ≤ sites_max → is_given_by site ino ≡ true → ino < inode_span
given_narrow site ino high given = below (above (and_first (nat_le ino (site_inodes * site)) (nat_lt 1 ino) (and_second (nat_lt (site_inodes * site) (ino + site_inodes)) (nat_le ino (site_inodes * site) && nat_lt 1 ino) given)))
  where
    above : nat_le ino (site_inodes * site) ≡ true → ino ≤ site_inodes * site
    above e = grind (arith, nat_tests)

    below : ino ≤ site_inodes * site → ino < inode_span
    below low = omega (arith, low, high)

-- ---- a file at rest ----

module _ (c : Config) (e : InEpoch) (w : World) (k : Midst c e w) (file : FileId) (v : VersionRow) (s : ℕ) (rests : RestsBy c e file v s w.trace) (member : IsMember e s) where
  abbrev t : List Line
  t = w.trace

  abbrev d : Offer
  d = last_offer file v

  pub narrow_in : file.ino < inode_span
  narrow_in = stands_narrow c t rests.past.rest.each file v.stamp rests.kept.stands

  -- no version above it is named by a packet of the epoch, or pulled
  pub known_low : (f : FileId) (q : Stamp) (vector : List ℕ) → f.ino < inode_span → file_key f ≡ file_key file → IsKnown c t e.id f q → vector ≡ written c t f q → is_below v.vector vector ≡ false
  known_low f q vector low key known is = not_over c t rests.past e d rests.kept q vector (subst (λ (i : FileId). IsKnown c t e.id i q) same known) (is ∙ ap (λ (i : FileId). written c t i q) same)
    where
      same : f ≡ file
      same = file_of_key f file low narrow_in key

  pub notice_low : (p : Packet) (about : FileId) (what : Kind) (sites : Sites) (size : ℕ) (stamp : Stamp) (vector : List ℕ) (holder : ℕ) → p.epoch ≡ e.id → BodyFact c t p (body.Notify about what sites size stamp vector holder) → file_key about ≡ file_key file → is_below v.vector vector ≡ false
  notice_low p about what sites size stamp vector holder inside f key = known_low about stamp vector (stands_narrow c t rests.past.rest.each about f.version.stamp f.is_version.stands) key (subst (λ (i : EpochId). IsKnown c t i about stamp) inside f.known)
      (sym f.vector_is ∙ (ap (λ (x : HeldVersion). x.vector) f.is_version.same ∙ ap (written c t about) f.stamp_is))

  -- a pull of the file that isn't below it is of it
  pub pull_is : (view : SiteView) (p : Pull) → place_at w s ≡ Some (Running view) → Among p view.pulls → file_key p.file ≡ file_key file → is_below p.vector v.vector ≡ false → offer_of p ≡ d
  pull_is view p here a key high = λ i. record { file = same i; stamp = both.0 i; vector = both.1 i }
    where
      f : PullFact c t e.id s p
      f = pull_in c e w k s view member here p a

      same : p.file ≡ file
      same = file_of_key p.file file (pull_narrow c t rests.past e.id s p f) narrow_in key

      both : (p.stamp ≡ v.stamp) × (p.vector ≡ v.vector)
      both = it_or_below c t rests.past e d rests.kept p.stamp p.vector (subst (λ (i : FileId). IsKnown c t e.id i p.stamp) same f.known) (pull_written c t e.id s p f ∙ ap (λ (i : FileId). written c t i p.stamp) same) high

  -- ---- copies of it ----

  is_copy : (view : SiteView) → place_at w s ≡ Some (Running view) → copy_of view.store file ≡ option_map (copy_for file) (option_map (version_of c (entries t) file) (held_in c (entries t) e.id s file))
  is_copy view here = copy_held c e s view file t k.past (k.site s view member here) narrow_in

  none_ahead : IsAhead c t e.id s file → ⊥
  none_ahead a = none_open c e file t rests.past.followed rests.shut a.inst a.at a.open_at.found a.file_is

  -- a copy that isn't below it is it
  pub holds_it : (view : SiteView) → place_at w s ≡ Some (Running view) → is_above v.vector (copy_of view.store file) ≡ false → HoldsTheOnly (place_at w) s file v
  holds_it view here low = by_held (held_in c (entries t) e.id s file) refl (is_copy view here)
    where
      is_so : Option Stamp → Option FileCopy
      is_so o = option_map (copy_for file) (option_map (version_of c (entries t) file) o)

      by_held : (o : Option Stamp) → held_in c (entries t) e.id s file ≡ o → copy_of view.store file ≡ is_so (held_in c (entries t) e.id s file) → HoldsTheOnly (place_at w) s file v
      by_held None h eq = absurd (true_false (sym (ap (is_above v.vector) (eq ∙ ap is_so h)) ∙ low))
      by_held (Some now) h eq = by_known (known_or_ahead c t rests.past.followed (packs_hold c t (rest_below c t rests.past.rest).packed) e.id s file now h)
        where
          found : copy_of view.store file ≡ Some (copy_for file (version_of c (entries t) file now))
          found = eq ∙ ap is_so h

          by_known : IsKnownOrAhead c t e.id s file now → HoldsTheOnly (place_at w) s file v
          by_known (inl known) = (let q : (now ≡ v.stamp) × (written c t file now ≡ v.vector) = it_or_below c t rests.past e d rests.kept now (written c t file now) known refl (sym (ap (is_above v.vector) found) ∙ low) in
              record { view = view; here = here; copy = copy_for file (version_of c (entries t) file now); found = found; stamp = q.0; vector = q.1 })
          by_known (inr ahead) = absurd (none_ahead ahead)

  -- a copy with its stamp isn't below it
  pub same_low : (view : SiteView) (x : FileCopy) → place_at w s ≡ Some (Running view) → copy_of view.store file ≡ Some x → x.stamp ≡ v.stamp → is_above v.vector (copy_of view.store file) ≡ false
  same_low view x here found same = ap (is_above v.vector) found ∙ (ap (λ (y : List ℕ). is_below y v.vector) vector ∙ never_below v.vector)
    where
      Written : Option FileCopy → Type 0
      Written o = (z : FileCopy) → o ≡ Some z → z.vector ≡ written c t file z.stamp

      by_held : (o : Option Stamp) → Written (option_map (copy_for file) (option_map (version_of c (entries t) file) o))
      by_held None z q = absurd (none_some z q)
      by_held (Some now) z q = subst (λ (y : FileCopy). y.vector ≡ written c t file y.stamp) (some_same (copy_for file (version_of c (entries t) file now)) z q) refl

      vector : x.vector ≡ v.vector
      vector = by_held (held_in c (entries t) e.id s file) x (sym (is_copy view here) ∙ found) ∙ (ap (written c t file) same ∙ sym rests.kept.vector)

  -- ---- instances of it ----

  -- none of it runs at the site
  pub none_runs : (view : SiteView) → place_at w s ≡ Some (Running view) → (i : Instance) → Among i view.store.instances → file_key i.file ≡ file_key file → i.stage ≡ stage.Running → ⊥
  none_runs view here i a key runs = by_run (subst (StageFact c t (frame_of c e s) i) runs fact.stage).0
    where
      mine : InsideFact c (frame_of c e s) t view
      mine = k.site s view member here

      fact : InstanceFact c t (frame_of c e s) i
      fact = every_among (InstanceFact c t (frame_of c e s)) i view.store.instances a mine.store.instances.instances

      is_file : i.file.ino < inode_span → i.file ≡ file
      is_file low = file_of_key i.file file low narrow_in key

      unnamed : (WasNamed t e.id i.inst → ⊥) → ⊥
      unnamed none = over (free_or_named c t rests.past.rest.packs rests.past.followed s e.id i.inst i.file fact.begun)
        where
          over : WasNamed t e.id i.inst ⊎ Free c t s e.id i.file → ⊥
          over (inl named) = none named
          over (inr free) = free.known v.stamp (subst (λ (f : FileId). IsKnown c t e.id f v.stamp) (sym (is_file (given_narrow s i.file.ino (inside_site c t rests.past.rest.each s e.id mine.frame.inside).high free.given))) (kept_known c e file v.stamp t rests.kept.only))

      by_run : RunsAs c t (frame_of c e s) i → ⊥
      by_run (inl x) = none_open c e file t rests.past.followed rests.shut i.inst x.0 x.1.open_at.found (x.1.file_is ∙ is_file low)
        where
          low : i.file.ino < inode_span
          low = subst (λ (f : FileId). f.ino < inode_span) x.1.file_is (open_narrow c t rests.past e.id i.inst x.0 x.1.open_at.found (ap (epoch_of (entries t)) x.1.open_at.place ∙ mine.frame.inside))
      by_run (inr waits) = unnamed waits.unnamed
