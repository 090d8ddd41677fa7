-- What the steps of storage sites rest on, from all that was told so far.
use Rattle.std.proofs.Common.{◌≡◌, ◌≤◌, ◌<◌, ◌*◌, ℕ, ◌+◌, ◌&&◌, true, nat_le, nat_lt, List, Some, inl, inr, arith}
use Rattle.std.proofs.lemmas.Bool.Decides.{nat_tests}
use Rattle.role_steps.proofs.of_plain_facts.Tests.{and_first, and_second}
use Rattle.locus_ids.specs.declared.config.Config.{Config}
use Rattle.locus_ids.specs.declared.ids.EpochId.{EpochId}
use Rattle.locus_ids.specs.declared.ids.Serial.{Serial}
use Rattle.locus_ids.specs.Sizes.{inode_span, site_inodes, sites_max}
use Rattle.the_run.specs.Worlds.{Line}
use Rattle.tree_model.specs.declared.instance.Instance.{Instance}
use Rattle.tree_model.specs.Epochs.{epoch_of}
use Rattle.tree_model.specs.Histories.{history}
use Rattle.tree_model.specs.Opening.{is_given_by}
use Rattle.tree_model.specs.State.{is_named}
use Rattle.tree_model.specs.Tree.{tree_of}
use Rattle.lawful_trace.specs.TreeRows.{granted_group}
use Rattle.tree_laws.specs.Instances.{instance_now}
use Rattle.tree_laws.specs.Printed.{entries}
use Rattle.tree_laws.proofs.Rows.{followed_rows}
use Rattle.store_laws.proofs.of_tree_laws.Orders.Lists.{all_found}
use Rattle.store_laws.proofs.Holdings.OneVersionHomes.{IsRooted, rows_rooted}
use Rattle.store_laws.proofs.of_tree_laws.Syncs.Members.{inside_joined}
use Rattle.store_laws.specs.Rests.{OpRests, StoreRests}
use Rattle.store_laws.specs.StoragePlain.{PlainRests}
use Rattle.store_laws.proofs.StorageResting.{rests_hold}
use Rattle.store_laws.proofs.AnswerDone.{done_low}
use Rattle.store_laws.proofs.AnswerRemovers.{open_here, remover_opened}
use Rattle.store_laws.specs.OneTree.Rest.{Past}
use Rattle.store_laws.proofs.OneTree.Staying.{rest_below}
use Rattle.rest_laws.proofs.StoreStepKnown.{inside_site, known_call, stands_narrow}

-- ---- files of open instances ----

-- the numbers that a site gives have 16 bits
given_narrow : (site ino : ℕ) → site ≤ sites_max → is_given_by site ino ≡ true → ino < inode_span
given_narrow site ino high given = below (above (and_first (nat_le ino (site_inodes * site)) (nat_lt 1 ino) (and_second (nat_lt (site_inodes * site) (ino + site_inodes)) (nat_le ino (site_inodes * site) && nat_lt 1 ino) given)))
  where
    above : nat_le ino (site_inodes * site) ≡ true → ino ≤ site_inodes * site
    above e = grind (arith, nat_tests)

    below : ino ≤ site_inodes * site → ino < inode_span
    below low = omega (arith, low, high)

pub open_narrow : (c : Config) (t : List Line) → Past c t → (e : EpochId) (i : Serial) (x : Instance) → instance_now c t e i ≡ Some x → epoch_of (entries t) x.grant.ss ≡ Some e → x.grant.file.ino < inode_span
open_narrow c t past e i x found inside = over (all_found (IsRooted (history c (entries t))) (is_named i) (tree_of c e (granted_group (entries t) e i) (entries t)).instances x (rows_rooted c (entries t) (followed_rows c t past.followed) e (granted_group (entries t) e i)) found)
  where
    over : IsRooted (history c (entries t)) x → x.grant.file.ino < inode_span
    over (inl k) = stands_narrow c t past.rest.each x.grant.file k.0 k.1
    over (inr k) = given_narrow x.grant.ss x.grant.file.ino (inside_site c t past.rest.each x.grant.ss e inside).high k

-- ---- all ----

pub plain_rests : (c : Config) (t : List Line) → Past c t → PlainRests c t
plain_rests c t past = record {
  narrow = λ f stamp stands. stands_narrow c t past.rest.each f stamp stands;
  places = λ e site inside. ((inside_site c t past.rest.each site e inside).low, (inside_site c t past.rest.each site e inside).high);
  sites = λ e d k. (known_call c t past.followed past.rest.each d k.accepted k.named).site.high;
}

pub store_rests : (c : Config) (t : List Line) → Past c t → StoreRests c t
store_rests c t past = rests_hold c t past.followed (rest_below c t past.rest) (plain_rests c t past)

pub op_rests : (c : Config) (t : List Line) → Past c t → OpRests c t
op_rests c t past = record {
  joined = λ e site inside. inside_joined c t past.followed site e inside;
  here = λ e group i x found. open_here c t past.followed e group i x found;
  done = λ e i number o r x was found. done_low c t past.followed e i number o r x was found;
  removers = λ e i x d number name ino found owner asks. remover_opened c t past.followed e i x d number name ino found owner asks;
  numbers = λ e i x found inside. open_narrow c t past e i x found inside;
}
