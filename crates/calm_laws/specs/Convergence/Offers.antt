-- How a member comes to hold the only kept version of a file in a round: it has pulled it whole, and as many notices are under way to
-- it as there are files of which it could adopt a version before. Each notice that comes lets it adopt one.
use Rattle.std.specs.Prelude.{ℕ, ◌≡◌, ◌≤◌, ◌==◌, ◌⊎◌, Bool, true, false, ◌&&◌, nat_le, List, [], ◌∷◌, ◌++◌, length, Option, Some, None}
use Rattle.locus_ids.specs.Sites.{has}
use Rattle.locus_ids.specs.declared.config.Config.{Config}
use Rattle.locus_ids.specs.declared.ids.FileId.{FileId}
use Rattle.locus_ids.specs.declared.ids.Stamp.{Stamp}
use Rattle.file_content.specs.Pages.{pages_of}
use Rattle.wire_messages.specs.declared.body.Body.{Body}
use Rattle.wire_messages.specs.declared.body.Body.TheVariants as body
use Rattle.wire_messages.specs.declared.packet.Packet.{Packet}
use Rattle.role_steps.specs.Adoption.{has_mend}
use Rattle.role_steps.specs.Pulling.{pull_key, pull_of, is_complete, is_over, wanted_pages}
use Rattle.role_steps.specs.Storage.{copy_of, has_open, free_pages}
use Rattle.role_steps.specs.Versions.{is_below}
use Rattle.role_steps.specs.Views.{SiteView, boot_in, file_key}
use Rattle.role_steps.specs.declared.copies.FileCopy.{FileCopy}
use Rattle.role_steps.specs.declared.pulls.Pull.{Pull}
use Rattle.role_steps.specs.declared.rounds.InEpoch.{InEpoch}
use Rattle.role_steps.specs.declared.synchronizing.FileRow.{FileRow}
use Rattle.role_steps.specs.declared.synchronizing.VersionRow.{VersionRow}
use Rattle.the_run.specs.Kept.{Among}
use Rattle.the_run.specs.Steps.{is_framed}
use Rattle.the_run.specs.Worlds.{Running, Numbered}
use Rattle.run_laws.specs.Epochs.Known.{Places}
use Rattle.calm_laws.specs.Convergence.Copies.{Knows, HoldsTheOnly}

-- a version of a file that a member could adopt
pub record Offer : Type 0 where
  pub file : FileId
  pub stamp : Stamp
  pub vector : List ℕ

-- ---- notices under way ----

abbrev pub notice_in : Body → List Offer
notice_in (body.Notify file kind set size stamp vector holder) = record { file = file; stamp = stamp; vector = vector } ∷ []
notice_in _ = []

-- the member takes the packet
abbrev pub is_for : InEpoch → ℕ → Packet → Bool
is_for e s p = (p.to == s) && ((p.to_boot == boot_in e.members.boot s) && is_framed p (Some e))

abbrev pub names_to : Bool → Body → List Offer
names_to true b = notice_in b
names_to false b = []

abbrev pub names : InEpoch → ℕ → Packet → List Offer
names e s p = names_to (is_for e s p) p.body

-- the versions that the notices under way to the member name, one for each notice
abbrev pub named : InEpoch → ℕ → List Numbered → List Offer
named e s [] = []
named e s (x ∷ xs) = names e s x.packet ++ named e s xs

-- ---- what a member could adopt ----

-- the version is above the copy
abbrev pub is_above : List ℕ → Option FileCopy → Bool
is_above vector None = true
is_above vector (Some own) = is_below own.vector vector

-- it is the only kept version of its file, which is for the site
pub record IsToHold (c : Config) (e : InEpoch) (at : Places) (s : ℕ) (d : Offer) : Type 0 where
  pub file_known : FileRow
  pub known : Knows c e at d.file file_known
  pub version : VersionRow
  pub only : file_known.kept ≡ version ∷ []
  pub stamp : version.stamp ≡ d.stamp
  pub vector : version.vector ≡ d.vector
  pub in_set : has file_known.set s ≡ true

abbrev pub offer_of : Pull → Offer
offer_of p = record { file = p.file; stamp = p.stamp; vector = p.vector }

-- a version of the file with this key is pulled whole, above the copy
pub record HasWhole (v : SiteView) (k : ℕ) : Type 0 where
  pub pull : Pull
  pub there : Among pull v.pulls
  pub key : pull_key pull ≡ k
  pub whole : is_complete pull ≡ true
  pub above : is_above pull.vector (copy_of v.store pull.file) ≡ true

-- The site has no copy of the file, and a notice of it is under way: the version may have no pages, and is whole with the notice. (Over
-- a copy it is the holder that says which pages are to be pulled.)
pub record MayBegin (e : InEpoch) (under : List Numbered) (s : ℕ) (v : SiteView) (k : ℕ) : Type 0 where
  pub offer : Offer
  pub named : Among offer (named e s under)
  pub key : file_key offer.file ≡ k
  pub none : copy_of v.store offer.file ≡ None

abbrev pub MayAdopt : InEpoch → List Numbered → ℕ → SiteView → ℕ → Type 0
MayAdopt e under s v k = HasWhole v k ⊎ MayBegin e under s v k

-- there are as many notices under way to the site as such files, or more
pub record HasEnough (e : InEpoch) (under : List Numbered) (s : ℕ) (v : SiteView) : Type 0 where
  pub keys : List ℕ
  pub each : (k : ℕ) → MayAdopt e under s v k → Among k keys
  pub notices : length keys ≤ length (named e s under)

-- ---- how a version is on its way ----

-- the site has pulled the version whole over the copy that it has, and it is above that
pub record HasPulled (at : Places) (s : ℕ) (file : FileId) (v : VersionRow) : Type 0 where
  pub view : SiteView
  pub here : at s ≡ Some (Running view)
  pub pull : Pull
  pub found : pull_of view.pulls file ≡ Some pull
  pub whole : is_complete pull ≡ true
  pub is_file : pull.file ≡ file
  pub stamp : pull.stamp ≡ v.stamp
  pub vector : pull.vector ≡ v.vector
  -- the pages that were pulled are some of the version's
  pub few : length (wanted_pages pull) ≤ pages_of v.size
  pub over : is_over (copy_of view.store file) pull.base ≡ true
  pub above : is_above v.vector (copy_of view.store file) ≡ true

-- what lets the site adopt it at once: there is room, no instance of the file is open there, and no mend of it waits
pub record IsFree (at : Places) (s : ℕ) (file : FileId) (v : VersionRow) : Type 0 where
  pub view : SiteView
  pub here : at s ≡ Some (Running view)
  pub room : nat_le (pages_of v.size) (free_pages view.store file.group) ≡ true
  pub closed : has_open view.store file ≡ false
  pub unmended : has_mend view.users file ≡ false
