-- What is pulled, and what members are notified of.
use Rattle.std.specs.Prelude.{ℕ, ◌≡◌, ◌<◌, ◌≤◌, true, false, length}
use Rattle.locus_ids.specs.declared.config.Config.{Config}
use Rattle.wire_messages.specs.declared.body.Body.{Body}
use Rattle.wire_messages.specs.declared.body.Body.TheVariants as body
use Rattle.file_content.specs.Pages.{has_page, pages_of}
use Rattle.stored_versions.specs.Versions.{IsVersion}
use Rattle.role_steps.specs.Adoption.{fits_own}
use Rattle.role_steps.specs.Pulling.{bytes_in, is_complete, wanted_pages}
use Rattle.role_steps.specs.Storage.{content_of, copy_of}
use Rattle.role_steps.specs.Views.{Store}
use Rattle.role_steps.specs.declared.pulls.Pull.{Pull}
use Rattle.site_laws.specs.Packs.Packs.{HasPack}
use Rattle.rest_laws.specs.Fits.Inodes.{IsInodeNumber}

-- What is pulled may be adopted here once it is complete and fits the site's own copy: the site has a pack of the group, a slot may say
-- the version, and of each page that wasn't pulled this copy has the bytes.
pub record FitsPull (c : Config) (me : ℕ) (s : Store) (p : Pull) : Type 0 where
  pub packed : HasPack c p.file.group me
  pub number : IsInodeNumber p.file.ino
  pub version : IsVersion (record { kind = p.kind; set = p.set; stamp = p.stamp; vector = p.vector }) p.size
  pub kept : is_complete p ≡ true → fits_own p (copy_of s p.file) ≡ true → (page : ℕ) → page < pages_of p.size → has_page (wanted_pages p) page ≡ false → bytes_in p.size page ≤ bytes_in (length (content_of (copy_of s p.file))) page

-- a notice is of a version that a slot may say, of a group of which its receiver has a pack
abbrev pub NoticeFits : Config → ℕ → Body → Type 0
NoticeFits c to (body.Notify file kind set size stamp vector holder) = HasPack c file.group to × IsInodeNumber file.ino × IsVersion (record { kind = kind; set = set; stamp = stamp; vector = vector }) size
NoticeFits c to _ = Unit {0}
