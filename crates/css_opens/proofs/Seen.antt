-- An open instance has a storage site.
use Rattle.std.proofs.Common.{◌≡◌, ℕ, true, refl}
use Rattle.keyed_tables.specs.of_role_steps.Opens.{is_open_stage}
use Rattle.css_opens.specs.declared.entry.Progress.{Progress}
use Rattle.css_opens.specs.declared.entry.Progress.TheVariants.{Denied, Asked, Granted, Refused, Ended}
use Rattle.css_opens.specs.Opened.{stage_of, storage_site}

pub open_site : (p : Progress) (ss : ℕ) → is_open_stage (stage_of p) ≡ true → storage_site p ss ≡ ss
open_site (Denied why) ss e = absurd (cc)
open_site Asked ss e = refl
open_site Granted ss e = refl
open_site (Refused why) ss e = refl
open_site Ended ss e = refl
