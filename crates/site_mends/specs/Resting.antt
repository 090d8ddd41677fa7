-- Groups in which no mend is wanted.
use Rattle.std.specs.Prelude.{◌≡◌, true, List, None}
use Rattle.std.specs.List.{AllByRecursion, list_any}
use Rattle.locus_ids.specs.declared.ids.FileId.{FileId}
use Rattle.commit_graph.specs.Versions.{same_file}
use Rattle.site_frame.specs.of_role_steps.Views.{SiteView, Users}
use Rattle.site_frame.specs.of_role_steps.Tables.{first_that}
use Rattle.site_frame.specs.of_role_steps.Mends.{wants_mend}
use Rattle.site_frame.specs.of_role_steps.declared.synchronizing.SyncTable.{SyncTable}

-- no directory of the group wants a mend, where the group has started
abbrev pub WantsNone : SiteView → SyncTable → Type 0
WantsNone v t = t.started ≡ true → first_that (wants_mend v t) t.files ≡ None

-- nor one of any group
abbrev pub IsAtRest : SiteView → List SyncTable → Type 0
IsAtRest v ts = AllByRecursion (WantsNone v) ts

-- no mend that was hopeless is hoped for
abbrev pub HopesLess : Users → Users → Type 0
HopesLess old new = (file : FileId) → list_any (same_file file) old.hopeless ≡ true → list_any (same_file file) new.hopeless ≡ true
