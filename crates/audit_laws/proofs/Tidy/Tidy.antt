-- The past is tidy before the first record, and by each that may follow.
use Rattle.std.proofs.Common.{◌≡◌, true}
use Rattle.locus_ids.specs.declared.config.Config.{Config}
use Rattle.trace_book.specs.declared.record.Record.{Record}
use Rattle.promises.specs.Past.{Past, nothing_yet}
use Rattle.promises.specs.After.{after}
use Rattle.promises.specs.Rows.{may_follow}
use Rattle.audit_laws.specs.Tidy.Tidy.{IsTidy}
use Rattle.audit_laws.proofs.Tidy.CallsNext.{calls_first, calls_next}
use Rattle.audit_laws.proofs.Tidy.EpochsNext.{epochs_first, epochs_next}
use Rattle.audit_laws.proofs.Tidy.Makings.{files_first, files_next}
use Rattle.audit_laws.proofs.Tidy.Sites.{sites_first, sites_next}
use Rattle.audit_laws.proofs.Tidy.Ties.{ties_first, ties_next}
use Rattle.audit_laws.proofs.Tidy.Users.{users_first, users_next}

pub tidy_first : (c : Config) → IsTidy c (nothing_yet c)
tidy_first c = record { sites = sites_first c; epochs = epochs_first c; calls = calls_first c; ties = ties_first c; users = users_first c; files = files_first c }

pub tidy_next : (c : Config) (p : Past) (r : Record) → IsTidy c p → may_follow c p r ≡ true → IsTidy c (after c r p)
tidy_next c p r tidy may = record { sites = sites_next c p r tidy may; epochs = epochs_next c p r tidy may; calls = calls_next c p r tidy may; ties = ties_next c p r tidy may; users = users_next c p r tidy may; files = files_next c p r tidy may }
