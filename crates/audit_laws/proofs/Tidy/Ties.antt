-- What refers to something finds it: before the first record, and by each that may follow.
use Rattle.std.proofs.Common.{◌≡◌, true}
use Rattle.locus_ids.specs.declared.config.Config.{Config}
use Rattle.trace_book.specs.declared.record.Record.{Record}
use Rattle.promises.specs.Past.{Past, nothing_yet}
use Rattle.promises.specs.After.{after}
use Rattle.promises.specs.Rows.{may_follow}
use Rattle.audit_laws.specs.Tidy.Ties.{TiesStand}
use Rattle.audit_laws.specs.Tidy.Tidy.{IsTidy}
use Rattle.audit_laws.proofs.Tidy.TiesSites.{tied_sites, tied_sites_first}
use Rattle.audit_laws.proofs.Tidy.TiesCalls.{tied_calls}
use Rattle.audit_laws.proofs.Tidy.TiesGrants.{tied_grants}

pub ties_first : (c : Config) → TiesStand (nothing_yet c)
ties_first c = record { sites = tied_sites_first c; calls = tt; grants = tt }

pub ties_next : (c : Config) (p : Past) (r : Record) → IsTidy c p → may_follow c p r ≡ true → TiesStand (after c r p)
ties_next c p r tidy may = record { sites = tied_sites c p r tidy tidy.ties may; calls = tied_calls c p r tidy tidy.ties may; grants = tied_grants c p r tidy tidy.ties may }
