-- A mend in the epoch that a site is in.
use Rattle.std.specs.Prelude.{ℕ, Bool, not, ◌&&◌}
use Rattle.std.specs.List.{list_any}
use Rattle.locus_ids.specs.declared.config.Config.{Config}
use Rattle.locus_ids.specs.declared.ids.FileId.{FileId}
use Rattle.commit_graph.specs.Versions.{same_file}
use Rattle.promises.specs.Past.{Past, Epoch, Instance, is_number, sync_of}
use Rattle.promises.specs.Rows.{is_mend_wanted}

-- a site that is in the epoch may mend the directory there
abbrev pub mends_in : Config → Past → ℕ → FileId → Epoch → Bool
mends_in c p site f t =
    is_number (sync_of c t f.group) site
    && (is_number t.started f.group
    && (not (list_any (λ (x : Instance). same_file x.grant.file f) t.opened)
    && (not (list_any (same_file f) t.unmended)
    && is_mend_wanted p t site f)))
