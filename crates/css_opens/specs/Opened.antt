-- How an entry of the table of opens is seen.
use Rattle.std.specs.Prelude.{ℕ}
use Rattle.keyed_tables.specs.of_role_steps.declared.synchronizing.OpenRow.{OpenRow}
use Rattle.keyed_tables.specs.of_role_steps.declared.synchronizing.OpenStage.{OpenStage}
use Rattle.keyed_tables.specs.of_role_steps.declared.synchronizing.OpenStage.TheVariants as stage
use Rattle.css_opens.specs.declared.entry.Progress.{Progress}
use Rattle.css_opens.specs.declared.entry.Progress.TheVariants.{Denied, Asked, Granted, Refused, Ended}
use Rattle.css_opens.specs.declared.entry.OpenEntry.TheInside.{Inside}

abbrev pub stage_of : Progress → OpenStage
stage_of (Denied why) = stage.Refused why
stage_of Asked = stage.Asked
stage_of Granted = stage.Granted
stage_of (Refused why) = stage.Refused why
stage_of Ended = stage.Ended

-- the storage site, or 0 where none was asked
abbrev pub storage_site : Progress → ℕ → ℕ
storage_site (Denied why) ss = 0
storage_site _ ss = ss

abbrev pub open_row_of : Inside → OpenRow
open_row_of e = record {
  inst = record { us = e.us; serial = e.serial };
  call = e.call;
  process = e.process;
  request = e.request;
  mode = e.mode;
  file = e.file;
  stage = stage_of e.progress;
  ss = storage_site e.progress e.ss;
  stamp = e.stamp;
  vector = e.vector;
  parents = e.parents;
  set = e.set;
  kind = e.kind;
  size = e.size;
}
