-- Closes and reports that come again change nothing, and are answered again.
use Rattle.std.proofs.Common.{◌≡◌, ℕ, Bool, true, false, List, [], ◌∷◌, Option, Some, None, refl}
use Rattle.locus_ids.specs.Sites.{has}
use Rattle.locus_ids.specs.declared.config.Config.{Config}
use Rattle.locus_ids.specs.declared.ids.Serial.{Serial}
use Rattle.wire_messages.specs.declared.body.Body.TheVariants as body
use Rattle.wire_messages.specs.declared.body.MadeVersion.{MadeVersion}
use Rattle.wire_messages.specs.declared.body.ReportedCopy.{ReportedCopy}
use Rattle.role_steps.specs.Opens.{open_key, open_row}
use Rattle.role_steps.specs.Reports.{closed_ok, closes_at, on_closed, on_closed_of, on_report, starts_if, with_report}
use Rattle.role_steps.specs.Views.{Frame, Outcome, packet, quiet, serial_key}
use Rattle.role_steps.specs.declared.synchronizing.OpenRow.{OpenRow}
use Rattle.role_steps.specs.declared.synchronizing.OpenStage.{OpenStage}
use Rattle.role_steps.specs.declared.synchronizing.OpenStage.TheVariants as stage
use Rattle.role_steps.specs.declared.synchronizing.SyncTable.{SyncTable}
use Rattle.the_run.specs.Worlds.{Line}
use Rattle.tree_laws.specs.Doing.{TableFine}
use Rattle.tree_laws.specs.Tables.{RowFact, StageFact, TableFact}
use Rattle.tree_laws.proofs.Syncs.Looks.{sends_fine}
use Rattle.tree_laws.proofs.Syncs.Rows.{row_every}

module _ (c : Config) (n : ℕ) (trace : List Line) (f : Frame) (tab : SyncTable) (k : TableFact c trace f tab) where
  -- ---- closes ----

  close_stage : (ss : ℕ) (made : Option MadeVersion) (r : OpenRow) (fact : RowFact c trace f.epoch tab.group r) (s : OpenStage) → StageFact c trace f.epoch r fact.call s → (s ≡ stage.Granted → ⊥) → TableFine c n trace f tab.group (closes_at f ss r made s tab)
  close_stage ss made r fact stage.Asked h first = sends_fine c n trace f tab [] tab refl k tt
  close_stage ss made r fact stage.Granted h first = absurd (first refl)
  close_stage ss made r fact (stage.Refused why) h first = sends_fine c n trace f tab [] tab refl k tt
  close_stage ss made r fact stage.Ended h first = sends_fine c n trace f tab (closed_ok f ss r.inst) tab refl k (h.1, tt)

  pub closed_again : (ss : ℕ) (inst : Serial) (made : Option MadeVersion) → ((r : OpenRow) → open_row tab inst ≡ Some r → r.stage ≡ stage.Granted → ⊥) → TableFine c n trace f tab.group (on_closed f ss inst made tab)
  closed_again ss inst made first = over (open_row tab inst) refl
    where
      over : (o : Option OpenRow) → open_row tab inst ≡ o → TableFine c n trace f tab.group (on_closed_of f ss made o tab)
      over None e = sends_fine c n trace f tab [] tab refl k tt
      over (Some r) e = (let fact : RowFact c trace f.epoch tab.group r = row_every (RowFact c trace f.epoch tab.group) open_key (serial_key inst) tab.opens r k.opens e in close_stage ss made r fact r.stage fact.stage (first r e))

  -- ---- reports ----

  pub reported_again : (from : ℕ) (copies : List ReportedCopy) → has tab.reported from ≡ true → TableFine c n trace f tab.group (on_report f from copies tab)
  reported_again from copies e = over (has tab.reported from) e
    where
      again : Outcome SyncTable → Outcome SyncTable
      again o = record { view = o.view; sent = packet f from (body.ReportOk tab.group) ∷ o.sent; told = o.told; written = o.written }

      over : (b : Bool) → b ≡ true → TableFine c n trace f tab.group (again (elim b [ true ↦ quiet tab | false ↦ starts_if f (with_report from copies tab) ]))
      over true z = sends_fine c n trace f tab (packet f from (body.ReportOk tab.group) ∷ []) tab refl k (tt, tt)
      over false z = absurd (none z)
        where
          none : false ≡ true → ⊥
          none w = cc
